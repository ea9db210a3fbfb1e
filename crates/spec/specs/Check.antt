-- The whole answer: number, line, bytes, reports, rounds, and the report buffer at exit. 01: Refused because of the state; The report.
-- To a reader: definitions, pinned by Meaning.Meaning and Refusals.Refusals (proved in proofs/Meaning, proofs/Refusals); limits, records, printed to believe.
use Rattle.std.specs.Prelude.{Bool, true, false, ◌||◌, List, [], ◌∷◌, ◌++◌, map, ℕ, zero, suc, ◌+◌, length, drop, replicate, eqb, ltb}
use Rattle.spec.specs.Bytes.{Bytes, bytes, show_number, show_form}
use Rattle.spec.specs.Syntax.{Module, Design}
use Rattle.spec.specs.Refusal.{Verdict, well_formed, refused, refusal, decode, has_name}
use Rattle.spec.specs.Value.{Names, own_vals, name_table, is_outside}
use Rattle.spec.specs.Collect.{collection}
use Rattle.spec.specs.Site.{Site, sites, lines_outside, sites_of, Misused, misuses, once_a_name, misused_names, Conflict, conflicts, conflict_names, Output, outputs, Coverage, coverage, deciding_width, never as never_driven, fully, gap as gap_at}
use Rattle.spec.specs.Block.{Pair, pairs, block_count, Storage, regs, mems}
use Rattle.spec.specs.Edge.{Node, Head, over_graph}
use Rattle.spec.specs.Summary.{Kept, module_heads}
use Rattle.spec.specs.FindCycles.{start_of, find_cycles}
use Rattle.spec.specs.Report.{misused, many, never, gap, no_block, blocks, mem_blocks, Report, report, loop_report, show_reports}

-- 01, Refused because of the state: in one module 1,024 sites.
abbrev pub site_limit : ℕ
site_limit = 1024

-- 01, Refused because of the state: in one module 512 pairs of name and block.
abbrev pub pair_limit : ℕ
pair_limit = 512

-- 01, The report: collection.
unfoldable pub misuse_reports : ℕ → List Misused → List Report
misuse_reports m [] = []
misuse_reports m (x ∷ xs) = report m x.start x.name (misused x.misuse) ∷ misuse_reports m xs

-- 01, The site: a conflict gives E0501 `many` at the later site.
unfoldable pub conflict_reports : ℕ → List Conflict → List Report
conflict_reports m [] = []
conflict_reports m (c ∷ cs) = report m c.start c.name many ∷ conflict_reports m cs

-- 01, The site: E0502 `never` or `gap`, at the first port line.
abbrev pub coverage_report : ℕ → Output → Coverage → List Report
coverage_report m o never_driven = report m o.start o.name never ∷ []
coverage_report m o fully = []
coverage_report m o (gap_at b) = report m o.start o.name (gap b) ∷ []

-- 01, The site: a poisoned name gets no other report but loops.
unfoldable pub output_reports : ℕ → Names → List ℕ → List Site → List Output → List Report
output_reports m names poisoned ss [] = []
output_reports m names poisoned ss (o ∷ os) =
    elim (has_name o.name poisoned) [
      | true ↦ output_reports m names poisoned ss os
      | false ↦ coverage_report m o (coverage names (sites_of o.name ss) o.width) ++ output_reports m names poisoned ss os
    ]

-- 01, Refused because of the state: a width that decides coverage is evaluated outside INT.
unfoldable pub widths_out : Names → List ℕ → List Site → List Output → Bool
widths_out names poisoned ss [] = false
widths_out names poisoned ss (o ∷ os) =
    elim (has_name o.name poisoned) [
      | true ↦ widths_out names poisoned ss os
      | false ↦ is_outside (deciding_width names (sites_of o.name ss) o.width) || widths_out names poisoned ss os
    ]

-- 01, The block: reg with no block E0503 `none`, several `blocks`.
abbrev pub reg_report : ℕ → Storage → ℕ → List Report
reg_report m r zero = report m r.start r.name no_block ∷ []
reg_report m r (suc zero) = []
reg_report m r (suc (suc n)) = report m r.start r.name blocks ∷ []

-- 01, The block: mem several `memblocks`, none allowed.
abbrev pub mem_report : ℕ → Storage → ℕ → List Report
mem_report m r zero = []
mem_report m r (suc zero) = []
mem_report m r (suc (suc n)) = report m r.start r.name mem_blocks ∷ []

-- 01, The block: the reports of regs or mems. 01, The site: a poisoned name gets no other report but loops.
unfoldable pub storage_reports : (Storage → ℕ → List Report) → List ℕ → List Pair → List Storage → List Report
storage_reports f poisoned ps [] = []
storage_reports f poisoned ps (r ∷ rs) =
    elim (has_name r.name poisoned) [
      | true ↦ storage_reports f poisoned ps rs
      | false ↦ f r (block_count r.name ps) ++ storage_reports f poisoned ps rs
    ]

-- 01, The walk: a report at that node's START.
unfoldable pub loop_reports : ℕ → List Head → List (List Node) → List Report
loop_reports m hs [] = []
loop_reports m hs ([] ∷ ws) = loop_reports m hs ws
loop_reports m hs ((n ∷ w) ∷ ws) = loop_report m (start_of hs n) (n ∷ w) ∷ loop_reports m hs ws

-- 01, Refused because of the state: what the check of a module gives: its reports and rounds, the summaries kept then, and whether the
-- answer is 20.
pub record Checked : Type 0 where
  pub reports : List Report
  pub rounds : ℕ
  pub kept : Kept
  pub full : Bool

-- 01, The report: within one: collection, conflicts by START then name, outputs, regs, mems, loops.
unfoldable pub check_module_drivers : Design → Kept → ℕ → Module → Checked
check_module_drivers d kept m k =
    let vals = own_vals k in
    let table = name_table vals k in
    let names = table.names in
    let c = collection vals k in
    let lines = c.lines in
    let ss = sites k.bound k.header lines in
    let ps = pairs k.header lines in
    let ms = once_a_name [] (misuses k.header lines) in
    let misuse_poison = misused_names ms in
    let cs = conflicts misuse_poison ss ss in
    let poisoned = conflict_names cs ++ misuse_poison in
    let os = outputs lines in
    let h = module_heads d kept k lines in
    record {
      reports =
          misuse_reports m ms ++ conflict_reports m cs ++ output_reports m names poisoned ss os
          ++ storage_reports (reg_report m) poisoned ps (regs lines) ++ storage_reports (mem_report m) poisoned ps (mems lines)
          ++ loop_reports m h.heads (find_cycles h.heads);
      rounds = c.taken;
      kept = h.kept;
      full =
          table.out || lines_outside k.header lines || ltb site_limit (length ss) || ltb pair_limit (length ps)
          || h.full || over_graph h.heads || widths_out names poisoned ss os;
    }

-- 01, The report: modules in order.
unfoldable pub check_modules : Design → Kept → ℕ → List Module → Checked
check_modules d kept m [] = record { reports = []; rounds = 0; kept = kept; full = false }
check_modules d kept m (k ∷ ks) =
    let a = check_module_drivers d kept m k in
    let b = check_modules d a.kept (suc m) ks in
    record { reports = a.reports ++ b.reports; rounds = a.rounds + b.rounds; kept = b.kept; full = a.full || b.full }

-- 01, The report: every module of the design.
unfoldable pub check_design : Design → Checked
check_design d = check_modules d [] 0 d

-- 01, Refused because of the state: acceptance returns 0, bytes written, reports, and rounds; a refusal returns its number, its line
-- and zeros. `buffer` is the report buffer at exit.
pub record Answer : Type 0 where
  pub number : ℕ
  pub line : ℕ
  pub bytes_written : ℕ
  pub reports : ℕ
  pub rounds : ℕ
  pub buffer : Bytes

-- 01, Refused because of the state: and the report buffer keeps its bytes.
abbrev pub refuse : ℕ → ℕ → Bytes → Answer
refuse number line buffer = record { number = number; line = line; bytes_written = 0; reports = 0; rounds = 0; buffer = buffer }

-- 01, Refused because of the state: bytes past the written ones keep theirs.
abbrev pub accept : Bytes → Checked → Bytes → Answer
accept text c buffer =
    record { number = 0; line = 0; bytes_written = length text; reports = length c.reports; rounds = c.rounds; buffer = text ++ drop (length text) buffer }

-- 01, Refused because of the state: 21 the report text is longer than the lent buffer; 20 goes before 21.
unfoldable pub answer_checked : Checked → Bytes → Answer
answer_checked c buffer =
    elim c.full [
      | true ↦ refuse 20 0 buffer
      | false ↦
          let text = show_reports c.reports in
          elim (ltb (length buffer) (length text)) [ true ↦ refuse 21 0 buffer | false ↦ accept text c buffer ]
    ]

-- 01, Refused because of the state: after 1 to 7, 20 and 21.
abbrev pub answer_read : Verdict → Bytes → Bytes → Answer
answer_read (refused number line) text buffer = refuse number line buffer
answer_read well_formed text buffer = answer_checked (check_design (decode text)) buffer

-- 01, Refused because of the state: a working slice that is lent: how many places it has, and the limit that it serves.
pub record Lent : Type 0 where
  pub places : ℕ
  pub limit : ℕ

-- 01, Refused because of the state: a slice with fewer places than the limit it serves.
unfoldable pub too_short : List Lent → Bool
too_short [] = false
too_short (l ∷ ls) = ltb l.places l.limit || too_short ls

-- 01, Refused because of the state: a lent working slice with fewer places than the limit it serves gives 20 too, before 1.
unfoldable pub check_drivers : List Lent → Bytes → Bytes → Answer
check_drivers working text buffer =
    elim (too_short working) [ true ↦ refuse 20 0 buffer | false ↦ answer_read (refusal text) text buffer ]

-- 01, Refused because of the state: a working slice as it is lent: what it holds, which may be anything, and the limit that it serves.
pub record Slice : Type 0 where
  pub held : List ℕ
  pub limit : ℕ

-- 01, Refused because of the state: how many places a slice has.
abbrev pub lent : Slice → Lent
lent s = record { places = length s.held; limit = s.limit }

-- 01, Refused because of the state: lent working memory is zero after each call.
abbrev pub cleared : Slice → List ℕ
cleared s = replicate (length s.held) 0

-- 01, Refused because of the state: what a call leaves: the answer, with the report buffer at exit, and the working slices at exit.
pub record Exit : Type 0 where
  pub answer : Answer
  pub working : List (List ℕ)

-- 01, Refused because of the state: the whole call.
unfoldable pub check_call : List Slice → Bytes → Bytes → Exit
check_call working text buffer = record { answer = check_drivers (map lent working) text buffer; working = map cleared working }

-- 01, The report: the program has a report buffer of 65,536 bytes.
abbrev pub program_buffer : ℕ
program_buffer = 65536

-- 01, The report: the program has a report buffer of 65,536 bytes and prints `(refused NUMBER LINE)` for a refusal.
abbrev pub printed : Answer → Bytes → Bytes
printed a text = elim (eqb a.number 0) [ true ↦ text | false ↦ show_form (bytes "refused") (show_number a.number ∷ show_number a.line ∷ []) ++ (10 ∷ []) ]
