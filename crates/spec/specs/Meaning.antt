-- What the list of reports says: each report stands there exactly when its situation (specs/Situations.antt) holds, none twice, in 01's
-- order; and what an output with no report can count on. 01: The site; The block; The walk; The report.
-- To a reader: statements, `Meaning` proved in proofs/Meaning.antt and `OneList` in proofs/OneList.antt. Of its words the situations are to
-- believe (specs/Situations.antt), and here the order (`Precedes`).
use Rattle.std.specs.Prelude.{◌≡◌, ◌↔◌, ◌⊎◌, List, [], ◌∷◌, ◌++◌, ℕ, ◌+◌, min, ◌<◌, length, take, drop, pos}
use Rattle.std.proofs.Math.Option.{some}
use Rattle.std.proofs.Math.ListN.{get_elem?}
use Rattle.spec.specs.Bytes.{Bytes}
use Rattle.spec.specs.Syntax.{Width, Module, Design}
use Rattle.spec.specs.Refusal.{decode}
use Rattle.spec.specs.Value.{known, own_vals}
use Rattle.spec.specs.Collect.{collection}
use Rattle.spec.specs.Site.{output_lines, width_value, coverage_limit}
use Rattle.spec.specs.Block.{line_regs, line_mems, storage_lines}
use Rattle.spec.specs.Edge.{Node, Head, all_reads}
use Rattle.spec.specs.Summary.{module_heads}
use Rattle.spec.specs.FindCycles.{start_of, next_nodes, roots}
use Rattle.spec.specs.Report.{Detail, misused, many, never, gap, no_block, blocks, mem_blocks, Report, report, loop_report, show_reports}
use Rattle.spec.specs.Check.{check_modules, Answer, Lent, check_drivers}
use Rattle.spec.specs.Graph.{◌∈◌, Once, ClosedWalk}
use Rattle.spec.specs.DepthFirstFinds.{InOrder}
use Rattle.spec.specs.FirstWays.{Reported, ReportedBefore}
use Rattle.spec.specs.Situations.{own_lines, own_names, misuses_of, sites_named, Has, IsOutput, AllRanges, Holds}

-- ---- loops

-- 01, The edge: what the lines of the module at m head and read, with the summaries that the modules before it kept.
abbrev pub heads_at : Design → ℕ → Module → List Head
heads_at d m k = (module_heads d (check_modules d [] 0 (take m d)).kept k (own_lines k)).heads

-- 01, The walk: at that node's START.
abbrev pub BeginsAt : List Head → ℕ → List Node → Type 0
BeginsAt hs start [] = ⊥
BeginsAt hs start (n ∷ l) = start ≡ start_of hs n

-- ---- the order

-- n is named in l before n' is: some beginning of l names the one and not the other. 01: The report (order).
pub record NamedBefore {A : Type 0} (name : A → ℕ) (l : List A) (n n' : ℕ) : Type 0 where
  pub front : List A
  pub back : List A
  pub parted : l ≡ front ++ back
  pub one : A
  pub stands : one ∈ front
  pub named : name one ≡ n
  pub other : (y : A) → y ∈ front → ¬ (name y ≡ n')

-- 01, The report: M.
abbrev pub number_of : Report → ℕ
number_of (report m start n x) = m
number_of (loop_report m start w) = m

-- 01, The report: within one: collection, conflicts, outputs, regs, mems, loops.
abbrev pub stage : Report → ℕ
stage (report m start n (misused u)) = 0
stage (report m start n many) = 1
stage (report m start n never) = 2
stage (report m start n (gap b)) = 2
stage (report m start n no_block) = 3
stage (report m start n blocks) = 3
stage (report m start n mem_blocks) = 4
stage (loop_report m start w) = 5

-- 01, The report: conflicts by START then name; the others in the order of their first collected line; loops in the order of their ways.
abbrev pub StageOrder : List Head → Module → Report → Report → Type 0
StageOrder hs k (report m s n (misused u)) (report m' s' n' x) = NamedBefore (λ v. v.name) (misuses_of k) n n'
StageOrder hs k (report m s n many) (report m' s' n' x) = (s < s') ⊎ ((s ≡ s') × (n < n'))
StageOrder hs k (report m s n never) (report m' s' n' x) = NamedBefore (λ o. o.name) (output_lines (own_lines k)) n n'
StageOrder hs k (report m s n (gap b)) (report m' s' n' x) = NamedBefore (λ o. o.name) (output_lines (own_lines k)) n n'
StageOrder hs k (report m s n no_block) (report m' s' n' x) = NamedBefore (λ r. r.name) (storage_lines line_regs (own_lines k)) n n'
StageOrder hs k (report m s n blocks) (report m' s' n' x) = NamedBefore (λ r. r.name) (storage_lines line_regs (own_lines k)) n n'
StageOrder hs k (report m s n mem_blocks) (report m' s' n' x) = NamedBefore (λ r. r.name) (storage_lines line_mems (own_lines k)) n n'
StageOrder hs k (report m s n x) (loop_report m' s' w') = ⊥
StageOrder hs k (loop_report m s w) (report m' s' n' x) = ⊥
StageOrder hs k (loop_report m s w) (loop_report m' s' w') = ReportedBefore (next_nodes hs) (roots hs) w w'

-- 01, The report: modules in order; within one the stages in order; within one of these as above.
pub data Precedes (d : Design) (r r' : Report) : Type 0 where
  by_module : number_of r < number_of r' → Precedes d r r'
  by_stage : number_of r ≡ number_of r' → stage r < stage r' → Precedes d r r'
  in_stage : number_of r ≡ number_of r' → stage r ≡ stage r' → (k : Module) → get_elem? d (number_of r) ≡ some k → StageOrder (heads_at d (number_of r) k) k r r' → Precedes d r r'

-- ---- the statement

-- exactly one place of l has P. 01: The site.
pub record ExactlyOne {A : Type 0} (P : A → Type 0) (l : List A) : Type 0 where
  pub before : List A
  pub after : List A
  pub one : A
  pub parted : l ≡ before ++ one ∷ after
  pub has : P one
  pub only : (a : A) → a ∈ (before ++ after) → ¬ P a

-- What this list says of the design. 01: The site; The block; The walk; The report.
-- `about`: a report about a name stands there exactly when its situation holds in the module at that place. `loops`: a loop report exactly
-- for each step onto the open path (`Reported`, specs/FirstWays.antt). `closed`: each such walk is closed, along what the lines read. `found`: where there is a
-- closed walk there is a loop report. `once`: none stands twice. `order`: they stand in 01's order. `covered`: of an output with no report
-- of its own (loops aside), only ranges and a known width, each of the lowest min(width, 4,096) bits lies in exactly one site.
pub record Means (d : Design) (reports : List Report) : Type 0 where
  pub about : (m start n : ℕ) (x : Detail) → report m start n x ∈ reports ↔ ((k : Module) × (get_elem? d m ≡ some k) × Holds k start n x)
  pub loops : (m start : ℕ) (w : List Node) → loop_report m start w ∈ reports
      ↔ ((k : Module) × (get_elem? d m ≡ some k) × Reported (next_nodes (heads_at d m k)) (roots (heads_at d m k)) w × BeginsAt (heads_at d m k) start w)
  pub closed : (m : ℕ) (k : Module) → get_elem? d m ≡ some k → (w : List Node) → Reported (next_nodes (heads_at d m k)) (roots (heads_at d m k)) w → ClosedWalk (all_reads (heads_at d m k)) w
  pub found : (m : ℕ) (k : Module) → get_elem? d m ≡ some k → (w : List Node) → ClosedWalk (all_reads (heads_at d m k)) w
      → (start : ℕ) × (w' : List Node) × (loop_report m start w' ∈ reports)
  pub once : Once reports
  pub order : InOrder (Precedes d) reports
  pub covered : (m start n width : ℕ) (k : Module) (w : Width) → get_elem? d m ≡ some k → IsOutput k start n w
      → ((start' : ℕ) (x : Detail) → ¬ (report m start' n x ∈ reports)) → AllRanges (sites_named k n) → width_value (own_names k) w ≡ known (pos width)
      → (b : ℕ) → b < min width coverage_limit → ExactlyOne (λ s. Has s.extent b) (sites_named k n)

-- 01, Refused because of the state: rounds is the sum over the modules' own checks of repeat rounds taken.
unfoldable pub all_rounds : Design → ℕ
all_rounds [] = 0
all_rounds (k ∷ ks) = (collection (own_vals k) k).taken + all_rounds ks

-- 01, Refused because of the state: acceptance returns 0, bytes written, reports, and rounds; bytes past the written ones keep theirs.
-- Decision: the line is 0.
pub record Written (d : Design) (reports : List Report) (buffer : Bytes) (a : Answer) : Type 0 where
  pub line : a.line ≡ 0
  pub bytes : a.bytes_written ≡ length (show_reports reports)
  pub count : a.reports ≡ length reports
  pub rounds : a.rounds ≡ all_rounds d
  pub buffer_is : a.buffer ≡ show_reports reports ++ drop (length (show_reports reports)) buffer

-- The theorem, over the whole list of an accepted text. 01: The report.
abbrev pub Meaning : Type 0
Meaning = (working : List Lent) (text buffer : Bytes) → (check_drivers working text buffer).number ≡ 0
    → (reports : List Report) × Means (decode text) reports × Written (decode text) reports buffer (check_drivers working text buffer)

-- 01, The report: a text of report lines that is the text of a list of which `Means d` holds.
abbrev pub MeansText : Design → Bytes → Type 0
MeansText d text = (reports : List Report) × (text ≡ show_reports reports) × Means d reports

-- And it leaves nothing open. 01: The report. `list`: one list only says this of a design. `text`: and one text only. `read_back`: whatever
-- list of reports has that text is the list, for `Means d` holds of it.
pub record OneList : Type 0 where
  pub list : (d : Design) (l l' : List Report) → Means d l → Means d l' → l ≡ l'
  pub text : (d : Design) (t t' : Bytes) → MeansText d t → MeansText d t' → t ≡ t'
  pub read_back : (d : Design) (t : Bytes) → MeansText d t → (l : List Report) → t ≡ show_reports l → Means d l
