-- What the readers of the tables say, as the coverage, the blocks, the poison and the reports that the definitions give.
-- 01: The site; The block. Assumes nothing.
use mathlib.Core.Path.{◌≡◌, refl, sym, ap, ◌∙◌}
use mathlib.Core.Bool.{Bool, true, false, ◌||◌}
use mathlib.Core.List.{List, [], ◌∷◌, ◌++◌}
use mathlib.Core.Option.{Option, some, none}
use Prim.Native.Nat.{ℕ, zero, suc, ◌+◌, ◌-◌, ◌<◌}
use native.Mathlib.Omega.{arith}
use lib.IntN.{pos, negsuc}
use Rattle.spec.specs.Refusal.{has_name}
use Rattle.spec.specs.Syntax.{Width}
use Rattle.spec.specs.Value.{Value, known, missing, Names, is_outside}
use Rattle.spec.specs.Site.{Site, Output, Misused, Coverage, never as never_driven, fully, gap as gap_at, gap_coverage, width_coverage, sites_of, only_ranges, width_value, first_gap, deciding_width, coverage, misused_names, conflicts, conflict_names}
use Rattle.spec.specs.Block.{Pair, Storage, block_count}
use Rattle.spec.specs.Report.{Report, report, misused, many, never, gap, no_block, blocks as block_detail, mem_blocks}
use Rattle.spec.specs.Check.{misuse_reports, conflict_reports, coverage_report, output_reports, widths_out, reg_report, mem_report, storage_reports}
use Rattle.sites.specs.declared.Blocks.{Blocks}
use Rattle.sites.specs.declared.Blocks.TheVariants as blocks
use Rattle.sites.specs.declared.Cover.{Cover}
use Rattle.sites.specs.declared.Cover.TheVariants as cover
use Rattle.sites.specs.Own.{Own, own_of, run, row, conflict_table, misuse_table, storage_from, misused_from, conflict_row, misuse_poison, cover_by, ranges_by, blocks_by, poisoned_names, with_conflicts}
use Rattle.sites.proofs.Rows.{run_step}

-- ---- an output: the answer of cover_of, and of first_gap at a width

abbrev cover_number : Cover → ℕ
cover_number cover.Never = 0
cover_number cover.Open = 1
cover_number cover.Ranges = 2

by_ranges : (ss : List Site) (c : Cover) → ranges_by ss ≡ c
    → (b : Bool) → only_ranges ss ≡ b → elim b as (λ _. Cover) [ true ↦ cover.Ranges | false ↦ cover.Open ] ≡ c
unfolding ranges_by
by_ranges ss c e b d = sym (rw (d, ranges_by)) ∙ e

cover_none : (ss : List Site) → cover_by ss ≡ cover.Never → ss ≡ []
cover_none [] e = refl
cover_none (s ∷ ss) e = go (only_ranges (s ∷ ss)) refl
  where
    go : (b : Bool) → only_ranges (s ∷ ss) ≡ b → (s ∷ ss) ≡ []
    go true d = absurd (let z = ap cover_number (by_ranges (s ∷ ss) cover.Never e true d) in omega arith)
    go false d = absurd (let z = ap cover_number (by_ranges (s ∷ ss) cover.Never e false d) in omega arith)

cover_open : (s : Site) (ss : List Site) → cover_by (s ∷ ss) ≡ cover.Open → only_ranges (s ∷ ss) ≡ false
cover_open s ss e = go (only_ranges (s ∷ ss)) refl
  where
    go : (b : Bool) → only_ranges (s ∷ ss) ≡ b → b ≡ false
    go true d = absurd (let z = ap cover_number (by_ranges (s ∷ ss) cover.Open e true d) in omega arith)
    go false d = refl

cover_ranges : (s : Site) (ss : List Site) → cover_by (s ∷ ss) ≡ cover.Ranges → only_ranges (s ∷ ss) ≡ true
cover_ranges s ss e = go (only_ranges (s ∷ ss)) refl
  where
    go : (b : Bool) → only_ranges (s ∷ ss) ≡ b → b ≡ true
    go true d = refl
    go false d = absurd (let z = ap cover_number (by_ranges (s ∷ ss) cover.Ranges e false d) in omega arith)

module _ (names : Names) (w : Width) where
  -- the width that decides: none but where there are ranges only
  pub never_width : (ss : List Site) → cover_by ss ≡ cover.Never → deciding_width names ss w ≡ missing
  unfolding deciding_width
  never_width ss e = ap (λ (l : List Site). deciding_width names l w) (cover_none ss e)

  pub open_width : (ss : List Site) → cover_by ss ≡ cover.Open → deciding_width names ss w ≡ missing
  unfolding deciding_width
  open_width [] e = absurd (let z = ap cover_number e in omega arith)
  open_width (s ∷ ss) e = rw (cover_open s ss e, deciding_width)

  pub ranges_width : (ss : List Site) → cover_by ss ≡ cover.Ranges → deciding_width names ss w ≡ width_value names w
  unfolding deciding_width
  ranges_width [] e = absurd (let z = ap cover_number e in omega arith)
  ranges_width (s ∷ ss) e = rw (cover_ranges s ss e, deciding_width)

  -- the coverage
  pub never_coverage : (ss : List Site) → cover_by ss ≡ cover.Never → coverage names ss w ≡ never_driven
  unfolding coverage
  never_coverage ss e = ap (λ (l : List Site). coverage names l w) (cover_none ss e)

  pub open_coverage : (ss : List Site) → cover_by ss ≡ cover.Open → coverage names ss w ≡ fully
  unfolding coverage
  open_coverage [] e = absurd (let z = ap cover_number e in omega arith)
  open_coverage (s ∷ ss) e = ap (width_coverage (s ∷ ss)) (open_width (s ∷ ss) e)

  pub ranges_coverage : (ss : List Site) → cover_by ss ≡ cover.Ranges → coverage names ss w ≡ width_coverage ss (width_value names w)
  unfolding coverage
  ranges_coverage [] e = absurd (let z = ap cover_number e in omega arith)
  ranges_coverage (s ∷ ss) e = ap (width_coverage (s ∷ ss)) (ranges_width (s ∷ ss) e)

  -- ranges only, with a width from 0 on: the first gap decides; with any other width nothing is said
  pub gap_coverage_at : (ss : List Site) (k : ℕ) (g : Option ℕ) → cover_by ss ≡ cover.Ranges → width_value names w ≡ known (pos k) → g ≡ first_gap ss k
      → coverage names ss w ≡ gap_coverage g
  gap_coverage_at ss k g e v h = ranges_coverage ss e ∙ ap (width_coverage ss) v ∙ ap gap_coverage (sym h)

  pub negative_coverage : (ss : List Site) (k : ℕ) → cover_by ss ≡ cover.Ranges → width_value names w ≡ known (negsuc k) → coverage names ss w ≡ fully
  negative_coverage ss k e v = ranges_coverage ss e ∙ ap (width_coverage ss) v

  pub missing_coverage : (ss : List Site) → cover_by ss ≡ cover.Ranges → width_value names w ≡ missing → coverage names ss w ≡ fully
  missing_coverage ss e v = ranges_coverage ss e ∙ ap (width_coverage ss) v

-- the reports of the outputs, one output after the other
module _ (m : ℕ) (names : Names) (poison : List ℕ) (ss : List Site) (o : Output) (os : List Output) where
  abbrev own_sites : List Site
  own_sites = sites_of o.name ss

  abbrev rest : List Report
  rest = output_reports m names poison ss os

  pub output_poisoned : has_name o.name poison ≡ true → output_reports m names poison ss (o ∷ os) ≡ rest
  unfolding output_reports
  output_poisoned p = rw (p, output_reports)

  output_said : (c : Coverage) → has_name o.name poison ≡ false → coverage names own_sites o.width ≡ c
      → output_reports m names poison ss (o ∷ os) ≡ coverage_report m o c ++ rest
  unfolding output_reports
  output_said c p e = rw (p, output_reports) (ap (λ (x : Coverage). coverage_report m o x ++ rest) e)

  pub output_never : has_name o.name poison ≡ false → cover_by own_sites ≡ cover.Never
      → output_reports m names poison ss (o ∷ os) ≡ report m o.start o.name never ∷ rest
  output_never p e = output_said never_driven p (never_coverage names o.width own_sites e)

  pub output_open : has_name o.name poison ≡ false → cover_by own_sites ≡ cover.Open → output_reports m names poison ss (o ∷ os) ≡ rest
  output_open p e = output_said fully p (open_coverage names o.width own_sites e)

  pub output_gap : (k b : ℕ) → has_name o.name poison ≡ false → cover_by own_sites ≡ cover.Ranges → width_value names o.width ≡ known (pos k)
      → some b ≡ first_gap own_sites k → output_reports m names poison ss (o ∷ os) ≡ report m o.start o.name (gap b) ∷ rest
  output_gap k b p e v h = output_said (gap_at b) p (gap_coverage_at names o.width own_sites k (some b) e v h)

  pub output_covered : (k : ℕ) → has_name o.name poison ≡ false → cover_by own_sites ≡ cover.Ranges → width_value names o.width ≡ known (pos k)
      → none ≡ first_gap own_sites k → output_reports m names poison ss (o ∷ os) ≡ rest
  output_covered k p e v h = output_said fully p (gap_coverage_at names o.width own_sites k none e v h)

  pub output_negative : (k : ℕ) → has_name o.name poison ≡ false → cover_by own_sites ≡ cover.Ranges → width_value names o.width ≡ known (negsuc k)
      → output_reports m names poison ss (o ∷ os) ≡ rest
  output_negative k p e v = output_said fully p (negative_coverage names o.width own_sites k e v)

  pub output_missing : has_name o.name poison ≡ false → cover_by own_sites ≡ cover.Ranges → width_value names o.width ≡ missing
      → output_reports m names poison ss (o ∷ os) ≡ rest
  output_missing p e v = output_said fully p (missing_coverage names o.width own_sites e v)

-- whether a width that decides is outside INT, one output after the other
module _ (names : Names) (poison : List ℕ) (ss : List Site) (o : Output) (os : List Output) where
  abbrev its_sites : List Site
  its_sites = sites_of o.name ss

  pub width_poisoned : has_name o.name poison ≡ true → widths_out names poison ss (o ∷ os) ≡ widths_out names poison ss os
  unfolding widths_out
  width_poisoned p = rw (p, widths_out)

  width_said : (v : Value) → has_name o.name poison ≡ false → deciding_width names its_sites o.width ≡ v
      → widths_out names poison ss (o ∷ os) ≡ (is_outside v || widths_out names poison ss os)
  unfolding widths_out
  width_said v p e = rw (p, widths_out) (ap (λ (x : Value). is_outside x || widths_out names poison ss os) e)

  pub width_never : has_name o.name poison ≡ false → cover_by its_sites ≡ cover.Never → widths_out names poison ss (o ∷ os) ≡ widths_out names poison ss os
  width_never p e = width_said missing p (never_width names o.width its_sites e)

  pub width_open : has_name o.name poison ≡ false → cover_by its_sites ≡ cover.Open → widths_out names poison ss (o ∷ os) ≡ widths_out names poison ss os
  width_open p e = width_said missing p (open_width names o.width its_sites e)

  pub width_ranges : has_name o.name poison ≡ false → cover_by its_sites ≡ cover.Ranges
      → widths_out names poison ss (o ∷ os) ≡ (is_outside (width_value names o.width) || widths_out names poison ss os)
  width_ranges p e = width_said (width_value names o.width) p (ranges_width names o.width its_sites e)

-- ---- a register or memory: the answer of blocks_of

abbrev blocks_number : Blocks → ℕ
blocks_number blocks.None = 0
blocks_number blocks.One = 1
blocks_number blocks.Several = 2

-- what is said of a register, and of a memory, by that answer
abbrev pub reg_said : ℕ → Storage → Blocks → List Report
reg_said m r blocks.None = report m r.start r.name no_block ∷ []
reg_said m r blocks.One = []
reg_said m r blocks.Several = report m r.start r.name block_detail ∷ []

abbrev pub mem_said : ℕ → Storage → Blocks → List Report
mem_said m r blocks.None = []
mem_said m r blocks.One = []
mem_said m r blocks.Several = report m r.start r.name mem_blocks ∷ []

pub reg_by_blocks : (m : ℕ) (r : Storage) (k : ℕ) → reg_report m r k ≡ reg_said m r (blocks_by k)
reg_by_blocks m r zero = refl
reg_by_blocks m r (suc zero) = refl
reg_by_blocks m r (suc (suc k)) = refl

pub mem_by_blocks : (m : ℕ) (r : Storage) (k : ℕ) → mem_report m r k ≡ mem_said m r (blocks_by k)
mem_by_blocks m r zero = refl
mem_by_blocks m r (suc zero) = refl
mem_by_blocks m r (suc (suc k)) = refl

-- the reports of the registers or memories, one after the other
module _ (f : Storage → ℕ → List Report) (poison : List ℕ) (ps : List Pair) (r : Storage) (rs : List Storage) where
  pub storage_poisoned : has_name r.name poison ≡ true → storage_reports f poison ps (r ∷ rs) ≡ storage_reports f poison ps rs
  unfolding storage_reports
  storage_poisoned p = rw (p, storage_reports)

  pub storage_next : has_name r.name poison ≡ false → storage_reports f poison ps (r ∷ rs) ≡ f r (block_count r.name ps) ++ storage_reports f poison ps rs
  unfolding storage_reports
  storage_next p = rw (p, storage_reports)

module _ (m : ℕ) (poison : List ℕ) (ps : List Pair) (r : Storage) (rs : List Storage) where
  pub reg_next : (b : Blocks) → b ≡ blocks_by (block_count r.name ps) → has_name r.name poison ≡ false
      → storage_reports (reg_report m) poison ps (r ∷ rs) ≡ reg_said m r b ++ storage_reports (reg_report m) poison ps rs
  reg_next b e p =
      storage_next (reg_report m) poison ps r rs p
      ∙ ap (λ (l : List Report). l ++ storage_reports (reg_report m) poison ps rs) (reg_by_blocks m r (block_count r.name ps) ∙ ap (reg_said m r) (sym e))

  pub mem_next : (b : Blocks) → b ≡ blocks_by (block_count r.name ps) → has_name r.name poison ≡ false
      → storage_reports (mem_report m) poison ps (r ∷ rs) ≡ mem_said m r b ++ storage_reports (mem_report m) poison ps rs
  mem_next b e p =
      storage_next (mem_report m) poison ps r rs p
      ∙ ap (λ (l : List Report). l ++ storage_reports (mem_report m) poison ps rs) (mem_by_blocks m r (block_count r.name ps) ∙ ap (mem_said m r) (sym e))

-- ---- poison: after find_conflicts a name is poisoned where it has a conflict or a misuse

-- the names that get no further report, from the sites and the misuses alone
abbrev pub poison_of : Own → List ℕ
poison_of o = conflict_names (conflicts (misused_names o.misuses) o.sites o.sites) ++ misused_names o.misuses

pub poison_found : (o o' : Own) → o' ≡ with_conflicts (conflicts (misused_names o.misuses) o.sites o.sites) o → poisoned_names o' ≡ poison_of o
unfolding poisoned_names
poison_found o o' e = ap poisoned_names e

-- the same, of the runs of numbers
pub poison_after : (own own' : List ℕ) → own_of own' ≡ with_conflicts (conflicts (misuse_poison own) (own_of own).sites (own_of own).sites) (own_of own)
    → poisoned_names (own_of own') ≡ poison_of (own_of own)
unfolding own_of
poison_after own own' e = poison_found (own_of own) (own_of own') e

pub conflicts_after : (own own' : List ℕ) → own_of own' ≡ with_conflicts (conflicts (misuse_poison own) (own_of own).sites (own_of own).sites) (own_of own)
    → (own_of own').conflicts ≡ conflicts (misused_names (own_of own).misuses) (own_of own).sites (own_of own).sites
unfolding own_of
conflicts_after own own' e = ap (λ (o : Own). o.conflicts) e

-- ---- misuses and conflicts: the reports from row i on, of n rows

abbrev pub misuse_row : List ℕ → ℕ → Misused
misuse_row own i = misused_from (row misuse_table own i)

pub conflict_next : (m : ℕ) (own : List ℕ) (i n : ℕ) (l : Storage) → i < n → l ≡ storage_from (row conflict_table own i)
    → conflict_reports m (run (conflict_row own) i (n - i)) ≡ report m l.start l.name many ∷ conflict_reports m (run (conflict_row own) (i + 1) (n - (i + 1)))
unfolding conflict_reports
conflict_next m own i n l h e =
    ap (conflict_reports m) (run_step (conflict_row own) i n h)
    ∙ ap (λ (x : Storage). report m x.start x.name many ∷ conflict_reports m (run (conflict_row own) (i + 1) (n - (i + 1)))) (sym e)

pub misuse_next : (m : ℕ) (own : List ℕ) (i n : ℕ) (x : Misused) → i < n → x ≡ misused_from (row misuse_table own i)
    → misuse_reports m (run (misuse_row own) i (n - i)) ≡ report m x.start x.name (misused x.misuse) ∷ misuse_reports m (run (misuse_row own) (i + 1) (n - (i + 1)))
unfolding misuse_reports
misuse_next m own i n x h e =
    ap (misuse_reports m) (run_step (misuse_row own) i n h)
    ∙ ap (λ (y : Misused). report m y.start y.name (misused y.misuse) ∷ misuse_reports m (run (misuse_row own) (i + 1) (n - (i + 1)))) (sym e)
