-- The reports of a module's own tables, row by row. Assumes nothing.
use mathlib.Core.Path.{◌≡◌, refl, sym, ap, ◌∙◌, subst}
use mathlib.Core.Bool.{Bool, true, false}
use mathlib.Core.List.{List, [], ◌∷◌, ◌++◌, append-nil}
use Prim.Native.Nat.{ℕ, ◌+◌, ◌-◌, ◌<◌, ◌≤◌}
use native.Mathlib.Omega.{arith}
use lib.ListN.{length}
use Rattle.spec.specs.Bytes.{Bytes}
use Rattle.spec.specs.Refusal.{has_name}
use Rattle.spec.specs.Block.{Pair, Storage, block_count}
use Rattle.spec.specs.Report.{Report, report, misused, many}
use Rattle.spec.specs.Check.{misuse_reports, conflict_reports, storage_reports}
use Rattle.report.specs.declared.Detail.{Detail}
use Rattle.report.specs.Line.{detail_of}
use Rattle.sites.specs.declared.Blocks.{Blocks}
use Rattle.sites.specs.declared.Blocks.TheVariants as blocks
use Rattle.std.specs.Prelude.{Option, Some, None}
use Rattle.drivers.specs.declared.groups.Storage.{Storage as Stored}
use Rattle.drivers.specs.declared.groups.Storage.TheVariants as stored
use Rattle.drivers.specs.Groups.{report_by, table_by, stored_by, said_by}
use Rattle.sites.specs.declared.Line.{Line}
use Rattle.sites.specs.declared.MisusedLine.{MisusedLine}
use Rattle.sites.specs.Own.{Table, places, names, run, row as row_at, rows_in, own_of, misuse_table, conflict_table, misused_of, misused_from, misuse_of, storage_of, storage_from, conflict_row, blocks_by, poisoned_names}
use Rattle.sites.proofs.Rows.{run_step, run_end, run_all}
use Rattle.sites.proofs.Reports.{misuse_row, misuse_next, conflict_next, reg_said, mem_said, reg_by_blocks, mem_by_blocks, storage_poisoned, storage_next}
use Rattle.drivers.specs.declared.emit.Place.{Place}
use Rattle.drivers.specs.Emits.{Emits}
use Rattle.drivers.proofs.EmitLaws.{emit_none, emitting_then, emitting_end, Emitting}

-- ---- the same reports

module _ {write : Bool} {old new : Bytes} {p q : Place} where
  pub emits_same : {rs xs : List Report} → rs ≡ xs → Emits write old p xs new q → Emits write old p rs new q
  emits_same {rs} {xs} e a = subst (λ (l : List Report). Emits write old p l new q) (sym e) a

pub emits_nothing : {write : Bool} {old : Bytes} {p : Place} {rs : List Report} → rs ≡ [] → Emits write old p rs old p
emits_nothing {write} {old} {p} e = emits_same e emit_none

-- ---- one row after the other: `left i` are the reports from row i on, of n rows

module _ (left : ℕ → List Report) {write : Bool} {old : Bytes} {p : Place} {all : List Report} where
  pub rows_then : {i : ℕ} {mid new : Bytes} {q r : Place} (xs : List Report) → left i ≡ xs ++ left (i + 1)
      → Emitting write old p all (left i) mid q → Emits write mid q xs new r → Emitting write old p all (left (i + 1)) new r
  rows_then {i} {mid} {new} {q} {r} xs e a b =
      emitting_then xs (left (i + 1)) (subst (λ (l : List Report). Emitting write old p all l mid q) e a) b

  pub rows_end : {i : ℕ} {new : Bytes} {q : Place} → left i ≡ [] → Emitting write old p all (left i) new q → Emits write old p all new q
  rows_end {i} {new} {q} e a = emitting_end (subst (λ (l : List Report). Emitting write old p all l new q) e a)

-- ---- misuses

abbrev pub misuses_left : List ℕ → ℕ → ℕ → ℕ → List Report
misuses_left own m n i = misuse_reports m (run (misuse_row own) i (n - i))

module _ (own : List ℕ) (m n : ℕ) {write : Bool} {old : Bytes} {p : Place} where
  pub misuses_then : {i : ℕ} {mid new : Bytes} {q r : Place} (x : MisusedLine) (d : Detail) → i < n → n ≤ names
      → (length own ≡ places → i < names → misused_of x ≡ misused_from (row_at misuse_table own i)) → detail_of d ≡ misused (misuse_of x.kind)
      → (length own ≡ places → Emitting write old p (misuses_left own m n 0) (misuses_left own m n i) mid q)
      → Emits write mid q (report m x.start x.name (detail_of d) ∷ []) new r
      → length own ≡ places → Emitting write old p (misuses_left own m n 0) (misuses_left own m n (i + 1)) new r
  misuses_then {i} x d h k e f a b l =
      rows_then (misuses_left own m n) (report m x.start x.name (misused (misuse_of x.kind)) ∷ []) (misuse_next m own i n (misused_of x) h (e l (omega arith))) (a l)
      (emits_same (ap (λ y. report m x.start x.name y ∷ []) (sym f)) b)

  pub misuses_end : {i : ℕ} {new : Bytes} {q : Place} → n ≤ i → (length own ≡ places → n ≡ rows_in misuse_table own)
      → (length own ≡ places → Emitting write old p (misuses_left own m n 0) (misuses_left own m n i) new q)
      → length own ≡ places → Emits write old p (misuse_reports m (own_of own).misuses) new q
  unfolding own_of misuse_reports
  misuses_end {i} {new} {q} h e a l =
      emits_same (ap (λ (k : ℕ). misuse_reports m (run (misuse_row own) 0 k)) (sym (e l)) ∙ ap (misuse_reports m) (sym (run_all (misuse_row own) n)))
      (rows_end (misuses_left own m n) (ap (misuse_reports m) (run_end (misuse_row own) i n h)) (a l))

-- ---- conflicts

abbrev pub conflicts_left : List ℕ → ℕ → ℕ → ℕ → List Report
conflicts_left own m n i = conflict_reports m (run (conflict_row own) i (n - i))

module _ (own : List ℕ) (m n : ℕ) {write : Bool} {old : Bytes} {p : Place} where
  pub conflicts_then : {i : ℕ} {mid new : Bytes} {q r : Place} (x : Line) → i < n → n ≤ 1024
      → (length own ≡ places → i < 1024 → storage_of x ≡ storage_from (row_at conflict_table own i))
      → (length own ≡ places → Emitting write old p (conflicts_left own m n 0) (conflicts_left own m n i) mid q)
      → Emits write mid q (report m x.start x.name many ∷ []) new r
      → length own ≡ places → Emitting write old p (conflicts_left own m n 0) (conflicts_left own m n (i + 1)) new r
  conflicts_then {i} x h k e a b l =
      rows_then (conflicts_left own m n) (report m x.start x.name many ∷ []) (conflict_next m own i n (storage_of x) h (e l (omega arith))) (a l) b

  pub conflicts_end : {i : ℕ} {new : Bytes} {q : Place} → n ≤ i → (length own ≡ places → n ≡ rows_in conflict_table own)
      → (length own ≡ places → Emitting write old p (conflicts_left own m n 0) (conflicts_left own m n i) new q)
      → length own ≡ places → Emits write old p (conflict_reports m (own_of own).conflicts) new q
  unfolding own_of conflict_reports
  conflicts_end {i} {new} {q} h e a l =
      emits_same (ap (λ (k : ℕ). conflict_reports m (run (conflict_row own) 0 k)) (sym (e l)) ∙ ap (conflict_reports m) (sym (run_all (conflict_row own) n)))
      (rows_end (conflicts_left own m n) (ap (conflict_reports m) (run_end (conflict_row own) i n h)) (a l))

-- ---- registers and memories

-- what is said of some of them, from the words
abbrev pub storage_said : (Storage → ℕ → List Report) → List ℕ → List Storage → List Report
storage_said f own rs = storage_reports f (poisoned_names (own_of own)) (own_of own).pairs rs

abbrev pub storage_row : Table → List ℕ → ℕ → Storage
storage_row t own i = storage_from (row_at t own i)

abbrev pub storage_left : (Storage → ℕ → List Report) → Table → List ℕ → ℕ → ℕ → List Report
storage_left f t own n i = storage_said f own (run (storage_row t own) i (n - i))

storage_cons : (f : Storage → ℕ → List Report) (poison : List ℕ) (ps : List Pair) (r : Storage) (rs : List Storage)
    → storage_reports f poison ps (r ∷ rs) ≡ storage_reports f poison ps (r ∷ []) ++ storage_reports f poison ps rs
unfolding storage_reports
storage_cons f poison ps r rs = go (has_name r.name poison) refl
  where
    go : (b : Bool) → has_name r.name poison ≡ b → storage_reports f poison ps (r ∷ rs) ≡ storage_reports f poison ps (r ∷ []) ++ storage_reports f poison ps rs
    go true e = rw (e, storage_reports)
    go false e = rw (e, storage_reports) (ap (λ (l : List Report). l ++ storage_reports f poison ps rs) (sym (append-nil (f r (block_count r.name ps)))))

module _ (f : Storage → ℕ → List Report) (t : Table) (own : List ℕ) (n : ℕ) {write : Bool} {old : Bytes} {p : Place} where
  pub storage_then : {i : ℕ} {mid new : Bytes} {q r : Place} (x : Line) → i < n → n ≤ names
      → (length own ≡ places → i < names → storage_of x ≡ storage_from (row_at t own i))
      → (length own ≡ places → Emitting write old p (storage_left f t own n 0) (storage_left f t own n i) mid q)
      → (length own ≡ places → Emits write mid q (storage_said f own (storage_of x ∷ [])) new r)
      → length own ≡ places → Emitting write old p (storage_left f t own n 0) (storage_left f t own n (i + 1)) new r
  storage_then {i} x h k e a b l =
      rows_then (storage_left f t own n) (storage_said f own (storage_of x ∷ []))
      (ap (storage_said f own) (run_step (storage_row t own) i n h)
      ∙ storage_cons f (poisoned_names (own_of own)) (own_of own).pairs (storage_row t own i) (run (storage_row t own) (i + 1) (n - (i + 1)))
      ∙ ap (λ (y : Storage). storage_said f own (y ∷ []) ++ storage_left f t own n (i + 1)) (sym (e l (omega arith))))
      (a l) (b l)

  storage_end : {i : ℕ} {new : Bytes} {q : Place} → n ≤ i → (length own ≡ places → n ≡ rows_in t own)
      → (length own ≡ places → Emitting write old p (storage_left f t own n 0) (storage_left f t own n i) new q)
      → length own ≡ places → Emits write old p (storage_said f own (run (storage_row t own) 0 (rows_in t own))) new q
  unfolding storage_reports
  storage_end {i} {new} {q} h e a l =
      emits_same (ap (λ (k : ℕ). storage_said f own (run (storage_row t own) 0 k)) (sym (e l)) ∙ ap (storage_said f own) (sym (run_all (storage_row t own) n)))
      (rows_end (storage_left f t own n) (ap (storage_said f own) (run_end (storage_row t own) i n h)) (a l))

stored_run : (kind : Stored) (own : List ℕ) → run (storage_row (table_by kind) own) 0 (rows_in (table_by kind) own) ≡ stored_by kind (own_of own)
unfolding own_of
stored_run stored.Reg own = refl
stored_run stored.Mem own = refl

module _ (kind : Stored) (own : List ℕ) (m n : ℕ) {write : Bool} {old : Bytes} {p : Place} {i : ℕ} {new : Bytes} {q : Place} (h : n ≤ i) where
  pub stored_end : (length own ≡ places → n ≡ rows_in (table_by kind) own)
      → (length own ≡ places → Emitting write old p (storage_left (report_by kind m) (table_by kind) own n 0) (storage_left (report_by kind m) (table_by kind) own n i) new q)
      → length own ≡ places → Emits write old p (storage_said (report_by kind m) own (stored_by kind (own_of own))) new q
  stored_end e a l = emits_same (ap (storage_said (report_by kind m) own) (sym (stored_run kind own))) (storage_end (report_by kind m) (table_by kind) own n h e a l)

-- one register or memory
module _ (own : List ℕ) (m : ℕ) (r : Storage) {b : Bool} (g : length own ≡ places → b ≡ has_name r.name (poisoned_names (own_of own))) where
  pub storage_kept : (f : Storage → ℕ → List Report) → b ≡ true → {write : Bool} {old : Bytes} {p : Place}
      → length own ≡ places → Emits write old p (storage_said f own (r ∷ [])) old p
  unfolding storage_reports
  storage_kept f e l = emits_nothing (storage_poisoned f (poisoned_names (own_of own)) (own_of own).pairs r [] (sym (g l) ∙ e))

  -- the report with a detail, where there is one
  abbrev details_said : Option Detail → List Report
  details_said (Some d) = report m r.start r.name (detail_of d) ∷ []
  details_said None = []

  said_is : (kind : Stored) (k : ℕ) → report_by kind m r k ≡ details_said (said_by kind (blocks_by k))
  said_is stored.Reg k = reg_by_blocks m r k ∙ reg_details (blocks_by k)
    where
      reg_details : (x : Blocks) → reg_said m r x ≡ details_said (said_by stored.Reg x)
      reg_details blocks.None = refl
      reg_details blocks.One = refl
      reg_details blocks.Several = refl
  said_is stored.Mem k = mem_by_blocks m r k ∙ mem_details (blocks_by k)
    where
      mem_details : (x : Blocks) → mem_said m r x ≡ details_said (said_by stored.Mem x)
      mem_details blocks.None = refl
      mem_details blocks.One = refl
      mem_details blocks.Several = refl

  module _ (kind : Stored) (e : b ≡ false) {write : Bool} {old new : Bytes} {p q : Place} {y : Blocks} (s : length own ≡ places → y ≡ blocks_by (block_count r.name (own_of own).pairs))
      {d : Option Detail} (f : d ≡ said_by kind y) where
    pub storage_emits : {x : Option Detail} → d ≡ x → Emits write old p (details_said x) new q → length own ≡ places → Emits write old p (storage_said (report_by kind m) own (r ∷ [])) new q
    unfolding storage_reports
    storage_emits {x} z a l =
        emits_same
        (storage_next (report_by kind m) (poisoned_names (own_of own)) (own_of own).pairs r [] (sym (g l) ∙ e) ∙ append-nil (report_by kind m r (block_count r.name (own_of own).pairs))
        ∙ said_is kind (block_count r.name (own_of own).pairs) ∙ ap (λ (j : Blocks). details_said (said_by kind j)) (sym (s l)) ∙ ap details_said (sym f ∙ z)) a
