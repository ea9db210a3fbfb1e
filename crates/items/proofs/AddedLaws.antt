-- What any bytes add to any words: one law for each way of the functions that add. Assumes nothing.
use mathlib.Core.Path.{◌≡◌, refl, sym, ◌∙◌, ap, subst}
use mathlib.Core.Logic.{◌⊎◌, inl, inr}
use mathlib.Core.Bool.{Bool, true, false, ◌&&◌}
use mathlib.Core.List.{List, [], ◌∷◌}
use Prim.Native.Nat.{ℕ, zero, suc, ◌+◌, ◌-◌, ◌≤◌, ◌<◌}
use native.Mathlib.Omega.{arith}
use lib.ListN.{get_or}
use lib.Dec.{eqb}
use borrow.Author.Tests.{eq-eqb, ne_eqb, le-leb, lt-leb}
use Rattle.spec.specs.Bytes.{Bytes}
use Rattle.spec.specs.Value.{Names}
use Rattle.spec.specs.Cleared.{Cleared}
use Rattle.spec.specs.Site.{Driving, an_output, a_wire, a_reg, a_mem, nothing, driving}
use Rattle.lines.specs.Parts.{part_end, piece, next_end, follows}
use Rattle.lines.proofs.PartLaws as lines
use Rattle.sites.specs.Own.{Table, Added, added, number_of, extent_of, site_numbers, row_added, first_added, site_table, port_table, misuse_table}
use Rattle.sites.specs.declared.Extent.{Extent}
use Rattle.sites.specs.declared.Extent.TheVariants as extent
use Rattle.sites.specs.Stored.{Stored}
use Rattle.sites.specs.Stored as stored
use Rattle.edges.specs.Reads.{kind_word}
use Rattle.edges.specs.Total.{parts_behind}
use Rattle.edges.proofs.TotalLaws.{parts_same}
use Rattle.items.specs.declared.Named.{Named}
use Rattle.consteval.specs.declared.Outside.{Outside}
use Rattle.std.specs.Prelude.{Ok, Err}
use Rattle.items.specs.Lines.{Extended, number_at, named_at, index_at, ExtentIs, lvalue_part, driven}
use Rattle.items.specs.Added.{OwnLeaves, and_then, driving_by, is_output, output_row, port_added, reg_added, mem_added, extent_as, driven_site, output_driven, drive_by, drive_added, block_added, set_by, set_added, default_by, default_name, default_added, all_added, when_added, stmt_added, on_added, line_added}

-- ---- what is left, by the answer

pub leaves_kept : (b : Bool) (a : Added (List ℕ)) (own' : List ℕ) → b ≡ true → OwnLeaves b a own' → a ≡ added stored.Done own'
leaves_kept b a own' e h = rw e at h

pub leaves_full : (b : Bool) (a : Added (List ℕ)) (own' : List ℕ) → b ≡ false → OwnLeaves b a own' → OwnLeaves false a own'
leaves_full b a own' e h = rw e at h

pub leaves_cleared : (b : Bool) (a : Added (List ℕ)) (own' : List ℕ) → b ≡ false → OwnLeaves b a own' → Cleared own'
leaves_cleared b a own' e h = (leaves_full b a own' e h).1

pub leaves_by : (r : Bool) (own' : List ℕ) {a c : Added (List ℕ)} → c ≡ a → OwnLeaves r a own' → OwnLeaves r c own'
leaves_by r own' e h = subst (λ (z : Added (List ℕ)). OwnLeaves r z own') (sym e) h

-- what one addition answers
pub stored_done : (r : Stored) (own' : List ℕ) {a : Added (List ℕ)} → added r own' ≡ a → r ≡ stored.Done → OwnLeaves true a own'
stored_done r own' e d = sym e ∙ ap (λ (z : Stored). added z own') d

pub stored_full : (r : Stored) (own₁ own' : List ℕ) {a : Added (List ℕ)} → added r own₁ ≡ a → r ≡ stored.Full → Cleared own' → OwnLeaves false a own'
stored_full r own₁ own' e d z = (ap (λ (y : Added (List ℕ)). y.answer) (sym e) ∙ ap number_of d, z)

-- ---- one after the other

module _ (a : Added (List ℕ)) (own₁ : List ℕ) (f : List ℕ → Added (List ℕ)) where
  then_goes : a ≡ added stored.Done own₁ → and_then a f ≡ f own₁
  unfolding and_then
  then_goes e = ap (λ (z : Added (List ℕ)). and_then z f) e

  then_stops : (n : ℕ) → a.answer ≡ suc n → and_then a f ≡ a
  unfolding and_then
  then_stops n e = rw (ne_eqb a.answer 0 (λ z. omega (arith, e, z)), and_then)

  pub leaves_then : (b : Bool) → b ≡ true → OwnLeaves b a own₁ → (r : Bool) (own₂ : List ℕ) → OwnLeaves r (f own₁) own₂ → OwnLeaves r (and_then a f) own₂
  leaves_then b e h r own₂ k = leaves_by r own₂ (then_goes (leaves_kept b a own₁ e h)) k

  pub leaves_stop : (b : Bool) → b ≡ false → OwnLeaves b a own₁ → OwnLeaves false (and_then a f) own₁
  leaves_stop b e h = let k = leaves_full b a own₁ e h in leaves_by false own₁ (then_stops 19 k.0) k

-- ---- tests

and_first : {a : Bool} (b : Bool) → a ≡ false → a && b ≡ false
and_first b e = ap (λ (z : Bool). z && b) e

and_second : (a : Bool) {b : Bool} → b ≡ false → a && b ≡ false
and_second true e = e
and_second false e = refl

and_true : {a b : Bool} → a ≡ true → b ≡ true → a && b ≡ true
and_true {a} {b} e f = ap (λ (z : Bool). z && b) e ∙ f

-- ---- `reg` and `mem`: a row of a name and a START

pub row_left : (t : Table) (own own' : List ℕ) {l m : Named} → l ≡ m → own' ≡ first_added t own (l.name ∷ l.start ∷ []) → own' ≡ first_added t own (m.name ∷ m.start ∷ [])
row_left t own own' q e = e ∙ ap (λ (z : Named). first_added t own (z.name ∷ z.start ∷ [])) q

-- ---- `port`

module _ (x : Bytes) (base : ℕ) (own : List ℕ) where
  port_by : (t : Bool) → is_output x base (next_end x 9) (next_end x (next_end x 9)) ≡ t
      → elim t as (λ _. List ℕ) [ true ↦ first_added port_table own (output_row x base (next_end x 9) (next_end x (next_end x 9))) | false ↦ own ] ≡ port_added x base own
  unfolding port_added
  port_by t e = sym (ap (λ (z : Bool). elim z as (λ _. List ℕ) [ true ↦ first_added port_table own (output_row x base (next_end x 9) (next_end x (next_end x 9))) | false ↦ own ]) e)

  pub no_dir : (get_or x 6 0 ≡ 111 → ⊥) → own ≡ port_added x base own
  no_dir f = port_by false (and_first _ (ne_eqb (get_or x 6 0) 111 f))

  pub no_name : follows x 9 ≡ false → own ≡ port_added x base own
  no_name f = port_by false (and_second (eqb (get_or x 6 0) 111) (and_first _ f))

  module _ {a : ℕ} (qa : a ≡ part_end x 10) where
    name_end : a ≡ next_end x 9
    unfolding next_end
    name_end = qa

    at_name : {t : Bool} → follows x a ≡ t → follows x (next_end x 9) ≡ t
    at_name f = ap (λ (n : ℕ). follows x n) (sym name_end) ∙ f

    pub no_width : follows x a ≡ false → own ≡ port_added x base own
    no_width f = port_by false (and_second (eqb (get_or x 6 0) 111) (and_second (follows x 9) (and_first _ (at_name f))))

    module _ {b : ℕ} (qb : b ≡ part_end x (a + 1)) where
      width_end : b ≡ next_end x (next_end x 9)
      unfolding next_end
      width_end = qb ∙ ap (λ (n : ℕ). part_end x (n + 1)) qa

      at_width : {t : Bool} → follows x b ≡ t → follows x (next_end x (next_end x 9)) ≡ t
      at_width f = ap (λ (n : ℕ). follows x n) (sym width_end) ∙ f

      pub no_start : follows x b ≡ false → own ≡ port_added x base own
      no_start f = port_by false (and_second (eqb (get_or x 6 0) 111) (and_second (follows x 9) (and_second (follows x (next_end x 9)) (and_first _ (at_width f)))))

      pub too_far : 4294967295 - base < b → own ≡ port_added x base own
      too_far l =
          port_by false (and_second (eqb (get_or x 6 0) 111) (and_second (follows x 9) (and_second (follows x (next_end x 9)) (and_second (follows x (next_end x (next_end x 9)))
          (lt-leb (next_end x (next_end x 9)) (4294967295 - base) (omega (arith, width_end)))))))

      pub port_row_left : get_or x 6 0 ≡ 111 → follows x 9 ≡ true → follows x a ≡ true → follows x b ≡ true → b ≤ 4294967295 - base → {c : ℕ} → c ≡ part_end x (b + 1)
          → {u v : ℕ} → u ≡ number_at x 9 a → v ≡ number_at x b c → {own' : List ℕ} → own' ≡ first_added port_table own (u ∷ v ∷ (base + (a + 1)) ∷ (base + b) ∷ []) → own' ≡ port_added x base own
      unfolding next_end
      port_row_left d f g h l {c} qc {u} {v} hu hv e =
          e ∙ ap (λ (n : ℕ). first_added port_table own (n ∷ v ∷ (base + (a + 1)) ∷ (base + b) ∷ [])) hu
          ∙ ap (λ (n : ℕ). first_added port_table own (number_at x 9 a ∷ n ∷ (base + (a + 1)) ∷ (base + b) ∷ [])) (hv ∙ ap (number_at x b) qc)
          ∙ ap (λ (n : ℕ). first_added port_table own (output_row x base n b)) qa
          ∙ ap (λ (n : ℕ). first_added port_table own (output_row x base (part_end x 10) n)) width_end
          ∙ port_by true (and_true (eq-eqb (get_or x 6 0) 111 d) (and_true f (and_true (at_name g) (and_true (at_width h)
          (le-leb (next_end x (next_end x 9)) (4294967295 - base) (omega (arith, width_end)))))))

-- ---- the drive of an output

as_of : (e : Extent) → extent_as (extent_of e) ≡ e
as_of extent.Whole = refl
as_of (extent.Range l h) = refl
as_of extent.Dynamic = refl
as_of extent.Unknown = refl

module _ (y : Bytes) (l : Named) (bound : Bool) (d : ℕ) (names : Names) (own : List ℕ) (x : Extended) (hx : ExtentIs x bound names (index_at y l.end d)) where
  extent_said : (z : Extended) → x ≡ z → ExtentIs z bound names (index_at y l.end d)
  extent_said z q = rw q at hx

  pub driven_outside : {f : Outside} → x ≡ Err f → (own' : List ℕ) → Cleared own' → OwnLeaves false (output_driven y l bound d names own) own'
  unfolding output_driven
  driven_outside {f} q own' z =
      let e : output_driven y l bound d names own ≡ added stored.Full own = rw (extent_said (Err f) q, output_driven) in
      leaves_by false own' e (refl, z)

  driven_is : (w : Extent) → x ≡ Ok w → output_driven y l bound d names own ≡ row_added site_table own (site_numbers (record { name = l.name; extent = w; start = l.start }))
  unfolding output_driven
  driven_is w q =
      let t = extent_said (Ok w) q in
      let z : output_driven y l bound d names own ≡ row_added site_table own (site_numbers (driven_site y l bound d names)) = rw (t.0, output_driven) in
      z ∙ ap (λ (e : Extent). row_added site_table own (site_numbers (record { name = l.name; extent = e; start = l.start }))) (ap extent_as (sym t.1) ∙ as_of w)

  module _ (w : Extent) (q : x ≡ Ok w) (r : Stored) (own₁ : List ℕ)
      (e : added r own₁ ≡ row_added site_table own (site_numbers (record { name = l.name; extent = w; start = l.start }))) where
    pub driven_done : r ≡ stored.Done → OwnLeaves true (output_driven y l bound d names own) own₁
    driven_done f = leaves_by true own₁ (driven_is w q) (stored_done r own₁ e f)

    pub driven_full : r ≡ stored.Full → (own' : List ℕ) → Cleared own' → OwnLeaves false (output_driven y l bound d names own) own'
    driven_full f own' z = leaves_by false own' (driven_is w q) (stored_full r own₁ own' e f z)

-- ---- `drive`

module _ (x : Bytes) (bound : Bool) (d : ℕ) (kinds : List ℕ) (names : Names) (own : List ℕ) {a : ℕ} (qa : a ≡ part_end x 7) {y : Bytes} (qy : y ≡ piece x 6 a)
    (l : Named) (ql : l ≡ named_at y 3) {k : ℕ} (qk : k ≡ get_or kinds l.name 0) where
  drive_is : (v : Driving) → driving (kind_word k) ≡ v → drive_added x bound d kinds names own ≡ drive_by v y l bound d names own
  unfolding drive_added next_end
  drive_is v e =
      let zy : y ≡ lvalue_part x = qy ∙ ap (piece x 6) qa in
      let zl : l ≡ driven x = ql ∙ ap (λ (z : Bytes). named_at z 3) zy in
      ap (λ (z : Bytes). drive_by (driving_by kinds (driven x).name) z (driven x) bound d names own) (sym zy)
      ∙ ap (λ (z : Named). drive_by (driving_by kinds z.name) y z bound d names own) (sym zl)
      ∙ ap (λ (j : ℕ). drive_by (driving (kind_word j)) y l bound d names own) (sym qk)
      ∙ ap (λ (v : Driving). drive_by v y l bound d names own) e

  pub drive_output : k ≡ 2 → (r : Bool) (own' : List ℕ) → OwnLeaves r (output_driven y l bound d names own) own' → OwnLeaves r (drive_added x bound d kinds names own) own'
  drive_output z r own' h = leaves_by r own' (drive_is an_output (ap (λ (j : ℕ). driving (kind_word j)) z)) h

  pub drive_wire : k ≡ 3 → {own' : List ℕ} → own' ≡ first_added misuse_table own (l.name ∷ l.start ∷ 0 ∷ []) → OwnLeaves true (drive_added x bound d kinds names own) own'
  drive_wire z e = drive_is a_wire (ap (λ (j : ℕ). driving (kind_word j)) z) ∙ ap (added stored.Done) (sym e)

  pub drive_reg : k ≡ 4 → {own' : List ℕ} → own' ≡ first_added misuse_table own (l.name ∷ l.start ∷ 1 ∷ []) → OwnLeaves true (drive_added x bound d kinds names own) own'
  drive_reg z e = drive_is a_reg (ap (λ (j : ℕ). driving (kind_word j)) z) ∙ ap (added stored.Done) (sym e)

  pub drive_mem : k ≡ 5 → {own' : List ℕ} → own' ≡ first_added misuse_table own (l.name ∷ l.start ∷ 2 ∷ []) → OwnLeaves true (drive_added x bound d kinds names own) own'
  drive_mem z e = drive_is a_mem (ap (λ (j : ℕ). driving (kind_word j)) z) ∙ ap (added stored.Done) (sym e)

  pub drive_none : driving (kind_word k) ≡ nothing → OwnLeaves true (drive_added x bound d kinds names own) own
  drive_none e = drive_is nothing e

-- ---- `set`

module _ (s : Bytes) (block : ℕ) (kinds own : List ℕ) (l : Named) (ql : l ≡ named_at s 4) {k : ℕ} (qk : k ≡ get_or kinds l.name 0) where
  set_is : (v : Driving) → driving (kind_word k) ≡ v → set_added block kinds s own ≡ set_by v l block own
  unfolding set_added
  set_is v e =
      ap (λ (z : Named). set_by (driving_by kinds z.name) z block own) (sym ql) ∙ ap (λ (j : ℕ). set_by (driving (kind_word j)) l block own) (sym qk)
      ∙ ap (λ (v : Driving). set_by v l block own) e

  pub set_none : driving (kind_word k) ≡ nothing → OwnLeaves true (set_added block kinds s own) own
  set_none e = set_is nothing e

  pub set_misused : 2 ≤ k → k < 4 → {own' : List ℕ} → own' ≡ first_added misuse_table own (l.name ∷ l.start ∷ 3 ∷ []) → OwnLeaves true (set_added block kinds s own) own'
  set_misused y z {own'} e = go k refl y z
    where
      go : (j : ℕ) → k ≡ j → 2 ≤ j → j < 4 → OwnLeaves true (set_added block kinds s own) own'
      go zero q y z = absurd (omega arith)
      go (suc zero) q y z = absurd (omega arith)
      go (suc (suc zero)) q y z = set_is an_output (ap (λ (i : ℕ). driving (kind_word i)) q) ∙ ap (added stored.Done) (sym e)
      go (suc (suc (suc zero))) q y z = set_is a_wire (ap (λ (i : ℕ). driving (kind_word i)) q) ∙ ap (added stored.Done) (sym e)
      go (suc (suc (suc (suc j)))) q y z = absurd (omega arith)

  set_pair : 4 ≤ k → k ≤ 5 → set_added block kinds s own ≡ block_added l.name block own
  set_pair y z = go k refl y z
    where
      go : (j : ℕ) → k ≡ j → 4 ≤ j → j ≤ 5 → set_added block kinds s own ≡ block_added l.name block own
      go zero q y z = absurd (omega arith)
      go (suc zero) q y z = absurd (omega arith)
      go (suc (suc zero)) q y z = absurd (omega arith)
      go (suc (suc (suc zero))) q y z = absurd (omega arith)
      go (suc (suc (suc (suc zero)))) q y z = set_is a_reg (ap (λ (i : ℕ). driving (kind_word i)) q)
      go (suc (suc (suc (suc (suc zero))))) q y z = set_is a_mem (ap (λ (i : ℕ). driving (kind_word i)) q)
      go (suc (suc (suc (suc (suc (suc j)))))) q y z = absurd (omega arith)

  module _ (y : 4 ≤ k) (z : k ≤ 5) (r : Stored) (own₁ : List ℕ) (e : added r own₁ ≡ block_added l.name block own) where
    pub set_stored : r ≡ stored.Done → OwnLeaves true (set_added block kinds s own) own₁
    set_stored d = leaves_by true own₁ (set_pair y z) (stored_done r own₁ e d)

    pub set_refused : r ≡ stored.Full → (own' : List ℕ) → Cleared own' → OwnLeaves false (set_added block kinds s own) own'
    set_refused d own' c = leaves_by false own' (set_pair y z) (stored_full r own₁ own' e d c)

-- a kind below 2 or above 5 drives nothing
low_drives : (k : ℕ) → k < 2 → driving (kind_word k) ≡ nothing
low_drives zero l = refl
low_drives (suc zero) l = refl
low_drives (suc (suc k)) l = absurd (omega arith)

high_drives : (k : ℕ) → 5 < k → driving (kind_word k) ≡ nothing
high_drives zero l = absurd (omega arith)
high_drives (suc zero) l = absurd (omega arith)
high_drives (suc (suc zero)) l = absurd (omega arith)
high_drives (suc (suc (suc zero))) l = absurd (omega arith)
high_drives (suc (suc (suc (suc zero)))) l = absurd (omega arith)
high_drives (suc (suc (suc (suc (suc zero))))) l = absurd (omega arith)
high_drives (suc (suc (suc (suc (suc (suc k)))))) l = refl

pub undriven : (k : ℕ) → (k < 2) ⊎ (5 < k) → driving (kind_word k) ≡ nothing
undriven k (inl l) = low_drives k l
undriven k (inr l) = high_drives k l

-- ---- `default`

-- a kind that is not 4 is no register's
default_other_kind : (k : ℕ) → (k ≡ 4 → ⊥) → (n block : ℕ) (own : List ℕ) → default_by (driving (kind_word k)) n block own ≡ added stored.Done own
default_other_kind zero f n block own = refl
default_other_kind (suc zero) f n block own = refl
default_other_kind (suc (suc zero)) f n block own = refl
default_other_kind (suc (suc (suc zero))) f n block own = refl
default_other_kind (suc (suc (suc (suc zero)))) f n block own = absurd (f refl)
default_other_kind (suc (suc (suc (suc (suc zero))))) f n block own = refl
default_other_kind (suc (suc (suc (suc (suc (suc k)))))) f n block own = refl

module _ (s : Bytes) (block : ℕ) (kinds own : List ℕ) {a : ℕ} (qa : a ≡ part_end s 9) {n : ℕ} (qn : n ≡ number_at s 8 a) {k : ℕ} (qk : k ≡ get_or kinds n 0) where
  default_is : default_added block kinds s own ≡ default_by (driving (kind_word k)) n block own
  unfolding default_added next_end
  default_is =
      let z : n ≡ default_name s = qn ∙ ap (number_at s 8) qa in
      ap (λ (m : ℕ). default_by (driving_by kinds m) m block own) (sym z) ∙ ap (λ (j : ℕ). default_by (driving (kind_word j)) n block own) (sym qk)

  pub default_none : (k ≡ 4 → ⊥) → OwnLeaves true (default_added block kinds s own) own
  default_none f = default_is ∙ default_other_kind k f n block own

  module _ (z : k ≡ 4) (r : Stored) (own₁ : List ℕ) (e : added r own₁ ≡ block_added n block own) where
    default_pair : default_added block kinds s own ≡ block_added n block own
    default_pair = default_is ∙ ap (λ (j : ℕ). default_by (driving (kind_word j)) n block own) z

    pub default_stored : r ≡ stored.Done → OwnLeaves true (default_added block kinds s own) own₁
    default_stored d = leaves_by true own₁ default_pair (stored_done r own₁ e d)

    pub default_refused : r ≡ stored.Full → (own' : List ℕ) → Cleared own' → OwnLeaves false (default_added block kinds s own) own'
    default_refused d own' c = leaves_by false own' default_pair (stored_full r own₁ own' e d c)

-- ---- statements one behind the other

module _ (f : Bytes → List ℕ → Added (List ℕ)) (s : Bytes) (e : ℕ) (own : List ℕ) where
  pub all_end : follows s e ≡ false → OwnLeaves true (all_added f (parts_behind s e) own) own
  unfolding all_added
  all_end g = ap (λ (ps : List Bytes). all_added f ps own) (parts_same s e ∙ lines.others_none s e g)

  module _ (g : follows s e ≡ true) {a : ℕ} (qa : a ≡ part_end s (e + 1)) {y : Bytes} (qy : y ≡ piece s e a) where
    all_more : all_added f (parts_behind s e) own ≡ and_then (f y own) (all_added f (parts_behind s a))
    unfolding all_added next_end
    all_more =
        ap (λ (ps : List Bytes). all_added f ps own)
        (parts_same s e ∙ lines.others_more s e g ∙ ap (λ (n : ℕ). piece s e n ∷ lines.others s n) (sym qa) ∙ ap (λ (p : Bytes). p ∷ lines.others s a) (sym qy) ∙ ap (λ (ps : List Bytes). y ∷ ps) (sym (parts_same s a)))

    pub all_stop : (b : Bool) → b ≡ false → (own₁ : List ℕ) → OwnLeaves b (f y own) own₁ → OwnLeaves false (all_added f (parts_behind s e) own) own₁
    all_stop b q own₁ h = leaves_by false own₁ all_more (leaves_stop (f y own) own₁ (all_added f (parts_behind s a)) b q h)

    pub all_step : (b : Bool) → b ≡ true → (own₁ : List ℕ) → OwnLeaves b (f y own) own₁ → all_added f (parts_behind s e) own ≡ all_added f (parts_behind s a) own₁
    all_step b q own₁ h = all_more ∙ then_goes (f y own) own₁ (all_added f (parts_behind s a)) (leaves_kept b (f y own) own₁ q h)

-- ---- one statement

module _ (block : ℕ) (kinds : List ℕ) (d : ℕ) (s : Bytes) (own : List ℕ) where
  pub added_shut : d ≡ 0 → OwnLeaves true (stmt_added block kinds d s own) own
  unfolding stmt_added
  added_shut z = ap (λ (j : ℕ). stmt_added block kinds j s own) z

  abbrev by_word : (f : Bytes → List ℕ → Added (List ℕ)) → Added (List ℕ)
  by_word f =
      elim (eqb (get_or s 1 0) 115) as (λ _. Added (List ℕ)) [
        | true ↦ set_added block kinds s own
        | false ↦ elim (eqb (get_or s 1 0) 100) as (λ _. Added (List ℕ)) [
          | true ↦ default_added block kinds s own
          | false ↦ elim (eqb (get_or s 1 0) 108) as (λ _. Added (List ℕ)) [ true ↦ all_added f (parts_behind s 5) own | false ↦ when_added f s own ]
        ]
      ]

  module _ (z : d ≡ 0 → ⊥) where
    stmt_opens : stmt_added block kinds d s own ≡ by_word (stmt_added block kinds (d - 1))
    unfolding stmt_added
    stmt_opens = go d z
      where
        go : (j : ℕ) → (j ≡ 0 → ⊥) → stmt_added block kinds j s own ≡ by_word (stmt_added block kinds (j - 1))
        go zero z = absurd (z refl)
        go (suc j) z = let e : j ≡ suc j - 1 = omega arith in ap (λ (i : ℕ). by_word (stmt_added block kinds i)) e

    pub added_set : get_or s 1 0 ≡ 115 → (r : Bool) (own' : List ℕ) → OwnLeaves r (set_added block kinds s own) own' → OwnLeaves r (stmt_added block kinds d s own) own'
    added_set b r own' h = leaves_by r own' {a = set_added block kinds s own} (stmt_opens ∙ rw (eq-eqb (get_or s 1 0) 115 b, by_word)) h

    module _ (n : get_or s 1 0 ≡ 115 → ⊥) where
      pub added_default : get_or s 1 0 ≡ 100 → (r : Bool) (own' : List ℕ) → OwnLeaves r (default_added block kinds s own) own' → OwnLeaves r (stmt_added block kinds d s own) own'
      added_default b r own' h = leaves_by r own' {a = default_added block kinds s own} (stmt_opens ∙ rw (ne_eqb (get_or s 1 0) 115 n, eq-eqb (get_or s 1 0) 100 b, by_word)) h

      module _ (n₂ : get_or s 1 0 ≡ 100 → ⊥) where
        pub added_loop : {v : ℕ} → v ≡ get_or s 1 0 → v ≡ 108 → (r : Bool) (own' : List ℕ) → OwnLeaves r (all_added (stmt_added block kinds (d - 1)) (parts_behind s 5) own) own'
            → OwnLeaves r (stmt_added block kinds d s own) own'
        added_loop q b r own' h =
            leaves_by r own' {a = all_added (stmt_added block kinds (d - 1)) (parts_behind s 5) own}
            (stmt_opens ∙ rw (ne_eqb (get_or s 1 0) 115 n, ne_eqb (get_or s 1 0) 100 n₂, eq-eqb (get_or s 1 0) 108 (sym q ∙ b), by_word)) h

        module _ (n₃ : get_or s 1 0 ≡ 108 → ⊥) {a : ℕ} (qa : a ≡ part_end s 6) where
          stmt_when : stmt_added block kinds d s own ≡ when_added (stmt_added block kinds (d - 1)) s own
          stmt_when = stmt_opens ∙ rw (ne_eqb (get_or s 1 0) 115 n, ne_eqb (get_or s 1 0) 100 n₂, ne_eqb (get_or s 1 0) 108 n₃, by_word)

          then_end : a ≡ next_end s 5
          unfolding next_end
          then_end = qa

          second_there : {t : Bool} → follows s a ≡ t → follows s (next_end s 5) ≡ t
          second_there g = ap (λ (m : ℕ). follows s m) (sym then_end) ∙ g

          pub when_one : follows s a ≡ false → OwnLeaves true (stmt_added block kinds d s own) own
          unfolding when_added
          when_one g = stmt_when ∙ rw (second_there g, when_added)

          module _ (g : follows s a ≡ true) {y : Bytes} (qy : y ≡ piece s 5 a) where
            abbrev inner : Bytes → List ℕ → Added (List ℕ)
            inner x o = all_added (stmt_added block kinds (d - 1)) (parts_behind x 5) o

            when_two : {b : ℕ} → b ≡ part_end s (a + 1) → {x : Bytes} → x ≡ piece s a b → stmt_added block kinds d s own ≡ and_then (inner y own) (inner x)
            unfolding when_added next_end
            when_two {b} qb {x} qx =
                let e : when_added (stmt_added block kinds (d - 1)) s own
                ≡ and_then (inner (piece s 5 (next_end s 5)) own) (inner (piece s (next_end s 5) (next_end s (next_end s 5)))) = rw (second_there g, when_added) in
                stmt_when ∙ e
                ∙ ap (λ (m : ℕ). and_then (inner (piece s 5 m) own) (inner (piece s m (part_end s (m + 1))))) (sym qa)
                ∙ ap (λ (p : Bytes). and_then (inner p own) (inner (piece s a (part_end s (a + 1))))) (sym qy)
                ∙ ap (λ (p : Bytes). and_then (inner y own) (inner p)) (sym (qx ∙ ap (piece s a) qb))

            pub when_stop : (c : Bool) → c ≡ false → (own₁ : List ℕ) → OwnLeaves c (inner y own) own₁ → OwnLeaves false (stmt_added block kinds d s own) own₁
            when_stop c q own₁ h = leaves_by false own₁ (when_two refl refl) (leaves_stop (inner y own) own₁ _ c q h)

            pub when_then : {b : ℕ} → b ≡ part_end s (a + 1) → {x : Bytes} → x ≡ piece s a b → (c : Bool) → c ≡ true → (own₁ : List ℕ) → OwnLeaves c (inner y own) own₁
                → (r : Bool) (own₂ : List ℕ) → OwnLeaves r (inner x own₁) own₂ → OwnLeaves r (stmt_added block kinds d s own) own₂
            when_then qb {x} qx c q own₁ h r own₂ k = leaves_by r own₂ (when_two qb qx) (leaves_then (inner y own) own₁ (inner x) c q h r own₂ k)

-- ---- `on`

pub on_left : (x : Bytes) (d : ℕ) (kinds own : List ℕ) {a : ℕ} → a ≡ part_end x 4 → {block : ℕ} → block ≡ number_at x 3 a → (r : Bool) (own' : List ℕ)
    → OwnLeaves r (all_added (stmt_added block kinds d) (parts_behind x a) own) own' → OwnLeaves r (on_added x d kinds own) own'
unfolding on_added next_end
on_left x d kinds own {a} qa {block} qb r own' h =
    leaves_by r own'
    (ap (λ (m : ℕ). all_added (stmt_added (number_at x 3 m) kinds d) (parts_behind x m) own) (sym qa)
    ∙ ap (λ (m : ℕ). all_added (stmt_added m kinds d) (parts_behind x a) own) (sym qb)) h

-- ---- any line

module _ (x : Bytes) (base : ℕ) (bound : Bool) (d : ℕ) (kinds : List ℕ) (names : Names) (own : List ℕ) where
  pub line_drive : get_or x 1 0 ≡ 100 → (r : Bool) (own' : List ℕ) → OwnLeaves r (drive_added x bound d kinds names own) own' → OwnLeaves r (line_added x base bound d kinds names own) own'
  unfolding line_added
  line_drive b r own' h = leaves_by r own' {a = drive_added x bound d kinds names own} (rw (eq-eqb (get_or x 1 0) 100 b, line_added)) h

  module _ (n : get_or x 1 0 ≡ 100 → ⊥) where
    pub line_on : get_or x 1 0 ≡ 111 → (r : Bool) (own' : List ℕ) → OwnLeaves r (on_added x d kinds own) own' → OwnLeaves r (line_added x base bound d kinds names own) own'
    unfolding line_added
    line_on b r own' h = leaves_by r own' {a = on_added x d kinds own} (rw (ne_eqb (get_or x 1 0) 100 n, eq-eqb (get_or x 1 0) 111 b, line_added)) h

    module _ (n₂ : get_or x 1 0 ≡ 111 → ⊥) where
      pub line_port : get_or x 1 0 ≡ 112 → {own' : List ℕ} → own' ≡ port_added x base own → OwnLeaves true (line_added x base bound d kinds names own) own'
      unfolding line_added
      line_port b e = rw (ne_eqb (get_or x 1 0) 100 n, ne_eqb (get_or x 1 0) 111 n₂, eq-eqb (get_or x 1 0) 112 b, line_added) (ap (added stored.Done) (sym e))

      module _ (n₃ : get_or x 1 0 ≡ 112 → ⊥) where
        pub line_reg : get_or x 1 0 ≡ 114 → {own' : List ℕ} → own' ≡ reg_added x own → OwnLeaves true (line_added x base bound d kinds names own) own'
        unfolding line_added
        line_reg b e =
            rw (ne_eqb (get_or x 1 0) 100 n, ne_eqb (get_or x 1 0) 111 n₂, ne_eqb (get_or x 1 0) 112 n₃, eq-eqb (get_or x 1 0) 114 b, line_added) (ap (added stored.Done) (sym e))

        module _ (n₄ : get_or x 1 0 ≡ 114 → ⊥) where
          pub line_mem : get_or x 1 0 ≡ 109 → {own' : List ℕ} → own' ≡ mem_added x own → OwnLeaves true (line_added x base bound d kinds names own) own'
          unfolding line_added
          line_mem b e =
              rw (ne_eqb (get_or x 1 0) 100 n, ne_eqb (get_or x 1 0) 111 n₂, ne_eqb (get_or x 1 0) 112 n₃, ne_eqb (get_or x 1 0) 114 n₄, eq-eqb (get_or x 1 0) 109 b, line_added)
              (ap (added stored.Done) (sym e))

          pub line_none : (get_or x 1 0 ≡ 109 → ⊥) → OwnLeaves true (line_added x base bound d kinds names own) own
          unfolding line_added
          line_none n₅ =
              rw (ne_eqb (get_or x 1 0) 100 n, ne_eqb (get_or x 1 0) 111 n₂, ne_eqb (get_or x 1 0) 112 n₃, ne_eqb (get_or x 1 0) 114 n₄, ne_eqb (get_or x 1 0) 109 n₅, line_added)
