-- The turns of the pass over the lines, one law for each way, over what `line_step` and `enter_line` say.
-- Assumes nothing.
use mathlib.Core.Path.{sym, ◌≡◌, refl, ap, ◌∙◌}
use mathlib.Core.Bool.{Bool, true, false, not}
use mathlib.Core.List.{List, [], ◌∷◌}
use Prim.Native.Nat.{ℕ, zero, suc, ◌+◌, ◌*◌, ◌-◌, ◌≤◌, ◌<◌}
use native.Mathlib.Omega.{arith}
use lib.Dec.{eqb}
use lib.ListN.{length, get_or, set, replicate, length-set, length-replicate}
use borrow.Author.Tests.{eqb-true, eqb-false, ne_eqb}
use Rattle.spec.specs.Bytes.{Bytes}
use Rattle.spec.specs.Syntax.{name_bound}
use Rattle.spec.specs.Refusal.{Verdict, lines, Before, has_name}
use Rattle.spec.proofs.Numbers.{if_case}
use Rattle.lines.specs.Kinds.{byte_of}
use Rattle.lines.specs.Parse.{kind_of}
use Rattle.lines.specs.Read.{fault_code, fault_of, step_number, line_step}
use Rattle.lines.specs.Verdict.{modules_in, told}
use Rattle.lines.specs.Tables.{entries, marked, second_key, flag_of}
use Rattle.lines.specs.Pass.{entered_number, at_first_line, step_at, behind, seen_behind, kinds_behind, mods_behind, Fitting, Standing, Fills}
use Rattle.lines.proofs.Filled.{Filling, Reading}
use Rattle.lines.specs.declared.read.Step.{Step}
use Rattle.lines.specs.declared.read.Step.TheVariants.{Module, Kind, Val, Item}
use Rattle.lines.specs.declared.read.Fault.{Fault}
use Rattle.lines.specs.declared.read.Fault.TheVariants.{TooLong, OutsideSet, NotOneForm, BadlyWritten, OutOfRange, OutOfPlace, OneTooMany}
use Rattle.lines.specs.declared.read.Refusal.{Refusal}
use Rattle.std.specs.Prelude.{Result, Ok, Err}
use Rattle.lines.specs.declared.tables.Progress.{Progress}
use Rattle.lines.proofs.Steps.{Right, line_right}
use Rattle.lines.proofs.Turns.{pass_room, going_start, going_right, going_module, going_kind, going_val, going_item, going_fault, going_end}
use Rattle.lines.proofs.Tabled.{header_before, item_before, second_kind, second_bound, entries_long, filled_start, filled_kind, filled_val, filled_item, filled_module, filled_end}

marked_long : (table : List ℕ) (m i e : ℕ) → length (marked table m i e) ≡ length table
marked_long table m i e = length-set (set table (m * 4 + 2) i) (m * 4 + 3) e ∙ length-set table (m * 4 + 2) i

behind_fault : (x : Result Step Fault) (p : Progress) → entered_number (behind x p) ≡ step_number x
behind_fault (Err f) p = refl
behind_fault (Ok (Module feed)) p = refl
behind_fault (Ok (Kind feed n)) p = refl
behind_fault (Ok (Val feed)) p = refl
behind_fault (Ok (Item feed)) p = refl

fault_is : (f : Fault) → fault_of (fault_code f) ≡ f
fault_is TooLong = refl
fault_is OutsideSet = refl
fault_is NotOneForm = refl
fault_is BadlyWritten = refl
fault_is OutOfRange = refl
fault_is OutOfPlace = refl
fault_is OneTooMany = refl

no_step : {q : Progress} {f : Fault} → ◌≡◌ {A = Result Progress Fault} (Ok q) (Err f) → ⊥
no_step e = let z : ◌≡◌ {A = ℕ} 0 1 = cc e in omega arith

one_step : {q r : Progress} → ◌≡◌ {A = Result Progress Fault} (Ok q) (Ok r) → q ≡ r
one_step e = cc e

one_fault : {f k : Fault} → ◌≡◌ {A = Result Progress Fault} (Err f) (Err k) → f ≡ k
one_fault e = cc e

-- what an arm of `enter_line` leaves is what its step says
pub behind_by : (t : Bytes) (at : ℕ) (p : Progress) (seen kinds mods : List ℕ) (x : Result Step Fault) → x ≡ step_at t at p seen → (q : Result Progress Fault) (ss ks ms : List ℕ)
    → q ≡ behind x p → ss ≡ seen_behind x seen → ks ≡ kinds_behind x t at p kinds → ms ≡ mods_behind x t at p mods
    → (q ≡ behind (step_at t at p seen) p)
    × ((ss ≡ seen_behind (step_at t at p seen) seen)
    × ((ks ≡ kinds_behind (step_at t at p seen) t at p kinds) × ((ms ≡ mods_behind (step_at t at p seen) t at p mods) × (entered_number q ≡ step_number (step_at t at p seen)))))
behind_by t at p seen kinds mods x e q ss ks ms a b c d = (
  a ∙ ap (λ (y : Result Step Fault). behind y p) e,
  (
    b ∙ ap (λ (y : Result Step Fault). seen_behind y seen) e,
    (c ∙ ap (λ (y : Result Step Fault). kinds_behind y t at p kinds) e, (d ∙ ap (λ (y : Result Step Fault). mods_behind y t at p mods) e, ap entered_number a ∙ behind_fault x p ∙ ap step_number e)),
  ),
)

-- the names below n whose place in `seen` is not 0
names_in : ℕ → List ℕ → List ℕ
names_in zero seen = []
names_in (suc n) seen = elim (eqb (get_or seen n 0) 0) [ true ↦ names_in n seen | false ↦ n ∷ names_in n seen ]

module _ (seen : List ℕ) where
  names_above : (n k : ℕ) → n ≤ k → has_name k (names_in n seen) ≡ false
  unfolding has_name names_in
  names_above zero k l = refl
  names_above (suc n) k l =
      if_case (λ (z : List ℕ). has_name k z ≡ false) (eqb (get_or seen n 0) 0) (names_in n seen) (n ∷ names_in n seen) (λ _. names_above n k (omega arith))
      (λ _. rw (ne_eqb k n (λ e. omega arith)) (names_above n k (omega arith)))

  abbrev Agrees : ℕ → List ℕ → Type 0
  Agrees k z = eqb (get_or seen k 0) 0 ≡ not (has_name k z)

  names_agree : (n k : ℕ) → k < n → Agrees k (names_in n seen)
  unfolding has_name names_in
  names_agree zero k l = absurd (omega arith)
  names_agree (suc n) k l = go (eqb k n) refl (λ h. names_agree n k h)
    where
      go : (b : Bool) → eqb k n ≡ b → (k < n → Agrees k (names_in n seen)) → Agrees k (names_in (suc n) seen)
      go true e f =
          let q : k ≡ n = eqb-true k n e in
          let here : eqb (get_or seen k 0) 0 ≡ eqb (get_or seen n 0) 0 = ap (λ (j : ℕ). eqb (get_or seen j 0) 0) q in
          if_case (Agrees k) (eqb (get_or seen n 0) 0) (names_in n seen) (n ∷ names_in n seen) (λ u. here ∙ u ∙ rw (names_above n k (omega arith))) (λ u. here ∙ u ∙ rw e)
      go false e f =
          let q : ¬ (k ≡ n) = eqb-false k n e in
          let m = f (omega arith) in
          if_case (Agrees k) (eqb (get_or seen n 0) 0) (names_in n seen) (n ∷ names_in n seen) (λ u. m) (λ u. rw e m)

-- what a line is, where one is taken
module _ (t : Bytes) (at : ℕ) (p : Progress) (seen kinds mods : List ℕ) (s : Standing t at p seen kinds mods) where
  abbrev before : Before
  before = record { modules = p.modules; has_item = p.items; kinds = names_in name_bound seen }

  told_right : (x : Result Step Fault) → x ≡ step_at t at p seen → Right t at before x
  told_right x e = rw e (line_right t at before s.few seen (names_agree seen name_bound) s.line s.ends)

  -- the next row, and the numbers that a line gives
  pub row_fits : (p.row + 1 ≤ 32769) × (length t ≤ 32768)
  row_fits = (omega (arith, s.early, s.line, s.fitting.ended.short), s.fitting.ended.short)

  pub module_facts : (feed : ℕ) → Ok (Module feed) ≡ step_at t at p seen → (feed < length t) × (p.modules < 32) × (p.modules * 4 + 3 < length mods)
  module_facts feed e = let r = told_right (Ok (Module feed)) e in let u = pass_room t at feed before _ r.1 s.line in (u.0, r.2, let v = r.2 in omega (arith, v, s.fitting.mods_fit))

  pub kind_facts : (feed n : ℕ) → Ok (Kind feed n) ≡ step_at t at p seen → (feed < length t) × (0 < p.modules) × (n < length seen) × ((p.modules - 1) * name_bound + n < length kinds) × ((p.modules - 1) * 4 + 3 < length mods)
  kind_facts feed n e =
      let r = told_right (Ok (Kind feed n)) e in
      let u = pass_room t at feed before _ r.1 s.line in
      let z = (header_before t at feed before _ r.1).0 in
      let v = r.2 in
      (u.0, z, omega (arith, v, s.places), omega (arith, v, z, s.few, s.fitting.kinds_fit), omega (arith, z, s.few, s.fitting.mods_fit))

  pub val_facts : (feed : ℕ) → Ok (Val feed) ≡ step_at t at p seen → (feed < length t) × (0 < p.modules) × ((p.modules - 1) * 4 + 3 < length mods)
  val_facts feed e =
      let r = told_right (Ok (Val feed)) e in
      let u = pass_room t at feed before _ r.2 s.line in
      let z = (header_before t at feed before _ r.2).0 in
      (u.0, z, omega (arith, z, s.few, s.fitting.mods_fit))

  pub item_facts : (feed : ℕ) → Ok (Item feed) ≡ step_at t at p seen → (feed < length t) × (0 < p.modules) × ((p.modules - 1) * 4 + 3 < length mods)
  item_facts feed e =
      let r = told_right (Ok (Item feed)) e in
      let u = pass_room t at feed before _ r.1 s.line in
      let z = item_before t at feed before _ r.1 in
      (u.0, z, omega (arith, z, s.few, s.fitting.mods_fit))

  -- the next line is further on
  pub further : (q : Progress) → Ok q ≡ behind (step_at t at p seen) p → length t - q.next < length t - at
  further = go (step_at t at p seen) refl
    where
      go : (x : Result Step Fault) → x ≡ step_at t at p seen → (q : Progress) → Ok q ≡ behind x p → length t - q.next < length t - at
      go (Err k) e q z = absurd (no_step z)
      go (Ok (Module feed)) e q z = let n = ap (λ (y : Progress). y.next) (one_step z) in let u = pass_room t at feed before _ (told_right (Ok (Module feed)) e).1 s.line in omega (arith, n, s.line, u.0, u.1)
      go (Ok (Kind feed k)) e q z = let n = ap (λ (y : Progress). y.next) (one_step z) in let u = pass_room t at feed before _ (told_right (Ok (Kind feed k)) e).1 s.line in omega (arith, n, s.line, u.0, u.1)
      go (Ok (Val feed)) e q z = let n = ap (λ (y : Progress). y.next) (one_step z) in let u = pass_room t at feed before _ (told_right (Ok (Val feed)) e).2 s.line in omega (arith, n, s.line, u.0, u.1)
      go (Ok (Item feed)) e q z = let n = ap (λ (y : Progress). y.next) (one_step z) in let u = pass_room t at feed before _ (told_right (Ok (Item feed)) e).1 s.line in omega (arith, n, s.line, u.0, u.1)

module _ (t : Bytes) (at row modules : ℕ) (items : Bool) (first : ℕ) (seen kinds₀ mods₀ kinds mods : List ℕ) (f : Filling t at row modules items first seen kinds₀ mods₀ kinds mods) (h : at < length t) where
  abbrev here : Before
  here = record { modules = modules; has_item = items; kinds = f.going.kinds }

  right : (x : Result Step Fault) → x ≡ line_step t at modules items seen → Right t at here x
  right x e = going_right t at row modules items seen f.going h x e

  module _ (feed : ℕ) where
    filling_module : Ok (Module feed) ≡ line_step t at modules items seen
        → Filling t (feed + 1) (row + 1) (modules + 1) false (feed + 1) (replicate (length seen) 0) kinds₀ mods₀ kinds (entries mods modules (flag_of (second_key t at)) (feed + 1) (feed + 1) (feed + 1))
    filling_module e =
        let r = right (Ok (Module feed)) e in
        let z = second_bound t at feed here modules r.0 r.1 in
        record {
          going = going_module t at row modules items seen f.going h feed r f.long;
          long = length-replicate {A = ℕ} (length seen) 0 ∙ f.long;
          filled = rw z (filled_module t at modules items first kinds₀ mods₀ kinds mods f.filled h feed f.going.kinds r.0 r.1);
        }

    filling_kind : (n : ℕ) → Ok (Kind feed n) ≡ line_step t at modules items seen
        → Filling t (feed + 1) (row + 1) modules items (feed + 1) (set seen n 1) kinds₀ mods₀ (set kinds ((modules - 1) * name_bound + n) (byte_of (kind_of (second_key t at)))) (marked mods (modules - 1) (feed + 1) (feed + 1))
    filling_kind n e =
        let r = right (Ok (Kind feed n)) e in
        let z = second_kind t at feed here n r.0 r.1 in
        record {
          going = going_kind t at row modules items seen f.going h feed n r f.long;
          long = length-set seen n 1 ∙ f.long;
          filled = rw z (filled_kind t at modules items first kinds₀ mods₀ kinds mods f.filled h feed f.going.kinds n r.0 r.1);
        }

    filling_val : Ok (Val feed) ≡ line_step t at modules items seen → Filling t (feed + 1) (row + 1) modules items (feed + 1) seen kinds₀ mods₀ kinds (marked mods (modules - 1) (feed + 1) (feed + 1))
    filling_val e =
        let r = right (Ok (Val feed)) e in
        record {
          going = going_val t at row modules items seen f.going h feed r;
          long = f.long;
          filled = filled_val t at modules items first kinds₀ mods₀ kinds mods f.filled h feed f.going.kinds r.0 r.1 r.2;
        }

    filling_item : Ok (Item feed) ≡ line_step t at modules items seen → Filling t (feed + 1) (row + 1) modules true first seen kinds₀ mods₀ kinds (marked mods (modules - 1) first (feed + 1))
    filling_item e =
        let r = right (Ok (Item feed)) e in
        record {
          going = going_item t at row modules items seen f.going h feed r;
          long = f.long;
          filled = filled_item t at modules items first kinds₀ mods₀ kinds mods f.filled h feed f.going.kinds r.0 r.1;
        }

-- ---- the whole pass

pub reading_start : (t : Bytes) (seen kinds mods : List ℕ) → seen ≡ replicate name_bound 0 → Fitting t kinds mods → Reading t kinds mods at_first_line seen kinds mods
reading_start t seen kinds mods z f = rw z (record {
  places = length-replicate {A = ℕ} name_bound 0;
  kinds_kept = refl;
  mods_kept = refl;
  goes_on = record { going = going_start t f.ended; long = length-replicate {A = ℕ} name_bound 0; filled = filled_start t kinds mods };
})

module _ (t : Bytes) (kinds₀ mods₀ : List ℕ) (fit : Fitting t kinds₀ mods₀) (p : Progress) (seen kinds mods : List ℕ) (w : Reading t kinds₀ mods₀ p seen kinds mods) where
  module _ (h : p.next < length t) where
    pub standing : Standing t p.next p seen kinds mods
    standing =
        let g = w.goes_on.going in
        record {
          fitting = record { ended = fit.ended; kinds_fit = omega (arith, fit.kinds_fit, w.kinds_kept); mods_fit = omega (arith, fit.mods_fit, w.mods_kept) };
          line = h;
          ends = g.ends;
          few = g.few;
          early = g.early;
          places = w.places;
        }

    -- the pass behind the line
    turn : (x : Result Step Fault) → x ≡ step_at t p.next p seen → (q : Progress) → Ok q ≡ behind x p → Reading t kinds₀ mods₀ q (seen_behind x seen) (kinds_behind x t p.next p kinds) (mods_behind x t p.next p mods)
    turn (Err k) e q z = absurd (no_step z)
    turn (Ok (Module feed)) e q z = rw (one_step z) (record {
      places = length-replicate {A = ℕ} (length seen) 0 ∙ w.places;
      kinds_kept = w.kinds_kept;
      mods_kept = entries_long mods p.modules (flag_of (second_key t p.next)) (feed + 1) (feed + 1) (feed + 1) ∙ w.mods_kept;
      goes_on = filling_module t p.next p.row p.modules p.items p.first seen kinds₀ mods₀ kinds mods w.goes_on h feed e;
    })
    turn (Ok (Kind feed n)) e q z = rw (one_step z) (record {
      places = length-set seen n 1 ∙ w.places;
      kinds_kept = length-set kinds ((p.modules - 1) * name_bound + n) (byte_of (kind_of (second_key t p.next))) ∙ w.kinds_kept;
      mods_kept = marked_long mods (p.modules - 1) (feed + 1) (feed + 1) ∙ w.mods_kept;
      goes_on = filling_kind t p.next p.row p.modules p.items p.first seen kinds₀ mods₀ kinds mods w.goes_on h feed n e;
    })
    turn (Ok (Val feed)) e q z = rw (one_step z) (record {
      places = w.places;
      kinds_kept = w.kinds_kept;
      mods_kept = marked_long mods (p.modules - 1) (feed + 1) (feed + 1) ∙ w.mods_kept;
      goes_on = filling_val t p.next p.row p.modules p.items p.first seen kinds₀ mods₀ kinds mods w.goes_on h feed e;
    })
    turn (Ok (Item feed)) e q z = rw (one_step z) (record {
      places = w.places;
      kinds_kept = w.kinds_kept;
      mods_kept = marked_long mods (p.modules - 1) p.first (feed + 1) ∙ w.mods_kept;
      goes_on = filling_item t p.next p.row p.modules p.items p.first seen kinds₀ mods₀ kinds mods w.goes_on h feed e;
    })

    module _ (q : Progress) (seen' kinds' mods' : List ℕ) (e : Ok q ≡ behind (step_at t p.next p seen) p)
        (d₁ : seen' ≡ seen_behind (step_at t p.next p seen) seen) (d₂ : kinds' ≡ kinds_behind (step_at t p.next p seen) t p.next p kinds) (d₃ : mods' ≡ mods_behind (step_at t p.next p seen) t p.next p mods) where
      pub reading_next : Reading t kinds₀ mods₀ q seen' kinds' mods'
      reading_next = rw (d₁, d₂, d₃) (turn (step_at t p.next p seen) refl q e)

      pub reading_further : length t - q.next < length t - p.next
      reading_further = further t p.next p seen kinds mods standing q e

    -- a line with a fault ends the pass
    pub reading_stops : (f : Fault) → Err f ≡ behind (step_at t p.next p seen) p → (kinds' mods' : List ℕ) → Fills t kinds₀ mods₀ (Err (record { fault = f; line = p.row })) kinds' mods'
    reading_stops f e kinds' mods' = go (step_at t p.next p seen) refl e
      where
        no : {x : Refusal} {m : ℕ} → ◌≡◌ {A = Result ℕ Refusal} (Err x) (Ok m) → ⊥
        no e = let z : ◌≡◌ {A = ℕ} 0 1 = cc e in omega arith

        go : (x : Result Step Fault) → x ≡ step_at t p.next p seen → Err f ≡ behind x p → Fills t kinds₀ mods₀ (Err (record { fault = f; line = p.row })) kinds' mods'
        go (Err k) e z =
            let a = right t p.next p.row p.modules p.items p.first seen kinds₀ mods₀ kinds mods w.goes_on h (Err k) e in
            let u = ap (λ (g : Fault). Err (record { fault = g; line = p.row })) (one_fault z ∙ sym (fault_is k)) ∙ going_fault t p.next p.row p.modules p.items seen w.goes_on.going (fault_code k) a in
            (u, λ v. absurd (no (u ∙ ap (λ (x : Verdict). told x (modules_in (lines t))) v)))
        go (Ok (Module feed)) e z = absurd (no_step (sym z))
        go (Ok (Kind feed n)) e z = absurd (no_step (sym z))
        go (Ok (Val feed)) e z = absurd (no_step (sym z))
        go (Ok (Item feed)) e z = absurd (no_step (sym z))

  -- nothing is left to read
  pub reading_end : length t ≤ p.next → Fills t kinds₀ mods₀ (Ok p.modules) kinds mods
  reading_end h =
      (going_end t p.next p.row p.modules p.items seen w.goes_on.going h, λ _. filled_end t p.next p.modules p.items p.first kinds₀ mods₀ kinds mods w.goes_on.filled h)
