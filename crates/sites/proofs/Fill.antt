-- The sites of a name are stored in a run of records, one by one. Assumes nothing.
use mathlib.Core.Path.{◌≡◌, refl, sym, ap, subst, ◌∙◌}
use mathlib.Core.Bool.{Bool, true, false, not}
use mathlib.Core.List.{List, [], ◌∷◌, ◌++◌}
use mathlib.Core.Option.{Option, some, none}
use Prim.Native.Nat.{ℕ, zero, suc, ◌+◌, ◌-◌, ◌<◌, ◌≤◌}
use native.Mathlib.Omega.{arith}
use native.Mathlib.Nat.{not-suc-le-zero, le_of_suc-le-suc}
use native.Mathlib.Numerals.{add-one}
use lib.Dec.{T as Holds, eqb, eqb→eq, ltb, ltb→lt, nltb→le}
use lib.ListN.{length, set, take, replicate, length-set, length-replicate}
use borrow.Author.Tests.{eq-eqb}
use Rattle.spec.specs.Refusal.{has_name}
use Rattle.spec.specs.Site.{Site, Conflict, sites_of, meets_any, first_conflict}
use Rattle.sites.specs.declared.Site as declared
use Rattle.std.specs.Prelude.{Some, None}
use Rattle.std.specs.Prelude as rust
use Rattle.sites.specs.declared.records.Record.{Record}
use Rattle.sites.specs.Own.{places, items, rows_in, site_table, site_from, site_row, site_of, found_of, own_of, sites_from, NextSite, skip_at, misuse_poison, conflict_step}
use Rattle.sites.specs.Run.{site_in, sites_in, record_of, NameConflict}
use Rattle.sites.proofs.Rows.{run_end, run_all, has_here, has_later}
use Rattle.sites.proofs.Conflicts.{step_new}
use Rattle.sites.proofs.Sites.{here_own, here_other}
use Rattle.sites.proofs.Search.{blank, stands, Sought}

no_true : ◌≡◌ {A = Bool} false true → ⊥
no_true z = let y : ◌≡◌ {A = ℕ} 0 1 = ap (λ (b : Bool). elim b [ true ↦ 1 | false ↦ 0 ]) z in omega arith

-- the row that is next
module _ (n : ℕ) (own : List ℕ) where
  abbrev f : ℕ → Site
  f = site_row own

  abbrev m : ℕ
  m = rows_in site_table own

  pub next_here : (from i : ℕ) → length own ≡ places → from ≤ i → i < m → m ≤ 1024 → (f i).name ≡ n → sites_from n own i ≡ sites_from n own from → NextSite n own from i
  next_here from i e l h g d s = record { here = λ _. (e, l, h, sym s ∙ here_own n f i m h d); none = λ b _. absurd (b (omega (arith, h, g))) }

  pub next_none : (from i : ℕ) → m ≤ i → sites_from n own i ≡ sites_from n own from → NextSite n own from 1024
  unfolding sites_of
  next_none from i h s = record { here = λ b. absurd (no b); none = λ _ _. sym s ∙ ap (sites_of n) (run_end f i m h) }
    where
      no : 1024 < 1024 → ⊥
      no b = omega arith

  pub skipped : (from i : ℕ) → i < m → ¬ ((f i).name ≡ n) → sites_from n own i ≡ sites_from n own from → sites_from n own (i + 1) ≡ sites_from n own from
  skipped from i h d s = sym (here_other n f i m h d) ∙ s

  -- the rows before k have no site of the name
  over : (k : ℕ) → ¬ ((f k).name ≡ n) → sites_from n own (k + 1) ≡ sites_from n own k
  over k d = go (ltb k m) refl
    where
      go : (t : Bool) → ltb k m ≡ t → sites_from n own (k + 1) ≡ sites_from n own k
      go true e = sym (here_other n f k m (ltb→lt k m (subst Holds (sym e) tt)) d)
      go false e =
          let h : m ≤ k = nltb→le k m (subst (λ (u : Bool). Holds (not u)) (sym e) tt) in
          ap (sites_of n) (run_end f (k + 1) m (omega (arith, h))) ∙ sym (ap (sites_of n) (run_end f k m h))

  unseen : (poison : List ℕ) (k : ℕ) → has_name n (skip_at poison f k) ≡ false → sites_from n own k ≡ sites_from n own 0
  unfolding skip_at
  unseen poison zero e = refl
  unseen poison (suc k) e = ap (sites_from n own) (sym (add-one k)) ∙ over k other ∙ unseen poison k (sym (has_later n (f k).name (skip_at poison f k) other) ∙ e)
    where
      other : ¬ ((f k).name ≡ n)
      other d = no_true (sym e ∙ has_here n (f k).name (skip_at poison f k) d)

  at_most_one : (k : ℕ) → sites_from n own (k + 1) ≡ [] → first_conflict [] (sites_from n own k) ≡ none
  unfolding first_conflict meets_any
  at_most_one k e = go (ltb k m) refl (eqb n (f k).name) refl
    where
      after : sites_from n own k ≡ sites_from n own (k + 1) → first_conflict [] (sites_from n own k) ≡ none
      after s = ap (first_conflict []) (s ∙ e)

      go : (t : Bool) → ltb k m ≡ t → (u : Bool) → eqb n (f k).name ≡ u → first_conflict [] (sites_from n own k) ≡ none
      go true b true d = ap (first_conflict []) (here_own n f k m (ltb→lt k m (subst Holds (sym b) tt)) (sym (eqb→eq n (f k).name (rw d tt))) ∙ ap (λ (l : List Site). f k ∷ l) e)
      go true b false d = after (sym (over k (λ z. no_true (sym d ∙ eq-eqb n (f k).name (sym z)))))
      go false b u d =
          let h : m ≤ k = nltb→le k m (subst (λ (u : Bool). Holds (not u)) (sym b) tt) in
          after (ap (sites_of n) (run_end f k m h) ∙ sym (ap (sites_of n) (run_end f (k + 1) m (omega (arith, h)))))

  of_all : sites_from n own 0 ≡ sites_of n (items site_from site_table own)
  of_all = ap (sites_of n) (run_all f m)

  -- a name whose first site is its last has no conflict
  pub alone : (k i : ℕ) (cs : List Conflict) → n ≡ (f k).name → has_name n (skip_at (misuse_poison own) f k) ≡ false → NextSite n own (k + 1) i → 1024 ≤ i → length own ≡ places → cs ≡ conflict_step own k cs
  alone k i cs e u d h p =
      step_new own k cs none (ap (λ (x : ℕ). has_name x (skip_at (misuse_poison own) f k)) (sym e) ∙ u)
      (sym (at_most_one k (d.none (λ l. absurd (no l)) p)) ∙ ap (first_conflict []) (unseen (misuse_poison own) k u ∙ of_all) ∙ ap (λ (x : ℕ). first_conflict [] (sites_of x (items site_from site_table own))) e)
    where
      no : i < 1024 → ⊥
      no l = omega arith

-- one record more behind those that are stored
take_set : {A : Type 0} (l : List A) (k : ℕ) (x : A) → k < length l → take (suc k) (set l k x) ≡ take k l ++ x ∷ []
take_set [] k x h = absurd (not-suc-le-zero h)
take_set (y ∷ l) zero x h = refl
take_set {A} (y ∷ l) (suc k) x h = ap {B = List A} (λ r. y ∷ r) (take_set l k x (le_of_suc-le-suc h))

sites_both : (a b : List Record) → sites_in (a ++ b) ≡ sites_in a ++ sites_in b
unfolding sites_in
sites_both [] b = refl
sites_both (x ∷ a) b = ap {B = List Site} (λ l. site_in x ∷ l) (sites_both a b)

append_one : {A : Type 0} (a : List A) (x : A) (b : List A) → (a ++ x ∷ []) ++ b ≡ a ++ x ∷ b
append_one [] x b = refl
append_one {A} (y ∷ a) x b = ap {B = List A} (λ r. y ∷ r) (append_one a x b)

append_none : {A : Type 0} (a : List A) → a ++ [] ≡ a
append_none [] = refl
append_none {A} (y ∷ a) = ap {B = List A} (λ r. y ∷ r) (append_none a)

one_more : (s : declared.Site) → sites_in (record_of s ∷ []) ≡ site_of s ∷ []
unfolding sites_in
one_more s = λ i. stands s i ∷ []

none_found : (r : rust.Option ℕ) → found_of r ≡ none → r ≡ None
none_found (Some x) e = absurd (differ e)
  where
    differ : ◌≡◌ {A = Option ℕ} (some x) none → ⊥
    differ z = let y : ◌≡◌ {A = ℕ} 1 0 = ap (λ (o : Option ℕ). elim o [ some _ ↦ 1 | none ↦ 0 ]) z in omega arith
none_found None e = refl

-- where the loop stands: the row that is next is `at`, and `count` records are stored in a run of N
pub record Filling (N n : ℕ) (own : List ℕ) (at count : ℕ) (all : List Record) : Type 0 where
  pub from : ℕ
  pub size : length all ≡ N
  pub few : count ≤ from
  pub within : from ≤ N
  pub next : NextSite n own from at
  pub told : length own ≡ places → sites_in (take count all) ++ sites_from n own from ≡ sites_from n own 0
  pub empty : ¬ (length own ≡ places) → count ≡ 0

module _ (N : ℕ) (small : N ≤ 1024) (n : ℕ) (own : List ℕ) where
  begun_told : sites_in (take 0 (replicate N blank)) ++ sites_from n own 0 ≡ sites_from n own 0
  unfolding sites_in
  begun_told = refl

  pub begun : (i : ℕ) → NextSite n own 0 i → Filling N n own i 0 (replicate N blank)
  begun i next = record { from = 0; size = length-replicate N blank; few = omega arith; within = omega arith; next = next; told = λ _. begun_told; empty = λ _. refl }

  module _ (at count : ℕ) (all : List Record) (w : Filling N n own at count all) where
    below : at < N → at < 1024
    below h = omega (arith, h, small)

    pub room_left : at < N → count < length all
    room_left h = omega (arith, w.size, w.few, (w.next.here (below h)).1)

    told_more : (h : at < N) (s : declared.Site) → site_of s ≡ site_row own at → length own ≡ places → sites_in (take (count + 1) (set all count (record_of s))) ++ sites_from n own (at + 1) ≡ sites_from n own 0
    told_more h s is e =
        ap (λ (l : List Site). l ++ sites_from n own (at + 1)) (ap (λ (j : ℕ). sites_in (take j (set all count (record_of s)))) (add-one count) ∙ ap sites_in (take_set all count (record_of s) (room_left h)) ∙ sites_both (take count all) (record_of s ∷ []) ∙ ap (λ (l : List Site). sites_in (take count all) ++ l) (one_more s ∙ ap (λ (t : Site). t ∷ []) is))
        ∙ append_one (sites_in (take count all)) (site_row own at) (sites_from n own (at + 1))
        ∙ ap (λ (l : List Site). sites_in (take count all) ++ l) (sym (w.next.here (below h)).3) ∙ w.told e

    -- a site more is stored, and the row that is next is another
    pub more : (h : at < N) (s : declared.Site) → site_of s ≡ site_row own at → (i : ℕ) → NextSite n own (at + 1) i → Filling N n own i (count + 1) (set all count (record_of s))
    more h s is i next = record {
      from = at + 1;
      size = length-set all count (record_of s) ∙ w.size;
      few = omega (arith, w.few, (w.next.here (below h)).1);
      within = omega (arith, h);
      next = next;
      told = told_more h s is;
      empty = λ z. absurd (z (w.next.here (below h)).0);
    }

    -- the row that is next lies further on
    pub further : at < N → (i : ℕ) → NextSite n own (at + 1) i → N - i < N - at
    further h i d = by_test (ltb i N) refl
      where
        by_test : (z : Bool) → ltb i N ≡ z → N - i < N - at
        by_test true e = let l : i < N = ltb→lt i N (subst Holds (sym e) tt) in let g : i < 1024 = omega (arith, l, small) in omega (arith, h, l, (d.here g).1)
        by_test false e = let l : N ≤ i = nltb→le i N (subst (λ (u : Bool). Holds (not u)) (sym e) tt) in omega (arith, h, l)

    -- no row that is left has a site of the name
    none_left : N ≤ at → length own ≡ places → rows_in site_table own ≤ N → sites_from n own w.from ≡ []
    none_left b e r = w.next.none (λ l. no (w.next.here l).2) e
      where
        no : at < rows_in site_table own → ⊥
        no l = omega (arith, l, r, b)

    stored_all : N ≤ at → length own ≡ places → rows_in site_table own ≤ N → sites_in (take count all) ≡ sites_from n own 0
    stored_all b e r = sym (append_none (sites_in (take count all))) ∙ ap (λ (l : List Site). sites_in (take count all) ++ l) (sym (none_left b e r)) ∙ w.told e

    of_own : sites_from n own 0 ≡ sites_of n (own_of own).sites
    unfolding own_of
    of_own = of_all n own

    of_none : (k : ℕ) → k ≡ 0 → Sought (take k all) ≡ none
    unfolding sites_in first_conflict
    of_none k e = ap (λ (j : ℕ). Sought (take j all)) e

    pub finished : N ≤ at → (r : rust.Option ℕ) → found_of r ≡ Sought (take count all) → NameConflict N n own r
    finished b r s = (λ e g. s ∙ ap (first_conflict []) (stored_all b e g ∙ of_own), λ z. none_found r (s ∙ of_none count (w.empty z)))
