-- The search for a conflict in a run of records: a record and its site, the clash of two, and the sites in order. Assumes nothing.
use mathlib.Core.Path.{◌≡◌, refl, sym, ap, subst, ◌∙◌}
use mathlib.Core.Bool.{Bool, true, false, ◌||◌}
use mathlib.Core.List.{List, [], ◌∷◌}
use mathlib.Core.Option.{Option, some, none}
use Prim.Native.Nat.{ℕ, zero, suc, ◌+◌, ◌-◌, ◌<◌, ◌≤◌}
use native.Mathlib.Omega.{arith}
use native.Mathlib.Numerals.{add-one}
use lib.ListN.{length, get_or, set}
use Rattle.spec.specs.Site.{Site, Extent, meets, meets_any, first_conflict}
use Rattle.sites.specs.declared.Site as declared
use Rattle.sites.specs.Own.{run, site_of, extent_numbers}
use Rattle.sites.proofs.Added.{extent_read}
use Rattle.sites.proofs.Rows.{run_step, run_end, run_all}
use Rattle.sites.specs.declared.records.Record.{Record}
use Rattle.sites.specs.Run.{site_in, sites_in, record_of}

-- a record that is in no run
abbrev pub blank : Record
blank = record { name = 0; code = 0; low = 0; high = 0; start = 0 }

-- the site in place i
abbrev pub site_at : List Record → ℕ → Site
site_at rs i = site_in (get_or rs i blank)

-- it stands for the site
pub stands : (s : declared.Site) → site_in (record_of s) ≡ site_of s
stands s = λ i. record { name = s.name; extent = extent_read s.extent i; start = s.start }

-- a record is stored: its site stands there, and every other stays
pub sites_set : (rs : List Record) (i : ℕ) (r : Record) → sites_in (set rs i r) ≡ set (sites_in rs) i (site_in r)
unfolding sites_in
sites_set [] i r = refl
sites_set (x ∷ rs) zero r = refl
sites_set (x ∷ rs) (suc i) r = ap {B = List Site} (λ l. site_in x ∷ l) (sites_set rs i r)

pub sites_two : (s t : declared.Site) → sites_in (record_of s ∷ record_of t ∷ []) ≡ site_of s ∷ site_of t ∷ []
unfolding sites_in
sites_two s t = λ i. stands s i ∷ stands t i ∷ []

-- a run's sites, one by one
run_sites : (rs : List Record) (f : ℕ → Site) (i : ℕ) → ((k : ℕ) → f (i + k) ≡ site_at rs k) → run f i (length rs) ≡ sites_in rs
unfolding run sites_in
run_sites [] f i h = refl
run_sites (r ∷ rs) f i h = λ j. (ap f (sym (plus_zero i)) ∙ h 0) j ∷ run_sites rs f (suc i) (λ k. ap f (next i k) ∙ h (suc k)) j
  where
    plus_zero : (i : ℕ) → i + 0 ≡ i
    plus_zero i = omega arith

    next : (i k : ℕ) → suc i + k ≡ i + suc k
    next i k = omega arith

-- the first k sites, the newest first
unfoldable pub prior : (ℕ → Site) → ℕ → List Site
prior f zero = []
prior f (suc k) = f k ∷ prior f k

module _ (rs : List Record) where
  abbrev f : ℕ → Site
  f = site_at rs

  abbrev m : ℕ
  m = length rs

  -- what the whole search gives
  abbrev pub Sought : Option ℕ
  Sought = first_conflict [] (sites_in rs)

  -- what the search from a place on gives
  abbrev pub search_from : ℕ → Option ℕ
  search_from i = first_conflict (prior f i) (run f i (m - i))

  -- at a later record: the search from here on gives what the whole gives
  abbrev pub Outer : ℕ → Type 0
  Outer i = (i ≤ m) × (search_from i ≡ Sought)

  -- at an earlier one: those that are left meet the later one where all before it do
  abbrev pub Inner : ℕ → ℕ → Type 0
  Inner i t = (t ≤ i) × (meets_any (prior f t) (f i).extent ≡ meets_any (prior f i) (f i).extent)

  started : search_from 0 ≡ Sought
  unfolding prior
  started = ap (first_conflict []) (run_all f m ∙ run_sites rs f 0 (λ k. ap f (zero_plus k)))
    where
      zero_plus : (k : ℕ) → 0 + k ≡ k
      zero_plus k = omega arith

  pub outer_start : Outer 0
  outer_start = (omega arith, started)

  pub outer_end : (i : ℕ) → m ≤ i → Outer i → none ≡ Sought
  unfolding first_conflict
  outer_end i h o = sym (ap (first_conflict (prior f i)) (run_end f i m h)) ∙ o.1

  pub inner_start : (i : ℕ) → Inner i i
  inner_start i = (omega arith, refl)

  any_step : (k : ℕ) (x : Extent) (b : Bool) → meets (f k).extent x ≡ b → meets_any (prior f (suc k)) x ≡ (b || meets_any (prior f k) x)
  unfolding prior meets_any
  any_step k x b e = ap (λ (z : Bool). z || meets_any (prior f k) x) e

  pub inner_miss : (i t : ℕ) → 0 < t → Inner i t → meets (f (t - 1)).extent (f i).extent ≡ false → Inner i (t - 1)
  inner_miss i t p h c =
      let e : suc (t - 1) ≡ t = omega (arith, p) in
      (omega (arith, h.0), sym (any_step (t - 1) (f i).extent false c) ∙ ap (λ (j : ℕ). meets_any (prior f j) (f i).extent) e ∙ h.1)

  pub inner_hit : (i t : ℕ) → 0 < t → i < m → Outer i → Inner i t → meets (f (t - 1)).extent (f i).extent ≡ true → some (f i).start ≡ Sought
  unfolding first_conflict
  inner_hit i t p l o h c =
      let e : suc (t - 1) ≡ t = omega (arith, p) in
      let a : meets_any (prior f i) (f i).extent ≡ true = sym h.1 ∙ ap (λ (j : ℕ). meets_any (prior f j) (f i).extent) (sym e) ∙ any_step (t - 1) (f i).extent true c in
      sym (ap (first_conflict (prior f i)) (run_step f i m l) ∙ rw (a, first_conflict)) ∙ o.1

  none_prior : (x : Extent) → meets_any (prior f 0) x ≡ false
  unfolding prior meets_any
  none_prior x = refl

  one_prior : (i : ℕ) → prior f (i + 1) ≡ f i ∷ prior f i
  unfolding prior
  one_prior i = ap (prior f) (add-one i)

  stepped : (i : ℕ) → i < m → Inner i 0 → search_from (i + 1) ≡ search_from i
  unfolding first_conflict
  stepped i l h =
      let a : meets_any (prior f i) (f i).extent ≡ false = sym h.1 ∙ none_prior (f i).extent in
      ap (λ (ss : List Site). first_conflict ss (run f (i + 1) (m - (i + 1)))) (one_prior i) ∙ sym (ap (first_conflict (prior f i)) (run_step f i m l) ∙ rw (a, first_conflict))

  pub outer_next : (i t : ℕ) → i < m → t ≤ 0 → Outer i → Inner i t → Outer (i + 1)
  outer_next i t l z o h = let e : t ≡ 0 = omega (arith, z) in (omega (arith, l), stepped i l (subst (Inner i) e h) ∙ o.1)
