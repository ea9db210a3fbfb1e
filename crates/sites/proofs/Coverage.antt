-- Extents of indexes, blocks, and coverage. Assumes nothing.
use mathlib.Core.Path.{◌≡◌, refl, sym, ap, ◌∙◌}
use mathlib.Core.Bool.{Bool, true, false}
use mathlib.Core.List.{List, [], ◌∷◌}
use Prim.Native.Nat.{ℕ, zero, suc, ◌+◌, ◌*◌, ◌-◌, ◌<◌, ◌≤◌}
use native.Mathlib.Omega.{arith}
use lib.IntN.{ℤ, pos, negsuc}
use lib.Dec.{ltb}
use lib.ListN.{get_or}
use borrow.Author.Tests.{eq-eqb, ne_eqb, lt-ltb, le-ltb, ltb-true, ltb-false, lt-leb, le-leb}
use Rattle.spec.specs.Value.{known}
use Rattle.spec.specs.Site.{Extent, Whole, Range, Dynamic, Unknown, Site, no_range, bit_extent, range_extent, sites_of, only_ranges}
use Rattle.spec.specs.Block.{Pair, block_count}
use Rattle.sites.specs.declared.Cover.{Cover}
use Rattle.sites.specs.declared.Cover.TheVariants as cover
use Rattle.sites.specs.declared.Blocks.TheVariants as blocks
use Rattle.sites.specs.Own.{unbiased, run, row, pair_table, pair_from, blocks_by, ranges_by, cover_by, range_test}
use Rattle.sites.proofs.Rows.{run_step, run_end}
use Rattle.sites.proofs.Pairs.{row_name}

unbiased_low : (v : ℕ) → v < 2147483648 → unbiased v ≡ negsuc (2147483647 - v)
unfolding unbiased
unbiased_low v h = rw (lt-ltb v 2147483648 h, unbiased)

unbiased_high : (v : ℕ) → 2147483648 ≤ v → unbiased v ≡ pos (v - 2147483648)
unfolding unbiased
unbiased_high v h = rw (le-ltb v 2147483648 h, unbiased)

-- the extent of a bit
pub bit_low : (b : Bool) (v : ℕ) → v < 2147483648 → no_range b ≡ bit_extent b (known (unbiased v))
bit_low b v h = ap (λ (z : ℤ). bit_extent b (known z)) (sym (unbiased_low v h))

pub bit_high : (b : Bool) (v : ℕ) → 2147483648 ≤ v → Range (v - 2147483648) (v - 2147483648) ≡ bit_extent b (known (unbiased v))
bit_high b v h = ap (λ (z : ℤ). bit_extent b (known z)) (sym (unbiased_high v h))

-- the extent of bits from high to low
low_below : (b : Bool) (z : ℤ) (n : ℕ) → no_range b ≡ range_extent b (known z) (known (negsuc n))
low_below b (pos m) n = refl
low_below b (negsuc m) n = refl

pub range_low : (b : Bool) (h l : ℕ) → l < 2147483648 → no_range b ≡ range_extent b (known (unbiased h)) (known (unbiased l))
range_low b h l p = low_below b (unbiased h) (2147483647 - l) ∙ ap (λ (z : ℤ). range_extent b (known (unbiased h)) (known z)) (sym (unbiased_low l p))

range_both : (b : Bool) (h l : ℕ) → 2147483648 ≤ h → 2147483648 ≤ l
    → range_extent b (known (pos (h - 2147483648))) (known (pos (l - 2147483648))) ≡ range_extent b (known (unbiased h)) (known (unbiased l))
range_both b h l p q = λ i. range_extent b (known (sym (unbiased_high h p) i)) (known (sym (unbiased_high l q) i))

pub range_less : (b : Bool) (h l : ℕ) → 2147483648 ≤ l → h < l → no_range b ≡ range_extent b (known (unbiased h)) (known (unbiased l))
range_less b h l p q = go (ltb h 2147483648) refl
  where
    go : (t : Bool) → ltb h 2147483648 ≡ t → no_range b ≡ range_extent b (known (unbiased h)) (known (unbiased l))
    go true e = ap (λ (z : ℤ). range_extent b (known z) (known (unbiased l))) (sym (unbiased_low h (ltb-true h 2147483648 e)))
    go false e =
        let g = ltb-false h 2147483648 e in
        sym (rw (lt-leb (l - 2147483648) (h - 2147483648) (omega arith), range_extent)) ∙ range_both b h l g p

pub range_fits : (b : Bool) (h l : ℕ) → 2147483648 ≤ l → l ≤ h → Range (l - 2147483648) (h - 2147483648) ≡ range_extent b (known (unbiased h)) (known (unbiased l))
range_fits b h l p q = sym (rw (le-leb (l - 2147483648) (h - 2147483648) (omega arith), range_extent)) ∙ range_both b h l (omega arith) p

-- blocks of a name
module _ (own : List ℕ) (name : ℕ) where
  abbrev pub pair_at : ℕ → Pair
  pair_at i = pair_from (row pair_table own i)

  pub count_own : (i n : ℕ) → i < n → get_or own (pair_table.base + 2 * i) 0 ≡ name → block_count name (run pair_at i (n - i)) ≡ suc (block_count name (run pair_at (i + 1) (n - (i + 1))))
  unfolding block_count
  count_own i n h e = ap (block_count name) (run_step pair_at i n h) ∙ rw (eq-eqb name (get_or (row pair_table own i) 0 0) (sym (row_name pair_table own i (omega arith) ∙ e)), block_count)

  pub count_other : (i n : ℕ) → i < n → ¬ (get_or own (pair_table.base + 2 * i) 0 ≡ name) → block_count name (run pair_at i (n - i)) ≡ block_count name (run pair_at (i + 1) (n - (i + 1)))
  unfolding block_count
  count_other i n h d = ap (block_count name) (run_step pair_at i n h) ∙ rw (ne_eqb name (get_or (row pair_table own i) 0 0) (λ x. d (sym (x ∙ row_name pair_table own i (omega arith)))), block_count)

  pub count_end : (i n : ℕ) → n ≤ i → block_count name (run pair_at i (n - i)) ≡ 0
  unfolding block_count
  count_end i n h = ap (block_count name) (run_end pair_at i n h)

pub several : (k : ℕ) → ¬ (k ≡ 0) → ¬ (k ≡ 1) → blocks.Several ≡ blocks_by k
several zero a b = absurd (a refl)
several (suc zero) a b = absurd (b refl)
several (suc (suc k)) a b = refl

-- what decides coverage, where a range was seen
abbrev pub cover_from : Bool → List Site → Cover
cover_from true ss = ranges_by ss
cover_from false ss = cover_by ss

module _ (n : ℕ) (f : ℕ → Site) where
  pub cover_skip : (b : Bool) (i m : ℕ) → i < m → ¬ ((f i).name ≡ n) → cover_from b (sites_of n (run f (i + 1) (m - (i + 1)))) ≡ cover_from b (sites_of n (run f i (m - i)))
  unfolding sites_of
  cover_skip b i m h d = sym (ap (λ (l : List Site). cover_from b (sites_of n l)) (run_step f i m h) ∙ rw (ne_eqb n (f i).name (λ e. d (sym e)), sites_of))

  here : (b : Bool) (i m : ℕ) → i < m → (f i).name ≡ n → cover_from b (sites_of n (run f i (m - i))) ≡ ranges_by (f i ∷ sites_of n (run f (i + 1) (m - (i + 1))))
  unfolding sites_of
  here true i m h e = ap (λ (l : List Site). ranges_by (sites_of n l)) (run_step f i m h) ∙ rw (eq-eqb n (f i).name (sym e), sites_of)
  here false i m h e = ap (λ (l : List Site). cover_by (sites_of n l)) (run_step f i m h) ∙ rw (eq-eqb n (f i).name (sym e), sites_of)

  range_next : (s : Site) (ss : List Site) (x : Extent) → s.extent ≡ x → range_test x ≡ true → ranges_by (s ∷ ss) ≡ ranges_by ss
  unfolding ranges_by only_ranges
  range_next s ss Whole e t = absurd (let y : ◌≡◌ {A = ℕ} 0 1 = cc in omega arith)
  range_next s ss Dynamic e t = absurd (let y : ◌≡◌ {A = ℕ} 0 1 = cc in omega arith)
  range_next s ss Unknown e t = absurd (let y : ◌≡◌ {A = ℕ} 0 1 = cc in omega arith)
  range_next s ss (Range l h) e t = rw (e, only_ranges)

  range_not : (s : Site) (ss : List Site) (x : Extent) → s.extent ≡ x → range_test x ≡ false → ranges_by (s ∷ ss) ≡ cover.Open
  unfolding ranges_by only_ranges
  range_not s ss Whole e t = rw (e, only_ranges, ranges_by)
  range_not s ss Dynamic e t = rw (e, only_ranges, ranges_by)
  range_not s ss Unknown e t = rw (e, only_ranges, ranges_by)
  range_not s ss (Range l h) e t = absurd (let y : ◌≡◌ {A = ℕ} 0 1 = cc in omega arith)

  pub cover_more : (b : Bool) (i m : ℕ) → i < m → (f i).name ≡ n → range_test (f i).extent ≡ true → cover_from true (sites_of n (run f (i + 1) (m - (i + 1)))) ≡ cover_from b (sites_of n (run f i (m - i)))
  cover_more b i m h e t = sym (here b i m h e ∙ range_next (f i) (sites_of n (run f (i + 1) (m - (i + 1)))) (f i).extent refl t)

  pub cover_open : (b : Bool) (i m : ℕ) → i < m → (f i).name ≡ n → range_test (f i).extent ≡ false → cover.Open ≡ cover_from b (sites_of n (run f i (m - i)))
  cover_open b i m h e t = sym (here b i m h e ∙ range_not (f i) (sites_of n (run f (i + 1) (m - (i + 1)))) (f i).extent refl t)

  pub cover_end : (b : Bool) (i m : ℕ) → m ≤ i → cover_from b [] ≡ cover_from b (sites_of n (run f i (m - i)))
  unfolding sites_of
  cover_end b i m h = sym (ap (λ (l : List Site). cover_from b (sites_of n l)) (run_end f i m h))

pub ranges_none : ranges_by [] ≡ cover.Ranges
unfolding ranges_by only_ranges
ranges_none = refl
