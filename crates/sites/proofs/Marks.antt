-- Marks of covered bits, and the first without one. Assumes nothing.
use mathlib.Core.Path.{◌≡◌, refl, sym, ap, ◌∙◌}
use mathlib.Core.Bool.{Bool, true, false, ◌||◌}
use mathlib.Core.List.{List, [], ◌∷◌}
use mathlib.Core.Option.{some, none}
use Prim.Native.Nat.{ℕ, zero, suc, ◌+◌, ◌-◌, ◌<◌, ◌≤◌, min}
use native.Mathlib.Omega.{arith}
use native.Mathlib.Numerals.{add-one}
use borrow.Rule.Slice.PartMut.{put_mid}
use borrow.Author.Rules.{rules}
use Rattle.std.proofs.lemmas.Slice.{overwrites}
use Rattle.std.proofs.lemmas.List.{places}
use lib.Dec.{eqb, ltb, leb}
use lib.ListN.{length, get_or, replicate, get_or-replicate, length-replicate}
use borrow.Author.Tests.{eq-eqb, ne_eqb, lt-ltb, le-ltb, ltb-true, ltb-false, lt-leb, le-leb, leb-true, leb-false}
use Rattle.spec.specs.Site.{Whole, Range, Site, covers, covered, sites_of, gap_from, first_gap}
use Rattle.sites.specs.Own.{run, within, Marked, unmarked_from}
use Rattle.sites.proofs.Rows.{run_step, run_end}

-- places from a to b
within_true : (a b j : ℕ) → a ≤ j → j < b → within a b j ≡ true
within_true a b j p q = rw (le-leb a j p, lt-ltb j b q)

within_below : (a b j : ℕ) → j < a → within a b j ≡ false
within_below a b j p = rw (lt-leb a j p)

within_above : (a b j : ℕ) → b ≤ j → within a b j ≡ false
within_above a b j p = go (leb a j) refl
  where
    go : (t : Bool) → leb a j ≡ t → within a b j ≡ false
    go true e = rw (e, le-ltb j b p)
    go false e = rw e

-- a stretch of places, each with a mark now
pub mark_made : (m ys : List ℕ) (a b k : ℕ) → a ≤ b → b ≤ length m → ys ≡ replicate k 1 → k ≡ b - a → Marked (length m) (within a b) m (put_mid a (b - a) m ys)
mark_made m ys a b k p q e f = record { size = size; at = λ j h. go j h (leb a j) refl (ltb j b) refl }
  where
    long : length ys ≡ b - a
    long = ap length e ∙ length-replicate k 1 ∙ f

    size : length (put_mid a (b - a) m ys) ≡ length m
    size = let l = long in search (rules, overwrites)

    go : (j : ℕ) → j < length m → (s : Bool) → leb a j ≡ s → (t : Bool) → ltb j b ≡ t → eqb (get_or (put_mid a (b - a) m ys) j 0) 1 ≡ (within a b j || eqb (get_or m j 0) 1)
    go j h true x true y =
        let l = long in let u = leb-true a j x in let v = ltb-true j b y in
        let g : get_or (put_mid a (b - a) m ys) j 0 ≡ 1 = search (rules, places) in
        ap (λ (z : ℕ). eqb z 1) g ∙ sym (rw (x, y))
    go j h true x false y =
        let l = long in let v = ltb-false j b y in
        let g : get_or (put_mid a (b - a) m ys) j 0 ≡ get_or m j 0 = search (rules, places) in
        ap (λ (z : ℕ). eqb z 1) g ∙ sym (rw (x, y))
    go j h false x t y =
        let l = long in let u = leb-false a j x in
        let g : get_or (put_mid a (b - a) m ys) j 0 ≡ get_or m j 0 = search (rules, places) in
        ap (λ (z : ℕ). eqb z 1) g ∙ sym (rw x)

-- a mark where an extent says
module _ (limit : ℕ) (m₀ m : List ℕ) where
  weaken : (l : ℕ) (f g : ℕ → Bool) → limit ≤ l → ((b : ℕ) → b < limit → f b ≡ g b) → Marked l f m₀ m → Marked limit g m₀ m
  weaken l f g h q k = record { size = k.size; at = λ b p. k.at b (omega arith) ∙ ap (λ (t : Bool). t || eqb (get_or m₀ b 0) 1) (q b p) }

  pub mark_whole : limit ≤ length m₀ → Marked (length m₀) (within 0 limit) m₀ m → Marked limit (covers Whole) m₀ m
  mark_whole h k = weaken (length m₀) (within 0 limit) (covers Whole) h (λ b p. within_true 0 limit b (omega arith) p) k

  range_covers : (l h end from b : ℕ) → end ≡ min (h + 1) limit → from ≡ min l end → b < limit → within from end b ≡ covers (Range l h) b
  range_covers l h end from b e f p = by (leb l b) refl (leb b h) refl
    where
      by : (s : Bool) → leb l b ≡ s → (t : Bool) → leb b h ≡ t → within from end b ≡ covers (Range l h) b
      by true x true y =
          let u = leb-true l b x in let v = leb-true b h y in
          within_true from end b (omega arith) (omega arith) ∙ sym (rw (x, y))
      by true x false y =
          let v = leb-false b h y in
          within_above from end b (omega arith) ∙ sym (rw (x, y))
      by false x t y =
          let u = leb-false l b x in
          below (ltb b end) refl ∙ sym (rw x)
        where
          below : (z : Bool) → ltb b end ≡ z → within from end b ≡ false
          below true w = let u = leb-false l b x in let v = ltb-true b end w in within_below from end b (omega arith)
          below false w = within_above from end b (ltb-false b end w)

  pub mark_range : (l h end from : ℕ) → end ≡ min (h + 1) limit → from ≡ min l end → limit ≤ length m₀ → Marked (length m₀) (within from end) m₀ m → Marked limit (covers (Range l h)) m₀ m
  mark_range l h end from e f g k = weaken (length m₀) (within from end) (covers (Range l h)) g (λ b p. range_covers l h end from b e f p) k

pub mark_nothing : (limit : ℕ) (m : List ℕ) → Marked limit (λ b. false) m m
mark_nothing limit m = record { size = refl; at = λ b h. refl }

-- what is left of the sites, and the marks so far
or_mix : (p q r : Bool) → (q || (p || r)) ≡ ((p || q) || r)
or_mix true true r = refl
or_mix true false r = refl
or_mix false true r = refl
or_mix false false r = refl

pub record Going (limit : ℕ) (rest all : List Site) (m₀ m : List ℕ) : Type 0 where
  pub size : length m ≡ length m₀
  pub at : (b : ℕ) → b < limit → (covered rest b || eqb (get_or m b 0) 1) ≡ (covered all b || eqb (get_or m₀ b 0) 1)

pub going_start : (limit : ℕ) (rest all : List Site) (m : List ℕ) → rest ≡ all → Going limit rest all m m
going_start limit rest all m e = record { size = refl; at = λ b h. ap (λ (l : List Site). covered l b || eqb (get_or m b 0) 1) e }

module _ (n limit : ℕ) (f : ℕ → Site) (all : List Site) (m₀ m : List ℕ) where
  pub going_skip : (i k : ℕ) → i < k → ¬ ((f i).name ≡ n) → Going limit (sites_of n (run f i (k - i))) all m₀ m → Going limit (sites_of n (run f (i + 1) (k - (i + 1)))) all m₀ m
  unfolding sites_of
  going_skip i k h d g =
      let e : sites_of n (run f i (k - i)) ≡ sites_of n (run f (i + 1) (k - (i + 1))) =
      ap (sites_of n) (run_step f i k h) ∙ rw (ne_eqb n (f i).name (λ x. d (sym x)), sites_of) in
      rw e at g

  pub going_own : (m' : List ℕ) (i k : ℕ) → i < k → (f i).name ≡ n → Marked limit (covers (f i).extent) m m' → Going limit (sites_of n (run f i (k - i))) all m₀ m → Going limit (sites_of n (run f (i + 1) (k - (i + 1)))) all m₀ m'
  unfolding sites_of covered
  going_own m' i k h d q g =
      let e : sites_of n (run f i (k - i)) ≡ f i ∷ sites_of n (run f (i + 1) (k - (i + 1))) =
      ap (sites_of n) (run_step f i k h) ∙ rw (eq-eqb n (f i).name (sym d), sites_of) in
      record {
        size = q.size ∙ g.size;
        at = λ b p.
            ap (λ (t : Bool). covered (sites_of n (run f (i + 1) (k - (i + 1)))) b || t) (q.at b p)
            ∙ or_mix (covers (f i).extent b) (covered (sites_of n (run f (i + 1) (k - (i + 1)))) b) (eqb (get_or m b 0) 1)
            ∙ ap (λ (l : List Site). covered l b || eqb (get_or m b 0) 1) (sym e) ∙ g.at b p;
      }

  pub going_end : (i k : ℕ) → k ≤ i → Going limit (sites_of n (run f i (k - i))) all m₀ m → Marked limit (covered all) m₀ m
  unfolding sites_of covered
  going_end i k h g =
      let e : sites_of n (run f i (k - i)) ≡ [] = ap (sites_of n) (run_end f i k h) in
      record { size = g.size; at = λ b p. ap (λ (l : List Site). covered l b || eqb (get_or m b 0) 1) (sym e) ∙ g.at b p }

-- the search for the first place without a mark
module _ (m : List ℕ) (b limit : ℕ) where
  pub unmarked_end : limit ≤ b → none ≡ unmarked_from m b (limit - b)
  unfolding unmarked_from
  unmarked_end h = let e : limit - b ≡ 0 = omega arith in sym (ap (λ (k : ℕ). unmarked_from m b k) e)

  step : b < limit → unmarked_from m b (limit - b) ≡ unmarked_from m b (suc (limit - (b + 1)))
  step h = let e : limit - b ≡ suc (limit - (b + 1)) = omega arith in ap (λ (k : ℕ). unmarked_from m b k) e

  pub unmarked_gap : b < limit → ¬ (get_or m b 0 ≡ 1) → some b ≡ unmarked_from m b (limit - b)
  unfolding unmarked_from
  unmarked_gap h d = sym (step h ∙ rw (ne_eqb (get_or m b 0) 1 d, unmarked_from))

  pub unmarked_more : b < limit → get_or m b 0 ≡ 1 → unmarked_from m (b + 1) (limit - (b + 1)) ≡ unmarked_from m b (limit - b)
  unfolding unmarked_from
  unmarked_more h e = sym (step h ∙ rw (eq-eqb (get_or m b 0) 1 e, unmarked_from) (ap (λ (k : ℕ). unmarked_from m k (limit - (b + 1))) (sym (add-one b))))

pub unmarked_start : (m : List ℕ) (limit : ℕ) → unmarked_from m 0 (limit - 0) ≡ unmarked_from m 0 limit
unmarked_start m limit = let e : limit - 0 ≡ limit = omega arith in ap (λ (k : ℕ). unmarked_from m 0 k) e

same_gap : (m : List ℕ) (ss : List Site) (limit b k : ℕ) → b + k ≤ limit → ((j : ℕ) → j < limit → eqb (get_or m j 0) 1 ≡ covered ss j) → unmarked_from m b k ≡ gap_from ss b k
unfolding unmarked_from gap_from
same_gap m ss limit b zero h q = refl
same_gap m ss limit b (suc k) h q = go (covered ss b) refl (same_gap m ss limit (suc b) k (omega arith) q)
  where
    go : (t : Bool) → covered ss b ≡ t → unmarked_from m (suc b) k ≡ gap_from ss (suc b) k → unmarked_from m b (suc k) ≡ gap_from ss b (suc k)
    go true e r = rw (q b (omega arith) ∙ e, unmarked_from, e, gap_from) r
    go false e r = rw (q b (omega arith) ∙ e, unmarked_from, e, gap_from)

-- no mark in what is fresh
pub fresh : (n b : ℕ) → b < n → eqb (get_or (replicate n 0) b 0) 1 ≡ false
fresh n b h = ap (λ (x : ℕ). eqb x 1) (get_or-replicate n b 0 0 h)

or_false : (t : Bool) → (t || false) ≡ t
or_false true = refl
or_false false = refl

pub gap_found : (m₀ m : List ℕ) (ss : List Site) (limit : ℕ) → ((b : ℕ) → b < limit → eqb (get_or m₀ b 0) 1 ≡ false) → Marked limit (covered ss) m₀ m → unmarked_from m 0 limit ≡ gap_from ss 0 limit
gap_found m₀ m ss limit z k = same_gap m ss limit 0 limit (omega arith) (λ j p. k.at j p ∙ ap (λ (t : Bool). covered ss j || t) (z j p) ∙ or_false (covered ss j))

pub gap_least : (ss : List Site) (width limit : ℕ) → limit ≡ min width 4096 → gap_from ss 0 limit ≡ first_gap ss width
unfolding first_gap
gap_least ss width limit e = ap (λ (l : ℕ). gap_from ss 0 l) e
