-- Laws of the operators: what holds a value says the same as whole numbers with a sign.
-- Assumes nothing.
use mathlib.Core.Path.{◌≡◌, refl, sym, ap, ◌∙◌}
use mathlib.Core.Bool.{Bool, true, false, cond, not as opposite}
use Prim.Native.Nat.{ℕ, zero, suc, ◌+◌, ◌*◌, ◌-◌, ◌/◌, ◌^◌, ◌≤◌, ◌<◌}
use native.Mathlib.Nat.{le_trans, mul-le-mul_left, mul-le-mul_right, pow-suc}
use native.Mathlib.Omega.{arith}
use lib.IntN.{ℤ, pos, negsuc, sub_ℕ, ◌+ℤ◌, ◌-ℤ◌, ◌*ℤ◌, neg_ℤ}
use lib.Count.{count_leading_zeros, leading_le, leading_length}
use lib.Pow.{pow_mono}
use lib.Dec.{eqb, ltb, leb}
use borrow.Author.Tests.{eq-eqb, ne_eqb, lt-ltb, le-ltb, le-leb, lt-leb, ltb-true, ltb-false, eqb-true, eqb-false, leb-true, leb-false}
use Rattle.spec.specs.Refusal.{in_int}
use Rattle.spec.specs.Syntax.{and, or}
use Rattle.spec.specs.Value.{known, missing, outside, within, is_zero, int_eq, int_lt, truth_value, bit_length, clog2_bits, clog2_value, binary_value}
use Rattle.consteval.specs.Worth.{signed}

-- ---- differences of naturals

-- two differences are equal where the cross sums are
sub_eq : (a b c d : ℕ) → a + d ≡ c + b → sub_ℕ a b ≡ sub_ℕ c d
sub_eq a b c d e = go (ltb a b) (ltb c d) refl refl
  where
    go : (p q : Bool) → ltb a b ≡ p → ltb c d ≡ q → cond p (negsuc (b - suc a)) (pos (a - b)) ≡ cond q (negsuc (d - suc c)) (pos (c - d))
    go true true p q = let h = ltb-true a b p in ap negsuc (let z : b - suc a ≡ d - suc c = omega (arith, ltb-true c d q) in z)
    go true false p q = let h = ltb-true a b p in let k = ltb-false c d q in absurd (omega arith)
    go false true p q = let h = ltb-false a b p in let k = ltb-true c d q in absurd (omega arith)
    go false false p q = let h = ltb-false a b p in let k = ltb-false c d q in ap pos (let z : a - b ≡ c - d = omega arith in z)

sub_add : (a b c d : ℕ) → sub_ℕ a b +ℤ sub_ℕ c d ≡ sub_ℕ (a + c) (b + d)
sub_add a b c d = go (ltb a b) (ltb c d) refl refl
  where
    go : (p q : Bool) → ltb a b ≡ p → ltb c d ≡ q → cond p (negsuc (b - suc a)) (pos (a - b)) +ℤ cond q (negsuc (d - suc c)) (pos (c - d)) ≡ sub_ℕ (a + c) (b + d)
    go true true p q =
        let h = ltb-true a b p in let k = ltb-true c d q in
        let l : a + c < b + d = omega arith in
        rw (lt-ltb _ _ l) (ap negsuc (let z : suc (b - suc a + (d - suc c)) ≡ b + d - suc (a + c) = omega arith in z))
    go true false p q = let h = ltb-true a b p in let k = ltb-false c d q in sub_eq (c - d) (suc (b - suc a)) (a + c) (b + d) (omega arith)
    go false true p q = let h = ltb-false a b p in let k = ltb-true c d q in sub_eq (a - b) (suc (d - suc c)) (a + c) (b + d) (omega arith)
    go false false p q =
        let h = ltb-false a b p in let k = ltb-false c d q in
        let l : b + d ≤ a + c = omega arith in
        rw (le-ltb _ _ l) (ap pos (let z : a - b + (c - d) ≡ a + c - (b + d) = omega arith in z))

neg_pos : (n : ℕ) → neg_ℤ (pos n) ≡ sub_ℕ 0 n
neg_pos zero = refl
neg_pos (suc n) = let h : 0 < suc n = omega arith in rw (lt-ltb _ _ h) (ap negsuc (let z : n ≡ suc n - 1 = omega arith in z))

sub_neg : (a b : ℕ) → neg_ℤ (sub_ℕ a b) ≡ sub_ℕ b a
sub_neg a b = go (ltb a b) refl
  where
    go : (p : Bool) → ltb a b ≡ p → neg_ℤ (cond p (negsuc (b - suc a)) (pos (a - b))) ≡ sub_ℕ b a
    go true p = let h = ltb-true a b p in let l : a ≤ b = omega arith in rw (le-ltb _ _ l) (ap pos (let z : suc (b - suc a) ≡ b - a = omega arith in z))
    go false p = let h = ltb-false a b p in neg_pos (a - b) ∙ sub_eq 0 (a - b) b a (omega arith)

sub_low : (a b : ℕ) → a < b → sub_ℕ a b ≡ neg_ℤ (pos (b - a))
sub_low a b h = sub_eq a b 0 (b - a) (omega arith) ∙ sym (neg_pos (b - a))

sub_high : (a b : ℕ) → b ≤ a → sub_ℕ a b ≡ pos (a - b)
sub_high a b h = rw (le-ltb a b h)

-- ---- `positive`, `negative`, `difference`
pub pos_in : (n : ℕ) → n < 2147483648 → known (signed (n + 2147483648)) ≡ within (pos n)
unfolding within in_int
pos_in n h = rw (lt-ltb n 2147483648 h, within) (ap known (sub_high (n + 2147483648) 2147483648 (omega arith) ∙ ap pos (let z : n + 2147483648 - 2147483648 ≡ n = omega arith in z)))

pub pos_out : (n : ℕ) → 2147483648 ≤ n → outside ≡ within (pos n)
unfolding within in_int
pos_out n h = rw (le-ltb n 2147483648 h, within)

pub neg_in : (n : ℕ) → n ≤ 2147483648 → known (signed (2147483648 - n)) ≡ within (neg_ℤ (pos n))
unfolding within in_int
neg_in zero h = refl
neg_in (suc n) h =
    let k : n < 2147483648 = omega arith in
    rw (lt-ltb n 2147483648 k, within) (ap known (sub_low (2147483648 - suc n) 2147483648 (omega arith)
    ∙ ap (λ (m : ℕ). neg_ℤ (pos m)) (let z : 2147483648 - (2147483648 - suc n) ≡ suc n = omega arith in z)))

pub neg_out : (n : ℕ) → 2147483648 < n → outside ≡ within (neg_ℤ (pos n))
unfolding within in_int
neg_out zero h = absurd (omega arith)
neg_out (suc n) h = let k : 2147483648 ≤ n = omega arith in rw (le-ltb n 2147483648 k, within)

pub diff_low : (a b : ℕ) → a < b → within (neg_ℤ (pos (b - a))) ≡ within (sub_ℕ a b)
diff_low a b h = ap within (sym (sub_low a b h))

pub diff_high : (a b : ℕ) → b ≤ a → within (pos (a - b)) ≡ within (sub_ℕ a b)
diff_high a b h = ap within (sym (sub_high a b h))

-- ---- `neg`, `add`, `sub`, `mul`
pub neg_law : (x : ℕ) → within (sub_ℕ 2147483648 x) ≡ within (neg_ℤ (signed x))
neg_law x = ap within (sym (sub_neg x 2147483648))

pub add_law : (x y : ℕ) → within (sub_ℕ (x + y) 4294967296) ≡ within (signed x +ℤ signed y)
add_law x y = ap within (sym (sub_add x 2147483648 y 2147483648))

pub sub_law : (x y : ℕ) → within (sub_ℕ (x + 2147483648) (y + 2147483648)) ≡ within (signed x -ℤ signed y)
sub_law x y =
    ap within (sub_eq (x + 2147483648) (y + 2147483648) (x + 2147483648) (2147483648 + y) (omega arith)
    ∙ sym (sub_add x 2147483648 2147483648 y) ∙ ap (λ (z : ℤ). signed x +ℤ z) (sym (sub_neg y 2147483648)))

-- a whole number by its amount and its sign
pub signed_low : (x : ℕ) → x < 2147483648 → signed x ≡ negsuc (2147483648 - suc x)
signed_low x h = rw (lt-ltb x 2147483648 h)

pub signed_high : (x : ℕ) → 2147483648 ≤ x → signed x ≡ pos (x - 2147483648)
signed_high x h = rw (le-ltb x 2147483648 h)

amount : (x : ℕ) → x < 2147483648 → suc (2147483648 - suc x) ≡ 2147483648 - x
amount x h = omega arith

module _ (x y : ℕ) where
  pub mul_low_low : x < 2147483648 → y < 2147483648 → within (pos ((2147483648 - x) * (2147483648 - y))) ≡ within (signed x *ℤ signed y)
  mul_low_low h k = rw (signed_low x h, signed_low y k, amount x h, amount y k)

  pub mul_low_high : x < 2147483648 → 2147483648 ≤ y → within (neg_ℤ (pos ((2147483648 - x) * (y - 2147483648)))) ≡ within (signed x *ℤ signed y)
  mul_low_high h k = rw (signed_low x h, signed_high y k, amount x h)

  pub mul_high_low : 2147483648 ≤ x → y < 2147483648 → within (neg_ℤ (pos ((x - 2147483648) * (2147483648 - y)))) ≡ within (signed x *ℤ signed y)
  mul_high_low h k = rw (signed_high x h, signed_low y k, amount y k)

  pub mul_high_high : 2147483648 ≤ x → 2147483648 ≤ y → within (pos ((x - 2147483648) * (y - 2147483648))) ≡ within (signed x *ℤ signed y)
  mul_high_high h k = rw (signed_high x h, signed_high y k)

pub mul_fits : (a b : ℕ) → a ≤ 2147483648 → b ≤ 2147483648 → a * b < 18446744073709551616
mul_fits a b h k =
    let l : a * b ≤ 2147483648 * 2147483648 = le_trans (mul-le-mul_left a k) (mul-le-mul_right 2147483648 h) in omega arith

-- ---- the tests
pub zero_test : (x : ℕ) → is_zero (signed x) ≡ eqb x 2147483648
zero_test x = go (ltb x 2147483648) refl
  where
    go : (p : Bool) → ltb x 2147483648 ≡ p → is_zero (cond p (negsuc (2147483648 - suc x)) (pos (x - 2147483648))) ≡ eqb x 2147483648
    go true p = let h = ltb-true x 2147483648 p in sym (ne_eqb x 2147483648 (λ e. omega arith))
    go false p = let h = ltb-false x 2147483648 p in same (eqb x 2147483648) refl h
      where
        same : (q : Bool) → eqb x 2147483648 ≡ q → 2147483648 ≤ x → eqb (x - 2147483648) 0 ≡ q
        same true q h = eq-eqb (x - 2147483648) 0 (omega (arith, eqb-true x 2147483648 q))
        same false q h = ne_eqb (x - 2147483648) 0 (λ e. eqb-false x 2147483648 q (omega arith))

pub eq_test : (x y : ℕ) → int_eq (signed x) (signed y) ≡ eqb x y
eq_test x y = go (ltb x 2147483648) (ltb y 2147483648) refl refl (eqb x y) refl
  where
    go : (p q : Bool) → ltb x 2147483648 ≡ p → ltb y 2147483648 ≡ q → (r : Bool) → eqb x y ≡ r →
        int_eq (cond p (negsuc (2147483648 - suc x)) (pos (x - 2147483648))) (cond q (negsuc (2147483648 - suc y)) (pos (y - 2147483648))) ≡ eqb x y
    go true true p q true r = let h = ltb-true x 2147483648 p in let k = ltb-true y 2147483648 q in eq-eqb (2147483648 - suc x) (2147483648 - suc y) (omega (arith, eqb-true x y r)) ∙ sym r
    go true true p q false r = let h = ltb-true x 2147483648 p in let k = ltb-true y 2147483648 q in ne_eqb (2147483648 - suc x) (2147483648 - suc y) (λ e. eqb-false x y r (omega arith)) ∙ sym r
    go true false p q r e = let h = ltb-true x 2147483648 p in let k = ltb-false y 2147483648 q in sym (ne_eqb x y (λ z. omega arith))
    go false true p q r e = let h = ltb-false x 2147483648 p in let k = ltb-true y 2147483648 q in sym (ne_eqb x y (λ z. omega arith))
    go false false p q true r = let h = ltb-false x 2147483648 p in let k = ltb-false y 2147483648 q in eq-eqb (x - 2147483648) (y - 2147483648) (omega (arith, eqb-true x y r)) ∙ sym r
    go false false p q false r = let h = ltb-false x 2147483648 p in let k = ltb-false y 2147483648 q in ne_eqb (x - 2147483648) (y - 2147483648) (λ e. eqb-false x y r (omega arith)) ∙ sym r

pub lt_test : (x y : ℕ) → int_lt (signed x) (signed y) ≡ ltb x y
lt_test x y = go (ltb x 2147483648) (ltb y 2147483648) refl refl (ltb x y) refl
  where
    go : (p q : Bool) → ltb x 2147483648 ≡ p → ltb y 2147483648 ≡ q → (r : Bool) → ltb x y ≡ r →
        int_lt (cond p (negsuc (2147483648 - suc x)) (pos (x - 2147483648))) (cond q (negsuc (2147483648 - suc y)) (pos (y - 2147483648))) ≡ ltb x y
    go true true p q true r = let h = ltb-true x 2147483648 p in let k = ltb-true y 2147483648 q in lt-ltb (2147483648 - suc y) (2147483648 - suc x) (omega (arith, ltb-true x y r)) ∙ sym r
    go true true p q false r = let h = ltb-true x 2147483648 p in let k = ltb-true y 2147483648 q in le-ltb (2147483648 - suc y) (2147483648 - suc x) (omega (arith, ltb-false x y r)) ∙ sym r
    go true false p q r e = let h = ltb-true x 2147483648 p in let k = ltb-false y 2147483648 q in sym (lt-ltb x y (omega arith))
    go false true p q r e = let h = ltb-false x 2147483648 p in let k = ltb-true y 2147483648 q in sym (le-ltb x y (omega arith))
    go false false p q true r = let h = ltb-false x 2147483648 p in let k = ltb-false y 2147483648 q in lt-ltb (x - 2147483648) (y - 2147483648) (omega (arith, ltb-true x y r)) ∙ sym r
    go false false p q false r = let h = ltb-false x 2147483648 p in let k = ltb-false y 2147483648 q in le-ltb (x - 2147483648) (y - 2147483648) (omega (arith, ltb-false x y r)) ∙ sym r

-- not above is at most
pub le_test : (x y : ℕ) → opposite (int_lt (signed y) (signed x)) ≡ leb x y
le_test x y = rw (lt_test y x) (go (ltb y x) refl)
  where
    go : (b : Bool) → ltb y x ≡ b → opposite b ≡ leb x y
    go true e = sym (lt-leb x y (ltb-true y x e))
    go false e = sym (le-leb x y (ltb-false y x e))

-- ---- `both` and `either`
module _ (x y : ℕ) where
  pub both_zero : x ≡ 2147483648 → truth_value false ≡ binary_value and (signed x) (signed y)
  unfolding binary_value
  both_zero e = rw (zero_test x, eq-eqb x 2147483648 e)

  pub both_test : (x ≡ 2147483648 → ⊥) → truth_value (opposite (eqb y 2147483648)) ≡ binary_value and (signed x) (signed y)
  unfolding binary_value
  both_test f = rw (zero_test x, zero_test y, ne_eqb x 2147483648 f)

  pub either_test : x ≡ 2147483648 → truth_value (opposite (eqb y 2147483648)) ≡ binary_value or (signed x) (signed y)
  unfolding binary_value
  either_test e = rw (zero_test x, zero_test y, eq-eqb x 2147483648 e)

  pub either_first : (x ≡ 2147483648 → ⊥) → truth_value true ≡ binary_value or (signed x) (signed y)
  unfolding binary_value
  either_first f = rw (zero_test x, ne_eqb x 2147483648 f)

-- ---- `clog2`
length_law : (k n : ℕ) → k - count_leading_zeros k n ≡ bit_length k n
unfolding count_leading_zeros bit_length
length_law zero n = refl
length_law (suc k) zero = omega arith
length_law (suc k) (suc n) =
    rw (ne_eqb (suc n) 0 (λ e. omega arith), bit_length)
    (let h = leading_le k (suc n / 2) in let i = length_law k (suc n / 2) in omega arith)

pub bits_one : (n : ℕ) → n < 2 → 1 ≡ clog2_bits n
unfolding clog2_bits
bits_one n h = rw (lt-ltb n 2 h, clog2_bits)

pub bits_more : (n : ℕ) → 2 ≤ n → 32 - count_leading_zeros 32 (n - 1) ≡ clog2_bits n
unfolding clog2_bits
bits_more n h = rw (le-ltb n 2 h, clog2_bits) (length_law 32 (n - 1))

pub clog2_none : (x : ℕ) → x ≤ 2147483648 → missing ≡ clog2_value (signed x)
unfolding clog2_value
clog2_none x h = go (ltb x 2147483648) refl
  where
    go : (b : Bool) → ltb x 2147483648 ≡ b → missing ≡ clog2_value (signed x)
    go true e = rw (signed_low x (ltb-true x 2147483648 e))
    go false e = let k = ltb-false x 2147483648 e in let z : x - 2147483648 ≡ 0 = omega arith in rw (signed_high x k, z)

pub clog2_some : (x : ℕ) → 2147483648 < x → within (pos (clog2_bits (x - 2147483648))) ≡ clog2_value (signed x)
unfolding clog2_value
clog2_some x h =
    let z : x - 2147483648 ≡ suc (x - 2147483649) = omega arith in
    rw (signed_high x (let k : 2147483648 ≤ x = omega arith in k), z)

-- 01, The value: it is the least number of bits, at least 1, that address n items.
pub clog2_least : (n : ℕ) → 1 ≤ n → n ≤ 4294967296 → (1 ≤ clog2_bits n) × (n ≤ 2 ^ clog2_bits n) × ((b : ℕ) → 1 ≤ b → n ≤ 2 ^ b → clog2_bits n ≤ b)
clog2_least n h k = go (ltb n 2) refl
  where
    go : (t : Bool) → ltb n 2 ≡ t → (1 ≤ clog2_bits n) × (n ≤ 2 ^ clog2_bits n) × ((b : ℕ) → 1 ≤ b → n ≤ 2 ^ b → clog2_bits n ≤ b)
    go true e = let l = ltb-true n 2 e in rw (← bits_one n l) (omega arith, (let z : n ≤ 2 = omega arith in z), λ b p q. p)
    go false e =
        let l = ltb-false n 2 e in
        let t = leading_length 32 (n - 1) (let z : n - 1 < 4294967296 = omega arith in z) in
        let m : 32 - count_leading_zeros 32 (n - 1) ≡ t.0 = omega (arith, t.1) in
        rw (← bits_more n l, m) (
          positive_length t.0 t.2,
          (let z : n ≤ 2 ^ t.0 = omega (arith, t.2) in z),
          λ b p q. shorter t.0 b t.3 q,
        )
      where
        positive_length : (m : ℕ) → n - 1 < 2 ^ m → 1 ≤ m
        positive_length zero q = absurd (omega (arith, ltb-false n 2 e))
        positive_length (suc m) q = omega arith

        shorter : (m b : ℕ) → 2 ^ m ≤ 2 * (n - 1) + 1 → n ≤ 2 ^ b → m ≤ b
        shorter m b p q = near (leb m b) refl
          where
            near : (t : Bool) → leb m b ≡ t → m ≤ b
            near true r = leb-true m b r
            near false r = absurd (omega (arith, pow_mono (let z : suc b ≤ m = omega (arith, leb-false m b r) in z), pow-suc 2 b, p, q))
