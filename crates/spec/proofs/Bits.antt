-- Each bit of a result of `band`, `bor` and `bxor` is that of the two bits; INT is closed under these and `shr`.
-- Assumes nothing.
use mathlib.Core.Path.{◌≡◌, refl, sym, ap, ◌∙◌}
use mathlib.Core.Bool.{true}
use Prim.Native.Nat.{ℕ, zero, suc, ◌+◌, ◌-◌, ◌*◌, ◌/◌, ◌%◌, ◌^◌, ◌≤◌, ◌<◌, min, max}
use native.Mathlib.Nat.{mod-lt, zero-mul, suc-mul, pow-suc, div-eq_of_lt}
use native.Mathlib.Omega.{arith}
use lib.Bits.{bit_and, bit_or, bit_xor, and_shr, or_shr, xor_shr, and_mod, or_mod, xor_mod, and_lt, or_lt, xor_lt}
use lib.IntN.{ℤ, pos, negsuc, ◌+ℤ◌, ◌*ℤ◌}
use lib.Pow.{shr_le, shr-shr, split, pow_pos, pow_mono}
use borrow.Author.Tests.{lt-ltb, ltb-true, eqb-true}
use Rattle.spec.specs.Syntax.{number_bound, shl, shr, band, bor, bxor}
use Rattle.spec.specs.Refusal.{in_int}
use Rattle.spec.specs.Value.{known, missing, outside, within, is_zero, shl_value, shr_value, binary_value}
use Rattle.spec.specs.Bits.{without, bits_and, bits_or, bits_xor, shift_up, shift_down, parity, bit, TwosComplement, Closed}
use Rattle.spec.proofs.Flags.{clash}

-- ---- `shr` passes through the three operators

without_shr : (a b k : ℕ) → without a b / 2 ^ k ≡ without (a / 2 ^ k) (b / 2 ^ k)
without_shr a b k = xor_shr a (bit_and a b) k ∙ ap (bit_xor (a / 2 ^ k)) (and_shr a b k)

and_down : (x y : ℤ) (k : ℕ) → shift_down (bits_and x y) k ≡ bits_and (shift_down x k) (shift_down y k)
unfolding shift_down bits_and
and_down (pos a) (pos b) k = ap pos (and_shr a b k)
and_down (pos a) (negsuc b) k = ap pos (without_shr a b k)
and_down (negsuc a) (pos b) k = ap pos (without_shr b a k)
and_down (negsuc a) (negsuc b) k = ap negsuc (or_shr a b k)

or_down : (x y : ℤ) (k : ℕ) → shift_down (bits_or x y) k ≡ bits_or (shift_down x k) (shift_down y k)
unfolding shift_down bits_or
or_down (pos a) (pos b) k = ap pos (or_shr a b k)
or_down (pos a) (negsuc b) k = ap negsuc (without_shr b a k)
or_down (negsuc a) (pos b) k = ap negsuc (without_shr a b k)
or_down (negsuc a) (negsuc b) k = ap negsuc (and_shr a b k)

xor_down : (x y : ℤ) (k : ℕ) → shift_down (bits_xor x y) k ≡ bits_xor (shift_down x k) (shift_down y k)
unfolding shift_down bits_xor
xor_down (pos a) (pos b) k = ap pos (xor_shr a b k)
xor_down (pos a) (negsuc b) k = ap negsuc (xor_shr a b k)
xor_down (negsuc a) (pos b) k = ap negsuc (xor_shr a b k)
xor_down (negsuc a) (negsuc b) k = ap pos (xor_shr a b k)

-- ---- the lowest bit

-- what holds of two digits holds of two numbers' lowest
four : (P : ℕ → ℕ → Type 0) → P 0 0 → P 0 1 → P 1 0 → P 1 1 → (a b : ℕ) → P (a % 2) (b % 2)
four P p q r s a b = go (a % 2) (b % 2) (omega arith) (omega arith)
  where
    go : (x y : ℕ) → x < 2 → y < 2 → P x y
    go zero zero h k = p
    go zero (suc zero) h k = q
    go (suc zero) zero h k = r
    go (suc zero) (suc zero) h k = s
    go zero (suc (suc y)) h k = absurd (omega arith)
    go (suc zero) (suc (suc y)) h k = absurd (omega arith)
    go (suc (suc x)) y h k = absurd (omega arith)

and_low : (a b : ℕ) → bit_and a b % 2 ≡ bit_and (a % 2) (b % 2)
and_low a b = and_mod a b 1

or_low : (a b : ℕ) → bit_or a b % 2 ≡ bit_or (a % 2) (b % 2)
or_low a b = or_mod a b 1

xor_low : (a b : ℕ) → bit_xor a b % 2 ≡ bit_xor (a % 2) (b % 2)
xor_low a b = xor_mod a b 1

without_low : (a b : ℕ) → without a b % 2 ≡ without (a % 2) (b % 2)
without_low a b = xor_low a (bit_and a b) ∙ ap (bit_xor (a % 2)) (and_low a b)

less : {m n : ℕ} → m ≡ n → 1 - m ≡ 1 - n
less e = ap (λ (x : ℕ). 1 - x) e

and_parity : (x y : ℤ) → parity (bits_and x y) ≡ min (parity x) (parity y)
unfolding parity bits_and
and_parity (pos a) (pos b) = and_low a b ∙ four (λ x y. bit_and x y ≡ min x y) refl refl refl refl a b
and_parity (pos a) (negsuc b) = without_low a b ∙ four (λ x y. without x y ≡ min x (1 - y)) refl refl refl refl a b
and_parity (negsuc a) (pos b) = without_low b a ∙ four (λ x y. without y x ≡ min (1 - x) y) refl refl refl refl a b
and_parity (negsuc a) (negsuc b) = less (or_low a b) ∙ four (λ x y. 1 - bit_or x y ≡ min (1 - x) (1 - y)) refl refl refl refl a b

or_parity : (x y : ℤ) → parity (bits_or x y) ≡ max (parity x) (parity y)
unfolding parity bits_or
or_parity (pos a) (pos b) = or_low a b ∙ four (λ x y. bit_or x y ≡ max x y) refl refl refl refl a b
or_parity (pos a) (negsuc b) = less (without_low b a) ∙ four (λ x y. 1 - without y x ≡ max x (1 - y)) refl refl refl refl a b
or_parity (negsuc a) (pos b) = less (without_low a b) ∙ four (λ x y. 1 - without x y ≡ max (1 - x) y) refl refl refl refl a b
or_parity (negsuc a) (negsuc b) = less (and_low a b) ∙ four (λ x y. 1 - bit_and x y ≡ max (1 - x) (1 - y)) refl refl refl refl a b

xor_parity : (x y : ℤ) → parity (bits_xor x y) ≡ (parity x + parity y) % 2
unfolding parity bits_xor
xor_parity (pos a) (pos b) = xor_low a b ∙ four (λ x y. bit_xor x y ≡ (x + y) % 2) refl refl refl refl a b
xor_parity (pos a) (negsuc b) = less (xor_low a b) ∙ four (λ x y. 1 - bit_xor x y ≡ (x + (1 - y)) % 2) refl refl refl refl a b
xor_parity (negsuc a) (pos b) = less (xor_low a b) ∙ four (λ x y. 1 - bit_xor x y ≡ (1 - x + y) % 2) refl refl refl refl a b
xor_parity (negsuc a) (negsuc b) = xor_low a b ∙ four (λ x y. bit_xor x y ≡ (1 - x + (1 - y)) % 2) refl refl refl refl a b

-- ---- each bit

and_bits : (x y : ℤ) (i : ℕ) → bit (bits_and x y) i ≡ min (bit x i) (bit y i)
unfolding bit
and_bits x y i = ap parity (and_down x y i) ∙ and_parity (shift_down x i) (shift_down y i)

or_bits : (x y : ℤ) (i : ℕ) → bit (bits_or x y) i ≡ max (bit x i) (bit y i)
unfolding bit
or_bits x y i = ap parity (or_down x y i) ∙ or_parity (shift_down x i) (shift_down y i)

xor_bits : (x y : ℤ) (i : ℕ) → bit (bits_xor x y) i ≡ (bit x i + bit y i) % 2
unfolding bit
xor_bits x y i = ap parity (xor_down x y i) ∙ xor_parity (shift_down x i) (shift_down y i)

-- ---- INT

without_lt : (k a b : ℕ) → a < 2 ^ k → b < 2 ^ k → without a b < 2 ^ k
without_lt k a b h l = xor_lt k a (bit_and a b) h (and_lt k a b h l)

pub closed : Closed
unfolding in_int bits_and bits_or bits_xor shift_down
closed = record { and_in = and_in; or_in = or_in; xor_in = xor_in; down_in = down_in }
  where
    below : (n : ℕ) → in_int (pos n) ≡ true → n < 2 ^ 31
    below n h = ltb-true n number_bound h

    test : (n : ℕ) → n < 2 ^ 31 → in_int (pos n) ≡ true
    test n h = lt-ltb n number_bound h

    and_in : (x y : ℤ) → in_int x ≡ true → in_int y ≡ true → in_int (bits_and x y) ≡ true
    and_in (pos a) (pos b) h k = test (bit_and a b) (and_lt 31 a b (below a h) (below b k))
    and_in (pos a) (negsuc b) h k = test (without a b) (without_lt 31 a b (below a h) (below b k))
    and_in (negsuc a) (pos b) h k = test (without b a) (without_lt 31 b a (below b k) (below a h))
    and_in (negsuc a) (negsuc b) h k = test (bit_or a b) (or_lt 31 a b (below a h) (below b k))

    or_in : (x y : ℤ) → in_int x ≡ true → in_int y ≡ true → in_int (bits_or x y) ≡ true
    or_in (pos a) (pos b) h k = test (bit_or a b) (or_lt 31 a b (below a h) (below b k))
    or_in (pos a) (negsuc b) h k = test (without b a) (without_lt 31 b a (below b k) (below a h))
    or_in (negsuc a) (pos b) h k = test (without a b) (without_lt 31 a b (below a h) (below b k))
    or_in (negsuc a) (negsuc b) h k = test (bit_and a b) (and_lt 31 a b (below a h) (below b k))

    xor_in : (x y : ℤ) → in_int x ≡ true → in_int y ≡ true → in_int (bits_xor x y) ≡ true
    xor_in (pos a) (pos b) h k = test (bit_xor a b) (xor_lt 31 a b (below a h) (below b k))
    xor_in (pos a) (negsuc b) h k = test (bit_xor a b) (xor_lt 31 a b (below a h) (below b k))
    xor_in (negsuc a) (pos b) h k = test (bit_xor a b) (xor_lt 31 a b (below a h) (below b k))
    xor_in (negsuc a) (negsuc b) h k = test (bit_xor a b) (xor_lt 31 a b (below a h) (below b k))

    down_in : (z : ℤ) (n : ℕ) → in_int z ≡ true → in_int (shift_down z n) ≡ true
    down_in (pos m) n h = test (m / 2 ^ n) (omega (arith, shr_le m n, below m h))
    down_in (negsuc m) n h = test (m / 2 ^ n) (omega (arith, shr_le m n, below m h))

-- 0 shifted up is 0
pub zero_up : (x : ℤ) (n : ℕ) → is_zero x ≡ true → in_int (shift_up x n) ≡ true
unfolding in_int shift_up
zero_up (pos m) n e = let z : m * 2 ^ n ≡ 0 = ap (λ (k : ℕ). k * 2 ^ n) (eqb-true m 0 e) ∙ zero-mul (2 ^ n) in rw z
zero_up (negsuc m) n e = absurd (clash e refl)

-- ---- what `shr` leaves out, and that the bits tell numbers apart

rest : ℤ → ℕ → ℕ
rest (pos m) n = m % 2 ^ n
rest (negsuc m) n = 2 ^ n - 1 - m % 2 ^ n

rest_lt : (z : ℤ) (n : ℕ) → rest z n < 2 ^ n
unfolding rest
rest_lt (pos m) n = mod-lt m (pow_pos n)
rest_lt (negsuc m) n = omega (arith, pow_pos n)

rest_is : (z : ℤ) (n : ℕ) → z ≡ shift_down z n *ℤ pos (2 ^ n) +ℤ pos (rest z n)
unfolding rest shift_down
rest_is (pos m) n = ap pos (sym (split m n))
rest_is (negsuc m) n =
    let p = pow_pos n in let l = mod-lt m p in let s = split m n in
    let e : suc (m / 2 ^ n) * 2 ^ n ≡ suc (m / 2 ^ n * 2 ^ n + (2 ^ n - 1)) = omega (arith, suc-mul (m / 2 ^ n) (2 ^ n)) in
    let b : 2 ^ n - 1 - m % 2 ^ n < suc (m / 2 ^ n * 2 ^ n + (2 ^ n - 1)) = omega arith in
    let c : m ≡ suc (m / 2 ^ n * 2 ^ n + (2 ^ n - 1)) - suc (2 ^ n - 1 - m % 2 ^ n) = omega arith in
    rw (e, lt-ltb _ _ b) (ap negsuc c)

halves : (z : ℤ) → (parity z < 2) × (z ≡ shift_down z 1 *ℤ pos 2 +ℤ pos (parity z))
unfolding parity rest
halves (pos m) = (rest_lt (pos m) 1, rest_is (pos m) 1)
halves (negsuc m) = (rest_lt (negsuc m) 1, rest_is (negsuc m) 1)

below_power : (n : ℕ) → n < 2 ^ n
below_power zero = omega arith
below_power (suc n) = omega (arith, below_power n, pow-suc 2 n)

-- numbers of k digits are equal where their digits are
same_digits : (k a b : ℕ) → a < 2 ^ k → b < 2 ^ k → ((i : ℕ) → a / 2 ^ i % 2 ≡ b / 2 ^ i % 2) → a ≡ b
same_digits zero a b h l f = omega arith
same_digits (suc k) a b h l f =
    let z : a / 1 % 2 ≡ b / 1 % 2 = f 0 in
    let p = pow-suc 2 k in
    let ih = same_digits k (a / 2) (b / 2) (omega arith) (omega arith) (λ i. ap (λ (x : ℕ). x % 2) (shr-shr a 1 i) ∙ f (1 + i) ∙ sym (ap (λ (x : ℕ). x % 2) (shr-shr b 1 i))) in
    omega arith

same_numbers : (a b : ℕ) → ((i : ℕ) → a / 2 ^ i % 2 ≡ b / 2 ^ i % 2) → a ≡ b
same_numbers a b f =
    same_digits (a + b) a b
    (omega (arith, below_power a, pow_mono (let h : a ≤ a + b = omega arith in h)))
    (omega (arith, below_power b, pow_mono (let h : b ≤ a + b = omega arith in h))) f

-- high enough the bits of a natural number are 0
high_zero : (a k : ℕ) → a ≤ k → a / 2 ^ k ≡ 0
high_zero a k h = div-eq_of_lt (let l : a < 2 ^ k = omega (arith, below_power a, pow_mono h) in l)

-- so no number of the one sign has the bits of one of the other
apart : (a b : ℕ) → a / 2 ^ (a + b) % 2 ≡ 1 - b / 2 ^ (a + b) % 2 → ⊥
apart a b e = omega (arith, high_zero a (a + b) (omega arith), high_zero b (a + b) (omega arith))

by_bits : (x y : ℤ) → ((i : ℕ) → bit x i ≡ bit y i) → x ≡ y
unfolding bit parity shift_down
by_bits (pos a) (pos b) f = ap pos (same_numbers a b f)
by_bits (pos a) (negsuc b) f = absurd (apart a b (f (a + b)))
by_bits (negsuc a) (pos b) f = absurd (apart b a (sym (f (b + a))))
by_bits (negsuc a) (negsuc b) f = ap negsuc (same_numbers a b (λ i. let e = f i in omega arith))

pub twos_complement : TwosComplement
twos_complement = record { floor = λ z n. (rest z n, rest_lt z n, rest_is z n); halves = halves; and_bits = and_bits; or_bits = or_bits; xor_bits = xor_bits; by_bits = by_bits }

-- ---- examples: what closed constants compute to

abbrev Examples : Type 0
Examples =
    (binary_value shl (pos 1) (pos 12) ≡ known (pos 4096))
    × (binary_value shl (pos 1) (pos 30) ≡ known (pos 1073741824))
    × (binary_value shl (pos 1) (pos 31) ≡ outside)
    × (binary_value shl (negsuc 0) (pos 31) ≡ known (negsuc 2147483647))
    × (binary_value shl (negsuc 0) (pos 32) ≡ outside)
    × (binary_value shl (pos 0) (pos 999998) ≡ known (pos 0))
    × (binary_value shl (pos 0) (pos 999999) ≡ missing)
    × (binary_value shl (pos 1) (negsuc 0) ≡ missing)
    × (binary_value shr (pos 7) (pos 1) ≡ known (pos 3))
    × (binary_value shr (negsuc 6) (pos 1) ≡ known (negsuc 3))
    × (binary_value shr (negsuc 0) (pos 40) ≡ known (negsuc 0))
    × (binary_value shr (pos 7) (pos 0) ≡ known (pos 7))
    × (binary_value shr (pos 7) (negsuc 0) ≡ missing)
    × (binary_value band (pos 12) (negsuc 9) ≡ known (pos 4))
    × (binary_value bor (pos 12) (negsuc 9) ≡ known (negsuc 1))
    × (binary_value bxor (pos 12) (negsuc 9) ≡ known (negsuc 5))
    × (binary_value bxor (negsuc 2147483647) (pos 2147483647) ≡ known (negsuc 0))

they_compute : Examples
unfolding binary_value shl_value shr_value within in_int shift_up shift_down bits_and bits_or bits_xor
they_compute = (refl, refl, refl, refl, refl, refl, refl, refl, refl, refl, refl, refl, refl, refl, refl, refl, refl)
