-- Laws of `shl`, `shr`, `band`, `bor` and `bxor` on words that hold values. 02: U1.
-- Assumes nothing.
use mathlib.Core.Path.{◌≡◌, refl, sym, ap, ap₂, ◌∙◌}
use mathlib.Core.Bool.{Bool, true, false}
use Prim.Native.Nat.{ℕ, zero, suc, ◌+◌, ◌-◌, ◌*◌, ◌/◌, ◌%◌, ◌^◌, ◌≤◌, ◌<◌, min, max}
use native.Mathlib.Nat.{zero-mul, mul-le-mul_right, div-eq_of_lt, pow-suc}
use native.Mathlib.Omega.{arith}
use lib.Bits.{bit_and, bit_or, bit_xor, and_lt, or_lt, xor_lt, xor_comm, xor_zero_r, xor_shifted, xor_block}
use lib.IntN.{ℤ, pos, negsuc, neg_ℤ}
use lib.Dec.{ltb}
use lib.Pow.{pow_mono, shl_exact, shr_le, shr-shr}
use borrow.Author.Tests.{ltb-true, ltb-false, le-leb, lt-leb, ne_eqb, eqb-false}
use Rattle.spec.specs.Refusal.{in_int}
use Rattle.spec.specs.Bits.{bits_and, bits_or, bits_xor, shift_up, shift_down, parity, bit}
use Rattle.spec.proofs.Bits.{twos_complement}
use Rattle.spec.specs.Value.{known, missing, outside, within, is_zero, shl_value, shr_value}
use Rattle.consteval.specs.Worth.{signed}
use Rattle.consteval.proofs.ArithLaws.{signed_low, signed_high, pos_out, neg_out, zero_test}

-- ---- a word by its sign and its amount: −(n + 1) is held by 2147483647 − n, and n by n + 2147483648

low : (x : ℕ) → x < 2147483648 → signed x ≡ negsuc (2147483647 - x)
low x h = signed_low x h ∙ ap negsuc (let z : 2147483648 - suc x ≡ 2147483647 - x = omega arith in z)

made_low : (n : ℕ) → n < 2 ^ 31 → signed (2147483647 - n) ≡ negsuc n
made_low n h = low (2147483647 - n) (omega arith) ∙ ap negsuc (let z : 2147483647 - (2147483647 - n) ≡ n = omega arith in z)

made_high : (n : ℕ) → signed (n + 2147483648) ≡ pos n
made_high n = signed_high (n + 2147483648) (omega arith) ∙ ap pos (let z : n + 2147483648 - 2147483648 ≡ n = omega arith in z)

-- shifted down by 32 nothing is left of a word
pub halved_out : (n k : ℕ) → n < 4294967296 → 32 ≤ k → 0 ≡ n / 2 ^ k
halved_out n k h l = sym (div-eq_of_lt (let z : n < 2 ^ k = omega (arith, pow_mono l) in z))

-- ---- `band`, `bor` and `bxor`: a word with its top bit inverted is the two's complement of the value that it holds

inverted_low : (x : ℕ) → x < 2147483648 → bit_xor x 2147483648 ≡ 2147483648 + x
inverted_low x h = xor_comm x 2147483648 ∙ xor_shifted 1 31 x h

inverted_high : (x : ℕ) → 2147483648 ≤ x → x < 4294967296 → bit_xor x 2147483648 ≡ x - 2147483648
inverted_high x h l =
    ap (λ (z : ℕ). bit_xor z 2147483648) (let z : x ≡ 1 * 2 ^ 31 + (x - 2147483648) = omega arith in z)
    ∙ xor_block 31 1 1 (x - 2147483648) 0 (let z : x - 2147483648 < 2 ^ 31 = omega arith in z) (let z : 0 < 2 ^ 31 = omega arith in z)
    ∙ ap (λ (z : ℕ). 0 + z) (xor_zero_r (x - 2147483648)) ∙ omega arith

-- inverted twice is as it was
inverted_twice : (x : ℕ) → x < 4294967296 → bit_xor (bit_xor x 2147483648) 2147483648 ≡ x
inverted_twice x l = go (ltb x 2147483648) refl
  where
    go : (b : Bool) → ltb x 2147483648 ≡ b → bit_xor (bit_xor x 2147483648) 2147483648 ≡ x
    go true e = let h = ltb-true x 2147483648 e in
        ap (λ (z : ℕ). bit_xor z 2147483648) (inverted_low x h) ∙ inverted_high (2147483648 + x) (omega arith) (omega arith) ∙ omega arith
    go false e = let h = ltb-false x 2147483648 e in
        ap (λ (z : ℕ). bit_xor z 2147483648) (inverted_high x h l) ∙ inverted_low (x - 2147483648) (omega arith) ∙ omega arith

-- where two numbers have each digit in one of them, so have they above their lowest i
opposite : (i k n p : ℕ) → n + p + 1 ≡ 2 ^ (i + k) → n / 2 ^ i + p / 2 ^ i + 1 ≡ 2 ^ k
opposite zero k n p e =
    let z : 2 ^ (0 + k) ≡ 2 ^ k = ap (λ (z : ℕ). 2 ^ z) (let z : 0 + k ≡ k = omega arith in z) in
    let a : n / 1 + p / 1 + 1 ≡ 2 ^ k = omega (arith, e, z) in
    a
opposite (suc i) k n p e =
    let h = opposite i (suc k) n p (e ∙ ap (λ (z : ℕ). 2 ^ z) (let z : suc i + k ≡ i + suc k = omega arith in z)) in
    let a : n / 2 ^ i / 2 ≡ n / 2 ^ suc i = shr-shr n i 1 ∙ ap (λ (z : ℕ). n / 2 ^ z) (let z : i + 1 ≡ suc i = omega arith in z) in
    let b : p / 2 ^ i / 2 ≡ p / 2 ^ suc i = shr-shr p i 1 ∙ ap (λ (z : ℕ). p / 2 ^ z) (let z : i + 1 ≡ suc i = omega arith in z) in
    omega (arith, h, pow-suc 2 k, a, b)

-- bit i of the value that a word holds: that of the inverted word, its top bit from bit 31 on
word_bit : (x : ℕ) → x < 4294967296 → (i : ℕ) → bit (signed x) i ≡ bit_xor x 2147483648 / 2 ^ min i 31 % 2
unfolding bit parity shift_down
word_bit x l i = go (ltb x 2147483648) refl (ltb i 32) refl
  where
    low_in : x < 2147483648 → i < 32 → 1 - (2147483647 - x) / 2 ^ i % 2 ≡ (2147483648 + x) / 2 ^ i % 2
    low_in h k =
        let e = opposite i (suc (31 - i)) (2147483647 - x) (2147483648 + x)
        (let z : 2147483647 - x + (2147483648 + x) + 1 ≡ 4294967296 = omega arith in z ∙ ap (λ (z : ℕ). 2 ^ z) (let y : 32 ≡ i + suc (31 - i) = omega arith in y)) in
        omega (arith, e, pow-suc 2 (31 - i))

    go : (b : Bool) → ltb x 2147483648 ≡ b → (c : Bool) → ltb i 32 ≡ c → bit (signed x) i ≡ bit_xor x 2147483648 / 2 ^ min i 31 % 2
    go true e true f =
        let h = ltb-true x 2147483648 e in let k = ltb-true i 32 f in
        rw (low x h, inverted_low x h, let m : min i 31 ≡ i = omega arith in m) (low_in h k)
    go true e false f =
        let h = ltb-true x 2147483648 e in let k = ltb-false i 32 f in
        rw (low x h, inverted_low x h, let m : min i 31 ≡ 31 = omega arith in m, sym (halved_out (2147483647 - x) i (omega arith) k)) (omega arith)
    go false e true f =
        let h = ltb-false x 2147483648 e in let k = ltb-true i 32 f in
        rw (signed_high x h, inverted_high x h l, let m : min i 31 ≡ i = omega arith in m)
    go false e false f =
        let h = ltb-false x 2147483648 e in let k = ltb-false i 32 f in
        rw (signed_high x h, inverted_high x h l, let m : min i 31 ≡ 31 = omega arith in m, sym (halved_out (x - 2147483648) i (omega arith) k)) (omega arith)

-- an operator that goes bit by bit can be taken on the inverted words
module _ (F : ℤ → ℤ → ℤ) (f g : ℕ → ℕ → ℕ) (bits : (x y : ℤ) (i : ℕ) → bit (F x y) i ≡ g (bit x i) (bit y i)) (on : (a b : ℕ) → F (pos a) (pos b) ≡ pos (f a b)) (fits : (a b : ℕ) → a < 2 ^ 32 → b < 2 ^ 32 → f a b < 2 ^ 32) where
  inverted : (x y : ℕ) → x < 4294967296 → y < 4294967296 → signed (bit_xor (f (bit_xor x 2147483648) (bit_xor y 2147483648)) 2147483648) ≡ F (signed x) (signed y)
  unfolding bit parity shift_down
  inverted x y h k = twos_complement.by_bits _ _ each
    where
      p : ℕ
      p = bit_xor x 2147483648

      q : ℕ
      q = bit_xor y 2147483648

      word : (x : ℕ) → x < 4294967296 → bit_xor x 2147483648 < 4294967296
      word x h = xor_lt 32 x 2147483648 h (let z : 2147483648 < 2 ^ 32 = omega arith in z)

      together : (m : ℕ) → f p q / 2 ^ m % 2 ≡ g (p / 2 ^ m % 2) (q / 2 ^ m % 2)
      together m = ap (λ (z : ℤ). bit z m) (sym (on p q)) ∙ bits (pos p) (pos q) m

      each : (i : ℕ) → bit (signed (bit_xor (f p q) 2147483648)) i ≡ bit (F (signed x) (signed y)) i
      each i =
          word_bit (bit_xor (f p q) 2147483648) (word (f p q) (fits p q (word x h) (word y k))) i
          ∙ ap (λ (z : ℕ). z / 2 ^ min i 31 % 2) (inverted_twice (f p q) (fits p q (word x h) (word y k)))
          ∙ together (min i 31)
          ∙ sym (bits (signed x) (signed y) i ∙ ap₂ g (word_bit x h i) (word_bit y k i))

pub and_word : (x y : ℕ) → x < 4294967296 → y < 4294967296 → signed (bit_xor (bit_and (bit_xor x 2147483648) (bit_xor y 2147483648)) 2147483648) ≡ bits_and (signed x) (signed y)
unfolding bits_and
and_word = inverted bits_and bit_and min twos_complement.and_bits (λ a b. refl) (and_lt 32)

pub or_word : (x y : ℕ) → x < 4294967296 → y < 4294967296 → signed (bit_xor (bit_or (bit_xor x 2147483648) (bit_xor y 2147483648)) 2147483648) ≡ bits_or (signed x) (signed y)
unfolding bits_or
or_word = inverted bits_or bit_or max twos_complement.or_bits (λ a b. refl) (or_lt 32)

pub xor_word : (x y : ℕ) → x < 4294967296 → y < 4294967296 → signed (bit_xor (bit_xor (bit_xor x 2147483648) (bit_xor y 2147483648)) 2147483648) ≡ bits_xor (signed x) (signed y)
unfolding bits_xor
xor_word = inverted bits_xor bit_xor (λ (a b : ℕ). (a + b) % 2) twos_complement.xor_bits (λ a b. refl) (xor_lt 32)

-- ---- `shr`
pub down_low : (x k : ℕ) → x < 2147483648 → signed (2147483647 - (2147483647 - x) / 2 ^ k) ≡ shift_down (signed x) k
unfolding shift_down
down_low x k h = rw (low x h) (made_low ((2147483647 - x) / 2 ^ k) (omega (arith, shr_le (2147483647 - x) k)))

pub down_high : (x k : ℕ) → 2147483648 ≤ x → signed ((x - 2147483648) / 2 ^ k + 2147483648) ≡ shift_down (signed x) k
unfolding shift_down
down_high x k h = rw (signed_high x h) (made_high ((x - 2147483648) / 2 ^ k))

pub shr_by : (z : ℤ) (y : ℕ) → 2147483648 ≤ y → known (shift_down z (y - 2147483648)) ≡ shr_value z (signed y)
unfolding shr_value
shr_by z y h = rw (signed_high y h)

pub shr_none : (z : ℤ) (y : ℕ) → y < 2147483648 → missing ≡ shr_value z (signed y)
unfolding shr_value
shr_none z y h = rw (low y h)

-- ---- `shl`
up_zero : (n : ℕ) → known (pos 0) ≡ within (shift_up (pos 0) n)
unfolding within in_int shift_up
up_zero n = rw zero-mul

shl_zero : (n : ℕ) → n < 999999 → known (pos 0) ≡ shl_value (pos 0) (pos n)
unfolding shl_value
shl_zero n h = rw (lt-leb 999999 n h, shl_value) (up_zero n)

shl_zero_far : (n : ℕ) → 999999 ≤ n → missing ≡ shl_value (pos 0) (pos n)
unfolding shl_value
shl_zero_far n h = rw (le-leb 999999 n h, shl_value)

shl_other : (x : ℤ) (n : ℕ) → is_zero x ≡ false → within (shift_up x n) ≡ shl_value x (pos n)
unfolding shl_value
shl_other x n e = rw (e, shl_value)

-- shifted up by 32 no number but 0 is in INT
up_far : (x : ℤ) (n : ℕ) → is_zero x ≡ false → 32 ≤ n → outside ≡ within (shift_up x n)
unfolding shift_up
up_far (pos m) n e l = pos_out (m * 2 ^ n) (omega (arith, pow_mono l, mul-le-mul_right (2 ^ n) (let z : 1 ≤ m = positive m (eqb-false m 0 e) in z)))
  where
    positive : (m : ℕ) → (m ≡ 0 → ⊥) → 1 ≤ m
    positive zero f = absurd (f refl)
    positive (suc m) f = omega arith
up_far (negsuc m) n e l = neg_out (suc m * 2 ^ n) (omega (arith, pow_mono l, mul-le-mul_right (2 ^ n) (let z : 1 ≤ suc m = omega arith in z)))

module _ (x y : ℕ) where
  other : (x ≡ 2147483648 → ⊥) → is_zero (signed x) ≡ false
  other f = zero_test x ∙ ne_eqb x 2147483648 f

  pub shl_none : y < 2147483648 → missing ≡ shl_value (signed x) (signed y)
  unfolding shl_value
  shl_none h = rw (low y h)

  pub shl_nought : 2147483648 ≤ y → x ≡ 2147483648 → y - 2147483648 < 999999 → known (signed x) ≡ shl_value (signed x) (signed y)
  shl_nought k e h = rw (e, signed_high y k) (shl_zero (y - 2147483648) h)

  pub shl_nought_far : 2147483648 ≤ y → x ≡ 2147483648 → 999999 ≤ y - 2147483648 → missing ≡ shl_value (signed x) (signed y)
  shl_nought_far k e h = rw (e, signed_high y k) (shl_zero_far (y - 2147483648) h)

  pub shl_far : 2147483648 ≤ y → (x ≡ 2147483648 → ⊥) → 32 ≤ y - 2147483648 → outside ≡ shl_value (signed x) (signed y)
  shl_far k f h = rw (signed_high y k) (up_far (signed x) (y - 2147483648) (other f) h ∙ shl_other (signed x) (y - 2147483648) (other f))

  up_low : (n : ℕ) → x < 2147483648 → within (shift_up (signed x) n) ≡ within (neg_ℤ (pos ((2147483648 - x) * 2 ^ n)))
  unfolding shift_up
  up_low n h = let z : suc (2147483648 - suc x) ≡ 2147483648 - x = omega arith in rw (signed_low x h, z)

  up_high : (n : ℕ) → 2147483648 ≤ x → within (shift_up (signed x) n) ≡ within (pos ((x - 2147483648) * 2 ^ n))
  unfolding shift_up
  up_high n h = rw (signed_high x h)

  pub shl_low : 2147483648 ≤ y → (x ≡ 2147483648 → ⊥) → y - 2147483648 < 32 → x < 2147483648
      → within (neg_ℤ (pos ((2147483648 - x) * 2 ^ (y - 2147483648) % 2 ^ 64))) ≡ shl_value (signed x) (signed y)
  shl_low k f n h =
      ap (λ (m : ℕ). within (neg_ℤ (pos m))) (shl_exact 32 (y - 2147483648) 64 (let z : 2147483648 - x < 2 ^ 32 = omega arith in z) (omega arith))
      ∙ sym (up_low (y - 2147483648) h)
      ∙ rw (signed_high y k) (shl_other (signed x) (y - 2147483648) (other f))

  pub shl_high : 2147483648 ≤ y → (x ≡ 2147483648 → ⊥) → y - 2147483648 < 32 → 2147483648 ≤ x → x < 4294967296
      → within (pos ((x - 2147483648) * 2 ^ (y - 2147483648) % 2 ^ 64)) ≡ shl_value (signed x) (signed y)
  shl_high k f n h l =
      ap (λ (m : ℕ). within (pos m)) (shl_exact 32 (y - 2147483648) 64 (let z : x - 2147483648 < 2 ^ 32 = omega arith in z) (omega arith))
      ∙ sym (up_high (y - 2147483648) h)
      ∙ rw (signed_high y k) (shl_other (signed x) (y - 2147483648) (other f))
