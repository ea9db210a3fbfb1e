-- Whole numbers as two's complement of unlimited width. 02: U1.
-- To a reader: shift_up and bit are to believe; TwosComplement pins the others. It and Closed are statements, proved in proofs/Bits.
use Rattle.std.specs.Prelude.{◌≡◌, true, ℕ, ◌+◌, ◌-◌, ◌/◌, ◌%◌, ◌^◌, ◌<◌, min, max, ℤ, pos, negsuc, ◌+ℤ◌, ◌*ℤ◌}
use Rattle.std.specs.Int.Bits.{bit_and, bit_or, bit_xor}
use Rattle.spec.specs.Refusal.{in_int}

-- 02, U1: the bits that are 1 in a and not in b.
abbrev pub without : ℕ → ℕ → ℕ
without a b = bit_xor a (bit_and a b)

-- 02, U1: `band`, by the signs: negsuc n is −(n + 1), whose bits are those that n has not.
unfoldable pub bits_and : ℤ → ℤ → ℤ
bits_and (pos a) (pos b) = pos (bit_and a b)
bits_and (pos a) (negsuc b) = pos (without a b)
bits_and (negsuc a) (pos b) = pos (without b a)
bits_and (negsuc a) (negsuc b) = negsuc (bit_or a b)

-- 02, U1: `bor`.
unfoldable pub bits_or : ℤ → ℤ → ℤ
bits_or (pos a) (pos b) = pos (bit_or a b)
bits_or (pos a) (negsuc b) = negsuc (without b a)
bits_or (negsuc a) (pos b) = negsuc (without a b)
bits_or (negsuc a) (negsuc b) = negsuc (bit_and a b)

-- 02, U1: `bxor`.
unfoldable pub bits_xor : ℤ → ℤ → ℤ
bits_xor (pos a) (pos b) = pos (bit_xor a b)
bits_xor (pos a) (negsuc b) = negsuc (bit_xor a b)
bits_xor (negsuc a) (pos b) = negsuc (bit_xor a b)
bits_xor (negsuc a) (negsuc b) = pos (bit_xor a b)

-- 02, U1: `shl`: z times 2 to the n.
unfoldable pub shift_up : ℤ → ℕ → ℤ
shift_up z n = z *ℤ pos (2 ^ n)

-- 02, U1: `shr`: z divided by 2 to the n, rounded towards minus infinity.
unfoldable pub shift_down : ℤ → ℕ → ℤ
shift_down (pos m) n = pos (m / 2 ^ n)
shift_down (negsuc m) n = negsuc (m / 2 ^ n)

-- 02, U1: a whole number modulo 2.
unfoldable pub parity : ℤ → ℕ
parity (pos m) = m % 2
parity (negsuc m) = 1 - m % 2

-- 02, U1: bit i of z: z divided by 2 to the i, rounded towards minus infinity, modulo 2.
unfoldable pub bit : ℤ → ℕ → ℕ
bit z i = parity (shift_down z i)

-- The theorem. 02, U1: two's complement of unlimited width. `floor`: z is shift_down z n times 2 to the n, plus a rest from 0 to below 2 to
-- the n. `halves`: z is twice its half rounded down, plus its parity, 0 or 1. `and_bits`, `or_bits`, `xor_bits`: bit i of a result is and, or,
-- xor of bit i of the operands, for every i. `by_bits`: numbers with the same bits are equal, so that these laws say what the three operators
-- are.
pub record TwosComplement : Type 0 where
  pub floor : (z : ℤ) (n : ℕ) → (r : ℕ) × (r < 2 ^ n) × (z ≡ shift_down z n *ℤ pos (2 ^ n) +ℤ pos r)
  pub halves : (z : ℤ) → (parity z < 2) × (z ≡ shift_down z 1 *ℤ pos 2 +ℤ pos (parity z))
  pub and_bits : (x y : ℤ) (i : ℕ) → bit (bits_and x y) i ≡ min (bit x i) (bit y i)
  pub or_bits : (x y : ℤ) (i : ℕ) → bit (bits_or x y) i ≡ max (bit x i) (bit y i)
  pub xor_bits : (x y : ℤ) (i : ℕ) → bit (bits_xor x y) i ≡ (bit x i + bit y i) % 2
  pub by_bits : (x y : ℤ) → ((i : ℕ) → bit x i ≡ bit y i) → x ≡ y

-- The theorem. 02, U1: two INT give an INT under `band`, `bor` and `bxor`, and so does an INT under `shr`.
pub record Closed : Type 0 where
  pub and_in : (x y : ℤ) → in_int x ≡ true → in_int y ≡ true → in_int (bits_and x y) ≡ true
  pub or_in : (x y : ℤ) → in_int x ≡ true → in_int y ≡ true → in_int (bits_or x y) ≡ true
  pub xor_in : (x y : ℤ) → in_int x ≡ true → in_int y ≡ true → in_int (bits_xor x y) ≡ true
  pub down_in : (z : ℤ) (n : ℕ) → in_int z ≡ true → in_int (shift_down z n) ≡ true
