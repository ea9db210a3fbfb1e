-- The end of a form, one law for each way of `form_end`.
-- Assumes nothing.
use mathlib.Core.Path.{◌≡◌, refl}
use mathlib.Core.Bool.{Bool, true, false}
use Prim.Native.Nat.{ℕ, zero, suc, ◌+◌, ◌-◌, ◌≤◌, ◌<◌, max}
use native.Mathlib.Omega.{arith}
use native.Mathlib.Numerals.{add-one, sub-one}
use lib.ListN.{length, drop, get_or, drop_of_length-le}
use lib.Dec.{leb}
use lib.Seq.{drop-cons}
use borrow.Author.Tests.{ne_eqb, leb-true, leb-false}
use Rattle.spec.specs.Bytes.{Bytes}
use Rattle.runs.specs.Run.{form_length}

module _ (s : Bytes) (i k : ℕ) where
  pub length_end : length s ≤ i → form_length k (drop i s) ≡ 0
  unfolding form_length
  length_end h = rw (drop_of_length-le s h)

  module _ (h : i < length s) where
    pub length_open : get_or s i 0 ≡ 40 → form_length k (drop i s) ≡ suc (form_length (k + 1) (drop (i + 1) s))
    unfolding form_length
    length_open e = rw (drop-cons s i 0 h, e, add-one i, add-one k)

    pub length_plain : (get_or s i 0 ≡ 40 → ⊥) → (get_or s i 0 ≡ 41 → ⊥) → form_length k (drop i s) ≡ suc (form_length k (drop (i + 1) s))
    unfolding form_length
    length_plain a b = rw (drop-cons s i 0 h, add-one, ne_eqb _ _ a, ne_eqb _ _ b, form_length)

module _ (s : Bytes) (i : ℕ) (h : i < length s) where
  pub length_last : (k : ℕ) → get_or s i 0 ≡ 41 → k ≤ 1 → form_length k (drop i s) ≡ 1
  unfolding form_length
  length_last zero e g = rw (drop-cons s i 0 h, e)
  length_last (suc zero) e g = rw (drop-cons s i 0 h, e)
  length_last (suc (suc k)) e g = absurd (omega arith)

  pub length_close : (k : ℕ) → get_or s i 0 ≡ 41 → 1 < k → form_length k (drop i s) ≡ suc (form_length (k - 1) (drop (i + 1) s))
  unfolding form_length
  length_close zero e g = absurd (omega arith)
  length_close (suc zero) e g = absurd (omega arith)
  length_close (suc (suc k)) e g = rw (drop-cons s i 0 h, e, add-one, sub-one)

-- no form is closed up to the end of the slice, which `from` may lie behind
pub length_done : (s : Bytes) (from i k m : ℕ) → length s ≤ i → from ≤ i → (from ≤ length s → i ≤ length s) → m ≡ max from (length s)
    → from + form_length 0 (drop from s) ≡ i + form_length k (drop i s) → m ≡ from + form_length 0 (drop from s)
length_done s from i k m h f u q e = go (leb from (length s)) refl
  where
    go : (b : Bool) → leb from (length s) ≡ b → m ≡ from + form_length 0 (drop from s)
    go true t = let w : i ≤ length s = u (leb-true from (length s) t) in omega (arith, length_end s i k h)
    go false t = let w : length s < from = leb-false from (length s) t in omega (arith, length_end s from 0 (omega arith))
