-- Laws of numbers, one for each way through `value`.
-- Assumes nothing.
use mathlib.Core.Path.{◌≡◌, refl}
use mathlib.Core.List.{[], ◌∷◌}
use Prim.Native.Nat.{ℕ, ◌+◌, ◌*◌, ◌-◌, ◌≤◌, ◌<◌}
use native.Mathlib.Omega.{arith}
use native.Mathlib.Numerals.{add-one}
use lib.ListN.{length, drop, get_or, drop_of_length-le}
use lib.Seq.{drop-cons}
use Rattle.spec.specs.Bytes.{Bytes, number_after, number}

pub value_end : (s : Bytes) (i a : ℕ) → length s ≤ i → number_after a (drop i s) ≡ a
unfolding number_after
value_end s i a h = rw (drop_of_length-le s h)

pub value_step : (s : Bytes) (i a : ℕ) → i < length s → {d : ℕ} → d ≡ get_or s i 0 - 48 → number_after a (drop i s) ≡ number_after (a * 10 + d) (drop (i + 1) s)
unfolding number_after
value_step s i a h q = rw (q, add-one, drop-cons s i 0 h)

pub value_grows : (s : Bytes) (a : ℕ) → a ≤ number_after a s
unfolding number_after
value_grows [] a = omega arith
value_grows (c ∷ s) a = let h = value_grows s (a * 10 + (c - 48)) in omega arith

pub value_start : (s : Bytes) → number s ≡ number_after 0 (drop 0 s)
unfolding number
value_start s = refl
