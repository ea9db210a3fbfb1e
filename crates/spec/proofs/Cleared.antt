-- Every place of a slice is 0 where a call cleared it, or said that a limit is passed. Assumes nothing.
use mathlib.Core.Path.{◌≡◌, sym, ap, ◌∙◌}
use mathlib.Core.Bool.{Bool, true, false}
use mathlib.Core.List.{List}
use Prim.Native.Nat.{ℕ}
use lib.ListN.{length, replicate, length-replicate}
use Rattle.spec.specs.Cleared.{Cleared}

-- every place of a slice is 0 where a call says false
abbrev pub ClearedUnless : Bool → List ℕ → Type 0
ClearedUnless true s = Unit {0}
ClearedUnless false s = Cleared s

-- it was cleared
pub cleared_of : (n : ℕ) (s : List ℕ) → s ≡ replicate n 0 → Cleared s
cleared_of n s e = e ∙ ap (λ m. replicate {A = ℕ} m 0) (sym (ap length e ∙ length-replicate {A = ℕ} n 0))

-- a call said false
pub false_cleared : (b : Bool) (s : List ℕ) → b ≡ false → ClearedUnless b s → Cleared s
false_cleared b s e z = rw e at z
