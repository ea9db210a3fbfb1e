use mathlib.Core.Path.{◌≡◌, ◌∙◌, ap}
use Prim.Native.Nat.{ℕ, ◌+◌, ◌*◌, ◌-◌}
use native.Mathlib.Omega.{arith}
use lib.ListN.{take, drop}
use Rattle.collect.proofs.places.module_kinds.Goals as goal

pub returns : goal.returns
returns c = let n : c.args.m * 256 + 256 - c.args.m * 256 ≡ 256 = omega arith in c.stretch.ensures ∙ ap (λ (k : ℕ). take k (drop (c.args.m * 256) c.args.kinds.now)) n
