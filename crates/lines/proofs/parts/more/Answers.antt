use lib.Dec.{eqb}
use Prim.Native.Nat.{ℕ}
use mathlib.Core.Path.{ap, ◌∙◌}
use Rattle.lines.proofs.parts.more.Goals as goal

pub returns : goal.returns
returns c = c.is_space.ensures ∙ ap (λ (n : ℕ). eqb n 32) c.byte.ensures
