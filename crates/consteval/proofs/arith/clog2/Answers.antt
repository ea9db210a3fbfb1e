use Rattle.consteval.proofs.ArithLaws.{clog2_none, clog2_some}
use Rattle.spec.specs.Value.{within}
use lib.IntN.{pos}
use Prim.Native.Nat.{ℕ}
use mathlib.Core.Path.{ap, ◌∙◌}
use Rattle.consteval.proofs.arith.clog2.Goals as goal

pub returns-then-x-le2147483648 : goal.returns-then-x-le2147483648
returns-then-x-le2147483648 c = clog2_none c.args.x c.if-x-le2147483648.true

pub returns : goal.returns
returns c = c.positive.ensures ∙ ap (λ (n : ℕ). within (pos n)) c.clog2_bits.ensures ∙ clog2_some c.args.x c.if-x-le2147483648.false
