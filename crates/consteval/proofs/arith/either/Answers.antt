use Rattle.consteval.proofs.ArithLaws.{either_test, either_first}
use mathlib.Core.Path.{◌∙◌}
use Rattle.consteval.proofs.arith.either.Goals as goal

pub returns-then-x-eq2147483648 : goal.returns-then-x-eq2147483648
returns-then-x-eq2147483648 c = c.truth.ensures ∙ either_test c.args.x c.args.y c.if-x-eq2147483648.true

pub returns : goal.returns
returns c = c.truth-2.ensures ∙ either_first c.args.x c.args.y c.if-x-eq2147483648.false
