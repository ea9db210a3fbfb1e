use Rattle.consteval.proofs.ArithLaws.{both_zero, both_test}
use mathlib.Core.Path.{◌∙◌}
use Rattle.consteval.proofs.arith.both.Goals as goal

pub returns-then-x-eq2147483648 : goal.returns-then-x-eq2147483648
returns-then-x-eq2147483648 c = c.truth.ensures ∙ both_zero c.args.x c.args.y c.if-x-eq2147483648.true

pub returns : goal.returns
returns c = c.truth-2.ensures ∙ both_test c.args.x c.args.y c.if-x-eq2147483648.false
