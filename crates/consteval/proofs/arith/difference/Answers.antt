use Rattle.consteval.proofs.ArithLaws.{diff_low, diff_high}
use mathlib.Core.Path.{◌∙◌}
use Rattle.consteval.proofs.arith.difference.Goals as goal

pub returns-then-a-b : goal.returns-then-a-b
returns-then-a-b c = c.negative.ensures ∙ diff_low c.args.a c.args.b c.if-a-b.true

pub returns-else-a-b : goal.returns-else-a-b
returns-else-a-b c = c.positive.ensures ∙ diff_high c.args.a c.args.b c.if-a-b.false
