use Rattle.consteval.proofs.ArithLaws.{neg_law}
use mathlib.Core.Path.{◌∙◌}
use Rattle.consteval.proofs.arith.neg.Goals as goal

pub returns : goal.returns
returns c = c.difference.ensures ∙ neg_law c.args.x
