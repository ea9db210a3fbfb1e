use Rattle.consteval.proofs.ArithLaws.{add_law}
use mathlib.Core.Path.{◌∙◌}
use Rattle.consteval.proofs.arith.add.Goals as goal

pub returns : goal.returns
returns c = c.difference.ensures ∙ add_law c.args.x c.args.y
