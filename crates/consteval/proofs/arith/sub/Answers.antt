use Rattle.consteval.proofs.ArithLaws.{sub_law}
use mathlib.Core.Path.{◌∙◌}
use Rattle.consteval.proofs.arith.sub.Goals as goal

pub returns : goal.returns
returns c = c.difference.ensures ∙ sub_law c.args.x c.args.y
