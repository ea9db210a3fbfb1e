use Rattle.consteval.proofs.BitLaws.{shr_by, shr_none}
use Rattle.consteval.specs.Worth.{signed}
use Rattle.spec.specs.Value.{known}
use mathlib.Core.Path.{ap, ◌∙◌}
use Rattle.consteval.proofs.arith.shr.Goals as goal

pub returns-then-y-ge2147483648 : goal.returns-then-y-ge2147483648
returns-then-y-ge2147483648 c = ap known c.shift_down.ensures ∙ shr_by (signed c.args.x) c.args.y c.if-y-ge2147483648.true

pub returns : goal.returns
returns c = shr_none (signed c.args.x) c.args.y c.if-y-ge2147483648.false
