use Rattle.consteval.proofs.BitLaws.{shl_none, shl_nought, shl_nought_far, shl_far, shl_low, shl_high}
use mathlib.Core.Path.{◌∙◌}
use Rattle.consteval.proofs.arith.shl.Goals as goal

pub returns-then-y-lt2147483648 : goal.returns-then-y-lt2147483648
returns-then-y-lt2147483648 c = shl_none c.args.x c.args.y c.if-y-lt2147483648.true

pub returns-then-n-lt999999 : goal.returns-then-n-lt999999
returns-then-n-lt999999 c = shl_nought c.args.x c.args.y c.if-y-lt2147483648.false c.if-x-eq2147483648.true c.if-n-lt999999.true

pub returns-then-x-eq2147483648 : goal.returns-then-x-eq2147483648
returns-then-x-eq2147483648 c = shl_nought_far c.args.x c.args.y c.if-y-lt2147483648.false c.if-x-eq2147483648.true c.if-n-lt999999.false

pub returns-then-n-ge32 : goal.returns-then-n-ge32
returns-then-n-ge32 c = shl_far c.args.x c.args.y c.if-y-lt2147483648.false c.if-x-eq2147483648.false c.if-n-ge32.true

pub returns-then-x-lt2147483648 : goal.returns-then-x-lt2147483648
returns-then-x-lt2147483648 c = c.negative.ensures ∙ shl_low c.args.x c.args.y c.if-y-lt2147483648.false c.if-x-eq2147483648.false c.if-n-ge32.false c.if-x-lt2147483648.true

pub returns : goal.returns
returns c = c.positive.ensures ∙ shl_high c.args.x c.args.y c.if-y-lt2147483648.false c.if-x-eq2147483648.false c.if-n-ge32.false c.if-x-lt2147483648.false c.ranges.x.fits
