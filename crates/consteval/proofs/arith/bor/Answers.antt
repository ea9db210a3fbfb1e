use Rattle.consteval.proofs.BitLaws.{or_word}
use Rattle.consteval.proofs.arith.bor.Goals as goal

pub returns : goal.returns
returns c = or_word c.args.x c.args.y c.ranges.x.fits c.ranges.y.fits
