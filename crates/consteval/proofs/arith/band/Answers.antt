use Rattle.consteval.proofs.BitLaws.{and_word}
use Rattle.consteval.proofs.arith.band.Goals as goal

pub returns : goal.returns
returns c = and_word c.args.x c.args.y c.ranges.x.fits c.ranges.y.fits
