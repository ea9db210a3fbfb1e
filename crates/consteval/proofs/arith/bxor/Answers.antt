use Rattle.consteval.proofs.BitLaws.{xor_word}
use Rattle.consteval.proofs.arith.bxor.Goals as goal

pub returns : goal.returns
returns c = xor_word c.args.x c.args.y c.ranges.x.fits c.ranges.y.fits
