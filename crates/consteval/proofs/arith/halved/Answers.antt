use Rattle.consteval.proofs.BitLaws.{halved_out}
use Rattle.consteval.proofs.arith.halved.Goals as goal

pub returns : goal.returns
returns c = halved_out c.args.n c.args.k c.ranges.n.fits c.if-k-lt32.false
