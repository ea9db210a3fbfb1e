use Rattle.consteval.proofs.ArithLaws.{pos_in, pos_out}
use Rattle.consteval.proofs.arith.positive.Goals as goal

pub returns-then-n-lt2147483648 : goal.returns-then-n-lt2147483648
returns-then-n-lt2147483648 c = pos_in c.args.n c.if-n-lt2147483648.true

pub returns : goal.returns
returns c = pos_out c.args.n c.if-n-lt2147483648.false
