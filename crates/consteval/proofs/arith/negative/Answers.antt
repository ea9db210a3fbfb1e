use Rattle.consteval.proofs.ArithLaws.{neg_in, neg_out}
use Rattle.consteval.proofs.arith.negative.Goals as goal

pub returns-then-n-le2147483648 : goal.returns-then-n-le2147483648
returns-then-n-le2147483648 c = neg_in c.args.n c.if-n-le2147483648.true

pub returns : goal.returns
returns c = neg_out c.args.n c.if-n-le2147483648.false
