use Rattle.lines.proofs.Laws.{byte_is, byte_not}
use Rattle.edges.proofs.ExprLaws.{opens_not, opens_by}
use Rattle.edges.proofs.opens.Goals as goal

pub returns-then-not-is_open : goal.returns-then-not-is_open
returns-then-not-is_open c = opens_not c.args.x.now c.args.a (byte_not _ _ _ 40 c.is_open.ensures c.byte.ensures c.if-not-is_open.true)

pub returns : goal.returns
returns c = opens_by c.args.x.now c.args.a (byte_is _ _ _ 40 c.is_open.ensures c.byte.ensures c.if-not-is_open.false) c.byte-2.ensures
