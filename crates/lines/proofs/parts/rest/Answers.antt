use Rattle.lines.proofs.PartLaws.{rest_in, rest_over}
use Rattle.lines.proofs.parts.rest.Goals as goal

pub returns-then-k-s : goal.returns-then-k-s
returns-then-k-s c = rest_in c.args.s.now c.args.k

pub returns-else-k-s : goal.returns-else-k-s
returns-else-k-s c = rest_over c.args.s.now c.args.k c.if-k-s.false
