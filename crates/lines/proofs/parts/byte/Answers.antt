use Rattle.lines.proofs.PartLaws.{past_end}
use Rattle.lines.proofs.parts.byte.Goals as goal

pub returns-else-i-s : goal.returns-else-i-s
returns-else-i-s c = past_end c.args.s.now c.args.i c.if-i-s.false
