use Rattle.lines.proofs.PartLaws.{past_end}
use Rattle.edges.proofs.word.Goals as goal

pub returns-else-i-w : goal.returns-else-i-w
returns-else-i-w c = past_end c.args.w.now c.args.i c.if-i-w.false
