use Rattle.drivers.proofs.EmitLaws.{counted, wrote}
use Rattle.drivers.proofs.emit.emit.Goals as goal

pub returns-then-write : goal.returns-then-write
returns-then-write c = wrote c.args.x c.count.ensures c.ended.ensures c.behind-at.ensures c.more-reports.ensures.value c.more-reports.ensures.upper_bound c.if-write.true c.put.auto.buf c.put.ensures

pub returns-else-write : goal.returns-else-write
returns-else-write c = counted c.args.x c.count.ensures c.ended.ensures c.behind-at.ensures c.more-reports.ensures.value c.more-reports.ensures.upper_bound c.if-write.false
