use Rattle.drivers.proofs.EmitLaws.{emits_line}
use Rattle.drivers.proofs.groups.say.Goals as goal

pub returns : goal.returns
returns c = emits_line _ c.emit.ensures
