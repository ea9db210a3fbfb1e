use Rattle.steps.proofs.ModuleLaws.{entry_none}
use Rattle.steps.proofs.modules.place.Goals as goal

pub returns-else-i-mods : goal.returns-else-i-mods
returns-else-i-mods c = entry_none c.args.mods.now c.args.m c.args.k c.if-i-mods.false
