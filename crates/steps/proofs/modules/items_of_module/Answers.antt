use Rattle.steps.proofs.ModuleLaws.{run_first, run_later}
use Rattle.steps.proofs.modules.items_of_module.Goals as goal

pub returns-then-i-eq0 : goal.returns-then-i-eq0
returns-then-i-eq0 c = run_first c.args.text.now c.args.mods.now c.args.m c.place-i.ensures c.place-e.ensures c.if-i-eq0.true c.stretch.ensures

pub returns : goal.returns
returns c = run_later c.args.text.now c.args.mods.now c.args.m c.place-i.ensures c.place-e.ensures c.stretch-2.ensures
