use Rattle.steps.proofs.ModuleLaws.{stretch_over, stretch_rest, stretch_none}
use Rattle.steps.proofs.modules.stretch.Goals as goal

pub returns-then-text-from : goal.returns-then-text-from
returns-then-text-from c = stretch_over c.args.text.now c.args.from c.args.to c.if-text-from.true

pub returns-then-text-to : goal.returns-then-text-to
returns-then-text-to c = stretch_rest c.args.text.now c.args.from c.args.to c.if-text-to.true

pub returns-then-to-from : goal.returns-then-to-from
returns-then-to-from c = stretch_none c.args.text.now c.args.from c.args.to c.if-to-from.true
