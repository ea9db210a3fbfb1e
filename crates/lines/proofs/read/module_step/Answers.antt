use Rattle.lines.proofs.ReadLaws.{module_wrong, module_many, module_next}
use Rattle.lines.proofs.read.module_step.Goals as goal

pub returns-then-n-modules : goal.returns-then-n-modules
returns-then-n-modules c = rw c.in-Some.is (module_wrong _ 0 _ _ c.if-n-modules.true)

pub returns-then-modules-ge-MODULES : goal.returns-then-modules-ge-MODULES
returns-then-modules-ge-MODULES c = rw c.in-Some.is (module_many _ 0 _ _ c.if-n-modules.false c.if-modules-ge-MODULES.true)

pub returns : goal.returns
returns c = rw c.in-Some.is (module_next _ 0 _ _ c.if-n-modules.false c.if-modules-ge-MODULES.false)
