use Rattle.sites.specs.Own.{storage_of}
use Rattle.drivers.specs.Groups.{report_by}
use Rattle.drivers.proofs.EmitLaws.{emit_none}
use Rattle.drivers.proofs.GroupLaws.{storage_kept, storage_emits}
use Rattle.drivers.proofs.groups.report_storage.Goals as goal

pub returns-then-poisoned : goal.returns-then-poisoned
returns-then-poisoned c = storage_kept c.args.t.now.own.now c.args.t.now.m (storage_of c.args.x) c.poisoned.ensures.value (report_by c.args.kind c.args.t.now.m) c.if-poisoned.true

pub returns-in-Some : goal.returns-in-Some
returns-in-Some c = storage_emits c.args.t.now.own.now c.args.t.now.m (storage_of c.args.x) c.poisoned.ensures.value c.args.kind c.if-poisoned.false c.blocks_of.ensures.value c.blocks_detail.ensures c.in-Some.is c.say.ensures

pub returns-in-None : goal.returns-in-None
returns-in-None c = storage_emits c.args.t.now.own.now c.args.t.now.m (storage_of c.args.x) c.poisoned.ensures.value c.args.kind c.if-poisoned.false c.blocks_of.ensures.value c.blocks_detail.ensures c.in-None.is emit_none
