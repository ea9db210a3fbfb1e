use mathlib.Core.Path.{refl, ◌∙◌}
use Rattle.drivers.specs.Groups.{report_by, table_by}
use Rattle.drivers.proofs.EmitLaws.{emitting_start}
use Rattle.drivers.proofs.GroupLaws.{storage_then, stored_end}
use Rattle.drivers.proofs.groups.report_blocks.Goals as goal

pub loop-i-init : goal.loop-i-init
loop-i-init c = (λ _. emitting_start _, refl)

pub loop-i-preserved : goal.loop-i-preserved
loop-i-preserved c = (storage_then (report_by c.args.kind c.args.t.now.m) (table_by c.args.kind) c.args.t.now.own.now c.storage_count-n.result c.storage_at-x.result c.loop-i-test.true c.storage_count-n.ensures.upper_bound c.storage_at-x.ensures c.loop-i.invariant.0 c.report_storage-q.ensures, c.report_storage-q.auto.buf ∙ c.loop-i.invariant.1)

pub returns : goal.returns
returns c = stored_end c.args.kind c.args.t.now.own.now c.args.t.now.m c.storage_count-n.result c.loop-i-test.false c.storage_count-n.ensures.value c.loop-i.invariant.0
