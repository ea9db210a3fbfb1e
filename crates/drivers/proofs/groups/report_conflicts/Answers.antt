use mathlib.Core.Path.{refl, ◌∙◌}
use Rattle.drivers.proofs.EmitLaws.{emitting_start}
use Rattle.drivers.proofs.GroupLaws.{conflicts_then, conflicts_end}
use Rattle.drivers.proofs.groups.report_conflicts.Goals as goal

pub loop-i-init : goal.loop-i-init
loop-i-init c = (λ _. emitting_start _, refl)

pub loop-i-preserved : goal.loop-i-preserved
loop-i-preserved c = (conflicts_then c.args.t.now.own.now c.args.t.now.m c.conflict_count-n.result c.conflict_at-x.result c.loop-i-test.true c.conflict_count-n.ensures.upper_bound c.conflict_at-x.ensures.result_value c.loop-i.invariant.0 c.say-q.ensures, c.say-q.auto.buf ∙ c.loop-i.invariant.1)

pub returns : goal.returns
returns c = conflicts_end c.args.t.now.own.now c.args.t.now.m c.conflict_count-n.result c.loop-i-test.false c.conflict_count-n.ensures.value c.loop-i.invariant.0
