use mathlib.Core.Path.{refl, ◌∙◌}
use Rattle.drivers.proofs.EmitLaws.{emitting_start}
use Rattle.drivers.proofs.GroupLaws.{misuses_then, misuses_end}
use Rattle.drivers.proofs.groups.report_misuses.Goals as goal

pub loop-i-init : goal.loop-i-init
loop-i-init c = (λ _. emitting_start _, refl)

pub loop-i-preserved : goal.loop-i-preserved
loop-i-preserved c = (misuses_then c.args.t.now.own.now c.args.t.now.m c.misuse_count-n.result c.misuse_at-x.result c.misuse_detail-detail.result c.loop-i-test.true c.misuse_count-n.ensures.upper_bound c.misuse_at-x.ensures.result_value c.misuse_detail-detail.ensures c.loop-i.invariant.0 c.say-q.ensures, c.say-q.auto.buf ∙ c.loop-i.invariant.1)

pub returns : goal.returns
returns c = misuses_end c.args.t.now.own.now c.args.t.now.m c.misuse_count-n.result c.loop-i-test.false c.misuse_count-n.ensures.value c.loop-i.invariant.0
