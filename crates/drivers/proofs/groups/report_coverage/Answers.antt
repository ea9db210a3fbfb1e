use mathlib.Core.Path.{refl, ◌∙◌}
use Rattle.consteval.specs.Worth.{names_of}
use Rattle.drivers.proofs.CoverLaws.{cover_start, cover_then, cover_outside, cover_end}
use Rattle.drivers.proofs.groups.report_coverage.Goals as goal

pub loop-i-init : goal.loop-i-init
loop-i-init c = (λ l os t. cover_start c.args.t.now.text.now c.args.t.now.own.now (names_of c.args.t.now.names.now c.args.t.now.used) c.args.t.now.m c.output_count-n.result (c.output_count-n.ensures.value l) os t, refl)

pub loop-i-preserved : goal.loop-i-preserved
loop-i-preserved c = (λ l os t. cover_then c.args.t.now.text.now c.args.t.now.own.now (names_of c.args.t.now.names.now c.args.t.now.used) c.args.t.now.m c.output_count-n.result c.report_output.result _ c.output_at-x.result c.loop-i-test.true c.output_count-n.ensures.upper_bound c.output_at-x.ensures.result_value c.report_output.ensures l (c.loop-i.invariant.0 l os t) _ c.in_ok-q.was, c.report_output.auto.buf ∙ c.loop-i.invariant.1)

pub returns-in_err-q : goal.returns-in_err-q
returns-in_err-q c = λ l os t. cover_outside c.args.t.now.text.now c.args.t.now.own.now (names_of c.args.t.now.names.now c.args.t.now.used) c.args.t.now.m c.output_count-n.result c.report_output.result _ c.output_at-x.result c.loop-i-test.true c.output_count-n.ensures.upper_bound c.output_at-x.ensures.result_value c.report_output.ensures l (c.loop-i.invariant.0 l os t) c.in_err-q.was c.from_residual.result c.from_residual.ensures.0

pub returns : goal.returns
returns c = λ l os t. cover_end c.args.t.now.text.now c.args.t.now.own.now (names_of c.args.t.now.names.now c.args.t.now.used) c.args.t.now.m c.output_count-n.result c.loop-i-test.false (c.loop-i.invariant.0 l os t)
