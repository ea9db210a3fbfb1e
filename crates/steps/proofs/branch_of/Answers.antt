use Rattle.std.proofs.Common.{rules, Ok, Err}
use Rattle.steps.proofs.StepLaws.{zero_else, other_then, missing_else, condition_outside}
use Rattle.steps.specs.Steps.{Chosen}
use Rattle.consteval.specs.Worth.{names_of}
use mathlib.Core.Path.{◌≡◌, ap, ◌∙◌}
use Rattle.steps.proofs.branch_of.Goals as goal

pub returns-in_err-y : goal.returns-in_err-y
returns-in_err-y c =
    let e : ◌≡◌ {A = Chosen} c.from_residual.result (Err (record {})) = search rules in
    let r = condition_outside c.args.x.now c.next_end-h.ensures c.next_end-a.ensures c.next_end-b.ensures c.args.depth (names_of c.args.names.now c.args.used) c.inner.ensures c.between.ensures c.eval-v.result c.eval-v.ensures c.in_err-y.was e in record { value = r.0; result_value = r.1 }

pub returns-in_default : goal.returns-in_default
returns-in_default c =
    let r = missing_else c.args.x.now c.next_end-h.ensures c.next_end-a.ensures c.next_end-b.ensures c.args.depth (names_of c.args.names.now c.args.used) c.inner.ensures c.between.ensures c.eval-v.result c.eval-v.ensures (c.in_ok-y.was ∙ ap Ok c.in_default.is) c.branch_at.ensures in record { value = r.0; result_value = r.1 }

pub returns-then-y : goal.returns-then-y
returns-then-y c =
    let r = zero_else c.args.x.now c.next_end-h.ensures c.next_end-a.ensures c.next_end-b.ensures c.args.depth (names_of c.args.names.now c.args.used) c.inner.ensures c.between.ensures c.eval-v.result c.eval-v.ensures (c.in_ok-y.was ∙ ap Ok c.in-Some.is) c.if-y.true c.branch_at-then-y.ensures in record { value = r.0; result_value = r.1 }

pub returns : goal.returns
returns c =
    let r = other_then c.args.x.now c.next_end-h.ensures c.next_end-a.ensures c.next_end-b.ensures c.args.depth (names_of c.args.names.now c.args.used) c.inner.ensures c.between.ensures c.eval-v.result c.eval-v.ensures (c.in_ok-y.was ∙ ap Ok c.in-Some.is) c.if-y.false c.branch_at-2.ensures in record { value = r.0; result_value = r.1 }
