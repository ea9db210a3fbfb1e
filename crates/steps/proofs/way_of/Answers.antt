use Rattle.std.proofs.Common.{rules, Ok, Err}
use Rattle.steps.proofs.StepLaws.{low_outside, way_never, way_once, way_nameless, way_rounds, high_missing, high_outside, low_missing, inside}
use Rattle.steps.specs.Steps.{Times}
use native.Mathlib.Omega.{arith}
use mathlib.Core.Path.{◌≡◌, ap, ◌∙◌}
use Rattle.spec.specs.Value.{is_outside}
use Rattle.consteval.specs.Worth.{Answer, worth}
use Rattle.steps.proofs.way_of.Goals as goal

pub returns-in_err-low : goal.returns-in_err-low
returns-in_err-low c =
    let e : ◌≡◌ {A = Times} c.from_residual.result (Err (record {})) = search rules in
    let r = low_outside c.args.n c.args.left c.args.low c.args.high c.in_err-low.was e in record { value = r.0; rounds_fit = r.1.0; result_value = r.1.1 }

pub returns-in_err-high : goal.returns-in_err-high
returns-in_err-high c =
    let e : ◌≡◌ {A = Times} c.from_residual-in_err-high.result (Err (record {})) = search rules in
    let r = high_outside c.args.n c.args.left c.args.low c.args.high (ap (λ (v : Answer). is_outside (worth v)) c.in_ok-low.was ∙ inside c.in_ok-low.low) c.in_err-high.was e in record { value = r.0; rounds_fit = r.1.0; result_value = r.1.1 }

pub returns-in_default : goal.returns-in_default
returns-in_default c =
    let r = low_missing c.args.n c.args.left c.args.low c.args.high (c.in_ok-low.was ∙ ap Ok c.in_default.is) (ap (λ (v : Answer). is_outside (worth v)) c.in_ok-high.was ∙ inside c.in_ok-high.high) in record { value = r.0; rounds_fit = r.1.0; result_value = r.1.1 }

pub returns-in_default-high : goal.returns-in_default-high
returns-in_default-high c =
    let r = high_missing c.args.n c.args.left c.args.low c.args.high (c.in_ok-low.was ∙ ap Ok c.in-Some.is) (c.in_ok-high.was ∙ ap Ok c.in_default-high.is) in record { value = r.0; rounds_fit = r.1.0; result_value = r.1.1 }

pub returns-then-h-l : goal.returns-then-h-l
returns-then-h-l c =
    let r = way_never c.args.n c.args.left c.args.low c.args.high (c.in_ok-low.was ∙ ap Ok c.in-Some.is) (c.in_ok-high.was ∙ ap Ok c.in-Some-high.is) c.if-h-l.true in record { value = r.0; rounds_fit = r.1.0; result_value = r.1.1 }

pub returns-then-left-h : goal.returns-then-left-h
returns-then-left-h c =
    let r = way_once c.args.n c.args.left c.args.low c.args.high (c.in_ok-low.was ∙ ap Ok c.in-Some.is) (c.in_ok-high.was ∙ ap Ok c.in-Some-high.is) (omega (arith, c.if-h-l.false)) c.if-left-h.true in record { value = r.0; rounds_fit = r.1.0; result_value = r.1.1 }

pub returns-then-n-gt4294967295 : goal.returns-then-n-gt4294967295
returns-then-n-gt4294967295 c =
    let r = way_nameless c.args.n c.args.left c.args.low c.args.high (c.in_ok-low.was ∙ ap Ok c.in-Some.is) (c.in_ok-high.was ∙ ap Ok c.in-Some-high.is) (omega (arith, c.if-h-l.false)) (omega (arith, c.if-left-h.false)) c.if-n-gt4294967295.true in record { value = r.0; rounds_fit = r.1.0; result_value = r.1.1 }

pub returns : goal.returns
returns c =
    let r = way_rounds c.args.n c.args.left c.args.low c.args.high (c.in_ok-low.was ∙ ap Ok c.in-Some.is) (c.in_ok-high.was ∙ ap Ok c.in-Some-high.is) (omega (arith, c.if-h-l.false)) (omega (arith, c.if-left-h.false)) (omega (arith, c.if-n-gt4294967295.false)) (omega arith) in record { value = r.0; rounds_fit = r.1.0; result_value = r.1.1 }
