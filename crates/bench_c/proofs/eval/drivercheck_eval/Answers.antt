use mathlib.Core.Path.{ap, ◌∙◌}
use Rattle.std.specs.Prelude.{Ok}
use Rattle.spec.specs.Decode.{decode_expr}
use Rattle.spec.specs.Value.{value}
use Rattle.consteval.specs.Worth.{names_of}
use Rattle.bench_c.proofs.EvalLaws.{known_code, other_code}
use Rattle.bench_c.proofs.eval.drivercheck_eval.Goals as goal

pub returns-in-Ok-Some : goal.returns-in-Ok-Some
returns-in-Ok-Some c = known_code _ c.eval.result _ (c.in-Ok-Some.is ∙ ap Ok c.in-Ok-Some.field-0-is) (c.eval.ensures ∙ ap (λ d. value (names_of c.args.names.now c.args.used) (decode_expr d c.args.e.now)) c.bounded.ensures)

pub returns-in-Ok-None : goal.returns-in-Ok-None
returns-in-Ok-None c = other_code c.eval.result _ _ (c.in-Ok-None.is ∙ ap Ok c.in-Ok-None.field-0-is) (c.eval.ensures ∙ ap (λ d. value (names_of c.args.names.now c.args.used) (decode_expr d c.args.e.now)) c.bounded.ensures)

pub returns-in-Err : goal.returns-in-Err
returns-in-Err c = other_code c.eval.result _ _ c.in-Err.is (c.eval.ensures ∙ ap (λ d. value (names_of c.args.names.now c.args.used) (decode_expr d c.args.e.now)) c.bounded.ensures)
