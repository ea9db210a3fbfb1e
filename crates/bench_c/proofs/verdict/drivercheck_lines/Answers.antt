use mathlib.Core.Path.{sym, ap, ◌∙◌}
use Rattle.spec.specs.Refusal.{refusal}
use Rattle.lines.specs.Verdict.{number_of, line_of}
use Rattle.bench_c.proofs.VerdictLaws.{refused_code, formed_code}
use Rattle.bench_c.proofs.verdict.drivercheck_lines.Goals as goal

pub returns-in-Err : goal.returns-in-Err
returns-in-Err c = refused_code _ _ (refusal c.args.text.now) (c.from.ensures ∙ ap number_of (sym c.in-Err.is) ∙ c.read.ensures.result_value) (ap line_of (sym c.in-Err.is) ∙ c.read.ensures.result_value_2)

pub returns-in-Ok : goal.returns-in-Ok
returns-in-Ok c = formed_code _ _ (refusal c.args.text.now) (sym c.in-Ok.is ∙ c.read.ensures.value)
