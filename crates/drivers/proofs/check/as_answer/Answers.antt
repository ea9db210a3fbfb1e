use Rattle.std.specs.Prelude.{Result}
use mathlib.Core.Path.{sym, ap, ◌∙◌}
use Rattle.drivers.specs.Check.{answer_for}
use Rattle.drivers.specs.declared.check.Accepted.{Accepted}
use Rattle.drivers.specs.declared.check.Refusal.{Refusal}
use Rattle.drivers.proofs.check.as_answer.Goals as goal

pub returns-in-Err : goal.returns-in-Err
returns-in-Err c = λ buffer. c.refused.ensures buffer ∙ ap (λ (x : Result Accepted Refusal). answer_for x buffer) (sym c.in-Err.is)
