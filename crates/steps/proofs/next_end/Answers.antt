use Rattle.steps.proofs.StepLaws.{next_within, next_over}
use native.Mathlib.Omega.{arith}
use mathlib.Core.Path.{◌∙◌}
use Rattle.steps.proofs.next_end.Goals as goal

pub returns-then-before-x : goal.returns-then-before-x
returns-then-before-x c = c.part_end.ensures ∙ next_within c.args.x.now c.args.before c.if-before-x.true

pub returns : goal.returns
returns c = next_over c.args.x.now c.args.before (omega (arith, c.if-before-x.false))
