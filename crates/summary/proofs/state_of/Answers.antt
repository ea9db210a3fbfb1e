use mathlib.Core.Path.{◌∙◌, ap}
use Rattle.summary.specs.Keeps.{state_by}
use Rattle.summary.proofs.Table.{state_zero, state_one, state_other}
use Rattle.summary.proofs.state_of.Goals as goal

pub returns-then-s-eq0 : goal.returns-then-s-eq0
returns-then-s-eq0 c = state_zero _ c.if-s-eq0.true ∙ ap state_by c.at-s.ensures

pub returns-then-s-eq1 : goal.returns-then-s-eq1
returns-then-s-eq1 c = state_one _ c.if-s-eq1.true ∙ ap state_by c.at-s.ensures

pub returns : goal.returns
returns c = state_other _ c.if-s-eq0.false c.if-s-eq1.false ∙ ap state_by c.at-s.ensures
