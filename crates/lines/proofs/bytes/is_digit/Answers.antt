use Rattle.lines.proofs.Laws.{digit_class}
use Rattle.lines.specs.Bytes.{is_digit}
use mathlib.Core.Path.{ap, ◌∙◌}
use Rattle.lines.proofs.bytes.is_digit.Goals as goal

pub returns : goal.returns
returns c = c.eq.ensures ∙ digit_class _ ∙ ap is_digit c.class_of.ensures
