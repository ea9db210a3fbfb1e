use Rattle.lines.proofs.Laws.{one_class, class_minus}
use Rattle.lines.specs.declared.bytes.Class.TheVariants.{Minus}
use mathlib.Core.Path.{◌∙◌}
use Rattle.lines.proofs.bytes.is_minus.Goals as goal

pub returns : goal.returns
returns c = c.eq.ensures ∙ one_class _ _ Minus 45 c.class_of.ensures (class_minus _) (λ h. h)
