use Rattle.lines.proofs.Laws.{one_class, class_open}
use Rattle.lines.specs.declared.bytes.Class.TheVariants.{Open}
use mathlib.Core.Path.{◌∙◌}
use Rattle.lines.proofs.bytes.is_open.Goals as goal

pub returns : goal.returns
returns c = c.eq.ensures ∙ one_class _ _ Open 40 c.class_of.ensures (class_open _) (λ h. h)
