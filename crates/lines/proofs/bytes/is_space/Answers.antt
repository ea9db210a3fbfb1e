use Rattle.lines.proofs.Laws.{one_class, class_space}
use Rattle.lines.specs.declared.bytes.Class.TheVariants.{Space}
use mathlib.Core.Path.{◌∙◌}
use Rattle.lines.proofs.bytes.is_space.Goals as goal

pub returns : goal.returns
returns c = c.eq.ensures ∙ one_class _ _ Space 32 c.class_of.ensures (class_space _) (λ h. h)
