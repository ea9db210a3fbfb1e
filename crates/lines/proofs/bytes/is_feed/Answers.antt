use Rattle.lines.proofs.Laws.{one_class, class_feed}
use Rattle.lines.specs.declared.bytes.Class.TheVariants.{Feed}
use mathlib.Core.Path.{◌∙◌}
use Rattle.lines.proofs.bytes.is_feed.Goals as goal

pub returns : goal.returns
returns c = c.eq.ensures ∙ one_class _ _ Feed 10 c.class_of.ensures (class_feed _) (λ h. h)
