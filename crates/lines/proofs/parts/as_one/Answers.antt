use Rattle.lines.proofs.PartLaws.{other_single}
use Rattle.lines.specs.Parts.{to_single, single_of}
use mathlib.Core.Path.{sym, ap, ◌∙◌}
use Rattle.lines.proofs.parts.as_one.Goals as goal

pub returns-in-One : goal.returns-in-One
unfolding single_of
returns-in-One c = sym (ap to_single (sym c.behind.ensures ∙ c.in-One.is))

pub returns-in_default : goal.returns-in_default
unfolding single_of
returns-in_default c = other_single _ c.in_default.not-One ∙ ap to_single c.behind.ensures
