use Rattle.lines.proofs.PartLaws.{other_triple}
use Rattle.lines.specs.Parts.{to_triple, triple_of}
use mathlib.Core.Path.{sym, ap, ◌∙◌}
use Rattle.lines.proofs.parts.as_three.Goals as goal

pub returns-in-Three : goal.returns-in-Three
unfolding triple_of
returns-in-Three c = sym (ap to_triple (sym c.behind.ensures ∙ c.in-Three.is))

pub returns-in_default : goal.returns-in_default
unfolding triple_of
returns-in_default c = other_triple _ c.in_default.not-Three ∙ ap to_triple c.behind.ensures
