use Rattle.lines.proofs.PartLaws.{other_pair}
use Rattle.lines.specs.Parts.{to_pair, pair_of}
use mathlib.Core.Path.{sym, ap, ◌∙◌}
use Rattle.lines.proofs.parts.as_two.Goals as goal

pub returns-in-Two : goal.returns-in-Two
unfolding pair_of
returns-in-Two c = sym (ap to_pair (sym c.behind.ensures ∙ c.in-Two.is))

pub returns-in_default : goal.returns-in_default
unfolding pair_of
returns-in_default c = other_pair _ c.in_default.not-Two ∙ ap to_pair c.behind.ensures
