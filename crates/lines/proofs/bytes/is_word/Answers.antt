use Rattle.lines.proofs.Laws.{not_class, no_word}
use Rattle.lines.specs.Bytes.{is_word}
use Rattle.lines.specs.declared.bytes.Class.TheVariants.{Digit, Letter}
use mathlib.Core.Path.{sym, ap, ◌∙◌}
use mathlib.Core.List.{[], ◌∷◌}
use mathlib.Core.Logic.{inl, inr}
use Rattle.lines.proofs.bytes.is_word.Goals as goal

pub returns-in-Digit : goal.returns-in-Digit
returns-in-Digit c = elim c.in-Digit.is [ inl e ↦ ap is_word (sym e ∙ c.class_of.ensures) | inr e ↦ ap is_word (sym e ∙ c.class_of.ensures) ]

pub returns-in_default : goal.returns-in_default
returns-in_default c = no_word _ (not_class (0 ∷ 1 ∷ 2 ∷ 5 ∷ 6 ∷ 7 ∷ 8 ∷ []) _ _ c.class_of.ensures c.in_default.in_default-own.keys2 Digit tt) (not_class (0 ∷ 1 ∷ 2 ∷ 5 ∷ 6 ∷ 7 ∷ 8 ∷ []) _ _ c.class_of.ensures c.in_default.in_default-own.keys2 Letter tt)
