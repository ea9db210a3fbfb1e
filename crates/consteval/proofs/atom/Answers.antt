use Rattle.consteval.proofs.EvalLaws.{by_atom, atom_law, other_atom}
use Rattle.consteval.specs.Worth.{shape}
use Rattle.consteval.specs.declared.shape.Shape.{Shape}
use Rattle.spec.specs.Bytes.{number}
use mathlib.Core.List.{[]}
use mathlib.Core.Path.{sym, ap, ◌∙◌}
use Rattle.consteval.proofs.atom.Goals as goal

pub returns-in-True : goal.returns-in-True
returns-in-True c = c.truth.ensures ∙ ap (λ (x : Shape). by_atom x (number c.args.e.now)) (sym (sym (c.shape_of.ensures ∙ ap shape c.word_of.ensures) ∙ c.in-True.is)) ∙ sym (atom_law [] c.args.e.now)

pub returns-in-False : goal.returns-in-False
returns-in-False c = c.truth-in-False.ensures ∙ ap (λ (x : Shape). by_atom x (number c.args.e.now)) (sym (sym (c.shape_of.ensures ∙ ap shape c.word_of.ensures) ∙ c.in-False.is)) ∙ sym (atom_law [] c.args.e.now)

pub returns-in_default : goal.returns-in_default
returns-in_default c = c.literal.ensures ∙ other_atom _ _ c.in_default.not-True c.in_default.not-False ∙ ap (λ (x : Shape). by_atom x (number c.args.e.now)) (c.shape_of.ensures ∙ ap shape c.word_of.ensures) ∙ sym (atom_law [] c.args.e.now)
