use mathlib.Core.Path.{sym, ap, ◌∙◌}
use Rattle.spec.specs.Bytes.{Bytes, same_bytes}
use Rattle.cases.specs.Answer.{agrees}
use Rattle.cases.proofs.Laws.{prints_is, same_pointwise}
use Rattle.cases.proofs.run.compare.Goals as goal

pub returns-then-eq : goal.returns-then-eq
unfolding agrees
returns-then-eq g c = sym c.if-eq.true ∙ c.eq.ensures ∙ same_pointwise _ _ ∙ ap (λ (p : Bytes). same_bytes p c.args.stored.now) (prints_is c.args.text.now _ c.print_to-n.ensures.prints)

pub returns : goal.returns
unfolding agrees
returns g c = sym c.if-eq.false ∙ c.eq.ensures ∙ same_pointwise _ _ ∙ ap (λ (p : Bytes). same_bytes p c.args.stored.now) (prints_is c.args.text.now _ c.print_to-n.ensures.prints)
