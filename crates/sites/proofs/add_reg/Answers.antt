use mathlib.Core.Path.{refl, ap, ◌∙◌}
use mathlib.Core.List.{[], ◌∷◌}
use Rattle.sites.specs.Own.{own_of, reg_table}
use Rattle.sites.proofs.Added.{reg_added, first_none, first_put}
use Rattle.sites.proofs.add_reg.Goals as goal

pub returns-then-own-ne-OWN-clause-own_after : goal.returns-then-own-ne-OWN-clause-own_after
returns-then-own-ne-OWN-clause-own_after c = λ h. absurd (c.if-own-ne-OWN.true h)

pub returns-then-own-ne-OWN-clause-own_after_2 : goal.returns-then-own-ne-OWN-clause-own_after_2
returns-then-own-ne-OWN-clause-own_after_2 c = first_none reg_table c.args.own.now (c.args.name ∷ c.args.start ∷ []) c.if-own-ne-OWN.true

pub returns-then-own-ne-OWN-clause-own_len_unchanged : goal.returns-then-own-ne-OWN-clause-own_len_unchanged
returns-then-own-ne-OWN-clause-own_len_unchanged c = refl

pub returns-clause-own_after : goal.returns-clause-own_after
returns-clause-own_after c = λ h. ap own_of c.push_first.ensures ∙ reg_added c.args.own.now (c.args.name ∷ c.args.start ∷ []) c.if-own-ne-OWN.false refl

pub returns-clause-own_after_2 : goal.returns-clause-own_after_2
returns-clause-own_after_2 c = first_put reg_table c.args.own.now (c.args.name ∷ c.args.start ∷ []) _ c.if-own-ne-OWN.false c.push_first.ensures

pub returns-clause-own_len_unchanged : goal.returns-clause-own_len_unchanged
returns-clause-own_len_unchanged c = c.push_first.auto.own
