use mathlib.Core.Path.{refl, ap, ◌∙◌}
use mathlib.Core.List.{[], ◌∷◌}
use Prim.Native.Nat.{ℕ}
use Rattle.sites.specs.Own.{own_of, misuse_table, misuse_number, first_added}
use Rattle.sites.proofs.Added.{misuse_added, misuse_means, first_none, first_put}
use Rattle.sites.specs.Own.{add_misuse}
use Rattle.sites.proofs.add_misuse.Goals as goal

pub returns-then-own-ne-OWN-clause-own_after : goal.returns-then-own-ne-OWN-clause-own_after
returns-then-own-ne-OWN-clause-own_after c = λ h. absurd (c.if-own-ne-OWN.true h)

pub returns-then-own-ne-OWN-clause-own_after_2 : goal.returns-then-own-ne-OWN-clause-own_after_2
returns-then-own-ne-OWN-clause-own_after_2 c = first_none misuse_table c.args.own.now (c.args.name ∷ c.args.start ∷ misuse_number c.args.kind ∷ []) c.if-own-ne-OWN.true

pub returns-then-own-ne-OWN-clause-own_len_unchanged : goal.returns-then-own-ne-OWN-clause-own_len_unchanged
returns-then-own-ne-OWN-clause-own_len_unchanged c = refl

pub returns-clause-own_after : goal.returns-clause-own_after
returns-clause-own_after c = λ h. ap own_of c.push_first.ensures ∙ misuse_added c.args.own.now (c.args.name ∷ c.args.start ∷ c.from.result ∷ []) c.if-own-ne-OWN.false refl
    ∙ ap (λ (k : _). add_misuse (record { name = c.args.name; start = c.args.start; misuse = k }) (own_of c.args.own.now)) (misuse_means c.args.kind c.from.result c.from.ensures)

pub returns-clause-own_after_2 : goal.returns-clause-own_after_2
returns-clause-own_after_2 c = first_put misuse_table c.args.own.now (c.args.name ∷ c.args.start ∷ c.from.result ∷ []) _ c.if-own-ne-OWN.false c.push_first.ensures ∙ ap (λ (k : ℕ). first_added misuse_table c.args.own.now (c.args.name ∷ c.args.start ∷ k ∷ [])) c.from.ensures

pub returns-clause-own_len_unchanged : goal.returns-clause-own_len_unchanged
returns-clause-own_len_unchanged c = c.push_first.auto.own
