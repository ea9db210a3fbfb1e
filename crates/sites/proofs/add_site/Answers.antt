use mathlib.Core.Path.{refl, ap, ◌∙◌}
use mathlib.Core.List.{List, [], ◌∷◌, ◌++◌}
use Prim.Native.Nat.{ℕ}
use Rattle.sites.specs.Own.{site_of, site_table, site_numbers, row_added}
use Rattle.sites.proofs.Added.{site_added, added_by, extent_means, row_none, row_put}
use Rattle.sites.proofs.add_site.Goals as goal

pub returns-then-own-ne-OWN-clause-own_after : goal.returns-then-own-ne-OWN-clause-own_after
returns-then-own-ne-OWN-clause-own_after c = λ h. absurd (c.if-own-ne-OWN.true h)

pub returns-then-own-ne-OWN-clause-own_after_2 : goal.returns-then-own-ne-OWN-clause-own_after_2
returns-then-own-ne-OWN-clause-own_after_2 c = row_none site_table c.args.own.now (site_numbers c.args.s) c.if-own-ne-OWN.true

pub returns-then-own-ne-OWN-clause-own_len_unchanged : goal.returns-then-own-ne-OWN-clause-own_len_unchanged
returns-then-own-ne-OWN-clause-own_len_unchanged c = refl

pub returns-clause-own_after : goal.returns-clause-own_after
returns-clause-own_after c = λ h. added_by c.push.ensures.1 c.push.ensures.0
    ∙ site_added c.args.own.now (c.args.s.name ∷ c.from-x.result.code ∷ c.from-x.result.low ∷ c.from-x.result.high ∷ c.args.s.start ∷ []) (site_of c.args.s) c.if-own-ne-OWN.false refl (λ i. record { name = c.args.s.name; extent = extent_means c.args.s.extent c.from-x.result.code c.from-x.result.low c.from-x.result.high c.from-x.ensures i; start = c.args.s.start })

pub returns-clause-own_after_2 : goal.returns-clause-own_after_2
returns-clause-own_after_2 c = row_put site_table c.args.own.now (c.args.s.name ∷ c.from-x.result.code ∷ c.from-x.result.low ∷ c.from-x.result.high ∷ c.args.s.start ∷ []) _ _ c.if-own-ne-OWN.false c.push.ensures.1 c.push.ensures.0 ∙ ap (λ (l : List ℕ). row_added site_table c.args.own.now (c.args.s.name ∷ l ++ c.args.s.start ∷ [])) c.from-x.ensures

pub returns-clause-own_len_unchanged : goal.returns-clause-own_len_unchanged
returns-clause-own_len_unchanged c = c.push.auto.own
