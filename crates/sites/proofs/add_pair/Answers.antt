use mathlib.Core.Path.{refl, ap, ◌∙◌}
use mathlib.Core.List.{List, [], ◌∷◌}
use Prim.Native.Nat.{ℕ}
use native.Mathlib.Omega.{arith}
use Rattle.sites.specs.Own.{own_of, add_pair, pair_row_added}
use Rattle.sites.proofs.Added.{pair_added, pair_seen, added_by, pair_none, pair_there, pair_put}
use Rattle.sites.proofs.Pairs.{pairs_by}
use Rattle.sites.proofs.add_pair.Goals as goal

pub returns-in_default-clause-own_after_2 : goal.returns-in_default-clause-own_after_2
returns-in_default-clause-own_after_2 c = pair_none (record { name = c.args.name; block = c.args.block }) c.args.own.now c.in_default.ensures.cases

pub returns-then-has_pair-clause-own_after : goal.returns-then-has_pair-clause-own_after
returns-then-has_pair-clause-own_after c = λ _.
    pair_seen c.in-Some.own.now (record { name = c.args.name; block = c.args.block }) (pairs_by c.in-Some.own.now (record { name = c.args.name; block = c.args.block }) c.rows_in-n.result c.has_pair.result c.rows_in-n.ensures.0 c.has_pair.ensures ∙ c.if-has_pair.true)
    ∙ ap (λ (l : List ℕ). add_pair (record { name = c.args.name; block = c.args.block }) (own_of l)) c.in-Some.ensures.cases.same

pub returns-then-has_pair-clause-own_after_2 : goal.returns-then-has_pair-clause-own_after_2
returns-then-has_pair-clause-own_after_2 c =
    pair_there (record { name = c.args.name; block = c.args.block }) c.in-Some.own.now (omega arith) (pairs_by c.in-Some.own.now (record { name = c.args.name; block = c.args.block }) c.rows_in-n.result c.has_pair.result c.rows_in-n.ensures.0 c.has_pair.ensures ∙ c.if-has_pair.true)
    ∙ ap (pair_row_added (record { name = c.args.name; block = c.args.block })) c.in-Some.ensures.cases.same

pub returns-clause-own_after : goal.returns-clause-own_after
returns-clause-own_after c = λ _.
    added_by c.push.ensures.1 c.push.ensures.0
    ∙ pair_added c.in-Some.own.now (c.args.name ∷ c.args.block ∷ []) (record { name = c.args.name; block = c.args.block }) (omega arith) refl refl (pairs_by c.in-Some.own.now (record { name = c.args.name; block = c.args.block }) c.rows_in-n.result c.has_pair.result c.rows_in-n.ensures.0 c.has_pair.ensures ∙ c.if-has_pair.false)
    ∙ ap (λ (l : List ℕ). add_pair (record { name = c.args.name; block = c.args.block }) (own_of l)) c.in-Some.ensures.cases.same

pub returns-clause-own_after_2 : goal.returns-clause-own_after_2
returns-clause-own_after_2 c =
    pair_put (record { name = c.args.name; block = c.args.block }) c.in-Some.own.now _ _ (omega arith) (pairs_by c.in-Some.own.now (record { name = c.args.name; block = c.args.block }) c.rows_in-n.result c.has_pair.result c.rows_in-n.ensures.0 c.has_pair.ensures ∙ c.if-has_pair.false) c.push.ensures.1 c.push.ensures.0
    ∙ ap (pair_row_added (record { name = c.args.name; block = c.args.block })) c.in-Some.ensures.cases.same
