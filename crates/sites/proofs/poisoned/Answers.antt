use mathlib.Core.Path.{sym, ap, ◌∙◌}
use mathlib.Core.Bool.{Bool, ◌||◌}
use mathlib.Core.List.{List}
use Prim.Native.Nat.{ℕ}
use Rattle.spec.specs.Refusal.{has_name}
use Rattle.sites.specs.Own.{misuse_table, row_names, poisoned_names, own_of}
use Rattle.sites.proofs.Conflicts.{poison_rows, poisoned_are}
use Rattle.sites.proofs.poisoned.Goals as goal

pub returns-then-conflicted-clause-value : goal.returns-then-conflicted-clause-value
returns-then-conflicted-clause-value c =
    λ _. c.if-conflicted.true
    ∙ sym (poisoned_are c.in-Some.own.now c.args.name ∙ ap (λ (t : Bool). t || has_name c.args.name (row_names misuse_table c.in-Some.own.now)) (sym c.conflicted.ensures ∙ c.if-conflicted.true))
    ∙ ap (λ (l : List ℕ). has_name c.args.name (poisoned_names (own_of l))) c.in-Some.ensures.cases.same

pub returns-else-conflicted-clause-value : goal.returns-else-conflicted-clause-value
returns-else-conflicted-clause-value c =
    λ _. c.misused.ensures ∙ ap (has_name c.args.name) (poison_rows c.in-Some.own.now)
    ∙ sym (poisoned_are c.in-Some.own.now c.args.name ∙ ap (λ (t : Bool). t || has_name c.args.name (row_names misuse_table c.in-Some.own.now)) (sym c.conflicted.ensures ∙ c.if-conflicted.false))
    ∙ ap (λ (l : List ℕ). has_name c.args.name (poisoned_names (own_of l))) c.in-Some.ensures.cases.same
