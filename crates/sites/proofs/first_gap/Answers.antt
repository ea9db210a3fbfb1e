use mathlib.Core.Path.{ap, ◌∙◌}
use mathlib.Core.List.{List}
use Prim.Native.Nat.{ℕ}
use Rattle.spec.specs.Site as site
use Rattle.sites.specs.Own.{own_of}
use Rattle.sites.proofs.Marks.{gap_least}
use Rattle.sites.proofs.first_gap.Goals as goal

pub returns-then-limit-le64-clause-result_value : goal.returns-then-limit-le64-clause-result_value
returns-then-limit-le64-clause-result_value c = λ _. c.gap_below.ensures ∙ gap_least (site.sites_of c.args.name (own_of c.in_ok-own.own.now).sites) c.args.width c.min-limit.result c.min-limit.ensures
    ∙ ap (λ (l : List ℕ). site.first_gap (site.sites_of c.args.name (own_of l).sites) c.args.width) c.in_ok-own.ensures.cases.same

pub returns-clause-result_value : goal.returns-clause-result_value
returns-clause-result_value c = λ _. c.gap_below-2.ensures ∙ gap_least (site.sites_of c.args.name (own_of c.in_ok-own.own.now).sites) c.args.width c.min-limit.result c.min-limit.ensures
    ∙ ap (λ (l : List ℕ). site.first_gap (site.sites_of c.args.name (own_of l).sites) c.args.width) c.in_ok-own.ensures.cases.same
