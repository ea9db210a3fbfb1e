use mathlib.Core.Path.{ap, ◌∙◌}
use mathlib.Core.List.{List}
use Prim.Native.Nat.{ℕ}
use native.Mathlib.Omega.{arith}
use Rattle.spec.specs.Block.{block_count}
use Rattle.sites.specs.Own.{blocks_by, own_of}
use Rattle.sites.proofs.Coverage.{several}
use Rattle.sites.proofs.blocks_of.Goals as goal

pub returns-in_default-block_count-clause-value : goal.returns-in_default-block_count-clause-value
returns-in_default-block_count-clause-value c = λ _.
    several c.block_count.result (λ e. absurd (omega (arith, e))) (λ e. absurd (omega (arith, e)))
    ∙ ap blocks_by c.block_count.ensures
    ∙ ap (λ (l : List ℕ). blocks_by (block_count c.args.name (own_of l).pairs)) c.in-Some.ensures.cases.same
