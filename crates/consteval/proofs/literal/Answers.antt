use Rattle.consteval.proofs.EvalLaws.{capped_value}
use Rattle.spec.specs.Bytes.{number}
use Rattle.spec.specs.Value.{within}
use lib.IntN.{pos}
use Prim.Native.Nat.{ℕ}
use mathlib.Core.Path.{ap, ◌∙◌}
use Rattle.consteval.proofs.literal.Goals as goal

pub returns : goal.returns
returns c = c.positive.ensures ∙ ap (λ (n : ℕ). within (pos n)) c.value.ensures ∙ capped_value (number c.args.e.now)
