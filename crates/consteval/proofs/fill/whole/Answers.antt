use Rattle.consteval.proofs.FillLaws.{whole_minus, whole_plain}
use Rattle.lines.proofs.Laws.{byte_is, byte_not}
use Rattle.spec.specs.Bytes.{Bytes, number}
use Rattle.spec.specs.Value.{within}
use lib.IntN.{pos, neg_ℤ}
use Prim.Native.Nat.{ℕ, min}
use mathlib.Core.Path.{ap, ◌∙◌}
use Rattle.consteval.proofs.fill.whole.Goals as goal

pub returns-then-is_minus : goal.returns-then-is_minus
returns-then-is_minus c = c.negative.ensures ∙ ap (λ (n : ℕ). within (neg_ℤ (pos n))) (c.value.ensures ∙ ap (λ (t : Bytes). min (number t) 4294967296) c.rest.ensures) ∙ whole_minus c.args.s.now (byte_is _ _ _ 45 c.is_minus.ensures c.byte.ensures c.if-is_minus.true)

pub returns : goal.returns
returns c = c.positive.ensures ∙ ap (λ (n : ℕ). within (pos n)) c.value-2.ensures ∙ whole_plain c.args.s.now (byte_not _ _ _ 45 c.is_minus.ensures c.byte.ensures c.if-is_minus.false)
