use Rattle.lines.proofs.ReadLaws.{after_none, after_some}
use Rattle.lines.proofs.Laws.{inside}
use mathlib.Core.Path.{◌∙◌}
use native.Mathlib.Omega.{arith}
use Rattle.lines.proofs.Laws.{byte_is, byte_not}
use Rattle.lines.proofs.read.number_after.Goals as goal

pub returns-then-not-is_space : goal.returns-then-not-is_space
returns-then-not-is_space c = after_none c.args.s.now c.args.at (byte_not _ _ _ 32 c.is_space.ensures c.byte.ensures c.if-not-is_space.true)

pub overflow_add-at : goal.overflow_add-at
overflow_add-at c = let h = inside c.args.s.now c.args.at (λ e. omega (arith, byte_is _ _ _ 32 c.is_space.ensures c.byte.ensures c.if-not-is_space.false)) in omega arith

pub returns : goal.returns
returns c = c.number_at.ensures ∙ after_some c.args.s.now c.args.at (byte_is _ _ _ 32 c.is_space.ensures c.byte.ensures c.if-not-is_space.false)
