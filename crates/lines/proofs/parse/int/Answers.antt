use Rattle.std.specs.Prelude.{Option}
use Rattle.lines.proofs.Laws.{inside, int_plain, int_zero, int_minus}
use Rattle.lines.specs.Parse.{numbered}
use Rattle.lines.specs.declared.parse.Number.{Number}
use mathlib.Core.Path.{sym, ap, ◌∙◌}
use native.Mathlib.Omega.{arith}
use Rattle.lines.proofs.Laws.{byte_is, byte_not}
use Rattle.lines.proofs.parse.int.Goals as goal

pub returns-then-not-is_minus : goal.returns-then-not-is_minus
returns-then-not-is_minus c = c.numbered.ensures ∙ ap (λ (n : Option Number). numbered n 2147483648) c.number_at.ensures ∙ int_plain c.args.s.now c.args.at (byte_not _ _ _ 45 c.is_minus.ensures c.byte.ensures c.if-not-is_minus.true)

pub overflow_add-at : goal.overflow_add-at
overflow_add-at c = let h = inside c.args.s.now c.args.at (λ e. omega (arith, byte_is _ _ _ 45 c.is_minus.ensures c.byte.ensures c.if-not-is_minus.false)) in omega arith

pub returns-then-byte-eq48 : goal.returns-then-byte-eq48
returns-then-byte-eq48 c = int_zero c.args.s.now c.args.at (byte_is _ _ _ 45 c.is_minus.ensures c.byte.ensures c.if-not-is_minus.false) (sym c.byte-2.ensures ∙ c.if-byte-eq48.true)

pub overflow_add-at-2 : goal.overflow_add-at-2
overflow_add-at-2 c = let h = inside c.args.s.now c.args.at (λ e. omega (arith, byte_is _ _ _ 45 c.is_minus.ensures c.byte.ensures c.if-not-is_minus.false)) in omega arith

pub returns : goal.returns
returns c = c.numbered-2.ensures ∙ ap (λ (n : Option Number). numbered n 2147483649) c.number_at-2.ensures ∙ int_minus c.args.s.now c.args.at (byte_is _ _ _ 45 c.is_minus.ensures c.byte.ensures c.if-not-is_minus.false) (λ e. c.if-byte-eq48.false (c.byte-2.ensures ∙ e))
