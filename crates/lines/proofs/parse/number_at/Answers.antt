use Rattle.std.specs.Prelude.{Some}
use Rattle.lines.proofs.Laws.{inside, number_zero, number_none, number_some}
use Rattle.lines.specs.Bytes.{class_of, is_digit}
use Prim.Native.Nat.{ℕ}
use mathlib.Core.Path.{sym, ap, ◌∙◌}
use native.Mathlib.Omega.{arith}
use Rattle.lines.proofs.parse.number_at.Goals as goal

pub overflow_add-result : goal.overflow_add-result
overflow_add-result c = let h = inside c.args.s.now c.args.at (λ e. omega (arith, c.byte-c.ensures, c.if-c-eq48.true)) in omega arith

pub returns-then-c-eq48 : goal.returns-then-c-eq48
returns-then-c-eq48 c = number_zero c.args.s.now c.args.at (sym c.byte-c.ensures ∙ c.if-c-eq48.true)

pub returns-then-not-is_digit : goal.returns-then-not-is_digit
returns-then-not-is_digit c = number_none c.args.s.now c.args.at (λ e. c.if-c-eq48.false (c.byte-c.ensures ∙ e)) (ap (λ (x : ℕ). is_digit (class_of x)) (sym c.byte-c.ensures) ∙ sym c.is_digit.ensures ∙ c.if-not-is_digit.true)

pub returns : goal.returns
returns c = ap Some c.digits.ensures ∙ number_some c.args.s.now c.args.at (λ e. c.if-c-eq48.false (c.byte-c.ensures ∙ e)) (ap (λ (x : ℕ). is_digit (class_of x)) (sym c.byte-c.ensures) ∙ sym c.is_digit.ensures ∙ c.if-not-is_digit.false)
