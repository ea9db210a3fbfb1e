use Rattle.lines.proofs.Laws.{digit_range, digits_end, digits_stop, digits_more}
use Rattle.lines.specs.Parse.{valued, digits_from}
use lib.ListN.{drop}
use native.Mathlib.Omega.{arith}
use mathlib.Core.Path.{◌≡◌, refl, sym, ap, ◌∙◌}
use Prim.Native.Nat.{◌+◌}
use Rattle.lines.proofs.parse.digits.Goals as goal

pub loop-i-init : goal.loop-i-init
loop-i-init c = (λ h. refl, refl)

pub bounds-s-i : goal.bounds-s-i
bounds-s-i c = omega arith

pub returns-then-not-is_digit : goal.returns-then-not-is_digit
returns-then-not-is_digit c = digits_stop c.args.s.now c.loop-i.i c.loop-i.a c.loop-i-test.true (sym c.is_digit.ensures ∙ c.if-not-is_digit.true) ∙ sym c.loop-i.invariant.1

pub overflow_sub-c : goal.overflow_sub-c
overflow_sub-c c = let h = digit_range _ (sym c.is_digit.ensures ∙ c.if-not-is_digit.false) in omega arith

pub loop-i-preserved : goal.loop-i-preserved
loop-i-preserved c = (λ h. absurd (omega arith), c.loop-i.invariant.1 ∙ digits_more c.args.s.now c.loop-i.i c.loop-i.a c.loop-i-test.true (sym c.is_digit.ensures ∙ c.if-not-is_digit.false) ∙ ap (digits_from (drop (c.loop-i.i + 1) c.args.s.now) (c.loop-i.i + 1)) (sym c.more-a.ensures))

pub returns : goal.returns
returns c =
    let z : c.max.result ≡ c.loop-i.i = grind (arith, c.max.ensures, c.loop-i.invariant.0, c.loop-i.auto.i-end) in
    ap (valued c.loop-i.a) z ∙ digits_end c.args.s.now c.loop-i.i c.loop-i.a c.loop-i-test.false ∙ sym c.loop-i.invariant.1
