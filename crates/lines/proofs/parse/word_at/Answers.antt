use Rattle.lines.proofs.Laws.{inside, word_range, cap_step, cap_below, word_stop, word_more, word_long, cap_none}
use Rattle.lines.specs.Parse.{word_at}
use native.Mathlib.Omega.{arith}
use mathlib.Core.Path.{refl, sym, ◌∙◌}
use Rattle.lines.proofs.parse.word_at.Goals as goal

pub loop-k-init : goal.loop-k-init
unfolding word_at
loop-k-init c = (omega arith, cap_none, refl)

pub overflow_mul-result : goal.overflow_mul-result
overflow_mul-result c = omega (arith, cap_below c.loop-k.k c.loop-k-test.true)

pub overflow_add-result : goal.overflow_add-result
overflow_add-result c = omega (arith, cap_below c.loop-k.k c.loop-k-test.true)

pub returns-then-not-is_word : goal.returns-then-not-is_word
returns-then-not-is_word c = word_stop c.args.s.now c.loop-k.i c.loop-k.code c.loop-k.k c.loop-k-test.true (rw c.byte-c.ensures at (sym c.is_word.ensures ∙ c.if-not-is_word.true)) ∙ sym c.loop-k.invariant.2

pub overflow_mul-code : goal.overflow_mul-code
overflow_mul-code c = omega (arith, cap_below c.loop-k.k c.loop-k-test.true)

pub overflow_add-code : goal.overflow_add-code
overflow_add-code c = let h = word_range _ (sym c.is_word.ensures ∙ c.if-not-is_word.false) in omega (arith, cap_below c.loop-k.k c.loop-k-test.true)

pub overflow_add-i : goal.overflow_add-i
overflow_add-i c = let h = word_range _ (sym c.is_word.ensures ∙ c.if-not-is_word.false) in let l = inside c.args.s.now c.loop-k.i (λ z. omega (arith, c.byte-c.ensures)) in omega arith

pub loop-k-preserved : goal.loop-k-preserved
loop-k-preserved c = let h = word_range _ (sym c.is_word.ensures ∙ c.if-not-is_word.false) in (omega arith, cap_step c.loop-k.code _ c.loop-k.k c.loop-k.invariant.1 (omega arith), c.loop-k.invariant.2 ∙ word_more c.args.s.now c.loop-k.i c.loop-k.code c.loop-k.k c.loop-k-test.true (rw c.byte-c.ensures at (sym c.is_word.ensures ∙ c.if-not-is_word.false)) ∙ rw c.byte-c.ensures)

pub returns : goal.returns
returns c = word_long c.args.s.now c.loop-k.i c.loop-k.code c.loop-k.k c.loop-k-test.false ∙ sym c.loop-k.invariant.2
