use native.Mathlib.Omega.{arith}
use Rattle.lines.proofs.PartLaws.{found_zero, found_one, found_two, found_three, found_four, found_more, follows_in}
use mathlib.Core.Path.{sym, ◌∙◌}
use Rattle.lines.proofs.parts.behind.Goals as goal

pub returns-then-not-more : goal.returns-then-not-more
returns-then-not-more c = found_zero c.args.s.now c.args.end (sym c.more.ensures ∙ c.if-not-more.true)

pub overflow_add-end : goal.overflow_add-end
overflow_add-end c = omega (arith, follows_in c.args.s.now c.args.end (sym c.more.ensures ∙ c.if-not-more.false))

pub returns-then-not-more-2 : goal.returns-then-not-more-2
returns-then-not-more-2 c = found_one c.args.s.now c.args.end (sym c.more.ensures ∙ c.if-not-more.false) c.part_end-a.ensures (sym c.more-2.ensures ∙ c.if-not-more-2.true)

pub overflow_add-a : goal.overflow_add-a
overflow_add-a c = omega (arith, follows_in c.args.s.now c.part_end-a.result (sym c.more-2.ensures ∙ c.if-not-more-2.false))

pub returns-then-not-more-3 : goal.returns-then-not-more-3
returns-then-not-more-3 c = found_two c.args.s.now c.args.end (sym c.more.ensures ∙ c.if-not-more.false) c.part_end-a.ensures (sym c.more-2.ensures ∙ c.if-not-more-2.false) c.part_end-b.ensures (sym c.more-3.ensures ∙ c.if-not-more-3.true)

pub overflow_add-b : goal.overflow_add-b
overflow_add-b c = omega (arith, follows_in c.args.s.now c.part_end-b.result (sym c.more-3.ensures ∙ c.if-not-more-3.false))

pub returns-then-not-more-4 : goal.returns-then-not-more-4
returns-then-not-more-4 c = found_three c.args.s.now c.args.end (sym c.more.ensures ∙ c.if-not-more.false) c.part_end-a.ensures (sym c.more-2.ensures ∙ c.if-not-more-2.false) c.part_end-b.ensures (sym c.more-3.ensures ∙ c.if-not-more-3.false) c.part_end-c.ensures (sym c.more-4.ensures ∙ c.if-not-more-4.true)

pub overflow_add-c : goal.overflow_add-c
overflow_add-c c = omega (arith, follows_in c.args.s.now c.part_end-c.result (sym c.more-4.ensures ∙ c.if-not-more-4.false))

pub returns-then-not-more-5 : goal.returns-then-not-more-5
returns-then-not-more-5 c = found_four c.args.s.now c.args.end (sym c.more.ensures ∙ c.if-not-more.false) c.part_end-a.ensures (sym c.more-2.ensures ∙ c.if-not-more-2.false) c.part_end-b.ensures (sym c.more-3.ensures ∙ c.if-not-more-3.false) c.part_end-c.ensures (sym c.more-4.ensures ∙ c.if-not-more-4.false) c.part_end-d.ensures (sym c.more-5.ensures ∙ c.if-not-more-5.true)

pub returns : goal.returns
returns c = found_more c.args.s.now c.args.end (sym c.more.ensures ∙ c.if-not-more.false) c.part_end-a.ensures (sym c.more-2.ensures ∙ c.if-not-more-2.false) c.part_end-b.ensures (sym c.more-3.ensures ∙ c.if-not-more-3.false) c.part_end-c.ensures (sym c.more-4.ensures ∙ c.if-not-more-4.false) c.part_end-d.ensures (sym c.more-5.ensures ∙ c.if-not-more-5.false)
