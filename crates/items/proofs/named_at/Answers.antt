use Rattle.items.proofs.Places.{named_none, named_alone, named_two}
use Rattle.lines.proofs.PartLaws.{follows_in}
use mathlib.Core.Path.{sym, ◌∙◌}
use native.Mathlib.Omega.{arith}
use Rattle.items.proofs.named_at.Goals as goal

pub returns-then-not-more : goal.returns-then-not-more
returns-then-not-more c = named_none c.args.x.now c.args.before (sym c.more.ensures ∙ c.if-not-more.true)

pub overflow_add-before : goal.overflow_add-before
overflow_add-before c = omega (arith, follows_in c.args.x.now c.args.before (sym c.more.ensures ∙ c.if-not-more.false))

pub returns-then-not-more-2 : goal.returns-then-not-more-2
returns-then-not-more-2 c = named_alone c.args.x.now c.args.before c.part_end-a.ensures (sym c.more-2.ensures ∙ c.if-not-more-2.true)

pub overflow_add-a : goal.overflow_add-a
overflow_add-a c = omega (arith, follows_in c.args.x.now c.part_end-a.result (sym c.more-2.ensures ∙ c.if-not-more-2.false))

pub returns : goal.returns
returns c = named_two c.args.x.now c.args.before c.part_end-a.ensures (sym c.more.ensures ∙ c.if-not-more.false) (sym c.more-2.ensures ∙ c.if-not-more-2.false) c.part_end-b.ensures c.number-name.ensures c.number-start.ensures
