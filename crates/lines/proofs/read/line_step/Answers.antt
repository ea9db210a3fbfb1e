use Rattle.lines.proofs.ReadLaws.{line_no_form, line_bad, line_junk, line_large, line_head}
use Rattle.lines.proofs.Laws.{inside, byte_is, byte_not}
use Rattle.std.specs.Prelude.{Err}
use mathlib.Core.Path.{sym, ap, ◌∙◌}
use borrow.Author.Tests.{not-true, not-false}
use native.Mathlib.Omega.{arith}
use Rattle.lines.proofs.read.line_step.Goals as goal

pub returns-then-not-is_open : goal.returns-then-not-is_open
returns-then-not-is_open c = line_no_form c.args.s.now c.args.at c.args.modules c.args.items c.args.seen.now (byte_not _ _ _ 40 c.is_open.ensures c.byte.ensures c.if-not-is_open.true)

pub overflow_add-at : goal.overflow_add-at
overflow_add-at c = let h = inside c.args.s.now c.args.at (λ e. omega (arith, byte_is _ _ _ 40 c.is_open.ensures c.byte.ensures c.if-not-is_open.false)) in omega arith

pub overflow_add-at-then-not-is_feed : goal.overflow_add-at-then-not-is_feed
overflow_add-at-then-not-is_feed c = let h = inside c.args.s.now c.args.at (λ e. omega (arith, byte_is _ _ _ 40 c.is_open.ensures c.byte.ensures c.if-not-is_open.false)) in omega arith

pub returns-then-not-is_feed : goal.returns-then-not-is_feed
returns-then-not-is_feed c = ap Err c.not_written-then-not-is_feed.ensures ∙ line_junk c.args.s.now c.args.at c.args.modules c.args.items c.args.seen.now (byte_is _ _ _ 40 c.is_open.ensures c.byte.ensures c.if-not-is_open.false) c.in-Some.p.next _ (sym c.part.ensures ∙ c.in-Some.is) (byte_not _ _ _ 10 c.is_feed.ensures c.byte-2.ensures c.if-not-is_feed.true)

pub returns-then-not-p : goal.returns-then-not-p
returns-then-not-p c = line_large c.args.s.now c.args.at c.args.modules c.args.items c.args.seen.now (byte_is _ _ _ 40 c.is_open.ensures c.byte.ensures c.if-not-is_open.false) c.in-Some.p.next _ (sym c.part.ensures ∙ c.in-Some.is) (byte_is _ _ _ 10 c.is_feed.ensures c.byte-2.ensures c.if-not-is_feed.false) (not-true c.in-Some.p.range c.if-not-p.true)

pub overflow_add-at-2 : goal.overflow_add-at-2
overflow_add-at-2 c = let h = inside c.args.s.now c.args.at (λ e. omega (arith, byte_is _ _ _ 40 c.is_open.ensures c.byte.ensures c.if-not-is_open.false)) in omega arith

pub returns-in_default : goal.returns-in_default
returns-in_default c = ap Err c.not_written.ensures ∙ line_bad c.args.s.now c.args.at c.args.modules c.args.items c.args.seen.now (byte_is _ _ _ 40 c.is_open.ensures c.byte.ensures c.if-not-is_open.false) (sym c.part.ensures ∙ c.in_default.is)

pub returns : goal.returns
returns c = c.head_step.ensures ∙ line_head c.args.s.now c.args.at c.args.modules c.args.items c.args.seen.now (byte_is _ _ _ 40 c.is_open.ensures c.byte.ensures c.if-not-is_open.false) c.in-Some.p.next _ (sym c.part.ensures ∙ c.in-Some.is) (byte_is _ _ _ 10 c.is_feed.ensures c.byte-2.ensures c.if-not-is_feed.false) (not-false c.in-Some.p.range c.if-not-p.false)
