use native.Mathlib.Omega.{arith}
use Rattle.consteval.proofs.FillLaws.{feed_end, feed_here, feed_more}
use Rattle.lines.proofs.Laws.{byte_is, byte_not}
use mathlib.Core.Path.{refl}
use Rattle.consteval.proofs.fill.end_of.Goals as goal

pub loop-i-init : goal.loop-i-init
loop-i-init c = omega arith

pub returns-then-is_feed : goal.returns-then-is_feed
returns-then-is_feed c = omega (arith, feed_here c.args.s.now c.loop-i.i c.loop-i-test.true (byte_is _ _ _ 10 c.is_feed.ensures refl c.if-is_feed.true))

pub loop-i-preserved : goal.loop-i-preserved
loop-i-preserved c = omega (arith, feed_more c.args.s.now c.loop-i.i c.loop-i-test.true (byte_not _ _ _ 10 c.is_feed.ensures refl c.if-is_feed.false))

pub returns-then-at-s : goal.returns-then-at-s
returns-then-at-s c = omega (arith, feed_end c.args.s.now c.loop-i.i (omega arith))

pub returns-else-at-s : goal.returns-else-at-s
returns-else-at-s c = omega (arith, feed_end c.args.s.now c.loop-i.i (omega arith))
