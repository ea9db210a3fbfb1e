use mathlib.Core.Path.{sym, ◌∙◌}
use mathlib.Core.List.{[], ◌∷◌}
use Prim.Native.Nat.{◌+◌}
use native.Mathlib.Omega.{arith}
use Rattle.lines.proofs.Laws.{inside, class_is, not_close, byte_is, byte_not}
use Rattle.lines.specs.declared.bytes.Class.TheVariants.{Close}
use Rattle.cases.proofs.Laws.{closed_not, closed_no_feed, closed_here}
use Rattle.cases.proofs.record.closed.Goals as goal

pub overflow_add-at : goal.overflow_add-at
overflow_add-at c = let h = inside c.args.s.now c.args.at (λ e. omega (arith, sym c.byte.ensures ∙ class_is _ _ Close c.class_of.ensures c.in-Close.is)) in omega arith

pub returns-then-not-is_feed : goal.returns-then-not-is_feed
returns-then-not-is_feed c = closed_no_feed c.args.s.now c.args.name c.args.at c.args.text c.args.answer (sym c.byte.ensures ∙ class_is _ _ Close c.class_of.ensures c.in-Close.is) (byte_not _ _ _ 10 c.is_feed.ensures c.byte-in-Close.ensures c.if-not-is_feed.true)

pub overflow_add-at-in-Close : goal.overflow_add-at-in-Close
overflow_add-at-in-Close c = let h = inside c.args.s.now (c.args.at + 1) (λ e. omega (arith, byte_is _ _ _ 10 c.is_feed.ensures c.byte-in-Close.ensures c.if-not-is_feed.false)) in omega arith

pub returns-else-not-is_feed : goal.returns-else-not-is_feed
returns-else-not-is_feed c = c.sized.ensures ∙ closed_here c.args.s.now c.args.name c.args.at c.args.text c.args.answer (sym c.byte.ensures ∙ class_is _ _ Close c.class_of.ensures c.in-Close.is) (byte_is _ _ _ 10 c.is_feed.ensures c.byte-in-Close.ensures c.if-not-is_feed.false)

pub returns-in_default : goal.returns-in_default
returns-in_default c = closed_not c.args.s.now c.args.name c.args.at c.args.text c.args.answer (λ e. not_close (0 ∷ 1 ∷ 3 ∷ 4 ∷ 5 ∷ 6 ∷ 7 ∷ 8 ∷ []) _ _ c.class_of.ensures c.in_default.in_default-own.keys2 tt (c.byte.ensures ∙ e))
