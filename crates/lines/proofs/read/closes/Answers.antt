use Rattle.lines.proofs.ReadLaws.{closes_end, closes_feed, closes_deep, closes_open, closes_last, closes_shut, closes_plain}
use Rattle.lines.proofs.Laws.{class_is, not_open, not_close, not_feed}
use Rattle.lines.specs.declared.bytes.Class.TheVariants.{Open, Close, Feed}
use lib.Dec.{eqb}
use Prim.Native.Nat.{ℕ}
use mathlib.Core.Path.{refl, sym, ap, ◌∙◌}
use mathlib.Core.List.{[], ◌∷◌}
use native.Mathlib.Omega.{arith}
use Rattle.lines.proofs.read.closes.Goals as goal
use Rattle.lines.proofs.read.closes.Goals.{in-Open+else-k-ge-DEPTH, in-Close+else-k-eq1, in_default}

pub loop-i-init : goal.loop-i-init
loop-i-init c = (omega arith, omega arith, refl)

pub bounds-s-i : goal.bounds-s-i
bounds-s-i c = omega arith

pub returns-in-Feed : goal.returns-in-Feed
returns-in-Feed c = closes_feed c.args.s.now c.loop-i.i c.loop-i.k c.loop-i-test.true (class_is _ _ Feed c.class_of.ensures c.in-Feed.is) ∙ sym c.loop-i.invariant.2

pub returns-then-k-ge-DEPTH : goal.returns-then-k-ge-DEPTH
returns-then-k-ge-DEPTH c = closes_deep c.args.s.now c.loop-i.i c.loop-i.k c.loop-i-test.true (class_is _ _ Open c.class_of.ensures c.in-Open.is) c.if-k-ge-DEPTH.true ∙ sym c.loop-i.invariant.2

pub overflow_add-k : goal.overflow_add-k
overflow_add-k c = omega arith

pub overflow_add-i : goal.overflow_add-i
overflow_add-i c = omega arith

pub returns-then-k-eq1 : goal.returns-then-k-eq1
returns-then-k-eq1 c = c.is_feed.ensures ∙ ap (λ (x : ℕ). eqb x 10) c.byte.ensures ∙ closes_last c.args.s.now c.loop-i.i c.loop-i.k c.loop-i-test.true (class_is _ _ Close c.class_of.ensures c.in-Close.is) c.if-k-eq1.true ∙ sym c.loop-i.invariant.2

pub overflow_sub-k : goal.overflow_sub-k
overflow_sub-k c = omega arith

pub loop-i-preserved : goal.loop-i-preserved
loop-i-preserved c = elim c.match-class_of.branch [
  | in-Open+else-k-ge-DEPTH w ↦ rw w.k-is (omega arith, omega arith, c.loop-i.invariant.2 ∙ closes_open c.args.s.now c.loop-i.i c.loop-i.k c.loop-i-test.true (class_is _ _ Open c.class_of.ensures w.in-Open.is) w.if-k-ge-DEPTH.false)
  | in-Close+else-k-eq1 w ↦ rw w.k-is (omega arith, omega arith, c.loop-i.invariant.2 ∙ closes_shut c.args.s.now c.loop-i.i c.loop-i.k c.loop-i-test.true (class_is _ _ Close c.class_of.ensures w.in-Close.is) w.if-k-eq1.false)
  | in_default w ↦ rw w.k-is (c.loop-i.invariant.0, c.loop-i.invariant.1, c.loop-i.invariant.2 ∙ closes_plain c.args.s.now c.loop-i.i c.loop-i.k c.loop-i-test.true (not_feed (0 ∷ 3 ∷ 4 ∷ 5 ∷ 7 ∷ 8 ∷ []) _ _ c.class_of.ensures w.in_default.in_default-own.keys4 tt) (not_open (0 ∷ 3 ∷ 4 ∷ 5 ∷ 7 ∷ 8 ∷ []) _ _ c.class_of.ensures w.in_default.in_default-own.keys4 tt) (not_close (0 ∷ 3 ∷ 4 ∷ 5 ∷ 7 ∷ 8 ∷ []) _ _ c.class_of.ensures w.in_default.in_default-own.keys4 tt))
]

pub returns : goal.returns
returns c = closes_end c.args.s.now c.loop-i.i c.loop-i.k c.loop-i-test.false ∙ sym c.loop-i.invariant.2
