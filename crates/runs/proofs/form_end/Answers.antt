use native.Mathlib.Omega.{arith}
use Rattle.runs.proofs.Ends.{length_open, length_plain, length_last, length_close, length_done}
use Rattle.lines.proofs.Laws.{class_is, not_open, not_close}
use Rattle.lines.specs.declared.bytes.Class.TheVariants.{Open, Close}
use mathlib.Core.List.{[], ◌∷◌}
use Rattle.runs.proofs.form_end.Goals as goal
use Rattle.runs.proofs.form_end.Goals.{in-Open, in-Close+else-k-le1}

pub returns-then-k-le1 : goal.returns-then-k-le1
returns-then-k-le1 c = omega (arith, length_last c.args.s.now c.loop-i.i c.loop-i-test.true c.loop-i.k (class_is _ _ Close c.class_of.ensures c.in-Close.is) c.if-k-le1.true)

pub loop-i-preserved-in_default : goal.loop-i-preserved-in_default
loop-i-preserved-in_default c = (omega arith, omega (arith, length_plain c.args.s.now c.loop-i.i c.loop-i.k c.loop-i-test.true (not_open (0 ∷ 3 ∷ 4 ∷ 5 ∷ 6 ∷ 7 ∷ 8 ∷ []) _ _ c.class_of.ensures c.in_default.in_default-own.keys3 tt) (not_close (0 ∷ 3 ∷ 4 ∷ 5 ∷ 6 ∷ 7 ∷ 8 ∷ []) _ _ c.class_of.ensures c.in_default.in_default-own.keys3 tt)))

pub loop-i-preserved : goal.loop-i-preserved
loop-i-preserved c = elim c.match-class_of.branch [
  | in-Open w ↦ rw w.k-is (omega arith, omega (arith, length_open c.args.s.now c.loop-i.i c.loop-i.k c.loop-i-test.true (class_is _ _ Open c.class_of.ensures w.in-Open.is)))
  | in-Close+else-k-le1 w ↦ rw w.k-is (omega arith, omega (arith, length_close c.args.s.now c.loop-i.i c.loop-i-test.true c.loop-i.k (class_is _ _ Close c.class_of.ensures w.in-Close.is) w.if-k-le1.false))
]

pub returns : goal.returns
returns c = length_done c.args.s.now c.args.from c.loop-i.i c.loop-i.k c.max.result c.loop-i-test.false c.loop-i.auto.i c.loop-i.auto.i-end c.max.ensures c.loop-i.invariant.1
