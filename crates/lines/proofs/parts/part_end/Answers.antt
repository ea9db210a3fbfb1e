use Rattle.lines.proofs.PartLaws.{scan_end, scan_open, scan_close_out, scan_close_in, scan_space_out, scan_space_in, scan_plain}
use Rattle.lines.proofs.Laws.{class_is, not_open, not_close, not_space}
use Rattle.lines.specs.declared.bytes.Class.TheVariants.{Open, Close, Space}
use native.Mathlib.Omega.{arith}
use mathlib.Core.List.{[], ◌∷◌}
use mathlib.Core.Path.{◌≡◌, ap}
use lib.ListN.{drop}
use Prim.Native.Nat.{ℕ, ◌+◌}
use Rattle.lines.specs.Parts.{scan}
use Rattle.lines.proofs.parts.part_end.Goals as goal
use Rattle.lines.proofs.parts.part_end.Goals.{in-Open, in-Close+else-k-eq0, in-Space+else-k-eq0-2, in_default}

pub loop-i-init : goal.loop-i-init
loop-i-init c = omega arith

pub overflow_add-k : goal.overflow_add-k
overflow_add-k c = omega arith

pub returns-then-k-eq0 : goal.returns-then-k-eq0
returns-then-k-eq0 c = omega (arith, scan_close_out c.args.s.now c.loop-i.i c.loop-i-test.true c.loop-i.k (class_is _ _ Close c.class_of.ensures c.in-Close.is) c.if-k-eq0.true)

pub overflow_sub-k : goal.overflow_sub-k
overflow_sub-k c = omega arith

pub returns-then-k-eq0-2 : goal.returns-then-k-eq0-2
returns-then-k-eq0-2 c = omega (arith, scan_space_out c.args.s.now c.loop-i.i c.loop-i-test.true c.loop-i.k (class_is _ _ Space c.class_of.ensures c.in-Space.is) c.if-k-eq0-2.true)

pub loop-i-preserved : goal.loop-i-preserved
loop-i-preserved c =
    let next : (k : ℕ) → c.match-class_of.k ≡ k → scan c.match-class_of.k (drop (c.loop-i.i + 1) c.args.s.now) ≡ scan k (drop (c.loop-i.i + 1) c.args.s.now) = λ k e. ap (λ k. scan k (drop (c.loop-i.i + 1) c.args.s.now)) e in
    elim c.match-class_of.branch [
      | in-Open w ↦ omega (arith, next _ w.k-is, scan_open c.args.s.now c.loop-i.i c.loop-i-test.true c.loop-i.k (class_is _ _ Open c.class_of.ensures w.in-Open.is))
      | in-Close+else-k-eq0 w ↦ omega (arith, next _ w.k-is, scan_close_in c.args.s.now c.loop-i.i c.loop-i-test.true c.loop-i.k (class_is _ _ Close c.class_of.ensures w.in-Close.is) w.if-k-eq0.false)
      | in-Space+else-k-eq0-2 w ↦ omega (arith, next _ w.k-is, scan_space_in c.args.s.now c.loop-i.i c.loop-i-test.true c.loop-i.k (class_is _ _ Space c.class_of.ensures w.in-Space.is) w.if-k-eq0-2.false)
      | in_default w ↦ omega (arith, next _ w.k-is, scan_plain c.args.s.now c.loop-i.i c.loop-i-test.true c.loop-i.k (not_open (3 ∷ 4 ∷ 5 ∷ 6 ∷ 7 ∷ 8 ∷ []) _ _ c.class_of.ensures w.in_default.in_default-own.keys4 tt) (not_close (3 ∷ 4 ∷ 5 ∷ 6 ∷ 7 ∷ 8 ∷ []) _ _ c.class_of.ensures w.in_default.in_default-own.keys4 tt) (not_space (3 ∷ 4 ∷ 5 ∷ 6 ∷ 7 ∷ 8 ∷ []) _ _ c.class_of.ensures w.in_default.in_default-own.keys4 tt))
    ]

pub returns-then-at-s : goal.returns-then-at-s
returns-then-at-s c = omega (arith, scan_end c.args.s.now c.loop-i.i c.loop-i.k (omega arith))

pub returns-else-at-s : goal.returns-else-at-s
returns-else-at-s c = omega (arith, scan_end c.args.s.now c.loop-i.i c.loop-i.k (omega arith))
