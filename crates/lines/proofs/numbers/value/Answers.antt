use native.Mathlib.Omega.{arith}
use Rattle.lines.proofs.NumberLaws.{value_start, value_step, value_end, value_grows}
use lib.ListN.{drop}
use mathlib.Core.Path.{◌∙◌}
use Prim.Native.Nat.{◌+◌, ◌*◌}
use Rattle.lines.proofs.numbers.value.Goals as goal

pub loop-c-init : goal.loop-c-init
loop-c-init c = (omega arith, value_start c.args.s.now)

pub overflow_add-a : goal.overflow_add-a
overflow_add-a c = omega (arith, c.digit.ensures, c.shared_slice_known-1.given c.loop-c.c-index)

pub returns-then-a-ge4294967296 : goal.returns-then-a-ge4294967296
returns-then-a-ge4294967296 c = omega (arith, c.digit.ensures, c.loop-c.invariant.1, value_step c.args.s.now c.loop-c.c-index c.loop-c.a c.loop-c-test.true c.digit.ensures, value_grows (drop (c.loop-c.c-index + 1) c.args.s.now) (c.loop-c.a * 10 + c.digit.result))

pub loop-c-preserved : goal.loop-c-preserved
loop-c-preserved c = (omega arith, c.loop-c.invariant.1 ∙ value_step c.args.s.now c.loop-c.c-index c.loop-c.a c.loop-c-test.true c.digit.ensures)

pub returns : goal.returns
returns c = omega (arith, c.loop-c.invariant.1, value_end c.args.s.now c.loop-c.c-index c.loop-c.a c.loop-c-test.false)
