use native.Mathlib.Omega.{arith}
use Rattle.lines.proofs.WordLaws.{key_fits, key_long, key_short, key_none, key_step, limit_step, limit_one}
use lib.ListN.{length}
use mathlib.Core.Path.{refl}
use Prim.Native.Nat.{◌-◌}
use Rattle.lines.proofs.words.key.Goals as goal

pub returns-then-w-gt7 : goal.returns-then-w-gt7
returns-then-w-gt7 c = key_long c.args.w.now c.if-w-gt7.true

pub loop-i-init : goal.loop-i-init
loop-i-init c = (omega arith, key_none c.args.w.now (length c.args.w.now) refl, omega (arith, limit_one (length c.args.w.now)))

pub overflow_mul-k : goal.overflow_mul-k
overflow_mul-k c = omega (arith, key_fits (length c.args.w.now - c.loop-i.i) (omega arith))

pub bounds-w-i : goal.bounds-w-i
bounds-w-i c = omega arith

pub overflow_add-k : goal.overflow_add-k
overflow_add-k c = omega (arith, key_fits (length c.args.w.now - c.loop-i.i) (omega arith), c.shared_slice_known-1.given (c.loop-i.i - 1))

pub loop-i-preserved : goal.loop-i-preserved
loop-i-preserved c = (omega arith, key_step c.args.w.now c.loop-i.i (c.loop-i.i - 1) (omega arith) (omega arith) c.loop-i.invariant.1, omega (arith, limit_step (length c.args.w.now) c.loop-i.i (c.loop-i.i - 1) (omega arith) (omega arith), c.shared_slice_known-1.given (c.loop-i.i - 1)))

pub returns : goal.returns
returns c = key_short c.args.w.now c.if-w-gt7.false c.loop-i.i c.loop-i-test.false c.loop-i.invariant.1
