use native.Mathlib.Omega.{arith}
use Rattle.report.proofs.Laws.{digits_start, digits_step}
use Rattle.report.proofs.write_number.Goals as goal

pub loop-i-init : goal.loop-i-init
loop-i-init c = digits_start c.args.buf.now c.args.at c.args.n (omega (arith, c.count_number.ensures))

pub loop-i-preserved : goal.loop-i-preserved
loop-i-preserved c = digits_step c.args.buf.now c.loop-i.buf c.args.at c.args.n c.loop-i.i c.loop-i.m c.loop-i-test.true c.loop-i.invariant

pub returns : goal.returns
returns c = record { to = omega (arith, c.count_number.ensures); left = c.loop-i.invariant.done (omega (arith, c.loop-i.invariant.from, c.loop-i-test.false)) }
