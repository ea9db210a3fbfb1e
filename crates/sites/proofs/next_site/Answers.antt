use native.Mathlib.Omega.{arith}
use mathlib.Core.Path.{refl}
use Rattle.sites.proofs.Sites.{row_called, row_other}
use Rattle.sites.proofs.Fill.{next_here, next_none, skipped}
use Rattle.sites.proofs.next_site.Goals as goal

pub loop-i-init : goal.loop-i-init
loop-i-init c = (omega arith, refl)

pub returns-then-own-i : goal.returns-then-own-i
returns-then-own-i c = next_here c.args.name c.args.own.now c.args.from c.loop-i.i (omega arith) c.loop-i.invariant.0 (omega (arith, c.rows_in-n.ensures, c.loop-i-test.true)) (omega (arith, c.rows_in-n.ensures)) (row_called c.args.own.now c.loop-i.i c.args.name c.if-own-i.true) c.loop-i.invariant.1

pub loop-i-preserved : goal.loop-i-preserved
loop-i-preserved c = (omega (arith, c.loop-i.invariant.0), skipped c.args.name c.args.own.now c.args.from c.loop-i.i (omega (arith, c.rows_in-n.ensures, c.loop-i-test.true)) (row_other c.args.own.now c.loop-i.i c.args.name c.if-own-i.false) c.loop-i.invariant.1)

pub returns : goal.returns
returns c = next_none c.args.name c.args.own.now c.args.from c.loop-i.i (omega (arith, c.rows_in-n.ensures, c.loop-i-test.false)) c.loop-i.invariant.1
