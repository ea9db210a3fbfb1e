use native.Mathlib.Omega.{arith}
use Rattle.graph.proofs.Sorting.{zeroed_none}
use Rattle.summary.proofs.Table.{zeroed_next, emptied_is}
use Rattle.summary.proofs.reset.Goals as goal

pub loop-i-init : goal.loop-i-init
loop-i-init c = zeroed_none 0 c.args.k.now

pub loop-i-preserved : goal.loop-i-preserved
loop-i-preserved c = zeroed_next c.args.k.now c.loop-i.k c.loop-i.i c.loop-i.invariant c.put.ensures

pub returns : goal.returns
returns c = emptied_is c.args.k.now c.loop-i.k c.loop-i.i c.loop-i.auto.i-end c.loop-i-test.false c.loop-i.invariant c.put-2.ensures
