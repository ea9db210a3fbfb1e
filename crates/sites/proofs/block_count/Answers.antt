use mathlib.Core.Path.{ap}
use Prim.Native.Nat.{ℕ}
use native.Mathlib.Omega.{arith}
use Rattle.sites.specs.Own.{run, own_of}
use Rattle.spec.specs.Block.{block_count}
use Rattle.sites.proofs.Rows.{run_all}
use Rattle.sites.proofs.Coverage.{pair_at, count_own, count_other, count_end}
use Rattle.sites.proofs.block_count.Goals as goal
use Rattle.sites.proofs.block_count.Goals.{then-own-i, else-own-i}

pub loop-i-init : goal.loop-i-init
unfolding own_of
loop-i-init c = (omega arith, omega (arith, ap (block_count c.args.name) (run_all (pair_at c.args.own.now c.args.name) c.rows_in-n.result), ap (λ (k : ℕ). block_count c.args.name (run (pair_at c.args.own.now c.args.name) 0 k)) c.rows_in-n.ensures.0))

pub bounds-own-i : goal.bounds-own-i
bounds-own-i c = omega (arith, c.rows_in-n.ensures)

pub loop-i-preserved : goal.loop-i-preserved
loop-i-preserved c = elim c.if-own-i.branch [
  | then-own-i w ↦ (omega (arith, w.k-is), omega (arith, w.k-is, count_own c.args.own.now c.args.name c.loop-i.i c.rows_in-n.result c.loop-i-test.true w.if-own-i.true, c.loop-i.invariant.1))
  | else-own-i w ↦ (omega (arith, w.k-is), omega (arith, w.k-is, count_other c.args.own.now c.args.name c.loop-i.i c.rows_in-n.result c.loop-i-test.true w.if-own-i.false, c.loop-i.invariant.1))
]

pub returns : goal.returns
returns c = omega (arith, count_end c.args.own.now c.args.name c.loop-i.i c.rows_in-n.result c.loop-i-test.false, c.loop-i.invariant.1)
