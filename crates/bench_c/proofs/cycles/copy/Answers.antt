use native.Mathlib.Omega.{arith}
use Rattle.bench_c.proofs.CyclesLaws.{copying_none, copying_more, copied}
use Rattle.bench_c.proofs.cycles.copy.Goals as goal

pub loop-k-init : goal.loop-k-init
loop-k-init c = copying_none c.args.w.now c.args.p c.args.nodes.now

pub loop-k-preserved : goal.loop-k-preserved
loop-k-preserved c = copying_more c.args.w.now c.args.p c.loop-k.k _ c.args.nodes.now c.loop-k.nodes _ c.loop-k.invariant c.put.ensures c.path_node.ensures

pub returns : goal.returns
returns c = copied c.args.w.now c.args.p c.args.n c.loop-k.k _ c.args.nodes.now c.loop-k.nodes _ (omega (arith, c.loop-k-test.false, c.loop-k.auto.k-end)) c.loop-k.invariant c.path_node-2.ensures c.put-2.ensures
