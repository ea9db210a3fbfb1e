use Rattle.bench_c.proofs.CyclesLaws.{Copying}
use Rattle.bench_c.proofs.cycles.copy.Given as goal

abbrev pub invariant-loop-k : goal.invariant-loop-k
invariant-loop-k l = Copying l.w l.p l.k l.initial.nodes l.nodes
