use Rattle.graph.specs.Cycles.{Zeroed}
use Rattle.summary.proofs.reset.Given as goal

abbrev pub invariant-loop-i : goal.invariant-loop-i
invariant-loop-i l = Zeroed 0 l.i l.initial.k l.k
