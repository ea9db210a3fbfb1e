use lib.ListN.{length}
use Rattle.cases.proofs.Filed.{Ahead}
use Rattle.cases.proofs.run.run.Given as goal

abbrev pub invariant-loop-t : goal.invariant-loop-t
invariant-loop-t g l = Ahead l.s l.t l.cases l.different

abbrev pub decreases-loop-t : goal.decreases-loop-t
decreases-loop-t g l = length l.t
