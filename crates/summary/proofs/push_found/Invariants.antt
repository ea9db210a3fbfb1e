use mathlib.Core.Path.{◌≡◌}
use mathlib.Core.List.{List}
use Prim.Native.Nat.{ℕ}
use Rattle.spec.specs.Edge.{Summary}
use Rattle.spec.specs.Summary.{paired}
use Rattle.graph.specs.Reach.{found}
use Rattle.summary.specs.Pairs.{Grown, pairs_written}
use Rattle.summary.proofs.Pairs.{Pushing}
use Rattle.summary.proofs.push_found.Given as goal

abbrev pub invariant-loop-i : goal.invariant-loop-i
invariant-loop-i l = (pairs_written (paired l.o (found l.w l.n)) l.initial.k ≡ pairs_written (paired l.o (found l.w l.i)) l.k) × ((t : List ℕ) (ps : Summary) → Grown t l.initial.k ps → Pushing t l.k ps l.o l.w l.n l.i)
