use mathlib.Core.Path.{◌≡◌}
use mathlib.Core.Bool.{Bool}
use mathlib.Core.List.{List}
use Prim.Native.Nat.{ℕ}
use lib.ListN.{length}
use Rattle.consteval.specs.Worth.{names_of, worth}
use Rattle.edges.specs.Lines.{summary_at, InstHeads}
use Rattle.edges.specs.Total.{inst_reads}
use Rattle.edges.specs.Leaves.{outputs_in, OutputsOrCleared}
use Rattle.edges.proofs.OutputLaws.{OutputsHead}
use Rattle.edges.proofs.inst_heads.Given as goal

abbrev pub invariant-loop-left : goal.invariant-loop-left
invariant-loop-left l = ((length l.g ≡ length l.initial.g) × ((r : Bool) (g' : List ℕ) → OutputsOrCleared r (inst_reads l.scope.kinds.now (names_of l.scope.names.now l.scope.used) (summary_at l.pairs.words.now l.pairs.first l.pairs.count) l.depth l.x) (outputs_in (summary_at l.pairs.words.now l.p l.left)) (worth l.index) l.x l.g g' → OutputsOrCleared r (inst_reads l.scope.kinds.now (names_of l.scope.names.now l.scope.used) (summary_at l.pairs.words.now l.pairs.first l.pairs.count) l.depth l.x) (outputs_in (summary_at l.pairs.words.now l.pairs.first l.pairs.count)) (worth l.index) l.x l.initial.g g')) × ((r : Bool) (g' : List ℕ) → OutputsHead r (worth l.index) (summary_at l.pairs.words.now l.pairs.first l.pairs.count) (summary_at l.pairs.words.now l.p l.left) l.x l.depth l.scope.kinds.now (names_of l.scope.names.now l.scope.used) l.g g' → InstHeads r (worth l.index) (summary_at l.pairs.words.now l.pairs.first l.pairs.count) l.x l.depth l.scope.kinds.now (names_of l.scope.names.now l.scope.used) l.initial.g g')
