use mathlib.Core.Path.{◌≡◌}
use mathlib.Core.Bool.{Bool}
use mathlib.Core.List.{List}
use Prim.Native.Nat.{ℕ, ◌-◌}
use lib.ListN.{length, drop}
use Rattle.consteval.specs.Worth.{names_of}
use Rattle.edges.specs.Lines.{summary_at, ConnsRead}
use Rattle.edges.specs.Total as total
use Rattle.edges.specs.Total.{parts_behind, reads_in_order}
use Rattle.edges.specs.Leaves.{ReadsOrCleared}
use Rattle.edges.proofs.conns_read.Given as goal

abbrev pub invariant-loop-b : goal.invariant-loop-b
invariant-loop-b l = ((length l.g ≡ length l.initial.g) × ((r : Bool) (g' : List ℕ) → ReadsOrCleared r (reads_in_order (total.conn_read l.scope.kinds.now (names_of l.scope.names.now l.scope.used) (summary_at l.pairs.words.now l.pairs.first l.pairs.count) l.o l.depth) (parts_behind l.x l.a)) l.from l.g g' → ReadsOrCleared r (reads_in_order (total.conn_read l.scope.kinds.now (names_of l.scope.names.now l.scope.used) (summary_at l.pairs.words.now l.pairs.first l.pairs.count) l.o l.depth) (parts_behind l.x l.end)) l.from l.initial.g g')) × ((r : Bool) (g' : List ℕ) → ConnsRead r l.o (summary_at l.pairs.words.now l.pairs.first l.pairs.count) (drop l.a l.x) l.depth l.scope.kinds.now (names_of l.scope.names.now l.scope.used) l.g g' l.from → ConnsRead r l.o (summary_at l.pairs.words.now l.pairs.first l.pairs.count) (drop l.end l.x) l.depth l.scope.kinds.now (names_of l.scope.names.now l.scope.used) l.initial.g g' l.from)

abbrev pub decreases-loop-b : goal.decreases-loop-b
decreases-loop-b l = length l.x - l.a
