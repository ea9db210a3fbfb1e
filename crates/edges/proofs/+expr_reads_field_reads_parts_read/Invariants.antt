use mathlib.Core.Path.{◌≡◌}
use mathlib.Core.Bool.{Bool}
use mathlib.Core.List.{List}
use Prim.Native.Nat.{◌*◌, ◌+◌, ◌-◌}
use lib.ListN.{length, drop}
use Rattle.consteval.specs.Worth.{names_of}
use Rattle.edges.specs.Shows.{PartsRead}
use Rattle.edges.specs.Total.{parts_behind, reads_in_order, expr_read}
use Rattle.edges.specs.Leaves.{ReadsOrCleared}
use Prim.Native.Nat.{ℕ}
use Rattle.edges.proofs.+expr_reads_field_reads_parts_read.Given as goal

abbrev pub decreases-expr_reads : goal.decreases-expr_reads
decreases-expr_reads l = 2 * l.depth

abbrev pub decreases-field_reads : goal.decreases-field_reads
decreases-field_reads l = 2 * l.depth + 1

abbrev pub decreases-parts_read : goal.decreases-parts_read
decreases-parts_read l = 2 * l.depth + 1

abbrev pub invariant-parts_read-loop-b : goal.invariant-parts_read-loop-b
invariant-parts_read-loop-b l = ((length l.g ≡ length l.initial.g) × ((r : Bool) (g' : List ℕ) → ReadsOrCleared r (reads_in_order (expr_read l.scope.kinds.now (names_of l.scope.names.now l.scope.used) l.depth) (parts_behind l.e l.a)) l.from l.g g' → ReadsOrCleared r (reads_in_order (expr_read l.scope.kinds.now (names_of l.scope.names.now l.scope.used) l.depth) (parts_behind l.e l.end)) l.from l.initial.g g')) × ((r : Bool) (g' : List ℕ) → PartsRead r (drop l.a l.e) l.depth l.scope.kinds.now (names_of l.scope.names.now l.scope.used) l.g g' l.from → PartsRead r (drop l.end l.e) l.depth l.scope.kinds.now (names_of l.scope.names.now l.scope.used) l.initial.g g' l.from)

abbrev pub decreases-parts_read-loop-b : goal.decreases-parts_read-loop-b
decreases-parts_read-loop-b l = length l.e - l.a
