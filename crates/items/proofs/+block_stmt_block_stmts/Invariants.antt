use mathlib.Core.Path.{◌≡◌}
use mathlib.Core.Bool.{Bool}
use mathlib.Core.List.{List}
use Prim.Native.Nat.{◌*◌, ◌+◌, ◌-◌}
use lib.ListN.{length}
use Rattle.items.specs.Lines.{StmtsAfter}
use Rattle.items.specs.Added.{stmt_added, all_added}
use Rattle.edges.specs.Total.{parts_behind}
use Prim.Native.Nat.{ℕ}
use Rattle.items.proofs.+block_stmt_block_stmts.Given as goal

abbrev pub decreases-block_stmt : goal.decreases-block_stmt
decreases-block_stmt l = 2 * l.depth

abbrev pub decreases-block_stmts : goal.decreases-block_stmts
decreases-block_stmts l = 2 * l.depth + 1

abbrev pub invariant-block_stmts-loop-a : goal.invariant-block_stmts-loop-a
invariant-block_stmts-loop-a l = (length l.own ≡ length l.initial.own) × ((r : Bool) (own' : List ℕ) → StmtsAfter r l.s l.e l.block l.depth l.kinds l.own own' → StmtsAfter r l.s l.end l.block l.depth l.kinds l.initial.own own') × (all_added (stmt_added l.block l.kinds l.depth) (parts_behind l.s l.end) l.initial.own ≡ all_added (stmt_added l.block l.kinds l.depth) (parts_behind l.s l.e) l.own)

abbrev pub decreases-block_stmts-loop-a : goal.decreases-block_stmts-loop-a
decreases-block_stmts-loop-a l = length l.s - l.e
