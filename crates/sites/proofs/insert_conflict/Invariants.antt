use mathlib.Core.Path.{◌≡◌}
use mathlib.Core.List.{◌∷◌}
use Prim.Native.Nat.{ℕ, ◌+◌, ◌*◌, ◌-◌, ◌≤◌}
use lib.ListN.{get_or}
use Rattle.sites.specs.Own.{run}
use mathlib.Core.List.{◌++◌}
use Rattle.spec.specs.Site as site
use Rattle.sites.specs.Own.{conflict_of, conflict_row, conflict_table, Front}
use Rattle.sites.proofs.insert_conflict.Given as goal

abbrev pub invariant-loop-i : goal.invariant-loop-i
invariant-loop-i l = (l.i ≤ l.n) × Front l.initial.own l.own × (run (conflict_row l.own) 0 l.i ++ (conflict_of l.s l.a ∷ run (conflict_row l.own) l.i (l.n - l.i)) ≡ site.insert_conflict (conflict_of l.start l.name) (run (conflict_row l.initial.own) 0 l.n)) × (get_or l.own 6 0 ≡ get_or l.initial.own 6 0) × ((j : ℕ) → conflict_table.base + 2 * l.n ≤ j → get_or l.own j 0 ≡ get_or l.initial.own j 0)
