use mathlib.Core.Path.{sym, subst}
use mathlib.Core.List.{List, []}
use Prim.Native.Nat.{ℕ}
use lib.ListN.{length}
use Rattle.graph.specs.Stands.{Stands}
use Rattle.graph.proofs.Limits.{stands_empty}
use Rattle.bench_c.proofs.cycles.drivercheck_graph_clear.Goals as goal

pub returns-clause-g_after : goal.returns-clause-g_after
returns-clause-g_after c = c.clear.ensures

pub returns-clause-stands : goal.returns-clause-stands
returns-clause-stands c = λ l. subst (λ (x : List ℕ). Stands x []) (sym c.clear.ensures) (stands_empty (length c.args.g.now) l)
