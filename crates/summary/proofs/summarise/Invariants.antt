use mathlib.Core.Path.{◌≡◌}
use mathlib.Core.List.{List, ◌∷◌}
use Prim.Native.Nat.{ℕ, ◌≤◌, ◌-◌}
use lib.ListN.{length}
use Rattle.spec.specs.Syntax.{Module}
use Rattle.spec.specs.Edge.{Head}
use Rattle.spec.specs.Summary.{Kept}
use Rattle.runs.specs.Run.{RunOf}
use Rattle.graph.specs.Stands.{Stands}
use Rattle.edges.specs.Reads.{KindsOf}
use Rattle.summary.specs.Keeps.{Keeps}
use Rattle.summary.proofs.Pairs.{Written}
use Rattle.summary.proofs.Leaving.{Turning}
use Rattle.summary.proofs.Making.{Going}
use Rattle.summary.proofs.summarise.Given as goal

abbrev pub invariant-loop-from : goal.invariant-loop-from
invariant-loop-from l = (l.from ≤ length l.s) × Written l.initial.k l.k × (length l.seen ≡ 256) × (length l.w ≡ 1538) × ((d : ℕ) (M : Module) (heads : List Head) (kept : Kept) (busy : List ℕ) → RunOf d l.s M.items → KindsOf l.kinds M.header → Stands l.g heads → Keeps l.initial.k kept (l.m ∷ busy) → Going d l.s l.from M heads l.initial.k l.k l.seen l.w) × Turning l.s l.kinds l.g l.from l.initial.k l.k l.seen l.w

abbrev pub decreases-loop-from : goal.decreases-loop-from
decreases-loop-from l = length l.s - l.from
