use mathlib.Core.Path.{◌≡◌}
use mathlib.Core.List.{List}
use lib.ListN.{length}
use Rattle.spec.specs.Edge.{Head}
use Rattle.spec.specs.FindCycles.{find_cycles}
use Rattle.graph.specs.Stands.{Stands}
use Rattle.graph.specs.Cycles.{Awaits}
use Rattle.drivers.proofs.LoopLaws.{Looping}
use Rattle.drivers.proofs.loops.report_loops.Given as goal

abbrev pub invariant-loop-turn : goal.invariant-loop-turn
invariant-loop-turn l = ((hs : List Head) → Stands l.g hs → Awaits l.g l.initial.w (find_cycles hs) → Looping l.g l.w hs l.m l.turn l.write l.initial.buf l.initial.q l.buf l.q) × (length l.w ≡ length l.initial.w) × (length l.buf ≡ length l.initial.buf)
