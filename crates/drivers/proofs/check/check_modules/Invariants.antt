use mathlib.Core.Path.{◌≡◌}
use Prim.Native.Nat.{◌*◌, ◌≤◌}
use lib.ListN.{length}
use mathlib.Core.List.{[]}
use Rattle.spec.specs.Summary.{Kept}
use Rattle.summary.specs.Keeps.{Keeps}
use Rattle.collect.specs.Cycle.{Tabled}
use Rattle.drivers.specs.Check.{Enough}
use Rattle.drivers.proofs.TurnLaws.{Turning}
use Rattle.drivers.proofs.check.check_modules.Given as goal

abbrev pub invariant-loop-m : goal.invariant-loop-m
invariant-loop-m l = (length l.names ≡ length l.initial.names) × (length l.own ≡ length l.initial.own) × (length l.g ≡ length l.initial.g) × (length l.w ≡ length l.initial.w) × (length l.k ≡ length l.initial.k) × (length l.buf ≡ length l.initial.buf) × (l.source.count ≤ 32) × (l.rounds ≤ 4096 * l.m) × ((kept : Kept) → Tabled l.source.text.now l.source.kinds.now l.source.mods.now l.source.count → Enough l.initial.names l.initial.own l.initial.g l.initial.w l.initial.k → Keeps l.initial.k kept [] → Turning l.source.text.now kept l.write l.initial.buf l.m l.rounds l.buf l.q l.k)
