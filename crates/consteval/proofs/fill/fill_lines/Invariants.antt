use Rattle.consteval.specs.Fill.{entries_of}
use Rattle.spec.specs.Refusal.{lines}
use lib.ListN.{length, drop}
use mathlib.Core.Path.{◌≡◌}
use Prim.Native.Nat.{◌-◌}
use Rattle.consteval.proofs.fill.fill_lines.Given as goal

abbrev pub invariant-loop-at : goal.invariant-loop-at
invariant-loop-at l = (length l.names ≡ length l.initial.names) × (entries_of l.from (lines l.s) l.initial.names l.initial.used ≡ entries_of l.from (lines (drop l.at l.s)) l.names l.used)

abbrev pub decreases-loop-at : goal.decreases-loop-at
decreases-loop-at l = length l.s - l.at
