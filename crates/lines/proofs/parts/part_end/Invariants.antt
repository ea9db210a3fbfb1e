use Rattle.lines.specs.Parts.{scan, part_end}
use lib.ListN.{length, drop}
use mathlib.Core.Path.{◌≡◌}
use Prim.Native.Nat.{◌+◌, ◌-◌, ◌≤◌}
use Rattle.lines.proofs.parts.part_end.Given as goal

abbrev pub invariant-loop-i : goal.invariant-loop-i
invariant-loop-i l = (l.at ≤ l.i) × (length l.s ≤ l.at → l.i ≡ l.at) × (l.k ≤ l.i - l.at) × (part_end l.s l.at ≡ l.i + scan l.k (drop l.i l.s))
