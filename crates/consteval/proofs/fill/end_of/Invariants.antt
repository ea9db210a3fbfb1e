use Rattle.consteval.specs.Fill.{feed, line_end}
use lib.ListN.{length, drop}
use mathlib.Core.Path.{◌≡◌}
use Prim.Native.Nat.{◌+◌, ◌≤◌}
use Rattle.consteval.proofs.fill.end_of.Given as goal

abbrev pub invariant-loop-i : goal.invariant-loop-i
invariant-loop-i l = (length l.s ≤ l.at → l.i ≡ l.at) × (line_end l.s l.at ≡ l.i + feed (drop l.i l.s))
