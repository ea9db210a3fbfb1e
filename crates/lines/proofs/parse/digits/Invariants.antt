use Rattle.lines.specs.Parse.{digits_from}
use lib.ListN.{length, drop}
use mathlib.Core.Path.{◌≡◌}
use Prim.Native.Nat.{◌≤◌}
use Rattle.lines.proofs.parse.digits.Given as goal

abbrev pub invariant-loop-i : goal.invariant-loop-i
invariant-loop-i l = (length l.s ≤ l.at → l.i ≡ l.at) × (digits_from (drop l.at l.s) l.at 0 ≡ digits_from (drop l.i l.s) l.i l.a)
