use Rattle.lines.specs.Read.{closes_at}
use lib.ListN.{drop}
use Prim.Native.Nat.{◌≤◌}
use mathlib.Core.Path.{◌≡◌}
use Rattle.lines.proofs.read.closes.Given as goal

abbrev pub invariant-loop-i : goal.invariant-loop-i
invariant-loop-i l = (1 ≤ l.k) × (l.k ≤ 32) × (closes_at 1 (drop l.at l.s) ≡ closes_at l.k (drop l.i l.s))
