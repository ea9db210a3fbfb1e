use Rattle.consteval.specs.Worth.{pairs, names_of}
use Rattle.spec.specs.Value.{value_of_name}
use lib.ListN.{length}
use mathlib.Core.Path.{◌≡◌}
use Prim.Native.Nat.{◌/◌, ◌≤◌}
use Rattle.consteval.proofs.names.look_up.Given as goal

abbrev pub invariant-loop-i : goal.invariant-loop-i
invariant-loop-i l = (l.i ≤ length l.names / 2) × (value_of_name (names_of l.names l.used) l.n ≡ value_of_name (pairs l.names l.i) l.n)
