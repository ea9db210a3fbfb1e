use Rattle.runs.specs.Run.{form_length}
use lib.ListN.{drop}
use mathlib.Core.Path.{◌≡◌}
use Prim.Native.Nat.{◌+◌, ◌-◌, ◌≤◌}
use Rattle.runs.proofs.form_end.Given as goal

abbrev pub invariant-loop-i : goal.invariant-loop-i
invariant-loop-i l = (l.k ≤ l.i - l.from) × (l.from + form_length 0 (drop l.from l.s) ≡ l.i + form_length l.k (drop l.i l.s))
