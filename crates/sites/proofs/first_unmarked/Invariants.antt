use mathlib.Core.Path.{◌≡◌}
use Prim.Native.Nat.{◌-◌}
use Rattle.sites.specs.Own.{unmarked_from}
use Rattle.sites.proofs.first_unmarked.Given as goal

abbrev pub invariant-loop-b : goal.invariant-loop-b
invariant-loop-b l = (unmarked_from l.marks l.b (l.limit - l.b) ≡ unmarked_from l.marks 0 l.limit)
