use mathlib.Core.Path.{◌≡◌}
use Prim.Native.Nat.{◌+◌, ◌*◌, ◌-◌}
use lib.ListN.{get_or}
use Rattle.spec.specs.Refusal.{has_name}
use Rattle.sites.specs.Own.{run}
use Rattle.sites.proofs.has_row.Given as goal

abbrev pub invariant-loop-i : goal.invariant-loop-i
invariant-loop-i l = (has_name l.name (run (λ j. get_or l.own (l.t.base + l.t.width * j) 0) l.i (l.n - l.i)) ≡ has_name l.name (run (λ j. get_or l.own (l.t.base + l.t.width * j) 0) 0 l.n))
