use Prim.Native.Nat.{◌≤◌}
use mathlib.Core.Path.{◌≡◌}
use Rattle.sites.specs.Own.{sites_from}
use Rattle.sites.proofs.next_site.Given as goal

abbrev pub invariant-loop-i : goal.invariant-loop-i
invariant-loop-i l = (l.from ≤ l.i) × (sites_from l.name l.own l.i ≡ sites_from l.name l.own l.from)
