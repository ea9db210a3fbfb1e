use mathlib.Core.Path.{◌≡◌}
use Prim.Native.Nat.{ℕ, ◌-◌}
use Rattle.sites.specs.Own.{site_from, row, run, own_of, site_table}
use Rattle.sites.specs.Own.{cover_by}
use Rattle.spec.specs.Site as site
use Rattle.sites.proofs.Coverage.{cover_from}
use Rattle.sites.proofs.cover_of.Given as goal

abbrev pub invariant-loop-i : goal.invariant-loop-i
invariant-loop-i l = (cover_from l.seen (site.sites_of l.name (run (λ (j : ℕ). site_from (row site_table l.own j)) l.i (l.n - l.i))) ≡ cover_by (site.sites_of l.name (own_of l.own).sites))
