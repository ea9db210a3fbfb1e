use Prim.Native.Nat.{ℕ, ◌-◌}
use Rattle.sites.specs.Own.{site_from, row, run, own_of, site_table}
use Rattle.spec.specs.Site as site
use Rattle.sites.proofs.Marks.{Going}
use Rattle.sites.proofs.mark_sites.Given as goal

abbrev pub invariant-loop-i : goal.invariant-loop-i
invariant-loop-i l = Going l.limit (site.sites_of l.name (run (λ (j : ℕ). site_from (row site_table l.own j)) l.i (l.n - l.i))) (site.sites_of l.name (own_of l.own).sites) l.initial.marks l.marks
