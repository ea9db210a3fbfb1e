use mathlib.Core.Path.{◌≡◌}
use Prim.Native.Nat.{◌-◌}
use Rattle.sites.specs.Own.{site_from, run, items, site_table}
use Rattle.spec.specs.Site as site
use Rattle.sites.specs.Own.{conflict_rows, misuse_poison, skip_at, site_row, Front, Behind}
use Rattle.sites.proofs.find_conflicts.Given as goal

abbrev pub invariant-loop-k : goal.invariant-loop-k
invariant-loop-k l = Front l.initial.own l.own × (conflict_rows l.own ≡ site.conflicts (skip_at (misuse_poison l.initial.own) (site_row l.initial.own) l.k) (items site_from site_table l.initial.own) (run (site_row l.initial.own) l.k (l.n - l.k))) × Behind l.initial.own l.own
