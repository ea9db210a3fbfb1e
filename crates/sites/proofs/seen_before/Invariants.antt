use mathlib.Core.Path.{◌≡◌}
use Rattle.spec.specs.Refusal.{has_name}
use Rattle.sites.specs.Own.{misuse_poison, skip_at, site_row}
use Rattle.sites.proofs.seen_before.Given as goal

abbrev pub invariant-loop-i : goal.invariant-loop-i
invariant-loop-i l = (has_name l.name (skip_at (misuse_poison l.own) (site_row l.own) l.i) ≡ has_name l.name (skip_at (misuse_poison l.own) (site_row l.own) l.k))
