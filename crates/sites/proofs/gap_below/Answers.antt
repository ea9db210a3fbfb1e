use mathlib.Core.Path.{◌∙◌}
use native.Mathlib.Omega.{arith}
use lib.ListN.{replicate}
use Rattle.spec.specs.Site as site
use Rattle.sites.specs.Own.{own_of}
use Rattle.sites.proofs.Marks.{gap_found, fresh}
use Rattle.sites.proofs.gap_below.Goals as goal

pub returns : goal.returns
returns g c =
    c.first_unmarked.ensures
    ∙ gap_found (replicate g.row.N 0) c.mark_sites.new.marks (site.sites_of c.args.name (own_of c.args.own.now).sites) c.args.limit (λ b h. fresh g.row.N b (omega (arith, h, c.requires))) c.mark_sites.ensures
