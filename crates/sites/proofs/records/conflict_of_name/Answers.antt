use Rattle.std.proofs.Common.{◌+◌, sym, subst}
use Rattle.sites.proofs.Fill.{Filling, begun, more, further, finished}
use Rattle.sites.proofs.records.conflict_of_name.Goals as goal

pub loop-i-init : goal.loop-i-init
loop-i-init g c = begun g.row.N c.requires c.args.name c.args.own.now c.next_site-i.result c.next_site-i.ensures

pub loop-i-smaller : goal.loop-i-smaller
loop-i-smaller g c = further g.row.N c.requires c.args.name c.args.own.now c.loop-i.i c.loop-i.k c.loop-i.records c.loop-i.invariant c.loop-i-test.true c.next_site-i-in-loop-i.result c.next_site-i-in-loop-i.ensures

pub loop-i-preserved : goal.loop-i-preserved
loop-i-preserved g c =
    subst (Filling g.row.N c.args.name c.args.own.now c.next_site-i-in-loop-i.result (c.loop-i.k + 1)) (sym c.store_site.ensures.0)
    (more g.row.N c.requires c.args.name c.args.own.now c.loop-i.i c.loop-i.k c.loop-i.records c.loop-i.invariant c.loop-i-test.true c.site_at-s.result c.site_at-s.ensures c.next_site-i-in-loop-i.result c.next_site-i-in-loop-i.ensures)

pub returns : goal.returns
returns g c = finished g.row.N c.requires c.args.name c.args.own.now c.loop-i.i c.loop-i.k c.loop-i.records c.loop-i.invariant c.loop-i-test.false c.first_conflict.result c.first_conflict.ensures
