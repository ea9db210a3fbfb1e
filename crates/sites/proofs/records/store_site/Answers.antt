use Rattle.std.proofs.Common.{length, set, ap, ◌∙◌}
use Rattle.sites.specs.Run.{sites_in, record_of}
use Rattle.sites.proofs.Search.{stands, sites_set}
use Rattle.sites.proofs.Store.{done_below, full_past, set_past}
use Rattle.sites.proofs.records.store_site.Goals as goal

pub returns-then-i-records : goal.returns-then-i-records
returns-then-i-records c =
    let e = ap (set c.args.records.now c.args.i) c.from-r.ensures in
    (e, ap sites_in e ∙ sites_set c.args.records.now c.args.i (record_of c.args.s) ∙ ap (set (sites_in c.args.records.now) c.args.i) (stands c.args.s), done_below c.args.i (length c.args.records.now) c.if-i-records.true)

pub returns : goal.returns
returns c =
    let e = set_past c.args.records.now c.args.i (record_of c.args.s) c.if-i-records.false in
    (e, ap sites_in e ∙ sites_set c.args.records.now c.args.i (record_of c.args.s) ∙ ap (set (sites_in c.args.records.now) c.args.i) (stands c.args.s), full_past c.args.i (length c.args.records.now) c.if-i-records.false)
