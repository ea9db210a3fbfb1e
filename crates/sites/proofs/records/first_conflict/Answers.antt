use Rattle.std.proofs.Common.{◌≡◌, ℕ, Bool, true, false, refl, sym, ap, ◌∙◌, arith, get_or, ◌-◌}
use Rattle.std.proofs.Math.Option.{Option, some}
use Rattle.spec.specs.Site as site
use Rattle.sites.specs.Own.{extent_of, site_of, found_of}
use Rattle.sites.specs.Run.{extent_in, site_in}
use Rattle.sites.specs.declared.Site as declared
use Rattle.sites.specs.declared.records.Record.{Record}
use Rattle.sites.proofs.Search.{blank, outer_start, outer_end, outer_next, inner_start, inner_miss, inner_hit}
use Rattle.sites.proofs.records.first_conflict.Goals as goal

-- the test of the earlier record with the later site is that of the two sites
met : (early late : Record) (s : declared.Site) (t u : Bool) → site_of s ≡ site_in late → t ≡ site.meets (extent_in early) (extent_of s.extent) → t ≡ u → site.meets (extent_in early) (extent_in late) ≡ u
met early late s t u e g h = ap (λ (x : site.Site). site.meets (extent_in early) x.extent) (sym e) ∙ sym g ∙ h

pub search-init : goal.search-init
search-init c = (refl, outer_start c.args.records.now)

pub loop-earlier-init : goal.loop-earlier-init
loop-earlier-init c = (c.search.invariant.0, inner_start c.args.records.now c.search.later)

pub loop-earlier-preserved : goal.loop-earlier-preserved
loop-earlier-preserved c =
    let rs = c.args.records.now in (
      c.loop-earlier.invariant.0,
      inner_miss rs c.search.later c.loop-earlier.earlier c.loop-earlier-test.true c.loop-earlier.invariant.1
          (met (get_or rs (c.loop-earlier.earlier - 1) blank) (get_or rs c.search.later blank) c.from-s.result c.clash.result false c.from-s.ensures c.clash.ensures c.if-clash.false),
    )

pub search-preserved : goal.search-preserved
search-preserved c = (c.loop-earlier.invariant.0, outer_next c.args.records.now c.search.later c.loop-earlier.earlier c.search-test.true (omega arith) c.search.invariant.1 c.loop-earlier.invariant.1)

pub returns-after-search : goal.returns-after-search
returns-after-search c = ap found_of c.search.invariant.0 ∙ outer_end c.args.records.now c.search.later (omega arith) c.search.invariant.1

pub returns-then-clash : goal.returns-then-clash
returns-then-clash c =
    let rs = c.args.records.now in
    ap {B = Option ℕ} (λ (x : site.Site). some x.start) c.from-s.ensures
    ∙ inner_hit rs c.search.later c.loop-earlier.earlier c.loop-earlier-test.true c.search-test.true c.search.invariant.1 c.loop-earlier.invariant.1
    (met (get_or rs (c.loop-earlier.earlier - 1) blank) (get_or rs c.search.later blank) c.from-s.result c.clash.result true c.from-s.ensures c.clash.ensures c.if-clash.true)
