use mathlib.Core.Path.{◌≡◌, sym, ap, subst, ◌∙◌}
use native.Mathlib.Omega.{arith}
use Rattle.spec.specs.Site as site
use Rattle.sites.specs.Own.{conflict_of, conflict_row}
use Rattle.sites.proofs.Conflicts.{placing, place_start, place_on, place_here, place_end, conflict_read}
use Rattle.sites.proofs.conflict_place.Goals as goal

pub loop-i-init : goal.loop-i-init
loop-i-init c = place_start (conflict_of c.args.start c.args.name) (conflict_row c.args.own.now) c.args.n

pub bounds-own-at : goal.bounds-own-at
bounds-own-at c = omega (arith, c.requires)

pub conflict_earlier-requires : goal.conflict_earlier-requires
conflict_earlier-requires c = tt

pub returns-then-conflict_earlier : goal.returns-then-conflict_earlier
returns-then-conflict_earlier c = (omega arith, place_here (conflict_of c.args.start c.args.name) (conflict_row c.args.own.now) c.args.n c.loop-i.i c.loop-i-test.true (ap (site.conflict_before (conflict_of c.args.start c.args.name)) (sym (conflict_read c.args.own.now c.loop-i.i)) ∙ sym c.conflict_earlier.ensures ∙ c.if-conflict_earlier.true) c.loop-i.invariant)

pub loop-i-preserved : goal.loop-i-preserved
loop-i-preserved c = place_on (conflict_of c.args.start c.args.name) (conflict_row c.args.own.now) c.args.n c.loop-i.i c.loop-i-test.true (ap (site.conflict_before (conflict_of c.args.start c.args.name)) (sym (conflict_read c.args.own.now c.loop-i.i)) ∙ sym c.conflict_earlier.ensures ∙ c.if-conflict_earlier.false) c.loop-i.invariant

pub returns : goal.returns
returns c = let e : c.loop-i.i ≡ c.args.n = omega arith in (omega arith, place_end (conflict_of c.args.start c.args.name) (conflict_row c.args.own.now) c.args.n (subst (placing (conflict_of c.args.start c.args.name) (conflict_row c.args.own.now) c.args.n) e c.loop-i.invariant))
