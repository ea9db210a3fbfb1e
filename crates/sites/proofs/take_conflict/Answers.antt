use mathlib.Core.Path.{sym, ap, ◌∙◌}
use mathlib.Core.List.{[]}
use native.Mathlib.Omega.{arith}
use Rattle.sites.specs.Own.{own_of}
use mathlib.Core.Option.{none, some}
use Rattle.spec.specs.Refusal.{has_name}
use Rattle.spec.specs.Site as site
use Rattle.sites.specs.Own.{conflict_of, conflict_rows, misuse_poison, skip_at, site_row, found_of}
use Rattle.sites.proofs.Conflicts.{front_same, behind_same, step_seen, step_new}
use Rattle.sites.proofs.Fill.{alone}
use Rattle.sites.proofs.take_conflict.Goals as goal

pub site_at-site-requires : goal.site_at-site-requires
site_at-site-requires c = omega (arith, c.requires)

pub seen_before-requires : goal.seen_before-requires
seen_before-requires c = omega (arith, c.requires)

pub returns-then-seen_before : goal.returns-then-seen_before
returns-then-seen_before c = (front_same c.args.own.now, step_seen c.args.own.now c.args.k (conflict_rows c.args.own.now) (ap (λ (t : site.Site). has_name t.name (skip_at (misuse_poison c.args.own.now) (site_row c.args.own.now) c.args.k)) (sym c.site_at-site.ensures) ∙ sym c.seen_before.ensures ∙ c.if-seen_before.true), behind_same c.args.own.now c.requires.1)

pub returns-then-next_site-ge-SITE_LIMIT : goal.returns-then-next_site-ge-SITE_LIMIT
returns-then-next_site-ge-SITE_LIMIT c = (front_same c.args.own.now, alone c.site_at-site.result.name c.args.own.now c.args.k c.next_site.result (conflict_rows c.args.own.now) (ap (λ (t : site.Site). t.name) c.site_at-site.ensures) (sym c.seen_before.ensures ∙ c.if-seen_before.false) c.next_site.ensures (omega (arith, c.if-next_site-ge-SITE_LIMIT.true)) (omega arith), behind_same c.args.own.now c.requires.1)

pub returns-in-Some : goal.returns-in-Some
unfolding own_of
returns-in-Some c = (
  c.insert_conflict.ensures.0,
  c.insert_conflict.ensures.1 ∙ ap (λ (t : site.Site). site.insert_conflict (conflict_of c.in-Some.start t.name) (conflict_rows c.args.own.now)) c.site_at-site.ensures
      ∙ step_new c.args.own.now c.args.k (conflict_rows c.args.own.now) (some c.in-Some.start) (ap (λ (t : site.Site). has_name t.name (skip_at (misuse_poison c.args.own.now) (site_row c.args.own.now) c.args.k)) (sym c.site_at-site.ensures) ∙ sym c.seen_before.ensures ∙ c.if-seen_before.false) (ap found_of (sym c.in-Some.is) ∙ c.first_conflict.ensures ∙ ap (λ (t : site.Site). site.first_conflict [] (site.sites_of t.name (own_of c.args.own.now).sites)) c.site_at-site.ensures),
  c.insert_conflict.ensures.2,
)

pub returns-in_default : goal.returns-in_default
unfolding own_of
returns-in_default c = (front_same c.args.own.now, step_new c.args.own.now c.args.k (conflict_rows c.args.own.now) none (ap (λ (t : site.Site). has_name t.name (skip_at (misuse_poison c.args.own.now) (site_row c.args.own.now) c.args.k)) (sym c.site_at-site.ensures) ∙ sym c.seen_before.ensures ∙ c.if-seen_before.false) (ap found_of (sym c.in_default.is) ∙ c.first_conflict.ensures ∙ ap (λ (t : site.Site). site.first_conflict [] (site.sites_of t.name (own_of c.args.own.now).sites)) c.site_at-site.ensures), behind_same c.args.own.now c.requires.1)
