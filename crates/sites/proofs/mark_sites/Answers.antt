use mathlib.Core.Path.{sym, ap, subst, ◌∙◌}
use mathlib.Core.List.{List}
use Prim.Native.Nat.{ℕ}
use native.Mathlib.Omega.{arith}
use Rattle.sites.specs.Own.{site_from, row, run, own_of, site_table}
use Rattle.sites.specs.Own.{Marked}
use Rattle.spec.specs.Site as site
use Rattle.sites.proofs.Rows.{run_all}
use Rattle.sites.proofs.Marks.{going_start, going_skip, going_own, going_end}
use Rattle.sites.proofs.mark_sites.Goals as goal
use Rattle.sites.proofs.mark_sites.Goals.{then-s-name, else-s-name}

pub loop-i-init : goal.loop-i-init
unfolding own_of
loop-i-init c = going_start c.args.limit _ _ c.args.marks.now (ap (λ (l : List site.Site). site.sites_of c.args.name l) (run_all (λ (j : ℕ). site_from (row site_table c.args.own.now j)) c.rows_in-n.result) ∙ ap (λ (k : ℕ). site.sites_of c.args.name (run (λ (j : ℕ). site_from (row site_table c.args.own.now j)) 0 k)) c.rows_in-n.ensures.0)

pub site_at-s-requires : goal.site_at-s-requires
site_at-s-requires c = omega (arith, c.requires, c.rows_in-n.ensures, c.loop-i-test.true)

pub mark_extent-requires : goal.mark_extent-requires
mark_extent-requires c = omega (arith, c.requires, c.loop-i.invariant.size)

pub loop-i-preserved : goal.loop-i-preserved
loop-i-preserved c = elim c.if-s-name.branch [
  | then-s-name w ↦ rw w.marks-is (going_own c.args.name c.args.limit (λ (j : ℕ). site_from (row site_table c.args.own.now j)) (site.sites_of c.args.name (own_of c.args.own.now).sites) c.args.marks.now c.loop-i.marks w.mark_extent.new.marks c.loop-i.i c.rows_in-n.result c.loop-i-test.true (ap (λ (t : site.Site). t.name) (sym c.site_at-s.ensures) ∙ w.if-s-name.true) (subst (λ (t : site.Site). Marked c.args.limit (site.covers t.extent) c.loop-i.marks w.mark_extent.new.marks) c.site_at-s.ensures w.mark_extent.ensures) c.loop-i.invariant)
  | else-s-name w ↦ rw w.marks-is (going_skip c.args.name c.args.limit (λ (j : ℕ). site_from (row site_table c.args.own.now j)) (site.sites_of c.args.name (own_of c.args.own.now).sites) c.args.marks.now c.loop-i.marks c.loop-i.i c.rows_in-n.result c.loop-i-test.true (λ e. w.if-s-name.false (ap (λ (t : site.Site). t.name) c.site_at-s.ensures ∙ e)) c.loop-i.invariant)
]

pub returns : goal.returns
returns c = going_end c.args.name c.args.limit (λ (j : ℕ). site_from (row site_table c.args.own.now j)) (site.sites_of c.args.name (own_of c.args.own.now).sites) c.args.marks.now c.loop-i.marks c.loop-i.i c.rows_in-n.result c.loop-i-test.false c.loop-i.invariant
