use mathlib.Core.Path.{◌≡◌, sym, ap, ◌∙◌}
use mathlib.Core.Bool.{Bool}
use mathlib.Core.List.{List, []}
use Prim.Native.Nat.{ℕ}
use native.Mathlib.Omega.{arith}
use Rattle.sites.specs.Own.{site_from, row, run, own_of, site_table}
use Rattle.sites.specs.Own.{cover_by, range_test}
use Rattle.spec.specs.Site as site
use Rattle.sites.proofs.Rows.{run_all}
use Rattle.sites.proofs.Coverage.{cover_from, cover_skip, cover_more, cover_open, cover_end, ranges_none}
use Rattle.sites.proofs.cover_of.Goals as goal

-- the array has the words of the slice
same_cover : (n : ℕ) {l m : List ℕ} → l ≡ m → cover_by (site.sites_of n (own_of l).sites) ≡ cover_by (site.sites_of n (own_of m).sites)
same_cover n = ap (λ (l : List ℕ). cover_by (site.sites_of n (own_of l).sites))

pub loop-i-init : goal.loop-i-init
unfolding own_of
loop-i-init c = ap (λ (l : List site.Site). cover_by (site.sites_of c.args.name l)) (run_all (λ (j : ℕ). site_from (row site_table c.in-Some.own.now j)) c.rows_in-n.result) ∙ ap (λ (k : ℕ). cover_by (site.sites_of c.args.name (run (λ (j : ℕ). site_from (row site_table c.in-Some.own.now j)) 0 k))) c.rows_in-n.ensures.0

pub site_at-s-requires : goal.site_at-s-requires
site_at-s-requires c = omega (arith, c.rows_in-n.ensures, c.loop-i-test.true)

pub loop-i-preserved-then-s-name : goal.loop-i-preserved-then-s-name
loop-i-preserved-then-s-name c = cover_skip c.args.name (λ (j : ℕ). site_from (row site_table c.in-Some.own.now j)) c.loop-i.seen c.loop-i.i c.rows_in-n.result c.loop-i-test.true (λ e. c.if-s-name.true (ap (λ (t : site.Site). t.name) c.site_at-s.ensures ∙ e)) ∙ c.loop-i.invariant

pub returns-then-not-is_range : goal.returns-then-not-is_range
returns-then-not-is_range c =
    record { value = λ _. cover_open c.args.name (λ (j : ℕ). site_from (row site_table c.in-Some.own.now j)) c.loop-i.seen c.loop-i.i c.rows_in-n.result c.loop-i-test.true (ap (λ (t : site.Site). t.name) (sym c.site_at-s.ensures) ∙ c.if-s-name.false) (ap (λ (t : site.Site). range_test t.extent) (sym c.site_at-s.ensures) ∙ sym c.is_range.ensures ∙ c.if-not-is_range.true) ∙ c.loop-i.invariant ∙ same_cover c.args.name c.in-Some.ensures.cases.same; value_2 = λ n. absurd (n c.in-Some.ensures.cases.long) }

pub loop-i-preserved : goal.loop-i-preserved
loop-i-preserved c = cover_more c.args.name (λ (j : ℕ). site_from (row site_table c.in-Some.own.now j)) c.loop-i.seen c.loop-i.i c.rows_in-n.result c.loop-i-test.true (ap (λ (t : site.Site). t.name) (sym c.site_at-s.ensures) ∙ c.if-s-name.false) (ap (λ (t : site.Site). range_test t.extent) (sym c.site_at-s.ensures) ∙ sym c.is_range.ensures ∙ c.if-not-is_range.false) ∙ c.loop-i.invariant

pub returns-then-seen : goal.returns-then-seen
returns-then-seen c =
    record { value = λ _. sym ranges_none ∙ ap (λ (b : Bool). cover_from b []) (sym c.if-seen.true) ∙ cover_end c.args.name (λ (j : ℕ). site_from (row site_table c.in-Some.own.now j)) c.loop-i.seen c.loop-i.i c.rows_in-n.result c.loop-i-test.false ∙ c.loop-i.invariant ∙ same_cover c.args.name c.in-Some.ensures.cases.same; value_2 = λ n. absurd (n c.in-Some.ensures.cases.long) }

pub returns : goal.returns
returns c =
    record { value = λ _. ap (λ (b : Bool). cover_from b []) (sym c.if-seen.false) ∙ cover_end c.args.name (λ (j : ℕ). site_from (row site_table c.in-Some.own.now j)) c.loop-i.seen c.loop-i.i c.rows_in-n.result c.loop-i-test.false ∙ c.loop-i.invariant ∙ same_cover c.args.name c.in-Some.ensures.cases.same; value_2 = λ n. absurd (n c.in-Some.ensures.cases.long) }
