use mathlib.Core.Path.{refl}
use mathlib.Core.Path.{◌≡◌, ap, subst, ◌∙◌}
use mathlib.Core.List.{List}
use Prim.Native.Nat.{ℕ, ◌+◌, ◌-◌, ◌<◌}
use native.Mathlib.Omega.{arith}
use lib.ListN.{length, set, length-set}
use Rattle.sites.specs.Own.{site_from, run, items, own_of, site_table}
use Rattle.spec.specs.Site as site
use Rattle.sites.specs.Own.{places, Front, conflicts_found, conflict_rows, conflict_step, conflict_table, rows_in, with_conflicts, misuse_poison, skip_at, site_row}
use Rattle.sites.proofs.Conflicts.{front_count, final_rows, behind_count, front_same, front_then, front_own, step_front, conflicts_step, start_rows, rows_few, behind_start, behind_then, rows_more, found_are, found_none}
use Rattle.sites.proofs.find_conflicts.Goals as goal

pub returns-in_default-clause-front : goal.returns-in_default-clause-front
returns-in_default-clause-front c = (front_same c.args.own.now, λ _. refl)

pub returns-in_default-clause-own_after_2 : goal.returns-in_default-clause-own_after_2
returns-in_default-clause-own_after_2 c = found_none c.args.own.now c.in_default.ensures.cases

pub loop-k-init : goal.loop-k-init
loop-k-init c = (front_same (set c.in-Some.own.now 6 0), start_rows c.in-Some.own.now (skip_at (misuse_poison (set c.in-Some.own.now 6 0)) (site_row (set c.in-Some.own.now 6 0)) c.rows_in-n.result) (items site_from site_table (set c.in-Some.own.now 6 0)) (site_row (set c.in-Some.own.now 6 0)) c.rows_in-n.result (omega arith), behind_start c.in-Some.own.now (omega arith))

pub take_conflict-requires : goal.take_conflict-requires
take_conflict-requires c = let few = rows_few c.loop-k.own _ _ _ _ _ c.loop-k.invariant.1 in
    omega (arith, c.rows_in-n.ensures, c.loop-k.invariant.0.size, c.loop-k.invariant.0, c.loop-k-test.true, length-set c.in-Some.own.now 6 0, few)

pub loop-k-preserved : goal.loop-k-preserved
loop-k-preserved c = let h : c.loop-k.k - 1 < c.rows_in-n.result = omega (arith, c.loop-k.invariant.0, c.loop-k-test.true) in
    let z : c.loop-k.k ≡ c.loop-k.k - 1 + 1 = omega (arith, c.loop-k-test.true) in (
      front_then c.loop-k.invariant.0 c.take_conflict.ensures.0,
      c.take_conflict.ensures.1 ∙ step_front (set c.in-Some.own.now 6 0) c.loop-k.own c.loop-k.invariant.0 (c.loop-k.k - 1) (omega (arith, c.rows_in-n.ensures, c.loop-k.invariant.0, c.loop-k-test.true)) (conflict_rows c.loop-k.own)
          ∙ ap (conflict_step (set c.in-Some.own.now 6 0) (c.loop-k.k - 1)) (c.loop-k.invariant.1 ∙ ap (λ (j : ℕ). site.conflicts (skip_at (misuse_poison (set c.in-Some.own.now 6 0)) (site_row (set c.in-Some.own.now 6 0)) j) (items site_from site_table (set c.in-Some.own.now 6 0)) (run (site_row (set c.in-Some.own.now 6 0)) j (c.rows_in-n.result - j))) z)
          ∙ conflicts_step (set c.in-Some.own.now 6 0) c.rows_in-n.result (c.loop-k.k - 1) h,
      behind_then (rows_in conflict_table c.loop-k.own) c.loop-k.invariant.2.at (rows_more c.loop-k.own _ (c.loop-k.k - 1) c.take_conflict.ensures.1) c.take_conflict.ensures.2,
    )

pub returns : goal.returns
unfolding own_of
returns c =
    let p = front_count c.in-Some.own.now 0 in
    let q = front_then p c.loop-k.invariant.0 in
    let same = c.in-Some.ensures.cases.same in
    let len : length c.in-Some.own.now ≡ places = omega arith in
    let rows = c.loop-k.invariant.1 ∙ final_rows c.in-Some.own.now (set c.in-Some.own.now 6 0) p c.rows_in-n.result c.loop-k.k c.rows_in-n.ensures.0 (omega arith) in
    let behind = behind_then 0 (λ j h. behind_count c.in-Some.own.now 0 j 0 h) (omega arith) c.loop-k.invariant.2 in record {
      own_after = λ _. front_own c.in-Some.own.now c.loop-k.own q ∙ ap (λ (cs : List site.Conflict). with_conflicts cs (own_of c.in-Some.own.now)) rows ∙ ap (λ (l : List ℕ). with_conflicts (site.conflicts (misuse_poison l) (own_of l).sites (own_of l).sites) (own_of l)) same;
      front = (subst (λ (l : List ℕ). Front l c.loop-k.own) same q, λ n. absurd (n c.in-Some.ensures.cases.long));
      own_len_unchanged = q.size ∙ ap length same;
      own_after_2 = found_are c.in-Some.own.now c.loop-k.own (conflict_rows c.loop-k.own) len q behind refl rows ∙ ap conflicts_found same;
    }
