use mathlib.Core.Path.{◌≡◌, refl, sym, ap, subst, ◌∙◌}
use mathlib.Core.List.{List, [], ◌∷◌}
use Prim.Native.Nat.{ℕ, ◌+◌, ◌*◌, ◌-◌, ◌<◌}
use native.Mathlib.Omega.{arith}
use lib.ListN.{length, get_or}
use Rattle.sites.specs.Own.{places, rows_in, run}
use mathlib.Core.List.{◌++◌}
use Rattle.spec.specs.Site as site
use Rattle.sites.specs.Own.{conflict_of, conflict_row, conflict_rows, conflict_table, Front, Behind}
use Rattle.sites.proofs.Added.{conflict_shape}
use Rattle.sites.proofs.Rows.{get_or_sets_below}
use Rattle.sites.proofs.Conflicts.{front_same, front_then, front_sets, shift_more, shift_end, pushed_front, pushed_rows, pushed_more, pushed_behind, get_or_sets_past, behind_then, count_same}
use Rattle.sites.proofs.insert_conflict.Goals as goal

pub conflict_place-place-requires : goal.conflict_place-place-requires
conflict_place-place-requires c = omega (arith, c.requires, c.rows_in-n.ensures)

pub loop-i-init : goal.loop-i-init
loop-i-init c = (c.conflict_place-place.ensures.0, front_same c.args.own.now, c.conflict_place-place.ensures.1, refl, λ j h. refl)

pub bounds-own-at : goal.bounds-own-at
bounds-own-at c = omega (arith, c.requires, c.rows_in-n.ensures, c.loop-i-test.true, c.loop-i.invariant.1.size)

pub bounds-own-at-in-loop-i : goal.bounds-own-at-in-loop-i
bounds-own-at-in-loop-i c = omega (arith, c.requires, c.rows_in-n.ensures, c.loop-i-test.true, c.loop-i.invariant.1.size)

pub put_row-requires : goal.put_row-requires
put_row-requires c = omega (arith, c.requires, c.rows_in-n.ensures, c.loop-i-test.true, c.loop-i.invariant.1.size)

pub loop-i-preserved : goal.loop-i-preserved
loop-i-preserved c = let e = c.put_row.ensures in
    let len : length c.loop-i.own ≡ places = omega (arith, c.requires, c.loop-i.invariant.1.size) in (
      omega (arith, c.loop-i-test.true),
      front_then c.loop-i.invariant.1 (subst (λ (l : List ℕ). Front c.loop-i.own l) (sym e) (front_sets c.loop-i.own (conflict_table.base + 2 * c.loop-i.i) (c.loop-i.a ∷ c.loop-i.s ∷ []) (omega arith))),
      subst (λ (l : List ℕ). run (conflict_row l) 0 (c.loop-i.i + 1) ++ (conflict_of (get_or c.loop-i.own (conflict_table.base + 2 * c.loop-i.i + 1) 0) (get_or c.loop-i.own (conflict_table.base + 2 * c.loop-i.i) 0) ∷ run (conflict_row l) (c.loop-i.i + 1) (c.rows_in-n.result - (c.loop-i.i + 1))) ≡ site.insert_conflict (conflict_of c.args.start c.args.name) (run (conflict_row c.args.own.now) 0 c.rows_in-n.result)) (sym e)
          (shift_more c.loop-i.own c.rows_in-n.result c.loop-i.i c.loop-i.a c.loop-i.s c.loop-i-test.true (omega (arith, c.rows_in-n.ensures)) len ∙ c.loop-i.invariant.2),
      ap (λ (l : List ℕ). get_or l 6 0) e ∙ get_or_sets_below c.loop-i.own 6 (conflict_table.base + 2 * c.loop-i.i) (c.loop-i.a ∷ c.loop-i.s ∷ []) (omega arith) ∙ c.loop-i.invariant.3,
      λ j h. ap (λ (l : List ℕ). get_or l j 0) e ∙ get_or_sets_past c.loop-i.own j (conflict_table.base + 2 * c.loop-i.i) (c.loop-i.a ∷ c.loop-i.s ∷ []) (omega (arith, h, c.loop-i-test.true)) ∙ c.loop-i.invariant.4 j h,
    )

pub push-requires : goal.push-requires
push-requires c = (conflict_shape c.loop-i.own (omega (arith, c.requires, c.loop-i.invariant.1.size)), refl)

pub returns : goal.returns
returns c = let n≡ : c.rows_in-n.result ≡ rows_in conflict_table c.args.own.now = c.rows_in-n.ensures.0 in
    let len : length c.loop-i.own ≡ places = omega (arith, c.requires, c.loop-i.invariant.1.size) in
    let rows : rows_in conflict_table c.loop-i.own ≡ rows_in conflict_table c.args.own.now = count_same c.args.own.now c.loop-i.own c.loop-i.invariant.3 in
    let r : rows_in conflict_table c.loop-i.own < 1024 = omega (arith, c.requires, rows) in
    let e = c.push.ensures.0 in (
      front_then c.loop-i.invariant.1 (subst (λ (l : List ℕ). Front c.loop-i.own l) (sym e) (pushed_front c.loop-i.own (c.loop-i.a ∷ c.loop-i.s ∷ []) len refl r)),
      ap conflict_rows e ∙ pushed_rows c.loop-i.own (c.loop-i.a ∷ c.loop-i.s ∷ []) len refl r
          ∙ ap (λ (k : ℕ). run (conflict_row c.loop-i.own) 0 k ++ (conflict_of c.loop-i.s c.loop-i.a ∷ [])) (rows ∙ sym n≡)
          ∙ sym (shift_end (conflict_row c.loop-i.own) (conflict_of c.loop-i.s c.loop-i.a) c.rows_in-n.result c.loop-i.i (omega (arith, c.loop-i-test.false, c.loop-i.invariant.0)))
          ∙ c.loop-i.invariant.2 ∙ ap (λ (k : ℕ). site.insert_conflict (conflict_of c.args.start c.args.name) (run (conflict_row c.args.own.now) 0 k)) n≡,
      let v : List ℕ = c.loop-i.a ∷ c.loop-i.s ∷ [] in
          subst (λ (l : List ℕ). Behind c.args.own.now l) (sym e)
          (behind_then c.rows_in-n.result c.loop-i.invariant.4 (omega (arith, n≡, rows, pushed_more c.loop-i.own v len refl r)) (pushed_behind c.loop-i.own v len refl r)),
    )
