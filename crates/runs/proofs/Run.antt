-- Runs: where a form ends, and where runs of items stand.
-- Assumes nothing.
use mathlib.Core.Path.{◌≡◌, sym, ◌∙◌, ap}
use mathlib.Core.Bool.{Bool, true, false, ◌&&◌, false≢true}
use mathlib.Core.List.{[], ◌∷◌, ◌++◌}
use Prim.Native.Nat.{ℕ, zero, suc, ◌≤◌}
use native.Mathlib.Omega.{arith}
use lib.ListN.{length}
use lib.Dec.{eqb, ltb}
use borrow.Author.Tests.{eqb-true, le-leb}
use Rattle.spec.specs.Bytes.{Bytes, show_rest}
use Rattle.spec.specs.Syntax.{Item, Items}
use Rattle.spec.specs.Show.{show_item, show_items, show_line, item_lines, show_lines}
use Rattle.spec.specs.Decode.{depth_limit}
use Rattle.spec.specs.Refusal.{closes, one_form, item_depth, items_depth, items_in_range}
use Rattle.spec.proofs.Nodes.{and_parts}
use Rattle.spec.proofs.Shown.{item_shown}
use Rattle.runs.specs.Run.{form_length, Run, last, next, RunOf}

-- ---- the end of a form

closed_length : (y r : Bytes) (k : ℕ) → closes (suc k) y ≡ true → form_length (suc k) (y ++ r) ≡ length y
unfolding closes form_length
closed_length [] r k e = absurd (false≢true e)
closed_length (c ∷ y) r k e = go (eqb c 40) (eqb c 41) k e (λ j f. closed_length y r j f)
  where
    go : (p q : Bool) (k : ℕ)
        → elim p as (λ _. Bool) [
          | true ↦ ltb (suc k) depth_limit && closes (suc (suc k)) y
          | false ↦ elim q as (λ _. Bool) [ true ↦ elim k as (λ _. Bool) [ zero ↦ eqb (length y) 0 | suc i ↦ closes (suc i) y ] | false ↦ closes (suc k) y ]
        ] ≡ true
        → ((j : ℕ) → closes (suc j) y ≡ true → form_length (suc j) (y ++ r) ≡ length y)
        → elim p as (λ _. ℕ) [
          | true ↦ suc (form_length (suc (suc k)) (y ++ r))
          | false ↦ elim q as (λ _. ℕ) [ true ↦ elim k as (λ _. ℕ) [ zero ↦ 1 | suc i ↦ suc (form_length (suc i) (y ++ r)) ] | false ↦ suc (form_length (suc k) (y ++ r)) ]
        ] ≡ suc (length y)
    go true q k e f = ap suc (f (suc k) (and_parts (ltb (suc k) depth_limit) (closes (suc (suc k)) y) e).1)
    go false true zero e f = ap suc (sym (eqb-true (length y) 0 e))
    go false true (suc i) e f = ap suc (f i e)
    go false false k e f = ap suc (f k e)

-- a form is as long as it is shown, whatever stands behind it
pub form_alone_length : (x r : Bytes) → one_form x ≡ true → form_length 0 (x ++ r) ≡ length x
unfolding one_form form_length
form_alone_length [] r e = absurd (false≢true e)
form_alone_length (c ∷ y) r e =
    let p = and_parts (eqb c 40) (closes 1 y) e in
    rw (p.0, form_length) (ap suc (closed_length y r 0 p.1))

-- ---- where runs stand

-- what shows an item that is not too deep is one form
item_form : (i : Item) → item_depth i ≤ depth_limit → one_form (show_item i) ≡ true
item_form i h = (item_shown i).line.form ∙ le-leb (item_depth i) depth_limit h

run_rest : (is : Items) → items_depth is ≤ depth_limit → Run (show_rest (show_items is)) (show_items is)
unfolding show_items items_depth show_rest
run_rest Items.none h = last 41
run_rest (Items.more i is) h = next 32 (item_form i (omega arith)) (run_rest is (omega arith))

run_lines : (b : ℕ) (is : Items) → items_depth is ≤ depth_limit → Run (b ∷ show_lines (item_lines is [])) (show_items is)
unfolding show_items items_depth item_lines show_lines show_line
run_lines b Items.none h = last b
run_lines b (Items.more i is) h = next b (item_form i (omega arith)) (run_lines 10 is (omega arith))

module _ (is : Items) (ranged : items_in_range is ≡ true) where
  -- inside a form: from the byte behind what stands before the items to the last bracket
  pub rest_run : (d : ℕ) → items_depth is ≤ d → d ≤ depth_limit → RunOf d (show_rest (show_items is)) is
  rest_run d h k = record { deep = h; within = k; ranged = ranged; run = run_rest is (omega arith) }

  -- the item lines of a module: from the byte before the first to the line feed behind the last
  pub lines_run : (b : ℕ) → items_depth is ≤ depth_limit → RunOf depth_limit (b ∷ show_lines (item_lines is [])) is
  lines_run b h = record { deep = h; within = omega arith; ranged = ranged; run = run_lines b is h }
