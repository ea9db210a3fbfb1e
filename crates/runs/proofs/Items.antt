-- Going through a run: the item behind a byte, and the run from its end on. One law for each way of the loop over items.
-- Assumes nothing.
use mathlib.Core.Path.{◌≡◌, refl, ap}
use mathlib.Core.Bool.{true, ◌&&◌, false≢true}
use mathlib.Core.List.{List, [], ◌∷◌}
use Prim.Native.Nat.{ℕ, suc, ◌+◌, ◌-◌, ◌≤◌, ◌<◌, max}
use native.Mathlib.Omega.{arith}
use lib.ListN.{length, take, drop, length-append, length-drop}
use lib.Seq.{take_at, drop_at, drop-drop}
use Rattle.spec.specs.Bytes.{Bytes}
use Rattle.spec.specs.Syntax.{Item, Items}
use Rattle.spec.specs.Show.{show_item, show_items}
use Rattle.spec.specs.Refusal.{one_form, item_depth, items_depth, item_in_range, items_in_range}
use Rattle.spec.proofs.Nodes.{and_parts}
use Rattle.lines.specs.Parts.{piece}
use Rattle.runs.specs.Run.{form_length, Run, last, next, ShowsItem, RunOf}
use Rattle.runs.proofs.Run.{form_alone_length}

-- 01, The line: where the item ends that stands behind the byte at `at`
unfoldable pub item_end : Bytes → ℕ → ℕ
item_end s at = at + 1 + form_length 0 (drop (at + 1) s)

run_some : {s : Bytes} {xs : List Bytes} → Run s xs → 0 < length s
run_some (last b) = omega arith
run_some (next b e r) = omega arith

form_some : (x : Bytes) → one_form x ≡ true → 0 < length x
unfolding one_form
form_some [] e = absurd (false≢true e)
form_some (c ∷ x) e = omega arith

-- a run with an item in it: the item, and the run behind it
record Led (t : Bytes) (is : Items) : Type 0 where
  item : Item
  rest : Items
  whole : is ≡ Items.more item rest
  shown : take (form_length 0 (drop 1 t)) (drop 1 t) ≡ show_item item
  onward : Run (drop (form_length 0 (drop 1 t)) (drop 1 t)) (show_items rest)
  some : 0 < form_length 0 (drop 1 t)
  less : suc (form_length 0 (drop 1 t)) < length t

led : {t : Bytes} {xs : List Bytes} → Run t xs → (is : Items) → xs ≡ show_items is → 1 < length t → Led t is
unfolding show_items
led (last b) is e h = absurd (omega arith)
led (next b {x} {s} {xs} f r) Items.none e h = absurd (omega (arith, ap length e))
led (next b {x} {s} {xs} f r) (Items.more i is) e h =
    let n = form_alone_length x s f in
    let a : x ≡ show_item i = cc in
    let c : xs ≡ show_items is = cc in
    let k = form_some x f in
    let g = run_some r in
    record {
      item = i;
      rest = is;
      whole = refl;
      shown = rw (n, take_at x s (length x) refl) a;
      onward = rw (n, drop_at x s (length x) refl, ← c) r;
      some = rw n k;
      less = rw (n, length-append x s) (omega arith);
    }

-- the item behind the byte at `at` is the first of the run, and the others are the run from its end on
pub record FirstOf (d : ℕ) (s : Bytes) (at : ℕ) (is : Items) : Type 0 where
  pub item : Item
  pub rest : Items
  pub whole : is ≡ Items.more item rest
  pub shows : ShowsItem (piece s at (item_end s at)) d item
  pub onward : RunOf d (drop (item_end s at) s) rest
  pub after : at < item_end s at
  pub inside : item_end s at < length s

pub first_of_run : (d : ℕ) (s : Bytes) (at : ℕ) (is : Items) → RunOf d (drop at s) is → at + 1 < length s → FirstOf d s at is
unfolding item_end piece items_depth items_in_range
first_of_run d s at is r h =
    let l = length-drop at s in
    let q = led r.run is refl (omega arith) in
    let e : drop 1 (drop at s) ≡ drop (at + 1) s = drop-drop 1 at s in
    let n = form_length 0 (drop (at + 1) s) in
    let m : at + 1 + n - (at + 1) ≡ n = omega arith in
    let deep : max (item_depth q.item) (items_depth q.rest) ≤ d = rw q.whole at r.deep in
    let both : item_in_range q.item && items_in_range q.rest ≡ true = rw q.whole at r.ranged in
    let ranged = and_parts (item_in_range q.item) (items_in_range q.rest) both in
    let less : suc n < length (drop at s) = rw e at q.less in
    record {
      item = q.item;
      rest = q.rest;
      whole = q.whole;
      shows = record { shown = rw (m, ← e) q.shown; deep = omega arith; within = r.within; ranged = ranged.0 };
      onward = record { deep = omega arith; within = r.within; ranged = ranged.1; run = rw (← (drop-drop n (at + 1) s), ← e) q.onward };
      after = omega arith;
      inside = omega arith;
    }

-- a run is through at its last byte
through : {t : Bytes} {xs : List Bytes} → Run t xs → (is : Items) → xs ≡ show_items is → length t ≤ 1 → is ≡ Items.none
unfolding show_items
through (last b) Items.none e h = refl
through (last b) (Items.more i is) e h = absurd (omega (arith, ap length e))
through (next b {x} {s} f r) is e h = absurd (omega (arith, form_some x f, length-append x s))

pub end_of_run : (d : ℕ) (s : Bytes) (at : ℕ) (is : Items) → RunOf d (drop at s) is → length s ≤ at + 1 → is ≡ Items.none
end_of_run d s at is r h = let l = length-drop at s in through r.run is refl (omega arith)
