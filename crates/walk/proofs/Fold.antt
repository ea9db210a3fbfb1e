-- The walk is the fold over the collected list, whatever is done at a line.
-- Assumes nothing.
use mathlib.Core.Path.{◌≡◌, refl, ◌∙◌}
use mathlib.Core.Bool.{Bool, true, false}
use mathlib.Core.List.{List, [], ◌∷◌, ◌++◌}
use Prim.Native.Nat.{ℕ, zero, suc, ◌-◌}
use lib.Dec.{ltb}
use lib.IntN.{ℤ, pos, negsuc, ◌+ℤ◌, ◌-ℤ◌}
use Rattle.spec.specs.Syntax.{Item, Items, port, wire, reg, mem, const, drive, on, inst, repeat, const_if}
use Rattle.spec.specs.Value.{Value, known, missing, outside, Names, value, is_zero}
use Rattle.spec.specs.Collect.{Collected, Collection, then_collect, collect_rounds, spent, repeat_rounds, collect_repeat, collect_branch, line_then, collect_inner, collect_items}
use Rattle.walk.specs.Walk.{Got, full, going, then_go, Walked, walked, Walks, walk_rounds, walk_times, walk_repeat, takes_then, walk_inner, walk_items}

-- 01, The collected item: the steps at collected lines, one behind the other
unfoldable pub fold_lines : {S : Type 0} → (Names → Item → S → Got S) → List Collected → S → Got S
fold_lines step [] st = going st
fold_lines step (c ∷ cs) st = then_go (step c.names c.item st) (λ st'. fold_lines step cs st')

-- what a fold over a collection's lines leaves, with the rounds that the collection leaves
abbrev pub over_collection : {S : Type 0} → (Names → Item → S → Got S) → Collection → S → Got (Walked S)
over_collection step c st = then_go (fold_lines step c.lines st) (λ st'. going (walked c.left st'))

module _ {S : Type 0} (step : Names → Item → S → Got S) where
  -- one fold behind the other
  pub fold_append : (a b : List Collected) (st : S) → fold_lines step (a ++ b) st ≡ then_go (fold_lines step a st) (λ st'. fold_lines step b st')
  unfolding fold_lines
  fold_append [] b st = refl
  fold_append (c ∷ a) b st = go (step c.names c.item st) (λ st'. fold_append a b st')
    where
      go : (g : Got S) → ((st' : S) → fold_lines step (a ++ b) st' ≡ then_go (fold_lines step a st') (λ st''. fold_lines step b st''))
          → then_go g (λ st'. fold_lines step (a ++ b) st') ≡ then_go (then_go g (λ st'. fold_lines step a st')) (λ st'. fold_lines step b st')
      go full h = refl
      go (going st') h = h st'

  -- one collection, then another with the rounds that the first left
  over_then : (a : Collection) (f : ℕ → Collection) (st : S)
      → then_go (over_collection step a st) (λ r. over_collection step (f r.left) r.state) ≡ over_collection step (then_collect a f) st
  over_then a f st = rw (fold_append a.lines (f a.left).lines st) (go (fold_lines step a.lines st))
    where
      go : (g : Got S)
          → then_go (then_go g (λ st'. going (walked a.left st'))) (λ r. over_collection step (f r.left) r.state)
          ≡ then_go (then_go g (λ st'. fold_lines step (f a.left).lines st')) (λ st'. going (walked (f a.left).left st'))
      go full = refl
      go (going st') = refl

  -- a walk is the fold over a collection, and what follows the one is the fold over what follows the other
  then_fold : (g : Got (Walked S)) (a : Collection) (f : ℕ → Collection) (walk : ℕ → S → Got (Walked S)) (st : S) → g ≡ over_collection step a st
      → ((left : ℕ) (st' : S) → walk left st' ≡ over_collection step (f left) st')
      → then_go g (λ r. walk r.left r.state) ≡ over_collection step (then_collect a f) st
  then_fold g a f walk st e h = each g ∙ rw e (over_then a f st)
    where
      each : (g : Got (Walked S)) → then_go g (λ r. walk r.left r.state) ≡ then_go g (λ r. over_collection step (f r.left) r.state)
      each full = refl
      each (going r) = h r.left r.state

  -- a body's walk is the fold over its collection
  abbrev Folds : Walks S → (Names → ℕ → Collection) → Type 0
  Folds walk collect = (names : Names) (left : ℕ) (st : S) → walk names left st ≡ over_collection step (collect names left) st

  module _ (walk : Walks S) (collect : Names → ℕ → Collection) (h : Folds walk collect) (n : ℕ) where
    rounds_fold : (count : ℕ) (v : ℤ) → Folds (walk_rounds walk n v count) (collect_rounds collect n v count)
    unfolding walk_rounds collect_rounds fold_lines
    rounds_fold zero v names left st = refl
    rounds_fold (suc count) v names left st =
        then_fold (walk ((n, v) ∷ names) left st) (collect ((n, v) ∷ names) left) (λ left'. collect_rounds collect n (v +ℤ pos 1) count names left')
        (λ left' st'. walk_rounds walk n (v +ℤ pos 1) count names left' st') st (h ((n, v) ∷ names) left st) (λ left' st'. rounds_fold count (v +ℤ pos 1) names left' st')

    times_fold : (low z : ℤ) → Folds (walk_times walk n low z) (repeat_rounds collect n low z)
    unfolding walk_times repeat_rounds fold_lines
    times_fold low (negsuc d) names left st = refl
    times_fold low (pos rounds) names left st = go (ltb left rounds)
      where
        go : (b : Bool)
            → elim b as (λ _. Got (Walked S)) [ true ↦ walk names left st | false ↦ walk_rounds walk n low rounds names (left - rounds) st ]
            ≡ over_collection step (elim b as (λ _. Collection) [ true ↦ collect names left | false ↦ spent rounds (collect_rounds collect n low rounds names (left - rounds)) ]) st
        go true = h names left st
        go false = rounds_fold rounds low names (left - rounds) st

    repeat_fold : (low high : Value) → Folds (walk_repeat walk n low high) (collect_repeat collect n low high)
    unfolding walk_repeat collect_repeat
    repeat_fold (known low) (known high) names left st = times_fold low (high -ℤ low) names left st
    repeat_fold (known low) missing names left st = h names left st
    repeat_fold (known low) outside names left st = h names left st
    repeat_fold missing high names left st = h names left st
    repeat_fold outside high names left st = h names left st

  branch_fold : (v : Value) (a b : Got (Walked S)) (c d : Collection) (st : S) → a ≡ over_collection step c st → b ≡ over_collection step d st
      → elim (takes_then v) as (λ _. Got (Walked S)) [ true ↦ a | false ↦ b ] ≡ over_collection step (collect_branch v c d) st
  unfolding collect_branch
  branch_fold (known x) a b c d st e f = go (is_zero x)
    where
      go : (z : Bool) → elim (elim z as (λ _. Bool) [ true ↦ false | false ↦ true ]) as (λ _. Got (Walked S)) [ true ↦ a | false ↦ b ]
          ≡ over_collection step (elim z as (λ _. Collection) [ true ↦ d | false ↦ c ]) st
      go true = f
      go false = e
  branch_fold missing a b c d st e f = f
  branch_fold outside a b c d st e f = f

  -- an item's line, then what it holds
  line_fold : (c : Collected) (holds : Collection) (inner : S → Got (Walked S)) (st : S)
      → ((st' : S) → inner st' ≡ over_collection step holds st')
      → then_go (step c.names c.item st) inner ≡ over_collection step (line_then c holds) st
  unfolding fold_lines
  line_fold c holds inner st h = go (step c.names c.item st)
    where
      go : (g : Got S) → then_go g inner ≡ then_go (then_go g (λ st'. fold_lines step holds.lines st')) (λ st'. going (walked holds.left st'))
      go full = refl
      go (going st') = h st'

  -- one thing after the other, bracketed the other way
  then_then : (g : Got S) (f : S → Got (Walked S)) (k : Walked S → Got (Walked S)) → then_go g (λ a. then_go (f a) k) ≡ then_go (then_go g f) k
  then_then full f k = refl
  then_then (going a) f k = refl

  mutual
    unfolding walk_inner collect_inner walk_items collect_items fold_lines

    pub inner_fold : (i : Item) (at : List ℕ) → Folds (walk_inner i step) (collect_inner i at)
    inner_fold (port d n w s) at names left st = refl
    inner_fold (wire n e s) at names left st = refl
    inner_fold (reg n s) at names left st = refl
    inner_fold (mem n s) at names left st = refl
    inner_fold (const n e) at names left st = refl
    inner_fold (drive lv e) at names left st = refl
    inner_fold (on s ss) at names left st = refl
    inner_fold (inst i) at names left st = refl
    inner_fold (repeat n low high is) at names left st =
        repeat_fold (λ names' left' st'. walk_items is step names' left' st') (λ names' left'. collect_items is at 0 names' left')
        (λ names' left' st'. items_fold is at 0 names' left' st') n (value names low) (value names high) names left st
    inner_fold (const_if c is js) at names left st =
        branch_fold (value names c) (walk_items is step names left st) (walk_items js step names left st)
        (collect_items is (0 ∷ at) 0 names left) (collect_items js (1 ∷ at) 0 names left) st
        (items_fold is (0 ∷ at) 0 names left st) (items_fold js (1 ∷ at) 0 names left st)

    -- The walk is the fold over the collected list.
    pub items_fold : (is : Items) (at : List ℕ) (k : ℕ) → Folds (walk_items is step) (collect_items is at k)
    items_fold Items.none at k names left st = refl
    items_fold (Items.more i is) at k names left st =
        then_then (step names i st) (λ st'. walk_inner i step names left st') (λ r. walk_items is step names r.left r.state)
        ∙ then_fold (then_go (step names i st) (λ st'. walk_inner i step names left st'))
        (line_then (record { at = k ∷ at; item = i; names = names }) (collect_inner i (k ∷ at) names left)) (λ left'. collect_items is at (suc k) names left')
        (λ left' st'. walk_items is step names left' st') st
        (line_fold (record { at = k ∷ at; item = i; names = names }) (collect_inner i (k ∷ at) names left) (λ st'. walk_inner i step names left st') st
        (λ st'. inner_fold i (k ∷ at) names left st'))
        (λ left' st'. items_fold is at (suc k) names left' st')
