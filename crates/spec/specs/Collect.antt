-- The collected lines of a module, each with the values then standing. 01: The collected item.
-- To a reader: definitions to believe; that items are taken in order, and how repeat and constif run and take rounds, is pinned by
-- Collection.Collecting (proved in proofs/Collection).
use Rattle.std.specs.Prelude.{true, false, List, [], ◌∷◌, ◌++◌, ℕ, zero, suc, ◌+◌, ◌-◌, ltb, ℤ, pos, negsuc, ◌+ℤ◌, ◌-ℤ◌}
use Rattle.spec.specs.Syntax.{Item, Items, port, wire, reg, mem, const, drive, on, inst, repeat, const_if, Module}
use Rattle.spec.specs.Value.{Value, known, missing, outside, Names, value, is_zero, name_table}

-- 01, The collected item: each module has 4,096 rounds for all its repeats.
abbrev pub round_limit : ℕ
round_limit = 4096

-- 01, The collected item: one item as often as it is collected, with the values then standing: `at` says which it is, as positions in
-- the text, the innermost first (of a `constif` also the branch: 0 `then`, 1 `else`).
pub record Collected : Type 0 where
  pub at : List ℕ
  pub item : Item
  pub names : Names

-- 01, The collected item: its lines, decision: the `repeat` and `constif` lines among them; the rounds left for what follows; those
-- taken.
pub record Collection : Type 0 where
  pub lines : List Collected
  pub left : ℕ
  pub taken : ℕ

-- 01, The collected item: one collection, then what another gives with the rounds that the first left.
abbrev pub then_collect : Collection → (ℕ → Collection) → Collection
then_collect a f = let b = f a.left in record { lines = a.lines ++ b.lines; left = b.left; taken = a.taken + b.taken }

-- 01, The collected item: nothing collected, no round taken.
abbrev pub collect_none : ℕ → Collection
collect_none left = record { lines = []; left = left; taken = 0 }

-- 01, The collected item: `count` rounds of a body, for the variable n from v on; the variable's old value returns afterwards.
unfoldable pub collect_rounds : (Names → ℕ → Collection) → ℕ → ℤ → ℕ → Names → ℕ → Collection
collect_rounds body n v zero names left = collect_none left
collect_rounds body n v (suc count) names left =
    then_collect (body ((n, v) ∷ names) left) (λ left'. collect_rounds body n (v +ℤ pos 1) count names left')

-- 01, The collected item: rounds counted as taken. Decision: rounds are those spent.
abbrev pub spent : ℕ → Collection → Collection
spent rounds c = record { lines = c.lines; left = c.left; taken = rounds + c.taken }

-- 01, The collected item: `high − low` above what is left: body once, variable not set. Otherwise the rounds (none where high is
-- not above low) are spent before the body runs.
unfoldable pub repeat_rounds : (Names → ℕ → Collection) → ℕ → ℤ → ℤ → Names → ℕ → Collection
repeat_rounds body n low (negsuc d) names left = collect_none left
repeat_rounds body n low (pos rounds) names left =
    elim (ltb left rounds) [
      | true ↦ body names left
      | false ↦ spent rounds (collect_rounds body n low rounds names (left - rounds))
    ]

-- 01, The collected item: a bound without value: body once, variable not set. Outside INT the answer is 20 whatever is collected.
unfoldable pub collect_repeat : (Names → ℕ → Collection) → ℕ → Value → Value → Names → ℕ → Collection
collect_repeat body n (known low) (known high) names left = repeat_rounds body n low (high -ℤ low) names left
collect_repeat body n (known low) missing names left = body names left
collect_repeat body n (known low) outside names left = body names left
collect_repeat body n missing high names left = body names left
collect_repeat body n outside high names left = body names left

-- 01, The collected item: `constif` without a value takes `else`.
unfoldable pub collect_branch : Value → Collection → Collection → Collection
collect_branch (known x) a b = elim (is_zero x) [ true ↦ b | false ↦ a ]
collect_branch missing a b = b
collect_branch outside a b = b

-- 01, The collected item: a collected line before others.
abbrev pub line_then : Collected → Collection → Collection
line_then l c = record { lines = l ∷ c.lines; left = c.left; taken = c.taken }

-- 01, The collected item: an item is collected, and then what it holds.
unfoldable mutual
  pub collect_inner : Item → List ℕ → Names → ℕ → Collection
  collect_inner (port d n w s) at names left = collect_none left
  collect_inner (wire n e s) at names left = collect_none left
  collect_inner (reg n s) at names left = collect_none left
  collect_inner (mem n s) at names left = collect_none left
  collect_inner (const n e) at names left = collect_none left
  collect_inner (drive lv e) at names left = collect_none left
  collect_inner (on s ss) at names left = collect_none left
  collect_inner (inst i) at names left = collect_none left
  collect_inner (repeat n low high is) at names left =
      collect_repeat (λ names' left'. collect_items is at 0 names' left') n (value names low) (value names high) names left
  collect_inner (const_if c is js) at names left =
      collect_branch (value names c) (collect_items is (0 ∷ at) 0 names left) (collect_items js (1 ∷ at) 0 names left)

  pub collect_items : Items → List ℕ → ℕ → Names → ℕ → Collection
  collect_items Items.none at k names left = collect_none left
  collect_items (Items.more i is) at k names left =
      then_collect (line_then (record { at = k ∷ at; item = i; names = names }) (collect_inner i (k ∷ at) names left))
      (λ left'. collect_items is at (suc k) names left')

-- 01, The collected item: a module's collection, over the values of its `val` lines.
unfoldable pub collection : Names → Module → Collection
collection vals m = collect_items m.items [] 0 (name_table vals m).names round_limit
