-- What a collection keeps to, whatever the module and its values. 01: The collected item.
-- To a reader: definitions to believe, and a statement, Collecting, proved in proofs/Collection.
use Rattle.std.specs.Prelude.{◌≡◌, Bool, true, false, List, [], ◌∷◌, ◌++◌, ℕ, zero, suc, ◌+◌, ◌-◌, ◌≤◌, ◌<◌, eqb, ℤ, pos, ◌+ℤ◌, ◌-ℤ◌}
use Rattle.spec.specs.Syntax.{Expr, name, Item, Items, repeat, const_if, Module}
use Rattle.spec.specs.Value.{known, Names, value, is_zero, int_lt, name_table}
use Rattle.spec.specs.Collect.{round_limit, Collected, Collection, then_collect, collect_none, spent, line_then, collect_inner, collect_items, collection}
use Rattle.spec.specs.Graph.{◌∈◌}

-- whether two items are one, by where they stand. 01: The collected item.
unfoldable pub same_at : List ℕ → List ℕ → Bool
same_at [] [] = true
same_at [] (n ∷ ns) = false
same_at (m ∷ ms) [] = false
same_at (m ∷ ms) (n ∷ ns) = elim (eqb m n) [ true ↦ same_at ms ns | false ↦ false ]

-- how often the item that stands there is collected. 01: The collected item.
unfoldable pub times : List ℕ → List Collected → ℕ
times at [] = 0
times at (c ∷ cs) = elim (same_at at c.at) [ true ↦ suc (times at cs) | false ↦ times at cs ]

-- 01, The collected item: each module has 4,096 rounds for all its repeats; no item is collected more than 4,096 times in one
-- collection. `named`: `at` tells items apart. `over`: a line has the values of the open repeats, then the module's own table.
pub record OneCollection (vals : Names) (m : Module) : Type 0 where
  pub rounds : (collection vals m).taken + (collection vals m).left ≡ round_limit
  pub bounded : (collection vals m).taken ≤ 4096
  pub seldom : (at : List ℕ) → times at (collection vals m).lines ≤ round_limit
  pub named : (c d : Collected) → c ∈ (collection vals m).lines → d ∈ (collection vals m).lines → c.at ≡ d.at → c.item ≡ d.item
  pub over : (c : Collected) → c ∈ (collection vals m).lines → (opened : Names) × (c.names ≡ opened ++ (name_table vals m).names)

-- 01, The collected item: what is left of the rounds before round i, counted from 0: each round of a body hands on what it left.
unfoldable pub left_before : (ℕ → ℕ → Collection) → ℕ → ℕ → ℕ
left_before run left zero = left
left_before run left (suc i) = (run i (left_before run left i)).left

-- 01, The collected item: round i of a body, behind those before it.
abbrev pub round_of : (ℕ → ℕ → Collection) → ℕ → ℕ → Collection
round_of run left i = run i (left_before run left i)

-- 01, The collected item: the rounds below `count`, in order.
unfoldable pub rounds_below : (ℕ → ℕ → Collection) → ℕ → ℕ → Collection
rounds_below run left zero = collect_none left
rounds_below run left (suc i) =
    let r = round_of run left i in
    let c = rounds_below run left i in
    record { lines = c.lines ++ r.lines; left = r.left; taken = c.taken + r.taken }

-- 01, The collected item: none where high is not above low; otherwise the rounds are spent before the body runs, and in round i, from 0,
-- the variable has the value low + i; `high − low` above what is left, or a bound without value: body once, variable not set.
pub record OneRepeat (n : ℕ) (low high : Expr) (is : Items) (at : List ℕ) (names : Names) (left : ℕ) : Type 0 where
  pub none : (l h : ℤ) → value names low ≡ known l → value names high ≡ known h → int_lt l h ≡ false
      → collect_inner (repeat n low high is) at names left ≡ collect_none left
  pub fitting : (l h : ℤ) (rounds : ℕ) → value names low ≡ known l → value names high ≡ known h → h -ℤ l ≡ pos rounds → rounds ≤ left
      → collect_inner (repeat n low high is) at names left ≡ spent rounds (rounds_below (λ i. collect_items is at 0 ((n, l +ℤ pos i) ∷ names)) (left - rounds) rounds)
  pub too_many : (l h : ℤ) (rounds : ℕ) → value names low ≡ known l → value names high ≡ known h → h -ℤ l ≡ pos rounds → left < rounds
      → collect_inner (repeat n low high is) at names left ≡ collect_items is at 0 names left
  pub no_bound : ((l h : ℤ) → value names low ≡ known l → value names high ≡ known h → ⊥)
      → collect_inner (repeat n low high is) at names left ≡ collect_items is at 0 names left

-- 01, The collected item: `constif` without a value takes `else`.
pub record OneConstIf (c : Expr) (is js : Items) (at : List ℕ) (names : Names) (left : ℕ) : Type 0 where
  pub then_part : (x : ℤ) → value names c ≡ known x → is_zero x ≡ false → collect_inner (const_if c is js) at names left ≡ collect_items is (0 ∷ at) 0 names left
  pub else_part : (x : ℤ) → value names c ≡ known x → is_zero x ≡ true → collect_inner (const_if c is js) at names left ≡ collect_items js (1 ∷ at) 0 names left
  pub no_value : ((x : ℤ) → value names c ≡ known x → ⊥) → collect_inner (const_if c is js) at names left ≡ collect_items js (1 ∷ at) 0 names left

-- The theorem. 01: The collected item. `own_value`, `other_values`: a value that is set for a name is that name's, and the others have what
-- they had. `each_item`: items are collected one after the other, all with the same names. `beside`: so the variable's old value returns
-- afterwards: all lines that stand in one list of items, also behind a repeat, have the names with which the list was collected.
pub record Collecting : Type 0 where
  pub modules : (vals : Names) (m : Module) → OneCollection vals m
  pub repeats : (n : ℕ) (low high : Expr) (is : Items) (at : List ℕ) (names : Names) (left : ℕ) → OneRepeat n low high is at names left
  pub const_ifs : (c : Expr) (is js : Items) (at : List ℕ) (names : Names) (left : ℕ) → OneConstIf c is js at names left
  pub own_value : (n : ℕ) (v : ℤ) (names : Names) → value ((n, v) ∷ names) (name n) ≡ known v
  pub other_values : (n k : ℕ) (v : ℤ) (names : Names) → ¬ (k ≡ n) → value ((n, v) ∷ names) (name k) ≡ value names (name k)
  pub each_item : (i : Item) (is : Items) (at : List ℕ) (k : ℕ) (names : Names) (left : ℕ)
      → collect_items (Items.more i is) at k names left
      ≡ then_collect (line_then (record { at = k ∷ at; item = i; names = names }) (collect_inner i (k ∷ at) names left)) (λ left'. collect_items is at (suc k) names left')
  pub beside : (is : Items) (at : List ℕ) (k : ℕ) (names : Names) (left : ℕ) (c : Collected) (j : ℕ)
      → c ∈ (collect_items is at k names left).lines → c.at ≡ j ∷ at → c.names ≡ names
