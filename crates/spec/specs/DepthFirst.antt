-- Depth-first search of a directed graph for closed walks, with no text in it. 01: The walk.
-- To a reader: definitions to believe; search is pinned by FirstWays.ByWays and DepthFirstFinds.FindsLoops (proved in proofs/FirstWays, proofs/DepthFirst).
use Prim.Native.Nat.{ℕ, zero, suc}
use Rattle.std.specs.Prelude.{Bool}
use Rattle.std.proofs.Math.Bool.{true, false}
use mathlib.Core.List.{List, [], ◌∷◌, ◌++◌}

-- 01, The walk: what the search has done: the nodes left for good, the last left first; and the walks reported, in order.
pub record Searched (A : Type 0) : Type 0 where
  pub left : List A
  pub reports : List (List A)

-- 01, The walk: next nodes are taken last first.
unfoldable pub backwards : {A : Type 0} → List A → List A
backwards [] = []
backwards (a ∷ l) = backwards l ++ (a ∷ [])

-- 01, The walk: roots, and next nodes, one after another.
unfoldable pub in_turn : {A : Type 0} → (A → Searched A → Searched A) → List A → Searched A → Searched A
in_turn visit [] st = st
in_turn visit (n ∷ l) st = in_turn visit l (visit n st)

module _ {A : Type 0} (same : A → A → Bool) where
  -- 01, The walk: whether a node is one of these.
  unfoldable pub among : A → List A → Bool
  among a [] = false
  among a (b ∷ l) = elim (same a b) [ true ↦ true | false ↦ among a l ]

  -- 01, Refused because of the state: different members of a list, each once.
  unfoldable pub each_once : List A → List A
  each_once [] = []
  each_once (a ∷ l) = elim (among a l) [ true ↦ each_once l | false ↦ a ∷ each_once l ]

  -- 01, The report: `(walk NODE ...)`: the open path from n on, in the order of entry; `path` has the last entered first.
  unfoldable pub back_to : A → List A → List A → List A
  back_to n [] walk = walk
  back_to n (p ∷ path) walk = elim (same n p) [ true ↦ p ∷ walk | false ↦ back_to n path (p ∷ walk) ]

module _ {A : Type 0} (same : A → A → Bool) (next : A → List A) where
  -- 01, The walk: a step to n: a report where n is on the open path, nothing where n was left before; else n is entered, its next
  -- nodes are taken last first, and n is left.
  unfoldable pub step : ℕ → List A → A → Searched A → Searched A
  unfolding among back_to in_turn backwards
  step zero path n st = st
  step (suc fuel) path n st =
      elim (among same n path) [
        | true ↦ record { left = st.left; reports = st.reports ++ (back_to same n path (n ∷ []) ∷ []) }
        | false ↦ elim (among same n st.left) [
          | true ↦ st
          | false ↦
              let done = in_turn (step fuel (n ∷ path)) (backwards (next n)) st in
              record { left = n ∷ done.left; reports = done.reports }
        ]
      ]

  -- 01, The walk: from each root in turn; `fuel` is above the number of nodes.
  unfoldable pub search : ℕ → List A → Searched A
  unfolding step in_turn
  search fuel roots = in_turn (step fuel []) roots (record { left = []; reports = [] })
