-- The search for cycles as a machine with a stack, one step at a time. 01: The walk.
-- To a reader: definitions that contracts cite through Cycles; that run gives the reports of DepthFirst.search is proved in proofs/Machine.
use Rattle.std.specs.Prelude.{Bool}
use Rattle.std.proofs.Math.Bool.{true, false}
use mathlib.Core.List.{List, [], ◌∷◌}
use Prim.Native.Nat.{ℕ, zero, suc}
use Rattle.spec.specs.DepthFirst.{among, back_to}

-- 01, The walk: the open path, the last entered first, of a stack of nodes with their next nodes that are still to be taken
unfoldable pub path : {A : Type 0} → List (A × List A) → List A
path [] = []
path (f ∷ fs) = f.0 ∷ path fs

module _ {A : Type 0} (same : A → A → Bool) (next : A → List A) (root : A → Bool) where
  -- 01, The walk: the reports that so many steps give, by the stack, the nodes still to come that may be roots, and the nodes left for
  -- good: a step takes a root or a next node or leaves a node, and one onto the open path is a report
  unfoldable pub run : ℕ → List (A × List A) → List A → List A → List (List A)
  unfolding path among back_to
  run zero fs rs l = []
  run (suc k) [] [] l = []
  run (suc k) [] (r ∷ rs) l =
      elim (root r) [
        | true ↦ elim (among same r l) [ true ↦ run k [] rs l | false ↦ run k ((r, next r) ∷ []) rs l ]
        | false ↦ run k [] rs l
      ]
  run (suc k) ((s, []) ∷ fs) rs l = run k fs rs (s ∷ l)
  run (suc k) ((s, t ∷ ts) ∷ fs) rs l =
      elim (among same t (s ∷ path fs)) [
        | true ↦ back_to same t (s ∷ path fs) (t ∷ []) ∷ run k ((s, ts) ∷ fs) rs l
        | false ↦ elim (among same t l) [ true ↦ run k ((s, ts) ∷ fs) rs l | false ↦ run k ((t, next t) ∷ (s, ts) ∷ fs) rs l ]
      ]
