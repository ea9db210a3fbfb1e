-- What the search of a module's nodes finds. 01: The walk.
-- To a reader: a statement, proved in proofs/CyclesFound.
use Rattle.std.specs.Prelude.{◌≡◌, ◌↔◌, ◌⊎◌, true, List, []}
use Rattle.spec.specs.Graph.{◌∈◌, Once, ClosedWalk}
use Rattle.spec.specs.DepthFirstFinds.{Simple, Goes, InOrder}
use Rattle.spec.specs.Edge.{Node, Head, head_nodes}
use Rattle.spec.specs.FindCycles.{ascends, next_nodes, roots, find_cycles}
use Rattle.spec.specs.FirstWays.{ByWays}

-- 01, The walk: each step onto the open path is a report. `from`: the roots are the nodes that are headed. `next`: from a node to what its
-- lines read. `roots_ascend`, `next_ascend`: both ascend, each node once. `none`: no report just where there is no closed walk. `walks`:
-- each report is one, with no node twice but its first and last, and all its nodes are headed. `last_first`: next nodes are taken last
-- first: where two reports pass one node and go on from it differently, the earlier goes to the later of the two. `by_ways`: the reports
-- are the steps onto the first ways, in the order of these, which says nothing of a search. `only`: that leaves nothing open.
pub record CyclesFound (hs : List Head) : Type 0 where
  pub from : (n : Node) → n ∈ roots hs ↔ n ∈ head_nodes hs
  pub next : (n m : Node) → m ∈ next_nodes hs n ↔ ((h : Head) × (h ∈ hs) × (h.node ≡ n) × (m ∈ h.reads))
  pub roots_ascend : InOrder (λ m n. ascends hs m n ≡ true) (roots hs) × Once (roots hs)
  pub next_ascend : (n : Node) → InOrder (λ l m. ascends hs l m ≡ true) (next_nodes hs n) × Once (next_nodes hs n)
  pub none : find_cycles hs ≡ [] ↔ ((w : List Node) → ¬ ClosedWalk (next_nodes hs) w)
  pub walks : (w : List Node) → w ∈ find_cycles hs → ClosedWalk (next_nodes hs) w × Simple w × ((n : Node) → n ∈ w → n ∈ head_nodes hs)
  pub last_first : InOrder (λ a b. (u v w : Node) → Goes a u v → Goes b u w → (v ≡ w) ⊎ (ascends hs w v ≡ true)) (find_cycles hs)
  pub by_ways : ByWays (next_nodes hs) (roots hs) (find_cycles hs)
  pub only : (walks : List (List Node)) → ByWays (next_nodes hs) (roots hs) walks → walks ≡ find_cycles hs
