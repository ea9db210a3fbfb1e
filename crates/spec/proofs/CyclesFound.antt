-- The search of a module's nodes reports closed walks, and none just where there is none.
-- Assumes nothing.
use mathlib.Core.Path.{◌≡◌, refl}
use mathlib.Core.Bool.{true}
use mathlib.Core.List.Memᴰ
use mathlib.Core.List.{List, [], ◌∷◌}
use lib.ListN.{length}
use native.Mathlib.Omega.{arith}
use Prim.Native.Nat.{suc}
use Rattle.spec.specs.Graph.{◌∈◌, Once, Chain, last, ClosedWalk}
use Rattle.spec.specs.DepthFirst.{search}
use Rattle.spec.specs.DepthFirstFinds.{Topological, FindsLoops, Goes, InOrder, final_steps, cut}
use Rattle.spec.specs.Edge.{Node, Head, same_node, all_nodes, head_nodes}
use Rattle.spec.specs.FindCycles.{ascends, next_nodes, roots, find_cycles}
use Rattle.spec.specs.FirstWays.{ReportedBefore, ByWays}
use Rattle.spec.specs.CyclesFound.{CyclesFound}
use Rattle.spec.proofs.Walks.{reached_root}
use Rattle.spec.proofs.DepthFirst.{search_finds}
use Rattle.spec.proofs.LastFirst.{cycles_descend}
use Rattle.spec.proofs.FirstWays.{reported_one_way, one_final, own_final, search_by_ways, one_by_ways}
use Rattle.spec.proofs.FinalSteps.{Final}
use Rattle.spec.proofs.Nodes.{same_node_yes, same_node_refl, Rising, rising_once, next_read, next_by, next_once, next_rising, reader_headed, roots_headed, roots_rising, headed_all, read_all}

module _ (hs : List Head) where
  in_roots : (r : Node) → r ∈ roots hs → r ∈ all_nodes hs
  in_roots r i = headed_all hs ((roots_headed hs).0 i)

  in_next : (n m : Node) → n ∈ all_nodes hs → m ∈ next_nodes hs n → m ∈ all_nodes hs
  in_next n m i j = read_all hs n (next_read hs n j)

  roots_once : Once (roots hs)
  roots_once = rising_once hs (roots hs) (roots_rising hs)

  finds : FindsLoops same_node (next_nodes hs) (roots hs) (search same_node (next_nodes hs) (suc (length (all_nodes hs))) (roots hs))
  finds = search_finds same_node (next_nodes hs) same_node_yes same_node_refl (roots hs) (all_nodes hs) in_roots in_next (suc (length (all_nodes hs))) (omega arith)

  by_ways : ByWays (next_nodes hs) (roots hs) (find_cycles hs)
  unfolding find_cycles
  by_ways = search_by_ways same_node (next_nodes hs) same_node_yes same_node_refl (roots hs) (all_nodes hs) in_roots in_next roots_once (next_once hs) (suc (length (all_nodes hs))) (omega arith)

  pub loops_one_way : (a b : List Node) → ReportedBefore (next_nodes hs) (roots hs) a b → ReportedBefore (next_nodes hs) (roots hs) b a → ⊥
  loops_one_way = reported_one_way same_node (next_nodes hs) same_node_yes same_node_refl (roots hs) (all_nodes hs) in_roots in_next roots_once (next_once hs)

  -- each node of a walk but its last leads somewhere, and so is headed
  walk_headed : (s : Node) (l : List Node) → Chain (next_nodes hs) s l → last s l ∈ head_nodes hs → (n : Node) → n ∈ (s ∷ l) → n ∈ head_nodes hs
  walk_headed s [] c h n (Memᴰ.head e) = Memᴰ.cast e h
  walk_headed s [] c h n (Memᴰ.tail i) = absurd (Memᴰ.not-nil i)
  walk_headed s (t ∷ l) c h n (Memᴰ.head e) = Memᴰ.cast e (reader_headed hs s (next_read hs s c.0))
  walk_headed s (t ∷ l) c h n (Memᴰ.tail i) = walk_headed t l c.1 h n i

  closed_headed : (w : List Node) → ClosedWalk (next_nodes hs) w → (n : Node) → n ∈ w → n ∈ head_nodes hs
  closed_headed [] c n i = absurd c
  closed_headed (s ∷ []) c n i = absurd c
  closed_headed (s ∷ t ∷ l) c n i = walk_headed s (t ∷ l) c.0 (Memᴰ.cast c.1 (reader_headed hs s (next_read hs s c.0.0))) n i

  first : (w : List Node) → ClosedWalk (next_nodes hs) w → (n : Node) × (n ∈ w)
  first [] c = absurd c
  first (s ∷ l) c = (s, Memᴰ.head refl)

  in_order : (l : List Node) → Rising hs l → InOrder (λ m n. ascends hs m n ≡ true) l
  in_order [] r = tt
  in_order (n ∷ l) r = (r.0, in_order l r.1)

  -- without the final steps of its reports the nodes left stand in order, all from which a step goes among them
  pub left_order : (l : List Node) × Once l × ((n m : Node) → m ∈ next_nodes hs n → n ∈ l) × Topological (cut same_node (final_steps (find_cycles hs)) (next_nodes hs)) l
  unfolding find_cycles
  left_order = (
    (search same_node (next_nodes hs) (suc (length (all_nodes hs))) (roots hs)).left,
    finds.once,
    λ n m i. (finds.all n).1 (reached_root (next_nodes hs) ((roots_headed hs).1 (reader_headed hs n (next_read hs n i)))),
    finds.order,
  )

  -- and reports with one final step are one
  pub final_one : (w x : List Node) (s : Node × Node) → w ∈ find_cycles hs → x ∈ find_cycles hs → Final w s → Final x s → w ≡ x
  final_one w x s i j = one_final same_node (next_nodes hs) same_node_yes same_node_refl (roots hs) (all_nodes hs) in_roots in_next roots_once (next_once hs) w x s ((by_ways.exactly w).0 i) ((by_ways.exactly x).0 j)

  -- and a report goes over no final step but its own
  pub final_own : (w x : List Node) (u v : Node) → w ∈ find_cycles hs → x ∈ find_cycles hs → Goes w u v → Final x (u, v) → Final w (u, v)
  final_own w x u v i j = own_final same_node (next_nodes hs) same_node_yes same_node_refl (roots hs) (all_nodes hs) in_roots in_next roots_once (next_once hs) w x u v ((by_ways.exactly w).0 i) ((by_ways.exactly x).0 j)

  -- The theorem.
  pub cycles_found : CyclesFound hs
  unfolding find_cycles
  cycles_found = record {
    from = λ n. roots_headed hs;
    next = λ n m. next_by hs n;
    roots_ascend = (in_order (roots hs) (roots_rising hs), roots_once);
    next_ascend = λ n. (in_order (next_nodes hs n) (next_rising hs n), next_once hs n);
    none = (
      λ e w c. let (n, i) = first w c in finds.none.0 e w n c i (reached_root (next_nodes hs) ((roots_headed hs).1 (closed_headed w c n i))),
      λ h. finds.none.1 (λ w n c i r. h w c),
    );
    walks = λ w i. let k = finds.walks w i in (k.0, k.1, closed_headed w k.0);
    last_first = cycles_descend hs;
    by_ways = by_ways;
    only = λ walks h. one_by_ways same_node (next_nodes hs) same_node_yes same_node_refl (roots hs) (all_nodes hs) in_roots in_next roots_once (next_once hs) walks (find_cycles hs) h by_ways;
  }
