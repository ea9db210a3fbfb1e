-- An empty graph, and limits that stay passed when more heads come. Assumes nothing.
use mathlib.Core.Path.{◌≡◌, refl}
use mathlib.Core.Bool.{Bool, true, false, ◌||◌}
use mathlib.Core.Logic.{◌⊎◌, inl, inr}
use mathlib.Core.List.Memᴰ
use mathlib.Core.List.{List, [], ◌∷◌, ◌++◌}
use Prim.Native.Nat.{ℕ, ◌+◌, ◌≤◌, ◌<◌}
use native.Mathlib.Omega.{arith}
use lib.ListN.{length, get_or, replicate, length-replicate, get_or-replicate}
use lib.Dec.{ltb}
use borrow.Author.Tests.{lt-ltb, ltb-true}
use Rattle.spec.specs.Graph.{◌∈◌}
use Rattle.spec.specs.DepthFirst.{each_once}
use Rattle.spec.specs.Edge.{Node, same_node, Head, all_nodes, all_reads, reads_of, edges_from, edge_count, over_graph}
use Rattle.spec.proofs.Lists.{once_length}
use Rattle.spec.proofs.Nodes.{same_node_yes, same_node_refl, each_once_in, in_each_once, each_once_once, reads_of_read, read_reads_of, reads_of_once, or_parts}
use Rattle.spec.proofs.HeadLaws.{true_left, true_right}
use Rattle.graph.specs.Table.{nodes_below, newest, edges_below, out}
use Rattle.graph.specs.Stands.{Stands, head_of}
use Rattle.graph.proofs.Heads.{edge_count_by, all_nodes_append, all_reads_append, more_nodes, nodes_more, more_own, more_other}
use Rattle.graph.proofs.Words.{same_no}

-- words that are all 0 are the graph of no heads
pub stands_empty : (n : ℕ) → 15874 ≤ n → Stands (replicate n 0) []
unfolding newest nodes_below edges_below out all_nodes edges_from
stands_empty n h = record {
  sized = omega (arith, length-replicate {A = ℕ} n 0);
  few = omega (arith, zero_at 0 (omega arith));
  once = rw (zero_at 0 (omega arith)) tt;
  listed = λ m i. rw (zero_at 0 (omega arith)) at i;
  all = λ m i. absurd (Memᴰ.not-nil i);
  started = λ i l. absurd (omega (arith, zero_at 0 (omega arith)));
  headed = λ i l. absurd (omega (arith, zero_at 0 (omega arith)));
  linked = record {
    room = omega (arith, length-replicate {A = ℕ} n 0);
    few = omega (arith, zero_at 1 (omega arith));
    sources = λ i l. absurd (omega (arith, zero_at 1 (omega arith)));
    firsts = λ s l. rw (zero_at 1 (omega arith)) (zero_at (3074 + s) (omega arith));
    links = λ i l. absurd (omega (arith, zero_at 1 (omega arith)));
  };
  ends = λ i l. absurd (omega (arith, zero_at 1 (omega arith)));
  reads_once = λ i. rw (zero_at 1 (omega arith)) tt;
  reads = λ i j l m. absurd (omega (arith, zero_at 0 (omega arith)));
  edge_count = rw (zero_at 0 (omega arith)) (zero_at 1 (omega arith));
}
  where
    zero_at : (i : ℕ) → i < n → ◌≡◌ {A = ℕ} (get_or (replicate n 0) i 0) 0
    zero_at i l = get_or-replicate {A = ℕ} n i 0 0 l

-- more nodes and more reads
module _ (hs ks : List Head) (nodes_in : (n : Node) → n ∈ all_nodes hs → n ∈ all_nodes ks) (reads_in : (n m : Node) → m ∈ all_reads hs n → m ∈ all_reads ks n) where
  nodes_more' : length (each_once same_node (all_nodes hs)) ≤ length (each_once same_node (all_nodes ks))
  nodes_more' = once_length (each_once same_node (all_nodes hs)) (each_once same_node (all_nodes ks)) (each_once_once same_node same_node_yes same_node_refl (all_nodes hs))
      (λ n i. in_each_once same_node same_node_yes same_node_refl (all_nodes ks) (nodes_in n (each_once_in same_node same_node_yes same_node_refl (all_nodes hs) i)))

  edges_more : (l : List Node) → edges_from hs l ≤ edges_from ks l
  unfolding edges_from
  edges_more [] = omega arith
  edges_more (n ∷ l) =
      let r = edges_more l in
      let c = once_length (reads_of hs n) (reads_of ks n) (reads_of_once hs n) (λ m i. read_reads_of ks n (reads_in n m (reads_of_read hs n i))) in
      omega (arith, r)

  edge_count_more : edge_count hs ≤ edge_count ks
  edge_count_more =
      let l = each_once same_node (all_nodes ks) in
      let o = each_once_once same_node same_node_yes same_node_refl (all_nodes ks) in
      let a = edge_count_by hs l o (λ n i. in_each_once same_node same_node_yes same_node_refl (all_nodes ks) (nodes_in n i)) in
      let b = edge_count_by ks l o (λ n i. in_each_once same_node same_node_yes same_node_refl (all_nodes ks) i) in
      let c = edges_more l in
      omega (arith, a, b)

  -- a limit that is passed stays passed
  pub over_more : over_graph hs ≡ true → over_graph ks ≡ true
  unfolding over_graph
  over_more e = go (or_parts (ltb 512 (length (each_once same_node (all_nodes hs)))) (ltb 4096 (edge_count hs)) e)
    where
      go : (ltb 512 (length (each_once same_node (all_nodes hs))) ≡ true) ⊎ (ltb 4096 (edge_count hs) ≡ true)
          → ltb 512 (length (each_once same_node (all_nodes ks))) || ltb 4096 (edge_count ks) ≡ true
      go (inl f) =
          let h = ltb-true 512 (length (each_once same_node (all_nodes hs))) f in
          true_left (ltb 512 (length (each_once same_node (all_nodes ks)))) (ltb 4096 (edge_count ks)) (lt-ltb 512 (length (each_once same_node (all_nodes ks))) (omega (arith, nodes_more')))
      go (inr f) =
          let h = ltb-true 4096 (edge_count hs) f in
          true_right (ltb 512 (length (each_once same_node (all_nodes ks)))) (ltb 4096 (edge_count ks)) (lt-ltb 4096 (edge_count ks) (omega (arith, edge_count_more)))

-- with more heads behind
pub over_behind : (hs ks : List Head) → over_graph hs ≡ true → over_graph (hs ++ ks) ≡ true
over_behind hs ks = over_more hs (hs ++ ks) (λ n i. rw (all_nodes_append hs ks) (Memᴰ.append_left (all_nodes ks) i)) (λ n m i. rw (all_reads_append n hs ks) (Memᴰ.append_left (all_reads ks n) i))

-- with more reads of the last head
pub over_reads : (hs : List Head) (x : Node) (start : ℕ) (rs qs : List Node) → over_graph (hs ++ head_of x start rs ∷ []) ≡ true → over_graph (hs ++ head_of x start (rs ++ qs) ∷ []) ≡ true
over_reads hs x start rs qs = over_more (hs ++ head_of x start rs ∷ []) (hs ++ head_of x start (rs ++ qs) ∷ []) nodes_in (λ n m. reads_in n m (same_node n x) refl)
  where
    wider : (n : Node) → (n ∈ all_nodes hs) ⊎ ((n ≡ x) ⊎ (n ∈ rs)) → (n ∈ all_nodes hs) ⊎ ((n ≡ x) ⊎ (n ∈ (rs ++ qs)))
    wider n (inl i) = inl i
    wider n (inr (inl e)) = inr (inl e)
    wider n (inr (inr i)) = inr (inr (Memᴰ.append_left qs i))

    nodes_in : (n : Node) → n ∈ all_nodes (hs ++ head_of x start rs ∷ []) → n ∈ all_nodes (hs ++ head_of x start (rs ++ qs) ∷ [])
    nodes_in n i = nodes_more hs (head_of x start (rs ++ qs)) n (wider n (more_nodes hs (head_of x start rs) n i))

    own : (m : Node) → (m ∈ rs) ⊎ (m ∈ []) → m ∈ (rs ++ qs ++ [])
    own m (inl i) = Memᴰ.append_left [] (Memᴰ.append_left qs i)
    own m (inr i) = absurd (Memᴰ.not-nil i)

    both : (m : Node) → (m ∈ all_reads hs x) ⊎ (m ∈ (rs ++ [])) → m ∈ (all_reads hs x ++ (rs ++ qs ++ []))
    both m (inl i) = Memᴰ.append_left (rs ++ qs ++ []) i
    both m (inr i) = Memᴰ.append_right (all_reads hs x) (own m (Memᴰ.append_cases rs i))

    reads_in : (n m : Node) (v : Bool) → same_node n x ≡ v → m ∈ all_reads (hs ++ head_of x start rs ∷ []) n → m ∈ all_reads (hs ++ head_of x start (rs ++ qs) ∷ []) n
    reads_in n m true e i =
        let d = same_node_yes n x e in
        let j : m ∈ all_reads (hs ++ head_of x start rs ∷ []) x = rw d at i in
        rw (d, more_own hs (head_of x start (rs ++ qs))) (both m (Memᴰ.append_cases (all_reads hs x) (rw (more_own hs (head_of x start rs)) at j)))
    reads_in n m false e i = let d = same_no n x e in rw (more_other hs (head_of x start (rs ++ qs)) n d) (rw (more_other hs (head_of x start rs) n d) at i)
