-- Limits once passed stay passed: what is added never makes a table or a graph smaller.
-- Assumes nothing.
use mathlib.Core.Path.{◌≡◌, refl, sym, ◌∙◌, ap}
use mathlib.Core.Bool.{Bool, true, false, ◌||◌, or-true}
use mathlib.Core.Logic.{◌⊎◌, inl, inr}
use mathlib.Core.List.Memᴰ
use mathlib.Core.List.{List, [], ◌∷◌, ◌++◌, append_assoc}
use Prim.Native.Nat.{ℕ, ◌+◌, ◌≤◌}
use native.Mathlib.Omega.{arith}
use lib.ListN.{length}
use lib.Dec.{ltb}
use borrow.Author.Tests.{ltb-true, lt-ltb}
use Rattle.spec.specs.DepthFirst.{each_once}
use Rattle.spec.specs.Graph.{◌∈◌}
use Rattle.spec.specs.Edge.{Node, same_node, Head, all_nodes, head_nodes, reads_of, edges_from, edge_count, node_limit, edge_limit, over_graph}
use Rattle.spec.specs.Check.{site_limit, pair_limit}
use Rattle.spec.proofs.Lists.{once_length}
use Rattle.spec.proofs.Nodes.{or_parts, same_node_yes, same_node_refl, each_once_in, in_each_once, each_once_once, read_by, reads_all, head_in, head_by, reads_of_once, reads_of_read, read_reads_of}
use Rattle.walk.specs.Walk.{Own, over_own}
use Rattle.walk.proofs.Tables.{total, total_within}

-- a test that implies another adds nothing to it
pub or_covers : (a b : Bool) → (a ≡ true → b ≡ true) → a || b ≡ b
or_covers true b h = sym (h refl)
or_covers false b h = refl

-- a number that grows stays above a limit
pub stays_above : (limit a b : ℕ) → a ≤ b → ltb limit a ≡ true → ltb limit b ≡ true
stays_above limit a b h e = let l = ltb-true limit a e in lt-ltb limit b (omega arith)

either_stays : (a b c d : Bool) → (a ≡ true → c ≡ true) → (b ≡ true → d ≡ true) → a || b ≡ true → c || d ≡ true
either_stays a b c d f g h = go (or_parts a b h)
  where
    go : (a ≡ true) ⊎ (b ≡ true) → c || d ≡ true
    go (inl e) = rw (f e)
    go (inr e) = rw (g e) (or-true c)

-- ---- the graph

pub nodes_append : (a b : List Head) → all_nodes (a ++ b) ≡ all_nodes a ++ all_nodes b
unfolding all_nodes
nodes_append [] b = refl
nodes_append (h ∷ a) b = ap (λ z. h.node ∷ h.reads ++ z) (nodes_append a b) ∙ ap (λ z. h.node ∷ z) (sym (append_assoc h.reads (all_nodes a) (all_nodes b)))

module _ (a b : List Head) where
  node_kept : (n : Node) → n ∈ each_once same_node (all_nodes a) → n ∈ each_once same_node (all_nodes (a ++ b))
  node_kept n i =
      in_each_once same_node same_node_yes same_node_refl (all_nodes (a ++ b))
      (rw (nodes_append a b) (Memᴰ.append_left (all_nodes b) (each_once_in same_node same_node_yes same_node_refl (all_nodes a) i)))

  nodes_grow : length (each_once same_node (all_nodes a)) ≤ length (each_once same_node (all_nodes (a ++ b)))
  nodes_grow =
      once_length (each_once same_node (all_nodes a)) (each_once same_node (all_nodes (a ++ b)))
      (each_once_once same_node same_node_yes same_node_refl (all_nodes a)) node_kept

  read_kept : (n x : Node) → x ∈ reads_of a n → x ∈ reads_of (a ++ b) n
  read_kept n x i =
      let r = read_by a n (reads_of_read a n i) in
      read_reads_of (a ++ b) n (reads_all (a ++ b) n (Memᴰ.append_left b r.1) r.2 r.3)

  reads_grow : (n : Node) → length (reads_of a n) ≤ length (reads_of (a ++ b) n)
  reads_grow n = once_length (reads_of a n) (reads_of (a ++ b) n) (reads_of_once a n) (read_kept n)

  headed_kept : (n : Node) → n ∈ each_once same_node (head_nodes a) → n ∈ each_once same_node (head_nodes (a ++ b))
  headed_kept n i =
      let r = head_by a (each_once_in same_node same_node_yes same_node_refl (head_nodes a) i) in
      in_each_once same_node same_node_yes same_node_refl (head_nodes (a ++ b)) (go r.0 r.2 (head_in (a ++ b) (Memᴰ.append_left b r.1)))
    where
      go : (h : Head) → h.node ≡ n → h.node ∈ head_nodes (a ++ b) → n ∈ head_nodes (a ++ b)
      go h e m = rw e at m

  edges_pointwise : (ns : List Node) → edges_from a ns ≤ edges_from (a ++ b) ns
  unfolding edges_from
  edges_pointwise [] = omega arith
  edges_pointwise (n ∷ ns) = let r = edges_pointwise ns in let s = reads_grow n in omega arith

edges_total : (hs : List Head) (ns : List Node) → edges_from hs ns ≡ total (λ n. length (reads_of hs n)) ns
unfolding edges_from total
edges_total hs [] = refl
edges_total hs (n ∷ ns) = ap (λ z. length (reads_of hs n) + z) (edges_total hs ns)

edges_grow : (a b : List Head) → edge_count a ≤ edge_count (a ++ b)
unfolding edge_count
edges_grow a b =
    let ns = each_once same_node (head_nodes a) in
    let ms = each_once same_node (head_nodes (a ++ b)) in
    let p = edges_pointwise a b ns in
    let q = total_within (λ n. length (reads_of (a ++ b) n)) ns ms (each_once_once same_node same_node_yes same_node_refl (head_nodes a)) (headed_kept a b) in
    omega (arith, edges_total (a ++ b) ns, edges_total (a ++ b) ms)

-- A graph that passes a limit passes it with more heads too.
pub graph_stays : (a b : List Head) → over_graph a ≡ true → over_graph (a ++ b) ≡ true
unfolding over_graph
graph_stays a b =
    either_stays (ltb node_limit (length (each_once same_node (all_nodes a)))) (ltb edge_limit (edge_count a))
    (ltb node_limit (length (each_once same_node (all_nodes (a ++ b))))) (ltb edge_limit (edge_count (a ++ b)))
    (stays_above node_limit (length (each_once same_node (all_nodes a))) (length (each_once same_node (all_nodes (a ++ b)))) (nodes_grow a b))
    (stays_above edge_limit (edge_count a) (edge_count (a ++ b)) (edges_grow a b))

-- ---- the own tables

-- no fewer sites and pairs
abbrev pub Grows : Own → Own → Type 0
Grows o p = (length o.sites ≤ length p.sites) × (length o.pairs ≤ length p.pairs)

pub own_stays : (o p : Own) → Grows o p → over_own o ≡ true → over_own p ≡ true
unfolding over_own
own_stays o p g =
    either_stays (ltb site_limit (length o.sites)) (ltb pair_limit (length o.pairs)) (ltb site_limit (length p.sites)) (ltb pair_limit (length p.pairs))
    (stays_above site_limit (length o.sites) (length p.sites) g.0) (stays_above pair_limit (length o.pairs) (length p.pairs) g.1)
