-- The heads for which a graph's slice stands. 01: The edge; The walk; Refused because of the state;
-- Worthless checks; Forms for specific places.
-- To a reader: definitions that contracts of this and other crates cite; each such contract is proved; check_drivers' own promise needs only graph_places.
use Rattle.std.specs.Prelude.{◌≡◌, true, false, List, [], ◌∷◌, ◌++◌, ℕ, ◌<◌, ◌≤◌, length, eqb, ltb, Result, Ok, Err}
use Rattle.spec.specs.Graph.{◌∈◌, Once}
use Rattle.spec.specs.DepthFirst.{among}
use Rattle.spec.specs.Edge.{Node, same_node, Head, all_nodes, head_nodes, all_reads, edges_from, over_graph}
use Rattle.spec.specs.FindCycles.{start_of}
use Rattle.spec.specs.Cleared.{Cleared, ByNumber}
use Rattle.graph.specs.Table.{count, edge_total, node_at, start_at, headed_at, nodes_below, source, target, edges_below, out, Linked}
use Rattle.graph.specs.declared.Full.{Full}

-- 01, The edge: the nodes, the last first
abbrev pub nodes : List ℕ → List Node
nodes g = nodes_below g (count g)

-- 01, The edge: the edges, as pairs of node numbers, the newest first
abbrev pub edges : List ℕ → List (ℕ × ℕ)
edges g = edges_below g 3074 (edge_total g)

-- 01, Refused because of the state: the places of a graph: two counts, seven for each of 512 nodes and three for each of 4,096 edges
abbrev pub graph_places : ℕ
graph_places = 15874

-- 01, The edge; The walk; Refused because of the state: g has the nodes of the heads hs and those of xs, each once and at most 512,
-- with their STARTs and whether they are headed; and the reads of hs, each once and at most 4,096
pub record Holds (g : List ℕ) (hs : List Head) (xs : List Node) : Type 0 where
  pub sized : graph_places ≤ length g
  pub few : count g ≤ 512
  pub once : Once (nodes g)
  pub listed : (n : Node) → n ∈ nodes g → n ∈ (xs ++ all_nodes hs)
  pub all : (n : Node) → n ∈ (xs ++ all_nodes hs) → n ∈ nodes g
  pub started : (i : ℕ) → i < count g → start_at g i ≡ start_of hs (node_at g i)
  pub headed : (i : ℕ) → i < count g → among same_node (node_at g i) (head_nodes hs) ≡ ltb 0 (headed_at g i)
  pub linked : Linked g 3074 (edge_total g)
  pub ends : (k : ℕ) → k < edge_total g → (source g 3074 k < count g) × (target g 3074 k < count g)
  pub reads_once : (i : ℕ) → Once (out i (edges g))
  pub reads : (i j : ℕ) → i < count g → j < count g → among eqb j (out i (edges g)) ≡ among same_node (node_at g j) (all_reads hs (node_at g i))
  pub edge_count : edge_total g ≡ edges_from hs (nodes g)

-- 01, The edge: g is the graph of the heads hs
abbrev pub Stands : List ℕ → List Head → Type 0
Stands g hs = Holds g hs []

-- 01, The edge: the node i of g is n
pub record IsNode (g : List ℕ) (i : ℕ) (n : Node) : Type 0 where
  pub within : i < count g
  pub same : node_at g i ≡ n

-- 01, The edge: a head, by its parts
abbrev pub head_of : Node → ℕ → List Node → Head
head_of n start rs = record { node = n; start = start; reads = rs }

-- 01, The edge: g is the graph of the heads hs and then of a head of n, which has that START and reads rs so far; the node i is n
pub record Heading (g : List ℕ) (hs : List Head) (n : Node) (start : ℕ) (rs : List Node) (i : ℕ) : Type 0 where
  pub stands : Stands g (hs ++ head_of n start rs ∷ [])
  pub node : IsNode g i n

-- 01, Refused because of the state: the answer where a limit is passed
abbrev pub full : Result ℕ Full
full = Err (record {})

-- 01, The edge; Refused because of the state: what finding or adding the node n for the heads hs leaves: it is there, and every node
-- has its number still; or there are 512 nodes and it is none of them
abbrev pub Got : Result ℕ Full → List ℕ → List ℕ → List Head → Node → Type 0
Got (Ok i) g g' hs n = Holds g' hs (n ∷ []) × IsNode g' i n × ((j : ℕ) (m : Node) → IsNode g j m → IsNode g' j m)
Got (Err e) g g' hs n = count g ≡ 512 × ¬ (n ∈ nodes g)

-- 01, The edge; Refused because of the state: what a head leaves: it stands behind the heads hs, with nothing read so far, and its node
-- is the node i; or a limit is passed
abbrev pub Headed : Result ℕ Full → List ℕ → List Head → Node → ℕ → Type 0
Headed (Ok i) g hs n start = Heading g hs n start [] i
Headed (Err e) g hs n start = over_graph (hs ++ head_of n start [] ∷ []) ≡ true

-- 01, The edge; Refused because of the state: what a read leaves: the head reads one node more; or a limit is passed
abbrev pub Read : Result ℕ Full → List ℕ → List Head → Node → ℕ → List Node → ℕ → Node → Type 0
Read (Ok j) g hs n start rs i m = Heading g hs n start (rs ++ m ∷ []) i
Read (Err e) g hs n start rs i m = over_graph (hs ++ head_of n start (rs ++ m ∷ []) ∷ []) ≡ true

-- 01, Forms for specific places; Refused because of the state: 01's number of each answer: 20 where a limit is passed, else 0
abbrev pub number_of : Result ℕ Full → ℕ
number_of (Ok i) = 0
number_of (Err e) = 20

-- 01, Refused because of the state: 01's number of a module with these heads, as far as its nodes and edges say it: 20 where they pass a limit
abbrev pub heads_number : List Head → ℕ
heads_number hs = elim (over_graph hs) [ true ↦ 20 | false ↦ 0 ]

-- 01, Refused because of the state; Worthless checks: where the number is not 0 every place of the slice is 0, whatever was lent
abbrev pub ClearedAtFull : Result ℕ Full → List ℕ → Type 0
ClearedAtFull a g = ByNumber (number_of a) (Unit {0}) (Cleared g)
