-- What the words of a graph's slice say: nodes, and a table of edges with the edges of each source linked.
-- 01: The value; The edge; The walk; Refused because of the state.
-- To a reader: definitions that contracts of this and other crates cite; each such contract is proved; check_drivers' own promise cites none of them.
use Rattle.std.specs.Prelude.{◌≡◌, Bool, true, false, ◌&&◌, List, [], ◌∷◌, ℕ, zero, suc, ◌+◌, ◌-◌, ◌*◌, ◌%◌, ◌<◌, ◌≤◌, length, get_or, set, eqb, ltb, ℤ, pos, negsuc}
use Rattle.std.proofs.Math.Option.{some, none}
use Rattle.spec.specs.Edge.{Node, signal, inst_out, same_node}
use Rattle.graph.specs.declared.Node as declared
use Rattle.graph.specs.declared.Node.TheVariants as nodes

-- 01, The value: the whole number that is held as a number 2147483648 above it
abbrev pub unbiased : ℕ → ℤ
unbiased x = elim (ltb x 2147483648) [ true ↦ negsuc (2147483647 - x) | false ↦ pos (x - 2147483648) ]

-- 01, The edge: the node that the code's value means
abbrev pub node_of : declared.Node → Node
node_of (nodes.Signal n) = signal n
node_of (nodes.Output i o) = inst_out i none o
node_of (nodes.OutputAt i x o) = inst_out i (some (unbiased x)) o

-- 01, The edge: words of a graph: 0 how many nodes, 1 how many edges; then 512 of each: kind (0 a signal, 1 an output with no index,
-- else with one), name, index, output, START, headed or not; then at 3074 the edges.

-- 01, The edge: how many nodes there are
abbrev pub count : List ℕ → ℕ
count g = get_or g 0 0

-- 01, The edge: how many edges there are
abbrev pub edge_total : List ℕ → ℕ
edge_total g = get_or g 1 0

-- 01, The edge: the node that four words say: kind, name, index, output
abbrev pub node_words : ℕ → ℕ → ℕ → ℕ → Node
node_words k n x o =
    elim (eqb k 0) [ true ↦ signal n | false ↦ elim (eqb k 1) [ true ↦ inst_out n none o | false ↦ inst_out n (some (unbiased x)) o ] ]

-- 01, The edge: the node i
unfoldable pub node_at : List ℕ → ℕ → Node
node_at g i = node_words (get_or g (2 + i) 0) (get_or g (514 + i) 0) (get_or g (1026 + i) 0) (get_or g (1538 + i) 0)

-- 01, The walk: the START of the node i
abbrev pub start_at : List ℕ → ℕ → ℕ
start_at g i = get_or g (2050 + i) 0

-- 01, The walk: the word that says whether the node i is headed: 0 says that it is not
abbrev pub headed_at : List ℕ → ℕ → ℕ
headed_at g i = get_or g (2562 + i) 0

-- 01, The edge: the nodes with numbers below k, the last first
unfoldable pub nodes_below : List ℕ → ℕ → List Node
nodes_below g zero = []
nodes_below g (suc k) = node_at g k ∷ nodes_below g k

-- 01, The edge: words of a table of edges at b: 512 of FIRST; then 4,096 of each: source, target, LINK. FIRST and LINK are 1 more than
-- the number of an edge, the newest of that source and the one before it, or 0.

-- 01, The edge: the source of the edge k in the table at b, as a node's number
abbrev pub source : List ℕ → ℕ → ℕ → ℕ
source g b k = get_or g (b + 512 + k) 0

-- 01, The edge: the target of the edge k in the table at b, as a node's number
abbrev pub target : List ℕ → ℕ → ℕ → ℕ
target g b k = get_or g (b + 4608 + k) 0

-- 01, The edge: the LINK of the edge k in the table at b
abbrev pub link : List ℕ → ℕ → ℕ → ℕ
link g b k = get_or g (b + 8704 + k) 0

-- 01, The edge: what following the links from the place e finds, whatever the words, with f steps left: is t the target of an edge on the way?
-- The place 0 ends it, and so does a LINK that is not below its own place
unfoldable pub links_find : List ℕ → ℕ → ℕ → ℕ → ℕ → Bool
links_find g b t zero e = false
links_find g b t (suc f) zero = false
links_find g b t (suc f) (suc k) =
    elim (eqb (target g b k) t) [
      | true ↦ true
      | false ↦ elim (ltb (link g b k) (suc k)) [ true ↦ links_find g b t f (link g b k) | false ↦ false ]
    ]

-- 01, The edge: is there an edge from s to t in the table at b, as far as the links of s say it? A place is followed by a smaller one, so that the
-- first place is as many steps as are needed
unfoldable pub edge_there : List ℕ → ℕ → ℕ → ℕ → Bool
edge_there g b s t = links_find g b t (get_or g (b + s) 0) (get_or g (b + s) 0)

-- 01, The edge: 1 more than the number of the newest edge of s below k, or 0
unfoldable pub newest : List ℕ → ℕ → ℕ → ℕ → ℕ
newest g b s zero = 0
newest g b s (suc k) = elim (eqb (source g b k) s) [ true ↦ suc k | false ↦ newest g b s k ]

-- 01, The edge: the edges with numbers below k, as pairs of source and target, the newest first
unfoldable pub edges_below : List ℕ → ℕ → ℕ → List (ℕ × ℕ)
edges_below g b zero = []
edges_below g b (suc k) = (source g b k, target g b k) ∷ edges_below g b k

-- 01, The edge: the targets of the edges of s, in the order of the list
unfoldable pub out : ℕ → List (ℕ × ℕ) → List ℕ
out s [] = []
out s (e ∷ es) = elim (eqb e.0 s) [ true ↦ e.1 ∷ out s es | false ↦ out s es ]

-- 01, The edge; Refused because of the state: k edges, at most 4,096, stand in the table at b, their sources below 512, the edges of
-- each source linked
pub record Linked (g : List ℕ) (b k : ℕ) : Type 0 where
  pub room : b + 12800 ≤ length g
  pub few : k ≤ 4096
  pub sources : (i : ℕ) → i < k → source g b i < 512
  pub firsts : (s : ℕ) → s < 512 → get_or g (b + s) 0 ≡ newest g b s k
  pub links : (i : ℕ) → i < k → link g b i ≡ newest g b (source g b i) i

-- 01, The edge: one edge more in the table at b: the edge k from s to t, the newest of s
unfoldable pub pushed : List ℕ → ℕ → ℕ → ℕ → ℕ → List ℕ
pushed g b k s t = set (set (set (set g (b + 512 + k) s) (b + 4608 + k) t) (b + 8704 + k) (get_or g (b + s) 0)) (b + s) (k + 1)

-- 01, The edge: one node more, of four words, with START 0 and not headed
unfoldable pub stored : List ℕ → ℕ → ℕ → ℕ → ℕ → List ℕ
stored g k n x o =
    let i = count g in
    set (set (set (set (set (set (set g (2 + i) k) (514 + i) n) (1026 + i) x) (1538 + i) o) (2050 + i) 0) (2562 + i) 0) 0 (i + 1)

-- 01, The edge: what looking for a node gives: the number of the first that is the same, or the count where none is
pub record Found (g : List ℕ) (n : Node) (r : ℕ) : Type 0 where
  pub within : r ≤ count g
  pub before : (i : ℕ) → i < r → ¬ (node_at g i ≡ n)
  pub here : r < count g → node_at g r ≡ n

-- 01, The edge: words behind a graph's own, at 15874: 1,024 hints, each the number that a node of that place had when it was last headed or read, or
-- the count where there was no room. A hint may be any number, and is only believed where that node is the same.

-- 01, The edge: the place of a node's hint, of 1,024
abbrev pub slot_of : declared.Node → ℕ
slot_of (nodes.Signal a) = a % 1024
slot_of (nodes.Output a o) = (a % 1024 * 1021 + o % 1024 * 329 + 600) % 1024
slot_of (nodes.OutputAt a x o) = (a % 1024 * 1021 + o % 1024 * 329 + x % 1024 * 641 + 600) % 1024

-- 01, The edge: the hint of a node, 0 where the slice is too short for it
abbrev pub hint : List ℕ → declared.Node → ℕ
hint g n = get_or g (15874 + slot_of n) 0

-- 01, The edge: the first of the k nodes from i on that is n, or the number behind them where none is
unfoldable pub first_from : List ℕ → Node → ℕ → ℕ → ℕ
first_from g n zero i = i
first_from g n (suc k) i = elim (same_node (node_at g i) n) [ true ↦ i | false ↦ first_from g n k (suc i) ]

-- 01, The edge: the number of the node n, whatever the words: its hint, where that is the number of a node and that node is n; else the first node that is
-- n, or the count where none is. A graph has each node once
unfoldable pub number_in : List ℕ → declared.Node → ℕ
number_in g n =
    elim (ltb (hint g n) (count g) && same_node (node_at g (hint g n)) (node_of n)) [ true ↦ hint g n | false ↦ first_from g (node_of n) (count g) 0 ]

-- 01, The walk: the place e in the links of s: 0, or 1 more than the number of an edge of s; it is at most n
pub record OnLinks (g : List ℕ) (b s n e : ℕ) : Type 0 where
  pub within : e ≤ n
  pub own : (k : ℕ) → e ≡ suc k → source g b k ≡ s
