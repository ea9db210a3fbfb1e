-- What a search for the inputs that an output reaches gives and leaves. 01: The edge; The walk; Refused because of the state; Worthless checks.
-- To a reader: definitions that contracts of this and other crates cite; each such contract is proved; check_drivers' own promise cites none of them.
use Rattle.std.specs.Prelude.{◌≡◌, Bool, true, false, ◌↔◌, ◌⊎◌, List, [], ◌∷◌, ℕ, zero, suc, ◌+◌, ◌<◌, ◌≤◌, length, get_or, set, eqb, ltb}
use Rattle.spec.specs.Graph.{◌∈◌, Once}
use Rattle.spec.specs.DepthFirst.{among}
use Rattle.spec.specs.DepthFirstFinds.{Reached}
use Rattle.spec.specs.Syntax.{Header}
use Rattle.spec.specs.Site.{kind_of}
use Rattle.spec.specs.Edge.{Head}
use Rattle.spec.specs.Summary.{is_input, inputs_reached}
use Rattle.graph.specs.Table.{count, target, link, Linked, edges_below, out, number_in}
use Rattle.graph.specs.declared.Node.TheVariants as nodes

-- 01, The edge; The walk: k words from b on, the last first
unfoldable pub words_below : List ℕ → ℕ → ℕ → List ℕ
words_below w b zero = []
words_below w b (suc k) = get_or w (b + k) 0 ∷ words_below w b k

-- 01, The edge: words of the work slice: from 2 on 512 marks, from 514 on the nodes reached, from 1026 on the names found.

-- 01, The edge: the first k nodes reached, the last first
abbrev pub reached : List ℕ → ℕ → List ℕ
reached w k = words_below w 514 k

-- 01, The edge: the first k names found, the last first
abbrev pub found : List ℕ → ℕ → List ℕ
found w k = words_below w 1026 k

-- 01, The edge: the work slice has room for the search, and no node is marked
pub record Clean (w : List ℕ) : Type 0 where
  pub sized : 1538 ≤ length w
  pub unmarked : (t : ℕ) → t < 512 → get_or w (2 + t) 0 ≡ 0

-- 01, The edge: k nodes are reached so far, at most 512, each once, their numbers below 512, and just they are marked; the work slice
-- has room
pub record Queued (w : List ℕ) (k : ℕ) : Type 0 where
  pub sized : 1538 ≤ length w
  pub few : k ≤ 512
  pub once : Once (reached w k)
  pub small : (t : ℕ) → t ∈ reached w k → t < 512
  pub marks : (t : ℕ) → t < 512 → among eqb t (reached w k) ≡ ltb 0 (get_or w (2 + t) 0)

-- 01, The edge: n edges, linked, between the first 512 nodes
pub record Sound (g : List ℕ) (n : ℕ) : Type 0 where
  pub linked : Linked g 3074 n
  pub targets : (k : ℕ) → k < n → target g 3074 k < 512

-- 01, The edge: is the node i a signal of kind in? `kinds` has 1 for those
unfoldable pub stops : List ℕ → List ℕ → ℕ → Bool
stops g kinds i = elim (eqb (get_or g (2 + i) 0) 0) [ true ↦ eqb (get_or kinds (get_or g (514 + i) 0) 0) 1 | false ↦ false ]

-- 01, The edge: where the search goes on from the node i: to what it reads, and nowhere from a signal of kind in
unfoldable pub next_of : List ℕ → List ℕ → ℕ → ℕ → List ℕ
next_of g kinds n i = elim (stops g kinds i) [ true ↦ [] | false ↦ out i (edges_below g 3074 n) ]

-- 01, The edge: what the edges of s add to the nodes reached: those that they lead to and no other; the k nodes before stay where they
-- are, and so does every word behind the 1,538
pub record Spread (g : List ℕ) (n s : ℕ) (w : List ℕ) (k : ℕ) (w' : List ℕ) (k' : ℕ) : Type 0 where
  pub queued : Queued w' k'
  pub more : k ≤ k'
  pub kept : (i : ℕ) → i < k → get_or w' (514 + i) 0 ≡ get_or w (514 + i) 0
  pub all : (t : ℕ) → t ∈ out s (edges_below g 3074 n) → t ∈ reached w' k'
  pub only : (t : ℕ) → t ∈ reached w' k' → (t ∈ reached w k) ⊎ (t ∈ out s (edges_below g 3074 n))
  pub behind : (j : ℕ) → 1538 ≤ j → get_or w' j 0 ≡ get_or w j 0

-- 01, The edge: all that is reached from the node that stands first, and no other node; the search stops at signals of kind in; every
-- word behind the 1,538 stays
pub record Flooded (g kinds : List ℕ) (n : ℕ) (w w' : List ℕ) (k : ℕ) : Type 0 where
  pub queued : Queued w' k
  pub first : (t : ℕ) → t ∈ reached w 1 → t ∈ reached w' k
  pub closed : (s t : ℕ) → s ∈ reached w' k → t ∈ next_of g kinds n s → t ∈ reached w' k
  pub only : (t : ℕ) → t ∈ reached w' k → Reached (next_of g kinds n) (reached w 1) t
  pub behind : (j : ℕ) → 1538 ≤ j → get_or w' j 0 ≡ get_or w j 0

-- 01, The edge: the names of the signals of kind in among some nodes
unfoldable pub names_in : List ℕ → List ℕ → List ℕ → List ℕ
names_in g kinds [] = []
names_in g kinds (i ∷ l) = elim (stops g kinds i) [ true ↦ get_or g (514 + i) 0 ∷ names_in g kinds l | false ↦ names_in g kinds l ]

-- 01, The edge: the r names found are those of the signals of kind in among the k nodes reached; and no node is marked; every word behind the
-- 1,538 stays
pub record Gathered (g kinds w : List ℕ) (k : ℕ) (w' : List ℕ) (r : ℕ) : Type 0 where
  pub clean : Clean w'
  pub names : found w' r ≡ names_in g kinds (reached w k)
  pub behind : (j : ℕ) → 1538 ≤ j → get_or w' j 0 ≡ get_or w j 0

-- 01, The edge: `kinds` has 1 for the names of kind in and for no other
abbrev pub KindsAre : List ℕ → List Header → Type 0
KindsAre kinds header = (n : ℕ) → is_input (kind_of header n) ≡ eqb (get_or kinds n 0) 1

-- 01, The edge: the r names found are the in-kind names that o reaches, each once; and no node is marked
pub record Inputs (header : List Header) (heads : List Head) (o : ℕ) (w : List ℕ) (r : ℕ) : Type 0 where
  pub clean : Clean w
  pub once : Once (found w r)
  pub names : (m : ℕ) → m ∈ found w r ↔ m ∈ inputs_reached header heads o
  pub count : r ≡ length (inputs_reached header heads o)

-- 01, The edge; Refused because of the state: whatever the words, the edges from the place e on add their targets, each that is not marked, behind the k
-- nodes reached; the place 0 ends it, an edge whose LINK is not below its own place, which adds nothing, and a node more than 512. With f steps left: how many
-- are reached then
unfoldable pub links_spread : List ℕ → ℕ → ℕ → ℕ → List ℕ → ℕ × List ℕ
links_spread g zero e k w = (k, w)
links_spread g (suc f) zero k w = (k, w)
links_spread g (suc f) (suc i) k w =
    let t = target g 3074 i in
    elim (ltb (link g 3074 i) (suc i)) [
      | true ↦ elim (eqb (get_or w (2 + t) 0) 0) [
        | true ↦ elim (ltb k 512) [ true ↦ links_spread g f (link g 3074 i) (k + 1) (set (set w (2 + t) 1) (514 + k) t) | false ↦ (k, w) ]
        | false ↦ links_spread g f (link g 3074 i) k w
      ]
      | false ↦ (k, w)
    ]

-- 01, The edge: the edges of s add to the k nodes reached, whatever the words; a place is followed by a smaller one, so that the first is as many steps
-- as are needed
unfoldable pub node_spread : List ℕ → ℕ → ℕ → List ℕ → ℕ × List ℕ
node_spread g s k w = links_spread g (get_or g (3074 + s) 0) (get_or g (3074 + s) 0) k w

-- 01, The edge: whatever the words, the search goes on from the node at the place i of the k reached, and from those behind it, with f steps left: how
-- many are reached then
unfoldable pub flood_from : List ℕ → List ℕ → ℕ → ℕ → ℕ → List ℕ → ℕ × List ℕ
flood_from g kinds zero i k w = (k, w)
flood_from g kinds (suc f) i k w =
    let s = get_or w (514 + i) 0 in
    elim (ltb i k) [
      | true ↦ elim (stops g kinds s) [
        | true ↦ flood_from g kinds f (i + 1) k w
        | false ↦ flood_from g kinds f (i + 1) (node_spread g s k w).0 (node_spread g s k w).1
      ]
      | false ↦ (k, w)
    ]

-- 01, The edge: f nodes reached, from the place i on, are unmarked, and the names of those at which the search stops stand behind the n names found,
-- whatever the words: how many are found then
unfoldable pub gather_from : List ℕ → List ℕ → ℕ → ℕ → ℕ → List ℕ → ℕ × List ℕ
gather_from g kinds zero i n w = (n, w)
gather_from g kinds (suc f) i n w =
    let s = get_or w (514 + i) 0 in
    elim (stops g kinds s) [
      | true ↦ gather_from g kinds f (i + 1) (n + 1) (set (set w (2 + s) 0) (1026 + n) (get_or g (514 + s) 0))
      | false ↦ gather_from g kinds f (i + 1) n (set w (2 + s) 0)
    ]

-- 01, The edge; Worthless checks: what the search from the node i gives and leaves of any words: it is marked and stands first, at most 512 nodes are
-- reached, and the names of the inputs among them are gathered
unfoldable pub reach_node : List ℕ → List ℕ → ℕ → List ℕ → ℕ × List ℕ
reach_node g kinds i w = let flooded = flood_from g kinds 512 0 1 (set (set w (2 + i) 1) 514 i) in gather_from g kinds flooded.0 0 0 flooded.1

-- 01, The edge; Worthless checks: what the search for the inputs of o gives and leaves of any words: an input reaches itself alone, a name that is no
-- node nothing
unfoldable pub reach_inputs : List ℕ → List ℕ → ℕ → List ℕ → ℕ × List ℕ
reach_inputs g kinds o w =
    elim (eqb (get_or kinds o 0) 1) [
      | true ↦ (1, set w 1026 o)
      | false ↦ elim (ltb (number_in g (nodes.Signal o)) (count g)) [ true ↦ reach_node g kinds (number_in g (nodes.Signal o)) w | false ↦ (0, w) ]
    ]
