-- What the functions give back and leave of any words, also of words that stand for no graph.
-- 01: The edge; The walk; Refused because of the state; Worthless checks.
-- To a reader: definitions that contracts of this and other crates cite; each such contract is proved; OneHead and OneRead are statements, proved in
-- proofs/Leaving (one_head, one_read); check_drivers' own promise cites none of them.
use Rattle.std.specs.Prelude.{◌≡◌, Bool, true, false, ◌⊎◌, List, ℕ, suc, ◌+◌, ◌<◌, ◌≤◌, length, get_or, set, replicate, eqb, ltb, Option, Some, None, Result, Ok, Err}
use Rattle.spec.specs.Edge.{Node, Head}
use Rattle.graph.specs.Table.{node_of, count, edge_total, node_at, headed_at, edge_there, pushed, stored, slot_of, number_in}
use Rattle.graph.specs.Stands.{Stands}
use Rattle.graph.specs.Reach.{words_below, Clean, reach_inputs}
use Rattle.graph.specs.Cycles.{Roomy, in_order, Pending, Awaits}
use Rattle.graph.specs.declared.Cycle.{Cycle}
use Rattle.graph.specs.declared.Full.{Full}
use Rattle.graph.specs.declared.Node as declared
use Rattle.graph.specs.declared.Node.TheVariants as nodes

-- 01, Worthless checks: what every lent byte becomes: the slice keeps its length, and its words at these places
pub record Keeps (places : ℕ → Type 0) (s s' : List ℕ) : Type 0 where
  pub size : length s' ≡ length s
  pub words : (j : ℕ) → places j → get_or s' j 0 ≡ get_or s j 0

-- 01, Worthless checks: the places below b
abbrev pub Below : ℕ → ℕ → Type 0
Below b j = j < b

-- 01, The edge: one node more, with START 0 and not headed
abbrev pub one_more : List ℕ → declared.Node → List ℕ
one_more g (nodes.Signal n) = stored g 0 n 0 0
one_more g (nodes.Output n o) = stored g 1 n 0 o
one_more g (nodes.OutputAt n x o) = stored g 2 n x o

-- 01, The edge: the node n is looked for: its hint gets its number
unfoldable pub hinted : List ℕ → declared.Node → List ℕ
hinted g n = set g (15874 + slot_of n) (number_in g n)

-- 01, The edge: the node n is looked for, and added where it is none of the nodes
unfoldable pub with_node : List ℕ → declared.Node → List ℕ
with_node g n = elim (ltb (number_in g n) (count g)) [ true ↦ hinted g n | false ↦ one_more (hinted g n) n ]

-- 01, The walk: the node i is headed: it has this START, unless it was headed before
unfoldable pub with_head : List ℕ → ℕ → ℕ → List ℕ
with_head g i start = elim (eqb (headed_at g i) 0) [ true ↦ set (set g (2562 + i) 1) (2050 + i) start | false ↦ g ]

-- 01, The edge: one edge more, from the node s to the node t
unfoldable pub with_edge : List ℕ → ℕ → ℕ → List ℕ
with_edge g s t = set (pushed g 3074 (edge_total g) s t) 1 (edge_total g + 1)

-- 01, The edge; Refused because of the state: the answer for the node n, whatever the words: its number, which is below 512 where it is new
pub record Numbered (g : List ℕ) (n : declared.Node) (i : ℕ) : Type 0 where
  pub number : i ≡ number_in g n
  pub new : count g ≤ i → i < 512

-- 01, Refused because of the state: the node n is one too many: there are 512 nodes or more, and it is none of them
pub record NoPlace (g : List ℕ) (n : declared.Node) : Type 0 where
  pub many : 512 ≤ count g
  pub none : (i : ℕ) → i < count g → ¬ (node_at g i ≡ node_of n)

-- 01, The edge; Refused because of the state: what finding or adding the node n gives and leaves of any words
abbrev pub Placed : Result ℕ Full → List ℕ → declared.Node → List ℕ → Type 0
Placed (Ok i) g n g' = Numbered g n i × (g' ≡ with_node g n)
Placed (Err e) g n g' = NoPlace g n × (g' ≡ hinted g n)

-- 01, The edge; Refused because of the state; Worthless checks: what heading the node n gives and leaves of any words: every word; at a limit all are 0
abbrev pub HeadLeaves : Result ℕ Full → List ℕ → declared.Node → ℕ → List ℕ → Type 0
HeadLeaves (Ok i) g n start g' = Numbered g n i × (g' ≡ with_head (with_node g n) i start)
HeadLeaves (Err e) g n start g' = NoPlace g n × (g' ≡ replicate (length g) 0)

-- 01, The edge; Refused because of the state: what a read of the node i leaves, by whether its edge was there: the words as they were; or one edge
-- more, of at most 4,096
abbrev pub Edged : Bool → List ℕ → ℕ → ℕ → List ℕ → Type 0
Edged true g from i g' = g' ≡ g
Edged false g from i g' = (edge_total g < 4096) × (g' ≡ with_edge g from i)

-- 01, Refused because of the state: the edge to the node i is one too many: it is not there, and there are 4,096 edges or more
pub record NoEdge (g : List ℕ) (from i : ℕ) : Type 0 where
  pub none : edge_there g 3074 from i ≡ false
  pub many : 4096 ≤ edge_total g

-- 01, Refused because of the state: a read of the node n is refused: the node is one too many, or it has its number and the edge is
abbrev pub ReadFull : List ℕ → ℕ → declared.Node → Type 0
ReadFull g from n = NoPlace g n ⊎ (Numbered g n (number_in g n) × NoEdge (with_node g n) from (number_in g n))

-- 01, The edge; Refused because of the state; Worthless checks: what a read of the node n gives and leaves of any words: every word; at a limit all are
-- 0. There is one edge more exactly where the links do not find it
abbrev pub ReadLeaves : Result ℕ Full → List ℕ → ℕ → declared.Node → List ℕ → Type 0
ReadLeaves (Ok i) g from n g' = Numbered g n i × Edged (edge_there (with_node g n) 3074 from i) (with_node g n) from i g'
ReadLeaves (Err e) g from n g' = ReadFull g from n × (g' ≡ replicate (length g) 0)

-- 01, Worthless checks: heading leaves nothing free: whatever the words, there is only one such answer, and only one such list of words
abbrev pub OneHead : List ℕ → declared.Node → ℕ → Type 0
OneHead g n start = (a b : Result ℕ Full) (g' g'' : List ℕ) → HeadLeaves a g n start g' → HeadLeaves b g n start g'' → (a ≡ b) × (g' ≡ g'')

-- 01, Worthless checks: and so of a read
abbrev pub OneRead : List ℕ → ℕ → declared.Node → Type 0
OneRead g from n = (a b : Result ℕ Full) (g' g'' : List ℕ) → ReadLeaves a g from n g' → ReadLeaves b g from n g'' → (a ≡ b) × (g' ≡ g'')

-- 01, The edge; Worthless checks: what the search for inputs gives and leaves of any words, as Reach.reach_inputs has it; and what follows: at most 512
-- names, the first two words as they were, and every word behind the 1,538 where g stands for a graph and no node is marked
pub record ReachLeaves (g kinds w : List ℕ) (o : ℕ) (w' : List ℕ) (r : ℕ) : Type 0 where
  pub all : (r, w') ≡ reach_inputs g kinds o w
  pub few : r ≤ 512
  pub before : Keeps (Below 2) w w'
  pub behind : (hs : List Head) → Stands g hs → Clean w → (j : ℕ) → 1538 ≤ j → get_or w' j 0 ≡ get_or w j 0

-- 01, The walk: the work slice is prepared: the nodes in order, where it has a word for each; no node seen, an empty path, no root taken, all steps
-- left. In a shorter slice the words from 1538 on are left free
pub record Prepared (g w w' : List ℕ) : Type 0 where
  pub order : 1538 + count g ≤ length w → words_below w' 1538 (count g) ≡ in_order g (count g)
  pub unused : (j : ℕ) → 1538 + count g ≤ j → j < 2050 → get_or w' j 0 ≡ get_or w j 0
  pub unseen : (t : ℕ) → t < 512 → get_or w' (2050 + t) 0 ≡ 0
  pub depth : get_or w' 3586 0 ≡ 0
  pub root : get_or w' 3587 0 ≡ 0
  pub steps : 3588 < length w → get_or w' 3588 0 ≡ 2098176

-- 01, The walk; Worthless checks: what preparing the work slice leaves, whatever the slices hold: the words of `reach`, the cursors and the
-- path as they were. All words stay where there are more than 512 nodes or 4,096 edges. The words from 3590 on are
-- left free; where g stands for a graph and the slice has 29,190 words Awaits says what the search makes of them, and every word behind those stays
pub record BeginLeaves (g w w' : List ℕ) : Type 0 where
  pub before : Keeps (Below 1538) w w'
  pub path : (j : ℕ) → 2562 ≤ j → j < 3586 → get_or w' j 0 ≡ get_or w j 0
  pub spare : get_or w' 3589 0 ≡ get_or w 3589 0
  pub past : (512 < count g) ⊎ (4096 < edge_total g) → w' ≡ w
  pub prepared : count g ≤ 512 → edge_total g ≤ 4096 → Prepared g w w'
  pub behind : (hs : List Head) → Stands g hs → Roomy w → (j : ℕ) → 29190 ≤ j → get_or w' j 0 ≡ get_or w j 0

-- 01, The walk; Worthless checks: which words a step of the search keeps; every word from 3589 on only where the slice holds the state of a search.
-- What it gives and what becomes of every word, of any words, Search.search_step says
pub record StepLeaves (g w w' : List ℕ) : Type 0 where
  pub before : Keeps (Below 2050) w w'
  pub behind : (ps : List (List ℕ)) (m : ℕ) → Pending g w (suc m) ps → (j : ℕ) → 3589 ≤ j → get_or w' j 0 ≡ get_or w j 0

-- 01, The walk: a report is a stretch that ends where the path ends, and leaves fewer steps
abbrev pub Stretch : Option Cycle → List ℕ → List ℕ → Type 0
Stretch (Some c) w w' = (c.to ≡ get_or w' 3586 0) × (get_or w' 3588 0 < get_or w 3588 0)
Stretch None w w' = Unit {0}

-- 01, The walk; Worthless checks: that a report is a stretch, and which words asking for the next one keeps: the words of `reach` and the order of the
-- nodes; every word from 3589 on only where w awaits reports. What it gives and what becomes of every word, of any words, Search.next_report says
pub record NextLeaves (r : Option Cycle) (g w w' : List ℕ) : Type 0 where
  pub stretch : Stretch r w w'
  pub before : Keeps (Below 2050) w w'
  pub behind : (rs : List (List Node)) → Awaits g w rs → (j : ℕ) → 3589 ≤ j → get_or w' j 0 ≡ get_or w j 0
