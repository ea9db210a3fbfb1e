-- The answers of the graph as numbers, for programs in other languages.
-- 01: The edge; The walk; Refused because of the state; Worthless checks.
-- To a reader: definitions to believe: what the numbers that the functions of this crate return and store stand for.
use Rattle.std.specs.Prelude.{◌≡◌, true, false, ◌⊎◌, List, [], ◌∷◌, ◌++◌, map, ℕ, zero, suc, ◌+◌, ◌-◌, ◌<◌, ◌≤◌, length, get_or, set, replicate, eqb, ltb, Option, Some, None, Result, Ok}
use Rattle.std.proofs.Math.Option.{some, none}
use Rattle.spec.specs.Edge.{Node, signal, inst_out}
use Rattle.graph.specs.Table.{node_at, number_in}
use Rattle.graph.specs.Stands.{full}
use Rattle.graph.specs.Cycles.{Awaits, words_from}
use Rattle.graph.specs.Search.{next_report}
use Rattle.graph.specs.Leaves.{Keeps, Below, HeadLeaves, ReadLeaves}
use Rattle.graph.specs.declared.Node as D
use Rattle.graph.specs.declared.Node.TheVariants as kinds
use Rattle.consteval.specs.Worth.{biased}
use Rattle.graph.specs.declared.Full.{Full}
use Rattle.graph.specs.declared.Cycle.{Cycle}

-- 01, The edge: the code's node for four numbers: kind, name, index, output
unfoldable pub node_told : ℕ → ℕ → ℕ → ℕ → D.Node
node_told k n x o = elim (eqb k 0) [ true ↦ kinds.Signal n | false ↦ elim (eqb k 1) [ true ↦ kinds.Output n o | false ↦ kinds.OutputAt n x o ] ]

-- 01, The edge; Refused because of the state: the answer that a number says: below 512 a node's number, else that a limit is passed
abbrev pub added_of : ℕ → Result ℕ Full
added_of r = elim (ltb r 512) [ true ↦ Ok r | false ↦ full ]

-- 01, The edge; Refused because of the state: the answer that a read's number says: 0 that a limit is passed, any other that it is read
abbrev pub read_of : ℕ → Result ℕ Full
read_of zero = full
read_of (suc k) = Ok k

-- 01, The edge: four numbers stored, as many as there is room for
unfoldable pub said : List ℕ → ℕ → ℕ → ℕ → ℕ → List ℕ
said ns k n x o = set (set (set (set ns 0 k) 1 n) 2 x) 3 o

-- 01, The edge: the numbers of a node stored: kind, name, index (2147483648 above its value), output, with 0 for one that it does not have
abbrev pub node_said : List ℕ → Node → List ℕ
node_said ns (signal n) = said ns 0 n 0 0
node_said ns (inst_out i none o) = said ns 1 i 0 o
node_said ns (inst_out i (some x) o) = said ns 2 i (biased x) o

-- 01, The walk: ns begins with the numbers l, as many as it has room for
abbrev pub Begins : List ℕ → List ℕ → Type 0
Begins ns l = (i : ℕ) → i < length l → i < length ns → get_or ns i 0 ≡ get_or l i 0

-- 01, Worthless checks: the numbers from r on are as they were
pub record Kept (r : ℕ) (ns ns' : List ℕ) : Type 0 where
  pub size : length ns' ≡ length ns
  pub others : (i : ℕ) → r ≤ i → get_or ns' i 0 ≡ get_or ns i 0

-- 01, The walk: the n nodes from the place p of the path on, and the first of them again
abbrev pub loop_at : List ℕ → ℕ → ℕ → List ℕ
loop_at w p n = words_from w 3074 p n ++ get_or w (3074 + p) 0 ∷ []

-- 01, The walk; Worthless checks: what copying the n nodes from the place p on, and the first of them again, gives and leaves: their
-- number, and ns' begins with them; every number behind is as it was
pub record Copied (w : List ℕ) (p n : ℕ) (ns ns' : List ℕ) (r : ℕ) : Type 0 where
  pub number : r ≡ suc n
  pub begins : Begins ns' (loop_at w p n)
  pub kept : Kept r ns ns'

-- 01, The walk: what asking for the next report gives: the number of its nodes, which stand in ns, as many as it has room for, and the
-- others are still to come; or there are none
abbrev pub Taken : ℕ → List ℕ → List ℕ → List ℕ → List (List Node) → Type 0
Taken zero g w ns rs = rs ≡ []
Taken (suc k) g w ns rs = (l : List ℕ) × (qs : List (List Node)) × (length l ≡ suc k) × Begins ns l × Awaits g w qs × (rs ≡ map (node_at g) l ∷ qs)

-- 01, The edge; Refused because of the state; Worthless checks: what heading the node n gives and leaves of any words: its number, below 512, and
-- every word; or 512, where its number is not below 512, and all words are 0
abbrev pub HeadTold : ℕ → List ℕ → D.Node → ℕ → List ℕ → Type 0
HeadTold r g n start g' = ((r < 512) × HeadLeaves (Ok r) g n start g') ⊎ ((r ≡ 512) × (512 ≤ number_in g n) × (g' ≡ replicate (length g) 0))

-- 01, The edge; Refused because of the state; Worthless checks: what a read of the node n gives and leaves of any words: 1, and every word
-- as ReadLeaves has it; or 0, and all words are 0
abbrev pub ReadTold : ℕ → List ℕ → ℕ → D.Node → List ℕ → Type 0
ReadTold zero g from n g' = ReadLeaves full g from n g'
ReadTold (suc k) g from n g' = (k ≡ 0) × ((i : ℕ) × ReadLeaves (Ok i) g from n g')

-- 01, The walk; Worthless checks: what is told of an answer of the search, of any words: of a report the nodes of its stretch, and the
-- first of them again; nothing of a report with no nodes, and where there is none
abbrev pub Told : Option Cycle → ℕ → List ℕ → List ℕ → List ℕ → Type 0
Told (Some c) r w ns ns' = (c.from < c.to → Copied w c.from (c.to - c.from) ns ns' r) × (c.to ≤ c.from → (r ≡ 0) × (ns' ≡ ns))
Told None r w ns ns' = (r ≡ 0) × (ns' ≡ ns)

-- 01, The walk; Worthless checks: what asking for the next report gives and leaves of any words: every word of `w` as Search.next_report of graph has
-- it, and what is told of its answer; from these follow the others: fewer steps left where a report is told, the words before 2050 as they were, and
-- those from 3589 on where w awaits reports
pub record NextTold (r : ℕ) (g w w' ns ns' : List ℕ) : Type 0 where
  pub words : w' ≡ (next_report g w).1
  pub told : Told (next_report g w).0 r w' ns ns'
  pub fewer : 0 < r → get_or w' 3588 0 < get_or w 3588 0
  pub before : Keeps (Below 2050) w w'
  pub behind : (rs : List (List Node)) → Awaits g w rs → (j : ℕ) → 3589 ≤ j → get_or w' j 0 ≡ get_or w j 0
