-- Nodes, what an expression reads, and what a collected line heads. 01: The edge.
-- To a reader: definitions to believe; all_nodes and edge_count are pinned by Counts.Counts (proved in proofs/Counts).
use Rattle.std.specs.Prelude.{Bool, true, false, ◌&&◌, ◌||◌, List, [], ◌∷◌, ◌++◌, ℕ, ◌+◌, length, eqb, ltb, ℤ}
use Rattle.std.proofs.Math.Option.{Option, some, none}
use Rattle.spec.specs.Syntax.{Kind, in_kind, out_kind, wire_kind, reg_kind, mem_kind, inst_kind, Expr, Exprs, lit, truth, name, field, index, if_else, unary, binary, all, Index, whole, at_bit, high_low, LValue, Place, single, at, Conn, Inst, Item, port, wire, reg, mem, const, drive, on, inst, repeat, const_if, Header}
use Rattle.spec.specs.Value.{Value, known, missing, outside, Names, value, int_eq}
use Rattle.spec.specs.DepthFirst.{each_once}
use Rattle.spec.specs.Site.{kind_of, Driving, an_output, a_wire, a_reg, a_mem, nothing, driving}

-- 01, The edge: a signal; an instance output (name, index or none, output).
pub data Node : Type 0 where
  signal : ℕ → Node
  inst_out : (inst : ℕ) → (index : Option ℤ) → (out : ℕ) → Node

-- 01, The edge: the same index, or none both.
abbrev pub same_index : Option ℤ → Option ℤ → Bool
same_index none none = true
same_index none (some z) = false
same_index (some y) none = false
same_index (some y) (some z) = int_eq y z

-- 01, The edge: the same node.
abbrev pub same_node : Node → Node → Bool
same_node (signal m) (signal n) = eqb m n
same_node (signal m) (inst_out i x o) = false
same_node (inst_out i x o) (signal n) = false
same_node (inst_out i x o) (inst_out j y p) = eqb i j && same_index x y && eqb o p

-- 01, The edge: what is read, and whether an index that was evaluated for it was outside INT.
pub record Reads : Type 0 where
  pub nodes : List Node
  pub out : Bool

-- 01, The edge: nothing is read.
abbrev pub no_reads : Reads
no_reads = record { nodes = []; out = false }

-- 01, The edge: what two parts read.
abbrev pub and_reads : Reads → Reads → Reads
and_reads a b = record { nodes = a.nodes ++ b.nodes; out = a.out || b.out }

-- 01, The edge: `(n NAME)` of kind in, out or wire is read.
abbrev pub name_reads : Option Kind → ℕ → Reads
name_reads none n = no_reads
name_reads (some in_kind) n = record { nodes = signal n ∷ []; out = false }
name_reads (some out_kind) n = record { nodes = signal n ∷ []; out = false }
name_reads (some wire_kind) n = record { nodes = signal n ∷ []; out = false }
name_reads (some reg_kind) n = no_reads
name_reads (some mem_kind) n = no_reads
name_reads (some inst_kind) n = no_reads

-- 01, The edge: I an inst.
abbrev pub is_inst : Option Kind → Bool
is_inst none = false
is_inst (some in_kind) = false
is_inst (some out_kind) = false
is_inst (some wire_kind) = false
is_inst (some reg_kind) = false
is_inst (some mem_kind) = false
is_inst (some inst_kind) = true

-- 01, The edge: reads that output, or nothing at all if E has no value; E is not read.
abbrev pub indexed_reads : ℕ → Value → ℕ → Reads
indexed_reads i (known z) p = record { nodes = inst_out i (some z) p ∷ []; out = false }
indexed_reads i missing p = no_reads
indexed_reads i outside p = record { nodes = []; out = true }

-- 01, The edge: the inner expression of an `f`: an inst, an inst with an index, or anything else.
pub data FieldOf : Type 0 where
  an_inst : (inst : ℕ) → FieldOf
  an_inst_at : (inst : ℕ) → (index : Expr) → FieldOf
  no_inst : FieldOf

-- 01, The edge: which of them it is: `(n I)` or `(ix (n I) E)`, I an inst, or neither.
unfoldable pub field_of : List Header → Expr → FieldOf
field_of hs (name i) = elim (is_inst (kind_of hs i)) [ true ↦ an_inst i | false ↦ no_inst ]
field_of hs (index (name i) e) = elim (is_inst (kind_of hs i)) [ true ↦ an_inst_at i e | false ↦ no_inst ]
field_of hs (index (lit n) e) = no_inst
field_of hs (index (truth b) e) = no_inst
field_of hs (index (field a n) e) = no_inst
field_of hs (index (index a b) e) = no_inst
field_of hs (index (if_else c a b) e) = no_inst
field_of hs (index (unary o a) e) = no_inst
field_of hs (index (binary o a b) e) = no_inst
field_of hs (index (all es) e) = no_inst
field_of hs (lit n) = no_inst
field_of hs (truth b) = no_inst
field_of hs (field e n) = no_inst
field_of hs (if_else c a b) = no_inst
field_of hs (unary o a) = no_inst
field_of hs (binary o a b) = no_inst
field_of hs (all es) = no_inst

-- 01, The edge: of an inst that output is read, and nothing of the inner expression, the index neither. 02, U2: any other `f` reads
-- everything that its inner expression reads.
abbrev pub field_reads : Names → FieldOf → (output : ℕ) → (inner : Reads) → Reads
field_reads names (an_inst i) p inner = record { nodes = inst_out i none p ∷ []; out = false }
field_reads names (an_inst_at i e) p inner = indexed_reads i (value names e) p
field_reads names no_inst p inner = inner

-- 01, The edge: every other form reads all that its parts read.
unfoldable mutual
  pub expr_reads : Expr → List Header → Names → Reads
  expr_reads (lit n) hs names = no_reads
  expr_reads (truth b) hs names = no_reads
  expr_reads (name n) hs names = name_reads (kind_of hs n) n
  expr_reads (field e p) hs names = field_reads names (field_of hs e) p (expr_reads e hs names)
  expr_reads (index e i) hs names = and_reads (expr_reads e hs names) (expr_reads i hs names)
  expr_reads (if_else c a b) hs names = and_reads (expr_reads c hs names) (and_reads (expr_reads a hs names) (expr_reads b hs names))
  expr_reads (unary o a) hs names = expr_reads a hs names
  expr_reads (binary o a b) hs names = and_reads (expr_reads a hs names) (expr_reads b hs names)
  expr_reads (all es) hs names = exprs_reads es hs names

  pub exprs_reads : Exprs → List Header → Names → Reads
  exprs_reads Exprs.none hs names = no_reads
  exprs_reads (Exprs.more e es) hs names = and_reads (expr_reads e hs names) (exprs_reads es hs names)

-- 01, The edge: LV indexes are read.
unfoldable pub index_reads : List Header → Names → Index → Reads
index_reads hs names whole = no_reads
index_reads hs names (at_bit e) = expr_reads e hs names
index_reads hs names (high_low h l) = and_reads (expr_reads h hs names) (expr_reads l hs names)

-- 01, The edge: a node that a collected line heads, the line's START, and what it reads there.
pub record Head : Type 0 where
  pub node : Node
  pub start : ℕ
  pub reads : List Node

-- 01, The edge: what a collected line heads, and whether an `f` index evaluated for its reads was outside INT.
pub record Heads : Type 0 where
  pub heads : List Head
  pub out : Bool

-- 01, The edge: nothing is headed.
abbrev pub no_heads : Heads
no_heads = record { heads = []; out = false }

-- 01, The edge: a line that heads one node.
abbrev pub one_head : Node → ℕ → Reads → Heads
one_head n start r = record { heads = record { node = n; start = start; reads = r.nodes } ∷ []; out = r.out }

-- 01, The site: driving a wire: its reads still count. Driving reg or mem: no reads.
abbrev pub drive_heads : Driving → LValue → Reads → Heads
drive_heads an_output lv r = one_head (signal lv.name) lv.start r
drive_heads a_wire lv r = one_head (signal lv.name) lv.start r
drive_heads a_reg lv r = no_heads
drive_heads a_mem lv r = no_heads
drive_heads nothing lv r = no_heads

-- 01, The edge: a module's summary: pairs of an output and an input that it reaches.
abbrev pub Summary : Type 0
Summary = List (ℕ × ℕ)

-- 01, The edge: output o reaches input i.
unfoldable pub reaches : ℕ → ℕ → Summary → Bool
reaches o i [] = false
reaches o i (p ∷ s) = eqb o p.0 && eqb i p.1 || reaches o i s

-- 01, The edge: the reads of connections to the inputs that output o reaches. Decision: no other connection is read.
unfoldable pub conn_reads : List Header → Names → Summary → ℕ → List Conn → Reads
conn_reads hs names s o [] = no_reads
conn_reads hs names s o (c ∷ cs) =
    elim (reaches o c.port s) [
      | true ↦ and_reads (expr_reads c.signal hs names) (conn_reads hs names s o cs)
      | false ↦ conn_reads hs names s o cs
    ]

-- 01, The edge: an instance index without value counts as none.
abbrev pub index_of : Value → Option ℤ
index_of (known z) = some z
index_of missing = none
index_of outside = none

-- 01, The edge: the index of an instance.
unfoldable pub place_value : Names → Place → Value
place_value names single = missing
place_value names (at e) = value names e

-- 01, The edge: an output in the summary. Decision: one that reaches no input is not.
unfoldable pub has_output : ℕ → Summary → Bool
has_output o [] = false
has_output o (p ∷ s) = eqb o p.0 || has_output o s

-- 01, The edge: instance output leads to the reads of connections to those names; its line heads every output in the summary, with
-- reads or without. `rest` is the part of the summary s that is still to go through.
unfoldable pub output_heads : List Header → Names → Inst → Option ℤ → Summary → Summary → Heads
output_heads hs names i x s [] = no_heads
output_heads hs names i x s (p ∷ rest) =
    elim (has_output p.0 rest) [
      | true ↦ output_heads hs names i x s rest
      | false ↦
          let r = conn_reads hs names s p.0 i.conns in
          let h = output_heads hs names i x s rest in
          record { heads = record { node = inst_out i.name x p.0; start = i.start; reads = r.nodes } ∷ h.heads; out = r.out || h.out }
    ]

-- 01, The edge: what an instance line heads.
unfoldable pub inst_edges : List Header → Names → Inst → Summary → Heads
inst_edges hs names i s = output_heads hs names i (index_of (place_value names i.place)) s s

-- 01, The edge: what a collected line heads; s is the summary of its module where it is an instance line. Decision: `wire` and `inst`
-- lines head whatever the kind.
unfoldable pub line_heads : List Header → Names → Summary → Item → Heads
line_heads hs names s (wire n e start) = one_head (signal n) start (expr_reads e hs names)
line_heads hs names s (drive lv e) = drive_heads (driving (kind_of hs lv.name)) lv (and_reads (expr_reads e hs names) (index_reads hs names lv.index))
line_heads hs names s (inst i) = inst_edges hs names i s
line_heads hs names s (port d n w start) = no_heads
line_heads hs names s (reg n start) = no_heads
line_heads hs names s (mem n start) = no_heads
line_heads hs names s (const n e) = no_heads
line_heads hs names s (on start ss) = no_heads
line_heads hs names s (repeat n l h is) = no_heads
line_heads hs names s (const_if c is js) = no_heads

-- 01, The edge: the instance of an instance line.
unfoldable pub inst_of : Item → Option Inst
inst_of (inst i) = some i
inst_of (wire n e s) = none
inst_of (drive lv e) = none
inst_of (port d n w s) = none
inst_of (reg n s) = none
inst_of (mem n s) = none
inst_of (const n e) = none
inst_of (on s ss) = none
inst_of (repeat n l h is) = none
inst_of (const_if c is js) = none

-- 01, Refused because of the state: nodes, headed or read.
unfoldable pub all_nodes : List Head → List Node
all_nodes [] = []
all_nodes (h ∷ hs) = h.node ∷ h.reads ++ all_nodes hs

-- 01, Refused because of the state: nodes that are headed.
unfoldable pub head_nodes : List Head → List Node
head_nodes [] = []
head_nodes (h ∷ hs) = h.node ∷ head_nodes hs

-- 01, The edge: what the lines that head a node read.
unfoldable pub all_reads : List Head → Node → List Node
all_reads [] n = []
all_reads (h ∷ hs) n = elim (same_node n h.node) [ true ↦ h.reads ++ all_reads hs n | false ↦ all_reads hs n ]

-- 01, The edge: what a node reads, each once.
unfoldable pub reads_of : List Head → Node → List Node
reads_of hs n = each_once same_node (all_reads hs n)

-- 01, Refused because of the state: different edges from these nodes.
unfoldable pub edges_from : List Head → List Node → ℕ
edges_from hs [] = 0
edges_from hs (n ∷ ns) = length (reads_of hs n) + edges_from hs ns

-- 01, Refused because of the state: different edges.
unfoldable pub edge_count : List Head → ℕ
edge_count hs = edges_from hs (each_once same_node (head_nodes hs))

-- 01, Refused because of the state: in one module 512 nodes.
abbrev pub node_limit : ℕ
node_limit = 512

-- 01, Refused because of the state: 4,096 different edges.
abbrev pub edge_limit : ℕ
edge_limit = 4096

-- 01, Refused because of the state: in one module 512 nodes, 4,096 different edges.
unfoldable pub over_graph : List Head → Bool
over_graph hs = ltb node_limit (length (each_once same_node (all_nodes hs))) || ltb edge_limit (edge_count hs)
