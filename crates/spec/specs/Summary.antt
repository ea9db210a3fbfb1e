-- Which inputs a module's outputs reach, through instances too. 01: The edge.
-- To a reader: definitions to believe; where no module contains itself, comb_summary is pinned by Summaries.Summaries (proved in proofs/Summaries).
use Rattle.std.specs.Prelude.{Bool, true, false, ◌||◌, List, [], ◌∷◌, ◌++◌, ℕ, zero, suc, ◌+◌, length, eqb, ltb}
use Rattle.std.proofs.Math.Option.{Option, some, none}
use Rattle.std.proofs.Math.ListN.{get_elem?}
use Rattle.spec.specs.Syntax.{Kind, in_kind, out_kind, wire_kind, reg_kind, mem_kind, inst_kind, Inst, Items, Header, Module, Design}
use Rattle.spec.specs.Refusal.{has_name}
use Rattle.spec.specs.Value.{own_vals}
use Rattle.spec.specs.Collect.{Collected, collection}
use Rattle.spec.specs.DepthFirst.{search}
use Rattle.spec.specs.Site.{kind_of, Output, line_outputs, first_lines}
use Rattle.spec.specs.Edge.{Node, signal, inst_out, same_node, Head, Summary, line_heads, inst_of, all_nodes, reads_of, over_graph}

-- 01, The edge: in-kind.
abbrev pub is_input : Option Kind → Bool
is_input none = false
is_input (some in_kind) = true
is_input (some out_kind) = false
is_input (some wire_kind) = false
is_input (some reg_kind) = false
is_input (some mem_kind) = false
is_input (some inst_kind) = false

-- 01, The edge: from a node to what it reads, stopping at in-kind names.
unfoldable pub onward : List Header → List Head → Node → List Node
onward hs heads (signal n) = elim (is_input (kind_of hs n)) [ true ↦ [] | false ↦ reads_of heads (signal n) ]
onward hs heads (inst_out i x o) = reads_of heads (inst_out i x o)

-- 01, The edge: the in-kind names among nodes.
unfoldable pub inputs_among : List Header → List Node → List ℕ
inputs_among hs [] = []
inputs_among hs (signal n ∷ ns) = elim (is_input (kind_of hs n)) [ true ↦ n ∷ inputs_among hs ns | false ↦ inputs_among hs ns ]
inputs_among hs (inst_out i x o ∷ ns) = inputs_among hs ns

-- 01, The edge: the in-kind names that an output reaches, stopping there.
unfoldable pub inputs_reached : List Header → List Head → ℕ → List ℕ
inputs_reached hs heads o = inputs_among hs (search same_node (onward hs heads) (suc (suc (length (all_nodes heads)))) (signal o ∷ [])).left

-- 01, The edge: an output with each input that it reaches.
unfoldable pub paired : ℕ → List ℕ → Summary
paired o [] = []
paired o (i ∷ is) = (o, i) ∷ paired o is

-- 01, The edge: top-level: outside `repeat` and `constif`.
unfoldable pub top_outputs : Items → List Output
top_outputs Items.none = []
top_outputs (Items.more i is) = line_outputs i ++ top_outputs is

-- 01, The edge: the pairs of these outputs.
unfoldable pub outputs_reach : List Header → List Head → List Output → Summary
outputs_reach hs heads [] = []
outputs_reach hs heads (o ∷ os) = paired o.name (inputs_reached hs heads o.name) ++ outputs_reach hs heads os

-- 01, The edge: Summary: the in-kind names that a top-level output reaches.
unfoldable pub module_summary : Module → List Head → Summary
module_summary k heads = outputs_reach k.header heads (first_lines [] (top_outputs k.items))

-- 01, The edge: the summaries that were made and kept, by module.
abbrev pub Kept : Type 0
Kept = List (ℕ × Summary)

-- 01, The edge: made when first needed and then kept.
unfoldable pub kept_summary : Kept → ℕ → Option Summary
kept_summary [] m = none
kept_summary (e ∷ kept) m = elim (eqb e.0 m) [ true ↦ some e.1 | false ↦ kept_summary kept m ]

-- 01, Refused because of the state: summary triples in all: (module, output, input).
unfoldable pub triples : Kept → ℕ
triples [] = 0
triples (e ∷ kept) = length e.1 + triples kept

-- 01, Refused because of the state: 1,024 summary triples in all.
abbrev pub triple_limit : ℕ
triple_limit = 1024

-- 01, The edge: what asking for a summary gives: it, the summaries kept then, and whether a limit was passed or an `f` index evaluated
-- for its reads was outside INT; its other constants are found by the module's own check.
pub record Asked : Type 0 where
  pub summary : Summary
  pub kept : Kept
  pub full : Bool

-- 01, The edge: empty, and that is not kept.
abbrev pub no_summary : Kept → Asked
no_summary kept = record { summary = []; kept = kept; full = false }

-- 01, The edge: the heads of collected lines, with the summaries that their instance lines ask for, in order.
pub record Headed : Type 0 where
  pub heads : List Head
  pub kept : Kept
  pub full : Bool

-- 01, The edge: instances lead to summaries. Decision: first needed is the first collected instance line.
unfoldable pub ask_for : (Kept → ℕ → Asked) → Kept → Option Inst → Asked
ask_for ask kept none = no_summary kept
ask_for ask kept (some i) = ask kept i.«module»

-- 01, The edge: items lead to instances, instances to summaries.
unfoldable pub lines_heads : (Kept → ℕ → Asked) → List Header → Kept → List Collected → Headed
lines_heads ask hs kept [] = record { heads = []; kept = kept; full = false }
lines_heads ask hs kept (c ∷ cs) =
    let a = ask_for ask kept (inst_of c.item) in
    let h = line_heads hs c.names a.summary c.item in
    let r = lines_heads ask hs a.kept cs in
    record { heads = h.heads ++ r.heads; kept = r.kept; full = a.full || h.out || r.full }

-- 01, The edge: summaries lead to items: one that is made now, and kept.
unfoldable pub make_summary : (Kept → ℕ → Asked) → Kept → ℕ → Module → Asked
make_summary ask kept m k =
    let c = collection (own_vals k) k in
    let h = lines_heads ask k.header kept c.lines in
    let s = module_summary k h.heads in
    let kept' : Kept = (m, s) ∷ h.kept in
    record { summary = s; kept = kept'; full = h.full || over_graph h.heads || ltb triple_limit (triples kept') }

-- 01, The edge: taken under the module's default values, made when first needed and then kept; missing module or one already being
-- summarised: empty, and that is not kept. Decision: whether it is being summarised is asked before whether it is kept. `busy` are the modules
-- being summarised; `fuel` is above the number of the others.
unfoldable pub comb_summary : ℕ → Design → List ℕ → Kept → ℕ → Asked
comb_summary zero d busy kept m = no_summary kept
comb_summary (suc fuel) d busy kept m =
    elim (get_elem? d m) [
      | none ↦ no_summary kept
      | some k ↦ elim (has_name m busy) [
        | true ↦ no_summary kept
        | false ↦ elim (kept_summary kept m) [
          | some s ↦ record { summary = s; kept = kept; full = false }
          | none ↦ make_summary (comb_summary fuel d (m ∷ busy)) kept m k
        ]
      ]
    ]

-- 01, The edge: a module's own check does not count as summarising it.
unfoldable pub module_heads : Design → Kept → Module → List Collected → Headed
module_heads d kept k cs = lines_heads (comb_summary (suc (length d)) d []) k.header kept cs
