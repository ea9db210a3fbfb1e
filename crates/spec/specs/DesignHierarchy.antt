-- The hierarchy of a design: each module under its own `val` lines, its collected heads and instance lines. 01: The edge, the opened
-- design.
-- To a reader: definitions to believe.
use Rattle.std.specs.Prelude.{true, false, List, [], ◌∷◌, ◌++◌, map, ℕ, suc, length}
use Rattle.std.proofs.Math.Option.{Option, some, none}
use Rattle.std.proofs.Math.ListN.{get_elem?}
use Rattle.spec.specs.Syntax.{Conn, Inst, Header, Design}
use Rattle.spec.specs.Value.{Names, own_vals}
use Rattle.spec.specs.Collect.{Collected, collection}
use Rattle.spec.specs.Site.{kind_of, Output}
use Rattle.spec.specs.Edge.{expr_reads, Head, line_heads, inst_of, index_of, place_value}
use Rattle.spec.specs.Summary.{is_input, top_outputs}
use Rattle.spec.specs.Hierarchy.{Connection, Instance, Hierarchy, instance_targets, PremisesFrom}

-- 01, the opened design: the collected lines of a module under its own `val` lines; a missing module has none.
unfoldable pub lines_of : Design → ℕ → List Collected
lines_of d m = elim (get_elem? d m) [ none ↦ [] | some k ↦ (collection (own_vals k) k).lines ]

-- 01, The line: the `kind` and `val` lines of a module; a missing module has none.
unfoldable pub header_of : Design → ℕ → List Header
header_of d m = elim (get_elem? d m) [ none ↦ [] | some k ↦ k.header ]

-- 01, the opened design: what each connection reads.
unfoldable pub connections_of : List Header → Names → List Conn → List Connection
connections_of hs names [] = []
connections_of hs names (c ∷ cs) = record { port = c.port; nodes = (expr_reads c.signal hs names).nodes } ∷ connections_of hs names cs

module _ {Key : Type 0} where
  -- 01, the opened design: a collected instance line at a position among the collected lines, with the key that it opens. 01, The edge: an
  -- instance index without value counts as none.
  abbrev pub line_instance_at : List Header → ℕ → Inst → Names → Key → Instance Key
  line_instance_at hs k i names t =
      record { position = k; name = i.name; index = index_of (place_value names i.place); target = t; connections = connections_of hs names i.conns }

  -- 01, the opened design: for each collected instance line a copy of what it opens (none if missing).
  unfoldable pub instances_from : (Inst → Names → Option Key) → List Header → ℕ → List Collected → List (Instance Key)
  instances_from opens hs k [] = []
  instances_from opens hs k (c ∷ cs) =
      elim (inst_of c.item) [
        | none ↦ instances_from opens hs (suc k) cs
        | some i ↦ elim (opens i c.names) [
          | none ↦ instances_from opens hs (suc k) cs
          | some t ↦ line_instance_at hs k i c.names t ∷ instances_from opens hs (suc k) cs
        ]
      ]

-- 01, the opened design: an instance line opens its module, whatever the values then standing; none if missing.
unfoldable pub module_opened : Design → Inst → Names → Option ℕ
module_opened d i names = elim (get_elem? d i.«module») [ none ↦ none | some k ↦ some i.«module» ]

-- 01, the opened design: a module's collected instance lines whose module exists.
unfoldable pub instances : Design → ℕ → List (Instance ℕ)
instances d m = instances_from (module_opened d) (header_of d m) 0 (lines_of d m)

-- 01, the opened design: its collected heads and reads, of wire and drive lines: of these lines
unfoldable pub lines_own_heads : List Header → List Collected → List Head
lines_own_heads hs [] = []
lines_own_heads hs (c ∷ cs) = (line_heads hs c.names [] c.item).heads ++ lines_own_heads hs cs

-- 01, the opened design: of a module's lines.
unfoldable pub own_heads : Design → ℕ → List Head
own_heads d m = lines_own_heads (header_of d m) (lines_of d m)

-- 01, the opened design: the in-kind names of a module.
unfoldable pub input_names : List Header → List ℕ
input_names [] = []
input_names (Header.kind n k ∷ hs) = elim (is_input (some k)) [ true ↦ n ∷ input_names hs | false ↦ input_names hs ]
input_names (Header.val n z ∷ hs) = input_names hs

-- 01, the opened design: top-level: outside `repeat` and `constif`.
unfoldable pub top_outputs_of : Design → ℕ → List Output
top_outputs_of d m = elim (get_elem? d m) [ none ↦ [] | some k ↦ top_outputs k.items ]

-- 01, the opened design: the names of these.
unfoldable pub out_names : Design → ℕ → List ℕ
out_names d m = map (λ o. o.name) (top_outputs_of d m)

-- 01, the opened design: from any module under its own `val` lines: a key is the module's number.
abbrev pub hierarchy : Design → Hierarchy
hierarchy d = record {
  Key = ℕ;
  module_at = λ m. m;
  modules = length d;
  kind = λ m n. kind_of (header_of d m) n;
  own = own_heads d;
  inside = instances d;
  inputs = λ m. input_names (header_of d m);
  outs = out_names d;
}

-- 01, the opened design: the modules that collected instance lines lead to, one step.
abbrev pub instanced : Design → ℕ → List ℕ
instanced d m = instance_targets (instances d m)

-- The premises of demand 3, from every module on.
abbrev pub Premises : Design → Type 0
Premises d = (m : ℕ) → PremisesFrom (hierarchy d) m
