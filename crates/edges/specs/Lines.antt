-- What the heads of a collected line leave in the graph of a module. 01: The line; The edge; Refused because of the state.
-- To a reader: definitions that contracts of this and other crates cite; each such contract is proved; IndexIs and ModuleIs are statements, proved in
-- proofs/OutputLaws (index_is, module_is); check_drivers' own promise cites none of them.
use Rattle.std.specs.Prelude.{◌≡◌, Bool, true, false, List, [], ◌∷◌, ℕ, zero, suc, ◌+◌, ◌-◌, ◌≤◌, min, length, get_or, eqb, ltb}
use Rattle.spec.specs.Bytes.{Bytes, bytes, number, show_number, show_rest, show_form}
use Rattle.spec.specs.Syntax.{Expr, LValue, Conn, Inst, wire, drive, inst, Header}
use Rattle.spec.specs.Show.{show_expr, show_conns}
use Rattle.spec.specs.Refusal.{expr_depth, conns_in_range, conns_depth}
use Rattle.spec.specs.Decode.{decode_expr}
use Rattle.spec.specs.Value.{Names, Value, missing, value}
use Rattle.spec.specs.Edge.{Node, inst_out, Head, one_head, Summary, conn_reads, index_of, place_value, line_heads, inst_edges}
use Rattle.consteval.specs.Worth.{names_of}
use Rattle.edges.specs.declared.Pairs.{Pairs}
use Rattle.edges.specs.declared.Scope.{Scope}
use Rattle.lines.specs.Parts.{piece, next_end}
use Rattle.runs.specs.Run.{ShowsItem}
use Rattle.graph.specs.Stands.{Stands, Heading}
use Rattle.edges.specs.Reads.{KindsOf, ReadAll, HeadAll}

-- 01, The edge; Refused because of the state: what a `wire` line leaves in the graph of a module: what it heads and reads, behind the
-- heads before; or an index is outside INT or a limit is passed
abbrev pub WireHeads : Bool → Bytes → ℕ → List ℕ → Names → List ℕ → List ℕ → Type 0
WireHeads r x d kinds names g g' =
    (n : ℕ) (e : Expr) (start : ℕ) → ShowsItem x d (wire n e start) → (header : List Header) → KindsOf kinds header
    → (hs : List Head) → Stands g hs → HeadAll r g' hs (line_heads header names [] (wire n e start))

-- 01, The edge; Refused because of the state: what a `drive` line leaves there, in the same way
abbrev pub DriveHeads : Bool → Bytes → ℕ → List ℕ → Names → List ℕ → List ℕ → Type 0
DriveHeads r x d kinds names g g' =
    (lv : LValue) (e : Expr) → ShowsItem x d (drive lv e) → (header : List Header) → KindsOf kinds header
    → (hs : List Head) → Stands g hs → HeadAll r g' hs (line_heads header names [] (drive lv e))

-- 01, The edge: the pairs of output and input that stand in a run of words, `count` of them from `first` on
unfoldable pub summary_at : List ℕ → ℕ → ℕ → Summary
summary_at w first zero = []
summary_at w first (suc count) = (get_or w first 0, get_or w (first + 1) 0) ∷ summary_at w (first + 2) count

-- 01, The edge: the same, by the code's struct
abbrev pub summary_in : Pairs → Summary
summary_in p = summary_at p.words.now p.first p.count

-- 01, The value: the names with a value that a line is read by
abbrev pub names_in : Scope → Names
names_in s = names_of s.names.now s.used

-- 01, The line: the end of the part behind the byte at `before`, whatever the bytes are: past their end `before` itself
unfoldable pub end_behind : Bytes → ℕ → ℕ
end_behind s before = elim (ltb before (length s)) [ true ↦ next_end s before | false ↦ before ]

-- 01, The line: `(inst NAME X MOD START C...)`: the end of NAME, whatever the bytes are: of the part behind the first five
abbrev pub name_end : Bytes → ℕ
name_end x = end_behind x 5

-- 01, The line: the end of X, the part behind it
abbrev pub place_end : Bytes → ℕ
place_end x = end_behind x (name_end x)

-- 01, The line: the end of MOD, the part behind that
abbrev pub module_end : Bytes → ℕ
module_end x = end_behind x (place_end x)

-- 01, The edge: the value of an index by the bytes u of X, whatever they are: missing where they begin with a minus, else the value of what they
-- show, at most d brackets deep
unfoldable pub index_value : Bytes → ℕ → Names → Value
index_value u d names = elim (eqb (get_or u 0 0) 45) [ true ↦ missing | false ↦ value names (decode_expr d u) ]

-- 01, The edge: the value of the index of an instance, whatever the bytes are
unfoldable pub inst_index : Bytes → ℕ → Names → Value
inst_index x d names = index_value (piece x (name_end x) (place_end x)) (d - 1) names

-- 01, The line: the number that stands between two places, whatever the bytes are: all that is no word of 32 bits gives the last one
abbrev pub number_at : Bytes → ℕ → ℕ → ℕ
number_at s before end = min (number (piece s before end)) 4294967295

-- 01, The edge: the module of an instance, whatever the bytes are: the number that stands at MOD
unfoldable pub inst_module : Bytes → ℕ
inst_module x = number_at x (place_end x) (module_end x)

-- 01, The edge: of an `inst` line: v is the value of the index of the instance, missing where it has no index
abbrev pub IndexIs : Value → Bytes → ℕ → Names → Type 0
IndexIs v x d names = (i : Inst) → ShowsItem x d (inst i) → v ≡ place_value names i.place

-- 01, The edge: of an `inst` line: m is its module
abbrev pub ModuleIs : ℕ → Bytes → ℕ → Type 0
ModuleIs m x d = (i : Inst) → ShowsItem x d (inst i) → m ≡ i.«module»

-- 01, The line: the bytes c show the connection y, which is in range, its expression at most d brackets deep
pub record ShowsConn (c : Bytes) (d : ℕ) (y : Conn) : Type 0 where
  pub shown : c ≡ show_form (bytes "conn") (show_number y.port ∷ show_expr y.signal ∷ [])
  pub deep : expr_depth y.signal ≤ d
  pub ranged : conns_in_range (y ∷ []) ≡ true

-- 01, The line: the bytes x show the connections cs behind a part of a form, which they end; each is in range, its expression at most d
-- brackets deep
pub record ShowsConns (x : Bytes) (d : ℕ) (cs : List Conn) : Type 0 where
  pub shown : x ≡ show_rest (show_conns cs)
  pub deep : conns_depth cs ≤ suc d
  pub ranged : conns_in_range cs ≡ true

-- 01, The edge; Refused because of the state: what reading a connection leaves in the graph of a module; it is read where the output o
-- reaches its input in the summary s
abbrev pub ConnRead : Bool → ℕ → Summary → Bytes → ℕ → List ℕ → Names → List ℕ → List ℕ → ℕ → Type 0
ConnRead r o s c d kinds names g g' from =
    (y : Conn) → ShowsConn c d y → (header : List Header) → KindsOf kinds header
    → (hs : List Head) (n : Node) (start : ℕ) (rs : List Node) → Heading g hs n start rs from → ReadAll r g' hs n start rs from (conn_reads header names s o (y ∷ []))

-- 01, The edge; Refused because of the state: what reading connections leaves there, in the same way
abbrev pub ConnsRead : Bool → ℕ → Summary → Bytes → ℕ → List ℕ → Names → List ℕ → List ℕ → ℕ → Type 0
ConnsRead r o s x d kinds names g g' from =
    (cs : List Conn) → ShowsConns x d cs → (header : List Header) → KindsOf kinds header
    → (hs : List Head) (n : Node) (start : ℕ) (rs : List Node) → Heading g hs n start rs from → ReadAll r g' hs n start rs from (conn_reads header names s o cs)

-- 01, The edge; Refused because of the state: what an `inst` line leaves there by heading the output o, with v as the value of its
-- index: it reads the connections to the inputs that o reaches in the summary s
abbrev pub OutputHead : Bool → ℕ → Value → Summary → Bytes → ℕ → List ℕ → Names → List ℕ → List ℕ → Type 0
OutputHead r o v s x d kinds names g g' =
    (i : Inst) → ShowsItem x d (inst i) → (header : List Header) → KindsOf kinds header
    → (hs : List Head) → Stands g hs → HeadAll r g' hs (one_head (inst_out i.name (index_of v) o) i.start (conn_reads header names s o i.conns))

-- 01, The edge; Refused because of the state: what an `inst` line leaves there by heading all outputs in the summary s, where v is the
-- value of its index
abbrev pub InstHeads : Bool → Value → Summary → Bytes → ℕ → List ℕ → Names → List ℕ → List ℕ → Type 0
InstHeads r v s x d kinds names g g' =
    (i : Inst) → ShowsItem x d (inst i) → v ≡ place_value names i.place → (header : List Header) → KindsOf kinds header
    → (hs : List Head) → Stands g hs → HeadAll r g' hs (inst_edges header names i s)
