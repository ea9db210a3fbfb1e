-- Expressions as the code reads them: by the first bytes of a form, and then part by part. 01: The line; The edge; Refused because of the
-- state.
-- To a reader: definitions that the contracts of this crate cite; each such contract is proved; NamedBy, IndexedBy and FieldOfIs are
-- statements, proved in proofs/ExprLaws (name_is) and proofs/FieldLaws (indexed_is, field_is); check_drivers' own promise cites none of them.
use Rattle.std.specs.Prelude.{◌≡◌, Bool, true, false, ◌&&◌, List, [], ◌∷◌, ℕ, suc, ◌≤◌, get_or, eqb, ltb, Option, Some, None}
use Rattle.spec.specs.Bytes.{Bytes, number, show_rest}
use Rattle.spec.specs.Syntax.{Expr, Exprs, name, field, index, Header}
use Rattle.spec.specs.Show.{show_expr, show_exprs}
use Rattle.spec.specs.Refusal.{expr_in_range, exprs_in_range, expr_depth, exprs_depth}
use Rattle.spec.specs.Value.{Names}
use Rattle.spec.specs.Site.{kind_of}
use Rattle.spec.specs.Edge.{Node, Reads, name_reads, is_inst, an_inst, an_inst_at, no_inst, field_of, expr_reads, exprs_reads, Head}
use Rattle.lines.specs.Parts.{part_end, piece}
use Rattle.graph.specs.Stands.{Heading}
use Rattle.edges.specs.declared.FieldOf as F
use Rattle.edges.specs.declared.FieldOf.TheVariants as of
use Rattle.edges.specs.Reads.{kind_word, KindsOf, ReadAll}

-- 01, The line: the bytes e show x, which is in range and at most d brackets deep
pub record ShowsExpr (e : Bytes) (d : ℕ) (x : Expr) : Type 0 where
  pub shown : e ≡ show_expr x
  pub deep : expr_depth x ≤ d
  pub ranged : expr_in_range x ≡ true

-- 01, The edge; Refused because of the state: what reading q leaves in the graph of a module, whatever was headed and read before
abbrev pub NodesRead : Bool → Reads → List ℕ → List ℕ → ℕ → Type 0
NodesRead r q g g' from = (hs : List Head) (n : Node) (start : ℕ) (rs : List Node) → Heading g hs n start rs from → ReadAll r g' hs n start rs from q

-- 01, The edge; Refused because of the state: what reading the bytes e, whatever they show, leaves there
abbrev pub ExprRead : Bool → Bytes → ℕ → List ℕ → Names → List ℕ → List ℕ → ℕ → Type 0
ExprRead r e d kinds names g g' from = (x : Expr) → ShowsExpr e d x → (header : List Header) → KindsOf kinds header → NodesRead r (expr_reads x header names) g g' from

-- 01, The edge; Refused because of the state: what reading the name m, by its kind, leaves there
abbrev pub NameRead : Bool → ℕ → List ℕ → List ℕ → List ℕ → ℕ → Type 0
NameRead r m kinds g g' from = (header : List Header) → KindsOf kinds header → NodesRead r (name_reads (kind_of header m) m) g g' from

-- 01, The edge: one node is read
abbrev pub one_read : Node → Reads
one_read n = record { nodes = n ∷ []; out = false }

-- 01, The line: whether the bytes x begin with a bracket and then a
abbrev pub opens : Bytes → ℕ → Bool
opens x a = eqb (get_or x 0 0) 40 && eqb (get_or x 1 0) a

-- 01, The line: whether the bytes x begin with a bracket and then a and b
unfoldable pub begins : Bytes → ℕ → ℕ → Bool
begins x a b = opens x a && eqb (get_or x 2 0) b

-- 01, The edge: a number as a name, none where it is no word of 32 bits
abbrev pub as_name : ℕ → Option ℕ
as_name n = elim (ltb 4294967295 n) [ true ↦ None | false ↦ Some n ]

-- 01, The edge: the name that the bytes x are, whatever they show: `(n ` and its number, or none
unfoldable pub name_of : Bytes → Option ℕ
name_of x = elim (begins x 110 32) [ true ↦ as_name (number (piece x 2 (part_end x 3))) | false ↦ None ]

-- 01, The edge: the name that the bytes x are an index of, whatever they show: `(ix` and the name that its first part is, or none
unfoldable pub indexed_name : Bytes → Option ℕ
indexed_name x = elim (begins x 105 120) [ true ↦ name_of (piece x 3 (part_end x 4)) | false ↦ None ]

-- 01, The edge: whether the name i is an inst, whatever the bytes of the table of kinds are
abbrev pub inst_by : List ℕ → ℕ → Bool
inst_by kinds i = is_inst (kind_word (get_or kinds i 0))

-- 01, The edge: what looking for a name says of an expression: it is that name, or it is none
abbrev pub NamedBy : Option ℕ → Expr → Type 0
NamedBy (Some n) x = x ≡ name n
NamedBy None x = (n : ℕ) → x ≡ name n → ⊥

-- 01, The edge: what looking for an index of a name says of an expression: it is one of that name, or it is none
abbrev pub IndexedBy : Option ℕ → Expr → Type 0
IndexedBy (Some n) x = (e : Expr) × (x ≡ index (name n) e)
IndexedBy None x = (n : ℕ) (e : Expr) → x ≡ index (name n) e → ⊥

-- 01, The edge: what the code says of an `f` of x
abbrev pub SaysOf : F.FieldOf → List Header → Expr → Type 0
SaysOf (of.Inst i) hs x = field_of hs x ≡ an_inst i
SaysOf (of.InstAt i) hs x = (e : Expr) × (x ≡ index (name i) e) × (field_of hs x ≡ an_inst_at i e)
SaysOf of.Other hs x = field_of hs x ≡ no_inst

-- 01, The edge: the same of the bytes x, whatever they show
abbrev pub FieldOfIs : F.FieldOf → Bytes → List ℕ → Type 0
FieldOfIs r x kinds = (y : Expr) (d : ℕ) → ShowsExpr x d y → (header : List Header) → KindsOf kinds header → SaysOf r header y

-- 01, The edge; Refused because of the state: what reading the bytes e of an `f` leaves in the graph of a module, what it is of being at
-- most d brackets deep
abbrev pub FieldRead : Bool → Bytes → ℕ → List ℕ → Names → List ℕ → List ℕ → ℕ → Type 0
FieldRead r e d kinds names g g' from =
    (y : Expr) (p : ℕ) → ShowsExpr e (suc d) (field y p) → (header : List Header) → KindsOf kinds header → NodesRead r (expr_reads (field y p) header names) g g' from

-- 01, The line: the bytes s show the expressions es behind a part of a form, which they end; each is in range and at most d brackets deep
pub record ShowsExprs (s : Bytes) (d : ℕ) (es : Exprs) : Type 0 where
  pub shown : s ≡ show_rest (show_exprs es)
  pub deep : exprs_depth es ≤ d
  pub ranged : exprs_in_range es ≡ true

-- 01, The edge; Refused because of the state: what reading those bytes leaves in the graph of a module
abbrev pub PartsRead : Bool → Bytes → ℕ → List ℕ → Names → List ℕ → List ℕ → ℕ → Type 0
PartsRead r s d kinds names g g' from =
    (es : Exprs) → ShowsExprs s d es → (header : List Header) → KindsOf kinds header → NodesRead r (exprs_reads es header names) g g' from
