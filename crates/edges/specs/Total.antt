-- What any bytes read, also where they show no expression and no line: the nodes, one after the other, and whether an index is outside INT.
-- 01: The line; The edge.
-- To a reader: definitions that contracts of this and other crates cite; each such contract is proved; ReadAsShown, WireAsShown, DriveAsShown and
-- InstAsShown are statements, proved in proofs/ShownLaws (read_shown, wire_shown, drive_shown, inst_shown); check_drivers' own promise cites none of them.
use Rattle.std.specs.Prelude.{◌≡◌, true, false, List, [], ◌∷◌, ℕ, zero, suc, ◌+◌, ◌-◌, drop, get_or, eqb, Option, Some, None}
use Rattle.std.proofs.Math.Option.{none}
use Rattle.spec.specs.Bytes.{Bytes, parts_from}
use Rattle.spec.specs.Syntax.{Expr, LValue, Inst, wire, drive, inst, Header}
use Rattle.spec.specs.Decode.{decode_expr}
use Rattle.spec.specs.Value.{Names, value}
use Rattle.spec.specs.Edge.{inst_out, Reads, no_reads, and_reads, name_reads, indexed_reads, expr_reads, index_reads, Summary, reaches, conn_reads}
use Rattle.runs.specs.Run.{ShowsItem}
use Rattle.lines.specs.Parts.{part_end, piece, follows}
use Rattle.edges.specs.declared.FieldOf as F
use Rattle.edges.specs.declared.FieldOf.TheVariants as of
use Rattle.edges.specs.Reads.{kind_word, KindsOf}
use Rattle.edges.specs.Shows.{ShowsExpr, one_read, name_of, indexed_name, inst_by}
use Rattle.edges.specs.Lines.{end_behind, number_at, module_end}

-- 01, The line: the parts of any bytes behind the one that ends at `end`
unfoldable pub parts_behind : Bytes → (end : ℕ) → List Bytes
parts_behind s end = elim (follows s end) [ true ↦ parts_from 0 (drop (end + 1) s) | false ↦ [] ]

-- 01, The edge: what bytes read, one after the other, f giving what each reads
unfoldable pub reads_in_order : (f : Bytes → Reads) → List Bytes → Reads
reads_in_order f [] = no_reads
reads_in_order f (e ∷ es) = and_reads (f e) (reads_in_order f es)

-- 01, The edge: what an `f` is of, by the name that its inner bytes are an index of, if any: an inst with an index, or anything else
abbrev pub index_by : List ℕ → Option ℕ → F.FieldOf
index_by kinds (Some i) = elim (inst_by kinds i) [ true ↦ of.InstAt i | false ↦ of.Other ]
index_by kinds None = of.Other

-- 01, The edge: the same by the name that they are, if any: an inst, or anything else; where they are no name, by what they are an index of
abbrev pub inner_by : List ℕ → Option ℕ → (indexed : Option ℕ) → F.FieldOf
inner_by kinds (Some i) u = elim (inst_by kinds i) [ true ↦ of.Inst i | false ↦ of.Other ]
inner_by kinds None u = index_by kinds u

-- 01, The edge: what an `f` of the bytes x is of, whatever they show
unfoldable pub field_by : List ℕ → Bytes → F.FieldOf
field_by kinds x = inner_by kinds (name_of x) (indexed_name x)

-- 01, The line: `(f E NAME)`: the bytes of E, whatever the bytes are
abbrev pub field_inner : Bytes → Bytes
field_inner e = piece e 2 (end_behind e 2)

-- 01, The line: the number that stands at its NAME
abbrev pub field_name : Bytes → ℕ
field_name e = let a = end_behind e 2 in number_at e a (end_behind e a)

-- 01, The line: `(ix E E)`: the bytes of the second E, whatever the bytes are
abbrev pub index_part : Bytes → Bytes
index_part x = let b = part_end x 4 in piece x b (end_behind x b)

-- 01, The edge: what an `f` reads, by what it is of: that output p; with an index, p at the value of the index, which is at most d brackets deep; 02, U2:
-- any other what its inner bytes read
abbrev pub output_by : Names → (d : ℕ) → F.FieldOf → (p : ℕ) → (index : Bytes) → (inner : Reads) → Reads
output_by names d (of.Inst i) p x inner = one_read (inst_out i none p)
output_by names d (of.InstAt i) p x inner = indexed_reads i (value names (decode_expr d x)) p
output_by names d of.Other p x inner = inner

-- 01, The edge: what any bytes read as an `f`, f giving what its inner bytes read, which are at most d brackets deep
unfoldable pub field_read : (f : Bytes → Reads) → (kinds : List ℕ) → Names → (d : ℕ) → Bytes → Reads
field_read f kinds names d e = let x = field_inner e in output_by names (d - 1) (field_by kinds x) (field_name e) (index_part x) (f x)

-- 01, The edge: what any bytes read as a form, f giving what its parts read: an `f` by its second byte; any other form reads all that its parts read
unfoldable pub form_read : (f : Bytes → Reads) → (kinds : List ℕ) → Names → (d : ℕ) → Bytes → Reads
form_read f kinds names d e = elim (eqb (get_or e 1 0) 102) [ true ↦ field_read f kinds names d e | false ↦ reads_in_order f (parts_behind e (part_end e 1)) ]

-- 01, The edge: what a name reads, by its kind; what is no name reads q
abbrev pub name_or : (kinds : List ℕ) → Option ℕ → (q : Reads) → Reads
name_or kinds (Some n) q = name_reads (kind_word (get_or kinds n 0)) n
name_or kinds None q = q

-- 01, The edge: what any bytes read as an expression at most d brackets deep: nothing where no bracket stands first; a name is read by its kind; a form
-- reads nothing at depth 0
unfoldable pub expr_read : (kinds : List ℕ) → Names → (d : ℕ) → Bytes → Reads
expr_read kinds names zero e = elim (eqb (get_or e 0 0) 40) [ true ↦ name_or kinds (name_of e) no_reads | false ↦ no_reads ]
expr_read kinds names (suc d) e =
    elim (eqb (get_or e 0 0) 40) [ true ↦ name_or kinds (name_of e) (form_read (expr_read kinds names d) kinds names d e) | false ↦ no_reads ]

-- 01, The edge: of bytes that show an expression at most d brackets deep that is what the expression reads
abbrev pub ReadAsShown : (kinds : List ℕ) → Names → (d : ℕ) → Bytes → Type 0
ReadAsShown kinds names d e = (x : Expr) → ShowsExpr e d x → (header : List Header) → KindsOf kinds header → expr_read kinds names d e ≡ expr_reads x header names

-- 01, The edge: what all the parts of any bytes read behind the one that ends at `end`, each at most d brackets deep
abbrev pub parts_read : (kinds : List ℕ) → Names → (d : ℕ) → Bytes → (end : ℕ) → Reads
parts_read kinds names d s end = reads_in_order (expr_read kinds names d) (parts_behind s end)

-- 01, The edge: what any bytes read as a connection, `(conn NAME E)`: E, at most d brackets deep, where the output o reaches NAME in the summary s
unfoldable pub conn_read : (kinds : List ℕ) → Names → Summary → (o d : ℕ) → Bytes → Reads
conn_read kinds names s o d c =
    let a = end_behind c 5 in
    elim (reaches o (number_at c 5 a) s) [ true ↦ expr_read kinds names d (piece c a (end_behind c a)) | false ↦ no_reads ]

-- 01, The edge: what all the connections of any bytes read behind the part that ends at `end`
abbrev pub conns_read : (kinds : List ℕ) → Names → Summary → (o d : ℕ) → Bytes → (end : ℕ) → Reads
conns_read kinds names s o d x end = reads_in_order (conn_read kinds names s o d) (parts_behind x end)

-- 01, The edge: what any bytes read as a `wire` line, `(wire NAME E START)`: what E reads
unfoldable pub wire_reads : (kinds : List ℕ) → Names → (d : ℕ) → Bytes → Reads
wire_reads kinds names d x = let a = end_behind x 5 in expr_read kinds names (d - 1) (piece x a (end_behind x a))

-- 01, The line: `(drive LV E)`: the bytes of LV, whatever the bytes are
abbrev pub drive_lv : Bytes → Bytes
drive_lv x = piece x 6 (end_behind x 6)

-- 01, The line; The edge: what any bytes read as a `drive` line, `(drive LV E)`: what E reads, then what the indexes of LV read, which stand behind its
-- START
unfoldable pub drive_reads : (kinds : List ℕ) → Names → (d : ℕ) → Bytes → Reads
drive_reads kinds names d x =
    let a = end_behind x 6 in
    let lv = drive_lv x in
    and_reads (expr_read kinds names (d - 1) (piece x a (end_behind x a))) (parts_read kinds names (d - 2) lv (end_behind lv (end_behind lv 3)))

-- 01, The edge: what any bytes read as an `inst` line for the output o: the connections, which stand behind START, to the inputs that o reaches in the
-- summary s
unfoldable pub inst_reads : (kinds : List ℕ) → Names → Summary → (d : ℕ) → Bytes → (o : ℕ) → Reads
inst_reads kinds names s d x o = conns_read kinds names s o (d - 2) x (end_behind x (module_end x))

-- 01, The edge: of bytes that show a `wire` line that is what its expression reads
abbrev pub WireAsShown : (kinds : List ℕ) → Names → (d : ℕ) → Bytes → Type 0
WireAsShown kinds names d x = (n : ℕ) (e : Expr) (start : ℕ) → ShowsItem x d (wire n e start) → (header : List Header) → KindsOf kinds header → wire_reads kinds names d x ≡ expr_reads e header names

-- 01, The edge: of bytes that show a `drive` line what its expression and then its indexes read
abbrev pub DriveAsShown : (kinds : List ℕ) → Names → (d : ℕ) → Bytes → Type 0
DriveAsShown kinds names d x =
    (lv : LValue) (e : Expr) → ShowsItem x d (drive lv e) → (header : List Header) → KindsOf kinds header
    → drive_reads kinds names d x ≡ and_reads (expr_reads e header names) (index_reads header names lv.index)

-- 01, The edge: of bytes that show an `inst` line what its connections to the inputs read that o reaches in the summary s
abbrev pub InstAsShown : (kinds : List ℕ) → Names → Summary → (d : ℕ) → Bytes → (o : ℕ) → Type 0
InstAsShown kinds names s d x o = (i : Inst) → ShowsItem x d (inst i) → (header : List Header) → KindsOf kinds header → inst_reads kinds names s d x o ≡ conn_reads header names s o i.conns
