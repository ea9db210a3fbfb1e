-- A tree as bytes, exactly as its line stands in the text. 01: The line.
-- To a reader: definitions to believe.
use Rattle.std.specs.Prelude.{Bool, true, false, List, [], ◌∷◌, ◌++◌, ℕ, suc}
use Rattle.spec.specs.Bytes.{Bytes, bytes, show_number, show_int, show_form}
use Rattle.spec.specs.Syntax.{Kind, in_kind, out_kind, wire_kind, reg_kind, mem_kind, inst_kind, Unary, neg, not, clog2, Binary, add, sub, mul, eq, ne, lt, le, gt, ge, and, or, shl, shr, band, bor, bxor, Expr, Exprs, lit, truth, name, field, index, if_else, unary, binary, all, Width, bit, opaque, bits, signed, Index, whole, at_bit, high_low, LValue, Stmt, Stmts, set, default, loop, when, Dir, input, output, Place, single, at, Conn, Item, Items, port, wire, reg, mem, const, drive, on, inst, repeat, const_if, Header, kind, val, Design, Line, module_line, header_line, item_line}

-- 01, The line: K.
abbrev pub show_kind : Kind → Bytes
show_kind in_kind = bytes "in"
show_kind out_kind = bytes "out"
show_kind wire_kind = bytes "wire"
show_kind reg_kind = bytes "reg"
show_kind mem_kind = bytes "mem"
show_kind inst_kind = bytes "inst"

-- 01, The line: the words of E.
abbrev pub show_unary : Unary → Bytes
show_unary neg = bytes "neg"
show_unary not = bytes "not"
show_unary clog2 = bytes "clog2"

-- 01, The line: the two-part words of E.
abbrev pub show_binary : Binary → Bytes
show_binary add = bytes "add"
show_binary sub = bytes "sub"
show_binary mul = bytes "mul"
show_binary eq = bytes "eq"
show_binary ne = bytes "ne"
show_binary lt = bytes "lt"
show_binary le = bytes "le"
show_binary gt = bytes "gt"
show_binary ge = bytes "ge"
show_binary and = bytes "and"
show_binary or = bytes "or"
show_binary shl = bytes "shl"
show_binary shr = bytes "shr"
show_binary band = bytes "band"
show_binary bor = bytes "bor"
show_binary bxor = bytes "bxor"

-- 01, The line: `true`, `false`.
abbrev pub show_truth : Bool → Bytes
show_truth true = bytes "true"
show_truth false = bytes "false"

-- 01, The line: E.
unfoldable mutual
  pub show_expr : Expr → Bytes
  show_expr (lit n) = show_number n
  show_expr (truth b) = show_truth b
  show_expr (name n) = show_form (bytes "n") (show_number n ∷ [])
  show_expr (field e n) = show_form (bytes "f") (show_expr e ∷ show_number n ∷ [])
  show_expr (index e i) = show_form (bytes "ix") (show_expr e ∷ show_expr i ∷ [])
  show_expr (if_else c a b) = show_form (bytes "if") (show_expr c ∷ show_expr a ∷ show_expr b ∷ [])
  show_expr (unary o a) = show_form (show_unary o) (show_expr a ∷ [])
  show_expr (binary o a b) = show_form (show_binary o) (show_expr a ∷ show_expr b ∷ [])
  show_expr (all es) = show_form (bytes "all") (show_exprs es)

  pub show_exprs : Exprs → List Bytes
  show_exprs Exprs.none = []
  show_exprs (Exprs.more e es) = show_expr e ∷ show_exprs es

-- 01, The line: T.
unfoldable pub show_width : Width → Bytes
show_width bit = bytes "bit"
show_width opaque = bytes "opaque"
show_width (bits e) = show_form (bytes "bits") (show_expr e ∷ [])
show_width (signed e) = show_form (bytes "signed") (show_expr e ∷ [])

-- 01, The line: LV.
unfoldable pub show_index : Index → List Bytes
show_index whole = []
show_index (at_bit e) = show_expr e ∷ []
show_index (high_low h l) = show_expr h ∷ show_expr l ∷ []

-- 01, The line: LV.
unfoldable pub show_lvalue : LValue → Bytes
show_lvalue lv = show_form (bytes "lv") (show_number lv.name ∷ show_number lv.start ∷ show_index lv.index)

-- 01, The line: S.
unfoldable mutual
  pub show_stmt : Stmt → Bytes
  show_stmt (set n start) = show_form (bytes "set") (show_number n ∷ show_number start ∷ [])
  show_stmt (default n) = show_form (bytes "default") (show_number n ∷ [])
  show_stmt (loop ss) = show_form (bytes "loop") (show_stmts ss)
  show_stmt (when ss ts) = show_form (bytes "when") (show_form (bytes "then") (show_stmts ss) ∷ show_form (bytes "else") (show_stmts ts) ∷ [])

  pub show_stmts : Stmts → List Bytes
  show_stmts Stmts.none = []
  show_stmts (Stmts.more s ss) = show_stmt s ∷ show_stmts ss

-- 01, The line: `in` or `out` of a `port`.
abbrev pub show_dir : Dir → Bytes
show_dir input = bytes "in"
show_dir output = bytes "out"

-- 01, The line: X.
unfoldable pub show_place : Place → Bytes
show_place single = bytes "-"
show_place (at e) = show_expr e

-- 01, The line: C.
unfoldable pub show_conns : List Conn → List Bytes
show_conns [] = []
show_conns (c ∷ cs) = show_form (bytes "conn") (show_number c.port ∷ show_expr c.signal ∷ []) ∷ show_conns cs

-- 01, The line: items.
unfoldable mutual
  pub show_item : Item → Bytes
  show_item (port d n w start) = show_form (bytes "port") (show_dir d ∷ show_number n ∷ show_width w ∷ show_number start ∷ [])
  show_item (wire n e start) = show_form (bytes "wire") (show_number n ∷ show_expr e ∷ show_number start ∷ [])
  show_item (reg n start) = show_form (bytes "reg") (show_number n ∷ show_number start ∷ [])
  show_item (mem n start) = show_form (bytes "mem") (show_number n ∷ show_number start ∷ [])
  show_item (const n e) = show_form (bytes "const") (show_number n ∷ show_expr e ∷ [])
  show_item (drive lv e) = show_form (bytes "drive") (show_lvalue lv ∷ show_expr e ∷ [])
  show_item (on start ss) = show_form (bytes "on") (show_number start ∷ show_stmts ss)
  show_item (inst i) = show_form (bytes "inst") (show_number i.name ∷ show_place i.place ∷ show_number i.«module» ∷ show_number i.start ∷ show_conns i.conns)
  show_item (repeat n low high is) = show_form (bytes "repeat") (show_number n ∷ show_expr low ∷ show_expr high ∷ show_items is)
  show_item (const_if c is js) = show_form (bytes "constif") (show_expr c ∷ show_form (bytes "then") (show_items is) ∷ show_form (bytes "else") (show_items js) ∷ [])

  pub show_items : Items → List Bytes
  show_items Items.none = []
  show_items (Items.more i is) = show_item i ∷ show_items is

-- 01, The line: `bound` or `unbound`.
abbrev pub show_bound : Bool → Bytes
show_bound true = bytes "bound"
show_bound false = bytes "unbound"

-- 01, The line: `(kind NAME K)` and `(val NAME INT)`.
unfoldable pub show_header : Header → Bytes
show_header (kind n k) = show_form (bytes "kind") (show_number n ∷ show_kind k ∷ [])
show_header (val n i) = show_form (bytes "val") (show_number n ∷ show_int i ∷ [])

-- 01, The line: each line is one form.
unfoldable pub show_line : Line → Bytes
show_line (module_line m b) = show_form (bytes "module") (show_number m ∷ show_bound b ∷ [])
show_line (header_line h) = show_header h
show_line (item_line i) = show_item i

-- 01, The line: `kind` and `val` lines, and then the lines ls.
unfoldable pub header_lines : List Header → List Line → List Line
header_lines [] ls = ls
header_lines (h ∷ hs) ls = header_line h ∷ header_lines hs ls

-- 01, The line: items, and then the lines ls.
unfoldable pub item_lines : Items → List Line → List Line
item_lines Items.none ls = ls
item_lines (Items.more i is) ls = item_line i ∷ item_lines is ls

-- 01, The line: the lines of a design: of each module its `module` line, M counting on from m, its header and its items.
unfoldable pub design_lines : ℕ → Design → List Line
design_lines m [] = []
design_lines m (k ∷ ms) = module_line m k.bound ∷ header_lines k.header (item_lines k.items (design_lines (suc m) ms))

-- 01, The line: each line is followed by a line feed.
unfoldable pub show_lines : List Line → Bytes
show_lines [] = []
show_lines (l ∷ ls) = show_line l ++ 10 ∷ show_lines ls

-- 01, The line: the text that is a design.
unfoldable pub show_design : Design → Bytes
show_design d = show_lines (design_lines 0 d)
