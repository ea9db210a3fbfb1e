-- Bytes as a tree, for all bytes: by the parts of a form and its head word, with the depth of brackets as fuel. Bytes that show
-- no tree give some tree; Refusal tells them apart. 01: The line.
-- To a reader: definitions, pinned by Reading.Reading (proved in proofs/Reading); depth_limit is to believe.
use Rattle.std.specs.Prelude.{true, false, List, [], ◌∷◌, ℕ, zero, suc}
use Rattle.spec.specs.Bytes.{Bytes, bytes, lookup_word, number, integer, is_form, parts}
use Rattle.spec.specs.Syntax.{Kind, in_kind, out_kind, wire_kind, reg_kind, mem_kind, inst_kind, Unary, neg, not, clog2, Binary, add, sub, mul, eq, ne, lt, le, gt, ge, and, or, shl, shr, band, bor, bxor, Expr, Exprs, lit, truth, name, field, index, if_else, unary, binary, all, Width, bit, opaque, bits, signed, Index, whole, at_bit, high_low, LValue, Stmt, Stmts, set, default, loop, when, Dir, input, output, Place, single, at, Conn, Item, Items, port, wire, reg, mem, const, drive, on, inst, repeat, const_if, kind, val, Line, module_line, header_line, item_line}
use Rattle.spec.specs.Show.{show_kind, show_unary, show_binary, show_truth, show_dir, show_bound}

-- 01, The line: to 32 brackets deep; 33 deep is 3.
abbrev pub depth_limit : ℕ
depth_limit = 32

-- 01, The line: a form's parts behind its head, where there are just so many, and `d` where there are not: here one.
abbrev pub with_one : {A : Type 0} → A → (Bytes → A) → List Bytes → A
with_one d f [] = d
with_one d f (a ∷ []) = f a
with_one d f (a ∷ b ∷ l) = d

-- 01, The line: two parts.
abbrev pub with_two : {A : Type 0} → A → (Bytes → Bytes → A) → List Bytes → A
with_two d f [] = d
with_two d f (a ∷ l) = with_one d (f a) l

-- 01, The line: three parts.
abbrev pub with_three : {A : Type 0} → A → (Bytes → Bytes → Bytes → A) → List Bytes → A
with_three d f [] = d
with_three d f (a ∷ l) = with_two d (f a) l

-- 01, The line: four parts.
abbrev pub with_four : {A : Type 0} → A → (Bytes → Bytes → Bytes → Bytes → A) → List Bytes → A
with_four d f [] = d
with_four d f (a ∷ l) = with_three d (f a) l

-- 01, The line: the head word of a form and what is behind it.
unfoldable pub by_head : {A H : Type 0} → List (Bytes × H) → H → A → (H → List Bytes → A) → Bytes → A
by_head table other d f s = elim (parts s) [ [] ↦ d | h ∷ ps ↦ f (lookup_word table other h) ps ]

-- 01, The line: the heads of E.
pub data ExprHead : Type 0 where
  name_head field_head index_head if_head all_head no_expr : ExprHead
  unary_head : Unary → ExprHead
  binary_head : Binary → ExprHead

-- 01, The line: the heads of E and their words.
unfoldable pub expr_heads : List (Bytes × ExprHead)
expr_heads =
    (bytes "n", name_head) ∷ (bytes "f", field_head) ∷ (bytes "ix", index_head) ∷ (bytes "if", if_head) ∷ (bytes "all", all_head)
    ∷ (show_unary neg, unary_head neg) ∷ (show_unary not, unary_head not) ∷ (show_unary clog2, unary_head clog2)
    ∷ (show_binary add, binary_head add) ∷ (show_binary sub, binary_head sub) ∷ (show_binary mul, binary_head mul)
    ∷ (show_binary eq, binary_head eq) ∷ (show_binary ne, binary_head ne) ∷ (show_binary lt, binary_head lt)
    ∷ (show_binary le, binary_head le) ∷ (show_binary gt, binary_head gt) ∷ (show_binary ge, binary_head ge)
    ∷ (show_binary and, binary_head and) ∷ (show_binary or, binary_head or) ∷ (show_binary shl, binary_head shl)
    ∷ (show_binary shr, binary_head shr) ∷ (show_binary band, binary_head band) ∷ (show_binary bor, binary_head bor)
    ∷ (show_binary bxor, binary_head bxor) ∷ []

-- 01, The line: what bytes give that are no expression.
abbrev pub no_value : Expr
no_value = all Exprs.none

-- 01, The line: E..., f giving each.
unfoldable pub exprs_by : (Bytes → Expr) → List Bytes → Exprs
exprs_by f [] = Exprs.none
exprs_by f (s ∷ l) = Exprs.more (f s) (exprs_by f l)

-- 01, The line: E of each head, f giving its parts.
unfoldable pub expr_by : (Bytes → Expr) → ExprHead → List Bytes → Expr
expr_by f name_head ps = with_one no_value (λ n. name (number n)) ps
expr_by f field_head ps = with_two no_value (λ e n. field (f e) (number n)) ps
expr_by f index_head ps = with_two no_value (λ e i. index (f e) (f i)) ps
expr_by f if_head ps = with_three no_value (λ c a b. if_else (f c) (f a) (f b)) ps
expr_by f all_head ps = all (exprs_by f ps)
expr_by f no_expr ps = no_value
expr_by f (unary_head o) ps = with_one no_value (λ a. unary o (f a)) ps
expr_by f (binary_head o) ps = with_two no_value (λ a b. binary o (f a) (f b)) ps

-- 01, The line: E without brackets: `true`, `false`, a literal.
unfoldable pub decode_atom : Bytes → Expr
decode_atom s = lookup_word ((show_truth true, truth true) ∷ (show_truth false, truth false) ∷ []) (lit (number s)) s

-- 01, The line: E.
unfoldable pub decode_expr : ℕ → Bytes → Expr
decode_expr zero s = decode_atom s
decode_expr (suc d) s = elim (is_form s) [ true ↦ by_head expr_heads no_expr no_value (expr_by (decode_expr d)) s | false ↦ decode_atom s ]

-- 01, The line: the heads of T.
pub data WidthHead : Type 0 where
  bits_head signed_head no_width : WidthHead

-- 01, The line: T of each head, f giving its E.
unfoldable pub width_by : (Bytes → Expr) → WidthHead → List Bytes → Width
width_by f bits_head ps = with_one opaque (λ e. bits (f e)) ps
width_by f signed_head ps = with_one opaque (λ e. signed (f e)) ps
width_by f no_width ps = opaque

-- 01, The line: T.
unfoldable pub decode_width : ℕ → Bytes → Width
decode_width zero s = lookup_word ((bytes "bit", bit) ∷ []) opaque s
decode_width (suc d) s =
    elim (is_form s) [
      | true ↦ by_head ((bytes "bits", bits_head) ∷ (bytes "signed", signed_head) ∷ []) no_width opaque (width_by (decode_expr d)) s
      | false ↦ lookup_word ((bytes "bit", bit) ∷ []) opaque s
    ]

-- 01, The line: what bytes give that are no LV.
abbrev pub no_lvalue : LValue
no_lvalue = record { name = 0; start = 0; index = whole }

-- 01, The line: of LV: nothing, one E or two.
unfoldable pub index_by : (Bytes → Expr) → List Bytes → Index
index_by f [] = whole
index_by f (e ∷ []) = at_bit (f e)
index_by f (h ∷ l ∷ ps) = high_low (f h) (f l)

-- 01, The line: the parts of LV.
unfoldable pub lvalue_by : (Bytes → Expr) → List Bytes → LValue
lvalue_by f [] = no_lvalue
lvalue_by f (n ∷ []) = no_lvalue
lvalue_by f (n ∷ start ∷ ps) = record { name = number n; start = number start; index = index_by f ps }

-- 01, The line: LV.
unfoldable pub decode_lvalue : ℕ → Bytes → LValue
decode_lvalue zero s = no_lvalue
decode_lvalue (suc d) s =
    by_head ((bytes "lv", true) ∷ []) false no_lvalue (λ h ps. elim h [ true ↦ lvalue_by (decode_expr d) ps | false ↦ no_lvalue ]) s

-- 01, The line: the heads of S.
pub data StmtHead : Type 0 where
  set_head default_head loop_head when_head no_stmt : StmtHead

-- 01, The line: the heads of S and their words.
unfoldable pub stmt_heads : List (Bytes × StmtHead)
stmt_heads = (bytes "set", set_head) ∷ (bytes "default", default_head) ∷ (bytes "loop", loop_head) ∷ (bytes "when", when_head) ∷ []

-- 01, The line: what bytes give that are no S.
abbrev pub no_statement : Stmt
no_statement = loop Stmts.none

-- 01, The line: S..., f giving each.
unfoldable pub stmts_by : (Bytes → Stmt) → List Bytes → Stmts
stmts_by f [] = Stmts.none
stmts_by f (s ∷ l) = Stmts.more (f s) (stmts_by f l)

-- 01, The line: the statements of `(then S...)` or `(else S...)`.
unfoldable pub stmts_in : Bytes → (Bytes → Stmt) → Bytes → Stmts
stmts_in w f s = by_head ((w, true) ∷ []) false Stmts.none (λ h ps. elim h [ true ↦ stmts_by f ps | false ↦ Stmts.none ]) s

-- 01, The line: S of each head; f gives the statements of `loop`, `th` and `el` those of `then` and `else`.
unfoldable pub stmt_by : (Bytes → Stmt) → (Bytes → Stmts) → (Bytes → Stmts) → StmtHead → List Bytes → Stmt
stmt_by f th el set_head ps = with_two no_statement (λ n start. set (number n) (number start)) ps
stmt_by f th el default_head ps = with_one no_statement (λ n. default (number n)) ps
stmt_by f th el loop_head ps = loop (stmts_by f ps)
stmt_by f th el when_head ps = with_two no_statement (λ a b. when (th a) (el b)) ps
stmt_by f th el no_stmt ps = no_statement

-- 01, The line: S. `when` holds `then` and `else`, so that its statements stand two brackets deeper.
unfoldable pub decode_stmt : ℕ → Bytes → Stmt
decode_stmt zero s = no_statement
decode_stmt (suc zero) s = by_head stmt_heads no_stmt no_statement (stmt_by (λ t. no_statement) (λ t. Stmts.none) (λ t. Stmts.none)) s
decode_stmt (suc (suc d)) s =
    by_head stmt_heads no_stmt no_statement
    (stmt_by (decode_stmt (suc d)) (stmts_in (bytes "then") (decode_stmt d)) (stmts_in (bytes "else") (decode_stmt d))) s

-- 01, The line: X.
unfoldable pub decode_place : ℕ → Bytes → Place
decode_place d s = lookup_word ((bytes "-", single) ∷ []) (at (decode_expr d s)) s

-- 01, The line: what bytes give that are no C.
abbrev pub no_conn : Conn
no_conn = record { port = 0; signal = no_value }

-- 01, The line: C.
unfoldable pub decode_conn : ℕ → Bytes → Conn
decode_conn zero s = no_conn
decode_conn (suc d) s =
    by_head ((bytes "conn", true) ∷ []) false no_conn
    (λ h ps. elim h [ true ↦ with_two no_conn (λ n e. record { port = number n; signal = decode_expr d e }) ps | false ↦ no_conn ]) s

-- 01, The line: C...
unfoldable pub decode_conns : ℕ → List Bytes → List Conn
decode_conns d [] = []
decode_conns d (s ∷ l) = decode_conn d s ∷ decode_conns d l

-- 01, The line: the heads of items.
pub data ItemHead : Type 0 where
  port_head wire_head reg_head mem_head const_head drive_head on_head inst_head repeat_head const_if_head no_item : ItemHead

-- 01, The line: the heads of items and their words.
unfoldable pub item_heads : List (Bytes × ItemHead)
item_heads =
    (bytes "port", port_head) ∷ (bytes "wire", wire_head) ∷ (bytes "reg", reg_head) ∷ (bytes "mem", mem_head)
    ∷ (bytes "const", const_head) ∷ (bytes "drive", drive_head) ∷ (bytes "on", on_head) ∷ (bytes "inst", inst_head)
    ∷ (bytes "repeat", repeat_head) ∷ (bytes "constif", const_if_head) ∷ []

-- 01, The line: what bytes give that are no item.
abbrev pub nothing : Item
nothing = on 0 Stmts.none

-- 01, The line: I..., f giving each.
unfoldable pub items_by : (Bytes → Item) → List Bytes → Items
items_by f [] = Items.none
items_by f (s ∷ l) = Items.more (f s) (items_by f l)

-- 01, The line: the items of `(then I...)` or `(else I...)`.
unfoldable pub items_in : Bytes → (Bytes → Item) → Bytes → Items
items_in w f s = by_head ((w, true) ∷ []) false Items.none (λ h ps. elim h [ true ↦ items_by f ps | false ↦ Items.none ]) s

-- 01, The line: `in` or `out` of a `port`.
unfoldable pub decode_dir : Bytes → Dir
decode_dir s = lookup_word ((show_dir output, output) ∷ []) input s

-- 01, The line: the parts of `on`.
unfoldable pub on_by : ℕ → List Bytes → Item
on_by d [] = nothing
on_by d (start ∷ ps) = on (number start) (stmts_by (decode_stmt d) ps)

-- 01, The line: the parts of `inst`.
unfoldable pub inst_by : ℕ → List Bytes → Item
inst_by d [] = nothing
inst_by d (n ∷ []) = nothing
inst_by d (n ∷ x ∷ []) = nothing
inst_by d (n ∷ x ∷ m ∷ []) = nothing
inst_by d (n ∷ x ∷ m ∷ start ∷ cs) =
    inst (record { name = number n; place = decode_place d x; «module» = number m; start = number start; conns = decode_conns d cs })

-- 01, The line: the parts of `repeat`, f giving its items.
unfoldable pub repeat_by : ℕ → (Bytes → Item) → List Bytes → Item
repeat_by d f [] = nothing
repeat_by d f (n ∷ []) = nothing
repeat_by d f (n ∷ low ∷ []) = nothing
repeat_by d f (n ∷ low ∷ high ∷ is) = repeat (number n) (decode_expr d low) (decode_expr d high) (items_by f is)

-- 01, The line: an item of each head, in a form that is itself d brackets below the limit; `th` and `el` give the items of `then` and
-- `else`.
unfoldable pub item_by : ℕ → (Bytes → Item) → (Bytes → Items) → (Bytes → Items) → ItemHead → List Bytes → Item
item_by d f th el port_head ps = with_four nothing (λ w n t start. port (decode_dir w) (number n) (decode_width d t) (number start)) ps
item_by d f th el wire_head ps = with_three nothing (λ n e start. wire (number n) (decode_expr d e) (number start)) ps
item_by d f th el reg_head ps = with_two nothing (λ n start. reg (number n) (number start)) ps
item_by d f th el mem_head ps = with_two nothing (λ n start. mem (number n) (number start)) ps
item_by d f th el const_head ps = with_two nothing (λ n e. const (number n) (decode_expr d e)) ps
item_by d f th el drive_head ps = with_two nothing (λ lv e. drive (decode_lvalue d lv) (decode_expr d e)) ps
item_by d f th el on_head ps = on_by d ps
item_by d f th el inst_head ps = inst_by d ps
item_by d f th el repeat_head ps = repeat_by d f ps
item_by d f th el const_if_head ps = with_three nothing (λ c a b. const_if (decode_expr d c) (th a) (el b)) ps
item_by d f th el no_item ps = nothing

-- 01, The line: an item. `constif` holds `then` and `else`, so that its items stand two brackets deeper.
unfoldable pub decode_item : ℕ → Bytes → Item
decode_item zero s = nothing
decode_item (suc zero) s = by_head item_heads no_item nothing (item_by 0 (λ t. nothing) (λ t. Items.none) (λ t. Items.none)) s
decode_item (suc (suc d)) s =
    by_head item_heads no_item nothing
    (item_by (suc d) (decode_item (suc d)) (items_in (bytes "then") (decode_item d)) (items_in (bytes "else") (decode_item d))) s

-- 01, The line: `module`, `kind`, `val`, or an item.
pub data LineHead : Type 0 where
  module_head kind_head val_head item_head : LineHead

-- 01, The line: K and its words; `inst` is what is left.
unfoldable pub kinds : List (Bytes × Kind)
kinds =
    (show_kind in_kind, in_kind) ∷ (show_kind out_kind, out_kind) ∷ (show_kind wire_kind, wire_kind)
    ∷ (show_kind reg_kind, reg_kind) ∷ (show_kind mem_kind, mem_kind) ∷ []

-- 01, The line: a line of each head.
unfoldable pub line_by : Bytes → LineHead → List Bytes → Line
line_by s module_head ps = with_two (item_line nothing) (λ m b. module_line (number m) (lookup_word ((show_bound true, true) ∷ []) false b)) ps
line_by s kind_head ps = with_two (item_line nothing) (λ n k. header_line (kind (number n) (lookup_word kinds inst_kind k))) ps
line_by s val_head ps = with_two (item_line nothing) (λ n i. header_line (val (number n) (integer i))) ps
line_by s item_head ps = item_line (decode_item depth_limit s)

-- 01, The line: each line is one form.
unfoldable pub decode_line : Bytes → Line
decode_line s =
    by_head ((bytes "module", module_head) ∷ (bytes "kind", kind_head) ∷ (bytes "val", val_head) ∷ []) item_head (item_line nothing) (line_by s) s
