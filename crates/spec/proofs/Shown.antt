-- Decoding inverts showing: the line that shows a tree decodes to the tree, is one form as deep as the tree, and has bytes of the set.
-- Assumes nothing.
use mathlib.Core.Path.{◌≡◌, refl, ap, ap₂, ◌∙◌}
use mathlib.Core.Bool.{Bool, true, false}
use mathlib.Core.List.{List, [], ◌∷◌}
use Prim.Native.Nat.{ℕ, zero, suc, ◌≤◌, max}
use native.Mathlib.Omega.{arith}
use lib.Dec.{leb}
use borrow.Author.Tests.{eq-eqb}
use Rattle.spec.specs.Bytes.{Bytes, bytes, same_bytes, lookup_word, show_number, show_form, is_form}
use Rattle.spec.specs.Syntax.{Kind, in_kind, out_kind, wire_kind, reg_kind, mem_kind, inst_kind, Unary, neg, not, clog2, Binary, add, sub, mul, eq, ne, lt, le, gt, ge, and, or, shl, shr, band, bor, bxor, Expr, Exprs, lit, truth, name, field, index, if_else, unary, binary, all, Width, bit, opaque, bits, signed, Index, whole, at_bit, high_low, LValue, Stmt, Stmts, set, default, loop, when, Dir, input, output, Place, single, at, Conn, Item, Items, port, wire, reg, mem, const, drive, on, inst, repeat, const_if, kind, val, Line, module_line, header_line, item_line}
use Rattle.spec.specs.Show.{show_kind, show_unary, show_binary, show_truth, show_expr, show_exprs, show_width, show_index, show_lvalue, show_stmt, show_stmts, show_dir, show_place, show_conns, show_item, show_items, show_bound, show_header, show_line}
use Rattle.spec.specs.Decode.{depth_limit, by_head, ExprHead, unary_head, binary_head, no_expr, expr_heads, no_value, exprs_by, expr_by, decode_atom, decode_expr, WidthHead, bits_head, signed_head, no_width, width_by, decode_width, no_lvalue, index_by, lvalue_by, decode_lvalue, StmtHead, no_stmt, stmt_heads, no_statement, stmts_by, stmts_in, stmt_by, decode_stmt, decode_place, no_conn, decode_conn, decode_conns, ItemHead, no_item, item_heads, nothing, items_by, items_in, decode_dir, on_by, inst_by, repeat_by, item_by, decode_item, LineHead, module_head, kind_head, val_head, item_head, kinds, line_by, decode_line}
use Rattle.spec.specs.Refusal.{one_form, expr_depth, exprs_depth, width_depth, index_depth, stmt_depth, stmts_depth, place_depth, conns_depth, item_depth, items_depth, line_depth}
use Rattle.spec.proofs.Numbers.{number_digits, number_show, digits_no_form, digits_no_word, integer_show}
pub use Rattle.spec.proofs.Parts.{AllIn}
use Rattle.spec.proofs.Parts.{Word, Part, Parts, none, more, word_part, number_part, int_part, form_parts, form_part, form_alone}

-- x is a part, d brackets deep, and decodes to a where the fuel is at least d
pub record Shown {A : Type 0} (decode : ℕ → Bytes → A) (x : Bytes) (d : ℕ) (a : A) : Type 0 where
  pub part : Part x d
  pub back : (n : ℕ) → d ≤ n → decode n x ≡ a

-- a form goes by its head word, which the table has under h, to what stands behind it
module _ {H : Type 0} (table : List (Bytes × H)) (other : H) (w : Bytes) (word : Word w) {h : H} (found : lookup_word table other w ≡ h) {xs : List Bytes} {k : ℕ} (ps : Parts xs k) where
  by_form : {A : Type 0} (z : A) (f : H → List Bytes → A) → by_head table other z f (show_form w xs) ≡ f h xs
  unfolding by_head
  by_form z f = rw (form_parts (word_part w word) ps, by_head, found)

  form_shown : {A : Type 0} {a : A} (decode : ℕ → Bytes → A) (z : A) (f : ℕ → H → List Bytes → A) {d : ℕ} → suc k ≡ d
      → ((n : ℕ) → decode (suc n) (show_form w xs) ≡ by_head table other z (f n) (show_form w xs))
      → ((n : ℕ) → k ≤ n → f n h xs ≡ a) → Shown decode (show_form w xs) d a
  form_shown {a} decode z f e step back = record { part = form_part (word_part w word) ps _ (omega arith); back = λ n l. deep n (omega arith) }
    where
      deep : (n : ℕ) → suc k ≤ n → decode n (show_form w xs) ≡ a
      deep zero l = absurd (omega arith)
      deep (suc n) l = step n ∙ by_form z (f n) ∙ back n (omega arith)

-- ---- expressions

atom_shown : (x : Bytes) (e : Expr) → Part x 0 → is_form x ≡ false → decode_atom x ≡ e → Shown decode_expr x 0 e
unfolding decode_expr
atom_shown x e p f q = record { part = p; back = λ n l. any n }
  where
    any : (n : ℕ) → decode_expr n x ≡ e
    any zero = q
    any (suc n) = rw (f, decode_expr) q

number_atom : (n : ℕ) → decode_atom (show_number n) ≡ lit n
unfolding decode_atom lookup_word
number_atom n =
    let p = number_digits n in
    rw (digits_no_word (show_number n) p 116 (bytes "rue") (λ g h. omega arith), digits_no_word (show_number n) p 102 (bytes "alse") (λ g h. omega arith), lookup_word)
    (ap lit (number_show n))

truth_shown : (b : Bool) → Shown decode_expr (show_truth b) 0 (truth b)
unfolding decode_atom lookup_word same_bytes is_form
truth_shown true = atom_shown (bytes "true") (truth true) (word_part (bytes "true") (omega arith)) refl refl
truth_shown false = atom_shown (bytes "false") (truth false) (word_part (bytes "false") (omega arith)) refl refl

expr_form : (w : Bytes) → Word w → {h : ExprHead} → lookup_word expr_heads no_expr w ≡ h → {xs : List Bytes} {k d : ℕ} → Parts xs k → suc k ≡ d
    → {e : Expr} → ((n : ℕ) → k ≤ n → expr_by (decode_expr n) h xs ≡ e) → Shown decode_expr (show_form w xs) d e
unfolding decode_expr is_form show_form
expr_form w word found ps e back = form_shown expr_heads no_expr w word found ps decode_expr no_value (λ n. expr_by (decode_expr n)) e (λ n. refl) back

unary_word : (o : Unary) → Word (show_unary o) × (lookup_word expr_heads no_expr (show_unary o) ≡ unary_head o)
unfolding lookup_word same_bytes expr_heads
unary_word neg = (omega arith, refl)
unary_word not = (omega arith, refl)
unary_word clog2 = (omega arith, refl)

binary_word : (o : Binary) → Word (show_binary o) × (lookup_word expr_heads no_expr (show_binary o) ≡ binary_head o)
unfolding lookup_word same_bytes expr_heads
binary_word add = (omega arith, refl)
binary_word sub = (omega arith, refl)
binary_word mul = (omega arith, refl)
binary_word eq = (omega arith, refl)
binary_word ne = (omega arith, refl)
binary_word lt = (omega arith, refl)
binary_word le = (omega arith, refl)
binary_word gt = (omega arith, refl)
binary_word ge = (omega arith, refl)
binary_word and = (omega arith, refl)
binary_word or = (omega arith, refl)
binary_word shl = (omega arith, refl)
binary_word shr = (omega arith, refl)
binary_word band = (omega arith, refl)
binary_word bor = (omega arith, refl)
binary_word bxor = (omega arith, refl)

-- the parts of a list of trees, and the list that they decode to
pub record ShownAll {A : Type 0} (decode : ℕ → List Bytes → A) (xs : List Bytes) (d : ℕ) (a : A) : Type 0 where
  pub parts : Parts xs d
  pub back : (n : ℕ) → d ≤ n → decode n xs ≡ a

mutual
  unfolding show_expr expr_depth lookup_word same_bytes expr_heads expr_by exprs_by

  pub expr_shown : (e : Expr) → Shown decode_expr (show_expr e) (expr_depth e) e
  expr_shown (lit n) = atom_shown (show_number n) (lit n) (number_part n) (digits_no_form (show_number n) (number_digits n)) (number_atom n)
  expr_shown (truth b) = truth_shown b
  expr_shown (name n) = expr_form (bytes "n") (omega arith) refl (more (number_part n) none) refl (λ m l. ap name (number_show n))
  expr_shown (field e n) =
      let p = expr_shown e in
      expr_form (bytes "f") (omega arith) refl (more p.part (more (number_part n) none)) (omega arith) (λ m l. ap₂ field (p.back m (omega arith)) (number_show n))
  expr_shown (index e i) =
      let p = expr_shown e in
      let q = expr_shown i in
      expr_form (bytes "ix") (omega arith) refl (more p.part (more q.part none)) (omega arith) (λ m l. ap₂ index (p.back m (omega arith)) (q.back m (omega arith)))
  expr_shown (if_else c a b) =
      let p = expr_shown c in
      let q = expr_shown a in
      let r = expr_shown b in
      expr_form (bytes "if") (omega arith) refl (more p.part (more q.part (more r.part none))) (omega arith)
      (λ m l. cc (p.back m (omega arith), q.back m (omega arith), r.back m (omega arith)))
  expr_shown (unary o a) =
      let p = expr_shown a in
      expr_form (show_unary o) (unary_word o).0 (unary_word o).1 (more p.part none) (omega arith) (λ m l. ap (unary o) (p.back m (omega arith)))
  expr_shown (binary o a b) =
      let p = expr_shown a in
      let q = expr_shown b in
      expr_form (show_binary o) (binary_word o).0 (binary_word o).1 (more p.part (more q.part none)) (omega arith)
      (λ m l. ap₂ (binary o) (p.back m (omega arith)) (q.back m (omega arith)))
  expr_shown (all es) =
      let p = exprs_shown es in
      expr_form (bytes "all") (omega arith) refl p.parts refl (λ m l. ap all (p.back m l))

  pub exprs_shown : (es : Exprs) → ShownAll (λ n. exprs_by (decode_expr n)) (show_exprs es) (exprs_depth es) es
  exprs_shown Exprs.none = record { parts = none; back = λ n l. refl }
  exprs_shown (Exprs.more e es) =
      let p = expr_shown e in
      let q = exprs_shown es in
      record { parts = more p.part q.parts; back = λ n l. ap₂ Exprs.more (p.back n (omega arith)) (q.back n (omega arith)) }

-- no expression is the `-` of a single instance
expr_no_dash : (e : Expr) → same_bytes (show_expr e) (bytes "-") ≡ false
unfolding show_expr show_form same_bytes
expr_no_dash (lit n) = digits_no_word (show_number n) (number_digits n) 45 [] (λ g h. omega arith)
expr_no_dash (truth true) = refl
expr_no_dash (truth false) = refl
expr_no_dash (name n) = refl
expr_no_dash (field e n) = refl
expr_no_dash (index e i) = refl
expr_no_dash (if_else c a b) = refl
expr_no_dash (unary o a) = refl
expr_no_dash (binary o a b) = refl
expr_no_dash (all es) = refl

-- ---- widths, left sides, places, connections

width_word : (w : Bytes) (t : Width) → is_form w ≡ false → lookup_word ((bytes "bit", bit) ∷ []) opaque w ≡ t → (n : ℕ) → decode_width n w ≡ t
unfolding decode_width
width_word w t f q zero = q
width_word w t f q (suc n) = rw (f, decode_width) q

width_form : (w : Bytes) → Word w → {h : WidthHead} → lookup_word ((bytes "bits", bits_head) ∷ (bytes "signed", signed_head) ∷ []) no_width w ≡ h
    → (e : Expr) {t : Width} → ((n : ℕ) → expr_depth e ≤ n → width_by (decode_expr n) h (show_expr e ∷ []) ≡ t) → Shown decode_width (show_form w (show_expr e ∷ [])) (suc (expr_depth e)) t
unfolding decode_width is_form show_form
width_form w word found e back =
    form_shown _ no_width w word found (more (expr_shown e).part none) decode_width opaque (λ n. width_by (decode_expr n)) (omega arith) (λ n. refl) (λ n l. back n (omega arith))

pub width_shown : (t : Width) → Shown decode_width (show_width t) (width_depth t) t
unfolding show_width width_depth width_by lookup_word same_bytes is_form
width_shown bit = record { part = word_part (bytes "bit") (omega arith); back = λ n l. width_word (bytes "bit") bit refl refl n }
width_shown opaque = record { part = word_part (bytes "opaque") (omega arith); back = λ n l. width_word (bytes "opaque") opaque refl refl n }
width_shown (bits e) = width_form (bytes "bits") (omega arith) refl e (λ n l. ap bits ((expr_shown e).back n l))
width_shown (signed e) = width_form (bytes "signed") (omega arith) refl e (λ n l. ap signed ((expr_shown e).back n l))

pub index_shown : (i : Index) → ShownAll (λ n. index_by (decode_expr n)) (show_index i) (index_depth i) i
unfolding show_index index_depth index_by
index_shown whole = record { parts = none; back = λ n l. refl }
index_shown (at_bit e) =
    let p = expr_shown e in
    let q : max (expr_depth e) 0 ≡ expr_depth e = omega arith in
    record { parts = rw q at (more p.part none); back = λ n l. ap at_bit (p.back n l) }
index_shown (high_low h l) =
    let p = expr_shown h in
    let q = expr_shown l in
    let r : max (expr_depth h) (max (expr_depth l) 0) ≡ max (expr_depth h) (expr_depth l) = omega arith in
    record { parts = rw r at (more p.part (more q.part none)); back = λ n g. ap₂ high_low (p.back n (omega arith)) (q.back n (omega arith)) }

pub lvalue_shown : (lv : LValue) → Shown decode_lvalue (show_lvalue lv) (suc (index_depth lv.index)) lv
unfolding show_lvalue decode_lvalue lvalue_by lookup_word same_bytes
lvalue_shown lv =
    let p = index_shown lv.index in
    form_shown ((bytes "lv", true) ∷ []) false (bytes "lv") (omega arith) refl (more (number_part lv.name) (more (number_part lv.start) p.parts))
    decode_lvalue no_lvalue (λ n h ps. elim h [ true ↦ lvalue_by (decode_expr n) ps | false ↦ no_lvalue ]) (omega arith) (λ n. refl)
    (λ n l. rw (number_show lv.name, number_show lv.start, p.back n (omega arith)))

pub place_shown : (p : Place) → Shown decode_place (show_place p) (place_depth p) p
unfolding show_place place_depth decode_place lookup_word same_bytes
place_shown single = record { part = word_part (bytes "-") (omega arith); back = λ n l. refl }
place_shown (at e) = let p = expr_shown e in record { part = p.part; back = λ n l. rw (expr_no_dash e, lookup_word) (ap at (p.back n l)) }

pub conn_shown : (c : Conn) → Shown decode_conn (show_form (bytes "conn") (show_number c.port ∷ show_expr c.signal ∷ [])) (suc (expr_depth c.signal)) c
unfolding decode_conn lookup_word same_bytes
conn_shown c =
    let p = expr_shown c.signal in
    form_shown ((bytes "conn", true) ∷ []) false (bytes "conn") (omega arith) refl (more (number_part c.port) (more p.part none))
    decode_conn no_conn _ (omega arith) (λ n. refl)
    (λ n l. rw (number_show c.port, p.back n (omega arith)))

pub conns_shown : (cs : List Conn) → ShownAll decode_conns (show_conns cs) (conns_depth cs) cs
unfolding show_conns conns_depth decode_conns
conns_shown [] = record { parts = none; back = λ n l. refl }
conns_shown (c ∷ cs) =
    let p = conn_shown c in
    let q = conns_shown cs in
    record { parts = more p.part q.parts; back = λ n l. ap₂ (λ (x : Conn) (l : List Conn). x ∷ l) (p.back n (omega arith)) (q.back n (omega arith)) }

-- ---- statements

pub same_self : (w : Bytes) → same_bytes w w ≡ true
unfolding same_bytes
same_self [] = refl
same_self (c ∷ w) = rw (eq-eqb c c refl, same_bytes) (same_self w)

own_word : (w : Bytes) → lookup_word ((w, true) ∷ []) false w ≡ true
unfolding lookup_word
own_word w = rw (same_self w, lookup_word)

-- what stands in `(then ..)` and `(else ..)`, which are a bracket of their own
stmt_block : Bytes → ℕ → Bytes → Stmts
stmt_block w zero s = Stmts.none
stmt_block w (suc n) s = stmts_in w (decode_stmt n) s

stmts_block_shown : (w : Bytes) → Word w → {xs : List Bytes} {d : ℕ} {ss : Stmts} → ShownAll (λ n. stmts_by (decode_stmt n)) xs d ss → Shown (stmt_block w) (show_form w xs) (suc d) ss
unfolding stmt_block stmts_in
stmts_block_shown w word p = form_shown ((w, true) ∷ []) false w word (own_word w) p.parts (stmt_block w) Stmts.none _ refl (λ n. refl) p.back

stmt_form : (w : Bytes) → Word w → {h : StmtHead} → lookup_word stmt_heads no_stmt w ≡ h → {xs : List Bytes} {k d : ℕ} → Parts xs k → suc k ≡ d
    → {s : Stmt} → ((n : ℕ) → k ≤ n → stmt_by (decode_stmt n) (stmt_block (bytes "then") n) (stmt_block (bytes "else") n) h xs ≡ s) → Shown decode_stmt (show_form w xs) d s
unfolding decode_stmt stmt_block
stmt_form w word found {xs} ps e back =
    form_shown stmt_heads no_stmt w word found ps decode_stmt no_statement
    (λ n. stmt_by (decode_stmt n) (stmt_block (bytes "then") n) (stmt_block (bytes "else") n)) e step back
  where
    step : (n : ℕ) → decode_stmt (suc n) (show_form w xs) ≡ by_head stmt_heads no_stmt no_statement (stmt_by (decode_stmt n) (stmt_block (bytes "then") n) (stmt_block (bytes "else") n)) (show_form w xs)
    step zero = refl
    step (suc n) = refl

mutual
  unfolding show_stmt stmt_depth lookup_word same_bytes stmt_heads stmt_by stmts_by

  pub stmt_shown : (s : Stmt) → Shown decode_stmt (show_stmt s) (stmt_depth s) s
  stmt_shown (set n start) =
      stmt_form (bytes "set") (omega arith) refl (more (number_part n) (more (number_part start) none)) refl (λ m l. ap₂ set (number_show n) (number_show start))
  stmt_shown (default n) = stmt_form (bytes "default") (omega arith) refl (more (number_part n) none) refl (λ m l. ap default (number_show n))
  stmt_shown (loop ss) = let p = stmts_shown ss in stmt_form (bytes "loop") (omega arith) refl p.parts refl (λ m l. ap loop (p.back m l))
  stmt_shown (when ss ts) =
      let p = stmts_block_shown (bytes "then") (omega arith) (stmts_shown ss) in
      let q = stmts_block_shown (bytes "else") (omega arith) (stmts_shown ts) in
      stmt_form (bytes "when") (omega arith) refl (more p.part (more q.part none)) (omega arith)
      (λ m l. ap₂ when (p.back m (omega arith)) (q.back m (omega arith)))

  pub stmts_shown : (ss : Stmts) → ShownAll (λ n. stmts_by (decode_stmt n)) (show_stmts ss) (stmts_depth ss) ss
  stmts_shown Stmts.none = record { parts = none; back = λ n l. refl }
  stmts_shown (Stmts.more s ss) =
      let p = stmt_shown s in
      let q = stmts_shown ss in
      record { parts = more p.part q.parts; back = λ n l. ap₂ Stmts.more (p.back n (omega arith)) (q.back n (omega arith)) }

-- ---- lines

abbrev line_heads : List (Bytes × LineHead)
line_heads = (bytes "module", module_head) ∷ (bytes "kind", kind_head) ∷ (bytes "val", val_head) ∷ []

-- x is a line: one form, d brackets deep, of bytes of the set, that decodes to l if it is not too deep
pub record LineShown (x : Bytes) (d : ℕ) (l : Line) : Type 0 where
  pub form : one_form x ≡ leb d depth_limit
  pub set : AllIn x
  pub back : d ≤ depth_limit → decode_line x ≡ l

line_form : (w : Bytes) → Word w → {h : LineHead} → lookup_word line_heads item_head w ≡ h → {xs : List Bytes} {k d : ℕ} → Parts xs k → suc k ≡ d
    → {l : Line} → (d ≤ depth_limit → line_by (show_form w xs) h xs ≡ l) → LineShown (show_form w xs) d l
unfolding decode_line
line_form w word found {xs} {d} ps e back = record {
  form = form_alone (word_part w word) ps d (omega arith);
  set = (form_part (word_part w word) ps d (omega arith)).set;
  back = λ g. by_form line_heads item_head w word found ps (item_line nothing) (line_by (show_form w xs)) ∙ back g;
}

-- ---- items

item_block : Bytes → ℕ → Bytes → Items
item_block w zero s = Items.none
item_block w (suc n) s = items_in w (decode_item n) s

items_block_shown : (w : Bytes) → Word w → {xs : List Bytes} {d : ℕ} {is : Items} → ShownAll (λ n. items_by (decode_item n)) xs d is → Shown (item_block w) (show_form w xs) (suc d) is
unfolding item_block items_in
items_block_shown w word p = form_shown ((w, true) ∷ []) false w word (own_word w) p.parts (item_block w) Items.none _ refl (λ n. refl) p.back

abbrev item_step : ℕ → ItemHead → List Bytes → Item
item_step n = item_by n (decode_item n) (item_block (bytes "then") n) (item_block (bytes "else") n)

-- an item, by itself a line and as a part of another
pub record ItemShown (x : Bytes) (d : ℕ) (i : Item) : Type 0 where
  pub item : Shown decode_item x d i
  pub line : LineShown x d (item_line i)

item_form : (w : Bytes) → Word w → {h : ItemHead} → lookup_word item_heads no_item w ≡ h → lookup_word line_heads item_head w ≡ item_head
    → {xs : List Bytes} {k d : ℕ} → Parts xs k → suc k ≡ d → {i : Item} → ((n : ℕ) → k ≤ n → item_step n h xs ≡ i) → ItemShown (show_form w xs) d i
unfolding decode_item item_block line_by
item_form w word found other {xs} ps e back =
    let s = form_shown item_heads no_item w word found ps decode_item nothing item_step e step back in
    record { item = s; line = line_form w word other ps e (λ g. ap item_line (s.back depth_limit g)) }
  where
    step : (n : ℕ) → decode_item (suc n) (show_form w xs) ≡ by_head item_heads no_item nothing (item_step n) (show_form w xs)
    step zero = refl
    step (suc n) = refl

dir_word : (d : Dir) → Word (show_dir d) × (decode_dir (show_dir d) ≡ d)
unfolding decode_dir lookup_word same_bytes
dir_word input = (omega arith, refl)
dir_word output = (omega arith, refl)

mutual
  unfolding show_item item_depth lookup_word same_bytes item_heads item_by items_by on_by inst_by repeat_by

  pub item_shown : (i : Item) → ItemShown (show_item i) (item_depth i) i
  item_shown (port d n w start) =
      let p = width_shown w in
      item_form (bytes "port") (omega arith) refl refl
      (more (word_part (show_dir d) (dir_word d).0) (more (number_part n) (more p.part (more (number_part start) none)))) (omega arith)
      (λ m l. cc ((dir_word d).1, number_show n, p.back m (omega arith), number_show start))
  item_shown (wire n e start) =
      let p = expr_shown e in
      item_form (bytes "wire") (omega arith) refl refl (more (number_part n) (more p.part (more (number_part start) none))) (omega arith)
      (λ m l. cc (number_show n, p.back m (omega arith), number_show start))
  item_shown (reg n start) =
      item_form (bytes "reg") (omega arith) refl refl (more (number_part n) (more (number_part start) none)) refl (λ m l. ap₂ reg (number_show n) (number_show start))
  item_shown (mem n start) =
      item_form (bytes "mem") (omega arith) refl refl (more (number_part n) (more (number_part start) none)) refl (λ m l. ap₂ mem (number_show n) (number_show start))
  item_shown (const n e) =
      let p = expr_shown e in
      item_form (bytes "const") (omega arith) refl refl (more (number_part n) (more p.part none)) (omega arith) (λ m l. ap₂ const (number_show n) (p.back m (omega arith)))
  item_shown (drive lv e) =
      let p = lvalue_shown lv in
      let q = expr_shown e in
      item_form (bytes "drive") (omega arith) refl refl (more p.part (more q.part none)) (omega arith) (λ m l. ap₂ drive (p.back m (omega arith)) (q.back m (omega arith)))
  item_shown (on start ss) =
      let p = stmts_shown ss in
      item_form (bytes "on") (omega arith) refl refl (more (number_part start) p.parts) (omega arith) (λ m l. ap₂ on (number_show start) (p.back m (omega arith)))
  item_shown (inst i) =
      let p = place_shown i.place in
      let q = conns_shown i.conns in
      item_form (bytes "inst") (omega arith) refl refl
      (more (number_part i.name) (more p.part (more (number_part i.«module») (more (number_part i.start) q.parts)))) (omega arith)
      (λ m l. rw (number_show i.name, p.back m (omega arith), number_show i.«module», number_show i.start, q.back m (omega arith)))
  item_shown (repeat n low high is) =
      let p = expr_shown low in
      let q = expr_shown high in
      let r = items_shown is in
      item_form (bytes "repeat") (omega arith) refl refl (more (number_part n) (more p.part (more q.part r.parts))) (omega arith)
      (λ m l. cc (number_show n, p.back m (omega arith), q.back m (omega arith), r.back m (omega arith)))
  item_shown (const_if c is js) =
      let p = expr_shown c in
      let q = items_block_shown (bytes "then") (omega arith) (items_shown is) in
      let r = items_block_shown (bytes "else") (omega arith) (items_shown js) in
      item_form (bytes "constif") (omega arith) refl refl (more p.part (more q.part (more r.part none))) (omega arith)
      (λ m l. cc (p.back m (omega arith), q.back m (omega arith), r.back m (omega arith)))

  pub items_shown : (is : Items) → ShownAll (λ n. items_by (decode_item n)) (show_items is) (items_depth is) is
  items_shown Items.none = record { parts = none; back = λ n l. refl }
  items_shown (Items.more i is) =
      let p = (item_shown i).item in
      let q = items_shown is in
      record { parts = more p.part q.parts; back = λ n l. ap₂ Items.more (p.back n (omega arith)) (q.back n (omega arith)) }

-- ---- the theorems

bound_word : (b : Bool) → Word (show_bound b) × (lookup_word ((show_bound true, true) ∷ []) false (show_bound b) ≡ b)
unfolding lookup_word same_bytes
bound_word true = (omega arith, refl)
bound_word false = (omega arith, refl)

kind_word : (k : Kind) → Word (show_kind k) × (lookup_word kinds inst_kind (show_kind k) ≡ k)
unfolding lookup_word same_bytes kinds
kind_word in_kind = (omega arith, refl)
kind_word out_kind = (omega arith, refl)
kind_word wire_kind = (omega arith, refl)
kind_word reg_kind = (omega arith, refl)
kind_word mem_kind = (omega arith, refl)
kind_word inst_kind = (omega arith, refl)

pub line_shown : (l : Line) → LineShown (show_line l) (line_depth l) l
unfolding show_line show_header line_depth lookup_word same_bytes line_by
line_shown (module_line m b) =
    line_form (bytes "module") (omega arith) refl (more (number_part m) (more (word_part (show_bound b) (bound_word b).0) none)) refl
    (λ g. ap₂ module_line (number_show m) (bound_word b).1)
line_shown (header_line (kind n k)) =
    line_form (bytes "kind") (omega arith) refl (more (number_part n) (more (word_part (show_kind k) (kind_word k).0) none)) refl
    (λ g. ap header_line (ap₂ kind (number_show n) (kind_word k).1))
line_shown (header_line (val n i)) =
    line_form (bytes "val") (omega arith) refl (more (number_part n) (more (int_part i) none)) refl
    (λ g. ap header_line (ap₂ val (number_show n) (integer_show i)))
line_shown (item_line i) = (item_shown i).line

pub decode_show_line : (l : Line) → line_depth l ≤ depth_limit → decode_line (show_line l) ≡ l
decode_show_line l g = (line_shown l).back g

pub show_line_form : (l : Line) → one_form (show_line l) ≡ leb (line_depth l) depth_limit
show_line_form l = (line_shown l).form

pub show_line_set : (l : Line) → AllIn (show_line l)
show_line_set l = (line_shown l).set
