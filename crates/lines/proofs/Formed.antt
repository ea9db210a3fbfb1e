-- Each tree that is no atom is a form: it has a head and parts that fit the head's shape.
-- Assumes nothing.
use mathlib.Core.Path.{◌≡◌, refl, ap}
use mathlib.Core.Bool.{true}
use mathlib.Core.List.{List, [], ◌∷◌}
use Prim.Native.Nat.{ℕ, suc}
use Rattle.lines.proofs.Spelled.{all_wordly, word_fine}
use Rattle.spec.specs.Bytes.{Bytes, bytes}
use Rattle.spec.specs.Syntax.{Unary, neg, not, clog2, Binary, add, sub, mul, eq, ne, lt, le, gt, ge, and, or, shl, shr, band, bor, bxor, Expr, Exprs, lit, truth, name, field, index, if_else, unary, binary, all, Width, bit, opaque, bits, signed, Index, whole, at_bit, high_low, LValue, Stmt, Stmts, set, default, loop, when, Place, single, at, Conn, Item, Items, port, wire, reg, mem, const, drive, on, inst, repeat, const_if, kind, val, Line, module_line, header_line, item_line}
use Rattle.spec.specs.Show.{show_unary, show_binary, show_place, show_line}
use Rattle.spec.specs.Refusal.{place_in_range, line_in_range, place_depth, line_depth}
use Rattle.lines.specs.Bytes.{class_of}
use Rattle.lines.specs.Parse.{key, code_after, behind, expr_shape, shape, lookup_key, ops, op_of, lone, widths, width_shape, stmts, stmt_shape, items, item_shape, headers, line_shape}
use Rattle.lines.specs.declared.parse.Cat.{Cat}
use Rattle.lines.specs.declared.parse.Cat.TheVariants.{Name, Start, Mod, Count, Int, Kind, Dir, Bound, E, X, T, Lv, C, S, I, ThenS, ElseS, ThenI, ElseI, L, Nothing}
use Rattle.lines.specs.declared.parse.Shape.{Shape}
use Rattle.lines.specs.declared.parse.Op.{Op}
use Rattle.lines.proofs.Trees.{Tree, Walk, Made}
use Rattle.lines.proofs.Made.{many, made_name, made_field, made_index, made_if, made_unary, made_binary, exprs_of, made_all}
use Rattle.lines.proofs.MadeItems.{made_bits, made_signed, lv_shape, made_lv0, made_lv1, made_lv2, made_conn, conns_of, stmts_of, items_of, made_then_s, made_else_s, made_then_i, made_else_i, made_set, made_default, made_loop, made_when, made_port, made_wire, made_reg, made_mem, made_const, made_drive, made_on, made_inst, made_repeat, made_const_if, made_module, made_kind, made_val}
use Rattle.lines.proofs.Atoms.{IsAtom}

-- ---- heads

abbrev pub expr_word : Expr → Bytes
expr_word (lit n) = []
expr_word (truth b) = []
expr_word (name n) = bytes "n"
expr_word (field e n) = bytes "f"
expr_word (index e i) = bytes "ix"
expr_word (if_else c a b) = bytes "if"
expr_word (unary o a) = show_unary o
expr_word (binary o a b) = show_binary o
expr_word (all es) = bytes "all"

abbrev pub place_word : Place → Bytes
place_word single = []
place_word (at e) = expr_word e

abbrev pub width_word : Width → Bytes
width_word bit = []
width_word opaque = []
width_word (bits e) = bytes "bits"
width_word (signed e) = bytes "signed"

abbrev pub stmt_word : Stmt → Bytes
stmt_word (set n s) = bytes "set"
stmt_word (default n) = bytes "default"
stmt_word (loop ss) = bytes "loop"
stmt_word (when ss ts) = bytes "when"

abbrev pub item_word : Item → Bytes
item_word (port d n t s) = bytes "port"
item_word (wire n e s) = bytes "wire"
item_word (reg n s) = bytes "reg"
item_word (mem n s) = bytes "mem"
item_word (const n e) = bytes "const"
item_word (drive lv e) = bytes "drive"
item_word (on s ss) = bytes "on"
item_word (inst i) = bytes "inst"
item_word (repeat n l h is) = bytes "repeat"
item_word (const_if c is js) = bytes "constif"

abbrev pub line_word : Line → Bytes
line_word (module_line m b) = bytes "module"
line_word (header_line (kind n k)) = bytes "kind"
line_word (header_line (val n i)) = bytes "val"
line_word (item_line i) = item_word i

abbrev pub word_of : (c : Cat) → Tree c → Bytes
word_of Name t = []
word_of Start t = []
word_of Mod t = []
word_of Count t = []
word_of Int t = []
word_of Kind t = []
word_of Dir t = []
word_of Bound t = []
word_of E t = expr_word t
word_of X t = place_word t
word_of T t = width_word t
word_of Lv t = bytes "lv"
word_of C t = bytes "conn"
word_of S t = stmt_word t
word_of I t = item_word t
word_of ThenS t = bytes "then"
word_of ElseS t = bytes "else"
word_of ThenI t = bytes "then"
word_of ElseI t = bytes "else"
word_of L t = line_word t
word_of Nothing t = []

-- the parts of a form
pub record Formed (c : Cat) (t : Tree c) : Type 0 where
  pub fine : word_fine (word_of c t) ≡ true
  pub count : ℕ
  pub q : Shape
  pub shaped : shape c (key (word_of c t)) ≡ q
  pub walk : Walk count q
  pub made : Made c (word_of c t) count q walk t

pub data View (c : Cat) (t : Tree c) : Type 0 where
  atom : IsAtom c t → View c t
  form : Formed c t → View c t

-- ---- runs as walks

record Run {A : Type 0} (a : Cat) (of : (n : ℕ) → Walk n (many a) → A) (x : A) : Type 0 where
  count : ℕ
  walk : Walk count (many a)
  back : of count walk ≡ x

run_exprs : (es : Exprs) → Run E exprs_of es
unfolding exprs_of
run_exprs Exprs.none = record { count = 0; walk = record {}; back = refl }
run_exprs (Exprs.more e es) = let r = run_exprs es in record { count = suc r.count; walk = (e, r.walk); back = ap (Exprs.more e) r.back }

run_stmts : (ss : Stmts) → Run S stmts_of ss
unfolding stmts_of
run_stmts Stmts.none = record { count = 0; walk = record {}; back = refl }
run_stmts (Stmts.more s ss) = let r = run_stmts ss in record { count = suc r.count; walk = (s, r.walk); back = ap (Stmts.more s) r.back }

run_items : (is : Items) → Run I items_of is
unfolding items_of
run_items Items.none = record { count = 0; walk = record {}; back = refl }
run_items (Items.more i is) = let r = run_items is in record { count = suc r.count; walk = (i, r.walk); back = ap (Items.more i) r.back }

run_conns : (cs : List Conn) → Run C conns_of cs
unfolding conns_of
run_conns [] = record { count = 0; walk = record {}; back = refl }
run_conns (c ∷ cs) = let r = run_conns cs in record { count = suc r.count; walk = (c, r.walk); back = ap (◌∷◌ c) r.back }

-- ---- expressions

unary_op : (o : Unary) → (word_fine (show_unary o) ≡ true) × (op_of (key (show_unary o)) ≡ Op.Unary)
unfolding op_of ops lookup_key key code_after all_wordly class_of
unary_op neg = (refl, refl)
unary_op not = (refl, refl)
unary_op clog2 = (refl, refl)

binary_form : (o : Binary) (a b : Expr) → word_fine (show_binary o) ≡ true → op_of (key (show_binary o)) ≡ Op.Binary → Formed E (binary o a b)
binary_form o a b f e = record { fine = f; count = 2; q = expr_shape Op.Binary; shaped = ap expr_shape e; walk = (a, (b, record {})); made = made_binary o a b }

expr_view : (e : Expr) → View E e
unfolding op_of ops lookup_key key code_after all_wordly class_of
expr_view (lit n) = atom tt
expr_view (truth b) = atom tt
expr_view (name n) = form (record { fine = refl; count = 1; q = _; shaped = refl; walk = _; made = made_name n })
expr_view (field e n) = form (record { fine = refl; count = 2; q = _; shaped = refl; walk = _; made = made_field e n })
expr_view (index e i) = form (record { fine = refl; count = 2; q = _; shaped = refl; walk = _; made = made_index e i })
expr_view (if_else c a b) = form (record { fine = refl; count = 3; q = _; shaped = refl; walk = _; made = made_if c a b })
expr_view (unary o a) = form (record { fine = (unary_op o).0; count = 1; q = expr_shape Op.Unary; shaped = ap (λ (x : Op). expr_shape x) (unary_op o).1; walk = (a, record {}); made = made_unary o a })
expr_view (binary add a b) = form (binary_form add a b refl refl)
expr_view (binary sub a b) = form (binary_form sub a b refl refl)
expr_view (binary mul a b) = form (binary_form mul a b refl refl)
expr_view (binary eq a b) = form (binary_form eq a b refl refl)
expr_view (binary ne a b) = form (binary_form ne a b refl refl)
expr_view (binary lt a b) = form (binary_form lt a b refl refl)
expr_view (binary le a b) = form (binary_form le a b refl refl)
expr_view (binary gt a b) = form (binary_form gt a b refl refl)
expr_view (binary ge a b) = form (binary_form ge a b refl refl)
expr_view (binary and a b) = form (binary_form and a b refl refl)
expr_view (binary or a b) = form (binary_form or a b refl refl)
expr_view (binary shl a b) = form (binary_form shl a b refl refl)
expr_view (binary shr a b) = form (binary_form shr a b refl refl)
expr_view (binary band a b) = form (binary_form band a b refl refl)
expr_view (binary bor a b) = form (binary_form bor a b refl refl)
expr_view (binary bxor a b) = form (binary_form bxor a b refl refl)
expr_view (all es) =
    let r = run_exprs es in
    form (record { fine = refl; count = r.count; q = many E; shaped = refl; walk = r.walk; made = rw r.back at (made_all r.count r.walk) })

-- ---- the other categories

lv_form : (lv : LValue) → Formed Lv lv
unfolding lone key code_after all_wordly class_of
lv_form lv = go lv.index refl
  where
    go : (i : Index) → lv.index ≡ i → Formed Lv lv
    go whole e = record { fine = refl; count = 2; q = lv_shape; shaped = refl; walk = (lv.name, (lv.start, record {})); made = rw (← e) at (made_lv0 lv.name lv.start) }
    go (at_bit x) e = record { fine = refl; count = 3; q = lv_shape; shaped = refl; walk = (lv.name, (lv.start, (x, record {}))); made = rw (← e) at (made_lv1 lv.name lv.start x) }
    go (high_low x y) e = record { fine = refl; count = 4; q = lv_shape; shaped = refl; walk = (lv.name, (lv.start, (x, (y, record {})))); made = rw (← e) at (made_lv2 lv.name lv.start x y) }

width_view : (w : Width) → View T w
unfolding width_shape widths lookup_key key code_after all_wordly class_of
width_view bit = atom tt
width_view opaque = atom tt
width_view (bits e) = form (record { fine = refl; count = 1; q = _; shaped = refl; walk = _; made = made_bits e })
width_view (signed e) = form (record { fine = refl; count = 1; q = _; shaped = refl; walk = _; made = made_signed e })

stmt_form : (s : Stmt) → Formed S s
unfolding stmt_shape stmts lookup_key key code_after all_wordly class_of
stmt_form (set n s) = record { fine = refl; count = 2; q = _; shaped = refl; walk = _; made = made_set n s }
stmt_form (default n) = record { fine = refl; count = 1; q = _; shaped = refl; walk = _; made = made_default n }
stmt_form (loop ss) = let r = run_stmts ss in record { fine = refl; count = r.count; q = many S; shaped = refl; walk = r.walk; made = rw r.back at (made_loop r.count r.walk) }
stmt_form (when ss ts) = record { fine = refl; count = 2; q = _; shaped = refl; walk = _; made = made_when ss ts }

item_form : (i : Item) → Formed I i
unfolding item_shape items lookup_key key code_after all_wordly class_of
item_form (port d n t s) = record { fine = refl; count = 4; q = _; shaped = refl; walk = _; made = made_port d n t s }
item_form (wire n e s) = record { fine = refl; count = 3; q = _; shaped = refl; walk = _; made = made_wire n e s }
item_form (reg n s) = record { fine = refl; count = 2; q = _; shaped = refl; walk = _; made = made_reg n s }
item_form (mem n s) = record { fine = refl; count = 2; q = _; shaped = refl; walk = _; made = made_mem n s }
item_form (const n e) = record { fine = refl; count = 2; q = _; shaped = refl; walk = _; made = made_const n e }
item_form (drive lv e) = record { fine = refl; count = 2; q = _; shaped = refl; walk = _; made = made_drive lv e }
item_form (on s ss) = let r = run_stmts ss in record { fine = refl; count = suc r.count; q = behind 1 Start S S S S; shaped = refl; walk = (s, r.walk); made = rw r.back at (made_on s r.count r.walk) }
item_form (inst i) =
    let r = run_conns i.conns in
    record {
      fine = refl;
      count = suc (suc (suc (suc r.count)));
      q = behind 4 Name X Mod Start C;
      shaped = refl;
      walk = (i.name, (i.place, (i.«module», (i.start, r.walk))));
      made = rw r.back at (made_inst i.name i.place i.«module» i.start r.count r.walk);
    }
item_form (repeat n l h is) =
    let r = run_items is in
    record {
      fine = refl;
      count = suc (suc (suc r.count));
      q = behind 3 Name E E I I;
      shaped = refl;
      walk = (n, (l, (h, r.walk)));
      made = rw r.back at (made_repeat n l h r.count r.walk);
    }
item_form (const_if c is js) = record { fine = refl; count = 3; q = _; shaped = refl; walk = _; made = made_const_if c is js }

block_form_s : (ss : Stmts) → Formed ThenS ss × Formed ElseS ss
unfolding lone key code_after all_wordly class_of
block_form_s ss =
    let r = run_stmts ss in (
      record { fine = refl; count = r.count; q = many S; shaped = refl; walk = r.walk; made = rw r.back at (made_then_s r.count r.walk) },
      record { fine = refl; count = r.count; q = many S; shaped = refl; walk = r.walk; made = rw r.back at (made_else_s r.count r.walk) },
    )

block_form_i : (is : Items) → Formed ThenI is × Formed ElseI is
unfolding lone key code_after all_wordly class_of
block_form_i is =
    let r = run_items is in (
      record { fine = refl; count = r.count; q = many I; shaped = refl; walk = r.walk; made = rw r.back at (made_then_i r.count r.walk) },
      record { fine = refl; count = r.count; q = many I; shaped = refl; walk = r.walk; made = rw r.back at (made_else_i r.count r.walk) },
    )

conn_form : (c : Conn) → Formed C c
unfolding lone key code_after all_wordly class_of
conn_form c = record { fine = refl; count = 2; q = _; shaped = refl; walk = _; made = made_conn c.port c.signal }

line_item : (i : Item) (f : Formed I i) → line_shape (key (item_word i)) ≡ f.q → Formed L (item_line i)
unfolding show_line line_in_range line_depth
line_item i f e = record {
  fine = f.fine;
  count = f.count;
  q = f.q;
  shaped = e;
  walk = f.walk;
  made = record { shown = f.made.shown; ranged = f.made.ranged; deep = f.made.deep };
}

line_form : (l : Line) → Formed L l
unfolding line_shape item_shape items headers lookup_key key code_after all_wordly class_of item_form
line_form (module_line m b) = record { fine = refl; count = 2; q = _; shaped = refl; walk = _; made = made_module m b }
line_form (header_line (kind n k)) = record { fine = refl; count = 2; q = _; shaped = refl; walk = _; made = made_kind n k }
line_form (header_line (val n i)) = record { fine = refl; count = 2; q = _; shaped = refl; walk = _; made = made_val n i }
line_form (item_line (port d n t s)) = line_item _ (item_form (port d n t s)) refl
line_form (item_line (wire n e s)) = line_item _ (item_form (wire n e s)) refl
line_form (item_line (reg n s)) = line_item _ (item_form (reg n s)) refl
line_form (item_line (mem n s)) = line_item _ (item_form (mem n s)) refl
line_form (item_line (const n e)) = line_item _ (item_form (const n e)) refl
line_form (item_line (drive lv e)) = line_item _ (item_form (drive lv e)) refl
line_form (item_line (on s ss)) = line_item _ (item_form (on s ss)) refl
line_form (item_line (inst i)) = line_item _ (item_form (inst i)) refl
line_form (item_line (repeat n l h is)) = line_item _ (item_form (repeat n l h is)) refl
line_form (item_line (const_if c is js)) = line_item _ (item_form (const_if c is js)) refl

place_view : (x : Place) → View X x
unfolding show_place place_in_range place_depth
place_view single = atom tt
place_view (at e) = go (expr_view e)
  where
    go : View E e → View X (at e)
    go (atom a) = atom a
    go (form f) = form (record { fine = f.fine; count = f.count; q = f.q; shaped = f.shaped; walk = f.walk; made = record { shown = f.made.shown; ranged = f.made.ranged; deep = f.made.deep } })

pub viewed : (c : Cat) (t : Tree c) → View c t
viewed Name t = atom tt
viewed Start t = atom tt
viewed Mod t = atom tt
viewed Count t = atom tt
viewed Int t = atom tt
viewed Kind t = atom tt
viewed Dir t = atom tt
viewed Bound t = atom tt
viewed E t = expr_view t
viewed X t = place_view t
viewed T t = width_view t
viewed Lv t = form (lv_form t)
viewed C t = form (conn_form t)
viewed S t = form (stmt_form t)
viewed I t = form (item_form t)
viewed ThenS t = form (block_form_s t).0
viewed ElseS t = form (block_form_s t).1
viewed ThenI t = form (block_form_i t).0
viewed ElseI t = form (block_form_i t).1
viewed L t = form (line_form t)
viewed Nothing t = absurd t
