-- The same for widths, left sides, connections, statements, items and lines.
-- Assumes nothing.
use mathlib.Core.Path.{◌≡◌, refl, sym, ap}
use mathlib.Core.Bool.{Bool, ◌&&◌, and-true, and_assoc}
use mathlib.Core.List.{List, [], ◌∷◌}
use Prim.Native.Nat.{ℕ, zero, suc, max}
use native.Mathlib.Omega.{arith}
use lib.Dec.{ltb}
use Rattle.spec.specs.Bytes.{Bytes, bytes, show_number, show_form}
use Rattle.spec.specs.Syntax.{Expr, name, index, Width, bits, signed, whole, at_bit, high_low, LValue, Stmts, set, default, loop, when, Place, Conn, Items, port, wire, reg, mem, const, drive, on, inst, repeat, const_if, kind, val, module_line, header_line}
use Rattle.spec.specs.Show.{show_expr, show_width, show_index, show_lvalue, show_stmt, show_stmts, show_place, show_conns, show_item, show_items, show_header, show_line}
use Rattle.spec.specs.Refusal.{width_in_range, index_in_range, stmt_in_range, stmts_in_range, conns_in_range, inst_in_range, item_in_range, items_in_range, line_in_range, width_depth, index_depth, stmt_depth, stmts_depth, conns_depth, item_depth, items_depth, line_depth}
use Rattle.spec.specs.Syntax as Syntax
use Rattle.spec.specs.Syntax.{number_bound}
use lib.IntN.{ℤ}
use Rattle.lines.specs.Parse.{behind, fixed}
use Rattle.lines.specs.declared.parse.Cat.TheVariants.{Name, Start, Mod, Count, Int, Kind, Dir, Bound, E, X, T, Lv, C, S, I, ThenS, ElseS, ThenI, ElseI, L, Nothing}
use Rattle.lines.specs.declared.parse.Shape.{Shape}
use Rattle.lines.proofs.Trees.{show, range, depth, Walk, shows, all_range, all_depth, Made}
use Rattle.lines.proofs.Made.{many}

-- ---- widths, left sides, connections

pub made_bits : (e : Expr) → Made T (bytes "bits") 1 (fixed 1 E Nothing Nothing Nothing) (e, record {}) (bits e)
unfolding show_width width_in_range width_depth
made_bits e = record { shown = refl; ranged = sym (and-true _); deep = omega arith }

pub made_signed : (e : Expr) → Made T (bytes "signed") 1 (fixed 1 E Nothing Nothing Nothing) (e, record {}) (signed e)
unfolding show_width width_in_range width_depth
made_signed e = record { shown = refl; ranged = sym (and-true _); deep = omega arith }

abbrev pub lv_shape : Shape
lv_shape = fixed 2 Name Start E E

pub made_lv0 : (n s : ℕ) → Made Lv (bytes "lv") 2 lv_shape (n, (s, record {})) (record { name = n; start = s; index = whole })
unfolding show_lvalue show_index index_in_range index_depth
made_lv0 n s = record { shown = refl; ranged = simp (and_assoc, and-true); deep = refl }

pub made_lv1 : (n s : ℕ) (e : Expr) → Made Lv (bytes "lv") 3 lv_shape (n, (s, (e, record {}))) (record { name = n; start = s; index = at_bit e })
unfolding show_lvalue show_index index_in_range index_depth
made_lv1 n s e = record { shown = refl; ranged = simp (and_assoc, and-true); deep = omega arith }

pub made_lv2 : (n s : ℕ) (h l : Expr) → Made Lv (bytes "lv") 4 lv_shape (n, (s, (h, (l, record {})))) (record { name = n; start = s; index = high_low h l })
unfolding show_lvalue show_index index_in_range index_depth
made_lv2 n s h l = record { shown = refl; ranged = simp (and_assoc, and-true); deep = omega arith }

pub made_conn : (n : ℕ) (e : Expr) → Made C (bytes "conn") 2 (fixed 2 Name E Nothing Nothing) (n, (e, record {})) (record { port = n; signal = e })
made_conn n e = record { shown = refl; ranged = simp (and_assoc, and-true); deep = omega arith }

-- ---- runs of connections, statements and items

unfoldable pub conns_of : (n : ℕ) → Walk n (many C) → List Conn
conns_of zero w = []
conns_of (suc n) w = w.0 ∷ conns_of n w.1

conns_show : (n : ℕ) (w : Walk n (many C)) → show_conns (conns_of n w) ≡ shows n (many C) w
unfolding conns_of show_conns
conns_show zero w = refl
conns_show (suc n) w = ap (◌∷◌ (show C w.0)) (conns_show n w.1)

conns_range : (n : ℕ) (w : Walk n (many C)) → conns_in_range (conns_of n w) ≡ all_range n (many C) w
unfolding conns_of conns_in_range
conns_range zero w = refl
conns_range (suc n) w = ap (λ (b : Bool). range C w.0 && b) (conns_range n w.1)

conns_deep : (n : ℕ) (w : Walk n (many C)) → conns_depth (conns_of n w) ≡ all_depth n (many C) w
unfolding conns_of conns_depth
conns_deep zero w = refl
conns_deep (suc n) w = ap (max (depth C w.0)) (conns_deep n w.1)

unfoldable pub stmts_of : (n : ℕ) → Walk n (many S) → Stmts
stmts_of zero w = Stmts.none
stmts_of (suc n) w = Stmts.more w.0 (stmts_of n w.1)

stmts_show : (n : ℕ) (w : Walk n (many S)) → show_stmts (stmts_of n w) ≡ shows n (many S) w
unfolding stmts_of show_stmts
stmts_show zero w = refl
stmts_show (suc n) w = ap (◌∷◌ (show_stmt w.0)) (stmts_show n w.1)

stmts_range : (n : ℕ) (w : Walk n (many S)) → stmts_in_range (stmts_of n w) ≡ all_range n (many S) w
unfolding stmts_of stmts_in_range
stmts_range zero w = refl
stmts_range (suc n) w = ap (λ (b : Bool). stmt_in_range w.0 && b) (stmts_range n w.1)

stmts_deep : (n : ℕ) (w : Walk n (many S)) → stmts_depth (stmts_of n w) ≡ all_depth n (many S) w
unfolding stmts_of stmts_depth
stmts_deep zero w = refl
stmts_deep (suc n) w = ap (max (stmt_depth w.0)) (stmts_deep n w.1)

unfoldable pub items_of : (n : ℕ) → Walk n (many I) → Items
items_of zero w = Items.none
items_of (suc n) w = Items.more w.0 (items_of n w.1)

items_show : (n : ℕ) (w : Walk n (many I)) → show_items (items_of n w) ≡ shows n (many I) w
unfolding items_of show_items
items_show zero w = refl
items_show (suc n) w = ap (◌∷◌ (show_item w.0)) (items_show n w.1)

items_range : (n : ℕ) (w : Walk n (many I)) → items_in_range (items_of n w) ≡ all_range n (many I) w
unfolding items_of items_in_range
items_range zero w = refl
items_range (suc n) w = ap (λ (b : Bool). item_in_range w.0 && b) (items_range n w.1)

items_deep : (n : ℕ) (w : Walk n (many I)) → items_depth (items_of n w) ≡ all_depth n (many I) w
unfolding items_of items_depth
items_deep zero w = refl
items_deep (suc n) w = ap (max (item_depth w.0)) (items_deep n w.1)

pub made_then_s : (n : ℕ) (w : Walk n (many S)) → Made ThenS (bytes "then") n (many S) w (stmts_of n w)
made_then_s n w = record { shown = ap (show_form (bytes "then")) (stmts_show n w); ranged = stmts_range n w; deep = ap suc (stmts_deep n w) }

pub made_else_s : (n : ℕ) (w : Walk n (many S)) → Made ElseS (bytes "else") n (many S) w (stmts_of n w)
made_else_s n w = record { shown = ap (show_form (bytes "else")) (stmts_show n w); ranged = stmts_range n w; deep = ap suc (stmts_deep n w) }

pub made_then_i : (n : ℕ) (w : Walk n (many I)) → Made ThenI (bytes "then") n (many I) w (items_of n w)
made_then_i n w = record { shown = ap (show_form (bytes "then")) (items_show n w); ranged = items_range n w; deep = ap suc (items_deep n w) }

pub made_else_i : (n : ℕ) (w : Walk n (many I)) → Made ElseI (bytes "else") n (many I) w (items_of n w)
made_else_i n w = record { shown = ap (show_form (bytes "else")) (items_show n w); ranged = items_range n w; deep = ap suc (items_deep n w) }

-- ---- statements

pub made_set : (n s : ℕ) → Made S (bytes "set") 2 (fixed 2 Name Start Nothing Nothing) (n, (s, record {})) (set n s)
unfolding show_stmt stmt_in_range stmt_depth
made_set n s = record { shown = refl; ranged = simp (and_assoc, and-true); deep = refl }

pub made_default : (n : ℕ) → Made S (bytes "default") 1 (fixed 1 Name Nothing Nothing Nothing) (n, record {}) (default n)
unfolding show_stmt stmt_in_range stmt_depth
made_default n = record { shown = refl; ranged = sym (and-true _); deep = refl }

pub made_loop : (n : ℕ) (w : Walk n (many S)) → Made S (bytes "loop") n (many S) w (loop (stmts_of n w))
unfolding show_stmt stmt_in_range stmt_depth
made_loop n w = record { shown = ap (show_form (bytes "loop")) (stmts_show n w); ranged = stmts_range n w; deep = ap suc (stmts_deep n w) }

pub made_when : (ss ts : Stmts) → Made S (bytes "when") 2 (fixed 2 ThenS ElseS Nothing Nothing) (ss, (ts, record {})) (when ss ts)
unfolding show_stmt stmt_in_range stmt_depth
made_when ss ts = record { shown = refl; ranged = simp (and_assoc, and-true); deep = omega arith }

-- ---- items

pub made_port : (d : Syntax.Dir) (n : ℕ) (t : Width) (s : ℕ) → Made I (bytes "port") 4 (fixed 4 Dir Name T Start) (d, (n, (t, (s, record {})))) (port d n t s)
unfolding show_item item_in_range item_depth
made_port d n t s = record { shown = refl; ranged = simp (and_assoc, and-true); deep = omega arith }

pub made_wire : (n : ℕ) (e : Expr) (s : ℕ) → Made I (bytes "wire") 3 (fixed 3 Name E Start Nothing) (n, (e, (s, record {}))) (wire n e s)
unfolding show_item item_in_range item_depth
made_wire n e s = record { shown = refl; ranged = simp (and_assoc, and-true); deep = omega arith }

pub made_reg : (n s : ℕ) → Made I (bytes "reg") 2 (fixed 2 Name Start Nothing Nothing) (n, (s, record {})) (reg n s)
unfolding show_item item_in_range item_depth
made_reg n s = record { shown = refl; ranged = simp (and_assoc, and-true); deep = refl }

pub made_mem : (n s : ℕ) → Made I (bytes "mem") 2 (fixed 2 Name Start Nothing Nothing) (n, (s, record {})) (mem n s)
unfolding show_item item_in_range item_depth
made_mem n s = record { shown = refl; ranged = simp (and_assoc, and-true); deep = refl }

pub made_const : (n : ℕ) (e : Expr) → Made I (bytes "const") 2 (fixed 2 Name E Nothing Nothing) (n, (e, record {})) (const n e)
unfolding show_item item_in_range item_depth
made_const n e = record { shown = refl; ranged = simp (and_assoc, and-true); deep = omega arith }

pub made_drive : (lv : LValue) (e : Expr) → Made I (bytes "drive") 2 (fixed 2 Lv E Nothing Nothing) (lv, (e, record {})) (drive lv e)
unfolding show_item item_in_range item_depth
made_drive lv e = record { shown = refl; ranged = simp (and_assoc, and-true); deep = omega arith }

pub made_on : (s n : ℕ) (w : Walk n (many S)) → Made I (bytes "on") (suc n) (behind 1 Start S S S S) (s, w) (on s (stmts_of n w))
unfolding show_item item_in_range item_depth
made_on s n w = record {
  shown = ap (λ (l : List Bytes). show_form (bytes "on") (show_number s ∷ l)) (stmts_show n w);
  ranged = ap (λ (b : Bool). ltb s number_bound && b) (stmts_range n w);
  deep = let e = stmts_deep n w in omega arith;
}

pub made_inst : (a : ℕ) (x : Place) (m s n : ℕ) (w : Walk n (many C)) → Made I (bytes "inst") (suc (suc (suc (suc n)))) (behind 4 Name X Mod Start C) (a, (x, (m, (s, w)))) (inst (record { name = a; place = x; «module» = m; start = s; conns = conns_of n w }))
unfolding show_item item_in_range inst_in_range item_depth
made_inst a x m s n w = record {
  shown = ap (λ (l : List Bytes). show_form (bytes "inst") (show_number a ∷ show_place x ∷ show_number m ∷ show_number s ∷ l)) (conns_show n w);
  ranged = rw (conns_range n w) (simp and_assoc);
  deep = let e = conns_deep n w in omega arith;
}

pub made_repeat : (a : ℕ) (l h : Expr) (n : ℕ) (w : Walk n (many I)) → Made I (bytes "repeat") (suc (suc (suc n))) (behind 3 Name E E I I) (a, (l, (h, w))) (repeat a l h (items_of n w))
unfolding show_item item_in_range item_depth
made_repeat a l h n w = record {
  shown = ap (λ (k : List Bytes). show_form (bytes "repeat") (show_number a ∷ show_expr l ∷ show_expr h ∷ k)) (items_show n w);
  ranged = rw (items_range n w) (simp and_assoc);
  deep = let e = items_deep n w in omega arith;
}

pub made_const_if : (c : Expr) (is js : Items) → Made I (bytes "constif") 3 (fixed 3 E ThenI ElseI Nothing) (c, (is, (js, record {}))) (const_if c is js)
unfolding show_item item_in_range item_depth
made_const_if c is js = record { shown = refl; ranged = simp (and_assoc, and-true); deep = omega arith }

-- ---- lines

pub made_module : (m : ℕ) (b : Bool) → Made L (bytes "module") 2 (fixed 2 Count Bound Nothing Nothing) (m, (b, record {})) (module_line m b)
unfolding show_line line_in_range line_depth
made_module m b = record { shown = refl; ranged = refl; deep = refl }

pub made_kind : (n : ℕ) (k : Syntax.Kind) → Made L (bytes "kind") 2 (fixed 2 Name Kind Nothing Nothing) (n, (k, record {})) (header_line (kind n k))
unfolding show_line show_header line_in_range line_depth
made_kind n k = record { shown = refl; ranged = sym (and-true _); deep = refl }

pub made_val : (n : ℕ) (i : ℤ) → Made L (bytes "val") 2 (fixed 2 Name Int Nothing Nothing) (n, (i, record {})) (header_line (val n i))
unfolding show_line show_header line_in_range line_depth
made_val n i = record { shown = refl; ranged = simp (and_assoc, and-true); deep = refl }
