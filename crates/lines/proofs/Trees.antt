-- The trees of each category, with the bytes that show them and what is asked of them; and walks, the trees of a form's parts.
-- Assumes nothing.
use mathlib.Core.Path.{◌≡◌}
use mathlib.Core.Bool.{Bool, true, ◌&&◌}
use mathlib.Core.List.{List, [], ◌∷◌}
use Prim.Native.Nat.{ℕ, zero, suc, max}
use lib.Dec.{ltb}
use lib.IntN.{ℤ}
use Rattle.spec.specs.Bytes.{Bytes, bytes, show_number, show_int, show_form}
use Rattle.spec.specs.Syntax.{name_bound, module_bound, number_bound, Expr, name, index, Stmts, Stmt, Items, Item, Width, LValue, Place, Conn, Line}
use Rattle.spec.specs.Syntax as Syntax
use Rattle.spec.specs.Show.{show_kind, show_expr, show_width, show_lvalue, show_stmt, show_stmts, show_dir, show_place, show_item, show_items, show_bound, show_line}
use Rattle.spec.specs.Refusal.{expr_in_range, width_in_range, index_in_range, stmt_in_range, stmts_in_range, place_in_range, item_in_range, items_in_range, in_int, line_in_range, expr_depth, width_depth, index_depth, stmt_depth, stmts_depth, place_depth, item_depth, items_depth, line_depth}
use Rattle.lines.specs.Parse.{shift}
use Rattle.lines.specs.declared.parse.Cat.{Cat}
use Rattle.lines.specs.declared.parse.Cat.TheVariants.{Name, Start, Mod, Count, Int, Kind, Dir, Bound, E, X, T, Lv, C, S, I, ThenS, ElseS, ThenI, ElseI, L, Nothing}
use Rattle.lines.specs.declared.parse.Shape.{Shape}

abbrev pub Tree : Cat → Type 0
Tree Name = ℕ
Tree Start = ℕ
Tree Mod = ℕ
Tree Count = ℕ
Tree Int = ℤ
Tree Kind = Syntax.Kind
Tree Dir = Syntax.Dir
Tree Bound = Bool
Tree E = Expr
Tree X = Place
Tree T = Width
Tree Lv = LValue
Tree C = Conn
Tree S = Stmt
Tree I = Item
Tree ThenS = Stmts
Tree ElseS = Stmts
Tree ThenI = Items
Tree ElseI = Items
Tree L = Line
Tree Nothing = ⊥

abbrev pub show : (c : Cat) → Tree c → Bytes
show Name n = show_number n
show Start n = show_number n
show Mod n = show_number n
show Count n = show_number n
show Int i = show_int i
show Kind k = show_kind k
show Dir d = show_dir d
show Bound b = show_bound b
show E e = show_expr e
show X p = show_place p
show T w = show_width w
show Lv lv = show_lvalue lv
show C c = show_form (bytes "conn") (show_number c.port ∷ show_expr c.signal ∷ [])
show S s = show_stmt s
show I i = show_item i
show ThenS ss = show_form (bytes "then") (show_stmts ss)
show ElseS ss = show_form (bytes "else") (show_stmts ss)
show ThenI is = show_form (bytes "then") (show_items is)
show ElseI is = show_form (bytes "else") (show_items is)
show L l = show_line l
show Nothing x = absurd x

abbrev pub range : (c : Cat) → Tree c → Bool
range Name n = ltb n name_bound
range Start n = ltb n number_bound
range Mod n = ltb n module_bound
range Count n = true
range Int i = in_int i
range Kind k = true
range Dir d = true
range Bound b = true
range E e = expr_in_range e
range X p = place_in_range p
range T w = width_in_range w
range Lv lv = ltb lv.name name_bound && ltb lv.start number_bound && index_in_range lv.index
range C c = ltb c.port name_bound && expr_in_range c.signal
range S s = stmt_in_range s
range I i = item_in_range i
range ThenS ss = stmts_in_range ss
range ElseS ss = stmts_in_range ss
range ThenI is = items_in_range is
range ElseI is = items_in_range is
range L l = line_in_range l
range Nothing x = absurd x

abbrev pub depth : (c : Cat) → Tree c → ℕ
depth Name n = 0
depth Start n = 0
depth Mod n = 0
depth Count n = 0
depth Int i = 0
depth Kind k = 0
depth Dir d = 0
depth Bound b = 0
depth E e = expr_depth e
depth X p = place_depth p
depth T w = width_depth w
depth Lv lv = suc (index_depth lv.index)
depth C c = suc (expr_depth c.signal)
depth S s = stmt_depth s
depth I i = item_depth i
depth ThenS ss = suc (stmts_depth ss)
depth ElseS ss = suc (stmts_depth ss)
depth ThenI is = suc (items_depth is)
depth ElseI is = suc (items_depth is)
depth L l = line_depth l
depth Nothing x = absurd x

-- nothing more is needed
abbrev pub Done : ℕ → Type 0
Done zero = record {}
Done (suc n) = ⊥

-- the n parts that a form of this shape has
abbrev pub Walk : ℕ → Shape → Type 0
Walk zero q = Done q.need
Walk (suc n) q = Tree q.a × Walk n (shift q)

abbrev pub shows : (n : ℕ) (q : Shape) → Walk n q → List Bytes
shows zero q w = []
shows (suc n) q w = show q.a w.0 ∷ shows n (shift q) w.1

abbrev pub all_range : (n : ℕ) (q : Shape) → Walk n q → Bool
all_range zero q w = true
all_range (suc n) q w = range q.a w.0 && all_range n (shift q) w.1

abbrev pub all_depth : (n : ℕ) (q : Shape) → Walk n q → ℕ
all_depth zero q w = 0
all_depth (suc n) q w = max (depth q.a w.0) (all_depth n (shift q) w.1)

-- the tree t is the form of the head w and these parts
pub record Made (c : Cat) (w : Bytes) (n : ℕ) (q : Shape) (wk : Walk n q) (t : Tree c) : Type 0 where
  pub shown : show c t ≡ show_form w (shows n q wk)
  pub ranged : range c t ≡ all_range n q wk
  pub deep : depth c t ≡ suc (all_depth n q wk)
