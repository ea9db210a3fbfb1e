-- The grammar's tables are right: parts that fit the shape of a head make a tree of the category, and each tree that is no atom has a
-- head and parts that fit its shape.
-- Assumes nothing.
use mathlib.Core.Path.{◌≡◌, refl, sym}
use mathlib.Core.Bool.{true}
use mathlib.Core.List.{List, [], ◌∷◌}
use Prim.Native.Nat.{ℕ, zero, suc}
use lib.Dec.{eqb}
use borrow.Author.Tests.{eqb-true}
use Rattle.lines.proofs.Laws.{if_case}
use Rattle.lines.proofs.Spelled.{all_wordly, word_fine}
use Rattle.spec.specs.Bytes.{Bytes, bytes}
use Rattle.spec.specs.Syntax.{Unary, neg, not, clog2, Binary, add, sub, mul, eq, ne, lt, le, gt, ge, and, or, shl, shr, band, bor, bxor, name, field, index, if_else, unary, binary, all, bits, signed, set, default, loop, when, at, port, wire, reg, mem, const, drive, on, const_if, kind, val, module_line, header_line, item_line}
use Rattle.spec.specs.Show.{show_unary, show_binary, show_place, show_line}
use Rattle.spec.specs.Refusal.{place_in_range, line_in_range, place_depth, line_depth}
use Rattle.lines.specs.Bytes.{class_of}
use Rattle.lines.specs.Parse.{key, behind, fixed, no_shape, expr_shape, shape, lookup_key, ops, op_of, lone, widths, width_shape, stmts, stmt_shape, items, item_shape, headers, line_shape}
use Rattle.lines.specs.declared.parse.Cat.{Cat}
use Rattle.lines.specs.declared.parse.Cat.TheVariants.{Name, Start, Mod, Count, Int, Kind, Dir, Bound, E, X, T, Lv, C, S, I, ThenS, ElseS, ThenI, ElseI, L, Nothing}
use Rattle.lines.specs.declared.parse.Shape.{Shape}
use Rattle.lines.specs.declared.parse.Op.{Op}
use Rattle.lines.proofs.Trees.{Tree, Walk, Made}
use Rattle.lines.proofs.Made.{on1, on2, on3, on4, no_walk, many, made_name, made_field, made_index, made_if, made_unary, made_binary, exprs_of, made_all}
use Rattle.lines.proofs.MadeItems.{made_bits, made_signed, lv_shape, made_lv0, made_lv1, made_lv2, made_conn, stmts_of, items_of, made_then_s, made_else_s, made_then_i, made_else_i, made_set, made_default, made_loop, made_when, made_port, made_wire, made_reg, made_mem, made_const, made_drive, made_on, made_inst, made_repeat, made_const_if, made_module, made_kind, made_val}

-- parts that fit the shape of the head with the key k make a tree
pub record Built (c : Cat) (k n : ℕ) (q : Shape) (wk : Walk n q) : Type 0 where
  pub word : Bytes
  pub keyed : key word ≡ k
  pub fine : word_fine word ≡ true
  pub tree : Tree c
  pub made : Made c word n q wk tree

-- what a table gives for a key
abbrev pub Each : {A : Type 0} → (A → Type 0) → ℕ → List (ℕ × A) → Type 0
Each P k [] = Unit {0}
Each P k (e ∷ l) = (k ≡ e.0 → P e.1) × Each P k l

pub lookup_case : {A : Type 0} (P : A → Type 0) (l : List (ℕ × A)) (o : A) (k : ℕ) → Each P k l → P o → P (lookup_key l o k)
unfolding lookup_key
lookup_case P [] o k h g = g
lookup_case P (e ∷ l) o k h g = if_case P (eqb k e.0) _ _ (λ t. h.0 (eqb-true k e.0 t)) (λ _. lookup_case P l o k h.1 g)

lone_case : (P : Shape → Type 0) (k head : ℕ) (q : Shape) → (k ≡ head → P q) → P no_shape → P (lone k head q)
unfolding lone
lone_case P k head q h g = if_case P (eqb k head) _ _ (λ t. h (eqb-true k head t)) (λ _. g)

-- ---- expressions

module _ (k : ℕ) where
  abbrev ExprCase : Op → Type 0
  ExprCase o = (n : ℕ) (wk : Walk n (expr_shape o)) → Built E k n (expr_shape o) wk

  unary_case : (o : Unary) → word_fine (show_unary o) ≡ true → k ≡ key (show_unary o) → ExprCase Op.Unary
  unary_case o f e n wk = on1 (λ n wk. Built E k n (expr_shape Op.Unary) wk) (λ x z. record { word = show_unary o; keyed = sym e; fine = f; tree = unary o x; made = made_unary o x }) n wk

  binary_case : (o : Binary) → word_fine (show_binary o) ≡ true → k ≡ key (show_binary o) → ExprCase Op.Binary
  binary_case o f e n wk = on2 (λ n wk. Built E k n (expr_shape Op.Binary) wk) (λ x y z. record { word = show_binary o; keyed = sym e; fine = f; tree = binary o x y; made = made_binary o x y }) n wk

  name_case : k ≡ key (bytes "n") → ExprCase Op.Name
  unfolding all_wordly class_of
  name_case e n wk = on1 (λ n wk. Built E k n (expr_shape Op.Name) wk) (λ x z. record { word = bytes "n"; keyed = sym e; fine = refl; tree = name x; made = made_name x }) n wk

  field_case : k ≡ key (bytes "f") → ExprCase Op.Field
  unfolding all_wordly class_of
  field_case e n wk = on2 (λ n wk. Built E k n (expr_shape Op.Field) wk) (λ x y z. record { word = bytes "f"; keyed = sym e; fine = refl; tree = field x y; made = made_field x y }) n wk

  index_case : k ≡ key (bytes "ix") → ExprCase Op.Index
  unfolding all_wordly class_of
  index_case e n wk = on2 (λ n wk. Built E k n (expr_shape Op.Index) wk) (λ x y z. record { word = bytes "ix"; keyed = sym e; fine = refl; tree = index x y; made = made_index x y }) n wk

  if_case' : k ≡ key (bytes "if") → ExprCase Op.If
  unfolding all_wordly class_of
  if_case' e n wk = on3 (λ n wk. Built E k n (expr_shape Op.If) wk) (λ x y z w. record { word = bytes "if"; keyed = sym e; fine = refl; tree = if_else x y z; made = made_if x y z }) n wk

  all_case : k ≡ key (bytes "all") → ExprCase Op.All
  unfolding all_wordly class_of
  all_case e n wk = record { word = bytes "all"; keyed = sym e; fine = refl; tree = all (exprs_of n wk); made = made_all n wk }

  expr_built : ExprCase (op_of k)
  unfolding op_of ops all_wordly class_of
  expr_built =
      lookup_case ExprCase ops Op.Other k (
        name_case,
        (
          field_case,
          (
            index_case,
            (
              if_case',
              (
                all_case,
                (
                  unary_case neg refl,
                  (
                    unary_case not refl,
                    (
                      unary_case clog2 refl,
                      (
                        binary_case add refl,
                        (
                          binary_case sub refl,
                          (
                            binary_case mul refl,
                            (
                              binary_case eq refl,
                              (
                                binary_case ne refl,
                                (
                                  binary_case lt refl,
                                  (
                                    binary_case le refl,
                                    (
                                      binary_case gt refl,
                                      (
                                        binary_case ge refl,
                                        (
                                          binary_case and refl,
                                          (
                                            binary_case or refl,
                                            (
                                              binary_case shl refl,
                                              (
                                                binary_case shr refl,
                                                (
                                                  binary_case band refl,
                                                  (
                                                    binary_case bor refl,
                                                    (binary_case bxor refl, tt),
                                                  ),
                                                ),
                                              ),
                                            ),
                                          ),
                                        ),
                                      ),
                                    ),
                                  ),
                                ),
                              ),
                            ),
                          ),
                        ),
                      ),
                    ),
                  ),
                ),
              ),
            ),
          ),
        ),
      )
      (λ n wk. absurd (no_walk n wk))

-- ---- the other categories

abbrev Case : Cat → ℕ → Shape → Type 0
Case c k q = (n : ℕ) (wk : Walk n q) → Built c k n q wk

none_case : (c : Cat) (k : ℕ) → Case c k no_shape
none_case c k n wk = absurd (no_walk n wk)

width_built : (k : ℕ) → Case T k (width_shape k)
unfolding width_shape widths all_wordly class_of
width_built k =
    lookup_case (Case T k) widths no_shape k
    ((λ e. on1 (λ n wk. Built T k n (fixed 1 E Nothing Nothing Nothing) wk) (λ x z. record { word = bytes "bits"; keyed = sym e; fine = refl; tree = bits x; made = made_bits x })), ((λ e. on1 (λ n wk. Built T k n (fixed 1 E Nothing Nothing Nothing) wk) (λ x z. record { word = bytes "signed"; keyed = sym e; fine = refl; tree = signed x; made = made_signed x })), tt))
    (none_case T k)

stmt_built : (k : ℕ) → Case S k (stmt_shape k)
unfolding stmt_shape stmts all_wordly class_of
stmt_built k =
    lookup_case (Case S k) stmts no_shape k (
      (λ e. on2 (λ n wk. Built S k n (fixed 2 Name Start Nothing Nothing) wk) (λ x y z. record { word = bytes "set"; keyed = sym e; fine = refl; tree = set x y; made = made_set x y })),
      (
        (λ e. on1 (λ n wk. Built S k n (fixed 1 Name Nothing Nothing Nothing) wk) (λ x z. record { word = bytes "default"; keyed = sym e; fine = refl; tree = default x; made = made_default x })),
        (
          λ e n wk. record { word = bytes "loop"; keyed = sym e; fine = refl; tree = loop (stmts_of n wk); made = made_loop n wk },
          ((λ e. on2 (λ n wk. Built S k n (fixed 2 ThenS ElseS Nothing Nothing) wk) (λ x y z. record { word = bytes "when"; keyed = sym e; fine = refl; tree = when x y; made = made_when x y })), tt),
        ),
      ),
    )
    (none_case S k)

on_case : (k : ℕ) → k ≡ key (bytes "on") → Case I k (behind 1 Start S S S S)
unfolding all_wordly class_of
on_case k e zero wk = absurd wk
on_case k e (suc n) wk = record { word = bytes "on"; keyed = sym e; fine = refl; tree = on wk.0 (stmts_of n wk.1); made = made_on wk.0 n wk.1 }

inst_case : (k : ℕ) → k ≡ key (bytes "inst") → Case I k (behind 4 Name X Mod Start C)
unfolding all_wordly class_of
inst_case k e zero wk = absurd wk
inst_case k e (suc zero) wk = absurd wk.1
inst_case k e (suc (suc zero)) wk = absurd wk.1.1
inst_case k e (suc (suc (suc zero))) wk = absurd wk.1.1.1
inst_case k e (suc (suc (suc (suc n)))) wk = record { word = bytes "inst"; keyed = sym e; fine = refl; tree = _; made = made_inst wk.0 wk.1.0 wk.1.1.0 wk.1.1.1.0 n wk.1.1.1.1 }

repeat_case : (k : ℕ) → k ≡ key (bytes "repeat") → Case I k (behind 3 Name E E I I)
unfolding all_wordly class_of
repeat_case k e zero wk = absurd wk
repeat_case k e (suc zero) wk = absurd wk.1
repeat_case k e (suc (suc zero)) wk = absurd wk.1.1
repeat_case k e (suc (suc (suc n))) wk = record { word = bytes "repeat"; keyed = sym e; fine = refl; tree = _; made = made_repeat wk.0 wk.1.0 wk.1.1.0 n wk.1.1.1 }

item_built : (k : ℕ) → Case I k (item_shape k)
unfolding item_shape items all_wordly class_of
item_built k =
    lookup_case (Case I k) items no_shape k (
      λ e. on4 (λ n wk. Built I k n (fixed 4 Dir Name T Start) wk) (λ x y v w z. record { word = bytes "port"; keyed = sym e; fine = refl; tree = port x y v w; made = made_port x y v w }),
      (
        λ e. on3 (λ n wk. Built I k n (fixed 3 Name E Start Nothing) wk) (λ x y v z. record { word = bytes "wire"; keyed = sym e; fine = refl; tree = wire x y v; made = made_wire x y v }),
        (
          λ e. on2 (λ n wk. Built I k n (fixed 2 Name Start Nothing Nothing) wk) (λ x y z. record { word = bytes "reg"; keyed = sym e; fine = refl; tree = reg x y; made = made_reg x y }),
          (
            λ e. on2 (λ n wk. Built I k n (fixed 2 Name Start Nothing Nothing) wk) (λ x y z. record { word = bytes "mem"; keyed = sym e; fine = refl; tree = mem x y; made = made_mem x y }),
            (
              λ e. on2 (λ n wk. Built I k n (fixed 2 Name E Nothing Nothing) wk) (λ x y z. record { word = bytes "const"; keyed = sym e; fine = refl; tree = const x y; made = made_const x y }),
              (
                λ e. on2 (λ n wk. Built I k n (fixed 2 Lv E Nothing Nothing) wk) (λ x y z. record { word = bytes "drive"; keyed = sym e; fine = refl; tree = drive x y; made = made_drive x y }),
                (
                  on_case k,
                  (
                    inst_case k,
                    (
                      repeat_case k,
                      (λ e. on3 (λ n wk. Built I k n (fixed 3 E ThenI ElseI Nothing) wk) (λ x y v z. record { word = bytes "constif"; keyed = sym e; fine = refl; tree = const_if x y v; made = made_const_if x y v }), tt),
                    ),
                  ),
                ),
              ),
            ),
          ),
        ),
      ),
    )
    (none_case I k)

line_of_item : (k : ℕ) (n : ℕ) (q : Shape) (wk : Walk n q) → Built I k n q wk → Built L k n q wk
unfolding show_line line_in_range line_depth
line_of_item k n q wk b = record {
  word = b.word;
  keyed = b.keyed;
  fine = b.fine;
  tree = item_line b.tree;
  made = record { shown = b.made.shown; ranged = b.made.ranged; deep = b.made.deep };
}

line_built : (k : ℕ) → Case L k (line_shape k)
unfolding line_shape headers all_wordly class_of
line_built k =
    lookup_case (Case L k) headers (item_shape k) k (
      λ e. on2 (λ n wk. Built L k n (fixed 2 Count Bound Nothing Nothing) wk) (λ x y z. record { word = bytes "module"; keyed = sym e; fine = refl; tree = module_line x y; made = made_module x y }),
      (
        λ e. on2 (λ n wk. Built L k n (fixed 2 Name Kind Nothing Nothing) wk) (λ x y z. record { word = bytes "kind"; keyed = sym e; fine = refl; tree = header_line (kind x y); made = made_kind x y }),
        (λ e. on2 (λ n wk. Built L k n (fixed 2 Name Int Nothing Nothing) wk) (λ x y z. record { word = bytes "val"; keyed = sym e; fine = refl; tree = header_line (val x y); made = made_val x y }), tt),
      ),
    )
    (λ n wk. line_of_item k n (item_shape k) wk (item_built k n wk))

lv_case : (k : ℕ) → k ≡ key (bytes "lv") → Case Lv k lv_shape
unfolding all_wordly class_of
lv_case k e zero wk = absurd wk
lv_case k e (suc zero) wk = absurd wk.1
lv_case k e (suc (suc zero)) wk = record { word = bytes "lv"; keyed = sym e; fine = refl; tree = _; made = made_lv0 wk.0 wk.1.0 }
lv_case k e (suc (suc (suc zero))) wk = record { word = bytes "lv"; keyed = sym e; fine = refl; tree = _; made = made_lv1 wk.0 wk.1.0 wk.1.1.0 }
lv_case k e (suc (suc (suc (suc zero)))) wk = record { word = bytes "lv"; keyed = sym e; fine = refl; tree = _; made = made_lv2 wk.0 wk.1.0 wk.1.1.0 wk.1.1.1.0 }
lv_case k e (suc (suc (suc (suc (suc n))))) wk = absurd wk.1.1.1.1.0

place_of_expr : (k : ℕ) (n : ℕ) (q : Shape) (wk : Walk n q) → Built E k n q wk → Built X k n q wk
unfolding show_place place_in_range place_depth
place_of_expr k n q wk b = record {
  word = b.word;
  keyed = b.keyed;
  fine = b.fine;
  tree = at b.tree;
  made = record { shown = b.made.shown; ranged = b.made.ranged; deep = b.made.deep };
}

-- parts that fit the shape of a head make a tree
pub built : (c : Cat) (k n : ℕ) (wk : Walk n (shape c k)) → Built c k n (shape c k) wk
unfolding all_wordly class_of
built Name k n wk = none_case Name k n wk
built Start k n wk = none_case Start k n wk
built Mod k n wk = none_case Mod k n wk
built Count k n wk = none_case Count k n wk
built Int k n wk = none_case Int k n wk
built Kind k n wk = none_case Kind k n wk
built Dir k n wk = none_case Dir k n wk
built Bound k n wk = none_case Bound k n wk
built E k n wk = expr_built k n wk
built X k n wk = place_of_expr k n (expr_shape (op_of k)) wk (expr_built k n wk)
built T k n wk = width_built k n wk
built Lv k n wk = lone_case (Case Lv k) k (key (bytes "lv")) lv_shape (lv_case k) (none_case Lv k) n wk
built C k n wk =
    lone_case (Case C k) k (key (bytes "conn")) (fixed 2 Name E Nothing Nothing)
    (λ e. on2 (λ n wk. Built C k n (fixed 2 Name E Nothing Nothing) wk) (λ x y z. record { word = bytes "conn"; keyed = sym e; fine = refl; tree = record { port = x; signal = y }; made = made_conn x y }))
    (none_case C k) n wk
built S k n wk = stmt_built k n wk
built I k n wk = item_built k n wk
built ThenS k n wk = lone_case (Case ThenS k) k (key (bytes "then")) (many S) (λ e n wk. record { word = bytes "then"; keyed = sym e; fine = refl; tree = stmts_of n wk; made = made_then_s n wk }) (none_case ThenS k) n wk
built ElseS k n wk = lone_case (Case ElseS k) k (key (bytes "else")) (many S) (λ e n wk. record { word = bytes "else"; keyed = sym e; fine = refl; tree = stmts_of n wk; made = made_else_s n wk }) (none_case ElseS k) n wk
built ThenI k n wk = lone_case (Case ThenI k) k (key (bytes "then")) (many I) (λ e n wk. record { word = bytes "then"; keyed = sym e; fine = refl; tree = items_of n wk; made = made_then_i n wk }) (none_case ThenI k) n wk
built ElseI k n wk = lone_case (Case ElseI k) k (key (bytes "else")) (many I) (λ e n wk. record { word = bytes "else"; keyed = sym e; fine = refl; tree = items_of n wk; made = made_else_i n wk }) (none_case ElseI k) n wk
built L k n wk = line_built k n wk
built Nothing k n wk = none_case Nothing k n wk
