-- Each form's tree is made of its parts: what shows it, and its range and depth, are those of the parts.
-- Assumes nothing.
use mathlib.Core.Path.{◌≡◌, refl, sym, ap}
use mathlib.Core.Bool.{Bool, ◌&&◌, and-true, and_assoc}
use mathlib.Core.List.{◌∷◌}
use Prim.Native.Nat.{ℕ, zero, suc, max}
use native.Mathlib.Omega.{arith}
use Rattle.spec.specs.Bytes.{bytes, show_form}
use Rattle.spec.specs.Syntax.{Unary, Binary, Expr, Exprs, name, field, index, if_else, unary, binary, all}
use Rattle.spec.specs.Show.{show_unary, show_binary, show_expr, show_exprs}
use Rattle.spec.specs.Refusal.{expr_in_range, exprs_in_range, expr_depth, exprs_depth}
use Rattle.lines.specs.Parse.{behind, fixed, no_shape}
use Rattle.lines.specs.declared.parse.Cat.{Cat}
use Rattle.lines.specs.declared.parse.Cat.TheVariants.{Name, E, Nothing}
use Rattle.lines.specs.declared.parse.Shape.{Shape}
use Rattle.lines.proofs.Trees.{Tree, Walk, shows, all_range, all_depth, Made}

-- ---- walks of fixed shapes

abbrev pub chain : ℕ → Cat → Cat → Cat → Cat → Shape
chain n a b c d = record { need = n; a = a; b = b; c = c; d = d; last = Nothing }

module _ {a : Cat} (P : (n : ℕ) → Walk n (chain 1 a Nothing Nothing Nothing) → Type 0) where
  pub on1 : ((x : Tree a) (e : record {}) → P 1 (x, e)) → (n : ℕ) (w : Walk n (chain 1 a Nothing Nothing Nothing)) → P n w
  on1 f zero w = absurd w
  on1 f (suc zero) w = f w.0 w.1
  on1 f (suc (suc n)) w = absurd w.1.0

module _ {a b : Cat} (P : (n : ℕ) → Walk n (chain 2 a b Nothing Nothing) → Type 0) where
  pub on2 : ((x : Tree a) (y : Tree b) (e : record {}) → P 2 (x, (y, e))) → (n : ℕ) (w : Walk n (chain 2 a b Nothing Nothing)) → P n w
  on2 f zero w = absurd w
  on2 f (suc zero) w = absurd w.1
  on2 f (suc (suc zero)) w = f w.0 w.1.0 w.1.1
  on2 f (suc (suc (suc n))) w = absurd w.1.1.0

module _ {a b c : Cat} (P : (n : ℕ) → Walk n (chain 3 a b c Nothing) → Type 0) where
  pub on3 : ((x : Tree a) (y : Tree b) (z : Tree c) (e : record {}) → P 3 (x, (y, (z, e)))) → (n : ℕ) (w : Walk n (chain 3 a b c Nothing)) → P n w
  on3 f zero w = absurd w
  on3 f (suc zero) w = absurd w.1
  on3 f (suc (suc zero)) w = absurd w.1.1
  on3 f (suc (suc (suc zero))) w = f w.0 w.1.0 w.1.1.0 w.1.1.1
  on3 f (suc (suc (suc (suc n)))) w = absurd w.1.1.1.0

module _ {a b c d : Cat} (P : (n : ℕ) → Walk n (chain 4 a b c d) → Type 0) where
  pub on4 : ((x : Tree a) (y : Tree b) (z : Tree c) (v : Tree d) (e : record {}) → P 4 (x, (y, (z, (v, e))))) → (n : ℕ) (w : Walk n (chain 4 a b c d)) → P n w
  on4 f zero w = absurd w
  on4 f (suc zero) w = absurd w.1
  on4 f (suc (suc zero)) w = absurd w.1.1
  on4 f (suc (suc (suc zero))) w = absurd w.1.1.1
  on4 f (suc (suc (suc (suc zero)))) w = f w.0 w.1.0 w.1.1.0 w.1.1.1.0 w.1.1.1.1
  on4 f (suc (suc (suc (suc (suc n))))) w = absurd w.1.1.1.1.0

pub no_walk : (n : ℕ) → Walk n no_shape → ⊥
no_walk zero w = w
no_walk (suc n) w = w.0

abbrev pub many : Cat → Shape
many a = behind 0 a a a a a

-- ---- expressions

pub made_name : (n : ℕ) → Made E (bytes "n") 1 (fixed 1 Name Nothing Nothing Nothing) (n, record {}) (name n)
unfolding show_expr expr_in_range expr_depth
made_name n = record { shown = refl; ranged = sym (and-true _); deep = refl }

pub made_field : (e : Expr) (n : ℕ) → Made E (bytes "f") 2 (fixed 2 E Name Nothing Nothing) (e, (n, record {})) (field e n)
unfolding show_expr expr_in_range expr_depth
made_field e n = record { shown = refl; ranged = simp (and_assoc, and-true); deep = omega arith }

pub made_index : (e i : Expr) → Made E (bytes "ix") 2 (fixed 2 E E Nothing Nothing) (e, (i, record {})) (index e i)
unfolding show_expr expr_in_range expr_depth
made_index e i = record { shown = refl; ranged = simp (and_assoc, and-true); deep = omega arith }

pub made_if : (c a b : Expr) → Made E (bytes "if") 3 (fixed 3 E E E Nothing) (c, (a, (b, record {}))) (if_else c a b)
unfolding show_expr expr_in_range expr_depth
made_if c a b = record { shown = refl; ranged = simp (and_assoc, and-true); deep = omega arith }

pub made_unary : (o : Unary) (a : Expr) → Made E (show_unary o) 1 (fixed 1 E Nothing Nothing Nothing) (a, record {}) (unary o a)
unfolding show_expr expr_in_range expr_depth
made_unary o a = record { shown = refl; ranged = simp (and_assoc, and-true); deep = omega arith }

pub made_binary : (o : Binary) (a b : Expr) → Made E (show_binary o) 2 (fixed 2 E E Nothing Nothing) (a, (b, record {})) (binary o a b)
unfolding show_expr expr_in_range expr_depth
made_binary o a b = record { shown = refl; ranged = simp (and_assoc, and-true); deep = omega arith }

-- the parts of `all`
unfoldable pub exprs_of : (n : ℕ) → Walk n (many E) → Exprs
exprs_of zero w = Exprs.none
exprs_of (suc n) w = Exprs.more w.0 (exprs_of n w.1)

exprs_show : (n : ℕ) (w : Walk n (many E)) → show_exprs (exprs_of n w) ≡ shows n (many E) w
unfolding exprs_of show_exprs
exprs_show zero w = refl
exprs_show (suc n) w = ap (◌∷◌ (show_expr w.0)) (exprs_show n w.1)

exprs_range : (n : ℕ) (w : Walk n (many E)) → exprs_in_range (exprs_of n w) ≡ all_range n (many E) w
unfolding exprs_of exprs_in_range
exprs_range zero w = refl
exprs_range (suc n) w = ap (λ (b : Bool). expr_in_range w.0 && b) (exprs_range n w.1)

exprs_deep : (n : ℕ) (w : Walk n (many E)) → exprs_depth (exprs_of n w) ≡ all_depth n (many E) w
unfolding exprs_of exprs_depth
exprs_deep zero w = refl
exprs_deep (suc n) w = ap (max (expr_depth w.0)) (exprs_deep n w.1)

pub made_all : (n : ℕ) (w : Walk n (many E)) → Made E (bytes "all") n (many E) w (all (exprs_of n w))
unfolding show_expr expr_in_range expr_depth
made_all n w = record {
  shown = ap (show_form (bytes "all")) (exprs_show n w);
  ranged = exprs_range n w;
  deep = ap suc (exprs_deep n w);
}
