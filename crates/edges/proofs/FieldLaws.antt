-- What an `f` is of: one law for each way of `indexed_name` and `field_of`.
-- Assumes nothing.
use Rattle.std.specs.Prelude.{Option, Some, None}
use mathlib.Core.Path.{◌≡◌, refl, sym, ◌∙◌, ap, subst}
use mathlib.Core.Bool.{Bool, true, false, true≢false}
use mathlib.Core.List.{List, [], ◌∷◌}
use Prim.Native.Nat.{ℕ, zero, suc, ◌-◌, ◌≤◌, max}
use native.Mathlib.Omega.{arith}
use borrow.Author.Tests.{eq-eqb, ne_eqb}
use lib.ListN.{drop, get_or}
use Rattle.spec.specs.Bytes.{Bytes, show_rest, show_form}
use Rattle.spec.specs.Syntax.{neg, not, clog2, add, sub, mul, eq, ne, lt, le, gt, ge, and, or, shl, shr, band, bor, bxor, Expr, lit, truth, name, field, index, if_else, unary, binary, all, Header}
use Rattle.spec.specs.Show.{show_expr}
use Rattle.spec.specs.Refusal.{expr_in_range, expr_depth}
use Rattle.spec.specs.Edge.{is_inst, FieldOf, an_inst, an_inst_at, no_inst, field_of}
use Rattle.spec.proofs.Nodes.{and_parts}
use Rattle.spec.proofs.Numbers.{if_case}
use Rattle.spec.proofs.Shown.{expr_shown}
use Rattle.lines.specs.Parts.{part_end, piece, next_end}
use Rattle.edges.specs.declared.FieldOf as F
use Rattle.edges.specs.declared.FieldOf.TheVariants as of
use Rattle.edges.specs.Reads.{KindsOf}
use Rattle.edges.specs.Shows.{ShowsExpr, opens, begins, name_of, indexed_name, inst_by, NamedBy, IndexedBy, FieldOfIs}
use Rattle.edges.specs.Total.{index_by, inner_by, field_by}
use Rattle.runs.proofs.Inside.{placed}
use Rattle.edges.proofs.ExprLaws.{number_first, begins_parts, begins_not, begins_by, name_is}

pub get_or_drop_here : (l : Bytes) (i : ℕ) → get_or (drop i l) 0 0 ≡ get_or l i 0
get_or_drop_here [] zero = refl
get_or_drop_here [] (suc i) = refl
get_or_drop_here (c ∷ l) zero = refl
get_or_drop_here (c ∷ l) (suc i) = get_or_drop_here l i

-- an expression that begins so is an index
ix_told : (y : Expr) → get_or (show_expr y) 0 0 ≡ 40 → get_or (show_expr y) 1 0 ≡ 105 → get_or (show_expr y) 2 0 ≡ 120 → (a : Expr) × (b : Expr) × (y ≡ index a b)
unfolding show_expr show_form show_rest
ix_told (lit n) e f g = absurd (number_first n e)
ix_told (truth true) e f g = absurd (omega arith)
ix_told (truth false) e f g = absurd (omega arith)
ix_told (name n) e f g = absurd (omega arith)
ix_told (field a n) e f g = absurd (omega arith)
ix_told (index a b) e f g = (a, b, refl)
ix_told (if_else c a b) e f g = absurd (omega arith)
ix_told (unary neg a) e f g = absurd (omega arith)
ix_told (unary not a) e f g = absurd (omega arith)
ix_told (unary clog2 a) e f g = absurd (omega arith)
ix_told (binary add a b) e f g = absurd (omega arith)
ix_told (binary sub a b) e f g = absurd (omega arith)
ix_told (binary mul a b) e f g = absurd (omega arith)
ix_told (binary eq a b) e f g = absurd (omega arith)
ix_told (binary ne a b) e f g = absurd (omega arith)
ix_told (binary lt a b) e f g = absurd (omega arith)
ix_told (binary le a b) e f g = absurd (omega arith)
ix_told (binary gt a b) e f g = absurd (omega arith)
ix_told (binary ge a b) e f g = absurd (omega arith)
ix_told (binary and a b) e f g = absurd (omega arith)
ix_told (binary or a b) e f g = absurd (omega arith)
ix_told (binary shl a b) e f g = absurd (omega arith)
ix_told (binary shr a b) e f g = absurd (omega arith)
ix_told (binary band a b) e f g = absurd (omega arith)
ix_told (binary bor a b) e f g = absurd (omega arith)
ix_told (binary bxor a b) e f g = absurd (omega arith)
ix_told (all es) e f g = absurd (omega arith)

-- the first part of an index
first_part : {a b c d : Expr} → index a b ≡ index c d → a ≡ c
first_part e = cc

-- what the answer of `name_of` says of an expression that is shown
pub named_as : (x : Bytes) (v u : Option ℕ) → v ≡ name_of x → v ≡ u → (d : ℕ) (y : Expr) → ShowsExpr x d y → NamedBy u y
named_as x v u q e d y s = subst (λ z. NamedBy z y) (sym q ∙ e) (name_is x d y s)

-- ---- an index that is shown

-- its parts: the first up to a, and the second
pub record IndexParts (x : Bytes) (d a : ℕ) (y z : Expr) : Type 0 where
  pub first : ShowsExpr (piece x 3 a) (d - 1) y
  pub behind : drop a x ≡ show_rest (show_expr z ∷ [])
  pub deep : expr_depth z ≤ d - 1

pub index_parts : (x : Bytes) (d : ℕ) {a : ℕ} → a ≡ part_end x 4 → (y z : Expr) → ShowsExpr x d (index y z) → IndexParts x d a y z
unfolding show_expr show_form show_rest expr_depth expr_in_range next_end
index_parts x d qa y z s =
    let q = placed x 3 32 (show_expr z ∷ []) (expr_shown y).part (ap (drop 3) s.shown) in
    let h : suc (max (expr_depth y) (expr_depth z)) ≤ d = s.deep in
    record {
      first = record { shown = ap (piece x 3) qa ∙ q.here; deep = omega arith; ranged = (and_parts (expr_in_range y) (expr_in_range z) s.ranged).0 };
      behind = ap (λ (n : ℕ). drop n x) qa ∙ q.follows;
      deep = omega arith;
    }

-- ---- one law for each way of `indexed_name`

module _ (x : Bytes) {b : Bool} (qb : b ≡ begins x 105 120) where
  pub no_index : b ≡ false → None ≡ indexed_name x
  unfolding indexed_name
  no_index e = rw (sym qb ∙ e, indexed_name)

  pub index_name : b ≡ true → {a : ℕ} → a ≡ part_end x 4 → {u : Bytes} → u ≡ piece x 3 a → {v : Option ℕ} → v ≡ name_of u → v ≡ indexed_name x
  unfolding indexed_name
  index_name e qa qu qv = qv ∙ rw (sym qb ∙ e, qu, qa, indexed_name)

-- the same by the bytes that are read
module _ (x : Bytes) {r : Bool} (q : r ≡ opens x 105) where
  pub no_form : r ≡ false → None ≡ indexed_name x
  no_form f = no_index x (begins_not x 105 120 q f) refl

  module _ (f : r ≡ true) {c : ℕ} (qc : c ≡ get_or x 2 0) where
    pub no_x : (c ≡ 120 → ⊥) → None ≡ indexed_name x
    no_x h = no_index x (begins_by x 105 120 q f qc (sym (ne_eqb c 120 h))) refl

    pub index_here : c ≡ 120 → {a : ℕ} → a ≡ part_end x 4 → {u : Bytes} → u ≡ piece x 3 a → {v : Option ℕ} → v ≡ name_of u → v ≡ indexed_name x
    index_here h qa qu qv = index_name x (begins_by x 105 120 q f qc (sym (eq-eqb c 120 h))) refl qa qu qv

-- the name that bytes show an index of
index_begins : (a b : Expr) → begins (show_expr (index a b)) 105 120 ≡ true
unfolding begins show_expr show_form
index_begins a b = refl

pub indexed_is : (x : Bytes) (d : ℕ) (y : Expr) → ShowsExpr x d y → IndexedBy (indexed_name x) y
unfolding indexed_name
indexed_is x d y s = if_case (λ v. IndexedBy v y) (begins x 105 120) (name_of (piece x 3 (part_end x 4))) None yes no
  where
    no : begins x 105 120 ≡ false → (n : ℕ) (e : Expr) → y ≡ index (name n) e → ⊥
    no f n e q = true≢false (sym (index_begins (name n) e) ∙ ap (λ (z : Bytes). begins z 105 120) (sym (s.shown ∙ ap show_expr q)) ∙ f)

    yes : begins x 105 120 ≡ true → IndexedBy (name_of (piece x 3 (part_end x 4))) y
    yes f = go (name_of (piece x 3 (part_end x 4))) (name_is (piece x 3 (part_end x 4)) (d - 1) t.0 (index_parts x d refl t.0 t.1 (subst (λ z. ShowsExpr x d z) t.2 s)).first)
      where
        here : (i : ℕ) → get_or (show_expr y) i 0 ≡ get_or x i 0
        here i = ap (λ (z : Bytes). get_or z i 0) (sym s.shown)

        b : (get_or x 0 0 ≡ 40) × (get_or x 1 0 ≡ 105) × (get_or x 2 0 ≡ 120)
        b = begins_parts x 105 120 f

        t : (a : Expr) × (b : Expr) × (y ≡ index a b)
        t = ix_told y (here 0 ∙ b.0) (here 1 ∙ b.1) (here 2 ∙ b.2)

        go : (v : Option ℕ) → NamedBy v t.0 → IndexedBy v y
        go (Some i) h = (t.1, t.2 ∙ ap (λ (z : Expr). index z t.1) h)
        go None h = λ n e q. h n (first_part (sym t.2 ∙ q))

-- ---- one law for each way of `field_of`

-- what is neither a name nor an index of one is no inst
no_inst_of : (y : Expr) → ((i : ℕ) → y ≡ name i → ⊥) → ((i : ℕ) (e : Expr) → y ≡ index (name i) e → ⊥) → (hs : List Header) → field_of hs y ≡ no_inst
unfolding field_of
no_inst_of (lit n) f g hs = refl
no_inst_of (truth b) f g hs = refl
no_inst_of (name n) f g hs = absurd (f n refl)
no_inst_of (field a n) f g hs = refl
no_inst_of (index (lit n) e) f g hs = refl
no_inst_of (index (truth b) e) f g hs = refl
no_inst_of (index (name n) e) f g hs = absurd (g n e refl)
no_inst_of (index (field a n) e) f g hs = refl
no_inst_of (index (index a b) e) f g hs = refl
no_inst_of (index (if_else c a b) e) f g hs = refl
no_inst_of (index (unary o a) e) f g hs = refl
no_inst_of (index (binary o a b) e) f g hs = refl
no_inst_of (index (all es) e) f g hs = refl
no_inst_of (if_else c a b) f g hs = refl
no_inst_of (unary o a) f g hs = refl
no_inst_of (binary o a b) f g hs = refl
no_inst_of (all es) f g hs = refl

-- f where i is an inst, and else nothing of the two
abbrev if_inst : Bool → FieldOf → FieldOf
if_inst b f = elim b as (λ _. FieldOf) [ true ↦ f | false ↦ no_inst ]

module _ (x : Bytes) (kinds : List ℕ) (v : Option ℕ) (is : v ≡ name_of x) where
  module _ {i : ℕ} (e : v ≡ Some i) (b : Bool) (h : b ≡ inst_by kinds i) where
    of_name : {c : Bool} → b ≡ c → (y : Expr) (d : ℕ) → ShowsExpr x d y → (header : List Header) → KindsOf kinds header → field_of header y ≡ if_inst c (an_inst i)
    unfolding field_of
    of_name q y d s header w = rw (named_as x v (Some i) is e d y s) (ap (λ (z : Bool). if_inst z (an_inst i)) (ap is_inst (sym (w i)) ∙ sym h ∙ q))

    pub of_inst : b ≡ true → FieldOfIs (of.Inst i) x kinds
    of_inst q = of_name q

    pub of_signal : b ≡ false → FieldOfIs of.Other x kinds
    of_signal q = of_name q

  module _ (u : Option ℕ) (indexes : u ≡ indexed_name x) where
    indexed_as : (z : Option ℕ) → u ≡ z → (d : ℕ) (y : Expr) → ShowsExpr x d y → IndexedBy z y
    indexed_as z e d y s = subst (λ w. IndexedBy w y) (sym indexes ∙ e) (indexed_is x d y s)

    module _ {i : ℕ} (e : u ≡ Some i) (b : Bool) (h : b ≡ inst_by kinds i) where
      indexed : (y : Expr) (d : ℕ) → ShowsExpr x d y → (z : Expr) × (y ≡ index (name i) z)
      indexed y d s = indexed_as (Some i) e d y s

      of_index : {c : Bool} → b ≡ c → (y z : Expr) → y ≡ index (name i) z → (header : List Header) → KindsOf kinds header → field_of header y ≡ if_inst c (an_inst_at i z)
      unfolding field_of
      of_index q y z f header w = rw f (ap (λ (k : Bool). if_inst k (an_inst_at i z)) (ap is_inst (sym (w i)) ∙ sym h ∙ q))

      pub of_inst_at : b ≡ true → FieldOfIs (of.InstAt i) x kinds
      of_inst_at q y d s header w = let t = indexed y d s in (t.0, t.1, of_index q y t.0 t.1 header w)

      pub of_signal_at : b ≡ false → FieldOfIs of.Other x kinds
      of_signal_at q y d s header w = let t = indexed y d s in of_index q y t.0 t.1 header w

    pub of_other : v ≡ None → u ≡ None → FieldOfIs of.Other x kinds
    of_other e f y d s header w = no_inst_of y (named_as x v None is e d y s) (indexed_as None f d y s) header

-- what the bytes x say of an `f` of the expression that they show
pub field_is : (x : Bytes) (kinds : List ℕ) → FieldOfIs (field_by kinds x) x kinds
unfolding field_by
field_is x kinds = go (name_of x) refl
  where
    inst : (i : ℕ) → name_of x ≡ Some i → (b : Bool) → inst_by kinds i ≡ b → FieldOfIs (elim b as (λ _. F.FieldOf) [ true ↦ of.Inst i | false ↦ of.Other ]) x kinds
    inst i e true f = of_inst x kinds (name_of x) refl e (inst_by kinds i) refl f
    inst i e false f = of_signal x kinds (name_of x) refl e (inst_by kinds i) refl f

    inst_at : (i : ℕ) → indexed_name x ≡ Some i → (b : Bool) → inst_by kinds i ≡ b → FieldOfIs (elim b as (λ _. F.FieldOf) [ true ↦ of.InstAt i | false ↦ of.Other ]) x kinds
    inst_at i e true f = of_inst_at x kinds (name_of x) refl (indexed_name x) refl e (inst_by kinds i) refl f
    inst_at i e false f = of_signal_at x kinds (name_of x) refl (indexed_name x) refl e (inst_by kinds i) refl f

    indexed : name_of x ≡ None → (u : Option ℕ) → indexed_name x ≡ u → FieldOfIs (index_by kinds u) x kinds
    indexed n (Some i) e = inst_at i e (inst_by kinds i) refl
    indexed n None e = of_other x kinds (name_of x) refl (indexed_name x) refl n e

    go : (v : Option ℕ) → name_of x ≡ v → FieldOfIs (inner_by kinds v (indexed_name x)) x kinds
    go (Some i) e = inst i e (inst_by kinds i) refl
    go None e = indexed e (indexed_name x) refl

pub field_says : (x : Bytes) (kinds : List ℕ) {v : F.FieldOf} → v ≡ field_by kinds x → FieldOfIs v x kinds
field_says x kinds e = subst (λ z. FieldOfIs z x kinds) (sym e) (field_is x kinds)
