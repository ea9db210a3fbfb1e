-- What an expression is, by the first bytes that show it, and what its parts read.
-- Assumes nothing.
use Rattle.std.specs.Prelude.{Some, None}
use mathlib.Core.Path.{◌≡◌, refl, sym, ◌∙◌, ap}
use mathlib.Core.Bool.{Bool, true, false, ◌&&◌, or-false, true≢false}
use mathlib.Core.List.{List, [], ◌∷◌, ◌++◌, append-nil}
use mathlib.Core.Option.{Option, some, none}
use Prim.Native.Nat.{ℕ, zero, suc, ◌≤◌, ◌<◌, min}
use native.Mathlib.Omega.{arith}
use lib.ListN.{drop, get_or}
use lib.Dec.{eqb}
use Rattle.std.specs.Prelude.{Result, Ok}
use Rattle.spec.specs.Bytes.{Bytes, bytes, number, show_number, show_rest, show_form}
use Rattle.spec.specs.Syntax.{Kind, reg_kind, mem_kind, inst_kind, neg, not, clog2, add, sub, mul, eq, ne, lt, le, gt, ge, and, or, shl, shr, band, bor, bxor, Expr, Exprs, lit, truth, name, field, index, if_else, unary, binary, all, Header}
use Rattle.spec.specs.Show.{show_expr, show_exprs}
use Rattle.spec.specs.Refusal.{expr_in_range, expr_depth}
use Rattle.spec.specs.Value.{Names}
use Rattle.spec.specs.Site.{kind_of}
use Rattle.spec.specs.Edge.{Node, signal, Head, Reads, no_reads, and_reads, expr_reads, exprs_reads, name_reads}
use Rattle.spec.proofs.Nodes.{and_parts}
use Rattle.spec.proofs.Numbers.{Digits, number_digits, number_show, if_case}
use Rattle.spec.proofs.Parts.{Part, word_part, number_part}
use Rattle.graph.specs.Stands.{full, Heading, Read}
use Rattle.graph.specs.declared.Full.{Full}
use Rattle.edges.specs.Reads.{kind_word, KindsOf, ReadAll}
use Rattle.edges.specs.Shows.{ShowsExpr, NameRead, opens, begins, as_name, name_of, NamedBy}
use Rattle.edges.proofs.ReadLaws.{read_none, read_one}
use Rattle.runs.proofs.Inside.{placed}
use Rattle.lines.specs.Parts.{part_end, piece, next_end}
use borrow.Author.Tests.{ltb-true, eqb-true, eq-eqb, ne_eqb, lt-ltb, le-ltb}

-- 01, The edge: the parts of a form that are read one behind the other: all of them; of a name and of an `f`, which have ways of their own, none
unfoldable pub children : Expr → Exprs
children (lit n) = Exprs.none
children (truth b) = Exprs.none
children (name n) = Exprs.none
children (field e n) = Exprs.none
children (index e i) = Exprs.more e (Exprs.more i Exprs.none)
children (if_else c a b) = Exprs.more c (Exprs.more a (Exprs.more b Exprs.none))
children (unary o a) = Exprs.more a Exprs.none
children (binary o a b) = Exprs.more a (Exprs.more b Exprs.none)
children (all es) = es

-- a number begins with no bracket
digit_first : (s : Bytes) → Digits s → get_or s 0 0 ≡ 40 → ⊥
digit_first [] p e = p
digit_first (c ∷ s) p e = omega arith

pub number_first : (n : ℕ) → get_or (show_number n) 0 0 ≡ 40 → ⊥
number_first n e = digit_first (show_number n) (number_digits n) e

-- what is read behind all is read with it
pub and_none : (q : Reads) → and_reads q no_reads ≡ q
and_none q = λ i. record { nodes = append-nil q.nodes i; out = or-false q.out i }

-- how the first bytes tell what is shown
pub data Told (x : Expr) : Type 0 where
  an_atom : (get_or (show_expr x) 0 0 ≡ 40 → ⊥) → ((hs : List Header) (names : Names) → expr_reads x hs names ≡ no_reads) → Told x
  a_name : (n : ℕ) → x ≡ name n → get_or (show_expr x) 0 0 ≡ 40 → get_or (show_expr x) 1 0 ≡ 110 → get_or (show_expr x) 2 0 ≡ 32 → Told x
  a_field : (e : Expr) (n : ℕ) → x ≡ field e n → get_or (show_expr x) 0 0 ≡ 40 → get_or (show_expr x) 1 0 ≡ 102 → get_or (show_expr x) 2 0 ≡ 32 → Told x
  a_form : (w : Bytes) → Part w 0 → show_expr x ≡ show_form w (show_exprs (children x))
      → (get_or (show_expr x) 1 0 ≡ 110 → get_or (show_expr x) 2 0 ≡ 32 → ⊥) → (get_or (show_expr x) 1 0 ≡ 102 → ⊥) → 0 < expr_depth x
      → ((hs : List Header) (names : Names) → expr_reads x hs names ≡ exprs_reads (children x) hs names) → Told x

pub told : (x : Expr) → Told x
unfolding show_expr show_exprs show_form show_rest expr_reads children expr_depth
told (lit n) = an_atom (number_first n) (λ hs names. refl)
told (truth true) = an_atom (λ e. omega arith) (λ hs names. refl)
told (truth false) = an_atom (λ e. omega arith) (λ hs names. refl)
told (name n) = a_name n refl refl refl refl
told (field e n) = a_field e n refl refl refl refl
told (index e i) =
    a_form (bytes "ix") (word_part (bytes "ix") (omega arith)) refl (λ e f. omega arith) (λ e. omega arith) (omega arith)
    (λ hs names. ap (and_reads (expr_reads e hs names)) (sym (and_none (expr_reads i hs names))))
told (if_else c a b) =
    a_form (bytes "if") (word_part (bytes "if") (omega arith)) refl (λ e f. omega arith) (λ e. omega arith) (omega arith)
    (λ hs names. ap (λ q. and_reads (expr_reads c hs names) (and_reads (expr_reads a hs names) q)) (sym (and_none (expr_reads b hs names))))
told (unary neg a) = a_form (bytes "neg") (word_part (bytes "neg") (omega arith)) refl (λ e f. omega arith) (λ e. omega arith) (omega arith) (λ hs names. sym (and_none (expr_reads a hs names)))
told (unary not a) = a_form (bytes "not") (word_part (bytes "not") (omega arith)) refl (λ e f. omega arith) (λ e. omega arith) (omega arith) (λ hs names. sym (and_none (expr_reads a hs names)))
told (unary clog2 a) = a_form (bytes "clog2") (word_part (bytes "clog2") (omega arith)) refl (λ e f. omega arith) (λ e. omega arith) (omega arith) (λ hs names. sym (and_none (expr_reads a hs names)))
told (binary add a b) = a_form (bytes "add") (word_part (bytes "add") (omega arith)) refl (λ e f. omega arith) (λ e. omega arith) (omega arith) (λ hs names. ap (and_reads (expr_reads a hs names)) (sym (and_none (expr_reads b hs names))))
told (binary sub a b) = a_form (bytes "sub") (word_part (bytes "sub") (omega arith)) refl (λ e f. omega arith) (λ e. omega arith) (omega arith) (λ hs names. ap (and_reads (expr_reads a hs names)) (sym (and_none (expr_reads b hs names))))
told (binary mul a b) = a_form (bytes "mul") (word_part (bytes "mul") (omega arith)) refl (λ e f. omega arith) (λ e. omega arith) (omega arith) (λ hs names. ap (and_reads (expr_reads a hs names)) (sym (and_none (expr_reads b hs names))))
told (binary eq a b) = a_form (bytes "eq") (word_part (bytes "eq") (omega arith)) refl (λ e f. omega arith) (λ e. omega arith) (omega arith) (λ hs names. ap (and_reads (expr_reads a hs names)) (sym (and_none (expr_reads b hs names))))
told (binary ne a b) = a_form (bytes "ne") (word_part (bytes "ne") (omega arith)) refl (λ e f. omega arith) (λ e. omega arith) (omega arith) (λ hs names. ap (and_reads (expr_reads a hs names)) (sym (and_none (expr_reads b hs names))))
told (binary lt a b) = a_form (bytes "lt") (word_part (bytes "lt") (omega arith)) refl (λ e f. omega arith) (λ e. omega arith) (omega arith) (λ hs names. ap (and_reads (expr_reads a hs names)) (sym (and_none (expr_reads b hs names))))
told (binary le a b) = a_form (bytes "le") (word_part (bytes "le") (omega arith)) refl (λ e f. omega arith) (λ e. omega arith) (omega arith) (λ hs names. ap (and_reads (expr_reads a hs names)) (sym (and_none (expr_reads b hs names))))
told (binary gt a b) = a_form (bytes "gt") (word_part (bytes "gt") (omega arith)) refl (λ e f. omega arith) (λ e. omega arith) (omega arith) (λ hs names. ap (and_reads (expr_reads a hs names)) (sym (and_none (expr_reads b hs names))))
told (binary ge a b) = a_form (bytes "ge") (word_part (bytes "ge") (omega arith)) refl (λ e f. omega arith) (λ e. omega arith) (omega arith) (λ hs names. ap (and_reads (expr_reads a hs names)) (sym (and_none (expr_reads b hs names))))
told (binary and a b) = a_form (bytes "and") (word_part (bytes "and") (omega arith)) refl (λ e f. omega arith) (λ e. omega arith) (omega arith) (λ hs names. ap (and_reads (expr_reads a hs names)) (sym (and_none (expr_reads b hs names))))
told (binary or a b) = a_form (bytes "or") (word_part (bytes "or") (omega arith)) refl (λ e f. omega arith) (λ e. omega arith) (omega arith) (λ hs names. ap (and_reads (expr_reads a hs names)) (sym (and_none (expr_reads b hs names))))
told (binary shl a b) = a_form (bytes "shl") (word_part (bytes "shl") (omega arith)) refl (λ e f. omega arith) (λ e. omega arith) (omega arith) (λ hs names. ap (and_reads (expr_reads a hs names)) (sym (and_none (expr_reads b hs names))))
told (binary shr a b) = a_form (bytes "shr") (word_part (bytes "shr") (omega arith)) refl (λ e f. omega arith) (λ e. omega arith) (omega arith) (λ hs names. ap (and_reads (expr_reads a hs names)) (sym (and_none (expr_reads b hs names))))
told (binary band a b) = a_form (bytes "band") (word_part (bytes "band") (omega arith)) refl (λ e f. omega arith) (λ e. omega arith) (omega arith) (λ hs names. ap (and_reads (expr_reads a hs names)) (sym (and_none (expr_reads b hs names))))
told (binary bor a b) = a_form (bytes "bor") (word_part (bytes "bor") (omega arith)) refl (λ e f. omega arith) (λ e. omega arith) (omega arith) (λ hs names. ap (and_reads (expr_reads a hs names)) (sym (and_none (expr_reads b hs names))))
told (binary bxor a b) = a_form (bytes "bxor") (word_part (bytes "bxor") (omega arith)) refl (λ e f. omega arith) (λ e. omega arith) (omega arith) (λ hs names. ap (and_reads (expr_reads a hs names)) (sym (and_none (expr_reads b hs names))))
told (all es) = a_form (bytes "all") (word_part (bytes "all") (omega arith)) refl (λ e f. omega arith) (λ e. omega arith) (omega arith) (λ hs names. refl)

-- ---- one law for each way of `name_read`

module _ (kinds : List ℕ) (m : ℕ) (g : List ℕ) (from : ℕ) {k : ℕ} (q : k ≡ get_or kinds m 0) where
  unread : (o : Option Kind) → kind_word k ≡ o → name_reads o m ≡ no_reads → (header : List Header) → KindsOf kinds header
      → (hs : List Head) (n : Node) (start : ℕ) (rs : List Node) → Heading g hs n start rs from → ReadAll true g hs n start rs from (name_reads (kind_of header m) m)
  unread o e f header w hs n start rs h =
      let z : name_reads (kind_of header m) m ≡ no_reads = ap (λ (x : Option Kind). name_reads x m) (sym (w m) ∙ ap kind_word (sym q) ∙ e) ∙ f in
      rw z (read_none hs n start from g rs h)

  pub name_none : k ≡ 0 → NameRead true m kinds g g from
  name_none e = unread none (ap kind_word e) refl

  pub name_other : 3 < k → NameRead true m kinds g g from
  name_other l = go k refl l
    where
      go : (j : ℕ) → k ≡ j → 3 < j → NameRead true m kinds g g from
      go zero e l = absurd (omega arith)
      go (suc zero) e l = absurd (omega arith)
      go (suc (suc zero)) e l = absurd (omega arith)
      go (suc (suc (suc zero))) e l = absurd (omega arith)
      go (suc (suc (suc (suc zero)))) e l = unread (some reg_kind) (ap kind_word e) refl
      go (suc (suc (suc (suc (suc zero))))) e l = unread (some mem_kind) (ap kind_word e) refl
      go (suc (suc (suc (suc (suc (suc j)))))) e l = unread (some inst_kind) (ap kind_word e) refl

  -- a signal is read
  module _ (z : k ≡ 0 → ⊥) (l : k ≤ 3) (a : Result ℕ Full) (g' : List ℕ)
      (read : (hs : List Head) (n : Node) (start : ℕ) (rs : List Node) → Heading g hs n start rs from → Read a g' hs n start rs from (signal m)) where
    signal_kind : (o : Option Kind) → kind_word k ≡ o → name_reads o m ≡ record { nodes = signal m ∷ []; out = false }
    signal_kind o e = go k refl z l
      where
        go : (j : ℕ) → k ≡ j → (j ≡ 0 → ⊥) → j ≤ 3 → name_reads o m ≡ record { nodes = signal m ∷ []; out = false }
        go zero f z l = absurd (z refl)
        go (suc zero) f z l = ap (λ (x : Option Kind). name_reads x m) (sym e ∙ ap kind_word f)
        go (suc (suc zero)) f z l = ap (λ (x : Option Kind). name_reads x m) (sym e ∙ ap kind_word f)
        go (suc (suc (suc zero))) f z l = ap (λ (x : Option Kind). name_reads x m) (sym e ∙ ap kind_word f)
        go (suc (suc (suc (suc j)))) f z l = absurd (omega arith)

    signal_read : (b : Bool) → ((j : ℕ) → a ≡ Ok j → b ≡ true) → (a ≡ full → b ≡ false) → NameRead b m kinds g g' from
    signal_read b p r header w hs n start rs h =
        let e = signal_kind (kind_of header m) (ap kind_word q ∙ w m) in
        rw e (read_one hs n start from a b g' rs (signal m) (read hs n start rs h) p r)

    pub name_at : {j : ℕ} → a ≡ Ok j → NameRead true m kinds g g' from
    name_at e = signal_read true (λ j f. refl) (λ f. let x : ◌≡◌ {A = ℕ} 0 1 = cc in absurd (omega arith))

    pub name_full : a ≡ full → NameRead false m kinds g g' from
    name_full e = signal_read false (λ j f. let x : ◌≡◌ {A = ℕ} 0 1 = cc in absurd (omega arith)) (λ f. refl)

-- ---- `opens`, and the byte behind

module _ (x : Bytes) (a : ℕ) where
  pub opens_not : (get_or x 0 0 ≡ 40 → ⊥) → false ≡ opens x a
  opens_not f = rw (ne_eqb (get_or x 0 0) 40 f)

  pub opens_by : get_or x 0 0 ≡ 40 → {c : ℕ} → c ≡ get_or x 1 0 → eqb c a ≡ opens x a
  opens_by e q = rw (eq-eqb (get_or x 0 0) 40 e, q)

  module _ (b : ℕ) {r : Bool} (q : r ≡ opens x a) where
    pub begins_not : r ≡ false → false ≡ begins x a b
    unfolding begins
    begins_not f = ap (λ (z : Bool). z && eqb (get_or x 2 0) b) (sym f ∙ q)

    pub begins_by : r ≡ true → {t : Bool} {c : ℕ} → c ≡ get_or x 2 0 → t ≡ eqb c b → t ≡ begins x a b
    unfolding begins
    begins_by f qc qt = qt ∙ ap (λ (z : ℕ). eqb z b) qc ∙ ap (λ (z : Bool). z && eqb (get_or x 2 0) b) (sym f ∙ q)

module _ (x : Bytes) (a b : ℕ) where
  -- the three bytes
  pub begins_parts : begins x a b ≡ true → (get_or x 0 0 ≡ 40) × (get_or x 1 0 ≡ a) × (get_or x 2 0 ≡ b)
  unfolding begins
  begins_parts e =
      let p = and_parts (opens x a) (eqb (get_or x 2 0) b) e in
      let q = and_parts (eqb (get_or x 0 0) 40) (eqb (get_or x 1 0) a) p.0 in
      (eqb-true (get_or x 0 0) 40 q.0, eqb-true (get_or x 1 0) a q.1, eqb-true (get_or x 2 0) b p.1)

-- ---- one law for each way of `name_of`

name_large : (n : ℕ) → 4294967295 < n → as_name n ≡ None
name_large n l = rw (lt-ltb 4294967295 n l, as_name)

name_small : (n : ℕ) → n ≤ 4294967295 → as_name n ≡ Some n
name_small n l = rw (le-ltb 4294967295 n l, as_name)

module _ (x : Bytes) {b : Bool} (qb : b ≡ begins x 110 32) where
  pub no_name : b ≡ false → None ≡ name_of x
  unfolding name_of
  no_name e = rw (sym qb ∙ e, name_of)

  module _ (e : b ≡ true) {a : ℕ} (qa : a ≡ part_end x 3) {t : Bytes} (qt : t ≡ piece x 2 a) {v : ℕ} (qv : v ≡ min (number t) 4294967296) where
    by_number : name_of x ≡ as_name (number t)
    unfolding name_of
    by_number = rw (sym qb ∙ e, qt, qa, name_of)

    pub no_word : 4294967295 < v → None ≡ name_of x
    no_word l = sym (by_number ∙ name_large (number t) (omega arith))

    pub a_word : v ≤ 4294967295 → Some v ≡ name_of x
    a_word l = let h : v ≡ number t = omega arith in ap Some h ∙ sym (by_number ∙ name_small (number t) (omega arith))

-- the name that bytes show
name_begins : (m : ℕ) → begins (show_expr (name m)) 110 32 ≡ true
unfolding begins show_expr show_form show_rest
name_begins m = refl

name_here : (x : Bytes) (d m : ℕ) → ShowsExpr x d (name m) → (number (piece x 2 (part_end x 3)) ≡ m) × (m < 256)
unfolding show_expr show_form show_rest expr_in_range next_end
name_here x d m p =
    let e : drop 2 x ≡ 32 ∷ show_number m ++ show_rest [] = ap (drop 2) p.shown in
    let q = placed x 2 32 [] (number_part m) e in
    (ap number q.here ∙ number_show m, ltb-true m 256 p.ranged)

pub name_is : (x : Bytes) (d : ℕ) (y : Expr) → ShowsExpr x d y → NamedBy (name_of x) y
unfolding name_of
name_is x d y p = if_case (λ v. NamedBy v y) (begins x 110 32) (as_name (number (piece x 2 (part_end x 3)))) None yes no
  where
    shows : (m : ℕ) → y ≡ name m → ShowsExpr x d (name m)
    shows m q = record { shown = p.shown ∙ ap show_expr q; deep = rw q at p.deep; ranged = rw q at p.ranged }

    no : begins x 110 32 ≡ false → (m : ℕ) → y ≡ name m → ⊥
    no e m q = true≢false (sym (name_begins m) ∙ ap (λ (z : Bytes). begins z 110 32) (sym (shows m q).shown) ∙ e)

    yes : begins x 110 32 ≡ true → NamedBy (as_name (number (piece x 2 (part_end x 3)))) y
    yes e = go (told y)
      where
        here : (i : ℕ) → get_or (show_expr y) i 0 ≡ get_or x i 0
        here i = ap (λ (z : Bytes). get_or z i 0) (sym p.shown)

        b : (get_or x 0 0 ≡ 40) × (get_or x 1 0 ≡ 110) × (get_or x 2 0 ≡ 32)
        b = begins_parts x 110 32 e

        go : Told y → NamedBy (as_name (number (piece x 2 (part_end x 3)))) y
        go (an_atom h r) = absurd (h (here 0 ∙ b.0))
        go (a_field f m q u z w) = absurd (omega (arith, here 1, b.1))
        go (a_form word q u h k l r) = absurd (h (here 1 ∙ b.1) (here 2 ∙ b.2))
        go (a_name m q u z w) =
            let h = name_here x d m (shows m q) in
            let l = h.1 in
            rw (h.0, name_small m (omega arith)) q
