-- Where the parts of a shown form end, and what they read: one law for each way of `next_end`, `number_at`, `field_reads`, `expr_reads` and
-- `parts_read`.
-- Assumes nothing.
use Rattle.std.specs.Prelude.{Option, Some, None}
use mathlib.Core.Path.{◌≡◌, refl, sym, ◌∙◌, ap, subst}
use mathlib.Core.Bool.{Bool, true, false, ◌&&◌, true≢false}
use mathlib.Core.List.{List, [], ◌∷◌, ◌++◌}
use Prim.Native.Nat.{ℕ, suc, ◌+◌, ◌-◌, ◌≤◌, ◌<◌, min}
use native.Mathlib.Omega.{arith}
use lib.ListN.{length, drop, get_or, length-drop}
use lib.Dec.{eqb, ltb}
use borrow.Author.Tests.{ltb-true, lt-ltb, le-ltb}
use Rattle.spec.specs.Bytes.{Bytes, number, show_number, show_rest, show_form}
use mathlib.Core.Option.{none}
use Rattle.spec.specs.Syntax.{Expr, Exprs, lit, truth, name, field, index, if_else, unary, binary, all, Header}
use Rattle.spec.specs.Show.{show_expr, show_exprs}
use Rattle.spec.specs.Refusal.{expr_in_range, exprs_in_range, expr_depth, exprs_depth}
use Rattle.spec.specs.Decode.{decode_expr}
use Rattle.spec.specs.Value.{Names, value}
use Rattle.spec.specs.Edge.{inst_out, indexed_reads, FieldOf, an_inst, an_inst_at, no_inst, field_of, field_reads, expr_reads, exprs_reads}
use Rattle.spec.proofs.Nodes.{and_parts}
use Rattle.spec.proofs.Numbers.{number_show}
use Rattle.spec.proofs.Parts.{Part, number_part}
use Rattle.spec.proofs.Shown.{expr_shown}
use Rattle.lines.specs.Parts.{part_end, piece, next_end, follows}
use Rattle.runs.proofs.Inside.{placed}
use Rattle.edges.specs.Reads.{ReadAll}
use Rattle.edges.specs.declared.FieldOf as F
use Rattle.edges.specs.declared.FieldOf.TheVariants as of
use Rattle.edges.specs.Shows.{ShowsExpr, ShowsExprs, NodesRead, one_read, NameRead, name_of, FieldOfIs, FieldRead, ExprRead, PartsRead}
use Rattle.edges.specs.Lines.{end_behind, number_at}
use Rattle.edges.proofs.ReadLaws.{read_none, read_then, read_stops}
use Rattle.edges.proofs.ExprLaws.{Told, an_atom, a_name, a_field, a_form, told, children}
use Rattle.edges.proofs.FieldLaws.{get_or_drop_here, named_as, index_parts}

-- ---- `next_end` and `number_at`

-- a is where `next_end` says that the part behind the byte at e ends
abbrev pub EndsAt : Bytes → ℕ → ℕ → Type 0
EndsAt s e a = a ≡ end_behind s e

pub ends_in : (s : Bytes) (e : ℕ) → e < length s → {a : ℕ} → a ≡ part_end s (e + 1) → EndsAt s e a
unfolding end_behind next_end
ends_in s e l q = q ∙ rw (lt-ltb e (length s) l, end_behind)

pub ends_past : (s : Bytes) (e : ℕ) → length s ≤ e → EndsAt s e e
unfolding end_behind
ends_past s e l = rw (le-ltb e (length s) l, end_behind)

module _ {t u : Bytes} (e : t ≡ u) {v : ℕ} (q : v ≡ min (number t) 4294967296) where
  pub number_large : 4294967295 < v → 4294967295 ≡ min (number u) 4294967295
  number_large l = let h : number t ≡ number u = ap number e in omega arith

  pub number_small : v ≤ 4294967295 → v ≡ min (number u) 4294967295
  number_small l = let h : number t ≡ number u = ap number e in omega arith

-- a part that is shown behind the byte at e, up to a, and what follows it
pub record Ended (s : Bytes) (e a : ℕ) (x : Bytes) (xs : List Bytes) : Type 0 where
  pub here : piece s e a ≡ x
  pub follows : drop a s ≡ show_rest xs

ended_at : (s : Bytes) (e b : ℕ) {x : Bytes} {k : ℕ} (xs : List Bytes) → Part x k → drop e s ≡ b ∷ x ++ show_rest xs → {a : ℕ} → a ≡ next_end s e → Ended s e a x xs
ended_at s e b xs p q w =
    let h = placed s e b xs p q in
    record { here = ap (piece s e) w ∙ h.here; follows = ap (λ (n : ℕ). drop n s) w ∙ h.follows }

pub ended : (s : Bytes) (e b : ℕ) {x : Bytes} {k : ℕ} (xs : List Bytes) → Part x k → drop e s ≡ b ∷ x ++ show_rest xs → {a : ℕ} → EndsAt s e a → Ended s e a x xs
unfolding next_end
ended s e b xs p q f = ended_at s e b xs p q (f ∙ sym (ends_in s e (omega (arith, length-drop e s, ap length q)) refl))

-- the same for a part behind another
pub ended_next : (s : Bytes) (e : ℕ) {x : Bytes} {k : ℕ} (xs : List Bytes) → Part x k → drop e s ≡ show_rest (x ∷ xs) → {a : ℕ} → EndsAt s e a → Ended s e a x xs
unfolding show_rest
ended_next s e xs p q f = ended s e 32 xs p q f

-- the same where another part is known to follow
pub ended_after : (s : Bytes) (e : ℕ) {x : Bytes} {k : ℕ} (xs : List Bytes) → Part x k → drop e s ≡ show_rest (x ∷ xs) → {a : ℕ} → a ≡ part_end s (e + 1) → Ended s e a x xs
unfolding show_rest next_end
ended_after s e xs p q f = ended_at s e 32 xs p q f

-- a number that is shown there, and small enough
pub number_here : (s : Bytes) (e a n : ℕ) {xs : List Bytes} → Ended s e a (show_number n) xs → n < 4294967295 → {v : ℕ} → v ≡ number_at s e a → v ≡ n
number_here s e a n h l q = omega (arith, ap number h.here ∙ number_show n)

-- whether a part follows, by the byte there
pub follows_byte : (s : Bytes) (a c : ℕ) {t : Bytes} → drop a s ≡ c ∷ t → follows s a ≡ eqb c 32
follows_byte s a c e = ap (λ (z : ℕ). eqb z 32) (sym (get_or_drop_here s a) ∙ ap (λ (z : Bytes). get_or z 0 0) e)

-- ---- `field_reads`

module _ (e : Bytes) (d : ℕ) (kinds : List ℕ) (names : Names) (g : List ℕ) (from : ℕ) {a : ℕ} (fa : EndsAt e 2 a) {u : Bytes} (qu : u ≡ piece e 2 a) where
  -- what the `f` is of, and its output
  pub record Field (y : Expr) (m p : ℕ) : Type 0 where
    pub inner : ShowsExpr u d y
    pub out : p ≡ m

  pub field_parts : {b : ℕ} → EndsAt e a b → {p : ℕ} → p ≡ number_at e a b → (y : Expr) (m : ℕ) → ShowsExpr e (suc d) (field y m) → Field y m p
  unfolding show_expr show_form show_rest expr_depth expr_in_range
  field_parts {b} fb {p} qp y m s =
      let q : drop 2 e ≡ 32 ∷ show_expr y ++ show_rest (show_number m ∷ []) = ap (drop 2) s.shown in
      let h = ended e 2 32 (show_number m ∷ []) (expr_shown y).part q fa in
      let i = ended_next e a [] (number_part m) h.follows fb in
      let l = and_parts (expr_in_range y) (ltb m 256) s.ranged in
      let o = ltb-true m 256 l.1 in
      let j : suc (expr_depth y) ≤ suc d = s.deep in
      record { inner = record { shown = qu ∙ h.here; deep = omega arith; ranged = l.0 }; out = number_here e a b m i (omega arith) qp }

  module _ {b : ℕ} (fb : EndsAt e a b) {p : ℕ} (qp : p ≡ number_at e a b) (v : F.FieldOf) (says : FieldOfIs v u kinds) where
    -- what is read, by what it is of
    reads_of : (f : FieldOf) (y : Expr) (m : ℕ) → Field y m p → (header : List Header) → field_of header y ≡ f → expr_reads (field y m) header names ≡ field_reads names f p (expr_reads y header names)
    unfolding expr_reads
    reads_of f y m t header h = ap (λ (z : FieldOf). field_reads names z m (expr_reads y header names)) h ∙ ap (λ (z : ℕ). field_reads names f z (expr_reads y header names)) (sym t.out)

    -- an inst
    pub field_output : {i : ℕ} → v ≡ of.Inst i → (r : Bool) (g' : List ℕ) → NodesRead r (one_read (inst_out i none p)) g g' from → FieldRead r e d kinds names g g' from
    field_output {i} q r g' f y m s header w =
        let t = field_parts fb qp y m s in
        let h : field_of header y ≡ an_inst i = rw q at (says y d t.inner header w) in
        rw (reads_of (an_inst i) y m t header h) f

    -- an inst with an index
    pub field_indexed : {i : ℕ} → v ≡ of.InstAt i → {c : ℕ} → c ≡ part_end u 4 → {j : ℕ} → EndsAt u c j → {x : Bytes} → x ≡ piece u c j → {k : ℕ} → k ≡ d - 1
        → (r : Bool) (g' : List ℕ) → NodesRead r (indexed_reads i (value names (decode_expr k x)) p) g g' from → FieldRead r e d kinds names g g' from
    field_indexed {i} q {c} qc {j} fj {x} qx {k} qk r g' f y m s header w =
        let t = field_parts fb qp y m s in
        let h : (z : Expr) × (y ≡ index (name i) z) × (field_of header y ≡ an_inst_at i z) = rw q at (says y d t.inner header w) in
        let o = index_parts u d qc (name i) h.0 (subst (λ z. ShowsExpr u d z) h.1 t.inner) in
        let here : x ≡ show_expr h.0 = qx ∙ (ended_next u c [] (expr_shown h.0).part o.behind fj).here in
        let back : decode_expr k x ≡ h.0 = ap (decode_expr k) here ∙ (expr_shown h.0).back k (rw qk o.deep) in
        rw (reads_of (an_inst_at i h.0) y m t header h.2, ← back) f

    -- anything else
    pub field_inner : v ≡ of.Other → (r : Bool) (g' : List ℕ) → ExprRead r u d kinds names g g' from → FieldRead r e d kinds names g g' from
    field_inner q r g' f y m s header w =
        let t = field_parts fb qp y m s in
        let h : field_of header y ≡ no_inst = rw q at (says y d t.inner header w) in
        rw (reads_of no_inst y m t header h) (f y t.inner header w)

-- ---- `expr_reads`

-- the parts that are read are less deep, and in range
pub children_deep : (x : Expr) (d : ℕ) → 0 < d → expr_depth x ≤ d → exprs_depth (children x) ≤ d - 1
unfolding children expr_depth
children_deep (lit n) d l h = omega arith
children_deep (truth b) d l h = omega arith
children_deep (name n) d l h = omega arith
children_deep (field e n) d l h = omega arith
children_deep (index e i) d l h = omega arith
children_deep (if_else c a b) d l h = omega arith
children_deep (unary o a) d l h = omega arith
children_deep (binary o a b) d l h = omega arith
children_deep (all es) d l h = omega arith

pub both_true : {a b : Bool} → a ≡ true → b ≡ true → a && b ≡ true
both_true p q = rw p q

pub children_ranged : (x : Expr) → expr_in_range x ≡ true → exprs_in_range (children x) ≡ true
unfolding children expr_in_range
children_ranged (lit n) h = refl
children_ranged (truth b) h = refl
children_ranged (name n) h = refl
children_ranged (field e n) h = refl
children_ranged (index e i) h = let p = and_parts (expr_in_range e) (expr_in_range i) h in both_true p.0 (both_true p.1 refl)
children_ranged (if_else c a b) h =
    let p = and_parts (expr_in_range c && expr_in_range a) (expr_in_range b) h in
    let q = and_parts (expr_in_range c) (expr_in_range a) p.0 in
    both_true q.0 (both_true q.1 (both_true p.1 refl))
children_ranged (unary o a) h = both_true h refl
children_ranged (binary o a b) h = let p = and_parts (expr_in_range a) (expr_in_range b) h in both_true p.0 (both_true p.1 refl)
children_ranged (all es) h = h

module _ (e : Bytes) (d : ℕ) (kinds : List ℕ) (names : Names) (g : List ℕ) (from : ℕ) where
  byte_here : (x : Expr) → ShowsExpr e d x → (i : ℕ) → get_or e i 0 ≡ get_or (show_expr x) i 0
  byte_here x s i = ap (λ (z : Bytes). get_or z i 0) s.shown

  -- no form
  pub expr_atom : (get_or e 0 0 ≡ 40 → ⊥) → ExprRead true e d kinds names g g from
  unfolding show_form
  expr_atom f x s header w hs n start rs k = go (told x)
    where
      no : get_or (show_expr x) 0 0 ≡ 40 → ⊥
      no z = f (byte_here x s 0 ∙ z)

      go : Told x → ReadAll true g hs n start rs from (expr_reads x header names)
      go (an_atom h r) = rw (r header names) (read_none hs n start from g rs k)
      go (a_name m q z u v) = absurd (no z)
      go (a_field y m q z u v) = absurd (no z)
      go (a_form c p q h i l r) = absurd (no (ap (λ (z : Bytes). get_or z 0 0) q))

  module _ (v : Option ℕ) (is : v ≡ name_of e) where
    -- a name
    pub expr_name : {m : ℕ} → v ≡ Some m → (r : Bool) (g' : List ℕ) → NameRead r m kinds g g' from → ExprRead r e d kinds names g g' from
    unfolding expr_reads
    expr_name {m} q r g' f x s header w hs n start rs k = rw (named_as e v (Some m) is q d x s) (f header w hs n start rs k)

    module _ (o : get_or e 0 0 ≡ 40) (q : v ≡ None) where
      no_name : (x : Expr) → ShowsExpr e d x → (m : ℕ) → x ≡ name m → ⊥
      no_name x s = named_as e v None is q d x s

      deeper : (x : Expr) → ShowsExpr e d x → 0 < d
      unfolding expr_depth
      deeper x s = go (told x)
        where
          go : Told x → 0 < d
          go (an_atom h r) = absurd (h (sym (byte_here x s 0) ∙ o))
          go (a_name m p z u w) = absurd (no_name x s m p)
          go (a_field y m p z u w) = let h : suc (expr_depth y) ≤ d = rw p at s.deep in omega arith
          go (a_form c p z h i l r) = omega (arith, s.deep)

      -- no room for a form
      pub expr_shut : d ≡ 0 → ExprRead true e d kinds names g g from
      expr_shut z x s = absurd (omega (arith, deeper x s))

      -- an `f`
      pub expr_field : get_or e 1 0 ≡ 102 → (r : Bool) (g' : List ℕ) → FieldRead r e (d - 1) kinds names g g' from → ExprRead r e d kinds names g g' from
      expr_field c r g' f x s header w hs n start rs k = go (told x)
        where
          go : Told x → ReadAll r g' hs n start rs from (expr_reads x header names)
          go (an_atom h i) = absurd (h (sym (byte_here x s 0) ∙ o))
          go (a_name m p z u w) = absurd (no_name x s m p)
          go (a_form b p z h i l j) = absurd (i (sym (byte_here x s 1) ∙ c))
          go (a_field y m p z u t) =
              let h = deeper x s in
              rw p (f y m (record { shown = s.shown ∙ ap show_expr p; deep = let i = rw p at s.deep in omega arith; ranged = rw p at s.ranged }) header w hs n start rs k)

      -- any other form
      pub expr_parts : (get_or e 1 0 ≡ 102 → ⊥) → {a : ℕ} → a ≡ part_end e 1 → (r : Bool) (g' : List ℕ) → PartsRead r (drop a e) (d - 1) kinds names g g' from → ExprRead r e d kinds names g g' from
      unfolding show_form next_end
      expr_parts c {a} qa r g' f x s header w hs n start rs k = go (told x)
        where
          go : Told x → ReadAll r g' hs n start rs from (expr_reads x header names)
          go (an_atom h i) = absurd (h (sym (byte_here x s 0) ∙ o))
          go (a_name m p z u t) = absurd (no_name x s m p)
          go (a_field y m p z u t) = absurd (c (byte_here x s 1 ∙ u))
          go (a_form b p z h i l j) =
              let t = placed e 0 40 (show_exprs (children x)) p (s.shown ∙ z) in
              rw (j header names)
              (f (children x)
              (record {
                shown = ap (λ (m : ℕ). drop m e) qa ∙ t.follows;
                deep = children_deep x d (deeper x s) s.deep;
                ranged = children_ranged x s.ranged;
              })
              header w hs n start rs k)

-- ---- `parts_read`

module _ (s : Bytes) (a d : ℕ) (kinds : List ℕ) (names : Names) (from : ℕ) where
  -- the parts are those of es, of which the first begins here
  pub part_first : (y : Expr) (es : Exprs) → ShowsExprs (drop a s) d (Exprs.more y es) → {b : ℕ} → b ≡ part_end s (a + 1) → {t : Bytes} → t ≡ piece s a b
      → ShowsExpr t d y × ShowsExprs (drop b s) d es
  unfolding show_expr exprs_in_range exprs_depth
  part_first y es h qb qt =
      let i = ended_after s a (show_exprs es) (expr_shown y).part h.shown qb in
      let r = and_parts (expr_in_range y) (exprs_in_range es) h.ranged in
      let l = h.deep in
      (record { shown = qt ∙ i.here; deep = omega arith; ranged = r.0 }, record { shown = i.follows; deep = omega arith; ranged = r.1 })

  -- there are none
  pub parts_none : (g : List ℕ) → follows s a ≡ false → PartsRead true (drop a s) d kinds names g g from
  unfolding show_expr show_rest expr_reads
  parts_none g f Exprs.none h header w hs n start rs k = read_none hs n start from g rs k
  parts_none g f (Exprs.more y es) h header w hs n start rs k = absurd (true≢false (sym (follows_byte s a 32 h.shown) ∙ f))

  module _ (f : follows s a ≡ true) {b : ℕ} (qb : b ≡ part_end s (a + 1)) {t : Bytes} (qt : t ≡ piece s a b) (g g' : List ℕ) where
    last : ShowsExprs (drop a s) d Exprs.none → ⊥
    unfolding show_expr show_rest
    last h = true≢false (sym f ∙ follows_byte s a 41 h.shown)

    -- the first goes no further
    pub parts_stop : (v : Bool) → v ≡ false → ExprRead v t d kinds names g g' from → PartsRead false (drop a s) d kinds names g g' from
    unfolding expr_reads
    parts_stop v l e Exprs.none h header w hs n start rs k = absurd (last h)
    parts_stop v l e (Exprs.more y es) h header w hs n start rs k =
        read_stops hs n start from rs (expr_reads y header names) (exprs_reads es header names) g' (rw l at (e y (part_first y es h qb qt).0 header w hs n start rs k))

    -- the others are read too
    pub parts_more : (v : Bool) → v ≡ true → ExprRead v t d kinds names g g' from → (r : Bool) (z : List ℕ) → PartsRead r (drop b s) d kinds names g' z from → PartsRead r (drop a s) d kinds names g z from
    unfolding expr_reads
    parts_more v l e r z p Exprs.none h header w hs n start rs k = absurd (last h)
    parts_more v l e r z p (Exprs.more y es) h header w hs n start rs k =
        let q = part_first y es h qb qt in
        let x : ReadAll true g' hs n start rs from (expr_reads y header names) = rw l at (e y q.0 header w hs n start rs k) in
        read_then hs n start from rs (expr_reads y header names) (exprs_reads es header names) r g' z x (p es q.1 header w hs n start (rs ++ (expr_reads y header names).nodes) x.0)
