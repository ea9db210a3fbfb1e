-- Where the parts of a line stand, on bytes that show one: numbers, a name and its START, a width, an LV.
-- Assumes nothing.
use mathlib.Core.Path.{◌≡◌, refl, sym, ◌∙◌, ap, subst}
use mathlib.Core.Bool.{Bool, true, false, ◌&&◌, true≢false}
use mathlib.Core.List.{List, [], ◌∷◌, ◌++◌}
use Prim.Native.Nat.{ℕ, zero, suc, ◌+◌, ◌-◌, ◌≤◌, ◌<◌, min}
use native.Mathlib.Omega.{arith}
use lib.ListN.{length, take, drop, get_or, length-drop, take-append-drop}
use lib.Seq.{drop-drop, drop-append-le, take-append-le}
use lib.Dec.{eqb, ltb}
use borrow.Author.Tests.{ltb-true, lt-ltb, le-ltb}
use Rattle.spec.specs.Bytes.{Bytes, number, show_number, show_rest, show_form}
use Rattle.spec.specs.Syntax.{name_bound, number_bound, Expr, Width, LValue, input, output, port, reg, mem, drive}
use Rattle.spec.specs.Show.{show_expr, show_width, show_index, show_lvalue, show_item}
use Rattle.spec.specs.Refusal.{width_in_range, index_in_range, expr_in_range, item_in_range, item_depth}
use Rattle.spec.specs.Site.{Output}
use Rattle.spec.proofs.Numbers.{number_show}
use Rattle.spec.proofs.Nodes.{and_parts}
use Rattle.spec.proofs.Parts.{number_part}
use Rattle.spec.proofs.Shown.{width_shown, lvalue_shown}
use Rattle.lines.specs.Parts.{part_end, piece, next_end, follows}
use Rattle.runs.specs.Run.{ShowsItem}
use Rattle.runs.proofs.Inside.{placed}
use Rattle.sites.specs.Own.{Port}
use Rattle.items.specs.declared.Named.{Named}
use Rattle.items.specs.Held.{PortIs}
use Rattle.items.specs.Lines.{StandsAt, number_at, two_at, named_at, NumberIs, NamedIs, NamedAt, ShowsLValue}

-- ---- a space stands before a part, and none behind the last

get_or_here : (l : Bytes) (i : ℕ) → get_or l i 0 ≡ get_or (drop i l) 0 0
get_or_here [] zero = refl
get_or_here [] (suc i) = refl
get_or_here (c ∷ l) zero = refl
get_or_here (c ∷ l) (suc i) = get_or_here l i

pub part_follows : (x : Bytes) (e : ℕ) (y : Bytes) (ys : List Bytes) → drop e x ≡ show_rest (y ∷ ys) → follows x e ≡ true
unfolding show_rest
part_follows x e y ys q = ap (λ (n : ℕ). eqb n 32) (get_or_here x e ∙ ap (λ (z : Bytes). get_or z 0 0) q)

pub part_ends : (x : Bytes) (e : ℕ) → drop e x ≡ show_rest [] → follows x e ≡ false
unfolding show_rest
part_ends x e q = ap (λ (n : ℕ). eqb n 32) (get_or_here x e ∙ ap (λ (z : Bytes). get_or z 0 0) q)

pub no_part : (x : Bytes) (e : ℕ) (y : Bytes) (ys : List Bytes) → drop e x ≡ show_rest (y ∷ ys) → follows x e ≡ false → ⊥
no_part x e y ys q f = true≢false (sym (part_follows x e y ys q) ∙ f)

pub one_part : (x : Bytes) (e : ℕ) → drop e x ≡ show_rest [] → follows x e ≡ true → ⊥
one_part x e q f = true≢false (sym f ∙ part_ends x e q)

-- ---- numbers

module _ (x : Bytes) (b e : ℕ) {t : Bytes} (qt : t ≡ piece x b e) {v : ℕ} (qv : v ≡ min (number t) 4294967296) where
  by_size : (s : Bool) → ltb 4294967295 (number (piece x b e)) ≡ s → elim s as (λ _. ℕ) [ true ↦ 0 | false ↦ number (piece x b e) ] ≡ number_at x b e
  unfolding number_at
  by_size s q = sym (ap (λ (z : Bool). elim z as (λ _. ℕ) [ true ↦ 0 | false ↦ number (piece x b e) ]) q)

  pub number_is : v ≤ 4294967295 → v ≡ number_at x b e
  number_is g =
      let k = ap number qt in
      let z : v ≡ number (piece x b e) = omega arith in
      z ∙ by_size false (le-ltb 4294967295 (number (piece x b e)) (omega arith))

  pub number_large : 4294967295 < v → 0 ≡ number_at x b e
  number_large g = let k = ap number qt in by_size true (lt-ltb 4294967295 (number (piece x b e)) (omega arith))

-- what it means where a number stands there
pub number_means : {r : ℕ} (x : Bytes) (b e : ℕ) → r ≡ number_at x b e → NumberIs r x b e
number_means x b e p n q l =
    let k : number (piece x b e) ≡ n = ap number q ∙ number_show n in
    p ∙ sym (by_size x b e refl refl false (le-ltb 4294967295 (number (piece x b e)) (omega arith))) ∙ k

-- ---- a name and a START

and_false : (b : Bool) → b && false ≡ false
and_false true = refl
and_false false = refl

module _ (x : Bytes) (b : ℕ) where
  by_follows : (s : Bool) → follows x b && follows x (next_end x b) ≡ s
      → elim s as (λ _. Named) [ true ↦ two_at x b (next_end x b) (next_end x (next_end x b)) | false ↦ record { name = 0; start = 0; end = b } ] ≡ named_at x b
  unfolding named_at
  by_follows s q =
      sym (ap (λ (z : Bool). elim z as (λ _. Named) [ true ↦ two_at x b (next_end x b) (next_end x (next_end x b)) | false ↦ record { name = 0; start = 0; end = b } ]) q)

  pub named_none : follows x b ≡ false → record { name = 0; start = 0; end = b } ≡ named_at x b
  named_none f = by_follows false (ap (λ (z : Bool). z && follows x (next_end x b)) f)

  module _ {a : ℕ} (qa : a ≡ part_end x (b + 1)) where
    behind_name : (n : ℕ) (xs : List Bytes) → drop b x ≡ show_rest (show_number n ∷ xs) → (piece x b a ≡ show_number n) × (drop a x ≡ show_rest xs)
    unfolding show_rest next_end
    behind_name n xs q = let p = placed x b 32 xs (number_part n) q in (ap (piece x b) qa ∙ p.here, ap (λ (m : ℕ). drop m x) qa ∙ p.follows)

    second_follows : {t : Bool} → follows x a ≡ t → follows x (next_end x b) ≡ t
    unfolding next_end
    second_follows f = ap (λ (n : ℕ). follows x n) (sym qa) ∙ f

    pub named_alone : follows x a ≡ false → record { name = 0; start = 0; end = b } ≡ named_at x b
    named_alone f = by_follows false (ap (λ (z : Bool). follows x b && z) (second_follows f) ∙ and_false (follows x b))

    pub named_two : follows x b ≡ true → follows x a ≡ true → {c : ℕ} → c ≡ part_end x (a + 1) → {u v : ℕ} → u ≡ number_at x b a → v ≡ number_at x a c
        → record { name = u; start = v; end = c } ≡ named_at x b
    unfolding next_end
    named_two g f {c} qc {u} {v} hu hv =
        let s : record { name = u; start = v; end = c } ≡ two_at x b a c = λ i. record { name = hu i; start = hv i; end = c } in
        s ∙ ap (λ (n : ℕ). two_at x b n c) qa ∙ ap (λ (n : ℕ). two_at x b (part_end x (b + 1)) n) (qc ∙ ap (λ (n : ℕ). part_end x (n + 1)) qa)
        ∙ by_follows true (ap (λ (z : Bool). z && follows x (next_end x b)) g ∙ second_follows f)

-- what it means where a name and a START stand there
pub named_means : {r : Named} (x : Bytes) (b : ℕ) → r ≡ named_at x b → NamedAt r x b
unfolding next_end
named_means {r} x b e n s xs q l k =
    let a = part_end x (b + 1) in
    let c = part_end x (a + 1) in
    let p = behind_name x b refl n (show_number s ∷ xs) q in
    let t = behind_name x a refl s xs p.1 in
    let f = part_follows x b (show_number n) (show_number s ∷ xs) q in
    let g = part_follows x a (show_number s) xs p.1 in
    let z : r ≡ two_at x b a c = e ∙ sym (named_two x b refl f g refl refl refl) in
    subst (λ (y : Named). NamedIs y x n s xs) (sym z)
    (record { name = number_means x b a refl n p.0 (omega arith); start = number_means x a c refl s t.0 (omega arith); behind = t.1 })

-- ---- `port out`

pub dir_out : (x : Bytes) (n : ℕ) (w : Width) (s : ℕ) → x ≡ show_item (port output n w s) → get_or x 6 0 ≡ 111
unfolding show_item show_form show_rest
dir_out x n w s q = ap (λ (z : Bytes). get_or z 6 0) q

pub dir_in : (x : Bytes) (n : ℕ) (w : Width) (s : ℕ) → x ≡ show_item (port input n w s) → get_or x 6 0 ≡ 105
unfolding show_item show_form show_rest
dir_in x n w s q = ap (λ (z : Bytes). get_or z 6 0) q

-- a part of x is the part of the text that stands so much further on
stands_piece : (text : Bytes) (base : ℕ) (x : Bytes) → StandsAt text base x → (a b : ℕ) → a < b → b ≤ length x
    → take (base + b - (base + (a + 1))) (drop (base + (a + 1)) text) ≡ piece x a b
unfolding piece
stands_piece text base x st a b l k =
    let post = drop (length x) (drop base text) in
    let e : drop base text ≡ x ++ post = sym (take-append-drop (length x) (drop base text)) ∙ ap (λ (z : Bytes). z ++ post) (sym st.here) in
    let m : base + b - (base + (a + 1)) ≡ b - (a + 1) = omega arith in
    let d : drop (base + (a + 1)) text ≡ drop (a + 1) x ++ post = sym (drop-drop (a + 1) base text) ∙ ap (drop (a + 1)) e ∙ drop-append-le (a + 1) x post (omega arith) in
    ap (λ (z : ℕ). take z (drop (base + (a + 1)) text)) m ∙ ap (take (b - (a + 1))) d
    ∙ take-append-le (b - (a + 1)) (drop (a + 1) x) post (omega (arith, length-drop (a + 1) x))

module _ (x : Bytes) (base : ℕ) {a b c : ℕ} (qa : a ≡ part_end x 10) (qb : b ≡ part_end x (a + 1)) (qc : c ≡ part_end x (b + 1)) where
  -- the places of the parts
  record PortPlaces (n : ℕ) (w : Width) (s : ℕ) : Type 0 where
    name : piece x 9 a ≡ show_number n
    behind_name : drop a x ≡ show_rest (show_width w ∷ show_number s ∷ [])
    width : piece x a b ≡ show_width w
    behind_width : drop b x ≡ show_rest (show_number s ∷ [])
    start : piece x b c ≡ show_number s

  port_places : (n : ℕ) (w : Width) (s : ℕ) → x ≡ show_item (port output n w s) → PortPlaces n w s
  unfolding show_item show_form show_rest next_end
  port_places n w s q =
      let p = placed x 9 32 (show_width w ∷ show_number s ∷ []) (number_part n) (ap (drop 9) q) in
      let fa : drop a x ≡ show_rest (show_width w ∷ show_number s ∷ []) = ap (λ (m : ℕ). drop m x) qa ∙ p.follows in
      let r = placed x a 32 (show_number s ∷ []) (width_shown w).part fa in
      let fb : drop b x ≡ show_rest (show_number s ∷ []) = ap (λ (m : ℕ). drop m x) qb ∙ r.follows in
      let t = placed x b 32 [] (number_part s) fb in
      record { name = ap (piece x 9) qa ∙ p.here; behind_name = fa; width = ap (piece x a) qb ∙ r.here; behind_width = fb; start = ap (piece x b) qc ∙ t.here }

pub port_first : (x : Bytes) (n : ℕ) (w : Width) (s : ℕ) → x ≡ show_item (port output n w s) → follows x 9 ≡ true
unfolding show_item show_form show_rest
port_first x n w s q = part_follows x 9 (show_number n) (show_width w ∷ show_number s ∷ []) (ap (drop 9) q)

pub port_second : (x : Bytes) {a : ℕ} → a ≡ part_end x 10 → (n : ℕ) (w : Width) (s : ℕ) → x ≡ show_item (port output n w s) → follows x a ≡ true
port_second x {a} qa n w s q = part_follows x a (show_width w) (show_number s ∷ []) (port_places x 0 qa refl refl n w s q).behind_name

pub port_third : (x : Bytes) {a b : ℕ} → a ≡ part_end x 10 → b ≡ part_end x (a + 1) → (n : ℕ) (w : Width) (s : ℕ) → x ≡ show_item (port output n w s) → follows x b ≡ true
port_third x {a} {b} qa qb n w s q = part_follows x b (show_number s) [] (port_places x 0 qa qb refl n w s q).behind_width

abbrev pub port_row : (name start base a b : ℕ) → Port
port_row name start base a b = record { name = name; start = start; from = base + (a + 1); to = base + b }

abbrev pub port_output : ℕ → Width → ℕ → Output
port_output n w s = record { name = n; width = w; start = s }

-- the row of an output says where its width stands
pub port_is : (text x : Bytes) (base d n : ℕ) (w : Width) (s : ℕ) {a b c u v : ℕ} → a ≡ part_end x 10 → b ≡ part_end x (a + 1) → c ≡ part_end x (b + 1)
    → a < b → b ≤ length x → NumberIs u x 9 a → NumberIs v x b c → ShowsItem x d (port output n w s) → StandsAt text base x
    → PortIs text (port_row u v base a b) (port_output n w s) × (n < name_bound)
unfolding item_in_range item_depth
port_is text x base d n w s {a} {b} {c} qa qb qc ab bl hu hv p st =
    let q = port_places x base qa qb qc n w s p.shown in
    let r = and_parts (ltb n name_bound && width_in_range w) (ltb s number_bound) p.ranged in
    let t = and_parts (ltb n name_bound) (width_in_range w) r.0 in
    let ln : n < name_bound = ltb-true n name_bound t.0 in
    let ls : s < number_bound = ltb-true s number_bound r.1 in
    let deep = p.deep in
    let within = p.within in
    let inside = st.inside in (
      record {
        name = hu n q.name (omega arith);
        start = hv s q.start (omega arith);
        width = stands_piece text base x st a b ab bl ∙ q.width;
        inside = (omega arith, omega arith);
        deep = omega arith;
        ranged = t.1;
      },
      ln,
    )

-- ---- `reg` and `mem`

pub reg_behind : (x : Bytes) (n s : ℕ) → x ≡ show_item (reg n s) → drop 4 x ≡ show_rest (show_number n ∷ show_number s ∷ [])
unfolding show_item show_form show_rest
reg_behind x n s q = ap (drop 4) q

pub mem_behind : (x : Bytes) (n s : ℕ) → x ≡ show_item (mem n s) → drop 4 x ≡ show_rest (show_number n ∷ show_number s ∷ [])
unfolding show_item show_form show_rest
mem_behind x n s q = ap (drop 4) q

pub both_small : (n s : ℕ) → ltb n name_bound && ltb s number_bound ≡ true → (n < name_bound) × (s < number_bound)
both_small n s e = let r = and_parts (ltb n name_bound) (ltb s number_bound) e in (ltb-true n name_bound r.0, ltb-true s number_bound r.1)

-- ---- `drive`

pub drive_lvalue : (x : Bytes) (d : ℕ) (lv : LValue) (e : Expr) → ShowsItem x d (drive lv e) → {a : ℕ} → a ≡ part_end x 7 → {y : Bytes} → y ≡ piece x 6 a → ShowsLValue y d lv
unfolding show_item show_form show_rest next_end item_depth item_in_range
drive_lvalue x d lv e p qa qy =
    let q = placed x 6 32 (show_expr e ∷ []) (lvalue_shown lv).part (ap (drop 6) p.shown) in
    let deep = p.deep in
    let r = and_parts (ltb lv.name name_bound && ltb lv.start number_bound && index_in_range lv.index) (expr_in_range e) p.ranged in
    let t = and_parts (ltb lv.name name_bound && ltb lv.start number_bound) (index_in_range lv.index) r.0 in
    let u = both_small lv.name lv.start t.0 in
    record { shown = qy ∙ ap (piece x 6) qa ∙ q.here; deep = omega arith; name = u.0; start = u.1 }

pub lvalue_behind : (y : Bytes) (d : ℕ) (lv : LValue) → ShowsLValue y d lv → drop 3 y ≡ show_rest (show_number lv.name ∷ show_number lv.start ∷ show_index lv.index)
unfolding show_lvalue show_form show_rest
lvalue_behind y d lv p = ap (drop 3) p.shown

-- its name and START
pub lvalue_named : (y : Bytes) (d : ℕ) (lv : LValue) → ShowsLValue y d lv → (r : Named) → NamedAt r y 3 → NamedIs r y lv.name lv.start (show_index lv.index)
lvalue_named y d lv p r h = h lv.name lv.start (show_index lv.index) (lvalue_behind y d lv p) p.name p.start
