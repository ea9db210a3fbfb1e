-- Where the code cuts runs out of a form: behind the bounds of a `repeat`, and behind the words `then` and `else`. On what shows an
-- item these are the runs of its items.
-- Assumes nothing.
use mathlib.Core.Path.{◌≡◌, refl, sym, ◌∙◌, ap, ap₂}
use mathlib.Core.Bool.{true, ◌&&◌}
use mathlib.Core.List.{List, [], ◌∷◌, ◌++◌}
use Prim.Native.Nat.{ℕ, zero, suc, ◌+◌, ◌-◌, ◌≤◌, ◌<◌, min}
use native.Mathlib.Omega.{arith}
use lib.ListN.{length, take, drop, length-take, length-drop, length-append}
use lib.Seq.{take_at, drop_at, drop-drop, take-nil, drop-nil}
use lib.Dec.{ltb}
use borrow.Author.Tests.{ltb-true}
use Rattle.spec.specs.Bytes.{Bytes, bytes, onto, parts_from, show_number, show_rest, show_form}
use Rattle.spec.specs.Syntax.{name_bound, Expr, Items, repeat, const_if}
use Rattle.spec.specs.Show.{show_expr, show_item, show_items}
use Rattle.spec.specs.Refusal.{expr_depth, item_depth, expr_in_range, item_in_range, items_in_range}
use Rattle.spec.proofs.Nodes.{and_parts}
use Rattle.spec.proofs.Parts.{before, Part, word_part, number_part, form_part}
use Rattle.spec.proofs.Shown.{expr_shown, items_shown}
use Rattle.lines.specs.Parts.{scan, piece, next_end}
use Rattle.lines.proofs.PartLaws.{scan_le, cut, parts_after, parts_cut}
use Rattle.runs.specs.Run.{head_end, first_end, second_end, third_end, ShowsItem, RunOf}
use Rattle.runs.proofs.Run.{rest_run}

-- ---- the places of shown parts

before_empty : (x : Bytes) (ps : List Bytes) → before x ([] ∷ ps) ≡ x ∷ ps
unfolding before onto
before_empty [] ps = refl
before_empty (c ∷ x) ps = ap (onto c) (before_empty x ps)

-- the parts in what follows a part
follow : (xs : List Bytes) → (ps : List Bytes) × (parts_from 0 (show_rest xs) ≡ [] ∷ ps)
unfolding show_rest parts_from
follow [] = ([], refl)
follow (x ∷ xs) = (parts_from 0 (x ++ show_rest xs), refl)

-- the scan ends behind a part that is shown
pub scan_part : {x : Bytes} {a : ℕ} → Part x a → (xs : List Bytes) → scan 0 (x ++ show_rest xs) ≡ length x
unfolding cut
scan_part {x} p xs =
    let t = x ++ show_rest xs in
    let f = follow xs in
    let e : take (scan 0 t) t ∷ parts_after (drop (scan 0 t) t) ≡ x ∷ f.0 =
    sym (parts_cut 0 t) ∙ p.passed 0 (show_rest xs) ∙ ap (before x) f.1 ∙ before_empty x f.0 in
    let h : take (scan 0 t) t ≡ x = cc in
    let l = scan_le 0 t in
    omega (arith, ap length h, length-take (scan 0 t) t)

-- the part behind the byte at e, and what follows it
pub record Placed (s : Bytes) (e : ℕ) (x : Bytes) (xs : List Bytes) : Type 0 where
  pub here : piece s e (next_end s e) ≡ x
  pub follows : drop (next_end s e) s ≡ show_rest xs

pub placed : (s : Bytes) (e b : ℕ) {x : Bytes} {a : ℕ} (xs : List Bytes) → Part x a → drop e s ≡ b ∷ x ++ show_rest xs → Placed s e x xs
unfolding piece next_end
placed s e b {x} xs p q =
    let r : drop (e + 1) s ≡ x ++ show_rest xs = sym (drop-drop 1 e s) ∙ ap (drop 1) q in
    let n : scan 0 (drop (e + 1) s) ≡ length x = ap (scan 0) r ∙ scan_part p xs in
    let m : e + 1 + scan 0 (drop (e + 1) s) - (e + 1) ≡ length x = omega arith in
    record {
      here = rw (m, r) (take_at x (show_rest xs) (length x) refl);
      follows = sym (drop-drop (scan 0 (drop (e + 1) s)) (e + 1) s) ∙ rw (n, r) (drop_at x (show_rest xs) (length x) refl);
    }

-- what follows a part that has others behind it
pub rest_first : (x : Bytes) (xs : List Bytes) → show_rest (x ∷ xs) ≡ 32 ∷ x ++ show_rest xs
unfolding show_rest
rest_first x xs = refl

-- a part that others or the last bracket follow ends in the form
rest_some : (xs : List Bytes) → 0 < length (show_rest xs)
unfolding show_rest
rest_some [] = omega arith
rest_some (x ∷ xs) = omega arith

end_inside : (s : Bytes) (e : ℕ) (xs : List Bytes) → drop e s ≡ show_rest xs → e < length s
end_inside s e xs q = omega (arith, ap length q, rest_some xs, length-drop e s)

-- ---- `repeat`

-- the parts of a `repeat`, each where it stands, and the run behind its bounds
pub record InRepeat (x : Bytes) (d n : ℕ) (low high : Expr) (is : Items) : Type 0 where
  pub deeper : 0 < d
  pub ends : (head_end x < length x) × (first_end x < length x) × (second_end x < length x) × (third_end x < length x)
  pub name : piece x (head_end x) (first_end x) ≡ show_number n
  pub named : n < name_bound
  pub low_shown : piece x (first_end x) (second_end x) ≡ show_expr low
  pub low_deep : expr_depth low ≤ d - 1
  pub low_ranged : expr_in_range low ≡ true
  pub high_shown : piece x (second_end x) (third_end x) ≡ show_expr high
  pub high_deep : expr_depth high ≤ d - 1
  pub high_ranged : expr_in_range high ≡ true
  pub body : RunOf (d - 1) (drop (third_end x) x) is

pub in_repeat : (x : Bytes) (d n : ℕ) (low high : Expr) (is : Items) → ShowsItem x d (repeat n low high is) → InRepeat x d n low high is
unfolding show_item show_form item_depth item_in_range
in_repeat x d n low high is h =
    let e : drop 0 x ≡ 40 ∷ bytes "repeat" ++ show_rest (show_number n ∷ show_expr low ∷ show_expr high ∷ show_items is) = h.shown in
    let p = placed x 0 40 (show_number n ∷ show_expr low ∷ show_expr high ∷ show_items is) (word_part (bytes "repeat") (omega arith)) e in
    let q = placed x (head_end x) 32 (show_expr low ∷ show_expr high ∷ show_items is) (number_part n) (p.follows ∙ rest_first _ _) in
    let r = placed x (first_end x) 32 (show_expr high ∷ show_items is) (expr_shown low).part (q.follows ∙ rest_first _ _) in
    let t = placed x (second_end x) 32 (show_items is) (expr_shown high).part (r.follows ∙ rest_first _ _) in
    let deep = h.deep in
    let limit = h.within in
    let a = and_parts (ltb n name_bound && expr_in_range low && expr_in_range high) (items_in_range is) h.ranged in
    let b = and_parts (ltb n name_bound && expr_in_range low) (expr_in_range high) a.0 in
    let c = and_parts (ltb n name_bound) (expr_in_range low) b.0 in
    record {
      deeper = omega arith;
      ends = (end_inside x (head_end x) _ p.follows, end_inside x (first_end x) _ q.follows, end_inside x (second_end x) _ r.follows, end_inside x (third_end x) _ t.follows);
      name = q.here;
      named = ltb-true n name_bound c.0;
      low_shown = r.here;
      low_deep = omega arith;
      low_ranged = c.1;
      high_shown = t.here;
      high_deep = omega arith;
      high_ranged = b.1;
      body = rw t.follows (rest_run is a.1 (d - 1) (omega arith) (omega arith));
    }

-- ---- `constif`

pub drop_take : (n m : ℕ) (l : Bytes) → drop n (take m l) ≡ take (m - n) (drop n l)
drop_take zero m l = let z : m ≡ m - 0 = omega arith in ap (λ (x : ℕ). take x l) z
drop_take (suc n) zero l = drop-nil (suc n) ∙ let z : 0 ≡ 0 - suc n = omega arith in ap (λ (x : ℕ). take x (drop (suc n) l)) z
drop_take (suc n) (suc m) [] = sym (take-nil (suc m - suc n))
drop_take (suc n) (suc m) (c ∷ l) = drop_take n m l ∙ let z : m - n ≡ suc m - suc n = omega arith in ap (λ (x : ℕ). take x (drop n l)) z

-- what stands behind the first n bytes of a part
piece_later : (s : Bytes) (b n e : ℕ) → piece s (b + n) e ≡ drop n (piece s b e)
unfolding piece
piece_later s b n e =
    let k : e - (b + n + 1) ≡ e - (b + 1) - n = omega arith in
    let j : b + n + 1 ≡ b + 1 + n = omega arith in
    ap₂ (λ (u v : ℕ). take u (drop v s)) k j ∙ ap (take (e - (b + 1) - n)) (sym (drop-drop n (b + 1) s)) ∙ sym (drop_take n (e - (b + 1)) (drop (b + 1) s))

pub piece_length : (s : Bytes) (e f : ℕ) → length (piece s e f) ≡ min (f - (e + 1)) (length s - (e + 1))
unfolding piece
piece_length s e f = length-take (f - (e + 1)) (drop (e + 1) s) ∙ ap (min (f - (e + 1))) (length-drop (e + 1) s)

-- the run of a branch, behind its word, and that it lies in the form
record Branch (s : Bytes) (e : ℕ) (is : Items) : Type 0 where
  inside : e + 5 ≤ next_end s e
  run : piece s (e + 5) (next_end s e) ≡ show_rest (show_items is)

branch : (s : Bytes) (e : ℕ) (w : Bytes) → length w ≡ 4 → (is : Items) → piece s e (next_end s e) ≡ show_form w (show_items is) → Branch s e is
unfolding show_form
branch s e w l is p =
    let f = next_end s e in
    let n : length (piece s e f) ≡ suc (length w + length (show_rest (show_items is))) = ap length p ∙ ap suc (length-append w (show_rest (show_items is))) in
    let m = piece_length s e f in
    record {
      inside = omega arith;
      run = piece_later s e 5 f ∙ ap (drop 5) p ∙ drop_at (40 ∷ w) (show_rest (show_items is)) 5 (ap suc l);
    }

-- the condition of a `constif`, and the runs of its branches
pub record InConstIf (x : Bytes) (d : ℕ) (c : Expr) (is js : Items) : Type 0 where
  pub deeper : 1 < d
  pub ends : (head_end x < length x) × (first_end x < length x) × (second_end x < length x) × (third_end x < length x)
  pub shown : piece x (head_end x) (first_end x) ≡ show_expr c
  pub deep : expr_depth c ≤ d - 1
  pub ranged : expr_in_range c ≡ true
  pub then_inside : first_end x + 5 ≤ second_end x
  pub then_run : RunOf (d - 2) (piece x (first_end x + 5) (second_end x)) is
  pub else_inside : second_end x + 5 ≤ third_end x
  pub else_run : RunOf (d - 2) (piece x (second_end x + 5) (third_end x)) js

pub in_const_if : (x : Bytes) (d : ℕ) (c : Expr) (is js : Items) → ShowsItem x d (const_if c is js) → InConstIf x d c is js
unfolding show_item show_form item_depth item_in_range
in_const_if x d c is js h =
    let a = show_form (bytes "then") (show_items is) in
    let b = show_form (bytes "else") (show_items js) in
    let pa = form_part (word_part (bytes "then") (omega arith)) (items_shown is).parts _ refl in
    let pb = form_part (word_part (bytes "else") (omega arith)) (items_shown js).parts _ refl in
    let e : drop 0 x ≡ 40 ∷ bytes "constif" ++ show_rest (show_expr c ∷ a ∷ b ∷ []) = h.shown in
    let p = placed x 0 40 (show_expr c ∷ a ∷ b ∷ []) (word_part (bytes "constif") (omega arith)) e in
    let q = placed x (head_end x) 32 (a ∷ b ∷ []) (expr_shown c).part (p.follows ∙ rest_first _ _) in
    let r = placed x (first_end x) 32 (b ∷ []) pa (q.follows ∙ rest_first _ _) in
    let t = placed x (second_end x) 32 [] pb (r.follows ∙ rest_first _ _) in
    let u = branch x (first_end x) (bytes "then") refl is r.here in
    let v = branch x (second_end x) (bytes "else") refl js t.here in
    let deep = h.deep in
    let limit = h.within in
    let f = and_parts (expr_in_range c && items_in_range is) (items_in_range js) h.ranged in
    let g = and_parts (expr_in_range c) (items_in_range is) f.0 in
    record {
      deeper = omega arith;
      ends = (end_inside x (head_end x) _ p.follows, end_inside x (first_end x) _ q.follows, end_inside x (second_end x) _ r.follows, end_inside x (third_end x) _ t.follows);
      shown = q.here;
      deep = omega arith;
      ranged = g.0;
      then_inside = u.inside;
      then_run = rw u.run (rest_run is g.1 (d - 2) (omega arith) (omega arith));
      else_inside = v.inside;
      else_run = rw v.run (rest_run js f.1 (d - 2) (omega arith) (omega arith));
    }
