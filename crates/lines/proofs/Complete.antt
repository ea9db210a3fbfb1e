-- A tree's bytes are read as the tree: `scan` gives the place behind them and what is asked of the tree.
-- Assumes nothing.
use mathlib.Core.Path.{◌≡◌, refl, sym, ap, ◌∙◌}
use mathlib.Core.Bool.{Bool, true, ◌&&◌, and-true, and_assoc}
use mathlib.Core.List.{List, [], ◌∷◌, ◌++◌, append_assoc}
use Prim.Native.Nat.{ℕ, zero, suc, ◌+◌, ◌-◌, ◌≤◌, ◌<◌}
use native.Mathlib.Omega.{arith}
use lib.ListN.{length, drop, length-append, length-drop}
use borrow.Author.Tests.{eq-eqb}
use Rattle.spec.specs.Bytes.{Bytes, show_rest, show_form}
use Rattle.lines.specs.Bytes.{class_of}
use Rattle.std.specs.Prelude.{Option}
use Rattle.lines.specs.Parse.{good, key, shift, parts_at, scan}
use Rattle.lines.specs.declared.parse.Cat.{Cat}
use Rattle.lines.specs.declared.parse.Shape.{Shape}
use Rattle.lines.specs.declared.parse.Parsed.{Parsed}
use Rattle.lines.proofs.Laws.{scan_atom, form_start, parts_more}
use Rattle.lines.proofs.Trees.{Tree, show, range, depth, Done, Walk, shows, all_range, all_depth}
use Rattle.lines.proofs.Spelled.{cons_at, cons_next, span_next, Stops, word_there}
use Rattle.lines.proofs.Atoms.{IsAtom, atom_there}
use Rattle.lines.proofs.Formed.{word_of, Formed, View, atom as atom_view, form, viewed}

abbrev pub Reads : ℕ → Bytes → (Cat → ℕ → Option Parsed) → Type 0
Reads d t f = (c : Cat) (x : Tree c) (i : ℕ) (r : Bytes) → drop i t ≡ show c x ++ r → Stops r → depth c x ≤ d → f c i ≡ good (i + length (show c x)) (range c x)

-- what follows a part of a form stops it
pub rest_stops : (xs : List Bytes) (r : Bytes) → Stops (show_rest xs ++ r)
unfolding show_rest class_of
rest_stops [] r = refl
rest_stops (x ∷ xs) r = refl

done_zero : (n : ℕ) → Done n → n ≡ 0
done_zero zero d = refl
done_zero (suc n) d = absurd d

good_same : {i j : ℕ} {r r' : Bool} → i ≡ j → r ≡ r' → good i r ≡ good j r'
good_same a b = cc

module _ (d : ℕ) (t : Bytes) (f : Cat → ℕ → Option Parsed) (reads : Reads d t f) where
  parts_complete : (n left : ℕ) (q : Shape) (w : Walk n q) (i : ℕ) (r : Bytes) (r₀ : Bool) → n < left → drop i t ≡ show_rest (shows n q w) ++ r → all_depth n q w ≤ d
      → parts_at f left t q i r₀ ≡ good (i + length (show_rest (shows n q w))) (r₀ && all_range n q w)
  unfolding parts_at show_rest
  parts_complete n zero q w i r r₀ l e h = absurd (omega arith)
  parts_complete zero (suc left) q w i r r₀ l e h =
      rw (cons_at t i 41 r e, eq-eqb q.need 0 (done_zero q.need w), parts_at) (rw (and-true r₀))
  parts_complete (suc n) (suc left) q w i r r₀ l e h =
      let tail = show_rest (shows n (shift q) w.1) in
      let x = show q.a w.0 in
      let a = cons_at t i 32 ((x ++ tail) ++ r) e in
      let b : drop (i + 1) t ≡ x ++ (tail ++ r) = cons_next t i 32 ((x ++ tail) ++ r) e ∙ append_assoc x tail r in
      let g = reads q.a w.0 (i + 1) (tail ++ r) b (rest_stops (shows n (shift q) w.1) r) (omega arith) in
      let k = span_next t (i + 1) x (tail ++ r) b in
      let z : i + 1 + length x + length tail ≡ i + suc (length (x ++ tail)) = omega (arith, length-append x tail) in
      parts_more f t q i r₀ (suc left) left refl (λ u. omega arith) a (i + 1 + length x) (range q.a w.0) g
      ∙ parts_complete n left (shift q) w.1 (i + 1 + length x) r (r₀ && range q.a w.0) (omega arith) k (omega arith)
      ∙ good_same z (and_assoc r₀ (range q.a w.0) (all_range n (shift q) w.1))

-- a form has fewer parts than bytes
count_length : (n : ℕ) (q : Shape) (w : Walk n q) → n < length (show_rest (shows n q w))
unfolding show_rest
count_length zero q w = omega arith
count_length (suc n) q w =
    let h = count_length n (shift q) w.1 in
    omega (arith, length-append (show q.a w.0) (show_rest (shows n (shift q) w.1)))

form_complete : (d : ℕ) (t : Bytes) → Reads d t (λ k i. scan d k t i) → (c : Cat) (x : Tree c) (i : ℕ) (r : Bytes) → drop i t ≡ show c x ++ r → depth c x ≤ suc d
    → Formed c x → scan (suc d) c t i ≡ good (i + length (show c x)) (range c x)
unfolding show_form
form_complete d t reads c x i r e h f =
    let m = f.made in
    let word = word_of c x in
    let tail = show_rest (shows f.count f.q f.walk) in
    let g : drop i t ≡ 40 ∷ (word ++ tail) ++ r = e ∙ ap (λ (z : Bytes). z ++ r) m.shown in
    let a = cons_at t i 40 ((word ++ tail) ++ r) g in
    let b : drop (i + 1) t ≡ word ++ (tail ++ r) = cons_next t i 40 ((word ++ tail) ++ r) g ∙ append_assoc word tail r in
    let w = word_there word t (i + 1) (tail ++ r) f.fine b (rest_stops (shows f.count f.q f.walk) r) in
    let k = span_next t (i + 1) word (tail ++ r) b in
    let deep : all_depth f.count f.q f.walk ≤ d = let u = m.deep in omega arith in
    let room : f.count < length t = let u = count_length f.count f.q f.walk in let v = room_of t (i + 1 + length word) tail r k in omega arith in
    let go = parts_complete d t (λ k i. scan d k t i) reads f.count (length t) f.q f.walk (i + 1 + length word) r true room k deep in
    sym (form_start (suc d) c t i (record { key = key word; next = i + 1 + length word }) f.q a (λ z. omega arith) (sym w) (sym f.shaped))
    ∙ ap (λ (n : ℕ). parts_at (λ k i. scan n k t i) (length t) t f.q (i + 1 + length word) true) (less d)
    ∙ go ∙ good_same (ends i word tail ∙ ap (λ (z : Bytes). i + length z) (sym m.shown)) (sym m.ranged)
  where
    less : (d : ℕ) → suc d - 1 ≡ d
    less d = omega arith

    ends : (i : ℕ) (word tail : Bytes) → i + 1 + length word + length tail ≡ i + length (40 ∷ (word ++ tail))
    ends i word tail = omega (arith, length-append word tail)

    room_of : (t : Bytes) (k : ℕ) (x r : Bytes) → drop k t ≡ x ++ r → length x ≤ length t
    room_of t k x r e = omega (arith, length-drop k t, length-append x r, ap length e)

module _ (t : Bytes) (c : Cat) (x : Tree c) (i : ℕ) (r : Bytes) (e : drop i t ≡ show c x ++ r) (s : Stops r) where
  atom_complete : (d : ℕ) → IsAtom c x → scan d c t i ≡ good (i + length (show c x)) (range c x)
  atom_complete d a = let y = atom_there c x t i r a e s in sym (scan_atom d c t i y.plain) ∙ y.good

  flat_complete : depth c x ≤ 0 → View c x → scan 0 c t i ≡ good (i + length (show c x)) (range c x)
  flat_complete h (atom_view a) = atom_complete 0 a
  flat_complete h (form f) = let u = f.made.deep in absurd (omega arith)

  deep_complete : (d : ℕ) → Reads d t (λ k i. scan d k t i) → depth c x ≤ suc d → View c x → scan (suc d) c t i ≡ good (i + length (show c x)) (range c x)
  deep_complete d reads h (atom_view a) = atom_complete (suc d) a
  deep_complete d reads h (form f) = form_complete d t reads c x i r e h f

pub complete : (d : ℕ) (t : Bytes) → Reads d t (λ k i. scan d k t i)
complete zero t c x i r e s h = flat_complete t c x i r e s h (viewed c x)
complete (suc d) t c x i r e s h = deep_complete t c x i r e s d (complete d t) h (viewed c x)
