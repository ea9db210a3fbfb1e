-- What `scan` takes for a part is one: the bytes from there on begin with those that show a tree of the category.
-- Assumes nothing.
use mathlib.Core.Path.{◌≡◌, refl, sym, ap, ap₂, ◌∙◌}
use mathlib.Core.Bool.{Bool, true, ◌&&◌, and-true, and_assoc}
use mathlib.Core.List.{◌∷◌, ◌++◌, append_assoc}
use Prim.Native.Nat.{ℕ, zero, suc, ◌+◌, ◌≤◌}
use native.Mathlib.Omega.{arith}
use lib.Dec.{eqb}
use lib.ListN.{length, get_or, drop}
use borrow.Author.Tests.{eqb-true}
use Rattle.spec.specs.Bytes.{Bytes, show_rest, show_form}
use Rattle.std.specs.Prelude.{Option, Some, None}
use Rattle.lines.specs.Parse.{good, word_at, shape, shift, parts_at, form_at, scan}
use Rattle.lines.specs.declared.parse.Cat.{Cat}
use Rattle.lines.specs.declared.parse.Shape.{Shape}
use Rattle.lines.specs.declared.parse.Parsed.{Parsed}
use Rattle.lines.proofs.Laws.{if_case}
use Rattle.lines.proofs.Trees.{show, Done, Walk, shows, all_range, all_depth}
use Rattle.lines.proofs.Spelled.{at_cons, word_read, word_is}
use Rattle.lines.proofs.Built.{built}
use Rattle.lines.proofs.Atoms.{Found, bad_not, good_inj, atom_sound}

-- the parts of a form from i to j
pub record Walked (d : ℕ) (t : Bytes) (q : Shape) (i j : ℕ) (r₀ r : Bool) : Type 0 where
  pub count : ℕ
  pub walk : Walk count q
  pub span : drop i t ≡ show_rest (shows count q walk) ++ drop j t
  pub ranged : r₀ && all_range count q walk ≡ r
  pub deep : all_depth count q walk ≤ d

done_of : (n : ℕ) → n ≡ 0 → Done n
done_of zero e = record {}
done_of (suc n) e = absurd (omega arith)

abbrev Finds : ℕ → Bytes → (Cat → ℕ → Option Parsed) → Type 0
Finds d t f = (c : Cat) (i j : ℕ) (r : Bool) → f c i ≡ good j r → Found d c t i j r

module _ (d : ℕ) (t : Bytes) (f : Cat → ℕ → Option Parsed) (finds : Finds d t f) where
  parts_sound : (left : ℕ) (q : Shape) (i j : ℕ) (r₀ r : Bool) → parts_at f left t q i r₀ ≡ good j r → Walked d t q i j r₀ r
  unfolding parts_at show_rest
  parts_sound zero q i j r₀ r = λ e. absurd (bad_not e)
  parts_sound (suc left) q i j r₀ r =
      if_case (λ z. z ≡ good j r → Walked d t q i j r₀ r) (eqb (get_or t i 0) 41) _ _
      (λ c. if_case (λ z. z ≡ good j r → Walked d t q i j r₀ r) (eqb q.need 0) _ _
      (λ n e. let g = good_inj e in record {
        count = 0;
        walk = done_of q.need (eqb-true q.need 0 n);
        span = at_cons t i 41 (eqb-true (get_or t i 0) 41 c) (λ z. omega arith) ∙ ap (λ (k : ℕ). 41 ∷ drop k t) g.0;
        ranged = and-true r₀ ∙ g.1;
        deep = omega arith;
      }) (λ n e. absurd (bad_not e)))
      (λ c. if_case (λ z. z ≡ good j r → Walked d t q i j r₀ r) (eqb (get_or t i 0) 32) _ _
      (λ s. go s (f q.a (i + 1)) refl (λ k a. parts_sound left (shift q) k j (r₀ && a) r)) (λ s e. absurd (bad_not e)))
    where
      go : eqb (get_or t i 0) 32 ≡ true → (x : Option Parsed) → f q.a (i + 1) ≡ x
          → ((k : ℕ) (a : Bool) → parts_at f left t (shift q) k (r₀ && a) ≡ good j r → Walked d t (shift q) k j (r₀ && a) r)
          → (elim x as (λ _. Option Parsed) [ None ↦ None | Some p ↦ parts_at f left t (shift q) p.next (r₀ && p.range) ]) ≡ good j r → Walked d t q i j r₀ r
      go s None h rec e = absurd (bad_not e)
      go s (Some p) h rec e =
          let x = finds q.a (i + 1) p.next p.range h in
          let w = rec p.next p.range e in
          let m = x.deep in
          let n = w.deep in
          record {
            count = suc w.count;
            walk = (x.tree, w.walk);
            span =
                at_cons t i 32 (eqb-true (get_or t i 0) 32 s) (λ z. omega arith)
                ∙ ap (◌∷◌ 32) (x.span ∙ ap (λ (z : Bytes). show q.a x.tree ++ z) w.span ∙ sym (append_assoc (show q.a x.tree) (show_rest (shows w.count (shift q) w.walk)) (drop j t)));
            ranged = ap (λ (z : Bool). r₀ && (z && all_range w.count (shift q) w.walk)) x.ranged ∙ sym (and_assoc r₀ p.range (all_range w.count (shift q) w.walk)) ∙ w.ranged;
            deep = omega arith;
          }

form_sound : (d : ℕ) (t : Bytes) (f : Cat → ℕ → Option Parsed) → Finds d t f → (c : Cat) (i j : ℕ) (r : Bool) → get_or t i 0 ≡ 40 → form_at f c t i ≡ good j r → Found (suc d) c t i j r
unfolding form_at word_at show_form
form_sound d t f finds c i j r o e =
    let w = word_at t (i + 1) in
    let q = shape c w.key in
    let x = word_read 8 t (i + 1) 0 0 in
    let y = parts_sound d t f finds (length t) q w.next j true r e in
    let b = built c w.key y.count y.walk in
    let s = word_is t (i + 1) x b.word b.fine b.keyed in
    let m = y.deep in
    let n = b.made.deep in
    record {
      tree = b.tree;
      span =
          at_cons t i 40 o (λ z. omega arith) ∙ ap (◌∷◌ 40) (x.span ∙ ap₂ ◌++◌ s y.span ∙ sym (append_assoc b.word (show_rest (shows y.count q y.walk)) (drop j t)))
          ∙ ap (λ (z : Bytes). z ++ drop j t) (sym b.made.shown);
      ranged = b.made.ranged ∙ y.ranged;
      deep = omega arith;
    }

pub sound : (d : ℕ) (t : Bytes) (c : Cat) (i j : ℕ) (r : Bool) → scan d c t i ≡ good j r → Found d c t i j r
unfolding scan
sound zero t c i j r =
    if_case (λ z. z ≡ good j r → Found 0 c t i j r) (eqb (get_or t i 0) 40) _ _ (λ o e. absurd (bad_not e)) (λ o e. atom_sound c t i j r e)
sound (suc d) t c i j r =
    if_case (λ z. z ≡ good j r → Found (suc d) c t i j r) (eqb (get_or t i 0) 40) _ _
    (λ o e. form_sound d t (λ k i. scan d k t i) (λ c i j r. sound d t c i j r) c i j r (eqb-true (get_or t i 0) 40 o) e)
    (λ o e. let x = atom_sound c t i j r e in let m = x.deep in record { tree = x.tree; span = x.span; ranged = x.ranged; deep = omega arith })
