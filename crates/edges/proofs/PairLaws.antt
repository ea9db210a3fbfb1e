-- A summary as pairs of words: one law for each way of `is_pair`, `next_pair`, `has_output` and `reaches`.
-- Assumes nothing.
use mathlib.Core.Path.{◌≡◌, refl, sym, ◌∙◌, ap}
use mathlib.Core.Bool.{Bool, true, false, ◌&&◌, ◌||◌}
use mathlib.Core.List.{List, [], ◌∷◌}
use Prim.Native.Nat.{ℕ, zero, suc, ◌+◌, ◌-◌, ◌≤◌, ◌<◌}
use native.Mathlib.Omega.{arith}
use lib.ListN.{length, drop, get_or, drop_of_length-le}
use lib.Seq.{get_or-drop, drop-drop}
use lib.Dec.{eqb}
use borrow.Author.Tests.{eq-eqb, ne_eqb}
use Rattle.spec.specs.Edge.{Summary, reaches, has_output}
use Rattle.lines.proofs.PartLaws.{past_end}
use Rattle.edges.specs.Lines.{summary_at}
use Rattle.edges.proofs.FieldLaws.{get_or_drop_here}

-- the pairs from a place on are those of what follows it
from_start : (n : ℕ) (w : List ℕ) (p : ℕ) → summary_at w p n ≡ summary_at (drop p w) 0 n
unfolding summary_at
from_start zero w p = refl
from_start (suc n) w p =
    let a : get_or w p 0 ≡ get_or (drop p w) 0 0 = sym (get_or_drop_here w p) in
    let b : get_or w (p + 1) 0 ≡ get_or (drop p w) 1 0 = sym (get_or-drop p w 1 0) in
    let c : summary_at w (p + 2) n ≡ summary_at (drop p w) 2 n =
    from_start n w (p + 2) ∙ ap (λ (l : List ℕ). summary_at l 0 n) (sym (drop-drop 2 p w)) ∙ sym (from_start n (drop p w) 2) in
    λ i. (a i, b i) ∷ c i

same_from : (w : List ℕ) (p q n : ℕ) → drop p w ≡ drop q w → summary_at w p n ≡ summary_at w q n
same_from w p q n e = from_start n w p ∙ ap (λ (l : List ℕ). summary_at l 0 n) e ∙ sym (from_start n w q)

-- the first pair and the others, which begin at q
pair_first : (w : List ℕ) (p left : ℕ) → 0 < left → (q : ℕ) → drop q w ≡ drop (p + 2) w → summary_at w p left ≡ (get_or w p 0, get_or w (p + 1) 0) ∷ summary_at w q (left - 1)
unfolding summary_at
pair_first w p zero l q e = absurd (omega arith)
pair_first w p (suc n) l q e =
    let h : n ≡ suc n - 1 = omega arith in
    ap (λ (s : Summary). (get_or w p 0, get_or w (p + 1) 0) ∷ s) (same_from w (p + 2) q n (sym e) ∙ ap (summary_at w q) h)

-- the same by the word that was found there
pub pair_word : (w : List ℕ) (p left : ℕ) → 0 < left → (q : ℕ) → drop q w ≡ drop (p + 2) w → {o : ℕ} → o ≡ get_or w p 0 → summary_at w p left ≡ (o, get_or w (p + 1) 0) ∷ summary_at w q (left - 1)
pair_word w p left l q e f = pair_first w p left l q e ∙ ap (λ (z : ℕ). (z, get_or w (p + 1) 0) ∷ summary_at w q (left - 1)) (sym f)

pub no_pairs : (w : List ℕ) (p left : ℕ) → left ≤ 0 → summary_at w p left ≡ []
unfolding summary_at
no_pairs w p zero l = refl
no_pairs w p (suc n) l = absurd (omega arith)

-- ---- `next_pair` and `is_pair`

module _ (w : List ℕ) (p : ℕ) where
  pub pair_past : length w ≤ p → drop p w ≡ drop (p + 2) w
  pair_past l = drop_of_length-le w l ∙ sym (drop_of_length-le w {i = p + 2} (omega arith))

  pub pair_end : length w ≤ p + 1 → drop (p + 1) w ≡ drop (p + 2) w
  pair_end l = drop_of_length-le w l ∙ sym (drop_of_length-le w {i = p + 2} (omega arith))

  pub pair_behind : drop (p + 1 + 1) w ≡ drop (p + 2) w
  pair_behind = let h : p + 1 + 1 ≡ p + 2 = omega arith in ap (λ (n : ℕ). drop n w) h

  module _ (o i : ℕ) {v : ℕ} (q : v ≡ get_or w p 0) where
    pub other_pair : (o ≡ v → ⊥) → false ≡ eqb o (get_or w p 0) && eqb i (get_or w (p + 1) 0)
    other_pair f = sym (ap (λ (b : Bool). b && eqb i (get_or w (p + 1) 0)) (ne_eqb o (get_or w p 0) (λ e. f (e ∙ sym q))))

    module _ (e : o ≡ v) where
      pub this_pair : {u : ℕ} → u ≡ get_or w (p + 1) 0 → eqb i u ≡ eqb o (get_or w p 0) && eqb i (get_or w (p + 1) 0)
      this_pair r = ap (eqb i) r ∙ sym (ap (λ (b : Bool). b && eqb i (get_or w (p + 1) 0)) (eq-eqb o (get_or w p 0) (e ∙ q)))

      pub pair_over : length w ≤ p → eqb i 0 ≡ eqb o (get_or w p 0) && eqb i (get_or w (p + 1) 0)
      pair_over l = this_pair (past_end w (p + 1) (omega arith))

-- ---- `has_output` and `reaches`

module _ (w : List ℕ) (p left : ℕ) where
  module _ (o : ℕ) where
    pub output_none : left ≤ 0 → false ≡ has_output o (summary_at w p left)
    unfolding has_output
    output_none l = sym (ap (has_output o) (no_pairs w p left l))

    module _ (l : 0 < left) {v : ℕ} (e : v ≡ get_or w p 0) where
      pub output_here : o ≡ v → true ≡ has_output o (summary_at w p left)
      unfolding has_output
      output_here f =
          sym (ap (has_output o) (pair_first w p left l (p + 2) refl) ∙ ap (λ (b : Bool). b || has_output o (summary_at w (p + 2) (left - 1))) (eq-eqb o (get_or w p 0) (f ∙ e)))

      pub output_behind : (o ≡ v → ⊥) → (q : ℕ) → drop q w ≡ drop (p + 2) w → has_output o (summary_at w q (left - 1)) ≡ has_output o (summary_at w p left)
      unfolding has_output
      output_behind f q h =
          sym (ap (has_output o) (pair_first w p left l q h) ∙ ap (λ (b : Bool). b || has_output o (summary_at w q (left - 1))) (ne_eqb o (get_or w p 0) (λ z. f (z ∙ sym e))))

  module _ (o i : ℕ) where
    pub reach_none : left ≤ 0 → false ≡ reaches o i (summary_at w p left)
    unfolding reaches
    reach_none l = sym (ap (reaches o i) (no_pairs w p left l))

    module _ (l : 0 < left) {b : Bool} (e : b ≡ eqb o (get_or w p 0) && eqb i (get_or w (p + 1) 0)) where
      pub reach_here : b ≡ true → true ≡ reaches o i (summary_at w p left)
      unfolding reaches
      reach_here f =
          sym (ap (reaches o i) (pair_first w p left l (p + 2) refl) ∙ ap (λ (b : Bool). b || reaches o i (summary_at w (p + 2) (left - 1))) (sym e ∙ f))

      pub reach_behind : b ≡ false → (q : ℕ) → drop q w ≡ drop (p + 2) w → reaches o i (summary_at w q (left - 1)) ≡ reaches o i (summary_at w p left)
      unfolding reaches
      reach_behind f q h =
          sym (ap (reaches o i) (pair_first w p left l q h) ∙ ap (λ (b : Bool). b || reaches o i (summary_at w q (left - 1))) (sym e ∙ f))
