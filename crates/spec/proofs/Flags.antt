-- Boolean tests taken apart and put together, and names in lists of names.
-- Assumes nothing.
use mathlib.Core.Path.{◌≡◌, refl, sym, ◌∙◌}
use mathlib.Core.Bool.{Bool, true, false, ◌&&◌, ◌||◌, true≢false}
use mathlib.Core.Logic.{◌⊎◌, inl, inr, ◌↔◌}
use mathlib.Core.List.Memᴰ
use mathlib.Core.List.{List, [], ◌∷◌}
use Prim.Native.Nat.{ℕ}
use lib.Dec.{eqb}
use borrow.Author.Tests.{eqb-true, eq-eqb}
use Rattle.spec.specs.Refusal.{has_name}
use Rattle.spec.specs.Graph.{◌∈◌}

pub clash : {b : Bool} → b ≡ true → b ≡ false → ⊥
clash t f = true≢false (sym t ∙ f)

pub which : (b : Bool) → (b ≡ true) ⊎ (b ≡ false)
which true = inl refl
which false = inr refl

pub not_so : (b : Bool) → ¬ (b ≡ true) → b ≡ false
not_so true h = absurd (h refl)
not_so false h = refl

pub or_cases : (a b : Bool) → a || b ≡ true → (a ≡ true) ⊎ (b ≡ true)
or_cases true b e = inl refl
or_cases false b e = inr e

pub or_left : (a b : Bool) → a ≡ true → a || b ≡ true
or_left true b e = refl
or_left false b e = absurd (clash e refl)

pub or_right : (a b : Bool) → b ≡ true → a || b ≡ true
or_right true b e = refl
or_right false b e = e

pub or_neither : (a b : Bool) → a || b ≡ false → (a ≡ false) × (b ≡ false)
or_neither true b e = absurd (clash refl e)
or_neither false b e = (refl, e)

pub and_both : (a b : Bool) → a && b ≡ true → (a ≡ true) × (b ≡ true)
and_both true b e = (refl, e)
and_both false b e = absurd (clash e refl)

pub and_of : (a b : Bool) → a ≡ true → b ≡ true → a && b ≡ true
and_of true b e f = f
and_of false b e f = absurd (clash e refl)

-- a test that says P, or one that says Q, says one of them
pub or_says : {a b : Bool} {P Q : Type 0} → (a ≡ true ↔ P) → (b ≡ true ↔ Q) → (a || b ≡ true ↔ (P ⊎ Q))
or_says {a} {b} {P} {Q} p q = (λ e. up (or_cases a b e), down)
  where
    up : (a ≡ true) ⊎ (b ≡ true) → P ⊎ Q
    up (inl e) = inl (p.0 e)
    up (inr e) = inr (q.0 e)

    down : P ⊎ Q → a || b ≡ true
    down (inl x) = or_left a b (p.1 x)
    down (inr y) = or_right a b (q.1 y)

pub named_in : (n : ℕ) (l : List ℕ) → has_name n l ≡ true → n ∈ l
unfolding has_name
named_in n [] e = absurd (clash e refl)
named_in n (m ∷ l) e = go (or_cases (eqb n m) (has_name n l) e) (named_in n l)
  where
    go : (eqb n m ≡ true) ⊎ (has_name n l ≡ true) → (has_name n l ≡ true → n ∈ l) → n ∈ (m ∷ l)
    go (inl h) on = Memᴰ.head (eqb-true n m h)
    go (inr h) on = Memᴰ.tail (on h)

pub in_named : {n : ℕ} {l : List ℕ} → n ∈ l → has_name n l ≡ true
unfolding has_name
in_named {n} (Memᴰ.head {x = m} {xs = l} e) = or_left (eqb n m) (has_name n l) (eq-eqb n m e)
in_named {n} (Memᴰ.tail {x = m} {xs = l} i) = or_right (eqb n m) (has_name n l) (in_named i)

pub not_named : {n : ℕ} {l : List ℕ} → ¬ (n ∈ l) → has_name n l ≡ false
not_named {n} {l} h = not_so (has_name n l) (λ e. h (named_in n l e))

pub unnamed : {n : ℕ} {l : List ℕ} → has_name n l ≡ false → ¬ (n ∈ l)
unnamed e i = clash (in_named i) e
