-- The tables that hold a name once have room: names below a bound are no more than the bound.
-- Assumes nothing.
use mathlib.Core.Path.{◌≡◌, refl, sym, ◌∙◌, ap}
use mathlib.Core.Bool.{Bool, true, false, true≢false}
use mathlib.Core.Logic.{◌⊎◌, inl, inr}
use mathlib.Core.List.Memᴰ
use mathlib.Core.List.{List, [], ◌∷◌, ◌++◌}
use Prim.Native.Nat.{ℕ, zero, suc, ◌≤◌, ◌<◌}
use native.Mathlib.Omega.{arith}
use native.Mathlib.Decide.{ℕ_discrete}
use lib.ListN.{length}
use lib.Dec.{eqb}
use borrow.Author.Tests.{eq-eqb}
use Rattle.spec.specs.DepthFirst.{among}
use Rattle.spec.specs.Graph.{◌∈◌, Once}
use Rattle.spec.proofs.Numbers.{if_case}
use Rattle.spec.proofs.Lists.{once_length}
use Rattle.walk.specs.Walk.{add_new, add_all}

-- the numbers below n
countdown : ℕ → List ℕ
countdown zero = []
countdown (suc n) = n ∷ countdown n

in_countdown : (n m : ℕ) → m < n → m ∈ countdown n
unfolding countdown
in_countdown zero m h = absurd (omega arith)
in_countdown (suc n) m h = go (ℕ_discrete m n) (in_countdown n m)
  where
    go : Dec (m ≡ n) → (m < n → m ∈ countdown n) → m ∈ (n ∷ countdown n)
    go (yes e) f = Memᴰ.head e
    go (no d) f = Memᴰ.tail (f (omega arith))

length_countdown : (n : ℕ) → length (countdown n) ≡ n
unfolding countdown
length_countdown zero = refl
length_countdown (suc n) = ap suc (length_countdown n)

module _ {A : Type 0} (key : A → ℕ) where
  -- the names of entries
  unfoldable pub keys : List A → List ℕ
  keys [] = []
  keys (a ∷ l) = key a ∷ keys l

  abbrev same_key : A → A → Bool
  same_key a b = eqb (key a) (key b)

  keys_length : (l : List A) → length (keys l) ≡ length l
  unfolding keys
  keys_length [] = refl
  keys_length (a ∷ l) = ap suc (keys_length l)

  -- a name at the end of names that lack it
  keys_end : (a : A) (l : List A) → Once (keys l) → ¬ (key a ∈ keys l) → Once (keys (l ++ (a ∷ [])))
  unfolding keys
  keys_end a [] o h = (Memᴰ.not-nil, tt)
  keys_end a (b ∷ l) o h = (λ m. go l o.0 (λ e. h (Memᴰ.head (sym e))) m, keys_end a l o.1 (λ m. h (Memᴰ.tail m)))
    where
      go : (l : List A) → ¬ (key b ∈ keys l) → ¬ (key b ≡ key a) → key b ∈ keys (l ++ (a ∷ [])) → ⊥
      go [] p q m = one (Memᴰ.cases_cons m)
        where
          one : (key b ≡ key a) ⊎ (key b ∈ []) → ⊥
          one (inl e) = q e
          one (inr j) = Memᴰ.not-nil j
      go (c ∷ l) p q m = two (Memᴰ.cases_cons m) (go l (λ i. p (Memᴰ.tail i)) q)
        where
          two : (key b ≡ key c) ⊎ (key b ∈ keys (l ++ (a ∷ []))) → (key b ∈ keys (l ++ (a ∷ [])) → ⊥) → ⊥
          two (inl e) f = p (Memᴰ.head e)
          two (inr j) f = f j

  not_among : (a : A) (l : List A) → among same_key a l ≡ false → ¬ (key a ∈ keys l)
  unfolding among keys
  not_among a [] e m = Memᴰ.not-nil m
  not_among a (b ∷ l) e m = go (eqb (key a) (key b)) refl e (Memᴰ.cases_cons m) (not_among a l)
    where
      go : (v : Bool) → eqb (key a) (key b) ≡ v → elim v as (λ _. Bool) [ true ↦ true | false ↦ among same_key a l ] ≡ false
          → (key a ≡ key b) ⊎ (key a ∈ keys l) → (among same_key a l ≡ false → ¬ (key a ∈ keys l)) → ⊥
      go true q e c f = true≢false e
      go false q e (inl d) f = true≢false (sym (eq-eqb (key a) (key b) d) ∙ q)
      go false q e (inr i) f = f e i

  -- a table holds each name once
  pub adds_keys : (xs l : List A) → Once (keys l) → Once (keys (add_all same_key xs l))
  unfolding add_all add_new
  adds_keys [] l o = o
  adds_keys (x ∷ xs) l o =
      adds_keys xs (elim (among same_key x l) as (λ _. List A) [ true ↦ l | false ↦ l ++ (x ∷ []) ])
      (if_case (λ (k : List A). Once (keys k)) (among same_key x l) l (l ++ (x ∷ [])) (λ e. o) (λ e. keys_end x l o (not_among x l e)))

  -- and so no more than there are names
  pub few_keys : (bound : ℕ) (l : List A) → Once (keys l) → ((n : ℕ) → n ∈ keys l → n < bound) → length l ≤ bound
  few_keys bound l o h =
      let p = once_length (keys l) (countdown bound) o (λ n i. in_countdown bound n (h n i)) in
      omega (arith, keys_length l, length_countdown bound)
