-- Lists: membership decided and searched, a list with one place left out, lists with no member twice.
-- Assumes nothing.
use Prim.Native.Nat.{suc, ◌≤◌}
use mathlib.Core.Path.{◌≡◌, refl, sym, ◌∙◌, ap, subst, subst⁻¹}
use mathlib.Core.Bool.{Bool, true, false, true≢false, false≢true}
use mathlib.Core.Logic.{◌⊎◌, inl, inr}
use mathlib.Core.List.Memᴰ
use mathlib.Core.List.{List, [], ◌∷◌, ◌++◌, map}
use mathlib.Core.HLevel.{hedberg}
use lib.ListN.{length}
use native.Mathlib.Omega.{arith}
use Rattle.spec.specs.Graph.{◌∈◌, Once}
use Rattle.spec.specs.DepthFirst.{among}
use Rattle.spec.specs.Opened.{concat_map}

module _ {A : Type 0} where
  -- a list with one place left out
  pub without : {a : A} {l : List A} → a ∈ l → List A
  without (Memᴰ.head {xs = xs} e) = xs
  without (Memᴰ.tail {x = x} m) = x ∷ without m

  pub length_without : {a : A} {l : List A} (m : a ∈ l) → suc (length (without m)) ≡ length l
  unfolding without
  length_without (Memᴰ.head e) = refl
  length_without (Memᴰ.tail m) = ap suc (length_without m)

  pub in_without : {a b : A} {l : List A} (m : a ∈ l) → b ∈ l → ¬ (b ≡ a) → b ∈ without m
  unfolding without
  in_without (Memᴰ.head e) (Memᴰ.head e') d = absurd (d (e' ∙ sym e))
  in_without (Memᴰ.head e) (Memᴰ.tail m') d = m'
  in_without (Memᴰ.tail m) (Memᴰ.head e') d = Memᴰ.head e'
  in_without (Memᴰ.tail m) (Memᴰ.tail m') d = Memᴰ.tail (in_without m m' d)

  -- pigeonhole: what has no member twice and lies within k is no longer than k
  pub once_length : (l k : List A) → Once l → ((a : A) → a ∈ l → a ∈ k) → length l ≤ length k
  once_length [] k o h = omega arith
  once_length (a ∷ l) k o h =
      let i = h a (Memᴰ.head refl) in
      let r = once_length l (without i) o.1 (λ b m. in_without i (h b (Memᴰ.tail m)) (λ e. o.0 (Memᴰ.cast (sym e) m))) in
      omega (arith, length_without i)

  -- where no member stands twice, there is one way to be a member
  pub in_once : ((a b : A) → Dec (a ≡ b)) → {a : A} {l : List A} → Once l → (i j : a ∈ l) → i ≡ j
  in_once same o (Memᴰ.head e) (Memᴰ.head e') = ap Memᴰ.head (hedberg same _ _ e e')
  in_once same o (Memᴰ.head e) (Memᴰ.tail m) = absurd (o.0 (Memᴰ.cast (sym e) m))
  in_once same o (Memᴰ.tail m) (Memᴰ.head e) = absurd (o.0 (Memᴰ.cast (sym e) m))
  in_once same o (Memᴰ.tail m) (Memᴰ.tail m') = ap Memᴰ.tail (in_once same o.1 m m')

  -- decided membership
  dec_cons : {a b : A} {l : List A} → Dec (a ≡ b) → Dec (a ∈ l) → Dec (a ∈ (b ∷ l))
  dec_cons (yes e) d = yes (Memᴰ.head e)
  dec_cons (no n) (yes m) = yes (Memᴰ.tail m)
  dec_cons (no n) (no m) = no (λ h. neither n m (Memᴰ.cases_cons h))
    where
      neither : {a b : A} {l : List A} → ¬ (a ≡ b) → ¬ (a ∈ l) → (a ≡ b) ⊎ (a ∈ l) → ⊥
      neither n m (inl e) = n e
      neither n m (inr h) = m h

  pub dec_in : ((a b : A) → Dec (a ≡ b)) → (a : A) (l : List A) → Dec (a ∈ l)
  dec_in same a [] = no Memᴰ.not-nil
  dec_in same a (b ∷ l) = dec_cons (same a b) (dec_in same a l)

  -- all members have P, or there is a Q
  all_or_cons : {P : A → Type 0} {Q : Type 0} {b : A} {l : List A} → P b ⊎ Q → ((a : A) → a ∈ l → P a) ⊎ Q → ((a : A) → a ∈ (b ∷ l) → P a) ⊎ Q
  all_or_cons (inr q) t = inr q
  all_or_cons (inl p) (inr q) = inr q
  all_or_cons {P} {b} {l} (inl p) (inl f) = inl (λ a m. each a (Memᴰ.cases_cons m))
    where
      each : (a : A) → (a ≡ b) ⊎ (a ∈ l) → P a
      each a (inl e) = subst⁻¹ P e p
      each a (inr m) = f a m

  pub all_or : {P : A → Type 0} {Q : Type 0} (l : List A) → ((a : A) → a ∈ l → P a ⊎ Q) → ((a : A) → a ∈ l → P a) ⊎ Q
  all_or [] h = inl (λ a m. absurd (Memᴰ.not-nil m))
  all_or (b ∷ l) h = all_or_cons (h b (Memᴰ.head refl)) (all_or l (λ a m. h a (Memᴰ.tail m)))

-- lists with no member twice
pub once_append : {A : Type 0} {l k : List A} → Once l → Once k → ((a : A) → a ∈ l → a ∈ k → ⊥) → Once (l ++ k)
once_append {l = []} o p apart = p
once_append {l = a ∷ l} {k = k} o p apart = (λ m. either (Memᴰ.append_cases l m), once_append {l = l} o.1 p (λ b i j. apart b (Memᴰ.tail i) j))
  where
    either : (a ∈ l) ⊎ (a ∈ k) → ⊥
    either (inl i) = o.0 i
    either (inr j) = apart a (Memᴰ.head refl) j

pub once_map : {A B : Type 0} (f : A → B) → ((a b : A) → f a ≡ f b → a ≡ b) → (l : List A) → Once l → Once (map f l)
once_map f inj [] o = tt
once_map f inj (a ∷ l) o = (λ m. let r = Memᴰ.of_map f l m in o.0 (Memᴰ.cast (sym (inj r.0 a r.2)) r.1), once_map f inj l o.1)

module _ {A B : Type 0} (f : A → List B) where
  -- members of what f gives of each member
  pub in_concat : {a : A} {b : B} (l : List A) → a ∈ l → b ∈ f a → b ∈ concat_map f l
  unfolding concat_map
  in_concat {a = a} {b = b} [] x'' h = elim x'' [ ]
  in_concat {b = b} (c ∷ l) (Memᴰ.head e) h = Memᴰ.append_left (concat_map f l) (subst (λ z. b ∈ f z) e h)
  in_concat (c ∷ l) (Memᴰ.tail i) h = Memᴰ.append_right (f c) (in_concat l i h)

  pub of_concat : (b : B) (l : List A) → b ∈ concat_map f l → (a : A) × (a ∈ l) × (b ∈ f a)
  unfolding concat_map
  of_concat b [] h = absurd (Memᴰ.not-nil h)
  of_concat b (a ∷ l) h = pick (of_concat b l) (Memᴰ.append_cases (f a) h)
    where
      pick : (b ∈ concat_map f l → (c : A) × (c ∈ l) × (b ∈ f c)) → (b ∈ f a) ⊎ (b ∈ concat_map f l) → (c : A) × (c ∈ (a ∷ l)) × (b ∈ f c)
      pick on (inl u) = (a, Memᴰ.head refl, u)
      pick on (inr u) = let r = on u in (r.0, Memᴰ.tail r.1, r.2)

module _ {A : Type 0} (same : A → A → Bool) (same_yes : (a b : A) → same a b ≡ true → a ≡ b) (same_refl : (a : A) → same a a ≡ true) where
  -- Boolean membership
  pub among_yes : (a : A) (l : List A) → among same a l ≡ true → a ∈ l
  unfolding among
  among_yes a [] h = absurd (false≢true h)
  among_yes a (b ∷ l) h = go (among_yes a l) (same a b) refl h
    where
      go : (among same a l ≡ true → a ∈ l) → (v : Bool) → same a b ≡ v → elim v as (λ z. Bool) [ true ↦ true | false ↦ among same a l ] ≡ true → a ∈ (b ∷ l)
      go on true e h = Memᴰ.head (same_yes a b e)
      go on false e h = Memᴰ.tail (on h)

  pub differs : {a b : A} → same a b ≡ false → ¬ (a ≡ b)
  differs {a} h e = true≢false (sym (same_refl a) ∙ ap (same a) e ∙ h)

  pub among_no : (a : A) (l : List A) → among same a l ≡ false → ¬ (a ∈ l)
  unfolding among
  among_no a [] h m = Memᴰ.not-nil m
  among_no a (b ∷ l) h m = go (among_no a l) (same a b) refl h (Memᴰ.cases_cons m)
    where
      go : (among same a l ≡ false → ¬ (a ∈ l)) → (v : Bool) → same a b ≡ v → elim v as (λ z. Bool) [ true ↦ true | false ↦ among same a l ] ≡ false → (a ≡ b) ⊎ (a ∈ l) → ⊥
      go on true e h i = true≢false h
      go on false e h (inl d) = differs e d
      go on false e h (inr i) = on h i
