-- A graph with a closed walk does not come to rest: where each signal of the walk takes the value of the next, and all others are false,
-- false everywhere rests, and so does true along the walk.
-- Assumes nothing.
use mathlib.Core.Path.{◌≡◌, refl, sym, ◌∙◌, ap, subst⁻¹}
use mathlib.Core.Bool.{Bool, true, false, false≢true}
use mathlib.Core.Logic.{◌⊎◌, inl, inr}
use mathlib.Core.List.Memᴰ
use mathlib.Core.List.{List, [], ◌∷◌}
use mathlib.Core.Option.{Option, some, none}
use Rattle.spec.specs.Graph.{Graph, ◌∈◌, Chain, last, Closed}
use Rattle.spec.specs.Net.{Net, State, Rests, ComesToRest, RestExactly}
use Rattle.spec.proofs.Net.{comes_to_rest}

-- what a signal reads next on a walk
module _ (G : Graph) where
  abbrev Next : G.Signal → Type 0
  Next s = Option ((r : G.Signal) × (r ∈ G.reads s))

  next_of : (n : G.Signal) (l : List G.Signal) → Chain G.reads n l → (s : G.Signal) → Next s
  next_of n [] c s = none
  next_of n (m ∷ l) c s = elim (G.same s n) [ yes e ↦ some (m, subst⁻¹ (λ z. m ∈ G.reads z) e c.0) | no d ↦ next_of m l c.1 s ]

  abbrev goes_on : (s : G.Signal) → Next s → Bool
  goes_on s none = false
  goes_on s (some r) = true

  abbrev Leads : (G.Signal → Type 0) → (s : G.Signal) → Next s → Type 0
  Leads Q s none = Unit {0}
  Leads Q s (some r) = Q r.0

  first_goes : (n m : G.Signal) (l : List G.Signal) (c : Chain G.reads n (m ∷ l)) → goes_on n (next_of n (m ∷ l) c n) ≡ true
  unfolding next_of
  first_goes n m l c = go (G.same n n)
    where
      go : (d : Dec (n ≡ n)) → goes_on n (elim d as (λ z. Next n) [ yes e ↦ some (m, subst⁻¹ (λ z. m ∈ G.reads z) e c.0) | no d ↦ next_of m l c.1 n ]) ≡ true
      go (yes e) = refl
      go (no d) = absurd (d refl)

  -- a signal of a walk goes on, or is its last
  on_walk : (n : G.Signal) (l : List G.Signal) (c : Chain G.reads n l) (s : G.Signal) → s ∈ (n ∷ l) → (goes_on s (next_of n l c s) ≡ true) ⊎ (s ≡ last n l)
  unfolding next_of
  on_walk n [] c s i = go (Memᴰ.cases_cons i)
    where
      go : (s ≡ n) ⊎ (s ∈ []) → (goes_on s (next_of n [] c s) ≡ true) ⊎ (s ≡ n)
      go (inl e) = inr e
      go (inr j) = absurd (Memᴰ.not-nil j)
  on_walk n (m ∷ l) c s i = go (G.same s n) (Memᴰ.cases_cons i) (on_walk m l c.1 s)
    where
      go : (d : Dec (s ≡ n)) → (s ≡ n) ⊎ (s ∈ (m ∷ l)) → (s ∈ (m ∷ l) → (goes_on s (next_of m l c.1 s) ≡ true) ⊎ (s ≡ last m l))
          → (goes_on s (elim d as (λ z. Next s) [ yes e ↦ some (m, subst⁻¹ (λ z. m ∈ G.reads z) e c.0) | no d ↦ next_of m l c.1 s ]) ≡ true) ⊎ (s ≡ last m l)
      go (yes e) j h = inl refl
      go (no d) (inl e) h = absurd (d e)
      go (no d) (inr j) h = h j

  -- what holds of all that come later on the walk holds of the next
  leads : (Q : G.Signal → Type 0) (n : G.Signal) (l : List G.Signal) (c : Chain G.reads n l) (s : G.Signal) → ((a : G.Signal) → a ∈ l → Q a) → Leads Q s (next_of n l c s)
  unfolding next_of
  leads Q n [] c s h = tt
  leads Q n (m ∷ l) c s h = go (G.same s n) (leads Q m l c.1 s (λ a i. h a (Memᴰ.tail i)))
    where
      go : (d : Dec (s ≡ n)) → Leads Q s (next_of m l c.1 s) → Leads Q s (elim d as (λ z. Next s) [ yes e ↦ some (m, subst⁻¹ (λ z. m ∈ G.reads z) e c.0) | no d ↦ next_of m l c.1 s ])
      go (yes e) k = h m (Memᴰ.head refl)
      go (no d) k = k

  abbrev take_next : (s : G.Signal) → Next s → ((r : G.Signal) → r ∈ G.reads s → Bool) → Bool
  take_next s none f = false
  take_next s (some r) f = f r.0 r.1

module _ (G : Graph) (w : Closed G) where
  abbrev next : (s : G.Signal) → Next G s
  next s = next_of G w.start (w.second ∷ w.rest) w.walk.0 s

  abbrev along : Net G
  along = record { Value = λ s. Bool; new = λ s f. take_next G s (next s) f }

  abbrev all_false : State along
  all_false s i = false

  abbrev true_along : State along
  true_along s i = goes_on G s (next s)

  all_false_rests : Rests along all_false
  all_false_rests s i = go (next s)
    where
      go : (o : Next G s) → false ≡ take_next G s o (λ r m. false)
      go none = refl
      go (some r) = refl

  on : (s : G.Signal) → s ∈ (w.second ∷ w.rest) → goes_on G s (next s) ≡ true
  on s i = go (on_walk G w.start (w.second ∷ w.rest) w.walk.0 s (Memᴰ.tail i))
    where
      go : (goes_on G s (next s) ≡ true) ⊎ (s ≡ last w.second w.rest) → goes_on G s (next s) ≡ true
      go (inl e) = e
      go (inr e) = ap (λ z. goes_on G z (next z)) (e ∙ w.walk.1) ∙ first_goes G w.start w.second w.rest w.walk.0

  true_along_rests : Rests along true_along
  true_along_rests s i = go (next s) (leads G (λ a. goes_on G a (next a) ≡ true) w.start (w.second ∷ w.rest) w.walk.0 s on)
    where
      go : (o : Next G s) → Leads G (λ a. goes_on G a (next a) ≡ true) s o → goes_on G s o ≡ take_next G s o (λ r m. goes_on G r (next r))
      go none q = refl
      go (some r) q = sym q

  pub restless : ¬ ComesToRest G
  restless h =
      let o = (h along).1.only in
      false≢true
      (o all_false all_false_rests w.start w.listed ∙ sym (o true_along true_along_rests w.start w.listed) ∙ first_goes G w.start w.second w.rest w.walk.0)

-- A graph comes to rest exactly where it has no closed walk.
pub rest_exactly : RestExactly
rest_exactly G = (λ h w. restless G w h, comes_to_rest G)
