-- Keys from which on no module contains itself: so it is of all that they lead to, no module comes a second time along instances, and no
-- chain of instances is longer than there are modules.
-- Assumes nothing.
use Prim.Native.Nat.{ℕ, zero, suc, ◌<◌}
use mathlib.Core.Path.{◌≡◌, refl, sym, ◌∙◌, ap, subst, subst⁻¹}
use mathlib.Core.List.Memᴰ
use mathlib.Core.List.{List, [], ◌∷◌, map}
use native.Mathlib.Omega.{arith}
use native.Mathlib.Decide.{dec_lt}
use lib.ListN.{length}
use Rattle.spec.specs.Graph.{◌∈◌, Once, Chain, last}
use Rattle.spec.specs.Hierarchy.{Hierarchy, targets, Leads, ModuleChain, Acyclic, WellFormed}
use Rattle.spec.proofs.Lists.{once_length}
use Rattle.spec.proofs.Copies.{of_targets}

-- the numbers below n
numbers : ℕ → List ℕ
numbers zero = []
numbers (suc n) = n ∷ numbers n

numbers_length : (n : ℕ) → length (numbers n) ≡ n
unfolding numbers
numbers_length zero = refl
numbers_length (suc n) = ap suc (numbers_length n)

in_numbers : (k n : ℕ) → k < n → k ∈ numbers n
unfolding numbers
in_numbers k zero h = absurd (omega arith)
in_numbers k (suc n) h = pick (λ u. in_numbers k n u) (dec_lt k n)
  where
    pick : (k < n → k ∈ numbers n) → Dec (k < n) → k ∈ (n ∷ numbers n)
    pick on (yes u) = Memᴰ.tail (on u)
    pick on (no u) = let e : k ≡ n = omega arith in Memᴰ.head e

-- so many different numbers, all below n
pub once_below : (l : List ℕ) (n : ℕ) → Once l → ((k : ℕ) → k ∈ l → k < n) → length l < suc n
once_below l n o h = let r = once_length l (numbers n) o (λ k u. in_numbers k n (h k u)) in omega (arith, r, numbers_length n)

map_length : {A B : Type 0} (f : A → B) (l : List A) → length (map f l) ≡ length l
map_length f [] = refl
map_length f (a ∷ l) = ap suc (map_length f l)

module _ (H : Hierarchy) where
  pub module_chain : (m : H.Key) (l : List H.Key) → Chain (targets H) m l → ModuleChain H m l
  module_chain m [] c = tt
  module_chain m (t ∷ l) c = ((m, refl, c.0), module_chain t l c.1)

  pub acyclic_step : (m t : H.Key) → t ∈ targets H m → Acyclic H m → Acyclic H t
  acyclic_step m t u f l c = f (t ∷ l) ((m, refl, u), c)

  pub acyclic_leads : (m t : H.Key) → Leads H m t → Acyclic H m → Acyclic H t
  acyclic_leads m t (l, c, e) = along m l c e
    where
      along : (m : H.Key) (l : List H.Key) → Chain (targets H) m l → last m l ≡ t → Acyclic H m → Acyclic H t
      along m [] c e f = subst (λ z. Acyclic H z) e f
      along m (k ∷ l) c e f = along k l c.1 e (acyclic_step m k c.0 f)

  -- what a key of m's module opens does not lead back to that module
  pub acyclic_apart : (m b k t : H.Key) → Acyclic H m → H.module_at b ≡ H.module_at m → k ∈ targets H b → Leads H k t → ¬ (H.module_at t ≡ H.module_at m)
  acyclic_apart m b k t f same u (l, c, e) q = f [] tt (k, l, ((b, same, u), module_chain k l c), ap H.module_at e ∙ q)

  -- the part of a chain up to a key of a module
  module_upto : (n : ℕ) (m : H.Key) (l : List H.Key) → ModuleChain H m l → n ∈ map H.module_at l
      → (t : H.Key) × (k : List H.Key) × ModuleChain H m (t ∷ k) × (H.module_at (last t k) ≡ n)
  module_upto n m [] c i = absurd (Memᴰ.not-nil i)
  module_upto n m (t ∷ l) c (Memᴰ.head e) = (t, [], (c.0, tt), sym e)
  module_upto n m (t ∷ l) c (Memᴰ.tail i) = let w = module_upto n t l c.1 i in (t, w.0 ∷ w.1, (c.0, w.2), w.3)

  -- no module comes a second time
  once_along : (m : H.Key) → Acyclic H m → (l : List H.Key) → ModuleChain H m l → Once (map H.module_at (m ∷ l))
  once_along m f [] c = (Memᴰ.not-nil, tt)
  once_along m f (t ∷ l) c = (
    λ i. let w = module_upto (H.module_at m) m (t ∷ l) c i in f [] tt (w.0, w.1, w.2, w.3),
    once_along t (λ k d. f (t ∷ k) (c.0, d)) l c.1,
  )

  module _ (L : WellFormed H) where
    chain_below : (m : H.Key) (l : List H.Key) → Chain (targets H) m l → (n : ℕ) → n ∈ map H.module_at l → n < H.modules
    chain_below m [] c n h = absurd (Memᴰ.not-nil h)
    chain_below m (t ∷ l) c n (Memᴰ.head e) = let r = of_targets (H.inside m) t c.0 in subst⁻¹ (λ z. z < H.modules) (e ∙ ap H.module_at r.2) (L.below m r.0 r.1)
    chain_below m (t ∷ l) c n (Memᴰ.tail h) = chain_below t l c.1 n h

    -- no chain is longer than there are modules, nor as long from a key whose module is numbered
    pub acyclic_short : (m : H.Key) → Acyclic H m → (l : List H.Key) → Chain (targets H) m l → length l < suc H.modules
    acyclic_short m f l c =
        let r = once_below (map H.module_at l) H.modules (once_along m f l (module_chain m l c)).1 (chain_below m l c) in
        omega (arith, r, map_length H.module_at l)

    pub acyclic_shorter : (m : H.Key) → Acyclic H m → H.module_at m < H.modules → (l : List H.Key) → Chain (targets H) m l → length l < H.modules
    acyclic_shorter m f b l c =
        let r = once_below (map H.module_at (m ∷ l)) H.modules (once_along m f l (module_chain m l c)) below in
        omega (arith, r, map_length H.module_at l)
      where
        below : (n : ℕ) → n ∈ map H.module_at (m ∷ l) → n < H.modules
        below n (Memᴰ.head e) = subst⁻¹ (λ z. z < H.modules) e b
        below n (Memᴰ.tail h) = chain_below m l c n h
