-- Walks of a graph: what goes along them, walks of other graphs, reached nodes, and orders.
-- Assumes nothing.
use mathlib.Core.Path.{◌≡◌, refl, sym, subst, subst⁻¹}
use mathlib.Core.List.Memᴰ
use mathlib.Core.List.{List, [], ◌∷◌, ◌++◌}
use Rattle.spec.specs.Graph.{◌∈◌, Chain, last, ClosedWalk}
use Rattle.spec.specs.DepthFirstFinds.{Reached, Topological}

-- a walk of one graph is one of another that has its steps
pub chain_along : {A : Type 0} (f g : A → List A) → ((n m : A) → m ∈ f n → m ∈ g n) → (n : A) (l : List A) → Chain f n l → Chain g n l
chain_along f g h n [] c = tt
chain_along f g h n (m ∷ l) c = (h n m c.0, chain_along f g h m l c.1)

pub closed_along : {A : Type 0} (f g : A → List A) → ((n m : A) → m ∈ f n → m ∈ g n) → (w : List A) → ClosedWalk f w → ClosedWalk g w
closed_along f g h [] c = c
closed_along f g h (n ∷ []) c = c
closed_along f g h (n ∷ m ∷ l) c = (chain_along f g h n (m ∷ l) c.0, c.1)

-- an order stays one where there are fewer steps
pub fewer_steps : {A : Type 0} (f g : A → List A) → ((n m : A) → m ∈ g n → m ∈ f n) → (l : List A) → Topological f l → Topological g l
fewer_steps f g h [] o = tt
fewer_steps f g h (n ∷ l) o = (λ m i. o.0 m (h n m i), fewer_steps f g h l o.1)

-- walks along next
module _ {A : Type 0} (next : A → List A) where
  -- what goes along a step goes along a walk, from any of its nodes to the last
  pub along : (Q : A → Type 0) → ((a b : A) → Q a → b ∈ next a → Q b) → (s : A) (w : List A) → Chain next s w → Q s → Q (last s w)
  along Q f s [] c q = q
  along Q f s (t ∷ w) c q = along Q f t w c.1 (f s t q c.0)

  along_from : (Q : A → Type 0) → ((a b : A) → Q a → b ∈ next a → Q b) → (n : A) → (s : A) (w : List A) → Chain next s w → n ∈ (s ∷ w) → Q n → Q (last s w)
  along_from Q f n s w c (Memᴰ.head e) q = along Q f s w c (subst Q e q)
  along_from Q f n s [] c (Memᴰ.tail m) q = absurd (Memᴰ.not-nil m)
  along_from Q f n s (t ∷ w) c (Memᴰ.tail m) q = along_from Q f n t w c.1 m q

  chain_more : (s : A) (w : List A) (m : A) → Chain next s w → m ∈ next (last s w) → Chain next s (w ++ (m ∷ [])) × (last s (w ++ (m ∷ [])) ≡ m)
  chain_more s [] m c i = ((i, tt), refl)
  chain_more s (t ∷ w) m c i = let r = chain_more t w m c.1 i in ((c.0, r.0), r.1)

  pub reached_root : {roots : List A} {r : A} → r ∈ roots → Reached next roots r
  reached_root {r = r} i = (r, [], i, tt, refl)

  pub reached_next : {roots : List A} {n m : A} → Reached next roots n → m ∈ next n → Reached next roots m
  reached_next {m = m} (r, l, i, c, e) h = let k = chain_more r l m c (subst⁻¹ (λ z. m ∈ next z) e h) in (r, l ++ (m ∷ []), i, k.0, k.1)

  -- an order rules out closed walks through its nodes
  order_next : (l : List A) → Topological next l → (s r : A) → s ∈ l → r ∈ next s → r ∈ l
  order_next [] p s r m h = absurd (Memᴰ.not-nil m)
  order_next (a ∷ l) p s r (Memᴰ.head e) h = Memᴰ.tail (p.0 r (subst (λ z. r ∈ next z) e h))
  order_next (a ∷ l) p s r (Memᴰ.tail m) h = Memᴰ.tail (order_next l p.1 s r m h)

  no_return : (l : List A) → Topological next l → (s t : A) (w : List A) → s ∈ l → Chain next s (t ∷ w) → ¬ (last t w ≡ s)
  no_return [] p s t w m c e = Memᴰ.not-nil m
  no_return (a ∷ l) p s t w (Memᴰ.tail m) c e = no_return l p.1 s t w m c e
  no_return (a ∷ l) p s t w (Memᴰ.head d) c e =
      let back = along (λ z. z ∈ l) (λ x y. order_next l p.1 x y) t w c.1 (p.0 t (subst (λ z. t ∈ next z) d c.0)) in
      no_return l p.1 s t w (Memᴰ.cast (sym e) back) c e

  pub order_no_loop : (l : List A) → Topological next l → (w : List A) (n : A) → ClosedWalk next w → n ∈ w → ¬ (n ∈ l)
  order_no_loop l p [] n c m i = c
  order_no_loop l p (s ∷ []) n c m i = c
  order_no_loop l p (s ∷ t ∷ w) n c m i =
      let start = along_from (λ z. z ∈ l) (λ x y. order_next l p x y) n s (t ∷ w) c.0 m i in
      no_return l p s t w (Memᴰ.cast (sym c.1) start) c.0 c.1
