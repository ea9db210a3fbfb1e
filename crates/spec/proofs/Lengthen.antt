-- An edge of a key's own graph is a walk of the design opened from it, and so is a closed walk of that graph; and a closed walk of the
-- design opened from a key is one of every design in which that key is opened.
-- Assumes nothing.
use Prim.Native.Nat.{ℕ}
use mathlib.Core.Path.{◌≡◌, refl, sym, ◌∙◌, ap, subst, subst⁻¹}
use mathlib.Core.List.Memᴰ
use mathlib.Core.List.{List, [], ◌∷◌, ◌++◌, map}
use mathlib.Core.Option.{Option}
use lib.IntN.{ℤ}
use Rattle.spec.specs.Edge.{Node, signal, inst_out}
use Rattle.spec.specs.Graph.{◌∈◌, Chain, last, ClosedWalk}
use Rattle.spec.specs.Hierarchy.{Instance, Hierarchy, targets, Leads, WellFormed}
use Rattle.spec.specs.Opened.{Signal, here, under, named, signal_reads, HasClosedWalk, Between, ComesBy, OnClosedWalk}
use Rattle.spec.specs.OwnGraph.{Edge, own, through, stop, step, EdgeChain, EdgeLoop}
use Rattle.spec.proofs.Copies.{At, in_named, of_targets, own_reads, down_reads, up_reads, under_reads}

module _ {A : Type 0} where
  chain_append : (next : A → List A) (s : A) (l k : List A) → Chain next s l → Chain next (last s l) k → Chain next s (l ++ k)
  chain_append next s [] k c e = e
  chain_append next s (t ∷ l) k c e = (c.0, chain_append next t l k c.1 e)

  last_append : (s : A) (l k : List A) → last s (l ++ k) ≡ last (last s l) k
  last_append s [] k = refl
  last_append s (t ∷ l) k = last_append t l k

  -- a walk to t, and one from there
  join : (next : A → List A) (s : A) (b : List A) (t : A) (w : List A) → Chain next s (b ++ t ∷ []) → Chain next t w → Chain next s (b ++ t ∷ w)
  join next s [] t w c d = (c.0, d)
  join next s (u ∷ b) t w c d = (c.0, join next u b t w c.1 d)

  join_last : (s : A) (b : List A) (t : A) (w : List A) → last s (b ++ t ∷ w) ≡ last t w
  join_last s [] t w = refl
  join_last s (u ∷ b) t w = join_last u b t w

  -- that ends where it began
  closes : (next : A → List A) (s : A) (b : List A) (t : A) (w : List A) → Chain next s (b ++ t ∷ w) → last s (b ++ t ∷ w) ≡ s → ClosedWalk next (s ∷ b ++ t ∷ w)
  closes next s [] t w c e = (c, e)
  closes next s (u ∷ b) t w c e = (c, e)

module _ (H : Hierarchy) (L : WellFormed H) where
  -- a walk of a copy, and a step out of it
  lift : (m : H.Key) (k : ℕ) (i : Instance H.Key) (s : Signal) (l : List Signal) (y : Signal) → At H m k i → Chain (signal_reads H i.target) s l → y ∈ signal_reads H m (under k (last s l))
      → Chain (signal_reads H m) (under k s) (map (under k) l ++ y ∷ [])
  lift m k i s [] y a c h = (h, tt)
  lift m k i s (t ∷ l) y a c h = (under_reads H m k i s t a c.0, lift m k i t l y a c.1 h)

  none_between : (m : H.Key) (a : Node) → Between H m a []
  none_between m (signal n) = refl
  none_between m (inst_out j x o) = λ s h. absurd (Memᴰ.not-nil h)

  under_between : (m : H.Key) (j : ℕ) (x : Option ℤ) (o k : ℕ) (l : List Signal) → k ∈ named j x (H.inside m) → Between H m (inst_out j x o) (map (under k) l)
  under_between m j x o k l h = λ s u. let r = Memᴰ.of_map (under k) l u in (k, r.0.0, h, ap (λ (z : Signal). z.0) (sym r.2))

  -- from one node to the next
  abbrev Leg : H.Key → Node → Node → Type 0
  Leg m a b = (between : List Signal) × Chain (signal_reads H m) (here a) (between ++ here b ∷ []) × Between H m a between

  abbrev Opens : H.Key → Node → Node → Type 0
  Opens m a b = (l : List Signal) × Chain (signal_reads H m) (here a) l × (last (here a) l ≡ here b)

  leg_opens : (m : H.Key) (a b : Node) → Leg m a b → Opens m a b
  leg_opens m a b (l, c, h) = (l ++ here b ∷ [], c, last_append (here a) l (here b ∷ []))

  then_opens : (m : H.Key) (a b c : Node) → Opens m a b → Opens m b c → Opens m a c
  then_opens m a b c (l, h, e) (k, g, f) =
      (l ++ k, chain_append (signal_reads H m) (here a) l k h (subst⁻¹ (λ z. Chain (signal_reads H m) z k) e g), last_append (here a) l k ∙ ap (λ z. last z k) e ∙ f)

  through_leg : (m : H.Key) (i : Instance H.Key) (o p : ℕ) (y : Node) → i ∈ H.inside m → here y ∈ signal_reads H m (i.position ∷ [], signal p) → Opens i.target (signal o) (signal p)
      → Leg m (inst_out i.name i.index o) y
  through_leg m i o p y u h (l, c, e) =
      let k = i.position in (
        map (under k) (here (signal o) ∷ l),
        (down_reads H m i o u, lift m k i (here (signal o)) l (here y) (L.placed m i u) c (subst⁻¹ (λ z. here y ∈ signal_reads H m (under k z)) e h)),
        under_between m i.name i.index o k (here (signal o) ∷ l) (in_named u),
      )

  pub edge_leg : (m : H.Key) (a b : Node) → Edge H m a b → Leg m a b
  edge_leg m a b e =
      elim e as (λ m a b e. Leg m a b) (λ m a b w. Opens m a b) [
        | own {m} {n} {x} h ↦ ([], (own_reads H m n h, tt), none_between m n)
        | through {m} {y} i o p u t kind (w → l) h ↦ through_leg m i o p y u (up_reads H m i.position i p (L.placed m i u) kind h) l
        | stop {m} {a} ↦ ([], tt, refl)
        | step {m} {a} {b} {c} (h → g) (w → l) ↦ then_opens m a b c (leg_opens m a b g) l
      ]

  -- and along nodes: the walk that comes by them
  abbrev Along : H.Key → Node → List Node → Type 0
  Along m n l = (w : List Signal) × Chain (signal_reads H m) (here n) w × (last (here n) w ≡ here (last n l)) × ComesBy H m n l w

  edges_along : (m : H.Key) (n : Node) (l : List Node) → EdgeChain H m n l → Along m n l
  edges_along m n [] c = ([], tt, refl, refl)
  edges_along m n (n' ∷ l) c =
      let (b, h, k) = edge_leg m n n' c.0 in
      let (w, d, f, g) = edges_along m n' l c.1 in
      (b ++ here n' ∷ w, join (signal_reads H m) (here n) b (here n') w h d, join_last (here n) b (here n') w ∙ f, (b, w, refl, k, g))

  pub loop_shown : (m : H.Key) (v : List Node) → EdgeLoop H m v → OnClosedWalk H m v
  loop_shown m [] c = c
  loop_shown m (n ∷ []) c = absurd c
  loop_shown m (n ∷ n' ∷ l) (c, e) =
      let (b, h, k) = edge_leg m n n' c.0 in
      let (w, d, f, g) = edges_along m n' l c.1 in (
        b ++ here n' ∷ w,
        closes (signal_reads H m) (here n) b (here n') w (join (signal_reads H m) (here n) b (here n') w h d) (join_last (here n) b (here n') w ∙ f ∙ ap here e),
        (b, w, refl, k, g),
      )

  -- a report's nodes on a closed walk: there is one
  pub shown_closed : (m : H.Key) (v : List Node) → OnClosedWalk H m v → HasClosedWalk H m
  shown_closed m [] c = absurd c
  shown_closed m (n ∷ l) (w, c, g) = (here n ∷ w, c)

  pub module_to_opened : (m : H.Key) (v : List Node) → EdgeLoop H m v → HasClosedWalk H m
  module_to_opened m v c = shown_closed m v (loop_shown m v c)

  -- a closed walk in a copy
  lift_chain : (m : H.Key) (k : ℕ) (i : Instance H.Key) (s : Signal) (l : List Signal) → At H m k i → Chain (signal_reads H i.target) s l → Chain (signal_reads H m) (under k s) (map (under k) l)
  lift_chain m k i s [] a c = tt
  lift_chain m k i s (t ∷ l) a c = (under_reads H m k i s t a c.0, lift_chain m k i t l a c.1)

  lift_last : (k : ℕ) (s : Signal) (l : List Signal) → last (under k s) (map (under k) l) ≡ under k (last s l)
  lift_last k s [] = refl
  lift_last k s (t ∷ l) = lift_last k t l

  loops_inside : (m : H.Key) (i : Instance H.Key) → i ∈ H.inside m → HasClosedWalk H i.target → HasClosedWalk H m
  loops_inside m i u ([], c) = absurd c
  loops_inside m i u (s ∷ [], c) = absurd c
  loops_inside m i u (s ∷ t ∷ l, c) =
      let k = i.position in (
        map (under k) (s ∷ t ∷ l),
        (lift_chain m k i s (t ∷ l) (L.placed m i u) c.0, lift_last k t l ∙ ap (under k) c.1),
      )

  pub loops_leads : (m t : H.Key) → Leads H m t → HasClosedWalk H t → HasClosedWalk H m
  loops_leads m t (l, c, e) w = along m l c e
    where
      along : (m : H.Key) (l : List H.Key) → Chain (targets H) m l → last m l ≡ t → HasClosedWalk H m
      along m [] c e = subst⁻¹ (λ z. HasClosedWalk H z) e w
      along m (k ∷ l) c e =
          let r = of_targets (H.inside m) k c.0 in
          loops_inside m r.0 r.1 (subst (λ z. HasClosedWalk H z) r.2 (along k l c.1 e))
