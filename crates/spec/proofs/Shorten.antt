-- A closed walk of the design opened from a key shortens to a closed walk of the own graph of a key that it leads to.
-- Assumes nothing.
use Prim.Native.Nat.{ℕ}
use mathlib.Core.Path.{◌≡◌, refl, sym, ◌∙◌, ap, subst, subst⁻¹}
use mathlib.Core.Logic.{◌⊎◌, inl, inr}
use mathlib.Core.List.{List, [], ◌∷◌, tail, head_d}
use mathlib.Core.Option.{some}
use native.Mathlib.Omega.{arith}
use Rattle.spec.specs.Syntax.{in_kind}
use Rattle.spec.specs.Edge.{Node, signal, inst_out}
use Rattle.spec.specs.Graph.{◌∈◌, Chain, last, ClosedWalk}
use Rattle.spec.specs.Hierarchy.{Instance, Hierarchy, WellFormed, ReadAt, From, OutputsArePorts}
use Rattle.spec.specs.Opened.{Copy, Signal, connections_to, signal_reads}
use Rattle.spec.specs.OwnGraph.{Edge, Walks, own, through, stop, step, EdgeChain, LoopFrom}
use Rattle.spec.proofs.Copies.{signal_is_no_out, At, at_one, at_in, leads_here, leads_inside, from_inside, read_own, read_fed, Down, Up, Read, reads_read}

-- walks to c, by any relation
data Star {A : Type 0} (R : A → A → Type 0) (c : A) : A → Type 0 where
  done : {a : A} → a ≡ c → Star R c a
  go_to : {a b : A} → R a b → Star R c b → Star R c a

abbrev Plus : {A : Type 0} (R : A → A → Type 0) → A → A → Type 0
Plus {A} R c a = (b : A) × R a b × Star R c b

join : {A : Type 0} {R : A → A → Type 0} {b a c : A} → Star R b a → Star R c b → Star R c a
join {R = R} {c = c} (done e) w = subst⁻¹ (λ z. Star R c z) e w
join (go_to h v) w = go_to h (join v w)

no_copy : {k : ℕ} {p : Copy} {n x : Node} → ◌≡◌ {A = Signal} (k ∷ p, n) ([], x) → ⊥
no_copy {k} {p} e = let r : ◌≡◌ {A = List ℕ} (k ∷ p) [] = ap (λ z. z.0) e in let z : ◌≡◌ {A = ℕ} 0 1 = cc in omega arith

module _ (H : Hierarchy) where
  -- what the premise on outputs says of a node that is read
  abbrev Known : H.Key → Copy → Node → Type 0
  Known m [] n = (i : Instance H.Key) (o : ℕ) → i ∈ H.inside m → n ≡ inst_out i.name i.index o → o ∈ H.outs i.target
  Known m (k ∷ p) n = (i : Instance H.Key) → At H m k i → Known i.target p n

  abbrev Step : H.Key → Signal → Signal → Type 0
  Step m s t = Known m s.0 s.1 × Read H m s.0 s.1 t.0 t.1

  -- what is known of a walk from (p, n) to the own node b: through each copy on the way up, the input that it leaves by
  abbrev Out : H.Key → Node → Copy → Node → Type 0
  Out m b [] n = Walks H m n b
  Out m b (k ∷ p) n =
      (i : Instance H.Key) × (q : ℕ) × (y : Node) × At H m k i × (H.kind i.target q ≡ some in_kind)
      × (y ∈ connections_to q i.connections) × Out i.target (signal q) p n × Walks H m y b

  abbrev Onward : H.Key → Node → Node → Type 0
  Onward m b n = (y : Node) × Edge H m n y × Walks H m y b

  first_down : (m : H.Key) (b : Node) (k : ℕ) (n x : Node) → Known m [] n → Down H m k n x → Out m b (k ∷ []) x → Onward m b n
  first_down m b k n x known (i, o, a, e, s) (i', q, y, a', kind, h, w, v) =
      let same : i' ≡ i = at_one H m k a' a in
      let kind' = subst (λ z. H.kind z.target q ≡ some in_kind) same kind in
      let h' = subst (λ z. y ∈ connections_to q z.connections) same h in
      let w' : Walks H i.target x (signal q) = subst (λ z. Walks H z.target x (signal q)) same w in
      let w'' : Walks H i.target (signal o) (signal q) = subst (λ z. Walks H i.target z (signal q)) s w' in
      let edge : Edge H m (inst_out i.name i.index o) y = through i o q (at_in H m k a) (known i o (at_in H m k a) e) kind' w'' h' in
      (y, subst⁻¹ (λ z. Edge H m z y) e edge, v)

  first : (m : H.Key) (b n : Node) (q : Copy) (x : Node) → Known m [] n → Read H m [] n q x → Out m b q x → Onward m b n
  first m b n [] x known h f = (x, own h, f)
  first m b n (k ∷ []) x known h f = first_down m b k n x known h f
  first m b n (k ∷ j ∷ q) x known h f = absurd h

  leave : (m : H.Key) (b : Node) (k : ℕ) (n x : Node) → Up H m k n x → Walks H m x b → Out m b (k ∷ []) n
  leave m b k n x (i, q, a, e, kind, h) w = (i, q, x, a, kind, h, subst⁻¹ (λ z. Walks H i.target z (signal q)) e stop, w)

  later : (m : H.Key) (b : Node) (p : Copy) (n : Node) (q : Copy) (x : Node) → Known m p n → Read H m p n q x → Out m b q x → Out m b p n
  later m b [] n q x known h f = let r = first m b n q x known h f in step r.1 r.2
  later m b (k ∷ []) n [] x known h f = leave m b k n x h f
  later m b (k ∷ j ∷ p) n [] x known h f = absurd h
  later m b (k ∷ p) n (j ∷ q) x known (i, a, e, h) (i', r, y, a', kind, c, f, w) =
      let a'' : At H m k i' = subst⁻¹ (λ z. At H m z i') e a' in
      let same : i ≡ i' = at_one H m k a a'' in
      let h' : Read H i'.target p n q x = subst (λ z. Read H z.target p n q x) same h in
      (i', r, y, a'', kind, c, later i'.target (signal r) p n q x (known i' a'') h' f, w)

  shorten : (m : H.Key) (b : Node) (p : Copy) (n : Node) → Star (Step m) ([], b) (p, n) → Out m b p n
  shorten m b [] n (done e) = subst⁻¹ (λ z. Walks H m z b) (ap (λ z. z.1) e) stop
  shorten m b (k ∷ p) n (done e) = absurd (no_copy e)
  shorten m b p n (go_to {b = t} h w) = later m b p n t.0 t.1 h.0 h.1 (shorten m b t.0 t.1 w)

  -- a walk back to (k ∷ p, n) from (q, x) stays in the copy at k, or comes by an own node
  abbrev Stays : H.Key → Instance H.Key → ℕ → Copy → Node → Copy → Node → Type 0
  Stays m i k p n [] x = ⊥
  Stays m i k p n (j ∷ q) x = (j ≡ k) × Star (Step i.target) (p, n) (q, x)

  abbrev Comes : H.Key → ℕ → Copy → Node → Copy → Node → Type 0
  Comes m k p n q x = (y : Node) × Star (Step m) ([], y) (q, x) × Star (Step m) (k ∷ p, n) ([], y)

  inner : (m : H.Key) (i : Instance H.Key) (k : ℕ) (p : Copy) (n : Node) (j : ℕ) (q : Copy) (x : Node) → At H m k i → j ≡ k → Known m (k ∷ p) n → Read H m (k ∷ p) n (j ∷ q) x → Step i.target (p, n) (q, x)
  inner m i k p n j q x a e known (i', a', e', h) = (known i a, subst (λ z. Read H z.target p n q x) (at_one H m k a' a) h)

  go_on : (m : H.Key) (i : Instance H.Key) (k : ℕ) (p : Copy) (n : Node) (q : Copy) (x : Node) (r : Copy) (z : Node) → At H m k i → Step m (q, x) (r, z) → Star (Step m) (k ∷ p, n) (r, z)
      → Stays m i k p n r z ⊎ Comes m k p n r z → Stays m i k p n q x ⊎ Comes m k p n q x
  go_on m i k p n [] x r z a h w f = inr (x, done refl, go_to h w)
  go_on m i k p n (j ∷ q) x [] z a h w f = inr (z, go_to h (done refl), w)
  go_on m i k p n (j ∷ q) x (j' ∷ r) z a h w (inl s) =
      let e : j ≡ k = h.1.2 ∙ s.0 in
      let t = inner m i j q x j' r z (subst⁻¹ (λ u. At H m u i) e a) (sym h.1.2) h.0 h.1 in
      inl (e, go_to t s.1)
  go_on m i k p n (j ∷ q) x (j' ∷ r) z a h w (inr c) = inr (c.0, go_to h c.1, c.2)

  at_end : (m : H.Key) (i : Instance H.Key) (k : ℕ) (p : Copy) (n : Node) (q : Copy) (x : Node) → ◌≡◌ {A = Signal} (q, x) (k ∷ p, n) → Stays m i k p n q x
  unfolding head_d
  at_end m i k p n [] x e = absurd (no_copy (sym e))
  at_end m i k p n (j ∷ q) x e = (ap (λ z. head_d z.0 0) e, done (λ t. (tail (e t).0, (e t).1)))

  stay : (m : H.Key) (i : Instance H.Key) (k : ℕ) (p : Copy) (n : Node) (q : Copy) (x : Node) → At H m k i → Star (Step m) (k ∷ p, n) (q, x) → Stays m i k p n q x ⊎ Comes m k p n q x
  stay m i k p n q x a (done e) = inl (at_end m i k p n q x e)
  stay m i k p n q x a (go_to {b = t} h w) = go_on m i k p n q x t.0 t.1 a h w (stay m i k p n t.0 t.1 a w)

  -- a closed walk of the own graph of a key that m leads to
  loop_within : (m : H.Key) (i : Instance H.Key) → i ∈ H.inside m → LoopFrom H i.target → LoopFrom H m
  loop_within m i u (t, r, v, c) = (t, leads_inside H m t i u r, v, c)

  walks_chain : (m : H.Key) {a b : Node} → Walks H m a b → (l : List Node) × EdgeChain H m a l × (last a l ≡ b)
  walks_chain m stop = ([], tt, refl)
  walks_chain m (step {b = n} h w) = let r = walks_chain m w in (n ∷ r.0, (h, r.1), r.2)

  own_loop : (m : H.Key) (n : Node) → Plus (Step m) ([], n) ([], n) → LoopFrom H m
  own_loop m n (t, h, w) =
      let r = first m n n t.0 t.1 h.0 h.1 (shorten m n t.0 t.1 w) in
      let c = walks_chain m r.2 in
      (m, leads_here H m, n ∷ r.0 ∷ c.0, ((r.1, c.1), c.2))

  -- a walk to another copy has a step
  away : {m : H.Key} {k : ℕ} {p : Copy} {n y : Node} → Star (Step m) (k ∷ p, n) ([], y) → Plus (Step m) (k ∷ p, n) ([], y)
  away (done e) = absurd (no_copy (sym e))
  away (go_to {b = t} h w) = (t, h, w)

  rotated : (m : H.Key) (k : ℕ) (p : Copy) (n y : Node) → Star (Step m) ([], y) (k ∷ p, n) → Star (Step m) (k ∷ p, n) ([], y) → LoopFrom H m
  rotated m k p n y a b = let v = away b in own_loop m y (v.0, v.1, join v.2 a)

  read_at : (m : H.Key) (k : ℕ) (p : Copy) (n : Node) (q : Copy) (x : Node) → Read H m (k ∷ p) n q x → (i : Instance H.Key) × At H m k i
  read_at m k [] n [] x h = (h.0, h.2)
  read_at m k (j ∷ p) n [] x h = absurd h
  read_at m k p n (j ∷ q) x h = (h.0, h.1)

  turn : (m : H.Key) (i : Instance H.Key) (k : ℕ) (p : Copy) (n : Node) (q : Copy) (x : Node) → At H m k i → (Plus (Step i.target) (p, n) (p, n) → LoopFrom H i.target)
      → Step m (k ∷ p, n) (q, x) → Star (Step m) (k ∷ p, n) (q, x) → Stays m i k p n q x ⊎ Comes m k p n q x → LoopFrom H m
  turn m i k p n [] x a deeper h w s = rotated m k p n x (go_to h (done refl)) w
  turn m i k p n (j ∷ q) x a deeper h w (inl s) = loop_within m i (at_in H m k a) (deeper ((q, x), inner m i k p n j q x a s.0 h.0 h.1, s.1))
  turn m i k p n (j ∷ q) x a deeper h w (inr c) = rotated m k p n c.0 (go_to h c.1) c.2

  loop_inside : (m : H.Key) (p : Copy) (n : Node) → Plus (Step m) (p, n) (p, n) → LoopFrom H m
  loop_inside m [] n w = own_loop m n w
  loop_inside m (k ∷ p) n (t, h, w) =
      let r = read_at m k p n t.0 t.1 h.1 in
      turn m r.0 k p n t.0 t.1 r.1 (loop_inside r.0.target p n) h w (stay m r.0 k p n t.0 t.1 r.1 w)

module _ (H : Hierarchy) (L : WellFormed H) where
  -- what is read is known, where every key from m on reads ports
  known_read : (m : H.Key) → From H (OutputsArePorts H) m → (n : Node) → ReadAt H m n → Known H m [] n
  known_read m outs n h i o u e = outs m (leads_here H m) i o u (subst (λ z. ReadAt H m z) e h)

  read_known : (m : H.Key) → From H (OutputsArePorts H) m → (p : Copy) (n : Node) (q : Copy) (x : Node) → Read H m p n q x → Known H m q x
  read_known m outs [] n [] x h = known_read m outs x (read_own H m n h)
  read_known m outs [] n (k ∷ []) x h = λ i a j o u e. absurd (signal_is_no_out (sym h.4 ∙ e))
  read_known m outs [] n (k ∷ j ∷ q) x h = absurd h
  read_known m outs (k ∷ []) n [] x h = known_read m outs x (read_fed H m h.0 h.1 (at_in H m k h.2) h.4 h.5)
  read_known m outs (k ∷ j ∷ p) n [] x h = absurd h
  read_known m outs (k ∷ p) n (j ∷ q) x h =
      let deeper = read_known h.0.target (from_inside H (OutputsArePorts H) m h.0 (at_in H m k h.1) outs) p n q x h.3 in
      λ i a. subst (λ z. Known H z.target q x) (at_one H m j (subst (λ z. At H m z h.0) h.2 h.1) a) deeper

  last_known : (m : H.Key) → From H (OutputsArePorts H) m → (s t : Signal) (l : List Signal) → Read H m s.0 s.1 t.0 t.1 → Chain (signal_reads H m) t l → Known H m (last t l).0 (last t l).1
  last_known m outs s t [] h c = read_known m outs s.0 s.1 t.0 t.1 h
  last_known m outs s t (u ∷ l) h c = last_known m outs t u l (reads_read H L m t.0 t.1 u c.0) c.1

  chain_star : (m : H.Key) → From H (OutputsArePorts H) m → (z s : Signal) (l : List Signal) → Known H m s.0 s.1 → Chain (signal_reads H m) s l → last s l ≡ z → Star (Step H m) z s
  chain_star m outs z s [] known c e = done e
  chain_star m outs z s (t ∷ l) known c e =
      let h = reads_read H L m s.0 s.1 t c.0 in
      go_to (known, h) (chain_star m outs z t l (read_known m outs s.0 s.1 t.0 t.1 h) c.1 e)

  pub closed_shortens : (m : H.Key) → From H (OutputsArePorts H) m → (w : List Signal) → ClosedWalk (signal_reads H m) w → LoopFrom H m
  closed_shortens m outs [] c = absurd c
  closed_shortens m outs (s ∷ []) c = absurd c
  closed_shortens m outs (s ∷ t ∷ l) ((h, c), e) =
      let r = reads_read H L m s.0 s.1 t h in
      let known : Known H m s.0 s.1 = subst (λ (z : Signal). Known H m z.0 z.1) e (last_known m outs s t l r c) in
      loop_inside H m s.0 s.1 (t, (known, r), chain_star m outs s t l (read_known m outs s.0 s.1 t.0 t.1 r) c e)
