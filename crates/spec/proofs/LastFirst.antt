-- Next nodes are taken last first: of two reports that pass one node, the earlier goes on to the later of its next nodes, or both to one.
-- Assumes nothing.
use Prim.Native.Nat.{ℕ, zero, suc}
use mathlib.Core.Path.{◌≡◌, refl, sym, ◌∙◌, ap, subst, subst⁻¹}
use mathlib.Core.Bool.{Bool, true, false}
use mathlib.Core.Logic.{◌⊎◌, inl, inr}
use mathlib.Core.List.Memᴰ
use mathlib.Core.List.{List, [], ◌∷◌, ◌++◌, append_assoc, append-nil}
use lib.ListN.{length}
use Rattle.spec.specs.Graph.{◌∈◌, Once}
use Rattle.spec.specs.DepthFirst.{Searched, backwards, among, back_to, in_turn, step, search}
use Rattle.spec.specs.DepthFirstFinds.{Goes, InOrder, StandsBefore}
use Rattle.spec.specs.Edge.{Node, Head, same_node, all_nodes}
use Rattle.spec.specs.FindCycles.{ascends, next_nodes, roots, find_cycles}
use Rattle.spec.proofs.DepthFirst.{of_backwards}
use Rattle.spec.proofs.Lists.{among_no}
use Rattle.spec.proofs.Firsts.{order_append, order_weaken}
use Rattle.spec.proofs.Nodes.{same_node_yes, same_node_refl, Rising, next_rising}

module _ {A : Type 0} where
  pub stands_more : {a b c : A} {l : List A} → StandsBefore l a b → StandsBefore (c ∷ l) a b
  stands_more {c} s = record { front = c ∷ s.front; back = s.back; parted = ap (◌∷◌ c) s.parted; behind = s.behind }

  -- backwards, what comes later stood before
  pub backwards_down : (l : List A) → InOrder (λ v w. StandsBefore l w v) (backwards l)
  unfolding backwards
  backwards_down [] = tt
  backwards_down (a ∷ l) =
      order_append (backwards l) (a ∷ []) (order_weaken (backwards l) (λ v w i j s. stands_more s) (backwards_down l)) (λ b i. absurd (Memᴰ.not-nil i), tt)
      (λ v w i j. record { front = []; back = l; parted = ap (λ z. z ∷ l) (sym (Memᴰ.eq_of_singleton j)); behind = of_backwards l i })

  -- the step from u to v, along the open path (the last entered first) and on to n
  abbrev Current : A → List A → A → A → Type 0
  Current n [] u v = ⊥
  Current n (p ∷ path) u v = ((u ≡ p) × (v ≡ n)) ⊎ Current p path u v

  current_on : (n : A) (path : List A) (u v : A) → Current n path u v → u ∈ path
  current_on n [] u v c = absurd c
  current_on n (p ∷ path) u v (inl (e, d)) = Memᴰ.head e
  current_on n (p ∷ path) u v (inr c) = Memᴰ.tail (current_on p path u v c)

  current_one : (n : A) (path : List A) → Once path → (u v w : A) → Current n path u v → Current n path u w → v ≡ w
  current_one n [] o u v w c d = absurd c
  current_one n (p ∷ path) o u v w (inl (e, f)) (inl (e', f')) = f ∙ sym f'
  current_one n (p ∷ path) o u v w (inl (e, f)) (inr d) = absurd (o.0 (Memᴰ.cast (sym e) (current_on p path u w d)))
  current_one n (p ∷ path) o u v w (inr c) (inl (e, f)) = absurd (o.0 (Memᴰ.cast (sym e) (current_on p path u v c)))
  current_one n (p ∷ path) o u v w (inr c) (inr d) = current_one p path o.1 u v w c d

  -- on to two nodes: the steps differ at most in the last
  current_two : (n m : A) (path : List A) → Once path → (u v w : A) → Current n path u v → Current m path u w → (v ≡ w) ⊎ ((rest : List A) × (path ≡ u ∷ rest) × (v ≡ n) × (w ≡ m))
  current_two n m [] o u v w c d = absurd c
  current_two n m (p ∷ path) o u v w (inl (e, f)) (inl (e', f')) = inr (path, ap (λ z. z ∷ path) (sym e), f, f')
  current_two n m (p ∷ path) o u v w (inl (e, f)) (inr d) = absurd (o.0 (Memᴰ.cast (sym e) (current_on p path u w d)))
  current_two n m (p ∷ path) o u v w (inr c) (inl (e, f)) = absurd (o.0 (Memᴰ.cast (sym e) (current_on p path u v c)))
  current_two n m (p ∷ path) o u v w (inr c) (inr d) = inl (current_one p path o.1 u v w c d)

module _ {A : Type 0} (same : A → A → Bool) (next : A → List A)
    (same_yes : (a b : A) → same a b ≡ true → a ≡ b) (same_refl : (a : A) → same a a ≡ true) where
  -- the steps of a report are those of the open path
  back_goes : (n : A) (path : List A) (t : A) (w : List A) (u v : A) → Goes (back_to same n path (t ∷ w)) u v → Goes (t ∷ w) u v ⊎ Current t path u v
  unfolding back_to
  back_goes n [] t w u v g = inl g
  back_goes n (p ∷ path) t w u v g = go (same n p) (back_goes n path p (t ∷ w) u v) g
    where
      split : Goes (p ∷ t ∷ w) u v → Goes (t ∷ w) u v ⊎ Current t (p ∷ path) u v
      split (inl e) = inr (inl e)
      split (inr g) = inl g

      deeper : Goes (p ∷ t ∷ w) u v ⊎ Current p path u v → Goes (t ∷ w) u v ⊎ Current t (p ∷ path) u v
      deeper (inl g) = split g
      deeper (inr c) = inr (inr c)

      go : (b : Bool) → (Goes (back_to same n path (p ∷ t ∷ w)) u v → Goes (p ∷ t ∷ w) u v ⊎ Current p path u v)
          → Goes (elim b as (λ _. List A) [ true ↦ p ∷ t ∷ w | false ↦ back_to same n path (p ∷ t ∷ w) ]) u v → Goes (t ∷ w) u v ⊎ Current t (p ∷ path) u v
      go true ih g = split g
      go false ih g = deeper (ih g)

  report_goes : (n : A) (path : List A) (u v : A) → Goes (back_to same n path (n ∷ [])) u v → Current n path u v
  report_goes n path u v g = go (back_goes n path n [] u v g)
    where
      go : Goes (n ∷ []) u v ⊎ Current n path u v → Current n path u v
      go (inl c) = absurd c
      go (inr c) = c

  -- of two reports, the earlier first
  abbrev Descends : List A → List A → Type 0
  Descends a b = (u v w : A) → Goes a u v → Goes b u w → (v ≡ w) ⊎ StandsBefore (next u) w v

  -- where a step of a new report comes from: the open path, or a node that was entered meanwhile
  data Source (path l : List A) (st st' : Searched A) (u v : A) : Type 0 where
    on : (n : A) → n ∈ l → Current n path u v → Source path l st st' u v
    inner : ¬ (u ∈ st.left) → ¬ (u ∈ path) → u ∈ st'.left → Source path l st st' u v

  -- what taking the nodes of l adds
  record Adds (path l : List A) (st st' : Searched A) : Type 0 where
    new : List (List A)
    added : st'.reports ≡ st.reports ++ new
    order : InOrder Descends new
    sources : (w : List A) → w ∈ new → (u v : A) → Goes w u v → Source path l st st' u v
    keeps : (a : A) → a ∈ st.left → a ∈ st'.left

  -- the nodes of l are next nodes of the last open one, taken last first
  abbrev Down : List A → List A → Type 0
  Down path l = (p : A) (rest : List A) → path ≡ p ∷ rest → InOrder (λ v w. StandsBefore (next p) w v) l

  adds_nothing : (path l : List A) (st : Searched A) → Adds path l st st
  adds_nothing path l st = record { new = []; added = sym (append-nil st.reports); order = tt; sources = λ w i. absurd (Memᴰ.not-nil i); keeps = λ a i. i }

  adds_more : {path l : List A} {n : A} {st st' st'' : Searched A} → Once path → Down path (n ∷ l) → Adds path (n ∷ []) st st' → Adds path l st' st'' → Adds path (n ∷ l) st st''
  adds_more {path} {l} {n} {st} {st'} {st''} o down f g = record {
    new = f.new ++ g.new;
    added = g.added ∙ ap (λ z. z ++ g.new) f.added ∙ append_assoc st.reports f.new g.new;
    order = order_append f.new g.new f.order g.order (λ a b i j u v w x y. meet u v w (f.sources a i u v x) (g.sources b j u w y));
    sources = λ w i u v x. either w u v x (Memᴰ.append_cases f.new i);
    keeps = λ a i. g.keeps a (f.keeps a i);
  }
    where
      two : (m k : A) → m ∈ (n ∷ []) → k ∈ l → (u v w : A) → (v ≡ w) ⊎ ((rest : List A) × (path ≡ u ∷ rest) × (v ≡ m) × (w ≡ k)) → (v ≡ w) ⊎ StandsBefore (next u) w v
      two m k i j u v w (inl e) = inl e
      two m k i j u v w (inr (rest, p, e, d)) =
          inr (subst⁻¹ (λ z. StandsBefore (next u) z v) d (subst⁻¹ (λ z. StandsBefore (next u) k z) (e ∙ Memᴰ.eq_of_singleton i) ((down u rest p).0 k j)))

      meet : (u v w : A) → Source path (n ∷ []) st st' u v → Source path l st' st'' u w → (v ≡ w) ⊎ StandsBefore (next u) w v
      meet u v w (on m i c) (on k j d) = two m k i j u v w (current_two m k path o u v w c d)
      meet u v w (on m i c) (inner x y z) = absurd (y (current_on m path u v c))
      meet u v w (inner x y z) (on k j d) = absurd (y (current_on k path u w d))
      meet u v w (inner x y z) (inner x' y' z') = absurd (x' z)

      first : (u v : A) → Source path (n ∷ []) st st' u v → Source path (n ∷ l) st st'' u v
      first u v (on m i c) = on m (Memᴰ.head (Memᴰ.eq_of_singleton i)) c
      first u v (inner x y z) = inner x y (g.keeps u z)

      second : (u v : A) → Source path l st' st'' u v → Source path (n ∷ l) st st'' u v
      second u v (on m i c) = on m (Memᴰ.tail i) c
      second u v (inner x y z) = inner (λ i. x (f.keeps u i)) y z

      either : (w : List A) (u v : A) → Goes w u v → (w ∈ f.new) ⊎ (w ∈ g.new) → Source path (n ∷ l) st st'' u v
      either w u v x (inl i) = first u v (f.sources w i u v x)
      either w u v x (inr i) = second u v (g.sources w i u v x)

  in_turn_adds : (path : List A) (visit : A → Searched A → Searched A) (l : List A) → Once path → Down path l
      → ((n : A) (st : Searched A) → Adds path (n ∷ []) st (visit n st)) → (st : Searched A) → Adds path l st (in_turn visit l st)
  unfolding in_turn
  in_turn_adds path visit [] o down each st = adds_nothing path [] st
  in_turn_adds path visit (n ∷ l) o down each st = adds_more o down (each n st) (in_turn_adds path visit l o (λ p rest e. (down p rest e).1) each (visit n st))

  adds_report : (path : List A) (n : A) (st : Searched A) → Adds path (n ∷ []) st (record { left = st.left; reports = st.reports ++ (back_to same n path (n ∷ []) ∷ []) })
  adds_report path n st = record {
    new = back_to same n path (n ∷ []) ∷ [];
    added = refl;
    order = (λ b i. absurd (Memᴰ.not-nil i), tt);
    sources = λ w i u v x. on n (Memᴰ.head refl) (report_goes n path u v (subst (λ z. Goes z u v) (Memᴰ.eq_of_singleton i) x));
    keeps = λ a i. i;
  }

  adds_entered : (path : List A) (n : A) (st done : Searched A) → ¬ (n ∈ st.left) → ¬ (n ∈ path) → Adds (n ∷ path) (backwards (next n)) st done
      → Adds path (n ∷ []) st (record { left = n ∷ done.left; reports = done.reports })
  adds_entered path n st done new off f = record {
    new = f.new;
    added = f.added;
    order = f.order;
    sources = λ w i u v x. outer u v (f.sources w i u v x);
    keeps = λ a i. Memᴰ.tail (f.keeps a i);
  }
    where
      outer : (u v : A) → Source (n ∷ path) (backwards (next n)) st done u v → Source path (n ∷ []) st (record { left = n ∷ done.left; reports = done.reports }) u v
      outer u v (on m i (inl (e, d))) = inner (λ j. new (Memᴰ.cast (sym e) j)) (λ j. off (Memᴰ.cast (sym e) j)) (Memᴰ.head e)
      outer u v (on m i (inr c)) = on n (Memᴰ.head refl) c
      outer u v (inner x y z) = inner x (λ j. y (Memᴰ.tail j)) (Memᴰ.tail z)

  step_adds : (fuel : ℕ) (path : List A) → Once path → (n : A) (st : Searched A) → Adds path (n ∷ []) st (step same next fuel path n st)
  unfolding step
  step_adds zero path o n st = adds_nothing path (n ∷ []) st
  step_adds (suc fuel) path o n st =
      go (among same n path) refl (among same n st.left) refl
      (λ new. in_turn_adds (n ∷ path) (step same next fuel (n ∷ path)) (backwards (next n)) (new, o) down (λ m s. step_adds fuel (n ∷ path) (new, o) m s) st)
    where
      down : Down (n ∷ path) (backwards (next n))
      down p rest e = let d : n ≡ p = cc in subst (λ z. InOrder (λ v w. StandsBefore (next z) w v) (backwards (next n))) d (backwards_down (next n))

      go : (b : Bool) → among same n path ≡ b → (c : Bool) → among same n st.left ≡ c
          → (¬ (n ∈ path) → Adds (n ∷ path) (backwards (next n)) st (in_turn (step same next fuel (n ∷ path)) (backwards (next n)) st))
          → Adds path (n ∷ []) st (step same next (suc fuel) path n st)
      go true e c f ih = rw (e, step) (adds_report path n st)
      go false e true f ih = rw (e, f, step) (adds_nothing path (n ∷ []) st)
      go false e false f ih =
          let off = among_no same same_yes same_refl n path e in
          rw (e, f, step) (adds_entered path n st _ (among_no same same_yes same_refl n st.left f) off (ih off))

  -- the reports of a search
  pub reports_descend : (fuel : ℕ) (roots : List A) → InOrder Descends (search same next fuel roots).reports
  unfolding search
  reports_descend fuel roots =
      let f = in_turn_adds [] (step same next fuel []) roots tt (λ p rest e. absurd (empty p rest e)) (λ n st. step_adds fuel [] tt n st) (record { left = []; reports = [] }) in
      subst⁻¹ (InOrder Descends) f.added f.order
    where
      empty : (p : A) (rest : List A) → [] ≡ p ∷ rest → ⊥
      empty p rest e = Memᴰ.not-nil (subst⁻¹ (λ z. p ∈ z) e (Memᴰ.head refl))

-- in a list that ascends, what stands before ascends
rising_before : (hs : List Head) (l : List Node) → Rising hs l → (front : List Node) (a b : Node) (back : List Node) → l ≡ front ++ a ∷ back → b ∈ back → ascends hs a b ≡ true
rising_before hs l r front a b back e i = go front (subst (Rising hs) e r)
  where
    go : (front : List Node) → Rising hs (front ++ a ∷ back) → ascends hs a b ≡ true
    go [] r = r.0 b i
    go (c ∷ front) r = go front r.1

-- The theorem.
pub cycles_descend : (hs : List Head) → InOrder (λ a b. (u v w : Node) → Goes a u v → Goes b u w → (v ≡ w) ⊎ (ascends hs w v ≡ true)) (find_cycles hs)
unfolding find_cycles
cycles_descend hs = order_weaken (find_cycles hs) (λ a b i j h u v w x y. either u v w (h u v w x y)) (reports_descend same_node (next_nodes hs) same_node_yes same_node_refl (suc (length (all_nodes hs))) (roots hs))
  where
    either : (u v w : Node) → (v ≡ w) ⊎ StandsBefore (next_nodes hs u) w v → (v ≡ w) ⊎ (ascends hs w v ≡ true)
    either u v w (inl e) = inl e
    either u v w (inr s) = inr (rising_before hs (next_nodes hs u) (next_rising hs u) s.front w v s.back s.parted s.behind)
