-- The signals of an opened design, listed once each, with all that they read, and no others: where no module
-- contains itself every copy is reached with as much fuel as modules.
-- Assumes nothing.
use Prim.Native.Nat.{ℕ, zero, suc, ◌<◌}
use mathlib.Core.Path.{◌≡◌, refl, sym, ◌∙◌, ap, ap₂, subst, subst⁻¹}
use mathlib.Core.Bool.{Bool, true, false, true≢false, false≢true}
use mathlib.Core.Logic.{◌⊎◌, inl, inr, ◌↔◌}
use mathlib.Core.List.Memᴰ
use mathlib.Core.List.{List, [], ◌∷◌, ◌++◌, map}
use mathlib.Core.Option.{some}
use native.Mathlib.Omega.{arith}
use lib.ListN.{length}
use lib.Dec.{eqb}
use borrow.Author.Tests.{eqb-true, eq-eqb}
use Rattle.spec.specs.Edge.{Node, signal, inst_out, same_node, Head, all_nodes}
use Rattle.spec.specs.Syntax.{in_kind}
use Rattle.spec.specs.Summary.{is_input}
use Rattle.spec.specs.Graph.{◌∈◌, Once, Chain, last, ClosedWalk}
use Rattle.spec.specs.Hierarchy.{Connection, Instance, Hierarchy, WellFormed, by_line, by_connection, targets, Acyclic}
use Rattle.spec.specs.Opened.{Copy, Signal, here, under, opened_reads, signal_reads, NodeAt, headed, read, output, input, OutputRead, IsSignal, Listing, same_copy, same_signal, concat_map, copies, key_of, input_nodes, connected_nodes, output_nodes, key_nodes, copy_signals, opened_signals}
use Rattle.spec.proofs.Lists.{in_concat, of_concat}
use Rattle.spec.proofs.Nodes.{and_parts, same_node_yes, same_node_refl, each_once_in, in_each_once, each_once_once, read_by, head_in, headed_all, reads_listed, of_all_nodes}
use Rattle.spec.proofs.Copies.{signal_is_no_out, input_kind, At, at_one, at_in, at_position, in_targets, read_own, read_fed, Read, reads_read, down_reads, under_reads}
use Rattle.spec.proofs.Acyclic.{acyclic_short}

-- signals are the same just where the test says so
copy_yes : (p q : Copy) → same_copy p q ≡ true → p ≡ q
unfolding same_copy
copy_yes [] [] e = refl
copy_yes [] (k ∷ q) e = absurd (false≢true e)
copy_yes (j ∷ p) [] e = absurd (false≢true e)
copy_yes (j ∷ p) (k ∷ q) e = let r = and_parts (eqb j k) (same_copy p q) e in ap₂ ◌∷◌ (eqb-true j k r.0) (copy_yes p q r.1)

copy_refl : (p : Copy) → same_copy p p ≡ true
unfolding same_copy
copy_refl [] = refl
copy_refl (k ∷ p) = rw (eq-eqb k k refl) (copy_refl p)

pub signal_yes : (s t : Signal) → same_signal s t ≡ true → s ≡ t
signal_yes s t e =
    let r = and_parts (same_copy s.0 t.0) (same_node s.1 t.1) e in
    let p = copy_yes s.0 t.0 r.0 in
    let n = same_node_yes s.1 t.1 r.1 in
    λ i. (p i, n i)

pub signal_refl : (s : Signal) → same_signal s s ≡ true
signal_refl s = rw (copy_refl s.0) (same_node_refl s.1)

pub signal_same : (s t : Signal) → Dec (s ≡ t)
signal_same s t = go (same_signal s t) refl
  where
    go : (b : Bool) → same_signal s t ≡ b → Dec (s ≡ t)
    go true e = yes (signal_yes s t e)
    go false e = no (λ q. true≢false (sym (signal_refl s) ∙ ap (same_signal s) q ∙ e))

module _ (H : Hierarchy) (L : WellFormed H) where
  -- a copy: each position is of an instance line
  abbrev Valid : H.Key → Copy → Type 0
  Valid m [] = Unit {0}
  Valid m (k ∷ p) = (i : Instance H.Key) × At H m k i × Valid i.target p

  -- the keys on the way to a copy
  route : (m : H.Key) (p : Copy) → Valid m p → List H.Key
  route m [] v = []
  route m (k ∷ p) v = v.0.target ∷ route v.0.target p v.2

  route_length : (m : H.Key) (p : Copy) (v : Valid m p) → length (route m p v) ≡ length p
  unfolding route
  route_length m [] v = refl
  route_length m (k ∷ p) v = ap suc (route_length v.0.target p v.2)

  route_chain : (m : H.Key) (p : Copy) (v : Valid m p) → Chain (targets H) m (route m p v)
  unfolding route
  route_chain m [] v = tt
  route_chain m (k ∷ p) v = (in_targets (at_in H m k v.1), route_chain v.0.target p v.2)

  -- copies are no deeper than there are modules
  valid_short : (m : H.Key) → Acyclic H m → (p : Copy) → Valid m p → length p < suc H.modules
  valid_short m acyclic p v = omega (arith, acyclic_short H L m acyclic (route m p v) (route_chain m p v), route_length m p v)

  -- the copies that are listed
  abbrev behind : ℕ → Instance H.Key → List Copy
  behind fuel i = map (λ p. i.position ∷ p) (copies H fuel i.target)

  valid_listed : (fuel : ℕ) (m : H.Key) (p : Copy) → Valid m p → length p < fuel → p ∈ copies H fuel m
  unfolding copies
  valid_listed zero m p v h = absurd (omega arith)
  valid_listed (suc fuel) m [] v h = Memᴰ.head refl
  valid_listed (suc fuel) m (k ∷ p) (i, a, v) h =
      let r = in_concat (behind fuel) (H.inside m) (at_in H m k a) (Memᴰ.map (λ p. i.position ∷ p) (valid_listed fuel i.target p v (omega arith))) in
      Memᴰ.tail (Memᴰ.cast (ap (λ z. z ∷ p) (sym (at_position H m k a))) r)

  listed_valid : (fuel : ℕ) (m : H.Key) (p : Copy) → p ∈ copies H fuel m → Valid m p
  unfolding copies
  listed_valid zero m p h = absurd (Memᴰ.not-nil h)
  listed_valid (suc fuel) m p h = pick (λ i q. listed_valid fuel i.target q) (Memᴰ.cases_cons h)
    where
      pick : ((i : Instance H.Key) (q : Copy) → q ∈ copies H fuel i.target → Valid i.target q) → (p ≡ []) ⊎ (p ∈ concat_map (behind fuel) (H.inside m)) → Valid m p
      pick on (inl e) = subst⁻¹ (λ z. Valid m z) e tt
      pick on (inr u) =
          let (i, v, w) = of_concat (behind fuel) p (H.inside m) u in
          let (q, x, e) = Memᴰ.of_map (λ p. i.position ∷ p) (copies H fuel i.target) w in
          subst (λ z. Valid m z) e (i, L.placed m i v, on i q x)

  -- what a connection to an in-kind name reads
  in_input_nodes : (t : H.Key) (c : Connection) (n : Node) → H.kind t c.port ≡ some in_kind → n ∈ c.nodes → n ∈ input_nodes H t c
  unfolding input_nodes
  in_input_nodes t c n e h = rw (e, input_nodes) h

  of_input_nodes : (t : H.Key) (c : Connection) (n : Node) → n ∈ input_nodes H t c → (H.kind t c.port ≡ some in_kind) × (n ∈ c.nodes)
  unfolding input_nodes
  of_input_nodes t c n h = go (is_input (H.kind t c.port)) refl h
    where
      go : (b : Bool) → is_input (H.kind t c.port) ≡ b → n ∈ (elim b as (λ z. List Node) [ true ↦ c.nodes | false ↦ [] ]) → (H.kind t c.port ≡ some in_kind) × (n ∈ c.nodes)
      go true e u = (input_kind (H.kind t c.port) e, u)
      go false e u = absurd (Memᴰ.not-nil u)

  -- the nodes of a key are listed, and no others
  node_in : (m : H.Key) (n : Node) → NodeAt H m n → n ∈ key_nodes H m
  unfolding key_nodes connected_nodes output_nodes
  node_in m n (headed h i e) = Memᴰ.append_left _ (headed_all (H.own m) (Memᴰ.cast e (head_in (H.own m) i)))
  node_in m n (read (by_line h i u)) = Memᴰ.append_left _ (reads_listed (H.own m) i u)
  node_in m n (read (by_connection i c u v k w)) =
      Memᴰ.append_right (all_nodes (H.own m)) (Memᴰ.append_left _
      (in_concat (λ i. concat_map (input_nodes H i.target) i.connections) (H.inside m) u (in_concat (input_nodes H i.target) i.connections v (in_input_nodes i.target c n k w))))
  node_in m n (output i o u v e) =
      Memᴰ.append_right (all_nodes (H.own m)) (Memᴰ.append_right (connected_nodes H m)
      (Memᴰ.append_left _ (in_concat (λ i. map (inst_out i.name i.index) (H.outs i.target)) (H.inside m) u (Memᴰ.cast e (Memᴰ.map (inst_out i.name i.index) v)))))
  node_in m n (input p u e) =
      Memᴰ.append_right (all_nodes (H.own m)) (Memᴰ.append_right (connected_nodes H m) (Memᴰ.append_right (output_nodes H m) (Memᴰ.cast e (Memᴰ.map signal u))))

  connected_node : (m : H.Key) (n : Node) → n ∈ connected_nodes H m → NodeAt H m n
  unfolding connected_nodes
  connected_node m n h =
      let (i, u, v) = of_concat (λ i. concat_map (input_nodes H i.target) i.connections) n (H.inside m) h in
      let (c, w, x) = of_concat (input_nodes H i.target) n i.connections v in
      let (k, y) = of_input_nodes i.target c n x in
      read (by_connection i c u w k y)

  output_node : (m : H.Key) (n : Node) → n ∈ output_nodes H m → NodeAt H m n
  unfolding output_nodes
  output_node m n h =
      let (i, u, v) = of_concat (λ i. map (inst_out i.name i.index) (H.outs i.target)) n (H.inside m) h in
      let (o, w, e) = Memᴰ.of_map (inst_out i.name i.index) (H.outs i.target) v in
      output i o u w (sym e)

  in_node : (m : H.Key) (n : Node) → n ∈ key_nodes H m → NodeAt H m n
  unfolding key_nodes
  in_node m n h = first (Memᴰ.append_cases (all_nodes (H.own m)) h)
    where
      own_node : ((g : Head) × (g ∈ H.own m) × (n ≡ g.node)) ⊎ ((g : Head) × (g ∈ H.own m) × (n ∈ g.reads)) → NodeAt H m n
      own_node (inl (g, i, e)) = headed g i e
      own_node (inr (g, i, u)) = read (by_line g i u)

      third : (n ∈ output_nodes H m) ⊎ (n ∈ map signal (H.inputs m)) → NodeAt H m n
      third (inl u) = output_node m n u
      third (inr u) = let (p, v, e) = Memᴰ.of_map signal (H.inputs m) u in input p v (sym e)

      second : (n ∈ connected_nodes H m) ⊎ (n ∈ (output_nodes H m ++ map signal (H.inputs m))) → NodeAt H m n
      second (inl u) = connected_node m n u
      second (inr u) = third (Memᴰ.append_cases (output_nodes H m) u)

      first : (n ∈ all_nodes (H.own m)) ⊎ (n ∈ (connected_nodes H m ++ (output_nodes H m ++ map signal (H.inputs m)))) → NodeAt H m n
      first (inl u) = own_node (of_all_nodes (H.own m) n u)
      first (inr u) = second (Memᴰ.append_cases (connected_nodes H m) u)

  -- a node of the key that a copy is of
  abbrev Has : H.Key → Copy → Node → Type 0
  Has m [] n = NodeAt H m n
  Has m (k ∷ p) n = (i : Instance H.Key) × At H m k i × Has i.target p n

  has_valid : (m : H.Key) (p : Copy) (n : Node) → Has m p n → Valid m p
  has_valid m [] n h = tt
  has_valid m (k ∷ p) n (i, a, h) = (i, a, has_valid i.target p n h)

  has_node : (m : H.Key) (p : Copy) (n : Node) → Has m p n → n ∈ key_nodes H (key_of H m p)
  unfolding key_of
  has_node m [] n h = node_in m n h
  has_node m (k ∷ p) n (i, a, h) = rw (a, key_of) (has_node i.target p n h)

  node_has : (m : H.Key) (p : Copy) (n : Node) → Valid m p → n ∈ key_nodes H (key_of H m p) → Has m p n
  unfolding key_of
  node_has m [] n v h = in_node m n h
  node_has m (k ∷ p) n (i, a, v) h = (i, a, node_has i.target p n v (rw (a, key_of) at h))

  -- a signal is such a node, or what one reads
  has_signal : (m : H.Key) (p : Copy) (n : Node) → Has m p n → IsSignal H m p n
  has_signal m [] n h = h
  has_signal m (k ∷ p) n (i, a, h) = (i, at_in H m k a, at_position H m k a, inl (has_signal i.target p n h))

  read_signal : (m : H.Key) (p : Copy) (n : Node) (q : Copy) (x : Node) → Has m p n → Read H m p n q x → IsSignal H m q x
  read_signal m [] n [] x g h = read (read_own H m n h)
  read_signal m [] n (k ∷ []) x g (i, o, a, e, f) = (i, at_in H m k a, at_position H m k a, inr (o, f, subst (λ z. NodeAt H m z) e g))
  read_signal m [] n (k ∷ j ∷ q) x g h = absurd h
  read_signal m (k ∷ []) n [] x g (i, q, a, e, u, y) = read (read_fed H m i q (at_in H m k a) u y)
  read_signal m (k ∷ j ∷ p) n [] x g h = absurd h
  read_signal m (k ∷ p) n (j ∷ q) x (i', a', g) (i, a, e, h) =
      (i, at_in H m k a, at_position H m k a ∙ e, inl (read_signal i.target p n q x (subst (λ z. Has z.target p n) (at_one H m k a' a) g) h))

  abbrev Origin : H.Key → Copy → Node → Type 0
  Origin m p n = Has m p n ⊎ ((t : Signal) × Has m t.0 t.1 × ((p, n) ∈ signal_reads H m t))

  signal_origin : (m : H.Key) (p : Copy) (n : Node) → IsSignal H m p n → Origin m p n
  signal_origin m [] n h = inl h
  signal_origin m (k ∷ p) n (i, u, e, h) = go (signal_origin i.target p n) h
    where
      a : At H m k i
      a = subst (λ z. At H m z i) e (L.placed m i u)

      deeper : Origin i.target p n → Origin m (k ∷ p) n
      deeper (inl g) = inl (i, a, g)
      deeper (inr (t, g, r)) = inr (under k t, (i, a, g), under_reads H m k i t (p, n) a r)

      read_here : (p : Copy) → OutputRead H m i p n → Origin m (k ∷ p) n
      read_here [] (o, f, g) = inr (here (inst_out i.name i.index o), g, Memᴰ.cast (λ z. (sym e z ∷ [], f z)) (down_reads H m i o u))
      read_here (j ∷ p) b = absurd b

      go : (IsSignal H i.target p n → Origin i.target p n) → IsSignal H i.target p n ⊎ OutputRead H m i p n → Origin m (k ∷ p) n
      go on (inl g) = deeper (on g)
      go on (inr b) = read_here p b

  -- what is read is a node of its module, or an output that an instance output reads; and that is one if it reads
  target : (m : H.Key) (p : Copy) (n : Node) (q : Copy) (x : Node) → Read H m p n q x → Has m q x ⊎ ((o : ℕ) × (x ≡ signal o))
  target m [] n [] x h = inl (read (read_own H m n h))
  target m [] n (k ∷ []) x h = inr (h.1, h.4)
  target m [] n (k ∷ j ∷ q) x h = absurd h
  target m (k ∷ []) n [] x h = inl (read (read_fed H m h.0 h.1 (at_in H m k h.2) h.4 h.5))
  target m (k ∷ j ∷ p) n [] x h = absurd h
  target m (k ∷ p) n (j ∷ q) x (i, a, e, h) = pick (target i.target p n q x h)
    where
      pick : Has i.target q x ⊎ ((o : ℕ) × (x ≡ signal o)) → Has m (j ∷ q) x ⊎ ((o : ℕ) × (x ≡ signal o))
      pick (inl u) = inl (i, subst (λ z. At H m z i) e a, u)
      pick (inr u) = inr u

  source : (m : H.Key) (p : Copy) (n : Node) (o : ℕ) (q : Copy) (x : Node) → n ≡ signal o → Read H m p n q x → Has m p n
  source m [] n o [] x e h = let (g, j, f, u) = read_by (H.own m) n h in headed g j (sym f)
  source m [] n o (k ∷ []) x e h = absurd (signal_is_no_out (sym e ∙ h.3))
  source m [] n o (k ∷ j ∷ q) x e h = absurd h
  source m (k ∷ []) n o [] x e (i, r, a, s, u, y) = (i, a, input r (L.listed i.target r u) s)
  source m (k ∷ j ∷ p) n o [] x e h = absurd h
  source m (k ∷ p) n o (j ∷ q) x e (i, a, f, h) = (i, a, source i.target p n o q x e h)

  -- a listed signal that reads is a node of its module
  reader : (m : H.Key) (p : Copy) (n : Node) (s r : Signal) → Has m p n → r ∈ signal_reads H m s → (s ≡ (p, n)) ⊎ (s ∈ opened_reads H m p n) → Has m s.0 s.1
  reader m p n s r h u (inl e) = subst⁻¹ (λ (z : Signal). Has m z.0 z.1) e h
  reader m p n s r h u (inr t) = pick (target m p n s.0 s.1 (reads_read H L m p n s t))
    where
      pick : Has m s.0 s.1 ⊎ ((o : ℕ) × (s.1 ≡ signal o)) → Has m s.0 s.1
      pick (inl g) = g
      pick (inr g) = source m s.0 s.1 g.0 r.0 r.1 g.1 (reads_read H L m s.0 s.1 r u)

  -- the nodes of a copy, each with what it reads
  abbrev read_at : H.Key → Copy → Node → List Signal
  read_at m p n = (p, n) ∷ opened_reads H m p n

  in_copy : (m : H.Key) (p : Copy) (n : Node) (s : Signal) → Has m p n → s ∈ read_at m p n → s ∈ copy_signals H m p
  unfolding copy_signals
  in_copy m p n s h u = in_concat (read_at m p) (key_nodes H (key_of H m p)) (has_node m p n h) u

  module _ (m : H.Key) (acyclic : Acyclic H m) where
    abbrev all_copies : List Copy
    all_copies = copies H (suc H.modules) m

    -- a node of its key is listed, and so is what it reads
    at_listed : (p : Copy) (n : Node) (s : Signal) → Has m p n → s ∈ read_at m p n → s ∈ opened_signals H m
    unfolding opened_signals
    at_listed p n s h u =
        let v = has_valid m p n h in
        in_each_once same_signal signal_yes signal_refl (concat_map (copy_signals H m) all_copies)
        (in_concat (copy_signals H m) all_copies (valid_listed (suc H.modules) m p v (valid_short m acyclic p v)) (in_copy m p n s h u))

    has_listed : (p : Copy) (n : Node) → Has m p n → (p, n) ∈ opened_signals H m
    has_listed p n h = at_listed p n (p, n) h (Memᴰ.head refl)

    read_listed : (p : Copy) (n : Node) (r : Signal) → Has m p n → r ∈ opened_reads H m p n → r ∈ opened_signals H m
    read_listed p n r h u = at_listed p n r h (Memᴰ.tail u)

    -- a listed signal is a node of its key, or read by one
    abbrev Source : Signal → Type 0
    Source s = (p : Copy) × (n : Node) × Has m p n × ((s ≡ (p, n)) ⊎ (s ∈ opened_reads H m p n))

    listed_from : (s : Signal) → s ∈ opened_signals H m → Source s
    unfolding opened_signals copy_signals
    listed_from s h =
        let (p, u, v) = of_concat (copy_signals H m) s all_copies (each_once_in same_signal signal_yes signal_refl (concat_map (copy_signals H m) all_copies) h) in
        let (n, w, x) = of_concat (read_at m p) s (key_nodes H (key_of H m p)) v in
        (p, n, node_has m p n (listed_valid (suc H.modules) m p u) w, Memᴰ.cases_cons x)

    listed_is : (s : Signal) → Source s → IsSignal H m s.0 s.1
    listed_is s (p, n, h, inl e) = subst⁻¹ (λ (z : Signal). IsSignal H m z.0 z.1) e (has_signal m p n h)
    listed_is s (p, n, h, inr u) = read_signal m p n s.0 s.1 h (reads_read H L m p n s u)

    origin_listed : (s : Signal) → Origin m s.0 s.1 → s ∈ opened_signals H m
    origin_listed s (inl h) = has_listed s.0 s.1 h
    origin_listed s (inr (t, h, u)) = read_listed t.0 t.1 s h u

    -- the list has all the signals, and no others
    pub signals_complete : (s : Signal) → s ∈ opened_signals H m ↔ IsSignal H m s.0 s.1
    signals_complete s = (λ h. listed_is s (listed_from s h), λ h. origin_listed s (signal_origin m s.0 s.1 h))

    signals_closed : (s r : Signal) → s ∈ opened_signals H m → r ∈ signal_reads H m s → r ∈ opened_signals H m
    signals_closed s r h u = let (p, n, g, e) = listed_from s h in read_listed s.0 s.1 r (reader m p n s r g u e) u

    signals_once : Once (opened_signals H m)
    unfolding opened_signals
    signals_once = each_once_once same_signal signal_yes signal_refl (concat_map (copy_signals H m) all_copies)

    pub signals_listed : Listing H m (opened_signals H m)
    signals_listed = record { same = signal_same; once = signals_once; closed = signals_closed }

    -- a signal that is read and reads is listed
    between_listed : (q s t : Signal) → s ∈ signal_reads H m q → t ∈ signal_reads H m s → s ∈ opened_signals H m
    between_listed q s t h u = pick (target m q.0 q.1 s.0 s.1 (reads_read H L m q.0 q.1 s h))
      where
        pick : Has m s.0 s.1 ⊎ ((o : ℕ) × (s.1 ≡ signal o)) → s ∈ opened_signals H m
        pick (inl g) = has_listed s.0 s.1 g
        pick (inr g) = has_listed s.0 s.1 (source m s.0 s.1 g.0 t.0 t.1 g.1 (reads_read H L m s.0 s.1 t u))

    -- so is the first of a closed walk
    pub walk_listed : (s t : Signal) (l : List Signal) → ClosedWalk (signal_reads H m) (s ∷ t ∷ l) → s ∈ opened_signals H m
    walk_listed s t l ((h, c), e) = let r = before s t l h c in between_listed r.0 s t (subst (λ z. z ∈ signal_reads H m r.0) e r.1) h
      where
        before : (s t : Signal) (l : List Signal) → t ∈ signal_reads H m s → Chain (signal_reads H m) t l → (q : Signal) × (last t l ∈ signal_reads H m q)
        before s t [] h c = (s, h)
        before s t (u ∷ l) h c = before t u l c.0 c.1
