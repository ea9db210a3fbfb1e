-- Copies of an opened design: the instance at a position, what a signal reads there, as a relation, and the keys that copies lead to.
-- Assumes nothing.
use Prim.Native.Nat.{ℕ}
use mathlib.Core.Path.{◌≡◌, refl, sym, ◌∙◌, ap, subst, subst⁻¹}
use mathlib.Core.Bool.{Bool, true, false, ◌&&◌, true≢false, false≢true}
use mathlib.Core.Logic.{◌⊎◌, inl, inr}
use mathlib.Core.List.Memᴰ
use mathlib.Core.List.{List, [], ◌∷◌, ◌++◌, map}
use mathlib.Core.Option.{Option, some, none, some-injective, none-ne-some}
use lib.Dec.{eqb}
use lib.IntN.{ℤ}
use borrow.Author.Tests.{eqb-true, eq-eqb}
use Rattle.spec.specs.Syntax.{Kind, in_kind, out_kind, wire_kind, reg_kind, mem_kind, inst_kind}
use Rattle.spec.specs.Edge.{Node, signal, inst_out, same_index, all_reads}
use Rattle.spec.specs.Summary.{is_input}
use Rattle.spec.specs.Graph.{◌∈◌, Chain, last}
use Rattle.spec.specs.Hierarchy.{Connection, Instance, Hierarchy, ReadAt, by_line, by_connection, instance_at, instance_targets, targets, Leads, From, WellFormed}
use Rattle.spec.specs.Opened.{Copy, Signal, here, under, connections_to, named, output_reads, input_reads, opened_reads, signal_reads}
use Rattle.spec.proofs.Numbers.{if_case}
use Rattle.spec.proofs.Nodes.{and_parts, same_index_yes, same_index_refl, read_by}

-- signals are no instance outputs
IsSignal : Node → Type 0
IsSignal (signal n) = Unit {0}
IsSignal (inst_out j x o) = ⊥

pub signal_is_no_out : {n j o : ℕ} {x : Option ℤ} → ¬ (signal n ≡ inst_out j x o)
unfolding IsSignal
signal_is_no_out e = subst IsSignal e tt

module _ {Key : Type 0} where
  at_list : (k : ℕ) (is : List (Instance Key)) (i : Instance Key) → instance_at k is ≡ some i → (i ∈ is) × (i.position ≡ k)
  unfolding instance_at
  at_list k [] i e = absurd (none-ne-some i e)
  at_list k (i' ∷ is) i e = go (at_list k is i) (eqb i'.position k) refl e
    where
      go : (instance_at k is ≡ some i → (i ∈ is) × (i.position ≡ k)) → (b : Bool) → eqb i'.position k ≡ b
          → elim b as (λ z. Option (Instance Key)) [ true ↦ some i' | false ↦ instance_at k is ] ≡ some i → (i ∈ (i' ∷ is)) × (i.position ≡ k)
      go on true q h = let s : i' ≡ i = some-injective i' i h in (Memᴰ.head (sym s), ap (λ z. z.position) (sym s) ∙ eqb-true i'.position k q)
      go on false q h = let r = on h in (Memᴰ.tail r.0, r.1)

  -- the instances of a name and index
  pub in_named : {i : Instance Key} {is : List (Instance Key)} → i ∈ is → i.position ∈ named i.name i.index is
  unfolding named
  in_named {i} (Memᴰ.head {x = i'} {xs = is} e) =
      rw (subst (λ z. eqb i.name z.name ≡ true) e (eq-eqb i.name i.name refl), subst (λ z. same_index i.index z.index ≡ true) e (same_index_refl i.index), named)
      (Memᴰ.head (ap (λ z. z.position) e))
  in_named {i} (Memᴰ.tail {x = i'} {xs = is} m) =
      let k = in_named m in
      if_case (λ (l : List ℕ). i.position ∈ l) (eqb i.name i'.name && same_index i.index i'.index) _ _ (λ e. Memᴰ.tail k) (λ e. k)

  abbrev Named : List (Instance Key) → ℕ → Option ℤ → ℕ → Type 0
  Named is j x k = (i : Instance Key) × (i ∈ is) × (i.position ≡ k) × (j ≡ i.name) × (x ≡ i.index)

  of_named : (j : ℕ) (x : Option ℤ) (k : ℕ) (is : List (Instance Key)) → k ∈ named j x is → Named is j x k
  unfolding named
  of_named j x k [] m = absurd (Memᴰ.not-nil m)
  of_named j x k (i ∷ is) m = go (of_named j x k is) (eqb j i.name && same_index x i.index) refl m
    where
      more : Named is j x k → Named (i ∷ is) j x k
      more r = (r.0, Memᴰ.tail r.1, r.2, r.3, r.4)

      first_or : (k ∈ named j x is → Named is j x k) → (eqb j i.name && same_index x i.index) ≡ true → (k ≡ i.position) ⊎ (k ∈ named j x is) → Named (i ∷ is) j x k
      first_or on e (inl q) = let r = and_parts (eqb j i.name) (same_index x i.index) e in (i, Memᴰ.head refl, sym q, eqb-true j i.name r.0, same_index_yes x i.index r.1)
      first_or on e (inr h) = more (on h)

      go : (k ∈ named j x is → Named is j x k) → (b : Bool) → (eqb j i.name && same_index x i.index) ≡ b
          → k ∈ (elim b as (λ z. List ℕ) [ true ↦ i.position ∷ named j x is | false ↦ named j x is ]) → Named (i ∷ is) j x k
      go on true e h = first_or on e (Memᴰ.cases_cons h)
      go on false e h = more (on h)

  -- the keys of instances
  pub in_targets : {i : Instance Key} {is : List (Instance Key)} → i ∈ is → i.target ∈ instance_targets is
  unfolding instance_targets
  in_targets (Memᴰ.head e) = Memᴰ.head (ap (λ z. z.target) e)
  in_targets (Memᴰ.tail m) = Memᴰ.tail (in_targets m)

  pub of_targets : (is : List (Instance Key)) (t : Key) → t ∈ instance_targets is → (i : Instance Key) × (i ∈ is) × (t ≡ i.target)
  unfolding instance_targets
  of_targets [] t h = absurd (Memᴰ.not-nil h)
  of_targets (j ∷ is) t h = pick (of_targets is t) (Memᴰ.cases_cons h)
    where
      pick : (t ∈ instance_targets is → (i : Instance Key) × (i ∈ is) × (t ≡ i.target)) → (t ≡ j.target) ⊎ (t ∈ instance_targets is) → (i : Instance Key) × (i ∈ (j ∷ is)) × (t ≡ i.target)
      pick on (inl e) = (j, Memᴰ.head refl, e)
      pick on (inr k) = let r = on k in (r.0, Memᴰ.tail r.1, r.2)

-- what is read at a key: by its lines, and by a connection to an input
abbrev pub FedBy : ℕ → Node → List Connection → Type 0
FedBy q x cs = (c : Connection) × (c ∈ cs) × (c.port ≡ q) × (x ∈ c.nodes)

pub fed_by : (q : ℕ) (x : Node) (cs : List Connection) → x ∈ connections_to q cs → FedBy q x cs
unfolding connections_to
fed_by q x [] h = absurd (Memᴰ.not-nil h)
fed_by q x (c ∷ cs) h = go (fed_by q x cs) (eqb q c.port) refl h
  where
    more : FedBy q x cs → FedBy q x (c ∷ cs)
    more r = (r.0, Memᴰ.tail r.1, r.2, r.3)

    pick : (x ∈ connections_to q cs → FedBy q x cs) → eqb q c.port ≡ true → (x ∈ c.nodes) ⊎ (x ∈ connections_to q cs) → FedBy q x (c ∷ cs)
    pick on e (inl u) = (c, Memᴰ.head refl, sym (eqb-true q c.port e), u)
    pick on e (inr u) = more (on u)

    go : (x ∈ connections_to q cs → FedBy q x cs) → (b : Bool) → eqb q c.port ≡ b
        → x ∈ (elim b as (λ z. List Node) [ true ↦ c.nodes ++ connections_to q cs | false ↦ connections_to q cs ]) → FedBy q x (c ∷ cs)
    go on true e u = pick on e (Memᴰ.append_cases c.nodes u)
    go on false e u = more (on u)

pub fed_in : (q : ℕ) (x : Node) (cs : List Connection) → FedBy q x cs → x ∈ connections_to q cs
unfolding connections_to
fed_in q x [] (c, i, e, u) = absurd (Memᴰ.not-nil i)
fed_in q x (c ∷ cs) (b, i, e, u) = go (λ j. fed_in q x cs (b, j, e, u)) (eqb q c.port) refl (Memᴰ.cases_cons i)
  where
    go : (b ∈ cs → x ∈ connections_to q cs) → (v : Bool) → eqb q c.port ≡ v → (b ≡ c) ⊎ (b ∈ cs) → x ∈ (elim v as (λ z. List Node) [ true ↦ c.nodes ++ connections_to q cs | false ↦ connections_to q cs ])
    go on true f (inl d) = Memᴰ.append_left (connections_to q cs) (subst (λ (z : Connection). x ∈ z.nodes) d u)
    go on true f (inr j) = Memᴰ.append_right c.nodes (on j)
    go on false f (inl d) = absurd (true≢false (sym (eq-eqb q c.port (sym e ∙ ap (λ z. z.port) d)) ∙ f))
    go on false f (inr j) = on j

module _ (H : Hierarchy) where
  pub read_own : (m : H.Key) (n : Node) {x : Node} → x ∈ all_reads (H.own m) n → ReadAt H m x
  read_own m n h = let (g, i, e, u) = read_by (H.own m) n h in by_line g i u

  pub read_fed : (m : H.Key) (i : Instance H.Key) (q : ℕ) {x : Node} → i ∈ H.inside m → H.kind i.target q ≡ some in_kind → x ∈ connections_to q i.connections → ReadAt H m x
  read_fed m i q {x} u k h = let (c, j, e, v) = fed_by q x i.connections h in by_connection i c u j (ap (H.kind i.target) e ∙ k) v

-- kinds
pub input_kind : (k : Option Kind) → is_input k ≡ true → k ≡ some in_kind
input_kind none e = absurd (false≢true e)
input_kind (some in_kind) e = refl
input_kind (some out_kind) e = absurd (false≢true e)
input_kind (some wire_kind) e = absurd (false≢true e)
input_kind (some reg_kind) e = absurd (false≢true e)
input_kind (some mem_kind) e = absurd (false≢true e)
input_kind (some inst_kind) e = absurd (false≢true e)

module _ (H : Hierarchy) where
  -- the instance of a key at a position
  abbrev pub At : H.Key → ℕ → Instance H.Key → Type 0
  At m k i = instance_at k (H.inside m) ≡ some i

  pub at_one : (m : H.Key) (k : ℕ) {i j : Instance H.Key} → At m k i → At m k j → i ≡ j
  at_one m k {i = i} {j = j} a b = some-injective i j (sym a ∙ b)

  pub at_in : (m : H.Key) (k : ℕ) {i : Instance H.Key} → At m k i → i ∈ H.inside m
  at_in m k {i} a = (at_list k (H.inside m) i a).0

  pub at_position : (m : H.Key) (k : ℕ) {i : Instance H.Key} → At m k i → i.position ≡ k
  at_position m k {i} a = (at_list k (H.inside m) i a).1

  -- what a key leads to
  pub leads_here : (m : H.Key) → Leads H m m
  leads_here m = ([], tt, refl)

  pub leads_inside : (m t : H.Key) (i : Instance H.Key) → i ∈ H.inside m → Leads H i.target t → Leads H m t
  leads_inside m t i u (l, c, e) = (i.target ∷ l, (in_targets u, c), e)

  pub from_inside : (P : H.Key → Type 0) (m : H.Key) (i : Instance H.Key) → i ∈ H.inside m → From H P m → From H P i.target
  from_inside P m i u f t r = f t (leads_inside m t i u r)

  pub from_leads : (P : H.Key → Type 0) (m t : H.Key) → Leads H m t → From H P m → From H P t
  from_leads P m t (l, c, e) = along m l c e
    where
      along : (m : H.Key) (l : List H.Key) → Chain (targets H) m l → last m l ≡ t → From H P m → From H P t
      along m [] c e f = subst (λ z. From H P z) e f
      along m (k ∷ l) c e f =
          let r = of_targets (H.inside m) k c.0 in
          along k l c.1 e (subst⁻¹ (λ z. From H P z) r.2 (from_inside P m r.0 r.1 f))

module _ (H : Hierarchy) where
  -- down from an instance output into a copy; up from a copy's input
  abbrev pub Down : H.Key → ℕ → Node → Node → Type 0
  Down m k n x = (i : Instance H.Key) × (o : ℕ) × At H m k i × (n ≡ inst_out i.name i.index o) × (x ≡ signal o)

  abbrev pub Up : H.Key → ℕ → Node → Node → Type 0
  Up m k n x = (i : Instance H.Key) × (q : ℕ) × At H m k i × (n ≡ signal q) × (H.kind i.target q ≡ some in_kind) × (x ∈ connections_to q i.connections)

  -- what a signal reads, the outermost instance first
  abbrev pub Read : H.Key → Copy → Node → Copy → Node → Type 0
  Read m [] n [] x = x ∈ all_reads (H.own m) n
  Read m [] n (k ∷ []) x = Down m k n x
  Read m [] n (k ∷ j ∷ q) x = ⊥
  Read m (k ∷ []) n [] x = Up m k n x
  Read m (k ∷ j ∷ p) n [] x = ⊥
  Read m (k ∷ p) n (j ∷ q) x = (i : Instance H.Key) × At H m k i × (k ≡ j) × Read i.target p n q x

module _ (H : Hierarchy) (L : WellFormed H) where
  output_read : (m : H.Key) (n : Node) (t : Signal) → t ∈ output_reads (H.inside m) n → Read H m [] n t.0 t.1
  unfolding output_reads
  output_read m (signal n) t h = absurd (Memᴰ.not-nil h)
  output_read m (inst_out j x o) t h =
      let r = Memᴰ.of_map (λ k. (k ∷ [], signal o)) (named j x (H.inside m)) h in
      let f = of_named j x r.0 (H.inside m) r.1 in
      let a : At H m r.0 f.0 = subst (λ z. At H m z f.0) f.2 (L.placed m f.0 f.1) in
      let e : inst_out j x o ≡ inst_out f.0.name f.0.index o = λ t. inst_out (f.3 t) (f.4 t) o in
      subst (λ (z : Signal). Read H m [] (inst_out j x o) z.0 z.1) r.2 (f.0, o, a, e, refl)

  input_read : (m : H.Key) (k : ℕ) (i : Instance H.Key) (p : Copy) (n x : Node) → At H m k i → x ∈ input_reads H i p n → Read H m (k ∷ p) n [] x
  unfolding input_reads
  input_read m k i (j ∷ p) n x a h = absurd (Memᴰ.not-nil h)
  input_read m k i [] (inst_out j y o) x a h = absurd (Memᴰ.not-nil h)
  input_read m k i [] (signal q) x a h = go (is_input (H.kind i.target q)) refl h
    where
      go : (b : Bool) → is_input (H.kind i.target q) ≡ b → x ∈ (elim b as (λ z. List Node) [ true ↦ connections_to q i.connections | false ↦ [] ]) → Up H m k (signal q) x
      go true e u = (i, q, a, refl, input_kind (H.kind i.target q) e, u)
      go false e u = absurd (Memᴰ.not-nil u)

  pub reads_read : (m : H.Key) (p : Copy) (n : Node) (t : Signal) → t ∈ opened_reads H m p n → Read H m p n t.0 t.1
  unfolding opened_reads
  reads_read m [] n t h = cases (Memᴰ.append_cases (map here (all_reads (H.own m) n)) h)
    where
      cases : (t ∈ map here (all_reads (H.own m) n)) ⊎ (t ∈ output_reads (H.inside m) n) → Read H m [] n t.0 t.1
      cases (inl u) = let r = Memᴰ.of_map here (all_reads (H.own m) n) u in subst (λ (z : Signal). Read H m [] n z.0 z.1) r.2 r.1
      cases (inr u) = output_read m n t u
  reads_read m (k ∷ p) n t h = go (λ i s. reads_read i.target p n s) (instance_at k (H.inside m)) refl h
    where
      cases : (i : Instance H.Key) → At H m k i → ((s : Signal) → s ∈ opened_reads H i.target p n → Read H i.target p n s.0 s.1)
          → (t ∈ map here (input_reads H i p n)) ⊎ (t ∈ map (under k) (opened_reads H i.target p n)) → Read H m (k ∷ p) n t.0 t.1
      cases i a on (inl u) = let r = Memᴰ.of_map here (input_reads H i p n) u in subst (λ (z : Signal). Read H m (k ∷ p) n z.0 z.1) r.2 (input_read m k i p n r.0 a r.1)
      cases i a on (inr u) = let r = Memᴰ.of_map (under k) (opened_reads H i.target p n) u in subst (λ (z : Signal). Read H m (k ∷ p) n z.0 z.1) r.2 (i, a, refl, on r.0 r.1)

      go : ((i : Instance H.Key) (s : Signal) → s ∈ opened_reads H i.target p n → Read H i.target p n s.0 s.1) → (v : Option (Instance H.Key)) → instance_at k (H.inside m) ≡ v
          → t ∈ (elim v as (λ z. List Signal) [ none ↦ [] | some i ↦ map here (input_reads H i p n) ++ map (under k) (opened_reads H i.target p n) ]) → Read H m (k ∷ p) n t.0 t.1
      go on none e u = absurd (Memᴰ.not-nil u)
      go on (some i) e u = cases i e (on i) (Memᴰ.append_cases (map here (input_reads H i p n)) u)

module _ (H : Hierarchy) where
  -- the other way, read by read
  pub own_reads : (m : H.Key) (n : Node) {x : Node} → x ∈ all_reads (H.own m) n → here x ∈ signal_reads H m (here n)
  unfolding opened_reads
  own_reads m n h = Memᴰ.append_left (output_reads (H.inside m) n) (Memᴰ.map here h)

  pub down_reads : (m : H.Key) (i : Instance H.Key) (o : ℕ) → i ∈ H.inside m → (i.position ∷ [], signal o) ∈ signal_reads H m (here (inst_out i.name i.index o))
  unfolding opened_reads output_reads
  down_reads m i o h = Memᴰ.append_right (map here (all_reads (H.own m) (inst_out i.name i.index o))) (Memᴰ.map (λ k. (k ∷ [], signal o)) (in_named h))

  pub up_reads : (m : H.Key) (k : ℕ) (i : Instance H.Key) (q : ℕ) {y : Node} → At H m k i → H.kind i.target q ≡ some in_kind → y ∈ connections_to q i.connections → here y ∈ signal_reads H m (k ∷ [], signal q)
  unfolding opened_reads input_reads
  up_reads m k i q {y} a e h =
      rw (a, opened_reads) (Memᴰ.append_left (map (under k) (opened_reads H i.target [] (signal q))) (Memᴰ.map here {l = input_reads H i [] (signal q)} (rw (e, input_reads) h)))

  pub under_reads : (m : H.Key) (k : ℕ) (i : Instance H.Key) (s t : Signal) → At H m k i → t ∈ signal_reads H i.target s → under k t ∈ signal_reads H m (under k s)
  unfolding opened_reads
  under_reads m k i s t a h = rw (a, opened_reads) (Memᴰ.append_right (map here (input_reads H i s.0 s.1)) (Memᴰ.map (under k) h))
