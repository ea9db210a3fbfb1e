-- Heads with one more behind them, and counts of nodes and edges. Assumes nothing.
use mathlib.Core.Path.{◌≡◌, refl, sym, ◌∙◌, ap}
use mathlib.Core.Bool.{Bool, true, false, true≢false, false≢true}
use mathlib.Core.Logic.{◌⊎◌, inl, inr}
use mathlib.Core.List.Memᴰ
use mathlib.Core.List.{List, [], ◌∷◌, ◌++◌, append_assoc, append-nil}
use Prim.Native.Nat.{ℕ, suc, ◌+◌}
use native.Mathlib.Omega.{arith}
use lib.ListN.{length}
use Rattle.spec.specs.Graph.{◌∈◌, Once}
use Rattle.spec.specs.DepthFirst.{among, each_once}
use Rattle.spec.specs.Edge.{Node, same_node, Head, all_nodes, head_nodes, all_reads, reads_of, edges_from, edge_count}
use Rattle.spec.specs.FindCycles.{start_of}
use Rattle.spec.proofs.Lists.{once_length}
use Rattle.spec.proofs.Numbers.{if_case}
use Rattle.spec.proofs.Nodes.{same_node_yes, same_node_refl, node_in, node_out, each_once_in, in_each_once, each_once_once, reads_of_read, read_reads_of, reads_of_once, reader_headed, headed_all}
use Rattle.graph.specs.Stands.{head_of}
use Rattle.graph.proofs.Words.{same_no, same_test}
use Rattle.graph.proofs.Tables.{pick_true, pick_false}

-- two lists with the same members, each once, are as long as each other
pub same_length : {A : Type 0} (l k : List A) → Once l → Once k → ((a : A) → a ∈ l → a ∈ k) → ((a : A) → a ∈ k → a ∈ l) → length l ≡ length k
same_length l k o p f g = let a = once_length l k o f in let b = once_length k l p g in omega arith

-- membership and its test
pub in_among : (n : Node) (l : List Node) → n ∈ l → among same_node n l ≡ true
in_among n l i = go (among same_node n l) refl
  where
    go : (v : Bool) → among same_node n l ≡ v → among same_node n l ≡ true
    go true e = e
    go false e = absurd (node_out n l e i)

pub out_among : (n : Node) (l : List Node) → ¬ (n ∈ l) → among same_node n l ≡ false
out_among n l i = go (among same_node n l) refl
  where
    go : (v : Bool) → among same_node n l ≡ v → among same_node n l ≡ false
    go true e = absurd (i (node_in n l e))
    go false e = e

-- what a list of heads has, with more heads behind it
pub all_nodes_append : (hs ks : List Head) → all_nodes (hs ++ ks) ≡ all_nodes hs ++ all_nodes ks
unfolding all_nodes
all_nodes_append [] ks = refl
all_nodes_append (h ∷ hs) ks = ap (λ z. h.node ∷ z) (ap (λ z. h.reads ++ z) (all_nodes_append hs ks) ∙ sym (append_assoc h.reads (all_nodes hs) (all_nodes ks)))

pub head_nodes_append : (hs ks : List Head) → head_nodes (hs ++ ks) ≡ head_nodes hs ++ head_nodes ks
unfolding head_nodes
head_nodes_append [] ks = refl
head_nodes_append (h ∷ hs) ks = ap (λ z. h.node ∷ z) (head_nodes_append hs ks)

pub all_reads_append : (n : Node) (hs ks : List Head) → all_reads (hs ++ ks) n ≡ all_reads hs n ++ all_reads ks n
unfolding all_reads
all_reads_append n [] ks = refl
all_reads_append n (h ∷ hs) ks = go (same_node n h.node) (all_reads_append n hs ks)
  where
    go : (v : Bool) → all_reads (hs ++ ks) n ≡ all_reads hs n ++ all_reads ks n
        → elim v as (λ _. List Node) [ true ↦ h.reads ++ all_reads (hs ++ ks) n | false ↦ all_reads (hs ++ ks) n ]
        ≡ elim v as (λ _. List Node) [ true ↦ h.reads ++ all_reads hs n | false ↦ all_reads hs n ] ++ all_reads ks n
    go true e = ap (λ z. h.reads ++ z) e ∙ sym (append_assoc h.reads (all_reads hs n) (all_reads ks n))
    go false e = e

module _ (n : Node) where
  pub start_first : (hs ks : List Head) → among same_node n (head_nodes hs) ≡ true → start_of (hs ++ ks) n ≡ start_of hs n
  unfolding head_nodes among start_of
  start_first [] ks e = absurd (false≢true e)
  start_first (h ∷ hs) ks e = go (start_first hs ks) (same_node n h.node) e
    where
      go : (among same_node n (head_nodes hs) ≡ true → start_of (hs ++ ks) n ≡ start_of hs n) → (v : Bool)
          → ◌≡◌ {A = Bool} (elim v [ true ↦ true | false ↦ among same_node n (head_nodes hs) ]) true
          → ◌≡◌ {A = ℕ} (elim v [ true ↦ h.start | false ↦ start_of (hs ++ ks) n ]) (elim v [ true ↦ h.start | false ↦ start_of hs n ])
      go i true e = refl
      go i false e = i e

  pub start_later : (hs ks : List Head) → among same_node n (head_nodes hs) ≡ false → start_of (hs ++ ks) n ≡ start_of ks n
  unfolding head_nodes among start_of
  start_later [] ks e = refl
  start_later (h ∷ hs) ks e = go (start_later hs ks) (same_node n h.node) e
    where
      go : (among same_node n (head_nodes hs) ≡ false → start_of (hs ++ ks) n ≡ start_of ks n) → (v : Bool)
          → ◌≡◌ {A = Bool} (elim v [ true ↦ true | false ↦ among same_node n (head_nodes hs) ]) false
          → ◌≡◌ {A = ℕ} (elim v [ true ↦ h.start | false ↦ start_of (hs ++ ks) n ]) (start_of ks n)
      go i true e = absurd (true≢false e)
      go i false e = i e

  pub start_none : (hs : List Head) → among same_node n (head_nodes hs) ≡ false → start_of hs n ≡ 0
  unfolding head_nodes among start_of
  start_none [] e = refl
  start_none (h ∷ hs) e = go (start_none hs) (same_node n h.node) e
    where
      go : (among same_node n (head_nodes hs) ≡ false → start_of hs n ≡ 0) → (v : Bool)
          → ◌≡◌ {A = Bool} (elim v [ true ↦ true | false ↦ among same_node n (head_nodes hs) ]) false
          → ◌≡◌ {A = ℕ} (elim v [ true ↦ h.start | false ↦ start_of hs n ]) 0
      go i true e = absurd (true≢false e)
      go i false e = i e

-- one more behind: it is headed, and reads what it reads
module _ (hs : List Head) (h : Head) where
  abbrev more : List Head
  more = hs ++ h ∷ []

  pub more_nodes : (n : Node) → n ∈ all_nodes more → (n ∈ all_nodes hs) ⊎ ((n ≡ h.node) ⊎ (n ∈ h.reads))
  unfolding all_nodes
  more_nodes n i = go (Memᴰ.append_cases (all_nodes hs) (rw (all_nodes_append hs (h ∷ [])) at i))
    where
      inner : (n ∈ h.reads) ⊎ (n ∈ []) → (n ∈ all_nodes hs) ⊎ ((n ≡ h.node) ⊎ (n ∈ h.reads))
      inner (inl k) = inr (inr k)
      inner (inr k) = absurd (Memᴰ.not-nil k)

      split : (n ≡ h.node) ⊎ (n ∈ (h.reads ++ [])) → (n ∈ all_nodes hs) ⊎ ((n ≡ h.node) ⊎ (n ∈ h.reads))
      split (inl e) = inr (inl e)
      split (inr k) = inner (Memᴰ.append_cases h.reads k)

      go : (n ∈ all_nodes hs) ⊎ (n ∈ (h.node ∷ h.reads ++ [])) → (n ∈ all_nodes hs) ⊎ ((n ≡ h.node) ⊎ (n ∈ h.reads))
      go (inl j) = inl j
      go (inr j) = split (Memᴰ.cases_cons j)

  pub nodes_more : (n : Node) → (n ∈ all_nodes hs) ⊎ ((n ≡ h.node) ⊎ (n ∈ h.reads)) → n ∈ all_nodes more
  unfolding all_nodes
  nodes_more n (inl i) = rw (all_nodes_append hs (h ∷ [])) (Memᴰ.append_left (h.node ∷ h.reads ++ []) i)
  nodes_more n (inr (inl e)) = rw (all_nodes_append hs (h ∷ [])) (Memᴰ.append_right (all_nodes hs) (Memᴰ.head e))
  nodes_more n (inr (inr i)) = rw (all_nodes_append hs (h ∷ [])) (Memᴰ.append_right (all_nodes hs) (Memᴰ.tail (Memᴰ.append_left [] i)))

  pub more_heads : (n : Node) → n ∈ head_nodes more → (n ∈ head_nodes hs) ⊎ (n ≡ h.node)
  unfolding head_nodes
  more_heads n i = go (Memᴰ.append_cases (head_nodes hs) (rw (head_nodes_append hs (h ∷ [])) at i))
    where
      split : (n ≡ h.node) ⊎ (n ∈ []) → (n ∈ head_nodes hs) ⊎ (n ≡ h.node)
      split (inl e) = inr e
      split (inr k) = absurd (Memᴰ.not-nil k)

      go : (n ∈ head_nodes hs) ⊎ (n ∈ (h.node ∷ [])) → (n ∈ head_nodes hs) ⊎ (n ≡ h.node)
      go (inl j) = inl j
      go (inr j) = split (Memᴰ.cases_cons j)

  pub heads_more : (n : Node) → (n ∈ head_nodes hs) ⊎ (n ≡ h.node) → n ∈ head_nodes more
  unfolding head_nodes
  heads_more n (inl i) = rw (head_nodes_append hs (h ∷ [])) (Memᴰ.append_left (h.node ∷ []) i)
  heads_more n (inr e) = rw (head_nodes_append hs (h ∷ [])) (Memᴰ.append_right (head_nodes hs) (Memᴰ.head e))

  pub more_own : all_reads more h.node ≡ all_reads hs h.node ++ (h.reads ++ [])
  unfolding all_reads
  more_own = all_reads_append h.node hs (h ∷ []) ∙ ap (λ z. all_reads hs h.node ++ z) (pick_true (same_node h.node h.node) _ _ (same_node_refl h.node))

  pub more_other : (n : Node) → ¬ (n ≡ h.node) → all_reads more n ≡ all_reads hs n ++ []
  unfolding all_reads
  more_other n d = all_reads_append n hs (h ∷ []) ∙ ap (λ z. all_reads hs n ++ z) (go (same_node n h.node) refl)
    where
      go : (v : Bool) → same_node n h.node ≡ v → ◌≡◌ {A = List Node} (elim v [ true ↦ h.reads ++ [] | false ↦ [] ]) []
      go true e = absurd (d (same_node_yes n h.node e))
      go false e = refl

-- a node that is not headed reads nothing
pub unheaded_reads : (hs : List Head) (n : Node) → ¬ (n ∈ head_nodes hs) → all_reads hs n ≡ []
unheaded_reads hs n d = go (all_reads hs n) refl
  where
    go : (l : List Node) → all_reads hs n ≡ l → all_reads hs n ≡ []
    go [] e = e
    go (x ∷ l) e = absurd (d (reader_headed {x = x} hs n (rw e (Memᴰ.head refl))))

pub unheaded_count : (hs : List Head) (n : Node) → ¬ (n ∈ head_nodes hs) → length (reads_of hs n) ≡ 0
unfolding reads_of each_once
unheaded_count hs n d = rw (unheaded_reads hs n d)

-- the edges of nodes: where each reads as many, and where one reads one more
pub edges_as_many : (hs ks : List Head) (l : List Node) → ((n : Node) → length (reads_of ks n) ≡ length (reads_of hs n)) → edges_from ks l ≡ edges_from hs l
unfolding edges_from
edges_as_many hs ks [] f = refl
edges_as_many hs ks (n ∷ l) f = rw (f n, edges_as_many hs ks l f)

module _ (hs ks : List Head) (m : Node) (others : (n : Node) → ¬ (n ≡ m) → length (reads_of ks n) ≡ length (reads_of hs n)) where
  edges_without_it : (l : List Node) → ¬ (m ∈ l) → edges_from ks l ≡ edges_from hs l
  unfolding edges_from
  edges_without_it [] d = refl
  edges_without_it (n ∷ l) d = rw (others n (λ e. d (Memᴰ.head (sym e))), edges_without_it l (λ i. d (Memᴰ.tail i)))

  pub edges_one_more : length (reads_of ks m) ≡ suc (length (reads_of hs m)) → (l : List Node) → Once l → m ∈ l → edges_from ks l ≡ suc (edges_from hs l)
  unfolding edges_from
  edges_one_more e [] o x'' = elim x'' [ ]
  edges_one_more e (n ∷ l) o (Memᴰ.head d) =
      let r = edges_without_it l (λ i. o.0 (Memᴰ.cast (sym d) i)) in
      let f : length (reads_of ks n) ≡ suc (length (reads_of hs n)) = rw (← d) e in
      omega (arith, r)
  edges_one_more e (n ∷ l) o (Memᴰ.tail i) =
      let r = edges_one_more e l o.1 i in
      let f = others n (λ d. o.0 (Memᴰ.cast d i)) in
      omega (arith, r)

-- a list with one node left out
cut : Node → List Node → List Node
cut a [] = []
cut a (b ∷ l) = elim (same_node a b) [ true ↦ cut a l | false ↦ b ∷ cut a l ]

in_cut : {a b : Node} (l : List Node) → b ∈ l → ¬ (b ≡ a) → b ∈ cut a l
unfolding cut
in_cut {a = a} {b = b} [] x'' d = elim x'' [ ]
in_cut {a} {b} (c ∷ l) (Memᴰ.head e) d =
    if_case (λ k. b ∈ k) (same_node a c) _ _ (λ f. absurd (d (e ∙ sym (same_node_yes a c f)))) (λ f. Memᴰ.head e)
in_cut {a} {b} (c ∷ l) (Memᴰ.tail i) d =
    let r = in_cut l i d in
    if_case (λ k. b ∈ k) (same_node a c) _ _ (λ f. r) (λ f. Memᴰ.tail r)

of_cut : (a b : Node) (l : List Node) → b ∈ cut a l → (b ∈ l) × ¬ (b ≡ a)
unfolding cut
of_cut a b [] i = absurd (Memᴰ.not-nil i)
of_cut a b (c ∷ l) i = go (of_cut a b l) (same_node a c) refl i
  where
    later : (b ∈ l) × ¬ (b ≡ a) → (b ∈ (c ∷ l)) × ¬ (b ≡ a)
    later p = (Memᴰ.tail p.0, p.1)

    here : (b ∈ cut a l → (b ∈ l) × ¬ (b ≡ a)) → same_node a c ≡ false → (b ≡ c) ⊎ (b ∈ cut a l) → (b ∈ (c ∷ l)) × ¬ (b ≡ a)
    here f e (inl d) = (Memᴰ.head d, λ z. same_no a c e (sym z ∙ d))
    here f e (inr j) = later (f j)

    go : (b ∈ cut a l → (b ∈ l) × ¬ (b ≡ a)) → (v : Bool) → same_node a c ≡ v
        → b ∈ elim v as (λ _. List Node) [ true ↦ cut a l | false ↦ c ∷ cut a l ] → (b ∈ (c ∷ l)) × ¬ (b ≡ a)
    go f true e i = later (f i)
    go f false e i = here f e (Memᴰ.cases_cons i)

once_cut : (a : Node) (l : List Node) → Once l → Once (cut a l)
unfolding cut
once_cut a [] o = tt
once_cut a (c ∷ l) o =
    let r = once_cut a l o.1 in
    if_case (λ (k : List Node). Once k) (same_node a c) _ _ (λ e. r) (λ e. (λ i. o.0 (of_cut a c l i).0, r))

cut_none : (a : Node) (l : List Node) → ¬ (a ∈ l) → cut a l ≡ l
unfolding cut
cut_none a [] d = refl
cut_none a (c ∷ l) d =
    let r = cut_none a l (λ i. d (Memᴰ.tail i)) in
    if_case (λ k. k ≡ c ∷ l) (same_node a c) _ _ (λ e. absurd (d (Memᴰ.head (same_node_yes a c e)))) (λ e. ap (λ z. c ∷ z) r)

edges_cut : (hs : List Head) (a : Node) (l : List Node) → Once l → a ∈ l → edges_from hs l ≡ length (reads_of hs a) + edges_from hs (cut a l)
unfolding cut edges_from
edges_cut hs a [] o x'' = elim x'' [ ]
edges_cut hs a (c ∷ l) o (Memᴰ.head e) =
    let f : cut a (c ∷ l) ≡ l = pick_true (same_node a c) _ _ (rw e (same_node_refl c)) ∙ cut_none a l (λ i. o.0 (Memᴰ.cast (sym e) i)) in
    ap (λ z. length (reads_of hs z) + edges_from hs l) (sym e) ∙ ap (λ z. length (reads_of hs a) + edges_from hs z) (sym f)
edges_cut hs a (c ∷ l) o (Memᴰ.tail i) =
    let r = edges_cut hs a l o.1 i in
    let f : cut a (c ∷ l) ≡ c ∷ cut a l = pick_false (same_node a c) _ _ (out_same a c (λ e. o.0 (Memᴰ.cast (sym e) i))) in
    let q : edges_from hs (cut a (c ∷ l)) ≡ length (reads_of hs c) + edges_from hs (cut a l) = ap (edges_from hs) f in
    omega (arith, r)
  where
    out_same : (a c : Node) → ¬ (a ≡ c) → same_node a c ≡ false
    out_same a c d = go (same_node a c) refl
      where
        go : (v : Bool) → same_node a c ≡ v → same_node a c ≡ false
        go true e = absurd (d (same_node_yes a c e))
        go false e = e

edges_zero : (hs : List Head) (l : List Node) → ((n : Node) → n ∈ l → length (reads_of hs n) ≡ 0) → edges_from hs l ≡ 0
unfolding edges_from
edges_zero hs [] f = refl
edges_zero hs (n ∷ l) f = let a = f n (Memᴰ.head refl) in let r = edges_zero hs l (λ m i. f m (Memᴰ.tail i)) in omega (arith, r)

-- the same edges, where what stands in k alone reads nothing
pub edges_among : (hs : List Head) (l k : List Node) → Once l → Once k → ((n : Node) → n ∈ l → n ∈ k)
    → ((n : Node) → n ∈ k → ¬ (n ∈ l) → length (reads_of hs n) ≡ 0) → edges_from hs k ≡ edges_from hs l
unfolding edges_from
edges_among hs [] k o p f z = edges_zero hs k (λ n i. z n i Memᴰ.not-nil)
edges_among hs (a ∷ l) k o p f z =
    let r = edges_among hs l (cut a k) o.1 (once_cut a k p) (λ n i. in_cut k (f n (Memᴰ.tail i)) (λ e. o.0 (Memᴰ.cast (sym e) i)))
    (λ n i d. let q = of_cut a n k i in z n q.0 (λ j. neither d q.1 (Memᴰ.cases_cons j))) in
    edges_cut hs a k p (f a (Memᴰ.head refl)) ∙ ap (λ y. length (reads_of hs a) + y) r
  where
    neither : {n : Node} → ¬ (n ∈ l) → ¬ (n ≡ a) → (n ≡ a) ⊎ (n ∈ l) → ⊥
    neither d e (inl c) = e c
    neither d e (inr j) = d j

-- the count of edges, by any list that has each node once
pub edge_count_by : (hs : List Head) (l : List Node) → Once l → ((n : Node) → n ∈ all_nodes hs → n ∈ l) → edges_from hs l ≡ edge_count hs
unfolding edge_count
edge_count_by hs l o f =
    edges_among hs (each_once same_node (head_nodes hs)) l (each_once_once same_node same_node_yes same_node_refl (head_nodes hs)) o
    (λ n i. f n (headed_all hs (each_once_in same_node same_node_yes same_node_refl (head_nodes hs) i)))
    (λ n i d. unheaded_count hs n (λ j. d (in_each_once same_node same_node_yes same_node_refl (head_nodes hs) j)))

-- the count of nodes, by any list that has each once
pub node_count_by : (hs : List Head) (l : List Node) → Once l → ((n : Node) → n ∈ l → n ∈ all_nodes hs) → ((n : Node) → n ∈ all_nodes hs → n ∈ l)
    → length (each_once same_node (all_nodes hs)) ≡ length l
node_count_by hs l o f g =
    same_length (each_once same_node (all_nodes hs)) l (each_once_once same_node same_node_yes same_node_refl (all_nodes hs)) o
    (λ n i. g n (each_once_in same_node same_node_yes same_node_refl (all_nodes hs) i))
    (λ n i. in_each_once same_node same_node_yes same_node_refl (all_nodes hs) (f n i))

-- STARTs and heads with one more behind
module _ (hs : List Head) (h : Head) where
  pub start_other : (n : Node) → ¬ (n ≡ h.node) → start_of (hs ++ h ∷ []) n ≡ start_of hs n
  unfolding start_of
  start_other n d = go (among same_node n (head_nodes hs)) refl
    where
      go : (v : Bool) → among same_node n (head_nodes hs) ≡ v → start_of (hs ++ h ∷ []) n ≡ start_of hs n
      go true e = start_first n hs (h ∷ []) e
      go false e = start_later n hs (h ∷ []) e ∙ pick_false (same_node n h.node) _ _ (apart n h.node d) ∙ sym (start_none n hs e)
        where
          apart : (a b : Node) → ¬ (a ≡ b) → same_node a b ≡ false
          apart a b d = same_test (same_node a b) false (λ e. absurd (d (same_node_yes a b e))) (λ e. absurd (false≢true e))

  pub start_new : among same_node h.node (head_nodes hs) ≡ false → start_of (hs ++ h ∷ []) h.node ≡ h.start
  unfolding start_of
  start_new e = start_later h.node hs (h ∷ []) e ∙ pick_true (same_node h.node h.node) _ _ (same_node_refl h.node)

  pub heads_other : (n : Node) → ¬ (n ≡ h.node) → among same_node n (head_nodes (hs ++ h ∷ [])) ≡ among same_node n (head_nodes hs)
  heads_other n d = same_test _ _ (λ e. in_among n (head_nodes hs) (old (more_heads hs h n (node_in n (head_nodes (hs ++ h ∷ [])) e))))
      (λ e. in_among n (head_nodes (hs ++ h ∷ [])) (heads_more hs h n (inl (node_in n (head_nodes hs) e))))
    where
      old : (n ∈ head_nodes hs) ⊎ (n ≡ h.node) → n ∈ head_nodes hs
      old (inl i) = i
      old (inr e) = absurd (d e)

  pub heads_own : among same_node h.node (head_nodes (hs ++ h ∷ [])) ≡ true
  heads_own = in_among h.node (head_nodes (hs ++ h ∷ [])) (heads_more hs h h.node (inr refl))

-- the last head reads one node more
module _ (hs : List Head) (x : Node) (start : ℕ) (rs : List Node) (y : Node) where
  abbrev less : List Head
  less = hs ++ head_of x start rs ∷ []

  abbrev grown : List Head
  grown = hs ++ head_of x start (rs ++ y ∷ []) ∷ []

  pub grown_nodes : (n : Node) → n ∈ all_nodes grown → n ∈ (y ∷ all_nodes less)
  grown_nodes n i = go (more_nodes hs (head_of x start (rs ++ y ∷ [])) n i)
    where
      last : (n ∈ rs) ⊎ (n ∈ (y ∷ [])) → n ∈ (y ∷ all_nodes less)
      last (inl j) = Memᴰ.tail (nodes_more hs (head_of x start rs) n (inr (inr j)))
      last (inr j) = Memᴰ.head (Memᴰ.eq_of_singleton j)

      go : (n ∈ all_nodes hs) ⊎ ((n ≡ x) ⊎ (n ∈ (rs ++ y ∷ []))) → n ∈ (y ∷ all_nodes less)
      go (inl j) = Memᴰ.tail (nodes_more hs (head_of x start rs) n (inl j))
      go (inr (inl e)) = Memᴰ.tail (nodes_more hs (head_of x start rs) n (inr (inl e)))
      go (inr (inr j)) = last (Memᴰ.append_cases rs j)

  pub nodes_grown : (n : Node) → n ∈ (y ∷ all_nodes less) → n ∈ all_nodes grown
  nodes_grown n i = first (Memᴰ.cases_cons i)
    where
      go : (n ∈ all_nodes hs) ⊎ ((n ≡ x) ⊎ (n ∈ rs)) → n ∈ all_nodes grown
      go (inl j) = nodes_more hs (head_of x start (rs ++ y ∷ [])) n (inl j)
      go (inr (inl e)) = nodes_more hs (head_of x start (rs ++ y ∷ [])) n (inr (inl e))
      go (inr (inr j)) = nodes_more hs (head_of x start (rs ++ y ∷ [])) n (inr (inr (Memᴰ.append_left (y ∷ []) j)))

      first : (n ≡ y) ⊎ (n ∈ all_nodes less) → n ∈ all_nodes grown
      first (inl e) = nodes_more hs (head_of x start (rs ++ y ∷ [])) n (inr (inr (Memᴰ.append_right rs (Memᴰ.head e))))
      first (inr j) = go (more_nodes hs (head_of x start rs) n j)

  pub grown_heads : head_nodes grown ≡ head_nodes less
  unfolding head_nodes
  grown_heads = head_nodes_append hs (head_of x start (rs ++ y ∷ []) ∷ []) ∙ sym (head_nodes_append hs (head_of x start rs ∷ []))

  pub grown_start : (n : Node) → start_of grown n ≡ start_of less n
  unfolding start_of
  grown_start n = go (among same_node n (head_nodes hs)) refl
    where
      go : (v : Bool) → among same_node n (head_nodes hs) ≡ v → start_of grown n ≡ start_of less n
      go true e = start_first n hs (head_of x start (rs ++ y ∷ []) ∷ []) e ∙ sym (start_first n hs (head_of x start rs ∷ []) e)
      go false e = start_later n hs (head_of x start (rs ++ y ∷ []) ∷ []) e ∙ sym (start_later n hs (head_of x start rs ∷ []) e)

  pub grown_other : (n : Node) → ¬ (n ≡ x) → all_reads grown n ≡ all_reads less n
  grown_other n d = more_other hs (head_of x start (rs ++ y ∷ [])) n d ∙ sym (more_other hs (head_of x start rs) n d)

  pub grown_own : all_reads grown x ≡ all_reads less x ++ y ∷ []
  grown_own =
      more_own hs (head_of x start (rs ++ y ∷ [])) ∙ ap (λ z. all_reads hs x ++ z) (append-nil (rs ++ y ∷ []) ∙ ap (λ z. z ++ y ∷ []) (sym (append-nil rs)))
      ∙ sym (append_assoc (all_reads hs x) (rs ++ []) (y ∷ [])) ∙ ap (λ z. z ++ y ∷ []) (sym (more_own hs (head_of x start rs)))

  own_in : (n : Node) → n ∈ all_reads grown x → (n ∈ all_reads less x) ⊎ (n ≡ y)
  own_in n i = go (Memᴰ.append_cases (all_reads less x) (rw grown_own at i))
    where
      go : (n ∈ all_reads less x) ⊎ (n ∈ (y ∷ [])) → (n ∈ all_reads less x) ⊎ (n ≡ y)
      go (inl j) = inl j
      go (inr j) = inr (Memᴰ.eq_of_singleton j)

  in_own : (n : Node) → (n ∈ all_reads less x) ⊎ (n ≡ y) → n ∈ all_reads grown x
  in_own n (inl i) = rw grown_own (Memᴰ.append_left (y ∷ []) i)
  in_own n (inr e) = rw grown_own (Memᴰ.append_right (all_reads less x) (Memᴰ.head e))

  -- the test for a read: nothing but y is new
  pub grown_reads : (n : Node) → ¬ (n ≡ y) → among same_node n (all_reads grown x) ≡ among same_node n (all_reads less x)
  grown_reads n d = same_test _ _ (λ e. in_among n (all_reads less x) (old (own_in n (node_in n (all_reads grown x) e))))
      (λ e. in_among n (all_reads grown x) (in_own n (inl (node_in n (all_reads less x) e))))
    where
      old : (n ∈ all_reads less x) ⊎ (n ≡ y) → n ∈ all_reads less x
      old (inl i) = i
      old (inr e) = absurd (d e)

  pub grown_read : among same_node y (all_reads grown x) ≡ true
  grown_read = in_among y (all_reads grown x) (in_own y (inr refl))

  others : (n : Node) → ¬ (n ≡ x) → length (reads_of grown n) ≡ length (reads_of less n)
  unfolding reads_of
  others n d = ap (λ z. length (each_once same_node z)) (grown_other n d)

  count_own_old : y ∈ all_reads less x → length (reads_of grown x) ≡ length (reads_of less x)
  count_own_old j = same_length (reads_of grown x) (reads_of less x) (reads_of_once grown x) (reads_of_once less x)
      (λ n i. read_reads_of less x (go n (own_in n (reads_of_read grown x i)))) (λ n i. read_reads_of grown x (in_own n (inl (reads_of_read less x i))))
    where
      go : (n : Node) → (n ∈ all_reads less x) ⊎ (n ≡ y) → n ∈ all_reads less x
      go n (inl i) = i
      go n (inr e) = Memᴰ.cast e j

  count_own_new : ¬ (y ∈ all_reads less x) → length (reads_of grown x) ≡ suc (length (reads_of less x))
  count_own_new d = same_length (reads_of grown x) (y ∷ reads_of less x) (reads_of_once grown x) (λ i. d (reads_of_read less x i), reads_of_once less x)
      (λ n i. go n (own_in n (reads_of_read grown x i))) (λ n i. read_reads_of grown x (in_own n (back n (Memᴰ.cases_cons i))))
    where
      go : (n : Node) → (n ∈ all_reads less x) ⊎ (n ≡ y) → n ∈ (y ∷ reads_of less x)
      go n (inl i) = Memᴰ.tail (read_reads_of less x i)
      go n (inr e) = Memᴰ.head e

      back : (n : Node) → (n ≡ y) ⊎ (n ∈ reads_of less x) → (n ∈ all_reads less x) ⊎ (n ≡ y)
      back n (inl e) = inr e
      back n (inr i) = inl (reads_of_read less x i)

  pub grown_edges_old : y ∈ all_reads less x → (l : List Node) → edges_from grown l ≡ edges_from less l
  grown_edges_old j l = edges_as_many less grown l (λ n. go n (same_node n x) refl)
    where
      go : (n : Node) (v : Bool) → same_node n x ≡ v → length (reads_of grown n) ≡ length (reads_of less n)
      go n true e = rw (same_node_yes n x e) (count_own_old j)
      go n false e = others n (same_no n x e)

  pub grown_edges_new : ¬ (y ∈ all_reads less x) → (l : List Node) → Once l → x ∈ l → edges_from grown l ≡ suc (edges_from less l)
  grown_edges_new d l o i = edges_one_more less grown x others (count_own_new d) l o i
