-- What a graph's slice stands for, as nodes, heads and reads are added. Assumes nothing.
use mathlib.Core.Path.{◌≡◌, refl, sym, ◌∙◌, ap}
use mathlib.Core.Bool.{Bool, true, false, ◌||◌, true≢false}
use mathlib.Core.Logic.{◌⊎◌, inl, inr}
use mathlib.Core.List.Memᴰ
use mathlib.Core.List.{List, [], ◌∷◌, ◌++◌, append-nil}
use Prim.Native.Nat.{ℕ, zero, suc, ◌+◌, ◌≤◌, ◌<◌}
use native.Mathlib.Omega.{arith}
use native.Mathlib.Numerals.{add-one}
use native.Mathlib.Nat.{add_assoc}
use lib.ListN.{length, get_or, set, length-set}
use lib.Seq.{get_or-set_same}
use lib.Dec.{eqb, ltb}
use borrow.Author.Tests.{lt-ltb, le-ltb, eqb-true, eqb-false, eq-eqb, ne_eqb}
use Rattle.std.specs.Prelude.{Result, Ok, Err}
use Rattle.spec.specs.Graph.{◌∈◌, Once}
use Rattle.spec.specs.DepthFirst.{among, each_once}
use Rattle.spec.specs.Edge.{Node, same_node, Head, all_nodes, head_nodes, all_reads, reads_of, edges_from, edge_count, over_graph}
use Rattle.spec.specs.FindCycles.{start_of}
use Rattle.spec.proofs.Numbers.{if_case}
use Rattle.spec.proofs.Nodes.{same_node_yes, node_in, headed_all, read_all}
use Rattle.spec.proofs.Lists.{among_yes, among_no}
use Rattle.spec.proofs.HeadLaws.{true_left, true_right}
use Rattle.graph.specs.Table.{count, edge_total, node_words, node_at, start_at, headed_at, nodes_below, source, target, edges_below, out, Linked, pushed, stored, Found, node_of}
use Rattle.graph.specs.Stands.{nodes, edges, Holds, Stands, IsNode, Heading, head_of, Got, Headed, Read, full}
use Rattle.graph.specs.declared.Node as D
use Rattle.graph.specs.declared.Full.{Full}
use Rattle.graph.proofs.Tables.{pick_true, pick_false, miss, linked_same, edges_same, pushed_length, pushed_other, pushed_linked, pushed_edges, pushed_source, pushed_target, source_before, target_before}
use Rattle.graph.proofs.Words.{same_no}
use Rattle.graph.proofs.Heads.{in_among, out_among, more_nodes, nodes_more, more_own, more_other, start_first, start_none, start_other, start_new, heads_other, heads_own, unheaded_reads, unheaded_count, edges_as_many, edge_count_by, node_count_by, grown_nodes, nodes_grown, grown_heads, grown_start, grown_other, grown_reads, grown_read, grown_edges_old, grown_edges_new}

-- an answer that is no number
pub full_else : (a : Result ℕ Full) → ((i : ℕ) → ¬ (a ≡ Ok i)) → a ≡ full
full_else (Ok i) h = absurd (h i refl)
full_else (Err e) h = refl

-- nodes by their numbers
module _ (g : List ℕ) where
  pub in_below : (k i : ℕ) → i < k → node_at g i ∈ nodes_below g k
  unfolding nodes_below
  in_below zero i h = absurd (omega arith)
  in_below (suc k) i h = go (in_below k i) (eqb i k) refl
    where
      go : (i < k → node_at g i ∈ nodes_below g k) → (v : Bool) → eqb i k ≡ v → node_at g i ∈ (node_at g k ∷ nodes_below g k)
      go f true e = Memᴰ.head (ap (node_at g) (eqb-true i k e))
      go f false e = let d = eqb-false i k e in Memᴰ.tail (f (less i k h d))
        where
          less : (i k : ℕ) → i < suc k → ¬ (i ≡ k) → i < k
          less i k h d = omega arith

  pub below_in : (k : ℕ) (n : Node) → n ∈ nodes_below g k → (i : ℕ) × (i < k) × (node_at g i ≡ n)
  unfolding nodes_below
  below_in zero n m = absurd (Memᴰ.not-nil m)
  below_in (suc k) n m = go (below_in k n) (Memᴰ.cases_cons m)
    where
      later : (i : ℕ) × (i < k) × (node_at g i ≡ n) → (i : ℕ) × (i < suc k) × (node_at g i ≡ n)
      later (i, h, e) = (i, omega arith, e)

      go : (n ∈ nodes_below g k → (i : ℕ) × (i < k) × (node_at g i ≡ n)) → (n ≡ node_at g k) ⊎ (n ∈ nodes_below g k) → (i : ℕ) × (i < suc k) × (node_at g i ≡ n)
      go f (inl e) = (k, omega arith, sym e)
      go f (inr m) = later (f m)

  pub length_below : (k : ℕ) → length (nodes_below g k) ≡ k
  unfolding nodes_below
  length_below zero = refl
  length_below (suc k) = ap suc (length_below k)

  -- a node has one number
  pub one_number : (k : ℕ) → Once (nodes_below g k) → (i j : ℕ) → i < k → j < k → node_at g i ≡ node_at g j → i ≡ j
  unfolding nodes_below
  one_number zero o i j a b e = absurd (omega arith)
  one_number (suc k) o i j a b e = go (eqb i k) (eqb j k) refl refl (one_number k o.1 i j)
    where
      less : (i : ℕ) → i < suc k → ¬ (i ≡ k) → i < k
      less i h d = omega arith

      go : (v w : Bool) → eqb i k ≡ v → eqb j k ≡ w → (i < k → j < k → node_at g i ≡ node_at g j → i ≡ j) → i ≡ j
      go true true f h r = eqb-true i k f ∙ sym (eqb-true j k h)
      go true false f h r = absurd (o.0 (Memᴰ.cast (ap (node_at g) (sym (eqb-true i k f)) ∙ e) (in_below k j (less j b (eqb-false j k h)))))
      go false true f h r = absurd (o.0 (Memᴰ.cast (ap (node_at g) (sym (eqb-true j k h)) ∙ sym e) (in_below k i (less i a (eqb-false i k f)))))
      go false false f h r = r (less i a (eqb-false i k f)) (less j b (eqb-false j k h)) e

pub nodes_same : (g h : List ℕ) (k : ℕ) → ((i : ℕ) → i < k → node_at h i ≡ node_at g i) → nodes_below h k ≡ nodes_below g k
unfolding nodes_below
nodes_same g h zero f = refl
nodes_same g h (suc k) f =
    let e = f k (omega arith) in
    let r = nodes_same g h k (λ i l. f i (omega arith)) in
    ap (λ z. z ∷ nodes_below h k) e ∙ ap (λ z. node_at g k ∷ z) r

-- the same node where its four words are the same
pub node_same : (g h : List ℕ) (i : ℕ) → get_or h (2 + i) 0 ≡ get_or g (2 + i) 0 → get_or h (514 + i) 0 ≡ get_or g (514 + i) 0 → get_or h (1026 + i) 0 ≡ get_or g (1026 + i) 0
    → get_or h (1538 + i) 0 ≡ get_or g (1538 + i) 0 → node_at h i ≡ node_at g i
unfolding node_at
node_same g h i p q r s =
    ap (λ z. node_words z (get_or h (514 + i) 0) (get_or h (1026 + i) 0) (get_or h (1538 + i) 0)) p
    ∙ ap (λ z. node_words (get_or g (2 + i) 0) z (get_or h (1026 + i) 0) (get_or h (1538 + i) 0)) q
    ∙ ap (λ z. node_words (get_or g (2 + i) 0) (get_or g (514 + i) 0) z (get_or h (1538 + i) 0)) r
    ∙ ap (λ z. node_words (get_or g (2 + i) 0) (get_or g (514 + i) 0) (get_or g (1026 + i) 0) z) s

-- one node more
module _ (g : List ℕ) (k n x o : ℕ) (sized : 15874 ≤ length g) (few : count g < 512) where
  abbrev after : List ℕ
  after = stored g k n x o

  abbrev i : ℕ
  i = count g

  abbrev s1 : List ℕ
  s1 = set g (2 + i) k

  abbrev s2 : List ℕ
  s2 = set s1 (514 + i) n

  abbrev s3 : List ℕ
  s3 = set s2 (1026 + i) x

  abbrev s4 : List ℕ
  s4 = set s3 (1538 + i) o

  abbrev s5 : List ℕ
  s5 = set s4 (2050 + i) 0

  abbrev s6 : List ℕ
  s6 = set s5 (2562 + i) 0

  pub stored_length : length after ≡ length g
  unfolding stored
  stored_length = simp length-set

  pub stored_other : (j : ℕ) → ¬ (j ≡ 0) → ¬ (j ≡ 2 + i) → ¬ (j ≡ 514 + i) → ¬ (j ≡ 1026 + i) → ¬ (j ≡ 1538 + i) → ¬ (j ≡ 2050 + i) → ¬ (j ≡ 2562 + i)
      → get_or after j 0 ≡ get_or g j 0
  unfolding stored
  stored_other j z a b c d e f =
      miss s6 0 j (i + 1) z ∙ miss s5 (2562 + i) j 0 f ∙ miss s4 (2050 + i) j 0 e ∙ miss s3 (1538 + i) j o d ∙ miss s2 (1026 + i) j x c ∙ miss s1 (514 + i) j n b ∙ miss g (2 + i) j k a

  pub stored_count : count after ≡ suc i
  unfolding stored
  stored_count = get_or-set_same s6 0 (i + 1) 0 (simp length-set (omega arith)) ∙ add-one i

  stored_kind : get_or after (2 + i) 0 ≡ k
  unfolding stored
  stored_kind =
      miss s6 0 (2 + i) (i + 1) (λ e. omega arith) ∙ miss s5 (2562 + i) (2 + i) 0 (λ e. omega arith) ∙ miss s4 (2050 + i) (2 + i) 0 (λ e. omega arith) ∙ miss s3 (1538 + i) (2 + i) o (λ e. omega arith)
      ∙ miss s2 (1026 + i) (2 + i) x (λ e. omega arith) ∙ miss s1 (514 + i) (2 + i) n (λ e. omega arith) ∙ get_or-set_same g (2 + i) k 0 (omega arith)

  stored_name : get_or after (514 + i) 0 ≡ n
  unfolding stored
  stored_name =
      miss s6 0 (514 + i) (i + 1) (λ e. omega arith) ∙ miss s5 (2562 + i) (514 + i) 0 (λ e. omega arith) ∙ miss s4 (2050 + i) (514 + i) 0 (λ e. omega arith) ∙ miss s3 (1538 + i) (514 + i) o (λ e. omega arith)
      ∙ miss s2 (1026 + i) (514 + i) x (λ e. omega arith) ∙ get_or-set_same s1 (514 + i) n 0 (simp length-set (omega arith))

  stored_index : get_or after (1026 + i) 0 ≡ x
  unfolding stored
  stored_index =
      miss s6 0 (1026 + i) (i + 1) (λ e. omega arith) ∙ miss s5 (2562 + i) (1026 + i) 0 (λ e. omega arith) ∙ miss s4 (2050 + i) (1026 + i) 0 (λ e. omega arith) ∙ miss s3 (1538 + i) (1026 + i) o (λ e. omega arith)
      ∙ get_or-set_same s2 (1026 + i) x 0 (simp length-set (omega arith))

  stored_out : get_or after (1538 + i) 0 ≡ o
  unfolding stored
  stored_out =
      miss s6 0 (1538 + i) (i + 1) (λ e. omega arith) ∙ miss s5 (2562 + i) (1538 + i) 0 (λ e. omega arith) ∙ miss s4 (2050 + i) (1538 + i) 0 (λ e. omega arith)
      ∙ get_or-set_same s3 (1538 + i) o 0 (simp length-set (omega arith))

  pub stored_start : start_at after i ≡ 0
  unfolding stored
  stored_start =
      miss s6 0 (2050 + i) (i + 1) (λ e. omega arith) ∙ miss s5 (2562 + i) (2050 + i) 0 (λ e. omega arith) ∙ get_or-set_same s4 (2050 + i) 0 0 (simp length-set (omega arith))

  pub stored_headed : headed_at after i ≡ 0
  unfolding stored
  stored_headed = miss s6 0 (2562 + i) (i + 1) (λ e. omega arith) ∙ get_or-set_same s5 (2562 + i) 0 0 (simp length-set (omega arith))

  pub stored_node : node_at after i ≡ node_words k n x o
  unfolding node_at
  stored_node =
      ap (λ z. node_words z (get_or after (514 + i) 0) (get_or after (1026 + i) 0) (get_or after (1538 + i) 0)) stored_kind
      ∙ ap (λ z. node_words k z (get_or after (1026 + i) 0) (get_or after (1538 + i) 0)) stored_name
      ∙ ap (λ z. node_words k n z (get_or after (1538 + i) 0)) stored_index ∙ ap (node_words k n x) stored_out

  -- what is kept
  pub stored_nodes : (j : ℕ) → j < i → node_at after j ≡ node_at g j
  stored_nodes j h = node_same g after j
      (stored_other (2 + j) (λ e. omega arith) (λ e. omega arith) (λ e. omega arith) (λ e. omega arith) (λ e. omega arith) (λ e. omega arith) (λ e. omega arith))
      (stored_other (514 + j) (λ e. omega arith) (λ e. omega arith) (λ e. omega arith) (λ e. omega arith) (λ e. omega arith) (λ e. omega arith) (λ e. omega arith))
      (stored_other (1026 + j) (λ e. omega arith) (λ e. omega arith) (λ e. omega arith) (λ e. omega arith) (λ e. omega arith) (λ e. omega arith) (λ e. omega arith))
      (stored_other (1538 + j) (λ e. omega arith) (λ e. omega arith) (λ e. omega arith) (λ e. omega arith) (λ e. omega arith) (λ e. omega arith) (λ e. omega arith))

  pub stored_starts : (j : ℕ) → j < i → start_at after j ≡ start_at g j
  stored_starts j h = stored_other (2050 + j) (λ e. omega arith) (λ e. omega arith) (λ e. omega arith) (λ e. omega arith) (λ e. omega arith) (λ e. omega arith) (λ e. omega arith)

  pub stored_heads : (j : ℕ) → j < i → headed_at after j ≡ headed_at g j
  stored_heads j h = stored_other (2562 + j) (λ e. omega arith) (λ e. omega arith) (λ e. omega arith) (λ e. omega arith) (λ e. omega arith) (λ e. omega arith) (λ e. omega arith)

  pub stored_total : edge_total after ≡ edge_total g
  stored_total = stored_other 1 (λ e. omega arith) (λ e. omega arith) (λ e. omega arith) (λ e. omega arith) (λ e. omega arith) (λ e. omega arith) (λ e. omega arith)

  pub stored_table : (j : ℕ) → j < 12800 → get_or after (3074 + j) 0 ≡ get_or g (3074 + j) 0
  stored_table j h = stored_other (3074 + j) (λ e. omega arith) (λ e. omega arith) (λ e. omega arith) (λ e. omega arith) (λ e. omega arith) (λ e. omega arith) (λ e. omega arith)

  pub stored_all : nodes after ≡ node_words k n x o ∷ nodes g
  unfolding nodes_below
  stored_all = ap (nodes_below after) stored_count ∙ ap (λ z. z ∷ nodes_below after i) stored_node ∙ ap (λ z. node_words k n x o ∷ z) (nodes_same g after i stored_nodes)

-- sources and targets that no edge has
module _ (g : List ℕ) (b : ℕ) where
  pub out_none : (s k : ℕ) → ((j : ℕ) → j < k → ¬ (source g b j ≡ s)) → out s (edges_below g b k) ≡ []
  unfolding out edges_below
  out_none s zero f = refl
  out_none s (suc k) f = pick_false (eqb (source g b k) s) _ _ (ne_eqb (source g b k) s (f k (omega arith))) ∙ out_none s k (λ j h. f j (omega arith))

  pub target_none : (s t k : ℕ) → ((j : ℕ) → j < k → ¬ (target g b j ≡ t)) → among eqb t (out s (edges_below g b k)) ≡ false
  unfolding out edges_below among
  target_none s t zero f = refl
  target_none s t (suc k) f =
      let r = target_none s t k (λ j h. f j (omega arith)) in
      if_case (λ z. among eqb t z ≡ false) (eqb (source g b k) s) _ _
      (λ e. pick_false (eqb t (target g b k)) _ _ (ne_eqb t (target g b k) (λ d. f k (omega arith) (sym d))) ∙ r) (λ e. r)

last_or : (j i : ℕ) → j < suc i → (j ≡ i) ⊎ (j < i)
last_or j i h = go (eqb j i) refl
  where
    less : (j i : ℕ) → j < suc i → ¬ (j ≡ i) → j < i
    less j i h d = omega arith

    go : (v : Bool) → eqb j i ≡ v → (j ≡ i) ⊎ (j < i)
    go true e = inl (eqb-true j i e)
    go false e = inr (less j i h (eqb-false j i e))

-- a new node
module _ {g : List ℕ} {hs : List Head} (H : Stands g hs) (k n x o : ℕ) (few : count g < 512) (new : ¬ (node_words k n x o ∈ nodes g)) where
  abbrev w : Node
  w = node_words k n x o

  abbrev after' : List ℕ
  after' = stored g k n x o

  unlisted : ¬ (w ∈ all_nodes hs)
  unlisted i = new (H.all w i)

  unheaded : ¬ (w ∈ head_nodes hs)
  unheaded i = unlisted (headed_all hs i)

  total : edge_total after' ≡ edge_total g
  total = stored_total g k n x o H.sized few

  edges_kept : edges after' ≡ edges g
  edges_kept = ap (edges_below after' 3074) total ∙ edges_same g after' 3074 (edge_total g) H.linked.few (stored_table g k n x o H.sized few)

  node_new : node_at after' (count g) ≡ w
  node_new = stored_node g k n x o H.sized few

  counted : count after' ≡ suc (count g)
  counted = stored_count g k n x o H.sized few

  all' : nodes after' ≡ w ∷ nodes g
  all' = stored_all g k n x o H.sized few

  started' : (j : ℕ) → (j ≡ count g) ⊎ (j < count g) → start_at after' j ≡ start_of hs (node_at after' j)
  started' j (inl e) = rw (e, node_new) (stored_start g k n x o H.sized few ∙ sym (start_none w hs (out_among w (head_nodes hs) unheaded)))
  started' j (inr l) = stored_starts g k n x o H.sized few j l ∙ H.started j l ∙ ap (start_of hs) (sym (stored_nodes g k n x o H.sized few j l))

  headed' : (j : ℕ) → (j ≡ count g) ⊎ (j < count g) → among same_node (node_at after' j) (head_nodes hs) ≡ ltb 0 (headed_at after' j)
  headed' j (inl e) = rw (e, node_new, stored_headed g k n x o H.sized few) (out_among w (head_nodes hs) unheaded)
  headed' j (inr l) = rw (stored_nodes g k n x o H.sized few j l, stored_heads g k n x o H.sized few j l) (H.headed j l)

  unread : (a b : ℕ) → (a ≡ count g) ⊎ (a < count g) → (b ≡ count g) ⊎ (b < count g)
      → among eqb b (out a (edges g)) ≡ among same_node (node_at after' b) (all_reads hs (node_at after' a))
  unfolding among
  unread a b (inl e) q =
      rw (e, node_new, unheaded_reads hs w unheaded)
      (ap (among eqb b) (out_none g 3074 (count g) (edge_total g) (λ j h d. let f = (H.ends j h).0 in omega (arith, f))))
  unread a b (inr l) (inl e) =
      rw (e, node_new) (target_none g 3074 a (count g) (edge_total g) (λ j h d. let f = (H.ends j h).1 in omega (arith, f))
      ∙ sym (out_among w (all_reads hs (node_at after' a)) (λ i. unlisted (read_all hs (node_at after' a) i))))
  unread a b (inr l) (inr m) = rw (stored_nodes g k n x o H.sized few a l, stored_nodes g k n x o H.sized few b m) (H.reads a b l m)

  pub node_holds : Holds after' hs (w ∷ [])
  unfolding edges_from
  node_holds = record {
    sized = let s = H.sized in omega (arith, stored_length g k n x o H.sized few);
    few = omega (arith, counted);
    once = rw all' (new, H.once);
    listed = λ m i. listed' m (Memᴰ.cases_cons (rw all' at i));
    all = λ m i. rw all' (all'' m (Memᴰ.cases_cons i));
    started = λ j l. started' j (last_or j (count g) (rw counted at l));
    headed = λ j l. headed' j (last_or j (count g) (rw counted at l));
    linked = rw total (linked_same g after' 3074 (edge_total g) H.linked (stored_length g k n x o H.sized few) (stored_table g k n x o H.sized few));
    ends = λ j l. ends' j (rw total at l);
    reads_once = λ j. rw edges_kept (H.reads_once j);
    reads = λ a b l m. rw edges_kept (unread a b (last_or a (count g) (rw counted at l)) (last_or b (count g) (rw counted at m)));
    edge_count = total ∙ H.edge_count ∙ sym (ap (edges_from hs) all' ∙ ap (λ z. z + edges_from hs (nodes g)) (unheaded_count hs w unheaded) ∙ omega arith);
  }
    where
      listed' : (m : Node) → (m ≡ w) ⊎ (m ∈ nodes g) → m ∈ (w ∷ all_nodes hs)
      listed' m (inl e) = Memᴰ.head e
      listed' m (inr i) = Memᴰ.tail (H.listed m i)

      all'' : (m : Node) → (m ≡ w) ⊎ (m ∈ all_nodes hs) → m ∈ (w ∷ nodes g)
      all'' m (inl e) = Memᴰ.head e
      all'' m (inr i) = Memᴰ.tail (H.all m i)

      at : (c j : ℕ) → c ≤ 8704 → j < 4096 → get_or after' (3074 + c + j) 0 ≡ get_or g (3074 + c + j) 0
      at c j h l = rw (add_assoc 3074 c j) (stored_table g k n x o H.sized few (c + j) (omega arith))

      ends' : (j : ℕ) → j < edge_total g → (source after' 3074 j < count after') × (target after' 3074 j < count after')
      ends' j l =
          let e = H.ends j l in
          let f = H.linked.few in
          (omega (arith, at 512 j (omega arith) (omega arith), counted, e.0), omega (arith, at 4608 j (omega arith) (omega arith), counted, e.1))

  pub node_is : IsNode after' (count g) w
  node_is = record { within = omega (arith, counted); same = node_new }

  pub node_kept : (j : ℕ) (m : Node) → IsNode g j m → IsNode after' j m
  node_kept j m q = record { within = let h = q.within in omega (arith, counted); same = stored_nodes g k n x o H.sized few j q.within ∙ q.same }

-- the test for a number among numbers
pub number_in : (n : ℕ) (l : List ℕ) → among eqb n l ≡ true → n ∈ l
number_in = among_yes eqb eqb-true (λ n. eq-eqb n n refl)

pub number_out : (n : ℕ) (l : List ℕ) → among eqb n l ≡ false → ¬ (n ∈ l)
number_out = among_no eqb eqb-true (λ n. eq-eqb n n refl)

-- a node that is there
module _ {g : List ℕ} {hs : List Head} (H : Stands g hs) {i : ℕ} {n : Node} (q : IsNode g i n) where
  node_there : n ∈ nodes g
  node_there = Memᴰ.cast (sym q.same) (in_below g (count g) i q.within)

  pub found_holds : Holds g hs (n ∷ [])
  found_holds = record {
    sized = H.sized;
    few = H.few;
    once = H.once;
    listed = λ m j. Memᴰ.tail (H.listed m j);
    all = λ m j. go m (Memᴰ.cases_cons j);
    started = H.started;
    headed = H.headed;
    linked = H.linked;
    ends = H.ends;
    reads_once = H.reads_once;
    reads = H.reads;
    edge_count = H.edge_count;
  }
    where
      go : (m : Node) → (m ≡ n) ⊎ (m ∈ all_nodes hs) → m ∈ nodes g
      go m (inl e) = Memᴰ.cast e node_there
      go m (inr j) = H.all m j

-- a full table of nodes has no place for another
pub no_place : (g : List ℕ) (n : Node) → ((i : ℕ) → i < count g → ¬ (node_at g i ≡ n)) → ¬ (n ∈ nodes g)
no_place g n f i = let (j, h, e) = below_in g (count g) n i in f j h e

-- the ways of `add`
module _ (g : List ℕ) (n : D.Node) {r : ℕ} (F : Found g (node_of n) r) where
  pub add_found : r < count g → (hs : List Head) → Stands g hs → Got (Ok r) g g hs (node_of n)
  add_found h hs H = let q : IsNode g r (node_of n) = record { within = h; same = F.here h } in (found_holds H q, q, λ j m p. p)

  missing : count g ≤ r → ¬ (node_of n ∈ nodes g)
  missing h = let w = F.within in no_place g (node_of n) (λ i l. F.before i (omega arith))

  pub add_full : count g ≤ r → 512 ≤ count g → (g' : List ℕ) (hs : List Head) → Stands g hs → Got full g g' hs (node_of n)
  add_full h f g' hs H = let l = H.few in (omega arith, missing h)

  pub add_new : count g ≤ r → count g < 512 → (k a x o : ℕ) → node_words k a x o ≡ node_of n → {g' : List ℕ} → g' ≡ stored g k a x o
      → {c : ℕ} → c ≡ count g → (hs : List Head) → Stands g hs → Got (Ok c) g g' hs (node_of n)
  add_new h l k a x o e d q hs H =
      let u : ¬ (node_words k a x o ∈ nodes g) = rw e (missing h) in
      rw (d, q, ← e) (node_holds H k a x o l u, node_is H k a x o l u, node_kept H k a x o l u)

-- over the limits, by a list of the nodes, each once
module _ (ks : List Head) (l : List Node) (o : Once l) where
  pub over_nodes : ((n : Node) → n ∈ l → n ∈ all_nodes ks) → ((n : Node) → n ∈ all_nodes ks → n ∈ l) → 512 < length l → over_graph ks ≡ true
  unfolding over_graph
  over_nodes f g h = true_left (ltb 512 (length (each_once same_node (all_nodes ks)))) (ltb 4096 (edge_count ks)) (lt-ltb 512 (length (each_once same_node (all_nodes ks))) (rw (node_count_by ks l o f g) h))

  pub over_edges : ((n : Node) → n ∈ all_nodes ks → n ∈ l) → 4096 < edges_from ks l → over_graph ks ≡ true
  unfolding over_graph
  over_edges f h = true_right (ltb 512 (length (each_once same_node (all_nodes ks)))) (ltb 4096 (edge_count ks)) (lt-ltb 4096 (edge_count ks) (rw (edge_count_by ks l o f) at h))

-- a graph that stands for heads is within the limits
pub stands_within : {g : List ℕ} (hs : List Head) → Stands g hs → over_graph hs ≡ false
unfolding over_graph
stands_within {g} hs H =
    ap (λ z. z || ltb 4096 (edge_count hs)) (le-ltb 512 (length (each_once same_node (all_nodes hs))) (omega (arith, node_count_by hs (nodes g) H.once H.listed H.all, length_below g (count g), H.few)))
    ∙ le-ltb 4096 (edge_count hs) (omega (arith, H.edge_count, edge_count_by hs (nodes g) H.once H.all, H.linked.few))

-- one node too many
module _ {g : List ℕ} {hs : List Head} (H : Stands g hs) (n : Node) (full : count g ≡ 512) (new : ¬ (n ∈ nodes g)) where
  pub full_over : (ks : List Head) → ((m : Node) → m ∈ (n ∷ all_nodes hs) → m ∈ all_nodes ks) → ((m : Node) → m ∈ all_nodes ks → m ∈ (n ∷ all_nodes hs)) → over_graph ks ≡ true
  full_over ks f b = over_nodes ks (n ∷ nodes g) (new, H.once) (λ m i. f m (here m (Memᴰ.cases_cons i))) (λ m i. there m (Memᴰ.cases_cons (b m i)))
      (omega (arith, length_below g (count g), full))
    where
      here : (m : Node) → (m ≡ n) ⊎ (m ∈ nodes g) → m ∈ (n ∷ all_nodes hs)
      here m (inl e) = Memᴰ.head e
      here m (inr i) = Memᴰ.tail (H.listed m i)

      there : (m : Node) → (m ≡ n) ⊎ (m ∈ all_nodes hs) → m ∈ (n ∷ nodes g)
      there m (inl e) = Memᴰ.head e
      there m (inr i) = Memᴰ.tail (H.all m i)

  pub head_over : (start : ℕ) → over_graph (hs ++ head_of n start [] ∷ []) ≡ true
  head_over start = full_over (hs ++ head_of n start [] ∷ []) (λ m i. to m (Memᴰ.cases_cons i)) (λ m i. of m (more_nodes hs (head_of n start []) m i))
    where
      to : (m : Node) → (m ≡ n) ⊎ (m ∈ all_nodes hs) → m ∈ all_nodes (hs ++ head_of n start [] ∷ [])
      to m (inl e) = nodes_more hs (head_of n start []) m (inr (inl e))
      to m (inr i) = nodes_more hs (head_of n start []) m (inl i)

      of : (m : Node) → (m ∈ all_nodes hs) ⊎ ((m ≡ n) ⊎ (m ∈ [])) → m ∈ (n ∷ all_nodes hs)
      of m (inl i) = Memᴰ.tail i
      of m (inr (inl e)) = Memᴰ.head e
      of m (inr (inr i)) = absurd (Memᴰ.not-nil i)

-- a graph whose nodes and edges are those of another
pub record Alike (g g' : List ℕ) : Type 0 where
  pub size : length g' ≡ length g
  pub counts : count g' ≡ count g
  pub totals : edge_total g' ≡ edge_total g
  pub same : (j : ℕ) → j < count g → node_at g' j ≡ node_at g j
  pub table : (j : ℕ) → j < 12800 → get_or g' (3074 + j) 0 ≡ get_or g (3074 + j) 0

pub alike_refl : (g : List ℕ) → Alike g g
alike_refl g = record { size = refl; counts = refl; totals = refl; same = λ j l. refl; table = λ j l. refl }

module _ {g g' : List ℕ} (A : Alike g g') (few : edge_total g ≤ 4096) where
  pub alike_nodes : nodes g' ≡ nodes g
  alike_nodes = ap (nodes_below g') A.counts ∙ nodes_same g g' (count g) A.same

  pub alike_edges : edges g' ≡ edges g
  alike_edges = ap (edges_below g' 3074) A.totals ∙ edges_same g g' 3074 (edge_total g) few A.table

  pub alike_source : (j : ℕ) → j < 4096 → source g' 3074 j ≡ source g 3074 j
  alike_source j l = rw (add_assoc 3074 512 j) (A.table (512 + j) (omega arith))

  pub alike_target : (j : ℕ) → j < 4096 → target g' 3074 j ≡ target g 3074 j
  alike_target j l = rw (add_assoc 3074 4608 j) (A.table (4608 + j) (omega arith))

-- a head with no reads yet
module _ {g g' : List ℕ} {hs : List Head} {x : Node} (H : Holds g hs (x ∷ [])) (start : ℕ) (A : Alike g g') where
  abbrev more : List Head
  more = hs ++ head_of x start [] ∷ []

  same_reads : (n : Node) → all_reads more n ≡ all_reads hs n
  same_reads n = go (same_node n x) refl
    where
      go : (v : Bool) → same_node n x ≡ v → all_reads more n ≡ all_reads hs n
      go true e = rw (same_node_yes n x e) (more_own hs (head_of x start []) ∙ append-nil (all_reads hs x))
      go false e = more_other hs (head_of x start []) n (same_no n x e) ∙ append-nil (all_reads hs n)

  pub headed_holds : ((j : ℕ) → j < count g → start_at g' j ≡ start_of more (node_at g j))
      → ((j : ℕ) → j < count g → among same_node (node_at g j) (head_nodes more) ≡ ltb 0 (headed_at g' j)) → Stands g' more
  unfolding reads_of
  headed_holds st hd = record {
    sized = let s = H.sized in omega (arith, A.size);
    few = let s = H.few in omega (arith, A.counts);
    once = rw (alike_nodes A fw) H.once;
    listed = λ n i. listed' n (Memᴰ.cases_cons (H.listed n (rw (alike_nodes A fw) at i)));
    all = λ n i. rw (alike_nodes A fw) (H.all n (all' n (more_nodes hs (head_of x start []) n i)));
    started = λ j l. let l' : j < count g = rw A.counts at l in rw (A.same j l') (st j l');
    headed = λ j l. let l' : j < count g = rw A.counts at l in rw (A.same j l') (hd j l');
    linked = rw A.totals (linked_same g g' 3074 (edge_total g) H.linked A.size A.table);
    ends = λ j l. let l' : j < edge_total g = rw A.totals at l in
        let e = H.ends j l' in
        (omega (arith, alike_source A fw j (omega (arith, fw)), A.counts, e.0), omega (arith, alike_target A fw j (omega (arith, fw)), A.counts, e.1));
    reads_once = λ j. rw (alike_edges A fw) (H.reads_once j);
    reads = λ a b l m.
        let l' : a < count g = rw A.counts at l in
        let m' : b < count g = rw A.counts at m in
        rw (alike_edges A fw, A.same a l', A.same b m', same_reads (node_at g a)) (H.reads a b l' m');
    edge_count = A.totals ∙ H.edge_count ∙ sym (ap (edges_from more) (alike_nodes A fw) ∙ edges_as_many hs more (nodes g) as_many);
  }
    where
      fw : edge_total g ≤ 4096
      fw = H.linked.few

      listed' : (n : Node) → (n ≡ x) ⊎ (n ∈ all_nodes hs) → n ∈ all_nodes more
      listed' n (inl e) = nodes_more hs (head_of x start []) n (inr (inl e))
      listed' n (inr i) = nodes_more hs (head_of x start []) n (inl i)

      all' : (n : Node) → (n ∈ all_nodes hs) ⊎ ((n ≡ x) ⊎ (n ∈ [])) → n ∈ (x ∷ all_nodes hs)
      all' n (inl i) = Memᴰ.tail i
      all' n (inr (inl e)) = Memᴰ.head e
      all' n (inr (inr i)) = absurd (Memᴰ.not-nil i)

      as_many : (n : Node) → length (reads_of more n) ≡ length (reads_of hs n)
      as_many n = ap (λ z. length (each_once same_node z)) (same_reads n)

-- the ways of `head`
module _ {g : List ℕ} {hs : List Head} {x : Node} (H : Holds g hs (x ∷ [])) {i : ℕ} (q : IsNode g i x) (start : ℕ) where
  apart : (j : ℕ) → j < count g → ¬ (j ≡ i) → ¬ (node_at g j ≡ x)
  apart j l d e = d (one_number g (count g) H.once j i l q.within (e ∙ sym q.same))

  -- it was headed before
  pub head_again : ¬ (headed_at g i ≡ 0) → Heading g hs x start [] i
  head_again z = record {
    stands = headed_holds H start (alike_refl g) (λ j l. H.started j l ∙ sym (old j l (eqb j i) refl)) (λ j l. heads j l (eqb j i) refl ∙ H.headed j l);
    node = q;
  }
    where
      was : among same_node x (head_nodes hs) ≡ true
      was = rw (← q.same) (H.headed i q.within ∙ lt-ltb 0 (headed_at g i) (above (headed_at g i) z))
        where
          above : (m : ℕ) → ¬ (m ≡ 0) → 0 < m
          above m d = omega arith

      old : (j : ℕ) → j < count g → (v : Bool) → eqb j i ≡ v → start_of (hs ++ head_of x start [] ∷ []) (node_at g j) ≡ start_of hs (node_at g j)
      old j l true e = rw (eqb-true j i e, q.same) (start_first x hs (head_of x start [] ∷ []) was)
      old j l false e = start_other hs (head_of x start []) (node_at g j) (apart j l (eqb-false j i e))

      heads : (j : ℕ) → j < count g → (v : Bool) → eqb j i ≡ v
          → among same_node (node_at g j) (head_nodes (hs ++ head_of x start [] ∷ [])) ≡ among same_node (node_at g j) (head_nodes hs)
      heads j l true e = rw (eqb-true j i e, q.same) (heads_own hs (head_of x start []) ∙ sym was)
      heads j l false e = heads_other hs (head_of x start []) (node_at g j) (apart j l (eqb-false j i e))

  -- it is headed now
  abbrev marked : List ℕ
  marked = set (set g (2562 + i) 1) (2050 + i) start

  marked_other : (j : ℕ) → ¬ (j ≡ 2562 + i) → ¬ (j ≡ 2050 + i) → get_or marked j 0 ≡ get_or g j 0
  marked_other j a b = miss (set g (2562 + i) 1) (2050 + i) j start b ∙ miss g (2562 + i) j 1 a

  marked_alike : Alike g marked
  marked_alike =
      let w = q.within in
      let f = H.few in
      record {
        size = simp length-set;
        counts = marked_other 0 (λ e. omega arith) (λ e. omega arith);
        totals = marked_other 1 (λ e. omega arith) (λ e. omega arith);
        same = λ j l. node_same g marked j
            (marked_other (2 + j) (λ e. omega arith) (λ e. omega arith)) (marked_other (514 + j) (λ e. omega arith) (λ e. omega arith))
            (marked_other (1026 + j) (λ e. omega arith) (λ e. omega arith)) (marked_other (1538 + j) (λ e. omega arith) (λ e. omega arith));
        table = λ j l. marked_other (3074 + j) (λ e. omega arith) (λ e. omega arith);
      }

  pub head_first : headed_at g i ≡ 0 → Heading marked hs x start [] i
  head_first z = record {
    stands = headed_holds H start marked_alike (λ j l. starts j l (eqb j i) refl) (λ j l. heads j l (eqb j i) refl);
    node = record { within = rw marked_alike.counts q.within; same = marked_alike.same i q.within ∙ q.same };
  }
    where
      was : among same_node x (head_nodes hs) ≡ false
      was = rw (← q.same) (H.headed i q.within ∙ ap (ltb 0) z)

      starts : (j : ℕ) → j < count g → (v : Bool) → eqb j i ≡ v → start_at marked j ≡ start_of (hs ++ head_of x start [] ∷ []) (node_at g j)
      starts j l true e =
          let w = q.within in
          let f = H.few in
          let s = H.sized in
          rw (eqb-true j i e, q.same)
          (get_or-set_same (set g (2562 + i) 1) (2050 + i) start 0 (simp length-set (omega arith)) ∙ sym (start_new hs (head_of x start []) was))
      starts j l false e =
          let d = eqb-false j i e in
          let f = H.few in
          marked_other (2050 + j) (λ c. omega arith) (λ c. d (omega arith)) ∙ H.started j l ∙ sym (start_other hs (head_of x start []) (node_at g j) (apart j l d))

      heads : (j : ℕ) → j < count g → (v : Bool) → eqb j i ≡ v → among same_node (node_at g j) (head_nodes (hs ++ head_of x start [] ∷ [])) ≡ ltb 0 (headed_at marked j)
      heads j l true e =
          let w = q.within in
          let f = H.few in
          let s = H.sized in
          rw (eqb-true j i e, q.same)
          (heads_own hs (head_of x start []) ∙ sym (ap (ltb 0) (miss (set g (2562 + i) 1) (2050 + i) (2562 + i) start (λ c. omega arith) ∙ get_or-set_same g (2562 + i) 1 0 (omega arith))))
      heads j l false e =
          let d = eqb-false j i e in
          let f = H.few in
          heads_other hs (head_of x start []) (node_at g j) (apart j l d) ∙ H.headed j l ∙ sym (ap (ltb 0) (marked_other (2562 + j) (λ c. d (omega arith)) (λ c. omega arith)))

-- the ways of `read`
module _ {g : List ℕ} {x y : Node} (hs : List Head) (start : ℕ) (rs : List Node) (H : Holds g (hs ++ head_of x start rs ∷ []) (y ∷ [])) {i j : ℕ} (p : IsNode g i x) (q : IsNode g j y) where
  abbrev less : List Head
  less = hs ++ head_of x start rs ∷ []

  abbrev grown : List Head
  grown = hs ++ head_of x start (rs ++ y ∷ []) ∷ []

  -- nothing but y is a new read of x
  other_reads : (a b : ℕ) → a < count g → b < count g → ¬ (a ≡ i) ⊎ ¬ (b ≡ j)
      → among same_node (node_at g b) (all_reads grown (node_at g a)) ≡ among same_node (node_at g b) (all_reads less (node_at g a))
  other_reads a b l m (inl d) = ap (among same_node (node_at g b)) (grown_other hs x start rs y (node_at g a) (λ e. d (one_number g (count g) H.once a i l p.within (e ∙ sym p.same))))
  other_reads a b l m (inr d) = go (same_node (node_at g a) x) refl
    where
      go : (v : Bool) → same_node (node_at g a) x ≡ v → among same_node (node_at g b) (all_reads grown (node_at g a)) ≡ among same_node (node_at g b) (all_reads less (node_at g a))
      go true e = rw (same_node_yes (node_at g a) x e) (grown_reads hs x start rs y (node_at g b) (λ c. d (one_number g (count g) H.once b j m q.within (c ∙ sym q.same))))
      go false e = ap (among same_node (node_at g b)) (grown_other hs x start rs y (node_at g a) (same_no (node_at g a) x e))

  asked : among eqb j (out i (edges g)) ≡ among same_node y (all_reads less x)
  asked = H.reads i j p.within q.within ∙ ap (λ z. among same_node (node_at g j) (all_reads less z)) p.same ∙ ap (λ z. among same_node z (all_reads less x)) q.same

  -- the edge is there
  pub read_again : among eqb j (out i (edges g)) ≡ true → Heading g hs x start (rs ++ y ∷ []) i
  read_again t = record { stands = stands'; node = p }
    where
      was : among same_node y (all_reads less x) ≡ true
      was = sym asked ∙ t

      reads' : (a b : ℕ) → a < count g → b < count g → (v w : Bool) → eqb a i ≡ v → eqb b j ≡ w
          → among same_node (node_at g b) (all_reads less (node_at g a)) ≡ among same_node (node_at g b) (all_reads grown (node_at g a))
      reads' a b l m true true e f = rw (eqb-true a i e, eqb-true b j f, p.same, q.same) (was ∙ sym (grown_read hs x start rs y))
      reads' a b l m true false e f = sym (other_reads a b l m (inr (eqb-false b j f)))
      reads' a b l m false w e f = sym (other_reads a b l m (inl (eqb-false a i e)))

      stands' : Stands g grown
      stands' = record {
        sized = H.sized;
        few = H.few;
        once = H.once;
        listed = λ n k. nodes_grown hs x start rs y n (H.listed n k);
        all = λ n k. H.all n (grown_nodes hs x start rs y n k);
        started = λ a l. H.started a l ∙ sym (grown_start hs x start rs y (node_at g a));
        headed = λ a l. ap (among same_node (node_at g a)) (grown_heads hs x start rs y) ∙ H.headed a l;
        linked = H.linked;
        ends = H.ends;
        reads_once = H.reads_once;
        reads = λ a b l m. H.reads a b l m ∙ reads' a b l m (eqb a i) (eqb b j) refl refl;
        edge_count = H.edge_count ∙ sym (grown_edges_old hs x start rs y (node_in y (all_reads less x) was) (nodes g));
      }

  was_not : among eqb j (out i (edges g)) ≡ false → ¬ (y ∈ all_reads less x)
  was_not t k = true≢false (sym (in_among y (all_reads less x) k) ∙ sym was)
    where
      was : false ≡ among same_node y (all_reads less x)
      was = sym t ∙ asked

  edges_grown : among eqb j (out i (edges g)) ≡ false → edges_from grown (nodes g) ≡ suc (edge_total g)
  edges_grown t =
      grown_edges_new hs x start rs y (was_not t) (nodes g) H.once (Memᴰ.cast (sym p.same) (in_below g (count g) i p.within)) ∙ ap suc (sym H.edge_count)

  -- one edge too many
  pub read_over : among eqb j (out i (edges g)) ≡ false → 4096 ≤ edge_total g → over_graph grown ≡ true
  read_over t f = over_edges grown (nodes g) H.once (λ n k. H.all n (grown_nodes hs x start rs y n k)) (omega (arith, edges_grown t))

  -- the edge is new
  module _ (t : among eqb j (out i (edges g)) ≡ false) (room : edge_total g < 4096) where
    abbrev linkedup : List ℕ
    linkedup = pushed g 3074 (edge_total g) i j

    abbrev grew : List ℕ
    grew = set linkedup 1 (edge_total g + 1)

    low : i < 512
    low = let w = p.within in let f = H.few in omega arith

    grew_low : (k : ℕ) → k < 3074 → ¬ (k ≡ 1) → get_or grew k 0 ≡ get_or g k 0
    grew_low k l d = miss linkedup 1 k (edge_total g + 1) d ∙ pushed_other g 3074 (edge_total g) i j k (λ e. omega arith) (λ e. omega arith) (λ e. omega arith) (λ e. omega arith)

    grew_high : (k : ℕ) → k < 12800 → get_or grew (3074 + k) 0 ≡ get_or linkedup (3074 + k) 0
    grew_high k l = miss linkedup 1 (3074 + k) (edge_total g + 1) (λ e. omega arith)

    grew_size : length grew ≡ length g
    grew_size = length-set linkedup 1 (edge_total g + 1) ∙ pushed_length g 3074 (edge_total g) i j

    grew_total : edge_total grew ≡ suc (edge_total g)
    grew_total = let s = H.sized in get_or-set_same linkedup 1 (edge_total g + 1) 0 (omega (arith, pushed_length g 3074 (edge_total g) i j)) ∙ add-one (edge_total g)

    grew_count : count grew ≡ count g
    grew_count = grew_low 0 (omega arith) (λ e. omega arith)

    grew_node : (k : ℕ) → k < count g → node_at grew k ≡ node_at g k
    grew_node k l =
        let f = H.few in
        node_same g grew k (grew_low (2 + k) (omega arith) (λ e. omega arith)) (grew_low (514 + k) (omega arith) (λ e. omega arith))
        (grew_low (1026 + k) (omega arith) (λ e. omega arith)) (grew_low (1538 + k) (omega arith) (λ e. omega arith))

    grew_nodes : nodes grew ≡ nodes g
    grew_nodes = ap (nodes_below grew) grew_count ∙ nodes_same g grew (count g) grew_node

    grew_linked : Linked grew 3074 (suc (edge_total g))
    grew_linked =
        linked_same linkedup grew 3074 (suc (edge_total g)) (pushed_linked g 3074 (edge_total g) i j H.linked.room room low H.linked)
        (length-set linkedup 1 (edge_total g + 1)) grew_high

    grew_edges : edges grew ≡ (i, j) ∷ edges g
    grew_edges =
        ap (edges_below grew 3074) grew_total ∙ edges_same linkedup grew 3074 (suc (edge_total g)) (omega arith) grew_high
        ∙ pushed_edges g 3074 (edge_total g) i j H.linked.room room low

    at_source : (k : ℕ) → k < 4096 → source grew 3074 k ≡ source linkedup 3074 k
    at_source k l = rw (add_assoc 3074 512 k) (grew_high (512 + k) (omega arith))

    at_target : (k : ℕ) → k < 4096 → target grew 3074 k ≡ target linkedup 3074 k
    at_target k l = rw (add_assoc 3074 4608 k) (grew_high (4608 + k) (omega arith))

    grew_ends : (k : ℕ) → (k ≡ edge_total g) ⊎ (k < edge_total g) → (source grew 3074 k < count grew) × (target grew 3074 k < count grew)
    grew_ends k (inl e) =
        let a = p.within in
        let b = q.within in
        rw (e, grew_count, at_source (edge_total g) room, at_target (edge_total g) room, pushed_source g 3074 (edge_total g) i j H.linked.room room low, pushed_target g 3074 (edge_total g) i j H.linked.room room low)
        (a, b)
    grew_ends k (inr l) =
        rw (grew_count, at_source k (omega arith), at_target k (omega arith), source_before g 3074 (edge_total g) i j H.linked.room room low k l, target_before g 3074 (edge_total g) i j H.linked.room room low k l)
        (H.ends k l)

    out_own : out i ((i, j) ∷ edges g) ≡ j ∷ out i (edges g)
    unfolding out
    out_own = pick_true (eqb i i) _ _ (eq-eqb i i refl)

    out_other : (a : ℕ) → ¬ (a ≡ i) → out a ((i, j) ∷ edges g) ≡ out a (edges g)
    unfolding out
    out_other a d = pick_false (eqb i a) _ _ (ne_eqb i a (λ e. d (sym e)))

    not_in : ¬ (j ∈ out i (edges g))
    not_in = number_out j (out i (edges g)) t

    grew_once : (a : ℕ) (v : Bool) → eqb a i ≡ v → Once (out a (edges grew))
    grew_once a true e = rw (grew_edges, eqb-true a i e, out_own) (not_in, H.reads_once i)
    grew_once a false e = rw (grew_edges, out_other a (eqb-false a i e)) (H.reads_once a)

    grew_reads : (a b : ℕ) → a < count g → b < count g → (v w : Bool) → eqb a i ≡ v → eqb b j ≡ w
        → among eqb b (out a (edges grew)) ≡ among same_node (node_at grew b) (all_reads grown (node_at grew a))
    unfolding among
    grew_reads a b l m true true e f =
        rw (grew_node a l, grew_node b m, grew_edges, eqb-true a i e, eqb-true b j f, p.same, q.same, grown_read hs x start rs y)
        (ap (among eqb j) out_own ∙ pick_true (eqb j j) _ _ (eq-eqb j j refl))
    grew_reads a b l m true false e f =
        let d = eqb-false b j f in
        rw (grew_node a l, grew_node b m, grew_edges)
        (ap (λ z. among eqb b (out z ((i, j) ∷ edges g))) (eqb-true a i e) ∙ ap (among eqb b) out_own ∙ pick_false (eqb b j) _ _ f
        ∙ ap (λ z. among eqb b (out z (edges g))) (sym (eqb-true a i e)) ∙ H.reads a b l m ∙ sym (other_reads a b l m (inr d)))
    grew_reads a b l m false w e f =
        let d = eqb-false a i e in
        rw (grew_node a l, grew_node b m, grew_edges, out_other a d) (H.reads a b l m ∙ sym (other_reads a b l m (inl d)))

    pub read_first : Heading grew hs x start (rs ++ y ∷ []) i
    read_first = record { stands = stands'; node = record { within = rw grew_count p.within; same = grew_node i p.within ∙ p.same } }
      where
        fewer : count g ≤ 512
        fewer = H.few

        stands' : Stands grew grown
        stands' = record {
          sized = let s = H.sized in omega (arith, grew_size);
          few = omega (arith, grew_count, fewer);
          once = rw grew_nodes H.once;
          listed = λ n k. nodes_grown hs x start rs y n (H.listed n (rw grew_nodes at k));
          all = λ n k. rw grew_nodes (H.all n (grown_nodes hs x start rs y n k));
          started = λ a l. let l' : a < count g = rw grew_count at l in
              grew_low (2050 + a) (omega (arith, fewer)) (λ e. omega arith) ∙ H.started a l' ∙ sym (ap (start_of grown) (grew_node a l') ∙ grown_start hs x start rs y (node_at g a));
          headed = λ a l. let l' : a < count g = rw grew_count at l in
              ap (λ z. among same_node z (head_nodes grown)) (grew_node a l') ∙ ap (among same_node (node_at g a)) (grown_heads hs x start rs y) ∙ H.headed a l'
              ∙ ap (ltb 0) (sym (grew_low (2562 + a) (omega (arith, fewer)) (λ e. omega arith)));
          linked = rw grew_total grew_linked;
          ends = λ a l. grew_ends a (last_or a (edge_total g) (rw grew_total at l));
          reads_once = λ a. grew_once a (eqb a i) refl;
          reads = λ a b l m. grew_reads a b (rw grew_count at l) (rw grew_count at m) (eqb a i) (eqb b j) refl refl;
          edge_count = grew_total ∙ sym (ap (edges_from grown) grew_nodes ∙ edges_grown t);
        }

-- what `add` left, taken on by `head` and `read`
module _ (a : Result ℕ Full) (g g' : List ℕ) (hs : List Head) (n : Node) (got : Stands g hs → Got a g g' hs n) (H : Stands g hs) where
  pub got_at : {i : ℕ} → a ≡ Ok i → Got (Ok i) g g' hs n
  got_at e = rw e at (got H)

  pub got_full : a ≡ full → Got full g g' hs n
  got_full e = rw e at (got H)

module _ (a : Result ℕ Full) (g g' : List ℕ) (n : Node) (start : ℕ) (got : (hs : List Head) → Stands g hs → Got a g g' hs n) (hs : List Head) (H : Stands g hs) where
  pub head_full : a ≡ full → Headed full g' hs n start
  head_full e = let f = got_full a g g' hs n (got hs) H e in head_over H n f.0 f.1 start

  module _ {i : ℕ} (e : a ≡ Ok i) {h : ℕ} (d : h ≡ headed_at g' i) where
    pub head_old : ¬ (h ≡ 0) → Headed (Ok i) g' hs n start
    head_old z = let f = got_at a g g' hs n (got hs) H e in head_again f.0 f.1 start (λ c. z (d ∙ c))

    pub head_new : h ≡ 0 → {g'' g''' : List ℕ} → g'' ≡ set g' (2562 + i) 1 → g''' ≡ set g'' (2050 + i) start → Headed (Ok i) g''' hs n start
    head_new z p q = let f = got_at a g g' hs n (got hs) H e in rw (q, p) (head_first f.0 f.1 start (sym d ∙ z))

module _ (a : Result ℕ Full) (g g' : List ℕ) (y : Node) (from : ℕ) (got : (hs : List Head) → Stands g hs → Got a g g' hs y)
    (hs : List Head) (x : Node) (start : ℕ) (rs : List Node) (R : Heading g hs x start rs from) where
  abbrev fewer : List Head
  fewer = hs ++ head_of x start rs ∷ []

  pub read_full : a ≡ full → Read full g' hs x start rs from y
  read_full e =
      let f = got_full a g g' fewer y (got fewer) R.stands e in
      full_over R.stands y f.0 f.1 (hs ++ head_of x start (rs ++ y ∷ []) ∷ []) (nodes_grown hs x start rs y) (grown_nodes hs x start rs y)

  module _ {j : ℕ} (e : a ≡ Ok j) {b : Bool}
      (has : (k : ℕ) → Linked g' 3074 k → from < 512 → b ≡ among eqb j (out from (edges_below g' 3074 k))) where
    abbrev got' : Got (Ok j) g g' fewer y
    got' = got_at a g g' fewer y (got fewer) R.stands e

    own : IsNode g' from x
    own = got'.2 from x R.node

    told : b ≡ among eqb j (out from (edges g'))
    told = let w = own.within in let f = got'.0.few in has (edge_total g') got'.0.linked (omega arith)

    pub read_there : b ≡ true → Read (Ok j) g' hs x start rs from y
    read_there t = read_again hs start rs got'.0 own got'.1 (sym told ∙ t)

    module _ (f : b ≡ false) {k : ℕ} (d : k ≡ edge_total g') where
      pub read_many : 4096 ≤ k → Read full g' hs x start rs from y
      read_many l = read_over hs start rs got'.0 own got'.1 (sym told ∙ f) (omega (arith, d))

      pub read_new : k < 4096 → {g'' g''' : List ℕ} → g'' ≡ pushed g' 3074 k from j → g''' ≡ set g'' 1 (k + 1) → Read (Ok j) g''' hs x start rs from y
      read_new l p q = rw (q, p, d) (read_first hs start rs got'.0 own got'.1 (sym told ∙ f) (omega (arith, d)))
