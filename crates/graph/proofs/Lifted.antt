-- Numbers of nodes against nodes: what is reached in the tables is what the specification reaches. Assumes nothing.
use mathlib.Core.Option.{Option}
use lib.IntN.{ℤ}
use mathlib.Core.Path.{◌≡◌, refl, sym, ◌∙◌, ap, subst}
use mathlib.Core.Bool.{Bool, true, false, true≢false, false≢true}
use mathlib.Core.Logic.{◌⊎◌, inl, inr, ◌↔◌}
use mathlib.Core.List.Memᴰ
use mathlib.Core.List.{List, [], ◌∷◌}
use Prim.Native.Nat.{ℕ, zero, suc, ◌+◌, ◌<◌, ◌≤◌}
use native.Mathlib.Omega.{arith}
use lib.ListN.{length, get_or, set, length-set}
use lib.Seq.{get_or-set_same}
use lib.Dec.{eqb, ltb}
use borrow.Author.Tests.{eqb-true, eq-eqb, ne_eqb}
use Rattle.spec.specs.Graph.{◌∈◌, Once, Chain, last}
use Rattle.spec.specs.DepthFirst.{among, search, each_once}
use Rattle.spec.specs.DepthFirstFinds.{Reached, FindsLoops}
use Rattle.spec.specs.Syntax.{Header}
use Rattle.spec.specs.Site.{kind_of}
use Rattle.spec.specs.Edge.{Node, signal, inst_out, same_node, Head, all_nodes, all_reads, reads_of}
use Rattle.spec.specs.Summary.{is_input, onward, inputs_among, inputs_reached}
use Rattle.spec.proofs.Numbers.{if_case}
use Rattle.spec.proofs.Walks.{reached_root, reached_next}
use Rattle.spec.proofs.DepthFirst.{search_finds}
use Rattle.spec.proofs.Nodes.{same_node_yes, same_node_refl, node_in, read_all, reads_of_read, read_reads_of, headed_all}
use Rattle.graph.specs.Table.{count, edge_total, node_words, node_at, source, target, edges_below, out, Found}
use Rattle.graph.specs.Stands.{nodes, edges, Stands}
use Rattle.graph.specs.Reach.{words_below, reached, found, Clean, Queued, Sound, stops, next_of, Flooded, Gathered, names_in, KindsAre, Inputs}
use Rattle.graph.proofs.Words.{signal_not, signal_same, words_signal, kinds_of}
use Rattle.graph.proofs.Tables.{pick_true, pick_false, miss}
use Rattle.graph.proofs.Heads.{in_among, unheaded_reads, same_length}
use Rattle.graph.proofs.Stands.{below_in, one_number, no_place, number_in, number_out}
use Rattle.graph.proofs.Reaching.{words_length, mark_queued, mark_more}

number_among : (t : ℕ) (l : List ℕ) → t ∈ l → among eqb t l ≡ true
number_among t l i = go (among eqb t l) refl
  where
    go : (v : Bool) → among eqb t l ≡ v → among eqb t l ≡ true
    go true e = e
    go false e = absurd (number_out t l e i)

-- what holds of the roots and goes along steps holds of all that is reached
pub reached_ind : {A : Type 0} {next : A → List A} {roots : List A} (P : A → Type 0) → ((r : A) → r ∈ roots → P r) → ((a b : A) → P a → b ∈ next a → P b)
    → (n : A) → Reached next roots n → P n
reached_ind {A} {next} P base step n (r, l, i, c, e) = subst P e (along r l (base r i) c)
  where
    along : (r : A) (l : List A) → P r → Chain next r l → P (last r l)
    along r [] p c = p
    along r (a ∷ l) p c = along a l (step r a p c.0) c.1

-- the inputs among nodes
module _ (header : List Header) (m : ℕ) where
  among_inputs : (l : List Node) → m ∈ inputs_among header l → (is_input (kind_of header m) ≡ true) × (signal m ∈ l)
  unfolding inputs_among
  among_inputs [] i = absurd (Memᴰ.not-nil i)
  among_inputs (signal n ∷ l) i = go (among_inputs l) (is_input (kind_of header n)) refl i
    where
      later : (is_input (kind_of header m) ≡ true) × (signal m ∈ l) → (is_input (kind_of header m) ≡ true) × (signal m ∈ (signal n ∷ l))
      later p = (p.0, Memᴰ.tail p.1)

      here : (m ∈ inputs_among header l → (is_input (kind_of header m) ≡ true) × (signal m ∈ l)) → is_input (kind_of header n) ≡ true
          → (m ≡ n) ⊎ (m ∈ inputs_among header l) → (is_input (kind_of header m) ≡ true) × (signal m ∈ (signal n ∷ l))
      here f e (inl d) = (ap (λ z. is_input (kind_of header z)) d ∙ e, Memᴰ.head (ap signal d))
      here f e (inr j) = later (f j)

      go : (m ∈ inputs_among header l → (is_input (kind_of header m) ≡ true) × (signal m ∈ l)) → (v : Bool) → is_input (kind_of header n) ≡ v
          → m ∈ elim v as (λ _. List ℕ) [ true ↦ n ∷ inputs_among header l | false ↦ inputs_among header l ] → (is_input (kind_of header m) ≡ true) × (signal m ∈ (signal n ∷ l))
      go f true e i = here f e (Memᴰ.cases_cons i)
      go f false e i = later (f i)
  among_inputs (inst_out a x o ∷ l) i = let p = among_inputs l i in (p.0, Memᴰ.tail p.1)

  inputs_out : (l : List Node) → ¬ (signal m ∈ l) → ¬ (m ∈ inputs_among header l)
  inputs_out l d i = d (among_inputs l i).1

  inputs_in : (l : List Node) → is_input (kind_of header m) ≡ true → signal m ∈ l → m ∈ inputs_among header l
  unfolding inputs_among
  inputs_in [] e x'' = elim x'' [ ]
  inputs_in (signal n ∷ l) e (Memᴰ.head d) =
      let f : n ≡ m = eqb-true n m (ap (same_node (signal n)) d ∙ same_node_refl (signal n)) in
      if_case (λ z. m ∈ z) (is_input (kind_of header n)) _ _ (λ h. Memᴰ.head (sym f)) (λ h. absurd (true≢false (sym e ∙ ap (λ z. is_input (kind_of header z)) (sym f) ∙ h)))
  inputs_in (signal n ∷ l) e (Memᴰ.tail i) =
      let r = inputs_in l e i in
      if_case (λ z. m ∈ z) (is_input (kind_of header n)) _ _ (λ h. Memᴰ.tail r) (λ h. r)
  inputs_in (inst_out a x o ∷ l) e (Memᴰ.head d) = absurd (true≢false (sym (same_node_refl (signal m)) ∙ ap (same_node (signal m)) d))
  inputs_in (inst_out a x o ∷ l) e (Memᴰ.tail i) = inputs_in l e i

inputs_once : (header : List Header) (l : List Node) → Once l → Once (inputs_among header l)
unfolding inputs_among
inputs_once header [] o = tt
inputs_once header (signal n ∷ l) o =
    let r = inputs_once header l o.1 in
    if_case (λ (z : List ℕ). Once z) (is_input (kind_of header n)) _ _ (λ h. (inputs_out header n l o.0, r)) (λ h. r)
inputs_once header (inst_out a x p ∷ l) o = inputs_once header l o.1

module _ (header : List Header) (heads : List Head) where
  onward_read : (n m : Node) → m ∈ onward header heads n → m ∈ reads_of heads n
  unfolding onward
  onward_read (signal a) m i = go (is_input (kind_of header a)) i
    where
      go : (v : Bool) → m ∈ elim v as (λ _. List Node) [ true ↦ [] | false ↦ reads_of heads (signal a) ] → m ∈ reads_of heads (signal a)
      go true i = absurd (Memᴰ.not-nil i)
      go false i = i
  onward_read (inst_out a x o) m i = i

  module _ (o : ℕ) where
    abbrev roots : List Node
    roots = signal o ∷ []

    finds : FindsLoops same_node (onward header heads) roots (search same_node (onward header heads) (suc (suc (length (all_nodes heads)))) roots)
    finds = search_finds same_node (onward header heads) same_node_yes same_node_refl roots (signal o ∷ all_nodes heads)
        (λ r i. Memᴰ.head (Memᴰ.eq_of_singleton i)) (λ a b i j. Memᴰ.tail (read_all heads a (reads_of_read heads a (onward_read a b j))))
        (suc (suc (length (all_nodes heads)))) (omega arith)

    -- a name is among the inputs that o reaches
    pub inputs_iff : (m : ℕ) → m ∈ inputs_reached header heads o ↔ ((is_input (kind_of header m) ≡ true) × Reached (onward header heads) roots (signal m))
    unfolding inputs_reached
    inputs_iff m = (
      λ i. let p = among_inputs header m (search same_node (onward header heads) (suc (suc (length (all_nodes heads)))) roots).left i in (p.0, all.0 p.1),
      λ p. inputs_in header m (search same_node (onward header heads) (suc (suc (length (all_nodes heads)))) roots).left p.0 (all.1 p.1),
    )
      where
        all : signal m ∈ (search same_node (onward header heads) (suc (suc (length (all_nodes heads)))) roots).left ↔ Reached (onward header heads) roots (signal m)
        all = finds.all (signal m)

    pub reached_once : Once (inputs_reached header heads o)
    unfolding inputs_reached
    reached_once = inputs_once header (search same_node (onward header heads) (suc (suc (length (all_nodes heads)))) roots).left finds.once

    -- where nothing follows o, it is all that is reached
    pub alone : onward header heads (signal o) ≡ [] → (n : Node) → Reached (onward header heads) roots n → n ≡ signal o
    alone e n = reached_ind (λ z. z ≡ signal o) (λ r i. Memᴰ.eq_of_singleton i)
        (λ a b p i. let j : b ∈ [] = rw (p, e) at i in absurd (Memᴰ.not-nil j)) n

open_signal : (header : List Header) (heads : List Head) (m : ℕ) → is_input (kind_of header m) ≡ false → onward header heads (signal m) ≡ reads_of heads (signal m)
unfolding onward
open_signal header heads m e = pick_false (is_input (kind_of header m)) _ _ e

open_output : (header : List Header) (heads : List Head) (a : ℕ) (x : Option ℤ) (o : ℕ) → onward header heads (inst_out a x o) ≡ reads_of heads (inst_out a x o)
unfolding onward
open_output header heads a x o = refl

-- a node's words where it is a signal
module _ (g : List ℕ) (i m : ℕ) (e : node_at g i ≡ signal m) where
  is_signal : same_node (node_words (get_or g (2 + i) 0) (get_or g (514 + i) 0) (get_or g (1026 + i) 0) (get_or g (1538 + i) 0)) (signal m) ≡ true
  unfolding node_at
  is_signal = ap (λ z. same_node z (signal m)) e ∙ same_node_refl (signal m)

  signal_kind : get_or g (2 + i) 0 ≡ 0
  signal_kind = go (kinds_of (get_or g (2 + i) 0) (get_or g (514 + i) 0) (get_or g (1026 + i) 0) (get_or g (1538 + i) 0))
    where
      never : ¬ (get_or g (2 + i) 0 ≡ 0) → ⊥
      never d = true≢false (sym is_signal ∙ sym (signal_not (get_or g (2 + i) 0) (get_or g (514 + i) 0) (get_or g (1026 + i) 0) (get_or g (1538 + i) 0) m d))

      go : (get_or g (2 + i) 0 ≡ 0) ⊎ ((get_or g (2 + i) 0 ≡ 1) ⊎ (2 ≤ get_or g (2 + i) 0)) → get_or g (2 + i) 0 ≡ 0
      go (inl z) = z
      go (inr (inl z)) = absurd (never (λ y. let x : ◌≡◌ {A = ℕ} 0 1 = sym y ∙ z in omega arith))
      go (inr (inr z)) = absurd (never (λ y. omega (arith, z)))

  signal_name : get_or g (514 + i) 0 ≡ m
  signal_name = eqb-true _ _ (signal_same (get_or g (2 + i) 0) (get_or g (514 + i) 0) (get_or g (1026 + i) 0) (get_or g (1538 + i) 0) m signal_kind ∙ is_signal)

-- where the search stops and goes on, by the nodes
module _ (g kinds : List ℕ) (header : List Header) (heads : List Head) (K : KindsAre kinds header) (i : ℕ) where
  name : ℕ
  name = get_or g (514 + i) 0

  stop_signal : stops g kinds i ≡ true → (node_at g i ≡ signal (get_or g (514 + i) 0)) × (is_input (kind_of header (get_or g (514 + i) 0)) ≡ true)
  unfolding stops node_at
  stop_signal e = go (eqb (get_or g (2 + i) 0) 0) refl e
    where
      go : (v : Bool) → eqb (get_or g (2 + i) 0) 0 ≡ v → elim v as (λ _. Bool) [ true ↦ eqb (get_or kinds (get_or g (514 + i) 0) 0) 1 | false ↦ false ] ≡ true
          → (node_at g i ≡ signal (get_or g (514 + i) 0)) × (is_input (kind_of header (get_or g (514 + i) 0)) ≡ true)
      go true d e = (words_signal (get_or g (2 + i) 0) (get_or g (514 + i) 0) (get_or g (1026 + i) 0) (get_or g (1538 + i) 0) (eqb-true _ _ d), K (get_or g (514 + i) 0) ∙ e)
      go false d e = absurd (false≢true e)

  pub stop_onward : stops g kinds i ≡ true → onward header heads (node_at g i) ≡ []
  unfolding onward
  stop_onward e = let p = stop_signal e in ap (onward header heads) p.0 ∙ pick_true (is_input (kind_of header (get_or g (514 + i) 0))) _ _ p.1

  pub signal_stop : (m : ℕ) → node_at g i ≡ signal m → is_input (kind_of header m) ≡ true → stops g kinds i ≡ true
  unfolding stops
  signal_stop m e h =
      pick_true (eqb (get_or g (2 + i) 0) 0) _ _ (eq-eqb _ _ (signal_kind g i m e))
      ∙ ap (λ z. eqb (get_or kinds z 0) 1) (signal_name g i m e) ∙ sym (K m) ∙ h

  pub go_onward : stops g kinds i ≡ false → onward header heads (node_at g i) ≡ reads_of heads (node_at g i)
  go_onward e = by (node_at g i) refl
    where
      out_input : (m : ℕ) → node_at g i ≡ signal m → (v : Bool) → is_input (kind_of header m) ≡ v → is_input (kind_of header m) ≡ false
      out_input m d true h = absurd (true≢false (sym (signal_stop m d h) ∙ e))
      out_input m d false h = h

      by : (n : Node) → node_at g i ≡ n → onward header heads (node_at g i) ≡ reads_of heads (node_at g i)
      by (signal m) d = rw d (open_signal header heads m (out_input m d (is_input (kind_of header m)) refl))
      by (inst_out a x o) d = rw d (open_output header heads a x o)

empty_list : (w : List ℕ) → reached w 0 ≡ []
unfolding words_below
empty_list w = refl

pub empty_queue : {w : List ℕ} → Clean w → Queued w 0
unfolding words_below among
empty_queue C = record {
  sized = C.sized;
  few = omega arith;
  once = tt;
  small = λ t i. absurd (Memᴰ.not-nil i);
  marks = λ t l. ap (ltb 0) (sym (C.unmarked t l));
}

-- the names among nodes
module _ (g kinds : List ℕ) where
  names_by : (m : ℕ) (l : List ℕ) → m ∈ names_in g kinds l → (q : ℕ) × (q ∈ l) × (stops g kinds q ≡ true) × (get_or g (514 + q) 0 ≡ m)
  unfolding names_in
  names_by m [] i = absurd (Memᴰ.not-nil i)
  names_by m (a ∷ l) i = go (names_by m l) (stops g kinds a) refl i
    where
      Named : List ℕ → Type 0
      Named k = (q : ℕ) × (q ∈ k) × (stops g kinds q ≡ true) × (get_or g (514 + q) 0 ≡ m)

      later : Named l → Named (a ∷ l)
      later (q, j, s, e) = (q, Memᴰ.tail j, s, e)

      here : (m ∈ names_in g kinds l → Named l) → stops g kinds a ≡ true → (m ≡ get_or g (514 + a) 0) ⊎ (m ∈ names_in g kinds l) → Named (a ∷ l)
      here f s (inl e) = (a, Memᴰ.head refl, s, sym e)
      here f s (inr j) = later (f j)

      go : (m ∈ names_in g kinds l → Named l) → (v : Bool) → stops g kinds a ≡ v
          → m ∈ elim v as (λ _. List ℕ) [ true ↦ get_or g (514 + a) 0 ∷ names_in g kinds l | false ↦ names_in g kinds l ] → Named (a ∷ l)
      go f true s i = here f s (Memᴰ.cases_cons i)
      go f false s i = later (f i)

  by_names : (q : ℕ) (l : List ℕ) → q ∈ l → stops g kinds q ≡ true → get_or g (514 + q) 0 ∈ names_in g kinds l
  unfolding names_in
  by_names q [] x'' s = elim x'' [ ]
  by_names q (a ∷ l) (Memᴰ.head e) s =
      if_case (λ z. get_or g (514 + q) 0 ∈ z) (stops g kinds a) _ _ (λ h. Memᴰ.head (ap (λ z. get_or g (514 + z) 0) e))
      (λ h. absurd (true≢false (sym s ∙ ap (stops g kinds) e ∙ h)))
  by_names q (a ∷ l) (Memᴰ.tail i) s =
      let r = by_names q l i s in
      if_case (λ z. get_or g (514 + q) 0 ∈ z) (stops g kinds a) _ _ (λ h. Memᴰ.tail r) (λ h. r)

-- the search in the tables against that of the specification
module _ {g : List ℕ} (kinds : List ℕ) (header : List Header) (heads : List Head) (H : Stands g heads) (K : KindsAre kinds header) (o : ℕ) where
  abbrev E : ℕ
  E = edge_total g

  pub sound : Sound g E
  sound = record { linked = H.linked; targets = λ k l. let e = (H.ends k l).1 in let f = H.few in omega (arith, e) }

  -- a target is read, and what is read is a target
  target_read : (q t : ℕ) → q < count g → t < count g → t ∈ out q (edges g) → node_at g t ∈ all_reads heads (node_at g q)
  target_read q t ql tl i = node_in (node_at g t) (all_reads heads (node_at g q)) (sym (H.reads q t ql tl) ∙ number_among t (out q (edges g)) i)

  read_target : (q : ℕ) (m : Node) → q < count g → m ∈ all_reads heads (node_at g q) → (t : ℕ) × (t < count g) × (node_at g t ≡ m) × (t ∈ out q (edges g))
  read_target q m ql i =
      let (t, tl, e) = below_in g (count g) m (H.all m (read_all heads (node_at g q) i)) in
      (t, tl, e, number_in t (out q (edges g)) (H.reads q t ql tl ∙ ap (λ z. among same_node z (all_reads heads (node_at g q))) e ∙ in_among m (all_reads heads (node_at g q)) i))

  target_low : (q t k : ℕ) → k ≤ E → t ∈ out q (edges_below g 3074 k) → t < count g
  unfolding out edges_below
  target_low q t zero l i = absurd (Memᴰ.not-nil i)
  target_low q t (suc k) l i = go (target_low q t k (omega arith)) (eqb (source g 3074 k) q) i
    where
      here : (t ∈ out q (edges_below g 3074 k) → t < count g) → (t ≡ target g 3074 k) ⊎ (t ∈ out q (edges_below g 3074 k)) → t < count g
      here f (inl e) = rw e (H.ends k (omega arith)).1
      here f (inr j) = f j

      go : (t ∈ out q (edges_below g 3074 k) → t < count g) → (v : Bool)
          → t ∈ elim v as (λ _. List ℕ) [ true ↦ target g 3074 k ∷ out q (edges_below g 3074 k) | false ↦ out q (edges_below g 3074 k) ] → t < count g
      go f true i = here f (Memᴰ.cases_cons i)
      go f false i = f i

  -- the output is a node
  module _ {w w' : List ℕ} {k i : ℕ} (il : i < count g) (ei : node_at g i ≡ signal o) (only_i : reached w 1 ≡ i ∷ []) (F : Flooded g kinds E w w' k) where
    abbrev Here : ℕ → Type 0
    Here q = (q < count g) × Reached (onward header heads) (signal o ∷ []) (node_at g q)

    next_open : (q t : ℕ) → t ∈ next_of g kinds E q → (stops g kinds q ≡ false) × (t ∈ out q (edges g))
    unfolding next_of
    next_open q t i = go (stops g kinds q) refl i
      where
        go : (v : Bool) → stops g kinds q ≡ v → t ∈ elim v as (λ _. List ℕ) [ true ↦ [] | false ↦ out q (edges g) ] → (stops g kinds q ≡ false) × (t ∈ out q (edges g))
        go true e i = absurd (Memᴰ.not-nil i)
        go false e i = (e, i)

    open_next : (q t : ℕ) → stops g kinds q ≡ false → t ∈ out q (edges g) → t ∈ next_of g kinds E q
    unfolding next_of
    open_next q t e i = rw (pick_false (stops g kinds q) [] (out q (edges g)) e) i

    all_here : (q : ℕ) → q ∈ reached w' k → Here q
    all_here q i = reached_ind Here
        (λ r j. let e = Memᴰ.eq_of_singleton (rw only_i at j) in rw e (il, rw ei (reached_root (onward header heads) (Memᴰ.head refl))))
        (λ a b p j.
        let n = next_open a b j in
        let bl = target_low a b E (omega arith) n.1 in
        (bl, reached_next (onward header heads) p.1 (rw (go_onward g kinds header heads K a n.0) (read_reads_of heads (node_at g a) (target_read a b p.0 bl n.1)))))
        q (F.only q i)

    abbrev There : Node → Type 0
    There n = (q : ℕ) × (q ∈ reached w' k) × (node_at g q ≡ n)

    all_there : (n : Node) → Reached (onward header heads) (signal o ∷ []) n → There n
    all_there = reached_ind There
        (λ r j. (i, F.first i (rw only_i (Memᴰ.head refl)), ei ∙ sym (Memᴰ.eq_of_singleton j)))
        (λ a b (q, j, e) h. step a b q j e h (stops g kinds q) refl)
      where
        step : (a b : Node) (q : ℕ) → q ∈ reached w' k → node_at g q ≡ a → b ∈ onward header heads a → (v : Bool) → stops g kinds q ≡ v → There b
        step a b q j e h true d = let z : b ∈ [] = rw (← e, stop_onward g kinds header heads K q d) at h in absurd (Memᴰ.not-nil z)
        step a b q j e h false d =
            let r : b ∈ reads_of heads (node_at g q) = rw (← e, go_onward g kinds header heads K q d) at h in
            let (t, tl, f, m) = read_target q b (all_here q j).0 (reads_of_read heads (node_at g q) r) in
            (t, F.closed q t j (open_next q t d m), f)

    names_once : (l : List ℕ) → Once l → ((q : ℕ) → q ∈ l → q < count g) → Once (names_in g kinds l)
    unfolding names_in
    names_once [] u f = tt
    names_once (a ∷ l) u f =
        let r = names_once l u.1 (λ q j. f q (Memᴰ.tail j)) in
        if_case (λ (z : List ℕ). Once z) (stops g kinds a) _ _ (λ s. (λ j. apart s (names_by g kinds (get_or g (514 + a) 0) l j), r)) (λ s. r)
      where
        apart : stops g kinds a ≡ true → (q : ℕ) × (q ∈ l) × (stops g kinds q ≡ true) × (get_or g (514 + q) 0 ≡ get_or g (514 + a) 0) → ⊥
        apart s (q, j, t, e) =
            let x = (stop_signal g kinds header heads K a s).0 in
            let y = (stop_signal g kinds header heads K q t).0 in
            let z = one_number g (count g) H.once a q (f a (Memᴰ.head refl)) (f q (Memᴰ.tail j)) (x ∙ ap signal (sym e) ∙ sym y) in
            u.0 (Memᴰ.cast z j)

    pub names_reached : {w'' : List ℕ} {r : ℕ} → Gathered g kinds w' k w'' r → Inputs header heads o w'' r
    names_reached {w''} {r} G = record {
      clean = G.clean;
      once = each;
      names = λ m. (λ i. forth m i, λ i. back m i);
      count = sym (words_length 1026 w'' r) ∙ same_length (found w'' r) (inputs_reached header heads o) each (reached_once header heads o) forth back;
    }
      where
        to : (m : ℕ) → (q : ℕ) × (q ∈ reached w' k) × (stops g kinds q ≡ true) × (get_or g (514 + q) 0 ≡ m)
            → (is_input (kind_of header m) ≡ true) × Reached (onward header heads) (signal o ∷ []) (signal m)
        to m (q, j, s, e) =
            let p = stop_signal g kinds header heads K q s in
            (ap (λ z. is_input (kind_of header z)) (sym e) ∙ p.1, rw (← e, ← p.0) (all_here q j).1)

        of : (m : ℕ) → (is_input (kind_of header m) ≡ true) × Reached (onward header heads) (signal o ∷ []) (signal m)
            → (q : ℕ) × (q ∈ reached w' k) × (stops g kinds q ≡ true) × (get_or g (514 + q) 0 ≡ m)
        of m (h, p) = let (q, j, e) = all_there (signal m) p in (q, j, signal_stop g kinds header heads K q m e h, signal_name g q m e)

        each : Once (found w'' r)
        each = rw G.names (names_once (reached w' k) F.queued.once (λ q j. (all_here q j).0))

        forth : (m : ℕ) → m ∈ found w'' r → m ∈ inputs_reached header heads o
        forth m i = (inputs_iff header heads o m).1 (to m (names_by g kinds m (reached w' k) (rw G.names at i)))

        back : (m : ℕ) → m ∈ inputs_reached header heads o → m ∈ found w'' r
        back m i = let (q, j, s, e) = of m ((inputs_iff header heads o m).0 i) in rw G.names (Memᴰ.cast (sym e) (by_names g kinds q (reached w' k) j s))

  -- the ways of `reach`: it is of kind in; it is no node; it is one
  pub reach_own : {c : ℕ} → c ≡ get_or kinds o 0 → c ≡ 1 → {w w' : List ℕ} → w' ≡ set w (1026 + 0) o → Clean w → Inputs header heads o w' 1
  unfolding onward words_below
  reach_own d e {w} q C = rw q (record {
    clean = record { sized = let s = C.sized in simp length-set (omega arith); unmarked = λ t l. miss w 1026 (2 + t) o (λ x. omega arith) ∙ C.unmarked t l };
    once = (Memᴰ.not-nil, tt);
    names = λ m. (forth m, back m);
    count = same_length (found (set w 1026 o) 1) (inputs_reached header heads o) (Memᴰ.not-nil, tt) (reached_once header heads o) forth back;
  })
    where
      one : found (set w 1026 o) 1 ≡ o ∷ []
      one = let s = C.sized in ap (λ z. z ∷ []) (get_or-set_same w 1026 o 0 (omega arith))

      input : is_input (kind_of header o) ≡ true
      input = K o ∙ eq-eqb _ _ (sym d ∙ e)

      to : (m : ℕ) → m ≡ o → (is_input (kind_of header m) ≡ true) × Reached (onward header heads) (signal o ∷ []) (signal m)
      to m f = rw f (input, reached_root (onward header heads) (Memᴰ.head refl))

      of : (m : ℕ) → Reached (onward header heads) (signal o ∷ []) (signal m) → m ≡ o
      of m r = eqb-true m o (ap (same_node (signal m)) (sym (alone header heads o (pick_true (is_input (kind_of header o)) _ _ input) (signal m) r)) ∙ same_node_refl (signal m))

      forth : (m : ℕ) → m ∈ found (set w 1026 o) 1 → m ∈ inputs_reached header heads o
      forth m i = (inputs_iff header heads o m).1 (to m (Memᴰ.eq_of_singleton (rw one at i)))

      back : (m : ℕ) → m ∈ inputs_reached header heads o → m ∈ found (set w 1026 o) 1
      back m i = rw one (Memᴰ.head (of m ((inputs_iff header heads o m).0 i).1))

  module _ {c : ℕ} (d : c ≡ get_or kinds o 0) (n : ¬ (c ≡ 1)) where
    not_input : is_input (kind_of header o) ≡ false
    not_input = K o ∙ ne_eqb _ _ (λ e. n (d ∙ e))

    module _ {i : ℕ} (F : Found g (signal o) i) where
      pub reach_none : {k : ℕ} → k ≡ count g → k ≤ i → {w : List ℕ} → Clean w → Inputs header heads o w 0
      unfolding words_below reads_of each_once
      reach_none e l C = record {
        clean = C;
        once = tt;
        names = λ m. (λ j. absurd (Memᴰ.not-nil j), λ j. absurd (of m ((inputs_iff header heads o m).0 j)));
        count = empty (inputs_reached header heads o) (λ m j. of m ((inputs_iff header heads o m).0 j));
      }
        where
          empty : (l : List ℕ) → ((m : ℕ) → ¬ (m ∈ l)) → 0 ≡ length l
          empty [] d = refl
          empty (m ∷ l) d = absurd (d m (Memᴰ.head refl))

          absent : ¬ (signal o ∈ nodes g)
          absent = let f = F.within in no_place g (signal o) (λ j h. F.before j (omega arith))

          nothing : onward header heads (signal o) ≡ []
          nothing = open_signal header heads o not_input ∙ ap (each_once same_node) (unheaded_reads heads (signal o) (λ j. absent (H.all (signal o) (headed_all heads j))))

          of : (m : ℕ) → (is_input (kind_of header m) ≡ true) × Reached (onward header heads) (signal o ∷ []) (signal m) → ⊥
          of m (h, p) =
              let f : m ≡ o = eqb-true m o (ap (same_node (signal m)) (sym (alone header heads o nothing (signal m) p)) ∙ same_node_refl (signal m)) in
              true≢false (sym h ∙ ap (λ z. is_input (kind_of header z)) f ∙ not_input)

      pub reach_node : {k : ℕ} → k ≡ count g → i < k → {w w₁ w₂ w₃ w₄ : List ℕ} {m r : ℕ} → w₁ ≡ set w (2 + i) 1 → w₂ ≡ set w₁ (514 + 0) i
          → ((n : ℕ) → Sound g n → Queued w₂ 1 → Flooded g kinds n w₂ w₃ m) → (Queued w₃ m → Gathered g kinds w₃ m w₄ r) → Clean w → Inputs header heads o w₄ r
      reach_node e l {w} {w₂ = w₂} p q f t C = let z = f E sound one in names_reached il (F.here il) just z (t z.queued)
        where
          il : i < count g
          il = rw e at l

          low : i < 512
          low = let a = H.few in omega arith

          none : Queued w 0
          none = empty_queue C

          eq : w₂ ≡ set (set w (2 + i) 1) 514 i
          eq = rw (q, p)

          one : Queued w₂ 1
          one = rw eq (mark_queued none i low (C.unmarked i low))

          just : reached w₂ 1 ≡ i ∷ []
          just = ap (λ z. reached z 1) eq ∙ mark_more none i low (C.unmarked i low) ∙ ap (λ z. i ∷ z) (empty_list w)
