-- What the functions leave of any words, also of words that stand for no graph. Assumes nothing.
use mathlib.Core.Path.{◌≡◌, refl, sym, ◌∙◌, ap, subst}
use mathlib.Core.Bool.{Bool, true, false, ◌&&◌}
use mathlib.Core.Logic.{inl, inr}
use mathlib.Core.List.{List, [], ◌∷◌, ◌++◌}
use Prim.Native.Nat.{ℕ, zero, suc, ◌+◌, ◌<◌, ◌≤◌}
use native.Mathlib.Omega.{arith}
use lib.ListN.{length, get_or, set, length-set, replicate}
use lib.Dec.{eqb, ltb}
use borrow.Author.Tests.{lt-ltb, le-ltb, ltb-true, ltb-false, eq-eqb, ne_eqb, eqb-true, eqb-false}
use Rattle.std.specs.Prelude.{Result, Ok, Err}
use Rattle.spec.specs.Graph.{Once}
use Rattle.spec.specs.Edge.{Node, Head, over_graph, same_node}
use Rattle.spec.proofs.Nodes.{same_node_yes}
use Rattle.graph.specs.Table.{node_of, count, edge_total, headed_at, node_at, Found, stored, edge_there, pushed, slot_of, hint, first_from, number_in}
use Rattle.graph.specs.Stands.{full, nodes, Stands, Heading, head_of, Headed, Read, number_of, heads_number, ClearedAtFull}
use Rattle.graph.specs.Leaves.{one_more, hinted, with_node, with_head, with_edge, Numbered, NoPlace, Placed, HeadLeaves, Edged, NoEdge, ReadFull, ReadLeaves, OneHead, OneRead}
use Rattle.graph.specs.declared.Full.{Full}
use Rattle.graph.specs.declared.Node as D
use Rattle.graph.specs.declared.Node.TheVariants as kinds
use Rattle.graph.proofs.Tables.{pick_true, pick_false, miss}
use Rattle.graph.proofs.Stands.{stands_within}
use Rattle.graph.proofs.Words.{same_no}
use Rattle.graph.proofs.Hints.{hint_found}

-- two tests together
both : (u v : Bool) → u ≡ true → v ≡ true → u && v ≡ true
both u v e f = rw (e, f)

not_first : (u v : Bool) → u ≡ false → u && v ≡ false
not_first u v e = rw e

not_second : (u v : Bool) → v ≡ false → u && v ≡ false
not_second true v e = e
not_second false v e = refl

-- the first node that is the same: scanning finds it
module _ (g : List ℕ) (n : Node) where
  first_found : (k i : ℕ) → i + k ≡ count g → ((j : ℕ) → j < i → ¬ (node_at g j ≡ n)) → Found g n (first_from g n k i)
  unfolding first_from
  first_found zero i e b = record { within = omega (arith, e); before = b; here = λ h. absurd (omega (arith, e)) }
  first_found (suc k) i e b = go (first_found k (suc i) (omega (arith, e))) (same_node (node_at g i) n) refl
    where
      more : same_node (node_at g i) n ≡ false → (j : ℕ) → j < suc i → ¬ (node_at g j ≡ n)
      more d j l = less (eqb j i) refl
        where
          less : (v : Bool) → eqb j i ≡ v → ¬ (node_at g j ≡ n)
          less true q = same_no (node_at g j) n (ap (λ z. same_node (node_at g z) n) (eqb-true j i q) ∙ d)
          less false q = let h = eqb-false j i q in b j (omega arith)

      go : (((j : ℕ) → j < suc i → ¬ (node_at g j ≡ n)) → Found g n (first_from g n k (suc i))) → (v : Bool) → same_node (node_at g i) n ≡ v
          → Found g n (elim v as (λ _. ℕ) [ true ↦ i | false ↦ first_from g n k (suc i) ])
      go f true d = record { within = omega (arith, e); before = b; here = λ h. same_node_yes _ _ d }
      go f false d = f (more d)

  first_node : Found g n (first_from g n (count g) 0)
  first_node = first_found (count g) 0 (omega arith) (λ j l. absurd (omega arith))

  found_one : {r s : ℕ} → Found g n r → Found g n s → r ≤ s
  found_one {r} {s} F G = go (ltb s r) refl
    where
      go : (v : Bool) → ltb s r ≡ v → r ≤ s
      go false e = ltb-false s r e
      go true e = let l = ltb-true s r e in let w = F.within in absurd (F.before s l (G.here (omega arith)))

  found_first : {r : ℕ} → Found g n r → r ≡ first_from g n (count g) 0
  found_first F = let p = found_one F first_node in let q = found_one first_node F in omega arith

-- where a node is looked for: the number of a node that is the same, or the count where none is
pub record Located (g : List ℕ) (n : Node) (r : ℕ) : Type 0 where
  pub within : r ≤ count g
  pub here : r < count g → node_at g r ≡ n
  pub none : count g ≤ r → (i : ℕ) → i < count g → ¬ (node_at g i ≡ n)

-- a node that was found, by its hint or one after the other
located_hint : (g : List ℕ) (n : Node) (i : ℕ) → i < count g → node_at g i ≡ n → Located g n i
located_hint g n i h e = record { within = omega arith; here = λ _. e; none = λ l. absurd (omega arith) }

located_scan : (g : List ℕ) (n : Node) (r : ℕ) → Found g n r → Located g n r
located_scan g n r F = record { within = F.within; here = F.here; none = λ l i h. F.before i (omega arith) }

-- it is the first that is the same, since a graph has each node once
located_found : (g : List ℕ) (n : Node) (r : ℕ) → Located g n r → Once (nodes g) → Found g n r
located_found g n r L o = go (ltb r (count g)) refl
  where
    go : (v : Bool) → ltb r (count g) ≡ v → Found g n r
    go true e = let h = ltb-true r (count g) e in hint_found g n r h (L.here h) o
    go false e = let h = ltb-false r (count g) e in record { within = L.within; before = λ i l. let w = L.within in L.none h i (omega arith); here = L.here }

module _ (g : List ℕ) (n : D.Node) where
  number_there : Located g (node_of n) (number_in g n)
  unfolding number_in
  number_there = go (ltb (hint g n) (count g)) (same_node (node_at g (hint g n)) (node_of n)) refl refl
    where
      go : (u v : Bool) → ltb (hint g n) (count g) ≡ u → same_node (node_at g (hint g n)) (node_of n) ≡ v
          → Located g (node_of n) (elim (u && v) as (λ _. ℕ) [ true ↦ hint g n | false ↦ first_from g (node_of n) (count g) 0 ])
      go true true e f = located_hint g (node_of n) (hint g n) (ltb-true (hint g n) (count g) e) (same_node_yes _ _ f)
      go true false e f = located_scan g (node_of n) _ (first_node g (node_of n))
      go false v e f = located_scan g (node_of n) _ (first_node g (node_of n))

  number_located : (r : ℕ) → r ≡ number_in g n → Located g (node_of n) r
  number_located r e = subst (λ z. Located g (node_of n) z) (sym e) number_there

  pub number_found : (r : ℕ) → r ≡ number_in g n → Once (nodes g) → Found g (node_of n) r
  number_found r e o = located_found g (node_of n) r (number_located r e) o

  -- a node that has no place has no number below the count
  pub no_number : NoPlace g n → count g ≤ number_in g n
  no_number N = go (ltb (number_in g n) (count g)) refl
    where
      go : (v : Bool) → ltb (number_in g n) (count g) ≡ v → count g ≤ number_in g n
      go true e = let l = ltb-true (number_in g n) (count g) e in absurd (N.none (number_in g n) l (number_there.here l))
      go false e = ltb-false (number_in g n) (count g) e

  -- the ways of `find`
  module _ {s h : ℕ} (es : s ≡ slot_of n) (eh : h ≡ get_or g (15874 + s) 0) {k : ℕ} (ek : k ≡ count g) where
    own : h ≡ hint g n
    own = eh ∙ ap (λ z. get_or g (15874 + z) 0) es

    same_own : same_node (node_at g (hint g n)) (node_of n) ≡ same_node (node_at g h) (node_of n)
    same_own = ap (λ z. same_node (node_at g z) (node_of n)) (sym own)

    pub number_hint : h < k → {b : Bool} → b ≡ same_node (node_at g h) (node_of n) → b ≡ true → h ≡ number_in g n
    unfolding number_in
    number_hint l d t =
        own ∙ sym (pick_true (ltb (hint g n) (count g) && same_node (node_at g (hint g n)) (node_of n)) _ _
        (both _ _ (lt-ltb (hint g n) (count g) (omega (arith, own, ek))) (same_own ∙ sym d ∙ t)))

    module _ {r : ℕ} (F : Found g (node_of n) r) where
      scanned : ltb (hint g n) (count g) && same_node (node_at g (hint g n)) (node_of n) ≡ false → r ≡ number_in g n
      unfolding number_in
      scanned q = found_first g (node_of n) F ∙ sym (pick_false (ltb (hint g n) (count g) && same_node (node_at g (hint g n)) (node_of n)) _ _ q)

      pub number_past : k ≤ h → r ≡ number_in g n
      number_past l = scanned (not_first _ _ (le-ltb (hint g n) (count g) (omega (arith, own, ek))))

      pub number_other : {b : Bool} → b ≡ same_node (node_at g h) (node_of n) → b ≡ false → r ≡ number_in g n
      number_other d t = scanned (not_second (ltb (hint g n) (count g)) _ (same_own ∙ sym d ∙ t))

-- one node more: the slice is as long, and has as many edges
one_more_size : (g : List ℕ) (n : D.Node) → length (one_more g n) ≡ length g
unfolding stored
one_more_size g (kinds.Signal a) = simp length-set refl
one_more_size g (kinds.Output a o) = simp length-set refl
one_more_size g (kinds.OutputAt a x o) = simp length-set refl

module _ (g : List ℕ) (n : D.Node) where
  hinted_size : length (hinted g n) ≡ length g
  unfolding hinted
  hinted_size = length-set g (15874 + slot_of n) (number_in g n)

  with_node_size : length (with_node g n) ≡ length g
  unfolding with_node
  with_node_size = go (ltb (number_in g n) (count g))
    where
      go : (v : Bool) → length {A = ℕ} (elim v as (λ _. List ℕ) [ true ↦ hinted g n | false ↦ one_more (hinted g n) n ]) ≡ length g
      go true = hinted_size
      go false = one_more_size (hinted g n) n ∙ hinted_size

-- the ways of `add`
module _ (g : List ℕ) (n : D.Node) (i h : ℕ) (ei : i ≡ number_in g n) (eh : h ≡ slot_of n) {g₁ : List ℕ} (e : g₁ ≡ set g (15874 + h) i) {c : ℕ} (ec : c ≡ count g₁) where
  counted : c ≡ count g
  counted = ec ∙ ap (λ z. count z) e ∙ miss g (15874 + h) 0 i (λ d. omega arith)

  looked : g₁ ≡ hinted g n
  unfolding hinted
  looked = e ∙ ap (λ z. set g (15874 + z) i) eh ∙ ap (set g (15874 + slot_of n)) ei

  pub placed_old : i < c → Placed (Ok i) g n g₁
  unfolding with_node
  placed_old l = (
    record { number = ei; new = λ a. absurd (omega (arith, counted)) },
    looked ∙ sym (pick_true (ltb (number_in g n) (count g)) _ _ (lt-ltb (number_in g n) (count g) (omega (arith, ei, counted)))),
  )

  pub placed_full : c ≤ i → 512 ≤ c → Placed full g n g₁
  placed_full l f = (record { many = omega (arith, counted); none = (number_located g n i ei).none (omega (arith, counted)) }, looked)

  pub placed_new : c ≤ i → c < 512 → {g₂ : List ℕ} → g₂ ≡ one_more g₁ n → Placed (Ok c) g n g₂
  unfolding with_node
  placed_new l f {g₂} d =
      let q : c ≡ i = let w = (number_located g n i ei).within in omega (arith, counted) in (
        record { number = q ∙ ei; new = λ a. f },
        d ∙ ap (λ z. one_more z n) looked ∙ sym (pick_false (ltb (number_in g n) (count g)) _ _ (le-ltb (number_in g n) (count g) (omega (arith, ei, counted)))),
      )

-- the ways of `head` and `read` from where the node is placed
module _ (a : Result ℕ Full) (g : List ℕ) (n : D.Node) (g₁ : List ℕ) (P : Placed a g n g₁) where
  unplaced : a ≡ full → NoPlace g n × (g₁ ≡ hinted g n)
  unplaced e = subst (λ (x : Result ℕ Full). Placed x g n g₁) e P

  full_size : a ≡ full → length g₁ ≡ length g
  full_size e = ap length (unplaced e).1 ∙ hinted_size g n

  cleared : {g₂ : List ℕ} → length g₁ ≡ length g → g₂ ≡ replicate (length g₁) 0 → g₂ ≡ replicate (length g) 0
  cleared q d = d ∙ ap (λ z. replicate {A = ℕ} z 0) q

  module _ (i : ℕ) (e : a ≡ Ok i) where
    there : Numbered g n i × (g₁ ≡ with_node g n)
    there = subst (λ (x : Result ℕ Full). Placed x g n g₁) e P

    size : length g₁ ≡ length g
    size = ap length there.1 ∙ with_node_size g n

  module _ (start : ℕ) where
    pub headed_full : a ≡ full → {g₂ : List ℕ} → g₂ ≡ replicate (length g₁) 0 → HeadLeaves full g n start g₂
    headed_full e d = ((unplaced e).0, cleared (full_size e) d)

    module _ (i : ℕ) (e : a ≡ Ok i) {x : ℕ} (ex : x ≡ headed_at g₁ i) where
      pub headed_new : x ≡ 0 → {g₂ g₃ : List ℕ} → g₂ ≡ set g₁ (2562 + i) 1 → g₃ ≡ set g₂ (2050 + i) start → HeadLeaves (Ok i) g n start g₃
      unfolding with_head
      headed_new z p q =
          let t = there i e in (
            t.0,
            q ∙ ap (λ v. set v (2050 + i) start) p ∙ sym (pick_true (eqb (headed_at g₁ i) 0) _ _ (eq-eqb (headed_at g₁ i) 0 (sym ex ∙ z)))
                ∙ ap (λ v. with_head v i start) t.1,
          )

      pub headed_old : ¬ (x ≡ 0) → HeadLeaves (Ok i) g n start g₁
      unfolding with_head
      headed_old z =
          let t = there i e in
          (t.0, sym (pick_false (eqb (headed_at g₁ i) 0) _ _ (ne_eqb (headed_at g₁ i) 0 (λ c. z (ex ∙ c)))) ∙ ap (λ v. with_head v i start) t.1)

  module _ (from : ℕ) where
    pub read_no_node : a ≡ full → {g₂ : List ℕ} → g₂ ≡ replicate (length g₁) 0 → ReadLeaves full g from n g₂
    read_no_node e d = (inl (unplaced e).0, cleared (full_size e) d)

    module _ (i : ℕ) (e : a ≡ Ok i) {r : Bool} (er : r ≡ edge_there g₁ 3074 from i) where
      told : edge_there (with_node g n) 3074 from i ≡ r
      told = sym (er ∙ ap (λ z. edge_there z 3074 from i) (there i e).1)

      as_told : (v : Bool) → r ≡ v → (g₂ : List ℕ) → Edged v (with_node g n) from i g₂ → ReadLeaves (Ok i) g from n g₂
      as_told v f g₂ d = ((there i e).0, subst (λ (x : Bool). Edged x (with_node g n) from i g₂) (sym (told ∙ f)) d)

      pub read_edge_there : r ≡ true → ReadLeaves (Ok i) g from n g₁
      read_edge_there f = as_told true f g₁ (there i e).1

      module _ (f : r ≡ false) {x : ℕ} (ex : x ≡ edge_total g₁) where
        total : x ≡ edge_total (with_node g n)
        total = ex ∙ ap (λ z. edge_total z) (there i e).1

        pub read_no_edge : 4096 ≤ x → {g₂ : List ℕ} → g₂ ≡ replicate (length g₁) 0 → ReadLeaves full g from n g₂
        read_no_edge l d =
            let N = (there i e).0 in
            let E : NoEdge (with_node g n) from i = record { none = told ∙ f; many = omega (arith, total) } in
            (inr (subst (λ z. Numbered g n z × NoEdge (with_node g n) from z) N.number (N, E)), cleared (size i e) d)

        pub read_edge_new : x < 4096 → {g₂ g₃ : List ℕ} → g₂ ≡ pushed g₁ 3074 x from i → g₃ ≡ set g₂ 1 (x + 1) → ReadLeaves (Ok i) g from n g₃
        unfolding with_edge
        read_edge_new l {g₂} {g₃} p q =
            as_told false f g₃
            (omega (arith, total), q ∙ ap (λ v. set v 1 (x + 1)) p ∙ ap (λ z. set (pushed g₁ 3074 z from i) 1 (z + 1)) ex ∙ ap (λ v. with_edge v from i) (there i e).1)

-- nothing is left free
module _ (g : List ℕ) (n : D.Node) where
  pub one_number : {i j : ℕ} → Numbered g n i → Numbered g n j → i ≡ j
  one_number N M = N.number ∙ sym M.number

  pub not_placed : {i : ℕ} → Numbered g n i → NoPlace g n → ⊥
  not_placed {i} N P =
      let m = P.many in
      let c : count g ≤ i = let k = no_number g n P in omega (arith, N.number) in
      let l = N.new c in
      omega arith

  pub one_head : (start : ℕ) → OneHead g n start
  one_head start (Ok i) (Ok j) g' g'' p q =
      let e = one_number p.0 q.0 in
      (ap {B = Result ℕ Full} (λ z. Ok z) e, p.1 ∙ ap (λ z. with_head (with_node g n) z start) e ∙ sym q.1)
  one_head start (Ok i) (Err d) g' g'' p q = absurd (not_placed p.0 q.0)
  one_head start (Err e) (Ok j) g' g'' p q = absurd (not_placed q.0 p.0)
  one_head start (Err e) (Err d) g' g'' p q = (refl, p.1 ∙ sym q.1)

  module _ (from : ℕ) where
    one_edged : (v : Bool) (i : ℕ) (g' g'' : List ℕ) → Edged v (with_node g n) from i g' → Edged v (with_node g n) from i g'' → g' ≡ g''
    one_edged true i g' g'' p q = p ∙ sym q
    one_edged false i g' g'' p q = p.1 ∙ sym q.1

    pub not_read : (i : ℕ) (g' : List ℕ) → ReadLeaves (Ok i) g from n g' → ReadFull g from n → ⊥
    not_read i g' p (inl P) = not_placed p.0 P
    not_read i g' p (inr M) =
        let E : NoEdge (with_node g n) from i = subst (λ z. NoEdge (with_node g n) from z) (sym p.0.number) M.1 in
        let x : Edged false (with_node g n) from i g' = subst (λ (v : Bool). Edged v (with_node g n) from i g') E.none p.1 in
        let m = E.many in
        omega (arith, x.0)

    pub one_read : OneRead g from n
    one_read (Ok i) (Ok j) g' g'' p q =
        let e = one_number p.0 q.0 in (
          ap {B = Result ℕ Full} (λ z. Ok z) e,
          one_edged (edge_there (with_node g n) 3074 from i) i g' g'' p.1
              (subst (λ z. Edged (edge_there (with_node g n) 3074 from z) (with_node g n) from z g'') (sym e) q.1),
        )
    one_read (Ok i) (Err d) g' g'' p q = absurd (not_read i g' p q.0)
    one_read (Err e) (Ok j) g' g'' p q = absurd (not_read j g'' q p.0)
    one_read (Err e) (Err d) g' g'' p q = (refl, p.1 ∙ sym q.1)

-- the number of an answer is that of the heads
headed_number : (a : Result ℕ Full) (g' : List ℕ) (hs : List Head) (n : Node) (start : ℕ) → Headed a g' hs n start → number_of a ≡ heads_number (hs ++ head_of n start [] ∷ [])
headed_number (Ok i) g' hs n start H = sym (pick_false (over_graph (hs ++ head_of n start [] ∷ [])) 20 0 (stands_within (hs ++ head_of n start [] ∷ []) H.stands))
headed_number (Err e) g' hs n start H = sym (pick_true (over_graph (hs ++ head_of n start [] ∷ [])) 20 0 H)

read_number : (a : Result ℕ Full) (g' : List ℕ) (hs : List Head) (x : Node) (start : ℕ) (rs : List Node) (i : ℕ) (m : Node) → Read a g' hs x start rs i m
    → number_of a ≡ heads_number (hs ++ head_of x start (rs ++ m ∷ []) ∷ [])
read_number (Ok j) g' hs x start rs i m H = sym (pick_false (over_graph (hs ++ head_of x start (rs ++ m ∷ []) ∷ [])) 20 0 (stands_within (hs ++ head_of x start (rs ++ m ∷ []) ∷ []) H.stands))
read_number (Err e) g' hs x start rs i m H = sym (pick_true (over_graph (hs ++ head_of x start (rs ++ m ∷ []) ∷ [])) 20 0 H)

-- all that `head` and `read` promise, from what they say of a graph and of any words
pub headed_all : (a : Result ℕ Full) (g : List ℕ) (n : D.Node) (start : ℕ) (g' : List ℕ) → ((hs : List Head) → Stands g hs → Headed a g' hs (node_of n) start) → ClearedAtFull a g' → HeadLeaves a g n start g'
    → ((hs : List Head) → Stands g hs → Headed a g' hs (node_of n) start)
    × (ClearedAtFull a g' × (HeadLeaves a g n start g' × ((hs : List Head) → Stands g hs → number_of a ≡ heads_number (hs ++ head_of (node_of n) start [] ∷ []))))
headed_all a g n start g' f z l = (f, (z, (l, λ hs H. headed_number a g' hs (node_of n) start (f hs H))))

pub read_all : (a : Result ℕ Full) (g : List ℕ) (n : D.Node) (from : ℕ) (g' : List ℕ)
    → ((hs : List Head) (x : Node) (start : ℕ) (rs : List Node) → Heading g hs x start rs from → Read a g' hs x start rs from (node_of n)) → ClearedAtFull a g' → ReadLeaves a g from n g'
    → ((hs : List Head) (x : Node) (start : ℕ) (rs : List Node) → Heading g hs x start rs from → Read a g' hs x start rs from (node_of n))
    × (ClearedAtFull a g' × (ReadLeaves a g from n g'
    × ((hs : List Head) (x : Node) (start : ℕ) (rs : List Node) → Heading g hs x start rs from → number_of a ≡ heads_number (hs ++ head_of x start (rs ++ node_of n ∷ []) ∷ []))))
read_all a g n from g' f z l = (f, (z, (l, λ hs x start rs H. read_number a g' hs x start rs from (node_of n) (f hs x start rs H))))
