-- The search for the inputs that an output reaches: nodes reached, names gathered. Assumes nothing.
use mathlib.Core.Path.{◌≡◌, refl, sym, ◌∙◌, ap}
use mathlib.Core.Bool.{Bool, true, false}
use mathlib.Core.Logic.{◌⊎◌, inl, inr}
use mathlib.Core.List.Memᴰ
use mathlib.Core.List.{List, [], ◌∷◌}
use Prim.Native.Nat.{ℕ, zero, suc, ◌+◌, ◌-◌, ◌<◌, ◌≤◌}
use native.Mathlib.Omega.{arith}
use native.Mathlib.Numerals.{add-one}
use lib.ListN.{length, get_or, set, length-set}
use lib.Seq.{get_or-set_same}
use lib.Dec.{eqb, ltb}
use borrow.Author.Tests.{lt-ltb, ltb-false, eqb-true, eqb-false, eq-eqb, ne_eqb}
use Rattle.spec.specs.Graph.{◌∈◌, Once}
use Rattle.spec.specs.DepthFirst.{among}
use Rattle.spec.specs.DepthFirstFinds.{Reached}
use Rattle.spec.proofs.Lists.{once_length}
use Rattle.spec.proofs.Walks.{reached_root, reached_next}
use Rattle.graph.specs.Table.{OnLinks, target, link, edges_below, out}
use Rattle.graph.specs.Reach.{words_below, reached, found, Queued, Sound, stops, next_of, Spread, Flooded, Gathered, names_in}
use Rattle.graph.proofs.Tables.{pick_true, pick_false, miss, links_start, links_all, links_next, links_less, links_step}
use Rattle.graph.proofs.Stands.{number_in, number_out}

-- words read as a list
module _ (b : ℕ) where
  pub words_same : (w v : List ℕ) (k : ℕ) → ((i : ℕ) → i < k → get_or v (b + i) 0 ≡ get_or w (b + i) 0) → words_below v b k ≡ words_below w b k
  unfolding words_below
  words_same w v zero f = refl
  words_same w v (suc k) f =
      let r = words_same w v k (λ i l. f i (omega arith)) in
      let e = f k (omega arith) in
      ap (λ z. z ∷ words_below v b k) e ∙ ap (λ z. get_or w (b + k) 0 ∷ z) r

  pub words_more : (w v : List ℕ) (k x : ℕ) → get_or v (b + k) 0 ≡ x → ((i : ℕ) → i < k → get_or v (b + i) 0 ≡ get_or w (b + i) 0) → words_below v b (k + 1) ≡ x ∷ words_below w b k
  unfolding words_below
  words_more w v k x e f = ap (words_below v b) (add-one k) ∙ ap (λ z. z ∷ words_below v b k) e ∙ ap (λ z. x ∷ z) (words_same w v k f)

  pub words_length : (w : List ℕ) (k : ℕ) → length (words_below w b k) ≡ k
  unfolding words_below
  words_length w zero = refl
  words_length w (suc k) = ap suc (words_length w k)

  pub words_at : (w : List ℕ) (k i : ℕ) → i < k → get_or w (b + i) 0 ∈ words_below w b k
  unfolding words_below
  words_at w zero i h = absurd (omega arith)
  words_at w (suc k) i h = go (words_at w k i) (eqb i k) refl
    where
      less : (i k : ℕ) → i < suc k → ¬ (i ≡ k) → i < k
      less i k h d = omega arith

      go : (i < k → get_or w (b + i) 0 ∈ words_below w b k) → (v : Bool) → eqb i k ≡ v → get_or w (b + i) 0 ∈ (get_or w (b + k) 0 ∷ words_below w b k)
      go f true e = Memᴰ.head (ap (λ z. get_or w (b + z) 0) (eqb-true i k e))
      go f false e = Memᴰ.tail (f (less i k h (eqb-false i k e)))

  pub at_words : (w : List ℕ) (k t : ℕ) → t ∈ words_below w b k → (i : ℕ) × (i < k) × (get_or w (b + i) 0 ≡ t)
  unfolding words_below
  at_words w zero t m = absurd (Memᴰ.not-nil m)
  at_words w (suc k) t m = go (at_words w k t) (Memᴰ.cases_cons m)
    where
      later : (i : ℕ) × (i < k) × (get_or w (b + i) 0 ≡ t) → (i : ℕ) × (i < suc k) × (get_or w (b + i) 0 ≡ t)
      later (i, h, e) = (i, omega arith, e)

      go : (t ∈ words_below w b k → (i : ℕ) × (i < k) × (get_or w (b + i) 0 ≡ t)) → (t ≡ get_or w (b + k) 0) ⊎ (t ∈ words_below w b k)
          → (i : ℕ) × (i < suc k) × (get_or w (b + i) 0 ≡ t)
      go f (inl e) = (k, omega arith, sym e)
      go f (inr m) = later (f m)

-- numbers below n, each once: at most n
up_to : ℕ → List ℕ
up_to zero = []
up_to (suc n) = n ∷ up_to n

in_up_to : (n t : ℕ) → t < n → t ∈ up_to n
unfolding up_to
in_up_to zero t h = absurd (omega arith)
in_up_to (suc n) t h = go (in_up_to n t) (eqb t n) refl
  where
    less : (i k : ℕ) → i < suc k → ¬ (i ≡ k) → i < k
    less i k h d = omega arith

    go : (t < n → t ∈ up_to n) → (v : Bool) → eqb t n ≡ v → t ∈ (n ∷ up_to n)
    go f true e = Memᴰ.head (eqb-true t n e)
    go f false e = Memᴰ.tail (f (less t n h (eqb-false t n e)))

length_up_to : (n : ℕ) → length (up_to n) ≡ n
unfolding up_to
length_up_to zero = refl
length_up_to (suc n) = ap suc (length_up_to n)

pub few_below : (n : ℕ) (l : List ℕ) → Once l → ((t : ℕ) → t ∈ l → t < n) → length l ≤ n
few_below n l o f = let r = once_length l (up_to n) o (λ t i. in_up_to n t (f t i)) in omega (arith, length_up_to n)

-- the test for a number in a list with one more in front
pub among_first : (t x : ℕ) (l : List ℕ) → among eqb t (x ∷ l) ≡ elim (eqb t x) as (λ _. Bool) [ true ↦ true | false ↦ among eqb t l ]
unfolding among
among_first t x l = refl

-- a node more is reached
module _ {w : List ℕ} {k : ℕ} (Q : Queued w k) (t : ℕ) (tl : t < 512) (new : get_or w (2 + t) 0 ≡ 0) where
  abbrev w' : List ℕ
  w' = set (set w (2 + t) 1) (514 + k) t

  unlisted : among eqb t (reached w k) ≡ false
  unlisted = Q.marks t tl ∙ ap (ltb 0) new

  absent : ¬ (t ∈ reached w k)
  absent = number_out t (reached w k) unlisted

  fits : suc k ≤ 512
  fits = let r = few_below 512 (t ∷ reached w k) (absent, Q.once) (λ x i. go x (Memᴰ.cases_cons i)) in omega (arith, words_length 514 w k)
    where
      go : (x : ℕ) → (x ≡ t) ⊎ (x ∈ reached w k) → x < 512
      go x (inl e) = rw e tl
      go x (inr i) = Q.small x i

  other : (j : ℕ) → ¬ (j ≡ 2 + t) → ¬ (j ≡ 514 + k) → get_or w' j 0 ≡ get_or w j 0
  other j a b = miss (set w (2 + t) 1) (514 + k) j t b ∙ miss w (2 + t) j 1 a

  pub mark_kept : (i : ℕ) → i < k → get_or w' (514 + i) 0 ≡ get_or w (514 + i) 0
  mark_kept i h = other (514 + i) (λ e. omega arith) (λ e. omega arith)

  pub mark_behind : (j : ℕ) → 1538 ≤ j → get_or w' j 0 ≡ get_or w j 0
  mark_behind j h = let f = fits in other j (λ e. omega arith) (λ e. omega arith)

  pub mark_more : reached w' (k + 1) ≡ t ∷ reached w k
  mark_more =
      let s = Q.sized in
      let f = fits in
      words_more 514 w w' k t (get_or-set_same (set w (2 + t) 1) (514 + k) t 0 (simp length-set (omega arith))) mark_kept

  marks' : (x : ℕ) → x < 512 → (v : Bool) → eqb x t ≡ v → among eqb x (t ∷ reached w k) ≡ ltb 0 (get_or w' (2 + x) 0)
  marks' x l true e =
      let s = Q.sized in
      let f = fits in
      let d = eqb-true x t e in
      among_first x t (reached w k) ∙ pick_true (eqb x t) _ _ e
      ∙ sym (ap (ltb 0) (ap (λ z. get_or w' (2 + z) 0) d ∙ miss (set w (2 + t) 1) (514 + k) (2 + t) t (λ c. omega arith) ∙ get_or-set_same w (2 + t) 1 0 (omega arith)))
  marks' x l false e =
      let d = eqb-false x t e in
      let f = fits in
      among_first x t (reached w k) ∙ pick_false (eqb x t) _ _ e ∙ Q.marks x l ∙ ap (ltb 0) (sym (other (2 + x) (λ c. d (omega arith)) (λ c. omega arith)))

  pub mark_queued : Queued w' (k + 1)
  mark_queued = record {
    sized = let s = Q.sized in simp length-set (omega arith);
    few = let f = fits in omega arith;
    once = rw mark_more (absent, Q.once);
    small = λ x i. go x (Memᴰ.cases_cons (rw mark_more at i));
    marks = λ x l. ap (among eqb x) mark_more ∙ marks' x l (eqb x t) refl;
  }
    where
      go : (x : ℕ) → (x ≡ t) ⊎ (x ∈ reached w k) → x < 512
      go x (inl e) = rw e tl
      go x (inr i) = Q.small x i

-- the loop of `spread`: what is still to come of the edges of s
pub record Going (g : List ℕ) (n s : ℕ) (w₀ : List ℕ) (k : ℕ) (w : List ℕ) (m e : ℕ) : Type 0 where
  pub on : OnLinks g 3074 s n e
  pub queued : Queued w m
  pub more : k ≤ m
  pub kept : (i : ℕ) → i < k → get_or w (514 + i) 0 ≡ get_or w₀ (514 + i) 0
  pub all : (t : ℕ) → t ∈ out s (edges_below g 3074 n) → (t ∈ reached w m) ⊎ (t ∈ out s (edges_below g 3074 e))
  pub only : (t : ℕ) → t ∈ reached w m → (t ∈ reached w₀ k) ⊎ (t ∈ out s (edges_below g 3074 n))
  pub left : (t : ℕ) → t ∈ out s (edges_below g 3074 e) → t ∈ out s (edges_below g 3074 n)
  pub behind : (j : ℕ) → 1538 ≤ j → get_or w j 0 ≡ get_or w₀ j 0

abbrev pub Spreading : List ℕ → ℕ → List ℕ → ℕ → List ℕ → ℕ → ℕ → Type 0
Spreading g s w₀ k w m e = (n : ℕ) → Sound g n → s < 512 → Queued w₀ k → Going g n s w₀ k w m e

module _ (g : List ℕ) (s : ℕ) (w₀ : List ℕ) (k : ℕ) where
  pub spread_start : {e : ℕ} → e ≡ get_or g (3074 + s) 0 → Spreading g s w₀ k w₀ k e
  spread_start d n S sl Q = rw d (record {
    on = links_start S.linked s sl;
    queued = Q;
    more = omega arith;
    kept = λ i l. refl;
    all = λ t i. inr (rw (links_all S.linked s sl) i);
    only = λ t i. inl i;
    left = λ t i. rw (links_all S.linked s sl) at i;
    behind = λ j h. refl;
  })

  module _ {w : List ℕ} {m e : ℕ} where
    pub spread_end : e ≤ 0 → Spreading g s w₀ k w m e → (n : ℕ) → Sound g n → s < 512 → Queued w₀ k → Spread g n s w₀ k w m
    unfolding out edges_below
    spread_end z f n S sl Q =
        let G = f n S sl Q in
        record { queued = G.queued; more = G.more; kept = G.kept; all = λ t i. go t (G.all t i); only = G.only; behind = G.behind }
      where
        none : e ≡ 0
        none = omega arith

        go : (t : ℕ) → (t ∈ reached w m) ⊎ (t ∈ out s (edges_below g 3074 e)) → t ∈ reached w m
        go t (inl i) = i
        go t (inr i) = let j : t ∈ out s (edges_below g 3074 0) = rw none at i in absurd (Memᴰ.not-nil j)

    module _ (z : 0 < e) (f : Spreading g s w₀ k w m e) where
      back : e ≡ suc (e - 1)
      back = omega arith

      module _ (n : ℕ) (S : Sound g n) (sl : s < 512) (Q : Queued w₀ k) where
        abbrev G : Going g n s w₀ k w m e
        G = f n S sl Q

        at_edge : OnLinks g 3074 s n (suc (e - 1))
        at_edge = rw (← back) G.on

        step : out s (edges_below g 3074 e) ≡ target g 3074 (e - 1) ∷ out s (edges_below g 3074 (link g 3074 (e - 1)))
        step = ap (λ y. out s (edges_below g 3074 y)) back ∙ links_step S.linked s (e - 1) at_edge

        here : e - 1 < n
        here = let o = at_edge.within in omega arith

        small : target g 3074 (e - 1) < 512
        small = S.targets (e - 1) here

      pub spread_lost : {y : ℕ} → y ≡ link g 3074 (e - 1) → e ≤ y → (v : List ℕ) (j : ℕ) (n : ℕ) → Sound g n → s < 512 → Queued w₀ k → Spread g n s w₀ k v j
      spread_lost d u v j n S sl Q = let l = links_less S.linked s (e - 1) (at_edge n S sl Q) in absurd (omega arith)

      module _ {t y : ℕ} (dt : t ≡ target g 3074 (e - 1)) (dy : y ≡ link g 3074 (e - 1)) where
        pub spread_again : ¬ (get_or w (2 + t) 0 ≡ 0) → Spreading g s w₀ k w m y
        spread_again c n S sl Q = rw dy (record {
          on = links_next S.linked s (e - 1) (at_edge n S sl Q);
          queued = (G n S sl Q).queued;
          more = (G n S sl Q).more;
          kept = (G n S sl Q).kept;
          all = λ x i. go x ((G n S sl Q).all x i);
          only = (G n S sl Q).only;
          left = λ x i. (G n S sl Q).left x (rw (step n S sl Q) (Memᴰ.tail i));
          behind = (G n S sl Q).behind;
        })
          where
            above : (x : ℕ) → ¬ (x ≡ 0) → 0 < x
            above x d = omega arith

            listed : target g 3074 (e - 1) ∈ reached w m
            listed = rw dt at (number_in t (reached w m) ((G n S sl Q).queued.marks t (rw dt (small n S sl Q)) ∙ lt-ltb 0 (get_or w (2 + t) 0) (above (get_or w (2 + t) 0) c)))

            split : (x : ℕ) → (x ≡ target g 3074 (e - 1)) ⊎ (x ∈ out s (edges_below g 3074 (link g 3074 (e - 1))))
                → (x ∈ reached w m) ⊎ (x ∈ out s (edges_below g 3074 (link g 3074 (e - 1))))
            split x (inl d) = inl (Memᴰ.cast d listed)
            split x (inr i) = inr i

            go : (x : ℕ) → (x ∈ reached w m) ⊎ (x ∈ out s (edges_below g 3074 e)) → (x ∈ reached w m) ⊎ (x ∈ out s (edges_below g 3074 (link g 3074 (e - 1))))
            go x (inl i) = inl i
            go x (inr i) = split x (Memᴰ.cases_cons (rw (step n S sl Q) at i))

        module _ (c : get_or w (2 + t) 0 ≡ 0) where
          pub spread_full : 512 ≤ m → (v : List ℕ) (j : ℕ) (n : ℕ) → Sound g n → s < 512 → Queued w₀ k → Spread g n s w₀ k v j
          spread_full l v j n S sl Q = let f = fits (G n S sl Q).queued t (rw dt (small n S sl Q)) c in absurd (omega arith)

          pub spread_new : {w₁ w₂ : List ℕ} → w₁ ≡ set w (2 + t) 1 → w₂ ≡ set w₁ (514 + m) t → Spreading g s w₀ k w₂ (m + 1) y
          spread_new p q n S sl Q = rw (q, p, dy) (record {
            on = links_next S.linked s (e - 1) (at_edge n S sl Q);
            queued = mark_queued R t tl c;
            more = let a = (G n S sl Q).more in omega arith;
            kept = λ i l. let a = (G n S sl Q).more in mark_kept R t tl c i (omega arith) ∙ (G n S sl Q).kept i l;
            all = λ x i. go x ((G n S sl Q).all x i);
            only = λ x i. back' x (Memᴰ.cases_cons (rw (mark_more R t tl c) at i));
            left = λ x i. (G n S sl Q).left x (rw (step n S sl Q) (Memᴰ.tail i));
            behind = λ j l. mark_behind R t tl c j l ∙ (G n S sl Q).behind j l;
          })
            where
              R : Queued w m
              R = (G n S sl Q).queued

              tl : t < 512
              tl = rw dt (small n S sl Q)

              old : (x : ℕ) → x ∈ reached w m → x ∈ reached (set (set w (2 + t) 1) (514 + m) t) (m + 1)
              old x i = rw (mark_more R t tl c) (Memᴰ.tail i)

              split : (x : ℕ) → (x ≡ target g 3074 (e - 1)) ⊎ (x ∈ out s (edges_below g 3074 (link g 3074 (e - 1))))
                  → (x ∈ reached (set (set w (2 + t) 1) (514 + m) t) (m + 1)) ⊎ (x ∈ out s (edges_below g 3074 (link g 3074 (e - 1))))
              split x (inl d) = inl (rw (mark_more R t tl c) (Memᴰ.head (d ∙ sym dt)))
              split x (inr i) = inr i

              go : (x : ℕ) → (x ∈ reached w m) ⊎ (x ∈ out s (edges_below g 3074 e)) → (x ∈ reached (set (set w (2 + t) 1) (514 + m) t) (m + 1)) ⊎ (x ∈ out s (edges_below g 3074 (link g 3074 (e - 1))))
              go x (inl i) = inl (old x i)
              go x (inr i) = split x (Memᴰ.cases_cons (rw (step n S sl Q) at i))

              back' : (x : ℕ) → (x ≡ t) ⊎ (x ∈ reached w m) → (x ∈ reached w₀ k) ⊎ (x ∈ out s (edges_below g 3074 n))
              back' x (inl d) = inr ((G n S sl Q).left x (rw (step n S sl Q) (Memᴰ.head (d ∙ dt))))
              back' x (inr i) = (G n S sl Q).only x i

-- is the node an input: the ways of `is_input`
module _ (g kinds : List ℕ) (i : ℕ) {k : ℕ} (d : k ≡ get_or g (2 + i) 0) where
  pub input_not : ¬ (k ≡ 0) → false ≡ stops g kinds i
  unfolding stops
  input_not h = sym (pick_false (eqb (get_or g (2 + i) 0) 0) _ _ (ne_eqb _ _ (λ e. h (d ∙ e))))

  pub input_by : k ≡ 0 → {n c : ℕ} → n ≡ get_or g (514 + i) 0 → c ≡ get_or kinds n 0 → eqb c 1 ≡ stops g kinds i
  unfolding stops
  input_by h e f = ap (λ z. eqb z 1) (f ∙ ap (λ z. get_or kinds z 0) e) ∙ sym (pick_true (eqb (get_or g (2 + i) 0) 0) _ _ (eq-eqb _ _ (sym d ∙ h)))

-- the loop of `flood`: the next nodes of the first i are reached
pub record Flow (g kinds : List ℕ) (n : ℕ) (w₀ w : List ℕ) (m i : ℕ) : Type 0 where
  pub queued : Queued w m
  pub first : (t : ℕ) → t ∈ reached w₀ 1 → t ∈ reached w m
  pub done : (j : ℕ) → j < i → (t : ℕ) → t ∈ next_of g kinds n (get_or w (514 + j) 0) → t ∈ reached w m
  pub only : (t : ℕ) → t ∈ reached w m → Reached (next_of g kinds n) (reached w₀ 1) t
  pub behind : (j : ℕ) → 1538 ≤ j → get_or w j 0 ≡ get_or w₀ j 0

abbrev pub Flowing : List ℕ → List ℕ → List ℕ → List ℕ → ℕ → ℕ → Type 0
Flowing g kinds w₀ w m i = (n : ℕ) → Sound g n → Queued w₀ 1 → Flow g kinds n w₀ w m i

last_or : (j i : ℕ) → j < i + 1 → (j ≡ i) ⊎ (j < i)
last_or j i h = go (eqb j i) refl
  where
    less : (j i : ℕ) → j < i + 1 → ¬ (j ≡ i) → j < i
    less j i h d = omega arith

    go : (v : Bool) → eqb j i ≡ v → (j ≡ i) ⊎ (j < i)
    go true e = inl (eqb-true j i e)
    go false e = inr (less j i h (eqb-false j i e))

module _ (g kinds w₀ : List ℕ) where
  pub flow_start : Flowing g kinds w₀ w₀ 1 0
  flow_start n S Q = record { queued = Q; first = λ t i. i; done = λ j h. absurd (omega arith); only = λ t i. reached_root (next_of g kinds n) i; behind = λ j h. refl }

  module _ {w : List ℕ} {m i : ℕ} (F : Flowing g kinds w₀ w m i) where
    pub flow_end : m ≤ i → (n : ℕ) → Sound g n → Queued w₀ 1 → Flooded g kinds n w₀ w m
    flow_end h n S Q =
        let f = F n S Q in
        record {
          queued = f.queued;
          first = f.first;
          closed = λ s t a b. let (j, l, e) = at_words 514 w m s a in f.done j (omega arith) t (rw e b);
          only = f.only;
          behind = f.behind;
        }

    module _ (l : i < m) {s : ℕ} (d : s ≡ get_or w (514 + i) 0) where
      pub flow_stop : {b : Bool} → b ≡ stops g kinds s → b ≡ true → Flowing g kinds w₀ w m (i + 1)
      unfolding next_of
      flow_stop e c n S Q =
          let f = F n S Q in
          record { queued = f.queued; first = f.first; done = λ j h t a. go j (last_or j i h) t a; only = f.only; behind = f.behind }
        where
          go : (j : ℕ) → (j ≡ i) ⊎ (j < i) → (t : ℕ) → t ∈ next_of g kinds n (get_or w (514 + j) 0) → t ∈ reached w m
          go j (inr h) t a = (F n S Q).done j h t a
          go j (inl q) t a = let x : t ∈ [] = rw (none j q) at a in absurd (Memᴰ.not-nil x)
            where
              none : (j : ℕ) → j ≡ i → next_of g kinds n (get_or w (514 + j) 0) ≡ []
              none j q = ap (λ z. next_of g kinds n (get_or w (514 + z) 0)) q ∙ ap (next_of g kinds n) (sym d) ∙ pick_true (stops g kinds s) _ _ (sym e ∙ c)

      module _ {b : Bool} (e : b ≡ stops g kinds s) (c : b ≡ false) {w' : List ℕ} {m' : ℕ}
          (P : (n : ℕ) → Sound g n → s < 512 → Queued w m → Spread g n s w m w' m') where
        pub flow_on : Flowing g kinds w₀ w' m' (i + 1)
        unfolding next_of
        flow_on n S Q = record {
          queued = p.queued;
          first = λ t a. grow t (f.first t a);
          done = λ j h t a. go j (last_or j i h) t a;
          only = λ t a. back t (p.only t a);
          behind = λ j h. p.behind j h ∙ f.behind j h;
        }
          where
            f : Flow g kinds n w₀ w m i
            f = F n S Q

            listed : s ∈ reached w m
            listed = rw d (words_at 514 w m i l)

            p : Spread g n s w m w' m'
            p = P n S (f.queued.small s listed) f.queued

            grow : (t : ℕ) → t ∈ reached w m → t ∈ reached w' m'
            grow t a =
                let (j, h, q) = at_words 514 w m t a in
                let o = p.more in
                Memᴰ.cast (sym (p.kept j h ∙ q)) (words_at 514 w' m' j (omega arith))

            open_next : next_of g kinds n s ≡ out s (edges_below g 3074 n)
            open_next = pick_false (stops g kinds s) _ _ (sym e ∙ c)

            go : (j : ℕ) → (j ≡ i) ⊎ (j < i) → (t : ℕ) → t ∈ next_of g kinds n (get_or w' (514 + j) 0) → t ∈ reached w' m'
            go j (inr h) t a = grow t (f.done j h t (rw (← p.kept j (omega arith)) a))
            go j (inl q) t a = p.all t (rw (at_i j q) at a)
              where
                at_i : (j : ℕ) → j ≡ i → next_of g kinds n (get_or w' (514 + j) 0) ≡ out s (edges_below g 3074 n)
                at_i j q = ap (λ z. next_of g kinds n (get_or w' (514 + z) 0)) q ∙ ap (next_of g kinds n) (p.kept i l ∙ sym d) ∙ open_next

            back : (t : ℕ) → (t ∈ reached w m) ⊎ (t ∈ out s (edges_below g 3074 n)) → Reached (next_of g kinds n) (reached w₀ 1) t
            back t (inl a) = f.only t a
            back t (inr a) = reached_next (next_of g kinds n) (f.only s listed) (rw open_next a)

-- the loop of `gather`: the names of the first i, whose marks are taken away
pub record Taken (g kinds w₀ : List ℕ) (k : ℕ) (w : List ℕ) (r i : ℕ) : Type 0 where
  pub sized : 1538 ≤ length w
  pub kept : (j : ℕ) → j < k → get_or w (514 + j) 0 ≡ get_or w₀ (514 + j) 0
  pub cleared : (t : ℕ) → t < 512 → t ∈ reached w₀ i → get_or w (2 + t) 0 ≡ 0
  pub others : (t : ℕ) → t < 512 → ¬ (t ∈ reached w₀ k) → get_or w (2 + t) 0 ≡ 0
  pub names : found w r ≡ names_in g kinds (reached w₀ i)
  pub behind : (j : ℕ) → 1538 ≤ j → get_or w j 0 ≡ get_or w₀ j 0

abbrev pub Taking : List ℕ → List ℕ → List ℕ → ℕ → List ℕ → ℕ → ℕ → Type 0
Taking g kinds w₀ k w r i = Queued w₀ k → Taken g kinds w₀ k w r i

module _ (g kinds w₀ : List ℕ) (k : ℕ) where
  pub take_start : Taking g kinds w₀ k w₀ 0 0
  unfolding words_below names_in
  take_start Q = record {
    sized = Q.sized;
    kept = λ j h. refl;
    cleared = λ t h a. absurd (Memᴰ.not-nil a);
    others = λ t h a. low (get_or w₀ (2 + t) 0) (sym (Q.marks t h) ∙ out_of t (reached w₀ k) a);
    names = refl;
    behind = λ j h. refl;
  }
    where
      low : (x : ℕ) → ltb 0 x ≡ false → x ≡ 0
      low x e = let h = ltb-false 0 x e in omega arith

      out_of : (t : ℕ) (l : List ℕ) → ¬ (t ∈ l) → among eqb t l ≡ false
      out_of t l d = go (among eqb t l) refl
        where
          go : (v : Bool) → among eqb t l ≡ v → among eqb t l ≡ false
          go true e = absurd (d (number_in t l e))
          go false e = e

  module _ {w : List ℕ} {r i : ℕ} (T : Taking g kinds w₀ k w r i) where
    pub take_end : k ≤ i → i ≤ k → Queued w₀ k → Gathered g kinds w₀ k w r
    take_end a b Q =
        let f = T Q in
        record {
          clean = record { sized = f.sized; unmarked = λ t h. go t h (among eqb t (reached w₀ k)) refl };
          names = f.names ∙ ap (names_in g kinds) same;
          behind = f.behind;
        }
      where
        same : reached w₀ i ≡ reached w₀ k
        same = let e : i ≡ k = omega arith in ap (words_below w₀ 514) e

        go : (t : ℕ) → t < 512 → (v : Bool) → among eqb t (reached w₀ k) ≡ v → get_or w (2 + t) 0 ≡ 0
        go t h true e = (T Q).cleared t h (rw same (number_in t (reached w₀ k) e))
        go t h false e = (T Q).others t h (number_out t (reached w₀ k) e)

    module _ (l : i < k) {s : ℕ} (d : s ≡ get_or w (514 + i) 0) {v : List ℕ} (dv : v ≡ set w (2 + s) 0) (Q : Queued w₀ k) where
      own : s ≡ get_or w₀ (514 + i) 0
      own = d ∙ (T Q).kept i l

      low : s < 512
      low = Q.small s (rw own (words_at 514 w₀ k i l))

      next_reached : reached w₀ (i + 1) ≡ s ∷ reached w₀ i
      next_reached = words_more 514 w₀ w₀ i s (sym own) (λ j h. refl)

      away : (j : ℕ) → ¬ (j ≡ 2 + s) → get_or v j 0 ≡ get_or w j 0
      away j h = rw dv (miss w (2 + s) j 0 h)

      gone : get_or v (2 + s) 0 ≡ 0
      gone = let z = (T Q).sized in let y = low in rw dv (get_or-set_same w (2 + s) 0 0 (omega arith))

      size : length v ≡ length w
      size = rw dv (length-set w (2 + s) 0)

      unmark : (t : ℕ) → (b : Bool) → eqb t s ≡ b → (get_or w (2 + t) 0 ≡ 0) ⊎ (t ≡ s) → get_or v (2 + t) 0 ≡ 0
      unmark t true e h = rw (eqb-true t s e) gone
      unmark t false e (inl h) = let x = eqb-false t s e in away (2 + t) (λ c. x (omega arith)) ∙ h
      unmark t false e (inr h) = absurd (eqb-false t s e h)

      cleared' : (t : ℕ) → t < 512 → t ∈ reached w₀ (i + 1) → get_or v (2 + t) 0 ≡ 0
      cleared' t h a = go (Memᴰ.cases_cons (rw next_reached at a))
        where
          go : (t ≡ s) ⊎ (t ∈ reached w₀ i) → get_or v (2 + t) 0 ≡ 0
          go (inl e) = unmark t (eqb t s) refl (inr e)
          go (inr b) = unmark t (eqb t s) refl (inl ((T Q).cleared t h b))

      others' : (t : ℕ) → t < 512 → ¬ (t ∈ reached w₀ k) → get_or v (2 + t) 0 ≡ 0
      others' t h a = unmark t (eqb t s) refl (inl ((T Q).others t h a))

      same_names : r ≤ i → found v r ≡ found w r
      same_names h = let y = low in words_same 1026 w v r (λ j m. away (1026 + j) (λ c. omega arith))

      -- no name
      pub take_other : {b : Bool} → b ≡ stops g kinds s → b ≡ false → r ≤ i → Taken g kinds w₀ k v r (i + 1)
      unfolding names_in
      take_other e c h = record {
        sized = let z = (T Q).sized in omega (arith, size);
        kept = λ j m. let y = low in away (514 + j) (λ c. omega arith) ∙ (T Q).kept j m;
        cleared = cleared';
        others = others';
        names = same_names h ∙ (T Q).names ∙ sym (ap (names_in g kinds) next_reached ∙ pick_false (stops g kinds s) _ _ (sym e ∙ c));
        behind = λ j m. let y = low in away j (λ c. omega arith) ∙ (T Q).behind j m;
      }

      -- a name more
      pub take_name : {b : Bool} → b ≡ stops g kinds s → b ≡ true → r ≤ i → {x : ℕ} → x ≡ get_or g (514 + s) 0 → {u : List ℕ} → u ≡ set v (1026 + r) x → Taken g kinds w₀ k u (r + 1) (i + 1)
      unfolding names_in
      take_name e c h {x} ex {u} du = record {
        sized = let z = (T Q).sized in omega (arith, size, size');
        kept = λ j m. let y = low in let f = Q.few in off (514 + j) (λ c. omega arith) ∙ away (514 + j) (λ c. omega arith) ∙ (T Q).kept j m;
        cleared = λ t m a. off (2 + t) (λ c. omega arith) ∙ cleared' t m a;
        others = λ t m a. off (2 + t) (λ c. omega arith) ∙ others' t m a;
        names = longer ∙ ap (λ z. x ∷ z) (T Q).names ∙ ap (λ z. z ∷ names_in g kinds (reached w₀ i)) ex
            ∙ sym (ap (names_in g kinds) next_reached ∙ pick_true (stops g kinds s) _ _ (sym e ∙ c));
        behind = λ j m. let y = low in let f = Q.few in off j (λ c. omega arith) ∙ away j (λ c. omega arith) ∙ (T Q).behind j m;
      }
        where
          size' : length u ≡ length v
          size' = rw du (length-set v (1026 + r) x)

          off : (j : ℕ) → ¬ (j ≡ 1026 + r) → get_or u j 0 ≡ get_or v j 0
          off j m = rw du (miss v (1026 + r) j x m)

          put_there : get_or u (1026 + r) 0 ≡ x
          put_there = let z = (T Q).sized in let f = Q.few in rw du (get_or-set_same v (1026 + r) x 0 (omega (arith, size)))

          longer : found u (r + 1) ≡ x ∷ found w r
          longer = words_more 1026 v u r x put_there (λ j m. off (1026 + j) (λ c. omega arith)) ∙ ap (λ z. x ∷ z) (same_names h)
