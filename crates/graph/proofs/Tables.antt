-- A table of edges: the edges of a source by their links, and one edge more. Assumes nothing.
use mathlib.Core.Path.{◌≡◌, refl, sym, ◌∙◌, ap}
use mathlib.Core.Bool.{Bool, true, false, true≢false, false≢true}
use mathlib.Core.List.{List, ◌∷◌}
use Prim.Native.Nat.{ℕ, zero, suc, ◌+◌, ◌-◌, ◌<◌, ◌≤◌}
use native.Mathlib.Omega.{arith}
use native.Mathlib.Numerals.{add-one}
use native.Mathlib.Nat.{add_assoc}
use lib.ListN.{length, get_or, set, length-set}
use lib.Seq.{get_or-set_same, get_or-set_other}
use lib.Dec.{eqb, ltb}
use borrow.Author.Tests.{eqb-true, eqb-false, eq-eqb, ne_eqb, ltb-true, lt-ltb, le-ltb}
use Rattle.spec.specs.DepthFirst.{among}
use Rattle.spec.proofs.Numbers.{if_case}
use Rattle.graph.specs.Table.{OnLinks, source, target, link, links_find, edge_there, newest, edges_below, out, Linked, pushed}

-- a choice whose test is known
pub pick_true : {A : Type 0} (b : Bool) (x y : A) → b ≡ true → elim b as (λ _. A) [ true ↦ x | false ↦ y ] ≡ x
pick_true true x y e = refl
pick_true false x y e = absurd (false≢true e)

pub pick_false : {A : Type 0} (b : Bool) (x y : A) → b ≡ false → elim b as (λ _. A) [ true ↦ x | false ↦ y ] ≡ y
pick_false true x y e = absurd (true≢false e)
pick_false false x y e = refl

-- a store elsewhere
pub miss : (g : List ℕ) (i j a : ℕ) → ¬ (j ≡ i) → get_or (set g i a) j 0 ≡ get_or g j 0
miss g i j a h = get_or-set_other g i j a 0 h

module _ (g : List ℕ) (b s : ℕ) where
  pub newest_le : (k : ℕ) → newest g b s k ≤ k
  unfolding newest
  newest_le zero = omega arith
  newest_le (suc k) = let i = newest_le k in if_case (λ z. z ≤ suc k) (eqb (source g b k) s) _ _ (λ e. omega arith) (λ e. omega arith)

  pub newest_own : (k m : ℕ) → newest g b s k ≡ suc m → source g b m ≡ s
  unfolding newest
  newest_own zero m e = absurd (omega arith)
  newest_own (suc k) m e = go (newest_own k m) (eqb (source g b k) s) refl e
    where
      last : (k : ℕ) → suc k ≡ suc m → k ≡ m
      last k e = omega arith

      go : (newest g b s k ≡ suc m → source g b m ≡ s) → (v : Bool) → eqb (source g b k) s ≡ v
          → elim v as (λ _. ℕ) [ true ↦ suc k | false ↦ newest g b s k ] ≡ suc m → source g b m ≡ s
      go i true f e = rw (← last k e) (eqb-true (source g b k) s f)
      go i false f e = i e

  out_own : (k : ℕ) → source g b k ≡ s → out s (edges_below g b (suc k)) ≡ target g b k ∷ out s (edges_below g b k)
  unfolding out edges_below
  out_own k e = pick_true (eqb (source g b k) s) _ _ (eq-eqb (source g b k) s e)

  pub out_newest : (k : ℕ) → out s (edges_below g b (newest g b s k)) ≡ out s (edges_below g b k)
  unfolding newest out edges_below
  out_newest zero = refl
  out_newest (suc k) = go (eqb (source g b k) s) refl (out_newest k)
    where
      go : (v : Bool) → eqb (source g b k) s ≡ v → out s (edges_below g b (newest g b s k)) ≡ out s (edges_below g b k)
          → out s (edges_below g b (elim v as (λ _. ℕ) [ true ↦ suc k | false ↦ newest g b s k ]))
          ≡ elim v as (λ _. List ℕ) [ true ↦ target g b k ∷ out s (edges_below g b k) | false ↦ out s (edges_below g b k) ]
      go true f i = out_own k (eqb-true (source g b k) s f)
      go false f i = i

module _ {g : List ℕ} {b n : ℕ} (l : Linked g b n) (s : ℕ) where
  -- where the links of s begin: all its targets are still to come
  pub links_start : s < 512 → OnLinks g b s n (get_or g (b + s) 0)
  links_start h = record {
    within = rw (l.firsts s h) (newest_le g b s n);
    own = λ k e. newest_own g b s n k (sym (l.firsts s h) ∙ e);
  }

  pub links_all : s < 512 → out s (edges_below g b (get_or g (b + s) 0)) ≡ out s (edges_below g b n)
  links_all h = rw (l.firsts s h) (out_newest g b s n)

  -- the next place: one target, and then those that are still to come
  module _ (k : ℕ) (o : OnLinks g b s n (suc k)) where
    link_newest : link g b k ≡ newest g b s k
    link_newest = let w = o.within in l.links k (omega arith) ∙ ap (λ z. newest g b z k) (o.own k refl)

    pub links_next : OnLinks g b s n (link g b k)
    links_next =
        let w = o.within in
        let i = newest_le g b s k in
        rw link_newest (record { within = omega arith; own = newest_own g b s k })

    pub links_less : link g b k < suc k
    links_less = let i = newest_le g b s k in omega (arith, link_newest)

    pub links_step : out s (edges_below g b (suc k)) ≡ target g b k ∷ out s (edges_below g b (link g b k))
    links_step = out_own g b s k (o.own k refl) ∙ ap (λ z. target g b k ∷ z) (sym (out_newest g b s k) ∙ ap (λ z. out s (edges_below g b z)) (sym link_newest))

-- tables that agree on the edges below k
module _ (g h : List ℕ) (b : ℕ) where
  pub same_newest : (s k : ℕ) → ((i : ℕ) → i < k → source h b i ≡ source g b i) → newest h b s k ≡ newest g b s k
  unfolding newest
  same_newest s zero f = refl
  same_newest s (suc k) f =
      let i = same_newest s k (λ i l. f i (omega arith)) in
      ap {B = ℕ} (λ z. elim (eqb z s) as (λ _. ℕ) [ true ↦ suc k | false ↦ newest h b s k ]) (f k (omega arith))
      ∙ ap {B = ℕ} (λ z. elim (eqb (source g b k) s) as (λ _. ℕ) [ true ↦ suc k | false ↦ z ]) i

  pub same_edges : (k : ℕ) → ((i : ℕ) → i < k → source h b i ≡ source g b i) → ((i : ℕ) → i < k → target h b i ≡ target g b i)
      → edges_below h b k ≡ edges_below g b k
  unfolding edges_below
  same_edges zero f e = refl
  same_edges (suc k) f e =
      let i = same_edges k (λ i l. f i (omega arith)) (λ i l. e i (omega arith)) in
      rw (f k (omega arith), e k (omega arith), i)

  -- where the whole table is the same
  pub linked_same : (k : ℕ) → Linked g b k → length h ≡ length g → ((i : ℕ) → i < 12800 → get_or h (b + i) 0 ≡ get_or g (b + i) 0) → Linked h b k
  linked_same k l e f = record {
    room = let r = l.room in omega (arith, e);
    few = l.few;
    sources = λ i m. rw (src i l.few m) (l.sources i m);
    firsts = λ s m. f s (omega arith) ∙ l.firsts s m ∙ sym (same_newest s k (λ i m. src i l.few m));
    links = λ i m. lnk i l.few m ∙ l.links i m ∙ ap (λ z. newest g b z i) (sym (src i l.few m))
        ∙ sym (same_newest (source h b i) i (λ j q. src j l.few (omega arith)));
  }
    where
      src : (i : ℕ) → k ≤ 4096 → i < k → source h b i ≡ source g b i
      src i m l = rw (add_assoc b 512 i) (f (512 + i) (omega arith))

      lnk : (i : ℕ) → k ≤ 4096 → i < k → link h b i ≡ link g b i
      lnk i m l = rw (add_assoc b 8704 i) (f (8704 + i) (omega arith))

  pub edges_same : (k : ℕ) → k ≤ 4096 → ((i : ℕ) → i < 12800 → get_or h (b + i) 0 ≡ get_or g (b + i) 0) → edges_below h b k ≡ edges_below g b k
  edges_same k l f = same_edges k (λ i m. rw (add_assoc b 512 i) (f (512 + i) (omega arith))) (λ i m. rw (add_assoc b 4608 i) (f (4608 + i) (omega arith)))

-- one edge more
module _ (g : List ℕ) (b k s t : ℕ) where
  -- after one store, two and three
  abbrev one : List ℕ
  one = set g (b + 512 + k) s

  abbrev two : List ℕ
  two = set one (b + 4608 + k) t

  abbrev three : List ℕ
  three = set two (b + 8704 + k) (get_or g (b + s) 0)

  pub pushed_length : length (pushed g b k s t) ≡ length g
  unfolding pushed
  pushed_length = simp length-set

  pub pushed_other : (j : ℕ) → ¬ (j ≡ b + 512 + k) → ¬ (j ≡ b + 4608 + k) → ¬ (j ≡ b + 8704 + k) → ¬ (j ≡ b + s) → get_or (pushed g b k s t) j 0 ≡ get_or g j 0
  unfolding pushed
  pushed_other j p q r u = miss three (b + s) j (k + 1) u ∙ miss two (b + 8704 + k) j (get_or g (b + s) 0) r ∙ miss one (b + 4608 + k) j t q ∙ miss g (b + 512 + k) j s p

  module _ (room : b + 12800 ≤ length g) (kl : k < 4096) (sl : s < 512) where
    pub pushed_first : get_or (pushed g b k s t) (b + s) 0 ≡ suc k
    unfolding pushed
    pushed_first = get_or-set_same three (b + s) (k + 1) 0 (simp length-set (omega arith)) ∙ add-one k

    pub pushed_link : link (pushed g b k s t) b k ≡ get_or g (b + s) 0
    unfolding pushed
    pushed_link = miss three (b + s) (b + 8704 + k) (k + 1) (λ e. omega arith) ∙ get_or-set_same two (b + 8704 + k) (get_or g (b + s) 0) 0 (simp length-set (omega arith))

    pub pushed_target : target (pushed g b k s t) b k ≡ t
    unfolding pushed
    pushed_target = miss three (b + s) (b + 4608 + k) (k + 1) (λ e. omega arith) ∙ miss two (b + 8704 + k) (b + 4608 + k) (get_or g (b + s) 0) (λ e. omega arith)
        ∙ get_or-set_same one (b + 4608 + k) t 0 (simp length-set (omega arith))

    pub pushed_source : source (pushed g b k s t) b k ≡ s
    unfolding pushed
    pushed_source = miss three (b + s) (b + 512 + k) (k + 1) (λ e. omega arith) ∙ miss two (b + 8704 + k) (b + 512 + k) (get_or g (b + s) 0) (λ e. omega arith)
        ∙ miss one (b + 4608 + k) (b + 512 + k) t (λ e. omega arith) ∙ get_or-set_same g (b + 512 + k) s 0 (omega arith)

    pub source_before : (i : ℕ) → i < k → source (pushed g b k s t) b i ≡ source g b i
    source_before i h = pushed_other (b + 512 + i) (λ e. omega arith) (λ e. omega arith) (λ e. omega arith) (λ e. omega arith)

    pub target_before : (i : ℕ) → i < k → target (pushed g b k s t) b i ≡ target g b i
    target_before i h = pushed_other (b + 4608 + i) (λ e. omega arith) (λ e. omega arith) (λ e. omega arith) (λ e. omega arith)

    link_before : (i : ℕ) → i < k → link (pushed g b k s t) b i ≡ link g b i
    link_before i h = pushed_other (b + 8704 + i) (λ e. omega arith) (λ e. omega arith) (λ e. omega arith) (λ e. omega arith)

    pub pushed_below : (i : ℕ) → i ≤ k → edges_below (pushed g b k s t) b i ≡ edges_below g b i
    pushed_below i h = same_edges g (pushed g b k s t) b i (λ j l. source_before j (omega arith)) (λ j l. target_before j (omega arith))

    pub pushed_edges : edges_below (pushed g b k s t) b (suc k) ≡ (s, t) ∷ edges_below g b k
    unfolding edges_below
    pushed_edges = rw (pushed_source, pushed_target, pushed_below k (omega arith))

    newest_before : (x i : ℕ) → i ≤ k → newest (pushed g b k s t) b x i ≡ newest g b x i
    newest_before x i h = same_newest g (pushed g b k s t) b x i (λ j l. source_before j (omega arith))

    pub pushed_linked : Linked g b k → Linked (pushed g b k s t) b (suc k)
    unfolding newest
    pushed_linked l = record {
      room = omega (arith, pushed_length);
      few = omega arith;
      sources = λ i h. go_source i h (eqb i k) refl;
      firsts = λ x h. go_first x h (eqb x s) refl;
      links = λ i h. go_link i h (eqb i k) refl;
    }
      where
        below : (i : ℕ) → i < suc k → ¬ (i ≡ k) → i < k
        below i h d = omega arith

        go_source : (i : ℕ) → i < suc k → (v : Bool) → eqb i k ≡ v → source (pushed g b k s t) b i < 512
        go_source i h true e = rw (eqb-true i k e, pushed_source) sl
        go_source i h false e = let m = below i h (eqb-false i k e) in rw (source_before i m) (l.sources i m)

        go_first : (x : ℕ) → x < 512 → (v : Bool) → eqb x s ≡ v → get_or (pushed g b k s t) (b + x) 0 ≡ newest (pushed g b k s t) b x (suc k)
        go_first x h true e = let d = eqb-true x s e in
            rw d (pushed_first ∙ sym (pick_true (eqb (source (pushed g b k s t) b k) s) _ _ (eq-eqb _ s pushed_source)))
        go_first x h false e = let d = eqb-false x s e in
            pushed_other (b + x) (λ c. omega arith) (λ c. omega arith) (λ c. omega arith) (λ c. d (omega arith))
            ∙ l.firsts x h ∙ sym (newest_before x k (omega arith)) ∙ sym (pick_false (eqb (source (pushed g b k s t) b k) x) _ _ (apart x d))
          where
            apart : (x : ℕ) → ¬ (x ≡ s) → eqb (source (pushed g b k s t) b k) x ≡ false
            apart x d = rw pushed_source (ne_eqb s x (λ c. d (sym c)))

        go_link : (i : ℕ) → i < suc k → (v : Bool) → eqb i k ≡ v → link (pushed g b k s t) b i ≡ newest (pushed g b k s t) b (source (pushed g b k s t) b i) i
        go_link i h true e = rw (eqb-true i k e, pushed_source) (pushed_link ∙ l.firsts s sl ∙ sym (newest_before s k (omega arith)))
        go_link i h false e = let m = below i h (eqb-false i k e) in
            link_before i m ∙ l.links i m ∙ sym (newest_before (source g b i) i (omega arith)) ∙ ap (λ z. newest (pushed g b k s t) b z i) (sym (source_before i m))

-- the ways of `has_edge`: whether t is among the targets that are still to come
abbrev pub Seeking : List ℕ → ℕ → ℕ → ℕ → ℕ → Type 0
Seeking g b s t e = (n : ℕ) → Linked g b n → s < 512 → OnLinks g b s n e × (among eqb t (out s (edges_below g b e)) ≡ among eqb t (out s (edges_below g b n)))

module _ (g : List ℕ) (b s t : ℕ) where
  abbrev Has : Bool → Type 0
  Has r = (n : ℕ) → Linked g b n → s < 512 → r ≡ among eqb t (out s (edges_below g b n))

  pub seek_start : {e : ℕ} → e ≡ get_or g (b + s) 0 → Seeking g b s t e
  seek_start d n l h = rw d (links_start l s h, ap (among eqb t) (links_all l s h))

  pub seek_end : {e : ℕ} → e ≤ 0 → Seeking g b s t e → Has false
  unfolding out edges_below among
  seek_end {e} z f n l h = go (omega arith) (f n l h).1
    where
      go : e ≡ 0 → among eqb t (out s (edges_below g b e)) ≡ among eqb t (out s (edges_below g b n)) → false ≡ among eqb t (out s (edges_below g b n))
      go d q = rw d at q

  module _ {e : ℕ} (z : 0 < e) (f : Seeking g b s t e) where
    back : e ≡ suc (e - 1)
    back = omega arith

    module _ (n : ℕ) (l : Linked g b n) (h : s < 512) where
      at_edge : OnLinks g b s n (suc (e - 1))
      at_edge = rw (← back) (f n l h).0

      seek_step : among eqb t (target g b (e - 1) ∷ out s (edges_below g b (link g b (e - 1)))) ≡ among eqb t (out s (edges_below g b n))
      seek_step = ap (among eqb t) (sym (links_step l s (e - 1) at_edge) ∙ ap (λ y. out s (edges_below g b y)) (sym back)) ∙ (f n l h).1

    pub seek_here : {x : ℕ} → x ≡ target g b (e - 1) → x ≡ t → Has true
    unfolding among
    seek_here d q n l h = sym (pick_true (eqb t (target g b (e - 1))) _ _ (eq-eqb _ _ (sym q ∙ d))) ∙ seek_step n l h

    pub seek_next : {x y : ℕ} → x ≡ target g b (e - 1) → ¬ (x ≡ t) → y ≡ link g b (e - 1) → Seeking g b s t y
    unfolding among
    seek_next d q w n l h =
        rw w (links_next l s (e - 1) (at_edge n l h), sym (pick_false (eqb t (target g b (e - 1))) _ _ (ne_eqb _ _ (λ c. q (d ∙ sym c)))) ∙ seek_step n l h)

    pub seek_lost : {y : ℕ} → y ≡ link g b (e - 1) → e ≤ y → (r : Bool) → Has r
    seek_lost w u r n l h = let k = links_less l s (e - 1) (at_edge n l h) in absurd (omega arith)

-- the ways of `has_edge` for any words: what the links find is what they find from here on
abbrev pub Following : List ℕ → ℕ → ℕ → ℕ → ℕ → Type 0
Following g b s t e = edge_there g b s t ≡ links_find g b t e e

module _ (g : List ℕ) (b t : ℕ) where
  -- more steps than the place find no more
  links_enough : (f h e : ℕ) → e ≤ f → e ≤ h → links_find g b t f e ≡ links_find g b t h e
  unfolding links_find
  links_enough zero zero e l m = refl
  links_enough zero (suc h) zero l m = refl
  links_enough zero (suc h) (suc k) l m = absurd (omega arith)
  links_enough (suc f) zero zero l m = refl
  links_enough (suc f) zero (suc k) l m = absurd (omega arith)
  links_enough (suc f) (suc h) zero l m = refl
  links_enough (suc f) (suc h) (suc k) l m = go (links_enough f h (link g b k)) (eqb (target g b k) t) (ltb (link g b k) (suc k)) refl
    where
      go : (link g b k ≤ f → link g b k ≤ h → links_find g b t f (link g b k) ≡ links_find g b t h (link g b k))
          → (u v : Bool) → ltb (link g b k) (suc k) ≡ v
          → ◌≡◌ {A = Bool}
          (elim u as (λ _. Bool) [ true ↦ true | false ↦ elim v as (λ _. Bool) [ true ↦ links_find g b t f (link g b k) | false ↦ false ] ])
          (elim u as (λ _. Bool) [ true ↦ true | false ↦ elim v as (λ _. Bool) [ true ↦ links_find g b t h (link g b k) | false ↦ false ] ])
      go i true v q = refl
      go i false true q = let z = ltb-true (link g b k) (suc k) q in i (omega arith) (omega arith)
      go i false false q = refl

module _ (g : List ℕ) (b s t : ℕ) where
  pub follow_start : {e : ℕ} → e ≡ get_or g (b + s) 0 → Following g b s t e
  unfolding edge_there
  follow_start d = ap (λ z. links_find g b t z z) (sym d)

  pub follow_end : {e : ℕ} → e ≤ 0 → Following g b s t e → false ≡ edge_there g b s t
  unfolding links_find
  follow_end {e} z f = sym (f ∙ ap (λ y. links_find g b t y y) (none e z))
    where
      none : (e : ℕ) → e ≤ 0 → e ≡ 0
      none e z = omega arith

  module _ {e : ℕ} (z : 0 < e) (f : Following g b s t e) where
    follow_step : edge_there g b s t ≡ elim (eqb (target g b (e - 1)) t) as (λ _. Bool) [
      | true ↦ true
      | false ↦ elim (ltb (link g b (e - 1)) (suc (e - 1))) as (λ _. Bool) [ true ↦ links_find g b t (e - 1) (link g b (e - 1)) | false ↦ false ]
    ]
    unfolding links_find
    follow_step = f ∙ ap (λ y. links_find g b t y y) (back' e z)
      where
        back' : (e : ℕ) → 0 < e → e ≡ suc (e - 1)
        back' e z = omega arith

    pub follow_here : {x : ℕ} → x ≡ target g b (e - 1) → x ≡ t → true ≡ edge_there g b s t
    follow_here d q = sym (follow_step ∙ pick_true (eqb (target g b (e - 1)) t) _ _ (eq-eqb (target g b (e - 1)) t (sym d ∙ q)))

    module _ {x y : ℕ} (d : x ≡ target g b (e - 1)) (q : ¬ (x ≡ t)) (w : y ≡ link g b (e - 1)) where
      follow_past : edge_there g b s t
          ≡ elim (ltb (link g b (e - 1)) (suc (e - 1))) as (λ _. Bool) [ true ↦ links_find g b t (e - 1) (link g b (e - 1)) | false ↦ false ]
      follow_past = follow_step ∙ pick_false (eqb (target g b (e - 1)) t) _ _ (ne_eqb (target g b (e - 1)) t (λ c. q (d ∙ c)))

      pub follow_lost : e ≤ y → false ≡ edge_there g b s t
      follow_lost u = sym (follow_past ∙ pick_false (ltb (link g b (e - 1)) (suc (e - 1))) _ _ (le-ltb (link g b (e - 1)) (suc (e - 1)) (omega (arith, w))))

      pub follow_next : y < e → Following g b s t y
      follow_next u =
          follow_past ∙ pick_true (ltb (link g b (e - 1)) (suc (e - 1))) _ _ (lt-ltb (link g b (e - 1)) (suc (e - 1)) (omega (arith, w)))
          ∙ links_enough g b t (e - 1) (link g b (e - 1)) (link g b (e - 1)) (omega (arith, w)) (omega arith) ∙ ap (λ v. links_find g b t v v) (sym w)
