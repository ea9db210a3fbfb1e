-- A finite graph has a rank or a closed walk, and never both: the height of a signal, counted with fuel, and pigeonhole on walks.
-- Assumes nothing.
use Prim.Native.Nat.{ℕ, zero, suc, ◌≤◌, ◌<◌, max}
use mathlib.Core.Path.{◌≡◌, refl, sym, ◌∙◌, ap}
use mathlib.Core.Logic.{◌⊎◌, inl, inr}
use mathlib.Core.List.Memᴰ
use mathlib.Core.List.{List, [], ◌∷◌}
use lib.ListN.{length}
use native.Mathlib.Omega.{arith}
use native.Mathlib.Decide.{dec_lt}
use Rattle.spec.specs.Graph.{Graph, ◌∈◌, Chain, last, Closed}
use Rattle.spec.proofs.Lists.{without, length_without, in_without, dec_in, all_or}

-- a rank for each signal, below the number of signals, that falls along reads.
pub record Ranked (G : Graph) : Type 0 where
  pub rank : G.Signal → ℕ
  pub below : (s : G.Signal) → s ∈ G.signals → rank s < length G.signals
  pub falls : (s r : G.Signal) → s ∈ G.signals → r ∈ G.reads s → rank r < rank s

-- the greatest suc (g a) of a list, 0 of none
top : {A : Type 0} → (A → ℕ) → List A → ℕ
top g [] = zero
top g (a ∷ l) = max (suc (g a)) (top g l)

module _ {A : Type 0} where
  top_over : (g : A → ℕ) {a : A} {l : List A} → a ∈ l → g a < top g l
  unfolding top
  top_over g (Memᴰ.head {xs = xs} e) = rw e (omega arith)
  top_over g (Memᴰ.tail m) = let h = top_over g m in omega arith

  top_same : (g h : A → ℕ) (l : List A) → ((a : A) → a ∈ l → g a ≡ h a) → top g l ≡ top h l
  unfolding top
  top_same g h [] e = refl
  top_same g h (a ∷ l) e = rw (e a (Memᴰ.head refl), top_same g h l (λ b m. e b (Memᴰ.tail m)))

  -- none, or the greatest is some member's
  abbrev At : (A → ℕ) → List A → ℕ → Type 0
  At g l k = (k ≡ 0) ⊎ ((a : A) × (a ∈ l) × (k ≡ suc (g a)))

  at_cons : (g : A → ℕ) (a : A) (l : List A) (k : ℕ) → Dec (suc (g a) < k) → At g l k → At g (a ∷ l) (max (suc (g a)) k)
  at_cons g a l k (no n) t = inr (a, Memᴰ.head refl, omega arith)
  at_cons g a l k (yes h) (inl e) = absurd (omega arith)
  at_cons g a l k (yes h) (inr w) = inr (w.0, Memᴰ.tail w.1, omega arith)

  top_at : (g : A → ℕ) (l : List A) → At g l (top g l)
  unfolding top
  top_at g [] = inl refl
  top_at g (a ∷ l) = at_cons g a l (top g l) (dec_lt (suc (g a)) (top g l)) (top_at g l)

-- the number of steps of the longest walk from a signal, of at most n steps
height : (G : Graph) → ℕ → G.Signal → ℕ
height G zero s = zero
height G (suc n) s = top (height G n) (G.reads s)

module _ (G : Graph) where
  -- a walk of k steps from s
  abbrev Walk : G.Signal → ℕ → Type 0
  Walk s k = (l : List G.Signal) × Chain G.reads s l × (length l ≡ k)

  walk_on : (g : G.Signal → ℕ) (s : G.Signal) (k : ℕ) → ((r : G.Signal) → Walk r (g r)) → At g (G.reads s) k → Walk s k
  walk_on g s k w (inl e) = ([], tt, sym e)
  walk_on g s k w (inr (r, m, e)) = (r ∷ (w r).0, (m, (w r).1), ap suc (w r).2 ∙ sym e)

  height_walk : (n : ℕ) (s : G.Signal) → Walk s (height G n s)
  unfolding height
  height_walk zero s = ([], tt, refl)
  height_walk (suc n) s = walk_on (height G n) s (top (height G n) (G.reads s)) (height_walk n) (top_at (height G n) (G.reads s))

  -- a height below the fuel no longer grows with it
  height_stands : (n : ℕ) (s : G.Signal) → height G n s < n → height G (suc n) s ≡ height G n s
  unfolding height
  height_stands zero s h = absurd (omega arith)
  height_stands (suc n) s h = top_same (height G (suc n)) (height G n) (G.reads s) (λ r m. height_stands n r (let o = top_over (height G n) m in omega arith))

  -- the part of a walk up to a member
  upto : {x : G.Signal} (s : G.Signal) (l : List G.Signal) → Chain G.reads s l → x ∈ l → (t : G.Signal) × (l' : List G.Signal) × Chain G.reads s (t ∷ l') × (last t l' ≡ x)
  upto s [] c m = absurd (Memᴰ.not-nil m)
  upto s (t ∷ l) c (Memᴰ.head e) = (t, [], (c.0, tt), sym e)
  upto s (t ∷ l) c (Memᴰ.tail m) = let w = upto t l c.1 m in (t, w.0 ∷ w.1, (c.0, w.2), w.3)

  -- a walk from a signal stays among the signals
  listed_along : (t : G.Signal) (s : G.Signal) (l : List G.Signal) → s ∈ G.signals → Chain G.reads s l → t ∈ (s ∷ l) → t ∈ G.signals
  listed_along t s l i c (Memᴰ.head e) = Memᴰ.cast e i
  listed_along t s [] i c (Memᴰ.tail m) = absurd (Memᴰ.not-nil m)
  listed_along t s (u ∷ l) i c (Memᴰ.tail m) = listed_along t u l (G.closed s u i c.0) c.1 m

  pub chain_listed : (s : G.Signal) (l : List G.Signal) → s ∈ G.signals → Chain G.reads s l → (t : G.Signal) → t ∈ (s ∷ l) → t ∈ G.signals
  chain_listed s l i c t m = listed_along t s l i c m

  -- pigeonhole: a walk within U that has more nodes than U comes back
  pigeonhole : (U : List G.Signal) (s : G.Signal) (l : List G.Signal) → s ∈ G.signals → Chain G.reads s l → ((t : G.Signal) → t ∈ (s ∷ l) → t ∈ U) → length U ≤ length l → Closed G
  pigeonhole U s [] i c h k = absurd (omega (arith, length_without (h s (Memᴰ.head refl))))
  pigeonhole U s (t ∷ l) i c h k = go (λ n. pigeonhole (without here) t l (G.closed s t i c.0) c.1 (λ u m. in_without here (h u (Memᴰ.tail m)) (λ e. n (Memᴰ.cast (sym e) m))) (omega (arith, length_without here))) (dec_in G.same s (t ∷ l))
    where
      here : s ∈ U
      here = h s (Memᴰ.head refl)

      go : (¬ (s ∈ (t ∷ l)) → Closed G) → Dec (s ∈ (t ∷ l)) → Closed G
      go on (yes m) = let w = upto s (t ∷ l) c m in record { start = s; listed = i; second = w.0; rest = w.1; walk = (w.2, w.3) }
      go on (no n) = on n

  low_or_loop : (s : G.Signal) → s ∈ G.signals → (height G (length G.signals) s < length G.signals) ⊎ Closed G
  low_or_loop s i = go (dec_lt (height G (length G.signals) s) (length G.signals))
    where
      go : Dec (height G (length G.signals) s < length G.signals) → (height G (length G.signals) s < length G.signals) ⊎ Closed G
      go (yes h) = inl h
      go (no n) = let w = height_walk (length G.signals) s in inr (pigeonhole G.signals s w.0 i w.1 (chain_listed s w.0 i w.1) (omega (arith, w.2)))

  height_ranked : ((s : G.Signal) → s ∈ G.signals → height G (length G.signals) s < length G.signals) → Ranked G
  unfolding height
  height_ranked h = record {
    rank = height G (length G.signals);
    below = h;
    falls = λ s r i m. omega (arith, height_stands (length G.signals) s (h s i), top_over (height G (length G.signals)) m);
  }

  pub rank_or_loop : Ranked G ⊎ Closed G
  rank_or_loop = finish (all_or G.signals low_or_loop)
    where
      finish : ((s : G.Signal) → s ∈ G.signals → height G (length G.signals) s < length G.signals) ⊎ Closed G → Ranked G ⊎ Closed G
      finish (inl h) = inl (height_ranked h)
      finish (inr c) = inr c

  -- no closed walk: a rank below the number of signals
  pub no_loop_rank : ¬ Closed G → Ranked G
  no_loop_rank h = finish rank_or_loop
    where
      finish : Ranked G ⊎ Closed G → Ranked G
      finish (inl k) = k
      finish (inr c) = absurd (h c)

  -- a rank of any size, falling along reads, rules out closed walks
  module _ (rank : G.Signal → ℕ) (falls : (s r : G.Signal) → s ∈ G.signals → r ∈ G.reads s → rank r < rank s) where
    rank_last : (s : G.Signal) (w : List G.Signal) → s ∈ G.signals → Chain G.reads s w → rank (last s w) ≤ rank s
    rank_last s [] i c = omega arith
    rank_last s (t ∷ w) i c = let h = rank_last t w (G.closed s t i c.0) c.1 in omega (arith, falls s t i c.0)

    pub falling_no_loop : ¬ Closed G
    falling_no_loop c =
        let down = falls c.start c.second c.listed c.walk.0.0 in
        let on = rank_last c.second c.rest (G.closed c.start c.second c.listed c.walk.0.0) c.walk.0.1 in
        omega (arith, ap rank c.walk.1)

  pub rank_no_loop : Ranked G → ¬ Closed G
  rank_no_loop K = falling_no_loop K.rank K.falls
