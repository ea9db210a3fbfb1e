-- A net on a graph with no closed walk comes to rest: one state rests, and as many rounds as there are signals reach it from any start.
-- Assumes nothing.
use Prim.Native.Nat.{ℕ, zero, suc, ◌+◌, ◌≤◌, ◌<◌}
use mathlib.Core.Path.{◌≡◌, refl, sym, ◌∙◌, ap}
use mathlib.Core.Logic.{◌⊎◌, inl, inr}
use mathlib.Core.List.Memᴰ
use mathlib.Core.List.{List, [], ◌∷◌}
use lib.ListN.{length, take, length-take}
use native.Mathlib.Omega.{arith}
use Rattle.spec.specs.Graph.{Graph, ◌∈◌, Closed}
use Rattle.spec.specs.Net.{Net, Round, together, singly, State, gives, recalculate, recalculate_each, round, rounds, Rests, Agree, ComesToRest}
use Rattle.spec.proofs.Lists.{in_once}
use Rattle.spec.proofs.Rank.{Ranked, rank_or_loop, no_loop_rank}

-- one signal recalculated
module _ {G : Graph} (N : Net G) (s t : G.Signal) (x : State N) (i : t ∈ G.signals) where
  recalculate_self : t ≡ s → recalculate N s x t i ≡ gives N x t i
  unfolding recalculate
  recalculate_self e = go (G.same t s)
    where
      go : (d : Dec (t ≡ s)) → elim d as (λ z. N.Value t) [ yes e ↦ gives N x t i | no n ↦ x t i ] ≡ gives N x t i
      go (yes e') = refl
      go (no n) = absurd (n e)

  recalculate_both : {v : N.Value t} → gives N x t i ≡ v → x t i ≡ v → recalculate N s x t i ≡ v
  unfolding recalculate
  recalculate_both {v} p q = go (G.same t s)
    where
      go : (d : Dec (t ≡ s)) → elim d as (λ z. N.Value t) [ yes e ↦ gives N x t i | no n ↦ x t i ] ≡ v
      go (yes e) = p
      go (no n) = q

-- a state has one value for a signal, however it is shown to be one
pub one_value : {G : Graph} (N : Net G) (x : State N) (s : G.Signal) (i j : s ∈ G.signals) → x s i ≡ x s j
one_value {G} N x s i j = ap (x s) (in_once G.same G.once i j)

module _ {G : Graph} (N : Net G) (K : Ranked G) where
  -- two states agree on the signals of rank below k
  abbrev Upto : ℕ → State N → State N → Type 0
  Upto k x y = (s : G.Signal) (i : s ∈ G.signals) → K.rank s < k → x s i ≡ y s i

  same_gives : (k : ℕ) (x y : State N) → Upto k x y → (s : G.Signal) (i : s ∈ G.signals) → K.rank s ≤ k → gives N x s i ≡ gives N y s i
  same_gives k x y u s i h = λ t. N.new s (λ r m. u r (G.closed s r i m) (omega (arith, K.falls s r i m)) t)

  -- two resting states
  rests_upto : (x y : State N) → Rests N x → Rests N y → (k : ℕ) → Upto k x y
  rests_upto x y p q zero s i h = absurd (omega arith)
  rests_upto x y p q (suc k) s i h = p s i ∙ same_gives k x y (rests_upto x y p q k) s i (omega arith) ∙ sym (q s i)

  ranked_only : (x y : State N) → Rests N x → Rests N y → Agree N x y
  ranked_only x y p q s i = rests_upto x y p q (length G.signals) s i (K.below s i)

  -- the resting state, by recursion on the rank
  lower : (k : ℕ) (s r : G.Signal) → s ∈ G.signals → r ∈ G.reads s → K.rank s < suc k → K.rank r < k
  lower k s r i m h = omega (arith, K.falls s r i m)

  value : (k : ℕ) (s : G.Signal) → s ∈ G.signals → K.rank s < k → N.Value s
  value zero s i h = absurd (omega arith)
  value (suc k) s i h = N.new s (λ r m. value k r (G.closed s r i m) (lower k s r i m h))

  value_same : (k n : ℕ) (s : G.Signal) (i : s ∈ G.signals) (h : K.rank s < k) (h' : K.rank s < n) → value k s i h ≡ value n s i h'
  unfolding value
  value_same zero n s i h h' = absurd (omega arith)
  value_same (suc k) zero s i h h' = absurd (omega arith)
  value_same (suc k) (suc n) s i h h' = λ t. N.new s (λ r m. value_same k n r (G.closed s r i m) (lower k s r i m h) (lower n s r i m h') t)

  abbrev rest_state : State N
  rest_state s i = value (length G.signals) s i (K.below s i)

  rest_at : (k : ℕ) (s : G.Signal) (i : s ∈ G.signals) (h : K.rank s < k) → value k s i h ≡ gives N rest_state s i
  unfolding value
  rest_at zero s i h = absurd (omega arith)
  rest_at (suc k) s i h = λ t. N.new s (λ r m. value_same k (length G.signals) r (G.closed s r i m) (lower k s r i m h) (K.below r (G.closed s r i m)) t)

  ranked_rests : (y : State N) × Rests N y
  ranked_rests = (rest_state, λ s i. rest_at (length G.signals) s i (K.below s i))

  -- rounds towards a resting state y
  module _ (y : State N) (q : Rests N y) where
    gives_right : (k : ℕ) (x : State N) → Upto k x y → (s : G.Signal) (i : s ∈ G.signals) → K.rank s ≤ k → gives N x s i ≡ y s i
    gives_right k x u s i h = same_gives k x y u s i h ∙ sym (q s i)

    recalculate_upto : (k : ℕ) (x : State N) → Upto k x y → (s : G.Signal) → Upto k (recalculate N s x) y
    recalculate_upto k x u s t i h = recalculate_both N s t x i (gives_right k x u t i (omega arith)) (u t i h)

    -- what is right stays right
    each_keeps : (k : ℕ) (l : List G.Signal) (x : State N) → Upto k x y → (t : G.Signal) (i : t ∈ G.signals) → K.rank t ≤ k → x t i ≡ y t i → recalculate_each N l x t i ≡ y t i
    unfolding recalculate_each
    each_keeps k [] x u t i h e = e
    each_keeps k (s ∷ l) x u t i h e = each_keeps k l (recalculate N s x) (recalculate_upto k x u s) t i h (recalculate_both N s t x i (gives_right k x u t i h) e)

    -- what is recalculated comes right
    each_gains : (k : ℕ) (l : List G.Signal) (x : State N) → Upto k x y → (t : G.Signal) (i : t ∈ G.signals) → K.rank t ≤ k → t ∈ l → recalculate_each N l x t i ≡ y t i
    unfolding recalculate_each
    each_gains k [] x u t i h x5 = elim x5 [ ]
    each_gains k (s ∷ l) x u t i h (Memᴰ.head e) = each_keeps k l (recalculate N s x) (recalculate_upto k x u s) t i h (recalculate_self N s t x i e ∙ gives_right k x u t i h)
    each_gains k (s ∷ l) x u t i h (Memᴰ.tail m) = each_gains k l (recalculate N s x) (recalculate_upto k x u s) t i h m

    round_gains : (k : ℕ) (r : Round G) (x : State N) → Upto k x y → Upto (suc k) (round N r x) y
    unfolding round
    round_gains k together x u s i h = gives_right k x u s i (omega arith)
    round_gains k (singly order once all) x u s i h = each_gains k order x u s i (omega arith) ((all s).1 i)

    rounds_gain : (k : ℕ) (l : List (Round G)) (x : State N) → Upto k x y → Upto (k + length l) (rounds N l x) y
    unfolding rounds
    rounds_gain k [] x u s i h = u s i (omega arith)
    rounds_gain k (r ∷ l) x u s i h = rounds_gain (suc k) l (round N r x) (round_gains k r x u) s i (omega arith)

    ranked_reached : (x : State N) (l : List (Round G)) → length G.signals ≤ length l → Agree N (rounds N l x) y
    ranked_reached x l h s i = rounds_gain 0 l x (λ t j z. absurd (omega arith)) s i (omega (arith, K.below s i))

-- a rank brings every net to rest
pub ranked_comes_to_rest : {G : Graph} → Ranked G → ComesToRest G
ranked_comes_to_rest K N =
    let y = ranked_rests N K in (
      y.0,
      record {
        rests = y.1;
        only = λ x q. ranked_only N K x y.0 q y.1;
        reached = λ x l k h g. ranked_reached N K y.0 y.1 x (take k l) (omega (arith, length-take k l));
      },
    )

-- and so does the absence of closed walks
pub comes_to_rest : (G : Graph) → ¬ Closed G → ComesToRest G
comes_to_rest G h = ranked_comes_to_rest (no_loop_rank G h)

pub rest_or_loop : (G : Graph) → ComesToRest G ⊎ Closed G
rest_or_loop G = finish (rank_or_loop G)
  where
    finish : Ranked G ⊎ Closed G → ComesToRest G ⊎ Closed G
    finish (inl K) = inl (ranked_comes_to_rest K)
    finish (inr c) = inr c
