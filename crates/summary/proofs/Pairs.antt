-- Pairs behind those of a table: one more, all of an output, and the whole summary, which is then kept.
-- Assumes nothing.
use mathlib.Core.Path.{◌≡◌, refl, sym, ◌∙◌, ap}
use mathlib.Core.Bool.{Bool, true, false, true≢false}
use mathlib.Core.Logic.{◌⊎◌, inl, inr}
use mathlib.Core.List.{List, [], ◌∷◌, ◌++◌, append-nil, append_assoc}
use mathlib.Core.Option.{some}
use Prim.Native.Nat.{ℕ, zero, suc, ◌+◌, ◌-◌, ◌*◌, ◌≤◌, ◌<◌, max}
use native.Mathlib.Omega.{arith}
use lib.ListN.{length, get_or, set, length-set, length-append}
use lib.Seq.{get_or-set_same, set_out}
use lib.Dec.{eqb, ltb}
use borrow.Author.Tests.{eqb-true, eqb-false, eq-eqb, ne_eqb, lt-ltb, le-ltb, ltb-true, ltb-false}
use Rattle.spec.specs.Bytes.{Bytes}
use Rattle.spec.specs.Refusal.{has_name}
use Rattle.spec.specs.Edge.{Summary}
use Rattle.spec.specs.Summary.{Kept, kept_summary, triples, triple_limit, paired}
use Rattle.graph.specs.Reach.{words_below, found}
use Rattle.edges.specs.Lines.{summary_at}
use Rattle.walk.specs.Alike.{Alike}
use Rattle.spec.specs.Cleared.{Cleared}
use Rattle.spec.proofs.Cleared.{cleared_of}
use Rattle.summary.specs.Keeps.{state_word, start_of, count_of, total_of, kept_places, pairs_of, StateIs, Keeps, recorded}
use Rattle.summary.specs.Pairs.{Grown, with_pair, pairs_written, Leaves, Added}
use Rattle.summary.proofs.Table.{miss, pairs_same, Same, carried, name_other}

-- pairs that stand one behind the other
at_more : (k : List ℕ) (first n : ℕ) {p : ℕ} → p ≡ first + 2 * n → summary_at k first (suc n) ≡ summary_at k first n ++ (get_or k p 0, get_or k (p + 1) 0) ∷ []
unfolding summary_at
at_more k first zero {p} e = let d : first ≡ p = omega arith in ap (λ (i : ℕ). (get_or k i 0, get_or k (i + 1) 0) ∷ []) d
at_more k first (suc n) e = ap (λ (z : Summary). (get_or k first 0, get_or k (first + 1) 0) ∷ z) (at_more k (first + 2) n (omega arith))

-- no pairs are added
pub grown_none : (k : List ℕ) → kept_places ≤ length k → total_of k ≤ triple_limit → Grown k k []
unfolding summary_at
grown_none k z l = record { sized = z; same = λ i a b. refl; total = omega arith; few = l; pairs = refl }

-- what writing pairs leaves of any words: pairs are written behind those that k counts, to 1,024 at most, and counted; every other word is as it was
pub record Written (k k' : List ℕ) : Type 0 where
  pub size : length k' ≡ length k
  pub more : total_of k ≤ total_of k'
  pub few : total_of k' ≤ max (total_of k) triple_limit
  pub others : (i : ℕ) → ¬ (i ≡ 96) → (i < 97 + 2 * total_of k) ⊎ (97 + 2 * total_of k' ≤ i) → get_or k' i 0 ≡ get_or k i 0

-- no pair is written, or some and then others
pub written_none : (k : List ℕ) → Written k k
written_none k = record { size = refl; more = omega arith; few = omega arith; others = λ i a h. refl }

pub written_then : {k k₁ k₂ : List ℕ} → Written k k₁ → Written k₁ k₂ → Written k k₂
written_then {k} {k₁} {k₂} h g =
    let a = h.more in
    let b = g.more in
    record {
      size = g.size ∙ h.size;
      more = omega arith;
      few = omega (arith, h.few, g.few);
      others = λ i n w. g.others i n (later i w) ∙ h.others i n (before i w);
    }
  where
    later : (i : ℕ) → (i < 97 + 2 * total_of k) ⊎ (97 + 2 * total_of k₂ ≤ i) → (i < 97 + 2 * total_of k₁) ⊎ (97 + 2 * total_of k₂ ≤ i)
    later i (inl x) = inl (omega (arith, h.more))
    later i (inr x) = inr x

    before : (i : ℕ) → (i < 97 + 2 * total_of k) ⊎ (97 + 2 * total_of k₂ ≤ i) → (i < 97 + 2 * total_of k) ⊎ (97 + 2 * total_of k₁ ≤ i)
    before i (inl x) = inl x
    before i (inr x) = inr (omega (arith, g.more))

-- ---- pairs written one after the other

step_room : (p : ℕ × ℕ) (ps : Summary) (k : List ℕ) → ltb (total_of k) triple_limit ≡ true → pairs_written (p ∷ ps) k ≡ pairs_written ps (with_pair k p)
unfolding pairs_written
step_room p ps k e = rw (e, pairs_written)

step_none : (p : ℕ × ℕ) (ps : Summary) (k : List ℕ) → ltb (total_of k) triple_limit ≡ false → pairs_written (p ∷ ps) k ≡ (false, k)
unfolding pairs_written
step_none p ps k e = rw (e, pairs_written)

written_nil : (k : List ℕ) → pairs_written [] k ≡ (true, k)
unfolding pairs_written
written_nil k = refl

module _ (qs : Summary) where
  -- all of ps are written, and then qs
  pub all_then : (ps : Summary) (k : List ℕ) {r : Bool} {k' : List ℕ} → pairs_written ps k ≡ (r, k') → r ≡ true → pairs_written (ps ++ qs) k ≡ pairs_written qs k'
  all_then [] k e v = ap (λ (z : Bool × List ℕ). pairs_written qs z.1) (sym (written_nil k) ∙ e)
  all_then (p ∷ ps) k {r} {k'} e v = go (ltb (total_of k) triple_limit) refl (λ h. all_then ps (with_pair k p) h v)
    where
      go : (b : Bool) → ltb (total_of k) triple_limit ≡ b → (pairs_written ps (with_pair k p) ≡ (r, k') → pairs_written (ps ++ qs) (with_pair k p) ≡ pairs_written qs k')
          → pairs_written (p ∷ (ps ++ qs)) k ≡ pairs_written qs k'
      go true q f = step_room p (ps ++ qs) k q ∙ f (sym (step_room p ps k q) ∙ e)
      go false q f = absurd (true≢false (sym v ∙ ap (λ (z : Bool × List ℕ). z.0) (sym e ∙ step_none p ps k q)))

  -- not all of ps are written
  pub full_then : (ps : Summary) (k : List ℕ) {r : Bool} {k' : List ℕ} → pairs_written ps k ≡ (r, k') → r ≡ false → pairs_written (ps ++ qs) k ≡ (false, k')
  full_then [] k e v = absurd (true≢false (ap (λ (z : Bool × List ℕ). z.0) (sym (written_nil k) ∙ e) ∙ v))
  full_then (p ∷ ps) k {r} {k'} e v = go (ltb (total_of k) triple_limit) refl (λ h. full_then ps (with_pair k p) h v)
    where
      go : (b : Bool) → ltb (total_of k) triple_limit ≡ b → (pairs_written ps (with_pair k p) ≡ (r, k') → pairs_written (ps ++ qs) (with_pair k p) ≡ (false, k'))
          → pairs_written (p ∷ (ps ++ qs)) k ≡ (false, k')
      go true q f = step_room p (ps ++ qs) k q ∙ f (sym (step_room p ps k q) ∙ e)
      go false q f = step_none p (ps ++ qs) k q ∙ ap (λ (z : Bool × List ℕ). (false, z.1)) (sym (step_none p ps k q) ∙ e)

-- ---- one pair

module _ (k : List ℕ) (o i n : ℕ) (q : n ≡ get_or k 96 0) where
  pub push_full : 1024 ≤ n → (k₀ : List ℕ) (ps : Summary) → Grown k₀ k ps → Added false k₀ k ps ((o, i) ∷ [])
  push_full l k₀ ps h = omega (arith, h.total, length-append ps ((o, i) ∷ []))

  pub push_none : 1024 ≤ n → pairs_written ((o, i) ∷ []) k ≡ (false, k)
  push_none l = step_none (o, i) [] k (le-ltb (total_of k) 1024 (omega arith))

  module _ {p : ℕ} (qp : p ≡ 97 + 2 * n) {k₁ k₂ k₃ : List ℕ} (e₁ : k₁ ≡ set k p o) (e₂ : k₂ ≡ set k₁ (p + 1) i) (e₃ : k₃ ≡ set k₂ 96 (n + 1)) where
    all_set : k₃ ≡ set (set (set k p o) (p + 1) i) 96 (n + 1)
    all_set = e₃ ∙ rw (e₂, e₁)

    one_set : with_pair k (o, i) ≡ k₃
    unfolding with_pair
    one_set =
        let a : 97 + 2 * total_of k ≡ p = omega arith in
        let b : 98 + 2 * total_of k ≡ p + 1 = omega arith in
        let d : total_of k + 1 ≡ n + 1 = omega arith in
        rw (a, b, d) (sym all_set)

    pub push_one : n < 1024 → pairs_written ((o, i) ∷ []) k ≡ (true, k₃)
    push_one l = step_room (o, i) [] k (lt-ltb (total_of k) 1024 (omega arith)) ∙ written_nil (with_pair k (o, i)) ∙ ap (λ (z : List ℕ). (true, z)) one_set

    other : (j : ℕ) → ¬ (j ≡ 96) → ¬ (j ≡ p) → ¬ (j ≡ p + 1) → get_or k₃ j 0 ≡ get_or k j 0
    other j a b c = rw all_set (miss (set (set k p o) (p + 1) i) 96 j (n + 1) a ∙ miss (set k p o) (p + 1) j i c ∙ miss k p j o b)

    long : length k₃ ≡ length k
    long = rw all_set (simp length-set)

    module _ (l : n < 1024) (z : kept_places ≤ length k) where
      new_total : get_or k₃ 96 0 ≡ n + 1
      new_total = rw all_set (get_or-set_same (set (set k p o) (p + 1) i) 96 (n + 1) 0 (simp length-set (omega arith)))

      new_output : get_or k₃ p 0 ≡ o
      new_output = rw all_set (miss (set (set k p o) (p + 1) i) 96 p (n + 1) (λ e. omega arith) ∙ miss (set k p o) (p + 1) p i (λ e. omega arith) ∙ get_or-set_same k p o 0 (omega arith))

      new_input : get_or k₃ (p + 1) 0 ≡ i
      new_input = rw all_set (miss (set (set k p o) (p + 1) i) 96 (p + 1) (n + 1) (λ e. omega arith) ∙ get_or-set_same (set k p o) (p + 1) i 0 (simp length-set (omega arith)))

    pub push_more : n < 1024 → (k₀ : List ℕ) (ps : Summary) → Grown k₀ k ps → Added true k₀ k₃ ps ((o, i) ∷ [])
    push_more l k₀ ps h =
        let z = h.sized in
        let t = h.total in
        let first = 97 + 2 * total_of k₀ in
        let more : length (ps ++ (o, i) ∷ []) ≡ suc (length ps) = omega (arith, length-append ps ((o, i) ∷ [])) in
        let old : summary_at k₃ first (length ps) ≡ ps = pairs_same k k₃ first (length ps) (λ j a b. other j (λ e. omega arith) (λ e. omega arith) (λ e. omega arith)) ∙ h.pairs in
        record {
          sized = rw long z;
          same = λ j a b. other j b (λ e. omega arith) (λ e. omega arith) ∙ h.same j a b;
          total = omega (arith, new_total l z);
          few = omega (arith, new_total l z);
          pairs = rw more (at_more k₃ first (length ps) {p = p} (omega arith) ∙ rw (old, new_output l z, new_input l z));
        }

    -- whatever the slice
    pub push_written : n < 1024 → Written k k₃
    push_written l = go (ltb 96 (length k)) refl
      where
        go : (b : Bool) → ltb 96 (length k) ≡ b → Written k k₃
        go true e =
            let z = ltb-true 96 (length k) e in
            let t : get_or k₃ 96 0 ≡ n + 1 = rw all_set (get_or-set_same (set (set k p o) (p + 1) i) 96 (n + 1) 0 (simp length-set z)) in
            record {
              size = long;
              more = omega arith;
              few = omega arith;
              others = λ j a h. elim h [ inl x ↦ other j a (λ d. omega arith) (λ d. omega arith) | inr x ↦ other j a (λ d. omega arith) (λ d. omega arith) ];
            }
        go false e =
            let z = ltb-false 96 (length k) e in
            let t : k₃ ≡ k = all_set ∙ set_out (set (set k p o) (p + 1) i) 96 (n + 1) (simp length-set z) ∙ set_out (set k p o) (p + 1) i (simp length-set (omega arith)) ∙ set_out k p o (omega arith) in
            rw t (written_none k)

-- pairs leave only words of pairs written
written_by : (ps : Summary) (k : List ℕ) → Written k (pairs_written ps k).1
written_by [] k = rw (written_nil k) (written_none k)
written_by (p ∷ ps) k = go (ltb (total_of k) triple_limit) refl (written_by ps (with_pair k p))
  where
    go : (b : Bool) → ltb (total_of k) triple_limit ≡ b → Written (with_pair k p) (pairs_written ps (with_pair k p)).1 → Written k (pairs_written (p ∷ ps) k).1
    go true q w =
        let l = ltb-true (total_of k) 1024 q in
        let e = one_set k p.0 p.1 (total_of k) refl refl refl refl refl in
        let one : Written k (with_pair k p) = rw e (push_written k p.0 p.1 (total_of k) refl refl refl refl refl l) in
        rw (step_room p ps k q) (written_then one w)
    go false q w = rw (step_none p ps k q) (written_none k)

pub written_of : (ps : Summary) {k k' : List ℕ} {r : Bool} → pairs_written ps k ≡ (r, k') → Written k k'
written_of ps {k} e = rw (ap (λ (z : Bool × List ℕ). z.1) e) at (written_by ps k)

-- ---- the pairs of an output

-- i names are still to come
pub record Pushing (k₀ k : List ℕ) (ps : Summary) (o : ℕ) (w : List ℕ) (n i : ℕ) : Type 0 where
  pub so_far : Summary
  pub grown : Grown k₀ k so_far
  pub all : ps ++ paired o (found w n) ≡ so_far ++ paired o (found w i)

module _ (o : ℕ) (w : List ℕ) (n : ℕ) where
  pub pushing_none : (k₀ k : List ℕ) (ps : Summary) → Grown k₀ k ps → Pushing k₀ k ps o w n n
  pushing_none k₀ k ps h = record { so_far = ps; grown = h; all = refl }

  next_name : (i x : ℕ) → x ≡ get_or w (1026 + i) 0 → (qs : Summary) → qs ++ paired o (found w (suc i)) ≡ (qs ++ (o, x) ∷ []) ++ paired o (found w i)
  unfolding words_below paired
  next_name i x e qs = rw e (sym (append_assoc qs ((o, get_or w (1026 + i) 0) ∷ []) (paired o (found w i))))

  module _ {k₀ k : List ℕ} {ps : Summary} {i j : ℕ} (h : Pushing k₀ k ps o w n i) (s : i ≡ suc j) {x : ℕ} (e : x ≡ get_or w (1026 + j) 0) where
    step : ps ++ paired o (found w n) ≡ (h.so_far ++ (o, x) ∷ []) ++ paired o (found w j)
    step = h.all ∙ ap (λ (y : ℕ). h.so_far ++ paired o (found w y)) s ∙ next_name j x e h.so_far

    pub pushing_more : {k' : List ℕ} {v : Bool} → v ≡ true → Added v k₀ k' h.so_far ((o, x) ∷ []) → Pushing k₀ k' ps o w n j
    pushing_more v a = record { so_far = h.so_far ++ (o, x) ∷ []; grown = rw v at a; all = step }

    pub pushing_full : triple_limit < total_of k₀ + length (h.so_far ++ (o, x) ∷ []) → triple_limit < total_of k₀ + length (ps ++ paired o (found w n))
    pushing_full a = omega (arith, ap length step, length-append (h.so_far ++ (o, x) ∷ []) (paired o (found w j)))

  pub pushing_all : {k₀ k : List ℕ} {ps : Summary} {i : ℕ} → Pushing k₀ k ps o w n i → i ≡ 0 → Added true k₀ k ps (paired o (found w n))
  unfolding words_below paired
  pushing_all {k₀} {k} {ps} h e =
      let t : ps ++ paired o (found w n) ≡ h.so_far = h.all ∙ ap (λ (y : ℕ). h.so_far ++ paired o (found w y)) e ∙ append-nil h.so_far in
      rw t h.grown

-- the equation of `push_found`: what is left to write gives what the whole gives
module _ (o : ℕ) (w : List ℕ) {all : Bool × List ℕ} (k : List ℕ) (i : ℕ) (h : all ≡ pairs_written (paired o (found w i)) k) where
  module _ {j : ℕ} (s : i ≡ suc j) {x : ℕ} (e : x ≡ get_or w (1026 + j) 0) where
    name_here : paired o (found w i) ≡ (o, x) ∷ paired o (found w j)
    unfolding words_below paired
    name_here = rw (s, e)

    pub found_more : {v : Bool} {k' : List ℕ} → v ≡ true → pairs_written ((o, x) ∷ []) k ≡ (v, k') → all ≡ pairs_written (paired o (found w j)) k'
    found_more v p = h ∙ ap (λ (z : Summary). pairs_written z k) name_here ∙ all_then (paired o (found w j)) ((o, x) ∷ []) k p v

    pub found_full : {v : Bool} {k' : List ℕ} → v ≡ false → pairs_written ((o, x) ∷ []) k ≡ (v, k') → all ≡ (false, k')
    found_full v p = h ∙ ap (λ (z : Summary). pairs_written z k) name_here ∙ full_then (paired o (found w j)) ((o, x) ∷ []) k p v

  pub found_all : i ≡ 0 → all ≡ (true, k)
  unfolding words_below paired
  found_all e = h ∙ ap (λ (n : ℕ). pairs_written (paired o (found w n)) k) e ∙ written_nil k

-- how many names are found
pub below_length : (w : List ℕ) (b n : ℕ) → length (words_below w b n) ≡ n
unfolding words_below
below_length w b zero = refl
below_length w b (suc n) = ap suc (below_length w b n)

-- ---- the summary is kept

pub leaves_zero : (r : Bool) (s : Bytes) (kinds g k : List ℕ) (m : ℕ) (k' : List ℕ) → r ≡ false → Leaves r s kinds g k m k' → Cleared k'
leaves_zero r s kinds g k m k' e h = let t : Leaves false s kinds g k m k' = rw e at h in cleared_of (length k) k' t.1

-- `keep`
pub kept_one : (k : List ℕ) (m start count : ℕ) {k₁ k₂ k₃ : List ℕ} → k₁ ≡ set k (32 + m) start → k₂ ≡ set k₁ (64 + m) count → k₃ ≡ set k₂ m 2 → k₃ ≡ recorded k m start count
unfolding recorded
kept_one k m start count e₁ e₂ e₃ = e₃ ∙ rw (e₂, e₁)

module _ {k₀ k : List ℕ} {ps s : Summary} {kept : Kept} {busy : List ℕ} (m : ℕ) (small : m < 32) (h : Keeps k₀ kept (m ∷ busy)) (g : Grown k₀ k ps) (a : Alike ps s) (free : has_name m busy ≡ false)
    {c : ℕ} (count : c ≡ total_of k - total_of k₀) where
  abbrev after : List ℕ
  after = recorded k m (total_of k₀) c

  untouched : (j : ℕ) → ¬ (j ≡ m) → ¬ (j ≡ 32 + m) → ¬ (j ≡ 64 + m) → get_or after j 0 ≡ get_or k j 0
  unfolding recorded
  untouched j x y z =
      miss (set (set k (32 + m) (total_of k₀)) (64 + m) c) m j 2 x ∙ miss (set k (32 + m) (total_of k₀)) (64 + m) j c z ∙ miss k (32 + m) j (total_of k₀) y

  after_long : length after ≡ length k
  unfolding recorded
  after_long = simp length-set

  total_same : total_of after ≡ total_of k
  total_same = untouched 96 (λ e. omega arith) (λ e. omega arith) (λ e. omega arith)

  own_state : state_word after m ≡ 2
  unfolding recorded
  own_state = let z = g.sized in get_or-set_same (set (set k (32 + m) (total_of k₀)) (64 + m) c) m 2 0 (simp length-set (omega arith))

  own_start : start_of after m ≡ total_of k₀
  unfolding recorded
  own_start =
      let z = g.sized in
      miss (set (set k (32 + m) (total_of k₀)) (64 + m) c) m (32 + m) 2 (λ e. omega arith) ∙ miss (set k (32 + m) (total_of k₀)) (64 + m) (32 + m) c (λ e. omega arith)
      ∙ get_or-set_same k (32 + m) (total_of k₀) 0 (omega arith)

  own_count : count_of after m ≡ c
  unfolding recorded
  own_count =
      let z = g.sized in
      miss (set (set k (32 + m) (total_of k₀)) (64 + m) c) m (64 + m) 2 (λ e. omega arith) ∙ get_or-set_same (set k (32 + m) (total_of k₀)) (64 + m) c 0 (simp length-set (omega arith))

  own_pairs : pairs_of after m ≡ ps
  own_pairs =
      let t = g.total in
      let l : count_of after m ≡ length ps = omega (arith, own_count) in
      rw (own_start, l) (pairs_same k after (97 + 2 * total_of k₀) (length ps) (λ j x y. untouched j (λ e. omega arith) (λ e. omega arith) (λ e. omega arith)) ∙ g.pairs)

  others : (n : ℕ) → n < 32 → ¬ (n ≡ m) → Same k₀ after n
  others n l d =
      let t = g.total in
      record {
        state = untouched n d (λ e. omega arith) (λ e. omega arith) ∙ g.same n (omega arith) (λ e. omega arith);
        start = untouched (32 + n) (λ e. omega arith) (λ e. omega arith) (λ e. omega arith) ∙ g.same (32 + n) (omega arith) (λ e. omega arith);
        count = untouched (64 + n) (λ e. omega arith) (λ e. omega arith) (λ e. omega arith) ∙ g.same (64 + n) (omega arith) (λ e. omega arith);
        pairs = λ i x y. untouched i (λ e. omega arith) (λ e. omega arith) (λ e. omega arith) ∙ g.same i y (λ e. omega arith);
        total = omega (arith, total_same);
      }

  found_here : kept_summary ((m, s) ∷ kept) m ≡ some s
  unfolding kept_summary
  found_here = rw (eq-eqb m m refl, kept_summary)

  found_other : (n : ℕ) → ¬ (n ≡ m) → kept_summary ((m, s) ∷ kept) n ≡ kept_summary kept n
  unfolding kept_summary
  found_other n d = rw (ne_eqb m n (λ e. d (sym e)), kept_summary)

  each_state : (n : ℕ) → n < 32 → (b : Bool) → eqb n m ≡ b → StateIs (state_word after n) after n ((m, s) ∷ kept) busy
  each_state n l true f =
      let t = g.total in
      let own : StateIs (state_word after m) after m ((m, s) ∷ kept) busy =
      rw own_state ((s, found_here, rw own_pairs a, free), omega (arith, own_start, own_count, total_same)) in
      rw (eqb-true n m f) own
  each_state n l false f =
      let d : ¬ (n ≡ m) = eqb-false n m f in
      carried (others n l d) kept ((m, s) ∷ kept) (m ∷ busy) busy (found_other n d) (sym (name_other n m busy d)) (h.each n l)

  pub keeps_one : {k' : List ℕ} → k' ≡ after → Keeps k' ((m, s) ∷ kept) busy
  unfolding triples
  keeps_one q =
      let t = g.total in
      let e = a.size in
      rw q
      (record {
        sized = rw after_long g.sized;
        each = λ n l. each_state n l (eqb n m) refl;
        total = omega (arith, total_same, h.total);
        few = omega (arith, g.few, h.total);
      })
