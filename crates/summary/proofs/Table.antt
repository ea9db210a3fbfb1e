-- The table of summaries: what stores leave of it, one law for each function.
-- Assumes nothing.
use mathlib.Core.Path.{◌≡◌, refl, sym, ◌∙◌, ap}
use mathlib.Core.Bool.{Bool, true, false}
use mathlib.Core.Logic.{inl}
use mathlib.Core.List.{List, [], ◌∷◌}
use mathlib.Core.Option.{some, none, none-ne-some}
use Prim.Native.Nat.{ℕ, zero, suc, ◌+◌, ◌*◌, ◌≤◌, ◌<◌}
use native.Mathlib.Omega.{arith}
use lib.ListN.{length, get_or, set, length-set}
use lib.Seq.{get_or-set_same, get_or-set_other}
use lib.Dec.{eqb}
use borrow.Author.Tests.{eqb-true, eqb-false, eq-eqb, ne_eqb}
use Rattle.spec.specs.Refusal.{has_name}
use Rattle.spec.specs.Edge.{Summary}
use Rattle.spec.specs.Summary.{Kept, kept_summary, triples}
use Rattle.graph.specs.Cycles.{Zeroed, zeroed}
use Rattle.graph.proofs.Sorting.{zeroed_none, zeroed_more}
use Rattle.graph.proofs.Resetting.{zeroed_zeroed, zeroed_is}
use Rattle.edges.specs.Lines.{summary_at}
use Rattle.walk.specs.Alike.{Alike}
use Rattle.summary.specs.Keeps.{state_word, start_of, count_of, total_of, kept_places, first_of, pairs_of, state_by, state_of, StateIs, Keeps, Says, emptied}
use Rattle.summary.specs.declared.State.TheVariants as states

-- ---- words

-- a store elsewhere
pub miss : (k : List ℕ) (i j a : ℕ) → ¬ (j ≡ i) → get_or (set k i a) j 0 ≡ get_or k j 0
miss k i j a h = get_or-set_other k i j a 0 h

-- the same words give the same pairs
pub pairs_same : (k k' : List ℕ) (first count : ℕ) → ((i : ℕ) → first ≤ i → i < first + 2 * count → get_or k' i 0 ≡ get_or k i 0) → summary_at k' first count ≡ summary_at k first count
unfolding summary_at
pairs_same k k' first zero h = refl
pairs_same k k' first (suc count) h =
    rw (h first (omega arith) (omega arith), h (first + 1) (omega arith) (omega arith), pairs_same k k' (first + 2) count (λ i l g. h i (omega arith) (omega arith)))

-- the words of module m, and all pairs, are as they were
pub record Same (k k' : List ℕ) (m : ℕ) : Type 0 where
  pub state : state_word k' m ≡ state_word k m
  pub start : start_of k' m ≡ start_of k m
  pub count : count_of k' m ≡ count_of k m
  pub pairs : (i : ℕ) → 97 ≤ i → i < 97 + 2 * total_of k → get_or k' i 0 ≡ get_or k i 0
  pub total : total_of k ≤ total_of k'

-- then it is kept, in progress or neither as it was
module _ {k k' : List ℕ} {m : ℕ} (s : Same k k' m) (kept kept' : Kept) (busy busy' : List ℕ) (e : kept_summary kept' m ≡ kept_summary kept m) (f : has_name m busy' ≡ has_name m busy) where
  carry : (n : ℕ) → StateIs n k m kept busy → StateIs n k' m kept' busy'
  carry zero h = (e ∙ h.0, f ∙ h.1)
  carry (suc zero) h = (e ∙ h.0, f ∙ h.1)
  carry (suc (suc n)) h =
      let l = h.1 in
      let p : pairs_of k' m ≡ pairs_of k m = rw (s.start, s.count) (pairs_same k k' (first_of k m) (count_of k m) (λ i a b. s.pairs i (omega arith) (omega arith))) in
      ((h.0.0, e ∙ h.0.1, rw p h.0.2, f ∙ h.0.3), omega (arith, s.start, s.count, s.total))

  pub carried : StateIs (state_word k m) k m kept busy → StateIs (state_word k' m) k' m kept' busy'
  carried h = rw s.state (carry (state_word k m) h)

-- ---- the names in progress

pub name_first : (m : ℕ) (l : List ℕ) → has_name m (m ∷ l) ≡ true
unfolding has_name
name_first m l = rw (eq-eqb m m refl)

pub name_other : (n m : ℕ) (l : List ℕ) → ¬ (n ≡ m) → has_name n (m ∷ l) ≡ has_name n l
unfolding has_name
name_other n m l h = rw (ne_eqb n m h)

-- ---- what each function leaves

-- `state_of`, by the word
pub state_zero : (s : ℕ) → s ≡ 0 → states.New ≡ state_by s
state_zero s e = rw e

pub state_one : (s : ℕ) → s ≡ 1 → states.Busy ≡ state_by s
state_one s e = rw e

pub state_other : (s : ℕ) → ¬ (s ≡ 0) → ¬ (s ≡ 1) → states.Kept ≡ state_by s
state_other zero a b = absurd (a refl)
state_other (suc zero) a b = absurd (b refl)
state_other (suc (suc s)) a b = refl

-- what the state of a module says where the table keeps summaries
pub state_says : {k : List ℕ} {kept : Kept} {busy : List ℕ} → Keeps k kept busy → (m : ℕ) → m < 32 → Says (state_of k m) k m kept busy
state_says {k} {kept} {busy} h m small = go (state_word k m) (h.each m small)
  where
    go : (n : ℕ) → StateIs n k m kept busy → Says (state_by n) k m kept busy
    go zero t = t
    go (suc zero) t = t
    go (suc (suc n)) t = t.0

-- the pairs of a module whose summary is kept
pub kept_pairs : {k : List ℕ} {kept : Kept} {busy : List ℕ} → Keeps k kept busy → (m : ℕ) → m < 32 → (s : Summary) → kept_summary kept m ≡ some s → Alike (pairs_of k m) s
kept_pairs {k} {kept} {busy} h m small s e = go (state_word k m) (h.each m small)
  where
    go : (n : ℕ) → StateIs n k m kept busy → Alike (pairs_of k m) s
    go zero t = absurd (none-ne-some s (sym t.0 ∙ e))
    go (suc zero) t = absurd (none-ne-some s (sym t.0 ∙ e))
    go (suc (suc n)) t = let d : t.0.0 ≡ s = cc t.0.1 in rw d at t.0.2

-- a module that is begun
pub began : {k : List ℕ} {kept : Kept} {busy : List ℕ} → Keeps k kept busy → (m : ℕ) → m < 32 → kept_summary kept m ≡ none → {k' : List ℕ} → k' ≡ set k m 1 → Keeps k' kept (m ∷ busy)
began {k} {kept} {busy} h m small e q =
    rw q
    (record {
      sized = rw length-set h.sized;
      each = λ n l. go n l (eqb n m) refl;
      total = miss k m 96 1 (λ d. omega arith) ∙ h.total;
      few = h.few;
    })
  where
    go : (n : ℕ) → n < 32 → (b : Bool) → eqb n m ≡ b → StateIs (state_word (set k m 1) n) (set k m 1) n kept (m ∷ busy)
    go n l true f =
        let d = eqb-true n m f in
        let z = h.sized in
        let o : state_word (set k m 1) n ≡ 1 = rw d (get_or-set_same k m 1 0 (omega arith)) in
        rw o (rw d (e, name_first m busy))
    go n l false f =
        let d : ¬ (n ≡ m) = eqb-false n m f in
        let s : Same k (set k m 1) n =
        record {
          state = miss k m n 1 d;
          start = miss k m (32 + n) 1 (λ g. omega arith);
          count = miss k m (64 + n) 1 (λ g. omega arith);
          pairs = λ i a b. miss k m i 1 (λ g. omega arith);
          total = omega (arith, miss k m 96 1 (λ g. omega arith));
        } in
        carried s kept kept busy (m ∷ busy) refl (name_other n m busy d) (h.each n l)

-- `reset`: one state more is 0
pub zeroed_next : (k₀ k : List ℕ) (i : ℕ) → Zeroed 0 i k₀ k → {k' : List ℕ} → k' ≡ set k i 0 → Zeroed 0 (i + 1) k₀ k'
zeroed_next k₀ k i Z q = zeroed_more Z (q ∙ ap (λ (j : ℕ). set k j 0) (omega arith))

-- all of them, and then the number of all pairs
pub emptied_is : (k w : List ℕ) (i : ℕ) → i ≤ 32 → 32 ≤ i → Zeroed 0 i k w → {k' : List ℕ} → k' ≡ set w 96 0 → k' ≡ emptied k
emptied_is k w i l g Z q = let e : i ≡ 32 = omega arith in q ∙ ap (λ (x : List ℕ). set x 96 0) (zeroed_is 0 32 (rw e at Z))

-- then no summary is kept
pub none_kept : (k k' : List ℕ) → k' ≡ emptied k → kept_places ≤ length k → Keeps k' [] []
unfolding kept_summary has_name triples
none_kept k k' q z =
    let a = zeroed_zeroed 0 32 k in
    let b : Zeroed 96 1 (zeroed 0 32 k) k' = zeroed_more (zeroed_none 96 (zeroed 0 32 k)) q in
    let s = a.size in
    let t = b.size in
    record {
      sized = omega arith;
      each = λ n l.
          let e : state_word k' n ≡ 0 = b.others n (inl (omega arith)) ∙ ap (λ (j : ℕ). get_or (zeroed 0 32 k) j 0) (omega arith) ∙ a.zeros n l in
          rw e (refl, refl);
      total = b.zeros 0 (omega arith);
      few = omega arith;
    }
