-- Tables that take an entry only where none is the same: they hold what the specification lists, each at its first.
-- Assumes nothing.
use mathlib.Core.Path.{◌≡◌, refl, sym, ◌∙◌, ap}
use mathlib.Core.Bool.{Bool, true, false, ◌||◌, true≢false}
use mathlib.Core.Logic.{◌⊎◌, inl, inr}
use mathlib.Core.List.Memᴰ
use mathlib.Core.List.{List, [], ◌∷◌, ◌++◌, append_assoc, append-nil}
use Prim.Native.Nat.{ℕ, suc, ◌+◌, ◌≤◌}
use native.Mathlib.Omega.{arith}
use lib.ListN.{length, length-append}
use lib.Dec.{eqb}
use borrow.Author.Tests.{eqb-true, eq-eqb}
use Rattle.spec.specs.Refusal.{has_name}
use Rattle.spec.specs.DepthFirst.{among, each_once}
use Rattle.spec.specs.Graph.{◌∈◌, Once}
use Rattle.spec.specs.Site.{Misused, once_a_name, Output, first_lines}
use Rattle.spec.specs.Block.{Pair, has_pair, different_pairs, block_count, Storage, first_storage}
use Rattle.spec.proofs.Numbers.{if_case}
use Rattle.spec.proofs.Lists.{once_length, once_append, among_yes, among_no}
use Rattle.spec.proofs.Nodes.{and_parts, each_once_in, in_each_once, each_once_once}
use Rattle.walk.specs.Walk.{add_new, add_all, same_output, same_storage, same_misused, same_pair}

module _ {A : Type 0} (same : A → A → Bool) where
  pub add_append : (a b l : List A) → add_all same (a ++ b) l ≡ add_all same b (add_all same a l)
  unfolding add_all
  add_append [] b l = refl
  add_append (x ∷ a) b l = add_append a b (add_new same x l)

  new_grows : (a : A) (l : List A) → length l ≤ length (add_new same a l)
  unfolding add_new
  new_grows a l = if_case (λ (k : List A). length l ≤ length k) (among same a l) l (l ++ (a ∷ [])) (λ e. omega arith) (λ e. rw (length-append l (a ∷ [])) (omega arith))

  -- a table never gets shorter
  pub adds_grow : (xs l : List A) → length l ≤ length (add_all same xs l)
  unfolding add_all
  adds_grow [] l = omega arith
  adds_grow (a ∷ xs) l = let g = new_grows a l in let h = adds_grow xs (add_new same a l) in omega arith

  among_end : (x a : A) (l : List A) → among same x (l ++ (a ∷ [])) ≡ same x a || among same x l
  unfolding among
  among_end x a [] = go (same x a)
    where
      go : (b : Bool) → elim b as (λ _. Bool) [ true ↦ true | false ↦ false ] ≡ b || false
      go true = refl
      go false = refl
  among_end x a (y ∷ l) = go (same x y) (same x a) (among_end x a l)
    where
      go : (b c : Bool) → among same x (l ++ (a ∷ [])) ≡ c || among same x l
          → elim b as (λ _. Bool) [ true ↦ true | false ↦ among same x (l ++ (a ∷ [])) ] ≡ c || elim b as (λ _. Bool) [ true ↦ true | false ↦ among same x l ]
      go true true e = refl
      go true false e = refl
      go false c e = e

-- ---- entries told apart by a name, each at its first: `first` lists those whose names are not among `seen`

module _ {A : Type 0} (key : A → ℕ) (first : List ℕ → List A → List A)
    (first_none : (seen : List ℕ) → first seen [] ≡ [])
    (first_more : (seen : List ℕ) (a : A) (l : List A) → first seen (a ∷ l) ≡ elim (has_name (key a) seen) as (λ _. List A) [ true ↦ first seen l | false ↦ a ∷ first (key a ∷ seen) l ]) where
  abbrev same_key : A → A → Bool
  same_key a b = eqb (key a) (key b)

  adds_first : (xs l : List A) (seen : List ℕ) → ((a : A) → among same_key a l ≡ has_name (key a) seen) → add_all same_key xs l ≡ l ++ first seen xs
  unfolding add_all add_new has_name
  adds_first [] l seen h = rw (first_none seen, append-nil l)
  adds_first (x ∷ xs) l seen h =
      ap (λ (b : Bool). add_all same_key xs (elim b as (λ _. List A) [ true ↦ l | false ↦ l ++ (x ∷ []) ])) (h x)
      ∙ go (has_name (key x) seen) (adds_first xs l seen h) (adds_first xs (l ++ (x ∷ [])) (key x ∷ seen) after)
      ∙ ap (λ z. l ++ z) (sym (first_more seen x xs))
    where
      after : (a : A) → among same_key a (l ++ (x ∷ [])) ≡ has_name (key a) (key x ∷ seen)
      after a = among_end same_key a x l ∙ ap (λ z. eqb (key a) (key x) || z) (h a)

      go : (b : Bool) → add_all same_key xs l ≡ l ++ first seen xs → add_all same_key xs (l ++ (x ∷ [])) ≡ (l ++ (x ∷ [])) ++ first (key x ∷ seen) xs
          → add_all same_key xs (elim b as (λ _. List A) [ true ↦ l | false ↦ l ++ (x ∷ []) ])
          ≡ l ++ elim b as (λ _. List A) [ true ↦ first seen xs | false ↦ x ∷ first (key x ∷ seen) xs ]
      go true e f = e
      go false e f = f ∙ append_assoc l (x ∷ []) (first (key x ∷ seen) xs)

  adds_first_all : (xs : List A) → add_all same_key xs [] ≡ first [] xs
  unfolding among has_name
  adds_first_all xs = adds_first xs [] [] (λ a. refl)

-- the outputs, registers and memories by their first collected line; what is reported once a name
pub outputs_first : (xs : List Output) → add_all same_output xs [] ≡ first_lines [] xs
unfolding first_lines
outputs_first xs = adds_first_all (λ o. o.name) first_lines (λ seen. refl) (λ seen a l. refl) xs

pub storage_first : (xs : List Storage) → add_all same_storage xs [] ≡ first_storage [] xs
unfolding first_storage
storage_first xs = adds_first_all (λ o. o.name) first_storage (λ seen. refl) (λ seen a l. refl) xs

pub misuses_first : (xs : List Misused) → add_all same_misused xs [] ≡ once_a_name [] xs
unfolding once_a_name
misuses_first xs = adds_first_all (λ o. o.name) once_a_name (λ seen. refl) (λ seen a l. refl) xs

-- ---- pairs of name and block, each once

pub pair_yes : (p q : Pair) → same_pair p q ≡ true → p ≡ q
pair_yes p q h =
    let r = and_parts (eqb p.name q.name) (eqb p.block q.block) h in
    let a = eqb-true p.name q.name r.0 in
    let b = eqb-true p.block q.block r.1 in
    λ i. record { name = a i; block = b i }

pub pair_self : (p : Pair) → same_pair p p ≡ true
pair_self p = rw (eq-eqb p.name p.name refl, eq-eqb p.block p.block refl)

module _ {A : Type 0} (same : A → A → Bool) (yes_same : (a b : A) → same a b ≡ true → a ≡ b) (self : (a : A) → same a a ≡ true) where
  new_once : (a : A) (l : List A) → Once l → Once (add_new same a l)
  unfolding add_new
  new_once a l o =
      if_case (λ (k : List A). Once k) (among same a l) l (l ++ (a ∷ [])) (λ e. o)
      (λ e. once_append {l = l} {k = a ∷ []} o (Memᴰ.not-nil, tt) (λ b i j. among_no same yes_same self a l e (one b i (Memᴰ.cases_cons j))))
    where
      one : (b : A) → b ∈ l → (b ≡ a) ⊎ (b ∈ []) → a ∈ l
      one b i (inl d) = Memᴰ.cast (sym d) i
      one b i (inr j) = absurd (Memᴰ.not-nil j)

  -- no entry stands twice
  pub adds_once : (xs l : List A) → Once l → Once (add_all same xs l)
  unfolding add_all
  adds_once [] l o = o
  adds_once (x ∷ xs) l o = adds_once xs (add_new same x l) (new_once x l o)

  new_old : {b : A} (a : A) (l : List A) → b ∈ l → b ∈ add_new same a l
  unfolding add_new
  new_old {b} a l i = if_case (λ (k : List A). b ∈ k) (among same a l) l (l ++ (a ∷ [])) (λ e. i) (λ e. Memᴰ.append_left (a ∷ []) i)

  new_new : (a : A) (l : List A) → a ∈ add_new same a l
  unfolding add_new
  new_new a l =
      if_case (λ (k : List A). a ∈ k) (among same a l) l (l ++ (a ∷ [])) (λ e. among_yes same yes_same self a l e) (λ e. Memᴰ.append_right l (Memᴰ.head refl))

  new_from : {b : A} (a : A) (l : List A) → b ∈ add_new same a l → (b ≡ a) ⊎ (b ∈ l)
  unfolding add_new
  new_from {b} a l = if_case (λ (k : List A). b ∈ k → (b ≡ a) ⊎ (b ∈ l)) (among same a l) l (l ++ (a ∷ [])) (λ e i. inr i) (λ e i. either (Memᴰ.append_cases l i))
    where
      last : (b ≡ a) ⊎ (b ∈ []) → (b ≡ a) ⊎ (b ∈ l)
      last (inl d) = inl d
      last (inr j) = absurd (Memᴰ.not-nil j)

      either : (b ∈ l) ⊎ (b ∈ (a ∷ [])) → (b ≡ a) ⊎ (b ∈ l)
      either (inl i) = inr i
      either (inr j) = last (Memᴰ.cases_cons j)

  pub adds_old : {b : A} (xs l : List A) → b ∈ l → b ∈ add_all same xs l
  unfolding add_all
  adds_old [] l i = i
  adds_old (x ∷ xs) l i = adds_old xs (add_new same x l) (new_old x l i)

  pub adds_new : {b : A} (xs l : List A) → b ∈ xs → b ∈ add_all same xs l
  unfolding add_all
  adds_new {b = b} [] l x' = elim x' [ ]
  adds_new (x ∷ xs) l (Memᴰ.head e) = adds_old xs (add_new same x l) (Memᴰ.cast e (new_new x l))
  adds_new (x ∷ xs) l (Memᴰ.tail i) = adds_new xs (add_new same x l) i

  pub adds_from : {b : A} (xs l : List A) → b ∈ add_all same xs l → (b ∈ xs) ⊎ (b ∈ l)
  unfolding add_all
  adds_from [] l i = inr i
  adds_from {b} (x ∷ xs) l i = go (adds_from xs (add_new same x l) i)
    where
      back : (b ≡ x) ⊎ (b ∈ l) → (b ∈ (x ∷ xs)) ⊎ (b ∈ l)
      back (inl e) = inl (Memᴰ.head e)
      back (inr j) = inr j

      go : (b ∈ xs) ⊎ (b ∈ add_new same x l) → (b ∈ (x ∷ xs)) ⊎ (b ∈ l)
      go (inl j) = inl (Memᴰ.tail j)
      go (inr j) = back (new_from x l j)

has_among : (p : Pair) (l : List Pair) → has_pair p l ≡ among same_pair p l
unfolding has_pair among
has_among p [] = refl
has_among p (q ∷ l) = go (same_pair p q) (has_among p l)
  where
    go : (b : Bool) → has_pair p l ≡ among same_pair p l → b || has_pair p l ≡ elim b as (λ _. Bool) [ true ↦ true | false ↦ among same_pair p l ]
    go true e = refl
    go false e = e

different_each : (l : List Pair) → different_pairs l ≡ each_once same_pair l
unfolding different_pairs each_once
different_each [] = refl
different_each (p ∷ l) = go (has_pair p l) (among same_pair p l) (has_among p l) (different_each l)
  where
    go : (a b : Bool) → a ≡ b → different_pairs l ≡ each_once same_pair l
        → ◌≡◌ {A = List Pair} (elim a [ true ↦ different_pairs l | false ↦ p ∷ different_pairs l ]) (elim b [ true ↦ each_once same_pair l | false ↦ p ∷ each_once same_pair l ])
    go true true e f = f
    go true false e f = absurd (true≢false e)
    go false true e f = absurd (true≢false (sym e))
    go false false e f = ap (λ z. p ∷ z) f

-- the sum of a number for each entry; the same members, none twice, have the same sum
unfoldable pub total : {A : Type 0} → (A → ℕ) → List A → ℕ
total weight [] = 0
total weight (a ∷ l) = weight a + total weight l

module _ {A : Type 0} where
  left_out : {a : A} {l : List A} → a ∈ l → List A
  left_out (Memᴰ.head {xs = xs} e) = xs
  left_out (Memᴰ.tail {x = x} m) = x ∷ left_out m

  in_left_out : {a b : A} {l : List A} (m : a ∈ l) → b ∈ l → ¬ (b ≡ a) → b ∈ left_out m
  unfolding left_out
  in_left_out (Memᴰ.head e) (Memᴰ.head e') d = absurd (d (e' ∙ sym e))
  in_left_out (Memᴰ.head e) (Memᴰ.tail m') d = m'
  in_left_out (Memᴰ.tail m) (Memᴰ.head e') d = Memᴰ.head e'
  in_left_out (Memᴰ.tail m) (Memᴰ.tail m') d = Memᴰ.tail (in_left_out m m' d)

  module _ (weight : A → ℕ) where
    total_without : {a : A} {l : List A} (i : a ∈ l) → total weight l ≡ weight a + total weight (left_out i)
    unfolding left_out total
    total_without (Memᴰ.head {xs = l} e) = ap (λ z. weight z + total weight l) (sym e)
    total_without (Memᴰ.tail m) = let b = total_without m in omega arith

    pub total_within : (l k : List A) → Once l → ((a : A) → a ∈ l → a ∈ k) → total weight l ≤ total weight k
    unfolding total
    total_within [] k o h = omega arith
    total_within (a ∷ l) k o h =
        let i = h a (Memᴰ.head refl) in
        let r = total_within l (left_out i) o.1 (λ b m. in_left_out i (h b (Memᴰ.tail m)) (λ e. o.0 (Memᴰ.cast (sym e) m))) in
        omega (arith, total_without i)

abbrev one_if : Bool → ℕ
one_if true = 1
one_if false = 0

count_total : (n : ℕ) (l : List Pair) → block_count n l ≡ total (λ p. one_if (eqb n p.name)) l
unfolding block_count total
count_total n [] = refl
count_total n (p ∷ l) = go (eqb n p.name) (count_total n l)
  where
    go : (b : Bool) → block_count n l ≡ total (λ p. one_if (eqb n p.name)) l
        → elim b as (λ _. ℕ) [ true ↦ suc (block_count n l) | false ↦ block_count n l ] ≡ one_if b + total (λ p. one_if (eqb n p.name)) l
    go true e = omega arith
    go false e = omega arith

module _ (ps : List Pair) where
  to_added : (p : Pair) → p ∈ different_pairs ps → p ∈ add_all same_pair ps []
  to_added p i = adds_new same_pair pair_yes pair_self ps [] (each_once_in same_pair pair_yes pair_self ps (rw (different_each ps) at i))

  from_added : (p : Pair) → p ∈ add_all same_pair ps [] → p ∈ different_pairs ps
  from_added p i = rw (different_each ps) (in_each_once same_pair pair_yes pair_self ps (old (adds_from same_pair pair_yes pair_self ps [] i)))
    where
      old : (p ∈ ps) ⊎ (p ∈ []) → p ∈ ps
      old (inl j) = j
      old (inr j) = absurd (Memᴰ.not-nil j)

  once_added : Once (add_all same_pair ps [])
  once_added = adds_once same_pair pair_yes pair_self ps [] tt

  once_different : Once (different_pairs ps)
  once_different = rw (different_each ps) (each_once_once same_pair pair_yes pair_self ps)

  -- The different pairs are as many, in all and of each name.
  pub pairs_length : length (add_all same_pair ps []) ≡ length (different_pairs ps)
  pairs_length =
      let a = once_length (add_all same_pair ps []) (different_pairs ps) once_added from_added in
      let b = once_length (different_pairs ps) (add_all same_pair ps []) once_different to_added in
      omega arith

  pub pairs_count : (n : ℕ) → block_count n (add_all same_pair ps []) ≡ block_count n (different_pairs ps)
  pairs_count n =
      let f : Pair → ℕ = λ p. one_if (eqb n p.name) in
      let a = total_within f (add_all same_pair ps []) (different_pairs ps) once_added from_added in
      let b = total_within f (different_pairs ps) (add_all same_pair ps []) once_different to_added in
      omega (arith, count_total n (add_all same_pair ps []), count_total n (different_pairs ps))
