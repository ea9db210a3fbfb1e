-- What the tables keep of all that is collected: each different pair once, and the first line of each name. Assumes nothing.
use mathlib.Core.Path.{◌≡◌, refl, sym, ap, ◌∙◌}
use mathlib.Core.Bool.{Bool, true, false, ◌&&◌, ◌||◌}
use mathlib.Core.List.{List, [], ◌∷◌, ◌++◌}
use Prim.Native.Nat.{ℕ, ◌+◌}
use native.Mathlib.Omega.{arith}
use lib.Dec.{eqb}
use lib.ListN.{length}
use borrow.Author.Tests.{eq-eqb, eqb-true}
use Rattle.spec.specs.Refusal.{has_name}
use Rattle.spec.specs.Site.{Misused, Output, once_a_name, first_lines}
use Rattle.spec.specs.Block.{Pair, Storage, has_pair, different_pairs, block_count, first_storage}
use Rattle.sites.specs.Own.{entry_names}

-- whether two pairs are the same
same_pair : Pair → Pair → Bool
same_pair p q = eqb p.name q.name && eqb p.block q.block

same_eq : (p q : Pair) → same_pair p q ≡ true → p ≡ q
unfolding same_pair
same_eq p q = go (eqb p.name q.name) refl (eqb p.block q.block) refl
  where
    go : (s : Bool) → eqb p.name q.name ≡ s → (t : Bool) → eqb p.block q.block ≡ t → (s && t) ≡ true → p ≡ q
    go true e true f h = let a = eqb-true p.name q.name e in let b = eqb-true p.block q.block f in λ i. record { name = a i; block = b i }
    go true e false f h = absurd (let y : ◌≡◌ {A = ℕ} 0 1 = cc in omega arith)
    go false e t f h = absurd (let y : ◌≡◌ {A = ℕ} 0 1 = cc in omega arith)

same_self : (p : Pair) → same_pair p p ≡ true
unfolding same_pair
same_self p = rw (eq-eqb p.name p.name refl, eq-eqb p.block p.block refl)

same_swap : (p q : Pair) → same_pair p q ≡ false → same_pair q p ≡ false
same_swap p q h = go (same_pair q p) refl
  where
    go : (t : Bool) → same_pair q p ≡ t → same_pair q p ≡ false
    go false e = e
    go true e = absurd (let z : same_pair p q ≡ true = ap (λ (x : Pair). same_pair x q) (sym (same_eq q p e)) ∙ same_self q in let y : ◌≡◌ {A = ℕ} 0 1 = cc in omega arith)

has_cons : (p q : Pair) (l : List Pair) → has_pair p (q ∷ l) ≡ (same_pair p q || has_pair p l)
unfolding has_pair same_pair
has_cons p q l = refl

has_snoc : (q : Pair) (l : List Pair) (p : Pair) → has_pair q (l ++ p ∷ []) ≡ (has_pair q l || same_pair q p)
unfolding has_pair same_pair
has_snoc q [] p = go (same_pair q p)
  where
    go : (t : Bool) → (t || false) ≡ t
    go true = refl
    go false = refl
has_snoc q (r ∷ l) p = go (same_pair q r) (has_snoc q l p)
  where
    go : (t : Bool) → has_pair q (l ++ p ∷ []) ≡ (has_pair q l || same_pair q p) → (t || has_pair q (l ++ p ∷ [])) ≡ ((t || has_pair q l) || same_pair q p)
    go true e = refl
    go false e = e

-- the sum of what f gives for the pairs of a list
abbrev total : (Pair → ℕ) → List Pair → ℕ
total f [] = 0
total f (p ∷ l) = f p + total f l

total_snoc : (f : Pair → ℕ) (l : List Pair) (p : Pair) → total f (l ++ p ∷ []) ≡ total f l + f p
total_snoc f [] p = omega arith
total_snoc f (q ∷ l) p = omega (arith, total_snoc f l p)

drop_seen : (p : Pair) (l : List Pair) → has_pair p l ≡ true → different_pairs (p ∷ l) ≡ different_pairs l
unfolding different_pairs
drop_seen p l e = rw (e, different_pairs)

keep_new : (p : Pair) (l : List Pair) → has_pair p l ≡ false → different_pairs (p ∷ l) ≡ p ∷ different_pairs l
unfolding different_pairs
keep_new p l e = rw (e, different_pairs)

-- one pair more, seen before or new
module _ (f : Pair → ℕ) where
  abbrev Seen : Pair → List Pair → Type 0
  Seen p l = has_pair p l ≡ true → total f (different_pairs (l ++ p ∷ [])) ≡ total f (different_pairs l)

  abbrev New : Pair → List Pair → Type 0
  New p l = has_pair p l ≡ false → total f (different_pairs (l ++ p ∷ [])) ≡ total f (different_pairs l) + f p

  snoc_step : (q p : Pair) (l : List Pair) → Seen p l → New p l → (s : Bool) → same_pair p q ≡ s → (b : Bool) → has_pair q l ≡ b → (c : Bool) → has_pair p l ≡ c
      → Seen p (q ∷ l) × New p (q ∷ l)
  snoc_step q p l i j true s b e true c =
      let d = same_eq p q s in
      let both : has_pair q (l ++ p ∷ []) ≡ true = has_snoc q l p ∙ (λ k. (ap (λ (x : Pair). has_pair x l) (sym d) ∙ c) k || same_pair q p) in
      let was : has_pair q l ≡ true = ap (λ (x : Pair). has_pair x l) (sym d) ∙ c in (
        λ h. ap (total f) (drop_seen q (l ++ p ∷ []) both) ∙ i c ∙ ap (total f) (sym (drop_seen q l was)),
        λ h. absurd (let z : has_pair p (q ∷ l) ≡ true = has_cons p q l ∙ (λ k. s k || has_pair p l) in let y : ◌≡◌ {A = ℕ} 0 1 = cc in omega arith),
      )
  snoc_step q p l i j true s b e false c =
      let d = same_eq p q s in
      let was : has_pair q l ≡ false = ap (λ (x : Pair). has_pair x l) (sym d) ∙ c in
      let both : has_pair q (l ++ p ∷ []) ≡ true = has_snoc q l p ∙ (λ k. was k || (ap (λ (x : Pair). same_pair q x) d ∙ same_self q) k) in (
        λ h. ap (total f) (drop_seen q (l ++ p ∷ []) both) ∙ j c ∙ omega (arith, ap (total f) (keep_new q l was), ap f d),
        λ h. absurd (let z : has_pair p (q ∷ l) ≡ true = has_cons p q l ∙ (λ k. s k || has_pair p l) in let y : ◌≡◌ {A = ℕ} 0 1 = cc in omega arith),
      )
  snoc_step q p l i j false s true e c0 c =
      let both : has_pair q (l ++ p ∷ []) ≡ true = has_snoc q l p ∙ (λ k. e k || same_pair q p) in
      let same : has_pair p (q ∷ l) ≡ has_pair p l = has_cons p q l ∙ (λ k. s k || has_pair p l) in (
        λ h. ap (total f) (drop_seen q (l ++ p ∷ []) both) ∙ i (sym same ∙ h) ∙ ap (total f) (sym (drop_seen q l e)),
        λ h. ap (total f) (drop_seen q (l ++ p ∷ []) both) ∙ j (sym same ∙ h) ∙ ap (λ (x : List Pair). total f x + f p) (sym (drop_seen q l e)),
      )
  snoc_step q p l i j false s false e c0 c =
      let both : has_pair q (l ++ p ∷ []) ≡ false = has_snoc q l p ∙ (λ k. e k || same_swap p q s k) in
      let same : has_pair p (q ∷ l) ≡ has_pair p l = has_cons p q l ∙ (λ k. s k || has_pair p l) in (
        λ h. ap (total f) (keep_new q (l ++ p ∷ []) both) ∙ omega (arith, i (sym same ∙ h), ap (total f) (keep_new q l e)),
        λ h. ap (total f) (keep_new q (l ++ p ∷ []) both) ∙ omega (arith, j (sym same ∙ h), ap (total f) (keep_new q l e)),
      )

  snoc_both : (p : Pair) (l : List Pair) → Seen p l × New p l
  unfolding different_pairs has_pair
  snoc_both p [] = (λ h. absurd (let y : ◌≡◌ {A = ℕ} 0 1 = cc in omega arith), λ h. omega arith)
  snoc_both p (q ∷ l) = let r = snoc_both p l in snoc_step q p l r.0 r.1 (same_pair p q) refl (has_pair q l) refl (has_pair p l) refl

-- counts and lengths are sums
abbrev one_if : ℕ → Pair → ℕ
one_if n p = elim (eqb n p.name) [ true ↦ 1 | false ↦ 0 ]

count_total : (n : ℕ) (l : List Pair) → block_count n l ≡ total (one_if n) l
unfolding block_count
count_total n [] = refl
count_total n (p ∷ l) = go (eqb n p.name) refl (count_total n l)
  where
    go : (t : Bool) → eqb n p.name ≡ t → block_count n l ≡ total (one_if n) l → block_count n (p ∷ l) ≡ total (one_if n) (p ∷ l)
    go true e i = rw (e, block_count, one_if) (omega arith)
    go false e i = rw (e, block_count, one_if) (omega arith)

length_total : (l : List Pair) → length l ≡ total (λ p. 1) l
length_total [] = refl
length_total (p ∷ l) = omega (arith, length_total l)

-- the table of pairs against all pairs collected: the same pairs, the same counts, as many different ones
abbrev pub with_pair : Pair → List Pair → List Pair
with_pair p ps = elim (has_pair p ps) [ true ↦ ps | false ↦ ps ++ p ∷ [] ]

pub record Kept (ps l : List Pair) : Type 0 where
  pub same : (q : Pair) → has_pair q ps ≡ has_pair q l
  pub sums : (f : Pair → ℕ) → total f ps ≡ total f (different_pairs l)

pub kept_none : Kept [] []
unfolding different_pairs
kept_none = record { same = λ q. refl; sums = λ f. refl }

pub kept_count : {ps l : List Pair} → Kept ps l → (n : ℕ) → block_count n ps ≡ block_count n (different_pairs l)
kept_count {ps} {l} k n = count_total n ps ∙ k.sums (one_if n) ∙ sym (count_total n (different_pairs l))

pub kept_length : {ps l : List Pair} → Kept ps l → length ps ≡ length (different_pairs l)
kept_length {ps} {l} k = length_total ps ∙ k.sums (λ p. 1) ∙ sym (length_total (different_pairs l))

pub kept_more : {ps l : List Pair} (p : Pair) → Kept ps l → Kept (with_pair p ps) (l ++ p ∷ [])
kept_more {ps} {l} p k = go (has_pair p ps) refl
  where
    go : (t : Bool) → has_pair p ps ≡ t → Kept (elim t as (λ _. List Pair) [ true ↦ ps | false ↦ ps ++ p ∷ [] ]) (l ++ p ∷ [])
    go true e =
        record {
          same = λ q. k.same q ∙ seen q (same_pair q p) refl ∙ sym (has_snoc q l p);
          sums = λ f. k.sums f ∙ sym ((snoc_both f p l).0 (sym (k.same p) ∙ e));
        }
      where
        seen : (q : Pair) (t : Bool) → same_pair q p ≡ t → has_pair q l ≡ (has_pair q l || same_pair q p)
        seen q true d =
            let h : has_pair q l ≡ true = ap (λ (x : Pair). has_pair x l) (same_eq q p d) ∙ sym (k.same p) ∙ e in
            h ∙ sym (λ i. h i || same_pair q p)
        seen q false d = go' (has_pair q l) ∙ sym (λ i. has_pair q l || d i)
          where
            go' : (b : Bool) → b ≡ (b || false)
            go' true = refl
            go' false = refl
    go false e =
        record {
          same = λ q. has_snoc q ps p ∙ (λ i. k.same q i || same_pair q p) ∙ sym (has_snoc q l p);
          sums = λ f. total_snoc f ps p ∙ ap (λ (x : ℕ). x + f p) (k.sums f) ∙ sym ((snoc_both f p l).1 (sym (k.same p) ∙ e));
        }

-- the first line of each name, for any kind of line
module _ {A : Type 0} (nm : A → ℕ) where
  unfoldable pub firsts : List ℕ → List A → List A
  firsts seen [] = []
  firsts seen (x ∷ l) = elim (has_name (nm x) seen) [ true ↦ firsts seen l | false ↦ x ∷ firsts (nm x ∷ seen) l ]

  firsts_seen : (seen : List ℕ) (x : A) (l : List A) → has_name (nm x) seen ≡ true → firsts seen (x ∷ l) ≡ firsts seen l
  unfolding firsts
  firsts_seen seen x l e = rw (e, firsts)

  firsts_new : (seen : List ℕ) (x : A) (l : List A) → has_name (nm x) seen ≡ false → firsts seen (x ∷ l) ≡ x ∷ firsts (nm x ∷ seen) l
  unfolding firsts
  firsts_new seen x l e = rw (e, firsts)

  -- whether a name is among those before or among those of a list
  abbrev known : List ℕ → List A → A → Bool
  known seen l x = has_name (nm x) seen || has_name (nm x) (entry_names nm l)

  known_cons : (seen : List ℕ) (y : A) (l : List A) (x : A) → known seen (y ∷ l) x ≡ known (nm y ∷ seen) l x
  unfolding entry_names has_name
  known_cons seen y l x = go (has_name (nm x) seen) (eqb (nm x) (nm y)) (has_name (nm x) (entry_names nm l))
    where
      go : (a b c : Bool) → (a || (b || c)) ≡ ((b || a) || c)
      go true true c = refl
      go true false c = refl
      go false true c = refl
      go false false c = refl

  known_again : (seen : List ℕ) (y : A) (l : List A) (x : A) → has_name (nm y) seen ≡ true → known seen (y ∷ l) x ≡ known seen l x
  unfolding entry_names has_name
  known_again seen y l x e = go (eqb (nm x) (nm y)) refl
    where
      go : (t : Bool) → eqb (nm x) (nm y) ≡ t → known seen (y ∷ l) x ≡ known seen l x
      go true d =
          let h : has_name (nm x) seen ≡ true = ap (λ (k : ℕ). has_name k seen) (eqb-true (nm x) (nm y) d) ∙ e in
          (λ i. h i || has_name (nm x) (entry_names nm (y ∷ l))) ∙ sym (λ i. h i || has_name (nm x) (entry_names nm l))
      go false d = λ i. has_name (nm x) seen || (d i || has_name (nm x) (entry_names nm l))

  firsts_both : (seen : List ℕ) (l : List A) (x : A)
      → (known seen l x ≡ true → firsts seen (l ++ x ∷ []) ≡ firsts seen l) × (known seen l x ≡ false → firsts seen (l ++ x ∷ []) ≡ firsts seen l ++ x ∷ [])
  unfolding firsts entry_names has_name
  firsts_both seen [] x = go (has_name (nm x) seen) refl
    where
      go : (t : Bool) → has_name (nm x) seen ≡ t → ((has_name (nm x) seen || false) ≡ true → firsts seen (x ∷ []) ≡ []) × ((has_name (nm x) seen || false) ≡ false → firsts seen (x ∷ []) ≡ x ∷ [])
      go true e = (λ h. firsts_seen seen x [] e, λ h. absurd (let z : ◌≡◌ {A = Bool} true false = (λ i. sym e i || false) ∙ h in let y : ◌≡◌ {A = ℕ} 0 1 = cc in omega arith))
      go false e = (λ h. absurd (let z : ◌≡◌ {A = Bool} false true = (λ i. sym e i || false) ∙ h in let y : ◌≡◌ {A = ℕ} 0 1 = cc in omega arith), λ h. firsts_new seen x [] e)
  firsts_both seen (y ∷ l) x = go (has_name (nm y) seen) refl (firsts_both seen l x) (firsts_both (nm y ∷ seen) l x)
    where
      go : (t : Bool) → has_name (nm y) seen ≡ t
          → (known seen l x ≡ true → firsts seen (l ++ x ∷ []) ≡ firsts seen l) × (known seen l x ≡ false → firsts seen (l ++ x ∷ []) ≡ firsts seen l ++ x ∷ [])
          → (known (nm y ∷ seen) l x ≡ true → firsts (nm y ∷ seen) (l ++ x ∷ []) ≡ firsts (nm y ∷ seen) l) × (known (nm y ∷ seen) l x ≡ false → firsts (nm y ∷ seen) (l ++ x ∷ []) ≡ firsts (nm y ∷ seen) l ++ x ∷ [])
          → (known seen (y ∷ l) x ≡ true → firsts seen ((y ∷ l) ++ x ∷ []) ≡ firsts seen (y ∷ l)) × (known seen (y ∷ l) x ≡ false → firsts seen ((y ∷ l) ++ x ∷ []) ≡ firsts seen (y ∷ l) ++ x ∷ [])
      go true e i j =
          let k = known_again seen y l x e in (
            λ h. firsts_seen seen y (l ++ x ∷ []) e ∙ i.0 (sym k ∙ h) ∙ sym (firsts_seen seen y l e),
            λ h. firsts_seen seen y (l ++ x ∷ []) e ∙ i.1 (sym k ∙ h) ∙ ap (λ s. s ++ x ∷ []) (sym (firsts_seen seen y l e)),
          )
      go false e i j =
          let k = known_cons seen y l x in (
            λ h. firsts_new seen y (l ++ x ∷ []) e ∙ ap (λ s. y ∷ s) (j.0 (sym k ∙ h)) ∙ sym (firsts_new seen y l e),
            λ h. firsts_new seen y (l ++ x ∷ []) e ∙ ap (λ s. y ∷ s) (j.1 (sym k ∙ h)) ∙ ap (λ s. s ++ x ∷ []) (sym (firsts_new seen y l e)),
          )

  -- a line whose name was seen adds nothing, any other stands last
  pub firsts_old : (l : List A) (x : A) → has_name (nm x) (entry_names nm l) ≡ true → firsts [] (l ++ x ∷ []) ≡ firsts [] l
  unfolding has_name
  firsts_old l x h = (firsts_both [] l x).0 h

  pub firsts_last : (l : List A) (x : A) → has_name (nm x) (entry_names nm l) ≡ false → firsts [] (l ++ x ∷ []) ≡ firsts [] l ++ x ∷ []
  unfolding has_name
  firsts_last l x h = (firsts_both [] l x).1 h

pub storage_firsts : (seen : List ℕ) (l : List Storage) → first_storage seen l ≡ firsts (λ r. r.name) seen l
unfolding first_storage firsts
storage_firsts seen [] = refl
storage_firsts seen (x ∷ l) = go (has_name x.name seen) refl (storage_firsts seen l) (storage_firsts (x.name ∷ seen) l)
  where
    go : (t : Bool) → has_name x.name seen ≡ t → first_storage seen l ≡ firsts (λ r. r.name) seen l → first_storage (x.name ∷ seen) l ≡ firsts (λ r. r.name) (x.name ∷ seen) l
        → first_storage seen (x ∷ l) ≡ firsts (λ r. r.name) seen (x ∷ l)
    go true e i j = rw (e, first_storage, firsts) i
    go false e i j = rw (e, first_storage, firsts) (ap (λ s. x ∷ s) j)

pub output_firsts : (seen : List ℕ) (l : List Output) → first_lines seen l ≡ firsts (λ r. r.name) seen l
unfolding first_lines firsts
output_firsts seen [] = refl
output_firsts seen (x ∷ l) = go (has_name x.name seen) refl (output_firsts seen l) (output_firsts (x.name ∷ seen) l)
  where
    go : (t : Bool) → has_name x.name seen ≡ t → first_lines seen l ≡ firsts (λ r. r.name) seen l → first_lines (x.name ∷ seen) l ≡ firsts (λ r. r.name) (x.name ∷ seen) l
        → first_lines seen (x ∷ l) ≡ firsts (λ r. r.name) seen (x ∷ l)
    go true e i j = rw (e, first_lines, firsts) i
    go false e i j = rw (e, first_lines, firsts) (ap (λ s. x ∷ s) j)

pub misused_firsts : (seen : List ℕ) (l : List Misused) → once_a_name seen l ≡ firsts (λ r. r.name) seen l
unfolding once_a_name firsts
misused_firsts seen [] = refl
misused_firsts seen (x ∷ l) = go (has_name x.name seen) refl (misused_firsts seen l) (misused_firsts (x.name ∷ seen) l)
  where
    go : (t : Bool) → has_name x.name seen ≡ t → once_a_name seen l ≡ firsts (λ r. r.name) seen l → once_a_name (x.name ∷ seen) l ≡ firsts (λ r. r.name) (x.name ∷ seen) l
        → once_a_name seen (x ∷ l) ≡ firsts (λ r. r.name) seen (x ∷ l)
    go true e i j = rw (e, once_a_name, firsts) i
    go false e i j = rw (e, once_a_name, firsts) (ap (λ s. x ∷ s) j)
