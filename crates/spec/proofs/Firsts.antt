-- Lists in order, lists gathered from lists, and the first of each name in a list.
-- Assumes nothing.
use mathlib.Core.Path.{◌≡◌, refl, sym, ◌∙◌, ap, subst, subst⁻¹}
use mathlib.Core.Bool.{Bool, true, false}
use mathlib.Core.Logic.{◌⊎◌, inl, inr, ◌↔◌}
use mathlib.Core.List.Memᴰ
use mathlib.Core.List.{List, [], ◌∷◌, ◌++◌, append_assoc}
use Prim.Native.Nat.{ℕ}
use Rattle.spec.specs.Refusal.{has_name}
use Rattle.spec.specs.Graph.{◌∈◌, Once}
use Rattle.spec.specs.Situations.{First}
use Rattle.spec.specs.Meaning.{NamedBefore}
use Rattle.spec.specs.DepthFirstFinds.{InOrder, StandsBefore}
use Rattle.spec.proofs.Flags.{named_in, not_named, unnamed}

-- ---- lists

pub head_same : {A : Type 0} {a b : A} {l k : List A} → a ∷ l ≡ b ∷ k → a ≡ b
head_same e = cc

pub tail_same : {A : Type 0} {a b : A} {l k : List A} → a ∷ l ≡ b ∷ k → l ≡ k
tail_same e = cc

pub not_cons : {A : Type 0} (b : List A) (a : A) (l : List A) → [] ≡ b ++ a ∷ l → ⊥
not_cons b a l e = Memᴰ.not-nil (subst⁻¹ (λ z. a ∈ z) e (Memᴰ.append_right b (Memᴰ.head refl)))

-- a member stands somewhere
pub part_at : {A : Type 0} {a : A} {l : List A} → a ∈ l → (before after : List A) × (l ≡ before ++ a ∷ after)
part_at {a} (Memᴰ.head {xs = l} e) = ([], l, ap (λ z. z ∷ l) (sym e))
part_at (Memᴰ.tail {x = b} i) = let (before, after, e) = part_at i in (b ∷ before, after, ap (λ z. b ∷ z) e)

-- ---- lists in order

pub order_append : {A : Type 0} {R : A → A → Type 0} (l k : List A) → InOrder R l → InOrder R k → ((a b : A) → a ∈ l → b ∈ k → R a b) → InOrder R (l ++ k)
order_append [] k p q h = q
order_append {A} {R} (a ∷ l) k p q h = (λ b i. either b (Memᴰ.append_cases l i), order_append l k p.1 q (λ b c i j. h b c (Memᴰ.tail i) j))
  where
    either : (b : A) → (b ∈ l) ⊎ (b ∈ k) → R a b
    either b (inl i) = p.0 b i
    either b (inr i) = h a b (Memᴰ.head refl) i

pub order_weaken : {A : Type 0} {R S : A → A → Type 0} (l : List A) → ((a b : A) → a ∈ l → b ∈ l → R a b → S a b) → InOrder R l → InOrder S l
order_weaken [] h p = tt
order_weaken (a ∷ l) h p = (λ b i. h a b (Memᴰ.head refl) (Memᴰ.tail i) (p.0 b i), order_weaken l (λ b c i j. h b c (Memᴰ.tail i) (Memᴰ.tail j)) p.1)

-- a list in an order in which nothing stands before itself has none twice
pub order_once : {A : Type 0} (R : A → A → Type 0) (l : List A) → ((a : A) → a ∈ l → ¬ R a a) → InOrder R l → Once l
order_once R [] h p = tt
order_once R (a ∷ l) h p = (λ i. h a (Memᴰ.head refl) (p.0 a i), order_once R l (λ b i. h b (Memᴰ.tail i)) p.1)

-- in any list each stands before those behind it
pub order_stands : {A : Type 0} (done l : List A) → InOrder (StandsBefore (done ++ l)) l
order_stands done [] = tt
order_stands {A} done (a ∷ l) = (
  λ b i. record { front = done; back = l; parted = refl; behind = i },
  subst (λ z. InOrder (StandsBefore z) l) (append_assoc done (a ∷ []) l) (order_stands (done ++ a ∷ []) l),
)

-- where none stands twice, what stands behind does not stand before
pub stands_one_way : {A : Type 0} (l : List A) (a b : A) → Once l → StandsBefore l a b → StandsBefore l b a → ⊥
stands_one_way {A} l a b o p q = go p.front q.front (subst Once p.parted o) (sym p.parted ∙ q.parted)
  where
    go : (f f' : List A) → Once (f ++ a ∷ p.back) → f ++ a ∷ p.back ≡ f' ++ b ∷ q.back → ⊥
    go [] [] o e = o.0 (subst⁻¹ (λ z. a ∈ z) (tail_same e) q.behind)
    go [] (y ∷ f') o e = o.0 (subst⁻¹ (λ z. a ∈ z) (tail_same e) (Memᴰ.append_right f' (Memᴰ.tail q.behind)))
    go (x ∷ f) [] o e = o.0 (Memᴰ.cast (head_same e) (Memᴰ.append_right f (Memᴰ.tail p.behind)))
    go (x ∷ f) (y ∷ f') o e = go f f' o.1 (tail_same e)

-- ---- lists with the same members in the same order

module _ {A : Type 0} (R : A → A → Type 0) (one_way : (a b : A) → R a b → R b a → ⊥) where
  pub same_list : (l k : List A) → Once l → Once k → InOrder R l → InOrder R k → ((a : A) → a ∈ l ↔ a ∈ k) → l ≡ k
  same_list [] [] o o' p p' h = refl
  same_list [] (b ∷ k) o o' p p' h = absurd (Memᴰ.not-nil ((h b).1 (Memᴰ.head refl)))
  same_list (a ∷ l) [] o o' p p' h = absurd (Memᴰ.not-nil ((h a).0 (Memᴰ.head refl)))
  same_list (a ∷ l) (b ∷ k) o o' p p' h =
      let e : a ≡ b = heads (Memᴰ.cases_cons ((h a).0 (Memᴰ.head refl))) (Memᴰ.cases_cons ((h b).1 (Memᴰ.head refl))) in
      let t : l ≡ k = same_list l k o.1 o'.1 p.1 p'.1 (λ c. (λ i. down c e i (Memᴰ.cases_cons ((h c).0 (Memᴰ.tail i))), λ i. up c e i (Memᴰ.cases_cons ((h c).1 (Memᴰ.tail i))))) in
      λ i. e i ∷ t i
    where
      heads : (a ≡ b) ⊎ (a ∈ k) → (b ≡ a) ⊎ (b ∈ l) → a ≡ b
      heads (inl e) y = e
      heads (inr i) (inl e) = sym e
      heads (inr i) (inr j) = absurd (one_way a b (p.0 b j) (p'.0 a i))

      down : (c : A) → a ≡ b → c ∈ l → (c ≡ b) ⊎ (c ∈ k) → c ∈ k
      down c e i (inl d) = absurd (o.0 (Memᴰ.cast (e ∙ sym d) i))
      down c e i (inr j) = j

      up : (c : A) → a ≡ b → c ∈ k → (c ≡ a) ⊎ (c ∈ l) → c ∈ l
      up c e i (inl d) = absurd (o'.0 (Memᴰ.cast (sym e ∙ sym d) i))
      up c e i (inr j) = j

-- ---- lists gathered from lists

module _ {A B : Type 0} (g : A → List B) where
  unfoldable pub gather : List A → List B
  gather [] = []
  gather (a ∷ l) = g a ++ gather l

  pub of_gather : {b : B} (l : List A) → b ∈ gather l → (a : A) × (a ∈ l) × (b ∈ g a)
  unfolding gather
  of_gather [] i = absurd (Memᴰ.not-nil i)
  of_gather {b} (a ∷ l) i = go (Memᴰ.append_cases (g a) i) (of_gather l)
    where
      go : (b ∈ g a) ⊎ (b ∈ gather l) → (b ∈ gather l → (a : A) × (a ∈ l) × (b ∈ g a)) → (c : A) × (c ∈ (a ∷ l)) × (b ∈ g c)
      go (inl j) ih = (a, Memᴰ.head refl, j)
      go (inr j) ih = let (c, x, y) = ih j in (c, Memᴰ.tail x, y)

  pub in_gather : {b : B} {a : A} {l : List A} → a ∈ l → b ∈ g a → b ∈ gather l
  unfolding gather
  in_gather {b} (Memᴰ.head {xs = l} e) j = Memᴰ.append_left (gather l) (subst (λ z. b ∈ g z) e j)
  in_gather (Memᴰ.tail {x = c} i) j = Memᴰ.append_right (g c) (in_gather i j)

  pub gather_order : {S : A → A → Type 0} {R : B → B → Type 0} (l : List A) → InOrder S l → ((a : A) → InOrder R (g a))
      → ((a a' : A) (b b' : B) → a ∈ l → a' ∈ l → S a a' → b ∈ g a → b' ∈ g a' → R b b') → InOrder R (gather l)
  unfolding gather
  gather_order [] p q h = tt
  gather_order {S} {R} (a ∷ l) p q h =
      order_append (g a) (gather l) (q a) (gather_order l p.1 q (λ c c' b b' i i'. h c c' b b' (Memᴰ.tail i) (Memᴰ.tail i')))
      (λ b b' i j. let (a', x, y) = of_gather l j in h a a' b b' (Memᴰ.head refl) (Memᴰ.tail x) (p.0 a' x) i y)

-- ---- the first of each name

module _ {A : Type 0} (name : A → ℕ) where
  unfoldable pub firsts : List ℕ → List A → List A
  firsts seen [] = []
  firsts seen (x ∷ l) = elim (has_name (name x) seen) [ true ↦ firsts seen l | false ↦ x ∷ firsts (name x ∷ seen) l ]

  first_more : {x y : A} {l : List A} → ¬ (name y ≡ name x) → First name l x → First name (y ∷ l) x
  first_more {x} {y} {l} n f = record {
    before = y ∷ f.before;
    after = f.after;
    parted = ap (λ z. y ∷ z) f.parted;
    first = λ z i. go z (Memᴰ.cases_cons i);
  }
    where
      go : (z : A) → (z ≡ y) ⊎ (z ∈ f.before) → ¬ (name z ≡ name x)
      go z (inl e) d = n (ap name (sym e) ∙ d)
      go z (inr i) d = f.first z i d

  pub of_firsts : {x : A} (l : List A) (seen : List ℕ) → x ∈ firsts seen l → First name l x × ¬ (name x ∈ seen)
  unfolding firsts
  of_firsts [] seen i = absurd (Memᴰ.not-nil i)
  of_firsts {x} (y ∷ l) seen i = go (has_name (name y) seen) refl (λ s. of_firsts l s)
    where
      kept : has_name (name y) seen ≡ false → (x ≡ y) ⊎ (First name l x × ¬ (name x ∈ (name y ∷ seen))) → First name (y ∷ l) x × ¬ (name x ∈ seen)
      kept h (inl e) = (record { before = []; after = l; parted = ap (λ z. z ∷ l) (sym e); first = λ z j. absurd (Memᴰ.not-nil j) }, λ j. unnamed h (Memᴰ.cast (ap name (sym e)) j))
      kept h (inr (f, n)) = (first_more (λ d. n (Memᴰ.head (sym d))) f, λ j. n (Memᴰ.tail j))

      map_right : {P Q R : Type 0} → (Q → R) → P ⊎ Q → P ⊎ R
      map_right f (inl p) = inl p
      map_right f (inr q) = inr (f q)

      go : (b : Bool) → has_name (name y) seen ≡ b → ((s : List ℕ) → x ∈ firsts s l → First name l x × ¬ (name x ∈ s)) → First name (y ∷ l) x × ¬ (name x ∈ seen)
      go true h ih = let (f, n) = ih seen (rw (h, firsts) at i) in (first_more (λ d. n (Memᴰ.cast (sym d) (named_in (name y) seen h))) f, n)
      go false h ih = kept h (map_right (ih (name y ∷ seen)) (Memᴰ.cases_cons (rw (h, firsts) at i)))

  pub in_firsts : (before after : List A) (x : A) (seen : List ℕ) → ((y : A) → y ∈ before → ¬ (name y ≡ name x)) → ¬ (name x ∈ seen) → x ∈ firsts seen (before ++ x ∷ after)
  unfolding firsts
  in_firsts [] after x seen f n = rw (not_named n, firsts) (Memᴰ.head refl)
  in_firsts (y ∷ before) after x seen f n = go (has_name (name y) seen) refl (λ s. in_firsts before after x s (λ z i. f z (Memᴰ.tail i)))
    where
      new : name x ∈ (name y ∷ seen) → ⊥
      new (Memᴰ.head e) = f y (Memᴰ.head refl) (sym e)
      new (Memᴰ.tail i) = n i

      go : (b : Bool) → has_name (name y) seen ≡ b → ((s : List ℕ) → ¬ (name x ∈ s) → x ∈ firsts s (before ++ x ∷ after)) → x ∈ firsts seen (y ∷ before ++ x ∷ after)
      go true h ih = rw (h, firsts) (ih seen n)
      go false h ih = rw (h, firsts) (Memᴰ.tail (ih (name y ∷ seen) new))

  pub firsts_say : (l : List A) (x : A) → x ∈ firsts [] l ↔ First name l x
  firsts_say l x = (λ i. (of_firsts l [] i).0, λ f. subst⁻¹ (λ z. x ∈ firsts [] z) f.parted (in_firsts f.before f.after x [] f.first (λ i. Memᴰ.not-nil i)))

  -- each name that stands there has a first
  pub first_of : (l : List A) (seen : List ℕ) (x : A) → x ∈ l → (name x ∈ seen) ⊎ ((y : A) × (y ∈ firsts seen l) × (name y ≡ name x))
  unfolding firsts
  first_of [] seen x i = absurd (Memᴰ.not-nil i)
  first_of (y ∷ l) seen x i = go (has_name (name y) seen) refl (Memᴰ.cases_cons i) (λ s. first_of l s x)
    where
      later : has_name (name y) seen ≡ false → (name x ∈ (name y ∷ seen)) ⊎ ((z : A) × (z ∈ firsts (name y ∷ seen) l) × (name z ≡ name x)) → (name x ∈ seen) ⊎ ((z : A) × (z ∈ (y ∷ firsts (name y ∷ seen) l)) × (name z ≡ name x))
      later h (inl (Memᴰ.head e)) = inr (y, Memᴰ.head refl, sym e)
      later h (inl (Memᴰ.tail j)) = inl j
      later h (inr (z, j, e)) = inr (z, Memᴰ.tail j, e)

      go : (b : Bool) → has_name (name y) seen ≡ b → (x ≡ y) ⊎ (x ∈ l) → ((s : List ℕ) → x ∈ l → (name x ∈ s) ⊎ ((z : A) × (z ∈ firsts s l) × (name z ≡ name x)))
          → (name x ∈ seen) ⊎ ((z : A) × (z ∈ firsts seen (y ∷ l)) × (name z ≡ name x))
      go true h (inl e) ih = inl (Memᴰ.cast (ap name e) (named_in (name y) seen h))
      go true h (inr j) ih = rw (h, firsts) (ih seen j)
      go false h (inl e) ih = inr (y, rw (h, firsts) (Memᴰ.head refl), ap name (sym e))
      go false h (inr j) ih = rw (h, firsts) (later h (ih (name y ∷ seen) j))

  pub firsts_order : (done l : List A) (seen : List ℕ) → ((a : A) → a ∈ done → name a ∈ seen) → InOrder (λ x y. NamedBefore name (done ++ l) (name x) (name y)) (firsts seen l)
  unfolding firsts
  firsts_order done [] seen h = tt
  firsts_order done (y ∷ l) seen h = go (has_name (name y) seen) refl (λ s k. subst (λ z. InOrder (λ a b. NamedBefore name z (name a) (name b)) (firsts s l)) (append_assoc done (y ∷ []) l) (firsts_order (done ++ y ∷ []) l s k))
    where
      seen_in : (s : List ℕ) → ((n : ℕ) → n ∈ seen → n ∈ s) → name y ∈ s → (a : A) → (a ∈ done) ⊎ (a ∈ (y ∷ [])) → name a ∈ s
      seen_in s f g a (inl i) = f (name a) (h a i)
      seen_in s f g a (inr i) = Memᴰ.cast (ap name (Memᴰ.eq_of_singleton i)) g

      front : (s : List ℕ) → ((n : ℕ) → n ∈ seen → n ∈ s) → name y ∈ s → (a : A) → a ∈ (done ++ y ∷ []) → name a ∈ s
      front s f g a i = seen_in s f g a (Memᴰ.append_cases done i)

      go : (b : Bool) → has_name (name y) seen ≡ b → ((s : List ℕ) → ((a : A) → a ∈ (done ++ y ∷ []) → name a ∈ s) → InOrder (λ a b. NamedBefore name (done ++ y ∷ l) (name a) (name b)) (firsts s l))
          → InOrder (λ a b. NamedBefore name (done ++ y ∷ l) (name a) (name b)) (firsts seen (y ∷ l))
      go true e ih = rw (e, firsts) (ih seen (front seen (λ n i. i) (named_in (name y) seen e)))
      go false e ih = rw (e, firsts) (
        (λ b i. record {
          front = done ++ y ∷ [];
          back = l;
          parted = sym (append_assoc done (y ∷ []) l);
          one = y;
          stands = Memᴰ.append_right done (Memᴰ.head refl);
          named = refl;
          other = λ a j d. (of_firsts l (name y ∷ seen) i).1 (Memᴰ.cast (sym d) (front (name y ∷ seen) (λ n k. Memᴰ.tail k) (Memᴰ.head refl) a j));
        }),
        ih (name y ∷ seen) (front (name y ∷ seen) (λ n k. Memᴰ.tail k) (Memᴰ.head refl)),
      )
