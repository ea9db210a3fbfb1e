-- Nodes: their equality and order as tests, lists of them each once and ascending, and what a node reads.
-- Assumes nothing.
use mathlib.Core.Path.{◌≡◌, refl, sym, ◌∙◌, ap, subst}
use mathlib.Core.Bool.{Bool, true, false, ◌&&◌, ◌||◌, and_assoc, true≢false, false≢true}
use mathlib.Core.Logic.{◌⊎◌, inl, inr, ◌↔◌}
use mathlib.Core.List.Memᴰ
use mathlib.Core.List.{List, [], ◌∷◌, ◌++◌}
use mathlib.Core.Option.{Option, some, none}
use Prim.Native.Nat.{ℕ}
use native.Mathlib.Omega.{arith}
use lib.Dec.{eqb, ltb}
use lib.IntN.{ℤ, pos, negsuc}
use borrow.Author.Tests.{eqb-true, eqb-false, eq-eqb, ltb-true, ltb-false, lt-ltb}
use Rattle.spec.specs.Value.{int_eq, int_lt}
use Rattle.spec.specs.DepthFirst.{among, each_once}
use Rattle.spec.specs.Graph.{◌∈◌, Once}
use Rattle.spec.specs.Edge.{Node, signal, inst_out, same_index, same_node, Head, all_nodes, head_nodes, all_reads, reads_of}
use Rattle.spec.specs.FindCycles.{start_of, index_before, node_before, ascends, insert_node, ascending, next_nodes, roots}
use Rattle.spec.proofs.Numbers.{if_case}
use Rattle.spec.proofs.Lists.{among_yes, among_no}

-- tests joined
pub and_parts : (a b : Bool) → a && b ≡ true → (a ≡ true) × (b ≡ true)
and_parts true b h = (refl, h)
and_parts false b h = absurd (false≢true h)

pub or_parts : (a b : Bool) → a || b ≡ true → (a ≡ true) ⊎ (b ≡ true)
or_parts true b h = inl refl
or_parts false b h = inr h

or_left : (a b : Bool) → a ≡ true → a || b ≡ true
or_left a b e = rw e

or_right : (a b : Bool) → b ≡ true → a || b ≡ true
or_right true b e = refl
or_right false b e = e

or_neither : (a b : Bool) → a || b ≡ false → (a ≡ false) × (b ≡ false)
or_neither true b h = absurd (true≢false h)
or_neither false b h = (refl, h)

-- a test for equality, and one for a strict order: of two different things one comes before the other
pub record Strict {A : Type 0} (same before : A → A → Bool) : Type 0 where
  pub yes_same : (a b : A) → same a b ≡ true → a ≡ b
  pub self : (a : A) → same a a ≡ true
  pub never : (a : A) → ¬ (before a a ≡ true)
  pub after : (a b c : A) → before a b ≡ true → before b c ≡ true → before a c ≡ true
  pub other : (a b : A) → same a b ≡ false → before a b ≡ false → before b a ≡ true

-- of pairs: by the first, and where those are the same by the second
abbrev both_same : {A B : Type 0} → (A → A → Bool) → (B → B → Bool) → A × B → A × B → Bool
both_same same same' p q = same p.0 q.0 && same' p.1 q.1

abbrev one_before : {A B : Type 0} → (A → A → Bool) → (A → A → Bool) → (B → B → Bool) → A × B → A × B → Bool
one_before same before before' p q = before p.0 q.0 || same p.0 q.0 && before' p.1 q.1

module _ {A B : Type 0} {same before : A → A → Bool} {same' before' : B → B → Bool} (S : Strict same before) (T : Strict same' before') where
  abbrev Earlier : A × B → A × B → Type 0
  Earlier p q = (before p.0 q.0 ≡ true) ⊎ ((p.0 ≡ q.0) × (before' p.1 q.1 ≡ true))

  earlier : (p q : A × B) → one_before same before before' p q ≡ true → Earlier p q
  earlier p q h = go (or_parts (before p.0 q.0) (same p.0 q.0 && before' p.1 q.1) h)
    where
      go : (before p.0 q.0 ≡ true) ⊎ (same p.0 q.0 && before' p.1 q.1 ≡ true) → Earlier p q
      go (inl e) = inl e
      go (inr e) = let (d, f) = and_parts (same p.0 q.0) (before' p.1 q.1) e in inr (S.yes_same p.0 q.0 d, f)

  of_earlier : (p q : A × B) → Earlier p q → one_before same before before' p q ≡ true
  of_earlier p q (inl e) = or_left (before p.0 q.0) (same p.0 q.0 && before' p.1 q.1) e
  of_earlier p q (inr (e, h)) = or_right (before p.0 q.0) (same p.0 q.0 && before' p.1 q.1) (rw (e, S.self q.0) h)

  earlier_never : (p : A × B) → ¬ Earlier p p
  earlier_never p (inl h) = S.never p.0 h
  earlier_never p (inr (e, h)) = T.never p.1 h

  earlier_after : (p q r : A × B) → Earlier p q → Earlier q r → Earlier p r
  earlier_after p q r (inl e) (inl f) = inl (S.after p.0 q.0 r.0 e f)
  earlier_after p q r (inl e) (inr (d, f)) = inl (rw d at e)
  earlier_after p q r (inr (d, e)) (inl f) = inl (rw d f)
  earlier_after p q r (inr (d, e)) (inr (d', f)) = inr (d ∙ d', T.after p.1 q.1 r.1 e f)

  earlier_other : (p q : A × B) (v : Bool) → same p.0 q.0 ≡ v → both_same same same' p q ≡ false
      → (before p.0 q.0 ≡ false) × (same p.0 q.0 && before' p.1 q.1 ≡ false) → Earlier q p
  earlier_other p q true e h (f, g) = inr (sym (S.yes_same p.0 q.0 e), T.other p.1 q.1 (rw e at h) (rw e at g))
  earlier_other p q false e h (f, g) = inl (S.other p.0 q.0 e f)

  pub pair_strict : Strict (both_same same same') (one_before same before before')
  pair_strict = record {
    yes_same = λ p q h.
        let e = and_parts (same p.0 q.0) (same' p.1 q.1) h in
        pair (S.yes_same p.0 q.0 e.0) (T.yes_same p.1 q.1 e.1);
    self = λ p. rw (S.self p.0) (T.self p.1);
    never = λ p h. earlier_never p (earlier p p h);
    after = λ p q r g h. of_earlier p r (earlier_after p q r (earlier p q g) (earlier q r h));
    other = λ p q e h. of_earlier q p (earlier_other p q (same p.0 q.0) refl e
        (or_neither (before p.0 q.0) (same p.0 q.0 && before' p.1 q.1) h));
  }
    where
      pair : {p q : A × B} → p.0 ≡ q.0 → p.1 ≡ q.1 → p ≡ q
      pair e d = λ i. (e i, d i)

pub nat_strict : Strict eqb ltb
nat_strict = record {
  yes_same = eqb-true;
  self = λ n. eq-eqb n n refl;
  never = λ n h. let l = ltb-true n n h in omega arith;
  after = λ a b c g h. let l = ltb-true a b g in let k = ltb-true b c h in lt-ltb a c (omega arith);
  other = λ a b e h. let d = eqb-false a b e in let l = ltb-false a b h in lt-ltb b a (omega arith);
}

pub int_eq_yes : (y z : ℤ) → int_eq y z ≡ true → y ≡ z
int_eq_yes (pos m) (pos n) h = ap pos (eqb-true m n h)
int_eq_yes (pos m) (negsuc n) h = absurd (false≢true h)
int_eq_yes (negsuc m) (pos n) h = absurd (false≢true h)
int_eq_yes (negsuc m) (negsuc n) h = ap negsuc (eqb-true m n h)

pub int_eq_refl : (z : ℤ) → int_eq z z ≡ true
int_eq_refl (pos n) = eq-eqb n n refl
int_eq_refl (negsuc n) = eq-eqb n n refl

int_never : (z : ℤ) → ¬ (int_lt z z ≡ true)
int_never (pos n) = nat_strict.never n
int_never (negsuc n) = nat_strict.never n

int_after : (a b c : ℤ) → int_lt a b ≡ true → int_lt b c ≡ true → int_lt a c ≡ true
int_after (pos a) (pos b) (pos c) g h = nat_strict.after a b c g h
int_after (pos a) (pos b) (negsuc c) g h = h
int_after (pos a) (negsuc b) c g h = absurd (false≢true g)
int_after (negsuc a) (pos b) (pos c) g h = refl
int_after (negsuc a) (pos b) (negsuc c) g h = absurd (false≢true h)
int_after (negsuc a) (negsuc b) (pos c) g h = refl
int_after (negsuc a) (negsuc b) (negsuc c) g h = nat_strict.after c b a h g

int_other : (a b : ℤ) → int_eq a b ≡ false → int_lt a b ≡ false → int_lt b a ≡ true
int_other (pos a) (pos b) e h = nat_strict.other a b e h
int_other (pos a) (negsuc b) e h = refl
int_other (negsuc a) (pos b) e h = absurd (true≢false h)
int_other (negsuc a) (negsuc b) e h = let d = eqb-false a b e in let l = ltb-false b a h in lt-ltb a b (omega arith)

pub int_strict : Strict int_eq int_lt
int_strict = record { yes_same = int_eq_yes; self = int_eq_refl; never = int_never; after = int_after; other = int_other }

pub same_index_yes : (x y : Option ℤ) → same_index x y ≡ true → x ≡ y
same_index_yes none none h = refl
same_index_yes none (some z) h = absurd (false≢true h)
same_index_yes (some y) none h = absurd (false≢true h)
same_index_yes (some y) (some z) h = ap some (int_eq_yes y z h)

pub same_index_refl : (x : Option ℤ) → same_index x x ≡ true
same_index_refl none = refl
same_index_refl (some z) = int_eq_refl z

index_never : (x : Option ℤ) → ¬ (index_before x x ≡ true)
index_never none = false≢true
index_never (some z) = int_never z

index_after : (x y z : Option ℤ) → index_before x y ≡ true → index_before y z ≡ true → index_before x z ≡ true
index_after none none z g h = absurd (false≢true g)
index_after none (some b) none g h = h
index_after none (some b) (some c) g h = refl
index_after (some a) none z g h = absurd (false≢true g)
index_after (some a) (some b) none g h = h
index_after (some a) (some b) (some c) g h = int_after a b c g h

index_other : (x y : Option ℤ) → same_index x y ≡ false → index_before x y ≡ false → index_before y x ≡ true
index_other none none e h = absurd (true≢false e)
index_other none (some b) e h = absurd (true≢false h)
index_other (some a) none e h = refl
index_other (some a) (some b) e h = int_other a b e h

pub index_strict : Strict same_index index_before
index_strict = record { yes_same = same_index_yes; self = same_index_refl; never = index_never; after = index_after; other = index_other }

-- instance outputs by instance, then index, then output
output_strict : Strict (both_same eqb (both_same same_index eqb)) (one_before eqb ltb (one_before same_index index_before ltb))
output_strict = pair_strict nat_strict (pair_strict index_strict nat_strict)

-- the test for the same node, with its three parts bracketed as the order has them
output_same : (i j : ℕ) (x y : Option ℤ) (o p : ℕ) → same_node (inst_out i x o) (inst_out j y p) ≡ both_same eqb (both_same same_index eqb) (i, (x, o)) (j, (y, p))
output_same i j x y o p = and_assoc (eqb i j) (same_index x y) (eqb o p)

pub same_node_yes : (m n : Node) → same_node m n ≡ true → m ≡ n
same_node_yes (signal m) (signal n) h = ap signal (eqb-true m n h)
same_node_yes (signal m) (inst_out j y p) h = absurd (false≢true h)
same_node_yes (inst_out i x o) (signal n) h = absurd (false≢true h)
same_node_yes (inst_out i x o) (inst_out j y p) h =
    ap (λ t. inst_out t.0 t.1.0 t.1.1) (output_strict.yes_same (i, (x, o)) (j, (y, p)) (sym (output_same i j x y o p) ∙ h))

pub same_node_refl : (n : Node) → same_node n n ≡ true
same_node_refl (signal n) = eq-eqb n n refl
same_node_refl (inst_out i x o) = output_same i i x x o o ∙ output_strict.self (i, (x, o))

node_never : (n : Node) → ¬ (node_before n n ≡ true)
node_never (signal n) = nat_strict.never n
node_never (inst_out i x o) = output_strict.never (i, (x, o))

node_after : (l m n : Node) → node_before l m ≡ true → node_before m n ≡ true → node_before l n ≡ true
node_after (signal l) (signal m) (signal n) g h = nat_strict.after l m n g h
node_after (signal l) (signal m) (inst_out j y p) g h = refl
node_after (signal l) (inst_out i x o) (signal n) g h = absurd (false≢true h)
node_after (signal l) (inst_out i x o) (inst_out j y p) g h = refl
node_after (inst_out k z q) (signal m) n g h = absurd (false≢true g)
node_after (inst_out k z q) (inst_out i x o) (signal n) g h = h
node_after (inst_out k z q) (inst_out i x o) (inst_out j y p) g h = output_strict.after (k, (z, q)) (i, (x, o)) (j, (y, p)) g h

node_other : (m n : Node) → same_node m n ≡ false → node_before m n ≡ false → node_before n m ≡ true
node_other (signal m) (signal n) e h = nat_strict.other m n e h
node_other (signal m) (inst_out j y p) e h = absurd (true≢false h)
node_other (inst_out i x o) (signal n) e h = refl
node_other (inst_out i x o) (inst_out j y p) e h = output_strict.other (i, (x, o)) (j, (y, p)) (sym (output_same i j x y o p) ∙ e) h

pub node_strict : Strict same_node node_before
node_strict = record { yes_same = same_node_yes; self = same_node_refl; never = node_never; after = node_after; other = node_other }

-- by START, then by the nodes themselves
pub ascends_strict : (hs : List Head) → Strict same_node (ascends hs)
ascends_strict hs = record {
  yes_same = same_node_yes;
  self = same_node_refl;
  never = λ n. both.never (key n);
  after = λ l m n. both.after (key l) (key m) (key n);
  other = λ m n e. both.other (key m) (key n) (apart (eqb (start_of hs m) (start_of hs n)) (same_node m n) e);
}
  where
    key : Node → ℕ × Node
    key n = (start_of hs n, n)

    both : Strict (both_same eqb same_node) (one_before eqb ltb node_before)
    both = pair_strict nat_strict node_strict

    apart : (a b : Bool) → b ≡ false → a && b ≡ false
    apart true b e = e
    apart false b e = refl

-- `among` decides membership of nodes
pub node_in : (n : Node) (l : List Node) → among same_node n l ≡ true → n ∈ l
node_in = among_yes same_node same_node_yes same_node_refl

pub node_out : (n : Node) (l : List Node) → among same_node n l ≡ false → ¬ (n ∈ l)
node_out = among_no same_node same_node_yes same_node_refl

-- the members of a list, each once: no other members, and none twice
module _ {A : Type 0} (same : A → A → Bool) (yes_same : (a b : A) → same a b ≡ true → a ≡ b) (self : (a : A) → same a a ≡ true) where
  pub each_once_in : {a : A} (l : List A) → a ∈ each_once same l → a ∈ l
  unfolding each_once
  each_once_in [] m = m
  each_once_in {a} (b ∷ l) m = go (each_once_in l) (among same b l) m
    where
      more : (a ∈ each_once same l → a ∈ l) → (a ≡ b) ⊎ (a ∈ each_once same l) → a ∈ (b ∷ l)
      more f (inl e) = Memᴰ.head e
      more f (inr m) = Memᴰ.tail (f m)

      go : (a ∈ each_once same l → a ∈ l) → (v : Bool) → a ∈ elim v as (λ _. List A) [ true ↦ each_once same l | false ↦ b ∷ each_once same l ] → a ∈ (b ∷ l)
      go f true m = Memᴰ.tail (f m)
      go f false m = more f (Memᴰ.cases_cons m)

  pub in_each_once : {a : A} (l : List A) → a ∈ l → a ∈ each_once same l
  unfolding each_once
  in_each_once {a = a} [] x' = elim x' [ ]
  in_each_once {a} (b ∷ l) (Memᴰ.head e) =
      let f = in_each_once {a = a} l in
      if_case (λ (k : List A). a ∈ k) (among same b l) _ _ (λ h. f (Memᴰ.cast e (among_yes same yes_same self b l h))) (λ h. Memᴰ.head e)
  in_each_once {a} (b ∷ l) (Memᴰ.tail m) =
      let i = in_each_once l m in
      if_case (λ (k : List A). a ∈ k) (among same b l) _ _ (λ h. i) (λ h. Memᴰ.tail i)

  pub each_once_once : (l : List A) → Once (each_once same l)
  unfolding each_once
  each_once_once [] = tt
  each_once_once (b ∷ l) =
      let i = each_once_once l in
      if_case (λ (k : List A). Once k) (among same b l) _ _ (λ h. i) (λ h. (λ m. among_no same yes_same self b l h (each_once_in l m), i))

-- ascending: each before all behind it
abbrev pub Rising : List Head → List Node → Type 0
Rising hs [] = Unit {0}
Rising hs (n ∷ ns) = ((m : Node) → m ∈ ns → ascends hs n m ≡ true) × Rising hs ns

pub rising_once : (hs : List Head) (l : List Node) → Rising hs l → Once l
rising_once hs [] r = tt
rising_once hs (n ∷ l) r = (λ m. (ascends_strict hs).never n (r.0 n m), rising_once hs l r.1)

-- so each before the next
abbrev pub Steps : List Head → List Node → Type 0
Steps hs [] = Unit {0}
Steps hs (n ∷ []) = Unit {0}
Steps hs (m ∷ n ∷ ns) = (ascends hs m n ≡ true) × Steps hs (n ∷ ns)

pub rising_steps : (hs : List Head) (l : List Node) → Rising hs l → Steps hs l
rising_steps hs [] r = tt
rising_steps hs (n ∷ []) r = tt
rising_steps hs (m ∷ n ∷ l) r = (r.0 n (Memᴰ.head refl), rising_steps hs (n ∷ l) r.1)

module _ (hs : List Head) where
  pub insert_in : {a : Node} (m : Node) (l : List Node) → a ∈ insert_node hs m l → (a ≡ m) ⊎ (a ∈ l)
  unfolding insert_node
  insert_in m [] i = Memᴰ.cases_cons i
  insert_in {a} m (n ∷ l) i = go (insert_in m l) (same_node m n) (ascends hs m n) i
    where
      later : (a ∈ insert_node hs m l → (a ≡ m) ⊎ (a ∈ l)) → (a ≡ n) ⊎ (a ∈ insert_node hs m l) → (a ≡ m) ⊎ (a ∈ (n ∷ l))
      later f (inl e) = inr (Memᴰ.head e)
      later f (inr j) = up (f j)
        where
          up : (a ≡ m) ⊎ (a ∈ l) → (a ≡ m) ⊎ (a ∈ (n ∷ l))
          up (inl e) = inl e
          up (inr k) = inr (Memᴰ.tail k)

      go : (a ∈ insert_node hs m l → (a ≡ m) ⊎ (a ∈ l)) → (v w : Bool)
          → a ∈ elim v as (λ _. List Node) [ true ↦ n ∷ l | false ↦ elim w as (λ _. List Node) [ true ↦ m ∷ n ∷ l | false ↦ n ∷ insert_node hs m l ] ]
          → (a ≡ m) ⊎ (a ∈ (n ∷ l))
      go f true w i = inr i
      go f false true i = Memᴰ.cases_cons i
      go f false false i = later f (Memᴰ.cases_cons i)

  pub insert_new : (m : Node) (l : List Node) → m ∈ insert_node hs m l
  unfolding insert_node
  insert_new m [] = Memᴰ.head refl
  insert_new m (n ∷ l) =
      let i = insert_new m l in
      if_case (λ k. m ∈ k) (same_node m n) _ _ (λ e. Memᴰ.head (same_node_yes m n e))
      (λ e. if_case (λ k. m ∈ k) (ascends hs m n) _ _ (λ h. Memᴰ.head refl) (λ h. Memᴰ.tail i))

  pub insert_old : {a : Node} (m : Node) (l : List Node) → a ∈ l → a ∈ insert_node hs m l
  unfolding insert_node
  insert_old {a = a} m [] x' = elim x' [ ]
  insert_old {a} m (n ∷ l) (Memᴰ.head d) =
      if_case (λ k. a ∈ k) (same_node m n) _ _ (λ e. Memᴰ.head d)
      (λ e. if_case (λ k. a ∈ k) (ascends hs m n) _ _ (λ h. Memᴰ.tail (Memᴰ.head d)) (λ h. Memᴰ.head d))
  insert_old {a} m (n ∷ l) (Memᴰ.tail i) =
      let j = insert_old m l i in
      if_case (λ k. a ∈ k) (same_node m n) _ _ (λ e. Memᴰ.tail i)
      (λ e. if_case (λ k. a ∈ k) (ascends hs m n) _ _ (λ h. Memᴰ.tail (Memᴰ.tail i)) (λ h. Memᴰ.tail j))

  pub insert_rising : (m : Node) (l : List Node) → Rising hs l → Rising hs (insert_node hs m l)
  unfolding insert_node
  insert_rising m [] r = (λ a i. absurd (Memᴰ.not-nil i), tt)
  insert_rising m (n ∷ l) r =
      let i = insert_rising m l r.1 in
      if_case (λ k. Rising hs k) (same_node m n) _ _ (λ e. r)
      (λ e. if_case (λ k. Rising hs k) (ascends hs m n) _ _
      (λ h. (λ a j. above h a (Memᴰ.cases_cons j), r))
      (λ h. (λ a j. below e h a (insert_in m l j), i)))
    where
      above : ascends hs m n ≡ true → (a : Node) → (a ≡ n) ⊎ (a ∈ l) → ascends hs m a ≡ true
      above h a (inl e) = rw e h
      above h a (inr j) = (ascends_strict hs).after m n a h (r.0 a j)

      below : same_node m n ≡ false → ascends hs m n ≡ false → (a : Node) → (a ≡ m) ⊎ (a ∈ l) → ascends hs n a ≡ true
      below e h a (inl d) = rw d ((ascends_strict hs).other m n e h)
      below e h a (inr j) = r.0 a j

  pub ascending_in : {a : Node} (l : List Node) → a ∈ ascending hs l → a ∈ l
  unfolding ascending
  ascending_in [] i = i
  ascending_in {a} (n ∷ l) i = go (ascending_in l) (insert_in n (ascending hs l) i)
    where
      go : (a ∈ ascending hs l → a ∈ l) → (a ≡ n) ⊎ (a ∈ ascending hs l) → a ∈ (n ∷ l)
      go f (inl e) = Memᴰ.head e
      go f (inr j) = Memᴰ.tail (f j)

  pub in_ascending : {a : Node} (l : List Node) → a ∈ l → a ∈ ascending hs l
  unfolding ascending
  in_ascending {a = a} [] x' = elim x' [ ]
  in_ascending (n ∷ l) (Memᴰ.head e) = Memᴰ.cast e (insert_new n (ascending hs l))
  in_ascending (n ∷ l) (Memᴰ.tail i) = insert_old n (ascending hs l) (in_ascending l i)

  pub ascending_rising : (l : List Node) → Rising hs (ascending hs l)
  unfolding ascending
  ascending_rising [] = tt
  ascending_rising (n ∷ l) = insert_rising n (ascending hs l) (ascending_rising l)

  pub ascending_once : (l : List Node) → Once (ascending hs l)
  ascending_once l = rising_once hs (ascending hs l) (ascending_rising l)

-- what a node reads: what some line that heads it reads
pub read_by : {x : Node} (hs : List Head) (n : Node) → x ∈ all_reads hs n → (h : Head) × (h ∈ hs) × (h.node ≡ n) × (x ∈ h.reads)
unfolding all_reads
read_by [] n i = absurd (Memᴰ.not-nil i)
read_by {x} (h ∷ hs) n i = go (read_by hs n) (same_node n h.node) refl i
  where
    Reader : List Head → Type 0
    Reader l = (g : Head) × (g ∈ l) × (g.node ≡ n) × (x ∈ g.reads)

    later : Reader hs → Reader (h ∷ hs)
    later (g, j, e, k) = (g, Memᴰ.tail j, e, k)

    here : (x ∈ all_reads hs n → Reader hs) → same_node n h.node ≡ true → (x ∈ h.reads) ⊎ (x ∈ all_reads hs n) → Reader (h ∷ hs)
    here f e (inl j) = (h, Memᴰ.head refl, sym (same_node_yes n h.node e), j)
    here f e (inr j) = later (f j)

    go : (x ∈ all_reads hs n → Reader hs) → (v : Bool) → same_node n h.node ≡ v
        → x ∈ elim v as (λ _. List Node) [ true ↦ h.reads ++ all_reads hs n | false ↦ all_reads hs n ] → Reader (h ∷ hs)
    go f true e i = here f e (Memᴰ.append_cases h.reads i)
    go f false e i = later (f i)

pub reads_all : {x : Node} {h : Head} (hs : List Head) (n : Node) → h ∈ hs → h.node ≡ n → x ∈ h.reads → x ∈ all_reads hs n
unfolding all_reads
reads_all {x = x} {h = h} [] n x4 e i = elim x4 [ ]
reads_all {x} (g ∷ hs) n (Memᴰ.head d) e i =
    if_case (λ k. x ∈ k) (same_node n g.node) _ _
    (λ v. Memᴰ.append_left (all_reads hs n) (subst (λ (z : Head). x ∈ z.reads) d i))
    (λ v. absurd (true≢false (sym (same_node_refl n) ∙ ap (same_node n) (sym e ∙ ap (λ z. z.node) d) ∙ v)))
reads_all {x} (g ∷ hs) n (Memᴰ.tail j) e i =
    let k = reads_all hs n j e i in
    if_case (λ l. x ∈ l) (same_node n g.node) _ _ (λ v. Memᴰ.append_right g.reads k) (λ v. k)

module _ (hs : List Head) (n : Node) {x : Node} where
  pub next_read : x ∈ next_nodes hs n → x ∈ all_reads hs n
  unfolding next_nodes
  next_read = ascending_in hs (all_reads hs n)

  pub read_next : x ∈ all_reads hs n → x ∈ next_nodes hs n
  unfolding next_nodes
  read_next = in_ascending hs (all_reads hs n)

  pub reads_of_read : x ∈ reads_of hs n → x ∈ all_reads hs n
  unfolding reads_of
  reads_of_read = each_once_in same_node same_node_yes same_node_refl (all_reads hs n)

  pub read_reads_of : x ∈ all_reads hs n → x ∈ reads_of hs n
  unfolding reads_of
  read_reads_of = in_each_once same_node same_node_yes same_node_refl (all_reads hs n)

  -- the same members
  pub reads_of_next : x ∈ reads_of hs n ↔ x ∈ next_nodes hs n
  reads_of_next = (λ i. read_next (reads_of_read i), λ i. read_reads_of (next_read i))

  pub next_by : x ∈ next_nodes hs n ↔ ((h : Head) × (h ∈ hs) × (h.node ≡ n) × (x ∈ h.reads))
  next_by = (λ i. read_by hs n (next_read i), λ (h, j, e, i). read_next (reads_all hs n j e i))

pub reads_of_once : (hs : List Head) (n : Node) → Once (reads_of hs n)
unfolding reads_of
reads_of_once hs n = each_once_once same_node same_node_yes same_node_refl (all_reads hs n)

pub next_once : (hs : List Head) (n : Node) → Once (next_nodes hs n)
unfolding next_nodes
next_once hs n = ascending_once hs (all_reads hs n)

pub next_rising : (hs : List Head) (n : Node) → Rising hs (next_nodes hs n)
unfolding next_nodes
next_rising hs n = ascending_rising hs (all_reads hs n)

-- heads, roots, and all nodes
pub head_in : {h : Head} (hs : List Head) → h ∈ hs → h.node ∈ head_nodes hs
unfolding head_nodes
head_in {h = h} [] x' = elim x' [ ]
head_in (g ∷ hs) (Memᴰ.head d) = Memᴰ.head (ap (λ z. z.node) d)
head_in (g ∷ hs) (Memᴰ.tail i) = Memᴰ.tail (head_in hs i)

pub head_by : {n : Node} (hs : List Head) → n ∈ head_nodes hs → (h : Head) × (h ∈ hs) × (h.node ≡ n)
unfolding head_nodes
head_by [] i = absurd (Memᴰ.not-nil i)
head_by (g ∷ hs) (Memᴰ.head e) = (g, Memᴰ.head refl, sym e)
head_by (g ∷ hs) (Memᴰ.tail i) = let (h, j, e) = head_by hs i in (h, Memᴰ.tail j, e)

-- a node that reads something is headed
pub reader_headed : {x : Node} (hs : List Head) (n : Node) → x ∈ all_reads hs n → n ∈ head_nodes hs
reader_headed hs n i = let (h, j, e, k) = read_by hs n i in Memᴰ.cast (sym e) (head_in hs j)

pub roots_headed : {n : Node} (hs : List Head) → n ∈ roots hs ↔ n ∈ head_nodes hs
unfolding roots
roots_headed hs = (ascending_in hs (head_nodes hs), in_ascending hs (head_nodes hs))

pub roots_rising : (hs : List Head) → Rising hs (roots hs)
unfolding roots
roots_rising hs = ascending_rising hs (head_nodes hs)

pub headed_all : {n : Node} (hs : List Head) → n ∈ head_nodes hs → n ∈ all_nodes hs
unfolding head_nodes all_nodes
headed_all {n = n} [] x' = elim x' [ ]
headed_all (g ∷ hs) (Memᴰ.head e) = Memᴰ.head e
headed_all (g ∷ hs) (Memᴰ.tail i) = Memᴰ.tail (Memᴰ.append_right g.reads (headed_all hs i))

pub reads_listed : {x : Node} {h : Head} (hs : List Head) → h ∈ hs → x ∈ h.reads → x ∈ all_nodes hs
unfolding all_nodes
reads_listed {x = x} {h = h} [] x3 i = elim x3 [ ]
reads_listed {x} (g ∷ hs) (Memᴰ.head d) i = Memᴰ.tail (Memᴰ.append_left (all_nodes hs) (subst (λ (z : Head). x ∈ z.reads) d i))
reads_listed (g ∷ hs) (Memᴰ.tail j) i = Memᴰ.tail (Memᴰ.append_right g.reads (reads_listed hs j i))

-- a node is headed or read
abbrev HeadedOrRead : Node → List Head → Type 0
HeadedOrRead n hs = ((h : Head) × (h ∈ hs) × (n ≡ h.node)) ⊎ ((h : Head) × (h ∈ hs) × (n ∈ h.reads))

pub of_all_nodes : (hs : List Head) (n : Node) → n ∈ all_nodes hs → HeadedOrRead n hs
unfolding all_nodes
of_all_nodes [] n i = absurd (Memᴰ.not-nil i)
of_all_nodes (h ∷ hs) n i = first (of_all_nodes hs n) (Memᴰ.cases_cons i)
  where
    more : HeadedOrRead n hs → HeadedOrRead n (h ∷ hs)
    more (inl (g, j, e)) = inl (g, Memᴰ.tail j, e)
    more (inr (g, j, u)) = inr (g, Memᴰ.tail j, u)

    second : (n ∈ all_nodes hs → HeadedOrRead n hs) → (n ∈ h.reads) ⊎ (n ∈ all_nodes hs) → HeadedOrRead n (h ∷ hs)
    second on (inl u) = inr (h, Memᴰ.head refl, u)
    second on (inr u) = more (on u)

    first : (n ∈ all_nodes hs → HeadedOrRead n hs) → (n ≡ h.node) ⊎ (n ∈ (h.reads ++ all_nodes hs)) → HeadedOrRead n (h ∷ hs)
    first on (inl e) = inl (h, Memᴰ.head refl, e)
    first on (inr u) = second on (Memᴰ.append_cases h.reads u)

pub read_all : {x : Node} (hs : List Head) (n : Node) → x ∈ all_reads hs n → x ∈ all_nodes hs
read_all hs n i = let (h, j, e, k) = read_by hs n i in reads_listed hs j k
