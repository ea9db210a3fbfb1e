-- Collection: rounds taken and left add up, no item is collected more often than there are rounds, and a place names one item.
-- Assumes nothing.
use mathlib.Core.Path.{◌≡◌, refl, sym, ◌∙◌, ap, ap₂}
use mathlib.Core.Bool.{Bool, true, false, cond, true≢false, false≢true}
use mathlib.Core.Logic.{◌⊎◌, inl, inr}
use mathlib.Core.List.Memᴰ
use mathlib.Core.List.{List, [], ◌∷◌, ◌++◌, append_assoc, append-nil}
use Prim.Native.Nat.{ℕ, zero, suc, ◌+◌, ◌-◌, ◌≤◌, ◌<◌, max}
use native.Mathlib.Omega.{arith}
use lib.ListN.{length, length-append}
use lib.Dec.{eqb, ltb}
use lib.IntN.{ℤ, pos, negsuc, sub_ℕ, ◌+ℤ◌, ◌-ℤ◌, +ℤ_idr, +ℤ_assoc}
use borrow.Author.Tests.{eqb-true, eq-eqb, ne_eqb, ltb-false, lt-ltb, le-ltb}
use Rattle.spec.specs.Syntax.{Expr, name, Item, Items, port, wire, reg, mem, const, drive, on, inst, repeat, const_if, Module}
use Rattle.spec.specs.Value.{Value, known, missing, outside, Names, value_of_name, value, is_zero, int_lt, name_table}
use Rattle.spec.specs.Collect.{round_limit, Collected, Collection, then_collect, collect_none, collect_rounds, spent, repeat_rounds, collect_repeat, collect_branch, line_then, collect_inner, collect_items, collection}
use Rattle.spec.specs.Graph.{◌∈◌}
use Rattle.spec.proofs.Numbers.{if_case}
use Rattle.spec.specs.Collection.{same_at, times, left_before, rounds_below, OneCollection, OneRepeat, OneConstIf, Collecting}

-- `same_at` decides equality
pub same_at_yes : (a b : List ℕ) → same_at a b ≡ true → a ≡ b
unfolding same_at
same_at_yes [] [] h = refl
same_at_yes [] (n ∷ b) h = absurd (false≢true h)
same_at_yes (m ∷ a) [] h = absurd (false≢true h)
same_at_yes (m ∷ a) (n ∷ b) h = go (same_at_yes a b) (eqb m n) refl h
  where
    go : (same_at a b ≡ true → a ≡ b) → (v : Bool) → eqb m n ≡ v → elim v as (λ _. Bool) [ true ↦ same_at a b | false ↦ false ] ≡ true → m ∷ a ≡ n ∷ b
    go rec true e h = let p = eqb-true m n e in let q = rec h in cc
    go rec false e h = absurd (false≢true h)

pub same_at_refl : (a : List ℕ) → same_at a a ≡ true
unfolding same_at
same_at_refl [] = refl
same_at_refl (m ∷ a) = rw (eq-eqb m m refl, same_at) (same_at_refl a)

-- an item is collected no times, or some collected line is its
occurs : (a : List ℕ) (l : List Collected) → (times a l ≡ 0) ⊎ ((c : Collected) × (c ∈ l) × (a ≡ c.at))
unfolding times
occurs a [] = inl refl
occurs a (c ∷ l) = go (occurs a l) (same_at a c.at) refl
  where
    more : (times a l ≡ 0) ⊎ ((d : Collected) × (d ∈ l) × (a ≡ d.at)) → (times a l ≡ 0) ⊎ ((d : Collected) × (d ∈ (c ∷ l)) × (a ≡ d.at))
    more (inl e) = inl e
    more (inr (d, i, e)) = inr (d, Memᴰ.tail i, e)

    go : (times a l ≡ 0) ⊎ ((d : Collected) × (d ∈ l) × (a ≡ d.at)) → (v : Bool) → same_at a c.at ≡ v
        → ◌≡◌ {A = ℕ} (elim v as (λ _. ℕ) [ true ↦ suc (times a l) | false ↦ times a l ]) 0 ⊎ ((d : Collected) × (d ∈ (c ∷ l)) × (a ≡ d.at))
    go rec true e = inr (c, Memᴰ.head refl, same_at_yes a c.at e)
    go rec false e = more rec

times_append : (a : List ℕ) (l m : List Collected) → times a (l ++ m) ≡ times a l + times a m
unfolding times
times_append a [] m = omega arith
times_append a (c ∷ l) m = go (times_append a l m) (same_at a c.at)
  where
    go : times a (l ++ m) ≡ times a l + times a m → (v : Bool)
        → elim v as (λ _. ℕ) [ true ↦ suc (times a (l ++ m)) | false ↦ times a (l ++ m) ] ≡ (elim v as (λ _. ℕ) [ true ↦ suc (times a l) | false ↦ times a l ]) + times a m
    go e true = omega arith
    go e false = e

times_line : (a : List ℕ) (c : Collected) (l : List Collected) → ((times a (c ∷ l) ≡ suc (times a l)) × (a ≡ c.at)) ⊎ (times a (c ∷ l) ≡ times a l)
unfolding times
times_line a c l = go (same_at a c.at) refl
  where
    go : (v : Bool) → same_at a c.at ≡ v → ((times a (c ∷ l) ≡ suc (times a l)) × (a ≡ c.at)) ⊎ (times a (c ∷ l) ≡ times a l)
    go true e = inl (rw (e, times), same_at_yes a c.at e)
    go false e = inr (rw (e, times))

-- a stands at p or inside what stands there; inside it; inside what stands from position k on in what stands at p
abbrev Within : List ℕ → List ℕ → Type 0
Within p a = (q : List ℕ) × (a ≡ q ++ p)

abbrev Inside : List ℕ → List ℕ → Type 0
Inside p a = (j : ℕ) × Within (j ∷ p) a

abbrev From : ℕ → List ℕ → List ℕ → Type 0
From k p a = (j : ℕ) × (k ≤ j) × Within (j ∷ p) a

same_end : (q r p s : List ℕ) → length p ≡ length s → q ++ p ≡ r ++ s → p ≡ s
same_end [] [] p s h e = e
same_end [] (n ∷ r) p s h e = absurd (omega (arith, ap length e, length-append r s))
same_end (m ∷ q) [] p s h e = absurd (omega (arith, ap length e, length-append q p))
same_end (m ∷ q) (n ∷ r) p s h e = same_end q r p s h (cc)

within_one : {a p : List ℕ} {j k : ℕ} → Within (j ∷ p) a → Within (k ∷ p) a → j ≡ k
within_one {p} {j} {k} (q, e) (r, d) = let h = same_end q r (j ∷ p) (k ∷ p) refl (sym e ∙ d) in cc

within_up : {a p : List ℕ} {j : ℕ} → Within (j ∷ p) a → Within p a
within_up {p} {j} (q, e) = (q ++ (j ∷ []), e ∙ sym (append_assoc q (j ∷ []) p))

not_inside : {a p : List ℕ} → a ≡ p → ¬ Inside p a
not_inside {p} d (j, (q, e)) = omega (arith, ap length d, ap length e, length-append q (j ∷ p))

-- what holds of a collection made with the names and the rounds left: each of its lines is one of those that stand there
record Ok (stands : List ℕ → Item → Type 0) (names : Names) (left : ℕ) (c : Collection) : Type 0 where
  adds : c.taken + c.left ≡ left
  few : (a : List ℕ) → times a c.lines ≤ max 1 c.taken
  each : (d : Collected) → d ∈ c.lines → stands d.at d.item
  over : (d : Collected) → d ∈ c.lines → (opened : Names) × (d.names ≡ opened ++ names)

-- what stands in a part of a text, each at a place of its own that has P, and that the part's collections are of that
record Kept (P : List ℕ → Type 0) (f : Names → ℕ → Collection) : Type 1 where
  stands : List ℕ → Item → Type 0
  placed : (a : List ℕ) (x : Item) → stands a x → P a
  one : (a : List ℕ) (x y : Item) → stands a x → stands a y → x ≡ y
  ok : (names : Names) (left : ℕ) → Ok stands names left (f names left)

-- less asked of what stands there
ok_more : {S S' : List ℕ → Item → Type 0} {names : Names} {left : ℕ} {c : Collection}
    → ((a : List ℕ) (x : Item) → S a x → S' a x) → Ok S names left c → Ok S' names left c
ok_more f k = record { adds = k.adds; few = k.few; each = λ d i. f d.at d.item (k.each d i); over = k.over }

ok_none : (S : List ℕ → Item → Type 0) (names : Names) (left : ℕ) → Ok S names left (collect_none left)
unfolding times
ok_none S names left = record {
  adds = omega arith;
  few = λ a. omega arith;
  each = λ d i. absurd (Memᴰ.not-nil i);
  over = λ d i. absurd (Memᴰ.not-nil i);
}

kept_none : (P : List ℕ → Type 0) → Kept P (λ names left. collect_none left)
kept_none P = record {
  stands = λ a x. ⊥;
  placed = λ a x s. absurd s;
  one = λ a x y s t. absurd s;
  ok = λ names left. ok_none (λ a x. ⊥) names left;
}

-- an item itself, before what it holds
kept_line : {f : Names → ℕ → Collection} (p : List ℕ) (i : Item) → Kept (Inside p) f
    → Kept (Within p) (λ names left. line_then (record { at = p; item = i; names = names }) (f names left))
kept_line {f} p i k = record {
  stands = S;
  placed = placed;
  one = one;
  ok = λ names left. record {
    adds = (k.ok names left).adds;
    few = λ a. few names left a (times_line a _ (f names left).lines) (occurs a (f names left).lines);
    each = λ d m. each names left d (Memᴰ.cases_cons m);
    over = λ d m. over names left d (Memᴰ.cases_cons m);
  };
}
  where
    S : List ℕ → Item → Type 0
    S a x = ((a ≡ p) × (x ≡ i)) ⊎ k.stands a x

    placed : (a : List ℕ) (x : Item) → S a x → Within p a
    placed a x (inl (e, d)) = ([], e)
    placed a x (inr s) = within_up (k.placed a x s).1

    one : (a : List ℕ) (x y : Item) → S a x → S a y → x ≡ y
    one a x y (inl (e, d)) (inl (e', d')) = d ∙ sym d'
    one a x y (inl (e, d)) (inr t) = absurd (not_inside e (k.placed a y t))
    one a x y (inr s) (inl (e, d)) = absurd (not_inside e (k.placed a x s))
    one a x y (inr s) (inr t) = k.one a x y s t

    few : (names : Names) (left : ℕ) (a : List ℕ) {line : ℕ} → ((line ≡ suc (times a (f names left).lines)) × (a ≡ p)) ⊎ (line ≡ times a (f names left).lines)
        → (times a (f names left).lines ≡ 0) ⊎ ((c : Collected) × (c ∈ (f names left).lines) × (a ≡ c.at)) → line ≤ max 1 (f names left).taken
    few names left a (inl (e, d)) (inl z) = omega arith
    few names left a (inl (e, d)) (inr (c, m, h)) = absurd (not_inside (sym h ∙ d) (k.placed c.at c.item ((k.ok names left).each c m)))
    few names left a (inr e) z = omega (arith, (k.ok names left).few a)

    each : (names : Names) (left : ℕ) (d : Collected) → (d ≡ record { at = p; item = i; names = names }) ⊎ (d ∈ (f names left).lines) → S d.at d.item
    each names left d (inl e) = inl (ap (λ z. z.at) e, ap (λ z. z.item) e)
    each names left d (inr m) = inr ((k.ok names left).each d m)

    over : (names : Names) (left : ℕ) (d : Collected) → (d ≡ record { at = p; item = i; names = names }) ⊎ (d ∈ (f names left).lines) → (opened : Names) × (d.names ≡ opened ++ names)
    over names left d (inl e) = ([], ap (λ z. z.names) e)
    over names left d (inr m) = (k.ok names left).over d m

-- an item, then those behind it: they stand elsewhere
kept_then : {f g : Names → ℕ → Collection} (p : List ℕ) (n : ℕ) → Kept (Within (n ∷ p)) f → Kept (From (suc n) p) g
    → Kept (From n p) (λ names left. then_collect (f names left) (λ left'. g names left'))
kept_then {f} {g} p n k l = record {
  stands = S;
  placed = placed;
  one = one;
  ok = λ names left.
      let a = f names left in
      let b = g names a.left in
      record {
        adds = omega (arith, (k.ok names left).adds, (l.ok names a.left).adds);
        few = λ at. few names left at (occurs at a.lines) (occurs at b.lines);
        each = λ d m. each names left d (Memᴰ.append_cases a.lines m);
        over = λ d m. over names left d (Memᴰ.append_cases a.lines m);
      };
}
  where
    S : List ℕ → Item → Type 0
    S a x = k.stands a x ⊎ l.stands a x

    apart : {a : List ℕ} → Within (n ∷ p) a → From (suc n) p a → ⊥
    apart w (j, h, v) = omega (arith, within_one w v)

    placed : (a : List ℕ) (x : Item) → S a x → From n p a
    placed a x (inl s) = (n, omega arith, k.placed a x s)
    placed a x (inr s) = let (j, h, w) = l.placed a x s in (j, omega arith, w)

    one : (a : List ℕ) (x y : Item) → S a x → S a y → x ≡ y
    one a x y (inl s) (inl t) = k.one a x y s t
    one a x y (inl s) (inr t) = absurd (apart (k.placed a x s) (l.placed a y t))
    one a x y (inr s) (inl t) = absurd (apart (k.placed a y t) (l.placed a x s))
    one a x y (inr s) (inr t) = l.one a x y s t

    few : (names : Names) (left : ℕ) (a : List ℕ)
        → (times a (f names left).lines ≡ 0) ⊎ ((c : Collected) × (c ∈ (f names left).lines) × (a ≡ c.at))
        → (times a (g names (f names left).left).lines ≡ 0) ⊎ ((c : Collected) × (c ∈ (g names (f names left).left).lines) × (a ≡ c.at))
        → times a ((f names left).lines ++ (g names (f names left).left).lines) ≤ max 1 ((f names left).taken + (g names (f names left).left).taken)
    few names left a (inl e) y = omega (arith, times_append a (f names left).lines (g names (f names left).left).lines, (l.ok names (f names left).left).few a)
    few names left a (inr x) (inl e) = omega (arith, times_append a (f names left).lines (g names (f names left).left).lines, (k.ok names left).few a)
    few names left a (inr (c, i, e)) (inr (d, j, h)) =
        let v = k.placed c.at c.item ((k.ok names left).each c i) in
        let w = l.placed d.at d.item ((l.ok names (f names left).left).each d j) in
        absurd (apart (v.0, e ∙ v.1) (w.0, w.1, (w.2.0, h ∙ w.2.1)))

    each : (names : Names) (left : ℕ) (d : Collected) → (d ∈ (f names left).lines) ⊎ (d ∈ (g names (f names left).left).lines) → S d.at d.item
    each names left d (inl m) = inl ((k.ok names left).each d m)
    each names left d (inr m) = inr ((l.ok names (f names left).left).each d m)

    over : (names : Names) (left : ℕ) (d : Collected) → (d ∈ (f names left).lines) ⊎ (d ∈ (g names (f names left).left).lines) → (opened : Names) × (d.names ≡ opened ++ names)
    over names left d (inl m) = (k.ok names left).over d m
    over names left d (inr m) = (l.ok names (f names left).left).over d m

-- rounds of a body: an item of it is collected in each round at most as often as the body takes rounds, or once
module _ (S : List ℕ → Item → Type 0) (body : Names → ℕ → Collection) (ok : (names : Names) (left : ℕ) → Ok S names left (body names left)) (n : ℕ) where
  record Rounds (count : ℕ) (names : Names) (left : ℕ) (c : Collection) : Type 0 where
    adds : c.taken + c.left ≡ left
    few : (a : List ℕ) → times a c.lines ≤ count + c.taken
    each : (d : Collected) → d ∈ c.lines → S d.at d.item
    over : (d : Collected) → d ∈ c.lines → (opened : Names) × (d.names ≡ opened ++ names)

  rounds_more : {count : ℕ} {names : Names} {left : ℕ} (v : ℤ) (a b : Collection) → Ok S ((n, v) ∷ names) left a → Rounds count names a.left b
      → Rounds (suc count) names left (then_collect a (λ _. b))
  rounds_more {names} v a b k r = record {
    adds = omega (arith, k.adds, r.adds);
    few = λ at. omega (arith, times_append at a.lines b.lines, k.few at, r.few at);
    each = λ d m. each d (Memᴰ.append_cases a.lines m);
    over = λ d m. over d (Memᴰ.append_cases a.lines m);
  }
    where
      each : (d : Collected) → (d ∈ a.lines) ⊎ (d ∈ b.lines) → S d.at d.item
      each d (inl m) = k.each d m
      each d (inr m) = r.each d m

      over : (d : Collected) → (d ∈ a.lines) ⊎ (d ∈ b.lines) → (opened : Names) × (d.names ≡ opened ++ names)
      over d (inl m) = let (o, e) = k.over d m in (o ++ ((n, v) ∷ []), e ∙ sym (append_assoc o ((n, v) ∷ []) names))
      over d (inr m) = r.over d m

  rounds_ok : (count : ℕ) (v : ℤ) (names : Names) (left : ℕ) → Rounds count names left (collect_rounds body n v count names left)
  unfolding collect_rounds times
  rounds_ok zero v names left = record {
    adds = omega arith;
    few = λ a. omega arith;
    each = λ d i. absurd (Memᴰ.not-nil i);
    over = λ d i. absurd (Memᴰ.not-nil i);
  }
  rounds_ok (suc count) v names left = rounds_more v (body ((n, v) ∷ names) left) _ (ok ((n, v) ∷ names) left) (rounds_ok count (v +ℤ pos 1) names (body ((n, v) ∷ names) left).left)

  -- the rounds are spent first
  spent_ok : (count left rest : ℕ) (names : Names) (c : Collection) → Rounds count names rest c → count + rest ≡ left → Ok S names left (spent count c)
  spent_ok count left rest names c r h = record { adds = omega (arith, r.adds); few = λ a. omega (arith, r.few a); each = r.each; over = r.over }

  repeat_rounds_ok : (low difference : ℤ) (names : Names) (left : ℕ) → Ok S names left (repeat_rounds body n low difference names left)
  unfolding repeat_rounds
  repeat_rounds_ok low (negsuc d) names left = ok_none S names left
  repeat_rounds_ok low (pos rounds) names left =
      if_case (λ c. Ok S names left c) (ltb _ rounds) _ _ (λ e. ok names left)
      (λ e. let h = ltb-false _ rounds e in spent_ok rounds left _ names _ (rounds_ok rounds low names _) (omega arith))

  repeat_ok : (low high : Value) (names : Names) (left : ℕ) → Ok S names left (collect_repeat body n low high names left)
  unfolding collect_repeat
  repeat_ok (known low) (known high) names left = repeat_rounds_ok low (high -ℤ low) names left
  repeat_ok (known low) missing names left = ok names left
  repeat_ok (known low) outside names left = ok names left
  repeat_ok missing high names left = ok names left
  repeat_ok outside high names left = ok names left

kept_repeat : {body : Names → ℕ → Collection} (p : List ℕ) (n : ℕ) (low high : Expr) → Kept (From 0 p) body
    → Kept (Inside p) (λ names left. collect_repeat body n (value names low) (value names high) names left)
kept_repeat {body} p n low high k = record {
  stands = k.stands;
  placed = λ a x s. let (j, h, w) = k.placed a x s in (j, w);
  one = k.one;
  ok = λ names left. repeat_ok k.stands body k.ok n (value names low) (value names high) names left;
}

branch_ok : {S : List ℕ → Item → Type 0} {names : Names} {left : ℕ} {a b : Collection} (v : Value)
    → Ok S names left a → Ok S names left b → Ok S names left (collect_branch v a b)
unfolding collect_branch
branch_ok {S} {names} {left} (known x) k l = if_case (λ c. Ok S names left c) (is_zero x) _ _ (λ e. l) (λ e. k)
branch_ok missing k l = l
branch_ok outside k l = l

kept_branch : {f g : Names → ℕ → Collection} (p : List ℕ) (c : Expr) → Kept (From 0 (0 ∷ p)) f → Kept (From 0 (1 ∷ p)) g
    → Kept (Inside p) (λ names left. collect_branch (value names c) (f names left) (g names left))
kept_branch p c k l = record {
  stands = λ a x. k.stands a x ⊎ l.stands a x;
  placed = placed;
  one = one;
  ok = λ names left. branch_ok (value names c) (ok_more (λ a x s. inl s) (k.ok names left)) (ok_more (λ a x s. inr s) (l.ok names left));
}
  where
    placed : (a : List ℕ) (x : Item) → k.stands a x ⊎ l.stands a x → Inside p a
    placed a x (inl s) = (0, within_up (k.placed a x s).2)
    placed a x (inr s) = (1, within_up (l.placed a x s).2)

    apart : (a : List ℕ) (x y : Item) → k.stands a x → l.stands a y → ⊥
    apart a x y s t = omega (arith, within_one (placed a x (inl s)).1 (placed a y (inr t)).1)

    one : (a : List ℕ) (x y : Item) → k.stands a x ⊎ l.stands a x → k.stands a y ⊎ l.stands a y → x ≡ y
    one a x y (inl s) (inl t) = k.one a x y s t
    one a x y (inl s) (inr t) = absurd (apart a x y s t)
    one a x y (inr s) (inl t) = absurd (apart a y x t s)
    one a x y (inr s) (inr t) = l.one a x y s t

mutual
  unfolding collect_inner

  inner_kept : (i : Item) (p : List ℕ) → Kept (Inside p) (collect_inner i p)
  inner_kept (port d n w s) p = kept_none (Inside p)
  inner_kept (wire n e s) p = kept_none (Inside p)
  inner_kept (reg n s) p = kept_none (Inside p)
  inner_kept (mem n s) p = kept_none (Inside p)
  inner_kept (const n e) p = kept_none (Inside p)
  inner_kept (drive lv e) p = kept_none (Inside p)
  inner_kept (on s ss) p = kept_none (Inside p)
  inner_kept (inst i) p = kept_none (Inside p)
  inner_kept (repeat n low high is) p = kept_repeat p n low high (items_kept is p 0)
  inner_kept (const_if c is js) p = kept_branch p c (items_kept is (0 ∷ p) 0) (items_kept js (1 ∷ p) 0)

  items_kept : (is : Items) (p : List ℕ) (k : ℕ) → Kept (From k p) (collect_items is p k)
  items_kept Items.none p k = kept_none (From k p)
  items_kept (Items.more i is) p k = kept_then p k (kept_line (k ∷ p) i (inner_kept i (k ∷ p))) (items_kept is p (suc k))

one_collection : (vals : Names) (m : Module) → OneCollection vals m
unfolding collection
one_collection vals m =
    let k = items_kept m.items [] 0 in
    let o = k.ok (name_table vals m).names round_limit in
    record {
      rounds = o.adds;
      bounded = omega (arith, o.adds);
      seldom = λ a. omega (arith, o.few a, o.adds);
      named = λ c d i j e. k.one c.at c.item d.item (o.each c i) (rw e (o.each d j));
      over = o.over;
    }

-- a difference that is not above 0
abbrev Down : ℤ → Type 0
Down z = ((d : ℕ) × (z ≡ negsuc d)) ⊎ (z ≡ pos 0)

sub_down : (a b : ℕ) → a ≤ b → Down (sub_ℕ a b)
sub_down a b h = go (ltb a b)
  where
    go : (v : Bool) → Down (cond v (negsuc (b - suc a)) (pos (a - b)))
    go true = inl (b - suc a, refl)
    go false = inr (ap pos (omega arith))

not_above : (l h : ℤ) → int_lt l h ≡ false → Down (h -ℤ l)
not_above (pos zero) (pos b) e = let g = ltb-false 0 b e in inr (ap pos (omega arith))
not_above (pos (suc a)) (pos b) e = sub_down b (suc a) (ltb-false (suc a) b e)
not_above (pos zero) (negsuc b) e = sub_down 0 (suc b) (omega arith)
not_above (pos (suc a)) (negsuc b) e = inl (suc (b + a), refl)
not_above (negsuc a) (pos b) e = absurd (true≢false e)
not_above (negsuc a) (negsuc b) e = let g = ltb-false b a e in sub_down (suc a) (suc b) (omega arith)

module _ (body : Names → ℕ → Collection) (n : ℕ) (names : Names) (left : ℕ) where
  rounds_down : (low z : ℤ) → Down z → repeat_rounds body n low z names left ≡ collect_none left
  unfolding repeat_rounds collect_rounds
  rounds_down low z (inl (d, e)) = rw e
  rounds_down low z (inr e) = rw (e, le-ltb left 0 (omega arith), repeat_rounds) (ap collect_none (omega arith))

  rounds_fit : (low z : ℤ) (rounds : ℕ) → z ≡ pos rounds → rounds ≤ left → repeat_rounds body n low z names left ≡ spent rounds (collect_rounds body n low rounds names (left - rounds))
  unfolding repeat_rounds
  rounds_fit low z rounds e h = rw (e, le-ltb left rounds h, repeat_rounds)

  rounds_over : (low z : ℤ) (rounds : ℕ) → z ≡ pos rounds → left < rounds → repeat_rounds body n low z names left ≡ body names left
  unfolding repeat_rounds
  rounds_over low z rounds e h = rw (e, lt-ltb left rounds h, repeat_rounds)

  repeat_known : (v w : Value) (l h : ℤ) → v ≡ known l → w ≡ known h → collect_repeat body n v w names left ≡ repeat_rounds body n l (h -ℤ l) names left
  unfolding collect_repeat
  repeat_known v w l h e d = rw (e, d)

  repeat_once : (v w : Value) → ((l h : ℤ) → v ≡ known l → w ≡ known h → ⊥) → collect_repeat body n v w names left ≡ body names left
  unfolding collect_repeat
  repeat_once (known l) (known h) f = absurd (f l h refl refl)
  repeat_once (known l) missing f = refl
  repeat_once (known l) outside f = refl
  repeat_once missing w f = refl
  repeat_once outside w f = refl

-- ---- rounds in order

then_same : (a : Collection) (f g : ℕ → Collection) → f a.left ≡ g a.left → then_collect a f ≡ then_collect a g
then_same a f g e = ap (λ b. record { lines = a.lines ++ b.lines; left = b.left; taken = a.taken + b.taken }) e

then_assoc : (a : Collection) (f g : ℕ → Collection) → then_collect a (λ l. then_collect (f l) g) ≡ then_collect (then_collect a f) g
then_assoc a f g =
    let b = f a.left in
    let c = g b.left in
    ap₂ (λ x t. record { lines = x; left = c.left; taken = t }) (sym (append_assoc a.lines b.lines c.lines)) (omega arith)

then_none : (a : Collection) → then_collect a (λ l. collect_none l) ≡ a
then_none a = ap₂ (λ x t. record { lines = x; left = a.left; taken = t }) (append-nil a.lines) (omega arith)

none_then : (left : ℕ) (f : ℕ → Collection) → then_collect (collect_none left) f ≡ f left
none_then left f = ap (λ t. record { lines = (f left).lines; left = (f left).left; taken = t }) (omega arith)

module _ (body : Names → ℕ → Collection) (n : ℕ) (names : Names) where
  abbrev run : ℤ → ℕ → ℕ → Collection
  run v i = body ((n, v +ℤ pos i) ∷ names)

  -- one round more, at the end
  rounds_last : (count : ℕ) (v : ℤ) (left : ℕ) → collect_rounds body n v (suc count) names left ≡ then_collect (collect_rounds body n v count names left) (run v count)
  unfolding collect_rounds
  rounds_last zero v left =
      then_none (body ((n, v) ∷ names) left) ∙ ap (λ z. body ((n, z) ∷ names) left) (sym (+ℤ_idr v)) ∙ sym (none_then left (run v 0))
  rounds_last (suc count) v left =
      let a = body ((n, v) ∷ names) left in
      let e : (v +ℤ pos 1) +ℤ pos count ≡ v +ℤ pos (suc count) = +ℤ_assoc v (pos 1) (pos count) ∙ ap (λ z. v +ℤ pos z) (omega arith) in
      then_same a (collect_rounds body n (v +ℤ pos 1) (suc count) names) (λ l. then_collect (collect_rounds body n (v +ℤ pos 1) count names l) (run (v +ℤ pos 1) count)) (rounds_last count (v +ℤ pos 1) a.left)
      ∙ then_assoc a (collect_rounds body n (v +ℤ pos 1) count names) (run (v +ℤ pos 1) count)
      ∙ ap (λ z. then_collect (then_collect a (collect_rounds body n (v +ℤ pos 1) count names)) (body ((n, z) ∷ names))) e

  rounds_are : (count : ℕ) (v : ℤ) (left : ℕ) → collect_rounds body n v count names left ≡ rounds_below (run v) left count
  unfolding collect_rounds rounds_below left_before
  rounds_are zero v left = refl
  rounds_are (suc count) v left = rounds_last count v left ∙ go count (rounds_are count v left)
    where
      left_is : (c : ℕ) → (rounds_below (run v) left c).left ≡ left_before (run v) left c
      left_is zero = refl
      left_is (suc c) = refl

      go : (c : ℕ) → collect_rounds body n v c names left ≡ rounds_below (run v) left c → then_collect (collect_rounds body n v c names left) (run v c) ≡ rounds_below (run v) left (suc c)
      go c e = ap (λ b. then_collect b (run v c)) e ∙ ap (λ l. let r = run v c l in record { lines = (rounds_below (run v) left c).lines ++ r.lines; left = r.left; taken = (rounds_below (run v) left c).taken + r.taken }) (left_is c)

-- ---- the names of a list of items

beside : (is : Items) (at : List ℕ) (k : ℕ) (names : Names) (left : ℕ) (c : Collected) (j : ℕ) → c ∈ (collect_items is at k names left).lines → c.at ≡ j ∷ at → c.names ≡ names
unfolding collect_items
beside Items.none at k names left c j m e = absurd (Memᴰ.not-nil m)
beside (Items.more i is) at k names left c j m e =
    let inner = collect_inner i (k ∷ at) names left in
    first (Memᴰ.append_cases (record { at = k ∷ at; item = i; names = names } ∷ inner.lines) m) (λ h. beside is at (suc k) names inner.left c j h e)
  where
    in_first : (c ≡ record { at = k ∷ at; item = i; names = names }) ⊎ (c ∈ (collect_inner i (k ∷ at) names left).lines) → c.names ≡ names
    in_first (inl h) = ap (λ z. z.names) h
    in_first (inr h) =
        let kept = inner_kept i (k ∷ at) in
        let w = kept.placed c.at c.item ((kept.ok names left).each c h) in
        absurd (omega (arith, ap length e, ap length w.1.1, length-append w.1.0 (w.0 ∷ k ∷ at)))

    first : {rest : List Collected} → (c ∈ (record { at = k ∷ at; item = i; names = names } ∷ (collect_inner i (k ∷ at) names left).lines)) ⊎ (c ∈ rest) → (c ∈ rest → c.names ≡ names) → c.names ≡ names
    first (inl h) f = in_first (Memᴰ.cases_cons h)
    first (inr h) f = f h

own_value : (n : ℕ) (v : ℤ) (names : Names) → value ((n, v) ∷ names) (name n) ≡ known v
unfolding value value_of_name
own_value n v names = rw (eq-eqb n n refl, value_of_name)

other_values : (n k : ℕ) (v : ℤ) (names : Names) → ¬ (k ≡ n) → value ((n, v) ∷ names) (name k) ≡ value names (name k)
unfolding value value_of_name
other_values n k v names d = rw (ne_eqb n k (λ e. d (sym e)), value_of_name)

one_repeat : (n : ℕ) (low high : Expr) (is : Items) (at : List ℕ) (names : Names) (left : ℕ) → OneRepeat n low high is at names left
unfolding collect_inner
one_repeat n low high is at names left = record {
  none = λ l h e d g. both l h e d ∙ rounds_down body n names left l (h -ℤ l) (not_above l h g);
  fitting = λ l h rounds e d g f. both l h e d ∙ rounds_fit body n names left l (h -ℤ l) rounds g f ∙ ap (spent rounds) (rounds_are body n names rounds l (left - rounds));
  too_many = λ l h rounds e d g f. both l h e d ∙ rounds_over body n names left l (h -ℤ l) rounds g f;
  no_bound = repeat_once body n names left (value names low) (value names high);
}
  where
    body : Names → ℕ → Collection
    body = collect_items is at 0

    both : (l h : ℤ) → value names low ≡ known l → value names high ≡ known h
        → collect_repeat body n (value names low) (value names high) names left ≡ repeat_rounds body n l (h -ℤ l) names left
    both = repeat_known body n names left (value names low) (value names high)

branch_else : (v : Value) (a b : Collection) → ((x : ℤ) → v ≡ known x → ⊥) → collect_branch v a b ≡ b
unfolding collect_branch
branch_else (known x) a b f = absurd (f x refl)
branch_else missing a b f = refl
branch_else outside a b f = refl

one_const_if : (c : Expr) (is js : Items) (at : List ℕ) (names : Names) (left : ℕ) → OneConstIf c is js at names left
unfolding collect_inner collect_branch
one_const_if c is js at names left = record {
  then_part = λ x e d. rw (e, d, collect_inner, collect_branch);
  else_part = λ x e d. rw (e, d, collect_inner, collect_branch);
  no_value = branch_else (value names c) (collect_items is (0 ∷ at) 0 names left) (collect_items js (1 ∷ at) 0 names left);
}

-- The theorem.
pub collecting : Collecting
unfolding collect_items
collecting = record {
  modules = one_collection;
  repeats = one_repeat;
  const_ifs = one_const_if;
  own_value = own_value;
  other_values = other_values;
  each_item = λ i is at k names left. refl;
  beside = beside;
}
