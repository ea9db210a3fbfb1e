-- Laws of parts: one for each way of the scan; a form falls into the pieces that the scan finds.
-- Assumes nothing.
use mathlib.Core.Path.{◌≡◌, refl, sym, ap, ap₂, ◌∙◌}
use mathlib.Core.Bool.{Bool, true, false}
use mathlib.Core.List.{List, [], ◌∷◌}
use Prim.Native.Nat.{ℕ, zero, suc, ◌+◌, ◌-◌, ◌≤◌, ◌<◌, zero-le, suc-le-suc}
use native.Mathlib.Omega.{arith}
use native.Mathlib.Numerals.{add-one, sub-one}
use lib.ListN.{length, take, drop, get_or, length-drop, drop_of_length-le, get_or-eq_default}
use lib.Seq.{take_all, drop-length, take-nil, drop-cons, drop-drop}
use lib.Dec.{eqb, ltb}
use borrow.Author.Tests.{ne_eqb, eqb-true, ltb-true, ltb-false}
use Rattle.std.specs.Prelude.{Option, Some, None}
use Rattle.spec.specs.Bytes.{Bytes, onto, parts_from, parts}
use Rattle.spec.specs.Decode.{with_one, with_two, with_three}
use Rattle.spec.proofs.Numbers.{if_case}
use Rattle.lines.specs.Parts.{scan, part_end, piece, follows, next_end, four_or_more, three_or_more, two_or_more, one_or_more, operands_of, to_single, to_pair, to_triple, single_of, pair_of, triple_of}
use Rattle.lines.specs.declared.parts.Operands.{Operands}
use Rattle.lines.specs.declared.parts.Operands.TheVariants.{Zero, One, Two, Three, Four, More}

-- ---- bytes and suffixes
pub past_end : (s : Bytes) (i : ℕ) → length s ≤ i → 0 ≡ get_or s i 0
past_end s i h = sym (get_or-eq_default s 0 h)

pub rest_in : (s : Bytes) (k : ℕ) → take (length s - k) (drop k s) ≡ drop k s
rest_in s k = take_all (length s - k) (drop k s) (simp length-drop (omega arith))

pub rest_over : (s : Bytes) (k : ℕ) → length s < k → take (length s - length s) (drop (length s) s) ≡ drop k s
rest_over s k h = let z : length s ≤ k = omega arith in rw (drop-length, drop_of_length-le s z, take-nil)

-- a piece of a slice, by where it ends
module _ (s : Bytes) (b e : ℕ) where
  pub piece_over : length s ≤ b → take (length s - length s) (drop (length s) s) ≡ piece s b e
  unfolding piece
  piece_over h = let z : length s ≤ b + 1 = omega arith in rw (drop-length, drop_of_length-le s z, take-nil, take-nil)

  pub piece_rest : length s < e → take (length s - (b + 1)) (drop (b + 1) s) ≡ piece s b e
  unfolding piece
  piece_rest h = rest_in s (b + 1) ∙ sym (take_all (e - (b + 1)) (drop (b + 1) s) (simp length-drop (omega arith)))

  pub piece_none : e < b + 1 → take (length s - length s) (drop (length s) s) ≡ piece s b e
  unfolding piece
  piece_none h = let z : e - (b + 1) ≡ 0 = omega arith in rw (drop-length, take-nil, z)

  pub piece_in : take (e - (b + 1)) (drop (b + 1) s) ≡ piece s b e
  unfolding piece
  piece_in = refl

-- ---- the scan, one law for each way of `part_end`
module _ (s : Bytes) (i : ℕ) (h : i < length s) where
  pub scan_open : (k : ℕ) → get_or s i 0 ≡ 40 → scan k (drop i s) ≡ suc (scan (k + 1) (drop (i + 1) s))
  unfolding scan
  scan_open k e = rw (drop-cons s i 0 h, e, add-one, add-one)

  pub scan_close_out : (k : ℕ) → get_or s i 0 ≡ 41 → k ≡ 0 → scan k (drop i s) ≡ 0
  unfolding scan
  scan_close_out k e z = rw (drop-cons s i 0 h, e, z)

  pub scan_close_in : (k : ℕ) → get_or s i 0 ≡ 41 → (k ≡ 0 → ⊥) → scan k (drop i s) ≡ suc (scan (k - 1) (drop (i + 1) s))
  unfolding scan
  scan_close_in zero e a = absurd (a refl)
  scan_close_in (suc k) e a = rw (drop-cons s i 0 h, e, add-one, sub-one)

  pub scan_space_out : (k : ℕ) → get_or s i 0 ≡ 32 → k ≡ 0 → scan k (drop i s) ≡ 0
  unfolding scan
  scan_space_out k e z = rw (drop-cons s i 0 h, e, z)

  pub scan_space_in : (k : ℕ) → get_or s i 0 ≡ 32 → (k ≡ 0 → ⊥) → scan k (drop i s) ≡ suc (scan k (drop (i + 1) s))
  unfolding scan
  scan_space_in zero e a = absurd (a refl)
  scan_space_in (suc k) e a = rw (drop-cons s i 0 h, e, add-one)

  pub scan_plain : (k : ℕ) → (get_or s i 0 ≡ 40 → ⊥) → (get_or s i 0 ≡ 41 → ⊥) → (get_or s i 0 ≡ 32 → ⊥) → scan k (drop i s) ≡ suc (scan k (drop (i + 1) s))
  unfolding scan
  scan_plain k a b d = rw (drop-cons s i 0 h, add-one, ne_eqb _ _ a, ne_eqb _ _ b, ne_eqb _ _ d, scan)

pub scan_end : (s : Bytes) (i k : ℕ) → length s ≤ i → scan k (drop i s) ≡ 0
unfolding scan
scan_end s i k h = rw (drop_of_length-le s h)

pub scan_le : (k : ℕ) (s : Bytes) → scan k s ≤ length s
unfolding scan
scan_le k [] = zero-le
scan_le k (c ∷ s) =
    if_case (λ n. n ≤ suc (length s)) (eqb c 40) _ _ (λ _. suc-le-suc (scan_le (suc k) s))
    (λ _. if_case (λ n. n ≤ suc (length s)) (eqb c 41) _ _ (λ _. shut (λ j. scan_le j s) k)
    (λ _. if_case (λ n. n ≤ suc (length s)) (eqb c 32) _ _ (λ _. gap (λ j. scan_le j s) k) (λ _. suc-le-suc (scan_le k s))))
  where
    shut : ((j : ℕ) → scan j s ≤ length s) → (k : ℕ) → elim k as (λ _. ℕ) [ zero ↦ 0 | suc j ↦ suc (scan j s) ] ≤ suc (length s)
    shut f zero = zero-le
    shut f (suc j) = suc-le-suc (f j)

    gap : ((j : ℕ) → scan j s ≤ length s) → (k : ℕ) → elim k as (λ _. ℕ) [ zero ↦ 0 | suc j ↦ suc (scan (suc j) s) ] ≤ suc (length s)
    gap f zero = zero-le
    gap f (suc j) = suc-le-suc (f (suc j))

-- the end of a part that starts inside stands inside
pub part_end_le : (s : Bytes) (at : ℕ) → at ≤ length s → part_end s at ≤ length s
part_end_le s at h = omega (arith, scan_le 0 (drop at s), length-drop at s)

-- a part follows only inside the slice
pub follows_in : (s : Bytes) (e : ℕ) → follows s e ≡ true → e < length s
follows_in s e t = go (ltb e (length s)) refl
  where
    go : (b : Bool) → ltb e (length s) ≡ b → e < length s
    go true q = ltb-true e (length s) q
    go false q = let h = ltb-false e (length s) q in absurd (omega (arith, eqb-true (get_or s e 0) 32 t, past_end s e h))

-- ---- a form falls into its parts

-- 01, The line: the parts that stand behind the byte at `before`
unfoldable pub parts_behind : Bytes → ℕ → List Bytes
parts_behind s before = parts_from 0 (drop (before + 1) s)

-- 01, The line: the parts behind the one that ends at `end`: none where no space stands there
unfoldable pub others : Bytes → ℕ → List Bytes
others s end = elim (follows s end) [ true ↦ parts_behind s end | false ↦ [] ]

-- the parts behind one that has ended: another follows a space
unfoldable pub parts_after : Bytes → List Bytes
parts_after [] = []
parts_after (c ∷ r) = elim (eqb c 32) [ true ↦ parts_from 0 r | false ↦ [] ]

unfoldable pub cut : ℕ → Bytes → List Bytes
cut n t = take n t ∷ parts_after (drop n t)

cut_onto : (c n : ℕ) (t : Bytes) → onto c (cut n t) ≡ cut (suc n) (c ∷ t)
unfolding onto cut
cut_onto c n t = refl

-- what stands first, and the parts behind it
pub parts_cut : (k : ℕ) (t : Bytes) → parts_from k t ≡ cut (scan k t) t
unfolding parts_from scan cut parts_after
parts_cut k [] = refl
parts_cut k (c ∷ t) = go (eqb c 40) (eqb c 41) (eqb c 32) k refl refl (λ j. parts_cut j t)
  where
    go : (p q r : Bool) (k : ℕ) → eqb c 41 ≡ q → eqb c 32 ≡ r → ((j : ℕ) → parts_from j t ≡ cut (scan j t) t) →
        elim p as (λ _. List Bytes) [
          | true ↦ onto c (parts_from (suc k) t)
          | false ↦ elim q as (λ _. List Bytes) [
            | true ↦ elim k as (λ _. List Bytes) [ zero ↦ [] ∷ [] | suc j ↦ onto c (parts_from j t) ]
            | false ↦ elim r as (λ _. List Bytes) [
              | true ↦ elim k as (λ _. List Bytes) [ zero ↦ [] ∷ parts_from 0 t | suc j ↦ onto c (parts_from (suc j) t) ]
              | false ↦ onto c (parts_from k t)
            ]
          ]
        ]
        ≡ cut (elim p as (λ _. ℕ) [
          | true ↦ suc (scan (suc k) t)
          | false ↦ elim q as (λ _. ℕ) [
            | true ↦ elim k as (λ _. ℕ) [ zero ↦ 0 | suc j ↦ suc (scan j t) ]
            | false ↦ elim r as (λ _. ℕ) [
              | true ↦ elim k as (λ _. ℕ) [ zero ↦ 0 | suc j ↦ suc (scan (suc j) t) ]
              | false ↦ suc (scan k t)
            ]
          ]
        ]) (c ∷ t)
    go true q r k d e f = ap (onto c) (f (suc k)) ∙ cut_onto c (scan (suc k) t) t
    go false true r zero d e f = rw (eqb-true c 41 d, parts_after)
    go false true r (suc k) d e f = ap (onto c) (f k) ∙ cut_onto c (scan k t) t
    go false false true zero d e f = rw (eqb-true c 32 e, parts_after)
    go false false true (suc k) d e f = ap (onto c) (f (suc k)) ∙ cut_onto c (scan (suc k) t) t
    go false false false k d e f = ap (onto c) (f k) ∙ cut_onto c (scan k t) t

parts_after_at : (s : Bytes) (e : ℕ) → parts_after (drop e s) ≡ others s e
unfolding parts_after others parts_behind
parts_after_at s e = go (ltb e (length s)) refl
  where
    nothing : get_or s e 0 ≡ 0 → others s e ≡ []
    nothing z = rw (z, others)

    go : (b : Bool) → ltb e (length s) ≡ b → parts_after (drop e s) ≡ others s e
    go true q = let h = ltb-true e (length s) q in ap parts_after (drop-cons s e 0 h) ∙ ap (λ (n : ℕ). elim (eqb (get_or s e 0) 32) as (λ _. List Bytes) [ true ↦ parts_from 0 (drop n s) | false ↦ [] ]) (sym (add-one e))
    go false q = let h = ltb-false e (length s) q in ap parts_after (drop_of_length-le s h) ∙ sym (nothing (get_or-eq_default s 0 h))

-- The parts behind a byte: the one up to its end, and those behind that.
pub behind_step : (s : Bytes) (b : ℕ) → parts_behind s b ≡ piece s b (next_end s b) ∷ others s (next_end s b)
unfolding parts_behind piece next_end cut
behind_step s b =
    let n = scan 0 (drop (b + 1) s) in
    parts_cut 0 (drop (b + 1) s)
    ∙ ap₂ (λ (m : ℕ) (l : List Bytes). take m (drop (b + 1) s) ∷ l)
    (let z : n ≡ b + 1 + n - (b + 1) = omega arith in z)
    (ap parts_after (drop-drop n (b + 1) s) ∙ parts_after_at s (b + 1 + n))

pub others_none : (s : Bytes) (e : ℕ) → follows s e ≡ false → others s e ≡ []
unfolding others
others_none s e f = rw (f, others)

pub others_more : (s : Bytes) (e : ℕ) → follows s e ≡ true → others s e ≡ piece s e (next_end s e) ∷ others s (next_end s e)
unfolding others
others_more s e f = rw (f, others) (behind_step s e)

pub parts_form : (s : Bytes) → (length s ≡ 0 → ⊥) → parts s ≡ piece s 0 (next_end s 0) ∷ others s (next_end s 0)
unfolding parts parts_behind
parts_form [] h = absurd (h refl)
parts_form (c ∷ s) h = behind_step (c ∷ s) 0

-- ---- operands

-- one law for each way of `behind`
module _ (s : Bytes) (e : ℕ) where
  pub found_zero : follows s e ≡ false → Zero ≡ operands_of s e
  unfolding operands_of
  found_zero f = rw (f, operands_of)

  module _ (t : follows s e ≡ true) {a : ℕ} (qa : a ≡ part_end s (e + 1)) where
    one_step : one_or_more s a ≡ operands_of s e
    unfolding operands_of next_end
    one_step = rw (t, operands_of, qa)

    pub found_one : follows s a ≡ false → One a ≡ operands_of s e
    unfolding one_or_more
    found_one f = rw (← one_step, f, one_or_more)

    module _ (ta : follows s a ≡ true) {b : ℕ} (qb : b ≡ part_end s (a + 1)) where
      two_step : two_or_more s a b ≡ operands_of s e
      unfolding one_or_more next_end
      two_step = rw (← one_step, ta, one_or_more, qb)

      pub found_two : follows s b ≡ false → Two a b ≡ operands_of s e
      unfolding two_or_more
      found_two f = rw (← two_step, f, two_or_more)

      module _ (tb : follows s b ≡ true) {c : ℕ} (qc : c ≡ part_end s (b + 1)) where
        three_step : three_or_more s a b c ≡ operands_of s e
        unfolding two_or_more next_end
        three_step = rw (← two_step, tb, two_or_more, qc)

        pub found_three : follows s c ≡ false → Three a b c ≡ operands_of s e
        unfolding three_or_more
        found_three f = rw (← three_step, f, three_or_more)

        module _ (tc : follows s c ≡ true) {d : ℕ} (qd : d ≡ part_end s (c + 1)) where
          four_step : four_or_more s a b c d ≡ operands_of s e
          unfolding three_or_more next_end
          four_step = rw (← three_step, tc, three_or_more, qd)

          pub found_four : follows s d ≡ false → Four a b c d ≡ operands_of s e
          unfolding four_or_more
          found_four f = rw (← four_step, f, four_or_more)

          pub found_more : follows s d ≡ true → More ≡ operands_of s e
          unfolding four_or_more
          found_more f = rw (← four_step, f, four_or_more)

-- what is found says what the parts are
abbrev Said : Bytes → ℕ → Operands → List Bytes → Type 0
Said s e Zero ps = ps ≡ []
Said s e (One a) ps = ps ≡ piece s e a ∷ []
Said s e (Two a b) ps = ps ≡ piece s e a ∷ piece s a b ∷ []
Said s e (Three a b c) ps = ps ≡ piece s e a ∷ piece s a b ∷ piece s b c ∷ []
Said s e (Four a b c d) ps = ps ≡ piece s e a ∷ piece s a b ∷ piece s b c ∷ piece s c d ∷ []
Said s e More ps = (w x y z v : Bytes) × (l : List Bytes) × (ps ≡ w ∷ x ∷ y ∷ z ∷ v ∷ l)

module _ (s : Bytes) (e : ℕ) (ps : List Bytes) where
  said_four : (a b c d : ℕ) → ps ≡ piece s e a ∷ piece s a b ∷ piece s b c ∷ piece s c d ∷ others s d → Said s e (four_or_more s a b c d) ps
  unfolding four_or_more
  said_four a b c d p =
      if_case (λ o. Said s e o ps) (follows s d) _ _
      (λ t. (_, _, _, _, _, _, rw (others_more s d t) at p))
      (λ f. rw (others_none s d f) at p)

  said_three : (a b c : ℕ) → ps ≡ piece s e a ∷ piece s a b ∷ piece s b c ∷ others s c → Said s e (three_or_more s a b c) ps
  unfolding three_or_more
  said_three a b c p =
      if_case (λ o. Said s e o ps) (follows s c) _ _
      (λ t. said_four a b c (next_end s c) (rw (others_more s c t) at p))
      (λ f. rw (others_none s c f) at p)

  said_two : (a b : ℕ) → ps ≡ piece s e a ∷ piece s a b ∷ others s b → Said s e (two_or_more s a b) ps
  unfolding two_or_more
  said_two a b p =
      if_case (λ o. Said s e o ps) (follows s b) _ _
      (λ t. said_three a b (next_end s b) (rw (others_more s b t) at p))
      (λ f. rw (others_none s b f) at p)

  said_one : (a : ℕ) → ps ≡ piece s e a ∷ others s a → Said s e (one_or_more s a) ps
  unfolding one_or_more
  said_one a p =
      if_case (λ o. Said s e o ps) (follows s a) _ _
      (λ t. said_two a (next_end s a) (rw (others_more s a t) at p))
      (λ f. rw (others_none s a f) at p)

said : (s : Bytes) (e : ℕ) → Said s e (operands_of s e) (others s e)
unfolding operands_of
said s e =
    if_case (λ o. Said s e o (others s e)) (follows s e) _ _
    (λ t. said_one s e (others s e) (next_end s e) (others_more s e t))
    (λ f. others_none s e f)

-- The specification's `with_one` to `with_three`, by what was found.
module _ {A : Type 0} (z : A) (s : Bytes) (e : ℕ) where
  pub one_is : (f : Bytes → A) {r : Option ℕ} {a : ℕ} → r ≡ single_of s e → r ≡ Some a → with_one z f (others s e) ≡ f (piece s e a)
  unfolding single_of
  one_is f {r} {a} q p = go (operands_of s e) (others s e) (said s e) (sym q ∙ p)
    where
      go : (o : Operands) (ps : List Bytes) → Said s e o ps → to_single o ≡ Some a → with_one z f ps ≡ f (piece s e a)
      go Zero ps y x = absurd (let t : ◌≡◌ {A = ℕ} 0 1 = cc in omega arith)
      go (One k) ps y x = let aa : k ≡ a = cc in rw (y, aa)
      go (Two k l) ps y x = absurd (let t : ◌≡◌ {A = ℕ} 0 1 = cc in omega arith)
      go (Three k l m) ps y x = absurd (let t : ◌≡◌ {A = ℕ} 0 1 = cc in omega arith)
      go (Four k l m n) ps y x = absurd (let t : ◌≡◌ {A = ℕ} 0 1 = cc in omega arith)
      go More ps y x = absurd (let t : ◌≡◌ {A = ℕ} 0 1 = cc in omega arith)

  pub one_not : (f : Bytes → A) {r : Option ℕ} → r ≡ single_of s e → r ≡ None → with_one z f (others s e) ≡ z
  unfolding single_of
  one_not f {r} q p = go (operands_of s e) (others s e) (said s e) (sym q ∙ p)
    where
      go : (o : Operands) (ps : List Bytes) → Said s e o ps → to_single o ≡ None → with_one z f ps ≡ z
      go Zero ps y x = rw (y)
      go (One a) ps y x = absurd (let t : ◌≡◌ {A = ℕ} 0 1 = cc in omega arith)
      go (Two a b) ps y x = rw (y)
      go (Three a b c) ps y x = rw (y)
      go (Four a b c d) ps y x = rw (y)
      go More ps y x = rw y.6

  pub two_is : (f : Bytes → Bytes → A) {r : Option (ℕ × ℕ)} {a b : ℕ} → r ≡ pair_of s e → r ≡ Some (a, b) → with_two z f (others s e) ≡ f (piece s e a) (piece s a b)
  unfolding pair_of
  two_is f {r} {a} {b} q p = go (operands_of s e) (others s e) (said s e) (sym q ∙ p)
    where
      go : (o : Operands) (ps : List Bytes) → Said s e o ps → to_pair o ≡ Some (a, b) → with_two z f ps ≡ f (piece s e a) (piece s a b)
      go Zero ps y x = absurd (let t : ◌≡◌ {A = ℕ} 0 1 = cc in omega arith)
      go (One k) ps y x = absurd (let t : ◌≡◌ {A = ℕ} 0 1 = cc in omega arith)
      go (Two k l) ps y x = let e : ◌≡◌ {A = ℕ × ℕ} (k, l) (a, b) = cc in rw (y, ap (λ z. z.0) e, ap (λ z. z.1) e)
      go (Three k l m) ps y x = absurd (let t : ◌≡◌ {A = ℕ} 0 1 = cc in omega arith)
      go (Four k l m n) ps y x = absurd (let t : ◌≡◌ {A = ℕ} 0 1 = cc in omega arith)
      go More ps y x = absurd (let t : ◌≡◌ {A = ℕ} 0 1 = cc in omega arith)

  pub two_not : (f : Bytes → Bytes → A) {r : Option (ℕ × ℕ)} → r ≡ pair_of s e → r ≡ None → with_two z f (others s e) ≡ z
  unfolding pair_of
  two_not f {r} q p = go (operands_of s e) (others s e) (said s e) (sym q ∙ p)
    where
      go : (o : Operands) (ps : List Bytes) → Said s e o ps → to_pair o ≡ None → with_two z f ps ≡ z
      go Zero ps y x = rw (y)
      go (One a) ps y x = rw (y)
      go (Two a b) ps y x = absurd (let t : ◌≡◌ {A = ℕ} 0 1 = cc in omega arith)
      go (Three a b c) ps y x = rw (y)
      go (Four a b c d) ps y x = rw (y)
      go More ps y x = rw y.6

  pub three_is : (f : Bytes → Bytes → Bytes → A) {r : Option (ℕ × ℕ × ℕ)} {a b c : ℕ} → r ≡ triple_of s e → r ≡ Some (a, b, c) → with_three z f (others s e) ≡ f (piece s e a) (piece s a b) (piece s b c)
  unfolding triple_of
  three_is f {r} {a} {b} {c} q p = go (operands_of s e) (others s e) (said s e) (sym q ∙ p)
    where
      go : (o : Operands) (ps : List Bytes) → Said s e o ps → to_triple o ≡ Some (a, b, c) → with_three z f ps ≡ f (piece s e a) (piece s a b) (piece s b c)
      go Zero ps y x = absurd (let t : ◌≡◌ {A = ℕ} 0 1 = cc in omega arith)
      go (One k) ps y x = absurd (let t : ◌≡◌ {A = ℕ} 0 1 = cc in omega arith)
      go (Two k l) ps y x = absurd (let t : ◌≡◌ {A = ℕ} 0 1 = cc in omega arith)
      go (Three k l m) ps y x = let e : ◌≡◌ {A = ℕ × ℕ × ℕ} (k, l, m) (a, b, c) = cc in rw (y, ap (λ z. z.0) e, ap (λ z. z.1) e, ap (λ z. z.2) e)
      go (Four k l m n) ps y x = absurd (let t : ◌≡◌ {A = ℕ} 0 1 = cc in omega arith)
      go More ps y x = absurd (let t : ◌≡◌ {A = ℕ} 0 1 = cc in omega arith)

  pub three_not : (f : Bytes → Bytes → Bytes → A) {r : Option (ℕ × ℕ × ℕ)} → r ≡ triple_of s e → r ≡ None → with_three z f (others s e) ≡ z
  unfolding triple_of
  three_not f {r} q p = go (operands_of s e) (others s e) (said s e) (sym q ∙ p)
    where
      go : (o : Operands) (ps : List Bytes) → Said s e o ps → to_triple o ≡ None → with_three z f ps ≡ z
      go Zero ps y x = rw (y)
      go (One a) ps y x = rw (y)
      go (Two a b) ps y x = rw (y)
      go (Three a b c) ps y x = absurd (let t : ◌≡◌ {A = ℕ} 0 1 = cc in omega arith)
      go (Four a b c d) ps y x = rw (y)
      go More ps y x = rw y.6

-- another number of parts than is asked for
pub other_single : (o : Operands) → ((a : ℕ) → o ≡ One a → ⊥) → None ≡ to_single o
other_single Zero f = refl
other_single (One a) f = absurd (f a refl)
other_single (Two a b) f = refl
other_single (Three a b c) f = refl
other_single (Four a b c d) f = refl
other_single More f = refl

pub other_pair : (o : Operands) → ((a b : ℕ) → o ≡ Two a b → ⊥) → None ≡ to_pair o
other_pair Zero f = refl
other_pair (One a) f = refl
other_pair (Two a b) f = absurd (f a b refl)
other_pair (Three a b c) f = refl
other_pair (Four a b c d) f = refl
other_pair More f = refl

pub other_triple : (o : Operands) → ((a b c : ℕ) → o ≡ Three a b c → ⊥) → None ≡ to_triple o
other_triple Zero f = refl
other_triple (One a) f = refl
other_triple (Two a b) f = refl
other_triple (Three a b c) f = absurd (f a b c refl)
other_triple (Four a b c d) f = refl
other_triple More f = refl
