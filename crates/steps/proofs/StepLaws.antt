-- How a `repeat` runs, by what holds the values of its bounds, and which branch a `constif` takes. One law for each way of the code, and what
-- the answers mean on what shows an item.
-- Assumes nothing.
use mathlib.Core.Path.{◌≡◌, refl, sym, ◌∙◌, ap, subst}
use mathlib.Core.Bool.{Bool, true, false, ◌||◌}
use Prim.Native.Nat.{ℕ, zero, suc, ◌+◌, ◌-◌, ◌≤◌, ◌<◌, min}
use native.Mathlib.Omega.{arith}
use lib.Dec.{eqb, ltb}
use lib.IntN.{ℤ, pos, negsuc, neg_ℤ, ◌+ℤ◌, ◌-ℤ◌}
use lib.ListN.{length}
use borrow.Author.Tests.{lt-ltb, le-ltb, ltb-true, ltb-false, le-leb, lt-leb, eq-eqb, ne_eqb}
use Rattle.std.specs.Prelude.{Option, Some, None, Ok, Err}
use Rattle.spec.specs.Bytes.{Bytes, number}
use Rattle.spec.specs.Syntax.{Expr, Items, repeat, const_if}
use Rattle.spec.specs.Decode.{decode_expr}
use Rattle.spec.specs.Value.{Value, known, missing, outside, Names, value, is_outside}
use Rattle.spec.proofs.Numbers.{number_show}
use Rattle.spec.proofs.Shown.{expr_shown}
use Rattle.lines.specs.Parts.{part_end, piece, next_end}
use Rattle.lines.proofs.PartLaws.{part_end_le, piece_over, piece_rest, piece_in}
use Rattle.consteval.specs.Worth.{Answer, signed, worth, biased, refused_if}
use Rattle.consteval.specs.declared.Outside.{Outside}
use Rattle.consteval.proofs.ArithLaws.{signed_low, signed_high, zero_test}
use Rattle.runs.specs.Run.{head_end, first_end, second_end, third_end, ShowsItem}
use Rattle.runs.proofs.Inside.{in_repeat, in_const_if}
use Rattle.walk.specs.Walk.{takes_then}
use Rattle.steps.specs.Steps.{Times, Chosen, end_within, body_at, Way, never, once, rounds, way_by, way, times_way, times_by, times_number, value_between, low_value, high_value, bounds_number, times_of, RoundsFit, TimesAre, run_behind, chosen_by, condition_value, condition_number, branch_of, chosen_number, BranchIs, ChosenIs}
use Rattle.steps.specs.declared.Times as T
use Rattle.steps.specs.declared.Times.TheVariants as times
use Rattle.steps.specs.declared.Run.{Run}

-- a run, by its parts
abbrev pub run : ℕ → ℕ → Run
run a b = record { before = a; end = b }

-- ---- 20, or not

pub is_refused : (b : Bool) → 20 ≡ refused_if b → b ≡ true
is_refused true e = refl
is_refused false e = absurd (omega arith)

pub not_refused : (b : Bool) → 0 ≡ refused_if b → b ≡ false
not_refused true e = absurd (omega arith)
not_refused false e = refl

-- ---- the difference of the bounds

pos_minus : (a b : ℕ) → b ≤ a → pos a +ℤ neg_ℤ (pos b) ≡ pos (a - b)
pos_minus a zero h = ap pos (let z : a + 0 ≡ a - 0 = omega arith in z)
pos_minus a (suc b) h = rw (le-ltb a (suc b) h)

pos_below : (a b : ℕ) → a < b → pos a +ℤ neg_ℤ (pos b) ≡ negsuc (b - suc a)
pos_below a zero h = absurd (omega arith)
pos_below a (suc b) h = rw (lt-ltb a (suc b) h)

neg_minus : (a b : ℕ) → negsuc a +ℤ neg_ℤ (pos b) ≡ negsuc (a + b)
neg_minus a zero = rw (lt-ltb 0 (suc a) (omega arith)) (ap negsuc (let z : suc a - 1 ≡ a + 0 = omega arith in z))
neg_minus a (suc b) = ap negsuc (let z : suc (a + b) ≡ a + suc b = omega arith in z)

minus_high : (l h : ℕ) → l ≤ h → signed h -ℤ signed l ≡ pos (h - l)
minus_high l h k = go (ltb h 2147483648) refl (ltb l 2147483648) refl
  where
    go : (p : Bool) → ltb h 2147483648 ≡ p → (q : Bool) → ltb l 2147483648 ≡ q → signed h -ℤ signed l ≡ pos (h - l)
    go true p true q =
        let u = ltb-true h 2147483648 p in
        let v = ltb-true l 2147483648 q in
        let m : suc (2147483648 - suc h) ≤ suc (2147483648 - suc l) = omega arith in
        let z : suc (2147483648 - suc l) - suc (2147483648 - suc h) ≡ h - l = omega arith in
        rw (signed_low h u, signed_low l v, le-ltb (suc (2147483648 - suc l)) (suc (2147483648 - suc h)) m) (ap pos z)
    go true p false q = let u = ltb-true h 2147483648 p in let v = ltb-false l 2147483648 q in absurd (omega arith)
    go false p true q =
        let u = ltb-false h 2147483648 p in
        let v = ltb-true l 2147483648 q in
        let z : h - 2147483648 + suc (2147483648 - suc l) ≡ h - l = omega arith in
        rw (signed_high h u, signed_low l v) (ap pos z)
    go false p false q =
        let u = ltb-false h 2147483648 p in
        let v = ltb-false l 2147483648 q in
        let z : h - 2147483648 - (l - 2147483648) ≡ h - l = omega arith in
        rw (signed_high h u, signed_high l v) (pos_minus (h - 2147483648) (l - 2147483648) (omega arith) ∙ ap pos z)

minus_low : (l h : ℕ) → h < l → signed h -ℤ signed l ≡ negsuc (l - suc h)
minus_low l h k = go (ltb h 2147483648) refl (ltb l 2147483648) refl
  where
    go : (p : Bool) → ltb h 2147483648 ≡ p → (q : Bool) → ltb l 2147483648 ≡ q → signed h -ℤ signed l ≡ negsuc (l - suc h)
    go true p true q =
        let u = ltb-true h 2147483648 p in
        let v = ltb-true l 2147483648 q in
        let m : suc (2147483648 - suc l) < suc (2147483648 - suc h) = omega arith in
        let z : suc (2147483648 - suc h) - suc (suc (2147483648 - suc l)) ≡ l - suc h = omega arith in
        rw (signed_low h u, signed_low l v, lt-ltb (suc (2147483648 - suc l)) (suc (2147483648 - suc h)) m) (ap negsuc z)
    go true p false q =
        let u = ltb-true h 2147483648 p in
        let v = ltb-false l 2147483648 q in
        rw (signed_low h u, signed_high l v) (neg_minus (2147483648 - suc h) (l - 2147483648) ∙ ap negsuc (let z : 2147483648 - suc h + (l - 2147483648) ≡ l - suc h = omega arith in z))
    go false p true q = let u = ltb-false h 2147483648 p in let v = ltb-true l 2147483648 q in absurd (omega arith)
    go false p false q =
        let u = ltb-false h 2147483648 p in
        let v = ltb-false l 2147483648 q in
        let z : l - 2147483648 - suc (h - 2147483648) ≡ l - suc h = omega arith in
        rw (signed_high h u, signed_high l v) (pos_below (h - 2147483648) (l - 2147483648) (omega arith) ∙ ap negsuc z)

-- the word that holds what a word holds
biased_signed : (l : ℕ) → biased (signed l) ≡ l
biased_signed l = go (ltb l 2147483648) refl
  where
    go : (p : Bool) → ltb l 2147483648 ≡ p → biased (signed l) ≡ l
    go true p = let u = ltb-true l 2147483648 p in let z : 2147483648 - suc (2147483648 - suc l) ≡ l = omega arith in rw (signed_low l u) z
    go false p = let u = ltb-false l 2147483648 p in let z : l - 2147483648 + 2147483648 ≡ l = omega arith in rw (signed_high l u) z

-- the number of the answer: 20 where a bound is outside INT
times_refused : (left n : ℕ) (low high : Value) → times_number (times_by left n low high) ≡ refused_if (is_outside low || is_outside high)
unfolding times_by
times_refused left n low high = go (is_outside low || is_outside high)
  where
    go : (o : Bool) → times_number (elim o as (λ _. Times) [ true ↦ Err (record {}) | false ↦ Ok (times_way n (way left low high)) ]) ≡ refused_if o
    go true = refl
    go false = refl

-- what a constant is, where it is not outside INT
pub inside : (v : Option ℕ) → is_outside (worth (Ok v)) ≡ false
inside (Some x) = refl
inside None = refl

-- ---- one law for each way of `way_of`

module _ (n left : ℕ) (a b : Answer) where
  abbrev Answers : Times → Type 0
  Answers r = (r ≡ times_by left n (worth a) (worth b)) × (RoundsFit r (worth a) × (times_number r ≡ refused_if (is_outside (worth a) || is_outside (worth b))))

  answers : (r : Times) → r ≡ times_by left n (worth a) (worth b) → RoundsFit r (worth a) → Answers r
  answers r p f = (p, (f, ap times_number p ∙ times_refused left n (worth a) (worth b)))

  -- neither bound is outside INT
  by_way : is_outside (worth a) || is_outside (worth b) ≡ false → (w : Way) → way left (worth a) (worth b) ≡ w → Ok (times_way n w) ≡ times_by left n (worth a) (worth b)
  unfolding times_by
  by_way o w q =
      sym (ap (λ (t : Bool). elim t as (λ _. Times) [ true ↦ Err (record {}) | false ↦ Ok (times_way n (way left (worth a) (worth b))) ]) o ∙ ap (λ (v : Way). Ok (times_way n v)) q)

  by_low : {z : Outside} → a ≡ Err z → Err (record {}) ≡ times_by left n (worth a) (worth b)
  unfolding times_by
  by_low e = rw (e, times_by)

  by_high : {z : Outside} → is_outside (worth a) ≡ false → b ≡ Err z → Err (record {}) ≡ times_by left n (worth a) (worth b)
  unfolding times_by
  by_high e f = rw (f, e, times_by)

  pub low_outside : {z : Outside} {r : Times} → a ≡ Err z → r ≡ Err (record {}) → Answers r
  low_outside e p = rw p (answers (Err (record {})) (by_low e) tt)

  module _ {l : ℕ} (e : a ≡ Ok (Some l)) where
    module _ {h : ℕ} (f : b ≡ Ok (Some h)) where
      by_difference : (w : Way) → way_by left (signed l) (signed h -ℤ signed l) ≡ w → way left (worth a) (worth b) ≡ w
      unfolding way
      by_difference w q = rw (e, f) q

      not_above : (c : Bool) → ltb h l ≡ c → h ≤ l → way_by left (signed l) (signed h -ℤ signed l) ≡ never
      not_above true p k = ap (way_by left (signed l)) (minus_low l h (ltb-true h l p))
      not_above false p k =
          let m = ltb-false h l p in
          ap (way_by left (signed l)) (minus_high l h m ∙ ap pos (let z : h - l ≡ 0 = omega arith in z))

      pub way_never : h ≤ l → Answers (Ok times.Never)
      way_never k = answers (Ok times.Never) (by_way (rw (e, f)) never (by_difference never (not_above (ltb h l) refl k))) tt

      above : (d : ℕ) → 0 < d → (c : Bool) → ltb left d ≡ c → way_by left (signed l) (pos d) ≡ elim c as (λ _. Way) [ true ↦ once | false ↦ rounds (signed l) d ]
      above zero k c q = absurd (omega arith)
      above (suc d) k c q = ap (λ (z : Bool). elim z as (λ _. Way) [ true ↦ once | false ↦ rounds (signed l) (suc d) ]) q

      high_way : l < h → (c : Bool) → ltb left (h - l) ≡ c → way left (worth a) (worth b) ≡ elim c as (λ _. Way) [ true ↦ once | false ↦ rounds (signed l) (h - l) ]
      high_way k c q = by_difference _ (ap (way_by left (signed l)) (minus_high l h (omega arith)) ∙ above (h - l) (omega arith) c q)

      pub way_once : l < h → left < h - l → Answers (Ok times.Once)
      way_once k m = answers (Ok times.Once) (by_way (rw (e, f)) once (high_way k true (lt-ltb left (h - l) m))) tt

      -- in rounds, if the variable is a word
      in_rounds : l < h → h - l ≤ left → (t : Bool) → ltb 4294967295 n ≡ t
          → Ok (elim t as (λ _. T.Times) [ true ↦ times.Once | false ↦ times.Rounds n (biased (signed l)) (h - l) ]) ≡ times_by left n (worth a) (worth b)
      in_rounds k m t q =
          sym (ap (λ (s : Bool). Ok (elim s as (λ _. T.Times) [ true ↦ times.Once | false ↦ times.Rounds n (biased (signed l)) (h - l) ])) q)
          ∙ by_way (rw (e, f)) (rounds (signed l) (h - l)) (high_way k false (le-ltb left (h - l) m))

      pub way_nameless : l < h → h - l ≤ left → 4294967295 < n → Answers (Ok times.Once)
      way_nameless k m o = answers (Ok times.Once) (in_rounds k m true (lt-ltb 4294967295 n o)) tt

      pub way_rounds : l < h → h - l ≤ left → n ≤ 4294967295 → h < 4294967296 → Answers (Ok (times.Rounds n l (h - l)))
      way_rounds k m o p =
          answers (Ok (times.Rounds n l (h - l))) (ap (λ (v : ℕ). Ok (times.Rounds n v (h - l))) (sym (biased_signed l)) ∙ in_rounds k m false (le-ltb 4294967295 n o)) (rw e, omega arith)

    pub high_missing : b ≡ Ok None → Answers (Ok times.Once)
    unfolding way
    high_missing f = answers (Ok times.Once) (by_way (rw (e, f)) once (rw (e, f))) tt

  pub high_outside : {z : Outside} {r : Times} → is_outside (worth a) ≡ false → b ≡ Err z → r ≡ Err (record {}) → Answers r
  high_outside e f p = rw p (answers (Err (record {})) (by_high e f) tt)

  pub low_missing : a ≡ Ok None → is_outside (worth b) ≡ false → Answers (Ok times.Once)
  unfolding way
  low_missing e f = answers (Ok times.Once) (by_way (rw (e, f)) once (rw e)) tt

-- ---- the parts of any bytes

next_more : (x : Bytes) (e : ℕ) → e < next_end x e
unfolding next_end
next_more x e = omega arith

module _ (x : Bytes) where
  pub next_within : (e : ℕ) → e < length x → part_end x (e + 1) ≡ end_within x e
  unfolding next_end
  next_within e h = let z = part_end_le x (e + 1) (omega arith) in omega arith

  pub next_over : (e : ℕ) → length x ≤ e → length x ≡ end_within x e
  next_over e h = let z = next_more x e in omega arith

  -- from an end that is cut short at the end of the bytes the next is found all the same
  next_same : (e : ℕ) {h a : ℕ} → h ≡ min e (length x) → a ≡ end_within x h → a ≡ end_within x e
  next_same e {h} {a} p q = go (ltb e (length x)) refl
    where
      go : (t : Bool) → ltb e (length x) ≡ t → a ≡ end_within x e
      go true t = let u = ltb-true e (length x) t in let z : h ≡ e = omega arith in q ∙ ap (λ (n : ℕ). end_within x n) z
      go false t = let u = ltb-false e (length x) t in let k = next_more x h in let m = next_more x e in omega arith

  -- and the part
  piece_same : (e f : ℕ) {h a : ℕ} → h ≡ min e (length x) → a ≡ min f (length x) → piece x h a ≡ piece x e f
  piece_same e f {h} {a} p q = go (ltb e (length x)) refl (ltb (length x) f) refl
    where
      go : (t : Bool) → ltb e (length x) ≡ t → (s : Bool) → ltb (length x) f ≡ s → piece x h a ≡ piece x e f
      go true t true s =
          let u = ltb-true e (length x) t in
          let v = ltb-true (length x) f s in
          let y : h ≡ e = omega arith in
          let z : a ≡ length x = omega arith in
          rw (y, z) (sym (piece_in x e (length x)) ∙ piece_rest x e f v)
      go true t false s =
          let u = ltb-true e (length x) t in
          let v = ltb-false (length x) f s in
          let y : h ≡ e = omega arith in
          let z : a ≡ f = omega arith in
          rw (y, z)
      go false t s r = let u = ltb-false e (length x) t in sym (piece_over x h a (omega arith)) ∙ piece_over x e f u

  -- ---- `branch_at`
  pub run_short : (e : ℕ) {f : ℕ} → f ≡ end_within x e → f < e + 5 → run f f ≡ run_behind x e
  run_short e q k =
      ap (λ (n : ℕ). run n n) q
      ∙ sym (ap (λ (t : Bool). elim t as (λ _. Run) [ true ↦ run (e + 5) (end_within x e) | false ↦ run (end_within x e) (end_within x e) ])
      (lt-leb (e + 5) (end_within x e) (omega arith)))

  pub run_found : (e : ℕ) {f : ℕ} → f ≡ end_within x e → e + 5 ≤ f → run (e + 5) f ≡ run_behind x e
  run_found e q k =
      ap (λ (n : ℕ). run (e + 5) n) q
      ∙ sym (ap (λ (t : Bool). elim t as (λ _. Run) [ true ↦ run (e + 5) (end_within x e) | false ↦ run (end_within x e) (end_within x e) ])
      (le-leb (e + 5) (end_within x e) (omega arith)))

  run_same : (e : ℕ) {h : ℕ} → h ≡ min e (length x) → run_behind x h ≡ run_behind x e
  run_same e {h} p = go (ltb e (length x)) refl
    where
      go : (t : Bool) → ltb e (length x) ≡ t → run_behind x h ≡ run_behind x e
      go true t = let u = ltb-true e (length x) t in let z : h ≡ e = omega arith in ap (λ (n : ℕ). run_behind x n) z
      go false t =
          let u = ltb-false e (length x) t in
          let z : h ≡ length x = omega arith in
          sym (run_short h (next_over h (omega arith)) (omega arith)) ∙ run_short e (next_over e u) (omega arith)

-- the value of an expression that stands there
value_is : (d : ℕ) (names : Names) {e : ℕ} {s t : Bytes} → e ≡ d - 1 → s ≡ t → value names (decode_expr e s) ≡ value names (decode_expr (d - 1) t)
value_is d names {s = s} p q = ap (λ (n : ℕ). value names (decode_expr n s)) p ∙ ap (λ (y : Bytes). value names (decode_expr (d - 1) y)) q

-- the number of the answer: 20 where the condition is outside INT
chosen_refused : (v : Value) (first second : Run) → chosen_number (chosen_by v first second) ≡ refused_if (is_outside v)
chosen_refused v first second = go (is_outside v)
  where
    go : (o : Bool) → chosen_number (elim o as (λ _. Chosen) [ true ↦ Err (record {}) | false ↦ Ok (elim (takes_then v) as (λ _. Run) [ true ↦ first | false ↦ second ]) ]) ≡ refused_if o
    go true = refl
    go false = refl

-- a variable that is no word is as good as the first number above the words
variable_same : (left n : ℕ) (low high : Value) → times_by left (min n 4294967296) low high ≡ times_by left n low high
unfolding times_by
variable_same left n low high =
    ap (λ (t : T.Times). elim (is_outside low || is_outside high) as (λ _. Times) [ true ↦ Err (record {}) | false ↦ Ok t ]) (go (way left low high))
  where
    go : (w : Way) → times_way (min n 4294967296) w ≡ times_way n w
    go never = refl
    go once = refl
    go (rounds z count) = pick (ltb 4294967295 n) refl
      where
        pick : (t : Bool) → ltb 4294967295 n ≡ t → times_way (min n 4294967296) (rounds z count) ≡ times_way n (rounds z count)
        pick true p =
            let u = ltb-true 4294967295 n p in
            let m : 4294967295 < min n 4294967296 = omega arith in
            rw (lt-ltb 4294967295 (min n 4294967296) m, p, times_way)
        pick false p =
            let u = ltb-false 4294967295 n p in
            let m : min n 4294967296 ≡ n = omega arith in
            ap (λ (k : ℕ). times_way k (rounds z count)) m

-- the first ends that the code finds
module _ (x : Bytes) {h a b : ℕ} (qh : h ≡ end_within x 0) (qa : a ≡ end_within x h) (qb : b ≡ end_within x a) where
  first_found : a ≡ end_within x (head_end x)
  first_found = next_same x (head_end x) qh qa

  second_found : b ≡ end_within x (first_end x)
  second_found = next_same x (first_end x) first_found qb

  -- ---- `body_at`
  pub body_found : {c : ℕ} → c ≡ end_within x b → c ≡ body_at x
  body_found qc = next_same x (second_end x) second_found qc

  -- ---- `times_of`
  module _ {c : ℕ} (qc : c ≡ end_within x b) (d left : ℕ) (names : Names) {e : ℕ} (qe : e ≡ d - 1)
      {s : Bytes} (qs : s ≡ piece x h a) {v : ℕ} (qv : v ≡ min (number s) 4294967296)
      {t : Bytes} (qt : t ≡ piece x a b) (low : Answer) (ql : worth low ≡ value names (decode_expr e t))
      {u : Bytes} (qu : u ≡ piece x b c) (high : Answer) (qg : worth high ≡ value names (decode_expr e u)) where
    pub times_found : (r : Times) → r ≡ times_by left v (worth low) (worth high) → RoundsFit r (worth low)
        → (r ≡ times_of x d names left) × (RoundsFit r (low_value x d names) × (times_number r ≡ bounds_number x d names))
    unfolding times_of
    times_found r p f =
        let zl : worth low ≡ low_value x d names = ql ∙ value_is d names qe (qt ∙ piece_same x (first_end x) (second_end x) first_found second_found) in
        let zg : worth high ≡ high_value x d names = qg ∙ value_is d names qe (qu ∙ piece_same x (second_end x) (third_end x) second_found (body_found qc)) in
        let zs : number s ≡ number (piece x (head_end x) (first_end x)) = ap number (qs ∙ piece_same x (head_end x) (first_end x) qh first_found) in
        let q : r ≡ times_of x d names left =
        p ∙ ap (λ (n : ℕ). times_by left n (worth low) (worth high)) (qv ∙ ap (λ (n : ℕ). min n 4294967296) zs)
        ∙ variable_same left (number (piece x (head_end x) (first_end x))) (worth low) (worth high)
        ∙ ap (λ (y : Value). times_by left (number (piece x (head_end x) (first_end x))) y (worth high)) zl
        ∙ ap (λ (y : Value). times_by left (number (piece x (head_end x) (first_end x))) (low_value x d names) y) zg in (
          q,
          (subst (λ (y : Value). RoundsFit r y) zl f, ap times_number q ∙ times_refused left (number (piece x (head_end x) (first_end x))) (low_value x d names) (high_value x d names)),
        )

  -- ---- one law for each way of `branch_of`
  module _ (d : ℕ) (names : Names) {e : ℕ} (qe : e ≡ d - 1) {s : Bytes} (qs : s ≡ piece x h a) (v : Answer) (qv : worth v ≡ value names (decode_expr e s)) where
    abbrev Branched : Chosen → Type 0
    Branched r = (r ≡ branch_of x d names) × (chosen_number r ≡ condition_number x d names)

    by_value : (r : Chosen) → r ≡ chosen_by (worth v) (run_behind x (first_end x)) (run_behind x (second_end x)) → Branched r
    unfolding branch_of
    by_value r p =
        let q : r ≡ branch_of x d names =
        p
        ∙ ap (λ (y : Value). chosen_by y (run_behind x (first_end x)) (run_behind x (second_end x)))
        (qv ∙ value_is d names qe (qs ∙ piece_same x (head_end x) (first_end x) qh first_found)) in
        (q, ap chosen_number q ∙ chosen_refused (condition_value x d names) _ _)

    -- `then` is taken where the value is not 0
    not_zero : {y : ℕ} {t : Bool} → v ≡ Ok (Some y) → eqb y 2147483648 ≡ t → takes_then (worth v) ≡ elim t as (λ _. Bool) [ true ↦ false | false ↦ true ]
    not_zero {y} f e = ap (λ (z : Answer). takes_then (worth z)) f ∙ ap (λ (z : Bool). elim z as (λ _. Bool) [ true ↦ false | false ↦ true ]) (zero_test y ∙ e)

    then_taken : (r : Run) → r ≡ run_behind x a → is_outside (worth v) ≡ false → takes_then (worth v) ≡ true → Branched (Ok r)
    then_taken r q f g = by_value (Ok r) (ap (λ (y : Run). Ok y) (q ∙ run_same x (first_end x) first_found) ∙ rw (f, g, chosen_by))

    else_taken : (r : Run) → r ≡ run_behind x b → is_outside (worth v) ≡ false → takes_then (worth v) ≡ false → Branched (Ok r)
    else_taken r q f g = by_value (Ok r) (ap (λ (y : Run). Ok y) (q ∙ run_same x (second_end x) second_found) ∙ rw (f, g, chosen_by))

    pub zero_else : {y : ℕ} {r : Run} → v ≡ Ok (Some y) → y ≡ 2147483648 → r ≡ run_behind x b → Branched (Ok r)
    zero_else {y} {r} f z q = else_taken r q (rw f) (not_zero f (eq-eqb y 2147483648 z))

    pub other_then : {y : ℕ} {r : Run} → v ≡ Ok (Some y) → (y ≡ 2147483648 → ⊥) → r ≡ run_behind x a → Branched (Ok r)
    other_then {y} {r} f z q = then_taken r q (rw f) (not_zero f (ne_eqb y 2147483648 z))

    pub missing_else : {r : Run} → v ≡ Ok None → r ≡ run_behind x b → Branched (Ok r)
    missing_else {r} f q = else_taken r q (rw f) (rw f)

    pub condition_outside : {z : Outside} {r : Chosen} → v ≡ Err z → r ≡ Err (record {}) → Branched r
    condition_outside f p = rw p (by_value (Err (record {})) (rw f))

-- ---- what the answers mean: a `repeat`

-- rounds begin at low, and are no more than are left
rounds_low : (left : ℕ) {y z : ℤ} {count : ℕ} (high : Value) → way left (known y) high ≡ rounds z count → (y ≡ z) × (count ≤ left)
unfolding way
rounds_low left {y} {z} {count} (known h) q = go (h -ℤ y) q
  where
    pick : (k : ℕ) (t : Bool) → ltb left (suc k) ≡ t → elim t as (λ _. Way) [ true ↦ once | false ↦ rounds y (suc k) ] ≡ rounds z count → (y ≡ z) × (count ≤ left)
    pick k true p q = let n : ◌≡◌ {A = ℕ} 0 1 = cc in absurd (omega arith)
    pick k false p q = let m = ltb-false left (suc k) p in let e : suc k ≡ count = cc in let f : y ≡ z = cc in (f, omega arith)

    go : (d : ℤ) → way_by left y d ≡ rounds z count → (y ≡ z) × (count ≤ left)
    go (negsuc d) q = let n : ◌≡◌ {A = ℕ} 0 1 = cc in absurd (omega arith)
    go (pos zero) q = let n : ◌≡◌ {A = ℕ} 0 1 = cc in absurd (omega arith)
    go (pos (suc k)) q = pick k (ltb left (suc k)) refl q
rounds_low left missing q = let n : ◌≡◌ {A = ℕ} 0 1 = cc in absurd (omega arith)
rounds_low left outside q = let n : ◌≡◌ {A = ℕ} 0 1 = cc in absurd (omega arith)

times_mean : (r : Times) (left n : ℕ) (low high : Value) → n < 4294967296 → r ≡ times_by left n low high → RoundsFit r low → TimesAre r left n low high
unfolding times_by
times_mean r left n low high small p f = go (is_outside low || is_outside high) refl (way left low high) refl p
  where
    go : (o : Bool) → is_outside low || is_outside high ≡ o → (w : Way) → way left low high ≡ w
        → r ≡ elim o as (λ _. Times) [ true ↦ Err (record {}) | false ↦ Ok (times_way n w) ] → TimesAre r left n low high
    go true e w q p = subst (λ (t : Times). TimesAre t left n low high) (sym p) (sym (ap refused_if e), tt)
    go false e never q p = subst (λ (t : Times). TimesAre t left n low high) (sym p) (sym (ap refused_if e), q)
    go false e once q p = subst (λ (t : Times). TimesAre t left n low high) (sym p) (sym (ap refused_if e), q)
    go false e (rounds z count) q p =
        let d : r ≡ Ok (times.Rounds n (biased z) count) =
        p ∙ ap (λ (t : Bool). Ok (elim t as (λ _. T.Times) [ true ↦ times.Once | false ↦ times.Rounds n (biased z) count ])) (le-ltb 4294967295 n (omega arith)) in
        let k : RoundsFit (Ok (times.Rounds n (biased z) count)) low = subst (λ (t : Times). RoundsFit t low) d f in
        let m = rounds_low left high (ap (λ (v : Value). way left v high) (sym k.0) ∙ q) in
        subst (λ (t : Times). TimesAre t left n low high) (sym d)
        (sym (ap refused_if e), (q ∙ ap (λ (y : ℤ). rounds y count) (sym m.0), refl, m.1, k.1))

-- on what shows a `repeat`, `times_of` says how it runs
pub times_are : (x : Bytes) (d : ℕ) (names : Names) (left : ℕ) (r : Times) → r ≡ times_of x d names left → RoundsFit r (value_between x (first_end x) (second_end x) d names)
    → (n : ℕ) (low high : Expr) (is : Items) → ShowsItem x d (repeat n low high is) → TimesAre r left n (value names low) (value names high)
unfolding times_of
times_are x d names left r p f n low high is q =
    let i = in_repeat x d n low high is q in
    let k = i.named in
    let zn : number (piece x (head_end x) (first_end x)) ≡ n = ap number i.name ∙ number_show n in
    let zl : value_between x (first_end x) (second_end x) d names ≡ value names low = ap (value names) (rw i.low_shown ((expr_shown low).back (d - 1) i.low_deep)) in
    let zg : value_between x (second_end x) (third_end x) d names ≡ value names high = ap (value names) (rw i.high_shown ((expr_shown high).back (d - 1) i.high_deep)) in
    times_mean r left n (value names low) (value names high) (omega arith)
    (p ∙ ap (λ (m : ℕ). times_by left m (value_between x (first_end x) (second_end x) d names) (value_between x (second_end x) (third_end x) d names)) zn
    ∙ ap (λ (y : Value). times_by left n y (value_between x (second_end x) (third_end x) d names)) zl
    ∙ ap (λ (y : Value). times_by left n (value names low) y) zg)
    (subst (λ (y : Value). RoundsFit r y) zl f)

-- and `body_at` where its body begins
pub body_is : (x : Bytes) (d n : ℕ) (low high : Expr) (is : Items) → ShowsItem x d (repeat n low high is) → body_at x ≡ third_end x
body_is x d n low high is q = let i = (in_repeat x d n low high is q).ends.3 in omega arith

-- ---- what the answers mean: a `constif`

module _ (x : Bytes) (d : ℕ) where
  run_at : (e : ℕ) → next_end x e < length x → e + 5 ≤ next_end x e → run_behind x e ≡ run (e + 5) (next_end x e)
  run_at e h k = sym (run_found x e (let z : next_end x e ≡ end_within x e = omega arith in z) k)

  chosen_mean : (v : Value) (is js : Items) {a b m n : ℕ} → BranchIs (Ok (run a b)) x d is → BranchIs (Ok (run m n)) x d js
      → ChosenIs (chosen_by v (run a b) (run m n)) x d v is js
  chosen_mean v is js {a} {b} {m} {n} p q = go v
    where
      pick : (t : Bool) → BranchIs (Ok (elim t as (λ _. Run) [ true ↦ run a b | false ↦ run m n ])) x d (elim t as (λ _. Items) [ true ↦ is | false ↦ js ])
      pick true = p
      pick false = q

      go : (v : Value) → ChosenIs (chosen_by v (run a b) (run m n)) x d v is js
      go (known z) = (refl, pick (takes_then (known z)))
      go missing = (refl, q)
      go outside = (refl, tt)

  -- on what shows a `constif`, `branch_of` says which branch it takes
  pub branch_is : (names : Names) (r : Chosen) → r ≡ branch_of x d names → (c : Expr) (is js : Items) → ShowsItem x d (const_if c is js)
      → ChosenIs r x d (value names c) is js
  unfolding branch_of
  branch_is names r p c is js q =
      let i = in_const_if x d c is js q in
      let o = i.ends in
      let zv : value_between x (head_end x) (first_end x) d names ≡ value names c = ap (value names) (rw i.shown ((expr_shown c).back (d - 1) i.deep)) in
      let l = o.2 in
      let m = o.3 in
      subst (λ (y : Chosen). ChosenIs y x d (value names c) is js)
      (sym
      (p ∙ ap (λ (y : Value). chosen_by y (run_behind x (first_end x)) (run_behind x (second_end x))) zv
      ∙ ap (λ (y : Run). chosen_by (value names c) y (run_behind x (second_end x))) (run_at (first_end x) l i.then_inside)
      ∙ ap (λ (y : Run). chosen_by (value names c) (run (first_end x + 5) (second_end x)) y) (run_at (second_end x) m i.else_inside)))
      (chosen_mean (value names c) is js (i.then_inside, omega arith, i.then_run) (i.else_inside, omega arith, i.else_run))
