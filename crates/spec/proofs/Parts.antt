-- Parts: bytes that are one part of a form, how many brackets deep they are, and that a form of parts is a part that falls into them.
-- Assumes nothing.
use mathlib.Core.Path.{◌≡◌, refl, ap, sym, ◌∙◌}
use mathlib.Core.Bool.{Bool, true, false, ◌&&◌, and-true}
use mathlib.Core.List.{List, [], ◌∷◌, ◌++◌, append_assoc, append-nil}
use Prim.Native.Nat.{ℕ, suc, ◌+◌, ◌<◌, max}
use native.Mathlib.Omega.{arith}
use lib.Dec.{ltb, leb}
use lib.IntN.{ℤ, pos, negsuc}
use borrow.Author.Tests.{ne_eqb, le-leb, lt-leb, ltb-true, ltb-false, leb-true, leb-false}
use Rattle.spec.specs.Bytes.{Bytes, show_number, show_int, show_rest, show_form, onto, parts_from, parts}
use Rattle.spec.specs.Decode.{depth_limit}
use Rattle.spec.specs.Refusal.{closes, one_form}
use Rattle.spec.proofs.Numbers.{Between, between_append, between_widen, Digits, number_digits}

-- the bytes of a line: no line feed, and none that is refused
abbrev pub AllIn : Bytes → Type 0
AllIn = Between 32 126

-- the bytes of words, digits and minus: no bracket and no space
abbrev pub Word : Bytes → Type 0
Word = Between 42 126

-- bytes put before the first of some parts
unfoldable pub before : Bytes → List Bytes → List Bytes
before [] ps = ps
before (c ∷ x) ps = onto c (before x ps)

before_append : (x y : Bytes) (ps : List Bytes) → before (x ++ y) ps ≡ before x (before y ps)
unfolding before
before_append [] y ps = refl
before_append (c ∷ x) y ps = ap (onto c) (before_append x y ps)

before_empty : (x : Bytes) (ps : List Bytes) → before x ([] ∷ ps) ≡ x ∷ ps
unfolding before onto
before_empty [] ps = refl
before_empty (c ∷ x) ps = ap (onto c) (before_empty x ps)

-- One part, d brackets deep: wherever it stands it is passed over whole (brackets balance, no space stands outside them), and
-- inside a form it closes what it opens, where that is not too deep.
pub record Part (x : Bytes) (d : ℕ) : Type 0 where
  pub passed : (k : ℕ) (r : Bytes) → parts_from k (x ++ r) ≡ before x (parts_from k r)
  pub counted : (k : ℕ) (r : Bytes) → k < depth_limit → closes (suc k) (x ++ r) ≡ leb (suc k + d) depth_limit && closes (suc k) r
  pub set : AllIn x

pub data Parts : List Bytes → ℕ → Type 0 where
  none : Parts [] 0
  more : {x : Bytes} {xs : List Bytes} {a b : ℕ} → Part x a → Parts xs b → Parts (x ∷ xs) (max a b)

-- ---- words and numbers

word_passed : (w : Bytes) → Word w → (k : ℕ) (r : Bytes) → parts_from k (w ++ r) ≡ before w (parts_from k r)
unfolding parts_from before
word_passed [] p k r = refl
word_passed (c ∷ w) p k r =
    rw (ne_eqb c 40 (λ e. omega arith), ne_eqb c 41 (λ e. omega arith), ne_eqb c 32 (λ e. omega arith), parts_from)
    (ap (onto c) (word_passed w p.2 k r))

word_closes : (w : Bytes) → Word w → (k : ℕ) (r : Bytes) → closes k (w ++ r) ≡ closes k r
unfolding closes
word_closes [] p k r = refl
word_closes (c ∷ w) p k r = rw (ne_eqb c 40 (λ e. omega arith), ne_eqb c 41 (λ e. omega arith), closes) (word_closes w p.2 k r)

pub word_part : (w : Bytes) → Word w → Part w 0
word_part w p = record {
  passed = word_passed w p;
  counted = λ k r h. word_closes w p (suc k) r ∙ ap (λ (b : Bool). b && closes (suc k) r) (sym (le-leb (suc k + 0) depth_limit (omega arith)));
  set = between_widen (omega arith) (omega arith) w p;
}

digits_word : (s : Bytes) → Digits s → Word s
digits_word [] p = absurd p
digits_word (c ∷ s) p = between_widen (omega arith) (omega arith) (c ∷ s) p

pub number_part : (n : ℕ) → Part (show_number n) 0
number_part n = word_part (show_number n) (digits_word (show_number n) (number_digits n))

pub int_part : (i : ℤ) → Part (show_int i) 0
unfolding show_int
int_part (pos n) = number_part n
int_part (negsuc n) = word_part (45 ∷ show_number (suc n)) (omega arith, omega arith, digits_word (show_number (suc n)) (number_digits (suc n)))

-- ---- forms

deep_max : (k a b l : ℕ) (c : Bool) → leb (k + a) l && (leb (k + b) l && c) ≡ leb (k + max a b) l && c
deep_max k a b l c =
    if_both (leb (k + a) l) (leb (k + b) l) refl refl
  where
    if_both : (x y : Bool) → leb (k + a) l ≡ x → leb (k + b) l ≡ y → x && (y && c) ≡ leb (k + max a b) l && c
    if_both true true p q = let g = leb-true (k + a) l p in let h = leb-true (k + b) l q in rw (le-leb (k + max a b) l (omega arith))
    if_both true false p q = let h = leb-false (k + b) l q in rw (lt-leb (k + max a b) l (omega arith))
    if_both false y p q = let g = leb-false (k + a) l p in rw (lt-leb (k + max a b) l (omega arith))

-- a part x, and y behind it that ends with the bracket which closes the form
module _ {x : Bytes} {a : ℕ} (p : Part x a) (y r : Bytes) (k : ℕ) where
  join_passed : parts_from (suc k) (y ++ r) ≡ before y (parts_from k r) → parts_from (suc k) (x ++ y ++ r) ≡ before (x ++ y) (parts_from k r)
  join_passed e = rw (append_assoc x y r, p.passed (suc k) (y ++ r), e, before_append x y (parts_from k r))

  join_counted : (b : ℕ) (c : Bool) → k < depth_limit → closes (suc k) (y ++ r) ≡ leb (suc k + b) depth_limit && c → closes (suc k) (x ++ y ++ r) ≡ leb (suc k + max a b) depth_limit && c
  join_counted b c h e = rw (append_assoc x y r, p.counted k (y ++ r) h, e) (deep_max (suc k) a b depth_limit c)

rest_passed : {xs : List Bytes} {b : ℕ} → Parts xs b → (k : ℕ) (r : Bytes) → parts_from (suc k) (show_rest xs ++ r) ≡ before (show_rest xs) (parts_from k r)
unfolding show_rest parts_from before
rest_passed none k r = refl
rest_passed (more {xs} p ps) k r = ap (onto 32) (join_passed p (show_rest xs) r k (rest_passed ps k r))

rest_counted : {xs : List Bytes} {b : ℕ} → Parts xs b → (k : ℕ) (r : Bytes) → k < depth_limit → closes (suc k) (show_rest xs ++ r) ≡ leb (suc k + b) depth_limit && closes (suc k) (41 ∷ r)
unfolding show_rest closes
rest_counted none k r h = rw (le-leb (suc k + 0) depth_limit (omega arith))
rest_counted (more {xs} {b} p ps) k r h = join_counted p (show_rest xs) r k b (closes (suc k) (41 ∷ r)) h (rest_counted ps k r h)

rest_set : {xs : List Bytes} {b : ℕ} → Parts xs b → AllIn (show_rest xs)
unfolding show_rest
rest_set none = (omega arith, omega arith, tt)
rest_set (more {x} {xs} p ps) = (omega arith, omega arith, between_append 32 126 x (show_rest xs) p.set (rest_set ps))

-- the parts of a form
rest_parts : {xs : List Bytes} {b : ℕ} → Parts xs b → parts_from 0 (show_rest xs) ≡ [] ∷ xs
unfolding show_rest parts_from
rest_parts none = refl
rest_parts (more {x} {xs} p ps) = rw (p.passed 0 (show_rest xs), rest_parts ps, before_empty x xs)

module _ {w : Bytes} {xs : List Bytes} {a b : ℕ} (p : Part w a) (ps : Parts xs b) where
  pub form_parts : parts (show_form w xs) ≡ w ∷ xs
  unfolding parts show_form
  form_parts = rw (p.passed 0 (show_rest xs), rest_parts ps, before_empty w xs)

  form_counted : (k : ℕ) (r : Bytes) → k < depth_limit → closes (suc k) (show_form w xs ++ r) ≡ leb (suc k + suc (max a b)) depth_limit && closes (suc k) r
  unfolding show_form closes
  form_counted k r h = either (ltb (suc k) depth_limit) refl
    where
      either : (t : Bool) → ltb (suc k) depth_limit ≡ t → t && closes (suc (suc k)) (w ++ show_rest xs ++ r) ≡ leb (suc k + suc (max a b)) depth_limit && closes (suc k) r
      either true q =
          let l = ltb-true (suc k) depth_limit q in
          let e : suc k + suc (max a b) ≡ suc (suc k) + max a b = omega arith in
          rw e (join_counted p (show_rest xs) r (suc k) b (closes (suc k) r) l (rest_counted ps (suc k) r l))
      either false q = let l = ltb-false (suc k) depth_limit q in rw (lt-leb (suc k + suc (max a b)) depth_limit (omega arith))

  pub form_part : (d : ℕ) → suc (max a b) ≡ d → Part (show_form w xs) d
  unfolding show_form parts_from before
  form_part d e = rw (← e) (record {
    passed = λ k r. ap (onto 40) (join_passed p (show_rest xs) r k (rest_passed ps k r));
    counted = form_counted;
    set = (omega arith, omega arith, between_append 32 126 w (show_rest xs) p.set (rest_set ps));
  })

  -- a form by itself is closed by its last byte, if it is not too deep
  pub form_alone : (d : ℕ) → suc (max a b) ≡ d → one_form (show_form w xs) ≡ leb d depth_limit
  unfolding show_form one_form closes
  form_alone d e =
      let q : suc 0 + max a b ≡ d = omega arith in
      ap (closes 1) (sym (append-nil (w ++ show_rest xs)))
      ∙ join_counted p (show_rest xs) [] 0 b true (omega arith) (rest_counted ps 0 [] (omega arith))
      ∙ rw q (and-true (leb d depth_limit))
