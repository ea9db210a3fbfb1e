-- Laws of the definitions of specs/, one for each way through the code.
-- Assumes nothing.
use mathlib.Core.Path.{◌≡◌, refl, sym, ap, subst, ◌∙◌}
use mathlib.Core.Bool.{Bool, true, false, not, ◌&&◌, true≢false}
use mathlib.Core.Logic.{◌⊎◌, inl, inr}
use mathlib.Core.List.{List, [], ◌∷◌}
use Prim.Native.Nat.{ℕ, zero, suc, ◌+◌, ◌*◌, ◌-◌, ◌≤◌, ◌<◌}
use native.Mathlib.Omega.{arith}
use native.Mathlib.Numerals.{add-one, sub-one}
use lib.ListN.{length, drop, get_or, drop_of_length-le, get_or-eq_default}
use lib.Seq.{drop-cons}
use lib.Dec.{T, eqb, ltb}
use mir.Val.{has_key}
use types.Run.{OneOf, miss}
use borrow.Enum.Refused.{Among, opened}
use denote.Enum.Declared.{tag_of}
use denote.Enum.Bare.{sameb, same_true, same_false}
use borrow.Author.Tests.{eq-eqb, ne_eqb, lt-ltb, le-ltb, ltb-true, ltb-false, eqb-true, eqb-false}
use Rattle.std.specs.Prelude.{Option, Some, None}
use Rattle.lines.specs.Bytes.{class_of, is_digit, is_word}
use Rattle.spec.specs.Bytes.{bytes}
use Rattle.lines.specs.Parse.{lookup_key, key, word_from, word_at, more_digit, valued, digits_from, number_at, good, numbered, int_at, either, worded, shape, shift, literal, atom, parts_at, form_at, scan}
use Rattle.lines.specs.declared.parse.Word.{Word}
use Rattle.lines.specs.declared.parse.Cat.{Cat}
use Rattle.lines.specs.declared.parse.Cat.TheVariants.{X}
use Rattle.lines.specs.declared.parse.Cat.TheVariants as cats
use Rattle.lines.specs.declared.parse.Shape.{Shape}
use Rattle.lines.specs.declared.parse.Parsed.{Parsed}
use Rattle.lines.specs.contracts.bytes.Class.{the_type}
use Rattle.lines.specs.declared.bytes.Class.{Class}
use Rattle.lines.specs.declared.bytes.Class.TheVariants.{Space, Open, Close, Digit, Letter, Minus, Feed, Refused, Other}

pub past_end : (s : List ℕ) (i : ℕ) → length s ≤ i → 0 ≡ get_or s i 0
past_end s i h = sym (get_or-eq_default s 0 h)

-- a byte that is not 0 stands in the text
pub inside : (s : List ℕ) (i : ℕ) → (get_or s i 0 ≡ 0 → ⊥) → i < length s
inside s i f = go (ltb i (length s)) refl
  where
    go : (b : Bool) → ltb i (length s) ≡ b → i < length s
    go true e = ltb-true i (length s) e
    go false e = absurd (f (sym (past_end s i (ltb-false i (length s) e))))

-- none of the words of a table, as a `match` tells it
abbrev pub Out : {A : Type 0} → Type 0 → List (ℕ × A) → ℕ → Type 0
Out U [] k = U
Out U (e ∷ l) k = Out (U × (k ≡ e.0 → ⊥)) l k

pub lookup_out : {A : Type 0} (U : Type 0) (l : List (ℕ × A)) (o : A) (k : ℕ) → Out U l k → U × (o ≡ lookup_key l o k)
unfolding lookup_key
lookup_out U [] o k h = (h, refl)
lookup_out U (e ∷ l) o k h = let r = lookup_out (U × (k ≡ e.0 → ⊥)) l o k h in (r.0.0, rw (ne_eqb k e.0 r.0.1, lookup_key) r.1)

-- ---- classes

module _ (b : ℕ) where
  pub class_feed : b ≡ 10 → Feed ≡ class_of b
  unfolding class_of
  class_feed e = rw e

  pub class_space : b ≡ 32 → Space ≡ class_of b
  unfolding class_of
  class_space e = rw e

  pub class_open : b ≡ 40 → Open ≡ class_of b
  unfolding class_of
  class_open e = rw e

  pub class_close : b ≡ 41 → Close ≡ class_of b
  unfolding class_of
  class_close e = rw e

  pub class_minus : b ≡ 45 → Minus ≡ class_of b
  unfolding class_of
  class_minus e = rw e

  pub class_low : b < 32 → (b ≡ 10 → ⊥) → Refused ≡ class_of b
  unfolding class_of
  class_low h f = rw (lt-ltb b 48 (omega arith), ne_eqb b 10 f, lt-ltb b 32 h, class_of)

  pub class_mark : 32 ≤ b → b < 48 → (b ≡ 10 → ⊥) → (b ≡ 32 → ⊥) → (b ≡ 40 → ⊥) → (b ≡ 41 → ⊥) → (b ≡ 45 → ⊥) → Other ≡ class_of b
  unfolding class_of
  class_mark g h f1 f2 f3 f4 f5 =
      rw (lt-ltb b 48 h, ne_eqb b 10 f1, le-ltb b 32 g, ne_eqb b 32 f2, ne_eqb b 40 f3, ne_eqb b 41 f4, ne_eqb b 45 f5, class_of)

  pub class_digit : 48 ≤ b → b < 58 → Digit ≡ class_of b
  unfolding class_of
  class_digit g h = rw (le-ltb b 48 g, lt-ltb b 58 h, class_of)

  pub class_58 : 58 ≤ b → b < 65 → Other ≡ class_of b
  unfolding class_of
  class_58 g h = rw (le-ltb b 48 (omega arith), le-ltb b 58 g, lt-ltb b 65 h, class_of)

  pub class_capital : 65 ≤ b → b < 91 → Letter ≡ class_of b
  unfolding class_of
  class_capital g h = rw (le-ltb b 48 (omega arith), le-ltb b 58 (omega arith), le-ltb b 65 g, lt-ltb b 91 h, class_of)

  pub class_91 : 91 ≤ b → b < 97 → Other ≡ class_of b
  unfolding class_of
  class_91 g h = rw (le-ltb b 48 (omega arith), le-ltb b 58 (omega arith), le-ltb b 65 (omega arith), le-ltb b 91 g, lt-ltb b 97 h, class_of)

  pub class_letter : 97 ≤ b → b < 123 → Letter ≡ class_of b
  unfolding class_of
  class_letter g h =
      rw (le-ltb b 48 (omega arith), le-ltb b 58 (omega arith), le-ltb b 65 (omega arith), le-ltb b 91 (omega arith), le-ltb b 97 g, lt-ltb b 123 h, class_of)

  pub class_123 : 123 ≤ b → b < 127 → Other ≡ class_of b
  unfolding class_of
  class_123 g h =
      rw (le-ltb b 48 (omega arith), le-ltb b 58 (omega arith), le-ltb b 65 (omega arith), le-ltb b 91 (omega arith), le-ltb b 97 (omega arith), le-ltb b 123 g, lt-ltb b 127 h, class_of)

  pub class_127 : 127 ≤ b → Refused ≡ class_of b
  unfolding class_of
  class_127 g =
      rw (le-ltb b 48 (omega arith), le-ltb b 58 (omega arith), le-ltb b 65 (omega arith), le-ltb b 91 (omega arith), le-ltb b 97 (omega arith), le-ltb b 123 (omega arith), le-ltb b 127 g, class_of)

-- a choice by a test, taken apart
pub if_case : {A : Type 0} (P : A → Type 0) (b : Bool) (x y : A) → (b ≡ true → P x) → (b ≡ false → P y) → P (elim b as (λ _. A) [ true ↦ x | false ↦ y ])
if_case P true x y f g = f refl
if_case P false x y f g = g refl

-- what a byte of each class is
abbrev pub Says : Class → ℕ → Type 0
Says Space b = b ≡ 32
Says Open b = b ≡ 40
Says Close b = b ≡ 41
Says Digit b = (48 ≤ b) × (b < 58)
Says Letter b = ((65 ≤ b) × (b < 91)) ⊎ ((97 ≤ b) × (b < 123))
Says Minus b = b ≡ 45
Says Feed b = b ≡ 10
Says Refused b = ((b < 32) × (b ≡ 10 → ⊥)) ⊎ (127 ≤ b)
Says Other b =
    ((32 < b) × (b < 48) × (b ≡ 40 → ⊥) × (b ≡ 41 → ⊥) × (b ≡ 45 → ⊥))
    ⊎ (((58 ≤ b) × (b < 65)) ⊎ (((91 ≤ b) × (b < 97)) ⊎ ((123 ≤ b) × (b < 127))))

pub says : (b : ℕ) → Says (class_of b) b
unfolding class_of
says b =
    if_case (λ c. Says c b) (ltb b 48) _ _
    (λ h. let x = ltb-true b 48 h in if_case (λ c. Says c b) (eqb b 10) _ _ (eqb-true b 10)
    (λ f. let y = eqb-false b 10 f in if_case (λ c. Says c b) (ltb b 32) _ _ (λ g. inl (ltb-true b 32 g, y))
    (λ g. let z = ltb-false b 32 g in if_case (λ c. Says c b) (eqb b 32) _ _ (eqb-true b 32)
    (λ s. let w = eqb-false b 32 s in if_case (λ c. Says c b) (eqb b 40) _ _ (eqb-true b 40)
    (λ o. if_case (λ c. Says c b) (eqb b 41) _ _ (eqb-true b 41)
    (λ k. if_case (λ c. Says c b) (eqb b 45) _ _ (eqb-true b 45) (λ m. inl (omega arith, x, eqb-false b 40 o, eqb-false b 41 k, eqb-false b 45 m))))))))
    (λ h. let x = ltb-false b 48 h in if_case (λ c. Says c b) (ltb b 58) _ _ (λ g. (x, ltb-true b 58 g))
    (λ f. let y = ltb-false b 58 f in if_case (λ c. Says c b) (ltb b 65) _ _ (λ g. inr (inl (y, ltb-true b 65 g)))
    (λ f. let y = ltb-false b 65 f in if_case (λ c. Says c b) (ltb b 91) _ _ (λ g. inl (y, ltb-true b 91 g))
    (λ f. let y = ltb-false b 91 f in if_case (λ c. Says c b) (ltb b 97) _ _ (λ g. inr (inr (inl (y, ltb-true b 97 g))))
    (λ f. let y = ltb-false b 97 f in if_case (λ c. Says c b) (ltb b 123) _ _ (λ g. inr (y, ltb-true b 123 g))
    (λ f. let y = ltb-false b 123 f in if_case (λ c. Says c b) (ltb b 127) _ _ (λ g. inr (inr (inr (y, ltb-true b 127 g)))) (λ g. inr (ltb-false b 127 g))))))))

-- an arm of a `match` on a byte's class: what the byte is
pub class_is : (b : ℕ) (r c : Class) → r ≡ class_of b → r ≡ c → Says c b
class_is b r c q e = subst (λ (x : Class). Says x b) (sym q ∙ e) (says b)

-- its last arm, for all classes that have none: what the byte is not
module _ (ks : List ℕ) (b : ℕ) (r : Class) (q : r ≡ class_of b) (o : Among ks (tag_of the_type r)) where
  pub not_class : (c : Class) → T (not (has_key ks (tag_of the_type c))) → c ≡ class_of b → ⊥
  not_class c m e = miss ks (tag_of the_type c) m (subst (λ (x : Class). OneOf ks (tag_of the_type x)) (q ∙ sym e) (opened o))

  pub not_space : T (not (has_key ks 0)) → b ≡ 32 → ⊥
  not_space m e = not_class Space m (class_space b e)

  pub not_open : T (not (has_key ks 1)) → b ≡ 40 → ⊥
  not_open m e = not_class Open m (class_open b e)

  pub not_close : T (not (has_key ks 2)) → b ≡ 41 → ⊥
  not_close m e = not_class Close m (class_close b e)

  pub not_feed : T (not (has_key ks 6)) → b ≡ 10 → ⊥
  not_feed m e = not_class Feed m (class_feed b e)

  pub not_low : T (not (has_key ks 6)) → T (not (has_key ks 7)) → 32 ≤ b
  not_low f m = go (ltb b 32) refl
    where
      go : (x : Bool) → ltb b 32 ≡ x → 32 ≤ b
      go true e = absurd (not_class Refused m (class_low b (ltb-true b 32 e) (not_feed f)))
      go false e = ltb-false b 32 e

  pub not_high : T (not (has_key ks 7)) → b ≤ 126
  not_high m = go (ltb b 127) refl
    where
      go : (x : Bool) → ltb b 127 ≡ x → b ≤ 126
      go true e = let h = ltb-true b 127 e in omega arith
      go false e = absurd (not_class Refused m (class_127 b (ltb-false b 127 e)))

-- what a test of one byte says of the byte at a place
module _ (t : Bool) (b x k : ℕ) (q : t ≡ eqb b k) (e : b ≡ x) where
  pub byte_is : t ≡ true → x ≡ k
  byte_is f = sym e ∙ eqb-true b k (sym q ∙ f)

  pub byte_not : t ≡ false → x ≡ k → ⊥
  byte_not f z = eqb-false b k (sym q ∙ f) (e ∙ z)

-- `==` with a class of one byte only: a test of that byte
pub one_class : (b : ℕ) (r c : Class) (k : ℕ) → r ≡ class_of b → (b ≡ k → c ≡ class_of b) → (Says c b → b ≡ k) → sameb the_type r c ≡ eqb b k
one_class b r c k q f g = go (sameb the_type r c) refl
  where
    go : (x : Bool) → sameb the_type r c ≡ x → x ≡ eqb b k
    go true e = sym (eq-eqb b k (g (class_is b r c q (same_true the_type tt r c e))))
    go false e = sym (ne_eqb b k (λ z. same_false the_type r c e (q ∙ sym (f z))))

pub digit_class : (c : Class) → sameb the_type c Digit ≡ is_digit c
digit_class Space = refl
digit_class Open = refl
digit_class Close = refl
digit_class Digit = refl
digit_class Letter = refl
digit_class Minus = refl
digit_class Feed = refl
digit_class Refused = refl
digit_class Other = refl

pub no_word : (c : Class) → (Digit ≡ c → ⊥) → (Letter ≡ c → ⊥) → false ≡ is_word c
no_word Space f g = refl
no_word Open f g = refl
no_word Close f g = refl
no_word Digit f g = absurd (f refl)
no_word Letter f g = absurd (g refl)
no_word Minus f g = refl
no_word Feed f g = refl
no_word Refused f g = refl
no_word Other f g = refl

-- a digit is a byte from 48 to 57
pub digit_range : (b : ℕ) → is_digit (class_of b) ≡ true → (48 ≤ b) × (b ≤ 57)
digit_range b = go (class_of b) (says b)
  where
    go : (c : Class) → Says c b → is_digit c ≡ true → (48 ≤ b) × (b ≤ 57)
    go Space h e = absurd (true≢false (sym e))
    go Open h e = absurd (true≢false (sym e))
    go Close h e = absurd (true≢false (sym e))
    go Digit h e = (h.0, omega (arith, h.1))
    go Letter h e = absurd (true≢false (sym e))
    go Minus h e = absurd (true≢false (sym e))
    go Feed h e = absurd (true≢false (sym e))
    go Refused h e = absurd (true≢false (sym e))
    go Other h e = absurd (true≢false (sym e))

-- a byte of a word is a byte and not 0
pub word_range : (b : ℕ) → is_word (class_of b) ≡ true → (48 ≤ b) × (b ≤ 122)
word_range b = go (class_of b) (says b)
  where
    go : (c : Class) → Says c b → is_word c ≡ true → (48 ≤ b) × (b ≤ 122)
    go Space h e = absurd (true≢false (sym e))
    go Open h e = absurd (true≢false (sym e))
    go Close h e = absurd (true≢false (sym e))
    go Digit h e = (h.0, omega (arith, h.1))
    go Letter (inl h) e = (omega (arith, h.0), omega (arith, h.1))
    go Letter (inr h) e = (omega (arith, h.0), omega (arith, h.1))
    go Minus h e = absurd (true≢false (sym e))
    go Feed h e = absurd (true≢false (sym e))
    go Refused h e = absurd (true≢false (sym e))
    go Other h e = absurd (true≢false (sym e))

-- ---- words and numbers

-- a power of 256, the bound of a code
unfoldable pub cap : ℕ → ℕ
cap zero = 1
cap (suc k) = 256 * cap k

pub cap_step : (code c k : ℕ) → code < cap k → c ≤ 255 → code * 256 + c < cap (k + 1)
unfolding cap
cap_step code c k h g = rw (add-one k) (omega arith)

pub cap_below : (k : ℕ) → k < 8 → cap k ≤ 72057594037927936
unfolding cap
cap_below zero h = omega arith
cap_below (suc zero) h = omega arith
cap_below (suc (suc zero)) h = omega arith
cap_below (suc (suc (suc zero))) h = omega arith
cap_below (suc (suc (suc (suc zero)))) h = omega arith
cap_below (suc (suc (suc (suc (suc zero))))) h = omega arith
cap_below (suc (suc (suc (suc (suc (suc zero)))))) h = omega arith
cap_below (suc (suc (suc (suc (suc (suc (suc zero))))))) h = omega arith
cap_below (suc (suc (suc (suc (suc (suc (suc (suc k)))))))) h = absurd (omega arith)

pub cap_none : 0 < cap 0
unfolding cap
cap_none = omega arith

eight : (k : ℕ) → k < 8 → 8 - k ≡ suc (8 - (k + 1))
eight k h = omega arith

module _ (t : List ℕ) (i code k : ℕ) where
  pub word_stop : k < 8 → is_word (class_of (get_or t i 0)) ≡ false → record { key = code * 16 + k; next = i } ≡ word_from (8 - k) t i code k
  unfolding word_from
  word_stop h e = rw (eight k h, e, word_from)

  pub word_more : k < 8 → is_word (class_of (get_or t i 0)) ≡ true → word_from (8 - k) t i code k ≡ word_from (8 - (k + 1)) t (i + 1) (code * 256 + get_or t i 0) (k + 1)
  unfolding word_from
  word_more h e = rw (eight k h, e, word_from)

  pub word_long : 8 ≤ k → record { key = 0; next = i } ≡ word_from (8 - k) t i code k
  unfolding word_from
  word_long h = let z : 8 - k ≡ 0 = omega arith in rw z

module _ (s : List ℕ) (i a : ℕ) where
  pub digits_end : length s ≤ i → valued a i ≡ digits_from (drop i s) i a
  unfolding digits_from
  digits_end h = rw (drop_of_length-le s h)

  module _ (h : i < length s) where
    pub digits_stop : is_digit (class_of (get_or s i 0)) ≡ false → valued a i ≡ digits_from (drop i s) i a
    unfolding digits_from
    digits_stop e = rw (drop-cons s i 0 h, e, digits_from)

    pub digits_more : is_digit (class_of (get_or s i 0)) ≡ true → digits_from (drop i s) i a ≡ digits_from (drop (i + 1) s) (i + 1) (more_digit a (get_or s i 0 - 48))
    unfolding digits_from
    digits_more e = rw (add-one i, drop-cons s i 0 h, e, digits_from)

-- ---- numbers and literals

module _ (t : List ℕ) (at : ℕ) where
  pub number_zero : get_or t at 0 ≡ 48 → Some (valued 0 (at + 1)) ≡ number_at t at
  unfolding number_at
  number_zero e = rw (eq-eqb _ _ e, number_at)

  pub number_none : (get_or t at 0 ≡ 48 → ⊥) → is_digit (class_of (get_or t at 0)) ≡ false → None ≡ number_at t at
  unfolding number_at
  number_none f e = rw (ne_eqb _ _ f, e, number_at)

  pub number_some : (get_or t at 0 ≡ 48 → ⊥) → is_digit (class_of (get_or t at 0)) ≡ true → Some (digits_from (drop at t) at 0) ≡ number_at t at
  unfolding number_at
  number_some f e = rw (ne_eqb _ _ f, e, number_at)

  pub int_plain : (get_or t at 0 ≡ 45 → ⊥) → numbered (number_at t at) 2147483648 ≡ int_at t at
  unfolding int_at
  int_plain f = rw (ne_eqb _ _ f, int_at)

  pub int_zero : get_or t at 0 ≡ 45 → get_or t (at + 1) 0 ≡ 48 → None ≡ int_at t at
  unfolding int_at
  int_zero e f = rw (eq-eqb _ _ e, eq-eqb _ _ f, int_at)

  pub int_minus : get_or t at 0 ≡ 45 → (get_or t (at + 1) 0 ≡ 48 → ⊥) → numbered (number_at t (at + 1)) 2147483649 ≡ int_at t at
  unfolding int_at
  int_minus e f = rw (eq-eqb _ _ e, ne_eqb _ _ f, int_at)

  pub literal_number : is_digit (class_of (get_or t at 0)) ≡ true → numbered (number_at t at) 2147483648 ≡ literal t at
  unfolding literal
  literal_number e = rw (e, literal)

  pub literal_word : is_digit (class_of (get_or t at 0)) ≡ false → worded (either (word_at t at).key (key (bytes "true")) (key (bytes "false"))) (word_at t at).next ≡ literal t at
  unfolding literal
  literal_word e = rw (e, literal)

  pub place_single : get_or t at 0 ≡ 45 → good (at + 1) true ≡ atom X t at
  place_single e = rw (eq-eqb _ _ e, atom)

  pub place_at : (get_or t at 0 ≡ 45 → ⊥) → literal t at ≡ atom X t at
  place_at f = rw (ne_eqb _ _ f, atom)

-- ---- parts

-- no part without brackets
pub no_atom : (c : Cat) (t : List ℕ) (at : ℕ) → (c ≡ cats.Name → ⊥) → (c ≡ cats.Start → ⊥) → (c ≡ cats.Mod → ⊥) → (c ≡ cats.Count → ⊥) → (c ≡ cats.Int → ⊥) → (c ≡ cats.Kind → ⊥) → (c ≡ cats.Dir → ⊥) → (c ≡ cats.Bound → ⊥) → (c ≡ cats.E → ⊥) → (c ≡ cats.X → ⊥) → (c ≡ cats.T → ⊥) → None ≡ atom c t at
no_atom cats.Name t at f _ _ _ _ _ _ _ _ _ _ = absurd (f refl)
no_atom cats.Start t at _ f _ _ _ _ _ _ _ _ _ = absurd (f refl)
no_atom cats.Mod t at _ _ f _ _ _ _ _ _ _ _ = absurd (f refl)
no_atom cats.Count t at _ _ _ f _ _ _ _ _ _ _ = absurd (f refl)
no_atom cats.Int t at _ _ _ _ f _ _ _ _ _ _ = absurd (f refl)
no_atom cats.Kind t at _ _ _ _ _ f _ _ _ _ _ = absurd (f refl)
no_atom cats.Dir t at _ _ _ _ _ _ f _ _ _ _ = absurd (f refl)
no_atom cats.Bound t at _ _ _ _ _ _ _ f _ _ _ = absurd (f refl)
no_atom cats.E t at _ _ _ _ _ _ _ _ f _ _ = absurd (f refl)
no_atom cats.X t at _ _ _ _ _ _ _ _ _ f _ = absurd (f refl)
no_atom cats.T t at _ _ _ _ _ _ _ _ _ _ f = absurd (f refl)
no_atom cats.Lv t at _ _ _ _ _ _ _ _ _ _ _ = refl
no_atom cats.C t at _ _ _ _ _ _ _ _ _ _ _ = refl
no_atom cats.S t at _ _ _ _ _ _ _ _ _ _ _ = refl
no_atom cats.I t at _ _ _ _ _ _ _ _ _ _ _ = refl
no_atom cats.ThenS t at _ _ _ _ _ _ _ _ _ _ _ = refl
no_atom cats.ElseS t at _ _ _ _ _ _ _ _ _ _ _ = refl
no_atom cats.ThenI t at _ _ _ _ _ _ _ _ _ _ _ = refl
no_atom cats.ElseI t at _ _ _ _ _ _ _ _ _ _ _ = refl
no_atom cats.L t at _ _ _ _ _ _ _ _ _ _ _ = refl
no_atom cats.Nothing t at _ _ _ _ _ _ _ _ _ _ _ = refl

pub scan_atom : (d : ℕ) (c : Cat) (t : List ℕ) (at : ℕ) → (get_or t at 0 ≡ 40 → ⊥) → atom c t at ≡ scan d c t at
unfolding scan
scan_atom zero c t at f = rw (ne_eqb _ _ f, scan)
scan_atom (suc d) c t at f = rw (ne_eqb _ _ f, scan)

pub scan_deep : (d : ℕ) (c : Cat) (t : List ℕ) (at : ℕ) → get_or t at 0 ≡ 40 → d ≡ 0 → None ≡ scan d c t at
unfolding scan
scan_deep d c t at e z = rw (z, eq-eqb _ _ e, scan)

pub scan_form : (d : ℕ) (c : Cat) (t : List ℕ) (at : ℕ) → get_or t at 0 ≡ 40 → (d ≡ 0 → ⊥) → scan d c t at ≡ form_at (λ k i. scan (d - 1) k t i) c t at
unfolding scan
scan_form zero c t at e f = absurd (f refl)
scan_form (suc d) c t at e f = rw (eq-eqb _ _ e, sub-one, scan)

module _ (f : Cat → ℕ → Option Parsed) (t : List ℕ) (q : Shape) (i : ℕ) (range : Bool) where
  pub parts_none : (left : ℕ) → left ≤ 0 → None ≡ parts_at f left t q i range
  unfolding parts_at
  parts_none left h = let z : left ≡ 0 = omega arith in rw z

  parts_suc : (left : ℕ) → 0 < left → left ≡ suc (left - 1)
  parts_suc left h = omega arith

  pub parts_close : (left : ℕ) → 0 < left → get_or t i 0 ≡ 41 → q.need ≡ 0 → good (i + 1) range ≡ parts_at f left t q i range
  unfolding parts_at
  parts_close left h e n = rw (parts_suc left h, eq-eqb _ _ e, eq-eqb _ _ n, parts_at)

  pub parts_early : (left : ℕ) → 0 < left → get_or t i 0 ≡ 41 → (q.need ≡ 0 → ⊥) → None ≡ parts_at f left t q i range
  unfolding parts_at
  parts_early left h e n = rw (parts_suc left h, eq-eqb _ _ e, ne_eqb _ _ n, parts_at)

  pub parts_junk : (left : ℕ) → 0 < left → (get_or t i 0 ≡ 41 → ⊥) → (get_or t i 0 ≡ 32 → ⊥) → None ≡ parts_at f left t q i range
  unfolding parts_at
  parts_junk left h e g = rw (parts_suc left h, ne_eqb _ _ e, ne_eqb _ _ g, parts_at)

  pub parts_bad : (left : ℕ) → 0 < left → (get_or t i 0 ≡ 41 → ⊥) → get_or t i 0 ≡ 32 → f q.a (i + 1) ≡ None → None ≡ parts_at f left t q i range
  unfolding parts_at
  parts_bad left h e g b = rw (parts_suc left h, ne_eqb _ _ e, eq-eqb _ _ g, b, parts_at)

  pub parts_more : (left m : ℕ) → left ≡ suc m → (get_or t i 0 ≡ 41 → ⊥) → get_or t i 0 ≡ 32 → (j : ℕ) (r : Bool) → f q.a (i + 1) ≡ good j r
      → parts_at f left t q i range ≡ parts_at f m t (shift q) j (range && r)
  unfolding parts_at
  parts_more left m h e g j r b = ap (λ (n : ℕ). parts_at f n t q i range) h ∙ rw (ne_eqb _ _ e, eq-eqb _ _ g, b, parts_at)

-- a form with its bracket, its word and its shape
pub form_start : (d : ℕ) (c : Cat) (t : List ℕ) (at : ℕ) (w : Word) (q : Shape) → get_or t at 0 ≡ 40 → (d ≡ 0 → ⊥) → w ≡ word_at t (at + 1) → q ≡ shape c w.key
    → parts_at (λ k i. scan (d - 1) k t i) (length t) t q w.next true ≡ scan d c t at
unfolding form_at
form_start d c t at w q e f g s = rw (s, g) (sym (scan_form d c t at e f))
