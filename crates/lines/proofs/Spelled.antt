-- Words and numbers that are read at a position: which bytes they are, and that the bytes of a word or a number are read as it.
-- Assumes nothing.
use mathlib.Core.Path.{◌≡◌, refl, sym, ap, ap₂, ◌∙◌}
use mathlib.Core.Bool.{Bool, true, false, ◌&&◌}
use mathlib.Core.Logic.{◌⊎◌, inl, inr}
use mathlib.Core.List.{[], ◌∷◌, ◌++◌, append_assoc, append-nil}
use Prim.Native.Nat.{ℕ, zero, suc, ◌+◌, ◌*◌, ◌-◌, ◌/◌, ◌%◌, ◌≤◌, ◌<◌}
use native.Mathlib.Omega.{arith}
use native.Mathlib.Numerals.{add-one}
use lib.ListN.{length, get_or, drop}
use lib.Seq.{drop-cons, get_or-drop, drop-drop, drop_at}
use lib.Dec.{ltb, leb, eqb}
use borrow.Author.Tests.{ltb-true, ltb-false, lt-ltb, le-ltb, leb-true, ne_eqb, eqb-false, eqb-true}
use Rattle.spec.specs.Bytes.{Bytes, digits, show_number, number_after, number}
use Rattle.spec.proofs.Numbers.{Between, Digits, number_digits, number_show}
use Rattle.lines.specs.Bytes.{class_of, is_digit, is_word}
use Rattle.std.specs.Prelude.{Option, Some, None}
use Rattle.lines.specs.Parse.{valued, code_after, key, word_from, word_at, more_digit, digits_from, number_at}
use Rattle.lines.specs.declared.parse.Word.{Word}
use Rattle.lines.specs.declared.parse.Number.{Number}
use Rattle.lines.proofs.Laws.{if_case, inside, class_digit, digit_range, word_range}

-- ---- positions

pub at_cons : (t : Bytes) (i c : ℕ) → get_or t i 0 ≡ c → (c ≡ 0 → ⊥) → drop i t ≡ c ∷ drop (i + 1) t
at_cons t i c e f = let h = inside t i (λ z. f (sym e ∙ z)) in drop-cons t i 0 h ∙ rw (e, add-one i)

pub first_of : (t : Bytes) (i : ℕ) → get_or t i 0 ≡ get_or (drop i t) 0 0
first_of t i = let z : i ≡ i + 0 = omega arith in ap (λ (k : ℕ). get_or t k 0) z ∙ sym (get_or-drop i t 0 0)

pub cons_at : (t : Bytes) (i c : ℕ) (s : Bytes) → drop i t ≡ c ∷ s → get_or t i 0 ≡ c
cons_at t i c s e = first_of t i ∙ ap (λ (l : Bytes). get_or l 0 0) e

pub cons_next : (t : Bytes) (i c : ℕ) (s : Bytes) → drop i t ≡ c ∷ s → drop (i + 1) t ≡ s
cons_next t i c s e = sym (drop-drop 1 i t) ∙ ap (drop 1) e

pub span_next : (t : Bytes) (i : ℕ) (x r : Bytes) → drop i t ≡ x ++ r → drop (i + length x) t ≡ r
span_next t i x r e = sym (drop-drop (length x) i t) ∙ ap (drop (length x)) e ∙ drop_at x r (length x) refl

pub nil_at : (t : Bytes) (i : ℕ) → drop i t ≡ [] → get_or t i 0 ≡ 0
nil_at t i e = first_of t i ∙ ap (λ (l : Bytes). get_or l 0 0) e

-- ---- what stops a word or a number

abbrev pub Stops : Bytes → Type 0
Stops [] = Unit {0}
Stops (c ∷ s) = is_word (class_of c) ≡ false

pub stop_at : (t : Bytes) (i : ℕ) (r : Bytes) → drop i t ≡ r → Stops r → is_word (class_of (get_or t i 0)) ≡ false
unfolding class_of
stop_at t i [] e s = rw (nil_at t i e)
stop_at t i (c ∷ r) e s = rw (cons_at t i c r e) s

-- ---- words

unfoldable pub all_wordly : Bytes → Bool
all_wordly [] = true
all_wordly (c ∷ w) = is_word (class_of c) && all_wordly w

both_true : (a b : Bool) → a && b ≡ true → (a ≡ true) × (b ≡ true)
both_true true b e = (refl, e)
both_true false b e = let z : ◌≡◌ {A = ℕ} 0 1 = ap (λ (x : Bool). elim x as (λ _. ℕ) [ true ↦ 1 | false ↦ 0 ]) e in absurd (omega arith)

code_inj : (x y : Bytes) (a b : ℕ) → length x ≡ length y → all_wordly x ≡ true → all_wordly y ≡ true → code_after a x ≡ code_after b y → (a ≡ b) × (x ≡ y)
unfolding code_after all_wordly
code_inj [] [] a b l f g e = (e, refl)
code_inj [] (d ∷ y) a b l f g e = absurd (omega arith)
code_inj (c ∷ x) [] a b l f g e = absurd (omega arith)
code_inj (c ∷ x) (d ∷ y) a b l f g e =
    let p = both_true _ _ f in
    let q = both_true _ _ g in
    let i = code_inj x y (a * 256 + c) (b * 256 + d) (omega arith) p.1 q.1 e in
    let u = word_range c p.0 in
    let v = word_range d q.0 in
    let z : c ≡ d = omega arith in
    (omega arith, ap₂ ◌∷◌ z i.1)

-- letters and digits, one at least, and at most 7
abbrev pub word_fine : Bytes → Bool
word_fine w = all_wordly w && (leb (length w) 7 && ltb 0 (length w))

pub record WordRead (f : ℕ) (t : Bytes) (i code k : ℕ) (w : Word) : Type 0 where
  pub text : Bytes
  pub span : drop i t ≡ text ++ drop w.next t
  pub next : w.next ≡ i + length text
  pub wordly : all_wordly text ≡ true
  pub keyed : (w.key ≡ 0) ⊎ ((w.key ≡ code_after code text * 16 + (k + length text)) × (length text < f))

pub word_read : (f : ℕ) (t : Bytes) (i code k : ℕ) → WordRead f t i code k (word_from f t i code k)
unfolding word_from code_after all_wordly
word_read zero t i code k = record { text = []; span = refl; next = omega arith; wordly = refl; keyed = inl refl }
word_read (suc f) t i code k =
    if_case (WordRead (suc f) t i code k) (is_word (class_of (get_or t i 0))) _ _
    (λ e. more e (word_read f t (i + 1) (code * 256 + get_or t i 0) (k + 1)))
    (λ e. record { text = []; span = refl; next = omega arith; wordly = refl; keyed = inr (omega arith, omega arith) })
  where
    more : is_word (class_of (get_or t i 0)) ≡ true → WordRead f t (i + 1) (code * 256 + get_or t i 0) (k + 1) (word_from f t (i + 1) (code * 256 + get_or t i 0) (k + 1))
        → WordRead (suc f) t i code k (word_from f t (i + 1) (code * 256 + get_or t i 0) (k + 1))
    more e r = record {
      text = get_or t i 0 ∷ r.text;
      span = let u = word_range _ e in at_cons t i (get_or t i 0) refl (λ z. omega arith) ∙ ap (◌∷◌ (get_or t i 0)) r.span;
      next = let n = r.next in omega arith;
      wordly = rw e r.wordly;
      keyed = told r.keyed;
    }
      where
        told : (((word_from f t (i + 1) (code * 256 + get_or t i 0) (k + 1)).key ≡ 0) ⊎ (((word_from f t (i + 1) (code * 256 + get_or t i 0) (k + 1)).key ≡ code_after (code * 256 + get_or t i 0) r.text * 16 + (k + 1 + length r.text)) × (length r.text < f)))
            → ((word_from f t (i + 1) (code * 256 + get_or t i 0) (k + 1)).key ≡ 0) ⊎ (((word_from f t (i + 1) (code * 256 + get_or t i 0) (k + 1)).key ≡ code_after (code * 256 + get_or t i 0) r.text * 16 + (k + suc (length r.text))) × (suc (length r.text) < suc f))
        told (inl z) = inl z
        told (inr z) = inr (let a = z.0 in let b = z.1 in (omega arith, omega arith))

-- the word that has the key is the word that was read
pub word_is : (t : Bytes) (i : ℕ) (r : WordRead 8 t i 0 0 (word_at t i)) (w : Bytes) → word_fine w ≡ true → key w ≡ (word_at t i).key → r.text ≡ w
unfolding key
word_is t i r w f e = go r.keyed
  where
    parts : (all_wordly w ≡ true) × (leb (length w) 7 && ltb 0 (length w) ≡ true)
    parts = both_true _ _ f

    small : (length w ≤ 7) × (0 < length w)
    small = let p = both_true _ _ parts.1 in (leb-true _ _ p.0, ltb-true _ _ p.1)

    go : (((word_at t i).key ≡ 0) ⊎ (((word_at t i).key ≡ code_after 0 r.text * 16 + (0 + length r.text)) × (length r.text < 8))) → r.text ≡ w
    go (inl z) = let s = small in absurd (omega arith)
    go (inr z) =
        let s = small in
        let a = z.0 in
        let b = z.1 in
        let l : length r.text ≡ length w = omega arith in
        let c : code_after 0 r.text ≡ code_after 0 w = omega arith in
        (code_inj r.text w 0 0 l r.wordly parts.0 c).1

pub word_complete : (w : Bytes) (f : ℕ) (t : Bytes) (i code k : ℕ) (r : Bytes) → length w < f → all_wordly w ≡ true → drop i t ≡ w ++ r → Stops r
    → word_from f t i code k ≡ record { key = code_after code w * 16 + (k + length w); next = i + length w }
unfolding word_from code_after all_wordly
word_complete w zero t i code k r l f e s = absurd (omega arith)
word_complete [] (suc n) t i code k r l f e s =
    let a : k ≡ k + 0 = omega arith in
    let b : i ≡ i + 0 = omega arith in
    rw (stop_at t i r e s, word_from) (ap₂ (λ (x y : ℕ). record { key = code * 16 + x; next = y }) a b)
word_complete (c ∷ w) (suc n) t i code k r l f e s =
    let p = both_true (is_word (class_of c)) (all_wordly w) f in
    let g = cons_at t i c (w ++ r) e in
    let a : k + 1 + length w ≡ k + suc (length w) = omega arith in
    let b : i + 1 + length w ≡ i + suc (length w) = omega arith in
    let h : is_word (class_of (get_or t i 0)) ≡ true = rw g p.0 in
    rw (h, word_from)
    (ap (λ (x : ℕ). word_from n t (i + 1) (code * 256 + x) (k + 1)) g
    ∙ word_complete w n t (i + 1) (code * 256 + c) (k + 1) r (omega arith) p.1 (cons_next t i c (w ++ r) e) s
    ∙ ap₂ (λ (x y : ℕ). record { key = code_after (code * 256 + c) w * 16 + x; next = y }) a b)

pub word_there : (w : Bytes) (t : Bytes) (i : ℕ) (r : Bytes) → word_fine w ≡ true → drop i t ≡ w ++ r → Stops r → word_at t i ≡ record { key = key w; next = i + length w }
unfolding word_at key
word_there w t i r f e s =
    let p = both_true (all_wordly w) (leb (length w) 7 && ltb 0 (length w)) f in
    let q = both_true (leb (length w) 7) (ltb 0 (length w)) p.1 in
    let l = leb-true (length w) 7 q.0 in
    let z : 0 + length w ≡ length w = omega arith in
    word_complete w 8 t i 0 0 r (omega arith) p.0 e s ∙ ap (λ (x : ℕ). record { key = code_after 0 w * 16 + x; next = i + length w }) z

-- ---- numbers

-- a capped number and the number: the same, or both are large
abbrev pub Caps : ℕ → ℕ → Type 0
Caps v n = (v ≡ n) ⊎ ((4294967296 ≤ v) × (4294967296 ≤ n))

caps_more : (v n d : ℕ) → Caps v n → Caps (more_digit v d) (n * 10 + d)
unfolding more_digit
caps_more v n d c = if_case (λ x. Caps x (n * 10 + d)) (ltb v 4294967296) _ _ (λ e. small (ltb-true v 4294967296 e) c) (λ e. large (ltb-false v 4294967296 e) c)
  where
    small : v < 4294967296 → Caps v n → Caps (v * 10 + d) (n * 10 + d)
    small h (inl e) = inl (omega arith)
    small h (inr e) = let a = e.0 in absurd (omega arith)

    large : 4294967296 ≤ v → Caps v n → Caps v (n * 10 + d)
    large h (inl e) = inr (h, omega arith)
    large h (inr e) = let a = e.1 in inr (h, omega arith)

pub caps_below : (v n l : ℕ) → l ≤ 4294967296 → Caps v n → ltb v l ≡ ltb n l
caps_below v n l h (inl e) = ap (λ (x : ℕ). ltb x l) e
caps_below v n l h (inr e) = let a = e.0 in let b = e.1 in le-ltb v l (omega arith) ∙ sym (le-ltb n l (omega arith))

unfoldable pub capped : ℕ → Bytes → ℕ
capped a [] = a
capped a (c ∷ s) = capped (more_digit a (c - 48)) s

capped_caps : (s : Bytes) (v n : ℕ) → Caps v n → Caps (capped v s) (number_after n s)
unfolding capped number_after
capped_caps [] v n c = c
capped_caps (d ∷ s) v n c = capped_caps s (more_digit v (d - 48)) (n * 10 + (d - 48)) (caps_more v n (d - 48) c)

abbrev pub Digs : Bytes → Type 0
Digs = Between 48 57

pub digit_there : (c : ℕ) → 48 ≤ c → c ≤ 57 → is_digit (class_of c) ≡ true
digit_there c g h = ap is_digit (sym (class_digit c g (omega arith)))

-- a byte that is no part of a word is no digit
pub not_digit : (c : ℕ) → is_word (class_of c) ≡ false → is_digit (class_of c) ≡ false
not_digit c f = go _ refl
  where
    go : (b : Bool) → is_digit (class_of c) ≡ b → is_digit (class_of c) ≡ false
    go false e = e
    go true e =
        let r = digit_range c e in
        let w : is_word (class_of c) ≡ true = ap is_word (sym (class_digit c r.0 (omega arith))) in
        let z : ◌≡◌ {A = ℕ} 1 0 = ap (λ (x : Bool). elim x as (λ _. ℕ) [ true ↦ 1 | false ↦ 0 ]) (sym w ∙ f) in absurd (omega arith)

pub record DigitsRead (s : Bytes) (i a : ℕ) (n : Number) : Type 0 where
  pub text : Bytes
  pub rest : Bytes
  pub span : s ≡ text ++ rest
  pub digs : Digs text
  pub is : n ≡ valued (capped a text) (i + length text)

digits_read : (s : Bytes) (i a : ℕ) → DigitsRead s i a (digits_from s i a)
unfolding digits_from capped
digits_read [] i a = record { text = []; rest = []; span = refl; digs = tt; is = ap (valued a) (omega arith) }
digits_read (c ∷ s) i a =
    if_case (DigitsRead (c ∷ s) i a) (is_digit (class_of c)) _ _ (λ e. more e (digits_read s (suc i) (more_digit a (c - 48))))
    (λ e. record { text = []; rest = c ∷ s; span = refl; digs = tt; is = ap (valued a) (omega arith) })
  where
    more : is_digit (class_of c) ≡ true → DigitsRead s (suc i) (more_digit a (c - 48)) (digits_from s (suc i) (more_digit a (c - 48))) → DigitsRead (c ∷ s) i a (digits_from s (suc i) (more_digit a (c - 48)))
    more e r = record {
      text = c ∷ r.text;
      rest = r.rest;
      span = ap (◌∷◌ c) r.span;
      digs = let d = digit_range c e in (d.0, d.1, r.digs);
      is = r.is ∙ ap (valued (capped (more_digit a (c - 48)) r.text)) (omega arith);
    }

digits_complete : (x r : Bytes) (i a : ℕ) → Digs x → Stops r → digits_from (x ++ r) i a ≡ valued (capped a x) (i + length x)
unfolding digits_from capped
digits_complete [] [] i a d s = ap (valued a) (omega arith)
digits_complete [] (c ∷ r) i a d s = rw (not_digit c s, digits_from) (ap (valued a) (omega arith))
digits_complete (c ∷ x) r i a d s =
    rw (digit_there c d.0 d.1, digits_from) (digits_complete x r (suc i) (more_digit a (c - 48)) d.2 s ∙ ap (valued (capped (more_digit a (c - 48)) x)) (omega arith))

-- ---- decimal notation

digits_fuel : (f g n : ℕ) → n < f → n < g → digits f n ≡ digits g n
unfolding digits
digits_fuel zero g n h k = absurd (omega arith)
digits_fuel (suc f) zero n h k = absurd (omega arith)
digits_fuel (suc f) (suc g) n h k =
    if_case (λ s. s ≡ digits (suc g) n) (ltb n 10) _ _ (λ e. rw (e, digits))
    (λ e. let l = ltb-false n 10 e in rw (e, digits) (ap (λ (s : Bytes). s ++ ((48 + n % 10) ∷ [])) (digits_fuel f g (n / 10) (omega arith) (omega arith))))

show_snoc : (a d : ℕ) → 0 < a → d < 10 → show_number (a * 10 + d) ≡ show_number a ++ ((48 + d) ∷ [])
unfolding show_number digits
show_snoc a d h k =
    let x : (a * 10 + d) / 10 ≡ a = omega arith in
    let y : (a * 10 + d) % 10 ≡ d = omega arith in
    rw (le-ltb (a * 10 + d) 10 (omega arith), digits, x, y) (ap (λ (s : Bytes). s ++ ((48 + d) ∷ [])) (digits_fuel (a * 10 + d) (suc a) a (omega arith) (omega arith)))

show_after : (y : Bytes) (a : ℕ) → 0 < a → Digs y → show_number (number_after a y) ≡ show_number a ++ y
unfolding number_after
show_after [] a h d = sym (append-nil (show_number a))
show_after (c ∷ y) a h d =
    let u = d.0 in
    let v = d.1 in
    let z : 48 + (c - 48) ≡ c = omega arith in
    show_after y (a * 10 + (c - 48)) (omega arith) d.2 ∙ ap (λ (s : Bytes). s ++ y) (show_snoc a (c - 48) h (omega arith) ∙ ap (λ (x : ℕ). show_number a ++ (x ∷ [])) z)
    ∙ append_assoc (show_number a) (c ∷ []) y

show_digit : (c : ℕ) → c < 10 → show_number c ≡ (48 + c) ∷ []
unfolding show_number digits
show_digit c h = rw (lt-ltb c 10 h, digits)

-- digits that do not begin with 0 are the notation of their number
show_digits : (c : ℕ) (y : Bytes) → 48 < c → c ≤ 57 → Digs y → show_number (number_after 0 (c ∷ y)) ≡ c ∷ y
unfolding number_after
show_digits c y g h d =
    let z : 48 + (c - 48) ≡ c = omega arith in
    let w : 0 * 10 + (c - 48) ≡ c - 48 = omega arith in
    rw w (show_after y (c - 48) (omega arith) d ∙ ap (λ (s : Bytes). s ++ y) (show_digit (c - 48) (omega arith) ∙ ap (λ (x : ℕ). x ∷ []) z))

-- the notation of a number above 0 does not begin with 0
record Led (s : Bytes) : Type 0 where
  first : ℕ
  rest : Bytes
  is : s ≡ first ∷ rest
  above : 48 < first

led : (f n : ℕ) → 0 < n → n < f → Led (digits f n)
unfolding digits
led zero n h k = absurd (omega arith)
led (suc f) n h k =
    if_case Led (ltb n 10) _ _ (λ e. record { first = 48 + n; rest = []; is = refl; above = omega arith })
    (λ e. let l = ltb-false n 10 e in let r = led f (n / 10) (omega arith) (omega arith) in record { first = r.first; rest = r.rest ++ ((48 + n % 10) ∷ []); is = ap (λ (s : Bytes). s ++ ((48 + n % 10) ∷ [])) r.is; above = r.above })

-- ---- a number at a position

pub record NumberRead (t : Bytes) (i v j : ℕ) : Type 0 where
  pub number : ℕ
  pub span : drop i t ≡ show_number number ++ drop j t
  pub next : j ≡ i + length (show_number number)
  pub caps : Caps v number

pub is_inj : {v w i j : ℕ} → Some (valued v i) ≡ Some (valued w j) → (v ≡ w) × (i ≡ j)
is_inj e = (ap (λ (n : Option Number). elim n as (λ _. ℕ) [ None ↦ 0 | Some m ↦ m.value ]) e, ap (λ (n : Option Number). elim n as (λ _. ℕ) [ None ↦ 0 | Some m ↦ m.next ]) e)

none_not : {v j : ℕ} → None ≡ Some (valued v j) → ⊥
none_not e = let z : ◌≡◌ {A = ℕ} 0 1 = cc in omega arith

number_some : (t : Bytes) (i v j : ℕ) (c : ℕ) → drop i t ≡ c ∷ drop (i + 1) t → (c ≡ 48 → ⊥) → is_digit (class_of c) ≡ true → Some (digits_from (drop i t) i 0) ≡ Some (valued v j) → NumberRead t i v j
unfolding digits_from capped number_after
number_some t i v j c g f d q =
    let r = digits_read (drop (i + 1) t) (suc i) (more_digit 0 (c - 48)) in
    let u = digit_range c d in
    let u0 = u.0 in
    let u1 = u.1 in
    let start : digits_from (drop i t) i 0 ≡ digits_from (drop (i + 1) t) (suc i) (more_digit 0 (c - 48)) = ap (λ (s : Bytes). digits_from s i 0) g ∙ rw (d, digits_from) in
    let p = is_inj (ap Some (sym r.is ∙ sym start) ∙ q) in
    let above : 48 < c = omega (arith, ne_lt c f u0) in
    let shown = show_digits c r.text above u1 r.digs in
    let whole : drop i t ≡ (c ∷ r.text) ++ r.rest = g ∙ ap (◌∷◌ c) r.span in
    let ends : i + length (c ∷ r.text) ≡ j = let a = p.1 in omega arith in
    record {
      number = number_after 0 (c ∷ r.text);
      span = rw shown (whole ∙ ap (λ (z : Bytes). (c ∷ r.text) ++ z) (sym (span_next t i (c ∷ r.text) r.rest whole) ∙ ap (λ (k : ℕ). drop k t) ends));
      next = rw shown (sym ends);
      caps = rw (← p.0) (capped_caps r.text (more_digit 0 (c - 48)) (0 * 10 + (c - 48)) (caps_more 0 0 (c - 48) (inl refl)));
    }
  where
    ne_lt : (c : ℕ) → (c ≡ 48 → ⊥) → 48 ≤ c → 48 < c
    ne_lt c f h = omega arith

pub number_sound : (t : Bytes) (i v j : ℕ) → number_at t i ≡ Some (valued v j) → NumberRead t i v j
unfolding number_at show_number digits
number_sound t i v j =
    if_case (λ n. n ≡ Some (valued v j) → NumberRead t i v j) (eqb (get_or t i 0) 48) _ _
    (λ e q. let p = is_inj q in let a = p.1 in record {
      number = 0;
      span = at_cons t i 48 (eqb-true (get_or t i 0) 48 e) (λ z. omega arith) ∙ ap (λ (k : ℕ). 48 ∷ drop k t) a;
      next = sym a;
      caps = inl (sym p.0);
    })
    (λ e. if_case (λ n. n ≡ Some (valued v j) → NumberRead t i v j) (is_digit (class_of (get_or t i 0))) _ _
    (λ d q. let u = digit_range (get_or t i 0) d in let u0 = u.0 in number_some t i v j (get_or t i 0) (at_cons t i (get_or t i 0) refl (λ z. omega arith)) (eqb-false (get_or t i 0) 48 e) d q) (λ d q. absurd (none_not q)))

-- the bytes of a number are read as it
pub record NumberThere (t : Bytes) (i n : ℕ) : Type 0 where
  pub value : ℕ
  pub is : number_at t i ≡ Some (valued value (i + length (show_number n)))
  pub caps : Caps value n

number_zero : (t : Bytes) (i : ℕ) (r : Bytes) → drop i t ≡ show_number 0 ++ r → NumberThere t i 0
unfolding number_at show_number digits
number_zero t i r e = record { value = 0; is = rw (cons_at t i 48 r e, number_at); caps = inl refl }

number_led : (t : Bytes) (i n : ℕ) (r : Bytes) → drop i t ≡ show_number n ++ r → Stops r → (c : ℕ) (y : Bytes) → show_number n ≡ c ∷ y → 48 < c → Digs (c ∷ y) → NumberThere t i n
unfolding number_at digits_from capped
number_led t i n r e s c y q h d =
    let g : drop i t ≡ (c ∷ y) ++ r = e ∙ ap (λ (z : Bytes). z ++ r) q in
    let a = cons_at t i c (y ++ r) g in
    let k : number_after 0 (c ∷ y) ≡ n = ap (number_after 0) (sym q) ∙ unfold_number n in
    let dig : is_digit (class_of (get_or t i 0)) ≡ true = rw a (digit_there c d.0 d.1) in
    let far : eqb (get_or t i 0) 48 ≡ false = ne_eqb (get_or t i 0) 48 (λ z. omega arith) in
    record {
      value = capped 0 (c ∷ y);
      is = rw (far, dig, number_at) (ap (λ (z : Bytes). Some (digits_from z i 0)) g ∙ ap Some (digits_complete (c ∷ y) r i 0 d s) ∙ ap (λ (z : Bytes). Some (valued (capped 0 (c ∷ y)) (i + length z))) (sym q));
      caps = rw k at (capped_caps (c ∷ y) 0 0 (inl refl));
    }
  where
    unfold_number : (n : ℕ) → number_after 0 (show_number n) ≡ n
    unfold_number n = unfold number in number_show n

digits_digs : (s : Bytes) → Digits s → Digs s
digits_digs [] p = absurd p
digits_digs (c ∷ s) p = p

pub number_there : (t : Bytes) (i n : ℕ) (r : Bytes) → drop i t ≡ show_number n ++ r → Stops r → NumberThere t i n
unfolding show_number
number_there t i zero r e s = number_zero t i r e
number_there t i (suc n) r e s =
    let l = led (suc (suc n)) (suc n) (omega arith) (omega arith) in
    number_led t i (suc n) r e s l.first l.rest l.is l.above (rw l.is at (digits_digs (show_number (suc n)) (number_digits (suc n))))
