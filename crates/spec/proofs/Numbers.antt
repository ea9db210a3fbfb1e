-- Numbers: what is written of a number is read as that number; its bytes are digits, and so it is no word and no form.
-- Assumes nothing.
use mathlib.Core.Path.{◌≡◌, refl, ap, ◌∙◌}
use mathlib.Core.Bool.{Bool, true, false}
use mathlib.Core.List.{[], ◌∷◌, ◌++◌}
use Prim.Native.Nat.{ℕ, zero, suc, ◌+◌, ◌*◌, ◌-◌, ◌/◌, ◌%◌, ◌≤◌, ◌<◌}
use native.Mathlib.Omega.{arith}
use lib.Dec.{ltb}
use lib.IntN.{ℤ, pos, negsuc}
use borrow.Author.Tests.{ne_eqb, ltb-true, ltb-false}
use Rattle.spec.specs.Bytes.{Bytes, same_bytes, digits, show_number, show_int, number_after, number, negated, integer, is_form}

-- a choice by a test, taken apart
pub if_case : {A : Type 0} (P : A → Type 0) (b : Bool) (x y : A) → (b ≡ true → P x) → (b ≡ false → P y) → P (elim b as (λ _. A) [ true ↦ x | false ↦ y ])
if_case P true x y f g = f refl
if_case P false x y f g = g refl

-- each byte lies from low to high
abbrev pub Between : ℕ → ℕ → Bytes → Type 0
Between low high [] = Unit {0}
Between low high (c ∷ s) = (low ≤ c) × (c ≤ high) × Between low high s

pub between_append : (low high : ℕ) (s t : Bytes) → Between low high s → Between low high t → Between low high (s ++ t)
between_append low high [] t p q = q
between_append low high (c ∷ s) t p q = (p.0, p.1, between_append low high s t p.2 q)

pub between_widen : {a b c d : ℕ} → c ≤ a → b ≤ d → (s : Bytes) → Between a b s → Between c d s
between_widen g h [] p = tt
between_widen g h (x ∷ s) p = (omega arith, omega arith, between_widen g h s p.2)

-- digits, and at least one
abbrev pub Digits : Bytes → Type 0
Digits [] = ⊥
Digits (c ∷ s) = Between 48 57 (c ∷ s)

digits_snoc : (s : Bytes) (c : ℕ) → Digits s → 48 ≤ c → c ≤ 57 → Digits (s ++ c ∷ [])
digits_snoc [] c p g h = absurd p
digits_snoc (a ∷ s) c p g h = between_append 48 57 (a ∷ s) (c ∷ []) p (g, h, tt)

number_snoc : (a : ℕ) (s : Bytes) (c : ℕ) → number_after a (s ++ c ∷ []) ≡ number_after a s * 10 + (c - 48)
unfolding number_after
number_snoc a [] c = refl
number_snoc a (b ∷ s) c = number_snoc (a * 10 + (b - 48)) s c

-- what is written with more digits allowed than the number counts
digits_read : (f n : ℕ) → n < f → Digits (digits f n) × (number_after 0 (digits f n) ≡ n)
unfolding digits number_after
digits_read zero n h = absurd (omega arith)
digits_read (suc f) n h =
    if_case (λ s. Digits s × (number_after 0 s ≡ n)) (ltb n 10) _ _
    (λ e. let l = ltb-true n 10 e in ((omega arith, omega arith, tt), omega arith))
    (λ e. let l = ltb-false n 10 e in
    let i = digits_read f (n / 10) (omega arith) in (
      digits_snoc (digits f (n / 10)) (48 + n % 10) i.0 (omega arith) (omega arith),
      number_snoc 0 (digits f (n / 10)) (48 + n % 10) ∙ omega (arith, i.1),
    ))

pub number_digits : (n : ℕ) → Digits (show_number n)
unfolding show_number
number_digits n = (digits_read (suc n) n (omega arith)).0

pub number_show : (n : ℕ) → number (show_number n) ≡ n
unfolding number show_number
number_show n = (digits_read (suc n) n (omega arith)).1

-- no form, and no word that begins with something else than a digit
pub digits_no_form : (s : Bytes) → Digits s → is_form s ≡ false
unfolding is_form
digits_no_form [] p = absurd p
digits_no_form (c ∷ s) p = ne_eqb c 40 (λ e. omega arith)

pub digits_no_word : (s : Bytes) → Digits s → (c : ℕ) (w : Bytes) → (48 ≤ c → c ≤ 57 → ⊥) → same_bytes s (c ∷ w) ≡ false
unfolding same_bytes
digits_no_word [] p c w h = absurd p
digits_no_word (a ∷ s) p c w h = rw (ne_eqb a c (λ e. h (omega arith) (omega arith)), same_bytes)

digits_integer : (s : Bytes) → Digits s → integer s ≡ pos (number s)
unfolding integer
digits_integer [] p = absurd p
digits_integer (c ∷ s) p = rw (ne_eqb c 45 (λ e. omega arith), integer)

pub integer_show : (i : ℤ) → integer (show_int i) ≡ i
unfolding integer show_int negated
integer_show (pos n) = digits_integer (show_number n) (number_digits n) ∙ ap pos (number_show n)
integer_show (negsuc n) = ap negated (number_show (suc n))

pub negative_led : (n : ℕ) → show_int (negsuc n) ≡ 45 ∷ show_number (suc n)
unfolding show_int
negative_led n = refl
