-- Bytes: words, decimal numbers, and the parts of a form. 01: The line.
-- To a reader: definitions to believe; number, integer and parts are pinned by Reading.Reading (proved in proofs/Reading).
use Rattle.std.specs.Prelude.{Bool, true, false, List, [], ◌∷◌, ◌++◌, ℕ, zero, suc, ◌+◌, ◌*◌, ◌-◌, ◌/◌, ◌%◌, eqb, ltb, ℤ, pos, negsuc}
use Prim.Native.Char.{code}
use Prim.Native.String.{String, [] as []ˢ, ◌∷◌ as ◌∷ˢ◌}

-- 01, The line: a text, or a part of one, is bytes.
abbrev pub Bytes : Type 0
Bytes = List ℕ

-- 01, The line: the bytes of a text in which every character is one byte.
abbrev pub bytes : String → Bytes
bytes []ˢ = []
bytes (c ∷ˢ s) = code c ∷ bytes s

-- 01, The line: whether two runs of bytes are the same.
unfoldable pub same_bytes : Bytes → Bytes → Bool
same_bytes [] [] = true
same_bytes [] (y ∷ ys) = false
same_bytes (x ∷ xs) [] = false
same_bytes (x ∷ xs) (y ∷ ys) = elim (eqb x y) [ true ↦ same_bytes xs ys | false ↦ false ]

-- 01, The line: what a table of words gives for a word, and `other` for a word that it lacks.
unfoldable pub lookup_word : {A : Type 0} → List (Bytes × A) → A → Bytes → A
lookup_word [] other w = other
lookup_word (e ∷ table) other w = elim (same_bytes w e.0) [ true ↦ e.1 | false ↦ lookup_word table other w ]

-- 01, The line: numbers are decimal without leading zeros. At most `fuel` digits are written, and n + 1 are enough.
unfoldable pub digits : ℕ → ℕ → Bytes
digits zero n = []
digits (suc fuel) n = elim (ltb n 10) [ true ↦ (48 + n) ∷ [] | false ↦ digits fuel (n / 10) ++ ((48 + n % 10) ∷ []) ]

-- 01, The line: a number as it is written.
unfoldable pub show_number : ℕ → Bytes
show_number n = digits (suc n) n

-- 01, The line: only the INT of `val` may have a minus, 0 never.
unfoldable pub show_int : ℤ → Bytes
show_int (pos n) = show_number n
show_int (negsuc n) = 45 ∷ show_number (suc n)

-- 01, The line: the number whose digits stand behind those of a; bytes that are no digits give some number.
unfoldable pub number_after : ℕ → Bytes → ℕ
number_after a [] = a
number_after a (c ∷ s) = number_after (a * 10 + (c - 48)) s

-- 01, The line: the number that is written so.
unfoldable pub number : Bytes → ℕ
number s = number_after 0 s

-- 01, The line: the number behind a minus.
unfoldable pub negated : ℕ → ℤ
negated zero = pos 0
negated (suc n) = negsuc n

-- 01, The line: the INT that is written so.
unfoldable pub integer : Bytes → ℤ
integer [] = pos 0
integer (c ∷ s) = elim (eqb c 45) [ true ↦ negated (number s) | false ↦ pos (number (c ∷ s)) ]

-- 01, The line: one form `(head part ...)`, parts separated by one space.
unfoldable pub show_rest : List Bytes → Bytes
show_rest [] = 41 ∷ []
show_rest (x ∷ xs) = 32 ∷ x ++ show_rest xs

-- 01, The line: one form `(head part ...)`.
unfoldable pub show_form : Bytes → List Bytes → Bytes
show_form head parts = 40 ∷ head ++ show_rest parts

-- 01, The line: whether a part is a form: it begins with a bracket.
unfoldable pub is_form : Bytes → Bool
is_form [] = false
is_form (c ∷ s) = eqb c 40

-- 01, The line: a byte put in front of the first part.
unfoldable pub onto : ℕ → List Bytes → List Bytes
onto c [] = (c ∷ []) ∷ []
onto c (p ∷ ps) = (c ∷ p) ∷ ps

-- 01, The line: the parts of what stands behind an opening bracket, k more brackets being open; the bracket that closes the form ends
-- it.
unfoldable pub parts_from : ℕ → Bytes → List Bytes
parts_from k [] = [] ∷ []
parts_from k (c ∷ s) =
    elim (eqb c 40) [
      | true ↦ onto c (parts_from (suc k) s)
      | false ↦ elim (eqb c 41) [
        | true ↦ elim k [ zero ↦ [] ∷ [] | suc j ↦ onto c (parts_from j s) ]
        | false ↦ elim (eqb c 32) [
          | true ↦ elim k [ zero ↦ [] ∷ parts_from 0 s | suc j ↦ onto c (parts_from (suc j) s) ]
          | false ↦ onto c (parts_from k s)
        ]
      ]
    ]

-- 01, The line: the parts of a form, its head first.
unfoldable pub parts : Bytes → List Bytes
parts [] = []
parts (c ∷ s) = parts_from 0 s
