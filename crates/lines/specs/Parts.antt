-- Where the parts of a form begin and end in its bytes. 01: The line; Forms for specific places.
-- To a reader: definitions that contracts of this and other crates cite; each such contract is proved; check_drivers' own promise cites none of them.
use Rattle.std.specs.Prelude.{Bool, true, false, [], ◌∷◌, ℕ, zero, suc, ◌+◌, ◌-◌, take, drop, get_or, eqb, Option, Some, None}
use Rattle.spec.specs.Bytes.{Bytes}
use Rattle.lines.specs.declared.parts.Operands.{Operands}
use Rattle.lines.specs.declared.parts.Operands.TheVariants.{Zero, One, Two, Three, Four, More}

-- 01, The line: how many bytes there are to the end of the part that stands first, k brackets being open in it: to the space or bracket that ends it,
-- or to the last byte
unfoldable pub scan : ℕ → Bytes → ℕ
scan k [] = 0
scan k (c ∷ s) =
    elim (eqb c 40) [
      | true ↦ suc (scan (suc k) s)
      | false ↦ elim (eqb c 41) [
        | true ↦ elim k [ zero ↦ 0 | suc j ↦ suc (scan j s) ]
        | false ↦ elim (eqb c 32) [
          | true ↦ elim k [ zero ↦ 0 | suc j ↦ suc (scan (suc j) s) ]
          | false ↦ suc (scan k s)
        ]
      ]
    ]

-- 01, The line: the end of the part that starts at `at`
abbrev pub part_end : Bytes → ℕ → ℕ
part_end s at = at + scan 0 (drop at s)

-- 01, Forms for specific places: a part of the text that begins mid-line: the bytes behind the one at `before`, up to `end`
unfoldable pub piece : Bytes → ℕ → ℕ → Bytes
piece s before end = take (end - (before + 1)) (drop (before + 1) s)

-- 01, The line: parts separated by one space: whether another part stands behind the one that ends here
abbrev pub follows : Bytes → ℕ → Bool
follows s end = eqb (get_or s end 0) 32

-- 01, The line: the end of the part that stands behind the byte at `before`
unfoldable pub next_end : Bytes → ℕ → ℕ
next_end s before = part_end s (before + 1)

-- 01, The line: four parts, which end at a, b, c and d, or more than four
unfoldable pub four_or_more : Bytes → ℕ → ℕ → ℕ → ℕ → Operands
four_or_more s a b c d = elim (follows s d) [ true ↦ More | false ↦ Four a b c d ]

-- 01, The line: the parts by their number, each by its end, the first three ending at a, b and c
unfoldable pub three_or_more : Bytes → ℕ → ℕ → ℕ → Operands
three_or_more s a b c = elim (follows s c) [ true ↦ four_or_more s a b c (next_end s c) | false ↦ Three a b c ]

-- 01, The line: the parts by their number, each by its end, the first two ending at a and b
unfoldable pub two_or_more : Bytes → ℕ → ℕ → Operands
two_or_more s a b = elim (follows s b) [ true ↦ three_or_more s a b (next_end s b) | false ↦ Two a b ]

-- 01, The line: the parts by their number, each by its end, the first ending at a
unfoldable pub one_or_more : Bytes → ℕ → Operands
one_or_more s a = elim (follows s a) [ true ↦ two_or_more s a (next_end s a) | false ↦ One a ]

-- 01, The line: the parts behind the one that ends at `end`, by their number, each by its end; more than four are not told apart
unfoldable pub operands_of : Bytes → ℕ → Operands
operands_of s end = elim (follows s end) [ true ↦ one_or_more s (next_end s end) | false ↦ Zero ]

-- 01, The line: the end of the one part, where there is just one
abbrev pub to_single : Operands → Option ℕ
to_single Zero = None
to_single (One a) = Some a
to_single (Two a b) = None
to_single (Three a b c) = None
to_single (Four a b c d) = None
to_single More = None

-- 01, The line: the ends of the two parts, where there are just two
abbrev pub to_pair : Operands → Option (ℕ × ℕ)
to_pair Zero = None
to_pair (One a) = None
to_pair (Two a b) = Some (a, b)
to_pair (Three a b c) = None
to_pair (Four a b c d) = None
to_pair More = None

-- 01, The line: the ends of the three parts, where there are just three
abbrev pub to_triple : Operands → Option (ℕ × ℕ × ℕ)
to_triple Zero = None
to_triple (One a) = None
to_triple (Two a b) = None
to_triple (Three a b c) = Some (a, b, c)
to_triple (Four a b c d) = None
to_triple More = None

-- 01, The line: the end of the one part behind the one that ends at `end`, where there is just one
unfoldable pub single_of : Bytes → ℕ → Option ℕ
single_of s end = to_single (operands_of s end)

-- 01, The line: the ends of the two parts behind the one that ends at `end`, where there are just two
unfoldable pub pair_of : Bytes → ℕ → Option (ℕ × ℕ)
pair_of s end = to_pair (operands_of s end)

-- 01, The line: the ends of the three parts behind the one that ends at `end`, where there are just three
unfoldable pub triple_of : Bytes → ℕ → Option (ℕ × ℕ × ℕ)
triple_of s end = to_triple (operands_of s end)
