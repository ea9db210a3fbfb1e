-- What a byte is. 01: The line; Forms for specific places.
-- To a reader: definitions that contracts of this and other crates cite; each such contract is proved; check_drivers' own promise cites none of them.
use Rattle.std.specs.Prelude.{Bool, true, false, ℕ, eqb, ltb}
use Rattle.lines.specs.declared.bytes.Class.{Class}
use Rattle.lines.specs.declared.bytes.Class.TheVariants.{Space, Open, Close, Digit, Letter, Minus, Feed, Refused, Other}

-- 01, Forms for specific places: one decision over byte ranges, by value: refused up to 31 but for line feed, then space to 126 (space, brackets,
-- minus, digits, letters, other), then refused
unfoldable pub class_of : ℕ → Class
class_of b =
    elim (ltb b 48) [
      | true ↦ elim (eqb b 10) [
        | true ↦ Feed
        | false ↦ elim (ltb b 32) [
          | true ↦ Refused
          | false ↦ elim (eqb b 32) [
            | true ↦ Space
            | false ↦ elim (eqb b 40) [
              | true ↦ Open
              | false ↦ elim (eqb b 41) [ true ↦ Close | false ↦ elim (eqb b 45) [ true ↦ Minus | false ↦ Other ] ]
            ]
          ]
        ]
      ]
      | false ↦ elim (ltb b 58) [
        | true ↦ Digit
        | false ↦ elim (ltb b 65) [
          | true ↦ Other
          | false ↦ elim (ltb b 91) [
            | true ↦ Letter
            | false ↦ elim (ltb b 97) [
              | true ↦ Other
              | false ↦ elim (ltb b 123) [ true ↦ Letter | false ↦ elim (ltb b 127) [ true ↦ Other | false ↦ Refused ] ]
            ]
          ]
        ]
      ]
    ]

-- 01, The line: whether a class is that of the digits
abbrev pub is_digit : Class → Bool
is_digit Space = false
is_digit Open = false
is_digit Close = false
is_digit Digit = true
is_digit Letter = false
is_digit Minus = false
is_digit Feed = false
is_digit Refused = false
is_digit Other = false

-- 01, The line: whether a class is that of a word's bytes: digits and letters
abbrev pub is_word : Class → Bool
is_word Space = false
is_word Open = false
is_word Close = false
is_word Digit = true
is_word Letter = true
is_word Minus = false
is_word Feed = false
is_word Refused = false
is_word Other = false
