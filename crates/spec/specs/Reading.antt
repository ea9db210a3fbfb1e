-- The theorem about reading: decoding what shows a design gives the design, a text is accepted exactly when it shows a design in
-- range, and a refusal names 1, else 2, else the lowest fault of the first line that has one. 01: The line; Refused because of the text.
-- To a reader: definitions to believe (the faults and their order), and a statement, Reading, proved in proofs/Reading.
use Rattle.std.specs.Prelude.{◌≡◌, ◌↔◌, true, false, List, [], ◌∷◌, ◌++◌, ℕ, suc, ◌≤◌, ◌<◌, length, eqb}
use Rattle.spec.specs.Bytes.{Bytes}
use Rattle.spec.specs.Syntax.{Design, Line}
use Rattle.spec.specs.Show.{show_line, show_design}
use Rattle.spec.specs.Decode.{depth_limit, decode_line}
use Rattle.spec.specs.Refusal.{text_limit, lines, in_set, well_formed, refused, ends_in_feed, one_form, written, line_in_range, Before, at_start, after_line, in_place, first_kind, refusal, decode, line_depth, in_range}

-- 01, Refused because of the text, 2: every byte is in the set.
abbrev pub AllInSet : Bytes → Type 0
AllInSet [] = Unit {0}
AllInSet (c ∷ s) = (in_set c ≡ true) × AllInSet s

-- 01, Refused because of the text, 2: the line of a byte is one more than the line feeds before it.
unfoldable pub feeds : Bytes → ℕ
feeds [] = 0
feeds (c ∷ s) = elim (eqb c 10) [ true ↦ suc (feeds s) | false ↦ feeds s ]

-- 01, Refused because of the text, 3 to 7: what each of these faults of the line s is, b having been read before it.
pub data Fault (b : Before) (s : Bytes) : ℕ → Type 0 where
  not_one_form : one_form s ≡ false → Fault b s 3
  badly_written : written s ≡ false → Fault b s 4
  out_of_range : written s ≡ true → line_in_range (decode_line s) ≡ false → Fault b s 5
  out_of_place : written s ≡ true → in_place b (decode_line s) ≡ false → Fault b s 6
  one_too_many : written s ≡ true → first_kind b (decode_line s) ≡ false → Fault b s 7

-- 01, Refused because of the text, Order: of a line's faults the lowest.
pub record LowestFault (b : Before) (s : Bytes) (k : ℕ) : Type 0 where
  pub fault : Fault b s k
  pub lowest : (j : ℕ) → j < k → Fault b s j → ⊥

-- 01, Refused because of the text, Order: what has been read when these lines have been read behind b.
unfoldable pub after_lines : Before → List Bytes → Before
after_lines b [] = b
after_lines b (s ∷ l) = after_lines (after_line b (decode_line s)) l

-- 01, Refused because of the text, Order: none of these lines has a fault, b having been read before the first.
abbrev pub Faultless : Before → List Bytes → Type 0
Faultless b [] = Unit {0}
Faultless b (s ∷ l) = ((k : ℕ) → Fault b s k → ⊥) × Faultless (after_line b (decode_line s)) l

-- 01, Refused because of the text, Order: 1, then 2 over the whole text (line of the first such byte, else the last line), then
-- line by line 3 to 7: the text is refused with this number and this line.
pub data Refused (text : Bytes) : ℕ → ℕ → Type 0 where
  too_long : text_limit < length text → Refused text 1 0
  bad_byte :
      (x : Bytes) (c : ℕ) (y : Bytes) → length text ≤ text_limit → text ≡ x ++ c ∷ y → AllInSet x → in_set c ≡ false
      → Refused text 2 (suc (feeds x))
  no_feed : length text ≤ text_limit → AllInSet text → ends_in_feed text ≡ false → Refused text 2 (length (lines text))
  bad_line :
      (before : List Bytes) (s : Bytes) (after : List Bytes) (k : ℕ) → length text ≤ text_limit → AllInSet text → ends_in_feed text ≡ true
      → lines text ≡ before ++ s ∷ after → Faultless at_start before → LowestFault (after_lines at_start before) s k
      → Refused text k (suc (length before))

-- 01, The line; Refused because of the text: the theorem. `line_back`: what shows a line at most 32 deep decodes to it. `well_written`: the
-- lines without the faults 3 and 4 are those that show a line at most 32 deep; the faults 5 to 7 are faults of that line.
pub record Reading : Type 0 where
  pub line_back : (l : Line) → line_depth l ≤ depth_limit → decode_line (show_line l) ≡ l
  pub well_written : (s : Bytes) → ((one_form s ≡ true) × (written s ≡ true)) ↔ ((l : Line) × (line_depth l ≤ depth_limit) × (show_line l ≡ s))
  pub decode_show : (d : Design) → in_range d ≡ true → decode (show_design d) ≡ d
  pub shown : (d : Design) → in_range d ≡ true → length (show_design d) ≤ text_limit → refusal (show_design d) ≡ well_formed
  pub accepted : (text : Bytes) → refusal text ≡ well_formed
      → (length text ≤ text_limit) × (in_range (decode text) ≡ true) × (show_design (decode text) ≡ text)
  pub lowest : (text : Bytes) (k n : ℕ) → refusal text ≡ refused k n → Refused text k n
  pub refuses : (text : Bytes) (k n : ℕ) → Refused text k n → refusal text ≡ refused k n
