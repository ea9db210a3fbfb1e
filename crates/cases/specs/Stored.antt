-- A file of stored cases, and what is counted over it. 01: The report. compare/README.md: Stored cases.
-- To a reader: definitions to believe; the promise of run, which counts the cases and those that differ, cites file_of and tally.
use Rattle.std.specs.Prelude.{Bool, true, false, List, [], ◌∷◌, ℕ, zero, suc, ◌+◌, ◌-◌, eqb, ltb, length, get_or, take, drop, Option, Some, None}
use Rattle.spec.specs.Bytes.{Bytes, bytes}
use Rattle.lines.specs.Parse.{key, word_at}
use Rattle.lines.specs.Parts.{part_end, piece}
use Rattle.lines.specs.Read.{number_after}
use Rattle.lines.specs.declared.parse.Number.{Number}
use Rattle.cases.specs.Answer.{agrees}
use Rattle.cases.specs.declared.record.Record.{Record}
use Rattle.cases.specs.declared.run.Tally.{Tally}

-- a stored case: its name, its text, the stored answer. In a file it is a line `(case NAME TEXTLEN ANSWERLEN)`, the text, the answer, and
-- nothing stands between two.
pub record Case : Type 0 where
  pub name : Bytes
  pub text : Bytes
  pub answer : Bytes

-- `(` and the word `case` stand at the head
unfoldable pub case_key : Bytes → Bool
case_key s = elim (eqb (get_or s 0 0) 40) [ true ↦ eqb (word_at s 1).key (key (bytes "case")) | false ↦ false ]

-- a record whose name ends at `name` and whose text begins at `body`, where so many bytes of text and of answer lie in the bytes; else bad
unfoldable pub sized : Bytes → ℕ → ℕ → ℕ → ℕ → Option Record
sized s name body text answer =
    elim (ltb (length s) body) [
      | true ↦ None
      | false ↦ elim (ltb (length s - body) text) [
        | true ↦ None
        | false ↦ elim (ltb (length s - body - text) answer) [ true ↦ None | false ↦ Some (record { name = name; body = body; text = text; answer = answer }) ]
      ]
    ]

-- a record whose line is closed at `at`, by a bracket and a line feed; else bad
unfoldable pub closed : Bytes → ℕ → ℕ → ℕ → ℕ → Option Record
closed s name at text answer =
    elim (eqb (get_or s at 0) 41) [
      | true ↦ elim (eqb (get_or s (at + 1) 0) 10) [ true ↦ sized s name (at + 2) text answer | false ↦ None ]
      | false ↦ None
    ]

-- a record with that number as ANSWERLEN; without one it is bad
abbrev pub answered : Bytes → ℕ → ℕ → Option Number → Option Record
answered s name text None = None
answered s name text (Some answer) = closed s name answer.next text answer.value

-- a record with that number as TEXTLEN; without one it is bad
abbrev pub texted : Bytes → ℕ → Option Number → Option Record
texted s name None = None
texted s name (Some text) = answered s name text.value (number_after s text.next)

-- a record whose name ends at `name`, with two numbers behind it, each behind one space
unfoldable pub named : Bytes → ℕ → Option Record
named s name = texted s name (number_after s name)

-- the record at the head of these bytes; its name begins one byte behind `case`, whatever that byte is
unfoldable pub record_of : Bytes → Option Record
record_of s = elim (case_key s) [ true ↦ named s (part_end s 6) | false ↦ None ]

-- what a file has: cases, and whether there is nothing else behind them
pub record File : Type 0 where
  pub cases : List Case
  pub whole : Bool

-- one case before those of a file
abbrev pub more_of : Case → File → File
more_of c f = record { cases = c ∷ f.cases; whole = f.whole }

-- the case whose record is at the head of these bytes: its name, behind six bytes and up to `name`, its text, from `body` on, and behind it its
-- answer
abbrev pub case_at : Bytes → Record → Case
case_at s r = record { name = piece s 5 r.name; text = take r.text (drop r.body s); answer = take r.answer (drop (r.body + r.text) s) }

-- the file at whose head that record is, `rest` giving the file behind it; a bad one is no case and ends it
unfoldable pub file_behind : (Bytes → File) → Bytes → Option Record → File
file_behind rest s None = record { cases = []; whole = false }
file_behind rest s (Some r) = more_of (case_at s r) (rest (drop (r.body + r.text + r.answer) s))

-- at most `fuel` cases, of which a file has no more than bytes
unfoldable pub file_within : ℕ → Bytes → File
file_within zero s = record { cases = []; whole = eqb (length s) 0 }
file_within (suc fuel) s =
    elim (eqb (length s) 0) [ true ↦ record { cases = []; whole = true } | false ↦ file_behind (file_within fuel) s (record_of s) ]

-- the cases that these bytes are, and whether they are nothing else
unfoldable pub file_of : Bytes → File
file_of s = file_within (length s) s

-- 01, The report: cases run against stored output: how many have a stored answer that is not what is printed
unfoldable pub differing : List Case → ℕ
differing [] = 0
differing (c ∷ cs) = elim (agrees c.text c.answer) [ true ↦ differing cs | false ↦ suc (differing cs) ]

-- 1 where something that is no case stands behind the cases, else 0
abbrev pub remainder : Bool → ℕ
remainder true = 0
remainder false = 1

-- 01, The report: cases run against stored output: how many there are, and how many differ; what is no case counts as one that differs
abbrev pub tally : File → Tally
tally f = record { cases = length f.cases; different = differing f.cases + remainder f.whole }
