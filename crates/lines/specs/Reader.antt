-- What the reader answers and leaves in the lent tables, for every text. 01: Refused because of the text; Refused because of the state; Worthless
-- checks; Forms for specific places.
-- To a reader: definitions that contracts of this and other crates cite; each such contract is proved; number_of and line_of give an answer's number
-- and line in 01.
use Rattle.std.specs.Prelude.{true, false, Result, Ok, Err, List, ℕ, ◌*◌, ltb, length, replicate}
use Rattle.spec.specs.Bytes.{Bytes}
use Rattle.spec.specs.Syntax.{name_bound}
use Rattle.spec.specs.Refusal.{Verdict, well_formed, refused, refusal, decode}
use Rattle.lines.specs.Read.{fault_code, fault_of}
use Rattle.lines.specs.Tables.{put_kinds, put_mods}
use Rattle.lines.specs.declared.tables.ReadError.{ReadError}
use Rattle.lines.specs.declared.tables.ReadError.TheVariants.{Short, Refused}

-- 01, Forms for specific places; Refused because of the state: 01's number of each answer: a lent table that is too short gives 20, acceptance 0
abbrev pub number_of : Result ℕ ReadError → ℕ
number_of (Err Short) = 20
number_of (Err (Refused r)) = fault_code r.fault
number_of (Ok m) = 0

-- 01, Forms for specific places; Refused because of the state: 01's line of each answer: 0 for 20 and for acceptance
abbrev pub line_of : Result ℕ ReadError → ℕ
line_of (Err Short) = 0
line_of (Err (Refused r)) = r.line
line_of (Ok m) = 0

-- 01, Refused because of the text: one choice for answer and tables: a text that is refused, by its number and line, or one that is not
abbrev pub by_verdict : {A : Type 0} → (ℕ → ℕ → A) → A → Verdict → A
by_verdict bad good well_formed = good
by_verdict bad good (refused k n) = bad k n

-- 01, Refused because of the state: one choice for answer and tables: tables for fewer than 32 modules, of 256 names or of four places each, or not
unfoldable pub by_room : {A : Type 0} → A → A → ℕ → ℕ → A
by_room short fits kinds mods = elim (ltb kinds (32 * name_bound)) [ true ↦ short | false ↦ elim (ltb mods 128) [ true ↦ short | false ↦ fits ] ]

-- 01, Refused because of the text: the answer for a text that is refused with that number and line
abbrev pub unread : ℕ → ℕ → Result ℕ ReadError
unread k n = Err (Refused (record { fault = fault_of k; line = n }))

-- 01, Refused because of the state; Refused because of the text: the answer, by the places of the two tables and the text: one is too short, before
-- 1; or the text is refused; or so many modules
unfoldable pub read_as : ℕ → ℕ → Bytes → Result ℕ ReadError
read_as kinds mods t = by_room (Err Short) (by_verdict unread (Ok (length (decode t))) (refusal t)) kinds mods

-- 01, Worthless checks: what every lent byte becomes: what the table of kinds holds afterwards, of what it held and how long the other is: the same
-- where one is too short, zeros where the text is refused, else the kinds of its design and zeros
unfoldable pub kinds_after : List ℕ → ℕ → Bytes → List ℕ
kinds_after kinds mods t =
    let zeros = replicate {A = ℕ} (length kinds) 0 in
    by_room kinds (by_verdict (λ k n. zeros) (put_kinds 0 (decode t) zeros) (refusal t)) (length kinds) mods

-- 01, Worthless checks: what the table of places holds afterwards, of what it held and how long the other is: likewise, with the places of the
-- design's modules
unfoldable pub mods_after : List ℕ → ℕ → Bytes → List ℕ
mods_after mods kinds t =
    let zeros = replicate {A = ℕ} (length mods) 0 in
    by_room mods (by_verdict (λ k n. zeros) (put_mods 0 0 (decode t) zeros) (refusal t)) kinds (length mods)
