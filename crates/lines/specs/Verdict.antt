-- What the reader answers, in terms of Refusal. 01: The line; Refused because of the text; Forms for specific places.
-- To a reader: definitions that contracts of this and other crates cite; each such contract is proved; number_of and line_of give an answer's number
-- and line in 01.
use Rattle.std.specs.Prelude.{◌≡◌, true, Result, Ok, Err, List, ℕ, ◌≤◌, length}
use Rattle.spec.specs.Bytes.{Bytes}
use Rattle.spec.specs.Refusal.{Verdict, well_formed, refused, ends_in_feed, decode_lines, gather}
use Rattle.lines.specs.Read.{fault_code, fault_of}
use Rattle.lines.specs.declared.read.Refusal.{Refusal}

-- 01, Refused because of the text: the answer for a text that is refused with that number and line
abbrev pub refused_as : ℕ → ℕ → Result ℕ Refusal
refused_as k n = Err (record { fault = fault_of k; line = n })

-- 01, Refused because of the text: the answer for a verdict, with the number of modules of a well formed text
abbrev pub told : Verdict → ℕ → Result ℕ Refusal
told well_formed modules = Ok modules
told (refused k n) modules = refused_as k n

-- 01, Forms for specific places; Refused because of the text: 01's number of each answer, 0 for a well formed text
abbrev pub number_of : Result ℕ Refusal → ℕ
number_of (Err r) = fault_code r.fault
number_of (Ok m) = 0

-- 01, Forms for specific places; Refused because of the text: 01's line of each answer, 0 for a well formed text
abbrev pub line_of : Result ℕ Refusal → ℕ
line_of (Err r) = r.line
line_of (Ok m) = 0

-- 01, Refused because of the text: a text that is not too long (1) and ends in a line feed or is empty (2)
pub record Ended (t : Bytes) : Type 0 where
  pub short : length t ≤ 32768
  pub ends : ends_in_feed t ≡ true

-- 01, The line: how many modules these lines have
unfoldable pub modules_in : List Bytes → ℕ
modules_in ls = length (gather (decode_lines ls)).modules
