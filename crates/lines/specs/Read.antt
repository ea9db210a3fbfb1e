-- What the code of src/read.rt does, on the bytes of a text and a position in it. proofs/ ties it to Refusal. 01: The line; Refused because of the
-- text; Forms for specific places.
-- To a reader: definitions that contracts of this and other crates cite; each such contract is proved; check_drivers' own promise cites none of them.
use Rattle.std.specs.Prelude.{Bool, true, false, List, [], ◌∷◌, Option, Some, None, Result, Ok, Err, ℕ, suc, ◌+◌, ◌-◌, eqb, leb, get_or, drop}
use Rattle.spec.specs.Bytes.{Bytes, bytes}
use Rattle.spec.specs.Syntax.{name_bound}
use Rattle.spec.specs.Decode.{depth_limit}
use Rattle.spec.specs.Refusal.{Verdict, well_formed, refused, set_fault}
use Rattle.lines.specs.Parse.{key, word_at, number_at, scan}
use Rattle.lines.specs.declared.parse.Cat.TheVariants.{L}
use Rattle.lines.specs.declared.parse.Parsed.{Parsed}
use Rattle.lines.specs.declared.parse.Number.{Number}
use Rattle.lines.specs.declared.read.Step.{Step}
use Rattle.lines.specs.declared.read.Step.TheVariants.{Module, Kind, Val, Item}
use Rattle.lines.specs.declared.read.Fault.{Fault}
use Rattle.lines.specs.declared.read.Fault.TheVariants.{TooLong, OutsideSet, NotOneForm, BadlyWritten, OutOfRange, OutOfPlace, OneTooMany}

-- 01, Refused because of the text: the number of a fault
abbrev pub fault_code : Fault → ℕ
fault_code TooLong = 1
fault_code OutsideSet = 2
fault_code NotOneForm = 3
fault_code BadlyWritten = 4
fault_code OutOfRange = 5
fault_code OutOfPlace = 6
fault_code OneTooMany = 7

-- 01, Refused because of the text: the faults, in the order of their numbers
abbrev pub faults : List Fault
faults = TooLong ∷ OutsideSet ∷ NotOneForm ∷ BadlyWritten ∷ OutOfRange ∷ OutOfPlace ∷ OneTooMany ∷ []

-- 01, Refused because of the text: the fault with a number from 1 to 7, which each refusal of a text has
abbrev pub fault_of : ℕ → Fault
fault_of k = get_or faults (k - 1) OneTooMany

-- 01, Refused because of the text: of 3: whether the first line of these bytes, in which k brackets are open, is closed by its last byte and not
-- before, and is nowhere deeper than 32 brackets; k is 1 or more
unfoldable pub closes_at : ℕ → Bytes → Bool
closes_at k [] = false
closes_at k (c ∷ s) =
    elim (eqb c 10) [
      | true ↦ false
      | false ↦ elim (eqb c 40) [
        | true ↦ elim (leb depth_limit k) [ true ↦ false | false ↦ closes_at (suc k) s ]
        | false ↦ elim (eqb c 41) [
          | true ↦ elim (eqb k 1) [ true ↦ eqb (get_or s 0 0) 10 | false ↦ closes_at (k - 1) s ]
          | false ↦ closes_at k s
        ]
      ]
    ]

-- 01, Refused because of the text: of a line that is not well written, `at` being behind its opening bracket: 4 where it is one closed form, else 3
unfoldable pub not_written : Bytes → ℕ → Fault
not_written t at = elim (closes_at 1 (drop at t)) [ true ↦ BadlyWritten | false ↦ NotOneForm ]

-- 01, Refused because of the text: the number that a verdict names, and 0 for no fault
abbrev pub fault_number : Verdict → ℕ
fault_number well_formed = 0
fault_number (refused k n) = k

-- 01, Refused because of the text: the line that a verdict names, and 0 for no fault
abbrev pub fault_line : Verdict → ℕ
fault_line well_formed = 0
fault_line (refused k n) = n

-- 01, Forms for specific places; Refused because of the text: 01's number of what a line is: its fault, 3 to 7, and 0 where it adds something
abbrev pub step_number : Result Step Fault → ℕ
step_number (Err f) = fault_code f
step_number (Ok x) = 0

-- 01, Refused because of the text: the line that a verdict names; none for no fault
abbrev pub line_named : Verdict → Option ℕ
line_named well_formed = None
line_named (refused k n) = Some n

-- 01, Refused because of the text: the line that 2 names; none where the text does not have that fault
unfoldable pub set_line : Bytes → Option ℕ
set_line t = line_named (set_fault t)

-- 01, The line: the number behind a space that stands here; none where there is no space or no number
unfoldable pub number_after : Bytes → ℕ → Option Number
number_after t at = elim (eqb (get_or t at 0) 32) [ true ↦ number_at t (at + 1) | false ↦ None ]

-- 01, Refused because of the text: a `module` line with that M, so many modules having been read: 4 without an M, 6 where it is not the next number,
-- 7 for a 33rd module; else the module, with the place of its line feed
abbrev pub module_step : Option Number → ℕ → ℕ → Result Step Fault
module_step None modules feed = Err BadlyWritten
module_step (Some n) modules feed = elim (eqb n.value modules) [ true ↦ elim (leb 32 modules) [ true ↦ Err OneTooMany | false ↦ Ok (Module feed) ] | false ↦ Err OutOfPlace ]

-- 01, Refused because of the text: a `kind` line for the name with that number: 4 without one, 5 for one out of range, 7 for a second kind; else the
-- kind, with the place of its line feed and the name
abbrev pub kind_step : Option Number → List ℕ → ℕ → Result Step Fault
kind_step None seen feed = Err BadlyWritten
kind_step (Some n) seen feed = elim (leb name_bound n.value) [ true ↦ Err OutOfRange | false ↦ elim (eqb (get_or seen n.value 0) 0) [ true ↦ Ok (Kind feed n.value) | false ↦ Err OneTooMany ] ]

-- 01, Refused because of the text: a line that is well written and in range, by its head word at `at`: `module`; 6 before any module; `kind` and
-- `val`, 6 after an item; else an item
unfoldable pub head_step : Bytes → ℕ → ℕ → ℕ → Bool → List ℕ → Result Step Fault
head_step t at feed modules items seen =
    elim (eqb (word_at t at).key (key (bytes "module"))) [
      | true ↦ module_step (number_after t (word_at t at).next) modules feed
      | false ↦ elim (eqb modules 0) [
        | true ↦ Err OutOfPlace
        | false ↦ elim (eqb (word_at t at).key (key (bytes "kind"))) [
          | true ↦ elim items [ true ↦ Err OutOfPlace | false ↦ kind_step (number_after t (word_at t at).next) seen feed ]
          | false ↦ elim (eqb (word_at t at).key (key (bytes "val"))) [
            | true ↦ elim items [ true ↦ Err OutOfPlace | false ↦ Ok (Val feed) ]
            | false ↦ Ok (Item feed)
          ]
        ]
      ]
    ]

-- 01, Refused because of the text: the line at a position as it was parsed: 3 or 4 where it is badly written or goes on behind its form, 5 where a
-- number is out of range, else by its head
abbrev pub parsed_step : Option Parsed → Bytes → ℕ → ℕ → Bool → List ℕ → Result Step Fault
parsed_step None t at modules items seen = Err (not_written t (at + 1))
parsed_step (Some p) t at modules items seen =
    elim (eqb (get_or t p.next 0) 10) [
      | true ↦ elim p.range [ true ↦ head_step t (at + 1) p.next modules items seen | false ↦ Err OutOfRange ]
      | false ↦ Err (not_written t (at + 1))
    ]

-- 01, Refused because of the text: the line that starts at a position, so many modules having been read, of which the last has an item or not and
-- gives these kinds: its fault, 3 to 7, or what it adds
unfoldable pub line_step : Bytes → ℕ → ℕ → Bool → List ℕ → Result Step Fault
line_step t at modules items seen = elim (eqb (get_or t at 0) 40) [ true ↦ parsed_step (scan depth_limit L t at) t at modules items seen | false ↦ Err NotOneForm ]
