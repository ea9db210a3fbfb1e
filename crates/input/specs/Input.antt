-- What a read of standard input says. 01: The report, which gives the program its text there and says nothing of a read that fails.
-- To a reader: definitions to believe; the contracts of this crate cite them.
use Rattle.std.specs.Prelude.{◌≡◌, ℕ, ◌≤◌, min, List, length, take, Result, Ok, Err}

-- what is said to be read lies in the buffer; of a read that failed nothing is said
abbrev pub Within : {E : Type 0} → Result ℕ E → List ℕ → Type 0
Within (Ok n) buf = (n ≤ length buf) × (n ≡ length (take n buf))
Within (Err e) buf = Unit

-- what a read into that many places says by its answer: so many bytes, and no more than there are places; by an error, that it failed
abbrev pub answer : {E : Type 0} → Result ℕ E → ℕ → Result ℕ E
answer (Ok k) places = Ok (min k places)
answer (Err e) places = Err e
