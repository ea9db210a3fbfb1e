-- What a call leaves, as numbers, for programs in other languages. 01: Refused because of the state; Worthless checks.
-- To a reader: definitions to believe: what drivercheck_check returns and stores.
use Rattle.std.specs.Prelude.{◌≡◌, List, ℕ, set}
use Rattle.spec.specs.Bytes.{Bytes}
use Rattle.spec.specs.Check.{Exit}

-- 01, Refused because of the state: the five numbers of an answer stored, as many as there is room for
unfoldable pub told : List ℕ → ℕ → ℕ → ℕ → ℕ → ℕ → List ℕ
told ns number line written reports rounds = set (set (set (set (set ns 0 number) 1 line) 2 written) 3 reports) 4 rounds

-- 01, Refused because of the state; Worthless checks: the call leaves what x says: the answer's number r and its five numbers in ns',
-- the report buffer, the working slices
pub record Called (x : Exit) (r : ℕ) (buffer : Bytes) (ns ns' : List ℕ) (working : List (List ℕ)) : Type 0 where
  pub number : r ≡ x.answer.number
  pub numbers : ns' ≡ told ns x.answer.number x.answer.line x.answer.bytes_written x.answer.reports x.answer.rounds
  pub report : buffer ≡ x.answer.buffer
  pub working_zero : working ≡ x.working
