-- A value as one number, for programs in other languages. 01: The line; The value; Refused because of the state.
-- To a reader: definitions to believe: what drivercheck_eval takes and gives.
use Rattle.std.specs.Prelude.{ℕ, true, false, ltb}
use Rattle.spec.specs.Value.{Value, known, missing, outside}
use Rattle.consteval.specs.Worth.{biased}

-- 01, The line: the depth that is taken: at most the 32 brackets of the line format
abbrev pub allowed : ℕ → ℕ
allowed d = elim (ltb d 32) [ true ↦ d | false ↦ 32 ]

-- 01, The value; Refused because of the state: a value as one number: v + 2147483648, 2^32 for none, 2^32 + 1 for one outside INT
abbrev pub code : Value → ℕ
code (known z) = biased z
code missing = 4294967296
code outside = 4294967297
