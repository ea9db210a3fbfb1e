-- A verdict as one number, for programs in other languages. 01: Refused because of the text.
-- To a reader: definitions to believe: what the number that drivercheck_lines returns stands for.
use Rattle.std.specs.Prelude.{ℕ, ◌+◌, ◌*◌}
use Rattle.spec.specs.Refusal.{Verdict, well_formed, refused}

-- 01, Refused because of the text: NUMBER and LINE of a refusal, as 2^32 NUMBER + LINE, and 0 for a well formed text; no refusal has the number 0
abbrev pub code : Verdict → ℕ
code well_formed = 0
code (refused k n) = k * 4294967296 + n
