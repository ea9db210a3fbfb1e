-- What the program prints for a text, and whether a stored answer is that. 01: The report.
-- To a reader: definitions to believe; the promise of compare, which holds a stored answer against what is printed, cites them.
use Rattle.std.specs.Prelude.{Bool, [], replicate}
use Rattle.spec.specs.Bytes.{Bytes, same_bytes}
use Rattle.spec.specs.Check.{check_drivers, program_buffer}
use Rattle.spec.specs.Cases.{program_prints}

-- 01, The report: what the program prints for a text, with working memory enough and a report buffer of 65,536 zeros; it is the same with any other
-- bytes in it
unfoldable pub answer_to : Bytes → Bytes
answer_to text = program_prints (check_drivers [] text (replicate program_buffer 0))

-- 01, The report: a case run against stored output: the stored answer is what is printed
unfoldable pub agrees : Bytes → Bytes → Bool
agrees text stored = same_bytes (answer_to text) stored
