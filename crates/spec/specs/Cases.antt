-- The ten worked cases P1 to P10, gathered into one table, and what it means that a case holds. 01: The report.
-- To a reader: definitions to believe (the texts, and Prints, which print_to's promise cites), and a statement, TenCases, proved in proofs/Cases.
use Rattle.std.specs.Prelude.{◌≡◌, false, List, [], ◌∷◌, ◌++◌, ℕ, length, take, drop}
use Prim.Native.String.{String}
use Rattle.spec.specs.Bytes.{Bytes, bytes}
use Rattle.spec.specs.Check.{Answer, refuse, Lent, too_short, check_drivers, program_buffer, printed}

-- 01, The line: a text is lines, each followed by a line feed.
abbrev pub text_of : List String → Bytes
text_of [] = []
text_of (l ∷ ls) = bytes l ++ 10 ∷ text_of ls

-- 01, Refused because of the state: acceptance, with the report text that is written; or a refusal.
pub data Outcome : Type 0 where
  accepted : (reports rounds : ℕ) → (written : Bytes) → Outcome
  refused : (number line : ℕ) → Outcome

-- 01, Refused because of the state: the answer that an outcome is on a lent report buffer; bytes past the written ones keep theirs,
-- and a refusal keeps them all.
abbrev pub answer_of : Outcome → Bytes → Answer
answer_of (accepted reports rounds written) buffer =
    record {
      number = 0;
      line = 0;
      bytes_written = length written;
      reports = reports;
      rounds = rounds;
      buffer = written ++ drop (length written) buffer;
    }
answer_of (refused number line) buffer = refuse number line buffer

-- 01, The report: a text, its outcome, and what the program prints for it.
pub record Case : Type 0 where
  pub text : Bytes
  pub outcome : Outcome
  pub prints : Bytes

-- 01, The report: what the program prints of an answer: the written bytes of its buffer, or the refusal.
abbrev pub program_prints : Answer → Bytes
program_prints a = printed a (take a.bytes_written a.buffer)

-- 01, Refused because of the state: the whole answer for a text, with every report buffer of 65,536 bytes, whatever it holds, and
-- whatever working memory is long enough.
abbrev pub Answers : Bytes → Outcome → Type 0
Answers text o =
    (working : List Lent) → too_short working ≡ false → (buffer : Bytes) → length buffer ≡ program_buffer
    → check_drivers working text buffer ≡ answer_of o buffer

-- 01, The report: what the program prints for a text, likewise.
abbrev pub Prints : Bytes → Bytes → Type 0
Prints text prints =
    (working : List Lent) → too_short working ≡ false → (buffer : Bytes) → length buffer ≡ program_buffer
    → program_prints (check_drivers working text buffer) ≡ prints

-- 01, The report: a case holds where the answer and what is printed are those stated.
abbrev pub Holds : Case → Type 0
Holds c = Answers c.text c.outcome × Prints c.text c.prints

-- 01, The report: every row of a table holds.
abbrev pub AllHold : List Case → Type 0
AllHold [] = Unit
AllHold (c ∷ cs) = Holds c × AllHold cs

-- 01, The report: a case that is accepted: the lines of its text, the numbers of reports and of rounds, the lines that are printed.
abbrev pub accepts : List String → (reports rounds : ℕ) → List String → Case
accepts text reports rounds prints =
    record { text = text_of text; outcome = accepted reports rounds (text_of prints); prints = text_of prints }

-- 01, The report: case P1, as it stands there.
abbrev pub P1 : Case
P1 =
    accepts
    ("(module 0 bound)"
    ∷ "(kind 1 in)"
    ∷ "(kind 2 out)"
    ∷ "(kind 3 wire)"
    ∷ "(kind 4 reg)"
    ∷ "(port out 2 (bits 8) 10)"
    ∷ "(reg 4 20)"
    ∷ "(wire 3 (all (n 1) (n 2)) 30)"
    ∷ "(drive (lv 2 40 7 4) (n 3))"
    ∷ "(drive (lv 2 50 2 0) (n 4))"
    ∷ [])
    3 0
    ("(E0502 0 10 2 gap 3)"
    ∷ "(E0503 0 20 4 none)"
    ∷ "(E0504 0 30 (walk 3 2 3))"
    ∷ [])

-- 01, The report: P2, the empty text.
abbrev pub P2 : Case
P2 = accepts [] 0 0 []

-- 01, The report: P3, Range(0, 3) and Range(3, 5) meet.
abbrev pub P3 : Case
P3 =
    accepts
    ("(module 0 bound)"
    ∷ "(kind 2 out)"
    ∷ "(port out 2 (bits 6) 10)"
    ∷ "(drive (lv 2 20 3 0) 0)"
    ∷ "(drive (lv 2 30 5 3) 0)"
    ∷ [])
    1 0
    ("(E0501 0 30 2 many)" ∷ [])

-- 01, The report: P4, Range(0, 3) and Range(4, 5) do not meet.
abbrev pub P4 : Case
P4 =
    accepts
    ("(module 0 bound)"
    ∷ "(kind 2 out)"
    ∷ "(port out 2 (bits 6) 10)"
    ∷ "(drive (lv 2 20 3 0) 0)"
    ∷ "(drive (lv 2 30 5 4) 0)"
    ∷ [])
    0 0 []

-- 01, The report: P5, Unknown and Whole do not meet. The index has no value, and the module is unbound.
abbrev pub P5 : Case
P5 =
    accepts
    ("(module 0 unbound)"
    ∷ "(kind 2 out)"
    ∷ "(port out 2 (bits 6) 10)"
    ∷ "(drive (lv 2 20 (n 9)) 0)"
    ∷ "(drive (lv 2 30) 0)"
    ∷ [])
    0 0 []

-- 01, The report: P6, width 4,097 covered to 4,094: gap 4095.
abbrev pub P6 : Case
P6 =
    accepts
    ("(module 0 bound)"
    ∷ "(kind 2 out)"
    ∷ "(port out 2 (bits 4097) 10)"
    ∷ "(drive (lv 2 20 4094 0) 0)"
    ∷ [])
    1 0
    ("(E0502 0 10 2 gap 4095)" ∷ [])

-- 01, The report: P7, width 5,000 covered to 4,095: none.
abbrev pub P7 : Case
P7 =
    accepts
    ("(module 0 bound)"
    ∷ "(kind 2 out)"
    ∷ "(port out 2 (bits 5000) 10)"
    ∷ "(drive (lv 2 20 4095 0) 0)"
    ∷ [])
    0 0 []

-- 01, The report: P8, repeat 0 to 4,096 unrolls: 4,096 rounds, and the drive is collected in the last of them.
abbrev pub P8 : Case
P8 =
    accepts
    ("(module 0 bound)"
    ∷ "(kind 2 out)"
    ∷ "(port out 2 bit 10)"
    ∷ "(repeat 9 0 4096 (constif (eq (n 9) 4095) (then (drive (lv 2 20) 0)) (else)))"
    ∷ [])
    0 4096 []

-- 01, The report: P9, repeat 0 to 4,097 runs once: no round, the variable has no value, and so the drive is not collected.
abbrev pub P9 : Case
P9 =
    accepts
    ("(module 0 bound)"
    ∷ "(kind 2 out)"
    ∷ "(port out 2 bit 10)"
    ∷ "(repeat 9 0 4097 (constif (eq (n 9) 4095) (then (drive (lv 2 20) 0)) (else)))"
    ∷ [])
    1 0
    ("(E0502 0 10 2 never)" ∷ [])

-- 01, The report: P10, wire reading itself: `walk 3 3`.
abbrev pub P10 : Case
P10 =
    accepts
    ("(module 0 bound)"
    ∷ "(kind 3 wire)"
    ∷ "(wire 3 (n 3) 30)"
    ∷ [])
    1 0
    ("(E0504 0 30 (walk 3 3))" ∷ [])

-- 01, The report: these ten are theorems about the definitions, gathered into one table.
abbrev pub table : List Case
table = P1 ∷ P2 ∷ P3 ∷ P4 ∷ P5 ∷ P6 ∷ P7 ∷ P8 ∷ P9 ∷ P10 ∷ []

-- 01, The report: the ten cases hold.
abbrev pub TenCases : Type 0
TenCases = AllHold table
