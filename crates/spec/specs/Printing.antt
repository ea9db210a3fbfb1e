-- The report text loses nothing: from its bytes the reports are known, from a line's first bytes its code. 01: The report.
-- To a reader: statements, `Printing` and `Acceptance`, proved in proofs/Printing.antt; and words for demand 3, definitions to believe
-- (`report_text`, `Begins`, the marks, `NoLoopLine`, `NoLoopLineOf`).
use Rattle.std.specs.Prelude.{◌≡◌, ◌↔◌, List, [], ◌∷◌, ◌++◌, map, ℕ, length, take, drop}
use Rattle.spec.specs.Bytes.{Bytes, bytes, show_number}
use Rattle.spec.specs.Refusal.{lines, decode}
use Rattle.spec.specs.Edge.{Node}
use Rattle.spec.specs.Report.{Report, report, loop_report, code_of, show_report, show_reports}
use Rattle.spec.specs.Check.{Answer, check_design, Lent, check_drivers}
use Rattle.spec.specs.Graph.{◌∈◌}

-- 01, The report: bytes that begin with these.
abbrev pub Begins : Bytes → Bytes → Type 0
Begins w s = (r : Bytes) × (s ≡ w ++ r)

-- 01, The report: CODE.
abbrev pub report_code : Report → Bytes
report_code (report m start n d) = code_of d
report_code (loop_report m start w) = bytes "E0504"

-- 01, The report: a line with this code begins `(CODE `, and no other.
abbrev pub code_mark : Bytes → Bytes
code_mark code = 40 ∷ code ++ 32 ∷ []

-- 01, The report: a line of a loop begins so, and no other.
abbrev pub loop_mark : Bytes
loop_mark = bytes "(E0504"

-- 01, The report: a line of a loop of module m begins `(E0504 M `, and no other.
abbrev pub loop_mark_of : ℕ → Bytes
loop_mark_of m = loop_mark ++ 32 ∷ show_number m ++ 32 ∷ []

-- 01, The report: one text of report lines. `lines_are`: a line for each report, in order. `same`: two lists of reports with one text are
-- one. `code_lines`: a line of the text begins `(CODE ` exactly when it is a report's with that code, whatever bytes without a blank are
-- taken for CODE. `loop_lines`: it begins `(E0504` exactly when it is a loop report's. `module_lines`: and `(E0504 M ` exactly when it is a
-- loop report's of module M.
pub record Printing : Type 0 where
  pub lines_are : (rs : List Report) → lines (show_reports rs) ≡ map show_report rs
  pub same : (rs qs : List Report) → show_reports rs ≡ show_reports qs → rs ≡ qs
  pub code_lines : (rs : List Report) (code s : Bytes) → ¬ (32 ∈ code) → s ∈ lines (show_reports rs)
      → Begins (code_mark code) s ↔ ((r : Report) × (r ∈ rs) × (report_code r ≡ code) × (s ≡ show_report r))
  pub loop_lines : (rs : List Report) (s : Bytes) → s ∈ lines (show_reports rs)
      → Begins loop_mark s ↔ ((m : ℕ) × (start : ℕ) × (w : List Node) × (loop_report m start w ∈ rs) × (s ≡ show_report (loop_report m start w)))
  pub module_lines : (rs : List Report) (m : ℕ) (s : Bytes) → s ∈ lines (show_reports rs)
      → Begins (loop_mark_of m) s ↔ ((start : ℕ) × (w : List Node) × (loop_report m start w ∈ rs) × (s ≡ show_report (loop_report m start w)))

-- 01, Refused because of the state: the report text is the bytes written.
abbrev pub report_text : Answer → Bytes
report_text a = take a.bytes_written a.buffer

-- 01, The report: no line of a text begins `(E0504`.
abbrev pub NoLoopLine : Bytes → Type 0
NoLoopLine text = (s : Bytes) → s ∈ lines text → ¬ Begins loop_mark s

-- 01, The report: no line of a text begins `(E0504 M ` with one of these modules.
abbrev pub NoLoopLineOf : (ℕ → Type 0) → Bytes → Type 0
NoLoopLineOf P text = (m : ℕ) → P m → (s : Bytes) → s ∈ lines text → ¬ Begins (loop_mark_of m) s

-- 01, Refused because of the state; The report: an answer that gives these reports, over a buffer that held `old`: they are its text,
-- with their number and its bytes counted, and whatever reports have that text are they; the bytes past the written ones keep theirs; and no line begins `(E0504` exactly when no
-- loop is reported.
pub record GivesReports (a : Answer) (old : Bytes) (rs : List Report) : Type 0 where
  pub written : a.bytes_written ≡ length (show_reports rs)
  pub text : report_text a ≡ show_reports rs
  pub only : (qs : List Report) → report_text a ≡ show_reports qs → qs ≡ rs
  pub counted : a.reports ≡ length rs
  pub long : length a.buffer ≡ length old
  pub past : drop a.bytes_written a.buffer ≡ drop a.bytes_written old
  pub silent : NoLoopLine (report_text a) ↔ ((m start : ℕ) (w : List Node) → ¬ (loop_report m start w ∈ rs))

-- The theorem of the whole answer: acceptance gives the reports of the design. 01: Refused because of the state; The report.
abbrev pub Acceptance : Type 0
Acceptance = (working : List Lent) (text buffer : Bytes) → (check_drivers working text buffer).number ≡ 0 → GivesReports (check_drivers working text buffer) buffer (check_design (decode text)).reports
