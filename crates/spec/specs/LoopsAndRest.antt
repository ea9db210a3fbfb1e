-- Demand 3, one claim about the answer of the check: which lines of the report text tell of loops, what such a line shows, and that
-- without one the opened designs come to rest. 01: The edge, Rest.
-- To a reader: a statement, `Rest` of the whole text and `RestFrom` from one module on, proved in proofs/LoopsAndRest.antt. Its words:
-- `check_drivers` is the whole answer, `check_design` the reports of a design, `Lent` a lent working slice (specs/Check.antt); `lines` the
-- lines of a text, `decode text` its design (specs/Refusal.antt); `report_text` the bytes written, `Begins` that bytes begin so, `loop_mark`
-- the `(E0504` of a loop, `loop_mark_of` the `(E0504 M ` of one of module M, `NoLoopLine` and `NoLoopLineOf` that no line begins so,
-- `GivesReports` that these reports are the answer's text (specs/Printing.antt); `hierarchy d` the modules of the design d within each other,
-- `Premises` the premises from each (specs/DesignHierarchy.antt); `Leads` the modules that instance lines lead to, `PremisesFrom` the premises
-- from one module on (specs/Hierarchy.antt); `HasClosedWalk`, `OnClosedWalk`, `Signals` the opened design, `Listing` a list of its signals,
-- each once, with all that they read, `opened_graph` these as a graph (specs/Opened.antt); `ComesToRest` rounds and rest (specs/Net.antt).
-- The premises, over collected lines: no module contains itself; no wire line heads a name of kind in or reg; no top-level out port has a
-- name of kind in; an instance output that is read is a top-level out port of every module so instanced.
use Rattle.std.specs.Prelude.{◌≡◌, ◌↔◌, List, ℕ}
use Rattle.spec.specs.Bytes.{Bytes}
use Rattle.spec.specs.Syntax.{Design}
use Rattle.spec.specs.Refusal.{lines, decode}
use Rattle.spec.specs.Edge.{Node}
use Rattle.spec.specs.Report.{loop_report, show_report}
use Rattle.spec.specs.Check.{Answer, Lent, check_design, check_drivers}
use Rattle.spec.specs.Graph.{◌∈◌}
use Rattle.spec.specs.Net.{ComesToRest}
use Rattle.spec.specs.Hierarchy.{Hierarchy, Leads, PremisesFrom}
use Rattle.spec.specs.Opened.{Signal, HasClosedWalk, OnClosedWalk, Listing, opened_graph, Signals}
use Rattle.spec.specs.DesignHierarchy.{hierarchy, Premises}
use Rattle.spec.specs.Printing.{Begins, loop_mark, loop_mark_of, report_text, NoLoopLine, NoLoopLineOf, GivesReports}

-- 01, Rest: a line of the report text shows a closed walk of the design opened from module m: it is the line of a loop report of m, and
-- that report's nodes lie in order on such a walk.
abbrev pub ShowsWalk : Design → ℕ → Bytes → Type 0
ShowsWalk d m s =
    (start : ℕ) × (w : List Node) × (loop_report m start w ∈ (check_design d).reports) × (s ≡ show_report (loop_report m start w)) × OnClosedWalk (hierarchy d) m w

-- 01, Rest: the design opened from m comes to rest: with its own list of signals, and with every other that has all that its members
-- read, there is for all values and functions one state that rests, it is the only one, and it stands from every start after as many rounds
-- as there are signals and after each later one, for every list of rounds.
abbrev pub OpenedRests : (H : Hierarchy) → H.Key → Type 1
OpenedRests H m = (signals : List Signal) (l : Listing H m signals) → ComesToRest (opened_graph H m signals l)

-- Demand 3 of the whole text: of an answer `a` over a buffer that held `old`, and the design `d` of its text. (Where a loop is reported of
-- one module, `RestFrom` still says that a module that does not lead there comes to rest.)
pub record LoopsAndRest (a : Answer) (old : Bytes) (d : Design) : Type 1 where
  -- the buffer at exit begins with the lines of the design's reports, which no other reports have; behind them it holds what it held
  pub gives : GivesReports a old (check_design d).reports
  -- no line begins `(E0504` exactly when no module opens into a design with a closed walk
  pub none_exactly : NoLoopLine (report_text a) ↔ ((m : ℕ) → ¬ HasClosedWalk (hierarchy d) m)
  -- each line that begins `(E0504` shows a closed walk of the design opened from its module
  pub each_shows : (s : Bytes) → s ∈ lines (report_text a) → Begins loop_mark s → (m : ℕ) × ShowsWalk d m s
  -- each opened design has finitely many signals: all its nodes, each once; its inputs and all registers are fixed
  pub signals : (m : ℕ) → Signals (hierarchy d) m
  -- where no line begins `(E0504` every opened design comes to rest
  pub rests : NoLoopLine (report_text a) → (m : ℕ) → OpenedRests (hierarchy d) m

-- Demand 3 from module m on: the same of the modules that m leads to, m among them, and of the design opened from m.
pub record LoopsAndRestFrom (a : Answer) (old : Bytes) (d : Design) (m : ℕ) : Type 1 where
  -- the buffer at exit begins with the lines of the design's reports, which no other reports have; behind them it holds what it held
  pub gives : GivesReports a old (check_design d).reports
  -- no line begins `(E0504 T ` for a module T that m leads to, exactly when m opens into a design with no closed walk
  pub none_exactly : NoLoopLineOf (Leads (hierarchy d) m) (report_text a) ↔ ¬ HasClosedWalk (hierarchy d) m
  -- each such line shows a closed walk of the design opened from T
  pub each_shows : (t : ℕ) → Leads (hierarchy d) m t → (s : Bytes) → s ∈ lines (report_text a) → Begins (loop_mark_of t) s → ShowsWalk d t s
  -- the opened design has finitely many signals: all its nodes, each once; its inputs and all registers are fixed
  pub signals : Signals (hierarchy d) m
  -- where there is no such line it comes to rest
  pub rests : NoLoopLineOf (Leads (hierarchy d) m) (report_text a) → OpenedRests (hierarchy d) m

-- Demand 3 from one module on, of every accepted text that meets the premises from there on, whatever it has beside them.
abbrev pub RestFrom : Type 1
RestFrom =
    (working : List Lent) (text buffer : Bytes) → (check_drivers working text buffer).number ≡ 0 → (m : ℕ) → PremisesFrom (hierarchy (decode text)) m
    → LoopsAndRestFrom (check_drivers working text buffer) buffer (decode text) m

-- Demand 3, of every accepted text that meets the premises. It follows from the claim from each module on.
abbrev pub Rest : Type 1
Rest =
    (working : List Lent) (text buffer : Bytes) → (check_drivers working text buffer).number ≡ 0 → Premises (decode text)
    → LoopsAndRest (check_drivers working text buffer) buffer (decode text)
