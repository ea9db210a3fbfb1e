-- The premises of demand 3: what they are over the lines of a text, which of them demand 3 needs and what for, a text for each that breaks it
-- alone, and texts that meet them all. 01: The edge, Rest.
-- To a reader: statements, proved in proofs/LoopsAndRest.antt and proofs/Premises.antt; the texts are examples.
use Rattle.std.specs.Prelude.{◌≡◌, ◌↔◌, List, [], ◌∷◌, ℕ}
use Rattle.std.proofs.Math.Option.{some}
use Rattle.spec.specs.Bytes.{Bytes}
use Rattle.spec.specs.Syntax.{Kind, in_kind, reg_kind, Expr, wire, Design}
use Rattle.spec.specs.Refusal.{decode}
use Rattle.spec.specs.Collect.{Collected}
use Rattle.spec.specs.Site.{kind_of}
use Rattle.spec.specs.Edge.{Node, signal}
use Rattle.spec.specs.Report.{loop_report}
use Rattle.spec.specs.Check.{Answer, Lent, check_design, check_drivers}
use Rattle.spec.specs.Printing.{report_text, NoLoopLineOf}
use Rattle.spec.specs.Graph.{◌∈◌, ClosedWalk}
use Rattle.spec.specs.Net.{ComesToRest}
use Rattle.spec.specs.Hierarchy.{Leads, From, Acyclic, Unheaded, FixedUnheaded, NoInputPort, OutputsArePorts, PremisesFrom}
use Rattle.spec.specs.Opened.{Signal, here, HasClosedWalk, OnClosedWalk, opened_signals, Listing, opened_graph, Fixed}
use Rattle.spec.specs.DesignHierarchy.{lines_of, header_of, hierarchy, instanced, Premises}
use Rattle.spec.specs.LoopsAndRest.{OpenedRests, LoopsAndRest, LoopsAndRestFrom}
use Rattle.spec.specs.Cases.{text_of, accepted, Answers}

-- ---- the premises over lines

-- 01, the opened design: a module contains itself where collected instance lines lead back to it.
abbrev pub InsideItself : Design → ℕ → Type 0
InsideItself d m = (ms : List ℕ) × ClosedWalk (instanced d) (m ∷ ms)

-- Demand 3, first premise: from module m on it says exactly that m leads to no module that contains itself.
abbrev pub AcyclicExactly : Type 0
AcyclicExactly = (d : Design) (m : ℕ) → Acyclic (hierarchy d) m ↔ From (hierarchy d) (λ t. ¬ InsideItself d t) m

-- 01, The edge: no collected wire line of module m heads a name of this kind.
abbrev pub NotWired : Kind → Design → ℕ → Type 0
NotWired k d m = (c : Collected) → c ∈ lines_of d m → (n start : ℕ) (e : Expr) → c.item ≡ wire n e start → ¬ (kind_of (header_of d m) n ≡ some k)

-- Demand 3, second premise: it says exactly that no collected wire line heads an input, and none a register.
abbrev pub HeadedByWires : Type 0
HeadedByWires =
    (d : Design) (m : ℕ) → (NotWired in_kind d m ↔ Unheaded (hierarchy d) in_kind m) × (NotWired reg_kind d m ↔ Unheaded (hierarchy d) reg_kind m)

-- Demand 3: the four premises by name.
pub data Premise : Type 0 where
  acyclic fixed_unheaded no_input_port outputs_are_ports : Premise

-- Demand 3: every module of a design meets a premise.
abbrev pub Meets : Premise → Design → Type 0
Meets acyclic d = (m : ℕ) → Acyclic (hierarchy d) m
Meets fixed_unheaded d = (m : ℕ) → FixedUnheaded (hierarchy d) m
Meets no_input_port d = (m : ℕ) → NoInputPort (hierarchy d) m
Meets outputs_are_ports d = (m : ℕ) → OutputsArePorts (hierarchy d) m

-- Demand 3: these are its premises.
abbrev pub TheseAreAll : Type 0
TheseAreAll = (d : Design) → Premises d ↔ ((p : Premise) → Meets p d)

-- ---- what is needed

-- 01, Rest: each loop report shows a closed walk, of every design, with no premise at all.
abbrev pub NoneFalse : Type 0
NoneFalse = (d : Design) (m start : ℕ) (w : List Node) → loop_report m start w ∈ (check_design d).reports → OnClosedWalk (hierarchy d) m w

-- Demand 3 holds without the third premise, on out ports.
abbrev pub ThreeAreEnough : Type 1
ThreeAreEnough =
    (working : List Lent) (text buffer : Bytes) → (check_drivers working text buffer).number ≡ 0
    → (m : ℕ) → Acyclic (hierarchy (decode text)) m → From (hierarchy (decode text)) (FixedUnheaded (hierarchy (decode text))) m
    → From (hierarchy (decode text)) (OutputsArePorts (hierarchy (decode text))) m
    → LoopsAndRestFrom (check_drivers working text buffer) buffer (decode text) m

-- Demand 3: the half of the second premise on registers is for fixed registers alone: without it no loop is reported exactly when no walk
-- closes, and then the opened design comes to rest.
abbrev pub RegistersOnlyFixed : Type 1
RegistersOnlyFixed =
    (working : List Lent) (text buffer : Bytes) → (check_drivers working text buffer).number ≡ 0
    → (m : ℕ) → Acyclic (hierarchy (decode text)) m → From (hierarchy (decode text)) (Unheaded (hierarchy (decode text)) in_kind) m
    → From (hierarchy (decode text)) (OutputsArePorts (hierarchy (decode text))) m
    → (NoLoopLineOf (Leads (hierarchy (decode text)) m) (report_text (check_drivers working text buffer)) ↔ ¬ HasClosedWalk (hierarchy (decode text)) m)
    × (NoLoopLineOf (Leads (hierarchy (decode text)) m) (report_text (check_drivers working text buffer)) → OpenedRests (hierarchy (decode text)) m)

-- 01, Rest: no loop is reported of a module that m leads to, m among them.
abbrev pub NoLoopReportFrom : Design → ℕ → Type 0
NoLoopReportFrom d m = (t start : ℕ) (w : List Node) → Leads (hierarchy d) m t → ¬ (loop_report t start w ∈ (check_design d).reports)

-- 01, Rest: and nowhere else, which asks for the first premise alone. Where the design opened from m, listed as it is, comes to rest, no loop is
-- reported of the modules that m leads to.
abbrev pub OnlyThere : Type 1
OnlyThere =
    (d : Design) (m : ℕ) → Acyclic (hierarchy d) m
    → ((l : Listing (hierarchy d) m (opened_signals (hierarchy d) m)) → ComesToRest (opened_graph (hierarchy d) m (opened_signals (hierarchy d) m) l)) → NoLoopReportFrom d m

-- Demand 3: a design that breaks one premise and meets the others.
pub record BreaksOnly (p : Premise) (d : Design) : Type 0 where
  pub broken : ¬ Meets p d
  pub others : (q : Premise) → ¬ (q ≡ p) → Meets q d

-- 01, Rest: an accepted text of which nothing at all is reported, and yet a module opens into a design with a closed walk.
pub record LoopUnseen (text : Bytes) : Type 0 where
  pub silent : Answers text (accepted 0 0 [])
  pub unreported : (check_design (decode text)).reports ≡ []
  pub walk : (m : ℕ) × HasClosedWalk (hierarchy (decode text)) m

-- 01, Rest: then demand 3 fails of its design, whatever the answer.
abbrev pub UnseenFails : Type 1
UnseenFails = (text : Bytes) → LoopUnseen text → (a : Answer) (old : Bytes) → ¬ LoopsAndRest a old (decode text)

-- 01, Rest: and of a design in which an input or register is not fixed.
abbrev pub UnfixedFails : Type 1
UnfixedFails = (d : Design) (m : ℕ) → ¬ Fixed (hierarchy d) m → (a : Answer) (old : Bytes) → ¬ LoopsAndRest a old d

-- 01, Rest: where no module contains itself, a loop unseen is a design that does not come to rest, though nothing is reported.
abbrev pub UnseenMoves : Type 1
UnseenMoves =
    (text : Bytes) → LoopUnseen text → Meets acyclic (decode text)
    → (m : ℕ)
    × ((l : Listing (hierarchy (decode text)) m (opened_signals (hierarchy (decode text)) m))
    → ¬ ComesToRest (opened_graph (hierarchy (decode text)) m (opened_signals (hierarchy (decode text)) m) l))

-- 01, Rest: an opened design without end: no list of signals that has this one has all that its members read.
abbrev pub Endless : Design → ℕ → Signal → Type 0
Endless d m s = (signals : List Signal) → Listing (hierarchy d) m signals → ¬ (s ∈ signals)

-- ---- texts that break one

-- 01, Rest: a module that contains itself: output 2 reaches input 4 only through the copy inside, whose summary is still being made.
abbrev pub inside_itself : Bytes
inside_itself =
    text_of
    ("(module 0 bound)"
    ∷ "(kind 1 in)"
    ∷ "(kind 2 out)"
    ∷ "(kind 4 in)"
    ∷ "(kind 5 inst)"
    ∷ "(port out 2 bit 10)"
    ∷ "(drive (lv 2 20) (all (n 1) (f (n 5) 2)))"
    ∷ "(inst 5 - 0 30 (conn 1 (n 4)) (conn 4 (f (n 5) 2)))"
    ∷ [])

-- 01, Rest: a wire line heads input 1, and a summary stops there.
abbrev pub wired_input : Bytes
wired_input =
    text_of
    ("(module 0 bound)"
    ∷ "(kind 5 inst)"
    ∷ "(inst 5 - 1 10 (conn 2 (f (n 5) 3)))"
    ∷ "(module 1 bound)"
    ∷ "(kind 1 in)"
    ∷ "(kind 2 in)"
    ∷ "(kind 3 out)"
    ∷ "(port out 3 bit 20)"
    ∷ "(wire 1 (n 2) 30)"
    ∷ "(drive (lv 3 40) (n 1))"
    ∷ [])

-- 01, Rest: 1 is read of an instance, and no out port of its module: no summary has it.
abbrev pub no_port : Bytes
no_port =
    text_of
    ("(module 0 bound)"
    ∷ "(kind 5 inst)"
    ∷ "(inst 5 - 1 10 (conn 1 (f (n 5) 1)))"
    ∷ "(module 1 bound)"
    ∷ "(kind 1 in)"
    ∷ [])

-- 01, Rest: a wire line heads register 4, which then reads 1.
abbrev pub wired_register : Bytes
wired_register = text_of ("(module 0 bound)" ∷ "(kind 1 in)" ∷ "(kind 4 reg)" ∷ "(wire 4 (n 1) 10)" ∷ [])

-- 01, Rest: an out port has the name of input 1.
abbrev pub input_port : Bytes
input_port = text_of ("(module 0 bound)" ∷ "(kind 1 in)" ∷ "(port out 1 bit 10)" ∷ [])

-- Demand 3: each premise is broken by a text that meets the others, the second in each of its halves alone. Of three texts a loop is then
-- unseen, and of the first the opened design has no end; of `wired_register` the register is not fixed. So demand 3 fails of these
-- (`UnseenFails`, `UnfixedFails`). The last breaks nothing: demand 3 holds of it by `ThreeAreEnough`.
pub record EachPremise : Type 0 where
  pub inside : BreaksOnly acyclic (decode inside_itself) × LoopUnseen inside_itself × Endless (decode inside_itself) 0 (here (signal 2))
  pub input : BreaksOnly fixed_unheaded (decode wired_input) × ((m : ℕ) → Unheaded (hierarchy (decode wired_input)) reg_kind m) × LoopUnseen wired_input
  pub register : BreaksOnly fixed_unheaded (decode wired_register) × ((m : ℕ) → Unheaded (hierarchy (decode wired_register)) in_kind m)
      × Answers wired_register (accepted 0 0 []) × ¬ Fixed (hierarchy (decode wired_register)) 0
  pub outputs : BreaksOnly outputs_are_ports (decode no_port) × LoopUnseen no_port
  pub port : BreaksOnly no_input_port (decode input_port) × Answers input_port (accepted 1 0 (text_of ("(E0502 0 10 1 never)" ∷ [])))

-- ---- texts that meet them

-- 01, Rest: module 1 contains itself, and module 0 does not lead there.
abbrev pub beside_itself : Bytes
beside_itself =
    text_of
    ("(module 0 bound)"
    ∷ "(kind 1 in)"
    ∷ "(kind 2 out)"
    ∷ "(port out 2 bit 10)"
    ∷ "(drive (lv 2 20) (n 1))"
    ∷ "(module 1 bound)"
    ∷ "(kind 5 inst)"
    ∷ "(inst 5 - 1 30)"
    ∷ [])

-- Demand 3 then holds from module 0 on (`RestFrom`), though the whole text breaks a premise.
pub record OthersDoNotMatter : Type 0 where
  pub broken : ¬ Meets acyclic (decode beside_itself)
  pub from_zero : PremisesFrom (hierarchy (decode beside_itself)) 0
  pub answer : Answers beside_itself (accepted 0 0 [])

-- 01, Rest: output 2 reads output 3 of an instance, which reads input 1.
abbrev pub quiet_instance : Bytes
quiet_instance =
    text_of
    ("(module 0 bound)"
    ∷ "(kind 1 in)"
    ∷ "(kind 2 out)"
    ∷ "(kind 5 inst)"
    ∷ "(port out 2 bit 10)"
    ∷ "(inst 5 - 1 20 (conn 1 (n 1)))"
    ∷ "(drive (lv 2 30) (f (n 5) 3))"
    ∷ "(module 1 bound)"
    ∷ "(kind 1 in)"
    ∷ "(kind 3 out)"
    ∷ "(port out 3 bit 40)"
    ∷ "(drive (lv 3 50) (n 1))"
    ∷ [])

-- 01, Rest: the same, but the instance's input is connected to output 2.
abbrev pub looped_instance : Bytes
looped_instance =
    text_of
    ("(module 0 bound)"
    ∷ "(kind 2 out)"
    ∷ "(kind 5 inst)"
    ∷ "(port out 2 bit 10)"
    ∷ "(inst 5 - 1 20 (conn 1 (n 2)))"
    ∷ "(drive (lv 2 30) (f (n 5) 3))"
    ∷ "(module 1 bound)"
    ∷ "(kind 1 in)"
    ∷ "(kind 3 out)"
    ∷ "(port out 3 bit 40)"
    ∷ "(drive (lv 3 50) (n 1))"
    ∷ [])

-- Demand 3 speaks of something. Within all premises, with an instance inside, there is a text without a report, whose opened
-- designs come to rest, and one whose loop runs through the instance, and is reported.
pub record WithinPremises : Type 1 where
  pub quiet : Premises (decode quiet_instance)
  pub quiet_answer : Answers quiet_instance (accepted 0 0 [])
  pub quiet_rests : (m : ℕ) → OpenedRests (hierarchy (decode quiet_instance)) m
  pub looped : Premises (decode looped_instance)
  pub looped_answer : Answers looped_instance (accepted 1 0 (text_of ("(E0504 0 20 (walk (u 5 - 3) 2 (u 5 - 3)))" ∷ [])))
  pub looped_walk : HasClosedWalk (hierarchy (decode looped_instance)) 0
