-- Cutting the listed loops is enough: without the final step of each reported walk no loop is left. 02: U8.
-- In the field's words: the back edges of a depth-first search are a minimal feedback arc set. The final step matters: cut at another of its
-- steps, a listed walk may leave a loop that is not listed. None of these cuts can be spared, but fewer may do at other steps.
-- To a reader: statements, proved in proofs/Cuts.antt and proofs/CutOpened.antt: `CyclesCut` of the search of any module's nodes, `ReportsCut` of
-- the loop lines of every accepted text, `OpenedCut` of opened designs, `AtConnections` of one way to cut these. Their words: `final_steps` of
-- walks, the graph `cut` of some steps, `Simple`, `Topological`, `Goes` (specs/DepthFirstFinds.antt); `next_nodes` the edges that a search
-- walks, `find_cycles` the walks that it reports (specs/FindCycles.antt); `heads_at` what a module's lines head and read, with the summaries of
-- its instances (specs/Meaning.antt), `all_reads` what a node reads by them (specs/Edge.antt); of the answer and of opened designs those that
-- specs/LoopsAndRest.antt names, and `Edge` an edge of a module's own graph, through its instances too (specs/OwnGraph.antt).
use Rattle.std.specs.Prelude.{◌≡◌, ◌↔◌, Bool, true, false, ◌&&◌, ◌||◌, List, [], ◌∷◌, map, ℕ, length, eqb, ℤ}
use Rattle.std.proofs.Math.Option.{Option, some}
use Rattle.std.proofs.Math.ListN.{get_elem?}
use Rattle.spec.specs.Bytes.{Bytes}
use Rattle.spec.specs.Syntax.{Module, Design}
use Rattle.spec.specs.Refusal.{lines, decode}
use Rattle.spec.specs.Edge.{Node, signal, inst_out, same_index, same_node, Head, all_reads}
use Rattle.spec.specs.FindCycles.{next_nodes, find_cycles}
use Rattle.spec.specs.Report.{Report, report, loop_report, show_report}
use Rattle.spec.specs.Check.{Answer, Lent, check_design, check_drivers}
use Rattle.spec.specs.Graph.{◌∈◌, Once, ClosedWalk}
use Rattle.spec.specs.DepthFirst.{among}
use Rattle.spec.specs.DepthFirstFinds.{Topological, Simple, Goes, final_step, final_steps, remove_if, same_step, cut}
use Rattle.spec.specs.Meaning.{heads_at}
use Rattle.spec.specs.Hierarchy.{Connection, Instance, Hierarchy, Leads, PremisesFrom}
use Rattle.spec.specs.Opened.{HasClosedWalk, Signals}
use Rattle.spec.specs.OwnGraph.{Edge}
use Rattle.spec.specs.DesignHierarchy.{hierarchy}
use Rattle.spec.specs.Printing.{report_text, GivesReports}
use Rattle.spec.specs.LoopsAndRest.{OpenedRests}

-- ---- one search

-- 02, U8: cutting these walks is enough, in this graph.
pub record CutsAreEnough {A : Type 0} (same : A → A → Bool) (next : A → List A) (walks : List (List A)) : Type 0 where
  -- each walk is closed, and names no node twice other than its first and last
  pub simple : (w : List A) → w ∈ walks → ClosedWalk next w × Simple w
  -- each has a final step, which is a step of the graph
  pub each : length (final_steps walks) ≡ length walks
  pub steps : (u v : A) → (u, v) ∈ final_steps walks → v ∈ next u
  -- no final step stands twice
  pub once : Once (final_steps walks)
  -- without the final steps the nodes stand in order: all from which a step goes, each once, before all that are next to it
  pub order : (l : List A) × Once l × ((n m : A) → m ∈ next n → n ∈ l) × Topological (cut same (final_steps walks) next) l
  -- so no closed walk is left
  pub none_left : (w : List A) → ¬ ClosedWalk (cut same (final_steps walks) next) w
  -- and each closed walk of the graph goes over a final step
  pub over : (w : List A) → ClosedWalk next w → (u : A) × (v : A) × Goes w u v × ((u, v) ∈ final_steps walks)
  -- one of these walks over no final step but its own; with all others cut it is left, so that no cut can be spared
  pub alone : (w : List A) → w ∈ walks → (u v : A) → Goes w u v → (u, v) ∈ final_steps walks → final_step w ≡ some (u, v)

-- 02, U8: cutting the reported walks is enough, of every list of heads, so of every search, in the edges that it walks, those from summaries
-- too.
abbrev pub CyclesCut : Type 0
CyclesCut = (hs : List Head) → CutsAreEnough same_node (next_nodes hs) (find_cycles hs)

-- ---- the reports of a text

-- 02, U8: the walks of the loop reports of module m, in order.
unfoldable pub loop_walks : ℕ → List Report → List (List Node)
loop_walks m [] = []
loop_walks m (report m' start n x ∷ rs) = loop_walks m rs
loop_walks m (loop_report m' start w ∷ rs) = elim (eqb m m') [ true ↦ w ∷ loop_walks m rs | false ↦ loop_walks m rs ]

-- 02, U8: of an answer `a` over a buffer that held `old`, and the design `d` of its text.
pub record LoopsCut (a : Answer) (old : Bytes) (d : Design) : Type 0 where
  -- the buffer at exit begins with the lines of the design's reports, which no other reports have; behind them it holds what it held
  pub gives : GivesReports a old (check_design d).reports
  -- the walks of a module are those of the loop lines that are printed of it
  pub printed : (m : ℕ) (w : List Node) → w ∈ loop_walks m (check_design d).reports ↔ ((start : ℕ) × (show_report (loop_report m start w) ∈ lines (report_text a)))
  -- cutting them is enough, in the graph of what the module's lines head and read, edges from summaries too
  pub enough : (m : ℕ) (k : Module) → get_elem? d m ≡ some k → CutsAreEnough same_node (all_reads (heads_at d m k)) (loop_walks m (check_design d).reports)

-- 02, U8: of every accepted text, with no premise.
abbrev pub ReportsCut : Type 0
ReportsCut = (working : List Lent) (text buffer : Bytes) → (check_drivers working text buffer).number ≡ 0 → LoopsCut (check_drivers working text buffer) buffer (decode text)

-- ---- opened designs

-- 02, U8: a line with some reads taken away: of each node those for which this is true.
abbrev pub head_without : (Node → Node → Bool) → Head → Head
head_without away h = record { node = h.node; start = h.start; reads = remove_if (away h.node) h.reads }

-- 02, U8: a connection with some reads taken away, by its port.
abbrev pub connection_without : (ℕ → Node → Bool) → Connection → Connection
connection_without away c = record { port = c.port; nodes = remove_if (away c.port) c.nodes }

-- 02, U8: an instance with some reads of its connections taken away.
abbrev pub instance_without : {Key : Type 0} → (Instance Key → ℕ → Node → Bool) → Instance Key → Instance Key
instance_without away i =
    record { position = i.position; name = i.name; index = i.index; target = i.target; connections = map (connection_without (away i)) i.connections }

-- 02, U8: modules within modules with some reads taken away, of lines and of connections.
abbrev pub without_reads : (H : Hierarchy) → (H.Key → Node → Node → Bool) → (H.Key → Instance H.Key → ℕ → Node → Bool) → Hierarchy
without_reads H of_lines of_connections =
    record {
      Key = H.Key;
      module_at = H.module_at;
      modules = H.modules;
      kind = H.kind;
      own = λ m. map (head_without (of_lines m)) (H.own m);
      inside = λ m. map (instance_without (of_connections m)) (H.inside m);
      inputs = H.inputs;
      outs = H.outs;
    }

-- 02, U8: the final steps of the loop reports of module m.
abbrev pub reported_finals : Design → ℕ → List (Node × Node)
reported_finals d m = final_steps (loop_walks m (check_design d).reports)

-- 02, U8: with these reads taken away no final step of a loop report of a module that m leads to is an edge of that module. A step from an
-- instance output is an edge as long as one way through the instance is left; so each such way is cut.
abbrev pub FinalsCut : Design → ℕ → (ℕ → Node → Node → Bool) → (ℕ → Instance ℕ → ℕ → Node → Bool) → Type 0
FinalsCut d m of_lines of_connections =
    (t : ℕ) → Leads (hierarchy d) m t → (u v : Node) → (u, v) ∈ reported_finals d t → ¬ Edge (without_reads (hierarchy d) of_lines of_connections) t u v

-- 02, U8: the design opened from m has no closed walk; its signals are listed; it comes to rest.
pub record RestsAfterCut (H : Hierarchy) (m : H.Key) : Type 1 where
  pub no_walk : ¬ HasClosedWalk H m
  pub signals : Signals H m
  pub rests : OpenedRests H m

-- 02, U8: of every design and module from which on the premises of demand 3 hold: whatever reads are taken away so that the final steps are
-- cut, the opened design rests.
abbrev pub OpenedCut : Type 1
OpenedCut =
    (d : Design) (m : ℕ) → PremisesFrom (hierarchy d) m → (of_lines : ℕ → Node → Node → Bool) (of_connections : ℕ → Instance ℕ → ℕ → Node → Bool)
    → FinalsCut d m of_lines of_connections → RestsAfterCut (without_reads (hierarchy d) of_lines of_connections) m

-- 02, U8: one of these steps goes from an output of the instances with this name and index to y.
unfoldable pub goes_through : List (Node × Node) → ℕ → Option ℤ → Node → Bool
goes_through [] j x y = false
goes_through ((signal n, v) ∷ steps) j x y = goes_through steps j x y
goes_through ((inst_out j' x' o, v) ∷ steps) j x y = eqb j j' && same_index x x' && same_node y v || goes_through steps j x y

-- 02, U8: one way to cut them, of lines: where u to v is a final step, the lines that head u no longer read v.
abbrev pub cut_lines : Design → ℕ → Node → Node → Bool
cut_lines d t u v = among (same_step same_node) (u, v) (reported_finals d t)

-- 02, U8: and of connections: where u is an instance output, those of the instances with its name and index no longer read v. This takes more
-- away than the ways of that output: whatever else comes to v through these instances goes too.
abbrev pub cut_connections : Design → ℕ → Instance ℕ → ℕ → Node → Bool
cut_connections d t i p v = goes_through (reported_finals d t) i.name i.index v

-- 02, U8: cut in this way the opened design rests.
abbrev pub AtConnections : Type 1
AtConnections = (d : Design) (m : ℕ) → PremisesFrom (hierarchy d) m → RestsAfterCut (without_reads (hierarchy d) (cut_lines d) (cut_connections d)) m
