-- Demand 3, whole, from one module on and of the whole text: loop reports show closed walks of opened designs, and where none is reported
-- the opened designs come to rest. And what the premises are over lines.
-- Assumes nothing.
use mathlib.Core.Path.{◌≡◌, refl, sym, subst, subst⁻¹}
use mathlib.Core.Logic.{◌↔◌}
use mathlib.Core.List.Memᴰ
use mathlib.Core.List.{List, [], ◌∷◌}
use Prim.Native.Nat.{ℕ}
use Rattle.spec.specs.Syntax.{in_kind, reg_kind, Design}
use Rattle.spec.specs.Bytes.{Bytes}
use Rattle.spec.specs.Refusal.{lines, decode}
use Rattle.spec.specs.Edge.{Node}
use Rattle.spec.specs.Report.{Report, loop_report, show_report, show_reports}
use Rattle.spec.specs.Check.{Answer, check_design, check_drivers}
use Rattle.spec.specs.Printing.{Begins, loop_mark_of, report_text, NoLoopLine, NoLoopLineOf, GivesReports}
use Rattle.spec.specs.Graph.{◌∈◌, Chain, last}
use Rattle.spec.specs.Hierarchy.{Leads, From, ModuleChain, ContainsItself, Acyclic, FixedUnheaded, Unheaded, OutputsArePorts}
use Rattle.spec.specs.Opened.{HasClosedWalk}
use Rattle.spec.specs.OwnGraph.{OpenedFrom}
use Rattle.spec.specs.DesignHierarchy.{hierarchy, instanced, Premises}
use Rattle.spec.specs.LoopsAndRest.{OpenedRests, LoopsAndRestFrom, LoopsAndRest, RestFrom, Rest}
use Rattle.spec.specs.Premises.{Premise, acyclic, fixed_unheaded, no_input_port, outputs_are_ports, Meets, TheseAreAll, InsideItself, AcyclicExactly, HeadedByWires, NoneFalse, ThreeAreEnough, RegistersOnlyFixed, NoLoopReportFrom, OnlyThere, UnseenFails, UnfixedFails, UnseenMoves}
use Rattle.spec.proofs.WellFormed.{design_well_formed}
use Rattle.spec.proofs.Acyclic.{module_chain}
use Rattle.spec.proofs.Copies.{leads_here}
use Rattle.spec.proofs.CheckEdge.{unheaded}
use Rattle.spec.proofs.Opened.{opened}
use Rattle.spec.proofs.Printing.{printing, acceptance}
use Rattle.spec.proofs.OwnGraphReports.{report_loop, no_report_no_loop}

-- ---- the premises over lines

-- a key is its module's number, so that a chain of modules is one of keys
number_chain : (d : Design) (m : ℕ) (l : List ℕ) → ModuleChain (hierarchy d) m l → Chain (instanced d) m l
number_chain d m [] c = tt
number_chain d m (t ∷ l) ((k, same, u), c) = (subst (λ z. t ∈ instanced d z) same u, number_chain d t l c)

-- lines lead back to a module exactly where it contains itself
inside_contains : (d : Design) (m : ℕ) → InsideItself d m → ContainsItself (hierarchy d) m
inside_contains d m ([], c) = absurd c
inside_contains d m (t ∷ l, (c, e)) = (t, l, module_chain (hierarchy d) m (t ∷ l) c, e)

pub acyclic_exactly : AcyclicExactly
acyclic_exactly d m = (
  λ h t (l, c, e) w. h l (module_chain (hierarchy d) m l c) (subst⁻¹ (λ z. ContainsItself (hierarchy d) z) e (inside_contains d t w)),
  λ h l c (t, k, g, e). h (last m l) (l, number_chain d m l c, refl) (t ∷ k, (number_chain d (last m l) (t ∷ k) g, e)),
)

pub headed_by_wires : HeadedByWires
headed_by_wires d m = (unheaded in_kind (λ lv r. refl) d m, unheaded reg_kind (λ lv r. refl) d m)

-- the premises one by one
pub these_are_all : TheseAreAll
these_are_all d = (
  each,
  λ h m. record {
    acyclic = h acyclic m;
    fixed_unheaded = λ t r. h fixed_unheaded t;
    no_input_port = λ t r. h no_input_port t;
    outputs_are_ports = λ t r. h outputs_are_ports t;
  },
)
  where
    each : Premises d → (p : Premise) → Meets p d
    each h acyclic = λ m. (h m).acyclic
    each h fixed_unheaded = λ m. (h m).fixed_unheaded m (leads_here (hierarchy d) m)
    each h no_input_port = λ m. (h m).no_input_port m (leads_here (hierarchy d) m)
    each h outputs_are_ports = λ m. (h m).outputs_are_ports m (leads_here (hierarchy d) m)

-- ---- reports and the opened design

-- the design opened from a module
abbrev from : (d : Design) (m : ℕ) → OpenedFrom (hierarchy d) m
from d m = opened (hierarchy d) (design_well_formed d) m

-- each loop report shows a closed walk, whatever the design
pub none_false : NoneFalse
none_false d m start w i = (from d m).shown w (report_loop d m start w i)

-- where a loop is reported of a module that m leads to, the design opened from m has a closed walk
report_closes : (d : Design) (m t start : ℕ) (w : List Node) → Leads (hierarchy d) m t → loop_report t start w ∈ (check_design d).reports → HasClosedWalk (hierarchy d) m
report_closes d m t start w r i = (from d m).lengthens (t, r, w, report_loop d t start w i)

-- and where it has one, a module that m leads to has one of its own edges, which the check reports
none_closes : (d : Design) (m : ℕ) → Acyclic (hierarchy d) m → From (hierarchy d) (Unheaded (hierarchy d) in_kind) m → From (hierarchy d) (OutputsArePorts (hierarchy d)) m
    → NoLoopReportFrom d m → ¬ HasClosedWalk (hierarchy d) m
none_closes d m flat inputs outputs silent w =
    let (t, r, v, l) = (from d m).shortens outputs w in
    (no_report_no_loop d m (flat, inputs)).0 silent t r v l

-- ---- lines of the answer

-- a loop's line of a module is a loop report's
line_of : (a : Answer) (old : Bytes) (d : Design) → GivesReports a old (check_design d).reports → (t : ℕ) (s : Bytes) → s ∈ lines (report_text a) → Begins (loop_mark_of t) s
    → (start : ℕ) × (w : List Node) × (loop_report t start w ∈ (check_design d).reports) × (s ≡ show_report (loop_report t start w))
line_of a old d g t s i b = (printing.module_lines (check_design d).reports t s (subst (λ x. s ∈ lines x) g.text i)).0 b

-- no line of a text is a loop's exactly when no loop is reported
none_from : (a : Answer) (old : Bytes) (d : Design) (m : ℕ) → GivesReports a old (check_design d).reports → NoLoopLineOf (Leads (hierarchy d) m) (report_text a) ↔ NoLoopReportFrom d m
none_from a old d m g = (
  λ h t start w r i.
      let s = show_report (loop_report t start w) in
      let j : s ∈ lines (show_reports (check_design d).reports) = subst (λ l. s ∈ l) (sym (printing.lines_are (check_design d).reports)) (Memᴰ.map show_report i) in
      h t r s (subst⁻¹ (λ x. s ∈ lines x) g.text j) ((printing.module_lines (check_design d).reports t s j).1 (start, w, i, refl)),
  λ h t r s i b. let (start, w, j, e) = line_of a old d g t s i b in h t start w r j,
)

-- ---- demand 3

-- what holds without fixed registers
module _ (a : Answer) (old : Bytes) (d : Design) (m : ℕ) (g : GivesReports a old (check_design d).reports) (flat : Acyclic (hierarchy d) m)
    (inputs : From (hierarchy d) (Unheaded (hierarchy d) in_kind) m) (outputs : From (hierarchy d) (OutputsArePorts (hierarchy d)) m) where
  loops_exactly : NoLoopLineOf (Leads (hierarchy d) m) (report_text a) ↔ ¬ HasClosedWalk (hierarchy d) m
  loops_exactly =
      let n = none_from a old d m g in
      (λ h. none_closes d m flat inputs outputs (n.0 h), λ h. n.1 (λ t start w r i. h (report_closes d m t start w r i)))

  without_loops : NoLoopLineOf (Leads (hierarchy d) m) (report_text a) → OpenedRests (hierarchy d) m
  without_loops h = (from d m).rests (loops_exactly.0 h)

pub registers_only_fixed : RegistersOnlyFixed
registers_only_fixed working text buffer e m flat inputs outputs =
    let a = check_drivers working text buffer in
    let g = acceptance working text buffer e in
    (loops_exactly a buffer (decode text) m g flat inputs outputs, without_loops a buffer (decode text) m g flat inputs outputs)

-- from one module on, of an answer that gives the design's reports
loops_and_rest_from : (a : Answer) (old : Bytes) (d : Design) (m : ℕ) → GivesReports a old (check_design d).reports → Acyclic (hierarchy d) m
    → From (hierarchy d) (FixedUnheaded (hierarchy d)) m → From (hierarchy d) (OutputsArePorts (hierarchy d)) m → LoopsAndRestFrom a old d m
loops_and_rest_from a old d m g flat fixed outputs =
    record {
      gives = g;
      none_exactly = loops_exactly a old d m g flat (λ t r. (fixed t r).0) outputs;
      each_shows = λ t l s i b. let (start, w, j, e) = line_of a old d g t s i b in (start, w, j, e, none_false d t start w j);
      signals = record {
        listing = (from d m).listing flat;
        complete = (from d m).complete flat;
        fixed = (from d m).fixed (fixed m (leads_here (hierarchy d) m)).0 (λ t r. (fixed t r).1);
      };
      rests = without_loops a old d m g flat (λ t r. (fixed t r).0) outputs;
    }

pub three_are_enough : ThreeAreEnough
three_are_enough working text buffer e m = loops_and_rest_from (check_drivers working text buffer) buffer (decode text) m (acceptance working text buffer e)

pub rest_from : RestFrom
rest_from working text buffer e m p = three_are_enough working text buffer e m p.acyclic p.fixed_unheaded p.outputs_are_ports

-- and of the whole text: from each module on
whole : (a : Answer) (old : Bytes) (d : Design) → GivesReports a old (check_design d).reports → ((m : ℕ) → LoopsAndRestFrom a old d m) → LoopsAndRest a old d
whole a old d g each =
    record {
      gives = g;
      none_exactly = (
        λ h m. (each m).none_exactly.0 (none h m),
        λ h. g.silent.1 (λ m start w i. h m (report_closes d m m start w (leads_here (hierarchy d) m) i)),
      );
      each_shows = λ s i b.
          let (m, start, w, j, e) = (printing.loop_lines (check_design d).reports s (subst (λ x. s ∈ lines x) g.text i)).0 b in
          (m, (start, w, j, e, none_false d m start w j));
      signals = λ m. (each m).signals;
      rests = λ h m. (each m).rests (none h m);
    }
  where
    none : NoLoopLine (report_text a) → (m : ℕ) → NoLoopLineOf (Leads (hierarchy d) m) (report_text a)
    none h m = (none_from a old d m g).1 (λ t start w r. g.silent.0 h t start w)

pub rest : Rest
rest working text buffer e premises =
    whole (check_drivers working text buffer) buffer (decode text) (acceptance working text buffer e) (λ m. rest_from working text buffer e m (premises m))

-- ---- what is needed

-- where the opened design comes to rest, no loop is reported
pub only_there : OnlyThere
only_there d m flat h t start w r i =
    let l = (from d m).listing flat in
    (from d m).restless flat (report_closes d m t start w r i) l (h l)

pub unseen_moves : UnseenMoves
unseen_moves text u flat = let m = u.walk.0 in (m, (from (decode text) m).restless (flat m) u.walk.1)

pub unseen_fails : UnseenFails
unseen_fails text u a old h =
    h.none_exactly.0 (h.gives.silent.1 (λ m start w i. Memᴰ.not-nil (subst (λ (l : List Report). loop_report m start w ∈ l) u.unreported i))) u.walk.0 u.walk.1

pub unfixed_fails : UnfixedFails
unfixed_fails d m u a old h = u (h.signals m).fixed
