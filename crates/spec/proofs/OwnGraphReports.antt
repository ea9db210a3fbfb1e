-- Loop reports of the whole check: each walk reported leads back by edges of its module, and of the modules that one leads to none is
-- reported exactly where none of them has edges that lead back.
-- Assumes nothing.
use mathlib.Core.Path.{◌≡◌, refl, subst, subst⁻¹}
use mathlib.Core.Logic.{◌↔◌}
use mathlib.Core.Option.{Option, some, none}
use mathlib.Core.List.Memᴰ
use mathlib.Core.List.{List, [], ◌∷◌}
use Prim.Native.Nat.{ℕ}
use lib.ListN.{take, get_elem?}
use Rattle.spec.specs.Syntax.{in_kind, Module, Design}
use Rattle.spec.specs.Edge.{Node, all_reads}
use Rattle.spec.specs.Summary.{Kept, module_heads}
use Rattle.spec.specs.FindCycles.{next_nodes, find_cycles}
use Rattle.spec.specs.Report.{loop_report}
use Rattle.spec.specs.Check.{check_modules, check_design}
use Rattle.spec.specs.Graph.{◌∈◌}
use Rattle.spec.specs.Meaning.{heads_at}
use Rattle.spec.specs.Hierarchy.{Leads, Unheaded}
use Rattle.spec.specs.DesignHierarchy.{hierarchy}
use Rattle.spec.specs.OwnGraph.{Edge, EdgeLoop}
use Rattle.spec.specs.Premises.{NoLoopReportFrom}
use Rattle.spec.proofs.Nodes.{next_read}
use Rattle.spec.proofs.CyclesFound.{cycles_found}
use Rattle.spec.proofs.Summaries.{lines_at, checks_plain}
use Rattle.spec.proofs.Copies.{from_leads}
use Rattle.spec.proofs.Acyclic.{acyclic_leads}
use Rattle.spec.proofs.SoundSummaries.{checks_sound, found_loop}
use Rattle.spec.proofs.CheckEdge.{Good, loop_walk, no_edge_missing, check_edge}
use Rattle.spec.proofs.Meaning.{design_means}

module _ (d : Design) where
  -- the summaries that the modules before m kept
  abbrev kept_before : ℕ → Kept
  kept_before m = (check_modules d [] 0 (take m d)).kept

  -- Each walk reported leads back by edges of its module, whatever the design:
  pub report_loop : (m start : ℕ) (w : List Node) → loop_report m start w ∈ (check_design d).reports → EdgeLoop (hierarchy d) m w
  report_loop m start w i =
      let (k, e, r, b) = ((design_means d).loops m start w).0 i in
      let j = ((cycles_found (heads_at d m k)).by_ways.exactly w).1 r in
      found_loop d (kept_before m) (checks_sound d [] (λ m s i. absurd (Memᴰ.not-nil i)) 0 (take m d)) m k e w
      (subst⁻¹ (λ cs. w ∈ find_cycles (module_heads d (kept_before m) k cs).heads) (lines_at d m k e) j)

  -- the edges of a module are those that its check searches
  pub edge_searched : (m : ℕ) → Good d m → (k : Module) → get_elem? d m ≡ some k → (n x : Node) → Edge (hierarchy d) m n x → x ∈ all_reads (heads_at d m k) n
  edge_searched m good k e n x h =
      let plain = checks_plain d [] (λ m s i. absurd (Memᴰ.not-nil i)) 0 (take m d) in
      next_read (heads_at d m k) n (subst (λ cs. x ∈ next_nodes (module_heads d (kept_before m) k cs).heads n) (lines_at d m k e) ((check_edge d m good k e (kept_before m) plain n x).1 h))

  -- so where none is reported no edges lead back
  silent_no_loop : (m : ℕ) → Good d m → ((start : ℕ) (w : List Node) → ¬ (loop_report m start w ∈ (check_design d).reports)) → (o : Option Module) → get_elem? d m ≡ o → (v : List Node) → ¬ EdgeLoop (hierarchy d) m v
  silent_no_loop m good silent none e [] l = l
  silent_no_loop m good silent none e (n ∷ []) l = l
  silent_no_loop m good silent none e (n ∷ x ∷ v) l = no_edge_missing d m e n x l.0.0
  silent_no_loop m good silent (some k) e v l =
      let (start, w, i) = (design_means d).found m k e v (loop_walk (hierarchy d) m (all_reads (heads_at d m k)) (edge_searched m good k e) v l) in
      silent start w i

  pub good_leads : (m t : ℕ) → Leads (hierarchy d) m t → Good d m → Good d t
  good_leads m t r g = (acyclic_leads (hierarchy d) m t r g.0, from_leads (hierarchy d) (Unheaded (hierarchy d) in_kind) m t r g.1)

  -- and, with these two premises from m on, none is reported of the modules that m leads to exactly where they have no edges that lead back
  pub no_report_no_loop : (m : ℕ) → Good d m → NoLoopReportFrom d m ↔ ((t : ℕ) → Leads (hierarchy d) m t → (v : List Node) → ¬ EdgeLoop (hierarchy d) t v)
  no_report_no_loop m good = (λ silent t r. silent_no_loop t (good_leads m t r good) (λ start w. silent t start w r) (get_elem? d t) refl, λ h t start w r i. h t r w (report_loop t start w i))
