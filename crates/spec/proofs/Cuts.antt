-- Cutting the final step of each loop report leaves no loop: of a search, and of the reports of a text.
-- Assumes nothing.
use mathlib.Core.Path.{◌≡◌, refl, sym, ◌∙◌, ap, ap₂, subst, subst⁻¹}
use mathlib.Core.Bool.{Bool, true, false, true≢false}
use mathlib.Core.Logic.{◌↔◌}
use mathlib.Core.List.Memᴰ
use mathlib.Core.List.{List, [], ◌∷◌, ◌++◌, map, append-nil}
use mathlib.Core.Option.{some, some-injective, none-ne-some}
use Prim.Native.Nat.{ℕ, zero, suc, ◌+◌, ◌<◌}
use native.Mathlib.Omega.{arith}
use lib.ListN.{take, get_elem?}
use lib.Dec.{eqb}
use borrow.Author.Tests.{eqb-true, eq-eqb, ne_eqb}
use Rattle.spec.specs.Syntax.{Module, Design}
use Rattle.spec.specs.Bytes.{Bytes}
use Rattle.spec.specs.Refusal.{lines, decode}
use Rattle.spec.specs.Edge.{Node, Head, same_node, all_reads}
use Rattle.spec.specs.Summary.{Kept}
use Rattle.spec.specs.FindCycles.{next_nodes, find_cycles}
use Rattle.spec.specs.Report.{Report, report, loop_report, show_report, show_reports}
use Rattle.spec.specs.Check.{loop_reports, check_module_drivers, check_modules, Answer, check_design, check_drivers}
use Rattle.spec.specs.Graph.{◌∈◌}
use Rattle.spec.specs.DepthFirstFinds.{final_steps, cut}
use Rattle.spec.specs.Meaning.{heads_at, number_of, stage}
use Rattle.spec.specs.Printing.{report_text, GivesReports}
use Rattle.spec.specs.Cuts.{CutsAreEnough, CyclesCut, loop_walks, ReportsCut}
use Rattle.spec.proofs.Numbers.{if_case}
use Rattle.spec.proofs.Firsts.{head_same}
use Rattle.spec.proofs.Walks.{closed_along, fewer_steps}
use Rattle.spec.proofs.FinalSteps.{closed_final, final_edge, of_finals, finals_length, finals_once, in_cut, closed_over, order_none}
use Rattle.spec.proofs.Nodes.{same_node_yes, same_node_refl, next_read, read_next}
use Rattle.spec.proofs.CyclesFound.{left_order, final_one, final_own, cycles_found}
use Rattle.spec.proofs.HeadLaws.{in_first}
use Rattle.spec.proofs.Meaning.{others_list, others_stage, heads_in, module_is}
use Rattle.spec.proofs.Printing.{printing, acceptance}

-- ---- one search

-- The theorem of one search.
pub cycles_cut : CyclesCut
cycles_cut hs =
    let (l, o, all, t) = left_order hs in
    let none = order_none same_node same_node_yes same_node_refl (final_steps (find_cycles hs)) (next_nodes hs) l all t in
    record {
      simple = λ w i. let k = (cycles_found hs).walks w i in (k.0, k.1);
      each = finals_length (find_cycles hs) (λ w i. let (u, v, e, j) = closed_final (next_nodes hs) w ((cycles_found hs).walks w i).0 in ((u, v), e));
      steps = λ u v i. let (w, j, e) = of_finals (find_cycles hs) (u, v) i in final_edge (next_nodes hs) w ((cycles_found hs).walks w j).0 u v e;
      once = finals_once (find_cycles hs) (final_one hs) (cycles_found hs).by_ways.once;
      order = (l, o, all, t);
      none_left = none;
      over = closed_over same_node same_node_yes same_node_refl (final_steps (find_cycles hs)) (next_nodes hs) none;
      alone = λ w i u v g k. let (x, j, e) = of_finals (find_cycles hs) (u, v) k in final_own hs w x u v i j g e;
    }

-- the same of a graph with the same steps
same_steps : (f g : Node → List Node) → ((n m : Node) → m ∈ f n ↔ m ∈ g n) → (walks : List (List Node)) → CutsAreEnough same_node f walks → CutsAreEnough same_node g walks
same_steps f g h walks c =
    let (l, o, all, t) = c.order in
    record {
      simple = λ w i. let (k, o) = c.simple w i in (closed_along f g (λ n m. (h n m).0) w k, o);
      each = c.each;
      steps = λ u v i. (h u v).0 (c.steps u v i);
      once = c.once;
      order = (l, o, λ n m i. all n m ((h n m).1 i), fewer_steps (cut same_node (final_steps walks) f) (cut same_node (final_steps walks) g) fewer l t);
      none_left = λ w k. c.none_left w (closed_along (cut same_node (final_steps walks) g) (cut same_node (final_steps walks) f) fewer w k);
      over = λ w k. c.over w (closed_along g f (λ n m. (h n m).1) w k);
      alone = c.alone;
    }
  where
    fewer : (n m : Node) → m ∈ cut same_node (final_steps walks) g n → m ∈ cut same_node (final_steps walks) f n
    fewer n m i =
        let (j, off) = (in_cut same_node same_node_yes same_node_refl (final_steps walks) g n m).0 i in
        (in_cut same_node same_node_yes same_node_refl (final_steps walks) f n m).1 ((h n m).1 j, off)

-- ---- the walks of a module among the reports

other_walks : (m m' : ℕ) → ¬ (m ≡ m') → (hs : List Head) (ws : List (List Node)) → loop_walks m (loop_reports m' hs ws) ≡ []
unfolding loop_walks loop_reports
other_walks m m' d hs [] = refl
other_walks m m' d hs ([] ∷ ws) = other_walks m m' d hs ws
other_walks m m' d hs ((n ∷ w) ∷ ws) = rw (ne_eqb m m' d, loop_walks) (other_walks m m' d hs ws)

walks_append : (m : ℕ) (rs qs : List Report) → loop_walks m (rs ++ qs) ≡ loop_walks m rs ++ loop_walks m qs
unfolding loop_walks
walks_append m [] qs = refl
walks_append m (report m' start n x ∷ rs) qs = walks_append m rs qs
walks_append m (loop_report m' start w ∷ rs) qs = go (eqb m m') refl (walks_append m rs qs)
  where
    go : (b : Bool) → eqb m m' ≡ b → loop_walks m (rs ++ qs) ≡ loop_walks m rs ++ loop_walks m qs → loop_walks m (loop_report m' start w ∷ rs ++ qs) ≡ loop_walks m (loop_report m' start w ∷ rs) ++ loop_walks m qs
    go true e on = rw (e, loop_walks) (ap (◌∷◌ w) on)
    go false e on = rw (e, loop_walks) on

no_walks : (m : ℕ) (rs : List Report) → ((r : Report) → r ∈ rs → stage r < 5) → loop_walks m rs ≡ []
unfolding loop_walks
no_walks m [] h = refl
no_walks m (report m' start n x ∷ rs) h = no_walks m rs (λ r i. h r (Memᴰ.tail i))
no_walks m (loop_report m' start w ∷ rs) h = let f = h (loop_report m' start w) (Memᴰ.head refl) in absurd (omega arith)

own_walks : (m : ℕ) (hs : List Head) (ws : List (List Node)) → ¬ ([] ∈ ws) → loop_walks m (loop_reports m hs ws) ≡ ws
unfolding loop_walks loop_reports
own_walks m hs [] h = refl
own_walks m hs ([] ∷ ws) h = absurd (h (Memᴰ.head refl))
own_walks m hs ((n ∷ w) ∷ ws) h = rw (eq-eqb m m refl, loop_walks) (ap (◌∷◌ (n ∷ w)) (own_walks m hs ws (λ i. h (Memᴰ.tail i))))

module _ (d : Design) where
  -- what the check of one module reports
  module_walks : (kept : Kept) (m m' : ℕ) (k : Module) → loop_walks m (check_module_drivers d kept m' k).reports ≡ loop_walks m (loop_reports m' (heads_in d kept k) (find_cycles (heads_in d kept k)))
  module_walks kept m m' k =
      let hs = heads_in d kept k in
      ap (loop_walks m) (module_is d kept m' k) ∙ walks_append m (others_list hs m' k) (loop_reports m' hs (find_cycles hs))
      ∙ ap (λ z. z ++ loop_walks m (loop_reports m' hs (find_cycles hs))) (no_walks m (others_list hs m' k) (others_stage hs m' k))

  -- modules behind m report nothing of it
  later_walks : (kept : Kept) (m m' : ℕ) (ks : List Module) → m < m' → loop_walks m (check_modules d kept m' ks).reports ≡ []
  unfolding check_modules loop_walks
  later_walks kept m m' [] h = refl
  later_walks kept m m' (k ∷ ks) h =
      walks_append m (check_module_drivers d kept m' k).reports _
      ∙ ap₂ ◌++◌ (module_walks kept m m' k ∙ other_walks m m' (λ e. omega arith) _ _) (later_walks (check_module_drivers d kept m' k).kept m (suc m') ks (omega arith))

  walks_at : (j : ℕ) (ks : List Module) (kept : Kept) (m : ℕ) (k : Module) → get_elem? ks j ≡ some k → loop_walks (m + j) (check_modules d kept m ks).reports ≡ find_cycles (heads_in d (check_modules d kept m (take j ks)).kept k)
  unfolding check_modules loop_walks
  walks_at j [] kept m k e = absurd (none-ne-some k e)
  walks_at zero (k' ∷ ks) kept m k e =
      let f : m + 0 ≡ m = omega arith in
      ap (λ z. loop_walks z (check_modules d kept m (k' ∷ ks)).reports) f ∙ walks_append m (check_module_drivers d kept m k').reports _
      ∙ ap₂ ◌++◌ (module_walks kept m m k' ∙ own_walks m _ _ (λ i. ((cycles_found (heads_in d kept k')).walks [] i).0)) (later_walks (check_module_drivers d kept m k').kept m (suc m) ks (omega arith))
      ∙ append-nil _ ∙ ap (λ z. find_cycles (heads_in d kept z)) (some-injective k' k e)
  walks_at (suc j) (k' ∷ ks) kept m k e =
      let f : m + suc j ≡ suc m + j = omega arith in
      ap (λ z. loop_walks z (check_modules d kept m (k' ∷ ks)).reports) f ∙ walks_append (suc m + j) (check_module_drivers d kept m k').reports _
      ∙ ap₂ ◌++◌ (module_walks kept (suc m + j) m k' ∙ other_walks (suc m + j) m (λ e. omega arith) _ _) (walks_at j ks (check_module_drivers d kept m k').kept (suc m) k e)

  -- the walks reported of a module are those of its search
  design_walks : (m : ℕ) (k : Module) → get_elem? d m ≡ some k → loop_walks m (check_design d).reports ≡ find_cycles (heads_at d m k)
  unfolding check_design
  design_walks m k e = let f : m ≡ 0 + m = omega arith in ap (λ z. loop_walks z (check_modules d [] 0 d).reports) f ∙ walks_at m d [] 0 k e

  pub design_cuts : (m : ℕ) (k : Module) → get_elem? d m ≡ some k → CutsAreEnough same_node (all_reads (heads_at d m k)) (loop_walks m (check_design d).reports)
  design_cuts m k e =
      let hs = heads_at d m k in
      subst⁻¹ (CutsAreEnough same_node (all_reads hs)) (design_walks m k e) (same_steps (next_nodes hs) (all_reads hs) (λ n m. (next_read hs n, read_next hs n)) (find_cycles hs) (cycles_cut hs))

-- ---- the lines of a text

-- a loop report's walk
abbrev walk_of : Report → List Node
walk_of (report m start n x) = []
walk_of (loop_report m start w) = w

abbrev Walked : Report → Type 0
Walked (report m start n x) = ⊥
Walked (loop_report m start w) = Unit {0}

in_walks : (m start : ℕ) (w : List Node) (rs : List Report) → loop_report m start w ∈ rs → w ∈ loop_walks m rs
unfolding loop_walks
in_walks m start w [] i = absurd (Memᴰ.not-nil i)
in_walks m start w (report m' s n x ∷ rs) i = in_first (λ e. absurd (subst Walked e tt)) (λ j. in_walks m start w rs j) i
in_walks m start w (loop_report m' s v ∷ rs) i =
    if_case (λ z. w ∈ z) (eqb m m') _ _
    (λ e. in_first (λ f. Memᴰ.head (ap walk_of f)) (λ j. Memᴰ.tail (in_walks m start w rs j)) i)
    (λ e. in_first (λ f. absurd (true≢false (sym (eq-eqb m m' (ap number_of f)) ∙ e))) (λ j. in_walks m start w rs j) i)

of_walks : (m : ℕ) (w : List Node) (rs : List Report) → w ∈ loop_walks m rs → (start : ℕ) × (loop_report m start w ∈ rs)
unfolding loop_walks
of_walks m w [] i = absurd (Memᴰ.not-nil i)
of_walks m w (report m' s n x ∷ rs) i = let (start, j) = of_walks m w rs i in (start, Memᴰ.tail j)
of_walks m w (loop_report m' s v ∷ rs) i = go (of_walks m w rs) (eqb m m') refl i
  where
    later : (start : ℕ) × (loop_report m start w ∈ rs) → (start : ℕ) × (loop_report m start w ∈ (loop_report m' s v ∷ rs))
    later (start, j) = (start, Memᴰ.tail j)

    go : (w ∈ loop_walks m rs → (start : ℕ) × (loop_report m start w ∈ rs)) → (b : Bool) → eqb m m' ≡ b → w ∈ (elim b as (λ z. List (List Node)) [ true ↦ v ∷ loop_walks m rs | false ↦ loop_walks m rs ])
        → (start : ℕ) × (loop_report m start w ∈ (loop_report m' s v ∷ rs))
    go on true e j = in_first (λ f. (s, Memᴰ.head (let g = eqb-true m m' e in λ i. loop_report (g i) s (f i)))) (λ k. later (on k)) j
    go on false e j = later (on j)

-- one line is of one report
one_report : (r q : Report) → show_report r ≡ show_report q → r ≡ q
unfolding show_reports
one_report r q e = head_same (printing.same (r ∷ []) (q ∷ []) (ap (λ z. z ++ 10 ∷ []) e))

-- a walk is a module's exactly when a line of the text is that of a loop report with it
walks_printed : (a : Answer) (old : Bytes) (rs : List Report) → GivesReports a old rs → (m : ℕ) (w : List Node) → w ∈ loop_walks m rs ↔ ((start : ℕ) × (show_report (loop_report m start w) ∈ lines (report_text a)))
walks_printed a old rs g m w = (
  λ i. let (start, j) = of_walks m w rs i in (start, subst⁻¹ (λ l. show_report (loop_report m start w) ∈ l) printed (Memᴰ.map show_report j)),
  λ (start, i). let (r, j, e) = Memᴰ.of_map show_report rs (subst (λ l. show_report (loop_report m start w) ∈ l) printed i) in in_walks m start w rs (Memᴰ.cast (sym (one_report r (loop_report m start w) e)) j),
)
  where
    printed : lines (report_text a) ≡ map show_report rs
    printed = ap lines g.text ∙ printing.lines_are rs

-- The theorem of the loop lines of a text.
pub reports_cut : ReportsCut
reports_cut working text buffer e =
    let g = acceptance working text buffer e in
    record { gives = g; printed = walks_printed (check_drivers working text buffer) buffer (check_design (decode text)).reports g; enough = design_cuts (decode text) }
