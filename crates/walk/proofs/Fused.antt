-- The fused check is the check.
-- Assumes nothing.
use mathlib.Core.Path.{◌≡◌, refl, sym, ◌∙◌, ap}
use mathlib.Core.Logic.{◌⊎◌, inl, inr, ◌↔◌}
use mathlib.Core.Bool.{Bool, true, false, ◌||◌, or-true, false≢true}
use mathlib.Core.List.{List, [], ◌∷◌, ◌++◌}
use mathlib.Core.Option.{Option, some, none, none-ne-some}
use Prim.Native.Nat.{ℕ, zero, suc, ◌+◌, ◌-◌}
use native.Mathlib.Omega.{arith}
use lib.ListN.{length, get_elem?}
use lib.Dec.{ltb}
use Rattle.spec.specs.Syntax.{Header, Module, Design}
use Rattle.spec.specs.Refusal.{has_name}
use Rattle.spec.specs.Value.{own_vals, name_table}
use Rattle.spec.specs.Collect.{Collected, round_limit, collect_items, collection}
use Rattle.spec.specs.DepthFirst.{each_once}
use Rattle.spec.specs.Site.{sites, line_constants, any_outside, lines_outside, misuses, output_lines, outputs}
use Rattle.spec.specs.Block.{Pair, Storage, all_pairs, pairs, block_count, line_regs, line_mems, storage_lines, regs, mems}
use Rattle.spec.specs.Edge.{Summary, all_nodes, head_nodes, edges_from, edge_count, over_graph}
use Rattle.spec.specs.Summary.{Kept, Asked, kept_summary, triples, triple_limit, no_summary, lines_heads, module_summary, make_summary, comb_summary, module_heads}
use Rattle.spec.specs.Report.{Report}
use Rattle.spec.specs.Check.{site_limit, pair_limit, storage_reports, reg_report, mem_report, widths_out, check_module_drivers, check_modules, check_design}
use Rattle.spec.proofs.Collection.{collecting}
use Rattle.spec.proofs.Nodes.{or_parts}
use Rattle.walk.specs.Walk.{Got, full, going, then_go, unless, Walked, walked, walk_items, add_all, same_pair, State, no_own, begin, Walking, walking, over_own, answered, Answered, Asking, line_step, walk_module, make_walk, ask_walk, own_walk, Tally, poison, own_reports, check_one, check_all, check_fused}
use Rattle.walk.specs.Fold.{own_of_lines, Agrees, module_outside, some_outside, tally_of, module_walked, module_stops, Fused}
use Rattle.walk.proofs.Fold.{items_fold, fold_lines}
use Rattle.walk.proofs.Tables.{outputs_first, storage_first, misuses_first, pairs_length, pairs_count}
use Rattle.walk.proofs.Lines.{or_neither, then_unless, elim_unless, lines_fold, own_lines, own_after, own_full, stops, after}
use Rattle.walk.proofs.Kept.{design_again}

-- ---- a module

made_flags : (t l h g o : Bool) → t ≡ false → l ≡ false → (t || (l || (false || (h || g)))) || o ≡ h || g || o
made_flags t l h g o e f = rw (e, f)

empty_graph : over_graph [] ≡ false
unfolding over_graph all_nodes head_nodes each_once edge_count edges_from
empty_graph = refl

empty_own : (b : Bool) → own_full b no_own ≡ false
unfolding own_full over_own
empty_own true = refl
empty_own false = refl

module _ (ask : Asking) (by : Kept → ℕ → Asked) (agrees : Agrees ask by) where
  -- a module's walk gives what the specification gives of its collected lines
  module_is : (w : Walking) (k : Module) (kept : Kept)
      → walk_module ask w k kept
      ≡ unless ((name_table (own_vals k) k).out || stops by w (collection (own_vals k) k).lines (begin kept))
      (walked (collection (own_vals k) k).left (after by w (collection (own_vals k) k).lines (begin kept)))
  unfolding walk_module collection
  module_is w k kept =
      let t = name_table (own_vals k) k in
      let c = collect_items k.items [] 0 t.names round_limit in
      elim_unless t.out (stops by w c.lines (begin kept)) (walk_items k.items (line_step ask w) t.names round_limit (begin kept)) _
      (items_fold (line_step ask w) k.items [] 0 t.names round_limit (begin kept)
      ∙ ap (λ (z : Got State). then_go z (λ st. going (walked c.left st))) (lines_fold ask by agrees w c.lines (begin kept) empty_graph (empty_own w.own))
      ∙ last (stops by w c.lines (begin kept)) c.left (after by w c.lines (begin kept)))
    where
      last : (b : Bool) (left : ℕ) (st : State) → then_go (unless b st) (λ st'. going (walked left st')) ≡ unless b (walked left st)
      last true left st = refl
      last false left st = refl

  -- a summary that is made, of a module that evaluates no constant outside INT
  pub make_is : (kept : Kept) (m : ℕ) (k : Module) → module_outside k ≡ false
      → make_walk ask kept m k ≡ unless (make_summary by kept m k).full (answered (make_summary by kept m k).summary (make_summary by kept m k).kept)
  unfolding make_walk make_summary stops after own_full own_after module_outside
  make_is kept m k e =
      let c = collection (own_vals k) k in
      let h = lines_heads by k.header kept c.lines in
      let s = module_summary k h.heads in
      let kept' : Kept = (m, s) ∷ h.kept in
      let over = ltb triple_limit (triples kept') in
      let keep : Walked State → Got Answered = λ r. let s = module_summary k r.state.heads in let kept' : Kept = (m, s) ∷ r.state.kept in unless (ltb triple_limit (triples kept')) (answered s kept') in
      let n = or_neither (name_table (own_vals k) k).out (lines_outside k.header c.lines) e in
      ap (λ (g : Got (Walked State)). then_go g keep) (module_is (walking false k) k kept)
      ∙ then_unless ((name_table (own_vals k) k).out || stops by (walking false k) c.lines (begin kept)) over
      (walked c.left (after by (walking false k) c.lines (begin kept))) keep (answered s kept') refl
      ∙ ap (λ (b : Bool). unless b (answered s kept')) (made_flags (name_table (own_vals k) k).out (lines_outside k.header c.lines) h.full (over_graph h.heads) over n.0 n.1)

-- ---- asking

outside_at : (ks : List Module) (m : ℕ) (k : Module) → some_outside ks ≡ false → get_elem? ks m ≡ some k → module_outside k ≡ false
unfolding some_outside
outside_at [] m k e f = absurd (none-ne-some k f)
outside_at (j ∷ ks) zero k e f = let g : j ≡ k = cc in rw g at (or_neither (module_outside j) (some_outside ks) e).0
outside_at (j ∷ ks) (suc m) k e f = outside_at ks m k (or_neither (module_outside j) (some_outside ks) e).1 f

-- a walk's answer is the specification's
abbrev Same : Got Answered → Asked → Type 0
Same g a = g ≡ unless a.full (answered a.summary a.kept)

-- missing, kept, in progress, or made
chosen : (kept : Kept) (walks : Module → Got Answered) (makes : Module → Asked) (o : Option Module) (s : Option Summary) (b : Bool)
    → ((k : Module) → o ≡ some k → Same (walks k) (makes k))
    → Same (elim o as (λ _. Got Answered) [
      | none ↦ going (answered [] kept)
      | some k ↦ elim b as (λ _. Got Answered) [
        | true ↦ going (answered [] kept)
        | false ↦ elim s as (λ _. Got Answered) [ some t ↦ going (answered t kept) | none ↦ walks k ]
      ]
    ]) (elim o as (λ _. Asked) [
      | none ↦ no_summary kept
      | some k ↦ elim b as (λ _. Asked) [
        | true ↦ no_summary kept
        | false ↦ elim s as (λ _. Asked) [ some t ↦ record { summary = t; kept = kept; full = false } | none ↦ makes k ]
      ]
    ])
chosen kept walks makes none s b h = refl
chosen kept walks makes (some k) s true h = refl
chosen kept walks makes (some k) (some t) false h = refl
chosen kept walks makes (some k) none false h = h k refl

module _ (d : Design) (inside : some_outside d ≡ false) where
  -- Where no module evaluates a constant outside INT, asking by the walk is asking by the specification.
  asks_agree : (fuel : ℕ) (busy : List ℕ) → Agrees (ask_walk fuel d busy) (comb_summary fuel d busy)
  unfolding ask_walk comb_summary
  asks_agree zero busy kept m = refl
  asks_agree (suc fuel) busy kept m =
      let ih = asks_agree fuel (m ∷ busy) in
      chosen kept (λ k. make_walk (ask_walk fuel d (m ∷ busy)) kept m k) (λ k. make_summary (comb_summary fuel d (m ∷ busy)) kept m k)
      (get_elem? d m) (kept_summary kept m) (has_name m busy)
      (λ k e. make_is (ask_walk fuel d (m ∷ busy)) (comb_summary fuel d (m ∷ busy)) ih kept m k (outside_at d m k inside e))

-- ---- a module's own check

own_first : (bound : Bool) (hs : List Header) (cs : List Collected) → own_lines bound hs cs no_own ≡ own_of_lines bound hs cs
unfolding own_lines own_of_lines outputs regs mems
own_first bound hs cs = λ i. record {
  sites = sites bound hs cs;
  pairs = add_all same_pair (all_pairs hs cs) [];
  outputs = outputs_first (output_lines cs) i;
  regs = storage_first (storage_lines line_regs cs) i;
  mems = storage_first (storage_lines line_mems cs) i;
  misuses = misuses_first (misuses hs cs) i;
}

-- storage is reported by the number of its blocks
storage_same : (f : Storage → ℕ → List Report) (poisoned : List ℕ) (ps qs : List Pair) → ((n : ℕ) → block_count n ps ≡ block_count n qs) → (rs : List Storage)
    → storage_reports f poisoned ps rs ≡ storage_reports f poisoned qs rs
unfolding storage_reports
storage_same f poisoned ps qs h [] = refl
storage_same f poisoned ps qs h (r ∷ rs) = go (has_name r.name poisoned) (storage_same f poisoned ps qs h rs)
  where
    go : (b : Bool) → storage_reports f poisoned ps rs ≡ storage_reports f poisoned qs rs
        → ◌≡◌ {A = List Report} (elim b [ true ↦ storage_reports f poisoned ps rs | false ↦ f r (block_count r.name ps) ++ storage_reports f poisoned ps rs ])
        (elim b [ true ↦ storage_reports f poisoned qs rs | false ↦ f r (block_count r.name qs) ++ storage_reports f poisoned qs rs ])
    go true e = e
    go false e = rw (h r.name, e)

-- the tests in the order of the walk are those of the specification
own_flags : (t l s p h g w : Bool) → (t || (l || ((s || p) || (h || g)))) || w ≡ t || l || s || p || h || g || w
own_flags true l s p h g w = refl
own_flags false true s p h g w = refl
own_flags false false true p h g w = refl
own_flags false false false true h g w = refl
own_flags false false false false h g w = refl

-- the walk of a module's own check, however it asks
pub own_module : (d : Design) (ask : Asking) → Agrees ask (comb_summary (suc (length d)) d []) → (k : Module) (kept : Kept)
    → walk_module ask (walking true k) k kept ≡ unless (module_stops d k kept) (module_walked d k kept)
unfolding module_stops module_walked stops after own_full own_after module_heads
own_module d ask agrees k kept =
    let c = collection (own_vals k) k in
    module_is ask (comb_summary (suc (length d)) d []) agrees (walking true k) k kept ∙ rw (own_first k.bound k.header c.lines)

module _ (d : Design) (agrees : Agrees (ask_walk (suc (length d)) d []) (comb_summary (suc (length d)) d [])) where
  own_is : (k : Module) (kept : Kept) → own_walk d k kept ≡ unless (module_stops d k kept) (module_walked d k kept)
  unfolding own_walk
  own_is k kept = own_module d (ask_walk (suc (length d)) d []) agrees k kept

  -- what two checks give together
  abbrev joined : Tally → Tally → Tally
  joined x y = record { reports = x.reports ++ y.reports; rounds = x.rounds + y.rounds; kept = y.kept }

  -- what follows the walk in a module's own check
  finish : ℕ → Module → Walked State → Got Tally
  finish m k r =
      let names = (name_table (own_vals k) k).names in
      let o = r.state.own in
      unless (widths_out names (poison o) o.sites o.outputs)
      (record { reports = own_reports m names o r.state.heads; rounds = round_limit - r.left; kept = r.state.kept })

  flags_are : (kept : Kept) (m : ℕ) (k : Module)
      → module_stops d k kept || widths_out (name_table (own_vals k) k).names (poison (module_walked d k kept).state.own) (module_walked d k kept).state.own.sites (module_walked d k kept).state.own.outputs
      ≡ (check_module_drivers d kept m k).full
  unfolding check_module_drivers module_stops module_walked over_own poison own_of_lines pairs
  flags_are kept m k =
      let c = collection (own_vals k) k in
      let h = module_heads d kept k c.lines in
      let o = own_of_lines k.bound k.header c.lines in
      own_flags (name_table (own_vals k) k).out (lines_outside k.header c.lines) (ltb site_limit (length o.sites)) (ltb pair_limit (length o.pairs))
      h.full (over_graph h.heads) (widths_out (name_table (own_vals k) k).names (poison o) o.sites o.outputs)
      ∙ rw (pairs_length (all_pairs k.header c.lines))

  abbrev tally_at : ℕ → Module → Walked State → Tally
  tally_at m k r = record { reports = own_reports m (name_table (own_vals k) k).names r.state.own r.state.heads; rounds = round_limit - r.left; kept = r.state.kept }

  tally_are : (kept : Kept) (m : ℕ) (k : Module) → tally_at m k (module_walked d k kept) ≡ tally_of (check_module_drivers d kept m k)
  unfolding check_module_drivers module_walked own_reports poison own_of_lines pairs
  tally_are kept m k =
      let c = collection (own_vals k) k in
      let ps = all_pairs k.header c.lines in
      let r = (collecting.modules (own_vals k) k).rounds in
      let q : round_limit - c.left ≡ c.taken = omega arith in
      rw (q, storage_same (reg_report m) _ _ _ (pairs_count ps) (regs c.lines), storage_same (mem_report m) _ _ _ (pairs_count ps) (mems c.lines))

  check_is : (kept : Kept) (m : ℕ) (k : Module) → check_one d kept m k ≡ unless (check_module_drivers d kept m k).full (tally_of (check_module_drivers d kept m k))
  unfolding check_one finish
  check_is kept m k =
      ap (λ (g : Got (Walked State)). then_go g (finish m k)) (own_is k kept)
      ∙ then_unless (module_stops d k kept) _ (module_walked d k kept) (finish m k) _ refl
      ∙ ap (λ (b : Bool). unless b (tally_at m k (module_walked d k kept))) (flags_are kept m k)
      ∙ ap (λ (t : Tally). unless (check_module_drivers d kept m k).full t) (tally_are kept m k)

  all_is : (ks : List Module) (kept : Kept) (m : ℕ) → check_all d kept m ks ≡ unless (check_modules d kept m ks).full (tally_of (check_modules d kept m ks))
  unfolding check_all check_modules
  all_is [] kept m = refl
  all_is (k ∷ ks) kept m =
      let a = check_module_drivers d kept m k in
      let b = check_modules d a.kept (suc m) ks in
      let rest : Tally → Got Tally = λ x. then_go (check_all d x.kept (suc m) ks) (λ y. going (joined x y)) in
      ap (λ (g : Got Tally). then_go g rest) (check_is kept m k)
      ∙ then_unless a.full b.full (tally_of a) rest (joined (tally_of a) (tally_of b))
      (ap (λ (g : Got Tally). then_go g (λ y. going (joined (tally_of a) y))) (all_is ks a.kept (suc m)) ∙ last b.full (joined (tally_of a)) (tally_of b))
    where
      last : (b : Bool) (f : Tally → Tally) (t : Tally) → then_go (unless b t) (λ y. going (f y)) ≡ unless b (f t)
      last true f t = refl
      last false f t = refl

-- ---- a constant outside INT stops the check, whatever else is done

-- the fold stops at a line that evaluates one
lines_stop : (ask : Asking) (w : Walking) (cs : List Collected) (st : State) → lines_outside w.header cs ≡ true → fold_lines (line_step ask w) cs st ≡ full
unfolding fold_lines lines_outside line_step
lines_stop ask w [] st e = absurd (false≢true e)
lines_stop ask w (c ∷ cs) st e = go (any_outside c.names (line_constants w.header c.item)) _ e (λ st' f. lines_stop ask w cs st' f)
  where
    on : (g : Got State) → ((st' : State) → fold_lines (line_step ask w) cs st' ≡ full) → then_go g (λ st'. fold_lines (line_step ask w) cs st') ≡ full
    on full ih = refl
    on (going st') ih = ih st'

    go : (b : Bool) (g : Got State) → b || lines_outside w.header cs ≡ true → ((st' : State) → lines_outside w.header cs ≡ true → fold_lines (line_step ask w) cs st' ≡ full)
        → then_go (elim b as (λ _. Got State) [ true ↦ full | false ↦ g ]) (λ st'. fold_lines (line_step ask w) cs st') ≡ full
    go true g e ih = refl
    go false g e ih = on g (λ st'. ih st' e)

-- so does the walk of its module
pub module_stop : (ask : Asking) (own : Bool) (k : Module) (kept : Kept) → module_outside k ≡ true → walk_module ask (walking own k) k kept ≡ full
unfolding walk_module module_outside collection
module_stop ask own k kept e =
    go (name_table (own_vals k) k).out e
    (λ f. items_fold (line_step ask (walking own k)) k.items [] 0 (name_table (own_vals k) k).names round_limit (begin kept)
    ∙ ap (λ (z : Got State). then_go z (λ st. going (walked (collect_items k.items [] 0 (name_table (own_vals k) k).names round_limit).left st)))
    (lines_stop ask (walking own k) (collect_items k.items [] 0 (name_table (own_vals k) k).names round_limit).lines (begin kept) f))
  where
    go : (b : Bool) → b || lines_outside k.header (collect_items k.items [] 0 (name_table (own_vals k) k).names round_limit).lines ≡ true
        → (lines_outside k.header (collect_items k.items [] 0 (name_table (own_vals k) k).names round_limit).lines ≡ true
        → walk_items k.items (line_step ask (walking own k)) (name_table (own_vals k) k).names round_limit (begin kept) ≡ full)
        → ◌≡◌ {A = Got (Walked State)} (elim b [ true ↦ full | false ↦ walk_items k.items (line_step ask (walking own k)) (name_table (own_vals k) k).names round_limit (begin kept) ]) full
    go true e h = refl
    go false e h = h e

check_stop : (d : Design) (kept : Kept) (m : ℕ) (k : Module) → module_outside k ≡ true → check_one d kept m k ≡ full
unfolding check_one own_walk
check_stop d kept m k e = rw (module_stop (ask_walk (suc (length d)) d []) true k kept e)

-- so do the fused check and the specification's
all_stop : (d : Design) (ks : List Module) (kept : Kept) (m : ℕ) → some_outside ks ≡ true → check_all d kept m ks ≡ full
unfolding check_all some_outside
all_stop d [] kept m e = absurd (false≢true e)
all_stop d (k ∷ ks) kept m e = go (or_parts (module_outside k) (some_outside ks) e) (λ kept' f. all_stop d ks kept' (suc m) f)
  where
    rest : Tally → Got Tally
    rest a = then_go (check_all d a.kept (suc m) ks) (λ b. going (record { reports = a.reports ++ b.reports; rounds = a.rounds + b.rounds; kept = b.kept }))

    on : (g : Got Tally) → ((kept' : Kept) → check_all d kept' (suc m) ks ≡ full) → then_go g rest ≡ full
    on full h = refl
    on (going a) h = rw (h a.kept)

    go : (module_outside k ≡ true) ⊎ (some_outside ks ≡ true) → ((kept' : Kept) → some_outside ks ≡ true → check_all d kept' (suc m) ks ≡ full) → then_go (check_one d kept m k) rest ≡ full
    go (inl f) h = rw (check_stop d kept m k f)
    go (inr f) h = on (check_one d kept m k) (λ kept'. h kept' f)

spec_one : (d : Design) (kept : Kept) (m : ℕ) (k : Module) → module_outside k ≡ true → (check_module_drivers d kept m k).full ≡ true
unfolding check_module_drivers module_outside
spec_one d kept m k e = rw e

spec_stop : (d : Design) (ks : List Module) (kept : Kept) (m : ℕ) → some_outside ks ≡ true → (check_modules d kept m ks).full ≡ true
unfolding check_modules some_outside
spec_stop d [] kept m e = absurd (false≢true e)
spec_stop d (k ∷ ks) kept m e = go (or_parts (module_outside k) (some_outside ks) e) (λ kept' f. spec_stop d ks kept' (suc m) f)
  where
    go : (module_outside k ≡ true) ⊎ (some_outside ks ≡ true) → ((kept' : Kept) → some_outside ks ≡ true → (check_modules d kept' (suc m) ks).full ≡ true)
        → (check_module_drivers d kept m k).full || (check_modules d (check_module_drivers d kept m k).kept (suc m) ks).full ≡ true
    go (inl f) h = rw (spec_one d kept m k f)
    go (inr f) h = rw (h (check_module_drivers d kept m k).kept f) (or-true (check_module_drivers d kept m k).full)

-- The fused check is the check, whatever summaries are kept before it.
whole_from : (d : Design) (kept : Kept) → check_all d kept 0 d ≡ unless (check_modules d kept 0 d).full (tally_of (check_modules d kept 0 d))
whole_from d kept = go (some_outside d) refl
  where
    go : (b : Bool) → some_outside d ≡ b → check_all d kept 0 d ≡ unless (check_modules d kept 0 d).full (tally_of (check_modules d kept 0 d))
    go true e = all_stop d d kept 0 e ∙ ap (λ (b : Bool). unless b (tally_of (check_modules d kept 0 d))) (sym (spec_stop d d kept 0 e))
    go false e = all_is d (asks_agree d e (suc (length d)) []) d kept 0

-- So it is where none is kept.
whole_is : (d : Design) → check_fused d ≡ unless (check_design d).full (tally_of (check_design d))
unfolding check_fused check_design
whole_is d = whole_from d []

full_is : {A : Type 0} (b : Bool) (a : A) → (unless b a ≡ full) ↔ (b ≡ true)
full_is true a = (λ e. refl, λ e. refl)
full_is false a = (λ e. let z : ◌≡◌ {A = ℕ} 0 1 = cc in absurd (omega arith), λ e. absurd (false≢true e))

-- a test that did not stop
pub unless_going : {A : Type 0} (b : Bool) (a t : A) → unless b a ≡ going t → (b ≡ false) × (t ≡ a)
unless_going true a t e = let z : ◌≡◌ {A = ℕ} 0 1 = cc in absurd (omega arith)
unless_going false a t e = (refl, cc)

-- the fused check goes on where the check passes no limit
going_is : (d : Design) (t : Tally) → check_fused d ≡ going t → ((check_design d).full ≡ false) × (t ≡ tally_of (check_design d))
going_is d t e = unless_going (check_design d).full (tally_of (check_design d)) t (rw (whole_is d) at e)

-- A second check, with the summaries that the first kept, gives what the first gave.
whole_again : (d : Design) (t : Tally) → check_fused d ≡ going t → check_all d t.kept 0 d ≡ going t
whole_again d t e =
    let g = going_is d t e in
    rw (g.1, whole_from d (check_design d).kept, design_again d g.0, g.0)

pub fused : Fused
fused = record {
  summary = asks_agree;
  own_check = λ d e. own_is d (asks_agree d e (suc (length d)) []);
  whole = whole_is;
  full_exactly = λ d. rw (whole_is d) (full_is (check_design d).full (tally_of (check_design d)));
  as_checked = λ d t e. (going_is d t e).1;
  again = whole_again;
}
