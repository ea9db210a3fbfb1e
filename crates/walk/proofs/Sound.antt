-- A walk that is not full has the specification's state, whatever else the design holds.
-- Assumes nothing.
use mathlib.Core.Path.{◌≡◌, refl, sym, ◌∙◌}
use mathlib.Core.Bool.{Bool, true, false}
use mathlib.Core.List.{List, [], ◌∷◌}
use mathlib.Core.Option.{Option, some, none}
use Prim.Native.Nat.{ℕ, zero, suc}
use native.Mathlib.Omega.{arith}
use lib.ListN.{length, get_elem?}
use lib.Dec.{ltb}
use Rattle.spec.specs.Syntax.{Inst, Item, Items, Module, Design}
use Rattle.spec.specs.Refusal.{has_name}
use Rattle.spec.specs.Value.{Names, own_vals, name_table}
use Rattle.spec.specs.Collect.{Collected, round_limit, collect_items}
use Rattle.spec.specs.Site.{line_constants, any_outside}
use Rattle.spec.specs.Edge.{Summary, line_heads, inst_of}
use Rattle.spec.specs.Summary.{Kept, Asked, kept_summary, no_summary, make_summary, comb_summary, module_summary, triples, triple_limit}
use Rattle.walk.specs.Walk.{Got, full, going, then_go, unless, Walked, walked, walk_items, Own, State, begin, Walking, walking, answered, Answered, Asking, own_step, ask_step, head_step, line_step, walk_module, make_walk, ask_walk, own_walk}
use Rattle.walk.specs.Fold.{module_outside, module_walked, module_stops}
use Rattle.walk.proofs.Fold.{items_fold, fold_lines}
use Rattle.walk.proofs.Fused.{module_stop, make_is, own_module, unless_going}

-- g is full or is h
pub data Under {A : Type 0} : Got A → Got A → Type 0 where
  stopped : {h : Got A} → Under full h
  same : {h : Got A} → Under h h

same_as : {A : Type 0} {g h : Got A} → g ≡ h → Under g h
same_as {h = h} e = rw e same

then_under : {A B : Type 0} {g h : Got A} (f k : A → Got B) → Under g h → ((a : A) → Under (f a) (k a)) → Under (then_go g f) (then_go h k)
then_under f k stopped u = stopped
then_under f k (same {h = full}) u = stopped
then_under f k (same {h = going a}) u = u a

elim_under : {A : Type 0} {g h : Got A} (b : Bool) → Under g h → Under {A = A} (elim b [ true ↦ full | false ↦ g ]) (elim b [ true ↦ full | false ↦ h ])
elim_under true u = same
elim_under false u = u

-- ---- asking that is under another gives walks that are under the other's

module _ (ask by : Asking) (under : (kept : Kept) (m : ℕ) → Under (ask kept m) (by kept m)) where
  ask_under : (kept : Kept) (i : Option Inst) → Under (ask_step ask kept i) (ask_step by kept i)
  unfolding ask_step
  ask_under kept none = same
  ask_under kept (some i) = under kept i.«module»

  module _ (w : Walking) where
    step_under : (names : Names) (item : Item) (st : State) → Under (line_step ask w names item st) (line_step by w names item st)
    unfolding line_step
    step_under names item st =
        let own = own_step w.own w.bound w.header names item st.own in
        let heads : Own → Answered → Got State = λ o a. head_step (line_heads w.header names a.summary item) (record { own = o; heads = st.heads; kept = a.kept }) in
        elim_under (any_outside names (line_constants w.header item))
        (then_under (λ o. then_go (ask_step ask st.kept (inst_of item)) (heads o)) (λ o. then_go (ask_step by st.kept (inst_of item)) (heads o))
        (same {h = own}) (λ o. then_under (heads o) (heads o) (ask_under st.kept (inst_of item)) (λ a. same)))

    fold_under : (cs : List Collected) (st : State) → Under (fold_lines (line_step ask w) cs st) (fold_lines (line_step by w) cs st)
    unfolding fold_lines
    fold_under [] st = same
    fold_under (c ∷ cs) st =
        then_under (λ st'. fold_lines (line_step ask w) cs st') (λ st'. fold_lines (line_step by w) cs st') (step_under c.names c.item st) (λ st'. fold_under cs st')

    walk_under : (is : Items) (names : Names) (left : ℕ) (st : State) → Under (walk_items is (line_step ask w) names left st) (walk_items is (line_step by w) names left st)
    walk_under is names left st =
        let c = collect_items is [] 0 names left in
        let last : State → Got (Walked State) = λ st'. going (walked c.left st') in
        rw (items_fold (line_step ask w) is [] 0 names left st, items_fold (line_step by w) is [] 0 names left st)
        (then_under last last (fold_under c.lines st) (λ st'. same))

    module_under : (k : Module) (kept : Kept) → Under (walk_module ask w k kept) (walk_module by w k kept)
    unfolding walk_module
    module_under k kept = elim_under (name_table (own_vals k) k).out (walk_under k.items (name_table (own_vals k) k).names round_limit (begin kept))

  make_under : (kept : Kept) (m : ℕ) (k : Module) → Under (make_walk ask kept m k) (make_walk by kept m k)
  unfolding make_walk
  make_under kept m k =
      let keep : Walked State → Got Answered = λ r. let s = module_summary k r.state.heads in let kept' : Kept = (m, s) ∷ r.state.kept in unless (ltb triple_limit (triples kept')) (answered s kept') in
      then_under keep keep (module_under (walking false k) k kept) (λ r. same)

-- ---- asking by the walk is under asking by the specification

abbrev spec_ask : (Kept → ℕ → Asked) → Asking
spec_ask by kept m = unless (by kept m).full (answered (by kept m).summary (by kept m).kept)

make_stop : (ask : Asking) (kept : Kept) (m : ℕ) (k : Module) → module_outside k ≡ true → make_walk ask kept m k ≡ full
unfolding make_walk
make_stop ask kept m k e = rw (module_stop ask false k kept e)

make_sound : (ask : Asking) (by : Kept → ℕ → Asked) → ((kept : Kept) (m : ℕ) → Under (ask kept m) (spec_ask by kept m)) → (kept : Kept) (m : ℕ) (k : Module)
    → Under (make_walk ask kept m k) (spec_ask (λ kept' m'. make_summary by kept m k) kept m)
make_sound ask by u kept m k = go (module_outside k) refl
  where
    go : (b : Bool) → module_outside k ≡ b → Under (make_walk ask kept m k) (spec_ask (λ kept' m'. make_summary by kept m k) kept m)
    go true e = rw (make_stop ask kept m k e) stopped
    go false e = rw (← (make_is (spec_ask by) by (λ kept' m'. refl) kept m k e)) (make_under ask (spec_ask by) u kept m k)

-- missing, kept, in progress, or made
under_chosen : (kept : Kept) (walks : Module → Got Answered) (makes : Module → Asked) (o : Option Module) (s : Option Summary) (b : Bool)
    → ((k : Module) → Under (walks k) (unless (makes k).full (answered (makes k).summary (makes k).kept)))
    → Under {A = Answered} (elim o [
      | none ↦ going (answered [] kept)
      | some k ↦ elim b [ true ↦ going (answered [] kept) | false ↦ elim s [ some t ↦ going (answered t kept) | none ↦ walks k ] ]
    ]) (let a : Asked = elim o [
      | none ↦ no_summary kept
      | some k ↦ elim b [ true ↦ no_summary kept | false ↦ elim s [ some t ↦ record { summary = t; kept = kept; full = false } | none ↦ makes k ] ]
    ] in unless a.full (answered a.summary a.kept))
under_chosen kept walks makes none s b h = same
under_chosen kept walks makes (some k) s true h = same
under_chosen kept walks makes (some k) (some t) false h = same
under_chosen kept walks makes (some k) none false h = h k

asks_under : (d : Design) (fuel : ℕ) (busy : List ℕ) (kept : Kept) (m : ℕ) → Under (ask_walk fuel d busy kept m) (spec_ask (comb_summary fuel d busy) kept m)
unfolding ask_walk comb_summary
asks_under d zero busy kept m = same
asks_under d (suc fuel) busy kept m =
    let ih = asks_under d fuel (m ∷ busy) in
    under_chosen kept (λ k. make_walk (ask_walk fuel d (m ∷ busy)) kept m k) (λ k. make_summary (comb_summary fuel d (m ∷ busy)) kept m k)
    (get_elem? d m) (kept_summary kept m) (has_name m busy)
    (λ k. make_sound (ask_walk fuel d (m ∷ busy)) (comb_summary fuel d (m ∷ busy)) ih kept m k)

-- what is under a test and goes on passed it
under_going : {A : Type 0} (g : Got A) (b : Bool) (a x : A) → Under g (unless b a) → g ≡ going x → (b ≡ false) × (x ≡ a)
under_going {A = A} g b a x u e = go u refl e
  where
    go : {g h : Got A} → Under g h → h ≡ unless b a → g ≡ going x → (b ≡ false) × (x ≡ a)
    go stopped f e = let z : ◌≡◌ {A = ℕ} 0 1 = cc in absurd (omega arith)
    go same f e = unless_going b a x (sym f ∙ e)

-- A module's own walk that is not full leaves what the specification gives, and that says that no limit is passed.
pub own_sound : (d : Design) (k : Module) (kept : Kept) (r : Walked State) → own_walk d k kept ≡ going r → (module_stops d k kept ≡ false) × (r ≡ module_walked d k kept)
unfolding own_walk
own_sound d k kept r e =
    let ask = ask_walk (suc (length d)) d [] in
    let by = comb_summary (suc (length d)) d [] in
    let u = module_under ask (spec_ask by) (asks_under d (suc (length d)) []) (walking true k) k kept in
    under_going (walk_module ask (walking true k) k kept) (module_stops d k kept) (module_walked d k kept) r
    (rw (own_module d (spec_ask by) (λ kept' m. refl) k kept) at u) e

-- So does asking for a summary.
pub ask_sound : (d : Design) (fuel : ℕ) (busy : List ℕ) (kept : Kept) (m : ℕ) (a : Answered) → ask_walk fuel d busy kept m ≡ going a
    → ((comb_summary fuel d busy kept m).full ≡ false) × (a ≡ answered (comb_summary fuel d busy kept m).summary (comb_summary fuel d busy kept m).kept)
ask_sound d fuel busy kept m a e = under_going (ask_walk fuel d busy kept m) (comb_summary fuel d busy kept m).full _ a (asks_under d fuel busy kept m) e
