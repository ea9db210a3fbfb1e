-- The walk over items, one law for each way of the code: what an item's line leaves, and what it holds.
-- Assumes nothing.
use mathlib.Core.Path.{◌≡◌, refl, ◌∙◌, ap}
use mathlib.Core.Bool.{Bool, true, false, ◌||◌, true≢false, false≢true}
use mathlib.Core.List.{List, [], ◌∷◌, ◌++◌, append-nil}
use mathlib.Core.Option.{Option, some, none}
use Prim.Native.Nat.{ℕ, suc}
use lib.ListN.{get_elem?}
use lib.Dec.{ltb}
use Rattle.spec.specs.Syntax.{Expr, Inst, Item, Items, port, wire, reg, mem, const, drive, on, inst, repeat, const_if, Header, Module, Design}
use Rattle.spec.specs.Refusal.{has_name}
use Rattle.spec.specs.Value.{Names, own_vals, name_table}
use Rattle.spec.specs.Collect.{round_limit}
use Rattle.spec.specs.Site.{line_sites, line_constants, any_outside, line_misuses, line_outputs}
use Rattle.spec.specs.Block.{line_pairs, line_regs, line_mems}
use Rattle.spec.specs.Edge.{Heads, no_heads, Summary, line_heads, inst_edges, inst_of, over_graph}
use Rattle.spec.specs.Summary.{Kept, kept_summary, triples, triple_limit, module_summary}
use Rattle.walk.specs.Walk.{Got, full, going, then_go, unless, Walked, walked, walk_inner, walk_items, add_all, Own, State, begin, Walking, walking, own_line, over_own, own_step, Answered, answered, Asking, ask_step, head_step, line_step, walk_module, make_walk, ask_walk}
use Rattle.steps.specs.Steps.{plain}

-- ---- items, one behind the other

module _ {S : Type 0} (step : Names → Item → S → Got S) (names : Names) where
  pub walk_end : (left : ℕ) (st : S) → walk_items Items.none step names left st ≡ going (walked left st)
  unfolding walk_items
  walk_end left st = refl

  -- an item's line, what it holds, and the items behind it
  pub walk_on : (i : Item) (is : Items) (left left' : ℕ) (st st' st'' : S) → step names i st ≡ going st' → walk_inner i step names left st' ≡ going (walked left' st'')
      → walk_items (Items.more i is) step names left st ≡ walk_items is step names left' st''
  unfolding walk_items
  walk_on i is left left' st st' st'' e f = rw (e, f)

  pub line_stops : (i : Item) (is : Items) (left : ℕ) (st : S) → step names i st ≡ full → walk_items (Items.more i is) step names left st ≡ full
  unfolding walk_items
  line_stops i is left st e = rw e

  pub inner_stops : (i : Item) (is : Items) (left : ℕ) (st st' : S) → step names i st ≡ going st' → walk_inner i step names left st' ≡ full
      → walk_items (Items.more i is) step names left st ≡ full
  unfolding walk_items
  inner_stops i is left st st' e f = rw (e, f)

-- ---- the step at a line

-- a line that is not plain has no own entries
no_entries : (bound : Bool) (hs : List Header) (names : Names) (i : Item) (o : Own) → plain i ≡ false → own_line bound hs names i o ≡ o
unfolding own_line line_sites line_pairs line_outputs line_regs line_mems line_misuses add_all
no_entries bound hs names (port d n w s) o e = absurd (true≢false e)
no_entries bound hs names (wire n x s) o e = absurd (true≢false e)
no_entries bound hs names (reg n s) o e = absurd (true≢false e)
no_entries bound hs names (mem n s) o e = absurd (true≢false e)
no_entries bound hs names (const n x) o e = absurd (true≢false e)
no_entries bound hs names (drive lv x) o e = absurd (true≢false e)
no_entries bound hs names (on s ss) o e = absurd (true≢false e)
no_entries bound hs names (inst i) o e = λ j. record { sites = append-nil o.sites j; pairs = o.pairs; outputs = o.outputs; regs = o.regs; mems = o.mems; misuses = o.misuses }
no_entries bound hs names (repeat n l h is) o e = λ j. record { sites = append-nil o.sites j; pairs = o.pairs; outputs = o.outputs; regs = o.regs; mems = o.mems; misuses = o.misuses }
no_entries bound hs names (const_if c is js) o e = λ j. record { sites = append-nil o.sites j; pairs = o.pairs; outputs = o.outputs; regs = o.regs; mems = o.mems; misuses = o.misuses }

-- the own tables are within their limits, where there are any
abbrev pub Fine : Bool → Own → Type 0
Fine true o = over_own o ≡ false
Fine false o = Unit {0}

own_stays : (own bound : Bool) (hs : List Header) (names : Names) (i : Item) (o : Own) → plain i ≡ false → Fine own o → own_step own bound hs names i o ≡ going o
unfolding own_step
own_stays true bound hs names i o e f = rw (no_entries bound hs names i o e, f)
own_stays false bound hs names i o e f = refl

module _ (ask : Asking) (w : Walking) (names : Names) (i : Item) (st : State) where
  abbrev outside_here : Bool
  outside_here = any_outside names (line_constants w.header i)

  abbrev owns : Got Own
  owns = own_step w.own w.bound w.header names i st.own

  abbrev asks : Got Answered
  asks = ask_step ask st.kept (inst_of i)

  abbrev heading : Own → Answered → Got State
  heading o a = head_step (line_heads w.header names a.summary i) (record { own = o; heads = st.heads; kept = a.kept })

  opened : line_step ask w names i st ≡ elim outside_here as (λ _. Got State) [ true ↦ full | false ↦ then_go owns (λ o. then_go asks (λ a. heading o a)) ]
  unfolding line_step
  opened = refl

  pub step_outside : outside_here ≡ true → line_step ask w names i st ≡ full
  step_outside e = opened ∙ go outside_here (then_go owns (λ o. then_go asks (λ a. heading o a))) e
    where
      go : (b : Bool) (g : Got State) → b ≡ true → ◌≡◌ {A = Got State} (elim b as (λ _. Got State) [ true ↦ full | false ↦ g ]) full
      go true g e = refl
      go false g e = absurd (false≢true e)

  own_over : outside_here ≡ false → owns ≡ full → line_step ask w names i st ≡ full
  own_over e f = opened ∙ go outside_here owns e f
    where
      go : (b : Bool) (x : Got Own) → b ≡ false → x ≡ full → ◌≡◌ {A = Got State} (elim b as (λ _. Got State) [ true ↦ full | false ↦ then_go x (λ o. then_go asks (λ a. heading o a)) ]) full
      go true x e f = absurd (true≢false e)
      go false x e f = ap (λ (y : Got Own). then_go y (λ o. then_go asks (λ a. heading o a))) f

  unasked : (o : Own) → outside_here ≡ false → owns ≡ going o → asks ≡ full → line_step ask w names i st ≡ full
  unasked o e f g = opened ∙ go outside_here owns asks e f g
    where
      go : (b : Bool) (x : Got Own) (y : Got Answered) → b ≡ false → x ≡ going o → y ≡ full
          → ◌≡◌ {A = Got State} (elim b as (λ _. Got State) [ true ↦ full | false ↦ then_go x (λ o'. then_go y (λ a. heading o' a)) ]) full
      go true x y e f g = absurd (true≢false e)
      go false x y e f g =
          ap (λ (z : Got Own). then_go z (λ o'. then_go y (λ a. heading o' a))) f ∙ ap (λ (z : Got Answered). then_go z (λ a. heading o a)) g

  stepped : (o : Own) (a : Answered) → outside_here ≡ false → owns ≡ going o → asks ≡ going a → line_step ask w names i st ≡ heading o a
  stepped o a e f g = opened ∙ go outside_here owns asks e f g
    where
      go : (b : Bool) (x : Got Own) (y : Got Answered) → b ≡ false → x ≡ going o → y ≡ going a
          → elim b as (λ _. Got State) [ true ↦ full | false ↦ then_go x (λ o'. then_go y (λ a'. heading o' a')) ] ≡ heading o a
      go true x y e f g = absurd (true≢false e)
      go false x y e f g =
          ap (λ (z : Got Own). then_go z (λ o'. then_go y (λ a'. heading o' a'))) f ∙ ap (λ (z : Got Answered). then_go z (λ a'. heading o a')) g

-- heads within the limits, and past them
head_goes : (h : Heads) (st : State) → h.out || over_graph (st.heads ++ h.heads) ≡ false
    → head_step h st ≡ going (record { own = st.own; heads = st.heads ++ h.heads; kept = st.kept })
unfolding head_step
head_goes h st e = ap (λ (b : Bool). unless b (record { own = st.own; heads = st.heads ++ h.heads; kept = st.kept })) e

head_stops : (h : Heads) (st : State) → h.out || over_graph (st.heads ++ h.heads) ≡ true → head_step h st ≡ full
unfolding head_step
head_stops h st e = ap (λ (b : Bool). unless b (record { own = st.own; heads = st.heads ++ h.heads; kept = st.kept })) e

module _ (ask : Asking) (w : Walking) (names : Names) where
  abbrev edges_of : Inst → Answered → Heads
  edges_of i a = inst_edges w.header names i a.summary

  -- an instance line
  inst_asks : (i : Inst) (st : State) → ask_step ask st.kept (inst_of (inst i)) ≡ ask st.kept i.«module»
  unfolding ask_step inst_of
  inst_asks i st = refl

  module _ (i : Inst) (st : State) (inside : any_outside names (line_constants w.header (inst i)) ≡ false) (fine : Fine w.own st.own) where
    kept_own : own_step w.own w.bound w.header names (inst i) st.own ≡ going st.own
    kept_own = own_stays w.own w.bound w.header names (inst i) st.own refl fine

    pub inst_unasked : ask st.kept i.«module» ≡ full → line_step ask w names (inst i) st ≡ full
    inst_unasked g = unasked ask w names (inst i) st st.own inside kept_own (inst_asks i st ∙ g)

    module _ (a : Answered) (answer : ask st.kept i.«module» ≡ going a) where
      pub inst_step : (edges_of i a).out || over_graph (st.heads ++ (edges_of i a).heads) ≡ false
          → line_step ask w names (inst i) st ≡ going (record { own = st.own; heads = st.heads ++ (edges_of i a).heads; kept = a.kept })
      unfolding line_heads
      inst_step h =
          stepped ask w names (inst i) st st.own a inside kept_own (inst_asks i st ∙ answer)
          ∙ head_goes (edges_of i a) (record { own = st.own; heads = st.heads; kept = a.kept }) h

      pub inst_over : (edges_of i a).out || over_graph (st.heads ++ (edges_of i a).heads) ≡ true → line_step ask w names (inst i) st ≡ full
      unfolding line_heads
      inst_over h =
          stepped ask w names (inst i) st st.own a inside kept_own (inst_asks i st ∙ answer)
          ∙ head_stops (edges_of i a) (record { own = st.own; heads = st.heads; kept = a.kept }) h

  -- a `repeat` or `constif` line leaves the state as it is
  same_state : (st : State) → ◌≡◌ {A = State} (record { own = st.own; heads = st.heads ++ []; kept = st.kept }) st
  same_state st = λ j. record { own = st.own; heads = append-nil st.heads j; kept = st.kept }

  module _ (st : State) (fine : Fine w.own st.own) (few : over_graph st.heads ≡ false) where
    no_more : over_graph (st.heads ++ []) ≡ false
    no_more = ap over_graph (append-nil st.heads) ∙ few

    pub repeat_step : (n : ℕ) (l h : Expr) (is : Items) → any_outside names (line_constants w.header (repeat n l h is)) ≡ false
        → line_step ask w names (repeat n l h is) st ≡ going st
    unfolding ask_step inst_of line_heads
    repeat_step n l h is e =
        stepped ask w names (repeat n l h is) st st.own (answered [] st.kept) e
        (own_stays w.own w.bound w.header names (repeat n l h is) st.own refl fine) refl
        ∙ head_goes no_heads (record { own = st.own; heads = st.heads; kept = st.kept }) no_more ∙ ap (λ (x : State). going x) (same_state st)

    pub const_if_step : (c : Expr) (is js : Items) → any_outside names (line_constants w.header (const_if c is js)) ≡ false
        → line_step ask w names (const_if c is js) st ≡ going st
    unfolding ask_step inst_of line_heads
    const_if_step c is js e =
        stepped ask w names (const_if c is js) st st.own (answered [] st.kept) e
        (own_stays w.own w.bound w.header names (const_if c is js) st.own refl fine) refl
        ∙ head_goes no_heads (record { own = st.own; heads = st.heads; kept = st.kept }) no_more ∙ ap (λ (x : State). going x) (same_state st)

  -- a plain line asks for nothing
  plain_asks : (i : Item) (kept : Kept) → plain i ≡ true → ask_step ask kept (inst_of i) ≡ going (answered [] kept)
  unfolding inst_of ask_step
  plain_asks (port d n x s) kept e = refl
  plain_asks (wire n x s) kept e = refl
  plain_asks (reg n s) kept e = refl
  plain_asks (mem n s) kept e = refl
  plain_asks (const n x) kept e = refl
  plain_asks (drive lv x) kept e = refl
  plain_asks (on s ss) kept e = refl
  plain_asks (inst i) kept e = absurd (false≢true e)
  plain_asks (repeat n l h is) kept e = absurd (false≢true e)
  plain_asks (const_if c is js) kept e = absurd (false≢true e)

  module _ (i : Item) (st : State) (none_held : plain i ≡ true) (inside : any_outside names (line_constants w.header i) ≡ false) where
    abbrev line_edges : Heads
    line_edges = line_heads w.header names [] i

    pub plain_own_over : own_step w.own w.bound w.header names i st.own ≡ full → line_step ask w names i st ≡ full
    plain_own_over f = own_over ask w names i st inside f

    module _ (o : Own) (after : own_step w.own w.bound w.header names i st.own ≡ going o) where
      pub plain_step : line_edges.out || over_graph (st.heads ++ line_edges.heads) ≡ false
          → line_step ask w names i st ≡ going (record { own = o; heads = st.heads ++ line_edges.heads; kept = st.kept })
      plain_step g =
          stepped ask w names i st o (answered [] st.kept) inside after (plain_asks i st.kept none_held)
          ∙ head_goes line_edges (record { own = o; heads = st.heads; kept = st.kept }) g

      pub plain_over : line_edges.out || over_graph (st.heads ++ line_edges.heads) ≡ true → line_step ask w names i st ≡ full
      plain_over g =
          stepped ask w names i st o (answered [] st.kept) inside after (plain_asks i st.kept none_held)
          ∙ head_stops line_edges (record { own = o; heads = st.heads; kept = st.kept }) g

-- ---- asking for a summary

module _ (fuel : ℕ) (d : Design) (busy : List ℕ) (kept : Kept) (m : ℕ) where
  abbrev makes : Module → Got Answered
  makes k = make_walk (ask_walk fuel d (m ∷ busy)) kept m k

  abbrev by_state : Module → Option Summary → Bool → Got Answered
  by_state k o b =
      elim b as (λ _. Got Answered) [
        | true ↦ going (answered [] kept)
        | false ↦ elim o as (λ _. Got Answered) [ some s ↦ going (answered s kept) | none ↦ makes k ]
      ]

  asked : ask_walk (suc fuel) d busy kept m
      ≡ elim (get_elem? d m) as (λ _. Got Answered) [ none ↦ going (answered [] kept) | some k ↦ by_state k (kept_summary kept m) (has_name m busy) ]
  unfolding ask_walk
  asked = refl

  pub ask_missing : get_elem? d m ≡ none → ask_walk (suc fuel) d busy kept m ≡ going (answered [] kept)
  ask_missing e =
      asked ∙ ap (λ (o : Option Module). elim o as (λ _. Got Answered) [ none ↦ going (answered [] kept) | some k ↦ by_state k (kept_summary kept m) (has_name m busy) ]) e

  module _ (k : Module) (there : get_elem? d m ≡ some k) where
    found : ask_walk (suc fuel) d busy kept m ≡ by_state k (kept_summary kept m) (has_name m busy)
    found =
        asked ∙ ap (λ (o : Option Module). elim o as (λ _. Got Answered) [ none ↦ going (answered [] kept) | some k ↦ by_state k (kept_summary kept m) (has_name m busy) ]) there

    pub ask_kept : (s : Summary) → kept_summary kept m ≡ some s → has_name m busy ≡ false → ask_walk (suc fuel) d busy kept m ≡ going (answered s kept)
    ask_kept s e free = found ∙ ap (λ (o : Option Summary). by_state k o (has_name m busy)) e ∙ ap (λ (b : Bool). by_state k (some s) b) free

    module _ (new : kept_summary kept m ≡ none) where
      pub ask_busy : has_name m busy ≡ true → ask_walk (suc fuel) d busy kept m ≡ going (answered [] kept)
      ask_busy e = found ∙ ap (λ (b : Bool). by_state k (kept_summary kept m) b) e

      module _ (free : has_name m busy ≡ false) where
        ask_makes : ask_walk (suc fuel) d busy kept m ≡ makes k
        ask_makes = found ∙ ap (λ (o : Option Summary). by_state k o (has_name m busy)) new ∙ ap (λ (b : Bool). by_state k none b) free

        abbrev walk_made : Got (Walked State)
        walk_made = walk_items k.items (line_step (ask_walk fuel d (m ∷ busy)) (walking false k)) (name_table (own_vals k) k).names round_limit (begin kept)

        abbrev kept_by : Got (Walked State) → Got Answered
        kept_by x =
            then_go x (λ r. unless (ltb triple_limit (triples ((m, module_summary k r.state.heads) ∷ r.state.kept)))
            (answered (module_summary k r.state.heads) ((m, module_summary k r.state.heads) ∷ r.state.kept)))

        abbrev walk_by : Bool → Got (Walked State)
        walk_by b = elim b as (λ _. Got (Walked State)) [ true ↦ full | false ↦ walk_made ]

        made_by : makes k ≡ kept_by (walk_by (name_table (own_vals k) k).out)
        unfolding make_walk walk_module
        made_by = refl

        made_from : (b : Bool) → (name_table (own_vals k) k).out ≡ b → ask_walk (suc fuel) d busy kept m ≡ kept_by (walk_by b)
        made_from b e = ask_makes ∙ made_by ∙ ap (λ (c : Bool). kept_by (walk_by c)) e

        pub ask_outside : (name_table (own_vals k) k).out ≡ true → ask_walk (suc fuel) d busy kept m ≡ full
        ask_outside e = made_from true e

        pub ask_stops : (name_table (own_vals k) k).out ≡ false → walk_made ≡ full → ask_walk (suc fuel) d busy kept m ≡ full
        ask_stops e f = made_from false e ∙ ap (λ (x : Got (Walked State)). kept_by x) f

        module _ (left : ℕ) (st : State) (inside : (name_table (own_vals k) k).out ≡ false) (walks : walk_made ≡ going (walked left st)) where
          abbrev made : Kept
          made = (m, module_summary k st.heads) ∷ st.kept

          tested : ask_walk (suc fuel) d busy kept m ≡ unless (ltb triple_limit (triples made)) (answered (module_summary k st.heads) made)
          tested = made_from false inside ∙ ap (λ (x : Got (Walked State)). kept_by x) walks

          pub ask_over : ltb triple_limit (triples made) ≡ true → ask_walk (suc fuel) d busy kept m ≡ full
          ask_over e = tested ∙ ap (λ (b : Bool). unless b (answered (module_summary k st.heads) made)) e

          pub ask_made : ltb triple_limit (triples made) ≡ false → ask_walk (suc fuel) d busy kept m ≡ going (answered (module_summary k st.heads) made)
          ask_made e = tested ∙ ap (λ (b : Bool). unless b (answered (module_summary k st.heads) made)) e
