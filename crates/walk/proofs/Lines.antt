-- The fused step at each collected line, folded, gives what the specification gives of the lines.
-- Assumes nothing.
use mathlib.Core.Path.{◌≡◌, refl, sym, ◌∙◌, ap}
use mathlib.Core.Bool.{Bool, true, false, ◌||◌, or-true, true≢false, false≢true}
use mathlib.Core.List.{List, [], ◌∷◌, ◌++◌, append_assoc, append-nil}
use mathlib.Core.Option.{Option, some, none}
use Prim.Native.Nat.{ℕ}
use native.Mathlib.Omega.{arith}
use lib.ListN.{length-append}
use Rattle.spec.specs.Syntax.{Inst, Item, Header}
use Rattle.spec.specs.Value.{Names}
use Rattle.spec.specs.Collect.{Collected}
use Rattle.spec.specs.Site.{sites, line_sites, line_constants, any_outside, lines_outside, line_misuses, misuses, line_outputs, output_lines}
use Rattle.spec.specs.Block.{all_pairs, line_pairs, line_regs, line_mems, storage_lines}
use Rattle.spec.specs.Edge.{Heads, line_heads, inst_of, over_graph}
use Rattle.spec.specs.Summary.{Kept, Asked, ask_for, lines_heads}
use Rattle.walk.specs.Walk.{Got, full, going, then_go, unless, add_all, same_output, same_storage, same_misused, same_pair, Own, State, Walking, own_line, own_step, answered, Answered, Asking, ask_step, head_step, line_step, over_own}
use Rattle.walk.specs.Fold.{Agrees}
use Rattle.walk.proofs.Fold.{fold_lines}
use Rattle.walk.proofs.Tables.{add_append, adds_grow}
use Rattle.walk.proofs.Limits.{graph_stays, Grows, own_stays}

-- ---- what the specification gives after some collected lines

-- 01, The site; The block: the own tables after some collected lines, from tables o on
unfoldable pub own_lines : Bool → List Header → List Collected → Own → Own
own_lines bound hs cs o =
    record {
      sites = o.sites ++ sites bound hs cs;
      pairs = add_all same_pair (all_pairs hs cs) o.pairs;
      outputs = add_all same_output (output_lines cs) o.outputs;
      regs = add_all same_storage (storage_lines line_regs cs) o.regs;
      mems = add_all same_storage (storage_lines line_mems cs) o.mems;
      misuses = add_all same_misused (misuses hs cs) o.misuses;
    }

-- 01, The site; The block: the own tables in the module's own check (true) and in a summary's walk, which leaves them
unfoldable pub own_after : Bool → Bool → List Header → List Collected → Own → Own
own_after true bound hs cs o = own_lines bound hs cs o
own_after false bound hs cs o = o

-- 01, Refused because of the state: whether the own tables pass a limit; in a summary's walk (false) they do not
unfoldable pub own_full : Bool → Own → Bool
own_full true o = over_own o
own_full false o = false

-- 01, Refused because of the state: whether the specification says that a walk over some collected lines passes a limit or leaves INT
unfoldable pub stops : (Kept → ℕ → Asked) → Walking → List Collected → State → Bool
stops by w cs st =
    let h = lines_heads by w.header st.kept cs in
    lines_outside w.header cs || (own_full w.own (own_after w.own w.bound w.header cs st.own) || (h.full || over_graph (st.heads ++ h.heads)))

-- 01, The site; The block; The edge: the state that the specification gives after some collected lines
unfoldable pub after : (Kept → ℕ → Asked) → Walking → List Collected → State → State
after by w cs st =
    let h = lines_heads by w.header st.kept cs in
    record { own = own_after w.own w.bound w.header cs st.own; heads = st.heads ++ h.heads; kept = h.kept }

-- ---- tests that stop, one behind the other

pub then_unless : {A B : Type 0} (b c : Bool) (a : A) (f : A → Got B) (x : B) → f a ≡ unless c x → then_go (unless b a) f ≡ unless (b || c) x
then_unless true c a f x e = refl
then_unless false c a f x e = e

pub elim_unless : {B : Type 0} (b c : Bool) (g : Got B) (x : B) → g ≡ unless c x → elim b as (λ _. Got B) [ true ↦ full | false ↦ g ] ≡ unless (b || c) x
elim_unless true c g x e = refl
elim_unless false c g x e = e

-- none of two tests
pub or_neither : (a b : Bool) → a || b ≡ false → (a ≡ false) × (b ≡ false)
or_neither true b h = absurd (true≢false h)
or_neither false b h = (refl, h)

-- the tests of a line and those of the lines behind it are those of all: passed limits stay passed
join_stops : (out own asked head graph out' own' headed graph' : Bool) → (own ≡ true → own' ≡ true) → (graph ≡ true → graph' ≡ true)
    → (out || (own || (asked || (head || graph)))) || (out' || (own' || (headed || graph'))) ≡ (out || out') || (own' || ((asked || head || headed) || graph'))
join_stops true own asked head graph out' own' headed graph' f g = refl
join_stops false own asked head graph true own' headed graph' f g = or-true (own || (asked || (head || graph)))
join_stops false own asked head graph false true headed graph' f g = or-true (own || (asked || (head || graph)))
join_stops false true asked head graph false false headed graph' f g = absurd (false≢true (f refl))
join_stops false false true head graph false false headed graph' f g = refl
join_stops false false false true graph false false headed graph' f g = refl
join_stops false false false false true false false headed graph' f g = rw (g refl) (sym (or-true headed))
join_stops false false false false false false false headed graph' f g = refl

-- ---- one line

module _ (bound : Bool) (hs : List Header) where
  -- a collected line's entries, then those of the lines behind it
  own_cons : (c : Collected) (cs : List Collected) (o : Own) → own_lines bound hs (c ∷ cs) o ≡ own_lines bound hs cs (own_line bound hs c.names c.item o)
  unfolding own_lines own_line sites all_pairs output_lines storage_lines misuses
  own_cons c cs o = λ i. record {
    sites = sym (append_assoc o.sites (line_sites bound hs c.names c.item) (sites bound hs cs)) i;
    pairs = add_append same_pair (line_pairs hs c.item) (all_pairs hs cs) o.pairs i;
    outputs = add_append same_output (line_outputs c.item) (output_lines cs) o.outputs i;
    regs = add_append same_storage (line_regs c.item) (storage_lines line_regs cs) o.regs i;
    mems = add_append same_storage (line_mems c.item) (storage_lines line_mems cs) o.mems i;
    misuses = add_append same_misused (line_misuses hs c.item) (misuses hs cs) o.misuses i;
  }

  own_none : (o : Own) → own_lines bound hs [] o ≡ o
  unfolding own_lines sites all_pairs output_lines storage_lines misuses add_all
  own_none o = λ i. record { sites = append-nil o.sites i; pairs = o.pairs; outputs = o.outputs; regs = o.regs; mems = o.mems; misuses = o.misuses }

  lines_grow : (cs : List Collected) (o : Own) → Grows o (own_lines bound hs cs o)
  unfolding own_lines
  lines_grow cs o = (rw (length-append o.sites (sites bound hs cs)) (omega arith), adds_grow same_pair (all_pairs hs cs) o.pairs)

  -- the own tables after one line, in each kind of walk
  one_after : Bool → Names → Item → Own → Own
  one_after true names item o = own_line bound hs names item o
  one_after false names item o = o

  after_none : (b : Bool) (o : Own) → own_after b bound hs [] o ≡ o
  unfolding own_after
  after_none true o = own_none o
  after_none false o = refl

  after_cons : (b : Bool) (c : Collected) (cs : List Collected) (o : Own) → own_after b bound hs (c ∷ cs) o ≡ own_after b bound hs cs (one_after b c.names c.item o)
  unfolding own_after one_after
  after_cons true c cs o = own_cons c cs o
  after_cons false c cs o = refl

  after_stays : (b : Bool) (cs : List Collected) (o : Own) → own_full b o ≡ true → own_full b (own_after b bound hs cs o) ≡ true
  unfolding own_full own_after
  after_stays true cs o e = own_stays o (own_lines bound hs cs o) (lines_grow cs o) e
  after_stays false cs o e = absurd (false≢true e)

  own_is : (b : Bool) (names : Names) (item : Item) (o : Own) → own_step b bound hs names item o ≡ unless (own_full b (one_after b names item o)) (one_after b names item o)
  unfolding own_step own_full one_after
  own_is true names item o = refl
  own_is false names item o = refl

module _ (ask : Asking) (by : Kept → ℕ → Asked) (agrees : Agrees ask by) where
  ask_is : (kept : Kept) (i : Option Inst) → ask_step ask kept i ≡ unless (ask_for by kept i).full (answered (ask_for by kept i).summary (ask_for by kept i).kept)
  unfolding ask_step ask_for
  ask_is kept none = refl
  ask_is kept (some i) = agrees kept i.«module»

  module _ (w : Walking) where
    -- what the specification gives of one line
    line_asked : State → Item → Asked
    line_asked st item = ask_for by st.kept (inst_of item)

    line_headed : State → Names → Item → Heads
    unfolding line_asked
    line_headed st names item = line_heads w.header names (line_asked st item).summary item

    one_state : Names → Item → State → State
    unfolding line_asked line_headed
    one_state names item st = record {
      own = one_after w.bound w.header w.own names item st.own;
      heads = st.heads ++ (line_headed st names item).heads;
      kept = (line_asked st item).kept;
    }

    one_stops : Names → Item → State → Bool
    unfolding line_asked line_headed one_state
    one_stops names item st =
        any_outside names (line_constants w.header item)
        || (own_full w.own (one_state names item st).own
        || ((line_asked st item).full || ((line_headed st names item).out || over_graph (one_state names item st).heads)))

    step_is : (names : Names) (item : Item) (st : State) → line_step ask w names item st ≡ unless (one_stops names item st) (one_state names item st)
    unfolding line_step one_stops one_state line_asked line_headed head_step
    step_is names item st =
        let o = one_after w.bound w.header w.own names item st.own in
        let a = line_asked st item in
        let h = line_headed st names item in
        let k : Own → Answered → Got State = λ o a. head_step (line_heads w.header names a.summary item) (record { own = o; heads = st.heads; kept = a.kept }) in
        let asks : Own → Got State = λ o. then_go (ask_step ask st.kept (inst_of item)) (k o) in
        elim_unless (any_outside names (line_constants w.header item)) _ (then_go (own_step w.own w.bound w.header names item st.own) asks) _
        (ap (λ (g : Got Own). then_go g asks) (own_is w.bound w.header w.own names item st.own)
        ∙ then_unless (own_full w.own o) _ o asks _
        (ap (λ (g : Got Answered). then_go g (k o)) (ask_is st.kept (inst_of item))
        ∙ then_unless a.full (h.out || over_graph (st.heads ++ h.heads)) (answered a.summary a.kept) (k o) _ refl))

    stops_none : (st : State) → over_graph st.heads ≡ false → own_full w.own st.own ≡ false → stops by w [] st ≡ false
    unfolding stops lines_outside lines_heads
    stops_none st g o = rw (after_none w.bound w.header w.own st.own, o, append-nil st.heads, g)

    after_empty : (st : State) → after by w [] st ≡ st
    unfolding after lines_heads
    after_empty st = λ i. record { own = after_none w.bound w.header w.own st.own i; heads = append-nil st.heads i; kept = st.kept }

    after_more : (c : Collected) (cs : List Collected) (st : State) → after by w (c ∷ cs) st ≡ after by w cs (one_state c.names c.item st)
    unfolding after lines_heads one_state line_asked line_headed
    after_more c cs st = λ i. record {
      own = after_cons w.bound w.header w.own c cs st.own i;
      heads = sym (append_assoc st.heads (line_headed st c.names c.item).heads (lines_heads by w.header (line_asked st c.item).kept cs).heads) i;
      kept = (lines_heads by w.header (line_asked st c.item).kept cs).kept;
    }

    stops_more : (c : Collected) (cs : List Collected) (st : State)
        → one_stops c.names c.item st || stops by w cs (one_state c.names c.item st) ≡ stops by w (c ∷ cs) st
    unfolding stops one_stops lines_outside lines_heads one_state line_asked line_headed
    stops_more c cs st =
        let a = line_asked st c.item in
        let h = line_headed st c.names c.item in
        let r = lines_heads by w.header a.kept cs in
        let o = one_after w.bound w.header w.own c.names c.item st.own in
        join_stops (any_outside c.names (line_constants w.header c.item)) (own_full w.own o) a.full h.out (over_graph (st.heads ++ h.heads))
        (lines_outside w.header cs) (own_full w.own (own_after w.own w.bound w.header cs o)) r.full (over_graph ((st.heads ++ h.heads) ++ r.heads))
        (after_stays w.bound w.header w.own cs o) (graph_stays (st.heads ++ h.heads) r.heads)
        ∙ rw (append_assoc st.heads h.heads r.heads, after_cons w.bound w.header w.own c cs st.own)

    -- after a line that does not stop, no limit is passed
    step_fine : (names : Names) (item : Item) (st : State) → one_stops names item st ≡ false
        → (over_graph (one_state names item st).heads ≡ false) × (own_full w.own (one_state names item st).own ≡ false)
    unfolding one_stops
    step_fine names item st e =
        let p = or_neither (any_outside names (line_constants w.header item)) _ e in
        let q = or_neither (own_full w.own (one_state names item st).own) _ p.1 in
        let r = or_neither (line_asked st item).full _ q.1 in
        let t = or_neither (line_headed st names item).out _ r.1 in
        (t.1, q.0)

    -- The fold of the fused step gives what the specification gives, or is full exactly where that says so.
    pub lines_fold : (cs : List Collected) (st : State) → over_graph st.heads ≡ false → own_full w.own st.own ≡ false
        → fold_lines (line_step ask w) cs st ≡ unless (stops by w cs st) (after by w cs st)
    unfolding fold_lines
    lines_fold [] st g o = rw (stops_none st g o) (ap (λ (z : State). going z) (sym (after_empty st)))
    lines_fold (c ∷ cs) st g o =
        ap (λ (z : Got State). then_go z (λ st'. fold_lines (line_step ask w) cs st')) (step_is c.names c.item st)
        ∙ go (one_stops c.names c.item st) refl (lines_fold cs (one_state c.names c.item st))
        ∙ ap (λ (b : Bool). unless b (after by w cs (one_state c.names c.item st))) (stops_more c cs st)
        ∙ ap (λ (z : State). unless (stops by w (c ∷ cs) st) z) (sym (after_more c cs st))
      where
        go : (b : Bool) → one_stops c.names c.item st ≡ b
            → (over_graph (one_state c.names c.item st).heads ≡ false → own_full w.own (one_state c.names c.item st).own ≡ false
            → fold_lines (line_step ask w) cs (one_state c.names c.item st) ≡ unless (stops by w cs (one_state c.names c.item st)) (after by w cs (one_state c.names c.item st)))
            → then_go (unless b (one_state c.names c.item st)) (λ st'. fold_lines (line_step ask w) cs st')
            ≡ unless (b || stops by w cs (one_state c.names c.item st)) (after by w cs (one_state c.names c.item st))
        go true e ih = refl
        go false e ih = let f = step_fine c.names c.item st e in ih f.0 f.1
