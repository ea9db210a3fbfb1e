-- The loop over a run of items: where it stands, and one law for each way of its turn.
-- Assumes nothing.
use Rattle.std.specs.Prelude.{Ok}
use mathlib.Core.Path.{◌≡◌, refl, ◌∙◌, ap}
use mathlib.Core.Bool.{true}
use mathlib.Core.List.{List}
use Prim.Native.Nat.{ℕ, zero, suc, ◌+◌, ◌/◌, ◌≤◌, ◌<◌, min}
use native.Mathlib.Omega.{arith}
use lib.ListN.{length, get_or, drop}
use Rattle.spec.specs.Bytes.{Bytes}
use Rattle.spec.specs.Syntax.{Inst, Item, Items, inst, Header}
use Rattle.spec.specs.Value.{Names}
use Rattle.consteval.specs.Worth.{pairs, names_of}
use Rattle.runs.specs.Run.{RunOf}
use Rattle.runs.proofs.Items.{item_end, FirstOf, end_of_run}
use Rattle.walk.specs.Walk.{Got, full, going, then_go, Walked, walk_inner, walk_items, State}
use Rattle.steps.specs.Steps.{plain}
use Rattle.collect.specs.Cycle.{Mode, Single, Holding, Ends, Stepped, Framed, step_of, one_of}
use Rattle.steps.proofs.Ways.{inner_plain, inner_inst}
use Rattle.collect.proofs.Turns.{walk_end}

-- ---- names

-- the names that are used are the same
pairs_same : (n : ℕ) (old new : List ℕ) → ((i : ℕ) → i < n + n → get_or new i 0 ≡ get_or old i 0) → pairs new n ≡ pairs old n
unfolding pairs
pairs_same zero old new f = refl
pairs_same (suc n) old new f =
    let a : get_or new (n + n) 0 ≡ get_or old (n + n) 0 = f (n + n) (omega arith) in
    let b : get_or new (n + n + 1) 0 ≡ get_or old (n + n + 1) 0 = f (n + n + 1) (omega arith) in
    rw (a, b, pairs_same n old new (λ i h. f i (omega arith)))

pub names_framed : (used : ℕ) (old new : List ℕ) → Framed used old new → names_of new used ≡ names_of old used
unfolding names_of
names_framed used old new h =
    let e : min used (length new / 2) ≡ min used (length old / 2) = ap (λ (n : ℕ). min used (n / 2)) h.size in
    ap (pairs new) e ∙ pairs_same (min used (length old / 2)) old new (λ i p. h.same i (omega arith))

-- ---- the loop

-- the walk x has come to `at`: so many rounds are left, the words hold a state, and what is left to walk stands behind `at`
pub record Going (fuel : ℕ) (mo : Mode) (text s : Bytes) (at depth : ℕ) (names : Names) (left : ℕ) (own g k : List ℕ) (header : List Header) (busy : List ℕ)
    (x : Got (Walked State)) : Type 0 where
  pub items : Items
  pub state : State
  pub run : RunOf depth (drop at s) items
  pub holding : Holding mo text own g k busy state
  pub same : x ≡ walk_items items (step_of fuel text mo header busy) names left state

module _ (fuel : ℕ) (mo : Mode) (text s : Bytes) (depth : ℕ) (names : Names) (header : List Header) (busy : List ℕ) (x : Got (Walked State)) where
  pub going_end : {at left : ℕ} {own g k : List ℕ} → Going fuel mo text s at depth names left own g k header busy x → length s ≤ at + 1
      → Ends (Ok left) mo text own g k busy x
  going_end {at} {left} G h =
      let e = end_of_run depth s at G.items G.run h in (
        G.state,
        G.same ∙ ap (λ (is : Items). walk_items is (step_of fuel text mo header busy) names left G.state) e
            ∙ walk_end (step_of fuel text mo header busy) names left G.state,
        G.holding,
      )

  -- the item behind `at`
  module _ {at left : ℕ} {own g k : List ℕ} (G : Going fuel mo text s at depth names left own g k header busy x) (F : FirstOf depth s at G.items) where
    abbrev pub one : Single
    one = record { header = header; item = F.item; state = G.state; busy = busy }

    -- the walk is the walk over that item and then over those behind it
    split : x ≡ then_go (one_of fuel text mo one names left) (λ r. walk_items F.rest (step_of fuel text mo header busy) names r.left r.state)
    unfolding walk_items
    split =
        G.same ∙ ap (λ (is : Items). walk_items is (step_of fuel text mo header busy) names left G.state) F.whole
        ∙ nested (step_of fuel text mo header busy names F.item G.state)
      where
        nested : (a : Got State)
            → then_go a (λ st. then_go (walk_inner F.item (step_of fuel text mo header busy) names left st) (λ r. walk_items F.rest (step_of fuel text mo header busy) names r.left r.state))
            ≡ then_go (then_go a (λ st. walk_inner F.item (step_of fuel text mo header busy) names left st)) (λ r. walk_items F.rest (step_of fuel text mo header busy) names r.left r.state)
        nested full = refl
        nested (going st) = refl

    pub going_next : {l : ℕ} {own' g' k' : List ℕ} → Ends (Ok l) mo text own' g' k' busy (one_of fuel text mo one names left)
        → Going fuel mo text s (item_end s at) depth names l own' g' k' header busy x
    going_next {l} E =
        record {
          items = F.rest;
          state = E.0;
          run = F.onward;
          holding = E.2;
          same = split ∙ ap (λ (y : Got (Walked State)). then_go y (λ r. walk_items F.rest (step_of fuel text mo header busy) names r.left r.state)) E.1;
        }

    pub going_full : one_of fuel text mo one names left ≡ full → x ≡ full
    going_full e = split ∙ ap (λ (y : Got (Walked State)). then_go y (λ r. walk_items F.rest (step_of fuel text mo header busy) names r.left r.state)) e

-- ---- one item

module _ (fuel : ℕ) (mo : Mode) (text : Bytes) (names : Names) (left : ℕ) (w : Single) where
  abbrev stepping : Got State
  stepping = step_of fuel text mo w.header w.busy names w.item w.state

  abbrev onward : Got State → Got (Walked State)
  onward y = then_go y (λ st. walk_inner w.item (step_of fuel text mo w.header w.busy) names left st)

  -- a line that holds nothing: its step is all
  pub plain_ends : plain w.item ≡ true → {own' g' k' : List ℕ} → Stepped true mo text own' g' k' w.busy stepping
      → Ends (Ok left) mo text own' g' k' w.busy (one_of fuel text mo w names left)
  plain_ends p S = (
    S.0,
    ap (λ (y : Got State). onward y) S.1 ∙ inner_plain (step_of fuel text mo w.header w.busy) names left S.0 w.item p,
    S.2,
  )

  pub inst_ends : (i : Inst) → w.item ≡ inst i → {own' g' k' : List ℕ} → Stepped true mo text own' g' k' w.busy stepping
      → Ends (Ok left) mo text own' g' k' w.busy (one_of fuel text mo w names left)
  inst_ends i q S = (
    S.0,
    ap (λ (y : Got State). onward y) S.1
        ∙ ap (λ (j : Item). walk_inner j (step_of fuel text mo w.header w.busy) names left S.0) q
        ∙ inner_inst (step_of fuel text mo w.header w.busy) names left S.0 i,
    S.2,
  )

  pub step_full : stepping ≡ full → one_of fuel text mo w names left ≡ full
  step_full e = ap (λ (y : Got State). onward y) e
