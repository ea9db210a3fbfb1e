-- The ways of `inst_edges` and `comb_summary`: what each leaves is what the walk gives.
-- Assumes nothing.
use mathlib.Core.Path.{◌≡◌, refl, ◌∙◌}
use mathlib.Core.Bool.{Bool, true, false, ◌||◌}
use mathlib.Core.List.{List, ◌++◌}
use Prim.Native.Nat.{ℕ}
use Rattle.spec.specs.Syntax.{Inst, inst, Place, single, at, Header}
use Rattle.spec.specs.Value.{Names, value, is_outside}
use Rattle.spec.specs.Site.{place_constants, line_constants, any_outside}
use Rattle.spec.specs.Edge.{Summary, place_value, inst_edges}
use Rattle.graph.specs.Stands.{Stands}
use Rattle.graph.proofs.Stands.{stands_within}
use Rattle.edges.specs.Reads.{HeadAll}
use Rattle.walk.specs.Walk.{Got, full, going, Own, State, Answered, ask_walk}
use Rattle.walk.specs.Alike.{Alike}
use Rattle.walk.proofs.Alike.{inst_alike}
use Rattle.summary.specs.Keeps.{Keeps}
use Rattle.spec.specs.Refusal.{decode}
use Rattle.collect.specs.Cycle.{Mode, OwnIs, Stepped, step_of, walking_of}
use Rattle.collect.proofs.Turns.{Fine, step_outside, inst_step, inst_over, inst_unasked}

pub or_none : (b : Bool) → b || false ≡ b
or_none true = refl
or_none false = refl

-- the index of an instance is all that its line evaluates
place_out : (names : Names) (p : Place) → any_outside names (place_constants p) ≡ is_outside (place_value names p)
unfolding any_outside place_constants place_value
place_out names single = refl
place_out names (at e) = or_none (is_outside (value names e))

pub index_out : (hs : List Header) (names : Names) (i : Inst) → any_outside names (line_constants hs (inst i)) ≡ is_outside (place_value names i.place)
unfolding line_constants
index_out hs names i = place_out names i.place

-- the own tables of a state that is held are within their limits
pub fine : (own : Bool) (text words : List ℕ) (o : Own) → OwnIs own text words o → Fine own o
fine true text words o h = h.1
fine false text words o h = h

module _ (fuel : ℕ) (mo : Mode) (text own : List ℕ) (header : List Header) (busy : List ℕ) (names : Names) (i : Inst) (st : State) (held : OwnIs mo.own text own st.own) where
  abbrev stepping : Got State
  stepping = step_of fuel text mo header busy names (inst i) st

  pub outside_index : is_outside (place_value names i.place) ≡ true → stepping ≡ full
  outside_index e = step_outside (ask_walk fuel (decode text) busy) (walking_of mo header) names (inst i) st (index_out header names i ∙ e)

  module _ (inside : is_outside (place_value names i.place) ≡ false) where
    pub unasked_full : ask_walk fuel (decode text) busy st.kept i.«module» ≡ full → stepping ≡ full
    unasked_full e = inst_unasked (ask_walk fuel (decode text) busy) (walking_of mo header) names i st (index_out header names i ∙ inside) (fine mo.own text own st.own held) e

    module _ (a : Answered) (answer : ask_walk fuel (decode text) busy st.kept i.«module» ≡ going a) (t : Summary) (alike : Alike t a.summary) (k : List ℕ) (keeps : Keeps k a.kept busy) where
      same_edges : inst_edges header names i t ≡ inst_edges header names i a.summary
      same_edges = inst_alike header names i alike

      pub heads_done : {g : List ℕ} → HeadAll true g st.heads (inst_edges header names i t) → Stepped true mo text own g k busy stepping
      heads_done {g} h =
          let s : Stands g (st.heads ++ (inst_edges header names i a.summary).heads) = rw same_edges at h.0 in
          let o : (inst_edges header names i a.summary).out ≡ false = rw same_edges at h.1 in (
            record { own = st.own; heads = st.heads ++ (inst_edges header names i a.summary).heads; kept = a.kept },
            inst_step (ask_walk fuel (decode text) busy) (walking_of mo header) names i st (index_out header names i ∙ inside) (fine mo.own text own st.own held) a answer
                (rw (o, stands_within (st.heads ++ (inst_edges header names i a.summary).heads) s) refl),
            record { owned = held; stands = s; keeps = keeps },
          )

      pub heads_over : (g : List ℕ) → HeadAll false g st.heads (inst_edges header names i t) → stepping ≡ full
      heads_over g h =
          inst_over (ask_walk fuel (decode text) busy) (walking_of mo header) names i st (index_out header names i ∙ inside) (fine mo.own text own st.own held) a answer
          (rw same_edges at h)
