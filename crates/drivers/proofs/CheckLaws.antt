-- The own check of a module, one law for each way of the code. Assumes nothing.
use Rattle.std.specs.Prelude.{Result, Ok, Err}
use mathlib.Core.Path.{◌≡◌, refl, ap, ◌∙◌, subst}
use mathlib.Core.Bool.{Bool}
use mathlib.Core.List.{List}
use Prim.Native.Nat.{ℕ, ◌-◌, ◌≤◌}
use Rattle.spec.specs.Bytes.{Bytes}
use Rattle.spec.specs.Syntax.{Module}
use Rattle.spec.specs.Refusal.{decode}
use Rattle.spec.specs.Value.{Names, Table, own_vals, name_table}
use Rattle.spec.specs.Collect.{round_limit}
use Rattle.spec.specs.Edge.{Head}
use Rattle.spec.specs.Summary.{Kept}
use Rattle.spec.specs.Check.{widths_out}
use Rattle.consteval.specs.Worth.{names_of}
use Rattle.graph.specs.Stands.{Stands}
use Rattle.graph.specs.Cycles.{Roomy}
use Rattle.walk.specs.Walk.{Got, full, then_go, unless, Walked, State, Own, Tally, own_walk, poison, own_reports, check_one}
use Rattle.items.specs.Held.{Held}
use Rattle.collect.specs.Face.{ModuleGiven, Collects, left_of}
use Rattle.collect.specs.declared.Collected.{Collected}
use Rattle.edges.specs.declared.Stop.{Stop}
use Rattle.drivers.specs.Groups.{Reported}
use Rattle.drivers.specs.Check.{Checking, Tallied}
use Rattle.drivers.specs.declared.emit.Place.{Place}
use Rattle.consteval.specs.declared.Outside.{Outside}
use Rattle.drivers.specs.declared.check.Checked.{Checked}
use Rattle.std.specs.Prelude.{Result, Ok, Err, IsErr}
use Rattle.drivers.proofs.Handed.{handed_on}

-- the rounds left
pub few_left : (a : Result Collected Stop) {r : Collected} → left_of a ≤ 4096 → a ≡ Ok r → r.left ≤ 4096
few_left a h e = subst (λ (b : Result Collected Stop). left_of b ≤ 4096) e h

module _ {text kinds mods : List ℕ} {count m : ℕ} {names own g w k : List ℕ} {x : Module} {kept : Kept} (C : Checking text kinds mods count m names own g w k x kept) where
  abbrev T : Table
  T = name_table (own_vals x) x

  abbrev tally : ℕ → State → Tally
  tally left st = record { reports = own_reports m T.names st.own st.heads; rounds = round_limit - left; kept = st.kept }

  abbrev wide : State → Bool
  wide st = widths_out T.names (poison st.own) st.own.sites st.own.outputs

  abbrev after : Got (Walked State) → Got Tally
  after y = then_go y (λ r. unless (wide r.state) (tally r.left r.state))

  one_is : check_one (decode text) kept m x ≡ after (own_walk (decode text) x kept)
  unfolding check_one
  one_is = refl

  given : ModuleGiven text kinds mods count m names own g k x kept
  given = record { tabled = C.tabled; there = C.there; named = C.enough.named; owned = C.enough.owned; graphed = C.enough.graphed; keeps = C.keeps }

  -- what the collection leaves
  module _ (names' own' g' k' : List ℕ) (a : Result Collected Stop) (collects : (j : Module) (kept' : Kept) → ModuleGiven text kinds mods count m names own g k j kept'
      → Collects a text names' own' g' k' j (own_walk (decode text) j kept')) where
    pub one_full : {f : Stop} → a ≡ Err f → (write : Bool) (buf : Bytes) (p : Place) (r : Result Checked Stop) → IsErr r → Tallied r write buf p buf k' (check_one (decode text) kept m x)
    one_full q write buf p =
        let o : own_walk (decode text) x kept ≡ full =
        subst (λ (b : Result Collected Stop). Collects b text names' own' g' k' x (own_walk (decode text) x kept)) q (collects x kept given) in
        handed_on (λ y. Tallied y write buf p buf k' (check_one (decode text) kept m x)) (λ _. (one_is ∙ ap after o, λ _ _. refl))

    module _ {r : Collected} (q : a ≡ Ok r) (b : Result Place Outside) (write : Bool) (buf : Bytes) (p : Place) (buf' : Bytes)
        (reported : (o : Own) (hs : List Head) → Held text own' o → Stands g' hs → Roomy w
        → Reported b write buf p (widths_out (names_of names' r.used) (poison o) o.sites o.outputs) (own_reports m (names_of names' r.used) o hs) buf') where
      ends : Collects (Ok r) text names' own' g' k' x (own_walk (decode text) x kept)
      ends = subst (λ (y : Result Collected Stop). Collects y text names' own' g' k' x (own_walk (decode text) x kept)) q (collects x kept given)

      abbrev st : State
      st = ends.0

      one_going : check_one (decode text) kept m x ≡ unless (wide st) (tally r.left st)
      one_going = one_is ∙ ap after ends.1

      told : Reported b write buf p (wide st) (tally r.left st).reports buf'
      told =
          subst (λ (n : Names). Reported b write buf p (widths_out n (poison st.own) st.own.sites st.own.outputs) (own_reports m n st.own st.heads) buf')
          ends.3 (reported st.own st.heads ends.2.owned.0 ends.2.stands C.enough.roomy)

      pub one_wide : {e : Outside} → b ≡ Err e → (r : Result Checked Stop) → IsErr r → Tallied r write buf p buf' k' (check_one (decode text) kept m x)
      one_wide z =
          let t = subst (λ (y : Result Place Outside). Reported y write buf p (wide st) (tally r.left st).reports buf') z told in
          handed_on (λ y. Tallied y write buf p buf' k' (check_one (decode text) kept m x)) (λ _. (one_going ∙ ap (λ (y : Bool). unless y (tally r.left st)) t.0, t.1))

      pub one_done : {next : Place} → b ≡ Ok next → Tallied (Ok (record { next = next; rounds = 4096 - r.left })) write buf p buf' k' (check_one (decode text) kept m x)
      one_done {next} z =
          let t = subst (λ (y : Result Place Outside). Reported y write buf p (wide st) (tally r.left st).reports buf') z told in
          (tally r.left st, one_going ∙ ap (λ (y : Bool). unless y (tally r.left st)) t.0, t.1, refl, ends.2.keeps)
