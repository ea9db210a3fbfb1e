-- The ways of `repeat_items`, `repeat_rounds` and `branch_items`: what the body leaves is what the walk over the item gives.
-- Assumes nothing.
use Rattle.std.specs.Prelude.{Result, Ok, Err}
use mathlib.Core.Path.{◌≡◌, refl, sym, ◌∙◌, ap, subst}
use mathlib.Core.Bool.{Bool, true, false, ◌||◌, true≢false}
use mathlib.Core.List.{List, ◌∷◌}
use Prim.Native.Nat.{ℕ, suc, ◌+◌, ◌-◌, ◌/◌, ◌≤◌, ◌<◌}
use native.Mathlib.Omega.{arith}
use lib.ListN.{length, drop, get_or, set}
use lib.Seq.{get_or-set_other}
use lib.IntN.{ℤ, pos, ◌+ℤ◌}
use borrow.Author.Tests.{lt-ltb}
use Rattle.spec.specs.Bytes.{Bytes}
use Rattle.spec.specs.Syntax.{Expr, Item, Items, repeat, const_if, Header}
use Rattle.spec.specs.Value.{Names, value, is_outside}
use Rattle.spec.specs.Refusal.{decode}
use Rattle.spec.specs.Site.{line_constants, any_outside}
use Rattle.spec.specs.Edge.{over_graph}
use Rattle.lines.specs.Parts.{piece}
use Rattle.graph.proofs.Stands.{stands_within}
use Rattle.consteval.specs.Worth.{signed, names_of, room, pushed}
use Rattle.consteval.proofs.FillLaws.{pushed_length}
use Rattle.consteval.proofs.TableLaws.{names_pushed}
use Rattle.runs.specs.Run.{Run, ShowsItem, RunOf}
use Rattle.runs.specs.Run as run
use Rattle.runs.proofs.Inside.{InRepeat, in_repeat, in_const_if, piece_length}
use Rattle.walk.specs.Walk.{Got, full, then_go, Walked, Walks, walk_rounds, walk_repeat, walk_inner, walk_items, State, ask_walk}
use Rattle.steps.specs.Steps.{Times, Chosen, body_at, low_value, times_of, times_number, bounds_number, RoundsFit, TimesAre, branch_of, chosen_number, condition_number, taken, ChosenIs}
use Rattle.steps.specs.declared.Head.TheVariants as head
use Rattle.std.specs.Prelude.{Ok, Err}
use Rattle.consteval.specs.declared.Outside.{Outside}
use Rattle.steps.specs.declared.Times.TheVariants as times
use Rattle.steps.specs.declared.Run.{Run as Stretch}
use Rattle.steps.proofs.StepLaws.{is_refused, not_refused, times_are, body_is, branch_is}
use Rattle.steps.proofs.Ways.{repeat_never, repeat_once, repeat_rounds, inner_repeat, inner_const_if, next_value}
use Rattle.collect.specs.Cycle.{PartOf, Mode, World, Single, Given, OneGiven, Holding, Ends, RoundsWithin, Framed, walking_of, step_of, walk_of, one_of, turns_of}
use Rattle.collect.proofs.Turns.{step_outside, repeat_step, const_if_step}
use Rattle.collect.proofs.Ways.{or_none, fine}
use Rattle.collect.proofs.Parts.{part_drop, part_piece}
use Rattle.collect.proofs.Items.{Sized, framed_same, framed_again, sized_again}
use Rattle.collect.proofs.Leaving.{filled_same}
use Rattle.edges.specs.declared.Stop.{Stop}
use Rattle.collect.proofs.Going.{names_framed}

-- ---- the names

framed_pushed : (used : ℕ) (t : List ℕ) (n v : ℕ) (x : List ℕ) → x ≡ pushed t used n v → Framed used t x
unfolding pushed
framed_pushed used t n v x e =
    record { size = pushed_length t used n v x e; same = λ i h. ap (λ (y : List ℕ). get_or y i 0) e ∙ go (room t used) i h }
  where
    go : (b : Bool) (i : ℕ) → i < used + used → get_or (elim b as (λ _. List ℕ) [ true ↦ set (set t (used + used) n) (used + used + 1) v | false ↦ t ]) i 0 ≡ get_or t i 0
    go true i h = get_or-set_other (set t (used + used) n) (used + used + 1) i v 0 (λ e. omega arith) ∙ get_or-set_other t (used + used) i n 0 (λ e. omega arith)
    go false i h = refl

framed_less : {used : ℕ} {a b : List ℕ} → Framed (used + 1) a b → Framed used a b
framed_less f = record { size = f.size; same = λ i h. f.same i (omega arith) }

-- ---- the item's own line

module _ (fuel : ℕ) (mo : Mode) (text own g k : List ℕ) (header : List Header) (busy : List ℕ) (names : Names) (left : ℕ) (st : State) (h : Holding mo text own g k busy st) where
  abbrev step : Names → Item → State → Got State
  step = step_of fuel text mo header busy

  abbrev item_walk : Item → Got (Walked State)
  item_walk i = then_go (step names i st) (λ s. walk_inner i step names left s)

  outside_full : (i : Item) → any_outside names (line_constants header i) ≡ true → item_walk i ≡ full
  outside_full i e = ap (λ (y : Got State). then_go y (λ s. walk_inner i step names left s)) (step_outside (ask_walk fuel (decode text) busy) (walking_of mo header) names i st e)

  few : over_graph st.heads ≡ false
  few = stands_within st.heads h.stands

  module _ (n : ℕ) (low high : Expr) (is : Items) where
    repeat_out : any_outside names (line_constants header (repeat n low high is)) ≡ is_outside (value names low) || is_outside (value names high)
    unfolding line_constants any_outside
    repeat_out = ap (λ (b : Bool). is_outside (value names low) || b) (or_none (is_outside (value names high)))

    repeat_full : is_outside (value names low) || is_outside (value names high) ≡ true → item_walk (repeat n low high is) ≡ full
    repeat_full e = outside_full (repeat n low high is) (repeat_out ∙ e)

    repeat_walk : is_outside (value names low) || is_outside (value names high) ≡ false
        → item_walk (repeat n low high is) ≡ walk_repeat (λ names' left' st'. walk_items is step names' left' st') n (value names low) (value names high) names left st
    repeat_walk e =
        ap (λ (y : Got State). then_go y (λ s. walk_inner (repeat n low high is) step names left s))
        (repeat_step (ask_walk fuel (decode text) busy) (walking_of mo header) names st (fine mo.own text own st.own h.owned) few n low high is (repeat_out ∙ e))
        ∙ inner_repeat step names left st n low high is

  module _ (c : Expr) (is js : Items) where
    branch_out : any_outside names (line_constants header (const_if c is js)) ≡ is_outside (value names c)
    unfolding line_constants any_outside
    branch_out = or_none (is_outside (value names c))

    branch_outside : is_outside (value names c) ≡ true → item_walk (const_if c is js) ≡ full
    branch_outside e = outside_full (const_if c is js) (branch_out ∙ e)

    branch_walk : is_outside (value names c) ≡ false → item_walk (const_if c is js) ≡ walk_items (taken (value names c) is js) step names left st
    branch_walk e =
        ap (λ (y : Got State). then_go y (λ s. walk_inner (const_if c is js) step names left s))
        (const_if_step (ask_walk fuel (decode text) busy) (walking_of mo header) names st (fine mo.own text own st.own h.owned) few c is js (branch_out ∙ e))
        ∙ inner_const_if step names left st c is js

-- ---- `repeat`

module _ (fuel : ℕ) (mo : Mode) (text kinds mods : List ℕ) (count : ℕ) (x : Bytes) (from depth : ℕ) (ks names₀ : List ℕ) (used left₀ : ℕ) (own₀ g₀ k₀ : List ℕ) where
  abbrev Repeated : Single → Type 0
  Repeated w = OneGiven head.Repeat mo text kinds mods count x from depth ks names₀ used own₀ g₀ k₀ w

  abbrev one : Single → Got (Walked State)
  one w = one_of fuel text mo w (names_of names₀ used) left₀

  abbrev body_of : (w : Single) → Repeated w → Items
  body_of w G = G.head.3

  abbrev shown : (w : Single) (G : Repeated w) → ShowsItem x depth (repeat G.head.0 G.head.1 G.head.2 G.head.3)
  shown w G = subst (λ (i : Item). ShowsItem x depth i) G.head.4 G.shows

  in_it : (w : Single) (G : Repeated w) → InRepeat x depth G.head.0 G.head.1 G.head.2 G.head.3
  in_it w G = in_repeat x depth G.head.0 G.head.1 G.head.2 G.head.3 (shown w G)

  pub not_shallow : depth ≡ 0 → (w : Single) → Repeated w → one w ≡ full
  not_shallow e w G = let d = (in_it w G).deeper in absurd (omega arith)

  -- the walk over the item, by what the item is
  as_item : (w : Single) (G : Repeated w)
      → one w ≡ item_walk fuel mo text own₀ g₀ k₀ w.header w.busy (names_of names₀ used) left₀ w.state G.holding (repeat G.head.0 G.head.1 G.head.2 G.head.3)
  as_item w G =
      ap (λ (i : Item). then_go (step_of fuel text mo w.header w.busy (names_of names₀ used) i w.state)
      (λ s. walk_inner i (step_of fuel text mo w.header w.busy) (names_of names₀ used) left₀ s)) G.head.4

  abbrev walks_body : (w : Single) → Repeated w → Walks State
  walks_body w G = λ names' left' st'. walk_items (body_of w G) (step_of fuel text mo w.header w.busy) names' left' st'

  module _ (r : Times) (told : (r ≡ times_of x depth (names_of names₀ used) left₀)
      × (RoundsFit r (low_value x depth (names_of names₀ used)) × (times_number r ≡ bounds_number x depth (names_of names₀ used)))) where
    told_as : (t : Times) → r ≡ t → (w : Single) (G : Repeated w)
        → TimesAre t left₀ G.head.0 (value (names_of names₀ used) G.head.1) (value (names_of names₀ used) G.head.2)
    told_as t e w G =
        subst (λ (y : Times). TimesAre y left₀ G.head.0 (value (names_of names₀ used) G.head.1) (value (names_of names₀ used) G.head.2)) e
        (times_are x depth (names_of names₀ used) left₀ r told.0 told.1.0 G.head.0 G.head.1 G.head.2 G.head.3 (shown w G))

    pub bounds_outside : {z : Outside} → r ≡ Err z → (w : Single) → Repeated w → one w ≡ full
    bounds_outside {z} e w G =
        as_item w G
        ∙ repeat_full fuel mo text own₀ g₀ k₀ w.header w.busy (names_of names₀ used) left₀ w.state G.holding G.head.0 G.head.1 G.head.2 G.head.3
        (is_refused _ (told_as (Err z) e w G).0)

    abbrev repeats : (w : Single) → Repeated w → Got (Walked State)
    repeats w G =
        walk_repeat (walks_body w G) G.head.0 (value (names_of names₀ used) G.head.1) (value (names_of names₀ used) G.head.2) (names_of names₀ used) left₀ w.state

    one_repeats : (w : Single) (G : Repeated w) → is_outside (value (names_of names₀ used) G.head.1) || is_outside (value (names_of names₀ used) G.head.2) ≡ false
        → one w ≡ repeats w G
    one_repeats w G e =
        as_item w G
        ∙ repeat_walk fuel mo text own₀ g₀ k₀ w.header w.busy (names_of names₀ used) left₀ w.state G.holding G.head.0 G.head.1 G.head.2 G.head.3 e

    pub no_round : r ≡ Ok times.Never → (w : Single) → Repeated w → Ends (Ok left₀) mo text own₀ g₀ k₀ w.busy (one w)
    no_round e w G =
        let t = told_as (Ok times.Never) e w G in (
          w.state,
          one_repeats w G (not_refused _ t.0)
              ∙ repeat_never (walks_body w G) G.head.0 (names_of names₀ used) left₀ w.state (value (names_of names₀ used) G.head.1) (value (names_of names₀ used) G.head.2) t.1,
          G.holding,
        )

    module _ (a : ℕ) (at_body : a ≡ body_at x) (body : Bytes) (cut : body ≡ drop a x) where
      abbrev inner : (w : Single) → Repeated w → World
      inner w G = record { header = w.header; items = body_of w G; state = w.state; busy = w.busy }

      body_run : (w : Single) (G : Repeated w) → RunOf (depth - 1) body (body_of w G)
      body_run w G =
          let e = at_body ∙ body_is x depth G.head.0 G.head.1 G.head.2 G.head.3 (shown w G) in
          subst (λ (y : Bytes). RunOf (depth - 1) y (body_of w G)) (sym (cut ∙ ap (λ (n : ℕ). drop n x) e)) (in_it w G).body

      -- the body is walked with so many names
      given_body : (used' : ℕ) (w : Single) (G : Repeated w) → used' + (depth - 1) ≤ length names₀ / 2
          → Given mo text kinds mods count body (from + a) (depth - 1) ks names₀ used' own₀ g₀ k₀ (inner w G)
      given_body used' w G fits =
          record {
            tabled = G.tabled;
            run = body_run w G;
            part = subst (λ (y : Bytes). PartOf text (from + a) y) (sym cut) (part_drop text from x G.part a (omega arith));
            told = G.told;
            room = fits;
            holding = G.holding;
          }

      pub body_once : r ≡ Ok times.Once → (b : Result ℕ Stop) (own' g' k' : List ℕ)
          → ((w : World) → Given mo text kinds mods count body (from + a) (depth - 1) ks names₀ used own₀ g₀ k₀ w
          → Ends b mo text own' g' k' w.busy (walk_of fuel text mo w (names_of names₀ used) left₀))
          → (w : Single) → Repeated w → Ends b mo text own' g' k' w.busy (one w)
      body_once e b own' g' k' f w G =
          let t = told_as (Ok times.Once) e w G in
          let d = (in_it w G).deeper in
          let m = G.room in
          let q =
          one_repeats w G (not_refused _ t.0)
          ∙ repeat_once (walks_body w G) G.head.0 (names_of names₀ used) left₀ w.state (value (names_of names₀ used) G.head.1) (value (names_of names₀ used) G.head.2) t.1
          in
          subst (λ (y : Got (Walked State)). Ends b mo text own' g' k' w.busy y) (sym q) (f (inner w G) (given_body used w G (omega arith)))

      module _ (n low total : ℕ) (rounds_told : r ≡ Ok (times.Rounds n low total)) where
        pub never_short : left₀ < total → (w : Single) → Repeated w → one w ≡ full
        never_short h w G = let t = told_as (Ok (times.Rounds n low total)) rounds_told w G in let q = t.1.2 in absurd (omega arith)

        pub never_wide : 4294967295 - low < total → (w : Single) → Repeated w → one w ≡ full
        never_wide h w G = let t = told_as (Ok (times.Rounds n low total)) rounds_told w G in let q = t.1.3 in absurd (omega arith)

        -- the rounds are walked, with one name more than are used
        pub rounds_done : (b : Result ℕ Stop) (own' g' k' : List ℕ)
            → ((w : World) → Given mo text kinds mods count body (from + a) (depth - 1) ks names₀ (used + 1) own₀ g₀ k₀ w
            → Ends b mo text own' g' k' w.busy (turns_of fuel text mo w n low total (names_of names₀ used) (left₀ - total)))
            → (w : Single) → Repeated w → Ends b mo text own' g' k' w.busy (one w)
        rounds_done b own' g' k' f w G =
            let t = told_as (Ok (times.Rounds n low total)) rounds_told w G in
            let d = (in_it w G).deeper in
            let m = G.room in
            let q =
            one_repeats w G (not_refused _ t.0)
            ∙ (repeat_rounds (walks_body w G) G.head.0 (names_of names₀ used) left₀ w.state (value (names_of names₀ used) G.head.1) (value (names_of names₀ used) G.head.2) t.1.0).0
            ∙ ap (λ (v : ℕ). walk_rounds (walks_body w G) v (signed low) total (names_of names₀ used) (left₀ - total) w.state) (sym t.1.1)
            in
            subst (λ (y : Got (Walked State)). Ends b mo text own' g' k' w.busy y) (sym q)
            (f (inner w G) (given_body (used + 1) w G (omega arith)))

-- ---- the rounds of a `repeat`

module _ (fuel : ℕ) (mo : Mode) (text kinds mods : List ℕ) (count : ℕ) (s : Bytes) (base depth : ℕ) (ks names₀ : List ℕ) (used n low total left₀ : ℕ) (own₀ g₀ k₀ : List ℕ) where
  abbrev Entered : World → Type 0
  Entered w = Given mo text kinds mods count s base depth ks names₀ (used + 1) own₀ g₀ k₀ w

  abbrev every : World → Got (Walked State)
  every w = turns_of fuel text mo w n low total (names_of names₀ used) left₀

  abbrev each : World → Walks State
  each w = λ names' left' st. walk_items w.items (step_of fuel text mo w.header w.busy) names' left' st

  -- i rounds are walked
  pub record Rounds (i left : ℕ) (names own g k : List ℕ) : Type 0 where
    pub fewer : left ≤ left₀
    pub framed : Framed used names₀ names
    pub sized : Sized mo.own own₀ g₀ k₀ own g k
    pub walking : (w : World) (G : Entered w) → (st : State) × Holding mo text own g k w.busy st × (every w ≡ walk_rounds (each w) n (signed (low + i)) (total - i) (names_of names₀ used) left st)

  pub rounds_start : Rounds 0 left₀ names₀ own₀ g₀ k₀
  rounds_start =
      record {
        fewer = omega arith;
        framed = framed_same;
        sized = record { kept = filled_same mo.own own₀ g₀ k₀; own_size = refl; g_size = refl; k_size = refl };
        walking = λ w G.
            let z : low ≡ low + 0 = omega arith in
            let y : total ≡ total - 0 = omega arith in (
              w.state,
              G.holding,
              ap (λ (v : ℕ). walk_rounds (each w) n (signed v) total (names_of names₀ used) left₀ w.state) z
                  ∙ ap (λ (v : ℕ). walk_rounds (each w) n (signed (low + 0)) v (names_of names₀ used) left₀ w.state) y,
            );
      }

  module _ (i left : ℕ) (names own g k : List ℕ) (o : Rounds i left names own g k) where
    pub rounds_end : total ≤ i → (w : World) → Entered w → Ends (Ok left) mo text own g k w.busy (every w)
    unfolding walk_rounds
    rounds_end h w G =
        let s = o.walking w G in
        let z : total - i ≡ 0 = omega arith in
        (s.0, s.2 ∙ ap (λ (v : ℕ). walk_rounds (each w) n (signed (low + i)) v (names_of names₀ used) left s.0) z, s.1)

    -- the variable has its place
    roomy : (w : World) (G : Entered w) → used < length names / 2
    roomy w G = let m = subst (λ (v : ℕ). used + 1 + depth ≤ v / 2) (sym o.framed.size) G.room in omega arith

    pub push_held : room names used ≡ false → (w : World) → Entered w → every w ≡ full
    push_held e w G = absurd (true≢false (sym (lt-ltb used (length names / 2) (roomy w G)) ∙ e))

    module _ (more : i < total) (put : List ℕ) (pushes : put ≡ pushed names used n (low + i)) where
      pub push_framed : Framed used names₀ put
      push_framed = framed_again o.framed (framed_pushed used names n (low + i) put pushes)

      named : (w : World) (G : Entered w) → names_of put (used + 1) ≡ (n, signed (low + i)) ∷ names_of names₀ used
      named w G =
          ap (λ (t : List ℕ). names_of t (used + 1)) pushes
          ∙ names_pushed names used n (low + i) (lt-ltb used (length names / 2) (roomy w G))
          ∙ ap (λ (l : Names). (n, signed (low + i)) ∷ l) (names_framed used names₀ names o.framed)

      -- what the body is walked with
      abbrev inside_of : (w : World) → Entered w → World
      inside_of w G = record { header = w.header; items = w.items; state = (o.walking w G).0; busy = w.busy }

      given_round : (w : World) (G : Entered w) → Given mo text kinds mods count s base depth ks put (used + 1) own g k (inside_of w G)
      given_round w G =
          record {
            tabled = G.tabled;
            run = G.run;
            part = G.part;
            told = G.told;
            room = subst (λ (v : ℕ). used + 1 + depth ≤ v / 2) (sym push_framed.size) G.room;
            holding = (o.walking w G).1;
          }

      one_more : (w : World) (G : Entered w)
          → every w
          ≡ then_go (walk_of fuel text mo (inside_of w G) (names_of put (used + 1)) left)
          (λ y. walk_rounds (each w) n (signed (low + i) +ℤ pos 1) (total - (i + 1)) (names_of names₀ used) y.left y.state)
      unfolding walk_rounds
      one_more w G =
          let s = o.walking w G in
          let z : total - i ≡ suc (total - (i + 1)) = omega arith in
          s.2 ∙ ap (λ (v : ℕ). walk_rounds (each w) n (signed (low + i)) v (names_of names₀ used) left s.0) z
          ∙ ap (λ (l : Names). then_go (walk_items w.items (step_of fuel text mo w.header w.busy) l left s.0)
          (λ y. walk_rounds (each w) n (signed (low + i) +ℤ pos 1) (total - (i + 1)) (names_of names₀ used) y.left y.state)) (sym (named w G))

      module _ (b : Result ℕ Stop) (names' own' g' k' : List ℕ) (f : (w : World) → Given mo text kinds mods count s base depth ks put (used + 1) own g k w
          → Ends b mo text own' g' k' w.busy (walk_of fuel text mo w (names_of put (used + 1)) left)) where
        as_body : (c : Result ℕ Stop) → b ≡ c → (w : World) (G : Entered w) → Ends c mo text own' g' k' w.busy (walk_of fuel text mo (inside_of w G) (names_of put (used + 1)) left)
        as_body c e w G =
            subst (λ (y : Result ℕ Stop). Ends y mo text own' g' k' w.busy (walk_of fuel text mo (inside_of w G) (names_of put (used + 1)) left)) e
            (f (inside_of w G) (given_round w G))

        pub rounds_framed : Framed (used + 1) put names' → Framed used names₀ names'
        rounds_framed frame = framed_again push_framed (framed_less frame)

        pub rounds_next : (l : ℕ) → b ≡ Ok l → RoundsWithin b left → Framed (used + 1) put names' → Sized mo.own own g k own' g' k' → Rounds (i + 1) l names' own' g' k'
        rounds_next l e few' frame size =
            let c = subst (λ (y : Result ℕ Stop). RoundsWithin y left) e few' in
            let p = o.fewer in
            record {
              fewer = omega arith;
              framed = rounds_framed frame;
              sized = sized_again mo.own o.sized size;
              walking = λ w G.
                  let E = as_body (Ok l) e w G in
                  let z : low + i + 1 ≡ low + (i + 1) = omega arith in (
                    E.0,
                    E.2,
                    one_more w G
                        ∙ ap (λ (y : Got (Walked State)). then_go y (λ v. walk_rounds (each w) n (signed (low + i) +ℤ pos 1) (total - (i + 1)) (names_of names₀ used) v.left v.state)) E.1
                        ∙ ap (λ (v : ℤ). walk_rounds (each w) n v (total - (i + 1)) (names_of names₀ used) l E.0) (next_value (low + i))
                        ∙ ap (λ (v : ℕ). walk_rounds (each w) n (signed v) (total - (i + 1)) (names_of names₀ used) l E.0) z,
                  );
            }

        pub rounds_full : {f : Stop} → b ≡ Err f → (w : World) → Entered w → every w ≡ full
        rounds_full e w G =
            one_more w G
            ∙ ap (λ (y : Got (Walked State)). then_go y (λ v. walk_rounds (each w) n (signed (low + i) +ℤ pos 1) (total - (i + 1)) (names_of names₀ used) v.left v.state)) (as_body _ e w G)

-- ---- `constif`

run_some : (s : Bytes) (xs : List Bytes) → Run s xs → 0 < length s
run_some s xs (run.last b) = omega arith
run_some s xs (run.next b e r) = omega arith

module _ (fuel : ℕ) (mo : Mode) (text kinds mods : List ℕ) (count : ℕ) (x : Bytes) (from depth : ℕ) (ks names₀ : List ℕ) (used left₀ : ℕ) (own₀ g₀ k₀ : List ℕ) where
  abbrev Branching : Single → Type 0
  Branching w = OneGiven head.ConstIf mo text kinds mods count x from depth ks names₀ used own₀ g₀ k₀ w

  abbrev branches : Single → Got (Walked State)
  branches w = one_of fuel text mo w (names_of names₀ used) left₀

  abbrev shown_if : (w : Single) (G : Branching w) → ShowsItem x depth (const_if G.head.0 G.head.1 G.head.2)
  shown_if w G = subst (λ (i : Item). ShowsItem x depth i) G.head.3 G.shows

  pub not_flat : depth < 2 → (w : Single) → Branching w → branches w ≡ full
  not_flat e w G = let d = (in_const_if x depth G.head.0 G.head.1 G.head.2 (shown_if w G)).deeper in absurd (omega arith)

  as_branch : (w : Single) (G : Branching w)
      → branches w ≡ item_walk fuel mo text own₀ g₀ k₀ w.header w.busy (names_of names₀ used) left₀ w.state G.holding (const_if G.head.0 G.head.1 G.head.2)
  as_branch w G =
      ap (λ (i : Item). then_go (step_of fuel text mo w.header w.busy (names_of names₀ used) i w.state)
      (λ s. walk_inner i (step_of fuel text mo w.header w.busy) (names_of names₀ used) left₀ s)) G.head.3

  module _ (r : Chosen) (told : (r ≡ branch_of x depth (names_of names₀ used)) × (chosen_number r ≡ condition_number x depth (names_of names₀ used))) where
    chosen_as : (t : Chosen) → r ≡ t → (w : Single) (G : Branching w) → ChosenIs t x depth (value (names_of names₀ used) G.head.0) G.head.1 G.head.2
    chosen_as t e w G =
        subst (λ (y : Chosen). ChosenIs y x depth (value (names_of names₀ used) G.head.0) G.head.1 G.head.2) e
        (branch_is x depth (names_of names₀ used) r told.0 G.head.0 G.head.1 G.head.2 (shown_if w G))

    pub test_outside : {z : Outside} → r ≡ Err z → (w : Single) → Branching w → branches w ≡ full
    test_outside {z} e w G =
        as_branch w G
        ∙ branch_outside fuel mo text own₀ g₀ k₀ w.header w.busy (names_of names₀ used) left₀ w.state G.holding G.head.0 G.head.1 G.head.2
        (is_refused _ (chosen_as (Err z) e w G).0)

    module _ (run : Stretch) (runs : r ≡ Ok run) where
      abbrev a : ℕ
      a = run.before

      abbrev b : ℕ
      b = run.end

      begins : (w : Single) → Branching w → a < length x
      begins w G =
          let t = chosen_as (Ok run) runs w G in
          let n = run_some _ _ t.1.2.run in
          let m = piece_length x a b in
          let q = t.1.0 in
          let p = t.1.1 in
          omega arith

      pub branch_some : length x ≤ a → (w : Single) → Branching w → branches w ≡ full
      branch_some h w G = let p = begins w G in absurd (omega arith)

      pub branch_done : (y : Bytes) → y ≡ piece x a b → (v : Result ℕ Stop) (own' g' k' : List ℕ)
          → ((w : World) → Given mo text kinds mods count y (from + a + 1) (depth - 2) ks names₀ used own₀ g₀ k₀ w
          → Ends v mo text own' g' k' w.busy (walk_of fuel text mo w (names_of names₀ used) left₀))
          → (w : Single) → Branching w → Ends v mo text own' g' k' w.busy (branches w)
      branch_done y cut v own' g' k' f w G =
          let t = chosen_as (Ok run) runs w G in
          let q =
          as_branch w G
          ∙ branch_walk fuel mo text own₀ g₀ k₀ w.header w.busy (names_of names₀ used) left₀ w.state G.holding G.head.0 G.head.1 G.head.2 (not_refused _ t.0)
          in
          let m = G.room in
          let p = begins w G in
          subst (λ (z : Got (Walked State)). Ends v mo text own' g' k' w.busy z) (sym q)
          (f (record { header = w.header; items = taken (value (names_of names₀ used) G.head.0) G.head.1 G.head.2; state = w.state; busy = w.busy })
          (record {
            tabled = G.tabled;
            run = subst (λ (z : Bytes). RunOf (depth - 2) z (taken (value (names_of names₀ used) G.head.0) G.head.1 G.head.2)) (sym cut) t.1.2;
            part = subst (λ (z : Bytes). PartOf text (from + a + 1) z) (sym cut) (part_piece text from x G.part a b (omega arith));
            told = G.told;
            room = omega arith;
            holding = G.holding;
          }))
