-- One item, by what it is, and the loop over a run of items: where it stands, and one law for each way of its turn.
-- Assumes nothing.
use Rattle.std.specs.Prelude.{Result, Ok, Err}
use mathlib.Core.Path.{◌≡◌, refl, sym, ◌∙◌, ap, subst}
use mathlib.Core.Bool.{Bool, true, false}
use mathlib.Core.List.{List}
use Prim.Native.Nat.{ℕ, ◌+◌, ◌/◌, ◌≤◌, ◌<◌}
use native.Mathlib.Omega.{arith}
use lib.ListN.{length, drop}
use Rattle.spec.specs.Bytes.{Bytes}
use Rattle.spec.specs.Syntax.{Item, port, wire, reg, mem, const, drive, on, inst, repeat, const_if}
use Rattle.spec.specs.Value.{Names}
use Rattle.spec.specs.Refusal.{decode}
use Rattle.lines.specs.Parts.{piece}
use Rattle.consteval.specs.Worth.{names_of}
use Rattle.runs.specs.Run.{ShowsItem, form_length}
use Rattle.runs.proofs.Items.{item_end, FirstOf, first_of_run}
use Rattle.walk.specs.Walk.{Got, full, Walked, State, ask_walk}
use Rattle.steps.specs.Steps.{head_of, HeadIs}
use Rattle.steps.specs.declared.Head as H
use Rattle.steps.specs.declared.Head.TheVariants as head
use Rattle.steps.proofs.HeadLaws.{head_is}
use Rattle.collect.specs.Cycle.{PartOf, Mode, World, Single, Given, OneGiven, Ends, RoundsWithin, Stepped, Framed, PlainEnds, step_of, walk_of, one_of}
use Rattle.collect.specs.Plain.{PlainLine}
use Rattle.collect.proofs.Parts.{end_within, part_piece, stands_here}
use Rattle.collect.proofs.Leaving.{Filled, filled_same, filled_again}
use Rattle.edges.specs.declared.Stop.{Stop}
use Rattle.collect.proofs.Going.{Going, one, going_end, going_next, going_full, plain_ends, inst_ends, step_full, names_framed}

-- a walk keeps the lengths of the tables; rows, heads and summaries are added
pub record Sized (checking : Bool) (own₀ g₀ k₀ own g k : List ℕ) : Type 0 where
  pub kept : Filled checking own₀ own g₀ g k₀ k
  pub own_size : length own ≡ length own₀
  pub g_size : length g ≡ length g₀
  pub k_size : length k ≡ length k₀

pub framed_same : {used : ℕ} {a : List ℕ} → Framed used a a
framed_same = record { size = refl; same = λ i h. refl }

pub framed_again : {used : ℕ} {a b c : List ℕ} → Framed used a b → Framed used b c → Framed used a c
framed_again p q = record { size = q.size ∙ p.size; same = λ i h. q.same i h ∙ p.same i h }

-- fewer rounds are left than there were before some were spent
pub within_more : (r : Result ℕ Stop) (a b : ℕ) → a ≤ b → RoundsWithin r a → RoundsWithin r b
within_more (Ok l) a b h w = omega arith
within_more (Err e) a b h w = tt

pub sized_again : (checking : Bool) {a b c d e f g h i : List ℕ} → Sized checking a b c d e f → Sized checking d e f g h i → Sized checking a b c g h i
sized_again checking {a} {b} {c} {d} {e} {f} {g} {h} {i} p q = record { kept = filled_again checking a d g b e h c f i p.kept q.kept; own_size = q.own_size ∙ p.own_size; g_size = q.g_size ∙ p.g_size; k_size = q.k_size ∙ p.k_size }

-- each item has a head
some_head : (i : Item) → (h : H.Head) × HeadIs h i
some_head (port d n w s) = (head.Plain, refl)
some_head (wire n e s) = (head.Plain, refl)
some_head (reg n s) = (head.Plain, refl)
some_head (mem n s) = (head.Plain, refl)
some_head (const n e) = (head.Plain, refl)
some_head (drive lv e) = (head.Plain, refl)
some_head (on s ss) = (head.Plain, refl)
some_head (inst i) = (head.Inst, (i, refl))
some_head (repeat n l h is) = (head.Repeat, (n, l, h, is, refl))
some_head (const_if c is js) = (head.ConstIf, (c, is, js, refl))

-- the walk from the entry has come to `at`
pub record On (fuel : ℕ) (mo : Mode) (text kinds mods : List ℕ) (count : ℕ) (s : Bytes) (base depth : ℕ) (ks names₀ : List ℕ) (used left₀ : ℕ) (own₀ g₀ k₀ : List ℕ)
    (at left : ℕ) (names own g k : List ℕ) : Type 0 where
  pub inside : at ≤ length s
  pub fewer : left ≤ left₀
  pub framed : Framed used names₀ names
  pub sized : Sized mo.own own₀ g₀ k₀ own g k
  pub walking : (w : World) → Given mo text kinds mods count s base depth ks names₀ used own₀ g₀ k₀ w
      → Going fuel mo text s at depth (names_of names₀ used) left own g k w.header w.busy (walk_of fuel text mo w (names_of names₀ used) left₀)

module _ (fuel : ℕ) (mo : Mode) (text kinds mods : List ℕ) (count : ℕ) (s : Bytes) (base depth : ℕ) (ks names₀ : List ℕ) (used left₀ : ℕ) (own₀ g₀ k₀ : List ℕ) where
  pub starts : On fuel mo text kinds mods count s base depth ks names₀ used left₀ own₀ g₀ k₀ 0 left₀ names₀ own₀ g₀ k₀
  starts =
      record {
        inside = omega arith;
        fewer = omega arith;
        framed = framed_same;
        sized = record { kept = filled_same mo.own own₀ g₀ k₀; own_size = refl; g_size = refl; k_size = refl };
        walking = λ w G. record { items = w.items; state = w.state; run = G.run; holding = G.holding; same = refl };
      }

  module _ (at left : ℕ) (names own g k : List ℕ) (o : On fuel mo text kinds mods count s base depth ks names₀ used left₀ own₀ g₀ k₀ at left names own g k) where
    abbrev Entered : World → Type 0
    Entered w = Given mo text kinds mods count s base depth ks names₀ used own₀ g₀ k₀ w

    abbrev walk : World → Got (Walked State)
    walk w = walk_of fuel text mo w (names_of names₀ used) left₀

    pub ended : length s ≤ at + 1 → (w : World) → Entered w → Ends (Ok left) mo text own g k w.busy (walk w)
    ended h w G = going_end fuel mo text s depth (names_of names₀ used) w.header w.busy (walk w) (o.walking w G) h

    names_same : names_of names used ≡ names_of names₀ used
    names_same = names_framed used names₀ names o.framed

    module _ (more : at + 1 < length s) (end : ℕ) (x : Bytes) (till : end ≡ at + 1 + form_length 0 (drop (at + 1) s)) (cut : x ≡ piece s at end) where
      abbrev first : (w : World) (G : Entered w) → FirstOf depth s at (o.walking w G).items
      first w G = first_of_run depth s at (o.walking w G).items (o.walking w G).run more

      here : end ≡ item_end s at
      unfolding item_end
      here = till

      pub after : (at < end) × (end ≤ length s)
      after = let h = end_within s (at + 1) (omega arith) in (omega arith, omega arith)

      abbrev single : (w : World) → Entered w → Single
      single w G = one fuel mo text s depth (names_of names₀ used) w.header w.busy (walk w) (o.walking w G) (first w G)

      shows : (w : World) (G : Entered w) → ShowsItem x depth (first w G).item
      shows w G = subst (λ (y : Bytes). ShowsItem y depth (first w G).item) (sym (cut ∙ ap (piece s at) here)) (first w G).shows

      given : (h : H.Head) (w : World) (G : Entered w) → HeadIs h (first w G).item
          → OneGiven h mo text kinds mods count x (base + at + 1) depth ks names used own g k (single w G)
      given h w G e =
          let z = o.framed.size in
          record {
            tabled = G.tabled;
            shows = shows w G;
            head = e;
            part = subst (λ (y : Bytes). PartOf text (base + at + 1) y) (sym cut) (part_piece text base s G.part at end (omega arith));
            told = G.told;
            room = subst (λ (n : ℕ). used + depth ≤ n / 2) (sym z) G.room;
            holding = (o.walking w G).holding;
          }

      -- the item is walked, and those behind it are left
      next : (l : ℕ) (names' own' g' k' : List ℕ) → l ≤ left → Framed used names names' → Sized mo.own own g k own' g' k'
          → ((w : World) (G : Entered w) → Ends (Ok l) mo text own' g' k' w.busy (one_of fuel text mo (single w G) (names_of names₀ used) left))
          → On fuel mo text kinds mods count s base depth ks names₀ used left₀ own₀ g₀ k₀ end l names' own' g' k'
      next l names' own' g' k' few frame size ends =
          let f = o.fewer in
          record {
            inside = after.1;
            fewer = omega arith;
            framed = framed_again o.framed frame;
            sized = sized_again mo.own o.sized size;
            walking = λ w G.
                subst
                (λ (e : ℕ). Going fuel mo text s e depth (names_of names₀ used) l own' g' k' w.header w.busy (walk w)) (sym here)
                (going_next fuel mo text s depth (names_of names₀ used) w.header w.busy (walk w) (o.walking w G) (first w G) (ends w G));
          }

      stop : ((w : World) (G : Entered w) → one_of fuel text mo (single w G) (names_of names₀ used) left ≡ full) → (w : World) → Entered w → walk w ≡ full
      stop e w G = going_full fuel mo text s depth (names_of names₀ used) w.header w.busy (walk w) (o.walking w G) (first w G) (e w G)

      -- the item has a head, whichever it is
      abbrev Answers : Result ℕ Stop → (own' g' k' : List ℕ) → Type 0
      Answers a own' g' k' =
          (h : H.Head) (w : Single) → OneGiven h mo text kinds mods count x (base + at + 1) depth ks names used own g k w
          → Ends a mo text own' g' k' w.busy (one_of fuel text mo w (names_of names used) left)

      answered : (a : Result ℕ Stop) (own' g' k' : List ℕ) → Answers a own' g' k'
          → (w : World) (G : Entered w) → Ends a mo text own' g' k' w.busy (one_of fuel text mo (single w G) (names_of names₀ used) left)
      answered a own' g' k' f w G =
          let h = some_head (first w G).item in
          subst (λ (ns : Names). Ends a mo text own' g' k' w.busy (one_of fuel text mo (single w G) ns left)) names_same
          (f h.0 (single w G) (given h.0 w G h.1))

      pub item_next : (l : ℕ) (names' own' g' k' : List ℕ) (a : Result ℕ Stop) → a ≡ Ok l → RoundsWithin a left → Framed used names names' → Sized mo.own own g k own' g' k'
          → Answers a own' g' k' → On fuel mo text kinds mods count s base depth ks names₀ used left₀ own₀ g₀ k₀ end l names' own' g' k'
      item_next l names' own' g' k' a e few frame size f =
          next l names' own' g' k' (subst (λ (y : Result ℕ Stop). RoundsWithin y left) e few) frame size
          (λ w G.
          subst (λ (y : Result ℕ Stop). Ends y mo text own' g' k' w.busy (one_of fuel text mo (single w G) (names_of names₀ used) left)) e (answered a own' g' k' f w G))

      pub item_full : (own' g' k' : List ℕ) (a : Result ℕ Stop) → {f : Stop} → a ≡ Err f → Answers a own' g' k' → (w : World) → Entered w → walk w ≡ full
      item_full own' g' k' a e f =
          stop
          (λ w G.
          subst (λ (y : Result ℕ Stop). Ends y mo text own' g' k' w.busy (one_of fuel text mo (single w G) (names_of names₀ used) left)) e (answered a own' g' k' f w G))

-- ---- one item, by its head

module _ (fuel : ℕ) (mo : Mode) (text kinds mods : List ℕ) (count : ℕ) (x : Bytes) (from depth : ℕ) (ks names : List ℕ) (used left : ℕ) (own g k : List ℕ) (r : H.Head) (told : r ≡ head_of x) where
  abbrev Is : H.Head → Single → Type 0
  Is h w = OneGiven h mo text kinds mods count x from depth ks names used own g k w

  abbrev item_walk : Single → Got (Walked State)
  item_walk w = one_of fuel text mo w (names_of names used) left

  -- it is what the code takes it for
  taken_for : (h : H.Head) → r ≡ h → (h' : H.Head) (w : Single) → Is h' w → Is h w
  taken_for h e h' w G =
      record {
        tabled = G.tabled;
        shows = G.shows;
        head = subst (λ (y : H.Head). HeadIs y w.item) (sym told ∙ e) (head_is x w.item depth G.shows);
        part = G.part;
        told = G.told;
        room = G.room;
        holding = G.holding;
      }

  -- a `repeat` or a `constif`
  pub body_walked : (h : H.Head) → r ≡ h → (a : Result ℕ Stop) (own' g' k' : List ℕ) → ((w : Single) → Is h w → Ends a mo text own' g' k' w.busy (item_walk w))
      → (h' : H.Head) (w : Single) → Is h' w → Ends a mo text own' g' k' w.busy (item_walk w)
  body_walked h e a own' g' k' f h' w G = f w (taken_for h e h' w G)

  abbrev item_step : Single → Got State
  item_step w = step_of fuel text mo w.header w.busy (names_of names used) w.item w.state

  -- an instance
  module _ (is : r ≡ head.Inst) (b : Bool) (g' k' : List ℕ)
      (steps : (mo : Mode) (own : List ℕ) (from : ℕ) (w : Single) → OneGiven head.Inst mo text kinds mods count x from depth ks names used own g k w
      → Stepped b mo text own g' k' w.busy (step_of fuel text mo w.header w.busy (names_of names used) w.item w.state)) where
    inst_stepped : (c : Bool) → b ≡ c → (h : H.Head) (w : Single) → Is h w → Stepped c mo text own g' k' w.busy (item_step w)
    inst_stepped c was h w G =
        subst (λ (y : Bool). Stepped y mo text own g' k' w.busy (item_step w)) was (steps mo own from w (taken_for head.Inst is h w G))

    pub inst_walked : b ≡ true → (h : H.Head) (w : Single) → Is h w → Ends (Ok left) mo text own g' k' w.busy (item_walk w)
    inst_walked was h w G =
        let i = (taken_for head.Inst is h w G).head in
        inst_ends fuel mo text (names_of names used) left w i.0 i.1 (inst_stepped true was h w G)

    pub inst_full : b ≡ false → (h : H.Head) (w : Single) → Is h w → item_walk w ≡ full
    inst_full was h w G = step_full fuel mo text (names_of names used) left w (inst_stepped false was h w G)

  -- a plain line
  module _ (is : r ≡ head.Plain) (b : Bool) (own' g' : List ℕ) (line : PlainLine b x from depth ks mo.own mo.bound (names_of names used) own g own' g') where
    plain_stepped : (c : Bool) → b ≡ c → (h : H.Head) (w : Single) → Is h w
        → PlainEnds c mo text own' g' w.header (names_of names used) w.item w.state.own w.state.heads
    plain_stepped c was h w G =
        subst (λ (y : Bool). PlainEnds y mo text own' g' w.header (names_of names used) w.item w.state.own w.state.heads) was
        (line text w.item G.shows (taken_for head.Plain is h w G).head (stands_here text from x G.part kinds mods count G.tabled) w.header G.told w.state.own
        G.holding.owned w.state.heads G.holding.stands)

    pub plain_walked : b ≡ true → (h : H.Head) (w : Single) → Is h w → Ends (Ok left) mo text own' g' k w.busy (item_walk w)
    plain_walked was h w G =
        let e = plain_stepped true was h w G in
        plain_ends fuel mo text (names_of names used) left w (taken_for head.Plain is h w G).head (
          record { own = e.0; heads = e.1; kept = w.state.kept },
          e.2 (ask_walk fuel (decode text) w.busy) w.state.kept,
          record { owned = e.3; stands = e.4; keeps = G.holding.keeps },
        )

    pub plain_full : b ≡ false → (h : H.Head) (w : Single) → Is h w → item_walk w ≡ full
    plain_full was h w G =
        step_full fuel mo text (names_of names used) left w (plain_stepped false was h w G (ask_walk fuel (decode text) w.busy) w.state.kept)
