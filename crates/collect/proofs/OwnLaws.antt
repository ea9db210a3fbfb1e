-- A module's own walk from the slices as they are lent: its tables emptied, one law for each way of the code. Assumes nothing.
use Rattle.std.specs.Prelude.{Result, Ok, Err}
use mathlib.Core.Path.{◌≡◌, sym, ◌∙◌, subst}
use mathlib.Core.Bool.{true}
use mathlib.Core.List.{List, []}
use Prim.Native.Nat.{ℕ, ◌≤◌}
use native.Mathlib.Omega.{arith}
use lib.ListN.{length}
use Rattle.spec.specs.Bytes.{Bytes}
use Rattle.spec.specs.Syntax.{Module}
use Rattle.spec.specs.Refusal.{decode}
use Rattle.spec.specs.Value.{Table, own_vals, name_table}
use Rattle.spec.specs.Summary.{Kept}
use Rattle.spec.specs.Cleared.{Cleared}
use Rattle.graph.specs.Stands.{graph_places, Stands}
use Rattle.graph.specs.Cycles as graphs
use Rattle.sites.specs.Own.{places}
use Rattle.runs.specs.Text.{ModuleAt}
use Rattle.runs.proofs.Text.{module_at}
use Rattle.walk.specs.Walk.{full, no_own, own_walk, walk_module}
use Rattle.steps.specs.Modules.{Named, name_places, named_by, table_by, NamesAre}
use Rattle.std.specs.Prelude.{Ok, Err}
use Rattle.consteval.specs.declared.Outside.{Outside}
use Rattle.steps.proofs.StepLaws.{is_refused, not_refused}
use Rattle.items.specs.Held.{Held}
use Rattle.items.specs.Lines.{emptied}
use Rattle.collect.specs.Cycle.{mode, walk_number, Ends, LinesAdded, HeadsAdded, Framed, RoundsWithin}
use Rattle.collect.specs.Face.{WalkGiven, ModuleGiven, Collects, Walkable, LentAfter}
use Rattle.collect.proofs.Going.{names_framed}
use Rattle.edges.specs.declared.Stop.{Stop}
use Rattle.collect.proofs.Leaving.{Filled}

-- ---- a module

-- the rounds left
pub few_left : (a : Result ℕ Stop) {left : ℕ} → RoundsWithin a 4096 → a ≡ Ok left → left ≤ 4096
few_left a h e = subst (λ (b : Result ℕ Stop). RoundsWithin b 4096) e h

module _ {text kinds mods : List ℕ} {count m : ℕ} {names own g k : List ℕ} {x : Module} {kept : Kept} (C : ModuleGiven text kinds mods count m names own g k x kept) where
  abbrev T : Table
  T = name_table (own_vals x) x

  here : ModuleAt text mods m x
  here = subst (λ (ms : List ℕ). ModuleAt text ms m x) (sym C.tabled.mods_are) (module_at text (length mods) C.tabled.formed C.tabled.mods_fit m x C.there)

  walk_out : T.out ≡ true → own_walk (decode text) x kept ≡ full
  unfolding own_walk walk_module
  walk_out e = rw (e, walk_module)

  -- what filling the name table leaves
  module _ (names' : List ℕ) (r : Named) (f : (j : Module) → ModuleAt text mods m j → name_places ≤ length names → NamesAre r names' (name_table (own_vals j) j)) where
    pub own_outside : {z : Outside} → r ≡ Err z → own_walk (decode text) x kept ≡ full
    own_outside e = walk_out (is_refused _ (subst (λ (n : Named). NamesAre n names' T) e (f x here C.named)).0)

    module _ {used : ℕ} (e : r ≡ Ok used) (own' g' : List ℕ) (held : length own ≡ places → (t : Bytes) → Held t own' no_own)
        (empty : graph_places ≤ length g → Stands g' []) where
      filled : NamesAre (Ok used) names' T
      filled = subst (λ (n : Named). NamesAre n names' T) e (f x here C.named)

      given : WalkGiven text kinds mods count m names' used own' g' k x kept
      given =
          record {
            tabled = C.tabled;
            there = C.there;
            inside = not_refused _ filled.0;
            named = filled.1.0;
            room = filled.1.1;
            held = held C.owned text;
            stands = empty C.graphed;
            keeps = C.keeps;
          }

      -- what the walk leaves
      module _ (own'' g'' k'' : List ℕ) (a : Result ℕ Stop) (walk : (j : Module) (kept' : Kept) → WalkGiven text kinds mods count m names' used own' g' k j kept'
          → Ends a (mode true j.bound) text own'' g'' k'' [] (own_walk (decode text) j kept')) where
        pub own_full : {f : Stop} → a ≡ Err f → own_walk (decode text) x kept ≡ full
        own_full q = subst (λ (b : Result ℕ Stop). Ends b (mode true x.bound) text own'' g'' k'' [] (own_walk (decode text) x kept)) q (walk x kept given)

        pub own_left : {left : ℕ} → a ≡ Ok left → (names'' : List ℕ) → Framed used names' names''
            → Collects (Ok (record { used = used; left = left })) text names'' own'' g'' k'' x (own_walk (decode text) x kept)
        own_left {left} q names'' framed =
            let ends : Ends (Ok left) (mode true x.bound) text own'' g'' k'' [] (own_walk (decode text) x kept) =
            subst (λ (y : Result ℕ Stop). Ends y (mode true x.bound) text own'' g'' k'' [] (own_walk (decode text) x kept)) q (walk x kept given) in
            (ends.0, ends.1, ends.2, names_framed used names' names'' framed ∙ filled.1.0)

-- ---- what the slices become

abbrev pub Sizes : List ℕ → List ℕ → List ℕ → List ℕ → List ℕ → List ℕ → List ℕ → List ℕ → Type 0
Sizes names own g k names' own' g' k' = (length names' ≡ length names) × (length own' ≡ length own) × (length g' ≡ length g) × (length k' ≡ length k)

module _ (text mods : List ℕ) (count m : ℕ) (names own g k names' own' g' k' : List ℕ) (s : Sizes names own g k names' own' g' k') where
  pub lent_left : (used left : ℕ) (r : Named) (table : List ℕ) → r ≡ named_by text mods m names → table ≡ table_by text mods m names → r ≡ Ok used
      → Framed used table names' → (a : Result ℕ Stop) → a ≡ Ok left → Walkable (walk_number a) text count → (v : List ℕ) → v ≡ emptied own → (u : List ℕ) → u ≡ graphs.emptied g → Filled true v own' u g' k k'
      → LentAfter (Ok (record { used = used; left = left })) text mods count m names own g k names' own' g' k'
  lent_left used left r table a t e f w q h v z u y l =
      record { sizes = s; named = (sym a ∙ e, subst (λ (y : List ℕ). Framed used y names') t f); cleared = λ z. absurd (omega arith); owned = λ _. subst (λ (y : List ℕ). LinesAdded y own') z l.0; headed = λ _. subst (λ (y : List ℕ). HeadsAdded y k g' k') y l.1; walkable = rw q at h }

  pub lent_full : {f : Stop} → Cleared names' → Cleared own' × Cleared g' × Cleared k' → LentAfter (Err f) text mods count m names own g k names' own' g' k'
  lent_full n z = record { sizes = s; named = n; cleared = λ _. z; owned = λ e. absurd (omega arith); headed = λ e. absurd (omega arith); walkable = tt }
