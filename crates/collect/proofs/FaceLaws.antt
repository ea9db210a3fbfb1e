-- The walk of a module's own check: the ways of `walk_module`.
-- Assumes nothing.
use Rattle.std.specs.Prelude.{Result, Ok, Err}
use mathlib.Core.Path.{◌≡◌, refl, sym, ◌∙◌, ap, subst}
use mathlib.Core.Bool.{Bool, true, false}
use mathlib.Core.List.{List, []}
use Prim.Native.Nat.{ℕ, suc, ◌+◌, ◌*◌, ◌-◌, ◌≤◌, ◌<◌}
use native.Mathlib.Omega.{arith}
use lib.Dec.{ltb}
use lib.ListN.{length, take, drop, get_or}
use Rattle.spec.specs.Bytes.{Bytes}
use Rattle.spec.specs.Syntax.{Module}
use Rattle.spec.specs.Decode.{depth_limit}
use Rattle.spec.specs.Refusal.{decode}
use Rattle.spec.specs.Value.{Names, own_vals, name_table}
use Rattle.spec.specs.Summary.{Kept}
use Rattle.spec.specs.Collect.{round_limit}
use Rattle.spec.proofs.Reading.{reading}
use Rattle.consteval.specs.Worth.{names_of}
use Rattle.edges.specs.Reads.{KindsOf}
use Rattle.runs.specs.Run.{RunOf}
use Rattle.runs.specs.Text.{items_run}
use Rattle.walk.specs.Walk.{Got, full, Walked, walk_items, State, no_own, over_own, begin, line_step, ask_walk, walk_module, own_walk}
use Rattle.collect.specs.Cycle.{PartOf, mode, World, Given, walk_number, Ends, walk_of}
use Rattle.collect.specs.Face.{WalkGiven, Walkable}
use Rattle.edges.specs.declared.Stop.{Stop}
use Rattle.collect.proofs.Tables.{few, run_short, kinds_here, run_here, bound_here}

-- the end of a module's run is a word
pub run_fits : (text mods : List ℕ) (m : ℕ) (run : Bytes) (base : ℕ) → run ≡ items_run text mods m → base ≡ get_or mods (m * 4 + 2) 0 - 1 → base < 4294967296 → length text ≤ 32768
    → base + length run ≤ 4294967295
run_fits text mods m run base e b h s =
    let n : length run ≡ length (items_run text mods m) = ap length e in
    let t = run_short text mods m in
    omega arith

-- within the limits of a text, whatever the walk says
pub walkable_within : (a : Result ℕ Stop) (text : List ℕ) (count : ℕ) → length text ≤ 32768 → count ≤ 32 → Walkable (walk_number a) text count
walkable_within (Ok l) text count h n = (h, n)
walkable_within (Err e) text count h n = tt

-- own tables with no row are within their limits
none_over : over_own no_own ≡ false
unfolding over_own
none_over = refl

module _ (text kinds mods : List ℕ) (count m : ℕ) (names : List ℕ) (used : ℕ) (own g k : List ℕ) (x : Module) (kept : Kept)
    (C : WalkGiven text kinds mods count m names used own g k x kept) where
  -- the limits of an accepted text
  pub not_long : 32768 < length text → own_walk (decode text) x kept ≡ full
  not_long h = let r = reading.accepted text C.tabled.formed in let q = r.0 in absurd (omega arith)

  pub not_many : 32 < count → own_walk (decode text) x kept ≡ full
  not_many h = let f = few text kinds mods count C.tabled in absurd (omega arith)

  abbrev walk_from : ℕ → Bool → Names → Got (Walked State)
  walk_from fuel bound ns = walk_items x.items (line_step (ask_walk fuel (decode text) []) (record { own = true; bound = bound; header = x.header })) ns round_limit (begin kept)

  by_table : own_walk (decode text) x kept
      ≡ elim (name_table (own_vals x) x).out as (λ _. Got (Walked State)) [ true ↦ full | false ↦ walk_from (suc (length (decode text))) x.bound (name_table (own_vals x) x).names ]
  unfolding own_walk walk_module
  by_table = refl

  -- no constant of its names is outside INT
  opened : own_walk (decode text) x kept ≡ walk_from (suc (length (decode text))) x.bound (name_table (own_vals x) x).names
  opened =
      by_table
      ∙ ap (λ (b : Bool). elim b as (λ _. Got (Walked State)) [ true ↦ full | false ↦ walk_from (suc (length (decode text))) x.bound (name_table (own_vals x) x).names ]) C.inside

  module _ (run : Bytes) (runs : run ≡ items_run text mods m) (base : ℕ) (based : base ≡ get_or mods (m * 4 + 2) 0 - 1) (ks : List ℕ) (cut : ks ≡ take 256 (drop (m * 256) kinds))
      (bound : Bool) (told : bound ≡ ltb 0 (get_or mods (m * 4) 0)) where
    abbrev world : World
    world = record { header = x.header; items = x.items; state = begin kept; busy = [] }

    is_bound : bound ≡ x.bound
    is_bound = told ∙ bound_here text kinds mods count m x C.tabled C.there

    given : Given (mode true bound) text kinds mods count run base 32 ks names used own g k world
    given =
        let r = run_here text kinds mods count m x C.tabled C.there in
        record {
          tabled = C.tabled;
          run = subst (λ (y : Bytes). RunOf depth_limit y x.items) (sym runs) r.0;
          part = subst (λ (y : Bytes). PartOf text base y) (sym runs) (subst (λ (b : ℕ). PartOf text b (items_run text mods m)) (sym based) r.1);
          told = subst (λ (y : List ℕ). KindsOf y x.header) (sym cut) (kinds_here text kinds mods count m x C.tabled C.there);
          room = C.room;
          holding = record { owned = (C.held, none_over); stands = C.stands; keeps = C.keeps };
        }

    pub module_walked : (r : Result ℕ Stop) (own' g' k' : List ℕ)
        → ((w : World) → Given (mode true bound) text kinds mods count run base 32 ks names used own g k w
        → Ends r (mode true bound) text own' g' k' w.busy (walk_of (count + 1) text (mode true bound) w (names_of names used) 4096))
        → Ends r (mode true x.bound) text own' g' k' [] (own_walk (decode text) x kept)
    module_walked r own' g' k' f =
        let c = C.tabled.modules in
        let n : count + 1 ≡ suc (length (decode text)) = omega arith in
        subst (λ (y : Got (Walked State)). Ends r (mode true x.bound) text own' g' k' [] y) (sym opened)
        (subst (λ (ns : Names). Ends r (mode true x.bound) text own' g' k' [] (walk_from (suc (length (decode text))) x.bound ns)) C.named
        (subst (λ (j : ℕ). Ends r (mode true x.bound) text own' g' k' [] (walk_from j x.bound (names_of names used))) n
        (subst (λ (b : Bool). Ends r (mode true b) text own' g' k' [] (walk_from (count + 1) b (names_of names used))) is_bound (f world given))))
