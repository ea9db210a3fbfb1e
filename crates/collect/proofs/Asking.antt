-- The ways of `inst_edges`, `comb_summary` and `make_summary`.
-- Assumes nothing.
use Rattle.std.specs.Prelude.{Result, Ok, Err}
use mathlib.Core.Path.{◌≡◌, refl, sym, ◌∙◌, ap, subst}
use mathlib.Core.Bool.{Bool, true, false}
use mathlib.Core.List.{List, [], ◌∷◌}
use mathlib.Core.Option.{Option, some, none}
use Prim.Native.Nat.{ℕ, suc, ◌+◌, ◌*◌, ◌-◌, ◌≤◌, ◌<◌}
use native.Mathlib.Omega.{arith}
use lib.ListN.{length, take, drop, get_or, set, get_elem?}
use borrow.Author.Tests.{le-ltb, eq-eqb}
use Rattle.spec.specs.Bytes.{Bytes}
use Rattle.spec.specs.Syntax.{Inst, Item, inst, Header, Module}
use Rattle.spec.specs.Decode.{depth_limit}
use Rattle.spec.specs.Refusal.{decode, has_name}
use Rattle.spec.specs.Value.{Value, Names, own_vals, name_table, is_outside}
use Rattle.spec.specs.Collect.{round_limit}
use Rattle.spec.specs.Edge.{Summary, Head, place_value, inst_edges}
use Rattle.spec.specs.Summary.{Kept, kept_summary, triples, triple_limit, module_summary}
use Rattle.spec.proofs.Reading.{reading}
use Rattle.graph.specs.Stands.{Stands}
use Rattle.consteval.specs.Worth.{Answer, names_of, worth}
use Rattle.consteval.specs.declared.Outside.{Outside}
use Rattle.std.specs.Prelude.{Some, None, Ok, Err, is_err}
use Rattle.edges.specs.Reads.{KindsOf, HeadAll}
use Rattle.edges.specs.Lines.{summary_at, inst_index, inst_module, InstHeads}
use Rattle.edges.proofs.OutputLaws.{index_is, module_is}
use Rattle.runs.specs.Run.{ShowsItem, RunOf}
use Rattle.runs.specs.Text.{ModuleAt, items_run}
use Rattle.walk.specs.Walk.{Got, full, going, Walked, walk_items, State, begin, Answered, answered, Asking, ask_walk, own_step, line_step, walking}
use Rattle.walk.specs.Alike.{Alike}
use Rattle.steps.specs.declared.Head.TheVariants as head
use Rattle.steps.specs.Modules.{Named, NamesAre}
use Rattle.steps.proofs.StepLaws.{is_refused, not_refused}
use Rattle.summary.specs.Keeps.{Keeps, state_of, Says, Made, pairs_of, first_of, count_of}
use Rattle.summary.specs.declared.State as S
use Rattle.summary.specs.declared.State.TheVariants as states
use Rattle.summary.proofs.Table.{state_says, kept_pairs, began}
use Rattle.collect.specs.Cycle.{Tabled, PartOf, Mode, mode, World, Single, Given, OneGiven, Ends, Stepped, AskedFor, step_of, walk_of}
use Rattle.collect.proofs.Turns.{ask_missing, ask_kept, ask_busy, ask_outside, ask_stops, ask_over, ask_made}
use Rattle.collect.proofs.Ways.{outside_index, unasked_full, heads_done, heads_over}
use Rattle.edges.specs.declared.Stop.{Stop}
use Rattle.collect.proofs.Tables.{kinds_here, module_here, run_here, found, missing, few}

-- an error is a value outside INT
pub outside_err : (v : Answer) → is_err v ≡ is_outside (worth v)
outside_err (Ok (Some x)) = refl
outside_err (Ok None) = refl
outside_err (Err e) = refl

-- ---- an instance

alike_same : (s : Summary) → Alike s s
alike_same s = record { reach = λ o i. refl; outs = refl; size = refl }

module _ (fuel : ℕ) (text kinds mods : List ℕ) (count : ℕ) (x : Bytes) (depth : ℕ) (ks names : List ℕ) (used : ℕ) (g k : List ℕ) where
  module _ (mo : Mode) (own : List ℕ) (from : ℕ) (w : Single) (G : OneGiven head.Inst mo text kinds mods count x from depth ks names used own g k w) where
    abbrev the : Inst
    the = G.head.0

    shown : ShowsItem x depth (inst the)
    shown = subst (λ (i : Item). ShowsItem x depth i) G.head.1 G.shows

    abbrev stepping : Item → Got State
    stepping i = step_of fuel text mo w.header w.busy (names_of names used) i w.state

    as_inst : stepping w.item ≡ stepping (inst the)
    as_inst = ap stepping G.head.1

    module _ (v : Value) (index : v ≡ inst_index x depth (names_of names used)) where
      at_place : v ≡ place_value (names_of names used) the.place
      at_place = index ∙ index_is x depth (names_of names used) the shown

      pub index_outside : is_outside v ≡ true → stepping w.item ≡ full
      index_outside e =
          as_inst
          ∙ outside_index fuel mo text own w.header w.busy (names_of names used) the w.state G.holding.owned (ap is_outside (sym at_place) ∙ e)

      module _ (inside : is_outside v ≡ false) (m : ℕ) (is : m ≡ inst_module x) where
        inside_place : is_outside (place_value (names_of names used) the.place) ≡ false
        inside_place = ap is_outside (sym at_place) ∙ inside

        abbrev asks : ℕ → Got Answered
        asks n = ask_walk fuel (decode text) w.busy w.state.kept n

        the_module : m ≡ the.«module»
        the_module = is ∙ module_is x depth the shown

        pub summary_full : asks m ≡ full → stepping w.item ≡ full
        summary_full e =
            as_inst
            ∙ unasked_full fuel mo text own w.header w.busy (names_of names used) the w.state G.holding.owned inside_place (ap asks (sym the_module) ∙ e)

        pub heads_made : (k' : List ℕ) (a : Answered) → asks m ≡ going a → (t : Summary) → Alike t a.summary → Keeps k' a.kept w.busy
            → (b : Bool) (g' : List ℕ) → InstHeads b v t x depth ks (names_of names used) g g' → Stepped b mo text own g' k' w.busy (stepping w.item)
        heads_made k' a e t alike keeps b g' f =
            go b (f the shown at_place w.header G.told w.state.heads G.holding.stands)
          where
            answer : asks the.«module» ≡ going a
            answer = ap asks (sym the_module) ∙ e

            go : (b : Bool) → HeadAll b g' w.state.heads (inst_edges w.header (names_of names used) the t) → Stepped b mo text own g' k' w.busy (stepping w.item)
            go true h =
                let s = heads_done fuel mo text own w.header w.busy (names_of names used) the w.state G.holding.owned inside_place a answer t alike k' keeps {g = g'} h in
                (s.0, as_inst ∙ s.1, s.2)
            go false h =
                as_inst
                ∙ heads_over fuel mo text own w.header w.busy (names_of names used) the w.state G.holding.owned inside_place a answer t alike k' keeps g' h

        pub summary_empty : (k' : List ℕ) → AskedFor (Ok false) k' m w.busy (asks m)
            → (b : Bool) (g' : List ℕ) → InstHeads b v (summary_at k' 0 0) x depth ks (names_of names used) g g' → Stepped b mo text own g' k' w.busy (stepping w.item)
        unfolding summary_at
        summary_empty k' q b g' f =
            heads_made k' q.0 q.1 [] (subst (λ (s : Summary). Alike [] s) (sym q.2) (alike_same [])) q.3 b g' f

        pub summary_kept : (k' : List ℕ) → AskedFor (Ok true) k' m w.busy (asks m)
            → (first pairs : ℕ) → first ≡ first_of k' m → pairs ≡ count_of k' m
            → (b : Bool) (g' : List ℕ) → InstHeads b v (summary_at k' first pairs) x depth ks (names_of names used) g g' → Stepped b mo text own g' k' w.busy (stepping w.item)
        summary_kept k' q first pairs e c b g' f =
            heads_made k' q.0 q.1 (pairs_of k' m) q.2 q.3 b g'
            (subst (λ (n : ℕ). InstHeads b v (summary_at k' (first_of k' m) n) x depth ks (names_of names used) g g') c
            (subst (λ (n : ℕ). InstHeads b v (summary_at k' n pairs) x depth ks (names_of names used) g g') e f))

-- ---- asking for a summary

newest : (m : ℕ) (s : Summary) (kept : Kept) → kept_summary ((m, s) ∷ kept) m ≡ some s
unfolding kept_summary
newest m s kept =
    ap (λ (b : Bool). elim b as (λ _. Option Summary) [ true ↦ some s | false ↦ kept_summary kept m ]) (eq-eqb m m refl)

-- in a summary's walk nothing asks whether the module is bound
unbound : (ask : Asking) (header : List Header) (a b : Bool) (names : Names) (i : Item) (st : State)
    → line_step ask (record { own = false; bound = a; header = header }) names i st ≡ line_step ask (record { own = false; bound = b; header = header }) names i st
unfolding line_step own_step
unbound ask header a b names i st = refl

module _ (text kinds mods : List ℕ) (count m : ℕ) (k : List ℕ) (kept : Kept) (busy : List ℕ) (t : Tabled text kinds mods count) (keeps : Keeps k kept busy) where
  abbrev asking : ℕ → Got Answered
  asking fuel = ask_walk fuel (decode text) busy kept m

  pub ask_spent : AskedFor (Ok false) k m busy (asking 0)
  unfolding ask_walk
  ask_spent = (answered [] kept, refl, refl, keeps)

  pub spent_at : {fuel : ℕ} → fuel ≡ 0 → AskedFor (Ok false) k m busy (asking fuel)
  spent_at e = subst (λ (n : ℕ). AskedFor (Ok false) k m busy (asking n)) (sym e) ask_spent

  module _ (fuel : ℕ) (some_left : 0 < fuel) where
    one_less : fuel ≡ suc (fuel - 1)
    one_less = omega arith

    back : (a : Result Bool Stop) (k' : List ℕ) → AskedFor a k' m busy (asking (suc (fuel - 1))) → AskedFor a k' m busy (asking fuel)
    back a k' q = subst (λ (n : ℕ). AskedFor a k' m busy (asking n)) (sym one_less) q

    pub ask_past : count ≤ m → AskedFor (Ok false) k m busy (asking fuel)
    ask_past h =
        back (Ok false) k
        (answered [] kept, ask_missing (fuel - 1) (decode text) busy kept m (missing text kinds mods count m t h), refl, keeps)

    module _ (there : m < count) (s : S.State) (is : s ≡ state_of k m) where
      small : m < 32
      small = let h = few text kinds mods count t in omega arith

      said : (y : S.State) → s ≡ y → Says y k m kept busy
      said y e = subst (λ (z : S.State). Says z k m kept busy) (sym is ∙ e) (state_says keeps m small)

      abbrev it : (x : Module) × (get_elem? (decode text) m ≡ some x)
      it = found text kinds mods count m t there

      pub ask_again : s ≡ states.Kept → AskedFor (Ok true) k m busy (asking fuel)
      ask_again e =
          let q = said states.Kept e in
          back (Ok true) k (answered q.0 kept, ask_kept (fuel - 1) (decode text) busy kept m it.0 it.1 q.0 q.1 q.3, q.2, keeps, small)

      pub ask_within : s ≡ states.Busy → AskedFor (Ok false) k m busy (asking fuel)
      ask_within e =
          let q = said states.Busy e in
          back (Ok false) k (answered [] kept, ask_busy (fuel - 1) (decode text) busy kept m it.0 it.1 q.0 q.1, refl, keeps)

      pub ask_new : s ≡ states.New → (a : Result Bool Stop) (k' : List ℕ)
          → (m < count → kept_summary kept m ≡ none → has_name m busy ≡ false → AskedFor a k' m busy (asking (suc (fuel - 1))))
          → AskedFor a k' m busy (asking fuel)
      ask_new e a k' f = let q = said states.New e in back a k' (f there q.0 q.1)

  -- ---- making it

  module _ (fuel : ℕ) (there : m < count) (new : kept_summary kept m ≡ none) (free : has_name m busy ≡ false) where
    pub not_long : 32768 < length text → asking (suc fuel) ≡ full
    not_long h = let r = reading.accepted text t.formed in let q = r.0 in absurd (omega arith)

    abbrev this : Module
    this = (found text kinds mods count m t there).0

    is_there : get_elem? (decode text) m ≡ some this
    is_there = (found text kinds mods count m t there).1

    low : m < 32
    low = let h = few text kinds mods count t in omega arith

    module _ (r : Named) (names : List ℕ) (are : (x : Module) → ModuleAt text mods m x → NamesAre r names (name_table (own_vals x) x)) where
      tells : (y : Named) → r ≡ y → NamesAre y names (name_table (own_vals this) this)
      tells y e = subst (λ (z : Named). NamesAre z names (name_table (own_vals this) this)) e (are this (module_here text kinds mods count m this t is_there))

      pub make_outside : {z : Outside} → r ≡ Err z → asking (suc fuel) ≡ full
      make_outside {z} e = ask_outside fuel (decode text) busy kept m this is_there new free (is_refused _ (tells (Err z) e).0)

      module _ (used : ℕ) (in_use : r ≡ Ok used) (g₀ own₀ k₁ : List ℕ) (zeros : Stands g₀ [])
          (begun : k₁ ≡ set k m 1)
          (run : Bytes) (runs : run ≡ items_run text mods m) (base : ℕ) (based : base ≡ get_or mods (m * 4 + 2) 0 - 1) (ks : List ℕ) (cut : ks ≡ take 256 (drop (m * 256) kinds)) where
        abbrev world : World
        world = record { header = this.header; items = this.items; state = begin kept; busy = m ∷ busy }

        table_in : (name_table (own_vals this) this).out ≡ false
        table_in = not_refused _ (tells (Ok used) in_use).0

        kinds_told : KindsOf ks this.header
        kinds_told = subst (λ (y : List ℕ). KindsOf y this.header) (sym cut) (kinds_here text kinds mods count m this t is_there)

        run_of : RunOf depth_limit run this.items
        run_of = subst (λ (y : Bytes). RunOf depth_limit y this.items) (sym runs) (run_here text kinds mods count m this t is_there).0

        given : Given (mode false false) text kinds mods count run base 32 ks names used own₀ g₀ k₁ world
        given =
            record {
              tabled = t;
              run = run_of;
              part = subst (λ (y : Bytes). PartOf text base y) (sym runs) (subst (λ (b : ℕ). PartOf text b (items_run text mods m)) (sym based) (run_here text kinds mods count m this t is_there).1);
              told = kinds_told;
              room = (tells (Ok used) in_use).1.1;
              holding = record { owned = tt; stands = zeros; keeps = began keeps m low new begun };
            }

        abbrev walked_by : Names → Got (Walked State)
        walked_by ns = walk_items this.items (line_step (ask_walk fuel (decode text) (m ∷ busy)) (walking false this)) ns round_limit (begin kept)

        module _ (v : Result ℕ Stop) (own' g' k' : List ℕ)
            (ends : (w : World) → Given (mode false false) text kinds mods count run base 32 ks names used own₀ g₀ k₁ w
            → Ends v (mode false false) text own' g' k' w.busy (walk_of fuel text (mode false false) w (names_of names used) 4096)) where
          walks_as : Ends v (mode false false) text own' g' k' (m ∷ busy) (walked_by (name_table (own_vals this) this).names)
          walks_as =
              subst (λ (ns : Names). Ends v (mode false false) text own' g' k' (m ∷ busy) (walked_by ns)) (tells (Ok used) in_use).1.0
              (subst
              (λ (step : Names → Item → State → Got State). Ends v (mode false false) text own' g' k' (m ∷ busy) (walk_items this.items step (names_of names used) 4096 (begin kept)))
              (λ j. λ ns i st. unbound (ask_walk fuel (decode text) (m ∷ busy)) this.header false this.bound ns i st j)
              (ends world given))

          pub make_stops : {f : Stop} → v ≡ Err f → asking (suc fuel) ≡ full
          make_stops e =
              ask_stops fuel (decode text) busy kept m this is_there new free table_in
              (subst (λ (y : Result ℕ Stop). Ends y (mode false false) text own' g' k' (m ∷ busy) (walked_by (name_table (own_vals this) this).names)) e walks_as)

          module _ (l : ℕ) (left : v ≡ Ok l) (b : Bool) (k'' : List ℕ)
              (made : (d : ℕ) (M : Module) (heads : List Head) (kept : Kept) (busy : List ℕ) → RunOf d run M.items → KindsOf ks M.header → Stands g' heads → Keeps k' kept (m ∷ busy) → m < 32
              → has_name m busy ≡ false → Made b k'' m M heads kept busy) where
            ended : Ends (Ok l) (mode false false) text own' g' k' (m ∷ busy) (walked_by (name_table (own_vals this) this).names)
            ended = subst (λ (y : Result ℕ Stop). Ends y (mode false false) text own' g' k' (m ∷ busy) (walked_by (name_table (own_vals this) this).names)) left walks_as

            makes : Made b k'' m this ended.0.heads ended.0.kept busy
            makes = made depth_limit this ended.0.heads ended.0.kept busy run_of kinds_told ended.2.stands ended.2.keeps low free

            pub make_over : b ≡ false → asking (suc fuel) ≡ full
            make_over e =
                ask_over fuel (decode text) busy kept m this is_there new free l ended.0 table_in ended.1
                (subst (λ (c : Bool). Made c k'' m this ended.0.heads ended.0.kept busy) e makes)

            pub make_kept : b ≡ true → AskedFor (Ok true) k'' m busy (asking (suc fuel))
            make_kept e =
                let q = subst (λ (c : Bool). Made c k'' m this ended.0.heads ended.0.kept busy) e makes in
                let s = module_summary this ended.0.heads in (
                  answered s ((m, s) ∷ ended.0.kept),
                  ask_made fuel (decode text) busy kept m this is_there new free l ended.0 table_in ended.1 (le-ltb triple_limit (triples ((m, s) ∷ ended.0.kept)) q.few),
                  kept_pairs q m low s (newest m s ended.0.kept),
                  q,
                  low,
                )
