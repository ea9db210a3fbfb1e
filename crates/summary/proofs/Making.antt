-- Making a summary: going through the items of a module, one law for each way of the loop.
-- Assumes nothing.
use mathlib.Core.Path.{◌≡◌, refl, sym, ◌∙◌, ap}
use mathlib.Core.Bool.{Bool, true, false, true≢false}
use mathlib.Core.List.{List, [], ◌∷◌, ◌++◌, append-nil, append_assoc}
use Prim.Native.Nat.{ℕ, zero, suc, ◌+◌, ◌-◌, ◌≤◌, ◌<◌}
use native.Mathlib.Omega.{arith}
use lib.ListN.{length, drop, get_or, set, replicate, length-append, length-drop, length-replicate, get_or-replicate}
use lib.Seq.{get_or-set_same, get_or-set_other}
use lib.Dec.{eqb, ltb}
use borrow.Author.Tests.{eqb-true, eqb-false, eq-eqb, ne_eqb, lt-ltb, le-ltb}
use Rattle.spec.specs.Bytes.{Bytes}
use Rattle.spec.specs.Syntax.{Width, Item, Items, port, output, Header, Module}
use Rattle.spec.specs.Refusal.{has_name}
use Rattle.spec.specs.Site.{Output, line_outputs, first_lines}
use Rattle.spec.specs.Edge.{Head, Summary}
use Rattle.spec.specs.Summary.{Kept, triples, is_input, inputs_reached, paired, top_outputs, module_summary}
use Rattle.spec.proofs.Numbers.{if_case}
use Rattle.lines.specs.Parts.{piece}
use Rattle.runs.specs.Run.{form_length, ShowsItem, RunOf}
use Rattle.runs.proofs.Items.{item_end, FirstOf, first_of_run, end_of_run}
use Rattle.graph.specs.Stands.{Stands}
use Rattle.graph.specs.Reach.{found, Clean, KindsAre, Inputs, reach_inputs}
use Rattle.graph.proofs.Lifted.{reached_once}
use Rattle.edges.specs.Reads.{kind_word, KindsOf}
use Rattle.walk.specs.Alike.{Alike}
use Rattle.walk.proofs.Alike.{finds_alike, reach_by, Finds}
use Rattle.std.specs.Prelude.{Option, Some, None}
use Rattle.summary.specs.Keeps.{total_of, Keeps, recorded, Made}
use Rattle.summary.specs.Pairs.{Grown, pairs_written, output_pairs, OutputLeaves, Added, Reaching, OutputAdded, PortIs}
use Rattle.summary.proofs.Table.{name_first, name_other}
use Rattle.summary.proofs.Pairs.{below_length, grown_none, keeps_one}

-- ---- the inputs that an output reaches

-- what the table of kinds says of inputs
kind_input : (b : ℕ) → is_input (kind_word b) ≡ eqb b 1
kind_input zero = refl
kind_input (suc zero) = refl
kind_input (suc (suc zero)) = refl
kind_input (suc (suc (suc zero))) = refl
kind_input (suc (suc (suc (suc zero)))) = refl
kind_input (suc (suc (suc (suc (suc zero))))) = refl
kind_input (suc (suc (suc (suc (suc (suc b)))))) = sym (ne_eqb (suc (suc (suc (suc (suc (suc b)))))) 1 (λ e. omega arith))

kinds_inputs : (kinds : List ℕ) (header : List Header) → KindsOf kinds header → KindsAre kinds header
kinds_inputs kinds header h n = ap is_input (sym (h n)) ∙ kind_input (get_or kinds n 0)

-- `add_output`
pub output_added : (kinds g w w' : List ℕ) (n o : ℕ) (r : Bool)
    → ((header : List Header) (heads : List Head) → Stands g heads → KindsAre kinds header → Clean w → Inputs header heads o w' n)
    → (k k' : List ℕ) → ((k₀ : List ℕ) (ps : Summary) → Grown k₀ k ps → Added r k₀ k' ps (paired o (found w' n)))
    → (header : List Header) (heads : List Head) → KindsOf kinds header → Stands g heads → Clean w → (k₀ : List ℕ) (ps : Summary) → Grown k₀ k ps → OutputAdded r w' k₀ k' ps header heads o
output_added kinds g w w' n o r reach k k' push header heads h st c k₀ ps gr =
    let i = reach header heads st (kinds_inputs kinds header h) c in
    record {
      clean = i.clean;
      inputs = found w' n;
      reaching = record { once = i.once; found = λ j m. (i.names j).0 m; all = λ j m. (i.names j).1 m };
      added = push k₀ ps gr;
    }

-- `add_output`, whatever the words are
module _ (kinds g w w' : List ℕ) (n o : ℕ) (q : (n, w') ≡ reach_inputs g kinds o w) where
  pairs_there : output_pairs kinds g o w ≡ paired o (found w' n)
  unfolding output_pairs
  pairs_there = ap (λ (z : ℕ × List ℕ). paired o (found z.1 z.0)) (sym q)

  pub output_leaves : ((header : List Header) (heads : List Head) → Stands g heads → KindsAre kinds header → Clean w → Inputs header heads o w' n)
      → {r : Bool} (k : List ℕ) {k' : List ℕ} → n ≤ 512 → pairs_written (paired o (found w' n)) k ≡ (r, k') → OutputLeaves r kinds g w w' k o k'
  output_leaves reach k l e = (
    ap (λ (z : ℕ × List ℕ). z.1) q,
    ap (λ (z : Summary). pairs_written z k) pairs_there ∙ e,
    (
      found w' n,
      omega (arith, l, below_length w' 1026 n),
      λ header heads h st c. let i = reach header heads st (kinds_inputs kinds header h) c in (record { once = i.once; found = λ j m. (i.names j).0 m; all = λ j m. (i.names j).1 m }, i.clean),
      pairs_there,
    ),
  )

-- ---- what is found for each output, with one output more

module _ (f : ℕ → List ℕ) (o : ℕ) (l : List ℕ) where
  abbrev with_one : ℕ → List ℕ
  with_one n = elim (eqb n o) [ true ↦ l | false ↦ f n ]

  with_here : with_one o ≡ l
  with_here = rw (eq-eqb o o refl, with_one)

  with_other : (n : ℕ) → ¬ (n ≡ o) → with_one n ≡ f n
  with_other n d = rw (ne_eqb n o d, with_one)

  finds_one : (header : List Header) (heads : List Head) → Finds f header heads → Reaching header heads o l → Finds with_one header heads
  finds_one header heads h r = record { once = λ n. (each n).once; found = λ n. (each n).found; all = λ n. (each n).all }
    where
      each : (n : ℕ) → Reaching header heads n (with_one n)
      each n =
          if_case (Reaching header heads n) (eqb n o) l (f n)
          (λ e. rw (eqb-true n o e) r)
          (λ e. record { once = h.once n; found = h.found n; all = h.all n })

-- the outputs that are done have their names among these
abbrev Listed : List ℕ → List Output → Type 0
Listed names [] = Unit {0}
Listed names (p ∷ ps) = (has_name p.name names ≡ true) × Listed names ps

apart : (names : List ℕ) (n o : ℕ) → has_name n names ≡ true → has_name o names ≡ false → ¬ (n ≡ o)
apart names n o a b e = true≢false (sym a ∙ ap (λ (z : ℕ). has_name z names) e ∙ b)

reach_same : (f : ℕ → List ℕ) (o : ℕ) (l : List ℕ) (names : List ℕ) → has_name o names ≡ false → (ps : List Output) → Listed names ps → reach_by (with_one f o l) ps ≡ reach_by f ps
unfolding reach_by
reach_same f o l names b [] h = refl
reach_same f o l names b (p ∷ ps) h = rw (with_other f o l p.name (apart names p.name o h.0 b), reach_same f o l names b ps h.1)

reach_append : (f : ℕ → List ℕ) (ps qs : List Output) → reach_by f (ps ++ qs) ≡ reach_by f ps ++ reach_by f qs
unfolding reach_by
reach_append f [] qs = refl
reach_append f (p ∷ ps) qs = rw (reach_append f ps qs) (sym (append_assoc (paired p.name (f p.name)) (reach_by f ps) (reach_by f qs)))

reach_one : (f : ℕ → List ℕ) (p : Output) → reach_by f (p ∷ []) ≡ paired p.name (f p.name)
unfolding reach_by
reach_one f p = append-nil (paired p.name (f p.name))

listed_more : (names : List ℕ) (o : ℕ) (ps : List Output) → has_name o names ≡ false → Listed names ps → Listed (o ∷ names) ps
listed_more names o [] b h = tt
listed_more names o (p ∷ ps) b h = (name_other p.name o names (apart names p.name o h.0 b) ∙ h.0, listed_more names o ps b h.1)

listed_last : (names : List ℕ) (ps : List Output) (p : Output) → has_name p.name names ≡ true → Listed names ps → Listed names (ps ++ p ∷ [])
listed_last names [] p b h = (b, tt)
listed_last names (q ∷ ps) p b h = (h.0, listed_last names ps p b h.1)

-- ---- the outputs of the items

pub line : ℕ → Width → ℕ → Output
line n w start = record { name = n; width = w; start = start }

skip_other : (i : Item) (is : Items) → line_outputs i ≡ [] → top_outputs (Items.more i is) ≡ top_outputs is
unfolding top_outputs
skip_other i is e = rw e

next_output : (n : ℕ) (w : Width) (start : ℕ) (is : Items) → top_outputs (Items.more (port output n w start) is) ≡ line n w start ∷ top_outputs is
unfolding top_outputs line_outputs line
next_output n w start is = refl

skip_seen : (seen : List ℕ) (o : Output) (os : List Output) → has_name o.name seen ≡ true → first_lines seen (o ∷ os) ≡ first_lines seen os
unfolding first_lines
skip_seen seen o os e = rw (e, first_lines)

take_new : (seen : List ℕ) (o : Output) (os : List Output) → has_name o.name seen ≡ false → first_lines seen (o ∷ os) ≡ o ∷ first_lines (o.name ∷ seen) os
unfolding first_lines
take_new seen o os e = rw (e, first_lines)

-- ---- where the loop stands

-- a form ends inside the slice
form_le : (k : ℕ) (t : Bytes) → form_length k t ≤ length t
unfolding form_length
form_le k [] = omega arith
form_le k (c ∷ t) = go (eqb c 40) (eqb c 41) k (λ j. form_le j t)
  where
    go : (p q : Bool) (k : ℕ) → ((j : ℕ) → form_length j t ≤ length t)
        → elim p as (λ _. ℕ) [
          | true ↦ suc (form_length (suc k) t)
          | false ↦ elim q as (λ _. ℕ) [ true ↦ elim k as (λ _. ℕ) [ zero ↦ 1 | suc j ↦ elim j as (λ _. ℕ) [ zero ↦ 1 | suc i ↦ suc (form_length (suc i) t) ] ] | false ↦ suc (form_length k t) ]
        ] ≤ suc (length t)
    go true q k f = omega (arith, f (suc k))
    go false true zero f = omega arith
    go false true (suc zero) f = omega arith
    go false true (suc (suc i)) f = omega (arith, f (suc i))
    go false false k f = omega (arith, f k)

pub end_after : (s : Bytes) (from : ℕ) {end : ℕ} → from + 1 < length s → end ≡ from + 1 + form_length 0 (drop (from + 1) s) → (from < end) × (end ≤ length s)
end_after s from l e = let h = form_le 0 (drop (from + 1) s) in let n = length-drop (from + 1) s in (omega arith, omega arith)

pub record Going (d : ℕ) (s : Bytes) (from : ℕ) (M : Module) (heads : List Head) (k₀ k seen w : List ℕ) : Type 0 where
  pub rest : Items
  pub run : RunOf d (drop from s) rest
  pub clean : Clean w
  pub names : List ℕ
  pub marked : (n : ℕ) → n < 256 → has_name n names ≡ ltb 0 (get_or seen n 0)
  pub done : List Output
  pub listed : Listed names done
  pub f : ℕ → List ℕ
  pub finds : Finds f M.header heads
  pub grown : Grown k₀ k (reach_by f done)
  pub whole : first_lines [] (top_outputs M.items) ≡ done ++ first_lines names (top_outputs rest)

-- no node is marked before the first search
pub clean_start : {w : List ℕ} → w ≡ replicate 1538 0 → Clean w
clean_start q = rw q (record { sized = omega (arith, length-replicate {A = ℕ} 1538 0); unmarked = λ t l. get_or-replicate {A = ℕ} 1538 (2 + t) 0 0 (omega arith) })

-- before the first item
pub going_start : (d : ℕ) (s : Bytes) (M : Module) (heads : List Head) (k : List ℕ) (m : ℕ) (kept : Kept) (busy : List ℕ) {seen w : List ℕ} → seen ≡ replicate 256 0 → w ≡ replicate 1538 0
    → RunOf d s M.items → Keeps k kept (m ∷ busy) → Going d s 0 M heads k k seen w
unfolding has_name reach_by
going_start d s M heads k m kept busy {seen} {w} qs qw r h =
    record {
      rest = M.items;
      run = r;
      clean = clean_start qw;
      names = [];
      marked = λ n l. rw (qs, get_or-replicate {A = ℕ} 256 n 0 0 l);
      done = [];
      listed = tt;
      f = inputs_reached M.header heads;
      finds = record { once = reached_once M.header heads; found = λ o i x. x; all = λ o i x. x };
      grown = grown_none k h.sized (omega (arith, h.total, h.few));
      whole = refl;
    }

-- a mark more
pub mark : (seen names : List ℕ) (o : ℕ) → length seen ≡ 256 → o < 256 → {seen' : List ℕ} → seen' ≡ set seen o 1
    → ((n : ℕ) → n < 256 → has_name n names ≡ ltb 0 (get_or seen n 0)) → (n : ℕ) → n < 256 → has_name n (o ∷ names) ≡ ltb 0 (get_or seen' n 0)
mark seen names o z l q h n b = rw q (go (eqb n o) refl)
  where
    go : (v : Bool) → eqb n o ≡ v → has_name n (o ∷ names) ≡ ltb 0 (get_or (set seen o 1) n 0)
    go true e = rw (eqb-true n o e) (name_first o names ∙ sym (ap (ltb 0) (get_or-set_same seen o 1 0 (omega arith))))
    go false e =
        let d : ¬ (n ≡ o) = eqb-false n o e in
        name_other n o names d ∙ h n b ∙ sym (ap (ltb 0) (get_or-set_other seen o n 1 0 d))

module _ {d : ℕ} {s : Bytes} {from : ℕ} {M : Module} {heads : List Head} {k₀ k seen w : List ℕ} (g : Going d s from M heads k₀ k seen w) where
  -- through
  pub going_end : length s ≤ from + 1 → first_lines [] (top_outputs M.items) ≡ g.done
  unfolding top_outputs first_lines
  going_end l = g.whole ∙ ap (λ (is : Items). g.done ++ first_lines g.names (top_outputs is)) (end_of_run d s from g.rest g.run l) ∙ append-nil g.done

  module _ (l : from + 1 < length s) where
    first : FirstOf d s from g.rest
    first = first_of_run d s from g.rest g.run l

    module _ {end : ℕ} (qe : end ≡ from + 1 + form_length 0 (drop (from + 1) s)) where
      at_end : end ≡ item_end s from
      unfolding item_end
      at_end = qe

      onward : RunOf d (drop end s) first.rest
      onward = rw at_end first.onward

      module _ {x : Bytes} (qx : x ≡ piece s from end) (r : Option ℕ) (told : (i : Item) (e : ℕ) → ShowsItem x e i → PortIs r i) where
        shows : ShowsItem x d first.item
        shows = rw (qx ∙ ap (piece s from) at_end) first.shows

        -- an item that is no output
        pub going_other : r ≡ None → Going d s end M heads k₀ k seen w
        going_other e =
            let p : PortIs None first.item = rw e at (told first.item d shows) in
            record {
              rest = first.rest;
              run = onward;
              clean = g.clean;
              names = g.names;
              marked = g.marked;
              done = g.done;
              listed = g.listed;
              f = g.f;
              finds = g.finds;
              grown = g.grown;
              whole = g.whole ∙ ap (λ (is : Items). g.done ++ first_lines g.names (top_outputs is)) first.whole ∙ ap (λ (z : List Output). g.done ++ first_lines g.names z) (skip_other first.item first.rest p);
            }

        module _ {o : ℕ} (e : r ≡ Some o) (small : o < 256) where
          told_out : PortIs (Some o) first.item
          told_out = rw e at (told first.item d shows)

          this : Output
          this = line o told_out.0 told_out.1

          this_name : this.name ≡ o
          unfolding this line
          this_name = refl

          outputs : first_lines [] (top_outputs M.items) ≡ g.done ++ first_lines g.names (this ∷ top_outputs first.rest)
          unfolding this
          outputs =
              g.whole ∙ ap (λ (is : Items). g.done ++ first_lines g.names (top_outputs is)) (first.whole ∙ ap (λ (i : Item). Items.more i first.rest) told_out.2)
              ∙ ap (λ (z : List Output). g.done ++ first_lines g.names z) (next_output o told_out.0 told_out.1 first.rest)

          -- a second line of an output
          pub going_seen : ¬ (get_or seen o 0 ≡ 0) → Going d s end M heads k₀ k seen w
          going_seen b =
              let n : has_name this.name g.names ≡ true = rw this_name (g.marked o small ∙ lt-ltb 0 (get_or seen o 0) (omega arith)) in
              record {
                rest = first.rest;
                run = onward;
                clean = g.clean;
                names = g.names;
                marked = g.marked;
                done = g.done;
                listed = g.listed;
                f = g.f;
                finds = g.finds;
                grown = g.grown;
                whole = outputs ∙ ap (λ (z : List Output). g.done ++ z) (skip_seen g.names this (top_outputs first.rest) n);
              }

          -- the first line of an output
          module _ (b : get_or seen o 0 ≡ 0) where
            not_named : has_name o g.names ≡ false
            not_named = g.marked o small ∙ le-ltb 0 (get_or seen o 0) (omega arith)

            new_whole : first_lines [] (top_outputs M.items) ≡ (g.done ++ this ∷ []) ++ first_lines (o ∷ g.names) (top_outputs first.rest)
            new_whole =
                outputs
                ∙ ap (λ (z : List Output). g.done ++ z) (take_new g.names this (top_outputs first.rest) (rw this_name not_named) ∙ ap (λ (n : ℕ). this ∷ first_lines (n ∷ g.names) (top_outputs first.rest)) this_name)
                ∙ sym (append_assoc g.done (this ∷ []) (first_lines (o ∷ g.names) (top_outputs first.rest)))

            module _ (is : List ℕ) (reaching : Reaching M.header heads o is) where
              now_found : ℕ → List ℕ
              now_found = with_one g.f o is

              now_finds : Finds now_found M.header heads
              unfolding now_found
              now_finds = finds_one g.f o is M.header heads g.finds reaching

              now_reach : reach_by now_found (g.done ++ this ∷ []) ≡ reach_by g.f g.done ++ paired o is
              unfolding now_found
              now_reach =
                  reach_append now_found g.done (this ∷ [])
                  ∙ rw (reach_same g.f o is g.names not_named g.done g.listed, reach_one now_found this, this_name, with_here g.f o is)

            pub going_new : length seen ≡ 256 → {seen' : List ℕ} → seen' ≡ set seen o 1 → {k' w' : List ℕ} {v : Bool} → v ≡ true → OutputAdded v w' k₀ k' (reach_by g.f g.done) M.header heads o
                → Going d s end M heads k₀ k' seen' w'
            going_new z q v added =
                let a = rw v at added in
                record {
                  rest = first.rest;
                  run = onward;
                  clean = a.clean;
                  names = o ∷ g.names;
                  marked = mark seen g.names o z small q g.marked;
                  done = g.done ++ this ∷ [];
                  listed = listed_last (o ∷ g.names) g.done this (rw this_name (name_first o g.names)) (listed_more g.names o g.done not_named g.listed);
                  f = now_found a.inputs a.reaching;
                  finds = now_finds a.inputs a.reaching;
                  grown = rw (now_reach a.inputs a.reaching) a.added;
                  whole = new_whole;
                }

            pub going_full : {k' w' : List ℕ} {v : Bool} → v ≡ false → OutputAdded v w' k₀ k' (reach_by g.f g.done) M.header heads o
                → (m : ℕ) (kept : Kept) (busy : List ℕ) → Keeps k₀ kept (m ∷ busy) → Made false k' m M heads kept busy
            unfolding triples
            going_full v added m kept busy h =
                let a = rw v at added in
                let f = now_found a.inputs a.reaching in
                let more = first_lines (o ∷ g.names) (top_outputs first.rest) in
                let size = (finds_alike M heads f (now_finds a.inputs a.reaching)).size in
                let all : reach_by f (first_lines [] (top_outputs M.items)) ≡ (reach_by g.f g.done ++ paired o a.inputs) ++ reach_by f more =
                ap (reach_by f) new_whole ∙ reach_append f (g.done ++ this ∷ []) more ∙ ap (λ (z : Summary). z ++ reach_by f more) (now_reach a.inputs a.reaching) in
                let long = ap length all in
                let both = length-append (reach_by g.f g.done ++ paired o a.inputs) (reach_by f more) in
                lt-ltb 1024 (length (module_summary M heads) + triples kept) (omega (arith, a.added, h.total))

  -- all items are done
  pub going_kept : length s ≤ from + 1 → (m : ℕ) → m < 32 → (kept : Kept) (busy : List ℕ) → Keeps k₀ kept (m ∷ busy) → has_name m busy ≡ false → {start end : ℕ} → start ≡ total_of k₀ → end ≡ total_of k
      → {k' : List ℕ} → k' ≡ recorded k m start (end - start) → Made true k' m M heads kept busy
  going_kept l m small kept busy h free {start} {end} qs qe {k'} q =
      let a : Alike (reach_by g.f g.done) (module_summary M heads) = rw (going_end l) at (finds_alike M heads g.f g.finds) in
      let p : k' ≡ recorded k m (total_of k₀) (end - start) = q ∙ ap (λ (z : ℕ). recorded k m z (end - start)) qs in
      keeps_one m small h g.grown a free (omega arith) p
