-- What making a summary leaves of any words: one law for each way of the loop over the forms of a run in any bytes.
-- Assumes nothing.
use mathlib.Core.Path.{◌≡◌, refl, sym, ◌∙◌, ap}
use mathlib.Core.Bool.{Bool, true, false}
use mathlib.Core.List.{List, [], ◌∷◌, ◌++◌, append-nil}
use Prim.Native.Nat.{ℕ, zero, suc, ◌+◌, ◌-◌, ◌≤◌, ◌<◌}
use native.Mathlib.Omega.{arith}
use lib.ListN.{length, drop, get_or, set, replicate, get_or-replicate}
use lib.Dec.{ltb}
use borrow.Author.Tests.{lt-ltb, le-ltb}
use Rattle.spec.specs.Bytes.{Bytes}
use Rattle.spec.specs.Syntax.{Header}
use Rattle.spec.specs.Refusal.{has_name}
use Rattle.spec.specs.Edge.{Head, Summary}
use Rattle.lines.specs.Parts.{piece}
use Rattle.runs.specs.Run.{form_length}
use Rattle.graph.specs.Stands.{Stands}
use Rattle.graph.specs.Reach.{Clean, reach_inputs}
use Rattle.edges.specs.Reads.{KindsOf}
use Rattle.std.specs.Prelude.{Option, Some, None}
use Rattle.summary.specs.Keeps.{total_of, recorded}
use Rattle.summary.specs.Pairs.{pairs_written, output_pairs, outputs_pairs, OutputLeaves, PairsOf, port_of, forms_from, name_before, port_names, first_names, outputs_of, run_pairs, Leaves}
use Rattle.summary.proofs.Pairs.{all_then, full_then}
use Rattle.summary.proofs.Making.{mark, clean_start}

forms_more : (n : ℕ) (s : Bytes) (from : ℕ) {end : ℕ} → from + 1 < length s → end ≡ from + 1 + form_length 0 (drop (from + 1) s) → forms_from (suc n) s from ≡ piece s from end ∷ forms_from n s end
unfolding forms_from
forms_more n s from l e = rw (lt-ltb (from + 1) (length s) l, forms_from, e)

forms_none : (n : ℕ) (s : Bytes) (from : ℕ) → length s ≤ from + 1 → forms_from n s from ≡ []
unfolding forms_from
forms_none zero s from l = refl
forms_none (suc n) s from l = rw (le-ltb (from + 1) (length s) l, forms_from)

names_next : (x : Bytes) (xs : List Bytes) (r : Option ℕ) → r ≡ port_of x → port_names (x ∷ xs) ≡ name_before r (port_names xs)
unfolding port_names
names_next x xs r e = rw e

once_seen : (names : List ℕ) (n : ℕ) (l : List ℕ) → has_name n names ≡ true → first_names names (n ∷ l) ≡ first_names names l
unfolding first_names
once_seen names n l e = rw (e, first_names)

once_new : (names : List ℕ) (n : ℕ) (l : List ℕ) → has_name n names ≡ false → first_names names (n ∷ l) ≡ n ∷ first_names (n ∷ names) l
unfolding first_names
once_new names n l e = rw (e, first_names)

pairs_next : (kinds gr : List ℕ) (o : ℕ) (os w : List ℕ) → outputs_pairs kinds gr (o ∷ os) w ≡ output_pairs kinds gr o w ++ outputs_pairs kinds gr os (reach_inputs gr kinds o w).1
unfolding outputs_pairs
pairs_next kinds gr o os w = refl

no_pairs : (kinds gr w : List ℕ) → outputs_pairs kinds gr [] w ≡ []
unfolding outputs_pairs
no_pairs kinds gr w = refl

-- the pairs of outputs, with the work slice of `summarise`
abbrev from_none : (kinds gr : List ℕ) → List ℕ → Summary
from_none kinds gr os = outputs_pairs kinds gr os (replicate 1538 0)

-- where the loop stands: writing here the pairs of the outputs from here on gives what writing the pairs of all outputs gives; and so of the first of
-- them alone, and what is known of their pairs is known of all up to there
pub record Turning (s : Bytes) (kinds gr : List ℕ) (from : ℕ) (k₀ k seen w : List ℕ) : Type 0 where
  pub fuel : ℕ
  pub enough : length s ≤ from + fuel
  pub names : List ℕ
  pub marked : (n : ℕ) → n < 256 → has_name n names ≡ ltb 0 (get_or seen n 0)
  pub clean : (header : List Header) (heads : List Head) → KindsOf kinds header → Stands gr heads → Clean w
  pub rest : pairs_written (run_pairs s kinds gr) k₀ ≡ pairs_written (outputs_pairs kinds gr (first_names names (port_names (forms_from fuel s from))) w) k
  pub known : (os later : List ℕ) → first_names names (port_names (forms_from fuel s from)) ≡ os ++ later → PairsOf kinds gr os (outputs_pairs kinds gr os w)
      → (all : List ℕ) × (outputs_of s ≡ all ++ later) × PairsOf kinds gr all (from_none kinds gr all) × (pairs_written (from_none kinds gr all) k₀ ≡ pairs_written (outputs_pairs kinds gr os w) k)

pub turning_start : (s : Bytes) (kinds gr k : List ℕ) {seen w : List ℕ} → seen ≡ replicate 256 0 → w ≡ replicate 1538 0 → Turning s kinds gr 0 k k seen w
unfolding has_name outputs_of run_pairs
turning_start s kinds gr k q qw = record {
  fuel = length s;
  enough = omega arith;
  names = [];
  marked = λ n l. rw (q, get_or-replicate {A = ℕ} 256 n 0 0 l);
  clean = λ header heads h st. clean_start qw;
  rest = ap (λ (z : List ℕ). pairs_written (outputs_pairs kinds gr (outputs_of s) z) k) (sym qw);
  known = λ os later e h. (os, e, rw qw at h, ap (λ (z : List ℕ). pairs_written (outputs_pairs kinds gr os z) k) (sym qw));
}

module _ {s : Bytes} {kinds gr : List ℕ} {from : ℕ} {k₀ k seen w : List ℕ} (g : Turning s kinds gr from k₀ k seen w) where
  -- what is still to come, named otherwise
  onward : {os : List ℕ} → first_names g.names (port_names (forms_from g.fuel s from)) ≡ os → pairs_written (run_pairs s kinds gr) k₀ ≡ pairs_written (outputs_pairs kinds gr os w) k
  onward e = g.rest ∙ ap (λ (z : List ℕ). pairs_written (outputs_pairs kinds gr z w) k) e

  -- all forms are done
  turning_end : length s ≤ from + 1 → pairs_written (run_pairs s kinds gr) k₀ ≡ (true, k)
  unfolding first_names port_names pairs_written outputs_pairs
  turning_end l = onward (ap (λ (z : List Bytes). first_names g.names (port_names z)) (forms_none g.fuel s from l))

  known_end : length s ≤ from + 1 → PairsOf kinds gr (outputs_of s) (run_pairs s kinds gr)
  unfolding first_names port_names run_pairs
  known_end l =
      let t = g.known [] [] (ap (λ (z : List Bytes). first_names g.names (port_names z)) (forms_none g.fuel s from l)) (no_pairs kinds gr w) in
      let a : outputs_of s ≡ t.0 = t.1 ∙ append-nil t.0 in
      rw a t.2

  pub leaves_kept : length s ≤ from + 1 → (m : ℕ) {start end : ℕ} → start ≡ total_of k₀ → end ≡ total_of k → {k' : List ℕ} → k' ≡ recorded k m start (end - start) → Leaves true s kinds gr k₀ m k'
  leaves_kept l m a b q =
      let t = turning_end l in (
        ap (λ (z : Bool × List ℕ). z.0) t,
        q ∙ rw (a, b) (ap (λ (z : Bool × List ℕ). recorded z.1 m (total_of k₀) (total_of z.1 - total_of k₀)) (sym t)),
        known_end l,
      )

  module _ (l : from + 1 < length s) {end : ℕ} (qe : end ≡ from + 1 + form_length 0 (drop (from + 1) s)) {x : Bytes} (qx : x ≡ piece s from end) (r : Option ℕ) (told : r ≡ port_of x) where
    abbrev left : ℕ
    left = g.fuel - 1

    abbrev later : List ℕ
    later = port_names (forms_from left s end)

    names_here : port_names (forms_from g.fuel s from) ≡ name_before r later
    names_here =
        let f : g.fuel ≡ suc left = omega (arith, g.enough) in
        ap (λ (n : ℕ). port_names (forms_from n s from)) f ∙ ap port_names (forms_more left s from l qe) ∙ names_next (piece s from end) (forms_from left s end) r (told ∙ ap port_of qx)

    still : length s ≤ end + left
    still = omega (arith, g.enough)

    -- a form that is no output
    pub turning_other : r ≡ None → Turning s kinds gr end k₀ k seen w
    turning_other e =
        let t : port_names (forms_from g.fuel s from) ≡ later = names_here ∙ ap (λ (z : Option ℕ). name_before z later) e in
        record { fuel = left; enough = still; names = g.names; marked = g.marked; clean = g.clean; rest = onward (ap (first_names g.names) t); known = λ os after a h. g.known os after (ap (first_names g.names) t ∙ a) h }

    module _ {o : ℕ} (e : r ≡ Some o) (small : o < 256) where
      next : port_names (forms_from g.fuel s from) ≡ o ∷ later
      next = names_here ∙ ap (λ (z : Option ℕ). name_before z later) e

      -- a second line of an output
      pub turning_seen : ¬ (get_or seen o 0 ≡ 0) → Turning s kinds gr end k₀ k seen w
      turning_seen b =
          let n : has_name o g.names ≡ true = g.marked o small ∙ lt-ltb 0 (get_or seen o 0) (omega arith) in
          let t : first_names g.names (port_names (forms_from g.fuel s from)) ≡ first_names g.names later = ap (first_names g.names) next ∙ once_seen g.names o later n in
          record { fuel = left; enough = still; names = g.names; marked = g.marked; clean = g.clean; rest = onward t; known = λ os after a h. g.known os after (t ∙ a) h }

      -- the first line of an output
      module _ (b : get_or seen o 0 ≡ 0) where
        first : first_names g.names (port_names (forms_from g.fuel s from)) ≡ o ∷ first_names (o ∷ g.names) later
        first = ap (first_names g.names) next ∙ once_new g.names o later (g.marked o small ∙ le-ltb 0 (get_or seen o 0) (omega arith))

        abbrev after : List ℕ
        after = first_names (o ∷ g.names) later

        here : pairs_written (run_pairs s kinds gr) k₀ ≡ pairs_written (output_pairs kinds gr o w ++ outputs_pairs kinds gr after (reach_inputs gr kinds o w).1) k
        here = onward first ∙ ap (λ (z : Summary). pairs_written z k) (pairs_next kinds gr o after w)

        -- what is known of the pairs of the outputs behind this one, and of this one
        module _ {w' k' : List ℕ} {v : Bool} (a : OutputLeaves v kinds gr w w' k o k') where
          both : (os : List ℕ) → outputs_pairs kinds gr (o ∷ os) w ≡ output_pairs kinds gr o w ++ outputs_pairs kinds gr os w'
          both os = pairs_next kinds gr o os w ∙ ap (λ (x : List ℕ). output_pairs kinds gr o w ++ outputs_pairs kinds gr os x) (sym a.0)

          with_this : (os : List ℕ) → PairsOf kinds gr os (outputs_pairs kinds gr os w') → PairsOf kinds gr (o ∷ os) (outputs_pairs kinds gr (o ∷ os) w)
          with_this os h =
              let n = a.2 in (
                n.0,
                outputs_pairs kinds gr os w',
                n.1,
                λ header heads hk st. (n.2 header heads hk st (g.clean header heads hk st)).0,
                h,
                both os ∙ ap (λ (z : Summary). z ++ outputs_pairs kinds gr os w') n.3,
              )

        pub turning_new : length seen ≡ 256 → {seen' : List ℕ} → seen' ≡ set seen o 1 → {w' k' : List ℕ} {v : Bool} → v ≡ true → OutputLeaves v kinds gr w w' k o k' → Turning s kinds gr end k₀ k' seen' w'
        turning_new z q {w' = w'} {k' = k'} v a =
            record {
              fuel = left;
              enough = still;
              names = o ∷ g.names;
              marked = mark seen g.names o z small q g.marked;
              clean = λ header heads hk st. (a.2.2 header heads hk st (g.clean header heads hk st)).1;
              rest =
                  here ∙ all_then (outputs_pairs kinds gr after (reach_inputs gr kinds o w).1) (output_pairs kinds gr o w) k a.1 v
                  ∙ ap (λ (x : List ℕ). pairs_written (outputs_pairs kinds gr after x) k') (sym a.0);
              known = λ os more c h.
                  let t = g.known (o ∷ os) more (first ∙ ap (λ (x : List ℕ). o ∷ x) c) (with_this a os h) in
                  (t.0, t.1, t.2, t.3 ∙ ap (λ (z : Summary). pairs_written z k) (both a os) ∙ all_then (outputs_pairs kinds gr os w') (output_pairs kinds gr o w) k a.1 v);
            }

        -- an output that does not fit: of all pairs not all are written
        pub leaves_full : (m : ℕ) {k' w' u : List ℕ} {v : Bool} → v ≡ false → OutputLeaves v kinds gr w w' k o u → k' ≡ replicate (length k₀) 0 → Leaves false s kinds gr k₀ m k'
        leaves_full m {w' = w'} {u = u} v a q =
            let t = g.known (o ∷ []) after first (with_this a [] (no_pairs kinds gr w')) in (
              ap (λ (z : Bool × List ℕ). z.0) (here ∙ full_then (outputs_pairs kinds gr after (reach_inputs gr kinds o w).1) (output_pairs kinds gr o w) k a.1 v),
              q,
              (
                from_none kinds gr t.0,
                u,
                (t.0, after, t.1, t.2),
                t.3 ∙ ap (λ (z : Summary). pairs_written z k) (both a []) ∙ full_then (outputs_pairs kinds gr [] w') (output_pairs kinds gr o w) k a.1 v,
              ),
            )
