-- The design opened from a key: a closed walk of it is a closed walk of the own graph of a key that it leads to, and the other way; its
-- signals are listed; it rests; inputs and registers are fixed.
-- Assumes nothing.
use mathlib.Core.Path.{◌≡◌, refl, ap, ap₂}
use mathlib.Core.List.Memᴰ
use mathlib.Core.List.{List, [], ◌∷◌, ◌++◌, map}
use mathlib.Core.Option.{Option, some, none}
use Prim.Native.Nat.{ℕ}
use Rattle.spec.specs.Syntax.{Kind, in_kind, reg_kind}
use Rattle.spec.specs.Edge.{Node, signal, all_reads}
use Rattle.spec.specs.Graph.{◌∈◌}
use Rattle.spec.specs.Net.{ComesToRest}
use Rattle.spec.specs.Hierarchy.{Instance, Hierarchy, instance_at, Acyclic, Unheaded, From, WellFormed}
use Rattle.spec.specs.Opened.{Copy, Signal, here, under, output_reads, input_reads, opened_reads, signal_reads, key_of, opened_signals, HasClosedWalk, Listing, opened_graph}
use Rattle.spec.specs.OwnGraph.{OpenedDesigns}
use Rattle.spec.proofs.Nodes.{read_by}
use Rattle.spec.proofs.Copies.{at_in, leads_here, from_inside}
use Rattle.spec.proofs.Net.{comes_to_rest}
use Rattle.spec.proofs.Restless.{restless}
use Rattle.spec.proofs.Shorten.{closed_shortens}
use Rattle.spec.proofs.Lengthen
use Rattle.spec.proofs.Listed.{signals_listed, signals_complete, walk_listed}

-- where no module contains itself, a closed walk lies among its listed signals, so that it does not come to rest
walk_restless : (H : Hierarchy) (L : WellFormed H) (m : H.Key) → Acyclic H m → HasClosedWalk H m → (l : Listing H m (opened_signals H m)) → ¬ ComesToRest (opened_graph H m (opened_signals H m) l)
walk_restless H L m acyclic ([], c) l = absurd c
walk_restless H L m acyclic (s ∷ [], c) l = absurd c
walk_restless H L m acyclic (s ∷ t ∷ w, c) l = restless (opened_graph H m (opened_signals H m) l) (record { start = s; listed = walk_listed H L m acyclic s t w c; second = t; rest = w; walk = c })

no_member : {A : Type 0} (l : List A) → ((a : A) → ¬ (a ∈ l)) → l ≡ []
no_member [] h = refl
no_member (a ∷ l) h = absurd (h a (Memᴰ.head refl))

module _ (H : Hierarchy) where
  -- a name of a kind that nothing heads reads nothing at its own level
  own_reads_none : (k : Kind) (m : H.Key) → Unheaded H k m → (n : ℕ) → H.kind m n ≡ some k → signal_reads H m (here (signal n)) ≡ []
  unfolding opened_reads output_reads
  own_reads_none k m u n e =
      let f = no_member (all_reads (H.own m) (signal n)) (λ x i. let (h, j, g, v) = read_by (H.own m) (signal n) i in u h j n g e) in
      ap (λ (l : List Node). map here l ++ output_reads (H.inside m) (signal n)) f

  -- a register's connections are none
  unwired : (n : ℕ) (i : Instance H.Key) (p : Copy) → H.kind (key_of H i.target p) n ≡ some reg_kind → input_reads H i p (signal n) ≡ []
  unfolding input_reads key_of
  unwired n i [] e = rw (e, input_reads)
  unwired n i (k ∷ p) e = refl

  registers_read_none : (m : H.Key) → From H (Unheaded H reg_kind) m → (p : Copy) (n : ℕ) → H.kind (key_of H m p) n ≡ some reg_kind → opened_reads H m p (signal n) ≡ []
  unfolding opened_reads key_of
  registers_read_none m u [] n e = own_reads_none reg_kind m (u m (leads_here H m)) n e
  registers_read_none m u (k ∷ p) n e = go (λ i a. registers_read_none i.target (from_inside H (Unheaded H reg_kind) m i (at_in H m k a) u) p n) (instance_at k (H.inside m)) refl e
    where
      go : ((i : Instance H.Key) → instance_at k (H.inside m) ≡ some i → H.kind (key_of H i.target p) n ≡ some reg_kind → opened_reads H i.target p (signal n) ≡ []) → (o : Option (Instance H.Key))
          → instance_at k (H.inside m) ≡ o → H.kind (elim o as (λ z. H.Key) [ none ↦ m | some i ↦ key_of H i.target p ]) n ≡ some reg_kind
          → ◌≡◌ {A = List Signal}
          (elim o as (λ z. List Signal) [ none ↦ [] | some i ↦ map here (input_reads H i p (signal n)) ++ map (under k) (opened_reads H i.target p (signal n)) ])
          []
      go deeper none a f = refl
      go deeper (some i) a f = ap₂ (λ a b. map here a ++ map (under k) b) (unwired n i p f) (deeper i a f)

-- The theorem, of every hierarchy, from each of its keys on.
pub opened : OpenedDesigns
opened H L m = record {
  shortens = λ outputs w. closed_shortens H L m outputs w.0 w.1;
  lengthens = λ l. Lengthen.loops_leads H L m l.0 l.1 (Lengthen.module_to_opened H L l.0 l.2 l.3);
  shown = Lengthen.loop_shown H L m;
  listing = signals_listed H L m;
  complete = signals_complete H L m;
  rests = λ none signals l. comes_to_rest (opened_graph H m signals l) (λ c. none (c.start ∷ c.second ∷ c.rest, c.walk));
  restless = walk_restless H L m;
  fixed = λ inputs registers. record { inputs = own_reads_none H in_kind m inputs; registers = registers_read_none H m registers };
}
