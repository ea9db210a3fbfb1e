-- The own graph of a key, and what the design opened from it has to do with the own graphs of the keys that it leads to: of every
-- hierarchy, with no text in it. 01: The edge, Rest.
-- To a reader: a statement, `OpenedDesigns`, proved in proofs/Opened.antt. Demand 3 rests on it and does not cite it. `Edge` and `Walks` are
-- definitions to believe for specs/Cuts.antt.
use Rattle.std.specs.Prelude.{◌≡◌, ◌↔◌, List, [], ◌∷◌, ℕ}
use Rattle.std.proofs.Math.Option.{some}
use Rattle.spec.specs.Syntax.{in_kind, reg_kind}
use Rattle.spec.specs.Edge.{Node, signal, inst_out, all_reads}
use Rattle.spec.specs.Graph.{◌∈◌, last}
use Rattle.spec.specs.Net.{ComesToRest}
use Rattle.spec.specs.Hierarchy.{Instance, Hierarchy, WellFormed, Leads, From, Acyclic, Unheaded, OutputsArePorts}
use Rattle.spec.specs.Opened.{Signal, connections_to, HasClosedWalk, OnClosedWalk, IsSignal, Listing, opened_graph, opened_signals, Fixed}

-- 01, The edge: the edges of a key's own graph, as a relation: what is read at the key, and what an instance output reads through the key
-- that its instance opens: the connections to the in-kind names that it reaches there. No list of summaries stands in it. It does not stop
-- at in-kind names, as a summary does; where no line heads an input the two are the same.
mutual
  pub data Edge (H : Hierarchy) : H.Key → Node → Node → Type 0 where
    own : {m : H.Key} {n x : Node} → x ∈ all_reads (H.own m) n → Edge H m n x
    through : {m : H.Key} {y : Node} (i : Instance H.Key) (o p : ℕ) → i ∈ H.inside m → o ∈ H.outs i.target → H.kind i.target p ≡ some in_kind → Walks H i.target (signal o) (signal p) → y ∈ connections_to p i.connections → Edge H m (inst_out i.name i.index o) y

  -- 01, The edge: no edge or more, one behind the other.
  pub data Walks (H : Hierarchy) : H.Key → Node → Node → Type 0 where
    stop : {m : H.Key} {a : Node} → Walks H m a a
    step : {m : H.Key} {a b c : Node} → Edge H m a b → Walks H m b c → Walks H m a c

-- 01, Rest: each next node by an edge.
abbrev pub EdgeChain : (H : Hierarchy) → H.Key → Node → List Node → Type 0
EdgeChain H m n [] = Unit {0}
EdgeChain H m n (n' ∷ l) = Edge H m n n' × EdgeChain H m n' l

-- 01, Rest: a closed walk of a key's own graph.
abbrev pub EdgeLoop : (H : Hierarchy) → H.Key → List Node → Type 0
EdgeLoop H m [] = ⊥
EdgeLoop H m (n ∷ []) = ⊥
EdgeLoop H m (n ∷ n' ∷ l) = EdgeChain H m n (n' ∷ l) × (last n' l ≡ n)

-- 01, Rest: a closed walk of the own graph of a key that m leads to.
abbrev pub LoopFrom : (H : Hierarchy) → H.Key → Type 0
LoopFrom H m = (t : H.Key) × Leads H m t × (v : List Node) × EdgeLoop H t v

-- 01, Rest: of the design opened from m. `shortens`: a closed walk of it gives one of the own graph of a key that m leads to. `lengthens`:
-- and the other way. `shown`: the nodes of a closed walk of m's own graph lie in order on one of the opened design. `listing`, `complete`:
-- its signals are finitely many, with all that they read. `rests`, `restless`: it comes to rest exactly where it has no closed walk.
-- `fixed`: its inputs and all registers read nothing.
pub record OpenedFrom (H : Hierarchy) (m : H.Key) : Type 1 where
  pub shortens : From H (OutputsArePorts H) m → HasClosedWalk H m → LoopFrom H m
  pub lengthens : LoopFrom H m → HasClosedWalk H m
  pub shown : (v : List Node) → EdgeLoop H m v → OnClosedWalk H m v
  pub listing : Acyclic H m → Listing H m (opened_signals H m)
  pub complete : Acyclic H m → (s : Signal) → s ∈ opened_signals H m ↔ IsSignal H m s.0 s.1
  pub rests : ¬ HasClosedWalk H m → (signals : List Signal) (l : Listing H m signals) → ComesToRest (opened_graph H m signals l)
  pub restless : Acyclic H m → HasClosedWalk H m → (l : Listing H m (opened_signals H m)) → ¬ ComesToRest (opened_graph H m (opened_signals H m) l)
  pub fixed : Unheaded H in_kind m → From H (Unheaded H reg_kind) m → Fixed H m

-- 01, Rest: of every hierarchy, from each of its keys on.
abbrev pub OpenedDesigns : Type 1
OpenedDesigns = (H : Hierarchy) → WellFormed H → (m : H.Key) → OpenedFrom H m
