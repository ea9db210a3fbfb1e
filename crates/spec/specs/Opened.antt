-- The design opened from a key of a hierarchy: its copies and signals, what each signal reads, the walks on which a loop report's nodes lie,
-- and the opened design as a graph. 01: The edge, the opened design, Rest.
-- To a reader: definitions to believe; the list `opened_signals` is pinned by a theorem, which says that it has exactly the signals
-- (`complete` of `Signals` below, part of demand 3). What stands between `same_copy` and `opened_signals`, `key_of` apart, serves that list.
use Rattle.std.specs.Prelude.{◌≡◌, ◌↔◌, ◌⊎◌, Bool, true, false, ◌&&◌, List, [], ◌∷◌, ◌++◌, map, ℕ, zero, suc, eqb, ℤ}
use Rattle.std.proofs.Math.Option.{Option, some, none}
use Rattle.spec.specs.Syntax.{in_kind, reg_kind}
use Rattle.spec.specs.DepthFirst.{each_once}
use Rattle.spec.specs.Edge.{Node, signal, inst_out, same_index, same_node, Head, all_nodes, all_reads}
use Rattle.spec.specs.Summary.{is_input}
use Rattle.spec.specs.Graph.{◌∈◌, Once, ClosedWalk, Graph}
use Rattle.spec.specs.Hierarchy.{Connection, Instance, Hierarchy, instance_at, ReadAt}

-- ---- copies, signals, reads

-- 01, the opened design: a copy: the positions of the instance lines that lead to it, outermost first.
abbrev pub Copy : Type 0
Copy = List ℕ

-- 01, the opened design: a signal: a node of a copy.
abbrev pub Signal : Type 0
Signal = Copy × Node

-- 01, the opened design: a node of the opened module itself.
abbrev pub here : Node → Signal
here n = ([], n)

-- 01, the opened design: a signal of a copy that the opened module has at position k.
abbrev pub under : ℕ → Signal → Signal
under k s = (k ∷ s.0, s.1)

-- 01, the opened design: what the connections to an input read.
unfoldable pub connections_to : ℕ → List Connection → List Node
connections_to n [] = []
connections_to n (f ∷ fs) = elim (eqb n f.port) [ true ↦ f.nodes ++ connections_to n fs | false ↦ connections_to n fs ]

module _ {Key : Type 0} where
  -- 01, the opened design: the positions of the instances with this name and index.
  unfoldable pub named : ℕ → Option ℤ → List (Instance Key) → List ℕ
  named j x [] = []
  named j x (i ∷ is) = elim (eqb j i.name && same_index x i.index) [ true ↦ i.position ∷ named j x is | false ↦ named j x is ]

  -- 01, the opened design: an instance output reads that output in every copy with its name and index.
  unfoldable pub output_reads : List (Instance Key) → Node → List Signal
  output_reads is (signal n) = []
  output_reads is (inst_out j x o) = map (λ k. (k ∷ [], signal o)) (named j x is)

module _ (H : Hierarchy) where
  -- 01, the opened design: a copy's in-kind name reads what its connections read.
  unfoldable pub input_reads : Instance H.Key → Copy → Node → List Node
  input_reads i [] (signal n) = elim (is_input (H.kind i.target n)) [ true ↦ connections_to n i.connections | false ↦ [] ]
  input_reads i [] (inst_out j x o) = []
  input_reads i (k ∷ p) n = []

  -- 01, the opened design: what a signal reads in the design opened from m: what its lines read, what an instance output reads, and in a
  -- copy likewise.
  unfoldable pub opened_reads : H.Key → Copy → Node → List Signal
  opened_reads m [] n = map here (all_reads (H.own m) n) ++ output_reads (H.inside m) n
  opened_reads m (k ∷ p) n =
      elim (instance_at k (H.inside m)) [
        | none ↦ []
        | some i ↦ map here (input_reads i p n) ++ map (under k) (opened_reads i.target p n)
      ]

  -- 01, the opened design: the same, of a signal.
  abbrev pub signal_reads : H.Key → Signal → List Signal
  signal_reads m s = opened_reads m s.0 s.1

  -- 01, Rest: the opened design has a closed walk.
  abbrev pub HasClosedWalk : H.Key → Type 0
  HasClosedWalk m = (w : List Signal) × ClosedWalk (signal_reads m) w

-- ---- reports on walks

module _ (H : Hierarchy) where
  -- 01, Rest: between neighbours lie at most, after an instance output, nodes of its copies and theirs.
  abbrev pub Between : H.Key → Node → List Signal → Type 0
  Between m (signal n) between = between ≡ []
  Between m (inst_out j x o) between = (s : Signal) → s ∈ between → (k : ℕ) × (p : Copy) × (k ∈ named j x (H.inside m)) × (s.0 ≡ k ∷ p)

  -- 01, Rest: behind the node n the walk w comes by these nodes of the opened module, in order, and ends at the last.
  abbrev pub ComesBy : H.Key → Node → List Node → List Signal → Type 0
  ComesBy m n [] w = w ≡ []
  ComesBy m n (n' ∷ l) w = (between : List Signal) × (on : List Signal) × (w ≡ between ++ here n' ∷ on) × Between m n between × ComesBy m n' l on

  -- 01, Rest: a loop report's nodes lie in order on a closed walk of the design opened from its key: the walk, and that it comes by them.
  abbrev pub OnClosedWalk : H.Key → List Node → Type 0
  OnClosedWalk m [] = ⊥
  OnClosedWalk m (n ∷ l) = (w : List Signal) × ClosedWalk (signal_reads H m) (here n ∷ w) × ComesBy m n l w

-- ---- all its nodes

-- 01, the opened design: all its nodes, at one key: what a line heads; what is read; each instance's outputs; the inputs. Decision: an
-- instance line heads all top-level outputs of its module, not only those in its summary, for an opened design has no summaries.
pub data NodeAt (H : Hierarchy) (m : H.Key) (n : Node) : Type 0 where
  headed : (h : Head) → h ∈ H.own m → n ≡ h.node → NodeAt H m n
  read : ReadAt H m n → NodeAt H m n
  output : (i : Instance H.Key) (o : ℕ) → i ∈ H.inside m → o ∈ H.outs i.target → n ≡ inst_out i.name i.index o → NodeAt H m n
  input : (p : ℕ) → p ∈ H.inputs m → n ≡ signal p → NodeAt H m n

module _ (H : Hierarchy) where
  -- 01, the opened design: an instance output that is a node reads that output of the copy.
  abbrev pub OutputRead : H.Key → Instance H.Key → Copy → Node → Type 0
  OutputRead m i [] n = (o : ℕ) × (n ≡ signal o) × NodeAt H m (inst_out i.name i.index o)
  OutputRead m i (k ∷ p) n = ⊥

  -- 01, the opened design: all its nodes: those of the opened module; in each copy those of its module, and the outputs that instance
  -- outputs read.
  abbrev pub IsSignal : H.Key → Copy → Node → Type 0
  IsSignal m [] n = NodeAt H m n
  IsSignal m (k ∷ p) n = (i : Instance H.Key) × (i ∈ H.inside m) × (i.position ≡ k) × (IsSignal i.target p n ⊎ OutputRead m i p n)

-- ---- its signals, listed

-- 01, Rest: signals of an opened design, listed once each, with all that they read.
pub record Listing (H : Hierarchy) (m : H.Key) (signals : List Signal) : Type 0 where
  pub same : (s t : Signal) → Dec (s ≡ t)
  pub once : Once signals
  pub closed : (s r : Signal) → s ∈ signals → r ∈ signal_reads H m s → r ∈ signals

-- 01, Rest: an opened design as a graph of signals.
abbrev pub opened_graph : (H : Hierarchy) (m : H.Key) (signals : List Signal) → Listing H m signals → Graph
opened_graph H m signals l =
    record { Signal = Signal; same = l.same; signals = signals; once = l.once; reads = signal_reads H m; closed = l.closed }

-- 01, the opened design: the same copy.
unfoldable pub same_copy : Copy → Copy → Bool
same_copy [] [] = true
same_copy [] (k ∷ q) = false
same_copy (j ∷ p) [] = false
same_copy (j ∷ p) (k ∷ q) = eqb j k && same_copy p q

-- 01, the opened design: the same signal.
abbrev pub same_signal : Signal → Signal → Bool
same_signal s t = same_copy s.0 t.0 && same_node s.1 t.1

-- 01, the opened design: what f gives of each member, one behind the other.
unfoldable pub concat_map : {A B : Type 0} → (A → List B) → List A → List B
concat_map f [] = []
concat_map f (a ∷ l) = f a ++ concat_map f l

module _ (H : Hierarchy) where
  -- 01, the opened design: every copy, the opened module itself first; `fuel` is above the depth of instances.
  unfoldable pub copies : ℕ → H.Key → List Copy
  copies zero m = []
  copies (suc fuel) m = [] ∷ concat_map (λ i. map (λ p. i.position ∷ p) (copies fuel i.target)) (H.inside m)

  -- 01, the opened design: the key that a copy is of.
  unfoldable pub key_of : H.Key → Copy → H.Key
  key_of m [] = m
  key_of m (k ∷ p) = elim (instance_at k (H.inside m)) [ none ↦ m | some i ↦ key_of i.target p ]

  -- 01, the opened design: what a connection to an in-kind name of a key reads.
  unfoldable pub input_nodes : H.Key → Connection → List Node
  input_nodes t c = elim (is_input (H.kind t c.port)) [ true ↦ c.nodes | false ↦ [] ]

  -- 01, the opened design: what connections read at a key.
  unfoldable pub connected_nodes : H.Key → List Node
  connected_nodes m = concat_map (λ i. concat_map (input_nodes i.target) i.connections) (H.inside m)

  -- 01, the opened design: what instance lines head at a key.
  unfoldable pub output_nodes : H.Key → List Node
  output_nodes m = concat_map (λ i. map (inst_out i.name i.index) (H.outs i.target)) (H.inside m)

  -- 01, the opened design: all its nodes, at one key.
  unfoldable pub key_nodes : H.Key → List Node
  key_nodes m = all_nodes (H.own m) ++ (connected_nodes m ++ (output_nodes m ++ map signal (H.inputs m)))

  -- 01, the opened design: the nodes of a copy, each with what it reads.
  unfoldable pub copy_signals : H.Key → Copy → List Signal
  copy_signals m p = concat_map (λ n. (p, n) ∷ opened_reads H m p n) (key_nodes (key_of m p))

  -- 01, the opened design: all its nodes are its signals. Where no module contains itself no copy is deeper than there are modules.
  unfoldable pub opened_signals : H.Key → List Signal
  opened_signals m = each_once same_signal (concat_map (copy_signals m) (copies (suc H.modules) m))

-- 01, Rest: the opened module's inputs and all registers are fixed in the functions: they read nothing, so that their function is a
-- constant.
pub record Fixed (H : Hierarchy) (m : H.Key) : Type 0 where
  pub inputs : (n : ℕ) → H.kind m n ≡ some in_kind → signal_reads H m (here (signal n)) ≡ []
  pub registers : (p : Copy) (n : ℕ) → H.kind (key_of H m p) n ≡ some reg_kind → signal_reads H m (p, signal n) ≡ []

-- 01, the opened design, Rest: what is said of the signals of the design opened from m. `listing`: the list names each once and has all that
-- its members read. `complete`: it has all the nodes of the opened design and no others. `fixed`: inputs and registers are.
pub record Signals (H : Hierarchy) (m : H.Key) : Type 0 where
  pub listing : Listing H m (opened_signals H m)
  pub complete : (s : Signal) → s ∈ opened_signals H m ↔ IsSignal H m s.0 s.1
  pub fixed : Fixed H m
