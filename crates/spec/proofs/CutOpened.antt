-- Opened designs with reads taken away: where no final step of a loop report is left in an own graph they have no closed walk and rest.
-- Assumes nothing.
use mathlib.Core.Path.{◌≡◌, refl, sym, ◌∙◌, ap, subst, subst⁻¹}
use mathlib.Core.Bool.{Bool, true, false, true≢false, ◌&&◌}
use mathlib.Core.List.Memᴰ
use mathlib.Core.List.{List, [], ◌∷◌, map}
use mathlib.Core.Option.{Option, some, none, some-injective, none-ne-some}
use Prim.Native.Nat.{ℕ, ◌<◌}
use lib.ListN.{get_elem?}
use lib.Dec.{eqb}
use lib.IntN.{ℤ}
use borrow.Author.Tests.{eq-eqb}
use Rattle.spec.specs.Syntax.{Kind, in_kind, reg_kind, Module, Design}
use Rattle.spec.specs.Edge.{Node, signal, inst_out, same_index, same_node, Head, all_reads}
use Rattle.spec.specs.Graph.{◌∈◌, last}
use Rattle.spec.specs.DepthFirstFinds.{same_step, cut}
use Rattle.spec.specs.Meaning.{heads_at}
use Rattle.spec.specs.Hierarchy.{Connection, Instance, Hierarchy, WellFormed, ReadAt, by_line, by_connection, instance_at, targets, Leads, From, ModuleChain, Acyclic, Unheaded, FixedUnheaded, OutputsArePorts, PremisesFrom}
use Rattle.spec.specs.Opened.{connections_to, HasClosedWalk, Fixed}
use Rattle.spec.specs.OwnGraph.{Edge, own, through, Walks, stop, step, EdgeLoop, OpenedFrom}
use Rattle.spec.specs.DesignHierarchy.{hierarchy}
use Rattle.spec.specs.Cuts.{head_without, connection_without, instance_without, without_reads, reported_finals, FinalsCut, RestsAfterCut, OpenedCut, goes_through, cut_lines, cut_connections, AtConnections}
use Rattle.spec.proofs.Flags.{or_left, or_right}
use Rattle.spec.proofs.HeadLaws.{in_first}
use Rattle.spec.proofs.Lists.{among_no}
use Rattle.spec.proofs.FinalSteps.{removed, step_yes, step_refl, in_cut}
use Rattle.spec.proofs.Walks.{chain_along}
use Rattle.spec.proofs.Nodes.{same_index_refl, same_node_yes, same_node_refl, read_by, reads_all}
use Rattle.spec.proofs.Copies.{signal_is_no_out, in_targets, of_targets, fed_by, fed_in, leads_here}
use Rattle.spec.proofs.WellFormed.{design_well_formed}
use Rattle.spec.proofs.CheckEdge.{Good, loop_walk, no_edge_missing}
use Rattle.spec.proofs.OwnGraphReports.{edge_searched, good_leads}
use Rattle.spec.proofs.Opened.{opened}
use Rattle.spec.proofs.Cuts.{design_cuts}

-- ---- lines, connections, instances

-- what is still read by lines was read, and was not taken away
heads_less : (away : Node → Node → Bool) (hs : List Head) (n x : Node) → x ∈ all_reads (map (head_without away) hs) n → (x ∈ all_reads hs n) × (away n x ≡ false)
heads_less away hs n x i =
    let (g, j, e, u) = read_by (map (head_without away) hs) n i in
    let (h, k, f) = Memᴰ.of_map (head_without away) hs j in
    let at : h.node ≡ n = ap (λ (z : Head). z.node) f ∙ e in
    let (v, b) = (removed (away h.node) h.reads x).0 (subst⁻¹ (λ (z : Head). x ∈ z.reads) f u) in
    (reads_all hs n k at v, ap (λ z. away z x) (sym at) ∙ b)

-- and by connections
connections_less : (away : ℕ → Node → Bool) (p : ℕ) (y : Node) (cs : List Connection) → y ∈ connections_to p (map (connection_without away) cs) → (y ∈ connections_to p cs) × (away p y ≡ false)
connections_less away p y cs i =
    let (g, j, e, u) = fed_by p y (map (connection_without away) cs) i in
    let (c, k, f) = Memᴰ.of_map (connection_without away) cs j in
    let at : c.port ≡ p = ap (λ (z : Connection). z.port) f ∙ e in
    let (v, b) = (removed (away c.port) c.nodes y).0 (subst⁻¹ (λ (z : Connection). y ∈ z.nodes) f u) in
    (fed_in p y cs (c, k, at, v), ap (λ z. away z y) (sym at) ∙ b)

-- instances stand where they stood
instance_less : {Key : Type 0} (away : Instance Key → ℕ → Node → Bool) (k : ℕ) (is : List (Instance Key)) (i : Instance Key) → instance_at k is ≡ some i → instance_at k (map (instance_without away) is) ≡ some (instance_without away i)
unfolding instance_at
instance_less away k [] i e = absurd (none-ne-some i e)
instance_less {Key} away k (j ∷ is) i e = go (eqb j.position k) refl e (instance_less away k is i)
  where
    go : (b : Bool) → eqb j.position k ≡ b → elim b as (λ z. Option (Instance Key)) [ true ↦ some j | false ↦ instance_at k is ] ≡ some i
        → (instance_at k is ≡ some i → instance_at k (map (instance_without away) is) ≡ some (instance_without away i))
        → instance_at k (map (instance_without away) (j ∷ is)) ≡ some (instance_without away i)
    go true h e on = rw (h, instance_at) (ap (λ z. some (instance_without away z)) (some-injective j i e))
    go false h e on = rw (h, instance_at) (on e)

-- ---- hierarchies

module _ (H : Hierarchy) (of_lines : H.Key → Node → Node → Bool) (of_connections : H.Key → Instance H.Key → ℕ → Node → Bool) where
  -- the same with reads taken away
  abbrev C : Hierarchy
  C = without_reads H of_lines of_connections

  -- an instance is one of those before
  abbrev Before : H.Key → Instance H.Key → Type 0
  Before m j = (i : Instance H.Key) × (i ∈ H.inside m) × (instance_without (of_connections m) i ≡ j)

  before : (m : H.Key) (j : Instance H.Key) → j ∈ C.inside m → Before m j
  before m j u = Memᴰ.of_map (instance_without (of_connections m)) (H.inside m) u

  same_target : {m : H.Key} {j : Instance H.Key} (b : Before m j) → b.0.target ≡ j.target
  same_target b = ap (λ (z : Instance H.Key). z.target) b.2

  well_formed_less : WellFormed H → WellFormed C
  well_formed_less L = record {
    placed = λ m j u.
        let (i, v, e) = before m j u in
        subst (λ (z : Instance H.Key). instance_at z.position (C.inside m) ≡ some z) e (instance_less (of_connections m) i.position (H.inside m) i (L.placed m i v));
    below = λ m j u. let b = before m j u in subst (λ t. H.module_at t < H.modules) (same_target b) (L.below m b.0 b.1);
    listed = L.listed;
  }

  -- what is read was read
  read_less : (m : H.Key) (n : Node) → ReadAt C m n → ReadAt H m n
  read_less m n (by_line h i u) =
      let (g, j, e) = Memᴰ.of_map (head_without (of_lines m)) (H.own m) i in
      by_line g j ((removed (of_lines m g.node) g.reads n).0 (subst⁻¹ (λ (z : Head). n ∈ z.reads) e u)).0
  read_less m n (by_connection i c u v k w) =
      let (j, p, e) = before m i u in
      let (b, q, f) = Memᴰ.of_map (connection_without (of_connections m j)) j.connections (subst⁻¹ (λ (z : Instance H.Key). c ∈ z.connections) e v) in
      by_connection j b p q
      (ap (H.kind j.target) (ap (λ (z : Connection). z.port) f) ∙ subst⁻¹ (λ (z : Instance H.Key). H.kind z.target c.port ≡ some in_kind) e k)
      ((removed (of_connections m j b.port) b.nodes n).0 (subst⁻¹ (λ (z : Connection). n ∈ z.nodes) f w)).0

  -- and what is led to is led to
  target_less : (m t : H.Key) → t ∈ targets C m → t ∈ targets H m
  target_less m t i =
      let (j, u, e) = of_targets (C.inside m) t i in
      let b = before m j u in
      Memᴰ.cast (e ∙ sym (same_target b)) (in_targets b.1)

  leads_less : (m t : H.Key) → Leads C m t → Leads H m t
  leads_less m t (l, c, e) = (l, chain_along (targets C) (targets H) target_less m l c, e)

  from_less : (P Q : H.Key → Type 0) → ((t : H.Key) → P t → Q t) → (m : H.Key) → From H P m → From C Q m
  from_less P Q h m f t r = h t (f t (leads_less m t r))

  -- so the premises stay
  module_chain_less : (m : H.Key) (l : List H.Key) → ModuleChain C m l → ModuleChain H m l
  module_chain_less m [] c = tt
  module_chain_less m (t ∷ l) ((k, e, u), c) = ((k, e, target_less k t u), module_chain_less t l c)

  acyclic_less : (m : H.Key) → Acyclic H m → Acyclic C m
  acyclic_less m a l c (t, k, d, e) = a l (module_chain_less m l c) (t, k, module_chain_less (last m l) (t ∷ k) d, e)

  unheaded_less : (k : Kind) (m : H.Key) → Unheaded H k m → Unheaded C k m
  unheaded_less k m u h i n e =
      let (g, j, f) = Memᴰ.of_map (head_without (of_lines m)) (H.own m) i in
      u g j n (ap (λ (z : Head). z.node) f ∙ e)

  ports_less : (m : H.Key) → OutputsArePorts H m → OutputsArePorts C m
  ports_less m p j o u r =
      let (i, v, e) = before m j u in
      subst (λ (z : Instance H.Key). o ∈ H.outs z.target) e
      (p i o v (read_less m (inst_out i.name i.index o) (subst⁻¹ (λ (z : Instance H.Key). ReadAt C m (inst_out z.name z.index o)) e r)))

  -- an edge was an edge
  through_less : (m : H.Key) (j : Instance H.Key) (o p : ℕ) (y : Node) → Before m j → o ∈ H.outs j.target → H.kind j.target p ≡ some in_kind → Walks H j.target (signal o) (signal p)
      → y ∈ connections_to p j.connections → Edge H m (inst_out j.name j.index o) y
  through_less m j o p y (i, u, e) = subst Through e (λ a k w c. through i o p u a k w (connections_less (of_connections m i) p y i.connections c).0)
    where
      Through : Instance H.Key → Type 0
      Through z = o ∈ H.outs z.target → H.kind z.target p ≡ some in_kind → Walks H z.target (signal o) (signal p) → y ∈ connections_to p z.connections → Edge H m (inst_out z.name z.index o) y

  edge_less : (m : H.Key) (a b : Node) → Edge C m a b → Edge H m a b
  edge_less m a b e =
      elim e as (λ m a b e. Edge H m a b) (λ m a b w. Walks H m a b) [
        | own {m} {n} {x} h ↦ own (heads_less (of_lines m) (H.own m) n x h).0
        | through {m} {y} i o p u t kind (w → l) h ↦ through_less m i o p y (before m i u) t kind l h
        | stop {m} {a} ↦ stop
        | step {m} {a} {b} {c} (h → g) (w → l) ↦ step g l
      ]

-- ---- designs

module _ (d : Design) (of_lines : ℕ → Node → Node → Bool) (of_connections : ℕ → Instance ℕ → ℕ → Node → Bool) where
  -- a design's, with reads taken away
  abbrev D : Hierarchy
  D = without_reads (hierarchy d) of_lines of_connections

  -- without the final steps of its reports a module has no edges that lead back
  module _ (t : ℕ) (good : Good d t) (off : (u v : Node) → (u, v) ∈ reported_finals d t → ¬ Edge D t u v) where
    was_edge : (n x : Node) → Edge D t n x → Edge (hierarchy d) t n x
    was_edge = edge_less (hierarchy d) of_lines of_connections t

    no_edges_back : (o : Option Module) → get_elem? d t ≡ o → (v : List Node) → ¬ EdgeLoop D t v
    no_edges_back none e [] l = l
    no_edges_back none e (n ∷ []) l = l
    no_edges_back none e (n ∷ x ∷ v) l = no_edge_missing d t e n x (was_edge n x l.0.0)
    no_edges_back (some k) e v l =
        (design_cuts d t k e).none_left v
        (loop_walk D t (cut same_node (reported_finals d t) (all_reads (heads_at d t k)))
        (λ n x h. (in_cut same_node same_node_yes same_node_refl (reported_finals d t) (all_reads (heads_at d t k)) n x).1 (edge_searched d t good k e n x (was_edge n x h), λ i. off n x i h)) v l)

  module _ (m : ℕ) (p : PremisesFrom (hierarchy d) m) (off : FinalsCut d m of_lines of_connections) where
    from : OpenedFrom D m
    from = opened D (well_formed_less (hierarchy d) of_lines of_connections (design_well_formed d)) m

    acyclic : Acyclic D m
    acyclic = acyclic_less (hierarchy d) of_lines of_connections m p.acyclic

    no_walk : ¬ HasClosedWalk D m
    no_walk w =
        let (t, r, v, l) = from.shortens (from_less (hierarchy d) of_lines of_connections (OutputsArePorts (hierarchy d)) (OutputsArePorts D) (ports_less (hierarchy d) of_lines of_connections) m p.outputs_are_ports) w in
        let r' = leads_less (hierarchy d) of_lines of_connections m t r in
        no_edges_back t (good_leads d m t r' (p.acyclic, λ t r. (p.fixed_unheaded t r).0)) (off t r') (get_elem? d t) refl v l

    fixed : Fixed D m
    fixed =
        from.fixed (unheaded_less (hierarchy d) of_lines of_connections in_kind m (p.fixed_unheaded m (leads_here (hierarchy d) m)).0)
        (from_less (hierarchy d) of_lines of_connections (FixedUnheaded (hierarchy d)) (Unheaded D reg_kind) (λ t f. unheaded_less (hierarchy d) of_lines of_connections reg_kind t f.1) m p.fixed_unheaded)

    rests_less : RestsAfterCut D m
    rests_less = record { no_walk = no_walk; signals = record { listing = from.listing acyclic; complete = from.complete acyclic; fixed = fixed }; rests = from.rests no_walk }

-- The theorem of opened designs.
pub opened_cut : OpenedCut
opened_cut d m p of_lines of_connections off = rests_less d of_lines of_connections m p off

-- ---- at connections

-- a step from an output of the instances with a name and index goes through them
goes : (steps : List (Node × Node)) (j : ℕ) (x : Option ℤ) (o : ℕ) (y : Node) → (inst_out j x o, y) ∈ steps → goes_through steps j x y ≡ true
unfolding goes_through
goes [] j x o y i = absurd (Memᴰ.not-nil i)
goes ((signal n, v) ∷ steps) j x o y i = in_first (λ e. absurd (signal_is_no_out (ap (λ (z : Node × Node). z.0) (sym e)))) (λ k. goes steps j x o y k) i
goes ((inst_out j' x' o', v) ∷ steps) j x o y i =
    in_first (λ e. or_left (passes (inst_out j' x' o', v)) (goes_through steps j x y) (subst (λ z. passes z ≡ true) e self))
    (λ k. or_right (passes (inst_out j' x' o', v)) (goes_through steps j x y) (goes steps j x o y k)) i
  where
    passes : Node × Node → Bool
    passes (signal n, v) = false
    passes (inst_out j' x' o, v) = eqb j j' && same_index x x' && same_node y v

    self : passes (inst_out j x o, y) ≡ true
    self = rw (eq-eqb j j refl, same_index_refl x, same_node_refl y)

-- The theorem of a cut at connections.
pub at_connections : AtConnections
at_connections d m p = opened_cut d m p (cut_lines d) (cut_connections d) (λ t r. cut_edge t)
  where
    cut_edge : (t : ℕ) (u v : Node) → (u, v) ∈ reported_finals d t → ¬ Edge (without_reads (hierarchy d) (cut_lines d) (cut_connections d)) t u v
    cut_edge t u v i (own h) =
        among_no (same_step same_node) (step_yes same_node same_node_yes same_node_refl) (step_refl same_node same_node_yes same_node_refl) (u, v) (reported_finals d t) (heads_less (cut_lines d t) ((hierarchy d).own t) u v h).1 i
    cut_edge t u v i (through j o q k a b w c) =
        let (z, g, e) = before (hierarchy d) (cut_lines d) (cut_connections d) t j k in
        let gone = (connections_less (cut_connections d t z) q v z.connections (subst⁻¹ (λ (x : Instance ℕ). v ∈ connections_to q x.connections) e c)).1 in
        true≢false (sym (goes (reported_finals d t) z.name z.index o v (subst⁻¹ (λ (x : Instance ℕ). (inst_out x.name x.index o, v) ∈ reported_finals d t) e i)) ∙ gone)
