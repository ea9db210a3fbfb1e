-- The graph that the check searches is the relation Edge: what a module's heads read, with plain summaries, are its edges, and so its
-- search reports nothing exactly where no edges lead back, and reports edge loops. This asks something only of what the module leads to.
-- Assumes nothing.
use mathlib.Core.Path.{◌≡◌, refl, sym, ◌∙◌, ap, subst, subst⁻¹, subst₂}
use mathlib.Core.Logic.{◌⊎◌, inl, inr, ⊎_elim, ◌↔◌}
use mathlib.Core.Option.{Option, some, none}
use mathlib.Core.List.Memᴰ
use mathlib.Core.List.{List, [], ◌∷◌}
use Prim.Native.Nat.{ℕ, zero, suc}
use lib.ListN.{length, get_elem?}
use Rattle.spec.specs.Syntax.{Kind, in_kind, Expr, LValue, Inst, Item, port, wire, reg, mem, const, drive, on, inst, repeat, const_if, Header, Module, Design}
use Rattle.spec.specs.Value.{Names}
use Rattle.spec.specs.Collect.{Collected}
use Rattle.spec.specs.Site.{kind_of, Driving, an_output, a_wire, a_reg, a_mem, nothing, driving}
use Rattle.spec.specs.Edge.{Node, signal, inst_out, Reads, expr_reads, Head, Heads, no_heads, Summary, drive_heads, output_heads, inst_edges, line_heads, inst_of, index_of, place_value, all_reads}
use Rattle.spec.specs.Summary.{is_input, onward, Kept, module_heads}
use Rattle.spec.specs.FindCycles.{next_nodes, find_cycles}
use Rattle.spec.specs.Graph.{◌∈◌, Chain, last, ClosedWalk}
use Rattle.spec.specs.DepthFirstFinds.{Reached}
use Rattle.spec.specs.Hierarchy.{Instance, Hierarchy, Acyclic, Unheaded, From}
use Rattle.spec.specs.Opened.{connections_to}
use Rattle.spec.specs.DesignHierarchy.{lines_of, header_of, line_instance_at, instances, own_heads, lines_own_heads, out_names, hierarchy}
use Rattle.spec.specs.Premises.{NotWired}
use Rattle.spec.specs.Summaries.{summary_for, heads_by, own_graph, summary_to, plain_summary, plain_heads, PlainTable}
use Rattle.spec.proofs.Numbers.{if_case}
use Rattle.spec.proofs.Nodes.{read_by, reads_all, next_read, read_next, read_reads_of}
use Rattle.spec.proofs.CyclesFound.{cycles_found}
use Rattle.spec.proofs.HeadLaws.{headed_by, by_headed, own_headed, headed_own, line_or_inst, inst_no_own, reads_to, conn_read, read_conn, output_head, head_output, instance_origin, origin_instance}
use Rattle.spec.proofs.Summaries.{summaries, header_at, outputs_at, instances_missing, input_is, signal_same, signal_not_out, onward_reads, to_missing, to_own, of_summary}
use Rattle.spec.proofs.Copies.{in_targets, leads_here, from_inside}
use Rattle.spec.proofs.Acyclic.{acyclic_step}
use Rattle.spec.specs.OwnGraph.{Edge, own, through, Walks, stop, step, EdgeChain, EdgeLoop}

-- what an instance line heads
inst_heads : (s : ℕ → Summary) (hs : List Header) (names : Names) (i : Inst)
    → line_heads hs names (summary_for s (inst_of (inst i))) (inst i) ≡ output_heads hs names i (index_of (place_value names i.place)) (s i.«module») (s i.«module»)
unfolding line_heads inst_edges inst_of summary_for
inst_heads s hs names i = refl

-- a read through an instance: a pair of its module's summary, and a connection to the input of that pair
record Through (s : ℕ → Summary) (d : Design) (m : ℕ) (n x : Node) : Type 0 where
  instance : Instance ℕ
  out : ℕ
  input : ℕ
  listed : instance ∈ instances d m
  pair : (out, input) ∈ s instance.target
  node : inst_out instance.name instance.index out ≡ n
  read : x ∈ connections_to input instance.connections

module _ (s : ℕ → Summary) (d : Design) (missing : (m : ℕ) → get_elem? d m ≡ none → s m ≡ []) (m : ℕ) where
  -- the pair and the connection behind a head of an instance line
  abbrev Behind : Inst → Names → Node → Node → Type 0
  Behind i names n x =
      (o : ℕ) × (p : ℕ) × ((o, p) ∈ s i.«module») × (inst_out i.name (index_of (place_value names i.place)) o ≡ n) × (x ∈ reads_to (header_of d m) names p i.conns)

  behind : (n x : Node) (names : Names) (i : Inst) (h : Head) → h.node ≡ n → x ∈ h.reads
      → h ∈ (line_heads (header_of d m) names (summary_for s (inst_of (inst i))) (inst i)).heads → Behind i names n x
  behind n x names i h f g t =
      let t' = subst (λ (z : Heads). h ∈ z.heads) (inst_heads s (header_of d m) names i) t in
      let r = output_head (header_of d m) names i (index_of (place_value names i.place)) (s i.«module») (s i.«module») h t' in
      let q = conn_read (header_of d m) names (s i.«module») r.0 i.conns x (subst (λ z. x ∈ z) r.1.1 g) in
      (r.0, q.0, q.1, sym r.1.0 ∙ f, q.2)

  inst_read : (n x : Node) (c : Collected) (i : Inst) → c ∈ lines_of d m → c.item ≡ inst i → Behind i c.names n x → Through s d m n x
  inst_read n x c i l e (o, p, a, b, r) = go (get_elem? d i.«module») refl
    where
      go : (z : Option Module) → get_elem? d i.«module» ≡ z → Through s d m n x
      go none f = absurd (Memᴰ.not-nil (subst (λ z. (o, p) ∈ z) (missing i.«module» f) a))
      go (some k) f =
          let (j, u) = origin_instance d m c i k l e f in
          record { instance = line_instance_at (header_of d m) j i c.names i.«module»; out = o; input = p; listed = u; pair = a; node = b; read = r }

  -- what the own graph reads: what own heads read, or what is read through an instance
  graph_reads : (n x : Node) → x ∈ all_reads (own_graph s d m) n → (x ∈ all_reads (own_heads d m) n) ⊎ Through s d m n x
  unfolding own_graph own_heads
  graph_reads n x l =
      let r = read_by (heads_by s (header_of d m) (lines_of d m)) n l in
      let c = headed_by s (header_of d m) (lines_of d m) r.0 r.1 in
      go r.0 c.0 r.2 r.3 c.1 c.2 (line_or_inst (header_of d m) c.0.names c.0.item)
    where
      go : (h : Head) (c : Collected) → h.node ≡ n → x ∈ h.reads → c ∈ lines_of d m → h ∈ (line_heads (header_of d m) c.names (summary_for s (inst_of c.item)) c.item).heads
          → ((t : Summary) → line_heads (header_of d m) c.names t c.item ≡ line_heads (header_of d m) c.names [] c.item) ⊎ ((i : Inst) × (c.item ≡ inst i))
          → (x ∈ all_reads (lines_own_heads (header_of d m) (lines_of d m)) n) ⊎ Through s d m n x
      go h c f g j t (inl same) =
          inl (reads_all (lines_own_heads (header_of d m) (lines_of d m)) n (headed_own (header_of d m) (lines_of d m) c h j (subst (λ (z : Heads). h ∈ z.heads) (same (summary_for s (inst_of c.item))) t)) f g)
      go h c f g j t (inr (i, e)) =
          inr (inst_read n x c i j e (behind n x c.names i h f g (subst (λ z. h ∈ (line_heads (header_of d m) c.names (summary_for s (inst_of z)) z).heads) e t)))

  own_read : (n x : Node) → x ∈ all_reads (own_heads d m) n → x ∈ all_reads (own_graph s d m) n
  unfolding own_graph own_heads
  own_read n x l =
      let r = read_by (lines_own_heads (header_of d m) (lines_of d m)) n l in
      let c = own_headed (header_of d m) (lines_of d m) r.0 r.1 in
      reads_all (heads_by s (header_of d m) (lines_of d m)) n
      (by_headed s (header_of d m) (lines_of d m) c.0 r.0 c.1 (go r.0 c.0 c.2 (line_or_inst (header_of d m) c.0.names c.0.item))) r.2 r.3
    where
      go : (h : Head) (c : Collected) → h ∈ (line_heads (header_of d m) c.names [] c.item).heads
          → ((t : Summary) → line_heads (header_of d m) c.names t c.item ≡ line_heads (header_of d m) c.names [] c.item) ⊎ ((i : Inst) × (c.item ≡ inst i))
          → h ∈ (line_heads (header_of d m) c.names (summary_for s (inst_of c.item)) c.item).heads
      go h c t (inl same) = subst (λ (z : Heads). h ∈ z.heads) (sym (same (summary_for s (inst_of c.item)))) t
      go h c t (inr (i, e)) =
          absurd (Memᴰ.not-nil (subst (λ z. h ∈ z) (inst_no_own (header_of d m) c.names i) (subst (λ z. h ∈ (line_heads (header_of d m) c.names [] z).heads) e t)))

  behind_read : (n x : Node) (c : Collected) (i : Inst) → c ∈ lines_of d m → c.item ≡ inst i → Behind i c.names n x → x ∈ all_reads (own_graph s d m) n
  unfolding own_graph
  behind_read n x c i l e (o, p, a, b, y) =
      let r = head_output (header_of d m) c.names i (index_of (place_value c.names i.place)) (s i.«module») (s i.«module») o p a in
      let h = subst (λ (z : Heads). r.0 ∈ z.heads) (sym (inst_heads s (header_of d m) c.names i)) r.1 in
      reads_all (heads_by s (header_of d m) (lines_of d m)) n
      (by_headed s (header_of d m) (lines_of d m) c r.0 l (subst (λ z. r.0 ∈ (line_heads (header_of d m) c.names (summary_for s (inst_of z)) z).heads) (sym e) h))
      (r.2.0 ∙ b)
      (subst (λ z. x ∈ z) (sym r.2.1) (read_conn (header_of d m) c.names (s i.«module») o p i.conns x a y))

  through_read : (n x : Node) → Through s d m n x → x ∈ all_reads (own_graph s d m) n
  through_read n x t =
      let (c, i, l, q, e, f) = instance_origin d m t.instance t.listed in
      behind_read n x c i l e
      (t.out, t.input, subst (λ z. (t.out, t.input) ∈ s z.target) f t.pair, subst (λ z. inst_out z.name z.index t.out ≡ n) f t.node, subst (λ z. x ∈ connections_to t.input z.connections) f t.read)

-- Reads are edges, whatever the depth of the summaries: needs no premise.
module _ (d : Design) where
  -- each pair of s is an output and an input of its module, and edges lead from the one to the other
  abbrev Sound : (ℕ → Summary) → Type 0
  Sound s = (m o p : ℕ) → (o, p) ∈ s m → (o ∈ out_names d m) × (kind_of (header_of d m) p ≡ some in_kind) × Walks (hierarchy d) m (signal o) (signal p)

  through_edge : (s : ℕ → Summary) → Sound s → (m : ℕ) (n x : Node) → Through s d m n x → Edge (hierarchy d) m n x
  through_edge s sound m n x t =
      let j = t.instance in
      let r = sound j.target t.out t.input t.pair in
      subst (λ z. Edge (hierarchy d) m z x) t.node (through {m = m} {y = x} j t.out t.input t.listed r.0 r.1 r.2 t.read)

  graph_edge : (s : ℕ → Summary) → ((m : ℕ) → get_elem? d m ≡ none → s m ≡ []) → Sound s → (m : ℕ) (n x : Node) → x ∈ all_reads (own_graph s d m) n → Edge (hierarchy d) m n x
  graph_edge s missing sound m n x l = ⊎_elim (λ i. own i) (λ t. through_edge s sound m n x t) (graph_reads s d missing m n x l)

  chain_walks : (m : ℕ) (next : Node → List Node) → ((a b : Node) → b ∈ next a → Edge (hierarchy d) m a b) → (a : Node) (l : List Node) → Chain next a l → Walks (hierarchy d) m a (last a l)
  chain_walks m next f a [] c = stop
  chain_walks m next f a (b ∷ l) c = step (f a b c.0) (chain_walks m next f b l c.1)

  pub reached_walks : (m : ℕ) (next : Node → List Node) → ((a b : Node) → b ∈ next a → Edge (hierarchy d) m a b) → (a z : Node) → Reached next (a ∷ []) z → Walks (hierarchy d) m a z
  reached_walks m next f a z (r, l, i, c, e) = subst₂ (λ a z. Walks (hierarchy d) m a z) (Memᴰ.eq_of_singleton i) e (chain_walks m next f r l c)

  to_sound : (f : ℕ) → Sound (summary_to f d)
  unfolding summary_to
  to_sound zero m o p i = absurd (Memᴰ.not-nil i)
  to_sound (suc f) m o p i = go (to_sound f) (get_elem? d m) refl
    where
      go : Sound (summary_to f d) → (x : Option Module) → get_elem? d m ≡ x
          → (o ∈ out_names d m) × (kind_of (header_of d m) p ≡ some in_kind) × Walks (hierarchy d) m (signal o) (signal p)
      go sound none e = absurd (Memᴰ.not-nil (subst (λ z. (o, p) ∈ z) (to_missing (suc f) d m e) i))
      go sound (some k) e =
          let g = own_graph (summary_to f d) d m in
          let r = of_summary k g o p (subst (λ z. (o, p) ∈ z) (to_own f d m k e) i) in (
            subst (λ z. o ∈ z) (sym (outputs_at d m k e)) r.0,
            subst (λ z. kind_of z p ≡ some in_kind) (sym (header_at d m k e)) r.1,
            reached_walks m (onward k.header g) (λ a b h. graph_edge (summary_to f d) (to_missing f d) sound m a b (onward_reads k.header g a b h)) (signal o) (signal p) r.2,
          )

  plain_edge : (m : ℕ) (n x : Node) → x ∈ all_reads (plain_heads d m) n → Edge (hierarchy d) m n x
  unfolding plain_heads plain_summary
  plain_edge m n x l = graph_edge (plain_summary d) (to_missing (suc (length d)) d) (to_sound (suc (length d))) m n x l

-- Edges are reads: needs that from the module on none contains itself, and that nothing there heads an in-kind name.

-- a kind of which a drive heads nothing
abbrev pub Undriven : Kind → Type 0
Undriven k = (lv : LValue) (r : Reads) → drive_heads (driving (some k)) lv r ≡ no_heads

drive_node : (x : Driving) (lv : LValue) (r : Reads) (h : Head) → h ∈ (drive_heads x lv r).heads → h.node ≡ signal lv.name
drive_node an_output lv r h i = ap (λ z. z.node) (Memᴰ.eq_of_singleton i)
drive_node a_wire lv r h i = ap (λ z. z.node) (Memᴰ.eq_of_singleton i)
drive_node a_reg lv r h i = absurd (Memᴰ.not-nil i)
drive_node a_mem lv r h i = absurd (Memᴰ.not-nil i)
drive_node nothing lv r h i = absurd (Memᴰ.not-nil i)

drive_not : (k : Kind) → Undriven k → (hs : List Header) (lv : LValue) (r : Reads) (h : Head) → h ∈ (drive_heads (driving (kind_of hs lv.name)) lv r).heads → (n : ℕ) → h.node ≡ signal n → ¬ (kind_of hs n ≡ some k)
drive_not k undriven hs lv r h i n e b =
    let f = ap (kind_of hs) (signal_same lv.name n (sym (drive_node (driving (kind_of hs lv.name)) lv r h i) ∙ e)) ∙ b in
    Memᴰ.not-nil (subst (λ (z : Heads). h ∈ z.heads) (undriven lv r) (subst (λ z. h ∈ (drive_heads (driving z) lv r).heads) f i))

-- what a line heads by itself is no name of such a kind, where no wire line heads one
line_not : (k : Kind) → Undriven k → (hs : List Header) (names : Names) (item : Item) (h : Head) → ((n start : ℕ) (e : Expr) → item ≡ wire n e start → ¬ (kind_of hs n ≡ some k))
    → h ∈ (line_heads hs names [] item).heads → (n : ℕ) → h.node ≡ signal n → ¬ (kind_of hs n ≡ some k)
unfolding line_heads inst_edges output_heads
line_not k u hs names (port d n w start) h f i = absurd (Memᴰ.not-nil i)
line_not k u hs names (wire n x start) h f i = λ j e b. f n start x refl (ap (kind_of hs) (signal_same n j (ap (λ z. z.node) (sym (Memᴰ.eq_of_singleton i)) ∙ e)) ∙ b)
line_not k u hs names (reg n start) h f i = absurd (Memᴰ.not-nil i)
line_not k u hs names (mem n start) h f i = absurd (Memᴰ.not-nil i)
line_not k u hs names (const n x) h f i = absurd (Memᴰ.not-nil i)
line_not k u hs names (drive lv x) h f i = drive_not k u hs lv _ h i
line_not k u hs names (on start ss) h f i = absurd (Memᴰ.not-nil i)
line_not k u hs names (inst j) h f i = absurd (Memᴰ.not-nil i)
line_not k u hs names (repeat n l t is) h f i = absurd (Memᴰ.not-nil i)
line_not k u hs names (const_if c is js) h f i = absurd (Memᴰ.not-nil i)

-- a wire line heads its name, whatever the kind
abbrev wire_head : List Header → Names → ℕ → Expr → ℕ → Head
wire_head hs names n e start = record { node = signal n; start = start; reads = (expr_reads e hs names).nodes }

wire_heads : (hs : List Header) (names : Names) (n : ℕ) (e : Expr) (start : ℕ) → wire_head hs names n e start ∈ (line_heads hs names [] (wire n e start)).heads
unfolding line_heads
wire_heads hs names n e start = Memᴰ.head refl

-- so nothing heads a name of such a kind exactly where no wire line does
pub unheaded : (k : Kind) → Undriven k → (d : Design) (m : ℕ) → NotWired k d m ↔ Unheaded (hierarchy d) k m
unfolding own_heads
unheaded k u d m = (
  λ wires h i n e.
      let c = own_headed (header_of d m) (lines_of d m) h i in
      line_not k u (header_of d m) c.0.names c.0.item h (wires c.0 c.1) c.2 n e,
  λ heads c i n start e f.
      let h = wire_head (header_of d m) c.names n e start in
      heads h
      (headed_own (header_of d m) (lines_of d m) c h i (subst⁻¹ (λ z. h ∈ (line_heads (header_of d m) c.names [] z).heads) f (wire_heads (header_of d m) c.names n e start))) n refl,
)

module _ (d : Design) where
  -- what is asked of a module, and so of those that it leads to
  abbrev pub Good : ℕ → Type 0
  Good m = Acyclic (hierarchy d) m × From (hierarchy d) (Unheaded (hierarchy d) in_kind) m

  good_inside : (m : ℕ) (i : Instance ℕ) → i ∈ instances d m → Good m → Good i.target
  good_inside m i u g = (acyclic_step (hierarchy d) m i.target (in_targets u) g.0, from_inside (hierarchy d) (Unheaded (hierarchy d) in_kind) m i u g.1)

  plain_missing : (m : ℕ) → get_elem? d m ≡ none → plain_summary d m ≡ []
  plain_missing = (summaries d).missing

  -- an in-kind name reads nothing in its module
  input_no_reads : (m : ℕ) → Good m → (n : ℕ) (x : Node) → x ∈ all_reads (plain_heads d m) (signal n) → ¬ (kind_of (header_of d m) n ≡ some in_kind)
  unfolding plain_heads
  input_no_reads m good n x i =
      ⊎_elim (λ j. let (h, u, e, v) = read_by (own_heads d m) (signal n) j in good.1 m (leads_here (hierarchy d) m) h u n e) (λ t. absurd (signal_not_out n _ _ _ (sym t.node)))
      (graph_reads (plain_summary d) d plain_missing m (signal n) x i)

  -- so a walk may as well stop there
  read_onward : (m : ℕ) → Good m → (n x : Node) → x ∈ all_reads (plain_heads d m) n → x ∈ onward (header_of d m) (plain_heads d m) n
  unfolding onward
  read_onward m good (signal n) x i =
      if_case (λ z. x ∈ z) (is_input (kind_of (header_of d m) n)) _ _ (λ e. absurd (input_no_reads m good n x i (input_is (kind_of (header_of d m) n) e))) (λ e. read_reads_of (plain_heads d m) (signal n) i)
  read_onward m good (inst_out j y o) x i = read_reads_of (plain_heads d m) (inst_out j y o) i

  abbrev Onward : ℕ → Node → Node → Type 0
  Onward m a z = (l : List Node) × Chain (onward (header_of d m) (plain_heads d m)) a l × (last a l ≡ z)

  onward_reached : (m : ℕ) (a z : Node) → Onward m a z → Reached (onward (header_of d m) (plain_heads d m)) (a ∷ []) z
  onward_reached m a z (l, c, e) = (a, l, Memᴰ.head refl, c, e)

  through_reads : (m : ℕ) (y : Node) (i : Instance ℕ) (o p : ℕ) → Acyclic (hierarchy d) i.target → i ∈ instances d m → o ∈ out_names d i.target → kind_of (header_of d i.target) p ≡ some in_kind
      → Onward i.target (signal o) (signal p) → y ∈ connections_to p i.connections → y ∈ all_reads (plain_heads d m) (inst_out i.name i.index o)
  unfolding plain_heads
  through_reads m y i o p acyclic l t k w r =
      through_read (plain_summary d) d plain_missing m (inst_out i.name i.index o) y (record {
        instance = i;
        out = o;
        input = p;
        listed = l;
        pair = ((summaries d).reachability i.target o p acyclic).1 (t, k, onward_reached i.target (signal o) (signal p) w);
        node = refl;
        read = r;
      })

  own_reads : (m : ℕ) (n x : Node) → x ∈ all_reads (own_heads d m) n → x ∈ all_reads (plain_heads d m) n
  unfolding plain_heads
  own_reads m n x i = own_read (plain_summary d) d plain_missing m n x i

  edge_read : {m : ℕ} {n x : Node} → Edge (hierarchy d) m n x → Good m → x ∈ all_reads (plain_heads d m) n
  edge_read {m} {n} {x} e = elim e as (λ m n x e'. Good m → x ∈ all_reads (plain_heads d m) n) (λ m a z w. Good m → Onward m a z) [
    | own {m = m} {n = n} {x = x} i ↦ λ good. own_reads m n x i
    | through {m = m} {y = y} i o p l t k (w → onward_w) r ↦ λ good. let g = good_inside m i l good in through_reads m y i o p g.0 l t k (onward_w g) r
    | stop ↦ λ good. ([], tt, refl)
    | step {m = m} {a = a} {b = b} (e → read_e) (w → onward_w) ↦ λ good. let r = onward_w good in (b ∷ r.0, (read_onward m good a b (read_e good), r.1), r.2)
  ]

  plain_edges : (m : ℕ) → Good m → (n x : Node) → x ∈ next_nodes (plain_heads d m) n ↔ Edge (hierarchy d) m n x
  plain_edges m good n x = (λ i. plain_edge d m n x (next_read (plain_heads d m) n i), λ e. read_next (plain_heads d m) n (edge_read e good))

-- A search whose next nodes are edges of a module,
module _ (d : Design) (m : ℕ) (hs : List Head) (reads : (n x : Node) → x ∈ next_nodes hs n → Edge (hierarchy d) m n x) where
  chain_edges : (n : Node) (l : List Node) → Chain (next_nodes hs) n l → EdgeChain (hierarchy d) m n l
  chain_edges n [] c = tt
  chain_edges n (x ∷ l) c = (reads n x c.0, chain_edges x l c.1)

  walk_loop : (w : List Node) → ClosedWalk (next_nodes hs) w → EdgeLoop (hierarchy d) m w
  walk_loop [] c = c
  walk_loop (n ∷ []) c = c
  walk_loop (n ∷ x ∷ l) c = (chain_edges n (x ∷ l) c.0, c.1)

  pub cycles_loop : (w : List Node) → w ∈ find_cycles hs → EdgeLoop (hierarchy d) m w
  cycles_loop w i = walk_loop w ((cycles_found hs).walks w i).0

-- and edges that are steps of a graph: where they lead back a walk closes.
module _ (H : Hierarchy) (m : H.Key) (next : Node → List Node) (steps : (n x : Node) → Edge H m n x → x ∈ next n) where
  edges_chain : (n : Node) (l : List Node) → EdgeChain H m n l → Chain next n l
  edges_chain n [] c = tt
  edges_chain n (x ∷ l) c = (steps n x c.0, edges_chain x l c.1)

  pub loop_walk : (w : List Node) → EdgeLoop H m w → ClosedWalk next w
  loop_walk [] c = c
  loop_walk (n ∷ []) c = c
  loop_walk (n ∷ x ∷ l) c = (edges_chain n (x ∷ l) c.0, c.1)

-- A module past the end has no edges.
own_heads_missing : (d : Design) (m : ℕ) → get_elem? d m ≡ none → own_heads d m ≡ []
unfolding own_heads lines_of lines_own_heads
own_heads_missing d m e = rw (e, lines_of)

pub no_edge_missing : (d : Design) (m : ℕ) → get_elem? d m ≡ none → (n x : Node) → ¬ Edge (hierarchy d) m n x
unfolding all_reads
no_edge_missing d m f n x (own i) = Memᴰ.not-nil (subst (λ z. x ∈ all_reads z n) (own_heads_missing d m f) i)
no_edge_missing d m f n x (through j o p i t k w r) = Memᴰ.not-nil (subst (λ z. j ∈ z) (instances_missing d m f) i)

-- The theorem, of the heads that the check of module m searches, whatever was summarised before.
module _ (d : Design) (m : ℕ) (good : Good d m) (k : Module) (at : get_elem? d m ≡ some k) (kept : Kept) (plain : PlainTable d kept) where
  pub check_edge : (n x : Node) → x ∈ next_nodes (module_heads d kept k (lines_of d m)).heads n ↔ Edge (hierarchy d) m n x
  check_edge n x = subst⁻¹ (λ hs. x ∈ next_nodes hs n ↔ Edge (hierarchy d) m n x) (((summaries d).headed kept plain m k at).0 good.0) (plain_edges d m good n x)
