-- Every kept summary of a module from which on no module contains itself is plain reachability in the module's own graph, whatever was summarised
-- before: the modules in progress lead to what is asked for, so that it is none of them, and they are different ones, so no fuel runs out.
-- Assumes nothing.
use mathlib.Core.Path.{◌≡◌, refl, sym, ◌∙◌, ap, ap₂, subst, subst⁻¹, subst₃}
use mathlib.Core.Bool.{true, false, true≢false, false≢true}
use mathlib.Core.Logic.{◌⊎◌, inl, inr, ⊎_elim, ◌↔◌}
use mathlib.Core.Option.{Option, some, none, some-injective, none-ne-some}
use mathlib.Core.List.Memᴰ
use mathlib.Core.List.{List, [], ◌∷◌, ◌++◌, map}
use Prim.Native.Nat.{ℕ, zero, suc, ◌+◌, ◌<◌}
use native.Mathlib.Omega.{arith}
use lib.Dec.{eqb}
use lib.IntN.{ℤ}
use lib.ListN.{length, get_elem?}
use borrow.Author.Tests.{eqb-true, eq-eqb}
use Rattle.spec.specs.Syntax.{Kind, in_kind, out_kind, wire_kind, reg_kind, mem_kind, inst_kind, Inst, inst, Header, Module, Design}
use Rattle.spec.specs.Refusal.{has_name}
use Rattle.spec.specs.Value.{own_vals}
use Rattle.spec.specs.Collect.{Collected, collection}
use Rattle.spec.specs.DepthFirst.{search}
use Rattle.spec.specs.Site.{kind_of, Output, first_lines}
use Rattle.spec.specs.Edge.{Node, signal, inst_out, same_node, Head, Summary, line_heads, inst_of, all_nodes, all_reads}
use Rattle.spec.specs.Summary.{is_input, onward, inputs_among, inputs_reached, paired, top_outputs, outputs_reach, module_summary, Kept, kept_summary, Asked, ask_for, lines_heads, make_summary, comb_summary, module_heads}
use Rattle.spec.specs.Check.{check_module_drivers, check_modules, check_design}
use Rattle.spec.specs.Graph.{◌∈◌, Once, Chain, last}
use Rattle.spec.specs.DepthFirstFinds.{Reached, FindsLoops}
use Rattle.spec.specs.Hierarchy.{instance_targets, Leads, ModuleChain, ContainsItself, Acyclic}
use Rattle.spec.specs.DesignHierarchy.{lines_of, header_of, instances_from, instances, top_outputs_of, out_names, hierarchy, instanced}
use Rattle.spec.specs.Summaries.{summary_for, heads_by, own_graph, summary_to, plain_summary, plain_heads, PlainTable, AskedPlain, HeadedPlain, Reaches, Summaries}
use Rattle.spec.proofs.Numbers.{if_case}
use Rattle.spec.proofs.DepthFirst.{search_finds}
use Rattle.spec.proofs.Nodes.{or_parts, same_node_yes, same_node_refl, read_all, reads_of_read}
use Rattle.spec.proofs.HeadLaws.{true_left, true_right, in_either, in_first, option_case, inst_is, origin_instance}
use Rattle.spec.proofs.Copies.{in_targets, leads_here, from_leads}
use Rattle.spec.proofs.WellFormed.{design_well_formed}
use Rattle.spec.proofs.Acyclic.{once_below, acyclic_step, acyclic_apart, acyclic_shorter}

-- a module that exists has a number below the number of modules
pub below_length : {A : Type 0} (l : List A) (i : ℕ) (a : A) → get_elem? l i ≡ some a → i < length l
below_length [] i a e = absurd (none-ne-some a e)
below_length (b ∷ l) zero a e = omega arith
below_length (b ∷ l) (suc i) a e = let r = below_length l i a e in omega arith

-- the lines and the header of a module that exists
pub lines_at : (d : Design) (m : ℕ) (k : Module) → get_elem? d m ≡ some k → lines_of d m ≡ (collection (own_vals k) k).lines
unfolding lines_of
lines_at d m k e = rw (e, lines_of)

pub header_at : (d : Design) (m : ℕ) (k : Module) → get_elem? d m ≡ some k → header_of d m ≡ k.header
unfolding header_of
header_at d m k e = rw (e, header_of)

pub outputs_at : (d : Design) (m : ℕ) (k : Module) → get_elem? d m ≡ some k → out_names d m ≡ map (λ o. o.name) (top_outputs k.items)
unfolding out_names top_outputs_of
outputs_at d m k e = rw (e, top_outputs_of)

pub outputs_missing : (d : Design) (m : ℕ) → get_elem? d m ≡ none → out_names d m ≡ []
unfolding out_names top_outputs_of
outputs_missing d m e = rw (e, top_outputs_of)

-- instance lines lead to modules
line_target : (d : Design) (m : ℕ) (c : Collected) (i : Inst) (k : Module) → c ∈ lines_of d m → c.item ≡ inst i → get_elem? d i.«module» ≡ some k → i.«module» ∈ instanced d m
line_target d m c i k h e f = in_targets (origin_instance d m c i k h e f).1

pub instances_missing : (d : Design) (m : ℕ) → get_elem? d m ≡ none → instances d m ≡ []
unfolding instances lines_of instances_from
instances_missing d m e = rw (e, lines_of)

-- from a missing module nothing leads on
missing_acyclic : (d : Design) (m : ℕ) → get_elem? d m ≡ none → Acyclic (hierarchy d) m
unfolding instance_targets
missing_acyclic d m e l c inside = along l c inside
  where
    stops : (t k : ℕ) → k ≡ m → ¬ (t ∈ instanced d k)
    stops t k same u = Memᴰ.not-nil (subst (λ z. t ∈ instance_targets z) (ap (instances d) same ∙ instances_missing d m e) u)

    along : (l : List ℕ) → ModuleChain (hierarchy d) m l → ¬ ContainsItself (hierarchy d) (last m l)
    along [] c (t, k, ((b, same, u), g), q) = stops t b same u
    along (t ∷ l) ((b, same, u), c) inside = stops t b same u

-- a member of the table
pub kept_in : (kept : Kept) (m : ℕ) (s : Summary) → kept_summary kept m ≡ some s → (m, s) ∈ kept
unfolding kept_summary
kept_in [] m s e = absurd (none-ne-some s e)
kept_in (q ∷ kept) m s e =
    if_case (λ z. z ≡ some s → (m, s) ∈ (q ∷ kept)) (eqb q.0 m) _ _
    (λ f g. Memᴰ.head (pair (eqb-true q.0 m f) (some-injective q.1 s g)))
    (λ f g. Memᴰ.tail (kept_in kept m s g)) e
  where
    pair : q.0 ≡ m → q.1 ≡ s → (m, s) ≡ q
    pair f g = λ t. (sym f t, sym g t)

pub name_in : (n : ℕ) (l : List ℕ) → has_name n l ≡ true → n ∈ l
unfolding has_name
name_in n [] e = absurd (false≢true e)
name_in n (m ∷ l) e = ⊎_elim (λ f. Memᴰ.head (eqb-true n m f)) (λ f. Memᴰ.tail (name_in n l f)) (or_parts (eqb n m) (has_name n l) e)

in_name : (n : ℕ) (l : List ℕ) → n ∈ l → has_name n l ≡ true
unfolding has_name
in_name n [] i = absurd (Memᴰ.not-nil i)
in_name n (m ∷ l) i = in_first (λ e. true_left (eqb n m) (has_name n l) (eq-eqb n m e)) (λ j. true_right (eqb n m) (has_name n l) (in_name n l j)) i

-- heads by summaries that are the same for the modules instanced
summary_for_same : (s t : ℕ → Summary) (o : Option Inst) → ((i : Inst) → o ≡ some i → s i.«module» ≡ t i.«module») → summary_for s o ≡ summary_for t o
unfolding summary_for
summary_for_same s t none h = refl
summary_for_same s t (some i) h = h i refl

heads_same : (s t : ℕ → Summary) (hs : List Header) (cs : List Collected) → ((c : Collected) (i : Inst) → c ∈ cs → c.item ≡ inst i → s i.«module» ≡ t i.«module»)
    → heads_by s hs cs ≡ heads_by t hs cs
unfolding heads_by
heads_same s t hs [] h = refl
heads_same s t hs (c ∷ cs) h =
    ap₂ ◌++◌ (ap (λ z. (line_heads hs c.names z c.item).heads) (summary_for_same s t (inst_of c.item) (λ i e. h c i (Memᴰ.head refl) (inst_is c.item i e))))
    (heads_same s t hs cs (λ b i m e. h b i (Memᴰ.tail m) e))

-- no summary of a missing module, whatever the depth; that of another is made of its own graph
pub to_missing : (f : ℕ) (d : Design) (m : ℕ) → get_elem? d m ≡ none → summary_to f d m ≡ []
unfolding summary_to
to_missing zero d m e = refl
to_missing (suc f) d m e = rw (e, summary_to)

pub to_own : (f : ℕ) (d : Design) (m : ℕ) (k : Module) → get_elem? d m ≡ some k → summary_to (suc f) d m ≡ module_summary k (own_graph (summary_to f d) d m)
unfolding summary_to
to_own f d m k e = rw (e, summary_to)

-- what a summary of a module is made of
pub input_is : (o : Option Kind) → is_input o ≡ true → o ≡ some in_kind
input_is none e = absurd (false≢true e)
input_is (some in_kind) e = refl
input_is (some out_kind) e = absurd (false≢true e)
input_is (some wire_kind) e = absurd (false≢true e)
input_is (some reg_kind) e = absurd (false≢true e)
input_is (some mem_kind) e = absurd (false≢true e)
input_is (some inst_kind) e = absurd (false≢true e)

pub signal_same : (i n : ℕ) → signal i ≡ signal n → i ≡ n
signal_same i n e = eqb-true i n (sym (ap (same_node (signal i)) e) ∙ same_node_refl (signal i))

pub signal_not_out : (n i o : ℕ) (x : Option ℤ) → ¬ (signal n ≡ inst_out i x o)
signal_not_out n i o x e = true≢false (sym (same_node_refl (signal n)) ∙ ap (same_node (signal n)) e)

pub onward_reads : (hs : List Header) (heads : List Head) (n x : Node) → x ∈ onward hs heads n → x ∈ all_reads heads n
unfolding onward
onward_reads hs heads (signal n) x m =
    if_case (λ z. x ∈ z → x ∈ all_reads heads (signal n)) (is_input (kind_of hs n)) _ _ (λ e i. absurd (Memᴰ.not-nil i)) (λ e i. reads_of_read heads (signal n) i) m
onward_reads hs heads (inst_out i y o) x m = reads_of_read heads (inst_out i y o) m

pub of_inputs : (hs : List Header) (ns : List Node) (i : ℕ) → i ∈ inputs_among hs ns → (kind_of hs i ≡ some in_kind) × (signal i ∈ ns)
unfolding inputs_among
of_inputs hs [] i m = absurd (Memᴰ.not-nil m)
of_inputs hs (signal n ∷ ns) i m =
    if_case (λ z. i ∈ z → (kind_of hs i ≡ some in_kind) × (signal i ∈ (signal n ∷ ns))) (is_input (kind_of hs n)) _ _
    (λ e. in_first (λ f. (ap (kind_of hs) f ∙ input_is (kind_of hs n) e, Memᴰ.head (ap signal f))) (λ j. let r = of_inputs hs ns i j in (r.0, Memᴰ.tail r.1)))
    (λ e j. let r = of_inputs hs ns i j in (r.0, Memᴰ.tail r.1)) m
of_inputs hs (inst_out j x o ∷ ns) i m = let r = of_inputs hs ns i m in (r.0, Memᴰ.tail r.1)

in_inputs : (hs : List Header) (ns : List Node) (i : ℕ) → kind_of hs i ≡ some in_kind → signal i ∈ ns → i ∈ inputs_among hs ns
unfolding inputs_among
in_inputs hs [] i k m = absurd (Memᴰ.not-nil m)
in_inputs hs (signal n ∷ ns) i k m =
    if_case (λ z. i ∈ z) (is_input (kind_of hs n)) _ _
    (λ e. in_first (λ f. Memᴰ.head (signal_same i n f)) (λ j. Memᴰ.tail (in_inputs hs ns i k j)) m)
    (λ e. in_first (λ f. absurd (true≢false (ap is_input (sym k) ∙ ap (λ z. is_input (kind_of hs z)) (signal_same i n f) ∙ e))) (λ j. in_inputs hs ns i k j) m)
in_inputs hs (inst_out j x o ∷ ns) i k m = in_first (λ f. absurd (signal_not_out i j o x f)) (λ n. in_inputs hs ns i k n) m

-- the search from one output finds just what is reached
pub reached_found : (hs : List Header) (heads : List Head) (o : ℕ) → FindsLoops same_node (onward hs heads) (signal o ∷ []) (search same_node (onward hs heads) (suc (suc (length (all_nodes heads)))) (signal o ∷ []))
reached_found hs heads o =
    search_finds same_node (onward hs heads) same_node_yes same_node_refl (signal o ∷ []) (signal o ∷ all_nodes heads)
    (λ r i. in_first (λ e. Memᴰ.head e) (λ j. absurd (Memᴰ.not-nil j)) i)
    (λ n x i m. Memᴰ.tail (read_all heads n (onward_reads hs heads n x m)))
    (suc (suc (length (all_nodes heads)))) (omega arith)

of_reached : (hs : List Header) (heads : List Head) (o i : ℕ) → i ∈ inputs_reached hs heads o → (kind_of hs i ≡ some in_kind) × Reached (onward hs heads) (signal o ∷ []) (signal i)
unfolding inputs_reached
of_reached hs heads o i m = let r = of_inputs hs _ i m in (r.0, ((reached_found hs heads o).all (signal i)).0 r.1)

in_reached : (hs : List Header) (heads : List Head) (o i : ℕ) → kind_of hs i ≡ some in_kind → Reached (onward hs heads) (signal o ∷ []) (signal i) → i ∈ inputs_reached hs heads o
unfolding inputs_reached
in_reached hs heads o i k r = in_inputs hs _ i k (((reached_found hs heads o).all (signal i)).1 r)

pub of_paired : (a : ℕ) (is : List ℕ) (o i : ℕ) → (o, i) ∈ paired a is → (a ≡ o) × (i ∈ is)
unfolding paired
of_paired a [] o i m = absurd (Memᴰ.not-nil m)
of_paired a (j ∷ is) o i m =
    in_first (λ (e : ◌≡◌ {A = ℕ × ℕ} (o, i) (a, j)). (ap (λ z. z.0) (sym e), Memᴰ.head (ap (λ z. z.1) e))) (λ k. let r = of_paired a is o i k in (r.0, Memᴰ.tail r.1)) m

in_paired : (a : ℕ) (is : List ℕ) (i : ℕ) → i ∈ is → (a, i) ∈ paired a is
unfolding paired
in_paired a [] i m = absurd (Memᴰ.not-nil m)
in_paired a (j ∷ is) i m = in_first (λ e. Memᴰ.head (λ t. (a, e t))) (λ k. Memᴰ.tail (in_paired a is i k)) m

pub of_outputs : (hs : List Header) (heads : List Head) (os : List Output) (o i : ℕ) → (o, i) ∈ outputs_reach hs heads os → ((p : Output) × (p ∈ os) × (p.name ≡ o)) × (i ∈ inputs_reached hs heads o)
unfolding outputs_reach
of_outputs hs heads [] o i m = absurd (Memᴰ.not-nil m)
of_outputs hs heads (q ∷ os) o i m =
    in_either (paired q.name (inputs_reached hs heads q.name))
    (λ j. let r = of_paired q.name (inputs_reached hs heads q.name) o i j in ((q, Memᴰ.head refl, r.0), subst (λ z. i ∈ inputs_reached hs heads z) r.0 r.1))
    (λ j. let r = of_outputs hs heads os o i j in ((r.0.0, Memᴰ.tail r.0.1, r.0.2), r.1)) m

in_outputs : (hs : List Header) (heads : List Head) (os : List Output) (p : Output) (i : ℕ) → p ∈ os → i ∈ inputs_reached hs heads p.name → (p.name, i) ∈ outputs_reach hs heads os
unfolding outputs_reach
in_outputs hs heads [] p i m r = absurd (Memᴰ.not-nil m)
in_outputs hs heads (q ∷ os) p i m r =
    in_first (λ e. Memᴰ.append_left (outputs_reach hs heads os) (subst (λ z. (p.name, i) ∈ paired z.name (inputs_reached hs heads z.name)) e (in_paired p.name (inputs_reached hs heads p.name) i r)))
    (λ j. Memᴰ.append_right (paired q.name (inputs_reached hs heads q.name)) (in_outputs hs heads os p i j r)) m

-- the first line of each name
of_first : (seen : List ℕ) (os : List Output) (p : Output) → p ∈ first_lines seen os → p ∈ os
unfolding first_lines
of_first seen [] p m = m
of_first seen (o ∷ os) p m =
    if_case (λ z. p ∈ z → p ∈ (o ∷ os)) (has_name o.name seen) _ _
    (λ e i. Memᴰ.tail (of_first seen os p i))
    (λ e. in_first (λ f. Memᴰ.head f) (λ i. Memᴰ.tail (of_first (o.name ∷ seen) os p i))) m

abbrev FirstLine : List Output → ℕ → Type 0
FirstLine l n = (q : Output) × (q ∈ l) × (q.name ≡ n)

in_first_line : (seen : List ℕ) (os : List Output) (p : Output) → p ∈ os → (p.name ∈ seen) ⊎ FirstLine (first_lines seen os) p.name
unfolding first_lines
in_first_line seen [] p m = absurd (Memᴰ.not-nil m)
in_first_line seen (o ∷ os) p m =
    if_case (λ (z : List Output). (p.name ∈ seen) ⊎ FirstLine z p.name) (has_name o.name seen) _ _
    (λ e. in_first (λ f. inl (Memᴰ.cast (ap (λ z. z.name) f) (name_in o.name seen e))) (λ i. in_first_line seen os p i) m)
    (λ e. in_first (λ f. inr (o, Memᴰ.head refl, ap (λ z. z.name) (sym f)))
    (λ i. later (in_first_line (o.name ∷ seen) os p i)) m)
  where
    later : (p.name ∈ (o.name ∷ seen)) ⊎ FirstLine (first_lines (o.name ∷ seen) os) p.name → (p.name ∈ seen) ⊎ FirstLine (o ∷ first_lines (o.name ∷ seen) os) p.name
    later (inl i) = in_first (λ f. inr (o, Memᴰ.head refl, sym f)) (λ j. inl j) i
    later (inr (q, i, f)) = inr (q, Memᴰ.tail i, f)

-- a module's summary has the pairs of a top-level output and an in-kind name that it reaches
pub of_summary : (k : Module) (heads : List Head) (o i : ℕ) → (o, i) ∈ module_summary k heads
    → (o ∈ map (λ o. o.name) (top_outputs k.items)) × (kind_of k.header i ≡ some in_kind) × Reached (onward k.header heads) (signal o ∷ []) (signal i)
unfolding module_summary
of_summary k heads o i m =
    let r = of_outputs k.header heads (first_lines [] (top_outputs k.items)) o i m in
    let q = of_reached k.header heads o i r.1 in
    (Memᴰ.cast (sym r.0.2) (Memᴰ.map (λ o. o.name) (of_first [] (top_outputs k.items) r.0.0 r.0.1)), q.0, q.1)

in_summary : (k : Module) (heads : List Head) (o i : ℕ) → o ∈ map (λ o. o.name) (top_outputs k.items) → kind_of k.header i ≡ some in_kind
    → Reached (onward k.header heads) (signal o ∷ []) (signal i) → (o, i) ∈ module_summary k heads
unfolding module_summary
in_summary k heads o i h input r = let (p, m, e) = Memᴰ.of_map (λ o. o.name) (top_outputs k.items) h in go p e (in_first_line [] (top_outputs k.items) p m)
  where
    go : (p : Output) → p.name ≡ o → (p.name ∈ []) ⊎ FirstLine (first_lines [] (top_outputs k.items)) p.name → (o, i) ∈ outputs_reach k.header heads (first_lines [] (top_outputs k.items))
    go p e (inl j) = absurd (Memᴰ.not-nil j)
    go p e (inr (q, j, f)) =
        let g : q.name ≡ o = f ∙ e in
        let t : ◌≡◌ {A = ℕ × ℕ} (o, i) (q.name, i) = (λ t. (sym g t, i)) in
        Memᴰ.cast t (in_outputs k.header heads (first_lines [] (top_outputs k.items)) q i j (in_reached k.header heads q.name i input (subst (λ z. Reached (onward k.header heads) (signal z ∷ []) (signal i)) (sym g) r)))

module _ (d : Design) where
  -- chains of instances from m are shorter than f
  abbrev Shorter : ℕ → ℕ → Type 0
  Shorter f m = (l : List ℕ) → Chain (instanced d) m l → length l < f

  shorter_step : (f m t : ℕ) → t ∈ instanced d m → Shorter (suc f) m → Shorter f t
  shorter_step f m t u h l c = let r = h (t ∷ l) (u, c) in omega arith

  acyclic_shorter_than : (m : ℕ) (k : Module) → get_elem? d m ≡ some k → Acyclic (hierarchy d) m → Shorter (length d) m
  acyclic_shorter_than m k e f l c = acyclic_shorter (hierarchy d) (design_well_formed d) m f (below_length d m k e) l c

  -- the own graphs of a module are the same where summaries of missing modules and of those that it leads to are
  own_same : (s t : ℕ → Summary) (m : ℕ) → ((m' : ℕ) → get_elem? d m' ≡ none → s m' ≡ t m')
      → ((m' : ℕ) (k' : Module) → get_elem? d m' ≡ some k' → m' ∈ instanced d m → s m' ≡ t m') → own_graph s d m ≡ own_graph t d m
  unfolding own_graph
  own_same s t m missing further = heads_same s t (header_of d m) (lines_of d m) (λ c i h f. go c i h f (get_elem? d i.«module») refl)
    where
      go : (c : Collected) (i : Inst) → c ∈ lines_of d m → c.item ≡ inst i → (o : Option Module) → get_elem? d i.«module» ≡ o → s i.«module» ≡ t i.«module»
      go c i h f none g = missing i.«module» g
      go c i h f (some k') g = further i.«module» k' g (line_target d m c i k' h f g)

  -- the depth does not matter above the chains of instances
  to_same : (f g m : ℕ) (k : Module) → get_elem? d m ≡ some k → Shorter f m → Shorter g m → summary_to f d m ≡ summary_to g d m
  to_same zero g m k e h h' = absurd (let r = h [] tt in omega arith)
  to_same (suc f) zero m k e h h' = absurd (let r = h' [] tt in omega arith)
  to_same (suc f) (suc g) m k e h h' =
      to_own f d m k e
      ∙ ap (module_summary k) (own_same (summary_to f d) (summary_to g d) m (λ m' e'. to_missing f d m' e' ∙ sym (to_missing g d m' e'))
      (λ m' k' e' u. to_same f g m' k' e' (shorter_step f m m' u h) (shorter_step g m m' u h')))
      ∙ sym (to_own g d m k e)

  -- the plain summary is made of the module's own graph
  plain_missing : (m : ℕ) → get_elem? d m ≡ none → plain_summary d m ≡ []
  unfolding plain_summary
  plain_missing m e = to_missing (suc (length d)) d m e

  plain_own : (m : ℕ) (k : Module) → get_elem? d m ≡ some k → Acyclic (hierarchy d) m → plain_summary d m ≡ module_summary k (plain_heads d m)
  unfolding plain_summary plain_heads
  plain_own m k e acyclic =
      to_own (length d) d m k e
      ∙ ap (module_summary k) (own_same (summary_to (length d) d) (plain_summary d) m (λ m' e'. to_missing (length d) d m' e' ∙ sym (plain_missing m' e'))
      (λ m' k' e' u. let s = acyclic_shorter_than m' k' e' (acyclic_step (hierarchy d) m m' u acyclic) in to_same (length d) (suc (length d)) m' k' e' s (λ l c. let r = s l c in omega arith)))

  -- nor from the modules of its lines
  line_acyclic : (m : ℕ) → Acyclic (hierarchy d) m → (c : Collected) (i : Inst) → c ∈ lines_of d m → c.item ≡ inst i → Acyclic (hierarchy d) i.«module»
  line_acyclic m acyclic c i h e = go (get_elem? d i.«module») refl
    where
      go : (o : Option Module) → get_elem? d i.«module» ≡ o → Acyclic (hierarchy d) i.«module»
      go none f = missing_acyclic d i.«module» f
      go (some k) f = acyclic_step (hierarchy d) m i.«module» (line_target d m c i k h e f) acyclic

  -- lines that ask for plain summaries
  for_plain : (ask : Kept → ℕ → Asked) (kept : Kept) (o : Option Inst) → PlainTable d kept → ((i : Inst) → o ≡ some i → AskedPlain d i.«module» (ask kept i.«module»))
      → (((i : Inst) → o ≡ some i → Acyclic (hierarchy d) i.«module») → (ask_for ask kept o).summary ≡ summary_for (plain_summary d) o) × PlainTable d (ask_for ask kept o).kept
  unfolding ask_for summary_for
  for_plain ask kept none p h = (λ acyclic. refl, p)
  for_plain ask kept (some i) p h = (λ acyclic. (h i refl).0 (acyclic i refl), (h i refl).1)

  abbrev AskPlain : (Kept → ℕ → Asked) → List Collected → Type 0
  AskPlain ask cs = (c : Collected) (i : Inst) → c ∈ cs → c.item ≡ inst i → (kept : Kept) → PlainTable d kept → AskedPlain d i.«module» (ask kept i.«module»)

  abbrev LinesAcyclic : List Collected → Type 0
  LinesAcyclic cs = (c : Collected) (i : Inst) → c ∈ cs → c.item ≡ inst i → Acyclic (hierarchy d) i.«module»

  lines_plain : (ask : Kept → ℕ → Asked) (hs : List Header) (kept : Kept) (cs : List Collected) → PlainTable d kept → AskPlain ask cs
      → (LinesAcyclic cs → (lines_heads ask hs kept cs).heads ≡ heads_by (plain_summary d) hs cs) × PlainTable d (lines_heads ask hs kept cs).kept
  unfolding lines_heads heads_by
  lines_plain ask hs kept [] p h = (λ acyclic. refl, p)
  lines_plain ask hs kept (c ∷ cs) p h =
      let a = for_plain ask kept (inst_of c.item) p (λ i e. h c i (Memᴰ.head refl) (inst_is c.item i e) kept p) in
      let r = lines_plain ask hs (ask_for ask kept (inst_of c.item)).kept cs a.1 (λ b i m e. h b i (Memᴰ.tail m) e) in
      (λ acyclic. ap₂ ◌++◌ (ap (λ z. (line_heads hs c.names z c.item).heads) (a.0 (λ i e. acyclic c i (Memᴰ.head refl) (inst_is c.item i e)))) (r.0 (λ b i m e. acyclic b i (Memᴰ.tail m) e)), r.1)

  -- those of a module
  own_plain : (ask : Kept → ℕ → Asked) (kept : Kept) (m : ℕ) (k : Module) → get_elem? d m ≡ some k → PlainTable d kept → AskPlain ask (lines_of d m)
      → HeadedPlain d m (lines_heads ask k.header kept (lines_of d m))
  unfolding plain_heads own_graph
  own_plain ask kept m k e p h =
      let l = lines_plain ask k.header kept (lines_of d m) p h in
      (λ acyclic. l.0 (line_acyclic m acyclic) ∙ ap (λ z. heads_by (plain_summary d) z (lines_of d m)) (sym (header_at d m k e)), l.1)

  -- a summary that is made is plain
  table_more : (kept : Kept) (m : ℕ) (s : Summary) → PlainTable d kept → (Acyclic (hierarchy d) m → s ≡ plain_summary d m) → PlainTable d ((m, s) ∷ kept)
  table_more kept m s p e m' s' i =
      in_first
      (λ (f : ◌≡◌ {A = ℕ × Summary} (m', s') (m, s)) acyclic. ap (λ z. z.1) f ∙ e (subst (λ z. Acyclic (hierarchy d) z) (ap (λ z. z.0) f) acyclic) ∙ ap (λ z. plain_summary d z.0) (sym f))
      (λ j. p m' s' j) i

  made_plain : (ask : Kept → ℕ → Asked) (kept : Kept) (m : ℕ) (k : Module) → get_elem? d m ≡ some k → PlainTable d kept → AskPlain ask (lines_of d m) → AskedPlain d m (make_summary ask kept m k)
  unfolding make_summary
  made_plain ask kept m k e p h =
      let l : HeadedPlain d m (lines_heads ask k.header kept (collection (own_vals k) k).lines) = subst (λ cs. HeadedPlain d m (lines_heads ask k.header kept cs)) (lines_at d m k e) (own_plain ask kept m k e p h) in
      let s : Acyclic (hierarchy d) m → module_summary k (lines_heads ask k.header kept (collection (own_vals k) k).lines).heads ≡ plain_summary d m = (λ acyclic. ap (module_summary k) (l.0 acyclic) ∙ sym (plain_own m k e acyclic)) in
      (s, table_more _ m _ l.1 s)

  -- the modules being summarised are different ones, and with the fuel more than there are
  abbrev Room : ℕ → List ℕ → Type 0
  Room fuel busy = Once busy × ((b : ℕ) → b ∈ busy → b < length d) × (length d < fuel + length busy)

  -- each of them leads to a module that is asked for, by a step or more
  abbrev Behind : List ℕ → ℕ → Type 0
  Behind busy m = (b : ℕ) → b ∈ busy → (t : ℕ) × (t ∈ instanced d b) × Leads (hierarchy d) t m

  behind_step : (busy : List ℕ) (m t : ℕ) → t ∈ instanced d m → Behind busy m → Behind (m ∷ busy) t
  behind_step busy m t u h b i =
      in_first (λ (e : b ≡ m). (t, subst⁻¹ (λ z. t ∈ instanced d z) e u, leads_here (hierarchy d) t))
      (λ j. let (s, v, r) = h b j in (s, v, from_leads (hierarchy d) (Leads (hierarchy d) s) s m r (λ z q. q) t (t ∷ [], (u, tt), refl))) i

  asked_plain : (fuel : ℕ) (busy : List ℕ) (kept : Kept) (m : ℕ) → PlainTable d kept → Room fuel busy → ((k : Module) → get_elem? d m ≡ some k → Behind busy m) → AskedPlain d m (comb_summary fuel d busy kept m)
  unfolding comb_summary
  asked_plain zero busy kept m p room behind = absurd (let r = once_below busy (length d) room.0 room.1 in omega (arith, r, room.2))
  asked_plain (suc fuel) busy kept m p room behind =
      option_case (λ z. AskedPlain d m z) (get_elem? d m) _ _ (λ e. (λ acyclic. sym (plain_missing m e), p))
      (λ k e. if_case (λ z. AskedPlain d m z) (has_name m busy) _ _
      (λ g. (λ acyclic. absurd (let (t, u, r) = behind k e m (name_in m busy g) in acyclic_apart (hierarchy d) m m t m acyclic refl u r refl), p))
      (λ g. option_case (λ z. AskedPlain d m z) (kept_summary kept m) _ _
      (λ f. made_plain (comb_summary fuel d (m ∷ busy)) kept m k e p (λ c i h t kept' p'. asked_plain fuel (m ∷ busy) kept' i.«module» p' (more k e g) (λ k' e'. behind_step busy m i.«module» (line_target d m c i k' h t e') (behind k e))))
      (λ s f. (p m s (kept_in kept m s f), p))))
    where
      more : (k : Module) → get_elem? d m ≡ some k → has_name m busy ≡ false → Room fuel (m ∷ busy)
      more k e g = (
        (λ i. true≢false (sym (in_name m busy i) ∙ g), room.0),
        λ b i. in_first (λ (f : b ≡ m). subst⁻¹ (λ z. z < length d) f (below_length d m k e)) (λ j. room.1 b j) i,
        omega (arith, room.2),
      )

  -- at a module's own check nothing is being summarised
  asked_free : (kept : Kept) → PlainTable d kept → (m : ℕ) → AskedPlain d m (comb_summary (suc (length d)) d [] kept m)
  asked_free kept p m = asked_plain (suc (length d)) [] kept m p (tt, λ b j. absurd (Memᴰ.not-nil j), omega arith) (λ k e b j. absurd (Memᴰ.not-nil j))

  headed_free : (kept : Kept) → PlainTable d kept → (m : ℕ) (k : Module) → get_elem? d m ≡ some k → HeadedPlain d m (module_heads d kept k (lines_of d m))
  unfolding module_heads
  headed_free kept p m k e = own_plain (comb_summary (suc (length d)) d []) kept m k e p (λ c i h f kept' p'. asked_free kept' p' i.«module»)

  -- through the check
  check_plain : (kept : Kept) → PlainTable d kept → (m : ℕ) (k : Module) → PlainTable d (check_module_drivers d kept m k).kept
  unfolding check_module_drivers module_heads
  check_plain kept p m k =
      (lines_plain (comb_summary (suc (length d)) d []) k.header kept (collection (own_vals k) k).lines p (λ c i h f kept' p'. asked_free kept' p' i.«module»)).1

  pub checks_plain : (kept : Kept) → PlainTable d kept → (m : ℕ) (ks : List Module) → PlainTable d (check_modules d kept m ks).kept
  unfolding check_modules
  checks_plain kept p m [] = p
  checks_plain kept p m (k ∷ ks) = checks_plain (check_module_drivers d kept m k).kept (check_plain kept p m k) (suc m) ks

  -- it is plain reachability
  abbrev ReachesBy : List Head → ℕ → ℕ → Summary → List ℕ → List Header → Type 0
  ReachesBy heads o i s os hs = ((o, i) ∈ s) ↔ ((o ∈ os) × (kind_of hs i ≡ some in_kind) × Reached (onward hs heads) (signal o ∷ []) (signal i))

  plain_reaches : (m o i : ℕ) → Acyclic (hierarchy d) m → ((o, i) ∈ plain_summary d m) ↔ Reaches d m o i
  plain_reaches m o i acyclic = go (get_elem? d m) refl
    where
      go : (x : Option Module) → get_elem? d m ≡ x → ((o, i) ∈ plain_summary d m) ↔ Reaches d m o i
      go none e = (
        λ j. absurd (Memᴰ.not-nil (subst (λ z. (o, i) ∈ z) (plain_missing m e) j)),
        λ r. absurd (Memᴰ.not-nil (subst (λ z. o ∈ z) (outputs_missing d m e) r.0)),
      )
      go (some k) e =
          subst₃ (λ s os hs. ReachesBy (plain_heads d m) o i s os hs) (sym (plain_own m k e acyclic)) (sym (outputs_at d m k e)) (sym (header_at d m k e))
          (of_summary k (plain_heads d m) o i, λ r. in_summary k (plain_heads d m) o i r.0 r.1 r.2)

-- The theorem.
pub summaries : Summaries
unfolding check_design
summaries d = record {
  own = plain_own d;
  missing = plain_missing d;
  reachability = plain_reaches d;
  empty_table = λ m s i. absurd (Memᴰ.not-nil i);
  asked = asked_free d;
  headed = headed_free d;
  each_check = λ before. checks_plain d [] (λ m s i. absurd (Memᴰ.not-nil i)) 0 before;
  whole_check = checks_plain d [] (λ m s i. absurd (Memᴰ.not-nil i)) 0 d;
}
