-- What the limits count is counted once, and what every refusal returns (specs/Counts.antt).
-- Assumes nothing.
use mathlib.Core.Path.{◌≡◌, refl, sym, ◌∙◌, ap, ap₂, subst, subst⁻¹}
use mathlib.Core.Bool.{true, false}
use mathlib.Core.Logic.{◌⊎◌, inl, inr, ◌↔◌}
use mathlib.Core.List.Memᴰ
use mathlib.Core.List.{List, [], ◌∷◌, ◌++◌, map}
use Prim.Native.Nat.{ℕ, suc, ◌+◌, ◌≤◌}
use native.Mathlib.Omega.{arith}
use lib.ListN.{length, length-append, length-map}
use lib.Dec.{eqb, ltb}
use borrow.Author.Tests.{ltb-true, ltb-false}
use Rattle.spec.specs.Bytes.{Bytes, onto}
use Rattle.spec.specs.Syntax.{Header}
use Rattle.spec.specs.Refusal.{Before, decode, lines, ends_in_feed, Verdict, well_formed, refused, refusal}
use Rattle.spec.specs.Collect.{Collected}
use Rattle.spec.specs.Block.{Pair, has_pair, different_pairs, all_pairs, pairs}
use Rattle.spec.specs.DepthFirst.{each_once}
use Rattle.spec.specs.Edge.{Node, same_node, Head, all_nodes, head_nodes, reads_of, edges_from, edge_count}
use Rattle.spec.specs.Report.{show_reports}
use Rattle.spec.specs.Check.{check_design, refuse, Lent, too_short, check_drivers}
use Rattle.spec.specs.Graph.{◌∈◌, Once}
use Rattle.spec.specs.Reading.{Fault, not_one_form, badly_written, out_of_range, out_of_place, one_too_many, feeds, Refused, bad_byte, no_feed, bad_line}
use Rattle.spec.specs.Counts.{Counted, IsNode, IsEdge, Counts, Numbered, too_long, in_line, limit_passed, no_room, RefusalsKeep}
use Rattle.spec.proofs.Numbers.{if_case}
use Rattle.spec.proofs.Lists.{once_append, once_map}
use Rattle.spec.proofs.HeadLaws.{in_either, in_first}
use Rattle.spec.proofs.Nodes.{same_node_yes, same_node_refl, each_once_in, in_each_once, each_once_once, read_by, reads_all, reads_of_read, read_reads_of, reads_of_once, reads_listed, head_in, reader_headed, headed_all}
use Rattle.spec.proofs.Flags.{clash, which}
use Rattle.spec.proofs.Meetings.{of_different, in_different, in_has_pair}
use Rattle.spec.proofs.Refusals.{fault_number, by_text, if_short, if_full, if_longer, if_fits}
use Rattle.spec.proofs.Reading.{reading}

-- nodes
node_of : (hs : List Head) (n : Node) → n ∈ all_nodes hs → IsNode hs n
unfolding all_nodes
node_of [] n i = absurd (Memᴰ.not-nil i)
node_of (h ∷ hs) n i =
    in_first (λ e. (h, Memᴰ.head refl, inl e))
    (in_either h.reads (λ j. (h, Memᴰ.head refl, inr j)) (λ j. let r = node_of hs n j in (r.0, Memᴰ.tail r.1, r.2))) i

of_node : (hs : List Head) (n : Node) → IsNode hs n → n ∈ all_nodes hs
of_node hs n (h, i, inl e) = headed_all hs (Memᴰ.cast e (head_in hs i))
of_node hs n (h, i, inr j) = reads_listed hs i j

nodes_counted : (hs : List Head) → Counted (IsNode hs) (each_once same_node (all_nodes hs))
nodes_counted hs =
    record {
      once = each_once_once same_node same_node_yes same_node_refl (all_nodes hs);
      all = λ n. (
        λ i. node_of hs n (each_once_in same_node same_node_yes same_node_refl (all_nodes hs) i),
        λ h. in_each_once same_node same_node_yes same_node_refl (all_nodes hs) (of_node hs n h),
      );
    }

-- edges, node by node
edge_list : List Head → List Node → List (Node × Node)
edge_list hs [] = []
edge_list hs (n ∷ ns) = map (λ x. (n, x)) (reads_of hs n) ++ edge_list hs ns

edge_length : (hs : List Head) (ns : List Node) → edges_from hs ns ≡ length (edge_list hs ns)
unfolding edges_from edge_list
edge_length hs [] = refl
edge_length hs (n ∷ ns) =
    let f : Node → Node × Node = (λ x. (n, x)) in
    sym (length-append (map f (reads_of hs n)) (edge_list hs ns) ∙ ap₂ ◌+◌ (length-map (reads_of hs n) f) (sym (edge_length hs ns)))

of_edges : (hs : List Head) (ns : List Node) (e : Node × Node) → e ∈ edge_list hs ns → (e.0 ∈ ns) × (e.1 ∈ reads_of hs e.0)
unfolding edge_list
of_edges hs [] e i = absurd (Memᴰ.not-nil i)
of_edges hs (n ∷ ns) e i = in_either (map f (reads_of hs n)) here (λ j. let r = of_edges hs ns e j in (Memᴰ.tail r.0, r.1)) i
  where
    f : Node → Node × Node
    f x = (n, x)

    here : e ∈ map f (reads_of hs n) → (e.0 ∈ (n ∷ ns)) × (e.1 ∈ reads_of hs e.0)
    here j =
        let r = Memᴰ.of_map f (reads_of hs n) j in
        (Memᴰ.head (ap (λ z. z.0) (sym r.2)), subst (λ (z : Node × Node). z.1 ∈ reads_of hs z.0) r.2 r.1)

in_edges : (hs : List Head) (ns : List Node) (n x : Node) → n ∈ ns → x ∈ reads_of hs n → (n, x) ∈ edge_list hs ns
unfolding edge_list
in_edges hs [] n x i j = absurd (Memᴰ.not-nil i)
in_edges hs (m ∷ ns) n x i j = in_first here (λ k. Memᴰ.append_right (map f (reads_of hs m)) (in_edges hs ns n x k j)) i
  where
    f : Node → Node × Node
    f y = (m, y)

    here : n ≡ m → (n, x) ∈ (map f (reads_of hs m) ++ edge_list hs ns)
    here e =
        let g : ◌≡◌ {A = Node × Node} (n, x) (m, x) = (λ t. (e t, x)) in
        Memᴰ.append_left (edge_list hs ns) (Memᴰ.cast g (Memᴰ.map f (subst (λ z. x ∈ reads_of hs z) e j)))

edges_once : (hs : List Head) (ns : List Node) → Once ns → Once (edge_list hs ns)
unfolding edge_list
edges_once hs [] o = tt
edges_once hs (n ∷ ns) o =
    once_append {l = map f (reads_of hs n)} (once_map f (λ a b e. ap (λ z. z.1) e) (reads_of hs n) (reads_of_once hs n)) (edges_once hs ns o.1)
    (λ e i j. let r = Memᴰ.of_map f (reads_of hs n) i in o.0 (Memᴰ.cast (ap (λ z. z.0) r.2) (of_edges hs ns e j).0))
  where
    f : Node → Node × Node
    f x = (n, x)

edges_counted : (hs : List Head) → (es : List (Node × Node)) × Counted (IsEdge hs) es × (edge_count hs ≡ length es)
unfolding edge_count
edges_counted hs = (edge_list hs heads, record { once = edges_once hs heads (each_once_once same_node same_node_yes same_node_refl (head_nodes hs)); all = all }, edge_length hs heads)
  where
    heads : List Node
    heads = each_once same_node (head_nodes hs)

    all : (e : Node × Node) → e ∈ edge_list hs heads ↔ IsEdge hs e
    all e = (
      λ i. read_by hs e.0 (reads_of_read hs e.0 (of_edges hs heads e i).1),
      λ (h, i, f, j).
          let r = reads_all hs e.0 i f j in
          in_edges hs heads e.0 e.1 (in_each_once same_node same_node_yes same_node_refl (head_nodes hs) (reader_headed hs e.0 r)) (read_reads_of hs e.0 r),
    )

-- pairs of name and block
different_once : (ps : List Pair) → Once (different_pairs ps)
unfolding different_pairs
different_once [] = tt
different_once (p ∷ ps) =
    if_case (λ (l : List Pair). Once l) (has_pair p ps) _ _ (λ e. different_once ps) (λ e. (λ i. clash (in_has_pair (of_different ps i)) e, different_once ps))

pairs_counted : (hs : List Header) (cs : List Collected) → Counted (λ p. p ∈ all_pairs hs cs) (pairs hs cs)
unfolding pairs
pairs_counted hs cs = record { once = different_once (all_pairs hs cs); all = λ p. (of_different (all_pairs hs cs), in_different (all_pairs hs cs)) }

pub counts : Counts
counts = record { nodes = nodes_counted; edges = edges_counted; name_block_pairs = pairs_counted }

-- the number and line of a fault
fault_above : (b : Before) (s : Bytes) (k : ℕ) → Fault b s k → 3 ≤ k
fault_above b s k (not_one_form e) = omega arith
fault_above b s k (badly_written e) = omega arith
fault_above b s k (out_of_range w e) = omega arith
fault_above b s k (out_of_place w e) = omega arith
fault_above b s k (one_too_many w e) = omega arith

some_line : (text : Bytes) → ends_in_feed text ≡ false → 1 ≤ length (lines text)
unfolding ends_in_feed lines onto
some_line [] e = absurd (clash refl e)
some_line (c ∷ s) e = if_case (λ (l : List Bytes). 1 ≤ length l) (eqb c 10) _ _ (λ h. omega arith) (λ h. onto_some c (lines s))
  where
    onto_some : (c : ℕ) (l : List Bytes) → 1 ≤ length (onto c l)
    onto_some c [] = omega arith
    onto_some c (t ∷ l) = omega arith

text_numbered : (text : Bytes) (k n : ℕ) → Refused text k n → Numbered k n
text_numbered text k n (Refused.too_long h) = too_long
text_numbered text k n (bad_byte x c y l e i h) = in_line 2 (suc (feeds x)) (omega arith) (omega arith) (omega arith)
text_numbered text k n (no_feed l i h) = in_line 2 (length (lines text)) (omega arith) (omega arith) (some_line text h)
text_numbered text k n (bad_line before s after k' l i f e c h) = in_line k' (suc (length before)) (omega (arith, fault_above _ s k' h.fault)) (fault_number _ s k' h.fault).1 (omega arith)

-- every refusal
module _ (working : List Lent) (text buffer : Bytes) where
  abbrev Keeps : Type 0
  Keeps = Numbered (check_drivers working text buffer).number (check_drivers working text buffer).line
      × (check_drivers working text buffer ≡ refuse (check_drivers working text buffer).number (check_drivers working text buffer).line buffer)

  keeps : (k n : ℕ) → Numbered k n → check_drivers working text buffer ≡ refuse k n buffer → Keeps
  keeps k n h e = subst⁻¹ (λ a. Numbered a.number a.line × (a ≡ refuse a.number a.line buffer)) e (h, refl)

pub refusals_keep : RefusalsKeep
refusals_keep working text buffer h = go (which (too_short working)) (refusal text) refl
  where
    checked : too_short working ≡ false → refusal text ≡ well_formed → ((check_design (decode text)).full ≡ true) ⊎ ((check_design (decode text)).full ≡ false)
        → (ltb (length buffer) (length (show_reports (check_design (decode text)).reports)) ≡ true) ⊎ (ltb (length buffer) (length (show_reports (check_design (decode text)).reports)) ≡ false) → Keeps working text buffer
    checked long fine (inl f) l = keeps working text buffer 20 0 limit_passed (if_full working text buffer long fine f)
    checked long fine (inr f) (inl l) = keeps working text buffer 21 0 no_room (if_longer working text buffer long fine f (ltb-true (length buffer) _ l))
    checked long fine (inr f) (inr l) = absurd (h (ap (λ a. a.number) (if_fits working text buffer long fine f (ltb-false (length buffer) _ l))))

    go : (too_short working ≡ true) ⊎ (too_short working ≡ false) → (v : Verdict) → refusal text ≡ v → Keeps working text buffer
    go (inl short) v e = keeps working text buffer 20 0 limit_passed (if_short working text buffer short)
    go (inr long) (refused k n) e = keeps working text buffer k n (text_numbered text k n (reading.lowest text k n e)) (by_text working text buffer k n long e)
    go (inr long) well_formed e = checked long e (which (check_design (decode text)).full) (which (ltb (length buffer) (length (show_reports (check_design (decode text)).reports))))
