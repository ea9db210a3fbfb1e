-- Hints: words behind a graph's own, which say nothing about it. Assumes nothing.
use mathlib.Core.Path.{◌≡◌, sym, ◌∙◌, ap}
use mathlib.Core.List.{List}
use Prim.Native.Nat.{ℕ, ◌+◌, ◌<◌, ◌≤◌}
use native.Mathlib.Omega.{arith}
use lib.ListN.{length, get_or, set, length-set}
use Rattle.std.specs.Prelude.{Result, Ok, Err}
use Rattle.spec.specs.Graph.{Once}
use Rattle.spec.specs.Edge.{Node, Head, edges_from}
use Rattle.graph.specs.Table.{count, edge_total, node_at, Found}
use Rattle.graph.specs.Stands.{nodes, Holds, Stands, IsNode, Got}
use Rattle.graph.specs.declared.Full.{Full}
use Rattle.graph.proofs.Tables.{miss, linked_same}
use Rattle.graph.proofs.Stands.{one_number, node_same, Alike, alike_nodes, alike_edges, alike_source, alike_target}

-- a node that a hint names is the first that is the same, since a node has one number
pub hint_found : (g : List ℕ) (n : Node) (i : ℕ) → i < count g → node_at g i ≡ n → Once (nodes g) → Found g n i
hint_found g n i h e o = record {
  within = omega arith;
  before = λ j l d. let s = one_number g (count g) o j i (omega arith) h (d ∙ sym e) in omega arith;
  here = λ _. e;
}

-- a hint is stored
module _ (g : List ℕ) (s v : ℕ) {g' : List ℕ} (d : g' ≡ set g (15874 + s) v) where
  word : (j : ℕ) → j < 15874 → get_or g' j 0 ≡ get_or g j 0
  word j h = ap (λ z. get_or z j 0) d ∙ miss g (15874 + s) j v (λ e. omega arith)

  size : length g' ≡ length g
  size = ap length d ∙ simp length-set

  hint_alike : count g ≤ 512 → Alike g g'
  hint_alike f = record {
    size = size;
    counts = word 0 (omega arith);
    totals = word 1 (omega arith);
    same = λ j l. node_same g g' j (word (2 + j) (omega arith)) (word (514 + j) (omega arith)) (word (1026 + j) (omega arith)) (word (1538 + j) (omega arith));
    table = λ j l. word (3074 + j) (omega arith);
  }

  module _ {hs : List Head} {xs : List Node} (H : Holds g hs xs) where
    alike : Alike g g'
    alike = hint_alike H.few

    fw : edge_total g ≤ 4096
    fw = H.linked.few

    pub hint_frame : Holds g' hs xs
    hint_frame = record {
      sized = let z = H.sized in omega (arith, size);
      few = let z = H.few in omega (arith, alike.counts);
      once = rw (alike_nodes alike fw) H.once;
      listed = λ n i. H.listed n (rw (alike_nodes alike fw) at i);
      all = λ n i. rw (alike_nodes alike fw) (H.all n i);
      started = λ j l.
          let l' : j < count g = rw alike.counts at l in
          let f = H.few in
          rw (alike.same j l') (word (2050 + j) (omega arith) ∙ H.started j l');
      headed = λ j l.
          let l' : j < count g = rw alike.counts at l in
          let f = H.few in
          rw (alike.same j l', word (2562 + j) (omega arith)) (H.headed j l');
      linked = rw alike.totals (linked_same g g' 3074 (edge_total g) H.linked size alike.table);
      ends = λ j l.
          let l' : j < edge_total g = rw alike.totals at l in
          let e = H.ends j l' in
          (omega (arith, alike_source alike fw j (omega (arith, fw)), alike.counts, e.0), omega (arith, alike_target alike fw j (omega (arith, fw)), alike.counts, e.1));
      reads_once = λ j. rw (alike_edges alike fw) (H.reads_once j);
      reads = λ a b l m.
          let l' : a < count g = rw alike.counts at l in
          let m' : b < count g = rw alike.counts at m in
          rw (alike_edges alike fw, alike.same a l', alike.same b m') (H.reads a b l' m');
      edge_count = alike.totals ∙ H.edge_count ∙ sym (ap (edges_from hs) (alike_nodes alike fw));
    }

    found_frame : {n : Node} {i : ℕ} → Found g n i → Found g' n i
    found_frame {n} {i} F = record {
      within = let w = F.within in omega (arith, alike.counts);
      before = λ j l e. let w = F.within in F.before j l (sym (alike.same j (omega arith)) ∙ e);
      here = λ l. let l' : i < count g = rw alike.counts at l in alike.same i l' ∙ F.here l';
    }

  -- `add` from where the hint is stored
  pub add_hinted : (n : Node) (i : ℕ) → (Once (nodes g) → Found g n i) → (r : Result ℕ Full) (h : List ℕ)
      → (Found g' n i → (hs : List Head) → Stands g' hs → Got r g' h hs n) → (hs : List Head) → Stands g hs → Got r g h hs n
  add_hinted n i F r h f hs H = go r (f (found_frame H (F H.once)) hs (hint_frame H))
    where
      kept : (j : ℕ) (m : Node) → IsNode g j m → IsNode g' j m
      kept j m q = record { within = let l = q.within in omega (arith, (alike H).counts); same = (alike H).same j q.within ∙ q.same }

      go : (r : Result ℕ Full) → Got r g' h hs n → Got r g h hs n
      go (Ok k) (p, q, t) = (p, q, λ j m z. t j m (kept j m z))
      go (Err e) (c, x) = (sym (alike H).counts ∙ c, λ z. x (rw (alike_nodes (alike H) (fw H)) z))
