-- An emptied graph is that of no heads. Assumes nothing.
use mathlib.Core.Path.{◌≡◌, refl, sym, ◌∙◌, ap, subst}
use mathlib.Core.Bool.{Bool, true, false}
use mathlib.Core.Logic.{inl, inr}
use mathlib.Core.List.Memᴰ
use mathlib.Core.List.{List, []}
use Prim.Native.Nat.{ℕ, zero, suc, ◌+◌, ◌-◌, ◌≤◌, ◌<◌}
use native.Mathlib.Omega.{arith}
use lib.ListN.{length, get_or, set}
use lib.Seq.{ext_get_or}
use lib.Dec.{ltb}
use borrow.Author.Tests.{ltb-true, ltb-false}
use Rattle.spec.specs.Edge.{all_nodes, edges_from}
use Rattle.graph.specs.Table.{nodes_below, newest, edges_below, out}
use Rattle.graph.specs.Stands.{graph_places, Stands}
use Rattle.graph.specs.Cycles.{Zeroed, zeroed, emptied}
use Rattle.graph.proofs.Sorting.{zeroed_none, zeroed_more}

-- words with no node, no edge and no first edge are the graph of no heads
stands_none : (g : List ℕ) → graph_places ≤ length g → get_or g 0 0 ≡ 0 → get_or g 1 0 ≡ 0 → ((s : ℕ) → s < 512 → get_or g (3074 + s) 0 ≡ 0) → Stands g []
unfolding newest nodes_below edges_below out all_nodes edges_from
stands_none g h a b f = record {
  sized = h;
  few = omega arith;
  once = rw a tt;
  listed = λ m i. rw a at i;
  all = λ m i. absurd (Memᴰ.not-nil i);
  started = λ i l. absurd (omega arith);
  headed = λ i l. absurd (omega arith);
  linked = record {
    room = omega arith;
    few = omega arith;
    sources = λ i l. absurd (omega arith);
    firsts = λ s l. rw b (f s l);
    links = λ i l. absurd (omega arith);
  };
  ends = λ i l. absurd (omega arith);
  reads_once = λ i. rw b tt;
  reads = λ i j l m. absurd (omega arith);
  edge_count = rw a b;
}

-- what is the same words but for k from b on, which are 0, is one list
pub zeroed_same : (b k : ℕ) {w u v : List ℕ} → Zeroed b k w u → Zeroed b k w v → u ≡ v
zeroed_same b k {w} {u} {v} Y Z = ext_get_or 0 u v (Y.size ∙ sym Z.size) (λ j l. before j (ltb j b) refl)
  where
    within : (j : ℕ) → b ≤ j → j < b + k → get_or u j 0 ≡ get_or v j 0
    within j l h =
        let e : b + (j - b) ≡ j = omega arith in
        subst (λ (n : ℕ). get_or u n 0 ≡ get_or v n 0) e (Y.zeros (j - b) (omega arith) ∙ sym (Z.zeros (j - b) (omega arith)))

    behind : (j : ℕ) → b ≤ j → (t : Bool) → ltb j (b + k) ≡ t → get_or u j 0 ≡ get_or v j 0
    behind j l true e = within j l (ltb-true j (b + k) e)
    behind j l false e = let h = ltb-false j (b + k) e in Y.others j (inr h) ∙ sym (Z.others j (inr h))

    before : (j : ℕ) → (t : Bool) → ltb j b ≡ t → get_or u j 0 ≡ get_or v j 0
    before j true e = let h = ltb-true j b e in Y.others j (inl h) ∙ sym (Z.others j (inl h))
    before j false e = behind j (ltb-false j b e) (ltb j (b + k)) refl

pub zeroed_zeroed : (b k : ℕ) (w : List ℕ) → Zeroed b k w (zeroed b k w)
unfolding zeroed
zeroed_zeroed b zero w = zeroed_none b w
zeroed_zeroed b (suc k) w =
    let e : k + 1 ≡ suc k = omega arith in
    subst (λ (n : ℕ). Zeroed b n w (set (zeroed b k w) (b + k) 0)) e (zeroed_more (zeroed_zeroed b k w) refl)

pub zeroed_is : (b k : ℕ) {w w' : List ℕ} → Zeroed b k w w' → w' ≡ zeroed b k w
zeroed_is b k {w} Z = zeroed_same b k Z (zeroed_zeroed b k w)

-- the two counts, one after the other
pub emptied_is : (g w : List ℕ) → Zeroed 3074 512 g w → set (set w 0 0) 1 0 ≡ emptied g
emptied_is g w Z = zeroed_is 0 2 (zeroed_more (zeroed_more (zeroed_none 0 w) refl) refl) ∙ ap (zeroed 0 2) (zeroed_is 3074 512 Z)

pub stands_emptied : (g : List ℕ) → graph_places ≤ length g → Stands (emptied g) []
stands_emptied g h =
    let a = zeroed_zeroed 3074 512 g in
    let b = zeroed_zeroed 0 2 (zeroed 3074 512 g) in
    let s = a.size in
    let t = b.size in
    stands_none (emptied g) (omega arith) (b.zeros 0 (omega arith)) (b.zeros 1 (omega arith)) (λ i q. b.others (3074 + i) (inr (omega arith)) ∙ a.zeros i q)
