-- Answers as numbers, and a loop copied from the path. Assumes nothing.
use mathlib.Core.Path.{◌≡◌, refl, sym, ap, subst, ◌∙◌}
use mathlib.Core.Bool.{Bool, true, false}
use mathlib.Core.Logic.{inl, inr}
use mathlib.Core.List.{List, [], ◌∷◌, ◌++◌}
use mathlib.Core.Option.{some, none}
use Prim.Native.Nat.{ℕ, zero, suc, ◌+◌, ◌-◌, ◌<◌, ◌≤◌}
use native.Mathlib.Omega.{arith}
use lib.ListN.{length, get_or, set, length-set, replicate}
use lib.Seq.{get_or-set_same}
use lib.Dec.{eqb, ltb}
use lib.IntN.{ℤ, pos, negsuc}
use borrow.Author.Tests.{lt-ltb, ltb-true, ltb-false, eqb-true, eqb-false, eq-eqb, ne_eqb}
use Rattle.std.specs.Prelude.{Option, Some, None, Result, Ok}
use Rattle.spec.specs.Edge.{Node, signal, inst_out, Head}
use Rattle.graph.specs.Table.{unbiased, node_of, node_words}
use Rattle.graph.specs.Stands.{full, Stands, Heading, Headed, Read}
use Rattle.graph.specs.Search.{next_report}
use Rattle.graph.specs.Leaves.{HeadLeaves, ReadLeaves, Stretch, NextLeaves}
use Rattle.graph.specs.declared.Node as D
use Rattle.graph.specs.declared.Node.TheVariants as kinds
use Rattle.graph.specs.Cycles.{Awaits, Next, words_from}
use Rattle.graph.specs.declared.Full.{Full}
use Rattle.graph.specs.declared.Cycle.{Cycle}
use Rattle.graph.proofs.Tables.{pick_true, pick_false, miss}
use Rattle.graph.proofs.Leaving.{no_number}
use Rattle.consteval.specs.Worth.{biased}
use Rattle.bench_c.specs.Cycles.{node_told, added_of, said, node_said, loop_at, Copied, Taken, HeadTold, ReadTold, Told, NextTold}

-- a number below 512 is a node's
small_at : (i : ℕ) → i < 512 → added_of i ≡ Ok i
small_at i l = rw (lt-ltb i 512 l, added_of)

module _ (a : Result ℕ Full) (g g' : List ℕ) (n m : Node) (start : ℕ) (f : (hs : List Head) → Stands g hs → Headed a g' hs n start) (q : n ≡ m) where
  pub head_at : (i : ℕ) → a ≡ Ok i → (hs : List Head) → Stands g hs → Headed (added_of i) g' hs m start
  head_at i e hs H =
      let h : Heading g' hs m start [] i = subst (λ (x : Node). Heading g' hs x start [] i) q (subst (λ (x : Result ℕ Full). Headed x g' hs n start) e (f hs H)) in
      subst (λ (x : Result ℕ Full). Headed x g' hs m start) (sym (small_at i (omega (arith, h.node.within, h.stands.few)))) h

  -- no graph has a node past the last
  pub head_past : (i : ℕ) → a ≡ Ok i → 512 ≤ i → (g'' : List ℕ) (hs : List Head) → Stands g hs → Headed full g'' hs m start
  head_past i e l g'' hs H =
      let h : Heading g' hs n start [] i = subst (λ (x : Result ℕ Full). Headed x g' hs n start) e (f hs H) in
      absurd (omega (arith, h.node.within, h.stands.few))

  pub head_full : a ≡ full → (hs : List Head) → Stands g hs → Headed full g' hs m start
  head_full e hs H = subst (λ (x : Node). Headed full g' hs x start) q (subst (λ (x : Result ℕ Full). Headed x g' hs n start) e (f hs H))

module _ (a : Result ℕ Full) (g g' : List ℕ) (from : ℕ) (n m : Node)
    (f : (hs : List Head) (h : Node) (start : ℕ) (rs : List Node) → Heading g hs h start rs from → Read a g' hs h start rs from n) (q : n ≡ m) where
  pub read_at : (j : ℕ) → a ≡ Ok j → (hs : List Head) (h : Node) (start : ℕ) (rs : List Node) → Heading g hs h start rs from → Read (Ok 0) g' hs h start rs from m
  read_at j e hs h start rs H =
      subst (λ (x : Node). Read (Ok j) g' hs h start rs from x) q (subst (λ (x : Result ℕ Full). Read x g' hs h start rs from n) e (f hs h start rs H))

  pub read_full : a ≡ full → (hs : List Head) (h : Node) (start : ℕ) (rs : List Node) → Heading g hs h start rs from → Read full g' hs h start rs from m
  read_full e hs h start rs H =
      subst (λ (x : Node). Read full g' hs h start rs from x) q (subst (λ (x : Result ℕ Full). Read x g' hs h start rs from n) e (f hs h start rs H))

-- an index is held as its value says
biased_back : (x : ℕ) → biased (unbiased x) ≡ x
biased_back x = go (ltb x 2147483648) refl
  where
    go : (v : Bool) → ltb x 2147483648 ≡ v → biased (elim v as (λ _. ℤ) [ true ↦ negsuc (2147483647 - x) | false ↦ pos (x - 2147483648) ]) ≡ x
    go true e = omega (arith, ltb-true x 2147483648 e)
    go false e = omega (arith, ltb-false x 2147483648 e)

-- the numbers of a node with an index
pub said_indexed : (ns : List ℕ) (i x o : ℕ) → said ns 2 i x o ≡ node_said ns (inst_out i (some (unbiased x)) o)
said_indexed ns i x o = ap (λ z. said ns 2 i z o) (sym (biased_back x))

-- the node that four numbers say
module _ (k n x o : ℕ) where
  pub told_signal : k ≡ 0 → kinds.Signal n ≡ node_told k n x o
  unfolding node_told
  told_signal e = sym (pick_true (eqb k 0) _ _ (eq-eqb k 0 e))

  pub told_output : ¬ (k ≡ 0) → k ≡ 1 → kinds.Output n o ≡ node_told k n x o
  unfolding node_told
  told_output d e = sym (pick_false (eqb k 0) _ _ (ne_eqb k 0 d) ∙ pick_true (eqb k 1) _ _ (eq-eqb k 1 e))

  pub told_indexed : ¬ (k ≡ 0) → ¬ (k ≡ 1) → kinds.OutputAt n x o ≡ node_told k n x o
  unfolding node_told
  told_indexed d e = sym (pick_false (eqb k 0) _ _ (ne_eqb k 0 d) ∙ pick_false (eqb k 1) _ _ (ne_eqb k 1 e))

  pub told_words : node_of (node_told k n x o) ≡ node_words k n x o
  unfolding node_told
  told_words = go (eqb k 0) (eqb k 1)
    where
      go : (u v : Bool) → node_of (elim u as (λ _. D.Node) [ true ↦ kinds.Signal n | false ↦ elim v as (λ _. D.Node) [ true ↦ kinds.Output n o | false ↦ kinds.OutputAt n x o ] ])
          ≡ elim u as (λ _. Node) [ true ↦ signal n | false ↦ elim v as (λ _. Node) [ true ↦ inst_out n none o | false ↦ inst_out n (some (unbiased x)) o ] ]
      go true v = refl
      go false true = refl
      go false false = refl

-- what heading and reading leave of any words, by the node that the numbers say
module _ (a : Result ℕ Full) (g g' : List ℕ) (n m : D.Node) (start : ℕ) (f : HeadLeaves a g n start g') (q : n ≡ m) where
  leaves : (b : Result ℕ Full) → a ≡ b → HeadLeaves b g m start g'
  leaves b e = subst (λ (x : Result ℕ Full). HeadLeaves x g m start g') e (subst (λ (x : D.Node). HeadLeaves a g x start g') q f)

  pub told_at : (i : ℕ) → a ≡ Ok i → i < 512 → HeadTold i g m start g'
  told_at i e l = inl (l, leaves (Ok i) e)

  -- a number past the last is of words that count more nodes
  pub told_past : (i : ℕ) → a ≡ Ok i → 512 ≤ i → {g'' : List ℕ} → g'' ≡ replicate (length g') 0 → length g' ≡ length g → HeadTold 512 g m start g''
  told_past i e l d z =
      let N = (leaves (Ok i) e).0 in
      inr (refl, omega (arith, N.number), d ∙ ap (λ y. replicate {A = ℕ} y 0) z)

  pub told_full : a ≡ full → HeadTold 512 g m start g'
  told_full e = let F = leaves full e in let k = F.0.many in let l = no_number g m F.0 in inr (refl, omega arith, F.1)

module _ (a : Result ℕ Full) (g g' : List ℕ) (from : ℕ) (n m : D.Node) (f : ReadLeaves a g from n g') (q : n ≡ m) where
  read_leaves : (b : Result ℕ Full) → a ≡ b → ReadLeaves b g from m g'
  read_leaves b e = subst (λ (x : Result ℕ Full). ReadLeaves x g from m g') e (subst (λ (x : D.Node). ReadLeaves a g from x g') q f)

  pub told_read : (i : ℕ) → a ≡ Ok i → ReadTold 1 g from m g'
  told_read i e = (refl, (i, read_leaves (Ok i) e))

  pub told_unread : a ≡ full → ReadTold 0 g from m g'
  told_unread e = read_leaves full e

-- the first k nodes are copied
pub record Copying (w : List ℕ) (p k : ℕ) (ns ns' : List ℕ) : Type 0 where
  pub size : length ns' ≡ length ns
  pub words : (i : ℕ) → i < k → i < length ns → get_or ns' i 0 ≡ get_or w (3074 + (p + i)) 0
  pub others : (i : ℕ) → k ≤ i → get_or ns' i 0 ≡ get_or ns i 0

pub copying_none : (w : List ℕ) (p : ℕ) (ns : List ℕ) → Copying w p 0 ns ns
copying_none w p ns = record { size = refl; words = λ i l m. absurd (omega arith); others = λ i l. refl }

-- a number stored at k, behind what was copied
module _ (w : List ℕ) (p k v : ℕ) (ns₀ ns ns' : List ℕ) (C : Copying w p k ns₀ ns) (e : ns' ≡ set ns k v) where
  stored_size : length ns' ≡ length ns₀
  stored_size = rw e (length-set ns k v ∙ C.size)

  stored_there : k < length ns₀ → get_or ns' k 0 ≡ v
  stored_there l = rw e (get_or-set_same ns k v 0 (omega (arith, C.size)))

  stored_before : (i : ℕ) → i < k → i < length ns₀ → get_or ns' i 0 ≡ get_or w (3074 + (p + i)) 0
  stored_before i l m = rw e (miss ns k i v (λ d. omega arith)) ∙ C.words i l m

  stored_behind : (i : ℕ) → suc k ≤ i → get_or ns' i 0 ≡ get_or ns₀ i 0
  stored_behind i l = rw e (miss ns k i v (λ d. omega arith)) ∙ C.others i (omega arith)

  pub copying_more : v ≡ get_or w (3074 + (p + k)) 0 → Copying w p (k + 1) ns₀ ns'
  copying_more d = record { size = stored_size; words = λ i l m. go i l m (eqb i k) refl; others = λ i l. stored_behind i (omega arith) }
    where
      go : (i : ℕ) → i < k + 1 → i < length ns₀ → (b : Bool) → eqb i k ≡ b → get_or ns' i 0 ≡ get_or w (3074 + (p + i)) 0
      go i l m true f = rw (eqb-true i k f) (stored_there (omega (arith, eqb-true i k f)) ∙ d)
      go i l m false f = let h = eqb-false i k f in stored_before i (omega arith) m

-- the words of a loop
words_get : (w : List ℕ) (p n i : ℕ) (l : List ℕ) → i < n → get_or (words_from w 3074 p n ++ l) i 0 ≡ get_or w (3074 + (p + i)) 0
unfolding words_from
words_get w p zero i l h = absurd (omega arith)
words_get w p (suc n) zero l h = ap (λ z. get_or w z 0) (omega arith)
words_get w p (suc n) (suc i) l h = words_get w (suc p) n i l (omega arith) ∙ ap (λ z. get_or w z 0) (omega arith)

words_last : (w : List ℕ) (p n x : ℕ) → get_or (words_from w 3074 p n ++ x ∷ []) n 0 ≡ x
unfolding words_from
words_last w p zero x = refl
words_last w p (suc n) x = words_last w (suc p) n x

words_length : (w : List ℕ) (p n x : ℕ) → length (words_from w 3074 p n ++ x ∷ []) ≡ suc n
unfolding words_from
words_length w p zero x = refl
words_length w p (suc n) x = ap suc (words_length w (suc p) n x)

pub copied : (w : List ℕ) (p n k v : ℕ) (ns₀ ns ns' : List ℕ) → k ≡ n → Copying w p k ns₀ ns → v ≡ get_or w (3074 + p) 0 → ns' ≡ set ns n v → Copied w p n ns₀ ns' (n + 1)
copied w p n k v ns₀ ns ns' a C d e = record {
  number = omega arith;
  begins = λ i l m. go i (omega (arith, words_length w p n (get_or w (3074 + p) 0))) (omega (arith, stored_size w p n v ns₀ ns ns' D e)) (eqb i n) refl;
  kept = record { size = stored_size w p n v ns₀ ns ns' D e; others = λ i l. stored_behind w p n v ns₀ ns ns' D e i (omega arith) };
}
  where
    D : Copying w p n ns₀ ns
    D = subst (λ z. Copying w p z ns₀ ns) a C

    go : (i : ℕ) → i < suc n → i < length ns₀ → (b : Bool) → eqb i n ≡ b → get_or ns' i 0 ≡ get_or (loop_at w p n) i 0
    go i l m true f = rw (eqb-true i n f) (stored_there w p n v ns₀ ns ns' D e (omega (arith, eqb-true i n f)) ∙ d ∙ sym (words_last w p n (get_or w (3074 + p) 0)))
    go i l m false f =
        let h = eqb-false i n f in
        let s : i < n = omega arith in
        stored_before w p n v ns₀ ns ns' D e i s m ∙ sym (words_get w p n i (get_or w (3074 + p) 0 ∷ []) s)

-- the next report
module _ (a : Option Cycle) (g w w' : List ℕ) (f : (rs : List (List Node)) → Awaits g w rs → Next a g w' rs) (rs : List (List Node)) (H : Awaits g w rs) where
  pub taken_none : a ≡ None → rs ≡ []
  taken_none e = subst (λ (x : Option Cycle). Next x g w' rs) e (f rs H)

  module _ (s : Cycle) (e : a ≡ Some s) where
    found : Next (Some s) g w' rs
    found = subst (λ (x : Option Cycle). Next x g w' rs) e (f rs H)

    pub taken_not : s.to ≤ s.from → rs ≡ []
    taken_not l = absurd (omega (arith, found.2))

    pub taken_loop : (ns ns' : List ℕ) (r : ℕ) → Copied w' s.from (s.to - s.from) ns ns' r → Taken r g w' ns' rs
    taken_loop ns ns' r C =
        subst (λ (z : ℕ). Taken z g w' ns' rs) (sym C.number)
        (loop_at w' s.from (s.to - s.from), found.0, words_length w' s.from (s.to - s.from) (get_or w' (3074 + s.from) 0), C.begins, found.1, found.4)

-- what the next report gives and leaves of any words
module _ (a : Option Cycle) (g w w' : List ℕ) (L : NextLeaves a g w w') (E : (a, w') ≡ next_report g w) where
  told_of : (b : Option Cycle) (r : ℕ) (ns ns' : List ℕ) → a ≡ b → Told b r w' ns ns' → Told (next_report g w).0 r w' ns ns'
  told_of b r ns ns' e T = subst (λ (x : Option Cycle). Told x r w' ns ns') (sym e ∙ ap (λ (x : Option Cycle × List ℕ). x.0) E) T

  next_nothing : (b : Option Cycle) (ns : List ℕ) → a ≡ b → Told b 0 w' ns ns → NextTold 0 g w w' ns ns
  next_nothing b ns e T = record {
    words = ap (λ (x : Option Cycle × List ℕ). x.1) E;
    told = told_of b 0 ns ns e T;
    fewer = λ h. absurd (omega arith);
    before = L.before;
    behind = L.behind;
  }

  pub next_none : (ns : List ℕ) → a ≡ None → NextTold 0 g w w' ns ns
  next_none ns e = next_nothing None ns e (refl, refl)

  module _ (s : Cycle) (e : a ≡ Some s) where
    pub next_no_nodes : (ns : List ℕ) → s.to ≤ s.from → NextTold 0 g w w' ns ns
    next_no_nodes ns l = next_nothing (Some s) ns e (λ h. absurd (omega arith), λ h. (refl, refl))

    pub next_told : s.from < s.to → (ns ns' : List ℕ) (r : ℕ) → Copied w' s.from (s.to - s.from) ns ns' r → NextTold r g w w' ns ns'
    next_told l ns ns' r K =
        let S : Stretch (Some s) w w' = subst (λ (x : Option Cycle). Stretch x w w') e L.stretch in
        record {
          words = ap (λ (x : Option Cycle × List ℕ). x.1) E;
          told = told_of (Some s) r ns ns' e (λ h. K, λ h. absurd (omega arith));
          fewer = λ h. S.1;
          before = L.before;
          behind = L.behind;
        }
