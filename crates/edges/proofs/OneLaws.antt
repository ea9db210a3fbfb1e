-- What lines leave of any bytes and words is one answer and one list of words. Assumes nothing.
use mathlib.Core.Path.{◌≡◌, refl, sym, ◌∙◌, ap, subst}
use mathlib.Core.Bool.{Bool, true, false, true≢false}
use mathlib.Core.Logic.{◌⊎◌, inl, inr}
use mathlib.Core.List.{List, [], ◌∷◌}
use mathlib.Core.Option.{some, none}
use Prim.Native.Nat.{ℕ, zero, suc, ◌-◌, ◌<◌, ◌≤◌}
use native.Mathlib.Omega.{arith}
use lib.ListN.{get_or}
use lib.Dec.{ltb}
use lib.IntN.{ℤ, pos, negsuc}
use borrow.Author.Tests.{ltb-true, ltb-false}
use Rattle.std.specs.Prelude.{Ok}
use Rattle.spec.specs.Bytes.{Bytes}
use Rattle.spec.specs.Value.{Value, Names}
use Rattle.spec.specs.Edge.{Node, signal, inst_out, Reads, Summary}
use Rattle.consteval.specs.Worth.{biased}
use Rattle.graph.specs.Table.{unbiased, node_of}
use Rattle.graph.specs.Leaves.{HeadLeaves, ReadFull, ReadLeaves}
use Rattle.graph.specs.declared.Node as declared
use Rattle.graph.specs.declared.Node.TheVariants as nodes
use Rattle.graph.proofs.Leaving.{one_number, not_placed, one_head, not_read, one_read}
use Rattle.edges.specs.Total.{wire_reads, drive_reads, inst_reads}
use Rattle.edges.specs.Leaves.{ReadsLeave, FullAmong, ReadsRefused, ReadsOrCleared, HeadRefused, HeadThenReads, wire_name, wire_start, drive_name, drive_start, inst_start, outputs_in, OutputLeaves, OutputsLeave, OutputsRefused, OneWire, OneDrive, OneInst}

-- a node says which value of the code means it
biased_back : (x : ℕ) → biased (unbiased x) ≡ x
biased_back x = go (ltb x 2147483648) refl
  where
    go : (v : Bool) → ltb x 2147483648 ≡ v → biased (elim v as (λ _. ℤ) [ true ↦ negsuc (2147483647 - x) | false ↦ pos (x - 2147483648) ]) ≡ x
    go true e = omega (arith, ltb-true x 2147483648 e)
    go false e = omega (arith, ltb-false x 2147483648 e)

abbrev code_of : Node → declared.Node
code_of (signal n) = nodes.Signal n
code_of (inst_out i none o) = nodes.Output i o
code_of (inst_out i (some x) o) = nodes.OutputAt i (biased x) o

code_back : (m : declared.Node) → code_of (node_of m) ≡ m
code_back (nodes.Signal n) = refl
code_back (nodes.Output i o) = refl
code_back (nodes.OutputAt i x o) = ap {B = declared.Node} (λ z. nodes.OutputAt i z o) (biased_back x)

one_node : {m k : declared.Node} {n : Node} → node_of m ≡ n → node_of k ≡ n → m ≡ k
one_node {m} {k} {n} e f = sym (code_back m) ∙ ap code_of (e ∙ sym f) ∙ code_back k

-- ---- reads

module _ (from : ℕ) where
  -- the same node read from the same words leaves the same words
  same_read : (g : List ℕ) {m k : declared.Node} → m ≡ k → {i j : ℕ} (g₁ g₂ : List ℕ) → ReadLeaves (Ok i) g from m g₁ → ReadLeaves (Ok j) g from k g₂ → g₂ ≡ g₁
  same_read g {m} {k} e {i} {j} g₁ g₂ p q =
      sym (one_read g m from (Ok i) (Ok j) g₁ g₂ p (subst (λ (z : declared.Node). ReadLeaves (Ok j) g from z g₂) (sym e) q)).1

  one_reads : (ns : List Node) (g g' g'' : List ℕ) → ReadsLeave from ns g g' → ReadsLeave from ns g g'' → g' ≡ g''
  one_reads [] g g' g'' p q = p ∙ sym q
  one_reads (n ∷ ns) g g' g'' p q =
      one_reads ns p.3 g' g'' p.5
      (subst (λ (z : List ℕ). ReadsLeave from ns z g'') (same_read g (one_node p.1 q.1) p.3 q.3 p.4 q.4) q.5)

  not_full : (ns : List Node) (g g' : List ℕ) → ReadsLeave from ns g g' → FullAmong from ns g → ⊥
  not_full [] g g' p x'' = elim x'' [ ]
  not_full (n ∷ ns) g g' p (inl q) =
      not_read g p.0 from p.2 p.3 p.4 (subst (λ (z : declared.Node). ReadFull g from z) (sym (one_node p.1 q.1)) q.2)
  not_full (n ∷ ns) g g' p (inr q) =
      not_full ns p.3 g' p.5
      (subst (λ (z : List ℕ). FullAmong from ns z) (same_read g (one_node p.1 q.1) p.3 q.3 p.4 q.4) q.5)

  not_refused : (q : Reads) (g g' : List ℕ) → ReadsOrCleared true q from g g' → ReadsRefused q from g → ⊥
  not_refused q g g' p (inl e) = true≢false (sym e ∙ p.0)
  not_refused q g g' p (inr f) = not_full q.nodes g g' p.1 f

-- ---- a head and its reads

module _ (g : List ℕ) (n : declared.Node) (start : ℕ) where
  -- the same node headed has the same number and leaves the same words
  module _ {i j : ℕ} {g₁ g₂ : List ℕ} (p : HeadLeaves (Ok i) g n start g₁) (q : HeadLeaves (Ok j) g n start g₂) where
    same_number : j ≡ i
    same_number = one_number g n q.0 p.0

    same_words : g₂ ≡ g₁
    same_words = (one_head g n start (Ok j) (Ok i) g₂ g₁ q p).1

    moved : (P : ℕ → List ℕ → Type 0) → P j g₂ → P i g₁
    moved P h = subst (λ (z : List ℕ). P i z) same_words (subst (λ (z : ℕ). P z g₂) same_number h)

  module _ (q : Reads) where
    not_head : (g' : List ℕ) → HeadThenReads true q g n start g' → HeadRefused q g n start → ⊥
    not_head g' p (inl P) = not_placed g n p.2.0 P
    not_head g' p (inr k) = not_refused p.0 q p.1 g' p.3 (moved p.2 k.2 (λ i z. ReadsRefused q i z) k.3)

    one_headed : (r s : Bool) (g' g'' : List ℕ) → HeadThenReads r q g n start g' → HeadThenReads s q g n start g'' → (r ≡ s) × (g' ≡ g'')
    one_headed true true g' g'' p k =
        (refl, one_reads p.0 q.nodes p.1 g' g'' p.3.1 (moved p.2 k.2 (λ i z. ReadsLeave i q.nodes z g'') k.3.1))
    one_headed true false g' g'' p k = absurd (not_head g' p k.0)
    one_headed false true g' g'' p k = absurd (not_head g'' k p.0)
    one_headed false false g' g'' p k = (refl, p.1 ∙ sym k.1)

module _ (x : Bytes) (d : ℕ) (kinds : List ℕ) (names : Names) (g : List ℕ) where
  pub one_wire : OneWire x d kinds names g
  one_wire r s g' g'' p q = one_headed g (nodes.Signal (wire_name x)) (wire_start x) (wire_reads kinds names d x) r s g' g'' p q

  pub one_drive : OneDrive x d kinds names g
  one_drive r s g' g'' p q = go (get_or kinds (drive_name x) 0) refl
    where
      stays : (get_or kinds (drive_name x) 0 < 2) ⊎ (3 < get_or kinds (drive_name x) 0) → (r ≡ s) × (g' ≡ g'')
      stays o = ((p.other o).0 ∙ sym (q.other o).0, (p.other o).1 ∙ sym (q.other o).1)

      heads : 2 ≤ get_or kinds (drive_name x) 0 → get_or kinds (drive_name x) 0 ≤ 3 → (r ≡ s) × (g' ≡ g'')
      heads l m = one_headed g (nodes.Signal (drive_name x)) (drive_start x) (drive_reads kinds names d x) r s g' g'' (p.driven l m) (q.driven l m)

      go : (k : ℕ) → get_or kinds (drive_name x) 0 ≡ k → (r ≡ s) × (g' ≡ g'')
      go zero e = stays (inl (omega (arith, e)))
      go (suc zero) e = stays (inl (omega (arith, e)))
      go (suc (suc zero)) e = heads (omega (arith, e)) (omega (arith, e))
      go (suc (suc (suc zero))) e = heads (omega (arith, e)) (omega (arith, e))
      go (suc (suc (suc (suc k)))) e = stays (inr (omega (arith, e)))

-- ---- outputs

module _ (q : ℕ → Reads) (v : Value) (x : Bytes) where
  -- the same output headed from the same words leaves the same words
  same_output : (o : ℕ) (g g₁ g₂ : List ℕ) → OutputLeaves true (q o) o v x g g₁ → OutputLeaves true (q o) o v x g g₂ → g₂ ≡ g₁
  same_output o g g₁ g₂ p k =
      (one_headed g p.0 (inst_start x) (q o) true true g₂ g₁
      (subst (λ (z : declared.Node). HeadThenReads true (q o) g z (inst_start x) g₂) (one_node k.1 p.1) k.2) p.2).1

  one_outputs : (os : List ℕ) (g g' g'' : List ℕ) → OutputsLeave q os v x g g' → OutputsLeave q os v x g g'' → g' ≡ g''
  one_outputs [] g g' g'' p k = p ∙ sym k
  one_outputs (o ∷ os) g g' g'' p k =
      one_outputs os p.0 g' g'' p.2 (subst (λ (z : List ℕ). OutputsLeave q os v x z g'') (same_output o g p.0 k.0 p.1 k.1) k.2)

  not_outputs : (os : List ℕ) (g g' : List ℕ) → OutputsLeave q os v x g g' → OutputsRefused q os v x g → ⊥
  not_outputs [] g g' p x3 = elim x3 [ ]
  not_outputs (o ∷ os) g g' p (inl k) =
      not_head g p.1.0 (inst_start x) (q o) p.0 p.1.2
      (subst (λ (z : declared.Node). HeadRefused (q o) g z (inst_start x)) (one_node k.1 p.1.1) k.2)
  not_outputs (o ∷ os) g g' p (inr k) =
      not_outputs os p.0 g' p.2 (subst (λ (z : List ℕ). OutputsRefused q os v x z) (same_output o g p.0 k.0 p.1 k.1) k.2)

pub one_inst : (v : Value) (t : Summary) (x : Bytes) (d : ℕ) (kinds : List ℕ) (names : Names) (g : List ℕ) → OneInst v t x d kinds names g
one_inst v t x d kinds names g true true g' g'' p k = (refl, one_outputs (inst_reads kinds names t d x) v x (outputs_in t) g g' g'' p k)
one_inst v t x d kinds names g true false g' g'' p k = absurd (not_outputs (inst_reads kinds names t d x) v x (outputs_in t) g g' p k.0)
one_inst v t x d kinds names g false true g' g'' p k = absurd (not_outputs (inst_reads kinds names t d x) v x (outputs_in t) g g'' k p.0)
one_inst v t x d kinds names g false false g' g'' p k = (refl, p.1 ∙ sym k.1)
