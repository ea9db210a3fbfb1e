-- Which names are instances, and reading their outputs: one law for each way of `is_inst`, `output_read` and `index_read`.
-- Assumes nothing.
use mathlib.Core.Path.{◌≡◌, refl, sym, ◌∙◌, ap}
use mathlib.Core.Bool.{Bool, true, false}
use mathlib.Core.List.{List, []}
use mathlib.Core.Option.{some}
use Prim.Native.Nat.{ℕ, zero, suc, ◌-◌}
use native.Mathlib.Omega.{arith}
use lib.ListN.{get_or}
use lib.Dec.{ltb}
use lib.IntN.{ℤ, negsuc}
use borrow.Author.Tests.{ltb-true}
use Rattle.lines.specs.Kinds.{kind_by}
use Rattle.lines.specs.declared.kinds.Kind.{Kind}
use Rattle.lines.specs.declared.kinds.Kind.TheVariants.{Inst}
use Rattle.lines.proofs.KindLaws.{same}
use Rattle.std.specs.Prelude.{Result, Option, Some, None, Ok, Err}
use Rattle.spec.specs.Value.{Value}
use Rattle.spec.specs.Edge.{Node, inst_out, no_reads, Head, is_inst, indexed_reads}
use Rattle.graph.specs.Table.{unbiased}
use Rattle.graph.specs.Stands.{full, Heading, Read}
use Rattle.graph.specs.declared.Full.{Full}
use Rattle.consteval.specs.declared.Outside.{Outside}
use Rattle.consteval.specs.Worth.{Answer, signed, worth}
use Rattle.edges.specs.Reads.{kind_word}
use Rattle.edges.specs.Shows.{one_read, NodesRead, inst_by}
use Rattle.edges.proofs.ReadLaws.{read_none, read_one, read_out}

-- the whole number that a word holds, in both crates
pub same_word : (x : ℕ) → signed x ≡ unbiased x
same_word x = go (ltb x 2147483648) refl
  where
    go : (b : Bool) → ltb x 2147483648 ≡ b → signed x ≡ unbiased x
    go true e = let l = ltb-true x 2147483648 e in let h : 2147483648 - suc x ≡ 2147483647 - x = omega arith in rw (e, unbiased) (ap negsuc h)
    go false e = rw (e, unbiased)

inst_by_byte : (b : ℕ) → same (kind_by b) (Some Inst) ≡ is_inst (kind_word b)
inst_by_byte zero = refl
inst_by_byte (suc zero) = refl
inst_by_byte (suc (suc zero)) = refl
inst_by_byte (suc (suc (suc zero))) = refl
inst_by_byte (suc (suc (suc (suc zero)))) = refl
inst_by_byte (suc (suc (suc (suc (suc zero))))) = refl
inst_by_byte (suc (suc (suc (suc (suc (suc b)))))) = refl

pub inst_same : (kinds : List ℕ) (i : ℕ) {o : Option Kind} → o ≡ kind_by (get_or kinds i 0) → same o (Some Inst) ≡ inst_by kinds i
inst_same kinds i q = ap (λ (o : Option Kind). same o (Some Inst)) q ∙ inst_by_byte (get_or kinds i 0)

-- what an index reads, by its value
module _ (i p : ℕ) {v : Answer} {z : Value} (qv : worth v ≡ z) where
  by_value : (u : Answer) → v ≡ u → indexed_reads i (worth u) p ≡ indexed_reads i z p
  by_value u e = ap (λ (y : Value). indexed_reads i y p) (ap worth (sym e) ∙ qv)

  pub reads_missing : v ≡ Ok None → no_reads ≡ indexed_reads i z p
  reads_missing e = by_value (Ok None) e

  pub reads_outside : {f : Outside} → v ≡ Err f → record { nodes = []; out = true } ≡ indexed_reads i z p
  reads_outside {f} e = by_value (Err f) e

  pub reads_known : {x : ℕ} → v ≡ Ok (Some x) → one_read (inst_out i (some (unbiased x)) p) ≡ indexed_reads i z p
  reads_known {x} e = ap (λ (u : ℤ). one_read (inst_out i (some u) p)) (sym (same_word x)) ∙ by_value (Ok (Some x)) e

module _ (g : List ℕ) (from : ℕ) where
  module _ (m : Node) (a : Result ℕ Full) (g' : List ℕ) (read : (hs : List Head) (n : Node) (start : ℕ) (rs : List Node) → Heading g hs n start rs from → Read a g' hs n start rs from m) where
    pub output_at : {j : ℕ} → a ≡ Ok j → NodesRead true (one_read m) g g' from
    output_at e hs n start rs h = read_one hs n start from a true g' rs m (read hs n start rs h) (λ j f. refl) (λ f. let x : ◌≡◌ {A = ℕ} 0 1 = cc in absurd (omega arith))

    pub output_full : a ≡ full → NodesRead false (one_read m) g g' from
    output_full e hs n start rs h = read_one hs n start from a false g' rs m (read hs n start rs h) (λ j f. let x : ◌≡◌ {A = ℕ} 0 1 = cc in absurd (omega arith)) (λ f. refl)

  -- the index: its value
  module _ (i p : ℕ) {v : Answer} {z : Value} (qv : worth v ≡ z) where
    pub index_missing : v ≡ Ok None → NodesRead true (indexed_reads i z p) g g from
    index_missing e = rw (sym qv ∙ ap worth e) (λ hs n start rs h. read_none hs n start from g rs h)

    pub index_outside : (g' : List ℕ) {f : Outside} → v ≡ Err f → NodesRead false (indexed_reads i z p) g g' from
    index_outside g' e = rw (sym qv ∙ ap worth e) (λ hs n start rs h. read_out hs n start from g' rs)

    module _ {x : ℕ} (e : v ≡ Ok (Some x)) (a : Result ℕ Full) (g' : List ℕ) (read : (hs : List Head) (n : Node) (start : ℕ) (rs : List Node) → Heading g hs n start rs from → Read a g' hs n start rs from (inst_out i (some (unbiased x)) p)) where
      pub index_at : {j : ℕ} → a ≡ Ok j → NodesRead true (indexed_reads i z p) g g' from
      index_at f = rw (sym (reads_known i p qv e)) (output_at (inst_out i (some (unbiased x)) p) a g' read f)

      pub index_full : a ≡ full → NodesRead false (indexed_reads i z p) g g' from
      index_full f = rw (sym (reads_known i p qv e)) (output_full (inst_out i (some (unbiased x)) p) a g' read f)
