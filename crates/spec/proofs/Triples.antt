-- No summary triple is kept twice: a module is summarised once, and of its outputs and inputs each pair once.
-- Assumes nothing.
use mathlib.Core.Path.{◌≡◌, refl, sym, ◌∙◌, ap, subst}
use mathlib.Core.Bool.{Bool, true, false}
use mathlib.Core.Option.{Option, some, none, none-ne-some}
use mathlib.Core.List.Memᴰ
use mathlib.Core.List.{List, [], ◌∷◌, map}
use Prim.Native.Nat.{ℕ, zero, suc}
use native.Mathlib.Omega.{arith}
use lib.Dec.{eqb}
use lib.ListN.{length, get_elem?, length-append, length-map}
use borrow.Author.Tests.{eq-eqb}
use Rattle.spec.specs.Syntax.{Header, Inst, Module, Design}
use Rattle.spec.specs.Refusal.{has_name}
use Rattle.spec.specs.Value.{own_vals}
use Rattle.spec.specs.Collect.{Collected, collection}
use Rattle.spec.specs.Site.{kind_of, Output, first_lines}
use Rattle.spec.specs.Edge.{Node, signal, inst_out, Head, Summary, inst_of}
use Rattle.spec.specs.Summary.{is_input, inputs_among, inputs_reached, paired, top_outputs, outputs_reach, module_summary, Kept, kept_summary, triples, Asked, ask_for, lines_heads, make_summary, comb_summary, module_heads}
use Rattle.spec.specs.Check.{check_module_drivers, check_modules, check_design}
use Rattle.spec.specs.Graph.{◌∈◌, Once}
use Rattle.spec.specs.Summaries.{kept_triples, TriplesCounted}
use Rattle.spec.proofs.Lists.{once_append, once_map}
use Rattle.spec.proofs.Numbers.{if_case}
use Rattle.spec.proofs.Flags.{clash, unnamed}
use Rattle.spec.proofs.Firsts.{of_firsts}
use Rattle.spec.proofs.Situations.{lines_firsts}
use Rattle.spec.proofs.HeadLaws.{in_either, in_first}
use Rattle.spec.proofs.Summaries.{of_inputs, reached_found, of_paired, of_outputs}

-- ---- one summary

inputs_once : (hs : List Header) (ns : List Node) → Once ns → Once (inputs_among hs ns)
unfolding inputs_among
inputs_once hs [] o = tt
inputs_once hs (signal n ∷ ns) o =
    let p = inputs_once hs ns o.1 in
    if_case (λ (l : List ℕ). Once l) (is_input (kind_of hs n)) _ _ (λ e. (λ i. o.0 (of_inputs hs ns n i).1, p)) (λ e. p)
inputs_once hs (inst_out i x p ∷ ns) o = inputs_once hs ns o.1

reached_once : (hs : List Header) (heads : List Head) (o : ℕ) → Once (inputs_reached hs heads o)
unfolding inputs_reached
reached_once hs heads o = inputs_once hs _ (reached_found hs heads o).once

paired_once : (o : ℕ) (is : List ℕ) → Once is → Once (paired o is)
unfolding paired
paired_once o [] p = tt
paired_once o (i ∷ is) p = (λ m. p.0 (of_paired o is o i m).1, paired_once o is p.1)

first_new : (seen : List ℕ) (os : List Output) (p : Output) → p ∈ first_lines seen os → ¬ (p.name ∈ seen)
first_new seen os p i = (of_firsts (λ o. o.name) os seen (subst (λ l. p ∈ l) (lines_firsts os seen) i)).1

outputs_once : (hs : List Header) (heads : List Head) (seen : List ℕ) (os : List Output) → Once (outputs_reach hs heads (first_lines seen os))
unfolding first_lines outputs_reach
outputs_once hs heads seen [] = tt
outputs_once hs heads seen (o ∷ os) =
    if_case (λ (l : List Output). Once (outputs_reach hs heads l)) (has_name o.name seen) _ _ (λ e. outputs_once hs heads seen os)
    (λ e. once_append (paired_once o.name (inputs_reached hs heads o.name) (reached_once hs heads o.name)) (outputs_once hs heads (o.name ∷ seen) os) apart)
  where
    apart : (a : ℕ × ℕ) → a ∈ paired o.name (inputs_reached hs heads o.name) → a ∈ outputs_reach hs heads (first_lines (o.name ∷ seen) os) → ⊥
    apart (a, b) i j =
        let (q, k, e) = (of_outputs hs heads (first_lines (o.name ∷ seen) os) a b j).0 in
        first_new (o.name ∷ seen) os q k (Memᴰ.head (e ∙ sym (of_paired o.name (inputs_reached hs heads o.name) a b i).0))

summary_once : (k : Module) (heads : List Head) → Once (module_summary k heads)
unfolding module_summary
summary_once k heads = outputs_once k.header heads [] (top_outputs k.items)

-- ---- the summaries kept

unfoldable pub keys : Kept → List ℕ
keys [] = []
keys (e ∷ kept) = e.0 ∷ keys kept

-- each module once, and each of its pairs
pub record Fine (kept : Kept) : Type 0 where
  pub modules : Once (keys kept)
  pub pairs : (e : ℕ × Summary) → e ∈ kept → Once e.1

-- what is kept stays so, and modules being summarised are not kept meanwhile
pub record Keeps (busy : List ℕ) (kept kept' : Kept) : Type 0 where
  pub fine : Fine kept → Fine kept'
  pub apart : (m : ℕ) → m ∈ busy → ¬ (m ∈ keys kept) → ¬ (m ∈ keys kept')

keeps_same : (busy : List ℕ) (kept : Kept) → Keeps busy kept kept
keeps_same busy kept = record { fine = λ f. f; apart = λ m i h. h }

keeps_on : {busy : List ℕ} {a b c : Kept} → Keeps busy a b → Keeps busy b c → Keeps busy a c
keeps_on p q = record { fine = λ f. q.fine (p.fine f); apart = λ m i h. q.apart m i (p.apart m i h) }

pub not_kept : (kept : Kept) (m : ℕ) → kept_summary kept m ≡ none → ¬ (m ∈ keys kept)
unfolding kept_summary keys
not_kept [] m h i = Memᴰ.not-nil i
not_kept (e ∷ kept) m h i = go (eqb e.0 m) refl (not_kept kept m) h
  where
    go : (b : Bool) → eqb e.0 m ≡ b → (kept_summary kept m ≡ none → ¬ (m ∈ keys kept)) → ◌≡◌ {A = Option Summary} (elim b [ true ↦ some e.1 | false ↦ kept_summary kept m ]) none → ⊥
    go true f ih g = none-ne-some e.1 (sym g)
    go false f ih g = in_first (λ d. clash (eq-eqb e.0 m (sym d)) f) (λ j. ih g j) i

lines_keep : (ask : Kept → ℕ → Asked) (busy : List ℕ) → ((kept : Kept) (m : ℕ) → Keeps busy kept (ask kept m).kept)
    → (hs : List Header) (kept : Kept) (cs : List Collected) → Keeps busy kept (lines_heads ask hs kept cs).kept
unfolding lines_heads ask_for
lines_keep ask busy h hs kept [] = keeps_same busy kept
lines_keep ask busy h hs kept (c ∷ cs) = keeps_on (asked (inst_of c.item)) (lines_keep ask busy h hs (ask_for ask kept (inst_of c.item)).kept cs)
  where
    asked : (i : Option Inst) → Keeps busy kept (ask_for ask kept i).kept
    asked none = keeps_same busy kept
    asked (some i) = h kept i.«module»

made_keeps : (ask : Kept → ℕ → Asked) (busy : List ℕ) (kept : Kept) (m : ℕ) (k : Module) → ((kept' : Kept) (m' : ℕ) → Keeps (m ∷ busy) kept' (ask kept' m').kept)
    → ¬ (m ∈ keys kept) → ¬ (m ∈ busy) → Keeps busy kept (make_summary ask kept m k).kept
unfolding make_summary keys
made_keeps ask busy kept m k h new idle = record {
  fine = λ f. let g = inner.fine f in
      record { modules = (inner.apart m (Memᴰ.head refl) new, g.modules); pairs = λ e i. in_first (λ d. subst (λ (z : ℕ × Summary). Once z.1) (sym d) (summary_once k _)) (λ j. g.pairs e j) i };
  apart = λ a i n j. in_first (λ d. idle (Memᴰ.cast (sym d) i)) (λ l. inner.apart a (Memᴰ.tail i) n l) j;
}
  where
    inner : Keeps (m ∷ busy) kept (lines_heads ask k.header kept (collection (own_vals k) k).lines).kept
    inner = lines_keep ask (m ∷ busy) h k.header kept (collection (own_vals k) k).lines

pub summary_keeps : (d : Design) (fuel : ℕ) (busy : List ℕ) (kept : Kept) (m : ℕ) → Keeps busy kept (comb_summary fuel d busy kept m).kept
unfolding comb_summary
summary_keeps d zero busy kept m = keeps_same busy kept
summary_keeps d (suc fuel) busy kept m = go (get_elem? d m) refl (has_name m busy) refl (kept_summary kept m) refl (summary_keeps d fuel (m ∷ busy))
  where
    go : (x : Option Module) → get_elem? d m ≡ x → (b : Bool) → has_name m busy ≡ b → (s : Option Summary) → kept_summary kept m ≡ s
        → ((kept' : Kept) (m' : ℕ) → Keeps (m ∷ busy) kept' (comb_summary fuel d (m ∷ busy) kept' m').kept) → Keeps busy kept (comb_summary (suc fuel) d busy kept m).kept
    go none x b eb s es ih = rw (x, comb_summary) (keeps_same busy kept)
    go (some k) x true eb s es ih = rw (x, eb, comb_summary) (keeps_same busy kept)
    go (some k) x false eb (some s) es ih = rw (x, eb, es, comb_summary) (keeps_same busy kept)
    go (some k) x false eb none es ih = rw (x, eb, es, comb_summary) (made_keeps (comb_summary fuel d (m ∷ busy)) busy kept m k ih (not_kept kept m es) (unnamed eb))

modules_keep : (d : Design) (kept : Kept) (m : ℕ) (ks : List Module) → Keeps [] kept (check_modules d kept m ks).kept
unfolding check_modules check_module_drivers module_heads
modules_keep d kept m [] = keeps_same [] kept
modules_keep d kept m (k ∷ ks) =
    keeps_on (lines_keep (comb_summary (suc (length d)) d []) [] (summary_keeps d (suc (length d)) []) k.header kept (collection (own_vals k) k).lines)
    (modules_keep d (check_module_drivers d kept m k).kept (suc m) ks)

-- ---- their triples

abbrev triple : ℕ → ℕ × ℕ → ℕ × ℕ × ℕ
triple m p = (m, p.0, p.1)

triple_key : (kept : Kept) (t : ℕ × ℕ × ℕ) → t ∈ kept_triples kept → t.0 ∈ keys kept
unfolding kept_triples keys
triple_key [] t i = absurd (Memᴰ.not-nil i)
triple_key (e ∷ kept) t i =
    in_either (map (triple e.0) e.1) (λ j. let r = Memᴰ.of_map (triple e.0) e.1 j in Memᴰ.head (ap (λ z. z.0) (sym r.2))) (λ j. Memᴰ.tail (triple_key kept t j)) i

triples_once : (kept : Kept) → Fine kept → Once (kept_triples kept)
unfolding kept_triples keys
triples_once [] f = tt
triples_once (e ∷ kept) f =
    once_append (once_map (triple e.0) (λ p q d i. ((d i).1, (d i).2)) e.1 (f.pairs e (Memᴰ.head refl)))
    (triples_once kept (record { modules = f.modules.1; pairs = λ g i. f.pairs g (Memᴰ.tail i) }))
    (λ t i j. f.modules.0 (Memᴰ.cast (ap (λ z. z.0) (Memᴰ.of_map (triple e.0) e.1 i).2) (triple_key kept t j)))

triples_count : (kept : Kept) → triples kept ≡ length (kept_triples kept)
unfolding triples kept_triples
triples_count [] = refl
triples_count (e ∷ kept) =
    omega (arith, triples_count kept, length-append (map (triple e.0) e.1) (kept_triples kept), length-map e.1 (triple e.0))

-- The theorem.
pub triples_counted : (d : Design) → TriplesCounted d
unfolding check_design keys
triples_counted d = record {
  once = triples_once (check_design d).kept ((modules_keep d [] 0 d).fine (record { modules = tt; pairs = λ e i. absurd (Memᴰ.not-nil i) }));
  count = triples_count (check_design d).kept;
}
