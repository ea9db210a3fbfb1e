-- One list only says what specs/Meaning.antt says of a design: its members are given, none stands twice, and the order decides. So one
-- text only does, and from it the list is read back, since printing loses nothing.
-- Assumes nothing.
use mathlib.Core.Path.{◌≡◌, sym, ◌∙◌, ap, subst, subst⁻¹}
use mathlib.Core.Logic.{◌⊎◌, inl, inr}
use mathlib.Core.Option.{some}
use mathlib.Core.List.Memᴰ
use mathlib.Core.List.{List, [], ◌∷◌, ◌++◌}
use Prim.Native.Nat.{ℕ, zero, suc, ◌<◌}
use native.Mathlib.Omega.{arith}
use lib.ListN.{get_elem?}
use Rattle.spec.specs.Bytes.{Bytes}
use Rattle.spec.specs.Syntax.{Module, Design}
use Rattle.spec.specs.Site.{output_lines}
use Rattle.spec.specs.Block.{line_regs, line_mems, storage_lines}
use Rattle.spec.specs.Edge.{Node, Head}
use Rattle.spec.specs.FindCycles.{next_nodes, roots}
use Rattle.spec.specs.FirstWays.{ReportedBefore}
use Rattle.spec.specs.Report.{misused, many, never, gap, no_block, blocks, mem_blocks, Report, report, loop_report, show_reports}
use Rattle.spec.specs.Graph.{◌∈◌}
use Rattle.spec.specs.Situations.{own_lines, misuses_of}
use Rattle.spec.specs.Meaning.{heads_at, NamedBefore, number_of, stage, StageOrder, Precedes, by_module, by_stage, in_stage, Means, MeansText, OneList}
use Rattle.spec.proofs.Firsts.{head_same, tail_same, same_list}
use Rattle.spec.proofs.CyclesFound.{loops_one_way}
use Rattle.spec.proofs.Printing.{printing}

-- ---- the order goes one way

-- of two beginnings of one list one holds the other
beginnings : {A : Type 0} (f f' b b' : List A) → f ++ b ≡ f' ++ b' → ((a : A) → a ∈ f → a ∈ f') ⊎ ((a : A) → a ∈ f' → a ∈ f)
beginnings [] f' b b' e = inl (λ a i. absurd (Memᴰ.not-nil i))
beginnings (x ∷ f) [] b b' e = inr (λ a i. absurd (Memᴰ.not-nil i))
beginnings {A} (x ∷ f) (y ∷ f') b b' e = go (beginnings f f' b b' (tail_same e))
  where
    left : ((a : A) → a ∈ f → a ∈ f') → (a : A) → (a ≡ x) ⊎ (a ∈ f) → a ∈ (y ∷ f')
    left g a (inl d) = Memᴰ.head (d ∙ head_same e)
    left g a (inr i) = Memᴰ.tail (g a i)

    right : ((a : A) → a ∈ f' → a ∈ f) → (a : A) → (a ≡ y) ⊎ (a ∈ f') → a ∈ (x ∷ f)
    right g a (inl d) = Memᴰ.head (d ∙ sym (head_same e))
    right g a (inr i) = Memᴰ.tail (g a i)

    go : ((a : A) → a ∈ f → a ∈ f') ⊎ ((a : A) → a ∈ f' → a ∈ f) → ((a : A) → a ∈ (x ∷ f) → a ∈ (y ∷ f')) ⊎ ((a : A) → a ∈ (y ∷ f') → a ∈ (x ∷ f))
    go (inl g) = inl (λ a i. left g a (Memᴰ.cases_cons i))
    go (inr g) = inr (λ a i. right g a (Memᴰ.cases_cons i))

named_one_way : {A : Type 0} (name : A → ℕ) (l : List A) (n n' : ℕ) → NamedBefore name l n n' → NamedBefore name l n' n → ⊥
named_one_way {A} name l n n' p q = go (beginnings p.front q.front p.back q.back (sym p.parted ∙ q.parted))
  where
    go : ((a : A) → a ∈ p.front → a ∈ q.front) ⊎ ((a : A) → a ∈ q.front → a ∈ p.front) → ⊥
    go (inl f) = q.other p.one (f p.one p.stands) p.named
    go (inr f) = p.other q.one (f q.one q.stands) q.named

start_one_way : (s n s' n' : ℕ) → (s < s') ⊎ ((s ≡ s') × (n < n')) → (s' < s) ⊎ ((s' ≡ s) × (n' < n)) → ⊥
start_one_way s n s' n' (inl h) (inl g) = omega arith
start_one_way s n s' n' (inl h) (inr (e, g)) = omega arith
start_one_way s n s' n' (inr (d, h)) (inl g) = omega arith
start_one_way s n s' n' (inr (d, h)) (inr (e, g)) = omega arith

-- the order within a stage, by the stage's number and the names and STARTs alone
record Key : Type 0 where
  start : ℕ
  name : ℕ
  walk : List Node

abbrev key : Report → Key
key (report m s n x) = record { start = s; name = n; walk = [] }
key (loop_report m s w) = record { start = s; name = 0; walk = w }

abbrev KeyOrder : List Head → Module → ℕ → Key → Key → Type 0
KeyOrder hs k zero a b = NamedBefore (λ v. v.name) (misuses_of k) a.name b.name
KeyOrder hs k (suc zero) a b = (a.start < b.start) ⊎ ((a.start ≡ b.start) × (a.name < b.name))
KeyOrder hs k (suc (suc zero)) a b = NamedBefore (λ o. o.name) (output_lines (own_lines k)) a.name b.name
KeyOrder hs k (suc (suc (suc zero))) a b = NamedBefore (λ r. r.name) (storage_lines line_regs (own_lines k)) a.name b.name
KeyOrder hs k (suc (suc (suc (suc zero)))) a b = NamedBefore (λ r. r.name) (storage_lines line_mems (own_lines k)) a.name b.name
KeyOrder hs k (suc (suc (suc (suc (suc i))))) a b = ReportedBefore (next_nodes hs) (roots hs) a.walk b.walk

key_one_way : (hs : List Head) (k : Module) (i : ℕ) (a b : Key) → KeyOrder hs k i a b → KeyOrder hs k i b a → ⊥
key_one_way hs k zero a b p q = named_one_way (λ v. v.name) (misuses_of k) a.name b.name p q
key_one_way hs k (suc zero) a b p q = start_one_way a.start a.name b.start b.name p q
key_one_way hs k (suc (suc zero)) a b p q = named_one_way (λ o. o.name) (output_lines (own_lines k)) a.name b.name p q
key_one_way hs k (suc (suc (suc zero))) a b p q = named_one_way (λ r. r.name) (storage_lines line_regs (own_lines k)) a.name b.name p q
key_one_way hs k (suc (suc (suc (suc zero)))) a b p q = named_one_way (λ r. r.name) (storage_lines line_mems (own_lines k)) a.name b.name p q
key_one_way hs k (suc (suc (suc (suc (suc i))))) a b p q = loops_one_way hs a.walk b.walk p q

keyed : (hs : List Head) (k : Module) (r r' : Report) → StageOrder hs k r r' → KeyOrder hs k (stage r) (key r) (key r')
keyed hs k (report m s n (misused u)) (report m' s' n' x) p = p
keyed hs k (report m s n many) (report m' s' n' x) p = p
keyed hs k (report m s n never) (report m' s' n' x) p = p
keyed hs k (report m s n (gap b)) (report m' s' n' x) p = p
keyed hs k (report m s n no_block) (report m' s' n' x) p = p
keyed hs k (report m s n blocks) (report m' s' n' x) p = p
keyed hs k (report m s n mem_blocks) (report m' s' n' x) p = p
keyed hs k (report m s n x) (loop_report m' s' w) p = absurd p
keyed hs k (loop_report m s w) (report m' s' n' x) p = absurd p
keyed hs k (loop_report m s w) (loop_report m' s' w') p = p

stage_one_way : (hs : List Head) (k : Module) (r r' : Report) → stage r ≡ stage r' → StageOrder hs k r r' → StageOrder hs k r' r → ⊥
stage_one_way hs k r r' e p q = key_one_way hs k (stage r) (key r) (key r') (keyed hs k r r' p) (subst⁻¹ (λ z. KeyOrder hs k z (key r') (key r)) e (keyed hs k r' r q))

some_same : {A : Type 0} {a b : A} → some a ≡ some b → a ≡ b
some_same e = cc

precedes_one_way : (d : Design) (r r' : Report) → Precedes d r r' → Precedes d r' r → ⊥
precedes_one_way d r r' (by_module h) (by_module g) = omega arith
precedes_one_way d r r' (by_module h) (by_stage e g) = omega arith
precedes_one_way d r r' (by_module h) (in_stage e g k p s) = omega arith
precedes_one_way d r r' (by_stage e h) (by_module g) = omega arith
precedes_one_way d r r' (by_stage e h) (by_stage f g) = omega arith
precedes_one_way d r r' (by_stage e h) (in_stage f g k p s) = omega arith
precedes_one_way d r r' (in_stage e h k p s) (by_module g) = omega arith
precedes_one_way d r r' (in_stage e h k p s) (by_stage f g) = omega arith
precedes_one_way d r r' (in_stage e h k p s) (in_stage f g k' p' s') =
    let same : k' ≡ k = some_same (sym p' ∙ ap (get_elem? d) (sym e) ∙ p) in
    stage_one_way (heads_at d (number_of r) k) k r r' h s (subst (λ z. StageOrder (heads_at d (number_of r) z) z r' r) same (subst⁻¹ (λ i. StageOrder (heads_at d i k') k' r' r) e s'))

-- ---- the theorem

means_in : (d : Design) (l l' : List Report) → Means d l → Means d l' → (r : Report) → r ∈ l → r ∈ l'
means_in d l l' p q (report m start n x) i = (q.about m start n x).1 ((p.about m start n x).0 i)
means_in d l l' p q (loop_report m start w) i = (q.loops m start w).1 ((p.loops m start w).0 i)

same_reports : (d : Design) (l l' : List Report) → Means d l → Means d l' → l ≡ l'
same_reports d l l' p q = same_list (Precedes d) (precedes_one_way d) l l' p.once q.once p.order q.order (λ r. (means_in d l l' p q r, means_in d l' l q p r))

one_text : (d : Design) (t t' : Bytes) → MeansText d t → MeansText d t' → t ≡ t'
one_text d t t' (l, e, p) (l', f, q) = e ∙ ap show_reports (same_reports d l l' p q) ∙ sym f

read_back : (d : Design) (t : Bytes) → MeansText d t → (l : List Report) → t ≡ show_reports l → Means d l
read_back d t (l', e, p) l f = subst (Means d) (printing.same l' l (sym e ∙ f)) p

pub one_list : OneList
one_list = record { list = same_reports; text = one_text; read_back = read_back }
