-- What reads and heads leave of any words, one behind the other: one law for each way. Assumes nothing.
use mathlib.Core.Path.{◌≡◌, refl, sym, ◌∙◌, ap, subst}
use mathlib.Core.Bool.{Bool, true, false, ◌||◌, true≢false}
use mathlib.Core.Logic.{◌⊎◌, inl, inr}
use mathlib.Core.List.{List, [], ◌∷◌, ◌++◌}
use Prim.Native.Nat.{ℕ, zero, suc, ◌+◌, ◌<◌, ◌≤◌}
use native.Mathlib.Omega.{arith}
use lib.ListN.{length, get_or, replicate}
use Rattle.std.specs.Prelude.{Result, Ok}
use Rattle.spec.specs.Bytes.{Bytes}
use Rattle.spec.specs.Value.{Value, Names}
use Rattle.spec.specs.Edge.{Node, Reads, no_reads, and_reads, inst_out, Summary, index_of, has_output}
use Rattle.spec.proofs.Cleared.{ClearedUnless, cleared_of}
use Rattle.lines.specs.Parts.{part_end, piece, follows}
use Rattle.graph.specs.Table.{node_of}
use Rattle.graph.specs.Leaves.{HeadLeaves, ReadLeaves}
use Rattle.graph.specs.declared.Full.{Full}
use Rattle.graph.specs.declared.Node as declared
use Rattle.graph.specs.declared.Node.TheVariants as nodes
use Rattle.graph.specs.Stands.{full}
use Rattle.edges.specs.Shows.{one_read}
use Rattle.edges.specs.Lines.{end_behind, number_at}
use Rattle.edges.specs.Total.{parts_behind, reads_in_order, wire_reads, drive_reads}
use Rattle.edges.specs.Leaves.{ReadsLeave, FullAmong, ReadsRefused, ReadsOrCleared, HeadThenReads, wire_name, wire_start, drive_name, drive_start, inst_name, inst_start, WireLeaves, DriveLeaves, outputs_in, OutputLeaves, OutputsOrCleared, InstLeaves}
use Rattle.edges.proofs.PartLaws.{EndsAt}
use Rattle.edges.proofs.TotalLaws.{number_next, reads_end, reads_first}

-- ---- reads

reads_then : (from : ℕ) (ns ms : List Node) (g g₁ g' : List ℕ) → ReadsLeave from ns g g₁ → ReadsLeave from ms g₁ g' → ReadsLeave from (ns ++ ms) g g'
reads_then from [] ms g g₁ g' p q = subst (λ z. ReadsLeave from ms z g') p q
reads_then from (n ∷ ns) ms g g₁ g' p q = (p.0, p.1, p.2, p.3, p.4, reads_then from ns ms p.3 g₁ g' p.5 q)

full_first : (from : ℕ) (ns ms : List Node) (g : List ℕ) → FullAmong from ns g → FullAmong from (ns ++ ms) g
full_first from [] ms g x' = elim x' [ ]
full_first from (n ∷ ns) ms g (inl p) = inl p
full_first from (n ∷ ns) ms g (inr p) = inr (p.0, p.1, p.2, p.3, p.4, full_first from ns ms p.3 p.5)

full_then : (from : ℕ) (ns ms : List Node) (g g₁ : List ℕ) → ReadsLeave from ns g g₁ → FullAmong from ms g₁ → FullAmong from (ns ++ ms) g
full_then from [] ms g g₁ p q = subst (λ z. FullAmong from ms z) p q
full_then from (n ∷ ns) ms g g₁ p q = inr (p.0, p.1, p.2, p.3, p.4, full_then from ns ms p.3 g₁ p.5 q)

as_long : (g g₁ g' : List ℕ) → length g₁ ≡ length g → g' ≡ replicate (length g₁) 0 → g' ≡ replicate (length g) 0
as_long g g₁ g' e q = q ∙ ap (λ (k : ℕ). replicate {A = ℕ} k 0) e

module _ (from : ℕ) (g : List ℕ) where
  -- the same reads
  pub reads_as : {p q : Reads} → p ≡ q → (r : Bool) (g' : List ℕ) → ReadsOrCleared r p from g g' → ReadsOrCleared r q from g g'
  reads_as e r g' h = subst (λ z. ReadsOrCleared r z from g g') e h

  -- nothing is read
  pub reads_none : {q : Reads} → no_reads ≡ q → ReadsOrCleared true q from g g
  reads_none e = reads_as e true g (refl, refl)

  -- an index is outside INT
  pub reads_out : {q : Reads} → record { nodes = []; out = true } ≡ q → (g' : List ℕ) → g' ≡ replicate (length g) 0 → ReadsOrCleared false q from g g'
  reads_out e g' c = reads_as e false g' (inl refl, c)

  -- one node is read
  module _ (m : declared.Node) (a : Result ℕ Full) (g' : List ℕ) (l : ReadLeaves a g from m g') {q : Reads} (e : one_read (node_of m) ≡ q) where
    pub read_at : {i : ℕ} → a ≡ Ok i → ReadsOrCleared true q from g g'
    read_at {i} f = reads_as e true g' (refl, (m, refl, i, g', subst (λ z. ReadLeaves z g from m g') f l, refl))

    pub read_full : a ≡ full → ReadsOrCleared false q from g g'
    read_full f = let h = subst (λ z. ReadLeaves z g from m g') f l in reads_as e false g' (inr (inl (m, refl, h.0)), h.1)

  module _ (p q : Reads) (g₁ : List ℕ) where
    out_first : (b c : Bool) → b ≡ true → b || c ≡ true
    out_first b c e = rw e

    out_then : (b c : Bool) → b ≡ false → c ≡ true → b || c ≡ true
    out_then b c e f = rw (e, f)

    out_none : (b c : Bool) → b ≡ false → c ≡ false → b || c ≡ false
    out_none b c e f = rw (e, f)

    refused_first : ReadsRefused p from g → ReadsRefused (and_reads p q) from g
    refused_first (inl e) = inl (out_first p.out q.out e)
    refused_first (inr f) = inr (full_first from p.nodes q.nodes g f)

    refused_then : ReadsOrCleared true p from g g₁ → ReadsRefused q from g₁ → ReadsRefused (and_reads p q) from g
    refused_then h (inl e) = inl (out_then p.out q.out h.0 e)
    refused_then h (inr f) = inr (full_then from p.nodes q.nodes g g₁ h.1 f)

    -- the first goes no further
    pub reads_stop : (b : Bool) → b ≡ false → ReadsOrCleared b p from g g₁ → ReadsOrCleared false (and_reads p q) from g g₁
    reads_stop b e h = let k = subst (λ z. ReadsOrCleared z p from g g₁) e h in (refused_first k.0, k.1)

    -- both are read
    pub reads_both : length g₁ ≡ length g → (b : Bool) → b ≡ true → ReadsOrCleared b p from g g₁ → (r : Bool) (g' : List ℕ) → ReadsOrCleared r q from g₁ g' → ReadsOrCleared r (and_reads p q) from g g'
    reads_both l b e h true g' k =
        let y = subst (λ z. ReadsOrCleared z p from g g₁) e h in
        (out_none p.out q.out y.0 k.0, reads_then from p.nodes q.nodes g g₁ g' y.1 k.1)
    reads_both l b e h false g' k = (refused_then (subst (λ z. ReadsOrCleared z p from g g₁) e h) k.0, as_long g g₁ g' l k.1)

-- ---- parts one behind the other

module _ (f : Bytes → Reads) (s : Bytes) (a : ℕ) (from : ℕ) where
  pub all_none : (g : List ℕ) → follows s a ≡ false → ReadsOrCleared true (reads_in_order f (parts_behind s a)) from g g
  all_none g e = reads_none from g (reads_end f s a e)

  module _ (e : follows s a ≡ true) {b : ℕ} (qb : b ≡ part_end s (a + 1)) {t : Bytes} (qt : t ≡ piece s a b) (g g' : List ℕ) where
    pub all_stop : (v : Bool) → v ≡ false → ReadsOrCleared v (f t) from g g' → ReadsOrCleared false (reads_in_order f (parts_behind s a)) from g g'
    all_stop v q h = reads_as from g (reads_first f s a e qb qt) false g' (reads_stop from g (f t) (reads_in_order f (parts_behind s b)) g' v q h)

    pub all_more : length g' ≡ length g → (v : Bool) → v ≡ true → ReadsOrCleared v (f t) from g g' → (r : Bool) (z : List ℕ) → ReadsOrCleared r (reads_in_order f (parts_behind s b)) from g' z → ReadsOrCleared r (reads_in_order f (parts_behind s a)) from g z
    all_more l v q h r z k = reads_as from g (reads_first f s a e qb qt) r z (reads_both from g (f t) (reads_in_order f (parts_behind s b)) g' l v q h r z k)

-- ---- a head and its reads

module _ (q : Reads) (g : List ℕ) (n : declared.Node) (start : ℕ) (a : Result ℕ Full) (g₁ : List ℕ) (l : HeadLeaves a g n start g₁) where
  pub head_full : a ≡ full → HeadThenReads false q g n start g₁
  head_full e = let h = subst (λ z. HeadLeaves z g n start g₁) e l in (inl h.0, h.1)

  pub head_reads : {i : ℕ} → a ≡ Ok i → length g₁ ≡ length g → (r : Bool) (g' : List ℕ) → ReadsOrCleared r q i g₁ g' → HeadThenReads r q g n start g'
  head_reads {i} e k true g' h = (i, g₁, subst (λ z. HeadLeaves z g n start g₁) e l, h)
  head_reads {i} e k false g' h = (inr (i, g₁, subst (λ z. HeadLeaves z g n start g₁) e l, h.0), as_long g g₁ g' k h.1)

-- by the name and START of the line, and by what it reads
named : (r : Bool) (g g' : List ℕ) {m n s t : ℕ} {p q : Reads} → m ≡ n → s ≡ t → p ≡ q → HeadThenReads r p g (nodes.Signal m) s g' → HeadThenReads r q g (nodes.Signal n) t g'
named r g g' {m} {n} {s} {t} {p} {q} e f k h =
    subst (λ z. HeadThenReads r z g (nodes.Signal n) t g') k (subst (λ z. HeadThenReads r p g (nodes.Signal n) z g') f (subst (λ z. HeadThenReads r p g (nodes.Signal z) s g') e h))

module _ (x : Bytes) {a : ℕ} (fa : EndsAt x 5 a) {b : ℕ} (fb : EndsAt x a b) {m : ℕ} (qm : m ≡ number_at x 5 a) {c : ℕ} (fc : EndsAt x b c) {t : ℕ} (qt : t ≡ number_at x b c)
    (d : ℕ) (kinds : List ℕ) (names : Names) {q : Reads} (qq : q ≡ wire_reads kinds names d x) where
  pub wire_leaves : (r : Bool) (g g' : List ℕ) → HeadThenReads r q g (nodes.Signal m) t g' → WireLeaves r x d kinds names g g'
  unfolding wire_name wire_start
  wire_leaves r g g' h = named r g g' (number_next x refl fa qm) (number_next x (fb ∙ ap (end_behind x) fa) fc qt) qq h

module _ (x : Bytes) {a : ℕ} (fa : EndsAt x 6 a) {u : Bytes} (qu : u ≡ piece x 6 a) {b : ℕ} (fb : EndsAt u 3 b) {m : ℕ} (qm : m ≡ number_at u 3 b)
    (kinds : List ℕ) {k : ℕ} (qk : k ≡ get_or kinds m 0) (d : ℕ) (names : Names) (g : List ℕ) where
  lv_here : u ≡ piece x 6 (end_behind x 6)
  lv_here = qu ∙ ap (λ (z : ℕ). piece x 6 z) fa

  name_here : m ≡ drive_name x
  unfolding drive_name
  name_here = number_next u refl fb qm ∙ ap (λ (z : Bytes). number_at z 3 (end_behind z 3)) lv_here

  kind_here : k ≡ get_or kinds (drive_name x) 0
  kind_here = qk ∙ ap (λ (z : ℕ). get_or kinds z 0) name_here

  pub drive_stays : (k < 2) ⊎ (3 < k) → DriveLeaves true x d kinds names g g
  drive_stays o = record { driven = λ l h. absurd (no o l h); other = λ z. (refl, refl) }
    where
      no : (k < 2) ⊎ (3 < k) → 2 ≤ get_or kinds (drive_name x) 0 → get_or kinds (drive_name x) 0 ≤ 3 → ⊥
      no (inl z) l h = omega (arith, kind_here)
      no (inr z) l h = omega (arith, kind_here)

  pub drive_leaves : 2 ≤ k → k ≤ 3 → {c : ℕ} → EndsAt u b c → {t : ℕ} → t ≡ number_at u b c → {q : Reads} → q ≡ drive_reads kinds names d x
      → (r : Bool) (g' : List ℕ) → HeadThenReads r q g (nodes.Signal m) t g' → DriveLeaves r x d kinds names g g'
  unfolding drive_start
  drive_leaves low high fc qt qq r g' h = record {
    driven = λ l z. named r g g' name_here (number_next u fb fc qt ∙ ap (λ (z : Bytes). let i = end_behind z 3 in number_at z i (end_behind z i)) lv_here) qq h;
    other = λ z. absurd (no z);
  }
    where
      no : (get_or kinds (drive_name x) 0 < 2) ⊎ (3 < get_or kinds (drive_name x) 0) → ⊥
      no (inl z) = omega (arith, kind_here)
      no (inr z) = omega (arith, kind_here)

-- ---- outputs

module _ (x : Bytes) {a : ℕ} (fa : EndsAt x 5 a) {b : ℕ} (fb : EndsAt x a b) {c : ℕ} (fc : EndsAt x b c) {e : ℕ} (fe : EndsAt x c e)
    {m : ℕ} (qm : m ≡ number_at x 5 a) {t : ℕ} (qt : t ≡ number_at x c e) (v : Value) (o : ℕ) (n : declared.Node) (qn : node_of n ≡ inst_out m (index_of v) o) where
  pub output_leaves : {p q : Reads} → p ≡ q → (r : Bool) (g g' : List ℕ) → HeadThenReads r p g n t g' → OutputLeaves r q o v x g g'
  unfolding inst_name inst_start
  output_leaves {p} {q} k r g g' h = (
    n,
    qn ∙ ap (λ (z : ℕ). inst_out z (index_of v) o) (number_next x refl fa qm),
    subst (λ z. HeadThenReads r z g n (inst_start x) g') k
        (subst (λ z. HeadThenReads r p g n z g') (number_next x (fc ∙ ap (end_behind x) (fb ∙ ap (end_behind x) fa)) fe qt) h),
  )

module _ (q : ℕ → Reads) (v : Value) (x : Bytes) where
  module _ {all rest : Summary} {o j : ℕ} (e : all ≡ (o, j) ∷ rest) {b : Bool} (qb : b ≡ has_output o rest) (g : List ℕ) where
    heads_by : (c : Bool) → b ≡ c → elim c as (λ _. List ℕ) [ true ↦ outputs_in rest | false ↦ o ∷ outputs_in rest ] ≡ outputs_in all
    unfolding outputs_in
    heads_by c f = sym (ap outputs_in e ∙ ap (λ (z : Bool). elim z as (λ _. List ℕ) [ true ↦ outputs_in rest | false ↦ o ∷ outputs_in rest ]) (sym qb ∙ f))

    outputs_as : {os : List ℕ} → os ≡ outputs_in all → (r : Bool) (g' : List ℕ) → OutputsOrCleared r q os v x g g' → OutputsOrCleared r q (outputs_in all) v x g g'
    outputs_as f r g' h = subst (λ l. OutputsOrCleared r q l v x g g') f h

    -- a later pair has the output too
    pub leave_later : b ≡ true → (r : Bool) (g' : List ℕ) → OutputsOrCleared r q (outputs_in rest) v x g g' → OutputsOrCleared r q (outputs_in all) v x g g'
    leave_later f r g' h = outputs_as (heads_by true f) r g' h

    module _ (f : b ≡ false) (g₁ : List ℕ) (c : Bool) (p : OutputLeaves c (q o) o v x g g₁) where
      -- it is refused
      pub leave_stop : c ≡ false → OutputsOrCleared false q (outputs_in all) v x g g₁
      leave_stop k = let h = subst (λ z. OutputLeaves z (q o) o v x g g₁) k p in outputs_as (heads_by false f) false g₁ (inl (h.0, h.1, h.2.0), h.2.1)

      -- it is headed, and the others follow
      more : OutputLeaves true (q o) o v x g g₁ → length g₁ ≡ length g → (r : Bool) (g' : List ℕ) → OutputsOrCleared r q (outputs_in rest) v x g₁ g' → OutputsOrCleared r q (o ∷ outputs_in rest) v x g g'
      more h l true g' t = (g₁, h, t)
      more h l false g' t = (inr (g₁, h, t.0), as_long g g₁ g' l t.1)

      pub leave_more : c ≡ true → length g₁ ≡ length g → (r : Bool) (g' : List ℕ) → OutputsOrCleared r q (outputs_in rest) v x g₁ g' → OutputsOrCleared r q (outputs_in all) v x g g'
      leave_more k l r g' t = outputs_as (heads_by false f) r g' (more (subst (λ z. OutputLeaves z (q o) o v x g g₁) k p) l r g' t)

  pub leave_none : {all : Summary} → all ≡ [] → (g : List ℕ) → OutputsOrCleared true q (outputs_in all) v x g g
  unfolding outputs_in
  leave_none e g = subst (λ l. OutputsOrCleared true q l v x g g) (sym (ap outputs_in e)) refl

-- ---- where a line says false, every place is 0

by_answer : (r : Bool) (g g' : List ℕ) → (r ≡ false → g' ≡ replicate (length g) 0) → ClearedUnless r g'
by_answer true g g' f = tt
by_answer false g g' f = cleared_of (length g) g' (f refl)

heads_cleared : (r : Bool) (q : Reads) (g g' : List ℕ) (n : declared.Node) (start : ℕ) → HeadThenReads r q g n start g' → ClearedUnless r g'
heads_cleared r q g g' n start h = by_answer r g g' (λ e. (subst (λ z. HeadThenReads z q g n start g') e h).1)

pub wire_cleared : (r : Bool) (x : Bytes) (d : ℕ) (kinds : List ℕ) (names : Names) (g g' : List ℕ) → WireLeaves r x d kinds names g g' → ClearedUnless r g'
wire_cleared r x d kinds names g g' h = heads_cleared r (wire_reads kinds names d x) g g' (nodes.Signal (wire_name x)) (wire_start x) h

pub drive_cleared : (r : Bool) (x : Bytes) (d : ℕ) (kinds : List ℕ) (names : Names) (g g' : List ℕ) → DriveLeaves r x d kinds names g g' → ClearedUnless r g'
drive_cleared r x d kinds names g g' h = go (get_or kinds (drive_name x) 0) refl
  where
    stays : (get_or kinds (drive_name x) 0 < 2) ⊎ (3 < get_or kinds (drive_name x) 0) → ClearedUnless r g'
    stays o = by_answer r g g' (λ e. absurd (true≢false (sym (h.other o).0 ∙ e)))

    heads : 2 ≤ get_or kinds (drive_name x) 0 → get_or kinds (drive_name x) 0 ≤ 3 → ClearedUnless r g'
    heads l m = heads_cleared r (drive_reads kinds names d x) g g' (nodes.Signal (drive_name x)) (drive_start x) (h.driven l m)

    go : (k : ℕ) → get_or kinds (drive_name x) 0 ≡ k → ClearedUnless r g'
    go zero e = stays (inl (omega (arith, e)))
    go (suc zero) e = stays (inl (omega (arith, e)))
    go (suc (suc zero)) e = heads (omega (arith, e)) (omega (arith, e))
    go (suc (suc (suc zero))) e = heads (omega (arith, e)) (omega (arith, e))
    go (suc (suc (suc (suc k)))) e = stays (inr (omega (arith, e)))

pub inst_cleared : (r : Bool) (v : Value) (s : Summary) (x : Bytes) (d : ℕ) (kinds : List ℕ) (names : Names) (g g' : List ℕ) → InstLeaves r v s x d kinds names g g' → ClearedUnless r g'
inst_cleared r v s x d kinds names g g' h = by_answer r g g' (λ e. (subst (λ z. InstLeaves z v s x d kinds names g g') e h).1)
