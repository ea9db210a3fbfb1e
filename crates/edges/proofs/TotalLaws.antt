-- What any bytes read: one law for each way of `name_read`, `field_of`, `field_reads`, `expr_reads`, `parts_read` and `conn_read`, and for the lines.
-- Assumes nothing.
use Rattle.std.specs.Prelude.{Option, Some, None}
use mathlib.Core.Path.{◌≡◌, refl, sym, ◌∙◌, ap}
use mathlib.Core.Bool.{Bool, true, false}
use mathlib.Core.List.{List, ◌∷◌}
use mathlib.Core.Option.{none}
use Prim.Native.Nat.{ℕ, zero, suc, ◌+◌, ◌-◌, ◌≤◌, ◌<◌}
use native.Mathlib.Omega.{arith}
use lib.ListN.{get_or}
use lib.Dec.{eqb}
use borrow.Author.Tests.{eq-eqb, ne_eqb}
use Rattle.spec.specs.Bytes.{Bytes}
use Rattle.spec.specs.Decode.{decode_expr}
use Rattle.spec.specs.Value.{Names, value}
use Rattle.spec.specs.Edge.{signal, inst_out, Reads, no_reads, and_reads, name_reads, indexed_reads, Summary, reaches}
use Rattle.lines.specs.Parts.{part_end, piece, follows, next_end}
use Rattle.lines.proofs.PartLaws as lines
use Rattle.edges.specs.declared.FieldOf as F
use Rattle.edges.specs.declared.FieldOf.TheVariants as of
use Rattle.edges.specs.Reads.{kind_word}
use Rattle.edges.specs.Shows.{one_read, name_of, indexed_name, inst_by}
use Rattle.edges.specs.Lines.{end_behind, number_at}
use Rattle.edges.specs.Total.{parts_behind, reads_in_order, index_by, inner_by, field_by, field_inner, field_name, index_part, output_by, field_read, form_read, name_or, expr_read, conn_read, wire_reads, drive_reads, inst_reads}
use Rattle.edges.proofs.PartLaws.{EndsAt}

-- the number behind the part that ends at b
pub number_next : (x : Bytes) {a b c t : ℕ} → b ≡ a → EndsAt x b c → t ≡ number_at x b c → t ≡ number_at x a (end_behind x a)
number_next x {a} {b} {c} e f q = q ∙ ap (λ (z : ℕ). number_at x b z) f ∙ ap (λ (z : ℕ). number_at x z (end_behind x z)) e

-- the bytes behind the part that ends at b
pub piece_next : (x : Bytes) {a b c : ℕ} {t : Bytes} → b ≡ a → EndsAt x b c → t ≡ piece x b c → t ≡ piece x a (end_behind x a)
piece_next x {a} {b} {c} e f q = q ∙ ap (λ (z : ℕ). piece x b z) f ∙ ap (λ (z : ℕ). piece x z (end_behind x z)) e

-- ---- a name, by its kind

module _ (kinds : List ℕ) (m : ℕ) {k : ℕ} (q : k ≡ get_or kinds m 0) where
  by_kind : (j : ℕ) → k ≡ j → name_reads (kind_word j) m ≡ name_reads (kind_word (get_or kinds m 0)) m
  by_kind j e = ap (λ (z : ℕ). name_reads (kind_word z) m) (sym e ∙ q)

  pub kind_none : k ≡ 0 → no_reads ≡ name_reads (kind_word (get_or kinds m 0)) m
  kind_none e = by_kind 0 e

  pub kind_other : 3 < k → no_reads ≡ name_reads (kind_word (get_or kinds m 0)) m
  kind_other l = go k refl l
    where
      go : (j : ℕ) → k ≡ j → 3 < j → no_reads ≡ name_reads (kind_word (get_or kinds m 0)) m
      go zero e l = absurd (omega arith)
      go (suc zero) e l = absurd (omega arith)
      go (suc (suc zero)) e l = absurd (omega arith)
      go (suc (suc (suc zero))) e l = absurd (omega arith)
      go (suc (suc (suc (suc zero)))) e l = by_kind 4 e
      go (suc (suc (suc (suc (suc zero))))) e l = by_kind 5 e
      go (suc (suc (suc (suc (suc (suc j)))))) e l = by_kind (suc (suc (suc (suc (suc (suc j)))))) e

  pub kind_signal : (k ≡ 0 → ⊥) → k ≤ 3 → one_read (signal m) ≡ name_reads (kind_word (get_or kinds m 0)) m
  kind_signal z l = go k refl z l
    where
      go : (j : ℕ) → k ≡ j → (j ≡ 0 → ⊥) → j ≤ 3 → one_read (signal m) ≡ name_reads (kind_word (get_or kinds m 0)) m
      go zero e z l = absurd (z refl)
      go (suc zero) e z l = by_kind 1 e
      go (suc (suc zero)) e z l = by_kind 2 e
      go (suc (suc (suc zero))) e z l = by_kind 3 e
      go (suc (suc (suc (suc j)))) e z l = absurd (omega arith)

-- ---- what an `f` is of

module _ (x : Bytes) (kinds : List ℕ) (v : Option ℕ) (qv : v ≡ name_of x) where
  module _ {i : ℕ} (e : v ≡ Some i) (b : Bool) (qb : b ≡ inst_by kinds i) where
    by_name : (c : Bool) → b ≡ c → elim c as (λ _. F.FieldOf) [ true ↦ of.Inst i | false ↦ of.Other ] ≡ field_by kinds x
    unfolding field_by
    by_name c f = ap (λ (z : Bool). elim z as (λ _. F.FieldOf) [ true ↦ of.Inst i | false ↦ of.Other ]) (sym f ∙ qb) ∙ ap (λ (z : Option ℕ). inner_by kinds z (indexed_name x)) (sym e ∙ qv)

    pub field_inst : b ≡ true → of.Inst i ≡ field_by kinds x
    field_inst f = by_name true f

    pub field_signal : b ≡ false → of.Other ≡ field_by kinds x
    field_signal f = by_name false f

  module _ (u : Option ℕ) (qu : u ≡ indexed_name x) (n : v ≡ None) where
    by_index : (w : Option ℕ) → u ≡ w → index_by kinds w ≡ field_by kinds x
    unfolding field_by
    by_index w f = ap (λ (z : Option ℕ). index_by kinds z) (sym f ∙ qu) ∙ ap (λ (z : Option ℕ). inner_by kinds z (indexed_name x)) (sym n ∙ qv)

    module _ {i : ℕ} (e : u ≡ Some i) (b : Bool) (qb : b ≡ inst_by kinds i) where
      by_indexed : (c : Bool) → b ≡ c → elim c as (λ _. F.FieldOf) [ true ↦ of.InstAt i | false ↦ of.Other ] ≡ field_by kinds x
      by_indexed c f = ap (λ (z : Bool). elim z as (λ _. F.FieldOf) [ true ↦ of.InstAt i | false ↦ of.Other ]) (sym f ∙ qb) ∙ by_index (Some i) e

      pub field_inst_at : b ≡ true → of.InstAt i ≡ field_by kinds x
      field_inst_at f = by_indexed true f

      pub field_signal_at : b ≡ false → of.Other ≡ field_by kinds x
      field_signal_at f = by_indexed false f

    pub field_none : u ≡ None → of.Other ≡ field_by kinds x
    field_none f = by_index None f

-- ---- an `f`

module _ (f : Bytes → Reads) (kinds : List ℕ) (names : Names) (d : ℕ) (e : Bytes) {a : ℕ} (fa : EndsAt e 2 a) {x : Bytes} (qx : x ≡ piece e 2 a)
    {b : ℕ} (fb : EndsAt e a b) {p : ℕ} (qp : p ≡ number_at e a b) (v : F.FieldOf) (qv : v ≡ field_by kinds x) where
  inner_here : x ≡ field_inner e
  inner_here = qx ∙ ap (λ (z : ℕ). piece e 2 z) fa

  output_here : p ≡ field_name e
  output_here = number_next e fa fb qp

  by_field : (w : F.FieldOf) → v ≡ w → output_by names (d - 1) w p (index_part x) (f x) ≡ field_read f kinds names d e
  unfolding field_read
  by_field w g =
      ap (λ (z : F.FieldOf). output_by names (d - 1) z p (index_part x) (f x)) (sym g ∙ qv)
      ∙ ap (λ (z : ℕ). output_by names (d - 1) (field_by kinds x) z (index_part x) (f x)) output_here
      ∙ ap (λ (z : Bytes). output_by names (d - 1) (field_by kinds z) (field_name e) (index_part z) (f z)) inner_here

  pub reads_output : {i : ℕ} → v ≡ of.Inst i → one_read (inst_out i none p) ≡ field_read f kinds names d e
  reads_output {i} g = by_field (of.Inst i) g

  pub reads_indexed : {i : ℕ} → v ≡ of.InstAt i → {c : ℕ} → c ≡ part_end x 4 → {j : ℕ} → EndsAt x c j → {y : Bytes} → y ≡ piece x c j → {k : ℕ} → k ≡ d - 1
      → indexed_reads i (value names (decode_expr k y)) p ≡ field_read f kinds names d e
  reads_indexed {i} g qc fj {y} qy qk =
      ap (λ (z : ℕ). indexed_reads i (value names (decode_expr z y)) p) qk
      ∙ ap (λ (z : Bytes). indexed_reads i (value names (decode_expr (d - 1) z)) p) (piece_next x qc fj qy)
      ∙ by_field (of.InstAt i) g

  pub reads_inner : v ≡ of.Other → f x ≡ field_read f kinds names d e
  reads_inner g = by_field of.Other g

-- ---- an expression

module _ (e : Bytes) (kinds : List ℕ) (names : Names) where
  -- what is no name reads so, by the depth
  abbrev no_name_reads : ℕ → Reads
  no_name_reads zero = no_reads
  no_name_reads (suc n) = form_read (expr_read kinds names n) kinds names n e

  by_bracket : (d : ℕ) (b : Bool) → eqb (get_or e 0 0) 40 ≡ b → elim b as (λ _. Reads) [ true ↦ name_or kinds (name_of e) (no_name_reads d) | false ↦ no_reads ] ≡ expr_read kinds names d e
  unfolding expr_read
  by_bracket zero b q = ap (λ (z : Bool). elim z as (λ _. Reads) [ true ↦ name_or kinds (name_of e) (no_name_reads zero) | false ↦ no_reads ]) (sym q)
  by_bracket (suc n) b q = ap (λ (z : Bool). elim z as (λ _. Reads) [ true ↦ name_or kinds (name_of e) (no_name_reads (suc n)) | false ↦ no_reads ]) (sym q)

  pub reads_atom : (d : ℕ) → (get_or e 0 0 ≡ 40 → ⊥) → no_reads ≡ expr_read kinds names d e
  reads_atom d f = by_bracket d false (ne_eqb (get_or e 0 0) 40 f)

  module _ (o : get_or e 0 0 ≡ 40) (v : Option ℕ) (qv : v ≡ name_of e) where
    by_named : (d : ℕ) (w : Option ℕ) → v ≡ w → name_or kinds w (no_name_reads d) ≡ expr_read kinds names d e
    by_named d w f = ap (λ (z : Option ℕ). name_or kinds z (no_name_reads d)) (sym f ∙ qv) ∙ by_bracket d true (eq-eqb (get_or e 0 0) 40 o)

    pub reads_name : (d : ℕ) {m : ℕ} → v ≡ Some m → name_reads (kind_word (get_or kinds m 0)) m ≡ expr_read kinds names d e
    reads_name d {m} f = by_named d (Some m) f

    module _ (n : v ≡ None) where
      pub reads_shut : (d : ℕ) → d ≡ 0 → no_reads ≡ expr_read kinds names d e
      reads_shut zero z = by_named 0 None n
      reads_shut (suc d) z = absurd (omega arith)

      by_form : (d : ℕ) → (d ≡ 0 → ⊥) → form_read (expr_read kinds names (d - 1)) kinds names (d - 1) e ≡ expr_read kinds names d e
      by_form zero z = absurd (z refl)
      by_form (suc d) z = let h : suc d - 1 ≡ d = omega arith in ap (λ (k : ℕ). form_read (expr_read kinds names k) kinds names k e) h ∙ by_named (suc d) None n

      pub reads_field : (d : ℕ) → (d ≡ 0 → ⊥) → get_or e 1 0 ≡ 102 → field_read (expr_read kinds names (d - 1)) kinds names (d - 1) e ≡ expr_read kinds names d e
      unfolding form_read
      reads_field d z c = sym (rw (eq-eqb (get_or e 1 0) 102 c, form_read)) ∙ by_form d z

      pub reads_parts : (d : ℕ) → (d ≡ 0 → ⊥) → (get_or e 1 0 ≡ 102 → ⊥) → {a : ℕ} → a ≡ part_end e 1 → reads_in_order (expr_read kinds names (d - 1)) (parts_behind e a) ≡ expr_read kinds names d e
      unfolding form_read
      reads_parts d z c qa = ap (λ (k : ℕ). reads_in_order (expr_read kinds names (d - 1)) (parts_behind e k)) qa ∙ sym (rw (ne_eqb (get_or e 1 0) 102 c, form_read)) ∙ by_form d z

-- ---- parts one behind the other

-- the parts as the laws of lines have them
pub parts_same : (s : Bytes) (e : ℕ) → parts_behind s e ≡ lines.others s e
unfolding parts_behind lines.others lines.parts_behind
parts_same s e = refl

module _ (f : Bytes → Reads) (s : Bytes) (a : ℕ) where
  pub reads_end : follows s a ≡ false → no_reads ≡ reads_in_order f (parts_behind s a)
  unfolding reads_in_order
  reads_end g = sym (ap (reads_in_order f) (parts_same s a ∙ lines.others_none s a g))

  pub reads_first : follows s a ≡ true → {b : ℕ} → b ≡ part_end s (a + 1) → {t : Bytes} → t ≡ piece s a b → and_reads (f t) (reads_in_order f (parts_behind s b)) ≡ reads_in_order f (parts_behind s a)
  unfolding reads_in_order next_end
  reads_first g {b} qb {t} qt =
      sym (ap (reads_in_order f)
      (parts_same s a ∙ lines.others_more s a g ∙ ap (λ (n : ℕ). piece s a n ∷ lines.others s n) (sym qb) ∙ ap (λ (p : Bytes). p ∷ lines.others s b) (sym qt) ∙ ap (λ (ps : List Bytes). t ∷ ps) (sym (parts_same s b))))

-- ---- a connection

module _ (o : ℕ) (s : Summary) (c : Bytes) (d : ℕ) (kinds : List ℕ) (names : Names) {a : ℕ} (fa : EndsAt c 5 a) {p : ℕ} (qp : p ≡ number_at c 5 a) {b : Bool} (qb : b ≡ reaches o p s) where
  by_reach : (z : Bool) → b ≡ z → elim z as (λ _. Reads) [ true ↦ expr_read kinds names d (piece c (end_behind c 5) (end_behind c (end_behind c 5))) | false ↦ no_reads ] ≡ conn_read kinds names s o d c
  unfolding conn_read
  by_reach z e =
      ap (λ (y : Bool). elim y as (λ _. Reads) [ true ↦ expr_read kinds names d (piece c (end_behind c 5) (end_behind c (end_behind c 5))) | false ↦ no_reads ])
      (sym e ∙ qb ∙ ap (λ (n : ℕ). reaches o n s) (number_next c refl fa qp))

  pub reads_unreached : b ≡ false → no_reads ≡ conn_read kinds names s o d c
  reads_unreached e = by_reach false e

  pub reads_reached : b ≡ true → {j : ℕ} → EndsAt c a j → {x : Bytes} → x ≡ piece c a j → expr_read kinds names d x ≡ conn_read kinds names s o d c
  reads_reached e fj qx = ap (expr_read kinds names d) (piece_next c fa fj qx) ∙ by_reach true e

-- ---- the lines

module _ (kinds : List ℕ) (names : Names) (d : ℕ) (x : Bytes) where
  pub wire_reads_here : {a : ℕ} → EndsAt x 5 a → {b : ℕ} → EndsAt x a b → {e : Bytes} → e ≡ piece x a b → {k : ℕ} → k ≡ d - 1 → expr_read kinds names k e ≡ wire_reads kinds names d x
  unfolding wire_reads
  wire_reads_here fa fb {e} qe qk = ap (λ (z : ℕ). expr_read kinds names z e) qk ∙ ap (expr_read kinds names (d - 1)) (piece_next x fa fb qe)

  pub drive_reads_here : {a : ℕ} → EndsAt x 6 a → {u : Bytes} → u ≡ piece x 6 a → {b : ℕ} → EndsAt u 3 b → {c : ℕ} → EndsAt u b c → {j : ℕ} → EndsAt x a j → {e : Bytes} → e ≡ piece x a j
      → {k : ℕ} → k ≡ d - 1 → {l : ℕ} → l ≡ d - 2 → and_reads (expr_read kinds names k e) (reads_in_order (expr_read kinds names l) (parts_behind u c)) ≡ drive_reads kinds names d x
  unfolding drive_reads
  drive_reads_here {a} fa {u} qu {b} fb {c} fc fj {e} qe {k} qk {l} ql =
      ap (λ (q : Reads). and_reads q (reads_in_order (expr_read kinds names l) (parts_behind u c))) (ap (λ (z : ℕ). expr_read kinds names z e) qk ∙ ap (expr_read kinds names (d - 1)) (piece_next x fa fj qe))
      ∙ ap (and_reads (expr_read kinds names (d - 1) (piece x (end_behind x 6) (end_behind x (end_behind x 6)))))
      (ap (λ (z : ℕ). reads_in_order (expr_read kinds names z) (parts_behind u c)) ql
      ∙ ap (λ (z : ℕ). reads_in_order (expr_read kinds names (d - 2)) (parts_behind u z)) (fc ∙ ap (end_behind u) fb)
      ∙ ap (λ (z : Bytes). reads_in_order (expr_read kinds names (d - 2)) (parts_behind z (end_behind z (end_behind z 3)))) (qu ∙ ap (λ (z : ℕ). piece x 6 z) fa))

  pub inst_reads_here : (s : Summary) (o : ℕ) {a : ℕ} → EndsAt x 5 a → {b : ℕ} → EndsAt x a b → {c : ℕ} → EndsAt x b c → {e : ℕ} → EndsAt x c e → {k : ℕ} → k ≡ d - 2
      → reads_in_order (conn_read kinds names s o k) (parts_behind x e) ≡ inst_reads kinds names s d x o
  unfolding inst_reads
  inst_reads_here s o fa fb {c} fc {e} fe qk =
      ap (λ (z : ℕ). reads_in_order (conn_read kinds names s o z) (parts_behind x e)) qk
      ∙ ap (λ (z : ℕ). reads_in_order (conn_read kinds names s o (d - 2)) (parts_behind x z)) (fe ∙ ap (end_behind x) (fc ∙ ap (end_behind x) (fb ∙ ap (end_behind x) fa)))
