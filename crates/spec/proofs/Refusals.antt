-- The proof of the theorem about refusals (specs/Refusals.antt): each flag of the definitions is true exactly when what it names holds.
-- Assumes nothing.
use mathlib.Core.Path.{◌≡◌, refl, sym, ◌∙◌, ap, subst, subst⁻¹, fun_ext}
use mathlib.Core.Bool.{Bool, true, false, ◌&&◌, ◌||◌, not as opposite}
use mathlib.Core.Logic.{◌⊎◌, inl, inr, ◌↔◌}
use mathlib.Core.Option.{Option, some, none}
use mathlib.Core.List.Memᴰ
use mathlib.Core.List.{List, [], ◌∷◌, ◌++◌, map, append_assoc}
use Prim.Native.Nat.{ℕ, zero, suc, ◌+◌, ◌-◌, ◌/◌, ◌≤◌, ◌<◌}
use native.Mathlib.Omega.{arith}
use lib.ListN.{length, get_elem?, replicate, length-replicate}
use lib.IntN.{ℤ, pos, negsuc, neg_ℤ, ◌+ℤ◌, ◌-ℤ◌, ◌*ℤ◌}
use lib.Dec.{eqb, ltb, leb}
use borrow.Author.Tests.{ltb-true, ltb-false, lt-ltb, le-ltb, eqb-true, eqb-false, eq-eqb}
use Rattle.spec.specs.Bytes.{Bytes}
use Rattle.spec.specs.Syntax.{number_bound, Unary, neg, not, clog2, Binary, add, sub, mul, eq, ne, lt, le, gt, ge, and, or, shl, shr, band, bor, bxor, Kind, in_kind, out_kind, wire_kind, reg_kind, mem_kind, inst_kind, Expr, Exprs, lit, truth, name, field, index, if_else, unary, binary, all, Index, whole, at_bit, high_low, LValue, Conn, Inst, Item, Items, port, wire, reg, mem, const, drive, on, inst, repeat, const_if, Header, Module, Design}
use Rattle.spec.specs.Bits.{shift_up}
use Rattle.spec.specs.Refusal.{in_int, Verdict, well_formed, refused, Before, refusal, decode, has_name}
use Rattle.spec.specs.Value.{Value, known, missing, outside, Names, value_of_name, within, is_zero, int_eq, int_lt, truth_value, bit_length, clog2_bits, clog2_value, unary_value, shl_value, shr_value, binary_value, value, is_outside, Table, with_value, own_vals, name_table, const_names}
use Rattle.spec.specs.Collect.{Collected, collection}
use Rattle.spec.specs.Site.{kind_of, Driving, an_output, a_wire, a_reg, a_mem, nothing, driving, Site, index_constants, line_constants, any_outside, lines_outside, sites, sites_of, Output, outputs, deciding_width}
use Rattle.spec.specs.Block.{pairs}
use Rattle.spec.specs.DepthFirst.{each_once}
use Rattle.spec.specs.Edge.{same_node, Reads, name_reads, indexed_reads, FieldOf, an_inst, an_inst_at, no_inst, field_of, field_reads, expr_reads, exprs_reads, and_reads, index_reads, Head, drive_heads, Summary, reaches, conn_reads, has_output, output_heads, index_of, place_value, inst_edges, line_heads, all_nodes, edge_count, node_limit, edge_limit, over_graph, inst_of}
use Rattle.spec.specs.Summary.{Kept, kept_summary, triples, triple_limit, Asked, ask_for, comb_summary, make_summary, Headed, lines_heads, module_heads}
use Rattle.spec.specs.Report.{show_reports}
use Rattle.spec.specs.Check.{site_limit, pair_limit, widths_out, Checked, check_module_drivers, check_modules, check_design, refuse, accept, answer_checked, Lent, too_short, check_drivers, Slice, cleared, check_call}
use Rattle.spec.specs.Graph.{◌∈◌, Once}
use Rattle.spec.specs.Reading.{Fault, not_one_form, badly_written, out_of_range, out_of_place, one_too_many, Refused, too_long, bad_byte, no_feed, bad_line}
use Rattle.spec.specs.Refusals.{PartOutside, literal, condition, then_branch, else_branch, operand, negation, left_operand, right_operand, sum, difference, product, shifted, field_constants, read_constants, reads_constants, is_reached, conns_read, drive_read, line_read, GraphPasses, many_nodes, many_edges, LinesPass, line_asks, line_reads, MakingPasses, summary_walk, summary_graph, many_triples, AskPasses, const_table, item_list, ModulePasses, const_outside, line_outside, width_outside, many_sites, many_pairs, own_walk, own_graph, Passes, own_check, Short, Refusals}
use Rattle.spec.proofs.Flags.{clash, which, not_so, or_cases, or_left, or_right, and_both, and_of, or_says, unnamed}
use Rattle.spec.proofs.Lists.{once_length}
use Rattle.spec.proofs.Numbers.{if_case}
use Rattle.spec.proofs.Bits.{zero_up}
use Rattle.spec.proofs.Firsts.{head_same, tail_same, not_cons}
use Rattle.spec.proofs.Meetings.{deciding_says}
use Rattle.spec.proofs.Situations.{poisoned_in, clean_says, outputs_say}
use Rattle.spec.proofs.Reading.{reading}

-- ---- values

outside_says : (v : Value) → (is_outside v ≡ true) ↔ (v ≡ outside)
outside_says (known z) = (λ e. absurd (clash e refl), λ e. ap is_outside e)
outside_says missing = (λ e. absurd (clash e refl), λ e. ap is_outside e)
outside_says outside = (λ e. refl, λ e. refl)

-- one of these expressions is outside INT
record OneOutside (names : Names) (es : List Expr) : Type 0 where
  part : Expr
  listed : part ∈ es
  out : value names part ≡ outside

-- a test that is false, of no expressions
no_test : {names : Names} → (false ≡ true) ↔ OneOutside names []
no_test = (λ e. absurd (clash e refl), λ o. absurd (Memᴰ.not-nil o.listed))

one_append : {a b : Bool} {names : Names} {xs ys : List Expr} → (a ≡ true ↔ OneOutside names xs) → (b ≡ true ↔ OneOutside names ys) → (a || b ≡ true ↔ OneOutside names (xs ++ ys))
one_append {a} {b} {names} {xs} {ys} p q = (λ e. up (or_cases a b e), down)
  where
    up : (a ≡ true) ⊎ (b ≡ true) → OneOutside names (xs ++ ys)
    up (inl e) = let o = p.0 e in record { part = o.part; listed = Memᴰ.append_left ys o.listed; out = o.out }
    up (inr e) = let o = q.0 e in record { part = o.part; listed = Memᴰ.append_right xs o.listed; out = o.out }

    split : (f : Expr) → value names f ≡ outside → (f ∈ xs) ⊎ (f ∈ ys) → a || b ≡ true
    split f o (inl i) = or_left a b (p.1 (record { part = f; listed = i; out = o }))
    split f o (inr i) = or_right a b (q.1 (record { part = f; listed = i; out = o }))

    down : OneOutside names (xs ++ ys) → a || b ≡ true
    down o = split o.part o.out (Memᴰ.append_cases xs o.listed)

one_alone : (names : Names) (e : Expr) → (is_outside (value names e) ≡ true) ↔ OneOutside names (e ∷ [])
one_alone names e = (λ h. record { part = e; listed = Memᴰ.head refl; out = (outside_says (value names e)).0 h }, down)
  where
    down : OneOutside names (e ∷ []) → is_outside (value names e) ≡ true
    down o = (outside_says (value names e)).1 (ap (value names) (sym (Memᴰ.eq_of_singleton o.listed)) ∙ o.out)

any_says : (names : Names) (es : List Expr) → (any_outside names es ≡ true) ↔ OneOutside names es
unfolding any_outside
any_says names [] = no_test
any_says names (e ∷ es) = one_append {xs = e ∷ []} {ys = es} (one_alone names e) (any_says names es)

-- ---- the parts of a constant

within_out : (z : ℤ) → within z ≡ outside → in_int z ≡ false
unfolding within
within_out z e = go (in_int z) refl
  where
    go : (b : Bool) → in_int z ≡ b → in_int z ≡ false
    go true h = let x : known z ≡ outside = rw (h, within) at e in let c : ◌≡◌ {A = ℕ} 0 1 = cc in absurd (omega arith)
    go false h = h

out_within : (z : ℤ) → in_int z ≡ false → within z ≡ outside
unfolding within
out_within z h = rw (h, within)

known_not : {z : ℤ} → known z ≡ outside → ⊥
known_not e = let c : ◌≡◌ {A = ℕ} 0 1 = cc in omega arith

missing_not : missing ≡ outside → ⊥
missing_not e = let c : ◌≡◌ {A = ℕ} 0 1 = cc in omega arith

truth_not : (b : Bool) → truth_value b ≡ outside → ⊥
truth_not true e = known_not e
truth_not false e = known_not e

named_not : (names : Names) (n : ℕ) → value_of_name names n ≡ outside → ⊥
unfolding value_of_name
named_not [] n e = missing_not e
named_not (x ∷ names) n e = go (eqb x.0 n) refl (named_not names n)
  where
    go : (b : Bool) → eqb x.0 n ≡ b → (value_of_name names n ≡ outside → ⊥) → ⊥
    go true h ih = known_not (rw (h, value_of_name) at e)
    go false h ih = ih (rw (h, value_of_name) at e)

bits_below : (fuel n : ℕ) → bit_length fuel n ≤ fuel
unfolding bit_length
bits_below zero n = omega arith
bits_below (suc fuel) n = if_case (λ z. z ≤ suc fuel) (eqb n 0) 0 (suc (bit_length fuel (n / 2))) (λ e. omega arith) (λ e. omega (arith, bits_below fuel (n / 2)))

clog2_small : (n : ℕ) → in_int (pos (clog2_bits n)) ≡ true
unfolding in_int clog2_bits
clog2_small n = lt-ltb (clog2_bits n) number_bound (if_case (λ z. z < number_bound) (ltb n 2) 1 (bit_length 32 (n - 1)) (λ e. omega arith) (λ e. omega (arith, bits_below 32 (n - 1))))

clog2_not : (z : ℤ) → clog2_value z ≡ outside → ⊥
unfolding clog2_value
clog2_not (pos zero) e = missing_not e
clog2_not (pos (suc n)) e = clash (clog2_small (suc n)) (within_out (pos (clog2_bits (suc n))) e)
clog2_not (negsuc n) e = missing_not e

unary_up : (names : Names) (o : Unary) (a : Expr) (x : ℤ) → value names a ≡ known x → unary_value o x ≡ outside → PartOutside names (unary o a)
unfolding unary_value
unary_up names neg a x h e = negation a x h (within_out (neg_ℤ x) e)
unary_up names not a x h e = absurd (truth_not (is_zero x) e)
unary_up names clog2 a x h e = absurd (clog2_not x e)

shl_out : (x : ℤ) (n : ℕ) → shl_value x (pos n) ≡ outside → in_int (shift_up x n) ≡ false
unfolding shl_value
shl_out x n e = go (is_zero x && leb 999999 n) refl
  where
    go : (b : Bool) → is_zero x && leb 999999 n ≡ b → in_int (shift_up x n) ≡ false
    go true h = absurd (missing_not (rw (h, shl_value) at e))
    go false h = within_out (shift_up x n) (rw (h, shl_value) at e)

out_shl : (x : ℤ) (n : ℕ) → in_int (shift_up x n) ≡ false → shl_value x (pos n) ≡ outside
unfolding shl_value
out_shl x n e = go (is_zero x) refl
  where
    go : (b : Bool) → is_zero x ≡ b → shl_value x (pos n) ≡ outside
    go true h = absurd (clash (zero_up x n h) e)
    go false h = rw (h, shl_value) (out_within (shift_up x n) e)

shl_up : (names : Names) (a b : Expr) (x y : ℤ) → value names a ≡ known x → value names b ≡ known y → shl_value x y ≡ outside → PartOutside names (binary shl a b)
unfolding shl_value
shl_up names a b x (pos n) h k e = shifted a b x n h k (shl_out x n e)
shl_up names a b x (negsuc n) h k e = absurd (missing_not e)

shr_not : (x y : ℤ) → shr_value x y ≡ outside → ⊥
unfolding shr_value
shr_not x (pos n) e = known_not e
shr_not x (negsuc n) e = missing_not e

binary_up : (names : Names) (o : Binary) (a b : Expr) (x y : ℤ) → value names a ≡ known x → value names b ≡ known y → binary_value o x y ≡ outside → PartOutside names (binary o a b)
unfolding binary_value
binary_up names add a b x y h k e = sum a b x y h k (within_out (x +ℤ y) e)
binary_up names sub a b x y h k e = difference a b x y h k (within_out (x -ℤ y) e)
binary_up names mul a b x y h k e = product a b x y h k (within_out (x *ℤ y) e)
binary_up names eq a b x y h k e = absurd (truth_not (int_eq x y) e)
binary_up names ne a b x y h k e = absurd (truth_not (opposite (int_eq x y)) e)
binary_up names lt a b x y h k e = absurd (truth_not (int_lt x y) e)
binary_up names le a b x y h k e = absurd (truth_not (opposite (int_lt y x)) e)
binary_up names gt a b x y h k e = absurd (truth_not (int_lt y x) e)
binary_up names ge a b x y h k e = absurd (truth_not (opposite (int_lt x y)) e)
binary_up names and a b x y h k e = absurd (truth_not (opposite (is_zero x) && opposite (is_zero y)) e)
binary_up names or a b x y h k e = absurd (truth_not (opposite (is_zero x) || opposite (is_zero y)) e)
binary_up names shl a b x y h k e = shl_up names a b x y h k e
binary_up names shr a b x y h k e = absurd (shr_not x y e)
binary_up names band a b x y h k e = absurd (known_not e)
binary_up names bor a b x y h k e = absurd (known_not e)
binary_up names bxor a b x y h k e = absurd (known_not e)

taken_branch : (names : Names) (c a b : Expr) (x : ℤ) (z : Bool) → value names c ≡ known x → is_zero x ≡ z → value names (if_else c a b) ≡ elim z as (λ _. Value) [ true ↦ value names b | false ↦ value names a ]
unfolding value
taken_branch names c a b x z h e = rw (h, value) (ap (λ w. elim w as (λ _. Value) [ true ↦ value names b | false ↦ value names a ]) e)

part_up : (names : Names) (e : Expr) → value names e ≡ outside → PartOutside names e
unfolding value
part_up names (lit n) e = literal n (within_out (pos n) e)
part_up names (truth b) e = absurd (truth_not b e)
part_up names (name n) e = absurd (named_not names n e)
part_up names (field a n) e = absurd (missing_not e)
part_up names (index a i) e = absurd (missing_not e)
part_up names (all es) e = absurd (missing_not e)
part_up names (if_else c a b) e = go (value names c) refl (part_up names c) (part_up names a) (part_up names b)
  where
    branch : (x : ℤ) → value names c ≡ known x → (z : Bool) → is_zero x ≡ z → (value names a ≡ outside → PartOutside names a) → (value names b ≡ outside → PartOutside names b) → PartOutside names (if_else c a b)
    branch x h true z f g = else_branch c a b x h z (g (sym (taken_branch names c a b x true h z) ∙ e))
    branch x h false z f g = then_branch c a b x h z (f (sym (taken_branch names c a b x false h z) ∙ e))

    go : (v : Value) → value names c ≡ v → (value names c ≡ outside → PartOutside names c) → (value names a ≡ outside → PartOutside names a) → (value names b ≡ outside → PartOutside names b) → PartOutside names (if_else c a b)
    go (known x) h q f g = branch x h (is_zero x) refl f g
    go missing h q f g = absurd (missing_not (rw (h, value) at e))
    go outside h q f g = condition c a b (q h)
part_up names (unary o a) e = go (value names a) refl (part_up names a)
  where
    go : (v : Value) → value names a ≡ v → (value names a ≡ outside → PartOutside names a) → PartOutside names (unary o a)
    go (known x) h f = unary_up names o a x h (rw (h, value) at e)
    go missing h f = absurd (missing_not (rw (h, value) at e))
    go outside h f = operand o a (f h)
part_up names (binary o a b) e = go (value names a) refl (value names b) refl (part_up names a) (part_up names b)
  where
    go : (v : Value) → value names a ≡ v → (w : Value) → value names b ≡ w → (value names a ≡ outside → PartOutside names a) → (value names b ≡ outside → PartOutside names b) → PartOutside names (binary o a b)
    go missing h w k f g = absurd (missing_not (rw (h, value) at e))
    go outside h w k f g = left_operand o a b (f h)
    go (known x) h outside k f g = right_operand o a b x h (g k)
    go (known x) h missing k f g = absurd (missing_not (rw (h, k, value) at e))
    go (known x) h (known y) k f g = binary_up names o a b x y h k (rw (h, k, value) at e)

part_down : (names : Names) (e : Expr) → PartOutside names e → value names e ≡ outside
unfolding value unary_value binary_value
part_down names e (literal n h) = out_within (pos n) h
part_down names e (condition c a b p) = rw (part_down names c p, value)
part_down names e (then_branch c a b x h z p) = taken_branch names c a b x false h z ∙ part_down names a p
part_down names e (else_branch c a b x h z p) = taken_branch names c a b x true h z ∙ part_down names b p
part_down names e (operand o a p) = rw (part_down names a p, value)
part_down names e (negation a x h z) = rw (h, value) (out_within (neg_ℤ x) z)
part_down names e (left_operand o a b p) = rw (part_down names a p, value)
part_down names e (right_operand o a b x h p) = rw (h, part_down names b p, value)
part_down names e (sum a b x y h k z) = rw (h, k, value) (out_within (x +ℤ y) z)
part_down names e (difference a b x y h k z) = rw (h, k, value) (out_within (x -ℤ y) z)
part_down names e (product a b x y h k z) = rw (h, k, value) (out_within (x *ℤ y) z)
part_down names e (shifted a b x n h k z) = rw (h, k, value) (out_shl x n z)

-- ---- the constants of collected lines

abbrev LineOutside : List Header → List Collected → Type 0
LineOutside hs cs = (c : Collected) × (c ∈ cs) × OneOutside c.names (line_constants hs c.item)

lines_say : (hs : List Header) (cs : List Collected) → (lines_outside hs cs ≡ true) ↔ LineOutside hs cs
unfolding lines_outside
lines_say hs [] = (λ e. absurd (clash e refl), λ o. absurd (Memᴰ.not-nil o.1))
lines_say hs (c ∷ cs) = (λ e. up (or_cases _ _ e) (lines_say hs cs).0, down (lines_say hs cs).1)
  where
    first : Bool
    first = any_outside c.names (line_constants hs c.item)

    up : (first ≡ true) ⊎ (lines_outside hs cs ≡ true) → (lines_outside hs cs ≡ true → LineOutside hs cs) → LineOutside hs (c ∷ cs)
    up (inl e) ih = (c, Memᴰ.head refl, (any_says c.names (line_constants hs c.item)).0 e)
    up (inr e) ih = let (b, i, o) = ih e in (b, Memᴰ.tail i, o)

    down : (LineOutside hs cs → lines_outside hs cs ≡ true) → LineOutside hs (c ∷ cs) → first || lines_outside hs cs ≡ true
    down ih (b, Memᴰ.head d, o) = or_left first _ ((any_says c.names (line_constants hs c.item)).1 (subst (λ z. OneOutside z.names (line_constants hs z.item)) d o))
    down ih (b, Memᴰ.tail i, o) = or_right first _ (ih (b, i, o))

-- ---- the reads of an expression

name_quiet : (k : Option Kind) (n : ℕ) → (name_reads k n).out ≡ false
name_quiet none n = refl
name_quiet (some in_kind) n = refl
name_quiet (some out_kind) n = refl
name_quiet (some wire_kind) n = refl
name_quiet (some reg_kind) n = refl
name_quiet (some mem_kind) n = refl
name_quiet (some inst_kind) n = refl

indexed_out : (i : ℕ) (v : Value) (p : ℕ) → (indexed_reads i v p).out ≡ is_outside v
indexed_out i (known z) p = refl
indexed_out i missing p = refl
indexed_out i outside p = refl

field_says : (names : Names) (f : FieldOf) (p : ℕ) (r : Reads) (xs : List Expr) → (r.out ≡ true) ↔ OneOutside names xs → ((field_reads names f p r).out ≡ true) ↔ OneOutside names (field_constants f xs)
field_says names (an_inst i) p r xs h = no_test
field_says names (an_inst_at i e) p r xs h = rw (indexed_out i (value names e) p) (one_alone names e)
field_says names no_inst p r xs h = h

mutual
  unfolding expr_reads read_constants

  reads_say : (e : Expr) (hs : List Header) (names : Names) → ((expr_reads e hs names).out ≡ true) ↔ OneOutside names (read_constants e hs)
  reads_say (lit n) hs names = no_test
  reads_say (truth b) hs names = no_test
  reads_say (name n) hs names = rw (name_quiet (kind_of hs n) n) no_test
  reads_say (field e p) hs names = field_says names (field_of hs e) p (expr_reads e hs names) (read_constants e hs) (reads_say e hs names)
  reads_say (index e i) hs names = one_append (reads_say e hs names) (reads_say i hs names)
  reads_say (if_else c a b) hs names = rw (append_assoc (read_constants c hs) (read_constants a hs) (read_constants b hs)) (one_append (reads_say c hs names) (one_append (reads_say a hs names) (reads_say b hs names)))
  reads_say (unary o a) hs names = reads_say a hs names
  reads_say (binary o a b) hs names = one_append (reads_say a hs names) (reads_say b hs names)
  reads_say (all es) hs names = all_say es hs names

  all_say : (es : Exprs) (hs : List Header) (names : Names) → ((exprs_reads es hs names).out ≡ true) ↔ OneOutside names (reads_constants es hs)
  all_say Exprs.none hs names = no_test
  all_say (Exprs.more e es) hs names = one_append (reads_say e hs names) (all_say es hs names)

-- ---- what a collected line heads

-- an index that is evaluated for one of these expressions, which are read, is outside INT
record ReadOutside (hs : List Header) (names : Names) (es : List Expr) : Type 0 where
  read : Expr
  listed : read ∈ es
  one : OneOutside names (read_constants read hs)

read_append : {a b : Bool} {hs : List Header} {names : Names} {xs ys : List Expr} → (a ≡ true ↔ ReadOutside hs names xs) → (b ≡ true ↔ ReadOutside hs names ys) → (a || b ≡ true ↔ ReadOutside hs names (xs ++ ys))
read_append {a} {b} {hs} {names} {xs} {ys} p q = (λ e. up (or_cases a b e), down)
  where
    up : (a ≡ true) ⊎ (b ≡ true) → ReadOutside hs names (xs ++ ys)
    up (inl e) = let o = p.0 e in record { read = o.read; listed = Memᴰ.append_left ys o.listed; one = o.one }
    up (inr e) = let o = q.0 e in record { read = o.read; listed = Memᴰ.append_right xs o.listed; one = o.one }

    split : (f : Expr) → OneOutside names (read_constants f hs) → (f ∈ xs) ⊎ (f ∈ ys) → a || b ≡ true
    split f o (inl i) = or_left a b (p.1 (record { read = f; listed = i; one = o }))
    split f o (inr i) = or_right a b (q.1 (record { read = f; listed = i; one = o }))

    down : ReadOutside hs names (xs ++ ys) → a || b ≡ true
    down o = split o.read o.one (Memᴰ.append_cases xs o.listed)

no_read : {hs : List Header} {names : Names} → (false ≡ true) ↔ ReadOutside hs names []
no_read = (λ e. absurd (clash e refl), λ o. absurd (Memᴰ.not-nil o.listed))

read_alone : (hs : List Header) (names : Names) (e : Expr) → ((expr_reads e hs names).out ≡ true) ↔ ReadOutside hs names (e ∷ [])
read_alone hs names e = (λ h. record { read = e; listed = Memᴰ.head refl; one = (reads_say e hs names).0 h }, down)
  where
    down : ReadOutside hs names (e ∷ []) → (expr_reads e hs names).out ≡ true
    down o = (reads_say e hs names).1 (subst (λ z. OneOutside names (read_constants z hs)) (Memᴰ.eq_of_singleton o.listed) o.one)

index_says : (hs : List Header) (names : Names) (x : Index) → ((index_reads hs names x).out ≡ true) ↔ ReadOutside hs names (index_constants x)
unfolding index_reads index_constants
index_says hs names whole = no_read
index_says hs names (at_bit e) = read_alone hs names e
index_says hs names (high_low h l) = read_append {xs = h ∷ []} {ys = l ∷ []} (read_alone hs names h) (read_alone hs names l)

-- ---- instance lines

reaches_reached : (o i : ℕ) (s : Summary) → reaches o i s ≡ true → is_reached i s ≡ true
unfolding reaches is_reached
reaches_reached o i [] e = e
reaches_reached o i (p ∷ s) e = go (or_cases _ _ e) (reaches_reached o i s)
  where
    go : (eqb o p.0 && eqb i p.1 ≡ true) ⊎ (reaches o i s ≡ true) → (reaches o i s ≡ true → is_reached i s ≡ true) → eqb i p.1 || is_reached i s ≡ true
    go (inl h) ih = or_left (eqb i p.1) (is_reached i s) (and_both (eqb o p.0) (eqb i p.1) h).1
    go (inr h) ih = or_right (eqb i p.1) _ (ih h)

reached_reaches : (i : ℕ) (s : Summary) → is_reached i s ≡ true → (o : ℕ) × (reaches o i s ≡ true) × (has_output o s ≡ true)
unfolding reaches is_reached has_output
reached_reaches i [] e = absurd (clash e refl)
reached_reaches i (p ∷ s) e = go (or_cases _ _ e) (reached_reaches i s)
  where
    go : (eqb i p.1 ≡ true) ⊎ (is_reached i s ≡ true) → (is_reached i s ≡ true → (o : ℕ) × (reaches o i s ≡ true) × (has_output o s ≡ true))
        → (o : ℕ) × (reaches o i (p ∷ s) ≡ true) × (has_output o (p ∷ s) ≡ true)
    go (inl h) ih = (p.0, or_left _ _ (and_of _ _ (eq-eqb p.0 p.0 refl) h), or_left _ _ (eq-eqb p.0 p.0 refl))
    go (inr h) ih = let (o, r, q) = ih h in (o, or_right (eqb o p.0 && eqb i p.1) _ r, or_right (eqb o p.0) _ q)

module _ (hs : List Header) (names : Names) (s : Summary) where
  conn_up : (o : ℕ) (cs : List Conn) → (conn_reads hs names s o cs).out ≡ true → ReadOutside hs names (conns_read s cs)
  unfolding conn_reads conns_read
  conn_up o [] e = absurd (clash e refl)
  conn_up o (c ∷ cs) e = go (reaches o c.port s) refl (is_reached c.port s) refl (conn_up o cs)
    where
      up : ((expr_reads c.signal hs names).out ≡ true) ⊎ ((conn_reads hs names s o cs).out ≡ true) → ((conn_reads hs names s o cs).out ≡ true → ReadOutside hs names (conns_read s cs)) → ReadOutside hs names (c.signal ∷ conns_read s cs)
      up (inl h) ih = let r = (read_alone hs names c.signal).0 h in record { read = r.read; listed = Memᴰ.append_left (conns_read s cs) r.listed; one = r.one }
      up (inr h) ih = let r = ih h in record { read = r.read; listed = Memᴰ.tail r.listed; one = r.one }

      go : (b : Bool) → reaches o c.port s ≡ b → (b' : Bool) → is_reached c.port s ≡ b' → ((conn_reads hs names s o cs).out ≡ true → ReadOutside hs names (conns_read s cs)) → ReadOutside hs names (conns_read s (c ∷ cs))
      go true h false h' ih = absurd (clash (reaches_reached o c.port s h) h')
      go true h true h' ih = rw (h', conns_read) (up (or_cases _ _ (rw (h, conn_reads) at e)) ih)
      go false h true h' ih = rw (h', conns_read) (up (inr (rw (h, conn_reads) at e)) ih)
      go false h false h' ih = rw (h', conns_read) (ih (rw (h, conn_reads) at e))

  conn_down : (cs : List Conn) (e : Expr) → e ∈ conns_read s cs → (expr_reads e hs names).out ≡ true → (o : ℕ) × (has_output o s ≡ true) × ((conn_reads hs names s o cs).out ≡ true)
  unfolding conn_reads conns_read
  conn_down [] e i h = absurd (Memᴰ.not-nil i)
  conn_down (c ∷ cs) e i h = go (is_reached c.port s) refl (λ j. conn_down cs e j h)
    where
      more : (o : ℕ) → has_output o s ≡ true → (conn_reads hs names s o cs).out ≡ true → (b : Bool) → reaches o c.port s ≡ b → (o : ℕ) × (has_output o s ≡ true) × ((conn_reads hs names s o (c ∷ cs)).out ≡ true)
      more o q r true k = (o, q, rw (k, conn_reads) (or_right (expr_reads c.signal hs names).out _ r))
      more o q r false k = (o, q, rw (k, conn_reads) r)

      here : e ≡ c.signal → is_reached c.port s ≡ true → (o : ℕ) × (has_output o s ≡ true) × ((conn_reads hs names s o (c ∷ cs)).out ≡ true)
      here d k = let (o, r, q) = reached_reaches c.port s k in (o, q, rw (r, conn_reads) (or_left _ _ (subst (λ z. (expr_reads z hs names).out ≡ true) d h)))

      split : is_reached c.port s ≡ true → (e ∈ conns_read s cs → (o : ℕ) × (has_output o s ≡ true) × ((conn_reads hs names s o cs).out ≡ true)) → (e ≡ c.signal) ⊎ (e ∈ conns_read s cs) → (o : ℕ) × (has_output o s ≡ true) × ((conn_reads hs names s o (c ∷ cs)).out ≡ true)
      split k ih (inl d) = here d k
      split k ih (inr j) = let (o, q, r) = ih j in more o q r (reaches o c.port s) refl

      go : (b : Bool) → is_reached c.port s ≡ b → (e ∈ conns_read s cs → (o : ℕ) × (has_output o s ≡ true) × ((conn_reads hs names s o cs).out ≡ true)) → (o : ℕ) × (has_output o s ≡ true) × ((conn_reads hs names s o (c ∷ cs)).out ≡ true)
      go true k ih = split k ih (Memᴰ.cases_cons (rw (k, conns_read) at i))
      go false k ih = let (o, q, r) = ih (rw (k, conns_read) at i) in more o q r (reaches o c.port s) refl

  module _ (n : Inst) (x : Option ℤ) where
    outs_up : (rest : Summary) → (output_heads hs names n x s rest).out ≡ true → (o : ℕ) × ((conn_reads hs names s o n.conns).out ≡ true)
    unfolding output_heads
    outs_up [] e = absurd (clash e refl)
    outs_up (p ∷ rest) e = go (has_output p.0 rest) refl (outs_up rest)
      where
        split : ((conn_reads hs names s p.0 n.conns).out ≡ true) ⊎ ((output_heads hs names n x s rest).out ≡ true) → ((output_heads hs names n x s rest).out ≡ true → (o : ℕ) × ((conn_reads hs names s o n.conns).out ≡ true)) → (o : ℕ) × ((conn_reads hs names s o n.conns).out ≡ true)
        split (inl h) ih = (p.0, h)
        split (inr h) ih = ih h

        go : (b : Bool) → has_output p.0 rest ≡ b → ((output_heads hs names n x s rest).out ≡ true → (o : ℕ) × ((conn_reads hs names s o n.conns).out ≡ true)) → (o : ℕ) × ((conn_reads hs names s o n.conns).out ≡ true)
        go true h ih = ih (rw (h, output_heads) at e)
        go false h ih = split (or_cases _ _ (rw (h, output_heads) at e)) ih

    outs_down : (o : ℕ) → (conn_reads hs names s o n.conns).out ≡ true → (rest : Summary) → has_output o rest ≡ true → (output_heads hs names n x s rest).out ≡ true
    unfolding output_heads has_output
    outs_down o r [] q = absurd (clash q refl)
    outs_down o r (p ∷ rest) q = go (has_output p.0 rest) refl (or_cases _ _ q) (outs_down o r rest)
      where
        go : (b : Bool) → has_output p.0 rest ≡ b → (eqb o p.0 ≡ true) ⊎ (has_output o rest ≡ true) → (has_output o rest ≡ true → (output_heads hs names n x s rest).out ≡ true) → (output_heads hs names n x s (p ∷ rest)).out ≡ true
        go true h (inl d) ih = rw (h, output_heads) (ih (subst (λ z. has_output z rest ≡ true) (sym (eqb-true o p.0 d)) h))
        go true h (inr d) ih = rw (h, output_heads) (ih d)
        go false h (inl d) ih = rw (h, output_heads) (or_left _ _ (subst (λ z. (conn_reads hs names s z n.conns).out ≡ true) (eqb-true o p.0 d) r))
        go false h (inr d) ih = rw (h, output_heads) (or_right (conn_reads hs names s p.0 n.conns).out _ (ih d))

  inst_says : (n : Inst) → ((inst_edges hs names n s).out ≡ true) ↔ ReadOutside hs names (conns_read s n.conns)
  unfolding inst_edges
  inst_says n = (λ e. let (o, r) = outs_up n _ s e in conn_up o n.conns r, down)
    where
      down : ReadOutside hs names (conns_read s n.conns) → (output_heads hs names n (index_of (place_value names n.place)) s s).out ≡ true
      down r = let (o, q, h) = conn_down n.conns r.read r.listed ((reads_say r.read hs names).1 r.one) in outs_down n _ o h s q

drive_says : (hs : List Header) (names : Names) (k : Driving) (lv : LValue) (e : Expr)
    → ((drive_heads k lv (and_reads (expr_reads e hs names) (index_reads hs names lv.index))).out ≡ true) ↔ ReadOutside hs names (drive_read k lv.index e)
drive_says hs names an_output lv e = read_append {xs = e ∷ []} (read_alone hs names e) (index_says hs names lv.index)
drive_says hs names a_wire lv e = read_append {xs = e ∷ []} (read_alone hs names e) (index_says hs names lv.index)
drive_says hs names a_reg lv e = no_read
drive_says hs names a_mem lv e = no_read
drive_says hs names nothing lv e = no_read

line_says : (hs : List Header) (names : Names) (s : Summary) (i : Item) → ((line_heads hs names s i).out ≡ true) ↔ ReadOutside hs names (line_read hs s i)
unfolding line_heads line_read
line_says hs names s (wire n e start) = read_alone hs names e
line_says hs names s (drive lv e) = drive_says hs names (driving (kind_of hs lv.name)) lv e
line_says hs names s (inst i) = inst_says hs names s i
line_says hs names s (port d n w start) = no_read
line_says hs names s (reg n start) = no_read
line_says hs names s (mem n start) = no_read
line_says hs names s (const n e) = no_read
line_says hs names s (on start ss) = no_read
line_says hs names s (repeat n l h is) = no_read
line_says hs names s (const_if c is js) = no_read

-- ---- walks over collected lines

module _ (ask : Kept → ℕ → Asked) (Asks : Kept → ℕ → Type 0) (says : (kept : Kept) (m : ℕ) → ((ask kept m).full ≡ true) ↔ Asks kept m) (hs : List Header) where
  pass_more : {kept : Kept} {c : Collected} {cs : List Collected} → LinesPass ask Asks hs (ask_for ask kept (inst_of c.item)).kept cs → LinesPass ask Asks hs kept (c ∷ cs)
  unfolding lines_heads
  pass_more {c = c} (line_asks before after b i e h a) = line_asks (c ∷ before) after b i (ap (λ z. c ∷ z) e) h a
  pass_more {c = c} (line_reads before after b e f d i j o) = line_reads (c ∷ before) after b e f (ap (λ z. c ∷ z) d) i j o

  asked_up : (kept : Kept) (x : Option Inst) → (ask_for ask kept x).full ≡ true → (i : Inst) × (x ≡ some i) × Asks kept i.«module»
  unfolding ask_for
  asked_up kept none e = absurd (clash e refl)
  asked_up kept (some i) e = (i, refl, (says kept i.«module»).0 e)

  walk_up : (cs : List Collected) (kept : Kept) → (lines_heads ask hs kept cs).full ≡ true → LinesPass ask Asks hs kept cs
  unfolding lines_heads
  walk_up [] kept e = absurd (clash e refl)
  walk_up (c ∷ cs) kept e = go (or_cases _ _ e) (walk_up cs (ask_for ask kept (inst_of c.item)).kept)
    where
      a : Asked
      a = ask_for ask kept (inst_of c.item)

      first : (a.full ≡ true) ⊎ ((line_heads hs c.names a.summary c.item).out ≡ true) → LinesPass ask Asks hs kept (c ∷ cs)
      first (inl h) = let (i, q, x) = asked_up kept (inst_of c.item) h in line_asks [] cs c i refl q x
      first (inr h) = let r = (line_says hs c.names a.summary c.item).0 h in line_reads [] cs c r.read r.one.part refl r.listed r.one.listed r.one.out

      go : ((a.full || (line_heads hs c.names a.summary c.item).out) ≡ true) ⊎ ((lines_heads ask hs a.kept cs).full ≡ true) → ((lines_heads ask hs a.kept cs).full ≡ true → LinesPass ask Asks hs a.kept cs) → LinesPass ask Asks hs kept (c ∷ cs)
      go (inl h) ih = first (or_cases _ _ h)
      go (inr h) ih = pass_more (ih h)

  asks_full : (before after : List Collected) (c : Collected) (i : Inst) (kept : Kept) → inst_of c.item ≡ some i → Asks (lines_heads ask hs kept before).kept i.«module»
      → (lines_heads ask hs kept (before ++ c ∷ after)).full ≡ true
  unfolding lines_heads ask_for
  asks_full [] after c i kept e h = or_left _ _ (or_left _ _ (subst⁻¹ (λ z. (ask_for ask kept z).full ≡ true) e ((says kept i.«module»).1 h)))
  asks_full (b ∷ before) after c i kept e h = or_right ((ask_for ask kept (inst_of b.item)).full || (line_heads hs b.names (ask_for ask kept (inst_of b.item)).summary b.item).out) _ (asks_full before after c i (ask_for ask kept (inst_of b.item)).kept e h)

  reads_full : (before after : List Collected) (c : Collected) (e f : Expr) (kept : Kept)
      → e ∈ line_read hs (ask_for ask (lines_heads ask hs kept before).kept (inst_of c.item)).summary c.item → f ∈ read_constants e hs → value c.names f ≡ outside
      → (lines_heads ask hs kept (before ++ c ∷ after)).full ≡ true
  unfolding lines_heads
  reads_full [] after c e f kept i j o =
      or_left _ _ (or_right (ask_for ask kept (inst_of c.item)).full _ ((line_says hs c.names _ c.item).1 (record { read = e; listed = i; one = record { part = f; listed = j; out = o } })))
  reads_full (b ∷ before) after c e f kept i j o = or_right ((ask_for ask kept (inst_of b.item)).full || (line_heads hs b.names (ask_for ask kept (inst_of b.item)).summary b.item).out) _ (reads_full before after c e f (ask_for ask kept (inst_of b.item)).kept i j o)

  walk_says : (kept : Kept) (cs : List Collected) → ((lines_heads ask hs kept cs).full ≡ true) ↔ LinesPass ask Asks hs kept cs
  walk_says kept cs = (walk_up cs kept, down)
    where
      down : LinesPass ask Asks hs kept cs → (lines_heads ask hs kept cs).full ≡ true
      down (line_asks before after c i e h a) = subst⁻¹ (λ z. (lines_heads ask hs kept z).full ≡ true) e (asks_full before after c i kept h a)
      down (line_reads before after c e f d i j o) = subst⁻¹ (λ z. (lines_heads ask hs kept z).full ≡ true) d (reads_full before after c e f kept i j o)

-- ---- graphs

graph_says : (hs : List Head) → (over_graph hs ≡ true) ↔ GraphPasses hs
unfolding over_graph
graph_says hs = (λ e. up (or_cases _ _ e), down)
  where
    nodes : ℕ
    nodes = length (each_once same_node (all_nodes hs))

    edges : ℕ
    edges = edge_count hs

    up : (ltb node_limit nodes ≡ true) ⊎ (ltb edge_limit edges ≡ true) → GraphPasses hs
    up (inl h) = many_nodes (ltb-true node_limit nodes h)
    up (inr h) = many_edges (ltb-true edge_limit edges h)

    down : GraphPasses hs → ltb node_limit nodes || ltb edge_limit edges ≡ true
    down (many_nodes h) = or_left _ _ (lt-ltb node_limit nodes h)
    down (many_edges h) = or_right (ltb node_limit nodes) _ (lt-ltb edge_limit edges h)

-- ---- summaries

-- a limit
over_says : (limit n : ℕ) → (ltb limit n ≡ true) ↔ (limit < n)
over_says limit n = (ltb-true limit n, lt-ltb limit n)

making_says : (ask : Kept → ℕ → Asked) (Asks : Kept → ℕ → Type 0) → ((kept : Kept) (m : ℕ) → ((ask kept m).full ≡ true) ↔ Asks kept m)
    → (kept : Kept) (m : ℕ) (k : Module) → ((make_summary ask kept m k).full ≡ true) ↔ MakingPasses ask Asks kept m k
unfolding make_summary
making_says ask Asks says kept m k = (λ e. up (flags.0 e), λ p. flags.1 (down p))
  where
    h : Headed
    h = lines_heads ask k.header kept (collection (own_vals k) k).lines

    Three : Type 0
    Three = (LinesPass ask Asks k.header kept (collection (own_vals k) k).lines ⊎ GraphPasses h.heads) ⊎ (triple_limit < triples (make_summary ask kept m k).kept)

    flags : ((make_summary ask kept m k).full ≡ true) ↔ Three
    flags = or_says (or_says (walk_says ask Asks says k.header kept (collection (own_vals k) k).lines) (graph_says h.heads)) (over_says triple_limit (triples (make_summary ask kept m k).kept))

    up : Three → MakingPasses ask Asks kept m k
    up (inl (inl p)) = summary_walk p
    up (inl (inr p)) = summary_graph p
    up (inr p) = many_triples p

    down : MakingPasses ask Asks kept m k → Three
    down (summary_walk p) = inl (inl p)
    down (summary_graph p) = inl (inr p)
    down (many_triples p) = inr p

asks_say : (fuel : ℕ) (d : Design) (busy : List ℕ) (kept : Kept) (m : ℕ) → ((comb_summary fuel d busy kept m).full ≡ true) ↔ AskPasses fuel d busy kept m
unfolding comb_summary AskPasses
asks_say zero d busy kept m = (λ e. absurd (clash e refl), λ x. absurd x)
asks_say (suc fuel) d busy kept m =
    go (get_elem? d m) refl (has_name m busy) refl (kept_summary kept m) refl
    (λ k. making_says (comb_summary fuel d (m ∷ busy)) (λ kept' m'. AskPasses fuel d (m ∷ busy) kept' m') (λ kept' m'. asks_say fuel d (m ∷ busy) kept' m') kept m k)
  where
    Passing : Type 0
    Passing =
        (k : Module) × (get_elem? d m ≡ some k) × (kept_summary kept m ≡ none) × (has_name m busy ≡ false)
        × MakingPasses (comb_summary fuel d (m ∷ busy)) (λ kept' m'. AskPasses fuel d (m ∷ busy) kept' m') kept m k

    go : (x : Option Module) → get_elem? d m ≡ x → (b : Bool) → has_name m busy ≡ b → (s : Option Summary) → kept_summary kept m ≡ s
        → ((k : Module) → ((make_summary (comb_summary fuel d (m ∷ busy)) kept m k).full ≡ true) ↔ MakingPasses (comb_summary fuel d (m ∷ busy)) (λ kept' m'. AskPasses fuel d (m ∷ busy) kept' m') kept m k)
        → ((comb_summary (suc fuel) d busy kept m).full ≡ true) ↔ Passing
    go none x b eb s es says = (λ e. absurd (clash (rw (x, comb_summary) at e) refl), λ p. absurd (none_some x p.1))
      where
        none_some : {A : Type 0} {o : Option A} {a : A} → o ≡ none → o ≡ some a → ⊥
        none_some p q = let z : ◌≡◌ {A = ℕ} 0 1 = cc in omega arith
    go (some k) x true eb s es says = (λ e. absurd (clash (rw (x, eb, comb_summary) at e) refl), λ p. absurd (clash eb p.3))
    go (some k) x false eb (some s) es says = (λ e. absurd (clash (rw (x, eb, es, comb_summary) at e) refl), λ p. absurd (none_some p.2 es))
      where
        none_some : {A : Type 0} {o : Option A} {a : A} → o ≡ none → o ≡ some a → ⊥
        none_some p q = let z : ◌≡◌ {A = ℕ} 0 1 = cc in omega arith
    go (some k) x false eb none es says = (
      λ e. (k, x, es, eb, (says k).0 (rw (x, eb, es, comb_summary) at e)),
      λ p. let same : p.0 ≡ k = some_same p.1 x in rw (x, eb, es, comb_summary) ((says k).1 (subst (λ z. MakingPasses (comb_summary fuel d (m ∷ busy)) (λ kept' m'. AskPasses fuel d (m ∷ busy) kept' m') kept m z) same p.4)),
    )
      where
        some_same : {A : Type 0} {o : Option A} {a b : A} → o ≡ some a → o ≡ some b → a ≡ b
        some_same p q = cc

-- ---- the fuel of the summaries

-- the numbers below n
below : ℕ → List ℕ
below zero = []
below (suc n) = n ∷ below n

length_below : (n : ℕ) → length (below n) ≡ n
unfolding below
length_below zero = refl
length_below (suc n) = ap suc (length_below n)

in_below : (n a : ℕ) → a < n → a ∈ below n
unfolding below
in_below zero a h = absurd (omega arith)
in_below (suc n) a h = go (which (eqb a n)) (in_below n a)
  where
    go : (eqb a n ≡ true) ⊎ (eqb a n ≡ false) → (a < n → a ∈ below n) → a ∈ (n ∷ below n)
    go (inl e) ih = Memᴰ.head (eqb-true a n e)
    go (inr e) ih = let x = eqb-false a n e in Memᴰ.tail (ih (omega arith))

placed_below : (d : Design) (m : ℕ) (k : Module) → get_elem? d m ≡ some k → m < length d
placed_below [] zero k e = let z : ◌≡◌ {A = ℕ} 0 1 = cc in absurd (omega arith)
placed_below [] (suc m) k e = let z : ◌≡◌ {A = ℕ} 0 1 = cc in absurd (omega arith)
placed_below (x ∷ d) zero k e = omega arith
placed_below (x ∷ d) (suc m) k e = omega (arith, placed_below d m k e)

busy_few : (d : Design) (busy : List ℕ) → Once busy → ((a : ℕ) → a ∈ busy → a < length d) → length busy ≤ length d
busy_few d busy o h = omega (arith, once_length busy (below (length d)) o (λ a i. in_below (length d) a (h a i)), length_below (length d))

-- the modules being summarised are different ones of the design: their number and the fuel come to more than all modules
fuel_same : (d : Design) (fuel fuel' : ℕ) (busy : List ℕ) → Once busy → ((a : ℕ) → a ∈ busy → a < length d) → length d < fuel + length busy → length d < fuel' + length busy
    → (kept : Kept) (m : ℕ) → comb_summary fuel d busy kept m ≡ comb_summary fuel' d busy kept m
unfolding comb_summary
fuel_same d zero fuel' busy o h l l' kept m = absurd (omega (arith, busy_few d busy o h))
fuel_same d (suc fuel) zero busy o h l l' kept m = absurd (omega (arith, busy_few d busy o h))
fuel_same d (suc fuel) (suc fuel') busy o h l l' kept m =
    go (get_elem? d m) refl (has_name m busy) refl (kept_summary kept m) refl
    (λ q f kept' m'. fuel_same d fuel fuel' (m ∷ busy) (f, o) (λ a i. inside q a (Memᴰ.cases_cons i)) (omega arith) (omega arith) kept' m')
  where
    inside : m < length d → (a : ℕ) → (a ≡ m) ⊎ (a ∈ busy) → a < length d
    inside q a (inl e) = omega arith
    inside q a (inr i) = h a i

    go : (x : Option Module) → get_elem? d m ≡ x → (b : Bool) → has_name m busy ≡ b → (s : Option Summary) → kept_summary kept m ≡ s
        → (m < length d → ¬ (m ∈ busy) → (kept' : Kept) (m' : ℕ) → comb_summary fuel d (m ∷ busy) kept' m' ≡ comb_summary fuel' d (m ∷ busy) kept' m')
        → comb_summary (suc fuel) d busy kept m ≡ comb_summary (suc fuel') d busy kept m
    go none x b eb s es ih = rw (x, comb_summary)
    go (some k) x true eb s es ih = rw (x, eb, comb_summary)
    go (some k) x false eb (some s) es ih = rw (x, eb, es, comb_summary)
    go (some k) x false eb none es ih = rw (x, eb, es, comb_summary) (ap (λ ask. make_summary ask kept m k) (fun_ext (λ kept'. fun_ext (λ m'. ih (placed_below d m k x) (unnamed eb) kept' m'))))

-- ---- constants at the top level

record ConstOutside (t : Table) (is : List Item) : Type 0 where
  before : List Item
  after : List Item
  name : ℕ
  expr : Expr
  parted : is ≡ before ++ Item.const name expr ∷ after
  out : value (const_table t before).names expr ≡ outside

with_says : (n : ℕ) (v : Value) (t : Table) → ((with_value n v t).out ≡ true) ↔ ((t.out ≡ true) ⊎ (v ≡ outside))
unfolding with_value
with_says n (known z) t = (λ e. inl e, λ x. only x)
  where
    only : (t.out ≡ true) ⊎ (known z ≡ outside) → t.out ≡ true
    only (inl e) = e
    only (inr e) = let h : ◌≡◌ {A = ℕ} 0 1 = cc in absurd (omega arith)
with_says n missing t = (λ e. inl e, λ x. only x)
  where
    only : (t.out ≡ true) ⊎ (missing ≡ outside) → t.out ≡ true
    only (inl e) = e
    only (inr e) = let h : ◌≡◌ {A = ℕ} 0 1 = cc in absurd (omega arith)
with_says n outside t = (λ e. inr refl, λ x. refl)

-- an item is a `const` line outside INT
abbrev IsOutside : Table → Item → Type 0
IsOutside t i = (n : ℕ) × (e : Expr) × (i ≡ Item.const n e) × (value t.names e ≡ outside)

item_kept : (t : Table) (i : Item) → const_names t (Items.more i Items.none) ≡ t → ((n : ℕ) (e : Expr) → i ≡ Item.const n e → ⊥)
    → ((const_names t (Items.more i Items.none)).out ≡ true) ↔ ((t.out ≡ true) ⊎ IsOutside t i)
item_kept t i h other = (λ e. inl (ap (λ z. z.out) (sym h) ∙ e), down)
  where
    down : (t.out ≡ true) ⊎ IsOutside t i → (const_names t (Items.more i Items.none)).out ≡ true
    down (inl e) = ap (λ z. z.out) h ∙ e
    down (inr x) = absurd (other x.0 x.1 x.2)

-- a number for each kind of item, which tells a `const` line from the others
abbrev is_const : Item → ℕ
is_const (port d n w s) = 0
is_const (wire n e s) = 0
is_const (reg n s) = 0
is_const (mem n s) = 0
is_const (const n e) = 1
is_const (drive lv e) = 0
is_const (on s ss) = 0
is_const (inst i) = 0
is_const (repeat n l h is) = 0
is_const (const_if c is js) = 0

no_const : (i : Item) → is_const i ≡ 0 → (n : ℕ) (e : Expr) → i ≡ Item.const n e → ⊥
no_const i h n e d = let z : ◌≡◌ {A = ℕ} 1 0 = ap is_const (sym d) ∙ h in omega arith

item_says : (t : Table) (i : Item) → ((const_names t (Items.more i Items.none)).out ≡ true) ↔ ((t.out ≡ true) ⊎ IsOutside t i)
unfolding const_names
item_says t (port d n w s) = item_kept t (port d n w s) refl (no_const (port d n w s) refl)
item_says t (wire n e s) = item_kept t (wire n e s) refl (no_const (wire n e s) refl)
item_says t (reg n s) = item_kept t (reg n s) refl (no_const (reg n s) refl)
item_says t (mem n s) = item_kept t (mem n s) refl (no_const (mem n s) refl)
item_says t (drive lv e) = item_kept t (drive lv e) refl (no_const (drive lv e) refl)
item_says t (on s ss) = item_kept t (on s ss) refl (no_const (on s ss) refl)
item_says t (inst i) = item_kept t (inst i) refl (no_const (inst i) refl)
item_says t (repeat n l h is) = item_kept t (repeat n l h is) refl (no_const (repeat n l h is) refl)
item_says t (const_if c is js) = item_kept t (const_if c is js) refl (no_const (const_if c is js) refl)
item_says t (const n e) = (λ h. up ((with_says n (value t.names e) t).0 h), λ x. (with_says n (value t.names e) t).1 (down x))
  where
    up : (t.out ≡ true) ⊎ (value t.names e ≡ outside) → (t.out ≡ true) ⊎ IsOutside t (Item.const n e)
    up (inl h) = inl h
    up (inr h) = inr (n, e, refl, h)

    down : (t.out ≡ true) ⊎ IsOutside t (Item.const n e) → (t.out ≡ true) ⊎ (value t.names e ≡ outside)
    down (inl h) = inl h
    down (inr (n', e', d, h)) = let c : e ≡ e' = same d in inr (ap (value t.names) c ∙ h)
      where
        same : {n n' : ℕ} {e e' : Expr} → Item.const n e ≡ Item.const n' e' → e ≡ e'
        same d = cc

item_first : (t : Table) (i : Item) (is : Items) → const_names t (Items.more i is) ≡ const_names (const_names t (Items.more i Items.none)) is
unfolding const_names
item_first t (port d n w s) is = refl
item_first t (wire n e s) is = refl
item_first t (reg n s) is = refl
item_first t (mem n s) is = refl
item_first t (const n e) is = refl
item_first t (drive lv e) is = refl
item_first t (on s ss) is = refl
item_first t (inst i) is = refl
item_first t (repeat n l h js) is = refl
item_first t (const_if c js ks) is = refl

consts_say : (is : Items) (t : Table) → ((const_names t is).out ≡ true) ↔ ((t.out ≡ true) ⊎ ConstOutside t (item_list is))
unfolding const_names const_table item_list
consts_say Items.none t = (λ e. inl e, down)
  where
    down : (t.out ≡ true) ⊎ ConstOutside t [] → t.out ≡ true
    down (inl e) = e
    down (inr x) = absurd (not_cons x.before _ x.after x.parted)
consts_say (Items.more i is) t =
    let ih = consts_say is (const_names t (Items.more i Items.none)) in
    (λ e. up (ih.0 (ap (λ z. z.out) (sym (item_first t i is)) ∙ e)), λ x. ap (λ z. z.out) (item_first t i is) ∙ ih.1 (down x))
  where
    next : Table
    next = const_names t (Items.more i Items.none)

    first : (t.out ≡ true) ⊎ IsOutside t i → (t.out ≡ true) ⊎ ConstOutside t (i ∷ item_list is)
    first (inl e) = inl e
    first (inr (n, e, d, h)) = inr (record { before = []; after = item_list is; name = n; expr = e; parted = ap (λ z. z ∷ item_list is) d; out = h })

    up : (next.out ≡ true) ⊎ ConstOutside next (item_list is) → (t.out ≡ true) ⊎ ConstOutside t (i ∷ item_list is)
    up (inl e) = first ((item_says t i).0 e)
    up (inr x) = inr (record { before = i ∷ x.before; after = x.after; name = x.name; expr = x.expr; parted = ap (λ z. i ∷ z) x.parted; out = x.out })

    at : (before after : List Item) (n : ℕ) (e : Expr) → i ∷ item_list is ≡ before ++ Item.const n e ∷ after → value (const_table t before).names e ≡ outside → (next.out ≡ true) ⊎ ConstOutside next (item_list is)
    at [] after n e d h = inl ((item_says t i).1 (inr (n, e, head_same d, h)))
    at (b ∷ before) after n e d h = inr (record { before = before; after = after; name = n; expr = e; parted = tail_same d; out = subst (λ z. value (const_table (const_names t (Items.more z Items.none)) before).names e ≡ outside) (sym (head_same d)) h })

    down : (t.out ≡ true) ⊎ ConstOutside t (i ∷ item_list is) → (next.out ≡ true) ⊎ ConstOutside next (item_list is)
    down (inl e) = inl ((item_says t i).1 (inl e))
    down (inr x) = at x.before x.after x.name x.expr x.parted x.out

-- ---- widths

record WidthOutside (names : Names) (poisoned : List ℕ) (ss : List Site) (os : List Output) : Type 0 where
  output : Output
  listed : output ∈ os
  clean : has_name output.name poisoned ≡ false
  out : deciding_width names (sites_of output.name ss) output.width ≡ outside

width_more : {names : Names} {poisoned : List ℕ} {ss : List Site} {o : Output} {os : List Output} → WidthOutside names poisoned ss os → WidthOutside names poisoned ss (o ∷ os)
width_more w = record { output = w.output; listed = Memᴰ.tail w.listed; clean = w.clean; out = w.out }

widths_say : (names : Names) (poisoned : List ℕ) (ss : List Site) (os : List Output) → (widths_out names poisoned ss os ≡ true) ↔ WidthOutside names poisoned ss os
unfolding widths_out
widths_say names poisoned ss [] = (λ e. absurd (clash e refl), λ w. absurd (Memᴰ.not-nil w.listed))
widths_say names poisoned ss (o ∷ os) = go (has_name o.name poisoned) refl (widths_say names poisoned ss os)
  where
    here : Bool
    here = is_outside (deciding_width names (sites_of o.name ss) o.width)

    go : (b : Bool) → has_name o.name poisoned ≡ b → ((widths_out names poisoned ss os ≡ true) ↔ WidthOutside names poisoned ss os) → (widths_out names poisoned ss (o ∷ os) ≡ true) ↔ WidthOutside names poisoned ss (o ∷ os)
    go true h ih = rw (h, widths_out) (λ e. width_more (ih.0 e), λ w. ih.1 (behind w (Memᴰ.cases_cons w.listed)))
      where
        behind : (w : WidthOutside names poisoned ss (o ∷ os)) → (w.output ≡ o) ⊎ (w.output ∈ os) → WidthOutside names poisoned ss os
        behind w (inl e) = absurd (clash h (ap (λ z. has_name z.name poisoned) (sym e) ∙ w.clean))
        behind w (inr i) = record { output = w.output; listed = i; clean = w.clean; out = w.out }
    go false h ih = rw (h, widths_out) (λ e. up (or_cases here _ e), λ w. down w (Memᴰ.cases_cons w.listed))
      where
        up : (here ≡ true) ⊎ (widths_out names poisoned ss os ≡ true) → WidthOutside names poisoned ss (o ∷ os)
        up (inl e) = record { output = o; listed = Memᴰ.head refl; clean = h; out = (outside_says _).0 e }
        up (inr e) = width_more (ih.0 e)

        down : (w : WidthOutside names poisoned ss (o ∷ os)) → (w.output ≡ o) ⊎ (w.output ∈ os) → here || widths_out names poisoned ss os ≡ true
        down w (inl e) = or_left here _ ((outside_says _).1 (ap (λ z. deciding_width names (sites_of z.name ss) z.width) (sym e) ∙ w.out))
        down w (inr i) = or_right here _ (ih.1 (record { output = w.output; listed = i; clean = w.clean; out = w.out }))

-- ---- a module's own check

own_says : (d : Design) (kept : Kept) (m : ℕ) (k : Module) → ((check_module_drivers d kept m k).full ≡ true) ↔ ModulePasses d kept k
unfolding check_module_drivers name_table module_heads
own_says d kept m k = (λ e. up (flags.0 e), λ p. flags.1 (down p))
  where
    lines : List Collected
    lines = (collection (own_vals k) k).lines

    ss : List Site
    ss = sites k.bound k.header lines

    start : Table
    start = record { names = own_vals k; out = false }

    Seven : Type 0
    Seven =
        ((((((((false ≡ true) ⊎ ConstOutside start (item_list k.items)) ⊎ LineOutside k.header lines) ⊎ (site_limit < length ss)) ⊎ (pair_limit < length (pairs k.header lines)))
        ⊎ LinesPass (comb_summary (suc (length d)) d []) (λ kept' m'. AskPasses (suc (length d)) d [] kept' m') k.header kept lines)
        ⊎ GraphPasses (module_heads d kept k lines).heads) ⊎ WidthOutside (name_table (own_vals k) k).names (poisoned_in k) ss (outputs lines))

    flags : ((check_module_drivers d kept m k).full ≡ true) ↔ Seven
    flags =
        or_says (or_says (or_says (or_says (or_says (or_says (consts_say k.items start) (lines_say k.header lines)) (over_says site_limit (length ss))) (over_says pair_limit (length (pairs k.header lines))))
        (walk_says (comb_summary (suc (length d)) d []) (λ kept' m'. AskPasses (suc (length d)) d [] kept' m') (λ kept' m'. asks_say (suc (length d)) d [] kept' m') k.header kept lines))
        (graph_says (module_heads d kept k lines).heads)) (widths_say (name_table (own_vals k) k).names (poisoned_in k) ss (outputs lines))

    up : Seven → ModulePasses d kept k
    up (inl (inl (inl (inl (inl (inl (inl e))))))) = absurd (clash e refl)
    up (inl (inl (inl (inl (inl (inl (inr x))))))) = const_outside x.before x.after x.name x.expr x.parted x.out
    up (inl (inl (inl (inl (inl (inr (c, i, o))))))) = line_outside c o.part i o.listed o.out
    up (inl (inl (inl (inl (inr h))))) = many_sites h
    up (inl (inl (inl (inr h)))) = many_pairs h
    up (inl (inl (inr w))) = own_walk w
    up (inl (inr g)) = own_graph g
    up (inr w) =
        let o = w.output in
        let (n, r, v) = (deciding_says (name_table (own_vals k) k).names (sites_of o.name ss) o.width).0 w.out in
        width_outside o.start o.name o.width ((outputs_say k o).0 w.listed) ((clean_says k o.name).0 w.clean) n r v

    down : ModulePasses d kept k → Seven
    down (const_outside before after n e p o) = inl (inl (inl (inl (inl (inl (inr (record { before = before; after = after; name = n; expr = e; parted = p; out = o })))))))
    down (line_outside c e i j o) = inl (inl (inl (inl (inl (inr (c, i, record { part = e; listed = j; out = o }))))))
    down (width_outside at n w i c sited r v) =
        let o : Output = record { name = n; width = w; start = at } in
        inr (record {
          output = o;
          listed = (outputs_say k o).1 i;
          clean = (clean_says k n).1 c;
          out = (deciding_says (name_table (own_vals k) k).names (sites_of n ss) w).1 (sited, r, v);
        })
    down (many_sites h) = inl (inl (inl (inl (inr h))))
    down (many_pairs h) = inl (inl (inl (inr h)))
    down (own_walk w) = inl (inl (inr w))
    down (own_graph g) = inl (inr g)

-- ---- all modules

record SomePasses (d : Design) (kept : Kept) (m : ℕ) (ms : List Module) : Type 0 where
  before : List Module
  after : List Module
  own : Module
  parted : ms ≡ before ++ own ∷ after
  passes : ModulePasses d (check_modules d kept m before).kept own

modules_say : (d : Design) (ms : List Module) (kept : Kept) (m : ℕ) → ((check_modules d kept m ms).full ≡ true) ↔ SomePasses d kept m ms
unfolding check_modules
modules_say d [] kept m = (λ e. absurd (clash e refl), λ p. absurd (not_cons p.before p.own p.after p.parted))
modules_say d (k ∷ ks) kept m =
    let ih = modules_say d ks (check_module_drivers d kept m k).kept (suc m) in
    (λ e. up ih.0 (or_cases _ _ e), λ p. at ih.1 p.before p.after p.own p.parted p.passes)
  where
    a : Checked
    a = check_module_drivers d kept m k

    up : ((check_modules d a.kept (suc m) ks).full ≡ true → SomePasses d a.kept (suc m) ks) → (a.full ≡ true) ⊎ ((check_modules d a.kept (suc m) ks).full ≡ true) → SomePasses d kept m (k ∷ ks)
    up ih (inl e) = record { before = []; after = ks; own = k; parted = refl; passes = (own_says d kept m k).0 e }
    up ih (inr e) = let p = ih e in record { before = k ∷ p.before; after = p.after; own = p.own; parted = ap (λ z. k ∷ z) p.parted; passes = p.passes }

    at : (SomePasses d a.kept (suc m) ks → (check_modules d a.kept (suc m) ks).full ≡ true) → (before after : List Module) (own : Module) → k ∷ ks ≡ before ++ own ∷ after → ModulePasses d (check_modules d kept m before).kept own
        → a.full || (check_modules d a.kept (suc m) ks).full ≡ true
    at ih [] after own e p = or_left a.full _ ((own_says d kept m k).1 (subst⁻¹ (λ z. ModulePasses d kept z) (head_same e) p))
    at ih (b ∷ before) after own e p = or_right a.full _ (ih (record {
      before = before;
      after = after;
      own = own;
      parted = tail_same e;
      passes = subst⁻¹ (λ z. ModulePasses d (check_modules d (check_module_drivers d kept m z).kept (suc m) before).kept own) (head_same e) p;
    }))

design_says : (d : Design) → ((check_design d).full ≡ true) ↔ Passes d
unfolding check_design
design_says d =
    (λ e. let p = (modules_say d d [] 0).0 e in own_check p.before p.after p.own p.parted p.passes, down)
  where
    down : Passes d → (check_modules d [] 0 d).full ≡ true
    down (own_check before after k e p) = (modules_say d d [] 0).1 (record { before = before; after = after; own = k; parted = e; passes = p })

-- ---- the answer

pub fault_number : (b : Before) (s : Bytes) (k : ℕ) → Fault b s k → (1 ≤ k) × (k ≤ 7)
fault_number b s k (not_one_form e) = omega arith
fault_number b s k (badly_written e) = omega arith
fault_number b s k (out_of_range w e) = omega arith
fault_number b s k (out_of_place w e) = omega arith
fault_number b s k (one_too_many w e) = omega arith

-- a refusal of the text has a number from 1 to 7
text_number : (text : Bytes) (k n : ℕ) → refusal text ≡ refused k n → (1 ≤ k) × (k ≤ 7)
text_number text k n e = go k n (reading.lowest text k n e)
  where
    go : (k n : ℕ) → Refused text k n → (1 ≤ k) × (k ≤ 7)
    go k n (too_long h) = omega arith
    go k n (bad_byte x c y l e i h) = omega arith
    go k n (no_feed l i h) = omega arith
    go k n (bad_line before s after k' l i f e c h) = fault_number _ s k' h.fault

short_says : (working : List Lent) → (too_short working ≡ true) ↔ Short working
unfolding too_short
short_says [] = (λ e. absurd (clash e refl), λ h. absurd (Memᴰ.not-nil h.1))
short_says (l ∷ ls) = (λ e. up (or_cases (ltb l.places l.limit) (too_short ls) e) (short_says ls).0, λ (x, i, h). down x h (Memᴰ.cases_cons i) (short_says ls).1)
  where
    up : (ltb l.places l.limit ≡ true) ⊎ (too_short ls ≡ true) → (too_short ls ≡ true → Short ls) → Short (l ∷ ls)
    up (inl e) ih = (l, Memᴰ.head refl, ltb-true l.places l.limit e)
    up (inr e) ih = let (x, i, h) = ih e in (x, Memᴰ.tail i, h)

    down : (x : Lent) → x.places < x.limit → (x ≡ l) ⊎ (x ∈ ls) → (Short ls → too_short ls ≡ true) → ltb l.places l.limit || too_short ls ≡ true
    down x h (inl e) ih = or_left (ltb l.places l.limit) (too_short ls) (lt-ltb l.places l.limit (subst (λ z. z.places < z.limit) e h))
    down x h (inr i) ih = or_right (ltb l.places l.limit) (too_short ls) (ih (x, i, h))

-- none is too short
long_of : (working : List Lent) → ¬ Short working → too_short working ≡ false
long_of working h = not_so (too_short working) (λ e. h ((short_says working).0 e))

abbrev found : Bytes → Checked
found text = check_design (decode text)

abbrev said : Bytes → Bytes
said text = show_reports (found text).reports

module _ (working : List Lent) (text buffer : Bytes) where
  pub by_text : (k n : ℕ) → too_short working ≡ false → refusal text ≡ refused k n → check_drivers working text buffer ≡ refuse k n buffer
  unfolding check_drivers
  by_text k n long e = rw (long, e, check_drivers)

  pub if_short : too_short working ≡ true → check_drivers working text buffer ≡ refuse 20 0 buffer
  unfolding check_drivers
  if_short e = rw (e, check_drivers)

  -- the three answers to a text with no fault, where no slice is too short
  module _ (long : too_short working ≡ false) (fine : refusal text ≡ well_formed) where
    answer_is : check_drivers working text buffer ≡ answer_checked (found text) buffer
    unfolding check_drivers
    answer_is = rw (long, fine, check_drivers)

    pub if_full : (found text).full ≡ true → check_drivers working text buffer ≡ refuse 20 0 buffer
    unfolding answer_checked
    if_full e = answer_is ∙ rw (e, answer_checked)

    pub if_longer : (found text).full ≡ false → length buffer < length (said text) → check_drivers working text buffer ≡ refuse 21 0 buffer
    unfolding answer_checked
    if_longer e h = answer_is ∙ rw (e, lt-ltb (length buffer) (length (said text)) h, answer_checked)

    pub if_fits : (found text).full ≡ false → length (said text) ≤ length buffer → check_drivers working text buffer ≡ accept (said text) (found text) buffer
    unfolding answer_checked
    if_fits e h = answer_is ∙ rw (e, le-ltb (length buffer) (length (said text)) h, answer_checked)

  -- the answer's number tells the case
  record Case (k : ℕ) : Type 0 where
    short : too_short working ≡ true → k ≡ 20
    text_fault : too_short working ≡ false → (j n : ℕ) → refusal text ≡ refused j n → (k ≡ j) × (1 ≤ j) × (j ≤ 7)
    full : too_short working ≡ false → refusal text ≡ well_formed → (found text).full ≡ true → k ≡ 20
    longer : too_short working ≡ false → refusal text ≡ well_formed → (found text).full ≡ false → length buffer < length (said text) → k ≡ 21
    fits : too_short working ≡ false → refusal text ≡ well_formed → (found text).full ≡ false → length (said text) ≤ length buffer → k ≡ 0

  number_case : (k : ℕ) → (check_drivers working text buffer).number ≡ k → Case k
  number_case k e = record {
    short = λ s. sym e ∙ ap (λ a. a.number) (if_short s);
    text_fault = λ l j n f. (sym e ∙ ap (λ a. a.number) (by_text j n l f), (text_number text j n f).0, (text_number text j n f).1);
    full = λ l f h. sym e ∙ ap (λ a. a.number) (if_full l f h);
    longer = λ l f h b. sym e ∙ ap (λ a. a.number) (if_longer l f h b);
    fits = λ l f h b. sym e ∙ ap (λ a. a.number) (if_fits l f h b);
  }

  twenty_up : check_drivers working text buffer ≡ refuse 20 0 buffer → (too_short working ≡ true) ⊎ ((refusal text ≡ well_formed) × Passes (decode text))
  twenty_up e = go (which (too_short working)) (refusal text) refl
    where
      c : Case 20
      c = number_case 20 (ap (λ a. a.number) e)

      passes : too_short working ≡ false → refusal text ≡ well_formed → ((found text).full ≡ true) ⊎ ((found text).full ≡ false)
          → (ltb (length buffer) (length (said text)) ≡ true) ⊎ (ltb (length buffer) (length (said text)) ≡ false) → Passes (decode text)
      passes long fine (inl h) x = (design_says (decode text)).0 h
      passes long fine (inr h) (inl l) = absurd (omega (arith, c.longer long fine h (ltb-true (length buffer) (length (said text)) l)))
      passes long fine (inr h) (inr l) = absurd (omega (arith, c.fits long fine h (ltb-false (length buffer) (length (said text)) l)))

      go : (too_short working ≡ true) ⊎ (too_short working ≡ false) → (v : Verdict) → refusal text ≡ v → (too_short working ≡ true) ⊎ ((refusal text ≡ well_formed) × Passes (decode text))
      go (inl short) v h = inl short
      go (inr long) (refused k n) h = absurd (omega (arith, c.text_fault long k n h))
      go (inr long) well_formed h = inr (h, passes long h (which (found text).full) (which (ltb (length buffer) (length (said text)))))

  twenty_down : (too_short working ≡ true) ⊎ ((refusal text ≡ well_formed) × Passes (decode text)) → check_drivers working text buffer ≡ refuse 20 0 buffer
  twenty_down (inl e) = if_short e
  twenty_down (inr (fine, p)) = go (which (too_short working))
    where
      go : (too_short working ≡ true) ⊎ (too_short working ≡ false) → check_drivers working text buffer ≡ refuse 20 0 buffer
      go (inl short) = if_short short
      go (inr long) = if_full long fine ((design_says (decode text)).1 p)

  twenty_one_up : check_drivers working text buffer ≡ refuse 21 0 buffer
      → (too_short working ≡ false) × (refusal text ≡ well_formed) × ¬ Passes (decode text) × (length buffer < length (said text))
  twenty_one_up e = go (which (too_short working)) (refusal text) refl
    where
      c : Case 21
      c = number_case 21 (ap (λ a. a.number) e)

      Goal : Type 0
      Goal = (too_short working ≡ false) × (refusal text ≡ well_formed) × ¬ Passes (decode text) × (length buffer < length (said text))

      passes : too_short working ≡ false → refusal text ≡ well_formed → ((found text).full ≡ true) ⊎ ((found text).full ≡ false)
          → (ltb (length buffer) (length (said text)) ≡ true) ⊎ (ltb (length buffer) (length (said text)) ≡ false) → Goal
      passes long fine (inl h) x = absurd (omega (arith, c.full long fine h))
      passes long fine (inr h) (inl l) = (long, fine, λ p. clash ((design_says (decode text)).1 p) h, ltb-true (length buffer) (length (said text)) l)
      passes long fine (inr h) (inr l) = absurd (omega (arith, c.fits long fine h (ltb-false (length buffer) (length (said text)) l)))

      go : (too_short working ≡ true) ⊎ (too_short working ≡ false) → (v : Verdict) → refusal text ≡ v → Goal
      go (inl short) v h = absurd (omega (arith, c.short short))
      go (inr long) (refused k n) h = absurd (omega (arith, c.text_fault long k n h))
      go (inr long) well_formed h = passes long h (which (found text).full) (which (ltb (length buffer) (length (said text))))

  -- the answer 0 is given only where the reports fit and are written
  pub accepted_fits : (check_drivers working text buffer).number ≡ 0 → (length (said text) ≤ length buffer) × (check_drivers working text buffer ≡ accept (said text) (found text) buffer)
  accepted_fits e = go (which (too_short working)) (refusal text) refl
    where
      c : Case 0
      c = number_case 0 e

      Goal : Type 0
      Goal = (length (said text) ≤ length buffer) × (check_drivers working text buffer ≡ accept (said text) (found text) buffer)

      passes : too_short working ≡ false → refusal text ≡ well_formed → ((found text).full ≡ true) ⊎ ((found text).full ≡ false)
          → (ltb (length buffer) (length (said text)) ≡ true) ⊎ (ltb (length buffer) (length (said text)) ≡ false) → Goal
      passes long fine (inl h) x = absurd (omega (arith, c.full long fine h))
      passes long fine (inr h) (inl l) = absurd (omega (arith, c.longer long fine h (ltb-true (length buffer) (length (said text)) l)))
      passes long fine (inr h) (inr l) = let f = ltb-false (length buffer) (length (said text)) l in (f, if_fits long fine h f)

      go : (too_short working ≡ true) ⊎ (too_short working ≡ false) → (v : Verdict) → refusal text ≡ v → Goal
      go (inl short) v h = absurd (omega (arith, c.short short))
      go (inr long) (refused k n) h = absurd (omega (arith, c.text_fault long k n h))
      go (inr long) well_formed h = passes long h (which (found text).full) (which (ltb (length buffer) (length (said text))))

  pub accepted_is : (check_drivers working text buffer).number ≡ 0 → check_drivers working text buffer ≡ accept (show_reports (check_design (decode text)).reports) (check_design (decode text)) buffer
  accepted_is e = (accepted_fits e).1

  not_full : ¬ Passes (decode text) → (found text).full ≡ false
  not_full h = not_so (found text).full (λ e. h ((design_says (decode text)).0 e))

-- ---- working memory

cleared_long : (working : List Slice) → map length (map cleared working) ≡ map (λ s. length s.held) working
cleared_long [] = refl
cleared_long (s ∷ working) = λ i. length-replicate {A = ℕ} (length s.held) 0 i ∷ cleared_long working i

replicate_zero : (k n : ℕ) → n ∈ replicate k 0 → n ≡ 0
replicate_zero zero n i = absurd (Memᴰ.not-nil i)
replicate_zero (suc k) n (Memᴰ.head e) = e
replicate_zero (suc k) n (Memᴰ.tail i) = replicate_zero k n i

cleared_zero : (working : List Slice) (w : List ℕ) → w ∈ map cleared working → (n : ℕ) → n ∈ w → n ≡ 0
cleared_zero [] w i n j = absurd (Memᴰ.not-nil i)
cleared_zero (s ∷ working) w (Memᴰ.head e) n j = replicate_zero (length s.held) n (subst (λ z. n ∈ z) e j)
cleared_zero (s ∷ working) w (Memᴰ.tail i) n j = cleared_zero working w i n j

-- The theorem.
pub refusals : Refusals
unfolding check_call
refusals = record {
  twenty = λ working text buffer. (λ e. short_or working (twenty_up working text buffer e), λ h. twenty_down working text buffer (or_short working h));
  twenty_one = λ working text buffer. (
    λ e. let (long, fine, h, l) = twenty_one_up working text buffer e in ((λ s. clash ((short_says working).1 s) long), fine, h, l),
    λ (long, fine, h, l). if_longer working text buffer (long_of working long) fine (not_full working text buffer h) l,
  );
  by_text = λ working text buffer k n long e. (by_text working text buffer k n (long_of working long) e, (text_number text k n e).0, (text_number text k n e).1);
  otherwise = λ working text buffer long fine h l. if_fits working text buffer (long_of working long) fine (not_full working text buffer h) l;
  leaves = λ working text buffer. (refl, cleared_long working, cleared_zero working);
  outside_is = λ names e. (part_up names e, part_down names e);
  fuel = λ d enough h. fun_ext (λ kept. fun_ext (λ m. fuel_same d enough (suc (length d)) [] tt (λ a i. absurd (Memᴰ.not-nil i)) (omega arith) (omega arith) kept m));
}
  where
    short_or : (working : List Lent) {P : Type 0} → (too_short working ≡ true) ⊎ P → Short working ⊎ P
    short_or working (inl e) = inl ((short_says working).0 e)
    short_or working (inr p) = inr p

    or_short : (working : List Lent) {P : Type 0} → Short working ⊎ P → (too_short working ≡ true) ⊎ P
    or_short working (inl h) = inl ((short_says working).1 h)
    or_short working (inr p) = inr p
