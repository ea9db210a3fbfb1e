-- Under a table of INT every value is INT; a constant without the five operators has the value that it has whatever they mean.
-- Assumes nothing.
use mathlib.Core.Path.{◌≡◌, refl, sym, ap, subst, ◌∙◌}
use mathlib.Core.Logic.{◌⊎◌, inl, inr}
use mathlib.Core.Bool.{Bool, true, false, ◌&&◌, ◌||◌, not as opposite}
use mathlib.Core.List.Memᴰ
use mathlib.Core.List.{List, [], ◌∷◌, ◌++◌}
use Prim.Native.Nat.{ℕ, zero, suc, ◌+◌, ◌-◌}
use native.Mathlib.Omega.{arith}
use lib.Dec.{eqb, ltb, leb}
use lib.IntN.{ℤ, pos, negsuc, neg_ℤ, suc_ℤ, ◌+ℤ◌, ◌-ℤ◌, ◌*ℤ◌, +ℤ_one, +ℤ_comm, +ℤ-suc_ℤ, suc_ℤ-+ℤ, -ℤ-+ℤ_cancel}
use borrow.Author.Tests.{ltb-true, lt-ltb, eqb-true}
use Rattle.spec.specs.Syntax.{number_bound, name_bound, Unary, neg, not, clog2, Binary, add, sub, mul, eq, ne, lt, le, gt, ge, and, or, shl, shr, band, bor, bxor, Expr, lit, truth, name, field, index, if_else, unary, binary, all, Item, Items, port, wire, reg, mem, const, drive, on, inst, repeat, const_if, Header, kind, val, Module, Design, Line}
use Rattle.spec.specs.Show.{header_lines, item_lines, design_lines}
use Rattle.spec.specs.Refusal.{Before, at_start, after_line, line_in_range, in_int, tree_fault, line_depth, lines_in_range, in_range, well_formed, refusal, decode}
use Rattle.spec.specs.Decode.{depth_limit}
use Rattle.spec.specs.Bytes.{Bytes}
use Rattle.spec.specs.Bits.{shift_up}
use Rattle.spec.specs.Value.{Value, known, missing, outside, Names, value_of_name, within, is_zero, int_eq, int_lt, truth_value, clog2_bits, clog2_value, unary_value, shl_value, shr_value, binary_value, and_then, value, Table, val_names, with_value, const_names, name_table, own_vals}
use Rattle.spec.specs.Collect.{round_limit, Collected, Collection, collect_rounds, repeat_rounds, collect_repeat, collect_branch, collect_inner, collect_items, collection}
use Rattle.spec.specs.Graph.{◌∈◌}
use Rattle.spec.specs.Constants.{InInt, AllInInt, is_bitwise, no_bitwise, binary_where, value_where, Constants}
use Rattle.spec.proofs.Numbers.{if_case}
use Rattle.spec.proofs.Flags.{clash, and_both}
use Rattle.spec.proofs.Reading.{sound_of, reading}
use Rattle.spec.proofs.Bits.{closed}

-- ---- every value is INT

within_in : (z : ℤ) → InInt (within z)
unfolding within
within_in z = if_case InInt (in_int z) (known z) outside (λ e. e) (λ e. tt)

truth_in : (b : Bool) → InInt (truth_value b)
unfolding in_int
truth_in true = refl
truth_in false = refl

then_in : (v : Value) (f : ℤ → Value) → InInt v → ((x : ℤ) → in_int x ≡ true → InInt (f x)) → InInt (and_then v f)
then_in (known x) f h g = g x h
then_in missing f h g = tt
then_in outside f h g = tt

name_in : (names : Names) → AllInInt names → (n : ℕ) → InInt (value_of_name names n)
unfolding value_of_name
name_in [] a n = tt
name_in (e ∷ names) a n = if_case InInt (eqb e.0 n) (known e.1) (value_of_name names n) (λ _. a.0) (λ _. name_in names a.1 n)

clog2_in : (z : ℤ) → InInt (clog2_value z)
unfolding clog2_value
clog2_in (pos zero) = tt
clog2_in (pos (suc n)) = within_in (pos (clog2_bits (suc n)))
clog2_in (negsuc n) = tt

unary_in : (o : Unary) (x : ℤ) → InInt (unary_value o x)
unfolding unary_value
unary_in neg x = within_in (neg_ℤ x)
unary_in not x = truth_in (is_zero x)
unary_in clog2 x = clog2_in x

shl_in : (x y : ℤ) → InInt (shl_value x y)
unfolding shl_value
shl_in x (pos n) = if_case InInt (is_zero x && leb 999999 n) missing (within (shift_up x n)) (λ e. tt) (λ e. within_in (shift_up x n))
shl_in x (negsuc n) = tt

shr_in : (x y : ℤ) → in_int x ≡ true → InInt (shr_value x y)
unfolding shr_value
shr_in x (pos n) h = closed.down_in x n h
shr_in x (negsuc n) h = tt

binary_in : (o : Binary) (x y : ℤ) → in_int x ≡ true → in_int y ≡ true → InInt (binary_value o x y)
unfolding binary_value
binary_in add x y h k = within_in (x +ℤ y)
binary_in sub x y h k = within_in (x -ℤ y)
binary_in mul x y h k = within_in (x *ℤ y)
binary_in eq x y h k = truth_in (int_eq x y)
binary_in ne x y h k = truth_in (opposite (int_eq x y))
binary_in lt x y h k = truth_in (int_lt x y)
binary_in le x y h k = truth_in (opposite (int_lt y x))
binary_in gt x y h k = truth_in (int_lt y x)
binary_in ge x y h k = truth_in (opposite (int_lt x y))
binary_in and x y h k = truth_in (opposite (is_zero x) && opposite (is_zero y))
binary_in or x y h k = truth_in (opposite (is_zero x) || opposite (is_zero y))
binary_in shl x y h k = shl_in x y
binary_in shr x y h k = shr_in x y h
binary_in band x y h k = closed.and_in x y h k
binary_in bor x y h k = closed.or_in x y h k
binary_in bxor x y h k = closed.xor_in x y h k

pub value_in : (names : Names) → AllInInt names → (e : Expr) → InInt (value names e)
unfolding value
value_in names a (lit n) = within_in (pos n)
value_in names a (truth b) = truth_in b
value_in names a (name n) = name_in names a n
value_in names a (field e n) = tt
value_in names a (index e i) = tt
value_in names a (if_else c x y) =
    then_in (value names c) (λ z. elim (is_zero z) [ true ↦ value names y | false ↦ value names x ])
    (value_in names a c) (branch (value_in names a x) (value_in names a y))
  where
    branch : InInt (value names x) → InInt (value names y) → (z : ℤ) → in_int z ≡ true → InInt (elim (is_zero z) as (λ _. Value) [ true ↦ value names y | false ↦ value names x ])
    branch p q z h = if_case InInt (is_zero z) (value names y) (value names x) (λ _. q) (λ _. p)
value_in names a (unary o x) = then_in (value names x) (unary_value o) (value_in names a x) (λ z h. unary_in o z)
value_in names a (binary o x y) =
    then_in (value names x) (λ u. and_then (value names y) (binary_value o u)) (value_in names a x)
    (second (value_in names a y))
  where
    second : InInt (value names y) → (u : ℤ) → in_int u ≡ true → InInt (and_then (value names y) (binary_value o u))
    second q u h = then_in (value names y) (binary_value o u) q (λ w k. binary_in o u w h k)
value_in names a (all es) = tt

-- ---- the tables of a module

with_in : (n : ℕ) (x : Value) (t : Table) → InInt x → AllInInt t.names → AllInInt (with_value n x t).names
unfolding with_value
with_in n (known z) t h a = (h, a)
with_in n missing t h a = a
with_in n outside t h a = a

consts_in : (t : Table) (is : Items) → AllInInt t.names → AllInInt (const_names t is).names
unfolding const_names
consts_in t Items.none a = a
consts_in t (Items.more (port d n w s) is) a = consts_in t is a
consts_in t (Items.more (wire n e s) is) a = consts_in t is a
consts_in t (Items.more (reg n s) is) a = consts_in t is a
consts_in t (Items.more (mem n s) is) a = consts_in t is a
consts_in t (Items.more (const n e) is) a = consts_in (with_value n (value t.names e) t) is (with_in n (value t.names e) t (value_in t.names a e) a)
consts_in t (Items.more (drive lv e) is) a = consts_in t is a
consts_in t (Items.more (on s ss) is) a = consts_in t is a
consts_in t (Items.more (inst i) is) a = consts_in t is a
consts_in t (Items.more (repeat n l h js) is) a = consts_in t is a
consts_in t (Items.more (const_if c js ks) is) a = consts_in t is a

own_in : (vals : Names) → AllInInt vals → (m : Module) → AllInInt (name_table vals m).names
unfolding name_table
own_in vals a m = consts_in (record { names = vals; out = false }) m.items a

-- a number between two INT is INT
next_in : (v : ℤ) (c : ℕ) → in_int v ≡ true → in_int (v +ℤ pos (suc c)) ≡ true → in_int (v +ℤ pos 1) ≡ true
unfolding in_int
next_in v c h k = rw (+ℤ_one v) (go v h k)
  where
    go : (v : ℤ) → in_int v ≡ true → in_int (v +ℤ pos (suc c)) ≡ true → in_int (suc_ℤ v) ≡ true
    go (pos m) h k = lt-ltb (suc m) number_bound (omega (arith, ltb-true (m + suc c) number_bound k))
    go (negsuc zero) h k = refl
    go (negsuc (suc n)) h k = lt-ltb n number_bound (omega (arith, ltb-true (suc n) number_bound h))

-- ---- and of its collected lines

abbrev EachIn : List Collected → Type 0
EachIn ls = (c : Collected) → c ∈ ls → AllInInt c.names

none_in : EachIn []
none_in c i = absurd (Memᴰ.not-nil i)

both_in : (a b : List Collected) → EachIn a → EachIn b → EachIn (a ++ b)
both_in a b f g c i = go (Memᴰ.append_cases a i)
  where
    go : (c ∈ a) ⊎ (c ∈ b) → AllInInt c.names
    go (inl j) = f c j
    go (inr j) = g c j

line_in : (d : Collected) (ls : List Collected) → AllInInt d.names → EachIn ls → EachIn (d ∷ ls)
line_in d ls a f c i = go (Memᴰ.cases_cons i)
  where
    go : (c ≡ d) ⊎ (c ∈ ls) → AllInInt c.names
    go (inl e) = subst (λ (x : Collected). AllInInt x.names) (sym e) a
    go (inr j) = f c j

-- a body that has this for every table of INT
module _ (body : Names → ℕ → Collection) (f : (names : Names) → AllInInt names → (left : ℕ) → EachIn (body names left).lines) (n : ℕ) where
  rounds_in : (count : ℕ) (v : ℤ) → in_int v ≡ true → in_int (v +ℤ pos count) ≡ true → (names : Names) → AllInInt names → (left : ℕ) → EachIn (collect_rounds body n v count names left).lines
  unfolding collect_rounds
  rounds_in zero v h k names a left = none_in
  rounds_in (suc count) v h k names a left =
      both_in (body ((n, v) ∷ names) left).lines _ (f ((n, v) ∷ names) (h, a) left)
      (rounds_in count (v +ℤ pos 1) (next_in v count h k) (subst (λ (z : ℤ). in_int z ≡ true) top k) names a (body ((n, v) ∷ names) left).left)
    where
      top : v +ℤ pos (suc count) ≡ (v +ℤ pos 1) +ℤ pos count
      top = +ℤ-suc_ℤ v (pos count) ∙ sym (suc_ℤ-+ℤ v (pos count)) ∙ ap (λ (z : ℤ). z +ℤ pos count) (sym (+ℤ_one v))

  counted_in : (low d : ℤ) → in_int low ≡ true → in_int (low +ℤ d) ≡ true → (names : Names) → AllInInt names → (left : ℕ) → EachIn (repeat_rounds body n low d names left).lines
  unfolding repeat_rounds
  counted_in low (negsuc d) h k names a left = none_in
  counted_in low (pos rounds) h k names a left = if_case (λ (c : Collection). EachIn c.lines) (ltb left rounds) _ _ (λ e. f names a left) (λ e. rounds_in rounds low h k names a (left - rounds))

  repeat_in : (low high : Value) → InInt low → InInt high → (names : Names) → AllInInt names → (left : ℕ) → EachIn (collect_repeat body n low high names left).lines
  unfolding collect_repeat
  repeat_in (known low) (known high) h k names a left =
      counted_in low (high -ℤ low) h (subst (λ (z : ℤ). in_int z ≡ true) (sym (+ℤ_comm low (high -ℤ low) ∙ -ℤ-+ℤ_cancel high low)) k) names a left
  repeat_in (known low) missing h k names a left = f names a left
  repeat_in (known low) outside h k names a left = f names a left
  repeat_in missing high h k names a left = f names a left
  repeat_in outside high h k names a left = f names a left

branch_in : (x : Value) (a b : Collection) → EachIn a.lines → EachIn b.lines → EachIn (collect_branch x a b).lines
unfolding collect_branch
branch_in (known x) a b f g = if_case (λ (c : Collection). EachIn c.lines) (is_zero x) b a (λ e. g) (λ e. f)
branch_in missing a b f g = g
branch_in outside a b f g = g

mutual
  unfolding collect_inner collect_items

  inner_in : (i : Item) (at : List ℕ) (names : Names) → AllInInt names → (left : ℕ) → EachIn (collect_inner i at names left).lines
  inner_in (port d n w s) at names a left = none_in
  inner_in (wire n e s) at names a left = none_in
  inner_in (reg n s) at names a left = none_in
  inner_in (mem n s) at names a left = none_in
  inner_in (const n e) at names a left = none_in
  inner_in (drive lv e) at names a left = none_in
  inner_in (on s ss) at names a left = none_in
  inner_in (inst i) at names a left = none_in
  inner_in (repeat n low high is) at names a left =
      repeat_in (λ names' left'. collect_items is at 0 names' left') (λ names' b left'. items_in is at 0 names' b left') n
      (value names low) (value names high) (value_in names a low) (value_in names a high) names a left
  inner_in (const_if c is js) at names a left = branch_in (value names c) _ _ (items_in is (0 ∷ at) 0 names a left) (items_in js (1 ∷ at) 0 names a left)

  items_in : (is : Items) (at : List ℕ) (k : ℕ) (names : Names) → AllInInt names → (left : ℕ) → EachIn (collect_items is at k names left).lines
  items_in Items.none at k names a left = none_in
  items_in (Items.more i is) at k names a left =
      both_in _ _ (line_in _ _ a (inner_in i (k ∷ at) names a left)) (items_in is at (suc k) names a (collect_inner i (k ∷ at) names left).left)

lines_in : (vals : Names) → AllInInt vals → (m : Module) → EachIn (collection vals m).lines
unfolding collection
lines_in vals a m = items_in m.items [] 0 (name_table vals m).names (own_in vals a m) round_limit

-- ---- the values of `val` lines

-- each line is in range, and those behind it are in range too
behind : (b : Before) (l : Line) (ls : List Line) → lines_in_range b (l ∷ ls) ≡ true → (line_in_range l ≡ true) × (lines_in_range (after_line b l) ls ≡ true)
unfolding lines_in_range
behind b l ls h =
    let p = and_both (leb (line_depth l) depth_limit && eqb (tree_fault b l) 0) (lines_in_range (after_line b l) ls) h in
    let q = and_both (leb (line_depth l) depth_limit) (eqb (tree_fault b l) 0) p.0 in
    ((sound_of b l (eqb-true (tree_fault b l) 0 q.1)).range, p.1)

abbrev InRange : List Line → Type 0
InRange ls = (b : Before) × (lines_in_range b ls ≡ true)

headers_in : (hs : List Header) (ls : List Line) (names : Names) → AllInInt names → InRange (header_lines hs ls) → AllInInt (val_names names hs) × InRange ls
unfolding val_names header_lines line_in_range
headers_in [] ls names a h = (a, h)
headers_in (kind n k ∷ hs) ls names a (b, h) = headers_in hs ls names a (_, (behind b _ _ h).1)
headers_in (val n z ∷ hs) ls names a (b, h) =
    let p = behind b _ _ h in
    headers_in hs ls ((n, z) ∷ names) ((and_both (ltb n name_bound) (in_int z) p.0).1, a) (_, p.1)

past_items : (is : Items) (ls : List Line) → InRange (item_lines is ls) → InRange ls
unfolding item_lines
past_items Items.none ls h = h
past_items (Items.more i is) ls (b, h) = past_items is ls (_, (behind b _ _ h).1)

modules_in : (k : ℕ) (d : Design) → InRange (design_lines k d) → (m : Module) → m ∈ d → AllInInt (own_vals m)
unfolding design_lines own_vals
modules_in k [] h m i = absurd (Memᴰ.not-nil i)
modules_in k (x ∷ d) (b, h) m i =
    let p = headers_in x.header _ [] tt (_, (behind b _ _ h).1) in go p.0 (modules_in (suc k) d (past_items x.items _ p.1) m) (Memᴰ.cases_cons i)
  where
    go : AllInInt (own_vals x) → (m ∈ d → AllInInt (own_vals m)) → (m ≡ x) ⊎ (m ∈ d) → AllInInt (own_vals m)
    go a f (inl e) = subst (λ (y : Module). AllInInt (own_vals y)) (sym e) a
    go a f (inr j) = f j

vals_in : (text : Bytes) → refusal text ≡ well_formed → (m : Module) → m ∈ decode text → AllInInt (own_vals m)
unfolding in_range
vals_in text h m i = let (l, r, s) = reading.accepted text h in modules_in 0 (decode text) (at_start, r) m i

-- ---- the five mean what they mean, or anything

if_same : {c d a x b y : Value} → c ≡ d → a ≡ x → b ≡ y → and_then c (λ z. elim (is_zero z) [ true ↦ b | false ↦ a ]) ≡ and_then d (λ z. elim (is_zero z) [ true ↦ y | false ↦ x ])
if_same {d = d} {a = a} {x = x} {b = b} e f g =
    ap (λ (u : Value). and_then u (λ z. elim (is_zero z) [ true ↦ b | false ↦ a ])) e
    ∙ ap (λ (u : Value). and_then d (λ z. elim (is_zero z) [ true ↦ b | false ↦ u ])) f
    ∙ ap (λ (u : Value). and_then d (λ z. elim (is_zero z) [ true ↦ u | false ↦ x ])) g

-- two operands, and an operator that gives the same of both
two_same : {a x b y : Value} (f g : ℤ → ℤ → Value) → a ≡ x → b ≡ y → ((u v : ℤ) → f u v ≡ g u v) → and_then a (λ u. and_then b (f u)) ≡ and_then x (λ u. and_then y (g u))
two_same {a = a} {x = x} {b = b} {y = y} f g e h k = rw (e, h) (go x y)
  where
    go : (x y : Value) → and_then x (λ u. and_then y (f u)) ≡ and_then x (λ u. and_then y (g u))
    go (known u) (known v) = k u v
    go (known u) missing = refl
    go (known u) outside = refl
    go missing y = refl
    go outside y = refl

meant : (names : Names) (e : Expr) → value_where binary_value names e ≡ value names e
unfolding value_where value binary_where
meant names (lit n) = refl
meant names (truth b) = refl
meant names (name n) = refl
meant names (field e n) = refl
meant names (index e i) = refl
meant names (if_else c a b) = if_same (meant names c) (meant names a) (meant names b)
meant names (unary o a) = ap (λ (u : Value). and_then u (unary_value o)) (meant names a)
meant names (binary o a b) = two_same (binary_where binary_value o) (binary_value o) (meant names a) (meant names b) (either (is_bitwise o))
  where
    either : (d : Bool) (x y : ℤ) → elim d as (λ _. Value) [ true ↦ binary_value o x y | false ↦ binary_value o x y ] ≡ binary_value o x y
    either true x y = refl
    either false x y = refl
meant names (all es) = refl

module _ (five : Binary → ℤ → ℤ → Value) (names : Names) where
  not_one : (o : Binary) → opposite (is_bitwise o) ≡ true → (x y : ℤ) → binary_where five o x y ≡ binary_value o x y
  unfolding binary_where
  not_one o = go (is_bitwise o)
    where
      go : (d : Bool) → opposite d ≡ true → (x y : ℤ) → elim d as (λ _. Value) [ true ↦ five o x y | false ↦ binary_value o x y ] ≡ binary_value o x y
      go true e x y = absurd (clash e refl)
      go false e x y = refl

  given : (o : Binary) (a b : Expr) (x y : ℤ) → is_bitwise o ≡ true → value_where five names a ≡ known x → value_where five names b ≡ known y → value_where five names (binary o a b) ≡ five o x y
  unfolding value_where binary_where
  given o a b x y h e f = rw (e, f, h, value_where, binary_where)

  unchanged : (e : Expr) → no_bitwise e ≡ true → value_where five names e ≡ value names e
  unfolding value_where value no_bitwise
  unchanged (lit n) h = refl
  unchanged (truth b) h = refl
  unchanged (name n) h = refl
  unchanged (field e n) h = refl
  unchanged (index e i) h = refl
  unchanged (if_else c a b) h =
      let p = and_both (no_bitwise c && no_bitwise a) (no_bitwise b) h in let q = and_both (no_bitwise c) (no_bitwise a) p.0 in
      if_same (unchanged c q.0) (unchanged a q.1) (unchanged b p.1)
  unchanged (unary o a) h = ap (λ (u : Value). and_then u (unary_value o)) (unchanged a h)
  unchanged (binary o a b) h =
      let p = and_both (opposite (is_bitwise o) && no_bitwise a) (no_bitwise b) h in let q = and_both (opposite (is_bitwise o)) (no_bitwise a) p.0 in
      two_same (binary_where five o) (binary_value o) (unchanged a q.1) (unchanged b p.1) (not_one o q.0)
  unchanged (all es) h = refl

pub constants : Constants
constants = record { in_range = value_in; vals = vals_in; own = own_in; collected = lines_in; given = given; meant = meant; unchanged = unchanged }
