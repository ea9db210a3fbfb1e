-- The value of a constant expression, and the name table. 01: The value.
-- To a reader: definitions to believe; when value is outside INT is pinned by Refusals.Refusals (proved in proofs/Refusals).
use Rattle.std.specs.Prelude.{Bool, true, false, ◌&&◌, ◌||◌, not as opposite, List, [], ◌∷◌, ℕ, zero, suc, ◌-◌, ◌/◌, eqb, ltb, leb, ℤ, pos, negsuc, neg_ℤ, ◌+ℤ◌, ◌-ℤ◌, ◌*ℤ◌}
use Rattle.spec.specs.Syntax.{Unary, neg, not, clog2, Binary, add, sub, mul, eq, ne, lt, le, gt, ge, and, or, shl, shr, band, bor, bxor, Expr, lit, truth, name, field, index, if_else, unary, binary, all, Items, port, wire, reg, mem, const, drive, on, inst, repeat, const_if, Header, kind, val, Module}
use Rattle.spec.specs.Refusal.{in_int}
use Rattle.spec.specs.Bits.{bits_and, bits_or, bits_xor, shift_up, shift_down}

-- 01, The value: exact whole numbers; some expressions have none. 01, Refused because of the state: or it is outside INT.
pub data Value : Type 0 where
  known : ℤ → Value
  missing outside : Value

-- 01, The value: the name table: names with their values, the newest first.
abbrev pub Names : Type 0
Names = List (ℕ × ℤ)

-- 01, The value: a name in the table; no value: unknown name.
unfoldable pub value_of_name : Names → ℕ → Value
value_of_name [] n = missing
value_of_name (e ∷ names) n = elim (eqb e.0 n) [ true ↦ known e.1 | false ↦ value_of_name names n ]

-- 01, Refused because of the state: a result, where it is not outside INT.
unfoldable pub within : ℤ → Value
within z = elim (in_int z) [ true ↦ known z | false ↦ outside ]

-- 01, The value: 0 is false, decision: anything else is true, negatives too.
abbrev pub is_zero : ℤ → Bool
is_zero (pos n) = eqb n 0
is_zero (negsuc n) = false

-- 01, The value: `eq` of exact whole numbers.
abbrev pub int_eq : ℤ → ℤ → Bool
int_eq (pos m) (pos n) = eqb m n
int_eq (pos m) (negsuc n) = false
int_eq (negsuc m) (pos n) = false
int_eq (negsuc m) (negsuc n) = eqb m n

-- 01, The value: `lt` of exact whole numbers.
abbrev pub int_lt : ℤ → ℤ → Bool
int_lt (pos m) (pos n) = ltb m n
int_lt (pos m) (negsuc n) = false
int_lt (negsuc m) (pos n) = true
int_lt (negsuc m) (negsuc n) = ltb n m

-- 01, The value: truth is 1 or 0.
abbrev pub truth_value : Bool → Value
truth_value true = known (pos 1)
truth_value false = known (pos 0)

-- 01, The value: how many binary digits n has; `fuel` is at least that many.
unfoldable pub bit_length : ℕ → ℕ → ℕ
bit_length zero n = 0
bit_length (suc fuel) n = elim (eqb n 0) [ true ↦ 0 | false ↦ suc (bit_length fuel (n / 2)) ]

-- 01, The value: `clog2` by counting leading zeros: 32 less those of n − 1 at 32 bits are its binary digits; 1 gives 1.
unfoldable pub clog2_bits : ℕ → ℕ
clog2_bits n = elim (ltb n 2) [ true ↦ 1 | false ↦ bit_length 32 (n - 1) ]

-- 01, The value: no value: `clog2` below 1.
unfoldable pub clog2_value : ℤ → Value
clog2_value (pos zero) = missing
clog2_value (pos (suc n)) = within (pos (clog2_bits (suc n)))
clog2_value (negsuc n) = missing

-- 01, The value: `neg`, `not`, `clog2`.
unfoldable pub unary_value : Unary → ℤ → Value
unary_value neg x = within (neg_ℤ x)
unary_value not x = truth_value (is_zero x)
unary_value clog2 x = clog2_value x

-- 02, U1: no value: `shl` by a negative amount, and of 0 by 999,999 or more.
unfoldable pub shl_value : ℤ → ℤ → Value
shl_value x (pos n) = elim (is_zero x && leb 999999 n) [ true ↦ missing | false ↦ within (shift_up x n) ]
shl_value x (negsuc n) = missing

-- 02, U1: no value: `shr` by a negative amount.
unfoldable pub shr_value : ℤ → ℤ → Value
shr_value x (pos n) = known (shift_down x n)
shr_value x (negsuc n) = missing

-- 01, The value: operators with two parts. 02, U1: the five on bits; INT is closed under all of them but `shl`.
unfoldable pub binary_value : Binary → ℤ → ℤ → Value
binary_value add x y = within (x +ℤ y)
binary_value sub x y = within (x -ℤ y)
binary_value mul x y = within (x *ℤ y)
binary_value eq x y = truth_value (int_eq x y)
binary_value ne x y = truth_value (opposite (int_eq x y))
binary_value lt x y = truth_value (int_lt x y)
binary_value le x y = truth_value (opposite (int_lt y x))
binary_value gt x y = truth_value (int_lt y x)
binary_value ge x y = truth_value (opposite (int_lt x y))
binary_value and x y = truth_value (opposite (is_zero x) && opposite (is_zero y))
binary_value or x y = truth_value (opposite (is_zero x) || opposite (is_zero y))
binary_value shl x y = shl_value x y
binary_value shr x y = shr_value x y
binary_value band x y = known (bits_and x y)
binary_value bor x y = known (bits_or x y)
binary_value bxor x y = known (bits_xor x y)

-- 01, The value: a missing operand ends it, and so does one outside INT.
abbrev pub and_then : Value → (ℤ → Value) → Value
and_then (known x) f = f x
and_then missing f = missing
and_then outside f = outside

-- 01, The value: operands left to right, both for `and`/`or`; `if` takes one branch; no value: `f`, `ix`, `all`, unknown name.
unfoldable pub value : Names → Expr → Value
value names (lit n) = within (pos n)
value names (truth b) = truth_value b
value names (name n) = value_of_name names n
value names (field e n) = missing
value names (index e i) = missing
value names (if_else c a b) = and_then (value names c) (λ x. elim (is_zero x) [ true ↦ value names b | false ↦ value names a ])
value names (unary o a) = and_then (value names a) (unary_value o)
value names (binary o a b) = and_then (value names a) (λ x. and_then (value names b) (binary_value o x))
value names (all es) = missing

-- 01, Refused because of the state: a constant evaluated outside INT.
abbrev pub is_outside : Value → Bool
is_outside (known x) = false
is_outside missing = false
is_outside outside = true

-- 01, The value: a name table, and whether some value that it needed was outside INT.
pub record Table : Type 0 where
  pub names : Names
  pub out : Bool

-- 01, The line: `val`, later wins.
unfoldable pub val_names : Names → List Header → Names
val_names names [] = names
val_names names (kind n k ∷ hs) = val_names names hs
val_names names (val n z ∷ hs) = val_names ((n, z) ∷ names) hs

-- 01, The value: a `const` line: one without a value is skipped.
unfoldable pub with_value : ℕ → Value → Table → Table
with_value n (known z) t = record { names = (n, z) ∷ t.names; out = t.out }
with_value n missing t = t
with_value n outside t = record { names = t.names; out = true }

-- 01, The value: then top-level `const` lines in order, one without a value being skipped.
unfoldable pub const_names : Table → Items → Table
const_names t Items.none = t
const_names t (Items.more (port d n w s) is) = const_names t is
const_names t (Items.more (wire n e s) is) = const_names t is
const_names t (Items.more (reg n s) is) = const_names t is
const_names t (Items.more (mem n s) is) = const_names t is
const_names t (Items.more (const n e) is) = const_names (with_value n (value t.names e) t) is
const_names t (Items.more (drive lv e) is) = const_names t is
const_names t (Items.more (on s ss) is) = const_names t is
const_names t (Items.more (inst i) is) = const_names t is
const_names t (Items.more (repeat n l h js) is) = const_names t is
const_names t (Items.more (const_if c js ks) is) = const_names t is

-- 01, The value: the module's own table, over the values of its `val` lines.
unfoldable pub name_table : Names → Module → Table
name_table vals m = const_names (record { names = vals; out = false }) m.items

-- 01, The value: the values of a module's `val` lines.
unfoldable pub own_vals : Module → Names
own_vals m = val_names [] m.header
