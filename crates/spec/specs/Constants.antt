-- What holds of the value of every constant. 02: U1.
-- To a reader: a statement, Constants, proved in proofs/Constants; the definitions here are its words, and no rule of the check uses them.
use Rattle.std.specs.Prelude.{◌≡◌, Bool, true, false, ◌&&◌, not as opposite, [], ◌∷◌, ℤ}
use Rattle.spec.specs.Bytes.{Bytes}
use Rattle.spec.specs.Syntax.{Binary, add, sub, mul, eq, ne, lt, le, gt, ge, and, or, shl, shr, band, bor, bxor, Expr, Exprs, lit, truth, name, field, index, if_else, unary, binary, all, Module}
use Rattle.spec.specs.Refusal.{in_int, well_formed, refusal, decode}
use Rattle.spec.specs.Value.{Value, known, missing, outside, Names, is_zero, unary_value, binary_value, and_then, value, name_table, own_vals}
use Rattle.spec.specs.Collect.{Collected, collection}
use Rattle.spec.specs.Graph.{◌∈◌}

-- 02, U1: a value, where there is one, is INT.
abbrev pub InInt : Value → Type 0
InInt (known z) = in_int z ≡ true
InInt missing = Unit {0}
InInt outside = Unit {0}

-- 02, U1: every value of a name table is INT.
abbrev pub AllInInt : Names → Type 0
AllInInt [] = Unit {0}
AllInInt (e ∷ names) = (in_int e.1 ≡ true) × AllInInt names

-- 02, U1: the five operators: `shl`, `shr`, `band`, `bor`, `bxor`.
abbrev pub is_bitwise : Binary → Bool
is_bitwise add = false
is_bitwise sub = false
is_bitwise mul = false
is_bitwise eq = false
is_bitwise ne = false
is_bitwise lt = false
is_bitwise le = false
is_bitwise gt = false
is_bitwise ge = false
is_bitwise and = false
is_bitwise or = false
is_bitwise shl = true
is_bitwise shr = true
is_bitwise band = true
is_bitwise bor = true
is_bitwise bxor = true

-- 02, U1: a constant that has none of the five anywhere.
unfoldable mutual
  pub no_bitwise : Expr → Bool
  no_bitwise (lit n) = true
  no_bitwise (truth b) = true
  no_bitwise (name n) = true
  no_bitwise (field e n) = no_bitwise e
  no_bitwise (index e i) = no_bitwise e && no_bitwise i
  no_bitwise (if_else c a b) = no_bitwise c && no_bitwise a && no_bitwise b
  no_bitwise (unary o a) = no_bitwise a
  no_bitwise (binary o a b) = opposite (is_bitwise o) && no_bitwise a && no_bitwise b
  no_bitwise (all es) = none_bitwise es

  pub none_bitwise : Exprs → Bool
  none_bitwise Exprs.none = true
  none_bitwise (Exprs.more e es) = no_bitwise e && none_bitwise es

-- 02, U1: what two operands give where the five mean what `five` says.
unfoldable pub binary_where : (Binary → ℤ → ℤ → Value) → Binary → ℤ → ℤ → Value
binary_where five o x y = elim (is_bitwise o) [ true ↦ five o x y | false ↦ binary_value o x y ]

-- 02, U1: the value of a constant where the five mean what `five` says. All else is as in Value.value.
unfoldable pub value_where : (Binary → ℤ → ℤ → Value) → Names → Expr → Value
value_where five names (lit n) = value names (lit n)
value_where five names (truth b) = value names (truth b)
value_where five names (name n) = value names (name n)
value_where five names (field e n) = value names (field e n)
value_where five names (index e i) = value names (index e i)
value_where five names (if_else c a b) = and_then (value_where five names c) (λ x. elim (is_zero x) [ true ↦ value_where five names b | false ↦ value_where five names a ])
value_where five names (unary o a) = and_then (value_where five names a) (unary_value o)
value_where five names (binary o a b) = and_then (value_where five names a) (λ x. and_then (value_where five names b) (binary_where five o x))
value_where five names (all es) = value names (all es)

-- The theorem. 02, U1. `in_range`: what has a value under a table of INT has one in INT; that a result outside it is 20 is Refusals.Refusals,
-- fields `outside_is` and `twenty`. `vals`, `own`, `collected`: in a text without a fault every table is one: the values of `val` lines are INT,
-- and over such values a module's own table and that of each collected line. `given`, `meant`: what `five` says is taken, and with the meaning
-- that the five have value_where is the value. `unchanged`: under one table the value of a constant without the five does not depend on what
-- they mean. Where they have no value, `five` being missing, it is the value from before they had one.
pub record Constants : Type 0 where
  pub in_range : (names : Names) → AllInInt names → (e : Expr) → InInt (value names e)
  pub vals : (text : Bytes) → refusal text ≡ well_formed → (m : Module) → m ∈ decode text → AllInInt (own_vals m)
  pub own : (vals : Names) → AllInInt vals → (m : Module) → AllInInt (name_table vals m).names
  pub collected : (vals : Names) → AllInInt vals → (m : Module) (c : Collected) → c ∈ (collection vals m).lines → AllInInt c.names
  pub given : (five : Binary → ℤ → ℤ → Value) (names : Names) (o : Binary) (a b : Expr) (x y : ℤ) → is_bitwise o ≡ true
      → value_where five names a ≡ known x → value_where five names b ≡ known y → value_where five names (binary o a b) ≡ five o x y
  pub meant : (names : Names) (e : Expr) → value_where binary_value names e ≡ value names e
  pub unchanged : (five : Binary → ℤ → ℤ → Value) (names : Names) (e : Expr) → no_bitwise e ≡ true → value_where five names e ≡ value names e
