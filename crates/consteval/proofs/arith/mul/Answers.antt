use native.Mathlib.Omega.{arith}
use Rattle.consteval.proofs.ArithLaws.{mul_low_low, mul_low_high, mul_high_low, mul_high_high, mul_fits}
use Prim.Native.Nat.{◌-◌}
use mathlib.Core.Path.{◌∙◌}
use Rattle.consteval.proofs.arith.mul.Goals as goal

pub overflow_mul-x : goal.overflow_mul-x
overflow_mul-x c = record { fits = mul_fits (2147483648 - c.args.x) (2147483648 - c.args.y) (omega arith) (omega arith) }

pub returns-then-y-lt2147483648 : goal.returns-then-y-lt2147483648
returns-then-y-lt2147483648 c = c.positive.ensures ∙ mul_low_low c.args.x c.args.y c.if-x-lt2147483648.true c.if-y-lt2147483648.true

pub overflow_mul-x-then-x-lt2147483648 : goal.overflow_mul-x-then-x-lt2147483648
overflow_mul-x-then-x-lt2147483648 c = record { fits = mul_fits (2147483648 - c.args.x) (c.args.y - 2147483648) (omega arith) (omega (arith, c.ranges.y.fits)) }

pub returns-then-x-lt2147483648 : goal.returns-then-x-lt2147483648
returns-then-x-lt2147483648 c = c.negative.ensures ∙ mul_low_high c.args.x c.args.y c.if-x-lt2147483648.true c.if-y-lt2147483648.false

pub overflow_mul-x-then-y-lt2147483648-2 : goal.overflow_mul-x-then-y-lt2147483648-2
overflow_mul-x-then-y-lt2147483648-2 c = record { fits = mul_fits (c.args.x - 2147483648) (2147483648 - c.args.y) (omega (arith, c.ranges.x.fits)) (omega arith) }

pub returns-then-y-lt2147483648-2 : goal.returns-then-y-lt2147483648-2
returns-then-y-lt2147483648-2 c = c.negative-then-y-lt2147483648-2.ensures ∙ mul_high_low c.args.x c.args.y c.if-x-lt2147483648.false c.if-y-lt2147483648-2.true

pub overflow_mul-x-2 : goal.overflow_mul-x-2
overflow_mul-x-2 c = record { fits = mul_fits (c.args.x - 2147483648) (c.args.y - 2147483648) (omega (arith, c.ranges.x.fits)) (omega (arith, c.ranges.y.fits)) }

pub returns : goal.returns
returns c = c.positive-2.ensures ∙ mul_high_high c.args.x c.args.y c.if-x-lt2147483648.false c.if-y-lt2147483648-2.false
