use Rattle.consteval.proofs.BitLaws.{down_low, down_high}
use Rattle.consteval.specs.Worth.{signed}
use lib.Pow.{shr_le}
use native.Mathlib.Omega.{arith}
use Prim.Native.Nat.{ℕ, ◌+◌, ◌-◌}
use mathlib.Core.Path.{ap, ◌∙◌}
use Rattle.consteval.proofs.arith.shift_down.Goals as goal

pub overflow_sub-result : goal.overflow_sub-result
overflow_sub-result c = omega (arith, c.halved-n.ensures, shr_le (2147483647 - c.args.x) c.args.k)

pub returns-then-x-lt2147483648 : goal.returns-then-x-lt2147483648
returns-then-x-lt2147483648 c = ap (λ (n : ℕ). signed (2147483647 - n)) c.halved-n.ensures ∙ down_low c.args.x c.args.k c.if-x-lt2147483648.true

pub overflow_add-result : goal.overflow_add-result
overflow_add-result c = omega (arith, c.halved-n-2.ensures, shr_le (c.args.x - 2147483648) c.args.k, c.ranges.x.fits)

pub returns : goal.returns
returns c = ap (λ (n : ℕ). signed (n + 2147483648)) c.halved-n-2.ensures ∙ down_high c.args.x c.args.k c.if-x-lt2147483648.false
