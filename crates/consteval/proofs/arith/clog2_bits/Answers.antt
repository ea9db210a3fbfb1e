use Rattle.consteval.proofs.ArithLaws.{bits_one, bits_more}
use lib.Count.{leading_le}
use Prim.Native.Nat.{◌-◌}
use Rattle.consteval.proofs.arith.clog2_bits.Goals as goal

pub overflow_sub-result-else-n-lt2 : goal.overflow_sub-result-else-n-lt2
overflow_sub-result-else-n-lt2 c = leading_le 32 (c.args.n - 1)

pub returns-then-n-lt2 : goal.returns-then-n-lt2
returns-then-n-lt2 c = bits_one c.args.n c.if-n-lt2.true

pub returns-else-n-lt2 : goal.returns-else-n-lt2
returns-else-n-lt2 c = bits_more c.args.n c.if-n-lt2.false
