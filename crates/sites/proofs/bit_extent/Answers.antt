use mathlib.Core.Path.{◌∙◌}
use Rattle.sites.proofs.Coverage.{bit_low, bit_high}
use Rattle.sites.proofs.bit_extent.Goals as goal

pub returns-then-v-lt2147483648 : goal.returns-then-v-lt2147483648
returns-then-v-lt2147483648 c = rw (c.in-Some.is) (c.no_range-then-v-lt2147483648.ensures ∙ bit_low c.args.bound c.in-Some.v c.if-v-lt2147483648.true)

pub returns : goal.returns
returns c = rw (c.in-Some.is) (bit_high c.args.bound c.in-Some.v c.if-v-lt2147483648.false)
