use Rattle.items.proofs.Places.{number_is, number_large}
use native.Mathlib.Omega.{arith}
use Rattle.items.proofs.number.Goals as goal

pub returns-then-v-gt4294967295 : goal.returns-then-v-gt4294967295
returns-then-v-gt4294967295 c = number_large c.args.x.now c.args.before c.args.end c.between.ensures c.value-v.ensures c.if-v-gt4294967295.true

pub returns : goal.returns
returns c = number_is c.args.x.now c.args.before c.args.end c.between.ensures c.value-v.ensures (omega (arith, c.if-v-gt4294967295.false))
