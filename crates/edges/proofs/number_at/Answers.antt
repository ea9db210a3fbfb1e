use Rattle.edges.proofs.PartLaws.{number_large, number_small}
use Rattle.edges.proofs.number_at.Goals as goal

pub returns-then-v-gt4294967295 : goal.returns-then-v-gt4294967295
returns-then-v-gt4294967295 c = number_large c.between.ensures c.value-v.ensures c.if-v-gt4294967295.true

pub returns : goal.returns
returns c = number_small c.between.ensures c.value-v.ensures c.if-v-gt4294967295.false
