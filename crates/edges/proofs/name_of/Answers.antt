use mathlib.Core.Path.{refl}
use Rattle.edges.proofs.ExprLaws.{begins_not, begins_by, no_name, no_word, a_word}
use Rattle.edges.proofs.name_of.Goals as goal

pub returns-then-not-opens : goal.returns-then-not-opens
returns-then-not-opens c = no_name c.args.x.now (begins_not c.args.x.now 110 32 c.opens.ensures c.if-not-opens.true) refl

pub returns-then-not-is_space : goal.returns-then-not-is_space
returns-then-not-is_space c = no_name c.args.x.now (begins_by c.args.x.now 110 32 c.opens.ensures c.if-not-opens.false c.byte.ensures c.is_space.ensures) c.if-not-is_space.true

pub returns-then-v-gt4294967295 : goal.returns-then-v-gt4294967295
returns-then-v-gt4294967295 c = no_word c.args.x.now (begins_by c.args.x.now 110 32 c.opens.ensures c.if-not-opens.false c.byte.ensures c.is_space.ensures) c.if-not-is_space.false c.part_end-a.ensures c.between.ensures c.value-v.ensures c.if-v-gt4294967295.true

pub returns : goal.returns
returns c = a_word c.args.x.now (begins_by c.args.x.now 110 32 c.opens.ensures c.if-not-opens.false c.byte.ensures c.is_space.ensures) c.if-not-is_space.false c.part_end-a.ensures c.between.ensures c.value-v.ensures c.if-v-gt4294967295.false
