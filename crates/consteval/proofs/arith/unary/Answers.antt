use Rattle.consteval.proofs.ArithLaws.{zero_test}
use Rattle.spec.specs.Value.{unary_value}
use Rattle.consteval.proofs.arith.unary.Goals as goal

pub returns-in-Neg : goal.returns-in-Neg
unfolding unary_value
returns-in-Neg c = rw c.in-Neg.is c.neg.ensures

pub returns-in-Not : goal.returns-in-Not
unfolding unary_value
returns-in-Not c = rw (c.in-Not.is, zero_test c.args.x) c.truth.ensures

pub returns-in-Clog2 : goal.returns-in-Clog2
unfolding unary_value
returns-in-Clog2 c = rw c.in-Clog2.is c.clog2.ensures
