use Rattle.consteval.proofs.ArithLaws.{eq_test, lt_test, le_test}
use Rattle.spec.specs.Value.{known, binary_value}
use mathlib.Core.Path.{ap}
use Rattle.consteval.proofs.arith.binary.Goals as goal

pub returns-in-Add : goal.returns-in-Add
unfolding binary_value
returns-in-Add c = rw c.in-Add.is c.add.ensures

pub returns-in-Sub : goal.returns-in-Sub
unfolding binary_value
returns-in-Sub c = rw c.in-Sub.is c.sub.ensures

pub returns-in-Mul : goal.returns-in-Mul
unfolding binary_value
returns-in-Mul c = rw c.in-Mul.is c.mul.ensures

pub returns-in-Eq : goal.returns-in-Eq
unfolding binary_value
returns-in-Eq c = rw (c.in-Eq.is, eq_test c.args.x c.args.y) c.truth.ensures

pub returns-in-Ne : goal.returns-in-Ne
unfolding binary_value
returns-in-Ne c = rw (c.in-Ne.is, eq_test c.args.x c.args.y) c.truth-in-Ne.ensures

pub returns-in-Lt : goal.returns-in-Lt
unfolding binary_value
returns-in-Lt c = rw (c.in-Lt.is, lt_test c.args.x c.args.y) c.truth-in-Lt.ensures

pub returns-in-Le : goal.returns-in-Le
unfolding binary_value
returns-in-Le c = rw (c.in-Le.is, le_test c.args.x c.args.y) c.truth-in-Le.ensures

pub returns-in-Gt : goal.returns-in-Gt
unfolding binary_value
returns-in-Gt c = rw (c.in-Gt.is, lt_test c.args.y c.args.x) c.truth-in-Gt.ensures

pub returns-in-Ge : goal.returns-in-Ge
unfolding binary_value
returns-in-Ge c = rw (c.in-Ge.is, le_test c.args.y c.args.x) c.truth-in-Ge.ensures

pub returns-in-And : goal.returns-in-And
returns-in-And c = rw c.in-And.is c.both.ensures

pub returns-in-Or : goal.returns-in-Or
returns-in-Or c = rw c.in-Or.is c.either.ensures

pub returns-in-Shl : goal.returns-in-Shl
unfolding binary_value
returns-in-Shl c = rw c.in-Shl.is c.shl.ensures

pub returns-in-Shr : goal.returns-in-Shr
unfolding binary_value
returns-in-Shr c = rw c.in-Shr.is c.shr.ensures

pub returns-in-Band : goal.returns-in-Band
unfolding binary_value
returns-in-Band c = rw c.in-Band.is (ap known c.band.ensures)

pub returns-in-Bor : goal.returns-in-Bor
unfolding binary_value
returns-in-Bor c = rw c.in-Bor.is (ap known c.bor.ensures)

pub returns-in-Bxor : goal.returns-in-Bxor
unfolding binary_value
returns-in-Bxor c = rw c.in-Bxor.is (ap known c.bxor.ensures)
