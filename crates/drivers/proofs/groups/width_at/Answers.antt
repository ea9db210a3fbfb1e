use native.Mathlib.Omega.{arith}
use Rattle.drivers.proofs.groups.width_at.Goals as goal

pub returns-then-to-from : goal.returns-then-to-from
returns-then-to-from c = λ x a b q d. absurd (omega (arith, c.if-to-from.true))

pub returns-then-t-to : goal.returns-then-t-to
returns-then-t-to c = λ x a b q d. absurd (omega (arith, c.if-t-to.true))

pub returns : goal.returns
returns c = λ x a b q d. c.width_of.ensures x q d
