use native.Mathlib.Omega.{arith}
use Rattle.report.proofs.Laws.{count_small, count_power}
use Rattle.report.proofs.count_number.Goals as goal

pub returns-in-Some : goal.returns-in-Some
returns-in-Some c = let e = count_power c.in-Some.k c.args.n c.in-Some.ensures.power_le c.in-Some.ensures.next_power_gt in
    let b = c.in-Some.ensures.bound in
    omega (arith, e, b)

pub returns-in-None : goal.returns-in-None
returns-in-None c = let z = c.in-None.ensures.none in omega (arith, z, count_small c.args.n (omega (arith, z)))
