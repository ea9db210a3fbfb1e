use native.Mathlib.Omega.{arith}
use Rattle.sites.specs.Own.{rows_in}
use Rattle.sites.proofs.rows_in.Goals as goal

pub returns : goal.returns
unfolding rows_in
returns c = (c.min.ensures, omega (arith, c.min.ensures))
