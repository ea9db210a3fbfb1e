use native.Mathlib.Omega.{arith}
use Rattle.sites.specs.Own.{site_table}
use Rattle.sites.proofs.Rows.{rows_limit}
use Rattle.sites.proofs.first_conflict.Goals as goal

pub returns-then-n-le64 : goal.returns-then-n-le64
returns-then-n-le64 c = c.conflict_of_name.ensures.0 (omega arith) (omega (arith, c.rows_in-n.ensures, c.if-n-le64.true))

pub returns : goal.returns
returns c = c.conflict_of_name-2.ensures.0 (omega arith) (rows_limit site_table c.args.own.now)
