use native.Mathlib.Omega.{arith}
use Rattle.report.proofs.Laws.{refused_length}
use Rattle.report.proofs.count_refused.Goals as goal

pub returns : goal.returns
returns c = omega (arith, refused_length c.args.number c.args.line, c.count_number-a.ensures, c.count_number-b.ensures)
