use native.Mathlib.Omega.{arith}
use Rattle.report.proofs.Laws.{line_length}
use Rattle.report.proofs.count_report.Goals as goal

pub returns : goal.returns
returns c = omega (arith, line_length c.args.x, c.count_number-a.ensures, c.count_number-b.ensures, c.count_number-c.ensures, c.count_detail-d.ensures)
