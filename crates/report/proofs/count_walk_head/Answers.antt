use native.Mathlib.Omega.{arith}
use Rattle.report.proofs.Laws.{walk_head_length}
use Rattle.report.proofs.count_walk_head.Goals as goal

pub returns : goal.returns
returns c = omega (arith, walk_head_length c.args.m c.args.start, c.count_number-a.ensures, c.count_number-b.ensures)
