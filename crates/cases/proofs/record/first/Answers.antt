use mathlib.Core.Path.{sym}
use native.Mathlib.Omega.{arith}
use lib.Seq.{take_all, length-take-le}
use Rattle.cases.proofs.record.first.Goals as goal

pub slice_bounds-result-end : goal.slice_bounds-result-end
slice_bounds-result-end c = sym (length-take-le c.args.n c.args.s.now (omega arith))

pub returns-else-n-s : goal.returns-else-n-s
returns-else-n-s c = sym (take_all c.args.n c.args.s.now (omega arith))
