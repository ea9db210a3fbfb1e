use native.Mathlib.Omega.{arith}
use Rattle.edges.proofs.PartLaws.{ends_in, ends_past}
use Rattle.edges.proofs.next_end.Goals as goal

pub overflow_add-before : goal.overflow_add-before
overflow_add-before c = omega arith

pub returns-then-before-s : goal.returns-then-before-s
returns-then-before-s c = ends_in c.args.s.now c.args.before c.if-before-s.true c.part_end.ensures

pub returns : goal.returns
returns c = ends_past c.args.s.now c.args.before c.if-before-s.false
