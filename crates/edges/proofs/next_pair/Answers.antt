use native.Mathlib.Omega.{arith}
use Rattle.edges.proofs.PairLaws.{pair_past, pair_end, pair_behind}
use Rattle.edges.proofs.next_pair.Goals as goal

pub returns-then-w-p : goal.returns-then-w-p
returns-then-w-p c = pair_past c.args.w.now c.args.p c.if-w-p.true

pub overflow_add-q : goal.overflow_add-q
overflow_add-q c = omega arith

pub returns-then-w-q : goal.returns-then-w-q
returns-then-w-q c = pair_end c.args.w.now c.args.p c.if-w-q.true

pub overflow_add-result : goal.overflow_add-result
overflow_add-result c = omega arith

pub returns : goal.returns
returns c = pair_behind c.args.w.now c.args.p
