use native.Mathlib.Omega.{arith}
use Rattle.edges.proofs.PairLaws.{other_pair, this_pair, pair_over}
use Rattle.edges.proofs.is_pair.Goals as goal

pub returns-then-o-word : goal.returns-then-o-word
returns-then-o-word c = other_pair c.args.w.now c.args.p c.args.o c.args.i c.word.ensures c.if-o-word.true

pub overflow_add-p : goal.overflow_add-p
overflow_add-p c = omega arith

pub returns-then-p-w : goal.returns-then-p-w
returns-then-p-w c = this_pair c.args.w.now c.args.p c.args.o c.args.i c.word.ensures c.if-o-word.false c.word-then-p-w.ensures

pub returns : goal.returns
returns c = pair_over c.args.w.now c.args.p c.args.o c.args.i c.word.ensures c.if-o-word.false c.if-p-w.false
