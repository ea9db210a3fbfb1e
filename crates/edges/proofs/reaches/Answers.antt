use mathlib.Core.Path.{refl, ◌∙◌}
use Rattle.edges.proofs.PairLaws.{reach_none, reach_here, reach_behind}
use Rattle.edges.proofs.reaches.Goals as goal

pub loop-left-init : goal.loop-left-init
loop-left-init c = refl

pub returns-then-is_pair : goal.returns-then-is_pair
returns-then-is_pair c = reach_here c.args.pairs.words.now c.loop-left.p c.loop-left.left c.args.o c.args.i c.loop-left-test.true c.is_pair.ensures c.if-is_pair.true ∙ c.loop-left.invariant

pub loop-left-preserved : goal.loop-left-preserved
loop-left-preserved c = reach_behind c.args.pairs.words.now c.loop-left.p c.loop-left.left c.args.o c.args.i c.loop-left-test.true c.is_pair.ensures c.if-is_pair.false c.next_pair-p.result c.next_pair-p.ensures ∙ c.loop-left.invariant

pub returns : goal.returns
returns c = reach_none c.args.pairs.words.now c.loop-left.p c.loop-left.left c.args.o c.args.i c.loop-left-test.false ∙ c.loop-left.invariant
