use mathlib.Core.Path.{refl, ◌∙◌}
use Rattle.edges.proofs.PairLaws.{output_none, output_here, output_behind}
use Rattle.edges.proofs.has_output.Goals as goal

pub loop-left-init : goal.loop-left-init
loop-left-init c = refl

pub returns-then-o-word : goal.returns-then-o-word
returns-then-o-word c = output_here c.args.pairs.words.now c.loop-left.p c.loop-left.left c.args.o c.loop-left-test.true c.word.ensures c.if-o-word.true ∙ c.loop-left.invariant

pub loop-left-preserved : goal.loop-left-preserved
loop-left-preserved c = output_behind c.args.pairs.words.now c.loop-left.p c.loop-left.left c.args.o c.loop-left-test.true c.word.ensures c.if-o-word.false c.next_pair-p.result c.next_pair-p.ensures ∙ c.loop-left.invariant

pub returns : goal.returns
returns c = output_none c.args.pairs.words.now c.loop-left.p c.loop-left.left c.args.o c.loop-left-test.false ∙ c.loop-left.invariant
