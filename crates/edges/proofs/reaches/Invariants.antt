use mathlib.Core.Path.{◌≡◌}
use Rattle.spec.specs.Edge.{reaches}
use Rattle.edges.specs.Lines.{summary_at}
use Rattle.edges.proofs.reaches.Given as goal

abbrev pub invariant-loop-left : goal.invariant-loop-left
invariant-loop-left l = reaches l.o l.i (summary_at l.pairs.words.now l.p l.left) ≡ reaches l.o l.i (summary_at l.pairs.words.now l.pairs.first l.pairs.count)
