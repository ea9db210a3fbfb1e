use mathlib.Core.Path.{◌≡◌}
use Rattle.spec.specs.Edge.{has_output}
use Rattle.edges.specs.Lines.{summary_at}
use Rattle.edges.proofs.has_output.Given as goal

abbrev pub invariant-loop-left : goal.invariant-loop-left
invariant-loop-left l = has_output l.o (summary_at l.pairs.words.now l.p l.left) ≡ has_output l.o (summary_at l.pairs.words.now l.pairs.first l.pairs.count)
