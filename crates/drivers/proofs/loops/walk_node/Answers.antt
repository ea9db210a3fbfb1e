use mathlib.Core.Path.{sym, ap}
use Rattle.graph.specs.Table.{node_of}
use Rattle.report.specs.Line.{unbiased}
use Rattle.drivers.proofs.loops.walk_node.Goals as goal

pub returns-in-Signal : goal.returns-in-Signal
returns-in-Signal c = sym (ap node_of c.in-Signal.is)

pub returns-in-Output : goal.returns-in-Output
returns-in-Output c = sym (ap node_of c.in-Output.is)

pub returns-in-OutputAt : goal.returns-in-OutputAt
unfolding unbiased
returns-in-OutputAt c = sym (ap node_of c.in-OutputAt.is)
