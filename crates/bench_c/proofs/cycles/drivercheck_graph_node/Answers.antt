use mathlib.Core.Path.{sym, ap, ◌∙◌}
use Rattle.graph.specs.Table.{node_of}
use Rattle.bench_c.specs.Cycles.{node_said}
use Rattle.bench_c.proofs.CyclesLaws.{said_indexed}
use Rattle.bench_c.proofs.cycles.drivercheck_graph_node.Goals as goal

pub returns-in-Signal : goal.returns-in-Signal
returns-in-Signal c = c.say.ensures ∙ ap (node_said c.args.words.now) (ap node_of (sym c.in-Signal.is) ∙ c.node_of.ensures)

pub returns-in-Output : goal.returns-in-Output
returns-in-Output c = c.say-in-Output.ensures ∙ ap (node_said c.args.words.now) (ap node_of (sym c.in-Output.is) ∙ c.node_of.ensures)

pub returns-in-OutputAt : goal.returns-in-OutputAt
returns-in-OutputAt c = c.say-in-OutputAt.ensures ∙ said_indexed c.args.words.now _ _ _ ∙ ap (node_said c.args.words.now) (ap node_of (sym c.in-OutputAt.is) ∙ c.node_of.ensures)
