use Rattle.graph.specs.Table.{node_of, node_words}
use Rattle.bench_c.proofs.CyclesLaws.{told_words, told_read, told_unread, read_at, read_full}
use mathlib.Core.Path.{ap, ◌∙◌}
use Rattle.bench_c.specs.Cycles.{node_told}
use Rattle.bench_c.proofs.cycles.drivercheck_graph_read.Goals as goal

pub returns-in-Ok-clause-read : goal.returns-in-Ok-clause-read
returns-in-Ok-clause-read c = read_at c.read.result c.args.g.now c.read.new.g c.args.from (node_of c.node.result) (node_words c.args.kind c.args.name c.args.index c.args.output) c.read.ensures.read (ap node_of c.node.ensures ∙ told_words c.args.kind c.args.name c.args.index c.args.output) _ c.in-Ok.is

pub returns-in-Ok-clause-read_told : goal.returns-in-Ok-clause-read_told
returns-in-Ok-clause-read_told c = told_read c.read.result c.args.g.now c.read.new.g c.args.from c.node.result (node_told c.args.kind c.args.name c.args.index c.args.output) c.read.ensures.read_leaves c.node.ensures _ c.in-Ok.is

pub returns-in-Err-clause-read : goal.returns-in-Err-clause-read
returns-in-Err-clause-read c = read_full c.read.result c.args.g.now c.read.new.g c.args.from (node_of c.node.result) (node_words c.args.kind c.args.name c.args.index c.args.output) c.read.ensures.read (ap node_of c.node.ensures ∙ told_words c.args.kind c.args.name c.args.index c.args.output) c.in-Err.is

pub returns-in-Err-clause-read_told : goal.returns-in-Err-clause-read_told
returns-in-Err-clause-read_told c = told_unread c.read.result c.args.g.now c.read.new.g c.args.from c.node.result (node_told c.args.kind c.args.name c.args.index c.args.output) c.read.ensures.read_leaves c.node.ensures c.in-Err.is
