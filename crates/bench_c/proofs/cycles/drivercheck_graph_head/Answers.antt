use native.Mathlib.Omega.{arith}
use mathlib.Core.Path.{ap, ◌∙◌}
use Rattle.graph.specs.Table.{node_of, node_words}
use Rattle.bench_c.specs.Cycles.{node_told}
use Rattle.bench_c.proofs.CyclesLaws.{told_words, told_at, told_past, told_full, head_at, head_past, head_full}
use Rattle.bench_c.proofs.cycles.drivercheck_graph_head.Goals as goal

pub returns-then-i-lt512-clause-headed : goal.returns-then-i-lt512-clause-headed
returns-then-i-lt512-clause-headed c = head_at c.head.result c.args.g.now c.head.new.g (node_of c.node.result) (node_words c.args.kind c.args.name c.args.index c.args.output) c.args.start c.head.ensures.headed (ap node_of c.node.ensures ∙ told_words c.args.kind c.args.name c.args.index c.args.output) _ c.in-Ok.is

pub returns-then-i-lt512-clause-head_told : goal.returns-then-i-lt512-clause-head_told
returns-then-i-lt512-clause-head_told c = told_at c.head.result c.args.g.now c.head.new.g c.node.result (node_told c.args.kind c.args.name c.args.index c.args.output) c.args.start c.head.ensures.head_leaves c.node.ensures _ c.in-Ok.is c.if-i-lt512.true

pub returns-else-i-lt512-clause-headed : goal.returns-else-i-lt512-clause-headed
returns-else-i-lt512-clause-headed c = head_past c.head.result c.args.g.now c.head.new.g (node_of c.node.result) (node_words c.args.kind c.args.name c.args.index c.args.output) c.args.start c.head.ensures.headed (ap node_of c.node.ensures ∙ told_words c.args.kind c.args.name c.args.index c.args.output) _ c.in-Ok.is (omega (arith, c.if-i-lt512.false)) c.clear.new.g

pub returns-else-i-lt512-clause-head_told : goal.returns-else-i-lt512-clause-head_told
returns-else-i-lt512-clause-head_told c = told_past c.head.result c.args.g.now c.head.new.g c.node.result (node_told c.args.kind c.args.name c.args.index c.args.output) c.args.start c.head.ensures.head_leaves c.node.ensures _ c.in-Ok.is (omega (arith, c.if-i-lt512.false)) c.clear.ensures c.head.auto.g

pub returns-in-Err-clause-headed : goal.returns-in-Err-clause-headed
returns-in-Err-clause-headed c = head_full c.head.result c.args.g.now c.head.new.g (node_of c.node.result) (node_words c.args.kind c.args.name c.args.index c.args.output) c.args.start c.head.ensures.headed (ap node_of c.node.ensures ∙ told_words c.args.kind c.args.name c.args.index c.args.output) c.in-Err.is

pub returns-in-Err-clause-head_told : goal.returns-in-Err-clause-head_told
returns-in-Err-clause-head_told c = told_full c.head.result c.args.g.now c.head.new.g c.node.result (node_told c.args.kind c.args.name c.args.index c.args.output) c.args.start c.head.ensures.head_leaves c.node.ensures c.in-Err.is
