use Rattle.bench_c.proofs.CyclesLaws.{told_signal, told_output, told_indexed}
use Rattle.bench_c.proofs.cycles.node.Goals as goal

pub returns-then-kind-eq0 : goal.returns-then-kind-eq0
returns-then-kind-eq0 c = told_signal c.args.kind c.args.name c.args.index c.args.output c.if-kind-eq0.true

pub returns-then-kind-eq1 : goal.returns-then-kind-eq1
returns-then-kind-eq1 c = told_output c.args.kind c.args.name c.args.index c.args.output c.if-kind-eq0.false c.if-kind-eq1.true

pub returns : goal.returns
returns c = told_indexed c.args.kind c.args.name c.args.index c.args.output c.if-kind-eq0.false c.if-kind-eq1.false
