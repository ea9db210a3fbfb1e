use Rattle.graph.specs.declared.Node.TheVariants as nodes
use Rattle.edges.proofs.InstLaws.{output_at, output_full}
use Rattle.spec.specs.Edge.{inst_out}
use mathlib.Core.Option.{none}
use mathlib.Core.Path.{refl}
use Rattle.edges.proofs.LeaveLaws.{read_at, read_full}
use Rattle.std.proofs.lemmas.Result.{err_from_is_err_and}
use Rattle.edges.proofs.output_read.Goals as goal

pub returns-clause-nodes_read : goal.returns-clause-nodes_read
returns-clause-nodes_read c = output_at c.args.g.now c.args.from (inst_out c.args.i none c.args.p) c.read.result _ c.read.ensures.read c.in_ok-read.was

pub returns-clause-reads_or_cleared : goal.returns-clause-reads_or_cleared
returns-clause-reads_or_cleared c = read_at c.args.from c.args.g.now (nodes.Output c.args.i c.args.p) c.read.result _ c.read.ensures.read_leaves refl c.in_ok-read.was

pub returns-in_err-read-clause-nodes_read : goal.returns-in_err-read-clause-nodes_read
returns-in_err-read-clause-nodes_read c = rw (err_from_is_err_and c.from_residual.result c.from_residual.ensures.1).1 (output_full c.args.g.now c.args.from (inst_out c.args.i none c.args.p) c.read.result _ c.read.ensures.read c.in_err-read.was)

pub returns-in_err-read-clause-reads_or_cleared : goal.returns-in_err-read-clause-reads_or_cleared
returns-in_err-read-clause-reads_or_cleared c = rw (err_from_is_err_and c.from_residual.result c.from_residual.ensures.1).1 (read_full c.args.from c.args.g.now (nodes.Output c.args.i c.args.p) c.read.result _ c.read.ensures.read_leaves refl c.in_err-read.was)
