use Rattle.graph.specs.declared.Node.TheVariants as nodes
use Rattle.edges.proofs.InstLaws.{index_missing, index_outside, index_at, index_full, reads_missing, reads_outside, reads_known}
use Rattle.edges.proofs.LeaveLaws.{reads_none, reads_out, read_at, read_full}
use Rattle.std.specs.Prelude.{Ok}
use mathlib.Core.Path.{ap, ◌∙◌}
use Rattle.std.proofs.lemmas.Result.{err_from_is_err_and}
use Rattle.edges.proofs.index_read.Goals as goal

pub returns-in_ok-read-in-Ok-Some-clause-nodes_read : goal.returns-in_ok-read-in-Ok-Some-clause-nodes_read
returns-in_ok-read-in-Ok-Some-clause-nodes_read c = index_at c.args.g.now c.args.from c.args.i c.args.p c.eval.ensures (c.in-Ok-Some.is ∙ ap Ok c.in-Ok-Some.field-0-is) c.read.result _ c.read.ensures.read c.in_ok-read-in-Ok-Some.was

pub returns-in_ok-read-in-Ok-Some-clause-reads_or_cleared : goal.returns-in_ok-read-in-Ok-Some-clause-reads_or_cleared
returns-in_ok-read-in-Ok-Some-clause-reads_or_cleared c = read_at c.args.from c.args.g.now (nodes.OutputAt c.args.i c.in-Ok-Some.v c.args.p) c.read.result _ c.read.ensures.read_leaves (reads_known c.args.i c.args.p c.eval.ensures (c.in-Ok-Some.is ∙ ap Ok c.in-Ok-Some.field-0-is)) c.in_ok-read-in-Ok-Some.was

pub returns-in_err-read-in-Ok-Some-clause-nodes_read : goal.returns-in_err-read-in-Ok-Some-clause-nodes_read
returns-in_err-read-in-Ok-Some-clause-nodes_read c = rw (err_from_is_err_and c.from_residual.result c.from_residual.ensures.1).1 (index_full c.args.g.now c.args.from c.args.i c.args.p c.eval.ensures (c.in-Ok-Some.is ∙ ap Ok c.in-Ok-Some.field-0-is) c.read.result _ c.read.ensures.read c.in_err-read-in-Ok-Some.was)

pub returns-in_err-read-in-Ok-Some-clause-reads_or_cleared : goal.returns-in_err-read-in-Ok-Some-clause-reads_or_cleared
returns-in_err-read-in-Ok-Some-clause-reads_or_cleared c = rw (err_from_is_err_and c.from_residual.result c.from_residual.ensures.1).1 (read_full c.args.from c.args.g.now (nodes.OutputAt c.args.i c.in-Ok-Some.v c.args.p) c.read.result _ c.read.ensures.read_leaves (reads_known c.args.i c.args.p c.eval.ensures (c.in-Ok-Some.is ∙ ap Ok c.in-Ok-Some.field-0-is)) c.in_err-read-in-Ok-Some.was)

pub returns-in-Ok-None-clause-nodes_read : goal.returns-in-Ok-None-clause-nodes_read
returns-in-Ok-None-clause-nodes_read c = index_missing c.args.g.now c.args.from c.args.i c.args.p c.eval.ensures (c.in-Ok-None.is ∙ ap Ok c.in-Ok-None.field-0-is)

pub returns-in-Ok-None-clause-reads_or_cleared : goal.returns-in-Ok-None-clause-reads_or_cleared
returns-in-Ok-None-clause-reads_or_cleared c = reads_none c.args.from c.args.g.now (reads_missing c.args.i c.args.p c.eval.ensures (c.in-Ok-None.is ∙ ap Ok c.in-Ok-None.field-0-is))

pub returns-in-Err-clause-nodes_read : goal.returns-in-Err-clause-nodes_read
returns-in-Err-clause-nodes_read c = index_outside c.args.g.now c.args.from c.args.i c.args.p c.eval.ensures c.clear.new.g c.in-Err.is

pub returns-in-Err-clause-reads_or_cleared : goal.returns-in-Err-clause-reads_or_cleared
returns-in-Err-clause-reads_or_cleared c = reads_out c.args.from c.args.g.now (reads_outside c.args.i c.args.p c.eval.ensures c.in-Err.is) c.clear.new.g c.clear.ensures
