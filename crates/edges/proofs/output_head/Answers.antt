use Rattle.consteval.specs.Worth.{names_of, worth}
use Rattle.edges.specs.Lines.{summary_at}
use mathlib.Core.Path.{refl}
use mathlib.Core.Bool.{false}
use Rattle.edges.specs.Total.{inst_reads}
use Rattle.edges.proofs.TotalLaws.{inst_reads_here}
use Rattle.edges.proofs.OutputLaws.{output_full, output_reads}
use Rattle.edges.proofs.LeaveLaws.{head_full, head_reads, output_leaves}
use Rattle.std.specs.Prelude.{is_ok}
use Rattle.std.proofs.lemmas.Result.{err_from_is_err_and}
use Rattle.edges.proofs.output_head.Goals as goal

pub returns-clause-output_head : goal.returns-clause-output_head
returns-clause-output_head c = output_reads c.args.o (worth c.args.index) (summary_at c.args.pairs.words.now c.args.pairs.first c.args.pairs.count) c.args.x.now c.args.depth c.args.scope.kinds.now (names_of c.args.scope.names.now c.args.scope.used) c.args.g.now c.next_end-a.ensures c.next_end.ensures c.next_end-c.ensures c.next_end-end.ensures c.number_at.ensures c.output_node-n.ensures c.number_at-2.ensures c.head.result _ c.head.ensures.headed c.in_ok-i.was c.under.ensures (is_ok c.conns_read.result) _ c.conns_read.ensures.conns_read

pub returns-clause-output_leaves : goal.returns-clause-output_leaves
returns-clause-output_leaves c = output_leaves c.args.x.now c.next_end-a.ensures c.next_end.ensures c.next_end-c.ensures c.next_end-end.ensures c.number_at.ensures c.number_at-2.ensures (worth c.args.index) c.args.o c.output_node-n.result c.output_node-n.ensures (inst_reads_here c.args.scope.kinds.now (names_of c.args.scope.names.now c.args.scope.used) c.args.depth c.args.x.now (summary_at c.args.pairs.words.now c.args.pairs.first c.args.pairs.count) c.args.o c.next_end-a.ensures c.next_end.ensures c.next_end-c.ensures c.next_end-end.ensures c.under.ensures) (is_ok c.conns_read.result) c.args.g.now _ (head_reads _ c.args.g.now c.output_node-n.result c.number_at-2.result c.head.result c.head.new.g c.head.ensures.head_leaves c.in_ok-i.was c.head.auto.g (is_ok c.conns_read.result) _ c.conns_read.ensures.reads_or_cleared)

pub returns-in_err-i-clause-output_head : goal.returns-in_err-i-clause-output_head
returns-in_err-i-clause-output_head c = rw (err_from_is_err_and c.from_residual.result c.from_residual.ensures.1).1 (output_full c.args.o (worth c.args.index) (summary_at c.args.pairs.words.now c.args.pairs.first c.args.pairs.count) c.args.x.now c.args.depth c.args.scope.kinds.now (names_of c.args.scope.names.now c.args.scope.used) c.args.g.now c.next_end-a.ensures c.next_end.ensures c.next_end-c.ensures c.next_end-end.ensures c.number_at.ensures c.output_node-n.ensures c.number_at-2.ensures c.head.result _ c.head.ensures.headed c.in_err-i.was)

pub returns-in_err-i-clause-output_leaves : goal.returns-in_err-i-clause-output_leaves
returns-in_err-i-clause-output_leaves c = rw (err_from_is_err_and c.from_residual.result c.from_residual.ensures.1).1 (output_leaves c.args.x.now c.next_end-a.ensures c.next_end.ensures c.next_end-c.ensures c.next_end-end.ensures c.number_at.ensures c.number_at-2.ensures (worth c.args.index) c.args.o c.output_node-n.result c.output_node-n.ensures {p = (inst_reads c.args.scope.kinds.now (names_of c.args.scope.names.now c.args.scope.used) (summary_at c.args.pairs.words.now c.args.pairs.first c.args.pairs.count) c.args.depth c.args.x.now c.args.o)} refl false c.args.g.now _ (head_full (inst_reads c.args.scope.kinds.now (names_of c.args.scope.names.now c.args.scope.used) (summary_at c.args.pairs.words.now c.args.pairs.first c.args.pairs.count) c.args.depth c.args.x.now c.args.o) c.args.g.now c.output_node-n.result c.number_at-2.result c.head.result c.head.new.g c.head.ensures.head_leaves c.in_err-i.was))
