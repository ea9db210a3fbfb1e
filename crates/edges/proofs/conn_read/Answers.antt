use Rattle.consteval.specs.Worth.{names_of}
use Rattle.edges.specs.Lines.{summary_at}
use Rattle.edges.proofs.OutputLaws.{conn_not, conn_is}
use Rattle.edges.proofs.TotalLaws.{reads_unreached, reads_reached}
use Rattle.edges.proofs.LeaveLaws.{reads_as, reads_none}
use Rattle.std.specs.Prelude.{is_ok}
use Rattle.edges.proofs.conn_read.Goals as goal

pub returns-then-not-reaches-clause-conn_read : goal.returns-then-not-reaches-clause-conn_read
returns-then-not-reaches-clause-conn_read c = conn_not c.args.o (summary_at c.args.pairs.words.now c.args.pairs.first c.args.pairs.count) c.args.c.now c.args.depth c.args.scope.kinds.now (names_of c.args.scope.names.now c.args.scope.used) c.args.g.now c.args.from c.next_end-a.ensures c.number_at.ensures c.reaches.ensures c.if-not-reaches.true

pub returns-then-not-reaches-clause-reads_or_cleared : goal.returns-then-not-reaches-clause-reads_or_cleared
returns-then-not-reaches-clause-reads_or_cleared c = reads_none c.args.from c.args.g.now (reads_unreached c.args.o (summary_at c.args.pairs.words.now c.args.pairs.first c.args.pairs.count) c.args.c.now c.args.depth c.args.scope.kinds.now (names_of c.args.scope.names.now c.args.scope.used) c.next_end-a.ensures c.number_at.ensures c.reaches.ensures c.if-not-reaches.true)

pub returns-clause-conn_read : goal.returns-clause-conn_read
returns-clause-conn_read c = conn_is c.args.o (summary_at c.args.pairs.words.now c.args.pairs.first c.args.pairs.count) c.args.c.now c.args.depth c.args.scope.kinds.now (names_of c.args.scope.names.now c.args.scope.used) c.args.g.now c.args.from c.next_end-a.ensures c.number_at.ensures c.reaches.ensures c.if-not-reaches.false c.next_end.ensures c.between.ensures (is_ok c.expr_reads.result) _ c.expr_reads.ensures.expr_read

pub returns-clause-reads_or_cleared : goal.returns-clause-reads_or_cleared
returns-clause-reads_or_cleared c = reads_as c.args.from c.args.g.now (reads_reached c.args.o (summary_at c.args.pairs.words.now c.args.pairs.first c.args.pairs.count) c.args.c.now c.args.depth c.args.scope.kinds.now (names_of c.args.scope.names.now c.args.scope.used) c.next_end-a.ensures c.number_at.ensures c.reaches.ensures c.if-not-reaches.false c.next_end.ensures c.between.ensures) (is_ok c.expr_reads.result) _ c.expr_reads.ensures.reads_or_cleared
