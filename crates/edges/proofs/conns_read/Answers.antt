use native.Mathlib.Omega.{arith}
use mathlib.Core.Path.{refl, sym, ◌∙◌, ap}
use mathlib.Core.Bool.{true, false}
use Rattle.consteval.specs.Worth.{names_of}
use Rattle.lines.proofs.PartLaws.{follows_in}
use Rattle.edges.specs.Lines.{summary_at}
use Rattle.edges.specs.Total as total
use Rattle.edges.proofs.LeaveLaws.{all_none, all_stop, all_more}
use Rattle.edges.proofs.OutputLaws.{conns_none, conns_stop, conns_more}
use Rattle.std.specs.Prelude.{is_ok}
use Rattle.std.proofs.lemmas.Result.{err_from_is_err_and}
use Rattle.edges.proofs.conns_read.Goals as goal

pub loop-b-init : goal.loop-b-init
loop-b-init c = ((refl, λ r g' h. h), λ r g' h. h)

pub overflow_add-a : goal.overflow_add-a
overflow_add-a c = omega (arith, follows_in c.args.x.now c.loop-b.a (sym c.more.ensures ∙ c.loop-b-test.true))

pub returns-in_err-conn_read-clause-conns_read : goal.returns-in_err-conn_read-clause-conns_read
returns-in_err-conn_read-clause-conns_read c = rw (err_from_is_err_and c.from_residual.result c.from_residual.ensures.1).1 (c.loop-b.invariant.1 false c.conn_read.new.g (conns_stop c.args.o (summary_at c.args.pairs.words.now c.args.pairs.first c.args.pairs.count) c.args.x.now c.loop-b.a c.args.depth c.args.scope.kinds.now (names_of c.args.scope.names.now c.args.scope.used) c.args.from (sym c.more.ensures ∙ c.loop-b-test.true) c.part_end-b.ensures c.between-c.ensures c.loop-b.g c.conn_read.new.g (is_ok c.conn_read.result) (ap is_ok c.in_err-conn_read.was) c.conn_read.ensures.conn_read))

pub returns-in_err-conn_read-clause-reads_or_cleared : goal.returns-in_err-conn_read-clause-reads_or_cleared
returns-in_err-conn_read-clause-reads_or_cleared c = rw (err_from_is_err_and c.from_residual.result c.from_residual.ensures.1).1 (c.loop-b.invariant.0.1 false c.conn_read.new.g (all_stop (total.conn_read c.args.scope.kinds.now (names_of c.args.scope.names.now c.args.scope.used) (summary_at c.args.pairs.words.now c.args.pairs.first c.args.pairs.count) c.args.o c.args.depth) c.args.x.now c.loop-b.a c.args.from (sym c.more.ensures ∙ c.loop-b-test.true) c.part_end-b.ensures c.between-c.ensures c.loop-b.g c.conn_read.new.g (is_ok c.conn_read.result) (ap is_ok c.in_err-conn_read.was) c.conn_read.ensures.reads_or_cleared))

pub loop-b-smaller : goal.loop-b-smaller
loop-b-smaller c = omega (arith, follows_in c.args.x.now c.loop-b.a (sym c.more.ensures ∙ c.loop-b-test.true), c.part_end-b.ensures)

pub loop-b-preserved : goal.loop-b-preserved
loop-b-preserved c = ((c.conn_read.auto.g ∙ c.loop-b.invariant.0.0, λ r g' h. c.loop-b.invariant.0.1 r g' (all_more (total.conn_read c.args.scope.kinds.now (names_of c.args.scope.names.now c.args.scope.used) (summary_at c.args.pairs.words.now c.args.pairs.first c.args.pairs.count) c.args.o c.args.depth) c.args.x.now c.loop-b.a c.args.from (sym c.more.ensures ∙ c.loop-b-test.true) c.part_end-b.ensures c.between-c.ensures c.loop-b.g c.conn_read.new.g c.conn_read.auto.g (is_ok c.conn_read.result) (ap is_ok c.in_ok-conn_read.was) c.conn_read.ensures.reads_or_cleared r g' h)), λ r g' h. c.loop-b.invariant.1 r g' (conns_more c.args.o (summary_at c.args.pairs.words.now c.args.pairs.first c.args.pairs.count) c.args.x.now c.loop-b.a c.args.depth c.args.scope.kinds.now (names_of c.args.scope.names.now c.args.scope.used) c.args.from (sym c.more.ensures ∙ c.loop-b-test.true) c.part_end-b.ensures c.between-c.ensures c.loop-b.g c.conn_read.new.g (is_ok c.conn_read.result) (ap is_ok c.in_ok-conn_read.was) c.conn_read.ensures.conn_read r g' h))

pub returns-clause-conns_read : goal.returns-clause-conns_read
returns-clause-conns_read c = c.loop-b.invariant.1 true c.loop-b.g (conns_none c.args.o (summary_at c.args.pairs.words.now c.args.pairs.first c.args.pairs.count) c.args.x.now c.loop-b.a c.args.depth c.args.scope.kinds.now (names_of c.args.scope.names.now c.args.scope.used) c.args.from c.loop-b.g (sym c.more.ensures ∙ c.loop-b-test.false))

pub returns-clause-reads_or_cleared : goal.returns-clause-reads_or_cleared
returns-clause-reads_or_cleared c = c.loop-b.invariant.0.1 true c.loop-b.g (all_none (total.conn_read c.args.scope.kinds.now (names_of c.args.scope.names.now c.args.scope.used) (summary_at c.args.pairs.words.now c.args.pairs.first c.args.pairs.count) c.args.o c.args.depth) c.args.x.now c.loop-b.a c.args.from c.loop-b.g (sym c.more.ensures ∙ c.loop-b-test.false))
