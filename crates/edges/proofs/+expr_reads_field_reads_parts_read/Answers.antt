use native.Mathlib.Omega.{arith}
use mathlib.Core.Path.{refl, sym, ◌∙◌, ap}
use mathlib.Core.Bool.{true, false}
use Rattle.consteval.specs.Worth.{names_of}
use Rattle.lines.proofs.Laws.{byte_is, byte_not}
use Rattle.lines.proofs.PartLaws.{follows_in}
use Rattle.edges.proofs.FieldLaws.{field_says}
use Rattle.edges.specs.Total.{expr_read}
use Rattle.edges.proofs.TotalLaws.{reads_output, reads_indexed, reads_inner, reads_atom, reads_name, reads_shut, reads_field, reads_parts}
use Rattle.edges.proofs.LeaveLaws.{reads_as, reads_none, all_none, all_stop, all_more}
use Rattle.edges.proofs.PartLaws.{field_output, field_indexed, field_inner, expr_atom, expr_name, expr_shut, expr_field, expr_parts, parts_none, parts_stop, parts_more}
use Rattle.std.specs.Prelude.{is_ok}
use Rattle.std.proofs.lemmas.Result.{err_from_is_err_and}
use Rattle.edges.proofs.+expr_reads_field_reads_parts_read.Goals as goal

pub expr_reads-returns-then-not-is_open-clause-expr_read : goal.expr_reads-returns-then-not-is_open-clause-expr_read
expr_reads-returns-then-not-is_open-clause-expr_read t c = expr_atom c.args.e.now c.args.depth c.args.scope.kinds.now (names_of c.args.scope.names.now c.args.scope.used) c.args.g.now c.args.from (byte_not _ _ _ 40 c.is_open.ensures c.byte.ensures c.if-not-is_open.true)

pub expr_reads-returns-then-not-is_open-clause-reads_or_cleared : goal.expr_reads-returns-then-not-is_open-clause-reads_or_cleared
expr_reads-returns-then-not-is_open-clause-reads_or_cleared t c = reads_none c.args.from c.args.g.now (reads_atom c.args.e.now c.args.scope.kinds.now (names_of c.args.scope.names.now c.args.scope.used) c.args.depth (byte_not _ _ _ 40 c.is_open.ensures c.byte.ensures c.if-not-is_open.true))

pub expr_reads-returns-then-depth-eq0-clause-expr_read : goal.expr_reads-returns-then-depth-eq0-clause-expr_read
expr_reads-returns-then-depth-eq0-clause-expr_read t c = expr_shut c.args.e.now c.args.depth c.args.scope.kinds.now (names_of c.args.scope.names.now c.args.scope.used) c.args.g.now c.args.from c.name_of.result c.name_of.ensures (byte_is _ _ _ 40 c.is_open.ensures c.byte.ensures c.if-not-is_open.false) c.in-None.is c.if-depth-eq0.true

pub expr_reads-returns-then-depth-eq0-clause-reads_or_cleared : goal.expr_reads-returns-then-depth-eq0-clause-reads_or_cleared
expr_reads-returns-then-depth-eq0-clause-reads_or_cleared t c = reads_none c.args.from c.args.g.now (reads_shut c.args.e.now c.args.scope.kinds.now (names_of c.args.scope.names.now c.args.scope.used) (byte_is _ _ _ 40 c.is_open.ensures c.byte.ensures c.if-not-is_open.false) c.name_of.result c.name_of.ensures c.in-None.is c.args.depth c.if-depth-eq0.true)

pub expr_reads-returns-then-byte-eq102-clause-expr_read : goal.expr_reads-returns-then-byte-eq102-clause-expr_read
expr_reads-returns-then-byte-eq102-clause-expr_read t c = expr_field c.args.e.now c.args.depth c.args.scope.kinds.now (names_of c.args.scope.names.now c.args.scope.used) c.args.g.now c.args.from c.name_of.result c.name_of.ensures (byte_is _ _ _ 40 c.is_open.ensures c.byte.ensures c.if-not-is_open.false) c.in-None.is (sym c.byte-in-None.ensures ∙ c.if-byte-eq102.true) (is_ok c.field_reads.result) _ c.field_reads.ensures.field_read

pub expr_reads-returns-then-byte-eq102-clause-reads_or_cleared : goal.expr_reads-returns-then-byte-eq102-clause-reads_or_cleared
expr_reads-returns-then-byte-eq102-clause-reads_or_cleared t c = reads_as c.args.from c.args.g.now (reads_field c.args.e.now c.args.scope.kinds.now (names_of c.args.scope.names.now c.args.scope.used) (byte_is _ _ _ 40 c.is_open.ensures c.byte.ensures c.if-not-is_open.false) c.name_of.result c.name_of.ensures c.in-None.is c.args.depth c.if-depth-eq0.false (sym c.byte-in-None.ensures ∙ c.if-byte-eq102.true)) (is_ok c.field_reads.result) _ c.field_reads.ensures.reads_or_cleared

pub expr_reads-returns-in-Some-clause-expr_read : goal.expr_reads-returns-in-Some-clause-expr_read
expr_reads-returns-in-Some-clause-expr_read t c = expr_name c.args.e.now c.args.depth c.args.scope.kinds.now (names_of c.args.scope.names.now c.args.scope.used) c.args.g.now c.args.from c.name_of.result c.name_of.ensures c.in-Some.is (is_ok c.name_read.result) _ c.name_read.ensures.name_read

pub expr_reads-returns-in-Some-clause-reads_or_cleared : goal.expr_reads-returns-in-Some-clause-reads_or_cleared
expr_reads-returns-in-Some-clause-reads_or_cleared t c = reads_as c.args.from c.args.g.now (reads_name c.args.e.now c.args.scope.kinds.now (names_of c.args.scope.names.now c.args.scope.used) (byte_is _ _ _ 40 c.is_open.ensures c.byte.ensures c.if-not-is_open.false) c.name_of.result c.name_of.ensures c.args.depth c.in-Some.is) (is_ok c.name_read.result) _ c.name_read.ensures.reads_or_cleared

pub expr_reads-returns-else-byte-eq102-clause-expr_read : goal.expr_reads-returns-else-byte-eq102-clause-expr_read
expr_reads-returns-else-byte-eq102-clause-expr_read t c = expr_parts c.args.e.now c.args.depth c.args.scope.kinds.now (names_of c.args.scope.names.now c.args.scope.used) c.args.g.now c.args.from c.name_of.result c.name_of.ensures (byte_is _ _ _ 40 c.is_open.ensures c.byte.ensures c.if-not-is_open.false) c.in-None.is (λ e. c.if-byte-eq102.false (c.byte-in-None.ensures ∙ e)) c.part_end-a.ensures (is_ok c.parts_read.result) _ c.parts_read.ensures.parts_read

pub expr_reads-returns-else-byte-eq102-clause-reads_or_cleared : goal.expr_reads-returns-else-byte-eq102-clause-reads_or_cleared
expr_reads-returns-else-byte-eq102-clause-reads_or_cleared t c = reads_as c.args.from c.args.g.now (reads_parts c.args.e.now c.args.scope.kinds.now (names_of c.args.scope.names.now c.args.scope.used) (byte_is _ _ _ 40 c.is_open.ensures c.byte.ensures c.if-not-is_open.false) c.name_of.result c.name_of.ensures c.in-None.is c.args.depth c.if-depth-eq0.false (λ e. c.if-byte-eq102.false (c.byte-in-None.ensures ∙ e)) c.part_end-a.ensures) (is_ok c.parts_read.result) _ c.parts_read.ensures.reads_or_cleared

pub field_reads-returns-in-Inst-clause-field_read : goal.field_reads-returns-in-Inst-clause-field_read
field_reads-returns-in-Inst-clause-field_read t c = field_output c.args.e.now c.args.depth c.args.scope.kinds.now (names_of c.args.scope.names.now c.args.scope.used) c.args.g.now c.args.from c.next_end-a.ensures c.between-x.ensures c.next_end.ensures c.number_at-p.ensures c.field_of.result (field_says c.between-x.result.now c.args.scope.kinds.now c.field_of.ensures) c.in-Inst.is (is_ok c.output_read.result) _ c.output_read.ensures.nodes_read

pub field_reads-returns-in-Inst-clause-reads_or_cleared : goal.field_reads-returns-in-Inst-clause-reads_or_cleared
field_reads-returns-in-Inst-clause-reads_or_cleared t c = reads_as c.args.from c.args.g.now (reads_output (expr_read c.args.scope.kinds.now (names_of c.args.scope.names.now c.args.scope.used) c.args.depth) c.args.scope.kinds.now (names_of c.args.scope.names.now c.args.scope.used) c.args.depth c.args.e.now c.next_end-a.ensures c.between-x.ensures c.next_end.ensures c.number_at-p.ensures c.field_of.result c.field_of.ensures c.in-Inst.is) (is_ok c.output_read.result) _ c.output_read.ensures.reads_or_cleared

pub field_reads-returns-in-InstAt-clause-field_read : goal.field_reads-returns-in-InstAt-clause-field_read
field_reads-returns-in-InstAt-clause-field_read t c = field_indexed c.args.e.now c.args.depth c.args.scope.kinds.now (names_of c.args.scope.names.now c.args.scope.used) c.args.g.now c.args.from c.next_end-a.ensures c.between-x.ensures c.next_end.ensures c.number_at-p.ensures c.field_of.result (field_says c.between-x.result.now c.args.scope.kinds.now c.field_of.ensures) c.in-InstAt.is c.part_end-b.ensures c.next_end-in-InstAt.ensures c.between-index.ensures c.under.ensures (is_ok c.index_read.result) _ c.index_read.ensures.nodes_read

pub field_reads-returns-in-InstAt-clause-reads_or_cleared : goal.field_reads-returns-in-InstAt-clause-reads_or_cleared
field_reads-returns-in-InstAt-clause-reads_or_cleared t c = reads_as c.args.from c.args.g.now (reads_indexed (expr_read c.args.scope.kinds.now (names_of c.args.scope.names.now c.args.scope.used) c.args.depth) c.args.scope.kinds.now (names_of c.args.scope.names.now c.args.scope.used) c.args.depth c.args.e.now c.next_end-a.ensures c.between-x.ensures c.next_end.ensures c.number_at-p.ensures c.field_of.result c.field_of.ensures c.in-InstAt.is c.part_end-b.ensures c.next_end-in-InstAt.ensures c.between-index.ensures c.under.ensures) (is_ok c.index_read.result) _ c.index_read.ensures.reads_or_cleared

pub field_reads-returns-in-Other-clause-field_read : goal.field_reads-returns-in-Other-clause-field_read
field_reads-returns-in-Other-clause-field_read t c = field_inner c.args.e.now c.args.depth c.args.scope.kinds.now (names_of c.args.scope.names.now c.args.scope.used) c.args.g.now c.args.from c.next_end-a.ensures c.between-x.ensures c.next_end.ensures c.number_at-p.ensures c.field_of.result (field_says c.between-x.result.now c.args.scope.kinds.now c.field_of.ensures) c.in-Other.is (is_ok c.expr_reads.result) _ c.expr_reads.ensures.expr_read

pub field_reads-returns-in-Other-clause-reads_or_cleared : goal.field_reads-returns-in-Other-clause-reads_or_cleared
field_reads-returns-in-Other-clause-reads_or_cleared t c = reads_as c.args.from c.args.g.now (reads_inner (expr_read c.args.scope.kinds.now (names_of c.args.scope.names.now c.args.scope.used) c.args.depth) c.args.scope.kinds.now (names_of c.args.scope.names.now c.args.scope.used) c.args.depth c.args.e.now c.next_end-a.ensures c.between-x.ensures c.next_end.ensures c.number_at-p.ensures c.field_of.result c.field_of.ensures c.in-Other.is) (is_ok c.expr_reads.result) _ c.expr_reads.ensures.reads_or_cleared

pub parts_read-loop-b-init : goal.parts_read-loop-b-init
parts_read-loop-b-init t c = ((refl, λ r g' h. h), λ r g' h. h)

pub parts_read-overflow_add-a : goal.parts_read-overflow_add-a
parts_read-overflow_add-a t c = omega (arith, follows_in c.args.e.now c.loop-b.a (sym c.more.ensures ∙ c.loop-b-test.true))

pub parts_read-returns-in_err-expr_reads-clause-parts_read : goal.parts_read-returns-in_err-expr_reads-clause-parts_read
parts_read-returns-in_err-expr_reads-clause-parts_read t c = rw (err_from_is_err_and c.from_residual.result c.from_residual.ensures.1).1 (c.loop-b.invariant.1 false c.expr_reads.new.g (parts_stop c.args.e.now c.loop-b.a c.args.depth c.args.scope.kinds.now (names_of c.args.scope.names.now c.args.scope.used) c.args.from (sym c.more.ensures ∙ c.loop-b-test.true) c.part_end-b.ensures c.between.ensures c.loop-b.g c.expr_reads.new.g (is_ok c.expr_reads.result) (ap is_ok c.in_err-expr_reads.was) c.expr_reads.ensures.expr_read))

pub parts_read-returns-in_err-expr_reads-clause-reads_or_cleared : goal.parts_read-returns-in_err-expr_reads-clause-reads_or_cleared
parts_read-returns-in_err-expr_reads-clause-reads_or_cleared t c = rw (err_from_is_err_and c.from_residual.result c.from_residual.ensures.1).1 (c.loop-b.invariant.0.1 false c.expr_reads.new.g (all_stop (expr_read c.args.scope.kinds.now (names_of c.args.scope.names.now c.args.scope.used) c.args.depth) c.args.e.now c.loop-b.a c.args.from (sym c.more.ensures ∙ c.loop-b-test.true) c.part_end-b.ensures c.between.ensures c.loop-b.g c.expr_reads.new.g (is_ok c.expr_reads.result) (ap is_ok c.in_err-expr_reads.was) c.expr_reads.ensures.reads_or_cleared))

pub parts_read-loop-b-smaller : goal.parts_read-loop-b-smaller
parts_read-loop-b-smaller t c = omega (arith, follows_in c.args.e.now c.loop-b.a (sym c.more.ensures ∙ c.loop-b-test.true), c.part_end-b.ensures)

pub parts_read-loop-b-preserved : goal.parts_read-loop-b-preserved
parts_read-loop-b-preserved t c = ((c.expr_reads.auto.g ∙ c.loop-b.invariant.0.0, λ r g' h. c.loop-b.invariant.0.1 r g' (all_more (expr_read c.args.scope.kinds.now (names_of c.args.scope.names.now c.args.scope.used) c.args.depth) c.args.e.now c.loop-b.a c.args.from (sym c.more.ensures ∙ c.loop-b-test.true) c.part_end-b.ensures c.between.ensures c.loop-b.g c.expr_reads.new.g c.expr_reads.auto.g (is_ok c.expr_reads.result) (ap is_ok c.in_ok-expr_reads.was) c.expr_reads.ensures.reads_or_cleared r g' h)), λ r g' h. c.loop-b.invariant.1 r g' (parts_more c.args.e.now c.loop-b.a c.args.depth c.args.scope.kinds.now (names_of c.args.scope.names.now c.args.scope.used) c.args.from (sym c.more.ensures ∙ c.loop-b-test.true) c.part_end-b.ensures c.between.ensures c.loop-b.g c.expr_reads.new.g (is_ok c.expr_reads.result) (ap is_ok c.in_ok-expr_reads.was) c.expr_reads.ensures.expr_read r g' h))

pub parts_read-returns-clause-parts_read : goal.parts_read-returns-clause-parts_read
parts_read-returns-clause-parts_read t c = c.loop-b.invariant.1 true c.loop-b.g (parts_none c.args.e.now c.loop-b.a c.args.depth c.args.scope.kinds.now (names_of c.args.scope.names.now c.args.scope.used) c.args.from c.loop-b.g (sym c.more.ensures ∙ c.loop-b-test.false))

pub parts_read-returns-clause-reads_or_cleared : goal.parts_read-returns-clause-reads_or_cleared
parts_read-returns-clause-reads_or_cleared t c = c.loop-b.invariant.0.1 true c.loop-b.g (all_none (expr_read c.args.scope.kinds.now (names_of c.args.scope.names.now c.args.scope.used) c.args.depth) c.args.e.now c.loop-b.a c.args.from c.loop-b.g (sym c.more.ensures ∙ c.loop-b-test.false))
