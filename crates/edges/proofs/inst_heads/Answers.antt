use mathlib.Core.Path.{refl, ◌∙◌, ap}
use mathlib.Core.Bool.{true, false}
use Rattle.consteval.specs.Worth.{names_of, worth}
use Rattle.edges.specs.Lines.{summary_at}
use Rattle.edges.specs.Total.{inst_reads}
use Rattle.edges.proofs.LeaveLaws.{leave_later, leave_more, leave_none, leave_stop}
use Rattle.edges.proofs.PairLaws.{pair_word, no_pairs}
use Rattle.edges.proofs.OutputLaws.{outputs_all, outputs_none, outputs_later, outputs_stop, outputs_more}
use Rattle.std.specs.Prelude.{is_ok}
use Rattle.std.proofs.lemmas.Result.{err_from_is_err_and}
use Rattle.edges.proofs.inst_heads.Goals as goal

pub loop-left-init : goal.loop-left-init
loop-left-init c = ((refl, λ r g' h. h), λ r g' h. outputs_all (worth c.args.index) (summary_at c.args.pairs.words.now c.args.pairs.first c.args.pairs.count) c.args.x.now c.args.depth c.args.scope.kinds.now (names_of c.args.scope.names.now c.args.scope.used) r c.args.g.now g' h)

pub loop-left-preserved-then-has_output : goal.loop-left-preserved-then-has_output
loop-left-preserved-then-has_output c = ((c.loop-left.invariant.0.0, λ r g' h. c.loop-left.invariant.0.1 r g' (leave_later (inst_reads c.args.scope.kinds.now (names_of c.args.scope.names.now c.args.scope.used) (summary_at c.args.pairs.words.now c.args.pairs.first c.args.pairs.count) c.args.depth c.args.x.now) (worth c.args.index) c.args.x.now (pair_word c.args.pairs.words.now c.loop-left.p c.loop-left.left c.loop-left-test.true c.next_pair-p.result c.next_pair-p.ensures c.word-o.ensures) c.has_output.ensures c.loop-left.g c.if-has_output.true r g' h)), λ r g' h. c.loop-left.invariant.1 r g' (outputs_later (worth c.args.index) (summary_at c.args.pairs.words.now c.args.pairs.first c.args.pairs.count) c.args.x.now c.args.depth c.args.scope.kinds.now (names_of c.args.scope.names.now c.args.scope.used) (pair_word c.args.pairs.words.now c.loop-left.p c.loop-left.left c.loop-left-test.true c.next_pair-p.result c.next_pair-p.ensures c.word-o.ensures) c.has_output.ensures c.if-has_output.true r c.loop-left.g g' h))

pub returns-in_err-output_head-clause-inst_leaves : goal.returns-in_err-output_head-clause-inst_leaves
returns-in_err-output_head-clause-inst_leaves c = rw (err_from_is_err_and c.from_residual.result c.from_residual.ensures.1).1 (c.loop-left.invariant.0.1 false c.output_head.new.g (leave_stop (inst_reads c.args.scope.kinds.now (names_of c.args.scope.names.now c.args.scope.used) (summary_at c.args.pairs.words.now c.args.pairs.first c.args.pairs.count) c.args.depth c.args.x.now) (worth c.args.index) c.args.x.now (pair_word c.args.pairs.words.now c.loop-left.p c.loop-left.left c.loop-left-test.true c.next_pair-p.result c.next_pair-p.ensures c.word-o.ensures) c.has_output.ensures c.loop-left.g c.if-has_output.false c.output_head.new.g (is_ok c.output_head.result) c.output_head.ensures.output_leaves (ap is_ok c.in_err-output_head.was)))

pub returns-in_err-output_head-clause-inst_heads : goal.returns-in_err-output_head-clause-inst_heads
returns-in_err-output_head-clause-inst_heads c = rw (err_from_is_err_and c.from_residual.result c.from_residual.ensures.1).1 (c.loop-left.invariant.1 false c.output_head.new.g (outputs_stop (worth c.args.index) (summary_at c.args.pairs.words.now c.args.pairs.first c.args.pairs.count) c.args.x.now c.args.depth c.args.scope.kinds.now (names_of c.args.scope.names.now c.args.scope.used) (pair_word c.args.pairs.words.now c.loop-left.p c.loop-left.left c.loop-left-test.true c.next_pair-p.result c.next_pair-p.ensures c.word-o.ensures) c.has_output.ensures c.if-has_output.false c.loop-left.g c.output_head.new.g (is_ok c.output_head.result) c.output_head.ensures.output_head (ap is_ok c.in_err-output_head.was)))

pub loop-left-preserved : goal.loop-left-preserved
loop-left-preserved c = ((c.output_head.auto.g ∙ c.loop-left.invariant.0.0, λ r g' h. c.loop-left.invariant.0.1 r g' (leave_more (inst_reads c.args.scope.kinds.now (names_of c.args.scope.names.now c.args.scope.used) (summary_at c.args.pairs.words.now c.args.pairs.first c.args.pairs.count) c.args.depth c.args.x.now) (worth c.args.index) c.args.x.now (pair_word c.args.pairs.words.now c.loop-left.p c.loop-left.left c.loop-left-test.true c.next_pair-p.result c.next_pair-p.ensures c.word-o.ensures) c.has_output.ensures c.loop-left.g c.if-has_output.false c.output_head.new.g (is_ok c.output_head.result) c.output_head.ensures.output_leaves (ap is_ok c.in_ok-output_head.was) c.output_head.auto.g r g' h)), λ r g' h. c.loop-left.invariant.1 r g' (outputs_more (worth c.args.index) (summary_at c.args.pairs.words.now c.args.pairs.first c.args.pairs.count) c.args.x.now c.args.depth c.args.scope.kinds.now (names_of c.args.scope.names.now c.args.scope.used) (pair_word c.args.pairs.words.now c.loop-left.p c.loop-left.left c.loop-left-test.true c.next_pair-p.result c.next_pair-p.ensures c.word-o.ensures) c.has_output.ensures c.if-has_output.false c.loop-left.g c.output_head.new.g (is_ok c.output_head.result) c.output_head.ensures.output_head (ap is_ok c.in_ok-output_head.was) r g' h))

pub returns-clause-inst_leaves : goal.returns-clause-inst_leaves
returns-clause-inst_leaves c = c.loop-left.invariant.0.1 true c.loop-left.g (leave_none (inst_reads c.args.scope.kinds.now (names_of c.args.scope.names.now c.args.scope.used) (summary_at c.args.pairs.words.now c.args.pairs.first c.args.pairs.count) c.args.depth c.args.x.now) (worth c.args.index) c.args.x.now (no_pairs c.args.pairs.words.now c.loop-left.p c.loop-left.left c.loop-left-test.false) c.loop-left.g)

pub returns-clause-inst_heads : goal.returns-clause-inst_heads
returns-clause-inst_heads c = c.loop-left.invariant.1 true c.loop-left.g (outputs_none (worth c.args.index) (summary_at c.args.pairs.words.now c.args.pairs.first c.args.pairs.count) c.args.x.now c.args.depth c.args.scope.kinds.now (names_of c.args.scope.names.now c.args.scope.used) c.loop-left.g (no_pairs c.args.pairs.words.now c.loop-left.p c.loop-left.left c.loop-left-test.false))
