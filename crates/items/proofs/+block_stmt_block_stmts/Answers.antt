use mathlib.Core.Path.{refl, sym, ◌∙◌, ap}
use mathlib.Core.Bool.{true, false}
use native.Mathlib.Omega.{arith}
use Rattle.lines.proofs.PartLaws.{follows_in}
use Rattle.items.proofs.BlockLaws.{stmt_shut, stmt_set, stmt_default, stmt_loop, when_alone, when_stops, when_both, stmts_end, stmts_stop, stmts_step}
use Rattle.items.specs.Added.{stmt_added}
use Rattle.items.proofs.AddedLaws.{leaves_by, added_shut, added_set, added_default, added_loop, when_one, when_stop, when_then, all_end, all_stop, all_step}
use Rattle.std.proofs.lemmas.Result.{err_from_is_err_and}
use Rattle.std.specs.Prelude.{is_ok}
use Rattle.items.proofs.+block_stmt_block_stmts.Goals as goal

pub block_stmt-returns-then-depth-eq0-clause-stmt_after : goal.block_stmt-returns-then-depth-eq0-clause-stmt_after
block_stmt-returns-then-depth-eq0-clause-stmt_after t c = stmt_shut c.args.s.now c.args.block c.args.depth c.args.kinds.now c.args.own.now c.if-depth-eq0.true

pub block_stmt-returns-then-depth-eq0-clause-own_len_unchanged : goal.block_stmt-returns-then-depth-eq0-clause-own_len_unchanged
block_stmt-returns-then-depth-eq0-clause-own_len_unchanged t c = refl

pub block_stmt-returns-then-depth-eq0-clause-own_leaves : goal.block_stmt-returns-then-depth-eq0-clause-own_leaves
block_stmt-returns-then-depth-eq0-clause-own_leaves t c = added_shut c.args.block c.args.kinds.now c.args.depth c.args.s.now c.args.own.now c.if-depth-eq0.true

pub block_stmt-returns-then-c-eq115-clause-stmt_after : goal.block_stmt-returns-then-c-eq115-clause-stmt_after
block_stmt-returns-then-c-eq115-clause-stmt_after t c = stmt_set c.args.s.now c.args.block c.args.depth c.args.kinds.now c.args.own.now (is_ok c.set_stmt.result) _ (sym c.byte-c.ensures ∙ c.if-c-eq115.true) c.set_stmt.ensures.set_after

pub block_stmt-returns-then-c-eq115-clause-own_len_unchanged : goal.block_stmt-returns-then-c-eq115-clause-own_len_unchanged
block_stmt-returns-then-c-eq115-clause-own_len_unchanged t c = c.set_stmt.ensures.own_len_unchanged

pub block_stmt-returns-then-c-eq115-clause-own_leaves : goal.block_stmt-returns-then-c-eq115-clause-own_leaves
block_stmt-returns-then-c-eq115-clause-own_leaves t c = added_set c.args.block c.args.kinds.now c.args.depth c.args.s.now c.args.own.now c.if-depth-eq0.false (sym c.byte-c.ensures ∙ c.if-c-eq115.true) (is_ok c.set_stmt.result) _ c.set_stmt.ensures.own_leaves

pub block_stmt-returns-then-c-eq100-clause-stmt_after : goal.block_stmt-returns-then-c-eq100-clause-stmt_after
block_stmt-returns-then-c-eq100-clause-stmt_after t c = stmt_default c.args.s.now c.args.block c.args.depth c.args.kinds.now c.args.own.now (is_ok c.default_stmt.result) _ (sym c.byte-c.ensures ∙ c.if-c-eq100.true) c.default_stmt.ensures.default_after

pub block_stmt-returns-then-c-eq100-clause-own_len_unchanged : goal.block_stmt-returns-then-c-eq100-clause-own_len_unchanged
block_stmt-returns-then-c-eq100-clause-own_len_unchanged t c = c.default_stmt.ensures.own_len_unchanged

pub block_stmt-returns-then-c-eq100-clause-own_leaves : goal.block_stmt-returns-then-c-eq100-clause-own_leaves
block_stmt-returns-then-c-eq100-clause-own_leaves t c = added_default c.args.block c.args.kinds.now c.args.depth c.args.s.now c.args.own.now c.if-depth-eq0.false (λ e. c.if-c-eq115.false (c.byte-c.ensures ∙ e)) (sym c.byte-c.ensures ∙ c.if-c-eq100.true) (is_ok c.default_stmt.result) _ c.default_stmt.ensures.own_leaves

pub block_stmt-returns-then-c-eq108-clause-stmt_after : goal.block_stmt-returns-then-c-eq108-clause-stmt_after
block_stmt-returns-then-c-eq108-clause-stmt_after t c = stmt_loop c.args.s.now c.args.block c.args.depth c.args.kinds.now c.args.own.now (is_ok c.block_stmts.result) _ (λ e. c.if-c-eq115.false (c.byte-c.ensures ∙ e)) (λ e. c.if-c-eq100.false (c.byte-c.ensures ∙ e)) (λ e. omega (arith, c.if-c-eq108.true, c.byte-c.ensures, e)) c.block_stmts.ensures.stmts_after

pub block_stmt-returns-then-c-eq108-clause-own_len_unchanged : goal.block_stmt-returns-then-c-eq108-clause-own_len_unchanged
block_stmt-returns-then-c-eq108-clause-own_len_unchanged t c = c.block_stmts.ensures.own_len_unchanged

pub block_stmt-returns-then-c-eq108-clause-own_leaves : goal.block_stmt-returns-then-c-eq108-clause-own_leaves
block_stmt-returns-then-c-eq108-clause-own_leaves t c = added_loop c.args.block c.args.kinds.now c.args.depth c.args.s.now c.args.own.now c.if-depth-eq0.false (λ e. c.if-c-eq115.false (c.byte-c.ensures ∙ e)) (λ e. c.if-c-eq100.false (c.byte-c.ensures ∙ e)) c.byte-c.ensures c.if-c-eq108.true (is_ok c.block_stmts.result) _ c.block_stmts.ensures.own_leaves

pub block_stmt-returns-then-not-more-clause-stmt_after : goal.block_stmt-returns-then-not-more-clause-stmt_after
block_stmt-returns-then-not-more-clause-stmt_after t c = when_alone c.args.s.now c.args.block c.args.depth c.args.kinds.now c.args.own.now (λ e. c.if-c-eq115.false (c.byte-c.ensures ∙ e)) (λ e. c.if-c-eq100.false (c.byte-c.ensures ∙ e)) (λ e. c.if-c-eq108.false (c.byte-c.ensures ∙ e)) c.part_end-a.ensures (sym c.more.ensures ∙ c.if-not-more.true)

pub block_stmt-returns-then-not-more-clause-own_len_unchanged : goal.block_stmt-returns-then-not-more-clause-own_len_unchanged
block_stmt-returns-then-not-more-clause-own_len_unchanged t c = refl

pub block_stmt-returns-then-not-more-clause-own_leaves : goal.block_stmt-returns-then-not-more-clause-own_leaves
block_stmt-returns-then-not-more-clause-own_leaves t c = when_one c.args.block c.args.kinds.now c.args.depth c.args.s.now c.args.own.now c.if-depth-eq0.false (λ e. c.if-c-eq115.false (c.byte-c.ensures ∙ e)) (λ e. c.if-c-eq100.false (c.byte-c.ensures ∙ e)) (λ e. c.if-c-eq108.false (c.byte-c.ensures ∙ e)) c.part_end-a.ensures (sym c.more.ensures ∙ c.if-not-more.true)

pub block_stmt-returns-in_err-block_stmts-clause-stmt_after : goal.block_stmt-returns-in_err-block_stmts-clause-stmt_after
block_stmt-returns-in_err-block_stmts-clause-stmt_after t c = rw (err_from_is_err_and c.from_residual.result c.from_residual.ensures.1).1 (when_stops c.args.s.now c.args.block c.args.depth c.args.kinds.now c.args.own.now (λ e. c.if-c-eq115.false (c.byte-c.ensures ∙ e)) (λ e. c.if-c-eq100.false (c.byte-c.ensures ∙ e)) (λ e. c.if-c-eq108.false (c.byte-c.ensures ∙ e)) c.part_end-a.ensures c.between.ensures (is_ok c.block_stmts-2.result) (ap is_ok c.in_err-block_stmts.was) _ c.block_stmts-2.ensures.stmts_after)

pub block_stmt-returns-in_err-block_stmts-clause-own_len_unchanged : goal.block_stmt-returns-in_err-block_stmts-clause-own_len_unchanged
block_stmt-returns-in_err-block_stmts-clause-own_len_unchanged t c = c.block_stmts-2.ensures.own_len_unchanged

pub block_stmt-returns-in_err-block_stmts-clause-own_leaves : goal.block_stmt-returns-in_err-block_stmts-clause-own_leaves
block_stmt-returns-in_err-block_stmts-clause-own_leaves t c = rw (err_from_is_err_and c.from_residual.result c.from_residual.ensures.1).1 (when_stop c.args.block c.args.kinds.now c.args.depth c.args.s.now c.args.own.now c.if-depth-eq0.false (λ e. c.if-c-eq115.false (c.byte-c.ensures ∙ e)) (λ e. c.if-c-eq100.false (c.byte-c.ensures ∙ e)) (λ e. c.if-c-eq108.false (c.byte-c.ensures ∙ e)) c.part_end-a.ensures (sym c.more.ensures ∙ c.if-not-more.false) c.between.ensures (is_ok c.block_stmts-2.result) (ap is_ok c.in_err-block_stmts.was) _ c.block_stmts-2.ensures.own_leaves)

pub block_stmt-overflow_add-a : goal.block_stmt-overflow_add-a
block_stmt-overflow_add-a t c = omega (arith, follows_in c.args.s.now c.part_end-a.result (sym c.more.ensures ∙ c.if-not-more.false))

pub block_stmt-returns-clause-stmt_after : goal.block_stmt-returns-clause-stmt_after
block_stmt-returns-clause-stmt_after t c = when_both c.args.s.now c.args.block c.args.depth c.args.kinds.now c.args.own.now (λ e. c.if-c-eq115.false (c.byte-c.ensures ∙ e)) (λ e. c.if-c-eq100.false (c.byte-c.ensures ∙ e)) (λ e. c.if-c-eq108.false (c.byte-c.ensures ∙ e)) c.part_end-a.ensures c.between.ensures c.part_end-b.ensures c.between-2.ensures (is_ok c.block_stmts-2.result) (ap is_ok c.in_ok-block_stmts.was) _ c.block_stmts-2.ensures.stmts_after (is_ok c.block_stmts-3.result) _ c.block_stmts-3.ensures.stmts_after

pub block_stmt-returns-clause-own_len_unchanged : goal.block_stmt-returns-clause-own_len_unchanged
block_stmt-returns-clause-own_len_unchanged t c = c.block_stmts-3.ensures.own_len_unchanged ∙ c.block_stmts-2.ensures.own_len_unchanged

pub block_stmt-returns-clause-own_leaves : goal.block_stmt-returns-clause-own_leaves
block_stmt-returns-clause-own_leaves t c = when_then c.args.block c.args.kinds.now c.args.depth c.args.s.now c.args.own.now c.if-depth-eq0.false (λ e. c.if-c-eq115.false (c.byte-c.ensures ∙ e)) (λ e. c.if-c-eq100.false (c.byte-c.ensures ∙ e)) (λ e. c.if-c-eq108.false (c.byte-c.ensures ∙ e)) c.part_end-a.ensures (sym c.more.ensures ∙ c.if-not-more.false) c.between.ensures c.part_end-b.ensures c.between-2.ensures (is_ok c.block_stmts-2.result) (ap is_ok c.in_ok-block_stmts.was) _ c.block_stmts-2.ensures.own_leaves (is_ok c.block_stmts-3.result) _ c.block_stmts-3.ensures.own_leaves

pub block_stmts-loop-a-init : goal.block_stmts-loop-a-init
block_stmts-loop-a-init t c = (refl, λ r own' h. h, refl)

pub block_stmts-overflow_add-e : goal.block_stmts-overflow_add-e
block_stmts-overflow_add-e t c = omega (arith, follows_in c.args.s.now c.loop-a.e (sym c.more.ensures ∙ c.loop-a-test.true))

pub block_stmts-returns-in_err-block_stmt-clause-stmts_after : goal.block_stmts-returns-in_err-block_stmt-clause-stmts_after
block_stmts-returns-in_err-block_stmt-clause-stmts_after t c = rw (err_from_is_err_and c.from_residual.result c.from_residual.ensures.1).1 (c.loop-a.invariant.1 false c.block_stmt.new.own (stmts_stop c.args.s.now c.loop-a.e c.args.block c.args.depth c.args.kinds.now c.loop-a.own (sym c.more.ensures ∙ c.loop-a-test.true) c.part_end-a.ensures c.between.ensures (is_ok c.block_stmt.result) (ap is_ok c.in_err-block_stmt.was) _ c.block_stmt.ensures.stmt_after))

pub block_stmts-returns-in_err-block_stmt-clause-own_len_unchanged : goal.block_stmts-returns-in_err-block_stmt-clause-own_len_unchanged
block_stmts-returns-in_err-block_stmt-clause-own_len_unchanged t c = c.block_stmt.ensures.own_len_unchanged ∙ c.loop-a.invariant.0

pub block_stmts-returns-in_err-block_stmt-clause-own_leaves : goal.block_stmts-returns-in_err-block_stmt-clause-own_leaves
block_stmts-returns-in_err-block_stmt-clause-own_leaves t c = rw (err_from_is_err_and c.from_residual.result c.from_residual.ensures.1).1 (leaves_by false _ c.loop-a.invariant.2 (all_stop (stmt_added c.args.block c.args.kinds.now c.args.depth) c.args.s.now c.loop-a.e c.loop-a.own (sym c.more.ensures ∙ c.loop-a-test.true) c.part_end-a.ensures c.between.ensures (is_ok c.block_stmt.result) (ap is_ok c.in_err-block_stmt.was) _ c.block_stmt.ensures.own_leaves))

pub block_stmts-loop-a-smaller : goal.block_stmts-loop-a-smaller
block_stmts-loop-a-smaller t c = omega (arith, follows_in c.args.s.now c.loop-a.e (sym c.more.ensures ∙ c.loop-a-test.true), c.part_end-a.ensures)

pub block_stmts-loop-a-preserved : goal.block_stmts-loop-a-preserved
block_stmts-loop-a-preserved t c = (c.block_stmt.ensures.own_len_unchanged ∙ c.loop-a.invariant.0, λ r own' h. c.loop-a.invariant.1 r own' (stmts_step c.args.s.now c.loop-a.e c.args.block c.args.depth c.args.kinds.now c.loop-a.own (sym c.more.ensures ∙ c.loop-a-test.true) c.part_end-a.ensures c.between.ensures (is_ok c.block_stmt.result) (ap is_ok c.in_ok-block_stmt.was) _ c.block_stmt.ensures.stmt_after r own' h), c.loop-a.invariant.2 ∙ all_step (stmt_added c.args.block c.args.kinds.now c.args.depth) c.args.s.now c.loop-a.e c.loop-a.own (sym c.more.ensures ∙ c.loop-a-test.true) c.part_end-a.ensures c.between.ensures (is_ok c.block_stmt.result) (ap is_ok c.in_ok-block_stmt.was) _ c.block_stmt.ensures.own_leaves)

pub block_stmts-returns-clause-stmts_after : goal.block_stmts-returns-clause-stmts_after
block_stmts-returns-clause-stmts_after t c = c.loop-a.invariant.1 true c.loop-a.own (stmts_end c.args.s.now c.loop-a.e c.args.block c.args.depth c.args.kinds.now c.loop-a.own (sym c.more.ensures ∙ c.loop-a-test.false))

pub block_stmts-returns-clause-own_len_unchanged : goal.block_stmts-returns-clause-own_len_unchanged
block_stmts-returns-clause-own_len_unchanged t c = c.loop-a.invariant.0

pub block_stmts-returns-clause-own_leaves : goal.block_stmts-returns-clause-own_leaves
block_stmts-returns-clause-own_leaves t c = leaves_by true _ c.loop-a.invariant.2 (all_end (stmt_added c.args.block c.args.kinds.now c.args.depth) c.args.s.now c.loop-a.e c.loop-a.own (sym c.more.ensures ∙ c.loop-a-test.false))
