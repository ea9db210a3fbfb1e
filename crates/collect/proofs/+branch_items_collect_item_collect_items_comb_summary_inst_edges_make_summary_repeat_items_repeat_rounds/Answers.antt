use Rattle.std.specs.Prelude.{Ok}
use mathlib.Core.Path.{sym, ◌∙◌, ap, subst}
use mathlib.Core.Bool.{false}
use Prim.Native.Nat.{ℕ, ◌/◌}
use Rattle.std.specs.Prelude.{is_ok}
use native.Mathlib.Omega.{arith}
use lib.ListN.{length, length-drop, length-replicate}
use borrow.Author.Tests.{ltb-true}
use Rattle.spec.specs.Refusal.{decode}
use Rattle.walk.specs.Walk.{ask_walk}
use Rattle.steps.specs.declared.Head.TheVariants as head
use Rattle.collect.specs.Cycle.{mode, HeadsAdded, AskedFor}
use Rattle.consteval.specs.Worth.{names_of, worth}
use Rattle.edges.specs.Lines.{summary_at}
use Rattle.collect.proofs.Parts.{piece_short}
use Rattle.collect.proofs.Tables.{run_short}
use Rattle.collect.proofs.Items.{framed_same, framed_again, within_more, starts, ended, after, item_next, item_full, body_walked, inst_walked, inst_full, plain_walked, plain_full}
use Rattle.collect.proofs.Bodies.{not_shallow, bounds_outside, no_round, body_once, never_short, never_wide, rounds_done, rounds_start, rounds_end, push_held, push_framed, rounds_framed, rounds_next, rounds_full, not_flat, test_outside, branch_some, branch_done}
use Rattle.collect.proofs.Asking.{index_outside, summary_full, summary_empty, summary_kept, spent_at, ask_past, ask_again, ask_within, ask_new, not_long, make_outside, make_stops, make_over, make_kept, outside_err}
use Rattle.graph.proofs.Limits.{stands_empty}
use Rattle.spec.proofs.Cleared.{cleared_of}
use Rattle.collect.proofs.Leaving.{own_same, filled_same, walk_kept, walk_cleared, line_kept, line_cleared, edges_kept, edges_cleared, ask_empty, ask_kept, ask_cleared, made_left, inst_stepped, known_none, known_kept, inst_edges_left}
use Rattle.summary.proofs.Pairs.{leaves_zero}
use Rattle.std.specs.Prelude.{Ok, is_ok}
use Rattle.std.proofs.lemmas.Result.{err_from_is_err_and}
use Rattle.collect.proofs.Leaving.{passed}
use Rattle.collect.proofs.+branch_items_collect_item_collect_items_comb_summary_inst_edges_make_summary_repeat_items_repeat_rounds.Goals as goal

pub branch_items-returns-then-pass-lt2-clause-ends : goal.branch_items-returns-then-pass-lt2-clause-ends
branch_items-returns-then-pass-lt2-clause-ends t c = not_flat c.args.pass.fuel (mode c.args.pass.checking c.args.pass.bound) c.args.source.now.text.now c.args.source.now.kinds.now c.args.source.now.mods.now c.args.source.now.count c.args.x.now c.args.from c.args.pass.depth c.args.ks.now c.args.names.now c.args.pass.used c.args.left c.args.own.now c.args.g.now c.args.k.now c.if-pass-lt2.true

pub branch_items-returns-then-pass-lt2-clause-framed : goal.branch_items-returns-then-pass-lt2-clause-framed
branch_items-returns-then-pass-lt2-clause-framed t c = (framed_same, tt)

pub branch_items-returns-then-pass-lt2-clause-walk_leaves : goal.branch_items-returns-then-pass-lt2-clause-walk_leaves
branch_items-returns-then-pass-lt2-clause-walk_leaves t c = c.clear_tables.ensures

pub branch_items-returns-then-x-run-clause-ends : goal.branch_items-returns-then-x-run-clause-ends
branch_items-returns-then-x-run-clause-ends t c = branch_some c.args.pass.fuel (mode c.args.pass.checking c.args.pass.bound) c.args.source.now.text.now c.args.source.now.kinds.now c.args.source.now.mods.now c.args.source.now.count c.args.x.now c.args.from c.args.pass.depth c.args.ks.now c.args.names.now c.args.pass.used c.args.left c.args.own.now c.args.g.now c.args.k.now c.branch_of.result (c.branch_of.ensures.value, c.branch_of.ensures.result_value) _ c.in-Ok.is (omega (arith, c.if-x-run.true))

pub branch_items-returns-then-x-run-clause-framed : goal.branch_items-returns-then-x-run-clause-framed
branch_items-returns-then-x-run-clause-framed t c = (framed_same, tt)

pub branch_items-returns-then-x-run-clause-walk_leaves : goal.branch_items-returns-then-x-run-clause-walk_leaves
branch_items-returns-then-x-run-clause-walk_leaves t c = c.clear_tables-then-x-run.ensures

pub branch_items-overflow_cast-base : goal.branch_items-overflow_cast-base
branch_items-overflow_cast-base t c = omega (arith, c.requires, c.if-x-run.false)

pub branch_items-overflow_add-base : goal.branch_items-overflow_add-base
branch_items-overflow_add-base t c = omega (arith, c.requires, c.if-x-run.false)

pub branch_items-overflow_add-base-in-Ok : goal.branch_items-overflow_add-base-in-Ok
branch_items-overflow_add-base-in-Ok t c = omega (arith, c.requires, c.if-x-run.false)

pub branch_items-collect_items-requires : goal.branch_items-collect_items-requires
branch_items-collect_items-requires t c = (omega arith, omega (arith, c.requires, c.if-x-run.false, piece_short c.args.x.now c.in-Ok.run'.before c.in-Ok.run'.end, ap length c.between-s.ensures))

pub branch_items-returns-in-Err-clause-ends : goal.branch_items-returns-in-Err-clause-ends
branch_items-returns-in-Err-clause-ends t c = test_outside c.args.pass.fuel (mode c.args.pass.checking c.args.pass.bound) c.args.source.now.text.now c.args.source.now.kinds.now c.args.source.now.mods.now c.args.source.now.count c.args.x.now c.args.from c.args.pass.depth c.args.ks.now c.args.names.now c.args.pass.used c.args.left c.args.own.now c.args.g.now c.args.k.now c.branch_of.result (c.branch_of.ensures.value, c.branch_of.ensures.result_value) c.in-Err.is

pub branch_items-returns-in-Err-clause-framed : goal.branch_items-returns-in-Err-clause-framed
branch_items-returns-in-Err-clause-framed t c = (framed_same, tt)

pub branch_items-returns-in-Err-clause-walk_leaves : goal.branch_items-returns-in-Err-clause-walk_leaves
branch_items-returns-in-Err-clause-walk_leaves t c = c.clear_tables-in-Err.ensures

pub branch_items-returns-else-x-run-clause-ends : goal.branch_items-returns-else-x-run-clause-ends
branch_items-returns-else-x-run-clause-ends t c = branch_done c.args.pass.fuel (mode c.args.pass.checking c.args.pass.bound) c.args.source.now.text.now c.args.source.now.kinds.now c.args.source.now.mods.now c.args.source.now.count c.args.x.now c.args.from c.args.pass.depth c.args.ks.now c.args.names.now c.args.pass.used c.args.left c.args.own.now c.args.g.now c.args.k.now c.branch_of.result (c.branch_of.ensures.value, c.branch_of.ensures.result_value) _ c.in-Ok.is c.between-s.result.now c.between-s.ensures c.collect_items.result c.collect_items.new.own c.collect_items.new.g c.collect_items.new.k c.collect_items.ensures.ends

pub branch_items-returns-else-x-run-clause-framed : goal.branch_items-returns-else-x-run-clause-framed
branch_items-returns-else-x-run-clause-framed t c = c.collect_items.ensures.framed

pub branch_items-returns-else-x-run-clause-walk_leaves : goal.branch_items-returns-else-x-run-clause-walk_leaves
branch_items-returns-else-x-run-clause-walk_leaves t c = c.collect_items.ensures.walk_leaves

pub collect_item-inst_edges-requires : goal.collect_item-inst_edges-requires
collect_item-inst_edges-requires t c = omega arith

pub collect_item-repeat_items-requires : goal.collect_item-repeat_items-requires
collect_item-repeat_items-requires t c = (omega arith, omega (arith, c.requires))

pub collect_item-branch_items-requires : goal.collect_item-branch_items-requires
collect_item-branch_items-requires t c = (omega arith, omega (arith, c.requires))

pub collect_item-returns-in_default-clause-ends : goal.collect_item-returns-in_default-clause-ends
collect_item-returns-in_default-clause-ends t c = plain_walked c.args.pass.fuel (mode c.args.pass.checking c.args.pass.bound) c.args.source.now.text.now c.args.source.now.kinds.now c.args.source.now.mods.now c.args.source.now.count c.args.x.now c.args.from c.args.pass.depth c.args.ks.now c.args.names.now c.args.pass.used c.args.left c.args.own.now c.args.g.now c.args.k.now c.head_of.result c.head_of.ensures c.in-Plain.is (is_ok c.plain_line.result) c.plain_line.new.own c.plain_line.new.g c.plain_line.ensures.plain_line (passed c.plain_line.result c.in_default.not-Err)

pub collect_item-returns-in_default-clause-framed : goal.collect_item-returns-in_default-clause-framed
collect_item-returns-in_default-clause-framed t c = (framed_same, omega arith)

pub collect_item-returns-in_default-clause-walk_leaves : goal.collect_item-returns-in_default-clause-walk_leaves
collect_item-returns-in_default-clause-walk_leaves t c = (let z = line_kept (is_ok c.plain_line.result) c.args.pass.checking c.args.own.now c.plain_line.new.own c.args.g.now c.plain_line.new.g (passed c.plain_line.result c.in_default.not-Err) c.plain_line.ensures.plain_leaves in (z.0, z.1 c.args.k.now))

pub collect_item-returns-in-Err-clause-ends : goal.collect_item-returns-in-Err-clause-ends
collect_item-returns-in-Err-clause-ends t c = plain_full c.args.pass.fuel (mode c.args.pass.checking c.args.pass.bound) c.args.source.now.text.now c.args.source.now.kinds.now c.args.source.now.mods.now c.args.source.now.count c.args.x.now c.args.from c.args.pass.depth c.args.ks.now c.args.names.now c.args.pass.used c.args.left c.args.own.now c.args.g.now c.args.k.now c.head_of.result c.head_of.ensures c.in-Plain.is (is_ok c.plain_line.result) c.plain_line.new.own c.plain_line.new.g c.plain_line.ensures.plain_line (ap is_ok c.in-Err.is)

pub collect_item-returns-in-Err-clause-framed : goal.collect_item-returns-in-Err-clause-framed
collect_item-returns-in-Err-clause-framed t c = (framed_same, tt)

pub collect_item-returns-in-Err-clause-walk_leaves : goal.collect_item-returns-in-Err-clause-walk_leaves
collect_item-returns-in-Err-clause-walk_leaves t c = (let z = line_cleared (is_ok c.plain_line.result) c.args.pass.checking c.args.own.now c.plain_line.new.own c.args.g.now c.plain_line.new.g (ap is_ok c.in-Err.is) c.plain_line.ensures.plain_leaves in (z.0, z.1, cleared_of (length c.args.k.now) c.clear.new.g c.clear.ensures))

pub collect_item-returns-in_default-inst_edges-clause-ends : goal.collect_item-returns-in_default-inst_edges-clause-ends
collect_item-returns-in_default-inst_edges-clause-ends t c = inst_walked c.args.pass.fuel (mode c.args.pass.checking c.args.pass.bound) c.args.source.now.text.now c.args.source.now.kinds.now c.args.source.now.mods.now c.args.source.now.count c.args.x.now c.args.from c.args.pass.depth c.args.ks.now c.args.names.now c.args.pass.used c.args.left c.args.own.now c.args.g.now c.args.k.now c.head_of.result c.head_of.ensures c.in-Inst.is (is_ok c.inst_edges.result) c.inst_edges.new.g c.inst_edges.new.k c.inst_edges.ensures.stepped (passed c.inst_edges.result c.in_default-inst_edges.not-Err)

pub collect_item-returns-in_default-inst_edges-clause-framed : goal.collect_item-returns-in_default-inst_edges-clause-framed
collect_item-returns-in_default-inst_edges-clause-framed t c = (framed_same, omega arith)

pub collect_item-returns-in_default-inst_edges-clause-walk_leaves : goal.collect_item-returns-in_default-inst_edges-clause-walk_leaves
collect_item-returns-in_default-inst_edges-clause-walk_leaves t c = (own_same c.args.pass.checking c.args.own.now, edges_kept (is_ok c.inst_edges.result) c.args.g.now c.inst_edges.new.g c.args.k.now c.inst_edges.new.k (passed c.inst_edges.result c.in_default-inst_edges.not-Err) c.inst_edges.ensures.edges_leave)

pub collect_item-returns-in-Err-inst_edges-clause-ends : goal.collect_item-returns-in-Err-inst_edges-clause-ends
collect_item-returns-in-Err-inst_edges-clause-ends t c = inst_full c.args.pass.fuel (mode c.args.pass.checking c.args.pass.bound) c.args.source.now.text.now c.args.source.now.kinds.now c.args.source.now.mods.now c.args.source.now.count c.args.x.now c.args.from c.args.pass.depth c.args.ks.now c.args.names.now c.args.pass.used c.args.left c.args.own.now c.args.g.now c.args.k.now c.head_of.result c.head_of.ensures c.in-Inst.is (is_ok c.inst_edges.result) c.inst_edges.new.g c.inst_edges.new.k c.inst_edges.ensures.stepped (ap is_ok c.in-Err-inst_edges.is)

pub collect_item-returns-in-Err-inst_edges-clause-framed : goal.collect_item-returns-in-Err-inst_edges-clause-framed
collect_item-returns-in-Err-inst_edges-clause-framed t c = (framed_same, tt)

pub collect_item-returns-in-Err-inst_edges-clause-walk_leaves : goal.collect_item-returns-in-Err-inst_edges-clause-walk_leaves
collect_item-returns-in-Err-inst_edges-clause-walk_leaves t c = (let z = edges_cleared (is_ok c.inst_edges.result) c.args.g.now c.inst_edges.new.g c.args.k.now c.inst_edges.new.k (ap is_ok c.in-Err-inst_edges.is) c.inst_edges.ensures.edges_leave in (cleared_of (length c.args.own.now) c.clear-in-Err-inst_edges.new.g c.clear-in-Err-inst_edges.ensures, z.0, z.1))

pub collect_item-returns-in-Repeat-clause-ends : goal.collect_item-returns-in-Repeat-clause-ends
collect_item-returns-in-Repeat-clause-ends t c = body_walked c.args.pass.fuel (mode c.args.pass.checking c.args.pass.bound) c.args.source.now.text.now c.args.source.now.kinds.now c.args.source.now.mods.now c.args.source.now.count c.args.x.now c.args.from c.args.pass.depth c.args.ks.now c.args.names.now c.args.pass.used c.args.left c.args.own.now c.args.g.now c.args.k.now c.head_of.result c.head_of.ensures head.Repeat c.in-Repeat.is c.repeat_items.result c.repeat_items.new.own c.repeat_items.new.g c.repeat_items.new.k c.repeat_items.ensures.ends

pub collect_item-returns-in-Repeat-clause-framed : goal.collect_item-returns-in-Repeat-clause-framed
collect_item-returns-in-Repeat-clause-framed t c = c.repeat_items.ensures.framed

pub collect_item-returns-in-Repeat-clause-walk_leaves : goal.collect_item-returns-in-Repeat-clause-walk_leaves
collect_item-returns-in-Repeat-clause-walk_leaves t c = c.repeat_items.ensures.walk_leaves

pub collect_item-returns-in-ConstIf-clause-ends : goal.collect_item-returns-in-ConstIf-clause-ends
collect_item-returns-in-ConstIf-clause-ends t c = body_walked c.args.pass.fuel (mode c.args.pass.checking c.args.pass.bound) c.args.source.now.text.now c.args.source.now.kinds.now c.args.source.now.mods.now c.args.source.now.count c.args.x.now c.args.from c.args.pass.depth c.args.ks.now c.args.names.now c.args.pass.used c.args.left c.args.own.now c.args.g.now c.args.k.now c.head_of.result c.head_of.ensures head.ConstIf c.in-ConstIf.is c.branch_items.result c.branch_items.new.own c.branch_items.new.g c.branch_items.new.k c.branch_items.ensures.ends

pub collect_item-returns-in-ConstIf-clause-framed : goal.collect_item-returns-in-ConstIf-clause-framed
collect_item-returns-in-ConstIf-clause-framed t c = c.branch_items.ensures.framed

pub collect_item-returns-in-ConstIf-clause-walk_leaves : goal.collect_item-returns-in-ConstIf-clause-walk_leaves
collect_item-returns-in-ConstIf-clause-walk_leaves t c = c.branch_items.ensures.walk_leaves

pub collect_items-loop-at-init : goal.collect_items-loop-at-init
collect_items-loop-at-init t c = starts c.args.pass.fuel (mode c.args.pass.checking c.args.pass.bound) c.args.source.now.text.now c.args.source.now.kinds.now c.args.source.now.mods.now c.args.source.now.count c.args.s.now c.args.base c.args.pass.depth c.args.ks.now c.args.names.now c.args.pass.used c.args.left c.args.own.now c.args.g.now c.args.k.now

pub collect_items-overflow_cast-from : goal.collect_items-overflow_cast-from
collect_items-overflow_cast-from t c = omega (arith, c.requires, c.loop-at-test.true)

pub collect_items-overflow_add-from : goal.collect_items-overflow_add-from
collect_items-overflow_add-from t c = omega (arith, c.requires, c.loop-at-test.true)

pub collect_items-overflow_add-from-in-loop-at : goal.collect_items-overflow_add-from-in-loop-at
collect_items-overflow_add-from-in-loop-at t c = omega (arith, c.requires, c.loop-at-test.true)

pub collect_items-collect_item-requires : goal.collect_items-collect_item-requires
collect_items-collect_item-requires t c = (omega arith, omega (arith, c.requires, c.loop-at-test.true, piece_short c.args.s.now c.loop-at.at c.form_end-end.result, ap length c.between-x.ensures))

pub collect_items-loop-at-smaller : goal.collect_items-loop-at-smaller
collect_items-loop-at-smaller t c = omega (arith, (after c.args.pass.fuel (mode c.args.pass.checking c.args.pass.bound) c.args.source.now.text.now c.args.source.now.kinds.now c.args.source.now.mods.now c.args.source.now.count c.args.s.now c.args.base c.args.pass.depth c.args.ks.now c.args.names.now c.args.pass.used c.args.left c.args.own.now c.args.g.now c.args.k.now c.loop-at.at c.loop-at.left c.loop-at.names c.loop-at.own c.loop-at.g c.loop-at.k c.loop-at.invariant c.loop-at-test.true c.form_end-end.result c.between-x.result.now c.form_end-end.ensures c.between-x.ensures).0, (after c.args.pass.fuel (mode c.args.pass.checking c.args.pass.bound) c.args.source.now.text.now c.args.source.now.kinds.now c.args.source.now.mods.now c.args.source.now.count c.args.s.now c.args.base c.args.pass.depth c.args.ks.now c.args.names.now c.args.pass.used c.args.left c.args.own.now c.args.g.now c.args.k.now c.loop-at.at c.loop-at.left c.loop-at.names c.loop-at.own c.loop-at.g c.loop-at.k c.loop-at.invariant c.loop-at-test.true c.form_end-end.result c.between-x.result.now c.form_end-end.ensures c.between-x.ensures).1)

pub collect_items-loop-at-preserved : goal.collect_items-loop-at-preserved
collect_items-loop-at-preserved t c = item_next c.args.pass.fuel (mode c.args.pass.checking c.args.pass.bound) c.args.source.now.text.now c.args.source.now.kinds.now c.args.source.now.mods.now c.args.source.now.count c.args.s.now c.args.base c.args.pass.depth c.args.ks.now c.args.names.now c.args.pass.used c.args.left c.args.own.now c.args.g.now c.args.k.now c.loop-at.at c.loop-at.left c.loop-at.names c.loop-at.own c.loop-at.g c.loop-at.k c.loop-at.invariant c.loop-at-test.true c.form_end-end.result c.between-x.result.now c.form_end-end.ensures c.between-x.ensures _ c.collect_item.new.names c.collect_item.new.own c.collect_item.new.g c.collect_item.new.k c.collect_item.result c.in_ok-left.was c.collect_item.ensures.framed.1 c.collect_item.ensures.framed.0 (record { kept = walk_kept c.collect_item.result c.args.pass.checking c.loop-at.own c.collect_item.new.own c.loop-at.g c.collect_item.new.g c.loop-at.k c.collect_item.new.k c.in_ok-left.was c.collect_item.ensures.walk_leaves; own_size = c.collect_item.auto.own; g_size = c.collect_item.auto.g; k_size = c.collect_item.auto.k }) c.collect_item.ensures.ends

pub collect_items-returns-in_err-left-clause-ends : goal.collect_items-returns-in_err-left-clause-ends
collect_items-returns-in_err-left-clause-ends t c = rw (err_from_is_err_and c.from_residual.result c.from_residual.ensures.1).1 (item_full c.args.pass.fuel (mode c.args.pass.checking c.args.pass.bound) c.args.source.now.text.now c.args.source.now.kinds.now c.args.source.now.mods.now c.args.source.now.count c.args.s.now c.args.base c.args.pass.depth c.args.ks.now c.args.names.now c.args.pass.used c.args.left c.args.own.now c.args.g.now c.args.k.now c.loop-at.at c.loop-at.left c.loop-at.names c.loop-at.own c.loop-at.g c.loop-at.k c.loop-at.invariant c.loop-at-test.true c.form_end-end.result c.between-x.result.now c.form_end-end.ensures c.between-x.ensures c.collect_item.new.own c.collect_item.new.g c.collect_item.new.k c.collect_item.result c.in_err-left.was c.collect_item.ensures.ends)

pub collect_items-returns-in_err-left-clause-framed : goal.collect_items-returns-in_err-left-clause-framed
collect_items-returns-in_err-left-clause-framed t c = rw (err_from_is_err_and c.from_residual.result c.from_residual.ensures.1).1 ((framed_again c.loop-at.invariant.framed c.collect_item.ensures.framed.0, tt))

pub collect_items-returns-in_err-left-clause-walk_leaves : goal.collect_items-returns-in_err-left-clause-walk_leaves
collect_items-returns-in_err-left-clause-walk_leaves t c = rw (err_from_is_err_and c.from_residual.result c.from_residual.ensures.1).1 (walk_cleared c.collect_item.result c.args.pass.checking c.loop-at.own c.collect_item.new.own c.loop-at.g c.collect_item.new.g c.loop-at.k c.collect_item.new.k c.in_err-left.was c.collect_item.ensures.walk_leaves)

pub collect_items-returns-clause-ends : goal.collect_items-returns-clause-ends
collect_items-returns-clause-ends t c = ended c.args.pass.fuel (mode c.args.pass.checking c.args.pass.bound) c.args.source.now.text.now c.args.source.now.kinds.now c.args.source.now.mods.now c.args.source.now.count c.args.s.now c.args.base c.args.pass.depth c.args.ks.now c.args.names.now c.args.pass.used c.args.left c.args.own.now c.args.g.now c.args.k.now c.loop-at.at c.loop-at.left c.loop-at.names c.loop-at.own c.loop-at.g c.loop-at.k c.loop-at.invariant (omega (arith, c.loop-at-test.false))

pub collect_items-returns-clause-framed : goal.collect_items-returns-clause-framed
collect_items-returns-clause-framed t c = (c.loop-at.invariant.framed, c.loop-at.invariant.fewer)

pub collect_items-returns-clause-walk_leaves : goal.collect_items-returns-clause-walk_leaves
collect_items-returns-clause-walk_leaves t c = c.loop-at.invariant.sized.kept

pub comb_summary-returns-then-pass-eq0-clause-asked_for : goal.comb_summary-returns-then-pass-eq0-clause-asked_for
comb_summary-returns-then-pass-eq0-clause-asked_for t c = λ kept busy t h. spent_at c.args.source.now.text.now c.args.source.now.kinds.now c.args.source.now.mods.now c.args.source.now.count c.args.m c.args.k.now kept busy t h c.if-pass-eq0.true

pub comb_summary-returns-then-pass-eq0-clause-ask_leaves : goal.comb_summary-returns-then-pass-eq0-clause-ask_leaves
comb_summary-returns-then-pass-eq0-clause-ask_leaves t c = λ g. HeadsAdded.none

pub comb_summary-returns-then-source-m-clause-asked_for : goal.comb_summary-returns-then-source-m-clause-asked_for
comb_summary-returns-then-source-m-clause-asked_for t c = λ kept busy t h. ask_past c.args.source.now.text.now c.args.source.now.kinds.now c.args.source.now.mods.now c.args.source.now.count c.args.m c.args.k.now kept busy t h c.args.pass.fuel (omega (arith, c.if-pass-eq0.false)) (omega (arith, c.if-source-m.true))

pub comb_summary-returns-then-source-m-clause-ask_leaves : goal.comb_summary-returns-then-source-m-clause-ask_leaves
comb_summary-returns-then-source-m-clause-ask_leaves t c = λ g. HeadsAdded.none

pub comb_summary-make_summary-requires : goal.comb_summary-make_summary-requires
comb_summary-make_summary-requires t c = omega (arith, c.if-pass-eq0.false)

pub comb_summary-returns-in-Kept-clause-asked_for : goal.comb_summary-returns-in-Kept-clause-asked_for
comb_summary-returns-in-Kept-clause-asked_for t c = λ kept busy t h. ask_again c.args.source.now.text.now c.args.source.now.kinds.now c.args.source.now.mods.now c.args.source.now.count c.args.m c.args.k.now kept busy t h c.args.pass.fuel (omega (arith, c.if-pass-eq0.false)) (omega (arith, c.if-source-m.false)) c.state_of.result c.state_of.ensures c.in-Kept.is

pub comb_summary-returns-in-Kept-clause-ask_leaves : goal.comb_summary-returns-in-Kept-clause-ask_leaves
comb_summary-returns-in-Kept-clause-ask_leaves t c = λ g. HeadsAdded.none

pub comb_summary-returns-in-Busy-clause-asked_for : goal.comb_summary-returns-in-Busy-clause-asked_for
comb_summary-returns-in-Busy-clause-asked_for t c = λ kept busy t h. ask_within c.args.source.now.text.now c.args.source.now.kinds.now c.args.source.now.mods.now c.args.source.now.count c.args.m c.args.k.now kept busy t h c.args.pass.fuel (omega (arith, c.if-pass-eq0.false)) (omega (arith, c.if-source-m.false)) c.state_of.result c.state_of.ensures c.in-Busy.is

pub comb_summary-returns-in-Busy-clause-ask_leaves : goal.comb_summary-returns-in-Busy-clause-ask_leaves
comb_summary-returns-in-Busy-clause-ask_leaves t c = λ g. HeadsAdded.none

pub comb_summary-returns-in-New-clause-asked_for : goal.comb_summary-returns-in-New-clause-asked_for
comb_summary-returns-in-New-clause-asked_for t c = λ kept busy t h. ask_new c.args.source.now.text.now c.args.source.now.kinds.now c.args.source.now.mods.now c.args.source.now.count c.args.m c.args.k.now kept busy t h c.args.pass.fuel (omega (arith, c.if-pass-eq0.false)) (omega (arith, c.if-source-m.false)) c.state_of.result c.state_of.ensures c.in-New.is c.make_summary.result c.make_summary.new.k (c.make_summary.ensures.asked_for kept busy t h)

pub comb_summary-returns-in-New-clause-ask_leaves : goal.comb_summary-returns-in-New-clause-ask_leaves
comb_summary-returns-in-New-clause-ask_leaves t c = c.make_summary.ensures.ask_leaves

pub inst_edges-returns-then-is_err-clause-stepped : goal.inst_edges-returns-then-is_err-clause-stepped
inst_edges-returns-then-is_err-clause-stepped t c = λ mo own from w G. index_outside c.args.pass.fuel c.args.source.now.text.now c.args.source.now.kinds.now c.args.source.now.mods.now c.args.source.now.count c.args.x.now c.args.pass.depth c.args.ks.now c.args.names.now c.args.pass.used c.args.g.now c.args.k.now mo own from w G _ c.inst_index-index.ensures (sym (c.is_err.ensures.value ∙ outside_err c.inst_index-index.result) ∙ c.if-is_err.true)

pub inst_edges-returns-then-is_err-clause-edges_leave : goal.inst_edges-returns-then-is_err-clause-edges_leave
inst_edges-returns-then-is_err-clause-edges_leave t c = (cleared_of (length c.args.g.now) c.clear.new.g c.clear.ensures, cleared_of (length c.args.k.now) c.clear-then-is_err.new.g c.clear-then-is_err.ensures)

pub inst_edges-comb_summary-requires : goal.inst_edges-comb_summary-requires
inst_edges-comb_summary-requires t c = omega arith

pub inst_edges-returns-in-Err-clause-stepped : goal.inst_edges-returns-in-Err-clause-stepped
inst_edges-returns-in-Err-clause-stepped t c = λ mo own from w G. summary_full c.args.pass.fuel c.args.source.now.text.now c.args.source.now.kinds.now c.args.source.now.mods.now c.args.source.now.count c.args.x.now c.args.pass.depth c.args.ks.now c.args.names.now c.args.pass.used c.args.g.now c.args.k.now mo own from w G _ c.inst_index-index.ensures (sym (c.is_err.ensures.value ∙ outside_err c.inst_index-index.result) ∙ c.if-is_err.false) c.inst_module-m.result c.inst_module-m.ensures (subst (λ x. AskedFor x c.comb_summary.new.k c.inst_module-m.result w.busy (ask_walk c.args.pass.fuel (decode c.args.source.now.text.now) w.busy w.state.kept c.inst_module-m.result)) c.in-Err.is (c.comb_summary.ensures.asked_for w.state.kept w.busy G.tabled G.holding.keeps))

pub inst_edges-returns-in-Err-clause-edges_leave : goal.inst_edges-returns-in-Err-clause-edges_leave
inst_edges-returns-in-Err-clause-edges_leave t c = (cleared_of (length c.args.g.now) c.clear-in-Err.new.g c.clear-in-Err.ensures, ask_cleared c.comb_summary.result c.args.k.now c.comb_summary.new.k c.in-Err.is c.comb_summary.ensures.ask_leaves)

pub inst_edges-returns-then-not-known-clause-stepped : goal.inst_edges-returns-then-not-known-clause-stepped
inst_edges-returns-then-not-known-clause-stepped t c = λ mo own from w G. inst_stepped (worth c.inst_index-index.result) (summary_at c.comb_summary.new.k 0 0) c.args.x.now c.args.pass.depth c.args.ks.now (names_of c.args.names.now c.args.pass.used) c.args.g.now c.inst_line.new.g c.comb_summary.new.k c.inst_line.new.k (is_ok c.inst_line.result) mo c.args.source.now.text.now own w.busy _ c.inst_line.ensures.inst_leaves (summary_empty c.args.pass.fuel c.args.source.now.text.now c.args.source.now.kinds.now c.args.source.now.mods.now c.args.source.now.count c.args.x.now c.args.pass.depth c.args.ks.now c.args.names.now c.args.pass.used c.args.g.now c.args.k.now mo own from w G _ c.inst_index-index.ensures (sym (c.is_err.ensures.value ∙ outside_err c.inst_index-index.result) ∙ c.if-is_err.false) c.inst_module-m.result c.inst_module-m.ensures c.comb_summary.new.k (subst (λ x. AskedFor x c.comb_summary.new.k c.inst_module-m.result w.busy (ask_walk c.args.pass.fuel (decode c.args.source.now.text.now) w.busy w.state.kept c.inst_module-m.result)) (c.in-Ok.is ∙ ap Ok c.if-not-known.true) (c.comb_summary.ensures.asked_for w.state.kept w.busy G.tabled G.holding.keeps)) (is_ok c.inst_line.result) c.inst_line.new.g c.inst_line.ensures.inst_heads)

pub inst_edges-returns-then-not-known-clause-edges_leave : goal.inst_edges-returns-then-not-known-clause-edges_leave
inst_edges-returns-then-not-known-clause-edges_leave t c = inst_edges_left (worth c.inst_index-index.result) (summary_at c.comb_summary.new.k 0 0) c.args.x.now c.args.pass.depth c.args.ks.now (names_of c.args.names.now c.args.pass.used) c.args.g.now c.inst_line.new.g c.comb_summary.new.k c.inst_line.new.k (is_ok c.inst_line.result) c.args.k.now (ask_empty c.comb_summary.result c.args.k.now c.comb_summary.new.k (c.in-Ok.is ∙ ap Ok c.if-not-known.true) c.comb_summary.ensures.ask_leaves) c.inst_index-index.ensures (known_none c.args.x.now c.comb_summary.new.k) c.inst_line.ensures.inst_leaves

pub inst_edges-returns-clause-stepped : goal.inst_edges-returns-clause-stepped
inst_edges-returns-clause-stepped t c = λ mo own from w G. inst_stepped (worth c.inst_index-index.result) (summary_at c.comb_summary.new.k c.first-first.result c.count-pairs.result) c.args.x.now c.args.pass.depth c.args.ks.now (names_of c.args.names.now c.args.pass.used) c.args.g.now c.inst_line-2.new.g c.comb_summary.new.k c.inst_line-2.new.k (is_ok c.inst_line-2.result) mo c.args.source.now.text.now own w.busy _ c.inst_line-2.ensures.inst_leaves (summary_kept c.args.pass.fuel c.args.source.now.text.now c.args.source.now.kinds.now c.args.source.now.mods.now c.args.source.now.count c.args.x.now c.args.pass.depth c.args.ks.now c.args.names.now c.args.pass.used c.args.g.now c.args.k.now mo own from w G _ c.inst_index-index.ensures (sym (c.is_err.ensures.value ∙ outside_err c.inst_index-index.result) ∙ c.if-is_err.false) c.inst_module-m.result c.inst_module-m.ensures c.comb_summary.new.k (subst (λ x. AskedFor x c.comb_summary.new.k c.inst_module-m.result w.busy (ask_walk c.args.pass.fuel (decode c.args.source.now.text.now) w.busy w.state.kept c.inst_module-m.result)) (c.in-Ok.is ∙ ap Ok c.if-not-known.false) (c.comb_summary.ensures.asked_for w.state.kept w.busy G.tabled G.holding.keeps)) c.first-first.result c.count-pairs.result c.first-first.ensures c.count-pairs.ensures (is_ok c.inst_line-2.result) c.inst_line-2.new.g c.inst_line-2.ensures.inst_heads)

pub inst_edges-returns-clause-edges_leave : goal.inst_edges-returns-clause-edges_leave
inst_edges-returns-clause-edges_leave t c = inst_edges_left (worth c.inst_index-index.result) (summary_at c.comb_summary.new.k c.first-first.result c.count-pairs.result) c.args.x.now c.args.pass.depth c.args.ks.now (names_of c.args.names.now c.args.pass.used) c.args.g.now c.inst_line-2.new.g c.comb_summary.new.k c.inst_line-2.new.k (is_ok c.inst_line-2.result) c.args.k.now (ask_kept c.comb_summary.result c.args.k.now c.comb_summary.new.k (c.in-Ok.is ∙ ap Ok c.if-not-known.false) c.comb_summary.ensures.ask_leaves) c.inst_index-index.ensures (known_kept c.args.x.now c.comb_summary.new.k c.inst_module-m.result c.inst_module-m.ensures c.first-first.result c.count-pairs.result c.first-first.ensures c.count-pairs.ensures) c.inst_line-2.ensures.inst_leaves

pub make_summary-returns-then-source-gt32768-clause-asked_for : goal.make_summary-returns-then-source-gt32768-clause-asked_for
make_summary-returns-then-source-gt32768-clause-asked_for t c = λ kept busy t h small new free. not_long c.args.source.now.text.now c.args.source.now.kinds.now c.args.source.now.mods.now c.args.source.now.count c.args.m c.args.k.now kept busy t h c.args.pass.fuel small new free c.if-source-gt32768.true

pub make_summary-returns-then-source-gt32768-clause-ask_leaves : goal.make_summary-returns-then-source-gt32768-clause-ask_leaves
make_summary-returns-then-source-gt32768-clause-ask_leaves t c = cleared_of (length c.args.k.now) c.clear.new.g c.clear.ensures

pub make_summary-returns-in_default-clause-asked_for : goal.make_summary-returns-in_default-clause-asked_for
make_summary-returns-in_default-clause-asked_for t c = λ kept busy t h small new free. make_outside c.args.source.now.text.now c.args.source.now.kinds.now c.args.source.now.mods.now c.args.source.now.count c.args.m c.args.k.now kept busy t h c.args.pass.fuel small new free c.names_of_module.result c.names_of_module.new.names (λ x M. c.names_of_module.ensures.names_are x M (omega (arith, length-replicate {A = ℕ} 6616 0))) c.in_default.is

pub make_summary-returns-in_default-clause-ask_leaves : goal.make_summary-returns-in_default-clause-ask_leaves
make_summary-returns-in_default-clause-ask_leaves t c = cleared_of (length c.args.k.now) c.clear-in_default.new.g c.clear-in_default.ensures

pub make_summary-collect_items-requires : goal.make_summary-collect_items-requires
make_summary-collect_items-requires t c = (omega arith, omega (arith, c.if-source-gt32768.false, c.run_at.type_inv, c.run_at.ensures, run_short c.args.source.now.text.now c.args.source.now.mods.now c.args.m, ap length c.items_of_module-run.ensures))

pub make_summary-returns-in_err-collect_items-clause-asked_for : goal.make_summary-returns-in_err-collect_items-clause-asked_for
make_summary-returns-in_err-collect_items-clause-asked_for t c = rw (err_from_is_err_and c.from_residual.result c.from_residual.ensures.1).1 (λ kept busy t h small new free. make_stops c.args.source.now.text.now c.args.source.now.kinds.now c.args.source.now.mods.now c.args.source.now.count c.args.m c.args.k.now kept busy t h c.args.pass.fuel small new free c.names_of_module.result c.names_of_module.new.names (λ x M. c.names_of_module.ensures.names_are x M (omega (arith, length-replicate {A = ℕ} 6616 0))) _ c.in-Ok.is _ _ c.begin.new.k (stands_empty 16898 (omega arith)) c.begin.ensures c.items_of_module-run.result.now c.items_of_module-run.ensures c.run_at.result c.run_at.ensures c.module_kinds-ks.result.now c.module_kinds-ks.ensures c.collect_items.result c.collect_items.new.own c.collect_items.new.g c.collect_items.new.k c.collect_items.ensures.ends c.in_err-collect_items.was)

pub make_summary-returns-in_err-collect_items-clause-ask_leaves : goal.make_summary-returns-in_err-collect_items-clause-ask_leaves
make_summary-returns-in_err-collect_items-clause-ask_leaves t c = rw (err_from_is_err_and c.from_residual.result c.from_residual.ensures.1).1 ((walk_cleared c.collect_items.result false _ _ _ _ _ _ c.in_err-collect_items.was c.collect_items.ensures.walk_leaves).2)

pub make_summary-returns-clause-asked_for : goal.make_summary-returns-clause-asked_for
make_summary-returns-clause-asked_for t c = λ kept busy t h small new free. make_kept c.args.source.now.text.now c.args.source.now.kinds.now c.args.source.now.mods.now c.args.source.now.count c.args.m c.args.k.now kept busy t h c.args.pass.fuel small new free c.names_of_module.result c.names_of_module.new.names (λ x M. c.names_of_module.ensures.names_are x M (omega (arith, length-replicate {A = ℕ} 6616 0))) _ c.in-Ok.is _ _ c.begin.new.k (stands_empty 16898 (omega arith)) c.begin.ensures c.items_of_module-run.result.now c.items_of_module-run.ensures c.run_at.result c.run_at.ensures c.module_kinds-ks.result.now c.module_kinds-ks.ensures c.collect_items.result c.collect_items.new.own c.collect_items.new.g c.collect_items.new.k c.collect_items.ensures.ends _ c.in_ok-collect_items.was (is_ok c.summarise.result) c.summarise.new.k c.summarise.ensures.by_index (ap is_ok c.in_ok-summarise.was)

pub make_summary-returns-clause-ask_leaves : goal.make_summary-returns-clause-ask_leaves
make_summary-returns-clause-ask_leaves t c = made_left c.args.k.now c.begin.new.k c.collect_items.new.g c.collect_items.new.k c.summarise.new.k c.args.m c.items_of_module-run.result.now c.module_kinds-ks.result.now (is_ok c.summarise.result) c.begin.ensures (walk_kept c.collect_items.result false _ _ _ _ _ _ c.in_ok-collect_items.was c.collect_items.ensures.walk_leaves).1 (ap is_ok c.in_ok-summarise.was) c.summarise.ensures.leaves

pub make_summary-returns-in_err-summarise-clause-asked_for : goal.make_summary-returns-in_err-summarise-clause-asked_for
make_summary-returns-in_err-summarise-clause-asked_for t c = rw (err_from_is_err_and c.from_residual-in_err-summarise.result c.from_residual-in_err-summarise.ensures.1).1 (λ kept busy t h small new free. make_over c.args.source.now.text.now c.args.source.now.kinds.now c.args.source.now.mods.now c.args.source.now.count c.args.m c.args.k.now kept busy t h c.args.pass.fuel small new free c.names_of_module.result c.names_of_module.new.names (λ x M. c.names_of_module.ensures.names_are x M (omega (arith, length-replicate {A = ℕ} 6616 0))) _ c.in-Ok.is _ _ c.begin.new.k (stands_empty 16898 (omega arith)) c.begin.ensures c.items_of_module-run.result.now c.items_of_module-run.ensures c.run_at.result c.run_at.ensures c.module_kinds-ks.result.now c.module_kinds-ks.ensures c.collect_items.result c.collect_items.new.own c.collect_items.new.g c.collect_items.new.k c.collect_items.ensures.ends _ c.in_ok-collect_items.was (is_ok c.summarise.result) c.summarise.new.k c.summarise.ensures.by_index (ap is_ok c.in_err-summarise.was))

pub make_summary-returns-in_err-summarise-clause-ask_leaves : goal.make_summary-returns-in_err-summarise-clause-ask_leaves
make_summary-returns-in_err-summarise-clause-ask_leaves t c = rw (err_from_is_err_and c.from_residual-in_err-summarise.result c.from_residual-in_err-summarise.ensures.1).1 (leaves_zero (is_ok c.summarise.result) _ _ _ c.collect_items.new.k c.args.m c.summarise.new.k (ap is_ok c.in_err-summarise.was) c.summarise.ensures.leaves)

pub repeat_items-returns-then-pass-eq0-clause-ends : goal.repeat_items-returns-then-pass-eq0-clause-ends
repeat_items-returns-then-pass-eq0-clause-ends t c = not_shallow c.args.pass.fuel (mode c.args.pass.checking c.args.pass.bound) c.args.source.now.text.now c.args.source.now.kinds.now c.args.source.now.mods.now c.args.source.now.count c.args.x.now c.args.from c.args.pass.depth c.args.ks.now c.args.names.now c.args.pass.used c.args.left c.args.own.now c.args.g.now c.args.k.now c.if-pass-eq0.true

pub repeat_items-returns-then-pass-eq0-clause-framed : goal.repeat_items-returns-then-pass-eq0-clause-framed
repeat_items-returns-then-pass-eq0-clause-framed t c = (framed_same, tt)

pub repeat_items-returns-then-pass-eq0-clause-walk_leaves : goal.repeat_items-returns-then-pass-eq0-clause-walk_leaves
repeat_items-returns-then-pass-eq0-clause-walk_leaves t c = c.clear_tables.ensures

pub repeat_items-overflow_cast-base : goal.repeat_items-overflow_cast-base
repeat_items-overflow_cast-base t c = omega (arith, c.requires, c.body_at-a.ensures)

pub repeat_items-overflow_add-base : goal.repeat_items-overflow_add-base
repeat_items-overflow_add-base t c = omega (arith, c.requires, c.body_at-a.ensures)

pub repeat_items-overflow_sub-deep : goal.repeat_items-overflow_sub-deep
repeat_items-overflow_sub-deep t c = omega (arith, c.if-pass-eq0.false)

pub repeat_items-collect_items-requires : goal.repeat_items-collect_items-requires
repeat_items-collect_items-requires t c = (omega (arith, c.requires, c.if-pass-eq0.false), omega (arith, c.requires, c.body_at-a.ensures, length-drop c.body_at-a.result c.args.x.now, ap length c.rest-s.ensures))

pub repeat_items-returns-then-left-rounds-clause-ends : goal.repeat_items-returns-then-left-rounds-clause-ends
repeat_items-returns-then-left-rounds-clause-ends t c = never_short c.args.pass.fuel (mode c.args.pass.checking c.args.pass.bound) c.args.source.now.text.now c.args.source.now.kinds.now c.args.source.now.mods.now c.args.source.now.count c.args.x.now c.args.from c.args.pass.depth c.args.ks.now c.args.names.now c.args.pass.used c.args.left c.args.own.now c.args.g.now c.args.k.now c.times_of.result (c.times_of.ensures.value, (c.times_of.ensures.rounds_fit, c.times_of.ensures.result_value)) c.body_at-a.result c.body_at-a.ensures c.rest-s.result.now c.rest-s.ensures _ _ _ (c.in-Ok-Rounds.is ∙ ap Ok c.in-Ok-Rounds.field-0-is) c.if-left-rounds.true

pub repeat_items-returns-then-left-rounds-clause-framed : goal.repeat_items-returns-then-left-rounds-clause-framed
repeat_items-returns-then-left-rounds-clause-framed t c = (framed_same, tt)

pub repeat_items-returns-then-left-rounds-clause-walk_leaves : goal.repeat_items-returns-then-left-rounds-clause-walk_leaves
repeat_items-returns-then-left-rounds-clause-walk_leaves t c = c.clear_tables-then-left-rounds.ensures

pub repeat_items-returns-then-low-rounds-clause-ends : goal.repeat_items-returns-then-low-rounds-clause-ends
repeat_items-returns-then-low-rounds-clause-ends t c = never_wide c.args.pass.fuel (mode c.args.pass.checking c.args.pass.bound) c.args.source.now.text.now c.args.source.now.kinds.now c.args.source.now.mods.now c.args.source.now.count c.args.x.now c.args.from c.args.pass.depth c.args.ks.now c.args.names.now c.args.pass.used c.args.left c.args.own.now c.args.g.now c.args.k.now c.times_of.result (c.times_of.ensures.value, (c.times_of.ensures.rounds_fit, c.times_of.ensures.result_value)) c.body_at-a.result c.body_at-a.ensures c.rest-s.result.now c.rest-s.ensures _ _ _ (c.in-Ok-Rounds.is ∙ ap Ok c.in-Ok-Rounds.field-0-is) c.if-low-rounds.true

pub repeat_items-returns-then-low-rounds-clause-framed : goal.repeat_items-returns-then-low-rounds-clause-framed
repeat_items-returns-then-low-rounds-clause-framed t c = (framed_same, tt)

pub repeat_items-returns-then-low-rounds-clause-walk_leaves : goal.repeat_items-returns-then-low-rounds-clause-walk_leaves
repeat_items-returns-then-low-rounds-clause-walk_leaves t c = c.clear_tables-then-low-rounds.ensures

pub repeat_items-repeat_rounds-requires : goal.repeat_items-repeat_rounds-requires
repeat_items-repeat_rounds-requires t c = (omega (arith, c.requires, c.if-pass-eq0.false), (omega (arith, c.requires, c.body_at-a.ensures, length-drop c.body_at-a.result c.args.x.now, ap length c.rest-s.ensures), (rw (c.in-Ok-Rounds.is ∙ ap Ok c.in-Ok-Rounds.field-0-is) at c.times_of.ensures.rounds_fit).1))

pub repeat_items-returns-in-Err-clause-ends : goal.repeat_items-returns-in-Err-clause-ends
repeat_items-returns-in-Err-clause-ends t c = bounds_outside c.args.pass.fuel (mode c.args.pass.checking c.args.pass.bound) c.args.source.now.text.now c.args.source.now.kinds.now c.args.source.now.mods.now c.args.source.now.count c.args.x.now c.args.from c.args.pass.depth c.args.ks.now c.args.names.now c.args.pass.used c.args.left c.args.own.now c.args.g.now c.args.k.now c.times_of.result (c.times_of.ensures.value, (c.times_of.ensures.rounds_fit, c.times_of.ensures.result_value)) c.in-Err.is

pub repeat_items-returns-in-Err-clause-framed : goal.repeat_items-returns-in-Err-clause-framed
repeat_items-returns-in-Err-clause-framed t c = (framed_same, tt)

pub repeat_items-returns-in-Err-clause-walk_leaves : goal.repeat_items-returns-in-Err-clause-walk_leaves
repeat_items-returns-in-Err-clause-walk_leaves t c = c.clear_tables-in-Err.ensures

pub repeat_items-returns-in-Ok-Never-clause-ends : goal.repeat_items-returns-in-Ok-Never-clause-ends
repeat_items-returns-in-Ok-Never-clause-ends t c = no_round c.args.pass.fuel (mode c.args.pass.checking c.args.pass.bound) c.args.source.now.text.now c.args.source.now.kinds.now c.args.source.now.mods.now c.args.source.now.count c.args.x.now c.args.from c.args.pass.depth c.args.ks.now c.args.names.now c.args.pass.used c.args.left c.args.own.now c.args.g.now c.args.k.now c.times_of.result (c.times_of.ensures.value, (c.times_of.ensures.rounds_fit, c.times_of.ensures.result_value)) (c.in-Ok-Never.is ∙ ap Ok c.in-Ok-Never.field-0-is)

pub repeat_items-returns-in-Ok-Never-clause-framed : goal.repeat_items-returns-in-Ok-Never-clause-framed
repeat_items-returns-in-Ok-Never-clause-framed t c = (framed_same, omega arith)

pub repeat_items-returns-in-Ok-Never-clause-walk_leaves : goal.repeat_items-returns-in-Ok-Never-clause-walk_leaves
repeat_items-returns-in-Ok-Never-clause-walk_leaves t c = filled_same c.args.pass.checking c.args.own.now c.args.g.now c.args.k.now

pub repeat_items-returns-in-Ok-Once-clause-ends : goal.repeat_items-returns-in-Ok-Once-clause-ends
repeat_items-returns-in-Ok-Once-clause-ends t c = body_once c.args.pass.fuel (mode c.args.pass.checking c.args.pass.bound) c.args.source.now.text.now c.args.source.now.kinds.now c.args.source.now.mods.now c.args.source.now.count c.args.x.now c.args.from c.args.pass.depth c.args.ks.now c.args.names.now c.args.pass.used c.args.left c.args.own.now c.args.g.now c.args.k.now c.times_of.result (c.times_of.ensures.value, (c.times_of.ensures.rounds_fit, c.times_of.ensures.result_value)) c.body_at-a.result c.body_at-a.ensures c.rest-s.result.now c.rest-s.ensures (c.in-Ok-Once.is ∙ ap Ok c.in-Ok-Once.field-0-is) c.collect_items.result c.collect_items.new.own c.collect_items.new.g c.collect_items.new.k c.collect_items.ensures.ends

pub repeat_items-returns-in-Ok-Once-clause-framed : goal.repeat_items-returns-in-Ok-Once-clause-framed
repeat_items-returns-in-Ok-Once-clause-framed t c = c.collect_items.ensures.framed

pub repeat_items-returns-in-Ok-Once-clause-walk_leaves : goal.repeat_items-returns-in-Ok-Once-clause-walk_leaves
repeat_items-returns-in-Ok-Once-clause-walk_leaves t c = c.collect_items.ensures.walk_leaves

pub repeat_items-returns-else-low-rounds-clause-ends : goal.repeat_items-returns-else-low-rounds-clause-ends
repeat_items-returns-else-low-rounds-clause-ends t c = rounds_done c.args.pass.fuel (mode c.args.pass.checking c.args.pass.bound) c.args.source.now.text.now c.args.source.now.kinds.now c.args.source.now.mods.now c.args.source.now.count c.args.x.now c.args.from c.args.pass.depth c.args.ks.now c.args.names.now c.args.pass.used c.args.left c.args.own.now c.args.g.now c.args.k.now c.times_of.result (c.times_of.ensures.value, (c.times_of.ensures.rounds_fit, c.times_of.ensures.result_value)) c.body_at-a.result c.body_at-a.ensures c.rest-s.result.now c.rest-s.ensures _ _ _ (c.in-Ok-Rounds.is ∙ ap Ok c.in-Ok-Rounds.field-0-is) c.repeat_rounds.result c.repeat_rounds.new.own c.repeat_rounds.new.g c.repeat_rounds.new.k c.repeat_rounds.ensures.ends

pub repeat_items-returns-else-low-rounds-clause-framed : goal.repeat_items-returns-else-low-rounds-clause-framed
repeat_items-returns-else-low-rounds-clause-framed t c = (c.repeat_rounds.ensures.framed.0, within_more c.repeat_rounds.result _ c.args.left (omega arith) c.repeat_rounds.ensures.framed.1)

pub repeat_items-returns-else-low-rounds-clause-walk_leaves : goal.repeat_items-returns-else-low-rounds-clause-walk_leaves
repeat_items-returns-else-low-rounds-clause-walk_leaves t c = c.repeat_rounds.ensures.walk_leaves

pub repeat_rounds-loop-i-init : goal.repeat_rounds-loop-i-init
repeat_rounds-loop-i-init t c = rounds_start c.args.pass.fuel (mode c.args.pass.checking c.args.pass.bound) c.args.source.now.text.now c.args.source.now.kinds.now c.args.source.now.mods.now c.args.source.now.count c.args.s.now c.args.base c.args.pass.depth c.args.ks.now c.args.names.now c.args.pass.used c.args.turn.name c.args.turn.low c.args.turn.rounds c.args.turn.left c.args.own.now c.args.g.now c.args.k.now

pub repeat_rounds-overflow_add-turn : goal.repeat_rounds-overflow_add-turn
repeat_rounds-overflow_add-turn t c = omega (arith, c.requires, c.loop-i-test.true)

pub repeat_rounds-returns-then-not-push-clause-ends : goal.repeat_rounds-returns-then-not-push-clause-ends
repeat_rounds-returns-then-not-push-clause-ends t c = push_held c.args.pass.fuel (mode c.args.pass.checking c.args.pass.bound) c.args.source.now.text.now c.args.source.now.kinds.now c.args.source.now.mods.now c.args.source.now.count c.args.s.now c.args.base c.args.pass.depth c.args.ks.now c.args.names.now c.args.pass.used c.args.turn.name c.args.turn.low c.args.turn.rounds c.args.turn.left c.args.own.now c.args.g.now c.args.k.now c.loop-i.i c.loop-i.left c.loop-i.names c.loop-i.own c.loop-i.g c.loop-i.k c.loop-i.invariant (sym c.push.ensures.value ∙ c.if-not-push.true)

pub repeat_rounds-returns-then-not-push-clause-framed : goal.repeat_rounds-returns-then-not-push-clause-framed
repeat_rounds-returns-then-not-push-clause-framed t c = (push_framed c.args.pass.fuel (mode c.args.pass.checking c.args.pass.bound) c.args.source.now.text.now c.args.source.now.kinds.now c.args.source.now.mods.now c.args.source.now.count c.args.s.now c.args.base c.args.pass.depth c.args.ks.now c.args.names.now c.args.pass.used c.args.turn.name c.args.turn.low c.args.turn.rounds c.args.turn.left c.args.own.now c.args.g.now c.args.k.now c.loop-i.i c.loop-i.left c.loop-i.names c.loop-i.own c.loop-i.g c.loop-i.k c.loop-i.invariant c.loop-i-test.true c.push.new.names c.push.ensures.names_after, tt)

pub repeat_rounds-returns-then-not-push-clause-walk_leaves : goal.repeat_rounds-returns-then-not-push-clause-walk_leaves
repeat_rounds-returns-then-not-push-clause-walk_leaves t c = c.clear_tables.ensures

pub repeat_rounds-overflow_add-open : goal.repeat_rounds-overflow_add-open
repeat_rounds-overflow_add-open t c = omega (arith, ltb-true c.args.pass.used (length c.loop-i.names / 2) (sym c.push.ensures.value ∙ c.if-not-push.false), c.loop-i.invariant.framed.size, c.well_formed.1.1.1.1.1.1.1.1.0.0)

pub repeat_rounds-collect_items-requires : goal.repeat_rounds-collect_items-requires
repeat_rounds-collect_items-requires t c = (omega arith, omega (arith, c.requires))

pub repeat_rounds-loop-i-preserved : goal.repeat_rounds-loop-i-preserved
repeat_rounds-loop-i-preserved t c = rounds_next c.args.pass.fuel (mode c.args.pass.checking c.args.pass.bound) c.args.source.now.text.now c.args.source.now.kinds.now c.args.source.now.mods.now c.args.source.now.count c.args.s.now c.args.base c.args.pass.depth c.args.ks.now c.args.names.now c.args.pass.used c.args.turn.name c.args.turn.low c.args.turn.rounds c.args.turn.left c.args.own.now c.args.g.now c.args.k.now c.loop-i.i c.loop-i.left c.loop-i.names c.loop-i.own c.loop-i.g c.loop-i.k c.loop-i.invariant c.loop-i-test.true c.push.new.names c.push.ensures.names_after c.collect_items.result c.collect_items.new.names c.collect_items.new.own c.collect_items.new.g c.collect_items.new.k c.collect_items.ensures.ends _ c.in_ok-left.was c.collect_items.ensures.framed.1 c.collect_items.ensures.framed.0 (record { kept = walk_kept c.collect_items.result c.args.pass.checking c.loop-i.own c.collect_items.new.own c.loop-i.g c.collect_items.new.g c.loop-i.k c.collect_items.new.k c.in_ok-left.was c.collect_items.ensures.walk_leaves; own_size = c.collect_items.auto.own; g_size = c.collect_items.auto.g; k_size = c.collect_items.auto.k })

pub repeat_rounds-returns-in_err-left-clause-ends : goal.repeat_rounds-returns-in_err-left-clause-ends
repeat_rounds-returns-in_err-left-clause-ends t c = rw (err_from_is_err_and c.from_residual.result c.from_residual.ensures.1).1 (rounds_full c.args.pass.fuel (mode c.args.pass.checking c.args.pass.bound) c.args.source.now.text.now c.args.source.now.kinds.now c.args.source.now.mods.now c.args.source.now.count c.args.s.now c.args.base c.args.pass.depth c.args.ks.now c.args.names.now c.args.pass.used c.args.turn.name c.args.turn.low c.args.turn.rounds c.args.turn.left c.args.own.now c.args.g.now c.args.k.now c.loop-i.i c.loop-i.left c.loop-i.names c.loop-i.own c.loop-i.g c.loop-i.k c.loop-i.invariant c.loop-i-test.true c.push.new.names c.push.ensures.names_after c.collect_items.result c.collect_items.new.names c.collect_items.new.own c.collect_items.new.g c.collect_items.new.k c.collect_items.ensures.ends c.in_err-left.was)

pub repeat_rounds-returns-in_err-left-clause-framed : goal.repeat_rounds-returns-in_err-left-clause-framed
repeat_rounds-returns-in_err-left-clause-framed t c = rw (err_from_is_err_and c.from_residual.result c.from_residual.ensures.1).1 ((rounds_framed c.args.pass.fuel (mode c.args.pass.checking c.args.pass.bound) c.args.source.now.text.now c.args.source.now.kinds.now c.args.source.now.mods.now c.args.source.now.count c.args.s.now c.args.base c.args.pass.depth c.args.ks.now c.args.names.now c.args.pass.used c.args.turn.name c.args.turn.low c.args.turn.rounds c.args.turn.left c.args.own.now c.args.g.now c.args.k.now c.loop-i.i c.loop-i.left c.loop-i.names c.loop-i.own c.loop-i.g c.loop-i.k c.loop-i.invariant c.loop-i-test.true c.push.new.names c.push.ensures.names_after c.collect_items.result c.collect_items.new.names c.collect_items.new.own c.collect_items.new.g c.collect_items.new.k c.collect_items.ensures.ends c.collect_items.ensures.framed.0, tt))

pub repeat_rounds-returns-in_err-left-clause-walk_leaves : goal.repeat_rounds-returns-in_err-left-clause-walk_leaves
repeat_rounds-returns-in_err-left-clause-walk_leaves t c = rw (err_from_is_err_and c.from_residual.result c.from_residual.ensures.1).1 (walk_cleared c.collect_items.result c.args.pass.checking c.loop-i.own c.collect_items.new.own c.loop-i.g c.collect_items.new.g c.loop-i.k c.collect_items.new.k c.in_err-left.was c.collect_items.ensures.walk_leaves)

pub repeat_rounds-returns-clause-ends : goal.repeat_rounds-returns-clause-ends
repeat_rounds-returns-clause-ends t c = rounds_end c.args.pass.fuel (mode c.args.pass.checking c.args.pass.bound) c.args.source.now.text.now c.args.source.now.kinds.now c.args.source.now.mods.now c.args.source.now.count c.args.s.now c.args.base c.args.pass.depth c.args.ks.now c.args.names.now c.args.pass.used c.args.turn.name c.args.turn.low c.args.turn.rounds c.args.turn.left c.args.own.now c.args.g.now c.args.k.now c.loop-i.i c.loop-i.left c.loop-i.names c.loop-i.own c.loop-i.g c.loop-i.k c.loop-i.invariant (omega (arith, c.loop-i-test.false))

pub repeat_rounds-returns-clause-framed : goal.repeat_rounds-returns-clause-framed
repeat_rounds-returns-clause-framed t c = (c.loop-i.invariant.framed, c.loop-i.invariant.fewer)

pub repeat_rounds-returns-clause-walk_leaves : goal.repeat_rounds-returns-clause-walk_leaves
repeat_rounds-returns-clause-walk_leaves t c = c.loop-i.invariant.sized.kept
