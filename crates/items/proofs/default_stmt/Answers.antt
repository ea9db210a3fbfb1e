use Rattle.lines.proofs.KindLaws.{not_reg, is_reg}
use lib.ListN.{get_or}
use Rattle.items.proofs.AddedLaws.{default_none, default_stored, default_refused}
use Rattle.items.proofs.Places.{number_means}
use mathlib.Core.Path.{refl, ◌∙◌}
use lib.ListN.{length}
use Rattle.items.proofs.BlockLaws.{default_other, default_done, default_full}
use Rattle.spec.proofs.Cleared.{cleared_of}
use Rattle.items.proofs.default_stmt.Goals as goal

pub returns-then-ne-clause-default_after : goal.returns-then-ne-clause-default_after
returns-then-ne-clause-default_after c = default_other c.args.s.now c.args.block c.args.kinds.now c.args.own.now c.part_end.ensures (number_means _ _ _ c.number-n.ensures) refl (not_reg (get_or c.args.kinds.now c.number-n.result 0) c.kind_at.ensures c.ne.ensures c.if-ne.true)

pub returns-then-ne-clause-own_len_unchanged : goal.returns-then-ne-clause-own_len_unchanged
returns-then-ne-clause-own_len_unchanged c = refl

pub returns-then-ne-clause-own_leaves : goal.returns-then-ne-clause-own_leaves
returns-then-ne-clause-own_leaves c = default_none c.args.s.now c.args.block c.args.kinds.now c.args.own.now c.part_end.ensures c.number-n.ensures refl (not_reg (get_or c.args.kinds.now c.number-n.result 0) c.kind_at.ensures c.ne.ensures c.if-ne.true)

pub returns-in-Ok-clause-default_after : goal.returns-in-Ok-clause-default_after
returns-in-Ok-clause-default_after c = default_done c.args.s.now c.args.block c.args.kinds.now c.args.own.now c.part_end.ensures (number_means _ _ _ c.number-n.ensures) refl (is_reg (get_or c.args.kinds.now c.number-n.result 0) c.kind_at.ensures c.ne.ensures c.if-ne.false) _ c.add_pair.ensures.own_len_unchanged c.add_pair.result c.add_pair.ensures.own_after c.in-Ok.is

pub returns-in-Ok-clause-own_len_unchanged : goal.returns-in-Ok-clause-own_len_unchanged
returns-in-Ok-clause-own_len_unchanged c = c.add_pair.ensures.own_len_unchanged

pub returns-in-Ok-clause-own_leaves : goal.returns-in-Ok-clause-own_leaves
returns-in-Ok-clause-own_leaves c = default_stored c.args.s.now c.args.block c.args.kinds.now c.args.own.now c.part_end.ensures c.number-n.ensures refl (is_reg (get_or c.args.kinds.now c.number-n.result 0) c.kind_at.ensures c.ne.ensures c.if-ne.false) c.add_pair.result _ c.add_pair.ensures.own_after_2 c.in-Ok.is

pub returns-in-Err-clause-default_after : goal.returns-in-Err-clause-default_after
returns-in-Err-clause-default_after c = default_full c.args.s.now c.args.block c.args.kinds.now c.args.own.now c.part_end.ensures (number_means _ _ _ c.number-n.ensures) refl (is_reg (get_or c.args.kinds.now c.number-n.result 0) c.kind_at.ensures c.ne.ensures c.if-ne.false) c.add_pair.new.own c.add_pair.ensures.own_len_unchanged c.add_pair.result c.add_pair.ensures.own_after c.in-Err.is

pub returns-in-Err-clause-own_len_unchanged : goal.returns-in-Err-clause-own_len_unchanged
returns-in-Err-clause-own_len_unchanged c = c.clear.auto.own ∙ c.add_pair.ensures.own_len_unchanged

pub returns-in-Err-clause-own_leaves : goal.returns-in-Err-clause-own_leaves
returns-in-Err-clause-own_leaves c = default_refused c.args.s.now c.args.block c.args.kinds.now c.args.own.now c.part_end.ensures c.number-n.ensures refl (is_reg (get_or c.args.kinds.now c.number-n.result 0) c.kind_at.ensures c.ne.ensures c.if-ne.false) c.add_pair.result _ c.add_pair.ensures.own_after_2 c.in-Err.is _ (cleared_of (length c.add_pair.new.own) _ c.clear.ensures)
