use Rattle.lines.proofs.KindLaws.{byte_none, in_or_inst, out_or_wire, reg_or_mem}
use mathlib.Core.Logic.{inl}
use native.Mathlib.Omega.{arith}
use lib.ListN.{get_or}
use Rattle.items.proofs.AddedLaws.{set_none, set_misused, set_stored, set_refused, undriven}
use Rattle.items.proofs.Places.{named_means}
use mathlib.Core.Path.{refl, ◌∙◌}
use lib.ListN.{length}
use Rattle.items.proofs.BlockLaws.{set_apart, set_arrow, set_done, set_full}
use Rattle.spec.proofs.Cleared.{cleared_of}
use Rattle.items.proofs.set_stmt.Goals as goal

pub returns-in_default-clause-set_after : goal.returns-in_default-clause-set_after
returns-in_default-clause-set_after c = set_apart c.args.s.now c.args.block c.args.kinds.now c.args.own.now c.named_at-l.result (named_means _ _ c.named_at-l.ensures) refl (inl (omega (arith, byte_none (get_or c.args.kinds.now c.named_at-l.result.name 0) c.kind_at.ensures c.in_default.is)))

pub returns-in_default-clause-own_len_unchanged : goal.returns-in_default-clause-own_len_unchanged
returns-in_default-clause-own_len_unchanged c = refl

pub returns-in_default-clause-own_leaves : goal.returns-in_default-clause-own_leaves
returns-in_default-clause-own_leaves c = set_none c.args.s.now c.args.block c.args.kinds.now c.args.own.now c.named_at-l.result c.named_at-l.ensures refl (undriven (get_or c.args.kinds.now c.named_at-l.result.name 0) (inl (omega (arith, byte_none (get_or c.args.kinds.now c.named_at-l.result.name 0) c.kind_at.ensures c.in_default.is))))

pub returns-in-Out-clause-set_after : goal.returns-in-Out-clause-set_after
returns-in-Out-clause-set_after c = set_arrow c.args.s.now c.args.block c.args.kinds.now c.args.own.now c.named_at-l.result (named_means _ _ c.named_at-l.ensures) refl _ c.add_misuse.ensures.own_len_unchanged c.add_misuse.ensures.own_after (out_or_wire (get_or c.args.kinds.now c.named_at-l.result.name 0) c.kind_at.ensures c.in-Some.is c.in-Out.is).0 (out_or_wire (get_or c.args.kinds.now c.named_at-l.result.name 0) c.kind_at.ensures c.in-Some.is c.in-Out.is).1

pub returns-in-Out-clause-own_len_unchanged : goal.returns-in-Out-clause-own_len_unchanged
returns-in-Out-clause-own_len_unchanged c = c.add_misuse.ensures.own_len_unchanged

pub returns-in-Out-clause-own_leaves : goal.returns-in-Out-clause-own_leaves
returns-in-Out-clause-own_leaves c = set_misused c.args.s.now c.args.block c.args.kinds.now c.args.own.now c.named_at-l.result c.named_at-l.ensures refl (out_or_wire (get_or c.args.kinds.now c.named_at-l.result.name 0) c.kind_at.ensures c.in-Some.is c.in-Out.is).0 (out_or_wire (get_or c.args.kinds.now c.named_at-l.result.name 0) c.kind_at.ensures c.in-Some.is c.in-Out.is).1 c.add_misuse.ensures.own_after_2

pub returns-in-In-clause-set_after : goal.returns-in-In-clause-set_after
returns-in-In-clause-set_after c = set_apart c.args.s.now c.args.block c.args.kinds.now c.args.own.now c.named_at-l.result (named_means _ _ c.named_at-l.ensures) refl (in_or_inst (get_or c.args.kinds.now c.named_at-l.result.name 0) c.kind_at.ensures c.in-Some.is c.in-In.is)

pub returns-in-In-clause-own_len_unchanged : goal.returns-in-In-clause-own_len_unchanged
returns-in-In-clause-own_len_unchanged c = refl

pub returns-in-In-clause-own_leaves : goal.returns-in-In-clause-own_leaves
returns-in-In-clause-own_leaves c = set_none c.args.s.now c.args.block c.args.kinds.now c.args.own.now c.named_at-l.result c.named_at-l.ensures refl (undriven (get_or c.args.kinds.now c.named_at-l.result.name 0) (in_or_inst (get_or c.args.kinds.now c.named_at-l.result.name 0) c.kind_at.ensures c.in-Some.is c.in-In.is))

pub returns-in-Ok-clause-set_after : goal.returns-in-Ok-clause-set_after
returns-in-Ok-clause-set_after c = set_done c.args.s.now c.args.block c.args.kinds.now c.args.own.now c.named_at-l.result (named_means _ _ c.named_at-l.ensures) refl _ c.add_pair.ensures.own_len_unchanged c.add_pair.result c.add_pair.ensures.own_after (reg_or_mem (get_or c.args.kinds.now c.named_at-l.result.name 0) c.kind_at.ensures c.in-Some.is c.in-Reg.is).0 (reg_or_mem (get_or c.args.kinds.now c.named_at-l.result.name 0) c.kind_at.ensures c.in-Some.is c.in-Reg.is).1 c.in-Ok.is

pub returns-in-Ok-clause-own_len_unchanged : goal.returns-in-Ok-clause-own_len_unchanged
returns-in-Ok-clause-own_len_unchanged c = c.add_pair.ensures.own_len_unchanged

pub returns-in-Ok-clause-own_leaves : goal.returns-in-Ok-clause-own_leaves
returns-in-Ok-clause-own_leaves c = set_stored c.args.s.now c.args.block c.args.kinds.now c.args.own.now c.named_at-l.result c.named_at-l.ensures refl (reg_or_mem (get_or c.args.kinds.now c.named_at-l.result.name 0) c.kind_at.ensures c.in-Some.is c.in-Reg.is).0 (reg_or_mem (get_or c.args.kinds.now c.named_at-l.result.name 0) c.kind_at.ensures c.in-Some.is c.in-Reg.is).1 c.add_pair.result _ c.add_pair.ensures.own_after_2 c.in-Ok.is

pub returns-in-Err-clause-set_after : goal.returns-in-Err-clause-set_after
returns-in-Err-clause-set_after c = set_full c.args.s.now c.args.block c.args.kinds.now c.args.own.now c.named_at-l.result (named_means _ _ c.named_at-l.ensures) refl c.add_pair.new.own c.add_pair.ensures.own_len_unchanged c.add_pair.result c.add_pair.ensures.own_after (reg_or_mem (get_or c.args.kinds.now c.named_at-l.result.name 0) c.kind_at.ensures c.in-Some.is c.in-Reg.is).0 (reg_or_mem (get_or c.args.kinds.now c.named_at-l.result.name 0) c.kind_at.ensures c.in-Some.is c.in-Reg.is).1 c.in-Err.is

pub returns-in-Err-clause-own_len_unchanged : goal.returns-in-Err-clause-own_len_unchanged
returns-in-Err-clause-own_len_unchanged c = c.clear.auto.own ∙ c.add_pair.ensures.own_len_unchanged

pub returns-in-Err-clause-own_leaves : goal.returns-in-Err-clause-own_leaves
returns-in-Err-clause-own_leaves c = set_refused c.args.s.now c.args.block c.args.kinds.now c.args.own.now c.named_at-l.result c.named_at-l.ensures refl (reg_or_mem (get_or c.args.kinds.now c.named_at-l.result.name 0) c.kind_at.ensures c.in-Some.is c.in-Reg.is).0 (reg_or_mem (get_or c.args.kinds.now c.named_at-l.result.name 0) c.kind_at.ensures c.in-Some.is c.in-Reg.is).1 c.add_pair.result _ c.add_pair.ensures.own_after_2 c.in-Err.is _ (cleared_of (length c.add_pair.new.own) _ c.clear.ensures)
