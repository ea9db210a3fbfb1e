use Rattle.lines.proofs.KindLaws.{byte_none, byte_is, in_or_inst}
use Rattle.lines.specs.declared.kinds.Kind.TheVariants.{Out, Wire, Reg, Mem}
use mathlib.Core.Logic.{inl}
use native.Mathlib.Omega.{arith}
use lib.ListN.{get_or}
use Rattle.items.proofs.AddedLaws.{drive_output, drive_wire, drive_reg, drive_mem, drive_none, undriven}
use Rattle.items.proofs.Places.{named_means}
use mathlib.Core.Path.{refl}
use Rattle.consteval.specs.Worth.{names_of}
use Rattle.items.proofs.DriveLaws.{line_output, line_other, line_wire, line_reg, line_mem}
use Rattle.std.specs.Prelude.{is_ok}
use Rattle.items.proofs.drive.Goals as goal

pub returns-in-Out-clause-drive_line : goal.returns-in-Out-clause-drive_line
returns-in-Out-clause-drive_line c = line_output c.args.x.now c.args.bound c.args.depth c.args.scope.kinds.now (names_of c.args.scope.names.now c.args.scope.used) c.args.own.now c.part_end.ensures c.between-lv.ensures c.named_at-l.result (named_means _ _ c.named_at-l.ensures) refl (byte_is _ c.kind_at.ensures c.in-Some.is Out c.in-Out.is) (is_ok c.drive_output.result) _ c.drive_output.ensures.drive_output

pub returns-in-Out-clause-own_len_unchanged : goal.returns-in-Out-clause-own_len_unchanged
returns-in-Out-clause-own_len_unchanged c = c.drive_output.ensures.own_len_unchanged

pub returns-in-Out-clause-own_leaves : goal.returns-in-Out-clause-own_leaves
returns-in-Out-clause-own_leaves c = drive_output c.args.x.now c.args.bound c.args.depth c.args.scope.kinds.now (names_of c.args.scope.names.now c.args.scope.used) c.args.own.now c.part_end.ensures c.between-lv.ensures c.named_at-l.result c.named_at-l.ensures refl (byte_is _ c.kind_at.ensures c.in-Some.is Out c.in-Out.is) (is_ok c.drive_output.result) _ c.drive_output.ensures.own_leaves

pub returns-in-Wire-clause-drive_line : goal.returns-in-Wire-clause-drive_line
returns-in-Wire-clause-drive_line c = line_wire c.args.x.now c.args.bound c.args.depth c.args.scope.kinds.now (names_of c.args.scope.names.now c.args.scope.used) c.args.own.now c.part_end.ensures c.between-lv.ensures c.named_at-l.result (named_means _ _ c.named_at-l.ensures) refl _ c.add_misuse.ensures.own_len_unchanged (byte_is _ c.kind_at.ensures c.in-Some.is Wire c.in-Wire.is) c.add_misuse.ensures.own_after

pub returns-in-Wire-clause-own_len_unchanged : goal.returns-in-Wire-clause-own_len_unchanged
returns-in-Wire-clause-own_len_unchanged c = c.add_misuse.ensures.own_len_unchanged

pub returns-in-Wire-clause-own_leaves : goal.returns-in-Wire-clause-own_leaves
returns-in-Wire-clause-own_leaves c = drive_wire c.args.x.now c.args.bound c.args.depth c.args.scope.kinds.now (names_of c.args.scope.names.now c.args.scope.used) c.args.own.now c.part_end.ensures c.between-lv.ensures c.named_at-l.result c.named_at-l.ensures refl (byte_is _ c.kind_at.ensures c.in-Some.is Wire c.in-Wire.is) c.add_misuse.ensures.own_after_2

pub returns-in-Reg-clause-drive_line : goal.returns-in-Reg-clause-drive_line
returns-in-Reg-clause-drive_line c = line_reg c.args.x.now c.args.bound c.args.depth c.args.scope.kinds.now (names_of c.args.scope.names.now c.args.scope.used) c.args.own.now c.part_end.ensures c.between-lv.ensures c.named_at-l.result (named_means _ _ c.named_at-l.ensures) refl _ c.add_misuse-in-Reg.ensures.own_len_unchanged (byte_is _ c.kind_at.ensures c.in-Some.is Reg c.in-Reg.is) c.add_misuse-in-Reg.ensures.own_after

pub returns-in-Reg-clause-own_len_unchanged : goal.returns-in-Reg-clause-own_len_unchanged
returns-in-Reg-clause-own_len_unchanged c = c.add_misuse-in-Reg.ensures.own_len_unchanged

pub returns-in-Reg-clause-own_leaves : goal.returns-in-Reg-clause-own_leaves
returns-in-Reg-clause-own_leaves c = drive_reg c.args.x.now c.args.bound c.args.depth c.args.scope.kinds.now (names_of c.args.scope.names.now c.args.scope.used) c.args.own.now c.part_end.ensures c.between-lv.ensures c.named_at-l.result c.named_at-l.ensures refl (byte_is _ c.kind_at.ensures c.in-Some.is Reg c.in-Reg.is) c.add_misuse-in-Reg.ensures.own_after_2

pub returns-in-Mem-clause-drive_line : goal.returns-in-Mem-clause-drive_line
returns-in-Mem-clause-drive_line c = line_mem c.args.x.now c.args.bound c.args.depth c.args.scope.kinds.now (names_of c.args.scope.names.now c.args.scope.used) c.args.own.now c.part_end.ensures c.between-lv.ensures c.named_at-l.result (named_means _ _ c.named_at-l.ensures) refl _ c.add_misuse-in-Mem.ensures.own_len_unchanged (byte_is _ c.kind_at.ensures c.in-Some.is Mem c.in-Mem.is) c.add_misuse-in-Mem.ensures.own_after

pub returns-in-Mem-clause-own_len_unchanged : goal.returns-in-Mem-clause-own_len_unchanged
returns-in-Mem-clause-own_len_unchanged c = c.add_misuse-in-Mem.ensures.own_len_unchanged

pub returns-in-Mem-clause-own_leaves : goal.returns-in-Mem-clause-own_leaves
returns-in-Mem-clause-own_leaves c = drive_mem c.args.x.now c.args.bound c.args.depth c.args.scope.kinds.now (names_of c.args.scope.names.now c.args.scope.used) c.args.own.now c.part_end.ensures c.between-lv.ensures c.named_at-l.result c.named_at-l.ensures refl (byte_is _ c.kind_at.ensures c.in-Some.is Mem c.in-Mem.is) c.add_misuse-in-Mem.ensures.own_after_2

pub returns-in_default-clause-drive_line : goal.returns-in_default-clause-drive_line
returns-in_default-clause-drive_line c = line_other c.args.x.now c.args.bound c.args.depth c.args.scope.kinds.now (names_of c.args.scope.names.now c.args.scope.used) c.args.own.now c.part_end.ensures c.between-lv.ensures c.named_at-l.result (named_means _ _ c.named_at-l.ensures) refl (undriven (get_or c.args.scope.kinds.now c.named_at-l.result.name 0) (inl (omega (arith, byte_none (get_or c.args.scope.kinds.now c.named_at-l.result.name 0) c.kind_at.ensures c.in_default.is))))

pub returns-in_default-clause-own_leaves : goal.returns-in_default-clause-own_leaves
returns-in_default-clause-own_leaves c = drive_none c.args.x.now c.args.bound c.args.depth c.args.scope.kinds.now (names_of c.args.scope.names.now c.args.scope.used) c.args.own.now c.part_end.ensures c.between-lv.ensures c.named_at-l.result c.named_at-l.ensures refl (undriven (get_or c.args.scope.kinds.now c.named_at-l.result.name 0) (inl (omega (arith, byte_none (get_or c.args.scope.kinds.now c.named_at-l.result.name 0) c.kind_at.ensures c.in_default.is))))

pub returns-in-In-clause-drive_line : goal.returns-in-In-clause-drive_line
returns-in-In-clause-drive_line c = line_other c.args.x.now c.args.bound c.args.depth c.args.scope.kinds.now (names_of c.args.scope.names.now c.args.scope.used) c.args.own.now c.part_end.ensures c.between-lv.ensures c.named_at-l.result (named_means _ _ c.named_at-l.ensures) refl (undriven (get_or c.args.scope.kinds.now c.named_at-l.result.name 0) (in_or_inst (get_or c.args.scope.kinds.now c.named_at-l.result.name 0) c.kind_at.ensures c.in-Some.is c.in-In.is))

pub returns-in-In-clause-own_leaves : goal.returns-in-In-clause-own_leaves
returns-in-In-clause-own_leaves c = drive_none c.args.x.now c.args.bound c.args.depth c.args.scope.kinds.now (names_of c.args.scope.names.now c.args.scope.used) c.args.own.now c.part_end.ensures c.between-lv.ensures c.named_at-l.result c.named_at-l.ensures refl (undriven (get_or c.args.scope.kinds.now c.named_at-l.result.name 0) (in_or_inst (get_or c.args.scope.kinds.now c.named_at-l.result.name 0) c.kind_at.ensures c.in-Some.is c.in-In.is))
