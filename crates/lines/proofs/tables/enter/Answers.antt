use mathlib.Core.Path.{refl}
use native.Mathlib.Omega.{arith}
use lib.ListN.{length-set}
use Rattle.lines.proofs.tables.enter.Goals as goal

pub overflow_mul-mods : goal.overflow_mul-mods
overflow_mul-mods c = omega arith

pub offset_bounds-mods-m : goal.offset_bounds-mods-m
offset_bounds-mods-m c = omega arith

pub bounds-mods-m : goal.bounds-mods-m
bounds-mods-m c = omega arith

pub overflow_mul-mods-2 : goal.overflow_mul-mods-2
overflow_mul-mods-2 c = omega arith

pub overflow_add-mods : goal.overflow_add-mods
overflow_add-mods c = omega arith

pub offset_bounds-mods-m-2 : goal.offset_bounds-mods-m-2
offset_bounds-mods-m-2 c = omega arith

pub bounds-mods-m-2 : goal.bounds-mods-m-2
bounds-mods-m-2 c = simp length-set (omega arith)

pub overflow_mul-mods-3 : goal.overflow_mul-mods-3
overflow_mul-mods-3 c = omega arith

pub overflow_add-mods-2 : goal.overflow_add-mods-2
overflow_add-mods-2 c = omega arith

pub offset_bounds-mods-m-3 : goal.offset_bounds-mods-m-3
offset_bounds-mods-m-3 c = omega arith

pub bounds-mods-m-3 : goal.bounds-mods-m-3
bounds-mods-m-3 c = simp length-set (omega arith)

pub overflow_mul-mods-4 : goal.overflow_mul-mods-4
overflow_mul-mods-4 c = omega arith

pub overflow_add-mods-3 : goal.overflow_add-mods-3
overflow_add-mods-3 c = omega arith

pub offset_bounds-mods-m-4 : goal.offset_bounds-mods-m-4
offset_bounds-mods-m-4 c = omega arith

pub bounds-mods-m-4 : goal.bounds-mods-m-4
bounds-mods-m-4 c = simp length-set (omega arith)

pub returns : goal.returns
returns c = refl
