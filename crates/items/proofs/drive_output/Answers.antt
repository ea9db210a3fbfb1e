use lib.ListN.{length}
use Rattle.consteval.specs.Worth.{names_of}
use Rattle.items.proofs.AddedLaws.{driven_done, driven_full, driven_outside}
use Rattle.items.proofs.DriveLaws.{output_outside, output_done, output_full}
use Rattle.spec.proofs.Cleared.{cleared_of}
use Rattle.items.proofs.drive_output.Goals as goal

pub returns-in-Ok-add_site-clause-drive_output : goal.returns-in-Ok-add_site-clause-drive_output
returns-in-Ok-add_site-clause-drive_output c = output_done c.args.lv.now c.args.l c.args.bound c.args.depth (names_of c.args.names.now c.args.used) c.lvalue_extent.result c.lvalue_extent.ensures.extent_is c.args.own.now _ _ c.in-Ok.is c.add_site.result c.add_site.ensures.own_len_unchanged c.add_site.ensures.own_after c.in-Ok-add_site.is

pub returns-in-Ok-add_site-clause-own_leaves : goal.returns-in-Ok-add_site-clause-own_leaves
returns-in-Ok-add_site-clause-own_leaves c = driven_done c.args.lv.now c.args.l c.args.bound c.args.depth (names_of c.args.names.now c.args.used) c.args.own.now c.lvalue_extent.result c.lvalue_extent.ensures.extent_is _ c.in-Ok.is c.add_site.result _ c.add_site.ensures.own_after_2 c.in-Ok-add_site.is

pub returns-in-Err-clause-drive_output : goal.returns-in-Err-clause-drive_output
returns-in-Err-clause-drive_output c = output_full c.args.lv.now c.args.l c.args.bound c.args.depth (names_of c.args.names.now c.args.used) c.lvalue_extent.result c.lvalue_extent.ensures.extent_is c.args.own.now c.add_site.new.own _ c.in-Ok.is c.add_site.result c.add_site.ensures.own_len_unchanged c.add_site.ensures.own_after c.in-Err.is

pub returns-in-Err-clause-own_leaves : goal.returns-in-Err-clause-own_leaves
returns-in-Err-clause-own_leaves c = driven_full c.args.lv.now c.args.l c.args.bound c.args.depth (names_of c.args.names.now c.args.used) c.args.own.now c.lvalue_extent.result c.lvalue_extent.ensures.extent_is _ c.in-Ok.is c.add_site.result _ c.add_site.ensures.own_after_2 c.in-Err.is _ (cleared_of (length c.add_site.new.own) _ c.clear-in-Err.ensures)

pub returns-in_default-clause-drive_output : goal.returns-in_default-clause-drive_output
returns-in_default-clause-drive_output c = output_outside c.args.lv.now c.args.l c.args.bound c.args.depth (names_of c.args.names.now c.args.used) c.lvalue_extent.result c.lvalue_extent.ensures.extent_is c.args.own.now c.args.own.now c.in_default.is

pub returns-in_default-clause-own_leaves : goal.returns-in_default-clause-own_leaves
returns-in_default-clause-own_leaves c = driven_outside c.args.lv.now c.args.l c.args.bound c.args.depth (names_of c.args.names.now c.args.used) c.args.own.now c.lvalue_extent.result c.lvalue_extent.ensures.extent_is c.in_default.is _ (cleared_of (length c.args.own.now) _ c.clear.ensures)
