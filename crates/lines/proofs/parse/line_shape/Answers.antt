use mathlib.Core.Path.{◌∙◌}
use Rattle.lines.proofs.Laws.{lookup_out}
use Rattle.lines.specs.Parse.{line_shape, item_shape, headers, lookup_key, key, code_after}
use Rattle.lines.proofs.parse.line_shape.Goals as goal

pub returns-in-1925203107432022 : goal.returns-in-1925203107432022
unfolding line_shape headers lookup_key key code_after
returns-in-1925203107432022 c = rw c.in-1925203107432022.is c.fixed.ensures

pub returns-in-28833146436 : goal.returns-in-28833146436
unfolding line_shape headers lookup_key key code_after
returns-in-28833146436 c = rw c.in-28833146436.is c.fixed-in-28833146436.ensures

pub returns-in-124131011 : goal.returns-in-124131011
unfolding line_shape headers lookup_key key code_after
returns-in-124131011 c = rw c.in-124131011.is c.fixed-in-124131011.ensures

pub returns-in_default : goal.returns-in_default
unfolding line_shape headers key code_after
returns-in_default c = c.item_shape.ensures ∙ (lookup_out (Unit {0}) headers (item_shape c.args.key) _ c.in_default.in_default-own.rest).1
