use mathlib.Core.Path.{◌∙◌}
use Rattle.lines.proofs.Laws.{lookup_out}
use Rattle.lines.specs.Parse.{width_shape, widths, no_shape, lookup_key, key, code_after}
use Rattle.lines.proofs.parse.width_shape.Goals as goal

pub returns-in-26417252148 : goal.returns-in-26417252148
unfolding width_shape widths lookup_key key code_after
returns-in-26417252148 c = rw c.in-26417252148.is c.fixed.ensures

pub returns-in-2030344704775750 : goal.returns-in-2030344704775750
unfolding width_shape widths lookup_key key code_after
returns-in-2030344704775750 c = rw c.in-2030344704775750.is c.fixed-in-2030344704775750.ensures

pub returns-in_default : goal.returns-in_default
unfolding width_shape widths key code_after
returns-in_default c = c.no_shape.ensures ∙ (lookup_out (Unit {0}) widths no_shape _ c.in_default.in_default-own.rest).1
