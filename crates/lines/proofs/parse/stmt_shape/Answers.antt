use mathlib.Core.Path.{◌∙◌}
use Rattle.lines.proofs.Laws.{lookup_out}
use Rattle.lines.specs.Parse.{stmt_shape, stmts, no_shape, lookup_key, key, code_after}
use Rattle.lines.proofs.parse.stmt_shape.Goals as goal

pub returns-in-121001795 : goal.returns-in-121001795
unfolding stmt_shape stmts lookup_key key code_after
returns-in-121001795 c = rw c.in-121001795.is c.fixed.ensures

pub returns-in-452143809075529543 : goal.returns-in-452143809075529543
unfolding stmt_shape stmts lookup_key key code_after
returns-in-452143809075529543 c = rw c.in-452143809075529543.is c.fixed-in-452143809075529543.ensures

pub returns-in-29107877636 : goal.returns-in-29107877636
unfolding stmt_shape stmts lookup_key key code_after
returns-in-29107877636 c = rw c.in-29107877636.is c.behind.ensures

pub returns-in-32053286628 : goal.returns-in-32053286628
unfolding stmt_shape stmts lookup_key key code_after
returns-in-32053286628 c = rw c.in-32053286628.is c.fixed-in-32053286628.ensures

pub returns-in_default : goal.returns-in_default
unfolding stmt_shape stmts key code_after
returns-in_default c = c.no_shape.ensures ∙ (lookup_out (Unit {0}) stmts no_shape _ c.in_default.in_default-own.rest).1
