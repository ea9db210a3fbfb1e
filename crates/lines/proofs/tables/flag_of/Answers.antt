use borrow.Author.Tests.{eq-eqb, ne_eqb}
use Rattle.lines.specs.Parse.{key, code_after}
use Rattle.lines.specs.Tables.{flag_of}
use Rattle.lines.proofs.tables.flag_of.Goals as goal

pub returns-then-key-eq-BOUND : goal.returns-then-key-eq-BOUND
unfolding flag_of key code_after
returns-then-key-eq-BOUND c = rw (eq-eqb _ _ c.if-key-eq-BOUND.true, flag_of)

pub returns-else-key-eq-BOUND : goal.returns-else-key-eq-BOUND
unfolding flag_of key code_after
returns-else-key-eq-BOUND c = rw (ne_eqb _ _ c.if-key-eq-BOUND.false, flag_of)
