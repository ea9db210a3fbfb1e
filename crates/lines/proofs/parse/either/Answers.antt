use borrow.Author.Tests.{eq-eqb, ne_eqb}
use Rattle.lines.specs.Parse.{either}
use Rattle.lines.proofs.parse.either.Goals as goal

pub returns-then-key-a : goal.returns-then-key-a
unfolding either
returns-then-key-a c = rw (eq-eqb _ _ c.if-key-a.true, either)

pub returns-else-key-a : goal.returns-else-key-a
unfolding either
returns-else-key-a c = rw (ne_eqb _ _ c.if-key-a.false, either)
