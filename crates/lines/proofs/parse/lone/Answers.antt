use borrow.Author.Tests.{eq-eqb, ne_eqb}
use Rattle.lines.specs.Parse.{lone}
use Rattle.lines.proofs.parse.lone.Goals as goal

pub returns-then-key-head : goal.returns-then-key-head
unfolding lone
returns-then-key-head c = rw (eq-eqb _ _ c.if-key-head.true, lone)

pub returns-else-key-head : goal.returns-else-key-head
unfolding lone
returns-else-key-head c = rw (ne_eqb _ _ c.if-key-head.false, lone) c.no_shape.ensures
