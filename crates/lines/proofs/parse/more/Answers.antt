use borrow.Author.Tests.{lt-ltb, le-ltb}
use Rattle.lines.specs.Parse.{more_digit}
use Rattle.lines.proofs.parse.more.Goals as goal

pub returns-then-a-lt4294967296 : goal.returns-then-a-lt4294967296
unfolding more_digit
returns-then-a-lt4294967296 c = rw (lt-ltb _ _ c.if-a-lt4294967296.true, more_digit)

pub returns-else-a-lt4294967296 : goal.returns-else-a-lt4294967296
unfolding more_digit
returns-else-a-lt4294967296 c = rw (le-ltb _ _ c.if-a-lt4294967296.false, more_digit)
