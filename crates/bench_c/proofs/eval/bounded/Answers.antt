use borrow.Author.Tests.{lt-ltb, le-ltb}
use Rattle.bench_c.specs.Eval.{allowed}
use Rattle.bench_c.proofs.eval.bounded.Goals as goal

pub returns-then-depth-lt32 : goal.returns-then-depth-lt32
returns-then-depth-lt32 c = rw (lt-ltb _ 32 c.if-depth-lt32.true, allowed)

pub returns-else-depth-lt32 : goal.returns-else-depth-lt32
returns-else-depth-lt32 c = rw (le-ltb _ 32 c.if-depth-lt32.false, allowed)
