use mathlib.Core.Path.{sym}
use Prim.Native.Nat.{◌+◌}
use native.Mathlib.Omega.{arith}
use borrow.Author.Tests.{lt-leb}
use Rattle.report.proofs.Laws.{fits_law}
use Rattle.report.proofs.has_room.Goals as goal

pub returns-then-len-at : goal.returns-then-len-at
returns-then-len-at c = sym (lt-leb (c.args.at + c.args.n) c.args.len (omega arith))

pub returns : goal.returns
returns c = fits_law c.args.len c.args.at c.args.n c.if-len-at.false
