use mathlib.Core.Path.{sym}
use lib.ListN.{get_or-eq_default}
use Rattle.summary.proofs.at.Goals as goal

pub returns-else-i-k : goal.returns-else-i-k
returns-else-i-k c = sym (get_or-eq_default c.args.k.now 0 c.if-i-k.false)
