use mathlib.Core.Path.{sym}
use lib.Seq.{set_out}
use Rattle.summary.proofs.put.Goals as goal

pub returns-else-i-k : goal.returns-else-i-k
returns-else-i-k c = sym (set_out c.args.k.now _ _ c.if-i-k.false)
