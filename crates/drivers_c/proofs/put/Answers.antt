use mathlib.Core.Path.{sym}
use lib.Seq.{set_out}
use Rattle.drivers_c.proofs.put.Goals as goal

pub returns-else-i-numbers : goal.returns-else-i-numbers
returns-else-i-numbers c = sym (set_out c.args.numbers.now _ _ c.if-i-numbers.false)
