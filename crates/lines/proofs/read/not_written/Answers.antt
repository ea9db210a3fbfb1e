use Rattle.lines.proofs.ReadLaws.{written_3, written_4}
use mathlib.Core.Path.{sym, ◌∙◌}
use Rattle.lines.proofs.read.not_written.Goals as goal

pub returns-then-closes : goal.returns-then-closes
returns-then-closes c = written_4 c.args.s.now c.args.at (sym c.closes.ensures ∙ c.if-closes.true)

pub returns-else-closes : goal.returns-else-closes
returns-else-closes c = written_3 c.args.s.now c.args.at (sym c.closes.ensures ∙ c.if-closes.false)
