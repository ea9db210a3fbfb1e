use mathlib.Core.Path.{sym, ap, ◌∙◌}
use Rattle.cases.specs.Stored.{named}
use Rattle.cases.proofs.Laws.{record_not, record_here}
use Rattle.cases.proofs.record.record_of.Goals as goal

pub returns-then-is_case : goal.returns-then-is_case
returns-then-is_case c = c.named.ensures ∙ ap (named c.args.s.now) c.part_end.ensures ∙ record_here c.args.s.now (sym c.is_case.ensures ∙ c.if-is_case.true)

pub returns-else-is_case : goal.returns-else-is_case
returns-else-is_case c = record_not c.args.s.now (sym c.is_case.ensures ∙ c.if-is_case.false)
