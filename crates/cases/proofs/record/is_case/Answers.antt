use mathlib.Core.Path.{ap, ◌∙◌}
use lib.Dec.{eqb}
use Rattle.lines.proofs.Laws.{byte_is, byte_not}
use Rattle.lines.specs.declared.parse.Word.{Word}
use Rattle.cases.proofs.Laws.{case_open, case_not}
use Rattle.cases.proofs.record.is_case.Goals as goal

pub returns-then-not-is_open : goal.returns-then-not-is_open
returns-then-not-is_open c = case_not c.args.s.now (byte_not _ _ _ 40 c.is_open.ensures c.byte.ensures c.if-not-is_open.true)

pub returns : goal.returns
returns c = ap (λ (w : Word). eqb w.key 26677294676) c.word_at-w.ensures ∙ case_open c.args.s.now (byte_is _ _ _ 40 c.is_open.ensures c.byte.ensures c.if-not-is_open.false)
