use Rattle.lines.proofs.ReadLaws.{kind_large, kind_twice, kind_first}
use mathlib.Core.Path.{sym, ◌∙◌}
use Rattle.lines.proofs.read.kind_step.Goals as goal

pub returns-then-n-ge-NAMES : goal.returns-then-n-ge-NAMES
returns-then-n-ge-NAMES c = rw c.in-Some.is (kind_large _ 0 c.args.seen.now _ c.if-n-ge-NAMES.true)

pub returns-then-byte-ne0 : goal.returns-then-byte-ne0
returns-then-byte-ne0 c = rw c.in-Some.is (kind_twice _ 0 c.args.seen.now _ c.if-n-ge-NAMES.false (λ z. c.if-byte-ne0.true (c.byte.ensures ∙ z)))

pub returns : goal.returns
returns c = rw c.in-Some.is (kind_first _ 0 c.args.seen.now _ c.if-n-ge-NAMES.false (sym c.byte.ensures ∙ c.if-byte-ne0.false))
