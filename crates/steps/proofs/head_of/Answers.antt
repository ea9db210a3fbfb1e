use Rattle.steps.proofs.HeadLaws.{head_inst, head_repeat, head_reg, head_const_if, head_const, head_other}
use mathlib.Core.Path.{sym, ◌∙◌}
use Rattle.steps.proofs.head_of.Goals as goal

pub returns-then-c-eq105 : goal.returns-then-c-eq105
returns-then-c-eq105 c = head_inst c.args.x.now (sym c.byte-c.ensures ∙ c.if-c-eq105.true)

pub returns-then-byte-eq112 : goal.returns-then-byte-eq112
returns-then-byte-eq112 c = head_repeat c.args.x.now (sym c.byte-c.ensures ∙ c.if-c-eq114.true) (sym c.byte.ensures ∙ c.if-byte-eq112.true)

pub returns-then-c-eq114 : goal.returns-then-c-eq114
returns-then-c-eq114 c = head_reg c.args.x.now (sym c.byte-c.ensures ∙ c.if-c-eq114.true) (λ e. c.if-byte-eq112.false (c.byte.ensures ∙ e))

pub returns-then-byte-eq105 : goal.returns-then-byte-eq105
returns-then-byte-eq105 c = head_const_if c.args.x.now (sym c.byte-c.ensures ∙ c.if-c-eq99.true) (sym c.byte-then-c-eq99.ensures ∙ c.if-byte-eq105.true)

pub returns-then-c-eq99 : goal.returns-then-c-eq99
returns-then-c-eq99 c = head_const c.args.x.now (sym c.byte-c.ensures ∙ c.if-c-eq99.true) (λ e. c.if-byte-eq105.false (c.byte-then-c-eq99.ensures ∙ e))

pub returns : goal.returns
returns c = head_other c.args.x.now (λ e. c.if-c-eq105.false (c.byte-c.ensures ∙ e)) (λ e. c.if-c-eq114.false (c.byte-c.ensures ∙ e)) (λ e. c.if-c-eq99.false (c.byte-c.ensures ∙ e))
