use Rattle.std.specs.Prelude.{◌≡◌, Option, None}
use Rattle.std.proofs.Common.{rules}
use mathlib.Core.Path.{sym, ap, ◌∙◌}
use Rattle.cases.specs.declared.record.Record.{Record}
use Rattle.cases.specs.Stored.{answered, texted, named}
use Rattle.cases.proofs.record.named.Goals as goal

pub returns-in_err-text : goal.returns-in_err-text
unfolding named
returns-in_err-text c =
    let e : ◌≡◌ {A = Option Record} c.from_residual.result None = search rules in
    e ∙ ap (texted c.args.s.now c.args.name) (sym c.in_err-text.was ∙ c.number_after.ensures)

pub returns-in_err-answer : goal.returns-in_err-answer
unfolding named
returns-in_err-answer c =
    let e : ◌≡◌ {A = Option Record} c.from_residual-in_err-answer.result None = search rules in
    e ∙ ap (answered c.args.s.now c.args.name c.in_ok-text.text.value) (sym c.in_err-answer.was ∙ c.number_after-2.ensures) ∙ ap (texted c.args.s.now c.args.name) (sym c.in_ok-text.was ∙ c.number_after.ensures)

pub returns : goal.returns
unfolding named
returns c = c.closed.ensures ∙ ap (answered c.args.s.now c.args.name c.in_ok-text.text.value) (sym c.in_ok-answer.was ∙ c.number_after-2.ensures) ∙ ap (texted c.args.s.now c.args.name) (sym c.in_ok-text.was ∙ c.number_after.ensures)
