use Rattle.std.specs.Prelude.{Option}
use Rattle.lines.proofs.ReadLaws.{head_module, head_none, head_late, head_kind, head_val_late, head_val, head_item}
use Rattle.lines.specs.Parse.{key, code_after}
use Rattle.lines.specs.Read.{number_after, module_step, kind_step}
use Rattle.lines.specs.declared.parse.Number.{Number}
use Rattle.lines.specs.declared.parse.Word.{Word}
use mathlib.Core.Path.{sym, ap, ◌∙◌}
use Rattle.lines.proofs.read.head_step.Goals as goal

pub returns-then-key-eq-MODULE : goal.returns-then-key-eq-MODULE
unfolding key code_after
returns-then-key-eq-MODULE c = c.module_step.ensures ∙ ap (λ (x : Option Number). module_step x c.args.modules c.args.feed) (c.number_after.ensures ∙ ap (λ (w : Word). number_after c.args.s.now w.next) c.word_at-w.ensures) ∙ head_module c.args.s.now c.args.at c.args.feed c.args.modules c.args.items c.args.seen.now (sym (ap (λ (w : Word). w.key) c.word_at-w.ensures) ∙ c.if-key-eq-MODULE.true)

pub returns-then-modules-eq0 : goal.returns-then-modules-eq0
unfolding key code_after
returns-then-modules-eq0 c = head_none c.args.s.now c.args.at c.args.feed c.args.modules c.args.items c.args.seen.now (λ e. c.if-key-eq-MODULE.false (ap (λ (w : Word). w.key) c.word_at-w.ensures ∙ e)) c.if-modules-eq0.true

pub returns-then-items : goal.returns-then-items
unfolding key code_after
returns-then-items c = head_late c.args.s.now c.args.at c.args.feed c.args.modules c.args.items c.args.seen.now (λ e. c.if-key-eq-MODULE.false (ap (λ (w : Word). w.key) c.word_at-w.ensures ∙ e)) c.if-modules-eq0.false (sym (ap (λ (w : Word). w.key) c.word_at-w.ensures) ∙ c.if-key-eq-KIND.true) c.if-items.true

pub returns-then-key-eq-KIND : goal.returns-then-key-eq-KIND
unfolding key code_after
returns-then-key-eq-KIND c = c.kind_step.ensures ∙ ap (λ (x : Option Number). kind_step x c.args.seen.now c.args.feed) (c.number_after-then-key-eq-KIND.ensures ∙ ap (λ (w : Word). number_after c.args.s.now w.next) c.word_at-w.ensures) ∙ head_kind c.args.s.now c.args.at c.args.feed c.args.modules c.args.items c.args.seen.now (λ e. c.if-key-eq-MODULE.false (ap (λ (w : Word). w.key) c.word_at-w.ensures ∙ e)) c.if-modules-eq0.false (sym (ap (λ (w : Word). w.key) c.word_at-w.ensures) ∙ c.if-key-eq-KIND.true) c.if-items.false

pub returns-then-items-2 : goal.returns-then-items-2
unfolding key code_after
returns-then-items-2 c = head_val_late c.args.s.now c.args.at c.args.feed c.args.modules c.args.items c.args.seen.now (λ e. c.if-key-eq-MODULE.false (ap (λ (w : Word). w.key) c.word_at-w.ensures ∙ e)) c.if-modules-eq0.false (λ e. c.if-key-eq-KIND.false (ap (λ (w : Word). w.key) c.word_at-w.ensures ∙ e)) (sym (ap (λ (w : Word). w.key) c.word_at-w.ensures) ∙ c.if-key-eq-VAL.true) c.if-items-2.true

pub returns-then-key-eq-VAL : goal.returns-then-key-eq-VAL
unfolding key code_after
returns-then-key-eq-VAL c = head_val c.args.s.now c.args.at c.args.feed c.args.modules c.args.items c.args.seen.now (λ e. c.if-key-eq-MODULE.false (ap (λ (w : Word). w.key) c.word_at-w.ensures ∙ e)) c.if-modules-eq0.false (λ e. c.if-key-eq-KIND.false (ap (λ (w : Word). w.key) c.word_at-w.ensures ∙ e)) (sym (ap (λ (w : Word). w.key) c.word_at-w.ensures) ∙ c.if-key-eq-VAL.true) c.if-items-2.false

pub returns : goal.returns
unfolding key code_after
returns c = head_item c.args.s.now c.args.at c.args.feed c.args.modules c.args.items c.args.seen.now (λ e. c.if-key-eq-MODULE.false (ap (λ (w : Word). w.key) c.word_at-w.ensures ∙ e)) c.if-modules-eq0.false (λ e. c.if-key-eq-KIND.false (ap (λ (w : Word). w.key) c.word_at-w.ensures ∙ e)) (λ e. c.if-key-eq-VAL.false (ap (λ (w : Word). w.key) c.word_at-w.ensures ∙ e))
