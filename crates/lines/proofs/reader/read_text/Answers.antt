use mathlib.Core.Path.{refl, sym, ◌∙◌}
use Rattle.lines.proofs.Turns.{text_long, text_set}
use Rattle.lines.proofs.Answers.{numbered, short_kinds, short_mods, read_refused, pass_fitting, pass_refused, pass_accepted}
use Rattle.lines.proofs.reader.read_text.Goals as goal

pub returns-then-kinds-lt-KINDS : goal.returns-then-kinds-lt-KINDS
returns-then-kinds-lt-KINDS c =
    let r = numbered c.args.text.now c.args.kinds.now c.args.mods.now _ _ _ (short_kinds c.args.text.now c.args.kinds.now c.args.mods.now c.if-kinds-lt-KINDS.true) in record { value = r.0; kinds_after = r.1.0; mods_after = r.1.1.0; result_value = r.1.1.1.0; result_value_2 = r.1.1.1.1 }

pub returns-then-mods-lt-MODS : goal.returns-then-mods-lt-MODS
returns-then-mods-lt-MODS c =
    let r = numbered c.args.text.now c.args.kinds.now c.args.mods.now _ _ _ (short_mods c.args.text.now c.args.kinds.now c.args.mods.now c.if-kinds-lt-KINDS.false c.if-mods-lt-MODS.true) in record { value = r.0; kinds_after = r.1.0; mods_after = r.1.1.0; result_value = r.1.1.1.0; result_value_2 = r.1.1.1.1 }

pub returns-then-text-gt-TEXT : goal.returns-then-text-gt-TEXT
returns-then-text-gt-TEXT c =
    let r = numbered c.args.text.now c.args.kinds.now c.args.mods.now _ _ _ (read_refused c.args.text.now c.args.kinds.now c.args.mods.now c.if-kinds-lt-KINDS.false c.if-mods-lt-MODS.false _ (text_long c.args.text.now c.if-text-gt-TEXT.true) c.fill.new.self c.fill-2.new.self (c.fill.ensures.after (λ y e. e)) (c.fill-2.ensures.after (λ y e. e)) _ refl) in record { value = r.0; kinds_after = r.1.0; mods_after = r.1.1.0; result_value = r.1.1.1.0; result_value_2 = r.1.1.1.1 }

pub set_line-requires : goal.set_line-requires
set_line-requires c = c.if-text-gt-TEXT.false

pub returns-in-Some : goal.returns-in-Some
returns-in-Some c =
    let r = numbered c.args.text.now c.args.kinds.now c.args.mods.now _ _ _ (read_refused c.args.text.now c.args.kinds.now c.args.mods.now c.if-kinds-lt-KINDS.false c.if-mods-lt-MODS.false _ (text_set c.args.text.now _ c.if-text-gt-TEXT.false (sym c.in-Some.is ∙ c.set_line.ensures)) c.fill.new.self c.fill-2.new.self (c.fill.ensures.after (λ y e. e)) (c.fill-2.ensures.after (λ y e. e)) _ refl) in record { value = r.0; kinds_after = r.1.0; mods_after = r.1.1.0; result_value = r.1.1.1.0; result_value_2 = r.1.1.1.1 }

pub fill-requires-3 : goal.fill-requires-3
fill-requires-3 c = (refl, pass_fitting c.args.text.now c.args.kinds.now c.args.mods.now c.if-kinds-lt-KINDS.false c.if-mods-lt-MODS.false c.if-text-gt-TEXT.false (sym c.in_default.is ∙ c.set_line.ensures) c.fill.new.self c.fill-2.new.self (c.fill.ensures.after (λ y e. e)) (c.fill-2.ensures.after (λ y e. e)))

pub returns-in-Err : goal.returns-in-Err
returns-in-Err c =
    let r = numbered c.args.text.now c.args.kinds.now c.args.mods.now _ _ _ (pass_refused c.args.text.now c.args.kinds.now c.args.mods.now c.if-kinds-lt-KINDS.false c.if-mods-lt-MODS.false c.if-text-gt-TEXT.false (sym c.in_default.is ∙ c.set_line.ensures) c.fill.new.self c.fill-2.new.self (c.fill.ensures.after (λ y e. e)) (c.fill-2.ensures.after (λ y e. e)) c.fill-3.result _ _ c.fill-3.ensures c.in-Err.r c.in-Err.is c.fill-3.auto.kinds c.fill-3.auto.mods _ _ (c.fill-in-Err.ensures.after (λ y e. e)) (c.fill-in-Err-2.ensures.after (λ y e. e))) in record { value = r.0; kinds_after = r.1.0; mods_after = r.1.1.0; result_value = r.1.1.1.0; result_value_2 = r.1.1.1.1 }

pub returns-in-Ok : goal.returns-in-Ok
returns-in-Ok c =
    let r = numbered c.args.text.now c.args.kinds.now c.args.mods.now _ _ _ (pass_accepted c.args.text.now c.args.kinds.now c.args.mods.now c.if-kinds-lt-KINDS.false c.if-mods-lt-MODS.false c.if-text-gt-TEXT.false (sym c.in_default.is ∙ c.set_line.ensures) c.fill.new.self c.fill-2.new.self (c.fill.ensures.after (λ y e. e)) (c.fill-2.ensures.after (λ y e. e)) c.fill-3.result _ _ c.fill-3.ensures c.in-Ok.m c.in-Ok.is) in record { value = r.0; kinds_after = r.1.0; mods_after = r.1.1.0; result_value = r.1.1.1.0; result_value_2 = r.1.1.1.1 }
