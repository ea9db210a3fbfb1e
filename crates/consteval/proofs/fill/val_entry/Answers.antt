use Rattle.consteval.proofs.FillLaws.{val_empty, val_is, val_not, val_other, held_capped}
use Rattle.consteval.proofs.TableLaws.{val_by}
use Rattle.consteval.specs.Fill.{held}
use Rattle.lines.specs.Words.{word_of}
use Rattle.spec.specs.Bytes.{Bytes, number, integer}
use Rattle.spec.specs.Value.{within}
use mathlib.Core.Path.{ap, ap₂, ◌∙◌}
use Rattle.consteval.proofs.fill.val_entry.Goals as goal

pub returns-then-s-eq0 : goal.returns-then-s-eq0
returns-then-s-eq0 c =
    let r = val_by c.args.s.now _ (val_empty c.args.s.now c.if-s-eq0.true) in record { value = r.0; result_value = r.1 }

pub returns-in_default : goal.returns-in_default
returns-in_default c =
    let r = val_by c.args.s.now _ (val_other c.args.s.now c.if-s-eq0.false c.part_end-h.ensures (c.word_of.ensures ∙ ap word_of c.between.ensures) c.role_of.ensures c.in_default.not-Val) in record { value = r.0; result_value = r.1 }

pub returns-in_default-as_two : goal.returns-in_default-as_two
returns-in_default-as_two c =
    let r = val_by c.args.s.now _ (val_not c.args.s.now c.if-s-eq0.false c.part_end-h.ensures (c.word_of.ensures ∙ ap word_of c.between.ensures) c.role_of.ensures c.in-Val.is c.as_two.ensures c.in_default-as_two.is) in record { value = r.0; result_value = r.1 }

pub returns : goal.returns
returns c =
    let r = val_by c.args.s.now _ (c.to_hold.ensures.value ∙ ap₂ held c.value.ensures c.whole.ensures ∙ held_capped (number c.between-2.result.now) (within (integer c.between-3.result.now)) ∙ ap₂ (λ (a b : Bytes). held (number a) (within (integer b))) c.between-2.ensures c.between-3.ensures ∙ val_is c.args.s.now c.if-s-eq0.false c.part_end-h.ensures (c.word_of.ensures ∙ ap word_of c.between.ensures) c.role_of.ensures c.in-Val.is c.as_two.ensures c.in-Some.is) in record { value = r.0; result_value = r.1 }
