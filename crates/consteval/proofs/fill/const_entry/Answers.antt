use Rattle.consteval.proofs.FillLaws.{const_empty, const_is, const_not, const_other, held_capped}
use Rattle.consteval.proofs.TableLaws.{const_by}
use Rattle.consteval.specs.Fill.{held}
use Rattle.consteval.specs.Worth.{names_of}
use Rattle.lines.specs.Words.{word_of}
use Rattle.spec.specs.Bytes.{Bytes, number}
use Rattle.spec.specs.Decode.{decode_expr}
use Rattle.spec.specs.Value.{value}
use mathlib.Core.Path.{ap, ap₂, ◌∙◌}
use Rattle.consteval.proofs.fill.const_entry.Goals as goal

pub returns-then-s-eq0 : goal.returns-then-s-eq0
returns-then-s-eq0 c =
    let r = const_by (names_of c.args.names.now c.args.used) c.args.s.now _ (const_empty c.args.s.now (names_of c.args.names.now c.args.used) c.if-s-eq0.true) in record { value = r.0; result_value = r.1 }

pub returns-in_default : goal.returns-in_default
returns-in_default c =
    let r = const_by (names_of c.args.names.now c.args.used) c.args.s.now _ (const_other c.args.s.now c.if-s-eq0.false c.part_end-h.ensures (c.word_of.ensures ∙ ap word_of c.between.ensures) c.role_of.ensures (names_of c.args.names.now c.args.used) c.in_default.not-Const) in record { value = r.0; result_value = r.1 }

pub returns-in_default-as_two : goal.returns-in_default-as_two
returns-in_default-as_two c =
    let r = const_by (names_of c.args.names.now c.args.used) c.args.s.now _ (const_not c.args.s.now c.if-s-eq0.false c.part_end-h.ensures (c.word_of.ensures ∙ ap word_of c.between.ensures) c.role_of.ensures (names_of c.args.names.now c.args.used) c.in-Const.is c.as_two.ensures c.in_default-as_two.is) in record { value = r.0; result_value = r.1 }

pub returns : goal.returns
returns c =
    let r = const_by (names_of c.args.names.now c.args.used) c.args.s.now _ (c.to_hold.ensures.value ∙ ap₂ held c.value.ensures c.eval.ensures ∙ held_capped (number c.between-2.result.now) (value (names_of c.args.names.now c.args.used) (decode_expr 31 c.between-3.result.now)) ∙ ap₂ (λ (a b : Bytes). held (number a) (value (names_of c.args.names.now c.args.used) (decode_expr 31 b))) c.between-2.ensures c.between-3.ensures ∙ const_is c.args.s.now c.if-s-eq0.false c.part_end-h.ensures (c.word_of.ensures ∙ ap word_of c.between.ensures) c.role_of.ensures (names_of c.args.names.now c.args.used) c.in-Const.is c.as_two.ensures c.in-Some.is) in record { value = r.0; result_value = r.1 }
