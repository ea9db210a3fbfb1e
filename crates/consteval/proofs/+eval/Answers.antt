use Rattle.std.proofs.Common.{rules, Ok}
use Rattle.consteval.proofs.EvalLaws.{eval_flat, eval_atom, capped_name, name_is, name_not, if_zero, if_other, if_missing, if_outside, if_wrong, one_known, one_missing, one_outside, one_wrong, both_known, both_missing, both_outside, two_missing, two_outside, two_wrong, true_form, false_form, none_form}
use Rattle.consteval.specs.Worth.{worth, names_of}
use Rattle.lines.specs.Words.{word_of}
use Rattle.lines.proofs.Laws.{byte_is, byte_not}
use Rattle.spec.specs.Bytes.{Bytes, number}
use Rattle.spec.specs.Value.{outside, value_of_name}
use mathlib.Core.Path.{◌≡◌, ap, ◌∙◌}
use Rattle.consteval.proofs.+eval.Goals as goal

pub returns-then-depth-eq0 : goal.returns-then-depth-eq0
returns-then-depth-eq0 t c = c.atom.ensures ∙ eval_flat (names_of c.args.names.now c.args.used) c.args.e.now c.args.depth c.if-depth-eq0.true

pub returns-then-not-is_open : goal.returns-then-not-is_open
returns-then-not-is_open t c = c.atom-then-not-is_open.ensures ∙ eval_atom (names_of c.args.names.now c.args.used) c.args.e.now c.args.depth c.if-depth-eq0.false (byte_not _ _ _ 40 c.is_open.ensures c.byte.ensures c.if-not-is_open.true)

pub returns-in-Some : goal.returns-in-Some
returns-in-Some t c = c.look_up.ensures ∙ ap (value_of_name (names_of c.args.names.now c.args.used)) c.value.ensures ∙ capped_name c.args.names.now (λ i. (c.shared_slice_known-2-1.given i).fits) c.args.used (number c.between-in-Name.result.now) ∙ ap (λ (x : Bytes). value_of_name (names_of c.args.names.now c.args.used) (number x)) c.between-in-Name.ensures ∙ name_is (names_of c.args.names.now c.args.used) c.args.e.now c.args.depth c.if-depth-eq0.false (byte_is _ _ _ 40 c.is_open.ensures c.byte.ensures c.if-not-is_open.false) c.part_end-h.ensures (c.word_of.ensures ∙ ap word_of c.between.ensures) c.shape_of.ensures c.in-Name.is c.as_one.ensures c.in-Some.is

pub returns-in_default : goal.returns-in_default
returns-in_default t c = name_not (names_of c.args.names.now c.args.used) c.args.e.now c.args.depth c.if-depth-eq0.false (byte_is _ _ _ 40 c.is_open.ensures c.byte.ensures c.if-not-is_open.false) c.part_end-h.ensures (c.word_of.ensures ∙ ap word_of c.between.ensures) c.shape_of.ensures c.in-Name.is c.as_one.ensures c.in_default.is

pub returns-in_default-as_three : goal.returns-in_default-as_three
returns-in_default-as_three t c = if_wrong (names_of c.args.names.now c.args.used) c.args.e.now c.args.depth c.if-depth-eq0.false (byte_is _ _ _ 40 c.is_open.ensures c.byte.ensures c.if-not-is_open.false) c.part_end-h.ensures (c.word_of.ensures ∙ ap word_of c.between.ensures) c.shape_of.ensures c.in-If.is c.as_three.ensures c.in_default-as_three.is

pub returns-in_err-x-in-If : goal.returns-in_err-x-in-If
returns-in_err-x-in-If t c = let e : worth c.from_residual.result ≡ outside = search rules in e ∙ if_outside (names_of c.args.names.now c.args.used) c.args.e.now c.args.depth c.if-depth-eq0.false (byte_is _ _ _ 40 c.is_open.ensures c.byte.ensures c.if-not-is_open.false) c.part_end-h.ensures (c.word_of.ensures ∙ ap word_of c.between.ensures) c.shape_of.ensures c.in-If.is c.as_three.ensures c.in-Some-as_three.is c.between-in-If.ensures c.eval.result c.eval.ensures c.in_err-x-in-If.was

pub returns-in_default-2 : goal.returns-in_default-2
returns-in_default-2 t c = if_missing (names_of c.args.names.now c.args.used) c.args.e.now c.args.depth c.if-depth-eq0.false (byte_is _ _ _ 40 c.is_open.ensures c.byte.ensures c.if-not-is_open.false) c.part_end-h.ensures (c.word_of.ensures ∙ ap word_of c.between.ensures) c.shape_of.ensures c.in-If.is c.as_three.ensures c.in-Some-as_three.is c.between-in-If.ensures c.eval.result c.eval.ensures (c.in_ok-x-in-If.was ∙ ap Ok c.in_default-2.is)

pub returns-then-x : goal.returns-then-x
returns-then-x t c = c.eval-then-x.ensures ∙ if_zero (names_of c.args.names.now c.args.used) c.args.e.now c.args.depth c.if-depth-eq0.false (byte_is _ _ _ 40 c.is_open.ensures c.byte.ensures c.if-not-is_open.false) c.part_end-h.ensures (c.word_of.ensures ∙ ap word_of c.between.ensures) c.shape_of.ensures c.in-If.is c.as_three.ensures c.in-Some-as_three.is c.between-in-If.ensures c.eval.result c.eval.ensures (c.in_ok-x-in-If.was ∙ ap Ok c.in-Some-2.is) c.if-x.true c.between-then-x.ensures

pub returns-else-x : goal.returns-else-x
returns-else-x t c = c.eval-else-x.ensures ∙ if_other (names_of c.args.names.now c.args.used) c.args.e.now c.args.depth c.if-depth-eq0.false (byte_is _ _ _ 40 c.is_open.ensures c.byte.ensures c.if-not-is_open.false) c.part_end-h.ensures (c.word_of.ensures ∙ ap word_of c.between.ensures) c.shape_of.ensures c.in-If.is c.as_three.ensures c.in-Some-as_three.is c.between-in-If.ensures c.eval.result c.eval.ensures (c.in_ok-x-in-If.was ∙ ap Ok c.in-Some-2.is) c.if-x.false c.between-else-x.ensures

pub returns-in_default-as_one : goal.returns-in_default-as_one
returns-in_default-as_one t c = one_wrong (names_of c.args.names.now c.args.used) c.args.e.now c.args.depth c.if-depth-eq0.false (byte_is _ _ _ 40 c.is_open.ensures c.byte.ensures c.if-not-is_open.false) c.part_end-h.ensures (c.word_of.ensures ∙ ap word_of c.between.ensures) c.shape_of.ensures c.in-One.is c.as_one-in-One.ensures c.in_default-as_one.is

pub returns-in_err-x-in-One : goal.returns-in_err-x-in-One
returns-in_err-x-in-One t c = let e : worth c.from_residual-in_err-x-in-One.result ≡ outside = search rules in e ∙ one_outside (names_of c.args.names.now c.args.used) c.args.e.now c.args.depth c.if-depth-eq0.false (byte_is _ _ _ 40 c.is_open.ensures c.byte.ensures c.if-not-is_open.false) c.part_end-h.ensures (c.word_of.ensures ∙ ap word_of c.between.ensures) c.shape_of.ensures c.in-One.is c.as_one-in-One.ensures c.in-Some-as_one.is c.between-in-One.ensures c.eval-in-One.result c.eval-in-One.ensures c.in_err-x-in-One.was

pub returns-in_default-3 : goal.returns-in_default-3
returns-in_default-3 t c = one_missing (names_of c.args.names.now c.args.used) c.args.e.now c.args.depth c.if-depth-eq0.false (byte_is _ _ _ 40 c.is_open.ensures c.byte.ensures c.if-not-is_open.false) c.part_end-h.ensures (c.word_of.ensures ∙ ap word_of c.between.ensures) c.shape_of.ensures c.in-One.is c.as_one-in-One.ensures c.in-Some-as_one.is c.between-in-One.ensures c.eval-in-One.result c.eval-in-One.ensures (c.in_ok-x-in-One.was ∙ ap Ok c.in_default-3.is)

pub returns-in-Some-3 : goal.returns-in-Some-3
returns-in-Some-3 t c = c.unary.ensures ∙ one_known (names_of c.args.names.now c.args.used) c.args.e.now c.args.depth c.if-depth-eq0.false (byte_is _ _ _ 40 c.is_open.ensures c.byte.ensures c.if-not-is_open.false) c.part_end-h.ensures (c.word_of.ensures ∙ ap word_of c.between.ensures) c.shape_of.ensures c.in-One.is c.as_one-in-One.ensures c.in-Some-as_one.is c.between-in-One.ensures c.eval-in-One.result c.eval-in-One.ensures (c.in_ok-x-in-One.was ∙ ap Ok c.in-Some-3.is)

pub returns-in_default-as_two : goal.returns-in_default-as_two
returns-in_default-as_two t c = two_wrong (names_of c.args.names.now c.args.used) c.args.e.now c.args.depth c.if-depth-eq0.false (byte_is _ _ _ 40 c.is_open.ensures c.byte.ensures c.if-not-is_open.false) c.part_end-h.ensures (c.word_of.ensures ∙ ap word_of c.between.ensures) c.shape_of.ensures c.in-Two.is c.as_two.ensures c.in_default-as_two.is

pub returns-in_err-x-in-Two : goal.returns-in_err-x-in-Two
returns-in_err-x-in-Two t c = let e : worth c.from_residual-in_err-x-in-Two.result ≡ outside = search rules in e ∙ two_outside (names_of c.args.names.now c.args.used) c.args.e.now c.args.depth c.if-depth-eq0.false (byte_is _ _ _ 40 c.is_open.ensures c.byte.ensures c.if-not-is_open.false) c.part_end-h.ensures (c.word_of.ensures ∙ ap word_of c.between.ensures) c.shape_of.ensures c.in-Two.is c.as_two.ensures c.in-Some-as_two.is c.between-in-Two.ensures c.eval-in-Two.result c.eval-in-Two.ensures c.in_err-x-in-Two.was

pub returns-in_default-4 : goal.returns-in_default-4
returns-in_default-4 t c = two_missing (names_of c.args.names.now c.args.used) c.args.e.now c.args.depth c.if-depth-eq0.false (byte_is _ _ _ 40 c.is_open.ensures c.byte.ensures c.if-not-is_open.false) c.part_end-h.ensures (c.word_of.ensures ∙ ap word_of c.between.ensures) c.shape_of.ensures c.in-Two.is c.as_two.ensures c.in-Some-as_two.is c.between-in-Two.ensures c.eval-in-Two.result c.eval-in-Two.ensures (c.in_ok-x-in-Two.was ∙ ap Ok c.in_default-4.is)

pub returns-in_err-y-in-Two : goal.returns-in_err-y-in-Two
returns-in_err-y-in-Two t c = let e : worth c.from_residual-in_err-y-in-Two.result ≡ outside = search rules in e ∙ both_outside (names_of c.args.names.now c.args.used) c.args.e.now c.args.depth c.if-depth-eq0.false (byte_is _ _ _ 40 c.is_open.ensures c.byte.ensures c.if-not-is_open.false) c.part_end-h.ensures (c.word_of.ensures ∙ ap word_of c.between.ensures) c.shape_of.ensures c.in-Two.is c.as_two.ensures c.in-Some-as_two.is c.between-in-Two.ensures c.eval-in-Two.result c.eval-in-Two.ensures (c.in_ok-x-in-Two.was ∙ ap Ok c.in-Some-4.is) c.between-in-Two-2.ensures c.eval-in-Two-2.result c.eval-in-Two-2.ensures c.in_err-y-in-Two.was

pub returns-in_default-5 : goal.returns-in_default-5
returns-in_default-5 t c = both_missing (names_of c.args.names.now c.args.used) c.args.e.now c.args.depth c.if-depth-eq0.false (byte_is _ _ _ 40 c.is_open.ensures c.byte.ensures c.if-not-is_open.false) c.part_end-h.ensures (c.word_of.ensures ∙ ap word_of c.between.ensures) c.shape_of.ensures c.in-Two.is c.as_two.ensures c.in-Some-as_two.is c.between-in-Two.ensures c.eval-in-Two.result c.eval-in-Two.ensures (c.in_ok-x-in-Two.was ∙ ap Ok c.in-Some-4.is) c.between-in-Two-2.ensures c.eval-in-Two-2.result c.eval-in-Two-2.ensures (c.in_ok-y-in-Two.was ∙ ap Ok c.in_default-5.is)

pub returns-in-Some-5 : goal.returns-in-Some-5
returns-in-Some-5 t c = c.binary.ensures ∙ both_known (names_of c.args.names.now c.args.used) c.args.e.now c.args.depth c.if-depth-eq0.false (byte_is _ _ _ 40 c.is_open.ensures c.byte.ensures c.if-not-is_open.false) c.part_end-h.ensures (c.word_of.ensures ∙ ap word_of c.between.ensures) c.shape_of.ensures c.in-Two.is c.as_two.ensures c.in-Some-as_two.is c.between-in-Two.ensures c.eval-in-Two.result c.eval-in-Two.ensures (c.in_ok-x-in-Two.was ∙ ap Ok c.in-Some-4.is) c.between-in-Two-2.ensures c.eval-in-Two-2.result c.eval-in-Two-2.ensures (c.in_ok-y-in-Two.was ∙ ap Ok c.in-Some-5.is)

pub returns-in-True : goal.returns-in-True
returns-in-True t c = true_form (names_of c.args.names.now c.args.used) c.args.e.now c.args.depth c.if-depth-eq0.false (byte_is _ _ _ 40 c.is_open.ensures c.byte.ensures c.if-not-is_open.false) c.part_end-h.ensures (c.word_of.ensures ∙ ap word_of c.between.ensures) c.shape_of.ensures c.in-True.is

pub returns-in-False : goal.returns-in-False
returns-in-False t c = false_form (names_of c.args.names.now c.args.used) c.args.e.now c.args.depth c.if-depth-eq0.false (byte_is _ _ _ 40 c.is_open.ensures c.byte.ensures c.if-not-is_open.false) c.part_end-h.ensures (c.word_of.ensures ∙ ap word_of c.between.ensures) c.shape_of.ensures c.in-False.is

pub returns-in-None : goal.returns-in-None
returns-in-None t c = none_form (names_of c.args.names.now c.args.used) c.args.e.now c.args.depth c.if-depth-eq0.false (byte_is _ _ _ 40 c.is_open.ensures c.byte.ensures c.if-not-is_open.false) c.part_end-h.ensures (c.word_of.ensures ∙ ap word_of c.between.ensures) c.shape_of.ensures c.in-None.is
