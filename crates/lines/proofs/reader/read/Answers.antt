use Rattle.std.specs.Prelude.{Err}
use mathlib.Core.Path.{sym, ap, ◌∙◌}
use Prim.Native.Nat.{ℕ}
use native.Mathlib.Omega.{arith}
use lib.ListN.{length-replicate}
use Rattle.lines.proofs.Answers.{as_verdict, read_told, told_by}
use Rattle.lines.proofs.reader.read.Goals as goal

pub returns-in-Err-Short : goal.returns-in-Err-Short
returns-in-Err-Short c =
    let r = told_by c.args.text.now _ (ap as_verdict (sym (c.in-Err-Short.is ∙ ap Err c.in-Err-Short.field-0-is)) ∙ read_told c.args.text.now _ _ (omega (arith, length-replicate {A = ℕ} 8192 0)) (omega (arith, length-replicate {A = ℕ} 128 0)) _ c.read_text.ensures.value) in record { value = r.0; result_value = r.1.0; result_value_2 = r.1.1 }

pub returns-in-Err-Refused : goal.returns-in-Err-Refused
returns-in-Err-Refused c =
    let r = told_by c.args.text.now _ (ap as_verdict (sym (c.in-Err-Refused.is ∙ ap Err c.in-Err-Refused.field-0-is)) ∙ read_told c.args.text.now _ _ (omega (arith, length-replicate {A = ℕ} 8192 0)) (omega (arith, length-replicate {A = ℕ} 128 0)) _ c.read_text.ensures.value) in record { value = r.0; result_value = r.1.0; result_value_2 = r.1.1 }

pub returns-in-Ok : goal.returns-in-Ok
returns-in-Ok c =
    let r = told_by c.args.text.now _ (ap as_verdict (sym c.in-Ok.is) ∙ read_told c.args.text.now _ _ (omega (arith, length-replicate {A = ℕ} 8192 0)) (omega (arith, length-replicate {A = ℕ} 128 0)) _ c.read_text.ensures.value) in record { value = r.0; result_value = r.1.0; result_value_2 = r.1.1 }
