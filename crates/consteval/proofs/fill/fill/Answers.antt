use Rattle.std.proofs.Common.{rules, Err}
use Rattle.consteval.proofs.TableLaws.{filled}
use Rattle.consteval.proofs.FillLaws.{fill_used, fill_stop}
use Rattle.consteval.specs.Fill.{Filled, filling}
use mathlib.Core.Path.{◌≡◌, ap, ◌∙◌}
use Rattle.consteval.proofs.fill.fill.Goals as goal

pub returns-in_err-used : goal.returns-in_err-used
returns-in_err-used c =
    let e : ◌≡◌ {A = Filled} c.from_residual.result (Err c.in_err-used.field-0.0) = search rules in
    let r = filled c.args.header.now c.args.items.now c.args.names.now _ _ (ap (λ (a : Filled). filling a c.fill_lines.new.names) e ∙ fill_stop c.args.header.now c.args.items.now c.args.names.now c.fill_lines.ensures c.in_err-used.was) in record { names_after = r.0; fills = r.1 }

pub returns : goal.returns
returns c =
    let r = filled c.args.header.now c.args.items.now c.args.names.now _ _ (c.fill_lines-2.ensures ∙ fill_used c.args.header.now c.args.items.now c.args.names.now c.fill_lines.ensures c.in_ok-used.was) in record { names_after = r.0; fills = r.1 }
