use mathlib.Core.Path.{◌≡◌, ap, ◌∙◌}
use Prim.Native.Nat.{suc}
use native.Mathlib.Omega.{arith}
use lib.ListN.{length}
use Rattle.spec.specs.Bytes.{show_number}
use Rattle.report.specs.Line.{walk_node}
use Rattle.report.specs.declared.Node.{Node}
use Rattle.report.proofs.Laws.{signal_bytes, node_output, output_length, field_length}
use Rattle.report.proofs.count_walk_node.Goals as goal

pub returns-in-Signal : goal.returns-in-Signal
returns-in-Signal c = let e : length (walk_node c.args.n) ≡ suc (length (show_number c.in-Signal.name)) = ap (λ (x : Node). length (walk_node x)) c.in-Signal.is ∙ ap length (signal_bytes _) ∙ field_length _ in
    omega (arith, e, c.count_number.ensures)

pub returns-in-Output : goal.returns-in-Output
returns-in-Output c = let e = ap (λ (x : Node). length (walk_node x)) c.in-Output.is ∙ ap length (node_output _ _ _) ∙ output_length c.in-Output.inst c.in-Output.index c.in-Output.out in
    omega (arith, e, c.count_number-a.ensures, c.count_index-b.ensures, c.count_number-c.ensures)
