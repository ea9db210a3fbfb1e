use mathlib.Core.Path.{sym, ap, subst, ◌∙◌}
use Prim.Native.Nat.{◌+◌, ◌≤◌}
use lib.ListN.{length}
use Rattle.spec.specs.Bytes.{Bytes}
use Rattle.report.specs.Line.{walk_node}
use Rattle.report.proofs.Laws.{cast, signal_bytes, node_output}
use Rattle.report.proofs.write_walk_node.Goals as goal

pub write_field-requires : goal.write_field-requires
write_field-requires c = subst (λ (s : Bytes). c.args.at + length s ≤ length c.args.buf.now) (ap walk_node c.in-Signal.is ∙ signal_bytes _) c.requires

pub write_output-requires : goal.write_output-requires
write_output-requires c = subst (λ (s : Bytes). c.args.at + length s ≤ length c.args.buf.now) (ap walk_node c.in-Output.is ∙ node_output _ _ _) c.requires

pub returns-in-Signal : goal.returns-in-Signal
returns-in-Signal c = cast (sym (ap walk_node c.in-Signal.is ∙ signal_bytes _)) c.write_field.ensures

pub returns-in-Output : goal.returns-in-Output
returns-in-Output c = cast (sym (ap walk_node c.in-Output.is ∙ node_output _ _ _)) c.write_output.ensures
