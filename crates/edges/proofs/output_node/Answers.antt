use Rattle.edges.proofs.OutputLaws.{node_known}
use Rattle.std.specs.Prelude.{ℕ, Option, Some, Ok}
use mathlib.Core.Path.{◌≡◌, ap, ◌∙◌}
use Rattle.edges.proofs.output_node.Goals as goal

pub returns-in-Ok-Some : goal.returns-in-Ok-Some
returns-in-Ok-Some c =
    let e : ◌≡◌ {A = Option ℕ} c.in-Ok-Some.field-0 (Some c.in-Ok-Some.v) = rw c.in-Ok-Some.is at c.in-Ok-Some.field-0-is in
    node_known c.args.i c.args.o c.args.index (c.in-Ok-Some.is ∙ ap Ok e)
