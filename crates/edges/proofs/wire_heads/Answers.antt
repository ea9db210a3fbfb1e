use Rattle.consteval.specs.Worth.{names_of}
use Rattle.graph.specs.declared.Node.TheVariants as nodes
use mathlib.Core.Path.{refl}
use mathlib.Core.Bool.{false}
use Rattle.edges.proofs.LineLaws.{wire_full, wire_reads}
use Rattle.edges.specs.Total as total
use Rattle.edges.proofs.TotalLaws.{wire_reads_here}
use Rattle.edges.proofs.LeaveLaws.{head_full, head_reads, wire_leaves}
use native.Mathlib.Omega.{arith}
use Rattle.std.specs.Prelude.{is_ok}
use Rattle.std.proofs.lemmas.Result.{err_from_is_err_and}
use Rattle.edges.proofs.wire_heads.Goals as goal

pub returns-clause-wire_leaves : goal.returns-clause-wire_leaves
returns-clause-wire_leaves c = wire_leaves c.args.x.now c.next_end-a.ensures c.next_end-b.ensures c.number_at-n.ensures c.next_end.ensures c.number_at-start.ensures c.args.depth c.args.scope.kinds.now (names_of c.args.scope.names.now c.args.scope.used) (wire_reads_here c.args.scope.kinds.now (names_of c.args.scope.names.now c.args.scope.used) c.args.depth c.args.x.now c.next_end-a.ensures c.next_end-b.ensures c.between.ensures c.under.ensures) (is_ok c.expr_reads.result) c.args.g.now _ (head_reads _ c.args.g.now (nodes.Signal c.number_at-n.result) c.number_at-start.result c.head.result c.head.new.g c.head.ensures.head_leaves c.in_ok-i.was c.head.auto.g (is_ok c.expr_reads.result) _ c.expr_reads.ensures.reads_or_cleared)

pub returns-clause-wire_heads : goal.returns-clause-wire_heads
returns-clause-wire_heads c = wire_reads c.args.x.now c.args.depth c.next_end-a.ensures c.next_end-b.ensures c.number_at-n.ensures c.next_end.ensures c.number_at-start.ensures c.args.scope.kinds.now (names_of c.args.scope.names.now c.args.scope.used) c.args.g.now c.head.result _ c.head.ensures.headed c.in_ok-i.was c.between.ensures (omega (arith, c.under.ensures)) (is_ok c.expr_reads.result) _ c.expr_reads.ensures.expr_read

pub returns-in_err-i-clause-wire_leaves : goal.returns-in_err-i-clause-wire_leaves
returns-in_err-i-clause-wire_leaves c = rw (err_from_is_err_and c.from_residual.result c.from_residual.ensures.1).1 (wire_leaves c.args.x.now c.next_end-a.ensures c.next_end-b.ensures c.number_at-n.ensures c.next_end.ensures c.number_at-start.ensures c.args.depth c.args.scope.kinds.now (names_of c.args.scope.names.now c.args.scope.used) refl false c.args.g.now _ (head_full (total.wire_reads c.args.scope.kinds.now (names_of c.args.scope.names.now c.args.scope.used) c.args.depth c.args.x.now) c.args.g.now (nodes.Signal c.number_at-n.result) c.number_at-start.result c.head.result c.head.new.g c.head.ensures.head_leaves c.in_err-i.was))

pub returns-in_err-i-clause-wire_heads : goal.returns-in_err-i-clause-wire_heads
returns-in_err-i-clause-wire_heads c = rw (err_from_is_err_and c.from_residual.result c.from_residual.ensures.1).1 (wire_full c.args.x.now c.args.depth c.next_end-a.ensures c.next_end-b.ensures c.number_at-n.ensures c.next_end.ensures c.number_at-start.ensures c.args.scope.kinds.now (names_of c.args.scope.names.now c.args.scope.used) c.args.g.now c.head.result _ c.head.ensures.headed c.in_err-i.was)
