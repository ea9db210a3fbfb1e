use Rattle.lines.proofs.KindLaws.{byte_none, out_or_wire, undriven}
use lib.ListN.{get_or}
use Rattle.consteval.specs.Worth.{names_of}
use Rattle.graph.specs.declared.Node.TheVariants as nodes
use mathlib.Core.Path.{refl, ap}
use native.Mathlib.Omega.{arith}
use Prim.Native.Nat.{◌-◌}
use mathlib.Core.Bool.{false}
use mathlib.Core.Logic.{inl}
use Rattle.edges.proofs.LineLaws.{drive_apart, drive_full, drive_stop, drive_then}
use Rattle.spec.specs.Edge.{and_reads}
use Rattle.edges.specs.Total.{parts_behind, reads_in_order, expr_read, drive_reads}
use Rattle.edges.proofs.TotalLaws.{drive_reads_here}
use Rattle.edges.proofs.LeaveLaws.{reads_stop, reads_both, head_full, head_reads, drive_stays, drive_leaves}
use Rattle.std.specs.Prelude.{is_ok}
use Rattle.std.proofs.lemmas.Result.{err_from_is_err_and}
use Rattle.edges.proofs.drive_heads.Goals as goal

pub returns-in_default-clause-drive_leaves : goal.returns-in_default-clause-drive_leaves
returns-in_default-clause-drive_leaves c = drive_stays c.args.x.now c.next_end-a.ensures c.between-lv.ensures c.next_end-b.ensures c.number_at-n.ensures c.args.scope.kinds.now refl c.args.depth (names_of c.args.scope.names.now c.args.scope.used) c.args.g.now (inl (omega (arith, byte_none (get_or c.args.scope.kinds.now c.number_at-n.result 0) c.kind_at.ensures c.in_default.is)))

pub returns-in_default-clause-drive_heads : goal.returns-in_default-clause-drive_heads
returns-in_default-clause-drive_heads c = drive_apart c.args.x.now c.args.depth c.next_end-a.ensures c.between-lv.ensures c.next_end-b.ensures c.number_at-n.ensures c.args.scope.kinds.now refl (names_of c.args.scope.names.now c.args.scope.used) c.args.g.now (inl (omega (arith, byte_none (get_or c.args.scope.kinds.now c.number_at-n.result 0) c.kind_at.ensures c.in_default.is)))

pub returns-in-In-clause-drive_leaves : goal.returns-in-In-clause-drive_leaves
returns-in-In-clause-drive_leaves c = drive_stays c.args.x.now c.next_end-a.ensures c.between-lv.ensures c.next_end-b.ensures c.number_at-n.ensures c.args.scope.kinds.now refl c.args.depth (names_of c.args.scope.names.now c.args.scope.used) c.args.g.now (undriven (get_or c.args.scope.kinds.now c.number_at-n.result 0) c.kind_at.ensures c.in-Some.is c.in-In.is)

pub returns-in-In-clause-drive_heads : goal.returns-in-In-clause-drive_heads
returns-in-In-clause-drive_heads c = drive_apart c.args.x.now c.args.depth c.next_end-a.ensures c.between-lv.ensures c.next_end-b.ensures c.number_at-n.ensures c.args.scope.kinds.now refl (names_of c.args.scope.names.now c.args.scope.used) c.args.g.now (undriven (get_or c.args.scope.kinds.now c.number_at-n.result 0) c.kind_at.ensures c.in-Some.is c.in-In.is)

pub returns-in_err-expr_reads-clause-drive_leaves : goal.returns-in_err-expr_reads-clause-drive_leaves
returns-in_err-expr_reads-clause-drive_leaves c = rw (err_from_is_err_and c.from_residual-in_err-expr_reads.result c.from_residual-in_err-expr_reads.ensures.1).1 (drive_leaves c.args.x.now c.next_end-a.ensures c.between-lv.ensures c.next_end-b.ensures c.number_at-n.ensures c.args.scope.kinds.now refl c.args.depth (names_of c.args.scope.names.now c.args.scope.used) c.args.g.now (out_or_wire (get_or c.args.scope.kinds.now c.number_at-n.result 0) c.kind_at.ensures c.in-Some.is c.in-Out.is).0 (omega (arith, (out_or_wire (get_or c.args.scope.kinds.now c.number_at-n.result 0) c.kind_at.ensures c.in-Some.is c.in-Out.is).1)) c.next_end-c.ensures c.number_at-start.ensures (drive_reads_here c.args.scope.kinds.now (names_of c.args.scope.names.now c.args.scope.used) c.args.depth c.args.x.now c.next_end-a.ensures c.between-lv.ensures c.next_end-b.ensures c.next_end-c.ensures c.next_end.ensures c.between-e.ensures c.under.ensures refl) false _ (head_reads (and_reads (expr_read c.args.scope.kinds.now (names_of c.args.scope.names.now c.args.scope.used) c.under.result c.between-e.result.now) (reads_in_order (expr_read c.args.scope.kinds.now (names_of c.args.scope.names.now c.args.scope.used) (c.args.depth - 2)) (parts_behind c.between-lv.result.now c.next_end-c.result))) c.args.g.now (nodes.Signal c.number_at-n.result) c.number_at-start.result c.head.result c.head.new.g c.head.ensures.head_leaves c.in_ok-i.was c.head.auto.g false _ (reads_stop c.in_ok-i.i c.head.new.g (expr_read c.args.scope.kinds.now (names_of c.args.scope.names.now c.args.scope.used) c.under.result c.between-e.result.now) (reads_in_order (expr_read c.args.scope.kinds.now (names_of c.args.scope.names.now c.args.scope.used) (c.args.depth - 2)) (parts_behind c.between-lv.result.now c.next_end-c.result)) _ (is_ok c.expr_reads.result) (ap is_ok c.in_err-expr_reads.was) c.expr_reads.ensures.reads_or_cleared)))

pub returns-in_err-expr_reads-clause-drive_heads : goal.returns-in_err-expr_reads-clause-drive_heads
returns-in_err-expr_reads-clause-drive_heads c = rw (err_from_is_err_and c.from_residual-in_err-expr_reads.result c.from_residual-in_err-expr_reads.ensures.1).1 (drive_stop c.args.x.now c.args.depth c.next_end-a.ensures c.between-lv.ensures c.next_end-b.ensures c.number_at-n.ensures c.args.scope.kinds.now refl (names_of c.args.scope.names.now c.args.scope.used) c.args.g.now (out_or_wire (get_or c.args.scope.kinds.now c.number_at-n.result 0) c.kind_at.ensures c.in-Some.is c.in-Out.is).0 (omega (arith, (out_or_wire (get_or c.args.scope.kinds.now c.number_at-n.result 0) c.kind_at.ensures c.in-Some.is c.in-Out.is).1)) c.next_end-c.ensures c.number_at-start.ensures c.head.result _ c.head.ensures.headed c.in_ok-i.was c.next_end.ensures c.between-e.ensures c.under.ensures (is_ok c.expr_reads.result) _ c.expr_reads.ensures.expr_read (ap is_ok c.in_err-expr_reads.was))

pub returns-clause-drive_leaves : goal.returns-clause-drive_leaves
returns-clause-drive_leaves c = drive_leaves c.args.x.now c.next_end-a.ensures c.between-lv.ensures c.next_end-b.ensures c.number_at-n.ensures c.args.scope.kinds.now refl c.args.depth (names_of c.args.scope.names.now c.args.scope.used) c.args.g.now (out_or_wire (get_or c.args.scope.kinds.now c.number_at-n.result 0) c.kind_at.ensures c.in-Some.is c.in-Out.is).0 (omega (arith, (out_or_wire (get_or c.args.scope.kinds.now c.number_at-n.result 0) c.kind_at.ensures c.in-Some.is c.in-Out.is).1)) c.next_end-c.ensures c.number_at-start.ensures (drive_reads_here c.args.scope.kinds.now (names_of c.args.scope.names.now c.args.scope.used) c.args.depth c.args.x.now c.next_end-a.ensures c.between-lv.ensures c.next_end-b.ensures c.next_end-c.ensures c.next_end.ensures c.between-e.ensures c.under.ensures c.under-2.ensures) (is_ok c.parts_read.result) _ (head_reads (and_reads (expr_read c.args.scope.kinds.now (names_of c.args.scope.names.now c.args.scope.used) c.under.result c.between-e.result.now) (reads_in_order (expr_read c.args.scope.kinds.now (names_of c.args.scope.names.now c.args.scope.used) c.under-2.result) (parts_behind c.between-lv.result.now c.next_end-c.result))) c.args.g.now (nodes.Signal c.number_at-n.result) c.number_at-start.result c.head.result c.head.new.g c.head.ensures.head_leaves c.in_ok-i.was c.head.auto.g (is_ok c.parts_read.result) _ (reads_both c.in_ok-i.i c.head.new.g (expr_read c.args.scope.kinds.now (names_of c.args.scope.names.now c.args.scope.used) c.under.result c.between-e.result.now) (reads_in_order (expr_read c.args.scope.kinds.now (names_of c.args.scope.names.now c.args.scope.used) c.under-2.result) (parts_behind c.between-lv.result.now c.next_end-c.result)) c.expr_reads.new.g c.expr_reads.auto.g (is_ok c.expr_reads.result) (ap is_ok c.in_ok-expr_reads.was) c.expr_reads.ensures.reads_or_cleared (is_ok c.parts_read.result) _ c.parts_read.ensures.reads_or_cleared))

pub returns-clause-drive_heads : goal.returns-clause-drive_heads
returns-clause-drive_heads c = drive_then c.args.x.now c.args.depth c.next_end-a.ensures c.between-lv.ensures c.next_end-b.ensures c.number_at-n.ensures c.args.scope.kinds.now refl (names_of c.args.scope.names.now c.args.scope.used) c.args.g.now (out_or_wire (get_or c.args.scope.kinds.now c.number_at-n.result 0) c.kind_at.ensures c.in-Some.is c.in-Out.is).0 (omega (arith, (out_or_wire (get_or c.args.scope.kinds.now c.number_at-n.result 0) c.kind_at.ensures c.in-Some.is c.in-Out.is).1)) c.next_end-c.ensures c.number_at-start.ensures c.head.result _ c.head.ensures.headed c.in_ok-i.was c.next_end.ensures c.between-e.ensures c.under.ensures (is_ok c.expr_reads.result) _ c.expr_reads.ensures.expr_read (ap is_ok c.in_ok-expr_reads.was) c.under-2.ensures (is_ok c.parts_read.result) _ c.parts_read.ensures.parts_read

pub returns-in_err-i-clause-drive_leaves : goal.returns-in_err-i-clause-drive_leaves
returns-in_err-i-clause-drive_leaves c = rw (err_from_is_err_and c.from_residual.result c.from_residual.ensures.1).1 (drive_leaves c.args.x.now c.next_end-a.ensures c.between-lv.ensures c.next_end-b.ensures c.number_at-n.ensures c.args.scope.kinds.now refl c.args.depth (names_of c.args.scope.names.now c.args.scope.used) c.args.g.now (out_or_wire (get_or c.args.scope.kinds.now c.number_at-n.result 0) c.kind_at.ensures c.in-Some.is c.in-Out.is).0 (omega (arith, (out_or_wire (get_or c.args.scope.kinds.now c.number_at-n.result 0) c.kind_at.ensures c.in-Some.is c.in-Out.is).1)) c.next_end-c.ensures c.number_at-start.ensures refl false _ (head_full (drive_reads c.args.scope.kinds.now (names_of c.args.scope.names.now c.args.scope.used) c.args.depth c.args.x.now) c.args.g.now (nodes.Signal c.number_at-n.result) c.number_at-start.result c.head.result c.head.new.g c.head.ensures.head_leaves c.in_err-i.was))

pub returns-in_err-i-clause-drive_heads : goal.returns-in_err-i-clause-drive_heads
returns-in_err-i-clause-drive_heads c = rw (err_from_is_err_and c.from_residual.result c.from_residual.ensures.1).1 (drive_full c.args.x.now c.args.depth c.next_end-a.ensures c.between-lv.ensures c.next_end-b.ensures c.number_at-n.ensures c.args.scope.kinds.now refl (names_of c.args.scope.names.now c.args.scope.used) c.args.g.now (out_or_wire (get_or c.args.scope.kinds.now c.number_at-n.result 0) c.kind_at.ensures c.in-Some.is c.in-Out.is).0 (omega (arith, (out_or_wire (get_or c.args.scope.kinds.now c.number_at-n.result 0) c.kind_at.ensures c.in-Some.is c.in-Out.is).1)) c.next_end-c.ensures c.number_at-start.ensures c.head.result _ c.head.ensures.headed c.in_err-i.was)
