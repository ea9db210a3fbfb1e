use mathlib.Core.Path.{sym, ◌∙◌}
use Rattle.consteval.specs.Worth.{names_of}
use Rattle.collect.proofs.PlainLaws.{heads_wire, heads_drive, heads_other}
use Rattle.collect.specs.Cycle.{HeadsAdded}
use Rattle.collect.proofs.Leaving.{wire_left, drive_left}
use Rattle.std.specs.Prelude.{is_ok}
use Rattle.collect.proofs.plain.line_heads.Goals as goal

pub returns-then-c-eq119-clause-line_heads : goal.returns-then-c-eq119-clause-line_heads
returns-then-c-eq119-clause-line_heads c = heads_wire c.args.x.now c.args.depth c.args.scope.kinds.now (names_of c.args.scope.names.now c.args.scope.used) c.args.g.now (sym c.byte-c.ensures ∙ c.if-c-eq119.true) (is_ok c.wire_heads.result) _ c.wire_heads.ensures.wire_heads

pub returns-then-c-eq119-clause-heads_leave : goal.returns-then-c-eq119-clause-heads_leave
returns-then-c-eq119-clause-heads_leave c = wire_left c.args.x.now c.args.depth c.args.scope.kinds.now (names_of c.args.scope.names.now c.args.scope.used) c.args.g.now _ (is_ok c.wire_heads.result) c.wire_heads.ensures.wire_leaves

pub returns-then-c-eq100-clause-line_heads : goal.returns-then-c-eq100-clause-line_heads
returns-then-c-eq100-clause-line_heads c = heads_drive c.args.x.now c.args.depth c.args.scope.kinds.now (names_of c.args.scope.names.now c.args.scope.used) c.args.g.now (sym c.byte-c.ensures ∙ c.if-c-eq100.true) (is_ok c.drive_heads.result) _ c.drive_heads.ensures.drive_heads

pub returns-then-c-eq100-clause-heads_leave : goal.returns-then-c-eq100-clause-heads_leave
returns-then-c-eq100-clause-heads_leave c = drive_left c.args.x.now c.args.depth c.args.scope.kinds.now (names_of c.args.scope.names.now c.args.scope.used) c.args.g.now _ (is_ok c.drive_heads.result) c.drive_heads.ensures.drive_leaves

pub returns-clause-line_heads : goal.returns-clause-line_heads
returns-clause-line_heads c = heads_other c.args.x.now c.args.depth c.args.scope.kinds.now (names_of c.args.scope.names.now c.args.scope.used) c.args.g.now (λ e. c.if-c-eq119.false (c.byte-c.ensures ∙ e)) (λ e. c.if-c-eq100.false (c.byte-c.ensures ∙ e))

pub returns-clause-heads_leave : goal.returns-clause-heads_leave
returns-clause-heads_leave c = λ k. HeadsAdded.none
