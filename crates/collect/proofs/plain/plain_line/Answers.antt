use mathlib.Core.Bool.{true, false}
use lib.ListN.{length}
use Rattle.spec.proofs.Cleared.{cleared_of}
use Rattle.items.proofs.AddedLaws.{leaves_kept, leaves_cleared}
use Rattle.consteval.specs.Worth.{names_of}
use Rattle.collect.proofs.Leaving.{own_same, own_filled, heads_left, heads_cleared}
use Rattle.collect.proofs.PlainLaws.{heads_said, own_refused, own_headed, outside_refused, outside_headed}
use Rattle.std.specs.Prelude.{is_ok}
use Rattle.collect.proofs.Leaving.{passed}
use mathlib.Core.Path.{ap}
use Rattle.collect.proofs.plain.plain_line.Goals as goal

pub returns-in-Err-clause-plain_line : goal.returns-in-Err-clause-plain_line
returns-in-Err-clause-plain_line c = own_refused c.args.x.now c.args.from c.args.depth c.args.scope.kinds.now c.args.checking c.args.bound (names_of c.args.scope.names.now c.args.scope.used) c.args.own.now c.args.g.now c.if-checking.true (is_ok c.own_line.result) _ (ap is_ok c.in-Err.is) c.own_line.ensures.own_line

pub returns-in-Err-clause-plain_leaves : goal.returns-in-Err-clause-plain_leaves
returns-in-Err-clause-plain_leaves c = (leaves_cleared (is_ok c.own_line.result) _ c.own_line.new.own (ap is_ok c.in-Err.is) c.own_line.ensures.own_leaves, cleared_of (length c.args.g.now) c.clear.new.g c.clear.ensures)

pub returns-in-Err-line_heads-clause-plain_line : goal.returns-in-Err-line_heads-clause-plain_line
returns-in-Err-line_heads-clause-plain_line c = own_headed c.args.x.now c.args.from c.args.depth c.args.scope.kinds.now c.args.checking c.args.bound (names_of c.args.scope.names.now c.args.scope.used) c.args.own.now c.args.g.now c.if-checking.true (is_ok c.own_line.result) _ (passed c.own_line.result c.in_default.not-Err) c.own_line.ensures.own_line false c.line_heads.new.g (heads_said c.args.x.now c.args.depth c.args.scope.kinds.now (names_of c.args.scope.names.now c.args.scope.used) c.args.g.now (is_ok c.line_heads.result) false _ (ap is_ok c.in-Err-line_heads.is) c.line_heads.ensures.line_heads)

pub returns-in-Err-line_heads-clause-plain_leaves : goal.returns-in-Err-line_heads-clause-plain_leaves
returns-in-Err-line_heads-clause-plain_leaves c = (cleared_of (length c.own_line.new.own) c.clear-in-Err-line_heads.new.g c.clear-in-Err-line_heads.ensures, heads_cleared (is_ok c.line_heads.result) c.args.g.now _ (ap is_ok c.in-Err-line_heads.is) c.line_heads.ensures.heads_leave)

pub returns-then-checking-clause-plain_line : goal.returns-then-checking-clause-plain_line
returns-then-checking-clause-plain_line c = own_headed c.args.x.now c.args.from c.args.depth c.args.scope.kinds.now c.args.checking c.args.bound (names_of c.args.scope.names.now c.args.scope.used) c.args.own.now c.args.g.now c.if-checking.true (is_ok c.own_line.result) _ (passed c.own_line.result c.in_default.not-Err) c.own_line.ensures.own_line true _ (heads_said c.args.x.now c.args.depth c.args.scope.kinds.now (names_of c.args.scope.names.now c.args.scope.used) c.args.g.now (is_ok c.line_heads.result) true _ (passed c.line_heads.result c.in_default-line_heads.not-Err) c.line_heads.ensures.line_heads)

pub returns-then-checking-clause-plain_leaves : goal.returns-then-checking-clause-plain_leaves
returns-then-checking-clause-plain_leaves c = (own_filled c.args.checking c.args.own.now c.own_line.new.own c.if-checking.true c.args.x.now c.args.from c.args.bound c.args.depth c.args.scope.kinds.now (names_of c.args.scope.names.now c.args.scope.used) (leaves_kept (is_ok c.own_line.result) _ _ (passed c.own_line.result c.in_default.not-Err) c.own_line.ensures.own_leaves), heads_left (is_ok c.line_heads.result) c.args.g.now _ (passed c.line_heads.result c.in_default-line_heads.not-Err) c.line_heads.ensures.heads_leave)

pub returns-then-drive_outside-clause-plain_line : goal.returns-then-drive_outside-clause-plain_line
returns-then-drive_outside-clause-plain_line c = outside_refused c.args.x.now c.args.from c.args.depth c.args.scope.kinds.now c.args.checking c.args.bound (names_of c.args.scope.names.now c.args.scope.used) c.args.own.now c.args.g.now c.if-checking.false c.drive_outside.result c.if-drive_outside.true c.drive_outside.ensures

pub returns-then-drive_outside-clause-plain_leaves : goal.returns-then-drive_outside-clause-plain_leaves
returns-then-drive_outside-clause-plain_leaves c = (cleared_of (length c.args.own.now) c.clear-then-drive_outside.new.g c.clear-then-drive_outside.ensures, cleared_of (length c.args.g.now) c.clear-then-drive_outside-2.new.g c.clear-then-drive_outside-2.ensures)

pub returns-clause-plain_line : goal.returns-clause-plain_line
returns-clause-plain_line c = outside_headed c.args.x.now c.args.from c.args.depth c.args.scope.kinds.now c.args.checking c.args.bound (names_of c.args.scope.names.now c.args.scope.used) c.args.own.now c.args.g.now c.if-checking.false c.drive_outside.result c.if-drive_outside.false c.drive_outside.ensures true _ (heads_said c.args.x.now c.args.depth c.args.scope.kinds.now (names_of c.args.scope.names.now c.args.scope.used) c.args.g.now (is_ok c.line_heads-2.result) true _ (passed c.line_heads-2.result c.in_default-line_heads-2.not-Err) c.line_heads-2.ensures.line_heads)

pub returns-clause-plain_leaves : goal.returns-clause-plain_leaves
returns-clause-plain_leaves c = (own_same c.args.checking c.args.own.now, heads_left (is_ok c.line_heads-2.result) c.args.g.now _ (passed c.line_heads-2.result c.in_default-line_heads-2.not-Err) c.line_heads-2.ensures.heads_leave)

pub returns-in-Err-line_heads-2-clause-plain_line : goal.returns-in-Err-line_heads-2-clause-plain_line
returns-in-Err-line_heads-2-clause-plain_line c = outside_headed c.args.x.now c.args.from c.args.depth c.args.scope.kinds.now c.args.checking c.args.bound (names_of c.args.scope.names.now c.args.scope.used) c.args.own.now c.args.g.now c.if-checking.false c.drive_outside.result c.if-drive_outside.false c.drive_outside.ensures false c.line_heads-2.new.g (heads_said c.args.x.now c.args.depth c.args.scope.kinds.now (names_of c.args.scope.names.now c.args.scope.used) c.args.g.now (is_ok c.line_heads-2.result) false _ (ap is_ok c.in-Err-line_heads-2.is) c.line_heads-2.ensures.line_heads)

pub returns-in-Err-line_heads-2-clause-plain_leaves : goal.returns-in-Err-line_heads-2-clause-plain_leaves
returns-in-Err-line_heads-2-clause-plain_leaves c = (cleared_of (length c.args.own.now) c.clear-in-Err-line_heads-2.new.g c.clear-in-Err-line_heads-2.ensures, heads_cleared (is_ok c.line_heads-2.result) c.args.g.now _ (ap is_ok c.in-Err-line_heads-2.is) c.line_heads-2.ensures.heads_leave)
