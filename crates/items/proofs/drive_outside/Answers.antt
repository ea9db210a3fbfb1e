use Rattle.lines.proofs.KindLaws.{not_out, is_out}
use lib.ListN.{get_or}
use mathlib.Core.Path.{refl, sym, ◌∙◌}
use Rattle.consteval.specs.Worth.{names_of}
use Rattle.items.proofs.DriveLaws.{no_drive, other_kind, output_kind, says_err}
use Rattle.items.proofs.drive_outside.Goals as goal

pub returns-then-byte-ne100 : goal.returns-then-byte-ne100
returns-then-byte-ne100 c = no_drive c.args.x.now c.args.depth c.args.scope.kinds.now (names_of c.args.scope.names.now c.args.scope.used) (λ e. c.if-byte-ne100.true (c.byte.ensures ∙ e))

pub returns-then-ne : goal.returns-then-ne
returns-then-ne c = other_kind c.args.x.now c.args.depth c.args.scope.kinds.now (names_of c.args.scope.names.now c.args.scope.used) (sym c.byte.ensures ∙ c.if-byte-ne100.false) c.part_end.ensures c.between-lv.ensures c.named_at-l.result c.named_at-l.ensures refl (not_out (get_or c.args.scope.kinds.now c.named_at-l.result.name 0) c.kind_at.ensures c.ne.ensures c.if-ne.true)

pub returns : goal.returns
returns c = output_kind c.args.x.now c.args.depth c.args.scope.kinds.now (names_of c.args.scope.names.now c.args.scope.used) (sym c.byte.ensures ∙ c.if-byte-ne100.false) c.part_end.ensures c.between-lv.ensures c.named_at-l.result c.named_at-l.ensures refl (is_out (get_or c.args.scope.kinds.now c.named_at-l.result.name 0) c.kind_at.ensures c.ne.ensures c.if-ne.false) c.lvalue_extent.result c.lvalue_extent.ensures.result_value _ (says_err c.lvalue_extent.result ∙ sym c.is_err.ensures.value)
