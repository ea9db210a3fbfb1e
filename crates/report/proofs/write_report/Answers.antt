use mathlib.Core.Path.{sym, subst}
use Prim.Native.Nat.{◌+◌, ◌≤◌}
use lib.ListN.{length}
use Rattle.spec.specs.Bytes.{Bytes}
use Rattle.report.specs.Line.{code_digit, line_head, detail_end}
use Rattle.report.proofs.Laws.{then, room, room_first, cast, line_pieces}
use Rattle.report.proofs.write_report.Goals as goal

pub write_head-a-requires : goal.write_head-a-requires
write_head-a-requires c = rw c.code_digit-digit.ensures (room_first (line_head (code_digit c.args.x.detail) c.args.x.number c.args.x.start c.args.x.name) (detail_end c.args.x.detail) c.args.at (subst (λ (s : Bytes). c.args.at + length s ≤ length c.args.buf.now) (line_pieces c.args.x) c.requires))

pub write_detail-requires : goal.write_detail-requires
write_detail-requires c = room (detail_end c.args.x.detail) (rw c.code_digit-digit.ensures at c.write_head-a.ensures) (subst (λ (s : Bytes). c.args.at + length s ≤ length c.args.buf.now) (line_pieces c.args.x) c.requires)

pub returns : goal.returns
returns c = cast (sym (line_pieces c.args.x)) (then (rw c.code_digit-digit.ensures at c.write_head-a.ensures) c.write_detail.ensures)
