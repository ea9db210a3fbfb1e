use mathlib.Core.Path.{sym, ◌∙◌}
use lib.ListN.{length}
use Rattle.report.specs.Line.{refused_line}
use Rattle.report.proofs.Laws.{put_fits, put_full, has_room}
use Rattle.report.proofs.put_refused.Goals as goal

pub write_refused-requires : goal.write_refused-requires
write_refused-requires c = has_room (refused_line c.args.number c.args.line) c.args.at c.count_refused.result (length c.args.buf.now) c.count_refused.ensures.0 (sym c.has_room.ensures ∙ c.if-has_room.true)

pub returns-then-has_room : goal.returns-then-has_room
returns-then-has_room c = put_fits c.count_refused.result c.count_refused.ensures.0 (sym c.has_room.ensures ∙ c.if-has_room.true) c.write_refused.ensures

pub returns-else-has_room : goal.returns-else-has_room
returns-else-has_room c = put_full c.args.buf.now (refused_line c.args.number c.args.line) c.args.at c.count_refused.result c.count_refused.ensures.0 (sym c.has_room.ensures ∙ c.if-has_room.false)
