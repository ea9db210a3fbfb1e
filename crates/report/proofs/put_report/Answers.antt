use mathlib.Core.Path.{sym, ◌∙◌}
use lib.ListN.{length}
use Rattle.report.specs.Line.{line}
use Rattle.report.proofs.Laws.{put_fits, put_full, has_room}
use Rattle.report.proofs.put_report.Goals as goal

pub write_report-requires : goal.write_report-requires
write_report-requires c = has_room (line c.args.x) c.args.at c.count_report.result (length c.args.buf.now) c.count_report.ensures.0 (sym c.has_room.ensures ∙ c.if-has_room.true)

pub returns-then-has_room : goal.returns-then-has_room
returns-then-has_room c = put_fits c.count_report.result c.count_report.ensures.0 (sym c.has_room.ensures ∙ c.if-has_room.true) c.write_report.ensures

pub returns-else-has_room : goal.returns-else-has_room
returns-else-has_room c = put_full c.args.buf.now (line c.args.x) c.args.at c.count_report.result c.count_report.ensures.0 (sym c.has_room.ensures ∙ c.if-has_room.false)
