use mathlib.Core.Path.{sym, ◌∙◌}
use lib.ListN.{length}
use Rattle.report.specs.Line.{walk_node}
use Rattle.report.proofs.Laws.{put_fits, put_full, has_room}
use Rattle.report.proofs.put_walk_node.Goals as goal

pub write_walk_node-requires : goal.write_walk_node-requires
write_walk_node-requires c = has_room (walk_node c.args.n) c.args.at c.count_walk_node.result (length c.args.buf.now) c.count_walk_node.ensures.0 (sym c.has_room.ensures ∙ c.if-has_room.true)

pub returns-then-has_room : goal.returns-then-has_room
returns-then-has_room c = put_fits c.count_walk_node.result c.count_walk_node.ensures.0 (sym c.has_room.ensures ∙ c.if-has_room.true) c.write_walk_node.ensures

pub returns-else-has_room : goal.returns-else-has_room
returns-else-has_room c = put_full c.args.buf.now (walk_node c.args.n) c.args.at c.count_walk_node.result c.count_walk_node.ensures.0 (sym c.has_room.ensures ∙ c.if-has_room.false)
