use mathlib.Core.Path.{refl, sym, ◌∙◌}
use lib.ListN.{length}
use Rattle.report.specs.Line.{walk_tail}
use Rattle.report.proofs.Laws.{put_fits, put_full, has_room}
use Rattle.report.proofs.put_walk_tail.Goals as goal

pub write_word-requires : goal.write_word-requires
write_word-requires c = has_room (walk_tail) c.args.at (3) (length c.args.buf.now) refl (sym c.has_room.ensures ∙ c.if-has_room.true)

pub returns-then-has_room : goal.returns-then-has_room
returns-then-has_room c = put_fits (3) refl (sym c.has_room.ensures ∙ c.if-has_room.true) c.write_word.ensures

pub returns-else-has_room : goal.returns-else-has_room
returns-else-has_room c = put_full c.args.buf.now (walk_tail) c.args.at (3) refl (sym c.has_room.ensures ∙ c.if-has_room.false)
