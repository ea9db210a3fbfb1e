use mathlib.Core.List.{◌++◌}
use Rattle.spec.specs.Bytes.{bytes}
use Rattle.report.specs.Line.{field, walk_head}
use Rattle.report.proofs.Laws.{then, room, room_first}
use Rattle.report.proofs.write_walk_head.Goals as goal

pub write_word-a-requires : goal.write_word-a-requires
unfolding walk_head
write_word-a-requires c = room_first (bytes "(E0504") ((field c.args.m) ++ ((field c.args.start) ++ ((bytes " (walk")))) c.args.at c.requires

pub write_field-b-requires : goal.write_field-b-requires
unfolding walk_head
write_field-b-requires c = let h0 = room ((field c.args.m) ++ ((field c.args.start) ++ ((bytes " (walk")))) c.write_word-a.ensures c.requires in
    room_first (field c.args.m) ((field c.args.start) ++ ((bytes " (walk"))) c.write_word-a.result (h0)

pub write_field-c-requires : goal.write_field-c-requires
unfolding walk_head
write_field-c-requires c = let h0 = room ((field c.args.m) ++ ((field c.args.start) ++ ((bytes " (walk")))) c.write_word-a.ensures c.requires in
    let h1 = room ((field c.args.start) ++ ((bytes " (walk"))) c.write_field-b.ensures (h0) in
    room_first (field c.args.start) ((bytes " (walk")) c.write_field-b.result (h1)

pub write_word-requires : goal.write_word-requires
unfolding walk_head
write_word-requires c = let h0 = room ((field c.args.m) ++ ((field c.args.start) ++ ((bytes " (walk")))) c.write_word-a.ensures c.requires in
    let h1 = room ((field c.args.start) ++ ((bytes " (walk"))) c.write_field-b.ensures (h0) in
    let h2 = room ((bytes " (walk")) c.write_field-c.ensures (h1) in
    h2

pub returns : goal.returns
unfolding walk_head
returns c = then c.write_word-a.ensures (then c.write_field-b.ensures (then c.write_field-c.ensures c.write_word.ensures))
