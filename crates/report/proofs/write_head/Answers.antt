use mathlib.Core.List.{[], ◌∷◌, ◌++◌}
use Rattle.spec.specs.Bytes.{bytes}
use Rattle.report.specs.Line.{field, line_head}
use Rattle.report.proofs.Laws.{then, room, room_first}
use Rattle.report.proofs.write_head.Goals as goal

pub write_word-a-requires : goal.write_word-a-requires
unfolding line_head
write_word-a-requires c = room_first (bytes "(E050") ((c.args.digit ∷ []) ++ ((field c.args.m) ++ ((field c.args.start) ++ ((field c.args.name))))) c.args.at c.requires

pub write_word-b-requires : goal.write_word-b-requires
unfolding line_head
write_word-b-requires c = let h0 = room ((c.args.digit ∷ []) ++ ((field c.args.m) ++ ((field c.args.start) ++ ((field c.args.name))))) c.write_word-a.ensures c.requires in
    room_first (c.args.digit ∷ []) ((field c.args.m) ++ ((field c.args.start) ++ ((field c.args.name)))) c.write_word-a.result (h0)

pub write_field-c-requires : goal.write_field-c-requires
unfolding line_head
write_field-c-requires c = let h0 = room ((c.args.digit ∷ []) ++ ((field c.args.m) ++ ((field c.args.start) ++ ((field c.args.name))))) c.write_word-a.ensures c.requires in
    let h1 = room ((field c.args.m) ++ ((field c.args.start) ++ ((field c.args.name)))) c.write_word-b.ensures (h0) in
    room_first (field c.args.m) ((field c.args.start) ++ ((field c.args.name))) c.write_word-b.result (h1)

pub write_field-d-requires : goal.write_field-d-requires
unfolding line_head
write_field-d-requires c = let h0 = room ((c.args.digit ∷ []) ++ ((field c.args.m) ++ ((field c.args.start) ++ ((field c.args.name))))) c.write_word-a.ensures c.requires in
    let h1 = room ((field c.args.m) ++ ((field c.args.start) ++ ((field c.args.name)))) c.write_word-b.ensures (h0) in
    let h2 = room ((field c.args.start) ++ ((field c.args.name))) c.write_field-c.ensures (h1) in
    room_first (field c.args.start) ((field c.args.name)) c.write_field-c.result (h2)

pub write_field-requires : goal.write_field-requires
unfolding line_head
write_field-requires c = let h0 = room ((c.args.digit ∷ []) ++ ((field c.args.m) ++ ((field c.args.start) ++ ((field c.args.name))))) c.write_word-a.ensures c.requires in
    let h1 = room ((field c.args.m) ++ ((field c.args.start) ++ ((field c.args.name)))) c.write_word-b.ensures (h0) in
    let h2 = room ((field c.args.start) ++ ((field c.args.name))) c.write_field-c.ensures (h1) in
    let h3 = room ((field c.args.name)) c.write_field-d.ensures (h2) in
    h3

pub returns : goal.returns
unfolding line_head
returns c = then c.write_word-a.ensures (then c.write_word-b.ensures (then c.write_field-c.ensures (then c.write_field-d.ensures c.write_field.ensures)))
