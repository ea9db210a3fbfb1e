use mathlib.Core.List.{[], ◌∷◌, ◌++◌}
use Rattle.spec.specs.Bytes.{bytes}
use Rattle.report.specs.Line.{field, index_bytes, output_bytes}
use Rattle.report.proofs.Laws.{then, room, room_first}
use Rattle.report.proofs.write_output.Goals as goal

pub write_word-a-requires : goal.write_word-a-requires
unfolding output_bytes
write_word-a-requires c = room_first (bytes " (u") ((field c.args.inst) ++ ((32 ∷ []) ++ ((index_bytes c.args.index) ++ ((field c.args.out) ++ ((41 ∷ [])))))) c.args.at c.requires

pub write_field-b-requires : goal.write_field-b-requires
unfolding output_bytes
write_field-b-requires c = let h0 = room ((field c.args.inst) ++ ((32 ∷ []) ++ ((index_bytes c.args.index) ++ ((field c.args.out) ++ ((41 ∷ [])))))) c.write_word-a.ensures c.requires in
    room_first (field c.args.inst) ((32 ∷ []) ++ ((index_bytes c.args.index) ++ ((field c.args.out) ++ ((41 ∷ []))))) c.write_word-a.result (h0)

pub write_word-c-requires : goal.write_word-c-requires
unfolding output_bytes
write_word-c-requires c = let h0 = room ((field c.args.inst) ++ ((32 ∷ []) ++ ((index_bytes c.args.index) ++ ((field c.args.out) ++ ((41 ∷ [])))))) c.write_word-a.ensures c.requires in
    let h1 = room ((32 ∷ []) ++ ((index_bytes c.args.index) ++ ((field c.args.out) ++ ((41 ∷ []))))) c.write_field-b.ensures (h0) in
    room_first (32 ∷ []) ((index_bytes c.args.index) ++ ((field c.args.out) ++ ((41 ∷ [])))) c.write_field-b.result (h1)

pub write_index-d-requires : goal.write_index-d-requires
unfolding output_bytes
write_index-d-requires c = let h0 = room ((field c.args.inst) ++ ((32 ∷ []) ++ ((index_bytes c.args.index) ++ ((field c.args.out) ++ ((41 ∷ [])))))) c.write_word-a.ensures c.requires in
    let h1 = room ((32 ∷ []) ++ ((index_bytes c.args.index) ++ ((field c.args.out) ++ ((41 ∷ []))))) c.write_field-b.ensures (h0) in
    let h2 = room ((index_bytes c.args.index) ++ ((field c.args.out) ++ ((41 ∷ [])))) c.write_word-c.ensures (h1) in
    room_first (index_bytes c.args.index) ((field c.args.out) ++ ((41 ∷ []))) c.write_word-c.result (h2)

pub write_field-e-requires : goal.write_field-e-requires
unfolding output_bytes
write_field-e-requires c = let h0 = room ((field c.args.inst) ++ ((32 ∷ []) ++ ((index_bytes c.args.index) ++ ((field c.args.out) ++ ((41 ∷ [])))))) c.write_word-a.ensures c.requires in
    let h1 = room ((32 ∷ []) ++ ((index_bytes c.args.index) ++ ((field c.args.out) ++ ((41 ∷ []))))) c.write_field-b.ensures (h0) in
    let h2 = room ((index_bytes c.args.index) ++ ((field c.args.out) ++ ((41 ∷ [])))) c.write_word-c.ensures (h1) in
    let h3 = room ((field c.args.out) ++ ((41 ∷ []))) c.write_index-d.ensures (h2) in
    room_first (field c.args.out) ((41 ∷ [])) c.write_index-d.result (h3)

pub write_word-requires : goal.write_word-requires
unfolding output_bytes
write_word-requires c = let h0 = room ((field c.args.inst) ++ ((32 ∷ []) ++ ((index_bytes c.args.index) ++ ((field c.args.out) ++ ((41 ∷ [])))))) c.write_word-a.ensures c.requires in
    let h1 = room ((32 ∷ []) ++ ((index_bytes c.args.index) ++ ((field c.args.out) ++ ((41 ∷ []))))) c.write_field-b.ensures (h0) in
    let h2 = room ((index_bytes c.args.index) ++ ((field c.args.out) ++ ((41 ∷ [])))) c.write_word-c.ensures (h1) in
    let h3 = room ((field c.args.out) ++ ((41 ∷ []))) c.write_index-d.ensures (h2) in
    let h4 = room ((41 ∷ [])) c.write_field-e.ensures (h3) in
    h4

pub returns : goal.returns
unfolding output_bytes
returns c = then c.write_word-a.ensures (then c.write_field-b.ensures (then c.write_word-c.ensures (then c.write_index-d.ensures (then c.write_field-e.ensures c.write_word.ensures))))
