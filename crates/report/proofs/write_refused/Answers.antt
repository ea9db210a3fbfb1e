use mathlib.Core.Path.{sym, subst}
use Prim.Native.Nat.{◌+◌, ◌≤◌}
use lib.ListN.{length}
use mathlib.Core.List.{[], ◌∷◌, ◌++◌}
use Rattle.spec.specs.Bytes.{Bytes, bytes}
use Rattle.report.specs.Line.{field}
use Rattle.report.proofs.Laws.{then, room, room_first, cast, refused_pieces}
use Rattle.report.proofs.write_refused.Goals as goal

pub write_word-a-requires : goal.write_word-a-requires
write_word-a-requires c = let p = subst (λ (s : Bytes). c.args.at + length s ≤ length c.args.buf.now) (refused_pieces c.args.number c.args.line) c.requires in
    room_first (bytes "(refused") ((field c.args.number) ++ ((field c.args.line) ++ ((41 ∷ 10 ∷ [])))) c.args.at (p)

pub write_field-b-requires : goal.write_field-b-requires
write_field-b-requires c = let p = subst (λ (s : Bytes). c.args.at + length s ≤ length c.args.buf.now) (refused_pieces c.args.number c.args.line) c.requires in
    let h0 = room ((field c.args.number) ++ ((field c.args.line) ++ ((41 ∷ 10 ∷ [])))) c.write_word-a.ensures (p) in
    room_first (field c.args.number) ((field c.args.line) ++ ((41 ∷ 10 ∷ []))) c.write_word-a.result (h0)

pub write_field-c-requires : goal.write_field-c-requires
write_field-c-requires c = let p = subst (λ (s : Bytes). c.args.at + length s ≤ length c.args.buf.now) (refused_pieces c.args.number c.args.line) c.requires in
    let h0 = room ((field c.args.number) ++ ((field c.args.line) ++ ((41 ∷ 10 ∷ [])))) c.write_word-a.ensures (p) in
    let h1 = room ((field c.args.line) ++ ((41 ∷ 10 ∷ []))) c.write_field-b.ensures (h0) in
    room_first (field c.args.line) ((41 ∷ 10 ∷ [])) c.write_field-b.result (h1)

pub write_word-requires : goal.write_word-requires
write_word-requires c = let p = subst (λ (s : Bytes). c.args.at + length s ≤ length c.args.buf.now) (refused_pieces c.args.number c.args.line) c.requires in
    let h0 = room ((field c.args.number) ++ ((field c.args.line) ++ ((41 ∷ 10 ∷ [])))) c.write_word-a.ensures (p) in
    let h1 = room ((field c.args.line) ++ ((41 ∷ 10 ∷ []))) c.write_field-b.ensures (h0) in
    let h2 = room ((41 ∷ 10 ∷ [])) c.write_field-c.ensures (h1) in
    h2

pub returns : goal.returns
returns c = cast (sym (refused_pieces _ _)) (then c.write_word-a.ensures (then c.write_field-b.ensures (then c.write_field-c.ensures c.write_word.ensures)))
