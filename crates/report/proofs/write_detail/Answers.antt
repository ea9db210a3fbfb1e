use mathlib.Core.Path.{sym, ap, subst, ◌∙◌}
use Prim.Native.Nat.{◌+◌, ◌≤◌}
use native.Mathlib.Omega.{arith}
use lib.ListN.{length}
use mathlib.Core.List.{[], ◌∷◌, ◌++◌}
use Rattle.spec.specs.Bytes.{show_rest}
use Rattle.report.specs.Line.{field, detail_end}
use Rattle.report.specs.declared.Detail.{Detail}
use Rattle.report.proofs.Laws.{then, room, room_first, cast, gap_pieces, gap_room}
use Rattle.report.proofs.write_detail.Goals as goal

pub write_word-requires : goal.write_word-requires
unfolding detail_end show_rest
write_word-requires c = subst (λ (x : Detail). c.args.at + length (detail_end x) ≤ length c.args.buf.now) c.in-Wire.is c.requires

pub write_word-requires-in-Reg : goal.write_word-requires-in-Reg
unfolding detail_end show_rest
write_word-requires-in-Reg c = subst (λ (x : Detail). c.args.at + length (detail_end x) ≤ length c.args.buf.now) c.in-Reg.is c.requires

pub write_word-requires-in-Mem : goal.write_word-requires-in-Mem
unfolding detail_end show_rest
write_word-requires-in-Mem c = subst (λ (x : Detail). c.args.at + length (detail_end x) ≤ length c.args.buf.now) c.in-Mem.is c.requires

pub write_word-requires-in-Arrow : goal.write_word-requires-in-Arrow
unfolding detail_end show_rest
write_word-requires-in-Arrow c = subst (λ (x : Detail). c.args.at + length (detail_end x) ≤ length c.args.buf.now) c.in-Arrow.is c.requires

pub write_word-requires-in-Many : goal.write_word-requires-in-Many
unfolding detail_end show_rest
write_word-requires-in-Many c = subst (λ (x : Detail). c.args.at + length (detail_end x) ≤ length c.args.buf.now) c.in-Many.is c.requires

pub write_word-requires-in-Never : goal.write_word-requires-in-Never
unfolding detail_end show_rest
write_word-requires-in-Never c = subst (λ (x : Detail). c.args.at + length (detail_end x) ≤ length c.args.buf.now) c.in-Never.is c.requires

pub write_word-a-requires : goal.write_word-a-requires
unfolding detail_end show_rest
write_word-a-requires c = let p = subst (λ (x : Detail). c.args.at + length (detail_end x) ≤ length c.args.buf.now) c.in-Gap.is c.requires in
    omega arith

pub write_field-b-requires : goal.write_field-b-requires
unfolding detail_end show_rest field
write_field-b-requires c = let p = subst (λ (x : Detail). c.args.at + length (detail_end x) ≤ length c.args.buf.now) c.in-Gap.is c.requires in
    let h = room (field c.in-Gap.bit ++ (41 ∷ 10 ∷ [])) c.write_word-a.ensures (gap_room c.args.at _ p) in
    room_first (field c.in-Gap.bit) (41 ∷ 10 ∷ []) c.write_word-a.result h

pub write_word-requires-in-Gap : goal.write_word-requires-in-Gap
unfolding detail_end show_rest field
write_word-requires-in-Gap c = let p = subst (λ (x : Detail). c.args.at + length (detail_end x) ≤ length c.args.buf.now) c.in-Gap.is c.requires in
    let h = room (field c.in-Gap.bit ++ (41 ∷ 10 ∷ [])) c.write_word-a.ensures (gap_room c.args.at _ p) in
    room (41 ∷ 10 ∷ []) c.write_field-b.ensures h

pub write_word-requires-in-NoBlock : goal.write_word-requires-in-NoBlock
unfolding detail_end show_rest
write_word-requires-in-NoBlock c = subst (λ (x : Detail). c.args.at + length (detail_end x) ≤ length c.args.buf.now) c.in-NoBlock.is c.requires

pub write_word-requires-in-Blocks : goal.write_word-requires-in-Blocks
unfolding detail_end show_rest
write_word-requires-in-Blocks c = subst (λ (x : Detail). c.args.at + length (detail_end x) ≤ length c.args.buf.now) c.in-Blocks.is c.requires

pub write_word-requires-in-MemBlocks : goal.write_word-requires-in-MemBlocks
unfolding detail_end show_rest
write_word-requires-in-MemBlocks c = subst (λ (x : Detail). c.args.at + length (detail_end x) ≤ length c.args.buf.now) c.in-MemBlocks.is c.requires

pub returns-in-Wire : goal.returns-in-Wire
unfolding detail_end show_rest
returns-in-Wire c = rw c.in-Wire.is c.write_word.ensures

pub returns-in-Reg : goal.returns-in-Reg
unfolding detail_end show_rest
returns-in-Reg c = rw c.in-Reg.is c.write_word-in-Reg.ensures

pub returns-in-Mem : goal.returns-in-Mem
unfolding detail_end show_rest
returns-in-Mem c = rw c.in-Mem.is c.write_word-in-Mem.ensures

pub returns-in-Arrow : goal.returns-in-Arrow
unfolding detail_end show_rest
returns-in-Arrow c = rw c.in-Arrow.is c.write_word-in-Arrow.ensures

pub returns-in-Many : goal.returns-in-Many
unfolding detail_end show_rest
returns-in-Many c = rw c.in-Many.is c.write_word-in-Many.ensures

pub returns-in-Never : goal.returns-in-Never
unfolding detail_end show_rest
returns-in-Never c = rw c.in-Never.is c.write_word-in-Never.ensures

pub returns-in-Gap : goal.returns-in-Gap
returns-in-Gap c = cast (sym (ap detail_end c.in-Gap.is ∙ gap_pieces _)) (then c.write_word-a.ensures (then c.write_field-b.ensures c.write_word-in-Gap.ensures))

pub returns-in-NoBlock : goal.returns-in-NoBlock
unfolding detail_end show_rest
returns-in-NoBlock c = rw c.in-NoBlock.is c.write_word-in-NoBlock.ensures

pub returns-in-Blocks : goal.returns-in-Blocks
unfolding detail_end show_rest
returns-in-Blocks c = rw c.in-Blocks.is c.write_word-in-Blocks.ensures

pub returns-in-MemBlocks : goal.returns-in-MemBlocks
unfolding detail_end show_rest
returns-in-MemBlocks c = rw c.in-MemBlocks.is c.write_word-in-MemBlocks.ensures
