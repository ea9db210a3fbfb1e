use mathlib.Core.Path.{◌≡◌, ap, ◌∙◌}
use Prim.Native.Nat.{◌+◌}
use native.Mathlib.Omega.{arith}
use lib.ListN.{length}
use Rattle.spec.specs.Bytes.{show_number, show_rest}
use Rattle.report.specs.Line.{detail_end}
use Rattle.report.specs.declared.Detail.{Detail}
use Rattle.report.proofs.Laws.{gap_length}
use Rattle.report.proofs.count_detail.Goals as goal

pub returns-in-Wire : goal.returns-in-Wire
unfolding detail_end show_rest
returns-in-Wire c = (rw c.in-Wire.is, omega arith)

pub returns-in-Reg : goal.returns-in-Reg
unfolding detail_end show_rest
returns-in-Reg c = (rw c.in-Reg.is, omega arith)

pub returns-in-Mem : goal.returns-in-Mem
unfolding detail_end show_rest
returns-in-Mem c = (rw c.in-Mem.is, omega arith)

pub returns-in-Arrow : goal.returns-in-Arrow
unfolding detail_end show_rest
returns-in-Arrow c = (rw c.in-Arrow.is, omega arith)

pub returns-in-Many : goal.returns-in-Many
unfolding detail_end show_rest
returns-in-Many c = (rw c.in-Many.is, omega arith)

pub returns-in-Never : goal.returns-in-Never
unfolding detail_end show_rest
returns-in-Never c = (rw c.in-Never.is, omega arith)

pub returns-in-Gap : goal.returns-in-Gap
returns-in-Gap c = let e : length (detail_end c.args.d) ≡ 7 + length (show_number c.in-Gap.b) = ap (λ (x : Detail). length (detail_end x)) c.in-Gap.is ∙ gap_length _ in
    omega (arith, e, c.count_number.ensures)

pub returns-in-NoBlock : goal.returns-in-NoBlock
unfolding detail_end show_rest
returns-in-NoBlock c = (rw c.in-NoBlock.is, omega arith)

pub returns-in-Blocks : goal.returns-in-Blocks
unfolding detail_end show_rest
returns-in-Blocks c = (rw c.in-Blocks.is, omega arith)

pub returns-in-MemBlocks : goal.returns-in-MemBlocks
unfolding detail_end show_rest
returns-in-MemBlocks c = (rw c.in-MemBlocks.is, omega arith)
