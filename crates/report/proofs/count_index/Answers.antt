use mathlib.Core.Path.{◌≡◌, ap, ◌∙◌}
use Prim.Native.Nat.{◌+◌, ◌-◌}
use native.Mathlib.Omega.{arith}
use lib.ListN.{length}
use Rattle.spec.specs.Bytes.{show_number}
use Rattle.report.specs.Line.{index_bytes}
use Rattle.report.proofs.Laws.{index_low, index_high}
use Rattle.report.proofs.count_index.Goals as goal

pub returns-then-v-lt-ZERO : goal.returns-then-v-lt-ZERO
returns-then-v-lt-ZERO c = let e : length (index_bytes c.args.index) ≡ 1 + length (show_number (2147483648 - c.in-Some.v)) = rw c.in-Some.is (ap length (index_low c.in-Some.v c.if-v-lt-ZERO.true) ∙ omega arith) in
    omega (arith, e, c.count_number.ensures)

pub returns-else-v-lt-ZERO : goal.returns-else-v-lt-ZERO
returns-else-v-lt-ZERO c = let e : length (index_bytes c.args.index) ≡ length (show_number (c.in-Some.v - 2147483648)) = rw c.in-Some.is (ap length (index_high c.in-Some.v c.if-v-lt-ZERO.false)) in
    omega (arith, e, c.count_number-else-v-lt-ZERO.ensures)
