use mathlib.Core.Path.{◌≡◌, sym, subst, ap, ◌∙◌}
use Prim.Native.Nat.{◌+◌, ◌-◌, ◌≤◌}
use native.Mathlib.Omega.{arith}
use lib.ListN.{length, length-set}
use mathlib.Core.List.{◌∷◌}
use Rattle.spec.specs.Bytes.{Bytes, show_number}
use Rattle.report.specs.Line.{index_bytes}
use Rattle.report.proofs.Laws.{cast, index_low, index_high, byte_first}
use Rattle.report.proofs.write_index.Goals as goal

pub bounds-buf-at : goal.bounds-buf-at
bounds-buf-at c = let e : index_bytes c.args.index ≡ 45 ∷ show_number (2147483648 - c.in-Some.v) = ap index_bytes c.in-Some.is ∙ index_low c.in-Some.v c.if-v-lt-ZERO.true in
    let p = subst (λ (s : Bytes). c.args.at + length s ≤ length c.args.buf.now) e c.requires in
    omega arith

pub write_number-requires : goal.write_number-requires
write_number-requires c = let e : index_bytes c.args.index ≡ 45 ∷ show_number (2147483648 - c.in-Some.v) = ap index_bytes c.in-Some.is ∙ index_low c.in-Some.v c.if-v-lt-ZERO.true in
    let p = subst (λ (s : Bytes). c.args.at + length s ≤ length c.args.buf.now) e c.requires in
    simp length-set (omega arith)

pub returns-then-v-lt-ZERO : goal.returns-then-v-lt-ZERO
returns-then-v-lt-ZERO c = let e : index_bytes c.args.index ≡ 45 ∷ show_number (2147483648 - c.in-Some.v) = ap index_bytes c.in-Some.is ∙ index_low c.in-Some.v c.if-v-lt-ZERO.true in
    cast (sym e) (byte_first c.args.buf.now c.args.at 45 (show_number (2147483648 - c.in-Some.v)) c.write_number.ensures)

pub write_number-requires-in-Some : goal.write_number-requires-in-Some
write_number-requires-in-Some c = let e : index_bytes c.args.index ≡ show_number (c.in-Some.v - 2147483648) = ap index_bytes c.in-Some.is ∙ index_high c.in-Some.v c.if-v-lt-ZERO.false in
    subst (λ (s : Bytes). c.args.at + length s ≤ length c.args.buf.now) e c.requires

pub returns-else-v-lt-ZERO : goal.returns-else-v-lt-ZERO
returns-else-v-lt-ZERO c = let e : index_bytes c.args.index ≡ show_number (c.in-Some.v - 2147483648) = ap index_bytes c.in-Some.is ∙ index_high c.in-Some.v c.if-v-lt-ZERO.false in
    cast (sym e) c.write_number-in-Some.ensures
