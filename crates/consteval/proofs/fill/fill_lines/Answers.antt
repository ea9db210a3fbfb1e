use native.Mathlib.Omega.{arith}
use Rattle.std.proofs.Common.{rules, Ok, Err}
use Rattle.consteval.proofs.FillLaws.{line_end_le, lines_end, line_skips, line_stops, line_puts, line_full, pushed_length, full_is}
use Rattle.consteval.specs.Fill.{Filled, filling, entries_of}
use Rattle.consteval.specs.declared.fill.FillError.TheVariants.{Short}
use Rattle.spec.specs.Refusal.{lines}
use lib.ListN.{length, drop}
use mathlib.Core.List.{List}
use mathlib.Core.Path.{◌≡◌, sym, ap, ap₂, ◌∙◌}
use Prim.Native.Nat.{ℕ, ◌+◌}
use Rattle.consteval.proofs.fill.fill_lines.Goals.{in-Some+else-not-push, in_default}
use Rattle.consteval.proofs.fill.fill_lines.Goals as goal

pub slice_bounds-entry-end : goal.slice_bounds-entry-end
slice_bounds-entry-end c = omega (arith, c.end_of-e.ensures, line_end_le c.args.s.now c.loop-at.at (omega arith))

pub returns-in_err-n : goal.returns-in_err-n
returns-in_err-n c =
    let e : ◌≡◌ {A = Filled} c.from_residual.result (Err c.in_err-n.field-0.0) = search rules in
    ap (λ (r : Filled). filling r c.loop-at.names) e ∙ sym (c.loop-at.invariant.1 ∙ line_stops c.args.from c.args.s.now c.loop-at.at c.loop-at.names c.loop-at.used c.loop-at-test.true c.end_of-e.ensures c.entry.ensures c.in_err-n.was)

pub returns-then-not-push : goal.returns-then-not-push
returns-then-not-push c =
    ap (filling (Err Short)) (full_is _ _ _ _ _ c.push.ensures.names_after (sym c.push.ensures.value ∙ c.if-not-push.true))
    ∙ sym (c.loop-at.invariant.1 ∙ line_full c.args.from c.args.s.now c.loop-at.at c.loop-at.names c.loop-at.used c.loop-at-test.true c.end_of-e.ensures c.entry.ensures (c.in_ok-n.was ∙ ap Ok c.in-Some.is) (sym c.push.ensures.value ∙ c.if-not-push.true))

pub loop-at-preserved : goal.loop-at-preserved
loop-at-preserved c =
    let rest : (t : List ℕ) (u : ℕ) → c.match-branch-2.names ≡ t → c.match-branch-2.used ≡ u
    → entries_of c.args.from (lines (drop (c.end_of-e.result + 1) c.args.s.now)) t u ≡ entries_of c.args.from (lines (drop (c.end_of-e.result + 1) c.args.s.now)) c.match-branch-2.names c.match-branch-2.used
    = λ t u p q. sym (ap₂ (entries_of c.args.from (lines (drop (c.end_of-e.result + 1) c.args.s.now))) p q) in
    elim c.match-branch-2.branch [
      | in-Some+else-not-push w ↦ (
        ap length w.names-is ∙ pushed_length _ _ _ _ _ w.push.ensures.names_after ∙ c.loop-at.invariant.0,
        c.loop-at.invariant.1 ∙ line_puts c.args.from c.args.s.now c.loop-at.at c.loop-at.names c.loop-at.used c.loop-at-test.true c.end_of-e.ensures c.entry.ensures (c.in_ok-n.was ∙ ap Ok w.in-Some.is) (sym w.push.ensures.value ∙ w.if-not-push.false)
            ∙ rest _ _ (w.names-is ∙ w.push.ensures.names_after) w.used-is,
      )
      | in_default w ↦ (
        ap length w.names-is ∙ c.loop-at.invariant.0,
        c.loop-at.invariant.1 ∙ line_skips c.args.from c.args.s.now c.loop-at.at c.loop-at.names c.loop-at.used c.loop-at-test.true c.end_of-e.ensures c.entry.ensures (c.in_ok-n.was ∙ ap Ok w.in_default.is)
            ∙ rest _ _ w.names-is w.used-is,
      )
    ]

pub returns : goal.returns
returns c = sym (c.loop-at.invariant.1 ∙ lines_end c.args.from c.args.s.now c.loop-at.at c.loop-at.names c.loop-at.used c.loop-at-test.false)
