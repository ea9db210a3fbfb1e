use mathlib.Core.Path.{sym, ap, ap₂, subst, ◌∙◌}
use native.Mathlib.Omega.{arith}
use Prim.Native.Nat.{◌+◌, ◌<◌}
use lib.ListN.{length, take, length-drop}
use Rattle.spec.specs.Bytes.{Bytes}
use Rattle.lines.proofs.PartLaws.{rest_in}
use Rattle.cases.specs.Answer.{agrees}
use Rattle.cases.proofs.Filed.{Ahead, within, ahead_all, ahead_end, ahead_bad, ahead_same, ahead_differs}
use Rattle.cases.proofs.run.run.Goals as goal
use Rattle.cases.proofs.run.run.Goals.{then-not-compare, else-not-compare}

pub loop-t-init : goal.loop-t-init
loop-t-init g c = ahead_all c.args.s.now

pub returns-in_default : goal.returns-in_default
returns-in_default g c = ahead_bad c.args.s.now c.loop-t.t.now c.loop-t.cases c.loop-t.different c.loop-t.invariant c.loop-t-test.true (sym c.record_of.ensures ∙ c.in_default.is)

pub overflow_add-answer : goal.overflow_add-answer
overflow_add-answer g c = let w = within c.loop-t.t.now c.in-Some.r (sym c.record_of.ensures ∙ c.in-Some.is) in omega arith

pub overflow_add-t : goal.overflow_add-t
overflow_add-t g c = let w = within c.loop-t.t.now c.in-Some.r (sym c.record_of.ensures ∙ c.in-Some.is) in omega arith

pub slice_bounds-t-count : goal.slice_bounds-t-count
slice_bounds-t-count g c = let w = within c.loop-t.t.now c.in-Some.r (sym c.record_of.ensures ∙ c.in-Some.is) in omega arith

pub slice_bounds-t-start : goal.slice_bounds-t-start
slice_bounds-t-start g c = let w = within c.loop-t.t.now c.in-Some.r (sym c.record_of.ensures ∙ c.in-Some.is) in omega arith

pub loop-t-smaller : goal.loop-t-smaller
loop-t-smaller g c = subst (λ (l : Bytes). length l < length c.loop-t.t.now) (sym (rest_in c.loop-t.t.now (c.in-Some.r.body + c.in-Some.r.text + c.in-Some.r.answer))) (let w = within c.loop-t.t.now c.in-Some.r (sym c.record_of.ensures ∙ c.in-Some.is) in let d = length-drop (c.in-Some.r.body + c.in-Some.r.text + c.in-Some.r.answer) c.loop-t.t.now in omega arith)

pub loop-t-preserved : goal.loop-t-preserved
loop-t-preserved g c = elim c.if-not-compare.branch [
  | then-not-compare w ↦ rw w.different-is (subst (λ (l : Bytes). Ahead c.args.s.now l (c.loop-t.cases + 1) (c.loop-t.different + 1)) (sym (rest_in c.loop-t.t.now (c.in-Some.r.body + c.in-Some.r.text + c.in-Some.r.answer))) (ahead_differs c.args.s.now c.loop-t.t.now c.loop-t.cases c.loop-t.different c.in-Some.r (sym c.record_of.ensures ∙ c.in-Some.is) c.loop-t-test.true (sym (ap₂ agrees (c.first.ensures ∙ ap (take c.in-Some.r.text) c.rest.ensures) (c.first-in-loop-t.ensures ∙ ap (take c.in-Some.r.answer) c.rest-in-loop-t.ensures)) ∙ sym c.compare.ensures ∙ w.if-not-compare.true) c.loop-t.invariant))
  | else-not-compare w ↦ rw w.different-is (subst (λ (l : Bytes). Ahead c.args.s.now l (c.loop-t.cases + 1) c.loop-t.different) (sym (rest_in c.loop-t.t.now (c.in-Some.r.body + c.in-Some.r.text + c.in-Some.r.answer))) (ahead_same c.args.s.now c.loop-t.t.now c.loop-t.cases c.loop-t.different c.in-Some.r (sym c.record_of.ensures ∙ c.in-Some.is) c.loop-t-test.true (sym (ap₂ agrees (c.first.ensures ∙ ap (take c.in-Some.r.text) c.rest.ensures) (c.first-in-loop-t.ensures ∙ ap (take c.in-Some.r.answer) c.rest-in-loop-t.ensures)) ∙ sym c.compare.ensures ∙ w.if-not-compare.false) c.loop-t.invariant))
]

pub returns : goal.returns
returns g c = ahead_end c.args.s.now c.loop-t.t.now c.loop-t.cases c.loop-t.different c.loop-t.invariant c.loop-t-test.false
