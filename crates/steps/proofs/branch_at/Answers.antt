use Rattle.steps.proofs.StepLaws.{run_short, run_found}
use native.Mathlib.Omega.{arith}
use Rattle.steps.proofs.branch_at.Goals as goal

pub returns-then-end-lt5 : goal.returns-then-end-lt5
returns-then-end-lt5 c = run_short c.args.x.now c.args.e c.next_end-end.ensures (omega (arith, c.if-end-lt5.true))

pub returns-then-end-e : goal.returns-then-end-e
returns-then-end-e c = run_short c.args.x.now c.args.e c.next_end-end.ensures (omega (arith, c.if-end-e.true))

pub returns : goal.returns
returns c = run_found c.args.x.now c.args.e c.next_end-end.ensures (omega (arith, c.if-end-lt5.false, c.if-end-e.false))
