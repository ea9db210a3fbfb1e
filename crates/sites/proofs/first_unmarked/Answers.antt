use mathlib.Core.Path.{◌∙◌}
use native.Mathlib.Omega.{arith}
use Rattle.sites.proofs.Marks.{unmarked_end, unmarked_gap, unmarked_more, unmarked_start}
use Rattle.sites.proofs.first_unmarked.Goals as goal

pub loop-b-init : goal.loop-b-init
loop-b-init c = unmarked_start c.args.marks.now c.args.limit

pub bounds-marks-b : goal.bounds-marks-b
bounds-marks-b c = omega arith

pub returns-then-marks-b-ne1 : goal.returns-then-marks-b-ne1
returns-then-marks-b-ne1 c = unmarked_gap c.args.marks.now c.loop-b.b c.args.limit c.loop-b-test.true c.if-marks-b-ne1.true ∙ c.loop-b.invariant

pub loop-b-preserved : goal.loop-b-preserved
loop-b-preserved c = unmarked_more c.args.marks.now c.loop-b.b c.args.limit c.loop-b-test.true c.if-marks-b-ne1.false ∙ c.loop-b.invariant

pub returns : goal.returns
returns c = unmarked_end c.args.marks.now c.loop-b.b c.args.limit c.loop-b-test.false ∙ c.loop-b.invariant
