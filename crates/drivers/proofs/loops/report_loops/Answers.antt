use mathlib.Core.Path.{refl, ◌∙◌}
use Rattle.drivers.proofs.LoopLaws.{loops_start, loops_out, loops_done, loops_found}
use Rattle.drivers.proofs.loops.report_loops.Goals as goal

pub loop-turn-init : goal.loop-turn-init
loop-turn-init c = (λ hs H A. loops_start hs H A, refl, refl)

pub returns-in-None : goal.returns-in-None
returns-in-None c = λ hs H R. loops_done hs H (c.loop-turn.invariant.0 hs H (c.begin.ensures.awaits hs H R)) c.next_cycle.new.w c.next_cycle.result c.next_cycle.ensures.next c.in-None.is

pub loop-turn-preserved : goal.loop-turn-preserved
loop-turn-preserved c = (λ hs H A. loops_found hs H (c.loop-turn.invariant.0 hs H A) c.next_cycle.new.w c.next_cycle.result c.next_cycle.ensures.next c.in-Some.is c.report_loop-q.ensures, c.next_cycle.auto.w ∙ c.loop-turn.invariant.1, c.report_loop-q.auto.buf ∙ c.loop-turn.invariant.2)

pub returns : goal.returns
returns c = λ hs H R. loops_out hs H (c.loop-turn.invariant.0 hs H (c.begin.ensures.awaits hs H R)) c.loop-turn-test.false
