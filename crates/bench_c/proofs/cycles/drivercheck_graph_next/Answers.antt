use Rattle.bench_c.proofs.CyclesLaws.{taken_none, taken_not, taken_loop, next_none, next_no_nodes, next_told}
use native.Mathlib.Omega.{arith}
use Rattle.bench_c.proofs.cycles.drivercheck_graph_next.Goals as goal

pub returns-then-c-clause-taken : goal.returns-then-c-clause-taken
returns-then-c-clause-taken c = λ rs H. taken_not c.next_cycle.result c.args.g.now c.args.w.now c.next_cycle.new.w c.next_cycle.ensures.next rs H _ c.in-Some.is c.if-c.true

pub returns-then-c-clause-next_told : goal.returns-then-c-clause-next_told
returns-then-c-clause-next_told c = next_no_nodes c.next_cycle.result c.args.g.now c.args.w.now c.next_cycle.new.w c.next_cycle.ensures.next_leaves c.next_cycle.ensures.w_after _ c.in-Some.is c.args.nodes.now c.if-c.true

pub returns-in-None-clause-taken : goal.returns-in-None-clause-taken
returns-in-None-clause-taken c = λ rs H. taken_none c.next_cycle.result c.args.g.now c.args.w.now c.next_cycle.new.w c.next_cycle.ensures.next rs H c.in-None.is

pub returns-in-None-clause-next_told : goal.returns-in-None-clause-next_told
returns-in-None-clause-next_told c = next_none c.next_cycle.result c.args.g.now c.args.w.now c.next_cycle.new.w c.next_cycle.ensures.next_leaves c.next_cycle.ensures.w_after c.args.nodes.now c.in-None.is

pub returns-else-c-clause-taken : goal.returns-else-c-clause-taken
returns-else-c-clause-taken c = λ rs H. taken_loop c.next_cycle.result c.args.g.now c.args.w.now c.next_cycle.new.w c.next_cycle.ensures.next rs H _ c.in-Some.is c.args.nodes.now _ _ c.copy.ensures

pub returns-else-c-clause-next_told : goal.returns-else-c-clause-next_told
returns-else-c-clause-next_told c = next_told c.next_cycle.result c.args.g.now c.args.w.now c.next_cycle.new.w c.next_cycle.ensures.next_leaves c.next_cycle.ensures.w_after _ c.in-Some.is (omega (arith, c.if-c.false)) c.args.nodes.now _ _ c.copy.ensures
