use native.Mathlib.Omega.{arith}
use Rattle.consteval.proofs.EvalLaws.{names_start, found_here, not_here, found_none}
use mathlib.Core.Path.{sym, ◌∙◌}
use Prim.Native.Nat.{◌-◌}
use Rattle.consteval.proofs.names.look_up.Goals as goal

pub counted-i-requires : goal.counted-i-requires
counted-i-requires c = omega arith

pub loop-i-init : goal.loop-i-init
loop-i-init c = (omega (arith, c.counted-i.ensures), names_start c.args.names.now c.args.used c.args.n c.counted-i.ensures)

pub overflow_add-i : goal.overflow_add-i
overflow_add-i c = omega arith

pub offset_bounds-names-i : goal.offset_bounds-names-i
offset_bounds-names-i c = omega (arith, c.well_formed.0.1)

pub bounds-names-i : goal.bounds-names-i
bounds-names-i c = omega arith

pub overflow_add-result : goal.overflow_add-result
overflow_add-result c = omega arith

pub overflow_add-result-then-names-i : goal.overflow_add-result-then-names-i
overflow_add-result-then-names-i c = omega arith

pub offset_bounds-names-i-then-names-i : goal.offset_bounds-names-i-then-names-i
offset_bounds-names-i-then-names-i c = omega (arith, c.well_formed.0.1)

pub bounds-names-i-then-names-i : goal.bounds-names-i-then-names-i
bounds-names-i-then-names-i c = omega arith

pub returns-then-names-i : goal.returns-then-names-i
returns-then-names-i c = found_here c.args.names.now c.args.n c.loop-i.i (c.loop-i.i - 1) (omega arith) c.if-names-i.true ∙ sym c.loop-i.invariant.1

pub loop-i-preserved : goal.loop-i-preserved
loop-i-preserved c = (omega arith, c.loop-i.invariant.1 ∙ not_here c.args.names.now c.args.n c.loop-i.i (c.loop-i.i - 1) (omega arith) c.if-names-i.false)

pub returns : goal.returns
returns c = found_none c.args.names.now c.args.n c.loop-i.i c.loop-i-test.false ∙ sym c.loop-i.invariant.1
