use mathlib.Core.Path.{refl, ◌∙◌}
use Rattle.drivers.proofs.LoopLaws.{line_node, line_whole}
use Rattle.drivers.proofs.loops.report_loop.Goals as goal

pub loop-i-init : goal.loop-i-init
loop-i-init c = (λ _ _ a. a, refl)

pub loop-i-preserved : goal.loop-i-preserved
loop-i-preserved c = (line_node c.args.g.now c.args.w.now c.args.to c.path_node-first.result c.loop-i.i c.loop-i.invariant.0 c.path_node.result c.loop-i-test.true c.path_node.ensures c.emit_node-q.ensures, c.emit_node-q.auto.buf ∙ c.loop-i.invariant.1)

pub returns : goal.returns
returns c = line_whole c.args.g.now c.args.w.now c.args.m c.args.from c.args.to c.loop-i.i c.path_node-first.result c.start_of.result c.path_node-first.ensures c.start_of.ensures c.emit-q.ensures c.loop-i.invariant.0 c.loop-i-test.false c.emit_node-r.ensures c.emit.ensures
