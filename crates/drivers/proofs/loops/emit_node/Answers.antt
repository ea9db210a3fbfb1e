use Rattle.drivers.proofs.LoopLaws.{node_appended}
use Rattle.drivers.proofs.loops.emit_node.Goals as goal

pub returns : goal.returns
returns c = node_appended c.walk_node-n.result c.walk_node-n.ensures c.node_of.ensures c.emit.ensures
