use mathlib.Core.Path.{sym}
use lib.Seq.{set_out}
use Rattle.bench_c.proofs.cycles.put.Goals as goal

pub returns-else-i-nodes : goal.returns-else-i-nodes
returns-else-i-nodes c = sym (set_out c.args.nodes.now _ _ c.if-i-nodes.false)
