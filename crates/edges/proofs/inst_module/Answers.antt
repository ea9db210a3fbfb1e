use Rattle.edges.proofs.OutputLaws.{module_here}
use Rattle.edges.proofs.inst_module.Goals as goal

pub returns : goal.returns
returns c = module_here c.args.x.now c.next_end-a.ensures c.next_end-b.ensures c.next_end.ensures c.number_at.ensures
