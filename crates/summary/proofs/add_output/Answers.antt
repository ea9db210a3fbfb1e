use Rattle.summary.proofs.Making.{output_added, output_leaves}
use Rattle.summary.proofs.add_output.Goals as goal

pub returns-clause-output_added : goal.returns-clause-output_added
returns-clause-output_added c = output_added c.args.kinds.now c.args.g.now c.args.w.now _ _ c.args.o _ c.reach-n.ensures.inputs c.args.k.now _ c.push_found.ensures.by_index

pub returns-clause-output_leaves : goal.returns-clause-output_leaves
returns-clause-output_leaves c = output_leaves c.args.kinds.now c.args.g.now c.args.w.now _ _ c.args.o c.reach-n.ensures.reach_leaves.all c.reach-n.ensures.inputs c.args.k.now c.reach-n.ensures.reach_leaves.few c.push_found.ensures.k_value
