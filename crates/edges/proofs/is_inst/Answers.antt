use Rattle.edges.proofs.InstLaws.{inst_same}
use mathlib.Core.Path.{◌∙◌}
use Rattle.edges.proofs.is_inst.Goals as goal

pub returns : goal.returns
returns c = c.eq.ensures ∙ inst_same c.args.kinds.now c.args.i c.kind_at.ensures
