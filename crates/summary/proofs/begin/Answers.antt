use Rattle.summary.proofs.begin.Goals as goal

pub returns : goal.returns
returns c = c.put.ensures
