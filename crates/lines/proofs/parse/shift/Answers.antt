use Rattle.lines.proofs.parse.shift.Goals as goal

pub returns : goal.returns
returns c = rw c.fewer-need.ensures
