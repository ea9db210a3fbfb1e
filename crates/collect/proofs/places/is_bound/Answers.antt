use mathlib.Core.Path.{ap}
use lib.Dec.{ltb}
use Rattle.collect.proofs.places.is_bound.Goals as goal

pub returns : goal.returns
returns c = ap (ltb 0) c.word.ensures
