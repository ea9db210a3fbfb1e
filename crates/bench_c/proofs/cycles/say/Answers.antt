use Rattle.bench_c.specs.Cycles.{said}
use Rattle.bench_c.proofs.cycles.say.Goals as goal

pub returns : goal.returns
unfolding said
returns c = rw (c.put-4.ensures, c.put-3.ensures, c.put-2.ensures, c.put.ensures)
