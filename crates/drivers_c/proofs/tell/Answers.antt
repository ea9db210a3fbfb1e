use Rattle.drivers_c.specs.Code.{told}
use Rattle.drivers_c.proofs.tell.Goals as goal

pub returns : goal.returns
unfolding told
returns c = rw (c.put-5.ensures, c.put-4.ensures, c.put-3.ensures, c.put-2.ensures, c.put.ensures)
