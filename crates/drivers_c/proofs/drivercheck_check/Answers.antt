use Rattle.drivers_c.proofs.Laws.{called}
use Rattle.drivers_c.proofs.drivercheck_check.Goals as goal

pub returns : goal.returns
returns c = called c.check_drivers-a.result _ _ _ _ _ _ _ _ _ c.args.numbers.now _ c.check_drivers-a.ensures c.tell.ensures
