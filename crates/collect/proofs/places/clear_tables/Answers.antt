use lib.ListN.{length}
use Rattle.spec.proofs.Cleared.{cleared_of}
use Rattle.collect.proofs.places.clear_tables.Goals as goal

pub returns : goal.returns
returns c = (cleared_of (length c.args.own.now) c.clear.new.g c.clear.ensures, cleared_of (length c.args.g.now) c.clear-2.new.g c.clear-2.ensures, cleared_of (length c.args.k.now) c.clear-3.new.g c.clear-3.ensures)
