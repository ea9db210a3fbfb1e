use Rattle.sites.specs.Own.{conflict_of, conflict_row}
use Rattle.sites.proofs.Conflicts.{placing}
use Rattle.sites.proofs.conflict_place.Given as goal

abbrev pub invariant-loop-i : goal.invariant-loop-i
invariant-loop-i l = placing (conflict_of l.start l.name) (conflict_row l.own) l.n l.i
