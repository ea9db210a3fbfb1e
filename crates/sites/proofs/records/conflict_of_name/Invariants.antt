use Rattle.std.proofs.Common.{◌-◌}
use Rattle.sites.proofs.Fill.{Filling}
use Rattle.sites.proofs.records.conflict_of_name.Given as goal

abbrev pub invariant-loop-i : goal.invariant-loop-i
invariant-loop-i g l = Filling g.row.N l.name l.own l.i l.k l.records

abbrev pub decreases-loop-i : goal.decreases-loop-i
decreases-loop-i g l = g.row.N - l.i
