use Rattle.std.specs.Prelude.{◌≡◌, None}
use Rattle.sites.proofs.Search.{Outer, Inner}
use Rattle.sites.proofs.records.first_conflict.Given as goal

abbrev pub invariant-loop-earlier : goal.invariant-loop-earlier
invariant-loop-earlier l = (l.found ≡ None) × Inner l.records l.later l.earlier

abbrev pub invariant-search : goal.invariant-search
invariant-search l = (l.found ≡ None) × Outer l.records l.later
