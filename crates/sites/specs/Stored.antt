-- Whether there was room for one row more. 01: Refused because of the state.
-- To a reader: what additions of this crate answer, by the names that contracts and definitions use.
use Rattle.std.specs.Prelude.{Result, Ok, Err}
use Rattle.sites.specs.declared.Full as code

-- 01, Refused because of the state: there was room, or there was none
abbrev pub Stored : Type 0
Stored = Result (Unit {0}) code.Full

abbrev pub Done : Stored
Done = Ok tt

abbrev pub Full : Stored
Full = Err (record {})
