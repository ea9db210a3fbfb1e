-- The name table of a module, filled from its lines of an accepted text. 01: The line; The value; Refused because of the state;
-- Worthless checks.
-- To a reader: definitions that contracts of this and other crates cite; each such contract is proved; check_drivers' own promise needs only name_places.
use Rattle.std.specs.Prelude.{◌≡◌, List, ℕ, ◌+◌, ◌-◌, ◌*◌, ◌/◌, ◌≤◌, length, get_or, take, drop, Result, Ok, Err}
use Rattle.spec.specs.Bytes.{Bytes}
use Rattle.spec.specs.Value.{Table}
use Rattle.consteval.specs.Worth.{names_of, refused_if}
use Rattle.consteval.specs.Fill.{Filled, Filling, fill_of}
use Rattle.consteval.specs.declared.Outside.{Outside}

-- 01, The value; Refused because of the state: places for a name table: two for each `val` and `const` line that a text has room for
-- (3,276, since each has 10 bytes or more), and for each of 32 repeats that are open one in the other
abbrev pub name_places : ℕ
name_places = 6616

-- 01, The line: the lines of the header of module m, by the table of places `mods`
abbrev pub header_part : Bytes → List ℕ → ℕ → Bytes
header_part text mods m = take (get_or mods (m * 4 + 2) 0 - get_or mods (m * 4 + 1) 0) (drop (get_or mods (m * 4 + 1) 0) text)

-- 01, The line: the lines of the items of module m, by the table of places `mods`
abbrev pub items_part : Bytes → List ℕ → ℕ → Bytes
items_part text mods m = take (get_or mods (m * 4 + 3) 0 - get_or mods (m * 4 + 2) 0) (drop (get_or mods (m * 4 + 2) 0) text)

-- 01, The value; Refused because of the state: what the code answers: how many pairs are used, or a constant is outside INT
abbrev pub Named : Type 0
Named = Result ℕ Outside

-- 01, The value; Refused because of the state: the same by what filling the table answers; the two other answers count as outside INT too, but of
-- an accepted text with places enough there is neither
abbrev pub to_named : Filled → Named
to_named (Ok n) = Ok n
to_named (Err e) = Err (record {})

-- 01, The value: filling the table from the lines of module m: what it answers and leaves
abbrev pub module_fill : Bytes → List ℕ → ℕ → List ℕ → Filling
module_fill text mods m names = fill_of (header_part text mods m) (items_part text mods m) names

-- 01, The value; Refused because of the state: what filling the table of module m answers
abbrev pub named_by : Bytes → List ℕ → ℕ → List ℕ → Named
named_by text mods m names = to_named (module_fill text mods m names).answer

-- 01, The value; Worthless checks: what filling the table of module m leaves, whatever was lent
abbrev pub table_by : Bytes → List ℕ → ℕ → List ℕ → List ℕ
table_by text mods m names = (module_fill text mods m names).table

-- 01, Refused because of the state: 20 where a constant of the module is outside INT
abbrev pub named_number : Named → ℕ
named_number (Ok u) = 0
named_number (Err e) = 20

-- 01, The value: the pairs that are used are the name table, with room for 32 pairs more
abbrev pub PairsAre : Named → List ℕ → Table → Type 0
PairsAre (Ok u) t T = (names_of t u ≡ T.names) × (u + 32 ≤ length t / 2)
PairsAre (Err e) t T = Unit {0}

-- 01, The value; Refused because of the state: what the answer means for a module: 20 where a constant is outside INT, else its name table
abbrev pub NamesAre : Named → List ℕ → Table → Type 0
NamesAre r t T = (named_number r ≡ refused_if T.out) × PairsAre r t T
