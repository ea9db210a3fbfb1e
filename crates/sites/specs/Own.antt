-- The tables of a module's own check, all in one run of numbers, and what it means. 01: The line; The value; The site; The block;
-- Refused because of the state.
-- To a reader: definitions that contracts of this and other crates cite; each such contract is proved; check_drivers' own promise needs only places.
use Rattle.std.specs.Prelude.{◌≡◌, Bool, true, false, ◌&&◌, ◌||◌, List, [], ◌∷◌, ◌++◌, ℕ, zero, suc, ◌+◌, ◌*◌, ◌-◌, ◌≤◌, ◌<◌, min, ℤ, pos, negsuc, eqb, ltb, leb, length, get_or, set, take, drop}
use Rattle.std.proofs.Math.Option.{Option, some, none}
use Rattle.std.proofs.lemmas.List.Edits.{sets}
use Rattle.spec.specs.Syntax.{name_bound}
use Rattle.spec.specs.Refusal.{has_name}
use Rattle.spec.specs.Value.{Value, known, missing}
use Rattle.spec.specs.Site as site
use Rattle.spec.specs.Site.{Misused, Conflict, misused_names, conflict_names}
use Rattle.spec.specs.Block.{Pair, Storage, has_pair}
use Rattle.spec.specs.Check.{site_limit, pair_limit}
use Rattle.sites.specs.declared.Table as code
use Rattle.sites.specs.declared.Extent.{Extent}
use Rattle.sites.specs.declared.Extent.TheVariants as extent
use Rattle.sites.specs.declared.Site.{Site}
use Rattle.sites.specs.declared.Misuse.{Misuse}
use Rattle.sites.specs.declared.Misuse.TheVariants as misuse
use Rattle.std.specs.Prelude.{Some, None, Ok, Err}
use Rattle.std.specs.Prelude as rust
use Rattle.sites.specs.declared.Line.{Line}
use Rattle.sites.specs.declared.OutputLine.{OutputLine}
use Rattle.sites.specs.declared.MisusedLine.{MisusedLine}
use Rattle.sites.specs.declared.Blocks.{Blocks}
use Rattle.sites.specs.declared.Blocks.TheVariants as blocks
use Rattle.sites.specs.declared.Cover.{Cover}
use Rattle.sites.specs.declared.Cover.TheVariants as cover
use Rattle.sites.specs.Stored.{Stored}
use Rattle.sites.specs.Stored as stored

-- 01, The site: the extent that the code's value means
abbrev pub extent_of : Extent → site.Extent
extent_of extent.Whole = site.Whole
extent_of (extent.Range l h) = site.Range l h
extent_of extent.Dynamic = site.Dynamic
extent_of extent.Unknown = site.Unknown

-- 01, The site: the site that the code's record means
abbrev pub site_of : Site → site.Site
site_of s = record { name = s.name; extent = extent_of s.extent; start = s.start }

-- 01, The site: the misuse that the code's value means
abbrev pub misuse_of : Misuse → site.Misuse
misuse_of misuse.Wire = site.wire_driven
misuse_of misuse.Reg = site.reg_driven
misuse_of misuse.Mem = site.mem_driven
misuse_of misuse.Arrow = site.arrow

-- 01, The site; The block: a table, as the code has it: where its count stands, where its rows begin, how many numbers a row has, and how
-- many rows there are at most
abbrev pub Table : Type 0
Table = code.Table

-- 01, The line: NAME 0 to 255: how many names there are at most
abbrev pub names : ℕ
names = name_bound

-- 01, The site; The block: the seven tables: the counts stand first, then the rows of each.

-- 01, Refused because of the state: 1,024 sites: name, extent as three numbers, START
abbrev pub site_table : Table
site_table = record { count = 0; base = 8; width = 5; limit = site_limit }

-- 01, Refused because of the state: 512 pairs of name and block
abbrev pub pair_table : Table
pair_table = record { count = 1; base = 8 + 5 * site_limit; width = 2; limit = pair_limit }

-- 01, The site: outputs, at most as many as names: name, START, from where and to where the width stands in the text
abbrev pub port_table : Table
port_table = record { count = 2; base = 8 + 5 * site_limit + 2 * pair_limit; width = 4; limit = names }

-- 01, The block: regs, at most as many as names: name, START
abbrev pub reg_table : Table
reg_table = record { count = 3; base = port_table.base + 4 * names; width = 2; limit = names }

-- 01, The block: mems, at most as many as names: name, START
abbrev pub mem_table : Table
mem_table = record { count = 4; base = port_table.base + 6 * names; width = 2; limit = names }

-- 01, The site: misuses, at most as many as names: name, START, which it is
abbrev pub misuse_table : Table
misuse_table = record { count = 5; base = port_table.base + 8 * names; width = 3; limit = names }

-- 01, The site: conflicts, at most as many as sites: name, START
abbrev pub conflict_table : Table
conflict_table = record { count = 6; base = port_table.base + 11 * names; width = 2; limit = site_limit }

-- 01, Refused because of the state: how many numbers hold all the tables
abbrev pub places : ℕ
places = conflict_table.base + 2 * site_limit

-- 01, The site; The block: what f gives for i, i + 1 and so on, n in all
unfoldable pub run : {A : Type 0} → (ℕ → A) → ℕ → ℕ → List A
run f i zero = []
run f i (suc n) = f i ∷ run f (suc i) n

-- 01, The site; The block: the numbers of row i
unfoldable pub row : Table → List ℕ → ℕ → List ℕ
row t own i = take t.width (drop (t.base + t.width * i) own)

-- 01, The site; The block: how many rows a table has; a count past the limit counts as the limit
unfoldable pub rows_in : Table → List ℕ → ℕ
rows_in t own = min (get_or own t.count 0) t.limit

-- 01, The site; The block: the rows of a table, f giving what each means
abbrev pub items : {A : Type 0} → (List ℕ → A) → Table → List ℕ → List A
items f t own = run (λ i. f (row t own i)) 0 (rows_in t own)

-- 01, The site; The block: what it takes to work on a table: all its rows lie inside the run of numbers and its count before them, a
-- row has one number to five, and there are at most 65,536 rows
pub record Shape (t : Table) (own : List ℕ) : Type 0 where
  pub inside : t.base + t.width * t.limit ≤ length own
  pub before : t.count < t.base
  pub some : 0 < t.width
  pub narrow : t.width ≤ 5
  pub few : t.limit ≤ 65536

-- 01, The site; The block: row n stored, and the count, which is n + 1
abbrev pub stored_row : Table → List ℕ → ℕ → List ℕ → List ℕ
stored_row t own n vs = set (sets own (t.base + t.width * n) vs) t.count (n + 1)

-- 01, The site; The block; Refused because of the state: one row more at the end of a table, where it has room
unfoldable pub pushed : Table → List ℕ → List ℕ → List ℕ
pushed t own vs = elim (ltb (rows_in t own) t.limit) [ true ↦ stored_row t own (rows_in t own) vs | false ↦ own ]

-- 01, The site; The block; Refused because of the state: whether a table has room for one row more
unfoldable pub push_answer : Table → List ℕ → Stored
push_answer t own = elim (ltb (rows_in t own) t.limit) [ true ↦ stored.Done | false ↦ stored.Full ]

-- 01, The site; The block: the names of a table's rows, each the first number of its row
unfoldable pub row_names : Table → List ℕ → List ℕ
row_names t own = run (λ i. get_or own (t.base + t.width * i) 0) 0 (rows_in t own)

-- 01, The site; The block: one row more, where no row has its name and there is room
unfoldable pub first_row : Table → List ℕ → List ℕ → List ℕ
first_row t own vs = elim (has_name (get_or vs 0 0) (row_names t own)) [ true ↦ own | false ↦ pushed t own vs ]

-- 01, The site: an extent by its three numbers: 0 Whole, 1 Range, 2 Dynamic, any other Unknown
unfoldable pub extent_from : ℕ → ℕ → ℕ → site.Extent
extent_from code low high =
    elim (eqb code 0) [
      | true ↦ site.Whole
      | false ↦ elim (eqb code 1) [
        | true ↦ site.Range low high
        | false ↦ elim (eqb code 2) [ true ↦ site.Dynamic | false ↦ site.Unknown ]
      ]
    ]

-- 01, The site: a misuse by its number: 0 a wire that is driven, 1 a reg, 2 a mem, any other an arrow
unfoldable pub misuse_from : ℕ → site.Misuse
misuse_from code =
    elim (eqb code 0) [
      | true ↦ site.wire_driven
      | false ↦ elim (eqb code 1) [
        | true ↦ site.reg_driven
        | false ↦ elim (eqb code 2) [ true ↦ site.mem_driven | false ↦ site.arrow ]
      ]
    ]

-- 01, The site: a row as a site
abbrev pub site_from : List ℕ → site.Site
site_from r = record { name = get_or r 0 0; extent = extent_from (get_or r 1 0) (get_or r 2 0) (get_or r 3 0); start = get_or r 4 0 }

-- 01, The block: a row as a pair of name and block
abbrev pub pair_from : List ℕ → Pair
pair_from r = record { name = get_or r 0 0; block = get_or r 1 0 }

-- 01, The site: an output: its name, the START of its `port out` line, and from where and to where its width stands in the text
pub record Port : Type 0 where
  pub name : ℕ
  pub start : ℕ
  pub from : ℕ
  pub to : ℕ

-- 01, The site: a row as an output
abbrev pub port_from : List ℕ → Port
port_from r = record { name = get_or r 0 0; start = get_or r 1 0; from = get_or r 2 0; to = get_or r 3 0 }

-- 01, The site; The block: a row's name and START, as those of a reg or a mem
abbrev pub storage_from : List ℕ → Storage
storage_from r = record { name = get_or r 0 0; start = get_or r 1 0 }

-- 01, The site: a row as a misuse
abbrev pub misused_from : List ℕ → Misused
misused_from r = record { name = get_or r 0 0; start = get_or r 1 0; misuse = misuse_from (get_or r 2 0) }

-- 01, The site: a row as a conflict
abbrev pub conflict_from : List ℕ → Conflict
conflict_from r = record { start = get_or r 1 0; name = get_or r 0 0 }

-- 01, The site; The block: the tables of one module
pub record Own : Type 0 where
  pub sites : List site.Site
  pub pairs : List Pair
  pub outputs : List Port
  pub regs : List Storage
  pub mems : List Storage
  pub misuses : List Misused
  pub conflicts : List Conflict

-- 01, The site; The block: what a run of numbers means, whatever stands in it
unfoldable pub own_of : List ℕ → Own
own_of own =
    record {
      sites = items site_from site_table own;
      pairs = items pair_from pair_table own;
      outputs = items port_from port_table own;
      regs = items storage_from reg_table own;
      mems = items storage_from mem_table own;
      misuses = items misused_from misuse_table own;
      conflicts = items conflict_from conflict_table own;
    }

-- 01, Refused because of the state: 20 where a working limit is passed; 0 where there is room
abbrev pub number_of : Stored → ℕ
number_of (Ok _) = 0
number_of (Err _) = 20

-- 01, The site; The block; Refused because of the state: the number that an addition answers, and what it leaves: the run of numbers, or the
-- tables that it means
pub record Added (A : Type 0) : Type 0 where
  pub answer : ℕ
  pub own : A

-- 01, The site; The block; Refused because of the state: the same, by its parts
abbrev pub added : {A : Type 0} → Stored → A → Added A
added r o = record { answer = number_of r; own = o }

-- 01, The site; The block; Refused because of the state: one more at the end, where there is room
unfoldable pub grown : {A : Type 0} → ℕ → A → List A → List A
grown limit x l = elim (ltb (length l) limit) [ true ↦ l ++ x ∷ [] | false ↦ l ]

-- 01, The site; The block; Refused because of the state: whether there is room
abbrev pub room : {A : Type 0} → ℕ → List A → Stored
room limit l = elim (ltb (length l) limit) [ true ↦ stored.Done | false ↦ stored.Full ]

-- 01, The site; The block: the names of some entries
unfoldable pub entry_names : {A : Type 0} → (A → ℕ) → List A → List ℕ
entry_names f [] = []
entry_names f (x ∷ l) = f x ∷ entry_names f l

-- 01, The site; The block: one more at the end, where no entry has its name and there are fewer than `names`
unfoldable pub first_kept : {A : Type 0} → (A → ℕ) → A → List A → List A
first_kept f x l = elim (has_name (f x) (entry_names f l)) [ true ↦ l | false ↦ grown names x l ]

-- 01, Refused because of the state: 1,024 sites: one more, where there is room, and whether there was
unfoldable pub add_site : site.Site → Own → Added Own
add_site s o =
    added (room site_limit o.sites)
    (record { sites = grown site_limit s o.sites; pairs = o.pairs; outputs = o.outputs; regs = o.regs; mems = o.mems; misuses = o.misuses; conflicts = o.conflicts })

-- 01, The block: the tables with these pairs
abbrev pub with_pairs : List Pair → Own → Own
with_pairs ps o = record { sites = o.sites; pairs = ps; outputs = o.outputs; regs = o.regs; mems = o.mems; misuses = o.misuses; conflicts = o.conflicts }

-- 01, Refused because of the state: 512 pairs of name and block, each once: one more, where it is new and there is room; and whether it
-- is there now
unfoldable pub add_pair : Pair → Own → Added Own
add_pair p o =
    elim (has_pair p o.pairs) [
      | true ↦ added stored.Done o
      | false ↦ added (room pair_limit o.pairs) (with_pairs (grown pair_limit p o.pairs) o)
    ]

-- 01, The site: each collected output, first port line: one more, where no output has its name and there is room
unfoldable pub add_output : Port → Own → Own
add_output x o = record { sites = o.sites; pairs = o.pairs; outputs = first_kept (λ p. p.name) x o.outputs; regs = o.regs; mems = o.mems; misuses = o.misuses; conflicts = o.conflicts }

-- 01, The block: regs and mems too count by their first collected line: one reg more, where none has its name and there is room
unfoldable pub add_reg : Storage → Own → Own
add_reg x o = record { sites = o.sites; pairs = o.pairs; outputs = o.outputs; regs = first_kept (λ p. p.name) x o.regs; mems = o.mems; misuses = o.misuses; conflicts = o.conflicts }

-- 01, The block: regs and mems too count by their first collected line: one mem more, where none has its name and there is room
unfoldable pub add_mem : Storage → Own → Own
add_mem x o = record { sites = o.sites; pairs = o.pairs; outputs = o.outputs; regs = o.regs; mems = first_kept (λ p. p.name) x o.mems; misuses = o.misuses; conflicts = o.conflicts }

-- 01, The site: these three report once a name: one more, where no misuse has its name and there is room
unfoldable pub add_misuse : Misused → Own → Own
add_misuse x o = record { sites = o.sites; pairs = o.pairs; outputs = o.outputs; regs = o.regs; mems = o.mems; misuses = first_kept (λ p. p.name) x o.misuses; conflicts = o.conflicts }

-- 01, The site: an extent as three numbers, code, low and high, as extent_from reads them
abbrev pub extent_numbers : Extent → List ℕ
extent_numbers extent.Whole = 0 ∷ 0 ∷ 0 ∷ []
extent_numbers (extent.Range l h) = 1 ∷ l ∷ h ∷ []
extent_numbers extent.Dynamic = 2 ∷ 0 ∷ 0 ∷ []
extent_numbers extent.Unknown = 3 ∷ 0 ∷ 0 ∷ []

-- 01, The site: a site as a row
abbrev pub site_numbers : Site → List ℕ
site_numbers s = s.name ∷ extent_numbers s.extent ++ s.start ∷ []

-- 01, The site: a misuse as a number, as misuse_from reads it
abbrev pub misuse_number : Misuse → ℕ
misuse_number misuse.Wire = 0
misuse_number misuse.Reg = 1
misuse_number misuse.Mem = 2
misuse_number misuse.Arrow = 3

-- 01, Refused because of the state: one row more at the end of a table, where it has room, and whether it had. A run of numbers of another
-- length has no tables: it stays, and there is no room
unfoldable pub row_added : Table → List ℕ → List ℕ → Added (List ℕ)
row_added t own vs = elim (eqb (length own) places) [ true ↦ added (push_answer t own) (pushed t own vs) | false ↦ added stored.Full own ]

-- 01, Refused because of the state: 512 pairs of name and block, each once: the row of a pair, where the pair is new
unfoldable pub pair_row_added : Pair → List ℕ → Added (List ℕ)
pair_row_added p own =
    elim (eqb (length own) places && has_pair p (items pair_from pair_table own)) [
      | true ↦ added stored.Done own
      | false ↦ row_added pair_table own (p.name ∷ p.block ∷ [])
    ]

-- 01, The site; The block: one row more, where no row has its name and there is room. A run of numbers of another length has no tables, and stays
unfoldable pub first_added : Table → List ℕ → List ℕ → List ℕ
first_added t own vs = elim (eqb (length own) places) [ true ↦ first_row t own vs | false ↦ own ]

-- 01, The value: the whole number that is held as v + 2147483648
unfoldable pub unbiased : ℕ → ℤ
unbiased v = elim (ltb v 2147483648) [ true ↦ negsuc (2147483647 - v) | false ↦ pos (v - 2147483648) ]

-- 01, The value: a value that is known, or not (one outside INT gives 20 before this matters)
abbrev pub value_of : rust.Option ℕ → Value
value_of (Some v) = known (unbiased v)
value_of None = missing

-- 01, The site: what was found, or none
abbrev pub found_of : rust.Option ℕ → Option ℕ
found_of (Some x) = some x
found_of None = none

-- 01, The block: no block, one or several, by their number
abbrev pub blocks_by : ℕ → Blocks
blocks_by zero = blocks.None
blocks_by (suc zero) = blocks.One
blocks_by (suc (suc n)) = blocks.Several

-- 01, The site: whether an extent is a range
abbrev pub range_test : site.Extent → Bool
range_test site.Whole = false
range_test site.Dynamic = false
range_test site.Unknown = false
range_test (site.Range l h) = true

-- 01, The site: what decides an output's coverage, where it has sites: some that is no range, or ranges only
unfoldable pub ranges_by : List site.Site → Cover
ranges_by ss = elim (site.only_ranges ss) [ true ↦ cover.Ranges | false ↦ cover.Open ]

-- 01, The site: what decides an output's coverage: it has no site, some that is no range, or ranges only
abbrev pub cover_by : List site.Site → Cover
cover_by [] = cover.Never
cover_by (s ∷ ss) = ranges_by (s ∷ ss)

-- 01, The site: the first of `count` places from b on that has no mark; a mark is 1
unfoldable pub unmarked_from : List ℕ → ℕ → ℕ → Option ℕ
unmarked_from marks b zero = none
unmarked_from marks b (suc count) = elim (eqb (get_or marks b 0) 1) [ true ↦ unmarked_from marks (suc b) count | false ↦ some b ]

-- 01, The site: whether a place lies at or behind `from` and before `end`
abbrev pub within : ℕ → ℕ → ℕ → Bool
within from end b = leb from b && ltb b end

-- 01, The site: of the places below `limit` just those have a mark that `has` says or that had one; the number of places stays
pub record Marked (limit : ℕ) (has : ℕ → Bool) (old new : List ℕ) : Type 0 where
  pub size : length new ≡ length old
  pub at : (b : ℕ) → b < limit → eqb (get_or new b 0) 1 ≡ (has b || eqb (get_or old b 0) 1)

-- 01, The site: the names to skip at row k: those of the rows before it, and the names `poison`
unfoldable pub skip_at : List ℕ → (ℕ → site.Site) → ℕ → List ℕ
skip_at poison f zero = poison
skip_at poison f (suc k) = (f k).name ∷ skip_at poison f k

-- 01, The site: the tables with these conflicts
abbrev pub with_conflicts : List Conflict → Own → Own
with_conflicts cs o = record { sites = o.sites; pairs = o.pairs; outputs = o.outputs; regs = o.regs; mems = o.mems; misuses = o.misuses; conflicts = cs }

-- 01, The site: a name is poisoned by a misuse or a conflict
unfoldable pub poisoned_names : Own → List ℕ
poisoned_names o = conflict_names o.conflicts ++ misused_names o.misuses

-- 01, The site: the length and every number before the rows of the conflicts, their count aside, are as they were
pub record Front (old new : List ℕ) : Type 0 where
  pub size : length new ≡ length old
  pub at : (j : ℕ) → j < conflict_table.base → ¬ (j ≡ conflict_table.count) → get_or new j 0 ≡ get_or old j 0

-- 01, The site: the numbers behind the rows of the conflicts stay: the count is at most 1,024, and every number behind as many rows is as it was
pub record Behind (old new : List ℕ) : Type 0 where
  pub count : get_or new conflict_table.count 0 ≡ rows_in conflict_table new
  pub at : (j : ℕ) → conflict_table.base + 2 * rows_in conflict_table new ≤ j → get_or new j 0 ≡ get_or old j 0

-- 01, The site: the conflicts of a run of numbers
abbrev pub conflict_rows : List ℕ → List Conflict
conflict_rows own = items conflict_from conflict_table own

-- 01, The site: the site in row i of a run of numbers
abbrev pub site_row : List ℕ → ℕ → site.Site
site_row own i = site_from (row site_table own i)

-- 01, The site: the names of the misuses of a run of numbers
abbrev pub misuse_poison : List ℕ → List ℕ
misuse_poison own = misused_names (items misused_from misuse_table own)

-- 01, The site: conflicts as the numbers of their rows, one row behind the other: name, START, as conflict_from reads them
unfoldable pub conflict_numbers : List Conflict → List ℕ
conflict_numbers [] = []
conflict_numbers (c ∷ cs) = c.name ∷ c.start ∷ conflict_numbers cs

-- 01, The site: these conflicts from the first row of their table on, and their count; every other number stays
unfoldable pub conflicts_stored : List ℕ → List Conflict → List ℕ
conflicts_stored own cs = set (sets own conflict_table.base (conflict_numbers cs)) conflict_table.count (length cs)

-- 01, The site: what the numbers become: the conflicts of the names that are not misused stand in their table; every other number stays. A
-- run of numbers of another length has no tables, and stays
unfoldable pub conflicts_found : List ℕ → List ℕ
conflicts_found own =
    elim (eqb (length own) places) [
      | true ↦ conflicts_stored own (site.conflicts (misuse_poison own) (own_of own).sites (own_of own).sites)
      | false ↦ own
    ]

-- 01, The site: what the site in row k adds to the conflicts of the sites behind it: that of its name, if there is one and neither a
-- row before nor a misuse has the name
unfoldable pub conflict_step : List ℕ → ℕ → List Conflict → List Conflict
conflict_step own k cs =
    elim (has_name (site_row own k).name (skip_at (misuse_poison own) (site_row own) k)) [
      | true ↦ cs
      | false ↦ site.with_conflict (site_row own k).name (site.first_conflict [] (site.sites_of (site_row own k).name (items site_from site_table own))) cs
    ]

-- 01, The site: the sites of a name from row i of a run of numbers on
abbrev pub sites_from : ℕ → List ℕ → ℕ → List site.Site
sites_from n own i = site.sites_of n (run (site_row own) i (rows_in site_table own - i))

-- 01, The site: row i is the first from `from` on that has a site of a name, where it is below the limit; where it is not, there is none
pub record NextSite (n : ℕ) (own : List ℕ) (from i : ℕ) : Type 0 where
  pub here : i < site_limit → (length own ≡ places) × (from ≤ i) × (i < rows_in site_table own) × (sites_from n own from ≡ site_row own i ∷ sites_from n own (i + 1))
  pub none : ¬ (i < site_limit) → length own ≡ places → sites_from n own from ≡ []

-- 01, The site: the conflict in row i of a run of numbers
abbrev pub conflict_row : List ℕ → ℕ → Conflict
conflict_row own i = conflict_from (row conflict_table own i)

-- 01, The site: a conflict, by its parts
abbrev pub conflict_of : ℕ → ℕ → Conflict
conflict_of start name = record { start = start; name = name }

-- 01, The site; The block: the name and START of the code's record, as those of a reg or a mem
abbrev pub storage_of : Line → Storage
storage_of l = record { name = l.name; start = l.start }

-- 01, The site: the output that the code's record means
abbrev pub port_of : OutputLine → Port
port_of l = record { name = l.name; start = l.start; from = l.from; to = l.to }

-- 01, The site: the misuse that the code's record means
abbrev pub misused_of : MisusedLine → Misused
misused_of l = record { name = l.name; start = l.start; misuse = misuse_of l.kind }
