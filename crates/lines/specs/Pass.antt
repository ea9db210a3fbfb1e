-- One pass over the lines of a text: what a line does to where the reading stands and to the tables, and what the whole pass answers and leaves.
-- 01: The line; Refused because of the text; Refused because of the state.
-- To a reader: definitions that contracts of this crate cite; each such contract is proved; check_drivers' own promise cites none of them.
use Rattle.std.specs.Prelude.{◌≡◌, Bool, true, false, Result, Ok, Err, List, ℕ, ◌+◌, ◌*◌, ◌-◌, ◌≤◌, ◌<◌, length, drop, set, replicate}
use Rattle.spec.specs.Bytes.{Bytes}
use Rattle.spec.specs.Syntax.{name_bound}
use Rattle.spec.specs.Refusal.{well_formed, lines, ends_in_feed, at_start, lines_fault, decode}
use Rattle.lines.specs.Kinds.{byte_of}
use Rattle.lines.specs.Parse.{kind_of}
use Rattle.lines.specs.Read.{fault_code, line_step}
use Rattle.lines.specs.Tables.{entries, marked, put_kinds, put_mods, second_key, flag_of}
use Rattle.lines.specs.Verdict.{told, Ended, modules_in}
use Rattle.lines.specs.declared.read.Step.{Step}
use Rattle.lines.specs.declared.read.Step.TheVariants.{Module, Kind, Val, Item}
use Rattle.lines.specs.declared.read.Fault.{Fault}
use Rattle.lines.specs.declared.read.Refusal.{Refusal}
use Rattle.lines.specs.declared.tables.Progress.{Progress}

-- 01, Refused because of the text: before any line: line 1 is next, at the text's start
abbrev pub at_first_line : Progress
at_first_line = record { next = 0; row = 1; modules = 0; items = false; first = 0 }

-- 01, Refused because of the text: what the line at a position is where the reading stands so, `seen` having a 1 at each name with a kind in the last
-- module: its fault, 3 to 7, or what it adds
abbrev pub step_at : Bytes → ℕ → Progress → List ℕ → Result Step Fault
step_at t at p seen = line_step t at p.modules p.items seen

-- 01, The line: where the reading stands behind a `module` line: the module has no item, and its items begin here so far
abbrev pub behind_module : Progress → ℕ → ℕ → Progress
behind_module p next first = record { next = next; row = p.row + 1; modules = p.modules + 1; items = false; first = first }

-- 01, The line: where the reading stands behind another line of the last module
abbrev pub behind_line : Progress → ℕ → Bool → ℕ → Progress
behind_line p next items first = record { next = next; row = p.row + 1; modules = p.modules; items = items; first = first }

-- 01, The line; Refused because of the text: where the reading stands behind a line that is such a step, which a fault ends: the next line begins behind its line feed; the
-- last module's items begin behind its last header line
abbrev pub behind : Result Step Fault → Progress → Result Progress Fault
behind (Err f) p = Err f
behind (Ok (Module feed)) p = Ok (behind_module p (feed + 1) (feed + 1))
behind (Ok (Kind feed n)) p = Ok (behind_line p (feed + 1) p.items (feed + 1))
behind (Ok (Val feed)) p = Ok (behind_line p (feed + 1) p.items (feed + 1))
behind (Ok (Item feed)) p = Ok (behind_line p (feed + 1) true p.first)

-- 01, Refused because of the text: 01's number of what a line made of the reading: its fault, 3 to 7, and 0 where the reading goes on
abbrev pub entered_number : Result Progress Fault → ℕ
entered_number (Err f) = fault_code f
entered_number (Ok p) = 0

-- 01, Refused because of the text: the names with a kind behind a line that is such a step, 1 at each: a `module` line has none yet, a `kind` line
-- adds its name
abbrev pub seen_behind : Result Step Fault → List ℕ → List ℕ
seen_behind (Err f) seen = seen
seen_behind (Ok (Module feed)) seen = replicate (length seen) 0
seen_behind (Ok (Kind feed n)) seen = set seen n 1
seen_behind (Ok (Val feed)) seen = seen
seen_behind (Ok (Item feed)) seen = seen

-- 01, The line: the table of kinds behind the line at a position: a `kind` line gives its name's kind in the last module
abbrev pub kinds_behind : Result Step Fault → Bytes → ℕ → Progress → List ℕ → List ℕ
kinds_behind (Err f) t at p kinds = kinds
kinds_behind (Ok (Module feed)) t at p kinds = kinds
kinds_behind (Ok (Kind feed n)) t at p kinds = set kinds ((p.modules - 1) * name_bound + n) (byte_of (kind_of (second_key t at)))
kinds_behind (Ok (Val feed)) t at p kinds = kinds
kinds_behind (Ok (Item feed)) t at p kinds = kinds

-- 01, The line: the table of places behind the line at a position: a `module` line gives whether it is bound, and its header, its items and its end
-- are behind it; a header line moves the last module's items and end behind it, an item its end
abbrev pub mods_behind : Result Step Fault → Bytes → ℕ → Progress → List ℕ → List ℕ
mods_behind (Err f) t at p mods = mods
mods_behind (Ok (Module feed)) t at p mods = entries mods p.modules (flag_of (second_key t at)) (feed + 1) (feed + 1) (feed + 1)
mods_behind (Ok (Kind feed n)) t at p mods = marked mods (p.modules - 1) (feed + 1) (feed + 1)
mods_behind (Ok (Val feed)) t at p mods = marked mods (p.modules - 1) (feed + 1) (feed + 1)
mods_behind (Ok (Item feed)) t at p mods = marked mods (p.modules - 1) p.first (feed + 1)

-- 01, Refused because of the text; Refused because of the state: a text without faults 1 and 2, and tables for 32 modules
pub record Fitting (t : Bytes) (kinds mods : List ℕ) : Type 0 where
  pub ended : Ended t
  pub kinds_fit : 32 * name_bound ≤ length kinds
  pub mods_fit : 128 ≤ length mods

-- 01, Refused because of the text: what is asked where a line is taken: such a text and tables, a line at the position, at most 32 modules, no more
-- rows than bytes before it and one, and a place for each name in `seen`
pub record Standing (t : Bytes) (at : ℕ) (p : Progress) (seen kinds mods : List ℕ) : Type 0 where
  pub fitting : Fitting t kinds mods
  pub line : at < length t
  pub ends : ends_in_feed (drop at t) ≡ true
  pub few : p.modules ≤ 32
  pub early : p.row ≤ at + 1
  pub places : length seen ≡ name_bound

-- 01, Refused because of the text; The line: what the pass answers and leaves: the lowest fault of 3 to 7 on the first line that has one, or so many
-- modules; and where there is none, the tables of the design over what they held
abbrev pub Fills : Bytes → List ℕ → List ℕ → Result ℕ Refusal → List ℕ → List ℕ → Type 0
Fills t kinds mods r kinds' mods' =
    (r ≡ told (lines_fault at_start 1 (lines t)) (modules_in (lines t)))
    × (lines_fault at_start 1 (lines t) ≡ well_formed → (kinds' ≡ put_kinds 0 (decode t) kinds) × (mods' ≡ put_mods 0 0 (decode t) mods))
