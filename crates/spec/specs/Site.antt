-- Drive sites of outputs: extents, meeting, conflicts, gaps; poison. 01: The site.
-- To a reader: definitions to believe; meets, conflicts, outputs and coverage are pinned by Meaning.Meaning (proved in proofs/Meaning).
use Rattle.std.specs.Prelude.{Bool, true, false, ◌&&◌, ◌||◌, List, [], ◌∷◌, ◌++◌, ℕ, zero, suc, min, eqb, ltb, leb, pos, negsuc}
use Rattle.std.proofs.Math.Option.{Option, some, none}
use Rattle.spec.specs.Syntax.{Expr, Kind, in_kind, out_kind, wire_kind, reg_kind, mem_kind, inst_kind, Width, bit, opaque, bits, signed, Index, whole, at_bit, high_low, LValue, Stmt, Stmts, set, default, loop, when, input, output, Place, single, at, Item, port, wire, reg, mem, const, drive, on, inst, repeat, const_if, Header, kind, val}
use Rattle.spec.specs.Refusal.{has_name}
use Rattle.spec.specs.Value.{Value, known, missing, outside, Names, value, is_outside}
use Rattle.spec.specs.Collect.{Collected}

-- 01, The line: a name's kind in its module, or none.
unfoldable pub kind_of : List Header → ℕ → Option Kind
kind_of [] n = none
kind_of (kind m k ∷ hs) n = elim (eqb m n) [ true ↦ some k | false ↦ kind_of hs n ]
kind_of (val m z ∷ hs) n = kind_of hs n

-- 01, The site: each site of an output holds one extent.
pub data Extent : Type 0 where
  Whole Dynamic Unknown : Extent
  Range : (low high : ℕ) → Extent

-- 01, The site: a site of an output: its name, its extent, its START.
pub record Site : Type 0 where
  pub name : ℕ
  pub extent : Extent
  pub start : ℕ

-- 01, The site: else Dynamic where bound, Unknown where not.
abbrev pub no_range : Bool → Extent
no_range true = Dynamic
no_range false = Unknown

-- 01, The site: bit v ≥ 0: Range(v, v).
abbrev pub bit_extent : Bool → Value → Extent
bit_extent bound (known (pos v)) = Range v v
bit_extent bound (known (negsuc v)) = no_range bound
bit_extent bound missing = no_range bound
bit_extent bound outside = no_range bound

-- 01, The site: high ≥ low ≥ 0: Range.
abbrev pub range_extent : Bool → Value → Value → Extent
range_extent bound (known (pos h)) (known (pos l)) = elim (leb l h) [ true ↦ Range l h | false ↦ no_range bound ]
range_extent bound (known (pos h)) (known (negsuc l)) = no_range bound
range_extent bound (known (pos h)) missing = no_range bound
range_extent bound (known (pos h)) outside = no_range bound
range_extent bound (known (negsuc h)) l = no_range bound
range_extent bound missing l = no_range bound
range_extent bound outside l = no_range bound

-- 01, The site: no index: Whole; the others as above.
unfoldable pub lvalue_extent : Bool → Names → Index → Extent
lvalue_extent bound names whole = Whole
lvalue_extent bound names (at_bit e) = bit_extent bound (value names e)
lvalue_extent bound names (high_low h l) = range_extent bound (value names h) (value names l)

-- 01, The site: what driving a name does, by its kind: a site for an output, a report for a wire, a register or a memory, else
-- nothing.
pub data Driving : Type 0 where
  an_output a_wire a_reg a_mem nothing : Driving

-- 01, The site: a drive or `set` of an `in`, an `inst` or a name without kind does nothing.
abbrev pub driving : Option Kind → Driving
driving none = nothing
driving (some in_kind) = nothing
driving (some out_kind) = an_output
driving (some wire_kind) = a_wire
driving (some reg_kind) = a_reg
driving (some mem_kind) = a_mem
driving (some inst_kind) = nothing

-- 01, The site: the site of a drive of an output.
abbrev pub drive_site : Driving → Bool → Names → LValue → List Site
drive_site an_output bound names lv = record { name = lv.name; extent = lvalue_extent bound names lv.index; start = lv.start } ∷ []
drive_site a_wire bound names lv = []
drive_site a_reg bound names lv = []
drive_site a_mem bound names lv = []
drive_site nothing bound names lv = []

-- 01, The site: the sites of a line: `drive` alone makes them.
unfoldable pub line_sites : Bool → List Header → Names → Item → List Site
line_sites bound hs names (drive lv e) = drive_site (driving (kind_of hs lv.name)) bound names lv
line_sites bound hs names (port d n w s) = []
line_sites bound hs names (wire n e s) = []
line_sites bound hs names (reg n s) = []
line_sites bound hs names (mem n s) = []
line_sites bound hs names (const n e) = []
line_sites bound hs names (on s ss) = []
line_sites bound hs names (inst i) = []
line_sites bound hs names (repeat n l h is) = []
line_sites bound hs names (const_if c is js) = []

-- 01, The site: the sites of a module, decision: as often as they are collected.
unfoldable pub sites : Bool → List Header → List Collected → List Site
sites bound hs [] = []
sites bound hs (c ∷ cs) = line_sites bound hs c.names c.item ++ sites bound hs cs

-- 01, The value: an expression is evaluated only where a rule uses its value. Both indexes of an output's LV always are.
unfoldable pub index_constants : Index → List Expr
index_constants whole = []
index_constants (at_bit e) = e ∷ []
index_constants (high_low h l) = h ∷ l ∷ []

-- 01, The value: both indexes of an output's LV always are. Decision: those of other names are not.
abbrev pub drive_constants : Driving → Index → List Expr
drive_constants an_output x = index_constants x
drive_constants a_wire x = []
drive_constants a_reg x = []
drive_constants a_mem x = []
drive_constants nothing x = []

-- 01, The value: X.
unfoldable pub place_constants : Place → List Expr
place_constants single = []
place_constants (at e) = e ∷ []

-- 01, The value: the constants evaluated as a line is collected, those of its reads aside: both indexes of an output's LV, both bounds
-- of a `repeat`, the condition of a `constif`. Decision: X of every instance line.
unfoldable pub line_constants : List Header → Item → List Expr
line_constants hs (drive lv e) = drive_constants (driving (kind_of hs lv.name)) lv.index
line_constants hs (inst i) = place_constants i.place
line_constants hs (repeat n low high is) = low ∷ high ∷ []
line_constants hs (const_if c is js) = c ∷ []
line_constants hs (port d n w s) = []
line_constants hs (wire n e s) = []
line_constants hs (reg n s) = []
line_constants hs (mem n s) = []
line_constants hs (const n e) = []
line_constants hs (on s ss) = []

-- 01, Refused because of the state: one of these expressions is evaluated outside INT.
unfoldable pub any_outside : Names → List Expr → Bool
any_outside names [] = false
any_outside names (e ∷ es) = is_outside (value names e) || any_outside names es

-- 01, Refused because of the state: a constant of some collected line is evaluated outside INT.
unfoldable pub lines_outside : List Header → List Collected → Bool
lines_outside hs [] = false
lines_outside hs (c ∷ cs) = any_outside c.names (line_constants hs c.item) || lines_outside hs cs

-- 01, The site: Unknown meets nothing; else Whole or Dynamic meets all; ranges meet when they share a bit.
abbrev pub meets : Extent → Extent → Bool
meets Unknown b = false
meets Whole Unknown = false
meets Whole Whole = true
meets Whole Dynamic = true
meets Whole (Range l h) = true
meets Dynamic Unknown = false
meets Dynamic Whole = true
meets Dynamic Dynamic = true
meets Dynamic (Range l h) = true
meets (Range l h) Unknown = false
meets (Range l h) Whole = true
meets (Range l h) Dynamic = true
meets (Range l h) (Range l' h') = leb l h' && leb l' h

-- 01, The site: the sites of one name.
unfoldable pub sites_of : ℕ → List Site → List Site
sites_of n [] = []
sites_of n (s ∷ ss) = elim (eqb n s.name) [ true ↦ s ∷ sites_of n ss | false ↦ sites_of n ss ]

-- 01, The site: a site that meets an earlier one.
unfoldable pub meets_any : List Site → Extent → Bool
meets_any [] x = false
meets_any (s ∷ ss) x = meets s.extent x || meets_any ss x

-- 01, The site: the search for a conflict stops at the first later site that meets an earlier one. The START of that site.
unfoldable pub first_conflict : List Site → List Site → Option ℕ
first_conflict earlier [] = none
first_conflict earlier (s ∷ later) =
    elim (meets_any earlier s.extent) [ true ↦ some s.start | false ↦ first_conflict (s ∷ earlier) later ]

-- 01, The site: what is reported once a name as its line is collected, and poisons it.
pub data Misuse : Type 0 where
  wire_driven reg_driven mem_driven arrow : Misuse

-- 01, The site: such a report: its name, its START, which it is.
pub record Misused : Type 0 where
  pub name : ℕ
  pub start : ℕ
  pub misuse : Misuse

-- 01, The site: driving a wire: E0501 `wire`. Driving reg or mem: E0505.
abbrev pub drive_misuse : Driving → LValue → List Misused
drive_misuse an_output lv = []
drive_misuse a_wire lv = record { name = lv.name; start = lv.start; misuse = wire_driven } ∷ []
drive_misuse a_reg lv = record { name = lv.name; start = lv.start; misuse = reg_driven } ∷ []
drive_misuse a_mem lv = record { name = lv.name; start = lv.start; misuse = mem_driven } ∷ []
drive_misuse nothing lv = []

-- 01, The site: `set` on wire or out: E0505 `arrow`.
abbrev pub set_misuse : Driving → ℕ → ℕ → List Misused
set_misuse an_output n start = record { name = n; start = start; misuse = arrow } ∷ []
set_misuse a_wire n start = record { name = n; start = start; misuse = arrow } ∷ []
set_misuse a_reg n start = []
set_misuse a_mem n start = []
set_misuse nothing n start = []

-- 01, The site: `set` on wire or out, wherever it stands in a block.
unfoldable mutual
  pub stmt_misuses : Stmt → List Header → List Misused
  stmt_misuses (set n start) hs = set_misuse (driving (kind_of hs n)) n start
  stmt_misuses (default n) hs = []
  stmt_misuses (loop ss) hs = stmts_misuses ss hs
  stmt_misuses (when ss ts) hs = stmts_misuses ss hs ++ stmts_misuses ts hs

  pub stmts_misuses : Stmts → List Header → List Misused
  stmts_misuses Stmts.none hs = []
  stmts_misuses (Stmts.more s ss) hs = stmt_misuses s hs ++ stmts_misuses ss hs

-- 01, The site: the misuses of a line.
unfoldable pub line_misuses : List Header → Item → List Misused
line_misuses hs (drive lv e) = drive_misuse (driving (kind_of hs lv.name)) lv
line_misuses hs (on s ss) = stmts_misuses ss hs
line_misuses hs (port d n w s) = []
line_misuses hs (wire n e s) = []
line_misuses hs (reg n s) = []
line_misuses hs (mem n s) = []
line_misuses hs (const n e) = []
line_misuses hs (inst i) = []
line_misuses hs (repeat n l h is) = []
line_misuses hs (const_if c is js) = []

-- 01, The site: the misuses of a module, in the order of collection.
unfoldable pub misuses : List Header → List Collected → List Misused
misuses hs [] = []
misuses hs (c ∷ cs) = line_misuses hs c.item ++ misuses hs cs

-- 01, The site: these three report once a name, at the first; `seen` has the names before.
unfoldable pub once_a_name : List ℕ → List Misused → List Misused
once_a_name seen [] = []
once_a_name seen (m ∷ ms) = elim (has_name m.name seen) [ true ↦ once_a_name seen ms | false ↦ m ∷ once_a_name (m.name ∷ seen) ms ]

-- 01, The site: these three poison a name.
unfoldable pub misused_names : List Misused → List ℕ
misused_names [] = []
misused_names (m ∷ ms) = m.name ∷ misused_names ms

-- 01, The site: a conflict: the START of the later site, and the name.
pub record Conflict : Type 0 where
  pub start : ℕ
  pub name : ℕ

-- 01, The report: conflicts by START then name.
abbrev pub conflict_before : Conflict → Conflict → Bool
conflict_before a b = ltb a.start b.start || eqb a.start b.start && ltb a.name b.name

-- 01, The report: conflicts by START then name: one put among the others.
unfoldable pub insert_conflict : Conflict → List Conflict → List Conflict
insert_conflict c [] = c ∷ []
insert_conflict c (d ∷ ds) = elim (conflict_before c d) [ true ↦ c ∷ d ∷ ds | false ↦ d ∷ insert_conflict c ds ]

-- 01, The site: the conflict of a name, where it has one.
abbrev pub with_conflict : ℕ → Option ℕ → List Conflict → List Conflict
with_conflict n none cs = cs
with_conflict n (some start) cs = insert_conflict (record { start = start; name = n }) cs

-- 01, The site: the conflicts of the names that are not among `skip`, each name once: `all` has every site, `rest` those still to go
-- through.
unfoldable pub conflicts : List ℕ → List Site → List Site → List Conflict
conflicts skip all [] = []
conflicts skip all (s ∷ rest) =
    elim (has_name s.name skip) [
      | true ↦ conflicts skip all rest
      | false ↦ with_conflict s.name (first_conflict [] (sites_of s.name all)) (conflicts (s.name ∷ skip) all rest)
    ]

-- 01, The site: a conflict poisons.
unfoldable pub conflict_names : List Conflict → List ℕ
conflict_names [] = []
conflict_names (c ∷ cs) = c.name ∷ conflict_names cs

-- 01, The site: an output, of a `port out` line. Decision: whatever kind its name has.
pub record Output : Type 0 where
  pub name : ℕ
  pub width : Width
  pub start : ℕ

-- 01, The site: the outputs of a line: `port out` alone makes them.
unfoldable pub line_outputs : Item → List Output
line_outputs (port input n w s) = []
line_outputs (port output n w s) = record { name = n; width = w; start = s } ∷ []
line_outputs (wire n e s) = []
line_outputs (reg n s) = []
line_outputs (mem n s) = []
line_outputs (const n e) = []
line_outputs (drive lv e) = []
line_outputs (on s ss) = []
line_outputs (inst i) = []
line_outputs (repeat n l h is) = []
line_outputs (const_if c is js) = []

-- 01, The site: every collected `port out` line.
unfoldable pub output_lines : List Collected → List Output
output_lines [] = []
output_lines (c ∷ cs) = line_outputs c.item ++ output_lines cs

-- 01, The site: each collected output, first port line; `seen` has the names before.
unfoldable pub first_lines : List ℕ → List Output → List Output
first_lines seen [] = []
first_lines seen (o ∷ os) = elim (has_name o.name seen) [ true ↦ first_lines seen os | false ↦ o ∷ first_lines (o.name ∷ seen) os ]

-- 01, The site: each collected output, in the order of its first line.
unfoldable pub outputs : List Collected → List Output
outputs cs = first_lines [] (output_lines cs)

-- 01, The site: all Range.
unfoldable pub only_ranges : List Site → Bool
only_ranges [] = true
only_ranges (s ∷ ss) = is_range s.extent && only_ranges ss
  where
    is_range : Extent → Bool
    is_range Whole = false
    is_range Dynamic = false
    is_range Unknown = false
    is_range (Range l h) = true

-- 01, The site: `bit` is 1; `opaque` is skipped. A width is taken in the module's own table.
unfoldable pub width_value : Names → Width → Value
width_value names bit = known (pos 1)
width_value names opaque = missing
width_value names (bits e) = value names e
width_value names (signed e) = value names e

-- 01, The site: an extent has a bit.
abbrev pub covers : Extent → ℕ → Bool
covers Whole b = true
covers Dynamic b = false
covers Unknown b = false
covers (Range l h) b = leb l b && leb b h

-- 01, The site: some site has a bit.
unfoldable pub covered : List Site → ℕ → Bool
covered [] b = false
covered (s ∷ ss) b = covers s.extent b || covered ss b

-- 01, The site: the first of `count` bits from b on that no site has.
unfoldable pub gap_from : List Site → ℕ → ℕ → Option ℕ
gap_from ss b zero = none
gap_from ss b (suc count) = elim (covered ss b) [ true ↦ gap_from ss (suc b) count | false ↦ some b ]

-- 01, The site: the lowest 4,096 bits.
abbrev pub coverage_limit : ℕ
coverage_limit = 4096

-- 01, The site: the first gap among the lowest min(width, 4,096) bits.
unfoldable pub first_gap : List Site → ℕ → Option ℕ
first_gap ss width = gap_from ss 0 (min width coverage_limit)

-- 01, The site: what is said of an output: `never`, `gap`, or nothing.
pub data Coverage : Type 0 where
  never fully : Coverage
  gap : ℕ → Coverage

-- 01, The site: a first gap gives `gap`.
abbrev pub gap_coverage : Option ℕ → Coverage
gap_coverage none = fully
gap_coverage (some b) = gap b

-- 01, The site: width evaluable and above 0.
abbrev pub width_coverage : List Site → Value → Coverage
width_coverage ss (known (pos w)) = gap_coverage (first_gap ss w)
width_coverage ss (known (negsuc w)) = fully
width_coverage ss missing = fully
width_coverage ss outside = fully

-- 01, The value: a width is taken after collection. Decision: only where the output has sites and all are ranges.
unfoldable pub deciding_width : Names → List Site → Width → Value
deciding_width names [] w = missing
deciding_width names (s ∷ ss) w = elim (only_ranges (s ∷ ss)) [ true ↦ width_value names w | false ↦ missing ]

-- 01, The site: no site E0502 `never`; all Range and width evaluable and above 0: the first gap gives `gap`.
unfoldable pub coverage : Names → List Site → Width → Coverage
coverage names [] w = never
coverage names (s ∷ ss) w = width_coverage (s ∷ ss) (deciding_width names (s ∷ ss) w)
