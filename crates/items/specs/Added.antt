-- What any bytes, read as a collected line, add to any words: the answer and every word. 01: The line; The site; The block; Refused because of the
-- state; Worthless checks.
-- To a reader: definitions that contracts of this and other crates cite; each such contract is proved; check_drivers' own promise cites none of them.
use Rattle.std.specs.Prelude.{◌≡◌, Bool, true, false, ◌&&◌, List, [], ◌∷◌, ℕ, zero, suc, ◌+◌, ◌-◌, get_or, eqb, leb}
use Rattle.spec.specs.Bytes.{Bytes}
use Rattle.spec.specs.Value.{Names}
use Rattle.spec.specs.Cleared.{Cleared}
use Rattle.spec.specs.Site as site
use Rattle.spec.specs.Site.{Driving, an_output, a_wire, a_reg, a_mem, nothing, driving, lvalue_extent}
use Rattle.lines.specs.Parts.{piece, next_end, follows}
use Rattle.sites.specs.Own.{Added, added, site_table, port_table, reg_table, mem_table, misuse_table, site_numbers, misuse_number, row_added, pair_row_added, first_added}
use Rattle.sites.specs.declared.Extent.{Extent}
use Rattle.sites.specs.declared.Extent.TheVariants as extent
use Rattle.sites.specs.declared.Site.{Site}
use Rattle.sites.specs.declared.Misuse.{Misuse}
use Rattle.sites.specs.declared.Misuse.TheVariants as misuse
use Rattle.sites.specs.Stored as stored
use Rattle.edges.specs.Reads.{kind_word}
use Rattle.edges.specs.Total.{parts_behind}
use Rattle.items.specs.declared.Named.{Named}
use Rattle.items.specs.Lines.{number_at, named_at, index_at, index_outside, lvalue_part, driven}

-- 01, Worthless checks; Refused because of the state: what every lent word becomes, by what adding to the words gives: they are what it gives (true);
-- or it gives 20, and each of them is 0
abbrev pub OwnLeaves : Bool → Added (List ℕ) → (own' : List ℕ) → Type 0
OwnLeaves true a own' = a ≡ added stored.Done own'
OwnLeaves false a own' = (a.answer ≡ 20) × Cleared own'

-- 01, Refused because of the state: the next is added only where there was room for what came before
unfoldable pub and_then : Added (List ℕ) → (List ℕ → Added (List ℕ)) → Added (List ℕ)
and_then a next = elim (eqb a.answer 0) [ true ↦ next a.own | false ↦ a ]

-- 01, The site: what driving a name does, by its byte in any table of kinds
abbrev pub driving_by : List ℕ → (name : ℕ) → Driving
driving_by kinds n = driving (kind_word (get_or kinds n 0))

-- 01, The site: these three report once a name: a misuse of the name in l, at its START
abbrev pub misuse_added : Misuse → Named → List ℕ → Added (List ℕ)
misuse_added m l own = added stored.Done (first_added misuse_table own (l.name ∷ l.start ∷ misuse_number m ∷ []))

-- 01, The site: whether any bytes have the parts of a `port out` line, of which the name and the width end at a and b, and the places of the text are
-- words of 32 bits
abbrev pub is_output : Bytes → (base a b : ℕ) → Bool
is_output x base a b = eqb (get_or x 6 0) 111 && (follows x 9 && (follows x a && (follows x b && leb b (4294967295 - base))))

-- 01, The site: its row: name, START, from where and to where its width stands in the text, in which the line begins at `base`
abbrev pub output_row : Bytes → (base a b : ℕ) → List ℕ
output_row x base a b = number_at x 9 a ∷ number_at x b (next_end x b) ∷ (base + (a + 1)) ∷ (base + b) ∷ []

-- 01, The site: each collected output, first port line
unfoldable pub port_added : Bytes → (base : ℕ) → List ℕ → List ℕ
port_added x base own =
    elim (is_output x base (next_end x 9) (next_end x (next_end x 9))) [
      | true ↦ first_added port_table own (output_row x base (next_end x 9) (next_end x (next_end x 9)))
      | false ↦ own
    ]

-- 01, The block: regs and mems too count by their first collected line
abbrev pub reg_added : Bytes → List ℕ → List ℕ
reg_added x own = first_added reg_table own ((named_at x 4).name ∷ (named_at x 4).start ∷ [])

-- 01, The block: regs and mems too count by their first collected line
abbrev pub mem_added : Bytes → List ℕ → List ℕ
mem_added x own = first_added mem_table own ((named_at x 4).name ∷ (named_at x 4).start ∷ [])

-- 01, The site: an extent as the code holds it; `extent_of` gives it back
abbrev pub extent_as : site.Extent → Extent
extent_as site.Whole = extent.Whole
extent_as (site.Range l h) = extent.Range l h
extent_as site.Dynamic = extent.Dynamic
extent_as site.Unknown = extent.Unknown

-- 01, The site: the site of the output in l, by the indexes that stand behind it in any bytes y
abbrev pub driven_site : Bytes → Named → Bool → (d : ℕ) → Names → Site
driven_site y l bound d names = record { name = l.name; extent = extent_as (lvalue_extent bound names (index_at y l.end d)); start = l.start }

-- 01, The site; Refused because of the state: one site more; 20 where an index is outside INT
unfoldable pub output_driven : Bytes → Named → Bool → (d : ℕ) → Names → List ℕ → Added (List ℕ)
output_driven y l bound d names own =
    elim (index_outside y l.end d names) [
      | true ↦ added stored.Full own
      | false ↦ row_added site_table own (site_numbers (driven_site y l bound d names))
    ]

-- 01, The site: what driving the name in l adds
abbrev pub drive_by : Driving → Bytes → Named → Bool → (d : ℕ) → Names → List ℕ → Added (List ℕ)
drive_by an_output y l bound d names own = output_driven y l bound d names own
drive_by a_wire y l bound d names own = misuse_added misuse.Wire l own
drive_by a_reg y l bound d names own = misuse_added misuse.Reg l own
drive_by a_mem y l bound d names own = misuse_added misuse.Mem l own
drive_by nothing y l bound d names own = added stored.Done own

-- 01, The site: what a `drive` line in any bytes adds
unfoldable pub drive_added : Bytes → Bool → (d : ℕ) → (kinds : List ℕ) → Names → List ℕ → Added (List ℕ)
drive_added x bound d kinds names own = drive_by (driving_by kinds (driven x).name) (lvalue_part x) (driven x) bound d names own

-- 01, Refused because of the state: 512 pairs of name and block: the pair of these
abbrev pub block_added : (name block : ℕ) → List ℕ → Added (List ℕ)
block_added n block own = pair_row_added (record { name = n; block = block }) own

-- 01, The block; The site: `set` on reg or mem counts, on wire or out it is an arrow
abbrev pub set_by : Driving → Named → (block : ℕ) → List ℕ → Added (List ℕ)
set_by an_output l block own = misuse_added misuse.Arrow l own
set_by a_wire l block own = misuse_added misuse.Arrow l own
set_by a_reg l block own = block_added l.name block own
set_by a_mem l block own = block_added l.name block own
set_by nothing l block own = added stored.Done own

-- 01, The block; The site: what a `set` in any bytes adds
unfoldable pub set_added : (block : ℕ) → (kinds : List ℕ) → Bytes → List ℕ → Added (List ℕ)
set_added block kinds s own = set_by (driving_by kinds (named_at s 4).name) (named_at s 4) block own

-- 01, The block: `default` on reg counts
abbrev pub default_by : Driving → (name block : ℕ) → List ℕ → Added (List ℕ)
default_by an_output n block own = added stored.Done own
default_by a_wire n block own = added stored.Done own
default_by a_reg n block own = block_added n block own
default_by a_mem n block own = added stored.Done own
default_by nothing n block own = added stored.Done own

-- 01, The line: the name of a `default` in any bytes
abbrev pub default_name : Bytes → ℕ
default_name s = number_at s 8 (next_end s 8)

-- 01, The block: what a `default` in any bytes adds
unfoldable pub default_added : (block : ℕ) → (kinds : List ℕ) → Bytes → List ℕ → Added (List ℕ)
default_added block kinds s own = default_by (driving_by kinds (default_name s)) (default_name s) block own

-- 01, The block; The site: what statements add, one after the other, f giving what each adds
unfoldable pub all_added : (f : Bytes → List ℕ → Added (List ℕ)) → List Bytes → List ℕ → Added (List ℕ)
all_added f [] own = added stored.Done own
all_added f (s ∷ ss) own = and_then (f s own) (all_added f ss)

-- 01, The line; The block; The site: what a `when` in any bytes adds: its first part's statements, then its second's; nothing where it has no second
unfoldable pub when_added : (f : Bytes → List ℕ → Added (List ℕ)) → Bytes → List ℕ → Added (List ℕ)
when_added f s own =
    elim (follows s (next_end s 5)) [
      | true ↦ and_then (all_added f (parts_behind (piece s 5 (next_end s 5)) 5) own) (all_added f (parts_behind (piece s (next_end s 5) (next_end s (next_end s 5))) 5))
      | false ↦ added stored.Done own
    ]

-- 01, The line; The block; The site: what any bytes add as a statement at most d brackets deep, by the first byte of its word: s, d, l, or any other for `when`
unfoldable pub stmt_added : (block : ℕ) → (kinds : List ℕ) → (d : ℕ) → Bytes → List ℕ → Added (List ℕ)
stmt_added block kinds zero s own = added stored.Done own
stmt_added block kinds (suc d) s own =
    elim (eqb (get_or s 1 0) 115) [
      | true ↦ set_added block kinds s own
      | false ↦ elim (eqb (get_or s 1 0) 100) [
        | true ↦ default_added block kinds s own
        | false ↦ elim (eqb (get_or s 1 0) 108) [
          | true ↦ all_added (stmt_added block kinds d) (parts_behind s 5) own
          | false ↦ when_added (stmt_added block kinds d) s own
        ]
      ]
    ]

-- 01, The block: a block is its START: what an `on` line in any bytes adds
unfoldable pub on_added : Bytes → (d : ℕ) → (kinds : List ℕ) → List ℕ → Added (List ℕ)
on_added x d kinds own = all_added (stmt_added (number_at x 3 (next_end x 3)) kinds d) (parts_behind x (next_end x 3)) own

-- 01, The line; The site; The block: what any bytes add as a line, by the first byte of its word: d, o, p, r or m; any other adds nothing
unfoldable pub line_added : Bytes → (base : ℕ) → Bool → (d : ℕ) → (kinds : List ℕ) → Names → List ℕ → Added (List ℕ)
line_added x base bound d kinds names own =
    elim (eqb (get_or x 1 0) 100) [
      | true ↦ drive_added x bound d kinds names own
      | false ↦ elim (eqb (get_or x 1 0) 111) [
        | true ↦ on_added x d kinds own
        | false ↦ elim (eqb (get_or x 1 0) 112) [
          | true ↦ added stored.Done (port_added x base own)
          | false ↦ elim (eqb (get_or x 1 0) 114) [
            | true ↦ added stored.Done (reg_added x own)
            | false ↦ elim (eqb (get_or x 1 0) 109) [ true ↦ added stored.Done (mem_added x own) | false ↦ added stored.Done own ]
          ]
        ]
      ]
    ]
