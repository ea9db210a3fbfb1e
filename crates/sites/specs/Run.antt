-- A run of records: the sites that they stand for, and what is stored there. 01: The site; Refused because of the state.
-- To a reader: definitions that contracts of this crate cite; each such contract is proved; check_drivers' own promise needs none of them.
use Rattle.std.specs.Prelude.{◌≡◌, Bool, true, false, List, [], ◌∷◌, ℕ, ◌≤◌, length, get_or}
use Rattle.spec.specs.Site as site
use Rattle.sites.specs.Own.{extent_from, extent_numbers, found_of, number_of, own_of, places, rows_in, site_table}
use Rattle.std.specs.Prelude.{Some, None}
use Rattle.std.specs.Prelude as rust
use Rattle.sites.specs.declared.Site.{Site}
use Rattle.sites.specs.Stored.{Stored}
use Rattle.sites.specs.Stored as stored
use Rattle.sites.specs.declared.records.Record.{Record}

-- 01, The site: each site holds one extent: Whole, Range, Dynamic or Unknown, here by the record's code. A code past those is Unknown.
abbrev pub extent_in : Record → site.Extent
extent_in r = extent_from r.code r.low r.high

-- 01, The site: the site that a record stands for.
abbrev pub site_in : Record → site.Site
site_in r = record { name = r.name; extent = extent_in r; start = r.start }

-- 01, The site: the sites of a run of records, in order.
unfoldable pub sites_in : List Record → List site.Site
sites_in [] = []
sites_in (r ∷ rs) = site_in r ∷ sites_in rs

-- 01, The site: the record of a site, its extent in the same three numbers as in a row of the tables.
abbrev pub record_of : Site → Record
record_of s =
    let e = extent_numbers s.extent in record { name = s.name; code = get_or e 0 0; low = get_or e 1 0; high = get_or e 2 0; start = s.start }

-- 01, The site: a site is stored where there is room.
abbrev pub stored_by : Bool → Stored
stored_by true = stored.Done
stored_by false = stored.Full

-- 01, The site; Refused because of the state: what the answer says of whether there is room, and its number: 20 exactly where there is none.
abbrev pub StoredBy : Bool → Stored → Type 0
StoredBy t r = (r ≡ stored_by t) × (number_of r ≡ elim t [ true ↦ 0 | false ↦ 20 ])

-- 01, The site: what is found of the sites of a name in a table of at most N sites: the first later one that meets an earlier one. In a run of
-- numbers of another length nothing is found.
abbrev pub NameConflict : ℕ → ℕ → List ℕ → rust.Option ℕ → Type 0
NameConflict N n own r =
    (length own ≡ places → rows_in site_table own ≤ N → found_of r ≡ site.first_conflict [] (site.sites_of n (own_of own).sites))
    × (¬ (length own ≡ places) → r ≡ None)
