-- A run of zeros is tables with no row. Assumes nothing.
use mathlib.Core.Path.{◌≡◌, refl}
use mathlib.Core.List.{[]}
use lib.ListN.{replicate}
use Rattle.sites.specs.Own.{places, own_of, rows_in, run, Own}

-- 01, The site; The block: tables with no row
abbrev pub no_rows : Own
no_rows = record { sites = []; pairs = []; outputs = []; regs = []; mems = []; misuses = []; conflicts = [] }

pub cleared_own : own_of (replicate places 0) ≡ no_rows
unfolding own_of rows_in run
cleared_own = refl
