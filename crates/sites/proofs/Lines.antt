-- Lines as they stand in their rows. Assumes nothing.
use mathlib.Core.Path.{◌≡◌, refl, sym, ap, ◌∙◌}
use mathlib.Core.List.{List, []}
use Prim.Native.Nat.{ℕ, ◌+◌, ◌*◌, ◌<◌}
use native.Mathlib.Omega.{arith}
use lib.ListN.{get_or}
use Rattle.spec.specs.Site.{Misused}
use Rattle.spec.specs.Block.{Storage}
use Rattle.sites.specs.declared.Misuse.{Misuse}
use Rattle.sites.specs.declared.Misuse.TheVariants as misuse
use Rattle.sites.specs.Own.{Table, Port, row, port_table, misuse_table, storage_from, port_from, misused_from, misuse_from, misuse_of}
use Rattle.sites.proofs.Rows.{row_at}
use Rattle.sites.proofs.Pairs.{row_name}

pub storage_read : (t : Table) (own : List ℕ) (i : ℕ) → 1 < t.width
    → ◌≡◌ {A = Storage} (record { name = get_or own (t.base + t.width * i) 0; start = get_or own (t.base + t.width * i + 1) 0 }) (storage_from (row t own i))
storage_read t own i h = λ k. record { name = sym (row_name t own i (omega arith)) k; start = sym (row_at t own i 1 h) k }

pub port_read : (own : List ℕ) (i : ℕ)
    → ◌≡◌ {A = Port} (record { name = get_or own (port_table.base + 4 * i) 0; start = get_or own (port_table.base + 4 * i + 1) 0; from = get_or own (port_table.base + 4 * i + 2) 0; to = get_or own (port_table.base + 4 * i + 3) 0 }) (port_from (row port_table own i))
port_read own i =
    let a = row_name port_table own i (omega arith) in
    let b = row_at port_table own i 1 (omega arith) in
    let c = row_at port_table own i 2 (omega arith) in
    let d = row_at port_table own i 3 (omega arith) in
    λ k. record { name = sym a k; start = sym b k; from = sym c k; to = sym d k }

pub misused_read : (own : List ℕ) (i : ℕ) (m : Misuse) → misuse_of m ≡ misuse_from (get_or own (misuse_table.base + 3 * i + 2) 0)
    → ◌≡◌ {A = Misused} (record { name = get_or own (misuse_table.base + 3 * i) 0; start = get_or own (misuse_table.base + 3 * i + 1) 0; misuse = misuse_of m }) (misused_from (row misuse_table own i))
misused_read own i m e =
    let a = row_name misuse_table own i (omega arith) in
    let b = row_at misuse_table own i 1 (omega arith) in
    let c = row_at misuse_table own i 2 (omega arith) in
    λ k. record { name = sym a k; start = sym b k; misuse = (e ∙ ap misuse_from (sym c)) k }

-- the row that is not there
pub zero_row : ◌≡◌ {A = Misused} (record { name = 0; start = 0; misuse = misuse_of misuse.Wire }) (misused_from [])
unfolding misuse_from
zero_row = refl
