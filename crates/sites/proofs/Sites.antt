-- Sites in the table, and the search for a conflict. Assumes nothing.
use mathlib.Core.Path.{◌≡◌, sym, ap, ◌∙◌}
use mathlib.Core.List.{List, ◌∷◌}
use Prim.Native.Nat.{ℕ, ◌+◌, ◌*◌, ◌-◌, ◌<◌}
use native.Mathlib.Omega.{arith}
use lib.ListN.{get_or}
use borrow.Author.Tests.{eq-eqb, ne_eqb}
use Rattle.spec.specs.Site.{Site, sites_of}
use Rattle.sites.specs.declared.Extent as declared
use Rattle.sites.specs.Own.{extent_of, extent_from, run, row, site_table, site_from}
use Rattle.sites.proofs.Rows.{run_step, row_at}
use Rattle.sites.proofs.Pairs.{row_name}

-- the sites of a name from a row on
module _ (n : ℕ) (f : ℕ → Site) where
  pub here_own : (i m : ℕ) → i < m → (f i).name ≡ n → sites_of n (run f i (m - i)) ≡ f i ∷ sites_of n (run f (i + 1) (m - (i + 1)))
  unfolding sites_of
  here_own i m h e = ap (sites_of n) (run_step f i m h) ∙ rw (eq-eqb n (f i).name (sym e), sites_of)

  pub here_other : (i m : ℕ) → i < m → ¬ ((f i).name ≡ n) → sites_of n (run f i (m - i)) ≡ sites_of n (run f (i + 1) (m - (i + 1)))
  unfolding sites_of
  here_other i m h d = ap (sites_of n) (run_step f i m h) ∙ rw (ne_eqb n (f i).name (λ e. d (sym e)), sites_of)

-- a site as it stands in its row
pub site_read : (own : List ℕ) (i : ℕ) (x : declared.Extent) → extent_of x ≡ extent_from (get_or own (8 + 5 * i + 1) 0) (get_or own (8 + 5 * i + 2) 0) (get_or own (8 + 5 * i + 3) 0)
    → ◌≡◌ {A = Site} (record { name = get_or own (8 + 5 * i) 0; extent = extent_of x; start = get_or own (8 + 5 * i + 4) 0 }) (site_from (row site_table own i))
site_read own i x e =
    let a = row_at site_table own i 1 (omega arith) in
    let b = row_at site_table own i 2 (omega arith) in
    let c = row_at site_table own i 3 (omega arith) in
    let d = row_at site_table own i 4 (omega arith) in
    λ j. record {
      name = sym (row_name site_table own i (omega arith)) j;
      extent = (e ∙ (λ k. extent_from (sym a k) (sym b k) (sym c k))) j;
      start = sym d j;
    }

-- a row that is asked for
module _ (own : List ℕ) (i n : ℕ) where
  pub row_called : get_or own (8 + 5 * i) 0 ≡ n → (site_from (row site_table own i)).name ≡ n
  row_called e = row_name site_table own i (omega arith) ∙ e

  pub row_other : ¬ (get_or own (8 + 5 * i) 0 ≡ n) → ¬ ((site_from (row site_table own i)).name ≡ n)
  row_other d e = d (sym (row_name site_table own i (omega arith)) ∙ e)
