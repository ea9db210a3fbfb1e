-- Pairs of name and block in the table. Assumes nothing.
use mathlib.Core.Path.{◌≡◌, refl, sym, ap, ◌∙◌}
use mathlib.Core.Bool.{Bool, true, false}
use mathlib.Core.List.{List, [], ◌∷◌}
use Prim.Native.Nat.{ℕ, ◌+◌, ◌*◌, ◌<◌}
use native.Mathlib.Omega.{arith}
use lib.ListN.{get_or}
use borrow.Author.Tests.{eq-eqb, ne_eqb}
use Rattle.spec.specs.Block.{Pair, has_pair}
use Rattle.sites.specs.Own.{Table, items, run, row, rows_in, pair_table, pair_from}
use Rattle.sites.proofs.Rows.{row_at}

-- a row's name
pub row_name : (t : Table) (own : List ℕ) (i : ℕ) → 0 < t.width → get_or (row t own i) 0 0 ≡ get_or own (t.base + t.width * i) 0
row_name t own i h = let z : t.base + t.width * i + 0 ≡ t.base + t.width * i = omega arith in row_at t own i 0 h ∙ ap (λ (k : ℕ). get_or own k 0) z

module _ (own : List ℕ) (i : ℕ) (p : Pair) (qs : List Pair) where
  pub pair_here : get_or own (pair_table.base + 2 * i) 0 ≡ p.name → get_or own (pair_table.base + 2 * i + 1) 0 ≡ p.block → has_pair p (pair_from (row pair_table own i) ∷ qs) ≡ true
  unfolding has_pair
  pair_here e d =
      rw (
        eq-eqb p.name (get_or (row pair_table own i) 0 0) (sym (row_name pair_table own i (omega arith) ∙ e)),
        eq-eqb p.block (get_or (row pair_table own i) 1 0) (sym (row_at pair_table own i 1 (omega arith) ∙ d)),
      )

  pub pair_other_block : get_or own (pair_table.base + 2 * i) 0 ≡ p.name → ¬ (get_or own (pair_table.base + 2 * i + 1) 0 ≡ p.block) → has_pair p (pair_from (row pair_table own i) ∷ qs) ≡ has_pair p qs
  unfolding has_pair
  pair_other_block e d =
      rw (
        eq-eqb p.name (get_or (row pair_table own i) 0 0) (sym (row_name pair_table own i (omega arith) ∙ e)),
        ne_eqb p.block (get_or (row pair_table own i) 1 0) (λ x. d (sym (x ∙ row_at pair_table own i 1 (omega arith)))),
      )

  pub pair_other_name : ¬ (get_or own (pair_table.base + 2 * i) 0 ≡ p.name) → has_pair p (pair_from (row pair_table own i) ∷ qs) ≡ has_pair p qs
  unfolding has_pair
  pair_other_name d = rw (ne_eqb p.name (get_or (row pair_table own i) 0 0) (λ x. d (sym (x ∙ row_name pair_table own i (omega arith)))))

pub pair_none : (p : Pair) → has_pair p [] ≡ false
unfolding has_pair
pair_none p = refl

pub pairs_by : (own : List ℕ) (p : Pair) (n : ℕ) (b : Bool) → n ≡ rows_in pair_table own → b ≡ has_pair p (run (λ i. pair_from (row pair_table own i)) 0 n)
    → has_pair p (items pair_from pair_table own) ≡ b
pairs_by own p n b e q = ap (λ (k : ℕ). has_pair p (run (λ i. pair_from (row pair_table own i)) 0 k)) (sym e) ∙ sym q
