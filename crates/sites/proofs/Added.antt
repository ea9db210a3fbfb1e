-- What each addition does to the run of numbers, and to all the tables. Assumes nothing.
use mathlib.Core.Path.{◌≡◌, refl, sym, ap, ◌∙◌}
use mathlib.Core.Bool.{true, false}
use mathlib.Core.List.{List, [], ◌∷◌}
use Prim.Native.Nat.{ℕ}
use native.Mathlib.Omega.{arith}
use lib.ListN.{length, get_or}
use borrow.Author.Tests.{eq-eqb, ne_eqb}
use Rattle.spec.specs.Site as site
use Rattle.spec.specs.Block.{Pair, has_pair}
use Rattle.sites.specs.declared.Extent.{Extent}
use Rattle.sites.specs.declared.Extent.TheVariants as extent
use Rattle.sites.specs.declared.Misuse.{Misuse}
use Rattle.sites.specs.declared.Misuse.TheVariants as misuse
use Rattle.sites.specs.Stored.{Stored}
use Rattle.sites.specs.Stored as stored
use Rattle.sites.specs.Own.{Table, Shape, places, items, own_of, number_of, added, pushed, push_answer, first_row, row_added, pair_row_added, first_added, extent_of, extent_from, extent_numbers, misuse_of, misuse_from, misuse_number, add_site, add_pair, add_output, add_reg, add_mem, add_misuse, site_table, pair_table, port_table, reg_table, mem_table, misuse_table, conflict_table, site_from, pair_from, port_from, storage_from, misused_from, conflict_from}
use Rattle.sites.proofs.Rows.{pushed_items, pushed_other, answer_items, first_items, first_other, same_own}

pub site_shape : (own : List ℕ) → length own ≡ places → Shape site_table own
site_shape own h = record { inside = omega arith; before = omega arith; some = omega arith; narrow = omega arith; few = omega arith }

pub pair_shape : (own : List ℕ) → length own ≡ places → Shape pair_table own
pair_shape own h = record { inside = omega arith; before = omega arith; some = omega arith; narrow = omega arith; few = omega arith }

pub port_shape : (own : List ℕ) → length own ≡ places → Shape port_table own
port_shape own h = record { inside = omega arith; before = omega arith; some = omega arith; narrow = omega arith; few = omega arith }

pub reg_shape : (own : List ℕ) → length own ≡ places → Shape reg_table own
reg_shape own h = record { inside = omega arith; before = omega arith; some = omega arith; narrow = omega arith; few = omega arith }

pub mem_shape : (own : List ℕ) → length own ≡ places → Shape mem_table own
mem_shape own h = record { inside = omega arith; before = omega arith; some = omega arith; narrow = omega arith; few = omega arith }

pub misuse_shape : (own : List ℕ) → length own ≡ places → Shape misuse_table own
misuse_shape own h = record { inside = omega arith; before = omega arith; some = omega arith; narrow = omega arith; few = omega arith }

pub conflict_shape : (own : List ℕ) → length own ≡ places → Shape conflict_table own
conflict_shape own h = record { inside = omega arith; before = omega arith; some = omega arith; narrow = omega arith; few = omega arith }

-- a site more, or no room
pub site_added : (own vs : List ℕ) (s : site.Site) → length own ≡ places → length vs ≡ 5 → site_from vs ≡ s
    → added (push_answer site_table own) (own_of (pushed site_table own vs)) ≡ add_site s (own_of own)
unfolding add_site own_of
site_added own vs s h w e =
    let sh = site_shape own h in
    rw (← e) (λ i. record {
      answer = number_of (answer_items site_from site_table own vs sh w i);
      own = same_own
          (pushed_items site_from site_table own vs sh w)
          (pushed_other pair_from site_table pair_table own vs w (tt, tt, tt, tt, tt, tt))
          (pushed_other port_from site_table port_table own vs w (tt, tt, tt, tt, tt, tt))
          (pushed_other storage_from site_table reg_table own vs w (tt, tt, tt, tt, tt, tt))
          (pushed_other storage_from site_table mem_table own vs w (tt, tt, tt, tt, tt, tt))
          (pushed_other misused_from site_table misuse_table own vs w (tt, tt, tt, tt, tt, tt))
          (pushed_other conflict_from site_table conflict_table own vs w (tt, tt, tt, tt, tt, tt)) i;
    })

-- a pair more, or no room, where it is a new one
pub pair_added : (own vs : List ℕ) (p : Pair) → length own ≡ places → length vs ≡ 2 → pair_from vs ≡ p → has_pair p (items pair_from pair_table own) ≡ false
    → added (push_answer pair_table own) (own_of (pushed pair_table own vs)) ≡ add_pair p (own_of own)
unfolding add_pair own_of
pair_added own vs p h w e n =
    let sh = pair_shape own h in
    rw (n, add_pair, ← e) (λ i. record {
      answer = number_of (answer_items pair_from pair_table own vs sh w i);
      own = same_own
          (pushed_other site_from pair_table site_table own vs w (tt, tt, tt, tt, tt, tt))
          (pushed_items pair_from pair_table own vs sh w)
          (pushed_other port_from pair_table port_table own vs w (tt, tt, tt, tt, tt, tt))
          (pushed_other storage_from pair_table reg_table own vs w (tt, tt, tt, tt, tt, tt))
          (pushed_other storage_from pair_table mem_table own vs w (tt, tt, tt, tt, tt, tt))
          (pushed_other misused_from pair_table misuse_table own vs w (tt, tt, tt, tt, tt, tt))
          (pushed_other conflict_from pair_table conflict_table own vs w (tt, tt, tt, tt, tt, tt)) i;
    })

pub pair_seen : (own : List ℕ) (p : Pair) → has_pair p (items pair_from pair_table own) ≡ true → added stored.Done (own_of own) ≡ add_pair p (own_of own)
unfolding add_pair own_of
pair_seen own p n = sym (rw (n, add_pair))

pub output_added : (own vs : List ℕ) → length own ≡ places → length vs ≡ 4 → own_of (first_row port_table own vs) ≡ add_output (port_from vs) (own_of own)
unfolding add_output own_of
output_added own vs h w =
    let sh = port_shape own h in
    same_own
    (first_other site_from port_table site_table own vs w (tt, tt, tt, tt, tt, tt))
    (first_other pair_from port_table pair_table own vs w (tt, tt, tt, tt, tt, tt))
    (first_items port_from port_table own vs sh w (λ x. x.name) (λ r. refl) refl)
    (first_other storage_from port_table reg_table own vs w (tt, tt, tt, tt, tt, tt))
    (first_other storage_from port_table mem_table own vs w (tt, tt, tt, tt, tt, tt))
    (first_other misused_from port_table misuse_table own vs w (tt, tt, tt, tt, tt, tt))
    (first_other conflict_from port_table conflict_table own vs w (tt, tt, tt, tt, tt, tt))

pub reg_added : (own vs : List ℕ) → length own ≡ places → length vs ≡ 2 → own_of (first_row reg_table own vs) ≡ add_reg (storage_from vs) (own_of own)
unfolding add_reg own_of
reg_added own vs h w =
    let sh = reg_shape own h in
    same_own
    (first_other site_from reg_table site_table own vs w (tt, tt, tt, tt, tt, tt))
    (first_other pair_from reg_table pair_table own vs w (tt, tt, tt, tt, tt, tt))
    (first_other port_from reg_table port_table own vs w (tt, tt, tt, tt, tt, tt))
    (first_items storage_from reg_table own vs sh w (λ x. x.name) (λ r. refl) refl)
    (first_other storage_from reg_table mem_table own vs w (tt, tt, tt, tt, tt, tt))
    (first_other misused_from reg_table misuse_table own vs w (tt, tt, tt, tt, tt, tt))
    (first_other conflict_from reg_table conflict_table own vs w (tt, tt, tt, tt, tt, tt))

pub mem_added : (own vs : List ℕ) → length own ≡ places → length vs ≡ 2 → own_of (first_row mem_table own vs) ≡ add_mem (storage_from vs) (own_of own)
unfolding add_mem own_of
mem_added own vs h w =
    let sh = mem_shape own h in
    same_own
    (first_other site_from mem_table site_table own vs w (tt, tt, tt, tt, tt, tt))
    (first_other pair_from mem_table pair_table own vs w (tt, tt, tt, tt, tt, tt))
    (first_other port_from mem_table port_table own vs w (tt, tt, tt, tt, tt, tt))
    (first_other storage_from mem_table reg_table own vs w (tt, tt, tt, tt, tt, tt))
    (first_items storage_from mem_table own vs sh w (λ x. x.name) (λ r. refl) refl)
    (first_other misused_from mem_table misuse_table own vs w (tt, tt, tt, tt, tt, tt))
    (first_other conflict_from mem_table conflict_table own vs w (tt, tt, tt, tt, tt, tt))

pub misuse_added : (own vs : List ℕ) → length own ≡ places → length vs ≡ 3 → own_of (first_row misuse_table own vs) ≡ add_misuse (misused_from vs) (own_of own)
unfolding add_misuse own_of
misuse_added own vs h w =
    let sh = misuse_shape own h in
    same_own
    (first_other site_from misuse_table site_table own vs w (tt, tt, tt, tt, tt, tt))
    (first_other pair_from misuse_table pair_table own vs w (tt, tt, tt, tt, tt, tt))
    (first_other port_from misuse_table port_table own vs w (tt, tt, tt, tt, tt, tt))
    (first_other storage_from misuse_table reg_table own vs w (tt, tt, tt, tt, tt, tt))
    (first_other storage_from misuse_table mem_table own vs w (tt, tt, tt, tt, tt, tt))
    (first_items misused_from misuse_table own vs sh w (λ x. x.name) (λ r. refl) refl)
    (first_other conflict_from misuse_table conflict_table own vs w (tt, tt, tt, tt, tt, tt))

-- an answer and tables that are the same
pub added_by : {r r' : Stored} {l l' : List ℕ} → r ≡ r' → l ≡ l' → added r (own_of l) ≡ added r' (own_of l')
added_by p q = λ i. added (p i) (own_of (q i))

-- the numbers of an extent and of a misuse mean it
pub extent_read : (e : Extent) → extent_from (get_or (extent_numbers e) 0 0) (get_or (extent_numbers e) 1 0) (get_or (extent_numbers e) 2 0) ≡ extent_of e
unfolding extent_from
extent_read extent.Whole = refl
extent_read (extent.Range l h) = refl
extent_read extent.Dynamic = refl
extent_read extent.Unknown = refl

pub extent_means : (e : Extent) (a b c : ℕ) → a ∷ b ∷ c ∷ [] ≡ extent_numbers e → extent_from a b c ≡ extent_of e
extent_means e a b c q = ap (λ (l : List ℕ). extent_from (get_or l 0 0) (get_or l 1 0) (get_or l 2 0)) q ∙ extent_read e

misuse_read : (m : Misuse) → misuse_from (misuse_number m) ≡ misuse_of m
unfolding misuse_from
misuse_read misuse.Wire = refl
misuse_read misuse.Reg = refl
misuse_read misuse.Mem = refl
misuse_read misuse.Arrow = refl

pub misuse_means : (m : Misuse) (a : ℕ) → a ≡ misuse_number m → misuse_from a ≡ misuse_of m
misuse_means m a q = ap misuse_from q ∙ misuse_read m

-- the run of numbers, by its length
module _ (t : Table) (own vs : List ℕ) where
  pub row_none : ¬ (length own ≡ places) → added stored.Full own ≡ row_added t own vs
  unfolding row_added
  row_none d = sym (rw (ne_eqb (length own) places d, row_added))

  pub row_put : (r : Stored) (own' : List ℕ) → length own ≡ places → r ≡ push_answer t own → own' ≡ pushed t own vs → added r own' ≡ row_added t own vs
  unfolding row_added
  row_put r own' h a w = (λ i. added (a i) (w i)) ∙ sym (rw (eq-eqb (length own) places h, row_added))

  pub first_none : ¬ (length own ≡ places) → own ≡ first_added t own vs
  unfolding first_added
  first_none d = sym (rw (ne_eqb (length own) places d, first_added))

  pub first_put : (own' : List ℕ) → length own ≡ places → own' ≡ first_row t own vs → own' ≡ first_added t own vs
  unfolding first_added
  first_put own' h w = w ∙ sym (rw (eq-eqb (length own) places h, first_added))

module _ (p : Pair) (own : List ℕ) where
  pub pair_none : ¬ (length own ≡ places) → added stored.Full own ≡ pair_row_added p own
  unfolding pair_row_added
  pair_none d = row_none pair_table own (p.name ∷ p.block ∷ []) d ∙ sym (rw (ne_eqb (length own) places d, pair_row_added))

  pub pair_there : length own ≡ places → has_pair p (items pair_from pair_table own) ≡ true → added stored.Done own ≡ pair_row_added p own
  unfolding pair_row_added
  pair_there h n = sym (rw (eq-eqb (length own) places h, n, pair_row_added))

  pub pair_put : (r : Stored) (own' : List ℕ) → length own ≡ places → has_pair p (items pair_from pair_table own) ≡ false → r ≡ push_answer pair_table own → own' ≡ pushed pair_table own (p.name ∷ p.block ∷ []) → added r own' ≡ pair_row_added p own
  unfolding pair_row_added
  pair_put r own' h n a w = row_put pair_table own (p.name ∷ p.block ∷ []) r own' h a w ∙ sym (rw (eq-eqb (length own) places h, n, pair_row_added))
