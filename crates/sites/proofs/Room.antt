-- The tables that hold a name once are never full, and sites and pairs are refused where their limit is passed: each addition is the
-- definition's step. 01: Refused because of the state. Assumes nothing.
use mathlib.Core.Path.{◌≡◌, refl, sym, ap, subst, ◌∙◌}
use mathlib.Core.Bool.{Bool, true, false, ◌&&◌, ◌||◌}
use mathlib.Core.Logic.{◌⊎◌, inl, inr}
use mathlib.Core.List.Memᴰ
use mathlib.Core.List.{List, [], ◌∷◌, ◌++◌, map}
use Prim.Native.Nat.{ℕ, zero, suc, ◌+◌, ◌≤◌, ◌<◌}
use native.Mathlib.Omega.{arith}
use native.Mathlib.Decide.{ℕ_discrete}
use lib.Dec.{eqb, ltb}
use lib.ListN.{length}
use borrow.Author.Tests.{lt-ltb, le-ltb, ltb-true, ltb-false}
use Rattle.spec.specs.Refusal.{has_name}
use Rattle.spec.specs.DepthFirst.{among}
use Rattle.spec.specs.Graph.{◌∈◌, Once}
use Rattle.spec.specs.Site.{Site, Misused}
use Rattle.spec.specs.Block.{Pair, Storage, has_pair}
use Rattle.spec.specs.Check.{site_limit, pair_limit}
use Rattle.spec.proofs.Lists.{once_length, once_append}
use Rattle.spec.proofs.Flags.{unnamed}
use Rattle.sites.specs.Stored.{Stored}
use Rattle.sites.specs.Stored as stored
use Rattle.sites.specs.Own.{Own, Port, own_of, row, rows_in, site_table, pair_table, site_from, pair_from, names, entry_names, first_kept, grown, room, number_of, added, add_site, add_pair, add_output, add_reg, add_mem, add_misuse, with_pairs}
use Rattle.sites.proofs.Rows.{run_length, rows_limit}
use Rattle.sites.proofs.Cleared.{no_rows}
use Rattle.sites.proofs.Kept.{with_pair}

-- the numbers below n
countdown : ℕ → List ℕ
countdown zero = []
countdown (suc n) = n ∷ countdown n

in_countdown : (n m : ℕ) → m < n → m ∈ countdown n
unfolding countdown
in_countdown zero m h = absurd (omega arith)
in_countdown (suc n) m h = go (ℕ_discrete m n) (in_countdown n m)
  where
    go : Dec (m ≡ n) → (m < n → m ∈ countdown n) → m ∈ (n ∷ countdown n)
    go (yes e) f = Memᴰ.head e
    go (no d) f = Memᴰ.tail (f (omega arith))

length_countdown : (n : ℕ) → length (countdown n) ≡ n
unfolding countdown
length_countdown zero = refl
length_countdown (suc n) = ap suc (length_countdown n)

length_end : {A : Type 0} (l : List A) (x : A) → length (l ++ x ∷ []) ≡ length l + 1
length_end [] x = refl
length_end (y ∷ l) x = omega (arith, length_end l x)

-- ---- tables that hold a name once, whatever their lines are

module _ {A : Type 0} (nm : A → ℕ) where
  -- each name once, and all below the bound
  pub record Distinct (l : List A) : Type 0 where
    pub once : Once (entry_names nm l)
    pub below : (n : ℕ) → n ∈ entry_names nm l → n < names

  abbrev same_name : A → A → Bool
  same_name a b = eqb (nm a) (nm b)

  pub distinct_none : Distinct []
  unfolding entry_names
  distinct_none = record { once = tt; below = λ n i. absurd (Memᴰ.not-nil i) }

  names_end : (l : List A) (x : A) → entry_names nm (l ++ x ∷ []) ≡ entry_names nm l ++ nm x ∷ []
  unfolding entry_names
  names_end [] x = refl
  names_end (y ∷ l) x = ap (λ (k : List ℕ). nm y ∷ k) (names_end l x)

  names_length : (l : List A) → length (entry_names nm l) ≡ length l
  unfolding entry_names
  names_length [] = refl
  names_length (y ∷ l) = ap suc (names_length l)

  one_name : {n m : ℕ} → n ∈ (m ∷ []) → n ≡ m
  one_name {n} {m} i = go (Memᴰ.cases_cons i)
    where
      go : (n ≡ m) ⊎ (n ∈ []) → n ≡ m
      go (inl e) = e
      go (inr j) = absurd (Memᴰ.not-nil j)

  distinct_more : (l : List A) (x : A) → Distinct l → nm x < names → has_name (nm x) (entry_names nm l) ≡ false → Distinct (l ++ x ∷ [])
  distinct_more l x d h e =
      record {
        once = subst Once (sym (names_end l x)) (once_append d.once (Memᴰ.not-nil, tt) (λ n i j. unnamed e (subst (λ (k : ℕ). k ∈ entry_names nm l) (one_name j) i)));
        below = λ n i. go n (Memᴰ.append_cases (entry_names nm l) (subst (λ (k : List ℕ). n ∈ k) (names_end l x) i));
      }
    where
      go : (n : ℕ) → (n ∈ entry_names nm l) ⊎ (n ∈ (nm x ∷ [])) → n < names
      go n (inl i) = d.below n i
      go n (inr j) = subst (λ (k : ℕ). k < names) (sym (one_name j)) h

  -- no more lines than there are names
  pub distinct_few : (l : List A) → Distinct l → length l ≤ names
  distinct_few l d =
      let p = once_length (entry_names nm l) (countdown names) d.once (λ n i. in_countdown names n (d.below n i)) in
      subst (λ (k : ℕ). k ≤ names) (names_length l) (subst (λ (k : ℕ). length (entry_names nm l) ≤ k) (length_countdown names) p)

  -- so there is room for a name that is not there
  distinct_room : (l : List A) (x : A) → Distinct l → nm x < names → has_name (nm x) (entry_names nm l) ≡ false → length l < names
  distinct_room l x d h e = let p = distinct_few (l ++ x ∷ []) (distinct_more l x d h e) in omega (arith, length_end l x)

  has_among : (x : A) (l : List A) → has_name (nm x) (entry_names nm l) ≡ among same_name x l
  unfolding has_name entry_names among
  has_among x [] = refl
  has_among x (y ∷ l) = go (eqb (nm x) (nm y)) (has_among x l)
    where
      go : (b : Bool) → has_name (nm x) (entry_names nm l) ≡ among same_name x l
          → (b || has_name (nm x) (entry_names nm l)) ≡ elim b as (λ _. Bool) [ true ↦ true | false ↦ among same_name x l ]
      go true e = refl
      go false e = e

  -- keeping the first line of a name is the step of a table without a limit: at the end, where no line has its name
  pub first_kept_new : (x : A) (l : List A) → Distinct l → nm x < names
      → first_kept nm x l ≡ elim (among same_name x l) as (λ _. List A) [ true ↦ l | false ↦ l ++ x ∷ [] ]
  unfolding first_kept grown
  first_kept_new x l d h = go (among same_name x l) (has_among x l)
    where
      go : (b : Bool) → has_name (nm x) (entry_names nm l) ≡ b → first_kept nm x l ≡ elim b as (λ _. List A) [ true ↦ l | false ↦ l ++ x ∷ [] ]
      go true e = rw (e, first_kept)
      go false e = rw (e, first_kept, lt-ltb (length l) names (distinct_room l x d h e), grown)

  pub first_kept_distinct : (x : A) (l : List A) → Distinct l → nm x < names → Distinct (first_kept nm x l)
  first_kept_distinct x l d h = subst Distinct (sym (first_kept_new x l d h)) (go (among same_name x l) (has_among x l))
    where
      go : (b : Bool) → has_name (nm x) (entry_names nm l) ≡ b → Distinct (elim b as (λ _. List A) [ true ↦ l | false ↦ l ++ x ∷ [] ])
      go true e = d
      go false e = distinct_more l x d h e

-- the same for what the lines stand for, as a part of the text for a width
module _ {A B : Type 0} (nm : A → ℕ) (key : B → ℕ) (g : A → B) (same : (a : A) → key (g a) ≡ nm a) where
  among_map : (x : A) (l : List A) → among (same_name nm) x l ≡ among (same_name key) (g x) (map g l)
  unfolding among
  among_map x [] = refl
  among_map x (y ∷ l) =
      ap (λ (b : Bool). elim b as (λ _. Bool) [ true ↦ true | false ↦ among (same_name nm) x l ]) (λ i. eqb (sym (same x) i) (sym (same y) i))
      ∙ ap (λ (c : Bool). elim (same_name key (g x) (g y)) as (λ _. Bool) [ true ↦ true | false ↦ c ]) (among_map x l)

  map_end : (x : A) (l : List A) → map g (l ++ x ∷ []) ≡ map g l ++ g x ∷ []
  map_end x [] = refl
  map_end x (y ∷ l) = ap (λ (k : List B). g y ∷ k) (map_end x l)

  pub first_kept_map : (x : A) (l : List A) → Distinct nm l → nm x < names
      → map g (first_kept nm x l) ≡ elim (among (same_name key) (g x) (map g l)) as (λ _. List B) [ true ↦ map g l | false ↦ map g l ++ g x ∷ [] ]
  first_kept_map x l d h = ap (map g) (first_kept_new nm x l d h) ∙ go (among (same_name nm) x l) (among_map x l)
    where
      go : (b : Bool) → b ≡ among (same_name key) (g x) (map g l)
          → map g (elim b as (λ _. List A) [ true ↦ l | false ↦ l ++ x ∷ [] ]) ≡ elim (among (same_name key) (g x) (map g l)) as (λ _. List B) [ true ↦ map g l | false ↦ map g l ++ g x ∷ [] ]
      go true e = sym (rw (sym e))
      go false e = map_end x l ∙ sym (rw (sym e))

-- ---- the four such tables

-- the outputs, registers, memories and misuses of a module, each name once
pub record FirstLines (o : Own) : Type 0 where
  pub outputs : Distinct (λ (p : Port). p.name) o.outputs
  pub regs : Distinct (λ (r : Storage). r.name) o.regs
  pub mems : Distinct (λ (r : Storage). r.name) o.mems
  pub misuses : Distinct (λ (x : Misused). x.name) o.misuses

pub lines_none : FirstLines no_rows
lines_none =
    record {
      outputs = distinct_none (λ (p : Port). p.name);
      regs = distinct_none (λ (r : Storage). r.name);
      mems = distinct_none (λ (r : Storage). r.name);
      misuses = distinct_none (λ (x : Misused). x.name);
    }

module _ (o : Own) (l : FirstLines o) where
  pub lines_site : (s : Site) → FirstLines (add_site s o).own
  unfolding add_site
  lines_site s = record { outputs = l.outputs; regs = l.regs; mems = l.mems; misuses = l.misuses }

  pub lines_pair : (p : Pair) → FirstLines (add_pair p o).own
  unfolding add_pair
  lines_pair p = go (has_pair p o.pairs) refl
    where
      go : (b : Bool) → has_pair p o.pairs ≡ b → FirstLines (add_pair p o).own
      go true e = rw (e, add_pair) l
      go false e = rw (e, add_pair) (record { outputs = l.outputs; regs = l.regs; mems = l.mems; misuses = l.misuses })

  pub lines_output : (x : Port) → x.name < names → FirstLines (add_output x o)
  unfolding add_output
  lines_output x h = record { outputs = first_kept_distinct (λ (p : Port). p.name) x o.outputs l.outputs h; regs = l.regs; mems = l.mems; misuses = l.misuses }

  pub lines_reg : (x : Storage) → x.name < names → FirstLines (add_reg x o)
  unfolding add_reg
  lines_reg x h = record { outputs = l.outputs; regs = first_kept_distinct (λ (r : Storage). r.name) x o.regs l.regs h; mems = l.mems; misuses = l.misuses }

  pub lines_mem : (x : Storage) → x.name < names → FirstLines (add_mem x o)
  unfolding add_mem
  lines_mem x h = record { outputs = l.outputs; regs = l.regs; mems = first_kept_distinct (λ (r : Storage). r.name) x o.mems l.mems h; misuses = l.misuses }

  pub lines_misuse : (x : Misused) → x.name < names → FirstLines (add_misuse x o)
  unfolding add_misuse
  lines_misuse x h = record { outputs = l.outputs; regs = l.regs; mems = l.mems; misuses = first_kept_distinct (λ (m : Misused). m.name) x o.misuses l.misuses h }

  -- each addition is the step of a table without a limit
  pub output_new : (x : Port) → x.name < names
      → (add_output x o).outputs ≡ elim (among (λ (a b : Port). eqb a.name b.name) x o.outputs) as (λ _. List Port) [ true ↦ o.outputs | false ↦ o.outputs ++ x ∷ [] ]
  unfolding add_output
  output_new x h = first_kept_new (λ (p : Port). p.name) x o.outputs l.outputs h

  pub reg_new : (x : Storage) → x.name < names
      → (add_reg x o).regs ≡ elim (among (λ (a b : Storage). eqb a.name b.name) x o.regs) as (λ _. List Storage) [ true ↦ o.regs | false ↦ o.regs ++ x ∷ [] ]
  unfolding add_reg
  reg_new x h = first_kept_new (λ (r : Storage). r.name) x o.regs l.regs h

  pub mem_new : (x : Storage) → x.name < names
      → (add_mem x o).mems ≡ elim (among (λ (a b : Storage). eqb a.name b.name) x o.mems) as (λ _. List Storage) [ true ↦ o.mems | false ↦ o.mems ++ x ∷ [] ]
  unfolding add_mem
  mem_new x h = first_kept_new (λ (r : Storage). r.name) x o.mems l.mems h

  pub misuse_new : (x : Misused) → x.name < names
      → (add_misuse x o).misuses ≡ elim (among (λ (a b : Misused). eqb a.name b.name) x o.misuses) as (λ _. List Misused) [ true ↦ o.misuses | false ↦ o.misuses ++ x ∷ [] ]
  unfolding add_misuse
  misuse_new x h = first_kept_new (λ (m : Misused). m.name) x o.misuses l.misuses h

-- ---- sites and pairs: Full exactly where one more passes the limit

abbrev pub full_if : Bool → Stored
full_if true = stored.Full
full_if false = stored.Done

abbrev pub with_sites : List Site → Own → Own
with_sites ss o = record { sites = ss; pairs = o.pairs; outputs = o.outputs; regs = o.regs; mems = o.mems; misuses = o.misuses; conflicts = o.conflicts }

pub site_full : (s : Site) (o : Own) → ltb site_limit (length (o.sites ++ s ∷ [])) ≡ true → add_site s o ≡ added stored.Full o
unfolding add_site grown
site_full s o e =
    let h = ltb-true site_limit (length (o.sites ++ s ∷ [])) e in
    rw (le-ltb (length o.sites) site_limit (omega (arith, length_end o.sites s)), add_site, grown, room)

pub site_stored : (s : Site) (o : Own) → ltb site_limit (length (o.sites ++ s ∷ [])) ≡ false → add_site s o ≡ added stored.Done (with_sites (o.sites ++ s ∷ []) o)
unfolding add_site grown
site_stored s o e =
    let h = ltb-false site_limit (length (o.sites ++ s ∷ [])) e in
    rw (lt-ltb (length o.sites) site_limit (omega (arith, length_end o.sites s)), add_site, grown, room)

pub site_answer : (s : Site) (o : Own) → (add_site s o).answer ≡ number_of (full_if (ltb site_limit (length (o.sites ++ s ∷ []))))
site_answer s o = go (ltb site_limit (length (o.sites ++ s ∷ []))) refl
  where
    go : (b : Bool) → ltb site_limit (length (o.sites ++ s ∷ [])) ≡ b → (add_site s o).answer ≡ number_of (full_if b)
    go true e = λ i. (site_full s o e i).answer
    go false e = λ i. (site_stored s o e i).answer

pair_case : (p : Pair) (ps : List Pair) (b : Bool) → has_pair p ps ≡ b
    → ltb pair_limit (length {A = Pair} (elim b as (λ _. List Pair) [ true ↦ ps | false ↦ ps ++ p ∷ [] ])) ≡ ltb pair_limit (length (with_pair p ps))
pair_case p ps b d = ap (λ (c : Bool). ltb pair_limit (length {A = Pair} (elim c as (λ _. List Pair) [ true ↦ ps | false ↦ ps ++ p ∷ [] ]))) (sym d)

pub pair_full : (p : Pair) (o : Own) → length o.pairs ≤ pair_limit → ltb pair_limit (length (with_pair p o.pairs)) ≡ true → add_pair p o ≡ added stored.Full o
unfolding add_pair grown
pair_full p o few e = go (has_pair p o.pairs) refl
  where
    go : (b : Bool) → has_pair p o.pairs ≡ b → add_pair p o ≡ added stored.Full o
    go true d = absurd (let h = ltb-true pair_limit (length o.pairs) (pair_case p o.pairs true d ∙ e) in omega arith)
    go false d =
        let h = ltb-true pair_limit (length (o.pairs ++ p ∷ [])) (pair_case p o.pairs false d ∙ e) in
        rw (d, le-ltb (length o.pairs) pair_limit (omega (arith, length_end o.pairs p)), add_pair, grown, room)

pub pair_stored : (p : Pair) (o : Own) → ltb pair_limit (length (with_pair p o.pairs)) ≡ false
    → add_pair p o ≡ added stored.Done (with_pairs (with_pair p o.pairs) o)
unfolding add_pair grown
pair_stored p o e = go (has_pair p o.pairs) refl
  where
    stays : (b : Bool) → has_pair p o.pairs ≡ b
        → added stored.Done (with_pairs (elim b as (λ _. List Pair) [ true ↦ o.pairs | false ↦ o.pairs ++ p ∷ [] ]) o) ≡ added stored.Done (with_pairs (with_pair p o.pairs) o)
    stays b d = ap (λ (c : Bool). added stored.Done (with_pairs (elim c as (λ _. List Pair) [ true ↦ o.pairs | false ↦ o.pairs ++ p ∷ [] ]) o)) (sym d)

    go : (b : Bool) → has_pair p o.pairs ≡ b → add_pair p o ≡ added stored.Done (with_pairs (with_pair p o.pairs) o)
    go true d = rw (d, add_pair) (stays true d)
    go false d =
        let h = ltb-false pair_limit (length (o.pairs ++ p ∷ [])) (pair_case p o.pairs false d ∙ e) in
        rw (d, lt-ltb (length o.pairs) pair_limit (omega (arith, length_end o.pairs p)), add_pair, grown, room) (stays false d)

pub pair_answer : (p : Pair) (o : Own) → length o.pairs ≤ pair_limit → (add_pair p o).answer ≡ number_of (full_if (ltb pair_limit (length (with_pair p o.pairs))))
pair_answer p o few = go (ltb pair_limit (length (with_pair p o.pairs))) refl
  where
    go : (b : Bool) → ltb pair_limit (length (with_pair p o.pairs)) ≡ b → (add_pair p o).answer ≡ number_of (full_if b)
    go true e = λ i. (pair_full p o few e i).answer
    go false e = λ i. (pair_stored p o e i).answer

-- the step of a table of pairs, with the pairs compared as a search compares
pub with_pair_new : (p : Pair) (ps : List Pair)
    → with_pair p ps ≡ elim (among (λ (a b : Pair). eqb a.name b.name && eqb a.block b.block) p ps) as (λ _. List Pair) [ true ↦ ps | false ↦ ps ++ p ∷ [] ]
unfolding has_pair among
with_pair_new p ps = ap (λ (b : Bool). elim b as (λ _. List Pair) [ true ↦ ps | false ↦ ps ++ p ∷ [] ]) (same ps)
  where
    same : (qs : List Pair) → has_pair p qs ≡ among (λ (a b : Pair). eqb a.name b.name && eqb a.block b.block) p qs
    same [] = refl
    same (q ∷ qs) = go (eqb p.name q.name && eqb p.block q.block) (same qs)
      where
        go : (b : Bool) → has_pair p qs ≡ among (λ (a b : Pair). eqb a.name b.name && eqb a.block b.block) p qs
            → (b || has_pair p qs) ≡ elim b as (λ _. Bool) [ true ↦ true | false ↦ among (λ (a b : Pair). eqb a.name b.name && eqb a.block b.block) p qs ]
        go true e = refl
        go false e = e

-- what a run of numbers holds keeps both limits
pub sites_few : (own : List ℕ) → length (own_of own).sites ≤ site_limit
unfolding own_of
sites_few own = let h = rows_limit site_table own in omega (arith, run_length (λ i. site_from (row site_table own i)) 0 (rows_in site_table own))

pub pairs_few : (own : List ℕ) → length (own_of own).pairs ≤ pair_limit
unfolding own_of
pairs_few own = let h = rows_limit pair_table own in omega (arith, run_length (λ i. pair_from (row pair_table own i)) 0 (rows_in pair_table own))
