-- Tables that hold each name once have room for every name; and what each addition leaves of the tables that the words hold.
-- Assumes nothing.
use mathlib.Core.Path.{◌≡◌, refl, sym, ◌∙◌, ap}
use mathlib.Core.Bool.{Bool, true, false, ◌||◌}
use mathlib.Core.Logic.{◌⊎◌, inl, inr}
use mathlib.Core.List.Memᴰ
use mathlib.Core.List.{List, [], ◌∷◌, ◌++◌}
use Prim.Native.Nat.{ℕ, suc, ◌≤◌, ◌<◌}
use native.Mathlib.Omega.{arith}
use lib.ListN.{length, length-append}
use lib.Dec.{eqb, ltb}
use borrow.Author.Tests.{lt-ltb, le-ltb}
use Rattle.spec.specs.Bytes.{Bytes}
use Rattle.spec.specs.Syntax.{name_bound}
use Rattle.spec.specs.Refusal.{has_name}
use Rattle.spec.specs.Graph.{◌∈◌}
use Rattle.spec.specs.DepthFirst.{among}
use Rattle.spec.specs.Site.{Site, Output, Misused}
use Rattle.spec.specs.Block.{Pair, Storage}
use Rattle.spec.proofs.Numbers.{if_case}
use Rattle.sites.specs.Own as table
use Rattle.sites.specs.Own.{Port, rows_in, site_table, pair_table, own_of, entry_names, grown, first_kept, add_output, add_reg, add_mem, add_misuse}
use Rattle.sites.proofs.Rows.{run_length, rows_limit}
use Rattle.walk.specs.Walk.{Own, add_new, add_all, same_output, same_storage, over_own}
use Rattle.walk.proofs.Room.{keys, adds_keys, few_keys}
use Rattle.items.specs.Held.{PortIs, Ports, Few, Held}
use Rattle.items.specs.Lines.{with_block}

-- ---- a table that holds each name once

module _ {A : Type 0} (key : A → ℕ) where
  abbrev same : A → A → Bool
  same a b = eqb (key a) (key b)

  names_keys : (l : List A) → keys key l ≡ entry_names key l
  unfolding keys entry_names
  names_keys [] = refl
  names_keys (a ∷ l) = ap (λ (t : List ℕ). key a ∷ t) (names_keys l)

  among_names : (x : A) (l : List A) → has_name (key x) (entry_names key l) ≡ among same x l
  unfolding has_name entry_names among
  among_names x [] = refl
  among_names x (a ∷ l) = go (eqb (key x) (key a)) (among_names x l)
    where
      go : (b : Bool) → has_name (key x) (entry_names key l) ≡ among same x l
          → (b || has_name (key x) (entry_names key l)) ≡ elim b as (λ _. Bool) [ true ↦ true | false ↦ among same x l ]
      go true e = refl
      go false e = e

  -- a name at the end
  end_names : (x : A) (l : List A) (n : ℕ) → n ∈ entry_names key (l ++ x ∷ []) → (n ≡ key x) ⊎ (n ∈ entry_names key l)
  unfolding entry_names
  end_names x [] n m = go (Memᴰ.cases_cons m)
    where
      go : (n ≡ key x) ⊎ (n ∈ []) → (n ≡ key x) ⊎ (n ∈ [])
      go c = c
  end_names x (a ∷ l) n m = go (end_names x l n) (Memᴰ.cases_cons m)
    where
      two : (n ≡ key x) ⊎ (n ∈ entry_names key l) → (n ≡ key x) ⊎ (n ∈ (key a ∷ entry_names key l))
      two (inl e) = inl e
      two (inr i) = inr (Memᴰ.tail i)

      go : (n ∈ entry_names key (l ++ x ∷ []) → (n ≡ key x) ⊎ (n ∈ entry_names key l))
          → (n ≡ key a) ⊎ (n ∈ entry_names key (l ++ x ∷ [])) → (n ≡ key x) ⊎ (n ∈ (key a ∷ entry_names key l))
      go f (inl e) = inr (Memᴰ.head e)
      go f (inr i) = two (f i)

  few_length : (l : List A) → Few (entry_names key l) → length l ≤ name_bound
  few_length l f = few_keys key name_bound l (rw (names_keys l) f.once) (λ n m. f.small n (rw (names_keys l) at m))

  module _ (x : A) (l : List A) (f : Few (entry_names key l)) (h : key x < name_bound) where
    small_new : (n : ℕ) → n ∈ entry_names key (add_new same x l) → n < name_bound
    unfolding add_new
    small_new =
        if_case (λ (k : List A). (n : ℕ) → n ∈ entry_names key k → n < name_bound) (among same x l) l (l ++ x ∷ []) (λ e. f.small)
        (λ e n m. go n (end_names x l n m))
      where
        go : (n : ℕ) → (n ≡ key x) ⊎ (n ∈ entry_names key l) → n < name_bound
        go n (inl e) = omega arith
        go n (inr i) = f.small n i

    pub few_new : Few (entry_names key (add_new same x l))
    unfolding add_all
    few_new = record { once = rw (names_keys (add_new same x l)) at (adds_keys key (x ∷ []) l (rw (names_keys l) f.once)); small = small_new }

    -- what is new has room
    new_fits : among same x l ≡ false → ltb (length l) name_bound ≡ true
    unfolding add_new
    new_fits e =
        let g : add_new same x l ≡ l ++ x ∷ [] = rw (e, add_new) in
        let k = few_length (add_new same x l) few_new in
        lt-ltb (length l) name_bound (omega (arith, ap length g, length-append l (x ∷ [])))

    -- the first of a name is kept
    pub kept_new : first_kept key x l ≡ add_new same x l
    unfolding first_kept grown add_new
    kept_new = go (among same x l) refl
      where
        go : (b : Bool) → among same x l ≡ b → first_kept key x l ≡ add_new same x l
        go true e = rw (among_names x l, e, first_kept, add_new)
        go false e = rw (among_names x l, e, new_fits e, first_kept, add_new, grown)

-- ---- entries one behind the other

module _ {A : Type 0} (eq : A → A → Bool) where
  pub add_all_append : (xs ys l : List A) → add_all eq (xs ++ ys) l ≡ add_all eq ys (add_all eq xs l)
  unfolding add_all
  add_all_append [] ys l = refl
  add_all_append (x ∷ xs) ys l = add_all_append xs ys (add_new eq x l)

  add_new_length : (x : A) (l : List A) → length l ≤ length (add_new eq x l)
  unfolding add_new
  add_new_length x l = if_case (λ (k : List A). length l ≤ length k) (among eq x l) l (l ++ x ∷ []) (λ e. omega arith) (λ e. omega (arith, length-append l (x ∷ [])))

  pub add_all_length : (xs l : List A) → length l ≤ length (add_all eq xs l)
  unfolding add_all
  add_all_length [] l = omega arith
  add_all_length (x ∷ xs) l = omega (arith, add_new_length x l, add_all_length xs (add_new eq x l))

-- ---- outputs, of which a row says where the width stands

module _ (text : Bytes) where
  ports_names : (ps : List Port) (os : List Output) → Ports text ps os → entry_names (λ x. x.name) ps ≡ entry_names (λ x. x.name) os
  unfolding entry_names
  ports_names [] [] h = refl
  ports_names [] (o ∷ os) h = absurd h
  ports_names (p ∷ ps) [] h = absurd h
  ports_names (p ∷ ps) (o ∷ os) h = cc (h.0.name, ports_names ps os h.1)

  ports_length : (ps : List Port) (os : List Output) → Ports text ps os → length ps ≡ length os
  ports_length [] [] h = refl
  ports_length [] (o ∷ os) h = absurd h
  ports_length (p ∷ ps) [] h = absurd h
  ports_length (p ∷ ps) (o ∷ os) h = ap suc (ports_length ps os h.1)

  ports_end : (p : Port) (o : Output) → PortIs text p o → (ps : List Port) (os : List Output) → Ports text ps os → Ports text (ps ++ p ∷ []) (os ++ o ∷ [])
  ports_end p o q [] [] h = (q, tt)
  ports_end p o q [] (b ∷ os) h = absurd h
  ports_end p o q (a ∷ ps) [] h = absurd h
  ports_end p o q (a ∷ ps) (b ∷ os) h = (h.0, ports_end p o q ps os h.1)

  module _ (p : Port) (o : Output) (q : PortIs text p o) (ps : List Port) (os : List Output) (h : Ports text ps os)
      (f : Few (entry_names (λ x. x.name) os)) (l : o.name < name_bound) where
    ports_among : has_name p.name (entry_names (λ x. x.name) ps) ≡ among same_output o os
    ports_among =
        ap (λ (n : ℕ). has_name n (entry_names (λ x. x.name) ps)) q.name ∙ ap (has_name o.name) (ports_names ps os h) ∙ among_names (λ x. x.name) o os

    ports_kept : Ports text (first_kept (λ x. x.name) p ps) (add_new same_output o os)
    unfolding first_kept grown add_new
    ports_kept = go (among same_output o os) refl
      where
        go : (b : Bool) → among same_output o os ≡ b → Ports text (first_kept (λ x. x.name) p ps) (add_new same_output o os)
        go true e = rw (ports_among, e, first_kept, add_new) h
        go false e = rw (ports_among, e, ports_length ps os h, new_fits (λ x. x.name) o os f l e, first_kept, add_new, grown) (ports_end p o q ps os h)

-- ---- the words hold the tables: no limit is passed

pub held_within : (text : Bytes) (own : List ℕ) (o : Own) → Held text own o → over_own o ≡ false
unfolding over_own own_of
held_within text own o h =
    let a : length o.sites ≡ rows_in site_table own = sym (ap length h.sites) ∙ run_length _ 0 (rows_in site_table own) in
    let b : length o.pairs ≡ rows_in pair_table own = sym (ap length h.pairs) ∙ run_length _ 0 (rows_in pair_table own) in
    rw (le-ltb 1024 (length o.sites) (omega (arith, rows_limit site_table own)), le-ltb 512 (length o.pairs) (omega (arith, rows_limit pair_table own)))

module _ (text : Bytes) (own own' : List ℕ) (o : Own) (h : Held text own o) (size : length own' ≡ length own) where
  -- what is held again where some tables are as they were
  pub held_output : (p : Port) (x : Output) → PortIs text p x → x.name < name_bound → own_of own' ≡ add_output p (own_of own)
      → Held text own' (record { sites = o.sites; pairs = o.pairs; outputs = add_new same_output x o.outputs; regs = o.regs; mems = o.mems; misuses = o.misuses })
  unfolding add_output
  held_output p x q l e =
      record {
        sized = size ∙ h.sized;
        sites = ap (λ (t : table.Own). t.sites) e ∙ h.sites;
        pairs = ap (λ (t : table.Own). t.pairs) e ∙ h.pairs;
        outputs = rw (ap (λ (t : table.Own). t.outputs) e) (ports_kept text p x q (own_of own).outputs o.outputs h.outputs h.few_outputs l);
        regs = ap (λ (t : table.Own). t.regs) e ∙ h.regs;
        mems = ap (λ (t : table.Own). t.mems) e ∙ h.mems;
        misuses = ap (λ (t : table.Own). t.misuses) e ∙ h.misuses;
        few_outputs = few_new (λ y. y.name) x o.outputs h.few_outputs l;
        few_regs = h.few_regs;
        few_mems = h.few_mems;
        few_misuses = h.few_misuses;
      }

  pub held_reg : (x : Storage) → x.name < name_bound → own_of own' ≡ add_reg x (own_of own)
      → Held text own' (record { sites = o.sites; pairs = o.pairs; outputs = o.outputs; regs = add_new same_storage x o.regs; mems = o.mems; misuses = o.misuses })
  unfolding add_reg
  held_reg x l e =
      record {
        sized = size ∙ h.sized;
        sites = ap (λ (t : table.Own). t.sites) e ∙ h.sites;
        pairs = ap (λ (t : table.Own). t.pairs) e ∙ h.pairs;
        outputs = rw (ap (λ (t : table.Own). t.outputs) e) h.outputs;
        regs = ap (λ (t : table.Own). t.regs) e ∙ ap (first_kept (λ y. y.name) x) h.regs ∙ kept_new (λ y. y.name) x o.regs h.few_regs l;
        mems = ap (λ (t : table.Own). t.mems) e ∙ h.mems;
        misuses = ap (λ (t : table.Own). t.misuses) e ∙ h.misuses;
        few_outputs = h.few_outputs;
        few_regs = few_new (λ y. y.name) x o.regs h.few_regs l;
        few_mems = h.few_mems;
        few_misuses = h.few_misuses;
      }

  pub held_mem : (x : Storage) → x.name < name_bound → own_of own' ≡ add_mem x (own_of own)
      → Held text own' (record { sites = o.sites; pairs = o.pairs; outputs = o.outputs; regs = o.regs; mems = add_new same_storage x o.mems; misuses = o.misuses })
  unfolding add_mem
  held_mem x l e =
      record {
        sized = size ∙ h.sized;
        sites = ap (λ (t : table.Own). t.sites) e ∙ h.sites;
        pairs = ap (λ (t : table.Own). t.pairs) e ∙ h.pairs;
        outputs = rw (ap (λ (t : table.Own). t.outputs) e) h.outputs;
        regs = ap (λ (t : table.Own). t.regs) e ∙ h.regs;
        mems = ap (λ (t : table.Own). t.mems) e ∙ ap (first_kept (λ y. y.name) x) h.mems ∙ kept_new (λ y. y.name) x o.mems h.few_mems l;
        misuses = ap (λ (t : table.Own). t.misuses) e ∙ h.misuses;
        few_outputs = h.few_outputs;
        few_regs = h.few_regs;
        few_mems = few_new (λ y. y.name) x o.mems h.few_mems l;
        few_misuses = h.few_misuses;
      }

  pub held_misuse : (x : Misused) → x.name < name_bound → own_of own' ≡ add_misuse x (own_of own) → Held text own' (with_block [] (x ∷ []) o)
  unfolding add_misuse add_all
  held_misuse x l e =
      record {
        sized = size ∙ h.sized;
        sites = ap (λ (t : table.Own). t.sites) e ∙ h.sites;
        pairs = ap (λ (t : table.Own). t.pairs) e ∙ h.pairs;
        outputs = rw (ap (λ (t : table.Own). t.outputs) e) h.outputs;
        regs = ap (λ (t : table.Own). t.regs) e ∙ h.regs;
        mems = ap (λ (t : table.Own). t.mems) e ∙ h.mems;
        misuses = ap (λ (t : table.Own). t.misuses) e ∙ ap (first_kept (λ y. y.name) x) h.misuses ∙ kept_new (λ y. y.name) x o.misuses h.few_misuses l;
        few_outputs = h.few_outputs;
        few_regs = h.few_regs;
        few_mems = h.few_mems;
        few_misuses = few_new (λ y. y.name) x o.misuses h.few_misuses l;
      }

  -- the tables with other sites, or other pairs
  pub held_sites : (ss : List Site) → own_of own' ≡ record { sites = ss; pairs = (own_of own).pairs; outputs = (own_of own).outputs; regs = (own_of own).regs; mems = (own_of own).mems; misuses = (own_of own).misuses; conflicts = (own_of own).conflicts }
      → (ts : List Site) → ss ≡ ts → Held text own' (record { sites = ts; pairs = o.pairs; outputs = o.outputs; regs = o.regs; mems = o.mems; misuses = o.misuses })
  held_sites ss e ts q =
      record {
        sized = size ∙ h.sized;
        sites = ap (λ (t : table.Own). t.sites) e ∙ q;
        pairs = ap (λ (t : table.Own). t.pairs) e ∙ h.pairs;
        outputs = rw (ap (λ (t : table.Own). t.outputs) e) h.outputs;
        regs = ap (λ (t : table.Own). t.regs) e ∙ h.regs;
        mems = ap (λ (t : table.Own). t.mems) e ∙ h.mems;
        misuses = ap (λ (t : table.Own). t.misuses) e ∙ h.misuses;
        few_outputs = h.few_outputs;
        few_regs = h.few_regs;
        few_mems = h.few_mems;
        few_misuses = h.few_misuses;
      }

  pub held_pairs : (ps : List Pair) → own_of own' ≡ table.with_pairs ps (own_of own) → (qs : List Pair) → ps ≡ qs
      → Held text own' (record { sites = o.sites; pairs = qs; outputs = o.outputs; regs = o.regs; mems = o.mems; misuses = o.misuses })
  held_pairs ps e qs q =
      record {
        sized = size ∙ h.sized;
        sites = ap (λ (t : table.Own). t.sites) e ∙ h.sites;
        pairs = ap (λ (t : table.Own). t.pairs) e ∙ q;
        outputs = rw (ap (λ (t : table.Own). t.outputs) e) h.outputs;
        regs = ap (λ (t : table.Own). t.regs) e ∙ h.regs;
        mems = ap (λ (t : table.Own). t.mems) e ∙ h.mems;
        misuses = ap (λ (t : table.Own). t.misuses) e ∙ h.misuses;
        few_outputs = h.few_outputs;
        few_regs = h.few_regs;
        few_mems = h.few_mems;
        few_misuses = h.few_misuses;
      }
