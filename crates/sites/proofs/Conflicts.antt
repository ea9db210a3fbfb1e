-- The table of conflicts: one more in its place, and all of a module. Assumes nothing.
use mathlib.Core.Path.{◌≡◌, refl, sym, ap, ◌∙◌}
use mathlib.Core.Bool.{Bool, true, false, ◌||◌}
use mathlib.Core.List.{List, [], ◌∷◌, ◌++◌, append_assoc}
use mathlib.Core.Option.{Option, some, none}
use Prim.Native.Nat.{ℕ, zero, suc, ◌+◌, ◌*◌, ◌-◌, ◌<◌, ◌≤◌, min}
use native.Mathlib.Omega.{arith}
use native.Mathlib.Numerals.{add-one}
use lib.Dec.{T, eqb, ltb, leb, leb→le, ltb→lt}
use lib.ListN.{length, get_or, set, length-set}
use lib.Seq.{sets, length-sets, get_or-set_same, get_or-set_other, ext_get_or}
use borrow.Author.Tests.{eq-eqb, ne_eqb, eqb-true, eqb-false, ltb-true, ltb-false}
use Rattle.spec.specs.Refusal.{has_name}
use Rattle.spec.specs.Site.{Site, Conflict, Misused, conflict_before, insert_conflict, with_conflict, conflicts, conflict_names, misused_names, first_conflict, sites_of}
use Rattle.sites.specs.Own.{Table, run, row, rows_in, items, own_of, row_names, with_conflicts, skip_at, conflict_table, conflict_from, site_table, pair_table, port_table, reg_table, mem_table, misuse_table, site_from, pair_from, port_from, storage_from, misused_from, poisoned_names, Front, Behind, conflict_rows, conflict_row, conflict_of, conflict_numbers, conflicts_stored, conflicts_found, stored_row, pushed, site_row, misuse_poison, conflict_step, entry_names, places}
use Rattle.sites.proofs.Added.{conflict_shape}
use Rattle.sites.proofs.Rows.{run_ext, run_snoc, run_step, run_end, row_end, rows_limit, same_own, names_items, has_here, has_later, row_sets_above, row_sets_before, row_sets_same, row_length, row_at, run_length, more_count, pushed_items, grown_room, push_room, get_or_sets_below}

-- the place of a conflict among the first n
module _ (c : Conflict) (g : ℕ → Conflict) (n : ℕ) where
  abbrev pub placing : ℕ → Type 0
  placing i = run g 0 i ++ insert_conflict c (run g i (n - i)) ≡ insert_conflict c (run g 0 n)

  pub place_start : placing 0
  unfolding run
  place_start = let e : n - 0 ≡ n = omega arith in ap (λ (k : ℕ). insert_conflict c (run g 0 k)) e

  pub run_next : (i : ℕ) (l : List Conflict) → run g 0 i ++ (g i ∷ l) ≡ run g 0 (i + 1) ++ l
  run_next i l =
      let z : 0 + i ≡ i = omega arith in
      sym (ap (λ (k : ℕ). run g 0 k ++ l) (add-one i) ∙ ap (λ s. s ++ l) (run_snoc g 0 i) ∙ append_assoc (run g 0 i) (g (0 + i) ∷ []) l ∙ ap (λ (k : ℕ). run g 0 i ++ (g k ∷ l)) z)

  pub place_on : (i : ℕ) → i < n → conflict_before c (g i) ≡ false → placing i → placing (i + 1)
  unfolding insert_conflict
  place_on i h b p =
      sym (run_next i (insert_conflict c (run g (i + 1) (n - (i + 1)))))
      ∙ ap (λ l. run g 0 i ++ l) (sym (ap (insert_conflict c) (run_step g i n h) ∙ rw (b, insert_conflict))) ∙ p

  pub place_here : (i : ℕ) → i < n → conflict_before c (g i) ≡ true → placing i → run g 0 i ++ (c ∷ run g i (n - i)) ≡ insert_conflict c (run g 0 n)
  unfolding insert_conflict
  place_here i h b p =
      let e = run_step g i n h in
      ap (λ l. run g 0 i ++ (c ∷ l)) e ∙ ap (λ l. run g 0 i ++ l) (sym (ap (insert_conflict c) e ∙ rw (b, insert_conflict))) ∙ p

  pub place_end : placing n → run g 0 n ++ (c ∷ run g n (n - n)) ≡ insert_conflict c (run g 0 n)
  unfolding insert_conflict
  place_end p =
      let e = run_end g n n (omega arith) in
      ap (λ l. run g 0 n ++ (c ∷ l)) e ∙ ap (λ l. run g 0 n ++ l) (sym (ap (insert_conflict c) e)) ∙ p

-- what differs in the table of conflicts alone
pub front_same : (own : List ℕ) → Front own own
front_same own = record { size = refl; at = λ j h d. refl }

pub front_then : {a b c : List ℕ} → Front a b → Front b c → Front a c
front_then p q = record { size = q.size ∙ p.size; at = λ j h d. q.at j h d ∙ p.at j h d }

pub front_count : (own : List ℕ) (v : ℕ) → Front own (set own 6 v)
front_count own v = record { size = length-set own 6 v; at = λ j h d. get_or-set_other own 6 j v 0 d }

pub front_sets : (own : List ℕ) (i : ℕ) (vs : List ℕ) → conflict_table.base ≤ i → Front own (sets own i vs)
front_sets own i vs p = record { size = length-sets own i vs; at = λ j h d. get_or_sets_below own j i vs (omega arith) }

row_front : (t : Table) (a b : List ℕ) → Front a b → (j : ℕ) → 8 ≤ t.base → t.base + t.width * j + t.width ≤ conflict_table.base → row t b j ≡ row t a j
row_front t a b p j g h =
    ext_get_or 0 (row t b j) (row t a j) (same_length a b p) (λ i q.
    let w = short i q in
    row_at t b j i w ∙ p.at (t.base + t.width * j + i) (omega arith) (λ e. omega arith) ∙ sym (row_at t a j i w))
  where
    same_length : (a b : List ℕ) → Front a b → length (row t b j) ≡ length (row t a j)
    same_length a b p = row_length t b j ∙ ap (λ (k : ℕ). min t.width (k - (t.base + t.width * j))) p.size ∙ sym (row_length t a j)

    short : (i : ℕ) → i < length (row t b j) → i < t.width
    short i q = omega (arith, row_length t b j)

pub front_items : {A : Type 0} (f : List ℕ → A) (t : Table) (a b : List ℕ) → Front a b → T (leb 8 t.base) → T (ltb t.count 6) → T (leb (t.base + t.width * t.limit) conflict_table.base) → items f t b ≡ items f t a
unfolding rows_in
front_items f t a b p x y z =
    let x' = leb→le 8 t.base x in
    let y' = ltb→lt t.count 6 y in
    let z' = leb→le (t.base + t.width * t.limit) conflict_table.base z in
    let e : rows_in t b ≡ rows_in t a = ap (λ (k : ℕ). min k t.limit) (p.at t.count (omega arith) (λ e. omega arith)) in
    ap (λ (k : ℕ). run (λ i. f (row t b i)) 0 k) e
    ∙ run_ext (λ i. f (row t b i)) (λ i. f (row t a i)) 0 (rows_in t a)
    (λ j q r. ap f (row_front t a b p j x' (omega (arith, row_end t.width j t.limit (omega (arith, rows_limit t a))))))

pub front_own : (a b : List ℕ) → Front a b → own_of b ≡ with_conflicts (conflict_rows b) (own_of a)
unfolding own_of
front_own a b p =
    same_own (front_items site_from site_table a b p tt tt tt) (front_items pair_from pair_table a b p tt tt tt) (front_items port_from port_table a b p tt tt tt)
    (front_items storage_from reg_table a b p tt tt tt) (front_items storage_from mem_table a b p tt tt tt) (front_items misused_from misuse_table a b p tt tt tt) refl

-- a conflict as it stands in its row
pub conflict_read : (own : List ℕ) (i : ℕ) → conflict_of (get_or own (conflict_table.base + 2 * i + 1) 0) (get_or own (conflict_table.base + 2 * i) 0) ≡ conflict_row own i
conflict_read own i =
    let z : conflict_table.base + 2 * i + 0 ≡ conflict_table.base + 2 * i = omega arith in
    λ k. record { start = sym (row_at conflict_table own i 1 (omega arith)) k; name = sym (row_at conflict_table own i 0 (omega arith) ∙ ap (λ (x : ℕ). get_or own x 0) z) k }

-- a row takes the place of another, which is carried on
module _ (own : List ℕ) (n i a s : ℕ) (h : i < n) (m : n ≤ 1024) (len : length own ≡ places) where
  abbrev own' : List ℕ
  own' = sets own (conflict_table.base + 2 * i) (a ∷ s ∷ [])

  pub shift_more : run (conflict_row own') 0 (i + 1) ++ (record { start = get_or own (conflict_table.base + 2 * i + 1) 0; name = get_or own (conflict_table.base + 2 * i) 0 } ∷ run (conflict_row own') (i + 1) (n - (i + 1)))
      ≡ run (conflict_row own) 0 i ++ (record { start = s; name = a } ∷ run (conflict_row own) i (n - i))
  shift_more =
      let c : Conflict = record { start = s; name = a } in
      let d : Conflict = record { start = get_or own (conflict_table.base + 2 * i + 1) 0; name = get_or own (conflict_table.base + 2 * i) 0 } in
      let e : d ≡ conflict_row own i = conflict_read own i in
      let here : conflict_row own' i ≡ c = ap conflict_from (row_sets_same conflict_table own i (a ∷ s ∷ []) refl (omega arith)) in
      let front : run (conflict_row own') 0 i ≡ run (conflict_row own) 0 i =
      run_ext (conflict_row own') (conflict_row own) 0 i (λ j p q. ap conflict_from (row_sets_above conflict_table own j (conflict_table.base + 2 * i) (a ∷ s ∷ []) (omega arith))) in
      let back : run (conflict_row own') (i + 1) (n - (i + 1)) ≡ run (conflict_row own) (i + 1) (n - (i + 1)) =
      run_ext (conflict_row own') (conflict_row own) (i + 1) (n - (i + 1)) (λ j p q. ap conflict_from (row_sets_before conflict_table own j (conflict_table.base + 2 * i) (a ∷ s ∷ []) (omega arith))) in
      sym (run_next c (conflict_row own') n i (d ∷ run (conflict_row own') (i + 1) (n - (i + 1))))
      ∙ (λ k. front k ++ (here k ∷ (e k ∷ back k)))
      ∙ ap (λ (l : List Conflict). run (conflict_row own) 0 i ++ (c ∷ l)) (sym (run_step (conflict_row own) i n h))

pub shift_end : (g : ℕ → Conflict) (c : Conflict) (n i : ℕ) → i ≡ n → run g 0 i ++ (c ∷ run g i (n - i)) ≡ run g 0 n ++ (c ∷ [])
shift_end g c n i e = ap (λ (l : List Conflict). run g 0 i ++ (c ∷ l)) (run_end g i n (omega arith)) ∙ ap (λ (k : ℕ). run g 0 k ++ (c ∷ [])) e

-- the last one is pushed
module _ (own vs : List ℕ) (len : length own ≡ places) (w : length vs ≡ 2) (r : rows_in conflict_table own < 1024) where
  pub pushed_front : Front own (pushed conflict_table own vs)
  pushed_front =
      let p = front_sets own (conflict_table.base + 2 * rows_in conflict_table own) vs (omega arith) in
      let q = front_count (sets own (conflict_table.base + 2 * rows_in conflict_table own) vs) (rows_in conflict_table own + 1) in
      rw (push_room conflict_table own vs r) (front_then p q)

  pub pushed_rows : conflict_rows (pushed conflict_table own vs) ≡ conflict_rows own ++ (conflict_from vs ∷ [])
  pushed_rows =
      let sh = conflict_shape own len in
      pushed_items conflict_from conflict_table own vs sh w ∙ grown_room conflict_from conflict_table own vs sh w r

-- the names to skip
module _ (poison : List ℕ) (f : ℕ → Site) (name : ℕ) where
  pub skip_hit : (i : ℕ) → 0 < i → (f (i - 1)).name ≡ name → has_name name (skip_at poison f i) ≡ true
  unfolding skip_at
  skip_hit i p e = let z : i ≡ suc (i - 1) = omega arith in ap (λ (k : ℕ). has_name name (skip_at poison f k)) z ∙ has_here name (f (i - 1)).name (skip_at poison f (i - 1)) e

  pub skip_miss : (i : ℕ) → 0 < i → ¬ ((f (i - 1)).name ≡ name) → has_name name (skip_at poison f (i - 1)) ≡ has_name name (skip_at poison f i)
  unfolding skip_at
  skip_miss i p d = let z : suc (i - 1) ≡ i = omega arith in sym (has_later name (f (i - 1)).name (skip_at poison f (i - 1)) d) ∙ ap (λ (k : ℕ). has_name name (skip_at poison f k)) z

  pub skip_end : (i : ℕ) → i ≡ 0 → has_name name poison ≡ has_name name (skip_at poison f i)
  unfolding skip_at
  skip_end i e = ap (λ (k : ℕ). has_name name (skip_at poison f k)) (sym e)

misused_are : (l : List Misused) → misused_names l ≡ entry_names (λ m. m.name) l
unfolding misused_names entry_names
misused_are [] = refl
misused_are (m ∷ l) = ap (λ k. m.name ∷ k) (misused_are l)

conflicts_are : (l : List Conflict) → conflict_names l ≡ entry_names (λ m. m.name) l
unfolding conflict_names entry_names
conflicts_are [] = refl
conflicts_are (m ∷ l) = ap (λ k. m.name ∷ k) (conflicts_are l)

pub poison_rows : (own : List ℕ) → misuse_poison own ≡ row_names misuse_table own
poison_rows own = misused_are (items misused_from misuse_table own) ∙ names_items (λ m. m.name) misused_from misuse_table own (λ r. refl) (omega arith)

pub conflict_poison : (own : List ℕ) → conflict_names (conflict_rows own) ≡ row_names conflict_table own
conflict_poison own = conflicts_are (conflict_rows own) ∙ names_items (λ m. m.name) conflict_from conflict_table own (λ r. refl) (omega arith)

has_append : (n : ℕ) (a b : List ℕ) → has_name n (a ++ b) ≡ (has_name n a || has_name n b)
unfolding has_name
has_append n [] b = refl
has_append n (m ∷ a) b = go (eqb n m) (has_append n a b)
  where
    go : (t : Bool) → has_name n (a ++ b) ≡ (has_name n a || has_name n b) → (t || has_name n (a ++ b)) ≡ ((t || has_name n a) || has_name n b)
    go true e = refl
    go false e = e

pub poisoned_are : (own : List ℕ) (n : ℕ) → has_name n (poisoned_names (own_of own)) ≡ (has_name n (row_names conflict_table own) || has_name n (row_names misuse_table own))
unfolding poisoned_names own_of
poisoned_are own n = has_append n (conflict_names (conflict_rows own)) (misuse_poison own) ∙ (λ i. has_name n (conflict_poison own i) || has_name n (poison_rows own i))

-- conflicts go by which names are skipped, and by nothing else
conflicts_ext : (a b : List ℕ) (all rest : List Site) → ((x : ℕ) → has_name x a ≡ has_name x b) → conflicts a all rest ≡ conflicts b all rest
unfolding conflicts
conflicts_ext a b all [] q = refl
conflicts_ext a b all (s ∷ rest) q =
    go (has_name s.name b) refl (conflicts_ext a b all rest q) (conflicts_ext (s.name ∷ a) (s.name ∷ b) all rest (more s.name))
  where
    more : (n x : ℕ) → has_name x (n ∷ a) ≡ has_name x (n ∷ b)
    more n x = with_head (eqb x n) refl
      where
        with_head : (t : Bool) → eqb x n ≡ t → has_name x (n ∷ a) ≡ has_name x (n ∷ b)
        with_head true e = has_here x n a (sym (eqb-true x n e)) ∙ sym (has_here x n b (sym (eqb-true x n e)))
        with_head false e = has_later x n a (λ y. eqb-false x n e (sym y)) ∙ q x ∙ sym (has_later x n b (λ y. eqb-false x n e (sym y)))

    go : (t : Bool) → has_name s.name b ≡ t → conflicts a all rest ≡ conflicts b all rest → conflicts (s.name ∷ a) all rest ≡ conflicts (s.name ∷ b) all rest
        → conflicts a all (s ∷ rest) ≡ conflicts b all (s ∷ rest)
    go true e i j = rw (q s.name ∙ e, conflicts, e, conflicts) i
    go false e i j = rw (q s.name ∙ e, conflicts, e, conflicts) (ap (with_conflict s.name (first_conflict [] (sites_of s.name all))) j)

seen_again : (n : ℕ) (a : List ℕ) → has_name n a ≡ true → (x : ℕ) → has_name x (n ∷ a) ≡ has_name x a
seen_again n a h x = go (eqb x n) refl
  where
    go : (t : Bool) → eqb x n ≡ t → has_name x (n ∷ a) ≡ has_name x a
    go true e = let y = eqb-true x n e in has_here x n a (sym y) ∙ sym (ap (λ (k : ℕ). has_name k a) y ∙ h)
    go false e = has_later x n a (λ y. eqb-false x n e (sym y))

-- the site in row k and what follows
module _ (own : List ℕ) (n k : ℕ) (h : k < n) where
  pub conflicts_step : conflict_step own k (conflicts (skip_at (misuse_poison own) (site_row own) (k + 1)) (items site_from site_table own) (run (site_row own) (k + 1) (n - (k + 1))))
      ≡ conflicts (skip_at (misuse_poison own) (site_row own) k) (items site_from site_table own) (run (site_row own) k (n - k))
  unfolding conflict_step conflicts skip_at
  conflicts_step =
      ap (λ (j : ℕ). conflict_step own k (conflicts (skip_at (misuse_poison own) (site_row own) j) (items site_from site_table own) (run (site_row own) (k + 1) (n - (k + 1))))) (add-one k)
      ∙ go (has_name (site_row own k).name (skip_at (misuse_poison own) (site_row own) k)) refl
      ∙ sym (ap (conflicts (skip_at (misuse_poison own) (site_row own) k) (items site_from site_table own)) (run_step (site_row own) k n h))
    where
      go : (t : Bool) → has_name (site_row own k).name (skip_at (misuse_poison own) (site_row own) k) ≡ t
          → conflict_step own k (conflicts (skip_at (misuse_poison own) (site_row own) (suc k)) (items site_from site_table own) (run (site_row own) (k + 1) (n - (k + 1))))
          ≡ conflicts (skip_at (misuse_poison own) (site_row own) k) (items site_from site_table own) (site_row own k ∷ run (site_row own) (k + 1) (n - (k + 1)))
      go true e =
          rw (e, conflict_step, conflicts)
          (conflicts_ext ((site_row own k).name ∷ skip_at (misuse_poison own) (site_row own) k) (skip_at (misuse_poison own) (site_row own) k) (items site_from site_table own) (run (site_row own) (k + 1) (n - (k + 1)))
          (seen_again (site_row own k).name (skip_at (misuse_poison own) (site_row own) k) e))
      go false e = rw (e, conflict_step, conflicts)

-- a step on tables that differ in the conflicts alone
skip_same : (p q : List ℕ) (f g : ℕ → Site) (k : ℕ) → p ≡ q → ((j : ℕ) → j < k → f j ≡ g j) → skip_at p f k ≡ skip_at q g k
unfolding skip_at
skip_same p q f g zero e h = e
skip_same p q f g (suc k) e h = λ i. (h k (omega arith) i).name ∷ skip_same p q f g k e (λ j l. h j (omega arith)) i

pub step_front : (a b : List ℕ) → Front a b → (k : ℕ) → k < 1024 → (cs : List Conflict) → conflict_step b k cs ≡ conflict_step a k cs
unfolding conflict_step
step_front a b p k h cs =
    let site_same : (j : ℕ) → j < suc k → site_row b j ≡ site_row a j = λ j l. ap site_from (row_front site_table a b p j (omega arith) (omega arith)) in
    let poison : misuse_poison b ≡ misuse_poison a = ap misused_names (front_items misused_from misuse_table a b p tt tt tt) in
    let every : items site_from site_table b ≡ items site_from site_table a = front_items site_from site_table a b p tt tt tt in
    let skip : skip_at (misuse_poison b) (site_row b) k ≡ skip_at (misuse_poison a) (site_row a) k =
    skip_same (misuse_poison b) (misuse_poison a) (site_row b) (site_row a) k poison (λ j l. site_same j (omega arith)) in
    let name : (site_row b k).name ≡ (site_row a k).name = ap (λ (s : Site). s.name) (site_same k (omega arith)) in
    λ i. by (name i) (skip i) (every i) cs
  where
    by : ℕ → List ℕ → List Site → List Conflict → List Conflict
    by n skip every cs = elim (has_name n skip) [ true ↦ cs | false ↦ with_conflict n (first_conflict [] (sites_of n every)) cs ]

-- no more conflicts than sites
insert_length : (c : Conflict) (l : List Conflict) → length (insert_conflict c l) ≡ suc (length l)
unfolding insert_conflict
insert_length c [] = refl
insert_length c (d ∷ l) = go (conflict_before c d) refl (insert_length c l)
  where
    go : (t : Bool) → conflict_before c d ≡ t → length (insert_conflict c l) ≡ suc (length l) → length (insert_conflict c (d ∷ l)) ≡ suc (suc (length l))
    go true e i = rw (e, insert_conflict)
    go false e i = rw (e, insert_conflict) (ap suc i)

with_length : (n : ℕ) (o : Option ℕ) (l : List Conflict) → length (with_conflict n o l) ≤ suc (length l)
with_length n none l = omega arith
with_length n (some x) l = omega (arith, insert_length (record { start = x; name = n }) l)

pub conflicts_length : (skip : List ℕ) (all rest : List Site) → length (conflicts skip all rest) ≤ length rest
unfolding conflicts
conflicts_length skip all [] = omega arith
conflicts_length skip all (s ∷ rest) = go (has_name s.name skip) refl (conflicts_length skip all rest) (conflicts_length (s.name ∷ skip) all rest)
  where
    go : (t : Bool) → has_name s.name skip ≡ t → length (conflicts skip all rest) ≤ length rest → length (conflicts (s.name ∷ skip) all rest) ≤ length rest → length (conflicts skip all (s ∷ rest)) ≤ suc (length rest)
    go true e i j = rw (e, conflicts) (omega arith)
    go false e i j =
        rw (e, conflicts) (omega (arith, with_length s.name (first_conflict [] (sites_of s.name all)) (conflicts (s.name ∷ skip) all rest)))

-- what a step does, by its way
module _ (own : List ℕ) (k : ℕ) (cs : List Conflict) where
  pub step_seen : has_name (site_row own k).name (skip_at (misuse_poison own) (site_row own) k) ≡ true → cs ≡ conflict_step own k cs
  unfolding conflict_step
  step_seen e = sym (rw (e, conflict_step))

  pub step_new : (o : Option ℕ) → has_name (site_row own k).name (skip_at (misuse_poison own) (site_row own) k) ≡ false
      → o ≡ first_conflict [] (sites_of (site_row own k).name (items site_from site_table own)) → with_conflict (site_row own k).name o cs ≡ conflict_step own k cs
  unfolding conflict_step
  step_new o e q = ap (λ (x : Option ℕ). with_conflict (site_row own k).name x cs) q ∙ sym (rw (e, conflict_step))

pub count_same : (a b : List ℕ) → get_or b 6 0 ≡ get_or a 6 0 → rows_in conflict_table b ≡ rows_in conflict_table a
unfolding rows_in
count_same a b e = ap (λ (k : ℕ). min k 1024) e

-- the search begins with no conflict, has never more than there are sites to come, and ends with all
pub start_rows : (own : List ℕ) (skip : List ℕ) (all : List Site) (f : ℕ → Site) (n : ℕ) → 6 < length own → conflict_rows (set own 6 0) ≡ conflicts skip all (run f n (n - n))
unfolding rows_in conflicts run
start_rows own skip all f n h =
    let e : rows_in conflict_table (set own 6 0) ≡ 0 = ap (λ (k : ℕ). min k 1024) (get_or-set_same own 6 0 0 h) in
    let z : n - n ≡ 0 = omega arith in
    ap (λ (k : ℕ). run (conflict_row (set own 6 0)) 0 k) e ∙ sym (ap (λ (k : ℕ). conflicts skip all (run f n k)) z)

pub rows_few : (own skip : List ℕ) (all : List Site) (f : ℕ → Site) (k m : ℕ) → conflict_rows own ≡ conflicts skip all (run f k m) → rows_in conflict_table own ≤ m
rows_few own skip all f k m e =
    let a = run_length (conflict_row own) 0 (rows_in conflict_table own) in
    let b = ap length e in
    let c = conflicts_length skip all (run f k m) in
    let d = run_length f k m in
    omega arith

pub final_rows : (a b : List ℕ) → Front a b → (n k : ℕ) → n ≡ rows_in site_table b → k ≡ 0
    → conflicts (skip_at (misuse_poison b) (site_row b) k) (items site_from site_table b) (run (site_row b) k (n - k)) ≡ conflicts (misuse_poison a) (items site_from site_table a) (items site_from site_table a)
unfolding skip_at
final_rows a b p n k e z =
    let y : n - 0 ≡ rows_in site_table b = omega arith in
    let poison : misuse_poison b ≡ misuse_poison a = ap misused_names (front_items misused_from misuse_table a b p tt tt tt) in
    let every : items site_from site_table b ≡ items site_from site_table a = front_items site_from site_table a b p tt tt tt in
    ap (λ (j : ℕ). conflicts (skip_at (misuse_poison b) (site_row b) j) (items site_from site_table b) (run (site_row b) j (n - j))) z
    ∙ ap (λ (j : ℕ). conflicts (misuse_poison b) (items site_from site_table b) (run (site_row b) 0 j)) y
    ∙ (λ i. conflicts (poison i) (every i) (every i))

-- the numbers behind the rows of the conflicts
pub behind_same : (own : List ℕ) → rows_in conflict_table own < 1024 → Behind own own
unfolding rows_in
behind_same own h = record { count = omega arith; at = λ j p. refl }

pub behind_start : (own : List ℕ) → 6 < length own → Behind (set own 6 0) (set own 6 0)
unfolding rows_in
behind_start own h = behind_same (set own 6 0) (omega (arith, get_or-set_same own 6 0 0 h))

pub behind_then : {a b c : List ℕ} (n : ℕ) → ((j : ℕ) → conflict_table.base + 2 * n ≤ j → get_or b j 0 ≡ get_or a j 0) → n ≤ rows_in conflict_table c → Behind b c → Behind a c
behind_then n p h q = record { count = q.count; at = λ j g. q.at j g ∙ p j (omega arith) }

pub get_or_sets_past : (own : List ℕ) (j i : ℕ) (vs : List ℕ) → i + length vs ≤ j → get_or (sets own i vs) j 0 ≡ get_or own j 0
get_or_sets_past own j i [] h = refl
get_or_sets_past own j i (v ∷ vs) h = get_or_sets_past (set own i v) j (suc i) vs (omega arith) ∙ get_or-set_other own i j v 0 (λ e. omega arith)

get_or_sets_within : (own : List ℕ) (i : ℕ) (vs : List ℕ) (m : ℕ) → m < length vs → i + length vs ≤ length own → get_or (sets own i vs) (i + m) 0 ≡ get_or vs m 0
get_or_sets_within own i [] m h g = absurd (omega arith)
get_or_sets_within own i (v ∷ vs) zero h g =
    let z : i + 0 ≡ i = omega arith in
    ap (λ (k : ℕ). get_or (sets (set own i v) (suc i) vs) k 0) z ∙ get_or_sets_below (set own i v) i (suc i) vs (omega arith) ∙ get_or-set_same own i v 0 (omega arith)
get_or_sets_within own i (v ∷ vs) (suc m) h g =
    let z : i + suc m ≡ suc i + m = omega arith in
    ap (λ (k : ℕ). get_or (sets (set own i v) (suc i) vs) k 0) z ∙ get_or_sets_within (set own i v) (suc i) vs m (omega arith) (omega (arith, length-set own i v))

module _ (own vs : List ℕ) (len : length own ≡ places) (w : length vs ≡ 2) (r : rows_in conflict_table own < 1024) where
  pub pushed_more : rows_in conflict_table (pushed conflict_table own vs) ≡ suc (rows_in conflict_table own)
  pushed_more =
      let sh = conflict_shape own len in
      ap (rows_in conflict_table) (push_room conflict_table own vs r) ∙ more_count conflict_from conflict_table own (rows_in conflict_table own) vs refl r sh.before sh.inside w

  pub pushed_behind : Behind own (pushed conflict_table own vs)
  pushed_behind =
      let n : ℕ = rows_in conflict_table own in
      let at : ℕ = conflict_table.base + 2 * n in
      let sh = conflict_shape own len in
      let more = more_count conflict_from conflict_table own n vs refl r sh.before sh.inside w in
      let word : get_or (stored_row conflict_table own n vs) 6 0 ≡ n + 1 = get_or-set_same (sets own at vs) 6 (n + 1) 0 (omega (arith, length-sets own at vs)) in
      rw (push_room conflict_table own vs r)
      (record {
        count = omega (arith, word, more);
        at = λ j h. get_or-set_other (sets own at vs) 6 j (n + 1) 0 (λ e. omega arith) ∙ get_or_sets_past own j at vs (omega (arith, more, w));
      })

-- a step takes no conflict away
with_more : (n : ℕ) (o : Option ℕ) (l : List Conflict) → length l ≤ length (with_conflict n o l)
with_more n none l = omega arith
with_more n (some x) l = omega (arith, insert_length (record { start = x; name = n }) l)

step_more : (own : List ℕ) (k : ℕ) (cs : List Conflict) → length cs ≤ length (conflict_step own k cs)
unfolding conflict_step
step_more own k cs = go (has_name (site_row own k).name (skip_at (misuse_poison own) (site_row own) k)) refl
  where
    go : (t : Bool) → has_name (site_row own k).name (skip_at (misuse_poison own) (site_row own) k) ≡ t → length cs ≤ length (conflict_step own k cs)
    go true e = rw (e, conflict_step) (omega arith)
    go false e = rw (e, conflict_step) (with_more (site_row own k).name (first_conflict [] (sites_of (site_row own k).name (items site_from site_table own))) cs)

pub rows_more : (own own' : List ℕ) (k : ℕ) → conflict_rows own' ≡ conflict_step own k (conflict_rows own) → rows_in conflict_table own ≤ rows_in conflict_table own'
rows_more own own' k e =
    let a = run_length (conflict_row own) 0 (rows_in conflict_table own) in
    let b = run_length (conflict_row own') 0 (rows_in conflict_table own') in
    omega (arith, a, b, ap length e, step_more own k (conflict_rows own))

pub behind_count : (own : List ℕ) (v j n : ℕ) → conflict_table.base + 2 * n ≤ j → get_or (set own 6 v) j 0 ≡ get_or own j 0
behind_count own v j n h = get_or-set_other own 6 j v 0 (λ e. omega arith)

-- conflicts as numbers
numbers_length : (cs : List Conflict) → length (conflict_numbers cs) ≡ 2 * length cs
unfolding conflict_numbers
numbers_length [] = refl
numbers_length (c ∷ cs) = omega (arith, numbers_length cs)

numbers_at : (own : List ℕ) (i n m : ℕ) → m < 2 * n → get_or (conflict_numbers (run (conflict_row own) i n)) m 0 ≡ get_or own (conflict_table.base + 2 * i + m) 0
unfolding conflict_numbers run
numbers_at own i zero m h = absurd (omega arith)
numbers_at own i (suc n) zero h = row_at conflict_table own i 0 (omega arith)
numbers_at own i (suc n) (suc zero) h = row_at conflict_table own i 1 (omega arith)
numbers_at own i (suc n) (suc (suc m)) h =
    let z : conflict_table.base + 2 * suc i + m ≡ conflict_table.base + 2 * i + suc (suc m) = omega arith in
    numbers_at own (suc i) n m (omega arith) ∙ ap (λ (k : ℕ). get_or own k 0) z

-- where the rows are these, the count is theirs and every other number is as it was, nothing is left open
module _ (a b : List ℕ) (cs : List Conflict) (len : length a ≡ places) (p : Front a b) (q : Behind a b) (e : conflict_rows b ≡ cs) where
  abbrev rows : List ℕ
  rows = sets a conflict_table.base (conflict_numbers cs)

  many : rows_in conflict_table b ≡ length cs
  many = sym (run_length (conflict_row b) 0 (rows_in conflict_table b)) ∙ ap length e

  word : (j : ℕ) → get_or b j 0 ≡ get_or (set rows 6 (length cs)) j 0
  word j = here (eqb j 6) refl
    where
      k : ℕ
      k = conflict_table.base + 2 * length cs

      few : length cs ≤ 1024
      few = omega (arith, many, rows_limit conflict_table b)

      other : ¬ (j ≡ 6) → (t u : Bool) → ltb j conflict_table.base ≡ t → ltb j k ≡ u → get_or b j 0 ≡ get_or rows j 0
      other d true u x y = p.at j (ltb-true j conflict_table.base x) d ∙ sym (get_or_sets_below a j conflict_table.base (conflict_numbers cs) (ltb-true j conflict_table.base x))
      other d false true x y =
          let l = ltb-false j conflict_table.base x in
          let m = ltb-true j k y in
          let i : ℕ = j - conflict_table.base in
          let z : conflict_table.base + i ≡ j = omega arith in
          let z' : conflict_table.base + 2 * 0 + i ≡ j = omega arith in
          sym (ap (λ (x : ℕ). get_or rows x 0) (sym z)
          ∙ get_or_sets_within a conflict_table.base (conflict_numbers cs) i (omega (arith, numbers_length cs)) (omega (arith, numbers_length cs, few, len))
          ∙ ap (λ (l : List Conflict). get_or (conflict_numbers l) i 0) (sym e)
          ∙ numbers_at b 0 (rows_in conflict_table b) i (omega (arith, many))
          ∙ ap (λ (x : ℕ). get_or b x 0) z')
      other d false false x y =
          let m = ltb-false j k y in
          q.at j (omega (arith, many)) ∙ sym (get_or_sets_past a j conflict_table.base (conflict_numbers cs) (omega (arith, numbers_length cs)))

      here : (t : Bool) → eqb j 6 ≡ t → get_or b j 0 ≡ get_or (set rows 6 (length cs)) j 0
      here true x =
          let z = eqb-true j 6 x in
          ap (λ (i : ℕ). get_or b i 0) z ∙ q.count ∙ many
          ∙ sym (ap (λ (i : ℕ). get_or (set rows 6 (length cs)) i 0) z ∙ get_or-set_same rows 6 (length cs) 0 (omega (arith, length-sets a conflict_table.base (conflict_numbers cs), len)))
      here false x =
          let d = eqb-false j 6 x in
          other d (ltb j conflict_table.base) (ltb j k) refl refl ∙ sym (get_or-set_other rows 6 j (length cs) 0 d)

  pub stored_are : b ≡ conflicts_stored a cs
  unfolding conflicts_stored
  stored_are =
      ext_get_or 0 b (set rows 6 (length cs)) (p.size ∙ sym (length-set rows 6 (length cs) ∙ length-sets a conflict_table.base (conflict_numbers cs))) (λ j h. word j)

  pub found_are : cs ≡ conflicts (misuse_poison a) (own_of a).sites (own_of a).sites → b ≡ conflicts_found a
  unfolding conflicts_found
  found_are x = stored_are ∙ ap (conflicts_stored a) x ∙ sym (rw (eq-eqb (length a) places len, conflicts_found))

pub found_none : (own : List ℕ) → ¬ (length own ≡ places) → own ≡ conflicts_found own
unfolding conflicts_found
found_none own h = sym (rw (ne_eqb (length own) places h, conflicts_found))
