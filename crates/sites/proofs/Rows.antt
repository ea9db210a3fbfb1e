-- Rows of tables: what a store leaves of them, and one row more. Assumes nothing.
use mathlib.Core.Path.{◌≡◌, refl, sym, ap, subst, ◌∙◌}
use mathlib.Core.Bool.{Bool, true, false}
use mathlib.Core.List.{List, [], ◌∷◌, ◌++◌, append_assoc}
use Prim.Native.Nat.{ℕ, zero, suc, ◌+◌, ◌*◌, ◌-◌, ◌<◌, ◌≤◌, min}
use native.Mathlib.Nat.{mul-le-mul_left, mul-suc}
use native.Mathlib.Omega.{arith}
use native.Mathlib.Numerals.{add-one}
use Rattle.spec.specs.Refusal.{has_name}
use lib.Dec.{T, eqb, ltb, leb, ltb→lt, leb→le}
use borrow.Author.Tests.{eq-eqb, ne_eqb, leb-true, lt-ltb, le-ltb, ltb-true, ltb-false}
use Rattle.sites.specs.Stored as stored
use lib.ListN.{length, get_or, set, take, drop, length-take, length-drop, drop_of_length-le}
use lib.Seq.{sets, drop-cons, sets-eq, length-sets, drop-set-lt, drop-set-add, take-set-le, drop_at, take_at, length-take-le, get_or-set_same, get_or-set_other, get_or-take, get_or-drop}
use Rattle.sites.specs.Own.{Table, Shape, run, row, rows_in, items, stored_row, pushed, push_answer, row_names, first_row, entry_names, grown, room, first_kept, names, Own}

-- runs
pub run_ext : {A : Type 0} (f g : ℕ → A) (i n : ℕ) → ((j : ℕ) → i ≤ j → j < i + n → f j ≡ g j) → run f i n ≡ run g i n
unfolding run
run_ext f g i zero h = refl
run_ext f g i (suc n) h = rw (h i (omega arith) (omega arith), run_ext f g (suc i) n (λ j p q. h j (omega arith) (omega arith)))

pub run_snoc : {A : Type 0} (f : ℕ → A) (i n : ℕ) → run f i (suc n) ≡ run f i n ++ f (i + n) ∷ []
unfolding run
run_snoc f i zero = let e : i ≡ i + 0 = omega arith in ap (λ (k : ℕ). f k ∷ []) e
run_snoc f i (suc n) =
    let e : suc i + n ≡ i + suc n = omega arith in
    ap (λ l. f i ∷ l) (run_snoc f (suc i) n ∙ ap (λ (k : ℕ). run f (suc i) n ++ f k ∷ []) e)

pub run_length : {A : Type 0} (f : ℕ → A) (i n : ℕ) → length (run f i n) ≡ n
unfolding run
run_length f i zero = refl
run_length f i (suc n) = ap suc (run_length f (suc i) n)

-- a row ends where a later one begins, or before
pub row_end : (w i j : ℕ) → i < j → w * i + w ≤ w * j
row_end w i j h = subst (λ (k : ℕ). k ≤ w * j) (mul-suc w i) (mul-le-mul_left w h)

pub rows_limit : (t : Table) (own : List ℕ) → rows_in t own ≤ t.limit
unfolding rows_in
rows_limit t own = omega arith

module _ (t : Table) (own : List ℕ) where
  row_below : (j i v : ℕ) → i < t.base → row t (set own i v) j ≡ row t own j
  unfolding row
  row_below j i v h = ap (λ l. take t.width l) (drop-set-lt (t.base + t.width * j) own i v (omega arith))

  row_before : (j i v : ℕ) → i < t.base + t.width * j → row t (set own i v) j ≡ row t own j
  unfolding row
  row_before j i v h = ap (λ l. take t.width l) (drop-set-lt (t.base + t.width * j) own i v h)

  pub row_length : (j : ℕ) → length (row t own j) ≡ min t.width (length own - (t.base + t.width * j))
  unfolding row
  row_length j = length-take t.width (drop (t.base + t.width * j) own) ∙ ap (λ (k : ℕ). min t.width k) (length-drop (t.base + t.width * j) own)

  row_above : (j i v : ℕ) → t.base + t.width * j + t.width ≤ i → row t (set own i v) j ≡ row t own j
  unfolding row
  row_above j i v h =
      let k : ℕ = t.base + t.width * j in
      let e : i ≡ k + (i - k) = omega arith in
      ap (λ (n : ℕ). take t.width (drop k (set own n v))) e
      ∙ ap (λ l. take t.width l) (drop-set-add k own (i - k) v)
      ∙ take-set-le t.width (drop k own) (i - k) v (omega arith)

pub row_sets_above : (t : Table) (own : List ℕ) (j i : ℕ) (vs : List ℕ) → t.base + t.width * j + t.width ≤ i → row t (sets own i vs) j ≡ row t own j
row_sets_above t own j i [] h = refl
row_sets_above t own j i (v ∷ vs) h = row_sets_above t (set own i v) j (suc i) vs (omega arith) ∙ row_above t own j i v h

row_sets_below : (t : Table) (own : List ℕ) (j i : ℕ) (vs : List ℕ) → i + length vs ≤ t.base → row t (sets own i vs) j ≡ row t own j
row_sets_below t own j i [] h = refl
row_sets_below t own j i (v ∷ vs) h = row_sets_below t (set own i v) j (suc i) vs (omega arith) ∙ row_below t own j i v (omega arith)

pub row_sets_before : (t : Table) (own : List ℕ) (j i : ℕ) (vs : List ℕ) → i + length vs ≤ t.base + t.width * j → row t (sets own i vs) j ≡ row t own j
row_sets_before t own j i [] h = refl
row_sets_before t own j i (v ∷ vs) h = row_sets_before t (set own i v) j (suc i) vs (omega arith) ∙ row_before t own j i v (omega arith)

-- what was stored as a row is read as that row
pub row_sets_same : (t : Table) (own : List ℕ) (n : ℕ) (vs : List ℕ) → length vs ≡ t.width → t.base + t.width * n + t.width ≤ length own
    → row t (sets own (t.base + t.width * n) vs) n ≡ vs
unfolding row
row_sets_same t own n vs e h =
    let k : ℕ = t.base + t.width * n in
    ap (λ l. take t.width (drop k l)) (sets-eq vs own k (omega arith) ∙ append_assoc (take k own) vs (drop (k + length vs) own))
    ∙ ap (λ l. take t.width l) (drop_at (take k own) (vs ++ drop (k + length vs) own) k (length-take-le k own (omega arith)))
    ∙ take_at vs (drop (k + length vs) own) t.width e

-- one row more
pub get_or_sets_below : (own : List ℕ) (c i : ℕ) (vs : List ℕ) → c < i → get_or (sets own i vs) c 0 ≡ get_or own c 0
get_or_sets_below own c i [] h = refl
get_or_sets_below own c i (v ∷ vs) h = get_or_sets_below (set own i v) c (suc i) vs (omega arith) ∙ get_or-set_other own i c v 0 (λ e. omega arith)

module _ {A : Type 0} (f : List ℕ → A) (t : Table) (own : List ℕ) (n : ℕ) (vs : List ℕ)
    (e : n ≡ rows_in t own) (h : n < t.limit) (c : t.count < t.base) (r : t.base + t.width * t.limit ≤ length own) (w : length vs ≡ t.width) where
  fits : t.base + t.width * n + t.width ≤ length own
  fits = omega (arith, row_end t.width n t.limit h)

  pub more_count : rows_in t (stored_row t own n vs) ≡ suc n
  unfolding rows_in
  more_count =
      let l : t.count < length (sets own (t.base + t.width * n) vs) = omega (arith, length-sets own (t.base + t.width * n) vs) in
      ap (λ (k : ℕ). min k t.limit) (get_or-set_same (sets own (t.base + t.width * n) vs) t.count (n + 1) 0 l) ∙ omega arith

  more_row : (j : ℕ) → j < n → row t (stored_row t own n vs) j ≡ row t own j
  more_row j p =
      row_below t (sets own (t.base + t.width * n) vs) j t.count (n + 1) c
      ∙ row_sets_above t own j (t.base + t.width * n) vs (omega (arith, row_end t.width j n p))

  pub more_items : items f t (stored_row t own n vs) ≡ items f t own ++ f vs ∷ []
  more_items =
      let g : ℕ → A = λ i. f (row t (stored_row t own n vs) i) in
      let q : g (0 + n) ≡ f vs =
      ap (λ (k : ℕ). g k) (omega arith)
      ∙ ap f (row_below t (sets own (t.base + t.width * n) vs) n t.count (n + 1) c ∙ row_sets_same t own n vs w fits) in
      ap (λ (k : ℕ). run g 0 k) more_count ∙ run_snoc g 0 n
      ∙ ap (λ l. l ++ g (0 + n) ∷ []) (run_ext g (λ i. f (row t own i)) 0 n (λ j p q. ap f (more_row j (omega arith))))
      ∙ ap (λ (k : ℕ). run (λ i. f (row t own i)) 0 k ++ g (0 + n) ∷ []) e
      ∙ ap (λ x. items f t own ++ x ∷ []) q

-- two tables have nothing in common
abbrev pub Unequal : ℕ → ℕ → Type 0
Unequal a b = elim (eqb a b) [ true ↦ ⊥ | false ↦ Unit {0} ]

abbrev pub Side : Table → Table → Type 0
Side t u = elim (leb (t.base + t.width * t.limit) u.base) [ true ↦ Unit {0} | false ↦ T (leb (u.base + u.width * u.limit) t.base) ]

abbrev pub Apart : Table → Table → Type 0
Apart t u = T (ltb t.count 8) × T (ltb u.count 8) × T (leb 8 t.base) × T (leb 8 u.base) × Unequal t.count u.count × Side t u

unequal : (a b : ℕ) → Unequal a b → a ≡ b → ⊥
unequal a b x e = go (eqb a b) (eq-eqb a b e) x
  where
    go : (t : Bool) → t ≡ true → elim t as (λ _. Type 0) [ true ↦ ⊥ | false ↦ Unit {0} ] → ⊥
    go true p x = x
    go false p x = let z : ◌≡◌ {A = Bool} true false = sym p in absurd (subst (λ b. elim b as (λ _. Type 0) [ true ↦ Unit {0} | false ↦ ⊥ ]) z tt)

module _ {A : Type 0} (f : List ℕ → A) (t u : Table) (own : List ℕ) (n : ℕ) (vs : List ℕ) (h : n < t.limit) (w : length vs ≡ t.width) (a : Apart t u) where
  other_count : rows_in u (stored_row t own n vs) ≡ rows_in u own
  unfolding rows_in
  other_count =
      let k : ℕ = t.base + t.width * n in
      let l = ltb→lt u.count 8 a.1 in
      let m = leb→le 8 t.base a.2 in
      ap (λ (x : ℕ). min x u.limit)
      (get_or-set_other (sets own k vs) t.count u.count (n + 1) 0 (λ e. unequal t.count u.count a.4 (sym e)) ∙ get_or_sets_below own u.count k vs (omega arith))

  other_sets : (j : ℕ) → j < u.limit → row u (sets own (t.base + t.width * n) vs) j ≡ row u own j
  other_sets j p = go (leb (t.base + t.width * t.limit) u.base) refl a.5
    where
      go : (b : Bool) → leb (t.base + t.width * t.limit) u.base ≡ b → elim b as (λ _. Type 0) [ true ↦ Unit {0} | false ↦ T (leb (u.base + u.width * u.limit) t.base) ]
          → row u (sets own (t.base + t.width * n) vs) j ≡ row u own j
      go true e x =
          let l = leb-true (t.base + t.width * t.limit) u.base e in
          row_sets_below u own j (t.base + t.width * n) vs (omega (arith, row_end t.width n t.limit h))
      go false e x =
          let l = leb→le (u.base + u.width * u.limit) t.base x in
          row_sets_above u own j (t.base + t.width * n) vs (omega (arith, row_end u.width j u.limit p))

  pub other_items : items f u (stored_row t own n vs) ≡ items f u own
  other_items =
      let l = ltb→lt t.count 8 a.0 in
      let m = leb→le 8 u.base a.3 in
      ap (λ (k : ℕ). run (λ i. f (row u (stored_row t own n vs) i)) 0 k) other_count
      ∙ run_ext (λ i. f (row u (stored_row t own n vs) i)) (λ i. f (row u own i)) 0 (rows_in u own)
      (λ j p q. ap f (row_below u (sets own (t.base + t.width * n) vs) j t.count (n + 1) (omega arith) ∙ other_sets j (omega (arith, rows_limit u own))))

-- a number of a row, where it stands
pub row_at : (t : Table) (own : List ℕ) (i k : ℕ) → k < t.width → get_or (row t own i) k 0 ≡ get_or own (t.base + t.width * i + k) 0
unfolding row
row_at t own i k h = get_or-take t.width (drop (t.base + t.width * i) own) k 0 h ∙ get_or-drop (t.base + t.width * i) own k 0

-- tables that are the same one by one
pub same_own : {a b : Own} → a.sites ≡ b.sites → a.pairs ≡ b.pairs → a.outputs ≡ b.outputs → a.regs ≡ b.regs → a.mems ≡ b.mems
    → a.misuses ≡ b.misuses → a.conflicts ≡ b.conflicts → a ≡ b
same_own p q r s t u v = λ i. record { sites = p i; pairs = q i; outputs = r i; regs = s i; mems = t i; misuses = u i; conflicts = v i }

-- runs from a place on
pub run_step : {A : Type 0} (f : ℕ → A) (i n : ℕ) → i < n → run f i (n - i) ≡ f i ∷ run f (i + 1) (n - (i + 1))
unfolding run
run_step f i n h =
    let e : n - i ≡ suc (n - (i + 1)) = omega arith in
    ap (λ (k : ℕ). run f i k) e ∙ ap (λ (k : ℕ). f i ∷ run f k (n - (i + 1))) (sym (add-one i))

pub run_end : {A : Type 0} (f : ℕ → A) (i n : ℕ) → n ≤ i → run f i (n - i) ≡ []
unfolding run
run_end f i n h = let e : n - i ≡ 0 = omega arith in ap (λ (k : ℕ). run f i k) e

pub run_all : {A : Type 0} (f : ℕ → A) (n : ℕ) → run f 0 (n - 0) ≡ run f 0 n
run_all f n = let e : n - 0 ≡ n = omega arith in ap (λ (k : ℕ). run f 0 k) e

-- a name among others
pub has_here : (n m : ℕ) (l : List ℕ) → m ≡ n → has_name n (m ∷ l) ≡ true
unfolding has_name
has_here n m l e = rw (eq-eqb n m (sym e))

pub has_later : (n m : ℕ) (l : List ℕ) → ¬ (m ≡ n) → has_name n (m ∷ l) ≡ has_name n l
unfolding has_name
has_later n m l e = rw (ne_eqb n m (λ x. e (sym x)))

pub has_none : (n : ℕ) → has_name n [] ≡ false
unfolding has_name
has_none n = refl

-- a row's numbers in order
pub row_more : (own : List ℕ) (at k : ℕ) (r : List ℕ) → k < length r → sets (set own (at + k) (get_or r k 0)) (at + (k + 1)) (drop (k + 1) r) ≡ sets own (at + k) (drop k r)
row_more own at k r h =
    let e : at + (k + 1) ≡ suc (at + k) = omega arith in
    let d : drop k r ≡ get_or r k 0 ∷ drop (k + 1) r = drop-cons r k 0 h ∙ ap (λ (j : ℕ). get_or r k 0 ∷ drop j r) (sym (add-one k)) in
    ap (λ (j : ℕ). sets (set own (at + k) (get_or r k 0)) j (drop (k + 1) r)) e ∙ ap (λ l. sets own (at + k) l) (sym d)

pub row_done : (own : List ℕ) (at k : ℕ) (r : List ℕ) → length r ≤ k → sets own (at + k) (drop k r) ≡ own
row_done own at k r h = ap (λ l. sets own (at + k) l) (drop_of_length-le r h)

pub row_start : (own : List ℕ) (at : ℕ) (vs : List ℕ) → sets own (at + 0) vs ≡ sets own at vs
row_start own at vs = let z : at + 0 ≡ at = omega arith in ap (λ (k : ℕ). sets own k vs) z

-- pushing a row
pub push_room : (t : Table) (own vs : List ℕ) → rows_in t own < t.limit → pushed t own vs ≡ stored_row t own (rows_in t own) vs
unfolding pushed
push_room t own vs h = rw (lt-ltb (rows_in t own) t.limit h, pushed)

pub push_full : (t : Table) (own vs : List ℕ) → t.limit ≤ rows_in t own → pushed t own vs ≡ own
unfolding pushed
push_full t own vs h = rw (le-ltb (rows_in t own) t.limit h, pushed)

pub answer_room : (t : Table) (own : List ℕ) → rows_in t own < t.limit → push_answer t own ≡ stored.Done
unfolding push_answer
answer_room t own h = rw (lt-ltb (rows_in t own) t.limit h, push_answer)

pub answer_full : (t : Table) (own : List ℕ) → t.limit ≤ rows_in t own → push_answer t own ≡ stored.Full
unfolding push_answer
answer_full t own h = rw (le-ltb (rows_in t own) t.limit h, push_answer)

-- the whole of a push
pub push_done : (t : Table) (own vs : List ℕ) (n : ℕ) → n ≡ rows_in t own → n < t.limit → stored_row t own n vs ≡ pushed t own vs
push_done t own vs n e h = ap (λ (k : ℕ). stored_row t own k vs) e ∙ sym (push_room t own vs (omega arith))

pub first_seen : (t : Table) (own vs : List ℕ) → has_name (get_or vs 0 0) (row_names t own) ≡ true → own ≡ first_row t own vs
unfolding first_row
first_seen t own vs e = sym (rw (e, first_row))

pub first_new : (t : Table) (own vs : List ℕ) → has_name (get_or vs 0 0) (row_names t own) ≡ false → pushed t own vs ≡ first_row t own vs
unfolding first_row
first_new t own vs e = sym (rw (e, first_row))

pub names_are : (t : Table) (own : List ℕ) → run (λ i. get_or own (t.base + t.width * i) 0) 0 (rows_in t own) ≡ row_names t own
unfolding row_names
names_are t own = refl

-- the names of a table's records
names_run : {A : Type 0} (nm : A → ℕ) (g : ℕ → A) (i n : ℕ) → entry_names nm (run g i n) ≡ run (λ j. nm (g j)) i n
unfolding entry_names run
names_run nm g i zero = refl
names_run nm g i (suc n) = ap (λ l. nm (g i) ∷ l) (names_run nm g (suc i) n)

pub names_items : {A : Type 0} (nm : A → ℕ) (f : List ℕ → A) (t : Table) (own : List ℕ) → ((r : List ℕ) → nm (f r) ≡ get_or r 0 0) → 0 < t.width
    → entry_names nm (items f t own) ≡ row_names t own
unfolding row_names
names_items nm f t own q w =
    names_run nm (λ i. f (row t own i)) 0 (rows_in t own)
    ∙ run_ext (λ j. nm (f (row t own j))) (λ i. get_or own (t.base + t.width * i) 0) 0 (rows_in t own)
    (λ j p r.
    let z : t.base + t.width * j + 0 ≡ t.base + t.width * j = omega arith in
    q (row t own j) ∙ row_at t own j 0 w ∙ ap (λ (k : ℕ). get_or own k 0) z)

-- what pushing and keeping the first do to the records of a table, and to those of another
module _ {A : Type 0} (f : List ℕ → A) (t : Table) (own vs : List ℕ) (s : Shape t own) (w : length vs ≡ t.width) where
  pub grown_room : rows_in t own < t.limit → grown t.limit (f vs) (items f t own) ≡ items f t own ++ f vs ∷ []
  unfolding grown
  grown_room h =
      let l = run_length (λ i. f (row t own i)) 0 (rows_in t own) in
      rw (lt-ltb (length (items f t own)) t.limit (omega arith), grown)

  grown_full : t.limit ≤ rows_in t own → grown t.limit (f vs) (items f t own) ≡ items f t own
  unfolding grown
  grown_full h =
      let l = run_length (λ i. f (row t own i)) 0 (rows_in t own) in
      rw (le-ltb (length (items f t own)) t.limit (omega arith), grown)

  pub pushed_items : items f t (pushed t own vs) ≡ grown t.limit (f vs) (items f t own)
  pushed_items = go (ltb (rows_in t own) t.limit) refl
    where
      go : (b : Bool) → ltb (rows_in t own) t.limit ≡ b → items f t (pushed t own vs) ≡ grown t.limit (f vs) (items f t own)
      go true e =
          let h = ltb-true (rows_in t own) t.limit e in
          ap (items f t) (push_room t own vs h) ∙ more_items f t own (rows_in t own) vs refl h s.before s.inside w ∙ sym (grown_room h)
      go false e =
          let h = ltb-false (rows_in t own) t.limit e in
          ap (items f t) (push_full t own vs h) ∙ sym (grown_full h)

  pub answer_items : push_answer t own ≡ room t.limit (items f t own)
  answer_items = go (ltb (rows_in t own) t.limit) refl
    where
      l : length (items f t own) ≡ rows_in t own
      l = run_length (λ i. f (row t own i)) 0 (rows_in t own)

      go : (b : Bool) → ltb (rows_in t own) t.limit ≡ b → push_answer t own ≡ room t.limit (items f t own)
      go true e =
          let h = ltb-true (rows_in t own) t.limit e in
          answer_room t own h ∙ sym (rw (lt-ltb (length (items f t own)) t.limit (omega (arith, l)), room))
      go false e =
          let h = ltb-false (rows_in t own) t.limit e in
          answer_full t own h ∙ sym (rw (le-ltb (length (items f t own)) t.limit (omega (arith, l)), room))

  pub first_items : (nm : A → ℕ) → ((r : List ℕ) → nm (f r) ≡ get_or r 0 0) → t.limit ≡ names → items f t (first_row t own vs) ≡ first_kept nm (f vs) (items f t own)
  unfolding first_kept
  first_items nm q d = go (has_name (get_or vs 0 0) (row_names t own)) refl
    where
      z : has_name (nm (f vs)) (entry_names nm (items f t own)) ≡ has_name (get_or vs 0 0) (row_names t own)
      z = ap (λ (k : ℕ). has_name k (entry_names nm (items f t own))) (q vs) ∙ ap (has_name (get_or vs 0 0)) (names_items nm f t own q s.some)

      go : (b : Bool) → has_name (get_or vs 0 0) (row_names t own) ≡ b → items f t (first_row t own vs) ≡ first_kept nm (f vs) (items f t own)
      go true e = ap (items f t) (sym (first_seen t own vs e)) ∙ sym (rw (z ∙ e, first_kept))
      go false e = ap (items f t) (sym (first_new t own vs e)) ∙ pushed_items ∙ ap (λ (k : ℕ). grown k (f vs) (items f t own)) d ∙ sym (rw (z ∙ e, first_kept))

module _ {A : Type 0} (f : List ℕ → A) (t u : Table) (own vs : List ℕ) (w : length vs ≡ t.width) (a : Apart t u) where
  pub pushed_other : items f u (pushed t own vs) ≡ items f u own
  pushed_other = go (ltb (rows_in t own) t.limit) refl
    where
      go : (b : Bool) → ltb (rows_in t own) t.limit ≡ b → items f u (pushed t own vs) ≡ items f u own
      go true e =
          let h = ltb-true (rows_in t own) t.limit e in
          ap (items f u) (push_room t own vs h) ∙ other_items f t u own (rows_in t own) vs h w a
      go false e = ap (items f u) (push_full t own vs (ltb-false (rows_in t own) t.limit e))

  pub first_other : items f u (first_row t own vs) ≡ items f u own
  first_other = go (has_name (get_or vs 0 0) (row_names t own)) refl
    where
      go : (b : Bool) → has_name (get_or vs 0 0) (row_names t own) ≡ b → items f u (first_row t own vs) ≡ items f u own
      go true e = ap (items f u) (sym (first_seen t own vs e))
      go false e = ap (items f u) (sym (first_new t own vs e)) ∙ pushed_other

-- the rows that are there lie within the table
pub rows_fit : (t : Table) (own : List ℕ) (n : ℕ) → n ≡ rows_in t own → t.base + t.width * t.limit ≤ length own → t.base + t.width * n ≤ length own
rows_fit t own n e h =
    let l = rows_limit t own in
    let m : t.width * n ≤ t.width * t.limit = mul-le-mul_left t.width (omega arith) in
    omega arith

-- what a search over the rows tells of a row's name
pub seen_by : (t : Table) (own vs : List ℕ) (n x : ℕ) (b : Bool) → n ≡ rows_in t own → x ≡ get_or vs 0 0
    → b ≡ has_name x (run (λ i. get_or own (t.base + t.width * i) 0) 0 n) → has_name (get_or vs 0 0) (row_names t own) ≡ b
unfolding row_names
seen_by t own vs n x b e d q =
    ap (λ (k : ℕ). has_name k (row_names t own)) (sym d)
    ∙ ap (λ (k : ℕ). has_name x (run (λ i. get_or own (t.base + t.width * i) 0) 0 k)) (sym e) ∙ sym q
