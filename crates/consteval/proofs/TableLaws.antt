-- What the filled table is: the specification's name table of the module, where its lines are in range.
-- Assumes nothing.
use mathlib.Core.Path.{◌≡◌, refl, sym, ap, ap₂, subst, ◌∙◌}
use mathlib.Core.Bool.{Bool, true, false, ◌&&◌}
use mathlib.Core.List.{List, [], ◌∷◌}
use Prim.Native.Nat.{ℕ, zero, suc, ◌+◌, ◌-◌, ◌/◌, ◌≤◌, ◌<◌, min}
use native.Mathlib.Omega.{arith}
use lib.IntN.{ℤ, pos, negsuc}
use lib.ListN.{length, set, length-set}
use lib.Seq.{get_or-set_same, get_or-set_other}
use lib.Dec.{ltb}
use borrow.Author.Tests.{lt-ltb, ltb-true, ltb-false}
use Rattle.std.specs.Prelude.{Some, None, Ok, Err}
use Rattle.spec.specs.Bytes.{Bytes}
use Rattle.spec.specs.Syntax.{Item, Items, port, wire, reg, mem, const, drive, on, inst, repeat, const_if, Header, kind, val, Line, module_line, header_line, item_line}
use Rattle.spec.specs.Decode.{decode_line}
use Rattle.spec.specs.Refusal.{lines, decode_lines, in_int, line_in_range, item_in_range, expr_in_range}
use Rattle.spec.specs.Value.{Value, known, missing, outside, Names, within, value, is_outside, Table, val_names, with_value, const_names, name_table, own_vals}
use Rattle.spec.specs.Constants.{InInt, AllInInt}
use Rattle.spec.proofs.Constants.{constants}
use Rattle.consteval.specs.Worth.{Answer, signed, worth, refused_if, number_of, pairs, names_of, room, pushed, biased}
use Rattle.consteval.specs.Fill.{Filled, Entry, held, entry_number, val_of_line, const_of_item, const_of_line, Filling, filling, by_entry, entries_of, vals_of, consts_of, then_consts, fill_of, headers_of, items_of, line_out, all_in_range, Right, Fills}
use Rattle.consteval.proofs.ArithLaws.{signed_low, signed_high}
use Rattle.consteval.proofs.FillLaws.{pushed_length, put_in, put_full}
use Rattle.consteval.specs.declared.fill.FillError.TheVariants.{Outside, Short, Bad}

-- ---- a pair more

-- the pairs below a place that is written stay
pairs_below : (t : List ℕ) (k i v : ℕ) → k + k ≤ i → pairs (set t i v) k ≡ pairs t k
unfolding pairs
pairs_below t zero i v h = refl
pairs_below t (suc k) i v h =
    ap₂ (λ (e : ℕ × ℤ) (l : Names). e ∷ l)
    (ap₂ (λ (a b : ℕ). (a, signed b)) (get_or-set_other t i (k + k) v 0 (λ e. omega arith)) (get_or-set_other t i (k + k + 1) v 0 (λ e. omega arith)))
    (pairs_below t k i v (omega arith))

pushed_in : (t : List ℕ) (used n v : ℕ) → room t used ≡ true → pushed t used n v ≡ set (set t (used + used) n) (used + used + 1) v
unfolding pushed
pushed_in t used n v r = rw (r, pushed)

top_pair : (t : List ℕ) (u n v : ℕ) → u + u + 1 < length t → pairs (set (set t (u + u) n) (u + u + 1) v) (suc u) ≡ (n, signed v) ∷ pairs t u
unfolding pairs
top_pair t u n v h =
    ap₂ (λ (e : ℕ × ℤ) (l : Names). e ∷ l)
    (ap₂ (λ (a b : ℕ). (a, signed b))
    (get_or-set_other (set t (u + u) n) (u + u + 1) (u + u) v 0 (λ e. omega arith) ∙ get_or-set_same t (u + u) n 0 (omega arith))
    (get_or-set_same (set t (u + u) n) (u + u + 1) v 0 (omega (arith, length-set t (u + u) n))))
    (pairs_below (set t (u + u) n) u (u + u + 1) v (omega arith) ∙ pairs_below t u (u + u) n (omega arith))

names_set : (t : List ℕ) (u n v : ℕ) → u < length t / 2 → names_of (set (set t (u + u) n) (u + u + 1) v) (u + 1) ≡ (n, signed v) ∷ names_of t u
unfolding names_of
names_set t u n v h =
    ap (pairs (set (set t (u + u) n) (u + u + 1) v)) (let m : min (u + 1) (length (set (set t (u + u) n) (u + u + 1) v) / 2) ≡ suc u = omega (arith, length-set t (u + u) n, length-set (set t (u + u) n) (u + u + 1) v) in m)
    ∙ top_pair t u n v (omega arith)
    ∙ ap (λ (k : ℕ). (n, signed v) ∷ pairs t k) (let k : u ≡ min u (length t / 2) = omega arith in k)

pub names_pushed : (t : List ℕ) (used n v : ℕ) → room t used ≡ true → names_of (pushed t used n v) (used + 1) ≡ (n, signed v) ∷ names_of t used
names_pushed t used n v r = ap (λ (x : List ℕ). names_of x (used + 1)) (pushed_in t used n v r) ∙ names_set t used n v (ltb-true used (length t / 2) r)

pairs_length : (t : List ℕ) (k : ℕ) → length (pairs t k) ≡ k
unfolding pairs
pairs_length t zero = refl
pairs_length t (suc k) = ap suc (pairs_length t k)

names_length : (t : List ℕ) (used : ℕ) → length (names_of t used) ≡ min used (length t / 2)
unfolding names_of
names_length t used = pairs_length t (min used (length t / 2))

-- ---- a value in INT is held
sign_bias : (z : ℤ) → in_int z ≡ true → signed (biased z) ≡ z
unfolding in_int
sign_bias (pos n) e = let h = ltb-true n 2147483648 e in signed_high (n + 2147483648) (omega arith) ∙ ap pos (let k : n + 2147483648 - 2147483648 ≡ n = omega arith in k)
sign_bias (negsuc n) e = let h = ltb-true n 2147483648 e in signed_low (2147483648 - suc n) (omega arith) ∙ ap negsuc (let k : 2147483648 - suc (2147483648 - suc n) ≡ n = omega arith in k)

-- ---- the specification's table grows, and what is outside stays so
with_grows : (t : Table) (n : ℕ) (x : Value) → length t.names ≤ length (with_value n x t).names
unfolding with_value
with_grows t n (known z) = omega arith
with_grows t n missing = omega arith
with_grows t n outside = omega arith

grows : (t : Table) (is : Items) → length t.names ≤ length (const_names t is).names
unfolding const_names
grows t Items.none = omega arith
grows t (Items.more (port d n w s) is) = grows t is
grows t (Items.more (wire n e s) is) = grows t is
grows t (Items.more (reg n s) is) = grows t is
grows t (Items.more (mem n s) is) = grows t is
grows t (Items.more (const n e) is) = omega (arith, with_grows t n (value t.names e), grows (with_value n (value t.names e) t) is)
grows t (Items.more (drive lv e) is) = grows t is
grows t (Items.more (on s ss) is) = grows t is
grows t (Items.more (inst i) is) = grows t is
grows t (Items.more (repeat n l h js) is) = grows t is
grows t (Items.more (const_if c js ks) is) = grows t is

with_stays : (t : Table) (n : ℕ) (x : Value) → t.out ≡ true → (with_value n x t).out ≡ true
unfolding with_value
with_stays t n (known z) e = e
with_stays t n missing e = e
with_stays t n outside e = refl

stays : (t : Table) (is : Items) → t.out ≡ true → (const_names t is).out ≡ true
unfolding const_names
stays t Items.none h = h
stays t (Items.more (port d n w s) is) h = stays t is h
stays t (Items.more (wire n e s) is) h = stays t is h
stays t (Items.more (reg n s) is) h = stays t is h
stays t (Items.more (mem n s) is) h = stays t is h
stays t (Items.more (const n e) is) h = stays (with_value n (value t.names e) t) is (with_stays t n (value t.names e) h)
stays t (Items.more (drive lv e) is) h = stays t is h
stays t (Items.more (on s ss) is) h = stays t is h
stays t (Items.more (inst i) is) h = stays t is h
stays t (Items.more (repeat n l u js) is) h = stays t is h
stays t (Items.more (const_if c js ks) is) h = stays t is h

-- ---- the items' lines

-- both halves of a test
both : (a b : Bool) → a && b ≡ true → (a ≡ true) × (b ≡ true)
both true b e = (refl, e)
both false b e = absurd (let z : ◌≡◌ {A = ℕ} 0 1 = cc in omega arith)

abbrev so_far : List ℕ → ℕ → Table
so_far t used = record { names = names_of t used; out = false }

abbrev RightOf : Filling → Table → Type 0
RightOf f T = Right f.answer f.table T

-- what the lines behind give, on any table so far
abbrev Goes : List Bytes → Type 0
Goes ls = (t : List ℕ) (used : ℕ) → used ≤ length t / 2 → AllInInt (names_of t used) → RightOf (consts_of ls t used) (const_names (so_far t used) (items_of (decode_lines ls)))

pushed_fits : (t : List ℕ) (used n v : ℕ) → room t used ≡ true → used + 1 ≤ length (pushed t used n v) / 2
pushed_fits t used n v r = omega (arith, ltb-true used (length t / 2) r, pushed_length t used n v (pushed t used n v) refl)

module _ (ls : List Bytes) (go_on : Goes ls) (t : List ℕ) (used : ℕ) (fits : used ≤ length t / 2) (ints : AllInInt (names_of t used)) where
  abbrev rest : Items
  rest = items_of (decode_lines ls)

  -- a `const` with the value x
  const_right : (n : ℕ) → n < 4294967296 → (x : Value) → InInt x → RightOf (by_entry (held n x) (consts_of ls) t used) (const_names (with_value n x (so_far t used)) rest)
  unfolding with_value
  const_right n h missing i = go_on t used fits ints
  const_right n h outside i = stays (record { names = names_of t used; out = true }) rest refl
  const_right n h (known z) i = put (ltb n 4294967296) (lt-ltb n 4294967296 h) (room t used) refl
    where
      here : (n, signed (biased z)) ∷ names_of t used ≡ (n, z) ∷ names_of t used
      here = ap (λ (y : ℤ). (n, y) ∷ names_of t used) (sign_bias z i)

      put : (a : Bool) → a ≡ true → (b : Bool) → room t used ≡ b →
          RightOf (by_entry (elim a as (λ _. Entry) [ true ↦ Ok (Some (n, biased z)) | false ↦ Err Bad ]) (consts_of ls) t used) (const_names (record { names = (n, z) ∷ names_of t used; out = false }) rest)
      put false e b r = absurd (let y : ◌≡◌ {A = ℕ} 0 1 = cc in omega arith)
      put true e true r =
          let eq = names_pushed t used n (biased z) r ∙ here in
          let next = go_on (pushed t used n (biased z)) (used + 1) (pushed_fits t used n (biased z) r) (subst (λ (x : Names). AllInInt x) (sym eq) (i, ints)) in
          subst (λ (f : Filling). RightOf f (const_names (record { names = (n, z) ∷ names_of t used; out = false }) rest)) (sym (put_in n (biased z) (consts_of ls) t used r))
          (subst (λ (x : Names). RightOf (consts_of ls (pushed t used n (biased z)) (used + 1)) (const_names (record { names = x; out = false }) rest)) eq next)
      put true e false r =
          subst (λ (f : Filling). RightOf f (const_names (record { names = (n, z) ∷ names_of t used; out = false }) rest)) (sym (put_full n (biased z) (consts_of ls) t used r))
          (let k : length t / 2 < length (const_names (record { names = (n, z) ∷ names_of t used; out = false }) rest).names =
          omega (arith, grows (record { names = (n, z) ∷ names_of t used; out = false }) rest, names_length t used, ltb-false used (length t / 2) r) in k)

  item_right : (i : Item) → item_in_range i ≡ true → RightOf (by_entry (const_of_item (names_of t used) i) (consts_of ls) t used) (const_names (so_far t used) (Items.more i rest))
  unfolding const_names item_in_range
  item_right (port d n w s) e = go_on t used fits ints
  item_right (wire n x s) e = go_on t used fits ints
  item_right (reg n s) e = go_on t used fits ints
  item_right (mem n s) e = go_on t used fits ints
  item_right (const n x) e = const_right n (omega (arith, ltb-true n 256 (both (ltb n 256) (expr_in_range x) e).0)) (value (names_of t used) x) (constants.in_range (names_of t used) ints x)
  item_right (drive lv x) e = go_on t used fits ints
  item_right (on s ss) e = go_on t used fits ints
  item_right (inst i) e = go_on t used fits ints
  item_right (repeat n l h js) e = go_on t used fits ints
  item_right (const_if c js ks) e = go_on t used fits ints

  line_right : (l : Line) → line_in_range l ≡ true → RightOf (by_entry (const_of_line (names_of t used) l) (consts_of ls) t used) (const_names (so_far t used) (items_of (l ∷ decode_lines ls)))
  unfolding items_of line_in_range
  line_right (module_line m b) e = go_on t used fits ints
  line_right (header_line h) e = go_on t used fits ints
  line_right (item_line i) e = item_right i e

consts_right : (ls : List Bytes) → all_in_range (decode_lines ls) ≡ true → Goes ls
unfolding entries_of decode_lines all_in_range items_of const_names
consts_right [] a t used f i = (refl, refl, f)
consts_right (s ∷ ls) a t used f i =
    let p = both (line_in_range (decode_line s)) (all_in_range (decode_lines ls)) a in
    line_right ls (consts_right ls p.1) t used f i (decode_line s) p.0

-- ---- the header's lines
abbrev RightVals : Filled → List ℕ → Names → Type 0
RightVals (Ok n) t vs = (names_of t n ≡ vs) × (n ≤ length t / 2) × AllInInt (names_of t n)
RightVals (Err Outside) t vs = ⊥
RightVals (Err Short) t vs = length t / 2 < length vs
RightVals (Err Bad) t vs = ⊥

abbrev ValsOf : Filling → Names → Type 0
ValsOf f vs = RightVals f.answer f.table vs

abbrev GoesVals : List Bytes → Type 0
GoesVals ls = (t : List ℕ) (used : ℕ) → used ≤ length t / 2 → AllInInt (names_of t used) → ValsOf (vals_of ls t used) (val_names (names_of t used) (headers_of (decode_lines ls)))

vals_grow : (names : Names) (hs : List Header) → length names ≤ length (val_names names hs)
unfolding val_names
vals_grow names [] = omega arith
vals_grow names (kind n k ∷ hs) = vals_grow names hs
vals_grow names (val n z ∷ hs) = let h = vals_grow ((n, z) ∷ names) hs in omega arith

within_known : (z : ℤ) → in_int z ≡ true → within z ≡ known z
unfolding within
within_known z e = rw (e, within)

module _ (ls : List Bytes) (go_on : GoesVals ls) (t : List ℕ) (used : ℕ) (fits : used ≤ length t / 2) (ints : AllInInt (names_of t used)) where
  abbrev after : Names → Names
  after names = val_names names (headers_of (decode_lines ls))

  val_put : (n : ℕ) (z : ℤ) → in_int z ≡ true → (b : Bool) → room t used ≡ b → ValsOf (by_entry (Ok (Some (n, biased z))) (vals_of ls) t used) (after ((n, z) ∷ names_of t used))
  val_put n z i true r =
      let eq = names_pushed t used n (biased z) r ∙ ap (λ (y : ℤ). (n, y) ∷ names_of t used) (sign_bias z i) in
      let next = go_on (pushed t used n (biased z)) (used + 1) (pushed_fits t used n (biased z) r) (subst (λ (x : Names). AllInInt x) (sym eq) (i, ints)) in
      subst (λ (f : Filling). ValsOf f (after ((n, z) ∷ names_of t used))) (sym (put_in n (biased z) (vals_of ls) t used r))
      (subst (λ (x : Names). ValsOf (vals_of ls (pushed t used n (biased z)) (used + 1)) (after x)) eq next)
  val_put n z i false r =
      subst (λ (f : Filling). ValsOf f (after ((n, z) ∷ names_of t used))) (sym (put_full n (biased z) (vals_of ls) t used r))
      (let k : length t / 2 < length (after ((n, z) ∷ names_of t used)) =
      omega (arith, vals_grow ((n, z) ∷ names_of t used) (headers_of (decode_lines ls)), names_length t used, ltb-false used (length t / 2) r) in k)

  val_right : (n : ℕ) (z : ℤ) → n < 4294967296 → in_int z ≡ true → ValsOf (by_entry (held n (within z)) (vals_of ls) t used) (after ((n, z) ∷ names_of t used))
  val_right n z h i =
      subst (λ (x : Entry). ValsOf (by_entry x (vals_of ls) t used) (after ((n, z) ∷ names_of t used)))
      (sym (ap (held n) (within_known z i) ∙ hold (ltb n 4294967296) (lt-ltb n 4294967296 h))) (val_put n z i (room t used) refl)
    where
      hold : (b : Bool) → b ≡ true → elim b as (λ _. Entry) [ true ↦ Ok (Some (n, biased z)) | false ↦ Err Bad ] ≡ Ok (Some (n, biased z))
      hold b e = rw e

  header_right : (l : Line) → line_in_range l ≡ true → ValsOf (by_entry (val_of_line l) (vals_of ls) t used) (val_names (names_of t used) (headers_of (l ∷ decode_lines ls)))
  unfolding headers_of line_in_range val_names
  header_right (module_line m b) e = go_on t used fits ints
  header_right (header_line (kind n k)) e = go_on t used fits ints
  header_right (header_line (val n z)) e = let p = both (ltb n 256) (in_int z) e in val_right n z (omega (arith, ltb-true n 256 p.0)) p.1
  header_right (item_line i) e = go_on t used fits ints

vals_right : (ls : List Bytes) → all_in_range (decode_lines ls) ≡ true → GoesVals ls
unfolding entries_of decode_lines all_in_range headers_of val_names
vals_right [] a t used f i = (refl, f, i)
vals_right (s ∷ ls) a t used f i =
    let p = both (line_in_range (decode_line s)) (all_in_range (decode_lines ls)) a in
    header_right ls (vals_right ls p.1) t used f i (decode_line s) p.0

-- ---- both
names_none : (t : List ℕ) → names_of t 0 ≡ []
unfolding names_of pairs
names_none t = let z : min 0 (length t / 2) ≡ 0 = omega arith in ap (pairs t) z

both_right : (items : Bytes) → all_in_range (decode_lines (lines items)) ≡ true → (vs : Names) (a : Filled) (x : List ℕ) → RightVals a x vs →
    RightOf (then_consts items a x) (const_names (record { names = vs; out = false }) (items_of (decode_lines (lines items))))
both_right items e vs (Ok n) x r =
    subst (λ (y : Names). RightOf (consts_of (lines items) x n) (const_names (record { names = y; out = false }) (items_of (decode_lines (lines items))))) r.0
    (consts_right (lines items) e x n r.1 r.2)
both_right items e vs (Err Outside) x r = absurd r
both_right items e vs (Err Short) x r = omega (arith, grows (record { names = vs; out = false }) (items_of (decode_lines (lines items))), r)
both_right items e vs (Err Bad) x r = absurd r

pub fills : (header items : Bytes) (t : List ℕ) → Fills (fill_of header items t).answer header items (fill_of header items t).table
unfolding fill_of name_table own_vals
fills header items t bound h i =
    both_right items i (val_names [] (headers_of (decode_lines (lines header)))) (vals_of (lines header) t 0).answer (vals_of (lines header) t 0).table
    (subst (λ (y : Names). ValsOf (vals_of (lines header) t 0) (val_names y (headers_of (decode_lines (lines header))))) (names_none t)
    (vals_right (lines header) h t 0 (omega arith) (subst (λ (y : Names). AllInInt y) (sym (names_none t)) tt)))

pub filled : (header items : Bytes) (t : List ℕ) (r : Filled) (t' : List ℕ) → filling r t' ≡ fill_of header items t → (filling r t' ≡ fill_of header items t) × Fills r header items t'
filled header items t r t' e = (e, subst (λ (f : Filling). Fills f.answer header items f.table) (sym e) (fills header items t))

-- ---- the number of what a line adds
held_number : (n : ℕ) (x : Value) → n < 4294967296 → entry_number (held n x) ≡ refused_if (is_outside x)
held_number n (known z) h = hold (ltb n 4294967296) (lt-ltb n 4294967296 h)
  where
    hold : (b : Bool) → b ≡ true → entry_number (elim b as (λ _. Entry) [ true ↦ Ok (Some (n, biased z)) | false ↦ Err Bad ]) ≡ 0
    hold b e = rw e
held_number n missing h = refl
held_number n outside h = refl

answer_number : (v : Answer) → refused_if (is_outside (worth v)) ≡ number_of v
answer_number (Ok (Some x)) = refl
answer_number (Ok None) = refl
answer_number (Err e) = refl

val_number : (l : Line) → line_in_range l ≡ true → entry_number (val_of_line l) ≡ 0
unfolding line_in_range
val_number (module_line m b) e = refl
val_number (header_line (kind n k)) e = refl
val_number (header_line (val n z)) e =
    let p = both (ltb n 256) (in_int z) e in
    ap (λ (x : Value). entry_number (held n x)) (within_known z p.1) ∙ held_number n (known z) (omega (arith, ltb-true n 256 p.0))
val_number (item_line i) e = refl

pub val_by : (s : Bytes) (r : Entry) → r ≡ val_of_line (decode_line s) → (r ≡ val_of_line (decode_line s)) × (line_in_range (decode_line s) ≡ true → entry_number r ≡ 0)
val_by s r e = (e, λ h. ap entry_number e ∙ val_number (decode_line s) h)

out_of : (names : Names) (n : ℕ) (x : Value) → is_outside x ≡ (with_value n x (record { names = names; out = false })).out
unfolding with_value
out_of names n (known z) = refl
out_of names n missing = refl
out_of names n outside = refl

item_number : (names : Names) (i : Item) → item_in_range i ≡ true
    → entry_number (const_of_item names i) ≡ refused_if (const_names (record { names = names; out = false }) (Items.more i Items.none)).out
unfolding const_names item_in_range
item_number names (port d n w s) e = refl
item_number names (wire n x s) e = refl
item_number names (reg n s) e = refl
item_number names (mem n s) e = refl
item_number names (const n x) e =
    held_number n (value names x) (omega (arith, ltb-true n 256 (both (ltb n 256) (expr_in_range x) e).0)) ∙ ap refused_if (out_of names n (value names x))
item_number names (drive lv x) e = refl
item_number names (on s ss) e = refl
item_number names (inst i) e = refl
item_number names (repeat n l h js) e = refl
item_number names (const_if c js ks) e = refl

const_number : (names : Names) (l : Line) → line_in_range l ≡ true → entry_number (const_of_line names l) ≡ refused_if (line_out names l)
unfolding line_in_range items_of const_names
const_number names (module_line m b) e = refl
const_number names (header_line h) e = refl
const_number names (item_line i) e = item_number names i e

pub const_by : (names : Names) (s : Bytes) (r : Entry) → r ≡ const_of_line names (decode_line s)
    → (r ≡ const_of_line names (decode_line s)) × (line_in_range (decode_line s) ≡ true → entry_number r ≡ refused_if (line_out names (decode_line s)))
const_by names s r e = (e, λ h. ap entry_number e ∙ const_number names (decode_line s) h)
