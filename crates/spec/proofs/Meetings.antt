-- Sites: what the tests of meeting, conflict and coverage say; blocks: what their count says.
-- Assumes nothing.
use mathlib.Core.Path.{◌≡◌, refl, sym, ◌∙◌, ap, subst, subst⁻¹}
use mathlib.Core.Bool.{Bool, true, false, ◌&&◌, ◌||◌}
use mathlib.Core.Logic.{◌⊎◌, inl, inr, ◌↔◌}
use mathlib.Core.Option.{Option, some, none}
use mathlib.Core.List.Memᴰ
use mathlib.Core.List.{List, [], ◌∷◌, ◌++◌}
use Prim.Native.Nat.{ℕ, zero, suc, ◌+◌, min, max, ◌≤◌, ◌<◌}
use native.Mathlib.Omega.{arith}
use lib.ListN.{length}
use lib.Dec.{eqb, ltb, leb}
use lib.IntN.{pos, negsuc}
use borrow.Author.Tests.{ltb-true, ltb-false, leb-true, le-leb, eqb-true, eqb-false, eq-eqb}
use Rattle.spec.specs.Syntax.{Index, whole, at_bit, high_low, LValue, Width, Item, port, wire, reg, mem, const, drive, on, inst, repeat, const_if, Header}
use Rattle.spec.specs.Refusal.{has_name}
use Rattle.spec.specs.Value.{Value, known, missing, outside, Names, value}
use Rattle.spec.specs.Collect.{Collected}
use Rattle.spec.specs.Site.{kind_of, Extent, Whole, Dynamic, Unknown, Range, Site, no_range, bit_extent, range_extent, lvalue_extent, Driving, an_output, a_wire, a_reg, a_mem, nothing, driving, drive_site, line_sites, sites, meets, sites_of, meets_any, first_conflict, Conflict, conflict_before, insert_conflict, with_conflict, conflicts, only_ranges, width_value, covers, covered, gap_from, coverage_limit, first_gap, never, gap, gap_coverage, width_coverage, deciding_width, coverage}
use Rattle.spec.specs.Block.{Pair, has_pair, different_pairs, block_count}
use Rattle.spec.specs.Graph.{◌∈◌, Once}
use Rattle.spec.specs.Situations.{Has, Meet, FirstMeeting, IsRange, AllRanges, FirstGap}
use Rattle.spec.specs.DepthFirstFinds.{InOrder}
use Rattle.spec.proofs.Flags.{clash, which, not_so, or_cases, or_left, or_right, or_neither, and_both, and_of, named_in, unnamed}
use Rattle.spec.proofs.Lists.{once_length}
use Rattle.spec.proofs.Firsts.{head_same, tail_same, not_cons}

-- ---- extents

-- a range has a bit
abbrev pub Proper : Extent → Type 0
Proper Whole = Unit {0}
Proper Dynamic = Unit {0}
Proper Unknown = Unit {0}
Proper (Range l h) = l ≤ h

no_range_proper : (b : Bool) → Proper (no_range b)
no_range_proper true = tt
no_range_proper false = tt

bit_proper : (b : Bool) (v : Value) → Proper (bit_extent b v)
bit_proper b (known (pos v)) = omega arith
bit_proper b (known (negsuc v)) = no_range_proper b
bit_proper b missing = no_range_proper b
bit_proper b outside = no_range_proper b

range_proper : (b : Bool) (v w : Value) → Proper (range_extent b v w)
range_proper b (known (pos h)) (known (pos l)) = go (leb l h) refl
  where
    go : (t : Bool) → leb l h ≡ t → Proper (elim t as (λ _. Extent) [ true ↦ Range l h | false ↦ no_range b ])
    go true e = leb-true l h e
    go false e = no_range_proper b
range_proper b (known (pos h)) (known (negsuc l)) = no_range_proper b
range_proper b (known (pos h)) missing = no_range_proper b
range_proper b (known (pos h)) outside = no_range_proper b
range_proper b (known (negsuc h)) l = no_range_proper b
range_proper b missing l = no_range_proper b
range_proper b outside l = no_range_proper b

extent_proper : (b : Bool) (names : Names) (x : Index) → Proper (lvalue_extent b names x)
unfolding lvalue_extent
extent_proper b names whole = tt
extent_proper b names (at_bit e) = bit_proper b (value names e)
extent_proper b names (high_low h l) = range_proper b (value names h) (value names l)

abbrev pub AllProper : List Site → Type 0
AllProper ss = (s : Site) → s ∈ ss → Proper s.extent

drive_proper : (k : Driving) (b : Bool) (names : Names) (lv : LValue) → AllProper (drive_site k b names lv)
drive_proper an_output b names lv s i = subst⁻¹ (λ z. Proper z.extent) (Memᴰ.eq_of_singleton i) (extent_proper b names lv.index)
drive_proper a_wire b names lv s i = absurd (Memᴰ.not-nil i)
drive_proper a_reg b names lv s i = absurd (Memᴰ.not-nil i)
drive_proper a_mem b names lv s i = absurd (Memᴰ.not-nil i)
drive_proper nothing b names lv s i = absurd (Memᴰ.not-nil i)

line_proper : (b : Bool) (hs : List Header) (names : Names) (i : Item) → AllProper (line_sites b hs names i)
unfolding line_sites
line_proper b hs names (drive lv e) = drive_proper (driving (kind_of hs lv.name)) b names lv
line_proper b hs names (port d n w s) = λ t i. absurd (Memᴰ.not-nil i)
line_proper b hs names (wire n e s) = λ t i. absurd (Memᴰ.not-nil i)
line_proper b hs names (reg n s) = λ t i. absurd (Memᴰ.not-nil i)
line_proper b hs names (mem n s) = λ t i. absurd (Memᴰ.not-nil i)
line_proper b hs names (const n e) = λ t i. absurd (Memᴰ.not-nil i)
line_proper b hs names (on s ss) = λ t i. absurd (Memᴰ.not-nil i)
line_proper b hs names (inst x) = λ t i. absurd (Memᴰ.not-nil i)
line_proper b hs names (repeat n l h is) = λ t i. absurd (Memᴰ.not-nil i)
line_proper b hs names (const_if c is js) = λ t i. absurd (Memᴰ.not-nil i)

pub sites_proper : (b : Bool) (hs : List Header) (cs : List Collected) → AllProper (sites b hs cs)
unfolding sites
sites_proper b hs [] s i = absurd (Memᴰ.not-nil i)
sites_proper b hs (c ∷ cs) s i = go (Memᴰ.append_cases (line_sites b hs c.names c.item) i) (sites_proper b hs cs s)
  where
    go : (s ∈ line_sites b hs c.names c.item) ⊎ (s ∈ sites b hs cs) → (s ∈ sites b hs cs → Proper s.extent) → Proper s.extent
    go (inl j) ih = line_proper b hs c.names c.item s j
    go (inr j) ih = ih j

-- ---- the sites of one name

pub of_sites_of : {s : Site} (n : ℕ) (ss : List Site) → s ∈ sites_of n ss → (s ∈ ss) × (s.name ≡ n)
unfolding sites_of
of_sites_of n [] i = absurd (Memᴰ.not-nil i)
of_sites_of {s} n (t ∷ ss) i = go (eqb n t.name) refl (of_sites_of n ss)
  where
    both : eqb n t.name ≡ true → (s ∈ sites_of n ss → (s ∈ ss) × (s.name ≡ n)) → (s ≡ t) ⊎ (s ∈ sites_of n ss) → (s ∈ (t ∷ ss)) × (s.name ≡ n)
    both e ih (inl d) = (Memᴰ.head d, ap (λ z. z.name) d ∙ sym (eqb-true n t.name e))
    both e ih (inr j) = (Memᴰ.tail (ih j).0, (ih j).1)

    go : (b : Bool) → eqb n t.name ≡ b → (s ∈ sites_of n ss → (s ∈ ss) × (s.name ≡ n)) → (s ∈ (t ∷ ss)) × (s.name ≡ n)
    go true e ih = both e ih (Memᴰ.cases_cons (rw (e, sites_of) at i))
    go false e ih = let r = ih (rw (e, sites_of) at i) in (Memᴰ.tail r.0, r.1)

pub named_proper : (n : ℕ) (ss : List Site) → AllProper ss → AllProper (sites_of n ss)
named_proper n ss h s i = h s (of_sites_of n ss i).0

-- ---- meeting

pub meets_says : (x y : Extent) → Proper x → Proper y → (meets x y ≡ true) ↔ Meet x y
meets_says Unknown y p q = (λ e. absurd (clash e refl), λ m. absurd m)
meets_says Whole Unknown p q = (λ e. absurd (clash e refl), λ m. absurd m)
meets_says Whole Whole p q = (λ e. tt, λ m. refl)
meets_says Whole Dynamic p q = (λ e. tt, λ m. refl)
meets_says Whole (Range l h) p q = (λ e. tt, λ m. refl)
meets_says Dynamic Unknown p q = (λ e. absurd (clash e refl), λ m. absurd m)
meets_says Dynamic Whole p q = (λ e. tt, λ m. refl)
meets_says Dynamic Dynamic p q = (λ e. tt, λ m. refl)
meets_says Dynamic (Range l h) p q = (λ e. tt, λ m. refl)
meets_says (Range l h) Unknown p q = (λ e. absurd (clash e refl), λ m. absurd m)
meets_says (Range l h) Whole p q = (λ e. tt, λ m. refl)
meets_says (Range l h) Dynamic p q = (λ e. tt, λ m. refl)
meets_says (Range l h) (Range l' h') p q = (
  λ e. let (a, b) = and_both (leb l h') (leb l' h) e in let a' = leb-true l h' a in let b' = leb-true l' h b in (max l l', (omega arith, omega arith), (omega arith, omega arith)),
  λ (b, (i, j), (i', j')). and_of (leb l h') (leb l' h) (le-leb l h' (omega arith)) (le-leb l' h (omega arith)),
)

any_meets : (l : List Site) (x : Extent) → meets_any l x ≡ true → (t : Site) × (t ∈ l) × (meets t.extent x ≡ true)
unfolding meets_any
any_meets [] x e = absurd (clash e refl)
any_meets (s ∷ l) x e = go (or_cases (meets s.extent x) (meets_any l x) e) (any_meets l x)
  where
    go : (meets s.extent x ≡ true) ⊎ (meets_any l x ≡ true) → (meets_any l x ≡ true → (t : Site) × (t ∈ l) × (meets t.extent x ≡ true)) → (t : Site) × (t ∈ (s ∷ l)) × (meets t.extent x ≡ true)
    go (inl h) ih = (s, Memᴰ.head refl, h)
    go (inr h) ih = let (t, i, m) = ih h in (t, Memᴰ.tail i, m)

meets_all : {t : Site} {l : List Site} (x : Extent) → t ∈ l → meets t.extent x ≡ true → meets_any l x ≡ true
unfolding meets_any
meets_all x (Memᴰ.head {x = s} {xs = l} d) m = or_left (meets s.extent x) (meets_any l x) (subst (λ z. meets z.extent x ≡ true) d m)
meets_all x (Memᴰ.tail {x = s} {xs = l} i) m = or_right (meets s.extent x) (meets_any l x) (meets_all x i m)

-- the first site of l that meets one of `earlier` or one before it
record Found (earlier l : List Site) (s : Site) : Type 0 where
  before : List Site
  after : List Site
  parted : l ≡ before ++ s ∷ after
  other : Site
  stands : (other ∈ earlier) ⊎ (other ∈ before)
  meeting : meets other.extent s.extent ≡ true
  first : (front back : List Site) (t u : Site) → before ≡ front ++ u ∷ back → (t ∈ earlier) ⊎ (t ∈ front) → meets t.extent u.extent ≡ false

-- of those behind s, with s among the earlier ones
shift : {earlier front : List Site} {s t : Site} → (t ∈ earlier) ⊎ (t ∈ (s ∷ front)) → (t ∈ (s ∷ earlier)) ⊎ (t ∈ front)
shift (inl i) = inl (Memᴰ.tail i)
shift (inr (Memᴰ.head e)) = inl (Memᴰ.head e)
shift (inr (Memᴰ.tail i)) = inr i

unshift : {earlier front : List Site} {s t : Site} → (t ∈ (s ∷ earlier)) ⊎ (t ∈ front) → (t ∈ earlier) ⊎ (t ∈ (s ∷ front))
unshift (inl (Memᴰ.head e)) = inr (Memᴰ.head e)
unshift (inl (Memᴰ.tail i)) = inl i
unshift (inr i) = inr (Memᴰ.tail i)

no_meeting : {earlier : List Site} (s : Site) {t : Site} → meets_any earlier s.extent ≡ false → t ∈ earlier → meets t.extent s.extent ≡ false
no_meeting s {t} h i = not_so (meets t.extent s.extent) (λ m. clash (meets_all s.extent i m) h)

found_up : (l earlier : List Site) (start : ℕ) → first_conflict earlier l ≡ some start → (s : Site) × Found earlier l s × (s.start ≡ start)
unfolding first_conflict
found_up [] earlier start e = let z : ◌≡◌ {A = ℕ} 0 1 = cc in absurd (omega arith)
found_up (s ∷ later) earlier start e = go (meets_any earlier s.extent) refl (found_up later (s ∷ earlier) start)
  where
    here : {a b : ℕ} → some a ≡ some b → a ≡ b
    here p = cc

    go : (b : Bool) → meets_any earlier s.extent ≡ b → (first_conflict (s ∷ earlier) later ≡ some start → (u : Site) × Found (s ∷ earlier) later u × (u.start ≡ start)) → (u : Site) × Found earlier (s ∷ later) u × (u.start ≡ start)
    go true h ih = let (t, i, m) = any_meets earlier s.extent h in (
      s,
      record {
        before = [];
        after = later;
        parted = refl;
        other = t;
        stands = inl i;
        meeting = m;
        first = λ front back t u p j. absurd (not_cons front u back p);
      },
      here (rw (h, first_conflict) at e),
    )
    go false h ih = let (u, f, q) = ih (rw (h, first_conflict) at e) in (
      u,
      record {
        before = s ∷ f.before;
        after = f.after;
        parted = ap (λ z. s ∷ z) f.parted;
        other = f.other;
        stands = unshift f.stands;
        meeting = f.meeting;
        first = λ front back t v p j. deeper f front back t v p j;
      },
      q,
    )
      where
        deeper : {u : Site} → (f : Found (s ∷ earlier) later u) → (front back : List Site) (t v : Site) → s ∷ f.before ≡ front ++ v ∷ back → (t ∈ earlier) ⊎ (t ∈ front) → meets t.extent v.extent ≡ false
        deeper f [] back t v p (inl j) = subst (λ z. meets t.extent z.extent ≡ false) (head_same p) (no_meeting s h j)
        deeper f [] back t v p (inr j) = absurd (Memᴰ.not-nil j)
        deeper f (a ∷ front) back t v p j = f.first front back t v (tail_same p) (shift (subst (λ z. (t ∈ earlier) ⊎ (t ∈ (z ∷ front))) (sym (head_same p)) j))

found_down : (before after earlier : List Site) (s other : Site) → (other ∈ earlier) ⊎ (other ∈ before) → meets other.extent s.extent ≡ true
    → ((front back : List Site) (t u : Site) → before ≡ front ++ u ∷ back → (t ∈ earlier) ⊎ (t ∈ front) → meets t.extent u.extent ≡ false)
    → first_conflict earlier (before ++ s ∷ after) ≡ some s.start
unfolding first_conflict
found_down [] after earlier s other (inl i) m f = rw (meets_all s.extent i m, first_conflict)
found_down [] after earlier s other (inr i) m f = absurd (Memᴰ.not-nil i)
found_down (b ∷ before) after earlier s other i m f =
    rw (quiet, first_conflict) (found_down before after (b ∷ earlier) s other (shift i) m (λ front back t u p j. f (b ∷ front) back t u (ap (λ z. b ∷ z) p) (unshift j)))
  where
    quiet : meets_any earlier b.extent ≡ false
    quiet = not_so (meets_any earlier b.extent) (λ h. let (t, j, q) = any_meets earlier b.extent h in clash q (f [] before t b refl (inl j)))

none_up : (l earlier : List Site) → first_conflict earlier l ≡ none → (front back : List Site) (t u : Site) → l ≡ front ++ u ∷ back → (t ∈ earlier) ⊎ (t ∈ front) → meets t.extent u.extent ≡ false
unfolding first_conflict
none_up [] earlier e front back t u p i = absurd (not_cons front u back p)
none_up (s ∷ later) earlier e front back t u p i = go (meets_any earlier s.extent) refl (none_up later (s ∷ earlier))
  where
    behind : (front : List Site) → (first_conflict (s ∷ earlier) later ≡ none → (front back : List Site) (t u : Site) → later ≡ front ++ u ∷ back → (t ∈ (s ∷ earlier)) ⊎ (t ∈ front) → meets t.extent u.extent ≡ false)
        → meets_any earlier s.extent ≡ false → first_conflict (s ∷ earlier) later ≡ none → s ∷ later ≡ front ++ u ∷ back → (t ∈ earlier) ⊎ (t ∈ front) → meets t.extent u.extent ≡ false
    behind [] ih h n p (inl i) = subst (λ z. meets t.extent z.extent ≡ false) (head_same p) (no_meeting s h i)
    behind [] ih h n p (inr i) = absurd (Memᴰ.not-nil i)
    behind (a ∷ front) ih h n p i = ih n front back t u (tail_same p) (shift (subst (λ z. (t ∈ earlier) ⊎ (t ∈ (z ∷ front))) (sym (head_same p)) i))

    go : (b : Bool) → meets_any earlier s.extent ≡ b → (first_conflict (s ∷ earlier) later ≡ none → (front back : List Site) (t u : Site) → later ≡ front ++ u ∷ back → (t ∈ (s ∷ earlier)) ⊎ (t ∈ front) → meets t.extent u.extent ≡ false) → meets t.extent u.extent ≡ false
    go true h ih = let z : some s.start ≡ none = rw (h, first_conflict) at e in let c : ◌≡◌ {A = ℕ} 0 1 = cc in absurd (omega arith)
    go false h ih = behind front ih h (rw (h, first_conflict) at e) p i

-- the first later site that meets an earlier one, as the test finds it
module _ (l : List Site) (proper : AllProper l) where
  meets_in : {t u : Site} → t ∈ l → u ∈ l → (meets t.extent u.extent ≡ true) ↔ Meet t.extent u.extent
  meets_in {t} {u} i j = meets_says t.extent u.extent (proper t i) (proper u j)

  pub meeting_up : (start : ℕ) → first_conflict [] l ≡ some start → (s : Site) × FirstMeeting l s × (s.start ≡ start)
  meeting_up start e = let (s, f, q) = found_up l [] start e in (s, go s f f.stands, q)
    where
      go : (s : Site) (f : Found [] l s) → (f.other ∈ []) ⊎ (f.other ∈ f.before) → FirstMeeting l s
      go s f (inl i) = absurd (Memᴰ.not-nil i)
      go s f (inr i) = record {
        before = f.before;
        after = f.after;
        parted = f.parted;
        earlier = f.other;
        stands = i;
        meets = (meets_in (subst⁻¹ (λ z. f.other ∈ z) f.parted (Memᴰ.append_left (s ∷ f.after) i)) (subst⁻¹ (λ z. s ∈ z) f.parted (Memᴰ.append_right f.before (Memᴰ.head refl)))).0 f.meeting;
        first = λ front back t u p j m. clash ((meets_in (inside f front back t u p (Memᴰ.append_left (u ∷ back) j)) (inside f front back u u p (Memᴰ.append_right front (Memᴰ.head refl)))).1 m) (f.first front back t u p (inr j));
      }
        where
          inside : (f : Found [] l s) (front back : List Site) (t u : Site) → f.before ≡ front ++ u ∷ back → t ∈ (front ++ u ∷ back) → t ∈ l
          inside f front back t u p i = subst⁻¹ (λ z. t ∈ z) f.parted (Memᴰ.append_left (s ∷ f.after) (subst⁻¹ (λ z. t ∈ z) p i))

  pub meeting_down : (s : Site) → FirstMeeting l s → first_conflict [] l ≡ some s.start
  meeting_down s f =
      subst⁻¹ (λ z. first_conflict [] z ≡ some s.start) f.parted
      (found_down f.before f.after [] s f.earlier (inr f.stands)
      ((meets_in (inside f.earlier (Memᴰ.append_left (s ∷ f.after) f.stands)) (inside s (Memᴰ.append_right f.before (Memᴰ.head refl)))).1 f.meets) quiet)
    where
      inside : (t : Site) → t ∈ (f.before ++ s ∷ f.after) → t ∈ l
      inside t i = subst⁻¹ (λ z. t ∈ z) f.parted i

      within : (front back : List Site) (t u : Site) → f.before ≡ front ++ u ∷ back → t ∈ (front ++ u ∷ back) → t ∈ l
      within front back t u p i = inside t (Memᴰ.append_left (s ∷ f.after) (subst⁻¹ (λ z. t ∈ z) p i))

      quiet : (front back : List Site) (t u : Site) → f.before ≡ front ++ u ∷ back → (t ∈ []) ⊎ (t ∈ front) → meets t.extent u.extent ≡ false
      quiet front back t u p (inl i) = absurd (Memᴰ.not-nil i)
      quiet front back t u p (inr i) = not_so (meets t.extent u.extent) (λ m. f.first front back t u p i ((meets_in (within front back t u p (Memᴰ.append_left (u ∷ back) i)) (within front back u u p (Memᴰ.append_right front (Memᴰ.head refl)))).0 m))

  pub no_meetings : first_conflict [] l ≡ none → (front back : List Site) (t u : Site) → l ≡ front ++ u ∷ back → t ∈ front → ¬ Meet t.extent u.extent
  no_meetings e front back t u p i m =
      clash ((meets_in (subst⁻¹ (λ z. t ∈ z) p (Memᴰ.append_left (u ∷ back) i)) (subst⁻¹ (λ z. u ∈ z) p (Memᴰ.append_right front (Memᴰ.head refl)))).1 m)
      (none_up l [] e front back t u p (inr i))

-- ---- conflicts

insert_new : (c : Conflict) (cs : List Conflict) → c ∈ insert_conflict c cs
unfolding insert_conflict
insert_new c [] = Memᴰ.head refl
insert_new c (x ∷ cs) = go (conflict_before c x) refl (insert_new c cs)
  where
    go : (b : Bool) → conflict_before c x ≡ b → c ∈ insert_conflict c cs → c ∈ insert_conflict c (x ∷ cs)
    go true e ih = rw (e, insert_conflict) (Memᴰ.head refl)
    go false e ih = rw (e, insert_conflict) (Memᴰ.tail ih)

insert_old : {a : Conflict} (c : Conflict) (cs : List Conflict) → a ∈ cs → a ∈ insert_conflict c cs
unfolding insert_conflict
insert_old c [] i = absurd (Memᴰ.not-nil i)
insert_old {a} c (x ∷ cs) i = go (conflict_before c x) refl (Memᴰ.cases_cons i) (insert_old c cs)
  where
    go : (b : Bool) → conflict_before c x ≡ b → (a ≡ x) ⊎ (a ∈ cs) → (a ∈ cs → a ∈ insert_conflict c cs) → a ∈ insert_conflict c (x ∷ cs)
    go true e (inl d) ih = rw (e, insert_conflict) (Memᴰ.tail (Memᴰ.head d))
    go true e (inr j) ih = rw (e, insert_conflict) (Memᴰ.tail (Memᴰ.tail j))
    go false e (inl d) ih = rw (e, insert_conflict) (Memᴰ.head d)
    go false e (inr j) ih = rw (e, insert_conflict) (Memᴰ.tail (ih j))

insert_in : {a : Conflict} (c : Conflict) (cs : List Conflict) → a ∈ insert_conflict c cs → (a ≡ c) ⊎ (a ∈ cs)
unfolding insert_conflict
insert_in c [] i = inl (Memᴰ.eq_of_singleton i)
insert_in {a} c (x ∷ cs) i = go (conflict_before c x) refl (insert_in c cs)
  where
    behind : (a ≡ x) ⊎ ((a ≡ c) ⊎ (a ∈ cs)) → (a ≡ c) ⊎ (a ∈ (x ∷ cs))
    behind (inl d) = inr (Memᴰ.head d)
    behind (inr (inl d)) = inl d
    behind (inr (inr j)) = inr (Memᴰ.tail j)

    on_right : (a ∈ insert_conflict c cs → (a ≡ c) ⊎ (a ∈ cs)) → (a ≡ x) ⊎ (a ∈ insert_conflict c cs) → (a ≡ x) ⊎ ((a ≡ c) ⊎ (a ∈ cs))
    on_right f (inl d) = inl d
    on_right f (inr j) = inr (f j)

    go : (b : Bool) → conflict_before c x ≡ b → (a ∈ insert_conflict c cs → (a ≡ c) ⊎ (a ∈ cs)) → (a ≡ c) ⊎ (a ∈ (x ∷ cs))
    go true e ih = Memᴰ.cases_cons (rw (e, insert_conflict) at i)
    go false e ih = behind (on_right ih (Memᴰ.cases_cons (rw (e, insert_conflict) at i)))

-- by START then name
abbrev pub ByStart : Conflict → Conflict → Type 0
ByStart a b = (a.start < b.start) ⊎ ((a.start ≡ b.start) × (a.name < b.name))

before_up : (a b : Conflict) → conflict_before a b ≡ true → ByStart a b
before_up a b e = go (or_cases (ltb a.start b.start) (eqb a.start b.start && ltb a.name b.name) e)
  where
    go : (ltb a.start b.start ≡ true) ⊎ (eqb a.start b.start && ltb a.name b.name ≡ true) → ByStart a b
    go (inl h) = inl (ltb-true _ _ h)
    go (inr h) = let (p, q) = and_both (eqb a.start b.start) (ltb a.name b.name) h in inr (eqb-true _ _ p, ltb-true _ _ q)

-- where the first is not before the second and their names differ, the second is before the first
before_other : (a b : Conflict) → ¬ (a.name ≡ b.name) → conflict_before a b ≡ false → ByStart b a
before_other a b n e = go (which (eqb a.start b.start)) (or_neither (ltb a.start b.start) (eqb a.start b.start && ltb a.name b.name) e)
  where
    go : (eqb a.start b.start ≡ true) ⊎ (eqb a.start b.start ≡ false) → (ltb a.start b.start ≡ false) × ((eqb a.start b.start && ltb a.name b.name) ≡ false) → ByStart b a
    go (inr d) (h, k) = let x = eqb-false a.start b.start d in let y = ltb-false a.start b.start h in inl (omega arith)
    go (inl d) (h, k) =
        let x = eqb-true a.start b.start d in
        let l : ltb a.name b.name ≡ false = not_so (ltb a.name b.name) (λ z. clash (and_of (eqb a.start b.start) (ltb a.name b.name) d z) k) in
        let y = ltb-false a.name b.name l in
        inr (omega arith, omega arith)

by_start_trans : (a b c : Conflict) → ByStart a b → ByStart b c → ByStart a c
by_start_trans a b c (inl p) (inl q) = inl (omega arith)
by_start_trans a b c (inl p) (inr (q, q')) = inl (omega arith)
by_start_trans a b c (inr (p, p')) (inl q) = inl (omega arith)
by_start_trans a b c (inr (p, p')) (inr (q, q')) = inr (omega arith, omega arith)

insert_order : (c : Conflict) (cs : List Conflict) → ((x : Conflict) → x ∈ cs → ¬ (c.name ≡ x.name)) → InOrder ByStart cs → InOrder ByStart (insert_conflict c cs)
unfolding insert_conflict
insert_order c [] n p = (λ b i. absurd (Memᴰ.not-nil i), tt)
insert_order c (x ∷ cs) n p = go (conflict_before c x) refl (insert_order c cs (λ y i. n y (Memᴰ.tail i)) p.1)
  where
    first : ByStart c x → (b : Conflict) → (b ≡ x) ⊎ (b ∈ cs) → ByStart c b
    first h b (inl d) = subst⁻¹ (λ z. ByStart c z) d h
    first h b (inr i) = by_start_trans c x b h (p.0 b i)

    second : ByStart x c → (b : Conflict) → (b ≡ c) ⊎ (b ∈ cs) → ByStart x b
    second h b (inl d) = subst⁻¹ (λ z. ByStart x z) d h
    second h b (inr i) = p.0 b i

    go : (b : Bool) → conflict_before c x ≡ b → InOrder ByStart (insert_conflict c cs) → InOrder ByStart (insert_conflict c (x ∷ cs))
    go true e ih = rw (e, insert_conflict) (λ b i. first (before_up c x e) b (Memᴰ.cases_cons i), p)
    go false e ih = rw (e, insert_conflict) (λ b i. second (before_other c x (n x (Memᴰ.head refl)) e) b (insert_in c cs i), ih)

-- a conflict of the names outside skip, among the sites `rest`
record ConflictOf (skip : List ℕ) (all rest : List Site) (c : Conflict) : Type 0 where
  fresh : ¬ (c.name ∈ skip)
  site : Site
  listed : site ∈ rest
  named : site.name ≡ c.name
  found : first_conflict [] (sites_of c.name all) ≡ some c.start

with_in : {c : Conflict} (n : ℕ) (o : Option ℕ) (cs : List Conflict) → c ∈ with_conflict n o cs → ((c.name ≡ n) × (o ≡ some c.start)) ⊎ (c ∈ cs)
with_in n none cs i = inr i
with_in {c} n (some start) cs i = go (insert_in (record { start = start; name = n }) cs i)
  where
    go : (c ≡ record { start = start; name = n }) ⊎ (c ∈ cs) → ((c.name ≡ n) × (some start ≡ some c.start)) ⊎ (c ∈ cs)
    go (inl d) = inl (ap (λ z. z.name) d, ap (λ z. some z.start) (sym d))
    go (inr j) = inr j

with_old : {c : Conflict} (n : ℕ) (o : Option ℕ) (cs : List Conflict) → c ∈ cs → c ∈ with_conflict n o cs
with_old n none cs i = i
with_old n (some start) cs i = insert_old (record { start = start; name = n }) cs i

with_new : (n : ℕ) (o : Option ℕ) (start : ℕ) (cs : List Conflict) → o ≡ some start → (record { start = start; name = n }) ∈ with_conflict n o cs
with_new n o start cs e = subst⁻¹ (λ z. (record { start = start; name = n }) ∈ with_conflict n z cs) e (insert_new (record { start = start; name = n }) cs)

with_order : (n : ℕ) (o : Option ℕ) (cs : List Conflict) → ((x : Conflict) → x ∈ cs → ¬ (n ≡ x.name)) → InOrder ByStart cs → InOrder ByStart (with_conflict n o cs)
with_order n none cs h p = p
with_order n (some start) cs h p = insert_order (record { start = start; name = n }) cs h p

conflicts_up : {c : Conflict} (rest : List Site) (skip : List ℕ) (all : List Site) → c ∈ conflicts skip all rest → ConflictOf skip all rest c
unfolding conflicts
conflicts_up [] skip all i = absurd (Memᴰ.not-nil i)
conflicts_up {c} (s ∷ rest) skip all i = go (has_name s.name skip) refl (λ k. conflicts_up rest k all)
  where
    more : (k : List ℕ) → ((n : ℕ) → n ∈ skip → n ∈ k) → ConflictOf k all rest c → ConflictOf skip all (s ∷ rest) c
    more k h f = record { fresh = λ j. f.fresh (h c.name j); site = f.site; listed = Memᴰ.tail f.listed; named = f.named; found = f.found }

    here : has_name s.name skip ≡ false → (c ∈ conflicts (s.name ∷ skip) all rest → ConflictOf (s.name ∷ skip) all rest c)
        → ((c.name ≡ s.name) × (first_conflict [] (sites_of s.name all) ≡ some c.start)) ⊎ (c ∈ conflicts (s.name ∷ skip) all rest) → ConflictOf skip all (s ∷ rest) c
    here h ih (inl (d, f)) = record { fresh = λ j. unnamed h (Memᴰ.cast (sym d) j); site = s; listed = Memᴰ.head refl; named = sym d; found = ap (λ z. first_conflict [] (sites_of z all)) d ∙ f }
    here h ih (inr j) = more (s.name ∷ skip) (λ n k. Memᴰ.tail k) (ih j)

    go : (b : Bool) → has_name s.name skip ≡ b → ((k : List ℕ) → c ∈ conflicts k all rest → ConflictOf k all rest c) → ConflictOf skip all (s ∷ rest) c
    go true h ih = more skip (λ n j. j) (ih skip (rw (h, conflicts) at i))
    go false h ih = here h (ih (s.name ∷ skip)) (with_in s.name (first_conflict [] (sites_of s.name all)) (conflicts (s.name ∷ skip) all rest) (rw (h, conflicts) at i))

conflicts_down : (start n : ℕ) (rest : List Site) (skip : List ℕ) (all : List Site) (s : Site) → ¬ (n ∈ skip) → s ∈ rest → s.name ≡ n
    → first_conflict [] (sites_of n all) ≡ some start → (record { start = start; name = n }) ∈ conflicts skip all rest
unfolding conflicts
conflicts_down start n [] skip all s f i d e = absurd (Memᴰ.not-nil i)
conflicts_down start n (t ∷ rest) skip all s f i d e = go (has_name t.name skip) refl (which (eqb n t.name)) (Memᴰ.cases_cons i) (λ k g j. conflicts_down start n rest k all s g j d e)
  where
    c : Conflict
    c = record { start = start; name = n }

    new : ¬ (n ≡ t.name) → n ∈ (t.name ∷ skip) → ⊥
    new h (Memᴰ.head x) = h x
    new h (Memᴰ.tail j) = f j

    go : (b : Bool) → has_name t.name skip ≡ b → (eqb n t.name ≡ true) ⊎ (eqb n t.name ≡ false) → (s ≡ t) ⊎ (s ∈ rest)
        → ((k : List ℕ) → ¬ (n ∈ k) → s ∈ rest → c ∈ conflicts k all rest) → c ∈ conflicts skip all (t ∷ rest)
    go true h q (inl x) ih = absurd (f (Memᴰ.cast (sym d ∙ ap (λ z. z.name) x) (named_in t.name skip h)))
    go true h q (inr j) ih = rw (h, conflicts) (ih skip f j)
    go false h (inl q) j ih = rw (h, conflicts)
        (subst (λ z. c ∈ with_conflict z (first_conflict [] (sites_of z all)) (conflicts (z ∷ skip) all rest)) (eqb-true n t.name q)
        (with_new n (first_conflict [] (sites_of n all)) start (conflicts (n ∷ skip) all rest) e))
    go false h (inr q) (inl x) ih = absurd (eqb-false n t.name q (sym d ∙ ap (λ z. z.name) x))
    go false h (inr q) (inr j) ih = rw (h, conflicts) (with_old t.name (first_conflict [] (sites_of t.name all)) (conflicts (t.name ∷ skip) all rest) (ih (t.name ∷ skip) (new (eqb-false n t.name q)) j))

pub conflicts_order : (rest : List Site) (skip : List ℕ) (all : List Site) → InOrder ByStart (conflicts skip all rest)
unfolding conflicts
conflicts_order [] skip all = tt
conflicts_order (s ∷ rest) skip all = go (has_name s.name skip) refl (λ k. conflicts_order rest k all)
  where
    go : (b : Bool) → has_name s.name skip ≡ b → ((k : List ℕ) → InOrder ByStart (conflicts k all rest)) → InOrder ByStart (conflicts skip all (s ∷ rest))
    go true h ih = rw (h, conflicts) (ih skip)
    go false h ih = rw (h, conflicts)
        (with_order s.name (first_conflict [] (sites_of s.name all)) (conflicts (s.name ∷ skip) all rest) (λ x i d. (conflicts_up rest (s.name ∷ skip) all i).fresh (Memᴰ.head (sym d))) (ih (s.name ∷ skip)))

-- a name with a conflict has a site
conflict_site : (n : ℕ) (all : List Site) (start : ℕ) → first_conflict [] (sites_of n all) ≡ some start → (s : Site) × (s ∈ all) × (s.name ≡ n)
conflict_site n all start e = let (s, f, q) = found_up (sites_of n all) [] start e in let r = of_sites_of n all (subst⁻¹ (λ z. s ∈ z) f.parted (Memᴰ.append_right f.before (Memᴰ.head refl))) in (s, r.0, r.1)

pub conflicts_say : (skip : List ℕ) (all : List Site) (c : Conflict) → c ∈ conflicts skip all all ↔ (¬ (c.name ∈ skip) × (first_conflict [] (sites_of c.name all) ≡ some c.start))
conflicts_say skip all c = (
  λ i. let f = conflicts_up all skip all i in (f.fresh, f.found),
  λ (f, e). let (s, i, d) = conflict_site c.name all c.start e in conflicts_down c.start c.name all skip all s f i d e,
)

-- ---- coverage

covers_say : (x : Extent) (b : ℕ) → (covers x b ≡ true) ↔ Has x b
covers_say Whole b = (λ e. tt, λ h. refl)
covers_say Dynamic b = (λ e. absurd (clash e refl), λ h. absurd h)
covers_say Unknown b = (λ e. absurd (clash e refl), λ h. absurd h)
covers_say (Range l h) b = (
  λ e. let (p, q) = and_both (leb l b) (leb b h) e in (leb-true l b p, leb-true b h q),
  λ (p, q). and_of (leb l b) (leb b h) (le-leb l b p) (le-leb b h q),
)

-- some site has the bit
abbrev pub SomeHas : List Site → ℕ → Type 0
SomeHas ss b = (s : Site) × (s ∈ ss) × Has s.extent b

pub covered_says : (ss : List Site) (b : ℕ) → (covered ss b ≡ true) ↔ SomeHas ss b
unfolding covered
covered_says [] b = (λ e. absurd (clash e refl), λ h. absurd (Memᴰ.not-nil h.1))
covered_says (s ∷ ss) b = (λ e. up (or_cases (covers s.extent b) (covered ss b) e) (covered_says ss b).0, λ (t, i, h). down t h (Memᴰ.cases_cons i) (covered_says ss b).1)
  where
    up : (covers s.extent b ≡ true) ⊎ (covered ss b ≡ true) → (covered ss b ≡ true → SomeHas ss b) → SomeHas (s ∷ ss) b
    up (inl e) ih = (s, Memᴰ.head refl, (covers_say s.extent b).0 e)
    up (inr e) ih = let (t, i, h) = ih e in (t, Memᴰ.tail i, h)

    down : (t : Site) → Has t.extent b → (t ≡ s) ⊎ (t ∈ ss) → (SomeHas ss b → covered ss b ≡ true) → covers s.extent b || covered ss b ≡ true
    down t h (inl d) ih = or_left (covers s.extent b) (covered ss b) ((covers_say s.extent b).1 (subst (λ z. Has z.extent b) d h))
    down t h (inr i) ih = or_right (covers s.extent b) (covered ss b) (ih (t, i, h))

gap_up : (ss : List Site) (count b c : ℕ) → gap_from ss b count ≡ some c → (b ≤ c) × (c < b + count) × (covered ss c ≡ false) × ((e : ℕ) → b ≤ e → e < c → covered ss e ≡ true)
unfolding gap_from
gap_up ss zero b c h = let z : ◌≡◌ {A = ℕ} 0 1 = cc in absurd (omega arith)
gap_up ss (suc count) b c h = go (covered ss b) refl (gap_up ss count (suc b) c)
  where
    same : {a b : ℕ} → some a ≡ some b → a ≡ b
    same p = cc

    from : covered ss b ≡ true → ((e : ℕ) → suc b ≤ e → e < c → covered ss e ≡ true) → (e : ℕ) → b ≤ e → e < c → (eqb b e ≡ true) ⊎ (eqb b e ≡ false) → covered ss e ≡ true
    from q f e l m (inl x) = subst (λ z. covered ss z ≡ true) (eqb-true b e x) q
    from q f e l m (inr x) = let y = eqb-false b e x in f e (omega arith) m

    go : (t : Bool) → covered ss b ≡ t → (gap_from ss (suc b) count ≡ some c → (suc b ≤ c) × (c < suc b + count) × (covered ss c ≡ false) × ((e : ℕ) → suc b ≤ e → e < c → covered ss e ≡ true))
        → (b ≤ c) × (c < b + suc count) × (covered ss c ≡ false) × ((e : ℕ) → b ≤ e → e < c → covered ss e ≡ true)
    go true q ih = let (l, m, n, f) = ih (rw (q, gap_from) at h) in (omega arith, omega arith, n, λ e i j. from q f e i j (which (eqb b e)))
    go false q ih = let d : b ≡ c = same (rw (q, gap_from) at h) in (omega arith, omega arith, subst (λ z. covered ss z ≡ false) d q, λ e i j. absurd (omega arith))

gap_down : (ss : List Site) (count b c : ℕ) → b ≤ c → c < b + count → covered ss c ≡ false → ((e : ℕ) → b ≤ e → e < c → covered ss e ≡ true) → gap_from ss b count ≡ some c
unfolding gap_from
gap_down ss zero b c l m n f = absurd (omega arith)
gap_down ss (suc count) b c l m n f = go (which (eqb b c)) (λ i. gap_down ss count (suc b) c i (omega arith) n (λ e j k. f e (omega arith) k))
  where
    go : (eqb b c ≡ true) ⊎ (eqb b c ≡ false) → (suc b ≤ c → gap_from ss (suc b) count ≡ some c) → gap_from ss b (suc count) ≡ some c
    go (inl x) ih = let d = eqb-true b c x in rw (subst⁻¹ (λ z. covered ss z ≡ false) d n, gap_from) (ap some d)
    go (inr x) ih = let d = eqb-false b c x in rw (f b (omega arith) (omega arith), gap_from) (ih (omega arith))

gap_none : (ss : List Site) (count b : ℕ) → gap_from ss b count ≡ none → (e : ℕ) → b ≤ e → e < b + count → covered ss e ≡ true
unfolding gap_from
gap_none ss zero b h e l m = absurd (omega arith)
gap_none ss (suc count) b h e l m = go (covered ss b) refl (which (eqb b e)) (λ g i. gap_none ss count (suc b) g e i (omega arith))
  where
    go : (t : Bool) → covered ss b ≡ t → (eqb b e ≡ true) ⊎ (eqb b e ≡ false) → (gap_from ss (suc b) count ≡ none → suc b ≤ e → covered ss e ≡ true) → covered ss e ≡ true
    go false q x ih = let z : some b ≡ none = rw (q, gap_from) at h in let w : ◌≡◌ {A = ℕ} 0 1 = cc in absurd (omega arith)
    go true q (inl x) ih = subst (λ z. covered ss z ≡ true) (eqb-true b e x) q
    go true q (inr x) ih = let y = eqb-false b e x in ih (rw (q, gap_from) at h) (omega arith)

pub gap_says : (ss : List Site) (width b : ℕ) → (first_gap ss width ≡ some b) ↔ FirstGap ss (min width coverage_limit) b
unfolding first_gap
gap_says ss width b = (
  λ e. let (l, m, n, f) = gap_up ss (min width coverage_limit) 0 b e in record {
    among = omega arith;
    uncovered = λ s i h. clash ((covered_says ss b).1 (s, i, h)) n;
    first = λ c q. (covered_says ss c).0 (f c (omega arith) q);
  },
  λ g. gap_down ss (min width coverage_limit) 0 b (omega arith) (let x = g.among in omega arith)
      (not_so (covered ss b) (λ h. let (s, i, x) = (covered_says ss b).0 h in g.uncovered s i x)) (λ c i q. (covered_says ss c).1 (g.first c q)),
)

pub no_gap : (ss : List Site) (width : ℕ) → first_gap ss width ≡ none → (b : ℕ) → b < min width coverage_limit → SomeHas ss b
unfolding first_gap
no_gap ss width e b h = (covered_says ss b).0 (gap_none ss (min width coverage_limit) 0 e b (omega arith) (omega arith))

range_test : (s : Site) (ss : List Site) → (x : Extent) → s.extent ≡ x → (only_ranges (s ∷ ss) ≡ true) ↔ (IsRange x × (only_ranges ss ≡ true))
unfolding only_ranges
range_test s ss Whole e = rw (e, only_ranges) (λ h. absurd (clash h refl), λ h. absurd h.0)
range_test s ss Dynamic e = rw (e, only_ranges) (λ h. absurd (clash h refl), λ h. absurd h.0)
range_test s ss Unknown e = rw (e, only_ranges) (λ h. absurd (clash h refl), λ h. absurd h.0)
range_test s ss (Range l u) e = rw (e, only_ranges) (λ h. (tt, h), λ h. h.1)

pub ranges_say : (ss : List Site) → (only_ranges ss ≡ true) ↔ AllRanges ss
unfolding only_ranges
ranges_say [] = (λ e s i. absurd (Memᴰ.not-nil i), λ h. refl)
ranges_say (s ∷ ss) = (
  λ e t i. let r = (range_test s ss s.extent refl).0 e in up r.0 ((ranges_say ss).0 r.1) t (Memᴰ.cases_cons i),
  λ h. (range_test s ss s.extent refl).1 (h s (Memᴰ.head refl), (ranges_say ss).1 (λ t i. h t (Memᴰ.tail i))),
)
  where
    up : IsRange s.extent → AllRanges ss → (t : Site) → (t ≡ s) ⊎ (t ∈ ss) → IsRange t.extent
    up r f t (inl d) = subst⁻¹ (λ z. IsRange z.extent) d r
    up r f t (inr i) = f t i

-- when coverage says `gap`
abbrev pub Gap : Names → List Site → Width → ℕ → Type 0
Gap names ss w b = ¬ (ss ≡ []) × AllRanges ss × ((width : ℕ) × (width_value names w ≡ known (pos width)) × FirstGap ss (min width coverage_limit) b)

cons_not : {A : Type 0} {a : A} {l : List A} → a ∷ l ≡ [] → ⊥
cons_not e = let z : ◌≡◌ {A = ℕ} 0 1 = cc in omega arith

pub never_says : (names : Names) (ss : List Site) (w : Width) → (coverage names ss w ≡ never) ↔ (ss ≡ [])
unfolding coverage
never_says names [] w = (λ e. refl, λ e. refl)
never_says names (s ∷ ss) w = (λ e. absurd (go (deciding_width names (s ∷ ss) w) e), λ e. absurd (cons_not e))
  where
    gap_not : (o : Option ℕ) → gap_coverage o ≡ never → ⊥
    gap_not none e = let z : ◌≡◌ {A = ℕ} 0 1 = cc in omega arith
    gap_not (some b) e = let z : ◌≡◌ {A = ℕ} 0 1 = cc in omega arith

    go : (v : Value) → width_coverage (s ∷ ss) v ≡ never → ⊥
    go (known (pos n)) e = gap_not (first_gap (s ∷ ss) n) e
    go (known (negsuc n)) e = let z : ◌≡◌ {A = ℕ} 0 1 = cc in omega arith
    go missing e = let z : ◌≡◌ {A = ℕ} 0 1 = cc in omega arith
    go outside e = let z : ◌≡◌ {A = ℕ} 0 1 = cc in omega arith

pub gap_covers : (names : Names) (ss : List Site) (w : Width) (b : ℕ) → (coverage names ss w ≡ gap b) ↔ Gap names ss w b
unfolding coverage deciding_width
gap_covers names [] w b = (λ e. let z : ◌≡◌ {A = ℕ} 0 1 = cc in absurd (omega arith), λ h. absurd (h.0 refl))
gap_covers names (s ∷ ss) w b = (λ e. ranges (only_ranges (s ∷ ss)) refl e, down)
  where
    gap_is : (o : Option ℕ) → gap_coverage o ≡ gap b → o ≡ some b
    gap_is none e = let z : ◌≡◌ {A = ℕ} 0 1 = cc in absurd (omega arith)
    gap_is (some c) e = same e
      where
        same : {a b : ℕ} → gap a ≡ gap b → some a ≡ some b
        same p = cc

    value_is : (v : Value) → width_coverage (s ∷ ss) v ≡ gap b → (width : ℕ) × (v ≡ known (pos width)) × (first_gap (s ∷ ss) width ≡ some b)
    value_is (known (pos n)) e = (n, refl, gap_is (first_gap (s ∷ ss) n) e)
    value_is (known (negsuc n)) e = let z : ◌≡◌ {A = ℕ} 0 1 = cc in absurd (omega arith)
    value_is missing e = let z : ◌≡◌ {A = ℕ} 0 1 = cc in absurd (omega arith)
    value_is outside e = let z : ◌≡◌ {A = ℕ} 0 1 = cc in absurd (omega arith)

    ranges : (t : Bool) → only_ranges (s ∷ ss) ≡ t → coverage names (s ∷ ss) w ≡ gap b → Gap names (s ∷ ss) w b
    ranges true h e =
        let (width, v, f) = value_is (width_value names w) (rw (h, deciding_width) at e) in
        ((λ x. cons_not x), (ranges_say (s ∷ ss)).0 h, (width, v, (gap_says (s ∷ ss) width b).0 f))
    ranges false h e = let (width, v, f) = value_is missing (rw (h, deciding_width) at e) in let z : ◌≡◌ {A = ℕ} 0 1 = cc in absurd (omega arith)

    down : Gap names (s ∷ ss) w b → coverage names (s ∷ ss) w ≡ gap b
    down (n, r, (width, v, f)) =
        let q : deciding_width names (s ∷ ss) w ≡ known (pos width) = rw ((ranges_say (s ∷ ss)).1 r, deciding_width) v in
        subst⁻¹ (λ z. width_coverage (s ∷ ss) z ≡ gap b) q (ap gap_coverage ((gap_says (s ∷ ss) width b).1 f))

-- when a width that decides coverage is outside INT
pub deciding_says : (names : Names) (ss : List Site) (w : Width) → (deciding_width names ss w ≡ outside) ↔ (¬ (ss ≡ []) × AllRanges ss × (width_value names w ≡ outside))
unfolding deciding_width
deciding_says names [] w = (λ e. let z : ◌≡◌ {A = ℕ} 0 1 = cc in absurd (omega arith), λ h. absurd (h.0 refl))
deciding_says names (s ∷ ss) w = (λ e. go (only_ranges (s ∷ ss)) refl e, λ (n, r, v). rw ((ranges_say (s ∷ ss)).1 r, deciding_width) v)
  where
    go : (t : Bool) → only_ranges (s ∷ ss) ≡ t → deciding_width names (s ∷ ss) w ≡ outside → ¬ (s ∷ ss ≡ []) × AllRanges (s ∷ ss) × (width_value names w ≡ outside)
    go true h e = ((λ x. cons_not x), (ranges_say (s ∷ ss)).0 h, rw (h, deciding_width) at e)
    go false h e = let x : missing ≡ outside = rw (h, deciding_width) at e in let z : ◌≡◌ {A = ℕ} 0 1 = cc in absurd (omega arith)

-- ---- blocks

-- the blocks of one name
blocks_of : ℕ → List Pair → List ℕ
blocks_of n [] = []
blocks_of n (p ∷ ps) = elim (eqb n p.name) [ true ↦ p.block ∷ blocks_of n ps | false ↦ blocks_of n ps ]

count_blocks : (n : ℕ) (ps : List Pair) → block_count n ps ≡ length (blocks_of n ps)
unfolding block_count blocks_of
count_blocks n [] = refl
count_blocks n (p ∷ ps) = go (eqb n p.name) refl (count_blocks n ps)
  where
    go : (b : Bool) → eqb n p.name ≡ b → block_count n ps ≡ length (blocks_of n ps) → block_count n (p ∷ ps) ≡ length (blocks_of n (p ∷ ps))
    go true e ih = rw (e, block_count, blocks_of) (ap suc ih)
    go false e ih = rw (e, block_count, blocks_of) ih

of_blocks : (n b : ℕ) (ps : List Pair) → b ∈ blocks_of n ps → (record { name = n; block = b }) ∈ ps
unfolding blocks_of
of_blocks n b [] i = absurd (Memᴰ.not-nil i)
of_blocks n b (p ∷ ps) i = go (eqb n p.name) refl (of_blocks n b ps)
  where
    Named : Pair
    Named = record { name = n; block = b }

    head : eqb n p.name ≡ true → (b ∈ blocks_of n ps → Named ∈ ps) → (b ≡ p.block) ⊎ (b ∈ blocks_of n ps) → Named ∈ (p ∷ ps)
    head e ih (inl d) = Memᴰ.head (λ j. record { name = eqb-true n p.name e j; block = d j })
    head e ih (inr j) = Memᴰ.tail (ih j)

    go : (t : Bool) → eqb n p.name ≡ t → (b ∈ blocks_of n ps → Named ∈ ps) → Named ∈ (p ∷ ps)
    go true e ih = head e ih (Memᴰ.cases_cons (rw (e, blocks_of) at i))
    go false e ih = Memᴰ.tail (ih (rw (e, blocks_of) at i))

in_blocks : (n b : ℕ) (ps : List Pair) → (record { name = n; block = b }) ∈ ps → b ∈ blocks_of n ps
unfolding blocks_of
in_blocks n b [] i = absurd (Memᴰ.not-nil i)
in_blocks n b (p ∷ ps) i = go (eqb n p.name) refl (Memᴰ.cases_cons i) (in_blocks n b ps)
  where
    Named : Pair
    Named = record { name = n; block = b }

    go : (t : Bool) → eqb n p.name ≡ t → (Named ≡ p) ⊎ (Named ∈ ps) → (Named ∈ ps → b ∈ blocks_of n ps) → b ∈ blocks_of n (p ∷ ps)
    go true e (inl d) ih = rw (e, blocks_of) (Memᴰ.head (ap (λ z. z.block) d))
    go true e (inr j) ih = rw (e, blocks_of) (Memᴰ.tail (ih j))
    go false e (inl d) ih = absurd (eqb-false n p.name e (ap (λ z. z.name) d))
    go false e (inr j) ih = rw (e, blocks_of) (ih j)

has_pair_in : (p : Pair) (ps : List Pair) → has_pair p ps ≡ true → p ∈ ps
unfolding has_pair
has_pair_in p [] e = absurd (clash e refl)
has_pair_in p (q ∷ ps) e = go (or_cases (eqb p.name q.name && eqb p.block q.block) (has_pair p ps) e) (has_pair_in p ps)
  where
    go : (eqb p.name q.name && eqb p.block q.block ≡ true) ⊎ (has_pair p ps ≡ true) → (has_pair p ps ≡ true → p ∈ ps) → p ∈ (q ∷ ps)
    go (inl h) ih = let (a, b) = and_both (eqb p.name q.name) (eqb p.block q.block) h in Memᴰ.head (λ j. record { name = eqb-true p.name q.name a j; block = eqb-true p.block q.block b j })
    go (inr h) ih = Memᴰ.tail (ih h)

pub in_has_pair : {p : Pair} {ps : List Pair} → p ∈ ps → has_pair p ps ≡ true
unfolding has_pair
in_has_pair {p} (Memᴰ.head {x = q} {xs = ps} d) = or_left (eqb p.name q.name && eqb p.block q.block) (has_pair p ps) (and_of (eqb p.name q.name) (eqb p.block q.block) (eq-eqb p.name q.name (ap (λ z. z.name) d)) (eq-eqb p.block q.block (ap (λ z. z.block) d)))
in_has_pair {p} (Memᴰ.tail {x = q} {xs = ps} i) = or_right (eqb p.name q.name && eqb p.block q.block) (has_pair p ps) (in_has_pair i)

pub of_different : {p : Pair} (ps : List Pair) → p ∈ different_pairs ps → p ∈ ps
unfolding different_pairs
of_different [] i = i
of_different {p} (q ∷ ps) i = go (has_pair q ps) refl (of_different ps)
  where
    split : (p ∈ different_pairs ps → p ∈ ps) → (p ≡ q) ⊎ (p ∈ different_pairs ps) → p ∈ (q ∷ ps)
    split ih (inl d) = Memᴰ.head d
    split ih (inr j) = Memᴰ.tail (ih j)

    go : (b : Bool) → has_pair q ps ≡ b → (p ∈ different_pairs ps → p ∈ ps) → p ∈ (q ∷ ps)
    go true e ih = Memᴰ.tail (ih (rw (e, different_pairs) at i))
    go false e ih = split ih (Memᴰ.cases_cons (rw (e, different_pairs) at i))

pub in_different : {p : Pair} (ps : List Pair) → p ∈ ps → p ∈ different_pairs ps
unfolding different_pairs
in_different [] i = i
in_different {p} (q ∷ ps) i = go (has_pair q ps) refl (Memᴰ.cases_cons i) (in_different ps)
  where
    go : (b : Bool) → has_pair q ps ≡ b → (p ≡ q) ⊎ (p ∈ ps) → (p ∈ ps → p ∈ different_pairs ps) → p ∈ different_pairs (q ∷ ps)
    go true e (inl d) ih = rw (e, different_pairs) (ih (Memᴰ.cast d (has_pair_in q ps e)))
    go true e (inr j) ih = rw (e, different_pairs) (ih j)
    go false e (inl d) ih = rw (e, different_pairs) (Memᴰ.head d)
    go false e (inr j) ih = rw (e, different_pairs) (Memᴰ.tail (ih j))

different_once : (n : ℕ) (ps : List Pair) → Once (blocks_of n (different_pairs ps))
unfolding different_pairs blocks_of
different_once n [] = tt
different_once n (q ∷ ps) = go (has_pair q ps) refl (eqb n q.name) refl (different_once n ps)
  where
    go : (b : Bool) → has_pair q ps ≡ b → (t : Bool) → eqb n q.name ≡ t → Once (blocks_of n (different_pairs ps)) → Once (blocks_of n (different_pairs (q ∷ ps)))
    go true e t f ih = rw (e, different_pairs) ih
    go false e true f ih = rw (e, different_pairs, f, blocks_of)
        (λ i. clash (in_has_pair (Memᴰ.cast (λ j. record { name = sym (eqb-true n q.name f) j; block = q.block }) (of_different ps (of_blocks n q.block (different_pairs ps) i)))) e, ih)
    go false e false f ih = rw (e, different_pairs, f, blocks_of) ih

-- no block, one, several
abbrev pub NoBlock : ℕ → List Pair → Type 0
NoBlock n ps = (b : ℕ) → ¬ ((record { name = n; block = b }) ∈ ps)

abbrev pub SeveralBlocks : ℕ → List Pair → Type 0
SeveralBlocks n ps = (a b : ℕ) × ((record { name = n; block = a }) ∈ ps) × ((record { name = n; block = b }) ∈ ps) × ¬ (a ≡ b)

pub none_says : (n : ℕ) (ps : List Pair) → (block_count n (different_pairs ps) ≡ 0) ↔ NoBlock n ps
none_says n ps = (
  λ e b i. empty (blocks_of n (different_pairs ps)) (sym (count_blocks n (different_pairs ps)) ∙ e) (in_blocks n b (different_pairs ps) (in_different ps i)),
  λ h. count_blocks n (different_pairs ps) ∙ zero_length (blocks_of n (different_pairs ps)) (λ b i. h b (of_different ps (of_blocks n b (different_pairs ps) i))),
)
  where
    empty : {b : ℕ} (l : List ℕ) → length l ≡ 0 → b ∈ l → ⊥
    empty [] e i = Memᴰ.not-nil i
    empty (a ∷ l) e i = omega arith

    zero_length : (l : List ℕ) → ((b : ℕ) → b ∈ l → ⊥) → length l ≡ 0
    zero_length [] h = refl
    zero_length (a ∷ l) h = absurd (h a (Memᴰ.head refl))

pub several_says : (n : ℕ) (ps : List Pair) → (1 < block_count n (different_pairs ps)) ↔ SeveralBlocks n ps
several_says n ps = (λ h. up (blocks_of n (different_pairs ps)) refl (different_once n ps) (subst (λ z. 1 < z) (count_blocks n (different_pairs ps)) h), down)
  where
    found : (b : ℕ) (l : List ℕ) → blocks_of n (different_pairs ps) ≡ l → b ∈ l → (record { name = n; block = b }) ∈ ps
    found b l e i = of_different ps (of_blocks n b (different_pairs ps) (subst⁻¹ (λ z. b ∈ z) e i))

    up : (l : List ℕ) → blocks_of n (different_pairs ps) ≡ l → Once l → 1 < length l → SeveralBlocks n ps
    up [] e o h = absurd (omega arith)
    up (a ∷ []) e o h = absurd (omega arith)
    up (a ∷ b ∷ l) e o h = (a, b, found a (a ∷ b ∷ l) e (Memᴰ.head refl), found b (a ∷ b ∷ l) e (Memᴰ.tail (Memᴰ.head refl)), λ d. o.0 (Memᴰ.head d))

    down : SeveralBlocks n ps → 1 < block_count n (different_pairs ps)
    down (a, b, i, j, d) = subst⁻¹ (λ z. 1 < z) (count_blocks n (different_pairs ps)) (once_length (a ∷ b ∷ []) (blocks_of n (different_pairs ps)) (single, (λ x. Memᴰ.not-nil x, tt)) inside)
      where
        single : ¬ (a ∈ (b ∷ []))
        single x = d (Memᴰ.eq_of_singleton x)

        inside : (x : ℕ) → x ∈ (a ∷ b ∷ []) → x ∈ blocks_of n (different_pairs ps)
        inside x (Memᴰ.head e) = in_blocks n x (different_pairs ps) (in_different ps (Memᴰ.cast (λ k. record { name = n; block = e k }) i))
        inside x (Memᴰ.tail (Memᴰ.head e)) = in_blocks n x (different_pairs ps) (in_different ps (Memᴰ.cast (λ k. record { name = n; block = e k }) j))
        inside x (Memᴰ.tail (Memᴰ.tail y)) = absurd (Memᴰ.not-nil y)
