-- The proof of the theorem about reading (specs/Reading.antt).
-- Assumes nothing.
use mathlib.Core.Path.{◌≡◌, refl, sym, ap, ap₂, ◌∙◌, subst}
use mathlib.Core.Bool.{Bool, true, false, ◌&&◌, not as opposite, true≢false, and-eq-true_iff}
use mathlib.Core.Logic.{◌⊎◌, inl, inr}
use mathlib.Core.List.{List, [], ◌∷◌, ◌++◌}
use Prim.Native.Nat.{ℕ, suc, ◌+◌, ◌-◌, ◌≤◌, ◌<◌}
use native.Mathlib.Omega.{arith}
use lib.ListN.{length}
use lib.Dec.{eqb, ltb, leb}
use borrow.Author.Tests.{ltb-true, ltb-false, leb-true, eqb-true, not-true, lt-ltb, le-ltb, le-leb, eq-eqb, ne_eqb}
use Rattle.spec.specs.Bytes.{Bytes, same_bytes, onto}
use Rattle.spec.specs.Syntax.{Items, Header, Design, Line, module_line, header_line, item_line}
use Rattle.spec.specs.Show.{show_line, header_lines, item_lines, design_lines, show_lines, show_design}
use Rattle.spec.specs.Decode.{depth_limit, decode_line}
use Rattle.spec.specs.Refusal.{text_limit, lines, in_set, well_formed, refused, byte_fault, ends_in_feed, set_fault, one_form, written, line_in_range, Before, at_start, after_line, in_place, first_kind, tree_fault, line_fault, lines_fault, refusal, decode_lines, gather, decode, line_depth, lines_in_range, in_range}
use Rattle.spec.specs.Reading.{AllInSet, feeds, Fault, not_one_form, badly_written, out_of_range, out_of_place, one_too_many, LowestFault, after_lines, Faultless, Refused, too_long, bad_byte, no_feed, bad_line, Reading}
use Rattle.spec.proofs.Parts.{AllIn}
use Rattle.spec.proofs.Shown.{decode_show_line, show_line_form, show_line_set}

-- ---- tests

clash : {b : Bool} → b ≡ true → b ≡ false → ⊥
clash t f = true≢false (sym t ∙ f)

not_false : (b : Bool) → (b ≡ false → ⊥) → b ≡ true
not_false true h = refl
not_false false h = absurd (h refl)

both : (a b : Bool) → a && b ≡ true → (a ≡ true) × (b ≡ true)
both a b e = (and-eq-true_iff a b).0 e

refused_not : {k n : ℕ} → well_formed ≡ refused k n → ⊥
refused_not e = let z : ◌≡◌ {A = ℕ} 0 1 = cc in omega arith

-- ---- bytes

same_refl : (s : Bytes) → same_bytes s s ≡ true
unfolding same_bytes
same_refl [] = refl
same_refl (c ∷ s) = rw (eq-eqb c c refl, same_bytes) (same_refl s)

same_eq : (s t : Bytes) → same_bytes s t ≡ true → s ≡ t
unfolding same_bytes
same_eq [] [] e = refl
same_eq [] (d ∷ t) e = absurd (clash e refl)
same_eq (c ∷ s) [] e = absurd (clash e refl)
same_eq (c ∷ s) (d ∷ t) e = go (eqb c d) refl (λ h. same_eq s t h) e
  where
    go : (b : Bool) → eqb c d ≡ b → (same_bytes s t ≡ true → s ≡ t) → (elim b as (λ _. Bool) [ true ↦ same_bytes s t | false ↦ false ]) ≡ true → c ∷ s ≡ d ∷ t
    go true q f h = ap₂ ◌∷◌ (eqb-true c d q) (f h)
    go false q f h = absurd (clash h refl)

-- a written line is the one that shows its tree
written_eq : (s : Bytes) → written s ≡ true → show_line (decode_line s) ≡ s
unfolding written
written_eq s e = sym (same_eq s _ e)

-- ---- the faults of a line

-- a tree with none of the faults 5 to 7
pub record Sound (b : Before) (l : Line) : Type 0 where
  pub range : line_in_range l ≡ true
  place : in_place b l ≡ true
  first : first_kind b l ≡ true

pub sound_of : (b : Before) (l : Line) → tree_fault b l ≡ 0 → Sound b l
unfolding tree_fault
sound_of b l e = go _ refl _ refl _ refl
  where
    go : (r : Bool) → line_in_range l ≡ r → (p : Bool) → in_place b l ≡ p → (f : Bool) → first_kind b l ≡ f → Sound b l
    go false r p ep f ef = let z : ◌≡◌ {A = ℕ} 5 0 = rw (r, tree_fault) at e in absurd (omega arith)
    go true r false p f ef = let z : ◌≡◌ {A = ℕ} 6 0 = rw (r, p, tree_fault) at e in absurd (omega arith)
    go true r true p false f = let z : ◌≡◌ {A = ℕ} 7 0 = rw (r, p, f, tree_fault) at e in absurd (omega arith)
    go true r true p true f = record { range = r; place = p; first = f }

sound_fault : (b : Before) (l : Line) → Sound b l → tree_fault b l ≡ 0
unfolding tree_fault
sound_fault b l h = rw (h.range, h.place, h.first, tree_fault)

module _ (b : Before) (s : Bytes) where
  below :
      (k : ℕ) → k ≤ 7 → (3 < k → one_form s ≡ true) → (4 < k → written s ≡ true) → (5 < k → line_in_range (decode_line s) ≡ true)
      → (6 < k → in_place b (decode_line s) ≡ true) → (j : ℕ) → j < k → Fault b s j → ⊥
  below k m o w r p j h (not_one_form e) = clash (o h) e
  below k m o w r p j h (badly_written e) = clash (w h) e
  below k m o w r p j h (out_of_range v e) = clash (r h) e
  below k m o w r p j h (out_of_place v e) = clash (p h) e
  below k m o w r p j h (one_too_many v e) = omega arith

  line_clean : ((k : ℕ) → Fault b s k → ⊥) → (one_form s ≡ true) × (written s ≡ true) × Sound b (decode_line s)
  line_clean h =
      let w : written s ≡ true = not_false _ (λ e. h 4 (badly_written e)) in (
        not_false _ (λ e. h 3 (not_one_form e)),
        w,
        record {
          range = not_false _ (λ e. h 5 (out_of_range w e));
          place = not_false _ (λ e. h 6 (out_of_place w e));
          first = not_false _ (λ e. h 7 (one_too_many w e));
        },
      )

  line_good : ((k : ℕ) → Fault b s k → ⊥) → line_fault b s ≡ 0
  unfolding line_fault
  line_good h = let c = line_clean h in rw (c.0, c.1, line_fault) (sound_fault b (decode_line s) c.2)

  -- a line's lowest fault is the one that is named
  module _ (k : ℕ) (h : (j : ℕ) → j < k → Fault b s j → ⊥) where
    form_of : 3 < k → one_form s ≡ true
    form_of l = not_false _ (λ e. h 3 l (not_one_form e))

    range_of : 5 < k → written s ≡ true → line_in_range (decode_line s) ≡ true
    range_of l w = not_false _ (λ e. h 5 l (out_of_range w e))

    place_of : 6 < k → written s ≡ true → in_place b (decode_line s) ≡ true
    place_of l w = not_false _ (λ e. h 6 l (out_of_place w e))

  line_bad : (k : ℕ) → Fault b s k → ((j : ℕ) → j < k → Fault b s j → ⊥) → (k ≡ suc (k - 1)) × (line_fault b s ≡ k)
  unfolding line_fault tree_fault
  line_bad k (not_one_form e) h = (refl, rw (e, line_fault))
  line_bad k (badly_written e) h = (refl, rw (form_of k h (omega arith), e, line_fault))
  line_bad k (out_of_range w e) h = (refl, rw (form_of k h (omega arith), w, e, line_fault, tree_fault))
  line_bad k (out_of_place w e) h = (refl, rw (form_of k h (omega arith), w, range_of k h (omega arith) w, e, line_fault, tree_fault))
  line_bad k (one_too_many w e) h =
      (refl, rw (form_of k h (omega arith), w, range_of k h (omega arith) w, place_of k h (omega arith) w, e, line_fault, tree_fault))

  -- a line has no fault, or one is the lowest
  line_cases : ((k : ℕ) → Fault b s k → ⊥) ⊎ ((k : ℕ) × LowestFault b s k)
  line_cases = go _ refl _ refl _ refl _ refl _ refl
    where
      go :
          (o : Bool) → one_form s ≡ o → (w : Bool) → written s ≡ w → (r : Bool) → line_in_range (decode_line s) ≡ r
          → (p : Bool) → in_place b (decode_line s) ≡ p → (f : Bool) → first_kind b (decode_line s) ≡ f
          → ((k : ℕ) → Fault b s k → ⊥) ⊎ ((k : ℕ) × LowestFault b s k)
      go false o w ew r er p ep f ef =
          inr (3, record { fault = not_one_form o; lowest = below 3 (omega arith) (λ h. absurd (omega arith)) (λ h. absurd (omega arith)) (λ h. absurd (omega arith)) (λ h. absurd (omega arith)) })
      go true o false w r er p ep f ef =
          inr (4, record { fault = badly_written w; lowest = below 4 (omega arith) (λ h. o) (λ h. absurd (omega arith)) (λ h. absurd (omega arith)) (λ h. absurd (omega arith)) })
      go true o true w false r p ep f ef =
          inr (5, record { fault = out_of_range w r; lowest = below 5 (omega arith) (λ h. o) (λ h. w) (λ h. absurd (omega arith)) (λ h. absurd (omega arith)) })
      go true o true w true r false p f ef =
          inr (6, record { fault = out_of_place w p; lowest = below 6 (omega arith) (λ h. o) (λ h. w) (λ h. r) (λ h. absurd (omega arith)) })
      go true o true w true r true p false f =
          inr (7, record { fault = one_too_many w f; lowest = below 7 (omega arith) (λ h. o) (λ h. w) (λ h. r) (λ h. p) })
      go true o true w true r true p true f = inl none
        where
          none : (k : ℕ) → Fault b s k → ⊥
          none k (not_one_form e) = clash o e
          none k (badly_written e) = clash w e
          none k (out_of_range v e) = clash r e
          none k (out_of_place v e) = clash p e
          none k (one_too_many v e) = clash f e

-- ---- line by line

lines_good : (l : List Bytes) (b : Before) (n : ℕ) → Faultless b l → lines_fault b n l ≡ well_formed
unfolding lines_fault
lines_good [] b n h = refl
lines_good (s ∷ l) b n h = rw (line_good b s h.0, lines_fault) (lines_good l (after_line b (decode_line s)) (suc n) h.1)

lines_bad :
    (before : List Bytes) (s : Bytes) (after : List Bytes) (b : Before) (n k : ℕ) → Faultless b before → LowestFault (after_lines b before) s k
    → lines_fault b n (before ++ s ∷ after) ≡ refused k (n + length before)
unfolding lines_fault after_lines
lines_bad [] s after b n k h f =
    let e = line_bad b s k f.fault f.lowest in
    rw (e.1 ∙ e.0, lines_fault) (ap₂ refused (sym e.0) (omega arith))
lines_bad (t ∷ before) s after b n k h f =
    rw (line_good b t h.0, lines_fault)
    (lines_bad before s after (after_line b (decode_line t)) (suc n) k h.1 f ∙ ap (refused k) (omega arith))

-- the first line with a fault
record First (b : Before) (l : List Bytes) : Type 0 where
  before : List Bytes
  line : Bytes
  after : List Bytes
  number : ℕ
  parted : l ≡ before ++ line ∷ after
  clean : Faultless b before
  fault : LowestFault (after_lines b before) line number

lines_cases : (l : List Bytes) (b : Before) → Faultless b l ⊎ First b l
unfolding after_lines
lines_cases [] b = inl tt
lines_cases (s ∷ l) b = go (line_cases b s) (lines_cases l (after_line b (decode_line s)))
  where
    go : ((k : ℕ) → Fault b s k → ⊥) ⊎ ((k : ℕ) × LowestFault b s k) → Faultless (after_line b (decode_line s)) l ⊎ First (after_line b (decode_line s)) l → Faultless b (s ∷ l) ⊎ First b (s ∷ l)
    go (inl h) (inl g) = inl (h, g)
    go (inl h) (inr f) = inr (record { before = s ∷ f.before; line = f.line; after = f.after; number = f.number; parted = ap (◌∷◌ s) f.parted; clean = (h, f.clean); fault = f.fault })
    go (inr (k, f)) g = inr (record { before = []; line = s; after = l; number = k; parted = refl; clean = tt; fault = f })

-- ---- bytes outside the set, and the final line feed

bytes_good : (s : Bytes) (n : ℕ) → AllInSet s → byte_fault n s ≡ well_formed
unfolding byte_fault
bytes_good [] n h = refl
bytes_good (c ∷ s) n h = rw (h.0, byte_fault) (bytes_good s _ h.1)

feed_step : (b : Bool) (n k : ℕ) → (elim b as (λ _. ℕ) [ true ↦ suc n | false ↦ n ]) + k ≡ n + (elim b as (λ _. ℕ) [ true ↦ suc k | false ↦ k ])
feed_step true n k = omega arith
feed_step false n k = refl

bytes_bad : (x : Bytes) (c : ℕ) (y : Bytes) (n : ℕ) → AllInSet x → in_set c ≡ false → byte_fault n (x ++ c ∷ y) ≡ refused 2 (n + feeds x)
unfolding byte_fault feeds
bytes_bad [] c y n h e = rw (e, byte_fault) (ap (refused 2) (omega arith))
bytes_bad (d ∷ x) c y n h e = rw (h.0, byte_fault) (bytes_bad x c y _ h.1 e ∙ ap (refused 2) (feed_step (eqb d 10) n (feeds x)))

-- the first byte outside the set
record Outside (s : Bytes) : Type 0 where
  before : Bytes
  byte : ℕ
  after : Bytes
  parted : s ≡ before ++ byte ∷ after
  clean : AllInSet before
  outside : in_set byte ≡ false

bytes_cases : (s : Bytes) → AllInSet s ⊎ Outside s
bytes_cases [] = inl tt
bytes_cases (c ∷ s) = go (in_set c) refl (bytes_cases s)
  where
    go : (b : Bool) → in_set c ≡ b → AllInSet s ⊎ Outside s → AllInSet (c ∷ s) ⊎ Outside (c ∷ s)
    go true e (inl h) = inl (e, h)
    go true e (inr o) = inr (record { before = c ∷ o.before; byte = o.byte; after = o.after; parted = ap (◌∷◌ c) o.parted; clean = (e, o.clean); outside = o.outside })
    go false e g = inr (record { before = []; byte = c; after = s; parted = refl; clean = tt; outside = e })

-- ---- whole texts

-- a text with no fault
record Clean (text : Bytes) : Type 0 where
  short : length text ≤ text_limit
  all_in_set : AllInSet text
  ends : ends_in_feed text ≡ true
  faultless : Faultless at_start (lines text)

accepts : (text : Bytes) → Clean text → refusal text ≡ well_formed
unfolding refusal set_fault
accepts text h =
    rw (le-ltb text_limit (length text) h.short, bytes_good text 1 h.all_in_set, h.ends, refusal, set_fault)
    (lines_good (lines text) at_start _ h.faultless)

refuses_with : (text : Bytes) (k n : ℕ) → Refused text k n → refusal text ≡ refused k n
unfolding refusal set_fault
refuses_with text k n (too_long h) = rw (lt-ltb text_limit (length text) h, refusal)
refuses_with text k n (bad_byte x c y h p a e) =
    rw (le-ltb text_limit (length text) h, ap (byte_fault 1) p ∙ bytes_bad x c y 1 a e, refusal, set_fault) (ap (refused 2) (omega arith))
refuses_with text k n (no_feed h a e) =
    rw (le-ltb text_limit (length text) h, bytes_good text 1 a, e, refusal, set_fault)
refuses_with text k n (bad_line before s after k' h a e p c f) =
    rw (le-ltb text_limit (length text) h, bytes_good text 1 a, e, refusal, set_fault)
    (ap (lines_fault at_start _) p ∙ lines_bad before s after at_start _ k c f ∙ ap (refused k) (omega arith))

-- a text has no fault, or is refused
text_cases : (text : Bytes) → Clean text ⊎ ((k : ℕ) × (n : ℕ) × Refused text k n)
text_cases text = long (ltb text_limit (length text)) refl
  where
    by_line : length text ≤ text_limit → AllInSet text → ends_in_feed text ≡ true → Faultless at_start (lines text) ⊎ First at_start (lines text) → Clean text ⊎ ((k : ℕ) × (n : ℕ) × Refused text k n)
    by_line h a e (inl c) = inl (record { short = h; all_in_set = a; ends = e; faultless = c })
    by_line h a e (inr f) = inr (_, _, bad_line f.before f.line f.after f.number h a e f.parted f.clean f.fault)

    by_end : length text ≤ text_limit → AllInSet text → (b : Bool) → ends_in_feed text ≡ b → Clean text ⊎ ((k : ℕ) × (n : ℕ) × Refused text k n)
    by_end h a true e = by_line h a e (lines_cases (lines text) at_start)
    by_end h a false e = inr (_, _, no_feed h a e)

    by_byte : length text ≤ text_limit → AllInSet text ⊎ Outside text → Clean text ⊎ ((k : ℕ) × (n : ℕ) × Refused text k n)
    by_byte h (inl a) = by_end h a _ refl
    by_byte h (inr o) = inr (_, _, bad_byte o.before o.byte o.after h o.parted o.clean o.outside)

    long : (b : Bool) → ltb text_limit (length text) ≡ b → Clean text ⊎ ((k : ℕ) × (n : ℕ) × Refused text k n)
    long true e = inr (_, _, too_long (ltb-true _ _ e))
    long false e = by_byte (ltb-false _ _ e) (bytes_cases text)

clean_of : (text : Bytes) → refusal text ≡ well_formed → Clean text
clean_of text e = go (text_cases text)
  where
    go : Clean text ⊎ ((k : ℕ) × (n : ℕ) × Refused text k n) → Clean text
    go (inl c) = c
    go (inr (k, n, r)) = absurd (refused_not (sym e ∙ refuses_with text k n r))

refused_of : (text : Bytes) (k n : ℕ) → refusal text ≡ refused k n → Refused text k n
refused_of text k n e = go (text_cases text)
  where
    go : Clean text ⊎ ((k : ℕ) × (n : ℕ) × Refused text k n) → Refused text k n
    go (inl c) = absurd (refused_not (sym (accepts text c) ∙ e))
    go (inr (j, m, r)) =
        let g : refused j m ≡ refused k n = sym (refuses_with text j m r) ∙ e in
        let p : j ≡ k = cc in
        let q : m ≡ n = cc in
        rw p at (rw q at r)

-- ---- lines put together again

joined : List Bytes → Bytes
joined [] = []
joined (s ∷ l) = s ++ 10 ∷ joined l

ends_feed : (s : Bytes) → ends_in_feed (10 ∷ s) ≡ ends_in_feed s
unfolding ends_in_feed
ends_feed [] = refl
ends_feed (c ∷ s) = refl

join_onto : (c : ℕ) (l : List Bytes) → 0 < length l → joined (onto c l) ≡ c ∷ joined l
unfolding joined onto
join_onto c [] h = absurd (omega arith)
join_onto c (s ∷ l) h = refl

lines_some : (c : ℕ) (s : Bytes) → 0 < length (lines (c ∷ s))
unfolding lines onto
lines_some c s = go (eqb c 10) (lines s)
  where
    go : (b : Bool) (l : List Bytes) → 0 < length {A = Bytes} (elim b as (λ _. List Bytes) [ true ↦ [] ∷ l | false ↦ onto c l ])
    go true l = omega arith
    go false [] = omega arith
    go false (t ∷ l) = omega arith

join_lines : (text : Bytes) → ends_in_feed text ≡ true → joined (lines text) ≡ text
unfolding joined lines ends_in_feed
join_lines [] e = refl
join_lines (c ∷ []) e = rw (e, lines) (ap (λ d. d ∷ []) (sym (eqb-true c 10 e)))
join_lines (c ∷ d ∷ s) e = go (eqb c 10) refl (join_lines (d ∷ s) e)
  where
    go : (b : Bool) → eqb c 10 ≡ b → joined (lines (d ∷ s)) ≡ d ∷ s → joined (elim b as (λ _. List Bytes) [ true ↦ [] ∷ lines (d ∷ s) | false ↦ onto c (lines (d ∷ s)) ]) ≡ c ∷ d ∷ s
    go true q h = ap₂ ◌∷◌ (sym (eqb-true c 10 q)) h
    go false q h = join_onto c (lines (d ∷ s)) (lines_some d s) ∙ ap (◌∷◌ c) h

-- ---- a design and its lines

gather_items : (is : Items) (ls : List Line) (d : Design) → gather ls ≡ record { header = []; items = Items.none; modules = d } → gather (item_lines is ls) ≡ record { header = []; items = is; modules = d }
unfolding gather item_lines
gather_items Items.none ls d e = e
gather_items (Items.more i is) ls d e = rw (gather_items is ls d e)

gather_header : (hs : List Header) (is : Items) (ls : List Line) (d : Design) → gather ls ≡ record { header = []; items = is; modules = d } → gather (header_lines hs ls) ≡ record { header = hs; items = is; modules = d }
unfolding gather header_lines
gather_header [] is ls d e = e
gather_header (h ∷ hs) is ls d e = rw (gather_header hs is ls d e)

gather_design : (d : Design) (m : ℕ) → gather (design_lines m d) ≡ record { header = []; items = Items.none; modules = d }
unfolding gather design_lines
gather_design [] m = refl
gather_design (k ∷ d) m =
    rw (gather_header k.header k.items _ d (gather_items k.items (design_lines (suc m) d) d (gather_design d (suc m))))

-- what is in range, line by line
line_in : (b : Before) (l : Line) (ls : List Line) → lines_in_range b (l ∷ ls) ≡ true → (line_depth l ≤ depth_limit) × (tree_fault b l ≡ 0) × (lines_in_range (after_line b l) ls ≡ true)
unfolding lines_in_range
line_in b l ls h =
    let d = leb (line_depth l) depth_limit in
    let f = eqb (tree_fault b l) 0 in
    let r = both (d && f) (lines_in_range (after_line b l) ls) h in
    let e = both d f r.0 in
    (leb-true _ _ e.0, eqb-true _ _ e.1, r.1)

-- behind an item no header follows, and before any module nothing
module _ (b : Before) where
  header_place : (k : Header) → in_place b (header_line k) ≡ true → (0 < b.modules) × (b.has_item ≡ false)
  unfolding in_place
  header_place k e = let p = both (ltb 0 b.modules) (opposite b.has_item) e in (ltb-true _ _ p.0, not-true _ p.1)

  header_modules : (k : Header) → (after_line b (header_line k)).modules ≡ b.modules
  unfolding after_line
  header_modules (Header.kind n k) = refl
  header_modules (Header.val n i) = refl

no_header : (ls : List Line) (b : Before) → lines_in_range b ls ≡ true → b.has_item ≡ true → (gather ls).header ≡ []
unfolding gather after_line
no_header [] b h e = refl
no_header (module_line m bound ∷ ls) b h e = refl
no_header (header_line k ∷ ls) b h e = absurd (clash e (header_place b k (sound_of b _ (line_in b _ ls h).1).place).1)
no_header (item_line k ∷ ls) b h e = no_header ls (after_line b (item_line k)) (line_in b _ ls h).2 refl

none_yet : (ls : List Line) (b : Before) → lines_in_range b ls ≡ true → b.modules ≡ 0 → ((gather ls).header ≡ []) × ((gather ls).items ≡ Items.none)
unfolding gather in_place
none_yet [] b h e = (refl, refl)
none_yet (module_line m bound ∷ ls) b h e = (refl, refl)
none_yet (header_line k ∷ ls) b h e =
    let p = header_place b k (sound_of b _ (line_in b _ ls h).1).place in absurd (omega arith)
none_yet (item_line k ∷ ls) b h e =
    let p : 0 < b.modules = ltb-true _ _ (sound_of b (item_line k) (line_in b _ ls h).1).place in absurd (omega arith)

-- lines in range are those of the design that they make
lines_of :
    (ls : List Line) (b : Before) → lines_in_range b ls ≡ true
    → header_lines (gather ls).header (item_lines (gather ls).items (design_lines b.modules (gather ls).modules)) ≡ ls
unfolding gather header_lines item_lines design_lines after_line in_place
lines_of [] b h = refl
lines_of (module_line m bound ∷ ls) b h =
    let i = line_in b (module_line m bound) ls h in
    let p : m ≡ b.modules = eqb-true _ _ (sound_of b (module_line m bound) i.1).place in
    ap₂ ◌∷◌ (ap (λ n. module_line n bound) (sym p)) (lines_of ls (after_line b (module_line m bound)) i.2)
lines_of (header_line k ∷ ls) b h =
    ap (◌∷◌ (header_line k)) (rw (header_modules b k) at (lines_of ls (after_line b (header_line k)) (line_in b _ ls h).2))
lines_of (item_line k ∷ ls) b h =
    let i = line_in b (item_line k) ls h in
    let e = no_header ls (after_line b (item_line k)) i.2 refl in
    let g = lines_of ls (after_line b (item_line k)) i.2 in
    rw e (ap (◌∷◌ (item_line k)) (rw e at g))

design_of : (ls : List Line) → lines_in_range at_start ls ≡ true → design_lines 0 (gather ls).modules ≡ ls
unfolding header_lines item_lines
design_of ls h = let e = none_yet ls at_start h refl in let g = lines_of ls at_start h in rw (e.0, e.1) at g

-- ---- what is shown

pub lines_feed : (s t : Bytes) → AllIn s → lines (s ++ 10 ∷ t) ≡ s ∷ lines t
unfolding lines onto
lines_feed [] t h = refl
lines_feed (c ∷ s) t h = rw (ne_eqb c 10 (λ e. omega arith), lines) (ap (onto c) (lines_feed s t h.2))

set_feed : (s t : Bytes) → AllIn s → AllInSet t → AllInSet (s ++ 10 ∷ t)
set_feed [] t h a = (refl, a)
set_feed (c ∷ s) t h a = (rw (ne_eqb c 10 (λ e. omega arith), le-leb 32 c h.0, le-leb c 126 h.1), set_feed s t h.2 a)

ends_behind : (s t : Bytes) → ends_in_feed t ≡ true → ends_in_feed (s ++ 10 ∷ t) ≡ true
unfolding ends_in_feed
ends_behind [] t e = ends_feed t ∙ e
ends_behind (c ∷ []) t e = ends_behind [] t e
ends_behind (c ∷ d ∷ s) t e = ends_behind (d ∷ s) t e

lines_shown : (l : Line) (ls : List Line) → lines (show_lines (l ∷ ls)) ≡ show_line l ∷ lines (show_lines ls)
unfolding show_lines
lines_shown l ls = lines_feed (show_line l) (show_lines ls) (show_line_set l)

set_shown : (ls : List Line) → AllInSet (show_lines ls)
unfolding show_lines
set_shown [] = tt
set_shown (l ∷ ls) = set_feed (show_line l) (show_lines ls) (show_line_set l) (set_shown ls)

ends_shown : (ls : List Line) → ends_in_feed (show_lines ls) ≡ true
unfolding show_lines ends_in_feed
ends_shown [] = refl
ends_shown (l ∷ ls) = ends_behind (show_line l) (show_lines ls) (ends_shown ls)

decode_shown : (ls : List Line) (b : Before) → lines_in_range b ls ≡ true → decode_lines (lines (show_lines ls)) ≡ ls
unfolding show_lines lines decode_lines
decode_shown [] b h = refl
decode_shown (l ∷ ls) b h =
    let i = line_in b l ls h in
    ap decode_lines (lines_shown l ls) ∙ ap₂ ◌∷◌ (decode_show_line l i.0) (decode_shown ls (after_line b l) i.2)

faultless_line : (b : Before) (l : Line) → line_depth l ≤ depth_limit → Sound b l → (k : ℕ) → Fault b (show_line l) k → ⊥
unfolding written
faultless_line b l d s k (not_one_form e) = clash (show_line_form l ∙ le-leb _ _ d) e
faultless_line b l d s k (badly_written e) = clash (same_refl (show_line l)) (rw (decode_show_line l d) at e)
faultless_line b l d s k (out_of_range w e) = clash s.range (rw (decode_show_line l d) at e)
faultless_line b l d s k (out_of_place w e) = clash s.place (rw (decode_show_line l d) at e)
faultless_line b l d s k (one_too_many w e) = clash s.first (rw (decode_show_line l d) at e)

faultless_shown : (ls : List Line) (b : Before) → lines_in_range b ls ≡ true → Faultless b (lines (show_lines ls))
unfolding show_lines lines
faultless_shown [] b h = tt
faultless_shown (l ∷ ls) b h =
    let i = line_in b l ls h in
    rw (lines_shown l ls, decode_show_line l i.0)
    (faultless_line b l i.0 (sound_of b l i.1), faultless_shown ls (after_line b l) i.2)

-- a text with no fault is the one that shows its lines, and they are in range
faultless_range : (l : List Bytes) (b : Before) → Faultless b l → (lines_in_range b (decode_lines l) ≡ true) × (show_lines (decode_lines l) ≡ joined l)
unfolding lines_in_range decode_lines show_lines joined
faultless_range [] b h = (refl, refl)
faultless_range (s ∷ l) b h =
    let c = line_clean b s h.0 in
    let e = written_eq s c.1 in
    let d : leb (line_depth (decode_line s)) depth_limit ≡ true = sym (show_line_form (decode_line s)) ∙ ap one_form e ∙ c.0 in
    let i = faultless_range l (after_line b (decode_line s)) h.1 in
    (rw (d, sound_fault b (decode_line s) c.2, i.0), ap₂ (λ x y. x ++ 10 ∷ y) e i.1)

-- a line that is one form and written is the one that shows its tree, which is not too deep
line_written : (s : Bytes) → one_form s ≡ true → written s ≡ true → (l : Line) × (line_depth l ≤ depth_limit) × (show_line l ≡ s)
line_written s o w =
    let e = written_eq s w in
    (decode_line s, leb-true _ _ (sym (show_line_form (decode_line s)) ∙ ap one_form e ∙ o), e)

written_line : (l : Line) → line_depth l ≤ depth_limit → (one_form (show_line l) ≡ true) × (written (show_line l) ≡ true)
unfolding written
written_line l d = (show_line_form l ∙ le-leb _ _ d, rw (decode_show_line l d) (same_refl (show_line l)))

pub reading : Reading
unfolding decode show_design in_range
reading = record {
  line_back = decode_show_line;
  well_written = λ s. (
    λ h. line_written s h.0 h.1,
    λ h. subst (λ z. (one_form z ≡ true) × (written z ≡ true)) h.2 (written_line h.0 h.1),
  );
  decode_show = λ d h. ap (λ ls. (gather ls).modules) (decode_shown (design_lines 0 d) at_start h) ∙ ap (λ g. g.modules) (gather_design d 0);
  shown = λ d h n. accepts (show_design d) (record { short = n; all_in_set = set_shown (design_lines 0 d); ends = ends_shown (design_lines 0 d); faultless = faultless_shown (design_lines 0 d) at_start h });
  accepted = λ text e.
      let c = clean_of text e in
      let f = faultless_range (lines text) at_start c.faultless in
      let g = design_of (decode_lines (lines text)) f.0 in
      (c.short, ap (lines_in_range at_start) g ∙ f.0, ap show_lines g ∙ f.1 ∙ join_lines text c.ends);
  lowest = refused_of;
  refuses = refuses_with;
}
