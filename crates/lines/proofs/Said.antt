-- The proof of what the tables say (specs/Saying.antt).
-- Assumes nothing.
use mathlib.Core.Path.{◌≡◌, refl, sym, ap, ap₂, ◌∙◌}
use mathlib.Core.Bool.{Bool, true, false, ◌&&◌, ◌||◌, true≢false}
use mathlib.Core.Option.{none}
use mathlib.Core.List.{List, [], ◌∷◌, ◌++◌, append_assoc}
use Prim.Native.Nat.{ℕ, zero, suc, ◌+◌, ◌*◌, ◌-◌, ◌≤◌, ◌<◌}
use native.Mathlib.Omega.{arith}
use lib.Dec.{eqb, ltb, leb}
use lib.ListN.{length, get_or, take, drop, set, replicate, length-append, length-set, length-replicate, get_or-replicate, get_or-eq_default}
use lib.Seq.{get_or-set_same, get_or-set_other, take_at, drop_at}
use borrow.Author.Tests.{eqb-true, eqb-false, eq-eqb, ltb-true, ltb-false, not-true}
use Rattle.spec.specs.Bytes.{Bytes}
use Rattle.spec.specs.Syntax.{name_bound, Header, kind, val, Items, Module, Design, Line, module_line, header_line, item_line}
use Rattle.spec.specs.Show.{show_line, show_lines, header_lines, item_lines, design_lines, show_design}
use Rattle.spec.specs.Site.{kind_of}
use Rattle.spec.specs.Decode.{depth_limit}
use Rattle.spec.specs.Refusal.{Before, at_start, after_line, in_place, has_name, first_kind, line_in_range, tree_fault, lines_in_range, in_range, line_depth, refusal, well_formed, decode}
use Rattle.spec.proofs.Reading.{reading}
use Rattle.lines.specs.Tables.{kind_number, flag, put_header, put_kinds, entries, header_size, items_size, header_at, put_mods}
use Rattle.lines.specs.Saying.{kind_or, kind_at, AllPlaced, Says}
use Rattle.lines.proofs.Tabled.{entries_long}

both_true : (a b : Bool) → a && b ≡ true → (a ≡ true) × (b ≡ true)
both_true true b e = (refl, e)
both_true false b e = absurd (true≢false (sym e))

-- what a line in range says
record Sound (b : Before) (l : Line) (ls : List Line) : Type 0 where
  range : line_in_range l ≡ true
  first : first_kind b l ≡ true
  rest : lines_in_range (after_line b l) ls ≡ true

sound : (b : Before) (l : Line) (ls : List Line) → lines_in_range b (l ∷ ls) ≡ true → Sound b l ls
unfolding lines_in_range tree_fault
sound b l ls h = go (line_in_range l) refl (in_place b l) refl (first_kind b l) refl
  where
    p : (leb (line_depth l) depth_limit && eqb (tree_fault b l) 0 ≡ true) × (lines_in_range (after_line b l) ls ≡ true)
    p = both_true (leb (line_depth l) depth_limit && eqb (tree_fault b l) 0) (lines_in_range (after_line b l) ls) h

    e : tree_fault b l ≡ 0
    e = eqb-true (tree_fault b l) 0 (both_true (leb (line_depth l) depth_limit) (eqb (tree_fault b l) 0) p.0).1

    go : (r : Bool) → line_in_range l ≡ r → (q : Bool) → in_place b l ≡ q → (f : Bool) → first_kind b l ≡ f → Sound b l ls
    go false r q eq f ef = let z : ◌≡◌ {A = ℕ} 5 0 = rw (r, tree_fault) at e in absurd (omega arith)
    go true r false q f ef = let z : ◌≡◌ {A = ℕ} 6 0 = rw (r, q, tree_fault) at e in absurd (omega arith)
    go true r true q false f = let z : ◌≡◌ {A = ℕ} 7 0 = rw (r, q, f, tree_fault) at e in absurd (omega arith)
    go true r true q true f = record { range = r; first = f; rest = p.1 }

-- ---- kinds

or_true : (x : Bool) → x || true ≡ true
or_true true = refl
or_true false = refl

-- a name that has a kind gets no second
not_again : (hs : List Header) (ls : List Line) (b : Before) (n : ℕ) → lines_in_range b (header_lines hs ls) ≡ true → has_name n b.kinds ≡ true → kind_of hs n ≡ none
unfolding header_lines kind_of after_line first_kind has_name
not_again [] ls b n h e = refl
not_again (kind m k ∷ hs) ls b n h e =
    let s = sound b (header_line (kind m k)) (header_lines hs ls) h in
    go s (not_again hs ls (after_line b (header_line (kind m k))) n s.rest (rw e (or_true (eqb n m)))) (eqb m n) refl
  where
    go : Sound b (header_line (kind m k)) (header_lines hs ls) → kind_of hs n ≡ none → (x : Bool) → eqb m n ≡ x → kind_of (kind m k ∷ hs) n ≡ none
    go s later true q =
        let z = eqb-true m n q in
        let w : has_name m b.kinds ≡ false = not-true (has_name m b.kinds) s.first in
        absurd (true≢false (sym e ∙ ap (λ (x : ℕ). has_name x b.kinds) (sym z) ∙ w))
    go s later false q = rw (q, kind_of) later
not_again (val m v ∷ hs) ls b n h e = not_again hs ls b n (sound b (header_line (val m v)) (header_lines hs ls) h).rest e

-- the kinds of a header, over what the table held; other modules' kinds stay
header_said : (hs : List Header) (ls : List Line) (b : Before) (m : ℕ) (table : List ℕ) → lines_in_range b (header_lines hs ls) ≡ true → m * name_bound + name_bound ≤ length table
    → (n : ℕ) → n < name_bound → get_or (put_header m hs table) (m * name_bound + n) 0 ≡ kind_or (kind_of hs n) (get_or table (m * name_bound + n) 0)
unfolding header_lines put_header kind_of after_line line_in_range has_name
header_said [] ls b m table h l n q = refl
header_said (kind a k ∷ hs) ls b m table h l n q =
    let s = sound b (header_line (kind a k)) (header_lines hs ls) h in
    let x = m * name_bound + a in
    let t' = set table x (kind_number k) in
    let i = header_said hs ls (after_line b (header_line (kind a k))) m t' s.rest (simp length-set l) n q in
    i ∙ go s (eqb a n) refl
  where
    go : Sound b (header_line (kind a k)) (header_lines hs ls) → (x : Bool) → eqb a n ≡ x → kind_or (kind_of hs n) (get_or (set table (m * name_bound + a) (kind_number k)) (m * name_bound + n) 0) ≡ kind_or (kind_of (kind a k ∷ hs) n) (get_or table (m * name_bound + n) 0)
    go s true e =
        let z = eqb-true a n e in
        let r = ltb-true a name_bound s.range in
        let w : kind_of hs n ≡ none = not_again hs ls (after_line b (header_line (kind a k))) n s.rest (rw (eq-eqb n a (sym z))) in
        rw (w, e, kind_of) (ap (λ (y : ℕ). get_or (set table (m * name_bound + a) (kind_number k)) (m * name_bound + y) 0) (sym z) ∙ get_or-set_same table (m * name_bound + a) (kind_number k) 0 (omega arith))
    go s false e =
        let z = eqb-false a n e in
        rw (e, kind_of) (ap (kind_or (kind_of hs n)) (get_or-set_other table (m * name_bound + a) (m * name_bound + n) (kind_number k) 0 (λ y. z (omega arith))))
header_said (val a v ∷ hs) ls b m table h l n q = header_said hs ls b m table (sound b (header_line (val a v)) (header_lines hs ls) h).rest l n q

header_frame : (hs : List Header) (ls : List Line) (b : Before) (m : ℕ) (table : List ℕ) → lines_in_range b (header_lines hs ls) ≡ true → (j n : ℕ) → n < name_bound → (j ≡ m → ⊥) → get_or (put_header m hs table) (j * name_bound + n) 0 ≡ get_or table (j * name_bound + n) 0
unfolding header_lines put_header after_line line_in_range
header_frame [] ls b m table h j n q f = refl
header_frame (kind a k ∷ hs) ls b m table h j n q f =
    let s = sound b (header_line (kind a k)) (header_lines hs ls) h in
    let r = ltb-true a name_bound s.range in
    header_frame hs ls (after_line b (header_line (kind a k))) m (set table (m * name_bound + a) (kind_number k)) s.rest j n q f
    ∙ get_or-set_other table (m * name_bound + a) (j * name_bound + n) (kind_number k) 0 (λ e. f (omega arith))
header_frame (val a v ∷ hs) ls b m table h j n q f = header_frame hs ls b m table (sound b (header_line (val a v)) (header_lines hs ls) h).rest j n q f

header_long : (hs : List Header) (m : ℕ) (table : List ℕ) → length (put_header m hs table) ≡ length table
unfolding put_header
header_long [] m table = refl
header_long (kind a k ∷ hs) m table = header_long hs m (set table (m * name_bound + a) (kind_number k)) ∙ length-set table (m * name_bound + a) (kind_number k)
header_long (val a v ∷ hs) m table = header_long hs m table

-- behind a header and items: the same number of modules
record Behind (m : ℕ) (ls : List Line) : Type 0 where
  b : Before
  count : b.modules ≡ m
  rest : lines_in_range b ls ≡ true

after_items : (is : Items) (ls : List Line) (b : Before) → lines_in_range b (item_lines is ls) ≡ true → Behind b.modules ls
unfolding item_lines after_line
after_items Items.none ls b h = record { b = b; count = refl; rest = h }
after_items (Items.more i is) ls b h = after_items is ls (after_line b (item_line i)) (sound b (item_line i) (item_lines is ls) h).rest

after_header : (hs : List Header) (ls : List Line) (b : Before) → lines_in_range b (header_lines hs ls) ≡ true → Behind b.modules ls
unfolding header_lines after_line
after_header [] ls b h = record { b = b; count = refl; rest = h }
after_header (kind a k ∷ hs) ls b h = after_header hs ls (after_line b (header_line (kind a k))) (sound b (header_line (kind a k)) (header_lines hs ls) h).rest
after_header (val a v ∷ hs) ls b h = after_header hs ls b (sound b (header_line (val a v)) (header_lines hs ls) h).rest

-- a module of a design in range
record Opened (m : ℕ) (k : Module) (ms : Design) : Type 0 where
  below : m < 32
  b : Before
  head : lines_in_range b (header_lines k.header (item_lines k.items (design_lines (suc m) ms))) ≡ true
  behind : Behind (suc m) (design_lines (suc m) ms)

opened : (m : ℕ) (k : Module) (ms : Design) (b : Before) → b.modules ≡ m → lines_in_range b (design_lines m (k ∷ ms)) ≡ true → Opened m k ms
unfolding design_lines after_line first_kind
opened m k ms b e h =
    let s = sound b (module_line m k.bound) (header_lines k.header (item_lines k.items (design_lines (suc m) ms))) h in
    let x = after_header k.header (item_lines k.items (design_lines (suc m) ms)) (after_line b (module_line m k.bound)) s.rest in
    let y = after_items k.items (design_lines (suc m) ms) x.b x.rest in
    let l = ltb-true b.modules 32 s.first in
    record { below = omega arith; b = after_line b (module_line m k.bound); head = s.rest; behind = record { b = y.b; count = y.count ∙ x.count ∙ ap suc e; rest = y.rest } }

design_few : (ms : Design) (m : ℕ) (b : Before) → b.modules ≡ m → m ≤ 32 → lines_in_range b (design_lines m ms) ≡ true → m + length ms ≤ 32
design_few [] m b e l h = omega arith
design_few (k ∷ ms) m b e l h =
    let o = opened m k ms b e h in
    let x = o.below in
    omega (arith, design_few ms (suc m) o.behind.b o.behind.count (omega arith) o.behind.rest)

kinds_frame : (ms : Design) (m : ℕ) (b : Before) (table : List ℕ) → b.modules ≡ m → lines_in_range b (design_lines m ms) ≡ true → (j n : ℕ) → n < name_bound → j < m → get_or (put_kinds m ms table) (j * name_bound + n) 0 ≡ get_or table (j * name_bound + n) 0
unfolding put_kinds
kinds_frame [] m b table e h j n q l = refl
kinds_frame (k ∷ ms) m b table e h j n q l =
    let o = opened m k ms b e h in
    kinds_frame ms (suc m) o.behind.b (put_header m k.header table) o.behind.count o.behind.rest j n q (omega arith)
    ∙ header_frame k.header _ o.b m table o.head j n q (λ z. omega arith)

kinds_said : (ms : Design) (m : ℕ) (b : Before) (table : List ℕ) → b.modules ≡ m → lines_in_range b (design_lines m ms) ≡ true → 32 * name_bound ≤ length table
    → ((j n : ℕ) → n < name_bound → m ≤ j → get_or table (j * name_bound + n) 0 ≡ 0) → (j n : ℕ) → n < name_bound → get_or (put_kinds m ms table) ((m + j) * name_bound + n) 0 ≡ kind_at ms j n
unfolding put_kinds kind_at
kinds_said [] m b table e h l f j n q = f (m + j) n q (omega arith)
kinds_said (k ∷ ms) m b table e h l f zero n q =
    let o = opened m k ms b e h in
    let x = o.below in
    let z : m + 0 ≡ m = omega arith in
    rw z
    (kinds_frame ms (suc m) o.behind.b (put_header m k.header table) o.behind.count o.behind.rest m n q (omega arith)
    ∙ header_said k.header _ o.b m table o.head (omega arith) n q ∙ ap (kind_or (kind_of k.header n)) (f m n q (omega arith)))
kinds_said (k ∷ ms) m b table e h l f (suc j) n q =
    let o = opened m k ms b e h in
    let z : m + suc j ≡ suc m + j = omega arith in
    rw z
    (kinds_said ms (suc m) o.behind.b (put_header m k.header table) o.behind.count o.behind.rest (rw (header_long k.header m table) l)
    (λ i a c d. header_frame k.header _ o.b m table o.head i a c (λ y. omega arith) ∙ f i a c (omega arith)) j n q)

-- ---- places

module _ (table : List ℕ) (m b h i e : ℕ) where
  pub entry_other : (x : ℕ) → (x ≡ m * 4 → ⊥) → (x ≡ m * 4 + 1 → ⊥) → (x ≡ m * 4 + 2 → ⊥) → (x ≡ m * 4 + 3 → ⊥) → get_or (entries table m b h i e) x 0 ≡ get_or table x 0
  entry_other x f0 f1 f2 f3 =
      get_or-set_other (set (set (set table (m * 4) b) (m * 4 + 1) h) (m * 4 + 2) i) (m * 4 + 3) x e 0 f3
      ∙ get_or-set_other (set (set table (m * 4) b) (m * 4 + 1) h) (m * 4 + 2) x i 0 f2
      ∙ get_or-set_other (set table (m * 4) b) (m * 4 + 1) x h 0 f1 ∙ get_or-set_other table (m * 4) x b 0 f0

  module _ (l : m * 4 + 3 < length table) where
    l1 : length (set table (m * 4) b) ≡ length table
    l1 = length-set table (m * 4) b

    l2 : length (set (set table (m * 4) b) (m * 4 + 1) h) ≡ length table
    l2 = length-set (set table (m * 4) b) (m * 4 + 1) h ∙ l1

    l3 : length (set (set (set table (m * 4) b) (m * 4 + 1) h) (m * 4 + 2) i) ≡ length table
    l3 = length-set (set (set table (m * 4) b) (m * 4 + 1) h) (m * 4 + 2) i ∙ l2

    entry_0 : get_or (entries table m b h i e) (m * 4) 0 ≡ b
    entry_0 =
        get_or-set_other (set (set (set table (m * 4) b) (m * 4 + 1) h) (m * 4 + 2) i) (m * 4 + 3) (m * 4) e 0 (λ z. omega arith)
        ∙ get_or-set_other (set (set table (m * 4) b) (m * 4 + 1) h) (m * 4 + 2) (m * 4) i 0 (λ z. omega arith)
        ∙ get_or-set_other (set table (m * 4) b) (m * 4 + 1) (m * 4) h 0 (λ z. omega arith) ∙ get_or-set_same table (m * 4) b 0 (omega arith)

    entry_1 : get_or (entries table m b h i e) (m * 4 + 1) 0 ≡ h
    entry_1 =
        get_or-set_other (set (set (set table (m * 4) b) (m * 4 + 1) h) (m * 4 + 2) i) (m * 4 + 3) (m * 4 + 1) e 0 (λ z. omega arith)
        ∙ get_or-set_other (set (set table (m * 4) b) (m * 4 + 1) h) (m * 4 + 2) (m * 4 + 1) i 0 (λ z. omega arith)
        ∙ get_or-set_same (set table (m * 4) b) (m * 4 + 1) h 0 (omega (arith, l1))

    entry_2 : get_or (entries table m b h i e) (m * 4 + 2) 0 ≡ i
    entry_2 =
        get_or-set_other (set (set (set table (m * 4) b) (m * 4 + 1) h) (m * 4 + 2) i) (m * 4 + 3) (m * 4 + 2) e 0 (λ z. omega arith)
        ∙ get_or-set_same (set (set table (m * 4) b) (m * 4 + 1) h) (m * 4 + 2) i 0 (omega (arith, l2))

    entry_3 : get_or (entries table m b h i e) (m * 4 + 3) 0 ≡ e
    entry_3 = get_or-set_same (set (set (set table (m * 4) b) (m * 4 + 1) h) (m * 4 + 2) i) (m * 4 + 3) e 0 (omega (arith, l3))

mods_frame : (ms : Design) (m o : ℕ) (table : List ℕ) (x : ℕ) → x < m * 4 → get_or (put_mods m o ms table) x 0 ≡ get_or table x 0
unfolding put_mods
mods_frame [] m o table x l = refl
mods_frame (k ∷ ms) m o table x l =
    mods_frame ms (suc m) _ (entries table m _ _ _ _) x (omega arith) ∙ entry_other table m _ _ _ _ x (λ z. omega arith) (λ z. omega arith) (λ z. omega arith) (λ z. omega arith)

mods_above : (ms : Design) (m o : ℕ) (table : List ℕ) (x : ℕ) → (m + length ms) * 4 ≤ x → get_or (put_mods m o ms table) x 0 ≡ get_or table x 0
unfolding put_mods
mods_above [] m o table x l = refl
mods_above (k ∷ ms) m o table x l =
    mods_above ms (suc m) _ (entries table m _ _ _ _) x (omega arith) ∙ entry_other table m _ _ _ _ x (λ z. omega arith) (λ z. omega arith) (λ z. omega arith) (λ z. omega arith)

header_parts : (hs : List Header) (ls : List Line) → show_lines (header_lines hs ls) ≡ show_lines (header_lines hs []) ++ show_lines ls
unfolding header_lines show_lines
header_parts [] ls = refl
header_parts (h ∷ hs) ls =
    ap (λ (x : Bytes). show_line (header_line h) ++ 10 ∷ x) (header_parts hs ls) ∙ sym (append_assoc (show_line (header_line h)) (10 ∷ show_lines (header_lines hs [])) (show_lines ls))

item_parts : (is : Items) (ls : List Line) → show_lines (item_lines is ls) ≡ show_lines (item_lines is []) ++ show_lines ls
unfolding item_lines show_lines
item_parts Items.none ls = refl
item_parts (Items.more i is) ls =
    ap (λ (x : Bytes). show_line (item_line i) ++ 10 ∷ x) (item_parts is ls) ∙ sym (append_assoc (show_line (item_line i)) (10 ∷ show_lines (item_lines is [])) (show_lines ls))

-- a part of a text between what stands before it and behind it
part_of : (t p x r : Bytes) (a e : ℕ) → t ≡ p ++ (x ++ r) → length p ≡ a → a + length x ≡ e → take (e - a) (drop a t) ≡ x
part_of t p x r a e s l z =
    let d : drop a t ≡ x ++ r = ap (drop a) s ∙ drop_at p (x ++ r) a l in
    let y : e - a ≡ length x = omega arith in
    ap (take (e - a)) d ∙ ap (λ (n : ℕ). take n (x ++ r)) y ∙ take_at x r (length x) refl

module _ (t : Bytes) where
  mods_said : (ms : Design) (m o : ℕ) (table : List ℕ) (pre : Bytes) → t ≡ pre ++ show_lines (design_lines m ms) → length pre ≡ o → (m + length ms) * 4 ≤ length table → AllPlaced t (put_mods m o ms table) m ms
  unfolding put_mods design_lines show_lines header_at header_size items_size
  mods_said [] m o table pre e l f = tt
  mods_said (k ∷ ms) m o table pre e l f =
      let L = show_line (module_line m k.bound) in
      let hs = show_lines (header_lines k.header []) in
      let is = show_lines (item_lines k.items []) in
      let rs = show_lines (design_lines (suc m) ms) in
      let h = o + length L + 1 in
      let i = h + length hs in
      let d = i + length is in
      let p1 = pre ++ (L ++ 10 ∷ []) in
      let s1 : t ≡ p1 ++ (hs ++ (is ++ rs)) =
      e ∙ ap (λ (x : Bytes). pre ++ (L ++ 10 ∷ x)) (header_parts k.header (item_lines k.items (design_lines (suc m) ms)) ∙ ap (λ (x : Bytes). hs ++ x) (item_parts k.items (design_lines (suc m) ms)))
      ∙ ap (λ (x : Bytes). pre ++ x) (sym (append_assoc L (10 ∷ []) (hs ++ (is ++ rs)))) ∙ sym (append_assoc pre (L ++ 10 ∷ []) (hs ++ (is ++ rs))) in
      let n1 : length p1 ≡ h = let a = length-append pre (L ++ 10 ∷ []) in let b = length-append L (10 ∷ []) in omega arith in
      let s2 : t ≡ (p1 ++ hs) ++ (is ++ rs) = s1 ∙ sym (append_assoc p1 hs (is ++ rs)) in
      let n2 : length (p1 ++ hs) ≡ i = length-append p1 hs ∙ ap (λ (x : ℕ). x + length hs) n1 in
      let s3 : t ≡ ((p1 ++ hs) ++ is) ++ rs = s2 ∙ sym (append_assoc (p1 ++ hs) is rs) in
      let n3 : length ((p1 ++ hs) ++ is) ≡ d = length-append (p1 ++ hs) is ∙ ap (λ (x : ℕ). x + length is) n2 in
      let new = entries table m (flag k.bound) h i d in
      let room : m * 4 + 3 < length table = omega arith in
      let v0 = mods_frame ms (suc m) d new (m * 4) (omega arith) ∙ entry_0 table m (flag k.bound) h i d room in
      let v1 = mods_frame ms (suc m) d new (m * 4 + 1) (omega arith) ∙ entry_1 table m (flag k.bound) h i d room in
      let v2 = mods_frame ms (suc m) d new (m * 4 + 2) (omega arith) ∙ entry_2 table m (flag k.bound) h i d room in
      let v3 = mods_frame ms (suc m) d new (m * 4 + 3) (omega arith) ∙ entry_3 table m (flag k.bound) h i d room in
      let whole : length t ≡ d + length rs = ap length s3 ∙ length-append ((p1 ++ hs) ++ is) rs ∙ ap (λ (x : ℕ). x + length rs) n3 in (
        record {
          bound = v0;
          order = (omega arith, omega arith, omega arith);
          header = ap₂ (λ (x y : ℕ). take (x - y) (drop y t)) v2 v1 ∙ part_of t p1 hs (is ++ rs) h i s1 n1 refl;
          items = ap₂ (λ (x y : ℕ). take (x - y) (drop y t)) v3 v2 ∙ part_of t (p1 ++ hs) is rs i d s2 n2 refl;
        },
        mods_said ms (suc m) d new ((p1 ++ hs) ++ is) s3 n3 (rw (entries_long table m (flag k.bound) h i d) (omega arith)),
      )

-- ---- the theorem

zero_there : (l x : ℕ) → get_or (replicate {A = ℕ} l 0) x 0 ≡ 0
zero_there l x = go (ltb x l) refl
  where
    go : (b : Bool) → ltb x l ≡ b → get_or (replicate {A = ℕ} l 0) x 0 ≡ 0
    go true e = get_or-replicate {A = ℕ} l x 0 0 (ltb-true x l e)
    go false e = let h = ltb-false x l e in get_or-eq_default (replicate {A = ℕ} l 0) 0 (rw (length-replicate {A = ℕ} l 0) h)

pub says : (t : Bytes) (kinds mods : ℕ) → refusal t ≡ well_formed → 32 * name_bound ≤ kinds → 128 ≤ mods → Says t kinds mods
unfolding in_range show_design
says t kinds mods a hk hm =
    let r = reading.accepted t a in
    let d = decode t in
    let few = design_few d 0 at_start refl (omega arith) r.1 in
    record {
      few = omega arith;
      kinds_say = λ m n q. let z : 0 + m ≡ m = omega arith in rw z at (kinds_said d 0 at_start (replicate kinds 0) refl r.1 (rw (length-replicate {A = ℕ} kinds 0) hk) (λ j i u v. zero_there kinds (j * name_bound + i)) m n q);
      mods_say = mods_said t d 0 0 (replicate mods 0) [] (sym r.2) refl (rw (length-replicate {A = ℕ} mods 0) (omega arith));
      mods_zero = λ i l. mods_above d 0 0 (replicate mods 0) i (omega arith) ∙ zero_there mods i;
    }
