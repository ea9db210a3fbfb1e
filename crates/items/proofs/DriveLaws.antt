-- Constants, extents and driven names: one law for each way of `constant_at`, `lvalue_extent`, `drive_output` and `drive`.
-- Assumes nothing.
use mathlib.Core.Path.{◌≡◌, refl, sym, ◌∙◌, ap, ap₂, subst}
use mathlib.Core.Bool.{Bool, true, false, ◌&&◌, ◌||◌, or-true}
use mathlib.Core.List.{List, [], ◌∷◌, ◌++◌, append-nil}
use mathlib.Core.Option.{some}
use Prim.Native.Nat.{ℕ, zero, suc, ◌+◌, ◌-◌, ◌≤◌}
use native.Mathlib.Omega.{arith}
use lib.ListN.{length, drop, get_or, length-append}
use lib.Dec.{eqb, ltb}
use lib.IntN.{negsuc}
use borrow.Author.Tests.{lt-ltb, ltb-true, ltb-false, eq-eqb, ne_eqb, eqb-true, eqb-false}
use Rattle.spec.specs.Bytes.{Bytes, show_rest}
use Rattle.spec.specs.Syntax.{out_kind, Expr, Index, whole, at_bit, high_low, LValue, drive, Header}
use Rattle.spec.specs.Show.{show_expr, show_index}
use Rattle.spec.specs.Decode.{decode_expr}
use Rattle.spec.specs.Refusal.{expr_depth, index_depth}
use Rattle.spec.specs.Value.{Value, known, Names, value, is_outside}
use Rattle.spec.specs.Site.{Site, kind_of, bit_extent, range_extent, lvalue_extent, Driving, an_output, a_wire, a_reg, a_mem, nothing, driving, drive_site, drive_misuse, drive_constants, line_sites, index_constants, line_constants, any_outside, line_misuses, line_outputs, Misused}
use Rattle.std.specs.Prelude.{Option, Some, None, Ok, Err, is_err}
use Rattle.spec.specs.Block.{line_pairs, line_regs, line_mems}
use Rattle.spec.proofs.Shown.{expr_shown}
use Rattle.lines.specs.Parts.{part_end, piece, next_end, follows}
use Rattle.consteval.specs.Worth.{Answer, signed, worth}
use Rattle.consteval.specs.declared.Outside.{Outside}
use Rattle.sites.specs.Own as table
use Rattle.sites.specs.Own.{extent_of, site_of, misuse_of, unbiased, value_of, own_of, grown, room, added, add_site, add_misuse}
use Rattle.sites.specs.declared.Extent.{Extent}
use Rattle.sites.specs.declared.Extent.TheVariants as extent
use Rattle.sites.specs.declared.Misuse.{Misuse}
use Rattle.sites.specs.declared.Misuse.TheVariants as misuse
use Rattle.sites.specs.Stored.{Stored}
use Rattle.sites.specs.Stored as stored
use Rattle.runs.specs.Run.{ShowsItem}
use Rattle.runs.proofs.Inside.{placed}
use Rattle.edges.specs.Reads.{kind_word, KindsOf}
use Rattle.walk.specs.Walk.{Own, own_line, over_own, add_all, same_misused}
use Rattle.items.specs.declared.Named.{Named}
use Rattle.items.specs.Held.{Held, OwnAfter}
use Rattle.items.specs.Lines.{named_at, NamedIs, NamedAt, ShowsLValue, Extended, expr_at, index_at, index_outside, says_outside, ExtentIs, with_block, DriveOutput, DriveLine, lvalue_part, driven, drive_outside}
use Rattle.items.proofs.Places.{part_follows, part_ends, named_means, drive_lvalue, lvalue_named}
use Rattle.items.proofs.Tables.{held_within, held_sites, held_misuse}

-- ---- the kind of a name

pub kind_here : (kinds : List ℕ) (n : ℕ) (header : List Header) → KindsOf kinds header → {m k : ℕ} → m ≡ n → k ≡ get_or kinds m 0 → kind_of header n ≡ kind_word k
kind_here kinds n header w q e = sym (w n) ∙ ap kind_word (sym (e ∙ ap (λ (i : ℕ). get_or kinds i 0) q))

-- ---- constants

-- the whole number that a word holds, in both crates
same_word : (x : ℕ) → signed x ≡ unbiased x
unfolding unbiased
same_word x = go (ltb x 2147483648) refl
  where
    go : (b : Bool) → ltb x 2147483648 ≡ b → signed x ≡ unbiased x
    go true e = let l = ltb-true x 2147483648 e in let h : 2147483648 - suc x ≡ 2147483647 - x = omega arith in rw (e, unbiased) (ap negsuc h)
    go false e = rw (e, unbiased)

-- a constant that is not outside INT, by whether it has a value and which
pub inside : (r : Option ℕ) → is_outside (worth (Ok r)) ≡ false
inside (Some x) = refl
inside None = refl

pub told : (r : Option ℕ) → worth (Ok r) ≡ value_of r
told (Some x) = ap known (same_word x)
told None = refl

-- ---- the index that stands in any bytes

module _ (y : Bytes) (end d : ℕ) where
  index_none : follows y end ≡ false → index_at y end d ≡ whole
  unfolding index_at
  index_none f = rw (f, index_at)

  index_one : follows y end ≡ true → follows y (next_end y end) ≡ false → index_at y end d ≡ at_bit (expr_at y end d)
  unfolding index_at
  index_one f g = rw (f, g, index_at)

  index_two : follows y end ≡ true → follows y (next_end y end) ≡ true → index_at y end d ≡ high_low (expr_at y end d) (expr_at y (next_end y end) d)
  unfolding index_at
  index_two f g = rw (f, g, index_at)

  -- the one that is shown
  constant_shown : (e : Expr) (xs : List Bytes) → expr_depth e ≤ d → drop end y ≡ show_rest (show_expr e ∷ xs)
      → (expr_at y end d ≡ e) × (drop (next_end y end) y ≡ show_rest xs)
  unfolding show_rest
  constant_shown e xs l q =
      let p = placed y end 32 xs (expr_shown e).part q in
      (ap (decode_expr d) p.here ∙ (expr_shown e).back d l, p.follows)

-- it is the one that is shown
index_read : (y : Bytes) (end d : ℕ) (i : Index) → drop end y ≡ show_rest (show_index i) → index_depth i ≤ d → index_at y end d ≡ i
unfolding show_index index_depth
index_read y end d whole q l = index_none y end d (part_ends y end q)
index_read y end d (at_bit e) q l =
    let c = constant_shown y end d e [] l q in
    index_one y end d (part_follows y end (show_expr e) [] q) (part_ends y (next_end y end) c.1) ∙ ap at_bit c.0
index_read y end d (high_low h k) q l =
    let c = constant_shown y end d h (show_expr k ∷ []) (omega arith) q in
    let v = constant_shown y (next_end y end) d k [] (omega arith) c.1 in
    index_two y end d (part_follows y end (show_expr h) (show_expr k ∷ []) q) (part_follows y (next_end y end) (show_expr k) [] c.1) ∙ ap₂ high_low c.0 v.0

-- ---- extents

-- what the code says of the index behind the part that ends at `end`
abbrev Extends : Extended → Bytes → ℕ → Bool → ℕ → Names → Type 0
Extends r y end bound d names = ExtentIs r bound names (index_at y end d) × (says_outside r ≡ index_outside y end d names)

says_so : (r : Extended) (bound : Bool) (names : Names) (i : Index) → ExtentIs r bound names i → says_outside r ≡ any_outside names (index_constants i)
says_so (Ok e) bound names i h = sym h.0
says_so (Err e) bound names i h = sym h

module _ (r : Extended) (y : Bytes) (end : ℕ) (bound : Bool) (d : ℕ) (names : Names) where
  extends_by : (i : Index) → index_at y end d ≡ i → ExtentIs r bound names i → Extends r y end bound d names
  extends_by i q h =
      let t : ExtentIs r bound names (index_at y end d) = subst (ExtentIs r bound names) (sym q) h in
      (t, says_so r bound names (index_at y end d) t)

pub extent_whole : (y : Bytes) (end : ℕ) (bound : Bool) (d : ℕ) (names : Names) → follows y end ≡ false → Extends (Ok extent.Whole) y end bound d names
unfolding any_outside index_constants lvalue_extent
extent_whole y end bound d names f = extends_by (Ok extent.Whole) y end bound d names whole (index_none y end d f) (refl, refl)

module _ (y : Bytes) (end : ℕ) (bound : Bool) (d : ℕ) (names : Names) (f : follows y end ≡ true) {a : ℕ} (qa : a ≡ part_end y (end + 1))
    (h : Answer) (ch : worth h ≡ value names (decode_expr d (piece y end a))) where
  second_here : {t : Bool} → follows y a ≡ t → follows y (next_end y end) ≡ t
  unfolding next_end
  second_here g = ap (λ (n : ℕ). follows y n) (sym qa) ∙ g

  first_here : expr_at y end d ≡ decode_expr d (piece y end a)
  unfolding next_end
  first_here = ap (λ (n : ℕ). decode_expr d (piece y end n)) (sym qa)

  -- one index
  one_here : follows y a ≡ false → index_at y end d ≡ at_bit (decode_expr d (piece y end a))
  one_here g = index_one y end d f (second_here g) ∙ ap at_bit first_here

  -- two
  two_here : follows y a ≡ true → {b : ℕ} → b ≡ part_end y (a + 1) → index_at y end d ≡ high_low (decode_expr d (piece y end a)) (decode_expr d (piece y a b))
  unfolding next_end
  two_here g qb =
      index_two y end d f (second_here g)
      ∙ ap₂ high_low first_here (ap (λ (n : ℕ). decode_expr d (piece y n (part_end y (n + 1)))) (sym qa) ∙ ap (λ (n : ℕ). decode_expr d (piece y a n)) (sym qb))

  pub extent_out : {w : Outside} {r : Extended} → h ≡ Err w → r ≡ Err (record {}) → Extends r y end bound d names
  unfolding any_outside index_constants
  extent_out {r = r} o p = go (follows y a) refl
    where
      out : is_outside (value names (decode_expr d (piece y end a))) ≡ true
      out = ap is_outside (sym ch ∙ ap worth o)

      go : (t : Bool) → follows y a ≡ t → Extends r y end bound d names
      go false g = extends_by r y end bound d names _ (one_here g) (rw p (rw out))
      go true g = extends_by r y end bound d names _ (two_here g refl) (rw p (rw out))

  module _ {c : Option ℕ} (o : h ≡ Ok c) where
    first_told : value names (decode_expr d (piece y end a)) ≡ value_of c
    first_told = sym ch ∙ ap worth o ∙ told c

    first_inside : is_outside (value names (decode_expr d (piece y end a))) ≡ false
    first_inside = ap is_outside (sym ch ∙ ap worth o) ∙ inside c

    pub extent_bit : follows y a ≡ false → (x : Extent) → extent_of x ≡ bit_extent bound (value_of c) → Extends (Ok x) y end bound d names
    unfolding any_outside index_constants lvalue_extent
    extent_bit g x w = extends_by (Ok x) y end bound d names _ (one_here g) (rw first_inside, w ∙ ap (bit_extent bound) (sym first_told))

    module _ (g : follows y a ≡ true) {b : ℕ} (qb : b ≡ part_end y (a + 1)) (m : Answer) (cm : worth m ≡ value names (decode_expr d (piece y a b))) where
      pub extent_second_out : {w : Outside} {r : Extended} → m ≡ Err w → r ≡ Err (record {}) → Extends r y end bound d names
      unfolding any_outside index_constants
      extent_second_out {r = r} n p =
          let out : is_outside (value names (decode_expr d (piece y a b))) ≡ true = ap is_outside (sym cm ∙ ap worth n) in
          extends_by r y end bound d names _ (two_here g qb) (rw p (rw out (or-true (is_outside (value names (decode_expr d (piece y end a)))))))

      pub extent_range : {e : Option ℕ} → m ≡ Ok e → (x : Extent) → extent_of x ≡ range_extent bound (value_of c) (value_of e)
          → Extends (Ok x) y end bound d names
      unfolding any_outside index_constants lvalue_extent
      extent_range {e} n x w =
          let second_inside : is_outside (value names (decode_expr d (piece y a b))) ≡ false = ap is_outside (sym cm ∙ ap worth n) ∙ inside e in
          let second_told : value names (decode_expr d (piece y a b)) ≡ value_of e = sym cm ∙ ap worth n ∙ told e in
          extends_by (Ok x) y end bound d names _ (two_here g qb) (
            rw (first_inside, second_inside),
            w ∙ ap (λ (z : Value). range_extent bound z (value_of e)) (sym first_told)
                ∙ ap (range_extent bound (value names (decode_expr d (piece y end a)))) (sym second_told),
          )

-- ---- what a drive adds, by what driving does

abbrev drive_own : Bool → Names → LValue → Driving → Own → Own
drive_own bound names lv v o =
    record {
      sites = o.sites ++ drive_site v bound names lv;
      pairs = o.pairs;
      outputs = o.outputs;
      regs = o.regs;
      mems = o.mems;
      misuses = add_all same_misused (drive_misuse v lv) o.misuses;
    }

module _ (bound : Bool) (header : List Header) (names : Names) (lv : LValue) (e : Expr) (v : Driving) (q : driving (kind_of header lv.name) ≡ v) where
  drive_line_own : (o : Own) → own_line bound header names (drive lv e) o ≡ drive_own bound names lv v o
  unfolding own_line line_sites line_pairs line_outputs line_regs line_mems line_misuses add_all
  drive_line_own o = ap (λ (u : Driving). drive_own bound names lv u o) q

  pub drive_line_constants : line_constants header (drive lv e) ≡ drive_constants v lv.index
  unfolding line_constants
  drive_line_constants = ap (λ (u : Driving). drive_constants u lv.index) q

  drive_by : any_outside names (drive_constants v lv.index) ≡ false → (text : Bytes) (own : List ℕ) (o : Own) → Held text own (drive_own bound names lv v o)
      → OwnAfter true text own bound header names (drive lv e) o
  drive_by c text own o h =
      let k : Held text own (own_line bound header names (drive lv e) o) = rw (drive_line_own o) h in
      (rw drive_line_constants c, k, held_within text own (own_line bound header names (drive lv e) o) k)

  drive_over : (o : Own) → ltb 1024 (length (o.sites ++ drive_site v bound names lv)) ≡ true → over_own (own_line bound header names (drive lv e) o) ≡ true
  unfolding over_own
  drive_over o l = ap over_own (drive_line_own o) ∙ rw l

true_right : (a b : Bool) → b ≡ true → a || b ≡ true
true_right a b e = rw e (or-true a)

-- ---- the drive of an output

module _ (y : Bytes) (l : Named) (bound : Bool) (d : ℕ) (names : Names) (x : Extended) (hx : ExtentIs x bound names (index_at y l.end d)) where
  extent_told : (lv : LValue) → ShowsLValue y d lv → NamedIs l y lv.name lv.start (show_index lv.index) → (z : Extended) → x ≡ z → ExtentIs z bound names lv.index
  extent_told lv p n z q =
      let t : ExtentIs x bound names lv.index = subst (ExtentIs x bound names) (index_read y l.end d lv.index n.behind p.deep) hx in
      rw q at t

  pub output_outside : (own own' : List ℕ) {z : Outside} → x ≡ Err z → DriveOutput false y l bound d names own own'
  output_outside own own' {z} q lv e p n header k text o h =
      let t = extent_told lv p n (Err z) q in
      rw (drive_line_constants bound header names lv e an_output (ap driving k), t)

  module _ (own own' : List ℕ) (w : Extent) (q : x ≡ Ok w) (r : Stored) (size : length own' ≡ length own)
      (s : length own ≡ table.places → added r (own_of own') ≡ add_site (site_of (record { name = l.name; extent = w; start = l.start })) (own_of own)) where
    abbrev new_site : Site
    new_site = site_of (record { name = l.name; extent = w; start = l.start })

    site_told : (lv : LValue) → ShowsLValue y d lv → NamedIs l y lv.name lv.start (show_index lv.index) → new_site ∷ [] ≡ drive_site an_output bound names lv
    site_told lv p n = let t = (extent_told lv p n (Ok w) q).1 in λ i. record { name = n.name i; extent = t i; start = n.start i } ∷ []

    -- there is room, or there is none
    site_room : (o : Own) → (own_of own).sites ≡ o.sites → ltb (length o.sites) 1024 ≡ true
        → add_site new_site (own_of own) ≡ added stored.Done (record { sites = (own_of own).sites ++ new_site ∷ []; pairs = (own_of own).pairs; outputs = (own_of own).outputs; regs = (own_of own).regs; mems = (own_of own).mems; misuses = (own_of own).misuses; conflicts = (own_of own).conflicts })
    unfolding add_site grown
    site_room o h e = let f : ltb (length (own_of own).sites) 1024 ≡ true = ap (λ (z : List Site). ltb (length z) 1024) h ∙ e in rw (f, add_site, grown, room)

    site_over : (o : Own) → (own_of own).sites ≡ o.sites → ltb (length o.sites) 1024 ≡ false → (add_site new_site (own_of own)).answer ≡ 20
    unfolding add_site
    site_over o h e = let f : ltb (length (own_of own).sites) 1024 ≡ false = ap (λ (z : List Site). ltb (length z) 1024) h ∙ e in rw (f, add_site, room)

    module _ (lv : LValue) (e : Expr) (p : ShowsLValue y d lv) (n : NamedIs l y lv.name lv.start (show_index lv.index)) (header : List Header)
        (k : kind_of header lv.name ≡ some out_kind) (text : Bytes) (o : Own) (h : Held text own o) where
      done_room : ltb (length o.sites) 1024 ≡ true → OwnAfter true text own' bound header names (drive lv e) o
      unfolding add_all
      done_room f =
          let g = s h.sized ∙ site_room o h.sites f in
          let u : (own_of own).sites ++ new_site ∷ [] ≡ o.sites ++ drive_site an_output bound names lv =
          ap (λ (z : List Site). z ++ new_site ∷ []) h.sites ∙ ap (λ (z : List Site). o.sites ++ z) (site_told lv p n) in
          drive_by bound header names lv e an_output (ap driving k) (extent_told lv p n (Ok w) q).0 text own' o
          (held_sites text own own' o h size ((own_of own).sites ++ new_site ∷ []) (ap (λ (z : table.Added table.Own). z.own) g) (o.sites ++ drive_site an_output bound names lv) u)

      full_over : ltb (length o.sites) 1024 ≡ false → OwnAfter false text own' bound header names (drive lv e) o
      full_over f =
          let a = ltb-false (length o.sites) 1024 f in
          let b : ltb 1024 (length (o.sites ++ drive_site an_output bound names lv)) ≡ true =
          lt-ltb 1024 (length (o.sites ++ drive_site an_output bound names lv)) (omega (arith, length-append o.sites (drive_site an_output bound names lv))) in
          true_right (any_outside names (line_constants header (drive lv e))) (over_own (own_line bound header names (drive lv e) o))
          (drive_over bound header names lv e an_output (ap driving k) o b)

      is_done : r ≡ stored.Done → (b : Bool) → ltb (length o.sites) 1024 ≡ b → OwnAfter true text own' bound header names (drive lv e) o
      is_done rd true f = done_room f
      is_done rd false f =
          let x : ◌≡◌ {A = ℕ} 0 20 = ap table.number_of (sym rd) ∙ ap (λ (u : table.Added table.Own). u.answer) (s h.sized) ∙ site_over o h.sites f in
          absurd (omega arith)

      is_full : r ≡ stored.Full → (b : Bool) → ltb (length o.sites) 1024 ≡ b → OwnAfter false text own' bound header names (drive lv e) o
      is_full rf false f = full_over f
      is_full rf true f =
          let x : ◌≡◌ {A = ℕ} 20 0 = ap table.number_of (sym rf) ∙ ap (λ (u : table.Added table.Own). u.answer) (s h.sized ∙ site_room o h.sites f) in
          absurd (omega arith)

    pub output_done : r ≡ stored.Done → DriveOutput true y l bound d names own own'
    output_done rd lv e p n header k text o h = is_done lv e p n header k text o h rd (ltb (length o.sites) 1024) refl

    pub output_full : r ≡ stored.Full → DriveOutput false y l bound d names own own'
    output_full rf lv e p n header k text o h = is_full lv e p n header k text o h rf (ltb (length o.sites) 1024) refl

-- ---- a drive line, by the kind of its name

module _ (x : Bytes) (bound : Bool) (d : ℕ) (kinds : List ℕ) (names : Names) (own : List ℕ) {a : ℕ} (qa : a ≡ part_end x 7) {y : Bytes} (qy : y ≡ piece x 6 a)
    (l : Named) (nl : NamedAt l y 3) {k : ℕ} (qk : k ≡ get_or kinds l.name 0) where
  line_named : (lv : LValue) (e : Expr) → ShowsItem x d (drive lv e) → NamedIs l y lv.name lv.start (show_index lv.index)
  line_named lv e p = lvalue_named y d lv (drive_lvalue x d lv e p qa qy) l nl

  line_kind : (lv : LValue) (e : Expr) → ShowsItem x d (drive lv e) → (header : List Header) → KindsOf kinds header → kind_of header lv.name ≡ kind_word k
  line_kind lv e p header w = kind_here kinds lv.name header w (line_named lv e p).name qk

  pub line_output : k ≡ 2 → (r : Bool) (own' : List ℕ) → DriveOutput r y l bound d names own own' → DriveLine r x bound d kinds names own own'
  line_output z r own' f lv e p header w text o h =
      f lv e (drive_lvalue x d lv e p qa qy) (line_named lv e p) header (line_kind lv e p header w ∙ ap kind_word z) text o h

  pub line_other : driving (kind_word k) ≡ nothing → DriveLine true x bound d kinds names own own
  unfolding add_all any_outside
  line_other z lv e p header w text o h =
      let g : drive_own bound names lv nothing o ≡ o =
      λ i. record { sites = append-nil o.sites i; pairs = o.pairs; outputs = o.outputs; regs = o.regs; mems = o.mems; misuses = o.misuses } in
      drive_by bound header names lv e nothing (ap driving (line_kind lv e p header w) ∙ z) refl text own o (rw g h)

  module _ (m : Misuse) (own' : List ℕ) (size : length own' ≡ length own)
      (s : length own ≡ table.places → own_of own' ≡ add_misuse (record { name = l.name; start = l.start; misuse = misuse_of m }) (own_of own)) where
    line_misused : (v : Driving) → driving (kind_word k) ≡ v → ((lv : LValue) → drive_site v bound names lv ≡ []) → ((i : Index) → any_outside names (drive_constants v i) ≡ false)
        → ((lv : LValue) → drive_misuse v lv ≡ record { name = lv.name; start = lv.start; misuse = misuse_of m } ∷ []) → DriveLine true x bound d kinds names own own'
    unfolding add_all
    line_misused v z ds dc dm lv e p header w text o h =
        let n = line_named lv e p in
        let c : Misused = record { name = l.name; start = l.start; misuse = misuse_of m } in
        let small = (drive_lvalue x d lv e p qa qy).name in
        let u : c ∷ [] ≡ drive_misuse v lv = (λ i. record { name = n.name i; start = n.start i; misuse = misuse_of m } ∷ []) ∙ sym (dm lv) in
        let t : o.sites ≡ o.sites ++ drive_site v bound names lv = sym (append-nil o.sites) ∙ ap (λ (z : List Site). o.sites ++ z) (sym (ds lv)) in
        let g : with_block [] (c ∷ []) o ≡ drive_own bound names lv v o =
        λ i. record { sites = t i; pairs = o.pairs; outputs = o.outputs; regs = o.regs; mems = o.mems; misuses = add_all same_misused (u i) o.misuses } in
        drive_by bound header names lv e v (ap driving (line_kind lv e p header w) ∙ z) (dc lv.index) text own' o
        (rw g at (held_misuse text own own' o h size c (omega (arith, n.name)) (s h.sized)))

  module _ (own' : List ℕ) (size : length own' ≡ length own) where
    pub line_wire : k ≡ 3 → (length own ≡ table.places → own_of own' ≡ add_misuse (record { name = l.name; start = l.start; misuse = misuse_of misuse.Wire }) (own_of own))
        → DriveLine true x bound d kinds names own own'
    unfolding any_outside
    line_wire z s = line_misused misuse.Wire own' size s a_wire (ap (λ (j : ℕ). driving (kind_word j)) z) (λ lv. refl) (λ i. refl) (λ lv. refl)

    pub line_reg : k ≡ 4 → (length own ≡ table.places → own_of own' ≡ add_misuse (record { name = l.name; start = l.start; misuse = misuse_of misuse.Reg }) (own_of own))
        → DriveLine true x bound d kinds names own own'
    unfolding any_outside
    line_reg z s = line_misused misuse.Reg own' size s a_reg (ap (λ (j : ℕ). driving (kind_word j)) z) (λ lv. refl) (λ i. refl) (λ lv. refl)

    pub line_mem : k ≡ 5 → (length own ≡ table.places → own_of own' ≡ add_misuse (record { name = l.name; start = l.start; misuse = misuse_of misuse.Mem }) (own_of own))
        → DriveLine true x bound d kinds names own own'
    unfolding any_outside
    line_mem z s = line_misused misuse.Mem own' size s a_mem (ap (λ (j : ℕ). driving (kind_word j)) z) (λ lv. refl) (λ i. refl) (λ lv. refl)

  -- whether a constant of the line is outside INT
  pub outside_other : (k ≡ 2 → ⊥) → (lv : LValue) (e : Expr) → ShowsItem x d (drive lv e) → (header : List Header) → KindsOf kinds header → false ≡ any_outside names (line_constants header (drive lv e))
  unfolding any_outside
  outside_other z lv e p header w = go k (line_kind lv e p header w) z
    where
      by : (v : Driving) → driving (kind_of header lv.name) ≡ v → any_outside names (drive_constants v lv.index) ≡ false → false ≡ any_outside names (line_constants header (drive lv e))
      by v q c = sym (rw (drive_line_constants bound header names lv e v q) c)

      go : (j : ℕ) → kind_of header lv.name ≡ kind_word j → (j ≡ 2 → ⊥) → false ≡ any_outside names (line_constants header (drive lv e))
      go zero q f = by nothing (ap driving q) refl
      go (suc zero) q f = by nothing (ap driving q) refl
      go (suc (suc zero)) q f = absurd (f refl)
      go (suc (suc (suc zero))) q f = by a_wire (ap driving q) refl
      go (suc (suc (suc (suc zero)))) q f = by a_reg (ap driving q) refl
      go (suc (suc (suc (suc (suc zero))))) q f = by a_mem (ap driving q) refl
      go (suc (suc (suc (suc (suc (suc j)))))) q f = by nothing (ap driving q) refl

  pub outside_index : k ≡ 2 → (lv : LValue) (e : Expr) → ShowsItem x d (drive lv e) → (header : List Header) → KindsOf kinds header
      → index_outside y l.end d names ≡ any_outside names (line_constants header (drive lv e))
  outside_index z lv e p header w =
      ap (λ (i : Index). any_outside names (index_constants i)) (index_read y l.end d lv.index (line_named lv e p).behind (drive_lvalue x d lv e p qa qy).deep)
      ∙ sym (ap (any_outside names) (drive_line_constants bound header names lv e an_output (ap driving (line_kind lv e p header w ∙ ap kind_word z))))

-- ---- one law for each way of `drive_outside`

module _ (x : Bytes) (d : ℕ) (kinds : List ℕ) (names : Names) where
  pub no_drive : (get_or x 1 0 ≡ 100 → ⊥) → false ≡ drive_outside x d kinds names
  unfolding drive_outside
  no_drive f =
      sym (ap (λ (z : Bool). z && (eqb (get_or kinds (driven x).name 0) 2 && index_outside (lvalue_part x) (driven x).end d names)) (ne_eqb (get_or x 1 0) 100 f))

  module _ (b : get_or x 1 0 ≡ 100) {a : ℕ} (qa : a ≡ part_end x 7) {y : Bytes} (qy : y ≡ piece x 6 a) (l : Named) (ql : l ≡ named_at y 3) {k : ℕ} (qk : k ≡ get_or kinds l.name 0) where
    by_kind : (t : Bool) → eqb k 2 ≡ t → (o : Bool) → index_outside y l.end d names ≡ o → t && o ≡ drive_outside x d kinds names
    unfolding drive_outside next_end
    by_kind t p o q =
        let zy : y ≡ lvalue_part x = qy ∙ ap (piece x 6) qa in
        let zl : l ≡ driven x = ql ∙ ap (λ (z : Bytes). named_at z 3) zy in
        let zk : eqb (get_or kinds (driven x).name 0) 2 ≡ t = ap (λ (z : Named). eqb (get_or kinds z.name 0) 2) (sym zl) ∙ ap (λ (n : ℕ). eqb n 2) (sym qk) ∙ p in
        let zo : index_outside (lvalue_part x) (driven x).end d names ≡ o =
        ap (λ (z : Bytes). index_outside z (driven x).end d names) (sym zy) ∙ ap (λ (z : Named). index_outside y z.end d names) (sym zl) ∙ q in
        sym
        (ap (λ (z : Bool). z && (eqb (get_or kinds (driven x).name 0) 2 && index_outside (lvalue_part x) (driven x).end d names)) (eq-eqb (get_or x 1 0) 100 b)
        ∙ ap (λ (z : Bool). z && index_outside (lvalue_part x) (driven x).end d names) zk
        ∙ ap (λ (z : Bool). t && z) zo)

    pub other_kind : (k ≡ 2 → ⊥) → false ≡ drive_outside x d kinds names
    other_kind f = by_kind false (ne_eqb k 2 f) _ refl

    pub output_kind : k ≡ 2 → (v : Extended) → says_outside v ≡ index_outside y l.end d names → (o : Bool) → says_outside v ≡ o → o ≡ drive_outside x d kinds names
    output_kind z v h o q = by_kind true (eq-eqb k 2 z) o (sym h ∙ q)

pub says_err : (r : Extended) → says_outside r ≡ is_err r
says_err (Ok e) = refl
says_err (Err e) = refl

-- on what shows a `drive`, and by the kind of its name
pub drive_means : (x : Bytes) (d : ℕ) (kinds : List ℕ) (names : Names) → get_or x 1 0 ≡ 100 → (lv : LValue) (e : Expr) → ShowsItem x d (drive lv e)
    → (header : List Header) → KindsOf kinds header → drive_outside x d kinds names ≡ any_outside names (line_constants header (drive lv e))
unfolding next_end
drive_means x d kinds names b lv e p header w = go (eqb (get_or kinds (driven x).name 0) 2) refl
  where
    go : (t : Bool) → eqb (get_or kinds (driven x).name 0) 2 ≡ t → drive_outside x d kinds names ≡ any_outside names (line_constants header (drive lv e))
    go false t =
        sym (by_kind x d kinds names b refl refl (driven x) refl refl false t _ refl)
        ∙ outside_other x true d kinds names [] refl refl (driven x) (named_means (lvalue_part x) 3 refl) refl (eqb-false (get_or kinds (driven x).name 0) 2 t) lv e p header w
    go true t =
        sym (by_kind x d kinds names b refl refl (driven x) refl refl true t _ refl)
        ∙ outside_index x true d kinds names [] refl refl (driven x) (named_means (lvalue_part x) 3 refl) refl (eqb-true (get_or kinds (driven x).name 0) 2 t) lv e p header w
