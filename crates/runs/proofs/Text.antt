-- The items of each module of an accepted text are a run of that text.
-- Assumes nothing.
use mathlib.Core.Path.{◌≡◌, refl, ◌∙◌, ap}
use mathlib.Core.Bool.{Bool, true, false, ◌&&◌}
use mathlib.Core.List.{List, [], ◌∷◌}
use mathlib.Core.Option.{some, none-ne-some}
use Prim.Native.Nat.{ℕ, zero, suc, ◌+◌, ◌*◌, ◌-◌, ◌≤◌, ◌<◌}
use native.Mathlib.Omega.{arith}
use lib.ListN.{length, get_or, drop, set, replicate, get_elem?, length-set, length-replicate}
use lib.Seq.{drop-cons, get_or-set_same, get_or-set_other}
use lib.Dec.{eqb, leb}
use borrow.Author.Tests.{eqb-true, leb-true, le-ltb}
use Rattle.spec.specs.Bytes.{Bytes}
use Rattle.spec.specs.Syntax.{Header, Items, Module, Design, Line, module_line, header_line, item_line}
use Rattle.spec.specs.Show.{show_line, header_lines, item_lines, design_lines}
use Rattle.spec.specs.Decode.{depth_limit}
use Rattle.spec.specs.Refusal.{Before, at_start, after_line, tree_fault, item_depth, items_depth, item_in_range, items_in_range, line_in_range, line_depth, lines_in_range, in_range, well_formed, refusal, decode}
use Rattle.spec.proofs.Nodes.{and_parts}
use Rattle.spec.proofs.Reading.{reading}
use Rattle.lines.specs.Tables.{flag, entries, header_size, items_size, header_at, put_mods}
use Rattle.lines.specs.Saying.{Placed, AllPlaced}
use Rattle.lines.specs.Reader.{by_room, by_verdict, mods_after}
use Rattle.lines.proofs.Tabled.{entries_long}
use Rattle.lines.proofs.Said.{entry_other, says}
use Rattle.runs.specs.Run.{RunOf}
use Rattle.runs.specs.Text.{header_in_range, ModuleAt, items_run}
use Rattle.runs.proofs.Run.{lines_run}

-- ---- lines in range

-- a line in range, and that those behind it are
record Ranged (l : Line) (ls : List Line) : Type 0 where
  deep : line_depth l ≤ depth_limit
  range : line_in_range l ≡ true
  b : Before
  later : lines_in_range b ls ≡ true

line_later : (b : Before) (l : Line) (ls : List Line) → lines_in_range b (l ∷ ls) ≡ true → Ranged l ls
unfolding lines_in_range tree_fault
line_later b l ls e =
    let p = and_parts (leb (line_depth l) depth_limit && eqb (tree_fault b l) 0) (lines_in_range (after_line b l) ls) e in
    let q = and_parts (leb (line_depth l) depth_limit) (eqb (tree_fault b l) 0) p.0 in
    record { deep = leb-true (line_depth l) depth_limit q.0; range = go (line_in_range l) refl (eqb-true (tree_fault b l) 0 q.1); b = after_line b l; later = p.1 }
  where
    go : (r : Bool) → line_in_range l ≡ r → tree_fault b l ≡ 0 → line_in_range l ≡ true
    go true r e = r
    go false r e = let z : ◌≡◌ {A = ℕ} 5 0 = rw (r, tree_fault) at e in absurd (omega arith)

record Headed (hs : List Header) (ls : List Line) : Type 0 where
  range : header_in_range hs ≡ true
  b : Before
  later : lines_in_range b ls ≡ true

headers_later : (b : Before) (hs : List Header) (ls : List Line) → lines_in_range b (header_lines hs ls) ≡ true → Headed hs ls
unfolding header_lines header_in_range
headers_later b [] ls e = record { range = refl; b = b; later = e }
headers_later b (h ∷ hs) ls e =
    let r = line_later b (header_line h) (header_lines hs ls) e in
    let q = headers_later r.b hs ls r.later in
    record { range = rw r.range q.range; b = q.b; later = q.later }

record Itemed (is : Items) (ls : List Line) : Type 0 where
  deep : items_depth is ≤ depth_limit
  range : items_in_range is ≡ true
  b : Before
  later : lines_in_range b ls ≡ true

items_later : (b : Before) (is : Items) (ls : List Line) → lines_in_range b (item_lines is ls) ≡ true → Itemed is ls
unfolding item_lines items_depth items_in_range line_depth line_in_range
items_later b Items.none ls e = record { deep = omega arith; range = refl; b = b; later = e }
items_later b (Items.more i is) ls e =
    let r = line_later b (item_line i) (item_lines is ls) e in
    let q = items_later r.b is ls r.later in
    let h : item_depth i ≤ depth_limit = r.deep in
    let f : item_in_range i ≡ true = r.range in
    let g = q.deep in
    record { deep = omega arith; range = rw f q.range; b = q.b; later = q.later }

-- a module of a design in range
record Known (k : Module) : Type 0 where
  header_ranged : header_in_range k.header ≡ true
  ranged : items_in_range k.items ≡ true
  deep : items_depth k.items ≤ depth_limit

module_known : (n : ℕ) (ks : List Module) (m : ℕ) (k : Module) (b : Before) → lines_in_range b (design_lines n ks) ≡ true → get_elem? ks m ≡ some k → Known k
unfolding design_lines
module_known n [] m k b f e = absurd (none-ne-some k e)
module_known n (j ∷ ks) zero k b f e =
    let r = line_later b (module_line n j.bound) _ f in
    let h = headers_later r.b j.header _ r.later in
    let i = items_later h.b j.items (design_lines (suc n) ks) h.later in
    let q : j ≡ k = cc in
    rw (← q) (record { header_ranged = h.range; ranged = i.range; deep = i.deep })
module_known n (j ∷ ks) (suc m) k b f e =
    let r = line_later b (module_line n j.bound) _ f in
    let h = headers_later r.b j.header _ r.later in
    let i = items_later h.b j.items (design_lines (suc n) ks) h.later in
    module_known (suc n) ks m k i.b i.later e

-- ---- places

module_placed : (t : Bytes) (table : List ℕ) (n : ℕ) (ks : List Module) (m : ℕ) (k : Module) → AllPlaced t table n ks → get_elem? ks m ≡ some k → Placed t table (n + m) k
module_placed t table n [] m k a e = absurd (none-ne-some k e)
module_placed t table n (j ∷ ks) zero k a e =
    let q : j ≡ k = cc in
    let z : n + 0 ≡ n = omega arith in
    rw (z, ← q) a.0
module_placed t table n (j ∷ ks) (suc m) k a e =
    let z : n + suc m ≡ suc n + m = omega arith in
    rw z (module_placed t table (suc n) ks m k a.1 e)

mods_frame : (ks : Design) (n o : ℕ) (table : List ℕ) (x : ℕ) → x < n * 4 → get_or (put_mods n o ks table) x 0 ≡ get_or table x 0
unfolding put_mods
mods_frame [] n o table x l = refl
mods_frame (k ∷ ks) n o table x l =
    mods_frame ks (suc n) _ (entries table n _ _ _ _) x (omega arith)
    ∙ entry_other table n _ _ _ _ x (λ z. omega arith) (λ z. omega arith) (λ z. omega arith) (λ z. omega arith)

-- where the items begin, among the places of a module
items_entry : (table : List ℕ) (m b h i e : ℕ) → m * 4 + 3 < length table → get_or (entries table m b h i e) (m * 4 + 2) 0 ≡ i
items_entry table m b h i e l =
    let l1 = length-set table (m * 4) b in
    let l2 = length-set (set table (m * 4) b) (m * 4 + 1) h in
    get_or-set_other (set (set (set table (m * 4) b) (m * 4 + 1) h) (m * 4 + 2) i) (m * 4 + 3) (m * 4 + 2) e 0 (λ z. omega arith)
    ∙ get_or-set_same (set (set table (m * 4) b) (m * 4 + 1) h) (m * 4 + 2) i 0 (omega arith)

-- a module's line stands before its items
items_behind : (ks : Design) (n o : ℕ) (table : List ℕ) (m : ℕ) (k : Module) → (n + length ks) * 4 ≤ length table → get_elem? ks m ≡ some k → 0 < get_or (put_mods n o ks table) ((n + m) * 4 + 2) 0
unfolding put_mods header_at
items_behind [] n o table m k l e = absurd (none-ne-some k e)
items_behind (j ∷ ks) n o table zero k l e =
    let h = o + length (show_line (module_line n j.bound)) + 1 in
    let i = h + header_size j.header in
    let d = i + items_size j.items in
    let z : n + 0 ≡ n = omega arith in
    let f = mods_frame ks (suc n) d (entries table n (flag j.bound) h i d) (n * 4 + 2) (omega arith) in
    let g = items_entry table n (flag j.bound) h i d (omega arith) in
    rw z (omega arith)
items_behind (j ∷ ks) n o table (suc m) k l e =
    let h = o + length (show_line (module_line n j.bound)) + 1 in
    let i = h + header_size j.header in
    let d = i + items_size j.items in
    let z : n + suc m ≡ suc n + m = omega arith in
    rw z (items_behind ks (suc n) d (entries table n (flag j.bound) h i d) m k (rw (entries_long table n (flag j.bound) h i d) (omega arith)) e)

-- ---- the modules of an accepted text

pub module_at : (text : Bytes) (mods : ℕ) → refusal text ≡ well_formed → 128 ≤ mods → (m : ℕ) (k : Module) → get_elem? (decode text) m ≡ some k
    → ModuleAt text (put_mods 0 0 (decode text) (replicate mods 0)) m k
unfolding in_range
module_at text mods a h m k e =
    let r = reading.accepted text a in
    let s = says text 8192 mods a (omega arith) h in
    let q = module_known 0 (decode text) m k at_start r.1 e in
    let f = s.few in
    let z : 0 + m ≡ m = omega arith in
    record {
      short = r.0;
      placed = rw z at (module_placed text (put_mods 0 0 (decode text) (replicate mods 0)) 0 (decode text) m k s.mods_say e);
      before = rw z at (items_behind (decode text) 0 0 (replicate mods 0) m k (rw (length-replicate {A = ℕ} mods 0) (omega arith)) e);
      header_ranged = q.header_ranged;
      ranged = q.ranged;
      deep = q.deep;
    }

-- by the table that the reader leaves
fits : {A : Type 0} (short full : A) (kinds mods : ℕ) → 8192 ≤ kinds → 128 ≤ mods → by_room short full kinds mods ≡ full
unfolding by_room
fits short full kinds mods hk hm = rw (le-ltb kinds 8192 hk, le-ltb mods 128 hm, by_room)

read_mods : (text : Bytes) (mods : List ℕ) (kinds : ℕ) → refusal text ≡ well_formed → 8192 ≤ kinds → 128 ≤ length mods → mods_after mods kinds text ≡ put_mods 0 0 (decode text) (replicate (length mods) 0)
unfolding mods_after
read_mods text mods kinds a hk hm = fits mods _ kinds (length mods) hk hm ∙ ap (by_verdict (λ k n. replicate {A = ℕ} (length mods) 0) (put_mods 0 0 (decode text) (replicate (length mods) 0))) a

pub module_read : (text : Bytes) (mods : List ℕ) (kinds : ℕ) → refusal text ≡ well_formed → 8192 ≤ kinds → 128 ≤ length mods → (m : ℕ) (k : Module) → get_elem? (decode text) m ≡ some k
    → ModuleAt text (mods_after mods kinds text) m k
module_read text mods kinds a hk hm m k e = rw (read_mods text mods kinds a hk hm) (module_at text (length mods) a hm m k e)

-- A module's items are a run of the text.
pub module_run : {text : Bytes} {mods : List ℕ} {m : ℕ} {k : Module} → ModuleAt text mods m k → RunOf depth_limit (items_run text mods m) k.items
module_run {text} {mods} {m} {k} a =
    let i = get_or mods (m * 4 + 2) 0 in
    let e = get_or mods (m * 4 + 3) 0 in
    let o = a.placed.order in
    let b = a.before in
    let n : e - (i - 1) ≡ suc (e - i) = omega arith in
    let j : suc (i - 1) ≡ i = omega arith in
    let l = o.2 in
    let d : drop (i - 1) text ≡ get_or text (i - 1) 0 ∷ drop i text = drop-cons text (i - 1) 0 (omega arith) ∙ ap (λ (x : ℕ). get_or text (i - 1) 0 ∷ drop x text) j in
    rw (n, d, a.placed.items) (lines_run k.items a.ranged (get_or text (i - 1) 0) a.deep)
