-- The name table of a module: it is filled from the module's lines, and an accepted text has room for few of them.
-- Assumes nothing.
use mathlib.Core.Path.{◌≡◌, refl, sym, ◌∙◌, ap, ap₂, subst}
use mathlib.Core.Bool.{true, false}
use mathlib.Core.List.{List, [], ◌∷◌, ◌++◌}
use Prim.Native.Nat.{ℕ, zero, suc, ◌+◌, ◌-◌, ◌*◌, ◌/◌, ◌≤◌, ◌<◌, min}
use native.Mathlib.Omega.{arith}
use lib.IntN.{ℤ, pos, negsuc}
use lib.ListN.{length, get_or, take, drop, length-append, length-take, length-drop, drop_of_length-le, get_or-eq_default}
use lib.Seq.{take_all, take-nil, drop-length}
use borrow.Author.Tests.{ne_eqb}
use Rattle.spec.specs.Bytes.{Bytes, bytes, onto, show_number, show_int, show_form, show_rest}
use Rattle.spec.specs.Syntax.{Expr, lit, truth, name, field, index, if_else, unary, binary, all, Items, port, wire, reg, mem, const, drive, on, inst, repeat, const_if, Header, kind, val, Module, Line, header_line, item_line}
use Rattle.spec.specs.Show.{show_expr, show_item, show_header, show_line, header_lines, item_lines, show_lines}
use Rattle.spec.specs.Decode.{depth_limit}
use Rattle.spec.specs.Refusal.{lines, decode_lines, line_in_range, line_depth, item_in_range, items_in_range, items_depth}
use Rattle.spec.specs.Value.{Value, known, missing, outside, Names, value, Table, val_names, with_value, const_names, own_vals, name_table}
use Rattle.spec.proofs.Nodes.{and_parts}
use Rattle.spec.proofs.Numbers.{Digits, number_digits}
use Rattle.spec.proofs.Shown.{AllIn, decode_show_line, show_line_set}
use Rattle.consteval.specs.Worth.{pairs, names_of, refused_if}
use Rattle.std.specs.Prelude.{Ok, Err, IsErrAnd, MatchResult}
use Rattle.consteval.specs.declared.Outside as bounds
use Rattle.consteval.specs.declared.fill.FillError.{FillError}
use Rattle.consteval.specs.Fill.{Filled, Filling, filling, fill_of, headers_of, items_of, module_of, all_in_range, Right}
use Rattle.consteval.specs.declared.fill.FillError.TheVariants.{Outside, Short, Bad}
use Rattle.consteval.proofs.TableLaws.{fills}
use Rattle.runs.specs.Text.{header_in_range, ModuleAt, items_run}
use Rattle.steps.specs.Modules.{Named, name_places, header_part, items_part, to_named, module_fill, named_by, table_by, NamesAre}

-- ---- bytes of a line

rest_long : (x : Bytes) (xs : List Bytes) → length (show_rest (x ∷ xs)) ≡ suc (length x + length (show_rest xs))
unfolding show_rest
rest_long x xs = ap suc (length-append x (show_rest xs))

rest_end : length (show_rest []) ≡ 1
unfolding show_rest
rest_end = refl

-- a form with two parts that are not empty
two_parts : (w a b : Bytes) → 0 < length a → 0 < length b → length w + 6 ≤ length (show_form w (a ∷ b ∷ []))
unfolding show_form
two_parts w a b h k =
    let p = length-append w (show_rest (a ∷ b ∷ [])) in
    let q = rest_long a (b ∷ []) in
    let r = rest_long b [] in
    let e = rest_end in
    omega arith

digits_some : (s : Bytes) → Digits s → 0 < length s
digits_some [] d = absurd d
digits_some (c ∷ s) d = omega arith

number_some : (n : ℕ) → 0 < length (show_number n)
number_some n = digits_some (show_number n) (number_digits n)

int_some : (z : ℤ) → 0 < length (show_int z)
unfolding show_int
int_some (pos n) = number_some n
int_some (negsuc n) = omega arith

form_some : (w : Bytes) (xs : List Bytes) → 0 < length (show_form w xs)
unfolding show_form
form_some w xs = omega arith

expr_some : (e : Expr) → 0 < length (show_expr e)
unfolding show_expr
expr_some (lit n) = number_some n
expr_some (truth true) = omega arith
expr_some (truth false) = omega arith
expr_some (name n) = form_some _ _
expr_some (field e n) = form_some _ _
expr_some (index e i) = form_some _ _
expr_some (if_else c a b) = form_some _ _
expr_some (unary o a) = form_some _ _
expr_some (binary o a b) = form_some _ _
expr_some (all es) = form_some _ _

line_long : (l : Line) (ls : List Line) → length (show_lines (l ∷ ls)) ≡ length (show_line l) + suc (length (show_lines ls))
unfolding show_lines
line_long l ls = length-append (show_line l) (10 ∷ show_lines ls)

val_long : (n : ℕ) (z : ℤ) → 9 ≤ length (show_line (header_line (val n z)))
unfolding show_line show_header
val_long n z = two_parts (bytes "val") (show_number n) (show_int z) (number_some n) (int_some z)

const_long : (n : ℕ) (e : Expr) → 9 ≤ length (show_line (item_line (const n e)))
unfolding show_line show_item
const_long n e = let h = two_parts (bytes "const") (show_number n) (show_expr e) (number_some n) (expr_some e) in omega arith

-- ---- a name table is no longer than its lines

vals_long : (hs : List Header) (names : Names) → length (val_names names hs) * 10 ≤ length names * 10 + length (show_lines (header_lines hs []))
unfolding val_names header_lines
vals_long [] names = omega arith
vals_long (kind n k ∷ hs) names =
    let h = vals_long hs names in
    let l = line_long (header_line (kind n k)) (header_lines hs []) in
    omega arith
vals_long (val n z ∷ hs) names =
    let h = vals_long hs ((n, z) ∷ names) in
    let l = line_long (header_line (val n z)) (header_lines hs []) in
    let v = val_long n z in
    omega arith

with_long : (t : Table) (n : ℕ) (x : Value) → length (with_value n x t).names ≤ suc (length t.names)
unfolding with_value
with_long t n (known z) = omega arith
with_long t n missing = omega arith
with_long t n outside = omega arith

consts_long : (is : Items) (t : Table) → length (const_names t is).names * 10 ≤ length t.names * 10 + length (show_lines (item_lines is []))
unfolding const_names item_lines
consts_long Items.none t = omega arith
consts_long (Items.more (port d n w s) is) t = omega (arith, consts_long is t, line_long (item_line (port d n w s)) (item_lines is []))
consts_long (Items.more (wire n e s) is) t = omega (arith, consts_long is t, line_long (item_line (wire n e s)) (item_lines is []))
consts_long (Items.more (reg n s) is) t = omega (arith, consts_long is t, line_long (item_line (reg n s)) (item_lines is []))
consts_long (Items.more (mem n s) is) t = omega (arith, consts_long is t, line_long (item_line (mem n s)) (item_lines is []))
consts_long (Items.more (const n e) is) t =
    let x = value t.names e in
    omega (arith, consts_long is (with_value n x t), with_long t n x, line_long (item_line (const n e)) (item_lines is []), const_long n e)
consts_long (Items.more (drive lv e) is) t = omega (arith, consts_long is t, line_long (item_line (drive lv e)) (item_lines is []))
consts_long (Items.more (on s ss) is) t = omega (arith, consts_long is t, line_long (item_line (on s ss)) (item_lines is []))
consts_long (Items.more (inst i) is) t = omega (arith, consts_long is t, line_long (item_line (inst i)) (item_lines is []))
consts_long (Items.more (repeat n l h js) is) t = omega (arith, consts_long is t, line_long (item_line (repeat n l h js)) (item_lines is []))
consts_long (Items.more (const_if c js ks) is) t = omega (arith, consts_long is t, line_long (item_line (const_if c js ks)) (item_lines is []))

-- Each name of a module's table takes ten bytes of its lines.
pub names_long : (k : Module) → length (name_table (own_vals k) k).names * 10 ≤ length (show_lines (header_lines k.header [])) + length (show_lines (item_lines k.items []))
unfolding name_table own_vals
names_long k =
    let h = vals_long k.header [] in
    let i = consts_long k.items (record { names = val_names [] k.header; out = false }) in
    omega arith

-- ---- the lines are the module's

lines_feed : (s t : Bytes) → AllIn s → lines (s ++ 10 ∷ t) ≡ s ∷ lines t
unfolding lines onto
lines_feed [] t h = refl
lines_feed (c ∷ s) t h = rw (ne_eqb c 10 (λ e. omega arith), lines) (ap (onto c) (lines_feed s t h.2))

line_decoded : (l : Line) (ls : List Line) → line_depth l ≤ depth_limit → decode_lines (lines (show_lines ls)) ≡ ls → decode_lines (lines (show_lines (l ∷ ls))) ≡ l ∷ ls
unfolding show_lines decode_lines
line_decoded l ls d e = ap decode_lines (lines_feed (show_line l) (show_lines ls) (show_line_set l)) ∙ ap₂ ◌∷◌ (decode_show_line l d) e

header_decoded : (hs : List Header) → decode_lines (lines (show_lines (header_lines hs []))) ≡ header_lines hs []
unfolding header_lines show_lines lines decode_lines line_depth
header_decoded [] = refl
header_decoded (h ∷ hs) = line_decoded (header_line h) (header_lines hs []) (omega arith) (header_decoded hs)

items_decoded : (is : Items) → items_depth is ≤ depth_limit → decode_lines (lines (show_lines (item_lines is []))) ≡ item_lines is []
unfolding item_lines show_lines lines decode_lines line_depth items_depth
items_decoded Items.none d = refl
items_decoded (Items.more i is) d = line_decoded (item_line i) (item_lines is []) (omega arith) (items_decoded is (omega arith))

headers_back : (hs : List Header) → headers_of (header_lines hs []) ≡ hs
unfolding headers_of header_lines
headers_back [] = refl
headers_back (h ∷ hs) = ap (◌∷◌ h) (headers_back hs)

items_back : (is : Items) → items_of (item_lines is []) ≡ is
unfolding items_of item_lines
items_back Items.none = refl
items_back (Items.more i is) = ap (Items.more i) (items_back is)

header_all : (hs : List Header) → header_in_range hs ≡ true → all_in_range (header_lines hs []) ≡ true
unfolding header_in_range all_in_range header_lines
header_all [] e = refl
header_all (h ∷ hs) e = let p = and_parts (line_in_range (header_line h)) (header_in_range hs) e in rw p.0 (header_all hs p.1)

items_all : (is : Items) → items_in_range is ≡ true → all_in_range (item_lines is []) ≡ true
unfolding items_in_range all_in_range item_lines line_in_range
items_all Items.none e = refl
items_all (Items.more i is) e = let p = and_parts (item_in_range i) (items_in_range is) e in rw p.0 (items_all is p.1)

-- ---- the filled table

pairs_long : (t : List ℕ) (k : ℕ) → length (pairs t k) ≡ k
unfolding pairs
pairs_long t zero = refl
pairs_long t (suc k) = ap suc (pairs_long t k)

names_of_long : (t : List ℕ) (used : ℕ) → length (names_of t used) ≡ min used (length t / 2)
unfolding names_of
names_of_long t used = pairs_long t (min used (length t / 2))

-- of a table with few names and places enough
right_named : (a : Filled) (t : List ℕ) (T : Table) → length T.names * 10 ≤ 32768 → name_places ≤ length t → Right a t T → NamesAre (to_named a) t T
right_named (Ok n) t T few enough r =
    let l = names_of_long t n in
    let m = ap length r.0 in
    let b = r.2 in
    (sym (ap refused_if r.1), (r.0, omega arith))
right_named (Err Outside) t T few enough r = (sym (ap refused_if r), tt)
right_named (Err Short) t T few enough r = absurd (omega arith)
right_named (Err Bad) t T few enough r = absurd r

module _ {text : Bytes} {mods : List ℕ} {m : ℕ} {k : Module} (at : ModuleAt text mods m k) where
  abbrev header : Bytes
  header = header_part text mods m

  abbrev items : Bytes
  items = items_part text mods m

  header_lines_are : decode_lines (lines header) ≡ header_lines k.header []
  header_lines_are = ap (λ (s : Bytes). decode_lines (lines s)) at.placed.header ∙ header_decoded k.header

  item_lines_are : decode_lines (lines items) ≡ item_lines k.items []
  item_lines_are = ap (λ (s : Bytes). decode_lines (lines s)) at.placed.items ∙ items_decoded k.items at.deep

  module_is : module_of k.bound header items ≡ k
  module_is =
      let h : headers_of (decode_lines (lines header)) ≡ k.header = ap headers_of header_lines_are ∙ headers_back k.header in
      let i : items_of (decode_lines (lines items)) ≡ k.items = ap items_of item_lines_are ∙ items_back k.items in
      λ j. record { bound = k.bound; header = h j; items = i j }

  pub module_few : length (name_table (own_vals k) k).names * 10 ≤ 32768
  module_few =
      let o = at.placed.order in
      let s = at.short in
      let n = names_long k in
      let h = ap length at.placed.header in
      let i = ap length at.placed.items in
      let lh = length-take (get_or mods (m * 4 + 2) 0 - get_or mods (m * 4 + 1) 0) (drop (get_or mods (m * 4 + 1) 0) text) in
      let li = length-take (get_or mods (m * 4 + 3) 0 - get_or mods (m * 4 + 2) 0) (drop (get_or mods (m * 4 + 2) 0) text) in
      omega arith

  pub module_right : (names : List ℕ) → Right (module_fill text mods m names).answer (module_fill text mods m names).table (name_table (own_vals k) k)
  module_right names =
      subst (λ (j : Module). Right (module_fill text mods m names).answer (module_fill text mods m names).table (name_table (own_vals j) j)) module_is
      (fills header items names k.bound (ap all_in_range header_lines_are ∙ header_all k.header at.header_ranged) (ap all_in_range item_lines_are ∙ items_all k.items at.ranged))

-- ---- one law for each way of the code

pub entry_none : (mods : List ℕ) (m k : ℕ) → length mods ≤ m * 4 + k → 0 ≡ get_or mods (m * 4 + k) 0
entry_none mods m k h = sym (get_or-eq_default mods 0 h)

module _ (s : Bytes) (from to : ℕ) where
  none_left : take (length s - length s) (drop (length s) s) ≡ []
  none_left = ap (take (length s - length s)) (drop-length s) ∙ take-nil (length s - length s)

  pub stretch_over : length s ≤ from → take (length s - length s) (drop (length s) s) ≡ take (to - from) (drop from s)
  stretch_over h = none_left ∙ sym (ap (take (to - from)) (drop_of_length-le s h) ∙ take-nil (to - from))

  pub stretch_rest : length s < to → take (length s - from) (drop from s) ≡ take (to - from) (drop from s)
  stretch_rest h =
      let l = length-drop from s in
      take_all (length s - from) (drop from s) (omega arith) ∙ sym (take_all (to - from) (drop from s) (omega arith))

  pub stretch_none : to < from → take (length s - length s) (drop (length s) s) ≡ take (to - from) (drop from s)
  stretch_none h = none_left ∙ let z : 0 ≡ to - from = omega arith in ap (λ (n : ℕ). take n (drop from s)) z

-- the other two answers count as outside INT too
pub named_of : (x : Filled) (r : Named) (Q : FillError → bounds.Outside → Type 0) → MatchResult x (λ n. r ≡ Ok n) (λ e. IsErrAnd r (Q e)) → to_named x ≡ r
named_of (Ok n) r Q m = sym m
named_of (Err e) (Ok n) Q m = absurd m
named_of (Err e) (Err o) Q m = refl

module _ (text : Bytes) (mods : List ℕ) (m : ℕ) {i e : ℕ} (qi : i ≡ get_or mods (m * 4 + 2) 0) (qe : e ≡ get_or mods (m * 4 + 3) 0) where
  pub run_later : {s : Bytes} → s ≡ take (e - (i - 1)) (drop (i - 1) text) → s ≡ items_run text mods m
  run_later q = q ∙ ap₂ (λ (x y : ℕ). take (x - (y - 1)) (drop (y - 1) text)) qe qi

  pub run_first : i ≡ 0 → {s : Bytes} → s ≡ take (e - 0) (drop 0 text) → s ≡ items_run text mods m
  run_first z q = run_later (q ∙ let y : 0 ≡ i - 1 = omega arith in ap (λ (x : ℕ). take (e - x) (drop x text)) y)

  -- what filling answers, and the table that it leaves
  module _ (names : List ℕ) {h : ℕ} (qh : h ≡ get_or mods (m * 4 + 1) 0) {s : Bytes} (qs : s ≡ take (i - h) (drop h text)) {u : Bytes} (qu : u ≡ take (e - i) (drop i text))
      {a : Filled} {t : List ℕ} (q : filling a t ≡ fill_of s u names) (l : length t ≡ length names) where
    filled_as : filling a t ≡ module_fill text mods m names
    filled_as = q ∙ ap₂ (λ (x y : Bytes). fill_of x y names)
        (qs ∙ ap₂ (λ (x y : ℕ). take (x - y) (drop y text)) qi qh)
        (qu ∙ ap₂ (λ (x y : ℕ). take (x - y) (drop y text)) qe qi)

    pub names_found : {r : Named} → to_named a ≡ r
        → (r ≡ named_by text mods m names)
        × ((t ≡ table_by text mods m names) × ((k : Module) → ModuleAt text mods m k → name_places ≤ length names → NamesAre r t (name_table (own_vals k) k)))
    names_found {r} z = (
      sym z ∙ ap (λ (f : Filling). to_named f.answer) filled_as,
      (
        ap (λ (f : Filling). f.table) filled_as,
        λ k at enough.
            let T = name_table (own_vals k) k in
            let y = subst (λ (f : Filling). Right f.answer f.table T) (sym filled_as) (module_right at names) in
            subst (λ (n : Named). NamesAre n t T) z (right_named a t T (module_few at) (omega arith) y),
      ),
    )
