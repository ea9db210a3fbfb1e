-- The turns of the loop that fills the tables, one law for each way.
-- Assumes nothing.
use mathlib.Core.Path.{◌≡◌, refl, sym, ap, ap₂, ◌∙◌}
use mathlib.Core.Bool.{Bool, true, false, ◌&&◌, not as opposite, true≢false}
use mathlib.Core.List.{List, [], ◌∷◌, ◌++◌, append_assoc}
use Prim.Native.Nat.{ℕ, zero, suc, ◌+◌, ◌*◌, ◌-◌, ◌≤◌, ◌<◌}
use native.Mathlib.Omega.{arith}
use native.Mathlib.Numerals.{add-one}
use lib.Dec.{eqb, ltb}
use lib.IntN.{ℤ}
use lib.ListN.{length, get_or, drop, set, length-append, length-drop, length-set, drop_of_length-le}
use borrow.Author.Tests.{eq-eqb, ne_eqb, ltb-true, not-true}
use Rattle.spec.specs.Bytes.{Bytes, bytes, show_number, show_rest, show_form}
use Rattle.spec.specs.Syntax.{name_bound, Kind, in_kind, out_kind, wire_kind, reg_kind, mem_kind, inst_kind, Header, kind, val, Items, Design, Line, module_line, header_line, item_line}
use Rattle.spec.specs.Syntax as Syntax
use Rattle.spec.specs.Show.{show_kind, show_bound, show_header, show_line, show_lines, header_lines, item_lines}
use Rattle.spec.specs.Refusal.{lines, Before, in_place, line_in_range, tree_fault, decode_lines, gather, Gathered, decode}
use Rattle.lines.specs.Bytes.{class_of}
use Rattle.std.specs.Prelude.{Option, Some}
use Rattle.lines.specs.Kinds.{byte_of}
use Rattle.lines.specs.Parse.{valued, key, code_after, word_at, kind_of, named_kinds, lookup_key}
use Rattle.lines.specs.Read.{number_after}
use Rattle.lines.specs.Tables.{kind_number, flag, put_header, put_kinds, entries, marked, header_size, items_size, header_at, put_mods, second_behind, second_key, flag_of}
use Rattle.lines.proofs.Filled.{mark_if, header_if, rest_at, rest_of, Filled}
use Rattle.lines.proofs.Laws.{if_case, inside}
use Rattle.lines.specs.declared.parse.Number.{Number}
use Rattle.lines.specs.declared.parse.Word.{Word}
use Rattle.lines.proofs.ReadLaws.{after_some}
use Rattle.lines.proofs.Spelled.{cons_at, cons_next, span_next, all_wordly, word_fine, word_there, number_there}
use Rattle.lines.proofs.Steps.{Passed, headed}
use Rattle.lines.proofs.Turns.{pass_lines}

-- ---- stores

set_set : (l : List ℕ) (i a b : ℕ) → set (set l i a) i b ≡ set l i b
set_set [] i a b = refl
set_set (x ∷ l) zero a b = refl
set_set (x ∷ l) (suc i) a b = ap (◌∷◌ x) (set_set l i a b)

set_comm : (l : List ℕ) (i j a b : ℕ) → (i ≡ j → ⊥) → set (set l i a) j b ≡ set (set l j b) i a
set_comm [] i j a b f = refl
set_comm (x ∷ l) zero zero a b f = absurd (f refl)
set_comm (x ∷ l) zero (suc j) a b f = refl
set_comm (x ∷ l) (suc i) zero a b f = refl
set_comm (x ∷ l) (suc i) (suc j) a b f = ap (◌∷◌ x) (set_comm l i j a b (λ e. f (ap suc e)))

mark_mark : (l : List ℕ) (m a b c d : ℕ) → marked (marked l m a b) m c d ≡ marked l m c d
mark_mark l m a b c d =
    ap (λ (x : List ℕ). set x (m * 4 + 3) d) (set_comm (set l (m * 4 + 2) a) (m * 4 + 3) (m * 4 + 2) b c (λ e. omega arith) ∙ ap (λ (x : List ℕ). set x (m * 4 + 3) b) (set_set l (m * 4 + 2) a c))
    ∙ set_set (set l (m * 4 + 2) c) (m * 4 + 3) b d

-- ---- sizes

header_more : (h : Header) (hs : List Header) → header_size (h ∷ hs) ≡ length (show_line (header_line h)) + 1 + header_size hs
unfolding header_size header_lines show_lines
header_more h hs = let z = length-append (show_line (header_line h)) (10 ∷ show_lines (header_lines hs [])) in omega arith

items_more : (i : Syntax.Item) (is : Items) → items_size (Items.more i is) ≡ length (show_line (item_line i)) + 1 + items_size is
unfolding items_size item_lines show_lines
items_more i is = let z = length-append (show_line (item_line i)) (10 ∷ show_lines (item_lines is [])) in omega arith

header_none : header_size [] ≡ 0
unfolding header_size header_lines show_lines
header_none = refl

items_none : items_size Items.none ≡ 0
unfolding items_size item_lines show_lines
items_none = refl

-- ---- what a line that passed says of what was before it

sound_place : (b : Before) (l : Line) → tree_fault b l ≡ 0 → in_place b l ≡ true
unfolding tree_fault
sound_place b l e = go (line_in_range l) refl (in_place b l) refl
  where
    go : (r : Bool) → line_in_range l ≡ r → (p : Bool) → in_place b l ≡ p → in_place b l ≡ true
    go false r p q = let z : ◌≡◌ {A = ℕ} 5 0 = rw (r, tree_fault) at e in absurd (omega arith)
    go true r false q = let z : ◌≡◌ {A = ℕ} 6 0 = rw (r, q, tree_fault) at e in absurd (omega arith)
    go true r true q = q

both_true : (a b : Bool) → a && b ≡ true → (a ≡ true) × (b ≡ true)
both_true true b e = (refl, e)
both_true false b e = absurd (true≢false (sym e))

module _ (t : Bytes) (at feed : ℕ) (b : Before) where
  pub header_before : (h : Header) → Passed t at feed b (header_line h) → (0 < b.modules) × (b.has_item ≡ false)
  unfolding in_place
  header_before h p = let q = both_true (ltb 0 b.modules) (opposite b.has_item) (sound_place b (header_line h) p.clean) in (ltb-true 0 b.modules q.0, not-true b.has_item q.1)

  pub item_before : (i : Syntax.Item) → Passed t at feed b (item_line i) → 0 < b.modules
  unfolding in_place
  item_before i p = ltb-true 0 b.modules (sound_place b (item_line i) p.clean)

  -- where the next line begins
  next_at : (l : Line) → Passed t at feed b l → at < length t → at + length (show_line l) + 1 ≡ feed + 1
  next_at l p h =
      let f = inside t feed (λ z. let u = p.feed in omega arith) in
      omega (arith, f, ap length p.span, length-drop at t, length-drop (feed + 1) t, length-append (show_line l) (10 ∷ drop (feed + 1) t))

-- ---- the second word of a line

pub second_here : (t : Bytes) (v j : ℕ) → get_or t j 0 ≡ 32 → second_behind (Some (valued v j)) t ≡ (word_at t (j + 1)).key
second_here t v j e = rw (eq-eqb (get_or t j 0) 32 e, second_behind)

pub second_not : (t : Bytes) (v j : ℕ) → (get_or t j 0 ≡ 32 → ⊥) → second_behind (Some (valued v j)) t ≡ 0
second_not t v j e = rw (ne_eqb (get_or t j 0) 32 e, second_behind)

module _ (t : Bytes) (at : ℕ) where
  second_word : (w : Bytes) (n : ℕ) (v z : Bytes) → word_fine w ≡ true → word_fine v ≡ true → drop at t ≡ show_form w (show_number n ∷ v ∷ []) ++ z → second_key t at ≡ key v
  unfolding second_key show_form show_rest
  second_word w n v z f g e =
      let h = headed t at w (show_number n ∷ v ∷ []) z f e in
      let o = cons_at t at 40 _ e in
      let b = h.1 in
      let c = cons_at t (at + 1 + length w) 32 _ b in
      let d : drop (at + 1 + length w + 1) t ≡ show_number n ++ ((32 ∷ v ++ 41 ∷ []) ++ z) = cons_next t (at + 1 + length w) 32 _ b ∙ append_assoc (show_number n) (32 ∷ v ++ 41 ∷ []) z in
      let x = number_there t (at + 1 + length w + 1) n _ d (unfold class_of in refl) in
      let j = at + 1 + length w + 1 + length (show_number n) in
      let k = span_next t (at + 1 + length w + 1) (show_number n) _ d in
      let l = cons_at t j 32 _ k in
      let m : drop (j + 1) t ≡ v ++ (41 ∷ z) = cons_next t j 32 _ k ∙ append_assoc v (41 ∷ []) z in
      let y = word_there v t (j + 1) (41 ∷ z) g m (unfold class_of in refl) in
      let num : number_after t (word_at t (at + 1)).next ≡ Some (valued x.value j) = ap (λ (u : Word). number_after t u.next) h.0 ∙ sym (after_some t (at + 1 + length w) c) ∙ x.is in
      rw (o, second_key) (ap (λ (u : Option Number). second_behind u t) num ∙ second_here t x.value j l ∙ ap (λ (u : Word). u.key) y)

  pub second_kind : (feed : ℕ) (b : Before) (n : ℕ) (k : Kind) → Passed t at feed b (header_line (kind n k)) → byte_of (kind_of (second_key t at)) ≡ kind_number k
  unfolding show_line show_header
  second_kind feed b n k p = ap (λ (z : ℕ). byte_of (kind_of z)) (second_word (bytes "kind") n (show_kind k) (10 ∷ drop (feed + 1) t) (unfold all_wordly class_of in refl) (kind_fine k).0 p.span) ∙ (kind_fine k).1
    where
      kind_fine : (k : Kind) → (word_fine (show_kind k) ≡ true) × (byte_of (kind_of (key (show_kind k))) ≡ kind_number k)
      kind_fine in_kind = unfold all_wordly class_of kind_of named_kinds lookup_key key code_after in (refl, refl)
      kind_fine out_kind = unfold all_wordly class_of kind_of named_kinds lookup_key key code_after in (refl, refl)
      kind_fine wire_kind = unfold all_wordly class_of kind_of named_kinds lookup_key key code_after in (refl, refl)
      kind_fine reg_kind = unfold all_wordly class_of kind_of named_kinds lookup_key key code_after in (refl, refl)
      kind_fine mem_kind = unfold all_wordly class_of kind_of named_kinds lookup_key key code_after in (refl, refl)
      kind_fine inst_kind = unfold all_wordly class_of kind_of named_kinds lookup_key key code_after in (refl, refl)

  pub second_bound : (feed : ℕ) (b : Before) (m : ℕ) (d : Bool) → Passed t at feed b (module_line m d) → flag_of (second_key t at) ≡ flag d
  unfolding show_line
  second_bound feed b m d p = ap flag_of (second_word (bytes "module") m (show_bound d) (10 ∷ drop (feed + 1) t) (unfold all_wordly class_of in refl) (bound_fine d).0 p.span) ∙ (bound_fine d).1
    where
      bound_fine : (d : Bool) → (word_fine (show_bound d) ≡ true) × (flag_of (key (show_bound d)) ≡ flag d)
      bound_fine true = unfold all_wordly class_of flag_of key code_after in (refl, refl)
      bound_fine false = unfold all_wordly class_of flag_of key code_after in (refl, refl)

pub key_not : (t : Bytes) (at : ℕ) → (get_or t at 0 ≡ 40 → ⊥) → 0 ≡ second_key t at
unfolding second_key
key_not t at f = rw (ne_eqb (get_or t at 0) 40 f, second_key)

pub key_here : (t : Bytes) (at : ℕ) → get_or t at 0 ≡ 40 → second_behind (number_after t (word_at t (at + 1)).next) t ≡ second_key t at
unfolding second_key
key_here t at f = rw (eq-eqb (get_or t at 0) 40 f, second_key)

-- ---- the turns

module _ (modules : ℕ) where
  pub mark_some : (i e : ℕ) (table : List ℕ) → 0 < modules → mark_if modules i e table ≡ marked table (modules - 1) i e
  unfolding mark_if
  mark_some i e table h = rw (ne_eqb modules 0 (λ z. omega arith), mark_if)

  header_some : (hs : List Header) (table : List ℕ) → 0 < modules → header_if modules hs table ≡ put_header (modules - 1) hs table
  unfolding header_if
  header_some hs table h = rw (ne_eqb modules 0 (λ z. omega arith), header_if)

  rest_some : (at : ℕ) (g : Gathered) → 0 < modules → rest_at modules at g ≡ at + header_size g.header + items_size g.items
  unfolding rest_at
  rest_some at g h = rw (ne_eqb modules 0 (λ z. omega arith), rest_at)

  rest_flat : (at : ℕ) (g : Gathered) → header_size g.header ≡ 0 → items_size g.items ≡ 0 → rest_at modules at g ≡ at
  unfolding rest_at
  rest_flat at g s u = if_case (λ (x : ℕ). x ≡ at) (eqb modules 0) at (at + header_size g.header + items_size g.items) (λ _. refl) (λ _. omega arith)

  header_flat : (table : List ℕ) → header_if modules [] table ≡ table
  unfolding header_if put_header
  header_flat table = if_case (λ (x : List ℕ). x ≡ table) (eqb modules 0) table table (λ _. refl) (λ _. refl)

pub entries_long : (table : List ℕ) (m b h i e : ℕ) → length (entries table m b h i e) ≡ length table
entries_long table m b h i e =
    length-set (set (set (set table (m * 4) b) (m * 4 + 1) h) (m * 4 + 2) i) (m * 4 + 3) e ∙ length-set (set (set table (m * 4) b) (m * 4 + 1) h) (m * 4 + 2) i
    ∙ length-set (set table (m * 4) b) (m * 4 + 1) h ∙ length-set table (m * 4) b

pub filled_start : (t : Bytes) (kinds mods : List ℕ) → Filled t 0 0 false 0 kinds mods kinds mods
unfolding rest_of decode header_if mark_if rest_at
filled_start t kinds mods = record { kinds_rest = refl; mods_rest = refl; still = refl; first_here = λ e. refl; kinds_long = refl; mods_long = refl }

module _ (t : Bytes) (at modules : ℕ) (items : Bool) (first : ℕ) (kinds₀ mods₀ kinds mods : List ℕ) (f : Filled t at modules items first kinds₀ mods₀ kinds mods) (h : at < length t) (feed : ℕ) (ks : List ℕ) where
  abbrev before : Before
  before = record { modules = modules; has_item = items; kinds = ks }

  gathered : (l : Line) → Passed t at feed before l → rest_of t at ≡ gather (l ∷ decode_lines (lines (drop (feed + 1) t)))
  unfolding rest_of
  gathered l p = ap gather (pass_lines t at feed before l p)

  -- a line of the last module: its kinds and its places go on
  goes_on : (x : ℕ) (kinds' : List ℕ) → 0 < modules
      → header_if modules (rest_of t at).header kinds ≡ header_if modules (rest_of t (feed + 1)).header kinds'
      → (rest_of t at).modules ≡ (rest_of t (feed + 1)).modules
      → first + header_size (rest_of t at).header ≡ x + header_size (rest_of t (feed + 1)).header
      → at + header_size (rest_of t at).header + items_size (rest_of t at).items ≡ feed + 1 + header_size (rest_of t (feed + 1)).header + items_size (rest_of t (feed + 1)).items
      → length kinds' ≡ length kinds
      → (items' : Bool) → (items' ≡ false → x ≡ feed + 1)
      → Filled t (feed + 1) modules items' x kinds₀ mods₀ kinds' (marked mods (modules - 1) x (feed + 1))
  goes_on x kinds' z hk hm hx he hl items' hf =
      let g = rest_of t at in
      let g' = rest_of t (feed + 1) in
      let r : rest_at modules at g ≡ rest_at modules (feed + 1) g' = rest_some modules at g z ∙ he ∙ sym (rest_some modules (feed + 1) g' z) in
      record {
        kinds_rest = f.kinds_rest ∙ ap₂ (put_kinds modules) hm hk;
        mods_rest =
            f.mods_rest
            ∙ ap₂ (λ (ms : Design) (tb : List ℕ). put_mods modules (rest_at modules at g) ms tb) hm
            (mark_some modules (first + header_size g.header) (rest_at modules at g) mods z ∙ ap₂ (marked mods (modules - 1)) hx r
            ∙ sym (mark_mark mods (modules - 1) x (feed + 1) (x + header_size g'.header) (rest_at modules (feed + 1) g'))
            ∙ sym (mark_some modules (x + header_size g'.header) (rest_at modules (feed + 1) g') (marked mods (modules - 1) x (feed + 1)) z))
            ∙ ap (λ (o : ℕ). put_mods modules o g'.modules (mark_if modules (x + header_size g'.header) (rest_at modules (feed + 1) g') (marked mods (modules - 1) x (feed + 1)))) r;
        still = mark_some modules x (feed + 1) (marked mods (modules - 1) x (feed + 1)) z ∙ mark_mark mods (modules - 1) x (feed + 1) x (feed + 1);
        first_here = hf;
        kinds_long = hl ∙ f.kinds_long;
        mods_long = length-set (set mods ((modules - 1) * 4 + 2) x) ((modules - 1) * 4 + 3) (feed + 1) ∙ length-set mods ((modules - 1) * 4 + 2) x ∙ f.mods_long;
      }

  abbrev rest' : Gathered
  rest' = rest_of t (feed + 1)

  header_turn : (hd : Header) → Passed t at feed before (header_line hd) → (kinds' : List ℕ) → put_header (modules - 1) (hd ∷ rest'.header) kinds ≡ put_header (modules - 1) rest'.header kinds' → length kinds' ≡ length kinds
      → Filled t (feed + 1) modules items (feed + 1) kinds₀ mods₀ kinds' (marked mods (modules - 1) (feed + 1) (feed + 1))
  unfolding rest_of gather
  header_turn hd p kinds' hk hl =
      let b = header_before t at feed before hd p in
      let g = gathered (header_line hd) p in
      let n = next_at t at feed before (header_line hd) p h in
      let z = f.first_here b.1 in
      let gh : (rest_of t at).header ≡ hd ∷ rest'.header = ap (λ (x : Gathered). x.header) g in
      let gi : (rest_of t at).items ≡ rest'.items = ap (λ (x : Gathered). x.items) g in
      let gm : (rest_of t at).modules ≡ rest'.modules = ap (λ (x : Gathered). x.modules) g in
      let s : header_size (rest_of t at).header ≡ length (show_line (header_line hd)) + 1 + header_size rest'.header = ap header_size gh ∙ header_more hd rest'.header in
      let u : items_size (rest_of t at).items ≡ items_size rest'.items = ap items_size gi in
      goes_on (feed + 1) kinds' b.0
      (header_some modules (rest_of t at).header kinds b.0 ∙ ap (λ (x : List Header). put_header (modules - 1) x kinds) gh ∙ hk ∙ sym (header_some modules rest'.header kinds' b.0))
      gm (omega arith) (omega arith) hl items (λ e. refl)

  pub filled_kind : (n : ℕ) (k : Kind) → Passed t at feed before (header_line (kind n k)) → Filled t (feed + 1) modules items (feed + 1) kinds₀ mods₀ (set kinds ((modules - 1) * name_bound + n) (kind_number k)) (marked mods (modules - 1) (feed + 1) (feed + 1))
  unfolding put_header
  filled_kind n k p = header_turn (kind n k) p (set kinds ((modules - 1) * name_bound + n) (kind_number k)) refl (length-set kinds ((modules - 1) * name_bound + n) (kind_number k))

  pub filled_val : (n : ℕ) (v : ℤ) → Passed t at feed before (header_line (val n v)) → Filled t (feed + 1) modules items (feed + 1) kinds₀ mods₀ kinds (marked mods (modules - 1) (feed + 1) (feed + 1))
  unfolding put_header
  filled_val n v p = header_turn (val n v) p kinds refl refl

  pub filled_item : (i : Syntax.Item) → Passed t at feed before (item_line i) → Filled t (feed + 1) modules true first kinds₀ mods₀ kinds (marked mods (modules - 1) first (feed + 1))
  unfolding rest_of gather
  filled_item i p =
      let b = item_before t at feed before i p in
      let g = gathered (item_line i) p in
      let n = next_at t at feed before (item_line i) p h in
      let gh : (rest_of t at).header ≡ rest'.header = ap (λ (x : Gathered). x.header) g in
      let gi : (rest_of t at).items ≡ Items.more i rest'.items = ap (λ (x : Gathered). x.items) g in
      let gm : (rest_of t at).modules ≡ rest'.modules = ap (λ (x : Gathered). x.modules) g in
      let s : header_size (rest_of t at).header ≡ header_size rest'.header = ap header_size gh in
      let u : items_size (rest_of t at).items ≡ length (show_line (item_line i)) + 1 + items_size rest'.items = ap items_size gi ∙ items_more i rest'.items in
      goes_on first kinds b (ap (λ (x : List Header). header_if modules x kinds) gh) gm (omega arith) (omega arith) refl true (λ e. absurd (true≢false e))

  -- a new module
  pub filled_module : (d : Bool) → Passed t at feed before (module_line modules d) → Filled t (feed + 1) (modules + 1) false (feed + 1) kinds₀ mods₀ kinds (entries mods modules (flag d) (feed + 1) (feed + 1) (feed + 1))
  unfolding rest_of gather put_kinds put_mods put_header header_at
  filled_module d p =
      let g = gathered (module_line modules d) p in
      let n = next_at t at feed before (module_line modules d) p h in
      let gh : (rest_of t at).header ≡ [] = ap (λ (x : Gathered). x.header) g in
      let gi : (rest_of t at).items ≡ Items.none = ap (λ (x : Gathered). x.items) g in
      let gm : (rest_of t at).modules ≡ record { bound = d; header = rest'.header; items = rest'.items } ∷ rest'.modules = ap (λ (x : Gathered). x.modules) g in
      let s : header_size (rest_of t at).header ≡ 0 = ap header_size gh ∙ header_none in
      let u : items_size (rest_of t at).items ≡ 0 = ap items_size gi ∙ items_none in
      let fs : first + header_size (rest_of t at).header ≡ first = omega arith in
      let r : rest_at modules at (rest_of t at) ≡ at = rest_flat modules at (rest_of t at) s u in
      let m1 : modules + 1 - 1 ≡ modules = omega arith in
      let some : 0 < modules + 1 = omega arith in
      let hk : header_if modules (rest_of t at).header kinds ≡ kinds = ap (λ (x : List Header). header_if modules x kinds) gh ∙ header_flat modules kinds in
      let mk : mark_if modules (first + header_size (rest_of t at).header) (rest_at modules at (rest_of t at)) mods ≡ mods = ap₂ (λ (x y : ℕ). mark_if modules x y mods) fs r ∙ f.still in
      let H = feed + 1 in
      let I = H + header_size rest'.header in
      let E = I + items_size rest'.items in
      let new = entries mods modules (flag d) H H H in
      let ra : rest_at (modules + 1) H rest' ≡ E = rest_some (modules + 1) H rest' some in
      let ma : mark_if (modules + 1) I (rest_at (modules + 1) H rest') new ≡ entries mods modules (flag d) H I E =
      mark_some (modules + 1) I (rest_at (modules + 1) H rest') new some ∙ ap₂ (λ (x y : ℕ). marked new x I y) m1 ra
      ∙ mark_mark (set (set mods (modules * 4) (flag d)) (modules * 4 + 1) H) modules H H I E in
      record {
        kinds_rest =
            f.kinds_rest ∙ ap₂ (λ (x : Design) (y : List ℕ). put_kinds modules x y) gm hk
            ∙ ap₂ (λ (x y : ℕ). put_kinds x rest'.modules (put_header y rest'.header kinds)) (sym (add-one modules)) (sym m1)
            ∙ ap (put_kinds (modules + 1) rest'.modules) (sym (header_some (modules + 1) rest'.header kinds some));
        mods_rest =
            f.mods_rest ∙ ap₂ (λ (o : ℕ) (y : List ℕ). put_mods modules o (rest_of t at).modules y) r mk ∙ ap (λ (x : Design). put_mods modules at x mods) gm
            ∙ ap (λ (x : ℕ). put_mods (suc modules) (x + header_size rest'.header + items_size rest'.items) rest'.modules (entries mods modules (flag d) x (x + header_size rest'.header) (x + header_size rest'.header + items_size rest'.items))) n
            ∙ ap (λ (x : ℕ). put_mods x E rest'.modules (entries mods modules (flag d) H I E)) (sym (add-one modules))
            ∙ ap₂ (λ (o : ℕ) (y : List ℕ). put_mods (modules + 1) o rest'.modules y) (sym ra) (sym ma);
        still = mark_some (modules + 1) H H new some ∙ ap (λ (x : ℕ). marked new x H H) m1 ∙ mark_mark (set (set mods (modules * 4) (flag d)) (modules * 4 + 1) H) modules H H H H;
        first_here = λ e. refl;
        kinds_long = f.kinds_long;
        mods_long = entries_long mods modules (flag d) H H H ∙ f.mods_long;
      }

-- the tables at the end of the text
pub filled_end : (t : Bytes) (at modules : ℕ) (items : Bool) (first : ℕ) (kinds₀ mods₀ kinds mods : List ℕ) → Filled t at modules items first kinds₀ mods₀ kinds mods → length t ≤ at
    → (kinds ≡ put_kinds 0 (decode t) kinds₀) × (mods ≡ put_mods 0 0 (decode t) mods₀)
unfolding rest_of lines decode_lines gather put_kinds put_mods
filled_end t at modules items first kinds₀ mods₀ kinds mods f h =
    let e : drop at t ≡ [] = drop_of_length-le t h in
    let g : rest_of t at ≡ record { header = []; items = Items.none; modules = [] } = rw e in
    let s : header_size (rest_of t at).header ≡ 0 = ap (λ (x : Gathered). header_size x.header) g ∙ header_none in
    let u : items_size (rest_of t at).items ≡ 0 = ap (λ (x : Gathered). items_size x.items) g ∙ items_none in
    let fs : first + header_size (rest_of t at).header ≡ first = omega arith in
    let r : rest_at modules at (rest_of t at) ≡ at = rest_flat modules at (rest_of t at) s u in (
      sym (f.kinds_rest ∙ ap (λ (x : Gathered). put_kinds modules x.modules (header_if modules x.header kinds)) g ∙ header_flat modules kinds),
      sym (f.mods_rest ∙ ap (λ (x : Gathered). put_mods modules (rest_at modules at (rest_of t at)) x.modules (mark_if modules (first + header_size (rest_of t at).header) (rest_at modules at (rest_of t at)) mods)) g
          ∙ ap₂ (λ (x y : ℕ). mark_if modules x y mods) fs r ∙ f.still),
    )
