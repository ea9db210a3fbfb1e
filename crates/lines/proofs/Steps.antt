-- A step of the reader is right: its fault is the line's lowest, and a line without fault is the tree that it names.
-- Assumes nothing.
use mathlib.Core.Path.{◌≡◌, refl, sym, ap, ap₂, ◌∙◌}
use mathlib.Core.Bool.{Bool, true, false, ◌&&◌, not as opposite, true≢false, and-false}
use mathlib.Core.Logic.{inl, inr}
use mathlib.Core.List.{List, [], ◌∷◌, ◌++◌, append_assoc}
use Prim.Native.Nat.{ℕ, zero, suc, ◌+◌, ◌-◌, ◌≤◌, ◌<◌}
use native.Mathlib.Omega.{arith}
use lib.Dec.{eqb, ltb, leb}
use lib.IntN.{ℤ}
use lib.ListN.{length, get_or, drop}
use lib.Seq.{drop-cons}
use borrow.Author.Tests.{eqb-true, eqb-false, ltb-true, ltb-false, leb-true, leb-false, ne_eqb, lt-ltb, le-ltb, le-leb, lt-leb}
use Rattle.spec.specs.Bytes.{Bytes, bytes, same_bytes, show_number, show_int, show_rest, show_form, onto}
use Rattle.spec.specs.Syntax.{name_bound, Item, port, wire, reg, mem, const, drive, on, inst, repeat, const_if, kind, val, Line, module_line, header_line, item_line}
use Rattle.spec.specs.Syntax as Syntax
use Rattle.spec.specs.Show.{show_kind, show_bound, show_header, show_line, show_item}
use Rattle.spec.specs.Decode.{depth_limit, decode_line}
use Rattle.spec.specs.Refusal.{lines, ends_in_feed, closes, one_form, written, line_in_range, Before, in_place, has_name, first_kind, tree_fault, line_fault, line_depth}
use Rattle.spec.proofs.Parts.{AllIn}
use Rattle.spec.proofs.Shown.{decode_show_line, show_line_form, show_line_set, same_self}
use Rattle.lines.specs.Bytes.{class_of}
use Rattle.std.specs.Prelude.{Option, Some, None, Result, Ok, Err}
use Rattle.lines.specs.Parse.{valued, good, key, code_after, word_at, scan}
use Rattle.lines.specs.Read.{fault_code, closes_at, not_written, number_after, module_step, kind_step, head_step, parsed_step, line_step}
use Rattle.lines.specs.declared.parse.Cat.TheVariants.{L}
use Rattle.lines.specs.declared.parse.Parsed.{Parsed}
use Rattle.lines.specs.declared.parse.Number.{Number}
use Rattle.lines.specs.declared.parse.Word.{Word}
use Rattle.lines.specs.declared.read.Step.{Step}
use Rattle.lines.specs.declared.read.Step.TheVariants.{Module, Kind, Val, Item as ItemStep}
use Rattle.lines.specs.declared.read.Fault.{Fault}
use Rattle.lines.specs.declared.read.Fault.TheVariants.{NotOneForm, BadlyWritten, OutOfRange}
use Rattle.lines.proofs.Laws.{if_case}
use Rattle.lines.proofs.ReadLaws.{head_module, head_none, head_late, head_kind, head_val_late, head_val, head_item, after_some}
use Rattle.lines.proofs.Spelled.{at_cons, cons_at, cons_next, span_next, all_wordly, word_fine, word_there, Caps, number_there}
use Rattle.lines.proofs.Atoms.{Found, bad_not, good_inj}
use Rattle.lines.proofs.Formed.{item_word}
use Rattle.lines.proofs.Sound.{sound}
use Rattle.lines.proofs.Complete.{rest_stops, complete}

-- ---- lines

abbrev pub NoFeed : Bytes → Type 0
NoFeed [] = Unit {0}
NoFeed (c ∷ s) = (c ≡ 10 → ⊥) × NoFeed s

-- the first line of bytes that end in a line feed
pub record Split (s : Bytes) : Type 0 where
  pub line : Bytes
  pub rest : Bytes
  pub span : s ≡ line ++ 10 ∷ rest
  pub clean : NoFeed line
  pub rows : lines s ≡ line ∷ lines rest
  pub ends : ends_in_feed rest ≡ true

pub behind_feed : (s : Bytes) → ends_in_feed (10 ∷ s) ≡ true → ends_in_feed s ≡ true
unfolding ends_in_feed
behind_feed [] e = refl
behind_feed (c ∷ s) e = e

more_split : (c : ℕ) (s : Bytes) → (c ≡ 10 → ⊥) → Split s → Split (c ∷ s)
unfolding lines onto
more_split c s f r = record {
  line = c ∷ r.line;
  rest = r.rest;
  span = ap (◌∷◌ c) r.span;
  clean = (f, r.clean);
  rows = rw (ne_eqb c 10 f, lines) (ap (onto c) r.rows);
  ends = r.ends;
}

feed_split : (s : Bytes) → ends_in_feed (10 ∷ s) ≡ true → Split (10 ∷ s)
unfolding lines
feed_split s e = record { line = []; rest = s; span = refl; clean = tt; rows = refl; ends = behind_feed s e }

split : (c : ℕ) (s : Bytes) → ends_in_feed (c ∷ s) ≡ true → Split (c ∷ s)
unfolding ends_in_feed
split c [] e = rw (eqb-true c 10 e) (feed_split [] refl)
split c (d ∷ s) e = go (eqb c 10) refl (split d s e)
  where
    go : (b : Bool) → eqb c 10 ≡ b → Split (d ∷ s) → Split (c ∷ d ∷ s)
    go true q r = rw (eqb-true c 10 q) (feed_split (d ∷ s) e)
    go false q r = more_split c (d ∷ s) (eqb-false c 10 q) r

pub split_at : (t : Bytes) (i : ℕ) → i < length t → ends_in_feed (drop i t) ≡ true → Split (drop i t)
split_at t i h e = rw (drop-cons t i 0 h) (split (get_or t i 0) (drop (suc i) t) (rw (drop-cons t i 0 h) at e))

pub lines_feed : (s t : Bytes) → AllIn s → lines (s ++ 10 ∷ t) ≡ s ∷ lines t
unfolding lines onto
lines_feed [] t h = refl
lines_feed (c ∷ s) t h = rw (ne_eqb c 10 (λ e. omega arith), lines) (ap (onto c) (lines_feed s t h.2))

-- ---- 3 and 4

last_feed : (x r : Bytes) → NoFeed x → eqb (get_or (x ++ 10 ∷ r) 0 0) 10 ≡ eqb (length x) 0
last_feed [] r f = refl
last_feed (c ∷ x) r f = ne_eqb c 10 f.0 ∙ sym (ne_eqb (suc (length x)) 0 (λ e. omega arith))

deeper : (k : ℕ) (b y z : Bool) → ltb (suc k) depth_limit ≡ b → y ≡ z → (elim (leb depth_limit (suc k)) as (λ _. Bool) [ true ↦ false | false ↦ y ]) ≡ b && z
deeper k true y z q h = let l = ltb-true (suc k) depth_limit q in rw (lt-leb depth_limit (suc k) l) h
deeper k false y z q h = let l = ltb-false (suc k) depth_limit q in rw (le-leb depth_limit (suc k) l)

closes_line : (k : ℕ) (x r : Bytes) → NoFeed x → closes_at (suc k) (x ++ 10 ∷ r) ≡ closes (suc k) x
unfolding closes_at closes
closes_line k [] r f = refl
closes_line k (c ∷ x) r f = go (eqb c 40) refl (eqb c 41) refl k (λ m. closes_line m x r f.1)
  where
    go : (a : Bool) → eqb c 40 ≡ a → (b : Bool) → eqb c 41 ≡ b → (k : ℕ) → ((m : ℕ) → closes_at (suc m) (x ++ 10 ∷ r) ≡ closes (suc m) x) → closes_at (suc k) (c ∷ x ++ 10 ∷ r) ≡ closes (suc k) (c ∷ x)
    go true p b q k ih = rw (ne_eqb c 10 f.0, p, closes_at, closes) (deeper k (ltb (suc k) depth_limit) _ _ refl (ih (suc k)))
    go false p false q k ih = rw (ne_eqb c 10 f.0, p, q, closes_at, closes) (ih k)
    go false p true q zero ih = rw (ne_eqb c 10 f.0, p, q, closes_at, closes) (last_feed x r f.1)
    go false p true q (suc k) ih = let z : suc (suc k) - 1 ≡ suc k = omega arith in rw (ne_eqb c 10 f.0, p, q, closes_at, closes) (rw (ne_eqb (suc (suc k)) 1 (λ e. omega arith)) (ap (λ (m : ℕ). closes_at m (x ++ 10 ∷ r)) z ∙ ih k))

same_eq : (s t : Bytes) → same_bytes s t ≡ true → s ≡ t
unfolding same_bytes
same_eq [] [] e = refl
same_eq [] (d ∷ t) e = absurd (true≢false (sym e))
same_eq (c ∷ s) [] e = absurd (true≢false (sym e))
same_eq (c ∷ s) (d ∷ t) e = go (eqb c d) refl (λ h. same_eq s t h) e
  where
    go : (b : Bool) → eqb c d ≡ b → (same_bytes s t ≡ true → s ≡ t) → (elim b as (λ _. Bool) [ true ↦ same_bytes s t | false ↦ false ]) ≡ true → c ∷ s ≡ d ∷ t
    go true q f h = ap₂ ◌∷◌ (eqb-true c d q) (f h)
    go false q f h = absurd (true≢false (sym h))

form_here : (t : Bytes) (i : ℕ) (x r : Bytes) → drop i t ≡ x ++ 10 ∷ r → get_or t i 0 ≡ 40 → NoFeed x → one_form x ≡ closes_at 1 (drop (i + 1) t)
unfolding one_form
form_here t i [] r e o f = let g = cons_at t i 10 r e in absurd (omega arith)
form_here t i (c ∷ x) r e o f =
    let g : c ≡ 40 = sym (cons_at t i c (x ++ 10 ∷ r) e) ∙ o in
    rw g (sym (closes_line 0 x r f.1) ∙ ap (closes_at 1) (sym (cons_next t i c (x ++ 10 ∷ r) e)))

-- a line that is not read is not written
module _ (t : Bytes) (i : ℕ) (x r : Bytes) (span : drop i t ≡ x ++ 10 ∷ r) (miss : (j : ℕ) (a : Bool) → scan depth_limit L t i ≡ good j a → get_or t j 0 ≡ 10 → ⊥) where
  not_read : one_form x ≡ true → written x ≡ false
  unfolding written class_of
  not_read o = go (written x) refl
    where
      go : (b : Bool) → written x ≡ b → written x ≡ false
      go false e = e
      go true e =
          let l = decode_line x in
          let s : x ≡ show_line l = same_eq x (show_line l) e in
          let h : leb (line_depth l) depth_limit ≡ true = sym (show_line_form l) ∙ ap one_form (sym s) ∙ o in
          let g : drop i t ≡ show_line l ++ 10 ∷ r = span ∙ ap (λ (y : Bytes). y ++ 10 ∷ r) s in
          absurd (miss (i + length (show_line l)) (line_in_range l) (complete depth_limit t L l i (10 ∷ r) g refl (leb-true (line_depth l) depth_limit h)) (cons_at t (i + length (show_line l)) 10 r (span_next t i (show_line l) (10 ∷ r) g)))

  -- its fault is 3 or 4
  unread_fault : (b : Before) → get_or t i 0 ≡ 40 → NoFeed x → line_fault b x ≡ fault_code (not_written t (i + 1))
  unfolding line_fault not_written
  unread_fault b o f = go (closes_at 1 (drop (i + 1) t)) refl
    where
      go : (d : Bool) → closes_at 1 (drop (i + 1) t) ≡ d → line_fault b x ≡ fault_code (not_written t (i + 1))
      go true e = let g = form_here t i x r span o f ∙ e in rw (e, g, not_read g, line_fault, not_written)
      go false e = let g = form_here t i x r span o f ∙ e in rw (e, g, line_fault, not_written)

-- a line that does not begin with a bracket
no_form_fault : (t : Bytes) (i : ℕ) (x r : Bytes) → drop i t ≡ x ++ 10 ∷ r → (b : Before) → (get_or t i 0 ≡ 40 → ⊥) → line_fault b x ≡ 3
unfolding line_fault one_form
no_form_fault t i [] r e b f = refl
no_form_fault t i (c ∷ x) r e b f =
    let g = cons_at t i c (x ++ 10 ∷ r) e in
    let n : one_form (c ∷ x) ≡ false = rw (ne_eqb c 40 (λ z. f (g ∙ z))) in
    rw (n, line_fault)

-- ---- what a step says

-- the line from i to the feed at j is l, and has no fault
pub record Passed (t : Bytes) (i j : ℕ) (b : Before) (l : Line) : Type 0 where
  pub span : drop i t ≡ show_line l ++ 10 ∷ drop (j + 1) t
  pub feed : get_or t j 0 ≡ 10
  pub deep : line_depth l ≤ depth_limit
  pub clean : tree_fault b l ≡ 0

-- the first line from i on has the fault k
pub record Failed (t : Bytes) (i : ℕ) (b : Before) (k : ℕ) : Type 0 where
  pub line : Bytes
  pub others : List Bytes
  pub rows : lines (drop i t) ≡ line ∷ others
  pub fault : line_fault b line ≡ k
  pub above : 0 < k

abbrev pub Right : (t : Bytes) (i : ℕ) (b : Before) → Result Step Fault → Type 0
Right t i b (Err f) = Failed t i b (fault_code f)
Right t i b (Ok (Module j)) = (bound : Bool) × Passed t i j b (module_line b.modules bound) × (b.modules < 32)
Right t i b (Ok (Kind j n)) = (k : Syntax.Kind) × Passed t i j b (header_line (kind n k)) × (n < name_bound)
Right t i b (Ok (Val j)) = (n : ℕ) × (v : ℤ) × Passed t i j b (header_line (val n v))
Right t i b (Ok (ItemStep j)) = (x : Item) × Passed t i j b (item_line x)

-- a line that is well written has the fault of its tree
pub shown_fault : (b : Before) (l : Line) → line_depth l ≤ depth_limit → line_fault b (show_line l) ≡ tree_fault b l
unfolding line_fault written
shown_fault b l h =
    let d = decode_show_line l h in
    let o : one_form (show_line l) ≡ true = show_line_form l ∙ le-leb (line_depth l) depth_limit h in
    let w : written (show_line l) ≡ true = ap (λ (m : Line). same_bytes (show_line l) (show_line m)) d ∙ same_self (show_line l) in
    rw (o, w, line_fault) (ap (tree_fault b) d)

-- a well written line, from i to the feed at j
record Wrote (t : Bytes) (i j : ℕ) (l : Line) : Type 0 where
  span : drop i t ≡ show_line l ++ 10 ∷ drop (j + 1) t
  feed : get_or t j 0 ≡ 10
  deep : line_depth l ≤ depth_limit

wrote_fails : (t : Bytes) (i j : ℕ) (l : Line) (b : Before) (k : ℕ) → Wrote t i j l → tree_fault b l ≡ k → 0 < k → Failed t i b k
wrote_fails t i j l b k w e h = record {
  line = show_line l;
  others = lines (drop (j + 1) t);
  rows = ap lines w.span ∙ lines_feed (show_line l) (drop (j + 1) t) (show_line_set l);
  fault = shown_fault b l w.deep ∙ e;
  above = h;
}

wrote_passes : (t : Bytes) (i j : ℕ) (l : Line) (b : Before) → Wrote t i j l → tree_fault b l ≡ 0 → Passed t i j b l
wrote_passes t i j l b w e = record { span = w.span; feed = w.feed; deep = w.deep; clean = e }

-- the word behind the bracket of a form, and what is behind the word
pub headed : (t : Bytes) (i : ℕ) (w : Bytes) (xs : List Bytes) (z : Bytes) → word_fine w ≡ true → drop i t ≡ show_form w xs ++ z
    → (word_at t (i + 1) ≡ record { key = key w; next = i + 1 + length w }) × (drop (i + 1 + length w) t ≡ show_rest xs ++ z)
unfolding show_form
headed t i w xs z f e =
    let b : drop (i + 1) t ≡ w ++ (show_rest xs ++ z) = cons_next t i 40 ((w ++ show_rest xs) ++ z) e ∙ append_assoc w (show_rest xs) z in
    (word_there w t (i + 1) (show_rest xs ++ z) f b (rest_stops xs z), span_next t (i + 1) w (show_rest xs ++ z) b)

-- the number that is the first part
record Numbered (t : Bytes) (at n : ℕ) : Type 0 where
  value : ℕ
  next : ℕ
  is : number_after t at ≡ Some (valued value next)
  caps : Caps value n

first_number : (t : Bytes) (at n : ℕ) (xs : List Bytes) (z : Bytes) → drop at t ≡ show_rest (show_number n ∷ xs) ++ z → Numbered t at n
unfolding show_rest
first_number t at n xs z e =
    let b : drop (at + 1) t ≡ show_number n ++ (show_rest xs ++ z) = cons_next t at 32 ((show_number n ++ show_rest xs) ++ z) e ∙ append_assoc (show_number n) (show_rest xs) z in
    let f = number_there t (at + 1) n (show_rest xs ++ z) b (rest_stops xs z) in
    record { value = f.value; next = _; is = sym (after_some t at (cons_at t at 32 _ e)) ∙ f.is; caps = f.caps }

-- the names that have a kind
abbrev pub Seen : List ℕ → List ℕ → Type 0
Seen seen names = (n : ℕ) → n < name_bound → eqb (get_or seen n 0) 0 ≡ opposite (has_name n names)

caps_same : (v n m : ℕ) → m ≤ 32 → Caps v n → eqb v m ≡ eqb n m
caps_same v n m h (inl e) = ap (λ (x : ℕ). eqb x m) e
caps_same v n m h (inr e) = let a = e.0 in let b = e.1 in ne_eqb v m (λ z. omega arith) ∙ sym (ne_eqb n m (λ z. omega arith))

caps_small : (v n : ℕ) → n < name_bound → Caps v n → v ≡ n
caps_small v n h (inl e) = e
caps_small v n h (inr e) = let a = e.1 in absurd (omega arith)

-- the faults of a tree
module _ (b : Before) where
  fault_place : (l : Line) → line_in_range l ≡ true → in_place b l ≡ false → tree_fault b l ≡ 6
  unfolding tree_fault
  fault_place l r p = rw (r, p, tree_fault)

  fault_first : (l : Line) → line_in_range l ≡ true → in_place b l ≡ true → first_kind b l ≡ false → tree_fault b l ≡ 7
  unfolding tree_fault
  fault_first l r p f = rw (r, p, f, tree_fault)

  fault_none : (l : Line) → line_in_range l ≡ true → in_place b l ≡ true → first_kind b l ≡ true → tree_fault b l ≡ 0
  unfolding tree_fault
  fault_none l r p f = rw (r, p, f, tree_fault)

  fault_range : (l : Line) → line_in_range l ≡ false → tree_fault b l ≡ 5
  unfolding tree_fault
  fault_range l r = rw (r, tree_fault)

module _ (t : Bytes) (i j : ℕ) (b : Before) (small : b.modules ≤ 32) where
  module_case : (m : ℕ) (bd : Bool) → Wrote t i j (module_line m bd) → (v k : ℕ) → eqb v b.modules ≡ eqb m b.modules → Right t i b (module_step (Some (valued v k)) b.modules j)
  unfolding line_in_range in_place first_kind
  module_case m bd w v k s = go (eqb m b.modules) refl (leb 32 b.modules) refl
    where
      go : (x : Bool) → eqb m b.modules ≡ x → (y : Bool) → leb 32 b.modules ≡ y → Right t i b (module_step (Some (valued v k)) b.modules j)
      go false p y q = let u = s ∙ p in rw (u, module_step) (wrote_fails t i j (module_line m bd) b 6 w (fault_place b (module_line m bd) refl p) (omega arith))
      go true p true q =
          let u = s ∙ p in
          let h = leb-true 32 b.modules q in
          rw (u, q, module_step) (wrote_fails t i j (module_line m bd) b 7 w (fault_first b (module_line m bd) refl p (le-ltb b.modules 32 h)) (omega arith))
      go true p false q =
          let u = s ∙ p in
          let h = leb-false 32 b.modules q in
          let e = eqb-true m b.modules p in
          rw (u, q, module_step) (bd, rw e at (wrote_passes t i j (module_line m bd) b w (fault_none b (module_line m bd) refl p (lt-ltb b.modules 32 h))), h)

  module _ (seen : List ℕ) (agree : Seen seen b.kinds) where
    module_right : (m : ℕ) (bd : Bool) → Wrote t i j (module_line m bd) → Right t i b (head_step t (i + 1) j b.modules b.has_item seen)
    unfolding show_line all_wordly class_of
    module_right m bd w =
        let h = headed t i (bytes "module") (show_number m ∷ show_bound bd ∷ []) (10 ∷ drop (j + 1) t) refl w.span in
        let n = first_number t (i + 1 + 6) m (show_bound bd ∷ []) (10 ∷ drop (j + 1) t) h.1 in
        let k : (word_at t (i + 1)).key ≡ key (bytes "module") = ap (λ (x : Word). x.key) h.0 in
        let e : module_step (Some (valued n.value n.next)) b.modules j ≡ head_step t (i + 1) j b.modules b.has_item seen = ap (λ (x : Option Number). module_step x b.modules j) (sym (ap (λ (x : Word). number_after t x.next) h.0 ∙ n.is)) ∙ head_module t (i + 1) j b.modules b.has_item seen k in
        rw (← e) (module_case m bd w n.value n.next (caps_same n.value m b.modules small n.caps))

    -- a name's first kind, or its second
    kind_case : (n : ℕ) (k : Syntax.Kind) → n < name_bound → (0 < b.modules) → b.has_item ≡ false → Wrote t i j (header_line (kind n k)) → (x : ℕ) → Right t i b (kind_step (Some (valued n x)) seen j)
    unfolding line_in_range in_place first_kind
    kind_case n k s m z w x = go (has_name n b.kinds) refl
      where
        here : in_place b (header_line (kind n k)) ≡ true
        here = rw (lt-ltb 0 b.modules m, z)

        go : (y : Bool) → has_name n b.kinds ≡ y → Right t i b (kind_step (Some (valued n x)) seen j)
        go true p =
            let u : eqb (get_or seen n 0) 0 ≡ false = agree n s ∙ ap opposite p in
            rw (lt-leb name_bound n s, u, kind_step) (wrote_fails t i j (header_line (kind n k)) b 7 w (fault_first b (header_line (kind n k)) (lt-ltb n name_bound s) here (ap opposite p)) (omega arith))
        go false p =
            let u : eqb (get_or seen n 0) 0 ≡ true = agree n s ∙ ap opposite p in
            rw (lt-leb name_bound n s, u, kind_step) (k, wrote_passes t i j (header_line (kind n k)) b w (fault_none b (header_line (kind n k)) (lt-ltb n name_bound s) here (ap opposite p)), s)

    kind_right : (n : ℕ) (k : Syntax.Kind) → n < name_bound → Wrote t i j (header_line (kind n k)) → Right t i b (head_step t (i + 1) j b.modules b.has_item seen)
    unfolding show_line show_header all_wordly class_of line_in_range in_place key code_after
    kind_right n k s w = go (eqb b.modules 0) refl b.has_item refl
      where
        h : (word_at t (i + 1) ≡ record { key = key (bytes "kind"); next = i + 1 + 4 }) × (drop (i + 1 + 4) t ≡ show_rest (show_number n ∷ show_kind k ∷ []) ++ 10 ∷ drop (j + 1) t)
        h = headed t i (bytes "kind") (show_number n ∷ show_kind k ∷ []) (10 ∷ drop (j + 1) t) refl w.span

        is : (word_at t (i + 1)).key ≡ key (bytes "kind")
        is = ap (λ (x : Word). x.key) h.0

        no : (word_at t (i + 1)).key ≡ key (bytes "module") → ⊥
        no e = let z : ◌≡◌ {A = ℕ} (key (bytes "kind")) (key (bytes "module")) = sym is ∙ e in omega arith

        f : Numbered t (i + 1 + 4) n
        f = first_number t (i + 1 + 4) n (show_kind k ∷ []) (10 ∷ drop (j + 1) t) h.1

        go : (x : Bool) → eqb b.modules 0 ≡ x → (y : Bool) → b.has_item ≡ y → Right t i b (head_step t (i + 1) j b.modules b.has_item seen)
        go true q y r =
            let e = eqb-true b.modules 0 q in
            rw (← head_none t (i + 1) j b.modules b.has_item seen no e)
            (wrote_fails t i j (header_line (kind n k)) b 6 w (fault_place b (header_line (kind n k)) (lt-ltb n name_bound s) (rw (le-ltb 0 b.modules (omega arith)))) (omega arith))
        go false q true r =
            rw (← head_late t (i + 1) j b.modules b.has_item seen no (eqb-false b.modules 0 q) is r)
            (wrote_fails t i j (header_line (kind n k)) b 6 w (fault_place b (header_line (kind n k)) (lt-ltb n name_bound s) (rw r (and-false (ltb 0 b.modules)))) (omega arith))
        go false q false r =
            let m = eqb-false b.modules 0 q in
            let g : number_after t (word_at t (i + 1)).next ≡ Some (valued n f.next) = ap (λ (x : Word). number_after t x.next) h.0 ∙ f.is ∙ ap (λ (v : ℕ). Some (valued v f.next)) (caps_small f.value n s f.caps) in
            let e : kind_step (Some (valued n f.next)) seen j ≡ head_step t (i + 1) j b.modules b.has_item seen = ap (λ (x : Option Number). kind_step x seen j) (sym g) ∙ head_kind t (i + 1) j b.modules b.has_item seen no m is r in
            rw (← e) (kind_case n k s (omega arith) r w f.next)

    val_right : (n : ℕ) (v : ℤ) → line_in_range (header_line (val n v)) ≡ true → Wrote t i j (header_line (val n v)) → Right t i b (head_step t (i + 1) j b.modules b.has_item seen)
    unfolding show_line show_header all_wordly class_of in_place first_kind key code_after
    val_right n v s w = go (eqb b.modules 0) refl b.has_item refl
      where
        h : (word_at t (i + 1) ≡ record { key = key (bytes "val"); next = i + 1 + 3 }) × (drop (i + 1 + 3) t ≡ show_rest (show_number n ∷ show_int v ∷ []) ++ 10 ∷ drop (j + 1) t)
        h = headed t i (bytes "val") (show_number n ∷ show_int v ∷ []) (10 ∷ drop (j + 1) t) refl w.span

        is : (word_at t (i + 1)).key ≡ key (bytes "val")
        is = ap (λ (x : Word). x.key) h.0

        no : (word_at t (i + 1)).key ≡ key (bytes "module") → ⊥
        no e = let z : ◌≡◌ {A = ℕ} (key (bytes "val")) (key (bytes "module")) = sym is ∙ e in omega arith

        nok : (word_at t (i + 1)).key ≡ key (bytes "kind") → ⊥
        nok e = let z : ◌≡◌ {A = ℕ} (key (bytes "val")) (key (bytes "kind")) = sym is ∙ e in omega arith

        go : (x : Bool) → eqb b.modules 0 ≡ x → (y : Bool) → b.has_item ≡ y → Right t i b (head_step t (i + 1) j b.modules b.has_item seen)
        go true q y r =
            let e = eqb-true b.modules 0 q in
            rw (← head_none t (i + 1) j b.modules b.has_item seen no e)
            (wrote_fails t i j (header_line (val n v)) b 6 w (fault_place b (header_line (val n v)) s (rw (le-ltb 0 b.modules (omega arith)))) (omega arith))
        go false q true r =
            rw (← head_val_late t (i + 1) j b.modules b.has_item seen no (eqb-false b.modules 0 q) nok is r)
            (wrote_fails t i j (header_line (val n v)) b 6 w (fault_place b (header_line (val n v)) s (rw r (and-false (ltb 0 b.modules)))) (omega arith))
        go false q false r =
            let m = eqb-false b.modules 0 q in
            rw (← head_val t (i + 1) j b.modules b.has_item seen no m nok is r)
            (n, v, wrote_passes t i j (header_line (val n v)) b w (fault_none b (header_line (val n v)) s (rw (lt-ltb 0 b.modules (omega arith), r)) refl))

    item_case : (x : Item) → line_in_range (item_line x) ≡ true → Wrote t i j (item_line x) → ((word_at t (i + 1)).key ≡ key (bytes "module") → ⊥) → ((word_at t (i + 1)).key ≡ key (bytes "kind") → ⊥) → ((word_at t (i + 1)).key ≡ key (bytes "val") → ⊥)
        → Right t i b (head_step t (i + 1) j b.modules b.has_item seen)
    unfolding in_place first_kind
    item_case x s w nom nok nov = go (eqb b.modules 0) refl
      where
        go : (u : Bool) → eqb b.modules 0 ≡ u → Right t i b (head_step t (i + 1) j b.modules b.has_item seen)
        go true q =
            let e = eqb-true b.modules 0 q in
            rw (← head_none t (i + 1) j b.modules b.has_item seen nom e)
            (wrote_fails t i j (item_line x) b 6 w (fault_place b (item_line x) s (le-ltb 0 b.modules (omega arith))) (omega arith))
        go false q =
            let m = eqb-false b.modules 0 q in
            rw (← head_item t (i + 1) j b.modules b.has_item seen nom m nok nov)
            (x, wrote_passes t i j (item_line x) b w (fault_none b (item_line x) s (lt-ltb 0 b.modules (omega arith)) refl))

-- the head of an item
item_head : (x : Item) (t : Bytes) (i : ℕ) (z : Bytes) → drop i t ≡ show_item x ++ z → (word_at t (i + 1)).key ≡ key (item_word x)
unfolding show_item all_wordly class_of
item_head (port d n w s) t i z e = ap (λ (x : Word). x.key) (headed t i (bytes "port") _ z refl e).0
item_head (wire n x s) t i z e = ap (λ (x : Word). x.key) (headed t i (bytes "wire") _ z refl e).0
item_head (reg n s) t i z e = ap (λ (x : Word). x.key) (headed t i (bytes "reg") _ z refl e).0
item_head (mem n s) t i z e = ap (λ (x : Word). x.key) (headed t i (bytes "mem") _ z refl e).0
item_head (const n x) t i z e = ap (λ (x : Word). x.key) (headed t i (bytes "const") _ z refl e).0
item_head (drive lv x) t i z e = ap (λ (x : Word). x.key) (headed t i (bytes "drive") _ z refl e).0
item_head (on s ss) t i z e = ap (λ (x : Word). x.key) (headed t i (bytes "on") _ z refl e).0
item_head (inst x) t i z e = ap (λ (x : Word). x.key) (headed t i (bytes "inst") _ z refl e).0
item_head (repeat n l h is) t i z e = ap (λ (x : Word). x.key) (headed t i (bytes "repeat") _ z refl e).0
item_head (const_if c is js) t i z e = ap (λ (x : Word). x.key) (headed t i (bytes "constif") _ z refl e).0

item_other : (x : Item) → (key (item_word x) ≡ key (bytes "module") → ⊥) × (key (item_word x) ≡ key (bytes "kind") → ⊥) × (key (item_word x) ≡ key (bytes "val") → ⊥)
unfolding key code_after
item_other (port d n w s) = (λ z. omega arith, λ z. omega arith, λ z. omega arith)
item_other (wire n x s) = (λ z. omega arith, λ z. omega arith, λ z. omega arith)
item_other (reg n s) = (λ z. omega arith, λ z. omega arith, λ z. omega arith)
item_other (mem n s) = (λ z. omega arith, λ z. omega arith, λ z. omega arith)
item_other (const n x) = (λ z. omega arith, λ z. omega arith, λ z. omega arith)
item_other (drive lv x) = (λ z. omega arith, λ z. omega arith, λ z. omega arith)
item_other (on s ss) = (λ z. omega arith, λ z. omega arith, λ z. omega arith)
item_other (inst x) = (λ z. omega arith, λ z. omega arith, λ z. omega arith)
item_other (repeat n l h is) = (λ z. omega arith, λ z. omega arith, λ z. omega arith)
item_other (const_if c is js) = (λ z. omega arith, λ z. omega arith, λ z. omega arith)

module _ (t : Bytes) (i : ℕ) (b : Before) (small : b.modules ≤ 32) (seen : List ℕ) (agree : Seen seen b.kinds) where
  head_right : (j : ℕ) (l : Line) → line_in_range l ≡ true → Wrote t i j l → Right t i b (head_step t (i + 1) j b.modules b.has_item seen)
  unfolding line_in_range show_line
  head_right j (module_line m bd) s w = module_right t i j b small seen agree m bd w
  head_right j (header_line (kind n k)) s w = kind_right t i j b small seen agree n k (ltb-true n name_bound s) w
  head_right j (header_line (val n v)) s w = val_right t i j b small seen agree n v s w
  head_right j (item_line x) s w =
      let h = item_head x t i (10 ∷ drop (j + 1) t) w.span in
      let o = item_other x in
      item_case t i j b small seen agree x s w (λ e. o.0 (sym h ∙ e)) (λ e. o.1 (sym h ∙ e)) (λ e. o.2 (sym h ∙ e))

  -- a line that `scan` does not read to its feed
  unread : Split (drop i t) → get_or t i 0 ≡ 40 → ((j : ℕ) (a : Bool) → scan depth_limit L t i ≡ good j a → get_or t j 0 ≡ 10 → ⊥) → Failed t i b (fault_code (not_written t (i + 1)))
  unread s o miss = record {
    line = s.line;
    others = lines s.rest;
    rows = s.rows;
    fault = unread_fault t i s.line s.rest s.span miss b o s.clean;
    above = above;
  }
    where
      above : 0 < fault_code (not_written t (i + 1))
      above = unfold not_written in if_case (λ f. 0 < fault_code f) (closes_at 1 (drop (i + 1) t)) BadlyWritten NotOneForm (λ e. omega arith) (λ e. omega arith)

  pub line_right : i < length t → ends_in_feed (drop i t) ≡ true → Right t i b (line_step t i b.modules b.has_item seen)
  unfolding line_step
  line_right h e = go (eqb (get_or t i 0) 40) refl (scan depth_limit L t i) refl
    where
      s : Split (drop i t)
      s = split_at t i h e

      go : (o : Bool) → eqb (get_or t i 0) 40 ≡ o → (x : Option Parsed) → scan depth_limit L t i ≡ x → Right t i b (line_step t i b.modules b.has_item seen)
      go false o x q = rw (o, line_step) (record { line = s.line; others = lines s.rest; rows = s.rows; fault = no_form_fault t i s.line s.rest s.span b (eqb-false (get_or t i 0) 40 o); above = omega arith })
      go true o None q = rw (o, q, line_step) (unread s (eqb-true (get_or t i 0) 40 o) (λ j a f _. bad_not (sym q ∙ f)))
      go true o (Some p) q = rw (o, q, line_step) (ends (eqb (get_or t p.next 0) 10) refl)
        where
          f : Found depth_limit L t i p.next p.range
          f = sound depth_limit t L i p.next p.range q

          here : get_or t p.next 0 ≡ 10 → Wrote t i p.next f.tree
          here z = record { span = f.span ∙ ap (λ (y : Bytes). show_line f.tree ++ y) (at_cons t p.next 10 z (λ u. omega arith)); feed = z; deep = f.deep }

          ends : (y : Bool) → eqb (get_or t p.next 0) 10 ≡ y → Right t i b (parsed_step (Some p) t i b.modules b.has_item seen)
          ends false z = rw (z, parsed_step) (unread s (eqb-true (get_or t i 0) 40 o) (λ k c g u. eqb-false (get_or t p.next 0) 10 z (ap (λ (m : ℕ). get_or t m 0) (good_inj (sym q ∙ g)).0 ∙ u)))
          ends true z = in_range p.range f.ranged
            where
              w : Wrote t i p.next f.tree
              w = here (eqb-true (get_or t p.next 0) 10 z)

              in_range : (c : Bool) → line_in_range f.tree ≡ c → Right t i b (elim (eqb (get_or t p.next 0) 10) as (λ _. Result Step Fault) [ true ↦ elim c as (λ _. Result Step Fault) [ true ↦ head_step t (i + 1) p.next b.modules b.has_item seen | false ↦ Err OutOfRange ] | false ↦ Err (not_written t (i + 1)) ])
              in_range false g = rw z (wrote_fails t i p.next f.tree b 5 w (fault_range b f.tree g) (omega arith))
              in_range true g = rw z (head_right p.next f.tree g w)
