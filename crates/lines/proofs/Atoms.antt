-- Parts with no brackets: what is read at a position is one of the category, and one of the category is read.
-- Assumes nothing.
use mathlib.Core.Path.{◌≡◌, refl, sym, ap, ap₂, ◌∙◌}
use mathlib.Core.Bool.{Bool, true, false}
use mathlib.Core.Logic.{◌⊎◌, inl, inr}
use mathlib.Core.List.{[], ◌∷◌, ◌++◌}
use Prim.Native.Nat.{ℕ, zero, suc, ◌+◌, ◌≤◌}
use native.Mathlib.Omega.{arith}
use lib.Dec.{ltb, eqb}
use lib.IntN.{ℤ, pos, negsuc}
use lib.ListN.{length, get_or, drop}
use borrow.Author.Tests.{eqb-true, eqb-false, ne_eqb, lt-ltb, le-ltb, ltb-true, ltb-false}
use Rattle.spec.specs.Bytes.{Bytes, bytes, digits, show_number, show_int}
use Rattle.spec.specs.Syntax.{name_bound, module_bound, number_bound, Expr, lit, truth, name, field, index, if_else, unary, binary, all, Width, bit, opaque, bits, signed, Place, single, at, in_kind, out_kind, wire_kind, reg_kind, mem_kind, inst_kind, input, output}
use Rattle.spec.specs.Syntax as Syntax
use Rattle.spec.specs.Show.{show_truth, show_kind, show_dir, show_bound, show_expr, show_width, show_place}
use Rattle.spec.specs.Refusal.{expr_in_range, width_in_range, place_in_range, in_int, expr_depth, width_depth, place_depth}
use Rattle.spec.proofs.Numbers.{Digits, number_digits}
use Rattle.lines.specs.Bytes.{class_of, is_digit}
use Rattle.std.specs.Prelude.{Option, Some, None, is_some}
use Rattle.lines.specs.Parse.{valued, good, key, code_after, word_at, number_at, numbered, counted, int_at, named_kinds, kind_of, lookup_key, either, worded, literal, atom}
use Rattle.lines.specs.declared.parse.Cat.{Cat}
use Rattle.lines.specs.declared.parse.Cat.TheVariants.{Name, Start, Mod, Count, Int, Kind, Dir, Bound, E, X, T, Lv, C, S, I, ThenS, ElseS, ThenI, ElseI, L, Nothing}
use Rattle.lines.specs.declared.parse.Number.{Number}
use Rattle.lines.specs.declared.parse.Parsed.{Parsed}
use Rattle.lines.proofs.Laws.{if_case}
use Rattle.lines.proofs.Trees.{Tree, show, range, depth}
use Rattle.lines.proofs.Spelled.{is_inj, at_cons, cons_at, cons_next, Stops, all_wordly, word_fine, word_read, word_is, word_there, Caps, caps_below, number_sound, number_there, digit_there}
use Rattle.lines.proofs.Built.{lookup_case}

-- a part of the category c stands from i to j, at most d deep, with these facts
pub record Found (d : ℕ) (c : Cat) (t : Bytes) (i j : ℕ) (r : Bool) : Type 0 where
  pub tree : Tree c
  pub span : drop i t ≡ show c tree ++ drop j t
  pub ranged : range c tree ≡ r
  pub deep : depth c tree ≤ d

pub bad_not : {j : ℕ} {r : Bool} → None ≡ good j r → ⊥
bad_not e = let z : ◌≡◌ {A = ℕ} 0 1 = cc in omega arith

pub good_inj : {i j : ℕ} {r r' : Bool} → good i r ≡ good j r' → (i ≡ j) × (r ≡ r')
good_inj e = (ap (λ (n : Option Parsed). elim n as (λ _. ℕ) [ None ↦ 0 | Some p ↦ p.next ]) e, ap (λ (n : Option Parsed). elim n as (λ _. Bool) [ None ↦ false | Some p ↦ p.range ]) e)

module _ (t : Bytes) (i j : ℕ) (r : Bool) where
  -- ---- soundness

  record Numbered (limit : ℕ) : Type 0 where
    number : ℕ
    span : drop i t ≡ show_number number ++ drop j t
    ranged : ltb number limit ≡ r

  numbered_sound : (limit : ℕ) → limit ≤ 4294967296 → numbered (number_at t i) limit ≡ good j r → Numbered limit
  numbered_sound limit h = go (number_at t i) refl
    where
      go : (n : Option Number) → number_at t i ≡ n → numbered n limit ≡ good j r → Numbered limit
      go None e q = absurd (bad_not q)
      go (Some n) e q =
          let g = good_inj q in
          let f = number_sound t i n.value n.next e in
          record { number = f.number; span = f.span ∙ ap (λ (z : ℕ). show_number f.number ++ drop z t) g.0; ranged = sym (caps_below n.value f.number limit h f.caps) ∙ g.1 }

  counted_sound : counted (number_at t i) ≡ good j r → (n : ℕ) × (drop i t ≡ show_number n ++ drop j t) × (true ≡ r)
  counted_sound = go (number_at t i) refl
    where
      go : (n : Option Number) → number_at t i ≡ n → counted n ≡ good j r → (n : ℕ) × (drop i t ≡ show_number n ++ drop j t) × (true ≡ r)
      go None e q = absurd (bad_not q)
      go (Some n) e q =
          let g = good_inj q in
          let f = number_sound t i n.value n.next e in
          (f.number, f.span ∙ ap (λ (z : ℕ). show_number f.number ++ drop z t) g.0, g.1)

  worded_sound : (b : Bool) (k : ℕ) → worded b k ≡ good j r → (b ≡ true) × (k ≡ j) × (true ≡ r)
  worded_sound true k e = let g = good_inj e in (refl, g.0, g.1)
  worded_sound false k e = absurd (bad_not e)

  -- the word at i is w
  word_sound : (w : Bytes) → word_fine w ≡ true → (word_at t i).key ≡ key w → (word_at t i).next ≡ j → drop i t ≡ w ++ drop j t
  unfolding word_at
  word_sound w f e n =
      let x = word_read 8 t i 0 0 in
      x.span ∙ ap₂ ◌++◌ (word_is t i x w f (sym e)) (ap (λ (k : ℕ). drop k t) n)

  either_true : (k a b : ℕ) → either k a b ≡ true → (k ≡ a) ⊎ (k ≡ b)
  unfolding either
  either_true k a b = if_case (λ z. z ≡ true → (k ≡ a) ⊎ (k ≡ b)) (eqb k a) _ _ (λ e q. inl (eqb-true k a e)) (λ e q. inr (eqb-true k b q))

  dir_sound : (either (word_at t i).key (key (bytes "in")) (key (bytes "out")) ≡ true) × ((word_at t i).next ≡ j) × (true ≡ r) → Found 0 Dir t i j r
  unfolding all_wordly class_of
  dir_sound g = go (either_true _ _ _ g.0)
    where
      go : ((word_at t i).key ≡ key (bytes "in")) ⊎ ((word_at t i).key ≡ key (bytes "out")) → Found 0 Dir t i j r
      go (inl e) = record { tree = input; span = word_sound (bytes "in") refl e g.1; ranged = g.2; deep = omega arith }
      go (inr e) = record { tree = output; span = word_sound (bytes "out") refl e g.1; ranged = g.2; deep = omega arith }

  bound_sound : (either (word_at t i).key (key (bytes "bound")) (key (bytes "unbound")) ≡ true) × ((word_at t i).next ≡ j) × (true ≡ r) → Found 0 Bound t i j r
  unfolding all_wordly class_of
  bound_sound g = go (either_true _ _ _ g.0)
    where
      go : ((word_at t i).key ≡ key (bytes "bound")) ⊎ ((word_at t i).key ≡ key (bytes "unbound")) → Found 0 Bound t i j r
      go (inl e) = record { tree = true; span = word_sound (bytes "bound") refl e g.1; ranged = g.2; deep = omega arith }
      go (inr e) = record { tree = false; span = word_sound (bytes "unbound") refl e g.1; ranged = g.2; deep = omega arith }

  width_sound : (either (word_at t i).key (key (bytes "bit")) (key (bytes "opaque")) ≡ true) × ((word_at t i).next ≡ j) × (true ≡ r) → Found 0 T t i j r
  unfolding all_wordly class_of show_width width_in_range width_depth
  width_sound g = go (either_true _ _ _ g.0)
    where
      go : ((word_at t i).key ≡ key (bytes "bit")) ⊎ ((word_at t i).key ≡ key (bytes "opaque")) → Found 0 T t i j r
      go (inl e) = record { tree = bit; span = word_sound (bytes "bit") refl e g.1; ranged = g.2; deep = omega arith }
      go (inr e) = record { tree = opaque; span = word_sound (bytes "opaque") refl e g.1; ranged = g.2; deep = omega arith }

  truth_sound : (either (word_at t i).key (key (bytes "true")) (key (bytes "false")) ≡ true) × ((word_at t i).next ≡ j) × (true ≡ r) → (b : Bool) × (drop i t ≡ show_truth b ++ drop j t)
  unfolding all_wordly class_of
  truth_sound g = go (either_true _ _ _ g.0)
    where
      go : ((word_at t i).key ≡ key (bytes "true")) ⊎ ((word_at t i).key ≡ key (bytes "false")) → (b : Bool) × (drop i t ≡ show_truth b ++ drop j t)
      go (inl e) = (true, word_sound (bytes "true") refl e g.1)
      go (inr e) = (false, word_sound (bytes "false") refl e g.1)

  kind_sound : (is_some (kind_of (word_at t i).key) ≡ true) × ((word_at t i).next ≡ j) × (true ≡ r) → Found 0 Kind t i j r
  unfolding kind_of named_kinds all_wordly class_of
  kind_sound g =
      lookup_case (λ v. is_some v ≡ true → Found 0 Kind t i j r) named_kinds None (word_at t i).key
      (λ e _. is in_kind refl e, (λ e _. is out_kind refl e, (λ e _. is wire_kind refl e, (λ e _. is reg_kind refl e, (λ e _. is mem_kind refl e, (λ e _. is inst_kind refl e, tt))))))
      (λ q. let z : ◌≡◌ {A = ℕ} 0 1 = ap (λ (x : Bool). elim x as (λ _. ℕ) [ true ↦ 1 | false ↦ 0 ]) q in absurd (omega arith)) g.0
    where
      is : (k : Syntax.Kind) → word_fine (show_kind k) ≡ true → (word_at t i).key ≡ key (show_kind k) → Found 0 Kind t i j r
      is k f e = record { tree = k; span = word_sound (show_kind k) f e g.1; ranged = g.2; deep = omega arith }

  literal_sound : literal t i ≡ good j r → Found 0 E t i j r
  unfolding literal show_expr expr_in_range expr_depth
  literal_sound =
      if_case (λ z. z ≡ good j r → Found 0 E t i j r) (is_digit (class_of (get_or t i 0))) _ _
      (λ d q. let f = numbered_sound number_bound (omega arith) q in record { tree = lit f.number; span = f.span; ranged = f.ranged; deep = omega arith })
      (λ d q. let g = worded_sound _ _ q in let f = truth_sound g in record { tree = truth f.0; span = f.1; ranged = g.2; deep = omega arith })

  place_of : Found 0 E t i j r → Found 0 X t i j r
  unfolding show_place place_in_range place_depth
  place_of f = record { tree = at f.tree; span = f.span; ranged = f.ranged; deep = f.deep }

  place_sound : atom X t i ≡ good j r → Found 0 X t i j r
  unfolding show_place place_in_range place_depth
  place_sound =
      if_case (λ z. z ≡ good j r → Found 0 X t i j r) (eqb (get_or t i 0) 45) _ _
      (λ e q. let g = good_inj q in record { tree = single; span = at_cons t i 45 (eqb-true (get_or t i 0) 45 e) (λ z. omega arith) ∙ ap (λ (k : ℕ). 45 ∷ drop k t) g.0; ranged = g.1; deep = omega arith })
      (λ e q. place_of (literal_sound q))

ltb_step : (a b : ℕ) → ltb a b ≡ ltb (suc a) (b + 1)
ltb_step a b = if_lt (ltb a b) refl
  where
    if_lt : (x : Bool) → ltb a b ≡ x → ltb a b ≡ ltb (suc a) (b + 1)
    if_lt true q = let h = ltb-true a b q in q ∙ sym (lt-ltb (suc a) (b + 1) (omega arith))
    if_lt false q = let h = ltb-false a b q in q ∙ sym (le-ltb (suc a) (b + 1) (omega arith))

negative : (t : Bytes) (i j : ℕ) (r : Bool) → get_or t i 0 ≡ 45 → (get_or t (i + 1) 0 ≡ 48 → ⊥) → Numbered t (i + 1) j r (number_bound + 1) → Found 0 Int t i j r
unfolding show_int in_int
negative t i j r e f n = go n.number n.span n.ranged
  where
    go : (k : ℕ) → drop (i + 1) t ≡ show_number k ++ drop j t → ltb k (number_bound + 1) ≡ r → Found 0 Int t i j r
    go zero s h = absurd (f (cons_at t (i + 1) 48 (drop j t) (s ∙ zero_shown)))
      where
        zero_shown : show_number 0 ++ drop j t ≡ 48 ∷ drop j t
        zero_shown = unfold show_number digits in refl
    go (suc k) s h = record {
      tree = negsuc k;
      span = at_cons t i 45 e (λ z. omega arith) ∙ ap (◌∷◌ 45) s;
      ranged = ltb_step k number_bound ∙ h;
      deep = omega arith;
    }

int_sound : (t : Bytes) (i j : ℕ) (r : Bool) → int_at t i ≡ good j r → Found 0 Int t i j r
unfolding int_at show_int in_int
int_sound t i j r =
    if_case (λ z. z ≡ good j r → Found 0 Int t i j r) (eqb (get_or t i 0) 45) _ _
    (λ e. if_case (λ z. z ≡ good j r → Found 0 Int t i j r) (eqb (get_or t (i + 1) 0) 48) _ _ (λ d q. absurd (bad_not q))
    (λ d q. negative t i j r (eqb-true (get_or t i 0) 45 e) (eqb-false (get_or t (i + 1) 0) 48 d) (numbered_sound t (i + 1) j r (number_bound + 1) (omega arith) q)))
    (λ e q. let f = numbered_sound t i j r number_bound (omega arith) q in record { tree = pos f.number; span = f.span; ranged = f.ranged; deep = omega arith })

pub atom_sound : (c : Cat) (t : Bytes) (i j : ℕ) (r : Bool) → atom c t i ≡ good j r → Found 0 c t i j r
atom_sound Name t i j r q = let f = numbered_sound t i j r name_bound (omega arith) q in record { tree = f.number; span = f.span; ranged = f.ranged; deep = omega arith }
atom_sound Start t i j r q = let f = numbered_sound t i j r number_bound (omega arith) q in record { tree = f.number; span = f.span; ranged = f.ranged; deep = omega arith }
atom_sound Mod t i j r q = let f = numbered_sound t i j r module_bound (omega arith) q in record { tree = f.number; span = f.span; ranged = f.ranged; deep = omega arith }
atom_sound Count t i j r q = let f = counted_sound t i j r q in record { tree = f.0; span = f.1; ranged = f.2; deep = omega arith }
atom_sound Int t i j r q = int_sound t i j r q
atom_sound Kind t i j r q = kind_sound t i j r (worded_sound t i j r _ _ q)
atom_sound Dir t i j r q = dir_sound t i j r (worded_sound t i j r _ _ q)
atom_sound Bound t i j r q = bound_sound t i j r (worded_sound t i j r _ _ q)
atom_sound E t i j r q = literal_sound t i j r q
atom_sound X t i j r q = place_sound t i j r q
atom_sound T t i j r q = width_sound t i j r (worded_sound t i j r _ _ q)
atom_sound Lv t i j r q = absurd (bad_not q)
atom_sound C t i j r q = absurd (bad_not q)
atom_sound S t i j r q = absurd (bad_not q)
atom_sound I t i j r q = absurd (bad_not q)
atom_sound ThenS t i j r q = absurd (bad_not q)
atom_sound ElseS t i j r q = absurd (bad_not q)
atom_sound ThenI t i j r q = absurd (bad_not q)
atom_sound ElseI t i j r q = absurd (bad_not q)
atom_sound L t i j r q = absurd (bad_not q)
atom_sound Nothing t i j r q = absurd (bad_not q)

-- ---- completeness

abbrev pub ExprAtom : Expr → Type 0
ExprAtom (lit n) = Unit {0}
ExprAtom (truth b) = Unit {0}
ExprAtom (name n) = ⊥
ExprAtom (field e n) = ⊥
ExprAtom (index e i) = ⊥
ExprAtom (if_else c a b) = ⊥
ExprAtom (unary o a) = ⊥
ExprAtom (binary o a b) = ⊥
ExprAtom (all es) = ⊥

abbrev pub PlaceAtom : Place → Type 0
PlaceAtom single = Unit {0}
PlaceAtom (at e) = ExprAtom e

abbrev pub WidthAtom : Width → Type 0
WidthAtom bit = Unit {0}
WidthAtom opaque = Unit {0}
WidthAtom (bits e) = ⊥
WidthAtom (signed e) = ⊥

abbrev pub IsAtom : (c : Cat) → Tree c → Type 0
IsAtom Name x = Unit {0}
IsAtom Start x = Unit {0}
IsAtom Mod x = Unit {0}
IsAtom Count x = Unit {0}
IsAtom Int x = Unit {0}
IsAtom Kind x = Unit {0}
IsAtom Dir x = Unit {0}
IsAtom Bound x = Unit {0}
IsAtom E x = ExprAtom x
IsAtom X x = PlaceAtom x
IsAtom T x = WidthAtom x
IsAtom Lv x = ⊥
IsAtom C x = ⊥
IsAtom S x = ⊥
IsAtom I x = ⊥
IsAtom ThenS x = ⊥
IsAtom ElseS x = ⊥
IsAtom ThenI x = ⊥
IsAtom ElseI x = ⊥
IsAtom L x = ⊥
IsAtom Nothing x = ⊥

-- the part x is read at i, and does not begin with a bracket
pub record ReadAs (c : Cat) (x : Tree c) (t : Bytes) (i : ℕ) : Type 0 where
  pub good : atom c t i ≡ good (i + length (show c x)) (range c x)
  pub plain : get_or t i 0 ≡ 40 → ⊥

number_first : (t : Bytes) (i n : ℕ) (r : Bytes) → drop i t ≡ show_number n ++ r → (48 ≤ get_or t i 0) × (get_or t i 0 ≤ 57)
number_first t i n r e = go (show_number n) (number_digits n) e
  where
    go : (s : Bytes) → Digits s → drop i t ≡ s ++ r → (48 ≤ get_or t i 0) × (get_or t i 0 ≤ 57)
    go [] d e = absurd d
    go (c ∷ s) d e = let g = cons_at t i c (s ++ r) e in let a = d.0 in let b = d.1 in (omega arith, omega arith)

module _ (t : Bytes) (i : ℕ) (r : Bytes) where
  number_plain : (n : ℕ) → drop i t ≡ show_number n ++ r → get_or t i 0 ≡ 40 → ⊥
  number_plain n e z = let f = number_first t i n r e in let a = f.0 in omega arith

  numbered_there : (n limit : ℕ) → limit ≤ 4294967296 → drop i t ≡ show_number n ++ r → Stops r → numbered (number_at t i) limit ≡ good (i + length (show_number n)) (ltb n limit)
  numbered_there n limit h e s =
      let f = number_there t i n r e s in
      ap (λ (x : Option Number). numbered x limit) f.is ∙ ap (λ (b : Bool). good (i + length (show_number n)) b) (caps_below f.value n limit h f.caps)

  counted_there : (n : ℕ) → drop i t ≡ show_number n ++ r → Stops r → counted (number_at t i) ≡ good (i + length (show_number n)) true
  counted_there n e s = ap counted (number_there t i n r e s).is

  -- a word of two
  either_there : (w : Bytes) (a b : ℕ) → word_fine w ≡ true → either (key w) a b ≡ true → drop i t ≡ w ++ r → Stops r → worded (either (word_at t i).key a b) (word_at t i).next ≡ good (i + length w) true
  either_there w a b f h e s = rw (word_there w t i r f e s, h)

  kind_there : (k : Syntax.Kind) → drop i t ≡ show_kind k ++ r → Stops r → atom Kind t i ≡ good (i + length (show_kind k)) true
  unfolding all_wordly class_of kind_of named_kinds lookup_key key code_after
  kind_there in_kind e s = rw (word_there (bytes "in") t i r refl e s)
  kind_there out_kind e s = rw (word_there (bytes "out") t i r refl e s)
  kind_there wire_kind e s = rw (word_there (bytes "wire") t i r refl e s)
  kind_there reg_kind e s = rw (word_there (bytes "reg") t i r refl e s)
  kind_there mem_kind e s = rw (word_there (bytes "mem") t i r refl e s)
  kind_there inst_kind e s = rw (word_there (bytes "inst") t i r refl e s)

  kind_plain : (k : Syntax.Kind) → drop i t ≡ show_kind k ++ r → get_or t i 0 ≡ 40 → ⊥
  kind_plain in_kind e z = let g = cons_at t i 105 _ e in omega arith
  kind_plain out_kind e z = let g = cons_at t i 111 _ e in omega arith
  kind_plain wire_kind e z = let g = cons_at t i 119 _ e in omega arith
  kind_plain reg_kind e z = let g = cons_at t i 114 _ e in omega arith
  kind_plain mem_kind e z = let g = cons_at t i 109 _ e in omega arith
  kind_plain inst_kind e z = let g = cons_at t i 105 _ e in omega arith

  dir_there : (d : Syntax.Dir) → drop i t ≡ show_dir d ++ r → Stops r → ReadAs Dir d t i
  unfolding all_wordly class_of either key code_after
  dir_there input e s = record { good = either_there (bytes "in") _ _ refl refl e s; plain = λ z. let g = cons_at t i 105 _ e in omega arith }
  dir_there output e s = record { good = either_there (bytes "out") _ _ refl refl e s; plain = λ z. let g = cons_at t i 111 _ e in omega arith }

  bound_there : (b : Bool) → drop i t ≡ show_bound b ++ r → Stops r → ReadAs Bound b t i
  unfolding all_wordly class_of either key code_after
  bound_there true e s = record { good = either_there (bytes "bound") _ _ refl refl e s; plain = λ z. let g = cons_at t i 98 _ e in omega arith }
  bound_there false e s = record { good = either_there (bytes "unbound") _ _ refl refl e s; plain = λ z. let g = cons_at t i 117 _ e in omega arith }

  width_there : (w : Width) → WidthAtom w → drop i t ≡ show_width w ++ r → Stops r → ReadAs T w t i
  unfolding all_wordly class_of either key code_after show_width width_in_range
  width_there bit a e s = record { good = either_there (bytes "bit") _ _ refl refl e s; plain = λ z. let g = cons_at t i 98 _ e in omega arith }
  width_there opaque a e s = record { good = either_there (bytes "opaque") _ _ refl refl e s; plain = λ z. let g = cons_at t i 111 _ e in omega arith }
  width_there (bits x) a e s = absurd a
  width_there (signed x) a e s = absurd a

  truth_word : (b : Bool) → drop i t ≡ show_truth b ++ r → Stops r → (worded (either (word_at t i).key (key (bytes "true")) (key (bytes "false"))) (word_at t i).next ≡ good (i + length (show_truth b)) true) × (is_digit (class_of (get_or t i 0)) ≡ false)
  unfolding all_wordly class_of either key code_after
  truth_word true e s = (either_there (bytes "true") _ _ refl refl e s, ap (λ (x : ℕ). is_digit (class_of x)) (cons_at t i 116 _ e))
  truth_word false e s = (either_there (bytes "false") _ _ refl refl e s, ap (λ (x : ℕ). is_digit (class_of x)) (cons_at t i 102 _ e))

  truth_literal : (b : Bool) → drop i t ≡ show_truth b ++ r → Stops r → literal t i ≡ good (i + length (show_truth b)) true
  unfolding literal
  truth_literal b e s = let f = truth_word b e s in rw (f.1, literal) f.0

  lit_literal : (n : ℕ) → drop i t ≡ show_number n ++ r → Stops r → literal t i ≡ good (i + length (show_number n)) (ltb n number_bound)
  unfolding literal
  lit_literal n e s =
      let f = number_first t i n r e in
      rw (digit_there (get_or t i 0) f.0 f.1, literal) (numbered_there n number_bound (omega arith) e s)

  expr_there : (x : Expr) → ExprAtom x → drop i t ≡ show_expr x ++ r → Stops r → (literal t i ≡ good (i + length (show_expr x)) (expr_in_range x)) × (get_or t i 0 ≡ 40 → ⊥) × (get_or t i 0 ≡ 45 → ⊥)
  unfolding show_expr expr_in_range
  expr_there (lit n) a e s = (lit_literal n e s, number_plain n e, λ z. let f = number_first t i n r e in let a = f.0 in omega arith)
  expr_there (truth true) a e s = (truth_literal true e s, (λ z. let g = cons_at t i 116 _ e in omega arith), λ z. let g = cons_at t i 116 _ e in omega arith)
  expr_there (truth false) a e s = (truth_literal false e s, (λ z. let g = cons_at t i 102 _ e in omega arith), λ z. let g = cons_at t i 102 _ e in omega arith)
  expr_there (name n) a e s = absurd a
  expr_there (field x n) a e s = absurd a
  expr_there (index x y) a e s = absurd a
  expr_there (if_else x y z) a e s = absurd a
  expr_there (unary o x) a e s = absurd a
  expr_there (binary o x y) a e s = absurd a
  expr_there (all es) a e s = absurd a

  place_there : (x : Place) → PlaceAtom x → drop i t ≡ show_place x ++ r → Stops r → ReadAs X x t i
  unfolding show_place place_in_range
  place_there single a e s = let g = cons_at t i 45 _ e in record { good = rw (g, atom); plain = λ z. omega arith }
  place_there (at x) a e s =
      let f = expr_there x a e s in
      record { good = rw (ne_eqb (get_or t i 0) 45 f.2, atom) f.0; plain = f.1 }

-- the digits of a number above 0 do not begin with 0
not_zero : (t : Bytes) (i n : ℕ) (r : Bytes) → drop i t ≡ show_number (suc n) ++ r → Stops r → get_or t i 0 ≡ 48 → ⊥
unfolding number_at
not_zero t i n r e s z =
    let f = number_there t i (suc n) r e s in
    let q : number_at t i ≡ Some (valued 0 (i + 1)) = rw (z, number_at) in
    let v : f.value ≡ 0 = (is_inj (sym f.is ∙ q)).0 in
    large f.caps v
  where
    large : Caps (number_there t i (suc n) r e s).value (suc n) → (number_there t i (suc n) r e s).value ≡ 0 → ⊥
    large (inl a) v = omega arith
    large (inr a) v = let b = a.0 in omega arith

int_there : (x : ℤ) (t : Bytes) (i : ℕ) (r : Bytes) → drop i t ≡ show_int x ++ r → Stops r → ReadAs Int x t i
unfolding show_int in_int int_at
int_there (pos n) t i r e s =
    let f = number_first t i n r e in
    let a = f.0 in
    record { good = rw (ne_eqb (get_or t i 0) 45 (λ z. omega arith), int_at) (numbered_there t i r n number_bound (omega arith) e s); plain = number_plain t i r n e }
int_there (negsuc n) t i r e s =
    let g = cons_at t i 45 _ e in
    let h = cons_next t i 45 (show_number (suc n) ++ r) e in
    let a : i + 1 + length (show_number (suc n)) ≡ i + suc (length (show_number (suc n))) = omega arith in
    record {
      good =
          rw (g, ne_eqb (get_or t (i + 1) 0) 48 (not_zero t (i + 1) n r h s), int_at)
          (numbered_there t (i + 1) r (suc n) (number_bound + 1) (omega arith) h s ∙ ap₂ (λ (x : ℕ) (b : Bool). good x b) a (sym (ltb_step n number_bound)));
      plain = λ z. omega arith;
    }

pub atom_there : (c : Cat) (x : Tree c) (t : Bytes) (i : ℕ) (r : Bytes) → IsAtom c x → drop i t ≡ show c x ++ r → Stops r → ReadAs c x t i
atom_there Name n t i r a e s = record { good = numbered_there t i r n name_bound (omega arith) e s; plain = number_plain t i r n e }
atom_there Start n t i r a e s = record { good = numbered_there t i r n number_bound (omega arith) e s; plain = number_plain t i r n e }
atom_there Mod n t i r a e s = record { good = numbered_there t i r n module_bound (omega arith) e s; plain = number_plain t i r n e }
atom_there Count n t i r a e s = record { good = counted_there t i r n e s; plain = number_plain t i r n e }
atom_there Int x t i r a e s = int_there x t i r e s
atom_there Kind k t i r a e s = record { good = kind_there t i r k e s; plain = kind_plain t i r k e }
atom_there Dir d t i r a e s = dir_there t i r d e s
atom_there Bound b t i r a e s = bound_there t i r b e s
atom_there E x t i r a e s = let f = expr_there t i r x a e s in record { good = f.0; plain = f.1 }
atom_there X x t i r a e s = place_there t i r x a e s
atom_there T w t i r a e s = width_there t i r w a e s
atom_there Lv x t i r a e s = absurd a
atom_there C x t i r a e s = absurd a
atom_there S x t i r a e s = absurd a
atom_there I x t i r a e s = absurd a
atom_there ThenS x t i r a e s = absurd a
atom_there ElseS x t i r a e s = absurd a
atom_there ThenI x t i r a e s = absurd a
atom_there ElseI x t i r a e s = absurd a
atom_there L x t i r a e s = absurd a
atom_there Nothing x t i r a e s = absurd a
