-- Laws of evaluation: the value of the tree that bytes are, by the shape that their head word gives, step by step.
-- Assumes nothing.
use mathlib.Core.Path.{◌≡◌, refl, sym, ap, ◌∙◌}
use mathlib.Core.Bool.{Bool, true, false}
use mathlib.Core.List.{List, [], ◌∷◌}
use Prim.Native.Nat.{ℕ, zero, suc, ◌+◌, ◌-◌, ◌/◌, ◌≤◌, ◌<◌, min}
use native.Mathlib.Omega.{arith}
use lib.IntN.{ℤ, pos}
use lib.ListN.{length, get_or, set}
use lib.Dec.{eqb, ltb}
use borrow.Author.Tests.{eq-eqb, ne_eqb, lt-ltb, le-ltb, ltb-true, ltb-false}
use Rattle.std.specs.Prelude.{Option, Some, None as no_parts, Ok, Err}
use Rattle.spec.specs.Bytes.{Bytes, lookup_word, number, is_form, parts}
use Rattle.spec.specs.Syntax.{Expr, lit, truth, name, field, index, if_else, unary, binary, neg, not, clog2, add, sub, mul, eq, ne, lt, le, gt, ge, and, or, shl, shr, band, bor, bxor}
use Rattle.spec.specs.Decode.{with_one, with_two, with_three, by_head, ExprHead, expr_heads, no_expr, no_value, expr_by, decode_atom, decode_expr}
use Rattle.spec.specs.Value.{Value, known, missing, outside, Names, value_of_name, within, is_zero, truth_value, unary_value, binary_value, and_then, value}
use Rattle.lines.specs.Parts.{part_end, piece, next_end, single_of, pair_of, triple_of}
use Rattle.lines.specs.Words.{word_of}
use Rattle.lines.proofs.WordTables.{expr_head, on_word}
use Rattle.lines.proofs.PartLaws.{others, parts_form, one_is, one_not, two_is, two_not, three_is, three_not}
use Rattle.lines.proofs.WordLaws.{expr_words, truth_word}
use Rattle.lines.specs.declared.words.Word.{Word}
use Rattle.lines.specs.declared.words.Word.TheVariants.{N as NWord, F as FWord, Ix as IxWord, If as IfWord, All as AllWord, Neg as NegWord, Not as NotWord, Clog2 as Clog2Word, Add as AddWord, Sub as SubWord, Mul as MulWord, Eq as EqWord, Ne as NeWord, Lt as LtWord, Le as LeWord, Gt as GtWord, Ge as GeWord, And as AndWord, Or as OrWord, Shl as ShlWord, Shr as ShrWord, Band as BandWord, Bor as BorWord, Bxor as BxorWord, True as TrueWord, False as FalseWord, Bit as BitWord, Opaque as OpaqueWord, Bits as BitsWord, Signed as SignedWord, Lv as LvWord, Set as SetWord, Default as DefaultWord, Loop as LoopWord, When as WhenWord, Then as ThenWord, Else as ElseWord, Conn as ConnWord, Dash as DashWord, Port as PortWord, Wire as WireWord, Reg as RegWord, Mem as MemWord, Const as ConstWord, Drive as DriveWord, On as OnWord, Inst as InstWord, Repeat as RepeatWord, ConstIf as ConstIfWord, In as InWord, Out as OutWord, Module as ModuleWord, Kind as KindWord, Val as ValWord, Bound as BoundWord, Unbound as UnboundWord, Other as OtherWord}
use Rattle.consteval.specs.Worth.{Answer, signed, worth, pairs, names_of, unary_of, binary_of, shape, room, pushed}
use Rattle.consteval.specs.declared.Outside.{Outside}
use Rattle.consteval.specs.declared.shape.Unary.{Unary as OneWord}
use Rattle.consteval.specs.declared.shape.Binary.{Binary as TwoWord}
use Rattle.consteval.specs.declared.shape.Shape.{Shape}
use Rattle.consteval.specs.declared.shape.Shape.TheVariants.{Name, If, One, Two, True, False, None}
use Rattle.consteval.proofs.ArithLaws.{zero_test, pos_out}

-- ---- the value by shape

-- 01, The value: the value of a form of that shape with these parts behind its head, f being what a part is
abbrev pub by_shape : Names → (Bytes → Expr) → Shape → List Bytes → Value
by_shape names f Name ps = with_one missing (λ n. value_of_name names (number n)) ps
by_shape names f If ps =
    with_three missing (λ c a b. and_then (value names (f c)) (λ x. elim (is_zero x) [ true ↦ value names (f b) | false ↦ value names (f a) ])) ps
by_shape names f (One o) ps = with_one missing (λ a. and_then (value names (f a)) (unary_value (unary_of o))) ps
by_shape names f (Two o) ps = with_two missing (λ a b. and_then (value names (f a)) (λ x. and_then (value names (f b)) (binary_value (binary_of o) x))) ps
by_shape names f True ps = missing
by_shape names f False ps = missing
by_shape names f None ps = missing

-- 01, The value: the value of bytes that are no form, by the shape of their word, n being the number that they are
abbrev pub by_atom : Shape → ℕ → Value
by_atom Name n = within (pos n)
by_atom If n = within (pos n)
by_atom (One o) n = within (pos n)
by_atom (Two o) n = within (pos n)
by_atom True n = truth_value true
by_atom False n = truth_value false
by_atom None n = within (pos n)

-- ---- atoms

-- all that is no u32 is outside INT, and no name
pub capped_value : (n : ℕ) → within (pos (min n 4294967296)) ≡ within (pos n)
capped_value n = go (ltb n 4294967296) refl
  where
    go : (b : Bool) → ltb n 4294967296 ≡ b → within (pos (min n 4294967296)) ≡ within (pos n)
    go true e = let h = ltb-true n 4294967296 e in let z : min n 4294967296 ≡ n = omega arith in rw z
    go false e =
        let h = ltb-false n 4294967296 e in
        let z : min n 4294967296 ≡ 4294967296 = omega arith in
        let k : 2147483648 ≤ n = omega arith in
        ap (λ (m : ℕ). within (pos m)) z ∙ sym (pos_out 4294967296 (omega arith)) ∙ pos_out n k

atom_word : (names : Names) (n : ℕ) (w : Word) → value names (on_word TrueWord (truth true) (on_word FalseWord (truth false) (lit n) w) w) ≡ by_atom (shape w) n
unfolding value
atom_word names n NWord = refl
atom_word names n FWord = refl
atom_word names n IxWord = refl
atom_word names n IfWord = refl
atom_word names n AllWord = refl
atom_word names n NegWord = refl
atom_word names n NotWord = refl
atom_word names n Clog2Word = refl
atom_word names n AddWord = refl
atom_word names n SubWord = refl
atom_word names n MulWord = refl
atom_word names n EqWord = refl
atom_word names n NeWord = refl
atom_word names n LtWord = refl
atom_word names n LeWord = refl
atom_word names n GtWord = refl
atom_word names n GeWord = refl
atom_word names n AndWord = refl
atom_word names n OrWord = refl
atom_word names n ShlWord = refl
atom_word names n ShrWord = refl
atom_word names n BandWord = refl
atom_word names n BorWord = refl
atom_word names n BxorWord = refl
atom_word names n TrueWord = refl
atom_word names n FalseWord = refl
atom_word names n BitWord = refl
atom_word names n OpaqueWord = refl
atom_word names n BitsWord = refl
atom_word names n SignedWord = refl
atom_word names n LvWord = refl
atom_word names n SetWord = refl
atom_word names n DefaultWord = refl
atom_word names n LoopWord = refl
atom_word names n WhenWord = refl
atom_word names n ThenWord = refl
atom_word names n ElseWord = refl
atom_word names n ConnWord = refl
atom_word names n DashWord = refl
atom_word names n PortWord = refl
atom_word names n WireWord = refl
atom_word names n RegWord = refl
atom_word names n MemWord = refl
atom_word names n ConstWord = refl
atom_word names n DriveWord = refl
atom_word names n OnWord = refl
atom_word names n InstWord = refl
atom_word names n RepeatWord = refl
atom_word names n ConstIfWord = refl
atom_word names n InWord = refl
atom_word names n OutWord = refl
atom_word names n ModuleWord = refl
atom_word names n KindWord = refl
atom_word names n ValWord = refl
atom_word names n BoundWord = refl
atom_word names n UnboundWord = refl
atom_word names n OtherWord = refl

pub atom_law : (names : Names) (s : Bytes) → value names (decode_atom s) ≡ by_atom (shape (word_of s)) (number s)
unfolding decode_atom
atom_law names s = ap (value names) (truth_word (truth true) (truth false) (lit (number s)) s) ∙ atom_word names (number s) (word_of s)

pub other_atom : (k : Shape) (n : ℕ) → (k ≡ True → ⊥) → (k ≡ False → ⊥) → within (pos n) ≡ by_atom k n
other_atom Name n f g = refl
other_atom If n f g = refl
other_atom (One o) n f g = refl
other_atom (Two o) n f g = refl
other_atom True n f g = absurd (f refl)
other_atom False n f g = absurd (g refl)
other_atom None n f g = refl

-- ---- forms, by the shape of the head word
value_one : (names : Names) (g : Bytes → Expr) (ps : List Bytes) → value names (with_one no_value g ps) ≡ with_one missing (λ a. value names (g a)) ps
unfolding value
value_one names g [] = refl
value_one names g (a ∷ []) = refl
value_one names g (a ∷ b ∷ ps) = refl

value_two : (names : Names) (g : Bytes → Bytes → Expr) (ps : List Bytes) → value names (with_two no_value g ps) ≡ with_two missing (λ a b. value names (g a b)) ps
unfolding value
value_two names g [] = refl
value_two names g (a ∷ ps) = value_one names (g a) ps

value_three : (names : Names) (g : Bytes → Bytes → Bytes → Expr) (ps : List Bytes) → value names (with_three no_value g ps) ≡ with_three missing (λ a b c. value names (g a b c)) ps
unfolding value
value_three names g [] = refl
value_three names g (a ∷ ps) = value_two names (g a) ps

none_one : (ps : List Bytes) → with_one missing (λ (a : Bytes). missing) ps ≡ missing
none_one [] = refl
none_one (a ∷ []) = refl
none_one (a ∷ b ∷ ps) = refl

none_two : (ps : List Bytes) → with_two missing (λ (a b : Bytes). missing) ps ≡ missing
none_two [] = refl
none_two (a ∷ ps) = none_one ps

shape_law : (names : Names) (f : Bytes → Expr) (w : Word) (ps : List Bytes) → value names (expr_by f (expr_head w) ps) ≡ by_shape names f (shape w) ps
unfolding value expr_by binary_value
shape_law names f NWord ps = value_one names (λ n. name (number n)) ps
shape_law names f FWord ps = value_two names (λ e n. field (f e) (number n)) ps ∙ none_two ps
shape_law names f IxWord ps = value_two names (λ e i. index (f e) (f i)) ps ∙ none_two ps
shape_law names f IfWord ps = value_three names (λ c a b. if_else (f c) (f a) (f b)) ps
shape_law names f AllWord ps = refl
shape_law names f NegWord ps = value_one names (λ a. unary neg (f a)) ps
shape_law names f NotWord ps = value_one names (λ a. unary not (f a)) ps
shape_law names f Clog2Word ps = value_one names (λ a. unary clog2 (f a)) ps
shape_law names f AddWord ps = value_two names (λ a b. binary add (f a) (f b)) ps
shape_law names f SubWord ps = value_two names (λ a b. binary sub (f a) (f b)) ps
shape_law names f MulWord ps = value_two names (λ a b. binary mul (f a) (f b)) ps
shape_law names f EqWord ps = value_two names (λ a b. binary eq (f a) (f b)) ps
shape_law names f NeWord ps = value_two names (λ a b. binary ne (f a) (f b)) ps
shape_law names f LtWord ps = value_two names (λ a b. binary lt (f a) (f b)) ps
shape_law names f LeWord ps = value_two names (λ a b. binary le (f a) (f b)) ps
shape_law names f GtWord ps = value_two names (λ a b. binary gt (f a) (f b)) ps
shape_law names f GeWord ps = value_two names (λ a b. binary ge (f a) (f b)) ps
shape_law names f AndWord ps = value_two names (λ a b. binary and (f a) (f b)) ps
shape_law names f OrWord ps = value_two names (λ a b. binary or (f a) (f b)) ps
shape_law names f ShlWord ps = value_two names (λ a b. binary shl (f a) (f b)) ps
shape_law names f ShrWord ps = value_two names (λ a b. binary shr (f a) (f b)) ps
shape_law names f BandWord ps = value_two names (λ a b. binary band (f a) (f b)) ps
shape_law names f BorWord ps = value_two names (λ a b. binary bor (f a) (f b)) ps
shape_law names f BxorWord ps = value_two names (λ a b. binary bxor (f a) (f b)) ps
shape_law names f TrueWord ps = refl
shape_law names f FalseWord ps = refl
shape_law names f BitWord ps = refl
shape_law names f OpaqueWord ps = refl
shape_law names f BitsWord ps = refl
shape_law names f SignedWord ps = refl
shape_law names f LvWord ps = refl
shape_law names f SetWord ps = refl
shape_law names f DefaultWord ps = refl
shape_law names f LoopWord ps = refl
shape_law names f WhenWord ps = refl
shape_law names f ThenWord ps = refl
shape_law names f ElseWord ps = refl
shape_law names f ConnWord ps = refl
shape_law names f DashWord ps = refl
shape_law names f PortWord ps = refl
shape_law names f WireWord ps = refl
shape_law names f RegWord ps = refl
shape_law names f MemWord ps = refl
shape_law names f ConstWord ps = refl
shape_law names f DriveWord ps = refl
shape_law names f OnWord ps = refl
shape_law names f InstWord ps = refl
shape_law names f RepeatWord ps = refl
shape_law names f ConstIfWord ps = refl
shape_law names f InWord ps = refl
shape_law names f OutWord ps = refl
shape_law names f ModuleWord ps = refl
shape_law names f KindWord ps = refl
shape_law names f ValWord ps = refl
shape_law names f BoundWord ps = refl
shape_law names f UnboundWord ps = refl
shape_law names f OtherWord ps = refl

form_test : (s : Bytes) → is_form s ≡ eqb (get_or s 0 0) 40
unfolding is_form
form_test [] = refl
form_test (c ∷ s) = refl

flat_same : (names : Names) (s : Bytes) → value [] (decode_atom s) ≡ value names (decode_atom s)
flat_same names s = atom_law [] s ∙ sym (atom_law names s)

decode_form : (d : ℕ) (s : Bytes) → is_form s ≡ true → decode_expr (suc d) s ≡ by_head expr_heads no_expr no_value (expr_by (decode_expr d)) s
unfolding decode_expr
decode_form d s e = rw (e, decode_expr)

pub head_parts : {A H : Type 0} (table : List (Bytes × H)) (other : H) (z : A) (f : H → List Bytes → A) (s : Bytes) {w : Bytes} {ps : List Bytes} → parts s ≡ w ∷ ps → by_head table other z f s ≡ f (lookup_word table other w) ps
unfolding by_head
head_parts table other z f s e = rw (e, by_head)

module _ (names : Names) (s : Bytes) (d : ℕ) where
  pub eval_flat : d ≡ 0 → value [] (decode_atom s) ≡ value names (decode_expr d s)
  unfolding decode_expr
  eval_flat e = rw e (flat_same names s)

  pub eval_atom : (d ≡ 0 → ⊥) → (get_or s 0 0 ≡ 40 → ⊥) → value [] (decode_atom s) ≡ value names (decode_expr d s)
  unfolding decode_expr
  eval_atom nz f = go d nz
    where
      go : (d : ℕ) → (d ≡ 0 → ⊥) → value [] (decode_atom s) ≡ value names (decode_expr d s)
      go zero g = absurd (g refl)
      go (suc d) g = rw (form_test s ∙ ne_eqb (get_or s 0 0) 40 f, decode_expr) (flat_same names s)

  module _ (nz : d ≡ 0 → ⊥) (b : get_or s 0 0 ≡ 40) {h : ℕ} (qh : h ≡ part_end s 1) {w : Word} (qw : w ≡ word_of (piece s 0 h)) {k : Shape} (qk : k ≡ shape w) where
    not_empty : length s ≡ 0 → ⊥
    not_empty = go s b
      where
        go : (s : Bytes) → get_or s 0 0 ≡ 40 → length s ≡ 0 → ⊥
        go [] e z = omega arith
        go (c ∷ s) e z = omega arith

    -- the parts of the form, by the end of its head
    form_parts : parts s ≡ piece s 0 h ∷ others s h
    unfolding next_end
    form_parts = parts_form s not_empty ∙ ap (λ (n : ℕ). piece s 0 n ∷ others s n) (sym qh)

    step : by_shape names (decode_expr (d - 1)) k (others s h) ≡ value names (decode_expr d s)
    step = go d nz
      where
        go : (d : ℕ) → (d ≡ 0 → ⊥) → by_shape names (decode_expr (d - 1)) k (others s h) ≡ value names (decode_expr d s)
        go zero g = absurd (g refl)
        go (suc d) g =
            ap (λ (n : ℕ). by_shape names (decode_expr n) k (others s h)) (let z : suc d - 1 ≡ d = omega arith in z)
            ∙ ap (λ (x : Shape). by_shape names (decode_expr d) x (others s h)) qk
            ∙ sym (shape_law names (decode_expr d) w (others s h))
            ∙ ap (λ (x : Word). value names (expr_by (decode_expr d) (expr_head x) (others s h))) qw
            ∙ sym (ap (λ (x : ExprHead). value names (expr_by (decode_expr d) x (others s h))) (expr_words (piece s 0 h)))
            ∙ sym (ap (value names) (decode_form d s (form_test s ∙ eq-eqb (get_or s 0 0) 40 b) ∙ head_parts expr_heads no_expr no_value (expr_by (decode_expr d)) s form_parts))

    -- what a name is worth
    module _ (e : k ≡ Name) {r : Option ℕ} (q : r ≡ single_of s h) where
      name_step : with_one missing (λ n. value_of_name names (number n)) (others s h) ≡ value names (decode_expr d s)
      name_step = ap (λ (x : Shape). by_shape names (decode_expr (d - 1)) x (others s h)) (sym e) ∙ step

      pub name_is : {a : ℕ} → r ≡ Some a → value_of_name names (number (piece s h a)) ≡ value names (decode_expr d s)
      name_is p = sym (one_is missing s h (λ n. value_of_name names (number n)) q p) ∙ name_step

      pub name_not : r ≡ no_parts → missing ≡ value names (decode_expr d s)
      name_not p = sym (one_not missing s h (λ n. value_of_name names (number n)) q p) ∙ name_step

    -- an operator with one operand
    module _ {o : OneWord} (e : k ≡ One o) {r : Option ℕ} (q : r ≡ single_of s h) where
      abbrev one_value : Bytes → Value
      one_value a = and_then (value names (decode_expr (d - 1) a)) (unary_value (unary_of o))

      one_step : with_one missing one_value (others s h) ≡ value names (decode_expr d s)
      one_step = ap (λ (x : Shape). by_shape names (decode_expr (d - 1)) x (others s h)) (sym e) ∙ step

      pub one_wrong : r ≡ no_parts → missing ≡ value names (decode_expr d s)
      one_wrong p = sym (one_not missing s h one_value q p) ∙ one_step

      module _ {a : ℕ} (p : r ≡ Some a) {t : Bytes} (qt : t ≡ piece s h a) (v : Answer) (qv : worth v ≡ value names (decode_expr (d - 1) t)) where
        one_then : and_then (worth v) (unary_value (unary_of o)) ≡ value names (decode_expr d s)
        one_then = ap (λ (x : Value). and_then x (unary_value (unary_of o))) (qv ∙ ap (λ (x : Bytes). value names (decode_expr (d - 1) x)) qt) ∙ sym (one_is missing s h one_value q p) ∙ one_step

        pub one_known : {x : ℕ} → v ≡ Ok (Some x) → unary_value (unary_of o) (signed x) ≡ value names (decode_expr d s)
        one_known f = sym (ap (λ (x : Answer). and_then (worth x) (unary_value (unary_of o))) f) ∙ one_then

        pub one_missing : v ≡ Ok no_parts → missing ≡ value names (decode_expr d s)
        one_missing f = sym (ap (λ (x : Answer). and_then (worth x) (unary_value (unary_of o))) f) ∙ one_then

        pub one_outside : {e : Outside} → v ≡ Err e → outside ≡ value names (decode_expr d s)
        one_outside f = sym (ap (λ (x : Answer). and_then (worth x) (unary_value (unary_of o))) f) ∙ one_then

    -- an operator with two operands
    module _ {o : TwoWord} (e : k ≡ Two o) {r : Option (ℕ × ℕ)} (q : r ≡ pair_of s h) where
      abbrev two_value : Bytes → Bytes → Value
      two_value a b = and_then (value names (decode_expr (d - 1) a)) (λ x. and_then (value names (decode_expr (d - 1) b)) (binary_value (binary_of o) x))

      two_step : with_two missing two_value (others s h) ≡ value names (decode_expr d s)
      two_step = ap (λ (x : Shape). by_shape names (decode_expr (d - 1)) x (others s h)) (sym e) ∙ step

      pub two_wrong : r ≡ no_parts → missing ≡ value names (decode_expr d s)
      two_wrong p = sym (two_not missing s h two_value q p) ∙ two_step

      module _ {a c : ℕ} (p : r ≡ Some (a, c)) {t : Bytes} (qt : t ≡ piece s h a) (v : Answer) (qv : worth v ≡ value names (decode_expr (d - 1) t)) where
        abbrev second : ℤ → Value
        second x = and_then (value names (decode_expr (d - 1) (piece s a c))) (binary_value (binary_of o) x)

        two_then : and_then (worth v) second ≡ value names (decode_expr d s)
        two_then = ap (λ (x : Value). and_then x second) (qv ∙ ap (λ (x : Bytes). value names (decode_expr (d - 1) x)) qt) ∙ sym (two_is missing s h two_value q p) ∙ two_step

        pub two_missing : v ≡ Ok no_parts → missing ≡ value names (decode_expr d s)
        two_missing f = sym (ap (λ (x : Answer). and_then (worth x) second) f) ∙ two_then

        pub two_outside : {e : Outside} → v ≡ Err e → outside ≡ value names (decode_expr d s)
        two_outside f = sym (ap (λ (x : Answer). and_then (worth x) second) f) ∙ two_then

        module _ {x : ℕ} (f : v ≡ Ok (Some x)) {u : Bytes} (qu : u ≡ piece s a c) (y : Answer) (qy : worth y ≡ value names (decode_expr (d - 1) u)) where
          both_then : and_then (worth y) (binary_value (binary_of o) (signed x)) ≡ value names (decode_expr d s)
          both_then =
              ap (λ (z : Value). and_then z (binary_value (binary_of o) (signed x))) (qy ∙ ap (λ (z : Bytes). value names (decode_expr (d - 1) z)) qu)
              ∙ sym (ap (λ (z : Answer). and_then (worth z) second) f) ∙ two_then

          pub both_known : {z : ℕ} → y ≡ Ok (Some z) → binary_value (binary_of o) (signed x) (signed z) ≡ value names (decode_expr d s)
          both_known g = sym (ap (λ (z : Answer). and_then (worth z) (binary_value (binary_of o) (signed x))) g) ∙ both_then

          pub both_missing : y ≡ Ok no_parts → missing ≡ value names (decode_expr d s)
          both_missing g = sym (ap (λ (z : Answer). and_then (worth z) (binary_value (binary_of o) (signed x))) g) ∙ both_then

          pub both_outside : {e : Outside} → y ≡ Err e → outside ≡ value names (decode_expr d s)
          both_outside g = sym (ap (λ (z : Answer). and_then (worth z) (binary_value (binary_of o) (signed x))) g) ∙ both_then

    -- `if`
    module _ (e : k ≡ If) {r : Option (ℕ × ℕ × ℕ)} (q : r ≡ triple_of s h) where
      abbrev if_value : Bytes → Bytes → Bytes → Value
      if_value c a b = and_then (value names (decode_expr (d - 1) c)) (λ x. elim (is_zero x) [ true ↦ value names (decode_expr (d - 1) b) | false ↦ value names (decode_expr (d - 1) a) ])

      if_step : with_three missing if_value (others s h) ≡ value names (decode_expr d s)
      if_step = ap (λ (x : Shape). by_shape names (decode_expr (d - 1)) x (others s h)) (sym e) ∙ step

      pub if_wrong : r ≡ no_parts → missing ≡ value names (decode_expr d s)
      if_wrong p = sym (three_not missing s h if_value q p) ∙ if_step

      module _ {i j l : ℕ} (p : r ≡ Some (i, j, l)) {t : Bytes} (qt : t ≡ piece s h i) (v : Answer) (qv : worth v ≡ value names (decode_expr (d - 1) t)) where
        abbrev branch : ℤ → Value
        branch x = elim (is_zero x) [ true ↦ value names (decode_expr (d - 1) (piece s j l)) | false ↦ value names (decode_expr (d - 1) (piece s i j)) ]

        if_then : and_then (worth v) branch ≡ value names (decode_expr d s)
        if_then = ap (λ (x : Value). and_then x branch) (qv ∙ ap (λ (x : Bytes). value names (decode_expr (d - 1) x)) qt) ∙ sym (three_is missing s h if_value q p) ∙ if_step

        pub if_missing : v ≡ Ok no_parts → missing ≡ value names (decode_expr d s)
        if_missing f = sym (ap (λ (x : Answer). and_then (worth x) branch) f) ∙ if_then

        pub if_outside : {e : Outside} → v ≡ Err e → outside ≡ value names (decode_expr d s)
        if_outside f = sym (ap (λ (x : Answer). and_then (worth x) branch) f) ∙ if_then

        if_known : {x : ℕ} → v ≡ Ok (Some x) → branch (signed x) ≡ value names (decode_expr d s)
        if_known f = sym (ap (λ (x : Answer). and_then (worth x) branch) f) ∙ if_then

        pub if_zero : {x : ℕ} → v ≡ Ok (Some x) → x ≡ 2147483648 → {u : Bytes} → u ≡ piece s j l → value names (decode_expr (d - 1) u) ≡ value names (decode_expr d s)
        if_zero {x} f z qu = ap (λ (x : Bytes). value names (decode_expr (d - 1) x)) qu ∙ take_else (is_zero (signed x)) (zero_test x ∙ eq-eqb x 2147483648 z) ∙ if_known f
          where
            take_else : (b : Bool) → b ≡ true → value names (decode_expr (d - 1) (piece s j l)) ≡ elim b as (λ _. Value) [ true ↦ value names (decode_expr (d - 1) (piece s j l)) | false ↦ value names (decode_expr (d - 1) (piece s i j)) ]
            take_else b e = rw e

        pub if_other : {x : ℕ} → v ≡ Ok (Some x) → (x ≡ 2147483648 → ⊥) → {u : Bytes} → u ≡ piece s i j → value names (decode_expr (d - 1) u) ≡ value names (decode_expr d s)
        if_other {x} f z qu = ap (λ (x : Bytes). value names (decode_expr (d - 1) x)) qu ∙ take_then (is_zero (signed x)) (zero_test x ∙ ne_eqb x 2147483648 z) ∙ if_known f
          where
            take_then : (b : Bool) → b ≡ false → value names (decode_expr (d - 1) (piece s i j)) ≡ elim b as (λ _. Value) [ true ↦ value names (decode_expr (d - 1) (piece s j l)) | false ↦ value names (decode_expr (d - 1) (piece s i j)) ]
            take_then b e = rw e

    -- a word that makes no form with a value
    pub none_form : k ≡ None → missing ≡ value names (decode_expr d s)
    none_form e = ap (λ (x : Shape). by_shape names (decode_expr (d - 1)) x (others s h)) (sym e) ∙ step

    pub true_form : k ≡ True → missing ≡ value names (decode_expr d s)
    true_form e = ap (λ (x : Shape). by_shape names (decode_expr (d - 1)) x (others s h)) (sym e) ∙ step

    pub false_form : k ≡ False → missing ≡ value names (decode_expr d s)
    false_form e = ap (λ (x : Shape). by_shape names (decode_expr (d - 1)) x (others s h)) (sym e) ∙ step

-- ---- the name table

-- a number that is no u32 is no name of a table
eqb_capped : (e n : ℕ) → e < 4294967296 → eqb e (min n 4294967296) ≡ eqb e n
eqb_capped e n h = go (ltb n 4294967296) refl
  where
    go : (b : Bool) → ltb n 4294967296 ≡ b → eqb e (min n 4294967296) ≡ eqb e n
    go true q = let k = ltb-true n 4294967296 q in let z : min n 4294967296 ≡ n = omega arith in rw z
    go false q =
        let k = ltb-false n 4294967296 q in
        let z : min n 4294967296 ≡ 4294967296 = omega arith in
        ap (eqb e) z ∙ ne_eqb e 4294967296 (λ w. omega arith) ∙ sym (ne_eqb e n (λ w. omega arith))

capped_pairs : (t : List ℕ) → ((i : ℕ) → get_or t i 0 < 4294967296) → (k n : ℕ) → value_of_name (pairs t k) (min n 4294967296) ≡ value_of_name (pairs t k) n
unfolding pairs value_of_name
capped_pairs t f zero n = refl
capped_pairs t f (suc k) n = rw (eqb_capped (get_or t (k + k) 0) n (f (k + k)), value_of_name) (go (eqb (get_or t (k + k) 0) n) (capped_pairs t f k n))
  where
    go : (b : Bool) → value_of_name (pairs t k) (min n 4294967296) ≡ value_of_name (pairs t k) n →
        ◌≡◌ {A = Value}
        (elim b as (λ _. Value) [ true ↦ known (signed (get_or t (k + k + 1) 0)) | false ↦ value_of_name (pairs t k) (min n 4294967296) ])
        (elim b as (λ _. Value) [ true ↦ known (signed (get_or t (k + k + 1) 0)) | false ↦ value_of_name (pairs t k) n ])
    go true i = refl
    go false i = i

pub capped_name : (t : List ℕ) → ((i : ℕ) → get_or t i 0 < 4294967296) → (used n : ℕ) → value_of_name (names_of t used) (min n 4294967296) ≡ value_of_name (names_of t used) n
unfolding names_of
capped_name t f used n = capped_pairs t f (min used (length t / 2)) n

-- one law for each way of `look_up`
pub names_start : (t : List ℕ) (used n : ℕ) {i : ℕ} → i ≡ min used (length t / 2) → value_of_name (names_of t used) n ≡ value_of_name (pairs t i) n
unfolding names_of
names_start t used n q = rw q

module _ (t : List ℕ) (n i j : ℕ) (s : j + 1 ≡ i) where
  next_pair : pairs t i ≡ (get_or t (j + j) 0, signed (get_or t (j + j + 1) 0)) ∷ pairs t j
  unfolding pairs
  next_pair = let z : i ≡ suc j = omega arith in rw z

  pub found_here : get_or t (j + j) 0 ≡ n → known (signed (get_or t (j + j + 1) 0)) ≡ value_of_name (pairs t i) n
  unfolding value_of_name
  found_here e = rw (next_pair, eq-eqb (get_or t (j + j) 0) n e, value_of_name)

  pub not_here : (get_or t (j + j) 0 ≡ n → ⊥) → value_of_name (pairs t i) n ≡ value_of_name (pairs t j) n
  unfolding value_of_name
  not_here f = rw (next_pair, ne_eqb (get_or t (j + j) 0) n f, value_of_name)

pub found_none : (t : List ℕ) (n i : ℕ) → i ≤ 0 → missing ≡ value_of_name (pairs t i) n
unfolding pairs value_of_name
found_none t n zero h = refl
found_none t n (suc i) h = absurd (omega arith)

-- ---- `push`
module _ (t : List ℕ) (used n v : ℕ) where
  pub push_in : used < length t / 2 → (true ≡ room t used) × (set (set t (used + used) n) (used + used + 1) v ≡ pushed t used n v)
  unfolding pushed
  push_in h = (sym (lt-ltb used (length t / 2) h), rw (lt-ltb used (length t / 2) h, pushed))

  pub push_full : length t / 2 ≤ used → (false ≡ room t used) × (t ≡ pushed t used n v)
  unfolding pushed
  push_full h = (sym (le-ltb used (length t / 2) h), rw (le-ltb used (length t / 2) h, pushed))
