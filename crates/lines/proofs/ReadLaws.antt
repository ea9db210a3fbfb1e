-- Laws of the definitions of specs/Read.antt and of Refusal, one for each way through the code of src/read.rt.
-- Assumes nothing.
use mathlib.Core.Path.{◌≡◌, refl, sym, ap, ◌∙◌}
use mathlib.Core.Bool.{Bool, true, false}
use mathlib.Core.List.{List, [], ◌∷◌}
use mathlib.Core.Logic.{inl, inr}
use Prim.Native.Nat.{ℕ, suc, ◌+◌, ◌-◌, ◌≤◌, ◌<◌}
use native.Mathlib.Omega.{arith}
use native.Mathlib.Numerals.{add-one}
use lib.Dec.{eqb}
use lib.ListN.{length, drop, get_or, drop_of_length-le}
use lib.Seq.{drop-cons, get_or-drop}
use borrow.Author.Tests.{eq-eqb, ne_eqb, le-leb, lt-leb}
use Rattle.std.specs.Prelude.{Some, None, Ok, Err}
use Rattle.spec.specs.Bytes.{Bytes, bytes, onto}
use Rattle.spec.specs.Syntax.{name_bound}
use Rattle.spec.specs.Refusal.{well_formed, refused, lines, in_set, byte_fault, ends_in_feed, set_fault}
use Rattle.spec.specs.Reading.{feeds}
use Rattle.lines.specs.Parse.{key, word_at, valued, number_at, good, scan}
use Rattle.lines.specs.Read.{closes_at, not_written, set_line, number_after, module_step, kind_step, head_step, parsed_step, line_step}
use Rattle.lines.proofs.Laws.{Says}
use Rattle.lines.specs.declared.bytes.Class.TheVariants.{Refused}
use Rattle.lines.specs.declared.parse.Cat.TheVariants.{L}
use Rattle.lines.specs.declared.read.Step.TheVariants.{Module, Kind, Val, Item}
use Rattle.lines.specs.declared.read.Fault.TheVariants.{NotOneForm, BadlyWritten, OutOfRange, OutOfPlace, OneTooMany}

-- ---- closed lines

module _ (t : List ℕ) (i k : ℕ) where
  pub closes_end : length t ≤ i → false ≡ closes_at k (drop i t)
  unfolding closes_at
  closes_end h = rw (drop_of_length-le t h)

  module _ (h : i < length t) where
    pub closes_feed : get_or t i 0 ≡ 10 → false ≡ closes_at k (drop i t)
    unfolding closes_at
    closes_feed e = rw (drop-cons t i 0 h, e)

    pub closes_deep : get_or t i 0 ≡ 40 → 32 ≤ k → false ≡ closes_at k (drop i t)
    unfolding closes_at
    closes_deep e g = rw (drop-cons t i 0 h, ne_eqb (get_or t i 0) 10 (λ z. omega arith), eq-eqb (get_or t i 0) 40 e, le-leb 32 k g, closes_at)

    pub closes_open : get_or t i 0 ≡ 40 → k < 32 → closes_at k (drop i t) ≡ closes_at (k + 1) (drop (i + 1) t)
    unfolding closes_at
    closes_open e g = rw (add-one i, add-one k, drop-cons t i 0 h, ne_eqb (get_or t i 0) 10 (λ z. omega arith), eq-eqb (get_or t i 0) 40 e, lt-leb 32 k g, closes_at)

    pub closes_last : get_or t i 0 ≡ 41 → k ≡ 1 → eqb (get_or t (i + 1) 0) 10 ≡ closes_at k (drop i t)
    unfolding closes_at
    closes_last e g = let z : i + 1 ≡ suc i + 0 = omega arith in rw (drop-cons t i 0 h, e, g) (ap (λ (m : ℕ). eqb (get_or t m 0) 10) z ∙ ap (λ (m : ℕ). eqb m 10) (sym (get_or-drop (suc i) t 0 0)))

    pub closes_shut : get_or t i 0 ≡ 41 → (k ≡ 1 → ⊥) → closes_at k (drop i t) ≡ closes_at (k - 1) (drop (i + 1) t)
    unfolding closes_at
    closes_shut e g = rw (add-one i, drop-cons t i 0 h, ne_eqb (get_or t i 0) 10 (λ z. omega arith), ne_eqb (get_or t i 0) 40 (λ z. omega arith), eq-eqb (get_or t i 0) 41 e, ne_eqb k 1 g, closes_at)

    pub closes_plain : (get_or t i 0 ≡ 10 → ⊥) → (get_or t i 0 ≡ 40 → ⊥) → (get_or t i 0 ≡ 41 → ⊥) → closes_at k (drop i t) ≡ closes_at k (drop (i + 1) t)
    unfolding closes_at
    closes_plain a b c = rw (add-one i, drop-cons t i 0 h, ne_eqb (get_or t i 0) 10 a, ne_eqb (get_or t i 0) 40 b, ne_eqb (get_or t i 0) 41 c, closes_at)

-- ---- the bytes of the set

module _ (t : List ℕ) (i n : ℕ) (h : i < length t) where
  pub set_feed : get_or t i 0 ≡ 10 → byte_fault n (drop i t) ≡ byte_fault (n + 1) (drop (i + 1) t)
  unfolding byte_fault
  set_feed e = rw (add-one i, add-one n, drop-cons t i 0 h, e)

  pub feeds_feed : get_or t i 0 ≡ 10 → feeds (drop i t) ≡ suc (feeds (drop (i + 1) t))
  unfolding feeds
  feeds_feed e = rw (add-one i, drop-cons t i 0 h, e)

  pub feeds_plain : (get_or t i 0 ≡ 10 → ⊥) → feeds (drop i t) ≡ feeds (drop (i + 1) t)
  unfolding feeds
  feeds_plain f = rw (add-one i, drop-cons t i 0 h, ne_eqb (get_or t i 0) 10 f, feeds)

  set_out : in_set (get_or t i 0) ≡ false → byte_fault n (drop i t) ≡ refused 2 n
  unfolding byte_fault
  set_out e = rw (drop-cons t i 0 h, e, byte_fault)

  pub set_refused : Says Refused (get_or t i 0) → byte_fault n (drop i t) ≡ refused 2 n
  set_refused (inl (g, f)) = set_out (rw (ne_eqb (get_or t i 0) 10 f, lt-leb 32 (get_or t i 0) g))
  set_refused (inr g) =
      set_out (rw (ne_eqb (get_or t i 0) 10 (λ z. omega arith), le-leb 32 (get_or t i 0) (omega arith), lt-leb (get_or t i 0) 126 (omega arith)))

  pub set_plain : (get_or t i 0 ≡ 10 → ⊥) → 32 ≤ get_or t i 0 → get_or t i 0 ≤ 126 → byte_fault n (drop i t) ≡ byte_fault n (drop (i + 1) t)
  unfolding byte_fault
  set_plain f g k =
      let e : in_set (get_or t i 0) ≡ true = rw (ne_eqb (get_or t i 0) 10 f, le-leb 32 (get_or t i 0) g, le-leb (get_or t i 0) 126 k) in
      rw (add-one i, drop-cons t i 0 h, e, ne_eqb (get_or t i 0) 10 f, byte_fault)

-- the last byte
ends_last : (c : ℕ) (s : Bytes) → ends_in_feed (c ∷ s) ≡ eqb (get_or (c ∷ s) (length s) 0) 10
unfolding ends_in_feed
ends_last c [] = refl
ends_last c (d ∷ s) = ends_last d s

pub ends_byte : (t : Bytes) (i : ℕ) → length t ≡ i → (i ≡ 0 → ⊥) → ends_in_feed t ≡ eqb (get_or t (i - 1) 0) 10
ends_byte [] i e f = absurd (f (sym e))
ends_byte (c ∷ s) i e f = let z : length s ≡ i - 1 = omega arith in ends_last c s ∙ ap (λ (m : ℕ). eqb (get_or (c ∷ s) m 0) 10) z

-- a text that does not end in a feed has one line more than feeds
open_lines : (c : ℕ) (s : Bytes) → ends_in_feed (c ∷ s) ≡ false → length (lines (c ∷ s)) ≡ suc (feeds (c ∷ s))
unfolding ends_in_feed lines feeds onto
open_lines c [] e = rw (e, lines, feeds)
open_lines c (d ∷ s) e = go (eqb c 10) (lines (d ∷ s)) (open_lines d s e)
  where
    go : (b : Bool) (l : List Bytes) → length l ≡ suc (feeds (d ∷ s)) → length {A = Bytes} (elim b as (λ _. List Bytes) [ true ↦ [] ∷ l | false ↦ onto c l ]) ≡ suc (elim b as (λ _. ℕ) [ true ↦ suc (feeds (d ∷ s)) | false ↦ feeds (d ∷ s) ])
    go true l h = ap suc h
    go false [] h = absurd (omega arith)
    go false (x ∷ l) h = h

module _ (t : Bytes) where
  pub line_out : (n : ℕ) → byte_fault 1 t ≡ refused 2 n → Some n ≡ set_line t
  unfolding set_line set_fault
  line_out n e = rw (e, set_fault)

  pub line_none : byte_fault 1 t ≡ well_formed → ends_in_feed t ≡ true → None ≡ set_line t
  unfolding set_line set_fault
  line_none e f = rw (e, f, set_fault)

  pub line_open : (n : ℕ) → byte_fault 1 t ≡ well_formed → ends_in_feed t ≡ false → suc (feeds t) ≡ n → (length t ≡ 0 → ⊥) → Some n ≡ set_line t
  unfolding set_line set_fault
  line_open n e f g h = rw (e, f, set_fault) (ap (λ (m : ℕ). Some m) (go t f g h))
    where
      go : (t : Bytes) → ends_in_feed t ≡ false → suc (feeds t) ≡ n → (length t ≡ 0 → ⊥) → n ≡ length (lines t)
      go [] f g h = absurd (h refl)
      go (c ∷ s) f g h = sym g ∙ sym (open_lines c s f)

pub none_fault : (n : ℕ) (t : Bytes) (i : ℕ) → length t ≤ i → byte_fault n (drop i t) ≡ well_formed
unfolding byte_fault
none_fault n t i h = rw (drop_of_length-le t h)

pub none_feeds : (t : Bytes) (i : ℕ) → length t ≤ i → feeds (drop i t) ≡ 0
unfolding feeds
none_feeds t i h = rw (drop_of_length-le t h)

pub empty_ends : (t : Bytes) → length t ≡ 0 → ends_in_feed t ≡ true
unfolding ends_in_feed
empty_ends [] e = refl
empty_ends (c ∷ t) e = absurd (omega arith)

-- ---- steps

pub after_none : (t : Bytes) (at : ℕ) → (get_or t at 0 ≡ 32 → ⊥) → None ≡ number_after t at
unfolding number_after
after_none t at f = rw (ne_eqb (get_or t at 0) 32 f, number_after)

pub after_some : (t : Bytes) (at : ℕ) → get_or t at 0 ≡ 32 → number_at t (at + 1) ≡ number_after t at
unfolding number_after
after_some t at f = rw (eq-eqb (get_or t at 0) 32 f, number_after)

module _ (v j modules feed : ℕ) where
  pub module_wrong : (v ≡ modules → ⊥) → Err OutOfPlace ≡ module_step (Some (valued v j)) modules feed
  module_wrong f = rw (ne_eqb v modules f, module_step)

  pub module_many : v ≡ modules → 32 ≤ modules → Err OneTooMany ≡ module_step (Some (valued v j)) modules feed
  module_many e h = rw (eq-eqb v modules e, le-leb 32 modules h, module_step)

  pub module_next : v ≡ modules → modules < 32 → Ok (Module feed) ≡ module_step (Some (valued v j)) modules feed
  module_next e h = rw (eq-eqb v modules e, lt-leb 32 modules h, module_step)

module _ (v j : ℕ) (seen : List ℕ) (feed : ℕ) where
  pub kind_large : name_bound ≤ v → Err OutOfRange ≡ kind_step (Some (valued v j)) seen feed
  kind_large h = rw (le-leb name_bound v h, kind_step)

  pub kind_twice : v < name_bound → (get_or seen v 0 ≡ 0 → ⊥) → Err OneTooMany ≡ kind_step (Some (valued v j)) seen feed
  kind_twice h f = rw (lt-leb name_bound v h, ne_eqb (get_or seen v 0) 0 f, kind_step)

  pub kind_first : v < name_bound → get_or seen v 0 ≡ 0 → Ok (Kind feed v) ≡ kind_step (Some (valued v j)) seen feed
  kind_first h f = rw (lt-leb name_bound v h, eq-eqb (get_or seen v 0) 0 f, kind_step)

pub written_4 : (t : Bytes) (at : ℕ) → closes_at 1 (drop at t) ≡ true → BadlyWritten ≡ not_written t at
unfolding not_written
written_4 t at e = rw (e, not_written)

pub written_3 : (t : Bytes) (at : ℕ) → closes_at 1 (drop at t) ≡ false → NotOneForm ≡ not_written t at
unfolding not_written
written_3 t at e = rw (e, not_written)

module _ (t : Bytes) (at feed modules : ℕ) (items : Bool) (seen : List ℕ) where
  pub head_module : (word_at t at).key ≡ key (bytes "module") → module_step (number_after t (word_at t at).next) modules feed ≡ head_step t at feed modules items seen
  unfolding head_step
  head_module e = rw (eq-eqb (word_at t at).key (key (bytes "module")) e, head_step)

  module _ (m : (word_at t at).key ≡ key (bytes "module") → ⊥) where
    pub head_none : modules ≡ 0 → Err OutOfPlace ≡ head_step t at feed modules items seen
    unfolding head_step
    head_none z = rw (ne_eqb (word_at t at).key (key (bytes "module")) m, eq-eqb modules 0 z, head_step)

    module _ (z : modules ≡ 0 → ⊥) where
      pub head_late : (word_at t at).key ≡ key (bytes "kind") → items ≡ true → Err OutOfPlace ≡ head_step t at feed modules items seen
      unfolding head_step
      head_late e i = rw (ne_eqb (word_at t at).key (key (bytes "module")) m, ne_eqb modules 0 z, eq-eqb (word_at t at).key (key (bytes "kind")) e, i, head_step)

      pub head_kind : (word_at t at).key ≡ key (bytes "kind") → items ≡ false → kind_step (number_after t (word_at t at).next) seen feed ≡ head_step t at feed modules items seen
      unfolding head_step
      head_kind e i = rw (ne_eqb (word_at t at).key (key (bytes "module")) m, ne_eqb modules 0 z, eq-eqb (word_at t at).key (key (bytes "kind")) e, i, head_step)

      module _ (k : (word_at t at).key ≡ key (bytes "kind") → ⊥) where
        pub head_val_late : (word_at t at).key ≡ key (bytes "val") → items ≡ true → Err OutOfPlace ≡ head_step t at feed modules items seen
        unfolding head_step
        head_val_late e i = rw (ne_eqb (word_at t at).key (key (bytes "module")) m, ne_eqb modules 0 z, ne_eqb (word_at t at).key (key (bytes "kind")) k, eq-eqb (word_at t at).key (key (bytes "val")) e, i, head_step)

        pub head_val : (word_at t at).key ≡ key (bytes "val") → items ≡ false → Ok (Val feed) ≡ head_step t at feed modules items seen
        unfolding head_step
        head_val e i = rw (ne_eqb (word_at t at).key (key (bytes "module")) m, ne_eqb modules 0 z, ne_eqb (word_at t at).key (key (bytes "kind")) k, eq-eqb (word_at t at).key (key (bytes "val")) e, i, head_step)

        pub head_item : ((word_at t at).key ≡ key (bytes "val") → ⊥) → Ok (Item feed) ≡ head_step t at feed modules items seen
        unfolding head_step
        head_item v = rw (ne_eqb (word_at t at).key (key (bytes "module")) m, ne_eqb modules 0 z, ne_eqb (word_at t at).key (key (bytes "kind")) k, ne_eqb (word_at t at).key (key (bytes "val")) v, head_step)

module _ (t : Bytes) (at modules : ℕ) (items : Bool) (seen : List ℕ) where
  pub line_no_form : (get_or t at 0 ≡ 40 → ⊥) → Err NotOneForm ≡ line_step t at modules items seen
  unfolding line_step
  line_no_form f = rw (ne_eqb (get_or t at 0) 40 f, line_step)

  module _ (o : get_or t at 0 ≡ 40) where
    pub line_bad : scan 32 L t at ≡ None → Err (not_written t (at + 1)) ≡ line_step t at modules items seen
    unfolding line_step
    line_bad e = rw (eq-eqb (get_or t at 0) 40 o, e, line_step)

    module _ (j : ℕ) (range : Bool) (e : scan 32 L t at ≡ good j range) where
      pub line_junk : (get_or t j 0 ≡ 10 → ⊥) → Err (not_written t (at + 1)) ≡ line_step t at modules items seen
      unfolding line_step
      line_junk f = rw (eq-eqb (get_or t at 0) 40 o, e, line_step) (rw (ne_eqb (get_or t j 0) 10 f, parsed_step))

      pub line_large : get_or t j 0 ≡ 10 → range ≡ false → Err OutOfRange ≡ line_step t at modules items seen
      unfolding line_step
      line_large f r = rw (eq-eqb (get_or t at 0) 40 o, e, line_step) (rw (eq-eqb (get_or t j 0) 10 f, r, parsed_step))

      pub line_head : get_or t j 0 ≡ 10 → range ≡ true → head_step t (at + 1) j modules items seen ≡ line_step t at modules items seen
      unfolding line_step
      line_head f r = rw (eq-eqb (get_or t at 0) 40 o, e, line_step) (rw (eq-eqb (get_or t j 0) 10 f, r, parsed_step))
