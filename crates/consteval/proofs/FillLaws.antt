-- Laws of filling the name table: lines, what each adds, and one law for each way through the code.
-- Assumes nothing.
use mathlib.Core.Path.{◌≡◌, refl, sym, ap, ap₂, ◌∙◌}
use mathlib.Core.Bool.{Bool, true, false}
use mathlib.Core.List.{List, [], ◌∷◌}
use Prim.Native.Nat.{ℕ, zero, suc, ◌+◌, ◌-◌, ◌≤◌, ◌<◌, min, zero-le, suc-le-suc}
use native.Mathlib.Omega.{arith}
use native.Mathlib.Numerals.{add-one}
use lib.IntN.{ℤ, pos, neg_ℤ}
use lib.ListN.{length, take, drop, get_or, set, length-drop, length-set, drop_of_length-le}
use lib.Seq.{drop-cons, drop-drop}
use lib.Dec.{eqb, ltb}
use borrow.Author.Tests.{ne_eqb, lt-ltb, le-ltb, ltb-true, ltb-false}
use Rattle.std.specs.Prelude.{Option, Some, None, Ok, Err}
use Rattle.spec.specs.Bytes.{Bytes, bytes, onto, parts, number, number_after, negated, integer}
use Rattle.spec.specs.Syntax.{Item, Items, item_line}
use Rattle.spec.specs.Decode.{with_one, with_two, with_three, with_four, ItemHead, item_heads, no_item, nothing, items_in, on_by, inst_by, repeat_by, item_by, decode_expr, decode_item, depth_limit, LineHead, module_head, kind_head, val_head, item_head, line_by, decode_line, by_head}
use Rattle.spec.specs.Refusal.{lines}
use Rattle.spec.specs.Value.{Value, known, missing, outside, Names, within, value}
use Rattle.spec.proofs.Numbers.{if_case}
use Rattle.lines.specs.Parts.{part_end, piece, next_end, pair_of}
use Rattle.lines.specs.Words.{word_of}
use Rattle.lines.proofs.WordTables.{line_head, item_head_of}
use Rattle.lines.proofs.PartLaws.{others, parts_form, two_is, two_not}
use Rattle.lines.proofs.WordLaws.{line_words, item_words}
use Rattle.lines.specs.declared.words.Word.{Word}
use Rattle.lines.specs.declared.words.Word.TheVariants.{N as NWord, F as FWord, Ix as IxWord, If as IfWord, All as AllWord, Neg as NegWord, Not as NotWord, Clog2 as Clog2Word, Add as AddWord, Sub as SubWord, Mul as MulWord, Eq as EqWord, Ne as NeWord, Lt as LtWord, Le as LeWord, Gt as GtWord, Ge as GeWord, And as AndWord, Or as OrWord, Shl as ShlWord, Shr as ShrWord, Band as BandWord, Bor as BorWord, Bxor as BxorWord, True as TrueWord, False as FalseWord, Bit as BitWord, Opaque as OpaqueWord, Bits as BitsWord, Signed as SignedWord, Lv as LvWord, Set as SetWord, Default as DefaultWord, Loop as LoopWord, When as WhenWord, Then as ThenWord, Else as ElseWord, Conn as ConnWord, Dash as DashWord, Port as PortWord, Wire as WireWord, Reg as RegWord, Mem as MemWord, Const as ConstWord, Drive as DriveWord, On as OnWord, Inst as InstWord, Repeat as RepeatWord, ConstIf as ConstIfWord, In as InWord, Out as OutWord, Module as ModuleWord, Kind as KindWord, Val as ValWord, Bound as BoundWord, Unbound as UnboundWord, Other as OtherWord}
use Rattle.consteval.specs.Worth.{signed, names_of, room, pushed, biased}
use Rattle.consteval.specs.Fill.{Filled, Entry, feed, line_end, role, held, val_of_line, const_of_item, const_of_line, Filling, filling, by_entry, entry_of, entries_of, vals_of, consts_of, then_consts, fill_of}
use Rattle.consteval.specs.declared.fill.FillError.{FillError}
use Rattle.consteval.specs.declared.fill.FillError.TheVariants.{Short, Bad}
use Rattle.consteval.specs.declared.fill.Source.{Source}
use Rattle.consteval.specs.declared.fill.Role.{Role}
use Rattle.consteval.specs.declared.fill.Role.TheVariants.{Val, Const, Other}
use Rattle.consteval.proofs.ArithLaws.{neg_out, signed_low, signed_high}
use Rattle.consteval.proofs.EvalLaws.{capped_value, head_parts}

-- ---- lines, one law for each way of `end_of`
module _ (s : Bytes) (i : ℕ) where
  pub feed_end : length s ≤ i → feed (drop i s) ≡ 0
  unfolding feed
  feed_end h = rw (drop_of_length-le s h)

  pub feed_here : i < length s → get_or s i 0 ≡ 10 → feed (drop i s) ≡ 0
  unfolding feed
  feed_here h e = rw (drop-cons s i 0 h, e)

  pub feed_more : i < length s → (get_or s i 0 ≡ 10 → ⊥) → feed (drop i s) ≡ suc (feed (drop (i + 1) s))
  unfolding feed
  feed_more h f = rw (drop-cons s i 0 h, add-one, ne_eqb (get_or s i 0) 10 f, feed)

feed_le : (s : Bytes) → feed s ≤ length s
unfolding feed
feed_le [] = zero-le
feed_le (c ∷ s) = if_case (λ n. n ≤ suc (length s)) (eqb c 10) _ _ (λ e. zero-le) (λ e. suc-le-suc (feed_le s))

pub line_end_le : (s : Bytes) (at : ℕ) → at ≤ length s → line_end s at ≤ length s
line_end_le s at h = omega (arith, feed_le (drop at s), length-drop at s)

lines_cut : (c : ℕ) (s : Bytes) → lines (c ∷ s) ≡ take (feed (c ∷ s)) (c ∷ s) ∷ lines (drop (suc (feed (c ∷ s))) (c ∷ s))
unfolding lines feed onto
lines_cut c [] = go (eqb c 10)
  where
    go : (b : Bool) → elim b as (λ _. List Bytes) [ true ↦ [] ∷ [] | false ↦ (c ∷ []) ∷ [] ]
        ≡ take (elim b as (λ _. ℕ) [ true ↦ 0 | false ↦ 1 ]) (c ∷ []) ∷ lines (drop (suc (elim b as (λ _. ℕ) [ true ↦ 0 | false ↦ 1 ])) (c ∷ []))
    go true = refl
    go false = refl
lines_cut c (d ∷ s) = go (eqb c 10) (lines_cut d s)
  where
    go : (b : Bool) → lines (d ∷ s) ≡ take (feed (d ∷ s)) (d ∷ s) ∷ lines (drop (suc (feed (d ∷ s))) (d ∷ s)) →
        elim b as (λ _. List Bytes) [ true ↦ [] ∷ lines (d ∷ s) | false ↦ onto c (lines (d ∷ s)) ]
        ≡ take (elim b as (λ _. ℕ) [ true ↦ 0 | false ↦ suc (feed (d ∷ s)) ]) (c ∷ d ∷ s) ∷ lines (drop (suc (elim b as (λ _. ℕ) [ true ↦ 0 | false ↦ suc (feed (d ∷ s)) ])) (c ∷ d ∷ s))
    go true i = refl
    go false i = ap (onto c) i

lines_first : (t : Bytes) → 0 < length t → lines t ≡ take (feed t) t ∷ lines (drop (suc (feed t)) t)
lines_first [] h = absurd (omega arith)
lines_first (c ∷ s) h = lines_cut c s

line_step : (s : Bytes) (at : ℕ) → at < length s → {e : ℕ} → e ≡ line_end s at → lines (drop at s) ≡ take (e - at) (drop at s) ∷ lines (drop (e + 1) s)
line_step s at h {e} q =
    let n = feed (drop at s) in
    lines_first (drop at s) (omega (arith, length-drop at s))
    ∙ ap₂ (λ (m : ℕ) (l : Bytes). take m (drop at s) ∷ lines l)
    (let z : n ≡ e - at = omega arith in z)
    (drop-drop (suc n) at s ∙ ap (λ (m : ℕ). drop m s) (let z : at + suc n ≡ e + 1 = omega arith in z))

line_none : (s : Bytes) (at : ℕ) → length s ≤ at → lines (drop at s) ≡ []
unfolding lines
line_none s at h = rw (drop_of_length-le s h)

-- ---- `to_hold` and `whole`
bias_back : (x : ℕ) → x ≡ biased (signed x)
bias_back x = go (ltb x 2147483648) refl
  where
    go : (b : Bool) → ltb x 2147483648 ≡ b → x ≡ biased (signed x)
    go true e = let h = ltb-true x 2147483648 e in (let z : x ≡ 2147483648 - suc (2147483648 - suc x) = omega arith in z) ∙ sym (ap biased (signed_low x h))
    go false e = let h = ltb-false x 2147483648 e in (let z : x ≡ x - 2147483648 + 2147483648 = omega arith in z) ∙ sym (ap biased (signed_high x h))

pub held_not : (n : ℕ) (z : ℤ) → 4294967296 ≤ n → Err Bad ≡ held n (known z)
held_not n z h = sym (pick (ltb n 4294967296) (le-ltb n 4294967296 h))
  where
    pick : (b : Bool) → b ≡ false → elim b as (λ _. Entry) [ true ↦ Ok (Some (n, biased z)) | false ↦ Err Bad ] ≡ Err Bad
    pick b e = rw e

pub held_capped : (n : ℕ) (x : Value) → held (min n 4294967296) x ≡ held n x
held_capped n missing = refl
held_capped n outside = refl
held_capped n (known z) = go (ltb n 4294967296) refl
  where
    go : (b : Bool) → ltb n 4294967296 ≡ b → held (min n 4294967296) (known z) ≡ held n (known z)
    go true e = let h = ltb-true n 4294967296 e in ap (λ (m : ℕ). held m (known z)) (let k : min n 4294967296 ≡ n = omega arith in k)
    go false e = let h = ltb-false n 4294967296 e in sym (held_not (min n 4294967296) z (omega arith)) ∙ held_not n z h

minus_value : (n : ℕ) → within (neg_ℤ (pos (min n 4294967296))) ≡ within (negated n)
unfolding negated
minus_value n = go (ltb n 4294967296) refl ∙ ap within (same n)
  where
    same : (n : ℕ) → neg_ℤ (pos n) ≡ negated n
    same zero = refl
    same (suc n) = refl

    go : (b : Bool) → ltb n 4294967296 ≡ b → within (neg_ℤ (pos (min n 4294967296))) ≡ within (neg_ℤ (pos n))
    go true e = let h = ltb-true n 4294967296 e in ap (λ (m : ℕ). within (neg_ℤ (pos m))) (let k : min n 4294967296 ≡ n = omega arith in k)
    go false e = let h = ltb-false n 4294967296 e in sym (neg_out (min n 4294967296) (omega arith)) ∙ neg_out n (omega arith)

pub whole_minus : (s : Bytes) → get_or s 0 0 ≡ 45 → within (neg_ℤ (pos (min (number (drop 1 s)) 4294967296))) ≡ within (integer s)
unfolding integer
whole_minus [] e = absurd (omega arith)
whole_minus (c ∷ s) e = rw e (minus_value (number s))

pub whole_plain : (s : Bytes) → (get_or s 0 0 ≡ 45 → ⊥) → within (pos (min (number s) 4294967296)) ≡ within (integer s)
unfolding integer number number_after
whole_plain [] f = refl
whole_plain (c ∷ s) f = capped_value (number (c ∷ s)) ∙ ap within (sym (pick (eqb c 45) (ne_eqb c 45 f)))
  where
    pick : (b : Bool) → b ≡ false → elim b as (λ _. ℤ) [ true ↦ negated (number s) | false ↦ pos (number (c ∷ s)) ] ≡ pos (number (c ∷ s))
    pick b e = rw e

-- ---- what a line adds, by its head word
abbrev skip : Entry
skip = Ok None

abbrev val_by : Role → List Bytes → Entry
val_by Val ps = with_two skip (λ n i. held (number n) (within (integer i))) ps
val_by Const ps = skip
val_by Other ps = skip

abbrev const_by : Names → Role → List Bytes → Entry
const_by names Val ps = skip
const_by names Const ps = with_two skip (λ n e. held (number n) (value names (decode_expr 31 e))) ps
const_by names Other ps = skip

-- a form with another number of parts adds nothing
module _ {A : Type 0} (f : A → Entry) (z : A) (no : f z ≡ Ok None) where
  at_one : (g : Bytes → A) (ps : List Bytes) → f (with_one z g ps) ≡ with_one skip (λ a. f (g a)) ps
  at_one g [] = no
  at_one g (a ∷ []) = refl
  at_one g (a ∷ b ∷ ps) = no

  at_two : (g : Bytes → Bytes → A) (ps : List Bytes) → f (with_two z g ps) ≡ with_two skip (λ a b. f (g a b)) ps
  at_two g [] = no
  at_two g (a ∷ ps) = at_one (g a) ps

  at_three : (g : Bytes → Bytes → Bytes → A) (ps : List Bytes) → f (with_three z g ps) ≡ with_three skip (λ a b c. f (g a b c)) ps
  at_three g [] = no
  at_three g (a ∷ ps) = at_two (g a) ps

  at_four : (g : Bytes → Bytes → Bytes → Bytes → A) (ps : List Bytes) → f (with_four z g ps) ≡ with_four skip (λ a b c d. f (g a b c d)) ps
  at_four g [] = no
  at_four g (a ∷ ps) = at_three (g a) ps

skip_one : (ps : List Bytes) → with_one skip (λ (a : Bytes). skip) ps ≡ Ok None
skip_one [] = refl
skip_one (a ∷ []) = refl
skip_one (a ∷ b ∷ ps) = refl

skip_two : (ps : List Bytes) → with_two skip (λ (a b : Bytes). skip) ps ≡ Ok None
skip_two [] = refl
skip_two (a ∷ ps) = skip_one ps

skip_three : (ps : List Bytes) → with_three skip (λ (a b c : Bytes). skip) ps ≡ Ok None
skip_three [] = refl
skip_three (a ∷ ps) = skip_two ps

skip_four : (ps : List Bytes) → with_four skip (λ (a b c d : Bytes). skip) ps ≡ Ok None
skip_four [] = refl
skip_four (a ∷ ps) = skip_three ps

val_line : (s : Bytes) (w : Word) (ps : List Bytes) → val_of_line (line_by s (line_head w) ps) ≡ val_by (role w) ps
unfolding line_by
val_line s NWord ps = refl
val_line s FWord ps = refl
val_line s IxWord ps = refl
val_line s IfWord ps = refl
val_line s AllWord ps = refl
val_line s NegWord ps = refl
val_line s NotWord ps = refl
val_line s Clog2Word ps = refl
val_line s AddWord ps = refl
val_line s SubWord ps = refl
val_line s MulWord ps = refl
val_line s EqWord ps = refl
val_line s NeWord ps = refl
val_line s LtWord ps = refl
val_line s LeWord ps = refl
val_line s GtWord ps = refl
val_line s GeWord ps = refl
val_line s AndWord ps = refl
val_line s OrWord ps = refl
val_line s ShlWord ps = refl
val_line s ShrWord ps = refl
val_line s BandWord ps = refl
val_line s BorWord ps = refl
val_line s BxorWord ps = refl
val_line s TrueWord ps = refl
val_line s FalseWord ps = refl
val_line s BitWord ps = refl
val_line s OpaqueWord ps = refl
val_line s BitsWord ps = refl
val_line s SignedWord ps = refl
val_line s LvWord ps = refl
val_line s SetWord ps = refl
val_line s DefaultWord ps = refl
val_line s LoopWord ps = refl
val_line s WhenWord ps = refl
val_line s ThenWord ps = refl
val_line s ElseWord ps = refl
val_line s ConnWord ps = refl
val_line s DashWord ps = refl
val_line s PortWord ps = refl
val_line s WireWord ps = refl
val_line s RegWord ps = refl
val_line s MemWord ps = refl
val_line s ConstWord ps = refl
val_line s DriveWord ps = refl
val_line s OnWord ps = refl
val_line s InstWord ps = refl
val_line s RepeatWord ps = refl
val_line s ConstIfWord ps = refl
val_line s InWord ps = refl
val_line s OutWord ps = refl
val_line s ModuleWord ps = at_two val_of_line (item_line nothing) refl _ ps ∙ skip_two ps
val_line s KindWord ps = at_two val_of_line (item_line nothing) refl _ ps ∙ skip_two ps
val_line s ValWord ps = at_two val_of_line (item_line nothing) refl _ ps
val_line s BoundWord ps = refl
val_line s UnboundWord ps = refl
val_line s OtherWord ps = refl

on_skip : (names : Names) (d : ℕ) (ps : List Bytes) → const_of_item names (on_by d ps) ≡ Ok None
unfolding on_by
on_skip names d [] = refl
on_skip names d (a ∷ ps) = refl

inst_skip : (names : Names) (d : ℕ) (ps : List Bytes) → const_of_item names (inst_by d ps) ≡ Ok None
unfolding inst_by
inst_skip names d [] = refl
inst_skip names d (a ∷ []) = refl
inst_skip names d (a ∷ b ∷ []) = refl
inst_skip names d (a ∷ b ∷ c ∷ []) = refl
inst_skip names d (a ∷ b ∷ c ∷ e ∷ ps) = refl

repeat_skip : (names : Names) (d : ℕ) (f : Bytes → Item) (ps : List Bytes) → const_of_item names (repeat_by d f ps) ≡ Ok None
unfolding repeat_by
repeat_skip names d f [] = refl
repeat_skip names d f (a ∷ []) = refl
repeat_skip names d f (a ∷ b ∷ []) = refl
repeat_skip names d f (a ∷ b ∷ c ∷ ps) = refl

const_item : (names : Names) (f : Bytes → Item) (th el : Bytes → Items) (w : Word) (ps : List Bytes) → const_of_item names (item_by 31 f th el (item_head_of w) ps) ≡ const_by names (role w) ps
unfolding item_by
const_item names f th el NWord ps = refl
const_item names f th el FWord ps = refl
const_item names f th el IxWord ps = refl
const_item names f th el IfWord ps = refl
const_item names f th el AllWord ps = refl
const_item names f th el NegWord ps = refl
const_item names f th el NotWord ps = refl
const_item names f th el Clog2Word ps = refl
const_item names f th el AddWord ps = refl
const_item names f th el SubWord ps = refl
const_item names f th el MulWord ps = refl
const_item names f th el EqWord ps = refl
const_item names f th el NeWord ps = refl
const_item names f th el LtWord ps = refl
const_item names f th el LeWord ps = refl
const_item names f th el GtWord ps = refl
const_item names f th el GeWord ps = refl
const_item names f th el AndWord ps = refl
const_item names f th el OrWord ps = refl
const_item names f th el ShlWord ps = refl
const_item names f th el ShrWord ps = refl
const_item names f th el BandWord ps = refl
const_item names f th el BorWord ps = refl
const_item names f th el BxorWord ps = refl
const_item names f th el TrueWord ps = refl
const_item names f th el FalseWord ps = refl
const_item names f th el BitWord ps = refl
const_item names f th el OpaqueWord ps = refl
const_item names f th el BitsWord ps = refl
const_item names f th el SignedWord ps = refl
const_item names f th el LvWord ps = refl
const_item names f th el SetWord ps = refl
const_item names f th el DefaultWord ps = refl
const_item names f th el LoopWord ps = refl
const_item names f th el WhenWord ps = refl
const_item names f th el ThenWord ps = refl
const_item names f th el ElseWord ps = refl
const_item names f th el ConnWord ps = refl
const_item names f th el DashWord ps = refl
const_item names f th el PortWord ps = at_four (const_of_item names) nothing refl _ ps ∙ skip_four ps
const_item names f th el WireWord ps = at_three (const_of_item names) nothing refl _ ps ∙ skip_three ps
const_item names f th el RegWord ps = at_two (const_of_item names) nothing refl _ ps ∙ skip_two ps
const_item names f th el MemWord ps = at_two (const_of_item names) nothing refl _ ps ∙ skip_two ps
const_item names f th el ConstWord ps = at_two (const_of_item names) nothing refl _ ps
const_item names f th el DriveWord ps = at_two (const_of_item names) nothing refl _ ps ∙ skip_two ps
const_item names f th el OnWord ps = on_skip names 31 ps
const_item names f th el InstWord ps = inst_skip names 31 ps
const_item names f th el RepeatWord ps = repeat_skip names 31 f ps
const_item names f th el ConstIfWord ps = at_three (const_of_item names) nothing refl _ ps ∙ skip_three ps
const_item names f th el InWord ps = refl
const_item names f th el OutWord ps = refl
const_item names f th el ModuleWord ps = refl
const_item names f th el KindWord ps = refl
const_item names f th el ValWord ps = refl
const_item names f th el BoundWord ps = refl
const_item names f th el UnboundWord ps = refl
const_item names f th el OtherWord ps = refl

const_line : (names : Names) (s : Bytes) (w : Word) (ps : List Bytes) → const_of_item names (decode_item depth_limit s) ≡ const_by names (role w) ps → const_of_line names (line_by s (line_head w) ps) ≡ const_by names (role w) ps
unfolding line_by
const_line names s NWord ps q = q
const_line names s FWord ps q = q
const_line names s IxWord ps q = q
const_line names s IfWord ps q = q
const_line names s AllWord ps q = q
const_line names s NegWord ps q = q
const_line names s NotWord ps q = q
const_line names s Clog2Word ps q = q
const_line names s AddWord ps q = q
const_line names s SubWord ps q = q
const_line names s MulWord ps q = q
const_line names s EqWord ps q = q
const_line names s NeWord ps q = q
const_line names s LtWord ps q = q
const_line names s LeWord ps q = q
const_line names s GtWord ps q = q
const_line names s GeWord ps q = q
const_line names s AndWord ps q = q
const_line names s OrWord ps q = q
const_line names s ShlWord ps q = q
const_line names s ShrWord ps q = q
const_line names s BandWord ps q = q
const_line names s BorWord ps q = q
const_line names s BxorWord ps q = q
const_line names s TrueWord ps q = q
const_line names s FalseWord ps q = q
const_line names s BitWord ps q = q
const_line names s OpaqueWord ps q = q
const_line names s BitsWord ps q = q
const_line names s SignedWord ps q = q
const_line names s LvWord ps q = q
const_line names s SetWord ps q = q
const_line names s DefaultWord ps q = q
const_line names s LoopWord ps q = q
const_line names s WhenWord ps q = q
const_line names s ThenWord ps q = q
const_line names s ElseWord ps q = q
const_line names s ConnWord ps q = q
const_line names s DashWord ps q = q
const_line names s PortWord ps q = q
const_line names s WireWord ps q = q
const_line names s RegWord ps q = q
const_line names s MemWord ps q = q
const_line names s ConstWord ps q = q
const_line names s DriveWord ps q = q
const_line names s OnWord ps q = q
const_line names s InstWord ps q = q
const_line names s RepeatWord ps q = q
const_line names s ConstIfWord ps q = q
const_line names s InWord ps q = q
const_line names s OutWord ps q = q
const_line names s ModuleWord ps q = at_two (const_of_line names) (item_line nothing) refl _ ps ∙ skip_two ps
const_line names s KindWord ps q = at_two (const_of_line names) (item_line nothing) refl _ ps ∙ skip_two ps
const_line names s ValWord ps q = at_two (const_of_line names) (item_line nothing) refl _ ps ∙ skip_two ps
const_line names s BoundWord ps q = q
const_line names s UnboundWord ps q = q
const_line names s OtherWord ps q = q

module _ (s : Bytes) where
  pub val_empty : length s ≡ 0 → Ok None ≡ val_of_line (decode_line s)
  unfolding decode_line by_head parts
  val_empty h = go s h
    where
      go : (s : Bytes) → length s ≡ 0 → Ok None ≡ val_of_line (decode_line s)
      go [] z = refl
      go (c ∷ s) z = absurd (omega arith)

  pub const_empty : (names : Names) → length s ≡ 0 → Ok None ≡ const_of_line names (decode_line s)
  unfolding decode_line by_head parts
  const_empty names h = go s h
    where
      go : (s : Bytes) → length s ≡ 0 → Ok None ≡ const_of_line names (decode_line s)
      go [] z = refl
      go (c ∷ s) z = absurd (omega arith)

  module _ (ne : length s ≡ 0 → ⊥) {h : ℕ} (qh : h ≡ part_end s 1) {w : Word} (qw : w ≡ word_of (piece s 0 h)) {k : Role} (qk : k ≡ role w) where
    line_parts : parts s ≡ piece s 0 h ∷ others s h
    unfolding next_end
    line_parts = parts_form s ne ∙ ap (λ (n : ℕ). piece s 0 n ∷ others s n) (sym qh)

    line_law : decode_line s ≡ line_by s (line_head w) (others s h)
    unfolding decode_line
    line_law =
        head_parts ((bytes "module", module_head) ∷ (bytes "kind", kind_head) ∷ (bytes "val", val_head) ∷ []) item_head (item_line nothing) (line_by s) s line_parts
        ∙ ap (λ (x : LineHead). line_by s x (others s h)) (line_words (piece s 0 h) ∙ ap line_head (sym qw))

    item_law : decode_item depth_limit s ≡ item_by 31 (decode_item 31) (items_in (bytes "then") (decode_item 30)) (items_in (bytes "else") (decode_item 30)) (item_head_of w) (others s h)
    unfolding decode_item
    item_law =
        head_parts item_heads no_item nothing (item_by 31 (decode_item 31) (items_in (bytes "then") (decode_item 30)) (items_in (bytes "else") (decode_item 30))) s line_parts
        ∙ ap (λ (x : ItemHead). item_by 31 (decode_item 31) (items_in (bytes "then") (decode_item 30)) (items_in (bytes "else") (decode_item 30)) x (others s h)) (item_words (piece s 0 h) ∙ ap item_head_of (sym qw))

    val_step : val_by k (others s h) ≡ val_of_line (decode_line s)
    val_step = ap (λ (x : Role). val_by x (others s h)) qk ∙ sym (ap val_of_line line_law ∙ val_line s w (others s h))

    const_step : (names : Names) → const_by names k (others s h) ≡ const_of_line names (decode_line s)
    const_step names =
        ap (λ (x : Role). const_by names x (others s h)) qk
        ∙ sym (ap (const_of_line names) line_law
        ∙ const_line names s w (others s h) (ap (const_of_item names) item_law ∙ const_item names (decode_item 31) (items_in (bytes "then") (decode_item 30)) (items_in (bytes "else") (decode_item 30)) w (others s h)))

    module _ (e : k ≡ Val) {r : Option (ℕ × ℕ)} (q : r ≡ pair_of s h) where
      pub val_is : {a b : ℕ} → r ≡ Some (a, b) → held (number (piece s h a)) (within (integer (piece s a b))) ≡ val_of_line (decode_line s)
      val_is p = sym (two_is (Ok None) s h (λ n i. held (number n) (within (integer i))) q p) ∙ ap (λ (x : Role). val_by x (others s h)) (sym e) ∙ val_step

      pub val_not : r ≡ None → Ok None ≡ val_of_line (decode_line s)
      val_not p = sym (two_not (Ok None) s h (λ n i. held (number n) (within (integer i))) q p) ∙ ap (λ (x : Role). val_by x (others s h)) (sym e) ∙ val_step

    pub val_other : (k ≡ Val → ⊥) → Ok None ≡ val_of_line (decode_line s)
    val_other f = go k f ∙ val_step
      where
        go : (k : Role) → (k ≡ Val → ⊥) → Ok None ≡ val_by k (others s h)
        go Val f = absurd (f refl)
        go Const f = refl
        go Other f = refl

    module _ (names : Names) where
      module _ (e : k ≡ Const) {r : Option (ℕ × ℕ)} (q : r ≡ pair_of s h) where
        pub const_is : {a b : ℕ} → r ≡ Some (a, b) → held (number (piece s h a)) (value names (decode_expr 31 (piece s a b))) ≡ const_of_line names (decode_line s)
        const_is p = sym (two_is (Ok None) s h (λ n x. held (number n) (value names (decode_expr 31 x))) q p) ∙ ap (λ (x : Role). const_by names x (others s h)) (sym e) ∙ const_step names

        pub const_not : r ≡ None → Ok None ≡ const_of_line names (decode_line s)
        const_not p = sym (two_not (Ok None) s h (λ n x. held (number n) (value names (decode_expr 31 x))) q p) ∙ ap (λ (x : Role). const_by names x (others s h)) (sym e) ∙ const_step names

      pub const_other : (k ≡ Const → ⊥) → Ok None ≡ const_of_line names (decode_line s)
      const_other f = go k f ∙ const_step names
        where
          go : (k : Role) → (k ≡ Const → ⊥) → Ok None ≡ const_by names k (others s h)
          go Val f = refl
          go Const f = absurd (f refl)
          go Other f = refl

-- ---- `fill_lines`: one law for each way of the loop
pub put_in : (n v : ℕ) (next : List ℕ → ℕ → Filling) (t : List ℕ) (used : ℕ) → room t used ≡ true → by_entry (Ok (Some (n, v))) next t used ≡ next (pushed t used n v) (used + 1)
put_in n v next t used e = pick (room t used) e
  where
    pick : (b : Bool) → b ≡ true → elim b as (λ _. Filling) [ true ↦ next (pushed t used n v) (used + 1) | false ↦ filling (Err Short) t ] ≡ next (pushed t used n v) (used + 1)
    pick b e = rw e

pub put_full : (n v : ℕ) (next : List ℕ → ℕ → Filling) (t : List ℕ) (used : ℕ) → room t used ≡ false → by_entry (Ok (Some (n, v))) next t used ≡ filling (Err Short) t
put_full n v next t used e = pick (room t used) e
  where
    pick : (b : Bool) → b ≡ false → elim b as (λ _. Filling) [ true ↦ next (pushed t used n v) (used + 1) | false ↦ filling (Err Short) t ] ≡ filling (Err Short) t
    pick b e = rw e

module _ (from : Source) (s : Bytes) (at : ℕ) (t : List ℕ) (used : ℕ) where
  pub lines_end : length s ≤ at → entries_of from (lines (drop at s)) t used ≡ filling (Ok used) t
  unfolding entries_of
  lines_end h = rw (line_none s at h)

  module _ (h : at < length s) {e : ℕ} (q : e ≡ line_end s at) {r : Entry} (qr : r ≡ entry_of from (names_of t used) (decode_line (take (e - at) (drop at s)))) where
    line_adds : {x : Entry} → r ≡ x → entries_of from (lines (drop at s)) t used ≡ by_entry x (entries_of from (lines (drop (e + 1) s))) t used
    unfolding entries_of
    line_adds p = ap (λ (l : List Bytes). entries_of from l t used) (line_step s at h q) ∙ ap (λ (x : Entry). by_entry x (entries_of from (lines (drop (e + 1) s))) t used) (sym qr ∙ p)

    pub line_skips : r ≡ Ok None → entries_of from (lines (drop at s)) t used ≡ entries_of from (lines (drop (e + 1) s)) t used
    line_skips p = line_adds p

    pub line_stops : {x : FillError} → r ≡ Err x → entries_of from (lines (drop at s)) t used ≡ filling (Err x) t
    line_stops p = line_adds p

    module _ {n v : ℕ} (p : r ≡ Ok (Some (n, v))) where
      pub line_puts : room t used ≡ true → entries_of from (lines (drop at s)) t used ≡ entries_of from (lines (drop (e + 1) s)) (pushed t used n v) (used + 1)
      line_puts m = line_adds p ∙ put_in n v (entries_of from (lines (drop (e + 1) s))) t used m

      pub line_full : room t used ≡ false → entries_of from (lines (drop at s)) t used ≡ filling (Err Short) t
      line_full m = line_adds p ∙ put_full n v (entries_of from (lines (drop (e + 1) s))) t used m

full_same : (t : List ℕ) (used n v : ℕ) → room t used ≡ false → pushed t used n v ≡ t
unfolding pushed
full_same t used n v e = rw (e, pushed)

pub pushed_length : (t : List ℕ) (used n v : ℕ) (x : List ℕ) → x ≡ pushed t used n v → length x ≡ length t
unfolding pushed
pushed_length t used n v x e = ap length e ∙ if_case (λ (y : List ℕ). length y ≡ length t) (room t used) (set (set t (used + used) n) (used + used + 1) v) t (λ _. length-set (set t (used + used) n) (used + used + 1) v ∙ length-set t (used + used) n) (λ _. refl)

pub full_is : (t : List ℕ) (used n v : ℕ) (x : List ℕ) → x ≡ pushed t used n v → room t used ≡ false → x ≡ t
full_is t used n v x e f = e ∙ full_same t used n v f

-- ---- `fill`
module _ (header items : Bytes) (t : List ℕ) {a : Filled} {x : List ℕ} (q : filling a x ≡ vals_of (lines header) t 0) where
  after_vals : then_consts items a x ≡ fill_of header items t
  unfolding fill_of
  after_vals = ap (λ (f : Filling). then_consts items f.answer f.table) q

  pub fill_used : {n : ℕ} → a ≡ Ok n → consts_of (lines items) x n ≡ fill_of header items t
  fill_used e = ap (λ (y : Filled). then_consts items y x) (sym e) ∙ after_vals

  pub fill_stop : {e : FillError} → a ≡ Err e → filling (Err e) x ≡ fill_of header items t
  fill_stop e = ap (λ (y : Filled). then_consts items y x) (sym e) ∙ after_vals
