-- Laws of words: a word's number tells it, and the one table of words agrees with each table of the specification.
-- Assumes nothing.
use mathlib.Core.Path.{◌≡◌, refl, sym, ap, ◌∙◌}
use mathlib.Core.Bool.{Bool, true, false}
use mathlib.Core.List.{List, [], ◌∷◌}
use Prim.Native.Nat.{ℕ, zero, suc, ◌+◌, ◌*◌, ◌-◌, ◌≤◌, ◌<◌}
use native.Mathlib.Omega.{arith}
use lib.ListN.{length, drop, get_or}
use lib.Seq.{drop-cons, drop-length}
use lib.Dec.{eqb, ltb, lit<}
use borrow.Author.Tests.{eq-eqb, ne_eqb, eqb-true, eqb-false, lt-ltb, le-ltb, ltb-true}
use Rattle.spec.specs.Bytes.{Bytes, bytes, same_bytes, lookup_word}
use Rattle.spec.specs.Decode.{expr_heads, no_expr, stmt_heads, no_stmt, item_heads, no_item, bits_head, signed_head, no_width, module_head, kind_head, val_head, item_head, kinds}
use Rattle.spec.specs.Syntax.{inst_kind}
use Rattle.spec.proofs.Numbers.{if_case}
use Rattle.lines.specs.Words.{words, word_of, key, key_of}
use Rattle.lines.proofs.WordTables.{expr_head, stmt_head, item_head_of, line_head, width_head, kind_of, on_word}
use Rattle.lines.specs.declared.words.Word.{Word}
use Rattle.lines.specs.declared.words.Word.TheVariants.{Other, True, False, Bit, Lv, Then, Else, Conn, Dash, Bound, Out}

-- ---- the number of a word

-- every element is a byte
abbrev pub InBytes : Bytes → Type 0
InBytes [] = Unit {0}
InBytes (c ∷ w) = (c < 256) × InBytes w

pub in_bytes : (w : Bytes) → ((i : ℕ) → get_or w i 0 < 256) → InBytes w
in_bytes [] f = tt
in_bytes (c ∷ w) f = (f 0, in_bytes w (λ i. f (suc i)))

key_pos : (w : Bytes) → 1 ≤ key w
unfolding key
key_pos [] = lit< tt
key_pos (c ∷ w) = let h = key_pos w in omega arith

same_key : (v w : Bytes) → InBytes v → InBytes w → same_bytes v w ≡ eqb (key v) (key w)
unfolding same_bytes key
same_key [] [] p q = sym (eq-eqb 1 1 refl)
same_key [] (d ∷ w) p q = sym (ne_eqb 1 (key w * 256 + d) (λ e. let h = key_pos w in omega arith))
same_key (c ∷ v) [] p q = sym (ne_eqb (key v * 256 + c) 1 (λ e. let h = key_pos v in omega arith))
same_key (c ∷ v) (d ∷ w) p q = go (eqb c d) refl (eqb (key v) (key w)) refl (same_key v w p.1 q.1)
  where
    go : (a : Bool) → eqb c d ≡ a → (b : Bool) → eqb (key v) (key w) ≡ b → same_bytes v w ≡ eqb (key v) (key w) →
        elim a as (λ _. Bool) [ true ↦ same_bytes v w | false ↦ false ] ≡ eqb (key v * 256 + c) (key w * 256 + d)
    go true x true y i = i ∙ y ∙ sym (eq-eqb (key v * 256 + c) (key w * 256 + d) (let h = eqb-true c d x in let k = eqb-true (key v) (key w) y in omega arith))
    go true x false y i = i ∙ y ∙ sym (ne_eqb (key v * 256 + c) (key w * 256 + d) (λ e. eqb-false (key v) (key w) y (let h = eqb-true c d x in omega arith)))
    go false x b y i = sym (ne_eqb (key v * 256 + c) (key w * 256 + d) (λ e. eqb-false c d x (let g : c < 256 = p.0 in let h : d < 256 = q.0 in omega arith)))

-- a table of words by their numbers
unfoldable pub lookup_key : {A : Type 0} → List (Bytes × A) → A → ℕ → A
lookup_key [] other k = other
lookup_key (e ∷ table) other k = elim (eqb k (key e.0)) [ true ↦ e.1 | false ↦ lookup_key table other k ]

abbrev Table : {A : Type 0} → List (Bytes × A) → Type 0
Table [] = Unit {0}
Table (e ∷ t) = InBytes e.0 × (length e.0 ≤ 7) × Table t

by_key : {A : Type 0} (t : List (Bytes × A)) (other : A) (w : Bytes) → InBytes w → Table t → lookup_key t other (key w) ≡ lookup_word t other w
unfolding lookup_key lookup_word
by_key [] other w p q = refl
by_key {A = A} (e ∷ t) other w p q = rw (same_key w e.0 p q.0, lookup_word) (pick (eqb (key w) (key e.0)) (by_key t other w p q.2))
  where
    pick : (b : Bool) → lookup_key t other (key w) ≡ lookup_word t other w → ◌≡◌ {A = A} (elim b as (λ _. A) [ true ↦ e.1 | false ↦ lookup_key t other (key w) ]) (elim b as (λ _. A) [ true ↦ e.1 | false ↦ lookup_word t other w ])
    pick true i = refl
    pick false i = i

same_length : (v w : Bytes) → same_bytes v w ≡ true → length v ≡ length w
unfolding same_bytes
same_length [] [] e = refl
same_length [] (d ∷ w) e = absurd (let z : ◌≡◌ {A = ℕ} 0 1 = cc in omega arith)
same_length (c ∷ v) [] e = absurd (let z : ◌≡◌ {A = ℕ} 0 1 = cc in omega arith)
same_length (c ∷ v) (d ∷ w) e = go (eqb c d) e (same_length v w)
  where
    go : (a : Bool) → elim a as (λ _. Bool) [ true ↦ same_bytes v w | false ↦ false ] ≡ true → (same_bytes v w ≡ true → length v ≡ length w) → length (c ∷ v) ≡ length (d ∷ w)
    go true i f = ap suc (f i)
    go false i f = absurd (let z : ◌≡◌ {A = ℕ} 0 1 = cc in omega arith)

-- a word that is too long is in no table
too_long : {A : Type 0} (t : List (Bytes × A)) (other : A) (w : Bytes) → 7 < length w → Table t → lookup_word t other w ≡ other
unfolding lookup_word
too_long [] other w h q = refl
too_long (e ∷ t) other w h q =
    if_case (λ r. r ≡ other) (same_bytes w e.0) _ _ (λ s. absurd (omega (arith, same_length w e.0 s, q.1))) (λ s. too_long t other w h q.2)

words_table : Table words
unfolding words
words_table = ((lit< tt, tt), omega arith, ((lit< tt, tt), omega arith, ((lit< tt, (lit< tt, tt)), omega arith, ((lit< tt, (lit< tt, tt)), omega arith, ((lit< tt, (lit< tt, (lit< tt, tt))), omega arith, ((lit< tt, (lit< tt, (lit< tt, tt))), omega arith, ((lit< tt, (lit< tt, (lit< tt, tt))), omega arith, ((lit< tt, (lit< tt, (lit< tt, (lit< tt, (lit< tt, tt))))), omega arith, ((lit< tt, (lit< tt, (lit< tt, tt))), omega arith, ((lit< tt, (lit< tt, (lit< tt, tt))), omega arith, ((lit< tt, (lit< tt, (lit< tt, tt))), omega arith, ((lit< tt, (lit< tt, tt)), omega arith, ((lit< tt, (lit< tt, tt)), omega arith, ((lit< tt, (lit< tt, tt)), omega arith, ((lit< tt, (lit< tt, tt)), omega arith, ((lit< tt, (lit< tt, tt)), omega arith, ((lit< tt, (lit< tt, tt)), omega arith, ((lit< tt, (lit< tt, (lit< tt, tt))), omega arith, ((lit< tt, (lit< tt, tt)), omega arith, ((lit< tt, (lit< tt, (lit< tt, tt))), omega arith, ((lit< tt, (lit< tt, (lit< tt, tt))), omega arith, ((lit< tt, (lit< tt, (lit< tt, (lit< tt, tt)))), omega arith, ((lit< tt, (lit< tt, (lit< tt, tt))), omega arith, ((lit< tt, (lit< tt, (lit< tt, (lit< tt, tt)))), omega arith, ((lit< tt, (lit< tt, (lit< tt, (lit< tt, tt)))), omega arith, ((lit< tt, (lit< tt, (lit< tt, (lit< tt, (lit< tt, tt))))), omega arith, ((lit< tt, (lit< tt, (lit< tt, tt))), omega arith, ((lit< tt, (lit< tt, (lit< tt, (lit< tt, (lit< tt, (lit< tt, tt)))))), omega arith, ((lit< tt, (lit< tt, (lit< tt, (lit< tt, tt)))), omega arith, ((lit< tt, (lit< tt, (lit< tt, (lit< tt, (lit< tt, (lit< tt, tt)))))), omega arith, ((lit< tt, (lit< tt, tt)), omega arith, ((lit< tt, (lit< tt, (lit< tt, tt))), omega arith, ((lit< tt, (lit< tt, (lit< tt, (lit< tt, (lit< tt, (lit< tt, (lit< tt, tt))))))), omega arith, ((lit< tt, (lit< tt, (lit< tt, (lit< tt, tt)))), omega arith, ((lit< tt, (lit< tt, (lit< tt, (lit< tt, tt)))), omega arith, ((lit< tt, (lit< tt, (lit< tt, (lit< tt, tt)))), omega arith, ((lit< tt, (lit< tt, (lit< tt, (lit< tt, tt)))), omega arith, ((lit< tt, (lit< tt, (lit< tt, (lit< tt, tt)))), omega arith, ((lit< tt, tt), omega arith, ((lit< tt, (lit< tt, (lit< tt, (lit< tt, tt)))), omega arith, ((lit< tt, (lit< tt, (lit< tt, (lit< tt, tt)))), omega arith, ((lit< tt, (lit< tt, (lit< tt, tt))), omega arith, ((lit< tt, (lit< tt, (lit< tt, tt))), omega arith, ((lit< tt, (lit< tt, (lit< tt, (lit< tt, (lit< tt, tt))))), omega arith, ((lit< tt, (lit< tt, (lit< tt, (lit< tt, (lit< tt, tt))))), omega arith, ((lit< tt, (lit< tt, tt)), omega arith, ((lit< tt, (lit< tt, (lit< tt, (lit< tt, tt)))), omega arith, ((lit< tt, (lit< tt, (lit< tt, (lit< tt, (lit< tt, (lit< tt, tt)))))), omega arith, ((lit< tt, (lit< tt, (lit< tt, (lit< tt, (lit< tt, (lit< tt, (lit< tt, tt))))))), omega arith, ((lit< tt, (lit< tt, tt)), omega arith, ((lit< tt, (lit< tt, (lit< tt, tt))), omega arith, ((lit< tt, (lit< tt, (lit< tt, (lit< tt, (lit< tt, (lit< tt, tt)))))), omega arith, ((lit< tt, (lit< tt, (lit< tt, (lit< tt, tt)))), omega arith, ((lit< tt, (lit< tt, (lit< tt, tt))), omega arith, ((lit< tt, (lit< tt, (lit< tt, (lit< tt, (lit< tt, tt))))), omega arith, ((lit< tt, (lit< tt, (lit< tt, (lit< tt, (lit< tt, (lit< tt, (lit< tt, tt))))))), omega arith, tt))))))))))))))))))))))))))))))))))))))))))))))))))))))))

-- ---- `key`: one law for each way

-- what a number of so many bytes is below
unfoldable pub key_limit : ℕ → ℕ
key_limit zero = 2
key_limit (suc j) = key_limit j * 256

pub key_fits : (j : ℕ) → j ≤ 6 → key_limit j ≤ 562949953421312
unfolding key_limit
key_fits zero h = omega arith
key_fits (suc zero) h = omega arith
key_fits (suc (suc zero)) h = omega arith
key_fits (suc (suc (suc zero))) h = omega arith
key_fits (suc (suc (suc (suc zero)))) h = omega arith
key_fits (suc (suc (suc (suc (suc zero))))) h = omega arith
key_fits (suc (suc (suc (suc (suc (suc zero)))))) h = omega arith
key_fits (suc (suc (suc (suc (suc (suc (suc j))))))) h = absurd (omega arith)

pub key_long : (w : Bytes) → 7 < length w → 0 ≡ key_of w
unfolding key_of
key_long w h = rw (lt-ltb 7 (length w) h, key_of)

pub key_short : (w : Bytes) → length w ≤ 7 → (i : ℕ) → i ≤ 0 → {k : ℕ} → k ≡ key (drop i w) → k ≡ key_of w
unfolding key_of
key_short w h zero z q = rw (le-ltb 7 (length w) h, key_of) q
key_short w h (suc i) z q = absurd (omega arith)

pub key_none : (w : Bytes) (i : ℕ) → i ≡ length w → 1 ≡ key (drop i w)
unfolding key
key_none w i e = rw (e, drop-length w)

pub key_step : (w : Bytes) (i j : ℕ) → j + 1 ≡ i → i ≤ length w → {k : ℕ} → k ≡ key (drop i w) → k * 256 + get_or w j 0 ≡ key (drop j w)
unfolding key
key_step w i j e h {k} q =
    let l : j < length w = omega arith in
    let z : suc j ≡ i = omega arith in
    rw q (ap (λ (n : ℕ). key (drop n w) * 256 + get_or w j 0) (sym z) ∙ sym (ap key (drop-cons w j 0 l)))

pub limit_step : (n i j : ℕ) → j + 1 ≡ i → i ≤ n → key_limit (n - j) ≡ key_limit (n - i) * 256
unfolding key_limit
limit_step n i j e h = let z : n - j ≡ suc (n - i) = omega arith in rw z

zero_none : lookup_key words Other 0 ≡ Other
unfolding lookup_key words key
zero_none = refl

pub limit_one : (n : ℕ) → key_limit (n - n) ≡ 2
unfolding key_limit
limit_one n = let z : n - n ≡ 0 = omega arith in rw z

-- ---- `word_of`: one law for each arm, and for the default
module _ (w : Bytes) (p : InBytes w) {k : ℕ} (q : k ≡ key_of w) where
  by_number : lookup_key words Other k ≡ word_of w
  unfolding key_of word_of
  by_number = rw q (if_case (λ n. lookup_key words Other n ≡ lookup_word words Other w) (ltb 7 (length w)) _ _
      (λ l. zero_none ∙ sym (too_long words Other w (ltb-true 7 (length w) l) words_table))
      (λ l. by_key words Other w p words_table))

  pub arm : {n : ℕ} → k ≡ n → lookup_key words Other n ≡ word_of w
  arm e = rw (← e) by_number

-- what the default knows: the number is none of the table's
abbrev pub Nots : Type 0 → List (Bytes × Word) → ℕ → Type 0
Nots T [] k = T
Nots T (e ∷ t) k = Nots (T × (k ≡ key e.0 → ⊥)) t k

nots_first : (T : Type 0) (t : List (Bytes × Word)) (k : ℕ) → Nots T t k → T
nots_first T [] k n = n
nots_first T (e ∷ t) k n = (nots_first (T × (k ≡ key e.0 → ⊥)) t k n).0

none_of : (T : Type 0) (t : List (Bytes × Word)) (k : ℕ) → Nots T t k → lookup_key t Other k ≡ Other
unfolding lookup_key
none_of T [] k n = refl
none_of T (e ∷ t) k n = rw (ne_eqb k (key e.0) (nots_first (T × (k ≡ key e.0 → ⊥)) t k n).1, lookup_key) (none_of (T × (k ≡ key e.0 → ⊥)) t k n)

pub default_arm : (w : Bytes) → InBytes w → {k : ℕ} → k ≡ key_of w → Nots (Unit {0}) words k → Other ≡ word_of w
default_arm w p {k} q n = sym (none_of (Unit {0}) words k n) ∙ by_number w p q

-- ---- the tables of the specification

pub same_eq : (v w : Bytes) → same_bytes v w ≡ true → v ≡ w
unfolding same_bytes
same_eq [] [] e = refl
same_eq [] (d ∷ w) e = absurd (let z : ◌≡◌ {A = ℕ} 0 1 = cc in omega arith)
same_eq (c ∷ v) [] e = absurd (let z : ◌≡◌ {A = ℕ} 0 1 = cc in omega arith)
same_eq (c ∷ v) (d ∷ w) e = go (eqb c d) refl e (same_eq v w)
  where
    go : (a : Bool) → eqb c d ≡ a → elim a as (λ _. Bool) [ true ↦ same_bytes v w | false ↦ false ] ≡ true → (same_bytes v w ≡ true → v ≡ w) → c ∷ v ≡ d ∷ w
    go true x i f = rw (eqb-true c d x, f i)
    go false x i f = absurd (let z : ◌≡◌ {A = ℕ} 0 1 = cc in omega arith)

unfoldable has : List (Bytes × Word) → Bytes → Bool
has [] w = false
has (e ∷ l) w = elim (same_bytes w e.0) [ true ↦ true | false ↦ has l w ]

not_had : (l : List (Bytes × Word)) (w : Bytes) → has l w ≡ false → lookup_word l Other w ≡ Other
unfolding has lookup_word
not_had [] w h = refl
not_had (e ∷ l) w h = go (same_bytes w e.0) h (not_had l w)
  where
    go : (b : Bool) → elim b as (λ _. Bool) [ true ↦ true | false ↦ has l w ] ≡ false → (has l w ≡ false → lookup_word l Other w ≡ Other) → elim b as (λ _. Word) [ true ↦ e.1 | false ↦ lookup_word l Other w ] ≡ Other
    go true i f = absurd (let z : ◌≡◌ {A = ℕ} 0 1 = cc in omega arith)
    go false i f = f i

module _ {A : Type 0} (t : List (Bytes × A)) (o : A) where
  -- the table t gives f of each word, and has no word that the list lacks
  abbrev Agrees : (Word → A) → List (Bytes × Word) → Type 0
  Agrees f [] = Unit {0}
  Agrees f (e ∷ l) = (lookup_word t o e.0 ≡ f e.1) × Agrees f l

  agree : (f : Word → A) (l : List (Bytes × Word)) (w : Bytes) → Agrees f l → has l w ≡ true → lookup_word t o w ≡ f (lookup_word l Other w)
  unfolding has lookup_word
  agree f [] w g h = absurd (let z : ◌≡◌ {A = ℕ} 0 1 = cc in omega arith)
  agree f (e ∷ l) w g h = go (same_bytes w e.0) refl h (agree f l w g.1)
    where
      go : (b : Bool) → same_bytes w e.0 ≡ b → elim b as (λ _. Bool) [ true ↦ true | false ↦ has l w ] ≡ true → (has l w ≡ true → lookup_word t o w ≡ f (lookup_word l Other w)) → lookup_word t o w ≡ f (elim b as (λ _. Word) [ true ↦ e.1 | false ↦ lookup_word l Other w ])
      go true x i k = ap (lookup_word t o) (same_eq w e.0 x) ∙ g.0
      go false x i k = k i

abbrev AllIn : {A : Type 0} → List (Bytes × A) → Type 0
AllIn [] = Unit {0}
AllIn (e ∷ t) = (has words e.0 ≡ true) × AllIn t

absent : {A : Type 0} (t : List (Bytes × A)) (o : A) (w : Bytes) → AllIn t → has words w ≡ false → lookup_word t o w ≡ o
unfolding lookup_word
absent [] o w a h = refl
absent (e ∷ t) o w a h =
    if_case (λ r. r ≡ o) (same_bytes w e.0) _ _
    (λ s. absurd (let q = same_eq w e.0 s in let u : has words w ≡ true = rw q a.0 in let z : ◌≡◌ {A = ℕ} 0 1 = cc in omega arith))
    (λ s. absent t o w a.1 h)

heads : {A : Type 0} (t : List (Bytes × A)) (o : A) (f : Word → A) → Agrees t o f words → AllIn t → f Other ≡ o → (w : Bytes) → lookup_word t o w ≡ f (word_of w)
unfolding word_of
heads t o f g a z w = go (has words w) refl
  where
    go : (b : Bool) → has words w ≡ b → lookup_word t o w ≡ f (lookup_word words Other w)
    go true x = agree t o f words w g x
    go false x = absent t o w a x ∙ sym (ap f (not_had words w x) ∙ z)

pub expr_words : (w : Bytes) → lookup_word expr_heads no_expr w ≡ expr_head (word_of w)
unfolding words has same_bytes lookup_word expr_heads
expr_words = heads expr_heads no_expr expr_head (refl, (refl, (refl, (refl, (refl, (refl, (refl, (refl, (refl, (refl, (refl, (refl, (refl, (refl, (refl, (refl, (refl, (refl, (refl, (refl, (refl, (refl, (refl, (refl, (refl, (refl, (refl, (refl, (refl, (refl, (refl, (refl, (refl, (refl, (refl, (refl, (refl, (refl, (refl, (refl, (refl, (refl, (refl, (refl, (refl, (refl, (refl, (refl, (refl, (refl, (refl, (refl, (refl, (refl, (refl, (refl, tt)))))))))))))))))))))))))))))))))))))))))))))))))))))))) (refl, (refl, (refl, (refl, (refl, (refl, (refl, (refl, (refl, (refl, (refl, (refl, (refl, (refl, (refl, (refl, (refl, (refl, (refl, (refl, (refl, (refl, (refl, (refl, tt)))))))))))))))))))))))) refl

pub stmt_words : (w : Bytes) → lookup_word stmt_heads no_stmt w ≡ stmt_head (word_of w)
unfolding words has same_bytes lookup_word stmt_heads
stmt_words = heads stmt_heads no_stmt stmt_head (refl, (refl, (refl, (refl, (refl, (refl, (refl, (refl, (refl, (refl, (refl, (refl, (refl, (refl, (refl, (refl, (refl, (refl, (refl, (refl, (refl, (refl, (refl, (refl, (refl, (refl, (refl, (refl, (refl, (refl, (refl, (refl, (refl, (refl, (refl, (refl, (refl, (refl, (refl, (refl, (refl, (refl, (refl, (refl, (refl, (refl, (refl, (refl, (refl, (refl, (refl, (refl, (refl, (refl, (refl, (refl, tt)))))))))))))))))))))))))))))))))))))))))))))))))))))))) (refl, (refl, (refl, (refl, tt)))) refl

pub item_words : (w : Bytes) → lookup_word item_heads no_item w ≡ item_head_of (word_of w)
unfolding words has same_bytes lookup_word item_heads
item_words = heads item_heads no_item item_head_of (refl, (refl, (refl, (refl, (refl, (refl, (refl, (refl, (refl, (refl, (refl, (refl, (refl, (refl, (refl, (refl, (refl, (refl, (refl, (refl, (refl, (refl, (refl, (refl, (refl, (refl, (refl, (refl, (refl, (refl, (refl, (refl, (refl, (refl, (refl, (refl, (refl, (refl, (refl, (refl, (refl, (refl, (refl, (refl, (refl, (refl, (refl, (refl, (refl, (refl, (refl, (refl, (refl, (refl, (refl, (refl, tt)))))))))))))))))))))))))))))))))))))))))))))))))))))))) (refl, (refl, (refl, (refl, (refl, (refl, (refl, (refl, (refl, (refl, tt)))))))))) refl

pub line_words : (w : Bytes) → lookup_word ((bytes "module", module_head) ∷ (bytes "kind", kind_head) ∷ (bytes "val", val_head) ∷ []) item_head w ≡ line_head (word_of w)
unfolding words has same_bytes lookup_word
line_words = heads ((bytes "module", module_head) ∷ (bytes "kind", kind_head) ∷ (bytes "val", val_head) ∷ []) item_head line_head (refl, (refl, (refl, (refl, (refl, (refl, (refl, (refl, (refl, (refl, (refl, (refl, (refl, (refl, (refl, (refl, (refl, (refl, (refl, (refl, (refl, (refl, (refl, (refl, (refl, (refl, (refl, (refl, (refl, (refl, (refl, (refl, (refl, (refl, (refl, (refl, (refl, (refl, (refl, (refl, (refl, (refl, (refl, (refl, (refl, (refl, (refl, (refl, (refl, (refl, (refl, (refl, (refl, (refl, (refl, (refl, tt)))))))))))))))))))))))))))))))))))))))))))))))))))))))) (refl, (refl, (refl, tt))) refl

pub width_words : (w : Bytes) → lookup_word ((bytes "bits", bits_head) ∷ (bytes "signed", signed_head) ∷ []) no_width w ≡ width_head (word_of w)
unfolding words has same_bytes lookup_word
width_words = heads ((bytes "bits", bits_head) ∷ (bytes "signed", signed_head) ∷ []) no_width width_head (refl, (refl, (refl, (refl, (refl, (refl, (refl, (refl, (refl, (refl, (refl, (refl, (refl, (refl, (refl, (refl, (refl, (refl, (refl, (refl, (refl, (refl, (refl, (refl, (refl, (refl, (refl, (refl, (refl, (refl, (refl, (refl, (refl, (refl, (refl, (refl, (refl, (refl, (refl, (refl, (refl, (refl, (refl, (refl, (refl, (refl, (refl, (refl, (refl, (refl, (refl, (refl, (refl, (refl, (refl, (refl, tt)))))))))))))))))))))))))))))))))))))))))))))))))))))))) (refl, (refl, tt)) refl

pub kind_words : (w : Bytes) → lookup_word kinds inst_kind w ≡ kind_of (word_of w)
unfolding words has same_bytes lookup_word kinds
kind_words = heads kinds inst_kind kind_of (refl, (refl, (refl, (refl, (refl, (refl, (refl, (refl, (refl, (refl, (refl, (refl, (refl, (refl, (refl, (refl, (refl, (refl, (refl, (refl, (refl, (refl, (refl, (refl, (refl, (refl, (refl, (refl, (refl, (refl, (refl, (refl, (refl, (refl, (refl, (refl, (refl, (refl, (refl, (refl, (refl, (refl, (refl, (refl, (refl, (refl, (refl, (refl, (refl, (refl, (refl, (refl, (refl, (refl, (refl, (refl, tt)))))))))))))))))))))))))))))))))))))))))))))))))))))))) (refl, (refl, (refl, (refl, (refl, tt))))) refl

-- a table of one word

pub true_word : {A : Type 0} (a o : A) (w : Bytes) → lookup_word ((bytes "true", a) ∷ []) o w ≡ on_word True a o (word_of w)
unfolding words has same_bytes lookup_word
true_word a o = heads ((bytes "true", a) ∷ []) o (on_word True a o) (refl, (refl, (refl, (refl, (refl, (refl, (refl, (refl, (refl, (refl, (refl, (refl, (refl, (refl, (refl, (refl, (refl, (refl, (refl, (refl, (refl, (refl, (refl, (refl, (refl, (refl, (refl, (refl, (refl, (refl, (refl, (refl, (refl, (refl, (refl, (refl, (refl, (refl, (refl, (refl, (refl, (refl, (refl, (refl, (refl, (refl, (refl, (refl, (refl, (refl, (refl, (refl, (refl, (refl, (refl, (refl, tt)))))))))))))))))))))))))))))))))))))))))))))))))))))))) (refl, tt) refl

pub false_word : {A : Type 0} (a o : A) (w : Bytes) → lookup_word ((bytes "false", a) ∷ []) o w ≡ on_word False a o (word_of w)
unfolding words has same_bytes lookup_word
false_word a o = heads ((bytes "false", a) ∷ []) o (on_word False a o) (refl, (refl, (refl, (refl, (refl, (refl, (refl, (refl, (refl, (refl, (refl, (refl, (refl, (refl, (refl, (refl, (refl, (refl, (refl, (refl, (refl, (refl, (refl, (refl, (refl, (refl, (refl, (refl, (refl, (refl, (refl, (refl, (refl, (refl, (refl, (refl, (refl, (refl, (refl, (refl, (refl, (refl, (refl, (refl, (refl, (refl, (refl, (refl, (refl, (refl, (refl, (refl, (refl, (refl, (refl, (refl, tt)))))))))))))))))))))))))))))))))))))))))))))))))))))))) (refl, tt) refl

pub bit_word : {A : Type 0} (a o : A) (w : Bytes) → lookup_word ((bytes "bit", a) ∷ []) o w ≡ on_word Bit a o (word_of w)
unfolding words has same_bytes lookup_word
bit_word a o = heads ((bytes "bit", a) ∷ []) o (on_word Bit a o) (refl, (refl, (refl, (refl, (refl, (refl, (refl, (refl, (refl, (refl, (refl, (refl, (refl, (refl, (refl, (refl, (refl, (refl, (refl, (refl, (refl, (refl, (refl, (refl, (refl, (refl, (refl, (refl, (refl, (refl, (refl, (refl, (refl, (refl, (refl, (refl, (refl, (refl, (refl, (refl, (refl, (refl, (refl, (refl, (refl, (refl, (refl, (refl, (refl, (refl, (refl, (refl, (refl, (refl, (refl, (refl, tt)))))))))))))))))))))))))))))))))))))))))))))))))))))))) (refl, tt) refl

pub lv_word : {A : Type 0} (a o : A) (w : Bytes) → lookup_word ((bytes "lv", a) ∷ []) o w ≡ on_word Lv a o (word_of w)
unfolding words has same_bytes lookup_word
lv_word a o = heads ((bytes "lv", a) ∷ []) o (on_word Lv a o) (refl, (refl, (refl, (refl, (refl, (refl, (refl, (refl, (refl, (refl, (refl, (refl, (refl, (refl, (refl, (refl, (refl, (refl, (refl, (refl, (refl, (refl, (refl, (refl, (refl, (refl, (refl, (refl, (refl, (refl, (refl, (refl, (refl, (refl, (refl, (refl, (refl, (refl, (refl, (refl, (refl, (refl, (refl, (refl, (refl, (refl, (refl, (refl, (refl, (refl, (refl, (refl, (refl, (refl, (refl, (refl, tt)))))))))))))))))))))))))))))))))))))))))))))))))))))))) (refl, tt) refl

pub then_word : {A : Type 0} (a o : A) (w : Bytes) → lookup_word ((bytes "then", a) ∷ []) o w ≡ on_word Then a o (word_of w)
unfolding words has same_bytes lookup_word
then_word a o = heads ((bytes "then", a) ∷ []) o (on_word Then a o) (refl, (refl, (refl, (refl, (refl, (refl, (refl, (refl, (refl, (refl, (refl, (refl, (refl, (refl, (refl, (refl, (refl, (refl, (refl, (refl, (refl, (refl, (refl, (refl, (refl, (refl, (refl, (refl, (refl, (refl, (refl, (refl, (refl, (refl, (refl, (refl, (refl, (refl, (refl, (refl, (refl, (refl, (refl, (refl, (refl, (refl, (refl, (refl, (refl, (refl, (refl, (refl, (refl, (refl, (refl, (refl, tt)))))))))))))))))))))))))))))))))))))))))))))))))))))))) (refl, tt) refl

pub else_word : {A : Type 0} (a o : A) (w : Bytes) → lookup_word ((bytes "else", a) ∷ []) o w ≡ on_word Else a o (word_of w)
unfolding words has same_bytes lookup_word
else_word a o = heads ((bytes "else", a) ∷ []) o (on_word Else a o) (refl, (refl, (refl, (refl, (refl, (refl, (refl, (refl, (refl, (refl, (refl, (refl, (refl, (refl, (refl, (refl, (refl, (refl, (refl, (refl, (refl, (refl, (refl, (refl, (refl, (refl, (refl, (refl, (refl, (refl, (refl, (refl, (refl, (refl, (refl, (refl, (refl, (refl, (refl, (refl, (refl, (refl, (refl, (refl, (refl, (refl, (refl, (refl, (refl, (refl, (refl, (refl, (refl, (refl, (refl, (refl, tt)))))))))))))))))))))))))))))))))))))))))))))))))))))))) (refl, tt) refl

pub conn_word : {A : Type 0} (a o : A) (w : Bytes) → lookup_word ((bytes "conn", a) ∷ []) o w ≡ on_word Conn a o (word_of w)
unfolding words has same_bytes lookup_word
conn_word a o = heads ((bytes "conn", a) ∷ []) o (on_word Conn a o) (refl, (refl, (refl, (refl, (refl, (refl, (refl, (refl, (refl, (refl, (refl, (refl, (refl, (refl, (refl, (refl, (refl, (refl, (refl, (refl, (refl, (refl, (refl, (refl, (refl, (refl, (refl, (refl, (refl, (refl, (refl, (refl, (refl, (refl, (refl, (refl, (refl, (refl, (refl, (refl, (refl, (refl, (refl, (refl, (refl, (refl, (refl, (refl, (refl, (refl, (refl, (refl, (refl, (refl, (refl, (refl, tt)))))))))))))))))))))))))))))))))))))))))))))))))))))))) (refl, tt) refl

pub dash_word : {A : Type 0} (a o : A) (w : Bytes) → lookup_word ((bytes "-", a) ∷ []) o w ≡ on_word Dash a o (word_of w)
unfolding words has same_bytes lookup_word
dash_word a o = heads ((bytes "-", a) ∷ []) o (on_word Dash a o) (refl, (refl, (refl, (refl, (refl, (refl, (refl, (refl, (refl, (refl, (refl, (refl, (refl, (refl, (refl, (refl, (refl, (refl, (refl, (refl, (refl, (refl, (refl, (refl, (refl, (refl, (refl, (refl, (refl, (refl, (refl, (refl, (refl, (refl, (refl, (refl, (refl, (refl, (refl, (refl, (refl, (refl, (refl, (refl, (refl, (refl, (refl, (refl, (refl, (refl, (refl, (refl, (refl, (refl, (refl, (refl, tt)))))))))))))))))))))))))))))))))))))))))))))))))))))))) (refl, tt) refl

pub bound_word : {A : Type 0} (a o : A) (w : Bytes) → lookup_word ((bytes "bound", a) ∷ []) o w ≡ on_word Bound a o (word_of w)
unfolding words has same_bytes lookup_word
bound_word a o = heads ((bytes "bound", a) ∷ []) o (on_word Bound a o) (refl, (refl, (refl, (refl, (refl, (refl, (refl, (refl, (refl, (refl, (refl, (refl, (refl, (refl, (refl, (refl, (refl, (refl, (refl, (refl, (refl, (refl, (refl, (refl, (refl, (refl, (refl, (refl, (refl, (refl, (refl, (refl, (refl, (refl, (refl, (refl, (refl, (refl, (refl, (refl, (refl, (refl, (refl, (refl, (refl, (refl, (refl, (refl, (refl, (refl, (refl, (refl, (refl, (refl, (refl, (refl, tt)))))))))))))))))))))))))))))))))))))))))))))))))))))))) (refl, tt) refl

pub out_word : {A : Type 0} (a o : A) (w : Bytes) → lookup_word ((bytes "out", a) ∷ []) o w ≡ on_word Out a o (word_of w)
unfolding words has same_bytes lookup_word
out_word a o = heads ((bytes "out", a) ∷ []) o (on_word Out a o) (refl, (refl, (refl, (refl, (refl, (refl, (refl, (refl, (refl, (refl, (refl, (refl, (refl, (refl, (refl, (refl, (refl, (refl, (refl, (refl, (refl, (refl, (refl, (refl, (refl, (refl, (refl, (refl, (refl, (refl, (refl, (refl, (refl, (refl, (refl, (refl, (refl, (refl, (refl, (refl, (refl, (refl, (refl, (refl, (refl, (refl, (refl, (refl, (refl, (refl, (refl, (refl, (refl, (refl, (refl, (refl, tt)))))))))))))))))))))))))))))))))))))))))))))))))))))))) (refl, tt) refl

pub truth_word : {A : Type 0} (a b o : A) (w : Bytes) → lookup_word ((bytes "true", a) ∷ (bytes "false", b) ∷ []) o w ≡ on_word True a (on_word False b o (word_of w)) (word_of w)
unfolding words has same_bytes lookup_word
truth_word a b o = heads ((bytes "true", a) ∷ (bytes "false", b) ∷ []) o (λ v. on_word True a (on_word False b o v) v) (refl, (refl, (refl, (refl, (refl, (refl, (refl, (refl, (refl, (refl, (refl, (refl, (refl, (refl, (refl, (refl, (refl, (refl, (refl, (refl, (refl, (refl, (refl, (refl, (refl, (refl, (refl, (refl, (refl, (refl, (refl, (refl, (refl, (refl, (refl, (refl, (refl, (refl, (refl, (refl, (refl, (refl, (refl, (refl, (refl, (refl, (refl, (refl, (refl, (refl, (refl, (refl, (refl, (refl, (refl, (refl, tt)))))))))))))))))))))))))))))))))))))))))))))))))))))))) (refl, (refl, tt)) refl
