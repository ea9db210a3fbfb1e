-- Which items are `port out` lines, by the first bytes that show them: one law for each way of `port_of`.
-- Assumes nothing.
use mathlib.Core.Path.{◌≡◌, refl, sym, ◌∙◌, ap}
use mathlib.Core.Bool.{◌&&◌}
use mathlib.Core.List.{[], ◌∷◌, ◌++◌}
use Prim.Native.Nat.{ℕ, ◌<◌, min}
use native.Mathlib.Omega.{arith}
use lib.ListN.{drop, get_or}
use lib.Dec.{eqb, ltb}
use borrow.Author.Tests.{eq-eqb, ne_eqb, lt-ltb, le-ltb, ltb-true, ltb-false}
use Rattle.spec.specs.Bytes.{Bytes, number, show_number, show_rest, show_form}
use Rattle.spec.specs.Syntax.{number_bound, Width, Item, port, wire, reg, mem, const, drive, on, inst, repeat, const_if, input, output}
use Rattle.spec.specs.Show.{show_width, show_item}
use Rattle.spec.specs.Refusal.{item_in_range, width_in_range}
use Rattle.spec.specs.Site.{line_outputs}
use Rattle.spec.proofs.Numbers.{number_show, if_case}
use Rattle.spec.proofs.Nodes.{and_parts}
use Rattle.spec.proofs.Parts.{number_part}
use Rattle.lines.specs.Parts.{part_end, piece, next_end}
use Rattle.runs.specs.Run.{ShowsItem}
use Rattle.runs.proofs.Inside.{placed}
use Rattle.std.specs.Prelude.{Option, Some, None}
use Rattle.summary.specs.Pairs.{PortIs, port_of}

-- the number behind the words is the name
name_here : (x : Bytes) (d n : ℕ) (w : Width) (start : ℕ) → ShowsItem x d (port output n w start)
    → {a : ℕ} → a ≡ part_end x 10 → {t : Bytes} → t ≡ piece x 9 a → {v : ℕ} → v ≡ min (number t) 4294967296 → (v ≡ n) × (n < 256)
unfolding show_item show_form show_rest item_in_range next_end
name_here x d n w start p {a} qa {t} qt {v} qv =
    let e : drop 9 x ≡ 32 ∷ show_number n ++ show_rest (show_width w ∷ show_number start ∷ []) = ap (drop 9) p.shown in
    let q = placed x 9 32 (show_width w ∷ show_number start ∷ []) (number_part n) e in
    let u : t ≡ show_number n = qt ∙ ap (piece x 9) qa ∙ q.here in
    let k : number t ≡ n = ap number u ∙ number_show n in
    let l = ltb-true n 256 (and_parts (ltb n 256) (width_in_range w) (and_parts (ltb n 256 && width_in_range w) (ltb start number_bound) p.ranged).0).0 in
    (omega arith, l)

module _ (x : Bytes) where
  -- every other item is no output
  other : (i : Item) → ((n : ℕ) (w : Width) (start : ℕ) → i ≡ port output n w start → ⊥) → PortIs None i
  unfolding line_outputs
  other (port input n w s) f = refl
  other (port output n w s) f = absurd (f n w s refl)
  other (wire n e s) f = refl
  other (reg n s) f = refl
  other (mem n s) f = refl
  other (const n e) f = refl
  other (drive lv e) f = refl
  other (on s ss) f = refl
  other (inst i) f = refl
  other (repeat n l h is) f = refl
  other (const_if c is js) f = refl

  byte_not : (i c : ℕ) → ((n : ℕ) (w : Width) (start : ℕ) → get_or (show_item (port output n w start)) i 0 ≡ c) → (get_or x i 0 ≡ c → ⊥)
      → (y : Item) (d : ℕ) → ShowsItem x d y → PortIs None y
  byte_not i c h f y d p = other y (λ n w s e. f (ap (λ (z : Bytes). get_or z i 0) (p.shown ∙ ap show_item e) ∙ h n w s))

  pub not_port : (get_or x 1 0 ≡ 112 → ⊥) → (y : Item) (d : ℕ) → ShowsItem x d y → PortIs None y
  unfolding show_item show_form
  not_port = byte_not 1 112 (λ n w s. refl)

  pub not_out : (get_or x 6 0 ≡ 111 → ⊥) → (y : Item) (d : ℕ) → ShowsItem x d y → PortIs None y
  unfolding show_item show_form show_rest
  not_out = byte_not 6 111 (λ n w s. refl)

  module _ {a : ℕ} (qa : a ≡ part_end x 10) {t : Bytes} (qt : t ≡ piece x 9 a) {v : ℕ} (qv : v ≡ min (number t) 4294967296) where
    -- no name has such a number
    pub not_small : 255 < v → (y : Item) (d : ℕ) → ShowsItem x d y → PortIs None y
    not_small l y d p = other y (λ n w s e. let h = name_here x d n w s (rw e at p) qa qt qv in omega arith)

    -- a `port out` line
    pub is_out : get_or x 1 0 ≡ 112 → get_or x 6 0 ≡ 111 → (y : Item) (d : ℕ) → ShowsItem x d y → PortIs (Some v) y
    unfolding show_item show_form show_rest
    is_out b₁ b₆ y d p = go y p (λ i. sym (ap (λ (z : Bytes). get_or z i 0) p.shown))
      where
        go : (y : Item) → ShowsItem x d y → ((i : ℕ) → get_or (show_item y) i 0 ≡ get_or x i 0) → PortIs (Some v) y
        go (port input n w s) p h = absurd (omega (arith, h 6))
        go (port output n w s) p h = (w, s, ap (λ (m : ℕ). port output m w s) (sym (name_here x d n w s p qa qt qv).0))
        go (wire n e s) p h = absurd (omega (arith, h 1))
        go (reg n s) p h = absurd (omega (arith, h 1))
        go (mem n s) p h = absurd (omega (arith, h 1))
        go (const n e) p h = absurd (omega (arith, h 1))
        go (drive lv e) p h = absurd (omega (arith, h 1))
        go (on s ss) p h = absurd (omega (arith, h 1))
        go (inst i) p h = absurd (omega (arith, h 1))
        go (repeat n l u is) p h = absurd (omega (arith, h 1))
        go (const_if c is js) p h = absurd (omega (arith, h 1))

-- ---- the item in any bytes

-- a name is at most 255
abbrev IsName : Option ℕ → Type 0
IsName (Some n) = n < 256
IsName None = Unit {0}

module _ (x : Bytes) where
  is_name : IsName (port_of x)
  unfolding port_of
  is_name =
      if_case IsName (eqb (get_or x 1 0) 112) _ _
      (λ _. if_case IsName (eqb (get_or x 6 0) 111) _ _ (λ _. if_case IsName (ltb 255 (number (piece x 9 (next_end x 9)))) _ _ (λ _. tt) (λ e. omega (arith, ltb-false 255 (number (piece x 9 (next_end x 9))) e))) (λ _. tt))
      (λ _. tt)

  pub out_name : (r : Option ℕ) {o : ℕ} → r ≡ Some o → r ≡ port_of x → o < 256
  out_name r {o} e q = let h : IsName (Some o) = rw (sym q ∙ e) at is_name in h

  pub other_word : (get_or x 1 0 ≡ 112 → ⊥) → None ≡ port_of x
  unfolding port_of
  other_word f = rw (ne_eqb (get_or x 1 0) 112 f, port_of)

  module _ (b₁ : get_or x 1 0 ≡ 112) where
    pub other_direction : (get_or x 6 0 ≡ 111 → ⊥) → None ≡ port_of x
    unfolding port_of
    other_direction f = rw (eq-eqb (get_or x 1 0) 112 b₁, ne_eqb (get_or x 6 0) 111 f, port_of)

    module _ (b₆ : get_or x 6 0 ≡ 111) {a : ℕ} (qa : a ≡ part_end x 10) {t : Bytes} (qt : t ≡ piece x 9 a) {v : ℕ} (qv : v ≡ min (number t) 4294967296) where
      here : number t ≡ number (piece x 9 (next_end x 9))
      unfolding next_end
      here = ap number (qt ∙ ap (piece x 9) qa)

      pub other_number : 255 < v → None ≡ port_of x
      unfolding port_of
      other_number l = rw (eq-eqb (get_or x 1 0) 112 b₁, eq-eqb (get_or x 6 0) 111 b₆, lt-ltb 255 (number (piece x 9 (next_end x 9))) (omega (arith, here)), port_of)

      pub out_number : v < 256 → Some v ≡ port_of x
      unfolding port_of
      out_number l =
          let n : v ≡ number (piece x 9 (next_end x 9)) = omega (arith, here) in
          rw (eq-eqb (get_or x 1 0) 112 b₁, eq-eqb (get_or x 6 0) 111 b₆, le-ltb 255 (number (piece x 9 (next_end x 9))) (omega arith), port_of) (ap Some n)
