-- What an item is, by the bytes that tell its head word from the others. One law for each way of `head_of`, and what it means.
-- Assumes nothing.
use mathlib.Core.Path.{◌≡◌, refl, sym, ap, subst}
use mathlib.Core.Bool.{Bool, true, false}
use Prim.Native.Nat.{ℕ}
use lib.ListN.{get_or}
use borrow.Author.Tests.{eq-eqb, ne_eqb}
use Rattle.spec.specs.Bytes.{Bytes, show_form, show_rest}
use Rattle.spec.specs.Syntax.{Item, port, wire, reg, mem, const, drive, on, inst, repeat, const_if}
use Rattle.spec.specs.Show.{show_item}
use Rattle.runs.specs.Run.{ShowsItem}
use Rattle.steps.specs.Steps.{head_of, HeadIs}
use Rattle.steps.specs.declared.Head.{Head}
use Rattle.steps.specs.declared.Head.TheVariants.{Plain, Inst, Repeat, ConstIf}

-- ---- one law for each way

module _ (x : Bytes) where
  pub head_inst : get_or x 1 0 ≡ 105 → Inst ≡ head_of x
  unfolding head_of
  head_inst e = rw (e, head_of)

  module _ (e : get_or x 1 0 ≡ 114) where
    pub head_repeat : get_or x 3 0 ≡ 112 → Repeat ≡ head_of x
    unfolding head_of
    head_repeat f = rw (e, head_of) (rw e (sym (ap (λ (t : Bool). elim t as (λ _. Head) [ true ↦ Repeat | false ↦ Plain ]) (eq-eqb (get_or x 3 0) 112 f))))

    pub head_reg : (get_or x 3 0 ≡ 112 → ⊥) → Plain ≡ head_of x
    unfolding head_of
    head_reg f = rw (e, head_of) (rw e (sym (ap (λ (t : Bool). elim t as (λ _. Head) [ true ↦ Repeat | false ↦ Plain ]) (ne_eqb (get_or x 3 0) 112 f))))

  module _ (e : get_or x 1 0 ≡ 99) where
    pub head_const_if : get_or x 6 0 ≡ 105 → ConstIf ≡ head_of x
    unfolding head_of
    head_const_if f = rw (e, head_of) (rw e (rw e (sym (ap (λ (t : Bool). elim t as (λ _. Head) [ true ↦ ConstIf | false ↦ Plain ]) (eq-eqb (get_or x 6 0) 105 f)))))

    pub head_const : (get_or x 6 0 ≡ 105 → ⊥) → Plain ≡ head_of x
    unfolding head_of
    head_const f = rw (e, head_of) (rw e (rw e (sym (ap (λ (t : Bool). elim t as (λ _. Head) [ true ↦ ConstIf | false ↦ Plain ]) (ne_eqb (get_or x 6 0) 105 f)))))

  pub head_other : (get_or x 1 0 ≡ 105 → ⊥) → (get_or x 1 0 ≡ 114 → ⊥) → (get_or x 1 0 ≡ 99 → ⊥) → Plain ≡ head_of x
  unfolding head_of
  head_other f g h = rw (ne_eqb (get_or x 1 0) 105 f, ne_eqb (get_or x 1 0) 114 g, ne_eqb (get_or x 1 0) 99 h, head_of)

-- ---- what it means

shown_head : (i : Item) → HeadIs (head_of (show_item i)) i
unfolding head_of show_item show_form show_rest
shown_head (port d n w s) = refl
shown_head (wire n e s) = refl
shown_head (reg n s) = refl
shown_head (mem n s) = refl
shown_head (const n e) = refl
shown_head (drive lv e) = refl
shown_head (on s ss) = refl
shown_head (inst i) = (i, refl)
shown_head (repeat n l h is) = (n, l, h, is, refl)
shown_head (const_if c is js) = (c, is, js, refl)

-- on what shows an item, `head_of` says what it is
pub head_is : (x : Bytes) (i : Item) (d : ℕ) → ShowsItem x d i → HeadIs (head_of x) i
head_is x i d p = subst (λ (s : Bytes). HeadIs (head_of s) i) (sym p.shown) (shown_head i)
