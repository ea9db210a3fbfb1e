-- What a kind says of the byte that it was read from.
-- Assumes nothing.
use Rattle.std.specs.Prelude.{◌≡◌, Bool, true, false, not, eqb, Option, Some, None, ℕ, zero, suc, ◌<◌, ◌≤◌}
use mathlib.Core.Path.{refl, sym, ap, ◌∙◌}
use mathlib.Core.Bool.{true≢false}
use mathlib.Core.Logic.{◌⊎◌, inl, inr}
use borrow.Author.Tests.{eqb-true, eqb-false, ne_eqb}
use native.Mathlib.Omega.{arith}
use Rattle.std.specs.Option.{option_eq}
use Rattle.lines.specs.Kinds.{kind_by}
use Rattle.lines.specs.contracts.kinds.KindPartialEq.TheImpl as KindPartialEq
use Rattle.lines.specs.declared.kinds.Kind.{Kind}
use Rattle.lines.specs.declared.kinds.Kind.TheVariants.{In, Out, Wire, Reg, Mem, Inst}

-- the bytes of each kind, and that of none
abbrev pub ByteOf : Option Kind → ℕ → Type 0
ByteOf None b = b ≡ 0
ByteOf (Some In) b = b ≡ 1
ByteOf (Some Out) b = b ≡ 2
ByteOf (Some Wire) b = b ≡ 3
ByteOf (Some Reg) b = b ≡ 4
ByteOf (Some Mem) b = b ≡ 5
ByteOf (Some Inst) b = 6 ≤ b

read_by : (b : ℕ) → ByteOf (kind_by b) b
read_by zero = refl
read_by (suc zero) = refl
read_by (suc (suc zero)) = refl
read_by (suc (suc (suc zero))) = refl
read_by (suc (suc (suc (suc zero)))) = refl
read_by (suc (suc (suc (suc (suc zero))))) = refl
read_by (suc (suc (suc (suc (suc (suc b)))))) = omega arith

-- what was read from a byte tells it
pub byte_told : (o : Option Kind) (b : ℕ) → o ≡ kind_by b → ByteOf o b
byte_told o b e = rw e (read_by b)

module _ (b : ℕ) {o : Option Kind} (q : o ≡ kind_by b) where
  pub byte_none : o ≡ None → b ≡ 0
  byte_none e = byte_told None b (sym e ∙ q)

  module _ {k : Kind} (p : o ≡ Some k) where
    pub byte_is : (x : Kind) → k ≡ x → ByteOf (Some x) b
    byte_is x e = byte_told (Some x) b (sym (p ∙ ap Some e) ∙ q)

    pub in_or_inst : (k ≡ In) ⊎ (k ≡ Inst) → (b < 2) ⊎ (5 < b)
    in_or_inst (inl e) = let h = byte_is In e in inl (omega arith)
    in_or_inst (inr e) = inr (byte_is Inst e)

    pub out_or_wire : (k ≡ Out) ⊎ (k ≡ Wire) → (2 ≤ b) × (b < 4)
    out_or_wire (inl e) = let h = byte_is Out e in (omega arith, omega arith)
    out_or_wire (inr e) = let h = byte_is Wire e in (omega arith, omega arith)

    pub reg_or_mem : (k ≡ Reg) ⊎ (k ≡ Mem) → (4 ≤ b) × (b ≤ 5)
    reg_or_mem (inl e) = let h = byte_is Reg e in (omega arith, omega arith)
    reg_or_mem (inr e) = let h = byte_is Mem e in (omega arith, omega arith)

    pub signals : (k ≡ In) ⊎ ((k ≡ Out) ⊎ (k ≡ Wire)) → (b ≡ 0 → ⊥) × (b ≤ 3)
    signals (inl e) = let h = byte_is In e in (λ z. omega arith, omega arith)
    signals (inr (inl e)) = let h = byte_is Out e in (λ z. omega arith, omega arith)
    signals (inr (inr e)) = let h = byte_is Wire e in (λ z. omega arith, omega arith)

    pub no_signals : (k ≡ Reg) ⊎ ((k ≡ Mem) ⊎ (k ≡ Inst)) → 3 < b
    no_signals (inl e) = let h = byte_is Reg e in omega arith
    no_signals (inr (inl e)) = let h = byte_is Mem e in omega arith
    no_signals (inr (inr e)) = let h = byte_is Inst e in omega arith

    pub undriven : (k ≡ In) ⊎ ((k ≡ Reg) ⊎ ((k ≡ Mem) ⊎ (k ≡ Inst))) → (b < 2) ⊎ (3 < b)
    undriven (inl e) = let h = byte_is In e in inl (omega arith)
    undriven (inr e) = inr (no_signals e)

-- ---- a kind compared with one kind

abbrev pub same : Option Kind → Option Kind → Bool
same = option_eq (KindPartialEq.eq-value).it

out_by : (b : ℕ) → same (kind_by b) (Some Out) ≡ eqb b 2
out_by zero = refl
out_by (suc zero) = refl
out_by (suc (suc zero)) = refl
out_by (suc (suc (suc zero))) = refl
out_by (suc (suc (suc (suc zero)))) = refl
out_by (suc (suc (suc (suc (suc zero))))) = refl
out_by (suc (suc (suc (suc (suc (suc b)))))) = sym (ne_eqb _ _ (λ e. omega arith))

reg_by : (b : ℕ) → same (kind_by b) (Some Reg) ≡ eqb b 4
reg_by zero = refl
reg_by (suc zero) = refl
reg_by (suc (suc zero)) = refl
reg_by (suc (suc (suc zero))) = refl
reg_by (suc (suc (suc (suc zero)))) = refl
reg_by (suc (suc (suc (suc (suc zero))))) = refl
reg_by (suc (suc (suc (suc (suc (suc b)))))) = sym (ne_eqb _ _ (λ e. omega arith))

other : (b n : ℕ) (x : Bool) → eqb b n ≡ x → not x ≡ true → b ≡ n → ⊥
other b n false e f = eqb-false b n e
other b n true e f = absurd (true≢false (sym f))

here : (b n : ℕ) (x : Bool) → eqb b n ≡ x → not x ≡ false → b ≡ n
here b n true e f = eqb-true b n e
here b n false e f = absurd (true≢false f)

module _ (b : ℕ) {o : Option Kind} (q : o ≡ kind_by b) {t : Bool} where
  tested : (k : Kind) (n : ℕ) → same (kind_by b) (Some k) ≡ eqb b n → t ≡ not (same o (Some k)) → t ≡ not (eqb b n)
  tested k n e f = f ∙ ap (λ (o : Option Kind). not (same o (Some k))) q ∙ ap not e

  pub not_out : t ≡ not (same o (Some Out)) → t ≡ true → b ≡ 2 → ⊥
  not_out f e = other b 2 _ refl (sym (tested Out 2 (out_by b) f) ∙ e)

  pub is_out : t ≡ not (same o (Some Out)) → t ≡ false → b ≡ 2
  is_out f e = here b 2 _ refl (sym (tested Out 2 (out_by b) f) ∙ e)

  pub not_reg : t ≡ not (same o (Some Reg)) → t ≡ true → b ≡ 4 → ⊥
  not_reg f e = other b 4 _ refl (sym (tested Reg 4 (reg_by b) f) ∙ e)

  pub is_reg : t ≡ not (same o (Some Reg)) → t ≡ false → b ≡ 4
  is_reg f e = here b 4 _ refl (sym (tested Reg 4 (reg_by b) f) ∙ e)
