-- A value held with the bias is coded by what holds it.
-- Assumes nothing.
use mathlib.Core.Path.{◌≡◌, refl, sym, ◌∙◌, ap}
use mathlib.Core.Bool.{Bool, true, false, cond}
use Prim.Native.Nat.{ℕ, suc, ◌-◌}
use native.Mathlib.Omega.{arith}
use lib.Dec.{ltb}
use lib.IntN.{pos, negsuc}
use borrow.Author.Tests.{ltb-true, ltb-false}
use Rattle.spec.specs.Value.{Value}
use Rattle.std.specs.Prelude.{Some, Ok}
use Rattle.consteval.specs.Worth.{Answer, worth, biased}
use Rattle.bench_c.specs.Eval.{code}

by_test : (x : ℕ) (b : Bool) → ltb x 2147483648 ≡ b → biased (cond b (negsuc (2147483648 - suc x)) (pos (x - 2147483648))) ≡ x
by_test x true e = omega (arith, ltb-true x 2147483648 e)
by_test x false e = omega (arith, ltb-false x 2147483648 e)

pub known_code : (x : ℕ) (a : Answer) (v : Value) → a ≡ Ok (Some x) → worth a ≡ v → x ≡ code v
known_code x a v e w = sym (by_test x (ltb x 2147483648) refl) ∙ ap (λ z. code (worth z)) (sym e) ∙ ap code w

pub other_code : (a b : Answer) (v : Value) → a ≡ b → worth a ≡ v → code (worth b) ≡ code v
other_code a b v e w = ap (λ z. code (worth z)) (sym e) ∙ ap code w
