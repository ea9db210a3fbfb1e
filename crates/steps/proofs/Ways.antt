-- The walk into an item, by what it is: nothing at a plain line or an instance, a `repeat` by its way, a `constif` by its branch.
-- Assumes nothing.
use mathlib.Core.Path.{◌≡◌, refl, ap}
use mathlib.Core.Bool.{Bool, true, false}
use Prim.Native.Nat.{ℕ, zero, suc, ◌+◌, ◌-◌, ◌≤◌, ◌<◌}
use native.Mathlib.Omega.{arith}
use lib.Dec.{ltb}
use lib.IntN.{ℤ, pos, negsuc, ◌+ℤ◌, ◌-ℤ◌}
use borrow.Author.Tests.{lt-ltb, le-ltb, ltb-true, ltb-false}
use Rattle.spec.specs.Syntax.{Expr, Inst, Item, Items, port, wire, reg, mem, const, drive, on, inst, repeat, const_if}
use Rattle.spec.specs.Value.{Value, known, missing, outside, Names, value}
use Rattle.consteval.specs.Worth.{signed}
use Rattle.consteval.proofs.ArithLaws.{signed_low, signed_high}
use Rattle.walk.specs.Walk.{Got, going, Walked, walked, Walks, walk_rounds, walk_times, walk_repeat, takes_then, walk_inner, walk_items}
use Rattle.steps.specs.Steps.{plain, Way, never, once, rounds, way_by, way, taken}

-- ---- `repeat`

module _ {S : Type 0} (body : Walks S) (n : ℕ) (names : Names) (left : ℕ) (st : S) where
  -- what the walk does, by the way
  abbrev Does : Way → Got (Walked S) → Type 0
  Does never g = g ≡ going (walked left st)
  Does once g = g ≡ body names left st
  Does (rounds z count) g = (g ≡ walk_rounds body n z count names (left - count) st) × (ltb left count ≡ false)

  no_rounds : (low : ℤ) → walk_times body n low (pos 0) names left st ≡ going (walked left st)
  unfolding walk_times walk_rounds
  no_rounds low = go (ltb left 0) refl
    where
      go : (b : Bool) → ltb left 0 ≡ b
          → elim b as (λ _. Got (Walked S)) [ true ↦ body names left st | false ↦ walk_rounds body n low 0 names (left - 0) st ] ≡ going (walked left st)
      go true e = let k = ltb-true left 0 e in absurd (omega arith)
      go false e = ap (λ z. going (walked z st)) (let d : left - 0 ≡ left = omega arith in d)

  times_does : (low z : ℤ) → Does (way_by left low z) (walk_times body n low z names left st)
  unfolding walk_times
  times_does low (negsuc d) = refl
  times_does low (pos zero) = no_rounds low
  times_does low (pos (suc k)) = go (ltb left (suc k)) refl
    where
      go : (b : Bool) → ltb left (suc k) ≡ b
          → Does (elim b as (λ _. Way) [ true ↦ once | false ↦ rounds low (suc k) ])
          (elim b as (λ _. Got (Walked S)) [ true ↦ body names left st | false ↦ walk_rounds body n low (suc k) names (left - suc k) st ])
      go true e = refl
      go false e = (refl, e)

  repeat_does : (low high : Value) → Does (way left low high) (walk_repeat body n low high names left st)
  unfolding way walk_repeat
  repeat_does (known low) (known high) = times_does low (high -ℤ low)
  repeat_does (known low) missing = refl
  repeat_does (known low) outside = refl
  repeat_does missing high = refl
  repeat_does outside high = refl

  module _ (low high : Value) where
    pub repeat_never : way left low high ≡ never → walk_repeat body n low high names left st ≡ going (walked left st)
    repeat_never e = rw e at (repeat_does low high)

    pub repeat_once : way left low high ≡ once → walk_repeat body n low high names left st ≡ body names left st
    repeat_once e = rw e at (repeat_does low high)

    pub repeat_rounds : {z : ℤ} {count : ℕ} → way left low high ≡ rounds z count
        → (walk_repeat body n low high names left st ≡ walk_rounds body n z count names (left - count) st) × (ltb left count ≡ false)
    repeat_rounds e = rw e at (repeat_does low high)

-- ---- the walk into an item

module _ {S : Type 0} (step : Names → Item → S → Got S) (names : Names) (left : ℕ) (st : S) where
  pub inner_plain : (i : Item) → plain i ≡ true → walk_inner i step names left st ≡ going (walked left st)
  unfolding walk_inner
  inner_plain (port d n w s) e = refl
  inner_plain (wire n x s) e = refl
  inner_plain (reg n s) e = refl
  inner_plain (mem n s) e = refl
  inner_plain (const n x) e = refl
  inner_plain (drive lv x) e = refl
  inner_plain (on s ss) e = refl
  inner_plain (inst i) e = refl
  inner_plain (repeat n l h is) e = absurd (let z : ◌≡◌ {A = ℕ} 0 1 = cc in omega arith)
  inner_plain (const_if c is js) e = absurd (let z : ◌≡◌ {A = ℕ} 0 1 = cc in omega arith)

  pub inner_inst : (i : Inst) → walk_inner (inst i) step names left st ≡ going (walked left st)
  unfolding walk_inner
  inner_inst i = refl

  pub inner_repeat : (n : ℕ) (low high : Expr) (is : Items)
      → walk_inner (repeat n low high is) step names left st
      ≡ walk_repeat (λ names' left' st'. walk_items is step names' left' st') n (value names low) (value names high) names left st
  unfolding walk_inner
  inner_repeat n low high is = refl

  pub inner_const_if : (c : Expr) (is js : Items) → walk_inner (const_if c is js) step names left st ≡ walk_items (taken (value names c) is js) step names left st
  unfolding walk_inner
  inner_const_if c is js = go (takes_then (value names c))
    where
      go : (b : Bool) → elim b as (λ _. Got (Walked S)) [ true ↦ walk_items is step names left st | false ↦ walk_items js step names left st ]
          ≡ walk_items (elim b as (λ _. Items) [ true ↦ is | false ↦ js ]) step names left st
      go true = refl
      go false = refl

-- ---- the variable of a `repeat`, from one round to the next

pub next_value : (v : ℕ) → signed v +ℤ pos 1 ≡ signed (v + 1)
next_value v = go (ltb v 2147483648) refl (ltb (v + 1) 2147483648) refl
  where
    go : (p : Bool) → ltb v 2147483648 ≡ p → (q : Bool) → ltb (v + 1) 2147483648 ≡ q → signed v +ℤ pos 1 ≡ signed (v + 1)
    go true p true q =
        let h = ltb-true (v + 1) 2147483648 q in
        let k : 1 < suc (2147483648 - suc v) = omega arith in
        let z : suc (2147483648 - suc v) - 2 ≡ 2147483648 - suc (v + 1) = omega arith in
        rw (signed_low v (omega arith), signed_low (v + 1) h, lt-ltb 1 (suc (2147483648 - suc v)) k) (ap negsuc z)
    go true p false q =
        let g = ltb-true v 2147483648 p in
        let h = ltb-false (v + 1) 2147483648 q in
        let k : suc (2147483648 - suc v) ≤ 1 = omega arith in
        let z : 1 - suc (2147483648 - suc v) ≡ v + 1 - 2147483648 = omega arith in
        rw (signed_low v g, signed_high (v + 1) h, le-ltb 1 (suc (2147483648 - suc v)) k) (ap pos z)
    go false p true q = let g = ltb-false v 2147483648 p in let h = ltb-true (v + 1) 2147483648 q in absurd (omega arith)
    go false p false q =
        let g = ltb-false v 2147483648 p in
        let z : v - 2147483648 + 1 ≡ v + 1 - 2147483648 = omega arith in
        rw (signed_high v g, signed_high (v + 1) (omega arith)) (ap pos z)
