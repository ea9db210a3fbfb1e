-- What the reader answers, coded.
-- Assumes nothing.
use mathlib.Core.Path.{◌≡◌, refl, sym, ap, ap₂}
use mathlib.Core.Bool.{Bool, true, false, true≢false}
use Prim.Native.Nat.{ℕ, ◌+◌, ◌*◌}
use Rattle.spec.specs.Refusal.{Verdict, well_formed, refused}
use Rattle.lines.specs.Read.{fault_number, fault_line}
use Rattle.lines.specs.Verdict.{told}
use Rattle.lines.specs.declared.read.Refusal.{Refusal}
use Rattle.std.specs.Prelude.{Result, Ok, Err}
use Rattle.bench_c.specs.Verdict.{code}

abbrev formed : Result ℕ Refusal → Bool
formed (Err r) = false
formed (Ok m) = true

pub refused_code : (k n : ℕ) (v : Verdict) → k ≡ fault_number v → n ≡ fault_line v → k * 4294967296 + n ≡ code v
refused_code k n well_formed e f = ap₂ (λ x y. x * 4294967296 + y) e f
refused_code k n (refused a b) e f = ap₂ (λ x y. x * 4294967296 + y) e f

pub formed_code : (k m : ℕ) (v : Verdict) → Ok k ≡ told v m → 0 ≡ code v
formed_code k m well_formed e = refl
formed_code k m (refused a b) e = absurd (true≢false (ap formed e))
