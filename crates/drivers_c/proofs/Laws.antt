-- What `check_drivers` leaves, told as numbers.
-- Assumes nothing.
use mathlib.Core.Path.{◌≡◌, ap, ◌∙◌}
use mathlib.Core.List.{List, [], ◌∷◌}
use Prim.Native.Nat.{ℕ}
use Rattle.spec.specs.Bytes.{Bytes}
use Rattle.spec.specs.Check.{Exit}
use Rattle.drivers.specs.Check.{exit_of}
use Rattle.drivers.specs.declared.check.Answer.{Answer}
use Rattle.drivers_c.specs.Code.{told, Called}

pub called : (a : Answer) (x : Exit) (buffer : Bytes) (kinds mods names own g w k ns ns' : List ℕ)
    → exit_of a buffer kinds mods names own g w k ≡ x
    → ns' ≡ told ns a.number a.line a.bytes a.reports a.rounds
    → Called x a.number buffer ns ns' (kinds ∷ mods ∷ names ∷ own ∷ g ∷ w ∷ k ∷ [])
called a x buffer kinds mods names own g w k ns ns' e t = record {
  number = ap (λ y. y.answer.number) e;
  numbers = t ∙ ap (λ y. told ns y.answer.number y.answer.line y.answer.bytes_written y.answer.reports y.answer.rounds) e;
  report = ap (λ y. y.answer.buffer) e;
  working_zero = ap (λ y. y.working) e;
}
