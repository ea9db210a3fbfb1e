use Rattle.std.specs.Prelude.{Err}
use mathlib.Core.Path.{sym, ap, ◌∙◌}
use Prim.Native.Nat.{ℕ}
use Rattle.spec.specs.Check as check
use Rattle.drivers.specs.Check.{answer_for}
use Rattle.drivers.specs.declared.check.Refusal.{Refusal}
use Rattle.drivers.proofs.check.refused.Goals as goal

pub returns-in-Text : goal.returns-in-Text
returns-in-Text c = λ buffer. c.refuse.ensures buffer ∙ ap (λ (n : ℕ). check.refuse n c.in-Text.text.line buffer) c.from.ensures ∙ ap (λ (x : Refusal). answer_for (Err x) buffer) (sym c.in-Text.is)

pub returns-in-Limit : goal.returns-in-Limit
returns-in-Limit c = λ buffer. c.refuse-in-Limit.ensures buffer ∙ ap (λ (x : Refusal). answer_for (Err x) buffer) (sym c.in-Limit.is)

pub returns-in-Room : goal.returns-in-Room
returns-in-Room c = λ buffer. c.refuse-in-Room.ensures buffer ∙ ap (λ (x : Refusal). answer_for (Err x) buffer) (sym c.in-Room.is)
