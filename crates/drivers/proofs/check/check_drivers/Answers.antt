use mathlib.Core.Path.{◌≡◌, ap, ◌∙◌}
use mathlib.Core.List.{List}
use Prim.Native.Nat.{ℕ}
use lib.ListN.{replicate}
use Rattle.drivers.proofs.AnswerLaws.{exit_is}
use Rattle.drivers.proofs.check.check_drivers.Goals as goal

-- what `fill` leaves, at the length that the slice had at entry
zeros : {s : List ℕ} {m n : ℕ} → (((y : ℕ) → y ≡ 0 → y ≡ 0) → s ≡ replicate m 0) → m ≡ n → s ≡ replicate n 0
zeros after e = after (λ y f. f) ∙ ap (λ (l : ℕ). replicate l 0) e

pub returns : goal.returns
returns c = exit_is c.args.kinds.now c.args.mods.now c.args.names.now c.args.own.now c.args.g.now c.args.w.now c.args.k.now c.args.text.now c.args.report.now (c.as_answer.ensures c.check_text-checked.new.report ∙ c.check_text-checked.ensures) (zeros c.fill.ensures.after c.check_text-checked.auto.kinds) (zeros c.fill-2.ensures.after c.check_text-checked.auto.mods) (zeros c.fill-3.ensures.after c.check_text-checked.auto.names) (zeros c.fill-4.ensures.after c.check_text-checked.auto.own) (zeros c.fill-5.ensures.after c.check_text-checked.auto.g) (zeros c.fill-6.ensures.after c.check_text-checked.auto.w) (zeros c.fill-7.ensures.after c.check_text-checked.auto.k)
