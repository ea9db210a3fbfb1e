use native.Mathlib.Omega.{arith}
use Rattle.sites.proofs.Lines.{misused_read, zero_row}
use Rattle.sites.proofs.misuse_at.Goals as goal
use Rattle.sites.proofs.misuse_at.Goals.{then-own-ne-OWN-via-then-own-ne-OWN, then-own-ne-OWN-via-else-own-ne-OWN+then-i-ge-NAMES}

pub returns-then-own-ne-OWN-clause-result_value : goal.returns-then-own-ne-OWN-clause-result_value
returns-then-own-ne-OWN-clause-result_value c = λ e h. elim c.then-own-ne-OWN.branch [
  | then-own-ne-OWN-via-then-own-ne-OWN w ↦ absurd (w.if-own-ne-OWN.true e)
  | then-own-ne-OWN-via-else-own-ne-OWN+then-i-ge-NAMES w ↦ absurd (omega (arith, w.if-i-ge-NAMES.true, h))
]

pub returns-then-own-ne-OWN-clause-result_value_2 : goal.returns-then-own-ne-OWN-clause-result_value_2
returns-then-own-ne-OWN-clause-result_value_2 c = λ _. zero_row

pub returns-then-own-ne-OWN-clause-result_value_3 : goal.returns-then-own-ne-OWN-clause-result_value_3
returns-then-own-ne-OWN-clause-result_value_3 c = λ _. zero_row

pub returns-clause-result_value : goal.returns-clause-result_value
returns-clause-result_value c = λ _ _. misused_read c.args.own.now c.args.i c.from.result c.from.ensures

pub returns-clause-result_value_2 : goal.returns-clause-result_value_2
returns-clause-result_value_2 c = λ n. absurd (n c.if-own-ne-OWN.false)

pub returns-clause-result_value_3 : goal.returns-clause-result_value_3
returns-clause-result_value_3 c = λ n. absurd (n (omega (arith, c.if-i-ge-NAMES.false)))
