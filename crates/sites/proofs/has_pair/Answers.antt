use mathlib.Core.Path.{sym, ap, ◌∙◌}
use Prim.Native.Nat.{ℕ, ◌+◌, ◌-◌}
use native.Mathlib.Omega.{arith}
use Rattle.sites.specs.Own.{pair_from, row, run, pair_table}
use Rattle.sites.proofs.Pairs.{pair_here, pair_other_block, pair_other_name, pair_none}
use Rattle.sites.proofs.Rows.{run_step, run_end, run_all}
use Rattle.spec.specs.Block.{has_pair}
use Rattle.sites.proofs.has_pair.Goals as goal
use Rattle.sites.proofs.has_pair.Goals.{else-own-i-via-then-own-i+else-own-i-2, else-own-i-via-else-own-i}

pub loop-i-init : goal.loop-i-init
loop-i-init c = ap (has_pair (record { name = c.args.name; block = c.args.block })) (run_all (λ (j : ℕ). pair_from (row pair_table c.args.own.now j)) c.args.n)

pub bounds-own-i : goal.bounds-own-i
bounds-own-i c = omega arith

pub bounds-own-i-then-own-i : goal.bounds-own-i-then-own-i
bounds-own-i-then-own-i c = omega arith

pub returns-then-own-i-2 : goal.returns-then-own-i-2
returns-then-own-i-2 c = sym (pair_here c.args.own.now c.loop-i.i (record { name = c.args.name; block = c.args.block }) (run (λ (j : ℕ). pair_from (row pair_table c.args.own.now j)) (c.loop-i.i + 1) (c.args.n - (c.loop-i.i + 1))) c.if-own-i.true c.if-own-i-2.true) ∙ ap (has_pair (record { name = c.args.name; block = c.args.block })) (sym (run_step (λ (j : ℕ). pair_from (row pair_table c.args.own.now j)) c.loop-i.i c.args.n c.loop-i-test.true)) ∙ c.loop-i.invariant

pub loop-i-preserved : goal.loop-i-preserved
loop-i-preserved c = elim c.else-own-i.branch [
  | else-own-i-via-then-own-i+else-own-i-2 w ↦ sym (pair_other_block c.args.own.now c.loop-i.i (record { name = c.args.name; block = c.args.block }) (run (λ (j : ℕ). pair_from (row pair_table c.args.own.now j)) (c.loop-i.i + 1) (c.args.n - (c.loop-i.i + 1))) w.if-own-i.true w.if-own-i-2.false) ∙ ap (has_pair (record { name = c.args.name; block = c.args.block })) (sym (run_step (λ (j : ℕ). pair_from (row pair_table c.args.own.now j)) c.loop-i.i c.args.n c.loop-i-test.true)) ∙ c.loop-i.invariant
  | else-own-i-via-else-own-i w ↦ sym (pair_other_name c.args.own.now c.loop-i.i (record { name = c.args.name; block = c.args.block }) (run (λ (j : ℕ). pair_from (row pair_table c.args.own.now j)) (c.loop-i.i + 1) (c.args.n - (c.loop-i.i + 1))) w.if-own-i.false) ∙ ap (has_pair (record { name = c.args.name; block = c.args.block })) (sym (run_step (λ (j : ℕ). pair_from (row pair_table c.args.own.now j)) c.loop-i.i c.args.n c.loop-i-test.true)) ∙ c.loop-i.invariant
]

pub returns : goal.returns
returns c = sym (pair_none (record { name = c.args.name; block = c.args.block })) ∙ ap (has_pair (record { name = c.args.name; block = c.args.block })) (sym (run_end (λ (j : ℕ). pair_from (row pair_table c.args.own.now j)) c.loop-i.i c.args.n (omega arith))) ∙ c.loop-i.invariant
