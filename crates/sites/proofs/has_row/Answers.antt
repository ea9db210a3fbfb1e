use mathlib.Core.Path.{sym, ap, ◌∙◌}
use Prim.Native.Nat.{ℕ, ◌+◌, ◌*◌, ◌-◌}
use native.Mathlib.Omega.{arith}
use lib.ListN.{get_or}
use Rattle.spec.specs.Refusal.{has_name}
use Rattle.sites.specs.Own.{run}
use Rattle.sites.proofs.Rows.{row_end, run_step, run_end, run_all, has_here, has_later, has_none}
use Rattle.sites.proofs.has_row.Goals as goal

pub loop-i-init : goal.loop-i-init
loop-i-init c = ap (has_name c.args.name) (run_all (λ (j : ℕ). get_or c.args.own.now (c.args.t.base + c.args.t.width * j) 0) c.args.n)

pub bounds-own-t : goal.bounds-own-t
bounds-own-t c = omega (arith, row_end c.args.t.width c.loop-i.i c.args.n c.loop-i-test.true)

pub returns-then-own-t : goal.returns-then-own-t
returns-then-own-t c = sym (has_here _ _ (run (λ (j : ℕ). get_or c.args.own.now (c.args.t.base + c.args.t.width * j) 0) (c.loop-i.i + 1) (c.args.n - (c.loop-i.i + 1))) c.if-own-t.true) ∙ ap (has_name c.args.name) (sym (run_step (λ (j : ℕ). get_or c.args.own.now (c.args.t.base + c.args.t.width * j) 0) c.loop-i.i c.args.n c.loop-i-test.true)) ∙ c.loop-i.invariant

pub loop-i-preserved : goal.loop-i-preserved
loop-i-preserved c = sym (has_later _ _ _ c.if-own-t.false) ∙ ap (has_name c.args.name) (sym (run_step (λ (j : ℕ). get_or c.args.own.now (c.args.t.base + c.args.t.width * j) 0) c.loop-i.i c.args.n c.loop-i-test.true)) ∙ c.loop-i.invariant

pub returns : goal.returns
returns c = sym (has_none c.args.name) ∙ ap (has_name c.args.name) (sym (run_end (λ (j : ℕ). get_or c.args.own.now (c.args.t.base + c.args.t.width * j) 0) c.loop-i.i c.args.n (omega arith))) ∙ c.loop-i.invariant
