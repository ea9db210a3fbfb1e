use mathlib.Core.Path.{refl, sym, ◌∙◌}
use Prim.Native.Nat.{◌-◌}
use native.Mathlib.Omega.{arith}
use Rattle.sites.specs.Own.{site_table}
use Rattle.sites.specs.Own.{misuse_poison, site_row}
use Rattle.sites.proofs.Pairs.{row_name}
use Rattle.sites.proofs.Conflicts.{skip_hit, skip_miss, skip_end}
use Rattle.sites.proofs.seen_before.Goals as goal

pub loop-i-init : goal.loop-i-init
loop-i-init c = refl

pub bounds-own-i : goal.bounds-own-i
bounds-own-i c = omega (arith, c.requires)

pub returns-then-own-i : goal.returns-then-own-i
returns-then-own-i c = sym (skip_hit (misuse_poison c.args.own.now) (site_row c.args.own.now) c.args.name c.loop-i.i c.loop-i-test.true (row_name site_table c.args.own.now (c.loop-i.i - 1) (omega arith) ∙ c.if-own-i.true)) ∙ c.loop-i.invariant

pub loop-i-preserved : goal.loop-i-preserved
loop-i-preserved c = skip_miss (misuse_poison c.args.own.now) (site_row c.args.own.now) c.args.name c.loop-i.i c.loop-i-test.true (λ e. c.if-own-i.false (sym (row_name site_table c.args.own.now (c.loop-i.i - 1) (omega arith)) ∙ e)) ∙ c.loop-i.invariant

pub returns : goal.returns
returns c = c.misused.ensures ∙ skip_end (misuse_poison c.args.own.now) (site_row c.args.own.now) c.args.name c.loop-i.i (omega (arith, c.loop-i-test.false)) ∙ c.loop-i.invariant
