use native.Mathlib.Omega.{arith}
use mathlib.Core.Path.{refl, ◌∙◌}
use Rattle.drivers.proofs.TurnLaws.{not_more, enough_same, few_taken, turn_start, turn_end, turn_full, turn_on}
use Rattle.drivers.proofs.check.check_modules.Goals as goal

pub returns-then-source-gt32 : goal.returns-then-source-gt32
returns-then-source-gt32 c = λ kept T E K. absurd (not_more c.if-source-gt32.true T)

pub loop-m-init : goal.loop-m-init
loop-m-init c = (refl, refl, refl, refl, refl, refl, c.if-source-gt32.false, omega arith, λ kept T E K. turn_start c.args.source.now.text.now c.args.write c.args.buf.now K)

pub returns-in_err-one : goal.returns-in_err-one
returns-in_err-one c = λ kept T E K. turn_full T (c.loop-m.invariant.8 kept T E K) c.loop-m-test.true (enough_same E c.loop-m.names c.loop-m.own c.loop-m.g c.loop-m.w c.loop-m.k c.loop-m.invariant.0 c.loop-m.invariant.1 c.loop-m.invariant.2 c.loop-m.invariant.3 c.loop-m.invariant.4) c.check_module_drivers.result c.check_module_drivers.new.buf c.check_module_drivers.new.k c.check_module_drivers.ensures.tallied c.in_err-one.was c.from_residual.result c.from_residual.ensures.0

pub overflow_add-rounds : goal.overflow_add-rounds
overflow_add-rounds c = omega (arith, c.loop-m.invariant.6, c.loop-m.invariant.7, c.loop-m-test.true, few_taken c.check_module_drivers.result c.check_module_drivers.ensures.few_rounds c.in_ok-one.was)

pub loop-m-preserved : goal.loop-m-preserved
loop-m-preserved c = (c.check_module_drivers.auto.names ∙ c.loop-m.invariant.0, c.check_module_drivers.auto.own ∙ c.loop-m.invariant.1, c.check_module_drivers.auto.g ∙ c.loop-m.invariant.2, c.check_module_drivers.auto.w ∙ c.loop-m.invariant.3, c.check_module_drivers.auto.k ∙ c.loop-m.invariant.4, c.check_module_drivers.auto.buf ∙ c.loop-m.invariant.5, c.loop-m.invariant.6, omega (arith, c.loop-m.invariant.7, few_taken c.check_module_drivers.result c.check_module_drivers.ensures.few_rounds c.in_ok-one.was), λ kept T E K. turn_on T (c.loop-m.invariant.8 kept T E K) c.loop-m-test.true (enough_same E c.loop-m.names c.loop-m.own c.loop-m.g c.loop-m.w c.loop-m.k c.loop-m.invariant.0 c.loop-m.invariant.1 c.loop-m.invariant.2 c.loop-m.invariant.3 c.loop-m.invariant.4) c.check_module_drivers.result c.check_module_drivers.new.buf c.check_module_drivers.new.k c.check_module_drivers.ensures.tallied c.in_ok-one.was)

pub returns : goal.returns
returns c = λ kept T E K. turn_end T (c.loop-m.invariant.8 kept T E K) c.loop-m-test.false
