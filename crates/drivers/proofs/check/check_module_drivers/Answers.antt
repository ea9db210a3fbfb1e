use native.Mathlib.Omega.{arith}
use Rattle.drivers.specs.Check.{FewRounds}
use Rattle.drivers.proofs.Handed.{handed_on}
use Rattle.drivers.proofs.CheckLaws.{few_left, one_full, one_wide, one_done}
use Rattle.drivers.proofs.check.check_module_drivers.Goals as goal

pub overflow_sub-result : goal.overflow_sub-result
overflow_sub-result c = few_left c.collect_module.result c.collect_module.ensures.result_bound c.in_ok-c.was

pub returns-in_err-c-clause-tallied : goal.returns-in_err-c-clause-tallied
returns-in_err-c-clause-tallied c = λ x kept C. one_full C c.collect_module.new.names c.collect_module.new.own c.collect_module.new.g c.collect_module.new.k c.collect_module.result c.collect_module.ensures.collects c.in_err-c.was c.args.write c.args.buf.now c.args.p c.from_residual.result c.from_residual.ensures.0

pub returns-in_err-c-clause-few_rounds : goal.returns-in_err-c-clause-few_rounds
returns-in_err-c-clause-few_rounds c = handed_on FewRounds (λ _. tt) c.from_residual.result c.from_residual.ensures.0

pub returns-in_err-next-clause-tallied : goal.returns-in_err-next-clause-tallied
returns-in_err-next-clause-tallied c = λ x kept C. one_wide C c.collect_module.new.names c.collect_module.new.own c.collect_module.new.g c.collect_module.new.k c.collect_module.result c.collect_module.ensures.collects c.in_ok-c.was c.report_module.result c.args.write c.args.buf.now c.args.p c.report_module.new.buf c.report_module.ensures.reported c.in_err-next.was c.from_residual-in_err-next.result c.from_residual-in_err-next.ensures.0

pub returns-in_err-next-clause-few_rounds : goal.returns-in_err-next-clause-few_rounds
returns-in_err-next-clause-few_rounds c = handed_on FewRounds (λ _. tt) c.from_residual-in_err-next.result c.from_residual-in_err-next.ensures.0

pub returns-clause-tallied : goal.returns-clause-tallied
returns-clause-tallied c = λ x kept C. one_done C c.collect_module.new.names c.collect_module.new.own c.collect_module.new.g c.collect_module.new.k c.collect_module.result c.collect_module.ensures.collects c.in_ok-c.was c.report_module.result c.args.write c.args.buf.now c.args.p c.report_module.new.buf c.report_module.ensures.reported c.in_ok-next.was

pub returns-clause-few_rounds : goal.returns-clause-few_rounds
returns-clause-few_rounds c = omega arith
