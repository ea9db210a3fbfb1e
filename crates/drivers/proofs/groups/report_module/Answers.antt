use Rattle.consteval.specs.Worth.{names_of}
use Rattle.drivers.proofs.ModuleLaws.{held_found, conflicts_found, poison_found, module_outside, module_done}
use Rattle.drivers.proofs.groups.report_module.Goals as goal

pub returns-clause-reported : goal.returns-clause-reported
returns-clause-reported c = λ o hs h s w. module_done o (held_found c.args.text.now c.args.own.now c.find_conflicts.new.own c.find_conflicts.ensures.own_len_unchanged c.find_conflicts.ensures.own_after o h) (conflicts_found c.args.text.now c.args.own.now c.find_conflicts.new.own c.find_conflicts.ensures.own_len_unchanged c.find_conflicts.ensures.own_after o h) (poison_found c.args.text.now c.args.own.now c.find_conflicts.new.own c.find_conflicts.ensures.own_len_unchanged c.find_conflicts.ensures.own_after o h) c.args.m (names_of c.args.names.now c.args.used) hs c.report_coverage.result _ c.report_misuses-a.ensures c.report_conflicts-b.ensures c.report_coverage.ensures c.in_ok-c.was c.report_blocks-d.ensures c.report_blocks-e.ensures (c.report_loops.ensures hs s w)

pub returns-clause-held : goal.returns-clause-held
returns-clause-held c = λ o h. held_found c.args.text.now c.args.own.now c.find_conflicts.new.own c.find_conflicts.ensures.own_len_unchanged c.find_conflicts.ensures.own_after o h

pub returns-in_err-c-clause-reported : goal.returns-in_err-c-clause-reported
returns-in_err-c-clause-reported c = λ o hs h s w. module_outside o (held_found c.args.text.now c.args.own.now c.find_conflicts.new.own c.find_conflicts.ensures.own_len_unchanged c.find_conflicts.ensures.own_after o h) (conflicts_found c.args.text.now c.args.own.now c.find_conflicts.new.own c.find_conflicts.ensures.own_len_unchanged c.find_conflicts.ensures.own_after o h) (poison_found c.args.text.now c.args.own.now c.find_conflicts.new.own c.find_conflicts.ensures.own_len_unchanged c.find_conflicts.ensures.own_after o h) c.args.m (names_of c.args.names.now c.args.used) hs c.report_coverage.result _ c.report_misuses-a.ensures c.report_conflicts-b.ensures c.report_coverage.ensures c.in_err-c.was c.from_residual.result c.from_residual.ensures.0

pub returns-in_err-c-clause-held : goal.returns-in_err-c-clause-held
returns-in_err-c-clause-held c = λ o h. held_found c.args.text.now c.args.own.now c.find_conflicts.new.own c.find_conflicts.ensures.own_len_unchanged c.find_conflicts.ensures.own_after o h
