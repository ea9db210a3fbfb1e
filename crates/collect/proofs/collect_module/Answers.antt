use native.Mathlib.Omega.{arith}
use mathlib.Core.Bool.{true}
use mathlib.Core.Path.{◌∙◌}
use lib.ListN.{length}
use Rattle.spec.proofs.Cleared.{cleared_of}
use Rattle.collect.proofs.OwnLaws.{few_left, own_outside, own_full, own_left, lent_left, lent_full}
use Rattle.collect.proofs.Leaving.{walk_kept, walk_cleared}
use Rattle.collect.proofs.collect_module.Goals as goal

pub returns-in_default-clause-collects : goal.returns-in_default-clause-collects
returns-in_default-clause-collects c = λ x kept C. own_outside C c.names_of_module.new.names c.names_of_module.result c.names_of_module.ensures.names_are c.in_default.is

pub returns-in_default-clause-result_bound : goal.returns-in_default-clause-result_bound
returns-in_default-clause-result_bound c = omega arith

pub returns-in_default-clause-lent_after : goal.returns-in_default-clause-lent_after
returns-in_default-clause-lent_after c = lent_full c.args.text.now c.args.mods.now c.args.count c.args.m c.args.names.now c.args.own.now c.args.g.now c.args.k.now c.clear.new.g c.clear_tables.new.own c.clear_tables.new.g c.clear_tables.new.k (c.clear.auto.g ∙ c.names_of_module.auto.names, c.clear_tables.auto.own, c.clear_tables.auto.g, c.clear_tables.auto.k) (cleared_of (length c.names_of_module.new.names) c.clear.new.g c.clear.ensures) c.clear_tables.ensures

pub returns-in-Ok-walk_module-clause-collects : goal.returns-in-Ok-walk_module-clause-collects
returns-in-Ok-walk_module-clause-collects c = λ x kept C. own_left C c.names_of_module.new.names c.names_of_module.result c.names_of_module.ensures.names_are c.in-Ok.is c.reset.new.own c.reset-2.new.g c.reset.ensures.held c.reset-2.ensures.stands c.walk_module.new.own c.walk_module.new.g c.walk_module.new.k c.walk_module.result c.walk_module.ensures.ends c.in-Ok-walk_module.is c.walk_module.new.names c.walk_module.ensures.framed.0

pub returns-in-Ok-walk_module-clause-result_bound : goal.returns-in-Ok-walk_module-clause-result_bound
returns-in-Ok-walk_module-clause-result_bound c = few_left c.walk_module.result c.walk_module.ensures.framed.1 c.in-Ok-walk_module.is

pub returns-in-Ok-walk_module-clause-lent_after : goal.returns-in-Ok-walk_module-clause-lent_after
returns-in-Ok-walk_module-clause-lent_after c = lent_left c.args.text.now c.args.mods.now c.args.count c.args.m c.args.names.now c.args.own.now c.args.g.now c.args.k.now c.walk_module.new.names c.walk_module.new.own c.walk_module.new.g c.walk_module.new.k (c.walk_module.auto.names ∙ c.names_of_module.auto.names, c.walk_module.auto.own ∙ c.reset.auto.own, c.walk_module.auto.g ∙ c.reset-2.auto.g, c.walk_module.auto.k) _ _ c.names_of_module.result c.names_of_module.new.names c.names_of_module.ensures.value c.names_of_module.ensures.names_after c.in-Ok.is c.walk_module.ensures.framed.0 c.walk_module.result c.in-Ok-walk_module.is c.walk_module.ensures.walkable c.reset.new.own c.reset.ensures.own_after c.reset-2.new.g c.reset-2.ensures.g_after (walk_kept c.walk_module.result true c.reset.new.own c.walk_module.new.own c.reset-2.new.g c.walk_module.new.g c.args.k.now c.walk_module.new.k c.in-Ok-walk_module.is c.walk_module.ensures.walk_leaves)

pub returns-in-Err-clause-collects : goal.returns-in-Err-clause-collects
returns-in-Err-clause-collects c = λ x kept C. own_full C c.names_of_module.new.names c.names_of_module.result c.names_of_module.ensures.names_are c.in-Ok.is c.reset.new.own c.reset-2.new.g c.reset.ensures.held c.reset-2.ensures.stands c.walk_module.new.own c.walk_module.new.g c.walk_module.new.k c.walk_module.result c.walk_module.ensures.ends c.in-Err.is

pub returns-in-Err-clause-result_bound : goal.returns-in-Err-clause-result_bound
returns-in-Err-clause-result_bound c = omega arith

pub returns-in-Err-clause-lent_after : goal.returns-in-Err-clause-lent_after
returns-in-Err-clause-lent_after c = lent_full c.args.text.now c.args.mods.now c.args.count c.args.m c.args.names.now c.args.own.now c.args.g.now c.args.k.now c.clear-in-Err.new.g c.walk_module.new.own c.walk_module.new.g c.walk_module.new.k (c.clear-in-Err.auto.g ∙ c.walk_module.auto.names ∙ c.names_of_module.auto.names, c.walk_module.auto.own ∙ c.reset.auto.own, c.walk_module.auto.g ∙ c.reset-2.auto.g, c.walk_module.auto.k) (cleared_of (length c.walk_module.new.names) c.clear-in-Err.new.g c.clear-in-Err.ensures) (walk_cleared c.walk_module.result true c.reset.new.own c.walk_module.new.own c.reset-2.new.g c.walk_module.new.g c.args.k.now c.walk_module.new.k c.in-Err.is c.walk_module.ensures.walk_leaves)
