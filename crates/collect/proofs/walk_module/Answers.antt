use mathlib.Core.Path.{refl}
use Rattle.collect.proofs.FaceLaws.{run_fits, not_long, not_many, walkable_within, module_walked}
use Rattle.collect.proofs.walk_module.Goals as goal

pub returns-then-source-gt32768-clause-ends : goal.returns-then-source-gt32768-clause-ends
returns-then-source-gt32768-clause-ends c = λ x kept C. not_long c.args.source.now.text.now c.args.source.now.kinds.now c.args.source.now.mods.now c.args.source.now.count c.args.m c.args.names.now c.args.used c.args.own.now c.args.g.now c.args.k.now x kept C c.if-source-gt32768.true

pub returns-then-source-gt32768-clause-framed : goal.returns-then-source-gt32768-clause-framed
returns-then-source-gt32768-clause-framed c = (record { size = refl; same = λ i h. refl }, tt)

pub returns-then-source-gt32768-clause-walk_leaves : goal.returns-then-source-gt32768-clause-walk_leaves
returns-then-source-gt32768-clause-walk_leaves c = c.clear_tables.ensures

pub returns-then-source-gt32768-clause-walkable : goal.returns-then-source-gt32768-clause-walkable
returns-then-source-gt32768-clause-walkable c = tt

pub returns-then-source-gt32-clause-ends : goal.returns-then-source-gt32-clause-ends
returns-then-source-gt32-clause-ends c = λ x kept C. not_many c.args.source.now.text.now c.args.source.now.kinds.now c.args.source.now.mods.now c.args.source.now.count c.args.m c.args.names.now c.args.used c.args.own.now c.args.g.now c.args.k.now x kept C c.if-source-gt32.true

pub returns-then-source-gt32-clause-framed : goal.returns-then-source-gt32-clause-framed
returns-then-source-gt32-clause-framed c = (record { size = refl; same = λ i h. refl }, tt)

pub returns-then-source-gt32-clause-walk_leaves : goal.returns-then-source-gt32-clause-walk_leaves
returns-then-source-gt32-clause-walk_leaves c = c.clear_tables-then-source-gt32.ensures

pub returns-then-source-gt32-clause-walkable : goal.returns-then-source-gt32-clause-walkable
returns-then-source-gt32-clause-walkable c = tt

pub collect_items-requires : goal.collect_items-requires
collect_items-requires c = run_fits c.args.source.now.text.now c.args.source.now.mods.now c.args.m c.items_of_module-run.result.now c.run_at-base.result c.items_of_module-run.ensures c.run_at-base.ensures c.run_at-base.type_inv c.if-source-gt32768.false

pub returns-clause-ends : goal.returns-clause-ends
returns-clause-ends c = λ x kept C. module_walked c.args.source.now.text.now c.args.source.now.kinds.now c.args.source.now.mods.now c.args.source.now.count c.args.m c.args.names.now c.args.used c.args.own.now c.args.g.now c.args.k.now x kept C c.items_of_module-run.result.now c.items_of_module-run.ensures c.run_at-base.result c.run_at-base.ensures c.module_kinds-ks.result.now c.module_kinds-ks.ensures c.is_bound-bound.result c.is_bound-bound.ensures c.collect_items.result _ _ _ c.collect_items.ensures.ends

pub returns-clause-framed : goal.returns-clause-framed
returns-clause-framed c = c.collect_items.ensures.framed

pub returns-clause-walk_leaves : goal.returns-clause-walk_leaves
returns-clause-walk_leaves c = c.collect_items.ensures.walk_leaves

pub returns-clause-walkable : goal.returns-clause-walkable
returns-clause-walkable c = walkable_within c.collect_items.result c.args.source.now.text.now c.args.source.now.count c.if-source-gt32768.false c.if-source-gt32.false
