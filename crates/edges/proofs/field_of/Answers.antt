use Rattle.edges.proofs.TotalLaws.{field_inst, field_signal, field_inst_at, field_signal_at, field_none}
use Rattle.edges.proofs.field_of.Goals as goal

pub returns-then-is_inst : goal.returns-then-is_inst
returns-then-is_inst c = field_inst c.args.x.now c.args.kinds.now c.name_of.result c.name_of.ensures c.in-Some.is c.is_inst.result c.is_inst.ensures c.if-is_inst.true

pub returns-then-is_inst-2 : goal.returns-then-is_inst-2
returns-then-is_inst-2 c = field_inst_at c.args.x.now c.args.kinds.now c.name_of.result c.name_of.ensures c.indexed_name.result c.indexed_name.ensures c.in-None.is c.in-Some-indexed_name.is c.is_inst-in-Some-indexed_name.result c.is_inst-in-Some-indexed_name.ensures c.if-is_inst-2.true

pub returns-else-is_inst : goal.returns-else-is_inst
returns-else-is_inst c = field_signal c.args.x.now c.args.kinds.now c.name_of.result c.name_of.ensures c.in-Some.is c.is_inst.result c.is_inst.ensures c.if-is_inst.false

pub returns-else-is_inst-2 : goal.returns-else-is_inst-2
returns-else-is_inst-2 c = field_signal_at c.args.x.now c.args.kinds.now c.name_of.result c.name_of.ensures c.indexed_name.result c.indexed_name.ensures c.in-None.is c.in-Some-indexed_name.is c.is_inst-in-Some-indexed_name.result c.is_inst-in-Some-indexed_name.ensures c.if-is_inst-2.false

pub returns-in-None-indexed_name : goal.returns-in-None-indexed_name
returns-in-None-indexed_name c = field_none c.args.x.now c.args.kinds.now c.name_of.result c.name_of.ensures c.indexed_name.result c.indexed_name.ensures c.in-None.is c.in-None-indexed_name.is
