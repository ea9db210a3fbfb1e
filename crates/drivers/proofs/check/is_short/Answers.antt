use Rattle.drivers.proofs.AnswerLaws.{short_kinds, short_mods, short_names, short_own, short_graph, short_work, short_kept}
use Rattle.drivers.proofs.check.is_short.Goals as goal

pub returns-then-kinds-lt-KINDS : goal.returns-then-kinds-lt-KINDS
returns-then-kinds-lt-KINDS c = short_kinds c.args.kinds c.args.mods c.args.names c.args.own c.args.g c.args.w c.args.k c.if-kinds-lt-KINDS.true

pub returns-then-mods-lt-MODS : goal.returns-then-mods-lt-MODS
returns-then-mods-lt-MODS c = short_mods c.args.kinds c.args.mods c.args.names c.args.own c.args.g c.args.w c.args.k c.if-kinds-lt-KINDS.false c.if-mods-lt-MODS.true

pub returns-then-names-lt-NAMES : goal.returns-then-names-lt-NAMES
returns-then-names-lt-NAMES c = short_names c.args.kinds c.args.mods c.args.names c.args.own c.args.g c.args.w c.args.k c.if-kinds-lt-KINDS.false c.if-mods-lt-MODS.false c.if-names-lt-NAMES.true

pub returns-then-own-lt-OWN : goal.returns-then-own-lt-OWN
returns-then-own-lt-OWN c = short_own c.args.kinds c.args.mods c.args.names c.args.own c.args.g c.args.w c.args.k c.if-kinds-lt-KINDS.false c.if-mods-lt-MODS.false c.if-names-lt-NAMES.false c.if-own-lt-OWN.true

pub returns-then-g-lt-GRAPH : goal.returns-then-g-lt-GRAPH
returns-then-g-lt-GRAPH c = short_graph c.args.kinds c.args.mods c.args.names c.args.own c.args.g c.args.w c.args.k c.if-kinds-lt-KINDS.false c.if-mods-lt-MODS.false c.if-names-lt-NAMES.false c.if-own-lt-OWN.false c.if-g-lt-GRAPH.true

pub returns-then-w-lt-WORK : goal.returns-then-w-lt-WORK
returns-then-w-lt-WORK c = short_work c.args.kinds c.args.mods c.args.names c.args.own c.args.g c.args.w c.args.k c.if-kinds-lt-KINDS.false c.if-mods-lt-MODS.false c.if-names-lt-NAMES.false c.if-own-lt-OWN.false c.if-g-lt-GRAPH.false c.if-w-lt-WORK.true

pub returns : goal.returns
returns c = short_kept c.args.kinds c.args.mods c.args.names c.args.own c.args.g c.args.w c.args.k c.if-kinds-lt-KINDS.false c.if-mods-lt-MODS.false c.if-names-lt-NAMES.false c.if-own-lt-OWN.false c.if-g-lt-GRAPH.false c.if-w-lt-WORK.false
