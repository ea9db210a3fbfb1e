use mathlib.Core.Path.{refl, sym}
use Rattle.drivers.proofs.AnswerLaws.{text_short, own_fits, part_long, text_refused, text_accepted}
use Rattle.drivers.proofs.check.check_text.Goals as goal

pub returns-then-is_short : goal.returns-then-is_short
returns-then-is_short c = text_short c.args.text.now c.args.report.now c.args.kinds.now c.args.mods.now c.args.names.now c.args.own.now c.args.g.now c.args.w.now c.args.k.now c.is_short.ensures c.if-is_short.true refl

pub slice_bounds-check_accepted-end : goal.slice_bounds-check_accepted-end
slice_bounds-check_accepted-end c = own_fits c.args.text.now c.args.report.now c.args.kinds.now c.args.mods.now c.args.names.now c.args.own.now c.args.g.now c.args.w.now c.args.k.now c.is_short.ensures c.if-is_short.false

pub slice_bounds-check_accepted-end-2 : goal.slice_bounds-check_accepted-end-2
slice_bounds-check_accepted-end-2 c = sym (part_long c.args.text.now c.args.report.now c.args.kinds.now c.args.mods.now c.args.names.now c.args.own.now c.args.g.now c.args.w.now c.args.k.now c.is_short.ensures c.if-is_short.false)

pub returns-in_err-count : goal.returns-in_err-count
returns-in_err-count c = text_refused c.args.text.now c.args.report.now c.args.kinds.now c.args.mods.now c.args.names.now c.args.own.now c.args.g.now c.args.w.now c.args.k.now c.is_short.ensures c.if-is_short.false c.read_text.ensures.value _ c.in_err-count.was c.from_residual.result c.from_residual.ensures.1

pub returns : goal.returns
returns c = text_accepted c.args.text.now c.args.report.now c.args.kinds.now c.args.mods.now c.args.names.now c.args.own.now c.args.g.now c.args.w.now c.args.k.now c.is_short.ensures c.if-is_short.false c.read_text.ensures.value c.in_ok-count.was c.read_text.new.kinds c.read_text.new.mods c.read_text.ensures.kinds_after c.read_text.ensures.mods_after c.read_text.auto.kinds c.read_text.auto.mods c.check_accepted.ensures
