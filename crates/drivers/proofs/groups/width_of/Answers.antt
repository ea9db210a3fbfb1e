use mathlib.Core.Path.{sym, ◌∙◌}
use native.Mathlib.Omega.{arith}
use borrow.Author.Tests.{eqb-true, eqb-false}
use Rattle.lines.proofs.PartLaws.{follows_in}
use Rattle.consteval.specs.Worth.{names_of}
use Rattle.drivers.proofs.CoverLaws.{width_one, width_none, width_alone, width_form}
use Rattle.drivers.proofs.groups.width_of.Goals as goal

pub returns-then-c-eq98 : goal.returns-then-c-eq98
returns-then-c-eq98 c = λ x q d. c.truth.ensures ∙ width_one x c.args.t.now q c.byte-c.ensures c.if-c-eq98.true (names_of c.args.names.now c.args.used)

pub returns-then-not-is_open : goal.returns-then-not-is_open
returns-then-not-is_open c = λ x q d. width_none x c.args.t.now q c.byte-c.ensures c.if-c-eq98.false (eqb-false _ 40 (sym c.is_open.ensures ∙ c.if-not-is_open.true)) (names_of c.args.names.now c.args.used)

pub returns-then-not-more : goal.returns-then-not-more
returns-then-not-more c = λ x q d. width_alone c.args.t.now c.byte-c.ensures (eqb-true _ 40 (sym c.is_open.ensures ∙ c.if-not-is_open.false)) c.part_end-h.ensures x q (sym c.more.ensures ∙ c.if-not-more.true) (names_of c.args.names.now c.args.used)

pub overflow_add-h : goal.overflow_add-h
overflow_add-h c = omega (arith, follows_in c.args.t.now c.part_end-h.result (sym c.more.ensures ∙ c.if-not-more.false))

pub returns : goal.returns
returns c = λ x q d. width_form c.args.t.now c.byte-c.ensures (eqb-true _ 40 (sym c.is_open.ensures ∙ c.if-not-is_open.false)) c.part_end-h.ensures c.part_end-e.ensures c.between.ensures (names_of c.args.names.now c.args.used) c.eval.ensures x q d
