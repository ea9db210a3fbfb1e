use Rattle.items.proofs.AddedLaws.{no_dir, no_name, no_width, no_start, too_far, port_row_left}
use Rattle.items.proofs.Places.{number_means}
use mathlib.Core.Path.{refl, sym, ◌∙◌}
use native.Mathlib.Omega.{arith}
use Rattle.lines.proofs.PartLaws.{follows_in}
use Rattle.items.proofs.LineLaws.{port_other, port_none, port_one, port_two, port_far, port_out}
use Rattle.items.proofs.port_line.Goals as goal

pub returns-then-byte-ne111-clause-port_line : goal.returns-then-byte-ne111-clause-port_line
returns-then-byte-ne111-clause-port_line c = port_other c.args.x.now c.args.base c.args.own.now (λ e. c.if-byte-ne111.true (c.byte.ensures ∙ e))

pub returns-then-byte-ne111-clause-own_len_unchanged : goal.returns-then-byte-ne111-clause-own_len_unchanged
returns-then-byte-ne111-clause-own_len_unchanged c = refl

pub returns-then-byte-ne111-clause-own_after : goal.returns-then-byte-ne111-clause-own_after
returns-then-byte-ne111-clause-own_after c = no_dir c.args.x.now c.args.base c.args.own.now (λ e. c.if-byte-ne111.true (c.byte.ensures ∙ e))

pub returns-then-not-more-clause-port_line : goal.returns-then-not-more-clause-port_line
returns-then-not-more-clause-port_line c = port_none c.args.x.now c.args.base c.args.own.now (sym c.byte.ensures ∙ c.if-byte-ne111.false) (sym c.more.ensures ∙ c.if-not-more.true)

pub returns-then-not-more-clause-own_len_unchanged : goal.returns-then-not-more-clause-own_len_unchanged
returns-then-not-more-clause-own_len_unchanged c = refl

pub returns-then-not-more-clause-own_after : goal.returns-then-not-more-clause-own_after
returns-then-not-more-clause-own_after c = no_name c.args.x.now c.args.base c.args.own.now (sym c.more.ensures ∙ c.if-not-more.true)

pub returns-then-not-more-2-clause-port_line : goal.returns-then-not-more-2-clause-port_line
returns-then-not-more-2-clause-port_line c = port_one c.args.x.now c.args.base c.args.own.now (sym c.byte.ensures ∙ c.if-byte-ne111.false) c.part_end-a.ensures (sym c.more-2.ensures ∙ c.if-not-more-2.true)

pub returns-then-not-more-2-clause-own_len_unchanged : goal.returns-then-not-more-2-clause-own_len_unchanged
returns-then-not-more-2-clause-own_len_unchanged c = refl

pub returns-then-not-more-2-clause-own_after : goal.returns-then-not-more-2-clause-own_after
returns-then-not-more-2-clause-own_after c = no_width c.args.x.now c.args.base c.args.own.now c.part_end-a.ensures (sym c.more-2.ensures ∙ c.if-not-more-2.true)

pub overflow_add-a : goal.overflow_add-a
overflow_add-a c = omega (arith, follows_in c.args.x.now c.part_end-a.result (sym c.more-2.ensures ∙ c.if-not-more-2.false))

pub returns-then-not-more-3-clause-port_line : goal.returns-then-not-more-3-clause-port_line
returns-then-not-more-3-clause-port_line c = port_two c.args.x.now c.args.base c.args.own.now (sym c.byte.ensures ∙ c.if-byte-ne111.false) c.part_end-a.ensures c.part_end-b.ensures (sym c.more-3.ensures ∙ c.if-not-more-3.true)

pub returns-then-not-more-3-clause-own_len_unchanged : goal.returns-then-not-more-3-clause-own_len_unchanged
returns-then-not-more-3-clause-own_len_unchanged c = refl

pub returns-then-not-more-3-clause-own_after : goal.returns-then-not-more-3-clause-own_after
returns-then-not-more-3-clause-own_after c = no_start c.args.x.now c.args.base c.args.own.now c.part_end-a.ensures c.part_end-b.ensures (sym c.more-3.ensures ∙ c.if-not-more-3.true)

pub overflow_add-b : goal.overflow_add-b
overflow_add-b c = omega (arith, follows_in c.args.x.now c.part_end-b.result (sym c.more-3.ensures ∙ c.if-not-more-3.false))

pub returns-then-base-b-clause-port_line : goal.returns-then-base-b-clause-port_line
returns-then-base-b-clause-port_line c = port_far c.args.x.now c.args.base c.args.own.now (sym c.byte.ensures ∙ c.if-byte-ne111.false) c.part_end-a.ensures c.part_end-b.ensures (omega (arith, follows_in c.args.x.now c.part_end-b.result (sym c.more-3.ensures ∙ c.if-not-more-3.false))) c.if-base-b.true

pub returns-then-base-b-clause-own_len_unchanged : goal.returns-then-base-b-clause-own_len_unchanged
returns-then-base-b-clause-own_len_unchanged c = refl

pub returns-then-base-b-clause-own_after : goal.returns-then-base-b-clause-own_after
returns-then-base-b-clause-own_after c = too_far c.args.x.now c.args.base c.args.own.now c.part_end-a.ensures c.part_end-b.ensures c.if-base-b.true

pub returns-clause-port_line : goal.returns-clause-port_line
returns-clause-port_line c = port_out c.args.x.now c.args.base c.args.own.now (sym c.byte.ensures ∙ c.if-byte-ne111.false) c.part_end-a.ensures c.part_end-b.ensures (sym c.more-2.ensures ∙ c.if-not-more-2.false) (omega (arith, follows_in c.args.x.now c.part_end-b.result (sym c.more-3.ensures ∙ c.if-not-more-3.false))) c.part_end-c.ensures (number_means _ _ _ c.number-name.ensures) (number_means _ _ _ c.number-start.ensures) _ c.add_output.ensures.own_len_unchanged c.add_output.ensures.own_after

pub returns-clause-own_len_unchanged : goal.returns-clause-own_len_unchanged
returns-clause-own_len_unchanged c = c.add_output.ensures.own_len_unchanged

pub returns-clause-own_after : goal.returns-clause-own_after
returns-clause-own_after c = port_row_left c.args.x.now c.args.base c.args.own.now c.part_end-a.ensures c.part_end-b.ensures (sym c.byte.ensures ∙ c.if-byte-ne111.false) (sym c.more.ensures ∙ c.if-not-more.false) (sym c.more-2.ensures ∙ c.if-not-more-2.false) (sym c.more-3.ensures ∙ c.if-not-more-3.false) c.if-base-b.false c.part_end-c.ensures c.number-name.ensures c.number-start.ensures c.add_output.ensures.own_after_2
