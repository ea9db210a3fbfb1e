use native.Mathlib.Omega.{arith}
use mathlib.Core.Path.{sym, ◌∙◌}
use Rattle.summary.proofs.Ports.{not_port, not_out, not_small, is_out, other_word, other_direction, other_number, out_number}
use Rattle.summary.proofs.port_of.Goals as goal

pub returns-then-byte-ne112-clause-port_is : goal.returns-then-byte-ne112-clause-port_is
returns-then-byte-ne112-clause-port_is c = not_port c.args.x.now (λ e. c.if-byte-ne112.true (c.byte.ensures ∙ e))

pub returns-then-byte-ne112-clause-value : goal.returns-then-byte-ne112-clause-value
returns-then-byte-ne112-clause-value c = other_word c.args.x.now (λ e. c.if-byte-ne112.true (c.byte.ensures ∙ e))

pub returns-then-byte-ne111-clause-port_is : goal.returns-then-byte-ne111-clause-port_is
returns-then-byte-ne111-clause-port_is c = not_out c.args.x.now (λ e. c.if-byte-ne111.true (c.byte-2.ensures ∙ e))

pub returns-then-byte-ne111-clause-value : goal.returns-then-byte-ne111-clause-value
returns-then-byte-ne111-clause-value c = other_direction c.args.x.now (sym c.byte.ensures ∙ c.if-byte-ne112.false) (λ e. c.if-byte-ne111.true (c.byte-2.ensures ∙ e))

pub returns-then-n-gt255-clause-port_is : goal.returns-then-n-gt255-clause-port_is
returns-then-n-gt255-clause-port_is c = not_small c.args.x.now c.part_end-end.ensures c.between.ensures c.value-n.ensures c.if-n-gt255.true

pub returns-then-n-gt255-clause-value : goal.returns-then-n-gt255-clause-value
returns-then-n-gt255-clause-value c = other_number c.args.x.now (sym c.byte.ensures ∙ c.if-byte-ne112.false) (sym c.byte-2.ensures ∙ c.if-byte-ne111.false) c.part_end-end.ensures c.between.ensures c.value-n.ensures c.if-n-gt255.true

pub returns-clause-port_is : goal.returns-clause-port_is
returns-clause-port_is c = is_out c.args.x.now c.part_end-end.ensures c.between.ensures c.value-n.ensures (sym c.byte.ensures ∙ c.if-byte-ne112.false) (sym c.byte-2.ensures ∙ c.if-byte-ne111.false)

pub returns-clause-value : goal.returns-clause-value
returns-clause-value c = out_number c.args.x.now (sym c.byte.ensures ∙ c.if-byte-ne112.false) (sym c.byte-2.ensures ∙ c.if-byte-ne111.false) c.part_end-end.ensures c.between.ensures c.value-n.ensures (omega (arith, c.if-n-gt255.false))
