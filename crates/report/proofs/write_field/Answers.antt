use native.Mathlib.Omega.{arith}
use lib.ListN.{length-set}
use Rattle.spec.specs.Bytes.{show_number}
use Rattle.report.specs.Line.{field}
use Rattle.report.proofs.Laws.{byte_first}
use Rattle.report.proofs.write_field.Goals as goal

pub bounds-buf-at : goal.bounds-buf-at
unfolding field
bounds-buf-at c = omega arith

pub write_number-requires : goal.write_number-requires
unfolding field
write_number-requires c = simp length-set (omega arith)

pub returns : goal.returns
unfolding field
returns c = byte_first c.args.buf.now c.args.at 32 (show_number c.args.n) c.write_number.ensures
