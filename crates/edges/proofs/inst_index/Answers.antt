use Rattle.lines.proofs.Laws.{byte_is, byte_not}
use Rattle.consteval.specs.Worth.{names_of}
use Rattle.edges.proofs.OutputLaws.{index_dash, index_evaluated}
use Rattle.edges.proofs.inst_index.Goals as goal

pub returns-then-is_minus : goal.returns-then-is_minus
returns-then-is_minus c = index_dash c.args.x.now c.args.depth (names_of c.args.names.now c.args.used) c.next_end-a.ensures c.next_end.ensures c.between-e.ensures (byte_is _ _ _ 45 c.is_minus.ensures c.byte.ensures c.if-is_minus.true)

pub returns : goal.returns
returns c = index_evaluated c.args.x.now c.args.depth (names_of c.args.names.now c.args.used) c.next_end-a.ensures c.next_end.ensures c.between-e.ensures (byte_not _ _ _ 45 c.is_minus.ensures c.byte.ensures c.if-is_minus.false) c.under.ensures c.eval.ensures
