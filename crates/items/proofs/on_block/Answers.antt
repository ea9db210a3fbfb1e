use Rattle.items.proofs.AddedLaws.{on_left}
use Rattle.items.proofs.Places.{number_means}
use Rattle.items.proofs.BlockLaws.{on_line}
use Rattle.std.specs.Prelude.{is_ok}
use Rattle.items.proofs.on_block.Goals as goal

pub returns-clause-on_line : goal.returns-clause-on_line
returns-clause-on_line c = on_line c.args.x.now c.args.depth c.args.kinds.now c.args.own.now _ c.part_end-a.ensures (number_means _ _ _ c.number-block.ensures) (is_ok c.block_stmts.result) c.block_stmts.ensures.stmts_after

pub returns-clause-own_len_unchanged : goal.returns-clause-own_len_unchanged
returns-clause-own_len_unchanged c = c.block_stmts.ensures.own_len_unchanged

pub returns-clause-own_leaves : goal.returns-clause-own_leaves
returns-clause-own_leaves c = on_left c.args.x.now c.args.depth c.args.kinds.now c.args.own.now c.part_end-a.ensures c.number-block.ensures (is_ok c.block_stmts.result) _ c.block_stmts.ensures.own_leaves
