use Rattle.items.proofs.AddedLaws.{row_left}
use Rattle.sites.specs.Own.{mem_table}
use Rattle.items.proofs.Places.{named_means}
use Rattle.items.proofs.LineLaws.{mem_line}
use Rattle.items.proofs.mem_line.Goals as goal

pub returns-clause-mem_line : goal.returns-clause-mem_line
returns-clause-mem_line c = mem_line c.args.x.now c.args.own.now _ c.named_at-l.result (named_means _ _ c.named_at-l.ensures) c.add_mem.ensures.own_len_unchanged c.add_mem.ensures.own_after

pub returns-clause-own_len_unchanged : goal.returns-clause-own_len_unchanged
returns-clause-own_len_unchanged c = c.add_mem.ensures.own_len_unchanged

pub returns-clause-own_after : goal.returns-clause-own_after
returns-clause-own_after c = row_left mem_table c.args.own.now _ c.named_at-l.ensures c.add_mem.ensures.own_after_2
