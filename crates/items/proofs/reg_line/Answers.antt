use Rattle.items.proofs.AddedLaws.{row_left}
use Rattle.sites.specs.Own.{reg_table}
use Rattle.items.proofs.Places.{named_means}
use Rattle.items.proofs.LineLaws.{reg_line}
use Rattle.items.proofs.reg_line.Goals as goal

pub returns-clause-reg_line : goal.returns-clause-reg_line
returns-clause-reg_line c = reg_line c.args.x.now c.args.own.now _ c.named_at-l.result (named_means _ _ c.named_at-l.ensures) c.add_reg.ensures.own_len_unchanged c.add_reg.ensures.own_after

pub returns-clause-own_len_unchanged : goal.returns-clause-own_len_unchanged
returns-clause-own_len_unchanged c = c.add_reg.ensures.own_len_unchanged

pub returns-clause-own_after : goal.returns-clause-own_after
returns-clause-own_after c = row_left reg_table c.args.own.now _ c.named_at-l.ensures c.add_reg.ensures.own_after_2
