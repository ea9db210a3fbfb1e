use mathlib.Core.Path.{sym, ◌∙◌}
use Prim.Native.Nat.{◌+◌, ◌*◌}
use native.Mathlib.Omega.{arith}
use Rattle.sites.proofs.Rows.{row_more, row_done, row_start}
use Rattle.sites.proofs.put_row.Goals as goal

pub loop-k-init : goal.loop-k-init
loop-k-init c = row_start c.args.own.now (c.args.t.base + c.args.t.width * c.args.i) c.args.row.now

pub loop-k-preserved : goal.loop-k-preserved
loop-k-preserved c = row_more c.loop-k.own (c.args.t.base + c.args.t.width * c.args.i) c.loop-k.k c.args.row.now (omega (arith, c.requires.1, c.loop-k-test.true)) ∙ c.loop-k.invariant

pub returns : goal.returns
returns c = sym (row_done c.loop-k.own (c.args.t.base + c.args.t.width * c.args.i) c.loop-k.k c.args.row.now (omega (arith, c.requires.1, c.loop-k-test.false))) ∙ c.loop-k.invariant
