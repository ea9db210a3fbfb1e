use mathlib.Core.Path.{sym, ap, ◌∙◌}
use mathlib.Core.List.{List}
use Prim.Native.Nat.{ℕ, ◌+◌}
use native.Mathlib.Omega.{arith}
use lib.ListN.{set}
use Rattle.sites.proofs.Rows.{row_end, push_full, answer_full, answer_room, push_done}
use Rattle.sites.proofs.push.Goals as goal

pub rows_in-n-requires : goal.rows_in-n-requires
rows_in-n-requires c = omega (arith, c.requires.0)

pub returns-then-t-n : goal.returns-then-t-n
returns-then-t-n c = (sym (push_full c.args.t c.args.own.now c.args.row.now (omega (arith, c.rows_in-n.ensures, c.if-t-n.true))), sym (answer_full c.args.t c.args.own.now (omega (arith, c.rows_in-n.ensures, c.if-t-n.true))))

pub put_row-requires : goal.put_row-requires
put_row-requires c = omega (arith, row_end c.args.t.width c.rows_in-n.result c.args.t.limit c.if-t-n.false, c.requires)

pub bounds-own-t : goal.bounds-own-t
bounds-own-t c = omega (arith, c.requires.0, c.put_row.auto.own)

pub returns : goal.returns
returns c = (
  ap (λ (l : List ℕ). set l c.args.t.count (c.rows_in-n.result + 1)) c.put_row.ensures ∙ push_done c.args.t c.args.own.now c.args.row.now c.rows_in-n.result c.rows_in-n.ensures.0 c.if-t-n.false,
  sym (answer_room c.args.t c.args.own.now (omega (arith, c.rows_in-n.ensures, c.if-t-n.false))),
)
