use mathlib.Core.Path.{refl, ◌∙◌}
use native.Mathlib.Omega.{arith}
use lib.ListN.{get_or}
use Rattle.sites.proofs.Rows.{first_seen, first_new, seen_by, rows_fit}
use Rattle.sites.proofs.push_first.Goals as goal

pub rows_in-n-requires : goal.rows_in-n-requires
rows_in-n-requires c = omega (arith, c.requires.0)

pub bounds-row-0 : goal.bounds-row-0
bounds-row-0 c = omega (arith, c.requires.0, c.requires.1)

pub has_row-requires : goal.has_row-requires
has_row-requires c = (rows_fit c.args.t c.args.own.now c.rows_in-n.result c.rows_in-n.ensures.0 c.requires.0.inside, c.requires.0.some)

pub returns-then-has_row : goal.returns-then-has_row
returns-then-has_row c = first_seen c.args.t c.args.own.now c.args.row.now (seen_by c.args.t c.args.own.now c.args.row.now c.rows_in-n.result (get_or c.args.row.now 0 0) c.has_row.result c.rows_in-n.ensures.0 refl c.has_row.ensures ∙ c.if-has_row.true)

pub push-requires : goal.push-requires
push-requires c = c.requires

pub returns : goal.returns
returns c = c.push.ensures.0 ∙ first_new c.args.t c.args.own.now c.args.row.now (seen_by c.args.t c.args.own.now c.args.row.now c.rows_in-n.result (get_or c.args.row.now 0 0) c.has_row.result c.rows_in-n.ensures.0 refl c.has_row.ensures ∙ c.if-has_row.false)
