use native.Mathlib.Omega.{arith}
use mathlib.Core.Path.{refl}
use Rattle.summary.proofs.Pairs.{push_none, push_one, push_full, push_more}
use Rattle.summary.proofs.push.Goals as goal

pub returns-then-n-ge-TRIPLES-clause-by_index : goal.returns-then-n-ge-TRIPLES-clause-by_index
returns-then-n-ge-TRIPLES-clause-by_index c = push_full c.args.k.now c.args.o c.args.i _ c.at-n.ensures (omega (arith, c.if-n-ge-TRIPLES.true))

pub returns-then-n-ge-TRIPLES-clause-k_value : goal.returns-then-n-ge-TRIPLES-clause-k_value
returns-then-n-ge-TRIPLES-clause-k_value c = push_none c.args.k.now c.args.o c.args.i _ c.at-n.ensures (omega (arith, c.if-n-ge-TRIPLES.true))

pub returns-clause-by_index : goal.returns-clause-by_index
returns-clause-by_index c = push_more c.args.k.now c.args.o c.args.i _ c.at-n.ensures refl c.put.ensures c.put-2.ensures c.put-3.ensures (omega (arith, c.if-n-ge-TRIPLES.false))

pub returns-clause-k_value : goal.returns-clause-k_value
returns-clause-k_value c = push_one c.args.k.now c.args.o c.args.i _ c.at-n.ensures refl c.put.ensures c.put-2.ensures c.put-3.ensures (omega (arith, c.if-n-ge-TRIPLES.false))
