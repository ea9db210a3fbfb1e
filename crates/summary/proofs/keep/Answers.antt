use Rattle.summary.proofs.Pairs.{kept_one}
use Rattle.summary.proofs.keep.Goals as goal

pub returns : goal.returns
returns c = kept_one c.args.k.now c.args.m c.args.start c.args.count c.put.ensures c.put-2.ensures c.put-3.ensures
