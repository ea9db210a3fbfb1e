use Rattle.lines.proofs.PartLaws.{piece_over, piece_rest, piece_none, piece_in}
use Rattle.lines.proofs.parts.between.Goals as goal

pub returns-then-s-before : goal.returns-then-s-before
returns-then-s-before c = piece_over c.args.s.now c.args.before c.args.end c.if-s-before.true

pub returns-then-s-end : goal.returns-then-s-end
returns-then-s-end c = piece_rest c.args.s.now c.args.before c.args.end c.if-s-end.true

pub returns-then-end-from : goal.returns-then-end-from
returns-then-end-from c = piece_none c.args.s.now c.args.before c.args.end c.if-end-from.true

pub returns : goal.returns
returns c = piece_in c.args.s.now c.args.before c.args.end
