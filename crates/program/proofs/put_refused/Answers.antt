use native.Mathlib.Omega.{arith}
use Rattle.report.specs.Line.{refused_line}
use Rattle.program.proofs.Laws.{put_front}
use Rattle.program.proofs.put_refused.Goals as goal

pub returns-clause-out_after : goal.returns-clause-out_after
returns-clause-out_after c = let t = put_front (refused_line c.args.number c.args.line) c.args.out.now c.put_refused.new.buf c.put_refused.result c.count_refused-n.result c.count_refused-n.ensures.0 (omega (arith, c.count_refused-n.ensures.1)) c.put_refused.ensures in t.0

pub returns-clause-prefix_len : goal.returns-clause-prefix_len
returns-clause-prefix_len c = let t = put_front (refused_line c.args.number c.args.line) c.args.out.now c.put_refused.new.buf c.put_refused.result c.count_refused-n.result c.count_refused-n.ensures.0 (omega (arith, c.count_refused-n.ensures.1)) c.put_refused.ensures in t.1

pub returns-clause-out_unchanged : goal.returns-clause-out_unchanged
returns-clause-out_unchanged c = let t = put_front (refused_line c.args.number c.args.line) c.args.out.now c.put_refused.new.buf c.put_refused.result c.count_refused-n.result c.count_refused-n.ensures.0 (omega (arith, c.count_refused-n.ensures.1)) c.put_refused.ensures in t.2
