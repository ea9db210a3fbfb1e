use native.Mathlib.Omega.{arith}
use mathlib.Core.Path.{◌∙◌, ap}
use lib.ListN.{drop}
use Rattle.spec.specs.Bytes.{Bytes}
use Rattle.program.proofs.Laws.{zeros, zeros_past, prints_reports, prints_refused, refused_stays}
use Rattle.program.proofs.print_to.Goals as goal

pub returns-then-answer-eq0-clause-prints : goal.returns-then-answer-eq0-clause-prints
returns-then-answer-eq0-clause-prints c = let t = prints_reports _ _ _ _ _ _ _ (zeros 8192) (zeros 128) (zeros 6616) (zeros 11016) (zeros_past 15874 16898 (omega arith)) (zeros 29190) (zeros 2145) c.args.text.now c.args.out.now (omega arith) c.check_drivers-answer.result c.check_drivers-answer.new.report (omega arith) c.check_drivers-answer.ensures c.if-answer-eq0.true in t.0

pub returns-then-answer-eq0-clause-prefix_len : goal.returns-then-answer-eq0-clause-prefix_len
returns-then-answer-eq0-clause-prefix_len c = let t = prints_reports _ _ _ _ _ _ _ (zeros 8192) (zeros 128) (zeros 6616) (zeros 11016) (zeros_past 15874 16898 (omega arith)) (zeros 29190) (zeros 2145) c.args.text.now c.args.out.now (omega arith) c.check_drivers-answer.result c.check_drivers-answer.new.report (omega arith) c.check_drivers-answer.ensures c.if-answer-eq0.true in t.1

pub returns-then-answer-eq0-clause-out_unchanged : goal.returns-then-answer-eq0-clause-out_unchanged
returns-then-answer-eq0-clause-out_unchanged c = let t = prints_reports _ _ _ _ _ _ _ (zeros 8192) (zeros 128) (zeros 6616) (zeros 11016) (zeros_past 15874 16898 (omega arith)) (zeros 29190) (zeros 2145) c.args.text.now c.args.out.now (omega arith) c.check_drivers-answer.result c.check_drivers-answer.new.report (omega arith) c.check_drivers-answer.ensures c.if-answer-eq0.true in t.2

pub returns-clause-prints : goal.returns-clause-prints
returns-clause-prints c = prints_refused _ _ _ _ _ _ _ (zeros 8192) (zeros 128) (zeros 6616) (zeros 11016) (zeros_past 15874 16898 (omega arith)) (zeros 29190) (zeros 2145) c.args.text.now c.args.out.now (omega arith) c.check_drivers-answer.result c.check_drivers-answer.new.report (omega arith) c.check_drivers-answer.ensures c.if-answer-eq0.false _ c.put_refused.ensures.out_after

pub returns-clause-prefix_len : goal.returns-clause-prefix_len
returns-clause-prefix_len c = c.put_refused.ensures.prefix_len

pub returns-clause-out_unchanged : goal.returns-clause-out_unchanged
returns-clause-out_unchanged c = c.put_refused.ensures.out_unchanged ∙ ap (λ (b : Bytes). drop c.put_refused.result b) (refused_stays _ _ _ _ _ _ _ (zeros 8192) (zeros 128) (zeros 6616) (zeros 11016) (zeros_past 15874 16898 (omega arith)) (zeros 29190) (zeros 2145) c.args.text.now c.args.out.now (omega arith) c.check_drivers-answer.result c.check_drivers-answer.new.report (omega arith) c.check_drivers-answer.ensures c.if-answer-eq0.false)
