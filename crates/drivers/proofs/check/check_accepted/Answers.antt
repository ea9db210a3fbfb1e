use mathlib.Core.Path.{◌∙◌, refl}
use mathlib.Core.List.{[]}
use Rattle.spec.specs.Refusal.{decode}
use Rattle.summary.proofs.Table.{none_kept}
use Rattle.drivers.proofs.TurnLaws.{enough_same, enough_kept}
use Rattle.drivers.proofs.AnswerLaws.{answer_full, answer_long, answer_none, answer_written, not_again, stopped}
use Rattle.drivers.proofs.check.check_accepted.Goals as goal

pub returns-then-report-bytes : goal.returns-then-report-bytes
returns-then-report-bytes c = λ T E. answer_long (decode c.args.source.now.text.now) c.args.report.now c.check_modules.new.buf c.check_modules.new.k c.check_modules.result (c.check_modules.ensures [] T (enough_kept E c.reset.new.k c.reset.auto.k) (none_kept _ _ c.reset.ensures E.keeping)) c.in_ok-counted.was c.if-report-bytes.true refl

pub returns-then-reports-eq0 : goal.returns-then-reports-eq0
returns-then-reports-eq0 c = λ T E. answer_none (decode c.args.source.now.text.now) c.args.report.now c.check_modules.new.buf c.check_modules.new.k c.check_modules.result (c.check_modules.ensures [] T (enough_kept E c.reset.new.k c.reset.auto.k) (none_kept _ _ c.reset.ensures E.keeping)) c.in_ok-counted.was c.if-report-bytes.false c.if-reports-eq0.true refl

pub returns-in_err-counted : goal.returns-in_err-counted
returns-in_err-counted c = λ T E. answer_full (decode c.args.source.now.text.now) c.args.report.now c.check_modules.new.buf c.check_modules.new.k c.check_modules.result (c.check_modules.ensures [] T (enough_kept E c.reset.new.k c.reset.auto.k) (none_kept _ _ c.reset.ensures E.keeping)) c.in_err-counted.was (stopped c.from_residual.result c.from_residual.ensures.1 c.check_modules.new.buf)

pub returns : goal.returns
returns c = λ T E. answer_written (decode c.args.source.now.text.now) c.args.report.now c.check_modules.new.buf c.check_modules.new.k c.check_modules.result (c.check_modules.ensures [] T (enough_kept E c.reset.new.k c.reset.auto.k) (none_kept _ _ c.reset.ensures E.keeping)) c.in_ok-counted.was c.if-report-bytes.false c.check_modules-2.new.buf c.check_modules-2.new.k c.check_modules-2.result (λ kept K. c.check_modules-2.ensures kept T (enough_same E c.check_modules.new.names c.check_modules.new.own c.check_modules.new.g c.check_modules.new.w c.check_modules.new.k c.check_modules.auto.names c.check_modules.auto.own c.check_modules.auto.g c.check_modules.auto.w (c.check_modules.auto.k ∙ c.reset.auto.k)) K) refl

pub returns-in_err-check_modules : goal.returns-in_err-check_modules
returns-in_err-check_modules c = λ T E. absurd (not_again (decode c.args.source.now.text.now) c.args.report.now c.check_modules.new.buf c.check_modules.new.k c.check_modules.result (c.check_modules.ensures [] T (enough_kept E c.reset.new.k c.reset.auto.k) (none_kept _ _ c.reset.ensures E.keeping)) c.in_ok-counted.was c.if-report-bytes.false c.check_modules-2.new.buf c.check_modules-2.new.k c.check_modules-2.result (λ kept K. c.check_modules-2.ensures kept T (enough_same E c.check_modules.new.names c.check_modules.new.own c.check_modules.new.g c.check_modules.new.w c.check_modules.new.k c.check_modules.auto.names c.check_modules.auto.own c.check_modules.auto.g c.check_modules.auto.w (c.check_modules.auto.k ∙ c.reset.auto.k)) K) c.in_err-check_modules.was)
