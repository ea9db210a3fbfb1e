use Rattle.report.proofs.Laws.{Digits}
use Rattle.report.proofs.write_number.Given as goal

abbrev pub invariant-loop-i : goal.invariant-loop-i
invariant-loop-i l = Digits l.initial.buf l.buf l.at l.n l.i l.m
