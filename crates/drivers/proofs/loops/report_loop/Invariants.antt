use mathlib.Core.Path.{◌≡◌}
use lib.ListN.{length}
use Rattle.drivers.proofs.LoopLaws.{left_bytes, Lining}
use Rattle.drivers.proofs.loops.report_loop.Given as goal

abbrev pub invariant-loop-i : goal.invariant-loop-i
invariant-loop-i l = Lining l.write l.initial.buf l.initial.q (left_bytes l.g l.w l.initial.i l.to l.first) (left_bytes l.g l.w l.i l.to l.first) l.buf l.q × (length l.buf ≡ length l.initial.buf)
