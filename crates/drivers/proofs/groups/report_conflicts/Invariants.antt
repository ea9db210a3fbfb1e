use mathlib.Core.Path.{◌≡◌}
use lib.ListN.{length}
use Rattle.sites.specs.Own.{places}
use Rattle.drivers.proofs.EmitLaws.{Emitting}
use Rattle.drivers.proofs.GroupLaws.{conflicts_left}
use Rattle.drivers.proofs.groups.report_conflicts.Given as goal

abbrev pub invariant-loop-i : goal.invariant-loop-i
invariant-loop-i l = (length l.t.own.now ≡ places → Emitting l.write l.initial.buf l.initial.q (conflicts_left l.t.own.now l.t.m l.n l.initial.i) (conflicts_left l.t.own.now l.t.m l.n l.i) l.buf l.q) × (length l.buf ≡ length l.initial.buf)
