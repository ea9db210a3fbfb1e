use mathlib.Core.Path.{◌≡◌}
use lib.ListN.{length}
use Rattle.sites.specs.Own.{places}
use Rattle.drivers.specs.Groups.{report_by, table_by}
use Rattle.drivers.proofs.EmitLaws.{Emitting}
use Rattle.drivers.proofs.GroupLaws.{storage_left}
use Rattle.drivers.proofs.groups.report_blocks.Given as goal

abbrev pub invariant-loop-i : goal.invariant-loop-i
invariant-loop-i l = (length l.t.own.now ≡ places → Emitting l.write l.initial.buf l.initial.q (storage_left (report_by l.kind l.t.m) (table_by l.kind) l.t.own.now l.n l.initial.i) (storage_left (report_by l.kind l.t.m) (table_by l.kind) l.t.own.now l.n l.i) l.buf l.q) × (length l.buf ≡ length l.initial.buf)
