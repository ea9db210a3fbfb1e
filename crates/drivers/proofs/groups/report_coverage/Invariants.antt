use mathlib.Core.Path.{◌≡◌}
use mathlib.Core.List.{List}
use lib.ListN.{length}
use Rattle.spec.specs.Site.{Output}
use Rattle.consteval.specs.Worth.{names_of}
use Rattle.sites.specs.Own.{places, own_of}
use Rattle.items.specs.Held.{Ports}
use Rattle.drivers.proofs.CoverLaws.{Covering}
use Rattle.drivers.proofs.groups.report_coverage.Given as goal

abbrev pub invariant-loop-i : goal.invariant-loop-i
invariant-loop-i l = (length l.t.own.now ≡ places → (os : List Output) → Ports l.t.text.now (own_of l.t.own.now).outputs os → Covering l.t.text.now l.t.own.now (names_of l.t.names.now l.t.used) l.t.m l.n os l.i l.write l.initial.buf l.initial.q l.buf l.q) × (length l.buf ≡ length l.initial.buf)
