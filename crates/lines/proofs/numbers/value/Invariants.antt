use Rattle.spec.specs.Bytes.{number, number_after}
use lib.ListN.{drop}
use mathlib.Core.Path.{◌≡◌}
use Prim.Native.Nat.{◌<◌}
use Rattle.lines.proofs.numbers.value.Given as goal

abbrev pub invariant-loop-c : goal.invariant-loop-c
invariant-loop-c l = (l.a < 4294967296) × (number l.s ≡ number_after l.a (drop l.c-index l.s))
