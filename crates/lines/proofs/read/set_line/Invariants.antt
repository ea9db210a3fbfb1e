use Rattle.spec.specs.Refusal.{byte_fault}
use Rattle.spec.specs.Reading.{feeds}
use lib.ListN.{drop}
use Prim.Native.Nat.{suc, ◌+◌, ◌≤◌}
use mathlib.Core.Path.{◌≡◌}
use Rattle.lines.proofs.read.set_line.Given as goal

abbrev pub invariant-loop-b : goal.invariant-loop-b
invariant-loop-b l = (l.n ≤ l.b-index + 1) × (byte_fault 1 l.s ≡ byte_fault l.n (drop l.b-index l.s)) × (suc (feeds l.s) ≡ l.n + feeds (drop l.b-index l.s))
