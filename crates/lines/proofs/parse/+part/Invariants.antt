use mathlib.Core.Path.{◌≡◌}
use lib.ListN.{length}
use Prim.Native.Nat.{◌-◌}
use Rattle.lines.specs.Parse.{scan, parts_at}
use Rattle.lines.proofs.parse.+part.Given as goal

abbrev pub decreases-part : goal.decreases-part
decreases-part l = l.depth

abbrev pub invariant-loop : goal.invariant-loop
invariant-loop l = parts_at (λ k j. scan (l.depth - 1) k l.s j) (length l.s) l.s l.initial.q l.initial.i l.initial.range ≡ parts_at (λ k j. scan (l.depth - 1) k l.s j) (length l.s - l.counter) l.s l.q l.i l.range
