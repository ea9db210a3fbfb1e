use Rattle.lines.proofs.Laws.{cap}
use Rattle.lines.specs.Parse.{word_from, word_at}
use mathlib.Core.Path.{◌≡◌}
use Prim.Native.Nat.{◌-◌, ◌<◌, ◌≤◌}
use Rattle.lines.proofs.parse.word_at.Given as goal

abbrev pub invariant-loop-k : goal.invariant-loop-k
invariant-loop-k l = (l.k ≤ 8) × (l.code < cap l.k) × (word_at l.s l.at ≡ word_from (8 - l.k) l.s l.i l.code l.k)
