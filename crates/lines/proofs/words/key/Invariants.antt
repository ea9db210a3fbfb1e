use Rattle.lines.specs.Words.{key}
use Rattle.lines.proofs.WordLaws.{key_limit}
use lib.ListN.{length, drop}
use mathlib.Core.Path.{◌≡◌}
use Prim.Native.Nat.{◌-◌, ◌≤◌, ◌<◌}
use Rattle.lines.proofs.words.key.Given as goal

abbrev pub invariant-loop-i : goal.invariant-loop-i
invariant-loop-i l = (l.i ≤ length l.w) × (l.k ≡ key (drop l.i l.w)) × (l.k < key_limit (length l.w - l.i))
