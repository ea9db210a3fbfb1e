use mathlib.Core.Path.{◌≡◌}
use Prim.Native.Nat.{◌+◌, ◌-◌, ◌≤◌}
use Rattle.sites.specs.Own.{run, own_of}
use Rattle.spec.specs.Block.{block_count}
use Rattle.sites.proofs.Coverage.{pair_at}
use Rattle.sites.proofs.block_count.Given as goal

abbrev pub invariant-loop-i : goal.invariant-loop-i
invariant-loop-i l = (l.k ≤ l.i) × (l.k + block_count l.name (run (pair_at l.own l.name) l.i (l.n - l.i)) ≡ block_count l.name (own_of l.own).pairs)
