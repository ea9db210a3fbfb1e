use mathlib.Core.Path.{◌≡◌}
use Prim.Native.Nat.{ℕ, ◌-◌}
use Rattle.sites.specs.Own.{pair_from, row, run, pair_table}
use Rattle.spec.specs.Block.{has_pair}
use Rattle.sites.proofs.has_pair.Given as goal

abbrev pub invariant-loop-i : goal.invariant-loop-i
invariant-loop-i l = (has_pair (record { name = l.name; block = l.block }) (run (λ (j : ℕ). pair_from (row pair_table l.own j)) l.i (l.n - l.i)) ≡ has_pair (record { name = l.name; block = l.block }) (run (λ (j : ℕ). pair_from (row pair_table l.own j)) 0 l.n))
