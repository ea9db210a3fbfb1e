-- What holds while the lines are read, at the start of each: the reader's loop. 01: Refused because of the text.
-- Assumes nothing: these are definitions.
use mathlib.Core.Path.{◌≡◌}
use mathlib.Core.Bool.{Bool, true, not}
use mathlib.Core.List.{List}
use Prim.Native.Nat.{ℕ, ◌+◌, ◌≤◌, ◌<◌}
use lib.Dec.{eqb}
use lib.ListN.{length, get_or, drop}
use Rattle.spec.specs.Bytes.{Bytes}
use Rattle.spec.specs.Syntax.{name_bound}
use Rattle.spec.specs.Refusal.{lines, ends_in_feed, at_start, has_name, lines_fault}
use Rattle.lines.specs.Verdict.{modules_in}

-- 01, Refused because of the text: what holds at the start of line n, which begins at `at`: the lines from there on give what all lines give; `seen`
-- has the names that have a kind in the last module
pub record Going (t : Bytes) (at n modules : ℕ) (items : Bool) (seen : List ℕ) : Type 0 where
  pub kinds : List ℕ
  pub verdict : lines_fault at_start 1 (lines t) ≡ lines_fault (record { modules = modules; has_item = items; kinds = kinds }) n (lines (drop at t))
  pub count : modules_in (lines t) ≡ modules + modules_in (lines (drop at t))
  pub agree : (k : ℕ) → k < name_bound → eqb (get_or seen k 0) 0 ≡ not (has_name k kinds)
  pub ends : ends_in_feed (drop at t) ≡ true
  pub few : modules ≤ 32
  pub within : at ≤ length t
  pub early : n ≤ at + 1
