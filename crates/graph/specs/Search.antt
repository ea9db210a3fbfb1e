-- The search for cycles on any words, also on words that are no state of a search: what a step gives and leaves, and what asking for a report does.
-- 01: The walk; Refused because of the state; Worthless checks.
-- To a reader: definitions that contracts of this and other crates cite; each such contract is proved; check_drivers' own promise cites none of them.
use Rattle.std.specs.Prelude.{true, false, List, ℕ, zero, suc, ◌+◌, get_or, set, eqb, ltb, Option, Some, None}
use Rattle.graph.specs.Table.{count, headed_at, target, link}
use Rattle.graph.specs.Cycles.{entered}
use Rattle.graph.specs.declared.Cycle.{Cycle}
use Rattle.graph.specs.declared.Step as S
use Rattle.graph.specs.declared.Step.TheVariants as steps

-- 01, The walk: the node r, taken as a root, is entered where it is headed and nothing was seen of it
unfoldable pub root_entered : List ℕ → List ℕ → ℕ → List ℕ
root_entered g w r = elim (eqb (headed_at g r) 0) [ true ↦ w | false ↦ elim (eqb (get_or w (2050 + r) 0) 0) [ true ↦ entered w r 0 | false ↦ w ] ]

-- 01, The walk; Refused because of the state: a step with an empty path: the next node in order is taken as a root; all is done where as many are taken
-- as there are nodes, or 512
unfoldable pub root_step : List ℕ → List ℕ → S.Step × List ℕ
root_step g w =
    let k = get_or w 3587 0 in
    elim (ltb k 512) [
      | true ↦ elim (ltb k (count g)) [ true ↦ (steps.Silent, root_entered g (set w 3587 (k + 1)) (get_or w (1538 + k) 0)) | false ↦ (steps.Done, w) ]
      | false ↦ (steps.Done, w)
    ]

-- 01, The walk; Refused because of the state: the node t comes next behind a path of d nodes, by what was seen of it: nothing, then it is entered, and all
-- is done where the path has no place for it; it is left, then nothing happens; or its place on the path, and that is a report
unfoldable pub met : List ℕ → ℕ → ℕ → ℕ → S.Step × List ℕ
met w d t zero = elim (ltb d 512) [ true ↦ (steps.Silent, entered w t d) | false ↦ (steps.Done, w) ]
met w d t (suc zero) = (steps.Silent, w)
met w d t (suc (suc p)) = (steps.Report p, w)

-- 01, The walk: a step from the node s, the last of d + 1, by its next edge: where there is none the node is left; else the edge before it comes next, and
-- its target is met
unfoldable pub node_step : List ℕ → ℕ → ℕ → ℕ → S.Step × List ℕ
node_step w d s zero = (steps.Silent, set (set w (2050 + s) 1) 3586 d)
node_step w d s (suc k) = let w' = set w (2562 + s) (link w 3590 k) in met w' (suc d) (target w 3590 k) (get_or w' (2050 + target w 3590 k) 0)

-- 01, The walk: a step by the length of the path
unfoldable pub path_step : List ℕ → List ℕ → ℕ → S.Step × List ℕ
path_step g w zero = root_step g w
path_step g w (suc d) = let s = get_or w (3074 + d) 0 in node_step w d s (get_or w (2562 + s) 0)

-- 01, The walk; Worthless checks: what a step of the search gives and leaves of any words
abbrev pub search_step : List ℕ → List ℕ → S.Step × List ℕ
search_step g w = path_step g w (get_or w 3586 0)

-- 01, The walk: what is done with a step that leaves these words and f steps more: no more reports; the next step; or a report of the path from p to its
-- end, for which the steps left are stored
abbrev pub after_step : (List ℕ → Option Cycle × List ℕ) → ℕ → S.Step → List ℕ → Option Cycle × List ℕ
after_step more f steps.Done w = (None, w)
after_step more f steps.Silent w = more w
after_step more f (steps.Report p) w = let w' = set w 3588 f in (Some (record { from = p; to = get_or w' 3586 0 }), w')

-- 01, The walk: the first report that at most f steps give, or that they give none, and what they leave
unfoldable pub searched : List ℕ → ℕ → List ℕ → Option Cycle × List ℕ
searched g zero w = (None, w)
searched g (suc f) w = after_step (searched g f) f (search_step g w).0 (search_step g w).1

-- 01, The walk; Worthless checks: what asking for the next report gives and leaves of any words: the search goes on for as many steps as are left
abbrev pub next_report : List ℕ → List ℕ → Option Cycle × List ℕ
next_report g w = searched g (get_or w 3588 0) w
