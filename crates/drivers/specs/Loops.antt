-- Loop reports as the code writes them: from the path that the search leaves in the work slice. 01: The walk; The report.
-- To a reader: definitions that the contracts of this crate cite; each such contract is proved; check_drivers' own promise cites none of them.
use Rattle.std.specs.Prelude.{List, [], ◌∷◌, ◌++◌, map, ℕ, ◌+◌, ◌-◌, get_or}
use Rattle.spec.specs.Bytes.{Bytes}
use Rattle.spec.specs.Edge.{Node}
use Rattle.spec.specs.Report.{Report, loop_report, show_node}
use Rattle.graph.specs.Table.{node_at, start_at}
use Rattle.graph.specs.Cycles.{words_from}

-- 01, The report: a space and a node
unfoldable pub node_bytes : Node → Bytes
node_bytes n = 32 ∷ show_node n

-- 01, The report: the nodes of the path from one place to before another, and then the node i
abbrev pub path_nodes : List ℕ → List ℕ → ℕ → ℕ → ℕ → List Node
path_nodes g w from to i = map (node_at g) (words_from w 3074 from (to - from) ++ i ∷ [])

-- 01, The walk; The report: the report of the path from one place to before another, and its first node again, at that node's START
abbrev pub path_report : ℕ → List ℕ → List ℕ → ℕ → ℕ → Report
path_report m g w from to = loop_report m (start_at g (get_or w (3074 + from) 0)) (path_nodes g w from to (get_or w (3074 + from) 0))
