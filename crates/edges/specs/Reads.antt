-- What reading leaves in the graph of a module: the reads of an expression behind those that the head has already, or a limit passed or
-- an index outside INT. 01: The line; The edge; Refused because of the state.
-- To a reader: definitions that contracts of this and other crates cite; each such contract is proved; check_drivers' own promise cites none of them.
use Rattle.std.specs.Prelude.{◌≡◌, Bool, true, false, ◌||◌, List, [], ◌∷◌, ◌++◌, ℕ, zero, suc, get_or}
use Rattle.std.proofs.Math.Option.{Option, some, none}
use Rattle.spec.specs.Syntax.{Kind, in_kind, out_kind, wire_kind, reg_kind, mem_kind, inst_kind, Header}
use Rattle.spec.specs.Site.{kind_of}
use Rattle.spec.specs.Edge.{Node, Reads, Head, Heads, over_graph}
use Rattle.graph.specs.Stands.{Stands, Heading, head_of}

-- 01, The line: K being in, out, wire, reg, mem or inst: what a byte of the table of kinds says
abbrev pub kind_word : ℕ → Option Kind
kind_word zero = none
kind_word (suc zero) = some in_kind
kind_word (suc (suc zero)) = some out_kind
kind_word (suc (suc (suc zero))) = some wire_kind
kind_word (suc (suc (suc (suc zero)))) = some reg_kind
kind_word (suc (suc (suc (suc (suc zero))))) = some mem_kind
kind_word (suc (suc (suc (suc (suc (suc n)))))) = some inst_kind

-- 01, The line: a module's table of kinds, a byte for each name, says what its header says
abbrev pub KindsOf : List ℕ → List Header → Type 0
KindsOf kinds hs = (n : ℕ) → kind_word (get_or kinds n 0) ≡ kind_of hs n

-- 01, The edge; Refused because of the state: reading q leaves the graph g: the head n, which read rs before, reads q too (true); or an
-- index was outside INT, or a limit is passed
abbrev pub ReadAll : Bool → List ℕ → List Head → Node → ℕ → List Node → ℕ → Reads → Type 0
ReadAll true g hs n start rs i q = Heading g hs n start (rs ++ q.nodes) i × (q.out ≡ false)
ReadAll false g hs n start rs i q = q.out || over_graph (hs ++ head_of n start (rs ++ q.nodes) ∷ []) ≡ true

-- 01, The edge; Refused because of the state: a whole line's heads leave the graph g; or an index was outside INT, or a limit is
-- passed
abbrev pub HeadAll : Bool → List ℕ → List Head → Heads → Type 0
HeadAll true g hs h = Stands g (hs ++ h.heads) × (h.out ≡ false)
HeadAll false g hs h = h.out || over_graph (hs ++ h.heads) ≡ true
