-- What heading and reading leave of any words, also where the bytes show no line and the words stand for no graph.
-- 01: The line; The site; The edge; The walk; Refused because of the state; Worthless checks.
-- To a reader: definitions that contracts of this and other crates cite; each such contract is proved; OneWire, OneDrive and OneInst are statements,
-- proved in proofs/OneLaws (one_wire, one_drive, one_inst); check_drivers' own promise cites none of them.
use Rattle.std.specs.Prelude.{◌≡◌, Bool, true, false, ◌⊎◌, List, [], ◌∷◌, ℕ, ◌<◌, ◌≤◌, length, get_or, replicate, Ok}
use Rattle.spec.specs.Bytes.{Bytes}
use Rattle.spec.specs.Value.{Value, Names}
use Rattle.spec.specs.Edge.{Node, Reads, inst_out, Summary, index_of, has_output}
use Rattle.graph.specs.Table.{node_of}
use Rattle.graph.specs.Leaves.{NoPlace, HeadLeaves, ReadFull, ReadLeaves}
use Rattle.graph.specs.declared.Node as declared
use Rattle.graph.specs.declared.Node.TheVariants as nodes
use Rattle.edges.specs.Lines.{end_behind, number_at, name_end, module_end}
use Rattle.edges.specs.Total.{wire_reads, drive_lv, drive_reads, inst_reads}

-- 01, The edge; Worthless checks: the node `from` reads the nodes ns, one after the other, which takes the words g to g': each read leaves what
-- ReadLeaves says
abbrev pub ReadsLeave : ℕ → List Node → List ℕ → List ℕ → Type 0
ReadsLeave from [] g g' = g' ≡ g
ReadsLeave from (n ∷ ns) g g' = (m : declared.Node) × (node_of m ≡ n) × (i : ℕ) × (g₁ : List ℕ) × ReadLeaves (Ok i) g from m g₁ × ReadsLeave from ns g₁ g'

-- 01, Refused because of the state: reading one of the nodes ns, after those before it, is refused: the node or its edge is one too many
abbrev pub FullAmong : ℕ → List Node → List ℕ → Type 0
FullAmong from [] g = ⊥
FullAmong from (n ∷ ns) g =
    ((m : declared.Node) × (node_of m ≡ n) × ReadFull g from m)
    ⊎ ((m : declared.Node) × (node_of m ≡ n) × (i : ℕ) × (g₁ : List ℕ) × ReadLeaves (Ok i) g from m g₁ × FullAmong from ns g₁)

-- 01, Refused because of the state: reading q is refused: an index is outside INT, or a node or an edge is one too many
abbrev pub ReadsRefused : Reads → ℕ → List ℕ → Type 0
ReadsRefused q from g = (q.out ≡ true) ⊎ FullAmong from q.nodes g

-- 01, The edge; Refused because of the state; Worthless checks: what reading q leaves, by the answer: its nodes are read, and no index is outside INT
-- (true); or it is refused, and every word is 0
abbrev pub ReadsOrCleared : Bool → Reads → ℕ → List ℕ → List ℕ → Type 0
ReadsOrCleared true q from g g' = (q.out ≡ false) × ReadsLeave from q.nodes g g'
ReadsOrCleared false q from g g' = ReadsRefused q from g × (g' ≡ replicate (length g) 0)

-- 01, Refused because of the state: heading the node n at this START and then reading q is refused: n has no place; or it is headed, and reading is
-- refused
abbrev pub HeadRefused : Reads → List ℕ → declared.Node → ℕ → Type 0
HeadRefused q g n start = NoPlace g n ⊎ ((i : ℕ) × (g₁ : List ℕ) × HeadLeaves (Ok i) g n start g₁ × ReadsRefused q i g₁)

-- 01, The edge; The walk; Refused because of the state; Worthless checks: what heading the node n at this START and then reading q leave, by the
-- answer: the head's node i, which reads q; or it is refused, and every word is 0
abbrev pub HeadThenReads : Bool → Reads → List ℕ → declared.Node → ℕ → List ℕ → Type 0
HeadThenReads true q g n start g' = (i : ℕ) × (g₁ : List ℕ) × HeadLeaves (Ok i) g n start g₁ × ReadsOrCleared true q i g₁ g'
HeadThenReads false q g n start g' = HeadRefused q g n start × (g' ≡ replicate (length g) 0)

-- 01, The line: `(wire NAME E START)`: the number that stands at NAME, whatever the bytes are
unfoldable pub wire_name : Bytes → ℕ
wire_name x = number_at x 5 (end_behind x 5)

-- 01, The line: the number that stands at its START
unfoldable pub wire_start : Bytes → ℕ
wire_start x = let e = end_behind x (end_behind x 5) in number_at x e (end_behind x e)

-- 01, The line: `(lv NAME START ...)`: the number that stands at NAME
unfoldable pub drive_name : Bytes → ℕ
drive_name x = number_at (drive_lv x) 3 (end_behind (drive_lv x) 3)

-- 01, The line: the number that stands at its START
unfoldable pub drive_start : Bytes → ℕ
drive_start x = let b = end_behind (drive_lv x) 3 in number_at (drive_lv x) b (end_behind (drive_lv x) b)

-- 01, The line: `(inst NAME X MOD START C...)`: the number that stands at NAME
unfoldable pub inst_name : Bytes → ℕ
inst_name x = number_at x 5 (name_end x)

-- 01, The line: the number that stands at its START
unfoldable pub inst_start : Bytes → ℕ
inst_start x = number_at x (module_end x) (end_behind x (module_end x))

-- 01, The edge; The walk; Refused because of the state; Worthless checks: what a `wire` line leaves, whatever the bytes and words are: its NAME is
-- headed at its START and reads what its bytes read; or that is refused, and every word is 0
abbrev pub WireLeaves : Bool → Bytes → ℕ → List ℕ → Names → List ℕ → List ℕ → Type 0
WireLeaves r x d kinds names g g' = HeadThenReads r (wire_reads kinds names d x) g (nodes.Signal (wire_name x)) (wire_start x) g'

-- 01, The site; The edge; The walk; Refused because of the state; Worthless checks: what a `drive` line leaves in the same way: an output or a wire,
-- kinds 2 and 3 of the table, is headed and reads; of any other kind the words stay
pub record DriveLeaves (r : Bool) (x : Bytes) (d : ℕ) (kinds : List ℕ) (names : Names) (g g' : List ℕ) : Type 0 where
  pub driven : 2 ≤ get_or kinds (drive_name x) 0 → get_or kinds (drive_name x) 0 ≤ 3 → HeadThenReads r (drive_reads kinds names d x) g (nodes.Signal (drive_name x)) (drive_start x) g'
  pub other : (get_or kinds (drive_name x) 0 < 2) ⊎ (3 < get_or kinds (drive_name x) 0) → (r ≡ true) × (g' ≡ g)

-- 01, The edge: the outputs in a summary, each with its last pair
unfoldable pub outputs_in : Summary → List ℕ
outputs_in [] = []
outputs_in (p ∷ s) = elim (has_output p.0 s) [ true ↦ outputs_in s | false ↦ p.0 ∷ outputs_in s ]

-- 01, The edge; The walk: the node n is the output o of the NAME of an `inst` line, v being handed over as the value of its index
abbrev pub OutputOf : declared.Node → ℕ → Value → Bytes → Type 0
OutputOf n o v x = node_of n ≡ inst_out (inst_name x) (index_of v) o

-- 01, The edge; The walk; Refused because of the state; Worthless checks: what an `inst` line leaves by heading the output o: that output of its NAME
-- is headed at its START and reads q; or that is refused, and every word is 0
abbrev pub OutputLeaves : Bool → Reads → ℕ → Value → Bytes → List ℕ → List ℕ → Type 0
OutputLeaves r q o v x g g' = (n : declared.Node) × OutputOf n o v x × HeadThenReads r q g n (inst_start x) g'

-- 01, The edge; The walk; Worthless checks: the outputs os are headed so, one after the other, each reading what q says
abbrev pub OutputsLeave : (ℕ → Reads) → List ℕ → Value → Bytes → List ℕ → List ℕ → Type 0
OutputsLeave q [] v x g g' = g' ≡ g
OutputsLeave q (o ∷ os) v x g g' = (g₁ : List ℕ) × OutputLeaves true (q o) o v x g g₁ × OutputsLeave q os v x g₁ g'

-- 01, Refused because of the state: one of the outputs os, headed after those before it, is refused
abbrev pub OutputsRefused : (ℕ → Reads) → List ℕ → Value → Bytes → List ℕ → Type 0
OutputsRefused q [] v x g = ⊥
OutputsRefused q (o ∷ os) v x g =
    ((n : declared.Node) × OutputOf n o v x × HeadRefused (q o) g n (inst_start x)) ⊎ ((g₁ : List ℕ) × OutputLeaves true (q o) o v x g g₁ × OutputsRefused q os v x g₁)

-- 01, Refused because of the state; Worthless checks: what heading outputs leaves, by the answer
abbrev pub OutputsOrCleared : Bool → (ℕ → Reads) → List ℕ → Value → Bytes → List ℕ → List ℕ → Type 0
OutputsOrCleared true q os v x g g' = OutputsLeave q os v x g g'
OutputsOrCleared false q os v x g g' = OutputsRefused q os v x g × (g' ≡ replicate (length g) 0)

-- 01, The edge; The walk; Refused because of the state; Worthless checks: what an `inst` line leaves, whatever the bytes and words are, v being handed
-- over as the value of its index: every output in the summary s is headed, in the order of their last pairs, and reads what the line's bytes read for
-- it; or one of them is refused, and every word is 0
abbrev pub InstLeaves : Bool → Value → Summary → Bytes → ℕ → List ℕ → Names → List ℕ → List ℕ → Type 0
InstLeaves r v s x d kinds names g g' = OutputsOrCleared r (inst_reads kinds names s d x) (outputs_in s) v x g g'

-- 01, Worthless checks: a `wire` line leaves nothing free: whatever the bytes and words are, there is only one such answer, and only one such list of
-- words
abbrev pub OneWire : Bytes → ℕ → List ℕ → Names → List ℕ → Type 0
OneWire x d kinds names g = (r s : Bool) (g' g'' : List ℕ) → WireLeaves r x d kinds names g g' → WireLeaves s x d kinds names g g'' → (r ≡ s) × (g' ≡ g'')

-- 01, Worthless checks: and so of a `drive` line
abbrev pub OneDrive : Bytes → ℕ → List ℕ → Names → List ℕ → Type 0
OneDrive x d kinds names g = (r s : Bool) (g' g'' : List ℕ) → DriveLeaves r x d kinds names g g' → DriveLeaves s x d kinds names g g'' → (r ≡ s) × (g' ≡ g'')

-- 01, Worthless checks: and so of an `inst` line
abbrev pub OneInst : Value → Summary → Bytes → ℕ → List ℕ → Names → List ℕ → Type 0
OneInst v t x d kinds names g =
    (r s : Bool) (g' g'' : List ℕ) → InstLeaves r v t x d kinds names g g' → InstLeaves s v t x d kinds names g g'' → (r ≡ s) × (g' ≡ g'')
