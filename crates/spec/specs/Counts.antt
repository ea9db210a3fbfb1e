-- What the limits count: nodes, different edges, pairs of name and block, each once. What every refusal returns.
-- 01: Refused because of the state.
-- To a reader: definitions to believe, and two statements, Counts and RefusalsKeep, proved in proofs/Counts.
use Rattle.std.specs.Prelude.{◌≡◌, ◌↔◌, ◌⊎◌, List, ℕ, ◌≤◌, length}
use Rattle.spec.specs.Bytes.{Bytes}
use Rattle.spec.specs.Syntax.{Header}
use Rattle.spec.specs.Collect.{Collected}
use Rattle.spec.specs.Block.{all_pairs, pairs}
use Rattle.spec.specs.DepthFirst.{each_once}
use Rattle.spec.specs.Edge.{Node, same_node, Head, all_nodes, edge_count}
use Rattle.spec.specs.Check.{refuse, Lent, check_drivers}
use Rattle.spec.specs.Graph.{◌∈◌, Once}

-- 01, Refused because of the state: l has each thing with P once and nothing else, so that its length is their number.
pub record Counted {A : Type 0} (P : A → Type 0) (l : List A) : Type 0 where
  pub once : Once l
  pub all : (a : A) → a ∈ l ↔ P a

-- 01, Refused because of the state: nodes (headed or read).
abbrev pub IsNode : List Head → Node → Type 0
IsNode hs n = (h : Head) × (h ∈ hs) × ((n ≡ h.node) ⊎ (n ∈ h.reads))

-- 01, Refused because of the state: different edges: from a node to what a line that heads it reads.
abbrev pub IsEdge : List Head → Node × Node → Type 0
IsEdge hs e = (h : Head) × (h ∈ hs) × (h.node ≡ e.0) × (e.1 ∈ h.reads)

-- 01, Refused because of the state: what is held against the limits on nodes, edges and pairs is their number, each counted once.
pub record Counts : Type 0 where
  pub nodes : (hs : List Head) → Counted (IsNode hs) (each_once same_node (all_nodes hs))
  pub edges : (hs : List Head) → (es : List (Node × Node)) × Counted (IsEdge hs) es × (edge_count hs ≡ length es)
  pub name_block_pairs : (hs : List Header) (cs : List Collected) → Counted (λ p. p ∈ all_pairs hs cs) (pairs hs cs)

-- 01, Refused because of the state: a refusal's number, and its line (from 1; 0 for 1, 20, 21).
pub data Numbered : ℕ → ℕ → Type 0 where
  too_long : Numbered 1 0
  in_line : (number line : ℕ) → 2 ≤ number → number ≤ 7 → 1 ≤ line → Numbered number line
  limit_passed : Numbered 20 0
  no_room : Numbered 21 0

-- 01, Refused because of the state: a refusal returns its number, its line and zeros, and the report buffer keeps its bytes: of every call
-- whose number is not 0.
abbrev pub RefusalsKeep : Type 0
RefusalsKeep =
    (working : List Lent) (text buffer : Bytes) → ¬ ((check_drivers working text buffer).number ≡ 0)
    → Numbered (check_drivers working text buffer).number (check_drivers working text buffer).line
    × (check_drivers working text buffer ≡ refuse (check_drivers working text buffer).number (check_drivers working text buffer).line buffer)
