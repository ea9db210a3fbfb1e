-- What a search for closed walks is to find, with no text in it: reached nodes, orders, closed walks, and their final steps.
-- To a reader: definitions to believe, and a statement, FindsLoops, proved of the search in proofs/DepthFirst.
use Rattle.std.specs.Prelude.{◌≡◌, Bool, true, false, ◌&&◌, ◌↔◌, ◌⊎◌, List, [], ◌∷◌, ◌++◌}
use Rattle.std.proofs.Math.Option.{Option, some, none}
use Rattle.spec.specs.Graph.{◌∈◌, Once, Chain, last, ClosedWalk}
use Rattle.spec.specs.DepthFirst.{Searched, among}

-- n is reached from a root, in any number of steps. 01: The walk.
abbrev pub Reached : {A : Type 0} → (A → List A) → List A → A → Type 0
Reached {A} next roots n = (r : A) × (l : List A) × (r ∈ roots) × Chain next r l × (last r l ≡ n)

-- all the next nodes of each stand behind it. 01: The walk.
abbrev pub Topological : {A : Type 0} → (A → List A) → List A → Type 0
Topological next [] = Unit {0}
Topological next (n ∷ l) = ((m : _) → m ∈ next n → m ∈ l) × Topological next l

-- past its first node a walk names no node twice. 01: The walk.
abbrev pub Simple : {A : Type 0} → List A → Type 0
Simple [] = Unit {0}
Simple (n ∷ l) = Once l

-- the final step of a walk: from its last node but one to its last; none where it has no step. Of a reported walk it is the back edge that
-- the search came by. 02: U8.
unfoldable pub final_step : {A : Type 0} → List A → Option (A × A)
final_step [] = none
final_step (a ∷ []) = none
final_step (a ∷ b ∷ []) = some (a, b)
final_step (a ∷ b ∷ c ∷ l) = final_step (b ∷ c ∷ l)

-- the final steps of walks, in their order. 02: U8.
unfoldable pub final_steps : {A : Type 0} → List (List A) → List (A × A)
final_steps [] = []
final_steps (w ∷ ws) = elim (final_step w) [ none ↦ final_steps ws | some s ↦ s ∷ final_steps ws ]

-- the members of a list but for those of which p is true. 02: U8.
unfoldable pub remove_if : {A : Type 0} → (A → Bool) → List A → List A
remove_if p [] = []
remove_if p (a ∷ l) = elim (p a) [ true ↦ remove_if p l | false ↦ a ∷ remove_if p l ]

module _ {A : Type 0} (same : A → A → Bool) where
  -- the same step. 02: U8.
  abbrev pub same_step : A × A → A × A → Bool
  same_step s t = same s.0 t.0 && same s.1 t.1

  -- a graph without these steps: what is next to n, but for each m of which the step from n to m is one of these. 02: U8.
  abbrev pub cut : List (A × A) → (A → List A) → A → List A
  cut steps next n = remove_if (λ m. among same_step (n, m) steps) (next n)

-- the nodes left are those reached, each once; without the final steps of reports they stand in order; each report is a closed walk through
-- reached nodes. The others follow: with no report the nodes left stand in order; without the final steps no closed walk passes a reached
-- node; and there is no report exactly where none does. 01: The walk; 02: U8.
pub record FindsLoops {A : Type 0} (same : A → A → Bool) (next : A → List A) (roots : List A) (found : Searched A) : Type 0 where
  pub all : (n : A) → n ∈ found.left ↔ Reached next roots n
  pub once : Once found.left
  pub order : Topological (cut same (final_steps found.reports) next) found.left
  pub walks : (w : List A) → w ∈ found.reports → ClosedWalk next w × Simple w × ((n : A) → n ∈ w → Reached next roots n)
  pub silent_order : found.reports ≡ [] → Topological next found.left
  pub none_left : (w : List A) (n : A) → ClosedWalk (cut same (final_steps found.reports) next) w → n ∈ w → ¬ Reached next roots n
  pub none : found.reports ≡ [] ↔ ((w : List A) (n : A) → ClosedWalk next w → n ∈ w → ¬ Reached next roots n)

-- a walk goes from u to v in one of its steps. 01: The walk.
abbrev pub Goes : {A : Type 0} → List A → A → A → Type 0
Goes [] u v = ⊥
Goes (a ∷ []) u v = ⊥
Goes (a ∷ b ∷ l) u v = ((u ≡ a) × (v ≡ b)) ⊎ Goes (b ∷ l) u v

-- every two stand in this relation, the earlier to the later. 01: The report (order).
abbrev pub InOrder : {A : Type 0} → (A → A → Type 0) → List A → Type 0
InOrder R [] = Unit {0}
InOrder {A} R (a ∷ l) = ((b : A) → b ∈ l → R a b) × InOrder R l

-- a stands before b in l. 01: The report (order).
pub record StandsBefore {A : Type 0} (l : List A) (a b : A) : Type 0 where
  pub front : List A
  pub back : List A
  pub parted : l ≡ front ++ a ∷ back
  pub behind : b ∈ back
