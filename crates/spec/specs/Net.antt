-- What the signals of a graph calculate: states, rounds, rest.
-- To a reader: definitions to believe, and a statement, RestExactly, proved in proofs/Restless.
use Rattle.std.specs.Prelude.{ℕ, ◌≤◌, ◌≡◌, ◌↔◌, List, [], ◌∷◌, length, take}
use Rattle.spec.specs.Graph.{Graph, ◌∈◌, Once, Closed}

-- values of whatever set, and each signal's function, of the values of what it reads and of nothing else. 01: The edge, Rest.
pub record Net (G : Graph) : Type 1 where
  pub Value : G.Signal → Type 0
  pub new : (s : G.Signal) → ((r : G.Signal) → r ∈ G.reads s → Value r) → Value s

-- each signal once: all at once, or singly in any order that names each signal once. 01: The edge, Rest.
pub data Round (G : Graph) : Type 0 where
  together : Round G
  singly : (order : List G.Signal) → Once order → ((s : G.Signal) → s ∈ order ↔ s ∈ G.signals) → Round G

module _ {G : Graph} (N : Net G) where
  -- a value for each signal. 01: The edge, Rest.
  abbrev pub State : Type 0
  State = (s : G.Signal) → s ∈ G.signals → N.Value s

  -- what each signal's function gives in the state x. 01: The edge, Rest.
  abbrev pub gives : State → State
  gives x s i = N.new s (λ r m. x r (G.closed s r i m))

  -- the signal s recalculated from the values then standing. 01: The edge, Rest.
  unfoldable pub recalculate : G.Signal → State → State
  recalculate s x t i = elim (G.same t s) [ yes e ↦ gives x t i | no d ↦ x t i ]

  -- the signals of a list recalculated one after another. 01: The edge, Rest.
  unfoldable pub recalculate_each : List G.Signal → State → State
  recalculate_each [] x = x
  recalculate_each (s ∷ l) x = recalculate_each l (recalculate s x)

  -- the state after a round. 01: The edge, Rest.
  unfoldable pub round : Round G → State → State
  round together x = gives x
  round (singly order once all) x = recalculate_each order x

  -- the state after a list of rounds, each taking what the last left. 01: The edge, Rest.
  unfoldable pub rounds : List (Round G) → State → State
  rounds [] x = x
  rounds (r ∷ l) x = rounds l (round r x)

  -- each signal has what its function gives there. 01: The edge, Rest.
  abbrev pub Rests : State → Type 0
  Rests x = (s : G.Signal) (i : s ∈ G.signals) → x s i ≡ gives x s i

  -- two states give each signal the same value. 01: The edge, Rest.
  abbrev pub Agree : State → State → Type 0
  Agree x y = (s : G.Signal) (i : s ∈ G.signals) → x s i ≡ y s i

-- what the net N comes to: y rests, whatever rests is y, and from every start, of every list of rounds, y stands after each number of
-- rounds that is not below the number of signals, as far as the list goes. 01: The edge, Rest.
pub record EndsIn {G : Graph} (N : Net G) (y : State N) : Type 0 where
  pub rests : Rests N y
  pub only : (x : State N) → Rests N x → Agree N x y
  pub reached : (x : State N) (l : List (Round G)) (k : ℕ) → length G.signals ≤ k → k ≤ length l → Agree N (rounds N (take k l) x) y

-- for all values and functions there is one state that the net comes to. 01: The edge, Rest.
abbrev pub ComesToRest : Graph → Type 1
ComesToRest G = (N : Net G) → (y : State N) × EndsIn N y

-- a graph comes to rest exactly where it has no closed walk. 01: The edge, Rest.
abbrev pub RestExactly : Type 1
RestExactly = (G : Graph) → (ComesToRest G → ¬ Closed G) × (¬ Closed G → ComesToRest G)
