-- Finite graphs of signals, with no text in them: what a signal reads, walks along reads, closed walks.
-- To a reader: definitions to believe.
use Rattle.std.specs.Prelude.{◌≡◌}
use mathlib.Core.List.{List, [], ◌∷◌, Memᴰ}

infix 50 ◌∈◌
-- a is a member of l. 01: The edge.
abbrev pub ◌∈◌ : {A : Type 0} → A → List A → Type 0
a ∈ l = Memᴰ a l

-- no member stands twice. 01: The edge, Rest (each signal once).
abbrev pub Once : {A : Type 0} → List A → Type 0
Once [] = Unit {0}
Once (a ∷ l) = ¬ (a ∈ l) × Once l

-- each step of n ∷ l goes from a node to one that it reads. 01: The edge, Rest.
abbrev pub Chain : {A : Type 0} → (A → List A) → A → List A → Type 0
Chain reads n [] = Unit {0}
Chain reads n (m ∷ l) = (m ∈ reads n) × Chain reads m l

-- the last node of n ∷ l. 01: The edge, Rest.
abbrev pub last : {A : Type 0} → A → List A → A
last n [] = n
last n (m ∷ l) = last m l

-- one step or more, each from a node to one that it reads, ending at the first node. 01: The edge, Rest.
abbrev pub ClosedWalk : {A : Type 0} → (A → List A) → List A → Type 0
ClosedWalk reads [] = ⊥
ClosedWalk reads (n ∷ []) = ⊥
ClosedWalk reads (n ∷ m ∷ l) = Chain reads n (m ∷ l) × (last m l ≡ n)

-- finitely many signals, listed once each, and what each reads, which is listed too. 01: The edge, Rest.
pub record Graph : Type 1 where
  pub Signal : Type 0
  pub same : (s t : Signal) → Dec (s ≡ t)
  pub signals : List Signal
  pub once : Once signals
  pub reads : Signal → List Signal
  pub closed : (s r : Signal) → s ∈ signals → r ∈ reads s → r ∈ signals

-- a closed walk of the graph. 01: The edge, Rest.
pub record Closed (G : Graph) : Type 0 where
  pub start : G.Signal
  pub listed : start ∈ G.signals
  pub second : G.Signal
  pub rest : List G.Signal
  pub walk : ClosedWalk G.reads (start ∷ second ∷ rest)
