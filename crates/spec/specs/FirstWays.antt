-- Which walks a search reports and in which order, said of the ways from the roots, with no search in it. 01: The walk.
-- To a reader: definitions to believe, and a statement, ByWays, proved of the search in proofs/FirstWays.
use Rattle.std.specs.Prelude.{◌≡◌, ◌↔◌, List, [], ◌∷◌, ◌++◌}
use Rattle.spec.specs.Graph.{◌∈◌, Once}
use Rattle.spec.specs.DepthFirst.{backwards}
use Rattle.spec.specs.DepthFirstFinds.{InOrder, StandsBefore}

module _ {A : Type 0} (next : A → List A) (roots : List A) where
  -- a way from a root to n; behind n its nodes, the last first. 01: The walk.
  abbrev pub Way : A → List A → Type 0
  Way n [] = n ∈ roots
  Way n (p ∷ l) = (n ∈ next p) × Way p l

  -- behind one way m is taken before n: roots as they ascend, next nodes last first. 01: The walk.
  abbrev pub TakenBefore : List A → A → A → Type 0
  TakenBefore [] m n = StandsBefore roots m n
  TakenBefore (p ∷ l) m n = StandsBefore (next p) n m

  -- of two ways (the last node first) the one is sooner: where they part its node is taken before the other's. 01: The walk.
  pub record Sooner (a b : List A) : Type 0 where
    pub common : List A
    pub one : A
    pub other : A
    pub one_on : List A
    pub other_on : List A
    pub first : a ≡ one_on ++ one ∷ common
    pub second : b ≡ other_on ++ other ∷ common
    pub taken : TakenBefore common one other

  -- no node is entered a second time: n is entered by the soonest of its ways with no node twice. 01: The walk.
  pub record FirstWay (n : A) (l : List A) : Type 0 where
    pub way : Way n l
    pub once : Once (n ∷ l)
    pub soonest : (k : List A) → Way n k → Once (n ∷ k) → ¬ Sooner (n ∷ k) (n ∷ l)

  -- each step onto the open path is a report: from u, entered by its first way, to v on that way; the walk goes from v along the way, and
  -- to v again. 01: The walk.
  pub record Closes (w : List A) (v u : A) (l : List A) : Type 0 where
    pub entered : FirstWay u l
    pub onto : v ∈ next u
    pub front : List A
    pub back : List A
    pub parted : u ∷ l ≡ front ++ v ∷ back
    pub walk : w ≡ v ∷ backwards front ++ (v ∷ [])

  -- a walk that is reported. 01: The walk.
  abbrev pub Reported : List A → Type 0
  Reported w = (v : A) × (u : A) × (l : List A) × Closes w v u l

  -- the walk a is reported before the walk b: its way and last step are sooner. 01: The walk.
  pub record ReportedBefore (a b : List A) : Type 0 where
    pub v : A
    pub u : A
    pub l : List A
    pub v' : A
    pub u' : A
    pub l' : List A
    pub closes : Closes a v u l
    pub closes' : Closes b v' u' l'
    pub sooner : Sooner (v ∷ u ∷ l) (v' ∷ u' ∷ l')

  -- the walks of these steps, each once, in order. 01: The walk.
  pub record ByWays (walks : List (List A)) : Type 0 where
    pub exactly : (w : List A) → w ∈ walks ↔ Reported w
    pub once : Once walks
    pub order : InOrder ReportedBefore walks
