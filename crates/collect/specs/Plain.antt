-- What a collected line leaves, without the items that it holds and the summary that it asks for. 01: The site; The block; The edge; The walk;
-- Refused because of the state; Worthless checks.
-- To a reader: definitions that the contracts of this crate cite; each such contract is proved; check_drivers' own promise cites none of them.
use Rattle.std.specs.Prelude.{◌≡◌, Bool, true, false, List, [], ℕ}
use Rattle.spec.specs.Bytes.{Bytes}
use Rattle.spec.specs.Syntax.{Item, Header}
use Rattle.spec.specs.Value.{Value, Names}
use Rattle.spec.specs.Cleared.{Cleared}
use Rattle.spec.specs.Edge.{Head, Summary, line_heads}
use Rattle.graph.specs.Stands.{Stands}
use Rattle.edges.specs.Reads.{KindsOf, HeadAll}
use Rattle.edges.specs.Leaves as edges
use Rattle.runs.specs.Run.{ShowsItem}
use Rattle.steps.specs.Steps.{plain}
use Rattle.items.specs.Lines.{StandsAt}
use Rattle.walk.specs.Walk.{Own}
use Rattle.collect.specs.Cycle.{OwnIs, OwnKept, HeadsAdded, PlainEnds, mode}

-- 01, The edge: what it heads and reads
abbrev pub LineHeads : Bool → Bytes → ℕ → List ℕ → Names → List ℕ → List ℕ → Type 0
LineHeads r x d ks names g g' =
    (i : Item) → ShowsItem x d i → plain i ≡ true → (header : List Header) → KindsOf ks header → (hs : List Head) → Stands g hs
    → HeadAll r g' hs (line_heads header names [] i)

-- 01, The site; The block; The edge: its entries too
abbrev pub PlainLine : Bool → Bytes → ℕ → ℕ → List ℕ → Bool → Bool → Names → List ℕ → List ℕ → List ℕ → List ℕ → Type 0
PlainLine r x from d ks checking bound names own g own' g' =
    (text : Bytes) (i : Item) → ShowsItem x d i → plain i ≡ true → StandsAt text from x → (header : List Header) → KindsOf ks header
    → (o : Own) → OwnIs checking text own o → (hs : List Head) → Stands g hs → PlainEnds r (mode checking bound) text own' g' header names i o hs

-- 01, The edge; The walk; Refused because of the state; Worthless checks: the graph, whatever was lent: where a limit is passed or an index is outside
-- INT (false) every place is 0; else heads are added as lines add them, whatever summaries are kept
abbrev pub HeadsLeave : Bool → (g g' : List ℕ) → Type 0
HeadsLeave true g g' = (k : List ℕ) → HeadsAdded g k g' k
HeadsLeave false g g' = Cleared g'

-- 01, Refused because of the state; Worthless checks: the tables, whatever was lent: where a limit is passed or a constant is outside INT (false) every
-- place is 0; else `OwnKept` and `HeadsLeave` are what is said with no condition
abbrev pub PlainLeaves : Bool → Bool → (own own' g g' : List ℕ) → Type 0
PlainLeaves true checking own own' g g' = OwnKept checking own own' × HeadsLeave true g g'
PlainLeaves false checking own own' g g' = Cleared own' × Cleared g'

-- 01, The edge; The walk; Refused because of the state; Worthless checks: the outputs of an instance are headed as the line's bytes say, and leave the
-- summaries as they are; where a limit is passed or an index is outside INT, every place of graph and summaries is 0
abbrev pub InstLeaves : Bool → Value → Summary → Bytes → ℕ → List ℕ → Names → (g g' k k' : List ℕ) → Type 0
InstLeaves true v s x d ks names g g' k k' = edges.InstLeaves true v s x d ks names g g' × (k' ≡ k)
InstLeaves false v s x d ks names g g' k k' = Cleared g' × Cleared k'
