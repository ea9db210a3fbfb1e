-- What the walk over a module's items needs of the text, and what it leaves. 01: The line; The collected item; The site; The block; The edge; The walk;
-- Refused because of the state; Worthless checks.
-- To a reader: definitions that contracts of this and other crates cite; each such contract is proved; check_drivers' own promise cites none of them.
use Rattle.std.specs.Prelude.{◌≡◌, Bool, true, false, ◌⊎◌, List, [], ℕ, ◌+◌, ◌/◌, ◌≤◌, ◌<◌, length, take, drop, get_or, set, replicate, Result, Ok, Err}
use Rattle.spec.specs.Bytes.{Bytes}
use Rattle.spec.specs.Syntax.{Item, Items, Header}
use Rattle.spec.specs.Refusal.{refusal, well_formed, decode}
use Rattle.spec.specs.Cleared.{Cleared, ByNumber}
use Rattle.spec.specs.Value.{Names}
use Rattle.spec.specs.Edge.{Head, Summary}
use Rattle.spec.specs.Summary.{Kept}
use Rattle.consteval.specs.Worth.{signed}
use Rattle.lines.specs.Tables.{put_kinds, put_mods}
use Rattle.graph.specs.Stands.{Stands}
use Rattle.sites.specs.Own.{added}
use Rattle.sites.specs.Stored as stored
use Rattle.edges.specs.Lines.{inst_index, inst_module}
use Rattle.edges.specs.Reads.{KindsOf}
use Rattle.edges.specs.Leaves.{WireLeaves, DriveLeaves, InstLeaves}
use Rattle.runs.specs.Run.{ShowsItem, RunOf}
use Rattle.walk.specs.Walk.{Got, full, going, then_go, Walked, walked, walk_rounds, walk_inner, Own, over_own, State, Walking, Answered, Asking, line_step, walk_items, ask_walk}
use Rattle.walk.specs.Alike.{Alike}
use Rattle.items.specs.Held.{Held}
use Rattle.items.specs.Added.{line_added}
use Rattle.summary.specs.Keeps.{Keeps, pairs_of}
use Rattle.summary.specs.Pairs.{Leaves}
use Rattle.steps.specs.Steps.{HeadIs}
use Rattle.edges.specs.declared.Stop.{Stop}
use Rattle.steps.specs.declared.Head as H

-- 01, The line: the text is accepted, and the tables are those that its reader leaves
pub record Tabled (text kinds mods : List ℕ) (count : ℕ) : Type 0 where
  pub formed : refusal text ≡ well_formed
  pub modules : count ≡ length (decode text)
  pub kinds_fit : 8192 ≤ length kinds
  pub mods_fit : 128 ≤ length mods
  pub kinds_are : kinds ≡ put_kinds 0 (decode text) (replicate (length kinds) 0)
  pub mods_are : mods ≡ put_mods 0 0 (decode text) (replicate (length mods) 0)

-- 01, The line: the bytes s stand in the text at `base`
pub record PartOf (text : Bytes) (base : ℕ) (s : Bytes) : Type 0 where
  pub inside : base + length s ≤ length text
  pub same : s ≡ take (length s) (drop base text)

-- 01, The site; The block: the own tables, in a module's own check; a summary's walk has none
abbrev pub OwnIs : Bool → Bytes → List ℕ → Own → Type 0
OwnIs true text own o = Held text own o × (over_own o ≡ false)
OwnIs false text own o = Unit {0}

-- 01, The collected item; The edge: what the words stand for where a walk begins: the header of the module, the items to go through, the state, the
-- modules being summarised
pub record World : Type 0 where
  pub header : List Header
  pub items : Items
  pub state : State
  pub busy : List ℕ

-- 01, The collected item; The edge: the same for one item
pub record Single : Type 0 where
  pub header : List Header
  pub item : Item
  pub state : State
  pub busy : List ℕ

-- 01, The edge: which walk it is, a module's own check or a summary's; and whether the module is bound
pub record Mode : Type 0 where
  pub own : Bool
  pub bound : Bool

-- 01, The edge: the same, by its parts
abbrev pub mode : Bool → Bool → Mode
mode own bound = record { own = own; bound = bound }

-- 01, The edge: a walk of a module with this header
abbrev pub walking_of : Mode → List Header → Walking
walking_of mo header = record { own = mo.own; bound = mo.bound; header = header }

-- 01, The site; The block; The edge: the words hold a state
pub record Holding (mo : Mode) (text own g k : List ℕ) (busy : List ℕ) (st : State) : Type 0 where
  pub owned : OwnIs mo.own text own st.own
  pub stands : Stands g st.heads
  pub keeps : Keeps k st.kept busy

-- 01, The collected item: what is given where a run of items is walked
pub record Given (mo : Mode) (text kinds mods : List ℕ) (count : ℕ) (s : Bytes) (base depth : ℕ) (ks names : List ℕ) (used : ℕ) (own g k : List ℕ) (w : World) : Type 0 where
  pub tabled : Tabled text kinds mods count
  pub run : RunOf depth s w.items
  pub part : PartOf text base s
  pub told : KindsOf ks w.header
  pub room : used + depth ≤ length names / 2
  pub holding : Holding mo text own g k w.busy w.state

-- 01, The collected item: and where one item is: h says which one
pub record OneGiven (h : H.Head) (mo : Mode) (text kinds mods : List ℕ) (count : ℕ) (x : Bytes) (from depth : ℕ) (ks names : List ℕ) (used : ℕ) (own g k : List ℕ) (w : Single) : Type 0 where
  pub tabled : Tabled text kinds mods count
  pub shows : ShowsItem x depth w.item
  pub head : HeadIs h w.item
  pub part : PartOf text from x
  pub told : KindsOf ks w.header
  pub room : used + depth ≤ length names / 2
  pub holding : Holding mo text own g k w.busy w.state

-- 01, The site; The block; The edge: the step at a collected line
abbrev pub step_of : ℕ → Bytes → Mode → List Header → List ℕ → Names → Item → State → Got State
step_of fuel text mo header busy = line_step (ask_walk fuel (decode text) busy) (walking_of mo header)

-- 01, The collected item: the walk over items
abbrev pub walk_of : ℕ → Bytes → Mode → World → Names → ℕ → Got (Walked State)
walk_of fuel text mo w names left = walk_items w.items (step_of fuel text mo w.header w.busy) names left w.state

-- 01, The collected item: the walk over one item: its line, then what it holds
abbrev pub one_of : ℕ → Bytes → Mode → Single → Names → ℕ → Got (Walked State)
one_of fuel text mo w names left =
    then_go (step_of fuel text mo w.header w.busy names w.item w.state) (λ st. walk_inner w.item (step_of fuel text mo w.header w.busy) names left st)

-- 01, The collected item: the walk over the rounds, spent already, of a repeat that holds these items; its variable n has the values from that of the
-- word `low` on
abbrev pub turns_of : ℕ → Bytes → Mode → World → (n low rounds : ℕ) → Names → ℕ → Got (Walked State)
turns_of fuel text mo w n low rounds names left =
    walk_rounds (λ names' left' st. walk_items w.items (step_of fuel text mo w.header w.busy) names' left' st) n (signed low) rounds names left w.state

-- 01, Refused because of the state: the number that the whole check gives where a walk is full; 0 where it goes on
abbrev pub walk_number : Result ℕ Stop → ℕ
walk_number (Ok l) = 0
walk_number (Err e) = 20

-- 01, The collected item: of the rounds, those that a walk leaves; 0 where it is full
abbrev pub rounds_left : Result ℕ Stop → ℕ
rounds_left (Ok l) = l
rounds_left (Err e) = 0

-- 01, The collected item; Refused because of the state: what a walk leaves: the rounds left and the state, or it is full
abbrev pub Ends : Result ℕ Stop → Mode → (text own g k : List ℕ) → List ℕ → Got (Walked State) → Type 0
Ends r mo text own g k busy x =
    ByNumber (walk_number r) ((st : State) × (x ≡ going (walked (rounds_left r) st)) × Holding mo text own g k busy st) (x ≡ full)

-- 01, The collected item: the rounds left never grow
abbrev pub RoundsWithin : Result ℕ Stop → ℕ → Type 0
RoundsWithin (Ok l) left = l ≤ left
RoundsWithin (Err e) left = Unit {0}

-- 01, The site; The block; Worthless checks: own' comes of own by rows added as lines add them, of whatever bytes, kinds and values, one after the
-- other; every other word stays
pub data LinesAdded (own : List ℕ) : List ℕ → Type 0 where
  none : LinesAdded own own
  line : (own₁ own₂ : List ℕ) (x : Bytes) (base : ℕ) (bound : Bool) (d : ℕ) (kinds : List ℕ) (names : Names) → LinesAdded own own₁
      → line_added x base bound d kinds names own₁ ≡ added stored.Done own₂ → LinesAdded own own₂

-- 01, Worthless checks: what every lent byte becomes where a walk is not full: in a module's own check (true) rows are added to the own tables, as
-- lines add them; a summary's walk (false) has none, and the words in their place stay
abbrev pub OwnKept : Bool → (own own' : List ℕ) → Type 0
OwnKept true own own' = LinesAdded own own'
OwnKept false own own' = own' ≡ own

-- 01, The edge; Worthless checks: s is what an `inst` line x knows of its module: nothing, or the pairs that the table of summaries k has for it
abbrev pub KnownOf : Summary → Bytes → List ℕ → Type 0
KnownOf s x k = (s ≡ []) ⊎ (s ≡ pairs_of k (inst_module x))

-- 01, The edge; The walk; Worthless checks: the graph g and the summaries k become g' and k' by heads added as lines add them and by summaries made, one
-- after the other. An `inst` line has the index that its bytes give. A summary is made so: the word of module m says that it is in progress; a graph of
-- its own, of 16,898 words that are 0, gets heads in the same way; then the pairs of the outputs of a run are kept by that graph. Every other word
-- stays. Free is which bytes are read, with which kinds, names and depth; of which module an `inst` line knows nothing; which module is summarised, which
-- may be any number, and its state before; and an index outside INT counts as none here.
pub data HeadsAdded : (g k g' k' : List ℕ) → Type 0 where
  none : {g k : List ℕ} → HeadsAdded g k g k
  wire : {g k g₁ k₁ g₂ : List ℕ} (x : Bytes) (d : ℕ) (kinds : List ℕ) (names : Names) → HeadsAdded g k g₁ k₁ → WireLeaves true x d kinds names g₁ g₂ → HeadsAdded g k g₂ k₁
  drive : {g k g₁ k₁ g₂ : List ℕ} (x : Bytes) (d : ℕ) (kinds : List ℕ) (names : Names) → HeadsAdded g k g₁ k₁ → DriveLeaves true x d kinds names g₁ g₂ → HeadsAdded g k g₂ k₁
  inst : {g k g₁ k₁ g₂ : List ℕ} (x : Bytes) (d : ℕ) (kinds : List ℕ) (names : Names) (s : Summary) → HeadsAdded g k g₁ k₁ → KnownOf s x k₁
      → InstLeaves true (inst_index x d names) s x d kinds names g₁ g₂ → HeadsAdded g k g₂ k₁
  summary : {g k g₁ k₁ h k₂ k₃ : List ℕ} (m : ℕ) (run : Bytes) (kinds : List ℕ) → HeadsAdded g k g₁ k₁ → HeadsAdded (replicate 16898 0) (set k₁ m 1) h k₂
      → Leaves true run kinds h k₂ m k₃ → HeadsAdded g k g₁ k₃

-- 01, Refused because of the state; Worthless checks: the tables that a walk fills, whatever was lent: where it is full every place is 0; where it is
-- not, `OwnKept` and `HeadsAdded` are what is said with no condition, and `Ends` says the rest
abbrev pub WalkLeaves : Result ℕ Stop → Bool → (own own' g g' k k' : List ℕ) → Type 0
WalkLeaves r checking own own' g g' k k' = ByNumber (walk_number r) (OwnKept checking own own' × HeadsAdded g k g' k') (Cleared own' × Cleared g' × Cleared k')

-- 01, The collected item: the variable's old value returns afterwards: the names that are used stay as they are, full or not; what stands behind them
-- is free
pub record Framed (used : ℕ) (old new : List ℕ) : Type 0 where
  pub size : length new ≡ length old
  pub same : (i : ℕ) → i < used + used → get_or new i 0 ≡ get_or old i 0

-- 01, The edge; Refused because of the state: what an instance line leaves
abbrev pub Stepped : Bool → Mode → (text own g k : List ℕ) → List ℕ → Got State → Type 0
Stepped true mo text own g k busy x = (st : State) × (x ≡ going st) × Holding mo text own g k busy st
Stepped false mo text own g k busy x = x ≡ full

-- 01, The site; The block; The edge: a state, by its parts
abbrev pub state_of : Own → List Head → Kept → State
state_of o hs kept = record { own = o; heads = hs; kept = kept }

-- 01, The site; The block; The edge: what a line that holds no items and asks for nothing leaves, whatever is kept
abbrev pub PlainEnds : Bool → Mode → (text own g : List ℕ) → List Header → Names → Item → Own → List Head → Type 0
PlainEnds true mo text own g header names i o hs =
    (o' : Own) × (hs' : List Head)
    × ((ask : Asking) (kept : Kept) → line_step ask (walking_of mo header) names i (state_of o hs kept) ≡ going (state_of o' hs' kept))
    × OwnIs mo.own text own o' × Stands g hs'
PlainEnds false mo text own g header names i o hs = (ask : Asking) (kept : Kept) → line_step ask (walking_of mo header) names i (state_of o hs kept) ≡ full

-- 01, The edge; Refused because of the state: what asking for the summary of module m leaves: it is empty and not kept, its pairs stand in the table,
-- or a limit is passed or a constant is outside INT
abbrev pub AskedFor : Result Bool Stop → List ℕ → ℕ → List ℕ → Got Answered → Type 0
AskedFor (Ok false) k m busy x = (a : Answered) × (x ≡ going a) × (a.summary ≡ []) × Keeps k a.kept busy
AskedFor (Ok true) k m busy x = (a : Answered) × (x ≡ going a) × Alike (pairs_of k m) a.summary × Keeps k a.kept busy × (m < 32)
AskedFor (Err e) k m busy x = x ≡ full

-- 01, Refused because of the state: the number that the whole check gives where a summary asked for is not made, since a limit is passed or a constant is
-- outside INT; else 0
abbrev pub asked_number : Result Bool Stop → ℕ
asked_number (Ok b) = 0
asked_number (Err e) = 20

-- 01, The edge; Refused because of the state; Worthless checks: the table of summaries, whatever was lent: where a limit is passed or a constant is
-- outside INT every place is 0; else summaries are made, which leaves the graph of the one who asks as it is
abbrev pub AskLeaves : Result Bool Stop → (k k' : List ℕ) → Type 0
AskLeaves r k k' = ByNumber (asked_number r) ((g : List ℕ) → HeadsAdded g k g k') (Cleared k')

-- 01, The edge; The walk; Refused because of the state; Worthless checks: what an instance line leaves in the same way: where a limit is passed or a
-- constant is outside INT (false) every place of graph and summaries is 0; else heads are added and summaries made
abbrev pub EdgesLeave : Bool → (g g' k k' : List ℕ) → Type 0
EdgesLeave true g g' k k' = HeadsAdded g k g' k'
EdgesLeave false g g' k k' = Cleared g' × Cleared k'
