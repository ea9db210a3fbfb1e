-- What collecting a module in its own check needs, and what it leaves. 01: Refused because of the text; Refused because of the state; The value; The
-- collected item; The site; The block; The edge; Worthless checks.
-- To a reader: definitions that the contracts of this crate cite; each such contract is proved; check_drivers' own promise cites none of them.
use Rattle.std.specs.Prelude.{◌≡◌, true, false, List, [], ℕ, ◌+◌, ◌/◌, ◌≤◌, length, Result, Ok, Err}
use Rattle.std.proofs.Math.Option.{some}
use Rattle.std.proofs.Math.ListN.{get_elem?}
use Rattle.spec.specs.Syntax.{Module}
use Rattle.spec.specs.Decode.{depth_limit}
use Rattle.spec.specs.Refusal.{decode}
use Rattle.spec.specs.Value.{own_vals, name_table}
use Rattle.spec.specs.Summary.{Kept}
use Rattle.spec.specs.Cleared.{Cleared, ByNumber}
use Rattle.consteval.specs.Worth.{names_of}
use Rattle.graph.specs.Stands.{graph_places, Stands}
use Rattle.graph.specs.Cycles as graphs
use Rattle.sites.specs.Own.{places}
use Rattle.walk.specs.Walk.{Got, full, going, Walked, walked, State, no_own}
use Rattle.steps.specs.Modules.{name_places, named_by, table_by}
use Rattle.items.specs.Held.{Held}
use Rattle.items.specs.Lines.{emptied}
use Rattle.summary.specs.Keeps.{Keeps}
use Rattle.collect.specs.declared.Collected.{Collected}
use Rattle.edges.specs.declared.Stop.{Stop}
use Rattle.collect.specs.Cycle.{Tabled, Holding, mode, LinesAdded, HeadsAdded, Framed}

-- 01, Refused because of the state: module x is number m of an accepted text; `own` has just the places of its tables, and names, graph and
-- summaries have theirs or more; the words k hold the summaries kept so far, and what the others hold does not matter
pub record ModuleGiven (text kinds mods : List ℕ) (count m : ℕ) (names own g k : List ℕ) (x : Module) (kept : Kept) : Type 0 where
  pub tabled : Tabled text kinds mods count
  pub there : get_elem? (decode text) m ≡ some x
  pub named : name_places ≤ length names
  pub owned : length own ≡ places
  pub graphed : graph_places ≤ length g
  pub keeps : Keeps k kept []

-- 01, Refused because of the state: the number that the whole check gives where a module is full; 0 where there is none yet
abbrev pub number_of : Result Collected Stop → ℕ
number_of (Ok r) = 0
number_of (Err e) = 20

-- 01, The collected item: of the 4,096 rounds, those that are left; 0 where the module is full
abbrev pub left_of : Result Collected Stop → ℕ
left_of (Ok r) = r.left
left_of (Err e) = 0

-- 01, The value: how many names the module's table has; 0 where the module is full
abbrev pub used_of : Result Collected Stop → ℕ
used_of (Ok r) = r.used
used_of (Err e) = 0

-- 01, The value; The collected item; The site; The block; The edge: the module's name table, the rounds left, and the state of the walk, which the
-- words hold: own tables, graph and summaries; or the walk is full. Free are which number a node has, the order of edges and of the pairs of a
-- summary, and the words that stand for nothing: behind the names in use; of the graph behind its nodes and edges, and what a node has no use for; of
-- the summaries behind the pairs, and of modules that are not kept. Where the number is 0 `LentAfter` says more of them: those of the own tables behind
-- their counts, and in the table of conflicts, stay as they were, and those of graph and summaries are only written as lines write them.
abbrev pub Collects : Result Collected Stop → (text names own g k : List ℕ) → Module → Got (Walked State) → Type 0
Collects r text names own g k x y =
    ByNumber (number_of r)
    ((st : State) × (y ≡ going (walked (left_of r) st)) × Holding (mode true x.bound) text own g k [] st × (names_of names (used_of r) ≡ (name_table (own_vals x) x).names))
    (y ≡ full)

-- 01, The value; Refused because of the state: where the number is not 20 the names in use are those that filling the table from the lines of module m
-- gives; else every place is 0
abbrev pub NamesAfter : Result Collected Stop → (text mods : List ℕ) → ℕ → (names names' : List ℕ) → Type 0
NamesAfter r text mods m names names' =
    ByNumber (number_of r) ((named_by text mods m names ≡ Ok (used_of r)) × Framed (used_of r) (table_by text mods m names) names') (Cleared names')

-- 01, Refused because of the text: 1 over 32,768 bytes, 7 a 33rd module: an answer of 0 is only given of at most 32,768 bytes and 32 modules
abbrev pub Walkable : (number : ℕ) → (text : List ℕ) → (count : ℕ) → Type 0
Walkable number text count = ByNumber number ((length text ≤ 32768) × (count ≤ 32)) (Unit {0})

-- 01, Worthless checks; Refused because of the state: what every slice that is lent to be written becomes, whatever it held: it keeps its length,
-- and where the number is 20 each place of it is 0. Where it is 0 the counts of the own tables are made 0, and then rows are added to them, as lines
-- add them; the graph is emptied, and then heads are added to it and summaries made, as lines do it. Where `ModuleGiven` does not hold, free are:
-- whether the number is 20, but for what `NamesAfter` and `Walkable` say; the rounds left, 4,096 at most; which lines these are, that is their bytes,
-- kinds, names, depth, place in the text and whether the module is bound; which modules are summarised or not known, by any number. Where it holds,
-- `Collects` says these. The words behind the names in use are always free.
pub record LentAfter (r : Result Collected Stop) (text mods : List ℕ) (count m : ℕ) (names own g k names' own' g' k' : List ℕ) : Type 0 where
  pub sizes : (length names' ≡ length names) × (length own' ≡ length own) × (length g' ≡ length g) × (length k' ≡ length k)
  pub named : NamesAfter r text mods m names names'
  pub cleared : number_of r ≡ 20 → Cleared own' × Cleared g' × Cleared k'
  pub owned : number_of r ≡ 0 → LinesAdded (emptied own) own'
  pub headed : number_of r ≡ 0 → HeadsAdded (graphs.emptied g) k g' k'
  pub walkable : Walkable (number_of r) text count

-- 01, The collected item: where the walk over the items of module x begins: its name table stands, with room for the variables of open repeats, and
-- its tables are empty
pub record WalkGiven (text kinds mods : List ℕ) (count m : ℕ) (names : List ℕ) (used : ℕ) (own g k : List ℕ) (x : Module) (kept : Kept) : Type 0 where
  pub tabled : Tabled text kinds mods count
  pub there : get_elem? (decode text) m ≡ some x
  pub inside : (name_table (own_vals x) x).out ≡ false
  pub named : names_of names used ≡ (name_table (own_vals x) x).names
  pub room : used + depth_limit ≤ length names / 2
  pub held : Held text own no_own
  pub stands : Stands g []
  pub keeps : Keeps k kept []
