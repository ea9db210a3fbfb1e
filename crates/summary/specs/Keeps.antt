-- The table of summaries as the code holds it. 01: The edge; Refused because of the state.
-- To a reader: definitions that contracts of this and other crates cite; each such contract is proved; Says is a statement, proved in
-- proofs/Table (state_says); check_drivers' own promise needs only kept_places.
use Rattle.std.specs.Prelude.{◌≡◌, Bool, true, false, List, ◌∷◌, ℕ, zero, suc, ◌+◌, ◌*◌, ◌≤◌, ◌<◌, length, get_or, set, ltb}
use Rattle.std.proofs.Math.Option.{some, none}
use Rattle.spec.specs.Syntax.{Module}
use Rattle.spec.specs.Refusal.{has_name}
use Rattle.spec.specs.Edge.{Head, Summary}
use Rattle.spec.specs.Summary.{Kept, kept_summary, triples, triple_limit, module_summary}
use Rattle.graph.specs.Cycles.{zeroed}
use Rattle.edges.specs.Lines.{summary_at}
use Rattle.walk.specs.Alike.{Alike}
use Rattle.summary.specs.declared.State as S
use Rattle.summary.specs.declared.State.TheVariants as states

-- 01, The edge: words of the table: 32 of each: state of a module (0 neither kept nor in progress, 1 in progress, else kept), the
-- number of its first pair, how many it has; then the number of all pairs; then the pairs, an output and an input each, 1,024 of them.

-- 01, The edge: the word that says the state of module m
abbrev pub state_word : List ℕ → ℕ → ℕ
state_word k m = get_or k m 0

-- 01, The edge: the number of the first pair of module m
abbrev pub start_of : List ℕ → ℕ → ℕ
start_of k m = get_or k (32 + m) 0

-- 01, The edge: how many pairs module m has
abbrev pub count_of : List ℕ → ℕ → ℕ
count_of k m = get_or k (64 + m) 0

-- 01, Refused because of the state: summary triples in all: the number of all pairs
abbrev pub total_of : List ℕ → ℕ
total_of k = get_or k 96 0

-- 01, Refused because of the state: the places of the table: three for each of 32 modules, one for the number of all pairs, two for
-- each of 1,024 pairs
abbrev pub kept_places : ℕ
kept_places = 97 + 2 * 1024

-- 01, The edge: the word at which the pairs of module m begin
abbrev pub first_of : List ℕ → ℕ → ℕ
first_of k m = 97 + 2 * start_of k m

-- 01, The edge: the pairs of module m
abbrev pub pairs_of : List ℕ → ℕ → Summary
pairs_of k m = summary_at k (first_of k m) (count_of k m)

-- 01, The edge: the state that a word says: 0 neither kept nor in progress, 1 in progress, any other kept
abbrev pub state_by : ℕ → S.State
state_by zero = states.New
state_by (suc zero) = states.Busy
state_by (suc (suc n)) = states.Kept

-- 01, The edge: the state of module m by its word, which is 0 past the end of the table
abbrev pub state_of : List ℕ → ℕ → S.State
state_of k m = state_by (state_word k m)

-- 01, The edge: what the state of module m says: no summary of it is kept and it is not in progress, it is in progress and none is
-- kept, or the table has its summary (`Alike`) and it is not in progress
abbrev pub Says : S.State → List ℕ → ℕ → Kept → List ℕ → Type 0
Says states.New k m kept busy = (kept_summary kept m ≡ none) × (has_name m busy ≡ false)
Says states.Busy k m kept busy = (kept_summary kept m ≡ none) × (has_name m busy ≡ true)
Says states.Kept k m kept busy = (s : Summary) × (kept_summary kept m ≡ some s) × Alike (pairs_of k m) s × (has_name m busy ≡ false)

-- 01, The edge: the state by its word; the pairs of a summary that is kept are among those counted
abbrev pub StateIs : ℕ → List ℕ → ℕ → Kept → List ℕ → Type 0
StateIs zero k m kept busy = Says states.New k m kept busy
StateIs (suc zero) k m kept busy = Says states.Busy k m kept busy
StateIs (suc (suc n)) k m kept busy = Says states.Kept k m kept busy × (start_of k m + count_of k m ≤ total_of k)

-- 01, The edge; Refused because of the state: the words k hold the summaries that are kept, 1,024 triples at most, and say which
-- modules are in progress
pub record Keeps (k : List ℕ) (kept : Kept) (busy : List ℕ) : Type 0 where
  pub sized : kept_places ≤ length k
  pub each : (m : ℕ) → m < 32 → StateIs (state_word k m) k m kept busy
  pub total : total_of k ≡ triples kept
  pub few : triples kept ≤ triple_limit

-- 01, The edge: before the first summary is asked for: the states and then the number of all pairs are 0, and every other word stays
abbrev pub emptied : List ℕ → List ℕ
emptied k = set (zeroed 0 32 k) 96 0

-- 01, The edge: module m is kept, with so many pairs from that number on
unfoldable pub recorded : List ℕ → ℕ → ℕ → ℕ → List ℕ
recorded k m start count = set (set (set k (32 + m) start) (64 + m) count) m 2

-- 01, The edge; Refused because of the state: what making the summary of module m leaves, once its heads are known: it is kept, and m
-- is no longer in progress; or there are too many triples
abbrev pub Made : Bool → List ℕ → ℕ → Module → List Head → Kept → List ℕ → Type 0
Made true k m M heads kept busy = Keeps k ((m, module_summary M heads) ∷ kept) busy
Made false k m M heads kept busy = ltb triple_limit (triples ((m, module_summary M heads) ∷ kept)) ≡ true
