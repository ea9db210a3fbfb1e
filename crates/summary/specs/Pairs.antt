-- The pairs of a summary that is being made: each top-level output with the inputs that it reaches.
-- 01: The line; The edge; Refused because of the state; Worthless checks.
-- To a reader: definitions that contracts of this and other crates cite; each such contract is proved; check_drivers' own promise cites none of them.
use Rattle.std.specs.Prelude.{◌≡◌, Bool, true, false, List, [], ◌∷◌, ◌++◌, ℕ, zero, suc, ◌+◌, ◌-◌, ◌*◌, ◌≤◌, ◌<◌, length, drop, get_or, set, replicate, eqb, ltb, Option, Some, None}
use Rattle.spec.specs.Bytes.{Bytes, number}
use Rattle.spec.specs.Syntax.{Width, Item, port, output, Header}
use Rattle.spec.specs.Refusal.{has_name}
use Rattle.spec.specs.Graph.{◌∈◌, Once}
use Rattle.spec.specs.Site.{line_outputs}
use Rattle.spec.specs.Edge.{Head, Summary}
use Rattle.spec.specs.Summary.{triple_limit, inputs_reached, paired}
use Rattle.lines.specs.Parts.{piece, next_end}
use Rattle.runs.specs.Run.{form_length}
use Rattle.graph.specs.Stands.{Stands}
use Rattle.graph.specs.Reach.{Clean, found, reach_inputs}
use Rattle.edges.specs.Lines.{summary_at}
use Rattle.edges.specs.Reads.{KindsOf}
use Rattle.summary.specs.Keeps.{total_of, kept_places, recorded}

-- 01, The edge; Refused because of the state: the table k is k₀ with the pairs ps behind its own, 1,024 at most
pub record Grown (k₀ k : List ℕ) (ps : Summary) : Type 0 where
  pub sized : kept_places ≤ length k
  pub same : (i : ℕ) → i < 97 + 2 * total_of k₀ → ¬ (i ≡ 96) → get_or k i 0 ≡ get_or k₀ i 0
  pub total : total_of k ≡ total_of k₀ + length ps
  pub few : total_of k ≤ triple_limit
  pub pairs : summary_at k (97 + 2 * total_of k₀) (length ps) ≡ ps

-- 01, The edge; Worthless checks: the words with one pair more: it stands behind those that k counts, and is counted; nothing is stored past the end
unfoldable pub with_pair : List ℕ → ℕ × ℕ → List ℕ
with_pair k p = set (set (set k (97 + 2 * total_of k) p.0) (98 + 2 * total_of k) p.1) 96 (total_of k + 1)

-- 01, Refused because of the state; Worthless checks: pairs written into any words, one after the other, as long as they count fewer than 1,024: whether
-- all were written, and the words then
unfoldable pub pairs_written : Summary → List ℕ → Bool × List ℕ
pairs_written [] k = (true, k)
pairs_written (p ∷ ps) k = elim (ltb (total_of k) triple_limit) [ true ↦ pairs_written ps (with_pair k p) | false ↦ (false, k) ]

-- 01, The edge: the in-kind names that o reaches, each once, in some order
pub record Reaching (header : List Header) (heads : List Head) (o : ℕ) (is : List ℕ) : Type 0 where
  pub once : Once is
  pub found : (i : ℕ) → i ∈ is → i ∈ inputs_reached header heads o
  pub all : (i : ℕ) → i ∈ inputs_reached header heads o → i ∈ is

-- 01, The edge; Worthless checks: the pairs of the output o, whatever the words: with each name that the search for its inputs finds (Reach.reach_inputs,
-- at most 512), the last first; w is the work slice before the search
unfoldable pub output_pairs : (kinds g : List ℕ) → ℕ → List ℕ → Summary
output_pairs kinds g o w = let search = reach_inputs g kinds o w in paired o (found search.1 search.0)

-- 01, The edge; Worthless checks: the pairs of these outputs, in their order, whatever the words: each search begins with the work slice that the one
-- before leaves
unfoldable pub outputs_pairs : (kinds g : List ℕ) → List ℕ → List ℕ → Summary
outputs_pairs kinds g [] w = []
outputs_pairs kinds g (o ∷ os) w = output_pairs kinds g o w ++ outputs_pairs kinds g os (reach_inputs g kinds o w).1

-- 01, The edge; Worthless checks: what adding the output o to any words k gives and leaves: its pairs are written, and w' is the work slice that the
-- search leaves. There are at most 512 names; where the kinds and the graph stand for something, and the work slice w has room and no mark, they are
-- those of the inputs that o reaches, in some order, and no node is marked in w'
abbrev pub OutputLeaves : Bool → (kinds g w w' k : List ℕ) → ℕ → List ℕ → Type 0
OutputLeaves r kinds g w w' k o k' =
    (w' ≡ (reach_inputs g kinds o w).1) × (pairs_written (output_pairs kinds g o w) k ≡ (r, k'))
    × ((is : List ℕ) × (length is ≤ 512)
    × ((header : List Header) (heads : List Head) → KindsOf kinds header → Stands g heads → Clean w → Reaching header heads o is × Clean w')
    × (output_pairs kinds g o w ≡ paired o is))

-- 01, The edge; Worthless checks: ps are the pairs of these outputs, in their order, each with at most 512 names: those of the inputs that it reaches,
-- in some order, where the kinds and the graph stand for something
abbrev pub PairsOf : (kinds g : List ℕ) → List ℕ → Summary → Type 0
PairsOf kinds g [] ps = ps ≡ []
PairsOf kinds g (o ∷ os) ps =
    (is : List ℕ) × (rest : Summary) × (length is ≤ 512)
    × ((header : List Header) (heads : List Head) → KindsOf kinds header → Stands g heads → Reaching header heads o is)
    × PairsOf kinds g os rest × (ps ≡ paired o is ++ rest)

-- 01, The line: an item in any bytes by its word, its direction and its name: byte 1 is p, byte 6 is o, and the number behind byte 9 is at most 255
unfoldable pub port_of : Bytes → Option ℕ
port_of x =
    elim (eqb (get_or x 1 0) 112) [
      | true ↦ elim (eqb (get_or x 6 0) 111) [
        | true ↦ elim (ltb 255 (number (piece x 9 (next_end x 9)))) [ true ↦ None | false ↦ Some (number (piece x 9 (next_end x 9))) ]
        | false ↦ None
      ]
      | false ↦ None
    ]

-- 01, The line: the forms in any bytes read as a run from the byte at `from` on, one behind the other, at most so many
unfoldable pub forms_from : ℕ → Bytes → ℕ → List Bytes
forms_from zero s from = []
forms_from (suc n) s from =
    elim (ltb (from + 1) (length s)) [
      | true ↦ piece s from (from + 1 + form_length 0 (drop (from + 1) s)) ∷ forms_from n s (from + 1 + form_length 0 (drop (from + 1) s))
      | false ↦ []
    ]

-- 01, The edge: the name of a `port out` line before others
abbrev pub name_before : Option ℕ → List ℕ → List ℕ
name_before (Some n) l = n ∷ l
name_before None l = l

-- 01, The edge: the names of the `port out` lines among forms
unfoldable pub port_names : List Bytes → List ℕ
port_names [] = []
port_names (x ∷ xs) = name_before (port_of x) (port_names xs)

-- 01, The edge: names, each by the first time that it stands there, `seen` having those before
unfoldable pub first_names : List ℕ → List ℕ → List ℕ
first_names seen [] = []
first_names seen (n ∷ l) = elim (has_name n seen) [ true ↦ first_names seen l | false ↦ n ∷ first_names (n ∷ seen) l ]

-- 01, The edge: the outputs of a run in any bytes, each once, in the order of its first line
unfoldable pub outputs_of : Bytes → List ℕ
outputs_of s = first_names [] (port_names (forms_from (length s) s 0))

-- 01, The edge; Worthless checks: the pairs of the outputs of a run in any bytes: the first search begins with 1,538 words that are 0
unfoldable pub run_pairs : Bytes → (kinds g : List ℕ) → Summary
run_pairs s kinds g = outputs_pairs kinds g (outputs_of s) (replicate 1538 0)

-- 01, Worthless checks; Refused because of the state: what making the summary of module m leaves, whatever the run s and the words k stand for: the
-- pairs of the run's outputs are written, and module m is kept with just these; or one of them finds 1,024 or more counted, and then every place is
-- 0. So with no output the answer is true. Nothing is free. Besides, `PairsOf` holds of the pairs of all outputs, or of the first of them that are too many
abbrev pub Leaves : Bool → Bytes → (kinds g k : List ℕ) → ℕ → List ℕ → Type 0
Leaves true s kinds g k m k' =
    let written = pairs_written (run_pairs s kinds g) k in
    (written.0 ≡ true) × (k' ≡ recorded written.1 m (total_of k) (total_of written.1 - total_of k)) × PairsOf kinds g (outputs_of s) (run_pairs s kinds g)
Leaves false s kinds g k m k' =
    ((pairs_written (run_pairs s kinds g) k).0 ≡ false) × (k' ≡ replicate (length k) 0)
    × ((ps : Summary) × (w : List ℕ) × ((os later : List ℕ) × (outputs_of s ≡ os ++ later) × PairsOf kinds g os ps) × (pairs_written ps k ≡ (false, w)))

-- 01, The edge; Refused because of the state: the pairs qs are added behind ps, or there are too many
abbrev pub Added : Bool → List ℕ → List ℕ → Summary → Summary → Type 0
Added true k₀ k ps qs = Grown k₀ k (ps ++ qs)
Added false k₀ k ps qs = triple_limit < total_of k₀ + length (ps ++ qs)

-- 01, The edge; Refused because of the state: the pairs of the output o are added behind ps, or there are too many; no node is marked in the
-- work slice w
pub record OutputAdded (r : Bool) (w k₀ k : List ℕ) (ps : Summary) (header : List Header) (heads : List Head) (o : ℕ) : Type 0 where
  pub clean : Clean w
  pub inputs : List ℕ
  pub reaching : Reaching header heads o inputs
  pub added : Added r k₀ k ps (paired o inputs)

-- 01, The edge: an item: a `port out` line with that name, or one that makes no output
abbrev pub PortIs : Option ℕ → Item → Type 0
PortIs (Some n) i = (w : Width) × (start : ℕ) × (i ≡ port output n w start)
PortIs None i = line_outputs i ≡ []
