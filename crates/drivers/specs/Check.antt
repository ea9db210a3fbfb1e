-- The whole check over the lent slices: what a module's check needs of them, what it leaves, and the answer.
-- 01: The collected item; Refused because of the state; The report.
-- To a reader: definitions to believe (exit_of and slices, in check_drivers' promise; they only gather), and definitions that other contracts of this crate cite.
use Rattle.std.specs.Prelude.{◌≡◌, Bool, false, List, [], ◌∷◌, ℕ, ◌*◌, ◌≤◌, length, Result, Ok, Err}
use Rattle.std.proofs.Math.Option.{some}
use Rattle.std.proofs.Math.ListN.{get_elem?}
use Rattle.spec.specs.Bytes.{Bytes}
use Rattle.spec.specs.Syntax.{name_bound, Module}
use Rattle.spec.specs.Refusal.{decode}
use Rattle.spec.specs.Summary.{Kept}
use Rattle.spec.specs.Check.{Lent, Slice, Exit}
use Rattle.spec.specs.Check as check
use Rattle.lines.specs.Read.{fault_code}
use Rattle.lines.specs.declared.tables.ReadError.{ReadError}
use Rattle.lines.specs.declared.tables.ReadError.TheVariants.{Short, Refused}
use Rattle.graph.specs.Stands.{graph_places}
use Rattle.graph.specs.Cycles.{work_places, Roomy}
use Rattle.sites.specs.Own.{places}
use Rattle.walk.specs.Walk.{Got, full, going, Tally}
use Rattle.steps.specs.Modules.{name_places}
use Rattle.summary.specs.Keeps.{Keeps, kept_places}
use Rattle.collect.specs.Cycle.{Tabled}
use Rattle.drivers.specs.Emits.{Within, Emits}
use Rattle.drivers.specs.declared.emit.Place.{Place}
use Rattle.drivers.specs.declared.check.Checked.{Checked}
use Rattle.edges.specs.declared.Stop.{Stop}
use Rattle.drivers.specs.declared.check.Accepted.{Accepted}
use Rattle.drivers.specs.declared.check.Refusal.{Refusal}
use Rattle.drivers.specs.declared.check.Refusal.TheVariants.{Text, Limit, Room}
use Rattle.drivers.specs.declared.check.Answer.{Answer}

-- 01, Refused because of the state: what a module's check works on: `own` has just the places of its tables, the others theirs or more
pub record Enough (names own g w k : List ℕ) : Type 0 where
  pub named : name_places ≤ length names
  pub owned : length own ≡ places
  pub graphed : graph_places ≤ length g
  pub roomy : Roomy w
  pub keeping : kept_places ≤ length k

-- 01, Refused because of the state; The report: module x is number m of an accepted text, of which `kinds` and `mods` are the tables, the words k
-- hold the summaries kept so far, and the slices have places enough; what the others hold does not matter
pub record Checking (text kinds mods : List ℕ) (count m : ℕ) (names own g w k : List ℕ) (x : Module) (kept : Kept) : Type 0 where
  pub tabled : Tabled text kinds mods count
  pub enough : Enough names own g w k
  pub there : get_elem? (decode text) m ≡ some x
  pub keeps : Keeps k kept []

-- 01, The report: where the first report goes: the beginning of the buffer, with no report before
abbrev pub first_place : Place
first_place = record { at = 0; reports = 0 }

-- 01, Refused because of the state; The report: what the check of a module, or of several, leaves: its reports behind the place p, its rounds, and
-- the summaries kept; or a limit is passed or a constant is outside INT, and then, where p is a place of the buffer, one that is only counted for
-- is as it was, and one that is written is free, and so are the words k. The other tables are free in both cases: the whole call sets them to 0.
abbrev pub Tallied : Result Checked Stop → Bool → Bytes → Place → Bytes → List ℕ → Got Tally → Type 0
Tallied (Ok c) write old p new k x =
    (t : Tally) × (x ≡ going t) × Emits write old p t.reports new c.next × (c.rounds ≡ t.rounds) × Keeps k t.kept []
Tallied (Err e) write old p new k x = (x ≡ full) × (Within old p → write ≡ false → new ≡ old)

-- 01, The collected item: each module has 4,096 rounds: its check takes no more
abbrev pub FewRounds : Result Checked Stop → Type 0
FewRounds (Ok c) = c.rounds ≤ 4096
FewRounds (Err e) = Unit {0}

-- 01, Refused because of the state: the answer, with the report buffer at exit
abbrev pub answer_of : Answer → Bytes → check.Answer
answer_of a buffer = record { number = a.number; line = a.line; bytes_written = a.bytes; reports = a.reports; rounds = a.rounds; buffer = buffer }

-- 01, Refused because of the state: acceptance returns 0, bytes written, reports, and rounds
abbrev pub accepted : ℕ → ℕ → ℕ → Bytes → check.Answer
accepted written reports rounds buffer = record { number = 0; line = 0; bytes_written = written; reports = reports; rounds = rounds; buffer = buffer }

-- 01, Refused because of the state: a lent table that is too short for its limit is refused as the limit is
abbrev pub refusal_of : ReadError → Refusal
refusal_of Short = Limit
refusal_of (Refused r) = Text r

-- 01, Refused because of the text; Refused because of the state: what is answered of an accepted text, and a refusal with its number and its line:
-- those of the text's fault; 20; 21
abbrev pub answer_for : Result Accepted Refusal → Bytes → check.Answer
answer_for (Ok a) buffer = accepted a.bytes a.reports a.rounds buffer
answer_for (Err (Text r)) buffer = check.refuse (fault_code r.fault) r.line buffer
answer_for (Err Limit) buffer = check.refuse 20 0 buffer
answer_for (Err Room) buffer = check.refuse 21 0 buffer

-- 01, Refused because of the state: the seven working slices, each with the places that its limits ask for: a byte for each of 256 names of 32
-- modules; four words for each module; and what `steps`, `sites`, `graph` and `summary` say of theirs
abbrev pub served : {A B : Type 0} → (A → ℕ → B) → A → A → A → A → A → A → A → List B
served f kinds mods names own g w k =
    f kinds (32 * name_bound) ∷ f mods (32 * 4) ∷ f names name_places ∷ f own places ∷ f g graph_places ∷ f w work_places ∷ f k kept_places ∷ []

-- 01, Refused because of the state: how many places the seven have, each with the limit that it serves
abbrev pub lent_places : ℕ → ℕ → ℕ → ℕ → ℕ → ℕ → ℕ → List Lent
lent_places = served (λ n limit. record { places = n; limit = limit })

-- 01, Refused because of the state: the seven as they are lent, each with the limit that it serves
abbrev pub slices : List ℕ → List ℕ → List ℕ → List ℕ → List ℕ → List ℕ → List ℕ → List Slice
slices = served (λ s limit. record { held = s; limit = limit })

-- 01, Refused because of the state: what a call leaves: the answer, with the report buffer at exit, and the seven working slices
abbrev pub exit_of : Answer → Bytes → List ℕ → List ℕ → List ℕ → List ℕ → List ℕ → List ℕ → List ℕ → Exit
exit_of a buffer kinds mods names own g w k =
    record { answer = answer_of a buffer; working = kinds ∷ mods ∷ names ∷ own ∷ g ∷ w ∷ k ∷ [] }
