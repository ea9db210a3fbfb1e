-- Modules in order, one law for each way of the loop. Assumes nothing.
use mathlib.Core.Path.{◌≡◌, refl, sym, ap, ap₂, ◌∙◌, subst}
use mathlib.Core.Bool.{Bool}
use mathlib.Core.List.{List, [], ◌∷◌, ◌++◌, append_assoc, append-nil}
use mathlib.Core.Option.{some}
use Prim.Native.Nat.{ℕ, zero, suc, ◌+◌, ◌≤◌, ◌<◌}
use native.Mathlib.Omega.{arith}
use native.Mathlib.Numerals.{add-one}
use lib.ListN.{length, drop, get_elem?, drop_of_length-le}
use Rattle.spec.specs.Bytes.{Bytes}
use Rattle.spec.specs.Syntax.{Module, Design}
use Rattle.spec.specs.Refusal.{decode}
use Rattle.spec.specs.Summary.{Kept}
use Rattle.spec.specs.Report.{Report}
use Rattle.lines.proofs.Said.{says}
use Rattle.walk.specs.Walk.{Got, full, going, then_go, Tally, check_one, check_all}
use Rattle.summary.specs.Keeps.{Keeps}
use Rattle.collect.specs.Cycle.{Tabled}
use Rattle.drivers.specs.Emits.{Emits}
use Rattle.drivers.specs.Check.{Enough, Checking, Tallied, FewRounds, first_place}
use Rattle.drivers.specs.declared.emit.Place.{Place}
use Rattle.drivers.specs.declared.check.Checked.{Checked}
use Rattle.edges.specs.declared.Stop.{Stop}
use Rattle.std.specs.Prelude.{Result, Ok, Err, IsErr}
use Rattle.drivers.proofs.Handed.{handed_on}
use Rattle.drivers.proofs.EmitLaws.{appended_within, emit_none, emit_then}

-- an accepted text has at most 32 modules
few_modules : {text kinds mods : List ℕ} {count : ℕ} → Tabled text kinds mods count → count ≤ 32
few_modules {text} T = let f = (says text 8192 128 T.formed (omega arith) (omega arith)).few in omega (arith, T.modules)

pub not_more : {text kinds mods : List ℕ} {count : ℕ} → 32 < count → Tabled text kinds mods count → ⊥
not_more h T = omega (arith, few_modules T)

-- slices of the same lengths serve as well
pub enough_same : {names own g w k : List ℕ} → Enough names own g w k → (names' own' g' w' k' : List ℕ) → length names' ≡ length names → length own' ≡ length own
    → length g' ≡ length g → length w' ≡ length w → length k' ≡ length k → Enough names' own' g' w' k'
enough_same E names' own' g' w' k' a b c d e =
    let n = E.named in
    let g = E.graphed in
    let w = E.roomy in
    let k = E.keeping in
    record { named = omega arith; owned = b ∙ E.owned; graphed = omega arith; roomy = omega arith; keeping = omega arith }

-- so do other words for the summaries
pub enough_kept : {names own g w k : List ℕ} → Enough names own g w k → (k' : List ℕ) → length k' ≡ length k → Enough names own g w k'
enough_kept {names} {own} {g} {w} E k' e = enough_same E names own g w k' refl refl refl refl e

-- the rounds of a module
pub few_taken : (r : Result Checked Stop) {one : Checked} → FewRounds r → r ≡ Ok one → one.rounds ≤ 4096
few_taken r f e = subst FewRounds e f

-- ---- what comes behind some reports and rounds

abbrev tally : List Report → ℕ → Kept → Tally
tally rs n kept = record { reports = rs; rounds = n; kept = kept }

abbrev behind : List Report → ℕ → Got Tally → Got Tally
behind rs n y = then_go y (λ b. going (tally (rs ++ b.reports) (n + b.rounds) b.kept))

behind_none : (y : Got Tally) → y ≡ behind [] 0 y
behind_none full = refl
behind_none (going b) = let e : b.rounds ≡ 0 + b.rounds = omega arith in ap (λ (n : ℕ). going (tally b.reports n b.kept)) e

behind_more : (rs xs : List Report) (n i : ℕ) (y : Got Tally) → behind rs n (behind xs i y) ≡ behind (rs ++ xs) (n + i) y
behind_more rs xs n i full = refl
behind_more rs xs n i (going b) =
    let e : n + (i + b.rounds) ≡ n + i + b.rounds = omega arith in
    ap₂ (λ (l : List Report) (j : ℕ). going (tally l j b.kept)) (sym (append_assoc rs xs b.reports)) e

module _ (d : Design) (kept : Kept) (m : ℕ) (x : Module) (ks : List Module) where
  all_full : check_one d kept m x ≡ full → check_all d kept m (x ∷ ks) ≡ full
  unfolding check_all
  all_full e = rw e

  all_next : (t : Tally) → check_one d kept m x ≡ going t → check_all d kept m (x ∷ ks) ≡ behind t.reports t.rounds (check_all d t.kept (suc m) ks)
  unfolding check_all
  all_next t e = rw e

all_end : (d : Design) (kept : Kept) (m : ℕ) → check_all d kept m [] ≡ going (tally [] 0 kept)
unfolding check_all
all_end d kept m = refl

-- ---- the loop

next_module : (ks : List Module) (m : ℕ) → m < length ks → (x : Module) × (get_elem? ks m ≡ some x) × (drop m ks ≡ x ∷ drop (suc m) ks)
next_module [] m h = absurd (omega arith)
next_module (x ∷ ks) zero h = (x, refl, refl)
next_module (x ∷ ks) (suc m) h = next_module ks m (omega arith)

-- every module, from the summaries kept before the first
abbrev all_from : Bytes → Kept → Got Tally
all_from text start = check_all (decode text) start 0 (decode text)

-- the modules before m are checked: what the others give comes behind their reports and rounds
pub record Turning (text : Bytes) (start : Kept) (write : Bool) (old : Bytes) (m rounds : ℕ) (new : Bytes) (q : Place) (k : List ℕ) : Type 0 where
  pub kept : Kept
  pub reports : List Report
  pub emitted : Emits write old first_place reports new q
  pub keeps : Keeps k kept []
  pub whole : all_from text start ≡ behind reports rounds (check_all (decode text) kept m (drop m (decode text)))

pub turn_start : (text : Bytes) (write : Bool) (old : Bytes) {k : List ℕ} {start : Kept} → Keeps k start [] → Turning text start write old 0 0 old first_place k
turn_start text write old {k} {start} keeps =
    record { kept = start; reports = []; emitted = emit_none; keeps = keeps; whole = behind_none (all_from text start) }

module _ {text kinds mods : List ℕ} {count : ℕ} (T : Tabled text kinds mods count) {start : Kept} {write : Bool} {old : Bytes} {m rounds : ℕ} {mid : Bytes} {q : Place} {k : List ℕ}
    (G : Turning text start write old m rounds mid q k) where
  pub turn_end : count ≤ m → Tallied (Ok (record { next = q; rounds = rounds })) write old first_place mid k (all_from text start)
  turn_end h =
      let e : drop m (decode text) ≡ [] = drop_of_length-le (decode text) {i = m} (omega (arith, T.modules)) in
      let z : rounds + 0 ≡ rounds = omega arith in (
        tally G.reports rounds G.kept,
        G.whole ∙ ap (λ (l : List Module). behind G.reports rounds (check_all (decode text) G.kept m l)) e
            ∙ ap (behind G.reports rounds) (all_end (decode text) G.kept m)
            ∙ ap₂ (λ (l : List Report) (j : ℕ). going (tally l j G.kept)) (append-nil G.reports) z,
        G.emitted,
        refl,
        G.keeps,
      )

  module _ (h : m < count) {names own g w : List ℕ} (E : Enough names own g w k) (r : Result Checked Stop) (new k' : List ℕ)
      (one : (x : Module) (kept : Kept) → Checking text kinds mods count m names own g w k x kept → Tallied r write mid q new k' (check_one (decode text) kept m x)) where
    abbrev found : (x : Module) × (get_elem? (decode text) m ≡ some x) × (drop m (decode text) ≡ x ∷ drop (suc m) (decode text))
    found = next_module (decode text) m (omega (arith, T.modules))

    checking : Checking text kinds mods count m names own g w k found.0 G.kept
    checking = record { tabled = T; enough = E; there = found.1; keeps = G.keeps }

    whole_here : all_from text start ≡ behind G.reports rounds (check_all (decode text) G.kept m (found.0 ∷ drop (suc m) (decode text)))
    whole_here = G.whole ∙ ap (λ (l : List Module). behind G.reports rounds (check_all (decode text) G.kept m l)) found.2

    pub turn_full : {x : Stop} → r ≡ Err x → (r' : Result Checked Stop) → IsErr r' → Tallied r' write old first_place new k' (all_from text start)
    turn_full e =
        let t = subst (λ (c : Result Checked Stop). Tallied c write mid q new k' (check_one (decode text) G.kept m found.0)) e (one found.0 G.kept checking) in
        handed_on (λ z. Tallied z write old first_place new k' (all_from text start)) (λ _. (
          whole_here ∙ ap (behind G.reports rounds) (all_full (decode text) G.kept m found.0 (drop (suc m) (decode text)) t.0),
          λ i f. t.1 (appended_within (G.emitted i)) f ∙ (G.emitted i).kept f,
        ))

    pub turn_on : {c : Checked} → r ≡ Ok c → Turning text start write old (m + 1) (rounds + c.rounds) new c.next k'
    turn_on e =
        let t = subst (λ (c : Result Checked Stop). Tallied c write mid q new k' (check_one (decode text) G.kept m found.0)) e (one found.0 G.kept checking) in
        let a = t.0 in
        let n : m + 1 ≡ suc m = add-one m in
        record {
          kept = a.kept;
          reports = G.reports ++ a.reports;
          emitted = emit_then G.reports a.reports G.emitted t.2;
          keeps = t.4;
          whole = whole_here
              ∙ ap (behind G.reports rounds) (all_next (decode text) G.kept m found.0 (drop (suc m) (decode text)) a t.1)
              ∙ behind_more G.reports a.reports rounds a.rounds (check_all (decode text) a.kept (suc m) (drop (suc m) (decode text)))
              ∙ ap₂ (λ (i j : ℕ). behind (G.reports ++ a.reports) (rounds + i) (check_all (decode text) a.kept j (drop j (decode text)))) (sym t.3) (sym n);
        }
