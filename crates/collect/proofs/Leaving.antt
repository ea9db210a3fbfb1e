-- What a call left of the tables that were lent to it. Assumes nothing.
use Rattle.std.specs.Prelude.{Result, Ok, Err, is_ok}
use mathlib.Core.Path.{◌≡◌, refl, sym, ◌∙◌, subst}
use mathlib.Core.Bool.{Bool, true, false}
use mathlib.Core.Logic.{inl, inr}
use mathlib.Core.List.{List}
use Prim.Native.Nat.{ℕ}
use lib.ListN.{set, replicate}
use Rattle.spec.specs.Bytes.{Bytes}
use Rattle.spec.specs.Value.{Value, Names}
use Rattle.spec.specs.Edge.{Summary}
use Rattle.spec.specs.Cleared.{Cleared}
use Rattle.sites.specs.Own.{added}
use Rattle.sites.specs.Stored as stored
use Rattle.items.specs.Added.{line_added}
use Rattle.edges.specs.Lines.{summary_at, inst_index, inst_module}
use Rattle.edges.specs.Leaves as edges
use Rattle.edges.specs.Leaves.{WireLeaves, DriveLeaves}
use Rattle.edges.proofs.LeaveLaws.{wire_cleared, drive_cleared}
use Rattle.summary.specs.Keeps.{first_of, count_of}
use Rattle.summary.specs.Pairs.{Leaves}
use Rattle.walk.specs.Walk.{Got, State}
use Rattle.collect.specs.Cycle.{Mode, Stepped, LinesAdded, OwnKept, KnownOf, HeadsAdded, WalkLeaves, AskLeaves, EdgesLeave}
use Rattle.edges.specs.declared.Stop.{Stop}
use Rattle.collect.specs.Plain.{HeadsLeave, PlainLeaves, InstLeaves}

-- what is no refusal passed
pub passed : {T E : Type 0} (r : Result T E) → ((e : E) → r ≡ Err e → ⊥) → is_ok r ≡ true
passed (Ok x) h = refl
passed (Err e) h = absurd (h e refl)

-- ---- the words in the place of own tables

pub own_same : (checking : Bool) (own : List ℕ) → OwnKept checking own own
own_same true own = LinesAdded.none
own_same false own = refl

lines_again : {a b c : List ℕ} → LinesAdded a b → LinesAdded b c → LinesAdded a c
lines_again p LinesAdded.none = p
lines_again p (LinesAdded.line own₁ own₂ x base bound d kinds names q e) = LinesAdded.line own₁ own₂ x base bound d kinds names (lines_again p q) e

pub own_again : (checking : Bool) (a b c : List ℕ) → OwnKept checking a b → OwnKept checking b c → OwnKept checking a c
own_again true a b c p q = lines_again p q
own_again false a b c p q = q ∙ p

-- in a module's own check a line adds to them
pub own_filled : (checking : Bool) (own own' : List ℕ) → checking ≡ true → (x : Bytes) (base : ℕ) (bound : Bool) (d : ℕ) (kinds : List ℕ) (names : Names)
    → line_added x base bound d kinds names own ≡ added stored.Done own' → OwnKept checking own own'
own_filled checking own own' e x base bound d kinds names h = rw e (LinesAdded.line own own' x base bound d kinds names LinesAdded.none h)

-- ---- graph and summaries

pub heads_again : {g k g₁ k₁ g₂ k₂ : List ℕ} → HeadsAdded g k g₁ k₁ → HeadsAdded g₁ k₁ g₂ k₂ → HeadsAdded g k g₂ k₂
heads_again p HeadsAdded.none = p
heads_again p (HeadsAdded.wire x d kinds names q h) = HeadsAdded.wire x d kinds names (heads_again p q) h
heads_again p (HeadsAdded.drive x d kinds names q h) = HeadsAdded.drive x d kinds names (heads_again p q) h
heads_again p (HeadsAdded.inst x d kinds names s q e h) = HeadsAdded.inst x d kinds names s (heads_again p q) e h
heads_again p (HeadsAdded.summary m run kinds q r h) = HeadsAdded.summary m run kinds (heads_again p q) r h

-- ---- own tables, graph and summaries

-- what a walk that is not full leaves
abbrev pub Filled : Bool → (own own' g g' k k' : List ℕ) → Type 0
Filled checking own own' g g' k k' = OwnKept checking own own' × HeadsAdded g k g' k'

pub filled_same : (checking : Bool) (own g k : List ℕ) → Filled checking own own g g k k
filled_same checking own g k = (own_same checking own, HeadsAdded.none)

pub filled_again : (checking : Bool) (a b c g h i k l m : List ℕ) → Filled checking a b g h k l → Filled checking b c h i l m → Filled checking a c g i k m
filled_again checking a b c g h i k l m p q = (own_again checking a b c p.0 q.0, heads_again p.1 q.1)

-- ---- a line's heads, by what it said

module _ (x : Bytes) (d : ℕ) (ks : List ℕ) (names : Names) (g g' : List ℕ) where
  pub wire_left : (r : Bool) → WireLeaves r x d ks names g g' → HeadsLeave r g g'
  wire_left true h = λ k. HeadsAdded.wire x d ks names HeadsAdded.none h
  wire_left false h = wire_cleared false x d ks names g g' h

  pub drive_left : (r : Bool) → DriveLeaves r x d ks names g g' → HeadsLeave r g g'
  drive_left true h = λ k. HeadsAdded.drive x d ks names HeadsAdded.none h
  drive_left false h = drive_cleared false x d ks names g g' h

  pub inst_left : (v : Value) (s : Summary) (r : Bool) → r ≡ true → edges.InstLeaves r v s x d ks names g g' → edges.InstLeaves true v s x d ks names g g'
  inst_left v s r e h = rw e at h

pub heads_left : (r : Bool) (g g' : List ℕ) → r ≡ true → HeadsLeave r g g' → (k : List ℕ) → HeadsAdded g k g' k
heads_left r g g' e h = rw e at h

pub heads_cleared : (r : Bool) (g g' : List ℕ) → r ≡ false → HeadsLeave r g g' → Cleared g'
heads_cleared r g g' e h = rw e at h

-- ---- a walk, a line, a summary that was asked for, by what it said

pub walk_kept : (a : Result ℕ Stop) (checking : Bool) (own own' g g' k k' : List ℕ) {l : ℕ} → a ≡ Ok l → WalkLeaves a checking own own' g g' k k' → Filled checking own own' g g' k k'
walk_kept a checking own own' g g' k k' e h = rw e at h

pub walk_cleared : (a : Result ℕ Stop) (checking : Bool) (own own' g g' k k' : List ℕ) → {f : Stop} → a ≡ Err f → WalkLeaves a checking own own' g g' k k' → Cleared own' × Cleared g' × Cleared k'
walk_cleared a checking own own' g g' k k' e h = rw e at h

pub line_kept : (b checking : Bool) (own own' g g' : List ℕ) → b ≡ true → PlainLeaves b checking own own' g g' → OwnKept checking own own' × HeadsLeave true g g'
line_kept b checking own own' g g' e h = rw e at h

pub line_cleared : (b checking : Bool) (own own' g g' : List ℕ) → b ≡ false → PlainLeaves b checking own own' g g' → Cleared own' × Cleared g'
line_cleared b checking own own' g g' e h = rw e at h

pub edges_kept : (b : Bool) (g g' k k' : List ℕ) → b ≡ true → EdgesLeave b g g' k k' → HeadsAdded g k g' k'
edges_kept b g g' k k' e h = rw e at h

pub edges_cleared : (b : Bool) (g g' k k' : List ℕ) → b ≡ false → EdgesLeave b g g' k k' → Cleared g' × Cleared k'
edges_cleared b g g' k k' e h = rw e at h

pub ask_empty : (a : Result Bool Stop) (k k' : List ℕ) → a ≡ (Ok false) → AskLeaves a k k' → (g : List ℕ) → HeadsAdded g k g k'
ask_empty a k k' e h = rw e at h

pub ask_kept : (a : Result Bool Stop) (k k' : List ℕ) → a ≡ (Ok true) → AskLeaves a k k' → (g : List ℕ) → HeadsAdded g k g k'
ask_kept a k k' e h = rw e at h

pub ask_cleared : (a : Result Bool Stop) (k k' : List ℕ) → {f : Stop} → a ≡ Err f → AskLeaves a k k' → Cleared k'
ask_cleared a k k' e h = rw e at h

-- a summary that is made
pub made_left : (k k₁ h k₂ k₃ : List ℕ) (m : ℕ) (run : Bytes) (kinds : List ℕ) (b : Bool) → k₁ ≡ set k m 1 → HeadsAdded (replicate 16898 0) k₁ h k₂ → b ≡ true → Leaves b run kinds h k₂ m k₃
    → (g : List ℕ) → HeadsAdded g k g k₃
made_left k k₁ h k₂ k₃ m run kinds b e p q l g =
    HeadsAdded.summary m run kinds HeadsAdded.none (subst (λ (y : List ℕ). HeadsAdded (replicate 16898 0) y h k₂) e p)
    (subst (λ (c : Bool). Leaves c run kinds h k₂ m k₃) q l)

-- ---- what an instance line knows of its module

pub known_none : (x : Bytes) (k : List ℕ) → KnownOf (summary_at k 0 0) x k
unfolding summary_at
known_none x k = inl refl

pub known_kept : (x : Bytes) (k : List ℕ) (m : ℕ) → m ≡ inst_module x → (first count : ℕ) → first ≡ first_of k m → count ≡ count_of k m → KnownOf (summary_at k first count) x k
known_kept x k m e first count f c = inr (rw (f, c, e) refl)

-- ---- the outputs of an instance: the summaries stay, or all is 0

module _ (v : Value) (s : Summary) (x : Bytes) (d : ℕ) (ks : List ℕ) (names : Names) (g g' k k' : List ℕ) where
  pub inst_stepped : (b : Bool) (mo : Mode) (text own busy : List ℕ) (y : Got State) → InstLeaves b v s x d ks names g g' k k' → Stepped b mo text own g' k busy y
      → Stepped b mo text own g' k' busy y
  inst_stepped true mo text own busy y e h = subst (λ (z : List ℕ). Stepped true mo text own g' z busy y) (sym e.1) h
  inst_stepped false mo text own busy y e h = h

  -- behind the summary that was asked for
  pub inst_edges_left : (b : Bool) (k₀ : List ℕ) → ((h : List ℕ) → HeadsAdded h k₀ h k) → v ≡ inst_index x d names → KnownOf s x k → InstLeaves b v s x d ks names g g' k k'
      → EdgesLeave b g g' k₀ k'
  inst_edges_left true k₀ a i q e =
      subst (λ (z : List ℕ). HeadsAdded g k₀ g' z) (sym e.1)
      (HeadsAdded.inst x d ks names s (a g) q (subst (λ (y : Value). edges.InstLeaves true y s x d ks names g g') i e.0))
  inst_edges_left false k₀ a i q e = e
