-- Lines appended: one piece, none, and one behind the other. Assumes nothing.
use mathlib.Core.Path.{◌≡◌, refl, sym, ap, ◌∙◌, subst}
use mathlib.Core.Bool.{Bool, true, false, true≢false}
use mathlib.Core.List.{List, [], ◌∷◌, ◌++◌, append_assoc, append-nil}
use Prim.Native.Nat.{ℕ, ◌+◌, ◌≤◌, min}
use native.Mathlib.Omega.{arith}
use lib.ListN.{length, take, drop, length-append, take-append-drop}
use lib.Seq.{sets, sets-eq}
use borrow.Author.Tests.{le-leb}
use Rattle.spec.specs.Bytes.{Bytes}
use Rattle.spec.specs.Report.{Report, show_reports, show_report}
use Rattle.report.specs.Line.{line, report_of, put_by, placed}
use Rattle.report.specs.declared.Report as report
use Rattle.std.specs.Prelude.{Some}
use Rattle.report.proofs.Laws.{sets_append, line_length}
use Rattle.drivers.specs.declared.emit.Place.{Place}
use Rattle.drivers.specs.declared.emit.Piece.{Piece}
use Rattle.drivers.specs.declared.emit.Piece.TheVariants as pieces
use Rattle.drivers.specs.Emits.{bytes_of, lines_in, Within, Appended, Appends, Emits}

-- 01, The report; Refused because of the state: of the reports `all`, which begin at the place p, those before `rest` are appended
pub record Emitting (write : Bool) (old : Bytes) (p : Place) (all rest : List Report) (new : Bytes) (q : Place) : Type 0 where
  pub before : List Report
  pub split : before ++ rest ≡ all
  pub emitted : Emits write old p before new q

placed_fits : (l s : Bytes) (at : ℕ) → at + length s ≤ length l → placed l at s ≡ put_by (Some (at + length s)) (take at l ++ s ++ drop (at + length s) l)
unfolding placed
placed_fits l s at h = rw (le-leb (at + length s) (length l) h, placed)

-- a piece has at least as many bytes as reports count with it
some_bytes : (x : Piece) → lines_in x ≤ length (bytes_of x)
some_bytes (pieces.Line x) = omega (arith, line_length x)
some_bytes (pieces.WalkHead m start) = omega arith
some_bytes (pieces.WalkNode n) = omega arith
some_bytes pieces.WalkTail = omega arith

-- one piece
module _ {write : Bool} {old : Bytes} {p : Place} (x : Piece) {n k : ℕ} {q : Place} (e : n ≡ length (bytes_of x)) (f : k ≡ lines_in x) (at : q.at ≡ min (p.at + n) (length old + 1))
    (count : p.reports + k ≤ q.at → q.reports ≡ p.reports + k) (few : p.reports ≤ q.at → q.reports ≤ q.at) where
  pub counted : write ≡ false → Appends write old p (bytes_of x) (lines_in x) old q
  counted w i =
      record {
        at = omega arith;
        count = λ h. count (omega (arith, i.end, i.reports, some_bytes x)) ∙ ap (λ (j : ℕ). p.reports + j) f;
        few = few (omega (arith, i.end, i.reports));
        size = refl;
        kept = λ _. refl;
        written = λ t. absurd (true≢false (sym t ∙ w));
      }

  pub wrote : {new : Bytes} → write ≡ true → length new ≡ length old → new ≡ (placed old p.at (bytes_of x)).buffer → Appends write old p (bytes_of x) (lines_in x) new q
  wrote {new} w size g i =
      record {
        at = omega arith;
        count = λ h. count (omega (arith, i.end, i.reports, some_bytes x)) ∙ ap (λ (j : ℕ). p.reports + j) f;
        few = few (omega (arith, i.end, i.reports));
        size = size;
        kept = λ t. absurd (true≢false (sym w ∙ t));
        written = λ _ h.
            let y : q.at ≡ p.at + length (bytes_of x) = omega arith in
            g ∙ ap (λ z. z.buffer) (placed_fits old (bytes_of x) p.at (omega arith)) ∙ ap (λ (z : ℕ). take p.at old ++ bytes_of x ++ drop z old) (sym y);
      }

-- a report's line is that of the one report
pub emits_line : (x : report.Report) {write : Bool} {old new : Bytes} {p q : Place} → Appends write old p (line x) 1 new q → Emits write old p (report_of x ∷ []) new q
unfolding show_reports line
emits_line x a = a

-- none
pub append_none : (write : Bool) (old : Bytes) (p : Place) → Appends write old p [] 0 old p
append_none write old p i =
    record {
      at = omega (arith, i.end);
      count = λ _. omega arith;
      few = i.reports;
      size = refl;
      kept = λ _. refl;
      written = λ _ _. sym (ap (λ (x : Bytes). x ++ drop p.at old) (append-nil (take p.at old)) ∙ take-append-drop p.at old);
    }

-- the place behind what is appended
pub appended_within : {write : Bool} {old new : Bytes} {p q : Place} {s : Bytes} {k : ℕ} → Appended write old p s k new q → Within new q
appended_within a = record { end = omega (arith, a.at, a.size); reports = a.few }

-- one behind the other
pub append_then : {write : Bool} {old mid new : Bytes} {p q r : Place} {s t : Bytes} {j k : ℕ}
    → Appends write old p s j mid q → Appends write mid q t k new r → Appends write old p (s ++ t) (j + k) new r
append_then {write} {old} {mid} {new} {p} {q} {r} {s} {t} {j} {k} f g i =
    let a = f i in
    let b = g (appended_within a) in
    let l = length-append s t in
    record {
      at = omega (arith, a.at, b.at, a.size);
      count = λ h.
          let x = a.count (omega (arith, a.at, b.at, a.size)) in
          let y = b.count (omega (arith, a.size)) in
          omega arith;
      few = b.few;
      size = b.size ∙ a.size;
      kept = λ w. b.kept w ∙ a.kept w;
      written = λ w h.
          let u : q.at ≡ p.at + length s = omega (arith, a.at, b.at, a.size) in
          let v : r.at ≡ q.at + length t = omega (arith, a.at, b.at, a.size) in
          both u v h a.size (a.written w (omega arith)) (b.written w (omega (arith, a.size)));
    }
  where
    both : q.at ≡ p.at + length s → r.at ≡ q.at + length t → r.at ≤ length old → length mid ≡ length old → mid ≡ take p.at old ++ s ++ drop q.at old
        → new ≡ take q.at mid ++ t ++ drop r.at mid → new ≡ take p.at old ++ (s ++ t) ++ drop r.at old
    both u v h z a b =
        let l = length-append s t in
        let c : mid ≡ sets old p.at s = a ∙ ap (λ (x : ℕ). take p.at old ++ s ++ drop x old) u ∙ sym (sets-eq s old p.at (omega arith)) in
        let d : new ≡ sets mid q.at t = b ∙ ap (λ (x : ℕ). take q.at mid ++ t ++ drop x mid) v ∙ sym (sets-eq t mid q.at (omega arith)) in
        let w : p.at + length (s ++ t) ≡ r.at = omega arith in
        d ∙ ap (λ (x : ℕ). sets mid x t) u ∙ ap (λ (x : Bytes). sets x (p.at + length s) t) c ∙ sets_append old p.at s t
        ∙ sets-eq (s ++ t) old p.at (omega arith) ∙ ap (λ (x : ℕ). take p.at old ++ (s ++ t) ++ drop x old) w

-- reports one behind the other
show_then : (rs xs : List Report) → show_reports (rs ++ xs) ≡ show_reports rs ++ show_reports xs
unfolding show_reports
show_then [] xs = refl
show_then (r ∷ rs) xs = ap (λ (x : Bytes). show_report r ++ 10 ∷ x) (show_then rs xs) ∙ sym (append_assoc (show_report r) (10 ∷ show_reports rs) (show_reports xs))

module _ {write : Bool} {old : Bytes} {p : Place} where
  pub emit_none : Emits write old p [] old p
  unfolding show_reports
  emit_none = append_none write old p

  pub emit_then : {mid new : Bytes} {q r : Place} (rs xs : List Report) → Emits write old p rs mid q → Emits write mid q xs new r → Emits write old p (rs ++ xs) new r
  emit_then {mid} {new} {q} {r} rs xs f g = rw (show_then rs xs, length-append rs xs) (append_then f g)

  -- one group of reports after the other
  pub emitting_start : (all : List Report) → Emitting write old p all all old p
  emitting_start all = record { before = []; split = refl; emitted = emit_none }

  pub emitting_then : {all : List Report} {mid new : Bytes} {q r : Place} (xs rest : List Report) → Emitting write old p all (xs ++ rest) mid q → Emits write mid q xs new r
      → Emitting write old p all rest new r
  emitting_then xs rest e f =
      record {
        before = e.before ++ xs;
        split = append_assoc e.before xs rest ∙ e.split;
        emitted = emit_then e.before xs e.emitted f;
      }

  pub emitting_end : {all : List Report} {new : Bytes} {q : Place} → Emitting write old p all [] new q → Emits write old p all new q
  emitting_end {all} {new} {q} e = subst (λ (l : List Report). Emits write old p l new q) (sym (append-nil e.before) ∙ e.split) e.emitted
