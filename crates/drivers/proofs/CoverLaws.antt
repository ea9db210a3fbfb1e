-- The width of an output from its bytes, and what is said of the outputs, one after the other. Assumes nothing.
use mathlib.Core.Path.{◌≡◌, refl, sym, ap, ◌∙◌, subst}
use mathlib.Core.Bool.{Bool, true, false, ◌||◌, true≢false}
use mathlib.Core.List.{List, [], ◌∷◌, ◌++◌, append-nil}
use mathlib.Core.Option.{Option}
use Prim.Native.Nat.{ℕ, ◌+◌, ◌-◌, ◌<◌, ◌≤◌}
use native.Mathlib.Omega.{arith}
use lib.IntN.{pos}
use lib.ListN.{length, get_or, drop}
use Rattle.spec.specs.Bytes.{Bytes, bytes, show_rest, show_form}
use Rattle.spec.specs.Syntax.{Expr, Width, bit, opaque, bits, signed as signed_width}
use Rattle.spec.specs.Show.{show_expr, show_width}
use Rattle.spec.specs.Decode.{depth_limit, decode_expr}
use Rattle.spec.specs.Refusal.{has_name, expr_depth, width_depth}
use Rattle.spec.specs.Value.{Value, known, missing, outside, Names, value, is_outside}
use Rattle.spec.specs.Site.{Site, Output, sites_of, width_value, width_coverage, gap_coverage, deciding_width, coverage, first_gap}
use Rattle.spec.specs.Report.{Report, report, never, gap}
use Rattle.spec.specs.Check.{coverage_report, output_reports, widths_out}
use Rattle.spec.proofs.Parts.{Part, word_part}
use Rattle.spec.proofs.Shown.{expr_shown}
use Rattle.lines.specs.Parts.{part_end, piece, next_end, follows}
use Rattle.runs.proofs.Inside.{placed}
use Rattle.consteval.specs.Worth.{signed}
use Rattle.consteval.proofs.ArithLaws.{signed_low, signed_high}
use Rattle.sites.specs.declared.Cover.{Cover}
use Rattle.sites.specs.declared.Cover.TheVariants as cover
use Rattle.std.specs.Prelude.{Some, None}
use Rattle.std.specs.Prelude as rust
use Rattle.sites.specs.declared.OutputLine.{OutputLine}
use Rattle.sites.specs.Own.{Port, places, names, run, row, rows_in, own_of, port_table, port_of, port_from, found_of, cover_by, poisoned_names}
use Rattle.sites.proofs.Rows.{run_step, run_end, run_all}
use Rattle.sites.proofs.Reports.{output_poisoned, output_never, output_open, ranges_coverage, width_poisoned, width_never, width_open, width_ranges}
use Rattle.items.specs.Held.{PortIs, Ports}
use Rattle.items.proofs.Places.{part_follows}
use Rattle.drivers.specs.declared.emit.Place.{Place}
use Rattle.consteval.specs.declared.Outside.{Outside}
use Rattle.drivers.specs.Emits.{Emits}
use Rattle.drivers.specs.Groups.{Reported}
use Rattle.drivers.proofs.EmitLaws.{emitting_start, emitting_then, emitting_end, appended_within, Emitting}
use Rattle.drivers.proofs.GroupLaws.{emits_same, emits_nothing}
use Rattle.std.specs.Prelude.{Result, Ok, Err, IsErr}
use Rattle.drivers.proofs.Handed.{handed_on}

-- ---- a width from its bytes

-- by the first byte: `bit`, `opaque`, or a form
pub width_one : (w : Width) (t : Bytes) → t ≡ show_width w → {c : ℕ} → c ≡ get_or t 0 0 → c ≡ 98 → (ns : Names) → known (pos 1) ≡ width_value ns w
unfolding show_width show_form width_value
width_one bit t q e f ns = refl
width_one opaque t q e f ns = let z : ◌≡◌ {A = ℕ} 98 111 = sym f ∙ e ∙ ap (λ (s : Bytes). get_or s 0 0) q in absurd (omega arith)
width_one (bits x) t q e f ns = let z : ◌≡◌ {A = ℕ} 98 40 = sym f ∙ e ∙ ap (λ (s : Bytes). get_or s 0 0) q in absurd (omega arith)
width_one (signed_width x) t q e f ns = let z : ◌≡◌ {A = ℕ} 98 40 = sym f ∙ e ∙ ap (λ (s : Bytes). get_or s 0 0) q in absurd (omega arith)

pub width_none : (w : Width) (t : Bytes) → t ≡ show_width w → {c : ℕ} → c ≡ get_or t 0 0 → ¬ (c ≡ 98) → ¬ (c ≡ 40) → (ns : Names) → missing ≡ width_value ns w
unfolding show_width show_form width_value
width_none bit t q e f g ns = absurd (f (e ∙ ap (λ (s : Bytes). get_or s 0 0) q))
width_none opaque t q e f g ns = refl
width_none (bits x) t q e f g ns = absurd (g (e ∙ ap (λ (s : Bytes). get_or s 0 0) q))
width_none (signed_width x) t q e f g ns = absurd (g (e ∙ ap (λ (s : Bytes). get_or s 0 0) q))

-- a form `(bits E)` or `(signed E)`
module _ (word : Bytes) (p : Part word 0) (x : Expr) (t : Bytes) (q : t ≡ show_form word (show_expr x ∷ [])) {h : ℕ} (eh : h ≡ part_end t 1) where
  behind_head : drop h t ≡ show_rest (show_expr x ∷ [])
  unfolding show_form next_end
  behind_head = ap (λ (n : ℕ). drop n t) eh ∙ (placed t 0 40 (show_expr x ∷ []) p q).follows

  has_width : follows t h ≡ true
  has_width = part_follows t h (show_expr x) [] behind_head

  width_here : {e : ℕ} → e ≡ part_end t (h + 1) → piece t h e ≡ show_expr x
  unfolding show_rest next_end
  width_here ee = ap (piece t h) ee ∙ (placed t h 32 [] (expr_shown x).part behind_head).here

  width_worth : {e : ℕ} → e ≡ part_end t (h + 1) → {s : Bytes} → s ≡ piece t h e → (ns : Names) {v : Value} → v ≡ value ns (decode_expr 31 s) → expr_depth x ≤ 31 → v ≡ value ns x
  width_worth ee es ns ev d =
      ev ∙ ap (λ (z : Bytes). value ns (decode_expr 31 z)) (es ∙ width_here ee) ∙ ap (value ns) ((expr_shown x).back 31 d)

module _ (t : Bytes) {c : ℕ} (e : c ≡ get_or t 0 0) (f : c ≡ 40) {h : ℕ} (eh : h ≡ part_end t 1) where
  pub width_alone : (w : Width) → t ≡ show_width w → follows t h ≡ false → (ns : Names) → missing ≡ width_value ns w
  unfolding show_width show_form
  width_alone bit q g ns = let z : ◌≡◌ {A = ℕ} 40 98 = sym f ∙ e ∙ ap (λ (s : Bytes). get_or s 0 0) q in absurd (omega arith)
  width_alone opaque q g ns = let z : ◌≡◌ {A = ℕ} 40 111 = sym f ∙ e ∙ ap (λ (s : Bytes). get_or s 0 0) q in absurd (omega arith)
  width_alone (bits x) q g ns = absurd (true≢false (sym (has_width (bytes "bits") (word_part (bytes "bits") (omega arith)) x t q eh) ∙ g))
  width_alone (signed_width x) q g ns = absurd (true≢false (sym (has_width (bytes "signed") (word_part (bytes "signed") (omega arith)) x t q eh) ∙ g))

  pub width_form : {k : ℕ} → k ≡ part_end t (h + 1) → {s : Bytes} → s ≡ piece t h k → (ns : Names) {v : Value} → v ≡ value ns (decode_expr 31 s)
      → (w : Width) → t ≡ show_width w → width_depth w ≤ depth_limit → v ≡ width_value ns w
  unfolding show_width show_form width_value width_depth
  width_form ee es ns ev bit q d = let z : ◌≡◌ {A = ℕ} 40 98 = sym f ∙ e ∙ ap (λ (s : Bytes). get_or s 0 0) q in absurd (omega arith)
  width_form ee es ns ev opaque q d = let z : ◌≡◌ {A = ℕ} 40 111 = sym f ∙ e ∙ ap (λ (s : Bytes). get_or s 0 0) q in absurd (omega arith)
  width_form ee es ns ev (bits x) q d = width_worth (bytes "bits") (word_part (bytes "bits") (omega arith)) x t q eh ee es ns ev (omega arith)
  width_form ee es ns ev (signed_width x) q d = width_worth (bytes "signed") (word_part (bytes "signed") (omega arith)) x t q eh ee es ns ev (omega arith)

-- ---- the gap of an output at a width

module _ (ss : List Site) (m : ℕ) (o : Output) (n s : ℕ) (en : o.name ≡ n) (es : o.start ≡ s) (v : ℕ) where
  abbrev gap_said : List Report
  gap_said = coverage_report m o (width_coverage ss (known (signed v)))

  pub gap_negative : v < 2147483648 → gap_said ≡ []
  gap_negative h = ap (λ z. coverage_report m o (width_coverage ss (known z))) (signed_low v h)

  module _ (h : 2147483648 ≤ v) {r : rust.Option ℕ} (e : found_of r ≡ first_gap ss (v - 2147483648)) where
    gap_by : (x : rust.Option ℕ) → r ≡ x → gap_said ≡ coverage_report m o (gap_coverage (found_of x))
    gap_by x f =
        ap (λ z. coverage_report m o (width_coverage ss (known z))) (signed_high v h)
        ∙ ap (λ (z : Option ℕ). coverage_report m o (gap_coverage z)) (sym e ∙ ap found_of f)

    pub gap_none : r ≡ None → gap_said ≡ []
    gap_none f = gap_by None f

    pub gap_some : (b : ℕ) → r ≡ Some b → gap_said ≡ report m s n (gap b) ∷ []
    gap_some b f = gap_by (Some b) f ∙ ap (λ (z : ℕ). report m z o.name (gap b) ∷ []) es ∙ ap (λ (z : ℕ). report m s z (gap b) ∷ []) en

-- ---- one output

module _ (own : List ℕ) (ns : Names) (m : ℕ) (o : Output) where
  abbrev pub output_said : List Report
  output_said = output_reports m ns (poisoned_names (own_of own)) (own_of own).sites (o ∷ [])

  abbrev pub width_out : Bool
  width_out = widths_out ns (poisoned_names (own_of own)) (own_of own).sites (o ∷ [])

  abbrev sites_here : List Site
  sites_here = sites_of o.name (own_of own).sites

  module _ {n s : ℕ} (en : n ≡ o.name) (es : s ≡ o.start) {b : Bool} (g : b ≡ has_name n (poisoned_names (own_of own))) where
    poison_here : {c : Bool} → b ≡ c → has_name o.name (poisoned_names (own_of own)) ≡ c
    poison_here f = ap (λ (k : ℕ). has_name k (poisoned_names (own_of own))) (sym en) ∙ sym g ∙ f

    pub output_kept : b ≡ true → {write : Bool} {old : Bytes} {p : Place} → Reported (Ok p) write old p width_out output_said old
    unfolding output_reports widths_out
    output_kept f =
        (width_poisoned ns (poisoned_names (own_of own)) (own_of own).sites o [] (poison_here f), emits_nothing (output_poisoned m ns (poisoned_names (own_of own)) (own_of own).sites o [] (poison_here f)))

    module _ (f : b ≡ false) {x : Cover} (k : x ≡ cover_by (sites_of n (own_of own).sites)) where
      cover_here : {y : Cover} → x ≡ y → cover_by sites_here ≡ y
      cover_here e = ap (λ (j : ℕ). cover_by (sites_of j (own_of own).sites)) (sym en) ∙ sym k ∙ e

      pub output_undriven : x ≡ cover.Never → {write : Bool} {old new : Bytes} {p q : Place} → Emits write old p (report m s n never ∷ []) new q
          → Reported (Ok q) write old p width_out output_said new
      unfolding output_reports widths_out
      output_undriven e {write} {old} {new} {p} {q} a = (
        width_never ns (poisoned_names (own_of own)) (own_of own).sites o [] (poison_here f) (cover_here e),
        emits_same (output_never m ns (poisoned_names (own_of own)) (own_of own).sites o [] (poison_here f) (cover_here e)
            ∙ sym (ap (λ (z : ℕ). report m z n never ∷ []) es ∙ ap (λ (z : ℕ). report m o.start z never ∷ []) en)) a,
      )

      pub output_free : x ≡ cover.Open → {write : Bool} {old : Bytes} {p : Place} → Reported (Ok p) write old p width_out output_said old
      unfolding output_reports widths_out
      output_free e = (
        width_open ns (poisoned_names (own_of own)) (own_of own).sites o [] (poison_here f) (cover_here e),
        emits_nothing (output_open m ns (poisoned_names (own_of own)) (own_of own).sites o [] (poison_here f) (cover_here e)),
      )

      module _ (e : x ≡ cover.Ranges) {v : Value} (ev : v ≡ width_value ns o.width) where
        out_by : {y : Value} → v ≡ y → width_out ≡ (is_outside y || false)
        unfolding widths_out
        out_by h =
            width_ranges ns (poisoned_names (own_of own)) (own_of own).sites o [] (poison_here f) (cover_here e) ∙ ap (λ (z : Value). is_outside z || false) (sym ev ∙ h)

        said_by : {y : Value} → v ≡ y → output_said ≡ coverage_report m o (width_coverage sites_here y)
        unfolding output_reports
        said_by {y} h =
            rw (poison_here f, output_reports)
            (append-nil (coverage_report m o (coverage ns sites_here o.width))
            ∙ ap (coverage_report m o) (ranges_coverage ns o.width sites_here (cover_here e) ∙ ap (width_coverage sites_here) (sym ev ∙ h)))

        pub output_unknown : v ≡ missing → {write : Bool} {old : Bytes} {p : Place} → Reported (Ok p) write old p width_out output_said old
        output_unknown h = (out_by h, emits_nothing (said_by h))

        pub output_outside : v ≡ outside → (r : Result Place Outside) → IsErr r → (write : Bool) (old : Bytes) (p : Place) → Reported r write old p width_out output_said old
        output_outside h (Ok q) g write old p = absurd (true≢false (sym g))
        output_outside h (Err e) g write old p = (out_by h, λ _ _. refl)

        pub output_known : (y : ℕ) → v ≡ known (signed y) → {write : Bool} {old new : Bytes} {p q : Place}
            → Emits write old p (coverage_report m o (width_coverage (sites_of n (own_of own).sites) (known (signed y)))) new q
            → Reported (Ok q) write old p width_out output_said new
        output_known y h a = (
          out_by h,
          emits_same (said_by h ∙ ap (λ (j : ℕ). coverage_report m o (width_coverage (sites_of j (own_of own).sites) (known (signed y)))) (sym en)) a,
        )

-- ---- one output after the other

output_cons : (m : ℕ) (ns : Names) (poison : List ℕ) (ss : List Site) (o : Output) (os : List Output)
    → output_reports m ns poison ss (o ∷ os) ≡ output_reports m ns poison ss (o ∷ []) ++ output_reports m ns poison ss os
unfolding output_reports
output_cons m ns poison ss o os = go (has_name o.name poison) refl
  where
    go : (b : Bool) → has_name o.name poison ≡ b → output_reports m ns poison ss (o ∷ os) ≡ output_reports m ns poison ss (o ∷ []) ++ output_reports m ns poison ss os
    go true e = rw (e, output_reports)
    go false e =
        rw (e, output_reports)
        (ap (λ (l : List Report). l ++ output_reports m ns poison ss os) (sym (append-nil (coverage_report m o (coverage ns (sites_of o.name ss) o.width)))))

or_false : (a b : Bool) → (a || b) ≡ ((a || false) || b)
or_false true b = refl
or_false false b = refl

width_cons : (ns : Names) (poison : List ℕ) (ss : List Site) (o : Output) (os : List Output)
    → widths_out ns poison ss (o ∷ os) ≡ (widths_out ns poison ss (o ∷ []) || widths_out ns poison ss os)
unfolding widths_out
width_cons ns poison ss o os = go (has_name o.name poison) refl
  where
    go : (b : Bool) → has_name o.name poison ≡ b → widths_out ns poison ss (o ∷ os) ≡ (widths_out ns poison ss (o ∷ []) || widths_out ns poison ss os)
    go true e = rw (e, widths_out)
    go false e = rw (e, widths_out) (or_false (is_outside (deciding_width ns (sites_of o.name ss) o.width)) (widths_out ns poison ss os))

abbrev pub port_row : List ℕ → ℕ → Port
port_row own i = port_from (row port_table own i)

-- the row i is that of the first of the outputs left
record Next (text : Bytes) (own : List ℕ) (n i : ℕ) (rest : List Output) : Type 0 where
  first : Output
  later : List Output
  split : rest ≡ first ∷ later
  here : PortIs text (port_row own i) first
  others : Ports text (run (port_row own) (i + 1) (n - (i + 1))) later

next_of : (text : Bytes) (own : List ℕ) (n i : ℕ) (rest : List Output) → Ports text (port_row own i ∷ run (port_row own) (i + 1) (n - (i + 1))) rest → Next text own n i rest
next_of text own n i [] h = absurd h
next_of text own n i (o ∷ rest) h = record { first = o; later = rest; split = refl; here = h.0; others = h.1 }

module _ (text : Bytes) (own : List ℕ) (ns : Names) (m n : ℕ) where
  abbrev outputs_said : List Output → List Report
  outputs_said os = output_reports m ns (poisoned_names (own_of own)) (own_of own).sites os

  abbrev some_out : List Output → Bool
  some_out os = widths_out ns (poisoned_names (own_of own)) (own_of own).sites os

  -- of the outputs os, those from row i on are left: their reports are those that are not appended yet
  pub record Covering (os : List Output) (i : ℕ) (write : Bool) (old : Bytes) (p : Place) (new : Bytes) (q : Place) : Type 0 where
    pub rest : List Output
    pub ports : Ports text (run (port_row own) i (n - i)) rest
    pub emitting : Emitting write old p (outputs_said os) (outputs_said rest) new q
    pub widths : some_out os ≡ some_out rest

  pub cover_start : {write : Bool} {old : Bytes} {p : Place} → n ≡ rows_in port_table own → (os : List Output) → Ports text (own_of own).outputs os → Covering os 0 write old p old p
  unfolding own_of
  cover_start e os h =
      record {
        rest = os;
        ports = subst (λ (l : List Port). Ports text l os) (ap (run (port_row own) 0) (sym e) ∙ sym (run_all (port_row own) n)) h;
        emitting = emitting_start (outputs_said os);
        widths = refl;
      }

  module _ {os : List Output} {i : ℕ} {write : Bool} {old : Bytes} {p : Place} where
    next_row : {mid : Bytes} {q : Place} → i < n → (C : Covering os i write old p mid q) → Next text own n i C.rest
    next_row h C = next_of text own n i C.rest (subst (λ (l : List Port). Ports text l C.rest) (run_step (port_row own) i n h) C.ports)

    -- what is said of the output of row i
    module _ {mid : Bytes} {q : Place} (r : Result Place Outside) (new : Bytes) (x : OutputLine) (h : i < n) (k : n ≤ names)
        (ex : length own ≡ places → i < names → port_of x ≡ port_from (row port_table own i))
        (a : length own ≡ places → (o : Output) → PortIs text (port_of x) o → Reported r write mid q (width_out own ns m o) (output_said own ns m o) new)
        (l : length own ≡ places) (C : Covering os i write old p mid q) where
      abbrev next : Next text own n i C.rest
      next = next_row h C

      row_said : Reported r write mid q (width_out own ns m next.first) (output_said own ns m next.first) new
      row_said = a l next.first (subst (λ (z : Port). PortIs text z next.first) (sym (ex l (omega arith))) next.here)

      left_said : outputs_said C.rest ≡ output_said own ns m next.first ++ outputs_said next.later
      left_said = ap outputs_said next.split ∙ output_cons m ns (poisoned_names (own_of own)) (own_of own).sites next.first next.later

      left_out : some_out os ≡ (width_out own ns m next.first || some_out next.later)
      left_out = C.widths ∙ ap some_out next.split ∙ width_cons ns (poisoned_names (own_of own)) (own_of own).sites next.first next.later

      pub cover_then : (q' : Place) → r ≡ Ok q' → Covering os (i + 1) write old p new q'
      cover_then q' e =
          let b : Reported (Ok q') write mid q (width_out own ns m next.first) (output_said own ns m next.first) new
          = subst (λ (z : Result Place Outside). Reported z write mid q (width_out own ns m next.first) (output_said own ns m next.first) new) e row_said in
          record {
            rest = next.later;
            ports = next.others;
            emitting = emitting_then (output_said own ns m next.first) (outputs_said next.later)
                (subst (λ (z : List Report). Emitting write old p (outputs_said os) z mid q) left_said C.emitting) b.1;
            widths = left_out ∙ ap (λ (z : Bool). z || some_out next.later) b.0;
          }

      pub cover_outside : {x : Outside} → r ≡ Err x → (r' : Result Place Outside) → IsErr r' → Reported r' write old p (some_out os) (outputs_said os) new
      cover_outside {x} e =
          let b : Reported (Err x) write mid q (width_out own ns m next.first) (output_said own ns m next.first) new
          = subst (λ (z : Result Place Outside). Reported z write mid q (width_out own ns m next.first) (output_said own ns m next.first) new) e row_said in
          handed_on (λ z. Reported z write old p (some_out os) (outputs_said os) new)
          (λ _. (left_out ∙ ap (λ (z : Bool). z || some_out next.later) b.0, λ w f. let d = C.emitting.emitted w in b.1 (appended_within d) f ∙ d.kept f))

    pub cover_end : {new : Bytes} {q : Place} → n ≤ i → Covering os i write old p new q → Reported (Ok q) write old p (some_out os) (outputs_said os) new
    unfolding output_reports widths_out
    cover_end {new} {q} h C = go C.rest C.emitting C.widths (subst (λ (l : List Port). Ports text l C.rest) (run_end (port_row own) i n h) C.ports)
      where
        go : (rest : List Output) → Emitting write old p (outputs_said os) (outputs_said rest) new q → some_out os ≡ some_out rest → Ports text [] rest
            → Reported (Ok q) write old p (some_out os) (outputs_said os) new
        go [] e w t = (w, emitting_end e)
        go (o ∷ rest) e w t = absurd t
