-- The turns of the reader's loop over the lines, one law for each way.
-- Assumes nothing.
use mathlib.Core.Path.{◌≡◌, refl, sym, ap, ap₂, ◌∙◌}
use mathlib.Core.Bool.{Bool, true, false, ◌||◌, not as opposite}
use mathlib.Core.List.{List, [], ◌∷◌, ◌++◌}
use Prim.Native.Nat.{ℕ, zero, suc, ◌+◌, ◌≤◌, ◌<◌}
use native.Mathlib.Omega.{arith}
use native.Mathlib.Numerals.{add-one}
use lib.Dec.{eqb}
use lib.ListN.{length, get_or, drop, set, replicate, length-append, length-drop, drop_of_length-le, get_or-replicate}
use lib.Seq.{get_or-set_same, get_or-set_other}
use borrow.Author.Tests.{eqb-true, eqb-false, lt-ltb, le-ltb}
use Rattle.spec.specs.Bytes.{Bytes}
use Rattle.spec.specs.Syntax.{name_bound, Line}
use Rattle.spec.specs.Show.{show_line}
use Rattle.spec.specs.Refusal.{Verdict, well_formed, refused, lines, ends_in_feed, Before, at_start, after_line, has_name, line_fault, lines_fault, decode_lines, gather, in_set, byte_fault, set_fault, refusal, decode}
use Rattle.spec.proofs.Shown.{decode_show_line, show_line_set}
use Rattle.lines.specs.Read.{line_named, set_line, line_step}
use Rattle.lines.specs.Verdict.{refused_as, told, Ended, modules_in}
use Rattle.lines.proofs.Going.{Going}
use Rattle.lines.specs.declared.read.Step.{Step}
use Rattle.lines.specs.declared.read.Step.TheVariants.{Module, Kind, Val, Item}
use Rattle.std.specs.Prelude.{Option, Some, None, Result, Ok}
use Rattle.lines.specs.declared.read.Fault.{Fault}
use Rattle.lines.proofs.Laws.{if_case, inside}
use Rattle.lines.proofs.Steps.{line_right, lines_feed, shown_fault, behind_feed, Passed, Failed, Right, Seen}

-- the rows from a line on
rows : (t : Bytes) (at feed : ℕ) (b : Before) (l : Line) → Passed t at feed b l → lines (drop at t) ≡ show_line l ∷ lines (drop (feed + 1) t)
rows t at feed b l p = ap lines p.span ∙ lines_feed (show_line l) (drop (feed + 1) t) (show_line_set l)

module _ (t : Bytes) (at feed : ℕ) (b : Before) (l : Line) (p : Passed t at feed b l) where
  pass_verdict : (n : ℕ) → lines_fault b n (lines (drop at t)) ≡ lines_fault (after_line b l) (suc n) (lines (drop (feed + 1) t))
  unfolding lines_fault
  pass_verdict n =
      let z : line_fault b (show_line l) ≡ 0 = shown_fault b l p.deep ∙ p.clean in
      ap (lines_fault b n) (rows t at feed b l p) ∙ rw (z, decode_show_line l p.deep, lines_fault)

  pub pass_lines : decode_lines (lines (drop at t)) ≡ l ∷ decode_lines (lines (drop (feed + 1) t))
  unfolding decode_lines
  pass_lines = ap decode_lines (rows t at feed b l p) ∙ ap (λ (m : Line). m ∷ decode_lines (lines (drop (feed + 1) t))) (decode_show_line l p.deep)

  pub pass_room : at < length t → (feed < length t) × (at < feed + 1)
  pass_room h =
      let f = inside t feed (λ z. let u = p.feed in omega arith) in
      (f, omega (arith, f, ap length p.span, length-drop at t, length-drop (feed + 1) t, length-append (show_line l) (10 ∷ drop (feed + 1) t)))

  pass_ends : ends_in_feed (drop at t) ≡ true → ends_in_feed (drop (feed + 1) t) ≡ true
  pass_ends e = ends_rest (show_line l) (drop (feed + 1) t) (ap ends_in_feed (sym p.span) ∙ e)
    where
      ends_rest : (x r : Bytes) → ends_in_feed (x ++ 10 ∷ r) ≡ true → ends_in_feed r ≡ true
      ends_rest [] r e = behind_feed r e
      ends_rest (c ∷ []) r e = behind_feed r (unfold ends_in_feed in e)
      ends_rest (c ∷ d ∷ x) r e = ends_rest (d ∷ x) r (unfold ends_in_feed in e)

zeros_seen : Seen (replicate name_bound 0) []
unfolding has_name
zeros_seen n h = rw (get_or-replicate {A = ℕ} name_bound n 0 0 h)

pub going_start : (t : Bytes) → Ended t → Going t 0 1 0 false (replicate name_bound 0)
going_start t e = record { kinds = []; verdict = refl; count = omega arith; agree = zeros_seen; ends = e.ends; few = omega arith; within = omega arith; early = omega arith }

module _ (t : Bytes) (at n modules : ℕ) (items : Bool) (seen : List ℕ) (g : Going t at n modules items seen) (h : at < length t) (feed : ℕ) where
  abbrev before : Before
  before = record { modules = modules; has_item = items; kinds = g.kinds }

  pub going_module : Right t at before (Ok (Module feed)) → length seen ≡ name_bound → Going t (feed + 1) (n + 1) (modules + 1) false (replicate (length seen) 0)
  unfolding after_line modules_in gather
  going_module r z =
      let p = r.1 in
      let m = pass_room t at feed before _ p h in
      record {
        kinds = [];
        verdict = rw (add-one n, add-one modules) (g.verdict ∙ pass_verdict t at feed before _ p n);
        count = let c = ap (λ (ls : List Line). length (gather ls).modules) (pass_lines t at feed before _ p) in omega (arith, g.count, c);
        agree = rw z zeros_seen;
        ends = pass_ends t at feed before _ p g.ends;
        few = let u = r.2 in omega arith;
        within = omega (arith, m.0);
        early = omega (arith, g.early, m.1);
      }

  -- one more name has a kind
  kind_seen : (k : ℕ) → k < name_bound → length seen ≡ name_bound → Seen (set seen k 1) (k ∷ g.kinds)
  unfolding has_name
  kind_seen k s z n q = go (eqb n k) refl
    where
      go : (x : Bool) → eqb n k ≡ x → eqb (get_or (set seen k 1) n 0) 0 ≡ opposite (eqb n k || has_name n g.kinds)
      go true e =
          let u = eqb-true n k e in
          let v : get_or (set seen k 1) n 0 ≡ 1 = ap (λ (m : ℕ). get_or (set seen k 1) m 0) u ∙ get_or-set_same seen k 1 0 (omega arith) in
          rw (v, e)
      go false e =
          let v : get_or (set seen k 1) n 0 ≡ get_or seen n 0 = get_or-set_other seen k n 1 0 (eqb-false n k e) in
          rw (v, e) (g.agree n q)

  pub going_kind : (k : ℕ) → Right t at before (Ok (Kind feed k)) → length seen ≡ name_bound → Going t (feed + 1) (n + 1) modules items (set seen k 1)
  unfolding after_line modules_in gather
  going_kind k r z =
      let p = r.1 in
      let m = pass_room t at feed before _ p h in
      record {
        kinds = k ∷ g.kinds;
        verdict = rw (add-one n) (g.verdict ∙ pass_verdict t at feed before _ p n);
        count = let c = ap (λ (ls : List Line). length (gather ls).modules) (pass_lines t at feed before _ p) in omega (arith, g.count, c);
        agree = kind_seen k r.2 z;
        ends = pass_ends t at feed before _ p g.ends;
        few = g.few;
        within = omega (arith, m.0);
        early = omega (arith, g.early, m.1);
      }

  pub going_val : Right t at before (Ok (Val feed)) → Going t (feed + 1) (n + 1) modules items seen
  unfolding after_line modules_in gather
  going_val r =
      let p = r.2 in
      let m = pass_room t at feed before _ p h in
      record {
        kinds = g.kinds;
        verdict = rw (add-one n) (g.verdict ∙ pass_verdict t at feed before _ p n);
        count = let c = ap (λ (ls : List Line). length (gather ls).modules) (pass_lines t at feed before _ p) in omega (arith, g.count, c);
        agree = g.agree;
        ends = pass_ends t at feed before _ p g.ends;
        few = g.few;
        within = omega (arith, m.0);
        early = omega (arith, g.early, m.1);
      }

  pub going_item : Right t at before (Ok (Item feed)) → Going t (feed + 1) (n + 1) modules true seen
  unfolding after_line modules_in gather
  going_item r =
      let p = r.1 in
      let m = pass_room t at feed before _ p h in
      record {
        kinds = g.kinds;
        verdict = rw (add-one n) (g.verdict ∙ pass_verdict t at feed before _ p n);
        count = let c = ap (λ (ls : List Line). length (gather ls).modules) (pass_lines t at feed before _ p) in omega (arith, g.count, c);
        agree = g.agree;
        ends = pass_ends t at feed before _ p g.ends;
        few = g.few;
        within = omega (arith, m.0);
        early = omega (arith, g.early, m.1);
      }

-- a line with a fault ends the reading
pub going_fault : (t : Bytes) (at n modules : ℕ) (items : Bool) (seen : List ℕ) (g : Going t at n modules items seen) (k : ℕ)
    → Failed t at (record { modules = modules; has_item = items; kinds = g.kinds }) k → refused_as k n ≡ told (lines_fault at_start 1 (lines t)) (modules_in (lines t))
unfolding lines_fault
going_fault t at n modules items seen g k f = go k f.fault f.above
  where
    b : Before
    b = record { modules = modules; has_item = items; kinds = g.kinds }

    go : (k : ℕ) → line_fault b f.line ≡ k → 0 < k → refused_as k n ≡ told (lines_fault at_start 1 (lines t)) (modules_in (lines t))
    go zero e h = absurd (omega arith)
    go (suc k) e h =
        let u : lines_fault b n (f.line ∷ f.others) ≡ refused (suc k) n = rw (e, lines_fault) in
        ap (λ (v : Verdict). told v (modules_in (lines t))) (sym (g.verdict ∙ ap (lines_fault b n) f.rows ∙ u))

pub going_end : (t : Bytes) (at n modules : ℕ) (items : Bool) (seen : List ℕ) → Going t at n modules items seen → length t ≤ at → Ok modules ≡ told (lines_fault at_start 1 (lines t)) (modules_in (lines t))
unfolding lines_fault modules_in lines decode_lines gather
going_end t at n modules items seen g h =
    let e : drop at t ≡ [] = drop_of_length-le t h in
    let v : lines_fault at_start 1 (lines t) ≡ well_formed = g.verdict ∙ rw e in
    let c : modules_in (lines t) ≡ modules + 0 = g.count ∙ rw e in
    let z : modules + 0 ≡ modules = omega arith in
    rw (v, c, z)

-- ---- the whole text

pub text_long : (t : Bytes) → 32768 < length t → refused_as 1 0 ≡ told (refusal t) (length (decode t))
unfolding refusal
text_long t h = rw (lt-ltb 32768 (length t) h, refusal)

-- 2 has the number 2
abbrev Twos : Verdict → Type 0
Twos well_formed = Unit {0}
Twos (refused k n) = k ≡ 2

bytes_two : (s : Bytes) (n : ℕ) → Twos (byte_fault n s)
unfolding byte_fault
bytes_two [] n = tt
bytes_two (c ∷ s) n = if_case Twos (in_set c) _ _ (λ e. bytes_two s _) (λ e. refl)

set_two : (t : Bytes) → Twos (set_fault t)
unfolding set_fault
set_two t = go (byte_fault 1 t) (bytes_two t 1)
  where
    go : (v : Verdict) → Twos v → Twos (elim v as (λ _. Verdict) [ refused k n ↦ refused k n | well_formed ↦ elim (ends_in_feed t) as (λ _. Verdict) [ true ↦ well_formed | false ↦ refused 2 (length (lines t)) ] ])
    go (refused k n) w = w
    go well_formed w = if_case Twos (ends_in_feed t) well_formed (refused 2 (length (lines t))) (λ _. tt) (λ e. refl)

pub text_set : (t : Bytes) (n : ℕ) → length t ≤ 32768 → Some n ≡ set_line t → refused_as 2 n ≡ told (refusal t) (length (decode t))
unfolding refusal set_line
text_set t n h e = go (set_fault t) refl (set_two t)
  where
    go : (v : Verdict) → set_fault t ≡ v → Twos v → refused_as 2 n ≡ told (refusal t) (length (decode t))
    go well_formed q w = let z : ◌≡◌ {A = Option ℕ} (Some n) None = e ∙ ap line_named q in let y : ◌≡◌ {A = ℕ} 0 1 = cc z in absurd (omega arith)
    go (refused k m) q w = let z : ◌≡◌ {A = Option ℕ} (Some n) (Some m) = e ∙ ap line_named q in rw (le-ltb 32768 (length t) h, q, refusal) (ap₂ refused_as (sym w) (cc z))

fine_set : (t : Bytes) → None ≡ set_line t → set_fault t ≡ well_formed
unfolding set_line
fine_set t e = go (set_fault t) refl
  where
    go : (v : Verdict) → set_fault t ≡ v → set_fault t ≡ well_formed
    go well_formed q = q
    go (refused k m) q = let z : ◌≡◌ {A = Option ℕ} None (Some m) = e ∙ ap line_named q in let y : ◌≡◌ {A = ℕ} 0 1 = cc z in absurd (omega arith)

pub ends_fine : (t : Bytes) → set_fault t ≡ well_formed → ends_in_feed t ≡ true
unfolding set_fault
ends_fine t q = go (byte_fault 1 t) refl (ends_in_feed t) refl
  where
    clash : {k n : ℕ} → refused k n ≡ well_formed → ⊥
    clash e = let z : ◌≡◌ {A = ℕ} 0 1 = cc in omega arith

    go : (v : Verdict) → byte_fault 1 t ≡ v → (b : Bool) → ends_in_feed t ≡ b → ends_in_feed t ≡ true
    go (refused k n) e b f = absurd (clash (let u : refused k n ≡ well_formed = rw (e, set_fault) at q in u))
    go well_formed e true f = f
    go well_formed e false f = absurd (clash (let u : refused 2 (length (lines t)) ≡ well_formed = rw (e, f, set_fault) at q in u))

pub text_ended : (t : Bytes) → length t ≤ 32768 → None ≡ set_line t → Ended t
text_ended t h e = record { short = h; ends = ends_fine t (fine_set t e) }

pub text_lines : (t : Bytes) → length t ≤ 32768 → None ≡ set_line t → told (lines_fault at_start 1 (lines t)) (modules_in (lines t)) ≡ told (refusal t) (length (decode t))
unfolding refusal modules_in decode
text_lines t h e = rw (le-ltb 32768 (length t) h, fine_set t e, refusal)

-- what a step says of the line at which the reader stands
pub going_right : (t : Bytes) (at n modules : ℕ) (items : Bool) (seen : List ℕ) (g : Going t at n modules items seen) → at < length t → (x : Result Step Fault) → x ≡ line_step t at modules items seen
    → Right t at (record { modules = modules; has_item = items; kinds = g.kinds }) x
going_right t at n modules items seen g h x e = rw e (line_right t at (record { modules = modules; has_item = items; kinds = g.kinds }) g.few seen g.agree h g.ends)
