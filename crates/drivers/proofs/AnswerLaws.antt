-- The answer, one law for each way of the code. Assumes nothing.
use mathlib.Core.Path.{◌≡◌, refl, sym, ap, ap₂, ◌∙◌, subst}
use mathlib.Core.Bool.{Bool, true, false, ◌||◌, true≢false}
use mathlib.Core.List.{List, [], ◌∷◌, ◌++◌}
use Prim.Native.Nat.{ℕ, ◌*◌, ◌≤◌, ◌<◌}
use native.Mathlib.Omega.{arith}
use lib.ListN.{length, take, drop, replicate, length-take}
use lib.Dec.{ltb}
use borrow.Author.Tests.{lt-ltb, le-ltb, ltb-false}
use Rattle.spec.specs.Bytes.{Bytes}
use Rattle.spec.specs.Syntax.{name_bound, Design}
use Rattle.spec.specs.Refusal.{Verdict, well_formed, refused, refusal, decode}
use Rattle.spec.specs.Summary.{Kept}
use Rattle.spec.specs.Report.{Report, show_reports}
use Rattle.spec.specs.Check.{Lent, refuse, accept, answer_checked, answer_read, too_short, check_drivers, check_design, check_call}
use Rattle.spec.specs.Check as check
use Rattle.sites.specs.Own.{places}
use Rattle.lines.specs.Tables.{put_kinds, put_mods}
use Rattle.lines.specs.Reader.{unread, number_of, line_of, by_verdict, read_as, kinds_after, mods_after}
use Rattle.lines.specs.declared.tables.ReadError.{ReadError}
use Rattle.lines.specs.declared.tables.ReadError.TheVariants as reads
use Rattle.std.specs.Prelude.{Result, Ok, Err}
use Rattle.lines.proofs.Answers.{room_fits, code_back}
use Rattle.walk.specs.Walk.{Got, Tally, check_all, check_fused}
use Rattle.walk.specs.Fold.{tally_of}
use Rattle.walk.proofs.Fused.{unless_going, fused}
use Rattle.steps.specs.Modules.{name_places}
use Rattle.summary.specs.Keeps.{Keeps, kept_places}
use Rattle.collect.specs.Cycle.{Tabled}
use Rattle.drivers.specs.Emits.{Within, Appended}
use Rattle.graph.specs.Stands.{graph_places}
use Rattle.graph.specs.Cycles.{work_places}
use Rattle.drivers.specs.Check.{Enough, Tallied, first_place, answer_of, answer_for, refusal_of, accepted, lent_places, slices, exit_of}
use Rattle.drivers.specs.declared.emit.Place.{Place}
use Rattle.drivers.specs.declared.check.Checked.{Checked}
use Rattle.edges.specs.declared.Stop.{Stop}
use Rattle.drivers.specs.declared.check.Accepted.{Accepted}
use Rattle.drivers.specs.declared.check.Refusal.{Refusal}
use Rattle.drivers.specs.declared.check.Refusal.TheVariants as refusals
use Rattle.lines.specs.declared.read.Refusal as read
use Rattle.lines.specs.Read.{fault_code}
use Rattle.std.specs.Prelude.{Result, Ok, Err, IsErrAnd}
use Rattle.drivers.specs.declared.check.Answer.{Answer}

-- ---- of what the check of all modules gives

module _ (c : check.Checked) (buf : Bytes) where
  of_full : c.full ≡ true → answer_checked c buf ≡ refuse 20 0 buf
  unfolding answer_checked
  of_full e = rw e

  module _ (e : c.full ≡ false) where
    of_long : length buf < length (show_reports c.reports) → answer_checked c buf ≡ refuse 21 0 buf
    unfolding answer_checked
    of_long h = rw (e, lt-ltb (length buf) (length (show_reports c.reports)) h, answer_checked)

    of_fitting : length (show_reports c.reports) ≤ length buf → answer_checked c buf ≡ accept (show_reports c.reports) c buf
    unfolding answer_checked
    of_fitting h = rw (e, le-ltb (length buf) (length (show_reports c.reports)) h, answer_checked)

no_length : {A : Type 0} (l : List A) → length l ≡ 0 → l ≡ []
no_length [] e = refl
no_length (a ∷ l) e = absurd (omega arith)

within_first : (old : Bytes) → Within old first_place
within_first old = record { end = omega arith; reports = omega arith }

-- the first run, which only counts, with no summary kept
module _ (d : Design) (buf buf' : Bytes) (k : List ℕ) (r : Result Checked Stop) (R : Tallied r false buf first_place buf' k (check_all d [] 0 d)) where
  first : Tallied r false buf first_place buf' k (check_fused d)
  unfolding check_fused
  first = R

  pub answer_full : {s : Stop} → r ≡ Err s → {x : check.Answer} → x ≡ refuse 20 0 buf' → x ≡ answer_checked (check_design d) buf
  answer_full e f =
      let t = subst (λ (c : Result Checked Stop). Tallied c false buf first_place buf' k (check_fused d)) e first in
      f ∙ ap (refuse 20 0) (t.1 (within_first buf) refl) ∙ sym (of_full (check_design d) buf ((fused.full_exactly d).0 t.0))

  module _ {one : Checked} (e : r ≡ Ok one) where
    abbrev q : Place
    q = one.next

    abbrev rounds : ℕ
    rounds = one.rounds

    done : Tallied (Ok one) false buf first_place buf' k (check_fused d)
    done = subst (λ (c : Result Checked Stop). Tallied c false buf first_place buf' k (check_fused d)) e first

    abbrev c : check.Checked
    c = check_design d

    known : (c.full ≡ false) × (done.0 ≡ tally_of c)
    known = unless_going c.full (tally_of c) done.0 (sym (fused.whole d) ∙ done.1)

    counted : Appended false buf first_place (show_reports c.reports) (length c.reports) buf' q
    counted =
        subst (λ (l : List Report). Appended false buf first_place (show_reports l) (length l) buf' q) (ap (λ (t : Tally). t.reports) known.1) (done.2 (within_first buf))

    same : buf' ≡ buf
    same = counted.kept refl

    rounds_are : rounds ≡ c.rounds
    rounds_are = done.3 ∙ ap (λ (t : Tally). t.rounds) known.1

    pub answer_long : length buf' < q.at → {x : check.Answer} → x ≡ refuse 21 0 buf' → x ≡ answer_checked c buf
    answer_long h f =
        let l = ap length same in
        let p = counted.at in
        f ∙ ap (refuse 21 0) same ∙ sym (of_long c buf known.0 (omega arith))

    module _ (h : q.at ≤ length buf') where
      fits : q.at ≡ length (show_reports c.reports)
      fits = let l = ap length same in let p = counted.at in omega arith

      room : length (show_reports c.reports) ≤ length buf
      room = let l = ap length same in let p = counted.at in omega arith

      pub answer_none : q.reports ≡ 0 → {x : check.Answer} → x ≡ accepted 0 0 rounds buf' → x ≡ answer_checked c buf
      unfolding show_reports
      answer_none z e' =
          let n : c.reports ≡ [] = no_length c.reports (let k = counted.count (omega (arith, ap length same)) in omega arith) in
          let b : length (show_reports c.reports) ≡ 0 = ap (λ (l : List Report). length (show_reports l)) n in
          let f : show_reports c.reports ++ drop (length (show_reports c.reports)) buf ≡ buf = ap (λ (l : List Report). show_reports l ++ drop (length (show_reports l)) buf) n in
          let y : accepted 0 0 rounds buf' ≡ accept (show_reports c.reports) c buf =
          λ j. record {
            number = 0;
            line = 0;
            bytes_written = sym b j;
            reports = sym (ap length n) j;
            rounds = rounds_are j;
            buffer = (same ∙ sym f) j;
          } in
          e' ∙ y ∙ sym (of_fitting c buf known.0 room)

      -- the second run, which writes, from the words that the first left
      module _ (buf'' : Bytes) (k' : List ℕ) (r' : Result Checked Stop) (R' : (kept : Kept) → Keeps k kept [] → Tallied r' true buf' first_place buf'' k' (check_all d kept 0 d)) where
        second : Tallied r' true buf' first_place buf'' k' (check_fused d)
        second = subst (λ (x : Got Tally). Tallied r' true buf' first_place buf'' k' x) (fused.again d done.0 done.1 ∙ sym done.1) (R' done.0.kept done.4)

        rewritten : {again : Checked} → r' ≡ Ok again → accepted q.at q.reports rounds buf'' ≡ answer_checked c buf
        rewritten {again} e' =
            let q' = again.next in
            let t = subst (λ (x : Result Checked Stop). Tallied x true buf' first_place buf'' k' (check_fused d)) e' second in
            let u : t.0 ≡ tally_of c = (unless_going c.full (tally_of c) t.0 (sym (fused.whole d) ∙ t.1)).1 in
            let w = subst (λ (l : List Report). Appended true buf' first_place (show_reports l) (length l) buf'' q') (ap (λ (y : Tally). y.reports) u) (t.2 (within_first buf')) in
            let l = ap length same in
            let y : q'.at ≡ length (show_reports c.reports) = omega (arith, w.at, fits) in
            let f : buf'' ≡ show_reports c.reports ++ drop (length (show_reports c.reports)) buf =
            w.written refl (omega (arith, fits)) ∙ ap (λ (i : ℕ). show_reports c.reports ++ drop i buf') y
            ∙ ap (λ (b : Bytes). show_reports c.reports ++ drop (length (show_reports c.reports)) b) same in
            let n : q.reports ≡ length c.reports = let z = counted.count (omega arith) in omega arith in
            (λ j. record {
              number = 0;
              line = 0;
              bytes_written = fits j;
              reports = n j;
              rounds = rounds_are j;
              buffer = f j;
            }) ∙ sym (of_fitting c buf known.0 room)

        by_run : (x : Result Checked Stop) → r' ≡ x → accepted q.at q.reports rounds buf'' ≡ answer_checked c buf
        by_run (Err x) e' =
            let t = subst (λ (x : Result Checked Stop). Tallied x true buf' first_place buf'' k' (check_fused d)) e' second in
            absurd (true≢false (sym ((fused.full_exactly d).0 t.0) ∙ known.0))
        by_run (Ok again) e' = rewritten e'

        pub answer_written : {x : check.Answer} → x ≡ accepted q.at q.reports rounds buf'' → x ≡ answer_checked c buf
        answer_written e' = e' ∙ by_run r' refl

        -- the second run passes no limit, because the first passed none
        pub not_again : {x : Stop} → r' ≡ Err x → ⊥
        not_again e' =
            let t = subst (λ (x : Result Checked Stop). Tallied x true buf' first_place buf'' k' (check_fused d)) e' second in
            true≢false (sym ((fused.full_exactly d).0 t.0) ∙ known.0)

-- the refusal where a limit is passed or a constant is outside INT
pub stopped : (r : Result Accepted Refusal) → IsErrAnd r (λ e. e ≡ refusals.Limit) → (buf : Bytes) → answer_for r buf ≡ refuse 20 0 buf
stopped (Ok a) h buf = absurd h
stopped (Err e) h buf = ap (λ (x : Refusal). answer_for (Err x) buf) h

-- ---- of the slices' lengths and the text

or_false : (a : Bool) → a ≡ a || false
or_false true = refl
or_false false = refl

or_none : (a b : Bool) → a || b ≡ false → (a ≡ false) × (b ≡ false)
or_none true b e = absurd (true≢false e)
or_none false b e = (refl, e)

module _ (kinds mods names own g w k : ℕ) where
  abbrev working : List Lent
  working = lent_places kinds mods names own g w k

  abbrev Long : Type 0
  Long = (32 * name_bound ≤ kinds) × (128 ≤ mods) × (name_places ≤ names) × (places ≤ own) × (graph_places ≤ g) × (work_places ≤ w) × (kept_places ≤ k)

  pub short_kinds : kinds < 32 * name_bound → true ≡ too_short working
  unfolding too_short
  short_kinds h = rw (lt-ltb kinds 8192 h)

  pub short_mods : 32 * name_bound ≤ kinds → mods < 128 → true ≡ too_short working
  unfolding too_short
  short_mods a h = rw (le-ltb kinds 8192 a, lt-ltb mods 128 h)

  pub short_names : 32 * name_bound ≤ kinds → 128 ≤ mods → names < name_places → true ≡ too_short working
  unfolding too_short
  short_names a b h = rw (le-ltb kinds 8192 a, le-ltb mods 128 b, lt-ltb names 6616 h)

  pub short_own : 32 * name_bound ≤ kinds → 128 ≤ mods → name_places ≤ names → own < places → true ≡ too_short working
  unfolding too_short
  short_own a b c h = rw (le-ltb kinds 8192 a, le-ltb mods 128 b, le-ltb names 6616 c, lt-ltb own 11016 h)

  pub short_graph : 32 * name_bound ≤ kinds → 128 ≤ mods → name_places ≤ names → places ≤ own → g < graph_places → true ≡ too_short working
  unfolding too_short
  short_graph a b c d h = rw (le-ltb kinds 8192 a, le-ltb mods 128 b, le-ltb names 6616 c, le-ltb own 11016 d, lt-ltb g 15874 h)

  pub short_work : 32 * name_bound ≤ kinds → 128 ≤ mods → name_places ≤ names → places ≤ own → graph_places ≤ g → w < work_places → true ≡ too_short working
  unfolding too_short
  short_work a b c d e h = rw (le-ltb kinds 8192 a, le-ltb mods 128 b, le-ltb names 6616 c, le-ltb own 11016 d, le-ltb g 15874 e, lt-ltb w 29190 h)

  pub short_kept : 32 * name_bound ≤ kinds → 128 ≤ mods → name_places ≤ names → places ≤ own → graph_places ≤ g → work_places ≤ w → ltb k kept_places ≡ too_short working
  unfolding too_short
  short_kept a b c d e f =
      rw (le-ltb kinds 8192 a, le-ltb mods 128 b, le-ltb names 6616 c, le-ltb own 11016 d, le-ltb g 15874 e, le-ltb w 29190 f) (or_false (ltb k kept_places))

  pub long_enough : false ≡ too_short working → Long
  unfolding too_short
  long_enough z =
      let a = or_none (ltb kinds (32 * name_bound)) _ (sym z) in
      let b = or_none (ltb mods 128) _ a.1 in
      let c = or_none (ltb names name_places) _ b.1 in
      let d = or_none (ltb own places) _ c.1 in
      let e = or_none (ltb g graph_places) _ d.1 in
      let f = or_none (ltb w work_places) _ e.1 in
      let h = or_none (ltb k kept_places) false f.1 in (
        ltb-false kinds (32 * name_bound) a.0,
        ltb-false mods 128 b.0,
        ltb-false names name_places c.0,
        ltb-false own places d.0,
        ltb-false g graph_places e.0,
        ltb-false w work_places f.0,
        ltb-false k kept_places h.0,
      )

-- ---- of the text

module _ (working : List Lent) (text buf : Bytes) where
  too_few : true ≡ too_short working → refuse 20 0 buf ≡ check_drivers working text buf
  unfolding check_drivers
  too_few e = rw (sym e, check_drivers)

  by_text : false ≡ too_short working → (v : Verdict) → refusal text ≡ v → answer_read v text buf ≡ check_drivers working text buf
  unfolding check_drivers
  by_text e v r = rw (sym e, check_drivers) (ap (λ (u : Verdict). answer_read u text buf) (sym r))

read_short : (v : Verdict) (n : ℕ) → Err reads.Short ≡ by_verdict unread (Ok n) v → ⊥
read_short well_formed n e = let z : ◌≡◌ {A = ℕ} 0 1 = cc in omega arith
read_short (refused a b) n e = let z : ◌≡◌ {A = ℕ} 0 1 = cc in omega arith

read_refused : (text : Bytes) (v : Verdict) (n : ℕ) (x : read.Refusal) → refusal text ≡ v → Err (reads.Refused x) ≡ by_verdict unread (Ok n) v → v ≡ refused (fault_code x.fault) x.line
read_refused text well_formed n x q e = let z : ◌≡◌ {A = ℕ} 0 1 = cc in absurd (omega arith)
read_refused text (refused i j) n x q e = ap₂ refused (sym (code_back text i j q) ∙ sym (ap number_of e)) (sym (ap line_of e))

read_accepted : (v : Verdict) (n c : ℕ) → Ok c ≡ by_verdict unread (Ok n) v → (v ≡ well_formed) × (c ≡ n)
read_accepted well_formed n c e = (refl, cc)
read_accepted (refused i j) n c e = let z : ◌≡◌ {A = ℕ} 0 1 = cc in absurd (omega arith)

module _ (text buf : Bytes) (kinds mods names own g w k : List ℕ) {b : Bool}
    (e : b ≡ too_short (lent_places (length kinds) (length mods) (length names) (length own) (length g) (length w) (length k))) where
  abbrev whole : check.Answer
  whole = check_drivers (lent_places (length kinds) (length mods) (length names) (length own) (length g) (length w) (length k)) text buf

  pub text_short : b ≡ true → {x : check.Answer} → x ≡ refuse 20 0 buf → x ≡ whole
  text_short f p = p ∙ too_few _ text buf (sym f ∙ e)

  module _ (f : b ≡ false) where
    long : Long (length kinds) (length mods) (length names) (length own) (length g) (length w) (length k)
    long = long_enough (length kinds) (length mods) (length names) (length own) (length g) (length w) (length k) (sym f ∙ e)

    pub own_fits : places ≤ length own
    own_fits = long.3

    pub part_long : length (take places own) ≡ places
    part_long = let l = length-take places own in let h = long.3 in omega arith

    module _ {r : Result ℕ ReadError} (q : r ≡ read_as (length kinds) (length mods) text) where
      verdict : r ≡ by_verdict unread (Ok (length (decode text))) (refusal text)
      unfolding read_as
      verdict = q ∙ sym (room_fits _ _ (length kinds) (length mods) long.0 long.1)

      pub text_refused : (x : ReadError) → r ≡ Err x → (y : Result Accepted Refusal) → IsErrAnd y (λ i. i ≡ refusal_of x) → answer_for y buf ≡ whole
      text_refused reads.Short z y h = absurd (read_short (refusal text) (length (decode text)) (sym z ∙ verdict))
      text_refused (reads.Refused x) z (Ok a) h = absurd h
      text_refused (reads.Refused x) z (Err i) h =
          ap (λ (u : Refusal). answer_for (Err u) buf) h
          ∙ by_text _ text buf (sym f ∙ e) (refused (fault_code x.fault) x.line) (read_refused text (refusal text) (length (decode text)) x refl (sym z ∙ verdict))

      module _ {count : ℕ} (z : r ≡ Ok count) where
        formed : (refusal text ≡ well_formed) × (count ≡ length (decode text))
        formed = read_accepted (refusal text) (length (decode text)) count (sym z ∙ verdict)

        tabled : (kinds' mods' : List ℕ) → kinds' ≡ kinds_after kinds (length mods) text → mods' ≡ mods_after mods (length kinds) text
            → length kinds' ≡ length kinds → length mods' ≡ length mods → Tabled text kinds' mods' count
        unfolding kinds_after mods_after
        tabled kinds' mods' zk zm lk lm =
            record {
              formed = formed.0;
              modules = formed.1;
              kinds_fit = omega (arith, long.0);
              mods_fit = omega (arith, long.1);
              kinds_are = zk ∙ sym (room_fits _ _ (length kinds) (length mods) long.0 long.1)
                  ∙ ap (by_verdict (λ i j. replicate {A = ℕ} (length kinds) 0) (put_kinds 0 (decode text) (replicate (length kinds) 0))) formed.0
                  ∙ ap (λ (n : ℕ). put_kinds 0 (decode text) (replicate n 0)) (sym lk);
              mods_are = zm ∙ sym (room_fits _ _ (length kinds) (length mods) long.0 long.1)
                  ∙ ap (by_verdict (λ i j. replicate {A = ℕ} (length mods) 0) (put_mods 0 0 (decode text) (replicate (length mods) 0))) formed.0
                  ∙ ap (λ (n : ℕ). put_mods 0 0 (decode text) (replicate n 0)) (sym lm);
            }

        pub text_accepted : (kinds' mods' : List ℕ) → kinds' ≡ kinds_after kinds (length mods) text → mods' ≡ mods_after mods (length kinds) text
            → length kinds' ≡ length kinds → length mods' ≡ length mods → {x : check.Answer}
            → (Tabled text kinds' mods' count → Enough names (take places own) g w k → x ≡ answer_checked (check_design (decode text)) buf) → x ≡ whole
        text_accepted kinds' mods' zk zm lk lm p =
            p (tabled kinds' mods' zk zm lk lm) (record { named = long.2; owned = part_long; graphed = long.4; roomy = long.5; keeping = long.6 })
            ∙ by_text _ text buf (sym f ∙ e) well_formed formed.0

-- ---- of the call

pub exit_is : (kinds mods names own g w k : List ℕ) (text buf : Bytes) {a : Answer} {buf' : Bytes} {kinds' mods' names' own' g' w' k' : List ℕ}
    → answer_of a buf' ≡ check_drivers (lent_places (length kinds) (length mods) (length names) (length own) (length g) (length w) (length k)) text buf
    → kinds' ≡ replicate (length kinds) 0 → mods' ≡ replicate (length mods) 0 → names' ≡ replicate (length names) 0 → own' ≡ replicate (length own) 0
    → g' ≡ replicate (length g) 0 → w' ≡ replicate (length w) 0 → k' ≡ replicate (length k) 0
    → exit_of a buf' kinds' mods' names' own' g' w' k' ≡ check_call (slices kinds mods names own g w k) text buf
unfolding check_call
exit_is kinds mods names own g w k text buf p e1 e2 e3 e4 e5 e6 e7 =
    λ j. record { answer = p j; working = e1 j ∷ e2 j ∷ e3 j ∷ e4 j ∷ e5 j ∷ e6 j ∷ e7 j ∷ [] }
