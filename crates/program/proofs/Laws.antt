-- What is printed of an answer, that it lies in the report buffer, and that the other bytes of the buffer stay. 01: The report.
-- Assumes nothing.
use mathlib.Core.Path.{◌≡◌, refl, sym, ap, subst, ◌∙◌}
use mathlib.Core.Bool.{false}
use mathlib.Core.List.{List, map, ◌++◌}
use Prim.Native.Nat.{ℕ, zero-le, ◌+◌, ◌≤◌}
use native.Mathlib.Omega.{arith}
use lib.Dec.{ltb}
use lib.ListN.{length, take, drop, replicate, length-replicate, length-take, length-append}
use lib.Seq.{take-append_seam, drop-append_seam}
use borrow.Author.Tests.{ne_eqb, le-ltb, le-leb, ltb-false}
use Rattle.spec.specs.Bytes.{Bytes}
use Rattle.spec.specs.Refusal.{Verdict, well_formed, refused, refusal, decode}
use Rattle.spec.specs.Report.{show_reports}
use Rattle.spec.specs.Check.{Checked, answer_checked, answer_read, Lent, Exit, lent, too_short, check_call, program_buffer}
use Rattle.spec.specs.Check as check
use Rattle.spec.specs.Cases.{program_prints, Prints}
use Rattle.spec.proofs.Cases.{computed_print, program_print}
use Rattle.spec.proofs.Numbers.{if_case}
use Rattle.report.specs.Line.{Written, put_by, placed, refused_line}
use Rattle.std.specs.Prelude.{Option, Some}
use Rattle.drivers.specs.Check.{answer_of, slices, exit_of}
use Rattle.drivers.specs.declared.check.Answer.{Answer}

-- ---- the written bytes lie in the buffer

abbrev pub IsPrefixLen : ℕ → Bytes → Type 0
IsPrefixLen n xs = (n ≤ length xs) × (n ≡ length (take n xs))

module _ (text buf : Bytes) where
  abbrev Fits : check.Answer → Type 0
  Fits a = a.bytes_written ≤ length buf

  checked_fits : (c : Checked) → Fits (answer_checked c buf)
  unfolding answer_checked
  checked_fits c =
      if_case Fits c.full _ _ (λ _. zero-le)
      (λ _. if_case Fits (ltb (length buf) (length (show_reports c.reports))) _ _ (λ _. zero-le) (λ e. ltb-false (length buf) (length (show_reports c.reports)) e))

  read_fits : (v : Verdict) → Fits (answer_read v text buf)
  read_fits (refused n l) = zero-le
  read_fits well_formed = checked_fits (check.check_design (decode text))

  fits : (working : List Lent) → Fits (check.check_drivers working text buf)
  unfolding check.check_drivers
  fits working = if_case Fits (too_short working) _ _ (λ _. zero-le) (λ _. read_fits (refusal text))

-- ---- the other bytes of the buffer stay, all of them where the text is refused

module _ (text buf : Bytes) where
  abbrev Behind : check.Answer → Type 0
  Behind a = (drop a.bytes_written a.buffer ≡ drop a.bytes_written buf) × ((a.number ≡ 0 → ⊥) → a.buffer ≡ buf)

  checked_behind : (c : Checked) → Behind (answer_checked c buf)
  unfolding answer_checked
  checked_behind c =
      if_case Behind c.full _ _ (λ _. (refl, λ _. refl))
      (λ _. if_case Behind (ltb (length buf) (length (show_reports c.reports))) _ _ (λ _. (refl, λ _. refl))
      (λ _. (drop-append_seam (show_reports c.reports) (drop (length (show_reports c.reports)) buf), λ f. absurd (f refl))))

  read_behind : (v : Verdict) → Behind (answer_read v text buf)
  read_behind (refused n l) = (refl, λ _. refl)
  read_behind well_formed = checked_behind (check.check_design (decode text))

  behind : (working : List Lent) → Behind (check.check_drivers working text buf)
  unfolding check.check_drivers
  behind working = if_case Behind (too_short working) _ _ (λ _. (refl, λ _. refl)) (λ _. read_behind (refusal text))

-- what one call prints is what the program prints
prints_any : (text : Bytes) (working : List Lent) → too_short working ≡ false → (buf : Bytes) → length buf ≡ program_buffer
    → Prints text (program_prints (check.check_drivers working text buf))
prints_any text working long buf room = program_print text _ (sym (program_print text (computed_print text) refl working long buf room))

-- an array of n zeros has n places
pub zeros : (n : ℕ) → n ≤ length (replicate {A = ℕ} n 0)
zeros n = omega (arith, length-replicate {A = ℕ} n 0)

pub zeros_past : (m n : ℕ) → m ≤ n → m ≤ length (replicate {A = ℕ} n 0)
zeros_past m n h = omega (arith, length-replicate {A = ℕ} n 0)

-- ---- of a call with working slices that are long enough

module _ (kinds mods names own g w k : List ℕ) (l1 : 8192 ≤ length kinds) (l2 : 128 ≤ length mods) (l3 : 6616 ≤ length names) (l4 : 11016 ≤ length own)
    (l5 : 15874 ≤ length g) (l6 : 29190 ≤ length w) (l7 : 2145 ≤ length k) where
  long : too_short (map lent (slices kinds mods names own g w k)) ≡ false
  unfolding too_short
  long =
      rw (le-ltb (length kinds) 8192 l1, le-ltb (length mods) 128 l2, le-ltb (length names) 6616 l3, le-ltb (length own) 11016 l4, le-ltb (length g) 15874 l5, le-ltb (length w) 29190 l6, le-ltb (length k) 2145 l7)

  module _ (text buf : Bytes) (room : length buf ≡ program_buffer) (a : Answer) (buf' : Bytes) {kinds' mods' names' own' g' w' k' : List ℕ}
      (same : length buf' ≡ length buf)
      (e : exit_of a buf' kinds' mods' names' own' g' w' k' ≡ check_call (slices kinds mods names own g w k) text buf) where
    answered : answer_of a buf' ≡ check.check_drivers (map lent (slices kinds mods names own g w k)) text buf
    unfolding check_call
    answered = ap (λ (x : Exit). x.answer) e

    prints : Prints text (program_prints (answer_of a buf'))
    prints = subst (λ (x : check.Answer). Prints text (program_prints x)) (sym answered) (prints_any text _ long buf room)

    stays : Behind text buf (answer_of a buf')
    stays = subst (Behind text buf) (sym answered) (behind text buf _)

    pub refused_stays : (a.number ≡ 0 → ⊥) → buf' ≡ buf
    refused_stays = stays.1

    pub prints_reports : a.number ≡ 0 → Prints text (take a.bytes buf') × IsPrefixLen a.bytes buf' × (drop a.bytes buf' ≡ drop a.bytes buf)
    prints_reports z =
        let p : program_prints (answer_of a buf') ≡ take a.bytes buf' = rw (z) in
        let h : a.bytes ≤ length buf = subst (Fits text buf) (sym answered) (fits text buf _) in
        (subst (Prints text) p prints, (omega arith, omega (arith, length-take a.bytes buf')), stays.0)

    pub prints_refused : (a.number ≡ 0 → ⊥) → (p : Bytes) → p ≡ refused_line a.number a.line → Prints text p
    unfolding refused_line
    prints_refused f p q =
        let r : program_prints (answer_of a buf') ≡ refused_line a.number a.line = rw (ne_eqb a.number 0 f, check.printed) in
        subst (Prints text) (r ∙ sym q) prints

-- a piece that fits, written at the front of a buffer
module _ (p buf buf' : Bytes) (r : Option ℕ) (m : ℕ) (e : m ≡ length p) (l : m ≤ length buf) (q : put_by r buf' ≡ placed buf 0 p) where
  front : buf' ≡ p ++ drop (length p) buf
  unfolding placed
  front =
      let z : 0 + length p ≡ length p = omega arith in
      let w : placed buf 0 p ≡ put_by (Some (0 + length p)) (take 0 buf ++ p ++ drop (0 + length p) buf) = rw (le-leb (0 + length p) (length buf) (omega arith), placed) in
      ap (λ (w : Written). w.buffer) (q ∙ w) ∙ ap (λ (k : ℕ). p ++ drop k buf) z

  pub put_front : (take m buf' ≡ p) × IsPrefixLen m buf' × (drop m buf' ≡ drop m buf)
  put_front =
      let t : take m buf' ≡ p = rw (front, e) (take-append_seam p (drop (length p) buf)) in
      let k : length buf' ≡ length p + length (drop (length p) buf) = ap length front ∙ length-append p (drop (length p) buf) in
      (t, (omega arith, e ∙ ap length (sym t)), rw (front, e) (drop-append_seam p (drop (length p) buf)))
