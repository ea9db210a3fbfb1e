-- A file, one record after the other: a record lies within the bytes, and what is counted from each record on.
-- Assumes nothing.
use mathlib.Core.Path.{◌≡◌, sym, ap, ap₂, subst, ◌∙◌}
use mathlib.Core.Bool.{true, false}
use mathlib.Core.List.{List, [], ◌∷◌}
use Prim.Native.Nat.{ℕ, zero, suc, ◌+◌, ◌-◌, ◌≤◌, ◌<◌}
use native.Mathlib.Omega.{arith}
use lib.Dec.{eqb, ltb}
use lib.ListN.{length, take, drop, get_or, length-drop}
use borrow.Author.Tests.{ne_eqb, ltb-false}
use Rattle.spec.specs.Bytes.{Bytes}
use Rattle.spec.proofs.Numbers.{if_case}
use Rattle.lines.specs.Parts.{part_end}
use Rattle.lines.specs.Read.{number_after}
use Rattle.lines.specs.declared.parse.Number.{Number}
use Rattle.cases.specs.Answer.{agrees}
use Rattle.cases.specs.Stored.{case_key, sized, closed, answered, texted, named, record_of, Case, File, case_at, more_of, file_behind, file_within, file_of, differing, tally}
use Rattle.cases.specs.declared.record.Record.{Record}
use Rattle.std.specs.Prelude.{Option, Some, None}
use Rattle.cases.specs.declared.run.Tally.{Tally}

-- ---- where a record lies

abbrev Within : Bytes → Option Record → Type 0
Within s None = Unit {0}
Within s (Some r) = (r.body + r.text + r.answer ≤ length s) × (2 ≤ r.body)

module _ (s : Bytes) (name at text answer : ℕ) where
  sized_within : Within s (sized s name (at + 2) text answer)
  unfolding sized
  sized_within =
      if_case (Within s) (ltb (length s) (at + 2)) _ _ (λ _. tt)
      (λ a. if_case (Within s) (ltb (length s - (at + 2)) text) _ _ (λ _. tt)
      (λ b. if_case (Within s) (ltb (length s - (at + 2) - text) answer) _ _ (λ _. tt)
      (λ d. let x = ltb-false (length s) (at + 2) a in
      let y = ltb-false (length s - (at + 2)) text b in
      let z = ltb-false (length s - (at + 2) - text) answer d in (omega arith, omega arith))))

  closed_within : Within s (closed s name at text answer)
  unfolding closed
  closed_within =
      if_case (Within s) (eqb (get_or s at 0) 41) _ _
      (λ _. if_case (Within s) (eqb (get_or s (at + 1) 0) 10) _ _ (λ _. sized_within) (λ _. tt))
      (λ _. tt)

answered_within : (s : Bytes) (name text : ℕ) (n : Option Number) → Within s (answered s name text n)
answered_within s name text None = tt
answered_within s name text (Some answer) = closed_within s name answer.next text answer.value

texted_within : (s : Bytes) (name : ℕ) (n : Option Number) → Within s (texted s name n)
texted_within s name None = tt
texted_within s name (Some text) = answered_within s name text.value (number_after s text.next)

named_within : (s : Bytes) (name : ℕ) → Within s (named s name)
unfolding named
named_within s name = texted_within s name (number_after s name)

record_within : (s : Bytes) → Within s (record_of s)
unfolding record_of
record_within s = if_case (Within s) (case_key s) _ _ (λ _. named_within s (part_end s 6)) (λ _. tt)

pub within : (s : Bytes) (r : Record) → record_of s ≡ Some r → (r.body + r.text + r.answer ≤ length s) × (2 ≤ r.body)
within s r e = subst (Within s) e (record_within s)

-- ---- what is counted

abbrev plus : ℕ → ℕ → Tally → Tally
plus a b t = record { cases = a + t.cases; different = b + t.different }

-- so many cases were run and so many differ before t
pub record Ahead (s t : Bytes) (cases different : ℕ) : Type 0 where
  pub fuel : ℕ
  pub enough : length t ≤ fuel
  pub counted : tally (file_of s) ≡ plus cases different (tally (file_within fuel t))
  pub few : cases + length t ≤ length s
  pub fewer : different + length t ≤ length s

abbrev counted_as : ℕ → ℕ → Tally
counted_as a b = record { cases = a; different = b }

counts : {a b p q : ℕ} → a ≡ p → b ≡ q → counted_as a b ≡ counted_as p q
counts e f = ap₂ counted_as e f

pub ahead_all : (s : Bytes) → Ahead s s 0 0
unfolding file_of
ahead_all s = record { fuel = length s; enough = omega arith; counted = counts (omega arith) (omega arith); few = omega arith; fewer = omega arith }

module _ (s t : Bytes) (cases different : ℕ) where
  -- the end
  none_left : (fuel : ℕ) → length t ≡ 0 → file_within fuel t ≡ record { cases = []; whole = true }
  unfolding file_within
  none_left zero e = rw (e, file_within)
  none_left (suc fuel) e = rw (e, file_within)

  pub ahead_end : Ahead s t cases different → length t ≤ 0 → record { cases = cases; different = different } ≡ tally (file_of s)
  unfolding differing
  ahead_end h e =
      let z : length t ≡ 0 = omega arith in
      sym (h.counted ∙ ap (λ (f : File). plus cases different (tally f)) (none_left h.fuel z) ∙ counts (omega arith) (omega arith))

  -- the record in front
  front : (fuel : ℕ) → length t ≤ suc fuel → 0 < length t → file_within (suc fuel) t ≡ file_behind (file_within fuel) t (record_of t)
  unfolding file_within
  front fuel l p = rw (ne_eqb (length t) 0 (λ e. omega arith), file_within)

  pub ahead_bad : Ahead s t cases different → 0 < length t → record_of t ≡ None → record { cases = cases; different = different + 1 } ≡ tally (file_of s)
  unfolding file_behind differing
  ahead_bad h p e = go h.fuel h.enough h.counted
    where
      go : (fuel : ℕ) → length t ≤ fuel → tally (file_of s) ≡ plus cases different (tally (file_within fuel t)) → counted_as cases (different + 1) ≡ tally (file_of s)
      go zero l q = absurd (omega arith)
      go (suc f) l q = sym (q ∙ ap (λ (x : File). plus cases different (tally x)) (front f l p ∙ ap (file_behind (file_within f) t) e) ∙ counts (omega arith) (omega arith))

differs_not : (c : Case) (cs : List Case) → agrees c.text c.answer ≡ true → differing (c ∷ cs) ≡ differing cs
unfolding differing
differs_not c cs e = rw (e, differing)

differs : (c : Case) (cs : List Case) → agrees c.text c.answer ≡ false → differing (c ∷ cs) ≡ suc (differing cs)
unfolding differing
differs c cs e = rw (e, differing)

module _ (s t : Bytes) (cases different : ℕ) (r : Record) (e : record_of t ≡ Some r) (p : 0 < length t) where
  behind : ℕ → File
  behind f = file_within f (drop (r.body + r.text + r.answer) t)

  opened : (f : ℕ) → length t ≤ suc f → file_within (suc f) t ≡ more_of (case_at t r) (behind f)
  unfolding file_behind behind
  opened f l = front t t cases different f l p ∙ ap (file_behind (file_within f) t) e

  -- the case in front adds d to those that differ
  added : (d : ℕ) → ((cs : List Case) → differing (case_at t r ∷ cs) ≡ d + differing cs) → d ≤ 1 → Ahead s t cases different
      → Ahead s (drop (r.body + r.text + r.answer) t) (cases + 1) (different + d)
  unfolding behind
  added d g one h = go h.fuel h.enough h.counted
    where
      go : (fuel : ℕ) → length t ≤ fuel → tally (file_of s) ≡ plus cases different (tally (file_within fuel t)) → Ahead s (drop (r.body + r.text + r.answer) t) (cases + 1) (different + d)
      go zero l q = absurd (omega arith)
      go (suc f) l q =
          let w = within t r e in
          let ld = length-drop (r.body + r.text + r.answer) t in
          let k = h.few in
          let n = h.fewer in
          let x = g (behind f).cases in
          record {
            fuel = f;
            enough = omega arith;
            counted = q ∙ ap (λ (x : File). plus cases different (tally x)) (opened f l) ∙ counts (omega arith) (omega arith);
            few = omega arith;
            fewer = omega arith;
          }

  pub ahead_same : agrees (take r.text (drop r.body t)) (take r.answer (drop (r.body + r.text) t)) ≡ true → Ahead s t cases different → Ahead s (drop (r.body + r.text + r.answer) t) (cases + 1) different
  ahead_same g h = let z : different + 0 ≡ different = omega arith in subst (λ n. Ahead s (drop (r.body + r.text + r.answer) t) (cases + 1) n) z (added 0 (λ cs. differs_not _ cs g ∙ omega arith) (omega arith) h)

  pub ahead_differs : agrees (take r.text (drop r.body t)) (take r.answer (drop (r.body + r.text) t)) ≡ false → Ahead s t cases different → Ahead s (drop (r.body + r.text + r.answer) t) (cases + 1) (different + 1)
  ahead_differs g h = added 1 (λ cs. differs _ cs g ∙ omega arith) (omega arith) h
