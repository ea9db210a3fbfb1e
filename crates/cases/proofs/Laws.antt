-- Laws of the definitions of specs/, one for each way through the code.
-- Assumes nothing.
use mathlib.Core.Path.{◌≡◌, refl, sym}
use mathlib.Core.Bool.{Bool, true, false, ◌&&◌}
use mathlib.Core.List.{[], ◌∷◌}
use Prim.Native.Nat.{ℕ, ◌+◌, ◌-◌, ◌≤◌, ◌<◌}
use lib.Dec.{eqb}
use lib.Pointwise.{pointwise}
use lib.ListN.{length, get_or, replicate, length-replicate}
use borrow.Author.Tests.{eq-eqb, ne_eqb, lt-ltb, le-ltb}
use Rattle.spec.specs.Bytes.{Bytes, same_bytes}
use Rattle.spec.specs.Check.{too_short, program_buffer}
use Rattle.spec.specs.Cases.{Prints}
use Rattle.lines.specs.Parse.{code_after, key, word_at}
use Rattle.lines.specs.Parts.{part_end}
use Rattle.cases.specs.Answer.{answer_to}
use Rattle.cases.specs.Stored.{case_key, sized, closed, named, record_of}
use Rattle.std.specs.Prelude.{Some, None}

-- ---- two runs of bytes

pub same_pointwise : (a b : Bytes) → pointwise eqb a b ≡ same_bytes a b
unfolding same_bytes
same_pointwise [] [] = refl
same_pointwise [] (y ∷ b) = refl
same_pointwise (x ∷ a) [] = refl
same_pointwise (x ∷ a) (y ∷ b) = go (eqb x y) (same_pointwise a b)
  where
    go : (t : Bool) → pointwise eqb a b ≡ same_bytes a b → (t && pointwise eqb a b) ≡ (elim t as (λ _. Bool) [ true ↦ same_bytes a b | false ↦ false ])
    go true h = h
    go false h = refl

-- ---- the record at the head of some bytes

module _ (s : Bytes) where
  pub case_open : get_or s 0 0 ≡ 40 → eqb (word_at s 1).key 26677294676 ≡ case_key s
  unfolding case_key key code_after
  case_open e = rw (e, case_key)

  pub case_not : (get_or s 0 0 ≡ 40 → ⊥) → false ≡ case_key s
  unfolding case_key
  case_not f = rw (ne_eqb (get_or s 0 0) 40 f, case_key)

  module _ (name body text answer : ℕ) where
    pub sized_short : length s < body → None ≡ sized s name body text answer
    unfolding sized
    sized_short h = rw (lt-ltb _ _ h, sized)

    module _ (b : body ≤ length s) where
      pub sized_no_text : length s - body < text → None ≡ sized s name body text answer
      unfolding sized
      sized_no_text h = rw (le-ltb _ _ b, lt-ltb _ _ h, sized)

      module _ (t : text ≤ length s - body) where
        pub sized_no_answer : length s - body - text < answer → None ≡ sized s name body text answer
        unfolding sized
        sized_no_answer h = rw (le-ltb _ _ b, le-ltb _ _ t, lt-ltb _ _ h, sized)

        pub sized_in : answer ≤ length s - body - text → Some (record { name = name; body = body; text = text; answer = answer }) ≡ sized s name body text answer
        unfolding sized
        sized_in h = rw (le-ltb _ _ b, le-ltb _ _ t, le-ltb _ _ h, sized)

  module _ (name at text answer : ℕ) where
    pub closed_not : (get_or s at 0 ≡ 41 → ⊥) → None ≡ closed s name at text answer
    unfolding closed
    closed_not f = rw (ne_eqb _ _ f, closed)

    module _ (e : get_or s at 0 ≡ 41) where
      pub closed_no_feed : (get_or s (at + 1) 0 ≡ 10 → ⊥) → None ≡ closed s name at text answer
      unfolding closed
      closed_no_feed f = rw (eq-eqb _ _ e, ne_eqb _ _ f, closed)

      pub closed_here : get_or s (at + 1) 0 ≡ 10 → sized s name (at + 2) text answer ≡ closed s name at text answer
      unfolding closed
      closed_here f = rw (eq-eqb _ _ e, eq-eqb _ _ f, closed)

  pub record_not : case_key s ≡ false → None ≡ record_of s
  unfolding record_of
  record_not e = rw (e, record_of)

  pub record_here : case_key s ≡ true → named s (part_end s 6) ≡ record_of s
  unfolding record_of
  record_here e = rw (e, record_of)

-- ---- the answer

pub prints_is : (text prints : Bytes) → Prints text prints → prints ≡ answer_to text
unfolding answer_to too_short
prints_is text prints p = sym (p [] refl (replicate program_buffer 0) (length-replicate {A = ℕ} program_buffer 0))
