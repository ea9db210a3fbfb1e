-- Parts of the text: where they stand in it, and what the tables of an accepted text say of a module.
-- Assumes nothing.
use mathlib.Core.Path.{◌≡◌, sym, ◌∙◌, ap}
use mathlib.Core.Bool.{Bool, true, false}
use mathlib.Core.List.{List, [], ◌∷◌}
use Prim.Native.Nat.{ℕ, zero, suc, ◌+◌, ◌-◌, ◌≤◌, min}
use native.Mathlib.Omega.{arith}
use lib.Dec.{eqb}
use lib.ListN.{length, take, drop, length-take, length-drop}
use lib.Seq.{drop-drop, take-take}
use Rattle.spec.specs.Bytes.{Bytes}
use Rattle.spec.proofs.Reading.{reading}
use Rattle.lines.specs.Parts.{piece}
use Rattle.items.specs.Lines.{StandsAt}
use Rattle.runs.specs.Run.{form_length}
use Rattle.runs.proofs.Inside.{drop_take, piece_length}
use Rattle.collect.specs.Cycle.{Tabled, PartOf}

-- the end of a form is in the slice
pub form_within : (k : ℕ) (s : Bytes) → form_length k s ≤ length s
unfolding form_length
form_within k [] = omega arith
form_within k (c ∷ s) = go (eqb c 40) (eqb c 41) k (λ j. form_within j s)
  where
    go : (p q : Bool) (k : ℕ) → ((j : ℕ) → form_length j s ≤ length s)
        → elim p as (λ _. ℕ) [
          | true ↦ suc (form_length (suc k) s)
          | false ↦ elim q as (λ _. ℕ) [
            | true ↦ elim k as (λ _. ℕ) [ zero ↦ 1 | suc j ↦ elim j as (λ _. ℕ) [ zero ↦ 1 | suc i ↦ suc (form_length (suc i) s) ] ]
            | false ↦ suc (form_length k s)
          ]
        ] ≤ suc (length s)
    go true q k f = let h = f (suc k) in omega arith
    go false true zero f = omega arith
    go false true (suc zero) f = omega arith
    go false true (suc (suc i)) f = let h = f (suc i) in omega arith
    go false false k f = let h = f k in omega arith

pub end_within : (s : Bytes) (from : ℕ) → from ≤ length s → from + form_length 0 (drop from s) ≤ length s
end_within s from h = let f = form_within 0 (drop from s) in let n = length-drop from s in omega arith

-- a piece is no longer than what stands behind its first byte
pub piece_short : (s : Bytes) (at end : ℕ) → length (piece s at end) ≤ length s - (at + 1)
piece_short s at end = let n = piece_length s at end in omega arith

module _ (text : Bytes) (base : ℕ) (s : Bytes) (p : PartOf text base s) where
  pub part_drop : (a : ℕ) → a ≤ length s → PartOf text (base + a) (drop a s)
  part_drop a h =
      let n = length-drop a s in
      record {
        inside = let i = p.inside in omega arith;
        same =
            ap (drop a) p.same ∙ drop_take a (length s) (drop base text) ∙ ap (take (length s - a)) (drop-drop a base text)
            ∙ ap (λ (k : ℕ). take k (drop (base + a) text)) (sym n);
      }

  pub part_piece : (at end : ℕ) → at + 1 ≤ length s → PartOf text (base + at + 1) (piece s at end)
  unfolding piece
  part_piece at end h =
      let q = part_drop (at + 1) h in
      let n = piece_length s at end in
      let d = length-drop (at + 1) s in
      let b : base + (at + 1) ≡ base + at + 1 = omega arith in
      let k : min (end - (at + 1)) (length s - (at + 1)) ≤ length (drop (at + 1) s) = omega arith in
      let i = p.inside in
      record {
        inside = omega arith;
        same =
            shortened (end - (at + 1)) (drop (at + 1) s)
            ∙ ap (take (min (end - (at + 1)) (length (drop (at + 1) s)))) q.same
            ∙ take-take (min (end - (at + 1)) (length (drop (at + 1) s))) (length (drop (at + 1) s)) (drop (base + (at + 1)) text) (omega arith)
            ∙ ap (λ (k : ℕ). take k (drop (base + (at + 1)) text)) (sym (length-take (end - (at + 1)) (drop (at + 1) s)))
            ∙ ap (λ (k : ℕ). take (length (take (end - (at + 1)) (drop (at + 1) s))) (drop k text)) b;
      }
    where
      shortened : (n : ℕ) (l : Bytes) → take n l ≡ take (min n (length l)) l
      shortened zero l = let z : 0 ≡ min 0 (length l) = omega arith in ap (λ (k : ℕ). take k l) z
      shortened (suc n) [] = let z : 0 ≡ min (suc n) 0 = omega arith in ap (λ (k : ℕ). take k []) z
      shortened (suc n) (c ∷ l) =
          let z : suc (min n (length l)) ≡ min (suc n) (suc (length l)) = omega arith in
          ap (λ (r : Bytes). c ∷ r) (shortened n l) ∙ ap (λ (k : ℕ). take k (c ∷ l)) z

  -- a place of an accepted text is a word
  pub stands_here : (kinds mods : List ℕ) (count : ℕ) → Tabled text kinds mods count → StandsAt text base s
  stands_here kinds mods count t =
      let r = reading.accepted text t.formed in
      record { here = p.same; inside = p.inside; short = let h = r.0 in omega arith }
