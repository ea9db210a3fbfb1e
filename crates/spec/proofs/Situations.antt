-- What the lists of the check hold, in terms of the situations (specs/Situations.antt): misused names, conflicts, poisoned names, outputs,
-- registers and memories.
-- Assumes nothing.
use mathlib.Core.Path.{◌≡◌, refl, sym, ◌∙◌, ap, subst, subst⁻¹}
use mathlib.Core.Bool.{Bool, true, false}
use mathlib.Core.Logic.{◌⊎◌, inl, inr, ◌↔◌}
use mathlib.Core.Option.{some}
use mathlib.Core.List.Memᴰ
use mathlib.Core.List.{List, [], ◌∷◌, ◌++◌}
use Prim.Native.Nat.{ℕ}
use Rattle.spec.specs.Syntax.{Module}
use Rattle.spec.specs.Refusal.{has_name}
use Rattle.spec.specs.Site.{Site, sites, Misused, once_a_name, misused_names, Conflict, conflicts, conflict_names, Output, output_lines, first_lines, outputs}
use Rattle.spec.specs.Block.{Storage, line_regs, line_mems, storage_lines, first_storage, regs, mems}
use Rattle.spec.specs.Graph.{◌∈◌}
use Rattle.spec.specs.Situations.{own_lines, First, misuses_of, IsMisused, sites_named, FirstMeeting, Poisoned}
use Rattle.spec.proofs.Flags.{which, named_in, not_named, unnamed}
use Rattle.spec.proofs.Firsts.{firsts, firsts_say, first_of}
use Rattle.spec.proofs.Meetings.{AllProper, sites_proper, named_proper, meeting_up, meeting_down, conflicts_say}

-- ---- the first of each name, three times

pub once_firsts : (l : List Misused) (seen : List ℕ) → once_a_name seen l ≡ firsts (λ u. u.name) seen l
unfolding once_a_name firsts
once_firsts [] seen = refl
once_firsts (u ∷ l) seen = go (has_name u.name seen) refl (λ s. once_firsts l s)
  where
    go : (b : Bool) → has_name u.name seen ≡ b → ((s : List ℕ) → once_a_name s l ≡ firsts (λ u. u.name) s l) → once_a_name seen (u ∷ l) ≡ firsts (λ u. u.name) seen (u ∷ l)
    go true e ih = rw (e, once_a_name, firsts) (ih seen)
    go false e ih = rw (e, once_a_name, firsts) (ap (λ z. u ∷ z) (ih (u.name ∷ seen)))

pub lines_firsts : (l : List Output) (seen : List ℕ) → first_lines seen l ≡ firsts (λ o. o.name) seen l
unfolding first_lines firsts
lines_firsts [] seen = refl
lines_firsts (u ∷ l) seen = go (has_name u.name seen) refl (λ s. lines_firsts l s)
  where
    go : (b : Bool) → has_name u.name seen ≡ b → ((s : List ℕ) → first_lines s l ≡ firsts (λ o. o.name) s l) → first_lines seen (u ∷ l) ≡ firsts (λ o. o.name) seen (u ∷ l)
    go true e ih = rw (e, first_lines, firsts) (ih seen)
    go false e ih = rw (e, first_lines, firsts) (ap (λ z. u ∷ z) (ih (u.name ∷ seen)))

pub storage_firsts : (l : List Storage) (seen : List ℕ) → first_storage seen l ≡ firsts (λ r. r.name) seen l
unfolding first_storage firsts
storage_firsts [] seen = refl
storage_firsts (u ∷ l) seen = go (has_name u.name seen) refl (λ s. storage_firsts l s)
  where
    go : (b : Bool) → has_name u.name seen ≡ b → ((s : List ℕ) → first_storage s l ≡ firsts (λ r. r.name) s l) → first_storage seen (u ∷ l) ≡ firsts (λ r. r.name) seen (u ∷ l)
    go true e ih = rw (e, first_storage, firsts) (ih seen)
    go false e ih = rw (e, first_storage, firsts) (ap (λ z. u ∷ z) (ih (u.name ∷ seen)))

-- ---- names

of_misused : {n : ℕ} (l : List Misused) → n ∈ misused_names l → (u : Misused) × (u ∈ l) × (u.name ≡ n)
unfolding misused_names
of_misused [] i = absurd (Memᴰ.not-nil i)
of_misused (u ∷ l) (Memᴰ.head e) = (u, Memᴰ.head refl, sym e)
of_misused (u ∷ l) (Memᴰ.tail i) = let (v, j, e) = of_misused l i in (v, Memᴰ.tail j, e)

in_misused : {u : Misused} {l : List Misused} → u ∈ l → u.name ∈ misused_names l
unfolding misused_names
in_misused (Memᴰ.head e) = Memᴰ.head (ap (λ z. z.name) e)
in_misused (Memᴰ.tail i) = Memᴰ.tail (in_misused i)

of_conflicts : {n : ℕ} (l : List Conflict) → n ∈ conflict_names l → (c : Conflict) × (c ∈ l) × (c.name ≡ n)
unfolding conflict_names
of_conflicts [] i = absurd (Memᴰ.not-nil i)
of_conflicts (u ∷ l) (Memᴰ.head e) = (u, Memᴰ.head refl, sym e)
of_conflicts (u ∷ l) (Memᴰ.tail i) = let (v, j, e) = of_conflicts l i in (v, Memᴰ.tail j, e)

in_conflicts : {c : Conflict} {l : List Conflict} → c ∈ l → c.name ∈ conflict_names l
unfolding conflict_names
in_conflicts (Memᴰ.head e) = Memᴰ.head (ap (λ z. z.name) e)
in_conflicts (Memᴰ.tail i) = Memᴰ.tail (in_conflicts i)

-- the first of a name stands in the list
pub first_in : {A : Type 0} {name : A → ℕ} {l : List A} {x : A} → First name l x → x ∈ l
first_in {x = x} f = subst⁻¹ (λ z. x ∈ z) f.parted (Memᴰ.append_right f.before (Memᴰ.head refl))

-- ---- one module: what the lists of the check hold

abbrev pub sites_in : Module → List Site
sites_in k = sites k.bound k.header (own_lines k)

abbrev pub misused_in : Module → List Misused
misused_in k = once_a_name [] (misuses_of k)

abbrev pub conflicts_in : Module → List Conflict
conflicts_in k = conflicts (misused_names (misused_in k)) (sites_in k) (sites_in k)

abbrev pub poisoned_in : Module → List ℕ
poisoned_in k = conflict_names (conflicts_in k) ++ misused_names (misused_in k)

module _ (k : Module) where
  pub misused_say : (u : Misused) → u ∈ misused_in k ↔ First (λ u. u.name) (misuses_of k) u
  misused_say u = (
    λ i. (firsts_say (λ u. u.name) (misuses_of k) u).0 (subst (λ z. u ∈ z) (once_firsts (misuses_of k) []) i),
    λ f. subst⁻¹ (λ z. u ∈ z) (once_firsts (misuses_of k) []) ((firsts_say (λ u. u.name) (misuses_of k) u).1 f),
  )

  pub names_say : (n : ℕ) → n ∈ misused_names (misused_in k) ↔ IsMisused k n
  names_say n = (
    λ i. let (u, j, e) = of_misused (misused_in k) i in (u, first_in ((misused_say u).0 j), e),
    λ (u, i, e). Memᴰ.cast (sym e) (go u (first_of (λ u. u.name) (misuses_of k) [] u i)),
  )
    where
      go : (u : Misused) → (u.name ∈ []) ⊎ ((y : Misused) × (y ∈ firsts (λ u. u.name) [] (misuses_of k)) × (y.name ≡ u.name)) → u.name ∈ misused_names (misused_in k)
      go u (inl i) = absurd (Memᴰ.not-nil i)
      go u (inr (y, i, e)) = Memᴰ.cast (sym e) (in_misused (subst⁻¹ (λ z. y ∈ z) (once_firsts (misuses_of k) []) i))

  pub sites_fit : (n : ℕ) → AllProper (sites_named k n)
  sites_fit n = named_proper n (sites_in k) (sites_proper k.bound k.header (own_lines k))

  pub conflict_says : (c : Conflict) → c ∈ conflicts_in k ↔ (¬ IsMisused k c.name × ((s : Site) × FirstMeeting (sites_named k c.name) s × (s.start ≡ c.start)))
  conflict_says c = (
    λ i. let (f, e) = (conflicts_say (misused_names (misused_in k)) (sites_in k) c).0 i in
        (λ h. f ((names_say c.name).1 h), meeting_up (sites_named k c.name) (sites_fit c.name) c.start e),
    λ (f, (s, g, e)). (conflicts_say (misused_names (misused_in k)) (sites_in k) c).1
        (λ h. f ((names_say c.name).0 h), meeting_down (sites_named k c.name) (sites_fit c.name) s g ∙ ap some e),
  )

  pub poisoned_says : (n : ℕ) → n ∈ poisoned_in k ↔ Poisoned k n
  poisoned_says n = (λ i. up (Memᴰ.append_cases (conflict_names (conflicts_in k)) i), down)
    where
      up : (n ∈ conflict_names (conflicts_in k)) ⊎ (n ∈ misused_names (misused_in k)) → Poisoned k n
      up (inl i) = let (c, j, e) = of_conflicts (conflicts_in k) i in let (f, (s, g, q)) = (conflict_says c).0 j in inr (s, subst (λ z. FirstMeeting (sites_named k z) s) e g)
      up (inr i) = inl ((names_say n).0 i)

      conflict : (s : Site) → FirstMeeting (sites_named k n) s → (has_name n (misused_names (misused_in k)) ≡ true) ⊎ (has_name n (misused_names (misused_in k)) ≡ false) → n ∈ poisoned_in k
      conflict s g (inl e) = Memᴰ.append_right (conflict_names (conflicts_in k)) (named_in n (misused_names (misused_in k)) e)
      conflict s g (inr e) =
          let c : Conflict = record { start = s.start; name = n } in
          Memᴰ.append_left (misused_names (misused_in k)) (in_conflicts ((conflict_says c).1 ((λ h. unnamed e ((names_say n).1 h)), (s, g, refl))))

      down : Poisoned k n → n ∈ poisoned_in k
      down (inl h) = Memᴰ.append_right (conflict_names (conflicts_in k)) ((names_say n).1 h)
      down (inr (s, g)) = conflict s g (which (has_name n (misused_names (misused_in k))))

  pub clean_says : (n : ℕ) → (has_name n (poisoned_in k) ≡ false) ↔ (¬ Poisoned k n)
  clean_says n = (λ e h. unnamed e ((poisoned_says n).1 h), λ h. not_named (λ i. h ((poisoned_says n).0 i)))

  pub outputs_say : (o : Output) → o ∈ outputs (own_lines k) ↔ First (λ o. o.name) (output_lines (own_lines k)) o
  unfolding outputs
  outputs_say o = (
    λ i. (firsts_say (λ o. o.name) (output_lines (own_lines k)) o).0 (subst (λ z. o ∈ z) (lines_firsts (output_lines (own_lines k)) []) i),
    λ f. subst⁻¹ (λ z. o ∈ z) (lines_firsts (output_lines (own_lines k)) []) ((firsts_say (λ o. o.name) (output_lines (own_lines k)) o).1 f),
  )

  pub regs_say : (r : Storage) → r ∈ regs (own_lines k) ↔ First (λ r. r.name) (storage_lines line_regs (own_lines k)) r
  unfolding regs
  regs_say r = (
    λ i. (firsts_say (λ r. r.name) (storage_lines line_regs (own_lines k)) r).0 (subst (λ z. r ∈ z) (storage_firsts (storage_lines line_regs (own_lines k)) []) i),
    λ f. subst⁻¹ (λ z. r ∈ z) (storage_firsts (storage_lines line_regs (own_lines k)) []) ((firsts_say (λ r. r.name) (storage_lines line_regs (own_lines k)) r).1 f),
  )

  pub mems_say : (r : Storage) → r ∈ mems (own_lines k) ↔ First (λ r. r.name) (storage_lines line_mems (own_lines k)) r
  unfolding mems
  mems_say r = (
    λ i. (firsts_say (λ r. r.name) (storage_lines line_mems (own_lines k)) r).0 (subst (λ z. r ∈ z) (storage_firsts (storage_lines line_mems (own_lines k)) []) i),
    λ f. subst⁻¹ (λ z. r ∈ z) (storage_firsts (storage_lines line_mems (own_lines k)) []) ((firsts_say (λ r. r.name) (storage_lines line_mems (own_lines k)) r).1 f),
  )
