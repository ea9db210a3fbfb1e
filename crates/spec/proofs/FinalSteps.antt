-- Final steps of walks, and graphs cut of some steps.
-- Assumes nothing.
use mathlib.Core.Path.{◌≡◌, refl, sym, ◌∙◌, ap, subst}
use mathlib.Core.Bool.{Bool, true, false, true≢false, false≢true, ◌&&◌}
use mathlib.Core.Logic.{◌⊎◌, inl, inr, ◌↔◌}
use mathlib.Core.List.Memᴰ
use mathlib.Core.List.{List, [], ◌∷◌, ◌++◌}
use mathlib.Core.Option.{Option, some, none, some-injective, none-ne-some}
use Prim.Native.Nat.{suc}
use lib.ListN.{length}
use Rattle.spec.specs.Graph.{◌∈◌, Once, Chain, ClosedWalk}
use Rattle.spec.specs.DepthFirst.{among}
use Rattle.spec.specs.DepthFirstFinds.{Topological, Goes, final_step, final_steps, remove_if, same_step, cut}
use Rattle.spec.proofs.Lists.{among_yes, among_no}
use Rattle.spec.proofs.Walks.{order_no_loop}

module _ {A : Type 0} where
  -- this is the final step of a walk
  abbrev pub Final : List A → A × A → Type 0
  Final w s = ◌≡◌ {A = Option (A × A)} (final_step w) (some s)

  -- the final step of a walk that ends so
  final_more : (front : List A) (a p n : A) → Final (a ∷ front ++ p ∷ n ∷ []) (p, n)
  unfolding final_step
  final_more [] a p n = refl
  final_more (b ∷ []) a p n = refl
  final_more (b ∷ c ∷ front) a p n = final_more (c ∷ front) b p n

  pub final_at : (front : List A) (p n : A) → Final (front ++ p ∷ n ∷ []) (p, n)
  unfolding final_step
  final_at [] p n = refl
  final_at (a ∷ front) p n = final_more front a p n

  -- it is one step only
  pub one_step : (w : List A) {s t : A × A} → Final w s → Final w t → s ≡ t
  one_step w {s} {t} e f = some-injective s t (sym e ∙ f)

  -- a closed walk has one, and it is a step of the graph
  chain_final : (next : A → List A) (s t : A) (l : List A) → Chain next s (t ∷ l) → (u : A) × (v : A) × Final (s ∷ t ∷ l) (u, v) × (v ∈ next u)
  unfolding final_step
  chain_final next s t [] c = (s, t, refl, c.0)
  chain_final next s t (r ∷ l) c = chain_final next t r l c.1

  pub closed_final : (next : A → List A) (w : List A) → ClosedWalk next w → (u : A) × (v : A) × Final w (u, v) × (v ∈ next u)
  closed_final next [] c = absurd c
  closed_final next (s ∷ []) c = absurd c
  closed_final next (s ∷ t ∷ l) c = chain_final next s t l c.0

  pub final_edge : (next : A → List A) (w : List A) → ClosedWalk next w → (u v : A) → Final w (u, v) → v ∈ next u
  final_edge next w c u v e = let (u', v', f, i) = closed_final next w c in subst (λ (s : A × A). s.1 ∈ next s.0) (one_step w f e) i

  -- the final steps of walks are theirs
  pub in_finals : (ws : List (List A)) (w : List A) (s : A × A) → w ∈ ws → Final w s → s ∈ final_steps ws
  unfolding final_steps
  in_finals [] w s i e = absurd (Memᴰ.not-nil i)
  in_finals (v ∷ ws) w s i e = go (λ j. in_finals ws w s j e) (final_step v) refl (Memᴰ.cases_cons i)
    where
      go : (w ∈ ws → s ∈ final_steps ws) → (o : Option (A × A)) → final_step v ≡ o → (w ≡ v) ⊎ (w ∈ ws) → s ∈ (elim o as (λ z. List (A × A)) [ none ↦ final_steps ws | some t ↦ t ∷ final_steps ws ])
      go on none f (inl d) = absurd (none-ne-some s (sym f ∙ ap final_step (sym d) ∙ e))
      go on none f (inr j) = on j
      go on (some t) f (inl d) = Memᴰ.head (some-injective s t (sym e ∙ ap final_step d ∙ f))
      go on (some t) f (inr j) = Memᴰ.tail (on j)

  pub of_finals : (ws : List (List A)) (s : A × A) → s ∈ final_steps ws → (w : List A) × (w ∈ ws) × Final w s
  unfolding final_steps
  of_finals [] s i = absurd (Memᴰ.not-nil i)
  of_finals (v ∷ ws) s i = go (λ j. of_finals ws s j) (final_step v) refl i
    where
      Found : Type 0
      Found = (w : List A) × (w ∈ (v ∷ ws)) × Final w s

      later : (w : List A) × (w ∈ ws) × Final w s → Found
      later (w, j, e) = (w, Memᴰ.tail j, e)

      either : (s ∈ final_steps ws → (w : List A) × (w ∈ ws) × Final w s) → (t : A × A) → Final v t → (s ≡ t) ⊎ (s ∈ final_steps ws) → Found
      either on t e (inl d) = (v, Memᴰ.head refl, e ∙ ap some (sym d))
      either on t e (inr j) = later (on j)

      go : (s ∈ final_steps ws → (w : List A) × (w ∈ ws) × Final w s) → (o : Option (A × A)) → final_step v ≡ o → s ∈ (elim o as (λ z. List (A × A)) [ none ↦ final_steps ws | some t ↦ t ∷ final_steps ws ]) → Found
      go on none e j = later (on j)
      go on (some t) e j = either on t e (Memᴰ.cases_cons j)

  -- more walks have more of them
  pub finals_grow : (ws vs : List (List A)) → ((w : List A) → w ∈ ws → w ∈ vs) → (s : A × A) → s ∈ final_steps ws → s ∈ final_steps vs
  finals_grow ws vs h s i = let (w, j, e) = of_finals ws s i in in_finals vs w s (h w j) e

  -- where each walk has one there are as many as walks
  pub finals_length : (ws : List (List A)) → ((w : List A) → w ∈ ws → (s : A × A) × Final w s) → length (final_steps ws) ≡ length ws
  unfolding final_steps
  finals_length [] h = refl
  finals_length (v ∷ ws) h = let (s, e) = h v (Memᴰ.head refl) in rw (e, final_steps) (ap suc (finals_length ws (λ w i. h w (Memᴰ.tail i))))

  -- where different walks have different ones none stands twice
  pub finals_once : (ws : List (List A)) → ((w v : List A) (s : A × A) → w ∈ ws → v ∈ ws → Final w s → Final v s → w ≡ v) → Once ws → Once (final_steps ws)
  unfolding final_steps
  finals_once [] h o = tt
  finals_once (v ∷ ws) h o = go (final_step v) refl (finals_once ws (λ w x s i j. h w x s (Memᴰ.tail i) (Memᴰ.tail j)) o.1)
    where
      fresh : (s : A × A) → Final v s → ¬ (s ∈ final_steps ws)
      fresh s e i = let (w, j, f) = of_finals ws s i in o.0 (Memᴰ.cast (h v w s (Memᴰ.head refl) (Memᴰ.tail j) e f) j)

      go : (o : Option (A × A)) → final_step v ≡ o → Once (final_steps ws) → Once {A = A × A} (elim o as (λ z. List (A × A)) [ none ↦ final_steps ws | some s ↦ s ∷ final_steps ws ])
      go none e on = on
      go (some s) e on = (fresh s e, on)

  -- what is not removed
  pub removed : (p : A → Bool) (l : List A) (a : A) → a ∈ remove_if p l ↔ ((a ∈ l) × (p a ≡ false))
  unfolding remove_if
  removed p [] a = (λ i. absurd (Memᴰ.not-nil i), λ i. absurd (Memᴰ.not-nil i.0))
  removed p (b ∷ l) a = go (removed p l a) (p b) refl
    where
      out : a ∈ l × (p a ≡ false) → (a ∈ (b ∷ l)) × (p a ≡ false)
      out (i, e) = (Memᴰ.tail i, e)

      first : p b ≡ false → (a ∈ remove_if p l → (a ∈ l) × (p a ≡ false)) → (a ≡ b) ⊎ (a ∈ remove_if p l) → (a ∈ (b ∷ l)) × (p a ≡ false)
      first e on (inl d) = (Memᴰ.head d, ap p d ∙ e)
      first e on (inr i) = out (on i)

      gone : p b ≡ true → (a ∈ l × (p a ≡ false) → a ∈ remove_if p l) → p a ≡ false → (a ≡ b) ⊎ (a ∈ l) → a ∈ remove_if p l
      gone e on f (inl d) = absurd (true≢false (sym e ∙ ap p (sym d) ∙ f))
      gone e on f (inr i) = on (i, f)

      kept : (a ∈ l × (p a ≡ false) → a ∈ remove_if p l) → p a ≡ false → (a ≡ b) ⊎ (a ∈ l) → a ∈ (b ∷ remove_if p l)
      kept on f (inl d) = Memᴰ.head d
      kept on f (inr i) = Memᴰ.tail (on (i, f))

      go : a ∈ remove_if p l ↔ ((a ∈ l) × (p a ≡ false)) → (t : Bool) → p b ≡ t → a ∈ (elim t as (λ z. List A) [ true ↦ remove_if p l | false ↦ b ∷ remove_if p l ]) ↔ ((a ∈ (b ∷ l)) × (p a ≡ false))
      go on true e = (λ i. out (on.0 i), λ (i, f). gone e on.1 f (Memᴰ.cases_cons i))
      go on false e = (λ i. first e on.0 (Memᴰ.cases_cons i), λ (i, f). kept on.1 f (Memᴰ.cases_cons i))

module _ {A : Type 0} (same : A → A → Bool) (same_yes : (a b : A) → same a b ≡ true → a ≡ b) (same_refl : (a : A) → same a a ≡ true) where
  pub step_yes : (s t : A × A) → same_step same s t ≡ true → s ≡ t
  step_yes s t h = go (same s.0 t.0) (same s.1 t.1) refl refl h
    where
      go : (a b : Bool) → same s.0 t.0 ≡ a → same s.1 t.1 ≡ b → a && b ≡ true → s ≡ t
      go true true p q e = let f = same_yes s.0 t.0 p in let g = same_yes s.1 t.1 q in λ i. (f i, g i)
      go true false p q e = absurd (false≢true e)
      go false b p q e = absurd (false≢true e)

  pub step_refl : (s : A × A) → same_step same s s ≡ true
  step_refl s = rw (same_refl s.0, same_refl s.1)

  -- a step is cut, or is still there
  pub in_cut : (steps : List (A × A)) (next : A → List A) (n m : A) → m ∈ cut same steps next n ↔ ((m ∈ next n) × ¬ ((n, m) ∈ steps))
  in_cut steps next n m = (
    λ i. let (j, e) = (removed test (next n) m).0 i in (j, among_no (same_step same) step_yes step_refl (n, m) steps e),
    λ (i, off). (removed test (next n) m).1 (i, none (test m) refl off),
  )
    where
      test : A → Bool
      test k = among (same_step same) (n, k) steps

      none : (b : Bool) → test m ≡ b → ¬ ((n, m) ∈ steps) → test m ≡ false
      none true e off = absurd (off (among_yes (same_step same) step_yes step_refl (n, m) steps e))
      none false e off = e

  module _ (steps : List (A × A)) (next : A → List A) where
    -- a walk goes over one of these steps, or is one of the cut graph
    abbrev pub Over : List A → Type 0
    Over w = (u : A) × (v : A) × Goes w u v × ((u, v) ∈ steps)

    over_or_cut : (s : A) (w : List A) → Chain next s w → Over (s ∷ w) ⊎ Chain (cut same steps next) s w
    over_or_cut s [] c = inr tt
    over_or_cut s (t ∷ w) c = go (among (same_step same) (s, t) steps) refl (over_or_cut t w c.1)
      where
        go : (b : Bool) → among (same_step same) (s, t) steps ≡ b → Over (t ∷ w) ⊎ Chain (cut same steps next) t w → Over (s ∷ t ∷ w) ⊎ Chain (cut same steps next) s (t ∷ w)
        go true e o = inl (s, t, inl (refl, refl), among_yes (same_step same) step_yes step_refl (s, t) steps e)
        go false e (inl (u, v, g, i)) = inl (u, v, inr g, i)
        go false e (inr d) = inr ((in_cut steps next s t).1 (c.0, among_no (same_step same) step_yes step_refl (s, t) steps e), d)

    -- where the cut graph has no closed walk each goes over one
    pub closed_over : ((w : List A) → ¬ ClosedWalk (cut same steps next) w) → (w : List A) → ClosedWalk next w → Over w
    closed_over clean [] c = absurd c
    closed_over clean (s ∷ []) c = absurd c
    closed_over clean (s ∷ t ∷ w) c = go (over_or_cut s (t ∷ w) c.0)
      where
        go : Over (s ∷ t ∷ w) ⊎ Chain (cut same steps next) s (t ∷ w) → Over (s ∷ t ∷ w)
        go (inl o) = o
        go (inr d) = absurd (clean (s ∷ t ∷ w) (d, c.1))

    -- an order of the cut graph that has every node from which a step goes leaves it no closed walk
    pub order_none : (l : List A) → ((n m : A) → m ∈ next n → n ∈ l) → Topological (cut same steps next) l → (w : List A) → ¬ ClosedWalk (cut same steps next) w
    order_none l all o [] c = c
    order_none l all o (s ∷ []) c = c
    order_none l all o (s ∷ t ∷ w) c = order_no_loop (cut same steps next) l o (s ∷ t ∷ w) s c (Memᴰ.head refl) (all s t ((in_cut steps next s t).0 c.0.0).0)
