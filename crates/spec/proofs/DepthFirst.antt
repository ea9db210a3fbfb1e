-- Depth-first search: its reports are closed walks, and without their final steps the nodes left are in order and no closed walk is reached.
-- Assumes nothing.
use Prim.Native.Nat.{ℕ, zero, suc, ◌+◌, ◌<◌}
use mathlib.Core.Path.{◌≡◌, refl, sym, ◌∙◌, subst, subst⁻¹}
use mathlib.Core.Bool.{Bool, true, false, false≢true}
use mathlib.Core.Logic.{◌⊎◌, inl, inr}
use mathlib.Core.List.Memᴰ
use mathlib.Core.List.{List, [], ◌∷◌, ◌++◌, append_assoc}
use lib.ListN.{length}
use native.Mathlib.Omega.{arith}
use Rattle.spec.specs.Graph.{◌∈◌, Once, Chain, last, ClosedWalk}
use Rattle.spec.specs.DepthFirst.{Searched, backwards, among, back_to, in_turn, step, search}
use Rattle.spec.specs.DepthFirstFinds.{Reached, Topological, Simple, final_steps, cut, FindsLoops}
use Rattle.spec.proofs.Lists.{once_length, among_yes, among_no, differs}
use Rattle.spec.proofs.FinalSteps.{Final, final_at, in_finals, of_finals, finals_grow, in_cut}
use Rattle.spec.proofs.Walks.{fewer_steps, along, reached_root, reached_next, order_no_loop}

pub in_backwards : {A : Type 0} {a : A} (l : List A) → a ∈ l → a ∈ backwards l
unfolding backwards
in_backwards {A = A} {a = a} [] x' = elim x' [ ]
in_backwards (b ∷ l) (Memᴰ.head e) = Memᴰ.append_right (backwards l) (Memᴰ.head e)
in_backwards (b ∷ l) (Memᴰ.tail m) = Memᴰ.append_left (b ∷ []) (in_backwards l m)

pub of_backwards : {A : Type 0} {a : A} (l : List A) → a ∈ backwards l → a ∈ l
unfolding backwards
of_backwards [] m = m
of_backwards {a} (b ∷ l) m = either (of_backwards l) (Memᴰ.append_cases (backwards l) m)
  where
    either : (a ∈ backwards l → a ∈ l) → (a ∈ backwards l) ⊎ (a ∈ (b ∷ [])) → a ∈ (b ∷ l)
    either on (inl i) = Memᴰ.tail (on i)
    either on (inr i) = Memᴰ.head (Memᴰ.eq_of_singleton i)

-- what was left or open is so when n, the last open node, is left
pub moved : {A : Type 0} {n b : A} {left path : List A} → (b ∈ left) ⊎ (b ∈ (n ∷ path)) → (b ∈ (n ∷ left)) ⊎ (b ∈ path)
moved (inl i) = inl (Memᴰ.tail i)
moved {n = n} {b} {left} {path} (inr m) = up (Memᴰ.cases_cons m)
  where
    up : (b ≡ n) ⊎ (b ∈ path) → (b ∈ (n ∷ left)) ⊎ (b ∈ path)
    up (inl e) = inl (Memᴰ.head e)
    up (inr i) = inr i

module _ {A : Type 0} (same : A → A → Bool) (next : A → List A)
    (same_yes : (a b : A) → same a b ≡ true → a ≡ b) (same_refl : (a : A) → same a a ≡ true) where
  -- the walk back to n ends with the step from the last open node to n
  back_front : (n : A) (path walk : List A) → (front : List A) × (back_to same n path walk ≡ front ++ walk)
  unfolding back_to
  back_front n [] walk = ([], refl)
  back_front n (p ∷ path) walk = go (same n p) refl (back_front n path (p ∷ walk))
    where
      go : (b : Bool) → same n p ≡ b → (front : List A) × (back_to same n path (p ∷ walk) ≡ front ++ p ∷ walk) → (front : List A) × (back_to same n (p ∷ path) walk ≡ front ++ walk)
      go true e ih = (p ∷ [], rw (e, back_to))
      go false e (front, ih) = (front ++ p ∷ [], rw (e, back_to) (ih ∙ sym (append_assoc front (p ∷ []) walk)))

  back_final : (n p : A) (path : List A) → Final (back_to same n (p ∷ path) (n ∷ [])) (p, n)
  unfolding back_to
  back_final n p path = go (same n p) refl
    where
      go : (b : Bool) → same n p ≡ b → Final (back_to same n (p ∷ path) (n ∷ [])) (p, n)
      go true e = rw (e, back_to) (final_at [] p n)
      go false e = let (front, q) = back_front n path (p ∷ n ∷ []) in rw (e, back_to) (subst⁻¹ (λ w. Final w (p, n)) q (final_at front p n))

  -- the state after the next nodes of n
  abbrev after_next : ℕ → List A → A → Searched A → Searched A
  after_next fuel path n st = in_turn (step same next fuel (n ∷ path)) (backwards (next n)) st

  module _ (roots nodes : List A) (roots_in : (r : A) → r ∈ roots → r ∈ nodes) (next_in : (n m : A) → n ∈ nodes → m ∈ next n → m ∈ nodes) where
    pub reached_in : (n : A) → Reached next roots n → n ∈ nodes
    reached_in n (r, l, i, c, e) = Memᴰ.cast (sym e) (along next (λ z. z ∈ nodes) next_in r l c (roots_in r i))

    -- the open path, the last entered first: each was reached and leads to the one before it, the first to n
    abbrev Open : A → List A → Type 0
    Open n [] = Unit {0}
    Open n (p ∷ path) = Reached next roots p × (n ∈ next p) × Open p path

    open_reached : (n : A) (path : List A) → Open n path → (a : A) → a ∈ path → Reached next roots a
    open_reached n [] o a x'' = elim x'' [ ]
    open_reached n (p ∷ path) o a (Memᴰ.head e) = subst⁻¹ (λ z. Reached next roots z) e o.0
    open_reached n (p ∷ path) o a (Memᴰ.tail m) = open_reached p path o.2 a m

    -- what is asked of a report
    abbrev Report : List A → Type 0
    Report w = ClosedWalk next w × Simple w × ((n : A) → n ∈ w → Reached next roots n)

    back_report : (n : A) (path : List A) (t : A) (w : List A) → Open t path → Once path → among same n path ≡ true
        → Chain next t w → last t w ≡ n → Once (t ∷ w) → ((a : A) → a ∈ path → a ∈ (t ∷ w) → a ≡ n)
        → ((a : A) → a ∈ (t ∷ w) → Reached next roots a) → Report (back_to same n path (t ∷ w))
    unfolding among back_to
    back_report n [] t w o u h c e v apart all = absurd (false≢true h)
    back_report n (p ∷ path) t w o u h c e v apart all =
        go (same n p) refl h (λ d k. back_report n path p (t ∷ w) o.2 u.1 k (o.1, c) e (λ i. d (sym (apart p (Memᴰ.head refl) i)), v) deeper more)
      where
        deeper : (a : A) → a ∈ path → a ∈ (p ∷ t ∷ w) → a ≡ n
        deeper a i (Memᴰ.head d) = absurd (u.0 (Memᴰ.cast (sym d) i))
        deeper a i (Memᴰ.tail m) = apart a (Memᴰ.tail i) m

        more : (a : A) → a ∈ (p ∷ t ∷ w) → Reached next roots a
        more a (Memᴰ.head d) = subst⁻¹ (λ z. Reached next roots z) d o.0
        more a (Memᴰ.tail m) = all a m

        go : (v : Bool) → same n p ≡ v → elim v as (λ z. Bool) [ true ↦ true | false ↦ among same n path ] ≡ true
            → (¬ (n ≡ p) → among same n path ≡ true → Report (back_to same n path (p ∷ t ∷ w)))
            → Report (elim v as (λ z. List A) [ true ↦ p ∷ t ∷ w | false ↦ back_to same n path (p ∷ t ∷ w) ])
        go true d h on = (((o.1, c), e ∙ same_yes n p d), v, more)
        go false d h on = on (differs same same_yes same_refl d) h

    -- what holds of the search while path is open
    record Right (path : List A) (st : Searched A) : Type 0 where
      once : Once st.left
      apart : (a : A) → a ∈ st.left → ¬ (a ∈ path)
      reached : (a : A) → a ∈ st.left → Reached next roots a
      led : (a b : A) → a ∈ st.left → b ∈ next a → (b ∈ st.left) ⊎ (b ∈ path)
      walks : (w : List A) → w ∈ st.reports → Report w
      order : Topological (cut same (final_steps st.reports) next) st.left

    -- a is on the path, and the step to it from the last open node is the final one of a report
    abbrev Back : List A → Searched A → A → Type 0
    Back [] st a = ⊥
    Back (p ∷ path) st a = (a ∈ (p ∷ path)) × ((p, a) ∈ final_steps st.reports)

    -- the reports of one state are among those of another
    abbrev Grows : Searched A → Searched A → Type 0
    Grows st st' = (w : List A) → w ∈ st.reports → w ∈ st'.reports

    back_more : (path : List A) (st st' : Searched A) → Grows st st' → (a : A) → Back path st a → Back path st' a
    back_more [] st st' h a b = b
    back_more (p ∷ path) st st' h a (i, j) = (i, finals_grow st.reports st'.reports h (p, a) j)

    order_more : (st st' : Searched A) → Grows st st' → (l : List A) → Topological (cut same (final_steps st.reports) next) l → Topological (cut same (final_steps st'.reports) next) l
    order_more st st' h =
        fewer_steps (cut same (final_steps st.reports) next) (cut same (final_steps st'.reports) next)
        (λ n m i. let (j, off) = (in_cut same same_yes same_refl (final_steps st'.reports) next n m).0 i in
        (in_cut same same_yes same_refl (final_steps st.reports) next n m).1 (j, λ k. off (finals_grow st.reports st'.reports h (n, m) k)))

    -- what taking the nodes of l does, from one state to another
    record Taken (path l : List A) (before after : Searched A) : Type 0 where
      right : Right path after
      keeps : (a : A) → a ∈ before.left → a ∈ after.left
      grows : Grows before after
      taken : (a : A) → a ∈ l → (a ∈ after.left) ⊎ Back path after a

    taken_more : {path l : List A} {n : A} {st st' st'' : Searched A} → Taken path (n ∷ []) st st' → Taken path l st' st'' → Taken path (n ∷ l) st st''
    taken_more {path} {l} {n} {st' = st'} {st'' = st''} f g = record {
      right = g.right;
      keeps = λ a m. g.keeps a (f.keeps a m);
      grows = λ w i. g.grows w (f.grows w i);
      taken = λ a m. each a (Memᴰ.cases_cons m);
    }
      where
        first : (a : A) → (a ∈ st'.left) ⊎ Back path st' a → (a ∈ st''.left) ⊎ Back path st'' a
        first a (inl i) = inl (g.keeps a i)
        first a (inr b) = inr (back_more path st' st'' g.grows a b)

        each : (a : A) → (a ≡ n) ⊎ (a ∈ l) → (a ∈ st''.left) ⊎ Back path st'' a
        each a (inl e) = first a (f.taken a (Memᴰ.head e))
        each a (inr m) = g.taken a m

    in_turn_taken : (path : List A) (visit : A → Searched A → Searched A) (l : List A)
        → ((n : A) → n ∈ l → (st : Searched A) → Right path st → Taken path (n ∷ []) st (visit n st))
        → (st : Searched A) → Right path st → Taken path l st (in_turn visit l st)
    unfolding in_turn
    in_turn_taken path visit [] each st r = record { right = r; keeps = λ a m. m; grows = λ w i. i; taken = λ a m. absurd (Memᴰ.not-nil m) }
    in_turn_taken path visit (n ∷ l) each st r =
        let f = each n (Memᴰ.head refl) st r in
        taken_more f (in_turn_taken path visit l (λ m i. each m (Memᴰ.tail i)) (visit n st) f.right)

    -- a report: n is on the path
    taken_report : (p : A) (path : List A) (n : A) (w : List A) (st : Searched A) → Right (p ∷ path) st → n ∈ (p ∷ path) → Report w → Final w (p, n)
        → Taken (p ∷ path) (n ∷ []) st (record { left = st.left; reports = st.reports ++ (w ∷ []) })
    taken_report p path n w st r m ok final = record {
      right = record {
        once = r.once;
        apart = r.apart;
        reached = r.reached;
        led = r.led;
        walks = λ v i. either v (Memᴰ.append_cases st.reports i);
        order = order_more st st' more st.left r.order;
      };
      keeps = λ a i. i;
      grows = more;
      taken = λ a i. inr (subst⁻¹ (Back (p ∷ path) st') (Memᴰ.eq_of_singleton i) (m, in_finals st'.reports w (p, n) (Memᴰ.append_right st.reports (Memᴰ.head refl)) final));
    }
      where
        st' : Searched A
        st' = record { left = st.left; reports = st.reports ++ (w ∷ []) }

        more : Grows st st'
        more v i = Memᴰ.append_left (w ∷ []) i

        either : (v : List A) → (v ∈ st.reports) ⊎ (v ∈ (w ∷ [])) → Report v
        either v (inl i) = r.walks v i
        either v (inr i) = subst⁻¹ Report (Memᴰ.eq_of_singleton i) ok

    -- nothing: n was left before
    taken_nothing : (path : List A) (n : A) (st : Searched A) → Right path st → n ∈ st.left → Taken path (n ∷ []) st st
    taken_nothing path n st r m = record { right = r; keeps = λ a i. i; grows = λ w i. i; taken = λ a i. inl (Memᴰ.cast (Memᴰ.eq_of_singleton i) m) }

    -- n is entered
    right_entered : (path : List A) (n : A) (st : Searched A) → Right path st → ¬ (n ∈ st.left) → Right (n ∷ path) st
    right_entered path n st r new = record {
      once = r.once;
      apart = λ a i m. either a i (Memᴰ.cases_cons m);
      reached = r.reached;
      led = λ a b i h. deeper b (r.led a b i h);
      walks = r.walks;
      order = r.order;
    }
      where
        either : (a : A) → a ∈ st.left → (a ≡ n) ⊎ (a ∈ path) → ⊥
        either a i (inl e) = new (Memᴰ.cast (sym e) i)
        either a i (inr m) = r.apart a i m

        deeper : (b : A) → (b ∈ st.left) ⊎ (b ∈ path) → (b ∈ st.left) ⊎ (b ∈ (n ∷ path))
        deeper b (inl i) = inl i
        deeper b (inr m) = inr (Memᴰ.tail m)

    -- n is left
    taken_left : (path : List A) (n : A) (st done : Searched A) → Reached next roots n → ¬ (n ∈ path) → Taken (n ∷ path) (backwards (next n)) st done
        → Taken path (n ∷ []) st (record { left = n ∷ done.left; reports = done.reports })
    taken_left path n st done p new d = record {
      right = record {
        once = (λ i. d.right.apart n i (Memᴰ.head refl), d.right.once);
        apart = λ a i m. off a m (Memᴰ.cases_cons i);
        reached = λ a i. was a (Memᴰ.cases_cons i);
        led = λ a b i h. leads a b h (Memᴰ.cases_cons i);
        walks = d.right.walks;
        order = (
          λ m i. let (j, off) = (in_cut same same_yes same_refl (final_steps done.reports) next n m).0 i in there m off (d.taken m (in_backwards (next n) j)),
          d.right.order,
        );
      };
      keeps = λ a i. Memᴰ.tail (d.keeps a i);
      grows = d.grows;
      taken = λ a i. inl (Memᴰ.head (Memᴰ.eq_of_singleton i));
    }
      where
        off : (a : A) → a ∈ path → (a ≡ n) ⊎ (a ∈ done.left) → ⊥
        off a m (inl e) = new (Memᴰ.cast (sym e) m)
        off a m (inr i) = d.right.apart a i (Memᴰ.tail m)

        was : (a : A) → (a ≡ n) ⊎ (a ∈ done.left) → Reached next roots a
        was a (inl e) = subst⁻¹ (λ z. Reached next roots z) e p
        was a (inr i) = d.right.reached a i

        open_or_left : (b : A) → (b ∈ done.left) ⊎ Back (n ∷ path) done b → (b ∈ done.left) ⊎ (b ∈ (n ∷ path))
        open_or_left b (inl i) = inl i
        open_or_left b (inr (m, h)) = inr m

        leads : (a b : A) → b ∈ next a → (a ≡ n) ⊎ (a ∈ done.left) → (b ∈ (n ∷ done.left)) ⊎ (b ∈ path)
        leads a b h (inl e) = moved (open_or_left b (d.taken b (in_backwards (next n) (subst (λ z. b ∈ next z) e h))))
        leads a b h (inr i) = moved (d.right.led a b i h)

        there : (m : A) → ¬ ((n, m) ∈ final_steps done.reports) → (m ∈ done.left) ⊎ Back (n ∷ path) done m → m ∈ done.left
        there m off (inl i) = i
        there m off (inr (i, j)) = absurd (off j)

    -- the fuel and the path come to more than the nodes, so that it does not run out: the path has no node twice
    step_taken : (fuel : ℕ) (path : List A) (n : A) → Reached next roots n → Open n path → Once path → length nodes < fuel + length path
        → (st : Searched A) → Right path st → Taken path (n ∷ []) st (step same next fuel path n st)
    unfolding step
    step_taken zero path n p o u h st r = absurd (omega (arith, once_length path nodes u (λ a m. reached_in a (open_reached n path o a m))))
    step_taken (suc fuel) path n p o u h st r =
        go (among same n path) refl (among same n st.left) refl
        (λ new. in_turn_taken (n ∷ path) (step same next fuel (n ∷ path)) (backwards (next n))
        (λ m i. let j = of_backwards (next n) i in step_taken fuel (n ∷ path) m (reached_next next p j) (p, j, o) (new, u) (omega arith)) st)
      where
        reported : (q : List A) → Right q st → n ∈ q → Report (back_to same n q (n ∷ [])) → Taken q (n ∷ []) st (record { left = st.left; reports = st.reports ++ (back_to same n q (n ∷ []) ∷ []) })
        reported [] r i ok = absurd (Memᴰ.not-nil i)
        reported (p ∷ q) r i ok = taken_report p q n _ st r i ok (back_final n p q)

        single : (a : A) → a ∈ path → a ∈ (n ∷ []) → a ≡ n
        single a m i = Memᴰ.eq_of_singleton i

        only : (a : A) → a ∈ (n ∷ []) → Reached next roots a
        only a i = subst⁻¹ (λ z. Reached next roots z) (Memᴰ.eq_of_singleton i) p

        go : (b : Bool) → among same n path ≡ b → (c : Bool) → among same n st.left ≡ c
            → (¬ (n ∈ path) → Right (n ∷ path) st → Taken (n ∷ path) (backwards (next n)) st (after_next fuel path n st))
            → Taken path (n ∷ []) st (step same next (suc fuel) path n st)
        go true e c f on = rw (e, step) (reported path r (among_yes same same_yes same_refl n path e) (back_report n path n [] o u e tt refl (λ i. Memᴰ.not-nil i, tt) single only))
        go false e true f on = rw (e, f, step) (taken_nothing path n st r (among_yes same same_yes same_refl n st.left f))
        go false e false f on =
            let new = among_no same same_yes same_refl n path e in
            rw (e, f, step) (taken_left path n st (after_next fuel path n st) p new (on new (right_entered path n st r (among_no same same_yes same_refl n st.left f))))

    -- before the search nothing is open, left or reported
    nothing_right : Right [] (record { left = []; reports = [] })
    nothing_right = record {
      once = tt;
      apart = λ a i m. Memᴰ.not-nil m;
      reached = λ a i. absurd (Memᴰ.not-nil i);
      led = λ a b i h. absurd (Memᴰ.not-nil i);
      walks = λ w i. absurd (Memᴰ.not-nil i);
      order = tt;
    }

    search_taken : (fuel : ℕ) → length nodes < fuel → Taken [] roots (record { left = []; reports = [] }) (search same next fuel roots)
    unfolding search
    search_taken fuel h = in_turn_taken [] (step same next fuel []) roots (λ n i. step_taken fuel [] n (reached_root next i) tt tt (omega arith)) (record { left = []; reports = [] }) nothing_right

    taken_finds : {before : Searched A} (found : Searched A) → Taken [] roots before found → FindsLoops same next roots found
    taken_finds found t = record {
      all = λ n. (t.right.reached n, has n);
      once = t.right.once;
      order = t.right.order;
      silent_order = silent;
      walks = t.right.walks;
      none_left = λ w n c m p. order_no_loop (cut same (final_steps found.reports) next) found.left t.right.order w n c m (has n p);
      none = (λ e w n c m p. order_no_loop next found.left (silent e) w n c m (has n p), λ h. empty found.reports t.right.walks h);
    }
      where
        -- with no report nothing is cut
        silent : found.reports ≡ [] → Topological next found.left
        silent e = fewer_steps (cut same (final_steps found.reports) next) next (λ n m i. (in_cut same same_yes same_refl (final_steps found.reports) next n m).1 (i, none_cut (n, m))) found.left t.right.order
          where
            none_cut : (s : A × A) → ¬ (s ∈ final_steps found.reports)
            none_cut s i = let (w, j, f) = of_finals found.reports s i in Memᴰ.not-nil (subst (λ z. w ∈ z) e j)

        first : {n : A} → (n ∈ found.left) ⊎ Back [] found n → n ∈ found.left
        first (inl i) = i
        first (inr b) = absurd b

        closed : {b : A} → (b ∈ found.left) ⊎ (b ∈ []) → b ∈ found.left
        closed (inl i) = i
        closed (inr m) = absurd (Memᴰ.not-nil m)

        has : (n : A) → Reached next roots n → n ∈ found.left
        has n (r, l, i, c, e) = Memᴰ.cast (sym e) (along next (λ z. z ∈ found.left) (λ a b j h. closed (t.right.led a b j h)) r l c (first (t.taken r i)))

        -- a report would be a closed walk through its own first node
        start : (w : List A) → ClosedWalk next w → (n : A) × (n ∈ w)
        start [] c = absurd c
        start (n ∷ []) c = absurd c
        start (n ∷ m ∷ l) c = (n, Memᴰ.head refl)

        empty : (l : List (List A)) → ((w : List A) → w ∈ l → Report w) → ((w : List A) (n : A) → ClosedWalk next w → n ∈ w → ¬ Reached next roots n) → l ≡ []
        empty [] ok h = refl
        empty (w ∷ l) ok h = let k = ok w (Memᴰ.head refl) in let n = start w k.0 in absurd (h w n.0 k.0 n.1 (k.2 n.0 n.1))

    -- The theorem.
    pub search_finds : (fuel : ℕ) → length nodes < fuel → FindsLoops same next roots (search same next fuel roots)
    search_finds fuel h = taken_finds (search same next fuel roots) (search_taken fuel h)
