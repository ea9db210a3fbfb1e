-- Ways: the search enters each node by its first way, and reports just the steps onto these ways, in their order (specs/FirstWays.antt).
-- Assumes nothing.
use Prim.Native.Nat.{ℕ, zero, suc, ◌+◌, ◌<◌}
use mathlib.Core.Path.{◌≡◌, refl, sym, ◌∙◌, ap, subst, subst⁻¹}
use mathlib.Core.Bool.{Bool, true, false}
use mathlib.Core.Logic.{◌⊎◌, inl, inr}
use mathlib.Core.Option.{some}
use mathlib.Core.List.Memᴰ
use mathlib.Core.List.{List, [], ◌∷◌, ◌++◌, append_assoc, append-nil}
use lib.ListN.{length, length-append}
use native.Mathlib.Omega.{arith}
use Rattle.spec.specs.Graph.{◌∈◌, Once}
use Rattle.spec.specs.DepthFirst.{Searched, backwards, among, back_to, in_turn, step, search}
use Rattle.spec.specs.DepthFirstFinds.{Goes, InOrder, StandsBefore}
use Rattle.spec.specs.FirstWays.{Way, TakenBefore, Sooner, FirstWay, Closes, Reported, ReportedBefore, ByWays}
use Rattle.spec.proofs.Lists.{once_length, among_yes, among_no, differs}
use Rattle.spec.proofs.FinalSteps.{Final, final_at, one_step}
use Rattle.spec.proofs.DepthFirst.{in_backwards, of_backwards, moved}
use Rattle.spec.proofs.Firsts.{head_same, tail_same, not_cons, part_at, order_append, order_once, order_stands, stands_one_way, same_list}
use Rattle.spec.proofs.LastFirst.{stands_more, backwards_down}

-- ---- lists

module _ {A : Type 0} where
  once_front : (x : List A) (a : A) (y : List A) → Once (x ++ a ∷ y) → ¬ (a ∈ x)
  once_front [] a y o i = Memᴰ.not-nil i
  once_front (b ∷ x) a y o (Memᴰ.head e) = o.0 (Memᴰ.append_right x (Memᴰ.head (sym e)))
  once_front (b ∷ x) a y o (Memᴰ.tail i) = once_front x a y o.1 i

  once_back : (x y : List A) → Once (x ++ y) → Once y
  once_back [] y o = o
  once_back (b ∷ x) y o = once_back x y o.1

  stands_first : {l : List A} {a b : A} → StandsBefore l a b → a ∈ l
  stands_first {a = a} s = subst⁻¹ (λ z. a ∈ z) s.parted (Memᴰ.append_right s.front (Memᴰ.head refl))

  stands_second : {l : List A} {a b : A} → StandsBefore l a b → b ∈ l
  stands_second {b = b} s = subst⁻¹ (λ z. b ∈ z) s.parted (Memᴰ.append_right s.front (Memᴰ.tail s.behind))

  stands_either : (l : List A) (m n : A) → m ∈ l → n ∈ l → ¬ (m ≡ n) → StandsBefore l m n ⊎ StandsBefore l n m
  stands_either [] m n x3 _ d = elim x3 [ ]
  stands_either (b ∷ l) m n (Memᴰ.head e) (Memᴰ.head f) d = absurd (d (e ∙ sym f))
  stands_either (b ∷ l) m n (Memᴰ.head e) (Memᴰ.tail j) d = inl (record { front = []; back = l; parted = ap (λ z. z ∷ l) (sym e); behind = j })
  stands_either (b ∷ l) m n (Memᴰ.tail i) (Memᴰ.head f) d = inr (record { front = []; back = l; parted = ap (λ z. z ∷ l) (sym f); behind = i })
  stands_either (b ∷ l) m n (Memᴰ.tail i) (Memᴰ.tail j) d = go (stands_either l m n i j d)
    where
      go : StandsBefore l m n ⊎ StandsBefore l n m → StandsBefore (b ∷ l) m n ⊎ StandsBefore (b ∷ l) n m
      go (inl s) = inl (stands_more s)
      go (inr s) = inr (stands_more s)

  unsnoc : (a : A) (l : List A) → (z : List A) × (n : A) × (a ∷ l ≡ z ++ n ∷ [])
  unsnoc a [] = ([], a, refl)
  unsnoc a (b ∷ l) = let (z, n, e) = unsnoc b l in (a ∷ z, n, ap (◌∷◌ a) e)

  -- ends of one list
  ends_alike : (x y p s : List A) → length p ≡ length s → x ++ p ≡ y ++ s → p ≡ s
  ends_alike [] [] p s h e = e
  ends_alike [] (b ∷ y) p s h e = absurd (omega (arith, ap length e, length-append y s))
  ends_alike (a ∷ x) [] p s h e = absurd (omega (arith, ap length e, length-append x p))
  ends_alike (a ∷ x) (b ∷ y) p s h e = ends_alike x y p s h (tail_same e)

  ends_within : (x y p s : List A) → x ++ p ≡ y ++ s → ((z : List A) × (s ≡ z ++ p)) ⊎ ((z : List A) × (p ≡ z ++ s))
  ends_within [] y p s e = inr (y, e)
  ends_within (a ∷ x) [] p s e = inl (a ∷ x, sym e)
  ends_within (a ∷ x) (b ∷ y) p s e = ends_within x y p s (tail_same e)

  -- two lists from their ends: one is the other's end, or they part
  data Compared (a b : List A) : Type 0 where
    equal : a ≡ b → Compared a b
    longer : (z : List A) (n : A) → b ≡ z ++ n ∷ a → Compared a b
    shorter : (z : List A) (n : A) → a ≡ z ++ n ∷ b → Compared a b
    parting : (x y : List A) (m n : A) (c : List A) → a ≡ x ++ m ∷ c → b ≡ y ++ n ∷ c → ¬ (m ≡ n) → Compared a b

module _ {A : Type 0} (same : A → A → Bool) (next : A → List A)
    (same_yes : (a b : A) → same a b ≡ true → a ≡ b) (same_refl : (a : A) → same a a ≡ true) where
  -- the walk back to v, where v stands once
  back_at : (v : A) (front back walk : List A) → ¬ (v ∈ front) → back_to same v (front ++ v ∷ back) walk ≡ v ∷ backwards front ++ walk
  unfolding back_to backwards
  back_at v [] back walk h = rw (same_refl v, back_to)
  back_at v (p ∷ front) back walk h =
      go (same v p) refl (back_at v front back (p ∷ walk) (λ i. h (Memᴰ.tail i)))
    where
      go : (b : Bool) → same v p ≡ b → back_to same v (front ++ v ∷ back) (p ∷ walk) ≡ v ∷ backwards front ++ p ∷ walk → back_to same v (p ∷ front ++ v ∷ back) walk ≡ v ∷ (backwards front ++ (p ∷ [])) ++ walk
      go true e ih = absurd (h (Memᴰ.head (same_yes v p e)))
      go false e ih = rw (e, back_to) (ih ∙ ap (◌∷◌ v) (sym (append_assoc (backwards front) (p ∷ []) walk)))

  compare : (a b : List A) → Compared a b
  compare [] [] = equal refl
  compare [] (b ∷ l) = let (z, n, e) = unsnoc b l in longer z n e
  compare (h ∷ a) b = go (compare a b)
    where
      on : (z : List A) (n : A) → b ≡ z ++ n ∷ a → h ≡ n → Compared (h ∷ a) b
      on [] n e d = equal (ap (λ x. x ∷ a) d ∙ sym e)
      on (c ∷ z) n e d =
          let (y, k, f) = unsnoc c z in
          longer y k (e ∙ ap (λ x. x ++ n ∷ a) f ∙ append_assoc y (k ∷ []) (n ∷ a) ∙ ap (λ x. y ++ k ∷ x ∷ a) (sym d))

      test : (v : Bool) (z : List A) (n : A) → b ≡ z ++ n ∷ a → same h n ≡ v → Compared (h ∷ a) b
      test true z n e d = on z n e (same_yes h n d)
      test false z n e d = parting [] z h n a refl e (differs same same_yes same_refl d)

      go : Compared a b → Compared (h ∷ a) b
      go (equal e) = shorter [] h (ap (◌∷◌ h) e)
      go (longer z n e) = test (same h n) z n e refl
      go (shorter z n e) = shorter (h ∷ z) n (ap (◌∷◌ h) e)
      go (parting x y m n c e f d) = parting (h ∷ x) y m n c (ap (◌∷◌ h) e) f d

  module _ (roots nodes : List A) (roots_in : (r : A) → r ∈ roots → r ∈ nodes) (next_in : (n m : A) → n ∈ nodes → m ∈ next n → m ∈ nodes)
      (once_roots : Once roots) (once_next : (n : A) → Once (next n)) where
    way_in : (n : A) (l : List A) → Way next roots n l → (a : A) → a ∈ (n ∷ l) → a ∈ nodes
    way_in n [] w a (Memᴰ.head e) = Memᴰ.cast e (roots_in n w)
    way_in n [] w a (Memᴰ.tail i) = absurd (Memᴰ.not-nil i)
    way_in n (p ∷ l) w a (Memᴰ.head e) = Memᴰ.cast e (next_in p n (way_in p l w.1 p (Memᴰ.head refl)) w.0)
    way_in n (p ∷ l) w a (Memᴰ.tail i) = way_in p l w.1 a i

    -- the siblings that are taken behind a way, in turn
    abbrev siblings : List A → List A
    siblings [] = roots
    siblings (p ∷ l) = backwards (next p)

    siblings_order : (path : List A) → InOrder (TakenBefore next roots path) (siblings path)
    siblings_order [] = order_stands [] roots
    siblings_order (p ∷ l) = backwards_down (next p)

    taken_one_way : (path : List A) (m n : A) → TakenBefore next roots path m n → TakenBefore next roots path n m → ⊥
    taken_one_way [] m n s t = stands_one_way roots m n once_roots s t
    taken_one_way (p ∷ l) m n s t = stands_one_way (next p) m n (once_next p) t s

    taken_sibling : (path : List A) (m n : A) → TakenBefore next roots path m n → m ∈ siblings path
    taken_sibling [] m n s = stands_first s
    taken_sibling (p ∷ l) m n s = in_backwards (next p) (stands_second s)

    -- ---- what holds of the search

    -- every node left was entered by its first way, and its steps onto that way are reported
    abbrev Known : A → List (List A) → Type 0
    Known a reports = (l : List A) × FirstWay next roots a l × ((v : A) → v ∈ next a → v ∈ (a ∷ l) → back_to same v (a ∷ l) (v ∷ []) ∈ reports)

    record Good (path : List A) (st : Searched A) : Type 0 where
      led : (a b : A) → a ∈ st.left → b ∈ next a → (b ∈ st.left) ⊎ (b ∈ path)
      known : (a : A) → a ∈ st.left → Known a st.reports

    -- what a sooner way leads to is left
    abbrev Ahead : List A → Searched A → Type 0
    Ahead b st = (m : A) (q : List A) → Way next roots m q → Once (m ∷ q) → Sooner next roots (m ∷ q) b → m ∈ st.left

    -- a report made behind the path by way of one of l
    record Source (path l : List A) (w : List A) : Type 0 where
      by : A
      of_them : by ∈ l
      v : A
      u : A
      behind : List A
      closes : Closes next roots w v u behind
      on : List A
      through : v ∷ u ∷ behind ≡ on ++ by ∷ path

    -- what taking the nodes of l does
    record Does (path l : List A) (st st' : Searched A) : Type 0 where
      good : Good path st'
      keeps : (a : A) → a ∈ st.left → a ∈ st'.left
      new : List (List A)
      added : st'.reports ≡ st.reports ++ new
      order : InOrder (ReportedBefore next roots) new
      sources : (w : List A) → w ∈ new → Source path l w
      taken : (a : A) → a ∈ l → (a ∈ st'.left) ⊎ (a ∈ path)
      told : (a : A) → a ∈ l → a ∈ path → back_to same a path (a ∷ []) ∈ st'.reports

    -- nothing is done where all of l are left or told
    does_nothing : (path l : List A) (st : Searched A) → Good path st → ((a : A) → a ∈ l → (a ∈ st.left) ⊎ (a ∈ path)) → ((a : A) → a ∈ l → a ∈ path → back_to same a path (a ∷ []) ∈ st.reports) → Does path l st st
    does_nothing path l st g taken told = record {
      good = g;
      keeps = λ a i. i;
      new = [];
      added = sym (append-nil st.reports);
      order = tt;
      sources = λ w i. absurd (Memᴰ.not-nil i);
      taken = taken;
      told = told;
    }

    does_more : {path l : List A} {n : A} {st st' st'' : Searched A} → InOrder (TakenBefore next roots path) (n ∷ l) → Does path (n ∷ []) st st' → Does path l st' st'' → Does path (n ∷ l) st st''
    does_more {path} {l} {n} {st} {st'} {st''} down f g = record {
      good = g.good;
      keeps = λ a i. g.keeps a (f.keeps a i);
      new = f.new ++ g.new;
      added = g.added ∙ ap (λ z. z ++ g.new) f.added ∙ append_assoc st.reports f.new g.new;
      order = order_append f.new g.new f.order g.order (λ a b i j. meet a b (f.sources a i) (g.sources b j));
      sources = λ w i. either w (Memᴰ.append_cases f.new i);
      taken = λ a i. each a (Memᴰ.cases_cons i);
      told = λ a i h. tell a h (Memᴰ.cases_cons i);
    }
      where
        meet : (a b : List A) → Source path (n ∷ []) a → Source path l b → ReportedBefore next roots a b
        meet a b x y = record {
          v = x.v;
          u = x.u;
          l = x.behind;
          v' = y.v;
          u' = y.u;
          l' = y.behind;
          closes = x.closes;
          closes' = y.closes;
          sooner = record {
            common = path;
            one = x.by;
            other = y.by;
            one_on = x.on;
            other_on = y.on;
            first = x.through;
            second = y.through;
            taken = subst⁻¹ (λ z. TakenBefore next roots path z y.by) (Memᴰ.eq_of_singleton x.of_them) (down.0 y.by y.of_them);
          };
        }

        either : (w : List A) → (w ∈ f.new) ⊎ (w ∈ g.new) → Source path (n ∷ l) w
        either w (inl i) =
            let x = f.sources w i in
            record { by = x.by; of_them = Memᴰ.head (Memᴰ.eq_of_singleton x.of_them); v = x.v; u = x.u; behind = x.behind; closes = x.closes; on = x.on; through = x.through }
        either w (inr i) =
            let x = g.sources w i in
            record { by = x.by; of_them = Memᴰ.tail x.of_them; v = x.v; u = x.u; behind = x.behind; closes = x.closes; on = x.on; through = x.through }

        kept : (a : A) → (a ∈ st'.left) ⊎ (a ∈ path) → (a ∈ st''.left) ⊎ (a ∈ path)
        kept a (inl i) = inl (g.keeps a i)
        kept a (inr i) = inr i

        each : (a : A) → (a ≡ n) ⊎ (a ∈ l) → (a ∈ st''.left) ⊎ (a ∈ path)
        each a (inl e) = kept a (f.taken a (Memᴰ.head e))
        each a (inr i) = g.taken a i

        tell : (a : A) → a ∈ path → (a ≡ n) ⊎ (a ∈ l) → back_to same a path (a ∷ []) ∈ st''.reports
        tell a h (inl e) = subst⁻¹ (λ z. back_to same a path (a ∷ []) ∈ z) g.added (Memᴰ.append_left g.new (f.told a (Memᴰ.head e) h))
        tell a h (inr i) = g.told a i h

    -- a walk on from what is left, off the path, is left
    way_left : (path : List A) (st : Searched A) → Good path st → (o : A) → o ∈ st.left → (x : List A) (m : A) (q : List A) → Way next roots m q → Once (m ∷ q) → m ∷ q ≡ x ++ o ∷ path → m ∈ st.left
    way_left path st g o i [] m q w u e = Memᴰ.cast (head_same e) i
    way_left path st g o i (a ∷ x) m [] w u e = absurd (not_cons x o path (tail_same e))
    way_left path st g o i (a ∷ x) m (p ∷ q) w u e =
        go (g.led p m (way_left path st g o i x p q w.1 u.1 (tail_same e)) w.0)
      where
        go : (m ∈ st.left) ⊎ (m ∈ path) → m ∈ st.left
        go (inl j) = j
        go (inr j) = absurd (u.0 (subst⁻¹ (λ z. m ∈ z) (tail_same e) (Memᴰ.append_right x (Memᴰ.tail j))))

    -- the siblings taken before n are left, or on the path
    ahead_next : (path : List A) (n : A) (st : Searched A) → Good path st → Ahead path st → ((m : A) → TakenBefore next roots path m n → (m ∈ st.left) ⊎ (m ∈ path)) → Ahead (n ∷ path) st
    ahead_next path n st g outer done m q w u s = go s.other_on s.second
      where
        first : (common : List A) → path ≡ common → (one other : A) → n ≡ other → (on : List A) → m ∷ q ≡ on ++ one ∷ common → TakenBefore next roots common one other → m ∈ st.left
        first common e one other d on f t =
            let f' : m ∷ q ≡ on ++ one ∷ path = subst⁻¹ (λ z. m ∷ q ≡ on ++ one ∷ z) e f in
            let t' : TakenBefore next roots path one n = subst⁻¹ (λ z. TakenBefore next roots z one n) e (subst⁻¹ (λ z. TakenBefore next roots common one z) d t) in
            either (done one t') f'
          where
            either : (one ∈ st.left) ⊎ (one ∈ path) → m ∷ q ≡ on ++ one ∷ path → m ∈ st.left
            either (inl i) f = way_left path st g one i on m q w u f
            either (inr i) f = absurd ((once_back on (one ∷ path) (subst Once f u)).0 i)

        go : (on : List A) → n ∷ path ≡ on ++ s.other ∷ s.common → m ∈ st.left
        go [] e = first s.common (tail_same e) s.one s.other (head_same e) s.one_on s.first s.taken
        go (a ∷ on) e =
            outer m q w u (record { common = s.common; one = s.one; other = s.other; one_on = s.one_on; other_on = on; first = s.first; second = tail_same e; taken = s.taken })

    -- the siblings of l that are still to be taken, all before them being done
    abbrev Ready : List A → List A → Searched A → Type 0
    Ready path l st = (m n : A) → n ∈ l → TakenBefore next roots path m n → (m ∈ l) ⊎ ((m ∈ st.left) ⊎ (m ∈ path))

    in_turn_does : (path : List A) (visit : A → Searched A → Searched A) (l : List A) → InOrder (TakenBefore next roots path) l
        → ((n : A) → n ∈ l → (st : Searched A) → Good path st → Ahead (n ∷ path) st → Does path (n ∷ []) st (visit n st))
        → (st : Searched A) → Good path st → Ahead path st → Ready path l st → Does path l st (in_turn visit l st)
    unfolding in_turn
    in_turn_does path visit [] down each st g outer ready = does_nothing path [] st g (λ a i. absurd (Memᴰ.not-nil i)) (λ a i. absurd (Memᴰ.not-nil i))
    in_turn_does path visit (n ∷ l) down each st g outer ready =
        let f = each n (Memᴰ.head refl) st g (ahead_next path n st g outer (λ m t. done m t (ready m n (Memᴰ.head refl) t))) in
        does_more down f
        (in_turn_does path visit l down.1 (λ m i. each m (Memᴰ.tail i)) (visit n st) f.good (λ m q w u s. f.keeps m (outer m q w u s))
        (λ m k i t. after f m (ready m k (Memᴰ.tail i) t)))
      where
        off : (m : A) → TakenBefore next roots path m n → (m ≡ n) ⊎ (m ∈ l) → ⊥
        off m t (inl e) = let t' = subst (λ z. TakenBefore next roots path z n) e t in taken_one_way path n n t' t'
        off m t (inr i) = taken_one_way path m n t (down.0 m i)

        done : (m : A) → TakenBefore next roots path m n → (m ∈ (n ∷ l)) ⊎ ((m ∈ st.left) ⊎ (m ∈ path)) → (m ∈ st.left) ⊎ (m ∈ path)
        done m t (inl i) = absurd (off m t (Memᴰ.cases_cons i))
        done m t (inr d) = d

        kept : Does path (n ∷ []) st (visit n st) → (m : A) → (m ∈ st.left) ⊎ (m ∈ path) → (m ∈ (visit n st).left) ⊎ (m ∈ path)
        kept f m (inl i) = inl (f.keeps m i)
        kept f m (inr i) = inr i

        here : Does path (n ∷ []) st (visit n st) → (m : A) → (m ≡ n) ⊎ (m ∈ l) → (m ∈ l) ⊎ ((m ∈ (visit n st).left) ⊎ (m ∈ path))
        here f m (inl e) = inr (f.taken m (Memᴰ.head e))
        here f m (inr i) = inl i

        after : Does path (n ∷ []) st (visit n st) → (m : A) → (m ∈ (n ∷ l)) ⊎ ((m ∈ st.left) ⊎ (m ∈ path)) → (m ∈ l) ⊎ ((m ∈ (visit n st).left) ⊎ (m ∈ path))
        after f m (inl i) = here f m (Memᴰ.cases_cons i)
        after f m (inr d) = inr (kept f m d)

    -- ---- a step

    -- the last open node was entered by its first way
    abbrev Entered : List A → Type 0
    Entered [] = Unit {0}
    Entered (u ∷ l) = FirstWay next roots u l

    -- a report: n is on the path
    report_source : (path : List A) (n : A) → Way next roots n path → Once path → Entered path → n ∈ path → Source path (n ∷ []) (back_to same n path (n ∷ []))
    report_source [] n w o f i = absurd (Memᴰ.not-nil i)
    report_source (u ∷ l) n w o f i =
        let p = part_at i in
        record {
          by = n;
          of_them = Memᴰ.head refl;
          v = n;
          u = u;
          behind = l;
          closes = record {
            entered = f;
            onto = w.0;
            front = p.0;
            back = p.1;
            parted = p.2;
            walk = ap (λ z. back_to same n z (n ∷ [])) p.2 ∙ back_at n p.0 p.1 (n ∷ []) (once_front p.0 n p.1 (subst Once p.2 o));
          };
          on = [];
          through = refl;
        }

    does_report : (path : List A) (n : A) (st : Searched A) → Good path st → Way next roots n path → Once path → Entered path → n ∈ path
        → Does path (n ∷ []) st (record { left = st.left; reports = st.reports ++ (back_to same n path (n ∷ []) ∷ []) })
    does_report path n st g w o f h = record {
      good = record {
        led = g.led;
        known = λ a i. let (l, e, t) = g.known a i in (l, e, λ v j k. Memᴰ.append_left (back_to same n path (n ∷ []) ∷ []) (t v j k));
      };
      keeps = λ a i. i;
      new = back_to same n path (n ∷ []) ∷ [];
      added = refl;
      order = (λ b i. absurd (Memᴰ.not-nil i), tt);
      sources = λ x i. subst⁻¹ (Source path (n ∷ [])) (Memᴰ.eq_of_singleton i) (report_source path n w o f h);
      taken = λ a i. inr (Memᴰ.cast (Memᴰ.eq_of_singleton i) h);
      told = λ a i j. Memᴰ.append_right st.reports (Memᴰ.head (ap (λ z. back_to same z path (z ∷ [])) (Memᴰ.eq_of_singleton i)));
    }

    does_again : (path : List A) (n : A) (st : Searched A) → Good path st → n ∈ st.left → ¬ (n ∈ path) → Does path (n ∷ []) st st
    does_again path n st g h off =
        does_nothing path (n ∷ []) st g (λ a i. inl (Memᴰ.cast (Memᴰ.eq_of_singleton i) h)) (λ a i j. absurd (off (Memᴰ.cast (sym (Memᴰ.eq_of_singleton i)) j)))

    does_entered : (path : List A) (n : A) (st done : Searched A) → FirstWay next roots n path → ¬ (n ∈ path) → Does (n ∷ path) (backwards (next n)) st done
        → Does path (n ∷ []) st (record { left = n ∷ done.left; reports = done.reports })
    does_entered path n st done f off d = record {
      good = record { led = λ a b i h. leads a b h (Memᴰ.cases_cons i); known = λ a i. knows a (Memᴰ.cases_cons i) };
      keeps = λ a i. Memᴰ.tail (d.keeps a i);
      new = d.new;
      added = d.added;
      order = d.order;
      sources = λ w i. outer w (d.sources w i);
      taken = λ a i. inl (Memᴰ.head (Memᴰ.eq_of_singleton i));
      told = λ a i j. absurd (off (Memᴰ.cast (sym (Memᴰ.eq_of_singleton i)) j));
    }
      where
        leads : (a b : A) → b ∈ next a → (a ≡ n) ⊎ (a ∈ done.left) → (b ∈ (n ∷ done.left)) ⊎ (b ∈ path)
        leads a b h (inl e) = moved (d.taken b (in_backwards (next n) (subst (λ z. b ∈ next z) e h)))
        leads a b h (inr i) = moved (d.good.led a b i h)

        knows : (a : A) → (a ≡ n) ⊎ (a ∈ done.left) → Known a done.reports
        knows a (inl e) = subst⁻¹ (λ z. Known z done.reports) e (path, f, λ v i j. d.told v (in_backwards (next n) i) j)
        knows a (inr i) = d.good.known a i

        outer : (w : List A) → Source (n ∷ path) (backwards (next n)) w → Source path (n ∷ []) w
        outer w x = record {
          by = n;
          of_them = Memᴰ.head refl;
          v = x.v;
          u = x.u;
          behind = x.behind;
          closes = x.closes;
          on = x.on ++ (x.by ∷ []);
          through = x.through ∙ sym (append_assoc x.on (x.by ∷ []) (n ∷ path));
        }

    step_does : (fuel : ℕ) (path : List A) (n : A) → Way next roots n path → Once path → Entered path → length nodes < fuel + length path
        → (st : Searched A) → Good path st → Ahead (n ∷ path) st → Does path (n ∷ []) st (step same next fuel path n st)
    unfolding step
    step_does zero path n w o f h st g ahead = absurd (omega (arith, once_length path nodes o (λ a i. way_in n path w a (Memᴰ.tail i))))
    step_does (suc fuel) path n w o f h st g ahead =
        go (among same n path) refl (among same n st.left) refl
        (λ new first. in_turn_does (n ∷ path) (step same next fuel (n ∷ path)) (backwards (next n)) (siblings_order (n ∷ path))
        (λ m i. step_does fuel (n ∷ path) m (of_backwards (next n) i, w) (new, o) first (omega arith)) st deeper ahead
        (λ m k i t. inl (taken_sibling (n ∷ path) m k t)))
      where
        deeper : Good (n ∷ path) st
        deeper = record { led = λ a b i j. more b (g.led a b i j); known = g.known }
          where
            more : (b : A) → (b ∈ st.left) ⊎ (b ∈ path) → (b ∈ st.left) ⊎ (b ∈ (n ∷ path))
            more b (inl i) = inl i
            more b (inr i) = inr (Memᴰ.tail i)

        go : (b : Bool) → among same n path ≡ b → (c : Bool) → among same n st.left ≡ c
            → (¬ (n ∈ path) → FirstWay next roots n path → Does (n ∷ path) (backwards (next n)) st (in_turn (step same next fuel (n ∷ path)) (backwards (next n)) st))
            → Does path (n ∷ []) st (step same next (suc fuel) path n st)
        go true e c d ih = rw (e, step) (does_report path n st g w o f (among_yes same same_yes same_refl n path e))
        go false e true d ih = rw (e, d, step) (does_again path n st g (among_yes same same_yes same_refl n st.left d) (among_no same same_yes same_refl n path e))
        go false e false d ih =
            let new = among_no same same_yes same_refl n path e in
            let fresh = among_no same same_yes same_refl n st.left d in
            let first : FirstWay next roots n path = record { way = w; once = (new, o); soonest = λ k x u s. fresh (ahead n k x u s) } in
            rw (e, d, step) (does_entered path n st _ first new (ih new first))

    search_does : (fuel : ℕ) → length nodes < fuel → Does [] roots (record { left = []; reports = [] }) (search same next fuel roots)
    unfolding search
    search_does fuel h =
        in_turn_does [] (step same next fuel []) roots (siblings_order []) (λ n i. step_does fuel [] n i tt tt (omega arith)) (record { left = []; reports = [] })
        (record { led = λ a b i. absurd (Memᴰ.not-nil i); known = λ a i. absurd (Memᴰ.not-nil i) })
        (λ m q w u s. absurd (not_cons s.other_on s.other s.common s.second))
        (λ m n i t. inl (stands_first t))

    -- ---- there is one first way

    way_at : (x : List A) (n : A) (l : List A) → Way next roots n l → (m : A) (c : List A) → n ∷ l ≡ x ++ m ∷ c → Way next roots m c
    way_at [] n l w m c e = subst (λ z. Way next roots z c) (head_same e) (subst (Way next roots n) (tail_same e) w)
    way_at (a ∷ x) n [] w m c e = absurd (not_cons x m c (tail_same e))
    way_at (a ∷ x) n (p ∷ l) w m c e = way_at x p l w.1 m c (tail_same e)

    taken_either : (c : List A) (m n : A) → Way next roots m c → Way next roots n c → ¬ (m ≡ n) → TakenBefore next roots c m n ⊎ TakenBefore next roots c n m
    taken_either [] m n v w d = stands_either roots m n v w d
    taken_either (p ∷ c) m n v w d = stands_either (next p) n m w.0 v.0 (λ e. d (sym e))

    no_longer : (u : A) (k l z : List A) (n : A) → Once (u ∷ k) → u ∷ k ≡ z ++ n ∷ u ∷ l → ⊥
    no_longer u k l [] n o e = o.0 (subst⁻¹ (λ x. u ∈ x) (tail_same e) (Memᴰ.head refl))
    no_longer u k l (a ∷ z) n o e = o.0 (subst⁻¹ (λ x. u ∈ x) (tail_same e) (Memᴰ.append_right z (Memᴰ.tail (Memᴰ.head refl))))

    first_one : (u : A) (l k : List A) → FirstWay next roots u l → FirstWay next roots u k → l ≡ k
    first_one u l k f g = go (compare (u ∷ l) (u ∷ k))
      where
        go : Compared (u ∷ l) (u ∷ k) → l ≡ k
        go (equal e) = tail_same e
        go (longer z n e) = absurd (no_longer u k l z n g.once e)
        go (shorter z n e) = absurd (no_longer u l k z n f.once e)
        go (parting x y m n c e e' d) = either (taken_either c m n (way_at x u l f.way m c e) (way_at y u k g.way n c e') d)
          where
            either : TakenBefore next roots c m n ⊎ TakenBefore next roots c n m → l ≡ k
            either (inl t) = absurd (g.soonest l f.way f.once (record { common = c; one = m; other = n; one_on = x; other_on = y; first = e; second = e'; taken = t }))
            either (inr t) = absurd (f.soonest k g.way g.once (record { common = c; one = n; other = m; one_on = y; other_on = x; first = e'; second = e; taken = t }))

    -- behind each node of a first way stands that node's first way
    first_behind : (u p : A) (l : List A) → FirstWay next roots u (p ∷ l) → FirstWay next roots p l
    first_behind u p l f = record { way = f.way.1; once = f.once.1; soonest = λ k w o s. go k w o s (among same u (p ∷ k)) refl }
      where
        sooner : (k : List A) (s : Sooner next roots (p ∷ k) (p ∷ l)) (j z : List A) → u ∷ j ≡ z ++ s.one ∷ s.common → Sooner next roots (u ∷ j) (u ∷ p ∷ l)
        sooner k s j z e = record { common = s.common; one = s.one; other = s.other; one_on = z; other_on = u ∷ s.other_on; first = e; second = ap (◌∷◌ u) s.second; taken = s.taken }

        -- a sooner way to p that passes u has a sooner way to u in it
        passes : (k : List A) → Way next roots p k → Once (p ∷ k) → (s : Sooner next roots (p ∷ k) (p ∷ l)) → (x y : List A) → p ∷ k ≡ x ++ u ∷ y → ⊥
        passes k w o s x y e = either (ends_within s.one_on x (s.one ∷ s.common) (u ∷ y) (sym s.first ∙ e))
          where
            done : (z : List A) → u ∷ y ≡ z ++ s.one ∷ s.common → ⊥
            done z h = f.soonest y (way_at x p k w u y e) (once_back x (u ∷ y) (subst Once e o)) (sooner k s y z h)

            within : (z : List A) → s.one ∷ s.common ≡ z ++ u ∷ y → ⊥
            within [] h = done [] (sym h)
            within (a ∷ z) h =
                f.once.0
                (subst⁻¹ (λ v. u ∈ v) s.second
                (Memᴰ.append_right s.other_on (Memᴰ.tail (subst⁻¹ (λ v. u ∈ v) (tail_same h) (Memᴰ.append_right z (Memᴰ.head refl))))))

            either : ((z : List A) × (u ∷ y ≡ z ++ s.one ∷ s.common)) ⊎ ((z : List A) × (s.one ∷ s.common ≡ z ++ u ∷ y)) → ⊥
            either (inl (z, h)) = done z h
            either (inr (z, h)) = within z h

        go : (k : List A) → Way next roots p k → Once (p ∷ k) → Sooner next roots (p ∷ k) (p ∷ l) → (b : Bool) → among same u (p ∷ k) ≡ b → ⊥
        go k w o s true h = let (x, y, e) = part_at (among_yes same same_yes same_refl u (p ∷ k) h) in passes k w o s x y e
        go k w o s false h = f.soonest (p ∷ k) (f.way.0, w) (among_no same same_yes same_refl u (p ∷ k) h, o) (sooner k s (p ∷ k) (u ∷ s.one_on) (ap (◌∷◌ u) s.first))

    first_at : (x : List A) (u : A) (l : List A) → FirstWay next roots u l → (m : A) (c : List A) → u ∷ l ≡ x ++ m ∷ c → FirstWay next roots m c
    first_at [] u l f m c e = subst (λ z. FirstWay next roots z c) (head_same e) (subst (FirstWay next roots u) (tail_same e) f)
    first_at (a ∷ x) u [] f m c e = absurd (not_cons x m c (tail_same e))
    first_at (a ∷ x) u (p ∷ l) f m c e = first_at x p l (first_behind u p l f) m c (tail_same e)

    closes_final : {w : List A} {v u : A} {l : List A} → Closes next roots w v u l → Final w (u, v)
    unfolding backwards
    closes_final {w} {v} {u} {l} c = go c.front c.parted c.walk
      where
        ends : (front : List A) → w ≡ front ++ u ∷ v ∷ [] → Final w (u, v)
        ends front e = subst⁻¹ (λ z. Final z (u, v)) e (final_at front u v)

        go : (front : List A) → u ∷ l ≡ front ++ v ∷ c.back → w ≡ v ∷ backwards front ++ (v ∷ []) → Final w (u, v)
        go [] e f = ends [] (f ∙ ap (λ z. z ∷ v ∷ []) (sym (head_same e)))
        go (a ∷ front) e f = ends (v ∷ backwards front) (f ∙ ap (◌∷◌ v) (append_assoc (backwards front) (a ∷ []) (v ∷ []) ∙ ap (λ z. backwards front ++ z ∷ v ∷ []) (sym (head_same e))))

    -- walks with one final step close one way only
    closes_alike : {w x : List A} {v u v' u' : A} {l l' : List A} {s : A × A} → Closes next roots w v u l → Closes next roots x v' u' l' → Final w s → Final x s → v ∷ u ∷ l ≡ v' ∷ u' ∷ l'
    closes_alike {w} {x} {v} {u} {v'} {u'} {l} {l'} c d f g =
        let e : ◌≡◌ {A = A × A} (u, v) (u', v') = one_step w (closes_final c) f ∙ one_step x g (closes_final d) in
        let p = ap (λ z. z.0) e in
        let q = ap (λ z. z.1) e in
        let r = first_one u l l' c.entered (subst⁻¹ (λ z. FirstWay next roots z l') p d.entered) in
        λ i. q i ∷ p i ∷ r i

    closes_one : {w : List A} {v u v' u' : A} {l l' : List A} → Closes next roots w v u l → Closes next roots w v' u' l' → v ∷ u ∷ l ≡ v' ∷ u' ∷ l'
    closes_one c d = closes_alike c d (closes_final c) (closes_final c)

    sooner_one_way : (a b : List A) → Sooner next roots a b → Sooner next roots b a → ⊥
    sooner_one_way a b s t = go (ends_within s.one_on t.other_on (s.one ∷ s.common) (t.other ∷ t.common) (sym s.first ∙ t.second))
      where
        b_is : s.other_on ++ s.other ∷ s.common ≡ t.one_on ++ t.one ∷ t.common
        b_is = sym s.second ∙ t.first

        -- they part at one place
        alike : s.common ≡ t.common → s.one ≡ t.other → ⊥
        alike e d =
            let h = ends_alike s.other_on t.one_on (s.other ∷ s.common) (t.one ∷ t.common) (ap (λ z. suc (length z)) e) b_is in
            let f : TakenBefore next roots s.common s.other s.one =
            subst⁻¹ (λ z. TakenBefore next roots z s.other s.one) e (subst⁻¹ (λ z. TakenBefore next roots t.common z s.one) (head_same h) (subst⁻¹ (λ z. TakenBefore next roots t.common t.one z) d t.taken)) in
            taken_one_way s.common s.one s.other s.taken f

        -- the second parts behind where the first does
        below : (z : List A) → t.common ≡ z ++ s.one ∷ s.common → ⊥
        below z e =
            let h = ends_alike s.other_on (t.one_on ++ t.one ∷ z) (s.other ∷ s.common) (s.one ∷ s.common) refl
            (b_is ∙ ap (λ x. t.one_on ++ t.one ∷ x) e ∙ sym (append_assoc t.one_on (t.one ∷ z) (s.one ∷ s.common))) in
            let f = subst (λ x. TakenBefore next roots s.common s.one x) (head_same h) s.taken in
            taken_one_way s.common s.one s.one f f

        above : (z : List A) → s.common ≡ z ++ t.other ∷ t.common → ⊥
        above z e =
            let h = ends_alike (s.other_on ++ s.other ∷ z) t.one_on (t.other ∷ t.common) (t.one ∷ t.common) refl
            (append_assoc s.other_on (s.other ∷ z) (t.other ∷ t.common) ∙ ap (λ x. s.other_on ++ s.other ∷ x) (sym e) ∙ b_is) in
            let f = subst (λ x. TakenBefore next roots t.common t.one x) (head_same h) t.taken in
            taken_one_way t.common t.one t.one f f

        go : ((z : List A) × (t.other ∷ t.common ≡ z ++ s.one ∷ s.common)) ⊎ ((z : List A) × (s.one ∷ s.common ≡ z ++ t.other ∷ t.common)) → ⊥
        go (inl (z, e)) = longer_end z e
          where
            longer_end : (z : List A) → t.other ∷ t.common ≡ z ++ s.one ∷ s.common → ⊥
            longer_end [] e = alike (sym (tail_same e)) (sym (head_same e))
            longer_end (x ∷ z) e = below z (tail_same e)
        go (inr (z, e)) = longer_end z e
          where
            longer_end : (z : List A) → s.one ∷ s.common ≡ z ++ t.other ∷ t.common → ⊥
            longer_end [] e = alike (tail_same e) (head_same e)
            longer_end (x ∷ z) e = above z (tail_same e)

    pub reported_one_way : (a b : List A) → ReportedBefore next roots a b → ReportedBefore next roots b a → ⊥
    reported_one_way a b p q =
        sooner_one_way _ _ p.sooner
        (subst (λ z. Sooner next roots z (p.v ∷ p.u ∷ p.l)) (closes_one q.closes p.closes')
        (subst (Sooner next roots (q.v ∷ q.u ∷ q.l)) (closes_one q.closes' p.closes) q.sooner))

    -- ---- the theorems

    way_taken : (st : Searched A) → Does [] roots (record { left = []; reports = [] }) st → (u : A) (l : List A) → Way next roots u l → u ∈ st.left
    way_taken st d u [] w = go (d.taken u w)
      where
        go : (u ∈ st.left) ⊎ (u ∈ []) → u ∈ st.left
        go (inl i) = i
        go (inr i) = absurd (Memᴰ.not-nil i)
    way_taken st d u (p ∷ l) w = go (d.good.led p u (way_taken st d p l w.1) w.0)
      where
        go : (u ∈ st.left) ⊎ (u ∈ []) → u ∈ st.left
        go (inl i) = i
        go (inr i) = absurd (Memᴰ.not-nil i)

    closes_walk : {w : List A} {v u : A} {l : List A} → Closes next roots w v u l → w ≡ back_to same v (u ∷ l) (v ∷ [])
    closes_walk {w} {v} {u} {l} c =
        c.walk ∙ sym (back_at v c.front c.back (v ∷ []) (once_front c.front v c.back (subst Once c.parted c.entered.once)))
        ∙ ap (λ z. back_to same v z (v ∷ [])) (sym c.parted)

    -- and so are one walk
    pub one_final : (w x : List A) (s : A × A) → Reported next roots w → Reported next roots x → Final w s → Final x s → w ≡ x
    one_final w x s (v, u, l, c) (v', u', l', d) f g =
        let e = closes_alike c d f g in
        let p : v ≡ v' = head_same e in
        let r : u ∷ l ≡ u' ∷ l' = tail_same e in
        closes_walk c ∙ (λ i. back_to same (p i) (r i) (p i ∷ [])) ∙ sym (closes_walk d)

    -- one node stands directly above another on a way
    abbrev Above : List A → A → A → Type 0
    Above way b a = (x : List A) × (y : List A) × (way ≡ x ++ b ∷ a ∷ y)

    -- the steps of a walk back are those of the path
    back_steps : (n : A) (path : List A) (t : A) (walk : List A) (a b : A) → Goes (back_to same n path (t ∷ walk)) a b → Goes (t ∷ walk) a b ⊎ Above (t ∷ path) b a
    unfolding back_to
    back_steps n [] t walk a b g = inl g
    back_steps n (p ∷ path) t walk a b g = go (same n p) g (back_steps n path p (t ∷ walk) a b)
      where
        first : Goes (p ∷ t ∷ walk) a b → Goes (t ∷ walk) a b ⊎ Above (t ∷ p ∷ path) b a
        first (inl (d, e)) = inr ([], path, λ i. sym e i ∷ sym d i ∷ path)
        first (inr h) = inl h

        later : Goes (p ∷ t ∷ walk) a b ⊎ Above (p ∷ path) b a → Goes (t ∷ walk) a b ⊎ Above (t ∷ p ∷ path) b a
        later (inl h) = first h
        later (inr (x, y, e)) = inr (t ∷ x, y, ap (◌∷◌ t) e)

        go : (v : Bool) → Goes (elim v as (λ z. List A) [ true ↦ p ∷ t ∷ walk | false ↦ back_to same n path (p ∷ t ∷ walk) ]) a b
            → (Goes (back_to same n path (p ∷ t ∷ walk)) a b → Goes (p ∷ t ∷ walk) a b ⊎ Above (p ∷ path) b a) → Goes (t ∷ walk) a b ⊎ Above (t ∷ p ∷ path) b a
        go true h on = first h
        go false h on = later (on h)

    -- a walk goes over no final step but its own
    pub own_final : (w x : List A) (a b : A) → Reported next roots w → Reported next roots x → Goes w a b → Final x (a, b) → Final w (a, b)
    own_final w x a b (v, u, l, c) (v', u', l', d) g h = go (back_steps v (u ∷ l) v [] a b (subst (λ z. Goes z a b) (closes_walk c) g))
      where
        -- a step on the way goes to a node that was not open
        not_open : (z y : List A) → u ∷ l ≡ z ++ b ∷ a ∷ y → ⊥
        not_open z y e =
            let f = first_at z u l c.entered b (a ∷ y) e in
            let s : ◌≡◌ {A = A × A} (u', v') (a, b) = one_step x (closes_final d) h in
            let p : u' ≡ a = ap (λ q. q.0) s in
            let r = first_one a y l' (first_behind b a y f) (subst (λ q. FirstWay next roots q l') p d.entered) in
            let i : v' ∈ (u' ∷ l') = subst⁻¹ (λ q. v' ∈ q) d.parted (Memᴰ.append_right d.front (Memᴰ.head refl)) in
            f.once.0 (subst⁻¹ (λ q. b ∈ (a ∷ q)) r (subst (λ q. b ∈ (q ∷ l')) p (Memᴰ.cast (ap (λ q. q.1) (sym s)) i)))

        top : (z y : List A) → v ∷ u ∷ l ≡ z ++ b ∷ a ∷ y → Final w (a, b)
        top [] y e = closes_final c ∙ (λ i. some (head_same (tail_same e) i, head_same e i))
        top (q ∷ z) y e = absurd (not_open z y (tail_same e))

        go : Goes (v ∷ []) a b ⊎ Above (v ∷ u ∷ l) b a → Final w (a, b)
        go (inl h) = absurd h
        go (inr (z, y, e)) = top z y e

    does_by_ways : (st : Searched A) → Does [] roots (record { left = []; reports = [] }) st → ByWays next roots st.reports
    does_by_ways st d = record {
      exactly = λ w. (
        λ i. let x = d.sources w (subst (λ z. w ∈ z) d.added i) in (x.v, x.u, x.behind, x.closes),
        λ x. let (v, u, l, c) = x in there w v u l c (d.good.known u (way_taken st d u l c.entered.way)),
      );
      once = subst⁻¹ Once d.added (order_once (ReportedBefore next roots) d.new (λ a i r. reported_one_way a a r r) d.order);
      order = subst⁻¹ (InOrder (ReportedBefore next roots)) d.added d.order;
    }
      where
        there : (w : List A) (v u : A) (l : List A) → Closes next roots w v u l → Known u st.reports → w ∈ st.reports
        there w v u l c (k, f, t) =
            let e = first_one u k l f c.entered in
            let i : v ∈ (u ∷ l) = subst⁻¹ (λ z. v ∈ z) c.parted (Memᴰ.append_right c.front (Memᴰ.head refl)) in
            Memᴰ.cast (closes_walk c) (subst (λ z. back_to same v (u ∷ z) (v ∷ []) ∈ st.reports) e (t v c.onto (subst⁻¹ (λ z. v ∈ (u ∷ z)) e i)))

    pub search_by_ways : (fuel : ℕ) → length nodes < fuel → ByWays next roots (search same next fuel roots).reports
    search_by_ways fuel h = does_by_ways (search same next fuel roots) (search_does fuel h)

    pub one_by_ways : (l k : List (List A)) → ByWays next roots l → ByWays next roots k → l ≡ k
    one_by_ways l k p q =
        same_list (ReportedBefore next roots) reported_one_way l k p.once q.once p.order q.order
        (λ w. (λ i. (q.exactly w).1 ((p.exactly w).0 i), λ i. (p.exactly w).1 ((q.exactly w).0 i)))
