-- The proof of the theorem about the list of reports (specs/Meaning.antt).
-- Assumes nothing.
use mathlib.Core.Path.{◌≡◌, refl, sym, ◌∙◌, ap, subst, subst⁻¹, subst₂}
use mathlib.Core.Bool.{Bool, true, false}
use mathlib.Core.Logic.{◌⊎◌, inl, inr, ◌↔◌}
use mathlib.Core.Option.{Option, some, none}
use mathlib.Core.List.Memᴰ
use mathlib.Core.List.{List, [], ◌∷◌, ◌++◌, append_assoc}
use Prim.Native.Nat.{ℕ, zero, suc, ◌+◌, min, ◌<◌}
use native.Mathlib.Omega.{arith}
use lib.ListN.{take, get_elem?}
use lib.Dec.{eqb}
use lib.IntN.{pos}
use borrow.Author.Tests.{eqb-true, eqb-false}
use Rattle.spec.specs.Syntax.{Width, Module, Design}
use Rattle.spec.specs.Refusal.{decode, has_name}
use Rattle.spec.specs.Value.{known, own_vals}
use Rattle.spec.specs.Collect.{collection}
use Rattle.spec.specs.Site.{Extent, Whole, Dynamic, Unknown, Range, Site, first_conflict, Misused, misused_names, Conflict, Output, output_lines, outputs, width_value, coverage_limit, first_gap, Coverage, never as never_driven, fully, gap as gap_at, coverage}
use Rattle.spec.specs.Block.{all_pairs, pairs, block_count, Storage, line_regs, line_mems, storage_lines, regs, mems}
use Rattle.spec.specs.Edge.{Node, Head, all_reads}
use Rattle.spec.specs.Summary.{Kept, module_heads}
use Rattle.spec.specs.FindCycles.{start_of, find_cycles, next_nodes, roots}
use Rattle.spec.specs.FirstWays.{Reported}
use Rattle.spec.specs.Report.{Detail, misused, many, never, gap, no_block, blocks, mem_blocks, Report, report, loop_report}
use Rattle.spec.specs.Check.{misuse_reports, conflict_reports, coverage_report, output_reports, reg_report, mem_report, storage_reports, loop_reports, check_module_drivers, check_modules, check_design}
use Rattle.spec.specs.Graph.{◌∈◌, ClosedWalk}
use Rattle.spec.specs.Situations.{own_lines, own_names, First, misuses_of, IsMisused, sites_named, Has, Meet, Conflicts, Poisoned, IsOutput, IsRange, AllRanges, SetBy, Several, Holds}
use Rattle.spec.specs.Meaning.{heads_at, BeginsAt, NamedBefore, number_of, stage, StageOrder, Precedes, by_module, by_stage, in_stage, ExactlyOne, Means, all_rounds, Meaning}
use Rattle.spec.specs.DepthFirstFinds.{InOrder}
use Rattle.spec.proofs.Flags.{which}
use Rattle.spec.proofs.Numbers.{if_case}
use Rattle.spec.proofs.Firsts.{part_at, order_append, order_weaken, order_once, gather, of_gather, in_gather, gather_order, firsts, firsts_say, first_of, firsts_order}
use Rattle.spec.proofs.Meetings.{meeting_up, no_meetings, conflicts_order, SomeHas, gap_says, no_gap, never_says, gap_covers, none_says, several_says}
use Rattle.spec.proofs.Walks.{closed_along}
use Rattle.spec.proofs.Nodes.{next_read, read_next}
use Rattle.spec.proofs.CyclesFound.{cycles_found, loops_one_way}
use Rattle.spec.proofs.Refusals.{accepted_is}
use Rattle.spec.proofs.Situations.{once_firsts, lines_firsts, storage_firsts, sites_in, misused_in, conflicts_in, poisoned_in, misused_say, sites_fit, conflict_says, clean_says, outputs_say, regs_say, mems_say}

-- ---- what a report says

-- what a report says, of module k at m whose lines head and read hs
abbrev Says : List Head → ℕ → Module → Report → Type 0
Says hs m k (report m' start n x) = (m' ≡ m) × Holds k start n x
Says hs m k (loop_report m' start w) = (m' ≡ m) × (w ∈ find_cycles hs) × BeginsAt hs start w

says_number : (hs : List Head) (m : ℕ) (k : Module) (r : Report) → Says hs m k r → number_of r ≡ m
says_number hs m k (report m' start n x) s = s.0
says_number hs m k (loop_report m' start w) s = s.0

-- ---- the six parts of a module's list

misuses_gathered : (m : ℕ) (l : List Misused) → misuse_reports m l ≡ gather (λ u. report m u.start u.name (misused u.misuse) ∷ []) l
unfolding misuse_reports gather
misuses_gathered m [] = refl
misuses_gathered m (u ∷ l) = ap (λ z. report m u.start u.name (misused u.misuse) ∷ z) (misuses_gathered m l)

conflicts_gathered : (m : ℕ) (l : List Conflict) → conflict_reports m l ≡ gather (λ c. report m c.start c.name many ∷ []) l
unfolding conflict_reports gather
conflicts_gathered m [] = refl
conflicts_gathered m (c ∷ l) = ap (λ z. report m c.start c.name many ∷ z) (conflicts_gathered m l)

-- what is reported of an output, unless its name is poisoned
cover_of : ℕ → Module → Output → List Report
cover_of m k o = elim (has_name o.name (poisoned_in k)) [ true ↦ [] | false ↦ coverage_report m o (coverage (own_names k) (sites_named k o.name) o.width) ]

outputs_gathered : (m : ℕ) (k : Module) (l : List Output) → output_reports m (own_names k) (poisoned_in k) (sites_in k) l ≡ gather (cover_of m k) l
unfolding output_reports gather cover_of
outputs_gathered m k [] = refl
outputs_gathered m k (o ∷ l) = go (has_name o.name (poisoned_in k)) refl (outputs_gathered m k l)
  where
    go : (b : Bool) → has_name o.name (poisoned_in k) ≡ b → output_reports m (own_names k) (poisoned_in k) (sites_in k) l ≡ gather (cover_of m k) l
        → output_reports m (own_names k) (poisoned_in k) (sites_in k) (o ∷ l) ≡ gather (cover_of m k) (o ∷ l)
    go true e ih = rw (e, output_reports, cover_of) ih
    go false e ih = rw (e, output_reports, cover_of) (ap (λ z. coverage_report m o (coverage (own_names k) (sites_named k o.name) o.width) ++ z) ih)

-- what is reported of a register or memory, unless its name is poisoned
storage_of : (Storage → ℕ → List Report) → Module → Storage → List Report
storage_of f k r = elim (has_name r.name (poisoned_in k)) [ true ↦ [] | false ↦ f r (block_count r.name (pairs k.header (own_lines k))) ]

storage_gathered : (f : Storage → ℕ → List Report) (k : Module) (l : List Storage) → storage_reports f (poisoned_in k) (pairs k.header (own_lines k)) l ≡ gather (storage_of f k) l
unfolding storage_reports gather storage_of
storage_gathered f k [] = refl
storage_gathered f k (r ∷ l) = go (has_name r.name (poisoned_in k)) refl (storage_gathered f k l)
  where
    go : (b : Bool) → has_name r.name (poisoned_in k) ≡ b → storage_reports f (poisoned_in k) (pairs k.header (own_lines k)) l ≡ gather (storage_of f k) l
        → storage_reports f (poisoned_in k) (pairs k.header (own_lines k)) (r ∷ l) ≡ gather (storage_of f k) (r ∷ l)
    go true e ih = rw (e, storage_reports, storage_of) ih
    go false e ih = rw (e, storage_reports, storage_of) (ap (λ z. f r (block_count r.name (pairs k.header (own_lines k))) ++ z) ih)

-- the report of a walk
abbrev loop_of : ℕ → List Head → List Node → List Report
loop_of m hs [] = []
loop_of m hs (n ∷ w) = loop_report m (start_of hs n) (n ∷ w) ∷ []

loops_gathered : (m : ℕ) (hs : List Head) (l : List (List Node)) → loop_reports m hs l ≡ gather (loop_of m hs) l
unfolding loop_reports gather
loops_gathered m hs [] = refl
loops_gathered m hs ([] ∷ l) = loops_gathered m hs l
loops_gathered m hs ((n ∷ w) ∷ l) = ap (λ z. loop_report m (start_of hs n) (n ∷ w) ∷ z) (loops_gathered m hs l)

-- one stage of a module's list: just the reports of that stage whose situation holds, in order
record Part (hs : List Head) (m : ℕ) (k : Module) (i : ℕ) (l : List Report) : Type 0 where
  up : (r : Report) → r ∈ l → Says hs m k r × (stage r ≡ i)
  down : (r : Report) → Says hs m k r → stage r ≡ i → r ∈ l
  order : InOrder (StageOrder hs k) l

-- one report alone is in order
alone : (R : Report → Report → Type 0) (r : Report) → InOrder R (r ∷ [])
alone R r = (λ b i. absurd (Memᴰ.not-nil i), tt)

module _ (hs : List Head) (m : ℕ) (k : Module) where
  abbrev Good : ℕ → Report → Type 0
  Good i r = Says hs m k r × (stage r ≡ i)

  misuse_part : Part hs m k 0 (misuse_reports m (misused_in k))
  misuse_part = subst⁻¹ (Part hs m k 0) (misuses_gathered m (misused_in k)) (record {
    up = λ r i. let (u, j, x) = of_gather g (misused_in k) i in subst⁻¹ (Good 0) (Memᴰ.eq_of_singleton x) ((refl, (misused_say k u).0 j), refl);
    down = down;
    order = gather_order g (misused_in k) (subst⁻¹ (InOrder S) (once_firsts (misuses_of k) []) (firsts_order (λ u. u.name) [] (misuses_of k) [] (λ a i. absurd (Memᴰ.not-nil i)))) (λ u. alone (StageOrder hs k) (report m u.start u.name (misused u.misuse)))
        (λ a a' b b' i i' s x y. subst₂ (StageOrder hs k) (sym (Memᴰ.eq_of_singleton x)) (sym (Memᴰ.eq_of_singleton y)) s);
  })
    where
      g : Misused → List Report
      g u = report m u.start u.name (misused u.misuse) ∷ []

      S : Misused → Misused → Type 0
      S x y = NamedBefore (λ u. u.name) (misuses_of k) x.name y.name

      down : (r : Report) → Says hs m k r → stage r ≡ 0 → r ∈ gather g (misused_in k)
      down (report m' start n (misused u)) (e, f) q =
          let v : Misused = record { name = n; start = start; misuse = u } in
          in_gather g {a = v} ((misused_say k v).1 f) (Memᴰ.head (ap (λ z. report z start n (misused u)) e))
      down (report m' start n many) s q = absurd (omega arith)
      down (report m' start n never) s q = absurd (omega arith)
      down (report m' start n (gap b)) s q = absurd (omega arith)
      down (report m' start n no_block) s q = absurd (omega arith)
      down (report m' start n blocks) s q = absurd (omega arith)
      down (report m' start n mem_blocks) s q = absurd (omega arith)
      down (loop_report m' start w) s q = absurd (omega arith)

  conflict_part : Part hs m k 1 (conflict_reports m (conflicts_in k))
  conflict_part = subst⁻¹ (Part hs m k 1) (conflicts_gathered m (conflicts_in k)) (record {
    up = λ r i. let (c, j, x) = of_gather g (conflicts_in k) i in subst⁻¹ (Good 1) (Memᴰ.eq_of_singleton x) ((refl, (conflict_says k c).0 j), refl);
    down = down;
    order = gather_order g (conflicts_in k) (conflicts_order (sites_in k) (misused_names (misused_in k)) (sites_in k)) (λ c. alone (StageOrder hs k) (report m c.start c.name many))
        (λ a a' b b' i i' s x y. subst₂ (StageOrder hs k) (sym (Memᴰ.eq_of_singleton x)) (sym (Memᴰ.eq_of_singleton y)) s);
  })
    where
      g : Conflict → List Report
      g c = report m c.start c.name many ∷ []

      down : (r : Report) → Says hs m k r → stage r ≡ 1 → r ∈ gather g (conflicts_in k)
      down (report m' start n many) (e, f) q =
          let c : Conflict = record { start = start; name = n } in
          in_gather g {a = c} ((conflict_says k c).1 f) (Memᴰ.head (ap (λ z. report z start n many) e))
      down (report m' start n (misused u)) s q = absurd (omega arith)
      down (report m' start n never) s q = absurd (omega arith)
      down (report m' start n (gap b)) s q = absurd (omega arith)
      down (report m' start n no_block) s q = absurd (omega arith)
      down (report m' start n blocks) s q = absurd (omega arith)
      down (report m' start n mem_blocks) s q = absurd (omega arith)
      down (loop_report m' start w) s q = absurd (omega arith)

  -- a report of stage i about a name
  abbrev Shaped : ℕ → ℕ → ℕ → Report → Type 0
  Shaped i start n r = (x : Detail) × (r ≡ report m start n x) × (stage (report m start n x) ≡ i)

  cover_up : (o : Output) → First (λ o. o.name) (output_lines (own_lines k)) o → ¬ Poisoned k o.name → (c : Coverage) → coverage (own_names k) (sites_named k o.name) o.width ≡ c
      → (r : Report) → r ∈ coverage_report m o c → Good 2 r × Shaped 2 o.start o.name r
  cover_up o f p never_driven e r i =
      let d = Memᴰ.eq_of_singleton i in
      (subst⁻¹ (Good 2) d ((refl, (o.width, f, p, (never_says (own_names k) (sites_named k o.name) o.width).0 e)), refl), (never, d, refl))
  cover_up o f p fully e r i = absurd (Memᴰ.not-nil i)
  cover_up o f p (gap_at b) e r i =
      let d = Memᴰ.eq_of_singleton i in
      let (ne, rs, w) = (gap_covers (own_names k) (sites_named k o.name) o.width b).0 e in
      (subst⁻¹ (Good 2) d ((refl, (o.width, f, p, ne, rs, w)), refl), (gap b, d, refl))

  cover_in : (o : Output) → o ∈ outputs (own_lines k) → (r : Report) → r ∈ cover_of m k o → Good 2 r × Shaped 2 o.start o.name r
  unfolding cover_of
  cover_in o j r i = go (has_name o.name (poisoned_in k)) refl
    where
      go : (b : Bool) → has_name o.name (poisoned_in k) ≡ b → Good 2 r × Shaped 2 o.start o.name r
      go true e = absurd (Memᴰ.not-nil (rw (e, cover_of) at i))
      go false e = cover_up o ((outputs_say k o).0 j) ((clean_says k o.name).0 e) (coverage (own_names k) (sites_named k o.name) o.width) refl r (rw (e, cover_of) at i)

  cover_has : (o : Output) (c : Coverage) (r : Report) → ¬ Poisoned k o.name → coverage (own_names k) (sites_named k o.name) o.width ≡ c → r ∈ coverage_report m o c → r ∈ cover_of m k o
  unfolding cover_of
  cover_has o c r p e i = rw ((clean_says k o.name).1 p, cover_of) (subst⁻¹ (λ z. r ∈ coverage_report m o z) e i)

  cover_order : (o : Output) → InOrder (StageOrder hs k) (cover_of m k o)
  unfolding cover_of
  cover_order o = if_case (InOrder (StageOrder hs k)) (has_name o.name (poisoned_in k)) [] (coverage_report m o (coverage (own_names k) (sites_named k o.name) o.width)) (λ e. tt) (λ e. go (coverage (own_names k) (sites_named k o.name) o.width))
    where
      go : (c : Coverage) → InOrder (StageOrder hs k) (coverage_report m o c)
      go never_driven = alone (StageOrder hs k) (report m o.start o.name never)
      go fully = tt
      go (gap_at b) = alone (StageOrder hs k) (report m o.start o.name (gap b))

  output_order : (start n start' n' : ℕ) (r r' : Report) → Shaped 2 start n r → Shaped 2 start' n' r' → NamedBefore (λ o. o.name) (output_lines (own_lines k)) n n' → StageOrder hs k r r'
  output_order start n start' n' r r' (x, d, q) (x', d', q') s = subst₂ (StageOrder hs k) (sym d) (sym d') (go x q)
    where
      go : (x : Detail) → stage (report m start n x) ≡ 2 → StageOrder hs k (report m start n x) (report m start' n' x')
      go (misused u) q = absurd (omega arith)
      go many q = absurd (omega arith)
      go never q = s
      go (gap b) q = s
      go no_block q = absurd (omega arith)
      go blocks q = absurd (omega arith)
      go mem_blocks q = absurd (omega arith)

  output_part : Part hs m k 2 (output_reports m (own_names k) (poisoned_in k) (sites_in k) (outputs (own_lines k)))
  unfolding outputs
  output_part = subst⁻¹ (Part hs m k 2) (outputs_gathered m k (outputs (own_lines k))) (record {
    up = λ r i. let (o, j, x) = of_gather (cover_of m k) (outputs (own_lines k)) i in (cover_in o j r x).0;
    down = down;
    order = gather_order (cover_of m k) (outputs (own_lines k)) (subst⁻¹ (InOrder S) (lines_firsts (output_lines (own_lines k)) []) (firsts_order (λ o. o.name) [] (output_lines (own_lines k)) [] (λ a i. absurd (Memᴰ.not-nil i)))) cover_order
        (λ a a' b b' i i' s x y. output_order a.start a.name a'.start a'.name b b' (cover_in a i b x).1 (cover_in a' i' b' y).1 s);
  })
    where
      S : Output → Output → Type 0
      S x y = NamedBefore (λ o. o.name) (output_lines (own_lines k)) x.name y.name

      down : (r : Report) → Says hs m k r → stage r ≡ 2 → r ∈ gather (cover_of m k) (outputs (own_lines k))
      down (report m' start n never) (e, (w, f, p, z)) q =
          let o : Output = record { name = n; width = w; start = start } in
          in_gather (cover_of m k) {a = o} ((outputs_say k o).1 f) (cover_has o never_driven (report m' start n never) p ((never_says (own_names k) (sites_named k n) w).1 z) (Memᴰ.head (ap (λ z. report z start n never) e)))
      down (report m' start n (gap b)) (e, (w, f, p, ne, rs, g)) q =
          let o : Output = record { name = n; width = w; start = start } in
          in_gather (cover_of m k) {a = o} ((outputs_say k o).1 f) (cover_has o (gap_at b) (report m' start n (gap b)) p ((gap_covers (own_names k) (sites_named k n) w b).1 (ne, rs, g)) (Memᴰ.head (ap (λ z. report z start n (gap b)) e)))
      down (report m' start n (misused u)) s q = absurd (omega arith)
      down (report m' start n many) s q = absurd (omega arith)
      down (report m' start n no_block) s q = absurd (omega arith)
      down (report m' start n blocks) s q = absurd (omega arith)
      down (report m' start n mem_blocks) s q = absurd (omega arith)
      down (loop_report m' start w) s q = absurd (omega arith)

  -- registers and memories
  storage_in : (f : Storage → ℕ → List Report) (r : Storage) (x : Report) → x ∈ storage_of f k r → ¬ Poisoned k r.name × (x ∈ f r (block_count r.name (pairs k.header (own_lines k))))
  unfolding storage_of
  storage_in f r x i = go (has_name r.name (poisoned_in k)) refl
    where
      go : (b : Bool) → has_name r.name (poisoned_in k) ≡ b → ¬ Poisoned k r.name × (x ∈ f r (block_count r.name (pairs k.header (own_lines k))))
      go true e = absurd (Memᴰ.not-nil (rw (e, storage_of) at i))
      go false e = ((clean_says k r.name).0 e, rw (e, storage_of) at i)

  storage_has : (f : Storage → ℕ → List Report) (r : Storage) (x : Report) → ¬ Poisoned k r.name → x ∈ f r (block_count r.name (pairs k.header (own_lines k))) → x ∈ storage_of f k r
  unfolding storage_of
  storage_has f r x p i = rw ((clean_says k r.name).1 p, storage_of) i

  storage_order : (f : Storage → ℕ → List Report) → ((r : Storage) (c : ℕ) → InOrder (StageOrder hs k) (f r c)) → (r : Storage) → InOrder (StageOrder hs k) (storage_of f k r)
  unfolding storage_of
  storage_order f h r = if_case (InOrder (StageOrder hs k)) (has_name r.name (poisoned_in k)) [] (f r (block_count r.name (pairs k.header (own_lines k)))) (λ e. tt) (λ e. h r (block_count r.name (pairs k.header (own_lines k))))

  no_blocks_say : (n : ℕ) → (block_count n (pairs k.header (own_lines k)) ≡ 0) ↔ ((b : ℕ) → ¬ SetBy k n b)
  unfolding pairs
  no_blocks_say n = none_says n (all_pairs k.header (own_lines k))

  several_say : (n : ℕ) → (1 < block_count n (pairs k.header (own_lines k))) ↔ Several k n
  unfolding pairs
  several_say n = several_says n (all_pairs k.header (own_lines k))

  -- a count above one
  two_more : (n : ℕ) → 1 < n → (c : ℕ) × (n ≡ suc (suc c))
  two_more zero h = absurd (omega arith)
  two_more (suc zero) h = absurd (omega arith)
  two_more (suc (suc c)) h = (c, refl)

  reg_up : (r : Storage) → First (λ r. r.name) (storage_lines line_regs (own_lines k)) r → ¬ Poisoned k r.name → (c : ℕ) → block_count r.name (pairs k.header (own_lines k)) ≡ c
      → (x : Report) → x ∈ reg_report m r c → Good 3 x × Shaped 3 r.start r.name x
  reg_up r f p zero e x i =
      let d = Memᴰ.eq_of_singleton i in
      (subst⁻¹ (Good 3) d ((refl, (f, p, (no_blocks_say r.name).0 e)), refl), (no_block, d, refl))
  reg_up r f p (suc zero) e x i = absurd (Memᴰ.not-nil i)
  reg_up r f p (suc (suc c)) e x i =
      let d = Memᴰ.eq_of_singleton i in
      (subst⁻¹ (Good 3) d ((refl, (f, p, (several_say r.name).0 (omega arith))), refl), (blocks, d, refl))

  mem_up : (r : Storage) → First (λ r. r.name) (storage_lines line_mems (own_lines k)) r → ¬ Poisoned k r.name → (c : ℕ) → block_count r.name (pairs k.header (own_lines k)) ≡ c
      → (x : Report) → x ∈ mem_report m r c → Good 4 x × Shaped 4 r.start r.name x
  mem_up r f p zero e x i = absurd (Memᴰ.not-nil i)
  mem_up r f p (suc zero) e x i = absurd (Memᴰ.not-nil i)
  mem_up r f p (suc (suc c)) e x i =
      let d = Memᴰ.eq_of_singleton i in
      (subst⁻¹ (Good 4) d ((refl, (f, p, (several_say r.name).0 (omega arith))), refl), (mem_blocks, d, refl))

  reg_in : (r : Storage) → r ∈ regs (own_lines k) → (x : Report) → x ∈ storage_of (reg_report m) k r → Good 3 x × Shaped 3 r.start r.name x
  reg_in r j x i = let (p, y) = storage_in (reg_report m) r x i in reg_up r ((regs_say k r).0 j) p (block_count r.name (pairs k.header (own_lines k))) refl x y

  mem_in : (r : Storage) → r ∈ mems (own_lines k) → (x : Report) → x ∈ storage_of (mem_report m) k r → Good 4 x × Shaped 4 r.start r.name x
  mem_in r j x i = let (p, y) = storage_in (mem_report m) r x i in mem_up r ((mems_say k r).0 j) p (block_count r.name (pairs k.header (own_lines k))) refl x y

  reg_report_order : (r : Storage) (c : ℕ) → InOrder (StageOrder hs k) (reg_report m r c)
  reg_report_order r zero = alone (StageOrder hs k) (report m r.start r.name no_block)
  reg_report_order r (suc zero) = tt
  reg_report_order r (suc (suc c)) = alone (StageOrder hs k) (report m r.start r.name blocks)

  mem_report_order : (r : Storage) (c : ℕ) → InOrder (StageOrder hs k) (mem_report m r c)
  mem_report_order r zero = tt
  mem_report_order r (suc zero) = tt
  mem_report_order r (suc (suc c)) = alone (StageOrder hs k) (report m r.start r.name mem_blocks)

  reg_order : (start n start' n' : ℕ) (r r' : Report) → Shaped 3 start n r → Shaped 3 start' n' r' → NamedBefore (λ r. r.name) (storage_lines line_regs (own_lines k)) n n' → StageOrder hs k r r'
  reg_order start n start' n' r r' (x, d, q) (x', d', q') s = subst₂ (StageOrder hs k) (sym d) (sym d') (go x q)
    where
      go : (x : Detail) → stage (report m start n x) ≡ 3 → StageOrder hs k (report m start n x) (report m start' n' x')
      go (misused u) q = absurd (omega arith)
      go many q = absurd (omega arith)
      go never q = absurd (omega arith)
      go (gap b) q = absurd (omega arith)
      go no_block q = s
      go blocks q = s
      go mem_blocks q = absurd (omega arith)

  mem_order : (start n start' n' : ℕ) (r r' : Report) → Shaped 4 start n r → Shaped 4 start' n' r' → NamedBefore (λ r. r.name) (storage_lines line_mems (own_lines k)) n n' → StageOrder hs k r r'
  mem_order start n start' n' r r' (x, d, q) (x', d', q') s = subst₂ (StageOrder hs k) (sym d) (sym d') (go x q)
    where
      go : (x : Detail) → stage (report m start n x) ≡ 4 → StageOrder hs k (report m start n x) (report m start' n' x')
      go (misused u) q = absurd (omega arith)
      go many q = absurd (omega arith)
      go never q = absurd (omega arith)
      go (gap b) q = absurd (omega arith)
      go no_block q = absurd (omega arith)
      go blocks q = absurd (omega arith)
      go mem_blocks q = s

  reg_part : Part hs m k 3 (storage_reports (reg_report m) (poisoned_in k) (pairs k.header (own_lines k)) (regs (own_lines k)))
  unfolding regs
  reg_part = subst⁻¹ (Part hs m k 3) (storage_gathered (reg_report m) k (regs (own_lines k))) (record {
    up = λ r i. let (s, j, x) = of_gather g (regs (own_lines k)) i in (reg_in s j r x).0;
    down = down;
    order = gather_order g (regs (own_lines k)) (subst⁻¹ (InOrder S) (storage_firsts (storage_lines line_regs (own_lines k)) []) (firsts_order (λ r. r.name) [] (storage_lines line_regs (own_lines k)) [] (λ a i. absurd (Memᴰ.not-nil i))))
        (storage_order (reg_report m) reg_report_order)
        (λ a a' b b' i i' s x y. reg_order a.start a.name a'.start a'.name b b' (reg_in a i b x).1 (reg_in a' i' b' y).1 s);
  })
    where
      g : Storage → List Report
      g = storage_of (reg_report m) k

      S : Storage → Storage → Type 0
      S x y = NamedBefore (λ r. r.name) (storage_lines line_regs (own_lines k)) x.name y.name

      down : (r : Report) → Says hs m k r → stage r ≡ 3 → r ∈ gather g (regs (own_lines k))
      down (report m' start n no_block) (e, (f, p, h)) q =
          let s : Storage = record { name = n; start = start } in
          in_gather g {a = s} ((regs_say k s).1 f) (storage_has (reg_report m) s (report m' start n no_block) p
          (subst⁻¹ (λ z. report m' start n no_block ∈ reg_report m s z) ((no_blocks_say n).1 h) (Memᴰ.head (ap (λ z. report z start n no_block) e))))
      down (report m' start n blocks) (e, (f, p, h)) q =
          let s : Storage = record { name = n; start = start } in
          let (c, two) = two_more (block_count n (pairs k.header (own_lines k))) ((several_say n).1 h) in
          in_gather g {a = s} ((regs_say k s).1 f) (storage_has (reg_report m) s (report m' start n blocks) p
          (subst⁻¹ (λ z. report m' start n blocks ∈ reg_report m s z) two (Memᴰ.head (ap (λ z. report z start n blocks) e))))
      down (report m' start n (misused u)) s q = absurd (omega arith)
      down (report m' start n many) s q = absurd (omega arith)
      down (report m' start n never) s q = absurd (omega arith)
      down (report m' start n (gap b)) s q = absurd (omega arith)
      down (report m' start n mem_blocks) s q = absurd (omega arith)
      down (loop_report m' start w) s q = absurd (omega arith)

  mem_part : Part hs m k 4 (storage_reports (mem_report m) (poisoned_in k) (pairs k.header (own_lines k)) (mems (own_lines k)))
  unfolding mems
  mem_part = subst⁻¹ (Part hs m k 4) (storage_gathered (mem_report m) k (mems (own_lines k))) (record {
    up = λ r i. let (s, j, x) = of_gather g (mems (own_lines k)) i in (mem_in s j r x).0;
    down = down;
    order = gather_order g (mems (own_lines k)) (subst⁻¹ (InOrder S) (storage_firsts (storage_lines line_mems (own_lines k)) []) (firsts_order (λ r. r.name) [] (storage_lines line_mems (own_lines k)) [] (λ a i. absurd (Memᴰ.not-nil i))))
        (storage_order (mem_report m) mem_report_order)
        (λ a a' b b' i i' s x y. mem_order a.start a.name a'.start a'.name b b' (mem_in a i b x).1 (mem_in a' i' b' y).1 s);
  })
    where
      g : Storage → List Report
      g = storage_of (mem_report m) k

      S : Storage → Storage → Type 0
      S x y = NamedBefore (λ r. r.name) (storage_lines line_mems (own_lines k)) x.name y.name

      down : (r : Report) → Says hs m k r → stage r ≡ 4 → r ∈ gather g (mems (own_lines k))
      down (report m' start n mem_blocks) (e, (f, p, h)) q =
          let s : Storage = record { name = n; start = start } in
          let (c, two) = two_more (block_count n (pairs k.header (own_lines k))) ((several_say n).1 h) in
          in_gather g {a = s} ((mems_say k s).1 f) (storage_has (mem_report m) s (report m' start n mem_blocks) p
          (subst⁻¹ (λ z. report m' start n mem_blocks ∈ mem_report m s z) two (Memᴰ.head (ap (λ z. report z start n mem_blocks) e))))
      down (report m' start n (misused u)) s q = absurd (omega arith)
      down (report m' start n many) s q = absurd (omega arith)
      down (report m' start n never) s q = absurd (omega arith)
      down (report m' start n (gap b)) s q = absurd (omega arith)
      down (report m' start n no_block) s q = absurd (omega arith)
      down (report m' start n blocks) s q = absurd (omega arith)
      down (loop_report m' start w) s q = absurd (omega arith)

  -- loops
  loop_up : (w : List Node) → w ∈ find_cycles hs → (r : Report) → r ∈ loop_of m hs w → Good 5 r × ((start : ℕ) × (r ≡ loop_report m start w))
  loop_up [] j r i = absurd (Memᴰ.not-nil i)
  loop_up (n ∷ w) j r i = let d = Memᴰ.eq_of_singleton i in (subst⁻¹ (Good 5) d ((refl, j, refl), refl), (start_of hs n, d))

  loop_part : Part hs m k 5 (loop_reports m hs (find_cycles hs))
  loop_part = subst⁻¹ (Part hs m k 5) (loops_gathered m hs (find_cycles hs)) (record {
    up = λ r i. let (w, j, x) = of_gather (loop_of m hs) (find_cycles hs) i in (loop_up w j r x).0;
    down = down;
    order = gather_order (loop_of m hs) (find_cycles hs) (cycles_found hs).by_ways.order single
        (λ a a' b b' i i' s x y. subst₂ (StageOrder hs k) (sym (loop_up a i b x).1.1) (sym (loop_up a' i' b' y).1.1) s);
  })
    where
      single : (w : List Node) → InOrder (StageOrder hs k) (loop_of m hs w)
      single [] = tt
      single (n ∷ w) = alone (StageOrder hs k) (loop_report m (start_of hs n) (n ∷ w))

      down : (r : Report) → Says hs m k r → stage r ≡ 5 → r ∈ gather (loop_of m hs) (find_cycles hs)
      down (loop_report m' start []) (e, j, b) q = absurd b
      down (loop_report m' start (n ∷ w)) (e, j, b) q = in_gather (loop_of m hs) j (Memᴰ.head (λ i. loop_report (e i) (b i) (n ∷ w)))
      down (report m' start n (misused u)) s q = absurd (omega arith)
      down (report m' start n many) s q = absurd (omega arith)
      down (report m' start n never) s q = absurd (omega arith)
      down (report m' start n (gap b)) s q = absurd (omega arith)
      down (report m' start n no_block) s q = absurd (omega arith)
      down (report m' start n blocks) s q = absurd (omega arith)
      down (report m' start n mem_blocks) s q = absurd (omega arith)

  -- ---- the stages together

  abbrev ModuleOrder : Report → Report → Type 0
  ModuleOrder r r' = (stage r < stage r') ⊎ ((stage r ≡ stage r') × StageOrder hs k r r')

  -- the stages below j
  record Below (j : ℕ) (l : List Report) : Type 0 where
    up : (r : Report) → r ∈ l → Says hs m k r × (stage r < j)
    down : (r : Report) → Says hs m k r → stage r < j → r ∈ l
    order : InOrder ModuleOrder l

  below_none : Below 0 []
  below_none = record { up = λ r i. absurd (Memᴰ.not-nil i); down = λ r s h. absurd (omega arith); order = tt }

  below_more : (j : ℕ) (l p : List Report) → Below j l → Part hs m k j p → Below (suc j) (l ++ p)
  below_more j l p b q = record {
    up = λ r i. up r (Memᴰ.append_cases l i);
    down = λ r s h. down r s h (which (eqb (stage r) j));
    order = order_append l p b.order (order_weaken p same q.order) (λ r r' i i'. let x = (b.up r i).1 in let y = (q.up r' i').1 in inl (omega arith));
  }
    where
      up : (r : Report) → (r ∈ l) ⊎ (r ∈ p) → Says hs m k r × (stage r < suc j)
      up r (inl i) = let (s, h) = b.up r i in (s, omega arith)
      up r (inr i) = let (s, h) = q.up r i in (s, omega arith)

      down : (r : Report) → Says hs m k r → stage r < suc j → (eqb (stage r) j ≡ true) ⊎ (eqb (stage r) j ≡ false) → r ∈ (l ++ p)
      down r s h (inl e) = Memᴰ.append_right l (q.down r s (eqb-true (stage r) j e))
      down r s h (inr e) = let n = eqb-false (stage r) j e in Memᴰ.append_left p (b.down r s (omega arith))

      same : (r r' : Report) → r ∈ p → r' ∈ p → StageOrder hs k r r' → ModuleOrder r r'
      same r r' i i' s = let x = (q.up r i).1 in let y = (q.up r' i').1 in inr (x ∙ sym y, s)

  -- all but loops
  pub others_list : List Report
  others_list =
      misuse_reports m (misused_in k) ++ conflict_reports m (conflicts_in k) ++ output_reports m (own_names k) (poisoned_in k) (sites_in k) (outputs (own_lines k))
      ++ storage_reports (reg_report m) (poisoned_in k) (pairs k.header (own_lines k)) (regs (own_lines k))
      ++ storage_reports (mem_report m) (poisoned_in k) (pairs k.header (own_lines k)) (mems (own_lines k))

  others_below : Below 5 others_list
  unfolding others_list
  others_below = below_more 4 _ _ (below_more 3 _ _ (below_more 2 _ _ (below_more 1 _ _ (below_more 0 [] _ below_none misuse_part) conflict_part) output_part) reg_part) mem_part

  pub others_stage : (r : Report) → r ∈ others_list → stage r < 5
  others_stage r i = (others_below.up r i).1

  abbrev module_list : List Report
  module_list = others_list ++ loop_reports m hs (find_cycles hs)

  module_below : Below 6 module_list
  module_below = below_more 5 _ _ others_below loop_part

  stage_below : (r : Report) → stage r < 6
  stage_below (report m' start n (misused u)) = omega arith
  stage_below (report m' start n many) = omega arith
  stage_below (report m' start n never) = omega arith
  stage_below (report m' start n (gap b)) = omega arith
  stage_below (report m' start n no_block) = omega arith
  stage_below (report m' start n blocks) = omega arith
  stage_below (report m' start n mem_blocks) = omega arith
  stage_below (loop_report m' start w) = omega arith

-- ---- all modules

abbrev pub heads_in : Design → Kept → Module → List Head
heads_in d kept k = (module_heads d kept k (own_lines k)).heads

pub module_is : (d : Design) (kept : Kept) (m : ℕ) (k : Module) → (check_module_drivers d kept m k).reports ≡ others_list (heads_in d kept k) m k ++ loop_reports m (heads_in d kept k) (find_cycles (heads_in d kept k))
unfolding check_module_drivers others_list
module_is d kept m k = refl

-- of these modules, the first of which has the number m, one says it
record At (d : Design) (kept : Kept) (m : ℕ) (ms : List Module) (r : Report) : Type 0 where
  position : ℕ
  own : Module
  placed : get_elem? ms position ≡ some own
  says : Says (heads_in d (check_modules d kept m (take position ms)).kept own) (m + position) own r

-- and what stands before what
data Later (d : Design) (kept : Kept) (m : ℕ) (ms : List Module) (r r' : Report) : Type 0 where
  later_module : number_of r < number_of r' → Later d kept m ms r r'
  later_stage : number_of r ≡ number_of r' → stage r < stage r' → Later d kept m ms r r'
  later_same : number_of r ≡ number_of r' → stage r ≡ stage r' → (j : ℕ) (k : Module) → get_elem? ms j ≡ some k → number_of r ≡ m + j
      → StageOrder (heads_in d (check_modules d kept m (take j ms)).kept k) k r r' → Later d kept m ms r r'

some_same : {A : Type 0} {a b : A} → some a ≡ some b → a ≡ b
some_same e = cc

none_some : {A : Type 0} {a : A} → none ≡ some a → ⊥
none_some e = let z : ◌≡◌ {A = ℕ} 0 1 = cc in omega arith

says_at : (hs : List Head) (m m' : ℕ) (k : Module) (r : Report) → m ≡ m' → Says hs m k r → Says hs m' k r
says_at hs m m' k r e s = subst (λ z. Says hs z k r) e s

module _ (d : Design) where
  at_up : (ms : List Module) (kept : Kept) (m : ℕ) (r : Report) → r ∈ (check_modules d kept m ms).reports → At d kept m ms r
  unfolding check_modules
  at_up [] kept m r i = absurd (Memᴰ.not-nil i)
  at_up (k ∷ ks) kept m r i = go (Memᴰ.append_cases (check_module_drivers d kept m k).reports i) (at_up ks (check_module_drivers d kept m k).kept (suc m) r)
    where
      next : Kept
      next = (check_module_drivers d kept m k).kept

      go : (r ∈ (check_module_drivers d kept m k).reports) ⊎ (r ∈ (check_modules d next (suc m) ks).reports) → (r ∈ (check_modules d next (suc m) ks).reports → At d next (suc m) ks r) → At d kept m (k ∷ ks) r
      go (inl j) ih = record { position = 0; own = k; placed = refl; says = says_at (heads_in d kept k) m (m + 0) k r (omega arith) ((module_below (heads_in d kept k) m k).up r (subst (λ z. r ∈ z) (module_is d kept m k) j)).0 }
      go (inr j) ih = let a = ih j in record {
        position = suc a.position;
        own = a.own;
        placed = a.placed;
        says = says_at (heads_in d (check_modules d next (suc m) (take a.position ks)).kept a.own) (suc m + a.position) (m + suc a.position) a.own r (omega arith) a.says;
      }

  at_down : (j : ℕ) (ms : List Module) (kept : Kept) (m : ℕ) (k : Module) (r : Report) → get_elem? ms j ≡ some k → Says (heads_in d (check_modules d kept m (take j ms)).kept k) (m + j) k r → r ∈ (check_modules d kept m ms).reports
  unfolding check_modules
  at_down zero [] kept m k r e s = absurd (none_some e)
  at_down (suc j) [] kept m k r e s = absurd (none_some e)
  at_down zero (k' ∷ ks) kept m k r e s =
      Memᴰ.append_left (check_modules d (check_module_drivers d kept m k').kept (suc m) ks).reports
      (subst⁻¹ (λ z. r ∈ z) (module_is d kept m k')
      ((module_below (heads_in d kept k') m k').down r (subst⁻¹ (λ z. Says (heads_in d kept z) m z r) (some_same e) (says_at (heads_in d kept k) (m + 0) m k r (omega arith) s)) (stage_below (heads_in d kept k') m k' r)))
  at_down (suc j) (k' ∷ ks) kept m k r e s =
      Memᴰ.append_right (check_module_drivers d kept m k').reports
      (at_down j ks (check_module_drivers d kept m k').kept (suc m) k r e
      (says_at (heads_in d (check_modules d (check_module_drivers d kept m k').kept (suc m) (take j ks)).kept k) (m + suc j) (suc m + j) k r (omega arith) s))

  later_more : {kept : Kept} {m : ℕ} {k : Module} {ks : List Module} {r r' : Report} → Later d (check_module_drivers d kept m k).kept (suc m) ks r r' → Later d kept m (k ∷ ks) r r'
  unfolding check_modules
  later_more (later_module h) = later_module h
  later_more (later_stage e h) = later_stage e h
  later_more (later_same e h j k p q s) = later_same e h (suc j) k p (omega arith) s

  modules_order : (ms : List Module) (kept : Kept) (m : ℕ) → InOrder (Later d kept m ms) (check_modules d kept m ms).reports
  unfolding check_modules
  modules_order [] kept m = tt
  modules_order (k ∷ ks) kept m =
      order_append a b own (order_weaken b (λ r r' i i' h. later_more h) (modules_order ks (check_module_drivers d kept m k).kept (suc m)))
      (λ r r' i i'. let x = number r i in let y = at_up ks (check_module_drivers d kept m k).kept (suc m) r' i' in let z = says_number _ _ _ r' y.says in later_module (omega arith))
    where
      hs : List Head
      hs = heads_in d kept k

      a : List Report
      a = (check_module_drivers d kept m k).reports

      b : List Report
      b = (check_modules d (check_module_drivers d kept m k).kept (suc m) ks).reports

      number : (r : Report) → r ∈ a → number_of r ≡ m
      number r i = says_number hs m k r ((module_below hs m k).up r (subst (λ z. r ∈ z) (module_is d kept m k) i)).0

      later : (r r' : Report) → number_of r ≡ m → number_of r' ≡ m → (stage r < stage r') ⊎ ((stage r ≡ stage r') × StageOrder hs k r r') → Later d kept m (k ∷ ks) r r'
      later r r' e e' (inl h) = later_stage (e ∙ sym e') h
      later r r' e e' (inr (h, s)) = later_same (e ∙ sym e') h 0 k refl (omega arith) s

      own : InOrder (Later d kept m (k ∷ ks)) a
      own = order_weaken a (λ r r' i i' h. later r r' (number r i) (number r' i') h) (subst⁻¹ (InOrder (ModuleOrder hs m k)) (module_is d kept m k) (module_below hs m k).order)

-- ---- walks

found_closed : (hs : List Head) (w : List Node) → w ∈ find_cycles hs → ClosedWalk (all_reads hs) w
found_closed hs w i = closed_along (next_nodes hs) (all_reads hs) (λ n m j. next_read hs n j) w ((cycles_found hs).walks w i).0

closed_found : (hs : List Head) (w : List Node) → ClosedWalk (all_reads hs) w → (n : Node) × (l : List Node) × ((n ∷ l) ∈ find_cycles hs)
closed_found hs w c = go (find_cycles hs) refl
  where
    first : (v : List Node) → v ∈ find_cycles hs → (n : Node) × (l : List Node) × ((n ∷ l) ∈ find_cycles hs)
    first [] i = absurd (found_closed hs [] i)
    first (n ∷ l) i = (n, l, i)

    go : (ws : List (List Node)) → find_cycles hs ≡ ws → (n : Node) × (l : List Node) × ((n ∷ l) ∈ find_cycles hs)
    go [] e = absurd ((cycles_found hs).none.0 e w (closed_along (all_reads hs) (next_nodes hs) (λ n m j. read_next hs n j) w c))
    go (v ∷ ws) e = first v (subst⁻¹ (λ z. v ∈ z) e (Memᴰ.head refl))

-- ---- nothing stands before itself

not_before_itself : {A : Type 0} {name : A → ℕ} {l : List A} {n : ℕ} → ¬ NamedBefore name l n n
not_before_itself b = b.other b.one b.stands b.named

not_by_start : (s n : ℕ) → ¬ ((s < s) ⊎ ((s ≡ s) × (n < n)))
not_by_start s n (inl h) = omega arith
not_by_start s n (inr (e, h)) = omega arith

stage_irreflexive : (hs : List Head) (k : Module) (r : Report) → ¬ StageOrder hs k r r
stage_irreflexive hs k (report m s n (misused u)) h = not_before_itself h
stage_irreflexive hs k (report m s n many) h = not_by_start s n h
stage_irreflexive hs k (report m s n never) h = not_before_itself h
stage_irreflexive hs k (report m s n (gap b)) h = not_before_itself h
stage_irreflexive hs k (report m s n no_block) h = not_before_itself h
stage_irreflexive hs k (report m s n blocks) h = not_before_itself h
stage_irreflexive hs k (report m s n mem_blocks) h = not_before_itself h
stage_irreflexive hs k (loop_report m s w) h = loops_one_way hs w w h h

precedes_irreflexive : (d : Design) (r : Report) → ¬ Precedes d r r
precedes_irreflexive d r (by_module h) = omega arith
precedes_irreflexive d r (by_stage e h) = omega arith
precedes_irreflexive d r (in_stage e f k p s) = stage_irreflexive (heads_at d (number_of r) k) k r s

-- ---- an output with no report

-- two ranges that have one bit meet
share : (x y : Extent) (b : ℕ) → IsRange x → IsRange y → Has x b → Has y b → Meet x y
share Whole y b p q h g = absurd p
share Dynamic y b p q h g = absurd p
share Unknown y b p q h g = absurd p
share (Range l u) Whole b p q h g = absurd q
share (Range l u) Dynamic b p q h g = absurd q
share (Range l u) Unknown b p q h g = absurd q
share (Range l u) (Range l' u') b p q h g = (b, h, g)

module _ (k : Module) (start n width : ℕ) (w : Width) (line : IsOutput k start n w) (silent : (start' : ℕ) (x : Detail) → ¬ Holds k start' n x)
    (ranges : AllRanges (sites_named k n)) (wide : width_value (own_names k) w ≡ known (pos width)) where
  not_misused : ¬ IsMisused k n
  not_misused (u, i, e) = go (first_of (λ u. u.name) (misuses_of k) [] u i)
    where
      go : (u.name ∈ []) ⊎ ((y : Misused) × (y ∈ firsts (λ u. u.name) [] (misuses_of k)) × (y.name ≡ u.name)) → ⊥
      go (inl j) = Memᴰ.not-nil j
      go (inr (y, j, q)) =
          silent y.start (misused y.misuse)
          (subst (λ z. First (λ u. u.name) (misuses_of k) (record { name = z; start = y.start; misuse = y.misuse })) (q ∙ e) ((firsts_say (λ u. u.name) (misuses_of k) y).0 j))

  no_conflict : ¬ Conflicts k n
  no_conflict (s, f) = silent s.start many (not_misused, (s, f, refl))

  clean : ¬ Poisoned k n
  clean (inl h) = not_misused h
  clean (inr h) = no_conflict h

  apart : (front back : List Site) (t u : Site) → sites_named k n ≡ front ++ u ∷ back → t ∈ front → ¬ Meet t.extent u.extent
  apart = go (first_conflict [] (sites_named k n)) refl
    where
      go : (o : Option ℕ) → first_conflict [] (sites_named k n) ≡ o → (front back : List Site) (t u : Site) → sites_named k n ≡ front ++ u ∷ back → t ∈ front → ¬ Meet t.extent u.extent
      go none e front back t u p i m = no_meetings (sites_named k n) (sites_fit k n) e front back t u p i m
      go (some s) e front back t u p i m = let (v, f, q) = meeting_up (sites_named k n) (sites_fit k n) s e in no_conflict (v, f)

  some_site : (b : ℕ) → b < min width coverage_limit → SomeHas (sites_named k n) b
  some_site b h = go (first_gap (sites_named k n) width) refl
    where
      go : (o : Option ℕ) → first_gap (sites_named k n) width ≡ o → SomeHas (sites_named k n) b
      go none e = no_gap (sites_named k n) width e b h
      go (some c) e = absurd (silent start (gap c) (w, line, clean, (λ z. silent start never (w, line, clean, z)), ranges, (width, wide, (gap_says (sites_named k n) width c).0 e)))

  one_site : (b : ℕ) → b < min width coverage_limit → ExactlyOne (λ s. Has s.extent b) (sites_named k n)
  one_site b h =
      let (s, i, g) = some_site b h in
      let (before, after, e) = part_at i in
      record { before = before; after = after; one = s; parted = e; has = g; only = λ a j x. other s g before after e a x (Memᴰ.append_cases before j) }
    where
      other : (s : Site) → Has s.extent b → (before after : List Site) → sites_named k n ≡ before ++ s ∷ after → (a : Site) → Has a.extent b → (a ∈ before) ⊎ (a ∈ after) → ⊥
      other s g before after e a x (inl j) =
          apart before after a s e j
          (share a.extent s.extent b (ranges a (subst⁻¹ (λ z. a ∈ z) e (Memᴰ.append_left (s ∷ after) j))) (ranges s (subst⁻¹ (λ z. s ∈ z) e (Memᴰ.append_right before (Memᴰ.head refl)))) x g)
      other s g before after e a x (inr j) =
          let (front, back, q) = part_at j in
          let p : sites_named k n ≡ (before ++ s ∷ front) ++ a ∷ back = e ∙ ap (λ z. before ++ s ∷ z) q ∙ sym (append_assoc before (s ∷ front) (a ∷ back)) in
          apart (before ++ s ∷ front) back s a p (Memᴰ.append_right before (Memᴰ.head refl))
          (share s.extent a.extent b (ranges s (subst⁻¹ (λ z. s ∈ z) e (Memᴰ.append_right before (Memᴰ.head refl)))) (ranges a (subst⁻¹ (λ z. a ∈ z) e (Memᴰ.append_right before (Memᴰ.tail j)))) g x)

-- ---- the theorem

module _ (d : Design) where
  said : List Report
  said = (check_modules d [] 0 d).reports

  about_says : (m start n : ℕ) (x : Detail) → report m start n x ∈ said ↔ ((k : Module) × (get_elem? d m ≡ some k) × Holds k start n x)
  unfolding said
  about_says m start n x = (
    λ i. let a = at_up d d [] 0 (report m start n x) i in
        let e : m ≡ a.position = a.says.0 ∙ omega arith in
        (a.own, subst⁻¹ (λ z. get_elem? d z ≡ some a.own) e a.placed, a.says.1),
    λ (k, e, h). at_down d m d [] 0 k (report m start n x) e (omega arith, h),
  )

  loops_say : (m start : ℕ) (w : List Node) → loop_report m start w ∈ said ↔ ((k : Module) × (get_elem? d m ≡ some k) × Reported (next_nodes (heads_at d m k)) (roots (heads_at d m k)) w × BeginsAt (heads_at d m k) start w)
  unfolding said
  loops_say m start w = (
    λ i. let a = at_up d d [] 0 (loop_report m start w) i in
        let e : m ≡ a.position = a.says.0 ∙ omega arith in
        (a.own, subst⁻¹ (λ z. get_elem? d z ≡ some a.own) e a.placed, ((cycles_found (heads_at d m a.own)).by_ways.exactly w).0 (subst⁻¹ (λ z. w ∈ find_cycles (heads_at d z a.own)) e a.says.1), subst⁻¹ (λ z. BeginsAt (heads_at d z a.own) start w) e a.says.2),
    λ (k, e, j, b). at_down d m d [] 0 k (loop_report m start w) e (omega arith, ((cycles_found (heads_at d m k)).by_ways.exactly w).1 j, b),
  )

  later_precedes : (r r' : Report) → Later d [] 0 d r r' → Precedes d r r'
  later_precedes r r' (later_module h) = by_module h
  later_precedes r r' (later_stage e h) = by_stage e h
  later_precedes r r' (later_same e h j k p q s) =
      let z : number_of r ≡ j = q ∙ omega arith in
      in_stage e h k (subst⁻¹ (λ i. get_elem? d i ≡ some k) z p) (subst⁻¹ (λ i. StageOrder (heads_at d i k) k r r') z s)

  order_says : InOrder (Precedes d) said
  unfolding said
  order_says = order_weaken said (λ r r' i i' h. later_precedes r r' h) (modules_order d d [] 0)

  means : Means d said
  means = record {
    about = about_says;
    loops = loops_say;
    closed = λ m k e w i. found_closed (heads_at d m k) w (((cycles_found (heads_at d m k)).by_ways.exactly w).1 i);
    found = λ m k e w c. let (n, l, i) = closed_found (heads_at d m k) w c in (start_of (heads_at d m k) n, n ∷ l, (loops_say m (start_of (heads_at d m k) n) (n ∷ l)).1 (k, e, ((cycles_found (heads_at d m k)).by_ways.exactly (n ∷ l)).0 i, refl));
    once = order_once (Precedes d) said (λ r i. precedes_irreflexive d r) order_says;
    order = order_says;
    covered = λ m start n width k w e line no_report ranges wide. one_site k start n width w line (λ start' x h. no_report start' x ((about_says m start' n x).1 (k, e, h))) ranges wide;
  }

-- The list of any design says what it says.
pub design_means : (d : Design) → Means d (check_design d).reports
unfolding check_design said
design_means d = means d

rounds_sum : (d : Design) (ms : List Module) (kept : Kept) (m : ℕ) → (check_modules d kept m ms).rounds ≡ all_rounds ms
unfolding check_modules check_module_drivers all_rounds
rounds_sum d [] kept m = refl
rounds_sum d (k ∷ ks) kept m = ap (λ z. (collection (own_vals k) k).taken + z) (rounds_sum d ks (check_module_drivers d kept m k).kept (suc m))

design_rounds : (d : Design) → (check_design d).rounds ≡ all_rounds d
unfolding check_design
design_rounds d = rounds_sum d d [] 0

-- The theorem: demand 2.
pub meaning : Meaning
meaning working text buffer e =
    let a = accepted_is working text buffer e in (
      (check_design (decode text)).reports,
      design_means (decode text),
      record {
        line = ap (λ z. z.line) a;
        bytes = ap (λ z. z.bytes_written) a;
        count = ap (λ z. z.reports) a;
        rounds = ap (λ z. z.rounds) a ∙ design_rounds (decode text);
        buffer_is = ap (λ z. z.buffer) a;
      },
    )
