-- The statements of a block: one law for each way of `set_stmt`, `default_stmt`, `block_stmt`, `block_stmts` and `on_block`.
-- Assumes nothing.
use mathlib.Core.Path.{◌≡◌, refl, sym, ◌∙◌, ap}
use mathlib.Core.Logic.{◌⊎◌, inl, inr}
use mathlib.Core.Bool.{Bool, true, false, ◌&&◌, ◌||◌, or-true}
use mathlib.Core.List.{List, [], ◌∷◌, ◌++◌, append-nil}
use mathlib.Core.Option.{Option}
use Prim.Native.Nat.{ℕ, zero, suc, ◌+◌, ◌-◌, ◌≤◌, ◌<◌}
use native.Mathlib.Omega.{arith}
use lib.ListN.{length, drop, get_or, length-append}
use lib.Dec.{eqb, ltb}
use borrow.Author.Tests.{lt-ltb, ltb-true, ltb-false}
use Rattle.spec.specs.Bytes.{Bytes, bytes, show_rest, show_form}
use Rattle.spec.specs.Syntax.{name_bound, number_bound, Kind, Stmt, Stmts, set, default, loop, when, on, Header}
use Rattle.spec.specs.Show.{show_stmt, show_stmts, show_item}
use Rattle.spec.specs.Refusal.{stmt_depth, stmts_depth, stmt_in_range, stmts_in_range, item_depth, item_in_range}
use Rattle.spec.specs.Value.{Names}
use Rattle.spec.specs.DepthFirst.{among}
use Rattle.spec.specs.Site.{kind_of, driving, set_misuse, line_sites, line_constants, any_outside, Misused, stmt_misuses, stmts_misuses, line_misuses, line_outputs, arrow}
use Rattle.spec.specs.Block.{Pair, is_reg, is_mem, pair_if, stmt_pairs, stmts_pairs, line_pairs, has_pair, line_regs, line_mems}
use Rattle.spec.specs.Check.{pair_limit}
use Rattle.spec.proofs.Nodes.{and_parts}
use Rattle.spec.proofs.Parts.{word_part, number_part, form_part}
use Rattle.spec.proofs.Shown.{stmt_shown, stmts_shown}
use Rattle.lines.specs.Parts.{part_end, piece, next_end, follows}
use Rattle.sites.specs.Own as table
use Rattle.sites.specs.Own.{misuse_of, own_of, grown, room, added, with_pairs, add_pair, add_misuse}
use Rattle.sites.specs.declared.Misuse.TheVariants as misuse
use Rattle.sites.specs.Stored.{Stored}
use Rattle.sites.specs.Stored as stored
use Rattle.runs.specs.Run.{ShowsItem}
use Rattle.runs.proofs.Inside.{placed}
use Rattle.edges.specs.Reads.{kind_word, KindsOf}
use Rattle.walk.specs.Walk.{Own, own_line, over_own, add_all, add_new, same_pair, same_misused}
use Rattle.items.specs.declared.Named.{Named}
use Rattle.items.specs.Held.{Held, OwnAfter}
use Rattle.items.specs.Lines.{NumberIs, NamedIs, NamedAt, ShowsStmt, ShowsStmts, with_block, BlockAfter, SetAfter, DefaultAfter, StmtAfter, StmtsAfter, OnLine}
use Rattle.items.proofs.Tables.{add_all_append, add_all_length, held_within, held_pairs, held_misuse}
use Rattle.items.proofs.Places.{no_part, one_part, both_small}
use Rattle.items.proofs.DriveLaws.{kind_here}

-- ---- a pair more

abbrev one_pair : ℕ → ℕ → List Pair
one_pair n block = record { name = n; block = block } ∷ []

has_among : (p : Pair) (l : List Pair) → has_pair p l ≡ among same_pair p l
unfolding has_pair among
has_among p [] = refl
has_among p (q ∷ l) = go (eqb p.name q.name && eqb p.block q.block) (has_among p l)
  where
    go : (b : Bool) → has_pair p l ≡ among same_pair p l → (b || has_pair p l) ≡ elim b as (λ _. Bool) [ true ↦ true | false ↦ among same_pair p l ]
    go true e = refl
    go false e = e

module _ (text : Bytes) (own own' : List ℕ) (o : Own) (h : Held text own o) (size : length own' ≡ length own) (p : Pair) (r : Stored)
    (s : length own ≡ table.places → added r (own_of own') ≡ add_pair p (own_of own)) where
  pair_seen : among same_pair p o.pairs ≡ true → add_pair p (own_of own) ≡ added stored.Done (own_of own)
  unfolding add_pair
  pair_seen e =
      let f : has_pair p (own_of own).pairs ≡ true = ap (has_pair p) h.pairs ∙ has_among p o.pairs ∙ e in
      rw (f, add_pair)

  pair_room : among same_pair p o.pairs ≡ false → ltb (length o.pairs) 512 ≡ true → add_pair p (own_of own) ≡ added stored.Done (with_pairs ((own_of own).pairs ++ p ∷ []) (own_of own))
  unfolding add_pair grown
  pair_room e l =
      let f : has_pair p (own_of own).pairs ≡ false = ap (has_pair p) h.pairs ∙ has_among p o.pairs ∙ e in
      let g : ltb (length (own_of own).pairs) 512 ≡ true = ap (λ (z : List Pair). ltb (length z) 512) h.pairs ∙ l in
      rw (f, g, add_pair, grown, room)

  pair_over : among same_pair p o.pairs ≡ false → ltb (length o.pairs) 512 ≡ false → (add_pair p (own_of own)).answer ≡ 20
  unfolding add_pair
  pair_over e l =
      let f : has_pair p (own_of own).pairs ≡ false = ap (has_pair p) h.pairs ∙ has_among p o.pairs ∙ e in
      let g : ltb (length (own_of own).pairs) 512 ≡ false = ap (λ (z : List Pair). ltb (length z) 512) h.pairs ∙ l in
      rw (f, g, add_pair, room)

  new_seen : among same_pair p o.pairs ≡ true → add_new same_pair p o.pairs ≡ o.pairs
  unfolding add_new
  new_seen e = rw (e, add_new)

  new_end : among same_pair p o.pairs ≡ false → add_new same_pair p o.pairs ≡ o.pairs ++ p ∷ []
  unfolding add_new
  new_end e = rw (e, add_new)

  done_by : r ≡ stored.Done → (a b : Bool) → among same_pair p o.pairs ≡ a → ltb (length o.pairs) 512 ≡ b → Held text own' (with_block (p ∷ []) [] o)
  unfolding add_all
  done_by d true b e l =
      let g = ap (λ (z : table.Added table.Own). z.own) (s h.sized ∙ pair_seen e) in
      held_pairs text own own' o h size (own_of own).pairs g (add_new same_pair p o.pairs) (h.pairs ∙ sym (new_seen e))
  done_by d false true e l =
      let g = ap (λ (z : table.Added table.Own). z.own) (s h.sized ∙ pair_room e l) in
      held_pairs text own own' o h size ((own_of own).pairs ++ p ∷ []) g (add_new same_pair p o.pairs) (ap (λ (z : List Pair). z ++ p ∷ []) h.pairs ∙ sym (new_end e))
  done_by d false false e l =
      let x : ◌≡◌ {A = ℕ} 0 20 = ap table.number_of (sym d) ∙ ap (λ (u : table.Added table.Own). u.answer) (s h.sized) ∙ pair_over e l in
      absurd (omega arith)

  full_by : r ≡ stored.Full → (a b : Bool) → among same_pair p o.pairs ≡ a → ltb (length o.pairs) 512 ≡ b → ltb pair_limit (length (add_all same_pair (p ∷ []) o.pairs)) ≡ true
  unfolding add_all
  full_by d true b e l =
      let x : ◌≡◌ {A = ℕ} 20 0 = ap table.number_of (sym d) ∙ ap (λ (u : table.Added table.Own). u.answer) (s h.sized ∙ pair_seen e) in
      absurd (omega arith)
  full_by d false true e l =
      let x : ◌≡◌ {A = ℕ} 20 0 = ap table.number_of (sym d) ∙ ap (λ (u : table.Added table.Own). u.answer) (s h.sized ∙ pair_room e l) in
      absurd (omega arith)
  full_by d false false e l =
      let k = ltb-false (length o.pairs) 512 l in
      lt-ltb 512 (length (add_new same_pair p o.pairs)) (omega (arith, ap length (new_end e), length-append o.pairs (p ∷ [])))

  pair_done : r ≡ stored.Done → BlockAfter true text own' (p ∷ []) [] o
  pair_done d = done_by d (among same_pair p o.pairs) (ltb (length o.pairs) 512) refl refl

  pair_full : r ≡ stored.Full → BlockAfter false text own' (p ∷ []) [] o
  pair_full d = full_by d (among same_pair p o.pairs) (ltb (length o.pairs) 512) refl refl

-- ---- one behind the other

-- what nothing adds
block_none : (text : Bytes) (own : List ℕ) (o : Own) → Held text own o → BlockAfter true text own [] [] o
unfolding add_all
block_none text own o h = h

-- by equal pairs and misuses
block_by : (r : Bool) (text : Bytes) (own : List ℕ) (o : Own) {ps ps' : List Pair} {ms ms' : List Misused} → ps ≡ ps' → ms ≡ ms' → BlockAfter r text own ps' ms' o → BlockAfter r text own ps ms o
block_by r text own o p m h = rw (p, m) h

-- by what was answered
block_as : (b c : Bool) → b ≡ c → (text : Bytes) (own : List ℕ) (ps : List Pair) (ms : List Misused) (o : Own) → BlockAfter b text own ps ms o → BlockAfter c text own ps ms o
block_as b c e text own ps ms o h = rw e at h

module _ (text : Bytes) (own own₁ own₂ : List ℕ) (o : Own) (ps ps' : List Pair) (ms ms' : List Misused) where
  with_both : with_block ps' ms' (with_block ps ms o) ≡ with_block (ps ++ ps') (ms ++ ms') o
  with_both =
      λ i. record {
        sites = o.sites;
        pairs = sym (add_all_append same_pair ps ps' o.pairs) i;
        outputs = o.outputs;
        regs = o.regs;
        mems = o.mems;
        misuses = sym (add_all_append same_misused ms ms' o.misuses) i;
      }

  block_then : (r : Bool) → BlockAfter r text own₂ ps' ms' (with_block ps ms o) → BlockAfter r text own₂ (ps ++ ps') (ms ++ ms') o
  block_then true h = rw with_both at h
  block_then false h = rw (add_all_append same_pair ps ps' o.pairs) h

  block_stops : BlockAfter false text own₁ ps ms o → BlockAfter false text own₂ (ps ++ ps') (ms ++ ms') o
  block_stops h =
      let a = ltb-true 512 (length (add_all same_pair ps o.pairs)) h in
      lt-ltb 512 (length (add_all same_pair (ps ++ ps') o.pairs))
      (omega (arith, ap length (add_all_append same_pair ps ps' o.pairs), add_all_length same_pair ps' (add_all same_pair ps o.pairs)))

-- ---- `set`

module _ (x : Bytes) (block : ℕ) (kinds : List ℕ) (own : List ℕ) (l : Named) (nl : NamedAt l x 4) {k : ℕ} (qk : k ≡ get_or kinds l.name 0) where
  set_named : (n start d : ℕ) → ShowsStmt x d (set n start) → NamedIs l x n start [] × (n < name_bound)
  unfolding show_stmt show_form show_rest stmt_in_range
  set_named n start d p = let u = both_small n start p.ranged in (nl n start [] (ap (drop 4) p.shown) u.0 u.1, u.0)

  set_kind : (n start d : ℕ) → ShowsStmt x d (set n start) → (header : List Header) → KindsOf kinds header → kind_of header n ≡ kind_word k
  set_kind n start d p header w = kind_here kinds n header w (set_named n start d p).0.name qk

  -- the pairs and the misuses by the kind
  set_by : (r : Bool) (own' : List ℕ) (f : ℕ → ℕ → List Pair) (g : ℕ → ℕ → List Misused)
      → ((n : ℕ) → pair_if (is_reg (kind_word k) || is_mem (kind_word k)) n block ≡ f n block) → ((n start : ℕ) → set_misuse (driving (kind_word k)) n start ≡ g n start)
      → ((text : Bytes) (o : Own) → Held text own o → (n start d : ℕ) → ShowsStmt x d (set n start) → BlockAfter r text own' (f n block) (g n start) o) → SetAfter r x block kinds own own'
  unfolding stmt_pairs stmt_misuses
  set_by r own' f g pf pg h n start d p header w text o held =
      let e = set_kind n start d p header w in
      block_by r text own' o (ap (λ (q : Option Kind). pair_if (is_reg q || is_mem q) n block) e ∙ pf n) (ap (λ (q : Option Kind). set_misuse (driving q) n start) e ∙ pg n start)
      (h text o held n start d p)

  -- an input, an inst, or a name without kind
  set_low : k < 2 → SetAfter true x block kinds own own
  set_low z = go k refl z
    where
      go : (j : ℕ) → k ≡ j → j < 2 → SetAfter true x block kinds own own
      go zero e z = set_by true own (λ n b. []) (λ n s. []) (λ n. ap (λ (i : ℕ). pair_if (is_reg (kind_word i) || is_mem (kind_word i)) n block) e) (λ n s. ap (λ (i : ℕ). set_misuse (driving (kind_word i)) n s) e) (λ text o h n s d p. block_none text own o h)
      go (suc zero) e z = set_by true own (λ n b. []) (λ n s. []) (λ n. ap (λ (i : ℕ). pair_if (is_reg (kind_word i) || is_mem (kind_word i)) n block) e) (λ n s. ap (λ (i : ℕ). set_misuse (driving (kind_word i)) n s) e) (λ text o h n s d p. block_none text own o h)
      go (suc (suc j)) e z = absurd (omega arith)

  set_high : 5 < k → SetAfter true x block kinds own own
  set_high z = go k refl z
    where
      go : (j : ℕ) → k ≡ j → 5 < j → SetAfter true x block kinds own own
      go zero e z = absurd (omega arith)
      go (suc zero) e z = absurd (omega arith)
      go (suc (suc zero)) e z = absurd (omega arith)
      go (suc (suc (suc zero))) e z = absurd (omega arith)
      go (suc (suc (suc (suc zero)))) e z = absurd (omega arith)
      go (suc (suc (suc (suc (suc zero))))) e z = absurd (omega arith)
      go (suc (suc (suc (suc (suc (suc j)))))) e z = set_by true own (λ n b. []) (λ n s. []) (λ n. ap (λ (i : ℕ). pair_if (is_reg (kind_word i) || is_mem (kind_word i)) n block) e) (λ n s. ap (λ (i : ℕ). set_misuse (driving (kind_word i)) n s) e) (λ text o h n s d p. block_none text own o h)

  pub set_apart : (k < 2) ⊎ (5 < k) → SetAfter true x block kinds own own
  set_apart (inl l) = set_low l
  set_apart (inr l) = set_high l

  -- an output or a wire
  module _ (own' : List ℕ) (size : length own' ≡ length own)
      (s : length own ≡ table.places → own_of own' ≡ add_misuse (record { name = l.name; start = l.start; misuse = misuse_of misuse.Arrow }) (own_of own)) where
    arrow_held : (text : Bytes) (o : Own) → Held text own o → (n start d : ℕ) → ShowsStmt x d (set n start) → BlockAfter true text own' [] (record { name = n; start = start; misuse = arrow } ∷ []) o
    arrow_held text o h n start d p =
        let q = set_named n start d p in
        let c : Misused = record { name = l.name; start = l.start; misuse = arrow } in
        let u : c ∷ [] ≡ record { name = n; start = start; misuse = arrow } ∷ [] = λ i. record { name = q.0.name i; start = q.0.start i; misuse = arrow } ∷ [] in
        rw u at (held_misuse text own own' o h size c (omega (arith, q.0.name, q.1)) (s h.sized))

    pub set_arrow : 2 ≤ k → k < 4 → SetAfter true x block kinds own own'
    set_arrow y z = go k refl y z
      where
        go : (j : ℕ) → k ≡ j → 2 ≤ j → j < 4 → SetAfter true x block kinds own own'
        go zero e y z = absurd (omega arith)
        go (suc zero) e y z = absurd (omega arith)
        go (suc (suc zero)) e y z = set_by true own' (λ n b. []) (λ n s. record { name = n; start = s; misuse = arrow } ∷ []) (λ n. ap (λ (i : ℕ). pair_if (is_reg (kind_word i) || is_mem (kind_word i)) n block) e) (λ n s. ap (λ (i : ℕ). set_misuse (driving (kind_word i)) n s) e) arrow_held
        go (suc (suc (suc zero))) e y z = set_by true own' (λ n b. []) (λ n s. record { name = n; start = s; misuse = arrow } ∷ []) (λ n. ap (λ (i : ℕ). pair_if (is_reg (kind_word i) || is_mem (kind_word i)) n block) e) (λ n s. ap (λ (i : ℕ). set_misuse (driving (kind_word i)) n s) e) arrow_held
        go (suc (suc (suc (suc j)))) e y z = absurd (omega arith)

  -- a register or a memory
  module _ (own' : List ℕ) (size : length own' ≡ length own) (r : Stored)
      (s : length own ≡ table.places → added r (own_of own') ≡ add_pair (record { name = l.name; block = block }) (own_of own)) (y : 4 ≤ k) (z : k ≤ 5) where
    pair_by : (b : Bool) → ((text : Bytes) (o : Own) → Held text own o → BlockAfter b text own' (record { name = l.name; block = block } ∷ []) [] o) → SetAfter b x block kinds own own'
    pair_by b f = go k refl y z
      where
        here : (text : Bytes) (o : Own) → Held text own o → (n start d : ℕ) → ShowsStmt x d (set n start) → BlockAfter b text own' (record { name = n; block = block } ∷ []) [] o
        here text o h n start d p =
            let q = set_named n start d p in
            block_by b text own' o (ap (λ (m : ℕ). one_pair m block) (sym q.0.name)) refl (f text o h)

        go : (j : ℕ) → k ≡ j → 4 ≤ j → j ≤ 5 → SetAfter b x block kinds own own'
        go zero e y z = absurd (omega arith)
        go (suc zero) e y z = absurd (omega arith)
        go (suc (suc zero)) e y z = absurd (omega arith)
        go (suc (suc (suc zero))) e y z = absurd (omega arith)
        go (suc (suc (suc (suc zero)))) e y z = set_by b own' (λ n b. record { name = n; block = b } ∷ []) (λ n s. []) (λ n. ap (λ (i : ℕ). pair_if (is_reg (kind_word i) || is_mem (kind_word i)) n block) e) (λ n s. ap (λ (i : ℕ). set_misuse (driving (kind_word i)) n s) e) here
        go (suc (suc (suc (suc (suc zero))))) e y z = set_by b own' (λ n b. record { name = n; block = b } ∷ []) (λ n s. []) (λ n. ap (λ (i : ℕ). pair_if (is_reg (kind_word i) || is_mem (kind_word i)) n block) e) (λ n s. ap (λ (i : ℕ). set_misuse (driving (kind_word i)) n s) e) here
        go (suc (suc (suc (suc (suc (suc j)))))) e y z = absurd (omega arith)

    pub set_done : r ≡ stored.Done → SetAfter true x block kinds own own'
    set_done d = pair_by true (λ text o h. pair_done text own own' o h size (record { name = l.name; block = block }) r s d)

    pub set_full : r ≡ stored.Full → SetAfter false x block kinds own own'
    set_full d = pair_by false (λ text o h. pair_full text own own' o h size (record { name = l.name; block = block }) r s d)

-- ---- `default`

module _ (x : Bytes) (block : ℕ) (kinds : List ℕ) (own : List ℕ) {a : ℕ} (qa : a ≡ part_end x 9) {m : ℕ} (hm : NumberIs m x 8 a) {k : ℕ} (qk : k ≡ get_or kinds m 0) where
  default_name : (n d : ℕ) → ShowsStmt x d (default n) → m ≡ n
  unfolding show_stmt show_form show_rest stmt_in_range next_end
  default_name n d p =
      let q = placed x 8 32 [] (number_part n) (ap (drop 8) p.shown) in
      let u = ltb-true n name_bound p.ranged in
      hm n (ap (piece x 8) qa ∙ q.here) (omega arith)

  default_kind : (n d : ℕ) → ShowsStmt x d (default n) → (header : List Header) → KindsOf kinds header → kind_of header n ≡ kind_word k
  default_kind n d p header w = kind_here kinds n header w (default_name n d p) qk

  not_reg : (j : ℕ) → (j ≡ 4 → ⊥) → is_reg (kind_word j) ≡ false
  not_reg zero z = refl
  not_reg (suc zero) z = refl
  not_reg (suc (suc zero)) z = refl
  not_reg (suc (suc (suc zero))) z = refl
  not_reg (suc (suc (suc (suc zero)))) z = absurd (z refl)
  not_reg (suc (suc (suc (suc (suc zero))))) z = refl
  not_reg (suc (suc (suc (suc (suc (suc j)))))) z = refl

  pub default_other : (k ≡ 4 → ⊥) → DefaultAfter true x block kinds own own
  unfolding stmt_pairs stmt_misuses
  default_other z n d p header w text o h =
      let e : pair_if (is_reg (kind_of header n)) n block ≡ [] = ap (λ (b : Bool). pair_if b n block) (ap is_reg (default_kind n d p header w) ∙ not_reg k z) in
      block_by true text own o e refl (block_none text own o h)

  module _ (z : k ≡ 4) (own' : List ℕ) (size : length own' ≡ length own) (r : Stored)
      (s : length own ≡ table.places → added r (own_of own') ≡ add_pair (record { name = m; block = block }) (own_of own)) where
    default_by : (b : Bool) → ((text : Bytes) (o : Own) → Held text own o → BlockAfter b text own' (record { name = m; block = block } ∷ []) [] o) → DefaultAfter b x block kinds own own'
    unfolding stmt_pairs stmt_misuses
    default_by b f n d p header w text o h =
        let e : pair_if (is_reg (kind_of header n)) n block ≡ one_pair n block = ap (λ (c : Bool). pair_if c n block) (ap is_reg (default_kind n d p header w ∙ ap kind_word z)) in
        block_by b text own' o (e ∙ ap (λ (i : ℕ). one_pair i block) (sym (default_name n d p))) refl (f text o h)

    pub default_done : r ≡ stored.Done → DefaultAfter true x block kinds own own'
    default_done d = default_by true (λ text o h. pair_done text own own' o h size (record { name = m; block = block }) r s d)

    pub default_full : r ≡ stored.Full → DefaultAfter false x block kinds own own'
    default_full d = default_by false (λ text o h. pair_full text own own' o h size (record { name = m; block = block }) r s d)

-- ---- one statement, by the first byte of its word

byte_of : (x : Bytes) (d : ℕ) (t : Stmt) → ShowsStmt x d t → get_or x 1 0 ≡ get_or (show_stmt t) 1 0
byte_of x d t p = ap (λ (z : Bytes). get_or z 1 0) p.shown

module _ (x : Bytes) (block d : ℕ) (kinds : List ℕ) (own : List ℕ) where
  pub stmt_shut : d ≡ 0 → StmtAfter true x block d kinds own own
  unfolding stmt_depth
  stmt_shut z (set n s) p = let k = p.deep in absurd (omega arith)
  stmt_shut z (default n) p = let k = p.deep in absurd (omega arith)
  stmt_shut z (loop ss) p = let k = p.deep in absurd (omega arith)
  stmt_shut z (when ss ts) p = let k = p.deep in absurd (omega arith)

  module _ (r : Bool) (own' : List ℕ) where
    pub stmt_set : get_or x 1 0 ≡ 115 → SetAfter r x block kinds own own' → StmtAfter r x block d kinds own own'
    unfolding show_stmt show_form
    stmt_set b f (set n s) p = f n s d p
    stmt_set b f (default n) p = absurd (omega (arith, byte_of x d (default n) p))
    stmt_set b f (loop ss) p = absurd (omega (arith, byte_of x d (loop ss) p))
    stmt_set b f (when ss ts) p = absurd (omega (arith, byte_of x d (when ss ts) p))

    pub stmt_default : get_or x 1 0 ≡ 100 → DefaultAfter r x block kinds own own' → StmtAfter r x block d kinds own own'
    unfolding show_stmt show_form
    stmt_default b f (set n s) p = absurd (omega (arith, byte_of x d (set n s) p))
    stmt_default b f (default n) p = f n d p
    stmt_default b f (loop ss) p = absurd (omega (arith, byte_of x d (loop ss) p))
    stmt_default b f (when ss ts) p = absurd (omega (arith, byte_of x d (when ss ts) p))

    loop_shows : (ss : Stmts) → ShowsStmt x d (loop ss) → ShowsStmts x 5 (d - 1) ss
    unfolding show_stmt show_form stmt_depth stmt_in_range
    loop_shows ss p = let k = p.deep in record { shown = ap (drop 5) p.shown; deep = omega arith; ranged = p.ranged }

    pub stmt_loop : (get_or x 1 0 ≡ 115 → ⊥) → (get_or x 1 0 ≡ 100 → ⊥) → (get_or x 1 0 ≡ 119 → ⊥) → StmtsAfter r x 5 block (d - 1) kinds own own' → StmtAfter r x block d kinds own own'
    unfolding show_stmt show_form stmt_pairs stmt_misuses
    stmt_loop a b c f (set n s) p = absurd (a (byte_of x d (set n s) p))
    stmt_loop a b c f (default n) p = absurd (b (byte_of x d (default n) p))
    stmt_loop a b c f (loop ss) p = f ss (loop_shows ss p)
    stmt_loop a b c f (when ss ts) p = absurd (c (byte_of x d (when ss ts) p))

  module _ (b₁ : get_or x 1 0 ≡ 115 → ⊥) (b₂ : get_or x 1 0 ≡ 100 → ⊥) (b₃ : get_or x 1 0 ≡ 108 → ⊥) where
    -- only `when` is left
    when_left : (r : Bool) (own' : List ℕ)
        → ((ss ts : Stmts) → ShowsStmt x d (when ss ts) → (header : List Header) → KindsOf kinds header → (text : Bytes) (o : Own) → Held text own o
        → BlockAfter r text own' (stmts_pairs ss header block ++ stmts_pairs ts header block) (stmts_misuses ss header ++ stmts_misuses ts header) o)
        → StmtAfter r x block d kinds own own'
    unfolding show_stmt show_form stmt_pairs stmt_misuses
    when_left r own' f (set n s) p = absurd (b₁ (byte_of x d (set n s) p))
    when_left r own' f (default n) p = absurd (b₂ (byte_of x d (default n) p))
    when_left r own' f (loop ss) p = absurd (b₃ (byte_of x d (loop ss) p))
    when_left r own' f (when ss ts) p = f ss ts p

    module _ {a : ℕ} (qa : a ≡ part_end x 6) where
      -- `(then S...)`, and what follows it
      record Branches (ss ts : Stmts) : Type 0 where
        first : piece x 5 a ≡ show_form (bytes "then") (show_stmts ss)
        behind : drop a x ≡ show_rest (show_form (bytes "else") (show_stmts ts) ∷ [])

      branches : (ss ts : Stmts) → ShowsStmt x d (when ss ts) → Branches ss ts
      unfolding show_stmt show_form show_rest next_end
      branches ss ts p =
          let t = form_part (word_part (bytes "then") (omega arith)) (stmts_shown ss).parts _ refl in
          let q = placed x 5 32 (show_form (bytes "else") (show_stmts ts) ∷ []) t (ap (drop 5) p.shown) in
          record { first = ap (piece x 5) qa ∙ q.here; behind = ap (λ (m : ℕ). drop m x) qa ∙ q.follows }

      pub when_alone : follows x a ≡ false → StmtAfter true x block d kinds own own
      when_alone g = when_left true own (λ ss ts p header w text o h. absurd (no_part x a (show_form (bytes "else") (show_stmts ts)) [] (branches ss ts p).behind g))

      module _ {y : Bytes} (qy : y ≡ piece x 5 a) where
        then_shows : (ss ts : Stmts) → ShowsStmt x d (when ss ts) → ShowsStmts y 5 (d - 1) ss
        unfolding show_form stmt_depth stmt_in_range
        then_shows ss ts p =
            let k = p.deep in
            record { shown = ap (drop 5) (qy ∙ (branches ss ts p).first); deep = omega arith; ranged = (and_parts (stmts_in_range ss) (stmts_in_range ts) p.ranged).0 }

        pub when_stops : (b : Bool) → b ≡ false → (own₁ : List ℕ) → StmtsAfter b y 5 block (d - 1) kinds own own₁ → StmtAfter false x block d kinds own own₁
        when_stops b u own₁ f = when_left false own₁ (λ ss ts p header w text o h.
            block_stops text own own₁ own₁ o (stmts_pairs ss header block) (stmts_pairs ts header block) (stmts_misuses ss header) (stmts_misuses ts header)
            (block_as b false u text own₁ (stmts_pairs ss header block) (stmts_misuses ss header) o (f ss (then_shows ss ts p) header w text o h)))

        module _ {b : ℕ} (qb : b ≡ part_end x (a + 1)) {z : Bytes} (qz : z ≡ piece x a b) where
          else_shows : (ss ts : Stmts) → ShowsStmt x d (when ss ts) → ShowsStmts z 5 (d - 1) ts
          unfolding show_form show_rest next_end stmt_depth stmt_in_range
          else_shows ss ts p =
              let k = p.deep in
              let t = form_part (word_part (bytes "else") (omega arith)) (stmts_shown ts).parts _ refl in
              let q = placed x a 32 [] t (branches ss ts p).behind in
              record { shown = ap (drop 5) (qz ∙ ap (piece x a) qb ∙ q.here); deep = omega arith; ranged = (and_parts (stmts_in_range ss) (stmts_in_range ts) p.ranged).1 }

          pub when_both : (c : Bool) → c ≡ true → (own₁ : List ℕ) → StmtsAfter c y 5 block (d - 1) kinds own own₁ → (r : Bool) (own₂ : List ℕ) → StmtsAfter r z 5 block (d - 1) kinds own₁ own₂
              → StmtAfter r x block d kinds own own₂
          when_both c u own₁ f r own₂ g = when_left r own₂ (λ ss ts p header w text o h.
              block_then text own own₁ own₂ o (stmts_pairs ss header block) (stmts_pairs ts header block) (stmts_misuses ss header) (stmts_misuses ts header) r
              (g ts (else_shows ss ts p) header w text (with_block (stmts_pairs ss header block) (stmts_misuses ss header) o)
              (block_as c true u text own₁ (stmts_pairs ss header block) (stmts_misuses ss header) o (f ss (then_shows ss ts p) header w text o h))))

-- ---- statements one behind the other

module _ (x : Bytes) (e block d : ℕ) (kinds : List ℕ) (own : List ℕ) where
  pub stmts_end : follows x e ≡ false → StmtsAfter true x e block d kinds own own
  unfolding show_stmts stmts_pairs stmts_misuses
  stmts_end f Stmts.none p header w text o h = block_none text own o h
  stmts_end f (Stmts.more t ss) p header w text o h = absurd (no_part x e (show_stmt t) (show_stmts ss) p.shown f)

  module _ (f : follows x e ≡ true) {a : ℕ} (qa : a ≡ part_end x (e + 1)) {y : Bytes} (qy : y ≡ piece x e a) where
    first_shows : (t : Stmt) (ss : Stmts) → ShowsStmts x e d (Stmts.more t ss) → ShowsStmt y d t × ShowsStmts x a d ss
    unfolding show_stmts show_rest next_end stmts_depth stmts_in_range
    first_shows t ss p =
        let q = placed x e 32 (show_stmts ss) (stmt_shown t).part p.shown in
        let k = p.deep in
        let u = and_parts (stmt_in_range t) (stmts_in_range ss) p.ranged in (
          record { shown = qy ∙ ap (piece x e) qa ∙ q.here; deep = omega arith; ranged = u.0 },
          record { shown = ap (λ (m : ℕ). drop m x) qa ∙ q.follows; deep = omega arith; ranged = u.1 },
        )

    pub stmts_stop : (b : Bool) → b ≡ false → (own₁ : List ℕ) → StmtAfter b y block d kinds own own₁ → StmtsAfter false x e block d kinds own own₁
    unfolding show_stmts stmts_pairs stmts_misuses
    stmts_stop b u own₁ g Stmts.none p header w text o h = absurd (one_part x e p.shown f)
    stmts_stop b u own₁ g (Stmts.more t ss) p header w text o h =
        block_stops text own own₁ own₁ o (stmt_pairs t header block) (stmts_pairs ss header block) (stmt_misuses t header) (stmts_misuses ss header)
        (block_as b false u text own₁ (stmt_pairs t header block) (stmt_misuses t header) o (g t (first_shows t ss p).0 header w text o h))

    pub stmts_step : (b : Bool) → b ≡ true → (own₁ : List ℕ) → StmtAfter b y block d kinds own own₁ → (r : Bool) (own₂ : List ℕ) → StmtsAfter r x a block d kinds own₁ own₂
        → StmtsAfter r x e block d kinds own own₂
    unfolding show_stmts stmts_pairs stmts_misuses
    stmts_step b u own₁ g r own₂ k Stmts.none p header w text o h = absurd (one_part x e p.shown f)
    stmts_step b u own₁ g r own₂ k (Stmts.more t ss) p header w text o h =
        let q = first_shows t ss p in
        block_then text own own₁ own₂ o (stmt_pairs t header block) (stmts_pairs ss header block) (stmt_misuses t header) (stmts_misuses ss header) r
        (k ss q.1 header w text (with_block (stmt_pairs t header block) (stmt_misuses t header) o)
        (block_as b true u text own₁ (stmt_pairs t header block) (stmt_misuses t header) o (g t q.0 header w text o h)))

-- ---- an `on` line

module _ (x : Bytes) (d : ℕ) (kinds : List ℕ) (own own' : List ℕ) {a : ℕ} (qa : a ≡ part_end x 4) {block : ℕ} (hb : NumberIs block x 3 a) where
  on_shows : (start : ℕ) (ss : Stmts) → ShowsItem x d (on start ss) → (block ≡ start) × ShowsStmts x a d ss
  unfolding show_item show_form show_rest next_end item_depth item_in_range
  on_shows start ss p =
      let q = placed x 3 32 (show_stmts ss) (number_part start) (ap (drop 3) p.shown) in
      let k = p.deep in
      let u = and_parts (ltb start number_bound) (stmts_in_range ss) p.ranged in
      let l = ltb-true start number_bound u.0 in (
        hb start (ap (piece x 3) qa ∙ q.here) (omega arith),
        record { shown = ap (λ (m : ℕ). drop m x) qa ∙ q.follows; deep = omega arith; ranged = u.1 },
      )

  on_own : (start : ℕ) (ss : Stmts) (bound : Bool) (header : List Header) (names : Names) (o : Own)
      → own_line bound header names (on start ss) o ≡ with_block (stmts_pairs ss header start) (stmts_misuses ss header) o
  unfolding own_line line_sites line_pairs line_outputs line_regs line_mems line_misuses add_all
  on_own start ss bound header names o =
      λ i. record {
        sites = append-nil o.sites i;
        pairs = add_all same_pair (stmts_pairs ss header start) o.pairs;
        outputs = o.outputs;
        regs = o.regs;
        mems = o.mems;
        misuses = add_all same_misused (stmts_misuses ss header) o.misuses;
      }

  on_after : (r : Bool) (start : ℕ) (ss : Stmts) (bound : Bool) (header : List Header) (names : Names) (text : Bytes) (o : Own)
      → BlockAfter r text own' (stmts_pairs ss header start) (stmts_misuses ss header) o → OwnAfter r text own' bound header names (on start ss) o
  unfolding line_constants any_outside over_own
  on_after true start ss bound header names text o h =
      let k : Held text own' (own_line bound header names (on start ss) o) = rw (on_own start ss bound header names o) h in
      (refl, k, held_within text own' (own_line bound header names (on start ss) o) k)
  on_after false start ss bound header names text o h =
      ap over_own (on_own start ss bound header names o) ∙ rw h (or-true (ltb 1024 (length o.sites)))

  pub on_line : (r : Bool) → StmtsAfter r x a block d kinds own own' → OnLine r x d kinds own own'
  on_line r f start ss p header w text o h bound names =
      let q = on_shows start ss p in
      let g : BlockAfter r text own' (stmts_pairs ss header start) (stmts_misuses ss header) o = rw q.0 at (f ss q.1 header w text o h) in
      on_after r start ss bound header names text o g
