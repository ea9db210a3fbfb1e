-- Summaries never say too much, whatever the design and whatever was in progress: of each pair that is kept, edges of its module lead
-- from the output to the input. So each walk that a check reports leads back by edges.
-- Assumes nothing.
use mathlib.Core.Path.{◌≡◌, refl, sym, ◌∙◌, ap, subst, subst₂}
use mathlib.Core.Logic.{◌⊎◌, inl, inr}
use mathlib.Core.Option.{Option, some, none, some-injective}
use mathlib.Core.List.Memᴰ
use mathlib.Core.List.{List, [], ◌∷◌}
use Prim.Native.Nat.{ℕ, zero, suc}
use lib.ListN.{length, get_elem?}
use Rattle.spec.specs.Syntax.{in_kind, Inst, inst, Header, Module, Design}
use Rattle.spec.specs.Refusal.{has_name}
use Rattle.spec.specs.Value.{own_vals}
use Rattle.spec.specs.Collect.{Collected, collection}
use Rattle.spec.specs.Site.{kind_of}
use Rattle.spec.specs.Edge.{Node, signal, inst_out, Head, Heads, Summary, inst_edges, line_heads, inst_of, index_of, place_value, all_reads}
use Rattle.spec.specs.Summary.{onward, module_summary, Kept, kept_summary, Asked, ask_for, lines_heads, make_summary, comb_summary, module_heads}
use Rattle.spec.specs.FindCycles.{find_cycles}
use Rattle.spec.specs.Check.{check_module_drivers, check_modules}
use Rattle.spec.specs.Graph.{◌∈◌}
use Rattle.spec.specs.DesignHierarchy.{lines_of, header_of, line_instance_at, own_heads, lines_own_heads, out_names, hierarchy}
use Rattle.spec.proofs.Numbers.{if_case}
use Rattle.spec.proofs.Nodes.{read_by, reads_all, next_read}
use Rattle.spec.proofs.HeadLaws.{in_either, in_first, option_case, inst_of_inst, headed_own, line_or_inst, reads_to, conn_read, output_head, origin_instance}
use Rattle.spec.proofs.Summaries.{lines_at, header_at, outputs_at, outputs_missing, kept_in, onward_reads, of_summary}
use Rattle.spec.specs.OwnGraph.{Edge, own, through, Walks, EdgeLoop}
use Rattle.spec.proofs.CheckEdge.{reached_walks, cycles_loop}

module _ (d : Design) where
  -- a pair is an output and an input of its module, and edges lead from the one to the other
  abbrev SoundPair : ℕ → ℕ → ℕ → Type 0
  SoundPair m o p = (o ∈ out_names d m) × (kind_of (header_of d m) p ≡ some in_kind) × Walks (hierarchy d) m (signal o) (signal p)

  abbrev Sound : ℕ → Summary → Type 0
  Sound m s = (o p : ℕ) → (o, p) ∈ s → SoundPair m o p

  abbrev pub SoundTable : Kept → Type 0
  SoundTable kept = (m : ℕ) (s : Summary) → (m, s) ∈ kept → Sound m s

  abbrev SoundAnswer : ℕ → Asked → Type 0
  SoundAnswer m a = Sound m a.summary × SoundTable a.kept

  abbrev SoundAsk : (Kept → ℕ → Asked) → Type 0
  SoundAsk ask = (kept : Kept) → SoundTable kept → (m : ℕ) → SoundAnswer m (ask kept m)

  -- a head of a line, with a summary that is sound for the line's module
  abbrev SoundHead : List Header → List Collected → Head → Type 0
  SoundHead hs cs h =
      (c : Collected) × (s : Summary) × (c ∈ cs) × ((i : Inst) → c.item ≡ inst i → Sound i.«module» s) × (h ∈ (line_heads hs c.names s c.item).heads)

  nothing_sound : (m : ℕ) → Sound m []
  nothing_sound m o p i = absurd (Memᴰ.not-nil i)

  -- asking for the summary of a line
  for_sound : (ask : Kept → ℕ → Asked) → SoundAsk ask → (kept : Kept) → SoundTable kept → (c : Collected)
      → ((i : Inst) → c.item ≡ inst i → Sound i.«module» (ask_for ask kept (inst_of c.item)).summary) × SoundTable (ask_for ask kept (inst_of c.item)).kept
  unfolding ask_for
  for_sound ask sound kept t c = go (inst_of c.item) refl
    where
      go : (o : Option Inst) → inst_of c.item ≡ o → ((i : Inst) → c.item ≡ inst i → Sound i.«module» (ask_for ask kept o).summary) × SoundTable (ask_for ask kept o).kept
      go none e = (λ i f. nothing_sound i.«module», t)
      go (some j) e =
          let a = sound kept t j.«module» in
          (λ i f. subst (λ z. Sound z.«module» (ask kept j.«module»).summary) (some-injective j i (sym e ∙ ap inst_of f ∙ inst_of_inst i)) a.0, a.1)

  lines_sound : (ask : Kept → ℕ → Asked) → SoundAsk ask → (hs : List Header) (kept : Kept) → SoundTable kept → (cs : List Collected)
      → ((h : Head) → h ∈ (lines_heads ask hs kept cs).heads → SoundHead hs cs h) × SoundTable (lines_heads ask hs kept cs).kept
  unfolding lines_heads
  lines_sound ask sound hs kept t [] = (λ h i. absurd (Memᴰ.not-nil i), t)
  lines_sound ask sound hs kept t (c ∷ cs) =
      let a = for_sound ask sound kept t c in
      let s = ask_for ask kept (inst_of c.item) in
      let r = lines_sound ask sound hs s.kept a.1 cs in (
        λ h. in_either (line_heads hs c.names s.summary c.item).heads
            (λ i. (c, s.summary, Memᴰ.head refl, a.0, i))
            (λ i. let q = r.0 h i in (q.0, q.1, Memᴰ.tail q.2, q.3, q.4)),
        r.1,
      )

  -- a pair and a connection to its input are an edge
  pair_edge : (m : ℕ) (c : Collected) (i : Inst) (o p : ℕ) (x : Node) → c ∈ lines_of d m → c.item ≡ inst i → SoundPair i.«module» o p → x ∈ reads_to (header_of d m) c.names p i.conns
      → Edge (hierarchy d) m (inst_out i.name (index_of (place_value c.names i.place)) o) x
  pair_edge m c i o p x l e sound read = go (get_elem? d i.«module») refl
    where
      go : (z : Option Module) → get_elem? d i.«module» ≡ z → Edge (hierarchy d) m (inst_out i.name (index_of (place_value c.names i.place)) o) x
      go none f = absurd (Memᴰ.not-nil (subst (λ z. o ∈ z) (outputs_missing d i.«module» f) sound.0))
      go (some k) f =
          let (j, u) = origin_instance d m c i k l e f in
          through {m = m} {y = x} (line_instance_at (header_of d m) j i c.names i.«module») o p u sound.0 sound.1 sound.2 read

  inst_edge : (m : ℕ) (c : Collected) (i : Inst) (s : Summary) (h : Head) (n x : Node) → c ∈ lines_of d m → c.item ≡ inst i → Sound i.«module» s
      → h ∈ (line_heads (header_of d m) c.names s (inst i)).heads → h.node ≡ n → x ∈ h.reads → Edge (hierarchy d) m n x
  unfolding line_heads inst_edges
  inst_edge m c i s h n x l e sound t f g =
      let r = output_head (header_of d m) c.names i (index_of (place_value c.names i.place)) s s h t in
      let q = conn_read (header_of d m) c.names s r.0 i.conns x (subst (λ z. x ∈ z) r.1.1 g) in
      subst (λ z. Edge (hierarchy d) m z x) (sym r.1.0 ∙ f) (pair_edge m c i r.0 q.0 x l e (sound r.0 q.0 q.1) q.2)

  head_edge : (m : ℕ) (h : Head) (n x : Node) → SoundHead (header_of d m) (lines_of d m) h → h.node ≡ n → x ∈ h.reads → Edge (hierarchy d) m n x
  unfolding own_heads
  head_edge m h n x (c, s, l, sound, t) f g = go (line_or_inst (header_of d m) c.names c.item)
    where
      go : ((s : Summary) → line_heads (header_of d m) c.names s c.item ≡ line_heads (header_of d m) c.names [] c.item) ⊎ ((i : Inst) × (c.item ≡ inst i)) → Edge (hierarchy d) m n x
      go (inl same) = own (reads_all (lines_own_heads (header_of d m) (lines_of d m)) n (headed_own (header_of d m) (lines_of d m) c h l (subst (λ (z : Heads). h ∈ z.heads) (same s) t)) f g)
      go (inr (i, e)) = inst_edge m c i s h n x l e (sound i e) (subst (λ z. h ∈ (line_heads (header_of d m) c.names s z).heads) e t) f g

  -- what heads of a module's lines read are edges
  reads_edge : (m : ℕ) (heads : List Head) → ((h : Head) → h ∈ heads → SoundHead (header_of d m) (lines_of d m) h) → (n x : Node) → x ∈ all_reads heads n → Edge (hierarchy d) m n x
  reads_edge m heads sound n x i = let r = read_by heads n i in head_edge m r.0 n x (sound r.0 r.1) r.2 r.3

  -- a summary that is made
  summary_sound : (m : ℕ) (k : Module) → get_elem? d m ≡ some k → (heads : List Head) → ((h : Head) → h ∈ heads → SoundHead k.header (collection (own_vals k) k).lines h) → Sound m (module_summary k heads)
  summary_sound m k e heads sound o p i =
      let edges = reads_edge m heads (λ h j. subst₂ (λ hs cs. SoundHead hs cs h) (sym (header_at d m k e)) (sym (lines_at d m k e)) (sound h j)) in
      let r = of_summary k heads o p i in (
        subst (λ z. o ∈ z) (sym (outputs_at d m k e)) r.0,
        subst (λ z. kind_of z p ≡ some in_kind) (sym (header_at d m k e)) r.1,
        reached_walks d m (onward k.header heads) (λ a b h. edges a b (onward_reads k.header heads a b h)) (signal o) (signal p) r.2,
      )

  table_more : (kept : Kept) (m : ℕ) (s : Summary) → SoundTable kept → Sound m s → SoundTable ((m, s) ∷ kept)
  table_more kept m s t sound m' s' i =
      in_first (λ (f : ◌≡◌ {A = ℕ × Summary} (m', s') (m, s)). subst₂ (λ a b. Sound a b) (ap (λ z. z.0) (sym f)) (ap (λ z. z.1) (sym f)) sound) (λ j. t m' s' j) i

  made_sound : (ask : Kept → ℕ → Asked) → SoundAsk ask → (kept : Kept) → SoundTable kept → (m : ℕ) (k : Module) → get_elem? d m ≡ some k → SoundAnswer m (make_summary ask kept m k)
  unfolding make_summary
  made_sound ask sound kept t m k e =
      let l = lines_sound ask sound k.header kept t (collection (own_vals k) k).lines in
      let s = summary_sound m k e (lines_heads ask k.header kept (collection (own_vals k) k).lines).heads l.0 in
      (s, table_more _ m _ l.1 s)

  comb_sound : (fuel : ℕ) (busy : List ℕ) → SoundAsk (comb_summary fuel d busy)
  unfolding comb_summary
  comb_sound zero busy kept t m = (nothing_sound m, t)
  comb_sound (suc fuel) busy kept t m =
      option_case (λ z. SoundAnswer m z) (get_elem? d m) _ _ (λ e. (nothing_sound m, t))
      (λ k e. if_case (λ z. SoundAnswer m z) (has_name m busy) _ _ (λ g. (nothing_sound m, t))
      (λ g. option_case (λ z. SoundAnswer m z) (kept_summary kept m) _ _
      (λ f. made_sound (comb_summary fuel d (m ∷ busy)) (comb_sound fuel (m ∷ busy)) kept t m k e)
      (λ s f. (t m s (kept_in kept m s f), t))))

  -- through the check
  check_sound : (kept : Kept) → SoundTable kept → (m : ℕ) (k : Module) → SoundTable (check_module_drivers d kept m k).kept
  unfolding check_module_drivers module_heads
  check_sound kept t m k = (lines_sound (comb_summary (suc (length d)) d []) (comb_sound (suc (length d)) []) k.header kept t (collection (own_vals k) k).lines).1

  pub checks_sound : (kept : Kept) → SoundTable kept → (m : ℕ) (ks : List Module) → SoundTable (check_modules d kept m ks).kept
  unfolding check_modules
  checks_sound kept t m [] = t
  checks_sound kept t m (k ∷ ks) = checks_sound (check_module_drivers d kept m k).kept (check_sound kept t m k) (suc m) ks

  pub found_loop : (kept : Kept) → SoundTable kept → (m : ℕ) (k : Module) → get_elem? d m ≡ some k → (w : List Node) → w ∈ find_cycles (module_heads d kept k (lines_of d m)).heads → EdgeLoop (hierarchy d) m w
  unfolding module_heads
  found_loop kept t m k e w i =
      let heads = (lines_heads (comb_summary (suc (length d)) d []) k.header kept (lines_of d m)).heads in
      let l = (lines_sound (comb_summary (suc (length d)) d []) (comb_sound (suc (length d)) []) k.header kept t (lines_of d m)).0 in
      let edges = reads_edge m heads (λ h j. subst (λ hs. SoundHead hs (lines_of d m) h) (sym (header_at d m k e)) (l h j)) in
      cycles_loop d m heads (λ n x j. edges n x (next_read heads n j)) w i
