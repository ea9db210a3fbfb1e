-- What collected lines head, as memberships: lines one by one, outputs of instances, connections, and the instances among lines.
-- Assumes nothing.
use mathlib.Core.Path.{◌≡◌, refl, sym, ◌∙◌, ap, subst}
use mathlib.Core.Bool.{Bool, true, false, ◌&&◌, ◌||◌, true≢false, false≢true}
use mathlib.Core.Logic.{◌⊎◌, inl, inr, ⊎_elim}
use mathlib.Core.Option.{Option, some, none, some-injective, none-ne-some}
use mathlib.Core.List.Memᴰ
use mathlib.Core.List.{List, [], ◌∷◌, ◌++◌}
use Prim.Native.Nat.{ℕ, suc, ◌+◌}
use native.Mathlib.Omega.{arith}
use lib.Dec.{eqb}
use lib.ListN.{get_elem?}
use lib.IntN.{ℤ}
use borrow.Author.Tests.{eqb-true, eqb-false, eq-eqb}
use Rattle.spec.specs.Value.{Names}
use Rattle.spec.specs.Syntax.{Conn, Inst, Item, Header, port, wire, reg, mem, const, drive, on, inst, repeat, const_if, Module, Design}
use Rattle.spec.specs.Collect.{Collected}
use Rattle.spec.specs.Edge.{Node, inst_out, Reads, expr_reads, Head, Heads, Summary, reaches, conn_reads, has_output, output_heads, inst_edges, line_heads, inst_of}
use Rattle.spec.specs.Graph.{◌∈◌}
use Rattle.spec.specs.Hierarchy.{Instance}
use Rattle.spec.specs.Opened.{connections_to}
use Rattle.spec.specs.DesignHierarchy.{lines_of, header_of, lines_own_heads, connections_of, line_instance_at, instances_from, module_opened, instances}
use Rattle.spec.specs.Summaries.{summary_for, heads_by}
use Rattle.spec.proofs.Numbers.{if_case}
use Rattle.spec.proofs.Nodes.{and_parts, or_parts}

-- tests
pub true_left : (a b : Bool) → a ≡ true → a || b ≡ true
true_left a b e = rw e

pub true_right : (a b : Bool) → b ≡ true → a || b ≡ true
true_right true b e = refl
true_right false b e = e

-- a member of a list, taken apart
pub in_either : {A : Type 0} {C : Type 0} {x : A} (s : List A) {t : List A} → (x ∈ s → C) → (x ∈ t → C) → x ∈ (s ++ t) → C
in_either s f g m = ⊎_elim f g (Memᴰ.append_cases s m)

pub in_first : {A : Type 0} {C : Type 0} {x a : A} {l : List A} → (x ≡ a → C) → (x ∈ l → C) → x ∈ (a ∷ l) → C
in_first f g m = ⊎_elim f g (Memᴰ.cases_cons m)

-- the heads of lines are those of each line
abbrev pub HeadedBy : (ℕ → Summary) → List Header → List Collected → Head → Type 0
HeadedBy s hs cs h = (c : Collected) × (c ∈ cs) × (h ∈ (line_heads hs c.names (summary_for s (inst_of c.item)) c.item).heads)

pub headed_by : (s : ℕ → Summary) (hs : List Header) (cs : List Collected) (h : Head) → h ∈ heads_by s hs cs → HeadedBy s hs cs h
unfolding heads_by
headed_by s hs [] h m = absurd (Memᴰ.not-nil m)
headed_by s hs (c ∷ cs) h m =
    in_either (line_heads hs c.names (summary_for s (inst_of c.item)) c.item).heads
    (λ i. (c, Memᴰ.head refl, i)) (λ i. let r = headed_by s hs cs h i in (r.0, Memᴰ.tail r.1, r.2)) m

pub by_headed : (s : ℕ → Summary) (hs : List Header) (cs : List Collected) (c : Collected) (h : Head) → c ∈ cs
    → h ∈ (line_heads hs c.names (summary_for s (inst_of c.item)) c.item).heads → h ∈ heads_by s hs cs
unfolding heads_by
by_headed s hs [] c h m i = absurd (Memᴰ.not-nil m)
by_headed s hs (b ∷ cs) c h m i =
    in_first (λ e. Memᴰ.append_left (heads_by s hs cs) (subst (λ z. h ∈ (line_heads hs z.names (summary_for s (inst_of z.item)) z.item).heads) e i))
    (λ j. Memᴰ.append_right (line_heads hs b.names (summary_for s (inst_of b.item)) b.item).heads (by_headed s hs cs c h j i)) m

pub own_headed : (hs : List Header) (cs : List Collected) (h : Head) → h ∈ lines_own_heads hs cs → (c : Collected) × (c ∈ cs) × (h ∈ (line_heads hs c.names [] c.item).heads)
unfolding lines_own_heads
own_headed hs [] h m = absurd (Memᴰ.not-nil m)
own_headed hs (c ∷ cs) h m =
    in_either (line_heads hs c.names [] c.item).heads
    (λ i. (c, Memᴰ.head refl, i)) (λ i. let r = own_headed hs cs h i in (r.0, Memᴰ.tail r.1, r.2)) m

pub headed_own : (hs : List Header) (cs : List Collected) (c : Collected) (h : Head) → c ∈ cs → h ∈ (line_heads hs c.names [] c.item).heads → h ∈ lines_own_heads hs cs
unfolding lines_own_heads
headed_own hs [] c h m i = absurd (Memᴰ.not-nil m)
headed_own hs (b ∷ cs) c h m i =
    in_first (λ e. Memᴰ.append_left (lines_own_heads hs cs) (subst (λ z. h ∈ (line_heads hs z.names [] z.item).heads) e i))
    (λ j. Memᴰ.append_right (line_heads hs b.names [] b.item).heads (headed_own hs cs c h j i)) m

-- a line is an instance line, or what it heads has nothing to do with summaries
pub line_or_inst : (hs : List Header) (names : Names) (item : Item) → ((s : Summary) → line_heads hs names s item ≡ line_heads hs names [] item) ⊎ ((i : Inst) × (item ≡ inst i))
unfolding line_heads
line_or_inst hs names (port d n w start) = inl (λ s. refl)
line_or_inst hs names (wire n e start) = inl (λ s. refl)
line_or_inst hs names (reg n start) = inl (λ s. refl)
line_or_inst hs names (mem n start) = inl (λ s. refl)
line_or_inst hs names (const n e) = inl (λ s. refl)
line_or_inst hs names (drive lv e) = inl (λ s. refl)
line_or_inst hs names (on start ss) = inl (λ s. refl)
line_or_inst hs names (inst i) = inr (i, refl)
line_or_inst hs names (repeat n l h is) = inl (λ s. refl)
line_or_inst hs names (const_if c is js) = inl (λ s. refl)

-- an instance line by itself heads nothing
pub inst_no_own : (hs : List Header) (names : Names) (i : Inst) → (line_heads hs names [] (inst i)).heads ≡ []
unfolding line_heads inst_edges output_heads
inst_no_own hs names i = refl

-- reachable pairs
pub reaches_in : (o p : ℕ) (s : Summary) → reaches o p s ≡ true → (o, p) ∈ s
unfolding reaches
reaches_in o p [] e = absurd (false≢true e)
reaches_in o p (q ∷ s) e =
    ⊎_elim (λ f. let g = and_parts (eqb o q.0) (eqb p q.1) f in Memᴰ.head (pair_path (eqb-true o q.0 g.0) (eqb-true p q.1 g.1))) (λ f. Memᴰ.tail (reaches_in o p s f))
    (or_parts (eqb o q.0 && eqb p q.1) (reaches o p s) e)
  where
    pair_path : o ≡ q.0 → p ≡ q.1 → (o, p) ≡ q
    pair_path f g = λ t. (f t, g t)

pub in_reaches : (o p : ℕ) (s : Summary) → (o, p) ∈ s → reaches o p s ≡ true
unfolding reaches
in_reaches o p [] m = absurd (Memᴰ.not-nil m)
in_reaches o p (q ∷ s) m =
    in_first (λ (e : ◌≡◌ {A = ℕ × ℕ} (o, p) q). true_left (eqb o q.0 && eqb p q.1) (reaches o p s) (rw (eq-eqb o q.0 (ap (λ z. z.0) e), eq-eqb p q.1 (ap (λ z. z.1) e))))
    (λ i. true_right (eqb o q.0 && eqb p q.1) (reaches o p s) (in_reaches o p s i)) m

-- what the connections to an input read
abbrev pub reads_to : List Header → Names → ℕ → List Conn → List Node
reads_to hs names p cs = connections_to p (connections_of hs names cs)

pub to_later : (hs : List Header) (names : Names) (p : ℕ) (c : Conn) (cs : List Conn) {y : Node} → y ∈ reads_to hs names p cs → y ∈ reads_to hs names p (c ∷ cs)
unfolding connections_to connections_of
to_later hs names p c cs {y} m = if_case (λ z. y ∈ z) (eqb p c.port) _ _ (λ e. Memᴰ.append_right (expr_reads c.signal hs names).nodes m) (λ e. m)

pub to_first : (hs : List Header) (names : Names) (c : Conn) (cs : List Conn) {y : Node} → y ∈ (expr_reads c.signal hs names).nodes → y ∈ reads_to hs names c.port (c ∷ cs)
unfolding connections_to connections_of
to_first hs names c cs {y} m = if_case (λ z. y ∈ z) (eqb c.port c.port) _ _ (λ e. Memᴰ.append_left (reads_to hs names c.port cs) m) (λ e. absurd (eqb-false c.port c.port e refl))

-- the connections to the inputs that an output reaches
pub conn_read : (hs : List Header) (names : Names) (s : Summary) (o : ℕ) (cs : List Conn) (y : Node) → y ∈ (conn_reads hs names s o cs).nodes
    → (p : ℕ) × ((o, p) ∈ s) × (y ∈ reads_to hs names p cs)
unfolding conn_reads
conn_read hs names s o [] y m = absurd (Memᴰ.not-nil m)
conn_read hs names s o (c ∷ cs) y m =
    if_case (λ (z : Reads). y ∈ z.nodes → (p : ℕ) × ((o, p) ∈ s) × (y ∈ reads_to hs names p (c ∷ cs))) (reaches o c.port s) _ _
    (λ e. in_either (expr_reads c.signal hs names).nodes (λ i. (c.port, reaches_in o c.port s e, to_first hs names c cs i))
    (λ i. let r = conn_read hs names s o cs y i in (r.0, r.1, to_later hs names r.0 c cs r.2)))
    (λ e i. let r = conn_read hs names s o cs y i in (r.0, r.1, to_later hs names r.0 c cs r.2)) m

pub read_conn : (hs : List Header) (names : Names) (s : Summary) (o p : ℕ) (cs : List Conn) (y : Node) → (o, p) ∈ s → y ∈ reads_to hs names p cs → y ∈ (conn_reads hs names s o cs).nodes
unfolding conn_reads connections_to connections_of
read_conn hs names s o p [] y i m = absurd (Memᴰ.not-nil m)
read_conn hs names s o p (c ∷ cs) y i m =
    if_case (λ (z : Reads). y ∈ z.nodes) (reaches o c.port s) _ _
    (λ e. if_case (λ z. y ∈ z → y ∈ ((expr_reads c.signal hs names).nodes ++ (conn_reads hs names s o cs).nodes)) (eqb p c.port) _ _
    (λ f. in_either (expr_reads c.signal hs names).nodes (λ j. Memᴰ.append_left (conn_reads hs names s o cs).nodes j) (λ j. Memᴰ.append_right (expr_reads c.signal hs names).nodes (read_conn hs names s o p cs y i j)))
    (λ f j. Memᴰ.append_right (expr_reads c.signal hs names).nodes (read_conn hs names s o p cs y i j)) m)
    (λ e. if_case (λ z. y ∈ z → y ∈ (conn_reads hs names s o cs).nodes) (eqb p c.port) _ _
    (λ f j. absurd (true≢false (sym (in_reaches o p s i) ∙ ap (λ z. reaches o z s) (eqb-true p c.port f) ∙ e)))
    (λ f j. read_conn hs names s o p cs y i j) m)

-- an instance line heads the outputs of its module's summary
pub output_in : (o : ℕ) (s : Summary) → has_output o s ≡ true → (p : ℕ) × ((o, p) ∈ s)
unfolding has_output
output_in o [] e = absurd (false≢true e)
output_in o (q ∷ s) e =
    ⊎_elim (λ f. let g : o ≡ q.0 = eqb-true o q.0 f in let h : ◌≡◌ {A = ℕ × ℕ} (o, q.1) q = (λ t. (g t, q.1)) in (q.1, Memᴰ.head h)) (λ f. let r = output_in o s f in (r.0, Memᴰ.tail r.1))
    (or_parts (eqb o q.0) (has_output o s) e)

module _ (hs : List Header) (names : Names) (i : Inst) (x : Option ℤ) (s : Summary) where
  -- a head that an instance line makes: some output of the summary, with the reads of the inputs that it reaches
  abbrev pub OutputHead : ℕ → Head → Type 0
  OutputHead o h = (h.node ≡ inst_out i.name x o) × (h.reads ≡ (conn_reads hs names s o i.conns).nodes)

  pub output_head : (rest : Summary) (h : Head) → h ∈ (output_heads hs names i x s rest).heads → (o : ℕ) × OutputHead o h
  unfolding output_heads
  output_head [] h m = absurd (Memᴰ.not-nil m)
  output_head (q ∷ rest) h m =
      if_case (λ (z : Heads). h ∈ z.heads → (o : ℕ) × OutputHead o h) (has_output q.0 rest) _ _
      (λ e j. output_head rest h j)
      (λ e. in_first (λ f. (q.0, (ap (λ z. z.node) f, ap (λ z. z.reads) f))) (λ j. output_head rest h j)) m

  pub head_output : (rest : Summary) (o p : ℕ) → (o, p) ∈ rest → (h : Head) × (h ∈ (output_heads hs names i x s rest).heads) × OutputHead o h
  unfolding output_heads
  head_output [] o p m = absurd (Memᴰ.not-nil m)
  head_output (q ∷ rest) o p m =
      if_case (λ (z : Heads). (h : Head) × (h ∈ z.heads) × OutputHead o h) (has_output q.0 rest) _ _
      (λ e. in_first (λ f. let r = output_in q.0 rest e in head_output rest o r.0 (Memᴰ.cast (back f r.0) r.1)) (λ j. head_output rest o p j) m)
      (λ e. in_first (λ f. (record { node = inst_out i.name x q.0; start = i.start; reads = (conn_reads hs names s q.0 i.conns).nodes }, Memᴰ.head refl, (ap (λ z. inst_out i.name x z.0) (sym f), ap (λ z. (conn_reads hs names s z.0 i.conns).nodes) (sym f))))
      (λ j. let r = head_output rest o p j in (r.0, Memᴰ.tail r.1, r.2)) m)
    where
      back : (o, p) ≡ q → (p' : ℕ) → ◌≡◌ {A = ℕ × ℕ} (o, p') (q.0, p')
      back f p' = λ t. ((f t).0, p')

-- a choice by an option, taken apart
pub option_case : {A B : Type 0} (P : B → Type 0) (o : Option A) (x : B) (f : A → B) → (o ≡ none → P x) → ((a : A) → o ≡ some a → P (f a)) → P (elim o as (λ _. B) [ none ↦ x | some a ↦ f a ])
option_case P none x f g h = g refl
option_case P (some a) x f g h = h a refl

-- an instance line is one
pub inst_is : (item : Item) (i : Inst) → inst_of item ≡ some i → item ≡ inst i
unfolding inst_of
inst_is (inst j) i e = ap inst (some-injective j i e)
inst_is (port d n w start) i e = absurd (none-ne-some i e)
inst_is (wire n x start) i e = absurd (none-ne-some i e)
inst_is (reg n start) i e = absurd (none-ne-some i e)
inst_is (mem n start) i e = absurd (none-ne-some i e)
inst_is (const n x) i e = absurd (none-ne-some i e)
inst_is (drive lv x) i e = absurd (none-ne-some i e)
inst_is (on start ss) i e = absurd (none-ne-some i e)
inst_is (repeat n l h is) i e = absurd (none-ne-some i e)
inst_is (const_if c is js) i e = absurd (none-ne-some i e)

pub inst_of_inst : (i : Inst) → inst_of (inst i) ≡ some i
unfolding inst_of
inst_of_inst i = refl

-- the instances among lines, which stand from k on, are the instance lines that open something; the position tells the line
module _ {Key : Type 0} (opens : Inst → Names → Option Key) (hs : List Header) where
  abbrev pub InstanceLine : ℕ → List Collected → Instance Key → Type 0
  InstanceLine k cs i =
      (c : Collected) × (a : Inst) × (n : ℕ) × (t : Key) × (c ∈ cs) × (c.item ≡ inst a) × (opens a c.names ≡ some t) × (i ≡ line_instance_at hs (k + n) a c.names t) × (get_elem? cs n ≡ some c)

  line_later : (k : ℕ) (cs : List Collected) (i : Instance Key) (c : Collected) → InstanceLine (suc k) cs i → InstanceLine k (c ∷ cs) i
  line_later k cs i c (l, a, n, t, m, e, g, f, q) =
      let p : suc k + n ≡ k + suc n = omega arith in
      (l, a, suc n, t, Memᴰ.tail m, e, g, f ∙ ap (λ z. line_instance_at hs z a l.names t) p, q)

  pub instance_line : (k : ℕ) (cs : List Collected) (i : Instance Key) → i ∈ instances_from opens hs k cs → InstanceLine k cs i
  unfolding instances_from
  instance_line k [] i m = absurd (Memᴰ.not-nil m)
  instance_line k (c ∷ cs) i m =
      option_case (λ z. i ∈ z → InstanceLine k (c ∷ cs) i) (inst_of c.item) _ _
      (λ e j. line_later k cs i c (instance_line (suc k) cs i j))
      (λ a e. option_case (λ z. i ∈ z → InstanceLine k (c ∷ cs) i) (opens a c.names) _ _
      (λ f j. line_later k cs i c (instance_line (suc k) cs i j))
      (λ t f. let p : k ≡ k + 0 = omega arith in
      in_first (λ g. (c, a, 0, t, Memᴰ.head refl, inst_is c.item a e, f, g ∙ ap (λ z. line_instance_at hs z a c.names t) p, refl))
      (λ j. line_later k cs i c (instance_line (suc k) cs i j)))) m

  pub line_instance : (k : ℕ) (cs : List Collected) (c : Collected) (a : Inst) (t : Key) → c ∈ cs → c.item ≡ inst a → opens a c.names ≡ some t
      → (j : ℕ) × (line_instance_at hs j a c.names t ∈ instances_from opens hs k cs)
  unfolding instances_from
  line_instance k [] c a t m e f = absurd (Memᴰ.not-nil m)
  line_instance k (l ∷ cs) c a t m e f =
      option_case (λ (z : List (Instance Key)). (j : ℕ) × (line_instance_at hs j a c.names t ∈ z)) (inst_of l.item) _ _
      (λ g. in_first (λ h. absurd (none-ne-some a (sym g ∙ same h))) (λ j. line_instance (suc k) cs c a t j e f) m)
      (λ a' g. option_case (λ (z : List (Instance Key)). (j : ℕ) × (line_instance_at hs j a c.names t ∈ z)) (opens a' l.names) _ _
      (λ o. in_first (λ h. absurd (none-ne-some t (sym o ∙ opened a' g h))) (λ j. line_instance (suc k) cs c a t j e f) m)
      (λ t' o. in_first
      (λ h.
      let p : a' ≡ a = some-injective a' a (sym g ∙ same h) in
      let q : t' ≡ t = some-injective t' t (sym o ∙ opened a' g h) in
      (k, Memᴰ.head (λ i. line_instance_at hs k (sym p i) (h i).names (sym q i))))
      (λ j. let r = line_instance (suc k) cs c a t j e f in (r.0, Memᴰ.tail r.1)) m))
    where
      same : c ≡ l → inst_of l.item ≡ some a
      same h = ap (λ z. inst_of z.item) (sym h) ∙ ap inst_of e ∙ inst_of_inst a

      opened : (a' : Inst) → inst_of l.item ≡ some a' → c ≡ l → opens a' l.names ≡ some t
      opened a' g h = let p : a' ≡ a = some-injective a' a (sym g ∙ same h) in (λ i. opens (p i) (sym h i).names) ∙ f

-- of a design: an instance line opens its module where that exists
pub module_there : (d : Design) (a : Inst) (names : Names) (b : Module) → get_elem? d a.«module» ≡ some b → module_opened d a names ≡ some a.«module»
unfolding module_opened
module_there d a names b e = rw (e, module_opened)

pub there_module : (d : Design) (a : Inst) (names : Names) (t : ℕ) → module_opened d a names ≡ some t → (t ≡ a.«module») × ((b : Module) × (get_elem? d a.«module» ≡ some b))
unfolding module_opened
there_module d a names t e = go (get_elem? d a.«module») refl e
  where
    go : (o : Option Module) → get_elem? d a.«module» ≡ o → elim o as (λ _. Option ℕ) [ none ↦ none | some k ↦ some a.«module» ] ≡ some t → (t ≡ a.«module») × ((b : Module) × (get_elem? d a.«module» ≡ some b))
    go none q f = absurd (none-ne-some t f)
    go (some b) q f = (sym (some-injective a.«module» t f), (b, q))

-- an instance's line, found by its position
pub instance_origin : (d : Design) (m : ℕ) (i : Instance ℕ) → i ∈ instances d m
    → (c : Collected) × (a : Inst) × (c ∈ lines_of d m) × (get_elem? (lines_of d m) i.position ≡ some c) × (c.item ≡ inst a) × (i ≡ line_instance_at (header_of d m) i.position a c.names a.«module»)
unfolding instances
instance_origin d m i h =
    let (c, a, n, t, x, e, g, f, q) = instance_line (module_opened d) (header_of d m) 0 (lines_of d m) i h in
    let p : i.position ≡ 0 + n = ap (λ z. z.position) f in
    let r : i.position ≡ n = omega (arith, p) in
    let s = (there_module d a c.names t g).0 in
    (c, a, x, ap (get_elem? (lines_of d m)) r ∙ q, e, f ∙ (λ j. line_instance_at (header_of d m) (sym p j) a c.names (s j)))

pub origin_instance : (d : Design) (m : ℕ) (c : Collected) (a : Inst) (b : Module) → c ∈ lines_of d m → c.item ≡ inst a → get_elem? d a.«module» ≡ some b
    → (j : ℕ) × (line_instance_at (header_of d m) j a c.names a.«module» ∈ instances d m)
unfolding instances
origin_instance d m c a b x e f = line_instance (module_opened d) (header_of d m) 0 (lines_of d m) c a a.«module» x e (module_there d a c.names b f)
