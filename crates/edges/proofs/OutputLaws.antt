-- What `inst` lines head, one law for each way of the functions that read them.
-- Assumes nothing.
use mathlib.Core.Path.{◌≡◌, refl, sym, ◌∙◌, ap}
use mathlib.Core.Bool.{Bool, true, false, ◌&&◌, ◌||◌, true≢false}
use mathlib.Core.List.{List, [], ◌∷◌, ◌++◌}
use mathlib.Core.Option.{some, none}
use Prim.Native.Nat.{ℕ, suc, ◌+◌, ◌-◌, ◌≤◌, ◌<◌, max}
use native.Mathlib.Omega.{arith}
use lib.ListN.{drop, get_or}
use lib.Dec.{ltb}
use lib.IntN.{ℤ}
use borrow.Author.Tests.{ltb-true, eq-eqb, ne_eqb}
use Rattle.std.specs.Prelude.{Result, Some, None, Ok, Err}
use Rattle.spec.specs.Bytes.{Bytes, show_number, show_rest, show_form}
use Rattle.spec.specs.Syntax.{Expr, lit, truth, name, field, index, if_else, unary, binary, all, Place, single, at, Conn, Inst, inst, Header}
use Rattle.spec.specs.Show.{show_expr, show_place, show_conns, show_item}
use Rattle.spec.specs.Decode.{decode_expr}
use Rattle.spec.specs.Refusal.{expr_in_range, place_in_range, conns_in_range, inst_in_range, item_in_range, expr_depth, place_depth, conns_depth, item_depth}
use Rattle.spec.specs.Value.{Value, missing, Names, value}
use Rattle.spec.specs.Edge.{Node, inst_out, Reads, no_reads, and_reads, expr_reads, Head, Heads, one_head, Summary, reaches, conn_reads, index_of, place_value, has_output, output_heads, inst_edges}
use Rattle.spec.proofs.Nodes.{and_parts}
use Rattle.spec.proofs.Numbers.{Digits, number_digits}
use Rattle.spec.proofs.Parts.{number_part}
use Rattle.spec.proofs.Shown.{expr_shown, place_shown, conn_shown}
use Rattle.runs.specs.Run.{ShowsItem}
use Rattle.graph.specs.Table.{unbiased}
use Rattle.graph.specs.Stands.{full, Stands, Headed}
use Rattle.graph.specs.declared.Full.{Full}
use Rattle.consteval.specs.declared.Outside.{Outside}
use Rattle.consteval.specs.Worth.{Answer, worth}
use Rattle.lines.specs.Parts.{part_end, piece, follows}
use Rattle.edges.specs.Reads.{KindsOf, ReadAll, HeadAll}
use Rattle.edges.proofs.InstLaws.{same_word}
use Rattle.edges.specs.Shows.{ExprRead}
use Rattle.edges.specs.Lines.{place_end, module_end, number_at, index_value, inst_index, inst_module, IndexIs, ModuleIs, ShowsConn, ShowsConns, ConnRead, ConnsRead, OutputHead, InstHeads}
use Rattle.edges.proofs.ReadLaws.{read_none, read_then, read_stops, head_one, head_full, heads_none, heads_then, heads_stop}
use Rattle.edges.proofs.ExprLaws.{and_none}
use Rattle.edges.proofs.PartLaws.{EndsAt, Ended, ended, ended_next, ended_after, number_here, follows_byte, both_true}
use Rattle.edges.proofs.LineLaws.{as_headed, as_full}

-- ---- the parts of an `inst` line

module _ (x : Bytes) (d : ℕ) (i : Inst) (s : ShowsItem x d (inst i)) {a : ℕ} (fa : EndsAt x 5 a) {b : ℕ} (fb : EndsAt x a b) where
  name_at : Ended x 5 a (show_number i.name) (show_place i.place ∷ show_number i.«module» ∷ show_number i.start ∷ show_conns i.conns)
  unfolding show_item show_form show_rest
  name_at = ended x 5 32 (show_place i.place ∷ show_number i.«module» ∷ show_number i.start ∷ show_conns i.conns) (number_part i.name) (ap (drop 5) s.shown) fa

  place_at : Ended x a b (show_place i.place) (show_number i.«module» ∷ show_number i.start ∷ show_conns i.conns)
  place_at = ended_next x a (show_number i.«module» ∷ show_number i.start ∷ show_conns i.conns) (place_shown i.place).part name_at.follows fb

  -- its numbers are in range
  pub record Ranged : Type 0 where
    pub name_small : i.name < 256
    pub module_small : i.«module» < 256
    pub start_small : i.start < 2147483648
    pub conns_ranged : conns_in_range i.conns ≡ true

  pub ranged : Ranged
  unfolding item_in_range inst_in_range
  ranged =
      let p = and_parts (ltb i.name 256 && place_in_range i.place && ltb i.«module» 256 && ltb i.start 2147483648) (conns_in_range i.conns) s.ranged in
      let q = and_parts (ltb i.name 256 && place_in_range i.place && ltb i.«module» 256) (ltb i.start 2147483648) p.0 in
      let r = and_parts (ltb i.name 256 && place_in_range i.place) (ltb i.«module» 256) q.0 in
      let t = and_parts (ltb i.name 256) (place_in_range i.place) r.0 in
      record {
        name_small = ltb-true i.name 256 t.0;
        module_small = ltb-true i.«module» 256 r.1;
        start_small = ltb-true i.start 2147483648 q.1;
        conns_ranged = p.1;
      }

  module _ {c : ℕ} (fc : EndsAt x b c) where
    module_at : Ended x b c (show_number i.«module») (show_number i.start ∷ show_conns i.conns)
    module_at = ended_next x b (show_number i.start ∷ show_conns i.conns) (number_part i.«module») place_at.follows fc

    pub start_at : {e : ℕ} → EndsAt x c e → Ended x c e (show_number i.start) (show_conns i.conns)
    start_at fe = ended_next x c (show_conns i.conns) (number_part i.start) module_at.follows fe

-- ---- `inst_index` and `inst_module`

digit_dash : (s : Bytes) → Digits s → get_or s 0 0 ≡ 45 → ⊥
digit_dash [] p e = p
digit_dash (c ∷ s) p e = omega arith

-- no expression begins with a minus
no_dash : (e : Expr) → get_or (show_expr e) 0 0 ≡ 45 → ⊥
unfolding show_expr show_form
no_dash (lit n) e = digit_dash (show_number n) (number_digits n) e
no_dash (truth true) e = omega arith
no_dash (truth false) e = omega arith
no_dash (name n) e = omega arith
no_dash (field a n) e = omega arith
no_dash (index a b) e = omega arith
no_dash (if_else c a b) e = omega arith
no_dash (unary o a) e = omega arith
no_dash (binary o a b) e = omega arith
no_dash (all es) e = omega arith

-- an index that there is not, and one that is evaluated
index_none : (u : Bytes) (d : ℕ) (names : Names) → get_or u 0 0 ≡ 45 → index_value u d names ≡ missing
unfolding index_value
index_none u d names e = rw (eq-eqb (get_or u 0 0) 45 e, index_value)

index_some : (u : Bytes) (d : ℕ) (names : Names) → (get_or u 0 0 ≡ 45 → ⊥) → index_value u d names ≡ value names (decode_expr d u)
unfolding index_value
index_some u d names f = rw (ne_eqb (get_or u 0 0) 45 f, index_value)

module _ (x : Bytes) (d : ℕ) (names : Names) {a : ℕ} (fa : EndsAt x 5 a) {b : ℕ} (fb : EndsAt x a b) {u : Bytes} (qu : u ≡ piece x a b) where
  by_place : index_value u (d - 1) names ≡ inst_index x d names
  unfolding inst_index
  by_place = rw (qu, fb, fa)

  pub index_dash : get_or u 0 0 ≡ 45 → missing ≡ inst_index x d names
  index_dash e = sym (index_none u (d - 1) names e) ∙ by_place

  pub index_evaluated : (get_or u 0 0 ≡ 45 → ⊥) → {l : ℕ} → l ≡ d - 1 → {v : Value} → v ≡ value names (decode_expr l u) → v ≡ inst_index x d names
  index_evaluated f ql e = e ∙ rw ql (sym (index_some u (d - 1) names f) ∙ by_place)

-- the index that a line shows
pub index_is : (x : Bytes) (d : ℕ) (names : Names) → IndexIs (inst_index x d names) x d names
unfolding inst_index place_value show_place place_depth item_depth
index_is x d names i s = ap (λ (u : Bytes). index_value u (d - 1) names) (place_at x d i s refl refl).here ∙ go i.place deep
  where
    deep : place_depth i.place ≤ d - 1
    deep = let h : suc (max (place_depth i.place) (conns_depth i.conns)) ≤ d = s.deep in omega arith

    go : (p : Place) → place_depth p ≤ d - 1 → index_value (show_place p) (d - 1) names ≡ place_value names p
    go single h = index_none (show_place single) (d - 1) names refl
    go (at y) h = index_some (show_expr y) (d - 1) names (no_dash y) ∙ ap (value names) ((expr_shown y).back (d - 1) h)

-- `inst_module`
pub module_here : (x : Bytes) {a : ℕ} → EndsAt x 5 a → {b : ℕ} → EndsAt x a b → {c : ℕ} → EndsAt x b c → {m : ℕ} → m ≡ number_at x b c → m ≡ inst_module x
unfolding inst_module
module_here x fa fb fc q = q ∙ rw (fc, fb, fa)

-- the module that a line shows
pub module_is : (x : Bytes) (d : ℕ) → ModuleIs (inst_module x) x d
unfolding inst_module
module_is x d i s =
    let r = (ranged x d i s refl refl).module_small in
    number_here x (place_end x) (module_end x) i.«module» (module_at x d i s refl refl refl) (omega arith) refl

-- ---- `conn_read`

module _ (o : ℕ) (s : Summary) (t : Bytes) (d : ℕ) (kinds : List ℕ) (names : Names) (g : List ℕ) (from : ℕ)
    {a : ℕ} (fa : EndsAt t 5 a) {m : ℕ} (qm : m ≡ number_at t 5 a) {v : Bool} (qv : v ≡ reaches o m s) where
  -- the parts of a connection
  pub record ConnParts (y : Conn) : Type 0 where
    pub port_here : m ≡ y.port
    pub behind : drop a t ≡ show_rest (show_expr y.signal ∷ [])
    pub signal_ranged : expr_in_range y.signal ≡ true

  pub conn_parts : (y : Conn) → ShowsConn t d y → ConnParts y
  unfolding show_form show_rest conns_in_range
  conn_parts y h =
      let q : drop 5 t ≡ 32 ∷ show_number y.port ++ show_rest (show_expr y.signal ∷ []) = ap (drop 5) h.shown in
      let i = ended t 5 32 (show_expr y.signal ∷ []) (number_part y.port) q fa in
      let r = and_parts (ltb y.port 256 && expr_in_range y.signal) true h.ranged in
      let u = and_parts (ltb y.port 256) (expr_in_range y.signal) r.0 in
      let l = ltb-true y.port 256 u.0 in
      record { port_here = number_here t 5 a y.port i (omega arith) qm; behind = i.follows; signal_ranged = u.1 }

  reached : (y : Conn) → ShowsConn t d y → reaches o y.port s ≡ v
  reached y h = ap (λ (z : ℕ). reaches o z s) (sym (conn_parts y h).port_here) ∙ sym qv

  pub by_reach : (y : Conn) → ShowsConn t d y → (header : List Header)
      → conn_reads header names s o (y ∷ []) ≡ elim v as (λ _. Reads) [ true ↦ and_reads (expr_reads y.signal header names) no_reads | false ↦ no_reads ]
  unfolding conn_reads
  by_reach y h header = ap (λ (b : Bool). elim b as (λ _. Reads) [ true ↦ and_reads (expr_reads y.signal header names) no_reads | false ↦ no_reads ]) (reached y h)

  -- its input is not reached
  pub conn_not : v ≡ false → ConnRead true o s t d kinds names g g from
  conn_not e y h header w hs n start rs k =
      let z : conn_reads header names s o (y ∷ []) ≡ no_reads =
      by_reach y h header ∙ ap (λ (b : Bool). elim b as (λ _. Reads) [ true ↦ and_reads (expr_reads y.signal header names) no_reads | false ↦ no_reads ]) e in
      rw z (read_none hs n start from g rs k)

  -- it is
  pub conn_is : v ≡ true → {b : ℕ} → EndsAt t a b → {u : Bytes} → u ≡ piece t a b → (r : Bool) (g' : List ℕ) → ExprRead r u d kinds names g g' from → ConnRead r o s t d kinds names g g' from
  conn_is e fb {u} qu r g' f y h header w hs n start rs k =
      let p = conn_parts y h in
      let i = ended_next t a [] (expr_shown y.signal).part p.behind fb in
      let z : conn_reads header names s o (y ∷ []) ≡ expr_reads y.signal header names =
      by_reach y h header ∙ ap (λ (b : Bool). elim b as (λ _. Reads) [ true ↦ and_reads (expr_reads y.signal header names) no_reads | false ↦ no_reads ]) e
      ∙ and_none (expr_reads y.signal header names) in
      rw z (f y.signal (record { shown = qu ∙ i.here; deep = h.deep; ranged = p.signal_ranged }) header w hs n start rs k)

-- ---- `conns_read`

-- the first connection, then the others
pub conns_split : (header : List Header) (names : Names) (s : Summary) (o : ℕ) (y : Conn) (cs : List Conn)
    → and_reads (conn_reads header names s o (y ∷ [])) (conn_reads header names s o cs) ≡ conn_reads header names s o (y ∷ cs)
unfolding conn_reads
conns_split header names s o y cs = go (reaches o y.port s)
  where
    q : Reads
    q = conn_reads header names s o cs

    e : Reads
    e = expr_reads y.signal header names

    go : (b : Bool) → and_reads (elim b as (λ _. Reads) [ true ↦ and_reads e no_reads | false ↦ no_reads ]) q ≡ elim b as (λ _. Reads) [ true ↦ and_reads e q | false ↦ q ]
    go true = ap (λ (z : Reads). and_reads z q) (and_none e)
    go false = refl

module _ (o : ℕ) (s : Summary) (x : Bytes) (a d : ℕ) (kinds : List ℕ) (names : Names) (from : ℕ) where
  pub conn_first : (y : Conn) (cs : List Conn) → ShowsConns (drop a x) d (y ∷ cs) → {b : ℕ} → b ≡ part_end x (a + 1) → {t : Bytes} → t ≡ piece x a b
      → ShowsConn t d y × ShowsConns (drop b x) d cs
  unfolding show_conns conns_in_range conns_depth
  conn_first y cs h qb qt =
      let i = ended_after x a (show_conns cs) (conn_shown y).part h.shown qb in
      let r = and_parts (ltb y.port 256 && expr_in_range y.signal) (conns_in_range cs) h.ranged in
      let l : max (suc (expr_depth y.signal)) (conns_depth cs) ≤ suc d = h.deep in
      (record { shown = qt ∙ i.here; deep = omega arith; ranged = both_true r.0 refl }, record { shown = i.follows; deep = omega arith; ranged = r.1 })

  -- there are none
  pub conns_none : (g : List ℕ) → follows x a ≡ false → ConnsRead true o s (drop a x) d kinds names g g from
  unfolding show_conns show_rest conn_reads
  conns_none g f [] h header w hs n start rs k = read_none hs n start from g rs k
  conns_none g f (y ∷ cs) h header w hs n start rs k = absurd (true≢false (sym (follows_byte x a 32 h.shown) ∙ f))

  module _ (f : follows x a ≡ true) {b : ℕ} (qb : b ≡ part_end x (a + 1)) {t : Bytes} (qt : t ≡ piece x a b) (g g' : List ℕ) where
    last : ShowsConns (drop a x) d [] → ⊥
    unfolding show_conns show_rest
    last h = true≢false (sym f ∙ follows_byte x a 41 h.shown)

    -- the first goes no further
    pub conns_stop : (v : Bool) → v ≡ false → ConnRead v o s t d kinds names g g' from → ConnsRead false o s (drop a x) d kinds names g g' from
    conns_stop v l e [] h header w hs n start rs k = absurd (last h)
    conns_stop v l e (y ∷ cs) h header w hs n start rs k =
        let z : ReadAll false g' hs n start rs from (conn_reads header names s o (y ∷ [])) = rw l at (e y (conn_first y cs h qb qt).0 header w hs n start rs k) in
        rw (← conns_split header names s o y cs)
        (read_stops hs n start from rs (conn_reads header names s o (y ∷ [])) (conn_reads header names s o cs) g' z)

    -- the others are read too
    pub conns_more : (v : Bool) → v ≡ true → ConnRead v o s t d kinds names g g' from → (r : Bool) (g'' : List ℕ)
        → ConnsRead r o s (drop b x) d kinds names g' g'' from → ConnsRead r o s (drop a x) d kinds names g g'' from
    conns_more v l e r g'' p [] h header w hs n start rs k = absurd (last h)
    conns_more v l e r g'' p (y ∷ cs) h header w hs n start rs k =
        let q = conn_first y cs h qb qt in
        let z : ReadAll true g' hs n start rs from (conn_reads header names s o (y ∷ [])) = rw l at (e y q.0 header w hs n start rs k) in
        rw (← conns_split header names s o y cs)
        (read_then hs n start from rs (conn_reads header names s o (y ∷ [])) (conn_reads header names s o cs) r g' g'' z
        (p cs q.1 header w hs n start (rs ++ (conn_reads header names s o (y ∷ [])).nodes) z.0))

-- ---- `output_node`

module _ (i o : ℕ) (v : Answer) where
  pub node_known : {y : ℕ} → v ≡ Ok (Some y) → inst_out i (some (unbiased y)) o ≡ inst_out i (index_of (worth v)) o
  node_known {y} e = sym (ap (λ (u : Answer). inst_out i (index_of (worth u)) o) e ∙ ap (λ (z : ℤ). inst_out i (some z) o) (same_word y))

-- ---- `output_head`

module _ (o : ℕ) (z : Value) (s : Summary) (x : Bytes) (d : ℕ) (kinds : List ℕ) (names : Names) (g : List ℕ)
    {a : ℕ} (fa : EndsAt x 5 a) {b : ℕ} (fb : EndsAt x a b) {c : ℕ} (fc : EndsAt x b c) {e : ℕ} (fe : EndsAt x c e)
    {m : ℕ} (qm : m ≡ number_at x 5 a) {nd : Node} (qn : nd ≡ inst_out m (index_of z) o)
    {t : ℕ} (qt : t ≡ number_at x c e)
    (v : Result ℕ Full) (g₁ : List ℕ) (headed : (hs : List Head) → Stands g hs → Headed v g₁ hs nd t) where
  node_here : (i : Inst) → ShowsItem x d (inst i) → nd ≡ inst_out i.name (index_of z) o
  node_here i h =
      let r = (ranged x d i h fa fb).name_small in
      qn ∙ ap (λ (n : ℕ). inst_out n (index_of z) o) (number_here x 5 a i.name (name_at x d i h fa fb) (omega arith) qm)

  start_here : (i : Inst) → ShowsItem x d (inst i) → t ≡ i.start
  start_here i h =
      let r = (ranged x d i h fa fb).start_small in
      number_here x c e i.start (start_at x d i h fa fb fc fe) (omega arith) qt

  -- one node too many
  pub output_full : v ≡ full → OutputHead false o z s x d kinds names g g₁
  output_full f i h header w hs k =
      head_full hs (inst_out i.name (index_of z) o) i.start (conn_reads header names s o i.conns) g₁ (as_full v f g₁ hs (node_here i h) (start_here i h) (headed hs k))

  -- the connections are read
  pub output_reads : {j : ℕ} → v ≡ Ok j → {l : ℕ} → l ≡ d - 2 → (r : Bool) (g' : List ℕ) → ConnsRead r o s (drop e x) l kinds names g₁ g' j → OutputHead r o z s x d kinds names g g'
  unfolding item_depth
  output_reads {j} f {l} ql r g' p i h header w hs k =
      let y : suc (max (place_depth i.place) (conns_depth i.conns)) ≤ d = h.deep in
      let q : ShowsConns (drop e x) l i.conns = record { shown = (start_at x d i h fa fb fc fe).follows; deep = omega arith; ranged = (ranged x d i h fa fb).conns_ranged } in
      head_one hs (inst_out i.name (index_of z) o) i.start (conn_reads header names s o i.conns) r g' j
      (p i.conns q header w hs (inst_out i.name (index_of z) o) i.start [] (as_headed v f g₁ hs (node_here i h) (start_here i h) (headed hs k)))

-- ---- `inst_heads`

-- what heading the outputs of a part of the summary leaves in the graph of a module
abbrev pub OutputsHead : Bool → Value → Summary → Summary → Bytes → ℕ → List ℕ → Names → List ℕ → List ℕ → Type 0
OutputsHead r v s rest x d kinds names g g' =
    (i : Inst) → ShowsItem x d (inst i) → (header : List Header) → KindsOf kinds header
    → (hs : List Head) → Stands g hs → HeadAll r g' hs (output_heads header names i (index_of v) s rest)

module _ (header : List Header) (names : Names) (i : Inst) (v : Value) (s : Summary) (o j : ℕ) (rest : Summary) where
  abbrev both_heads : Heads
  both_heads =
      let a = one_head (inst_out i.name (index_of v) o) i.start (conn_reads header names s o i.conns) in
      let c = output_heads header names i (index_of v) s rest in
      record { heads = a.heads ++ c.heads; out = a.out || c.out }

  by_later : (b : Bool) → has_output o rest ≡ b
      → output_heads header names i (index_of v) s ((o, j) ∷ rest) ≡ elim b as (λ _. Heads) [ true ↦ output_heads header names i (index_of v) s rest | false ↦ both_heads ]
  unfolding output_heads
  by_later b e = ap (λ (b : Bool). elim b as (λ _. Heads) [ true ↦ output_heads header names i (index_of v) s rest | false ↦ both_heads ]) e

module _ (v : Value) (s : Summary) (x : Bytes) (d : ℕ) (kinds : List ℕ) (names : Names) where
  -- the whole summary
  pub outputs_all : (r : Bool) (g g' : List ℕ) → OutputsHead r v s s x d kinds names g g' → InstHeads r v s x d kinds names g g'
  unfolding inst_edges
  outputs_all r g g' f i h e header w hs k =
      let z : output_heads header names i (index_of v) s s ≡ inst_edges header names i s = ap (λ (u : Value). output_heads header names i (index_of u) s s) e in
      rw z at (f i h header w hs k)

  pub outputs_none : (g : List ℕ) {all : Summary} → all ≡ [] → OutputsHead true v s all x d kinds names g g
  unfolding output_heads
  outputs_none g e i h header w hs k = rw e (heads_none hs g k)

  module _ {all rest : Summary} {o j : ℕ} (e : all ≡ (o, j) ∷ rest) {b : Bool} (qb : b ≡ has_output o rest) where
    heads_here : (header : List Header) (i : Inst) (c : Bool) → b ≡ c
        → output_heads header names i (index_of v) s all ≡ elim c as (λ _. Heads) [ true ↦ output_heads header names i (index_of v) s rest | false ↦ both_heads header names i v s o j rest ]
    heads_here header i c f = ap (output_heads header names i (index_of v) s) e ∙ by_later header names i v s o j rest c (sym qb ∙ f)

    -- a later pair has the output too
    pub outputs_later : b ≡ true → (r : Bool) (g g' : List ℕ) → OutputsHead r v s rest x d kinds names g g' → OutputsHead r v s all x d kinds names g g'
    outputs_later f r g g' p i h header w hs k = rw (heads_here header i true f) (p i h header w hs k)

    module _ (f : b ≡ false) (g g₁ : List ℕ) (c : Bool) (p : OutputHead c o v s x d kinds names g g₁) where
      -- its head is one too many
      pub outputs_stop : c ≡ false → OutputsHead false v s all x d kinds names g g₁
      outputs_stop q i h header w hs k =
          let y : HeadAll false g₁ hs (one_head (inst_out i.name (index_of v) o) i.start (conn_reads header names s o i.conns)) = rw q at (p i h header w hs k) in
          rw (heads_here header i false f)
          (heads_stop hs (one_head (inst_out i.name (index_of v) o) i.start (conn_reads header names s o i.conns)) (output_heads header names i (index_of v) s rest) g₁ y)

      -- the others follow
      pub outputs_more : c ≡ true → (r : Bool) (g' : List ℕ) → OutputsHead r v s rest x d kinds names g₁ g' → OutputsHead r v s all x d kinds names g g'
      outputs_more q r g' t i h header w hs k =
          let a = one_head (inst_out i.name (index_of v) o) i.start (conn_reads header names s o i.conns) in
          let y : HeadAll true g₁ hs a = rw q at (p i h header w hs k) in
          rw (heads_here header i false f)
          (heads_then hs a (output_heads header names i (index_of v) s rest) r g₁ g' y (t i h header w (hs ++ a.heads) y.0))
