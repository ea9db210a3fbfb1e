-- What `wire` and `drive` lines head, one law for each way of `wire_heads` and `drive_heads`.
-- Assumes nothing.
use mathlib.Core.Path.{◌≡◌, refl, sym, ◌∙◌, ap}
use mathlib.Core.Logic.{◌⊎◌, inl, inr}
use mathlib.Core.Bool.{Bool, true, false, ◌&&◌}
use mathlib.Core.List.{List, [], ◌∷◌, ◌++◌}
use mathlib.Core.Option.{Option}
use Prim.Native.Nat.{ℕ, zero, suc, ◌-◌, ◌≤◌, ◌<◌, max}
use native.Mathlib.Omega.{arith}
use lib.ListN.{drop, get_or}
use lib.Dec.{ltb}
use borrow.Author.Tests.{ltb-true}
use Rattle.std.specs.Prelude.{Result, Ok}
use Rattle.spec.specs.Bytes.{Bytes, show_number, show_rest, show_form}
use Rattle.spec.specs.Syntax.{Kind, Expr, Exprs, Index, whole, at_bit, high_low, LValue, wire, drive, Header}
use Rattle.spec.specs.Show.{show_expr, show_index, show_lvalue, show_item}
use Rattle.spec.specs.Refusal.{expr_in_range, exprs_in_range, index_in_range, item_in_range, expr_depth, exprs_depth, index_depth, item_depth}
use Rattle.spec.specs.Value.{Names}
use Rattle.spec.specs.Site.{kind_of, driving}
use Rattle.spec.specs.Edge.{Node, signal, Reads, and_reads, expr_reads, exprs_reads, index_reads, Head, no_heads, one_head, drive_heads, line_heads}
use Rattle.spec.proofs.Nodes.{and_parts}
use Rattle.spec.proofs.Parts.{number_part}
use Rattle.spec.proofs.Shown.{expr_shown, lvalue_shown}
use Rattle.runs.specs.Run.{ShowsItem}
use Rattle.graph.specs.Stands.{full, Stands, Heading, Headed}
use Rattle.graph.specs.declared.Full.{Full}
use Rattle.lines.specs.Parts.{piece}
use Rattle.edges.specs.Reads.{kind_word, KindsOf, ReadAll, HeadAll}
use Rattle.edges.specs.Shows.{ShowsExpr, ShowsExprs, ExprRead, PartsRead}
use Rattle.edges.specs.Lines.{WireHeads, DriveHeads, number_at}
use Rattle.edges.proofs.ReadLaws.{read_then, read_stops, head_one, head_full, heads_none}
use Rattle.edges.proofs.ExprLaws.{and_none}
use Rattle.edges.proofs.PartLaws.{EndsAt, Ended, ended, ended_next, number_here, both_true}

-- the node that was headed is that of the line
pub as_headed : (v : Result ℕ Full) {i : ℕ} → v ≡ Ok i → (g : List ℕ) (hs : List Head) {m n : Node} {s t : ℕ} → m ≡ n → s ≡ t → Headed v g hs m s → Heading g hs n t [] i
as_headed v {i} e g hs {m} {n} {s} {t} p q h =
    let k : Headed (Ok i) g hs m s = rw e at h in
    rw (← p, ← q) k

pub as_full : (v : Result ℕ Full) → v ≡ full → (g : List ℕ) (hs : List Head) {m n : Node} {s t : ℕ} → m ≡ n → s ≡ t → Headed v g hs m s → Headed full g hs n t
as_full v e g hs {m} {n} {s} {t} p q h =
    let k : Headed full g hs m s = rw e at h in
    rw (← p, ← q) k

-- ---- `wire_heads`

module _ (x : Bytes) (d : ℕ) {a : ℕ} (fa : EndsAt x 5 a) {b : ℕ} (fb : EndsAt x a b) {m : ℕ} (qm : m ≡ number_at x 5 a)
    {c : ℕ} (fc : EndsAt x b c) {t : ℕ} (qt : t ≡ number_at x b c) (kinds : List ℕ) (names : Names) (g : List ℕ) where
  -- what the code found is what the line shows
  pub record WireParts (n : ℕ) (e : Expr) (start : ℕ) : Type 0 where
    pub name : signal m ≡ signal n
    pub place : t ≡ start
    pub here : ShowsExpr (piece x a b) (d - 1) e

  pub wire_parts : (n : ℕ) (e : Expr) (start : ℕ) → ShowsItem x d (wire n e start) → WireParts n e start
  unfolding show_item show_form show_rest item_depth item_in_range
  wire_parts n e start s =
      let q : drop 5 x ≡ 32 ∷ show_number n ++ show_rest (show_expr e ∷ show_number start ∷ []) = ap (drop 5) s.shown in
      let h = ended x 5 32 (show_expr e ∷ show_number start ∷ []) (number_part n) q fa in
      let i = ended_next x a (show_number start ∷ []) (expr_shown e).part h.follows fb in
      let j = ended_next x b [] (number_part start) i.follows fc in
      let r = and_parts (ltb n 256 && expr_in_range e) (ltb start 2147483648) s.ranged in
      let u = and_parts (ltb n 256) (expr_in_range e) r.0 in
      let y = ltb-true n 256 u.0 in
      let z = ltb-true start 2147483648 r.1 in
      let l : suc (expr_depth e) ≤ d = s.deep in
      record {
        name = ap signal (number_here x 5 a n h (omega arith) qm);
        place = number_here x b c start j (omega arith) qt;
        here = record { shown = i.here; deep = omega arith; ranged = u.1 };
      }

  module _ (v : Result ℕ Full) (g₁ : List ℕ) (headed : (hs : List Head) → Stands g hs → Headed v g₁ hs (signal m) t) where
    -- one node too many
    pub wire_full : v ≡ full → WireHeads false x d kinds names g g₁
    unfolding line_heads
    wire_full e n y start s header w hs k =
        let p = wire_parts n y start s in
        head_full hs (signal n) start (expr_reads y header names) g₁ (as_full v e g₁ hs p.name p.place (headed hs k))

    -- the expression is read
    pub wire_reads : {i : ℕ} → v ≡ Ok i → {u : Bytes} → u ≡ piece x a b → {l : ℕ} → d - 1 ≤ l → (r : Bool) (g' : List ℕ)
        → ExprRead r u l kinds names g₁ g' i → WireHeads r x d kinds names g g'
    unfolding line_heads
    wire_reads {i} e {u} qu {l} ql r g' f n y start s header w hs k =
        let p = wire_parts n y start s in
        let h = p.here in
        let o : ShowsExpr u l y = record { shown = qu ∙ h.shown; deep = omega (arith, h.deep); ranged = h.ranged } in
        head_one hs (signal n) start (expr_reads y header names) r g' i (f y o header w hs (signal n) start [] (as_headed v e g₁ hs p.name p.place (headed hs k)))

-- ---- `drive_heads`

-- the indexes of an LV as expressions
pub index_exprs : Index → Exprs
index_exprs whole = Exprs.none
index_exprs (at_bit e) = Exprs.more e Exprs.none
index_exprs (high_low h l) = Exprs.more h (Exprs.more l Exprs.none)

pub index_shows : (i : Index) (s : Bytes) (d : ℕ) → s ≡ show_rest (show_index i) → index_depth i ≤ d → index_in_range i ≡ true → ShowsExprs s d (index_exprs i)
unfolding index_exprs show_index show_expr index_depth exprs_depth index_in_range exprs_in_range
index_shows whole s d e l r = record { shown = e; deep = omega arith; ranged = refl }
index_shows (at_bit y) s d e l r = record { shown = e; deep = omega arith; ranged = both_true r refl }
index_shows (high_low y z) s d e l r =
    let p = and_parts (expr_in_range y) (expr_in_range z) r in
    record { shown = e; deep = omega arith; ranged = both_true p.0 (both_true p.1 refl) }

pub indexes_read : (i : Index) (header : List Header) (names : Names) → exprs_reads (index_exprs i) header names ≡ index_reads header names i
unfolding index_exprs index_reads expr_reads
indexes_read whole header names = refl
indexes_read (at_bit e) header names = and_none (expr_reads e header names)
indexes_read (high_low h l) header names = ap (and_reads (expr_reads h header names)) (and_none (expr_reads l header names))

-- a kind that is driven heads, another nothing
drives : (k : ℕ) (lv : LValue) (q : Reads) → 2 ≤ k → k ≤ 3 → drive_heads (driving (kind_word k)) lv q ≡ one_head (signal lv.name) lv.start q
drives zero lv q l h = absurd (omega arith)
drives (suc zero) lv q l h = absurd (omega arith)
drives (suc (suc zero)) lv q l h = refl
drives (suc (suc (suc zero))) lv q l h = refl
drives (suc (suc (suc (suc k)))) lv q l h = absurd (omega arith)

drives_low : (k : ℕ) (lv : LValue) (q : Reads) → k < 2 → drive_heads (driving (kind_word k)) lv q ≡ no_heads
drives_low zero lv q l = refl
drives_low (suc zero) lv q l = refl
drives_low (suc (suc k)) lv q l = absurd (omega arith)

drives_high : (k : ℕ) (lv : LValue) (q : Reads) → 3 < k → drive_heads (driving (kind_word k)) lv q ≡ no_heads
drives_high zero lv q l = absurd (omega arith)
drives_high (suc zero) lv q l = absurd (omega arith)
drives_high (suc (suc zero)) lv q l = absurd (omega arith)
drives_high (suc (suc (suc zero))) lv q l = absurd (omega arith)
drives_high (suc (suc (suc (suc zero)))) lv q l = refl
drives_high (suc (suc (suc (suc (suc zero))))) lv q l = refl
drives_high (suc (suc (suc (suc (suc (suc k)))))) lv q l = refl

module _ (x : Bytes) (d : ℕ) {a : ℕ} (fa : EndsAt x 6 a) {u : Bytes} (qu : u ≡ piece x 6 a) {b : ℕ} (fb : EndsAt u 3 b) {m : ℕ} (qm : m ≡ number_at u 3 b)
    (kinds : List ℕ) {k : ℕ} (qk : k ≡ get_or kinds m 0) (names : Names) (g : List ℕ) where
  -- what the code found is what the line shows
  pub record DriveParts (lv : LValue) (e : Expr) : Type 0 where
    pub name : m ≡ lv.name
    pub start_at : drop b u ≡ show_rest (show_number lv.start ∷ show_index lv.index)
    pub expr_at : drop a x ≡ show_rest (show_expr e ∷ [])
    pub start_small : lv.start < 2147483648
    pub ranged : expr_in_range e ≡ true
    pub index_ranged : index_in_range lv.index ≡ true
    pub deep : expr_depth e ≤ d - 1
    pub index_deep : index_depth lv.index ≤ d - 2

  pub drive_parts : (lv : LValue) (e : Expr) → ShowsItem x d (drive lv e) → DriveParts lv e
  unfolding show_item show_lvalue show_form show_rest item_depth item_in_range
  drive_parts lv e s =
      let q : drop 6 x ≡ 32 ∷ show_lvalue lv ++ show_rest (show_expr e ∷ []) = ap (drop 6) s.shown in
      let h = ended x 6 32 (show_expr e ∷ []) (lvalue_shown lv).part q fa in
      let y : drop 3 u ≡ 32 ∷ show_number lv.name ++ show_rest (show_number lv.start ∷ show_index lv.index) = ap (drop 3) (qu ∙ h.here) in
      let i = ended u 3 32 (show_number lv.start ∷ show_index lv.index) (number_part lv.name) y fb in
      let r = and_parts (ltb lv.name 256 && ltb lv.start 2147483648 && index_in_range lv.index) (expr_in_range e) s.ranged in
      let o = and_parts (ltb lv.name 256 && ltb lv.start 2147483648) (index_in_range lv.index) r.0 in
      let z = and_parts (ltb lv.name 256) (ltb lv.start 2147483648) o.0 in
      let n = ltb-true lv.name 256 z.0 in
      let l : suc (max (suc (index_depth lv.index)) (expr_depth e)) ≤ d = s.deep in
      record {
        name = number_here u 3 b lv.name i (omega arith) qm;
        start_at = i.follows;
        expr_at = h.follows;
        start_small = ltb-true lv.start 2147483648 z.1;
        ranged = r.1;
        index_ranged = o.1;
        deep = omega arith;
        index_deep = omega arith;
      }

  -- what is headed, by the byte of its kind
  kind_here : (lv : LValue) (e : Expr) → ShowsItem x d (drive lv e) → (header : List Header) → KindsOf kinds header → kind_of header lv.name ≡ kind_word k
  kind_here lv e s header w = sym (w lv.name) ∙ ap (λ (z : ℕ). kind_word (get_or kinds z 0)) (sym (drive_parts lv e s).name) ∙ ap kind_word (sym qk)

  abbrev drive_reads : List Header → LValue → Expr → Reads
  drive_reads header lv e = and_reads (expr_reads e header names) (index_reads header names lv.index)

  drive_none : ((lv : LValue) (q : Reads) → drive_heads (driving (kind_word k)) lv q ≡ no_heads) → DriveHeads true x d kinds names g g
  unfolding line_heads
  drive_none f lv e s header w hs h =
      let z : drive_heads (driving (kind_of header lv.name)) lv (drive_reads header lv e) ≡ no_heads =
      ap (λ (o : Option Kind). drive_heads (driving o) lv (drive_reads header lv e)) (kind_here lv e s header w) ∙ f lv (drive_reads header lv e) in
      rw z (heads_none hs g h)

  pub drive_apart : (k < 2) ⊎ (3 < k) → DriveHeads true x d kinds names g g
  drive_apart (inl l) = drive_none (λ lv q. drives_low k lv q l)
  drive_apart (inr l) = drive_none (λ lv q. drives_high k lv q l)

  module _ (low : 2 ≤ k) (high : k ≤ 3) {c : ℕ} (fc : EndsAt u b c) {t : ℕ} (qt : t ≡ number_at u b c)
      (v : Result ℕ Full) (g₁ : List ℕ) (headed : (hs : List Head) → Stands g hs → Headed v g₁ hs (signal m) t) where
    start_here : (lv : LValue) (e : Expr) → ShowsItem x d (drive lv e) → Ended u b c (show_number lv.start) (show_index lv.index)
    start_here lv e s = ended_next u b (show_index lv.index) (number_part lv.start) (drive_parts lv e s).start_at fc

    same_node : (lv : LValue) (e : Expr) → ShowsItem x d (drive lv e) → signal m ≡ signal lv.name
    same_node lv e s = ap signal (drive_parts lv e s).name

    same_start : (lv : LValue) (e : Expr) → ShowsItem x d (drive lv e) → t ≡ lv.start
    same_start lv e s = let l = (drive_parts lv e s).start_small in number_here u b c lv.start (start_here lv e s) (omega arith) qt

    -- the line heads one node
    drive_one : (r : Bool) (g' : List ℕ) → ((lv : LValue) (e : Expr) → ShowsItem x d (drive lv e) → (header : List Header) → KindsOf kinds header
        → (hs : List Head) → Stands g hs → HeadAll r g' hs (one_head (signal lv.name) lv.start (drive_reads header lv e))) → DriveHeads r x d kinds names g g'
    unfolding line_heads
    drive_one r g' f lv e s header w hs h =
        let z : drive_heads (driving (kind_of header lv.name)) lv (drive_reads header lv e) ≡ one_head (signal lv.name) lv.start (drive_reads header lv e) =
        ap (λ (o : Option Kind). drive_heads (driving o) lv (drive_reads header lv e)) (kind_here lv e s header w) ∙ drives k lv (drive_reads header lv e) low high in
        rw z (f lv e s header w hs h)

    -- one node too many
    pub drive_full : v ≡ full → DriveHeads false x d kinds names g g₁
    drive_full e = drive_one false g₁ (λ lv y s header w hs h.
        head_full hs (signal lv.name) lv.start (drive_reads header lv y) g₁ (as_full v e g₁ hs (same_node lv y s) (same_start lv y s) (headed hs h)))

    module _ {i : ℕ} (e : v ≡ Ok i) {q : ℕ} (fq : EndsAt x a q) {z : Bytes} (qz : z ≡ piece x a q) {l : ℕ} (ql : l ≡ d - 1) (b₁ : Bool) (g₂ : List ℕ) (f : ExprRead b₁ z l kinds names g₁ g₂ i) where
      -- the expression is read
      first_read : (lv : LValue) (y : Expr) → ShowsItem x d (drive lv y) → (header : List Header) → KindsOf kinds header
          → (hs : List Head) → Stands g hs → ReadAll b₁ g₂ hs (signal lv.name) lv.start [] i (expr_reads y header names)
      first_read lv y s header w hs h =
          let p = drive_parts lv y s in
          let j = ended_next x a [] (expr_shown y).part p.expr_at fq in
          let o : ShowsExpr z l y = record { shown = qz ∙ j.here; deep = omega (arith, p.deep); ranged = p.ranged } in
          f y o header w hs (signal lv.name) lv.start [] (as_headed v e g₁ hs (same_node lv y s) (same_start lv y s) (headed hs h))

      pub drive_stop : b₁ ≡ false → DriveHeads false x d kinds names g g₂
      drive_stop k₁ = drive_one false g₂ (λ lv y s header w hs h.
          let o : ReadAll false g₂ hs (signal lv.name) lv.start [] i (expr_reads y header names) = rw k₁ at (first_read lv y s header w hs h) in
          head_one hs (signal lv.name) lv.start (drive_reads header lv y) false g₂ i
          (read_stops hs (signal lv.name) lv.start i [] (expr_reads y header names) (index_reads header names lv.index) g₂ o))

      -- then the indexes
      pub drive_then : b₁ ≡ true → {l₂ : ℕ} → l₂ ≡ d - 2 → (r : Bool) (g' : List ℕ) → PartsRead r (drop c u) l₂ kinds names g₂ g' i → DriveHeads r x d kinds names g g'
      drive_then k₁ {l₂} ql₂ r g' f₂ = drive_one r g' (λ lv y s header w hs h.
          let p = drive_parts lv y s in
          let o : ReadAll true g₂ hs (signal lv.name) lv.start [] i (expr_reads y header names) = rw k₁ at (first_read lv y s header w hs h) in
          let j = index_shows lv.index (drop c u) l₂ (start_here lv y s).follows (omega (arith, p.index_deep, ql₂)) p.index_ranged in
          let n = f₂ (index_exprs lv.index) j header w hs (signal lv.name) lv.start (expr_reads y header names).nodes o.0 in
          head_one hs (signal lv.name) lv.start (drive_reads header lv y) r g' i
          (read_then hs (signal lv.name) lv.start i [] (expr_reads y header names) (index_reads header names lv.index) r g₂ g' o
          (rw (indexes_read lv.index header names) at n)))
