-- What bytes read that show an expression or a line is what that reads. Assumes nothing.
use Rattle.std.specs.Prelude.{Option, Some, None}
use mathlib.Core.Path.{◌≡◌, refl, sym, ◌∙◌, ap, subst}
use mathlib.Core.Bool.{Bool, true, false}
use mathlib.Core.List.{List, [], ◌∷◌}
use mathlib.Core.Option.{none}
use Prim.Native.Nat.{ℕ, zero, suc, ◌+◌, ◌-◌, ◌≤◌, ◌<◌, max}
use native.Mathlib.Omega.{arith}
use lib.ListN.{drop, get_or}
use Rattle.spec.specs.Bytes.{Bytes, show_rest, show_form}
use Rattle.spec.specs.Syntax.{Expr, Exprs, name, field, Conn, Header}
use Rattle.spec.specs.Show.{show_expr, show_exprs, show_index, show_conns}
use Rattle.spec.specs.Refusal.{expr_in_range, expr_depth, item_depth, place_depth, conns_depth}
use Rattle.spec.specs.Decode.{decode_expr}
use Rattle.spec.specs.Value.{Names, value}
use Rattle.spec.specs.Site.{kind_of}
use Rattle.spec.specs.Edge.{Reads, inst_out, name_reads, and_reads, indexed_reads, FieldOf, field_reads, expr_reads, exprs_reads, no_reads, Summary, reaches, conn_reads}
use Rattle.spec.proofs.Parts.{number_part}
use Rattle.spec.proofs.Shown.{expr_shown}
use Rattle.lines.specs.Parts.{part_end, piece, next_end}
use Rattle.runs.proofs.Inside.{placed}
use Rattle.edges.specs.declared.FieldOf as F
use Rattle.edges.specs.declared.FieldOf.TheVariants as of
use Rattle.edges.specs.Reads.{KindsOf}
use Rattle.edges.specs.Shows.{ShowsExpr, ShowsExprs, one_read, name_of, SaysOf}
use Rattle.edges.specs.Lines.{end_behind, number_at, module_end, ShowsConn, ShowsConns}
use Rattle.edges.specs.Total.{parts_behind, reads_in_order, field_by, field_inner, field_name, index_part, field_read, expr_read, ReadAsShown, conn_read, WireAsShown, DriveAsShown, InstAsShown}
use Rattle.edges.proofs.ExprLaws.{Told, an_atom, a_name, a_field, a_form, told, children, and_none}
use Rattle.edges.proofs.FieldLaws.{named_as, index_parts, field_is}
use Rattle.edges.proofs.PartLaws.{ended_next, follows_byte, field_parts, children_deep, children_ranged, part_first}
use Rattle.edges.proofs.LineLaws.{wire_parts, drive_parts, index_shows, index_exprs, indexes_read}
use Rattle.edges.proofs.OutputLaws.{ranged, start_at, conn_parts, by_reach, conns_split, conn_first}
use Rattle.edges.proofs.TotalLaws.{reads_output, reads_indexed, reads_inner, reads_atom, reads_name, reads_field, reads_parts, reads_end, reads_first, reads_unreached, reads_reached, wire_reads_here, drive_reads_here, inst_reads_here}

module _ (kinds : List ℕ) (names : Names) (header : List Header) (w : KindsOf kinds header) where
  -- f gives what bytes read that show an expression at most d brackets deep
  abbrev Right : (Bytes → Reads) → ℕ → Type 0
  Right f d = (e : Bytes) (x : Expr) → ShowsExpr e d x → f e ≡ expr_reads x header names

  -- parts one behind the other
  pub parts_shown : (f : Bytes → Reads) (d : ℕ) → Right f d → (es : Exprs) (s : Bytes) (a : ℕ) → ShowsExprs (drop a s) d es → reads_in_order f (parts_behind s a) ≡ exprs_reads es header names
  unfolding expr_reads show_expr show_rest
  parts_shown f d r Exprs.none s a h = sym (reads_end f s a (follows_byte s a 41 h.shown))
  parts_shown f d r (Exprs.more y es) s a h =
      let b = part_end s (a + 1) in
      let p = part_first s a d kinds names 0 y es h refl refl in
      sym (reads_first f s a (follows_byte s a 32 h.shown) refl refl)
      ∙ ap (λ (q : Reads). and_reads q (reads_in_order f (parts_behind s b))) (r (piece s a b) y p.0)
      ∙ ap (and_reads (expr_reads y header names)) (parts_shown f d r es s b p.1)

  -- an `f`
  module _ (f : Bytes → Reads) (d : ℕ) (r : Right f d) (e : Bytes) (y : Expr) (m : ℕ) (s : ShowsExpr e (suc d) (field y m)) where
    abbrev u : Bytes
    u = field_inner e

    inside : ShowsExpr u d y × (field_name e ≡ m)
    inside =
        let t = field_parts e d kinds names [] 0 refl refl refl refl y m s in
        (t.inner, t.out)

    -- by what it is of
    field_shown : (v : F.FieldOf) → field_by kinds u ≡ v → SaysOf v header y → field_read f kinds names d e ≡ expr_reads (field y m) header names
    unfolding expr_reads
    field_shown (of.Inst i) q h =
        sym (reads_output f kinds names d e refl refl refl refl (field_by kinds u) refl q)
        ∙ ap (λ (p : ℕ). one_read (inst_out i none p)) inside.1
        ∙ ap (λ (z : FieldOf). field_reads names z m (expr_reads y header names)) (sym h)
    field_shown (of.InstAt i) q h =
        let o = index_parts u d refl (name i) h.0 (subst (λ z. ShowsExpr u d z) h.1 inside.0) in
        let here : index_part u ≡ show_expr h.0 = (ended_next u (part_end u 4) [] (expr_shown h.0).part o.behind refl).here in
        let back : decode_expr (d - 1) (index_part u) ≡ h.0 = ap (decode_expr (d - 1)) here ∙ (expr_shown h.0).back (d - 1) o.deep in
        sym (reads_indexed f kinds names d e refl refl refl refl (field_by kinds u) refl q refl refl refl refl)
        ∙ ap (λ (p : ℕ). indexed_reads i (value names (decode_expr (d - 1) (index_part u))) p) inside.1
        ∙ ap (λ (z : Expr). indexed_reads i (value names z) m) back
        ∙ ap (λ (z : FieldOf). field_reads names z m (expr_reads y header names)) (sym h.2)
    field_shown of.Other q h =
        sym (reads_inner f kinds names d e refl refl refl refl (field_by kinds u) refl q)
        ∙ r u y inside.0
        ∙ ap (λ (z : FieldOf). field_reads names z m (expr_reads y header names)) (sym h)

    pub field_right : field_read f kinds names d e ≡ expr_reads (field y m) header names
    field_right = field_shown (field_by kinds u) refl (field_is u kinds y d inside.0 header w)

  -- a name
  name_opens : (x : Expr) (n : ℕ) → x ≡ name n → get_or (show_expr x) 0 0 ≡ 40
  unfolding show_expr show_form
  name_opens x n p = ap (λ (z : Expr). get_or (show_expr z) 0 0) p

  name_right : (x : Expr) (n : ℕ) → x ≡ name n → name_reads (kind_of header n) n ≡ expr_reads x header names
  unfolding expr_reads
  name_right x n p = ap (λ (z : Expr). expr_reads z header names) (sym p)

  -- an expression, its parts being less deep
  whole : (d : ℕ) → ((n : ℕ) → d ≡ suc n → Right (expr_read kinds names n) n) → Right (expr_read kinds names d) d
  unfolding show_form expr_depth next_end
  whole d less e x s = by_name (name_of e) refl
    where
      byte_here : (i : ℕ) → get_or e i 0 ≡ get_or (show_expr x) i 0
      byte_here i = ap (λ (z : Bytes). get_or z i 0) s.shown

      go : name_of e ≡ None → Told x → expr_read kinds names d e ≡ expr_reads x header names
      go n (an_atom h q) = sym (reads_atom e kinds names d (λ z. h (sym (byte_here 0) ∙ z))) ∙ sym (q header names)
      go n (a_name m p z u t) = absurd (named_as e (name_of e) None refl n d x s m p)
      go n (a_field y m p z u t) =
          let h : suc (expr_depth y) ≤ d = subst (λ k. expr_depth k ≤ d) p s.deep in
          let l : d ≡ suc (d - 1) = omega arith in
          let o : ShowsExpr e (suc (d - 1)) (field y m) = record { shown = s.shown ∙ ap show_expr p; deep = omega arith; ranged = subst (λ k. expr_in_range k ≡ true) p s.ranged } in
          sym (reads_field e kinds names (byte_here 0 ∙ z) (name_of e) refl n d (λ k. absurd (omega (arith, k))) (byte_here 1 ∙ u))
          ∙ field_right (expr_read kinds names (d - 1)) (d - 1) (less (d - 1) l) e y m o
          ∙ ap (λ (k : Expr). expr_reads k header names) (sym p)
      go n (a_form b p z h i l j) =
          let t = placed e 0 40 (show_exprs (children x)) p (s.shown ∙ z) in
          let k : 0 < d = omega (arith, s.deep) in
          let q : d ≡ suc (d - 1) = omega arith in
          let o : ShowsExprs (drop (part_end e 1) e) (d - 1) (children x) = record { shown = t.follows; deep = children_deep x d k s.deep; ranged = children_ranged x s.ranged } in
          sym (reads_parts e kinds names (byte_here 0 ∙ ap (λ (y : Bytes). get_or y 0 0) z) (name_of e) refl n d (λ f. absurd (omega (arith, f))) (λ f. i (sym (byte_here 1) ∙ f)) refl)
          ∙ parts_shown (expr_read kinds names (d - 1)) (d - 1) (less (d - 1) q) (children x) e (part_end e 1) o
          ∙ sym (j header names)

      by_name : (v : Option ℕ) → name_of e ≡ v → expr_read kinds names d e ≡ expr_reads x header names
      by_name (Some n) q =
          let p : x ≡ name n = named_as e (name_of e) (Some n) refl q d x s in
          sym (reads_name e kinds names (byte_here 0 ∙ name_opens x n p) (name_of e) refl d q) ∙ ap (λ z. name_reads z n) (w n) ∙ name_right x n p
      by_name None q = go q (told x)

  pub read_right : (d : ℕ) → Right (expr_read kinds names d) d
  read_right zero = whole zero (λ n q. absurd (omega (arith, q)))
  read_right (suc d) = whole (suc d) (λ n q. let h : d ≡ n = omega (arith, q) in subst (λ k. Right (expr_read kinds names k) k) h (read_right d))

-- bytes that show an expression read what it reads
pub read_shown : (kinds : List ℕ) (names : Names) (d : ℕ) (e : Bytes) → ReadAsShown kinds names d e
read_shown kinds names d e x s header w = read_right kinds names header w d e x s

-- ---- the lines

pub wire_shown : (kinds : List ℕ) (names : Names) (d : ℕ) (x : Bytes) → WireAsShown kinds names d x
wire_shown kinds names d x n e start s header w =
    let a = end_behind x 5 in
    let b = end_behind x a in
    let p = wire_parts x d {a = a} refl {b = b} refl refl refl refl kinds names [] n e start s in
    sym (wire_reads_here kinds names d x {a = a} refl {b = b} refl {e = piece x a b} refl {k = d - 1} refl) ∙ read_right kinds names header w (d - 1) (piece x a b) e p.here

pub drive_shown : (kinds : List ℕ) (names : Names) (d : ℕ) (x : Bytes) → DriveAsShown kinds names d x
drive_shown kinds names d x lv e s header w =
    let a = end_behind x 6 in
    let j = end_behind x a in
    let u = piece x 6 a in
    let b = end_behind u 3 in
    let c = end_behind u b in
    let p = drive_parts x d {a = a} refl {u = u} refl {b = b} refl refl kinds refl names [] lv e s in
    let y = ended_next x a [] (expr_shown e).part p.expr_at {a = j} refl in
    let z = ended_next u b (show_index lv.index) (number_part lv.start) p.start_at {a = c} refl in
    let o : ShowsExpr (piece x a j) (d - 1) e = record { shown = y.here; deep = p.deep; ranged = p.ranged } in
    let i = index_shows lv.index (drop c u) (d - 2) z.follows p.index_deep p.index_ranged in
    sym (drive_reads_here kinds names d x {a = a} refl {u = u} refl {b = b} refl {c = c} refl {j = j} refl {e = piece x a j} refl {k = d - 1} refl {l = d - 2} refl)
    ∙ ap (λ (q : Reads). and_reads q (reads_in_order (expr_read kinds names (d - 2)) (parts_behind u c))) (read_right kinds names header w (d - 1) (piece x a j) e o)
    ∙ ap (and_reads (expr_reads e header names)) (parts_shown kinds names header w (expr_read kinds names (d - 2)) (d - 2) (read_right kinds names header w (d - 2)) (index_exprs lv.index) u c i ∙ indexes_read lv.index header names)

module _ (kinds : List ℕ) (names : Names) (header : List Header) (w : KindsOf kinds header) (s : Summary) (o d : ℕ) where
  conn_shown_read : (t : Bytes) (y : Conn) → ShowsConn t d y → conn_read kinds names s o d t ≡ conn_reads header names s o (y ∷ [])
  conn_shown_read t y h = go (reaches o m s) refl
    where
      a : ℕ
      a = end_behind t 5

      m : ℕ
      m = number_at t 5 a

      p : ShowsExpr (piece t a (end_behind t a)) d y.signal
      p =
          let q = conn_parts o s t d kinds names [] 0 {a = a} refl {m = m} refl refl y h in
          let i = ended_next t a [] (expr_shown y.signal).part q.behind {a = end_behind t a} refl in
          record { shown = i.here; deep = h.deep; ranged = q.signal_ranged }

      by : (b : Bool) → reaches o m s ≡ b → conn_reads header names s o (y ∷ []) ≡ elim b as (λ _. Reads) [ true ↦ and_reads (expr_reads y.signal header names) no_reads | false ↦ no_reads ]
      by b e = by_reach o s t d kinds names [] 0 {a = a} refl {m = m} refl (sym e) y h header

      go : (b : Bool) → reaches o m s ≡ b → conn_read kinds names s o d t ≡ conn_reads header names s o (y ∷ [])
      go true e =
          sym (reads_reached o s t d kinds names {a = a} refl {p = m} refl {b = reaches o m s} refl e refl refl)
          ∙ read_right kinds names header w d (piece t a (end_behind t a)) y.signal p
          ∙ sym (by true e ∙ and_none (expr_reads y.signal header names))
      go false e = sym (reads_unreached o s t d kinds names {a = a} refl {p = m} refl {b = reaches o m s} refl e) ∙ sym (by false e)

  conns_shown_read : (cs : List Conn) (x : Bytes) (a : ℕ) → ShowsConns (drop a x) d cs → reads_in_order (conn_read kinds names s o d) (parts_behind x a) ≡ conn_reads header names s o cs
  unfolding show_conns show_rest conn_reads
  conns_shown_read [] x a h = sym (reads_end (conn_read kinds names s o d) x a (follows_byte x a 41 h.shown))
  conns_shown_read (y ∷ cs) x a h =
      let b = part_end x (a + 1) in
      let p = conn_first o s x a d kinds names 0 y cs h {b = b} refl {t = piece x a b} refl in
      sym (reads_first (conn_read kinds names s o d) x a (follows_byte x a 32 h.shown) {b = b} refl {t = piece x a b} refl)
      ∙ ap (λ (q : Reads). and_reads q (reads_in_order (conn_read kinds names s o d) (parts_behind x b))) (conn_shown_read (piece x a b) y p.0)
      ∙ ap (and_reads (conn_reads header names s o (y ∷ []))) (conns_shown_read cs x b p.1)
      ∙ conns_split header names s o y cs

pub inst_shown : (kinds : List ℕ) (names : Names) (s : Summary) (d : ℕ) (x : Bytes) (o : ℕ) → InstAsShown kinds names s d x o
unfolding item_depth
inst_shown kinds names s d x o i h header w =
    let e = end_behind x (module_end x) in
    let t = start_at x d i h refl refl refl {e = e} refl in
    let l : suc (max (place_depth i.place) (conns_depth i.conns)) ≤ d = h.deep in
    let q : ShowsConns (drop e x) (d - 2) i.conns = record { shown = t.follows; deep = omega arith; ranged = (ranged x d i h refl refl).conns_ranged } in
    sym (inst_reads_here kinds names d x s o refl refl refl {e = e} refl {k = d - 2} refl)
    ∙ conns_shown_read kinds names header w s o (d - 2) i.conns x e q
