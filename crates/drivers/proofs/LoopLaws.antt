-- Loop reports by their pieces, and one report after the other. Assumes nothing.
use mathlib.Core.Path.{◌≡◌, refl, sym, ap, ◌∙◌, subst}
use mathlib.Core.Bool.{Bool}
use mathlib.Core.List.{List, [], ◌∷◌, ◌++◌, map, append_assoc, append-nil}
use Prim.Native.Nat.{ℕ, suc, ◌+◌, ◌-◌, ◌<◌, ◌≤◌}
use native.Mathlib.Omega.{arith}
use native.Mathlib.Numerals.{add-one}
use lib.ListN.{length, get_or}
use Rattle.std.specs.Prelude.{Option, Some, None}
use Rattle.spec.specs.Bytes.{Bytes, show_number, show_rest, show_form}
use Rattle.spec.specs.Report.{Report, loop_report, show_node, show_nodes, show_report, show_reports}
use Rattle.spec.specs.Edge.{Node, Head}
use Rattle.spec.specs.FindCycles.{find_cycles}
use Rattle.spec.specs.Check.{loop_reports}
use Rattle.report.specs.declared.Node as rnode
use Rattle.report.specs.Line.{field, walk_head, walk_node, walk_tail, node_of, node_bytes as report_node}
use Rattle.graph.specs.Table.{count, node_at, start_at}
use Rattle.graph.specs.Stands.{Stands}
use Rattle.graph.specs.Cycles.{words_from, Awaits, Next}
use Rattle.graph.specs.declared.Cycle.{Cycle}
use Rattle.drivers.specs.declared.emit.Place.{Place}
use Rattle.drivers.specs.Emits.{Appends, Emits}
use Rattle.drivers.specs.Loops.{node_bytes, path_nodes, path_report}
use Rattle.drivers.proofs.EmitLaws.{append_then, emitting_start, emitting_then, emitting_end, Emitting}
use Rattle.drivers.proofs.Bound.{few_cycles}

-- 01, The report: a space and a node, for each node
unfoldable pub walk_bytes : List Node → Bytes
walk_bytes [] = []
walk_bytes (n ∷ ns) = node_bytes n ++ walk_bytes ns

-- a node's bytes
node_piece : (n : rnode.Node) {x y : Node} → node_of n ≡ x → x ≡ y → walk_node n ≡ node_bytes y
unfolding walk_node report_node node_bytes
node_piece n e f = ap (λ (z : Node). 32 ∷ show_node z) (e ∙ f)

pub node_appended : (n : rnode.Node) {x y : Node} → node_of n ≡ x → x ≡ y → {write : Bool} {old new : Bytes} {p r : Place}
    → Appends write old p (walk_node n) 0 new r → Appends write old p (node_bytes y) 0 new r
node_appended n e f {write} {old} {new} {p} {r} a = subst (λ (s : Bytes). Appends write old p s 0 new r) (node_piece n e f) a

-- a loop report's line is its head, each node and its end
walk_rest : (ns : List Node) (t : Bytes) → show_rest (show_nodes ns) ++ t ≡ walk_bytes ns ++ (41 ∷ t)
unfolding walk_bytes node_bytes show_rest show_nodes
walk_rest [] t = refl
walk_rest (n ∷ ns) t = simp append_assoc (ap (λ (s : Bytes). 32 ∷ show_node n ++ s) (walk_rest ns t))

walk_pieces : (m start : ℕ) (s : Bytes)
    → (40 ∷ 69 ∷ 48 ∷ 53 ∷ 48 ∷ 52 ∷ 32 ∷ show_number m ++ (32 ∷ show_number start ++ (32 ∷ (40 ∷ 119 ∷ 97 ∷ 108 ∷ 107 ∷ s) ++ (41 ∷ [])))) ++ (10 ∷ [])
    ≡ walk_head m start ++ (s ++ (41 ∷ 10 ∷ []))
unfolding walk_head field
walk_pieces m start s = simp append_assoc

loop_line : (m start : ℕ) (ns : List Node) → show_reports (loop_report m start ns ∷ []) ≡ walk_head m start ++ (walk_bytes ns ++ walk_tail)
unfolding show_reports show_report show_form show_rest
loop_line m start ns = walk_pieces m start (show_rest (show_nodes ns)) ∙ ap (λ (t : Bytes). walk_head m start ++ t) (walk_rest ns (41 ∷ 10 ∷ []))

words_step : (w : List ℕ) (i to : ℕ) → i < to → words_from w 3074 i (to - i) ≡ get_or w (3074 + i) 0 ∷ words_from w 3074 (i + 1) (to - (i + 1))
unfolding words_from
words_step w i to h =
    let e : to - i ≡ suc (to - (i + 1)) = omega arith in
    ap (words_from w 3074 i) e ∙ ap (λ (k : ℕ). get_or w (3074 + i) 0 ∷ words_from w 3074 k (to - (i + 1))) (sym (add-one i))

words_none : (w : List ℕ) (i to : ℕ) → to ≤ i → words_from w 3074 i (to - i) ≡ []
unfolding words_from
words_none w i to h = let e : to - i ≡ 0 = omega arith in ap (words_from w 3074 i) e

-- the line of one report: what is still to be appended from the place i on
abbrev pub left_bytes : List ℕ → List ℕ → ℕ → ℕ → ℕ → Bytes
left_bytes g w i to first = walk_bytes (path_nodes g w i to first) ++ walk_tail

-- what completes the line from here, with the bytes s, completes it from before, with the bytes all
abbrev pub Lining : Bool → Bytes → Place → Bytes → Bytes → Bytes → Place → Type 0
Lining write old p all s mid q = (new : Bytes) (r : Place) → Appends write mid q s 1 new r → Appends write old p all 1 new r

module _ (g w : List ℕ) (to first : ℕ) {write : Bool} {old : Bytes} {p : Place} {all : Bytes} where
  module _ (i : ℕ) {mid : Bytes} {q : Place} (L : Lining write old p all (left_bytes g w i to first) mid q) where
    pub line_node : (k : ℕ) {new : Bytes} {r : Place} → i < to → k ≡ get_or w (3074 + i) 0 → Appends write mid q (node_bytes (node_at g k)) 0 new r
        → Lining write old p all (left_bytes g w (i + 1) to first) new r
    unfolding walk_bytes
    line_node k h e a x y b = L x y (subst (λ (s : Bytes). Appends write mid q s 1 x y) (sym step) (append_then a b))
      where
        step : left_bytes g w i to first ≡ node_bytes (node_at g k) ++ left_bytes g w (i + 1) to first
        step =
            ap (λ (l : List ℕ). walk_bytes (map (node_at g) (l ++ first ∷ [])) ++ walk_tail)
            (words_step w i to h ∙ ap (λ (z : ℕ). z ∷ words_from w 3074 (i + 1) (to - (i + 1))) (sym e))
            ∙ append_assoc (node_bytes (node_at g k)) (walk_bytes (path_nodes g w (i + 1) to first)) walk_tail

    line_end : {new new' : Bytes} {r r' : Place} → to ≤ i → Appends write mid q (node_bytes (node_at g first)) 0 new r → Appends write new r walk_tail 1 new' r'
        → Appends write old p all 1 new' r'
    unfolding walk_bytes
    line_end {new} {new'} {r} {r'} h a b = L new' r' (subst (λ (s : Bytes). Appends write mid q s 1 new' r') (sym step) (append_then a b))
      where
        step : left_bytes g w i to first ≡ node_bytes (node_at g first) ++ walk_tail
        step =
            ap (λ (l : List ℕ). walk_bytes (map (node_at g) (l ++ first ∷ [])) ++ walk_tail) (words_none w i to h)
            ∙ ap (λ (s : Bytes). s ++ walk_tail) (append-nil (node_bytes (node_at g first)))

-- the head, the nodes that follow, the first again, and the end
pub line_whole : (g w : List ℕ) (m from to i first start : ℕ) {write : Bool} {old front mid mid' new : Bytes} {p o q r t : Place} → first ≡ get_or w (3074 + from) 0
    → start ≡ start_at g first → Appends write old p (walk_head m start) 0 front o → Lining write front o (left_bytes g w from to first) (left_bytes g w i to first) mid q
    → to ≤ i → Appends write mid q (node_bytes (node_at g first)) 0 mid' r → Appends write mid' r walk_tail 1 new t → Emits write old p (path_report m g w from to ∷ []) new t
line_whole g w m from to i first start {write} {old} {front} {mid} {mid'} {new} {p} {o} {q} {r} {t} e f a L h b c =
    subst (λ (s : Bytes). Appends write old p s 1 new t)
    (ap (λ (k : ℕ). walk_head m k ++ left_bytes g w from to first) f ∙ ap (λ (k : ℕ). walk_head m (start_at g k) ++ left_bytes g w from to k) e
    ∙ sym (loop_line m (start_at g (get_or w (3074 + from) 0)) (path_nodes g w from to (get_or w (3074 + from) 0))))
    (append_then a (line_end g w to first i L h b c))

-- the first of the reports
cons_report : (g : List ℕ) (hs : List Head) (H : Stands g hs) (m : ℕ) (w : List ℕ) (from to : ℕ) → from < to → (qs : List (List Node)) → get_or w (3074 + from) 0 < count g
    → loop_reports m hs (path_nodes g w from to (get_or w (3074 + from) 0) ∷ qs) ≡ path_report m g w from to ∷ loop_reports m hs qs
unfolding loop_reports
cons_report g hs H m w from to l qs h =
    let first = get_or w (3074 + from) 0 in
    let e : path_nodes g w from to first ≡ node_at g first ∷ path_nodes g w (from + 1) to first = ap (λ (z : List ℕ). map (node_at g) (z ++ first ∷ [])) (words_step w from to l) in
    ap (λ (z : List Node). loop_reports m hs (z ∷ qs)) e
    ∙ ap (λ (z : ℕ). loop_report m z (node_at g first ∷ path_nodes g w (from + 1) to first) ∷ loop_reports m hs qs) (sym (H.started first h))
    ∙ ap (λ (z : List Node). loop_report m (start_at g first) z ∷ loop_reports m hs qs) (sym e)

none_left : {A : Type 0} (l : List A) → length l ≤ 0 → l ≡ []
none_left [] h = refl
none_left (a ∷ l) h = absurd (omega arith)

-- the reports still to come at a turn of the search
pub record Looping (g w : List ℕ) (hs : List Head) (m turn : ℕ) (write : Bool) (old : Bytes) (p : Place) (new : Bytes) (q : Place) : Type 0 where
  pub rest : List (List Node)
  pub awaits : Awaits g w rest
  pub few : length rest + turn ≤ 263168
  pub emitting : Emitting write old p (loop_reports m hs (find_cycles hs)) (loop_reports m hs rest) new q

module _ {g : List ℕ} (hs : List Head) (H : Stands g hs) {m : ℕ} {write : Bool} {old : Bytes} {p : Place} where
  pub loops_start : {w : List ℕ} → Awaits g w (find_cycles hs) → Looping g w hs m 0 write old p old p
  loops_start a = record { rest = find_cycles hs; awaits = a; few = omega (arith, few_cycles hs H); emitting = emitting_start (loop_reports m hs (find_cycles hs)) }

  module _ {w : List ℕ} {turn : ℕ} {mid : Bytes} {q : Place} (L : Looping g w hs m turn write old p mid q) where
    loops_none : L.rest ≡ [] → Emits write old p (loop_reports m hs (find_cycles hs)) mid q
    unfolding loop_reports
    loops_none e = emitting_end (subst (λ (l : List (List Node)). Emitting write old p (loop_reports m hs (find_cycles hs)) (loop_reports m hs l) mid q) e L.emitting)

    pub loops_out : 263168 ≤ turn → Emits write old p (loop_reports m hs (find_cycles hs)) mid q
    loops_out z = loops_none (none_left L.rest (omega (arith, L.few)))

    module _ (w' : List ℕ) (c : Option Cycle) (next : (rs : List (List Node)) → Awaits g w rs → Next c g w' rs) where
      pub loops_done : c ≡ None → Emits write old p (loop_reports m hs (find_cycles hs)) mid q
      loops_done e = loops_none (rw e at (next L.rest L.awaits))

      pub loops_found : {s : Cycle} → c ≡ Some s → {new : Bytes} {r : Place} → Emits write mid q (path_report m g w' s.from s.to ∷ []) new r
          → Looping g w' hs m (turn + 1) write old p new r
      loops_found {s} e {new} {r} a = found (rw e at (next L.rest L.awaits))
        where
          found : Next (Some s) g w' L.rest → Looping g w' hs m (turn + 1) write old p new r
          found (qs, A, l, d, f) =
              record {
                rest = qs;
                awaits = A;
                few = omega (arith, L.few, ap length f);
                emitting = emitting_then (path_report m g w' s.from s.to ∷ []) (loop_reports m hs qs)
                    (subst (λ (x : List Report). Emitting write old p (loop_reports m hs (find_cycles hs)) x mid q)
                    (ap (loop_reports m hs) f ∙ cons_report g hs H m w' s.from s.to l qs (rw A.pending.state.nodes at (A.pending.state.small s.from (rw d at l)))) L.emitting) a;
              }
