-- Numbers by their last digit, runs of stores, and report lines by their pieces. Assumes nothing.
use mathlib.Core.Path.{◌≡◌, refl, sym, ap, ◌∙◌}
use mathlib.Core.List.{List, [], ◌∷◌, ◌++◌, append_assoc}
use mathlib.Core.Bool.{Bool, true, false}
use Prim.Native.Nat.{ℕ, zero, suc, ◌+◌, ◌-◌, ◌*◌, ◌/◌, ◌%◌, ◌^◌, ◌<◌, ◌≤◌}
use native.Mathlib.Omega.{arith}
use native.Mathlib.Numerals.{add-one}
use lib.ListN.{length, get_or, set, take, drop, length-append}
use lib.Seq.{sets, set_comm, drop-cons, length-sets, sets-eq, drop-drop}
use lib.Dec.{ltb, leb, lit≤}
use borrow.Author.Tests.{lt-ltb, le-ltb, ltb-true, ltb-false, leb-true, leb-false, le-leb, lt-leb}
use lib.IntN.{pos, negsuc}
use borrow.Rule.Slice.PartMut.{put_mid}
use Rattle.spec.specs.Bytes.{Bytes, digits, show_number, show_int, show_rest, show_form}
use Rattle.spec.specs.Edge as edge
use Rattle.spec.specs.Report.{loop_report, show_report, show_node, show_nodes}
use Rattle.report.specs.Line.{Ran, code_digit, unbiased, field, line_head, detail_end, line, index_bytes, node_bytes, output_bytes, put_by, placed, walk_head, walk_node, walk_tail, refused_line, node_of}
use Rattle.std.specs.Prelude.{Option, Some, None}
use Rattle.report.specs.declared.Detail.{Detail}
use Rattle.report.specs.declared.Detail.TheVariants as detail
use Rattle.report.specs.declared.Report.{Report}
use Rattle.report.specs.declared.Node.{Node}
use Rattle.report.specs.declared.Node.TheVariants as node

-- more fuel than the number changes nothing
digits_fuel : (f g n : ℕ) → n < f → n < g → digits f n ≡ digits g n
unfolding digits
digits_fuel zero g n p q = absurd (omega arith)
digits_fuel (suc f) zero n p q = absurd (omega arith)
digits_fuel (suc f) (suc g) n p q = go (ltb n 10) refl (λ l. digits_fuel f g (n / 10) (omega arith) (omega arith))
  where
    go : (b : Bool) → ltb n 10 ≡ b → (10 ≤ n → digits f (n / 10) ≡ digits g (n / 10)) → digits (suc f) n ≡ digits (suc g) n
    go true e i = rw (e, digits)
    go false e i = rw (e, digits, i (ltb-false n 10 e))

pub number_small : (n : ℕ) → n < 10 → show_number n ≡ (48 + n) ∷ []
unfolding show_number digits
number_small n h = rw (lt-ltb n 10 h, digits)

pub number_large : (n : ℕ) → 10 ≤ n → show_number n ≡ show_number (n / 10) ++ (48 + n % 10) ∷ []
unfolding show_number digits
number_large n h = rw (le-ltb n 10 h, digits, digits_fuel n (suc (n / 10)) (n / 10) (omega arith) (omega arith))

pub count_small : (n : ℕ) → n < 10 → length (show_number n) ≡ 1
count_small n h = ap length (number_small n h)

pub count_large : (n : ℕ) → 10 ≤ n → length (show_number n) ≡ length (show_number (n / 10)) + 1
count_large n h = ap length (number_large n h) ∙ length-append (show_number (n / 10)) ((48 + n % 10) ∷ [])

-- runs of stores, one behind the other
pub sets_append : (l : List ℕ) (i : ℕ) (p q : List ℕ) → sets (sets l i p) (i + length p) q ≡ sets l i (p ++ q)
sets_append l i [] q = let e : i + 0 ≡ i = omega arith in ap (λ (k : ℕ). sets l k q) e
sets_append l i (a ∷ p) q =
    let e : i + suc (length p) ≡ suc i + length p = omega arith in
    ap (λ (k : ℕ). sets (sets (set l i a) (suc i) p) k q) e ∙ sets_append (set l i a) (suc i) p q

-- a store behind a run may come first
pub set_sets : (l : List ℕ) (i j : ℕ) (p : List ℕ) (a : ℕ) → i + length p ≤ j → sets (set l j a) i p ≡ set (sets l i p) j a
set_sets l i j [] a h = refl
set_sets l i j (b ∷ p) a h =
    ap (λ (s : List ℕ). sets s (suc i) p) (set_comm l j i a b (omega arith)) ∙ set_sets (set l i b) (suc i) j p a (omega arith)

-- the digits written from the last one on
pub digit_large : (l : List ℕ) (at n i : ℕ) → 10 ≤ n → at + length (show_number n) ≡ i
    → sets (set l (i - 1) (48 + n % 10)) at (show_number (n / 10)) ≡ sets l at (show_number n)
digit_large l at n i h e =
    let c = count_large n h in
    let w : at + length (show_number (n / 10)) ≡ i - 1 = omega arith in
    set_sets l at (i - 1) (show_number (n / 10)) (48 + n % 10) (omega arith)
    ∙ ap (λ (k : ℕ). set (sets l at (show_number (n / 10))) k (48 + n % 10)) (sym w)
    ∙ sets_append l at (show_number (n / 10)) ((48 + n % 10) ∷ [])
    ∙ ap (λ (s : List ℕ). sets l at s) (sym (number_large n h))

pub digit_small : (l : List ℕ) (at n i : ℕ) → n < 10 → at + length (show_number n) ≡ i → set l (i - 1) (48 + n) ≡ sets l at (show_number n)
digit_small l at n i h e =
    let c = count_small n h in
    let w : i - 1 ≡ at = omega arith in
    ap (λ (k : ℕ). set l k (48 + n)) w ∙ ap (λ (s : List ℕ). sets l at s) (sym (number_small n h))

-- at the place i all from i on is written: the number's digits before it are still to come, and at the first place none is
pub record Digits (l l' : List ℕ) (at n i m : ℕ) : Type 0 where
  pub from : at ≤ i
  pub still : at < i → (at + length (show_number m) ≡ i) × (sets l' at (show_number m) ≡ sets l at (show_number n))
  pub done : i ≡ at → l' ≡ sets l at (show_number n)

some_digit : (n : ℕ) → 0 < length (show_number n)
some_digit n = go (ltb n 10) refl
  where
    go : (b : Bool) → ltb n 10 ≡ b → 0 < length (show_number n)
    go true e = omega (arith, count_small n (ltb-true n 10 e))
    go false e = omega (arith, count_large n (ltb-false n 10 e))

pub digits_start : (l : List ℕ) (at n : ℕ) {c : ℕ} → c ≡ length (show_number n) → Digits l l at n (at + c) n
digits_start l at n e =
    let s = some_digit n in
    record { from = omega arith; still = λ _. (omega arith, refl); done = λ z. absurd (omega arith) }

pub digits_step : (l l' : List ℕ) (at n i m : ℕ) → at < i → Digits l l' at n i m → Digits l (set l' (i - 1) (48 + m % 10)) at n (i - 1) (m / 10)
digits_step l l' at n i m p d = go (ltb m 10) refl
  where
    go : (b : Bool) → ltb m 10 ≡ b → Digits l (set l' (i - 1) (48 + m % 10)) at n (i - 1) (m / 10)
    go true e =
        let h = ltb-true m 10 e in
        let s = d.still p in
        let c = count_small m h in
        let r : m % 10 ≡ m = omega arith in
        record {
          from = omega arith;
          still = λ z. absurd (omega arith);
          done = λ _. rw r (digit_small l' at m i h s.0 ∙ s.1);
        }
    go false e =
        let h = ltb-false m 10 e in
        let s = d.still p in
        let c = count_large m h in
        let o = some_digit (m / 10) in
        record {
          from = omega arith;
          still = λ _. (omega arith, digit_large l' at m i h s.0 ∙ s.1);
          done = λ z. absurd (omega arith);
        }

-- how many digits a number has, by its order of magnitude
pub count_power : (k n : ℕ) → 10 ^ k ≤ n → n < 10 * 10 ^ k → length (show_number n) ≡ k + 1
count_power zero n p q = count_small n (omega arith)
count_power (suc k) n p q = omega (arith, count_large n (omega arith), count_power k (n / 10) (omega arith) (omega arith))

-- a word copied to its place
pub word_ran : (l w : Bytes) (at : ℕ) {w' : Bytes} → at + length w ≤ length l → w' ≡ w → Ran l at w (at + length w) (put_mid at (at + length w - at) l w')
word_ran l w at {w'} h e =
    let k : at + (at + length w - at) ≡ at + length w = omega arith in
    record { to = refl; left = rw (e, drop-drop (at + length w - at) at l, k) (sym (sets-eq w l at h ∙ append_assoc (take at l) w (drop (at + length w) l))) }

-- pieces written one behind the other
pub then : {l l' l'' p q : Bytes} {at i r : ℕ} → Ran l at p i l' → Ran l' i q r l'' → Ran l at (p ++ q) r l''
then {l} {l'} {l''} {p} {q} {at} {i} {r} a b =
    record {
      to = omega (arith, a.to, b.to, length-append p q);
      left = b.left ∙ rw (a.left, a.to, sets_append l at p q);
    }

pub ran_length : {l l' p : Bytes} {at r : ℕ} → Ran l at p r l' → length l' ≡ length l
ran_length {l} {l'} {p} {at} a = ap length a.left ∙ length-sets l at p

-- the room that is left for what follows
pub room : {l l' p : Bytes} {at i : ℕ} (q : Bytes) → Ran l at p i l' → at + length (p ++ q) ≤ length l → i + length q ≤ length l'
room {l} {l'} {p} q a h = omega (arith, a.to, ran_length a, length-append p q)

pub room_first : (p q : Bytes) (at : ℕ) {n : ℕ} → at + length (p ++ q) ≤ n → at + length p ≤ n
room_first p q at h = omega (arith, length-append p q)

pub cast : {l l' p q : Bytes} {at r : ℕ} → p ≡ q → Ran l at p r l' → Ran l at q r l'
cast e a = rw (← e) a

-- a line is its head and what ends it
pieces : (digit m start n : ℕ) (t : Bytes)
    → (40 ∷ 69 ∷ 48 ∷ 53 ∷ 48 ∷ digit ∷ 32 ∷ show_number m ++ (32 ∷ show_number start ++ (32 ∷ show_number n ++ t))) ++ (10 ∷ [])
    ≡ line_head digit m start n ++ (t ++ (10 ∷ []))
unfolding line_head field
pieces digit m start n t = simp append_assoc

detail_pieces : (m start n : ℕ) (d : Detail) → line (record { number = m; start = start; name = n; detail = d }) ≡ line_head (code_digit d) m start n ++ detail_end d
unfolding line detail_end show_report show_form show_rest
detail_pieces m start n detail.Wire = pieces 49 m start n _
detail_pieces m start n detail.Reg = pieces 53 m start n _
detail_pieces m start n detail.Mem = pieces 53 m start n _
detail_pieces m start n detail.Arrow = pieces 53 m start n _
detail_pieces m start n detail.Many = pieces 49 m start n _
detail_pieces m start n detail.Never = pieces 50 m start n _
detail_pieces m start n (detail.Gap b) = pieces 50 m start n _
detail_pieces m start n detail.NoBlock = pieces 51 m start n _
detail_pieces m start n detail.Blocks = pieces 51 m start n _
detail_pieces m start n detail.MemBlocks = pieces 51 m start n _

pub line_pieces : (x : Report) → line x ≡ line_head (code_digit x.detail) x.number x.start x.name ++ detail_end x.detail
line_pieces x = detail_pieces x.number x.start x.name x.detail

head_length : (digit m start n : ℕ) → length (line_head digit m start n) ≡ 9 + length (show_number m) + length (show_number start) + length (show_number n)
unfolding line_head field
head_length digit m start n = simp length-append (omega arith)

pub line_length : (x : Report) → length (line x) ≡ 9 + length (show_number x.number) + length (show_number x.start) + length (show_number x.name) + length (detail_end x.detail)
line_length x =
    ap length (line_pieces x) ∙ length-append (line_head (code_digit x.detail) x.number x.start x.name) (detail_end x.detail)
    ∙ omega (arith, head_length (code_digit x.detail) x.number x.start x.name)

pub gap_length : (b : ℕ) → length (detail_end (detail.Gap b)) ≡ 7 + length (show_number b)
unfolding detail_end show_rest
gap_length b = simp length-append (omega arith)

-- an index, below zero and from zero on
unbiased_low : (v : ℕ) → v < 2147483648 → unbiased v ≡ negsuc (2147483647 - v)
unfolding unbiased
unbiased_low v h = rw (lt-ltb v 2147483648 h, unbiased)

unbiased_high : (v : ℕ) → 2147483648 ≤ v → unbiased v ≡ pos (v - 2147483648)
unfolding unbiased
unbiased_high v h = rw (le-ltb v 2147483648 h, unbiased)

pub index_low : (v : ℕ) → v < 2147483648 → index_bytes (Some v) ≡ 45 ∷ show_number (2147483648 - v)
unfolding show_int
index_low v h =
    let e : suc (2147483647 - v) ≡ 2147483648 - v = omega arith in
    ap show_int (unbiased_low v h) ∙ ap (λ (k : ℕ). 45 ∷ show_number k) e

pub index_high : (v : ℕ) → 2147483648 ≤ v → index_bytes (Some v) ≡ show_number (v - 2147483648)
unfolding show_int
index_high v h = ap show_int (unbiased_high v h)

-- a node and the space before it
pub signal_bytes : (n : ℕ) → walk_node (node.Signal n) ≡ field n
unfolding walk_node node_bytes show_node field
signal_bytes n = refl

pub node_output : (i : ℕ) (x : Option ℕ) (o : ℕ) → walk_node (node.Output i x o) ≡ output_bytes i x o
unfolding walk_node node_bytes show_node output_bytes field show_form show_rest
node_output i x o = refl

pub output_length : (i : ℕ) (x : Option ℕ) (o : ℕ) → length (output_bytes i x o) ≡ 7 + length (show_number i) + length (index_bytes x) + length (show_number o)
unfolding output_bytes field
output_length i x o = simp length-append (omega arith)

pub walk_head_length : (m start : ℕ) → length (walk_head m start) ≡ 14 + length (show_number m) + length (show_number start)
unfolding walk_head field
walk_head_length m start = simp length-append (omega arith)

pub refused_pieces : (a b : ℕ) → refused_line a b ≡ 40 ∷ 114 ∷ 101 ∷ 102 ∷ 117 ∷ 115 ∷ 101 ∷ 100 ∷ field a ++ (field b ++ (41 ∷ 10 ∷ []))
unfolding refused_line field show_form show_rest
refused_pieces a b = simp append_assoc

refused_rest : (a b : ℕ) → 8 + length (field a ++ (field b ++ (41 ∷ 10 ∷ []))) ≡ 12 + length (show_number a) + length (show_number b)
unfolding field
refused_rest a b = simp length-append (omega arith)

pub refused_length : (a b : ℕ) → length (refused_line a b) ≡ 12 + length (show_number a) + length (show_number b)
refused_length a b = ap length (refused_pieces a b) ∙ omega (arith, refused_rest a b)

-- what a writer leaves is what the definition says
placed_true : (l p : Bytes) (at : ℕ) → leb (at + length p) (length l) ≡ true → placed l at p ≡ put_by (Some (at + length p)) (take at l ++ p ++ drop (at + length p) l)
unfolding placed
placed_true l p at t = rw (t, placed)

pub put_fits : {l l' p : Bytes} {at r : ℕ} (n : ℕ) → n ≡ length p → leb (at + n) (length l) ≡ true → Ran l at p r l' → put_by (Some r) l' ≡ placed l at p
put_fits {l} {l'} {p} {at} {r} n e f a =
    let t : leb (at + length p) (length l) ≡ true = ap (λ (k : ℕ). leb (at + k) (length l)) (sym e) ∙ f in
    rw (a.to, a.left, sets-eq p l at (leb-true (at + length p) (length l) t)) (sym (placed_true l p at t))

pub put_full : (l p : Bytes) (at n : ℕ) → n ≡ length p → leb (at + n) (length l) ≡ false → put_by None l ≡ placed l at p
unfolding placed
put_full l p at n e f =
    let t : leb (at + length p) (length l) ≡ false = ap (λ (k : ℕ). leb (at + k) (length l)) (sym e) ∙ f in
    sym (rw (t, placed))

pub has_room : (p : Bytes) (at n len : ℕ) → n ≡ length p → leb (at + n) len ≡ true → at + length p ≤ len
has_room p at n len e f = let l = leb-true (at + n) len f in omega arith

pub fits_law : (len at n : ℕ) → at ≤ len → leb n (len - at) ≡ leb (at + n) len
fits_law len at n h = go (leb n (len - at)) refl
  where
    go : (b : Bool) → leb n (len - at) ≡ b → leb n (len - at) ≡ leb (at + n) len
    go true e = let l = leb-true n (len - at) e in e ∙ sym (le-leb (at + n) len (omega arith))
    go false e = let l = leb-false n (len - at) e in e ∙ sym (lt-leb (at + n) len (omega arith))

-- a byte and what follows
pub byte_first : (l : Bytes) (at b : ℕ) (p : Bytes) {r : ℕ} {l' : Bytes} → Ran (set l at b) (at + 1) p r l' → Ran l at (b ∷ p) r l'
byte_first l at b p {r} {l'} a =
    record {
      to = omega (arith, a.to);
      left = a.left ∙ ap (λ (k : ℕ). sets (set l at b) k p) (add-one at);
    }

pub field_length : (n : ℕ) → length (field n) ≡ suc (length (show_number n))
unfolding field
field_length n = refl

-- a loop report's line is its head, each node and its end
unfoldable pub walk_nodes : List Node → Bytes
walk_nodes [] = []
walk_nodes (n ∷ ns) = walk_node n ++ walk_nodes ns

abbrev pub nodes_of : List Node → List edge.Node
nodes_of [] = []
nodes_of (n ∷ ns) = node_of n ∷ nodes_of ns

walk_rest : (ns : List Node) (t : Bytes) → show_rest (show_nodes (nodes_of ns)) ++ t ≡ walk_nodes ns ++ (41 ∷ t)
unfolding walk_nodes walk_node node_bytes show_rest show_nodes
walk_rest [] t = refl
walk_rest (n ∷ ns) t = simp append_assoc (ap (λ (s : Bytes). 32 ∷ show_node (node_of n) ++ s) (walk_rest ns t))

walk_pieces : (m start : ℕ) (s : Bytes)
    → (40 ∷ 69 ∷ 48 ∷ 53 ∷ 48 ∷ 52 ∷ 32 ∷ show_number m ++ (32 ∷ show_number start ++ (32 ∷ (40 ∷ 119 ∷ 97 ∷ 108 ∷ 107 ∷ s) ++ (41 ∷ [])))) ++ (10 ∷ [])
    ≡ walk_head m start ++ (s ++ (41 ∷ 10 ∷ []))
unfolding walk_head field
walk_pieces m start s = simp append_assoc

pub loop_pieces : (m start : ℕ) (ns : List Node) → show_report (loop_report m start (nodes_of ns)) ++ (10 ∷ []) ≡ walk_head m start ++ (walk_nodes ns ++ walk_tail)
unfolding show_report show_form show_rest
loop_pieces m start ns = walk_pieces m start (show_rest (show_nodes (nodes_of ns))) ∙ ap (λ (t : Bytes). walk_head m start ++ t) (walk_rest ns (41 ∷ 10 ∷ []))

pub gap_pieces : (b : ℕ) → detail_end (detail.Gap b) ≡ 32 ∷ 103 ∷ 97 ∷ 112 ∷ field b ++ (41 ∷ 10 ∷ [])
unfolding detail_end show_rest field
gap_pieces b = simp append_assoc

pub gap_room : (at : ℕ) {n : ℕ} (b : ℕ) → at + length (detail_end (detail.Gap b)) ≤ n → at + length (32 ∷ 103 ∷ 97 ∷ 112 ∷ field b ++ (41 ∷ 10 ∷ [])) ≤ n
gap_room at b h = rw (gap_pieces b) at h
