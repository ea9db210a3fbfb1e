-- The report text loses nothing (specs/Printing.antt): a line falls into its parts, and these are read back.
-- Assumes nothing.
use mathlib.Core.Path.{◌≡◌, refl, sym, ap, ap₂, ◌∙◌, subst}
use mathlib.Core.Logic.{◌⊎◌, inl, inr, ◌↔◌}
use mathlib.Core.Bool.{true, false}
use mathlib.Core.List.Memᴰ
use mathlib.Core.List.{List, [], ◌∷◌, ◌++◌, map, append_assoc}
use mathlib.Core.Option.{Option, some, none}
use Prim.Native.Nat.{ℕ, suc, ◌≤◌, ◌<◌}
use native.Mathlib.Omega.{arith}
use lib.ListN.{length, get_or, drop, length-append, length-drop}
use lib.Seq.{take-append_seam, drop-append_seam}
use lib.IntN.{ℤ, pos, negsuc}
use Rattle.spec.specs.Bytes.{Bytes, bytes, same_bytes, lookup_word, show_number, show_int, number, integer, show_rest, show_form, is_form, parts}
use Rattle.spec.specs.Refusal.{lines, decode}
use Rattle.spec.specs.Site.{wire_driven, reg_driven, mem_driven, arrow}
use Rattle.spec.specs.Edge.{Node, signal, inst_out}
use Rattle.spec.specs.Report.{Detail, misused, many, never, gap, no_block, blocks, mem_blocks, Report, report, loop_report, code_of, show_detail, show_node_index, show_node, show_nodes, show_report, show_reports}
use Rattle.spec.specs.Graph.{◌∈◌}
use Rattle.spec.specs.Check.{check_design, Checked, accept}
use Rattle.spec.specs.Printing.{Begins, report_code, code_mark, loop_mark, loop_mark_of, Printing, NoLoopLine, GivesReports, Acceptance}
use Rattle.spec.proofs.Numbers.{Between, Digits, number_digits, number_show, digits_no_form, digits_no_word, integer_show}
use Rattle.spec.proofs.Parts.{Word, Part, Parts, word_part, number_part, int_part, form_parts, form_part}
use Rattle.spec.proofs.Reading.{lines_feed}
use Rattle.spec.proofs.Refusals.{accepted_fits}

-- bytes that are one part and are read back as a
record Back {A : Type 0} (read : Bytes → A) (x : Bytes) (a : A) : Type 0 where
  deep : ℕ
  part : Part x deep
  back : read x ≡ a

-- parts that are read back as a
record Backs {A : Type 0} (read : List Bytes → A) (xs : List Bytes) (a : A) : Type 0 where
  deep : ℕ
  parts : Parts xs deep
  back : read xs ≡ a

-- ---- nodes

read_index : Bytes → Option ℤ
read_index s = elim (same_bytes s (bytes "-")) [ true ↦ none | false ↦ some (integer s) ]

no_minus : (s : Bytes) → Digits s → same_bytes (45 ∷ s) (bytes "-") ≡ false
unfolding same_bytes
no_minus [] p = absurd p
no_minus (c ∷ s) p = refl

index_back : (x : Option ℤ) → Back read_index (show_node_index x) x
unfolding read_index same_bytes show_int
index_back none = record { deep = 0; part = word_part (bytes "-") (omega arith); back = refl }
index_back (some (pos n)) =
    record {
      deep = 0;
      part = int_part (pos n);
      back = rw (digits_no_word (show_number n) (number_digits n) 45 [] (λ g h. omega arith), read_index) (ap some (integer_show (pos n)));
    }
index_back (some (negsuc n)) =
    record {
      deep = 0;
      part = int_part (negsuc n);
      back = rw (no_minus (show_number (suc n)) (number_digits (suc n)), read_index) (ap some (integer_show (negsuc n)));
    }

abbrev read_output : List Bytes → Node
read_output ps = inst_out (number (get_or ps 1 [])) (read_index (get_or ps 2 [])) (number (get_or ps 3 []))

read_node : Bytes → Node
read_node s = elim (is_form s) [ true ↦ read_output (parts s) | false ↦ signal (number s) ]

node_back : (n : Node) → Back read_node (show_node n) n
unfolding show_node read_node is_form show_form
node_back (signal n) =
    record { deep = 0; part = number_part n; back = rw (digits_no_form (show_number n) (number_digits n), read_node) (ap signal (number_show n)) }
node_back (inst_out i x o) =
    let b = index_back x in
    let w = word_part (bytes "u") (omega arith) in
    let ps = Parts.more (number_part i) (Parts.more b.part (Parts.more (number_part o) Parts.none)) in
    record {
      deep = _;
      part = form_part w ps _ refl;
      back = ap read_output (form_parts w ps) ∙ rw (number_show i, b.back, number_show o);
    }

nodes_back : (ns : List Node) → Backs (map read_node) (show_nodes ns) ns
unfolding show_nodes
nodes_back [] = record { deep = 0; parts = Parts.none; back = refl }
nodes_back (n ∷ ns) =
    let b = node_back n in
    let bs = nodes_back ns in
    record { deep = _; parts = Parts.more b.part bs.parts; back = ap₂ ◌∷◌ b.back bs.back }

-- ---- reports

details : List (Bytes × Detail)
details =
    (bytes "wire", misused wire_driven) ∷ (bytes "reg", misused reg_driven) ∷ (bytes "mem", misused mem_driven) ∷ (bytes "arrow", misused arrow)
    ∷ (bytes "many", many) ∷ (bytes "never", never) ∷ (bytes "none", no_block) ∷ (bytes "blocks", blocks) ∷ (bytes "memblocks", mem_blocks) ∷ []

abbrev read_detail : List Bytes → Detail
read_detail ps = lookup_word details (gap (number (get_or ps 1 []))) (get_or ps 0 [])

word_alone : (w : Bytes) → Word w → Parts (w ∷ []) 0
word_alone w p = Parts.more (word_part w p) Parts.none

detail_back : (d : Detail) → Backs read_detail (show_detail d) d
unfolding details lookup_word same_bytes
detail_back (misused wire_driven) = record { deep = 0; parts = word_alone (bytes "wire") (omega arith); back = refl }
detail_back (misused reg_driven) = record { deep = 0; parts = word_alone (bytes "reg") (omega arith); back = refl }
detail_back (misused mem_driven) = record { deep = 0; parts = word_alone (bytes "mem") (omega arith); back = refl }
detail_back (misused arrow) = record { deep = 0; parts = word_alone (bytes "arrow") (omega arith); back = refl }
detail_back many = record { deep = 0; parts = word_alone (bytes "many") (omega arith); back = refl }
detail_back never = record { deep = 0; parts = word_alone (bytes "never") (omega arith); back = refl }
detail_back (gap b) =
    record { deep = 0; parts = Parts.more (word_part (bytes "gap") (omega arith)) (Parts.more (number_part b) Parts.none); back = ap gap (number_show b) }
detail_back no_block = record { deep = 0; parts = word_alone (bytes "none") (omega arith); back = refl }
detail_back blocks = record { deep = 0; parts = word_alone (bytes "blocks") (omega arith); back = refl }
detail_back mem_blocks = record { deep = 0; parts = word_alone (bytes "memblocks") (omega arith); back = refl }

code_word : (d : Detail) → Word (code_of d)
code_word (misused wire_driven) = omega arith
code_word (misused reg_driven) = omega arith
code_word (misused mem_driven) = omega arith
code_word (misused arrow) = omega arith
code_word many = omega arith
code_word never = omega arith
code_word (gap b) = omega arith
code_word no_block = omega arith
code_word blocks = omega arith
code_word mem_blocks = omega arith

-- what stands fourth is a name, or the walk of a loop
abbrev read_parts : List Bytes → Report
read_parts ps =
    elim (is_form (get_or ps 3 [])) [
      | true ↦ loop_report (number (get_or ps 1 [])) (number (get_or ps 2 [])) (map read_node (drop 1 (parts (get_or ps 3 []))))
      | false ↦ report (number (get_or ps 1 [])) (number (get_or ps 2 [])) (number (get_or ps 3 [])) (read_detail (drop 4 ps))
    ]

read_report : Bytes → Report
read_report s = read_parts (parts s)

walk_back : (m start : ℕ) (ns : List Node) → parts (show_form (bytes "walk") (show_nodes ns)) ≡ bytes "walk" ∷ show_nodes ns → map read_node (show_nodes ns) ≡ ns
    → read_parts (bytes "E0504" ∷ show_number m ∷ show_number start ∷ show_form (bytes "walk") (show_nodes ns) ∷ []) ≡ loop_report m start ns
unfolding is_form show_form
walk_back m start ns e f = rw (number_show m, number_show start) (ap (λ x. loop_report m start (map read_node (drop 1 x))) e ∙ ap (loop_report m start) f)

report_back : (r : Report) → Back read_report (show_report r) r
unfolding show_report read_report
report_back (report m start n d) =
    let b = detail_back d in
    let w = word_part (code_of d) (code_word d) in
    let ps = Parts.more (number_part m) (Parts.more (number_part start) (Parts.more (number_part n) b.parts)) in
    record {
      deep = _;
      part = form_part w ps _ refl;
      back = ap read_parts (form_parts w ps) ∙ rw (digits_no_form (show_number n) (number_digits n), read_parts) (rw (number_show m, number_show start, number_show n, b.back));
    }
report_back (loop_report m start ns) =
    let b = nodes_back ns in
    let v = word_part (bytes "walk") (omega arith) in
    let w = word_part (bytes "E0504") (omega arith) in
    let ps = Parts.more (number_part m) (Parts.more (number_part start) (Parts.more (form_part v b.parts _ refl) Parts.none)) in
    record {
      deep = _;
      part = form_part w ps _ refl;
      back = ap read_parts (form_parts w ps) ∙ walk_back m start ns (form_parts v b.parts) b.back;
    }

-- ---- the text

lines_are : (rs : List Report) → lines (show_reports rs) ≡ map show_report rs
unfolding lines show_reports
lines_are [] = refl
lines_are (r ∷ rs) = lines_feed (show_report r) (show_reports rs) (report_back r).part.set ∙ ap (◌∷◌ (show_report r)) (lines_are rs)

all_back : (rs : List Report) → map read_report (map show_report rs) ≡ rs
all_back [] = refl
all_back (r ∷ rs) = ap₂ ◌∷◌ (report_back r).back (all_back rs)

pub same_text : (rs qs : List Report) → show_reports rs ≡ show_reports qs → rs ≡ qs
same_text rs qs e = sym (all_back rs) ∙ ap (map read_report) (sym (lines_are rs) ∙ ap lines e ∙ lines_are qs) ∙ all_back qs

-- ---- a line's first bytes

-- each line of the text is some report's
line_from : (rs : List Report) (s : Bytes) → s ∈ lines (show_reports rs) → (r : Report) × (r ∈ rs) × (show_report r ≡ s)
line_from rs s i = Memᴰ.of_map show_report rs (subst (λ l. s ∈ l) (lines_are rs) i)

-- no blank stands among bytes that are all above it, such as words and digits
no_blank : (low high : ℕ) → 32 < low → (s : Bytes) → Between low high s → ¬ (32 ∈ s)
no_blank low high h [] p i = Memᴰ.not-nil i
no_blank low high h (c ∷ s) p i = go (no_blank low high h s p.2) (Memᴰ.cases_cons i)
  where
    go : ¬ (32 ∈ s) → (32 ≡ c) ⊎ (32 ∈ s) → ⊥
    go f (inl e) = omega (arith, h, e, p.0)
    go f (inr j) = f j

number_no_blank : (n : ℕ) → ¬ (32 ∈ show_number n)
number_no_blank n = all_digits (show_number n) (number_digits n)
  where
    all_digits : (s : Bytes) → Digits s → ¬ (32 ∈ s)
    all_digits [] p = absurd p
    all_digits (c ∷ s) p = no_blank 48 57 (omega arith) (c ∷ s) p

-- what stands before the first blank is known
to_blank : (s t x y : Bytes) → ¬ (32 ∈ s) → ¬ (32 ∈ t) → s ++ 32 ∷ x ≡ t ++ 32 ∷ y → s ≡ t
to_blank [] [] x y p q e = refl
to_blank [] (c ∷ t) x y p q e = let f : 32 ≡ c = ap (λ z. get_or z 0 0) e in absurd (q (Memᴰ.head f))
to_blank (a ∷ s) [] x y p q e = let f : 32 ≡ a = ap (λ z. get_or z 0 0) (sym e) in absurd (p (Memᴰ.head f))
to_blank (a ∷ s) (c ∷ t) x y p q e =
    let f : a ≡ c = ap (λ z. get_or z 0 0) e in
    let g : s ++ 32 ∷ x ≡ t ++ 32 ∷ y = ap (drop 1) e in
    ap₂ ◌∷◌ f (to_blank s t x y (λ i. p (Memᴰ.tail i)) (λ i. q (Memᴰ.tail i)) g)

report_code_no_blank : (r : Report) → ¬ (32 ∈ report_code r)
report_code_no_blank (report m start n d) = no_blank 42 126 (omega arith) (code_of d) (code_word d)
report_code_no_blank (loop_report m start w) = no_blank 42 126 (omega arith) (bytes "E0504") (omega arith)

-- a report's line: a bracket, its code, a blank
behind_code : (r : Report) → (x : Bytes) × (show_report r ≡ 40 ∷ report_code r ++ 32 ∷ x)
unfolding show_report show_form show_rest
behind_code (report m start n d) = (_, refl)
behind_code (loop_report m start w) = (_, refl)

code_mark_parts : (code x : Bytes) → code_mark code ++ x ≡ 40 ∷ code ++ 32 ∷ x
code_mark_parts code x = ap (◌∷◌ 40) (append_assoc code (32 ∷ []) x)

module _ (rs : List Report) (code s : Bytes) where
  abbrev OfCode : Type 0
  OfCode = (r : Report) × (r ∈ rs) × (report_code r ≡ code) × (s ≡ show_report r)

  marked : OfCode → Begins (code_mark code) s
  marked (r, i, e, f) =
      let (x, g) = behind_code r in
      (x, f ∙ g ∙ ap (λ z. 40 ∷ z ++ 32 ∷ x) e ∙ sym (code_mark_parts code x))

  coded : ¬ (32 ∈ code) → (r : Report) → show_report r ≡ s → Begins (code_mark code) s → report_code r ≡ code
  coded h r e (y, f) =
      let (x, g) = behind_code r in
      to_blank (report_code r) code x y (report_code_no_blank r) h (ap (drop 1) (sym g ∙ e ∙ f ∙ code_mark_parts code y))

  code_lines : ¬ (32 ∈ code) → s ∈ lines (show_reports rs) → Begins (code_mark code) s ↔ OfCode
  code_lines h i = let (r, j, e) = line_from rs s i in (λ b. (r, j, coded h r e b, sym e), marked)

-- a line of another report has another digit there
other_line : (d : Detail) (x r : Bytes) → 40 ∷ code_of d ++ x ≡ loop_mark ++ r → ⊥
other_line d x r e = digit d (ap (λ s. get_or s 5 0) e)
  where
    digit : (d : Detail) → get_or (40 ∷ code_of d ++ x) 5 0 ≡ 52 → ⊥
    digit (misused wire_driven) h = omega arith
    digit (misused reg_driven) h = omega arith
    digit (misused mem_driven) h = omega arith
    digit (misused arrow) h = omega arith
    digit many h = omega arith
    digit never h = omega arith
    digit (gap b) h = omega arith
    digit no_block h = omega arith
    digit blocks h = omega arith
    digit mem_blocks h = omega arith

module _ (rs : List Report) (s : Bytes) where
  abbrev OfLoop : Type 0
  OfLoop = (m : ℕ) × (start : ℕ) × (w : List Node) × (loop_report m start w ∈ rs) × (s ≡ show_report (loop_report m start w))

  mark_of : OfLoop → Begins loop_mark s
  unfolding show_report show_form
  mark_of (m, start, w, i, e) = (_, e)

  loop_of : (r : Report) → r ∈ rs → show_report r ≡ s → Begins loop_mark s → OfLoop
  unfolding show_report show_form
  loop_of (report m start n d) i e b = absurd (other_line d _ b.0 (e ∙ b.1))
  loop_of (loop_report m start w) i e b = (m, start, w, i, sym e)

  loop_lines : s ∈ lines (show_reports rs) → Begins loop_mark s ↔ OfLoop
  loop_lines i = let (r, j, e) = line_from rs s i in (loop_of r j e, mark_of)

-- so a number is known from its bytes and the blank behind them
same_number : (m n : ℕ) (x y : Bytes) → show_number m ++ 32 ∷ x ≡ show_number n ++ 32 ∷ y → m ≡ n
same_number m n x y e = sym (number_show m) ∙ ap number (to_blank (show_number m) (show_number n) x y (number_no_blank m) (number_no_blank n) e) ∙ number_show n

-- a loop's line: its mark, its module's number, a blank
behind_number : (m start : ℕ) (w : List Node) → (x : Bytes) × (show_report (loop_report m start w) ≡ loop_mark ++ 32 ∷ show_number m ++ 32 ∷ x)
unfolding show_report show_form show_rest
behind_number m start w = (_, refl)

mark_parts : (m : ℕ) (r : Bytes) → loop_mark_of m ++ r ≡ loop_mark ++ 32 ∷ show_number m ++ 32 ∷ r
mark_parts m r = ap (λ z. loop_mark ++ 32 ∷ z) (append_assoc (show_number m) (32 ∷ []) r)

module _ (rs : List Report) (m : ℕ) (s : Bytes) where
  abbrev OfModule : Type 0
  OfModule = (start : ℕ) × (w : List Node) × (loop_report m start w ∈ rs) × (s ≡ show_report (loop_report m start w))

  module_of : OfLoop rs s → Begins (loop_mark_of m) s → OfModule
  module_of (n, start, w, i, e) (r, f) =
      let (x, g) = behind_number n start w in
      let h : show_number n ++ 32 ∷ x ≡ show_number m ++ 32 ∷ r = ap (drop 7) (sym g ∙ sym e ∙ f ∙ mark_parts m r) in
      let k = same_number n m x r h in
      (start, w, subst (λ z. loop_report z start w ∈ rs) k i, e ∙ ap (λ z. show_report (loop_report z start w)) k)

  module_lines : s ∈ lines (show_reports rs) → Begins (loop_mark_of m) s ↔ OfModule
  module_lines i = (
    λ b. module_of ((loop_lines rs s i).0 (_, b.1 ∙ mark_parts m b.0)) b,
    λ o. let (start, w, j, e) = o in let (x, g) = behind_number m start w in (x, e ∙ g ∙ sym (mark_parts m x)),
  )

pub printing : Printing
printing = record { lines_are = lines_are; same = same_text; code_lines = code_lines; loop_lines = loop_lines; module_lines = module_lines }

-- ---- the whole answer

silent : (rs : List Report) → NoLoopLine (show_reports rs) ↔ ((m start : ℕ) (w : List Node) → ¬ (loop_report m start w ∈ rs))
silent rs = (
  λ h m start w i.
      let s = show_report (loop_report m start w) in
      let j : s ∈ lines (show_reports rs) = subst (λ l. s ∈ l) (sym (lines_are rs)) (Memᴰ.map show_report i) in
      h s j (mark_of rs s (m, start, w, i, refl)),
  λ h s i b. let (m, start, w, j, e) = (loop_lines rs s i).0 b in h m start w j,
)

written : (c : Checked) (old : Bytes) → length (show_reports c.reports) ≤ length old → GivesReports (accept (show_reports c.reports) c old) old c.reports
written c old h =
    let said = show_reports c.reports in
    let behind = drop (length said) old in
    let t = take-append_seam said behind in
    record {
      written = refl;
      text = t;
      only = λ qs e. same_text qs c.reports (sym e ∙ t);
      counted = refl;
      long = length-append said behind ∙ omega (arith, length-drop (length said) old);
      past = drop-append_seam said behind;
      silent = subst (λ x. NoLoopLine x ↔ ((m start : ℕ) (w : List Node) → ¬ (loop_report m start w ∈ c.reports))) (sym t) (silent c.reports);
    }

pub acceptance : Acceptance
acceptance working text buffer e =
    let f = accepted_fits working text buffer e in
    subst (λ a. GivesReports a buffer (check_design (decode text)).reports) (sym f.1) (written (check_design (decode text)) buffer f.0)
