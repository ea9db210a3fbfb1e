-- What is refused because of the text: faults 1 to 7 and their line. 01: Refused because of the text; 02, U1: 8 no longer occurs.
-- To a reader: definitions to believe; refusal, written and decode are pinned by Reading.Reading (proved in proofs/Reading).
use Rattle.std.specs.Prelude.{Bool, true, false, ◌&&◌, ◌||◌, not as opposite, List, [], ◌∷◌, ℕ, zero, suc, max, length, eqb, ltb, leb, ℤ, pos, negsuc}
use Rattle.spec.specs.Bytes.{Bytes, same_bytes, onto}
use Rattle.spec.specs.Syntax.{name_bound, module_bound, number_bound, Expr, Exprs, lit, truth, name, field, index, if_else, unary, binary, all, Width, bit, opaque, bits, signed, Index, whole, at_bit, high_low, Stmt, Stmts, set, default, loop, when, Place, single, at, Conn, Inst, Item, Items, port, wire, reg, mem, const, drive, on, inst, repeat, const_if, Header, kind, val, Design, Line, module_line, header_line, item_line}
use Rattle.spec.specs.Show.{show_line, design_lines}
use Rattle.spec.specs.Decode.{depth_limit, decode_line}

-- 01, Refused because of the text, 1: over 32,768 bytes.
abbrev pub text_limit : ℕ
text_limit = 32768

-- 01, Refused because of the text, 7: a 33rd module.
abbrev pub module_limit : ℕ
module_limit = 32

-- 01, The line: the lines of a text, without their line feeds.
unfoldable pub lines : Bytes → List Bytes
lines [] = []
lines (c ∷ s) = elim (eqb c 10) [ true ↦ [] ∷ lines s | false ↦ onto c (lines s) ]

-- 01, Refused because of the text, 2; The line: bytes 20 to 7E hexadecimal and line feed 0A.
abbrev pub in_set : ℕ → Bool
in_set c = eqb c 10 || leb 32 c && leb c 126

-- 01, Refused because of the text: a number and a line, or no fault.
pub data Verdict : Type 0 where
  well_formed : Verdict
  refused : (number line : ℕ) → Verdict

-- 01, Refused because of the text, 2: a byte outside the set, on the line of the first one; n is the line that the bytes begin in.
unfoldable pub byte_fault : ℕ → Bytes → Verdict
byte_fault n [] = well_formed
byte_fault n (c ∷ s) = elim (in_set c) [ true ↦ byte_fault (elim (eqb c 10) [ true ↦ suc n | false ↦ n ]) s | false ↦ refused 2 n ]

-- 01, Refused because of the text, 2: no final line feed; an empty text is accepted.
unfoldable pub ends_in_feed : Bytes → Bool
ends_in_feed [] = true
ends_in_feed (c ∷ []) = eqb c 10
ends_in_feed (c ∷ d ∷ s) = ends_in_feed (d ∷ s)

-- 01, Refused because of the text, 2 over the whole text: line of the first such byte, else the last line.
unfoldable pub set_fault : Bytes → Verdict
set_fault s =
    elim (byte_fault 1 s) [
      | refused k n ↦ refused k n
      | well_formed ↦ elim (ends_in_feed s) [ true ↦ well_formed | false ↦ refused 2 (length (lines s)) ]
    ]

-- 01, Refused because of the text, 3: not one closed form to the last byte, or deeper than the limit; k brackets are open.
unfoldable pub closes : ℕ → Bytes → Bool
closes k [] = false
closes k (c ∷ s) =
    elim (eqb c 40) [
      | true ↦ ltb k depth_limit && closes (suc k) s
      | false ↦ elim (eqb c 41) [
        | true ↦ elim k [ zero ↦ false | suc j ↦ elim j [ zero ↦ eqb (length s) 0 | suc i ↦ closes (suc i) s ] ]
        | false ↦ closes k s
      ]
    ]

-- 01, Refused because of the text, 3: not one closed form from first byte to last, or 33 deep.
unfoldable pub one_form : Bytes → Bool
one_form [] = false
one_form (c ∷ s) = eqb c 40 && closes 1 s

-- 01, Refused because of the text, 4: unknown head, wrong parts, a misplaced space, badly written number: the line is not the one that
-- shows its tree.
unfoldable pub written : Bytes → Bool
written s = same_bytes s (show_line (decode_line s))

-- 01, Refused because of the text, 5: number out of range, in E.
unfoldable mutual
  pub expr_in_range : Expr → Bool
  expr_in_range (lit n) = ltb n number_bound
  expr_in_range (truth b) = true
  expr_in_range (name n) = ltb n name_bound
  expr_in_range (field e n) = expr_in_range e && ltb n name_bound
  expr_in_range (index e i) = expr_in_range e && expr_in_range i
  expr_in_range (if_else c a b) = expr_in_range c && expr_in_range a && expr_in_range b
  expr_in_range (unary o a) = expr_in_range a
  expr_in_range (binary o a b) = expr_in_range a && expr_in_range b
  expr_in_range (all es) = exprs_in_range es

  pub exprs_in_range : Exprs → Bool
  exprs_in_range Exprs.none = true
  exprs_in_range (Exprs.more e es) = expr_in_range e && exprs_in_range es

-- 01, Refused because of the text, 5: in T.
unfoldable pub width_in_range : Width → Bool
width_in_range bit = true
width_in_range opaque = true
width_in_range (bits e) = expr_in_range e
width_in_range (signed e) = expr_in_range e

-- 01, Refused because of the text, 5: in LV.
unfoldable pub index_in_range : Index → Bool
index_in_range whole = true
index_in_range (at_bit e) = expr_in_range e
index_in_range (high_low h l) = expr_in_range h && expr_in_range l

-- 01, Refused because of the text, 5: in S.
unfoldable mutual
  pub stmt_in_range : Stmt → Bool
  stmt_in_range (set n start) = ltb n name_bound && ltb start number_bound
  stmt_in_range (default n) = ltb n name_bound
  stmt_in_range (loop ss) = stmts_in_range ss
  stmt_in_range (when ss ts) = stmts_in_range ss && stmts_in_range ts

  pub stmts_in_range : Stmts → Bool
  stmts_in_range Stmts.none = true
  stmts_in_range (Stmts.more s ss) = stmt_in_range s && stmts_in_range ss

-- 01, Refused because of the text, 5: in X.
unfoldable pub place_in_range : Place → Bool
place_in_range single = true
place_in_range (at e) = expr_in_range e

-- 01, Refused because of the text, 5: in C.
unfoldable pub conns_in_range : List Conn → Bool
conns_in_range [] = true
conns_in_range (c ∷ cs) = ltb c.port name_bound && expr_in_range c.signal && conns_in_range cs

-- 01, Refused because of the text, 5: in an instance.
unfoldable pub inst_in_range : Inst → Bool
inst_in_range i =
    ltb i.name name_bound && place_in_range i.place && ltb i.«module» module_bound && ltb i.start number_bound
    && conns_in_range i.conns

-- 01, Refused because of the text, 5: in an item.
unfoldable mutual
  pub item_in_range : Item → Bool
  item_in_range (port d n w start) = ltb n name_bound && width_in_range w && ltb start number_bound
  item_in_range (wire n e start) = ltb n name_bound && expr_in_range e && ltb start number_bound
  item_in_range (reg n start) = ltb n name_bound && ltb start number_bound
  item_in_range (mem n start) = ltb n name_bound && ltb start number_bound
  item_in_range (const n e) = ltb n name_bound && expr_in_range e
  item_in_range (drive lv e) = ltb lv.name name_bound && ltb lv.start number_bound && index_in_range lv.index && expr_in_range e
  item_in_range (on start ss) = ltb start number_bound && stmts_in_range ss
  item_in_range (inst i) = inst_in_range i
  item_in_range (repeat n low high is) = ltb n name_bound && expr_in_range low && expr_in_range high && items_in_range is
  item_in_range (const_if c is js) = expr_in_range c && items_in_range is && items_in_range js

  pub items_in_range : Items → Bool
  items_in_range Items.none = true
  items_in_range (Items.more i is) = item_in_range i && items_in_range is

-- 01, The line: INT −2,147,483,648 to 2,147,483,647; negsuc n is −(n + 1).
unfoldable pub in_int : ℤ → Bool
in_int (pos n) = ltb n number_bound
in_int (negsuc n) = ltb n number_bound

-- 01, Refused because of the text, 5: in a line. Decision: M of `module` has no range.
unfoldable pub line_in_range : Line → Bool
line_in_range (module_line m b) = true
line_in_range (header_line (kind n k)) = ltb n name_bound
line_in_range (header_line (val n i)) = ltb n name_bound && in_int i
line_in_range (item_line i) = item_in_range i

-- 01, Refused because of the text, 6 and 7: what was read before a line: how many modules, whether the last has an item, the names
-- that have a kind in it.
pub record Before : Type 0 where
  pub modules : ℕ
  pub has_item : Bool
  pub kinds : List ℕ

-- 01, Refused because of the text, 6: before any line.
abbrev pub at_start : Before
at_start = record { modules = 0; has_item = false; kinds = [] }

-- 01, Refused because of the text, 6 and 7: what was read when a line has been read too.
unfoldable pub after_line : Before → Line → Before
after_line b (module_line m bound) = record { modules = suc b.modules; has_item = false; kinds = [] }
after_line b (header_line (kind n k)) = record { modules = b.modules; has_item = b.has_item; kinds = n ∷ b.kinds }
after_line b (header_line (val n i)) = b
after_line b (item_line i) = record { modules = b.modules; has_item = true; kinds = b.kinds }

-- 01, Refused because of the text, 6: before any module, M not the next number, `kind` or `val` after an item.
unfoldable pub in_place : Before → Line → Bool
in_place b (module_line m bound) = eqb m b.modules
in_place b (header_line h) = ltb 0 b.modules && opposite b.has_item
in_place b (item_line i) = ltb 0 b.modules

-- 01, Refused because of the text, 7: whether a name is among those.
unfoldable pub has_name : ℕ → List ℕ → Bool
has_name n [] = false
has_name n (m ∷ l) = eqb n m || has_name n l

-- 01, Refused because of the text, 7: a second kind for a name in its module, or a 33rd module. Decision: the same kind given twice is
-- a second one.
unfoldable pub first_kind : Before → Line → Bool
first_kind b (module_line m bound) = ltb b.modules module_limit
first_kind b (header_line (kind n k)) = opposite (has_name n b.kinds)
first_kind b (header_line (val n i)) = true
first_kind b (item_line i) = true

-- 01, Refused because of the text, Order; decision: the lowest fault, 5 to 7, of a line whose tree is l; 0 for none.
unfoldable pub tree_fault : Before → Line → ℕ
tree_fault b l =
    elim (line_in_range l) [
      | false ↦ 5
      | true ↦ elim (in_place b l) [
        | false ↦ 6
        | true ↦ elim (first_kind b l) [
          | false ↦ 7
          | true ↦ 0
        ]
      ]
    ]

-- 01, Refused because of the text, Order; decision: the lowest fault, 3 to 7, of a line; 0 for none.
unfoldable pub line_fault : Before → Bytes → ℕ
line_fault b s =
    elim (one_form s) [
      | false ↦ 3
      | true ↦ elim (written s) [ false ↦ 4 | true ↦ tree_fault b (decode_line s) ]
    ]

-- 01, Refused because of the text, Order: line by line 3 to 7; n is the number of the first line.
unfoldable pub lines_fault : Before → ℕ → List Bytes → Verdict
lines_fault b n [] = well_formed
lines_fault b n (s ∷ l) =
    elim (line_fault b s) [ zero ↦ lines_fault (after_line b (decode_line s)) (suc n) l | suc k ↦ refused (suc k) n ]

-- 01, Refused because of the text, Order: 1, then 2 over the whole text, then line by line 3 to 7. 1 has line 0.
unfoldable pub refusal : Bytes → Verdict
refusal text =
    elim (ltb text_limit (length text)) [
      | true ↦ refused 1 0
      | false ↦ elim (set_fault text) [
        | refused k n ↦ refused k n
        | well_formed ↦ lines_fault at_start 1 (lines text)
      ]
    ]

-- 01, The line: the trees of a text's lines.
unfoldable pub decode_lines : List Bytes → List Line
decode_lines [] = []
decode_lines (s ∷ l) = decode_line s ∷ decode_lines l

-- 01, The line: what lines make: the header and items of the module before them, and the modules among them.
pub record Gathered : Type 0 where
  pub header : List Header
  pub items : Items
  pub modules : Design

-- 01, The line: header and items go to the module before them.
unfoldable pub gather : List Line → Gathered
gather [] = record { header = []; items = Items.none; modules = [] }
gather (module_line m b ∷ ls) =
    let g = gather ls in
    record { header = []; items = Items.none; modules = record { bound = b; header = g.header; items = g.items } ∷ g.modules }
gather (header_line h ∷ ls) = let g = gather ls in record { header = h ∷ g.header; items = g.items; modules = g.modules }
gather (item_line i ∷ ls) = let g = gather ls in record { header = g.header; items = Items.more i g.items; modules = g.modules }

-- 01, The line: the design that a text is.
unfoldable pub decode : Bytes → Design
decode text = (gather (decode_lines (lines text))).modules

-- 01, The line, to 32 brackets deep: how many an E is.
unfoldable mutual
  pub expr_depth : Expr → ℕ
  expr_depth (lit n) = 0
  expr_depth (truth b) = 0
  expr_depth (name n) = 1
  expr_depth (field e n) = suc (expr_depth e)
  expr_depth (index e i) = suc (max (expr_depth e) (expr_depth i))
  expr_depth (if_else c a b) = suc (max (expr_depth c) (max (expr_depth a) (expr_depth b)))
  expr_depth (unary o a) = suc (expr_depth a)
  expr_depth (binary o a b) = suc (max (expr_depth a) (expr_depth b))
  expr_depth (all es) = suc (exprs_depth es)

  pub exprs_depth : Exprs → ℕ
  exprs_depth Exprs.none = 0
  exprs_depth (Exprs.more e es) = max (expr_depth e) (exprs_depth es)

-- 01, The line, to 32 brackets deep: T.
unfoldable pub width_depth : Width → ℕ
width_depth bit = 0
width_depth opaque = 0
width_depth (bits e) = suc (expr_depth e)
width_depth (signed e) = suc (expr_depth e)

-- 01, The line, to 32 brackets deep: the E of LV.
unfoldable pub index_depth : Index → ℕ
index_depth whole = 0
index_depth (at_bit e) = expr_depth e
index_depth (high_low h l) = max (expr_depth h) (expr_depth l)

-- 01, The line, to 32 brackets deep: S.
unfoldable mutual
  pub stmt_depth : Stmt → ℕ
  stmt_depth (set n start) = 1
  stmt_depth (default n) = 1
  stmt_depth (loop ss) = suc (stmts_depth ss)
  stmt_depth (when ss ts) = suc (suc (max (stmts_depth ss) (stmts_depth ts)))

  pub stmts_depth : Stmts → ℕ
  stmts_depth Stmts.none = 0
  stmts_depth (Stmts.more s ss) = max (stmt_depth s) (stmts_depth ss)

-- 01, The line, to 32 brackets deep: X.
unfoldable pub place_depth : Place → ℕ
place_depth single = 0
place_depth (at e) = expr_depth e

-- 01, The line, to 32 brackets deep: C.
unfoldable pub conns_depth : List Conn → ℕ
conns_depth [] = 0
conns_depth (c ∷ cs) = max (suc (expr_depth c.signal)) (conns_depth cs)

-- 01, The line, to 32 brackets deep: an item.
unfoldable mutual
  pub item_depth : Item → ℕ
  item_depth (port d n w start) = suc (width_depth w)
  item_depth (wire n e start) = suc (expr_depth e)
  item_depth (reg n start) = 1
  item_depth (mem n start) = 1
  item_depth (const n e) = suc (expr_depth e)
  item_depth (drive lv e) = suc (max (suc (index_depth lv.index)) (expr_depth e))
  item_depth (on start ss) = suc (stmts_depth ss)
  item_depth (inst i) = suc (max (place_depth i.place) (conns_depth i.conns))
  item_depth (repeat n low high is) = suc (max (expr_depth low) (max (expr_depth high) (items_depth is)))
  item_depth (const_if c is js) = suc (max (expr_depth c) (suc (max (items_depth is) (items_depth js))))

  pub items_depth : Items → ℕ
  items_depth Items.none = 0
  items_depth (Items.more i is) = max (item_depth i) (items_depth is)

-- 01, The line, to 32 brackets deep: a line.
unfoldable pub line_depth : Line → ℕ
line_depth (module_line m b) = 1
line_depth (header_line h) = 1
line_depth (item_line i) = item_depth i

-- 01, The line: each line of a design, in turn, is at most so many brackets deep and has none of the faults 5 to 7.
unfoldable pub lines_in_range : Before → List Line → Bool
lines_in_range b [] = true
lines_in_range b (l ∷ ls) = leb (line_depth l) depth_limit && eqb (tree_fault b l) 0 && lines_in_range (after_line b l) ls

-- 01, The line: a design in range.
unfoldable pub in_range : Design → Bool
in_range d = lines_in_range at_start (design_lines 0 d)
