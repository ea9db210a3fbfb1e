-- What is refused because of the state, and what a refusal leaves. 01: Refused because of the state.
-- To a reader: definitions to believe (what passes a limit), and a statement, Refusals, proved in proofs/Refusals.
use Rattle.std.specs.Prelude.{◌≡◌, ◌↔◌, ◌⊎◌, Bool, true, false, ◌||◌, List, [], ◌∷◌, ◌++◌, map, ℕ, suc, ◌≤◌, ◌<◌, length, eqb, ℤ, pos, neg_ℤ, ◌+ℤ◌, ◌-ℤ◌, ◌*ℤ◌}
use Rattle.std.proofs.Math.Option.{some, none}
use Rattle.std.proofs.Math.ListN.{get_elem?}
use Rattle.spec.specs.Bytes.{Bytes}
use Rattle.spec.specs.Syntax.{Unary, neg, Binary, add, sub, mul, shl, Expr, Exprs, lit, truth, name, field, index, if_else, unary, binary, all, Index, Conn, Inst, Item, Items, port, wire, reg, mem, const, drive, on, inst, repeat, const_if, Width, Header, Module, Design}
use Rattle.spec.specs.Refusal.{in_int, well_formed, refused, refusal, decode, has_name}
use Rattle.spec.specs.Bits.{shift_up}
use Rattle.spec.specs.Value.{known, outside, Names, is_zero, value, Table, own_vals, const_names}
use Rattle.spec.specs.Collect.{Collected}
use Rattle.spec.specs.Site.{kind_of, Driving, an_output, a_wire, a_reg, a_mem, nothing, driving, index_constants, line_constants, sites, width_value}
use Rattle.spec.specs.Block.{pairs}
use Rattle.spec.specs.DepthFirst.{each_once}
use Rattle.spec.specs.Edge.{same_node, FieldOf, an_inst, an_inst_at, no_inst, field_of, Head, Summary, all_nodes, edge_count, node_limit, edge_limit, inst_of}
use Rattle.spec.specs.Summary.{Kept, kept_summary, triples, triple_limit, Asked, ask_for, comb_summary, make_summary, lines_heads, module_heads}
use Rattle.spec.specs.Report.{show_reports}
use Rattle.spec.specs.Check.{site_limit, pair_limit, check_modules, check_design, refuse, accept, Lent, check_drivers, Slice, lent, check_call}
use Rattle.spec.specs.Graph.{◌∈◌}
use Rattle.spec.specs.Situations.{own_lines, own_names, sites_named, Poisoned, IsOutput, AllRanges}

-- 01, Refused because of the state: a constant, or a part of one, evaluated outside INT. The parts that are evaluated are those of
-- The value: operands left to right, a missing one ends it; `if` takes one branch. `clog2` and the tests give no number outside, and
-- of INT neither do `shr`, `band`, `bor` and `bxor` (02, U1).
pub data PartOutside (names : Names) : Expr → Type 0 where
  literal : (n : ℕ) → in_int (pos n) ≡ false → PartOutside names (lit n)
  condition : (c a b : Expr) → PartOutside names c → PartOutside names (if_else c a b)
  then_branch : (c a b : Expr) (x : ℤ) → value names c ≡ known x → is_zero x ≡ false → PartOutside names a → PartOutside names (if_else c a b)
  else_branch : (c a b : Expr) (x : ℤ) → value names c ≡ known x → is_zero x ≡ true → PartOutside names b → PartOutside names (if_else c a b)
  operand : (o : Unary) (a : Expr) → PartOutside names a → PartOutside names (unary o a)
  negation : (a : Expr) (x : ℤ) → value names a ≡ known x → in_int (neg_ℤ x) ≡ false → PartOutside names (unary neg a)
  left_operand : (o : Binary) (a b : Expr) → PartOutside names a → PartOutside names (binary o a b)
  right_operand : (o : Binary) (a b : Expr) (x : ℤ) → value names a ≡ known x → PartOutside names b → PartOutside names (binary o a b)
  sum : (a b : Expr) (x y : ℤ) → value names a ≡ known x → value names b ≡ known y → in_int (x +ℤ y) ≡ false → PartOutside names (binary add a b)
  difference : (a b : Expr) (x y : ℤ) → value names a ≡ known x → value names b ≡ known y → in_int (x -ℤ y) ≡ false → PartOutside names (binary sub a b)
  product : (a b : Expr) (x y : ℤ) → value names a ≡ known x → value names b ≡ known y → in_int (x *ℤ y) ≡ false → PartOutside names (binary mul a b)
  shifted : (a b : Expr) (x : ℤ) (n : ℕ) → value names a ≡ known x → value names b ≡ known (pos n) → in_int (shift_up x n) ≡ false → PartOutside names (binary shl a b)

-- 01, The edge: the indexes that are evaluated where an `f` is read: of an inst its index, if it has one. 02, U2: of any other `f` those of
-- its inner expression.
abbrev pub field_constants : FieldOf → (inner : List Expr) → List Expr
field_constants (an_inst i) inner = []
field_constants (an_inst_at i e) inner = e ∷ []
field_constants no_inst inner = inner

-- 01, The edge: the indexes that are evaluated where an expression is read.
unfoldable mutual
  pub read_constants : Expr → List Header → List Expr
  read_constants (lit n) hs = []
  read_constants (truth b) hs = []
  read_constants (name n) hs = []
  read_constants (field e n) hs = field_constants (field_of hs e) (read_constants e hs)
  read_constants (index e i) hs = read_constants e hs ++ read_constants i hs
  read_constants (if_else c a b) hs = read_constants c hs ++ read_constants a hs ++ read_constants b hs
  read_constants (unary o a) hs = read_constants a hs
  read_constants (binary o a b) hs = read_constants a hs ++ read_constants b hs
  read_constants (all es) hs = reads_constants es hs

  pub reads_constants : Exprs → List Header → List Expr
  reads_constants Exprs.none hs = []
  reads_constants (Exprs.more e es) hs = read_constants e hs ++ reads_constants es hs

-- 01, The edge: an input that some output reaches.
unfoldable pub is_reached : ℕ → Summary → Bool
is_reached i [] = false
is_reached i (p ∷ s) = eqb i p.1 || is_reached i s

-- 01, The edge: of an instance line the connections to inputs that some output reaches.
unfoldable pub conns_read : Summary → List Conn → List Expr
conns_read s [] = []
conns_read s (c ∷ cs) = elim (is_reached c.port s) [ true ↦ c.signal ∷ conns_read s cs | false ↦ conns_read s cs ]

-- 01, The site: driving a wire: its reads still count. Driving reg or mem: no reads.
abbrev pub drive_read : Driving → Index → Expr → List Expr
drive_read an_output x e = e ∷ index_constants x
drive_read a_wire x e = e ∷ index_constants x
drive_read a_reg x e = []
drive_read a_mem x e = []
drive_read nothing x e = []

-- 01, The edge: what a line reads.
unfoldable pub line_read : List Header → Summary → Item → List Expr
line_read hs s (wire n e start) = e ∷ []
line_read hs s (drive lv e) = drive_read (driving (kind_of hs lv.name)) lv.index e
line_read hs s (inst i) = conns_read s i.conns
line_read hs s (port d n w start) = []
line_read hs s (reg n start) = []
line_read hs s (mem n start) = []
line_read hs s (const n e) = []
line_read hs s (on start ss) = []
line_read hs s (repeat n l h is) = []
line_read hs s (const_if c is js) = []

-- 01, Refused because of the state: in one module 512 nodes (headed or read), 4,096 different edges.
pub data GraphPasses (hs : List Head) : Type 0 where
  many_nodes : node_limit < length (each_once same_node (all_nodes hs)) → GraphPasses hs
  many_edges : edge_limit < edge_count hs → GraphPasses hs

-- 01, Refused because of the state: a walk over collected lines passes a limit or evaluates an index outside INT: where a line is
-- reached, with the summaries kept then. `ask` is how its instance lines ask for summaries, and `Asks` whether that passes.
pub data LinesPass (ask : Kept → ℕ → Asked) (Asks : Kept → ℕ → Type 0) (hs : List Header) (kept : Kept) (lines : List Collected) : Type 0 where
  line_asks : (before after : List Collected) (c : Collected) (i : Inst) → lines ≡ before ++ c ∷ after → inst_of c.item ≡ some i → Asks (lines_heads ask hs kept before).kept i.«module» → LinesPass ask Asks hs kept lines
  line_reads : (before after : List Collected) (c : Collected) (e f : Expr) → lines ≡ before ++ c ∷ after → e ∈ line_read hs (ask_for ask (lines_heads ask hs kept before).kept (inst_of c.item)).summary c.item → f ∈ read_constants e hs → value c.names f ≡ outside → LinesPass ask Asks hs kept lines

-- 01, Refused because of the state: the making of a summary passes: its own walk, its graph, or 1,024 summary triples in all.
pub data MakingPasses (ask : Kept → ℕ → Asked) (Asks : Kept → ℕ → Type 0) (kept : Kept) (m : ℕ) (k : Module) : Type 0 where
  summary_walk : LinesPass ask Asks k.header kept (own_lines k) → MakingPasses ask Asks kept m k
  summary_graph : GraphPasses (lines_heads ask k.header kept (own_lines k)).heads → MakingPasses ask Asks kept m k
  many_triples : triple_limit < triples (make_summary ask kept m k).kept → MakingPasses ask Asks kept m k

-- 01, Refused because of the state: asking for a summary passes: it is made now, and that passes.
unfoldable pub AskPasses : ℕ → Design → List ℕ → Kept → ℕ → Type 0
AskPasses ℕ.zero d busy kept m = ⊥
AskPasses (suc fuel) d busy kept m =
    (k : Module) × (get_elem? d m ≡ some k) × (kept_summary kept m ≡ none) × (has_name m busy ≡ false)
    × MakingPasses (comb_summary fuel d (m ∷ busy)) (λ kept' m'. AskPasses fuel d (m ∷ busy) kept' m') kept m k

-- 01, The value: the top-level `const` lines are evaluated in order, each under the names before it
unfoldable pub const_table : Table → List Item → Table
const_table t [] = t
const_table t (i ∷ is) = const_table (const_names t (Items.more i Items.none)) is

-- 01, The line: items as a list.
unfoldable pub item_list : Items → List Item
item_list Items.none = []
item_list (Items.more i is) = i ∷ item_list is

-- 01, Refused because of the state: what makes the own check of a module pass a limit, or evaluate a constant outside INT
pub data ModulePasses (d : Design) (kept : Kept) (k : Module) : Type 0 where
  const_outside : (before after : List Item) (n : ℕ) (e : Expr) → item_list k.items ≡ before ++ Item.const n e ∷ after → value (const_table (record { names = own_vals k; out = false }) before).names e ≡ outside → ModulePasses d kept k
  line_outside : (c : Collected) (e : Expr) → c ∈ own_lines k → e ∈ line_constants k.header c.item → value c.names e ≡ outside → ModulePasses d kept k
  width_outside : (start n : ℕ) (w : Width) → IsOutput k start n w → ¬ Poisoned k n → ¬ (sites_named k n ≡ []) → AllRanges (sites_named k n) → width_value (own_names k) w ≡ outside → ModulePasses d kept k
  many_sites : site_limit < length (sites k.bound k.header (own_lines k)) → ModulePasses d kept k
  many_pairs : pair_limit < length (pairs k.header (own_lines k)) → ModulePasses d kept k
  own_walk : LinesPass (comb_summary (suc (length d)) d []) (λ kept' m. AskPasses (suc (length d)) d [] kept' m) k.header kept (own_lines k) → ModulePasses d kept k
  own_graph : GraphPasses (module_heads d kept k (own_lines k)).heads → ModulePasses d kept k

-- 01, Refused because of the state: some module's own check passes, with the summaries that those before it kept.
pub data Passes (d : Design) : Type 0 where
  own_check : (before after : List Module) (k : Module) → d ≡ before ++ k ∷ after → ModulePasses d (check_modules d [] 0 before).kept k → Passes d

-- 01, Refused because of the state: a lent working slice with fewer places than the limit it serves.
abbrev pub Short : List Lent → Type 0
Short working = (l : Lent) × (l ∈ working) × (l.places < l.limit)

-- The theorem. 01: Refused because of the state. `twenty`: 20 exactly when a slice is too short, or the text has no fault and a listed
-- limit is passed or an evaluated constant leaves INT. `twenty_one`: 21 exactly when not 20 and the report text is longer than the
-- buffer. `by_text`: else a fault of the text gives its own number, 1 to 7. `otherwise`: else the reports are written. A refusal gives
-- zeros and keeps the buffer. `leaves`: the whole call gives that answer, and every lent place of working memory is zero after it, whatever
-- it held. `outside_is`: a constant leaves INT exactly when an evaluated part does. `fuel`: that of the summaries never runs out, so that
-- it decides nothing.
pub record Refusals : Type 0 where
  pub twenty : (working : List Lent) (text buffer : Bytes) → check_drivers working text buffer ≡ refuse 20 0 buffer ↔ (Short working ⊎ ((refusal text ≡ well_formed) × Passes (decode text)))
  pub twenty_one : (working : List Lent) (text buffer : Bytes) → check_drivers working text buffer ≡ refuse 21 0 buffer
      ↔ (¬ Short working × (refusal text ≡ well_formed) × ¬ Passes (decode text) × (length buffer < length (show_reports (check_design (decode text)).reports)))
  pub by_text : (working : List Lent) (text buffer : Bytes) (k n : ℕ) → ¬ Short working → refusal text ≡ refused k n → (check_drivers working text buffer ≡ refuse k n buffer) × (1 ≤ k) × (k ≤ 7)
  pub otherwise : (working : List Lent) (text buffer : Bytes) → ¬ Short working → refusal text ≡ well_formed → ¬ Passes (decode text)
      → length (show_reports (check_design (decode text)).reports) ≤ length buffer → check_drivers working text buffer ≡ accept (show_reports (check_design (decode text)).reports) (check_design (decode text)) buffer
  pub leaves : (working : List Slice) (text buffer : Bytes) → ((check_call working text buffer).answer ≡ check_drivers (map lent working) text buffer)
      × (map length (check_call working text buffer).working ≡ map (λ s. length s.held) working)
      × ((w : List ℕ) → w ∈ (check_call working text buffer).working → (n : ℕ) → n ∈ w → n ≡ 0)
  pub outside_is : (names : Names) (e : Expr) → value names e ≡ outside ↔ PartOutside names e
  pub fuel : (d : Design) (enough : ℕ) → length d < enough → comb_summary enough d [] ≡ comb_summary (suc (length d)) d []
