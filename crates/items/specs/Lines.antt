-- What the code says of a collected line and of the parts of one. 01: The line; The value; The site; The block; Refused because
-- of the state.
-- To a reader: definitions that contracts of this and other crates cite; each such contract is proved; check_drivers' own promise cites none of them.
use Rattle.std.specs.Prelude.{◌≡◌, Bool, true, false, ◌&&◌, List, ◌∷◌, ℕ, ◌+◌, ◌≤◌, ◌<◌, length, get_or, take, drop, replicate, eqb, ltb, Result, Ok, Err}
use Rattle.std.proofs.Math.Option.{some}
use Rattle.std.proofs.lemmas.List.Edits.{sets}
use Rattle.spec.specs.Bytes.{Bytes, number, show_number, show_rest}
use Rattle.spec.specs.Syntax.{name_bound, number_bound, out_kind, Expr, Width, Index, whole, at_bit, high_low, LValue, Stmt, Stmts, set, default, Dir, Item, port, reg, mem, drive, on, Header}
use Rattle.spec.specs.Show.{show_index, show_lvalue, show_stmt, show_stmts}
use Rattle.spec.specs.Decode.{decode_expr}
use Rattle.spec.specs.Refusal.{index_depth, stmt_depth, stmts_depth, stmt_in_range, stmts_in_range}
use Rattle.spec.specs.Value.{Names}
use Rattle.spec.specs.Site.{kind_of, lvalue_extent, index_constants, line_constants, any_outside, Misused, stmt_misuses, stmts_misuses}
use Rattle.spec.specs.Block.{Pair, stmt_pairs, stmts_pairs}
use Rattle.spec.specs.Check.{pair_limit}
use Rattle.lines.specs.Parts.{piece, next_end, follows}
use Rattle.sites.specs.Own.{extent_of}
use Rattle.runs.specs.Run.{ShowsItem}
use Rattle.edges.specs.Reads.{KindsOf}
use Rattle.steps.specs.Steps.{plain}
use Rattle.walk.specs.Walk.{Own, add_all, same_pair, same_misused}
use Rattle.items.specs.declared.Named.{Named}
use Rattle.consteval.specs.declared.Outside.{Outside}
use Rattle.sites.specs.declared.Extent.{Extent}
use Rattle.items.specs.Held.{Held, OwnAfter}

-- 01, The line: the bytes x stand in the text from `base` on, and each place of the text is a word
pub record StandsAt (text : Bytes) (base : ℕ) (x : Bytes) : Type 0 where
  pub here : x ≡ take (length x) (drop base text)
  pub inside : base + length x ≤ length text
  pub short : length text < 4294967296

-- 01, The site; The block: the seven counts of the tables are 0, and every other word stays
abbrev pub emptied : List ℕ → List ℕ
emptied own = sets own 0 (replicate 7 0)

-- ---- 01, The line: parts of a line

-- 01, The line: the number in any bytes behind the one at `before`, up to `end`; 0 where it is no word
unfoldable pub number_at : Bytes → (before end : ℕ) → ℕ
number_at x before end = elim (ltb 4294967295 (number (piece x before end))) [ true ↦ 0 | false ↦ number (piece x before end) ]

-- 01, The line: a name and a START, which end at a and b, and where they end
abbrev pub two_at : Bytes → (before a b : ℕ) → Named
two_at x before a b = record { name = number_at x before a; start = number_at x a b; end = b }

-- 01, The line: the name and the START in any bytes behind the part that ends at `before`; 0 and 0 where there are no two parts
unfoldable pub named_at : Bytes → (before : ℕ) → Named
named_at x before =
    elim (follows x before && follows x (next_end x before)) [
      | true ↦ two_at x before (next_end x before) (next_end x (next_end x before))
      | false ↦ record { name = 0; start = 0; end = before }
    ]

-- 01, The line: r is the number that stands behind the byte at `before`, up to `end`, if it is a word
abbrev pub NumberIs : ℕ → Bytes → ℕ → ℕ → Type 0
NumberIs r x before end = (n : ℕ) → piece x before end ≡ show_number n → n < 4294967296 → r ≡ n

-- 01, The line: r has a name and a START, and the parts xs stand behind the place where they end
pub record NamedIs (r : Named) (x : Bytes) (n s : ℕ) (xs : List Bytes) : Type 0 where
  pub name : r.name ≡ n
  pub start : r.start ≡ s
  pub behind : drop r.end x ≡ show_rest xs

-- 01, The line: r says so of what stands behind the byte at `before`, a name and a START in range
abbrev pub NamedAt : Named → Bytes → ℕ → Type 0
NamedAt r x before =
    (n start : ℕ) (xs : List Bytes) → drop before x ≡ show_rest (show_number n ∷ show_number start ∷ xs) → n < name_bound → start < number_bound
    → NamedIs r x n start xs

-- 01, The line: the bytes x show an LV, whose name and START are in range and whose indexes are at most d brackets deep
pub record ShowsLValue (x : Bytes) (d : ℕ) (lv : LValue) : Type 0 where
  pub shown : x ≡ show_lvalue lv
  pub deep : index_depth lv.index ≤ d
  pub name : lv.name < name_bound
  pub start : lv.start < number_bound

-- 01, The line: the bytes x show a statement, which is in range and at most d brackets deep
pub record ShowsStmt (x : Bytes) (d : ℕ) (s : Stmt) : Type 0 where
  pub shown : x ≡ show_stmt s
  pub deep : stmt_depth s ≤ d
  pub ranged : stmt_in_range s ≡ true

-- 01, The line: the parts of x behind `end` show statements, which are in range and at most d brackets deep
pub record ShowsStmts (x : Bytes) (end d : ℕ) (ss : Stmts) : Type 0 where
  pub shown : drop end x ≡ show_rest (show_stmts ss)
  pub deep : stmts_depth ss ≤ d
  pub ranged : stmts_in_range ss ≡ true

-- ---- 01, The site: a drive

-- 01, The line: the E in any bytes behind the part that ends at `before`, at most d brackets deep
abbrev pub expr_at : Bytes → (before d : ℕ) → Expr
expr_at x before d = decode_expr d (piece x before (next_end x before))

-- 01, The line: and then nothing, one E or two: the index in any bytes behind the part that ends at `end`, by the first two parts there
unfoldable pub index_at : Bytes → (end d : ℕ) → Index
index_at x end d =
    elim (follows x end) [
      | true ↦ elim (follows x (next_end x end)) [ true ↦ high_low (expr_at x end d) (expr_at x (next_end x end) d) | false ↦ at_bit (expr_at x end d) ]
      | false ↦ whole
    ]

-- 01, The value; Refused because of the state: both indexes of an output's LV always are evaluated: whether one of these is outside INT
abbrev pub index_outside : Bytes → (end d : ℕ) → Names → Bool
index_outside x end d names = any_outside names (index_constants (index_at x end d))

-- 01, The site; Refused because of the state: what the code answers of an LV: its extent, or a constant is outside INT
abbrev pub Extended : Type 0
Extended = Result Extent Outside

-- 01, Refused because of the state: 20 where an index of an LV is outside INT, else 0
abbrev pub number_of : Extended → ℕ
number_of (Ok e) = 0
number_of (Err e) = 20

-- 01, Refused because of the state: whether the code's answer is that a constant is outside INT
abbrev pub says_outside : Extended → Bool
says_outside r = ltb 0 (number_of r)

-- 01, The site; Refused because of the state: the extent of an index, or one of its constants is outside INT
abbrev pub ExtentIs : Extended → Bool → Names → Index → Type 0
ExtentIs (Ok e) bound names i = (any_outside names (index_constants i) ≡ false) × (extent_of e ≡ lvalue_extent bound names i)
ExtentIs (Err e) bound names i = any_outside names (index_constants i) ≡ true

-- ---- 01, The block; The site: statements

-- 01, The block; The site: the tables with these pairs and misuses more, each where it is new
abbrev pub with_block : List Pair → List Misused → Own → Own
with_block ps ms o =
    record {
      sites = o.sites;
      pairs = add_all same_pair ps o.pairs;
      outputs = o.outputs;
      regs = o.regs;
      mems = o.mems;
      misuses = add_all same_misused ms o.misuses;
    }

-- 01, The block; The site; Refused because of the state: what statements leave: their pairs and misuses; or there are too many pairs
abbrev pub BlockAfter : Bool → Bytes → List ℕ → List Pair → List Misused → Own → Type 0
BlockAfter true text own ps ms o = Held text own (with_block ps ms o)
BlockAfter false text own ps ms o = ltb pair_limit (length (add_all same_pair ps o.pairs)) ≡ true

-- 01, The block; The site; Refused because of the state: what the statement s leaves, where the bytes x show it
abbrev pub OneAfter : Bool → Bytes → ℕ → ℕ → List ℕ → List ℕ → List ℕ → Stmt → Type 0
OneAfter r x block d kinds own own' s =
    ShowsStmt x d s → (header : List Header) → KindsOf kinds header
    → (text : Bytes) (o : Own) → Held text own o → BlockAfter r text own' (stmt_pairs s header block) (stmt_misuses s header) o

-- 01, The block; The site; Refused because of the state: what a `set` leaves
abbrev pub SetAfter : Bool → Bytes → ℕ → List ℕ → List ℕ → List ℕ → Type 0
SetAfter r x block kinds own own' = (n start d : ℕ) → OneAfter r x block d kinds own own' (set n start)

-- 01, The block; Refused because of the state: what a `default` leaves
abbrev pub DefaultAfter : Bool → Bytes → ℕ → List ℕ → List ℕ → List ℕ → Type 0
DefaultAfter r x block kinds own own' = (n d : ℕ) → OneAfter r x block d kinds own own' (default n)

-- 01, The block; The site; Refused because of the state: what any statement leaves
abbrev pub StmtAfter : Bool → Bytes → ℕ → ℕ → List ℕ → List ℕ → List ℕ → Type 0
StmtAfter r x block d kinds own own' = (s : Stmt) → OneAfter r x block d kinds own own' s

-- 01, The block; The site; Refused because of the state: what the statements behind the part that ends at `end` leave
abbrev pub StmtsAfter : Bool → Bytes → ℕ → ℕ → ℕ → List ℕ → List ℕ → List ℕ → Type 0
StmtsAfter r x end block d kinds own own' =
    (ss : Stmts) → ShowsStmts x end d ss → (header : List Header) → KindsOf kinds header
    → (text : Bytes) (o : Own) → Held text own o → BlockAfter r text own' (stmts_pairs ss header block) (stmts_misuses ss header) o

-- ---- 01, The site; The block: lines

-- 01, The site; The block: what a line leaves that evaluates nothing and passes no limit, whatever the module
abbrev pub Leaves : Bytes → List ℕ → Item → Own → Type 0
Leaves text own i o = (bound : Bool) (header : List Header) (names : Names) → OwnAfter true text own bound header names i o

-- 01, The site: what a `port` line leaves, which stands in the text from `base` on
abbrev pub PortLine : Bytes → ℕ → List ℕ → List ℕ → Type 0
PortLine x base own own' =
    (text : Bytes) (dir : Dir) (n : ℕ) (w : Width) (start d : ℕ) → ShowsItem x d (port dir n w start) → StandsAt text base x
    → (o : Own) → Held text own o → Leaves text own' (port dir n w start) o

-- 01, The block: what a `reg` line leaves
abbrev pub RegLine : Bytes → List ℕ → List ℕ → Type 0
RegLine x own own' = (text : Bytes) (n start d : ℕ) → ShowsItem x d (reg n start) → (o : Own) → Held text own o → Leaves text own' (reg n start) o

-- 01, The block: what a `mem` line leaves
abbrev pub MemLine : Bytes → List ℕ → List ℕ → Type 0
MemLine x own own' = (text : Bytes) (n start d : ℕ) → ShowsItem x d (mem n start) → (o : Own) → Held text own o → Leaves text own' (mem n start) o

-- 01, The site; Refused because of the state: what the drive of an output leaves, of which l has the name and the START
abbrev pub DriveOutput : Bool → Bytes → Named → Bool → ℕ → Names → List ℕ → List ℕ → Type 0
DriveOutput r x l bound d names own own' =
    (lv : LValue) (e : Expr) → ShowsLValue x d lv → NamedIs l x lv.name lv.start (show_index lv.index) → (header : List Header)
    → kind_of header lv.name ≡ some out_kind → (text : Bytes) (o : Own) → Held text own o → OwnAfter r text own' bound header names (drive lv e) o

-- 01, The site; Refused because of the state: what a `drive` line leaves
abbrev pub DriveLine : Bool → Bytes → Bool → ℕ → List ℕ → Names → List ℕ → List ℕ → Type 0
DriveLine r x bound d kinds names own own' =
    (lv : LValue) (e : Expr) → ShowsItem x d (drive lv e) → (header : List Header) → KindsOf kinds header
    → (text : Bytes) (o : Own) → Held text own o → OwnAfter r text own' bound header names (drive lv e) o

-- 01, The block; The site; Refused because of the state: what an `on` line leaves
abbrev pub OnLine : Bool → Bytes → ℕ → List ℕ → List ℕ → List ℕ → Type 0
OnLine r x d kinds own own' =
    (start : ℕ) (ss : Stmts) → ShowsItem x d (on start ss) → (header : List Header) → KindsOf kinds header
    → (text : Bytes) (o : Own) → Held text own o → (bound : Bool) (names : Names) → OwnAfter r text own' bound header names (on start ss) o

-- 01, The site; The block; Refused because of the state: what any line leaves that is plain and stands in the text from `base` on
abbrev pub OwnLine : Bool → Bytes → ℕ → Bool → ℕ → List ℕ → Names → List ℕ → List ℕ → Type 0
OwnLine r x base bound d kinds names own own' =
    (text : Bytes) (i : Item) → ShowsItem x d i → plain i ≡ true → StandsAt text base x → (header : List Header) → KindsOf kinds header
    → (o : Own) → Held text own o → OwnAfter r text own' bound header names i o

-- 01, The line: the part of a `drive` line that is its LV, in any bytes: the first behind the head word
abbrev pub lvalue_part : Bytes → Bytes
lvalue_part x = piece x 6 (next_end x 6)

-- 01, The line: the name and the START of that LV
abbrev pub driven : Bytes → Named
driven x = named_at (lvalue_part x) 3

-- 01, The value; Refused because of the state: whether any bytes, as a line, have a constant outside INT: only a `drive` has constants, and only
-- where the kind of its name is `out`
unfoldable pub drive_outside : Bytes → (d : ℕ) → (kinds : List ℕ) → Names → Bool
drive_outside x d kinds names =
    eqb (get_or x 1 0) 100 && (eqb (get_or kinds (driven x).name 0) 2 && index_outside (lvalue_part x) (driven x).end d names)

-- 01, The value; Refused because of the state: what that means in a summary's walk, which has no own tables: whether a constant of the line is
-- outside INT
abbrev pub OutsideIs : Bool → Bytes → ℕ → List ℕ → Names → Type 0
OutsideIs r x d kinds names =
    (i : Item) → ShowsItem x d i → plain i ≡ true → (header : List Header) → KindsOf kinds header → r ≡ any_outside names (line_constants header i)
