-- The name table of a module as it is filled: what each line adds, line by line, until a line stops it. 01: The line; The value; Refused because of
-- the text; Refused because of the state.
-- To a reader: definitions that contracts of this and other crates cite; each such contract is proved; check_drivers' own promise cites none of them.
use Rattle.std.specs.Prelude.{◌≡◌, Bool, true, false, ◌&&◌, List, [], ◌∷◌, ℕ, suc, ◌+◌, ◌/◌, ◌≤◌, ◌<◌, length, drop, eqb, ltb, Option, Some, None, Result, Ok, Err}
use Rattle.spec.specs.Bytes.{Bytes}
use Rattle.spec.specs.Syntax.{Item, Items, port, wire, reg, mem, const, drive, on, inst, repeat, const_if, Header, kind, val, Module, Line, module_line, header_line, item_line}
use Rattle.spec.specs.Decode.{decode_line}
use Rattle.spec.specs.Refusal.{lines, decode_lines, line_in_range}
use Rattle.spec.specs.Value.{Value, known, missing, outside, Names, within, value, Table, const_names, name_table, own_vals}
use Rattle.spec.specs.Cleared.{ByNumber}
use Rattle.lines.specs.declared.words.Word.{Word}
use Rattle.lines.specs.declared.words.Word.TheVariants.{N as NWord, F as FWord, Ix as IxWord, If as IfWord, All as AllWord, Neg as NegWord, Not as NotWord, Clog2 as Clog2Word, Add as AddWord, Sub as SubWord, Mul as MulWord, Eq as EqWord, Ne as NeWord, Lt as LtWord, Le as LeWord, Gt as GtWord, Ge as GeWord, And as AndWord, Or as OrWord, Shl as ShlWord, Shr as ShrWord, Band as BandWord, Bor as BorWord, Bxor as BxorWord, True as TrueWord, False as FalseWord, Bit as BitWord, Opaque as OpaqueWord, Bits as BitsWord, Signed as SignedWord, Lv as LvWord, Set as SetWord, Default as DefaultWord, Loop as LoopWord, When as WhenWord, Then as ThenWord, Else as ElseWord, Conn as ConnWord, Dash as DashWord, Port as PortWord, Wire as WireWord, Reg as RegWord, Mem as MemWord, Const as ConstWord, Drive as DriveWord, On as OnWord, Inst as InstWord, Repeat as RepeatWord, ConstIf as ConstIfWord, In as InWord, Out as OutWord, Module as ModuleWord, Kind as KindWord, Val as ValWord, Bound as BoundWord, Unbound as UnboundWord, Other as OtherWord}
use Rattle.consteval.specs.Worth.{names_of, room, pushed, biased}
use Rattle.consteval.specs.declared.fill.FillError.{FillError}
use Rattle.consteval.specs.declared.fill.FillError.TheVariants.{Outside, Short, Bad}
use Rattle.consteval.specs.declared.fill.Source.{Source}
use Rattle.consteval.specs.declared.fill.Source.TheVariants.{Header as from_header, Items as from_items}
use Rattle.consteval.specs.declared.fill.Role.{Role}
use Rattle.consteval.specs.declared.fill.Role.TheVariants.{Val, Const, Other}

-- 01, The line: how many bytes there are before the line feed, or before the end where there is none
unfoldable pub feed : Bytes → ℕ
feed [] = 0
feed (c ∷ s) = elim (eqb c 10) [ true ↦ 0 | false ↦ suc (feed s) ]

-- 01, The line: the end of the line that starts at `at`
abbrev pub line_end : Bytes → ℕ → ℕ
line_end s at = at + feed (drop at s)

-- 01, The value: whether a head word is `val`, `const` or another
abbrev pub role : Word → Role
role NWord = Other
role FWord = Other
role IxWord = Other
role IfWord = Other
role AllWord = Other
role NegWord = Other
role NotWord = Other
role Clog2Word = Other
role AddWord = Other
role SubWord = Other
role MulWord = Other
role EqWord = Other
role NeWord = Other
role LtWord = Other
role LeWord = Other
role GtWord = Other
role GeWord = Other
role AndWord = Other
role OrWord = Other
role ShlWord = Other
role ShrWord = Other
role BandWord = Other
role BorWord = Other
role BxorWord = Other
role TrueWord = Other
role FalseWord = Other
role BitWord = Other
role OpaqueWord = Other
role BitsWord = Other
role SignedWord = Other
role LvWord = Other
role SetWord = Other
role DefaultWord = Other
role LoopWord = Other
role WhenWord = Other
role ThenWord = Other
role ElseWord = Other
role ConnWord = Other
role DashWord = Other
role PortWord = Other
role WireWord = Other
role RegWord = Other
role MemWord = Other
role ConstWord = Const
role DriveWord = Other
role OnWord = Other
role InstWord = Other
role RepeatWord = Other
role ConstIfWord = Other
role InWord = Other
role OutWord = Other
role ModuleWord = Other
role KindWord = Other
role ValWord = Val
role BoundWord = Other
role UnboundWord = Other
role OtherWord = Other

-- 01, The value; Refused because of the state: what the code answers for a table: how many pairs are used, or why there is none
abbrev pub Filled : Type 0
Filled = Result ℕ FillError

-- 01, The value; Refused because of the state: what a line adds: a name and what holds its value, or nothing; or why it stops the table
abbrev pub Entry : Type 0
Entry = Result (Option (ℕ × ℕ)) FillError

-- 01, The value; Refused because of the state: what a name and its value add: both, as they are held, or bad where the name is no number below 2^32;
-- nothing where there is no value; or it is outside INT
abbrev pub held : ℕ → Value → Entry
held n (known z) = elim (ltb n 4294967296) [ true ↦ Ok (Some (n, biased z)) | false ↦ Err Bad ]
held n missing = Ok None
held n outside = Err Outside

-- 01, Refused because of the state: 20 where the value is outside INT, 0 where a pair or nothing is added; `Bad` is of no line in range, and counts as
-- 20 too
abbrev pub entry_number : Entry → ℕ
entry_number (Ok p) = 0
entry_number (Err e) = 20

-- 01, The value: what a line adds to the table as a header line: a `val` line its name and INT
abbrev pub val_of_line : Line → Entry
val_of_line (module_line m b) = Ok None
val_of_line (header_line (kind n k)) = Ok None
val_of_line (header_line (val n z)) = held n (within z)
val_of_line (item_line i) = Ok None

-- 01, The value: what an item adds to the table under the names so far: a `const` its name and value
abbrev pub const_of_item : Names → Item → Entry
const_of_item names (port d n w s) = Ok None
const_of_item names (wire n e s) = Ok None
const_of_item names (reg n s) = Ok None
const_of_item names (mem n s) = Ok None
const_of_item names (const n e) = held n (value names e)
const_of_item names (drive lv e) = Ok None
const_of_item names (on s ss) = Ok None
const_of_item names (inst i) = Ok None
const_of_item names (repeat n l h is) = Ok None
const_of_item names (const_if c is js) = Ok None

-- 01, The value: what a line adds to the table as an item line under the names so far
abbrev pub const_of_line : Names → Line → Entry
const_of_line names (module_line m b) = Ok None
const_of_line names (header_line h) = Ok None
const_of_line names (item_line i) = const_of_item names i

-- 01, The value: an answer and the table that is left
pub record Filling : Type 0 where
  pub answer : Filled
  pub table : List ℕ

-- 01, The value: the same, by its parts
abbrev pub filling : Filled → List ℕ → Filling
filling r t = record { answer = r; table = t }

-- 01, The value; Refused because of the state: one entry, and what follows it: nothing is added, or a pair where there is room; else it ends there,
-- with the table as it is
abbrev pub by_entry : Entry → (List ℕ → ℕ → Filling) → List ℕ → ℕ → Filling
by_entry (Ok None) next t used = next t used
by_entry (Ok (Some (n, v))) next t used = elim (room t used) [ true ↦ next (pushed t used n v) (used + 1) | false ↦ filling (Err Short) t ]
by_entry (Err e) next t used = filling (Err e) t

-- 01, The value: what a line adds, as a header's line or as an item's line under the names so far
abbrev pub entry_of : Source → Names → Line → Entry
entry_of from_header names l = val_of_line l
entry_of from_items names l = const_of_line names l

-- 01, The value: the lines that add to the table among these, in order, each under the names so far, `used` pairs being there already
unfoldable pub entries_of : Source → List Bytes → List ℕ → ℕ → Filling
entries_of from [] t used = filling (Ok used) t
entries_of from (s ∷ ls) t used = by_entry (entry_of from (names_of t used) (decode_line s)) (entries_of from ls) t used

-- 01, The value: the `val` lines among these
abbrev pub vals_of : List Bytes → List ℕ → ℕ → Filling
vals_of = entries_of from_header

-- 01, The value: the top-level `const` lines among these
abbrev pub consts_of : List Bytes → List ℕ → ℕ → Filling
consts_of = entries_of from_items

-- 01, The value; Refused because of the state: the items' lines behind the header's, where these did not end it
abbrev pub then_consts : Bytes → Filled → List ℕ → Filling
then_consts items (Ok n) t = consts_of (lines items) t n
then_consts items (Err e) t = filling (Err e) t

-- 01, The value: the header's lines, then the items' lines
unfoldable pub fill_of : Bytes → Bytes → List ℕ → Filling
fill_of header items t = then_consts items (vals_of (lines header) t 0).answer (vals_of (lines header) t 0).table

-- ---- what the table is of

-- 01, The line: the `kind` and `val` lines among these; other lines count for nothing
unfoldable pub headers_of : List Line → List Header
headers_of [] = []
headers_of (module_line m b ∷ ls) = headers_of ls
headers_of (header_line h ∷ ls) = h ∷ headers_of ls
headers_of (item_line i ∷ ls) = headers_of ls

-- 01, The line: the items among these lines; other lines count for nothing
unfoldable pub items_of : List Line → Items
items_of [] = Items.none
items_of (module_line m b ∷ ls) = items_of ls
items_of (header_line h ∷ ls) = items_of ls
items_of (item_line i ∷ ls) = Items.more i (items_of ls)

-- 01, The line: the module that the header's lines and the items' lines make; other lines among them count for nothing
abbrev pub module_of : Bool → Bytes → Bytes → Module
module_of bound header items = record { bound = bound; header = headers_of (decode_lines (lines header)); items = items_of (decode_lines (lines items)) }

-- 01, The value; Refused because of the state: whether a line, read as an item line under the names so far, is a `const` whose value is outside INT
abbrev pub line_out : Names → Line → Bool
line_out names l = (const_names (record { names = names; out = false }) (items_of (l ∷ []))).out

-- 01, Refused because of the text: no number of these lines is out of range
unfoldable pub all_in_range : List Line → Bool
all_in_range [] = true
all_in_range (l ∷ ls) = line_in_range l && all_in_range ls

-- 01, Refused because of the state: 20 where a constant is outside INT or the table is too small, 0 where it is filled; `Bad` is no answer of lines
-- in range, and counts as 20 too
abbrev pub number_of : Filled → ℕ
number_of (Ok n) = 0
number_of (Err Outside) = 20
number_of (Err Short) = 20
number_of (Err Bad) = 20

-- 01, The value: how many pairs are used; 0 where the number is 20
abbrev pub used_of : Filled → ℕ
used_of (Ok n) = n
used_of (Err e) = 0

-- 01, Refused because of the state: why the number is 20: a constant is outside INT, or there are more names than places for pairs
abbrev pub Stopped : Filled → List ℕ → Table → Type 0
Stopped (Ok n) t T = ⊥
Stopped (Err Outside) t T = T.out ≡ true
Stopped (Err Short) t T = length t / 2 < length T.names
Stopped (Err Bad) t T = ⊥

-- 01, The value; Refused because of the state: an answer and the table that is left, against the specification's name table: the used pairs, which
-- have their places, are its names, and no constant is outside INT; or the number is 20
abbrev pub Right : Filled → List ℕ → Table → Type 0
Right r t T = ByNumber (number_of r) ((names_of t (used_of r) ≡ T.names) × (T.out ≡ false) × (used_of r ≤ length t / 2)) (Stopped r t T)

-- 01, The value; Refused because of the state: what filling a table answers and leaves, of lines in range, be their module bound or not: its name
-- table; or 20, where a constant is outside INT or the table is too small
abbrev pub Fills : Filled → Bytes → Bytes → List ℕ → Type 0
Fills r header items t =
    (bound : Bool) → all_in_range (decode_lines (lines header)) ≡ true → all_in_range (decode_lines (lines items)) ≡ true
    → Right r t (name_table (own_vals (module_of bound header items)) (module_of bound header items))
