-- What the code's enums mean: a value in whole numbers, the name table, what a head word makes of an expression. 01: The value; Refused because of
-- the state; Forms for specific places.
-- To a reader: definitions that contracts of this and other crates cite; each such contract is proved; check_drivers' own promise cites none of them.
use Rattle.std.specs.Prelude.{Bool, true, false, List, [], ◌∷◌, ℕ, zero, suc, ◌+◌, ◌-◌, ◌/◌, min, ℤ, pos, negsuc, length, get_or, set, ltb, Option, Some, None as no_value, Result, Ok, Err}
use Rattle.std.proofs.Math.IntN.{sub_ℕ}
use Rattle.spec.specs.Syntax.{Unary, neg, not, clog2, Binary, add, sub, mul, eq, ne, lt, le, gt, ge, and, or, shl, shr, band, bor, bxor}
use Rattle.spec.specs.Value.{Value, known, missing, outside, Names}
use Rattle.lines.specs.declared.words.Word.{Word}
use Rattle.lines.specs.declared.words.Word.TheVariants.{N as NWord, F as FWord, Ix as IxWord, If as IfWord, All as AllWord, Neg as NegWord, Not as NotWord, Clog2 as Clog2Word, Add as AddWord, Sub as SubWord, Mul as MulWord, Eq as EqWord, Ne as NeWord, Lt as LtWord, Le as LeWord, Gt as GtWord, Ge as GeWord, And as AndWord, Or as OrWord, Shl as ShlWord, Shr as ShrWord, Band as BandWord, Bor as BorWord, Bxor as BxorWord, True as TrueWord, False as FalseWord, Bit as BitWord, Opaque as OpaqueWord, Bits as BitsWord, Signed as SignedWord, Lv as LvWord, Set as SetWord, Default as DefaultWord, Loop as LoopWord, When as WhenWord, Then as ThenWord, Else as ElseWord, Conn as ConnWord, Dash as DashWord, Port as PortWord, Wire as WireWord, Reg as RegWord, Mem as MemWord, Const as ConstWord, Drive as DriveWord, On as OnWord, Inst as InstWord, Repeat as RepeatWord, ConstIf as ConstIfWord, In as InWord, Out as OutWord, Module as ModuleWord, Kind as KindWord, Val as ValWord, Bound as BoundWord, Unbound as UnboundWord, Other as OtherWord}
use Rattle.consteval.specs.declared.Outside.{Outside}
use Rattle.consteval.specs.declared.shape.Unary.{Unary as OneWord}
use Rattle.consteval.specs.declared.shape.Unary.TheVariants.{Neg, Not, Clog2}
use Rattle.consteval.specs.declared.shape.Binary.{Binary as TwoWord}
use Rattle.consteval.specs.declared.shape.Binary.TheVariants.{Add, Sub, Mul, Eq, Ne, Lt, Le, Gt, Ge, And, Or, Shl, Shr, Band, Bor, Bxor}
use Rattle.consteval.specs.declared.shape.Shape.{Shape}
use Rattle.consteval.specs.declared.shape.Shape.TheVariants.{Name, If, One, Two, True, False, None}

-- 01, The value: the whole number that x holds, 2147483648 below it
abbrev pub signed : ℕ → ℤ
signed x = sub_ℕ x 2147483648

-- 01, The value: a whole number in INT as the number that holds it, 2147483648 above it
abbrev pub biased : ℤ → ℕ
biased (pos n) = n + 2147483648
biased (negsuc n) = 2147483648 - suc n

-- 01, Forms for specific places; The value; Refused because of the state: what the code answers: what holds a value, or nothing; or that it is outside INT
abbrev pub Answer : Type 0
Answer = Result (Option ℕ) Outside

-- 01, Forms for specific places; The value; Refused because of the state: the value of each answer: a whole number, none, or outside INT
abbrev pub worth : Answer → Value
worth (Ok (Some x)) = known (signed x)
worth (Ok no_value) = missing
worth (Err e) = outside

-- 01, Refused because of the state: 20 where this is so, and 0 where it is not
abbrev pub refused_if : Bool → ℕ
refused_if true = 20
refused_if false = 0

-- 01, Refused because of the state: 20 where the value is outside INT, else 0
abbrev pub number_of : Answer → ℕ
number_of (Ok v) = 0
number_of (Err e) = 20

-- 01, The value: the name table of the first k pairs, each a name and what holds its value; they stand the newest last, and are given the newest
-- first
unfoldable pub pairs : List ℕ → ℕ → Names
pairs t zero = []
pairs t (suc k) = (get_or t (k + k) 0, signed (get_or t (k + k + 1) 0)) ∷ pairs t k

-- 01, The value: the names of a table of which `used` pairs count, as far as it has them
unfoldable pub names_of : List ℕ → ℕ → Names
names_of t used = pairs t (min used (length t / 2))

-- 01, The value: what the code's operators with one part are
abbrev pub unary_of : OneWord → Unary
unary_of Neg = neg
unary_of Not = not
unary_of Clog2 = clog2

-- 01, The value; 02, U1: what the code's operators with two parts are
abbrev pub binary_of : TwoWord → Binary
binary_of Add = add
binary_of Sub = sub
binary_of Mul = mul
binary_of Eq = eq
binary_of Ne = ne
binary_of Lt = lt
binary_of Le = le
binary_of Gt = gt
binary_of Ge = ge
binary_of And = and
binary_of Or = or
binary_of Shl = shl
binary_of Shr = shr
binary_of Band = band
binary_of Bor = bor
binary_of Bxor = bxor

-- 01, The value: what a word makes of an expression that it heads, or that it is
abbrev pub shape : Word → Shape
shape NWord = Name
shape FWord = None
shape IxWord = None
shape IfWord = If
shape AllWord = None
shape NegWord = One Neg
shape NotWord = One Not
shape Clog2Word = One Clog2
shape AddWord = Two Add
shape SubWord = Two Sub
shape MulWord = Two Mul
shape EqWord = Two Eq
shape NeWord = Two Ne
shape LtWord = Two Lt
shape LeWord = Two Le
shape GtWord = Two Gt
shape GeWord = Two Ge
shape AndWord = Two And
shape OrWord = Two Or
shape ShlWord = Two Shl
shape ShrWord = Two Shr
shape BandWord = Two Band
shape BorWord = Two Bor
shape BxorWord = Two Bxor
shape TrueWord = True
shape FalseWord = False
shape BitWord = None
shape OpaqueWord = None
shape BitsWord = None
shape SignedWord = None
shape LvWord = None
shape SetWord = None
shape DefaultWord = None
shape LoopWord = None
shape WhenWord = None
shape ThenWord = None
shape ElseWord = None
shape ConnWord = None
shape DashWord = None
shape PortWord = None
shape WireWord = None
shape RegWord = None
shape MemWord = None
shape ConstWord = None
shape DriveWord = None
shape OnWord = None
shape InstWord = None
shape RepeatWord = None
shape ConstIfWord = None
shape InWord = None
shape OutWord = None
shape ModuleWord = None
shape KindWord = None
shape ValWord = None
shape BoundWord = None
shape UnboundWord = None
shape OtherWord = None

-- 01, The value: whether there is room for one more pair behind those that are used
abbrev pub room : List ℕ → ℕ → Bool
room t used = ltb used (length t / 2)

-- 01, The value: one more pair, where there is room for it
unfoldable pub pushed : List ℕ → ℕ → ℕ → ℕ → List ℕ
pushed t used n v = elim (room t used) [ true ↦ set (set t (used + used) n) (used + used + 1) v | false ↦ t ]
