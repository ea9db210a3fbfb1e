-- The words of 01 as one table, and a word's number. 01: The line.
-- To a reader: definitions that the contracts of this crate cite; each such contract is proved; check_drivers' own promise cites none of them.
use Rattle.std.specs.Prelude.{true, false, List, [], ◌∷◌, ℕ, ◌+◌, ◌*◌, length, ltb}
use Rattle.spec.specs.Bytes.{Bytes, bytes, lookup_word}
use Rattle.lines.specs.declared.words.Word.{Word}
use Rattle.lines.specs.declared.words.Word.TheVariants.{N, F, Ix, If, All, Neg, Not, Clog2, Add, Sub, Mul, Eq, Ne, Lt, Le, Gt, Ge, And, Or, Shl, Shr, Band, Bor, Bxor, True, False, Bit, Opaque, Bits, Signed, Lv, Set, Default, Loop, When, Then, Else, Conn, Dash, Port, Wire, Reg, Mem, Const, Drive, On, Inst, Repeat, ConstIf, In, Out, Module, Kind as KindWord, Val, Bound, Unbound, Other}

-- 01, The line: its words, each with what the code calls it
unfoldable pub words : List (Bytes × Word)
words =
    (bytes "n", N) ∷ (bytes "f", F) ∷ (bytes "ix", Ix) ∷ (bytes "if", If) ∷ (bytes "all", All) ∷ (bytes "neg", Neg)
    ∷ (bytes "not", Not) ∷ (bytes "clog2", Clog2) ∷ (bytes "add", Add) ∷ (bytes "sub", Sub) ∷ (bytes "mul", Mul) ∷ (bytes "eq", Eq)
    ∷ (bytes "ne", Ne) ∷ (bytes "lt", Lt) ∷ (bytes "le", Le) ∷ (bytes "gt", Gt) ∷ (bytes "ge", Ge) ∷ (bytes "and", And)
    ∷ (bytes "or", Or) ∷ (bytes "shl", Shl) ∷ (bytes "shr", Shr) ∷ (bytes "band", Band) ∷ (bytes "bor", Bor) ∷ (bytes "bxor", Bxor)
    ∷ (bytes "true", True) ∷ (bytes "false", False) ∷ (bytes "bit", Bit) ∷ (bytes "opaque", Opaque) ∷ (bytes "bits", Bits) ∷ (bytes "signed", Signed)
    ∷ (bytes "lv", Lv) ∷ (bytes "set", Set) ∷ (bytes "default", Default) ∷ (bytes "loop", Loop) ∷ (bytes "when", When) ∷ (bytes "then", Then)
    ∷ (bytes "else", Else) ∷ (bytes "conn", Conn) ∷ (bytes "-", Dash) ∷ (bytes "port", Port) ∷ (bytes "wire", Wire) ∷ (bytes "reg", Reg)
    ∷ (bytes "mem", Mem) ∷ (bytes "const", Const) ∷ (bytes "drive", Drive) ∷ (bytes "on", On) ∷ (bytes "inst", Inst) ∷ (bytes "repeat", Repeat)
    ∷ (bytes "constif", ConstIf) ∷ (bytes "in", In) ∷ (bytes "out", Out) ∷ (bytes "module", Module) ∷ (bytes "kind", KindWord) ∷ (bytes "val", Val)
    ∷ (bytes "bound", Bound) ∷ (bytes "unbound", Unbound) ∷ []

-- 01, The line: which of its words these bytes are, and `Other` for none
unfoldable pub word_of : Bytes → Word
word_of w = lookup_word words Other w

-- 01, The line: the bytes of a word in base 256, from the last to the first, behind a 1
unfoldable pub key : Bytes → ℕ
key [] = 1
key (c ∷ w) = key w * 256 + c

-- 01, The line: the same, and 0 for one of more than seven bytes, which is too long to be a word
unfoldable pub key_of : Bytes → ℕ
key_of w = elim (ltb 7 (length w)) [ true ↦ 0 | false ↦ key w ]
