-- What the code of src/parse.rt does, on the bytes of a text and a position in it. proofs/ ties it to the bytes that show a tree. 01: The line;
-- Refused because of the text.
-- To a reader: definitions that contracts of this and other crates cite; each such contract is proved; check_drivers' own promise cites none of them.
use Rattle.std.specs.Prelude.{Bool, true, false, ◌&&◌, is_some, List, [], ◌∷◌, Option, Some, None, ℕ, zero, suc, ◌+◌, ◌*◌, ◌-◌, eqb, ltb, length, get_or, drop}
use Rattle.spec.specs.Bytes.{Bytes, bytes}
use Rattle.spec.specs.Syntax.{name_bound, module_bound, number_bound}
use Rattle.lines.specs.Bytes.{class_of, is_digit, is_word}
use Rattle.lines.specs.declared.kinds.Kind.{Kind as NameKind}
use Rattle.lines.specs.declared.kinds.Kind.TheVariants.{In, Out, Wire, Reg, Mem, Inst}
use Rattle.lines.specs.declared.parse.Cat.{Cat}
use Rattle.lines.specs.declared.parse.Cat.TheVariants.{Name, Start, Mod, Count, Int, Kind, Dir, Bound, E, X, T, Lv, C, S, I, ThenS, ElseS, ThenI, ElseI, L, Nothing}
use Rattle.lines.specs.declared.parse.Shape.{Shape}
use Rattle.lines.specs.declared.parse.Parsed.{Parsed}
use Rattle.lines.specs.declared.parse.Word.{Word}
use Rattle.lines.specs.declared.parse.Number.{Number}
use Rattle.lines.specs.declared.parse.Op.{Op}

-- ---- words and numbers

-- 01, The line: the bytes of a word in base 256, behind those that make a
unfoldable pub code_after : ℕ → Bytes → ℕ
code_after a [] = a
code_after a (c ∷ w) = code_after (a * 256 + c) w

-- 01, The line: a word as one number: its bytes in base 256, and behind them, in base 16, its length
unfoldable pub key : Bytes → ℕ
key w = code_after 0 w * 16 + length w

-- 01, The line: the rest of a word from i on, k bytes of which make `code`: its key and where it ends; the key is 0 where f bytes or more are left
unfoldable pub word_from : ℕ → Bytes → ℕ → ℕ → ℕ → Word
word_from zero t i code k = record { key = 0; next = i }
word_from (suc f) t i code k =
    elim (is_word (class_of (get_or t i 0))) [
      | true ↦ word_from f t (i + 1) (code * 256 + get_or t i 0) (k + 1)
      | false ↦ record { key = code * 16 + k; next = i }
    ]

-- 01, The line: the word at a position: its key and where it ends; the key is 0 where there is none, and where it has more than seven bytes, of which
-- eight are passed
unfoldable pub word_at : Bytes → ℕ → Word
word_at t at = word_from 8 t at 0 0

-- 01, The line: one digit more behind a number below 2^32; from there on the number stays
unfoldable pub more_digit : ℕ → ℕ → ℕ
more_digit a d = elim (ltb a 4294967296) [ true ↦ a * 10 + d | false ↦ a ]

-- 01, The line: a number and where it ends
abbrev pub valued : ℕ → ℕ → Number
valued v next = record { value = v; next = next }

-- 01, The line: the number whose digits stand behind those of a, to the first byte that is no digit, and where that is; the bytes begin at `at`
unfoldable pub digits_from : Bytes → ℕ → ℕ → Number
digits_from [] at a = valued a at
digits_from (c ∷ s) at a = elim (is_digit (class_of c)) [ true ↦ digits_from s (suc at) (more_digit a (c - 48)) | false ↦ valued a at ]

-- 01, The line: the number at a position and where it ends: 0 alone, or a digit that is not 0 and all digits behind it; none where no digit stands;
-- one from 2^32 on is taken as some number from 2^32 on
unfoldable pub number_at : Bytes → ℕ → Option Number
number_at t at =
    elim (eqb (get_or t at 0) 48) [
      | true ↦ Some (valued 0 (at + 1))
      | false ↦ elim (is_digit (class_of (get_or t at 0))) [ true ↦ Some (digits_from (drop at t) at 0) | false ↦ None ]
    ]

-- 01, Refused because of the text: a part that ends at `next`, with its numbers in range (5) or not; a part that is bad is None
abbrev pub good : ℕ → Bool → Option Parsed
good next range = Some (record { next = next; range = range })

-- 01, Refused because of the text: a number as a part: bad where there is none; in range (5) where it is below the limit
abbrev pub numbered : Option Number → ℕ → Option Parsed
numbered None limit = None
numbered (Some n) limit = good n.next (ltb n.value limit)

-- 01, Refused because of the text: M of `module` as a part: bad where there is none; it has no range (5)
abbrev pub counted : Option Number → Option Parsed
counted None = None
counted (Some n) = good n.next true

-- 01, The line: the INT of `val` as a part: a number, or a minus and a number that is not 0; from −2,147,483,648 to 2,147,483,647 it is in range
unfoldable pub int_at : Bytes → ℕ → Option Parsed
int_at t at =
    elim (eqb (get_or t at 0) 45) [
      | true ↦ elim (eqb (get_or t (at + 1) 0) 48) [ true ↦ None | false ↦ numbered (number_at t (at + 1)) (number_bound + 1) ]
      | false ↦ numbered (number_at t at) number_bound
    ]

-- ---- tables of words

-- 01, The line: what a table of words gives for a key, and `other` for a key that it lacks
unfoldable pub lookup_key : {A : Type 0} → List (ℕ × A) → A → ℕ → A
lookup_key [] other k = other
lookup_key (e ∷ table) other k = elim (eqb k e.0) [ true ↦ e.1 | false ↦ lookup_key table other k ]

-- 01, The line: the heads of E by their keys; an operator is told apart by how many parts it has
unfoldable pub ops : List (ℕ × Op)
ops =
    (key (bytes "n"), Op.Name) ∷ (key (bytes "f"), Op.Field) ∷ (key (bytes "ix"), Op.Index) ∷ (key (bytes "if"), Op.If)
    ∷ (key (bytes "all"), Op.All) ∷ (key (bytes "neg"), Op.Unary) ∷ (key (bytes "not"), Op.Unary) ∷ (key (bytes "clog2"), Op.Unary)
    ∷ (key (bytes "add"), Op.Binary) ∷ (key (bytes "sub"), Op.Binary) ∷ (key (bytes "mul"), Op.Binary) ∷ (key (bytes "eq"), Op.Binary)
    ∷ (key (bytes "ne"), Op.Binary) ∷ (key (bytes "lt"), Op.Binary) ∷ (key (bytes "le"), Op.Binary) ∷ (key (bytes "gt"), Op.Binary)
    ∷ (key (bytes "ge"), Op.Binary) ∷ (key (bytes "and"), Op.Binary) ∷ (key (bytes "or"), Op.Binary) ∷ (key (bytes "shl"), Op.Binary)
    ∷ (key (bytes "shr"), Op.Binary) ∷ (key (bytes "band"), Op.Binary) ∷ (key (bytes "bor"), Op.Binary)
    ∷ (key (bytes "bxor"), Op.Binary) ∷ []

-- 01, The line: which head of E has that key; `Other` for none
unfoldable pub op_of : ℕ → Op
op_of k = lookup_key ops Op.Other k

-- 01, The line: the words of K by their keys
unfoldable pub named_kinds : List (ℕ × Option NameKind)
named_kinds =
    (key (bytes "in"), Some In) ∷ (key (bytes "out"), Some Out) ∷ (key (bytes "wire"), Some Wire) ∷ (key (bytes "reg"), Some Reg)
    ∷ (key (bytes "mem"), Some Mem) ∷ (key (bytes "inst"), Some Inst) ∷ []

-- 01, The line: the kind with that key, if there is one
unfoldable pub kind_of : ℕ → Option NameKind
kind_of k = lookup_key named_kinds None k

-- 01, The line: whether a key is one of two
unfoldable pub either : ℕ → ℕ → ℕ → Bool
either k a b = elim (eqb k a) [ true ↦ true | false ↦ eqb k b ]

-- 01, Refused because of the text: a word as a part that ends at `next`: bad where it is none that may stand here
abbrev pub worded : Bool → ℕ → Option Parsed
worded true next = good next true
worded false next = None

-- ---- shapes

-- 01, The line: the shape of a form: at least n parts, the next four of the categories a to d, all behind them of l
abbrev pub behind : ℕ → Cat → Cat → Cat → Cat → Cat → Shape
behind n a b c d l = record { need = n; a = a; b = b; c = c; d = d; last = l }

-- 01, The line: the shape of a form with at least n parts and at most four, of the categories a to d; `Nothing` is the category of a part that may
-- not stand
abbrev pub fixed : ℕ → Cat → Cat → Cat → Cat → Shape
fixed n a b c d = behind n a b c d Nothing

-- 01, Refused because of the text: the shape of an unknown head: one part is needed and none may stand
abbrev pub no_shape : Shape
no_shape = fixed 1 Nothing Nothing Nothing Nothing

-- 01, The line: the parts of E by its head
abbrev pub expr_shape : Op → Shape
expr_shape Op.Name = fixed 1 Name Nothing Nothing Nothing
expr_shape Op.Field = fixed 2 E Name Nothing Nothing
expr_shape Op.Index = fixed 2 E E Nothing Nothing
expr_shape Op.If = fixed 3 E E E Nothing
expr_shape Op.All = behind 0 E E E E E
expr_shape Op.Unary = fixed 1 E Nothing Nothing Nothing
expr_shape Op.Binary = fixed 2 E E Nothing Nothing
expr_shape Op.Other = no_shape

-- 01, The line: one head only: `q` for its key, and no shape for any other
unfoldable pub lone : ℕ → ℕ → Shape → Shape
lone k head q = elim (eqb k head) [ true ↦ q | false ↦ no_shape ]

-- 01, The line: T with brackets: `(bits E)` and `(signed E)`
unfoldable pub widths : List (ℕ × Shape)
widths =
    (key (bytes "bits"), fixed 1 E Nothing Nothing Nothing) ∷ (key (bytes "signed"), fixed 1 E Nothing Nothing Nothing) ∷ []

-- 01, The line: the parts behind a head of T with that key; no shape for any other
unfoldable pub width_shape : ℕ → Shape
width_shape k = lookup_key widths no_shape k

-- 01, The line: S: `(set NAME START)`, `(default NAME)`, `(loop S...)`, `(when (then S...) (else S...))`
unfoldable pub stmts : List (ℕ × Shape)
stmts =
    (key (bytes "set"), fixed 2 Name Start Nothing Nothing) ∷ (key (bytes "default"), fixed 1 Name Nothing Nothing Nothing)
    ∷ (key (bytes "loop"), behind 0 S S S S S) ∷ (key (bytes "when"), fixed 2 ThenS ElseS Nothing Nothing) ∷ []

-- 01, The line: the parts behind a head of S with that key; no shape for any other
unfoldable pub stmt_shape : ℕ → Shape
stmt_shape k = lookup_key stmts no_shape k

-- 01, The line: items: each head and its parts
unfoldable pub items : List (ℕ × Shape)
items =
    (key (bytes "port"), fixed 4 Dir Name T Start) ∷ (key (bytes "wire"), fixed 3 Name E Start Nothing)
    ∷ (key (bytes "reg"), fixed 2 Name Start Nothing Nothing) ∷ (key (bytes "mem"), fixed 2 Name Start Nothing Nothing)
    ∷ (key (bytes "const"), fixed 2 Name E Nothing Nothing) ∷ (key (bytes "drive"), fixed 2 Lv E Nothing Nothing)
    ∷ (key (bytes "on"), behind 1 Start S S S S) ∷ (key (bytes "inst"), behind 4 Name X Mod Start C)
    ∷ (key (bytes "repeat"), behind 3 Name E E I I) ∷ (key (bytes "constif"), fixed 3 E ThenI ElseI Nothing) ∷ []

-- 01, The line: the parts behind a head of an item with that key; no shape for any other
unfoldable pub item_shape : ℕ → Shape
item_shape k = lookup_key items no_shape k

-- 01, The line: `(module M bound)` or `unbound`, `(kind NAME K)`, `(val NAME INT)`
unfoldable pub headers : List (ℕ × Shape)
headers =
    (key (bytes "module"), fixed 2 Count Bound Nothing Nothing) ∷ (key (bytes "kind"), fixed 2 Name Kind Nothing Nothing)
    ∷ (key (bytes "val"), fixed 2 Name Int Nothing Nothing) ∷ []

-- 01, The line: the parts behind a line's head with that key: `module`, `kind`, `val`, or else an item's
unfoldable pub line_shape : ℕ → Shape
line_shape k = lookup_key headers (item_shape k) k

-- 01, The line: the parts behind a head with that key of a form of a category; a number or a word is no form
abbrev pub shape : Cat → ℕ → Shape
shape Name k = no_shape
shape Start k = no_shape
shape Mod k = no_shape
shape Count k = no_shape
shape Int k = no_shape
shape Kind k = no_shape
shape Dir k = no_shape
shape Bound k = no_shape
shape E k = expr_shape (op_of k)
shape X k = expr_shape (op_of k)
shape T k = width_shape k
shape Lv k = lone k (key (bytes "lv")) (fixed 2 Name Start E E)
shape C k = lone k (key (bytes "conn")) (fixed 2 Name E Nothing Nothing)
shape S k = stmt_shape k
shape I k = item_shape k
shape ThenS k = lone k (key (bytes "then")) (behind 0 S S S S S)
shape ElseS k = lone k (key (bytes "else")) (behind 0 S S S S S)
shape ThenI k = lone k (key (bytes "then")) (behind 0 I I I I I)
shape ElseI k = lone k (key (bytes "else")) (behind 0 I I I I I)
shape L k = line_shape k
shape Nothing k = no_shape

-- 01, The line: what is left of a shape behind one part
abbrev pub shift : Shape → Shape
shift q = record { need = q.need - 1; a = q.b; b = q.c; c = q.d; d = q.last; last = q.last }

-- ---- parts

-- 01, The line: E without brackets as a part: a literal, `true` or `false`
unfoldable pub literal : Bytes → ℕ → Option Parsed
literal t at =
    elim (is_digit (class_of (get_or t at 0))) [
      | true ↦ numbered (number_at t at) number_bound
      | false ↦ worded (either (word_at t at).key (key (bytes "true")) (key (bytes "false"))) (word_at t at).next
    ]

-- 01, The line: a part of a category at a position where no bracket opens: a number, a word, a literal, `-` for X; bad where the category has only
-- forms, or nothing
abbrev pub atom : Cat → Bytes → ℕ → Option Parsed
atom Name t at = numbered (number_at t at) name_bound
atom Start t at = numbered (number_at t at) number_bound
atom Mod t at = numbered (number_at t at) module_bound
atom Count t at = counted (number_at t at)
atom Int t at = int_at t at
atom Kind t at = worded (is_some (kind_of (word_at t at).key)) (word_at t at).next
atom Dir t at = worded (either (word_at t at).key (key (bytes "in")) (key (bytes "out"))) (word_at t at).next
atom Bound t at = worded (either (word_at t at).key (key (bytes "bound")) (key (bytes "unbound"))) (word_at t at).next
atom E t at = literal t at
atom X t at = elim (eqb (get_or t at 0) 45) [ true ↦ good (at + 1) true | false ↦ literal t at ]
atom T t at = worded (either (word_at t at).key (key (bytes "bit")) (key (bytes "opaque"))) (word_at t at).next
atom Lv t at = None
atom C t at = None
atom S t at = None
atom I t at = None
atom ThenS t at = None
atom ElseS t at = None
atom ThenI t at = None
atom ElseI t at = None
atom L t at = None
atom Nothing t at = None

-- 01, The line; Refused because of the text: the parts of a form from i on, of which q is left, each behind one space, and then its last bracket,
-- with `f` for a part; fewer than `left` of them. `range` (5) is whether all was in range so far
unfoldable pub parts_at : (Cat → ℕ → Option Parsed) → ℕ → Bytes → Shape → ℕ → Bool → Option Parsed
parts_at f zero t q i range = None
parts_at f (suc left) t q i range =
    elim (eqb (get_or t i 0) 41) [
      | true ↦ elim (eqb q.need 0) [ true ↦ good (i + 1) range | false ↦ None ]
      | false ↦ elim (eqb (get_or t i 0) 32) [
        | true ↦ elim (f q.a (i + 1)) [ None ↦ None | Some p ↦ parts_at f left t (shift q) p.next (range && p.range) ]
        | false ↦ None
      ]
    ]

-- 01, The line: the form of a category whose bracket opens at a position: its head word, then its parts, with `f` for a part
unfoldable pub form_at : (Cat → ℕ → Option Parsed) → Cat → Bytes → ℕ → Option Parsed
form_at f c t at =
    let w = word_at t (at + 1) in
    parts_at f (length t) t (shape c w.key) w.next true

-- 01, The line: the part of a category at a position, at most d brackets deep
unfoldable pub scan : ℕ → Cat → Bytes → ℕ → Option Parsed
scan zero c t at = elim (eqb (get_or t at 0) 40) [ true ↦ None | false ↦ atom c t at ]
scan (suc d) c t at = elim (eqb (get_or t at 0) 40) [ true ↦ form_at (λ k i. scan d k t i) c t at | false ↦ atom c t at ]
