-- The tables of a design: what the reader leaves in the lent slices of a text that it accepts. 01: The line.
-- To a reader: definitions that contracts of this and other crates cite; each such contract is proved; check_drivers' own promise cites none of them.
use Rattle.std.specs.Prelude.{Bool, true, false, List, [], ◌∷◌, Option, Some, None, ℕ, suc, ◌+◌, ◌*◌, eqb, length, get_or, set}
use Rattle.spec.specs.Bytes.{Bytes, bytes}
use Rattle.spec.specs.Syntax.{name_bound, Kind, in_kind, out_kind, wire_kind, reg_kind, mem_kind, inst_kind, Header, kind, val, Items, Design, module_line}
use Rattle.spec.specs.Show.{show_line, show_lines, header_lines, item_lines}
use Rattle.lines.specs.Parse.{key, word_at}
use Rattle.lines.specs.Read.{number_after}
use Rattle.lines.specs.declared.parse.Number.{Number}

-- 01, The line: the number of a kind; 0 is no kind
abbrev pub kind_number : Kind → ℕ
kind_number in_kind = 1
kind_number out_kind = 2
kind_number wire_kind = 3
kind_number reg_kind = 4
kind_number mem_kind = 5
kind_number inst_kind = 6

-- 01, The line: 1 for `bound`, 0 for `unbound`
abbrev pub flag : Bool → ℕ
flag true = 1
flag false = 0

-- 01, The line: the table with the kinds of module m: the kind of name n at m * 256 + n
unfoldable pub put_header : ℕ → List Header → List ℕ → List ℕ
put_header m [] table = table
put_header m (kind n k ∷ hs) table = put_header m hs (set table (m * name_bound + n) (kind_number k))
put_header m (val n v ∷ hs) table = put_header m hs table

-- 01, The line: the table with the kinds of each of these modules, numbered from m on
unfoldable pub put_kinds : ℕ → Design → List ℕ → List ℕ
put_kinds m [] table = table
put_kinds m (k ∷ ms) table = put_kinds (suc m) ms (put_header m k.header table)

-- 01, The line: the table with the places of module m: whether it is bound, and where its header, its items and what is behind it begin
abbrev pub entries : List ℕ → ℕ → ℕ → ℕ → ℕ → ℕ → List ℕ
entries table m b h i e = set (set (set (set table (m * 4) b) (m * 4 + 1) h) (m * 4 + 2) i) (m * 4 + 3) e

-- 01, The line: the table with the last two places of module m: where its items and what is behind it begin
abbrev pub marked : List ℕ → ℕ → ℕ → ℕ → List ℕ
marked table m i e = set (set table (m * 4 + 2) i) (m * 4 + 3) e

-- 01, The line: how many bytes header lines are, with their line feeds
unfoldable pub header_size : List Header → ℕ
header_size hs = length (show_lines (header_lines hs []))

-- 01, The line: how many bytes item lines are, with their line feeds
unfoldable pub items_size : Items → ℕ
items_size is = length (show_lines (item_lines is []))

-- 01, The line: where the header of module m begins whose line is at o
unfoldable pub header_at : ℕ → ℕ → Bool → ℕ
header_at m o b = o + length (show_line (module_line m b)) + 1

-- 01, The line: the table with the places of each of these modules, numbered from m on, the line of the first being at o
unfoldable pub put_mods : ℕ → ℕ → Design → List ℕ → List ℕ
put_mods m o [] table = table
put_mods m o (k ∷ ms) table =
    let h = header_at m o k.bound in
    let i = h + header_size k.header in
    let e = i + items_size k.items in
    put_mods (suc m) e ms (entries table m (flag k.bound) h i e)

-- ---- what the code reads

-- 01, The line: the key of the word behind a number and one space, and 0 where there is no number or no space
abbrev pub second_behind : Option Number → Bytes → ℕ
second_behind None t = 0
second_behind (Some n) t = elim (eqb (get_or t n.next 0) 32) [ true ↦ (word_at t (n.next + 1)).key | false ↦ 0 ]

-- 01, The line: the key of the word behind the number of the form at a position, `(head NUMBER WORD`, and 0 where none stands so
unfoldable pub second_key : Bytes → ℕ → ℕ
second_key t at = elim (eqb (get_or t at 0) 40) [ true ↦ second_behind (number_after t (word_at t (at + 1)).next) t | false ↦ 0 ]

-- 01, The line: 1 for the key of `bound`, and 0 for any other
unfoldable pub flag_of : ℕ → ℕ
flag_of k = elim (eqb k (key (bytes "bound"))) [ true ↦ 1 | false ↦ 0 ]
