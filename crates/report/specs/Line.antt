-- Report lines in pieces, what the code's records mean, and what writing a piece does to a lent buffer. 01: The report; Refused because of the state.
-- To a reader: definitions that contracts of this and other crates cite; each such contract is proved; check_drivers' own promise cites none of them.
use Rattle.std.specs.Prelude.{◌≡◌, Bool, true, false, [], ◌∷◌, ◌++◌, ℕ, ◌+◌, ◌-◌, ltb, leb, ℤ, pos, negsuc, length, take, drop, Option, Some, None}
use Rattle.std.proofs.Math.Option.{Option as Maybe, some, none}
use Rattle.std.proofs.lemmas.List.Edits.{sets}
use Rattle.spec.specs.Bytes.{Bytes, bytes, show_number, show_rest, show_form}
use Rattle.spec.specs.Site.{wire_driven, reg_driven, mem_driven, arrow}
use Rattle.spec.specs.Edge as edge
use Rattle.spec.specs.Report as spec
use Rattle.report.specs.declared.Detail.{Detail}
use Rattle.report.specs.declared.Detail.TheVariants as detail
use Rattle.report.specs.declared.Report.{Report}
use Rattle.report.specs.declared.Node.{Node}
use Rattle.report.specs.declared.Node.TheVariants as node

-- 01, The report: DETAIL: what the code's `Detail` means
abbrev pub detail_of : Detail → spec.Detail
detail_of detail.Wire = spec.misused wire_driven
detail_of detail.Reg = spec.misused reg_driven
detail_of detail.Mem = spec.misused mem_driven
detail_of detail.Arrow = spec.misused arrow
detail_of detail.Many = spec.many
detail_of detail.Never = spec.never
detail_of (detail.Gap b) = spec.gap b
detail_of detail.NoBlock = spec.no_block
detail_of detail.Blocks = spec.blocks
detail_of detail.MemBlocks = spec.mem_blocks

-- 01, The report: a report about a name: what the code's `Report` means
abbrev pub report_of : Report → spec.Report
report_of r = spec.report r.number r.start r.name (detail_of r.detail)

-- 01, The report: the whole number that v holds, 2147483648 below it
unfoldable pub unbiased : ℕ → ℤ
unbiased v = elim (ltb v 2147483648) [ true ↦ negsuc (2147483647 - v) | false ↦ pos (v - 2147483648) ]

-- 01, The report: INDEX: what v holds, or none
abbrev pub index_of : Option ℕ → Maybe ℤ
index_of (Some v) = some (unbiased v)
index_of None = none

-- 01, The report: NODE, a signal or an instance output: what the code's `Node` means
abbrev pub node_of : Node → edge.Node
node_of (node.Signal n) = edge.signal n
node_of (node.Output i x o) = edge.inst_out i (index_of x) o

-- 01, The report: the last digit of a report's CODE, as a byte
abbrev pub code_digit : Detail → ℕ
code_digit detail.Wire = 49
code_digit detail.Reg = 53
code_digit detail.Mem = 53
code_digit detail.Arrow = 53
code_digit detail.Many = 49
code_digit detail.Never = 50
code_digit (detail.Gap b) = 50
code_digit detail.NoBlock = 51
code_digit detail.Blocks = 51
code_digit detail.MemBlocks = 51

-- 01, The report: a space and a number
unfoldable pub field : ℕ → Bytes
field n = 32 ∷ show_number n

-- 01, The report: `(CODE M START NAME`: a report's code, by its last digit, and its three numbers
unfoldable pub line_head : ℕ → ℕ → ℕ → ℕ → Bytes
line_head digit m start name = bytes "(E050" ++ ((digit ∷ []) ++ (field m ++ (field start ++ field name)))

-- 01, The report: what ends a line, behind the name: ` DETAIL)` and a line feed
unfoldable pub detail_end : Detail → Bytes
detail_end d = show_rest (spec.show_detail (detail_of d)) ++ 10 ∷ []

-- 01, The report: a report's line, with its line feed
unfoldable pub line : Report → Bytes
line r = spec.show_report (report_of r) ++ 10 ∷ []

-- 01, The report: INDEX as it is written, `-` for none
abbrev pub index_bytes : Option ℕ → Bytes
index_bytes x = spec.show_node_index (index_of x)

-- 01, The report: NODE as it is written
unfoldable pub node_bytes : Node → Bytes
node_bytes n = spec.show_node (node_of n)

-- 01, The report: the head of a loop report's line, `(E0504 M START (walk`
unfoldable pub walk_head : ℕ → ℕ → Bytes
walk_head m start = bytes "(E0504" ++ (field m ++ (field start ++ bytes " (walk"))

-- 01, The report: a node of a loop report's line, ` NODE`
unfoldable pub walk_node : Node → Bytes
walk_node n = 32 ∷ node_bytes n

-- 01, The report: an instance output as a node, ` (u NAME INDEX NAME)`
unfoldable pub output_bytes : ℕ → Option ℕ → ℕ → Bytes
output_bytes i x o = bytes " (u" ++ (field i ++ (bytes " " ++ (index_bytes x ++ (field o ++ bytes ")"))))

-- 01, The report: the end of a loop report's line, `))` and a line feed
abbrev pub walk_tail : Bytes
walk_tail = 41 ∷ 41 ∷ 10 ∷ []

-- 01, The report: the program prints `(refused NUMBER LINE)` for a refusal, and a line feed
unfoldable pub refused_line : ℕ → ℕ → Bytes
refused_line number at = show_form (bytes "refused") (show_number number ∷ show_number at ∷ []) ++ 10 ∷ []

-- 01, The report; Refused because of the state: a piece p is written at a place of l and ends at r, and l' is what is left: other bytes keep theirs
pub record Ran (l : Bytes) (at : ℕ) (p : Bytes) (r : ℕ) (l' : Bytes) : Type 0 where
  pub to : r ≡ at + length p
  pub left : l' ≡ sets l at p

-- 01, Refused because of the state: 21 where a piece does not fit in the buffer, else 0
abbrev pub number_of : Option ℕ → ℕ
number_of (Some end) = 0
number_of None = 21

-- 01, The report: where a written piece ends; 0 where it does not fit
abbrev pub end_of : Option ℕ → ℕ
end_of (Some end) = end
end_of None = 0

-- 01, The report: what a writer answers, its number and where the piece ends, and the buffer that it leaves
pub record Written : Type 0 where
  pub number : ℕ
  pub end : ℕ
  pub buffer : Bytes

-- 01, The report: the same, by its parts
abbrev pub put_by : Option ℕ → Bytes → Written
put_by r buf = record { number = number_of r; end = end_of r; buffer = buf }

-- 01, The report; Refused because of the state: a piece written at a place: those bytes and no other, and nothing where it does not fit
unfoldable pub placed : Bytes → ℕ → Bytes → Written
placed buf at piece =
    elim (leb (at + length piece) (length buf)) [
      | true ↦ put_by (Some (at + length piece)) (take at buf ++ piece ++ drop (at + length piece) buf)
      | false ↦ put_by None buf
    ]
