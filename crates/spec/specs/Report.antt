-- Reports, and reports as bytes. 01: The report.
-- To a reader: definitions to believe.
use Rattle.std.specs.Prelude.{List, [], ◌∷◌, ◌++◌, ℕ, ℤ}
use Rattle.std.proofs.Math.Option.{Option, some, none}
use Rattle.spec.specs.Bytes.{Bytes, bytes, show_number, show_int, show_form}
use Rattle.spec.specs.Site.{Misuse, wire_driven, reg_driven, mem_driven, arrow}
use Rattle.spec.specs.Edge.{Node, signal, inst_out}

-- 01, The report: what is said of a name.
pub data Detail : Type 0 where
  misused : Misuse → Detail
  many never : Detail
  gap : ℕ → Detail
  no_block blocks mem_blocks : Detail

-- 01, The report: a report about a name, or a loop.
pub data Report : Type 0 where
  report : (module_number start name : ℕ) → Detail → Report
  loop_report : (module_number start : ℕ) → List Node → Report

-- 01, The report: `(CODE M START NAME DETAIL)`.
abbrev pub code_of : Detail → Bytes
code_of (misused wire_driven) = bytes "E0501"
code_of (misused reg_driven) = bytes "E0505"
code_of (misused mem_driven) = bytes "E0505"
code_of (misused arrow) = bytes "E0505"
code_of many = bytes "E0501"
code_of never = bytes "E0502"
code_of (gap b) = bytes "E0502"
code_of no_block = bytes "E0503"
code_of blocks = bytes "E0503"
code_of mem_blocks = bytes "E0503"

-- 01, The report: E0505 has `reg`, `mem` or `arrow`; `gap` a bit.
abbrev pub show_detail : Detail → List Bytes
show_detail (misused wire_driven) = bytes "wire" ∷ []
show_detail (misused reg_driven) = bytes "reg" ∷ []
show_detail (misused mem_driven) = bytes "mem" ∷ []
show_detail (misused arrow) = bytes "arrow" ∷ []
show_detail many = bytes "many" ∷ []
show_detail never = bytes "never" ∷ []
show_detail (gap b) = bytes "gap" ∷ show_number b ∷ []
show_detail no_block = bytes "none" ∷ []
show_detail blocks = bytes "blocks" ∷ []
show_detail mem_blocks = bytes "memblocks" ∷ []

-- 01, The report: INDEX, `-` for none. Decision: a negative one with its minus.
abbrev pub show_node_index : Option ℤ → Bytes
show_node_index none = bytes "-"
show_node_index (some z) = show_int z

-- 01, The report: a signal as its number, an output as `(u NAME INDEX NAME)`, `-` for none.
unfoldable pub show_node : Node → Bytes
show_node (signal n) = show_number n
show_node (inst_out i x o) = show_form (bytes "u") (show_number i ∷ show_node_index x ∷ show_number o ∷ [])

-- 01, The report: NODE ...
unfoldable pub show_nodes : List Node → List Bytes
show_nodes [] = []
show_nodes (n ∷ ns) = show_node n ∷ show_nodes ns

-- 01, The report: loops `(E0504 M START (walk NODE ...))`.
unfoldable pub show_report : Report → Bytes
show_report (report m start n d) = show_form (code_of d) (show_number m ∷ show_number start ∷ show_number n ∷ show_detail d)
show_report (loop_report m start ns) = show_form (bytes "E0504") (show_number m ∷ show_number start ∷ show_form (bytes "walk") (show_nodes ns) ∷ [])

-- 01: output: one text of report lines.
unfoldable pub show_reports : List Report → Bytes
show_reports [] = []
show_reports (r ∷ rs) = show_report r ++ 10 ∷ show_reports rs
