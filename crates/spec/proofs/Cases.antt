-- The ten cases of 01's table hold: each row is computed by the definitions. 01: The report.
-- Assumes nothing.
use mathlib.Core.Path.{◌≡◌, refl, ap, ◌∙◌}
use mathlib.Core.Bool.{Bool, true, false}
use mathlib.Core.List.{[], ◌∷◌, ◌++◌}
use Prim.Native.Nat.{ℕ}
use lib.ListN.{length, take, drop}
use lib.Dec.{ltb}
use Rattle.spec.specs.Bytes.{Bytes, same_bytes, lookup_word, digits, show_number, show_int, number_after, number, negated, integer, show_rest, show_form, is_form, onto, parts_from, parts}
use Rattle.spec.specs.Show.{show_expr, show_exprs, show_width, show_index, show_lvalue, show_stmt, show_stmts, show_place, show_conns, show_item, show_items, show_header, show_line}
use Rattle.spec.specs.Decode.{by_head, expr_heads, exprs_by, expr_by, decode_atom, decode_expr, width_by, decode_width, index_by, lvalue_by, decode_lvalue, stmt_heads, stmts_by, stmts_in, stmt_by, decode_stmt, decode_place, decode_conn, decode_conns, item_heads, items_by, items_in, decode_dir, on_by, inst_by, repeat_by, item_by, decode_item, kinds, line_by, decode_line}
use Rattle.spec.specs.Refusal.{Verdict, well_formed, refused as refused_text, lines, byte_fault, ends_in_feed, set_fault, closes, one_form, written, expr_in_range, exprs_in_range, width_in_range, index_in_range, stmt_in_range, stmts_in_range, place_in_range, conns_in_range, inst_in_range, item_in_range, items_in_range, in_int, line_in_range, after_line, in_place, has_name, first_kind, tree_fault, line_fault, lines_fault, refusal, decode_lines, gather, decode}
use Rattle.spec.specs.Bits.{bits_and, bits_or, bits_xor, shift_up, shift_down}
use Rattle.spec.specs.Value.{value_of_name, within, bit_length, clog2_bits, clog2_value, unary_value, shl_value, shr_value, binary_value, value, val_names, with_value, const_names, name_table, own_vals}
use Rattle.spec.specs.Collect.{collect_rounds, repeat_rounds, collect_repeat, collect_branch, collect_inner, collect_items, collection}
use Rattle.spec.specs.Site.{kind_of, lvalue_extent, line_sites, sites, index_constants, place_constants, line_constants, any_outside, lines_outside, sites_of, meets_any, first_conflict, stmt_misuses, stmts_misuses, line_misuses, misuses, once_a_name, misused_names, insert_conflict, conflicts, conflict_names, line_outputs, output_lines, first_lines, outputs, only_ranges, width_value, covered, gap_from, first_gap, deciding_width, coverage}
use Rattle.spec.specs.Block.{stmt_pairs, stmts_pairs, line_pairs, has_pair, different_pairs, all_pairs, pairs, block_count, line_regs, line_mems, storage_lines, first_storage, regs, mems}
use Rattle.spec.specs.DepthFirst.{backwards, in_turn, among, each_once, back_to, step, search}
use Rattle.spec.specs.Edge.{field_of, expr_reads, exprs_reads, index_reads, reaches, conn_reads, place_value, has_output, output_heads, inst_edges, line_heads, inst_of, all_nodes, head_nodes, all_reads, reads_of, edges_from, edge_count, over_graph}
use Rattle.spec.specs.Summary.{onward, inputs_among, inputs_reached, paired, top_outputs, outputs_reach, module_summary, kept_summary, triples, ask_for, lines_heads, make_summary, comb_summary, module_heads}
use Rattle.spec.specs.FindCycles.{start_of, insert_node, ascending, next_nodes, roots, find_cycles}
use Rattle.spec.specs.Report.{show_node, show_nodes, show_report, show_reports}
use Rattle.spec.specs.Check.{Answer, Checked, refuse, accept, answer_read, program_buffer, misuse_reports, conflict_reports, output_reports, widths_out, storage_reports, loop_reports, check_module_drivers, check_modules, check_design, answer_checked, check_drivers}
use Rattle.spec.specs.Cases.{Outcome, accepted, refused, answer_of, Case, program_prints, Answers, Prints, Holds, P1, P2, P3, P4, P5, P6, P7, P8, P9, P10, TenCases}

-- the outcome of a check with so much room for the report text
unfoldable pub checked_outcome : ℕ → Checked → Outcome
checked_outcome room c =
    elim c.full [
      | true ↦ refused 20 0
      | false ↦
          let text = show_reports c.reports in
          elim (ltb room (length text)) [ true ↦ refused 21 0 | false ↦ accepted (length c.reports) c.rounds text ]
    ]

unfoldable pub read_outcome : ℕ → Verdict → Bytes → Outcome
read_outcome room (refused_text number line) text = refused number line
read_outcome room well_formed text = checked_outcome room (check_design (decode text))

-- the outcome of a text; where this unfolds, all the definitions that it rests on do
unfoldable pub outcome : Bytes → Outcome
unfolding read_outcome checked_outcome same_bytes lookup_word digits show_number show_int number_after number negated integer show_rest show_form is_form onto parts_from parts show_expr show_exprs show_width show_index show_lvalue show_stmt show_stmts show_place show_conns show_item show_items show_header show_line by_head expr_heads exprs_by expr_by decode_atom decode_expr width_by decode_width index_by lvalue_by decode_lvalue stmt_heads stmts_by stmts_in stmt_by decode_stmt decode_place decode_conn decode_conns item_heads items_by items_in decode_dir on_by inst_by repeat_by item_by decode_item kinds line_by decode_line lines byte_fault ends_in_feed set_fault closes one_form written expr_in_range exprs_in_range width_in_range index_in_range stmt_in_range stmts_in_range place_in_range conns_in_range inst_in_range item_in_range items_in_range in_int line_in_range after_line in_place has_name first_kind tree_fault line_fault lines_fault refusal decode_lines gather decode value_of_name within bit_length clog2_bits clog2_value unary_value bits_and bits_or bits_xor shift_up shift_down shl_value shr_value binary_value value val_names with_value const_names name_table own_vals collect_rounds repeat_rounds collect_repeat collect_branch collect_inner collect_items collection kind_of lvalue_extent line_sites sites index_constants place_constants line_constants any_outside lines_outside sites_of meets_any first_conflict stmt_misuses stmts_misuses line_misuses misuses once_a_name misused_names insert_conflict conflicts conflict_names line_outputs output_lines first_lines outputs only_ranges width_value covered gap_from first_gap deciding_width coverage stmt_pairs stmts_pairs line_pairs has_pair different_pairs all_pairs pairs block_count line_regs line_mems storage_lines first_storage regs mems backwards in_turn among each_once back_to step search field_of expr_reads exprs_reads index_reads reaches conn_reads place_value has_output output_heads inst_edges line_heads inst_of all_nodes head_nodes all_reads reads_of edges_from edge_count over_graph onward inputs_among inputs_reached paired top_outputs outputs_reach module_summary kept_summary triples ask_for lines_heads make_summary comb_summary module_heads start_of insert_node ascending next_nodes roots find_cycles show_node show_nodes show_report show_reports misuse_reports conflict_reports output_reports widths_out storage_reports loop_reports check_module_drivers check_modules check_design
outcome text = read_outcome program_buffer (refusal text) text

checked_answer : (c : Checked) (buffer : Bytes) → answer_checked c buffer ≡ answer_of (checked_outcome (length buffer) c) buffer
unfolding answer_checked checked_outcome
checked_answer c buffer = both c.full (ltb (length buffer) (length (show_reports c.reports)))
  where
    both : (full long : Bool)
        → elim full as (λ _. Answer) [
          | true ↦ refuse 20 0 buffer
          | false ↦ elim long as (λ _. Answer) [ true ↦ refuse 21 0 buffer | false ↦ accept (show_reports c.reports) c buffer ]
        ]
        ≡ answer_of
        (elim full as (λ _. Outcome) [
          | true ↦ refused 20 0
          | false ↦ elim long as (λ _. Outcome) [ true ↦ refused 21 0 | false ↦ accepted (length c.reports) c.rounds (show_reports c.reports) ]
        ])
        buffer
    both true long = refl
    both false true = refl
    both false false = refl

read_answer : (v : Verdict) (text buffer : Bytes) → answer_read v text buffer ≡ answer_of (read_outcome (length buffer) v text) buffer
unfolding read_outcome
read_answer (refused_text number line) text buffer = refl
read_answer well_formed text buffer = checked_answer (check_design (decode text)) buffer

-- the answer of the check is that of the outcome, whatever the buffer of that length holds
outcome_answer : (text : Bytes) → Answers text (outcome text)
unfolding check_drivers outcome
outcome_answer text working long buffer room =
    ap {B = Answer} (λ (b : Bool). elim b [ true ↦ refuse 20 0 buffer | false ↦ answer_read (refusal text) text buffer ]) long
    ∙ read_answer (refusal text) text buffer
    ∙ ap (λ n. answer_of (read_outcome n (refusal text) text) buffer) room

take_all : (l r : Bytes) → take (length l) (l ++ r) ≡ l
take_all [] r = refl
take_all (x ∷ l) r = ap {B = Bytes} (λ t. x ∷ t) (take_all l r)

-- what the program prints of an outcome
unfoldable pub printing : Outcome → Bytes
printing (accepted reports rounds written) = written
printing (refused number line) = program_prints (refuse number line [])

outcome_prints : (o : Outcome) (buffer : Bytes) → program_prints (answer_of o buffer) ≡ printing o
unfolding printing
outcome_prints (accepted reports rounds written) buffer = take_all written (drop (length written) buffer)
outcome_prints (refused number line) buffer = refl

-- what the program prints for a text, by computing
unfoldable pub computed_print : Bytes → Bytes
unfolding outcome printing
computed_print text = printing (outcome text)

-- what is computed so is what the program prints, whatever is lent
pub program_print : (text prints : Bytes) → computed_print text ≡ prints → Prints text prints
unfolding computed_print
program_print text prints computed working long buffer room =
    ap program_prints (outcome_answer text working long buffer room) ∙ outcome_prints (outcome text) buffer ∙ computed

-- what is computed so is the answer, whatever is lent
pub answers : (text : Bytes) (o : Outcome) → outcome text ≡ o → Answers text o
answers text o computed working long buffer room = outcome_answer text working long buffer room ∙ ap (λ p. answer_of p buffer) computed

-- a case holds where its outcome is what is computed, and its printed bytes are those of that outcome
row : (c : Case) → outcome c.text ≡ c.outcome → printing c.outcome ≡ c.prints → Holds c
row c computed prints = (
  answers c.text c.outcome computed,
  λ working long buffer room. ap program_prints (answers c.text c.outcome computed working long buffer room) ∙ outcome_prints c.outcome buffer ∙ prints,
)

p1 : Holds P1
unfolding outcome printing
p1 = row P1 refl refl

p2 : Holds P2
unfolding outcome printing
p2 = row P2 refl refl

p3 : Holds P3
unfolding outcome printing
p3 = row P3 refl refl

p4 : Holds P4
unfolding outcome printing
p4 = row P4 refl refl

p5 : Holds P5
unfolding outcome printing
p5 = row P5 refl refl

p6 : Holds P6
unfolding outcome printing
p6 = row P6 refl refl

p7 : Holds P7
unfolding outcome printing
p7 = row P7 refl refl

p8 : Holds P8
unfolding outcome printing
p8 = row P8 refl refl

p9 : Holds P9
unfolding outcome printing
p9 = row P9 refl refl

p10 : Holds P10
unfolding outcome printing
p10 = row P10 refl refl

-- the ten cases hold
pub ten_cases : TenCases
ten_cases = (p1, (p2, (p3, (p4, (p5, (p6, (p7, (p8, (p9, (p10, tt))))))))))
