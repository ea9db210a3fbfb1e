-- Small texts computed by the definitions, each rule of 01 among them. What is printed is what the original Rust reports; of a
-- refusal, on ties, where `shr` is by 0, and of an `f` that is no output of an instance, it is what 01 and 02 demand. 01: all sections.
-- Assumes nothing.
use mathlib.Core.Path.{◌≡◌, refl}
use mathlib.Core.List.{List, [], ◌∷◌}
use Prim.Native.String.{String}
use Rattle.spec.specs.Bytes.{Bytes, bytes}
use Rattle.spec.specs.Cases.{text_of, Prints}
use Rattle.spec.proofs.Cases.{computed_print, program_print}

-- a name, a text, and what is printed for it
record Example : Type 0 where
  name : String
  text : Bytes
  prints : Bytes

-- by lines, each with its line feed; `raw` gives the text byte by byte
abbrev example : String → List String → List String → Example
example name text prints = record { name = name; text = text_of text; prints = text_of prints }

abbrev raw : String → String → List String → Example
raw name text prints = record { name = name; text = bytes text; prints = text_of prints }

-- every example of a table prints what it says
abbrev AllPrint : List Example → Type 0
AllPrint [] = Unit
AllPrint (e ∷ es) = Prints e.text e.prints × AllPrint es

abbrev AllComputed : List Example → Type 0
AllComputed [] = Unit
AllComputed (e ∷ es) = (computed_print e.text ≡ e.prints) × AllComputed es

printed : (es : List Example) → AllComputed es → AllPrint es
printed [] c = tt
printed (e ∷ es) (r, rs) = (program_print e.text e.prints r, printed es rs)

-- 01, The value.
abbrev value_table : List Example
value_table =
    example "line_val_later_wins" ("(module 0 bound)" ∷ "(kind 1 out)" ∷ "(val 2 8)" ∷ "(val 2 4)" ∷ "(port out 1 (bits (n 2)) 10)" ∷ "(drive (lv 1 20 3 0) 0)" ∷ []) []
    ∷ example "value_arithmetic" ("(module 0 bound)" ∷ "(constif (eq (add 2 3) 5) (then (reg 1 10)) (else))" ∷ "(constif (eq (sub 2 3) (neg 1)) (then (reg 2 20)) (else))" ∷ "(constif (eq (mul (neg 2) 3) (neg 6)) (then (reg 3 30)) (else))" ∷ "(constif (eq (neg (neg 4)) 4) (then (reg 4 40)) (else))" ∷ []) ("(E0503 0 10 1 none)" ∷ "(E0503 0 20 2 none)" ∷ "(E0503 0 30 3 none)" ∷ "(E0503 0 40 4 none)" ∷ [])
    ∷ example "value_comparisons" ("(module 0 bound)" ∷ "(constif (lt (neg 1) 0) (then (reg 1 10)) (else))" ∷ "(constif (lt 0 0) (then (reg 2 20)) (else))" ∷ "(constif (le 0 0) (then (reg 3 30)) (else))" ∷ "(constif (gt 1 (neg 5)) (then (reg 4 40)) (else))" ∷ "(constif (ge 1 2) (then (reg 5 50)) (else))" ∷ "(constif (ne 1 1) (then (reg 6 60)) (else))" ∷ "(constif (eq (gt 3 2) 1) (then (reg 7 70)) (else))" ∷ "(constif (ge 2 2) (then (reg 8 80)) (else))" ∷ "(constif (gt 2 2) (then (reg 9 90)) (else))" ∷ []) ("(E0503 0 10 1 none)" ∷ "(E0503 0 30 3 none)" ∷ "(E0503 0 40 4 none)" ∷ "(E0503 0 70 7 none)" ∷ "(E0503 0 80 8 none)" ∷ [])
    ∷ example "value_and_or_give_1_or_0" ("(module 0 bound)" ∷ "(constif (eq (and 5 (neg 2)) 1) (then (reg 1 10)) (else))" ∷ "(constif (eq (and 5 0) 0) (then (reg 2 20)) (else))" ∷ "(constif (eq (or 0 7) 1) (then (reg 3 30)) (else))" ∷ "(constif (eq (or 0 0) 0) (then (reg 4 40)) (else))" ∷ "(constif (eq (or 0 (neg 7)) 1) (then (reg 5 50)) (else))" ∷ []) ("(E0503 0 10 1 none)" ∷ "(E0503 0 20 2 none)" ∷ "(E0503 0 30 3 none)" ∷ "(E0503 0 40 4 none)" ∷ "(E0503 0 50 5 none)" ∷ [])
    ∷ example "value_shifts_and_bits" ("(module 0 bound)" ∷ "(constif (eq (shl 3 4) 48) (then (reg 1 10)) (else))" ∷ "(constif (eq (shr 7 1) 3) (then (reg 2 20)) (else))" ∷ "(constif (eq (shr (neg 7) 1) (neg 4)) (then (reg 3 30)) (else))" ∷ "(constif (eq (band 12 (neg 10)) 4) (then (reg 4 40)) (else))" ∷ "(constif (eq (bor 12 (neg 10)) (neg 2)) (then (reg 5 50)) (else))" ∷ "(constif (eq (bxor 12 (neg 10)) (neg 6)) (then (reg 6 60)) (else))" ∷ []) ("(E0503 0 10 1 none)" ∷ "(E0503 0 20 2 none)" ∷ "(E0503 0 30 3 none)" ∷ "(E0503 0 40 4 none)" ∷ "(E0503 0 50 5 none)" ∷ "(E0503 0 60 6 none)" ∷ [])
    ∷ example "value_clog2" ("(module 0 bound)" ∷ "(constif (eq (clog2 1) 1) (then (reg 1 10)) (else))" ∷ "(constif (eq (clog2 2) 1) (then (reg 2 20)) (else))" ∷ "(constif (eq (clog2 3) 2) (then (reg 3 30)) (else))" ∷ "(constif (eq (clog2 4) 2) (then (reg 4 40)) (else))" ∷ "(constif (eq (clog2 5) 3) (then (reg 5 50)) (else))" ∷ "(constif (eq (clog2 1073741824) 30) (then (reg 6 60)) (else))" ∷ "(constif (eq (clog2 1073741825) 31) (then (reg 7 70)) (else))" ∷ "(constif (eq (clog2 2147483647) 31) (then (reg 8 80)) (else))" ∷ []) ("(E0503 0 10 1 none)" ∷ "(E0503 0 20 2 none)" ∷ "(E0503 0 30 3 none)" ∷ "(E0503 0 40 4 none)" ∷ "(E0503 0 50 5 none)" ∷ "(E0503 0 60 6 none)" ∷ "(E0503 0 70 7 none)" ∷ "(E0503 0 80 8 none)" ∷ [])
    ∷ example "value_clog2_below_1_has_none" ("(module 0 bound)" ∷ "(constif (clog2 0) (then) (else (reg 1 10)))" ∷ "(constif (clog2 (neg 4)) (then) (else (reg 2 20)))" ∷ []) ("(E0503 0 10 1 none)" ∷ "(E0503 0 20 2 none)" ∷ [])
    ∷ example "value_and_with_a_missing_operand_has_none" ("(module 0 bound)" ∷ "(constif (not (and 0 (n 9))) (then) (else (reg 1 10)))" ∷ []) ("(E0503 0 10 1 none)" ∷ [])
    ∷ example "value_if_takes_one_branch" ("(module 0 bound)" ∷ "(constif (eq (if 1 7 (n 9)) 7) (then (reg 1 10)) (else))" ∷ "(constif (eq (if 0 (n 9) 8) 8) (then (reg 2 20)) (else))" ∷ "(constif (eq (if (neg 3) 7 8) 7) (then (reg 3 30)) (else))" ∷ []) ("(E0503 0 10 1 none)" ∷ "(E0503 0 20 2 none)" ∷ "(E0503 0 30 3 none)" ∷ [])
    ∷ example "value_f_ix_all_and_unknown_names_have_none" ("(module 0 bound)" ∷ "(constif (f (n 9) 9) (then) (else (reg 1 10)))" ∷ "(constif (ix 5 0) (then) (else (reg 2 20)))" ∷ "(constif (all 5) (then) (else (reg 3 30)))" ∷ "(constif (n 9) (then) (else (reg 4 40)))" ∷ []) ("(E0503 0 10 1 none)" ∷ "(E0503 0 20 2 none)" ∷ "(E0503 0 30 3 none)" ∷ "(E0503 0 40 4 none)" ∷ [])
    ∷ example "value_const_lines_in_order" ("(module 0 bound)" ∷ "(const 1 2)" ∷ "(const 2 (add (n 1) 1))" ∷ "(const 1 (mul (n 2) 10))" ∷ "(constif (eq (n 1) 30) (then (reg 3 10)) (else))" ∷ "(constif (eq (n 2) 3) (then (reg 4 20)) (else))" ∷ []) ("(E0503 0 10 3 none)" ∷ "(E0503 0 20 4 none)" ∷ [])
    ∷ example "value_const_without_value_is_skipped" ("(module 0 bound)" ∷ "(val 1 4)" ∷ "(const 1 (n 9))" ∷ "(constif (eq (n 1) 4) (then (reg 2 10)) (else))" ∷ []) ("(E0503 0 10 2 none)" ∷ [])
    ∷ example "value_const_inside_constif_sets_nothing" ("(module 0 bound)" ∷ "(constif 1 (then (const 1 5)) (else))" ∷ "(constif (n 1) (then) (else (reg 2 10)))" ∷ []) ("(E0503 0 10 2 none)" ∷ [])
    ∷ example "value_table_is_the_modules_own" ("(module 0 bound)" ∷ "(val 1 5)" ∷ "(module 1 bound)" ∷ "(constif (n 1) (then) (else (reg 2 10)))" ∷ []) ("(E0503 1 10 2 none)" ∷ [])
    ∷ example "value_width_is_taken_in_the_modules_own_table" ("(module 0 bound)" ∷ "(kind 1 out)" ∷ "(val 9 2)" ∷ "(repeat 9 8 9 (port out 1 (bits (n 9)) 10))" ∷ "(drive (lv 1 20 1 0) 0)" ∷ []) []
    ∷ example "unused_width_of_a_whole_output" ("(module 0 bound)" ∷ "(kind 1 out)" ∷ "(port out 1 (bits (mul 65536 65536)) 10)" ∷ "(drive (lv 1 20) 0)" ∷ []) []
    ∷ example "unused_branch_of_if" ("(module 0 bound)" ∷ "(const 1 (if 1 5 (mul 65536 65536)))" ∷ "(const 2 (if 0 (mul 65536 65536) 5))" ∷ []) []
    ∷ example "unused_second_operand_after_a_missing_one" ("(module 0 bound)" ∷ "(const 1 (add (n 9) (mul 65536 65536)))" ∷ []) []
    ∷ example "unused_body_of_a_repeat_without_rounds" ("(module 0 bound)" ∷ "(kind 1 out)" ∷ "(repeat 2 3 3 (drive (lv 1 10 (mul 65536 65536)) 0) (repeat 3 0 (mul 65536 65536)))" ∷ []) []
    ∷ example "unused_index_of_a_driven_wire" ("(module 0 bound)" ∷ "(kind 1 wire)" ∷ "(drive (lv 1 10 (mul 65536 65536)) 0)" ∷ []) ("(E0501 0 10 1 wire)" ∷ [])
    ∷ example "unused_f_index_in_a_connection_outside_the_summary" ("(module 0 bound)" ∷ "(kind 9 inst)" ∷ "(inst 9 - 1 10 (conn 4 (f (ix (n 9) (mul 65536 65536)) 3)))" ∷ "(module 1 bound)" ∷ "(kind 2 in)" ∷ "(kind 3 out)" ∷ "(kind 4 in)" ∷ "(port out 3 bit 20)" ∷ "(drive (lv 3 30) (n 2))" ∷ []) []
    ∷ example "unused_f_index_in_drives_that_read_nothing" ("(module 0 bound)" ∷ "(kind 1 reg)" ∷ "(kind 2 inst)" ∷ "(kind 3 mem)" ∷ "(kind 4 in)" ∷ "(drive (lv 1 10) (f (ix (n 2) (mul 65536 65536)) 3))" ∷ "(drive (lv 2 20) (f (ix (n 2) (mul 65536 65536)) 3))" ∷ "(drive (lv 3 30) (f (ix (n 2) (mul 65536 65536)) 3))" ∷ "(drive (lv 4 40) (f (ix (n 2) (mul 65536 65536)) 3))" ∷ "(drive (lv 5 50) (f (ix (n 2) (mul 65536 65536)) 3))" ∷ []) ("(E0505 0 10 1 reg)" ∷ "(E0505 0 30 3 mem)" ∷ [])
    ∷ example "unused_difference_of_bounds_may_leave_int" ("(module 0 bound)" ∷ "(repeat 9 (sub (neg 2147483647) 1) 2147483647 (reg 1 10))" ∷ []) ("(E0503 0 10 1 none)" ∷ [])
    ∷ []

value_rows : AllPrint value_table
unfolding computed_print
value_rows = printed value_table (refl, (refl, (refl, (refl, (refl, (refl, (refl, (refl, (refl, (refl, (refl, (refl, (refl, (refl, (refl, (refl, (refl, (refl, (refl, (refl, (refl, (refl, (refl, tt)))))))))))))))))))))))

-- 01, The collected item.
abbrev collected_table : List Example
collected_table =
    example "repeat_with_equal_bounds_runs_not_at_all" ("(module 0 bound)" ∷ "(repeat 9 2 2 (reg 1 10))" ∷ []) []
    ∷ example "repeat_with_high_below_low_runs_not_at_all" ("(module 0 bound)" ∷ "(repeat 9 3 1 (reg 1 10))" ∷ []) []
    ∷ example "repeat_high_is_not_included" ("(module 0 bound)" ∷ "(kind 1 out)" ∷ "(port out 1 (bits 4) 10)" ∷ "(repeat 9 0 3 (drive (lv 1 20 (n 9)) 0))" ∷ []) ("(E0502 0 10 1 gap 3)" ∷ [])
    ∷ example "repeat_low_is_included" ("(module 0 bound)" ∷ "(kind 1 out)" ∷ "(port out 1 (bits 4) 10)" ∷ "(repeat 9 1 4 (drive (lv 1 20 (n 9)) 0))" ∷ []) ("(E0502 0 10 1 gap 0)" ∷ [])
    ∷ example "repeat_negative_bounds" ("(module 0 bound)" ∷ "(kind 1 out)" ∷ "(port out 1 (bits 3) 10)" ∷ "(repeat 9 (neg 3) 0 (drive (lv 1 20 (add (n 9) 3)) 0))" ∷ []) []
    ∷ example "repeat_without_high_runs_once" ("(module 0 bound)" ∷ "(kind 1 out)" ∷ "(port out 1 (bits 4) 10)" ∷ "(repeat 9 0 (n 8) (reg 2 20) (drive (lv 1 30 (n 9)) 0))" ∷ []) ("(E0503 0 20 2 none)" ∷ [])
    ∷ example "repeat_without_low_runs_once" ("(module 0 bound)" ∷ "(kind 1 out)" ∷ "(port out 1 (bits 4) 10)" ∷ "(repeat 9 (n 8) 0 (reg 2 20) (drive (lv 1 30 (n 9)) 0))" ∷ []) ("(E0503 0 20 2 none)" ∷ [])
    ∷ example "repeat_run_once_shows_the_older_value" ("(module 0 bound)" ∷ "(kind 1 out)" ∷ "(val 9 2)" ∷ "(port out 1 (bits 4) 10)" ∷ "(repeat 9 0 (n 8) (drive (lv 1 20 (n 9)) 0))" ∷ []) ("(E0502 0 10 1 gap 0)" ∷ [])
    ∷ example "repeat_old_value_returns" ("(module 0 bound)" ∷ "(kind 1 out)" ∷ "(val 9 2)" ∷ "(port out 1 (bits 3) 10)" ∷ "(repeat 9 0 2 (drive (lv 1 20 (n 9)) 0))" ∷ "(drive (lv 1 30 (n 9)) 0)" ∷ []) []
    ∷ example "repeat_nested_with_one_variable" ("(module 0 bound)" ∷ "(kind 1 out)" ∷ "(port out 1 (bits 3) 10)" ∷ "(repeat 9 0 1 (repeat 9 1 3 (drive (lv 1 20 (n 9)) 0)) (drive (lv 1 30 (n 9)) 0))" ∷ []) []
    ∷ example "repeat_nested" ("(module 0 bound)" ∷ "(kind 1 out)" ∷ "(port out 1 (bits 4) 10)" ∷ "(repeat 8 0 2 (repeat 9 0 2 (drive (lv 1 20 (add (mul (n 8) 2) (n 9))) 0)))" ∷ []) []
    ∷ example "repeat_rounds_are_for_the_whole_module" ("(module 0 bound)" ∷ "(repeat 9 0 4096)" ∷ "(repeat 9 0 1 (constif (not (n 9)) (then (reg 1 10)) (else (reg 2 20))))" ∷ []) ("(E0503 0 20 2 none)" ∷ [])
    ∷ example "repeat_rounds_together_4096" ("(module 0 bound)" ∷ "(repeat 9 0 4095)" ∷ "(repeat 9 0 1 (constif (not (n 9)) (then (reg 1 10)) (else (reg 2 20))))" ∷ []) ("(E0503 0 10 1 none)" ∷ [])
    ∷ example "repeat_rounds_are_spent_before_the_body" ("(module 0 bound)" ∷ "(repeat 8 0 4096 (repeat 9 0 1 (constif (not (n 9)) (then (reg 1 10)) (else (reg 2 20)))))" ∷ []) ("(E0503 0 20 2 none)" ∷ [])
    ∷ example "repeat_run_once_spends_nothing" ("(module 0 bound)" ∷ "(repeat 9 0 4097)" ∷ "(repeat 9 0 4096 (constif (not (n 9)) (then (reg 1 10)) (else)))" ∷ []) ("(E0503 0 10 1 none)" ∷ [])
    ∷ example "repeat_rounds_are_each_modules_own" ("(module 0 bound)" ∷ "(repeat 9 0 4096)" ∷ "(module 1 bound)" ∷ "(repeat 9 0 4096 (constif (not (n 9)) (then (reg 1 10)) (else)))" ∷ []) ("(E0503 1 10 1 none)" ∷ [])
    ∷ example "repeat_over_budget_is_dynamic" ("(module 0 bound)" ∷ "(kind 1 out)" ∷ "(port out 1 (bits 8) 10)" ∷ "(repeat 9 0 4097 (drive (lv 1 20 (n 9)) 0))" ∷ "(drive (lv 1 30 0) 0)" ∷ []) ("(E0501 0 30 1 many)" ∷ [])
    ∷ example "repeat_over_budget_is_unknown_where_unbound" ("(module 0 unbound)" ∷ "(kind 1 out)" ∷ "(port out 1 (bits 8) 10)" ∷ "(repeat 9 0 4097 (drive (lv 1 20 (n 9)) 0))" ∷ "(drive (lv 1 30 0) 0)" ∷ []) []
    ∷ example "constif_without_value_takes_else" ("(module 0 bound)" ∷ "(constif (n 9) (then (reg 1 10)) (else (reg 2 20)))" ∷ []) ("(E0503 0 20 2 none)" ∷ [])
    ∷ example "constif_negative_takes_then" ("(module 0 bound)" ∷ "(constif (neg 1) (then (reg 1 10)) (else (reg 2 20)))" ∷ []) ("(E0503 0 10 1 none)" ∷ [])
    ∷ example "constif_by_the_repeat_variable" ("(module 0 bound)" ∷ "(kind 1 out)" ∷ "(port out 1 (bits 4) 10)" ∷ "(repeat 9 0 4 (constif (eq (n 9) 2) (then) (else (drive (lv 1 20 (n 9)) 0))))" ∷ []) ("(E0502 0 10 1 gap 2)" ∷ [])
    ∷ []

collected_rows : AllPrint collected_table
unfolding computed_print
collected_rows = printed collected_table (refl, (refl, (refl, (refl, (refl, (refl, (refl, (refl, (refl, (refl, (refl, (refl, (refl, (refl, (refl, (refl, (refl, (refl, (refl, (refl, (refl, tt)))))))))))))))))))))

-- 01, The site.
abbrev site_table : List Example
site_table =
    example "site_whole_meets_a_range" ("(module 0 bound)" ∷ "(kind 1 out)" ∷ "(drive (lv 1 20 3 2) 0)" ∷ "(drive (lv 1 30) 0)" ∷ []) ("(E0501 0 30 1 many)" ∷ [])
    ∷ example "site_dynamic_meets_a_range" ("(module 0 bound)" ∷ "(kind 1 out)" ∷ "(kind 2 in)" ∷ "(drive (lv 1 20 (n 2)) 0)" ∷ "(drive (lv 1 30 5) 0)" ∷ []) ("(E0501 0 30 1 many)" ∷ [])
    ∷ example "site_unknown_meets_nothing" ("(module 0 unbound)" ∷ "(kind 1 out)" ∷ "(drive (lv 1 20 (n 2)) 0)" ∷ "(drive (lv 1 30 (n 2)) 0)" ∷ "(drive (lv 1 40 5) 0)" ∷ "(drive (lv 1 50 4) 0)" ∷ []) []
    ∷ example "site_ranges_meet_where_unbound" ("(module 0 unbound)" ∷ "(kind 1 out)" ∷ "(drive (lv 1 20 3 0) 0)" ∷ "(drive (lv 1 30 3) 0)" ∷ []) ("(E0501 0 30 1 many)" ∷ [])
    ∷ example "site_bits_that_differ_meet_not" ("(module 0 bound)" ∷ "(kind 1 out)" ∷ "(drive (lv 1 20 0) 0)" ∷ "(drive (lv 1 30 1) 0)" ∷ []) []
    ∷ example "site_inner_range_meets_the_outer" ("(module 0 bound)" ∷ "(kind 1 out)" ∷ "(drive (lv 1 20 7 0) 0)" ∷ "(drive (lv 1 30 4 3) 0)" ∷ []) ("(E0501 0 30 1 many)" ∷ [])
    ∷ example "site_reversed_is_dynamic_where_bound" ("(module 0 bound)" ∷ "(kind 1 out)" ∷ "(drive (lv 1 20 0 3) 0)" ∷ "(drive (lv 1 30 9) 0)" ∷ []) ("(E0501 0 30 1 many)" ∷ [])
    ∷ example "site_reversed_is_unknown_where_unbound" ("(module 0 unbound)" ∷ "(kind 1 out)" ∷ "(drive (lv 1 20 0 3) 0)" ∷ "(drive (lv 1 30 9) 0)" ∷ []) []
    ∷ example "site_negative_low_is_dynamic_where_bound" ("(module 0 bound)" ∷ "(kind 1 out)" ∷ "(drive (lv 1 20 3 (neg 1)) 0)" ∷ "(drive (lv 1 30 9) 0)" ∷ []) ("(E0501 0 30 1 many)" ∷ [])
    ∷ example "site_search_stops_at_the_first_later_site" ("(module 0 bound)" ∷ "(kind 1 out)" ∷ "(drive (lv 1 20 0) 0)" ∷ "(drive (lv 1 30 1) 0)" ∷ "(drive (lv 1 40 0) 0)" ∷ "(drive (lv 1 50 1) 0)" ∷ []) ("(E0501 0 40 1 many)" ∷ [])
    ∷ example "site_later_is_by_collection" ("(module 0 bound)" ∷ "(kind 1 out)" ∷ "(drive (lv 1 50) 0)" ∷ "(drive (lv 1 20) 0)" ∷ []) ("(E0501 0 20 1 many)" ∷ [])
    ∷ example "site_each_round_is_a_site" ("(module 0 bound)" ∷ "(kind 1 out)" ∷ "(repeat 9 0 2 (drive (lv 1 20) 0))" ∷ []) ("(E0501 0 20 1 many)" ∷ [])
    ∷ example "site_conflict_poisons" ("(module 0 bound)" ∷ "(kind 1 out)" ∷ "(port out 1 (bits 8) 10)" ∷ "(drive (lv 1 20 0) 0)" ∷ "(drive (lv 1 30 0) 0)" ∷ []) ("(E0501 0 30 1 many)" ∷ [])
    ∷ example "conflicts_by_start_not_by_name" ("(module 0 bound)" ∷ "(kind 1 out)" ∷ "(kind 2 out)" ∷ "(drive (lv 1 20) 0)" ∷ "(drive (lv 1 60) 0)" ∷ "(drive (lv 2 30) 0)" ∷ "(drive (lv 2 40) 0)" ∷ []) ("(E0501 0 40 2 many)" ∷ "(E0501 0 60 1 many)" ∷ [])
    ∷ example "conflicts_at_one_start_by_name" ("(module 0 bound)" ∷ "(kind 1 out)" ∷ "(kind 2 out)" ∷ "(drive (lv 2 40) 0)" ∷ "(drive (lv 2 40) 0)" ∷ "(drive (lv 1 40) 0)" ∷ "(drive (lv 1 40) 0)" ∷ []) ("(E0501 0 40 1 many)" ∷ "(E0501 0 40 2 many)" ∷ [])
    ∷ []

site_rows : AllPrint site_table
unfolding computed_print
site_rows = printed site_table (refl, (refl, (refl, (refl, (refl, (refl, (refl, (refl, (refl, (refl, (refl, (refl, (refl, (refl, (refl, tt)))))))))))))))

-- 01, The site.
abbrev misuse_table : List Example
misuse_table =
    example "drive_of_a_wire" ("(module 0 bound)" ∷ "(kind 1 wire)" ∷ "(wire 1 0 10)" ∷ "(drive (lv 1 20) 0)" ∷ []) ("(E0501 0 20 1 wire)" ∷ [])
    ∷ example "drive_of_a_wire_still_reads" ("(module 0 bound)" ∷ "(kind 1 wire)" ∷ "(wire 1 0 10)" ∷ "(drive (lv 1 20) (n 1))" ∷ []) ("(E0501 0 20 1 wire)" ∷ "(E0504 0 10 (walk 1 1))" ∷ [])
    ∷ example "drive_of_a_wire_twice" ("(module 0 bound)" ∷ "(kind 1 wire)" ∷ "(kind 2 wire)" ∷ "(drive (lv 1 20) 0)" ∷ "(drive (lv 1 30) (n 2))" ∷ "(wire 2 (n 1) 40)" ∷ []) ("(E0501 0 20 1 wire)" ∷ "(E0504 0 20 (walk 1 2 1))" ∷ [])
    ∷ example "drive_of_a_wire_reads_its_indexes" ("(module 0 bound)" ∷ "(kind 1 wire)" ∷ "(drive (lv 1 20 3 (n 1)) 0)" ∷ []) ("(E0501 0 20 1 wire)" ∷ "(E0504 0 20 (walk 1 1))" ∷ [])
    ∷ example "drive_of_a_reg" ("(module 0 bound)" ∷ "(kind 1 reg)" ∷ "(drive (lv 1 20) 0)" ∷ []) ("(E0505 0 20 1 reg)" ∷ [])
    ∷ example "drive_of_a_reg_reads_nothing" ("(module 0 bound)" ∷ "(kind 1 reg)" ∷ "(kind 2 wire)" ∷ "(drive (lv 1 20) (n 2))" ∷ "(wire 2 (n 1) 30)" ∷ []) ("(E0505 0 20 1 reg)" ∷ [])
    ∷ example "drive_of_a_reg_poisons" ("(module 0 bound)" ∷ "(kind 1 reg)" ∷ "(reg 1 10)" ∷ "(drive (lv 1 20) 0)" ∷ []) ("(E0505 0 20 1 reg)" ∷ [])
    ∷ example "drive_of_a_mem_poisons" ("(module 0 bound)" ∷ "(kind 1 mem)" ∷ "(mem 1 10)" ∷ "(on 20 (set 1 21))" ∷ "(on 30 (set 1 31))" ∷ "(drive (lv 1 40) 0)" ∷ []) ("(E0505 0 40 1 mem)" ∷ [])
    ∷ example "drive_of_other_names_does_nothing" ("(module 0 bound)" ∷ "(kind 1 in)" ∷ "(kind 2 inst)" ∷ "(drive (lv 1 20) 0)" ∷ "(drive (lv 2 30) 0)" ∷ "(drive (lv 3 40) 0)" ∷ "(drive (lv 3 50) 0)" ∷ []) []
    ∷ example "set_on_an_out_poisons" ("(module 0 bound)" ∷ "(kind 1 out)" ∷ "(port out 1 bit 5)" ∷ "(on 10 (set 1 20))" ∷ []) ("(E0505 0 20 1 arrow)" ∷ [])
    ∷ example "set_on_an_out_hides_its_conflict" ("(module 0 bound)" ∷ "(kind 1 out)" ∷ "(drive (lv 1 5) 0)" ∷ "(drive (lv 1 6) 0)" ∷ "(on 10 (set 1 20))" ∷ []) ("(E0505 0 20 1 arrow)" ∷ [])
    ∷ example "set_on_a_wire_leaves_its_loops" ("(module 0 bound)" ∷ "(kind 1 wire)" ∷ "(wire 1 (n 1) 5)" ∷ "(on 10 (set 1 20))" ∷ []) ("(E0505 0 20 1 arrow)" ∷ "(E0504 0 5 (walk 1 1))" ∷ [])
    ∷ example "wire_before_arrow" ("(module 0 bound)" ∷ "(kind 1 wire)" ∷ "(drive (lv 1 10) 0)" ∷ "(on 20 (set 1 21))" ∷ []) ("(E0501 0 10 1 wire)" ∷ [])
    ∷ example "arrow_before_wire" ("(module 0 bound)" ∷ "(kind 1 wire)" ∷ "(on 20 (set 1 21))" ∷ "(drive (lv 1 10) 0)" ∷ []) ("(E0505 0 21 1 arrow)" ∷ [])
    ∷ example "set_of_other_names_does_nothing" ("(module 0 bound)" ∷ "(kind 1 in)" ∷ "(kind 2 inst)" ∷ "(on 10 (set 1 20) (set 2 30) (set 3 40))" ∷ []) []
    ∷ []

misuse_rows : AllPrint misuse_table
unfolding computed_print
misuse_rows = printed misuse_table (refl, (refl, (refl, (refl, (refl, (refl, (refl, (refl, (refl, (refl, (refl, (refl, (refl, (refl, (refl, tt)))))))))))))))

-- 01, The site.
abbrev coverage_table : List Example
coverage_table =
    example "output_opaque_never_driven" ("(module 0 bound)" ∷ "(kind 1 out)" ∷ "(port out 1 opaque 10)" ∷ []) ("(E0502 0 10 1 never)" ∷ [])
    ∷ example "output_opaque_has_no_gap" ("(module 0 bound)" ∷ "(kind 1 out)" ∷ "(port out 1 opaque 10)" ∷ "(drive (lv 1 20 5) 0)" ∷ []) []
    ∷ example "output_gap_is_the_first" ("(module 0 bound)" ∷ "(kind 1 out)" ∷ "(port out 1 (bits 8) 10)" ∷ "(drive (lv 1 20 7) 0)" ∷ "(drive (lv 1 30 1 0) 0)" ∷ "(drive (lv 1 40 4 3) 0)" ∷ []) ("(E0502 0 10 1 gap 2)" ∷ [])
    ∷ example "output_bit_is_one_wide" ("(module 0 bound)" ∷ "(kind 1 out)" ∷ "(port out 1 bit 10)" ∷ "(drive (lv 1 20 1) 0)" ∷ []) ("(E0502 0 10 1 gap 0)" ∷ [])
    ∷ example "output_signed_has_gaps_too" ("(module 0 bound)" ∷ "(kind 1 out)" ∷ "(port out 1 (signed 4) 10)" ∷ "(drive (lv 1 20 2 0) 0)" ∷ []) ("(E0502 0 10 1 gap 3)" ∷ [])
    ∷ example "output_of_width_0" ("(module 0 bound)" ∷ "(kind 1 out)" ∷ "(port out 1 (bits 0) 10)" ∷ "(drive (lv 1 20 5) 0)" ∷ []) []
    ∷ example "output_without_a_known_width" ("(module 0 bound)" ∷ "(kind 1 out)" ∷ "(port out 1 (bits (n 9)) 10)" ∷ "(drive (lv 1 20 5) 0)" ∷ []) []
    ∷ example "output_first_port_line_counts" ("(module 0 bound)" ∷ "(kind 1 out)" ∷ "(port out 1 (bits 4) 10)" ∷ "(port out 1 (bits 8) 20)" ∷ "(drive (lv 1 30 3 0) 0)" ∷ []) []
    ∷ example "output_must_be_collected" ("(module 0 bound)" ∷ "(kind 1 out)" ∷ "(constif 0 (then (port out 1 bit 10)) (else))" ∷ []) []
    ∷ example "output_line_of_another_kind" ("(module 0 bound)" ∷ "(kind 1 reg)" ∷ "(port out 1 bit 10)" ∷ "(port out 2 bit 20)" ∷ []) ("(E0502 0 10 1 never)" ∷ "(E0502 0 20 2 never)" ∷ [])
    ∷ example "outputs_in_collected_order" ("(module 0 bound)" ∷ "(kind 1 out)" ∷ "(kind 2 out)" ∷ "(port out 2 bit 30)" ∷ "(port out 1 bit 10)" ∷ "(port out 2 bit 5)" ∷ []) ("(E0502 0 30 2 never)" ∷ "(E0502 0 10 1 never)" ∷ [])
    ∷ []

coverage_rows : AllPrint coverage_table
unfolding computed_print
coverage_rows = printed coverage_table (refl, (refl, (refl, (refl, (refl, (refl, (refl, (refl, (refl, (refl, (refl, tt)))))))))))

-- 01, The block.
abbrev block_table : List Example
block_table =
    example "reg_without_a_block" ("(module 0 bound)" ∷ "(kind 1 reg)" ∷ "(reg 1 10)" ∷ []) ("(E0503 0 10 1 none)" ∷ [])
    ∷ example "reg_with_two_blocks" ("(module 0 bound)" ∷ "(kind 1 reg)" ∷ "(reg 1 10)" ∷ "(on 20 (set 1 21))" ∷ "(on 30 (set 1 31))" ∷ []) ("(E0503 0 10 1 blocks)" ∷ [])
    ∷ example "reg_with_two_blocks_of_one_start" ("(module 0 bound)" ∷ "(kind 1 reg)" ∷ "(reg 1 10)" ∷ "(on 20 (set 1 21))" ∷ "(on 20 (set 1 31))" ∷ []) []
    ∷ example "reg_with_a_block_in_a_repeat" ("(module 0 bound)" ∷ "(kind 1 reg)" ∷ "(reg 1 10)" ∷ "(repeat 9 0 3 (on 20 (set 1 21)))" ∷ []) []
    ∷ example "reg_set_inside_when_and_loop" ("(module 0 bound)" ∷ "(kind 1 reg)" ∷ "(kind 2 reg)" ∷ "(kind 3 reg)" ∷ "(reg 1 10)" ∷ "(reg 2 20)" ∷ "(reg 3 30)" ∷ "(on 40 (when (then (set 1 41)) (else (set 2 42))) (loop (loop (set 3 43))))" ∷ []) []
    ∷ example "reg_default_counts" ("(module 0 bound)" ∷ "(kind 1 reg)" ∷ "(reg 1 10)" ∷ "(on 20 (default 1))" ∷ []) []
    ∷ example "reg_default_and_set_in_two_blocks" ("(module 0 bound)" ∷ "(kind 1 reg)" ∷ "(reg 1 10)" ∷ "(on 20 (default 1))" ∷ "(on 30 (set 1 31))" ∷ []) ("(E0503 0 10 1 blocks)" ∷ [])
    ∷ example "default_on_other_kinds" ("(module 0 bound)" ∷ "(kind 1 in)" ∷ "(kind 2 out)" ∷ "(kind 3 wire)" ∷ "(kind 4 mem)" ∷ "(kind 5 inst)" ∷ "(mem 4 10)" ∷ "(on 20 (default 1) (default 2) (default 3) (default 4) (default 5) (default 6))" ∷ "(on 30 (set 4 31))" ∷ []) []
    ∷ example "mem_without_a_block" ("(module 0 bound)" ∷ "(kind 1 mem)" ∷ "(mem 1 10)" ∷ []) []
    ∷ example "mem_with_two_blocks" ("(module 0 bound)" ∷ "(kind 1 mem)" ∷ "(mem 1 10)" ∷ "(on 20 (set 1 21))" ∷ "(on 30 (set 1 31))" ∷ []) ("(E0503 0 10 1 memblocks)" ∷ [])
    ∷ example "reg_lines_of_one_name" ("(module 0 bound)" ∷ "(kind 1 reg)" ∷ "(reg 1 30)" ∷ "(reg 1 10)" ∷ []) ("(E0503 0 30 1 none)" ∷ [])
    ∷ example "reg_line_of_a_mem" ("(module 0 bound)" ∷ "(kind 1 mem)" ∷ "(reg 1 10)" ∷ "(mem 1 20)" ∷ "(on 30 (set 1 31))" ∷ "(on 40 (set 1 41))" ∷ []) ("(E0503 0 10 1 blocks)" ∷ "(E0503 0 20 1 memblocks)" ∷ [])
    ∷ example "block_in_the_branch_not_taken" ("(module 0 bound)" ∷ "(kind 1 reg)" ∷ "(reg 1 10)" ∷ "(on 20 (set 1 21))" ∷ "(constif 1 (then) (else (on 30 (set 1 31))))" ∷ []) []
    ∷ []

block_rows : AllPrint block_table
unfolding computed_print
block_rows = printed block_table (refl, (refl, (refl, (refl, (refl, (refl, (refl, (refl, (refl, (refl, (refl, (refl, (refl, tt)))))))))))))

-- 01, The edge.
abbrev read_table : List Example
read_table =
    example "read_of_in_out_and_wire" ("(module 0 bound)" ∷ "(kind 1 in)" ∷ "(kind 2 out)" ∷ "(kind 3 wire)" ∷ "(wire 3 (all (n 1) (n 2)) 10)" ∷ "(drive (lv 2 20) (n 3))" ∷ []) ("(E0504 0 10 (walk 3 2 3))" ∷ [])
    ∷ example "read_of_the_f_index_is_none" ("(module 0 bound)" ∷ "(kind 1 wire)" ∷ "(kind 9 inst)" ∷ "(val 1 0)" ∷ "(wire 1 (f (ix (n 9) (n 1)) 3) 10)" ∷ []) []
    ∷ example "read_with_an_f_index_without_value_is_none" ("(module 0 bound)" ∷ "(kind 1 wire)" ∷ "(kind 9 inst)" ∷ "(wire 1 (f (ix (n 9) (n 1)) 3) 10)" ∷ []) []
    ∷ example "read_of_a_reg_is_none" ("(module 0 bound)" ∷ "(kind 1 reg)" ∷ "(kind 2 wire)" ∷ "(wire 2 (n 1) 10)" ∷ "(on 20 (set 1 21))" ∷ []) []
    ∷ example "read_of_a_reg_mem_or_inst_is_none_though_headed" ("(module 0 bound)" ∷ "(kind 1 reg)" ∷ "(kind 2 mem)" ∷ "(kind 3 inst)" ∷ "(wire 1 (n 1) 10)" ∷ "(wire 2 (n 2) 20)" ∷ "(wire 3 (n 3) 30)" ∷ []) []
    ∷ example "head_of_a_wire_line_whatever_the_kind" ("(module 0 bound)" ∷ "(kind 1 in)" ∷ "(kind 2 out)" ∷ "(wire 1 (n 1) 10)" ∷ "(wire 2 (n 2) 20)" ∷ []) ("(E0504 0 10 (walk 1 1))" ∷ "(E0504 0 20 (walk 2 2))" ∷ [])
    ∷ example "read_of_every_part_of_if" ("(module 0 bound)" ∷ "(kind 1 wire)" ∷ "(kind 2 wire)" ∷ "(kind 3 wire)" ∷ "(wire 1 (if (n 1) 0 0) 10)" ∷ "(wire 2 (if 0 (n 2) 0) 20)" ∷ "(wire 3 (if 0 0 (n 3)) 30)" ∷ []) ("(E0504 0 10 (walk 1 1))" ∷ "(E0504 0 20 (walk 2 2))" ∷ "(E0504 0 30 (walk 3 3))" ∷ [])
    ∷ example "read_of_the_indexes_of_an_output" ("(module 0 bound)" ∷ "(kind 1 out)" ∷ "(kind 2 out)" ∷ "(drive (lv 1 10 (n 1)) 0)" ∷ "(drive (lv 2 20 7 (n 2)) 0)" ∷ []) ("(E0504 0 10 (walk 1 1))" ∷ "(E0504 0 20 (walk 2 2))" ∷ [])
    ∷ example "read_of_a_field_of_a_signal" ("(module 0 bound)" ∷ "(kind 0 wire)" ∷ "(wire 0 (f (n 0) 1) 0)" ∷ []) ("(E0504 0 0 (walk 0 0))" ∷ [])
    ∷ example "read_of_a_field_of_any_form" ("(module 0 bound)" ∷ "(kind 1 wire)" ∷ "(kind 2 wire)" ∷ "(kind 3 wire)" ∷ "(wire 1 (f (ix (n 1) 0) 9) 10)" ∷ "(wire 2 (f (all (n 2)) 9) 20)" ∷ "(wire 3 (f (f (n 3) 9) 9) 30)" ∷ []) ("(E0504 0 10 (walk 1 1))" ∷ "(E0504 0 20 (walk 2 2))" ∷ "(E0504 0 30 (walk 3 3))" ∷ [])
    ∷ example "read_of_the_index_of_a_name_that_is_no_instance" ("(module 0 bound)" ∷ "(kind 0 wire)" ∷ "(wire 0 (f (ix (n 1) (n 0)) 0) 0)" ∷ []) ("(E0504 0 0 (walk 0 0))" ∷ [])
    ∷ example "no_value_of_the_index_of_a_name_that_is_no_instance" ("(module 0 bound)" ∷ "(kind 1 reg)" ∷ "(kind 2 wire)" ∷ "(wire 2 (f (ix (n 1) (add (mul 65536 65536) (n 2))) 9) 10)" ∷ []) ("(E0504 0 10 (walk 2 2))" ∷ [])
    ∷ example "value_of_the_index_of_an_instance_under_a_field" ("(module 0 bound)" ∷ "(kind 1 wire)" ∷ "(kind 9 inst)" ∷ "(wire 1 (f (f (ix (n 9) (mul 65536 65536)) 3) 4) 10)" ∷ []) ("(refused 20 0)" ∷ [])
    ∷ example "read_of_a_field_of_an_instance_output" ("(module 0 bound)" ∷ "(kind 9 inst)" ∷ "(inst 9 - 1 10 (conn 2 (f (f (n 9) 3) 4)))" ∷ "(module 1 bound)" ∷ "(kind 2 in)" ∷ "(kind 3 out)" ∷ "(port out 3 bit 1)" ∷ "(drive (lv 3 2) (n 2))" ∷ []) ("(E0504 0 10 (walk (u 9 - 3) (u 9 - 3)))" ∷ [])
    ∷ example "read_of_a_field_in_an_index_of_an_output" ("(module 0 bound)" ∷ "(kind 1 out)" ∷ "(drive (lv 1 10 (f (n 1) 9)) 0)" ∷ []) ("(E0504 0 10 (walk 1 1))" ∷ [])
    ∷ []

read_rows : AllPrint read_table
unfolding computed_print
read_rows = printed read_table (refl, (refl, (refl, (refl, (refl, (refl, (refl, (refl, (refl, (refl, (refl, (refl, (refl, (refl, (refl, tt)))))))))))))))

-- 01, The edge.
abbrev instance_table : List Example
instance_table =
    example "instance_output_reads_itself" ("(module 0 bound)" ∷ "(kind 2 in)" ∷ "(kind 3 out)" ∷ "(port out 3 bit 1)" ∷ "(drive (lv 3 2) (n 2))" ∷ "(module 1 bound)" ∷ "(kind 9 inst)" ∷ "(inst 9 - 0 10 (conn 2 (f (n 9) 3)))" ∷ []) ("(E0504 1 10 (walk (u 9 - 3) (u 9 - 3)))" ∷ [])
    ∷ example "instance_of_a_later_module" ("(module 0 bound)" ∷ "(kind 9 inst)" ∷ "(inst 9 - 1 10 (conn 2 (f (n 9) 3)))" ∷ "(module 1 bound)" ∷ "(kind 2 in)" ∷ "(kind 3 out)" ∷ "(port out 3 bit 1)" ∷ "(drive (lv 3 2) (n 2))" ∷ []) ("(E0504 0 10 (walk (u 9 - 3) (u 9 - 3)))" ∷ [])
    ∷ example "instance_loop_through_a_wire" ("(module 0 bound)" ∷ "(kind 5 wire)" ∷ "(kind 9 inst)" ∷ "(wire 5 (f (n 9) 3) 20)" ∷ "(inst 9 - 1 10 (conn 2 (n 5)))" ∷ "(module 1 bound)" ∷ "(kind 2 in)" ∷ "(kind 3 out)" ∷ "(port out 3 bit 1)" ∷ "(drive (lv 3 2) (n 2))" ∷ []) ("(E0504 0 10 (walk (u 9 - 3) 5 (u 9 - 3)))" ∷ [])
    ∷ example "instance_with_a_reg_between" ("(module 0 bound)" ∷ "(kind 9 inst)" ∷ "(inst 9 - 1 10 (conn 2 (f (n 9) 3)))" ∷ "(module 1 bound)" ∷ "(kind 2 in)" ∷ "(kind 3 out)" ∷ "(kind 4 reg)" ∷ "(port out 3 bit 1)" ∷ "(on 5 (set 4 6))" ∷ "(drive (lv 3 2) (n 4))" ∷ []) []
    ∷ example "instance_connection_outside_the_summary" ("(module 0 bound)" ∷ "(kind 9 inst)" ∷ "(inst 9 - 1 10 (conn 4 (f (n 9) 3)))" ∷ "(module 1 bound)" ∷ "(kind 2 in)" ∷ "(kind 3 out)" ∷ "(kind 4 in)" ∷ "(port out 3 bit 1)" ∷ "(drive (lv 3 2) (n 2))" ∷ []) []
    ∷ example "instance_inputs_by_output" ("(module 0 bound)" ∷ "(kind 9 inst)" ∷ "(inst 9 - 1 10 (conn 2 (f (n 9) 6)) (conn 4 (f (n 9) 6)))" ∷ "(module 1 bound)" ∷ "(kind 2 in)" ∷ "(kind 3 out)" ∷ "(kind 4 in)" ∷ "(kind 6 out)" ∷ "(port out 3 bit 1)" ∷ "(port out 6 bit 2)" ∷ "(drive (lv 3 3) (n 2))" ∷ "(drive (lv 6 4) (n 4))" ∷ []) ("(E0504 0 10 (walk (u 9 - 6) (u 9 - 6)))" ∷ [])
    ∷ example "instance_of_a_missing_module" ("(module 0 bound)" ∷ "(kind 9 inst)" ∷ "(inst 9 - 1 10 (conn 2 (f (n 9) 3)))" ∷ "(inst 9 - 255 20 (conn 2 (f (n 9) 3)))" ∷ []) []
    ∷ example "instance_indexes_differ" ("(module 0 bound)" ∷ "(kind 9 inst)" ∷ "(inst 9 0 1 10 (conn 2 (f (ix (n 9) 1) 3)))" ∷ "(inst 9 1 1 20 (conn 2 0))" ∷ "(module 1 bound)" ∷ "(kind 2 in)" ∷ "(kind 3 out)" ∷ "(port out 3 bit 1)" ∷ "(drive (lv 3 2) (n 2))" ∷ []) []
    ∷ example "instance_index_0_is_not_none" ("(module 0 bound)" ∷ "(kind 9 inst)" ∷ "(inst 9 0 1 10 (conn 2 (f (n 9) 3)))" ∷ "(inst 9 - 1 20 (conn 2 0))" ∷ "(module 1 bound)" ∷ "(kind 2 in)" ∷ "(kind 3 out)" ∷ "(port out 3 bit 1)" ∷ "(drive (lv 3 2) (n 2))" ∷ []) []
    ∷ example "instance_index_goes_by_value" ("(module 0 bound)" ∷ "(kind 9 inst)" ∷ "(val 7 4)" ∷ "(inst 9 (add 2 2) 1 10 (conn 2 (f (ix (n 9) (n 7)) 3)))" ∷ "(module 1 bound)" ∷ "(kind 2 in)" ∷ "(kind 3 out)" ∷ "(port out 3 bit 1)" ∷ "(drive (lv 3 2) (n 2))" ∷ []) ("(E0504 0 10 (walk (u 9 4 3) (u 9 4 3)))" ∷ [])
    ∷ example "instance_index_without_value_is_none" ("(module 0 bound)" ∷ "(kind 9 inst)" ∷ "(inst 9 (n 7) 1 10 (conn 2 (f (n 9) 3)))" ∷ "(module 1 bound)" ∷ "(kind 2 in)" ∷ "(kind 3 out)" ∷ "(port out 3 bit 1)" ∷ "(drive (lv 3 2) (n 2))" ∷ []) ("(E0504 0 10 (walk (u 9 - 3) (u 9 - 3)))" ∷ [])
    ∷ example "instance_index_negative" ("(module 0 bound)" ∷ "(kind 9 inst)" ∷ "(inst 9 (neg 2) 1 10 (conn 2 (f (ix (n 9) (neg 2)) 3)))" ∷ "(module 1 bound)" ∷ "(kind 2 in)" ∷ "(kind 3 out)" ∷ "(port out 3 bit 1)" ∷ "(drive (lv 3 2) (n 2))" ∷ []) ("(E0504 0 10 (walk (u 9 -2 3) (u 9 -2 3)))" ∷ [])
    ∷ example "instance_array_in_a_row" ("(module 0 bound)" ∷ "(kind 9 inst)" ∷ "(repeat 7 0 4 (inst 9 (n 7) 1 10 (conn 2 (f (ix (n 9) (sub (n 7) 1)) 3))))" ∷ "(module 1 bound)" ∷ "(kind 2 in)" ∷ "(kind 3 out)" ∷ "(port out 3 bit 1)" ∷ "(drive (lv 3 2) (n 2))" ∷ []) []
    ∷ example "instance_ring" ("(module 0 bound)" ∷ "(kind 9 inst)" ∷ "(inst 9 0 1 10 (conn 2 (f (ix (n 9) 2) 3)))" ∷ "(inst 9 1 1 20 (conn 2 (f (ix (n 9) 0) 3)))" ∷ "(inst 9 2 1 30 (conn 2 (f (ix (n 9) 1) 3)))" ∷ "(module 1 bound)" ∷ "(kind 2 in)" ∷ "(kind 3 out)" ∷ "(port out 3 bit 1)" ∷ "(drive (lv 3 2) (n 2))" ∷ []) ("(E0504 0 10 (walk (u 9 0 3) (u 9 2 3) (u 9 1 3) (u 9 0 3)))" ∷ [])
    ∷ []

instance_rows : AllPrint instance_table
unfolding computed_print
instance_rows = printed instance_table (refl, (refl, (refl, (refl, (refl, (refl, (refl, (refl, (refl, (refl, (refl, (refl, (refl, (refl, tt))))))))))))))

-- 01, The edge.
abbrev summary_table : List Example
summary_table =
    example "summary_stops_at_an_input" ("(module 0 bound)" ∷ "(kind 9 inst)" ∷ "(inst 9 - 1 10 (conn 2 0) (conn 4 (f (n 9) 3)))" ∷ "(module 1 bound)" ∷ "(kind 2 in)" ∷ "(kind 3 out)" ∷ "(kind 4 in)" ∷ "(port out 3 bit 1)" ∷ "(drive (lv 3 2) (n 2))" ∷ "(wire 2 (n 4) 3)" ∷ []) []
    ∷ example "summary_of_a_nested_port_line_is_none" ("(module 0 bound)" ∷ "(kind 9 inst)" ∷ "(inst 9 - 1 10 (conn 2 (f (n 9) 3)))" ∷ "(module 1 bound)" ∷ "(kind 2 in)" ∷ "(kind 3 out)" ∷ "(constif 1 (then (port out 3 bit 1)) (else))" ∷ "(drive (lv 3 2) (n 2))" ∷ []) []
    ∷ example "summary_of_an_output_line_of_kind_in" ("(module 0 bound)" ∷ "(kind 9 inst)" ∷ "(inst 9 - 1 10 (conn 2 (f (n 9) 2)))" ∷ "(module 1 bound)" ∷ "(kind 2 in)" ∷ "(port out 2 bit 1)" ∷ []) ("(E0504 0 10 (walk (u 9 - 2) (u 9 - 2)))" ∷ "(E0502 1 1 2 never)" ∷ [])
    ∷ example "summary_under_the_modules_own_values" ("(module 0 bound)" ∷ "(kind 9 inst)" ∷ "(val 7 0)" ∷ "(inst 9 - 1 10 (conn 2 (f (n 9) 3)))" ∷ "(module 1 bound)" ∷ "(kind 2 in)" ∷ "(kind 3 out)" ∷ "(val 7 1)" ∷ "(port out 3 bit 1)" ∷ "(constif (n 7) (then (drive (lv 3 2) (n 2))) (else (drive (lv 3 3) 0)))" ∷ []) ("(E0504 0 10 (walk (u 9 - 3) (u 9 - 3)))" ∷ [])
    ∷ example "summary_does_not_see_the_outer_variable" ("(module 0 bound)" ∷ "(kind 9 inst)" ∷ "(repeat 7 1 2 (inst 9 - 1 10 (conn 2 (f (n 9) 3))))" ∷ "(module 1 bound)" ∷ "(kind 2 in)" ∷ "(kind 3 out)" ∷ "(port out 3 bit 1)" ∷ "(constif (n 7) (then (drive (lv 3 2) (n 2))) (else (drive (lv 3 3) 0)))" ∷ []) []
    ∷ example "summary_through_levels" ("(module 0 bound)" ∷ "(kind 2 in)" ∷ "(kind 3 out)" ∷ "(kind 9 inst)" ∷ "(port out 3 bit 1)" ∷ "(inst 9 - 1 2 (conn 2 (n 2)))" ∷ "(drive (lv 3 3) (f (n 9) 3))" ∷ "(module 1 bound)" ∷ "(kind 2 in)" ∷ "(kind 3 out)" ∷ "(kind 9 inst)" ∷ "(port out 3 bit 1)" ∷ "(inst 9 - 2 2 (conn 5 (n 2)))" ∷ "(drive (lv 3 3) (f (n 9) 6))" ∷ "(module 2 bound)" ∷ "(kind 5 in)" ∷ "(kind 6 out)" ∷ "(port out 6 bit 1)" ∷ "(drive (lv 6 2) (n 5))" ∷ "(module 3 bound)" ∷ "(kind 8 inst)" ∷ "(inst 8 - 0 10 (conn 2 (f (n 8) 3)))" ∷ []) ("(E0504 3 10 (walk (u 8 - 3) (u 8 - 3)))" ∷ [])
    ∷ example "module_that_instances_itself" ("(module 0 bound)" ∷ "(kind 2 in)" ∷ "(kind 3 out)" ∷ "(kind 9 inst)" ∷ "(port out 3 bit 1)" ∷ "(drive (lv 3 2) (n 2))" ∷ "(inst 9 - 0 10 (conn 2 (f (n 9) 3)))" ∷ []) ("(E0504 0 10 (walk (u 9 - 3) (u 9 - 3)))" ∷ [])
    ∷ example "module_that_instances_itself_is_empty_inside" ("(module 0 bound)" ∷ "(kind 2 in)" ∷ "(kind 3 out)" ∷ "(kind 9 inst)" ∷ "(port out 3 bit 1)" ∷ "(drive (lv 3 2) (f (n 9) 3))" ∷ "(inst 9 - 0 10 (conn 2 (f (n 9) 3)))" ∷ []) []
    ∷ example "summary_made_meanwhile_is_kept_as_it_came_out" ("(module 0 bound)" ∷ "(kind 2 in)" ∷ "(kind 3 out)" ∷ "(kind 9 inst)" ∷ "(port out 3 bit 1)" ∷ "(drive (lv 3 2) (f (n 9) 5))" ∷ "(inst 9 - 1 3 (conn 4 (n 2)))" ∷ "(module 1 bound)" ∷ "(kind 4 in)" ∷ "(kind 5 out)" ∷ "(kind 8 inst)" ∷ "(port out 5 bit 1)" ∷ "(drive (lv 5 2) (n 4))" ∷ "(inst 8 - 0 10 (conn 2 (f (n 8) 3)))" ∷ []) []
    ∷ example "summary_made_first_is_whole" ("(module 0 bound)" ∷ "(kind 2 in)" ∷ "(kind 3 out)" ∷ "(kind 9 inst)" ∷ "(port out 3 bit 1)" ∷ "(drive (lv 3 2) (f (n 9) 5))" ∷ "(inst 7 - 0 2)" ∷ "(inst 9 - 1 3 (conn 4 (n 2)))" ∷ "(module 1 bound)" ∷ "(kind 4 in)" ∷ "(kind 5 out)" ∷ "(kind 8 inst)" ∷ "(port out 5 bit 1)" ∷ "(drive (lv 5 2) (n 4))" ∷ "(inst 8 - 0 10 (conn 2 (f (n 8) 3)))" ∷ []) ("(E0504 1 10 (walk (u 8 - 3) (u 8 - 3)))" ∷ [])
    ∷ example "summary_in_progress_is_not_kept" ("(module 0 bound)" ∷ "(kind 2 in)" ∷ "(kind 3 out)" ∷ "(kind 9 inst)" ∷ "(port out 3 bit 1)" ∷ "(drive (lv 3 2) (n 2))" ∷ "(inst 9 - 0 3 (conn 2 0))" ∷ "(module 1 bound)" ∷ "(kind 8 inst)" ∷ "(inst 8 - 0 10 (conn 2 (f (n 8) 3)))" ∷ []) ("(E0504 1 10 (walk (u 8 - 3) (u 8 - 3)))" ∷ [])
    ∷ example "modules_that_instance_each_other" ("(module 0 bound)" ∷ "(kind 2 in)" ∷ "(kind 3 out)" ∷ "(kind 9 inst)" ∷ "(port out 3 bit 1)" ∷ "(drive (lv 3 2) (n 2))" ∷ "(inst 9 - 1 10 (conn 2 (f (n 9) 3)))" ∷ "(module 1 bound)" ∷ "(kind 2 in)" ∷ "(kind 3 out)" ∷ "(kind 9 inst)" ∷ "(port out 3 bit 1)" ∷ "(drive (lv 3 2) (n 2))" ∷ "(inst 9 - 0 20 (conn 2 (f (n 9) 3)))" ∷ []) ("(E0504 0 10 (walk (u 9 - 3) (u 9 - 3)))" ∷ "(E0504 1 20 (walk (u 9 - 3) (u 9 - 3)))" ∷ [])
    ∷ []

summary_rows : AllPrint summary_table
unfolding computed_print
summary_rows = printed summary_table (refl, (refl, (refl, (refl, (refl, (refl, (refl, (refl, (refl, (refl, (refl, (refl, tt))))))))))))

-- 01, The walk.
abbrev walk_table : List Example
walk_table =
    example "walk_of_two" ("(module 0 bound)" ∷ "(kind 1 wire)" ∷ "(kind 2 wire)" ∷ "(wire 1 (n 2) 10)" ∷ "(wire 2 (n 1) 20)" ∷ []) ("(E0504 0 10 (walk 1 2 1))" ∷ [])
    ∷ example "walk_roots_by_start" ("(module 0 bound)" ∷ "(kind 1 wire)" ∷ "(kind 2 wire)" ∷ "(wire 1 (n 2) 20)" ∷ "(wire 2 (n 1) 10)" ∷ []) ("(E0504 0 10 (walk 2 1 2))" ∷ [])
    ∷ example "walk_next_nodes_last_first" ("(module 0 bound)" ∷ "(kind 1 wire)" ∷ "(kind 2 wire)" ∷ "(kind 3 wire)" ∷ "(wire 1 (all (n 1) (n 2) (n 3)) 10)" ∷ "(wire 2 (n 1) 20)" ∷ "(wire 3 (n 1) 30)" ∷ []) ("(E0504 0 10 (walk 1 3 1))" ∷ "(E0504 0 10 (walk 1 2 1))" ∷ "(E0504 0 10 (walk 1 1))" ∷ [])
    ∷ example "walk_enters_no_node_twice" ("(module 0 bound)" ∷ "(kind 1 wire)" ∷ "(kind 2 wire)" ∷ "(kind 3 wire)" ∷ "(wire 1 (all (n 2) (n 3)) 10)" ∷ "(wire 2 (n 3) 20)" ∷ "(wire 3 (n 1) 30)" ∷ []) ("(E0504 0 10 (walk 1 3 1))" ∷ [])
    ∷ example "walk_steps_onto_the_open_path" ("(module 0 bound)" ∷ "(kind 1 wire)" ∷ "(kind 2 wire)" ∷ "(kind 3 wire)" ∷ "(wire 1 (n 2) 10)" ∷ "(wire 2 (n 3) 20)" ∷ "(wire 3 (all (n 1) (n 2)) 30)" ∷ []) ("(E0504 0 20 (walk 2 3 2))" ∷ "(E0504 0 10 (walk 1 2 3 1))" ∷ [])
    ∷ example "walk_start_of_the_first_heading_line" ("(module 0 bound)" ∷ "(kind 1 wire)" ∷ "(kind 2 wire)" ∷ "(wire 2 (n 2) 20)" ∷ "(wire 1 0 30)" ∷ "(wire 1 (n 1) 10)" ∷ []) ("(E0504 0 20 (walk 2 2))" ∷ "(E0504 0 30 (walk 1 1))" ∷ [])
    ∷ example "walk_start_of_a_drive_line" ("(module 0 bound)" ∷ "(kind 1 out)" ∷ "(port out 1 bit 5)" ∷ "(drive (lv 1 10) (n 1))" ∷ []) ("(E0504 0 10 (walk 1 1))" ∷ [])
    ∷ example "walk_start_0" ("(module 0 bound)" ∷ "(kind 1 wire)" ∷ "(kind 2 wire)" ∷ "(wire 1 (n 2) 1)" ∷ "(wire 2 (n 1) 0)" ∷ []) ("(E0504 0 0 (walk 2 1 2))" ∷ [])
    ∷ []

walk_rows : AllPrint walk_table
unfolding computed_print
walk_rows = printed walk_table (refl, (refl, (refl, (refl, (refl, (refl, (refl, (refl, tt))))))))

-- 01, The walk: ties between headed nodes, where the order is 01's and the Rust's may differ.
abbrev tie_table : List Example
tie_table =
    example "tie_roots_by_name" ("(module 0 bound)" ∷ "(kind 1 wire)" ∷ "(kind 2 wire)" ∷ "(wire 2 (n 2) 10)" ∷ "(wire 1 (n 1) 10)" ∷ []) ("(E0504 0 10 (walk 1 1))" ∷ "(E0504 0 10 (walk 2 2))" ∷ [])
    ∷ example "tie_next_nodes_by_name" ("(module 0 bound)" ∷ "(kind 1 wire)" ∷ "(kind 2 wire)" ∷ "(kind 3 wire)" ∷ "(wire 1 (all (n 2) (n 3)) 10)" ∷ "(wire 2 (n 1) 20)" ∷ "(wire 3 (n 1) 20)" ∷ []) ("(E0504 0 10 (walk 1 3 1))" ∷ "(E0504 0 10 (walk 1 2 1))" ∷ [])
    ∷ example "tie_signals_before_outputs" ("(module 0 bound)" ∷ "(kind 200 wire)" ∷ "(kind 9 inst)" ∷ "(inst 9 - 1 10 (conn 2 (f (n 9) 3)))" ∷ "(wire 200 (n 200) 10)" ∷ "(module 1 bound)" ∷ "(kind 2 in)" ∷ "(kind 3 out)" ∷ "(port out 3 bit 1)" ∷ "(drive (lv 3 2) (n 2))" ∷ []) ("(E0504 0 10 (walk 200 200))" ∷ "(E0504 0 10 (walk (u 9 - 3) (u 9 - 3)))" ∷ [])
    ∷ example "tie_outputs_by_instance_index_output" ("(module 0 bound)" ∷ "(kind 8 inst)" ∷ "(kind 9 inst)" ∷ "(inst 9 - 1 10 (conn 2 (f (n 9) 3)))" ∷ "(inst 8 10 1 10 (conn 2 (f (ix (n 8) 10) 3)))" ∷ "(inst 8 2 1 10 (conn 2 (f (ix (n 8) 2) 3)))" ∷ "(inst 8 (neg 1) 1 10 (conn 2 (f (ix (n 8) (neg 1)) 3)))" ∷ "(inst 8 - 1 10 (conn 2 (f (n 8) 3)))" ∷ "(module 1 bound)" ∷ "(kind 2 in)" ∷ "(kind 3 out)" ∷ "(port out 3 bit 1)" ∷ "(drive (lv 3 2) (n 2))" ∷ []) ("(E0504 0 10 (walk (u 8 - 3) (u 8 - 3)))" ∷ "(E0504 0 10 (walk (u 8 -1 3) (u 8 -1 3)))" ∷ "(E0504 0 10 (walk (u 8 2 3) (u 8 2 3)))" ∷ "(E0504 0 10 (walk (u 8 10 3) (u 8 10 3)))" ∷ "(E0504 0 10 (walk (u 9 - 3) (u 9 - 3)))" ∷ [])
    ∷ example "tie_outputs_of_one_line" ("(module 0 bound)" ∷ "(kind 9 inst)" ∷ "(inst 9 - 1 10 (conn 2 (f (n 9) 3)) (conn 4 (f (n 9) 5)))" ∷ "(module 1 bound)" ∷ "(kind 2 in)" ∷ "(kind 3 out)" ∷ "(kind 4 in)" ∷ "(kind 5 out)" ∷ "(port out 5 bit 1)" ∷ "(port out 3 bit 2)" ∷ "(drive (lv 3 3) (n 2))" ∷ "(drive (lv 5 4) (n 4))" ∷ []) ("(E0504 0 10 (walk (u 9 - 3) (u 9 - 3)))" ∷ "(E0504 0 10 (walk (u 9 - 5) (u 9 - 5)))" ∷ [])
    ∷ []

tie_rows : AllPrint tie_table
unfolding computed_print
tie_rows = printed tie_table (refl, (refl, (refl, (refl, (refl, tt)))))

-- 01, The line, The report.
abbrev report_table : List Example
report_table =
    example "line_every_item" ("(module 0 bound)" ∷ "(kind 1 in)" ∷ "(kind 2 out)" ∷ "(kind 3 wire)" ∷ "(kind 4 reg)" ∷ "(kind 5 mem)" ∷ "(kind 6 inst)" ∷ "(port in 1 bit 10)" ∷ "(port out 2 bit 20)" ∷ "(wire 3 (n 1) 30)" ∷ "(reg 4 40)" ∷ "(mem 5 50)" ∷ "(const 7 2)" ∷ "(drive (lv 2 60) (n 3))" ∷ "(on 70 (set 4 71) (default 4) (loop (set 5 72)) (when (then (set 4 73)) (else (set 5 74))))" ∷ "(inst 6 - 1 80 (conn 1 (n 3)))" ∷ "(repeat 8 0 2 (reg 4 90))" ∷ "(constif 1 (then (mem 5 95)) (else))" ∷ []) []
    ∷ example "line_every_expression" ("(module 0 bound)" ∷ "(kind 1 in)" ∷ "(kind 2 inst)" ∷ "(wire 3 (all 5 true false (n 1) (f (n 2) 4) (f (ix (n 2) 0) 4) (ix (n 1) 0) (if (n 1) 1 0)) 10)" ∷ "(wire 4 (all (neg 1) (not 1) (clog2 1) (add 1 1) (sub 1 1) (mul 1 1)) 20)" ∷ "(wire 5 (all (eq 1 1) (ne 1 1) (lt 1 1) (le 1 1) (gt 1 1) (ge 1 1) (and 1 1) (or 1 1)) 30)" ∷ "(wire 6 (all (shl 1 1) (shr 1 1) (band 1 1) (bor 1 1) (bxor 1 1)) 40)" ∷ []) []
    ∷ example "line_none_is_some" ("(module 0 bound)" ∷ "(on 5)" ∷ "(on 6 (loop) (when (then) (else)))" ∷ "(repeat 9 0 2)" ∷ "(constif 1 (then) (else))" ∷ "(inst 1 - 0 7)" ∷ "(wire 2 (all) 8)" ∷ []) []
    ∷ example "line_32_brackets" ("(module 0 bound)" ∷ "(kind 1 wire)" ∷ "(wire 1 (neg (neg (neg (neg (neg (neg (neg (neg (neg (neg (neg (neg (neg (neg (neg (neg (neg (neg (neg (neg (neg (neg (neg (neg (neg (neg (neg (neg (neg (neg (n 1))))))))))))))))))))))))))))))) 10)" ∷ []) ("(E0504 0 10 (walk 1 1))" ∷ [])
    ∷ example "line_names_0_and_255" ("(module 0 bound)" ∷ "(kind 0 reg)" ∷ "(kind 255 reg)" ∷ "(reg 255 10)" ∷ "(reg 0 20)" ∷ []) ("(E0503 0 10 255 none)" ∷ "(E0503 0 20 0 none)" ∷ [])
    ∷ example "report_order_within_a_module" ("(module 0 bound)" ∷ "(kind 1 wire)" ∷ "(kind 2 mem)" ∷ "(kind 3 reg)" ∷ "(kind 4 out)" ∷ "(kind 5 out)" ∷ "(kind 6 reg)" ∷ "(kind 7 mem)" ∷ "(kind 8 wire)" ∷ "(wire 1 (n 1) 10)" ∷ "(mem 2 20)" ∷ "(on 30 (set 2 31))" ∷ "(on 40 (set 2 41))" ∷ "(reg 3 50)" ∷ "(port out 4 bit 60)" ∷ "(drive (lv 5 70) 0)" ∷ "(drive (lv 5 80) 0)" ∷ "(drive (lv 6 90) 0)" ∷ "(drive (lv 7 100) 0)" ∷ "(drive (lv 8 110) 0)" ∷ []) ("(E0505 0 90 6 reg)" ∷ "(E0505 0 100 7 mem)" ∷ "(E0501 0 110 8 wire)" ∷ "(E0501 0 80 5 many)" ∷ "(E0502 0 60 4 never)" ∷ "(E0503 0 50 3 none)" ∷ "(E0503 0 20 2 memblocks)" ∷ "(E0504 0 10 (walk 1 1))" ∷ [])
    ∷ example "report_modules_in_order" ("(module 0 bound)" ∷ "(reg 1 30)" ∷ "(module 1 bound)" ∷ "(reg 1 20)" ∷ "(module 2 bound)" ∷ "(reg 1 10)" ∷ []) ("(E0503 0 30 1 none)" ∷ "(E0503 1 20 1 none)" ∷ "(E0503 2 10 1 none)" ∷ [])
    ∷ example "report_kinds_are_the_modules_own" ("(module 0 bound)" ∷ "(kind 1 wire)" ∷ "(wire 1 (n 1) 10)" ∷ "(module 1 bound)" ∷ "(wire 1 (n 1) 10)" ∷ "(module 2 bound)" ∷ "(kind 1 reg)" ∷ "(drive (lv 1 20) 0)" ∷ []) ("(E0504 0 10 (walk 1 1))" ∷ "(E0505 2 20 1 reg)" ∷ [])
    ∷ example "report_none" ("(module 0 bound)" ∷ "(kind 1 in)" ∷ "(kind 2 out)" ∷ "(kind 3 wire)" ∷ "(kind 4 reg)" ∷ "(port in 1 (bits 8) 10)" ∷ "(port out 2 (bits 8) 20)" ∷ "(wire 3 (add (n 1) (n 4)) 30)" ∷ "(reg 4 40)" ∷ "(on 50 (set 4 51))" ∷ "(drive (lv 2 60 7 4) (n 3))" ∷ "(drive (lv 2 70 3 0) (n 1))" ∷ []) []
    ∷ []

report_rows : AllPrint report_table
unfolding computed_print
report_rows = printed report_table (refl, (refl, (refl, (refl, (refl, (refl, (refl, (refl, (refl, tt)))))))))

-- 01, Refused because of the text: 2 and 3.
abbrev set_table : List Example
set_table =
    raw "2-byte_09" "(module 0 bound)\n(reg 1\t5)\n(reg 2 6)\n" ("(refused 2 2)" ∷ [])
    ∷ raw "2-byte_7f" "(module 0 bound)\n(reg 1\u{7f}5)\n(reg 2 6)\n" ("(refused 2 2)" ∷ [])
    ∷ raw "2-byte_80" "(module 0 bound)\n(reg 1\u{80}5)\n(reg 2 6)\n" ("(refused 2 2)" ∷ [])
    ∷ raw "2-first_of_two_bytes" "(module 0 bound)\n\t\n\t\n" ("(refused 2 2)" ∷ [])
    ∷ raw "2-goes_before_earlier_lines" "\n(foo)\n(reg 256 \t5)\n" ("(refused 2 3)" ∷ [])
    ∷ raw "2-end_of_one_line" "(module 0 bound)" ("(refused 2 1)" ∷ [])
    ∷ raw "2-end_of_two_lines" "(module 0 bound)\n(reg 1 5)" ("(refused 2 2)" ∷ [])
    ∷ example "3-one_line_feed" ("" ∷ []) ("(refused 3 1)" ∷ [])
    ∷ example "3-empty_line_between" ("(module 0 bound)" ∷ "" ∷ "(reg 1 5)" ∷ []) ("(refused 3 2)" ∷ [])
    ∷ example "3-space_before" ("(module 0 bound)" ∷ " (reg 1 5)" ∷ []) ("(refused 3 2)" ∷ [])
    ∷ example "3-space_after" ("(module 0 bound)" ∷ "(reg 1 5) " ∷ []) ("(refused 3 2)" ∷ [])
    ∷ example "3-not_closed" ("(module 0 bound)" ∷ "(reg 1 5" ∷ []) ("(refused 3 2)" ∷ [])
    ∷ example "3-closed_twice" ("(module 0 bound)" ∷ "(reg 1 5))" ∷ []) ("(refused 3 2)" ∷ [])
    ∷ example "3-two_forms" ("(module 0 bound)" ∷ "(reg 1 5)(reg 2 6)" ∷ []) ("(refused 3 2)" ∷ [])
    ∷ example "3-deep_33_bare" ("(module 0 bound)" ∷ "((((((((((((((((((((((((((((((((()))))))))))))))))))))))))))))))))" ∷ []) ("(refused 3 2)" ∷ [])
    ∷ example "3-deep_33_wire" ("(module 0 bound)" ∷ "(kind 1 wire)" ∷ "(kind 2 reg)" ∷ "(wire 1 (neg (neg (neg (neg (neg (neg (neg (neg (neg (neg (neg (neg (neg (neg (neg (neg (neg (neg (neg (neg (neg (neg (neg (neg (neg (neg (neg (neg (neg (neg (neg (neg 7)))))))))))))))))))))))))))))))) 10)" ∷ []) ("(refused 3 4)" ∷ [])
    ∷ example "3-deep_32_wire" ("(module 0 bound)" ∷ "(kind 1 wire)" ∷ "(kind 2 reg)" ∷ "(wire 1 (neg (neg (neg (neg (neg (neg (neg (neg (neg (neg (neg (neg (neg (neg (neg (neg (neg (neg (neg (neg (neg (neg (neg (neg (neg (neg (neg (neg (neg (neg (neg 7))))))))))))))))))))))))))))))) 10)" ∷ []) []
    ∷ example "3-not_deep_32" ("(module 0 bound)" ∷ "(((((((((((((((((((((((((((((((())))))))))))))))))))))))))))))))" ∷ []) ("(refused 4 2)" ∷ [])
    ∷ []

set_rows : AllPrint set_table
unfolding computed_print
set_rows = printed set_table (refl, (refl, (refl, (refl, (refl, (refl, (refl, (refl, (refl, (refl, (refl, (refl, (refl, (refl, (refl, (refl, (refl, (refl, tt))))))))))))))))))

-- 01, Refused because of the text: 4 and 5.
abbrev written_table : List Example
written_table =
    example "4-two_spaces" ("(module 0 bound)" ∷ "(reg  1 5)" ∷ []) ("(refused 4 2)" ∷ [])
    ∷ example "4-space_before_the_bracket" ("(module 0 bound)" ∷ "(reg 1 5 )" ∷ []) ("(refused 4 2)" ∷ [])
    ∷ example "4-no_space_between_forms" ("(module 0 bound)" ∷ "(wire 1 (all (n 1)(n 2)) 5)" ∷ []) ("(refused 4 2)" ∷ [])
    ∷ example "4-empty_form" ("(module 0 bound)" ∷ "()" ∷ []) ("(refused 4 2)" ∷ [])
    ∷ example "4-leading_zero" ("(module 0 bound)" ∷ "(reg 01 5)" ∷ []) ("(refused 4 2)" ∷ [])
    ∷ example "4-minus_zero_in_int" ("(module 0 bound)" ∷ "(val 1 -0)" ∷ []) ("(refused 4 2)" ∷ [])
    ∷ example "4-minus_in_literal" ("(module 0 bound)" ∷ "(wire 1 -5 5)" ∷ []) ("(refused 4 2)" ∷ [])
    ∷ example "4-unknown_head" ("(module 0 bound)" ∷ "(foo 1 5)" ∷ []) ("(refused 4 2)" ∷ [])
    ∷ example "4-part_too_many" ("(module 0 bound)" ∷ "(reg 1 5 6)" ∷ []) ("(refused 4 2)" ∷ [])
    ∷ example "4-lv_with_three_indexes" ("(module 0 bound)" ∷ "(drive (lv 1 5 1 2 3) 0)" ∷ []) ("(refused 4 2)" ∷ [])
    ∷ example "4-when_else_first" ("(module 0 bound)" ∷ "(on 5 (when (else) (then)))" ∷ []) ("(refused 4 2)" ∷ [])
    ∷ example "4-repeat_with_a_kind_line" ("(module 0 bound)" ∷ "(repeat 9 0 2 (kind 1 in))" ∷ []) ("(refused 4 2)" ∷ [])
    ∷ example "5-name_256_0" ("(module 0 bound)" ∷ "(kind 256 in)" ∷ []) ("(refused 5 2)" ∷ [])
    ∷ example "5-start_2147483648_3" ("(module 0 bound)" ∷ "(reg 1 2147483648)" ∷ []) ("(refused 5 2)" ∷ [])
    ∷ example "5-mod_256" ("(module 0 bound)" ∷ "(inst 1 - 256 5)" ∷ []) ("(refused 5 2)" ∷ [])
    ∷ example "5-int_2147483648" ("(module 0 bound)" ∷ "(val 1 2147483648)" ∷ []) ("(refused 5 2)" ∷ [])
    ∷ example "5-int_minus_2147483648" ("(module 0 bound)" ∷ "(val 1 -2147483648)" ∷ []) []
    ∷ example "5-name_of_40_digits" ("(module 0 bound)" ∷ "(reg 1000000000000000000000000000000000000000 5)" ∷ []) ("(refused 5 2)" ∷ [])
    ∷ []

written_rows : AllPrint written_table
unfolding computed_print
written_rows = printed written_table (refl, (refl, (refl, (refl, (refl, (refl, (refl, (refl, (refl, (refl, (refl, (refl, (refl, (refl, (refl, (refl, (refl, (refl, tt))))))))))))))))))

-- 01, Refused because of the text: 6, 7 and the order.
abbrev place_table : List Example
place_table =
    example "6-kind_first" ("(kind 1 in)" ∷ []) ("(refused 6 1)" ∷ [])
    ∷ example "6-item_first" ("(reg 1 5)" ∷ "(module 0 bound)" ∷ []) ("(refused 6 1)" ∷ [])
    ∷ example "6-module_1_first" ("(module 1 bound)" ∷ []) ("(refused 6 1)" ∷ [])
    ∷ example "6-module_0_twice" ("(module 0 bound)" ∷ "(module 0 bound)" ∷ []) ("(refused 6 2)" ∷ [])
    ∷ example "6-module_of_20_digits" ("(module 18446744073709551616 bound)" ∷ []) ("(refused 6 1)" ∷ [])
    ∷ example "6-val_after_const" ("(module 0 bound)" ∷ "(const 1 5)" ∷ "(val 2 5)" ∷ []) ("(refused 6 3)" ∷ [])
    ∷ example "7-second_kind" ("(module 0 bound)" ∷ "(kind 1 in)" ∷ "(kind 1 out)" ∷ []) ("(refused 7 3)" ∷ [])
    ∷ example "7-same_kind_twice" ("(module 0 bound)" ∷ "(kind 1 in)" ∷ "(kind 1 in)" ∷ []) ("(refused 7 3)" ∷ [])
    ∷ example "7-not_in_another_module" ("(module 0 bound)" ∷ "(kind 1 in)" ∷ "(module 1 bound)" ∷ "(kind 1 out)" ∷ []) []
    ∷ example "7-modules_33" ("(module 0 unbound)" ∷ "(module 1 unbound)" ∷ "(module 2 unbound)" ∷ "(module 3 unbound)" ∷ "(module 4 unbound)" ∷ "(module 5 unbound)" ∷ "(module 6 unbound)" ∷ "(module 7 unbound)" ∷ "(module 8 unbound)" ∷ "(module 9 unbound)" ∷ "(module 10 unbound)" ∷ "(module 11 unbound)" ∷ "(module 12 unbound)" ∷ "(module 13 unbound)" ∷ "(module 14 unbound)" ∷ "(module 15 unbound)" ∷ "(module 16 unbound)" ∷ "(module 17 unbound)" ∷ "(module 18 unbound)" ∷ "(module 19 unbound)" ∷ "(module 20 unbound)" ∷ "(module 21 unbound)" ∷ "(module 22 unbound)" ∷ "(module 23 unbound)" ∷ "(module 24 unbound)" ∷ "(module 25 unbound)" ∷ "(module 26 unbound)" ∷ "(module 27 unbound)" ∷ "(module 28 unbound)" ∷ "(module 29 unbound)" ∷ "(module 30 unbound)" ∷ "(module 31 unbound)" ∷ "(module 32 unbound)" ∷ []) ("(refused 7 33)" ∷ [])
    ∷ example "both_3_and_4" ("(module 0 bound)" ∷ "(foo 1" ∷ []) ("(refused 3 2)" ∷ [])
    ∷ example "both_4_and_5" ("(module 0 bound)" ∷ "(reg 256 05)" ∷ []) ("(refused 4 2)" ∷ [])
    ∷ example "both_5_and_6" ("(module 0 bound)" ∷ "(reg 1 5)" ∷ "(kind 256 in)" ∷ []) ("(refused 5 3)" ∷ [])
    ∷ example "both_6_and_7" ("(module 0 bound)" ∷ "(kind 1 in)" ∷ "(reg 1 5)" ∷ "(kind 1 in)" ∷ []) ("(refused 6 4)" ∷ [])
    ∷ example "text_before_state" ("(module 0 bound)" ∷ "(const 1 (mul 65536 65536))" ∷ "(reg 1 05)" ∷ []) ("(refused 4 3)" ∷ [])
    ∷ []

place_rows : AllPrint place_table
unfolding computed_print
place_rows = printed place_table (refl, (refl, (refl, (refl, (refl, (refl, (refl, (refl, (refl, (refl, (refl, (refl, (refl, (refl, (refl, tt)))))))))))))))

-- 02, U1: shifts and bit operators in constant places. Of `shr_by_0` the original reports 2 at 20: docs/DIFFERENCES.md.
abbrev constant_table : List Example
constant_table =
    example "shl_as_width" ("(module 0 bound)" ∷ "(kind 1 out)" ∷ "(port out 1 (bits (shl 1 2)) 4)" ∷ "(drive (lv 1 5 2 0) 0)" ∷ []) ("(E0502 0 4 1 gap 3)" ∷ [])
    ∷ example "shl_in_lv" ("(module 0 bound)" ∷ "(kind 1 out)" ∷ "(port out 1 (bits 5) 4)" ∷ "(drive (lv 1 5 (shl 1 2) 0) 0)" ∷ []) []
    ∷ example "shl_in_bits_of_an_input" ("(module 0 bound)" ∷ "(port in 1 (bits (shl 1 12)) 5)" ∷ []) []
    ∷ example "shl_to_the_lowest" ("(module 0 bound)" ∷ "(constif (lt (shl (neg 1) 31) (neg 2147483647)) (then (reg 1 10)) (else (reg 2 20)))" ∷ []) ("(E0503 0 10 1 none)" ∷ [])
    ∷ example "shl_outside" ("(module 0 bound)" ∷ "(const 1 (shl 1 31))" ∷ []) ("(refused 20 0)" ∷ [])
    ∷ example "shl_below_outside" ("(module 0 bound)" ∷ "(const 1 (shl (neg 1) 32))" ∷ []) ("(refused 20 0)" ∷ [])
    ∷ example "shl_past_the_width_limit" ("(module 0 bound)" ∷ "(const 0 (shl 1 999999))" ∷ []) ("(refused 20 0)" ∷ [])
    ∷ example "shl_of_0_by_999998" ("(module 0 bound)" ∷ "(constif (not (shl 0 999998)) (then (reg 1 10)) (else (reg 2 20)))" ∷ []) ("(E0503 0 10 1 none)" ∷ [])
    ∷ example "shl_of_0_by_999999_has_none" ("(module 0 bound)" ∷ "(constif (not (shl 0 999999)) (then (reg 1 10)) (else (reg 2 20)))" ∷ []) ("(E0503 0 20 2 none)" ∷ [])
    ∷ example "shl_by_less_than_0_has_none" ("(module 0 bound)" ∷ "(constif (shl 1 (neg 1)) (then (reg 1 10)) (else (reg 2 20)))" ∷ []) ("(E0503 0 20 2 none)" ∷ [])
    ∷ example "shl_of_0_by_less_than_0_has_none" ("(module 0 bound)" ∷ "(constif (not (shl 0 (neg 1))) (then (reg 1 10)) (else (reg 2 20)))" ∷ []) ("(E0503 0 20 2 none)" ∷ [])
    ∷ example "shr_by_less_than_0_has_none" ("(module 0 bound)" ∷ "(constif (not (shr 0 (neg 1))) (then (reg 1 10)) (else (reg 2 20)))" ∷ []) ("(E0503 0 20 2 none)" ∷ [])
    ∷ example "shr_by_0" ("(module 0 bound)" ∷ "(constif (eq (shr 5 0) 5) (then (reg 1 10)) (else (reg 2 20)))" ∷ []) ("(E0503 0 10 1 none)" ∷ [])
    ∷ example "shr_past_its_bits" ("(module 0 bound)" ∷ "(constif (eq (shr (neg 2147483647) 40) (neg 1)) (then (reg 1 10)) (else (reg 2 20)))" ∷ []) ("(E0503 0 10 1 none)" ∷ [])
    ∷ example "operands_before_the_amount_is_rejected" ("(module 0 bound)" ∷ "(const 0 (shl (add 2147483647 1) (neg 1)))" ∷ []) ("(refused 20 0)" ∷ [])
    ∷ example "amount_outside" ("(module 0 bound)" ∷ "(const 0 (shr 0 (mul 65536 65536)))" ∷ []) ("(refused 20 0)" ∷ [])
    ∷ example "shl_in_a_branch_never_taken" ("(module 0 bound)" ∷ "(const 1 (if 1 2 (shl 1 31)))" ∷ []) []
    ∷ example "shl_in_f_over_two_ix" ("(module 0 bound)" ∷ "(wire 1 (f (ix (ix (n 2) (shl 1 2)) (shr 1 2)) 3) 5)" ∷ []) []
    ∷ example "no_8_before_line_3" ("(module 0 bound)" ∷ "(const 0 (shl 0 0))" ∷ "" ∷ []) ("(refused 3 3)" ∷ [])
    ∷ []

constant_rows : AllPrint constant_table
unfolding computed_print
constant_rows = printed constant_table (refl, (refl, (refl, (refl, (refl, (refl, (refl, (refl, (refl, (refl, (refl, (refl, (refl, (refl, (refl, (refl, (refl, (refl, (refl, tt)))))))))))))))))))

-- 01, Refused because of the state: a constant outside INT.
abbrev state_table : List Example
state_table =
    example "20-constant_add_to_the_top" ("(module 0 bound)" ∷ "(const 1 (add 2147483646 1))" ∷ []) []
    ∷ example "20-constant_add_past_the_top" ("(module 0 bound)" ∷ "(const 1 (add 2147483647 1))" ∷ []) ("(refused 20 0)" ∷ [])
    ∷ example "20-constant_sub_to_the_bottom" ("(module 0 bound)" ∷ "(const 1 (sub (neg 2147483647) 1))" ∷ []) []
    ∷ example "20-constant_sub_past_the_bottom" ("(module 0 bound)" ∷ "(const 1 (sub (neg 2147483647) 2))" ∷ []) ("(refused 20 0)" ∷ [])
    ∷ example "20-constant_mul_to_the_bottom" ("(module 0 bound)" ∷ "(const 1 (mul (neg 65536) 32768))" ∷ []) []
    ∷ example "20-constant_mul_past_the_bottom" ("(module 0 bound)" ∷ "(const 1 (mul (neg 46341) 46341))" ∷ []) ("(refused 20 0)" ∷ [])
    ∷ example "20-constant_neg_of_the_bottom" ("(module 0 bound)" ∷ "(const 1 (neg (sub (neg 2147483647) 1)))" ∷ []) ("(refused 20 0)" ∷ [])
    ∷ example "20-constant_part_of_a_product" ("(module 0 bound)" ∷ "(const 1 (mul 0 (mul 65536 65536)))" ∷ []) ("(refused 20 0)" ∷ [])
    ∷ example "20-constant_second_of_and" ("(module 0 bound)" ∷ "(const 1 (and 0 (mul 65536 65536)))" ∷ []) ("(refused 20 0)" ∷ [])
    ∷ example "20-constant_before_a_missing_operand" ("(module 0 bound)" ∷ "(const 1 (add (mul 65536 65536) (n 9)))" ∷ []) ("(refused 20 0)" ∷ [])
    ∷ example "20-in_lv_low_without_high" ("(module 0 bound)" ∷ "(kind 1 out)" ∷ "(drive (lv 1 5 (n 9) (mul 65536 65536)) 0)" ∷ []) ("(refused 20 0)" ∷ [])
    ∷ example "20-in_lv_of_a_poisoned_output" ("(module 0 bound)" ∷ "(kind 1 out)" ∷ "(on 4 (set 1 4))" ∷ "(drive (lv 1 5 (mul 65536 65536)) 0)" ∷ []) ("(refused 20 0)" ∷ [])
    ∷ example "20-in_high_bound_without_low" ("(module 0 bound)" ∷ "(repeat 1 (n 9) (mul 65536 65536))" ∷ []) ("(refused 20 0)" ∷ [])
    ∷ example "20-in_condition" ("(module 0 bound)" ∷ "(constif (mul 65536 65536) (then) (else))" ∷ []) ("(refused 20 0)" ∷ [])
    ∷ example "20-in_width" ("(module 0 bound)" ∷ "(kind 1 out)" ∷ "(port out 1 (bits (mul 65536 65536)) 5)" ∷ "(drive (lv 1 6 0) 0)" ∷ []) ("(refused 20 0)" ∷ [])
    ∷ example "20-in_x_of_a_missing_module" ("(module 0 bound)" ∷ "(inst 1 (mul 65536 65536) 9 5)" ∷ []) ("(refused 20 0)" ∷ [])
    ∷ example "20-in_f_index" ("(module 0 bound)" ∷ "(kind 9 inst)" ∷ "(wire 1 (f (ix (n 9) (mul 65536 65536)) 3) 5)" ∷ []) ("(refused 20 0)" ∷ [])
    ∷ example "20-in_f_index_in_a_driven_wire" ("(module 0 bound)" ∷ "(kind 1 wire)" ∷ "(kind 9 inst)" ∷ "(drive (lv 1 5) (f (ix (n 9) (mul 65536 65536)) 3))" ∷ []) ("(refused 20 0)" ∷ [])
    ∷ example "20-in_body_run_once" ("(module 0 bound)" ∷ "(repeat 1 0 (n 9) (constif (mul 65536 65536) (then) (else)))" ∷ []) ("(refused 20 0)" ∷ [])
    ∷ example "20-in_second_round" ("(module 0 bound)" ∷ "(repeat 1 0 2 (constif (mul (n 1) 2000000000) (then) (else)))" ∷ []) []
    ∷ example "20-in_third_round" ("(module 0 bound)" ∷ "(repeat 1 0 3 (constif (mul (n 1) 2000000000) (then) (else)))" ∷ []) ("(refused 20 0)" ∷ [])
    ∷ example "20-in_module_1" ("(module 0 bound)" ∷ "(module 1 bound)" ∷ "(const 1 (mul 65536 65536))" ∷ []) ("(refused 20 0)" ∷ [])
    ∷ example "20-in_f_index_of_a_connection" ("(module 0 bound)" ∷ "(kind 9 inst)" ∷ "(inst 9 - 1 5 (conn 2 (f (ix (n 9) (mul 65536 65536)) 3)))" ∷ "(module 1 bound)" ∷ "(kind 2 in)" ∷ "(kind 3 out)" ∷ "(port out 3 bit 1)" ∷ "(drive (lv 3 2) (n 2))" ∷ []) ("(refused 20 0)" ∷ [])
    ∷ []

state_rows : AllPrint state_table
unfolding computed_print
state_rows = printed state_table (refl, (refl, (refl, (refl, (refl, (refl, (refl, (refl, (refl, (refl, (refl, (refl, (refl, (refl, (refl, (refl, (refl, (refl, (refl, (refl, (refl, (refl, (refl, tt)))))))))))))))))))))))
