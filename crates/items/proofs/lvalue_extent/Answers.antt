use mathlib.Core.Path.{◌≡◌, sym, ◌∙◌}
use native.Mathlib.Omega.{arith}
use Rattle.std.proofs.Common.{rules, Err}
use Rattle.consteval.specs.Worth.{names_of}
use Rattle.lines.proofs.PartLaws.{follows_in}
use Rattle.items.specs.Lines.{Extended}
use Rattle.items.proofs.DriveLaws.{extent_whole, extent_out, extent_bit, extent_second_out, extent_range}
use Rattle.items.proofs.lvalue_extent.Goals as goal

pub returns-then-not-more : goal.returns-then-not-more
returns-then-not-more c =
    let r = extent_whole c.args.lv.now c.args.end c.args.bound c.args.depth (names_of c.args.names.now c.args.used) (sym c.more.ensures ∙ c.if-not-more.true) in record { extent_is = r.0; result_value = r.1 }

pub overflow_add-end : goal.overflow_add-end
overflow_add-end c = omega (arith, follows_in c.args.lv.now c.args.end (sym c.more.ensures ∙ c.if-not-more.false))

pub returns-in_err-h : goal.returns-in_err-h
returns-in_err-h c =
    let e : ◌≡◌ {A = Extended} c.from_residual.result (Err (record {})) = search rules in
    let r = extent_out c.args.lv.now c.args.end c.args.bound c.args.depth (names_of c.args.names.now c.args.used) (sym c.more.ensures ∙ c.if-not-more.false) c.part_end-a.ensures c.constant_at.result c.constant_at.ensures c.in_err-h.was e in record { extent_is = r.0; result_value = r.1 }

pub returns-then-not-more-2 : goal.returns-then-not-more-2
returns-then-not-more-2 c =
    let r = extent_bit c.args.lv.now c.args.end c.args.bound c.args.depth (names_of c.args.names.now c.args.used) (sym c.more.ensures ∙ c.if-not-more.false) c.part_end-a.ensures c.constant_at.result c.constant_at.ensures c.in_ok-h.was (sym c.more-2.ensures ∙ c.if-not-more-2.true) c.bit_extent-e.result c.bit_extent-e.ensures in record { extent_is = r.0; result_value = r.1 }

pub overflow_add-a : goal.overflow_add-a
overflow_add-a c = omega (arith, follows_in c.args.lv.now c.part_end-a.result (sym c.more-2.ensures ∙ c.if-not-more-2.false))

pub returns-in_err-l : goal.returns-in_err-l
returns-in_err-l c =
    let e : ◌≡◌ {A = Extended} c.from_residual-in_err-l.result (Err (record {})) = search rules in
    let r = extent_second_out c.args.lv.now c.args.end c.args.bound c.args.depth (names_of c.args.names.now c.args.used) (sym c.more.ensures ∙ c.if-not-more.false) c.part_end-a.ensures c.constant_at.result c.constant_at.ensures c.in_ok-h.was (sym c.more-2.ensures ∙ c.if-not-more-2.false) c.part_end-b.ensures c.constant_at-2.result c.constant_at-2.ensures c.in_err-l.was e in record { extent_is = r.0; result_value = r.1 }

pub returns : goal.returns
returns c =
    let r = extent_range c.args.lv.now c.args.end c.args.bound c.args.depth (names_of c.args.names.now c.args.used) (sym c.more.ensures ∙ c.if-not-more.false) c.part_end-a.ensures c.constant_at.result c.constant_at.ensures c.in_ok-h.was (sym c.more-2.ensures ∙ c.if-not-more-2.false) c.part_end-b.ensures c.constant_at-2.result c.constant_at-2.ensures c.in_ok-l.was c.range_extent-e.result c.range_extent-e.ensures in record { extent_is = r.0; result_value = r.1 }
