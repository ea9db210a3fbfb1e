use Rattle.lines.proofs.ReadLaws.{set_feed, feeds_feed, feeds_plain, set_refused, set_plain, ends_byte, line_out, line_none, line_open, none_fault, none_feeds, empty_ends}
use Rattle.lines.proofs.Laws.{class_is, not_feed, not_low, not_high}
use Rattle.lines.specs.declared.bytes.Class.TheVariants.{Feed, Refused}
use mathlib.Core.Path.{refl, sym, ap, ◌∙◌}
use mathlib.Core.List.{[], ◌∷◌}
use Rattle.std.proofs.lemmas.Grind.{get_or_default_zero}
use borrow.Author.Tests.{ltb-true, ltb-false}
use lib.Dec.{eqb}
use lib.ListN.{length}
use Prim.Native.Nat.{ℕ, ◌-◌}
use native.Mathlib.Omega.{arith}
use Rattle.lines.proofs.read.set_line.Goals as goal
use Rattle.lines.proofs.read.set_line.Goals.{in-Feed, in_default}

pub loop-b-init : goal.loop-b-init
loop-b-init c = (omega arith, refl, omega arith)

pub overflow_add-n : goal.overflow_add-n
overflow_add-n c = omega arith

pub returns-in-Refused : goal.returns-in-Refused
returns-in-Refused c = line_out c.args.s.now c.loop-b.n (c.loop-b.invariant.1 ∙ set_refused c.args.s.now c.loop-b.b-index c.loop-b.n c.loop-b-test.true (class_is _ _ Refused c.class_of.ensures c.in-Refused.is))

pub loop-b-preserved : goal.loop-b-preserved
loop-b-preserved c = elim c.match-class_of.branch [
  | in-Feed w ↦
      let is = class_is _ _ Feed c.class_of.ensures w.in-Feed.is in
      let f = feeds_feed c.args.s.now c.loop-b.b-index c.loop-b.n c.loop-b-test.true is in
      rw w.n-is (omega arith, c.loop-b.invariant.1 ∙ set_feed c.args.s.now c.loop-b.b-index c.loop-b.n c.loop-b-test.true is, omega (arith, c.loop-b.invariant.2))
  | in_default w ↦
      let no = not_feed (0 ∷ 1 ∷ 2 ∷ 3 ∷ 4 ∷ 5 ∷ 8 ∷ []) _ _ c.class_of.ensures w.in_default.in_default-own.keys3 tt in
      let f = feeds_plain c.args.s.now c.loop-b.b-index c.loop-b.n c.loop-b-test.true no in
      rw w.n-is (omega arith, c.loop-b.invariant.1 ∙ set_plain c.args.s.now c.loop-b.b-index c.loop-b.n c.loop-b-test.true no (not_low (0 ∷ 1 ∷ 2 ∷ 3 ∷ 4 ∷ 5 ∷ 8 ∷ []) _ _ c.class_of.ensures w.in_default.in_default-own.keys3 tt tt) (not_high (0 ∷ 1 ∷ 2 ∷ 3 ∷ 4 ∷ 5 ∷ 8 ∷ []) _ _ c.class_of.ensures w.in_default.in_default-own.keys3 tt), omega (arith, c.loop-b.invariant.2))
]

pub returns-in-None : goal.returns-in-None
returns-in-None c = line_none c.args.s.now (c.loop-b.invariant.1 ∙ none_fault c.loop-b.n c.args.s.now c.loop-b.b-index c.loop-b-test.false) (empty_ends c.args.s.now (omega (arith, ltb-false 0 (length c.args.s.now) (sym c.in-None.ensures.item.0))))

pub returns-in-Some : goal.returns-in-Some
returns-in-Some c =
    let some = ltb-true 0 (length c.args.s.now) (sym c.in-Some.ensures.item.0) in
    let last = c.in-Some.ensures.item.1 ∙ get_or_default_zero c.args.s.now (length c.args.s.now - 1) c.in-Some.field-0.now (omega (arith, some)) in
    line_none c.args.s.now (c.loop-b.invariant.1 ∙ none_fault c.loop-b.n c.args.s.now c.loop-b.b-index c.loop-b-test.false)
    (ends_byte c.args.s.now (length c.args.s.now) refl (λ z. omega (arith, z, some)) ∙ ap (λ (m : ℕ). eqb m 10) (sym last) ∙ sym c.is_feed.ensures ∙ c.if-is_feed.true)

pub returns-in-Some-2 : goal.returns-in-Some-2
returns-in-Some-2 c =
    let some = ltb-true 0 (length c.args.s.now) (sym c.in-Some.ensures.item.0) in
    let last = c.in-Some.ensures.item.1 ∙ get_or_default_zero c.args.s.now (length c.args.s.now - 1) c.in-Some.field-0.now (omega (arith, some)) in
    line_open c.args.s.now c.loop-b.n (c.loop-b.invariant.1 ∙ none_fault c.loop-b.n c.args.s.now c.loop-b.b-index c.loop-b-test.false)
    (ends_byte c.args.s.now (length c.args.s.now) refl (λ z. omega (arith, z, some)) ∙ ap (λ (m : ℕ). eqb m 10) (sym last) ∙ sym c.is_feed.ensures ∙ c.if-is_feed.false)
    (omega (arith, c.loop-b.invariant.2, none_feeds c.args.s.now c.loop-b.b-index c.loop-b-test.false)) (λ z. omega (arith, z, some))
