use mathlib.Core.Path.{◌≡◌, sym, ap, ◌∙◌}
use mathlib.Core.Bool.{true}
use mathlib.Core.List.{[], ◌∷◌}
use Prim.Native.Nat.{ℕ, ◌+◌, ◌-◌}
use native.Mathlib.Omega.{arith}
use lib.ListN.{length}
use Rattle.lines.specs.Parse.{parts_at, scan}
use Rattle.lines.proofs.Laws.{inside, form_start, byte_is, byte_not, class_is, not_close, not_space, scan_atom, scan_deep, parts_none, parts_close, parts_early, parts_junk, parts_bad, parts_more}
use Rattle.lines.specs.declared.bytes.Class.TheVariants.{Close, Space}
use Rattle.lines.proofs.parse.+part.Goals as goal

pub byte-requires : goal.byte-requires
byte-requires t c = tt

pub is_open-requires : goal.is_open-requires
is_open-requires t c = tt

pub atom-requires : goal.atom-requires
atom-requires t c = tt

pub returns-then-not-is_open : goal.returns-then-not-is_open
returns-then-not-is_open t c = c.atom.ensures ∙ scan_atom c.args.depth c.args.cat c.args.s.now c.args.at (byte_not _ _ _ 40 c.is_open.ensures c.byte.ensures c.if-not-is_open.true)

pub returns-then-depth-eq0 : goal.returns-then-depth-eq0
returns-then-depth-eq0 t c = scan_deep c.args.depth c.args.cat c.args.s.now c.args.at (byte_is _ _ _ 40 c.is_open.ensures c.byte.ensures c.if-not-is_open.false) c.if-depth-eq0.true

pub overflow_add-at : goal.overflow_add-at
overflow_add-at t c = let h = inside c.args.s.now c.args.at (λ e. omega (arith, byte_is _ _ _ 40 c.is_open.ensures c.byte.ensures c.if-not-is_open.false)) in omega arith

pub word_at-w-requires : goal.word_at-w-requires
word_at-w-requires t c = tt

pub shape_of-q-requires : goal.shape_of-q-requires
shape_of-q-requires t c = tt

pub loop-init : goal.loop-init
loop-init t c =
    let z : length c.args.s.now ≡ length c.args.s.now - 0 = omega arith in
    ap (λ (n : ℕ). parts_at (λ k j. scan (c.args.depth - 1) k c.args.s.now j) n c.args.s.now c.shape_of-q.result c.word_at-w.result.next true) z

pub byte-requires-in-loop : goal.byte-requires-in-loop
byte-requires-in-loop t c = tt

pub class_of-requires : goal.class_of-requires
class_of-requires t c = tt

pub overflow_add-result : goal.overflow_add-result
overflow_add-result t c = let h = inside c.args.s.now c.loop.i (λ e. omega (arith, c.byte-in-loop.ensures, class_is _ _ Close c.class_of.ensures c.in-Close.is)) in omega arith

pub returns-then-q-eq0 : goal.returns-then-q-eq0
returns-then-q-eq0 t c = parts_close (λ k j. scan (c.args.depth - 1) k c.args.s.now j) c.args.s.now c.loop.q c.loop.i c.loop.range (length c.args.s.now - c.loop.counter) (omega arith) (sym c.byte-in-loop.ensures ∙ class_is _ _ Close c.class_of.ensures c.in-Close.is) c.if-q-eq0.true ∙ (sym c.loop.invariant ∙ form_start c.args.depth c.args.cat c.args.s.now c.args.at c.word_at-w.result c.shape_of-q.result (byte_is _ _ _ 40 c.is_open.ensures c.byte.ensures c.if-not-is_open.false) c.if-depth-eq0.false c.word_at-w.ensures c.shape_of-q.ensures)

pub returns-in-Close : goal.returns-in-Close
returns-in-Close t c = parts_early (λ k j. scan (c.args.depth - 1) k c.args.s.now j) c.args.s.now c.loop.q c.loop.i c.loop.range (length c.args.s.now - c.loop.counter) (omega arith) (sym c.byte-in-loop.ensures ∙ class_is _ _ Close c.class_of.ensures c.in-Close.is) c.if-q-eq0.false ∙ (sym c.loop.invariant ∙ form_start c.args.depth c.args.cat c.args.s.now c.args.at c.word_at-w.result c.shape_of-q.result (byte_is _ _ _ 40 c.is_open.ensures c.byte.ensures c.if-not-is_open.false) c.if-depth-eq0.false c.word_at-w.ensures c.shape_of-q.ensures)

pub overflow_add-i : goal.overflow_add-i
overflow_add-i t c = let h = inside c.args.s.now c.loop.i (λ e. omega (arith, c.byte-in-loop.ensures, class_is _ _ Space c.class_of.ensures c.in-Space.is)) in omega arith

pub overflow_sub-depth : goal.overflow_sub-depth
overflow_sub-depth t c = omega arith

pub part-requires : goal.part-requires
part-requires t c = (omega arith, tt)

pub returns-in_err-p-in-Space : goal.returns-in_err-p-in-Space
returns-in_err-p-in-Space t c = c.from_residual.ensures ∙ parts_bad (λ k j. scan (c.args.depth - 1) k c.args.s.now j) c.args.s.now c.loop.q c.loop.i c.loop.range (length c.args.s.now - c.loop.counter) (omega arith) (λ e. omega (arith, e, c.byte-in-loop.ensures, class_is _ _ Space c.class_of.ensures c.in-Space.is)) (sym c.byte-in-loop.ensures ∙ class_is _ _ Space c.class_of.ensures c.in-Space.is) (sym c.part.ensures ∙ c.in_err-p-in-Space.was) ∙ (sym c.loop.invariant ∙ form_start c.args.depth c.args.cat c.args.s.now c.args.at c.word_at-w.result c.shape_of-q.result (byte_is _ _ _ 40 c.is_open.ensures c.byte.ensures c.if-not-is_open.false) c.if-depth-eq0.false c.word_at-w.ensures c.shape_of-q.ensures)

pub shift-q-requires : goal.shift-q-requires
shift-q-requires t c = tt

pub loop-preserved : goal.loop-preserved
loop-preserved t c = c.loop.invariant ∙ parts_more (λ k j. scan (c.args.depth - 1) k c.args.s.now j) c.args.s.now c.loop.q c.loop.i c.loop.range (length c.args.s.now - c.loop.counter) (length c.args.s.now - (c.loop.counter + 1)) (omega arith) (λ e. omega (arith, e, c.byte-in-loop.ensures, class_is _ _ Space c.class_of.ensures c.in-Space.is)) (sym c.byte-in-loop.ensures ∙ class_is _ _ Space c.class_of.ensures c.in-Space.is) c.in_ok-p-in-Space.p.next _ (sym c.part.ensures ∙ c.in_ok-p-in-Space.was) ∙ rw c.shift-q.ensures

pub returns-in_default : goal.returns-in_default
returns-in_default t c = parts_junk (λ k j. scan (c.args.depth - 1) k c.args.s.now j) c.args.s.now c.loop.q c.loop.i c.loop.range (length c.args.s.now - c.loop.counter) (omega arith) (λ e. not_close (1 ∷ 3 ∷ 4 ∷ 5 ∷ 6 ∷ 7 ∷ 8 ∷ []) _ _ c.class_of.ensures c.in_default.in_default-own.keys3 tt (c.byte-in-loop.ensures ∙ e)) (λ e. not_space (1 ∷ 3 ∷ 4 ∷ 5 ∷ 6 ∷ 7 ∷ 8 ∷ []) _ _ c.class_of.ensures c.in_default.in_default-own.keys3 tt (c.byte-in-loop.ensures ∙ e)) ∙ (sym c.loop.invariant ∙ form_start c.args.depth c.args.cat c.args.s.now c.args.at c.word_at-w.result c.shape_of-q.result (byte_is _ _ _ 40 c.is_open.ensures c.byte.ensures c.if-not-is_open.false) c.if-depth-eq0.false c.word_at-w.ensures c.shape_of-q.ensures)

pub returns : goal.returns
returns t c = parts_none (λ k j. scan (c.args.depth - 1) k c.args.s.now j) c.args.s.now c.loop.q c.loop.i c.loop.range (length c.args.s.now - c.loop.counter) (omega arith) ∙ (sym c.loop.invariant ∙ form_start c.args.depth c.args.cat c.args.s.now c.args.at c.word_at-w.result c.shape_of-q.result (byte_is _ _ _ 40 c.is_open.ensures c.byte.ensures c.if-not-is_open.false) c.if-depth-eq0.false c.word_at-w.ensures c.shape_of-q.ensures)
