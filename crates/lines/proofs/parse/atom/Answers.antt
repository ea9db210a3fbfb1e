use Rattle.std.specs.Prelude.{Option, is_some}
use Rattle.lines.proofs.Laws.{inside, no_atom, place_single, place_at}
use Rattle.spec.specs.Bytes.{bytes}
use Rattle.spec.specs.Syntax.{name_bound}
use Rattle.lines.specs.Parse.{key, code_after, numbered, counted, kind_of, either, worded}
use Rattle.lines.specs.declared.parse.Number.{Number}
use Rattle.lines.specs.declared.parse.Word.{Word}
use mathlib.Core.Path.{ap, ap₂, ◌∙◌}
use native.Mathlib.Omega.{arith}
use Rattle.lines.proofs.Laws.{byte_is, byte_not}
use Rattle.lines.proofs.parse.atom.Goals as goal

pub overflow_add-at : goal.overflow_add-at
overflow_add-at c = let h = inside c.args.s.now c.args.at (λ e. omega (arith, byte_is _ _ _ 45 c.is_minus.ensures c.byte.ensures c.if-is_minus.true)) in omega arith

pub returns-in-Name : goal.returns-in-Name
returns-in-Name c = rw c.in-Name.is (c.numbered.ensures ∙ ap (λ (n : Option Number). numbered n name_bound) c.number_at.ensures)

pub returns-in-Start : goal.returns-in-Start
returns-in-Start c = rw c.in-Start.is (c.numbered-in-Start.ensures ∙ ap (λ (n : Option Number). numbered n 2147483648) c.number_at-in-Start.ensures)

pub returns-in-Mod : goal.returns-in-Mod
returns-in-Mod c = rw c.in-Mod.is (c.numbered-in-Mod.ensures ∙ ap (λ (n : Option Number). numbered n name_bound) c.number_at-in-Mod.ensures)

pub returns-in-Count : goal.returns-in-Count
returns-in-Count c = rw c.in-Count.is (c.counted.ensures ∙ ap counted c.number_at-in-Count.ensures)

pub returns-in-Int : goal.returns-in-Int
returns-in-Int c = rw c.in-Int.is c.int.ensures

pub returns-in-Kind : goal.returns-in-Kind
returns-in-Kind c = rw c.in-Kind.is (c.worded.ensures ∙ ap₂ worded (c.is_some.ensures ∙ ap is_some (c.kind_of.ensures ∙ ap (λ (w : Word). kind_of w.key) c.word_at-w.ensures)) (ap (λ (w : Word). w.next) c.word_at-w.ensures))

pub returns-in-Dir : goal.returns-in-Dir
unfolding key code_after
returns-in-Dir c = rw c.in-Dir.is (c.worded-in-Dir.ensures ∙ ap₂ worded (c.either.ensures ∙ ap (λ (w : Word). either w.key (key (bytes "in")) (key (bytes "out"))) c.word_at-w-in-Dir.ensures) (ap (λ (w : Word). w.next) c.word_at-w-in-Dir.ensures))

pub returns-in-Bound : goal.returns-in-Bound
unfolding key code_after
returns-in-Bound c = rw c.in-Bound.is (c.worded-in-Bound.ensures ∙ ap₂ worded (c.either-in-Bound.ensures ∙ ap (λ (w : Word). either w.key (key (bytes "bound")) (key (bytes "unbound"))) c.word_at-w-in-Bound.ensures) (ap (λ (w : Word). w.next) c.word_at-w-in-Bound.ensures))

pub returns-in-E : goal.returns-in-E
returns-in-E c = rw c.in-E.is c.literal.ensures

pub returns-then-is_minus : goal.returns-then-is_minus
returns-then-is_minus c = rw c.in-X.is (c.worded-then-is_minus.ensures ∙ place_single c.args.s.now c.args.at (byte_is _ _ _ 45 c.is_minus.ensures c.byte.ensures c.if-is_minus.true))

pub returns-else-is_minus : goal.returns-else-is_minus
returns-else-is_minus c = rw c.in-X.is (c.literal-else-is_minus.ensures ∙ place_at c.args.s.now c.args.at (byte_not _ _ _ 45 c.is_minus.ensures c.byte.ensures c.if-is_minus.false))

pub returns-in-T : goal.returns-in-T
unfolding key code_after
returns-in-T c = rw c.in-T.is (c.worded-in-T.ensures ∙ ap₂ worded (c.either-in-T.ensures ∙ ap (λ (w : Word). either w.key (key (bytes "bit")) (key (bytes "opaque"))) c.word_at-w-in-T.ensures) (ap (λ (w : Word). w.next) c.word_at-w-in-T.ensures))

pub returns-in_default : goal.returns-in_default
returns-in_default c = no_atom _ c.args.s.now c.args.at c.in_default.not-Name c.in_default.not-Start c.in_default.not-Mod c.in_default.not-Count c.in_default.not-Int c.in_default.not-Kind c.in_default.not-Dir c.in_default.not-Bound c.in_default.not-E c.in_default.not-X c.in_default.not-T
