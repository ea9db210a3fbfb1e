use Rattle.std.specs.Prelude.{Option}
use Rattle.lines.proofs.Tabled.{key_here, key_not}
use Rattle.lines.proofs.Laws.{inside}
use Rattle.lines.specs.Read.{number_after}
use Rattle.lines.specs.Tables.{second_behind}
use Rattle.lines.specs.declared.parse.Word.{Word}
use Rattle.lines.specs.declared.parse.Number.{Number}
use mathlib.Core.Path.{ap, ◌∙◌}
use native.Mathlib.Omega.{arith}
use Rattle.lines.proofs.Laws.{byte_is, byte_not}
use Rattle.lines.proofs.tables.second_key.Goals as goal

pub returns-then-not-is_open : goal.returns-then-not-is_open
returns-then-not-is_open c = key_not c.args.s.now c.args.at (byte_not _ _ _ 40 c.is_open.ensures c.byte.ensures c.if-not-is_open.true)

pub overflow_add-at : goal.overflow_add-at
overflow_add-at c = let h = inside c.args.s.now c.args.at (λ e. omega (arith, byte_is _ _ _ 40 c.is_open.ensures c.byte.ensures c.if-not-is_open.false)) in omega arith

pub returns : goal.returns
returns c = c.second_behind.ensures ∙ ap (λ (x : Option Number). second_behind x c.args.s.now) (c.number_after.ensures ∙ ap (λ (w : Word). number_after c.args.s.now w.next) c.word_at.ensures) ∙ key_here c.args.s.now c.args.at (byte_is _ _ _ 40 c.is_open.ensures c.byte.ensures c.if-not-is_open.false)
