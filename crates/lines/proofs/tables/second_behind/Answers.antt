use Rattle.lines.proofs.Tabled.{second_here, second_not}
use Rattle.lines.proofs.Laws.{inside}
use Rattle.lines.specs.declared.parse.Word.{Word}
use mathlib.Core.Path.{sym, ap, ◌∙◌}
use native.Mathlib.Omega.{arith}
use Rattle.lines.proofs.Laws.{byte_is, byte_not}
use Rattle.lines.proofs.tables.second_behind.Goals as goal

pub returns-then-not-is_space : goal.returns-then-not-is_space
returns-then-not-is_space c = rw c.in-Some.is (sym (second_not c.args.s.now 0 _ (byte_not _ _ _ 32 c.is_space.ensures c.byte.ensures c.if-not-is_space.true)))

pub overflow_add-n : goal.overflow_add-n
overflow_add-n c = let h = inside c.args.s.now c.in-Some.n.next (λ e. omega (arith, byte_is _ _ _ 32 c.is_space.ensures c.byte.ensures c.if-not-is_space.false)) in omega arith

pub returns : goal.returns
returns c = rw c.in-Some.is (ap (λ (w : Word). w.key) c.word_at.ensures ∙ sym (second_here c.args.s.now 0 _ (byte_is _ _ _ 32 c.is_space.ensures c.byte.ensures c.if-not-is_space.false)))
