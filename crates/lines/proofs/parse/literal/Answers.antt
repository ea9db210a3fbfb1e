use Rattle.std.specs.Prelude.{Option}
use Rattle.lines.proofs.Laws.{literal_number, literal_word}
use Rattle.spec.specs.Bytes.{bytes}
use Rattle.lines.specs.Bytes.{class_of, is_digit}
use Rattle.lines.specs.Parse.{key, code_after, numbered, either, worded}
use Rattle.lines.specs.declared.parse.Number.{Number}
use Rattle.lines.specs.declared.parse.Word.{Word}
use Prim.Native.Nat.{ℕ}
use mathlib.Core.Path.{sym, ap, ap₂, ◌∙◌}
use Rattle.lines.proofs.parse.literal.Goals as goal

pub returns-then-is_digit : goal.returns-then-is_digit
returns-then-is_digit c = c.numbered.ensures ∙ ap (λ (n : Option Number). numbered n 2147483648) c.number_at.ensures ∙ literal_number c.args.s.now c.args.at (ap (λ (x : ℕ). is_digit (class_of x)) (sym c.byte.ensures) ∙ sym c.is_digit.ensures ∙ c.if-is_digit.true)

pub returns : goal.returns
unfolding key code_after
returns c = c.worded.ensures ∙ ap₂ worded (c.either.ensures ∙ ap (λ (w : Word). either w.key (key (bytes "true")) (key (bytes "false"))) c.word_at-w.ensures) (ap (λ (w : Word). w.next) c.word_at-w.ensures) ∙ literal_word c.args.s.now c.args.at (ap (λ (x : ℕ). is_digit (class_of x)) (sym c.byte.ensures) ∙ sym c.is_digit.ensures ∙ c.if-is_digit.false)
