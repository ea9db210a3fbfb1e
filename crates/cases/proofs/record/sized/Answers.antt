use Rattle.cases.proofs.Laws.{sized_short, sized_no_text, sized_no_answer, sized_in}
use Rattle.cases.proofs.record.sized.Goals as goal

pub returns-then-s-body : goal.returns-then-s-body
returns-then-s-body c = sized_short c.args.s.now c.args.name c.args.body c.args.text c.args.answer c.if-s-body.true

pub returns-then-left-text : goal.returns-then-left-text
returns-then-left-text c = sized_no_text c.args.s.now c.args.name c.args.body c.args.text c.args.answer c.if-s-body.false c.if-left-text.true

pub returns-then-left-text-2 : goal.returns-then-left-text-2
returns-then-left-text-2 c = sized_no_answer c.args.s.now c.args.name c.args.body c.args.text c.args.answer c.if-s-body.false c.if-left-text.false c.if-left-text-2.true

pub returns : goal.returns
returns c = sized_in c.args.s.now c.args.name c.args.body c.args.text c.args.answer c.if-s-body.false c.if-left-text.false c.if-left-text-2.false
