use Rattle.report.proofs.Laws.{word_ran}
use Rattle.report.proofs.write_word.Goals as goal

pub returns : goal.returns
returns c = word_ran c.args.buf.now c.args.word.now c.args.at c.requires c.copy_from_slice.ensures.after
