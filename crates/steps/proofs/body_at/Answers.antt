use Rattle.steps.proofs.StepLaws.{body_found}
use Rattle.steps.proofs.body_at.Goals as goal

pub returns : goal.returns
returns c = body_found c.args.x.now c.next_end-h.ensures c.next_end-a.ensures c.next_end-b.ensures c.next_end.ensures
